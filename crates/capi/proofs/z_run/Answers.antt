use mathlib.Core.Path.{ap, ◌∙◌}
use Rattle.capi_codes.specs.Code.{run_code}
use Rattle.capi.proofs.z_run.Goals as goal

pub returns : goal.returns
returns c =
    let e = c.run.ensures in
    record { finding = c.run_code.ensures ∙ ap run_code e.finding; cleared = e.cleared }
