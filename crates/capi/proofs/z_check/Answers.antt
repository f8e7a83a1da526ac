use mathlib.Core.Path.{ap, ◌∙◌}
use Rattle.capi_codes.specs.Code.{code_of}
use Rattle.capi.proofs.z_check.Goals as goal

pub returns : goal.returns
returns c =
    let e = c.check.ensures in
    record { finding = c.code_of.ensures ∙ ap code_of e.finding; recorded = e.recorded; cleared = e.cleared }
