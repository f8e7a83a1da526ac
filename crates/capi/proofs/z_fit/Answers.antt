use mathlib.Core.Path.{ap, ◌∙◌}
use Rattle.capi_codes.specs.Code.{code_of}
use Rattle.capi.proofs.z_fit.Goals as goal

pub returns : goal.returns
returns c =
    let e = c.fit.ensures in
    record { finding = c.code_of.ensures ∙ ap code_of e.finding; recorded = e.recorded; cleared = e.cleared }
