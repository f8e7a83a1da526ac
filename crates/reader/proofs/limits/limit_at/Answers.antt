use Rattle.reader.proofs.CountLaws.{deep_eq, ancestors_short, crowded_eq, below_on}
use mathlib.Core.Path.{sym, ◌∙◌}
use Rattle.reader.proofs.limits.limit_at.Goals as goal

pub returns : goal.returns
returns c =
    let d = c.args.doc.now in
    let k = c.args.k in
    let u = c.args.below.now in
    let b = c.requires.3.below in
    let a = ancestors_short d k (sym c.has_above.ensures ∙ c.if-has_above.false) in
    let y = c.crowd.ensures in
    (rw (deep_eq d k, ← c.has_above.ensures, c.if-has_above.false, ← c.is_nested.ensures, c.if-is_nested.false, ← c.widen.ensures.0, c.if-widen.false, ← (crowded_eq d _ c.requires.0 k c.requires.1 u b), ← a) y.0, λ z. record { below = rw (y.1 z, a) (below_on d _ c.requires.0 k c.requires.1 u b); declared = c.widen.ensures.1 c.if-widen.false })
