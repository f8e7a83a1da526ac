-- Equations without a solution have different formers side by side or not, and `classify` says which.
use mathlib.Core.Logic.{◌↔◌, inl, inr}
use mathlib.Core.Path.{◌≡◌, refl, subst}
use Rattle.types_rules.proofs.Classify.{classify_right}
use Rattle.types_rules.specs.Classify.{Right, Solvable, Verdict, clashing, classify, endless, solvable}
use Rattle.types_rules.specs.Equations.{Pairs}
use Rattle.types_rules.specs.Split.{Inside, Means, OneOf, SideBySide}
use Rattle.types_rules.specs.Types.{Term}

says : (P : Pairs Term) (v : Verdict) → Right P v → Means v P
says P solvable r = r.0
says P clashing r = r.0
says P endless r = r

only : (P : Pairs Term) (v w : Verdict) → Right P v → Means w P → v ≡ w
only P solvable solvable r h = refl
only P solvable clashing r h = absurd (r.1 h)
only P solvable endless r h = absurd (h.1 r.0)
only P clashing solvable r h = absurd (r.1 h)
only P clashing clashing r h = refl
only P clashing endless r h = absurd (h.0 r.0)
only P endless solvable r h = absurd (r.1 h)
only P endless clashing r h = absurd (r.0 h)
only P endless endless r h = refl

-- `classify` answers exactly so: solvable, 33 and 39, each where the equations say it.
pub classify_means : (P : Pairs Term) (v : Verdict) → (classify P ≡ v) ↔ Means v P
classify_means P v = (λ e. says P v (subst (Right P) e (classify_right P)), λ h. only P (classify P) v (classify_right P) h)

-- Where there is no solution, exactly one of the two holds.
pub split : (P : Pairs Term) → (Solvable P → ⊥) → OneOf (SideBySide P) (Inside P)
split P none = go (classify P) (classify_right P)
  where
    go : (v : Verdict) → Right P v → OneOf (SideBySide P) (Inside P)
    go solvable r = absurd (none r.0)
    go clashing r = inl (r.0, λ h. h.0 r.0)
    go endless r = inr (r.0, r)
