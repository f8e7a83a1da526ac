-- Equations without a solution, split (document 02, ask 10): two different formers stand side by side (33), or none do and a type would contain itself (39).
-- `Follows` and `Clash` of specs/Follows say when formers stand side by side, by the equations alone: no unifier and no order of solving.
use Rattle.std.specs.Prelude.{◌⊎◌}
use Rattle.types_rules.specs.Classify.{Solvable, Verdict, clashing, endless, solvable, view_term}
use Rattle.types_rules.specs.Equations.{Pairs}
use Rattle.types_rules.specs.Follows.{Clash}
use Rattle.types_rules.specs.Types.{Term}

-- 33: some two terms that follow to be equal have different formers. Givens, parameters and identifiers are part of a former; lengths are compared beside it.
abbrev pub SideBySide : Pairs Term → Type 0
SideBySide P = Clash view_term P

-- 39: none have, and still no finite types fit.
abbrev pub Inside : Pairs Term → Type 0
Inside P = (SideBySide P → ⊥) × (Solvable P → ⊥)

-- What is so where the verdict is v, and not so where it is another.
abbrev pub Means : Verdict → Pairs Term → Type 0
Means solvable P = Solvable P
Means clashing P = SideBySide P
Means endless P = Inside P

-- One of the two and not both.
abbrev pub OneOf : Type 0 → Type 0 → Type 0
OneOf A B = (A × (B → ⊥)) ⊎ ((A → ⊥) × B)
