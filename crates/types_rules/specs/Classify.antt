-- Solving over possibly infinite types, by classes of terms: tells a clash from a type inside itself (document 02, ask 10).
use Rattle.std.specs.Prelude.{suc, zero, ℕ, eqb, length, Bool, false, true, List, [], ◌∷◌}
use Rattle.std.proofs.Math.Option.{Option, none, some}
use Rattle.types_rules.specs.Classes.{rep, zip_n}
use Rattle.types_rules.specs.Equations.{Pairs, Solves, end, pair}
use Rattle.types_rules.specs.Finite.{allb, bounded}
use Rattle.types_rules.specs.Follows.{Clash, View, shape, unk}
use Rattle.types_rules.specs.Former.{and, same_former}
use Rattle.types_rules.specs.Types.{Term, Terms, Ty, con, cons, nil, under, unknown}

pub data Out (N : Type 0) : Type 0 where
  merged : Pairs N → Out N
  apart : Out N
  spent : Out N

unfoldable pub both : {N : Type 0} → Bool → Option (Pairs N) → (Pairs N → Out N) → Out N
both true (some P) f = f P
both true none f = apart
both false o f = apart

unfoldable pub meet : {N : Type 0} → (Pairs N → Pairs N → Out N) → Pairs N → N → N → Pairs N → View N → View N → Out N
meet nx L a b P unk w = nx (pair a b L) P
meet nx L a b P (shape h cs) unk = nx (pair b a L) P
meet nx L a b P (shape h cs) (shape k ds) = both (same_former h k) (zip_n cs ds P) (λ P'. nx (pair a b L) P')

unfoldable pub turn : {N : Type 0} → Bool → (Unit {0} → Out N) → (Unit {0} → Out N) → Out N
turn true f g = f tt
turn false f g = g tt

unfoldable pub merge_level : {N : Type 0} → (N → N → Bool) → (N → View N) → (Pairs N → Pairs N → Out N) → Pairs N → Pairs N → Out N
merge_level same view nx L end = merged L
merge_level same view nx L (pair a b P) =
    turn (same (rep same L a) (rep same L b)) (λ u. merge_level same view nx L P)
    (λ u. meet nx L (rep same L a) (rep same L b) P (view (rep same L a)) (view (rep same L b)))

-- k bounds the merges.
unfoldable pub merge_levels : {N : Type 0} → (N → N → Bool) → (N → View N) → ℕ → Pairs N → Pairs N → Out N
merge_levels same view zero L P = merge_level same view (λ L' P'. spent) L P
merge_levels same view (suc k) L P = merge_level same view (λ L' P'. merge_levels same view k L' P') L P

unfoldable pub to_list : Terms → List Term
to_list nil = []
to_list (cons t ts) = t ∷ to_list ts

unfoldable pub view_term : Term → View Term
view_term (unknown x) = unk
view_term (con h ts) = shape h (to_list ts)

unfoldable mutual
  pub same_term : Term → Term → Bool
  same_term (unknown x) (unknown y) = eqb x y
  same_term (unknown x) (con k us) = false
  same_term (con h ts) (unknown y) = false
  same_term (con h ts) (con k us) = and (same_former h k) (same_terms ts us)

  pub same_terms : Terms → Terms → Bool
  same_terms nil nil = true
  same_terms nil (cons u us) = false
  same_terms (cons t ts) nil = false
  same_terms (cons t ts) (cons u us) = and (same_term t u) (same_terms ts us)

unfoldable pub join : List Term → List Term → List Term
join [] ys = ys
join (x ∷ xs) ys = x ∷ join xs ys

-- All the parts of a type, and of the types of some equations.
unfoldable mutual
  pub subs : Term → List Term
  subs (unknown x) = unknown x ∷ []
  subs (con h ts) = con h ts ∷ subss ts

  pub subss : Terms → List Term
  subss nil = []
  subss (cons t ts) = join (subs t) (subss ts)

unfoldable pub univ : Pairs Term → List Term
univ end = []
univ (pair a b P) = join (subs a) (join (subs b) (univ P))

-- The verdict.
pub data Verdict : Type 0 where
  solvable : Verdict
  clashing : Verdict
  endless : Verdict

unfoldable pub judge : List Term → Out Term → Verdict
judge us (merged L) = elim (allb (bounded (rep same_term L) view_term (length us)) us) [ true ↦ solvable | false ↦ endless ]
judge us apart = clashing
judge us spent = clashing

unfoldable pub classify : Pairs Term → Verdict
classify P = judge (univ P) (merge_levels same_term view_term (length (univ P)) end P)

-- Where some σ solves the equations, and where no two formers clash.
abbrev pub Solvable : Pairs Term → Type 0
Solvable P = (σ : ℕ → Ty) × Solves (under σ) P

abbrev pub Right : Pairs Term → Verdict → Type 0
Right P solvable = Solvable P × (Clash view_term P → ⊥)
Right P clashing = Clash view_term P × (Solvable P → ⊥)
Right P endless = (Clash view_term P → ⊥) × (Solvable P → ⊥)
