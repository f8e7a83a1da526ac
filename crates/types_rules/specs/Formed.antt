-- Well-formed terms and types: R says how many parts a former may have.
use Rattle.std.specs.Prelude.{suc, ℕ, ◌<◌, ◌≤◌, length, List, [], ◌∷◌, ◌≡◌}
use Rattle.types_rules.specs.Former.{Former, int, given, parameter, power, product, binding}
use Rattle.types_rules.specs.Types.{Term, Terms, Ty, Tys, con, cons, nil, node, tcons, tnil, unknown}

abbrev pub part_count : Terms → ℕ
part_count nil = 0
part_count (cons t ts) = suc (part_count ts)

abbrev pub part_count_type : Tys → ℕ
part_count_type tnil = 0
part_count_type (tcons t ts) = suc (part_count_type ts)

-- R h n: the former h may have n parts.
unfoldable mutual
  pub Formed : (Former → ℕ → Type 0) → Term → Type 0
  Formed R (unknown x) = Unit {0}
  Formed R (con h ts) = R h (part_count ts) × Formeds R ts

  pub Formeds : (Former → ℕ → Type 0) → Terms → Type 0
  Formeds R nil = Unit {0}
  Formeds R (cons t ts) = Formed R t × Formeds R ts

unfoldable mutual
  pub FormedType : (Former → ℕ → Type 0) → Ty → Type 0
  FormedType R (node h ts) = R h (part_count_type ts) × FormedTypes R ts

  pub FormedTypes : (Former → ℕ → Type 0) → Tys → Type 0
  FormedTypes R tnil = Unit {0}
  FormedTypes R (tcons t ts) = FormedType R t × FormedTypes R ts

abbrev pub Ascending : List ℕ → Type 0
Ascending [] = Unit {0}
Ascending (x ∷ []) = Unit {0}
Ascending (x ∷ (y ∷ l)) = (x < y) × Ascending (y ∷ l)

-- Document 01: a power has one part, a product 2 to 6, a binding one for each of its ascending identifiers, the others none.
unfoldable pub Arity : Former → ℕ → Type 0
Arity int n = n ≡ 0
Arity (given g) n = n ≡ 0
Arity (parameter i) n = n ≡ 0
Arity power n = n ≡ 1
Arity product n = (2 ≤ n) × (n ≤ 6)
Arity (binding l) n = (length l ≡ n) × Ascending l

abbrev pub WellFormed : Ty → Type 0
WellFormed = FormedType Arity
