-- A row of places, its types, and what a parameter becomes.
use mathlib.Core.Path.{◌≡◌, refl, sym, ap, subst, ◌∙◌}
use mathlib.Core.List.{List, [], ◌∷◌}
use mathlib.Core.Option.{some, none}
use Prim.Native.Nat.{ℕ, zero, suc, ◌+◌, ◌≤◌, ◌<◌}
use native.Mathlib.Omega.{arith}
use lib.ListN.{length, get_or}
use Rattle.types_rules.specs.Former.{Former, int, given, parameter, power, product, binding, tag, identifiers}
use Rattle.types_rules.specs.Types.{Ty, Tys, node, tnil, tcons, size}
use Rattle.types_rules.specs.Formed.{part_count_type, FormedType, FormedTypes, Arity, WellFormed}
use Rattle.types_rules.specs.Words.{second, words, part_words}
use Rattle.types_cells.specs.Settled.{Reads}
use Rattle.types_cells.proofs.Reading.{tag_there, second_at}
use Rattle.types_instances.specs.Fill.{nth_type, actual_type, fill_former, fill, fills}
use Rattle.types_instances.specs.Filled.{Row, place_of}
use Rattle.types_instances.proofs.FillLaws.{fill_formed, fill_none}

pub row_none : (H row : List ℕ) (hs : Tys) (i : ℕ) → Row H row hs → place_of row i ≡ 0 → nth_type hs i ≡ none
unfolding place_of nth_type
row_none H [] tnil i R e = refl
row_none H [] (tcons h hs) i R e = absurd R
row_none H (q ∷ row) tnil i R e = absurd R
row_none H (q ∷ row) (tcons h hs) zero R e = refl
row_none H (q ∷ row) (tcons h hs) (suc zero) R e = absurd (omega arith)
row_none H (q ∷ row) (tcons h hs) (suc (suc i)) R e = row_none H row hs (suc i) R.1 e

-- A type with no actuals stays.
pub none_stays : (H row : List ℕ) (hs : Tys) (g : Ty) → length row ≡ 0 → Row H row hs → fill hs g ≡ g
none_stays H [] tnil g l R = fill_none g
none_stays H [] (tcons h hs) g l R = absurd R
none_stays H (q ∷ row) hs g l R = absurd (omega (arith, l))

-- The i-th actual, where there is one.
pub record Given (H : List ℕ) (hs : Tys) (i q : ℕ) : Type 0 where
  pub type : Ty
  pub is : nth_type hs i ≡ some type
  pub reads : Reads H q type

pub row_some : (H row : List ℕ) (hs : Tys) (i q : ℕ) → Row H row hs → place_of row i ≡ suc q → Given H hs i q
unfolding place_of nth_type
row_some H [] tnil i q R e = absurd (omega arith)
row_some H [] (tcons h hs) i q R e = absurd R
row_some H (x ∷ row) tnil i q R e = absurd R
row_some H (x ∷ row) (tcons h hs) zero q R e = absurd (omega arith)
row_some H (x ∷ row) (tcons h hs) (suc zero) q R e = record { type = h; is = refl; reads = subst (λ z. Reads H z h) (let y : x ≡ q = omega arith in y) R.0 }
row_some H (x ∷ row) (tcons h hs) (suc (suc i)) q R e = let G = row_some H row hs (suc i) q R.1 e in record { type = G.type; is = G.is; reads = G.reads }

row_formed : (H row : List ℕ) (hs : Tys) → Row H row hs → FormedTypes Arity hs
unfolding FormedType
row_formed H [] tnil R = tt
row_formed H [] (tcons h hs) R = absurd R
row_formed H (q ∷ row) tnil R = absurd R
row_formed H (q ∷ row) (tcons h hs) R = (R.0.formed, row_formed H row hs R.1)

pub filled_formed : (H : List ℕ) (p : ℕ) (row : List ℕ) (g : Ty) (hs : Tys) → Reads H p g → Row H row hs → WellFormed (fill hs g)
filled_formed H p row g hs R S = fill_formed Arity hs g (row_formed H row hs S) R.formed

pub place_some : (row : List ℕ) (i : ℕ) → i < length row → place_of row (suc i) ≡ suc (get_or row i 0)
unfolding place_of
place_some [] i l = absurd (omega arith)
place_some (q ∷ row) zero l = refl
place_some (q ∷ row) (suc i) l = place_some row i (omega arith)

pub place_past : (row : List ℕ) (i : ℕ) → length row ≤ i → place_of row (suc i) ≡ 0
unfolding place_of
place_past [] i l = refl
place_past (q ∷ row) zero l = absurd (omega arith)
place_past (q ∷ row) (suc i) l = place_past row i (omega arith)

pub place_zero : (row : List ℕ) → place_of row 0 ≡ 0
unfolding place_of
place_zero [] = refl
place_zero (q ∷ row) = refl

-- A parameter.
no_parts_lem : (gs : Tys) → part_count_type gs ≡ 0 → gs ≡ tnil
no_parts_lem tnil e = refl
no_parts_lem (tcons g gs) e = absurd (omega arith)

parameter_c : (hs : Tys) (h : Former) (gs : Tys) → Arity h (part_count_type gs) → tag h ≡ 6 → (v : ℕ) → ((i : ℕ) → second h (part_count_type gs) ≡ i ∷ [] → v ≡ i) →
    (fill hs (node h gs) ≡ actual_type (nth_type hs v) v tnil) × (words (node h gs) ≡ 6 ∷ v ∷ [])
unfolding tag Arity second fill fill_former words identifiers part_words
parameter_c hs int gs a e v f = absurd (omega arith)
parameter_c hs (given g) gs a e v f = absurd (omega arith)
parameter_c hs (parameter i) gs a e v f =
    let n = no_parts_lem gs a in
    let q = f i refl in
    (ap (λ z. actual_type (nth_type hs i) i (fills hs z)) n ∙ ap (λ z. actual_type (nth_type hs z) z tnil) (sym q), ap (λ z. 6 ∷ i ∷ part_words [] z) n ∙ ap (λ z. 6 ∷ z ∷ []) (sym q))
parameter_c hs power gs a e v f = absurd (omega arith)
parameter_c hs product gs a e v f = absurd (omega arith)
parameter_c hs (binding l) gs a e v f = absurd (omega arith)

pub parameter_fill : (H : List ℕ) (p : ℕ) (g : Ty) (hs : Tys) → Reads H p g → get_or H p 0 ≡ 6 →
    (fill hs g ≡ actual_type (nth_type hs (get_or H (p + 1) 0)) (get_or H (p + 1) 0) tnil) × (words g ≡ 6 ∷ get_or H (p + 1) 0 ∷ [])
unfolding FormedType
parameter_fill H p (node h gs) hs R e = parameter_c hs h gs R.formed.0 (sym (tag_there H p h gs R) ∙ e) (get_or H (p + 1) 0) (λ i q. second_at H p h gs R i q)

pub actual_none : (H row : List ℕ) (hs : Tys) (i : ℕ) → Row H row hs → place_of row i ≡ 0 → actual_type (nth_type hs i) i tnil ≡ node (parameter i) tnil
unfolding actual_type
actual_none H row hs i R e = ap (λ z. actual_type z i tnil) (row_none H row hs i R e)

pub actual_some : (H : List ℕ) (hs : Tys) (i q : ℕ) (G : Given H hs i q) → actual_type (nth_type hs i) i tnil ≡ G.type
unfolding actual_type
actual_some H hs i q G = ap (λ z. actual_type z i tnil) G.is

pub parameter_words : (i : ℕ) → words (node (parameter i) tnil) ≡ 6 ∷ i ∷ []
unfolding words second identifiers part_words tag
parameter_words i = refl

pub parameter_size : (i : ℕ) → size (node (parameter i) tnil) ≡ 1
unfolding size
parameter_size i = refl
