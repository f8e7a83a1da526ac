-- Finding 36 on words: equal identifiers in one signature merge if their types are equal. The types are settled, and their words stand in reach.
use Rattle.std.specs.Prelude.{◌≡◌, Bool, true, false, List, ℕ, ◌+◌, ◌*◌, ◌≤◌, ◌<◌, length, get_or}
use Rattle.types_rules.specs.Equations.{In}
use Rattle.types_rules.specs.Types.{Ty, Term, Each}
use Rattle.checker_rules.specs.Dictionary.{Dictionary}
use Rattle.checker_rules.specs.Items.{Items, Refuses, MeetsIn}
use Rattle.checker_rules.specs.Signatures.{Signature, term_in}
use Rattle.checker_rules.specs.Conditions.{same_type, merge_declared, merge_names, new_names}
use Rattle.types_cells.specs.Settled.{heap, Reads, Readable, Areas}
use Rattle.checker_signatures.specs.Rows.{rows}
use Rattle.checker_signatures.specs.Carried.{Carries}
use Rattle.checker_dictionary.specs.Index.{Indexed}
use Rattle.checker_pieces.specs.Piece.{Steady, Walked, Settled}

-- The term t has one type in every table that meets H, and its words stand at the place p.
pub record TypedAt (s d : List ℕ) (H : Items) (U : List ℕ) (t : Term) (p : ℕ) : Type 0 where
  pub type : Ty
  pub reads : Reads (heap s d) p type
  pub settled : Settled H t type
  pub over : Each (λ x. In x U) t

-- A table of m rows at base in the words w, each with the place of a type.
pub record Rows (s d w : List ℕ) (base m : ℕ) : Type 0 where
  pub inside : base + 2 * m ≤ length w
  pub readable : (j : ℕ) → j < m → Readable (heap s d) (get_or w (base + 2 * j + 1) 0)

pub record DeclaredAsk (s d w : List ℕ) (base m p : ℕ) : Type 0 where
  pub areas : Areas s d
  pub table : Rows s d w base m
  pub type : Readable (heap s d) p

-- One identifier id, with the type at p, beside the signature r.
pub record OneTold (s d w : List ℕ) (base m p id : ℕ) (fine : Bool) : Type 0 where
  pub goes : fine ≡ true → (H : Items) (U : List ℕ) (n : ℕ) (t : Term) (r : Signature) → Steady H U → TypedAt s d H U t p →
      Carries (TypedAt s d H U) r (rows w base m) → Walked H (same_type n t (term_in id r)) U U (λ x. ⊥)
  pub stops : fine ≡ false → (H : Items) (U : List ℕ) (n : ℕ) (t : Term) (r : Signature) → Steady H U → TypedAt s d H U t p →
      Carries (TypedAt s d H U) r (rows w base m) → Refuses (same_type n t (term_in id r)) (MeetsIn H) 36 n

-- A Decl's identifiers, with the type at p, beside the signature of the lines before.
pub record DeclaredTold (s d w : List ℕ) (base m p : ℕ) (is : List ℕ) (fine : Bool) : Type 0 where
  pub goes : fine ≡ true → (H : Items) (U : List ℕ) (n : ℕ) (t : Term) (r : Signature) → Steady H U → TypedAt s d H U t p →
      Carries (TypedAt s d H U) r (rows w base m) → Walked H (merge_declared n is t r) U U (λ x. ⊥)
  pub stops : fine ≡ false → (H : Items) (U : List ℕ) (n : ℕ) (t : Term) (r : Signature) → Steady H U → TypedAt s d H U t p →
      Carries (TypedAt s d H U) r (rows w base m) → Refuses (merge_declared n is t r) (MeetsIn H) 36 n

pub record RowsAsk (s d w : List ℕ) (base m source k : ℕ) : Type 0 where
  pub areas : Areas s d
  pub table : Rows s d w base m
  pub others : Rows s d w source k

-- The rows of one signature, from number j on, beside another.
pub record RowsTold (s d w : List ℕ) (base m source k : ℕ) (fine : Bool) : Type 0 where
  pub goes : fine ≡ true → (H : Items) (U : List ℕ) (n : ℕ) (q r : Signature) → Steady H U → Carries (TypedAt s d H U) q (rows w source k) →
      Carries (TypedAt s d H U) r (rows w base m) → Walked H (merge_names n q r) U U (λ x. ⊥)
  pub stops : fine ≡ false → (H : Items) (U : List ℕ) (n : ℕ) (q r : Signature) → Steady H U → Carries (TypedAt s d H U) q (rows w source k) →
      Carries (TypedAt s d H U) r (rows w base m) → Refuses (merge_names n q r) (MeetsIn H) 36 n

-- 36, second case: no identifier of the list is global by an earlier paragraph (document 01, finding 36; R16).
pub record NewTold (d w is : List ℕ) (fine : Bool) : Type 0 where
  pub goes : fine ≡ true → (D : Dictionary) (H : Items) (U : List ℕ) (n : ℕ) → Indexed D d w → Steady H U → Walked H (new_names n is D) U U (λ x. ⊥)
  pub stops : fine ≡ false → (D : Dictionary) (H : Items) (U : List ℕ) (n : ℕ) → Indexed D d w → Steady H U → Refuses (new_names n is D) (MeetsIn H) 36 n
