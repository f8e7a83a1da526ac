-- Findings 36 and 38 of what an Include brings, decided on words.
use Rattle.std.specs.Prelude.{◌≡◌, Bool, true, false, List, ℕ, ◌+◌, ◌*◌, ◌≤◌, ◌<◌, get_or}
use Rattle.types_rules.specs.Types.{Ty, Tys, Term, size}
use Rattle.checker_rules.specs.Unknowns.{row}
use Rattle.checker_rules.specs.Items.{Items, Refuses, MeetsIn}
use Rattle.checker_rules.specs.Signatures.{Signature, term_in}
use Rattle.checker_rules.specs.Conditions.{same_type, merge_names, small_types}
use Rattle.types_cells.specs.Calls.{Tells}
use Rattle.types_cells.specs.Settled.{heap, Reads, Readable}
use Rattle.checker_signatures.specs.Rows.{rows}
use Rattle.checker_signatures.specs.Carried.{Carries}
use Rattle.types_instances.specs.Fill.{fill}
use Rattle.types_instances.specs.Filled.{Row, Actuals}
use Rattle.checker_merging.specs.Merging.{Rows}
use Rattle.checker_pieces.specs.Piece.{Steady, Walked}
use Rattle.checker_lookup.specs.Components.{Component}
use Rattle.checker_includes.specs.Components.{Placed, ActualTypes}

-- A type at p with actuals for its parameters, beside the type at q.
pub record Comparing (s d : List ℕ) (p : ℕ) (places : List ℕ) (q : ℕ) : Type 0 where
  pub actuals : Actuals s d places
  pub left : Readable (heap s d) p
  pub right : Readable (heap s d) q

pub record SameFilled (s d : List ℕ) (p : ℕ) (places : List ℕ) (q : ℕ) (b : Bool) : Type 0 where
  pub tells : (g k : Ty) (hs : Tys) → Reads (heap s d) p g → Reads (heap s d) q k → Row (heap s d) places hs → Tells b (fill hs g ≡ k)

-- The rows of an Include, k of them at `source`, with its actuals.
pub record RowsAsk (s d w : List ℕ) (source k : ℕ) (places : List ℕ) : Type 0 where
  pub actuals : Actuals s d places
  pub table : Rows s d w source k

pub record AgreeAsk (s d w : List ℕ) (base m source k : ℕ) (places : List ℕ) : Type 0 where
  pub brought : RowsAsk s d w source k places
  pub table : Rows s d w base m

-- 36 for one component, identifier id, with the type at p.
pub record OneAsk (s d w : List ℕ) (base m p : ℕ) (places : List ℕ) : Type 0 where
  pub actuals : Actuals s d places
  pub type : Readable (heap s d) p
  pub table : Rows s d w base m

pub record OneTold (s d w : List ℕ) (base m p id : ℕ) (places : List ℕ) (fine : Bool) : Type 0 where
  pub goes : fine ≡ true → (H : Items) (U : List ℕ) (n i z : ℕ) (t : Term) (r : Signature) → Steady H U → ActualTypes s d H U i z places →
      Component s d (row i 1 z) t p → Carries (Placed s d H U) r (rows w base m) → Walked H (same_type n t (term_in id r)) U U (λ x. ⊥)
  pub stops : fine ≡ false → (H : Items) (U : List ℕ) (n i z : ℕ) (t : Term) (r : Signature) → Steady H U → ActualTypes s d H U i z places →
      Component s d (row i 1 z) t p → Carries (Placed s d H U) r (rows w base m) → Refuses (same_type n t (term_in id r)) (MeetsIn H) 36 n

-- 36: beside the signature r of the lines before. Any Include node i with the arity z, whose signature is q.
pub record AgreeTold (s d w : List ℕ) (base m source k : ℕ) (places : List ℕ) (fine : Bool) : Type 0 where
  pub goes : fine ≡ true → (H : Items) (U : List ℕ) (n i z : ℕ) (q r : Signature) → Steady H U → ActualTypes s d H U i z places →
      Carries (Component s d (row i 1 z)) q (rows w source k) → Carries (Placed s d H U) r (rows w base m) → Walked H (merge_names n q r) U U (λ x. ⊥)
  pub stops : fine ≡ false → (H : Items) (U : List ℕ) (n i z : ℕ) (q r : Signature) → Steady H U → ActualTypes s d H U i z places →
      Carries (Component s d (row i 1 z)) q (rows w source k) → Carries (Placed s d H U) r (rows w base m) → Refuses (merge_names n q r) (MeetsIn H) 36 n

-- 38: component types of size 32 at most.
pub record SmallTold (s d w : List ℕ) (source k : ℕ) (places : List ℕ) (fine : Bool) : Type 0 where
  pub goes : fine ≡ true → (H : Items) (U : List ℕ) (n i z : ℕ) (q : Signature) → Steady H U → ActualTypes s d H U i z places →
      Carries (Component s d (row i 1 z)) q (rows w source k) → Walked H (small_types n q) U U (λ x. ⊥)
  -- on words, for each row
  pub sizes : fine ≡ true → (j : ℕ) → j < k → (g : Ty) (hs : Tys) → Reads (heap s d) (get_or w (source + 2 * j + 1) 0) g → Row (heap s d) places hs → size (fill hs g) ≤ 32
  pub stops : fine ≡ false → (H : Items) (U : List ℕ) (n i z : ℕ) (q : Signature) → Steady H U → ActualTypes s d H U i z places →
      Carries (Component s d (row i 1 z)) q (rows w source k) → Refuses (small_types n q) (MeetsIn H) 38 n
