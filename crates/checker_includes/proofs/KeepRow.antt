-- One row of what an Include brings gets its place.
use mathlib.Core.Path.{◌≡◌, sym, ap, subst, ◌∙◌}
use mathlib.Core.List.{List}
use mathlib.Core.Logic.{inr}
use mathlib.Core.Option.{none as nothing}
use Prim.Native.Nat.{ℕ, ◌+◌, ◌≤◌}
use native.Mathlib.Omega.{arith}
use lib.ListN.{length, get_or, set, length-set}
use lib.Seq.{length-sets, get_or-set_same, get_or-set_other}
use Rattle.types_rules.specs.Types.{Ty, Tys}
use Rattle.types_rules.specs.Words.{words}
use Rattle.types_rules.proofs.Words.{words_few}
use Rattle.types_cells.specs.Settled.{heap, Reads}
use Rattle.types_solver.specs.Written.{Wrote}
use Rattle.checker_signatures.specs.Rows.{rows, place_in}
use Rattle.checker_signatures.specs.Tables.{Finds}
use Rattle.checker_signatures.proofs.IncludeLaws.{has_none}
use Rattle.types_instances.specs.Fill.{fill}
use Rattle.types_instances.specs.Filled.{Row, FillWriting, FillWrote}
use Rattle.types_instances.proofs.Moving.{sets_before, sets_in}
use Rattle.checker_includes.specs.Keeping.{Written, RowAsk, RowKept}
use Rattle.checker_includes.proofs.NewRowLaws.{one_new}

module _ (s d w : List ℕ) (base m r : ℕ) (places : List ℕ) (own e : ℕ) (A : RowAsk s d w base m r places own e) where
  abbrev c : Ty
  c = A.readable.type

  few : (g : Ty) (hs : Tys) → Reads (heap s d) (get_or w (r + 1) 0) g → Row (heap s d) places hs → length (words (fill hs g)) ≤ 95
  few g hs R S = let a = A.small g hs R S in let b = words_few (fill hs g) in omega arith

  -- An identifier that the table has not.
  module _ (p : ℕ) (h : p ≡ get_or w (r + 1) 0) where
    pub row_asked : FillWriting s d p places e
    row_asked =
        let q = few c A.actuals.types A.readable.reads A.actuals.stand in
        let n = A.near in
        record {
          filling = record { actuals = A.actuals; type = c; reads = subst (λ z. Reads (heap s d) z c) (sym h) A.readable.reads };
          room = omega arith;
        }

    module _ (w₁ : List ℕ) (z : ℕ) (W : FillWrote s d p places w w₁ e z) where
      wrote : (g : Ty) (hs : Tys) → Reads (heap s d) (get_or w (r + 1) 0) g → Row (heap s d) places hs → Wrote w w₁ e z (words (fill hs g))
      wrote g hs R S = W.is g hs (subst (λ y. Reads (heap s d) y g) (sym h) R) S

      abbrev ws : List ℕ
      ws = words (fill A.actuals.types c)

      W₀ : Wrote w w₁ e z ws
      W₀ = wrote c A.actuals.types A.readable.reads A.actuals.stand

      pub row_length : length w₁ ≡ length w
      row_length = ap length W₀.area ∙ length-sets w e ws

      pub row_fresh : (i f : ℕ) → i ≡ get_or w r 0 → Finds w base m i f → m ≤ f → (w' : List ℕ) → w' ≡ set w₁ (r + 1) own → RowKept s d w w' base m r places own e z
      row_fresh i f o F b w' g =
          let n = one_new w r (rows w base m) (has_none (get_or w r 0) (rows w base m) (subst (λ u. place_in u (rows w base m) ≡ nothing) o (F.absent b))) in
          let x = A.row in
          let y = A.room in
          let q = few c A.actuals.types A.readable.reads A.actuals.stand in
          let v = W₀.end in
          let l = row_length in
          subst (λ u. RowKept s d w u base m r places own e z) (sym g)
          (record {
            size = length-set w₁ (r + 1) own ∙ l;
            words = λ j b n. get_or-set_other w₁ (r + 1) j own 0 n ∙ ap (λ u. get_or u j 0) W₀.area ∙ sets_before w e ws j b;
            more = omega arith;
            short = omega arith;
            kept = inr (record { place = get_or-set_same w₁ (r + 1) own 0 (omega arith); stands = stands' });
          })
        where
          stands' : (g : Ty) (hs : Tys) → Reads (heap s d) (get_or w (r + 1) 0) g → Row (heap s d) places hs → Written (set w₁ (r + 1) own) e z (fill hs g)
          stands' g hs R S =
              let T = wrote g hs R S in
              let v = T.end in
              let x = A.row in
              let y = A.room in
              let q = few g hs R S in
              record {
                fits = omega arith;
                words_at = λ j b. get_or-set_other w₁ (r + 1) (e + j) own 0 (λ u. omega arith) ∙ ap (λ u. get_or u (e + j) 0) T.area ∙ sets_in w e (words (fill hs g)) j (omega arith) b;
              }
