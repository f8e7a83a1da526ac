-- The rows of what an Include brings get their places, one after another.
use mathlib.Core.Path.{◌≡◌, refl, sym, ap, subst, ◌∙◌}
use mathlib.Core.List.{List}
use mathlib.Core.Logic.{◌⊎◌, inl, inr, ⊎_elim}
use mathlib.Core.Option.{some}
use Prim.Native.Nat.{ℕ, ◌+◌, ◌-◌, ◌*◌, ◌≤◌, ◌<◌}
use native.Mathlib.Omega.{arith}
use lib.ListN.{get_or}
use Rattle.types_rules.specs.Types.{Ty}
use Rattle.types_cells.specs.Settled.{heap, Reads, Readable}
use Rattle.types_cells.proofs.Growing.{lt_or_ge}
use Rattle.checker_signatures.specs.Rows.{rows, place_in}
use Rattle.checker_signatures.specs.Tables.{Finds}
use Rattle.checker_signatures.proofs.RowLaws.{rows_kept}
use Rattle.types_instances.specs.Fill.{fill}
use Rattle.checker_includes.specs.NewRows.{new_rows}
use Rattle.checker_includes.specs.Keeping.{Written, RowFound, Fresh, RowAsk, RowKept, AllAsk, AllKept}
use Rattle.checker_includes.proofs.NewRowLaws.{rows_few, one_more, one_same}

pub finds_same : (w w' : List ℕ) (base m i f : ℕ) → ((x : ℕ) → base ≤ x → x < base + 2 * m → get_or w' x 0 ≡ get_or w x 0) → Finds w' base m i f → Finds w base m i f
finds_same w w' base m i f h F =
    let e = rows_kept w w' base m h in
    record {
      most = F.most;
      there = λ l. ap (place_in i) (sym e) ∙ F.there l ∙ ap (λ z. some z) (h (base + 2 * f + 1) (omega arith) (omega arith));
      present = λ l. sym (h (base + 2 * f) (omega arith) (omega arith)) ∙ F.present l;
      absent = λ l. ap (place_in i) (sym e) ∙ F.absent l;
    }

module _ (s d w₀ : List ℕ) (base m source k : ℕ) (places : List ℕ) (at free : ℕ) (A : AllAsk s d w₀ base m source k places at free) where
  abbrev Kept : List ℕ → ℕ → ℕ → Type 0
  Kept w j e = AllKept s d w₀ w base m source j places at free e

  abbrev Each : List ℕ → ℕ → ℕ → Type 0
  Each w e i = RowFound w₀ w base m (source + 2 * i) ⊎ ((o : ℕ) × Fresh s d w₀ w (source + 2 * i) places (at + o) (free + o) e)

  pub all_start : Kept w₀ 0 free
  all_start = record { size = refl; words = λ i l h. refl; more = omega arith; short = omega arith; each = λ j l. absurd (omega arith) }

  pub all_short : (w : List ℕ) (j e : ℕ) → Kept w j e → e ≤ free + 95 * j
  all_short w j e K = let a = K.short in let b = rows_few w₀ source j (rows w₀ base m) in omega arith

  module _ (w : List ℕ) (j e : ℕ) (l : j < k) (K : Kept w j e) where
    abbrev r : ℕ
    r = source + 2 * j

    -- Row j, and the table, are as at first.
    row_same : (x : ℕ) → x < source + 2 * k → ((i : ℕ) → i < j → x ≡ source + 2 * i + 1 → ⊥) → get_or w x 0 ≡ get_or w₀ x 0
    row_same x b n = let q = A.beside.1 in K.words x (omega arith) n

    identifier_same : get_or w r 0 ≡ get_or w₀ r 0
    identifier_same = row_same r (omega arith) (λ i b q. omega arith)

    place_same : get_or w (r + 1) 0 ≡ get_or w₀ (r + 1) 0
    place_same = row_same (r + 1) (omega arith) (λ i b q. omega arith)

    table_same : (x : ℕ) → base ≤ x → x < base + 2 * m → get_or w x 0 ≡ get_or w₀ x 0
    table_same x b n = let q = A.beside.0 in K.words x (omega arith) (λ i c h. ⊎_elim (λ z. absurd (omega arith)) (λ z. absurd (omega arith)) A.apart)

    pub step_asked : RowAsk s d w base m r places (at + (e - free)) e
    step_asked =
        let a = K.size in
        let b = K.more in
        let c = all_short w j e K in
        let f = A.scratch in
        let g = A.many in
        let h = A.near in
        let i = A.room in
        let x = A.beside in
        record {
          actuals = A.actuals;
          readable = subst (Readable (heap s d)) (sym place_same) (A.rows.readable j l);
          small = λ g hs R S. A.sizes j l g hs (subst (λ z. Reads (heap s d) z g) place_same R) S;
          table = omega (arith, x.0);
          row = omega (arith, x.1);
          room = omega arith;
          near = omega arith;
          place = omega arith;
        }

    -- Row j counts as at first.
    row_counts : new_rows (rows w r 1) (rows w base m) ≡ new_rows (rows w₀ r 1) (rows w₀ base m)
    row_counts = one_same w w₀ r (rows w base m) identifier_same ∙ ap (new_rows (rows w₀ r 1)) (rows_kept w₀ w base m table_same)

    module _ (w₁ : List ℕ) (e₁ : ℕ) (R : RowKept s d w w₁ base m r places (at + (e - free)) e e₁) where
      -- What an earlier row got stays.
      old_word : (x : ℕ) → x < e → (x ≡ r + 1 → ⊥) → get_or w₁ x 0 ≡ get_or w x 0
      old_word x b n = R.words x b n

      old_written : (o : ℕ) (t : Ty) → Written w (free + o) e t → Written w₁ (free + o) e₁ t
      old_written o t W =
          let a = R.more in
          let b = W.fits in
          let c = A.beside.1 in
          record { fits = omega arith; words_at = λ x y. old_word (free + o + x) (omega arith) (λ z. omega arith) ∙ W.words_at x y }

      old_place : (i : ℕ) → i < j → get_or w₁ (source + 2 * i + 1) 0 ≡ get_or w (source + 2 * i + 1) 0
      old_place i b = let c = A.beside.1 in let a = K.more in old_word (source + 2 * i + 1) (omega arith) (λ z. omega arith)

      old : (i : ℕ) → i < j → Each w e i → Each w₁ e₁ i
      old i b (inl F) = inl (record { row = F.row; finds = F.finds; among = F.among; place = old_place i b ∙ F.place })
      old i b (inr F) = inr (F.0, record { place = old_place i b ∙ F.1.place; stands = λ g hs P Q. old_written F.0 (fill hs g) (F.1.stands g hs P Q) })

      -- What row j gets.
      new : RowFound w w₁ base m r ⊎ Fresh s d w w₁ r places (at + (e - free)) e e₁ → Each w₁ e₁ j
      new (inl F) =
          let f = F.row in
          let b = F.among in
          inl (record {
            row = f;
            finds = finds_same w₀ w base m (get_or w₀ r 0) f table_same (subst (λ z. Finds w base m z f) identifier_same F.finds);
            among = b;
            place = F.place ∙ table_same (base + 2 * f + 1) (omega arith) (omega arith);
          })
      new (inr F) =
          let b = K.more in
          let q : e ≡ free + (e - free) = omega arith in
          inr (e - free, record { place = F.place; stands = λ g hs P Q. subst (λ z. Written w₁ z e₁ (fill hs g)) q (F.stands g hs (subst (λ z. Reads (heap s d) z g) (sym place_same) P) Q) })

      pub all_step : Kept w₁ (j + 1) e₁
      all_step =
          let a = R.more in
          let b = R.short in
          let c = K.more in
          let f = K.short in
          let g = A.beside.1 in
          let h = row_counts in
          let u = one_more w₀ source j (rows w₀ base m) in
          record {
            size = R.size ∙ K.size;
            words = λ i z n. R.words i (omega arith) (λ q. n j (omega arith) q) ∙ K.words i z (λ x y q. n x (omega arith) q);
            more = omega arith;
            short = omega arith;
            each = λ i z. ⊎_elim (λ (y : i < j). old i y (K.each i y)) (λ (y : j ≤ i). subst (λ x. Each w₁ e₁ x) (let x : j ≡ i = omega arith in x) (new R.kept)) (lt_or_ge i j);
          }

  pub all_end : (w : List ℕ) (j e : ℕ) → j ≤ k → k ≤ j → Kept w j e → Kept w k e
  all_end w j e a b K = subst (λ z. Kept w z e) (let z : j ≡ k = omega arith in z) K
