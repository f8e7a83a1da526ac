-- What an Include brings, with the places that its rows got: each term's type stands there.
use mathlib.Core.Path.{◌≡◌, sym, subst, ◌∙◌}
use mathlib.Core.List.{List}
use mathlib.Core.Logic.{◌⊎◌, ⊎_elim}
use Prim.Native.Nat.{ℕ, zero, suc, ◌+◌, ◌-◌, ◌*◌, ◌≤◌, ◌<◌}
use native.Mathlib.Omega.{arith}
use lib.ListN.{length, get_or}
use Rattle.types_rules.specs.Types.{Ty, Tys, Term, under, size}
use Rattle.checker_rules.specs.Unknowns.{Valuation}
use Rattle.checker_rules.specs.Items.{Items, Meets, MeetsIn}
use Rattle.checker_rules.specs.Signatures.{Signature, no_names, naming, term_in}
use Rattle.checker_rules.specs.Conditions.{same_type, merge_names, small_types}
use Rattle.reader_rules.specs.Decode.{pairs_from}
use Rattle.types_cells.specs.Layout.{area_size}
use Rattle.types_cells.specs.Settled.{heap, Reads}
use Rattle.types_cells.proofs.Growing.{lt_or_ge}
use Rattle.checker_signatures.specs.Rows.{rows}
use Rattle.checker_signatures.specs.Tables.{Finds}
use Rattle.checker_signatures.specs.Carried.{Carries}
use Rattle.checker_signatures.proofs.CallLaws.{found_term}
use Rattle.checker_pieces.specs.Piece.{Steady}
use Rattle.types_instances.specs.Fill.{fill}
use Rattle.types_instances.specs.Filled.{Row}
use Rattle.types_instances.proofs.Rows.{filled_formed}
use Rattle.types_instances.proofs.Moving.{below_reads}
use Rattle.checker_includes.specs.Components.{Placed, Fills, AllStandFor}
use Rattle.checker_includes.specs.Storing.{KeepAsk, RowsKept}
use Rattle.checker_includes.specs.Keeping.{Written, RowFound, Fresh, AllKept, MoveAsk, Moved}
use Rattle.checker_includes.proofs.StandLaws.{stands_back, fill_alike}
use Rattle.checker_includes.proofs.StoreLaws.{moved_reads}
use Rattle.checker_includes.proofs.NewRowLaws.{rows_few}

module _ (s d w : List ℕ) (base m source k : ℕ) (places : List ℕ) (at end free : ℕ) (A : KeepAsk s d w base m source k places at end free) where
  module _ (w' : List ℕ) (e : ℕ) (K : AllKept s d w w' base m source k places at free e) where
    pub move_asked : MoveAsk s w' at end free (e - free)
    move_asked =
        let r = A.room in
        let q = A.scratch in
        let n = A.near in
        let j = A.many in
        let a = K.more in
        let b = K.short in
        let c = rows_few w source k (rows w base m) in
        let z = K.size in
        record {
          size = A.actuals.areas.size;
          clean = A.clean;
          gap = A.gap;
          before = A.before;
          room = omega arith;
          inside = omega arith;
          near = omega arith;
        }

    module _ (s' : List ℕ) (end' : ℕ) (M : Moved s s' w' at free (e - free) end') where
      abbrev S : length s ≡ area_size
      S = A.actuals.areas.size

      size' : length s' ≡ area_size
      size' = M.stored.size ∙ S

      -- Types of the table are read as before.
      table_reads : (f : ℕ) → f < m → (g : Ty) → Reads (heap s d) (get_or w (base + 2 * f + 1) 0) g → Reads (heap s' d) (get_or w (base + 2 * f + 1) 0) g
      table_reads f l g R =
          let r = A.room in
          let b = A.before in
          below_reads s s' d at (get_or w (base + 2 * f + 1) 0) g S size' (omega arith) M.stored.before (A.below f l g R) R

      -- Those in the work area are read where they were moved.
      filled_reads : (o : ℕ) (r : ℕ) (g : Ty) (hs : Tys) → Reads (heap s d) r g → Row (heap s d) places hs → Written w' (free + o) e (fill hs g) → Reads (heap s' d) (at + o) (fill hs g)
      filled_reads o r g hs R Q W =
          let a = K.more in
          let b = A.before in
          let i = move_asked.room in
          let z : e ≡ free + (e - free) = omega arith in
          moved_reads s s' d w' at free (e - free) end' o (fill hs g) S (omega arith) M (filled_formed (heap s d) r places g hs R Q)
          (subst (λ y. Written w' (free + o) y (fill hs g)) z W)

      -- What the row at r got.
      abbrev Got : ℕ → Type 0
      Got r = RowFound w w' base m r ⊎ ((o : ℕ) × Fresh s d w w' r places (at + o) (free + o) e)

      module _ (H : Items) (U : List ℕ) (n : ℕ) (r : Signature) (hs gs : Tys) (T : Row (heap s d) places hs) (L : AllStandFor hs gs) (C : Carries (Placed s d H U) r (rows w base m)) (D : Steady H U) where
        abbrev τ₀ : Valuation
        τ₀ = D.some.0

        -- ONE ROW, of the identifier x and the term t.
        module _ (x : ℕ) (t : Term) (p : ℕ) (e₀ : x ≡ get_or w p 0) (B : Fills s d H U gs t (get_or w (p + 1) 0))
            (same : Meets (same_type n t (term_in x r)) τ₀) (small : size (under τ₀ t) ≤ 32) where
          abbrev g : Ty
          g = fill gs B.type

          few : size g ≤ 32
          few = subst (λ y. size y ≤ 32) (B.settled τ₀ D.some.1) small

          placed : (q : ℕ) → Reads (heap s' d) q g → Placed s' d H U t q
          placed q R = record { typed = record { type = g; reads = R; settled = B.settled; over = B.over }; small = few }

          found : RowFound w w' base m p → Placed s' d H U t (get_or w' (p + 1) 0)
          unfolding same_type MeetsIn
          found F =
              let f = F.row in
              let l = F.among in
              let u = found_term (Placed s d H U) w base m x f (subst (λ y. Finds w base m y f) (sym e₀) F.finds) r C l in
              let P = u.2.typed in
              let a : under τ₀ t ≡ under τ₀ u.0 = subst (λ y. Meets (same_type n t y) τ₀) u.1 same in
              let b : P.type ≡ g = sym (P.settled τ₀ D.some.1) ∙ sym a ∙ B.settled τ₀ D.some.1 in
              subst (Placed s' d H U t) (sym F.place)
              (placed (get_or w (base + 2 * f + 1) 0) (subst (Reads (heap s' d) (get_or w (base + 2 * f + 1) 0)) b (table_reads f l P.type P.reads)))

          fresh : (o : ℕ) → Fresh s d w w' p places (at + o) (free + o) e → Placed s' d H U t (get_or w' (p + 1) 0)
          fresh o F =
              let b : fill hs B.type ≡ g = sym (fill_alike gs hs (stands_back hs gs L) B.type few) in
              subst (Placed s' d H U t) (sym F.place)
              (placed (at + o) (subst (Reads (heap s' d) (at + o)) b
              (filled_reads o (get_or w (p + 1) 0) B.type hs B.reads T (F.stands B.type hs B.reads T))))

          pub one_placed : Got p → Placed s' d H U t (get_or w' (p + 1) 0)
          one_placed G = ⊎_elim found (λ F. fresh F.0 F.1) G

        -- ALL ROWS.
        all_placed : (q : Signature) (p j : ℕ) → Carries (Fills s d H U gs) q (rows w p j) → Meets (merge_names n q r) τ₀ → Meets (small_types n q) τ₀ →
            ((x : ℕ) → x < j → Got (p + 2 * x)) → ((x : ℕ) → x < j → get_or w' (p + 2 * x) 0 ≡ get_or w (p + 2 * x) 0) → Carries (Placed s' d H U) q (rows w' p j)
        unfolding pairs_from Carries merge_names small_types MeetsIn
        all_placed no_names p zero c a b h y = tt
        all_placed no_names p (suc j) c a b h y = absurd c
        all_placed (naming x t q) p zero c a b h y = absurd c
        all_placed (naming x t q) p (suc j) c a b h y =
            let u : p + 2 * 0 ≡ p = omega arith in
            let v : p + 1 ≡ suc p = omega arith in (
              c.0 ∙ sym (subst (λ o. get_or w' o 0 ≡ get_or w o 0) u (y 0 (omega arith))),
              subst (λ o. Placed s' d H U t (get_or w' o 0)) v
                  (one_placed x t p c.0 (subst (λ o. Fills s d H U gs t (get_or w o 0)) (sym v) c.1) a.0 b.0 (subst Got u (h 0 (omega arith)))),
              all_placed q (suc (suc p)) j c.2 a.1 b.1
                  (λ o l. subst Got (let f : p + 2 * suc o ≡ suc (suc p) + 2 * o = omega arith in f) (h (suc o) (omega arith)))
                  (λ o l. subst (λ f. get_or w' f 0 ≡ get_or w f 0) (let f : p + 2 * suc o ≡ suc (suc p) + 2 * o = omega arith in f) (y (suc o) (omega arith))),
            )

      pub rows_kept : RowsKept s s' d w w' base m source k places at end free end'
      rows_kept =
          let a = K.more in
          let b = K.short in
          let c = M.short in
          let f = A.beside.1 in
          record {
            stored = M.stored;
            size = K.size;
            words = K.words;
            new = ⊎_elim (λ (l : 0 < e - free). omega arith) (λ (l : e - free ≤ 0). let q = M.none (omega arith) in omega arith) (lt_or_ge 0 (e - free));
            placed = λ H U n q r hs gs T L C R merges smalls D.
                all_placed H U n r hs gs T L R D q source k C (merges D.some.0 D.some.1) (smalls D.some.0 D.some.1) K.each
                (λ x l. K.words (source + 2 * x) (omega arith) (λ j y o. omega arith));
          }
