-- An Abbreviation: its parameters in scope, its E as a closed piece (34), 36, 38, and one entry.
use mathlib.Core.Path.{◌≡◌, refl, sym, ap, subst, ◌∙◌}
use mathlib.Core.Bool.{true, false}
use mathlib.Core.List.{List, [], ◌∷◌}
use Prim.Native.Nat.{ℕ, ◌+◌, ◌-◌, ◌≤◌, ◌<◌}
use native.Mathlib.Omega.{arith}
use lib.ListN.{length, replicate, length-append}
use lib.Seq.{sets, length-sets}
use Rattle.reader_rules.specs.Limited.{LimitedParagraph}
use Rattle.reader_rules.specs.Tree.{Paragraph, abbreviation, Expr, expr_node}
use Rattle.reader_rules.specs.TreeNumbers.{paragraph_numbers, expr_numbers}
use Rattle.types_rules.specs.Types.{Ty, under, size}
use Rattle.types_rules.specs.Words.{words}
use Rattle.checker_rules.specs.Conditions.{new_names, type_of}
use Rattle.checker_rules.specs.Dictionary.{Dictionary, ◌▸◌, name_entry, entry_words}
use Rattle.checker_rules.specs.Entries.{extend}
use Rattle.checker_rules.specs.Items.{Items, skip, ◌⨾◌, small, piece, Refuses, MeetsIn}
use Rattle.checker_rules.specs.Rules.{paragraph_items, expr_items}
use Rattle.checker_rules.specs.Scopes.{Scope, globals, with_parameters}
use Rattle.checker_rules.specs.Unknowns.{slot}
use Rattle.types_cells.specs.Layout.{first_run, pool_size}
use Rattle.types_cells.specs.Settled.{lower}
use Rattle.types_solver.specs.Sizes.{cap}
use Rattle.types_solver.specs.Written.{Wrote}
use Rattle.types_solver.proofs.Marking.{cap_cases}
use Rattle.checker_dictionary.specs.Waiting.{with_entries, waiting}
use Rattle.checker_merging.specs.Merging.{NewTold}
use Rattle.types_instances.proofs.FillSizes.{size_few}
use Rattle.checker_pieces.specs.Building.{Introduced}
use Rattle.checker_pieces.specs.Closed.{Closing, Closed, Shut, Sizing, SizeIs, Wording, WordsAre}
use Rattle.checker_pieces.specs.Piece.{Walked, Settled}
use Rattle.checker_pieces.specs.Stage.{Ghost}
use Rattle.checker_pieces.proofs.Between.{walked_then, walked_mine, refuses_first, refuses_second, small_noted, small_refused}
use Rattle.checker_pieces.proofs.Stages.{next, next_stands, placed_cell}
use Rattle.checker_lookup.specs.Scoped.{Scoped, DictionaryHeld}
use Rattle.checker_lookup.proofs.HeldLaws.{SameIndex, same_on, indexed_in}
use Rattle.checker_includes.specs.Storing.{Stored}
use Rattle.checker_contracts.specs.Room.{frames_at, entries_at}
use Rattle.checker_contracts.specs.Expressions.{ExprAsk, ExprDone}
use Rattle.checker_contracts.specs.Paragraphs.{ParagraphAsk, ParagraphDone}
use Rattle.checker_contracts.specs.Visits.{Owned, idle}
use Rattle.checker_contracts.proofs.Nodes.{once_left}
use Rattle.checker_contracts.proofs.Opening.{opened, piece_refused, piece_walked, piece_several}
use Rattle.checker_contracts.proofs.Rooms.{begin_inside}
use Rattle.checker_contracts.proofs.Scopes.{stored_on}
use Rattle.checker_contracts.proofs.Wiping.{wiped_low, stored_kept}
use Rattle.checker_entries.specs.Entries.{entry_waits}
use Rattle.checker_entries.specs.Parameters.{ParametersPushed}
use Rattle.checker_entries.proofs.Beginning.{nothing_before, nothing_known, no_rows, room_below, passes_any, refuses_any}
use Rattle.checker_entries.proofs.Writing.{head_wrote}
use Rattle.checker_entries.proofs.Waits.{one_waits, wrote_index}

module _ (s d w : List ℕ) (p : Paragraph) (k i : ℕ) (ps : List ℕ) (a : Expr) (e : p ≡ abbreviation k i ps a) (A' : ParagraphAsk s d w p)
    (s₁ w₁ : List ℕ) (n at₁ : ℕ) (P : ParametersPushed s s₁ w w₁ ps 0 n at₁) (few : n ≤ 4) where
  A : ParagraphAsk s d w (abbreviation k i ps a)
  A = subst (ParagraphAsk s d w) e A'

  abbrev around : Dictionary → Scope
  around D = with_parameters ps 1 (globals D)

  begun : (D : Dictionary) → DictionaryHeld D d w → Scoped s₁ d w₁ n (idle skip []) (around D) D
  begun D R = P.scoped d (globals D) D (no_rows s d w D R)

  nodes_few : length (expr_numbers a) ≤ 24
  unfolding LimitedParagraph
  nodes_few = A.limited.1

  pub expr_asked : ExprAsk s₁ d w₁ n 0 first_run at₁ frames_at a
  unfolding LimitedParagraph paragraph_numbers
  expr_asked =
      let o = P.place in
      let z = P.size in
      let v = A.wide in
      record {
        height = 10;
        texts = 4;
        limited = A.limited.2;
        visiting = record {
          ghost = idle skip [];
          stands = opened s₁ d skip [] nothing_before (P.stored.size ∙ A.size) A.few;
          scope = around A.dictionary;
          dictionary = A.dictionary;
          scoped = begun A.dictionary A.recorded;
          fresh = nothing_known (expr_numbers a);
          once = once_left (expr_numbers a) (k ∷ []) A.once;
          size = P.stored.size ∙ A.size;
          clean = P.stored.after;
          room = begin_inside s₁ w₁ n at₁ frames_at 10 24 (length (expr_numbers a)) (room_below w₁ n at₁ (omega arith) few (omega arith) (omega arith)) A.limited.1;
        };
      }

  abbrev body : Dictionary → Items
  body D = expr_items a (around D)

  abbrev rest : Dictionary → Items
  rest D = new_names k (i ∷ []) D ⨾ small k (type_of a)

  refuse_first : (D : Dictionary) (f m : ℕ) → Refuses (piece k (body D)) (MeetsIn skip) f m → Refuses (paragraph_items (abbreviation k i ps a) D) (MeetsIn skip) f m
  unfolding paragraph_items
  refuse_first D f m r = refuses_first skip (piece k (body D)) (rest D) f m r

  module _ (s₂ w₂ : List ℕ) (number place cell n' top' at₂ : ℕ) (T : ExprDone s₁ s₂ d w₁ w₂ n 0 first_run at₁ frames_at a number place cell n' top' at₂) where
    size₂ : length w₂ ≡ length w
    size₂ = T.spared.size ∙ P.size

    same₂ : SameIndex w w₂
    same₂ = same_on w w₁ w₂ P.index T.spared.index

    pub expr_stopped : (number ≡ 0 → ⊥) → (at count : ℕ) → ParagraphDone s s₂ d w w₂ p number place at count
    expr_stopped z at count = subst (λ y. ParagraphDone s s₂ d w w₂ y number place at count) (sym e) (record {
      size = size₂;
      index = same₂;
      low = λ y. absurd (z y);
      goes = λ y. absurd (z y);
      stops = λ y D R.
          refuses_any (paragraph_items (abbreviation k i ps a) D) number place
          (refuse_first D number place
          (piece_refused skip k (body D) number place
          (T.stops y (idle skip []) (opened s₁ d skip [] nothing_before (P.stored.size ∙ A.size) A.few) (around D) D (begun D R) (nothing_known (expr_numbers a)))));
    })

    module _ (fine : number ≡ 0) where
      abbrev G₀ : Ghost
      G₀ = idle skip []

      abbrev Mine : ℕ → Type 0
      Mine = Owned (expr_numbers a)

      went : (D : Dictionary) → DictionaryHeld D d w → Introduced s₁ s₂ d 0 first_run n' top' G₀ (body D) Mine (slot (expr_node a) 0) cell
      went D R = T.goes fine G₀ (opened s₁ d skip [] nothing_before (P.stored.size ∙ A.size) A.few) (around D) D (begun D R) (nothing_known (expr_numbers a))

      ghost : (D : Dictionary) (R : DictionaryHeld D d w) → Ghost
      ghost D R = next s₁ s₂ d 0 first_run n' top' G₀ (body D) Mine (went D R).advanced

      pub closing_asked : Closing s₂ d n'
      closing_asked =
          let D = A.dictionary in
          let X = went D A.recorded in
          record { top = top'; ready = record { ghost = next s₁ s₂ d 0 first_run n' top' G₀ (body D) Mine X.advanced; stands = next_stands s₁ s₂ d 0 first_run n' top' G₀ (body D) Mine X.advanced A.few } }

      pub low_end : at₂ < pool_size
      low_end =
          let o = P.place in
          let q = (T.areas fine).short in
          let f = nodes_few in
          omega arith

      stored : Stored s s₂ 1 at₂
      stored = stored_on s s₁ s₂ 1 at₁ at₂ P.stored (T.areas fine).stored

      pub several : (s₃ : List ℕ) → Closed s₂ s₃ d n' false → (at count : ℕ) → ParagraphDone s s₃ d w w₂ p 34 k at count
      several s₃ C at count = subst (λ y. ParagraphDone s s₃ d w w₂ y 34 k at count) (sym e) (record {
        size = size₂;
        index = same₂;
        low = λ y. absurd (omega arith);
        goes = λ y. absurd (omega arith);
        stops = λ y D R.
            refuses_any (paragraph_items (abbreviation k i ps a) D) 34 k
            (refuse_first D 34 k (piece_several s₁ s₂ s₃ d n' top' skip [] k (body D) Mine (went D R).advanced A.few C));
      })

      module _ (s₃ : List ℕ) (C : Closed s₂ s₃ d n' true) where
        closed : (D : Dictionary) (R : DictionaryHeld D d w) → Walked skip (piece k (body D)) [] (went D R).advanced.mentioned Mine
        closed D R = piece_walked s₁ s₂ s₃ d n' top' skip [] k (body D) Mine (went D R).advanced A.few C

        shut : (D : Dictionary) (R : DictionaryHeld D d w) → Shut s₃ d n' (next s₁ s₂ d 0 first_run n' top' G₀ (body D) Mine (went D R).advanced)
        shut D R =
            C.goes refl top' (next s₁ s₂ d 0 first_run n' top' G₀ (body D) Mine (went D R).advanced) (next_stands s₁ s₂ d 0 first_run n' top' G₀ (body D) Mine (went D R).advanced A.few)

        abbrev type : (D : Dictionary) (R : DictionaryHeld D d w) → Ty
        type D R = (shut D R).type cell

        settled : (D : Dictionary) (R : DictionaryHeld D d w) → Settled (skip ⨾ piece k (body D)) (type_of a) (type D R)
        unfolding MeetsIn under
        settled D R τ m = (shut D R).types k (slot (expr_node a) 0) cell (went D R).placed τ (m.0, (tt, m.1))

        abbrev own_sizing : Sizing s₃ d n' cell
        own_sizing =
            let D = A.dictionary in
            let R = A.recorded in
            record {
              ghost = next s₁ s₂ d 0 first_run n' top' G₀ (body D) Mine (went D R).advanced;
              shut = shut D R;
              made = (placed_cell s₁ s₂ d 0 first_run n' top' G₀ (body D) Mine (went D R).advanced (slot (expr_node a) 0) cell (went D R).placed).made;
            }

        pub sizing : Sizing s₃ d n' cell
        sizing = own_sizing

        refuse_second : (D : Dictionary) (R : DictionaryHeld D d w) (f m : ℕ) → Refuses (rest D) (MeetsIn (skip ⨾ piece k (body D))) f m → Refuses (paragraph_items (abbreviation k i ps a) D) (MeetsIn skip) f m
        unfolding paragraph_items
        refuse_second D R f m r = refuses_second skip (piece k (body D)) (rest D) f m (closed D R).goes r

        -- 36
        pub clash : NewTold d w₂ (i ∷ []) false → (at count : ℕ) → ParagraphDone s s₃ d w w₂ p 36 k at count
        clash N at count = subst (λ y. ParagraphDone s s₃ d w w₂ y 36 k at count) (sym e) (record {
          size = size₂;
          index = same₂;
          low = λ y. absurd (omega arith);
          goes = λ y. absurd (omega arith);
          stops = λ y D R.
              refuses_any (paragraph_items (abbreviation k i ps a) D) 36 k
              (refuse_second D R 36 k
              (refuses_first (skip ⨾ piece k (body D)) (new_names k (i ∷ []) D) (small k (type_of a)) 36 k
              (N.stops refl D (skip ⨾ piece k (body D)) (went D R).advanced.mentioned k (indexed_in D d w w₂ same₂ R.holds) (closed D R).steady)));
        })

        module _ (N : NewTold d w₂ (i ∷ []) true) (v : ℕ) (Z : SizeIs s₃ d n' cell v) where
          new : (D : Dictionary) (R : DictionaryHeld D d w) → Walked (skip ⨾ piece k (body D)) (new_names k (i ∷ []) D) (went D R).advanced.mentioned (went D R).advanced.mentioned (λ x. ⊥)
          new D R = N.goes refl D (skip ⨾ piece k (body D)) (went D R).advanced.mentioned k (indexed_in D d w w₂ same₂ R.holds) (closed D R).steady

          measured : (D : Dictionary) (R : DictionaryHeld D d w) → v ≡ cap (size (type D R))
          measured D R = Z (next s₁ s₂ d 0 first_run n' top' G₀ (body D) Mine (went D R).advanced) (shut D R)

          settled_then : (D : Dictionary) (R : DictionaryHeld D d w) → Settled ((skip ⨾ piece k (body D)) ⨾ new_names k (i ∷ []) D) (type_of a) (type D R)
          unfolding MeetsIn
          settled_then D R τ m = settled D R τ m.0

          -- 38
          pub too_large : 32 < v → (at count : ℕ) → ParagraphDone s s₃ d w w₂ p 38 k at count
          too_large l at count = subst (λ y. ParagraphDone s s₃ d w w₂ y 38 k at count) (sym e) (record {
            size = size₂;
            index = same₂;
            low = λ y. absurd (omega arith);
            goes = λ y. absurd (omega arith);
            stops = λ y D R.
                refuses_any (paragraph_items (abbreviation k i ps a) D) 38 k
                (refuse_second D R 38 k
                (refuses_second (skip ⨾ piece k (body D)) (new_names k (i ∷ []) D) (small k (type_of a)) 38 k (new D R).goes
                (small_refused ((skip ⨾ piece k (body D)) ⨾ new_names k (i ∷ []) D) (went D R).advanced.mentioned k (type_of a) (type D R) (new D R).steady (settled_then D R)
                (cap_large v (type D R) (measured D R) l))));
          })
            where
              cap_large : (v : ℕ) (g : Ty) → v ≡ cap (size g) → 32 < v → 32 < size g
              cap_large v g q l = cap_cases (size g) (32 < size g) (λ m r. omega arith) (λ m r. omega arith)

          module _ (few-enough : v ≤ 32) where
            pub wording : Wording s₃ d n' cell (entries_at + 4)
            wording = let q = size_few (type A.dictionary A.recorded) v (measured A.dictionary A.recorded) few-enough in record { sizing = own_sizing; small = let z = q.0 in let y : size (type A.dictionary A.recorded) ≤ 32 = omega arith in y; place = omega arith }

            pub abbreviation_done : length s₃ ≡ length s₂ → (s₄ w₃ w₄ : List ℕ) (end len : ℕ) → n ≡ length ps → s₄ ≡ sets s₃ 1 (replicate (at₂ - 1) 0) → WordsAre s₃ d w₂ w₃ n' cell (entries_at + 4) end →
                len ≡ end - entries_at - 1 → w₄ ≡ sets w₃ entries_at (len ∷ 1 ∷ i ∷ n ∷ []) → ParagraphDone s s₄ d w w₄ p 0 place entries_at 1
            unfolding paragraph_items extend MeetsIn with_entries waiting entry_words under
            abbreviation_done z₃ s₄ w₃ w₄ end len c h W l hw = subst (λ y. ParagraphDone s s₄ d w w₄ y 0 place entries_at 1) (sym e) (record {
              size = let B = wrote A.dictionary A.recorded in ap length B.area ∙ length-sets w₂ entries_at (entry_waits (name_entry i (length ps) (type A.dictionary A.recorded))) ∙ size₂;
              index = same_on w w₂ w₄ same₂ (wrote_index w₂ w₄ entries_at end _ (omega arith) (wrote A.dictionary A.recorded));
              low = λ z.
                  ap lower h ∙ wiped_low s s₃ 1 at₂ A.size A.clean (omega arith) low_end (stored_kept s s₂ s₃ 1 at₂ (omega arith) stored z₃ C.low);
              goes = λ z D R.
                  let X = closed D R in
                  let Y = new D R in
                  let g = type D R in
                  let q = size_few g v (measured D R) few-enough in
                  let f = q.1 in
                  let y = q.0 in
                  let B₁ = small_noted ((skip ⨾ piece k (body D)) ⨾ new_names k (i ∷ []) D) (went D R).advanced.mentioned Mine k (type_of a) g Y.steady (settled_then D R) (omega arith) in
                  let B₂ = walked_then skip (piece k (body D)) (rest D) [] (went D R).advanced.mentioned (went D R).advanced.mentioned Mine nothing_before X
                  (walked_then (skip ⨾ piece k (body D)) (new_names k (i ∷ []) D) (small k (type_of a)) (went D R).advanced.mentioned (went D R).advanced.mentioned (went D R).advanced.mentioned Mine X.steady
                  (walked_mine (skip ⨾ piece k (body D)) (new_names k (i ∷ []) D) (went D R).advanced.mentioned (went D R).advanced.mentioned (λ j. ⊥) Mine (λ j o. absurd o) Y) B₁) in
                  let S = B₂.steady.some in
                  let E = name_entry i (length ps) g in
                  let u = A.wide in
                  let t = size₂ in
                  let x = length-append (words g) [] in
                  record {
                    passes = passes_any (piece k (body D) ⨾ rest D) B₂.goes;
                    table = S.0;
                    meets = S.1.1;
                    entries = E ∷ [];
                    counted = refl;
                    waits = one_waits E w₂ w₄ entries_at end (omega arith) (wrote D R);
                    short = omega arith;
                    extends = ap (λ (y : Ty). D ▸ name_entry i (length ps) y) (settled D R S.0 (S.1.0, S.1.1.0));
                  };
              stops = λ z. absurd (z refl);
            })
              where
                wrote : (D : Dictionary) (R : DictionaryHeld D d w) → Wrote w₂ w₄ entries_at end (entry_waits (name_entry i (length ps) (type D R)))
                wrote D R =
                    subst (λ j. Wrote w₂ w₄ entries_at end (entry_waits (name_entry i j (type D R)))) c
                    (head_wrote (words (type D R)) w₂ w₃ w₄ entries_at end len 1 i n (W (next s₁ s₂ d 0 first_run n' top' G₀ (body D) Mine (went D R).advanced) (shut D R)) l hw)
