-- Operands one after another: their cells stand in the words `parts`.
use mathlib.Core.Path.{◌≡◌, refl, sym, ap, subst, ◌∙◌}
use mathlib.Core.List.{List, [], ◌∷◌, ◌++◌}
use Prim.Native.Nat.{ℕ, suc, ◌+◌, ◌*◌, ◌≤◌, ◌<◌}
use native.Mathlib.Omega.{arith}
use lib.ListN.{length, get_or, set, take, length-set}
use lib.Seq.{ext_get_or, get_or-set_same, get_or-set_other}
use Rattle.reader_rules.specs.Limited.{LimitedExpr}
use Rattle.reader_rules.specs.Tree.{Expr, Exprs, none, more, exprs_length}
use Rattle.reader_rules.specs.TreeNumbers.{expr_numbers, exprs_numbers}
use Rattle.types_rules.specs.Types.{cons}
use Rattle.checker_rules.specs.Conditions.{type_of, types_of}
use Rattle.checker_rules.specs.Items.{skip, ◌⨾◌}
use Rattle.checker_rules.specs.Rules.{expr_items, exprs_items}
use Rattle.types_cells.specs.Layout.{max_cells}
use Rattle.types_cells.specs.Store.{run}
use Rattle.types_cells.proofs.Words.{run_at, run_length, run_cons}
use Rattle.checker_pieces.specs.Stage.{Cell, node_cells}
use Rattle.checker_pieces.specs.Building.{Cells}
use Rattle.checker_pieces.proofs.Walks.{stops_left}
use Rattle.checker_pieces.proofs.Stages.{next, next_cell, no_cells, skip_advanced, then_cells, room_less}
use Rattle.checker_contracts.specs.Visits.{Owned}
use Rattle.checker_contracts.specs.Expressions.{Visiting, ExprAsk, ExprDone, ExprsAsk, ExprsDone}
use Rattle.checker_contracts.specs.Parts.{nothing, Part, Ending}
use Rattle.checker_contracts.proofs.Nodes.{fresh_left}
use Rattle.checker_contracts.proofs.Scopes.{spared_refl, spared_on, stored_low}
use Rattle.checker_contracts.proofs.Visiting.{visiting_part, visiting_low}
use Rattle.checker_contracts.proofs.Parts.{part_then, part_part, part_next, part_leaves}
use Rattle.checker_contracts.proofs.Operands.{expr_part, exprs_ending}

-- Words of a row.
pub run_take : (w : List ℕ) (m : ℕ) → run w 0 m ≡ take m w
unfolding run
run_take w m = refl

-- The words before stay: number j of them too.
runs_equal : (v w : List ℕ) (m : ℕ) → m ≤ length v → m ≤ length w → ((i : ℕ) → i < m → get_or v i 0 ≡ get_or w i 0) → run v 0 m ≡ run w 0 m
runs_equal v w m p q h =
    let a = run_length v 0 m (omega arith) in
    let b = run_length w 0 m (omega arith) in
    ext_get_or 0 (run v 0 m) (run w 0 m) (a ∙ sym b) (λ i l. let r : i < m = omega arith in run_at v 0 m i r ∙ ap (λ z. get_or v z 0) (plus i) ∙ h i r ∙ sym (run_at w 0 m i r ∙ ap (λ z. get_or w z 0) (plus i)))
  where
    plus : (i : ℕ) → 0 + i ≡ i
    plus i = omega arith

run_words_lem : (v w : List ℕ) (m i : ℕ) → run v 0 m ≡ run w 0 m → i < m → get_or v i 0 ≡ get_or w i 0
run_words_lem v w m i e l =
    let z : 0 + i ≡ i = omega arith in
    sym (run_at v 0 m i l ∙ ap (λ k. get_or v k 0) z) ∙ ap (λ k. get_or k i 0) e ∙ run_at w 0 m i l ∙ ap (λ k. get_or w k 0) z

-- NO OPERAND.
pub exprs_none : (s d w : List ℕ) (rows n top at free : ℕ) (parts : List ℕ) (j place : ℕ) → ExprsAsk s d w rows n top at free none parts j →
    ExprsDone s s d w w rows n top at free none parts parts j 0 place n top at
unfolding exprs_items exprs_numbers exprs_length types_of run
exprs_none s d w rows n top at free parts j place K =
    let r = K.visiting.room.pool in
    record {
      spared = spared_refl w rows free;
      size = refl;
      earlier = refl;
      areas = λ z. record {
        stored = stored_low s s at refl (omega arith) K.visiting.clean refl;
        short = omega arith;
        uses = λ y R. room_less s n top y (node_cells * 0 + y) (omega arith) R;
      };
      goes = λ z G St Γ D C f.
          let A = skip_advanced s d n top G St (Owned []) in
          record { advanced = A; operands = no_cells s d n (next s s d n top n top G skip (Owned []) A) };
      stops = λ ne. absurd (ne refl);
    }

-- ONE MORE.
module _ (s d w : List ℕ) (rows n top at free : ℕ) (a : Expr) (xs : Exprs) (parts : List ℕ) (j : ℕ) (K : ExprsAsk s d w rows n top at free (more a xs) parts j) where
  abbrev l : List ℕ
  l = expr_numbers a

  abbrev m : List ℕ
  m = exprs_numbers xs

  unfoldable pub more_visiting : Visiting s d w rows n top at free K.height (l ++ m)
  unfolding exprs_numbers
  more_visiting = K.visiting

  pub more_ask : ExprAsk s d w rows n top at free a
  unfolding LimitedExpr
  more_ask = record {
    height = K.height;
    texts = K.texts;
    limited = K.limited.0;
    visiting = visiting_part s d w rows n top at free K.height K.height l m more_visiting (omega arith);
  }

  module _ (s₁ w₁ : List ℕ) (number place c n₁ top₁ at₁ : ℕ) (E : ExprDone s s₁ d w w₁ rows n top at free a number place c n₁ top₁ at₁) where
    pub more_stops : (number ≡ 0 → ⊥) → ExprsDone s s₁ d w w₁ rows n top at free (more a xs) parts parts j number place n₁ top₁ at₁
    unfolding exprs_items exprs_numbers
    more_stops ne = record {
      spared = E.spared;
      size = refl;
      earlier = refl;
      areas = λ z. absurd (ne z);
      goes = λ z. absurd (ne z);
      stops = λ q G St Γ D C f. stops_left G.before G.items (expr_items a Γ) (exprs_items xs Γ) number place (E.stops ne G St Γ D C (fresh_left l m G.mentioned f));
    }

    module _ (z : number ≡ 0) (parts₁ : List ℕ) (stored : parts₁ ≡ set parts j c) where
      abbrev First : Part s s₁ d w w₁ rows n top n₁ top₁ at at₁ free (expr_items a) l nothing (λ Γ D G. Cell s₁ d n₁ G c (type_of a))
      First = expr_part s s₁ d w w₁ rows n top at free a number place c n₁ top₁ at₁ E z

      abbrev M : Visiting s₁ d w₁ rows n₁ top₁ at₁ free K.height m
      M = part_next s s₁ d w w₁ rows n top n₁ top₁ at at₁ free K.height (expr_items a) l m nothing (λ Γ D G. Cell s₁ d n₁ G c (type_of a)) more_visiting First tt

      -- the cell is one of the store's
      pub more_made : c < n₁
      more_made = (part_leaves s s₁ d w w₁ rows n top n₁ top₁ at at₁ free K.height (expr_items a) l m nothing (λ Γ D G. Cell s₁ d n₁ G c (type_of a)) more_visiting First tt).made

      pub more_few : n₁ ≤ max_cells
      more_few = M.stands.piece.solved.held.few

      length₁ : length parts₁ ≡ length parts
      length₁ = ap length stored ∙ length-set parts j c

      pub more_then_ask : (i : ℕ) → i ≡ suc j → ExprsAsk s₁ d w₁ rows n₁ top₁ at₁ free xs parts₁ i
      unfolding LimitedExpr exprs_length
      more_then_ask i e = let q = K.wide in let r = length₁ in record { height = K.height; texts = K.texts; limited = K.limited.1; visiting = M; wide = omega arith }

      module _ (s₂ w₂ parts₂ : List ℕ) (i answer place₂ n₂ top₂ at₂ : ℕ) (next-j : i ≡ suc j) (R : ExprsDone s₁ s₂ d w₁ w₂ rows n₁ top₁ at₁ free xs parts₁ parts₂ i answer place₂ n₂ top₂ at₂) where
        length₂ : length parts₂ ≡ length parts
        length₂ = R.size ∙ length₁

        wide : suc (j + exprs_length xs) ≤ length parts
        unfolding exprs_length
        wide = let q = K.wide in omega arith

        word_kept : (q : ℕ) → q < suc j → get_or parts₂ q 0 ≡ get_or parts₁ q 0
        word_kept q p = run_words_lem parts₂ parts₁ (suc j) q (subst (λ k. run parts₂ 0 k ≡ run parts₁ 0 k) next-j R.earlier) p

        first_word : get_or parts₂ j 0 ≡ c
        first_word = let q = wide in word_kept j (omega arith) ∙ ap (λ v. get_or v j 0) stored ∙ get_or-set_same parts j c 0 (omega arith)

        -- its cell and those after it
        cells_are : run parts₂ j (exprs_length (more a xs)) ≡ c ∷ run parts₂ i (exprs_length xs)
        unfolding exprs_length
        cells_are =
            let q = wide in
            let r = length₂ in
            run_cons parts₂ j (exprs_length xs) (omega arith) ∙ ap (λ k. k ∷ run parts₂ (suc j) (exprs_length xs)) first_word ∙ ap (λ k. c ∷ run parts₂ k (exprs_length xs)) (sym next-j)

        pub more_earlier : run parts₂ 0 j ≡ run parts 0 j
        more_earlier =
            let q = wide in
            let r = length₂ in
            runs_equal parts₂ parts j (omega arith) (omega arith)
            (λ q p. word_kept q (omega arith) ∙ ap (λ v. get_or v q 0) stored ∙ get_or-set_other parts j q c 0 (λ e. omega arith))

        Second : answer ≡ 0 → Part s₁ s₂ d w₁ w₂ rows n₁ top₁ n₂ top₂ at₁ at₂ free (exprs_items xs) m (λ Γ D G. Cell s₁ d n₁ G c (type_of a)) (λ Γ D G. Cells s₂ d n₂ G (c ∷ run parts₂ i (exprs_length xs)) (cons (type_of a) (types_of xs)))
        unfolding Cells
        Second y = record {
          step = record {
            spared = R.spared;
            stored = (R.areas y).stored;
            goes = λ G St Γ D C f b.
                let I = R.goes y G St Γ D C f in
                record { advanced = I.advanced; holds = (next_cell s₁ s₂ d n₁ top₁ n₂ top₂ G (exprs_items xs Γ) (Owned m) I.advanced c (type_of a) b, I.operands) };
          };
          areas = R.areas y;
        }

        abbrev L : Visiting s d w rows n top at free K.height (l ++ m)
        L = more_visiting

        Both : answer ≡ 0 → Part s s₂ d w w₂ rows n top n₂ top₂ at at₂ free (λ Γ. expr_items a Γ ⨾ exprs_items xs Γ) (l ++ m) nothing (λ Γ D G. Cells s₂ d n₂ G (c ∷ run parts₂ i (exprs_length xs)) (cons (type_of a) (types_of xs)))
        Both y =
            part_part s s₁ s₂ d w w₁ w₂ rows n top n₁ top₁ n₂ top₂ at at₁ at₂ free (expr_items a) (exprs_items xs) l m nothing (λ Γ D G. Cell s₁ d n₁ G c (type_of a))
            (λ Γ D G. Cells s₂ d n₂ G (c ∷ run parts₂ i (exprs_length xs)) (cons (type_of a) (types_of xs)))
            L.size L.clean L.room.some (visiting_low s d w rows n top at free K.height (l ++ m) L) L.once First (Second y)
            (λ Γ D G A B. then_cells s s₁ d n top n₁ top₁ G (expr_items a Γ) (Owned (l ++ m)) A (exprs_items xs Γ) s₂ n₂ top₂ B (c ∷ run parts₂ i (exprs_length xs)) (cons (type_of a) (types_of xs)))

        Stopped : (answer ≡ 0 → ⊥) → Ending s s₂ d w w₂ rows n top at free (λ Γ. expr_items a Γ ⨾ exprs_items xs Γ) (l ++ m) nothing 0 answer place₂ 0 n₂ top₂ at₂
        Stopped ne =
            part_then s s₁ s₂ d w w₁ w₂ rows n top n₁ top₁ at at₁ free (expr_items a) (exprs_items xs) l m nothing (λ Γ D G. Cell s₁ d n₁ G c (type_of a)) 0 answer place₂ 0 n₂ top₂ at₂
            L.size L.clean L.room.some (visiting_low s d w rows n top at free K.height (l ++ m) L) L.once First
            (exprs_ending s₁ s₂ d w₁ w₂ rows n₁ top₁ at₁ free xs parts₁ parts₂ i answer place₂ n₂ top₂ at₂ R ne (λ Γ D G. Cell s₁ d n₁ G c (type_of a)) 0 0)

        pub more_done : ExprsDone s s₂ d w w₂ rows n top at free (more a xs) parts parts₂ j answer place₂ n₂ top₂ at₂
        unfolding exprs_items exprs_numbers types_of
        more_done = record {
          spared = spared_on w w₁ w₂ rows free E.spared R.spared;
          size = length₂;
          earlier = more_earlier;
          areas = λ y. (Both y).areas;
          goes = λ y G St Γ D C f. let I = (Both y).step.goes G St Γ D C f tt in record { advanced = I.advanced; operands = rw cells_are I.holds };
          stops = λ ne G St Γ D C f. (Stopped ne).stops ne G St Γ D C f tt;
        }
