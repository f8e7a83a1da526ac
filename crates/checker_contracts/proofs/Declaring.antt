-- A DECL, as a line alone: its set is a closed piece and a power (33, 34, 39); its identifiers get the element type (36, 38).
use mathlib.Core.Path.{◌≡◌, refl, sym, ap, subst, ◌∙◌}
use mathlib.Core.Bool.{Bool, true, false}
use mathlib.Core.List.{List, [], ◌∷◌, ◌++◌}
use mathlib.Core.Logic.{◌⊎◌, inl, inr, ⊎_elim}
use Prim.Native.Nat.{ℕ, zero, suc, ◌+◌, ◌*◌, ◌-◌, ◌≤◌, ◌<◌, ◌^◌}
use native.Mathlib.Omega.{arith}
use lib.ListN.{length, get_or, replicate, length-append}
use lib.Seq.{sets, length-sets}
use Rattle.reader_rules.specs.Limited.{LimitedExpr, LimitedLines}
use Rattle.reader_rules.specs.Tree.{Expr, expr_node, Lines, end, declaration}
use Rattle.reader_rules.specs.TreeNumbers.{expr_numbers, lines_numbers}
use Rattle.types_rules.specs.Equations.{In}
use Rattle.types_rules.specs.Formed.{WellFormed}
use Rattle.types_rules.specs.Types.{Ty, Term, Each, size}
use Rattle.checker_rules.specs.Conditions.{merge_declared, new_names, few_names, is_power}
use Rattle.checker_rules.specs.Dictionary.{Dictionary}
use Rattle.checker_rules.specs.Items.{Items, skip, ◌⨾◌, small, piece, Refuses, MeetsIn}
use Rattle.checker_rules.specs.Rules.{expr_items, lines_items}
use Rattle.checker_rules.specs.Scopes.{Scope, lines_signature}
use Rattle.checker_rules.specs.Signatures.{Signature, count_names, declare}
use Rattle.checker_rules.specs.Unknowns.{slot, unknown_at}
use Rattle.reader_rules.proofs.Sized.{SizedExpr}
use Rattle.types_cells.specs.Layout.{first_run, area_size, pool_size, type_words}
use Rattle.types_cells.specs.Settled.{lower, heap, Reads}
use Rattle.types_solver.specs.Sizes.{cap}
use Rattle.types_solver.proofs.Marking.{cap_cases}
use Rattle.checker_signatures.specs.Rows.{rows, flat, declare_rows}
use Rattle.checker_signatures.specs.Carried.{Carries}
use Rattle.checker_signatures.specs.Tables.{Table}
use Rattle.checker_signatures.proofs.CarryLaws.{carries_declare, carries_count, carries_other}
use Rattle.checker_signatures.proofs.RowLaws.{rows_length_lem, rows_kept, get_d_below}
use Rattle.checker_signatures.proofs.TableLaws.{table_rows, table_length, declare_count}
use Rattle.checker_dictionary.specs.Index.{Indexed}
use Rattle.checker_lookup.proofs.HeldLaws.{indexed_in}
use Rattle.types_instances.specs.Clean.{Clean}
use Rattle.types_instances.proofs.FillSizes.{size_few}
use Rattle.types_instances.proofs.CleanLaws.{wiped_clean}
use Rattle.types_instances.proofs.Moving.{sets_before}
use Rattle.checker_pieces.specs.Piece.{Steady, Walked, Settled}
use Rattle.checker_pieces.specs.Stage.{Ghost, Room, Uses, node_cells}
use Rattle.checker_pieces.proofs.Stages.{room_less}
use Rattle.checker_pieces.specs.Building.{Powered, Working}
use Rattle.checker_pieces.specs.Closed.{Closing, Closed, Shut, Sizing, SizeIs}
use Rattle.checker_pieces.proofs.Between.{walked_mine, settled_later, small_noted, small_refused}
use Rattle.checker_lookup.specs.Scoped.{Scoped}
use Rattle.checker_includes.specs.Components.{Placed, StandsFor}
use Rattle.checker_includes.specs.Storing.{Stored, Scratch}
use Rattle.checker_contracts.specs.Visits.{Owned, Fresh, EachOnce, idle, Spared, globals_if}
use Rattle.checker_contracts.specs.Room.{Between, Inside, frames_at, node_type_words}
use Rattle.checker_contracts.specs.Expressions.{ExprAsk, ExprDone}
use Rattle.checker_contracts.specs.Predicates.{Walking}
use Rattle.checker_contracts.specs.Texts.{LinesAsk, LinesWent, LinesDone}
use Rattle.checker_contracts.proofs.Nodes.{once_left, once_apart, owned_left, owned_right, owned_node, fresh_left, unvisited, last_in}
use Rattle.checker_contracts.proofs.Rooms.{inside_part, begin_inside, inside_room}
use Rattle.checker_contracts.proofs.Scopes.{spared_less, carries_stored, carries_spared, carries_walked, carries_later}
use Rattle.checker_contracts.proofs.Opening.{opened}
use Rattle.checker_contracts.proofs.Elements.{Element, ElementOwned, ElementNew, element_items, element_stopped, element_working, element_unequal, element_closing, element_several}
use Rattle.checker_contracts.proofs.Elements.{element_sizing, element_done, element_clean, element_gap, element_stored, element_spared, element_size}
use Rattle.checker_contracts.proofs.ItemOrder.{Order, nothing, grouped, listed, after, AllPass, AllWalked, refuses_at, all_walked}
use Rattle.checker_contracts.proofs.LineItems.{line_order}
use Rattle.checker_contracts.proofs.Counting.{declare_grows, declare_same, declare_kept, few_noted, few_refused}
use Rattle.checker_contracts.proofs.Refused.{done_refused}

-- Words stored and wiped.
pub stored_wiped : (s s' : List ℕ) (at e : ℕ) → length s ≡ area_size → Clean s at → 1 ≤ at → e < pool_size → Stored s s' at e → Stored s (sets s' at (replicate (e - at) 0)) at at
stored_wiped s s' at e z C o r T =
    let x = T.size in
    let y = T.more in
    record {
      size = length-sets s' at (replicate (e - at) 0) ∙ T.size;
      before = λ i l. sets_before s' at (replicate (e - at) 0) i l ∙ T.before i l;
      after = wiped_clean s' at e o y r (omega arith) (T.before (at - 1) (omega arith) ∙ C (at - 1) (omega arith) (omega arith)) T.after;
      more = omega arith;
    }

-- Room for a power after the expression.
pub after_room : (s s' w : List ℕ) (rows n top at free h x : ℕ) → Inside s w rows 0 first_run at free h x → Uses s s' 0 first_run n top (node_cells * x) → Room s' n top 2
after_room s s' w rows n top at free h x I U =
    let e = I.enough in
    let f = I.few in
    U 2 (room_less s 0 first_run (node_cells * x + 2) (node_cells * (24 - I.visited) + node_cells) (omega arith) I.store)

-- A closed piece of one expression begins between pieces, where it has at most 24 nodes.
pub begin_ask : (s d w : List ℕ) (rows at free h h' t : ℕ) (a : Expr) (l : List ℕ) (K : Walking s d w rows at free h l) → h' ≤ h → LimitedExpr h' t a →
    length (expr_numbers a) ≤ 24 → length (expr_numbers a) ≤ length l → Fresh (expr_numbers a) K.known → EachOnce (expr_numbers a) → ExprAsk s d w rows 0 first_run at free a
begin_ask s d w rows at free h h' t a l K p L few part F o = record {
  height = h';
  texts = t;
  limited = L;
  visiting = record {
    ghost = idle K.before K.known;
    stands = opened s d K.before K.known K.steady K.size K.few;
    scope = K.scope;
    dictionary = K.dictionary;
    scoped = K.scoped;
    fresh = F;
    once = o;
    size = K.size;
    clean = K.clean;
    room =
        let q = ⊎_elim (λ (z : 24 ≤ K.bound). let y : length (expr_numbers a) ≤ K.bound = omega arith in y) (λ (z : length l ≤ K.bound). let y : length (expr_numbers a) ≤ K.bound = omega arith in y) K.crowd in
        inside_part s w rows 0 first_run at free h h' (length (expr_numbers a)) (length (expr_numbers a)) (begin_inside s w rows at free h K.bound (length (expr_numbers a)) K.room q) p (omega arith);
  };
}

module _ (s d w : List ℕ) (stack base m at free n : ℕ) (a : Expr) (is : List ℕ) (global : Bool) (Q : LinesAsk s d w stack base m at free (declaration n a is end)) where
  abbrev line : Lines
  line = declaration n a is end

  abbrev l : List ℕ
  l = expr_numbers a

  abbrev K : Walking s d w stack at free Q.height (lines_numbers line)
  K = Q.walking

  abbrev t : Term
  t = unknown_at n 0

  decl_once : EachOnce (l ++ (n ∷ []))
  unfolding lines_numbers
  decl_once = once_left (l ++ (n ∷ [])) [] K.once

  decl_apart : In n l → ⊥
  decl_apart i = once_apart l (n ∷ []) decl_once n i (inl refl)

  decl_new : (U : List ℕ) → Fresh (lines_numbers line) U → ElementNew a n 0 U
  unfolding lines_numbers
  decl_new U F = let G = fresh_left (l ++ (n ∷ [])) [] U F in (fresh_left l (n ∷ []) U G, unvisited (l ++ (n ∷ [])) U G n (last_in l n) 0 (omega arith))

  decl_owned : (y : ℕ) → ElementOwned a n 0 y → Owned (lines_numbers line) y
  unfolding lines_numbers
  decl_owned y (inl o) = owned_left (l ++ (n ∷ [])) [] y (owned_left l (n ∷ []) y o)
  decl_owned y (inr e) = owned_left (l ++ (n ∷ [])) [] y (owned_right l (n ∷ []) y (owned_node n y (0, omega arith, e)))

  pub decl_ask : ExprAsk s d w stack 0 first_run at free a
  unfolding lines_numbers LimitedLines
  decl_ask =
      let x = length-append l (n ∷ []) in
      let y = length-append (l ++ (n ∷ [])) [] in
      begin_ask s d w stack at free Q.height (Q.height - 1) Q.texts a ((l ++ (n ∷ [])) ++ []) K (omega arith) Q.limited.2 Q.limited.1 (omega arith)
      (decl_new K.known K.fresh).0 (once_left l (n ∷ []) decl_once)

  decl_low : (at < pool_size) × (2 * stack ≤ frames_at)
  decl_low = let p = K.room.pool in let q = K.room.stack in (omega arith, omega arith)

  abbrev order : Scope → Dictionary → Signature → Order
  order Γ G r = line_order (piece n (element_items a n 0 Γ)) (merge_declared n is t r) (new_names n is G) (small n t) (few_names n (declare is t r)) nothing

  abbrev decl_items : Scope → Dictionary → Signature → Items
  decl_items Γ G r = grouped (order Γ G r)

  -- A FINDING.
  abbrev Refused : ℕ → ℕ → Type 0
  Refused number place = (Γ : Scope) (D : Dictionary) (H : Items) (U : List ℕ) → Steady H U → Scoped s d w stack (idle H U) Γ D → ElementNew a n 0 U →
      (r : Signature) → Carries (Placed s d H U) r (rows w base m) → Refuses (decl_items Γ (globals_if global D) r) (MeetsIn H) number place

  refuses : (s' w' : List ℕ) (number place m' at' : ℕ) → Spared w w' stack base → (number ≡ 0 → ⊥) → Refused number place →
      LinesDone s s' d w w' stack base m at free line global number place m' at'
  unfolding lines_items grouped
  refuses s' w' number place m' at' P e R = record { done = done_refused P e (λ H U S Γ D C r I. let F = I.0 in let J = I.1 in R Γ D H U S C (decl_new U F) r J) }

  module _ (s₁ w₁ : List ℕ) (number place cell c₁ top₁ at₁ : ℕ) (A : ExprDone s s₁ d w w₁ stack 0 first_run at free a number place cell c₁ top₁ at₁) where
    spared₁ : Spared w w₁ stack base
    spared₁ = let b = Q.beside in spared_less w w₁ stack stack free base (omega arith) (omega arith) A.spared

    pub decl_stopped : (number ≡ 0 → ⊥) → (m' at' : ℕ) → LinesDone s s₁ d w w₁ stack base m at free line global number place m' at'
    unfolding listed after AllPass
    decl_stopped e m' at' =
        refuses s₁ w₁ number place m' at' spared₁ e
        (λ Γ D H U S C F r J.
        refuses_at (order Γ (globals_if global D) r) H 0 number place tt
        (element_stopped s d w stack at free a n 0 K.size K.few decl_apart (omega arith) s₁ w₁ number place cell c₁ top₁ at₁ A Γ D H U S C F e))

    module _ (fine : number ≡ 0) where
      -- Any reading gives what is asked: that of the lines' own.
      pub decl_working : Working s₁ d c₁ top₁ 2 (cell ∷ [])
      decl_working =
          let I = decl_ask.visiting.room in
          element_working s d w stack at free a n 0 K.size K.few decl_apart (omega arith) s₁ w₁ number place cell c₁ top₁ at₁ A K.scope K.dictionary K.before K.known
          K.steady K.scoped (decl_new K.known K.fresh) fine
          (after_room s s₁ w stack c₁ top₁ at free decl_ask.height (length l) I (A.areas fine).uses)

      module _ (s₂ : List ℕ) (number₂ : ℕ) (P : Powered s₁ s₂ d c₁ top₁ cell number₂) where
        pub decl_unequal : (number₂ ≡ 0 → ⊥) → (m' at' : ℕ) → LinesDone s s₂ d w w₁ stack base m at free line global number₂ n m' at'
        unfolding listed after AllPass
        decl_unequal e m' at' =
            refuses s₂ w₁ number₂ n m' at' spared₁ e
            (λ Γ D H U S C F r J.
            refuses_at (order Γ (globals_if global D) r) H 0 number₂ n tt
            (element_unequal s d w stack at free a n 0 K.size K.few decl_apart (omega arith) s₁ w₁ number place cell c₁ top₁ at₁ A Γ D H U S C F fine s₂ number₂ P e))

        module _ (yes : number₂ ≡ 0) where
          pub decl_closing : Closing s₂ d (c₁ + 2)
          decl_closing =
              element_closing s d w stack at free a n 0 K.size K.few decl_apart (omega arith) s₁ w₁ number place cell c₁ top₁ at₁ A K.scope K.dictionary K.before K.known
              K.steady K.scoped (decl_new K.known K.fresh) fine s₂ number₂ P yes

          module _ (s₃ : List ℕ) where
            pub decl_several : Closed s₂ s₃ d (c₁ + 2) false → (m' at' : ℕ) → LinesDone s s₃ d w w₁ stack base m at free line global 34 n m' at'
            unfolding listed after AllPass
            decl_several Z m' at' =
                refuses s₃ w₁ 34 n m' at' spared₁ (λ z. omega arith)
                (λ Γ D H U S C F r J.
                refuses_at (order Γ (globals_if global D) r) H 0 34 n tt
                (element_several s d w stack at free a n 0 K.size K.few decl_apart (omega arith) s₁ w₁ number place cell c₁ top₁ at₁ A Γ D H U S C F fine s₂ number₂ P yes s₃ Z))

            module _ (Z : Closed s₂ s₃ d (c₁ + 2) true) where
              pub decl_sizing : Sizing s₃ d (c₁ + 2) c₁
              decl_sizing =
                  element_sizing s d w stack at free a n 0 K.size K.few decl_apart (omega arith) s₁ w₁ number place cell c₁ top₁ at₁ A K.scope K.dictionary K.before K.known
                  K.steady K.scoped (decl_new K.known K.fresh) fine s₂ number₂ P yes s₃ Z

              pub decl_size : length s₃ ≡ area_size
              decl_size =
                  element_size s d w stack at free a n 0 K.size K.few decl_apart (omega arith) s₁ w₁ number place cell c₁ top₁ at₁ A K.scope K.dictionary K.before K.known
                  K.steady K.scoped (decl_new K.known K.fresh) fine s₂ number₂ P yes s₃ Z

              pub decl_clean : Clean s₃ at₁
              decl_clean =
                  element_clean s d w stack at free a n 0 K.size K.few decl_apart (omega arith) s₁ w₁ number place cell c₁ top₁ at₁ A fine s₂ number₂ P s₃ true Z
                  (decl_size ∙ sym K.size) decl_low.0

              pub decl_gap : (i : ℕ) → suc i ≡ at → get_or s₃ i 0 ≡ 0
              decl_gap =
                  element_gap s d w stack at free a n 0 K.size K.few decl_apart (omega arith) s₁ w₁ number place cell c₁ top₁ at₁ A fine s₂ number₂ P s₃ true Z
                  (decl_size ∙ sym K.size) decl_low.0 K.clean

              -- The pool stays within its part.
              pub decl_room : (1 ≤ at) × (at ≤ at₁) × (at₁ + node_type_words ≤ 38000) × (free + type_words ≤ length w₁) × (free < 2 ^ 32)
              unfolding lines_numbers LimitedLines
              decl_room =
                  let o = K.room.some in
                  let x = (A.areas fine).stored.more in
                  let y = (A.areas fine).short in
                  let g = K.room.pool in
                  let f = K.room.frames in
                  let v = K.room.wide in
                  let z = A.spared.size in
                  let u = Q.limited.1 in
                  let q = K.room.few in
                  let c = bounded K.crowd u in
                  (o, x, omega arith, omega arith, omega arith)
                where
                  bounded : (24 ≤ K.bound) ⊎ (length ((l ++ (n ∷ [])) ++ []) ≤ K.bound) → length l ≤ 24 → length l ≤ K.bound
                  bounded (inl q) u = omega arith
                  bounded (inr q) u = let x = length-append l (n ∷ []) in let y = length-append (l ++ (n ∷ [])) [] in omega arith

              -- THE TYPE IS STORED.
              module _ (sized : SizedExpr a) (s₄ w₂ : List ℕ) (v e : ℕ) (measured : SizeIs s₃ d (c₁ + 2) c₁ v) (stored : Stored s₃ s₄ at e) (scratch : Scratch w₁ w₂ free)
                  (short : e ≤ at + type_words)
                  (stands : (G : Ghost) (S : Shut s₃ d (c₁ + 2) G) → WellFormed (S.type c₁) → (h : Ty) × Reads (heap s₄ d) at h × StandsFor h (S.type c₁)) where
                abbrev HasSize : Ty → Type 0
                HasSize g = v ≡ cap (size g)

                stored₄ : Stored s s₄ at e
                stored₄ =
                    element_stored s d w stack at free a n 0 K.size K.few decl_apart (omega arith) s₁ w₁ number place cell c₁ top₁ at₁ A fine s₂ number₂ P s₃ true Z
                    (decl_size ∙ sym K.size) decl_low.0 s₄ e stored

                spared₂ : Spared w w₂ stack free
                spared₂ =
                    let q = K.room.low in
                    let u = decl_low.1 in
                    element_spared s d w stack at free a n 0 K.size K.few decl_apart (omega arith) s₁ w₁ number place cell c₁ top₁ at₁ A w₂ scratch (omega arith) K.room.low

                spared₂_base : Spared w w₂ stack base
                spared₂_base = let q = Q.beside in spared_less w w₂ stack stack free base (omega arith) (omega arith) spared₂

                -- any items before
                module _ (Γ : Scope) (D : Dictionary) (H : Items) (U : List ℕ) (S : Steady H U) (C : Scoped s d w stack (idle H U) Γ D) (F : ElementNew a n 0 U) (r : Signature)
                    (J : Carries (Placed s d H U) r (rows w base m)) where
                  abbrev c : Items
                  c = piece n (element_items a n 0 Γ)

                  abbrev E : Element s₄ d H c U (ElementOwned a n 0) n 0 at HasSize
                  E =
                      element_done s d w stack at free a n 0 K.size K.few decl_apart (omega arith) s₁ w₁ number place cell c₁ top₁ at₁ A fine s₂ number₂ P yes s₃ Z sized s₄ at HasSize measured
                      stands Γ D H U S C F

                  over : Each (λ y. In y E.unknowns) t
                  unfolding Each
                  over = E.over

                  -- a small type stands at `at`
                  reads : size E.type ≤ 32 → Reads (heap s₄ d) at E.type
                  reads q = ⊎_elim (λ e₀. subst (Reads (heap s₄ d) at) e₀ E.reads) (λ e₀. let x = e₀.1 in absurd (omega arith)) E.alike

                  -- the table of the lines before
                  J₁ : Carries (Placed s₄ d (H ⨾ c) E.unknowns) r (rows w₂ base m)
                  J₁ =
                      let q = Q.beside in
                      let f = Q.few in
                      carries_spared w w₂ stack free base m (Placed s₄ d (H ⨾ c) E.unknowns) r spared₂ Q.low (omega arith)
                      (carries_walked s₄ d H c U E.unknowns (ElementOwned a n 0) E.walked r (rows w base m)
                      (carries_stored s s₄ d at e K.size K.clean K.room.some decl_low.0 stored₄ H U r (rows w base m) J))

                -- 36: beside the lines before.
                pub decl_clash : ((H : Items) (U : List ℕ) (n : ℕ) (u : Term) (g : Ty) (r : Signature) → Steady H U → Settled H u g → Each (λ x. In x U) u → v ≡ cap (size g) →
                    (size g ≤ 32 → Reads (heap s₄ d) at g) → Carries (Placed s₄ d H U) r (rows w₂ base m) → Refuses (merge_declared n is u r) (MeetsIn H) 36 n) → (m' at' : ℕ) →
                    LinesDone s s₄ d w w₂ stack base m at free line global 36 n m' at'
                unfolding listed after AllPass
                decl_clash X m' at' =
                    refuses s₄ w₂ 36 n m' at' spared₂_base (λ z. omega arith)
                    (λ Γ D H U S C F r J.
                    let T = E Γ D H U S C F r J in
                    refuses_at (order Γ (globals_if global D) r) H 1 36 n (T.walked.goes, tt)
                    (X (H ⨾ c Γ D H U S C F r J) T.unknowns n t T.type r T.walked.steady T.settled (over Γ D H U S C F r J) T.sized (reads Γ D H U S C F r J)
                    (J₁ Γ D H U S C F r J)))

                module _ (fits : (H : Items) (U : List ℕ) (n : ℕ) (u : Term) (g : Ty) (r : Signature) → Steady H U → Settled H u g → Each (λ x. In x U) u → v ≡ cap (size g) →
                    (size g ≤ 32 → Reads (heap s₄ d) at g) → Carries (Placed s₄ d H U) r (rows w₂ base m) → Walked H (merge_declared n is u r) U U (λ x. ⊥)) where
                  module _ (Γ : Scope) (D : Dictionary) (H : Items) (U : List ℕ) (S : Steady H U) (C : Scoped s d w stack (idle H U) Γ D) (F : ElementNew a n 0 U) (r : Signature)
                      (J : Carries (Placed s d H U) r (rows w base m)) where
                    abbrev H₁ : Items
                    H₁ = H ⨾ c Γ D H U S C F r J

                    abbrev T₁ : Element s₄ d H (c Γ D H U S C F r J) U (ElementOwned a n 0) n 0 at HasSize
                    T₁ = E Γ D H U S C F r J

                    W₂ : Walked H₁ (merge_declared n is t r) T₁.unknowns T₁.unknowns (λ x. ⊥)
                    W₂ =
                        fits H₁ T₁.unknowns n t T₁.type r T₁.walked.steady T₁.settled (over Γ D H U S C F r J) T₁.sized (reads Γ D H U S C F r J) (J₁ Γ D H U S C F r J)

                  -- 36: global already.
                  pub decl_global : ((D : Dictionary) (H : Items) (U : List ℕ) (n : ℕ) → Indexed D d w₂ → Steady H U → Refuses (new_names n is (globals_if global D)) (MeetsIn H) 36 n) →
                      (m' at' : ℕ) → LinesDone s s₄ d w w₂ stack base m at free line global 36 n m' at'
                  unfolding listed after AllPass
                  decl_global X m' at' =
                      refuses s₄ w₂ 36 n m' at' spared₂_base (λ z. omega arith)
                      (λ Γ D H U S C F r J.
                      let T = T₁ Γ D H U S C F r J in
                      let W = W₂ Γ D H U S C F r J in
                      refuses_at (order Γ (globals_if global D) r) H 2 36 n (T.walked.goes, (W.goes, tt))
                      (X D (H₁ Γ D H U S C F r J ⨾ merge_declared n is t r) T.unknowns n (indexed_in D d w w₂ spared₂_base.index C.recorded.holds) W.steady))

                  module _ (new : (D : Dictionary) (H : Items) (U : List ℕ) (n : ℕ) → Indexed D d w₂ → Steady H U → Walked H (new_names n is (globals_if global D)) U U (λ x. ⊥)) where
                    module _ (Γ : Scope) (D : Dictionary) (H : Items) (U : List ℕ) (S : Steady H U) (C : Scoped s d w stack (idle H U) Γ D) (F : ElementNew a n 0 U) (r : Signature)
                        (J : Carries (Placed s d H U) r (rows w base m)) where
                      W₃ : Walked (H₁ Γ D H U S C F r J ⨾ merge_declared n is t r) (new_names n is (globals_if global D)) (E Γ D H U S C F r J).unknowns (E Γ D H U S C F r J).unknowns (λ x. ⊥)
                      W₃ =
                          new D (H₁ Γ D H U S C F r J ⨾ merge_declared n is t r) (E Γ D H U S C F r J).unknowns n (indexed_in D d w w₂ spared₂_base.index C.recorded.holds) (W₂ Γ D H U S C F r J).steady

                      abbrev H₃ : Items
                      H₃ = (H₁ Γ D H U S C F r J ⨾ merge_declared n is t r) ⨾ new_names n is (globals_if global D)

                      settled₃ : Settled H₃ t (E Γ D H U S C F r J).type
                      settled₃ =
                          settled_later (H₁ Γ D H U S C F r J ⨾ merge_declared n is t r) (new_names n is (globals_if global D)) t (E Γ D H U S C F r J).type
                          (settled_later (H₁ Γ D H U S C F r J) (merge_declared n is t r) t (E Γ D H U S C F r J).type (E Γ D H U S C F r J).settled)

                    -- 38: the type.
                    pub decl_large : 32 < v → (m' at' : ℕ) → LinesDone s s₄ d w w₂ stack base m at free line global 38 n m' at'
                    unfolding listed after AllPass
                    decl_large q m' at' =
                        refuses s₄ w₂ 38 n m' at' spared₂_base (λ z. omega arith)
                        (λ Γ D H U S C F r J.
                        let T = T₁ Γ D H U S C F r J in
                        let x = T.sized in
                        let o : 32 < size T.type = cap_cases (size T.type) _ (λ i j. omega arith) (λ i j. omega arith) in
                        refuses_at (order Γ (globals_if global D) r) H 3 38 n (T.walked.goes, ((W₂ Γ D H U S C F r J).goes, ((W₃ Γ D H U S C F r J).goes, tt)))
                        (small_refused (H₃ Γ D H U S C F r J) T.unknowns n t T.type (W₃ Γ D H U S C F r J).steady (settled₃ Γ D H U S C F r J) o))

                    -- THE TABLE with the identifiers.
                    module _ (light : v ≤ 32) (w₃ : List ℕ) (count : ℕ) (Tb : Table w₂ w₃ base (declare_rows is at (rows w₂ base m)) count) (fit : base + 2 * (m + length is) ≤ length w₂) where
                      spared₃ : Spared w w₃ stack base
                      spared₃ =
                          let q = Q.low in
                          let u = decl_low.1 in
                          record {
                            size = table_length w₂ base w₃ (declare_rows is at (rows w₂ base m)) count Tb ∙ spared₂.size;
                            scope = λ i h. same i (omega arith) ∙ spared₂_base.scope i h;
                            index = λ i h k. same i (omega arith) ∙ spared₂_base.index i h k;
                            frames = λ i h k. same i k ∙ spared₂_base.frames i h k;
                          }
                        where
                          same : (i : ℕ) → i < base → get_or w₃ i 0 ≡ get_or w₂ i 0
                          same i q = ap (λ z. get_or z i 0) Tb.words ∙ get_d_below (flat (declare_rows is at (rows w₂ base m))) w₂ base i q

                      count_is : count ≡ length (declare_rows is at (rows w₂ base m))
                      count_is = Tb.count

                      grows : m ≤ count
                      grows = let x = declare_grows is at (rows w₂ base m) in let y = rows_length_lem w₂ base m in let z = count_is in omega arith

                      inside : base + 2 * count ≤ length w₂
                      inside = let x = declare_count is at (rows w₂ base m) in let y = rows_length_lem w₂ base m in let z = count_is in omega arith

                      rows₃ : rows w₃ base count ≡ declare_rows is at (rows w₂ base m)
                      rows₃ = table_rows w₂ base w₃ (declare_rows is at (rows w₂ base m)) count Tb inside

                      module _ (Γ : Scope) (D : Dictionary) (H : Items) (U : List ℕ) (S : Steady H U) (C : Scoped s d w stack (idle H U) Γ D) (F : ElementNew a n 0 U) (r : Signature)
                          (J : Carries (Placed s d H U) r (rows w base m)) where
                        abbrev T₃ : Element s₄ d H (c Γ D H U S C F r J) U (ElementOwned a n 0) n 0 at HasSize
                        T₃ = E Γ D H U S C F r J

                        small₃ : size T₃.type ≤ 32
                        small₃ = let x = (size_few T₃.type v T₃.sized light).0 in omega arith

                        placed : Placed s₄ d (H₁ Γ D H U S C F r J) T₃.unknowns t at
                        placed = record {
                          typed = record { type = T₃.type; reads = reads Γ D H U S C F r J small₃; settled = T₃.settled; over = over Γ D H U S C F r J };
                          small = small₃;
                        }

                        declared : Carries (Placed s₄ d (H₁ Γ D H U S C F r J) T₃.unknowns) (declare is t r) (declare_rows is at (rows w₂ base m))
                        declared = carries_declare (Placed s₄ d (H₁ Γ D H U S C F r J) T₃.unknowns) is t at r (rows w₂ base m) placed (J₁ Γ D H U S C F r J)

                        names : count_names (declare is t r) ≡ count
                        names = carries_count (Placed s₄ d (H₁ Γ D H U S C F r J) T₃.unknowns) (declare is t r) (declare_rows is at (rows w₂ base m)) declared ∙ sym count_is

                        W₄ : Walked (H₃ Γ D H U S C F r J) (small n t) T₃.unknowns T₃.unknowns (λ x. ⊥)
                        W₄ =
                            small_noted (H₃ Γ D H U S C F r J) T₃.unknowns (λ x. ⊥) n t T₃.type (W₃ Γ D H U S C F r J).steady (settled₃ Γ D H U S C F r J) small₃

                        -- all pass
                        went : count ≤ 16 → Walked H (decl_items Γ (globals_if global D) r) U T₃.unknowns (Owned (lines_numbers line))
                        unfolding listed AllWalked
                        went q =
                            let M = Owned (lines_numbers line) in
                            let X = T₃.unknowns in
                            let x = names in
                            let no : (y : ℕ) → ⊥ → M y = λ y z. absurd z in
                            let B = merge_declared n is t r in
                            let N = new_names n is (globals_if global D) in
                            all_walked (order Γ (globals_if global D) r) H U X M S (
                              X,
                              walked_mine H (c Γ D H U S C F r J) U X (ElementOwned a n 0) M decl_owned T₃.walked,
                              (
                                X,
                                walked_mine (H₁ Γ D H U S C F r J) B X X (λ y. ⊥) M no (W₂ Γ D H U S C F r J),
                                (
                                  X,
                                  walked_mine (H₁ Γ D H U S C F r J ⨾ B) N X X (λ y. ⊥) M no (W₃ Γ D H U S C F r J),
                                  (
                                    X,
                                    walked_mine (H₃ Γ D H U S C F r J) (small n t) X X (λ y. ⊥) M no W₄,
                                    (
                                      X,
                                      few_noted (H₃ Γ D H U S C F r J ⨾ small n t) X M n (declare is t r) W₄.steady (omega arith),
                                      refl,
                                    ),
                                  ),
                                ),
                              ),
                            )

                      -- 38: the signature.
                      pub decl_many : 16 < count → (m' at' : ℕ) → LinesDone s s₄ d w w₃ stack base m at free line global 38 n m' at'
                      unfolding listed after AllPass
                      decl_many q m' at' =
                          refuses s₄ w₃ 38 n m' at' spared₃ (λ z. omega arith)
                          (λ Γ D H U S C F r J.
                          let T = T₁ Γ D H U S C F r J in
                          let x = names Γ D H U S C F r J in
                          refuses_at (order Γ (globals_if global D) r) H 4 38 n (T.walked.goes, ((W₂ Γ D H U S C F r J).goes, ((W₃ Γ D H U S C F r J).goes, ((W₄ Γ D H U S C F r J).goes, tt))))
                          (few_refused (H₃ Γ D H U S C F r J ⨾ small n t) n (declare is t r) (omega arith)))

                      -- IDENTIFIERS ARE NEW.
                      pub decl_done : (place' : ℕ) → count ≤ 16 → (count ≡ m → ⊥) → LinesDone s s₄ d w w₃ stack base m at free line global 0 place' count e
                      unfolding lines_items lines_signature MeetsIn grouped
                      decl_done place' q ne = record {
                        done = record {
                          still = spared₃;
                          areas = λ z. record {
                            stored = stored₄;
                            more = grows;
                            short = let x = grows in let y : 1 ≤ count - m = omega arith in omega arith;
                            few = q;
                          };
                          goes = λ z H U S Γ D C r I. let G = I.0 in let J = I.1 in
                              let F = decl_new U G in
                              record {
                                unknowns = (E Γ D H U S C F r J).unknowns;
                                walked = went Γ D H U S C F r J q;
                                signature =
                                    subst (Carries (Placed s₄ d (H ⨾ decl_items Γ (globals_if global D) r) (E Γ D H U S C F r J).unknowns) (declare is t r)) (sym rows₃)
                                    (carries_later s₄ d (H₁ Γ D H U S C F r J) (H ⨾ decl_items Γ (globals_if global D) r) (E Γ D H U S C F r J).unknowns (E Γ D H U S C F r J).unknowns
                                    (λ y i. i) (λ τ h. (h.0, h.1.0)) (declare is t r) (declare_rows is at (rows w₂ base m)) (declared Γ D H U S C F r J));
                              };
                          stops = λ z. absurd (z refl);
                        };
                      }

                      -- NONE IS NEW: the type is not kept.
                      pub decl_kept : (place' : ℕ) (s₅ : List ℕ) → m ≤ 16 → count ≡ m → s₅ ≡ sets s₄ at (replicate (e - at) 0) → LinesDone s s₅ d w w₃ stack base m at free line global 0 place' m at
                      unfolding lines_items lines_signature MeetsIn grouped
                      decl_kept place' s₅ q same wiped = record {
                        done = record {
                          still = spared₃;
                          areas = λ z. record {
                            stored = stored₅;
                            more = omega arith;
                            short = omega arith;
                            few = q;
                          };
                          goes = λ z H U S Γ D C r I. let G = I.0 in let J = I.1 in
                              let F = decl_new U G in
                              let N = names Γ D H U S C F r J in
                              let I = carries_count (Placed s₄ d (H₁ Γ D H U S C F r J) (E Γ D H U S C F r J).unknowns) r (rows w₂ base m) (J₁ Γ D H U S C F r J) in
                              let rl = rows_length_lem w₂ base m in
                              record {
                                unknowns = (E Γ D H U S C F r J).unknowns;
                                walked = went Γ D H U S C F r J (omega arith);
                                signature =
                                    subst (λ z. Carries (Placed s₅ d (H ⨾ decl_items Γ (globals_if global D) r) (E Γ D H U S C F r J).unknowns) z (rows w₃ base m))
                                    (sym (declare_kept is t r (omega arith)))
                                    (subst (Carries (Placed s₅ d (H ⨾ decl_items Γ (globals_if global D) r) (E Γ D H U S C F r J).unknowns) r) (sym rows_same)
                                    (carries_later s₅ d H (H ⨾ decl_items Γ (globals_if global D) r) U (E Γ D H U S C F r J).unknowns (E Γ D H U S C F r J).walked.wider (λ τ h. h.0) r (rows w base m)
                                    (carries_stored s s₅ d at at K.size K.clean K.room.some decl_low.0 stored₅ H U r (rows w base m) J)));
                              };
                          stops = λ z. absurd (z refl);
                        };
                      }
                        where
                          rows_same : rows w₃ base m ≡ rows w base m
                          rows_same =
                              let x = Q.beside in
                              let y = Q.few in
                              let z = rows_length_lem w₂ base m in
                              let v₀ = count_is in
                              ap (rows w₃ base) (sym same) ∙ rows₃ ∙ declare_same is at (rows w₂ base m) (omega arith)
                              ∙ rows_kept w w₂ base m (λ i p k. let u = Q.low in spared₂.frames i (omega arith) (omega arith))

                          stored₅ : Stored s s₅ at at
                          stored₅ =
                              let o = K.room.some in
                              let g = K.room.pool in
                              subst (λ z. Stored s z at at) (sym wiped) (stored_wiped s s₄ at e K.size K.clean o (omega arith) stored₄)
