-- ACTUALS of the Include at node k, from number j on: each a closed piece, and a power (33, 34, 39 at the Include). The places of their element types go to a row.
use mathlib.Core.Path.{◌≡◌, refl, sym, ap, subst, ◌∙◌}
use mathlib.Core.Bool.{true, false}
use mathlib.Core.List.{List, [], ◌∷◌, ◌++◌}
use mathlib.Core.Logic.{◌⊎◌, inl, inr, ⊎_elim}
use Prim.Native.Nat.{ℕ, zero, suc, ◌+◌, ◌*◌, ◌-◌, ◌≤◌, ◌<◌, ◌^◌}
use native.Mathlib.Omega.{arith}
use lib.ListN.{length, get_or, length-append}
use Rattle.reader_rules.specs.Limited.{LimitedExprs}
use Rattle.reader_rules.specs.Tree.{Expr, Exprs, none, more, exprs_length}
use Rattle.reader_rules.specs.TreeNumbers.{expr_numbers, exprs_numbers}
use Rattle.types_rules.specs.Equations.{In}
use Rattle.types_rules.specs.Formed.{WellFormed}
use Rattle.types_rules.specs.Types.{Ty}
use Rattle.checker_rules.specs.Conditions.{is_power}
use Rattle.checker_rules.specs.Dictionary.{Dictionary}
use Rattle.checker_rules.specs.Items.{Items, skip, ◌⨾◌, piece, Refuses, MeetsIn}
use Rattle.checker_rules.specs.Rules.{expr_items, actual_items}
use Rattle.checker_rules.specs.Scopes.{Scope}
use Rattle.checker_rules.specs.Unknowns.{Valuation, slot, unknown_at}
use Rattle.reader_rules.proofs.Sized.{SizedExpr}
use Rattle.checker_rules.proofs.Slots.{slots_apart}
use Rattle.types_cells.specs.Layout.{first_run, area_size, pool_size, type_words}
use Rattle.types_cells.specs.Settled.{heap, Reads}
use Rattle.types_cells.proofs.Growing.{lt_or_ge}
use Rattle.types_instances.specs.Clean.{Clean}
use Rattle.checker_pieces.specs.Piece.{Steady, Walked, Settled}
use Rattle.checker_pieces.specs.Stage.{Ghost}
use Rattle.checker_pieces.specs.Building.{Powered, Working}
use Rattle.checker_pieces.specs.Closed.{Closing, Closed, Shut, Sizing}
use Rattle.checker_pieces.proofs.Between.{walked_skip, walked_mine, walked_then, refuses_first, refuses_second, settled_later}
use Rattle.checker_lookup.specs.Scoped.{Scoped}
use Rattle.checker_includes.specs.Components.{StandsFor}
use Rattle.checker_includes.specs.Storing.{Stored, Scratch}
use Rattle.checker_contracts.specs.Room.{frames_at, node_type_words}
use Rattle.checker_contracts.specs.Visits.{Owned, Fresh, EachOnce, idle, Spared}
use Rattle.checker_contracts.specs.Expressions.{ExprAsk, ExprDone}
use Rattle.checker_contracts.specs.Predicates.{Walking}
use Rattle.checker_contracts.specs.Includes.{SlotsFrom, ActualOwned, ActualFresh, ActualsAsk, ActualAt, ActualsWent, ActualsDone}
use Rattle.checker_contracts.proofs.Nodes.{in_left, in_right, once_left, once_right, owned_left, owned_right, owned_apart, slots_same, fresh_left}
use Rattle.checker_contracts.proofs.Rooms.{crowd_part}
use Rattle.checker_contracts.proofs.Scopes.{spared_refl, spared_on, stored_on, stored_reads, scoped_stored, scoped_spared, scoped_walked}
use Rattle.checker_contracts.proofs.Elements.{Element, ElementOwned, ElementNew, element_items, element_stopped, element_working, element_unequal, element_closing, element_several}
use Rattle.checker_contracts.proofs.Elements.{element_sizing, element_done, element_clean, element_gap, element_stored, element_spared, element_size}
use Rattle.checker_contracts.proofs.Declaring.{begin_ask, after_room}
use Rattle.checker_contracts.proofs.Refused.{done_refused}

-- NO ACTUAL.
pub actuals_none : (s d w : List ℕ) (stack at free k j place : ℕ) (places : List ℕ) → ActualsAsk s d w stack at free k j none places →
    ActualsDone s s d w w stack at free k j none places places 0 place at
unfolding actual_items exprs_length
actuals_none s d w stack at free k j place places Q = record {
  done = record {
    still = record { spared = spared_refl w stack free; row = refl; earlier = λ i l. refl };
    areas = λ e. record {
      stored = record { size = refl; before = λ i l. refl; after = Q.walking.clean; more = omega arith };
      short = omega arith;
    };
    goes = λ e H U S Γ D C u F. record {
      unknowns = U;
      walked = walked_skip H U (ActualOwned k j (exprs_numbers none)) S;
      each = λ i p q. absurd (omega arith);
    };
    stops = λ e. absurd (e refl);
  };
}

-- AN ACTUAL, and others.
module _ (s d w : List ℕ) (stack at free k j : ℕ) (a : Expr) (xs : Exprs) (places : List ℕ) (Q : ActualsAsk s d w stack at free k j (more a xs) places) where
  abbrev l : List ℕ
  l = expr_numbers a

  abbrev ls : List ℕ
  ls = exprs_numbers xs

  abbrev K : Walking s d w stack at free Q.height (exprs_numbers (more a xs))
  K = Q.walking

  abbrev n : ℕ
  n = suc j

  numbered : n < 8
  unfolding exprs_length
  numbered = let c = Q.count in omega arith

  once : EachOnce (l ++ ls)
  unfolding exprs_numbers
  once = K.once

  apart : In k l → ⊥
  unfolding exprs_numbers
  apart i = Q.apart (in_left k l ls i)

  fresh : (U : List ℕ) → ActualFresh k j (exprs_numbers (more a xs)) U → ElementNew a k n U
  unfolding exprs_numbers
  fresh U F = (λ x o. F x (inl (owned_left l ls x o)), F (slot k n) (inr (n, omega arith, numbered, refl)))

  fresh₀ : ElementNew a k n K.known
  unfolding exprs_numbers
  fresh₀ = (fresh_left l ls K.known K.fresh, Q.own (slot k n) (n, omega arith, numbered, refl))

  pub actual_ask : ExprAsk s d w stack 0 first_run at free a
  unfolding exprs_numbers LimitedExprs
  actual_ask =
      let x = length-append l ls in
      let f = Q.few in
      begin_ask s d w stack at free Q.height Q.height Q.texts a (l ++ ls) K (omega arith) Q.limited.0 (omega arith) (omega arith) fresh₀.0 (once_left l ls once)

  low : (at < pool_size) × (2 * stack ≤ frames_at)
  low = let p = K.room.pool in let q = K.room.stack in (omega arith, omega arith)

  abbrev own : Scope → Items
  own Γ = piece k (element_items a k n Γ)

  -- A FINDING at the first.
  refuses : (s' w' places' : List ℕ) (number place at' : ℕ) → Spared w w' stack free → places' ≡ places → (number ≡ 0 → ⊥) →
      ((Γ : Scope) (D : Dictionary) (H : Items) (U : List ℕ) → Steady H U → Scoped s d w stack (idle H U) Γ D → ElementNew a k n U → Refuses (own Γ) (MeetsIn H) number place) →
      ActualsDone s s' d w w' stack at free k j (more a xs) places places' number place at'
  unfolding actual_items
  refuses s' w' places' number place at' P p e R = record { done = done_refused (record { spared = P; row = ap length p; earlier = λ i q. ap (λ z. get_or z i 0) p }) e (λ H U S Γ D C u F. refuses_first H (own Γ) (actual_items xs k (suc n) Γ) number place (R Γ D H U S C (fresh U F))) }

  module _ (s₁ w₁ : List ℕ) (number place cell c₁ top₁ at₁ : ℕ) (A : ExprDone s s₁ d w w₁ stack 0 first_run at free a number place cell c₁ top₁ at₁) where
    pub actual_stopped : (number ≡ 0 → ⊥) → (at' : ℕ) → ActualsDone s s₁ d w w₁ stack at free k j (more a xs) places places number place at'
    actual_stopped e at' =
        refuses s₁ w₁ places number place at' A.spared refl e
        (λ Γ D H U S C F. element_stopped s d w stack at free a k n K.size K.few apart numbered s₁ w₁ number place cell c₁ top₁ at₁ A Γ D H U S C F e)

    module _ (fine : number ≡ 0) where
      pub actual_working : Working s₁ d c₁ top₁ 2 (cell ∷ [])
      actual_working =
          element_working s d w stack at free a k n K.size K.few apart numbered s₁ w₁ number place cell c₁ top₁ at₁ A K.scope K.dictionary K.before K.known K.steady
          K.scoped fresh₀ fine (after_room s s₁ w stack c₁ top₁ at free actual_ask.height (length l) actual_ask.visiting.room (A.areas fine).uses)

      module _ (s₂ : List ℕ) (number₂ : ℕ) (P : Powered s₁ s₂ d c₁ top₁ cell number₂) where
        pub actual_unequal : (number₂ ≡ 0 → ⊥) → (at' : ℕ) → ActualsDone s s₂ d w w₁ stack at free k j (more a xs) places places number₂ k at'
        actual_unequal e at' =
            refuses s₂ w₁ places number₂ k at' A.spared refl e
            (λ Γ D H U S C F. element_unequal s d w stack at free a k n K.size K.few apart numbered s₁ w₁ number place cell c₁ top₁ at₁ A Γ D H U S C F fine s₂ number₂ P e)

        module _ (yes : number₂ ≡ 0) where
          pub actual_closing : Closing s₂ d (c₁ + 2)
          actual_closing =
              element_closing s d w stack at free a k n K.size K.few apart numbered s₁ w₁ number place cell c₁ top₁ at₁ A K.scope K.dictionary K.before K.known K.steady
              K.scoped fresh₀ fine s₂ number₂ P yes

          module _ (s₃ : List ℕ) where
            pub actual_several : Closed s₂ s₃ d (c₁ + 2) false → (at' : ℕ) → ActualsDone s s₃ d w w₁ stack at free k j (more a xs) places places 34 k at'
            actual_several Z at' =
                refuses s₃ w₁ places 34 k at' A.spared refl (λ z. omega arith)
                (λ Γ D H U S C F. element_several s d w stack at free a k n K.size K.few apart numbered s₁ w₁ number place cell c₁ top₁ at₁ A Γ D H U S C F fine s₂ number₂ P yes s₃ Z)

            module _ (Z : Closed s₂ s₃ d (c₁ + 2) true) where
              pub actual_sizing : Sizing s₃ d (c₁ + 2) c₁
              actual_sizing =
                  element_sizing s d w stack at free a k n K.size K.few apart numbered s₁ w₁ number place cell c₁ top₁ at₁ A K.scope K.dictionary K.before K.known K.steady
                  K.scoped fresh₀ fine s₂ number₂ P yes s₃ Z

              pub actual_size : length s₃ ≡ area_size
              actual_size =
                  element_size s d w stack at free a k n K.size K.few apart numbered s₁ w₁ number place cell c₁ top₁ at₁ A K.scope K.dictionary K.before K.known K.steady
                  K.scoped fresh₀ fine s₂ number₂ P yes s₃ Z

              pub actual_clean : Clean s₃ at₁
              actual_clean =
                  element_clean s d w stack at free a k n K.size K.few apart numbered s₁ w₁ number place cell c₁ top₁ at₁ A fine s₂ number₂ P s₃ true Z (actual_size ∙ sym K.size) low.0

              pub actual_gap : (i : ℕ) → suc i ≡ at → get_or s₃ i 0 ≡ 0
              actual_gap =
                  element_gap s d w stack at free a k n K.size K.few apart numbered s₁ w₁ number place cell c₁ top₁ at₁ A fine s₂ number₂ P s₃ true Z (actual_size ∙ sym K.size) low.0
                  K.clean

              pub actual_room : (1 ≤ at) × (at ≤ at₁) × (at₁ + node_type_words ≤ 38000) × (free + type_words ≤ length w₁) × (free < 2 ^ 32)
              unfolding exprs_numbers
              actual_room =
                  let o = K.room.some in
                  let x = (A.areas fine).stored.more in
                  let y = (A.areas fine).short in
                  let g = K.room.pool in
                  let f = K.room.frames in
                  let v = K.room.wide in
                  let z = A.spared.size in
                  let u = Q.few in
                  let q = K.room.few in
                  let p = length-append l ls in
                  let c = ⊎_elim (λ (r : 24 ≤ K.bound). let y₀ : length l ≤ K.bound = omega arith in y₀) (λ (r : length (l ++ ls) ≤ K.bound). let y₀ : length l ≤ K.bound = omega arith in y₀)
                  K.crowd in
                  (o, x, omega arith, omega arith, omega arith)

              -- THE TYPE IS STORED, its place written.
              module _ (sized : SizedExpr a) (s₄ w₂ places₁ : List ℕ) (e : ℕ) (stored : Stored s₃ s₄ at e) (scratch : Scratch w₁ w₂ free) (short : e ≤ at + type_words)
                  (stands : (G : Ghost) (S : Shut s₃ d (c₁ + 2) G) → WellFormed (S.type c₁) → (h : Ty) × Reads (heap s₄ d) at h × StandsFor h (S.type c₁))
                  (long : length places₁ ≡ length places) (here : get_or places₁ j 0 ≡ at) (others : (i : ℕ) → i < j → get_or places₁ i 0 ≡ get_or places i 0) where
                abbrev Any : Ty → Type 0
                Any g = Unit {0}

                stored₄ : Stored s s₄ at e
                stored₄ =
                    element_stored s d w stack at free a k n K.size K.few apart numbered s₁ w₁ number place cell c₁ top₁ at₁ A fine s₂ number₂ P s₃ true Z (actual_size ∙ sym K.size) low.0
                    s₄ e stored

                spared₂ : Spared w w₂ stack free
                spared₂ =
                    let q = K.room.low in
                    let u = low.1 in
                    element_spared s d w stack at free a k n K.size K.few apart numbered s₁ w₁ number place cell c₁ top₁ at₁ A w₂ scratch (omega arith) K.room.low

                -- any items before
                module _ (Γ : Scope) (D : Dictionary) (H : Items) (U : List ℕ) (S : Steady H U) (C : Scoped s d w stack (idle H U) Γ D) (F : ElementNew a k n U) where
                  abbrev E : Element s₄ d H (own Γ) U (ElementOwned a k n) k n at Any
                  E =
                      element_done s d w stack at free a k n K.size K.few apart numbered s₁ w₁ number place cell c₁ top₁ at₁ A fine s₂ number₂ P yes s₃ Z sized s₄ at Any (λ G S₀. tt) stands Γ D H U
                      S C F

                  scoped₁ : Scoped s₄ d w₂ stack (idle (H ⨾ own Γ) E.unknowns) Γ D
                  scoped₁ =
                      scoped_walked s₄ d w₂ stack Γ D H (own Γ) U E.unknowns (ElementOwned a k n) E.walked
                      (scoped_spared s₄ d w w₂ stack free (idle H U) Γ D spared₂
                      (scoped_stored s s₄ d at e K.size K.clean K.room.some low.0 stored₄ w stack (idle H U) Γ D C))

                  -- the unknowns of the other actuals stay fresh
                  fresh₁ : ((x : ℕ) → Owned ls x → In x U → ⊥) → ((x : ℕ) → SlotsFrom k (suc n) x → In x U → ⊥) → ActualFresh k n ls E.unknowns
                  unfolding exprs_numbers
                  fresh₁ f g x o i = ⊎_elim (λ z. ⊎_elim (λ y. f x y z) (λ y. g x y z) o) (λ z. ⊎_elim (λ y. ⊎_elim (λ v. owned_apart l ls once x y v) (λ v. mixed y v) o) (λ y. ⊎_elim (λ v. outer y v) (λ v. inner y v) o) z) (E.walked.new x i)
                    where
                      mixed : Owned l x → SlotsFrom k (suc n) x → ⊥
                      mixed y v = apart (subst (λ z. In z l) (slots_same y.0 k x y.2 (v.0, v.2, v.3)) y.1)

                      outer : x ≡ slot k n → Owned ls x → ⊥
                      outer y v = Q.apart (in_right k l ls (subst (λ z. In z ls) (slots_same v.0 k x v.2 (n, numbered, y)) v.1))

                      inner : x ≡ slot k n → SlotsFrom k (suc n) x → ⊥
                      inner y v = let p = (slots_apart k n k v.0 numbered v.2 (sym y ∙ v.3)).1 in let q = v.1 in omega arith

                -- what the others ask
                pub actuals_ask : ActualsAsk s₄ d w₂ stack e free k n xs places₁
                unfolding exprs_numbers LimitedExprs exprs_length
                actuals_ask =
                    let p₀ = Q.pool in
                    let p₁ = stored.more in
                    let c₀ = Q.count in
                    let f₀ = Q.few in
                    let L = length-append l ls in
                    let o = K.room.some in
                    let v = K.room.wide in
                    let z = spared₂.size in
                    let T = E K.scope K.dictionary K.before K.known K.steady K.scoped fresh₀ in
                    let F = fresh₁ K.scope K.dictionary K.before K.known K.steady K.scoped fresh₀ (λ x y. K.fresh x (owned_right l ls x y))
                    (λ x y. Q.own x (y.0, (let q = y.1 in omega arith), y.2, y.3)) in
                    record {
                      height = Q.height;
                      texts = Q.texts;
                      limited = Q.limited.1;
                      walking = record {
                        before = K.before ⨾ own K.scope;
                        known = T.unknowns;
                        steady = T.walked.steady;
                        scope = K.scope;
                        dictionary = K.dictionary;
                        scoped = scoped₁ K.scope K.dictionary K.before K.known K.steady K.scoped fresh₀;
                        fresh = λ x y. F x (inl y);
                        once = once_right l ls once;
                        size = stored₄.size ∙ K.size;
                        few = K.few;
                        clean = stored₄.after;
                        bound = K.bound;
                        crowd = crowd_part K.bound (l ++ ls) ls K.crowd (omega arith);
                        room = record { wide = omega arith; stack = K.room.stack; low = K.room.low; frames = K.room.frames; some = omega arith; pool = omega arith; few = K.room.few };
                      };
                      few = omega arith;
                      own = λ x y. F x (inr y);
                      apart = λ i. Q.apart (in_right k l ls i);
                      row = long ∙ Q.row;
                      count = omega arith;
                      pool = omega arith;
                    }

                pub actuals_then : (s₅ w₃ places₂ : List ℕ) (number' place' at₂ : ℕ) → ActualsDone s₄ s₅ d w₂ w₃ stack e free k n xs places₁ places₂ number' place' at₂ →
                    ActualsDone s s₅ d w w₃ stack at free k j (more a xs) places places₂ number' place' at₂
                unfolding actual_items exprs_numbers exprs_length MeetsIn
                actuals_then s₅ w₃ places₂ number' place' at₂ B = record {
                  done = record {
                    still = record { spared = spared_on w w₂ w₃ stack free spared₂ B.done.still.spared; row = B.done.still.row ∙ long; earlier = λ i q. B.done.still.earlier i (omega arith) ∙ others i q };
                    areas = λ z. record {
                      stored = stored_on s s₄ s₅ at e at₂ stored₄ (B.done.areas z).stored;
                      short = let x = (B.done.areas z).short in omega arith;
                    };
                    goes = λ z H U S Γ D C u F.
                        let N = fresh U F in
                        let T = E Γ D H U S C N in
                        let R = B.done.goes z (H ⨾ own Γ) T.unknowns T.walked.steady Γ D (scoped₁ Γ D H U S C N) tt (later U F Γ D H S C) in
                        let M = ActualOwned k j (l ++ ls) in
                        let rest = actual_items xs k (suc n) Γ in
                        record {
                          unknowns = R.unknowns;
                          walked =
                              walked_then H (own Γ) rest U T.unknowns R.unknowns M S
                              (walked_mine H (own Γ) U T.unknowns (ElementOwned a k n) M (λ x y. ⊎_elim (λ v. inl (owned_left l ls x v)) (λ v. inr (n, omega arith, numbered, v)) y) T.walked)
                              (walked_mine (H ⨾ own Γ) rest T.unknowns R.unknowns (ActualOwned k n ls) M
                              (λ x y. ⊎_elim (λ v. inl (owned_right l ls x v)) (λ v. inr (v.0, (let q = v.1 in omega arith), v.2, v.3)) y) R.walked);
                          each = λ i p q.
                              ⊎_elim
                              (λ (g : suc j ≤ i). regrouped Γ H (own Γ) rest R.unknowns i (R.each i g (omega arith)))
                              (λ (g : i ≡ j).
                              subst (λ y. ActualAt s₅ d (H ⨾ (own Γ ⨾ rest)) R.unknowns k y (get_or places₂ y 0)) (sym g)
                              (subst (ActualAt s₅ d (H ⨾ (own Γ ⨾ rest)) R.unknowns k j) (sym (B.done.still.earlier j (omega arith) ∙ here))
                              (record {
                                type = T.type;
                                settled = λ τ h. T.settled τ (h.0, h.1.0);
                                shown = T.shown;
                                reads = reads_later z at T.shown T.reads;
                                alike = T.alike;
                                over = R.walked.wider (slot k n) T.over;
                              })))
                              (above i p);
                        };
                    stops = λ z H U S Γ D C u F.
                        let N = fresh U F in
                        let T = E Γ D H U S C N in
                        refuses_second H (own Γ) (actual_items xs k (suc n) Γ) number' place' T.walked.goes
                        (B.done.stops z (H ⨾ own Γ) T.unknowns T.walked.steady Γ D (scoped₁ Γ D H U S C N) tt (later U F Γ D H S C));
                  };
                }
                  where
                    above : (i : ℕ) → j ≤ i → (suc j ≤ i) ⊎ (i ≡ j)
                    above i p = ⊎_elim (λ (q : j < i). inl (omega arith)) (λ (q : i ≤ j). inr (omega arith)) (lt_or_ge j i)

                    later : (U : List ℕ) (F : ActualFresh k j (l ++ ls) U) (Γ : Scope) (D : Dictionary) (H : Items) (S : Steady H U) (C : Scoped s d w stack (idle H U) Γ D) →
                        ActualFresh k n ls (E Γ D H U S C (fresh U F)).unknowns
                    later U F Γ D H S C =
                        fresh₁ Γ D H U S C (fresh U F) (λ x y. F x (inl (owned_right l ls x y))) (λ x y. F x (inr (y.0, (let q = y.1 in omega arith), y.2, y.3)))

                    reads_later : number' ≡ 0 → (p : ℕ) (g : Ty) → Reads (heap s₄ d) p g → Reads (heap s₅ d) p g
                    reads_later z =
                        let o = K.room.some in
                        let p = K.room.pool in
                        let q = stored.more in
                        stored_reads s₄ s₅ d e at₂ (stored₄.size ∙ K.size) stored₄.after (omega arith) (omega arith) (B.done.areas z).stored

                    regrouped : (Γ : Scope) (H x rest : Items) (U : List ℕ) (i : ℕ) → ActualAt s₅ d ((H ⨾ x) ⨾ rest) U k i (get_or places₂ i 0) →
                        ActualAt s₅ d (H ⨾ (x ⨾ rest)) U k i (get_or places₂ i 0)
                    regrouped Γ H x rest U i T = record {
                      type = T.type;
                      settled = λ τ h. T.settled τ ((h.0, h.1.0), h.1.1);
                      shown = T.shown;
                      reads = T.reads;
                      alike = T.alike;
                      over = T.over;
                    }
