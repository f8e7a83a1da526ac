-- The actuals of an Include by the words of their nodes.
use mathlib.Core.Path.{◌≡◌, refl, sym, ap, subst, ◌∙◌}
use mathlib.Core.Bool.{Bool, true, false}
use mathlib.Core.List.{List, [], ◌∷◌}
use Prim.Native.Nat.{ℕ, suc, ◌+◌, ◌-◌, ◌≤◌, ◌<◌, ◌^◌}
use native.Mathlib.Omega.{arith}
use lib.ListN.{length, get_or, set, length-set}
use lib.Seq.{get_or-set_same, get_or-set_other}
use Rattle.reader_rules.specs.Decode.{expr_at, exprs_from}
use Rattle.reader_rules.specs.Kinds.{expressions, includes}
use Rattle.reader_rules.specs.Nodes.{operand_at}
use Rattle.reader_rules.specs.Promise.{Lower}
use Rattle.reader_rules.specs.Tree.{Exprs, none, more, exprs_length}
use Rattle.reader_rules.proofs.TreeLists.{exprs_go, exprs_end}
use Rattle.reader_rules.proofs.Sized.{SizedExpr}
use Rattle.checker_pieces.specs.Building.{Powered, Working}
use Rattle.checker_pieces.specs.Closed.{Closing, Closed}
use Rattle.checker_includes.specs.Storing.{StoreAsk, TypeStored}
use Rattle.checker_contracts.specs.Expressions.{ExprAsk, ExprDone}
use Rattle.checker_contracts.specs.Includes.{ActualsAsk, ActualsDone}
use Rattle.checker_contracts.proofs.Actuals.{actuals_none, actual_ask, actual_stopped, actual_working, actual_unequal, actual_closing, actual_several, actual_sizing, actual_size, actual_clean}
use Rattle.checker_contracts.proofs.Actuals.{actual_gap, actual_room, actuals_ask, actuals_then}
use Rattle.checker_closing.specs.Actuals.{ActualAsk, ActualTold, stopped, went, refused, fits}
use Rattle.checker_closing.specs.Elements.{several, one, ElementTold, no_power, power}
use Rattle.checker_closing.specs.Nodes.{Node, LinedAt}
use Rattle.checker_closing.specs.declared.results.Lined.{Lined}
use Rattle.checker_nodes.proofs.SizedNodes.{expr_sized}
use Rattle.types_cells.specs.Layout.{first_run}
use Rattle.checker_nodes.proofs.NodeWords.{word_at_lem}

-- The promise in the words of the result.
actuals_told : {s s' d w w' places places' : List ℕ} {stack at free k j number place count end' : ℕ} {xs : Exprs} {r : Lined} → LinedAt r number place count end' →
    ActualsDone s s' d w w' stack at free k j xs places places' number place end' → ActualsDone s s' d w w' stack at free k j xs places places' r.number r.place r.at
actuals_told {s} {s'} {d} {w} {w'} {places} {places'} {stack} {at} {free} {k} {j} {number} {place} {count} {end'} {xs} {r} L T =
    subst (λ z. ActualsDone s s' d w w' stack at free k j xs places places' z r.place r.at) (sym L.number_is)
    (subst (λ z. ActualsDone s s' d w w' stack at free k j xs places places' number z r.at) (sym L.place_is)
    (subst (λ z. ActualsDone s s' d w w' stack at free k j xs places places' number place z) (sym L.at_is) T))

actuals_end : (doc : List ℕ) (k j q : ℕ) → q ≤ j → exprs_from doc k (j + 4) (q - j) ≡ none
actuals_end doc k j q l = let e : q - j ≡ (q + 4) - (j + 4) = omega arith in ap (exprs_from doc k (j + 4)) e ∙ exprs_end doc k (q + 4) (j + 4) (omega arith)

actuals_go : (doc : List ℕ) (k j q : ℕ) → j < q → exprs_from doc k (j + 4) (q - j) ≡ more (expr_at doc (operand_at doc k (j + 4))) (exprs_from doc k (j + 1 + 4) (q - (j + 1)))
actuals_go doc k j q l =
    let e : q - j ≡ (q + 4) - (j + 4) = omega arith in
    let f : j + 4 + 1 ≡ j + 1 + 4 = omega arith in
    let g : (q + 4) - (j + 4 + 1) ≡ q - (j + 1) = omega arith in
    ap (exprs_from doc k (j + 4)) e ∙ exprs_go doc k (q + 4) (j + 4) (omega arith)
    ∙ ap (λ z. more (expr_at doc (operand_at doc k (j + 4))) (exprs_from doc k z ((q + 4) - (j + 4 + 1)))) f
    ∙ ap (λ z. more (expr_at doc (operand_at doc k (j + 4))) (exprs_from doc k (j + 1 + 4) z)) g

pub actual_lower : (doc p : List ℕ) (k j q : ℕ) → ((i : ℕ) → 4 ≤ i → i < q + 4 → Lower doc k expressions (get_or p i 0)) → {a : ℕ} → a ≡ get_or p (j + 4) 0 → j < q → Lower doc k expressions a
actual_lower doc p k j q h e l = subst (Lower doc k expressions) (sym e) (h (j + 4) (omega arith) (omega arith))

-- An actual without a finding.
record ActualKept (s s' d w w' : List ℕ) (at free j : ℕ) (places places' : List ℕ) (number c n top end : ℕ) : Type 0 where
  fine : number ≡ 0
  s₂ : List ℕ
  s₃ : List ℕ
  powered : Powered s s₂ d n top c 0
  closed : Closed s₂ s₃ d (n + 2) true
  stored : TypeStored s₃ s' d w w' (n + 2) n at free end
  put : places' ≡ set places j at

actual_kept : {s s' d w w' places places' : List ℕ} {at free k j number place c n top : ℕ} {r : Lined} → ActualTold s s' d w w' at free k j places places' number place c n top r → r.number ≡ 0 →
    ActualKept s s' d w w' at free j places places' number c n top r.at
actual_kept (stopped n es ew ep L) z = absurd (n (sym L.number_is ∙ z))
actual_kept (went fine (refused v size e T n ep L)) z = absurd (n (sym L.number_is ∙ z))
actual_kept (went fine (fits v size e (no_power x same P) y put L)) z = absurd (x y)
actual_kept (went fine (fits v size e (power s₂ P (several x same Z)) y put L)) z = absurd (omega arith)
actual_kept {s} {s'} {d} {w} {w'} {places} {places'} {at} {free} {k} {j} {number} {place} {c} {n} {top} (went fine (fits v size e (power s₂ P (one s₃ Z T)) y put L)) z = record {
  fine = fine;
  s₂ = s₂;
  s₃ = s₃;
  powered = P;
  closed = Z;
  stored = subst (TypeStored s₃ s' d w w' (n + 2) n at free) (sym L.at_is) T.stored;
  put = put;
}

module _ {doc p s d w places : List ℕ} {stack at free k : ℕ} (j q : ℕ) (N : Node doc p includes k) (K : ActualsAsk s d w stack at free k j (exprs_from doc k (j + 4) (q - j)) places) where
  pub node_actuals_none : q ≤ j → {r : Lined} → LinedAt r 0 k 0 at →
      ActualsDone s s d w w stack at free k j (exprs_from doc k (j + 4) (q - j)) places places r.number r.place r.at
  node_actuals_none l {r} L =
      let e = actuals_end doc k j q l in
      actuals_told L (subst (λ z. ActualsDone s s d w w stack at free k j z places places 0 k at) (sym e)
      (actuals_none s d w stack at free k j k places (subst (λ z. ActualsAsk s d w stack at free k j z places) e K)))

  module _ (a : ℕ) (word : a ≡ get_or p (j + 4) 0) (some : j < q) (L : Lower doc k expressions a) where
    abbrev rest : Exprs
    rest = exprs_from doc k (j + 1 + 4) (q - (j + 1))

    tree : exprs_from doc k (j + 4) (q - j) ≡ more (expr_at doc a) rest
    tree = actuals_go doc k j q some ∙ ap (λ z. more (expr_at doc z) rest) (sym (word_at_lem N (j + 4) a word))

    abbrev Q : ActualsAsk s d w stack at free k j (more (expr_at doc a) rest) places
    Q = subst (λ z. ActualsAsk s d w stack at free k j z places) tree K

    back : (s' w' places' : List ℕ) (number place at' : ℕ) → ActualsDone s s' d w w' stack at free k j (more (expr_at doc a) rest) places places' number place at' →
        ActualsDone s s' d w w' stack at free k j (exprs_from doc k (j + 4) (q - j)) places places' number place at'
    back s' w' places' number place at' = subst (λ z. ActualsDone s s' d w w' stack at free k j z places places' number place at') (sym tree)

    sized : SizedExpr (expr_at doc a)
    sized = expr_sized doc a L.at

    pub node_actual_ask : ExprAsk s d w stack 0 first_run at free (expr_at doc a)
    node_actual_ask = actual_ask s d w stack at free k j (expr_at doc a) rest places Q

    node_actual_few : (j < 4) × (at < 2 ^ 32) × (length places ≡ 4)
    unfolding exprs_length
    node_actual_few = let c = Q.count in let p₀ = Q.pool in (omega arith, omega arith, Q.row)

    module _ {s₁ w₁ : List ℕ} {number place cell c₁ top₁ at₁ : ℕ} (A : ExprDone s s₁ d w w₁ stack 0 first_run at free (expr_at doc a) number place cell c₁ top₁ at₁) where
      node_actual_stopped : (number ≡ 0 → ⊥) → {r : Lined} → LinedAt r number place 0 0 → ActualsDone s s₁ d w w₁ stack at free k j (exprs_from doc k (j + 4) (q - j)) places places r.number r.place r.at
      node_actual_stopped ne {r} L₀ = actuals_told L₀ (back s₁ w₁ places number place 0
          (actual_stopped s d w stack at free k j (expr_at doc a) rest places Q s₁ w₁ number place cell c₁ top₁ at₁ A ne 0))

      module _ (fine : number ≡ 0) where
        node_actual_working : Working s₁ d c₁ top₁ 2 (cell ∷ [])
        node_actual_working = actual_working s d w stack at free k j (expr_at doc a) rest places Q s₁ w₁ number place cell c₁ top₁ at₁ A fine

        module _ {s₂ : List ℕ} {number₂ : ℕ} (P : Powered s₁ s₂ d c₁ top₁ cell number₂) where
          node_actual_unequal : (number₂ ≡ 0 → ⊥) → {r : Lined} → LinedAt r number₂ k 0 0 → ActualsDone s s₂ d w w₁ stack at free k j (exprs_from doc k (j + 4) (q - j)) places places r.number r.place r.at
          node_actual_unequal ne {r} L₀ = actuals_told L₀ (back s₂ w₁ places number₂ k 0
              (actual_unequal s d w stack at free k j (expr_at doc a) rest places Q s₁ w₁ number place cell c₁ top₁ at₁ A fine s₂ number₂ P ne 0))

          module _ (yes : number₂ ≡ 0) where
            node_actual_closing : Closing s₂ d (c₁ + 2)
            node_actual_closing = actual_closing s d w stack at free k j (expr_at doc a) rest places Q s₁ w₁ number place cell c₁ top₁ at₁ A fine s₂ number₂ P yes

            module _ {s₃ : List ℕ} {o : Bool} (Z : Closed s₂ s₃ d (c₁ + 2) o) where
              node_actual_several : o ≡ false → {r : Lined} → LinedAt r 34 k 0 0 → ActualsDone s s₃ d w w₁ stack at free k j (exprs_from doc k (j + 4) (q - j)) places places r.number r.place r.at
              node_actual_several nay {r} L₀ = actuals_told L₀ (back s₃ w₁ places 34 k 0
                  (actual_several s d w stack at free k j (expr_at doc a) rest places Q s₁ w₁ number place cell c₁ top₁ at₁ A fine s₂ number₂ P yes s₃ (subst (Closed s₂ s₃ d (c₁ + 2)) nay Z) 0))

              module _ (one : o ≡ true) where
                Z₁ : Closed s₂ s₃ d (c₁ + 2) true
                Z₁ = subst (Closed s₂ s₃ d (c₁ + 2)) one Z

                node_actual_store : StoreAsk s₃ d w₁ (c₁ + 2) c₁ at at₁ free
                node_actual_store =
                    let R = actual_room s d w stack at free k j (expr_at doc a) rest places Q s₁ w₁ number place cell c₁ top₁ at₁ A fine s₂ number₂ P yes s₃ Z₁ in
                    let x = R.2 in
                    record {
                      sizing = actual_sizing s d w stack at free k j (expr_at doc a) rest places Q s₁ w₁ number place cell c₁ top₁ at₁ A fine s₂ number₂ P yes s₃ Z₁;
                      size = actual_size s d w stack at free k j (expr_at doc a) rest places Q s₁ w₁ number place cell c₁ top₁ at₁ A fine s₂ number₂ P yes s₃ Z₁;
                      clean = actual_clean s d w stack at free k j (expr_at doc a) rest places Q s₁ w₁ number place cell c₁ top₁ at₁ A fine s₂ number₂ P yes s₃ Z₁;
                      gap = actual_gap s d w stack at free k j (expr_at doc a) rest places Q s₁ w₁ number place cell c₁ top₁ at₁ A fine s₂ number₂ P yes s₃ Z₁;
                      some = R.0;
                      before = R.1;
                      room = omega arith;
                      scratch = R.3;
                      near = R.4;
                    }

                module _ {s₄ w₂ : List ℕ} {e : ℕ} (T : TypeStored s₃ s₄ d w₁ w₂ (c₁ + 2) c₁ at free e) {places₁ : List ℕ} (put : places₁ ≡ set places j at) where
                  long : length places₁ ≡ length places
                  long = ap length put ∙ length-set places j at

                  here : get_or places₁ j 0 ≡ at
                  here = let x = node_actual_few in let y = x.0 in let z = x.2 in ap (λ v. get_or v j 0) put ∙ get_or-set_same places j at 0 (omega arith)

                  others : (i : ℕ) → i < j → get_or places₁ i 0 ≡ get_or places i 0
                  others i l = ap (λ v. get_or v i 0) put ∙ get_or-set_other places j i at 0 (λ z. omega arith)

                  next : suc j ≡ j + 1
                  next = omega arith

                  node_actuals_ask : ActualsAsk s₄ d w₂ stack e free k (j + 1) rest places₁
                  node_actuals_ask = subst (λ z. ActualsAsk s₄ d w₂ stack e free k z rest places₁) next (actuals_ask s d w stack at free k j (expr_at doc a) rest places Q s₁ w₁ number place cell c₁ top₁ at₁ A fine s₂ number₂ P yes s₃ Z₁ sized s₄ w₂ places₁ e T.stored T.scratch T.short T.stands long here others)

                  node_actuals_then : {s₅ w₃ places₂ : List ℕ} {number' place' at₂ : ℕ} →
                      ActualsDone s₄ s₅ d w₂ w₃ stack e free k (j + 1) rest places₁ places₂ number' place' at₂ →
                      ActualsDone s s₅ d w w₃ stack at free k j (exprs_from doc k (j + 4) (q - j)) places places₂ number' place' at₂
                  node_actuals_then {s₅} {w₃} {places₂} {number'} {place'} {at₂} B =
                      back s₅ w₃ places₂ number' place' at₂
                      (actuals_then s d w stack at free k j (expr_at doc a) rest places Q s₁ w₁ number place cell c₁ top₁ at₁ A fine s₂ number₂ P yes s₃ Z₁ sized s₄ w₂ places₁ e T.stored T.scratch T.short T.stands long here others s₅ w₃ places₂ number' place' at₂
                      (subst (λ z. ActualsDone s₄ s₅ d w₂ w₃ stack e free k z rest places₁ places₂ number' place' at₂) (sym next) B))

      -- WHAT THE ACTUAL ASKS AND TELLS AFTER THE VISIT.
      pub node_actual_asked : ActualAsk s₁ d w₁ at free k j places number cell c₁ top₁ at₁
      node_actual_asked =
          let x = node_actual_few in
          let x₀ = x.0 in
          let x₂ = x.2 in
          let z = N.at.small in
          record {
            going = λ fine. record {
              near = omega arith;
              place = x.1;
              inside = omega arith;
              element = record {
                working = node_actual_working fine;
                closing = λ s₂ P. record { closing = node_actual_closing fine P refl; storing = λ s₃ Z. node_actual_store fine P refl Z refl };
              };
            };
          }

      module _ (r : Lined) where
        -- the promise, with these areas at the end
        abbrev Promised : List ℕ → List ℕ → List ℕ → Type 0
        Promised s' w' places' = ActualsDone s s' d w w' stack at free k j (exprs_from doc k (j + 4) (q - j)) places places' r.number r.place r.at

        still : {s₂ s' w₂ w' places' : List ℕ} → s' ≡ s₂ → w' ≡ w₂ → places' ≡ places → Promised s₂ w₂ places → Promised s' w' places'
        still {s₂} {s'} {w₂} {w'} {places'} e x y D = subst (λ z. Promised z w' places') (sym e) (subst (λ z. Promised s₂ z places') (sym x) (subst (Promised s₂ w₂) (sym y) D))

        told_refused : number ≡ 0 → {s' w' : List ℕ} {v size e : ℕ} → (v ≡ 0 → ⊥) → ElementTold s₁ s' d w₁ w' c₁ top₁ cell at free v size e → LinedAt r v k 0 0 → Promised s' w' places
        told_refused fine n (no_power e same P) L₀ = still refl same refl (node_actual_unequal fine P e L₀)
        told_refused fine n (power s₂ P (several e same Z)) L₀ = still refl same refl (node_actual_several fine P refl Z refl (subst (λ z. LinedAt r z k 0 0) e L₀))
        told_refused fine n (power s₂ P (one s₃ Z T)) L₀ = absurd (n T.number_is)

        module _ {s' w' places' : List ℕ} (T : ActualTold s₁ s' d w₁ w' at free k j places places' number place cell c₁ top₁ r) where
          pub node_actual_refused : (r.number ≡ 0 → ⊥) → Promised s' w' places'
          node_actual_refused ne = by T
            where
              by : ActualTold s₁ s' d w₁ w' at free k j places places' number place cell c₁ top₁ r → Promised s' w' places'
              by (stopped n es ew ep L₀) = still es ew ep (node_actual_stopped n L₀)
              by (went fine (refused v size e E n ep L₀)) = still refl refl ep (told_refused fine n E L₀)
              by (went fine (fits v size e E z put L₀)) = absurd (ne L₀.number_is)

          module _ (no-finding : r.number ≡ 0) where
            H : ActualKept s₁ s' d w₁ w' at free j places places' number cell c₁ top₁ r.at
            H = actual_kept T no-finding

            pub node_actuals_next : ActualsAsk s' d w' stack r.at free k (j + 1) rest places'
            node_actuals_next = node_actuals_ask H.fine H.powered refl H.closed refl H.stored H.put

            pub node_actuals_done : {s₅ w₃ places₂ : List ℕ} {number' place' at₂ : ℕ} →
                ActualsDone s' s₅ d w' w₃ stack r.at free k (j + 1) rest places' places₂ number' place' at₂ →
                ActualsDone s s₅ d w w₃ stack at free k j (exprs_from doc k (j + 4) (q - j)) places places₂ number' place' at₂
            node_actuals_done = node_actuals_then H.fine H.powered refl H.closed refl H.stored H.put
