-- An Include by the words of its node: what its calls ask, and what is done by each outcome.
use borrow.Author.Tests.{eq-eqb}
use mathlib.Core.Path.{◌≡◌, refl, sym, ap, subst, ◌∙◌}
use mathlib.Core.Bool.{Bool, true, false}
use mathlib.Core.List.{List}
use Prim.Native.Nat.{ℕ, ◌+◌, ◌≤◌, ◌<◌}
use native.Mathlib.Omega.{arith}
use lib.ListN.{length, get_or}
use Rattle.layout.specs.Layout.{part}
use Rattle.reader_rules.specs.Decode.{include_at, exprs_from}
use Rattle.reader_rules.specs.Kinds.{of_sort, lines, includes, expressions}
use Rattle.reader_rules.specs.Nodes.{kind_at, operand_at}
use Rattle.reader_rules.specs.Promise.{At, Lower}
use Rattle.reader_rules.specs.Tree.{include, exprs_length, include_node}
use Rattle.reader_rules.proofs.TreeLists.{exprs_length_lem}
use Rattle.reader_rules.proofs.TreeWords.{included_words}
use Rattle.reader_rules.proofs.TreeText.{Included, include_kind, include_law}
use Rattle.checker_rules.specs.Dictionary.{Dictionary}
use Rattle.checker_dictionary.specs.Index.{Indexed}
use Rattle.checker_dictionary.specs.Lookup.{parameters_at, type_at, SchemaFound}
use Rattle.checker_signatures.specs.Rows.{renames}
use Rattle.checker_signatures.specs.Tables.{Beside, Brings, half_table}
use Rattle.checker_lookup.specs.Components.{ComponentsAsked, ComponentRows}
use Rattle.checker_contracts.specs.Includes.{actual_count, IncludeAsk, IncludeDone, ActualsAsk, ActualsDone}
use Rattle.checker_contracts.proofs.Including.{include_absent, include_count, actuals_ask, include_refused, components_ask, bring_ask, include_wrong, include_done}
use Rattle.types_cells.specs.Layout.{dictionary_at}

-- Its node, and the number of its actuals.
pub included_node : (doc : List ℕ) (k : ℕ) → At doc includes k → include_node (include_at doc k) ≡ k
unfolding include_node
included_node doc k N = ap include_node (include_law doc includes k N (include_kind doc k N) (operand_at doc k 3) refl).tree

pub included_count : (doc : List ℕ) (k : ℕ) → At doc includes k → (actual_count (include_at doc k) ≡ operand_at doc k 3) × (operand_at doc k 3 ≤ 4)
unfolding actual_count
included_count doc k N =
    let I = include_law doc includes k N (include_kind doc k N) (operand_at doc k 3) refl in
    (ap actual_count I.tree ∙ exprs_length_lem doc k 4 (operand_at doc k 3), I.words.few)

module _ {doc p s d w : List ℕ} {stack at free k : ℕ} {places : List ℕ} (N : At doc includes k) (words : p ≡ part doc k)
    (K : IncludeAsk s d w stack at free (include_at doc k) places) (q id h : ℕ) (eq : q ≡ get_or p 3 0) (ei : id ≡ get_or p 1 0) (eh : h ≡ get_or p 2 0) where
  operand : (i v : ℕ) → v ≡ get_or p i 0 → v ≡ operand_at doc k i
  operand i v e = e ∙ ap (λ l. get_or l i 0) words

  L : Included doc k q (include_at doc k ≡ include k (operand_at doc k 1) (operand_at doc k 2) (exprs_from doc k 4 q) (renames (part doc k) (q + 4)))
  L = include_law doc includes k N (include_kind doc k N) q (operand 3 q eq)

  tree : include_at doc k ≡ include k id h (exprs_from doc k 4 q) (renames p (q + 4))
  tree =
      L.tree ∙ ap (λ z. include k z (operand_at doc k 2) (exprs_from doc k 4 q) (renames (part doc k) (q + 4))) (sym (operand 1 id ei))
      ∙ ap (λ z. include k id z (exprs_from doc k 4 q) (renames (part doc k) (q + 4))) (sym (operand 2 h eh))
      ∙ ap (λ z. include k id h (exprs_from doc k 4 q) (renames z (q + 4))) (sym words)

  abbrev A : IncludeAsk s d w stack at free (include k id h (exprs_from doc k 4 q) (renames p (q + 4))) places
  A = subst (λ i. IncludeAsk s d w stack at free i places) tree K

  abbrev Told : List ℕ → List ℕ → List ℕ → ℕ → ℕ → ℕ → ℕ → Type 0
  Told s' w' places' number place m at' = IncludeDone s s' d w w' stack at free (include_at doc k) places places' number place m at'

  back : (s' w' places' : List ℕ) (number place m at' : ℕ) →
      IncludeDone s s' d w w' stack at free (include k id h (exprs_from doc k 4 q) (renames p (q + 4))) places places' number place m at' → Told s' w' places' number place m at'
  back s' w' places' number place m at' = subst (λ i. IncludeDone s s' d w w' stack at free i places places' number place m at') (sym tree)

  pub node_include_few : q ≤ 4
  node_include_few = let z = L.words.few in let y = operand 3 q eq in omega arith

  pub node_include_stroke : h < 4
  node_include_stroke = let z = (included_words doc includes k N (include_kind doc k N)).1 in let y = operand 2 h eh in omega arith

  pub node_include_first : q + 4 ≤ length p
  node_include_first = let z = L.words.long in let y = operand 3 q eq in let x = ap length words in omega arith

  pub node_include_lower : (i : ℕ) → 4 ≤ i → i < q + 4 → Lower doc k expressions (get_or p i 0)
  node_include_lower i a b = L.each i a b (get_or p i 0) (operand i (get_or p i 0) refl)

  count : exprs_length (exprs_from doc k 4 q) ≡ q
  count = exprs_length_lem doc k 4 q

  module _ {e : ℕ} (found : (D : Dictionary) → Indexed D d w → SchemaFound D d id e) where
    pub node_include_absent : e ≡ 0 → Told s w places 31 k 0 0
    node_include_absent z = back s w places 31 k 0 0 (include_absent s d w stack at free k id h (exprs_from doc k 4 q) (renames p (q + 4)) places A e found z 0 0)

    module _ (some : e ≡ 0 → ⊥) {v : ℕ} (ev : v ≡ parameters_at d e) where
      pub node_include_count : (v ≡ q → ⊥) → Told s w places 32 k 0 0
      node_include_count ne =
          back s w places 32 k 0 0
          (include_count s d w stack at free k id h (exprs_from doc k 4 q) (renames p (q + 4)) places A e found some v ev (λ z. ne (z ∙ count)) 0 0)

      module _ (same : v ≡ q) where
        ep : parameters_at d e ≡ exprs_length (exprs_from doc k 4 q)
        ep = sym ev ∙ same ∙ sym count

        few : exprs_length (exprs_from doc k 4 q) ≤ 4
        few = let z = node_include_few in let y = count in omega arith

        pub node_include_actuals : ActualsAsk s d w stack at free k 0 (exprs_from doc k 4 q) places
        node_include_actuals = actuals_ask s d w stack at free k id h (exprs_from doc k 4 q) (renames p (q + 4)) places A e found some ep few

        module _ {s₁ w₁ places₁ : List ℕ} {number place at₁ : ℕ} (P : ActualsDone s s₁ d w w₁ stack at free k 0 (exprs_from doc k 4 q) places places₁ number place at₁) where
          pub node_include_refused : (number ≡ 0 → ⊥) → (m at' : ℕ) → Told s₁ w₁ places₁ number place m at'
          node_include_refused ne m at' =
              back s₁ w₁ places₁ number place m at'
              (include_refused s d w stack at free k id h (exprs_from doc k 4 q) (renames p (q + 4)) places A e found some ep few s₁ w₁ places₁ number place at₁ P ne m at')

          module _ (fine : number ≡ 0) {b : ℕ} (eb : b ≡ type_at d e) where
            pub node_include_components : ComponentsAsked s₁ d w₁ (dictionary_at + b) (free + half_table)
            node_include_components =
                components_ask s d w stack at free k id h (exprs_from doc k 4 q) (renames p (q + 4)) places A e found some ep few s₁ w₁ places₁ number place at₁ P fine b eb

            module _ {w₂ : List ℕ} {c : ℕ} (R : ComponentRows s₁ d w₁ w₂ (dictionary_at + b) (free + half_table) c) where
              pub node_include_bring : Beside (length w₂) free c (free + half_table) c
              node_include_bring =
                  bring_ask s d w stack at free k id h (exprs_from doc k 4 q) (renames p (q + 4)) places A e found some ep few s₁ w₁ places₁ number place at₁ P fine b eb w₂ c R

              module _ {w₃ : List ℕ} {wrong : Bool} {m : ℕ} (B : Brings w₂ w₃ (free + half_table) c free h (renames p (q + 4)) wrong m) (z : length w₃ ≡ length w₂) where
                pub node_include_wrong : wrong ≡ true → Told s₁ w₃ places₁ 37 k 0 0
                node_include_wrong y =
                    back s₁ w₃ places₁ 37 k 0 0
                    (include_wrong s d w stack at free k id h (exprs_from doc k 4 q) (renames p (q + 4)) places A e found some ep few s₁ w₁ places₁ number place at₁ P fine b eb w₂ c R w₃ wrong m B z y 0 0)

                pub node_include_done : wrong ≡ false → Told s₁ w₃ places₁ 0 k m at₁
                node_include_done y =
                    back s₁ w₃ places₁ 0 k m at₁
                    (include_done s d w stack at free k id h (exprs_from doc k 4 q) (renames p (q + 4)) places A e found some ep few s₁ w₁ places₁ number place at₁ P fine b eb w₂ c R w₃ wrong m B z y k)
