-- Expressions at nodes: the laws of the crate `checker_contracts` over the trees of the document's nodes.
use mathlib.Core.Path.{◌≡◌, refl, sym, ap, subst, ◌∙◌}
use mathlib.Core.List.{List, [], ◌∷◌}
use mathlib.Core.Logic.{⊎_elim}
use Prim.Native.Nat.{ℕ, ◌+◌, ◌≤◌, ◌<◌, ◌*◌}
use native.Mathlib.Nat.{eq-or-lt_of_le}
use native.Mathlib.Omega.{arith}
use lib.ListN.{length, get_or}
use Rattle.layout.specs.Layout.{part}
use Rattle.reader_rules.specs.Decode.{expr_at, operator_of}
use Rattle.reader_rules.specs.Kinds.{expressions}
use Rattle.reader_rules.specs.Nodes.{kind_at, operand_at}
use Rattle.reader_rules.specs.Promise.{At, Lower}
use Rattle.reader_rules.specs.Tree.{Expr, selection}
use Rattle.reader_rules.proofs.TreeExpr.{expr_power, expr_selection, expr_application, expr_arithmetic}
use Rattle.types_rules.specs.Types.{Term}
use Rattle.checker_rules.specs.Items.{Items}
use Rattle.checker_pieces.specs.Stage.{node_cells}
use Rattle.checker_pieces.specs.Building.{Working}
use Rattle.checker_kinds.specs.Equations.{Combined, apply_items, arithmetic_items, select_items}
use Rattle.checker_kinds.specs.Formers.{Derived, power_rule_items}
use Rattle.checker_contracts.specs.Expressions.{ExprAsk, ExprDone}
use Rattle.checker_contracts.specs.Shapes.{Over, Joining}
use Rattle.checker_contracts.proofs.Shapes.{power_over, select_over, apply_joining, arithmetic_joining}
use Rattle.checker_contracts.proofs.Expressions.{over_ask, over_stops, over_working, over_done, joining_ask, joining_stops, joining_then_ask, joining_then_stops, joining_working, joining_done}
use Rattle.std.specs.Prelude.{Result, Ok, Err}
use Rattle.types_solver.specs.declared.entering.Grown.{Grown}
use Rattle.checker_pieces.specs.Answering.{Rules}
use Rattle.checker_closing.specs.Nodes.{Node, VisitAt, RuledAt}
use Rattle.checker_closing.specs.declared.results.Visit.{Visit}

-- An answer by its fields.
pub visit_done : {s s' d w w' : List ℕ} {rows n top at free : ℕ} {e : Expr} {number place cell n' top' at' : ℕ} {r : Visit} → VisitAt r number place cell n' top' at' →
    ExprDone s s' d w w' rows n top at free e number place cell n' top' at' → ExprDone s s' d w w' rows n top at free e r.number r.place r.cell r.cells r.top r.at
visit_done R E = rw (R.number_is, R.place_is, R.cell_is, R.cells_are, R.top_is, R.at_is) E

-- On a finding nothing is told of a cell, of cells or of areas.
refused_done : {s s' d w w' : List ℕ} {rows n top at free : ℕ} {e : Expr} {number place cell n' top' at' cell' n'' top'' : ℕ} → (number ≡ 0 → ⊥) →
    ExprDone s s' d w w' rows n top at free e number place cell n' top' at' → ExprDone s s' d w w' rows n top at free e number place cell' n'' top'' at'
refused_done ne E = record { spared = E.spared; areas = λ z. absurd (ne z); goes = λ z. absurd (ne z); stops = E.stops }

-- The answer of a rule.
pub ruled_done : {s s' d w w' : List ℕ} {rows n top at free : ℕ} {e : Expr} {m k at' : ℕ} {P : ℕ → Grown → Type 0} {v : Visit} (r : Result Grown ℕ) → RuledAt v r k at' → Rules m P r →
    ((number : ℕ) (g : Grown) → P number g → ExprDone s s' d w w' rows n top at free e number k g.cell g.cells g.top at') → ExprDone s s' d w w' rows n top at free e v.number v.place v.cell v.cells v.top v.at
ruled_done (Ok g) A R f = visit_done A.is (f 0 g R.is)
ruled_done {m = m} (Err number) A R f =
    let g : Grown = record { cell = 0; cells = m; top = 0 } in visit_done A.is (refused_done R.is.0 (f number g (R.is.1 g (omega arith))))

-- A word of a node's part.
pub node_word : {doc p : List ℕ} {s k : ℕ} → Node doc p s k → (i v : ℕ) → v ≡ get_or p i 0 → v ≡ operand_at doc k i
node_word N i v e = e ∙ ap (λ q. get_or q i 0) N.words

-- A node with its part.
pub handed_node : {doc p : List ℕ} {s k : ℕ} → At doc s k → p ≡ part doc k → Node doc p s k
handed_node h e = record { at = h; words = e }

-- Kinds between those that a match names.
pub past : (q m : ℕ) → m ≤ q → (q ≡ m → ⊥) → m + 1 ≤ q
past q m a x = ⊎_elim (λ (u : m ≡ q). absurd (x (sym u))) (λ (u : m < q). omega arith) (eq-or-lt_of_le a)

pub last_kind_low : {k q : ℕ} → 30 ≤ k → k ≡ q → q < 30 → k ≡ 46
last_kind_low a e l = absurd (omega arith)

pub last_kind : {k q : ℕ} → k ≤ 46 → k ≡ q → 46 ≤ q → k ≡ 46
last_kind a e l = omega arith

-- ONE OPERAND at node a.
pub record OverNode (doc : List ℕ) (k a : ℕ) (own : ℕ → Term → Items) : Type 0 where
  pub lower : Lower doc k expressions a
  pub shape : Over (expr_at doc k) (expr_at doc a) k (own k)

module _ {doc p : List ℕ} {k : ℕ} (N : Node doc p expressions k) (a : ℕ) (e : a ≡ get_or p 1 0) where
  pub power_node : kind_at doc k ≡ 36 → OverNode doc k a power_rule_items
  power_node q =
      let o = expr_power doc k N.at q a (node_word N 1 a e) in
      record { lower = o.first; shape = subst (λ z. Over z (expr_at doc a) k (power_rule_items k)) (sym o.tree) (power_over k (expr_at doc a)) }

  pub select_node : kind_at doc k ≡ 38 → (id : ℕ) → id ≡ get_or p 2 0 → OverNode doc k a (select_items id)
  select_node q id f =
      let o = expr_selection doc k N.at q a (node_word N 1 a e) in
      record { lower = o.first; shape = subst (λ z. Over z (expr_at doc a) k (select_items id k)) (sym (o.tree ∙ ap (selection k (expr_at doc a)) (sym (node_word N 2 id f)))) (select_over k (expr_at doc a) id) }

module _ {doc s d w : List ℕ} {rows n top at free k a : ℕ} (own : ℕ → Term → Items) (O : OverNode doc k a own) (K : ExprAsk s d w rows n top at free (expr_at doc k)) where
  pub over_start : ExprAsk s d w rows n top at free (expr_at doc a)
  over_start = over_ask s d w rows n top at free (expr_at doc k) (expr_at doc a) k own O.shape K

  module _ {s₁ w₁ : List ℕ} {number place x n₁ top₁ at₁ : ℕ} (E : ExprDone s s₁ d w w₁ rows n top at free (expr_at doc a) number place x n₁ top₁ at₁) where
    pub over_stop : (number ≡ 0 → ⊥) → ExprDone s s₁ d w w₁ rows n top at free (expr_at doc k) number place x n₁ top₁ at₁
    over_stop ne = over_stops s d w rows n top at free (expr_at doc k) (expr_at doc a) k own O.shape K s₁ w₁ number place x n₁ top₁ at₁ E ne x

    pub over_rule : number ≡ 0 → (r : ℕ) → r ≤ 2 * node_cells → Working s₁ d n₁ top₁ r (x ∷ [])
    over_rule z r p = over_working s d w rows n top at free (expr_at doc k) (expr_at doc a) k own O.shape K s₁ w₁ number place x n₁ top₁ at₁ E z r p

    pub over_end : number ≡ 0 → {s₂ : List ℕ} {answer cell n₂ top₂ used : ℕ} → used ≤ node_cells → length s₂ ≡ length s₁ → Derived s₁ s₂ d n₁ top₁ x answer cell n₂ top₂ used own →
        ExprDone s s₂ d w w₁ rows n top at free (expr_at doc k) answer k cell n₂ top₂ at₁
    over_end z {s₂} {answer} {cell} {n₂} {top₂} {used} few size R =
        over_done s d w rows n top at free (expr_at doc k) (expr_at doc a) k own O.shape K s₁ w₁ number place x n₁ top₁ at₁ E z s₂ answer cell n₂ top₂ used few size R

-- TWO OPERANDS at nodes a and b.
pub record JoiningNode (doc : List ℕ) (k a b : ℕ) (own : ℕ → Term → Term → Items) : Type 0 where
  pub left : Lower doc k expressions a
  pub right : Lower doc k expressions b
  pub shape : Joining (expr_at doc k) (expr_at doc a) (expr_at doc b) k (own k)

module _ {doc p : List ℕ} {k : ℕ} (N : Node doc p expressions k) (a : ℕ) (e : a ≡ get_or p 1 0) (b : ℕ) (f : b ≡ get_or p 2 0) where
  pub apply_node : kind_at doc k ≡ 37 → JoiningNode doc k a b apply_items
  apply_node q =
      let o = expr_application doc k N.at q a b (node_word N 1 a e) (node_word N 2 b f) in
      record {
        left = o.left;
        right = o.right;
        shape = subst (λ z. Joining z (expr_at doc a) (expr_at doc b) k (apply_items k)) (sym o.tree) (apply_joining k (expr_at doc a) (expr_at doc b));
      }

  pub arithmetic_node : 41 ≤ kind_at doc k → kind_at doc k ≤ 45 → JoiningNode doc k a b arithmetic_items
  arithmetic_node x y =
      let o = expr_arithmetic doc k N.at (kind_at doc k) refl x y a b (node_word N 1 a e) (node_word N 2 b f) in
      record {
        left = o.left;
        right = o.right;
        shape = subst (λ z. Joining z (expr_at doc a) (expr_at doc b) k (arithmetic_items k)) (sym o.tree) (arithmetic_joining k (operator_of (kind_at doc k)) (expr_at doc a) (expr_at doc b));
      }

module _ {doc s d w : List ℕ} {rows n top at free k a b : ℕ} (own : ℕ → Term → Term → Items) (O : JoiningNode doc k a b own) (K : ExprAsk s d w rows n top at free (expr_at doc k)) where
  pub joining_start : ExprAsk s d w rows n top at free (expr_at doc a)
  joining_start = joining_ask s d w rows n top at free (expr_at doc k) (expr_at doc a) (expr_at doc b) k own O.shape K

  module _ {s₁ w₁ : List ℕ} {number place x n₁ top₁ at₁ : ℕ} (E : ExprDone s s₁ d w w₁ rows n top at free (expr_at doc a) number place x n₁ top₁ at₁) where
    pub joining_stop : (number ≡ 0 → ⊥) → ExprDone s s₁ d w w₁ rows n top at free (expr_at doc k) number place x n₁ top₁ at₁
    joining_stop ne = joining_stops s d w rows n top at free (expr_at doc k) (expr_at doc a) (expr_at doc b) k own O.shape K s₁ w₁ number place x n₁ top₁ at₁ E ne x

    module _ (z : number ≡ 0) where
      pub joining_then_start : ExprAsk s₁ d w₁ rows n₁ top₁ at₁ free (expr_at doc b)
      joining_then_start = joining_then_ask s d w rows n top at free (expr_at doc k) (expr_at doc a) (expr_at doc b) k own O.shape K s₁ w₁ number place x n₁ top₁ at₁ E z

      module _ {s₂ w₂ : List ℕ} {number₂ place₂ y n₂ top₂ at₂ : ℕ} (E₂ : ExprDone s₁ s₂ d w₁ w₂ rows n₁ top₁ at₁ free (expr_at doc b) number₂ place₂ y n₂ top₂ at₂) where
        pub joining_then_stop : (number₂ ≡ 0 → ⊥) → ExprDone s s₂ d w w₂ rows n top at free (expr_at doc k) number₂ place₂ y n₂ top₂ at₂
        joining_then_stop ne =
            joining_then_stops s d w rows n top at free (expr_at doc k) (expr_at doc a) (expr_at doc b) k own O.shape K s₁ w₁ number place x n₁ top₁ at₁ E z s₂ w₂ number₂ place₂ y n₂ top₂ at₂ E₂ ne y

        module _ (z₂ : number₂ ≡ 0) where
          pub joining_rule : (r : ℕ) → r ≤ 2 * node_cells → Working s₂ d n₂ top₂ r (x ∷ y ∷ [])
          joining_rule r p =
              joining_working s d w rows n top at free (expr_at doc k) (expr_at doc a) (expr_at doc b) k own O.shape K s₁ w₁ number place x n₁ top₁ at₁ E z s₂ w₂ number₂ place₂ y n₂ top₂ at₂ E₂ z₂ r p

          pub joining_end : {s₃ : List ℕ} {answer cell n₃ top₃ used : ℕ} → used ≤ node_cells → length s₃ ≡ length s₂ → Combined s₂ s₃ d n₂ top₂ x y answer cell n₃ top₃ used own →
              ExprDone s s₃ d w w₂ rows n top at free (expr_at doc k) answer k cell n₃ top₃ at₂
          joining_end {s₃} {answer} {cell} {n₃} {top₃} {used} few size R =
              joining_done s d w rows n top at free (expr_at doc k) (expr_at doc a) (expr_at doc b) k own O.shape K s₁ w₁ number place x n₁ top₁ at₁ E z s₂ w₂ number₂ place₂ y n₂ top₂ at₂ E₂ z₂ s₃ answer cell n₃ top₃ used few size R
