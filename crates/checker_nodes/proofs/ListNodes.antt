-- Lists of operands at nodes, and the expressions that have them.
use mathlib.Core.Path.{◌≡◌, refl, sym, ap, subst, ◌∙◌}
use mathlib.Core.Bool.{Bool, true, ◌&&◌}
use mathlib.Core.List.{List, [], ◌∷◌}
use Prim.Native.Nat.{ℕ, zero, suc, ◌+◌, ◌-◌, ◌*◌, ◌≤◌, ◌<◌}
use mathlib.Core.Logic.{⊎_elim}
use native.Mathlib.Omega.{arith}
use native.Mathlib.Nat.{eq-or-lt_of_le}
use lib.Dec.{leb}
use lib.ListN.{length, get_or, set, take}
use borrow.Author.Tests.{leb-true}
use Rattle.words.proofs.Loops.{and_left, and_right}
use Rattle.layout.specs.Layout.{part}
use Rattle.reader_rules.specs.Decode.{expr_at, exprs_from, members_of}
use Rattle.reader_rules.specs.Kinds.{expressions, cell, table, columns}
use Rattle.reader_rules.specs.Nodes.{kind_at, operand_at}
use Rattle.reader_rules.specs.Promise.{Lower}
use Rattle.reader_rules.specs.Tree.{Exprs, more, reference, exprs_length}
use Rattle.reader_rules.proofs.TreeCounts.{at_least, at_most}
use Rattle.reader_rules.proofs.TreeExpr.{expr_reference, expr_members}
use Rattle.reader_rules.proofs.TreeShape.{all_at, ◌▹◌}
use Rattle.reader_rules.proofs.TreeLists.{exprs_go, exprs_end, exprs_length_lem}
use Rattle.checker_rules.specs.Items.{Items}
use Rattle.checker_rules.specs.Rules.{reference_items}
use Rattle.checker_rules.specs.Scopes.{Scope, name_at}
use Rattle.checker_pieces.specs.Stage.{node_cells}
use Rattle.checker_pieces.specs.Building.{Building}
use Rattle.checker_kinds.specs.Formers.{Operating, DerivedList, set_items, tuple_items, product_items}
use Rattle.checker_lookup.specs.References.{ReferringWith, RefersWith}
use Rattle.checker_contracts.specs.Expressions.{ExprAsk, ExprDone, ExprsAsk, ExprsDone}
use Rattle.checker_contracts.specs.Shapes.{Listing}
use Rattle.checker_contracts.proofs.Shapes.{set_listing, tuple_listing, product_listing, reference_listing}
use Rattle.checker_contracts.proofs.Lists.{exprs_none, more_ask, more_stops, more_made, more_few, more_then_ask, more_done}
use Rattle.checker_contracts.proofs.Listing.{listing_ask, listing_stops, listing_fit, listing_operating, listing_building, listing_done, listing_referring, listing_refers}
use Rattle.checker_closing.specs.Nodes.{Node, VisitAt}
use Rattle.checker_closing.specs.declared.results.Visit.{Visit}
use Rattle.checker_nodes.proofs.ExprNodes.{node_word}
use Rattle.types_cells.specs.Layout.{max_cells}

-- A node has at most 256 words.
abbrev all_below : ℕ → List ℕ → Bool
all_below m [] = true
all_below m (x ∷ l) = leb x m && all_below m l

below : (m : ℕ) (l : List ℕ) → all_below m l ≡ true → (i : ℕ) → get_or l i 0 ≤ m
below m [] e i = omega arith
below m (x ∷ l) e zero = leb-true x m (and_left (leb x m) _ e)
below m (x ∷ l) e (suc i) = below m l (and_right (leb x m) _ e) i

pub few_words : {doc p : List ℕ} {s k : ℕ} → Node doc p s k → length p ≤ 256
unfolding cell
few_words {doc} {p} {s} {k} N = let e = ap length N.words in omega (arith, at_most doc s k N.at, below 256 table refl (columns * kind_at doc k + 1))

-- The kind is the first word.
pub node_kind : {doc p : List ℕ} {s k : ℕ} → Node doc p s k → (q : ℕ) → q ≡ get_or p 0 0 → kind_at doc k ≡ q
node_kind N q e = sym (e ∙ ap (λ l. get_or l 0 0) N.words)

-- 35 is neither 33 nor 34.
pub third_kind : {doc p : List ℕ} {k : ℕ} → Node doc p expressions k → (q : ℕ) → q ≡ get_or p 0 0 → 33 ≤ kind_at doc k → kind_at doc k ≤ 35 → (q ≡ 33 → ⊥) → (q ≡ 34 → ⊥) → kind_at doc k ≡ 35
third_kind {doc} {p} {k} N q e a b x y =
    let z = node_kind N q e in
    let low : 33 ≤ q = omega arith in
    ⊎_elim (λ (u : 33 ≡ q). absurd (x (sym u))) (λ (u : 33 < q). ⊎_elim (λ (v : 34 ≡ q). absurd (y (sym v))) (λ (v : 34 < q). omega arith) (eq-or-lt_of_le u)) (eq-or-lt_of_le low)

-- OPERANDS from word i on.
module _ {doc p s d w parts : List ℕ} {rows n top at free k i j : ℕ} (N : Node doc p expressions k) (K : ExprsAsk s d w rows n top at free (exprs_from doc k i (length p - i)) parts j) where
  pub opers_none : length p ≤ i → {r : Visit} → VisitAt r 0 k 0 n top at →
      ExprsDone s s d w w rows n top at free (exprs_from doc k i (length p - i)) parts parts j r.number r.place r.cells r.top r.at
  opers_none q {r} A =
      let e = exprs_end doc k (length p) i q in
      rw (A.number_is, A.place_is, A.cells_are, A.top_is, A.at_is, e) (exprs_none s d w rows n top at free parts j k (subst (λ z. ExprsAsk s d w rows n top at free z parts j) e K))

  pub opers_space : i < length p → j < length parts
  opers_space q = let z = K.wide in let y = exprs_length_lem doc k i (length p - i) in omega arith

  module _ (a : ℕ) (word : a ≡ get_or p i 0) (some : i < length p) where
    abbrev rest : Exprs
    rest = exprs_from doc k (i + 1) (length p - (i + 1))

    tree : exprs_from doc k i (length p - i) ≡ more (expr_at doc a) rest
    tree = exprs_go doc k (length p) i some ∙ ap (λ z. more (expr_at doc z) rest) (sym (node_word N i a word))

    K' : ExprsAsk s d w rows n top at free (more (expr_at doc a) rest) parts j
    K' = subst (λ z. ExprsAsk s d w rows n top at free z parts j) tree K

    pub opers_start : ExprAsk s d w rows n top at free (expr_at doc a)
    opers_start = more_ask s d w rows n top at free (expr_at doc a) rest parts j K'

    module _ {s₁ w₁ : List ℕ} {number place c n₁ top₁ at₁ : ℕ} (E : ExprDone s s₁ d w w₁ rows n top at free (expr_at doc a) number place c n₁ top₁ at₁) where
      pub opers_stop : (number ≡ 0 → ⊥) → ExprsDone s s₁ d w w₁ rows n top at free (exprs_from doc k i (length p - i)) parts parts j number place n₁ top₁ at₁
      opers_stop ne = rw tree (more_stops s d w rows n top at free (expr_at doc a) rest parts j K' s₁ w₁ number place c n₁ top₁ at₁ E ne)

      module _ (z : number ≡ 0) where
        -- the cell is a small number
        pub opers_cell : c < max_cells
        opers_cell =
            let x = more_made s d w rows n top at free (expr_at doc a) rest parts j K' s₁ w₁ number place c n₁ top₁ at₁ E z (set parts j c) refl in
            let y = more_few s d w rows n top at free (expr_at doc a) rest parts j K' s₁ w₁ number place c n₁ top₁ at₁ E z (set parts j c) refl in
            omega arith

        module _ {parts₁ : List ℕ} (stored : parts₁ ≡ set parts j c) where
          pub opers_next : ExprsAsk s₁ d w₁ rows n₁ top₁ at₁ free rest parts₁ (j + 1)
          opers_next = more_then_ask s d w rows n top at free (expr_at doc a) rest parts j K' s₁ w₁ number place c n₁ top₁ at₁ E z parts₁ stored (j + 1) (omega arith)

          pub opers_end : {s₂ w₂ parts₂ : List ℕ} {answer place₂ n₂ top₂ at₂ : ℕ} → ExprsDone s₁ s₂ d w₁ w₂ rows n₁ top₁ at₁ free rest parts₁ parts₂ (j + 1) answer place₂ n₂ top₂ at₂ →
              ExprsDone s s₂ d w w₂ rows n top at free (exprs_from doc k i (length p - i)) parts parts₂ j answer place₂ n₂ top₂ at₂
          opers_end {s₂} {w₂} {parts₂} {answer} {place₂} {n₂} {top₂} {at₂} R =
              rw tree
              (more_done s d w rows n top at free (expr_at doc a) rest parts j K' s₁ w₁ number place c n₁ top₁ at₁ E z parts₁ stored s₂ w₂ parts₂ (j + 1) answer place₂ n₂ top₂ at₂ (omega arith) R)

-- AN EXPRESSION WITH OPERANDS from word i on.
pub record ListingNode (doc p : List ℕ) (k i : ℕ) (own : Scope → Items) : Type 0 where
  pub lower : (q : ℕ) → i ≤ q → q < length p → Lower doc k expressions (get_or p q 0)
  pub shape : Listing (expr_at doc k) (exprs_from doc k i (length p - i)) k own
  pub few : length p - i ≤ 6
  pub some : i ≤ length p

module _ {doc p : List ℕ} {k : ℕ} (N : Node doc p expressions k) where
  lengths : length (part doc k) ≡ length p
  lengths = ap length (sym N.words)

  pub reference_node : kind_at doc k ≡ 30 → (id : ℕ) → id ≡ get_or p 1 0 → ListingNode doc p k 2 (λ Γ. reference_items k (exprs_from doc k 2 (length p - 2)) (name_at id Γ))
  unfolding cell
  reference_node q id e =
      let o = expr_reference doc k N.at q in
      let f = lengths in
      record {
        lower = λ j a b. o.each j a (omega arith) (get_or p j 0) (node_word N j (get_or p j 0) refl);
        shape =
            subst (λ z. Listing z (exprs_from doc k 2 (length p - 2)) k (λ Γ. reference_items k (exprs_from doc k 2 (length p - 2)) (name_at id Γ)))
            (sym (o.tree ∙ ap (λ v. reference k (operand_at doc k 1) (exprs_from doc k 2 (v - 2))) f ∙ ap (λ v. reference k v (exprs_from doc k 2 (length p - 2))) (sym (node_word N 1 id e))))
            (reference_listing k id (exprs_from doc k 2 (length p - 2)));
        few = let m = rw q at (at_most doc expressions k N.at) in omega arith;
        some = let m = rw q at (at_least doc expressions k N.at) in omega arith;
      }

  group_node : (q : ℕ) → kind_at doc k ≡ q → 33 ≤ q → q ≤ 35 → (own : Exprs → Items) → ((xs : Exprs) → Listing (members_of q k xs) xs k (λ Γ. own xs)) → cell q 0 ≤ 2 → cell q 1 ≡ 7 →
      ListingNode doc p k 1 (λ Γ. own (exprs_from doc k 1 (length p - 1)))
  group_node q e a b own S lo hi =
      let o = expr_members doc k N.at q e a b in
      let f = lengths in
      record {
        lower = λ j x y. o.each j x (omega arith) (get_or p j 0) (node_word N j (get_or p j 0) refl);
        shape =
            subst (λ z. Listing z (exprs_from doc k 1 (length p - 1)) k (λ Γ. own (exprs_from doc k 1 (length p - 1))))
            (sym (o.tree ∙ ap (λ v. members_of q k (exprs_from doc k 1 (v - 1))) f)) (S (exprs_from doc k 1 (length p - 1)));
        few = let m = subst (λ v. length (part doc k) ≤ cell v 1) e (at_most doc expressions k N.at) in omega arith;
        some = let m = subst (λ v. cell v 0 < length (part doc k)) e (at_least doc expressions k N.at) in omega arith;
      }

  pub set_node : kind_at doc k ≡ 33 → ListingNode doc p k 1 (λ Γ. set_items k (exprs_from doc k 1 (length p - 1)))
  unfolding cell
  set_node q = group_node 33 q (omega arith) (omega arith) (set_items k) (set_listing k) (omega arith) refl

  pub tuple_node : kind_at doc k ≡ 34 → ListingNode doc p k 1 (λ Γ. tuple_items k (exprs_from doc k 1 (length p - 1)))
  unfolding cell
  tuple_node q = group_node 34 q (omega arith) (omega arith) (tuple_items k) (tuple_listing k) (omega arith) refl

  pub product_node : kind_at doc k ≡ 35 → ListingNode doc p k 1 (λ Γ. product_items k (exprs_from doc k 1 (length p - 1)))
  unfolding cell
  product_node q = group_node 35 q (omega arith) (omega arith) (product_items k) (product_listing k) (omega arith) refl

  pub group_any : 33 ≤ kind_at doc k → kind_at doc k ≤ 35 → (own : Scope → Items) × ListingNode doc p k 1 own
  group_any a b =
      all_at (λ q. kind_at doc k ≡ q → (own : Scope → Items) × ListingNode doc p k 1 own) 33 3
      ((λ e. (_, set_node e)) ▹ (λ e. (_, tuple_node e)) ▹ (λ e. (_, product_node e)) ▹ tt)
      (kind_at doc k) a (omega arith) refl

-- the operands from word i on
abbrev pub operands : List ℕ → List ℕ → ℕ → ℕ → Exprs
operands doc p k i = exprs_from doc k i (length p - i)

module _ {doc p s d w : List ℕ} {rows n top at free k i : ℕ} {own : Scope → Items} (O : ListingNode doc p k i own) (K : ExprAsk s d w rows n top at free (expr_at doc k))
    (parts : List ℕ) (six : length parts ≡ 6) where
  count : exprs_length (operands doc p k i) ≡ length p - i
  count = exprs_length_lem doc k i (length p - i)

  fit : exprs_length (operands doc p k i) ≤ length parts
  fit = let a = count in let b = O.few in omega arith

  pub listing_start : ExprsAsk s d w rows n top at free (operands doc p k i) parts 0
  listing_start = listing_ask s d w rows n top at free (expr_at doc k) (operands doc p k i) k own O.shape K parts fit

  module _ {s₁ w₁ parts₁ : List ℕ} {number place n₁ top₁ at₁ : ℕ} (E : ExprsDone s s₁ d w w₁ rows n top at free (operands doc p k i) parts parts₁ 0 number place n₁ top₁ at₁) where
    pub listing_stop : (number ≡ 0 → ⊥) → {c : ℕ} → ExprDone s s₁ d w w₁ rows n top at free (expr_at doc k) number place c n₁ top₁ at₁
    listing_stop ne {c} = listing_stops s d w rows n top at free (expr_at doc k) (operands doc p k i) k own O.shape K parts fit s₁ w₁ parts₁ number place n₁ top₁ at₁ E ne c

    module _ (z : number ≡ 0) (m : ℕ) (is : m ≡ length p - i) where
      same : exprs_length (operands doc p k i) ≡ m
      same = let a = count in omega arith

      pub listing_size : (m ≤ 6) × (m ≤ length parts₁)
      listing_size = let a = O.few in (omega arith, listing_fit s d w rows n top at free (expr_at doc k) (operands doc p k i) k own O.shape K parts fit s₁ w₁ parts₁ number place n₁ top₁ at₁ E z m same)

      pub listing_operate : (r : ℕ) → r ≤ 2 * node_cells → Operating s₁ d n₁ top₁ r (take m parts₁)
      listing_operate r q = listing_operating s d w rows n top at free (expr_at doc k) (operands doc p k i) k own O.shape K parts fit s₁ w₁ parts₁ number place n₁ top₁ at₁ E z m same r q

      pub listing_build : (r : ℕ) → r ≤ 2 * node_cells → Building s₁ n₁ top₁ r (take m parts₁)
      listing_build r q = listing_building s d w rows n top at free (expr_at doc k) (operands doc p k i) k own O.shape K parts fit s₁ w₁ parts₁ number place n₁ top₁ at₁ E z m same r q

      pub listing_end : {s₂ : List ℕ} {answer cell n₂ top₂ used : ℕ} (rule : ℕ → Exprs → Items) → ((Γ : Scope) → own Γ ≡ rule k (operands doc p k i)) → used ≤ node_cells → length s₂ ≡ length s₁ →
          DerivedList s₁ s₂ d n₁ top₁ (take m parts₁) answer cell n₂ top₂ used rule → ExprDone s s₂ d w w₁ rows n top at free (expr_at doc k) answer k cell n₂ top₂ at₁
      listing_end {s₂} {answer} {cell} {n₂} {top₂} {used} rule same-items few size R =
          listing_done s d w rows n top at free (expr_at doc k) (operands doc p k i) k own O.shape K parts fit s₁ w₁ parts₁ number place n₁ top₁ at₁ E z m same s₂ answer cell n₂ top₂ used rule same-items few size R

      pub listing_refer : ReferringWith s₁ d w₁ n₁ top₁ rows parts₁ m
      listing_refer = listing_referring s d w rows n top at free (expr_at doc k) (operands doc p k i) k own O.shape K parts fit s₁ w₁ parts₁ number place n₁ top₁ at₁ E z m same

      pub listing_referred : {s₂ : List ℕ} {id answer cell n₂ top₂ : ℕ} → ((Γ : Scope) → own Γ ≡ reference_items k (operands doc p k i) (name_at id Γ)) → length s₂ ≡ length s₁ →
          RefersWith s₁ s₂ d w₁ n₁ top₁ rows id parts₁ m answer cell n₂ top₂ → ExprDone s s₂ d w w₁ rows n top at free (expr_at doc k) answer k cell n₂ top₂ at₁
      listing_referred {s₂} {id} {answer} {cell} {n₂} {top₂} same-items size R =
          listing_refers s d w rows n top at free (expr_at doc k) (operands doc p k i) k own O.shape K parts fit s₁ w₁ parts₁ number place n₁ top₁ at₁ E z m same s₂ id answer cell n₂ top₂ same-items size R
