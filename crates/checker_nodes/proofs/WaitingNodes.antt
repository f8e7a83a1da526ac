-- Comprehension, SchemaSet and the expressions without operands, at nodes.
use mathlib.Core.Path.{◌≡◌, sym, ap, subst, ◌∙◌}
use mathlib.Core.Bool.{false}
use mathlib.Core.List.{List, [], ◌∷◌}
use Prim.Native.Nat.{ℕ, ◌+◌, ◌*◌, ◌≤◌}
use native.Mathlib.Omega.{arith}
use lib.ListN.{length, get_or}
use Rattle.reader_rules.specs.Decode.{expr_at, text_at, include_at}
use Rattle.reader_rules.specs.Kinds.{expressions, texts, includes}
use Rattle.reader_rules.specs.Nodes.{kind_at, operand_at}
use Rattle.reader_rules.specs.Promise.{At, Lower}
use Rattle.reader_rules.specs.Tree.{comprehension, schema_set, number, integers, theta}
use Rattle.reader_rules.proofs.TreeExpr.{expr_number, expr_integers, expr_theta, expr_schema_set, expr_comprehension}
use Rattle.reader_rules.proofs.TreeWords.{theta_words}
use Rattle.types_solver.specs.Written.{Wrote}
use Rattle.types_instances.specs.Moved.{saved, restored, SaveAsk, RestoreAsk}
use Rattle.checker_pieces.specs.Stage.{node_cells}
use Rattle.checker_pieces.specs.Building.{Building}
use Rattle.checker_kinds.specs.Formers.{DerivedList, Derived, comprehension_items, number_items, integers_items}
use Rattle.checker_lookup.specs.Bindings.{SchemaSetAsked, SchemaSetTyped}
use Rattle.checker_lookup.specs.Thetas.{ThetaAsked, ThetaRuled}
use Rattle.checker_contracts.specs.Room.{frames_at}
use Rattle.checker_contracts.specs.Expressions.{Visiting, ExprAsk, ExprDone}
use Rattle.checker_contracts.specs.Texts.{TextAsk, TextDone}
use Rattle.checker_contracts.specs.Includes.{BringsAsk, BringsDone}
use Rattle.checker_contracts.proofs.Shapes.{number_alone, integers_alone, theta_alone}
use Rattle.checker_contracts.proofs.Operands.{bare_ending, theta_ending}
use Rattle.checker_contracts.proofs.Expressions.{alone_visiting, alone_building, alone_low, alone_done}
use Rattle.checker_contracts.proofs.Listing.{node_theta}
use Rattle.checker_contracts.proofs.Comprehensions.{compr_save_asked, compr_text_ask, compr_text_stops, compr_restore_asked, compr_body_ask, compr_body_stops, compr_building, compr_done}
use Rattle.checker_contracts.proofs.SchemaSets.{sset_save_asked, sset_include_ask, sset_include_stops, sset_restore_asked, sset_asked, sset_done}
use Rattle.checker_closing.specs.Nodes.{Node, VisitAt}
use Rattle.checker_closing.specs.declared.results.Visit.{Visit}
use Rattle.checker_nodes.proofs.ExprNodes.{visit_done, node_word}

-- COMPREHENSION: the Text at node t, the body at node b.
pub record ComprNode (doc : List ℕ) (k t b : ℕ) : Type 0 where
  pub text : Lower doc k texts t
  pub body : Lower doc k expressions b
  pub tree : expr_at doc k ≡ comprehension k (text_at doc t) (expr_at doc b)

pub compr_node : {doc p : List ℕ} {k : ℕ} → Node doc p expressions k → kind_at doc k ≡ 46 → (t : ℕ) → t ≡ get_or p 1 0 → (b : ℕ) → b ≡ get_or p 2 0 → ComprNode doc k t b
compr_node {doc} {p} {k} N q t e b f =
    let o = expr_comprehension doc k N.at q t b (node_word N 1 t e) (node_word N 2 b f) in
    record { text = o.left; body = o.right; tree = o.tree }

module _ {doc s d w : List ℕ} {rows n top at free k t b : ℕ} (O : ComprNode doc k t b) (K : ExprAsk s d w rows n top at free (expr_at doc k)) where
  compr : ExprAsk s d w rows n top at free (comprehension k (text_at doc t) (expr_at doc b))
  compr = subst (ExprAsk s d w rows n top at free) O.tree K

  pub compr_save : SaveAsk s n top free
  compr_save = compr_save_asked s d w rows n top at free k (text_at doc t) (expr_at doc b) compr

  module _ {w₁ : List ℕ} {e : ℕ} (S : Wrote w w₁ free e (saved s n top)) where
    pub compr_text : TextAsk s d w₁ rows at e (text_at doc t)
    compr_text = compr_text_ask s d w rows n top at free k (text_at doc t) (expr_at doc b) compr w₁ e S

    module _ {s₁ w₂ : List ℕ} {number place m at₁ : ℕ} (T : TextDone s s₁ d w₁ w₂ rows at e (text_at doc t) false number place m at₁) where
      pub compr_stop : (number ≡ 0 → ⊥) → {r : Visit} → VisitAt r number place 0 0 0 0 →
          ExprDone s s₁ d w w₂ rows n top at free (expr_at doc k) r.number r.place r.cell r.cells r.top r.at
      compr_stop ne A = visit_done A (rw O.tree (compr_text_stops s d w rows n top at free k (text_at doc t) (expr_at doc b) compr w₁ e S s₁ w₂ number place m at₁ T ne 0 0 0 0))

      module _ (z : number ≡ 0) where
        pub compr_restore : RestoreAsk w₂ n top free
        compr_restore = compr_restore_asked s d w rows n top at free k (text_at doc t) (expr_at doc b) compr w₁ e S s₁ w₂ number place m at₁ T z

        -- rows of the scope are few
        pub compr_rows : rows + m ≤ frames_at
        compr_rows = let a = compr.visiting.room.stack in let c = (T.done.areas z).few in omega arith

        module _ {s₂ : List ℕ} (R : s₂ ≡ restored s₁ n top w₂ free) where
          pub compr_body : ExprAsk s₂ d w₂ (rows + m) n top at₁ free (expr_at doc b)
          compr_body = compr_body_ask s d w rows n top at free k (text_at doc t) (expr_at doc b) compr w₁ e S s₁ w₂ number place m at₁ T z s₂ R

          module _ {s₃ w₃ : List ℕ} {number₂ place₂ x n₃ top₃ at₃ : ℕ} (E : ExprDone s₂ s₃ d w₂ w₃ (rows + m) n top at₁ free (expr_at doc b) number₂ place₂ x n₃ top₃ at₃) where
            pub compr_then_stop : (number₂ ≡ 0 → ⊥) → ExprDone s s₃ d w w₃ rows n top at free (expr_at doc k) number₂ place₂ x n₃ top₃ at₃
            compr_then_stop ne =
                rw O.tree
                (compr_body_stops s d w rows n top at free k (text_at doc t) (expr_at doc b) compr w₁ e S s₁ w₂ number place m at₁ T z s₂ R s₃ w₃ number₂ place₂ x n₃ top₃ at₃ E ne x)

            module _ (z₂ : number₂ ≡ 0) where
              pub compr_rule : (r : ℕ) → r ≤ 2 * node_cells → Building s₃ n₃ top₃ r (x ∷ [])
              compr_rule r q = compr_building s d w rows n top at free k (text_at doc t) (expr_at doc b) compr w₁ e S s₁ w₂ number place m at₁ T z s₂ R s₃ w₃ number₂ place₂ x n₃ top₃ at₃ E z₂ r q

              pub compr_end : {s₄ : List ℕ} {answer cell n₄ top₄ used : ℕ} {r : Visit} → used ≤ node_cells → length s₄ ≡ length s₃ → Derived s₃ s₄ d n₃ top₃ x answer cell n₄ top₄ used comprehension_items →
                  VisitAt r answer k cell n₄ top₄ at₃ → ExprDone s s₄ d w w₃ rows n top at free (expr_at doc k) r.number r.place r.cell r.cells r.top r.at
              compr_end {s₄} {answer} {cell} {n₄} {top₄} {used} few size D A =
                  visit_done A
                  (rw O.tree
                  (compr_done s d w rows n top at free k (text_at doc t) (expr_at doc b) compr w₁ e S s₁ w₂ number place m at₁ T z s₂ R s₃ w₃ number₂ place₂ x n₃ top₃ at₃ E z₂ s₄ answer cell n₄ top₄ used few size D))

-- SCHEMASET: the Include at node i.
pub record SsetNode (doc : List ℕ) (k i : ℕ) : Type 0 where
  pub lower : Lower doc k includes i
  pub tree : expr_at doc k ≡ schema_set k (include_at doc i)

pub sset_node : {doc p : List ℕ} {k : ℕ} → Node doc p expressions k → kind_at doc k ≡ 40 → (i : ℕ) → i ≡ get_or p 1 0 → SsetNode doc k i
sset_node {doc} {p} {k} N q i e = let o = expr_schema_set doc k N.at q i (node_word N 1 i e) in record { lower = o.first; tree = o.tree }

module _ {doc s d w : List ℕ} {rows n top at free k i : ℕ} (O : SsetNode doc k i) (K : ExprAsk s d w rows n top at free (expr_at doc k)) where
  sset : ExprAsk s d w rows n top at free (schema_set k (include_at doc i))
  sset = subst (ExprAsk s d w rows n top at free) O.tree K

  pub sset_save : SaveAsk s n top free
  sset_save = sset_save_asked s d w rows n top at free k (include_at doc i) sset

  module _ {w₁ : List ℕ} {e : ℕ} (S : Wrote w w₁ free e (saved s n top)) where
    pub sset_include : BringsAsk s d w₁ rows at e (include_at doc i)
    sset_include = sset_include_ask s d w rows n top at free k (include_at doc i) sset w₁ e S

    module _ {s₁ w₂ : List ℕ} {number place m at₁ : ℕ} (T : BringsDone s s₁ d w₁ w₂ rows at e (include_at doc i) number place m at₁) where
      pub sset_stop : (number ≡ 0 → ⊥) → {r : Visit} → VisitAt r number place 0 0 0 0 →
          ExprDone s s₁ d w w₂ rows n top at free (expr_at doc k) r.number r.place r.cell r.cells r.top r.at
      sset_stop ne A = visit_done A (rw O.tree (sset_include_stops s d w rows n top at free k (include_at doc i) sset w₁ e S s₁ w₂ number place m at₁ T ne 0 0 0 0))

      module _ (z : number ≡ 0) where
        pub sset_restore : RestoreAsk w₂ n top free
        sset_restore = sset_restore_asked s d w rows n top at free k (include_at doc i) sset w₁ e S s₁ w₂ number place m at₁ T z

        module _ {s₂ : List ℕ} (R : s₂ ≡ restored s₁ n top w₂ free) where
          pub sset_rule : SchemaSetAsked s₂ d w₂ e m n top
          sset_rule = sset_asked s d w rows n top at free k (include_at doc i) sset w₁ e S s₁ w₂ number place m at₁ T z s₂ R

          pub sset_end : {s₃ : List ℕ} {cell n₃ top₃ : ℕ} {r : Visit} → length s₃ ≡ length s₂ → SchemaSetTyped s₂ s₃ d w₂ e m n top cell n₃ top₃ → VisitAt r 0 k cell n₃ top₃ at₁ →
              ExprDone s s₃ d w w₂ rows n top at free (expr_at doc k) r.number r.place r.cell r.cells r.top r.at
          sset_end {s₃} {cell} {n₃} {top₃} size Y A =
              visit_done A (rw O.tree (sset_done s d w rows n top at free k (include_at doc i) sset w₁ e S s₁ w₂ number place m at₁ T z s₂ R s₃ cell n₃ top₃ size Y))

-- NO OPERAND.
module _ {doc s d w : List ℕ} {rows n top at free k : ℕ} (N : At doc expressions k) (K : ExprAsk s d w rows n top at free (expr_at doc k)) where
  module _ (q : kind_at doc k ≡ 31) where
    number_ask : ExprAsk s d w rows n top at free (number k (operand_at doc k 1))
    number_ask = subst (ExprAsk s d w rows n top at free) (expr_number doc k N q) K

    pub number_rule : (r : ℕ) → r ≤ 2 * node_cells → Building s n top r []
    number_rule r p = alone_building s d w rows n top at free (number k (operand_at doc k 1)) k _ (number_alone k (operand_at doc k 1)) number_ask r p

    pub number_end : {s₁ : List ℕ} {answer cell n₁ top₁ used : ℕ} {r : Visit} → used ≤ node_cells → length s₁ ≡ length s → DerivedList s s₁ d n top [] answer cell n₁ top₁ used number_items →
        VisitAt r answer k cell n₁ top₁ at → ExprDone s s₁ d w w rows n top at free (expr_at doc k) r.number r.place r.cell r.cells r.top r.at
    number_end {s₁} {answer} {cell} {n₁} {top₁} {used} few size R A =
        visit_done A
        (rw (expr_number doc k N q)
        (alone_done s d w rows n top at free (number k (operand_at doc k 1)) k _ (number_alone k (operand_at doc k 1)) number_ask s₁ w answer k cell n₁ top₁ at
        (bare_ending s s₁ d w rows n top at free k answer cell n₁ top₁ used size (alone_low s d w rows n top at free (number k (operand_at doc k 1)) k _ (number_alone k (operand_at doc k 1)) number_ask)
        number_ask.visiting.clean few number_items R)))

  module _ (q : kind_at doc k ≡ 32) where
    integers_ask : ExprAsk s d w rows n top at free (integers k)
    integers_ask = subst (ExprAsk s d w rows n top at free) (expr_integers doc k N q) K

    pub integers_rule : (r : ℕ) → r ≤ 2 * node_cells → Building s n top r []
    integers_rule r p = alone_building s d w rows n top at free (integers k) k _ (integers_alone k) integers_ask r p

    pub integers_end : {s₁ : List ℕ} {answer cell n₁ top₁ used : ℕ} {r : Visit} → used ≤ node_cells → length s₁ ≡ length s → DerivedList s s₁ d n top [] answer cell n₁ top₁ used integers_items →
        VisitAt r answer k cell n₁ top₁ at → ExprDone s s₁ d w w rows n top at free (expr_at doc k) r.number r.place r.cell r.cells r.top r.at
    integers_end {s₁} {answer} {cell} {n₁} {top₁} {used} few size R A =
        visit_done A
        (rw (expr_integers doc k N q)
        (alone_done s d w rows n top at free (integers k) k _ (integers_alone k) integers_ask s₁ w answer k cell n₁ top₁ at
        (bare_ending s s₁ d w rows n top at free k answer cell n₁ top₁ used size (alone_low s d w rows n top at free (integers k) k _ (integers_alone k) integers_ask)
        integers_ask.visiting.clean few integers_items R)))

  module _ (q : kind_at doc k ≡ 39) (id stroke : ℕ) (e : id ≡ operand_at doc k 1) (f : stroke ≡ operand_at doc k 2) where
    theta_tree : expr_at doc k ≡ theta k id stroke
    theta_tree = expr_theta doc k N q ∙ ap (λ v. theta k v (operand_at doc k 2)) (sym e) ∙ ap (theta k id) (sym f)

    theta_ask : ExprAsk s d w rows n top at free (theta k id stroke)
    theta_ask = subst (ExprAsk s d w rows n top at free) theta_tree K

    abbrev L : Visiting s d w rows n top at free theta_ask.height (k ∷ [])
    L = alone_visiting s d w rows n top at free (theta k id stroke) k _ (theta_alone k id stroke) theta_ask

    pub theta_asked : ThetaAsked s d w n top rows free stroke
    theta_asked = let x = (theta_words doc expressions k N q).1 in node_theta s d w rows n top at free theta_ask.height k stroke L (omega arith)

    pub theta_end : {s₁ w₁ : List ℕ} {answer cell n₁ top₁ : ℕ} → length s₁ ≡ length s → length w₁ ≡ length w → ThetaRuled s s₁ d w w₁ n top rows free id stroke answer cell n₁ top₁ →
        ExprDone s s₁ d w w₁ rows n top at free (expr_at doc k) answer k cell n₁ top₁ at
    theta_end {s₁} {w₁} {answer} {cell} {n₁} {top₁} size same R =
        rw theta_tree
        (alone_done s d w rows n top at free (theta k id stroke) k _ (theta_alone k id stroke) theta_ask s₁ w₁ answer k cell n₁ top₁ at
        (theta_ending s s₁ d w rows n top at free k answer cell n₁ top₁ node_cells size (alone_low s d w rows n top at free (theta k id stroke) k _ (theta_alone k id stroke) theta_ask)
        theta_ask.visiting.clean w₁ id stroke R same theta_asked.below theta_asked.above))
