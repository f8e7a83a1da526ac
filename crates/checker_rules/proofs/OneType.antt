-- One type and no other: two valuations that meet a paragraph's items, which pass, give each expression node one type, and the dictionary the same entries.
use mathlib.Core.Path.{◌≡◌, refl, ap, ap₂, ◌∙◌, subst}
use mathlib.Core.Bool.{Bool, true, false, cond}
use mathlib.Core.List.{List, [], ◌∷◌}
use mathlib.Core.Logic.{inl, inr}
use Prim.Native.Nat.{ℕ, suc}
use lib.Dec.{eqb}
use lib.ListN.{length}
use Rattle.reader_rules.specs.Tree.{Expr, reference, number, integers, set, tuple, product, power, application, selection, theta, schema_set, arithmetic}
use Rattle.reader_rules.specs.Tree.{comprehension, Exprs, none, more, Pred, truth, equal, member, at_most, not, connected, quantified, Text, text, Lines}
use Rattle.reader_rules.specs.Tree.{end, declaration, inclusion, Include, include, Schema, plain, from, both, Paragraph, given, axiomatic, schema}
use Rattle.reader_rules.specs.Tree.{abbreviation, constraint, expr_node, exprs_length}
use Rattle.types_rules.specs.Former.{binding, identifiers}
use Rattle.types_rules.specs.Types.{node, tcons, Term, unknown, con, Terms, nil, cons, under, unders}
use Rattle.types_rules.specs.Instance.{instance}
use Rattle.types_rules.proofs.Solutions.{tcons_0, tcons_1, node_1}
use Rattle.types_rules.proofs.Instance.{instance_same}
use Rattle.checker_rules.specs.Unknowns.{Valuation, slot, unknown_at, row}
use Rattle.checker_rules.specs.Items.{Items, ◌⨾◌, refusal, Meets, Agree, Any, Passes}
use Rattle.checker_rules.specs.Dictionary.{name_entry, schema_entry, Dictionary, blank, ◌▸◌, Named, unnamed, of_local, of_global, NamedSchema, no_schema}
use Rattle.checker_rules.specs.Dictionary.{a_schema}
use Rattle.checker_rules.specs.Signatures.{Signature, no_names, naming, names_of, terms_of, binding_of, with_names, components_of, merge}
use Rattle.checker_rules.specs.Signatures.{declare, stroke_all, wrong_names}
use Rattle.checker_rules.specs.Scopes.{Scope, globals, name_at, schema_named, with_parameters, brought, include_signature, lines_signature, text_signature}
use Rattle.checker_rules.specs.Scopes.{inside, schema_signature}
use Rattle.checker_rules.specs.Conditions.{refuse_if, typed, are_powers}
use Rattle.checker_rules.specs.Rules.{reference_items, theta_items, include_rule, expr_items, exprs_items, pred_items, text_items, lines_items, include_items}
use Rattle.checker_rules.specs.Rules.{actual_items, schema_items, paragraph_items}
use Rattle.checker_rules.specs.Entries.{add_signature, extend}
use Rattle.checker_rules.specs.ExpressionNodes.{InExpr, InExprs, InPred, InText, InLines, InInclude, InSchema, InParagraph}
use Rattle.checker_rules.proofs.SignatureTerms.{Having, merge_having, declare_having, stroke_having, rename_having}
use Rattle.checker_rules.proofs.ItemLaws.{Agrees, agreed}
use Rattle.checker_rules.proofs.ExpressionRoot.{root}

module _ (σ τ : Valuation) where
  abbrev pub Same : ℕ → Type 0
  Same n = σ (slot n 0) ≡ τ (slot n 0)

  either_same : (b : Bool) (n f m : ℕ) (t : Items) (u : Term) → Agree (cond b (t ⨾ typed n u) (refusal f m)) σ τ → Agrees (cond b (t ⨾ typed n u) (refusal f m)) σ τ → Same n
  unfolding Agree Agrees
  either_same true n f m t u a b = a.1.0
  either_same false n f m t u a b = absurd b

  ref_same : (n : ℕ) (xs : Exprs) (m : Named) → Agree (reference_items n xs m) σ τ → Agrees (reference_items n xs m) σ τ → Same n
  unfolding reference_items Agree Agrees
  ref_same n none unnamed a b = absurd b
  ref_same n none (of_local t) a b = a.0
  ref_same n none (of_global p g) a b = a.1.0
  ref_same n (more e es) unnamed a b = absurd b
  ref_same n (more e es) (of_local t) a b = absurd b
  ref_same n (more e es) (of_global p g) a b = either_same (eqb (exprs_length (more e es)) p) n 32 n (are_powers n (more e es) 1) (instance (row n 1 p) g) a b

  theta_same : (n k : ℕ) (f : NamedSchema) (Γ : Scope) → Agree (theta_items n k f Γ) σ τ → Agrees (theta_items n k f Γ) σ τ → Same n
  unfolding theta_items Agree Agrees
  theta_same n k no_schema Γ a b = absurd b
  theta_same n k (a_schema p g) Γ a b = a.1.1.1.0

  either_left : (b : Bool) (t u : Items) (f m : ℕ) → Agrees (cond b (t ⨾ u) (refusal f m)) σ τ → Agrees t σ τ
  unfolding Agrees
  either_left true t u f m h = h.0
  either_left false t u f m h = absurd h

  incl_agrees : (f : NamedSchema) (i : Include) (acts : Items) → Agrees (include_rule f i acts) σ τ → Agrees acts σ τ
  unfolding include_rule Agrees
  incl_agrees no_schema (include n s k xs rs) acts h = absurd h
  incl_agrees (a_schema p g) (include n s k xs rs) acts h = either_left (eqb (exprs_length xs) p) acts (refuse_if (wrong_names k rs (components_of (instance nil g))) 37 n) 32 n h

  here : {n m : ℕ} → n ≡ m → Same n → Same m
  here e h = subst Same e h

  mutual
    unfolding InExpr expr_items Agree Agrees

    pub one_e : (e : Expr) (Γ : Scope) → Agree (expr_items e Γ) σ τ → Agrees (expr_items e Γ) σ τ → (m : ℕ) → InExpr m e → Same m
    one_e (reference n i xs) Γ a b m (inl q) = here q (ref_same n xs (name_at i Γ) a.1 b.1)
    one_e (reference n i xs) Γ a b m (inr q) = one_es xs Γ a.0 b.0 m q
    one_e (number n k) Γ a b m q = here q a.0
    one_e (integers n) Γ a b m q = here q a.0
    one_e (set n es) Γ a b m (inl q) = here q a.1.1.1.0
    one_e (set n es) Γ a b m (inr q) = one_es es Γ a.0 b.0 m q
    one_e (tuple n es) Γ a b m (inl q) = here q a.1.0
    one_e (tuple n es) Γ a b m (inr q) = one_es es Γ a.0 b.0 m q
    one_e (product n es) Γ a b m (inl q) = here q a.1.1.0
    one_e (product n es) Γ a b m (inr q) = one_es es Γ a.0 b.0 m q
    one_e (power n e) Γ a b m (inl q) = here q a.1.1.0
    one_e (power n e) Γ a b m (inr q) = one_e e Γ a.0 b.0 m q
    one_e (application n f x) Γ a b m (inl q) = here q a.1.1.0
    one_e (application n f x) Γ a b m (inr (inl q)) = one_e f Γ a.0 b.0 m q
    one_e (application n f x) Γ a b m (inr (inr q)) = one_e x Γ a.1.0 b.1.0 m q
    one_e (selection n e i) Γ a b m (inl q) = here q a.1.0
    one_e (selection n e i) Γ a b m (inr q) = one_e e Γ a.0 b.0 m q
    one_e (theta n s k) Γ a b m q = here q (theta_same n k (schema_named s Γ) Γ a b)
    one_e (schema_set n i) Γ a b m (inl q) = here q a.1.1.0
    one_e (schema_set n i) Γ a b m (inr q) = one_i i Γ b.0 m q
    one_e (arithmetic n o x y) Γ a b m (inl q) = here q a.1.1.1.0
    one_e (arithmetic n o x y) Γ a b m (inr (inl q)) = one_e x Γ a.0 b.0 m q
    one_e (arithmetic n o x y) Γ a b m (inr (inr q)) = one_e y Γ a.1.0 b.1.0 m q
    one_e (comprehension n t e) Γ a b m (inl q) = here q a.1.1.0
    one_e (comprehension n t e) Γ a b m (inr (inl q)) = one_t t Γ blank b.0 m q
    one_e (comprehension n t e) Γ a b m (inr (inr q)) = one_e e (inside t Γ) a.1.0 b.1.0 m q

    one_es : (es : Exprs) (Γ : Scope) → Agree (exprs_items es Γ) σ τ → Agrees (exprs_items es Γ) σ τ → (m : ℕ) → InExprs m es → Same m
    one_es none Γ a b m q = absurd q
    one_es (more e es) Γ a b m (inl q) = one_e e Γ a.0 b.0 m q
    one_es (more e es) Γ a b m (inr q) = one_es es Γ a.1 b.1 m q

    one_p : (p : Pred) (Γ : Scope) → Agrees (pred_items p Γ) σ τ → (m : ℕ) → InPred m p → Same m
    one_p (truth n) Γ b m q = absurd q
    one_p (equal n x y) Γ b m (inl q) = one_e x Γ b.0.0 b.1.0 m q
    one_p (equal n x y) Γ b m (inr q) = one_e y Γ b.0.1.0 b.1.1.0 m q
    one_p (member n x y) Γ b m (inl q) = one_e x Γ b.0.0 b.1.0 m q
    one_p (member n x y) Γ b m (inr q) = one_e y Γ b.0.1.0 b.1.1.0 m q
    one_p (at_most n x y) Γ b m (inl q) = one_e x Γ b.0.0 b.1.0 m q
    one_p (at_most n x y) Γ b m (inr q) = one_e y Γ b.0.1.0 b.1.1.0 m q
    one_p (not n p) Γ b m q = one_p p Γ b m q
    one_p (connected n o p r) Γ b m (inl q) = one_p p Γ b.0 m q
    one_p (connected n o p r) Γ b m (inr q) = one_p r Γ b.1 m q
    one_p (quantified n o t p) Γ b m (inl q) = one_t t Γ blank b.0 m q
    one_p (quantified n o t p) Γ b m (inr q) = one_p p (inside t Γ) b.1 m q

    one_t : (t : Text) (Γ : Scope) (D : Dictionary) → Agrees (text_items t Γ D) σ τ → (m : ℕ) → InText m t → Same m
    one_t (text n p ls) Γ D b m (inl q) = one_l ls Γ D no_names b.0 m q
    one_t (text n p ls) Γ D b m (inr q) = one_p p (inside (text n p ls) Γ) b.1 m q

    one_l : (ls : Lines) (Γ : Scope) (D : Dictionary) (r : Signature) → Agrees (lines_items ls Γ D r) σ τ → (m : ℕ) → InLines m ls → Same m
    one_l end Γ D r b m q = absurd q
    one_l (declaration n e xs ls) Γ D r b m (inl q) = one_e e Γ b.0.0.0 b.0.1.0 m q
    one_l (declaration n e xs ls) Γ D r b m (inr q) = one_l ls Γ D (declare xs (unknown_at n 0) r) b.1.1.1 m q
    one_l (inclusion i ls) Γ D r b m (inl q) = one_i i Γ b.0 m q
    one_l (inclusion i ls) Γ D r b m (inr q) = one_l ls Γ D (merge (include_signature i Γ) r) b.1.1.1 m q

    one_i : (i : Include) (Γ : Scope) → Agrees (include_items i Γ) σ τ → (m : ℕ) → InInclude m i → Same m
    one_i (include n s k xs rs) Γ b m q = one_actuals xs n 1 Γ (incl_agrees (schema_named s Γ) (include n s k xs rs) (actual_items xs n 1 Γ) b) m q

    one_actuals : (xs : Exprs) (n k : ℕ) (Γ : Scope) → Agrees (actual_items xs n k Γ) σ τ → (m : ℕ) → InExprs m xs → Same m
    one_actuals none n k Γ b m q = absurd q
    one_actuals (more e es) n k Γ b m (inl q) = one_e e Γ b.0.0.0 b.0.1.0 m q
    one_actuals (more e es) n k Γ b m (inr q) = one_actuals es n (suc k) Γ b.1 m q

  one_s : (x : Schema) (Γ : Scope) → Agrees (schema_items x Γ) σ τ → (m : ℕ) → InSchema m x → Same m
  unfolding InSchema schema_items Agrees
  one_s (plain t) Γ b m q = one_t t Γ blank b m q
  one_s (from i) Γ b m q = one_i i Γ b.0 m q
  one_s (both n x y) Γ b m (inl q) = one_s x Γ b.0 m q
  one_s (both n x y) Γ b m (inr q) = one_s y Γ b.1.0 m q

  pub one_para : (p : Paragraph) (D : Dictionary) → Agrees (paragraph_items p D) σ τ → (m : ℕ) → InParagraph m p → Same m
  unfolding InParagraph paragraph_items Agrees
  one_para (given n xs) D b m q = absurd q
  one_para (axiomatic n t) D b m q = one_t t (globals D) D b m q
  one_para (schema n s ps x) D b m q = one_s x (with_parameters ps 1 (globals D)) b m q
  one_para (abbreviation n i ps e) D b m q = one_e e (with_parameters ps 1 (globals D)) b.0.0 b.0.1 m q
  one_para (constraint n p) D b m q = one_p p (globals D) b m q

  -- Signatures whose terms have one type.
  abbrev OneTerm : Term → Type 0
  OneTerm t = under σ t ≡ under τ t

  abbrev pub SameNames : Signature → Type 0
  SameNames s = Having OneTerm s

  pub join_same : (s r : Signature) → SameNames s → SameNames r → SameNames (merge s r)
  join_same s r h k = merge_having OneTerm s r h k

  pub names_same : (xs : List ℕ) (t : Term) (r : Signature) → under σ t ≡ under τ t → SameNames r → SameNames (declare xs t r)
  names_same xs t r e k = declare_having OneTerm xs t r e k

  fields_of_same : (is : List ℕ) (ts : Terms) → unders σ ts ≡ unders τ ts → SameNames (with_names is ts)
  unfolding with_names under
  fields_of_same [] ts e = tt
  fields_of_same (i ∷ is) nil e = tt
  fields_of_same (i ∷ is) (cons t ts) e = (tcons_0 _ _ _ _ e, fields_of_same is ts (tcons_1 _ _ _ _ e))

  fields_same : (t : Term) → under σ t ≡ under τ t → SameNames (components_of t)
  unfolding components_of under
  fields_same (unknown x) e = tt
  fields_same (con h ts) e = fields_of_same (identifiers h) ts (node_1 _ _ _ _ e)

  bring_same : (f : NamedSchema) (r : Terms) (k : ℕ) (rs : List (ℕ × ℕ)) → unders σ r ≡ unders τ r → SameNames (brought f r k rs)
  unfolding brought
  bring_same no_schema r k rs e = tt
  bring_same (a_schema p g) r k rs e = rename_having OneTerm rs (stroke_all k (components_of (instance r g))) (stroke_having OneTerm k (components_of (instance r g)) (fields_same (instance r g) (instance_same σ τ r g e)))

  row_same : (xs : Exprs) (n k : ℕ) (Γ : Scope) → Agrees (actual_items xs n k Γ) σ τ → unders σ (row n k (exprs_length xs)) ≡ unders τ (row n k (exprs_length xs))
  unfolding actual_items Agree Agrees row exprs_length under
  row_same none n k Γ b = refl
  row_same (more e es) n k Γ b = ap₂ tcons b.0.0.1.0 (row_same es n (suc k) Γ b.1)

  pub incl_same : (i : Include) (Γ : Scope) → Agrees (include_items i Γ) σ τ → SameNames (include_signature i Γ)
  unfolding include_signature include_items
  incl_same (include n s k xs rs) Γ b =
      bring_same (schema_named s Γ) (row n 1 (exprs_length xs)) k rs (row_same xs n 1 Γ (incl_agrees (schema_named s Γ) (include n s k xs rs) (actual_items xs n 1 Γ) b))

  pub lines_same : (ls : Lines) (Γ : Scope) (D : Dictionary) (r : Signature) → Agrees (lines_items ls Γ D r) σ τ → SameNames r → SameNames (lines_signature ls Γ r)
  unfolding lines_signature lines_items Agree Agrees under
  lines_same end Γ D r b h = h
  lines_same (declaration n e xs ls) Γ D r b h = lines_same ls Γ D (declare xs (unknown_at n 0) r) b.1.1.1 (declare_having OneTerm xs (unknown_at n 0) r b.0.0.1.0 h)
  lines_same (inclusion i ls) Γ D r b h = lines_same ls Γ D (merge (include_signature i Γ) r) b.1.1.1 (merge_having OneTerm (include_signature i Γ) r (incl_same i Γ b.0) h)

  pub text_same : (t : Text) (Γ : Scope) (D : Dictionary) → Agrees (text_items t Γ D) σ τ → SameNames (text_signature t Γ)
  unfolding text_signature text_items Agrees
  text_same (text n p ls) Γ D b = lines_same ls Γ D no_names b.0 tt

  pub sig_same : (x : Schema) (Γ : Scope) → Agrees (schema_items x Γ) σ τ → SameNames (schema_signature x Γ)
  unfolding schema_signature schema_items Agrees
  sig_same (plain t) Γ b = text_same t Γ blank b
  sig_same (from i) Γ b = incl_same i Γ b.0
  sig_same (both n x y) Γ b = merge_having OneTerm (schema_signature y Γ) (schema_signature x Γ) (sig_same y Γ b.1.0) (sig_same x Γ b.0)

  pub types_same : (s : Signature) → SameNames s → unders σ (terms_of s) ≡ unders τ (terms_of s)
  unfolding terms_of under
  types_same no_names h = refl
  types_same (naming i t s) h = ap₂ tcons h.0 (types_same s h.1)

  add_sig_same : (s : Signature) (D : Dictionary) → SameNames s → add_signature s σ D ≡ add_signature s τ D
  unfolding add_signature
  add_sig_same no_names D h = refl
  add_sig_same (naming i t s) D h = ap (λ g. add_signature s σ (D ▸ name_entry i 0 g)) h.0 ∙ add_sig_same s (D ▸ name_entry i 0 (under τ t)) h.1

  extend_same' : (p : Paragraph) (D : Dictionary) → Agrees (paragraph_items p D) σ τ → extend p D σ ≡ extend p D τ
  unfolding extend paragraph_items Agrees binding_of under
  extend_same' (given n xs) D b = refl
  extend_same' (axiomatic n t) D b = add_sig_same (text_signature t (globals D)) D (text_same t (globals D) D b)
  extend_same' (schema n s ps x) D b =
      let Γ : Scope = with_parameters ps 1 (globals D) in
      ap (λ ts. D ▸ schema_entry s (length ps) (node (binding (names_of (schema_signature x Γ))) ts)) (types_same (schema_signature x Γ) (sig_same x Γ b))
  extend_same' (abbreviation n i ps e) D b = ap (λ g. D ▸ name_entry i (length ps) g) (one_e e (with_parameters ps 1 (globals D)) b.0.0 b.0.1 (expr_node e) (root e))
  extend_same' (constraint n p) D b = refl

-- One type and no other, for a paragraph over any dictionary.
pub one_type : (p : Paragraph) (D : Dictionary) → Passes (paragraph_items p D) Any → (σ τ : Valuation) → Meets (paragraph_items p D) σ → Meets (paragraph_items p D) τ → (m : ℕ) → InParagraph m p → σ (slot m 0) ≡ τ (slot m 0)
one_type p D h σ τ a b = one_para σ τ p D (agreed (paragraph_items p D) Any σ τ h (tt, a) (tt, b))

pub extend_same : (p : Paragraph) (D : Dictionary) → Passes (paragraph_items p D) Any → (σ τ : Valuation) → Meets (paragraph_items p D) σ → Meets (paragraph_items p D) τ → extend p D σ ≡ extend p D τ
extend_same p D h σ τ a b = extend_same' σ τ p D (agreed (paragraph_items p D) Any σ τ h (tt, a) (tt, b))
