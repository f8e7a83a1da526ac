-- THE CHECK COMMUTES with renumbering, for a function on numbers that has an inverse g: the same dictionary, or the same number with its node mapped.
use mathlib.Core.Path.{◌≡◌, refl, ap, sym, ◌∙◌, subst, fun_ext}
use mathlib.Core.List.{List, [], ◌∷◌}
use mathlib.Core.Option.{some}
use mathlib.Core.Logic.{inl, inr}
use Prim.Native.Nat.{ℕ, ◌/◌, ◌%◌, ◌≤◌, ◌<◌}
use native.Mathlib.Omega.{arith}
use lib.ListN.{length}
use Rattle.reader_rules.specs.Tree.{Paragraph, given, axiomatic, schema, abbreviation, constraint}
use Rattle.types_rules.specs.Types.{Term, under, size}
use Rattle.types_rules.specs.Equations.{Pairs, end, pair, Solves}
use Rattle.types_rules.specs.Infinite.{under_inf}
use Rattle.types_rules.specs.Trees.{Extent, finite, infinite, Tree, under_in, component_in}
use Rattle.types_rules.specs.Component.{component_type}
use Rattle.checker_rules.specs.Unknowns.{Valuation, slot}
use Rattle.checker_rules.specs.Items.{Items, skip, ◌⨾◌, fresh, equations, equate, select, small, refusal, piece, Known, Small, MeetsIn, Meets, Agree, Typings, Any, And, Passes, Refuses}
use Rattle.checker_rules.specs.Dictionary.{name_entry, schema_entry, Dictionary, ◌▸◌, dictionary_length}
use Rattle.checker_rules.specs.Signatures.{Signature, no_names, naming, binding_of}
use Rattle.checker_rules.specs.Scopes.{globals, with_parameters, text_signature, schema_signature}
use Rattle.checker_rules.specs.Conditions.{type_of}
use Rattle.checker_rules.specs.Rules.{paragraph_items}
use Rattle.checker_rules.specs.Entries.{add_signature, extend}
use Rattle.checker_rules.specs.Check.{Answer, accepted, refused, check_paragraphs}
use Rattle.checker_rules.specs.Verdicts.{Accepts, RefusesAt, AnswersFrom}
use Rattle.checker_rules.proofs.ScopeUnknowns.{FewRecorded}
use Rattle.checker_rules.proofs.SelectFindings.{extend_few}
use Rattle.checker_rules.proofs.ItemLaws.{Alike, passes_ext, unsolved_map, refuses_ext}
use Rattle.checker_rules.proofs.CheckRight.{paragraphs_law}
use Rattle.canonical_rules.specs.MapNodes.{map_text, map_schema, map_paragraph, map_paragraphs}
use Rattle.canonical_answers.proofs.MapItems.{move_slot, map_pairs, map_items, map_signature, pull, pull_in}
use Rattle.canonical_answers.specs.MapAnswers.{map_answer}
use Rattle.reader_rules.proofs.Sized.{SizedParagraph, SizedParagraphs}
use Rattle.canonical_answers.proofs.TermMaps.{move_slot_lem, under_maps, under_in_lem, binding_maps, text_signature_lem, schema_signature_lem}
use Rattle.canonical_answers.proofs.ItemMaps.{type_maps, with_scope, globals_scope, paragraph_items_lem}
use Rattle.canonical_rules.proofs.NodeMaps.{paragraph_node_lem}

-- Tables: what meets the mapped items, and what its restriction meets.
module _ (f : ℕ → ℕ) where
  abbrev Old : Typings → Typings
  Old P w τ = P w (pull_in f w τ)

  pairs_to : (w : Extent) (τ : ℕ → Tree w) (es : Pairs Term) → Solves (under_in w (pull_in f w τ)) es → Solves (under_in w τ) (map_pairs f es)
  unfolding map_pairs
  pairs_to w τ end h = tt
  pairs_to w τ (pair a b es) h = (under_in_lem f w τ a ∙ h.0 ∙ sym (under_in_lem f w τ b), pairs_to w τ es h.1)

  pairs_from_lem : (w : Extent) (τ : ℕ → Tree w) (es : Pairs Term) → Solves (under_in w τ) (map_pairs f es) → Solves (under_in w (pull_in f w τ)) es
  unfolding map_pairs
  pairs_from_lem w τ end h = tt
  pairs_from_lem w τ (pair a b es) h = (sym (under_in_lem f w τ a) ∙ h.0 ∙ under_in_lem f w τ b, pairs_from_lem w τ es h.1)

  meets_to : (w : Extent) (t : Items) (τ : ℕ → Tree w) → MeetsIn t w (pull_in f w τ) → MeetsIn (map_items f t) w τ
  unfolding MeetsIn map_items
  meets_to w skip τ h = tt
  meets_to w (a ⨾ b) τ h = (meets_to w a τ h.0, meets_to w b τ h.1)
  meets_to w (fresh x) τ h = tt
  meets_to w (equations n es) τ h = pairs_to w τ es h
  meets_to w (equate e n a b) τ h = under_in_lem f w τ a ∙ h ∙ sym (under_in_lem f w τ b)
  meets_to w (select n i a x) τ h = ap (component_in w i) (under_in_lem f w τ a) ∙ h
  meets_to w (small n a) τ h = subst (Small w) (sym (under_in_lem f w τ a)) h
  meets_to w (refusal e n) τ h = h
  meets_to w (piece n t) τ h = meets_to w t τ h

  meets_from : (w : Extent) (t : Items) (τ : ℕ → Tree w) → MeetsIn (map_items f t) w τ → MeetsIn t w (pull_in f w τ)
  unfolding MeetsIn map_items
  meets_from w skip τ h = tt
  meets_from w (a ⨾ b) τ h = (meets_from w a τ h.0, meets_from w b τ h.1)
  meets_from w (fresh x) τ h = tt
  meets_from w (equations n es) τ h = pairs_from_lem w τ es h
  meets_from w (equate e n a b) τ h = sym (under_in_lem f w τ a) ∙ h ∙ under_in_lem f w τ b
  meets_from w (select n i a x) τ h = ap (component_in w i) (sym (under_in_lem f w τ a)) ∙ h
  meets_from w (small n a) τ h = subst (Small w) (under_in_lem f w τ a) h
  meets_from w (refusal e n) τ h = h
  meets_from w (piece n t) τ h = meets_from w t τ h

  agree_to : (t : Items) (σ τ : Valuation) → Agree t (pull f σ) (pull f τ) → Agree (map_items f t) σ τ
  unfolding Agree map_items
  agree_to skip σ τ h = tt
  agree_to (a ⨾ b) σ τ h = (agree_to a σ τ h.0, agree_to b σ τ h.1)
  agree_to (fresh x) σ τ h = h
  agree_to (equations n es) σ τ h = tt
  agree_to (equate e n a b) σ τ h = tt
  agree_to (select n i a x) σ τ h = tt
  agree_to (small n a) σ τ h = tt
  agree_to (refusal e n) σ τ h = tt
  agree_to (piece n t) σ τ h = tt

  agree_from : (t : Items) (σ τ : Valuation) → Agree (map_items f t) σ τ → Agree t (pull f σ) (pull f τ)
  unfolding Agree map_items
  agree_from skip σ τ h = tt
  agree_from (a ⨾ b) σ τ h = (agree_from a σ τ h.0, agree_from b σ τ h.1)
  agree_from (fresh x) σ τ h = h
  agree_from (equations n es) σ τ h = tt
  agree_from (equate e n a b) σ τ h = tt
  agree_from (select n i a x) σ τ h = tt
  agree_from (small n a) σ τ h = tt
  agree_from (refusal e n) σ τ h = tt
  agree_from (piece n t) σ τ h = tt

  and_old : (P : Typings) (t : Items) → Alike (Old (And P t)) (And (Old P) (map_items f t))
  and_old P t w τ = (λ h. (h.0, meets_to w t τ h.1), λ h. (h.0, meets_from w t τ h.1))

  module _ (g : ℕ → ℕ) (inv : (n : ℕ) → g (f n) ≡ n) where
    slot_back : (x : ℕ) → move_slot g (move_slot f x) ≡ x
    unfolding move_slot
    slot_back x = move_slot_lem g (f (x / 8)) (x % 8) (omega arith) ∙ ap (λ n. slot n (x % 8)) (inv (x / 8)) ∙ same x
      where
        same : (x : ℕ) → slot (x / 8) (x % 8) ≡ x
        same x = unfold slot in omega arith

    -- every table is the restriction of one
    push : (w : Extent) → (ℕ → Tree w) → ℕ → Tree w
    push w τ = λ x. τ (move_slot g x)

    onto_in : (w : Extent) (Q : (ℕ → Tree w) → Type 0) (τ : ℕ → Tree w) → Q τ → Q (pull_in f w (push w τ))
    unfolding push
    onto_in w Q τ h = subst Q (fun_ext (λ x. ap τ (sym (slot_back x)))) h

    onto : (Q : Valuation → Type 0) (τ : Valuation) → Q τ → Q (pull f (push finite τ))
    onto Q τ h = onto_in finite Q τ h

    passes_to : (t : Items) (P : Typings) → Passes t P → Passes (map_items f t) (Old P)
    unfolding Passes map_items
    passes_to skip P p = tt
    passes_to (a ⨾ b) P p = (passes_to a P p.0, passes_ext (map_items f b) (Old (And P a)) (And (Old P) (map_items f a)) (and_old P a) (passes_to b (And P a) p.1))
    passes_to (fresh x) P p = tt
    passes_to (equations n es) P p =
        let q = onto (λ τ. P finite τ × Solves (under τ) es) p.0 (p.1, p.2) in
        (push finite p.0, q.0, pairs_to finite _ es q.1)
    passes_to (equate e n a b) P p =
        let q = onto (λ τ. P finite τ × (under τ a ≡ under τ b)) p.0 (p.1, p.2) in
        (push finite p.0, q.0, under_maps f _ a ∙ q.1 ∙ sym (under_maps f _ b))
    passes_to (select n i a x) P p =
        let q = onto (λ τ. P finite τ × (component_type i (under τ a) ≡ some (τ x))) p.1.0 (p.1.1, p.1.2) in
        (λ τ h. subst (λ u. Known (component_type i u)) (sym (under_maps f τ a)) (p.0 (pull f τ) h), (push finite p.1.0, q.0, ap (component_type i) (under_maps f _ a) ∙ q.1))
    passes_to (small n a) P p = λ τ h. subst (λ u. size u ≤ 32) (sym (under_maps f τ a)) (p (pull f τ) h)
    passes_to (refusal e n) P p = p
    passes_to (piece n t) P p = (
      passes_to t P p.0,
      λ σ τ a b. agree_to t σ τ (p.1 (pull f σ) (pull f τ) ((and_old P t finite σ).1 a) ((and_old P t finite τ).1 b)),
    )

    refuses_to : (t : Items) (P : Typings) (e m : ℕ) → Refuses t P e m → Refuses (map_items f t) (Old P) e (f m)
    unfolding Refuses map_items
    refuses_to skip P e m r = r
    refuses_to (a ⨾ b) P e m (inl r) = inl (refuses_to a P e m r)
    refuses_to (a ⨾ b) P e m (inr r) =
        inr (passes_to a P r.0, refuses_ext (map_items f b) (Old (And P a)) (And (Old P) (map_items f a)) e (f m) (and_old P a) (refuses_to b (And P a) e m r.1))
    refuses_to (fresh x) P e m r = r
    refuses_to (equations n es) P e m r = (
      ap f r.0,
      λ τ h q. r.1 (pull f τ) h (pairs_from_lem finite τ es q),
      unsolved_map e _ _ (
        λ z. let q = onto_in infinite (λ ρ. P infinite ρ × Solves (under_inf ρ) es) z.0 (z.1, z.2) in (push infinite z.0, q.0, pairs_to infinite _ es q.1),
        λ z. (pull_in f infinite z.0, z.1, pairs_from_lem infinite z.0 es z.2),
      ) r.2,
    )
    refuses_to (equate d n a b) P e m r = (r.0, ap f r.1, λ τ h q. r.2 (pull f τ) h (sym (under_maps f τ a) ∙ q ∙ under_maps f τ b))
    refuses_to (select n i a x) P e m (inl r) =
        let q = onto (λ τ. P finite τ × (Known (component_type i (under τ a)) → ⊥)) r.2.0 (r.2.1, r.2.2) in
        inl (r.0, ap f r.1, (push finite r.2.0, q.0, λ k. q.1 (subst (λ u. Known (component_type i u)) (under_maps f _ a) k)))
    refuses_to (select n i a x) P e m (inr r) =
        inr (
          r.0,
          ap f r.1,
          λ τ h. subst (λ u. Known (component_type i u)) (sym (under_maps f τ a)) (r.2 (pull f τ) h),
          λ τ h q. r.3 (pull f τ) h (ap (component_type i) (sym (under_maps f τ a)) ∙ q),
        )
    refuses_to (small n a) P e m r =
        let q = onto (λ τ. P finite τ × (32 < size (under τ a))) r.2.0 (r.2.1, r.2.2) in
        (r.0, ap f r.1, (push finite r.2.0, q.0, subst (λ u. 32 < size u) (sym (under_maps f _ a)) q.1))
    refuses_to (refusal d n) P e m r = (r.0, ap f r.1)
    refuses_to (piece n t) P e m (inl r) = inl (refuses_to t P e m r)
    refuses_to (piece n t) P e m (inr r) =
        let s = r.3 in
        let R : Valuation → Valuation → Type 0 = λ σ τ. And P t finite σ × And P t finite τ × (Agree t σ τ → ⊥) in
        let q = onto (λ σ. R σ (pull f (push finite s.1))) s.0 (onto (λ τ. R s.0 τ) s.1 (s.2, s.3, s.4)) in
        inr (
          passes_to t P r.0,
          r.1,
          ap f r.2,
          (push finite s.0, push finite s.1, (and_old P t finite (push finite s.0)).0 q.0, (and_old P t finite (push finite s.1)).0 q.1, λ k. q.2 (agree_from t (push finite s.0) (push finite s.1) k)),
        )

  -- THE ENTRIES of the renumbered paragraph.
  signature_extends : (s : Signature) (τ : Valuation) (D : Dictionary) → add_signature (map_signature f s) τ D ≡ add_signature s (pull f τ) D
  unfolding add_signature map_signature
  signature_extends no_names τ D = refl
  signature_extends (naming i t s) τ D = ap (λ g. add_signature (map_signature f s) τ (D ▸ name_entry i 0 g)) (under_maps f τ t) ∙ signature_extends s τ (D ▸ name_entry i 0 (under (pull f τ) t))

  pub extend_maps : (p : Paragraph) (D : Dictionary) (τ : Valuation) → SizedParagraph p → extend (map_paragraph f p) D τ ≡ extend p D (pull f τ)
  unfolding extend map_paragraph SizedParagraph
  extend_maps (given n is) D τ h = refl
  extend_maps (axiomatic n t) D τ h =
      ap (λ s. add_signature s τ D) (ap (text_signature (map_text f t)) (globals_scope f D) ∙ text_signature_lem f t (globals D) h)
      ∙ signature_extends (text_signature t (globals D)) τ D
  extend_maps (schema n s ps x) D τ h =
      let Γ = with_parameters ps 1 (globals D) in
      let e = ap binding_of (ap (schema_signature (map_schema f x)) (with_scope f ps D) ∙ schema_signature_lem f x Γ h) ∙ binding_maps f (schema_signature x Γ) in
      ap (λ g. D ▸ schema_entry s (length ps) g) (ap (under τ) e ∙ under_maps f τ (binding_of (schema_signature x Γ)))
  extend_maps (abbreviation n i ps a) D τ h = ap (λ g. D ▸ name_entry i (length ps) g) (ap (under τ) (type_maps f a) ∙ under_maps f τ (type_of a))
  extend_maps (constraint n p) D τ h = refl

module _ (f g : ℕ → ℕ) (inv : (n : ℕ) → g (f n) ≡ n) (d : ℕ) where
  module _ (p : Paragraph) (D : Dictionary) (s : SizedParagraph p) (k : FewRecorded D) where
    pub paragraph_passes : Passes (paragraph_items p D) Any → Passes (paragraph_items (map_paragraph f p) D) Any
    paragraph_passes h = subst (λ t. Passes t Any) (sym (paragraph_items_lem f p D s k)) (passes_to f g inv (paragraph_items p D) Any h)

    pub paragraph_refuses : (e m : ℕ) → Refuses (paragraph_items p D) Any e m → Refuses (paragraph_items (map_paragraph f p) D) Any e (f m)
    paragraph_refuses e m h = subst (λ t. Refuses t Any e (f m)) (sym (paragraph_items_lem f p D s k)) (refuses_to f g inv (paragraph_items p D) Any e m h)

    -- a typing of the paragraph, and what holds of its entries, for the renumbered one
    pub typing_to : (Q : Dictionary → Type 0) (τ : Valuation) → And Any (paragraph_items p D) finite τ → Q (extend p D τ)
        → (σ : Valuation) × And Any (paragraph_items (map_paragraph f p) D) finite σ × Q (extend (map_paragraph f p) D σ)
    typing_to Q τ h q =
        let r = onto f g inv (λ σ. Meets (paragraph_items p D) σ × Q (extend p D σ)) τ (h.1, q) in
        let σ = push f g inv finite τ in
        (σ, (tt, subst (λ t. Meets t σ) (sym (paragraph_items_lem f p D s k)) (meets_to f finite (paragraph_items p D) σ r.0)), subst Q (sym (extend_maps f p D σ s)) r.1)

  accepts_to : (ps : List Paragraph) (D E : Dictionary) → SizedParagraphs ps → FewRecorded D → Accepts Any ps D d E → Accepts Any (map_paragraphs f ps) D d E
  unfolding Accepts map_paragraphs SizedParagraphs
  accepts_to [] D E s k h = h
  accepts_to (p ∷ ps) D E s k h =
      let r =
      typing_to p D s.0 k (λ X. (dictionary_length X ≤ d) × Accepts Any (map_paragraphs f ps) X d E) h.1.0 h.1.1
      (h.1.2, accepts_to ps (extend p D h.1.0) E s.1 (extend_few p D h.1.0 s.2 k) h.1.3)
      in
      (paragraph_passes p D s.0 k h.0, (r.0, r.1, r.2.0, r.2.1))

  refuses_at_to : (ps : List Paragraph) (D : Dictionary) (e m : ℕ) → SizedParagraphs ps → FewRecorded D → RefusesAt Any ps D d e m → RefusesAt Any (map_paragraphs f ps) D d e (f m)
  unfolding RefusesAt map_paragraphs SizedParagraphs
  refuses_at_to [] D e m s k h = h
  refuses_at_to (p ∷ ps) D e m s k (inl h) = inl (paragraph_refuses p D s.0 k e m h)
  refuses_at_to (p ∷ ps) D e m s k (inr (h, (τ, t, inl y))) =
      let r = typing_to p D s.0 k (λ X. d < dictionary_length X) τ t y.0 in
      inr (paragraph_passes p D s.0 k h, (r.0, r.1, inl (r.2, y.1, ap f y.2 ∙ sym (paragraph_node_lem f p))))
  refuses_at_to (p ∷ ps) D e m s k (inr (h, (τ, t, inr y))) =
      let r =
      typing_to p D s.0 k (λ X. (dictionary_length X ≤ d) × RefusesAt Any (map_paragraphs f ps) X d e (f m)) τ t
      (y.0, refuses_at_to ps (extend p D τ) e m s.1 (extend_few p D τ s.2 k) y.1)
      in
      inr (paragraph_passes p D s.0 k h, (r.0, r.1, inr (r.2.0, r.2.1)))

  answers_to : (ps : List Paragraph) (D : Dictionary) (a : Answer) → SizedParagraphs ps → FewRecorded D → AnswersFrom Any ps D d a → AnswersFrom Any (map_paragraphs f ps) D d (map_answer f a)
  unfolding AnswersFrom map_answer
  answers_to ps D (accepted E) s k h = accepts_to ps D E s k h
  answers_to ps D (refused e m) s k h = refuses_at_to ps D e m s k h

  pub check_maps : (ps : List Paragraph) (D : Dictionary) → SizedParagraphs ps → FewRecorded D → check_paragraphs (map_paragraphs f ps) D d ≡ map_answer f (check_paragraphs ps D d)
  check_maps ps D s k =
      (paragraphs_law (map_paragraphs f ps) D d (map_answer f (check_paragraphs ps D d))).1 (answers_to ps D (check_paragraphs ps D d) s k ((paragraphs_law ps D d (check_paragraphs ps D d)).0 refl))
