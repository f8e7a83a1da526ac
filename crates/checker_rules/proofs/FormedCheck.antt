-- Every type of an accepted document's dictionary is well formed, so that its type words can be read back.
use Rattle.std.specs.Prelude.{Err}
use mathlib.Core.Path.{◌≡◌, refl}
use mathlib.Core.Bool.{Bool, true, false, cond}
use mathlib.Core.List.{List, [], ◌∷◌}
use mathlib.Core.Option.{Option, some, none as nothing}
use Prim.Native.Nat.{ℕ}
use lib.Dec.{ltb, eqb}
use Rattle.reader_rules.specs.Reading.{read_of}
use Rattle.reader_rules.specs.Tree.{Paragraph, given, axiomatic, schema, abbreviation, constraint, paragraph_node}
use Rattle.reader_rules.specs.Decode.{tree_of}
use Rattle.types_rules.specs.Equations.{Pairs, end, pair, AllP}
use Rattle.types_rules.specs.Types.{Term, unknown, under, integer_type}
use Rattle.types_rules.specs.Substitution.{Substitution, empty, resolve}
use Rattle.types_rules.specs.Unify.{Outcome, ok, clash, cycle, stuck, unify, and_then as after, unify_all}
use Rattle.types_rules.specs.Component.{component}
use Rattle.types_rules.specs.Formed.{Formed, FormedType, Arity, WellFormed}
use Rattle.types_rules.proofs.Formed.{under_fit, FitS, FitR, resolve_fit, unify_fit, sol_fit}
use Rattle.checker_rules.specs.Unknowns.{Valuation, given_set}
use Rattle.checker_rules.specs.Items.{Items, skip, ◌⨾◌, fresh, equations, equate, select, small, refusal, piece}
use Rattle.checker_rules.specs.Dictionary.{name_entry, Dictionary, blank, ◌▸◌}
use Rattle.checker_rules.specs.Signatures.{Signature, no_names, naming}
use Rattle.checker_rules.specs.Scopes.{globals, with_parameters, text_signature, schema_signature}
use Rattle.checker_rules.specs.Rules.{paragraph_items}
use Rattle.checker_rules.specs.Entries.{add_givens, add_signature, extend}
use Rattle.checker_rules.specs.Solving.{Solved, pass, refuse, and_then, answer_all, answer, pass_if, selected, solve_from, unknowns, solve, valuation_of}
use Rattle.checker_rules.specs.Check.{Answer, refused, fitting, settle, check_paragraphs, paragraphs_of, after_reading, check_work_words, check_of}
use Rattle.checker_rules.specs.WellFormed.{FormedDictionary, FormedAnswer}
use Rattle.checker_rules.proofs.SolvingRight.{Keeps}
use Rattle.checker_rules.proofs.FormedInstances.{FormedOption, component_formed}
use Rattle.checker_rules.proofs.FormedSignatures.{FormedTerms, binding_formed}
use Rattle.checker_rules.proofs.FormedScopes.{FormedScope, text_formed, schema_formed, parameters_formed, schema_rising}
use Rattle.reader_rules.proofs.Sized.{SizedParagraphs}
use Rattle.checker_rules.proofs.SizedTree.{tree_sized}
use Rattle.checker_rules.proofs.FormedItems.{FormedItems, formed_paragraph}
use Rattle.reader_rules.specs.Refusals.{Finding, Readable, Refused}

-- The solver keeps well-formed substitutions.
abbrev pub FormedSolved : Solved → Type 0
FormedSolved r = Keeps (FitS Arity) r

pub answer_formed : (f n : ℕ) (r : Outcome) → FitR Arity r → FormedSolved (answer f n r)
unfolding answer
answer_formed f n (ok vs s) h = h
answer_formed f n clash h = tt
answer_formed f n cycle h = tt
answer_formed f n stuck h = tt

pub pass_if_formed : (b : Bool) (f n : ℕ) (vs : List ℕ) (s : Substitution) → FitS Arity s → FormedSolved (pass_if b f n vs s)
unfolding pass_if
pass_if_formed true f n vs s h = h
pass_if_formed false f n vs s h = tt

pub selected_formed : (o : Option Term) (n x : ℕ) (vs : List ℕ) (s : Substitution) → FormedOption o → FitS Arity s → FormedSolved (selected o n x vs s)
unfolding selected Formed
selected_formed nothing n x vs s h k = tt
selected_formed (some u) n x vs s h k = answer_formed 33 n (unify vs s (unknown x) u) (unify_fit Arity vs s (unknown x) u k tt h)

pub then_formed : (r : Solved) (k : List ℕ → Substitution → Solved) → FormedSolved r → ((vs : List ℕ) (s : Substitution) → FitS Arity s → FormedSolved (k vs s)) → FormedSolved (and_then r k)
unfolding and_then
then_formed (pass vs s) k h f = f vs s h
then_formed (refuse g m) k h f = tt

-- Several equations.
pub all_formed : (n : ℕ) (H : Items) (r : Outcome) → FitR Arity r → FormedSolved (answer_all n H r)
unfolding answer_all
all_formed n H (ok vs s) h = h
all_formed n H clash h = tt
all_formed n H cycle h = tt
all_formed n H stuck h = tt

unify_all_formed : (vs : List ℕ) (s : Substitution) (P : Pairs Term) → FitS Arity s → AllP (λ a b. Formed Arity a × Formed Arity b) P → FitR Arity (unify_all vs s P)
unfolding unify_all after
unify_all_formed vs s end k h = k
unify_all_formed vs s (pair a b P) k h = go (unify vs s a b) (unify_fit Arity vs s a b k h.0.0 h.0.1) (λ vs' s' k'. unify_all_formed vs' s' P k' h.1)
  where
    go : (r : Outcome) → FitR Arity r → ((vs' : List ℕ) (s' : Substitution) → FitS Arity s' → FitR Arity (unify_all vs' s' P)) → FitR Arity (after r (λ vs' s'. unify_all vs' s' P))
    go (ok vs' s') f g = g vs' s' f
    go clash f g = f
    go cycle f g = f
    go stuck f g = f

pub solve_formed : (t H : Items) (vs : List ℕ) (s : Substitution) → FormedItems t → FitS Arity s → FormedSolved (solve_from t H vs s)
unfolding solve_from FormedItems
solve_formed skip H vs s h k = k
solve_formed (a ⨾ b) H vs s h k = then_formed (solve_from a H vs s) _ (solve_formed a H vs s h.0 k) (λ vs' s' k'. solve_formed b (H ⨾ a) vs' s' h.1 k')
solve_formed (fresh x) H vs s h k = k
solve_formed (equations n es) H vs s h k = all_formed n (H ⨾ equations n es) (unify_all vs s es) (unify_all_formed vs s es k h)
solve_formed (equate g n a b) H vs s h k = answer_formed g n (unify vs s a b) (unify_fit Arity vs s a b k h.0 h.1)
solve_formed (select n i a x) H vs s h k = selected_formed (component i (resolve s a)) n x vs s (component_formed i (resolve s a) (resolve_fit Arity s k a h)) k
solve_formed (small n a) H vs s h k = pass_if_formed _ 38 n vs s k
solve_formed (refusal g n) H vs s h k = tt
solve_formed (piece n t) H vs s h k = then_formed (solve_from t H vs s) _ (solve_formed t H vs s h k) (λ vs' s' k'. pass_if_formed _ 34 n vs' s' k')

-- The dictionary.
pub givens_formed : (xs : List ℕ) (D : Dictionary) → FormedDictionary D → FormedDictionary (add_givens xs D)
unfolding add_givens FormedDictionary FormedType Arity
givens_formed [] D h = h
givens_formed (i ∷ xs) D h = givens_formed xs (D ▸ name_entry i 0 (given_set i)) (h, (refl, ((refl, tt), tt)))

module _ (τ : Valuation) (k : (x : ℕ) → WellFormed (τ x)) where
  add_signature_formed : (s : Signature) (D : Dictionary) → FormedTerms s → FormedDictionary D → FormedDictionary (add_signature s τ D)
  unfolding add_signature FormedDictionary
  add_signature_formed no_names D h d = d
  add_signature_formed (naming i t s) D h d = add_signature_formed s (D ▸ name_entry i 0 (under τ t)) h.1 (d, under_fit Arity τ k t h.0)

  -- EXTENDING KEEPS A DICTIONARY WELL FORMED, where every type of the table is.
  pub extend_formed : (p : Paragraph) (D : Dictionary) → FormedDictionary D → FormedDictionary (extend p D τ)
  unfolding extend FormedDictionary FormedScope Formed
  extend_formed (given n xs) D d = givens_formed xs D d
  extend_formed (axiomatic n t) D d = add_signature_formed (text_signature t (globals D)) D (text_formed t (globals D) d) d
  extend_formed (schema n s ps x) D d = (d, under_fit Arity τ k _ (binding_formed (schema_signature x (with_parameters ps 1 (globals D))) (schema_formed x (with_parameters ps 1 (globals D)) (parameters_formed ps 1 (globals D) d)) (schema_rising x (with_parameters ps 1 (globals D)))))
  extend_formed (abbreviation n i ps e) D d = (d, under_fit Arity τ k _ tt)
  extend_formed (constraint n p) D d = d

pub integer_formed : WellFormed integer_type
unfolding FormedType Arity
integer_formed = (refl, tt)

pub fitting_formed : (b : Bool) (n : ℕ) (E : Dictionary) (k : Dictionary → Answer) → FormedDictionary E → ((D : Dictionary) → FormedDictionary D → FormedAnswer (k D)) → FormedAnswer (fitting b n E k)
unfolding fitting
fitting_formed true n E k h f = f E h
fitting_formed false n E k h f = tt

pub settle_formed : (r : Solved) (p : Paragraph) (D : Dictionary) (w : ℕ) (k : Dictionary → Answer) → FormedSolved r → FormedDictionary D → ((E : Dictionary) → FormedDictionary E → FormedAnswer (k E)) → FormedAnswer (settle r p D w k)
unfolding settle valuation_of
settle_formed (refuse f m) p D w k h d g = tt
settle_formed (pass vs s) p D w k h d g = fitting_formed _ (paragraph_node p) _ k (extend_formed (valuation_of s) (λ x. sol_fit Arity s h (λ y. integer_type) (λ y. integer_formed) x) p D d) g

pub paragraphs_formed : (ps : List Paragraph) (D : Dictionary) (d : ℕ) → SizedParagraphs ps → FormedDictionary D → FormedAnswer (check_paragraphs ps D d)
unfolding check_paragraphs solve SizedParagraphs
paragraphs_formed [] D d z h = h
paragraphs_formed (p ∷ ps) D d z h =
    settle_formed (solve (paragraph_items p D)) p D d (λ E. check_paragraphs ps E d)
    (solve_formed (paragraph_items p D) skip (unknowns (paragraph_items p D) []) empty (formed_paragraph p D z.0 h) tt)
    h
    (λ E e. paragraphs_formed ps E d z.1 e)

-- Every accepted dictionary is well formed: bindings ascending, products of 2 to 6, in each type.
pub check_formed : (doc : List ℕ) (d w : ℕ) → FormedAnswer (check_of doc d w)
unfolding check_of after_reading FormedDictionary
check_formed doc d w = read (read_of doc) refl
  where
    settled : read_of doc ≡ Readable → (b c : Bool) → FormedAnswer (cond b (refused 21 0) (cond c (refused 22 0) (check_paragraphs (paragraphs_of (tree_of doc)) blank d)))
    settled r true c = tt
    settled r false true = tt
    settled r false false = paragraphs_formed (paragraphs_of (tree_of doc)) blank d (tree_sized doc r) (unfold FormedDictionary in tt)

    read : (r : Finding) → read_of doc ≡ r
        → FormedAnswer (after_reading r (cond (ltb w check_work_words) (refused 21 0) (cond (eqb d 0) (refused 22 0) (check_paragraphs (paragraphs_of (tree_of doc)) blank d))))
    read Readable r = settled r (ltb w check_work_words) (eqb d 0)
    read (Err err) r = tt
