-- The names of a dictionary are those that the paragraphs before have made global.
use mathlib.Core.Path.{◌≡◌, refl, ap, sym, ◌∙◌}
use mathlib.Core.Bool.{Bool, true, false, ◌||◌, cond}
use mathlib.Core.List.{List, [], ◌∷◌}
use mathlib.Core.Logic.{◌⊎◌, inl, inr}
use Prim.Native.Nat.{ℕ}
use lib.Dec.{ltb, eqb}
use lib.ListN.{length}
use borrow.Author.Tests.{eq-eqb, eqb-true, eqb-false, ne_eqb}
use Rattle.words.specs.Loops.{has}
use Rattle.reader_rules.specs.Tree.{Text, text, Lines, end, declaration, inclusion, Paragraph, given, axiomatic, schema, abbreviation, constraint, include_node}
use Rattle.types_rules.specs.Types.{Ty, Term, under}
use Rattle.types_rules.proofs.Terms.{bool_no}
use Rattle.checker_rules.specs.Unknowns.{Valuation, unknown_at, given_set}
use Rattle.checker_rules.specs.Dictionary.{name_entry, Dictionary, ◌▸◌, Named, of_global, name_in}
use Rattle.checker_rules.specs.Signatures.{Signature, no_names, naming, names_of, insert_name, merge, declare}
use Rattle.checker_rules.specs.Scopes.{Scope, globals, include_signature, lines_signature, text_signature}
use Rattle.checker_rules.specs.Conditions.{type_of}
use Rattle.checker_rules.specs.Entries.{add_givens, add_signature, extend}
use Rattle.checker_rules.specs.Globals.{Way, written, included, LinesDeclare, TextDeclares, Declares, History, dictionary_from, Earlier, is_named}
use Rattle.checker_rules.specs.Globals.{is_global}

pub eqb_swap : (a b : ℕ) → eqb a b ≡ eqb b a
eqb_swap a b = go (eqb a b) refl
  where
    go : (c : Bool) → eqb a b ≡ c → c ≡ eqb b a
    go true e = sym (eq-eqb b a (sym (eqb-true a b e)))
    go false e = sym (ne_eqb b a (λ q. eqb-false a b e (sym q)))

or_swap : (a b c : Bool) → (a || (b || c)) ≡ (b || (a || c))
or_swap true true c = refl
or_swap true false c = refl
or_swap false b c = refl

or_twice : (a b : Bool) → (a || b) ≡ (a || (a || b))
or_twice true b = refl
or_twice false b = refl

or_assoc : (a b c : Bool) → ((a || b) || c) ≡ (a || (b || c))
or_assoc true b c = refl
or_assoc false b c = refl

-- Signatures.
pub has_insert : (x i : ℕ) (t : Term) (s : Signature) → has x (names_of (insert_name i t s)) ≡ (eqb i x || has x (names_of s))
unfolding insert_name names_of has
has_insert x i t no_names = refl
has_insert x i t (naming j u s) = go (has_insert x i t s) (eqb i j) refl (ltb i j)
  where
    go : has x (names_of (insert_name i t s)) ≡ (eqb i x || has x (names_of s)) → (a : Bool) → eqb i j ≡ a → (b : Bool)
        → has x (names_of (cond a (naming j u s) (cond b (naming i t (naming j u s)) (naming j u (insert_name i t s))))) ≡ (eqb i x || (eqb j x || has x (names_of s)))
    go h true e b = or_twice (eqb j x) (has x (names_of s)) ∙ ap (λ k. eqb k x || (eqb j x || has x (names_of s))) (sym (eqb-true i j e))
    go h false e true = refl
    go h false e false = ap (λ (c : Bool). eqb j x || c) h ∙ or_swap (eqb j x) (eqb i x) (has x (names_of s))

pub has_merge : (x : ℕ) (s r : Signature) → has x (names_of (merge s r)) ≡ (has x (names_of s) || has x (names_of r))
unfolding merge names_of has
has_merge x no_names r = refl
has_merge x (naming i t s) r =
    has_merge x s (insert_name i t r)
    ∙ ap (λ (c : Bool). has x (names_of s) || c) (has_insert x i t r)
    ∙ or_swap (has x (names_of s)) (eqb i x) (has x (names_of r))
    ∙ sym (or_assoc (eqb i x) (has x (names_of s)) (has x (names_of r)))

pub has_declare : (x : ℕ) (is : List ℕ) (t : Term) (r : Signature) → has x (names_of (declare is t r)) ≡ (has x is || has x (names_of r))
unfolding declare has
has_declare x [] t r = refl
has_declare x (i ∷ is) t r =
    has_declare x is t (insert_name i t r)
    ∙ ap (λ (c : Bool). has x is || c) (has_insert x i t r)
    ∙ or_swap (has x is) (eqb i x) (has x (names_of r))
    ∙ sym (or_assoc (eqb i x) (has x is) (has x (names_of r)))

-- Dictionaries.
named_cond : (b : Bool) (p : ℕ) (g : Ty) (m : Named) → is_named (cond b (of_global p g) m) ≡ (b || is_named m)
unfolding is_named
named_cond true p g m = refl
named_cond false p g m = refl

entry_global : (x i p : ℕ) (g : Ty) (D : Dictionary) → is_global x (D ▸ name_entry i p g) ≡ (eqb i x || is_global x D)
unfolding name_in
entry_global x i p g D = named_cond (eqb x i) p g (name_in x D) ∙ ap (λ (c : Bool). c || is_global x D) (eqb_swap x i)

givens_global : (x : ℕ) (is : List ℕ) (D : Dictionary) → is_global x (add_givens is D) ≡ (has x is || is_global x D)
unfolding add_givens has
givens_global x [] D = refl
givens_global x (i ∷ is) D =
    givens_global x is (D ▸ name_entry i 0 (given_set i))
    ∙ ap (λ (c : Bool). has x is || c) (entry_global x i 0 (given_set i) D)
    ∙ or_swap (has x is) (eqb i x) (is_global x D)
    ∙ sym (or_assoc (eqb i x) (has x is) (is_global x D))

signature_global : (x : ℕ) (s : Signature) (τ : Valuation) (D : Dictionary) → is_global x (add_signature s τ D) ≡ (has x (names_of s) || is_global x D)
unfolding add_signature names_of has
signature_global x no_names τ D = refl
signature_global x (naming i t s) τ D =
    signature_global x s τ (D ▸ name_entry i 0 (under τ t))
    ∙ ap (λ (c : Bool). has x (names_of s) || c) (entry_global x i 0 (under τ t) D)
    ∙ or_swap (has x (names_of s)) (eqb i x) (is_global x D)
    ∙ sym (or_assoc (eqb i x) (has x (names_of s)) (is_global x D))

-- a test that is true: one side is
pub or_side : (a b : Bool) → (a || b) ≡ true → (a ≡ true) ⊎ (b ≡ true)
or_side true b e = inl refl
or_side false b e = inr e

or_left : (a b : Bool) → a ≡ true → (a || b) ≡ true
or_left true b e = refl
or_left false b e = absurd (bool_no false e refl)

or_right : (a b : Bool) → b ≡ true → (a || b) ≡ true
or_right true b e = refl
or_right false b e = e

abbrev Someone : (ℕ → Way → Type 0) → Type 0
Someone P = (m : ℕ) × ((w : Way) × P m w)

-- The names of a Text's lines are those that they declare.
lines_from : (ls : Lines) (Γ : Scope) (x : ℕ) (r : Signature) → has x (names_of (lines_signature ls Γ r)) ≡ true
    → Someone (λ m w. LinesDeclare ls Γ m x w) ⊎ (has x (names_of r) ≡ true)
unfolding lines_signature LinesDeclare
lines_from end Γ x r e = inr e
lines_from (declaration n a is ls) Γ x r e = go (lines_from ls Γ x (declare is (unknown_at n 0) r) e)
  where
    here : (has x is ≡ true) ⊎ (has x (names_of r) ≡ true) → Someone (λ m w. LinesDeclare (declaration n a is ls) Γ m x w) ⊎ (has x (names_of r) ≡ true)
    here (inl h) = inl (n, (written, unfold LinesDeclare in inl (refl, h, refl)))
    here (inr h) = inr h

    go : Someone (λ m w. LinesDeclare ls Γ m x w) ⊎ (has x (names_of (declare is (unknown_at n 0) r)) ≡ true)
        → Someone (λ m w. LinesDeclare (declaration n a is ls) Γ m x w) ⊎ (has x (names_of r) ≡ true)
    go (inl h) = inl (h.0, (h.1.0, unfold LinesDeclare in inr h.1.1))
    go (inr h) = here (or_side (has x is) (has x (names_of r)) (sym (has_declare x is (unknown_at n 0) r) ∙ h))
lines_from (inclusion i ls) Γ x r e = go (lines_from ls Γ x (merge (include_signature i Γ) r) e)
  where
    here : (has x (names_of (include_signature i Γ)) ≡ true) ⊎ (has x (names_of r) ≡ true) → Someone (λ m w. LinesDeclare (inclusion i ls) Γ m x w) ⊎ (has x (names_of r) ≡ true)
    here (inl h) = inl (include_node i, (included, unfold LinesDeclare in inl (refl, h, refl)))
    here (inr h) = inr h

    go : Someone (λ m w. LinesDeclare ls Γ m x w) ⊎ (has x (names_of (merge (include_signature i Γ) r)) ≡ true)
        → Someone (λ m w. LinesDeclare (inclusion i ls) Γ m x w) ⊎ (has x (names_of r) ≡ true)
    go (inl h) = inl (h.0, (h.1.0, unfold LinesDeclare in inr h.1.1))
    go (inr h) = here (or_side (has x (names_of (include_signature i Γ))) (has x (names_of r)) (sym (has_merge x (include_signature i Γ) r) ∙ h))

lines_keep : (ls : Lines) (Γ : Scope) (x : ℕ) (r : Signature) → has x (names_of r) ≡ true → has x (names_of (lines_signature ls Γ r)) ≡ true
unfolding lines_signature
lines_keep end Γ x r e = e
lines_keep (declaration n a is ls) Γ x r e =
    lines_keep ls Γ x (declare is (unknown_at n 0) r) (has_declare x is (unknown_at n 0) r ∙ or_right (has x is) (has x (names_of r)) e)
lines_keep (inclusion i ls) Γ x r e =
    lines_keep ls Γ x (merge (include_signature i Γ) r) (has_merge x (include_signature i Γ) r ∙ or_right (has x (names_of (include_signature i Γ))) (has x (names_of r)) e)

lines_to : (ls : Lines) (Γ : Scope) (m x : ℕ) (w : Way) (r : Signature) → LinesDeclare ls Γ m x w → has x (names_of (lines_signature ls Γ r)) ≡ true
unfolding lines_signature LinesDeclare
lines_to end Γ m x w r h = absurd h
lines_to (declaration n a is ls) Γ m x w r (inl h) =
    lines_keep ls Γ x (declare is (unknown_at n 0) r) (has_declare x is (unknown_at n 0) r ∙ or_left (has x is) (has x (names_of r)) h.1)
lines_to (declaration n a is ls) Γ m x w r (inr h) = lines_to ls Γ m x w (declare is (unknown_at n 0) r) h
lines_to (inclusion i ls) Γ m x w r (inl h) =
    lines_keep ls Γ x (merge (include_signature i Γ) r) (has_merge x (include_signature i Γ) r ∙ or_left (has x (names_of (include_signature i Γ))) (has x (names_of r)) h.1)
lines_to (inclusion i ls) Γ m x w r (inr h) = lines_to ls Γ m x w (merge (include_signature i Γ) r) h

-- One paragraph more.
abbrev Made : Paragraph → Dictionary → ℕ → Type 0
Made p D x = Someone (λ m w. Declares p D m x w)

text_from : (t : Text) (Γ : Scope) (x : ℕ) → has x (names_of (text_signature t Γ)) ≡ true → Someone (λ m w. TextDeclares t Γ m x w)
unfolding text_signature TextDeclares names_of has
text_from (text n p ls) Γ x e = go (lines_from ls Γ x no_names e)
  where
    go : Someone (λ m w. LinesDeclare ls Γ m x w) ⊎ (has x (names_of no_names) ≡ true) → Someone (λ m w. TextDeclares (text n p ls) Γ m x w)
    go (inl h) = (h.0, (h.1.0, unfold TextDeclares in h.1.1))
    go (inr h) = absurd (unfold names_of has in bool_no false h refl)

text_to : (t : Text) (Γ : Scope) (m x : ℕ) (w : Way) → TextDeclares t Γ m x w → has x (names_of (text_signature t Γ)) ≡ true
unfolding text_signature TextDeclares
text_to (text n p ls) Γ m x w h = lines_to ls Γ m x w no_names h

one_from : (p : Paragraph) (D : Dictionary) (τ : Valuation) (x : ℕ) → is_global x (extend p D τ) ≡ true → Made p D x ⊎ (is_global x D ≡ true)
unfolding extend Declares name_in
one_from (given n is) D τ x e = go (or_side (has x is) (is_global x D) (sym (givens_global x is D) ∙ e))
  where
    go : (has x is ≡ true) ⊎ (is_global x D ≡ true) → Made (given n is) D x ⊎ (is_global x D ≡ true)
    go (inl h) = inl (n, (written, unfold Declares in (refl, h, refl)))
    go (inr h) = inr h
one_from (axiomatic n t) D τ x e =
    go (or_side (has x (names_of (text_signature t (globals D)))) (is_global x D) (sym (signature_global x (text_signature t (globals D)) τ D) ∙ e))
  where
    go : (has x (names_of (text_signature t (globals D))) ≡ true) ⊎ (is_global x D ≡ true) → Made (axiomatic n t) D x ⊎ (is_global x D ≡ true)
    go (inl h) = inl (unfold Declares in text_from t (globals D) x h)
    go (inr h) = inr h
one_from (schema n s ps y) D τ x e = inr e
one_from (abbreviation n i ps a) D τ x e = go (or_side (eqb i x) (is_global x D) (sym (entry_global x i (length ps) (under τ (type_of a)) D) ∙ e))
  where
    go : (eqb i x ≡ true) ⊎ (is_global x D ≡ true) → Made (abbreviation n i ps a) D x ⊎ (is_global x D ≡ true)
    go (inl h) = inl (n, (written, unfold Declares in (refl, eqb-true i x h, refl)))
    go (inr h) = inr h
one_from (constraint n p) D τ x e = inr e

one_keeps : (p : Paragraph) (D : Dictionary) (τ : Valuation) (x : ℕ) → is_global x D ≡ true → is_global x (extend p D τ) ≡ true
unfolding extend name_in
one_keeps (given n is) D τ x e = givens_global x is D ∙ or_right (has x is) (is_global x D) e
one_keeps (axiomatic n t) D τ x e = signature_global x (text_signature t (globals D)) τ D ∙ or_right (has x (names_of (text_signature t (globals D)))) (is_global x D) e
one_keeps (schema n s ps y) D τ x e = e
one_keeps (abbreviation n i ps a) D τ x e = entry_global x i (length ps) (under τ (type_of a)) D ∙ or_right (eqb i x) (is_global x D) e
one_keeps (constraint n p) D τ x e = e

one_to : (p : Paragraph) (D : Dictionary) (τ : Valuation) (m x : ℕ) (w : Way) → Declares p D m x w → is_global x (extend p D τ) ≡ true
unfolding extend Declares
one_to (given n is) D τ m x w h = givens_global x is D ∙ or_left (has x is) (is_global x D) h.1
one_to (axiomatic n t) D τ m x w h =
    signature_global x (text_signature t (globals D)) τ D ∙ or_left (has x (names_of (text_signature t (globals D)))) (is_global x D) (text_to t (globals D) m x w h)
one_to (schema n s ps y) D τ m x w h = absurd h
one_to (abbreviation n i ps a) D τ m x w h = entry_global x i (length ps) (under τ (type_of a)) D ∙ or_left (eqb i x) (is_global x D) (eq-eqb i x h.1)
one_to (constraint n p) D τ m x w h = absurd h

-- All paragraphs before.
pub global_from : (hs : History) (D : Dictionary) (x : ℕ) → is_global x (dictionary_from hs D) ≡ true → ((w : Way) × Earlier hs D x w) ⊎ (is_global x D ≡ true)
unfolding dictionary_from Earlier
global_from [] D x e = inr e
global_from (h ∷ hs) D x e = go (global_from hs (extend h.0 D h.1) x e)
  where
    here : Made h.0 D x ⊎ (is_global x D ≡ true) → ((w : Way) × Earlier (h ∷ hs) D x w) ⊎ (is_global x D ≡ true)
    here (inl k) = inl (k.1.0, unfold Earlier in inl (k.0, k.1.1))
    here (inr k) = inr k

    go : ((w : Way) × Earlier hs (extend h.0 D h.1) x w) ⊎ (is_global x (extend h.0 D h.1) ≡ true) → ((w : Way) × Earlier (h ∷ hs) D x w) ⊎ (is_global x D ≡ true)
    go (inl k) = inl (k.0, unfold Earlier in inr k.1)
    go (inr k) = here (one_from h.0 D h.1 x k)

pub global_kept : (hs : History) (D : Dictionary) (x : ℕ) → is_global x D ≡ true → is_global x (dictionary_from hs D) ≡ true
unfolding dictionary_from
global_kept [] D x e = e
global_kept (h ∷ hs) D x e = global_kept hs (extend h.0 D h.1) x (one_keeps h.0 D h.1 x e)

pub global_to : (hs : History) (D : Dictionary) (x : ℕ) (w : Way) → Earlier hs D x w → is_global x (dictionary_from hs D) ≡ true
unfolding dictionary_from Earlier
global_to [] D x w e = absurd e
global_to (h ∷ hs) D x w (inl e) = global_kept hs (extend h.0 D h.1) x (one_to h.0 D h.1 e.0 x w e.1)
global_to (h ∷ hs) D x w (inr e) = global_to hs (extend h.0 D h.1) x w e
