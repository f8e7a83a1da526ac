-- A NAME KEEPS ITS TYPE: what an earlier paragraph has recorded of an identifier, no later paragraph of an accepted document replaces (36). So a type in the
-- final dictionary is the one that every paragraph after its declaration has seen.
use mathlib.Core.Path.{◌≡◌, refl, ap, sym, ◌∙◌}
use mathlib.Core.Bool.{Bool, true, false, ◌||◌, cond}
use mathlib.Core.List.{List, [], ◌∷◌}
use Prim.Native.Nat.{ℕ}
use lib.Dec.{eqb}
use lib.ListN.{length}
use Rattle.words.specs.Loops.{has}
use Rattle.reader_rules.specs.Tree.{Text, text, Lines, end, declaration, inclusion, Paragraph, given, axiomatic, schema, abbreviation, constraint, include_node}
use Rattle.types_rules.specs.Types.{Ty, under}
use Rattle.types_rules.proofs.Terms.{bool_no}
use Rattle.checker_rules.specs.Unknowns.{Valuation, unknown_at, given_set}
use Rattle.checker_rules.specs.Items.{Any, Passes, Typings}
use Rattle.checker_rules.specs.Dictionary.{name_entry, Dictionary, ◌▸◌, of_global, name_in}
use Rattle.checker_rules.specs.Signatures.{Signature, no_names, naming, names_of, merge, declare}
use Rattle.checker_rules.specs.Scopes.{Scope, globals, include_signature, lines_signature, text_signature}
use Rattle.checker_rules.specs.Conditions.{new_names, type_of}
use Rattle.checker_rules.specs.Rules.{text_items, lines_items, paragraph_items}
use Rattle.checker_rules.specs.Entries.{add_givens, add_signature, extend}
use Rattle.checker_rules.specs.Globals.{is_named, is_global}
use Rattle.checker_rules.specs.Verdicts.{Accepts}
use Rattle.checker_rules.proofs.GlobalNames.{eqb_swap, has_merge, has_declare}
use Rattle.checker_rules.proofs.SecondCase.{new_names_lem}

new_name_lem : (n : ℕ) (is : List ℕ) (D : Dictionary) (P : Typings) → Passes (new_names n is D) P → (x : ℕ) → is_global x D ≡ true → has x is ≡ false
new_name_lem n is D P h x g = go (has x is) refl
  where
    go : (b : Bool) → has x is ≡ b → b ≡ false
    go true e = absurd (bool_no (is_global x D) g ((new_names_lem n is D P).0 h x e))
    go false e = refl

or_none_lem : (a b : Bool) → a ≡ false → b ≡ false → (a || b) ≡ false
or_none_lem true b e f = absurd (bool_no true refl e)
or_none_lem false b e f = f

-- The lines of an Axiom's Text declare no name that is global already.
lines_new : (ls : Lines) (Γ : Scope) (D : Dictionary) (r : Signature) (P : Typings) → Passes (lines_items ls Γ D r) P → (x : ℕ) → is_global x D ≡ true
    → has x (names_of r) ≡ false → has x (names_of (lines_signature ls Γ r)) ≡ false
unfolding lines_items lines_signature Passes
lines_new end Γ D r P h x g f = f
lines_new (declaration n a is ls) Γ D r P h x g f =
    lines_new ls Γ D (declare is (unknown_at n 0) r) _ h.1.1.1 x g
    (has_declare x is (unknown_at n 0) r ∙ or_none_lem (has x is) (has x (names_of r)) (new_name_lem n is D _ h.1.0.1 x g) f)
lines_new (inclusion i ls) Γ D r P h x g f =
    lines_new ls Γ D (merge (include_signature i Γ) r) _ h.1.1.1 x g
    (has_merge x (include_signature i Γ) r
    ∙ or_none_lem (has x (names_of (include_signature i Γ))) (has x (names_of r)) (new_name_lem (include_node i) (names_of (include_signature i Γ)) D _ h.1.0.1 x g) f)

text_new : (t : Text) (D : Dictionary) (P : Typings) → Passes (text_items t (globals D) D) P → (x : ℕ) → is_global x D ≡ true
    → has x (names_of (text_signature t (globals D))) ≡ false
unfolding text_items text_signature Passes names_of has
text_new (text n p ls) D P h x g = lines_new ls (globals D) D no_names P h.0 x g refl

-- Entries of other names.
other_entry : (x i p : ℕ) (g : Ty) (D : Dictionary) → eqb i x ≡ false → name_in x (D ▸ name_entry i p g) ≡ name_in x D
unfolding name_in
other_entry x i p g D e = ap (λ (b : Bool). cond b (of_global p g) (name_in x D)) (eqb_swap x i ∙ e)

or_off_left : (a b : Bool) → (a || b) ≡ false → a ≡ false
or_off_left true b e = e
or_off_left false b e = refl

or_off_right : (a b : Bool) → (a || b) ≡ false → b ≡ false
or_off_right true b e = absurd (bool_no true refl e)
or_off_right false b e = e

other_givens : (x : ℕ) (is : List ℕ) (D : Dictionary) → has x is ≡ false → name_in x (add_givens is D) ≡ name_in x D
unfolding add_givens has
other_givens x [] D e = refl
other_givens x (i ∷ is) D e =
    other_givens x is (D ▸ name_entry i 0 (given_set i)) (or_off_right (eqb i x) (has x is) e) ∙ other_entry x i 0 (given_set i) D (or_off_left (eqb i x) (has x is) e)

other_names : (x : ℕ) (s : Signature) (τ : Valuation) (D : Dictionary) → has x (names_of s) ≡ false → name_in x (add_signature s τ D) ≡ name_in x D
unfolding add_signature names_of has
other_names x no_names τ D e = refl
other_names x (naming i t s) τ D e =
    other_names x s τ (D ▸ name_entry i 0 (under τ t)) (or_off_right (eqb i x) (has x (names_of s)) e)
    ∙ other_entry x i 0 (under τ t) D (or_off_left (eqb i x) (has x (names_of s)) e)

-- One paragraph.
pub name_kept : (p : Paragraph) (D : Dictionary) (τ : Valuation) → Passes (paragraph_items p D) Any → (x : ℕ) → is_global x D ≡ true → name_in x (extend p D τ) ≡ name_in x D
unfolding paragraph_items extend Passes name_in
name_kept (given n is) D τ h x g = other_givens x is D (new_name_lem n is D Any h x g)
name_kept (axiomatic n t) D τ h x g = other_names x (text_signature t (globals D)) τ D (text_new t D Any h x g)
name_kept (schema n s ps y) D τ h x g = refl
name_kept (abbreviation n i ps a) D τ h x g = other_entry x i (length ps) (under τ (type_of a)) D (or_off_left (eqb i x) false (unfold has in new_name_lem n (i ∷ []) D _ h.1.0 x g))
name_kept (constraint n p) D τ h x g = refl

-- All paragraphs after.
pub names_kept : (ps : List Paragraph) (D : Dictionary) (d : ℕ) (E : Dictionary) → Accepts Any ps D d E → (x : ℕ) → is_global x D ≡ true → name_in x E ≡ name_in x D
unfolding Accepts
names_kept [] D d E h x g = ap (name_in x) (sym h)
names_kept (p ∷ ps) D d E h x g =
    let k = name_kept p D h.1.0 h.0 x g in
    names_kept ps (extend p D h.1.0) d E h.1.3 x (ap is_named k ∙ g) ∙ k
