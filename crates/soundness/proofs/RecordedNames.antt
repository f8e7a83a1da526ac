-- What an accepted dictionary records for the names of a state: a given's set; for any other name a well-formed type of size 32 at most.
use mathlib.Core.Path.{◌≡◌, ap, ◌∙◌, subst}
use mathlib.Core.List.{List, [], ◌∷◌}
use mathlib.Core.Bool.{Bool, true, false, cond}
use mathlib.Core.Option.{Option, some}
use Prim.Native.Nat.{ℕ, ◌≤◌}
use native.Mathlib.Omega.{arith}
use lib.Dec.{eqb}
use Rattle.reader_rules.specs.Tree.{Lines, end, declaration, inclusion, Paragraph, given, axiomatic, schema, abbreviation, constraint, text, Document, document}
use Rattle.types_rules.specs.Former as Former
use Rattle.types_rules.specs.Types.{Ty, Term, under, size}
use Rattle.types_rules.specs.Formed.{WellFormed}
use Rattle.checker_rules.specs.Unknowns.{Valuation, unknown_at, given_set}
use Rattle.checker_rules.specs.Items.{Any, Meets, MeetsIn}
use Rattle.checker_rules.specs.Dictionary.{Dictionary, blank, ◌▸◌, name_entry, schema_entry, Named, of_global, name_in}
use Rattle.checker_rules.specs.Conditions.{merge_declared}
use Rattle.checker_rules.specs.Entries.{add_givens, extend}
use Rattle.checker_rules.specs.Signatures.{Signature, no_names, insert_name, term_in, declare}
use Rattle.checker_rules.specs.Scopes.{Scope, globals, lines_signature, text_signature}
use Rattle.checker_rules.specs.Rules.{text_items, lines_items, paragraph_items}
use Rattle.checker_rules.specs.Verdicts.{Accepts}
use Rattle.checker_rules.specs.WellFormed.{FormedDictionary}
use Rattle.checker_rules.specs.Check.{paragraphs_of}
use Rattle.soundness.proofs.EachName.{Every, none, also, every_append}
use Rattle.states_rules.specs.Names.{Name, names_as, line_names, paragraph_names, names_of, document_names}
use Rattle.soundness.proofs.Scopes.{over_recorded, name_added, names_stay, lines_stay, merge_fits, merges_next, added}
use Rattle.soundness.proofs.Kept.{kept, given_recorded}

-- ---- what the dictionary records for the names of a state

unfoldable pub RecordedAs : Bool → Dictionary → ℕ → Type 0
RecordedAs true E i = name_in i E ≡ of_global 0 (given_set i)
RecordedAs false E i = (g : Ty) × (name_in i E ≡ of_global 0 g) × (size g ≤ 32)

abbrev pub Recording : Dictionary → Name → Type 0
Recording E n = RecordedAs n.is_given E n.identifier

module _ (E : Dictionary) where
  given_names : (xs : List ℕ) (D : Dictionary) → ((i : ℕ) (g : Ty) → name_in i (add_givens xs D) ≡ of_global 0 g → name_in i E ≡ of_global 0 g) → Every (Recording E) (names_as true xs)
  unfolding names_as add_givens RecordedAs
  given_names [] D k = none
  given_names (i ∷ xs) D k = also (k i (given_set i) (given_recorded i xs D)) (given_names xs (D ▸ name_entry i 0 (given_set i)) k)

  declared_names : (τ : Valuation) (t : Term) (n : ℕ) (xs : List ℕ) (r : Signature) → size (under τ t) ≤ 32 → Meets (merge_declared n xs t r) τ →
      ((i : ℕ) (w : Term) → term_in i (declare xs t r) ≡ some w → name_in i E ≡ of_global 0 (under τ w)) → Every (Recording E) (names_as false xs)
  unfolding names_as declare RecordedAs
  declared_names τ t n [] r l m k = none
  declared_names τ t n (i ∷ xs) r l m k =
      let ad = added τ i t r (merge_fits τ n i xs t r m) in
      also {n = record { is_given = false; identifier = i }} (under τ ad.0, k i ad.0 (names_stay i ad.0 xs t (insert_name i t r) ad.1), subst (λ (g : Ty). size g ≤ 32) ad.2 l)
      (declared_names τ t n xs (insert_name i t r) l (merges_next τ n i xs t r m) k)

  line_names_lem : (τ : Valuation) (ls : Lines) (Γ : Scope) (D : Dictionary) (r : Signature) → Meets (lines_items ls Γ D r) τ →
      ((i : ℕ) (w : Term) → term_in i (lines_signature ls Γ r) ≡ some w → name_in i E ≡ of_global 0 (under τ w)) → Every (Recording E) (line_names ls)
  unfolding line_names lines_items MeetsIn lines_signature
  line_names_lem τ end Γ D r h k = none
  line_names_lem τ (declaration n a xs ls) Γ D r h k =
      every_append (declared_names τ (unknown_at n 0) n xs r h.1.1.0.0 h.1.0.0 (λ i w z. k i w (lines_stay i w ls Γ (declare xs (unknown_at n 0) r) z)))
      (line_names_lem τ ls Γ D (declare xs (unknown_at n 0) r) h.1.1.1 k)
  line_names_lem τ (inclusion i ls) Γ D r h k = line_names_lem τ ls Γ D _ h.1.1.1 k

  names_recorded : (ps : List Paragraph) (D : Dictionary) (d : ℕ) → Accepts Any ps D d E → Every (Recording E) (names_of ps)
  unfolding names_of paragraph_names Accepts extend paragraph_items text_items MeetsIn text_signature over_recorded
  names_recorded [] D d acc = none
  names_recorded (given n xs ∷ ps) D d acc = every_append (given_names xs D (λ i g e. kept ps _ d E acc.1.3 i 0 g e)) (names_recorded ps _ d acc.1.3)
  names_recorded (axiomatic n (text m p ls) ∷ ps) D d acc =
      let τ = acc.1.0 in
      let S = lines_signature ls (globals D) no_names in
      every_append
      (line_names_lem τ ls (globals D) D no_names acc.1.1.1.0
      (λ i x e. kept ps _ d E acc.1.3 i 0 (under τ x) (name_added S τ D i ∙ ap (λ (z : Option Term). over_recorded τ z (name_in i D)) e)))
      (names_recorded ps _ d acc.1.3)
  names_recorded (schema n s xs x ∷ ps) D d acc = names_recorded ps _ d acc.1.3
  names_recorded (abbreviation n i xs a ∷ ps) D d acc = names_recorded ps _ d acc.1.3
  names_recorded (constraint n p ∷ ps) D d acc = names_recorded ps _ d acc.1.3

formed_either : (b : Bool) (p q : ℕ) (g h : Ty) (m : Named) → WellFormed g → (m ≡ of_global q h → WellFormed h) → cond b (of_global p g) m ≡ of_global q h → WellFormed h
formed_either true p q g h m w k e = subst WellFormed (type_of_lem p q g h e) w
  where
    type_of_lem : (p q : ℕ) (g h : Ty) → of_global p g ≡ of_global q h → g ≡ h
    type_of_lem p q g h e = cc
formed_either false p q g h m w k e = k e

pub formed_in : (E : Dictionary) (i q : ℕ) (g : Ty) → FormedDictionary E → name_in i E ≡ of_global q g → WellFormed g
unfolding FormedDictionary name_in
formed_in blank i q g f e = let z : ◌≡◌ {A = ℕ} 0 1 = cc in absurd (omega arith)
formed_in (E ▸ name_entry j p h) i q g f e = formed_either (eqb i j) p q h g (name_in i E) f.1 (λ x. formed_in E i q g f.0 x) e
formed_in (E ▸ schema_entry s p h) i q g f e = formed_in E i q g f.0 e

pub document_recorded : (tree : Document) (d : ℕ) (E : Dictionary) → Accepts Any (paragraphs_of tree) blank d E → Every (Recording E) (document_names tree)
unfolding paragraphs_of document_names
document_recorded (document n ps) d E h = names_recorded E ps blank d h
