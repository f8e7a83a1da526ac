-- Who makes an identifier global, at which node (document 01, finding 36: "an identifier global by an earlier paragraph too, an Axiom's Include bringing at
-- least one"; R16).
use Rattle.std.specs.Prelude.{◌≡◌, Bool, true, false, List, [], ◌∷◌, ◌⊎◌, ℕ}
use Rattle.words.specs.Loops.{has}
use Rattle.reader_rules.specs.Tree.{Text, text, Lines, end, declaration, inclusion, Paragraph, given, axiomatic, schema, abbreviation, constraint, include_node}
use Rattle.checker_rules.specs.Unknowns.{Valuation}
use Rattle.checker_rules.specs.Dictionary.{Dictionary, Named, unnamed, of_local, of_global, name_in}
use Rattle.checker_rules.specs.Signatures.{names_of}
use Rattle.checker_rules.specs.Scopes.{Scope, globals, include_signature}
use Rattle.checker_rules.specs.Entries.{extend}

-- written in a Given, an Axiom Decl or an Abbreviation; or brought by an Axiom's Include
pub data Way : Type 0 where
  written : Way
  included : Way

-- at the node m, a line of an Axiom's own Text makes i global
unfoldable pub LinesDeclare : Lines → Scope → ℕ → ℕ → Way → Type 0
LinesDeclare end Γ m i w = ⊥
LinesDeclare (declaration n a is ls) Γ m i w = ((m ≡ n) × (has i is ≡ true) × (w ≡ written)) ⊎ LinesDeclare ls Γ m i w
LinesDeclare (inclusion x ls) Γ m i w =
    ((m ≡ include_node x) × (has i (names_of (include_signature x Γ)) ≡ true) × (w ≡ included)) ⊎ LinesDeclare ls Γ m i w

unfoldable pub TextDeclares : Text → Scope → ℕ → ℕ → Way → Type 0
TextDeclares (text n p ls) Γ m i w = LinesDeclare ls Γ m i w

-- at the node m, a paragraph over the dictionary D makes i global
unfoldable pub Declares : Paragraph → Dictionary → ℕ → ℕ → Way → Type 0
Declares (given n is) D m i w = (m ≡ n) × (has i is ≡ true) × (w ≡ written)
Declares (axiomatic n t) D m i w = TextDeclares t (globals D) m i w
Declares (schema n s ps x) D m i w = ⊥
Declares (abbreviation n j ps a) D m i w = (m ≡ n) × (j ≡ i) × (w ≡ written)
Declares (constraint n p) D m i w = ⊥

-- Paragraphs, each with a typing; the dictionary after them; that one of them makes i global.
abbrev pub History : Type 0
History = List (Paragraph × Valuation)

unfoldable pub paragraphs_in : History → List Paragraph
paragraphs_in [] = []
paragraphs_in (h ∷ hs) = h.0 ∷ paragraphs_in hs

unfoldable pub dictionary_from : History → Dictionary → Dictionary
dictionary_from [] D = D
dictionary_from (h ∷ hs) D = dictionary_from hs (extend h.0 D h.1)

unfoldable pub Earlier : History → Dictionary → ℕ → Way → Type 0
Earlier [] D i w = ⊥
Earlier (h ∷ hs) D i w = ((m : ℕ) × Declares h.0 D m i w) ⊎ Earlier hs (extend h.0 D h.1) i w

-- What the rule asks (specs/Conditions, new_names): the identifier has a name entry.
unfoldable pub is_named : Named → Bool
is_named unnamed = false
is_named (of_local t) = true
is_named (of_global p g) = true

abbrev pub is_global : ℕ → Dictionary → Bool
is_global i D = is_named (name_in i D)
