-- The dictionary's entries of a paragraph, in order of declaration (document 01, "The dictionary"; R18): a Given's as written, an Axiom's its whole
-- signature, ascending, with the types of a valuation that meets the paragraph's items.
use Rattle.std.specs.Prelude.{List, [], ◌∷◌, ℕ, length}
use Rattle.reader_rules.specs.Tree.{Paragraph, given, axiomatic, schema, abbreviation, constraint}
use Rattle.types_rules.specs.Types.{under}
use Rattle.checker_rules.specs.Unknowns.{Valuation, given_set}
use Rattle.checker_rules.specs.Dictionary.{name_entry, schema_entry, Dictionary, ◌▸◌}
use Rattle.checker_rules.specs.Signatures.{Signature, no_names, naming, binding_of}
use Rattle.checker_rules.specs.Scopes.{globals, with_parameters, text_signature, schema_signature}
use Rattle.checker_rules.specs.Conditions.{type_of}

unfoldable pub add_givens : List ℕ → Dictionary → Dictionary
add_givens [] D = D
add_givens (i ∷ is) D = add_givens is (D ▸ name_entry i 0 (given_set i))

unfoldable pub add_signature : Signature → Valuation → Dictionary → Dictionary
add_signature no_names τ D = D
add_signature (naming i t s) τ D = add_signature s τ (D ▸ name_entry i 0 (under τ t))

unfoldable pub extend : Paragraph → Dictionary → Valuation → Dictionary
extend (given n is) D τ = add_givens is D
extend (axiomatic n t) D τ = add_signature (text_signature t (globals D)) τ D
extend (schema n s ps x) D τ = D ▸ schema_entry s (length ps) (under τ (binding_of (schema_signature x (with_parameters ps 1 (globals D)))))
extend (abbreviation n i ps a) D τ = D ▸ name_entry i (length ps) (under τ (type_of a))
extend (constraint n p) D τ = D
