-- The names that a state gives values to: the identifiers in Given and Axiom Decl, as written in Document order (R21: line order, not node order).
use Rattle.std.specs.Prelude.{List, [], ◌∷◌, ◌++◌, Bool, true, false, ℕ}
use Rattle.reader_rules.specs.Tree.{Text, text, Lines, end, declaration, inclusion, Paragraph, given, axiomatic, schema, abbreviation, constraint, Document, document}

pub record Name : Type 0 where
  pub is_given : Bool
  pub identifier : ℕ

-- what stands for the name of an entry that is not there
abbrev pub nobody : Name
nobody = record { is_given = false; identifier = 0 }

unfoldable pub names_as : Bool → List ℕ → List Name
names_as b [] = []
names_as b (i ∷ xs) = record { is_given = b; identifier = i } ∷ names_as b xs

unfoldable pub line_names : Lines → List Name
line_names end = []
line_names (declaration n a xs ls) = names_as false xs ++ line_names ls
line_names (inclusion i ls) = line_names ls

unfoldable pub paragraph_names : Paragraph → List Name
paragraph_names (given n xs) = names_as true xs
paragraph_names (axiomatic n (text m p ls)) = line_names ls
paragraph_names (schema n s ps x) = []
paragraph_names (abbreviation n i ps a) = []
paragraph_names (constraint n p) = []

unfoldable pub names_of : List Paragraph → List Name
names_of [] = []
names_of (p ∷ ps) = paragraph_names p ++ names_of ps

unfoldable pub document_names : Document → List Name
document_names (document n ps) = names_of ps
