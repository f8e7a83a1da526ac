-- What the code chooses by ranges of kinds, where the list of kinds (reader_rules/specs/Kinds) has rows.
use Rattle.std.specs.Prelude.{ℕ, ◌+◌, ◌*◌, List, [], ◌∷◌, ◌++◌, Bool, true, ◌&&◌, ◌||◌, cond, eqb, get_or}
use Rattle.reader_rules.specs.Kinds.{none, identifiers, schema_names, strokes, numbers, counts, expressions, schema_expressions, predicates, texts, lines, paragraphs, includes, is_node_sort, between, cell}

-- THE CHOICE: by one function within the paragraphs, one within the predicates, one within the expressions, and one outside them, where the other
-- listed kinds stand alone.
unfoldable pub by_ranges : {A : Type 0} → (ℕ → A) → (ℕ → A) → (ℕ → A) → (ℕ → A) → ℕ → A
by_ranges paragraph predicate expression other q =
    cond (between 2 q 6) (paragraph q)
    (cond (between 20 q 29) (predicate q) (cond (between 30 q 46) (expression q) (other q)))

unfoldable pub by_kind : {A : Type 0} → A → A → A → A → A → A → ℕ → A
by_kind document text decl include conjunction unlisted q =
    cond (eqb q 1) document
    (cond (eqb q 10) text
    (cond (eqb q 11) decl (cond (eqb q 12) include (cond (eqb q 15) conjunction unlisted))))

-- HOW MANY OPERANDS: the fewest, and the first number that is too large, 0 where the kind is not listed.
abbrev pub from_below : ℕ → ℕ → List ℕ
from_below fewest limit = fewest ∷ limit ∷ []

unfoldable pub paragraph_counts : ℕ → List ℕ
paragraph_counts q = cond (eqb q 2) (from_below 1 17) (cond (between 4 q 5) (from_below 3 8) (from_below 1 2))

unfoldable pub predicate_counts : ℕ → List ℕ
predicate_counts q = cond (eqb q 20) (from_below 0 1) (cond (eqb q 24) (from_below 1 2) (from_below 2 3))

unfoldable pub expression_counts : ℕ → List ℕ
expression_counts q =
    cond (eqb q 30) (from_below 1 6)
    (cond (eqb q 32) (from_below 0 1)
    (cond (eqb q 33) (from_below 0 7)
    (cond (between 34 q 35) (from_below 2 7)
    (cond (eqb q 31 || (eqb q 36 || eqb q 40)) (from_below 1 2) (from_below 2 3)))))

unfoldable pub other_counts : ℕ → List ℕ
other_counts = by_kind (from_below 0 256) (from_below 1 8) (from_below 2 8) (from_below 3 20) (from_below 2 3) (from_below 0 0)

unfoldable pub chosen_counts : ℕ → List ℕ
chosen_counts = by_ranges paragraph_counts predicate_counts expression_counts other_counts

-- in one number, the fewest in a digit to the base 16
unfoldable pub counts_number : List ℕ → ℕ
counts_number c = get_or c 1 0 * 16 + get_or c 0 0

-- OF WHICH SORTS: of the first operand, of the second and of every other, and of the last where it differs.
abbrev pub by_place : ℕ → ℕ → ℕ → ℕ → List ℕ
by_place first second others last = first ∷ second ∷ others ∷ last ∷ []

abbrev pub each : ℕ → List ℕ
each s = by_place s s s none

abbrev pub two : ℕ → ℕ → List ℕ
two first second = by_place first second none none

abbrev pub one : ℕ → List ℕ
one s = two s none

abbrev pub nothing : List ℕ
nothing = one none

unfoldable pub paragraph_sorts : ℕ → List ℕ
paragraph_sorts q =
    cond (eqb q 2) (each identifiers)
    (cond (eqb q 3) (one texts)
    (cond (eqb q 4) (by_place schema_names counts identifiers schema_expressions)
    (cond (eqb q 5) (by_place identifiers counts identifiers expressions) (one predicates))))

unfoldable pub predicate_sorts : ℕ → List ℕ
predicate_sorts q =
    cond (eqb q 20) nothing
    (cond (between 21 q 23) (two expressions expressions)
    (cond (eqb q 24) (one predicates)
    (cond (between 25 q 27) (two predicates predicates) (two texts predicates))))

unfoldable pub expression_sorts : ℕ → List ℕ
expression_sorts q =
    cond (eqb q 30) (by_place identifiers expressions expressions none)
    (cond (eqb q 31) (one numbers)
    (cond (eqb q 32) nothing
    (cond (between 33 q 35) (each expressions)
    (cond (eqb q 36) (one expressions)
    (cond (eqb q 38) (two expressions identifiers)
    (cond (eqb q 39) (two schema_names strokes)
    (cond (eqb q 40) (one includes) (cond (eqb q 46) (two texts expressions) (two expressions expressions)))))))))

unfoldable pub other_sorts : ℕ → List ℕ
other_sorts =
    by_kind (each paragraphs) (by_place predicates lines lines none) (by_place expressions identifiers identifiers none)
    (by_place schema_names strokes counts none) (two schema_expressions schema_expressions) nothing

unfoldable pub chosen_sorts : ℕ → List ℕ
chosen_sorts = by_ranges paragraph_sorts predicate_sorts expression_sorts other_sorts

-- in one number, each in a digit to the base 16
unfoldable pub sorts_number : List ℕ → ℕ
sorts_number s = get_or s 0 0 * 4096 + get_or s 1 0 * 256 + get_or s 2 0 * 16 + get_or s 3 0

-- A row of the list, for every kind, listed or not: from the list, and chosen.
unfoldable pub row_of : ℕ → List ℕ
row_of q = cell q 0 ∷ cell q 1 ∷ cell q 2 ∷ cell q 3 ∷ cell q 4 ∷ cell q 5 ∷ []

unfoldable pub chosen_row : ℕ → List ℕ
chosen_row q = chosen_counts q ++ chosen_sorts q

-- THE SORT OF A KIND, the narrowest: Texts and Includes are schema expressions too, and Includes are lines.
unfoldable pub other_sort : ℕ → ℕ
other_sort = by_kind none texts lines includes schema_expressions none

unfoldable pub chosen_sort : ℕ → ℕ
chosen_sort = by_ranges (λ q. paragraphs) (λ q. predicates) (λ q. expressions) other_sort

-- what is of sort t is of node sort s
unfoldable pub within : ℕ → ℕ → Bool
within t s =
    is_node_sort s
    && cond (eqb s t) true (cond (eqb s schema_expressions) (eqb t texts || eqb t includes) (eqb s lines && eqb t includes))
