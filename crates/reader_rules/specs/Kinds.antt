-- The kinds of node: how many operands, of which sorts (document 01, the list of kinds 1 to 46).
use Rattle.std.specs.Prelude.{ℕ, ◌+◌, ◌*◌, ◌-◌, ◌%◌, List, [], ◌∷◌, ◌++◌, Bool, true, false, ◌&&◌, ◌||◌, cond, length, get_or, leb, ltb, eqb}
use Rattle.reader_rules.specs.Identifiers.{is_name, is_identifier, is_stroke, is_number, is_count}

-- Sorts of an operand: first those of a plain word, then those of a node.
abbrev pub none : ℕ
none = 0

abbrev pub identifiers : ℕ
identifiers = 1

abbrev pub schema_names : ℕ
schema_names = 2

abbrev pub strokes : ℕ
strokes = 3

abbrev pub numbers : ℕ
numbers = 4

abbrev pub counts : ℕ
counts = 5

abbrev pub expressions : ℕ
expressions = 6

abbrev pub schema_expressions : ℕ
schema_expressions = 7

abbrev pub predicates : ℕ
predicates = 8

abbrev pub texts : ℕ
texts = 9

abbrev pub lines : ℕ
lines = 10

abbrev pub paragraphs : ℕ
paragraphs = 11

abbrev pub includes : ℕ
includes = 12

abbrev pub is_node_sort : ℕ → Bool
is_node_sort s = ltb counts s

-- kind q is of node sort s
abbrev pub between : ℕ → ℕ → ℕ → Bool
between a q b = leb a q && leb q b

unfoldable pub of_sort : ℕ → ℕ → Bool
of_sort s q =
    cond (eqb s expressions) (between 30 q 46)
    (cond (eqb s schema_expressions) (eqb q 10 || (eqb q 12 || eqb q 15))
    (cond (eqb s predicates) (between 20 q 29)
    (cond (eqb s texts) (eqb q 10)
    (cond (eqb s lines) (between 11 q 12)
    (cond (eqb s paragraphs) (between 2 q 6) (cond (eqb s includes) (eqb q 12) false))))))

-- a plain word v of sort s is in range; node sorts have no range
unfoldable pub plain_ok : ℕ → ℕ → Bool
plain_ok s v =
    cond (eqb s identifiers) (is_identifier v)
    (cond (eqb s schema_names) (is_name v)
    (cond (eqb s strokes) (is_stroke v) (cond (eqb s numbers) (is_number v) (cond (eqb s counts) (is_count v) true))))

-- A kind's row: the fewest operands; the first number of operands that is too large, 0 where the kind is not listed; the sorts of the first
-- operand, of the second and of every other, and that of the last where it differs.
abbrev pub columns : ℕ
columns = 6

abbrev row : ℕ → ℕ → ℕ → ℕ → ℕ → ℕ → List ℕ
row fewest limit first second others last = fewest ∷ limit ∷ first ∷ second ∷ others ∷ last ∷ []

abbrev unlisted : List ℕ
unlisted = row 0 0 none none none none

-- operands of one sort; two operands; one operand
abbrev only : ℕ → ℕ → ℕ → List ℕ
only fewest limit s = row fewest limit s s s none

abbrev pair : ℕ → ℕ → List ℕ
pair first second = row 2 3 first second none none

abbrev single : ℕ → List ℕ
single s = row 1 2 s none none none

abbrev bare : List ℕ
bare = row 0 1 none none none none

abbrev pub table : List ℕ
table =
    unlisted
    ++ only 0 256 paragraphs  -- 1 Document
    ++ only 1 17 identifiers  -- 2 Given
    ++ single texts  -- 3 Axiom
    ++ row 3 8 schema_names counts identifiers schema_expressions  -- 4 Schema
    ++ row 3 8 identifiers counts identifiers expressions  -- 5 Abbreviation
    ++ single predicates  -- 6 Constraint
    ++ unlisted ++ unlisted ++ unlisted
    ++ row 1 8 predicates lines lines none  -- 10 Text
    ++ row 2 8 expressions identifiers identifiers none  -- 11 Decl
    ++ row 3 20 schema_names strokes counts none  -- 12 Include
    ++ unlisted ++ unlisted
    ++ pair schema_expressions schema_expressions  -- 15 Conjunction
    ++ unlisted ++ unlisted ++ unlisted ++ unlisted
    ++ bare  -- 20 true
    ++ pair expressions expressions  -- 21 =
    ++ pair expressions expressions  -- 22 member
    ++ pair expressions expressions  -- 23 ≤
    ++ single predicates  -- 24 not
    ++ pair predicates predicates  -- 25 and
    ++ pair predicates predicates  -- 26 or
    ++ pair predicates predicates  -- 27 implies
    ++ pair texts predicates  -- 28 forall
    ++ pair texts predicates  -- 29 exists
    ++ row 1 6 identifiers expressions expressions none  -- 30 Ref
    ++ single numbers  -- 31 Number
    ++ bare  -- 32 ℤ
    ++ only 0 7 expressions  -- 33 Set
    ++ only 2 7 expressions  -- 34 Tuple
    ++ only 2 7 expressions  -- 35 Product
    ++ single expressions  -- 36 Power
    ++ pair expressions expressions  -- 37 Apply
    ++ pair expressions identifiers  -- 38 Select
    ++ pair schema_names strokes  -- 39 Theta
    ++ single includes  -- 40 SchemaSet
    ++ pair expressions expressions  -- 41 +
    ++ pair expressions expressions  -- 42 −
    ++ pair expressions expressions  -- 43 ×
    ++ pair expressions expressions  -- 44 div
    ++ pair expressions expressions  -- 45 mod
    ++ pair texts expressions  -- 46 Comprehension

unfoldable pub cell : ℕ → ℕ → ℕ
cell q j = get_or table (columns * q + j) 0

abbrev pub listed : ℕ → Bool
listed q = ltb 0 (cell q 1)

-- the sort of operand i: by the kind's row; a last operand by its own column; an Include's after its three first, a of them actuals
abbrev pub sort_row : ℕ → ℕ → ℕ
sort_row q i = cond (eqb i 1) (cell q 2) (cond (eqb i 2) (cell q 3) (cell q 4))

abbrev pub sort_include : ℕ → ℕ → ℕ
sort_include a i = cond (leb i 3) (sort_row 12 i) (cond (leb i (a + 3)) expressions identifiers)

unfoldable pub sort_in : ℕ → ℕ → ℕ → ℕ → ℕ
sort_in q n a i =
    cond (eqb q 12) (sort_include a i)
    (cond (eqb i n) (cond (ltb 0 (cell q 5)) (cell q 5) (sort_row q i)) (sort_row q i))

-- the sort of operand i of the node whose words are w; the third operand of an Include is its count of actuals
abbrev pub sort_at : List ℕ → ℕ → ℕ
sort_at w i = sort_in (get_or w 0 0) (length w - 1) (get_or w 3 0) i

-- the number n of operands: within the row; in kinds 4 and 5 as their count p says; in kind 12 as its count a says, and 0 to 6 pairs more
abbrev pub count_row : ℕ → ℕ → Bool
count_row q n = leb (cell q 0) n && ltb n (cell q 1)

unfoldable pub count_by : ℕ → ℕ → ℕ → ℕ → Bool
count_by q n p a =
    cond (eqb q 12) (leb (a + 3) n && (eqb ((n - (a + 3)) % 2) 0 && leb (n - (a + 3)) 12))
    (cond (between 4 q 5) (eqb n (p + 3)) true)

abbrev pub count_in : ℕ → ℕ → ℕ → ℕ → Bool
count_in q n p a = count_row q n && count_by q n p a

abbrev pub count_ok : List ℕ → Bool
count_ok w = count_in (get_or w 0 0) (length w - 1) (get_or w 2 0) (get_or w 3 0)
