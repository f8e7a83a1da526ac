-- What was written: by tables of marks, and by comparison.
use Rattle.std.specs.Prelude.{◌≡◌, List, [], ◌∷◌, Bool, true, false, ◌&&◌, ◌||◌, not, ℕ, ◌<◌, ◌*◌, ◌/◌, ◌%◌, ◌^◌, length, get_or, set, ltb, eqb}
use Rattle.std.specs.Int.Bits.{bit_or}
use Rattle.words.specs.Loops.{has}
use Rattle.reader_rules.specs.Kinds.{sort_at, is_node_sort}
use Rattle.reader_rules.specs.Nodes.{kind_at}
use Rattle.reader_rules.specs.Repeats.{declared, globals, schemas, written_before}

-- the marks of a place in a table of marks, a bit each
abbrev pub bits : ℕ
bits = 8

-- the number v has no mark
unfoldable pub is_free : List ℕ → ℕ → Bool
is_free seen v = eqb (get_or seen (v / bits) 0 / 2 ^ (v % bits) % 2) 0

-- the table with a mark for v
unfoldable pub with_mark : List ℕ → ℕ → List ℕ
with_mark seen v = set seen (v / bits) (bit_or (get_or seen (v / bits) 0) (2 ^ (v % bits)))

-- none of the words is marked, or stands before itself
unfoldable pub unmarked : List ℕ → List ℕ → Bool
unmarked [] seen = true
unmarked (x ∷ xs) seen = is_free seen x && unmarked xs (with_mark seen x)

-- the table with a mark for each of the words
unfoldable pub marked : List ℕ → List ℕ → List ℕ
marked [] seen = seen
marked (x ∷ xs) seen = marked xs (with_mark seen x)

-- a table of marks for the numbers below n; its marks are those of the numbers of the list `written`
pub record Marks (n : ℕ) (seen written : List ℕ) : Type 0 where
  pub size : length seen * bits ≡ n
  pub at : (v : ℕ) → v < n → is_free seen v ≡ not (has v written)

-- a table for identifiers, and one for schema names
abbrev pub identifier_marks : ℕ
identifier_marks = 65536

abbrev pub name_marks : ℕ
name_marks = 16384

-- no word stands twice
unfoldable pub distinct : List ℕ → Bool
distinct [] = true
distinct (x ∷ xs) = not (has x xs) && distinct xs

-- one of the words of the second list stands in the first
unfoldable pub shares : List ℕ → List ℕ → Bool
shares xs [] = false
shares xs (y ∷ ys) = has y xs || shares xs ys

-- operand i of the node whose words are w is a Decl before node k that declares one of the identifiers
abbrev pub shared_at : List ℕ → ℕ → List ℕ → List ℕ → ℕ → Bool
shared_at doc k ids w i =
    is_node_sort (sort_at w i) && (ltb (get_or w i 0) k && (eqb (kind_at doc (get_or w i 0)) 11 && shares (declared doc (get_or w i 0)) ids))

-- the two tables have what the nodes before k write
pub record Written (doc : List ℕ) (k : ℕ) (seen names : List ℕ) : Type 0 where
  pub globals : Marks identifier_marks seen (written_before (globals doc) k)
  pub schemas : Marks name_marks names (written_before (schemas doc) k)
