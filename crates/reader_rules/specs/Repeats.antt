-- Finding 16: what may be written once only. A group gives, for each node, what the group writes there, in word order; its writings are those of
-- node 1, of node 2, and so on, and a node repeats where it writes what was written before.
use Rattle.std.specs.Prelude.{ℕ, ◌-◌, List, [], ◌∷◌, Bool, true, ◌&&◌, ◌||◌, cond, not, take, drop, eqb}
use Rattle.words.specs.Loops.{joined, has}
use Rattle.layout.specs.Layout.{part}
use Rattle.reader_rules.specs.Kinds.{between}
use Rattle.reader_rules.specs.Nodes.{kind_at, operand_at, parent}

-- none of the words stands in `written`, or before itself
unfoldable pub fresh : List ℕ → List ℕ → Bool
fresh written [] = true
fresh written (x ∷ xs) = not (has x written) && fresh (x ∷ written) xs

abbrev pub written_before : (ℕ → List ℕ) → ℕ → List ℕ
written_before group k = joined group 1 (k - 1)

abbrev pub repeats_in : (ℕ → List ℕ) → ℕ → Bool
repeats_in group k = not (fresh (written_before group k) (group k))

-- a node's first operand
abbrev pub first_operand : List ℕ → ℕ → List ℕ
first_operand doc k = take 1 (drop 1 (part doc k))

-- the identifiers of a Decl
abbrev pub declared : List ℕ → ℕ → List ℕ
declared doc k = drop 2 (part doc k)

-- a Decl line of an Axiom's own Text
unfoldable pub is_axiom_decl : List ℕ → ℕ → Bool
is_axiom_decl doc k = eqb (kind_at doc k) 11 && eqb (kind_at doc (parent doc (parent doc k))) 3

-- the identifiers of Given, Axiom Decl and Abbreviation
unfoldable pub globals : List ℕ → ℕ → List ℕ
globals doc k =
    cond (eqb (kind_at doc k) 2) (drop 1 (part doc k))
    (cond (eqb (kind_at doc k) 5) (first_operand doc k) (cond (is_axiom_decl doc k) (declared doc k) []))

-- the identifiers of the Decls of Text t
unfoldable pub declared_in : List ℕ → ℕ → ℕ → List ℕ
declared_in doc t k = cond (eqb (kind_at doc k) 11 && eqb (parent doc k) t) (declared doc k) []

-- the parameters of a Schema or Abbreviation
unfoldable pub parameters : List ℕ → ℕ → List ℕ
parameters doc k = cond (between 4 (kind_at doc k) 5) (take (operand_at doc k 2) (drop 3 (part doc k))) []

-- the names of Schemas
unfoldable pub schemas : List ℕ → ℕ → List ℕ
schemas doc k = cond (eqb (kind_at doc k) 4) (first_operand doc k) []

abbrev pub repeats : List ℕ → ℕ → Bool
repeats doc k =
    repeats_in (globals doc) k
    || (repeats_in (declared_in doc (parent doc k)) k || (not (fresh [] (parameters doc k)) || repeats_in (schemas doc) k))

unfoldable pub repeat_number : List ℕ → ℕ → ℕ
repeat_number doc k = cond (repeats doc k) 16 0
