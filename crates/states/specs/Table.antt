-- The table that the code of finding 41 works with: for entry k, at 2 k, a given's identifier and the size that the state gives it; 0 and 0 else.
use Rattle.std.specs.Prelude.{List, [], ◌∷◌, Bool, true, false, cond, ℕ, ◌+◌, ◌*◌, ◌-◌, eqb, length, get_or, set, drop}
use Rattle.layout.specs.Layout.{part}
use Rattle.reader_rules.specs.Nodes.{kind_at}
use Rattle.values.specs.Form.{is_value}
use Rattle.values.specs.Givens.{size_of}
use Rattle.states_rules.specs.Names.{Name, names_as}
use Rattle.states_rules.specs.States.{is_size, entry_from}

-- a given's pair
unfoldable pub put_pair : ℕ → List ℕ → ℕ → List ℕ → List ℕ
put_pair g state k u = set (set u (2 * k) g) (2 * k + 1) (get_or (part state k) 0 0)

-- the names from entry k on
unfoldable pub put_names : List Name → List ℕ → ℕ → List ℕ → List ℕ
put_names [] state k u = u
put_names (n ∷ ns) state k u = put_names ns state (k + 1) (cond n.is_given (put_pair n.identifier state k u) u)

-- the number of names that line k of an Axiom's Text writes
unfoldable pub line_count : List ℕ → ℕ → ℕ
line_count doc k = cond (eqb (kind_at doc k) 11) (length (part doc k) - 2) 0

-- 41 at entry k by the table: where it is a given's, and where it is not; 0 for none
unfoldable pub given_by : List ℕ → List ℕ → ℕ → ℕ
given_by table state k = cond (eqb (get_or table (2 * k) 0) 0) 0 (cond (is_size (part state k)) 0 41)

unfoldable pub value_by : List ℕ → List ℕ → ℕ → ℕ
value_by table state k = cond (eqb (get_or table (2 * k) 0) 0) (cond (is_value (size_of table) (part state k)) 0 41) 0

-- the one or the other
unfoldable pub number_by : Bool → List ℕ → List ℕ → ℕ → ℕ
number_by true = given_by
number_by false = value_by

-- the entry of a name among those of line v, the first of which has entry k; 0 for none. `true`, although they are no givens: the place is the same
-- for both (`as-any`).
unfoldable pub line_place : List ℕ → ℕ → ℕ → ℕ → ℕ
line_place doc v name k = cond (eqb (kind_at doc v) 11) (entry_from (names_as true (drop 2 (part doc v))) name k) 0
