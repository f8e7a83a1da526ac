-- States, and finding 41 with its place (document 01, "A state has the document's layout of count, here from 0, and pairs").
use Rattle.std.specs.Prelude.{List, [], ◌∷◌, Bool, true, false, ◌&&◌, cond, ℕ, zero, suc, ◌-◌, eqb, leb, length, get_or}
use Rattle.layout.specs.declared.Form.{Form}
use Rattle.layout.specs.Layout.{count, laid_out, part}
use Rattle.reader_rules.specs.Nodes.{document_words}
use Rattle.reader_rules.specs.Findings.{scan, and_then}
use Rattle.reader_rules.specs.Reading.{read_of}
use Rattle.reader_rules.specs.Decode.{tree_of}
use Rattle.reader_rules.specs.Refusals.{Finding, Readable, Refused}
use Rattle.values.specs.Value.{Value}
use Rattle.values.specs.Form.{is_value}
use Rattle.values.specs.Givens.{elements, size_of}
use Rattle.states_rules.specs.Names.{Name, nobody, document_names}
use Rattle.states_rules.specs.Decode.{value_of}

-- the document's layout, with a count from 0
abbrev pub state_form : Form
state_form = record { fewest = 0; most = 1024; shortest = 1; longest = document_words }

-- the name of entry k; entries are numbered from 1 (R20)
abbrev pub name_at : List Name → ℕ → Name
name_at ns k = get_or ns (k - 1) nobody

-- the table of the givens: identifier and size, pair after pair, from entry k on
unfoldable pub size_table : List Name → List ℕ → ℕ → List ℕ
size_table [] state k = []
size_table (n ∷ ns) state k =
    cond n.is_given (n.identifier ∷ get_or (part state k) 0 0 ∷ size_table ns state (suc k)) (size_table ns state (suc k))

-- a given's size in the state; an element may name any Given of the document, also a later one (R21)
unfoldable pub sizes_in : List Name → List ℕ → ℕ → ℕ
sizes_in ns state g = size_of (size_table ns state 1) g

-- a given's entry is one word, its size 0 to 20
unfoldable pub is_size : List ℕ → Bool
is_size w = eqb (length w) 1 && leb (get_or w 0 0) 20

-- 41 at entry k: where it is a given's, and where it is not; 0 for none
unfoldable pub given_number : List Name → List ℕ → ℕ → ℕ
given_number ns state k = cond (name_at ns k).is_given (cond (is_size (part state k)) 0 41) 0

unfoldable pub value_number : List Name → List ℕ → ℕ → ℕ
value_number ns state k = cond (name_at ns k).is_given 0 (cond (is_value (sizes_in ns state) (part state k)) 0 41)

-- count and pairs, one entry per name
unfoldable pub is_paired : List Name → List ℕ → Bool
is_paired ns state = laid_out state_form state && eqb (count state) (length ns)

-- 41 at 0 for count and pairs; then all Given entries, then the others, each in entry order (R20)
unfoldable pub entries_of : List Name → List ℕ → Finding
entries_of ns state = and_then (scan (given_number ns state) 1 (length ns)) (scan (value_number ns state) 1 (length ns))

unfoldable pub state_if : Bool → List Name → List ℕ → Finding
state_if true ns state = entries_of ns state
state_if false ns state = Refused 41 0

unfoldable pub state_of : List Name → List ℕ → Finding
state_of ns state = state_if (is_paired ns state) ns state

-- What a well-formed state says: the value of each name. Names are distinct in a readable document (finding 16).
abbrev pub State : Type 0
State = ℕ → Value

-- the number of the entry of identifier i among the names from entry k on; 0 for none
unfoldable pub entry_from : List Name → ℕ → ℕ → ℕ
entry_from [] i k = 0
entry_from (n ∷ ns) i k = cond (eqb n.identifier i) k (entry_from ns i (suc k))

-- Given binds the set of its elements; any other entry is a value
unfoldable pub entry_value : (ℕ → ℕ) → Name → List ℕ → Value
entry_value sizes n w = cond n.is_given (elements n.identifier (get_or w 0 0)) (value_of sizes w)

-- What comes for an identifier without an entry is never used: a run and a fit ask for names of the document only.
unfoldable pub value_in : List Name → List ℕ → State
value_in ns state i = let k = entry_from ns i 1 in entry_value (sizes_in ns state) (name_at ns k) (part state k)

-- The finding of a document with a state: reading's first, then 41 by the names of the document.
unfoldable pub state_check_of : List ℕ → List ℕ → Finding
state_check_of doc state = and_then (read_of doc) (state_of (document_names (tree_of doc)) state)
