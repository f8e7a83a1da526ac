-- The fit call (document 01: "checks a document, then a state against its dictionary (41, then 42), and on acceptance leaves that dictionary").
use Rattle.std.specs.Prelude.{cond, List, [], ℕ, length, Err}
use Rattle.layout.specs.Layout.{part}
use Rattle.reader_rules.specs.Findings.{scan}
use Rattle.reader_rules.specs.Decode.{tree_of}
use Rattle.reader_rules.specs.Refusals.{Finding, Readable, Refused}
use Rattle.types_rules.specs.Words.{words}
use Rattle.values.specs.Typed.{is_of}
use Rattle.checker_rules.specs.Dictionary.{Dictionary, Named, unnamed, of_local, of_global, name_in}
use Rattle.checker_rules.specs.Check.{Answer, accepted, refused, check_of}
use Rattle.states_rules.specs.Names.{Name, document_names}
use Rattle.states_rules.specs.States.{name_at, sizes_in, state_of}
use Rattle.states_rules.specs.Decode.{value_of}

-- the type words that the dictionary records for a name; an accepted dictionary has every name of the state
unfoldable pub recorded_words : Named → List ℕ
recorded_words unnamed = []
recorded_words (of_local t) = []
recorded_words (of_global p g) = words g

-- 42 at entry k: a value that is not of its recorded type; 0 for none. A given's entry is a size, and its elements are of the given.
unfoldable pub type_number : Dictionary → List Name → List ℕ → ℕ → ℕ
type_number E ns state k =
    cond (name_at ns k).is_given 0
    (cond (is_of (value_of (sizes_in ns state) (part state k)) (recorded_words (name_in (name_at ns k).identifier E))) 0 42)

-- 41, then 42, each at its first entry; then what the check accepted
unfoldable pub fit_types : Finding → Dictionary → Answer
fit_types Readable E = accepted E
fit_types (Err err) E = refused err.number err.place

unfoldable pub fit_state : Finding → Dictionary → List Name → List ℕ → Answer
fit_state Readable E ns state = fit_types (scan (type_number E ns state) 1 (length ns)) E
fit_state (Err err) E ns state = refused err.number err.place

unfoldable pub fit_checked : Answer → List Name → List ℕ → Answer
fit_checked (accepted E) ns state = fit_state (state_of ns state) E ns state
fit_checked (refused number place) ns state = refused number place

-- document, state, lengths of the dictionary area and of the work area
unfoldable pub fit_of : List ℕ → List ℕ → ℕ → ℕ → Answer
fit_of doc state d w = fit_checked (check_of doc d w) (document_names (tree_of doc)) state
