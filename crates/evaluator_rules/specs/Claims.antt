-- What may be said of an outcome: E of each listed node and value, S of a stop's number and node, P of what comes out.
use Rattle.std.specs.Prelude.{◌≡◌, List, [], ◌∷◌, true, false, ℕ, ◌≤◌, ◌<◌, length}
use Rattle.values.specs.Value.{Value}
use Rattle.values.specs.WellFormed.{well_formed}
use Rattle.reader_rules.specs.Tree.{Expr, Include, integers, selection, theta, schema_set}
use Rattle.reader_rules.specs.Reading.{read_of}
use Rattle.reader_rules.specs.Decode.{tree_of}
use Rattle.reader_rules.specs.Refusals.{Readable, Refused}
use Rattle.evaluator_rules.specs.Endings.{Holds, Fails}
use Rattle.evaluator_rules.specs.WordCount.{word_count}
use Rattle.evaluator_rules.specs.Outcomes.{Event, worked, Outcome, done, stopped}
use Rattle.states_rules.specs.Names.{Name, document_names}
use Rattle.states_rules.specs.States.{is_paired, given_number, value_number}
use Rattle.evaluator_rules.specs.Run.{Ran, ran, run_work_words}

pub data Listed (E : ℕ → Value → Type 0) : List Event → Type 0 where
  empty : Listed E []
  entry : {n : ℕ} {v : Value} {t : List Event} → E n v → Listed E t → Listed E (worked n v ∷ t)

pub data Good (E : ℕ → Value → Type 0) (S : ℕ → ℕ → Type 0) {A : Type 0} (P : A → Type 0) : Outcome A → Type 0 where
  finished : {t : List Event} {a : A} → Listed E t → P a → Good E S P (done t a)
  ceased : {t : List Event} {number node : ℕ} → Listed E t → S number node → Good E S P (stopped t number node)

-- the expressions that are 54 as values (R23)
pub data NotRun : Expr → Type 0 where
  no_integers : (n : ℕ) → NotRun (integers n)
  no_select : (n : ℕ) (a : Expr) (i : ℕ) → NotRun (selection n a i)
  no_theta : (n s k : ℕ) → NotRun (theta n s k)
  no_schema_set : (n : ℕ) (i : Include) → NotRun (schema_set n i)

-- a state is ill formed at entry k, or at 0 for its pairs: all Given entries in entry order, then the others (R20)
pub data IllFormedState (ns : List Name) (state : List ℕ) : ℕ → Type 0 where
  pairs : is_paired ns state ≡ false → IllFormedState ns state 0
  given : {k : ℕ} → is_paired ns state ≡ true → 1 ≤ k → k ≤ length ns → given_number ns state k ≡ 41 → ((j : ℕ) → 1 ≤ j → j < k → given_number ns state j ≡ 0) → IllFormedState ns state k
  other : {k : ℕ} → is_paired ns state ≡ true → ((j : ℕ) → 1 ≤ j → j ≤ length ns → given_number ns state j ≡ 0) → 1 ≤ k → k ≤ length ns → value_number ns state k ≡ 41 →
      ((j : ℕ) → 1 ≤ j → j < k → value_number ns state j ≡ 0) → IllFormedState ns state k

pub record WellFormedState (ns : List Name) (state : List ℕ) : Type 0 where
  pub paired : is_paired ns state ≡ true
  pub givens : (j : ℕ) → 1 ≤ j → j ≤ length ns → given_number ns state j ≡ 0
  pub others : (j : ℕ) → 1 ≤ j → j ≤ length ns → value_number ns state j ≡ 0

-- each listed value has at most 64 words
abbrev pub Short : ℕ → Value → Type 0
Short n v = word_count v ≤ 64

-- each listed value is well formed: integers of 32 bits, elements below their given's size, members ascending and distinct, 2 to 6 parts
abbrev pub Formed : (ℕ → ℕ) → ℕ → Value → Type 0
Formed size n v = well_formed size v ≡ true

-- a stop of the evaluation rules is 51 to 55
abbrev pub Trouble : ℕ → ℕ → Type 0
Trouble number node = (51 ≤ number) × (number ≤ 55)

-- the findings of a run, in their order: reading's, 21, 41, the paragraphs'
pub data RunFinds (doc state : List ℕ) (work : ℕ) : Ran → Type 0 where
  unreadable : {n p : ℕ} → read_of doc ≡ Refused n p → RunFinds doc state work (ran (Refused n p) [])
  no_room : read_of doc ≡ Readable → work < run_work_words → RunFinds doc state work (ran (Refused 21 0) [])
  ill_formed : {p : ℕ} → read_of doc ≡ Readable → run_work_words ≤ work → IllFormedState (document_names (tree_of doc)) state p → RunFinds doc state work (ran (Refused 41 p) [])
  holds : {t : List Event} → read_of doc ≡ Readable → run_work_words ≤ work → WellFormedState (document_names (tree_of doc)) state → Listed Short t → RunFinds doc state work (ran Holds t)
  fails : {n : ℕ} {t : List Event} → read_of doc ≡ Readable → run_work_words ≤ work → WellFormedState (document_names (tree_of doc)) state → Listed Short t → RunFinds doc state work (ran (Fails n) t)
  troubled : {n p : ℕ} {t : List Event} → read_of doc ≡ Readable → run_work_words ≤ work → WellFormedState (document_names (tree_of doc)) state → Listed Short t → Trouble n p → RunFinds doc state work (ran (Refused n p) t)
