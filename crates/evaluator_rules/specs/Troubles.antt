-- The rows 51 to 55 of document 01's table of findings: when each number comes at an evaluation's own node, m, in the values that the operands give. That the
-- evaluation rules give each number there and nowhere else: `TroubleLaws`, proved in proofs/TroubleLaws.
use Rattle.std.specs.Prelude.{◌≡◌, true, false, ◌⊎◌, ◌↔◌, List, ℕ, ◌<◌, ◌≤◌, ℤ, pos, ◌+ℤ◌, ◌-ℤ◌, ◌*ℤ◌}
use Rattle.std.specs.Int.Signed.{lt_z}
use Rattle.values.specs.Value.{Value, int, Values, nil, count}
use Rattle.values.specs.Value as Value
use Rattle.values.specs.SetValues.{insert_value}
use Rattle.values_integers.specs.Integer.{in32}
use Rattle.enumeration_rules.specs.Enumeration.{subsets, tuples}
use Rattle.reader_rules.specs.Tree.{Operator, plus, minus, times, quotient, remainder, Expr, reference, integers, set, tuple, product, power, application}
use Rattle.reader_rules.specs.Tree.{arithmetic, comprehension, Exprs, none, more, Pred, at_most, text, Lines, declaration, include}
use Rattle.reader_rules.specs.Tree.{Paragraph, Document, document, expr_node, exprs_length}
use Rattle.reader_rules.specs.Reading.{read_of}
use Rattle.reader_rules.specs.Decode.{tree_of}
use Rattle.reader_rules.specs.Refusals.{Readable, Refused}
use Rattle.states_rules.specs.Names.{document_names}
use Rattle.states_rules.specs.States.{State, value_in}
use Rattle.evaluator_rules.specs.WordCount.{word_count}
use Rattle.evaluator_rules.specs.Environment.{Environment, empty, valued, generic, unknown, lookup}
use Rattle.evaluator_rules.specs.Assignments.{Domains}
use Rattle.evaluator_rules.specs.Rules.{eval_expr, eval_exprs, eval_pred, eval_lines}
use Rattle.evaluator_rules.specs.Paragraphs.{run_paragraph}
use Rattle.evaluator_rules.specs.Run.{run_of, run_work_words}
use Rattle.evaluator_rules.specs.Claims.{NotRun, IllFormedState, WellFormedState}
use Rattle.evaluator_rules.specs.Applications.{SomeNoPair, Images}
use Rattle.evaluator_rules.specs.Listing.{NoInteger, NoSet, NoTuple, SomeNoSet, AllSets, Another, assignments}
use Rattle.evaluator_rules.specs.Evaluations.{Gives, Stops, Evaluation, working, telling, testing, declaring, including, StopsAt, Adding, Gathering, Reaches, Within, Begins, BeginsIn}

-- ---- arithmetic
pub data Divides : Operator → Type 0 where
  by_div : Divides quotient
  by_mod : Divides remainder

-- the sum, difference or product is outside 32 bits signed
pub data Exceeds (j k : ℤ) : Operator → Type 0 where
  sum_outside : in32 (j +ℤ k) ≡ false → Exceeds j k plus
  difference_outside : in32 (j -ℤ k) ≡ false → Exceeds j k minus
  product_outside : in32 (j *ℤ k) ≡ false → Exceeds j k times

-- ---- the rows
-- 51, "misfit: value of a sort that the operation cannot use", at the "node that uses it"
pub data Misfit : Evaluation → ℕ → Type 0 where
  -- "Ref: .. unknown 51, .. actuals on another name 51", the actuals worked out before (R23)
  name_unknown : {n i : ℕ} {xs : Exprs} {vs : Values} {scope : Environment} → Gives (eval_exprs xs scope) vs → lookup i scope ≡ unknown → Misfit (working (reference n i xs) scope) n
  actuals_on_name : {n i : ℕ} {a : Expr} {xs : Exprs} {vs : Values} {v : Value} {scope : Environment} → Gives (eval_exprs (more a xs) scope) vs → lookup i scope ≡ valued v
      → Misfit (working (reference n i (more a xs)) scope) n
  no_function : {n : ℕ} {f a : Expr} {x y : Value} {scope : Environment} → Gives (eval_expr f scope) x → Gives (eval_expr a scope) y → NoSet x → Misfit (working (application n f a) scope) n
  -- "a member that is not a pair is a misfit wherever it stands" (document 02, ask 5)
  no_pair : {n : ℕ} {f a : Expr} {vs : Values} {y : Value} {scope : Environment} → Gives (eval_expr f scope) (Value.set vs) → Gives (eval_expr a scope) y → SomeNoPair vs
      → Misfit (working (application n f a) scope) n
  -- "Work out Power and Product as values" (document 02, ask 1): all operands first
  no_base : {n : ℕ} {a : Expr} {x : Value} {scope : Environment} → Gives (eval_expr a scope) x → NoSet x → Misfit (working (power n a) scope) n
  no_factor : {n : ℕ} {xs : Exprs} {vs : Values} {scope : Environment} → Gives (eval_exprs xs scope) vs → SomeNoSet vs → Misfit (working (product n xs) scope) n
  no_number : {n : ℕ} {o : Operator} {a b : Expr} {x y : Value} {scope : Environment} → Gives (eval_expr a scope) x → Gives (eval_expr b scope) y → NoInteger x ⊎ NoInteger y
      → Misfit (working (arithmetic n o a b) scope) n
  -- ≤
  not_numbers : {n : ℕ} {a b : Expr} {x y : Value} {scope : Environment} → Gives (eval_expr a scope) x → Gives (eval_expr b scope) y → NoInteger x ⊎ NoInteger y → Misfit (telling (at_most n a b) scope) n
  -- the Decl of a quantifier's or Comprehension's Text (R25)
  no_set_to_run : {n : ℕ} {a : Expr} {is : List ℕ} {ls : Lines} {v : Value} {scope : Environment} → Gives (eval_expr a scope) v → NoSet v → Misfit (declaring (declaration n a is ls) scope) n
  -- "a wrong sort or number of parts is 51 at the node tested against"
  not_integer : {n : ℕ} {v : Value} {scope : Environment} → NoInteger v → Misfit (testing (integers n) scope v) n
  not_set : {n : ℕ} {a : Expr} {v : Value} {scope : Environment} → NoSet v → Misfit (testing (power n a) scope v) n
  not_tuple : {n : ℕ} {xs : Exprs} {v : Value} {scope : Environment} → NoTuple v → Misfit (testing (product n xs) scope v) n
  other_count : {n : ℕ} {xs : Exprs} {vs : Values} {scope : Environment} → (exprs_length xs ≡ count vs → ⊥) → Misfit (testing (product n xs) scope (Value.tuple vs)) n
  no_set_anew : {a : Expr} {v x : Value} {scope : Environment} → Another a → Gives (eval_expr a scope) x → NoSet x → Misfit (testing a scope v) (expr_node a)

-- 52, "undefined"
pub data NoResult : Evaluation → ℕ → Type 0 where
  -- "Two or more pairs for the argument are 52, as none is" (document 02, ask 5)
  not_one : {n : ℕ} {f a : Expr} {vs zs : Values} {y : Value} {scope : Environment} → Gives (eval_expr f scope) (Value.set vs) → Gives (eval_expr a scope) y → Images y vs zs → (count zs ≡ 1 → ⊥)
      → NoResult (working (application n f a) scope) n
  -- "a mod n .. a div n ..; n < 1 is 52"
  no_divisor : {n : ℕ} {o : Operator} {a b : Expr} {j k : ℤ} {scope : Environment} → Gives (eval_expr a scope) (int j) → Gives (eval_expr b scope) (int k) → Divides o → lt_z k (pos 1) ≡ true
      → NoResult (working (arithmetic n o a b) scope) n

-- 53, "integer outside 32 bits signed"
pub data PastBits : Evaluation → ℕ → Type 0 where
  outside : {n : ℕ} {o : Operator} {a b : Expr} {j k : ℤ} {scope : Environment} → Gives (eval_expr a scope) (int j) → Gives (eval_expr b scope) (int k) → Exceeds j k o
      → PastBits (working (arithmetic n o a b) scope) n

-- 54, "not run"
pub data Unrun : Evaluation → ℕ → Type 0 where
  -- "generic abbreviation 54", the actuals worked out before (R23)
  name_generic : {n i : ℕ} {xs : Exprs} {vs : Values} {scope : Environment} → Gives (eval_exprs xs scope) vs → lookup i scope ≡ generic → Unrun (working (reference n i xs) scope) n
  -- "As values ℤ, .. Select, Theta, SchemaSet, and any Include line, are 54 before their operands"
  as_value : {a : Expr} {scope : Environment} → NotRun a → Unrun (working a scope) (expr_node a)
  include_line : {n s k : ℕ} {xs : Exprs} {rs : List (ℕ × ℕ)} → Unrun (including (include n s k xs rs)) n

-- 55, "value over 64 words": at a Ref, a Tuple, a Power and a Product of their value, at a Set and a Comprehension where the member being added makes the
-- set pass 64 words (R24). No other value is too long: that of an Apply is a part of a set of at most 64 words, those of a Number and of arithmetic have two. In a run no name's
-- value is too long either (proofs/ShortNames).
pub data TooLong : Evaluation → ℕ → Type 0 where
  name_too_long : {n i : ℕ} {v : Value} {scope : Environment} → lookup i scope ≡ valued v → 64 < word_count v → TooLong (working (reference n i none) scope) n
  tuple_too_long : {n : ℕ} {xs : Exprs} {vs : Values} {scope : Environment} → Gives (eval_exprs xs scope) vs → 64 < word_count (Value.tuple vs) → TooLong (working (tuple n xs) scope) n
  power_too_long : {n : ℕ} {a : Expr} {vs : Values} {scope : Environment} → Gives (eval_expr a scope) (Value.set vs) → 64 < word_count (Value.set (subsets vs)) → TooLong (working (power n a) scope) n
  product_too_long : {n : ℕ} {xs : Exprs} {vs : Values} {vss : List Values} {scope : Environment} → Gives (eval_exprs xs scope) vs → AllSets vs vss → 64 < word_count (Value.set (tuples vss))
      → TooLong (working (product n xs) scope) n
  member_too_much : {n : ℕ} {xs : Exprs} {a : Expr} {s : Values} {v : Value} {scope : Environment} → Adding scope xs nil a s → Gives (eval_expr a scope) v → 64 < word_count (Value.set (insert_value v s))
      → TooLong (working (set n xs) scope) n
  body_too_much : {n k : ℕ} {p : Pred} {ls : Lines} {a : Expr} {ds : Domains} {s : Values} {v : Value} {scope x : Environment} → Gives (eval_lines ls scope) ds → Gathering p a (assignments ds scope) nil x s
      → Gives (eval_pred p x) true → Gives (eval_expr a x) v → 64 < word_count (Value.set (insert_value v s)) → TooLong (working (comprehension n (text k p ls) a) scope) n

-- the rows of the table: number, node, when
pub data Row : ℕ → ℕ → Evaluation → Type 0 where
  row51 : {m : ℕ} {t : Evaluation} → Misfit t m → Row 51 m t
  row52 : {m : ℕ} {t : Evaluation} → NoResult t m → Row 52 m t
  row53 : {m : ℕ} {t : Evaluation} → PastBits t m → Row 53 m t
  row54 : {m : ℕ} {t : Evaluation} → Unrun t m → Row 54 m t
  row55 : {m : ℕ} {t : Evaluation} → TooLong t m → Row 55 m t

-- u is an evaluation of the document's run
pub data InRun (state : State) : Document → Evaluation → Type 0 where
  in_run : {n : ℕ} {ps : List Paragraph} {t u : Evaluation} → BeginsIn state ps empty t → Within t u → InRun state (document n ps) u

-- the refusals of a run, with number and place
pub data RunRefused (doc state : List ℕ) (work : ℕ) : ℕ → ℕ → Type 0 where
  unreadable : {w m : ℕ} → read_of doc ≡ Refused w m → RunRefused doc state work w m
  no_room : read_of doc ≡ Readable → work < run_work_words → RunRefused doc state work 21 0
  ill_formed : {m : ℕ} → read_of doc ≡ Readable → run_work_words ≤ work → IllFormedState (document_names (tree_of doc)) state m → RunRefused doc state work 41 m
  troubled : {w m : ℕ} {u : Evaluation} → read_of doc ≡ Readable → run_work_words ≤ work → WellFormedState (document_names (tree_of doc)) state → InRun (value_in (document_names (tree_of doc)) state) (tree_of doc) u → Row w m u
      → RunRefused doc state work w m

-- one that t reaches stops with w at m
abbrev pub Below : Evaluation → ℕ → ℕ → Type 0
Below t w m = (u : Evaluation) × Reaches t u × StopsAt u w m

-- Where, and only where, the numbers 51 to 55 come.
pub record TroubleLaws : Type 0 where
  -- an evaluation stops where one that it reaches stops, and at its own node where the number's row holds of it
  pub each : (t : Evaluation) (w m : ℕ) → StopsAt t w m ↔ (Below t w m ⊎ Row w m t)
  -- so an evaluation stops exactly where a row holds of one that it reaches, in any number of steps
  pub all : (t : Evaluation) (w m : ℕ) → StopsAt t w m ↔ ((u : Evaluation) × Within t u × Row w m u)
  -- and a paragraph where a row holds of an evaluation that is reached from one that it begins with
  pub paragraph : (p : Paragraph) (state : State) (scope : Environment) (w m : ℕ) → Stops (run_paragraph p state scope) w m ↔ ((t u : Evaluation) × Begins state p scope t × Within t u × Row w m u)
  -- a run is refused by reading, 21 and 41, and after them where a row holds of one of its evaluations
  pub run : (doc state : List ℕ) (work w m : ℕ) → ((run_of doc state work).finding ≡ Refused w m) ↔ RunRefused doc state work w m
