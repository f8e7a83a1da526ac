-- What is worked out in a run, one thing after the other, and what leads to it (document 01, "Evaluation is left to right, operands first, and stops at
-- the first trouble"; R23 to R26). An evaluation is an expression worked out in a scope, a predicate decided in a scope, a value tested against an expression,
-- the lines of a quantifier's or Comprehension's Text, or an Include line. It reaches those directly below it that come next: all that stands before
-- them has gone on.
use Rattle.std.specs.Prelude.{◌≡◌, List, [], ◌∷◌, true, false, not, ℕ, ◌≤◌}
use Rattle.values.specs.Value.{Value, Values, nil, cons, count}
use Rattle.values.specs.Value as Value
use Rattle.values.specs.SetValues.{insert_value}
use Rattle.reader_rules.specs.Tree.{Operator, Connective, Quantifier, Expr, reference, set, tuple, product, power, application, arithmetic, comprehension}
use Rattle.reader_rules.specs.Tree.{Exprs, more, Pred, equal, member, at_most, connected, quantified, text, Lines, declaration, inclusion}
use Rattle.reader_rules.specs.Tree.{Include, Paragraph, axiomatic, abbreviation, constraint, exprs_length}
use Rattle.reader_rules.specs.Tree as Tree
use Rattle.states_rules.specs.States.{State}
use Rattle.evaluator_rules.specs.WordCount.{word_count}
use Rattle.evaluator_rules.specs.Outcomes.{Event, Outcome, done, stopped}
use Rattle.evaluator_rules.specs.Environment.{Environment}
use Rattle.evaluator_rules.specs.Assignments.{Domains}
use Rattle.evaluator_rules.specs.Rules.{eval_expr, eval_pred, eval_lines, test, stop_include}
use Rattle.evaluator_rules.specs.Paragraphs.{onward, test_names, test_lines, run_paragraph}
use Rattle.evaluator_rules.specs.Listing.{deciding, stops_at, assignments, Another}

-- an outcome's value, or its number and node, apart from the list
pub data Gives {A : Type 0} : Outcome A → A → Type 0 where
  gave : {t : List Event} {a : A} → Gives (done t a) a

pub data Stops {A : Type 0} : Outcome A → ℕ → ℕ → Type 0 where
  broke : {t : List Event} {w m : ℕ} → Stops (stopped t w m) w m

pub data Evaluation : Type 0 where
  working : Expr → Environment → Evaluation
  telling : Pred → Environment → Evaluation
  testing : Expr → Environment → Value → Evaluation
  declaring : Lines → Environment → Evaluation
  including : Include → Evaluation

-- the evaluation stops with number w at node m
unfoldable pub StopsAt : Evaluation → ℕ → ℕ → Type 0
StopsAt (working a scope) w m = Stops (eval_expr a scope) w m
StopsAt (telling p scope) w m = Stops (eval_pred p scope) w m
StopsAt (testing a scope v) w m = Stops (test a scope v) w m
StopsAt (declaring ls scope) w m = Stops (eval_lines ls scope) w m
StopsAt (including i) w m = Stops {A = Domains} (stop_include i) w m

-- a set of these members has at most 64 words
abbrev pub RoomFor : Values → Type 0
RoomFor vs = word_count (Value.set vs) ≤ 64

-- left to right: a is one of the expressions, and those before it have values
pub data Operand (scope : Environment) : Exprs → Expr → Type 0 where
  first_operand : {a : Expr} {xs : Exprs} → Operand scope (more a xs) a
  later_operand : {a b : Expr} {xs : Exprs} {v : Value} → Gives (eval_expr b scope) v → Operand scope xs a → Operand scope (more b xs) a

-- "Set members are added one at a time": a is one of the expressions, those before it are added to s, and that is s' (R24)
pub data Adding (scope : Environment) : Exprs → Values → Expr → Values → Type 0 where
  first_member : {a : Expr} {xs : Exprs} {s : Values} → Adding scope (more a xs) s a s
  later_member : {a b : Expr} {xs : Exprs} {s s' : Values} {v : Value} → Gives (eval_expr b scope) v → RoomFor (insert_value v s) → Adding scope xs (insert_value v s) a s' → Adding scope (more b xs) s a s'

-- "a Comprehension adds each body, .. over assignments where the Text's predicate is true": x is one of the assignments, and the bodies of those before it
-- are added to s, and that is s'
pub data Gathering (p : Pred) (a : Expr) : List Environment → Values → Environment → Values → Type 0 where
  first_gathered : {x : Environment} {xs : List Environment} {s : Values} → Gathering p a (x ∷ xs) s x s
  left_out : {x y : Environment} {xs : List Environment} {s s' : Values} → Gives (eval_pred p y) false → Gathering p a xs s x s' → Gathering p a (y ∷ xs) s x s'
  added : {x y : Environment} {xs : List Environment} {s s' : Values} {v : Value} → Gives (eval_pred p y) true → Gives (eval_expr a y) v → RoomFor (insert_value v s) → Gathering p a xs (insert_value v s) x s'
      → Gathering p a (y ∷ xs) s x s'

-- "forall stops at a false, exists at a true": x is one of the assignments, and none before it has ended the quantifier q
pub data Trying (q : Quantifier) (p b : Pred) : List Environment → Environment → Type 0 where
  first_tried : {x : Environment} {xs : List Environment} → Trying q p b (x ∷ xs) x
  passed_over : {x y : Environment} {xs : List Environment} → Gives (eval_pred p y) false → Trying q p b xs x → Trying q p b (y ∷ xs) x
  tried : {x y : Environment} {xs : List Environment} → Gives (eval_pred p y) true → Gives (eval_pred b y) (not (stops_at q)) → Trying q p b xs x → Trying q p b (y ∷ xs) x

-- "the first miss ends it": v is one of a set's members, or of a tuple's parts with its own expression a, and those before it pass
pub data EachMember (a : Expr) (scope : Environment) : Values → Value → Type 0 where
  first_tested : {v : Value} {vs : Values} → EachMember a scope (cons v vs) v
  later_tested : {u v : Value} {vs : Values} → Gives (test a scope u) true → EachMember a scope vs v → EachMember a scope (cons u vs) v

pub data EachPart (scope : Environment) : Exprs → Values → Expr → Value → Type 0 where
  first_part : {a : Expr} {xs : Exprs} {v : Value} {vs : Values} → EachPart scope (more a xs) (cons v vs) a v
  later_part : {a b : Expr} {xs : Exprs} {u v : Value} {vs : Values} → Gives (test b scope u) true → EachPart scope xs vs a v → EachPart scope (more b xs) (cons u vs) a v

-- ℤ, Select, Theta and SchemaSet as values reach nothing: they are 54 "before their operands".
pub data Reaches : Evaluation → Evaluation → Type 0 where
  actual : {n i : ℕ} {xs : Exprs} {a : Expr} {scope : Environment} → Operand scope xs a → Reaches (working (reference n i xs) scope) (working a scope)
  set_member : {n : ℕ} {xs : Exprs} {a : Expr} {s : Values} {scope : Environment} → Adding scope xs nil a s → Reaches (working (set n xs) scope) (working a scope)
  tuple_part : {n : ℕ} {xs : Exprs} {a : Expr} {scope : Environment} → Operand scope xs a → Reaches (working (tuple n xs) scope) (working a scope)
  power_base : {n : ℕ} {a : Expr} {scope : Environment} → Reaches (working (power n a) scope) (working a scope)
  product_factor : {n : ℕ} {xs : Exprs} {a : Expr} {scope : Environment} → Operand scope xs a → Reaches (working (product n xs) scope) (working a scope)
  function : {n : ℕ} {f a : Expr} {scope : Environment} → Reaches (working (application n f a) scope) (working f scope)
  argument : {n : ℕ} {f a : Expr} {x : Value} {scope : Environment} → Gives (eval_expr f scope) x → Reaches (working (application n f a) scope) (working a scope)
  left_number : {n : ℕ} {o : Operator} {a b : Expr} {scope : Environment} → Reaches (working (arithmetic n o a b) scope) (working a scope)
  right_number : {n : ℕ} {o : Operator} {a b : Expr} {x : Value} {scope : Environment} → Gives (eval_expr a scope) x → Reaches (working (arithmetic n o a b) scope) (working b scope)
  -- "A Text's Decl sets are worked out once, then assignments run"
  gathered_sets : {n k : ℕ} {p : Pred} {ls : Lines} {a : Expr} {scope : Environment} → Reaches (working (comprehension n (text k p ls) a) scope) (declaring ls scope)
  gathered_where : {n k : ℕ} {p : Pred} {ls : Lines} {a : Expr} {ds : Domains} {s : Values} {scope x : Environment} → Gives (eval_lines ls scope) ds → Gathering p a (assignments ds scope) nil x s
      → Reaches (working (comprehension n (text k p ls) a) scope) (telling p x)
  gathered_body : {n k : ℕ} {p : Pred} {ls : Lines} {a : Expr} {ds : Domains} {s : Values} {scope x : Environment} → Gives (eval_lines ls scope) ds → Gathering p a (assignments ds scope) nil x s → Gives (eval_pred p x) true
      → Reaches (working (comprehension n (text k p ls) a) scope) (working a x)
  left_equal : {n : ℕ} {a b : Expr} {scope : Environment} → Reaches (telling (equal n a b) scope) (working a scope)
  right_equal : {n : ℕ} {a b : Expr} {x : Value} {scope : Environment} → Gives (eval_expr a scope) x → Reaches (telling (equal n a b) scope) (working b scope)
  -- "Member works out the left, then tests"
  left_member : {n : ℕ} {a b : Expr} {scope : Environment} → Reaches (telling (member n a b) scope) (working a scope)
  member_test : {n : ℕ} {a b : Expr} {v : Value} {scope : Environment} → Gives (eval_expr a scope) v → Reaches (telling (member n a b) scope) (testing b scope v)
  left_at_most : {n : ℕ} {a b : Expr} {scope : Environment} → Reaches (telling (at_most n a b) scope) (working a scope)
  right_at_most : {n : ℕ} {a b : Expr} {x : Value} {scope : Environment} → Gives (eval_expr a scope) x → Reaches (telling (at_most n a b) scope) (working b scope)
  negated : {n : ℕ} {p : Pred} {scope : Environment} → Reaches (telling (Tree.not n p) scope) (telling p scope)
  -- "and, or, implies skip the right side when the left decides"
  left_side : {n : ℕ} {o : Connective} {p q : Pred} {scope : Environment} → Reaches (telling (connected n o p q) scope) (telling p scope)
  right_side : {n : ℕ} {o : Connective} {p q : Pred} {scope : Environment} → Gives (eval_pred p scope) (not (deciding o)) → Reaches (telling (connected n o p q) scope) (telling q scope)
  tried_sets : {n k : ℕ} {q : Quantifier} {p b : Pred} {ls : Lines} {scope : Environment} → Reaches (telling (quantified n q (text k p ls) b) scope) (declaring ls scope)
  tried_where : {n k : ℕ} {q : Quantifier} {p b : Pred} {ls : Lines} {ds : Domains} {scope x : Environment} → Gives (eval_lines ls scope) ds → Trying q p b (assignments ds scope) x
      → Reaches (telling (quantified n q (text k p ls) b) scope) (telling p x)
  tried_body : {n k : ℕ} {q : Quantifier} {p b : Pred} {ls : Lines} {ds : Domains} {scope x : Environment} → Gives (eval_lines ls scope) ds → Trying q p b (assignments ds scope) x → Gives (eval_pred p x) true
      → Reaches (telling (quantified n q (text k p ls) b) scope) (telling b x)
  -- a line, and the next one once its set is worked out
  declared : {n : ℕ} {a : Expr} {is : List ℕ} {ls : Lines} {scope : Environment} → Reaches (declaring (declaration n a is ls) scope) (working a scope)
  next_line : {n : ℕ} {a : Expr} {is : List ℕ} {ls : Lines} {vs : Values} {scope : Environment} → Gives (eval_expr a scope) (Value.set vs) → Reaches (declaring (declaration n a is ls) scope) (declaring ls scope)
  included : {i : Include} {ls : Lines} {scope : Environment} → Reaches (declaring (inclusion i ls) scope) (including i)
  -- "Power a set whose members pass, Product a tuple of that many parts that pass, any other E is worked out anew"
  power_member : {n : ℕ} {a : Expr} {v : Value} {vs : Values} {scope : Environment} → EachMember a scope vs v → Reaches (testing (power n a) scope (Value.set vs)) (testing a scope v)
  product_part : {n : ℕ} {xs : Exprs} {a : Expr} {v : Value} {vs : Values} {scope : Environment} → exprs_length xs ≡ count vs → EachPart scope xs vs a v
      → Reaches (testing (product n xs) scope (Value.tuple vs)) (testing a scope v)
  anew : {a : Expr} {v : Value} {scope : Environment} → Another a → Reaches (testing a scope v) (working a scope)

-- u is reached from t, in any number of steps
pub data Within : Evaluation → Evaluation → Type 0 where
  itself : {t : Evaluation} → Within t t
  further : {t u v : Evaluation} → Reaches t u → Within u v → Within t v

-- ---- the paragraphs
-- "Axiom tests each identifier against its Decl": i is one of the identifiers, and those before it pass
pub data EachName (state : State) (a : Expr) (scope : Environment) : List ℕ → ℕ → Type 0 where
  first_name : {i : ℕ} {is : List ℕ} → EachName state a scope (i ∷ is) i
  later_name : {i j : ℕ} {is : List ℕ} → Gives (test a scope (state j)) true → EachName state a scope is i → EachName state a scope (j ∷ is) i

-- an Axiom's lines, which see only earlier paragraphs' names; own has the Axiom's identifiers so far
pub data Tested (state : State) (scope : Environment) : Lines → Environment → Evaluation → Type 0 where
  name_tested : {n i : ℕ} {a : Expr} {is : List ℕ} {ls : Lines} {own : Environment} → EachName state a scope is i → Tested state scope (declaration n a is ls) own (testing a scope (state i))
  later_tested_line : {n : ℕ} {a : Expr} {is : List ℕ} {ls : Lines} {own own' : Environment} {u : Evaluation} → Gives (test_names n (test a scope) is state own) (onward own') → Tested state scope ls own' u
      → Tested state scope (declaration n a is ls) own u
  included_line : {i : Include} {ls : Lines} {own : Environment} → Tested state scope (inclusion i ls) own (including i)

-- the evaluations that a paragraph begins with; Givens, Schemas and Abbreviations with parameters have none
pub data Begins (state : State) : Paragraph → Environment → Evaluation → Type 0 where
  axiom_line : {n k : ℕ} {p : Pred} {ls : Lines} {scope : Environment} {u : Evaluation} → Tested state scope ls scope u → Begins state (axiomatic n (text k p ls)) scope u
  axiom_predicate : {n k : ℕ} {p : Pred} {ls : Lines} {scope own : Environment} → Gives (test_lines ls state scope scope) (onward own) → Begins state (axiomatic n (text k p ls)) scope (telling p own)
  worked_out : {n i : ℕ} {a : Expr} {scope : Environment} → Begins state (abbreviation n i [] a) scope (working a scope)
  constrained : {n : ℕ} {p : Pred} {scope : Environment} → Begins state (constraint n p) scope (telling p scope)

-- "the paragraphs in Document order": u is begun by one of the paragraphs, and those before it go on
pub data BeginsIn (state : State) : List Paragraph → Environment → Evaluation → Type 0 where
  this_paragraph : {p : Paragraph} {ps : List Paragraph} {scope : Environment} {u : Evaluation} → Begins state p scope u → BeginsIn state (p ∷ ps) scope u
  next_paragraph : {p : Paragraph} {ps : List Paragraph} {scope scope' : Environment} {u : Evaluation} → Gives (run_paragraph p state scope) (onward scope') → BeginsIn state ps scope' u → BeginsIn state (p ∷ ps) scope u
