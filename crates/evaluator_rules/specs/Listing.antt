-- The evaluation rules once more, as sentences about the list and apart from the evaluating functions (document 01, "Beside the finding the evaluation
-- rules give a list: node and value of each expression, each time it is worked out, up to where the run ends or stops"). Each sentence says which list
-- a tree has in a scope, and what comes of it: the lists of what is worked out on the way, in that order, then the node's own entry (R28). Where
-- something stops, the list ends.
use Rattle.std.specs.Prelude.{◌≡◌, ◌⊎◌, List, [], ◌∷◌, ◌++◌, Bool, true, false, not, ℕ, ◌≤◌, ◌<◌, ℤ, pos}
use Rattle.std.specs.Int.Signed.{le_z}
use Rattle.values.specs.Value.{Value, int, Values, nil, cons, count}
use Rattle.values.specs.SetValues.{same_value, is_in, insert_value}
use Rattle.std.specs.Prelude.{Ok, Err}
use Rattle.values_integers.specs.declared.integer.ArithmeticError.TheVariants.{Undefined, Outside}
use Rattle.enumeration_rules.specs.Enumeration.{subsets, tuples}
use Rattle.reader_rules.specs.Tree.{Connective, and, or, implies, Quantifier, forall, exists, Operator}
use Rattle.reader_rules.specs.Tree.{Expr, reference, number, integers, set, tuple, product, power, application, selection, theta, schema_set, arithmetic}
use Rattle.reader_rules.specs.Tree.{comprehension, Exprs, none, more, Pred, truth, equal, member, at_most, connected, quantified, Text, text, Lines, end}
use Rattle.reader_rules.specs.Tree.{declaration, inclusion, Include, include, expr_node, exprs_length}
use Rattle.reader_rules.specs.Tree as Tree
use Rattle.evaluator_rules.specs.WordCount.{word_count}
use Rattle.evaluator_rules.specs.Outcomes.{Event, worked}
use Rattle.evaluator_rules.specs.Environment.{Environment, bind, valued, generic, unknown, lookup}
use Rattle.evaluator_rules.specs.Operations.{calculate}
use Rattle.evaluator_rules.specs.Assignments.{Domains, no_more, domain, domains}
use Rattle.evaluator_rules.specs.Claims.{NotRun}
use Rattle.evaluator_rules.specs.Applications.{SomeNoPair, Images}

-- what comes of it: a value, a truth, ..; or a stop, by a finding's number at a node
pub data Result (A : Type 0) : Type 0 where
  gives : A → Result A
  stops : ℕ → ℕ → Result A

-- "a value of a sort that the operation cannot use"
abbrev pub NoInteger : Value → Type 0
NoInteger v = (z : ℤ) → v ≡ int z → ⊥

abbrev pub NoSet : Value → Type 0
NoSet v = (vs : Values) → v ≡ Value.set vs → ⊥

abbrev pub NoTuple : Value → Type 0
NoTuple v = (vs : Values) → v ≡ Value.tuple vs → ⊥

-- one of the values is no set; or they are the sets of these members
pub data SomeNoSet : Values → Type 0 where
  this_no_set : {v : Value} {vs : Values} → NoSet v → SomeNoSet (cons v vs)
  later_no_set : {v : Value} {vs : Values} → SomeNoSet vs → SomeNoSet (cons v vs)

pub data AllSets : Values → List Values → Type 0 where
  no_sets : AllSets nil []
  one_set : {ws vs : Values} {vss : List Values} → AllSets vs vss → AllSets (cons (Value.set ws) vs) (ws ∷ vss)

-- node n's own entry, its value being v; "value over 64 words" 55
pub data Enters (n : ℕ) (v : Value) : List Event → Result Value → Type 0 where
  entered : word_count v ≤ 64 → Enters n v (worked n v ∷ []) (gives v)
  too_long : 64 < word_count v → Enters n v [] (stops 55 n)

-- "and, or, implies skip the right side when the left decides": the truth of the left that decides, and what it decides
unfoldable pub deciding : Connective → Bool
deciding and = false
deciding or = true
deciding implies = false

unfoldable pub decided : Connective → Bool
decided and = false
decided or = true
decided implies = true

-- "forall stops at a false, exists at a true"
unfoldable pub stops_at : Quantifier → Bool
stops_at forall = false
stops_at exists = true

-- "assignments run with the first identifier slowest, ascending; no Decl means one assignment": the scopes, one after the other
unfoldable pub through : ℕ → Values → (Environment → List Environment) → Environment → List Environment
through i nil f scope = []
through i (cons v vs) f scope = f (bind i (valued v) scope) ++ through i vs f scope

unfoldable pub assignments : Domains → Environment → List Environment
assignments no_more scope = scope ∷ []
assignments (domain i vs ds) scope = through i vs (λ scope'. assignments ds scope') scope

-- what Member tests by working it out: "any other E" than ℤ, Power and Product
pub data Another : Expr → Type 0 where
  a_reference : {n i : ℕ} {xs : Exprs} → Another (reference n i xs)
  a_number : {n k : ℕ} → Another (number n k)
  a_set_of : {n : ℕ} {xs : Exprs} → Another (set n xs)
  a_tuple_of : {n : ℕ} {xs : Exprs} → Another (tuple n xs)
  an_application : {n : ℕ} {f a : Expr} → Another (application n f a)
  a_selection : {n i : ℕ} {a : Expr} → Another (selection n a i)
  a_theta : {n s k : ℕ} → Another (theta n s k)
  a_schema_set : {n : ℕ} {i : Include} → Another (schema_set n i)
  an_arithmetic : {n : ℕ} {o : Operator} {a b : Expr} → Another (arithmetic n o a b)
  a_comprehension : {n : ℕ} {x : Text} {a : Expr} → Another (comprehension n x a)

mutual
  -- an expression: its list, and its value or a stop
  pub data Works : Expr → Environment → List Event → Result Value → Type 0 where
    -- "Ref: scope as in typing, unknown 51, generic abbreviation 54, actuals on another name 51"; the actuals first (R23)
    actuals_stop : {n i : ℕ} {xs : Exprs} {scope : Environment} {t : List Event} {w m : ℕ} → WorksAll xs scope t (stops w m) → Works (reference n i xs) scope t (stops w m)
    name_unknown : {n i : ℕ} {xs : Exprs} {scope : Environment} {t : List Event} {vs : Values} → WorksAll xs scope t (gives vs) → lookup i scope ≡ unknown → Works (reference n i xs) scope t (stops 51 n)
    name_generic : {n i : ℕ} {xs : Exprs} {scope : Environment} {t : List Event} {vs : Values} → WorksAll xs scope t (gives vs) → lookup i scope ≡ generic → Works (reference n i xs) scope t (stops 54 n)
    name_with_actuals : {n i : ℕ} {a : Expr} {xs : Exprs} {scope : Environment} {t : List Event} {vs : Values} {v : Value} → WorksAll (more a xs) scope t (gives vs) → lookup i scope ≡ valued v
        → Works (reference n i (more a xs)) scope t (stops 51 n)
    name_valued : {n i : ℕ} {scope : Environment} {t : List Event} {r : Result Value} {v : Value} → lookup i scope ≡ valued v → Enters n v t r → Works (reference n i none) scope t r
    a_literal : {n k : ℕ} {scope : Environment} {t : List Event} {r : Result Value} → Enters n (int (pos k)) t r → Works (number n k) scope t r
    -- "As values ℤ, .. Select, Theta, SchemaSet .. are 54 before their operands"
    not_run : {a : Expr} {scope : Environment} → NotRun a → Works a scope [] (stops 54 (expr_node a))
    members_stop : {n : ℕ} {xs : Exprs} {scope : Environment} {t : List Event} {w m : ℕ} → Fills xs n scope nil t (stops w m) → Works (set n xs) scope t (stops w m)
    a_set : {n : ℕ} {xs : Exprs} {scope : Environment} {t u : List Event} {vs : Values} {r : Result Value} → Fills xs n scope nil t (gives vs) → Enters n (Value.set vs) u r → Works (set n xs) scope (t ++ u) r
    parts_stop : {n : ℕ} {xs : Exprs} {scope : Environment} {t : List Event} {w m : ℕ} → WorksAll xs scope t (stops w m) → Works (tuple n xs) scope t (stops w m)
    a_tuple : {n : ℕ} {xs : Exprs} {scope : Environment} {t u : List Event} {vs : Values} {r : Result Value} → WorksAll xs scope t (gives vs) → Enters n (Value.tuple vs) u r → Works (tuple n xs) scope (t ++ u) r
    -- "Work out Power and Product as values": all operands first, then one that is no set is 51 at the node (document 02, ask 1)
    base_stops : {n : ℕ} {a : Expr} {scope : Environment} {t : List Event} {w m : ℕ} → Works a scope t (stops w m) → Works (power n a) scope t (stops w m)
    no_base : {n : ℕ} {a : Expr} {scope : Environment} {t : List Event} {x : Value} → Works a scope t (gives x) → NoSet x → Works (power n a) scope t (stops 51 n)
    a_power : {n : ℕ} {a : Expr} {scope : Environment} {t u : List Event} {vs : Values} {r : Result Value} → Works a scope t (gives (Value.set vs)) → Enters n (Value.set (subsets vs)) u r → Works (power n a) scope (t ++ u) r
    factors_stop : {n : ℕ} {xs : Exprs} {scope : Environment} {t : List Event} {w m : ℕ} → WorksAll xs scope t (stops w m) → Works (product n xs) scope t (stops w m)
    no_factor : {n : ℕ} {xs : Exprs} {scope : Environment} {t : List Event} {vs : Values} → WorksAll xs scope t (gives vs) → SomeNoSet vs → Works (product n xs) scope t (stops 51 n)
    a_product : {n : ℕ} {xs : Exprs} {scope : Environment} {t u : List Event} {vs : Values} {vss : List Values} {r : Result Value} → WorksAll xs scope t (gives vs) → AllSets vs vss → Enters n (Value.set (tuples vss)) u r
        → Works (product n xs) scope (t ++ u) r
    -- "In Z an application has a value only where the relation pairs the argument with exactly one result. .. a member that is not a pair is a misfit wherever it
    -- stands. Two or more pairs for the argument are 52, as none is, and 51 goes before 52" (document 02, ask 5)
    function_stops : {n : ℕ} {f a : Expr} {scope : Environment} {t : List Event} {w m : ℕ} → Works f scope t (stops w m) → Works (application n f a) scope t (stops w m)
    argument_stops : {n : ℕ} {f a : Expr} {scope : Environment} {t u : List Event} {x : Value} {w m : ℕ} → Works f scope t (gives x) → Works a scope u (stops w m) → Works (application n f a) scope (t ++ u) (stops w m)
    no_function : {n : ℕ} {f a : Expr} {scope : Environment} {t u : List Event} {x y : Value} → Works f scope t (gives x) → Works a scope u (gives y) → NoSet x → Works (application n f a) scope (t ++ u) (stops 51 n)
    no_pair : {n : ℕ} {f a : Expr} {scope : Environment} {t u : List Event} {vs : Values} {y : Value} → Works f scope t (gives (Value.set vs)) → Works a scope u (gives y) → SomeNoPair vs
        → Works (application n f a) scope (t ++ u) (stops 51 n)
    not_one : {n : ℕ} {f a : Expr} {scope : Environment} {t u : List Event} {vs zs : Values} {y : Value} → Works f scope t (gives (Value.set vs)) → Works a scope u (gives y) → Images y vs zs → (count zs ≡ 1 → ⊥)
        → Works (application n f a) scope (t ++ u) (stops 52 n)
    applied : {n : ℕ} {f a : Expr} {scope : Environment} {t u l : List Event} {vs : Values} {y v : Value} {r : Result Value} → Works f scope t (gives (Value.set vs)) → Works a scope u (gives y) → Images y vs (cons v nil)
        → Enters n v l r → Works (application n f a) scope (t ++ (u ++ l)) r
    -- arithmetic: 51 before 52 before 53 (R23)
    left_stops : {n : ℕ} {o : Operator} {a b : Expr} {scope : Environment} {t : List Event} {w m : ℕ} → Works a scope t (stops w m) → Works (arithmetic n o a b) scope t (stops w m)
    right_stops : {n : ℕ} {o : Operator} {a b : Expr} {scope : Environment} {t u : List Event} {x : Value} {w m : ℕ} → Works a scope t (gives x) → Works b scope u (stops w m)
        → Works (arithmetic n o a b) scope (t ++ u) (stops w m)
    no_number : {n : ℕ} {o : Operator} {a b : Expr} {scope : Environment} {t u : List Event} {x y : Value} → Works a scope t (gives x) → Works b scope u (gives y) → NoInteger x ⊎ NoInteger y
        → Works (arithmetic n o a b) scope (t ++ u) (stops 51 n)
    no_result : {n : ℕ} {o : Operator} {a b : Expr} {scope : Environment} {t u : List Event} {j k : ℤ} → Works a scope t (gives (int j)) → Works b scope u (gives (int k)) → calculate o j k ≡ (Err Undefined)
        → Works (arithmetic n o a b) scope (t ++ u) (stops 52 n)
    outside : {n : ℕ} {o : Operator} {a b : Expr} {scope : Environment} {t u : List Event} {j k : ℤ} → Works a scope t (gives (int j)) → Works b scope u (gives (int k)) → calculate o j k ≡ (Err Outside)
        → Works (arithmetic n o a b) scope (t ++ u) (stops 53 n)
    calculated : {n : ℕ} {o : Operator} {a b : Expr} {scope : Environment} {t u l : List Event} {j k z : ℤ} {r : Result Value} → Works a scope t (gives (int j)) → Works b scope u (gives (int k)) → calculate o j k ≡ Ok z
        → Enters n (int z) l r → Works (arithmetic n o a b) scope (t ++ (u ++ l)) r
    -- "A Text's Decl sets are worked out once, then assignments run ..; a Comprehension adds each body"
    sets_stop : {n k : ℕ} {p : Pred} {ls : Lines} {a : Expr} {scope : Environment} {t : List Event} {w m : ℕ} → Declares ls scope t (stops w m) → Works (comprehension n (text k p ls) a) scope t (stops w m)
    bodies_stop : {n k : ℕ} {p : Pred} {ls : Lines} {a : Expr} {scope : Environment} {t u : List Event} {ds : Domains} {w m : ℕ} → Declares ls scope t (gives ds) → Gathers n p a (assignments ds scope) nil u (stops w m)
        → Works (comprehension n (text k p ls) a) scope (t ++ u) (stops w m)
    all_gathered : {n k : ℕ} {p : Pred} {ls : Lines} {a : Expr} {scope : Environment} {t u l : List Event} {ds : Domains} {vs : Values} {r : Result Value} → Declares ls scope t (gives ds)
        → Gathers n p a (assignments ds scope) nil u (gives vs) → Enters n (Value.set vs) l r → Works (comprehension n (text k p ls) a) scope (t ++ (u ++ l)) r

  -- expressions, left to right
  pub data WorksAll : Exprs → Environment → List Event → Result Values → Type 0 where
    none_left : {scope : Environment} → WorksAll none scope [] (gives nil)
    first_stops : {a : Expr} {xs : Exprs} {scope : Environment} {t : List Event} {w m : ℕ} → Works a scope t (stops w m) → WorksAll (more a xs) scope t (stops w m)
    later_stops : {a : Expr} {xs : Exprs} {scope : Environment} {t u : List Event} {v : Value} {w m : ℕ} → Works a scope t (gives v) → WorksAll xs scope u (stops w m) → WorksAll (more a xs) scope (t ++ u) (stops w m)
    all_worked : {a : Expr} {xs : Exprs} {scope : Environment} {t u : List Event} {v : Value} {vs : Values} → Works a scope t (gives v) → WorksAll xs scope u (gives vs)
        → WorksAll (more a xs) scope (t ++ u) (gives (cons v vs))

  -- "Set members are added one at a time": 55 at the Set, node n, where s with the member passes 64 words (R24)
  pub data Fills : Exprs → ℕ → Environment → Values → List Event → Result Values → Type 0 where
    filled : {n : ℕ} {scope : Environment} {s : Values} → Fills none n scope s [] (gives s)
    member_stops : {a : Expr} {xs : Exprs} {n : ℕ} {scope : Environment} {s : Values} {t : List Event} {w m : ℕ} → Works a scope t (stops w m) → Fills (more a xs) n scope s t (stops w m)
    member_too_much : {a : Expr} {xs : Exprs} {n : ℕ} {scope : Environment} {s : Values} {t : List Event} {v : Value} → Works a scope t (gives v) → 64 < word_count (Value.set (insert_value v s))
        → Fills (more a xs) n scope s t (stops 55 n)
    member_added : {a : Expr} {xs : Exprs} {n : ℕ} {scope : Environment} {s : Values} {t u : List Event} {v : Value} {r : Result Values} → Works a scope t (gives v) → word_count (Value.set (insert_value v s)) ≤ 64
        → Fills xs n scope (insert_value v s) u r → Fills (more a xs) n scope s (t ++ u) r

  -- a predicate; it has no entry of its own
  pub data Tells : Pred → Environment → List Event → Result Bool → Type 0 where
    is_true : {n : ℕ} {scope : Environment} → Tells (truth n) scope [] (gives true)
    -- "= compares words"
    equal_left_stops : {n : ℕ} {a b : Expr} {scope : Environment} {t : List Event} {w m : ℕ} → Works a scope t (stops w m) → Tells (equal n a b) scope t (stops w m)
    equal_right_stops : {n : ℕ} {a b : Expr} {scope : Environment} {t u : List Event} {x : Value} {w m : ℕ} → Works a scope t (gives x) → Works b scope u (stops w m) → Tells (equal n a b) scope (t ++ u) (stops w m)
    compared : {n : ℕ} {a b : Expr} {scope : Environment} {t u : List Event} {x y : Value} → Works a scope t (gives x) → Works b scope u (gives y) → Tells (equal n a b) scope (t ++ u) (gives (same_value x y))
    -- "Member works out the left, then tests"
    member_left_stops : {n : ℕ} {a b : Expr} {scope : Environment} {t : List Event} {w m : ℕ} → Works a scope t (stops w m) → Tells (member n a b) scope t (stops w m)
    tested : {n : ℕ} {a b : Expr} {scope : Environment} {t u : List Event} {x : Value} {r : Result Bool} → Works a scope t (gives x) → Tests b scope x u r → Tells (member n a b) scope (t ++ u) r
    at_most_left_stops : {n : ℕ} {a b : Expr} {scope : Environment} {t : List Event} {w m : ℕ} → Works a scope t (stops w m) → Tells (at_most n a b) scope t (stops w m)
    at_most_right_stops : {n : ℕ} {a b : Expr} {scope : Environment} {t u : List Event} {x : Value} {w m : ℕ} → Works a scope t (gives x) → Works b scope u (stops w m) → Tells (at_most n a b) scope (t ++ u) (stops w m)
    not_numbers : {n : ℕ} {a b : Expr} {scope : Environment} {t u : List Event} {x y : Value} → Works a scope t (gives x) → Works b scope u (gives y) → NoInteger x ⊎ NoInteger y → Tells (at_most n a b) scope (t ++ u) (stops 51 n)
    ordered : {n : ℕ} {a b : Expr} {scope : Environment} {t u : List Event} {j k : ℤ} → Works a scope t (gives (int j)) → Works b scope u (gives (int k)) → Tells (at_most n a b) scope (t ++ u) (gives (le_z j k))
    not_stops : {n : ℕ} {p : Pred} {scope : Environment} {t : List Event} {w m : ℕ} → Tells p scope t (stops w m) → Tells (Tree.not n p) scope t (stops w m)
    negated : {n : ℕ} {p : Pred} {scope : Environment} {t : List Event} {b : Bool} → Tells p scope t (gives b) → Tells (Tree.not n p) scope t (gives (not b))
    -- "and, or, implies skip the right side when the left decides"
    side_stops : {n : ℕ} {o : Connective} {p q : Pred} {scope : Environment} {t : List Event} {w m : ℕ} → Tells p scope t (stops w m) → Tells (connected n o p q) scope t (stops w m)
    right_skipped : {n : ℕ} {o : Connective} {p q : Pred} {scope : Environment} {t : List Event} → Tells p scope t (gives (deciding o)) → Tells (connected n o p q) scope t (gives (decided o))
    right_told : {n : ℕ} {o : Connective} {p q : Pred} {scope : Environment} {t u : List Event} {r : Result Bool} → Tells p scope t (gives (not (deciding o))) → Tells q scope u r → Tells (connected n o p q) scope (t ++ u) r
    text_stops : {n k : ℕ} {q : Quantifier} {p b : Pred} {ls : Lines} {scope : Environment} {t : List Event} {w m : ℕ} → Declares ls scope t (stops w m) → Tells (quantified n q (text k p ls) b) scope t (stops w m)
    over_text : {n k : ℕ} {q : Quantifier} {p b : Pred} {ls : Lines} {scope : Environment} {t u : List Event} {ds : Domains} {r : Result Bool} → Declares ls scope t (gives ds) → Quantifies q p b (assignments ds scope) u r
        → Tells (quantified n q (text k p ls) b) scope (t ++ u) r

  -- a Text's lines: its identifiers with the sets that they run through; one that is no set is 51 at the Decl, before the next line, and an Include is
  -- 54 when its turn comes (R25)
  pub data Declares : Lines → Environment → List Event → Result Domains → Type 0 where
    no_line : {scope : Environment} → Declares end scope [] (gives no_more)
    decl_stops : {n : ℕ} {a : Expr} {is : List ℕ} {ls : Lines} {scope : Environment} {t : List Event} {w m : ℕ} → Works a scope t (stops w m) → Declares (declaration n a is ls) scope t (stops w m)
    decl_no_set : {n : ℕ} {a : Expr} {is : List ℕ} {ls : Lines} {scope : Environment} {t : List Event} {v : Value} → Works a scope t (gives v) → NoSet v → Declares (declaration n a is ls) scope t (stops 51 n)
    later_line_stops : {n : ℕ} {a : Expr} {is : List ℕ} {ls : Lines} {scope : Environment} {t u : List Event} {vs : Values} {w m : ℕ} → Works a scope t (gives (Value.set vs)) → Declares ls scope u (stops w m)
        → Declares (declaration n a is ls) scope (t ++ u) (stops w m)
    declared : {n : ℕ} {a : Expr} {is : List ℕ} {ls : Lines} {scope : Environment} {t u : List Event} {vs : Values} {ds : Domains} → Works a scope t (gives (Value.set vs)) → Declares ls scope u (gives ds)
        → Declares (declaration n a is ls) scope (t ++ u) (gives (domains is vs ds))
    included : {n s k : ℕ} {xs : Exprs} {rs : List (ℕ × ℕ)} {ls : Lines} {scope : Environment} → Declares (inclusion (include n s k xs rs) ls) scope [] (stops 54 n)

  -- a Comprehension, node n, adds each body to s, over the assignments where the Text's predicate p is true
  pub data Gathers : ℕ → Pred → Expr → List Environment → Values → List Event → Result Values → Type 0 where
    none_to_add : {n : ℕ} {p : Pred} {a : Expr} {s : Values} → Gathers n p a [] s [] (gives s)
    filter_stops : {n : ℕ} {p : Pred} {a : Expr} {x : Environment} {xs : List Environment} {s : Values} {t : List Event} {w m : ℕ} → Tells p x t (stops w m) → Gathers n p a (x ∷ xs) s t (stops w m)
    filtered_out : {n : ℕ} {p : Pred} {a : Expr} {x : Environment} {xs : List Environment} {s : Values} {t u : List Event} {r : Result Values} → Tells p x t (gives false) → Gathers n p a xs s u r → Gathers n p a (x ∷ xs) s (t ++ u) r
    body_stops : {n : ℕ} {p : Pred} {a : Expr} {x : Environment} {xs : List Environment} {s : Values} {t u : List Event} {w m : ℕ} → Tells p x t (gives true) → Works a x u (stops w m) → Gathers n p a (x ∷ xs) s (t ++ u) (stops w m)
    body_too_much : {n : ℕ} {p : Pred} {a : Expr} {x : Environment} {xs : List Environment} {s : Values} {t u : List Event} {v : Value} → Tells p x t (gives true) → Works a x u (gives v) → 64 < word_count (Value.set (insert_value v s))
        → Gathers n p a (x ∷ xs) s (t ++ u) (stops 55 n)
    body_added : {n : ℕ} {p : Pred} {a : Expr} {x : Environment} {xs : List Environment} {s : Values} {t u l : List Event} {v : Value} {r : Result Values} → Tells p x t (gives true) → Works a x u (gives v)
        → word_count (Value.set (insert_value v s)) ≤ 64 → Gathers n p a xs (insert_value v s) l r → Gathers n p a (x ∷ xs) s (t ++ (u ++ l)) r

  -- "forall stops at a false, exists at a true, .. all over assignments where the Text's predicate is true"
  pub data Quantifies : Quantifier → Pred → Pred → List Environment → List Event → Result Bool → Type 0 where
    all_tried : {q : Quantifier} {p b : Pred} → Quantifies q p b [] [] (gives (not (stops_at q)))
    guard_stops : {q : Quantifier} {p b : Pred} {x : Environment} {xs : List Environment} {t : List Event} {w m : ℕ} → Tells p x t (stops w m) → Quantifies q p b (x ∷ xs) t (stops w m)
    passed_over : {q : Quantifier} {p b : Pred} {x : Environment} {xs : List Environment} {t u : List Event} {r : Result Bool} → Tells p x t (gives false) → Quantifies q p b xs u r → Quantifies q p b (x ∷ xs) (t ++ u) r
    claim_stops : {q : Quantifier} {p b : Pred} {x : Environment} {xs : List Environment} {t u : List Event} {w m : ℕ} → Tells p x t (gives true) → Tells b x u (stops w m) → Quantifies q p b (x ∷ xs) (t ++ u) (stops w m)
    claim_ends : {q : Quantifier} {p b : Pred} {x : Environment} {xs : List Environment} {t u : List Event} → Tells p x t (gives true) → Tells b x u (gives (stops_at q)) → Quantifies q p b (x ∷ xs) (t ++ u) (gives (stops_at q))
    claim_goes_on : {q : Quantifier} {p b : Pred} {x : Environment} {xs : List Environment} {t u l : List Event} {r : Result Bool} → Tells p x t (gives true) → Tells b x u (gives (not (stops_at q))) → Quantifies q p b xs l r
        → Quantifies q p b (x ∷ xs) (t ++ (u ++ l)) r

  -- Member's test of a value: "ℤ needs an integer, Power a set whose members pass, Product a tuple of that many parts that pass, any other E is worked out
  -- anew and must be a set; .. a wrong sort or number of parts is 51 at the node tested against"; ℤ, Power and Product have no entry (R26)
  pub data Tests : Expr → Environment → Value → List Event → Result Bool → Type 0 where
    an_integer : {n : ℕ} {scope : Environment} {z : ℤ} → Tests (integers n) scope (int z) [] (gives true)
    not_an_integer : {n : ℕ} {scope : Environment} {v : Value} → NoInteger v → Tests (integers n) scope v [] (stops 51 n)
    a_subset : {n : ℕ} {a : Expr} {scope : Environment} {vs : Values} {t : List Event} {r : Result Bool} → TestsMembers a scope vs t r → Tests (power n a) scope (Value.set vs) t r
    not_aset : {n : ℕ} {a : Expr} {scope : Environment} {v : Value} → NoSet v → Tests (power n a) scope v [] (stops 51 n)
    in_product : {n : ℕ} {xs : Exprs} {scope : Environment} {vs : Values} {t : List Event} {r : Result Bool} → exprs_length xs ≡ count vs → TestsParts xs scope vs t r → Tests (product n xs) scope (Value.tuple vs) t r
    other_count : {n : ℕ} {xs : Exprs} {scope : Environment} {vs : Values} → (exprs_length xs ≡ count vs → ⊥) → Tests (product n xs) scope (Value.tuple vs) [] (stops 51 n)
    not_atuple : {n : ℕ} {xs : Exprs} {scope : Environment} {v : Value} → NoTuple v → Tests (product n xs) scope v [] (stops 51 n)
    anew_stops : {a : Expr} {scope : Environment} {v : Value} {t : List Event} {w m : ℕ} → Another a → Works a scope t (stops w m) → Tests a scope v t (stops w m)
    anew_no_set : {a : Expr} {scope : Environment} {v x : Value} {t : List Event} → Another a → Works a scope t (gives x) → NoSet x → Tests a scope v t (stops 51 (expr_node a))
    anew_looked : {a : Expr} {scope : Environment} {v : Value} {vs : Values} {t : List Event} → Another a → Works a scope t (gives (Value.set vs)) → Tests a scope v t (gives (is_in v vs))

  -- "the first miss ends it": a set's members, each against E
  pub data TestsMembers : Expr → Environment → Values → List Event → Result Bool → Type 0 where
    all_members_pass : {a : Expr} {scope : Environment} → TestsMembers a scope nil [] (gives true)
    member_test_stops : {a : Expr} {scope : Environment} {v : Value} {vs : Values} {t : List Event} {w m : ℕ} → Tests a scope v t (stops w m) → TestsMembers a scope (cons v vs) t (stops w m)
    member_misses : {a : Expr} {scope : Environment} {v : Value} {vs : Values} {t : List Event} → Tests a scope v t (gives false) → TestsMembers a scope (cons v vs) t (gives false)
    member_passes : {a : Expr} {scope : Environment} {v : Value} {vs : Values} {t u : List Event} {r : Result Bool} → Tests a scope v t (gives true) → TestsMembers a scope vs u r → TestsMembers a scope (cons v vs) (t ++ u) r

  -- a tuple's parts, each against its own E
  pub data TestsParts : Exprs → Environment → Values → List Event → Result Bool → Type 0 where
    all_parts_pass : {scope : Environment} → TestsParts none scope nil [] (gives true)
    part_test_stops : {a : Expr} {xs : Exprs} {scope : Environment} {v : Value} {vs : Values} {t : List Event} {w m : ℕ} → Tests a scope v t (stops w m) → TestsParts (more a xs) scope (cons v vs) t (stops w m)
    part_misses : {a : Expr} {xs : Exprs} {scope : Environment} {v : Value} {vs : Values} {t : List Event} → Tests a scope v t (gives false) → TestsParts (more a xs) scope (cons v vs) t (gives false)
    part_passes : {a : Expr} {xs : Exprs} {scope : Environment} {v : Value} {vs : Values} {t u : List Event} {r : Result Bool} → Tests a scope v t (gives true) → TestsParts xs scope vs u r
        → TestsParts (more a xs) scope (cons v vs) (t ++ u) r
