-- EVALUATION COMMUTES with renumbering, whatever the function on numbers: same values, list and finding with the nodes mapped.
use mathlib.Core.Path.{◌≡◌, refl, ap, ap₂, sym, ◌∙◌}
use mathlib.Core.List.{List, [], ◌∷◌, ◌++◌}
use mathlib.Core.Bool.{Bool, true, false}
use Prim.Native.Nat.{ℕ}
use lib.IntN.{pos}
use lib.Dec.{leb, eqb}
use Rattle.values.specs.Value.{Value, int, element, set, tuple, Values, nil, cons, count}
use Rattle.values.specs.SetValues.{Image, found, misfit, undefined, apply_value, insert_value}
use Rattle.values_integers.specs.Integer.{Computed}
use Rattle.std.proofs.Common.{Ok, Err}
use Rattle.values_integers.specs.declared.integer.ArithmeticError.TheVariants.{Undefined, Outside}
use Rattle.reader_rules.specs.Tree.{Expr, reference, number, integers, product, power, application, selection, theta, schema_set, arithmetic}
use Rattle.reader_rules.specs.Tree.{comprehension, Exprs, none, more, Pred, truth, equal, member, at_most, not, connected, quantified, Text, text, Lines, end}
use Rattle.reader_rules.specs.Tree.{declaration, inclusion, Include, include, exprs_length, Connective, and, or, implies}
use Rattle.reader_rules.specs.Tree.{Paragraph, given, axiomatic, schema, abbreviation, constraint, Document, document}
use Rattle.reader_rules.specs.Tree as Tree
use Rattle.enumeration_rules.specs.Enumeration.{subsets, tuples}
use Rattle.evaluator_rules.specs.WordCount.{word_count}
use Rattle.evaluator_rules.specs.Outcomes.{Event, worked, Outcome, done, stopped, after, ◌>>=◌, pure, stop, keep_if, keep}
use Rattle.evaluator_rules.specs.Environment.{Meaning, valued, generic, unknown, Environment, bind, empty, lookup, refer}
use Rattle.evaluator_rules.specs.Operations.{as_integer, as_set, as_sets, as_tuple, add_if, add, image, find_pair, keep_integer, calculate, connect, all_pass, count_if, same_count}
use Rattle.evaluator_rules.specs.Assignments.{Domains, no_more, domain, domains, Flow, go, halt, Body, next, each, assign, flow_of, truth_of, gathered}
use Rattle.evaluator_rules.specs.Rules.{among_members, stop_include, eval_expr, eval_exprs, eval_members, eval_pred, over_text, eval_lines, test_expr, test_exprs}
use Rattle.evaluator_rules.specs.Paragraphs.{Step, onward, failed, then, unless, test_names, test_lines, run_paragraph, run_paragraphs, run_document}
use Rattle.evaluator_rules.specs.Run.{ending}
use Rattle.states_rules.specs.States.{State, value_in}
use Rattle.states_rules.specs.Names.{names_as, line_names, paragraph_names, names_of, document_names}
use Rattle.canonical_rules.specs.MapNodes.{map_expr, map_exprs, map_pred, map_text, map_lines, map_include, map_paragraph, map_paragraphs, map_nodes}
use Rattle.canonical_rules.proofs.NodeMaps.{length_maps}
use Rattle.canonical_answers.proofs.MapOutcomes.{map_outcome, map_step, map_found, map_ran}
use Rattle.canonical_answers.specs.MapAnswers.{map_events}

abbrev same : {A : Type 0} → A → A
same a = a

module _ (f : ℕ → ℕ) where
  events_append : (t u : List Event) → map_events f (t ++ u) ≡ map_events f t ++ map_events f u
  unfolding map_events
  events_append [] u = refl
  events_append (worked n v ∷ t) u = ap (λ l. worked (f n) v ∷ l) (events_append t u)

  after_maps : {A : Type 0} (h : A → A) (t : List Event) (m : Outcome A) → after (map_events f t) (map_outcome f h m) ≡ map_outcome f h (after t m)
  unfolding after map_outcome
  after_maps h t (done u a) = ap (λ l. done l (h a)) (sym (events_append t u))
  after_maps h t (stopped u e n) = ap (λ l. stopped l e (f n)) (sym (events_append t u))

  bind_step : {A B : Type 0} (g : A → A) (h : B → B) (m : Outcome A) (k k' : A → Outcome B) → ((a : A) → k' (g a) ≡ map_outcome f h (k a)) → map_outcome f g m >>= k' ≡ map_outcome f h (m >>= k)
  unfolding ◌>>=◌ map_outcome
  bind_step g h (done t a) k k' e = ap (λ o. after (map_events f t) o) (e a) ∙ after_maps h t (k a)
  bind_step g h (stopped t e n) k k' q = refl

  -- m' is m with the nodes mapped
  pub data Maps {A : Type 0} (h : A → A) (m m' : Outcome A) : Type 0 where
    maps : m' ≡ map_outcome f h m → Maps h m m'

  pub is_map : {A : Type 0} {h : A → A} {m m' : Outcome A} → Maps h m m' → m' ≡ map_outcome f h m
  is_map (maps e) = e

  -- one working out after another
  bind_m : {A B : Type 0} {h : B → B} {m m' : Outcome A} {k k' : A → Outcome B} → Maps same m m' → ((a : A) → Maps h (k a) (k' a)) → Maps h (m >>= k) (m' >>= k')
  bind_m {h} {m} {m'} {k} {k'} (maps p) e = maps (ap (λ o. o >>= k') p ∙ bind_step same h m k k' (λ a. is_map (e a)))

  pure_m : {A : Type 0} (a : A) → Maps same (pure a) (pure a)
  unfolding map_outcome map_events
  pure_m a = maps refl

  stop_m : {A : Type 0} (e n : ℕ) → Maps {A = A} same (stop e n) (stop e (f n))
  unfolding map_outcome map_events
  stop_m e n = maps refl

  keep_if_m : (b : Bool) (n : ℕ) (v : Value) → Maps same (keep_if b n v) (keep_if b (f n) v)
  unfolding keep_if map_outcome map_events
  keep_if_m true n v = maps refl
  keep_if_m false n v = maps refl

  keep_m : (n : ℕ) (v : Value) → Maps same (keep n v) (keep (f n) v)
  unfolding keep
  keep_m n v = keep_if_m (leb (word_count v) 64) n v

  integer_m : (n : ℕ) (v : Value) → Maps same (as_integer n v) (as_integer (f n) v)
  unfolding as_integer
  integer_m n (int z) = pure_m z
  integer_m n (element g k) = stop_m _ n
  integer_m n (set vs) = stop_m _ n
  integer_m n (tuple vs) = stop_m _ n

  set_m : (n : ℕ) (v : Value) → Maps same (as_set n v) (as_set (f n) v)
  unfolding as_set
  set_m n (int z) = stop_m _ n
  set_m n (element g k) = stop_m _ n
  set_m n (set vs) = pure_m vs
  set_m n (tuple vs) = stop_m _ n

  sets_m : (n : ℕ) (vs : Values) → Maps same (as_sets n vs) (as_sets (f n) vs)
  unfolding as_sets
  sets_m n nil = pure_m []
  sets_m n (cons v vs) = bind_m (set_m n v) λ ws. bind_m (sets_m n vs) λ wss. pure_m (ws ∷ wss)

  tuple_m : (n : ℕ) (v : Value) → Maps same (as_tuple n v) (as_tuple (f n) v)
  unfolding as_tuple
  tuple_m n (int z) = stop_m _ n
  tuple_m n (element g k) = stop_m _ n
  tuple_m n (set vs) = stop_m _ n
  tuple_m n (tuple vs) = pure_m vs

  add_if_m : (b : Bool) (n : ℕ) (vs : Values) → Maps same (add_if b n vs) (add_if b (f n) vs)
  unfolding add_if
  add_if_m true n vs = pure_m vs
  add_if_m false n vs = stop_m _ n

  add_m : (n : ℕ) (v : Value) (vs : Values) → Maps same (add n v vs) (add (f n) v vs)
  unfolding add
  add_m n v vs = add_if_m (leb (word_count (set (insert_value v vs))) 64) n (insert_value v vs)

  image_m : (n : ℕ) (i : Image) → Maps same (image n i) (image (f n) i)
  unfolding image
  image_m n (found v) = pure_m v
  image_m n misfit = stop_m _ n
  image_m n undefined = stop_m _ n

  pair_m : (n : ℕ) (a : Value) (vs : Values) → Maps same (find_pair n a vs) (find_pair (f n) a vs)
  unfolding find_pair
  pair_m n a vs = image_m n (apply_value a vs)

  keep_integer_m : (n : ℕ) (z : Computed) → Maps same (keep_integer n z) (keep_integer (f n) z)
  unfolding keep_integer
  keep_integer_m n (Ok z) = keep_m n (int z)
  keep_integer_m n (Err Undefined) = stop_m _ n
  keep_integer_m n (Err Outside) = stop_m _ n

  connect_m : (o : Connective) (b : Bool) {r r' : Unit {0} → Outcome Bool} → ((u : Unit {0}) → Maps same (r u) (r' u)) → Maps same (connect o b r) (connect o b r')
  unfolding connect
  connect_m and true h = h tt
  connect_m and false h = pure_m false
  connect_m or true h = pure_m true
  connect_m or false h = h tt
  connect_m implies true h = h tt
  connect_m implies false h = pure_m true

  count_m : (b : Bool) (n : ℕ) → Maps same (count_if b n) (count_if b (f n))
  unfolding count_if
  count_m true n = pure_m tt
  count_m false n = stop_m _ n

  -- the first miss ends it
  while_m : (b : Bool) {m m' : Outcome Bool} → Maps same m m' → Maps {A = Bool} same (elim b [ true ↦ m | false ↦ pure false ]) (elim b [ true ↦ m' | false ↦ pure false ])
  while_m true h = h
  while_m false h = pure_m false

  all_m : (vs : Values) (g g' : Value → Outcome Bool) → ((v : Value) → Maps same (g v) (g' v)) → Maps same (all_pass vs g) (all_pass vs g')
  unfolding all_pass
  all_m nil g g' h = pure_m true
  all_m (cons v vs) g g' h = bind_m (h v) λ b. while_m b (all_m vs g g' h)

  refer_m : (n : ℕ) (xs : Exprs) (m : Meaning) → Maps same (refer n xs m) (refer (f n) (map_exprs f xs) m)
  unfolding refer map_exprs
  refer_m n none (valued v) = keep_m n v
  refer_m n (more a xs) (valued v) = stop_m _ n
  refer_m n none generic = stop_m _ n
  refer_m n (more a xs) generic = stop_m _ n
  refer_m n none unknown = stop_m _ n
  refer_m n (more a xs) unknown = stop_m _ n

  -- assignments
  BodyM : Body → Body → Type 0
  BodyM k k' = (scope : Environment) (s : Values) → Maps same (k scope s) (k' scope s)

  next_m : (g g' : Values → Outcome Flow) → ((s : Values) → Maps same (g s) (g' s)) → (w : Flow) → Maps same (next g w) (next g' w)
  unfolding next
  next_m g g' h (go s) = h s
  next_m g g' h halt = pure_m halt

  each_m : (i : ℕ) (vs : Values) (k k' : Body) → BodyM k k' → BodyM (each i vs k) (each i vs k')
  unfolding each BodyM
  each_m i nil k k' h scope s = pure_m (go s)
  each_m i (cons v vs) k k' h scope s = bind_m (h (bind i (valued v) scope) s) (next_m _ _ (λ s'. each_m i vs k k' h scope s'))

  assign_m : (ds : Domains) (k k' : Body) → BodyM k k' → BodyM (assign ds k) (assign ds k')
  unfolding assign BodyM
  assign_m no_more k k' h = h
  assign_m (domain i vs ds) k k' h = each_m i vs _ _ (λ scope s. assign_m ds k k' h scope s)

  where_m : (b : Bool) (s : Values) {m m' : Outcome Flow} → Maps same m m' → Maps {A = Flow} same (elim b [ true ↦ m | false ↦ pure (go s) ]) (elim b [ true ↦ m' | false ↦ pure (go s) ])
  where_m true s h = h
  where_m false s h = pure_m (go s)

  include_m : {A : Type 0} (i : Include) → Maps {A = A} same (stop_include i) (stop_include (map_include f i))
  unfolding stop_include map_include
  include_m (include n s k xs rs) = stop_m _ n

  same_count_m : (n : ℕ) (xs : Exprs) (c : ℕ) → Maps same (same_count n (exprs_length xs) c) (same_count (f n) (exprs_length (map_exprs f xs)) c)
  unfolding same_count
  same_count_m n xs c = rw (length_maps f xs) (count_m (eqb (exprs_length xs) c) n)

  among_m : (n : ℕ) (v s : Value) → Maps same (among_members n v s) (among_members (f n) v s)
  unfolding among_members
  among_m n v s = bind_m (set_m n s) λ vs. pure_m _

  mutual
    unfolding eval_expr map_expr BodyM

    pub expr_m : (a : Expr) (scope : Environment) → Maps same (eval_expr a scope) (eval_expr (map_expr f a) scope)
    expr_m (reference n i xs) scope = bind_m (exprs_m xs scope) λ vs. refer_m n xs (lookup i scope)
    expr_m (number n k) scope = keep_m n (int (pos k))
    expr_m (integers n) scope = stop_m _ n
    expr_m (Tree.set n xs) scope = bind_m (members_m xs n scope nil) λ vs. keep_m n (set vs)
    expr_m (Tree.tuple n xs) scope = bind_m (exprs_m xs scope) λ vs. keep_m n (tuple vs)
    expr_m (product n xs) scope = bind_m (exprs_m xs scope) λ vs. bind_m (sets_m n vs) λ vss. keep_m n (set (tuples vss))
    expr_m (power n a) scope = bind_m (expr_m a scope) λ v. bind_m (set_m n v) λ vs. keep_m n (set (subsets vs))
    expr_m (application n g a) scope = bind_m (expr_m g scope) λ x. bind_m (expr_m a scope) λ y. bind_m (set_m n x) λ vs. bind_m (pair_m n y vs) λ v. keep_m n v
    expr_m (selection n a i) scope = stop_m _ n
    expr_m (theta n s k) scope = stop_m _ n
    expr_m (schema_set n i) scope = stop_m _ n
    expr_m (arithmetic n o a b) scope =
        bind_m (expr_m a scope) λ x. bind_m (expr_m b scope) λ y. bind_m (integer_m n x) λ j. bind_m (integer_m n y) λ k. keep_integer_m n (calculate o j k)
    expr_m (comprehension n t a) scope =
        bind_m (text_m t _ _ (λ scope' s. bind_m (expr_m a scope') λ v. bind_m (add_m n v s) λ s'. pure_m (go s')) scope nil) λ w. keep_m n (set (gathered w))

    pub exprs_m : (xs : Exprs) (scope : Environment) → Maps same (eval_exprs xs scope) (eval_exprs (map_exprs f xs) scope)
    exprs_m none scope = pure_m nil
    exprs_m (more a xs) scope = bind_m (expr_m a scope) λ v. bind_m (exprs_m xs scope) λ vs. pure_m (cons v vs)

    members_m : (xs : Exprs) (n : ℕ) (scope : Environment) (s : Values) → Maps same (eval_members xs n scope s) (eval_members (map_exprs f xs) (f n) scope s)
    members_m none n scope s = pure_m s
    members_m (more a xs) n scope s = bind_m (expr_m a scope) λ v. bind_m (add_m n v s) λ s'. members_m xs n scope s'

    pub pred_m : (p : Pred) (scope : Environment) → Maps same (eval_pred p scope) (eval_pred (map_pred f p) scope)
    pred_m (truth n) scope = pure_m true
    pred_m (equal n a b) scope = bind_m (expr_m a scope) λ x. bind_m (expr_m b scope) λ y. pure_m _
    pred_m (member n a b) scope = bind_m (expr_m a scope) λ x. test_m b _ _ (λ scope'. expr_m b scope') x scope
    pred_m (at_most n a b) scope = bind_m (expr_m a scope) λ x. bind_m (expr_m b scope) λ y. bind_m (integer_m n x) λ j. bind_m (integer_m n y) λ k. pure_m _
    pred_m (not n p) scope = bind_m (pred_m p scope) λ b. pure_m _
    pred_m (connected n o p q) scope = bind_m (pred_m p scope) λ b. connect_m o b (λ u. pred_m q scope)
    pred_m (quantified n q t p) scope =
        bind_m (text_m t _ _ (λ scope' s. bind_m (pred_m p scope') λ b. pure_m (flow_of q b)) scope nil) λ w. pure_m (truth_of q w)

    text_m : (t : Text) (k k' : Body) → BodyM k k' → (scope : Environment) (s : Values) → Maps same (over_text t k scope s) (over_text (map_text f t) k' scope s)
    text_m (text n p ls) k k' h scope s =
        bind_m (lines_m ls scope) λ ds. assign_m ds _ _ (λ scope' s'. bind_m (pred_m p scope') λ b. where_m b s' (h scope' s')) scope s

    lines_m : (ls : Lines) (scope : Environment) → Maps same (eval_lines ls scope) (eval_lines (map_lines f ls) scope)
    lines_m end scope = pure_m no_more
    lines_m (declaration n a xs ls) scope = bind_m (expr_m a scope) λ v. bind_m (set_m n v) λ vs. bind_m (lines_m ls scope) λ ds. pure_m (domains xs vs ds)
    lines_m (inclusion i ls) scope = include_m i

    test_m : (a : Expr) (value value' : Environment → Outcome Value) → ((scope : Environment) → Maps same (value scope) (value' scope)) → (v : Value) (scope : Environment) → Maps same (test_expr a value v scope) (test_expr (map_expr f a) value' v scope)
    test_m (reference n i xs) value value' h v scope = bind_m (h scope) (among_m n v)
    test_m (number n k) value value' h v scope = bind_m (h scope) (among_m n v)
    test_m (integers n) value value' h v scope = bind_m (integer_m n v) λ z. pure_m true
    test_m (Tree.set n xs) value value' h v scope = bind_m (h scope) (among_m n v)
    test_m (Tree.tuple n xs) value value' h v scope = bind_m (h scope) (among_m n v)
    test_m (product n xs) value value' h v scope = bind_m (tuple_m n v) λ vs. bind_m (same_count_m n xs (count vs)) λ u. tests_m xs vs scope
    test_m (power n a) value value' h v scope = bind_m (set_m n v) λ vs. all_m vs _ _ (λ w. test_m a _ _ (λ scope'. expr_m a scope') w scope)
    test_m (application n g a) value value' h v scope = bind_m (h scope) (among_m n v)
    test_m (selection n a i) value value' h v scope = bind_m (h scope) (among_m n v)
    test_m (theta n s k) value value' h v scope = bind_m (h scope) (among_m n v)
    test_m (schema_set n i) value value' h v scope = bind_m (h scope) (among_m n v)
    test_m (arithmetic n o a b) value value' h v scope = bind_m (h scope) (among_m n v)
    test_m (comprehension n t a) value value' h v scope = bind_m (h scope) (among_m n v)

    tests_m : (xs : Exprs) (vs : Values) (scope : Environment) → Maps same (test_exprs xs vs scope) (test_exprs (map_exprs f xs) vs scope)
    tests_m none vs scope = pure_m true
    tests_m (more a xs) nil scope = pure_m true
    tests_m (more a xs) (cons v vs) scope = bind_m (test_m a _ _ (λ scope'. expr_m a scope') v scope) λ b. while_m b (tests_m xs vs scope)

  -- paragraphs
  then_m : {g g' : Environment → Outcome Step} → ((scope : Environment) → Maps (map_step f) (g scope) (g' scope)) → {m m' : Outcome Step} → Maps (map_step f) m m' → Maps (map_step f) (m >>= then g) (m' >>= then g')
  then_m {g} {g'} h {m} {m'} (maps p) = maps (ap (λ o. o >>= then g') p ∙ bind_step (map_step f) (map_step f) m (then g) (then g') go_on)
    where
      go_on : (a : Step) → then g' (map_step f a) ≡ map_outcome f (map_step f) (then g a)
      go_on (onward scope) = unfold then map_step in is_map (h scope)
      go_on (failed n) = unfold then map_step map_outcome map_events in refl

  onward_m : (scope : Environment) → Maps (map_step f) (pure (onward scope)) (pure (onward scope))
  unfolding map_outcome map_events map_step
  onward_m scope = maps refl

  failed_m : (n : ℕ) → Maps (map_step f) (pure (failed n)) (pure (failed (f n)))
  unfolding map_outcome map_events map_step
  failed_m n = maps refl

  unless_m : (n : ℕ) (b : Bool) (scope : Environment) → Maps (map_step f) (pure (unless n b scope)) (pure (unless (f n) b scope))
  unfolding unless
  unless_m n true scope = onward_m scope
  unless_m n false scope = failed_m n

  pass_m : (n : ℕ) (b : Bool) {m m' : Outcome Step} → Maps (map_step f) m m' → Maps {A = Step} (map_step f) (elim b [ true ↦ m | false ↦ pure (failed n) ]) (elim b [ true ↦ m' | false ↦ pure (failed (f n)) ])
  pass_m n true h = h
  pass_m n false h = failed_m n

  names_m : (n : ℕ) (g g' : Value → Outcome Bool) → ((v : Value) → Maps same (g v) (g' v)) → (xs : List ℕ) (state : State) (own : Environment) → Maps (map_step f) (test_names n g xs state own) (test_names (f n) g' xs state own)
  unfolding test_names
  names_m n g g' h [] state own = onward_m own
  names_m n g g' h (i ∷ xs) state own = bind_m (h (state i)) λ b. pass_m n b (names_m n g g' h xs state (bind i (valued (state i)) own))

  stop_include_m : (i : Include) → Maps {A = Step} (map_step f) (stop_include i) (stop_include (map_include f i))
  unfolding stop_include map_include map_outcome map_events
  stop_include_m (include n s k xs rs) = maps refl

  test_lines_m : (ls : Lines) (state : State) (scope own : Environment) → Maps (map_step f) (test_lines ls state scope own) (test_lines (map_lines f ls) state scope own)
  unfolding test_lines map_lines
  test_lines_m end state scope own = onward_m own
  test_lines_m (declaration n a xs ls) state scope own =
      then_m (λ own'. test_lines_m ls state scope own') (names_m n _ _ (λ v. test_m a _ _ (λ scope'. expr_m a scope') v scope) xs state own)
  test_lines_m (inclusion i ls) state scope own = stop_include_m i

  paragraph_m : (p : Paragraph) (state : State) (scope : Environment) → Maps (map_step f) (run_paragraph p state scope) (run_paragraph (map_paragraph f p) state scope)
  unfolding run_paragraph map_paragraph map_text
  paragraph_m (given n xs) state scope = onward_m _
  paragraph_m (axiomatic n (text m p ls)) state scope = then_m (λ own. bind_m (pred_m p own) λ b. unless_m n b own) (test_lines_m ls state scope scope)
  paragraph_m (schema n s ps x) state scope = onward_m scope
  paragraph_m (abbreviation n i [] a) state scope = bind_m (expr_m a scope) λ v. onward_m _
  paragraph_m (abbreviation n i (p ∷ ps) a) state scope = onward_m _
  paragraph_m (constraint n p) state scope = bind_m (pred_m p scope) λ b. unless_m n b scope

  paragraphs_m : (ps : List Paragraph) (state : State) (scope : Environment) → Maps (map_step f) (run_paragraphs ps state scope) (run_paragraphs (map_paragraphs f ps) state scope)
  unfolding run_paragraphs map_paragraphs
  paragraphs_m [] state scope = onward_m scope
  paragraphs_m (p ∷ ps) state scope = then_m (λ scope'. paragraphs_m ps state scope') (paragraph_m p state scope)

  -- a run over a document's paragraphs
  pub run_maps : (t : Document) (state : State) → run_document (map_nodes f t) state ≡ map_outcome f (map_step f) (run_document t state)
  unfolding run_document map_nodes
  run_maps (document n ps) state = is_map (paragraphs_m ps state empty)

  pub ending_maps : (o : Outcome Step) → ending (map_outcome f (map_step f) o) ≡ map_ran f (ending o)
  unfolding ending map_outcome map_step map_found
  ending_maps (done t (onward scope)) = refl
  ending_maps (done t (failed n)) = refl
  ending_maps (stopped t e n) = refl

  -- the names of a state do not depend on node numbers
  lines_named : (ls : Lines) → line_names (map_lines f ls) ≡ line_names ls
  unfolding line_names map_lines
  lines_named end = refl
  lines_named (declaration n a xs ls) = ap (λ l. names_as false xs ++ l) (lines_named ls)
  lines_named (inclusion i ls) = lines_named ls

  paragraph_named : (p : Paragraph) → paragraph_names (map_paragraph f p) ≡ paragraph_names p
  unfolding paragraph_names map_paragraph map_text
  paragraph_named (given n xs) = refl
  paragraph_named (axiomatic n (text m p ls)) = lines_named ls
  paragraph_named (schema n s ps x) = refl
  paragraph_named (abbreviation n i ps a) = refl
  paragraph_named (constraint n p) = refl

  paragraphs_named : (ps : List Paragraph) → names_of (map_paragraphs f ps) ≡ names_of ps
  unfolding names_of map_paragraphs
  paragraphs_named [] = refl
  paragraphs_named (p ∷ ps) = ap₂ (λ a b. a ++ b) (paragraph_named p) (paragraphs_named ps)

  pub names_stay : (t : Document) → document_names (map_nodes f t) ≡ document_names t
  unfolding document_names map_nodes
  names_stay (document n ps) = paragraphs_named ps

  -- the run over a state's words, once the document is read and there is room (runState's first case)
  pub ran_maps : (t : Document) (state : List ℕ) → ending (run_document (map_nodes f t) (value_in (document_names (map_nodes f t)) state)) ≡ map_ran f (ending (run_document t (value_in (document_names t) state)))
  ran_maps t state = rw names_stay (rw (run_maps t (value_in (document_names t) state)) (ending_maps _))
