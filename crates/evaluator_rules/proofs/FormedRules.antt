-- The evaluation rules keep values well formed: integers of 32 bits, elements below their given's size, members ascending and distinct, 2 to 6 parts.
use mathlib.Core.Path.{◌≡◌, refl, ap}
use mathlib.Core.List.{List, [], ◌∷◌}
use mathlib.Core.Bool.{Bool, true, false, cond}
use Prim.Native.Nat.{ℕ, zero, suc, ◌-◌, ◌/◌, ◌%◌, ◌^◌, ◌≤◌}
use native.Mathlib.Omega.{arith}
use native.Mathlib.Nat.{mod-lt, div-le_self, zero-lt-suc}
use lib.IntN.{ℤ, pos, negsuc}
use lib.Dec.{leb, eqb}
use lib.ListN.{length}
use borrow.Author.Tests.{ltb-true, lt-ltb, leb-true, le-leb}
use Rattle.values_integers.specs.Integer.{in32, kept, sum, difference, floor_div, floor_mod, by_divisor, quotient, remainder}
use Rattle.values_integers.specs.Integer as Integers
use Rattle.values.specs.Value.{Value, int, element, Values, nil, cons, count}
use Rattle.values.specs.Value as Value
use Rattle.values.specs.WellFormed.{ascends, well_formed, all_well_formed}
use Rattle.values.specs.SetValues.{insert_value, Image}
use Rattle.values_integers.specs.Integer.{Computed}
use Rattle.std.proofs.Common.{Ok, Err}
use Rattle.values_integers.specs.declared.integer.ArithmeticError.TheVariants.{Undefined, Outside}
use Rattle.words.proofs.Loops.{and_left, and_right}
use Rattle.values.proofs.Unique.{both}
use Rattle.values.proofs.Inserting.{insert_well_formed}
use Rattle.enumeration_rules.proofs.Rows.{All, also}
use Rattle.enumeration_rules.proofs.Kept.{power_kept, product_kept}
use Rattle.reader_rules.specs.Tree.{Operator, plus, minus, times, Connective, and, or, implies, Quantifier, forall, exists}
use Rattle.reader_rules.specs.Tree.{Expr, reference, number, integers, set, tuple, product, power, application, selection, theta, schema_set, arithmetic}
use Rattle.reader_rules.specs.Tree.{comprehension, Exprs, none, more, Pred, truth, equal, member, at_most, connected, quantified, Text, text, Lines, end}
use Rattle.reader_rules.specs.Tree.{declaration, inclusion, Include, include, exprs_length}
use Rattle.reader_rules.specs.Tree as Tree
use Rattle.reader_rules.proofs.Sized.{SizedExpr, SizedExprs, SizedPred, SizedText, SizedLines}
use Rattle.evaluator_rules.specs.WordCount.{word_count}
use Rattle.evaluator_rules.specs.Outcomes.{Outcome, keep_if, keep}
use Rattle.evaluator_rules.specs.Environment.{Environment, empty, bind, Meaning, valued, generic, unknown, pick, lookup, refer}
use Rattle.evaluator_rules.specs.Operations.{as_integer, as_set, as_sets, as_tuple, add_if, add, image, find_pair, keep_integer, calculate, connect, all_pass, count_if, same_count}
use Rattle.evaluator_rules.specs.Assignments.{Domains, no_more, domain, domains, Flow, go, halt, Body, next, each, assign, flow_of, gathered}
use Rattle.evaluator_rules.specs.Rules.{among_members, stop_include, eval_expr, eval_exprs, eval_members, eval_pred, over_text, eval_lines, test_expr, test_exprs}
use Rattle.evaluator_rules.specs.Applications.{pair, Among, here, later}
use Rattle.evaluator_rules.specs.Claims as Claims
use Rattle.evaluator_rules.specs.Claims.{entry, Good, finished, Formed}
use Rattle.evaluator_rules.proofs.Images.{Finds, misfits, finds_one, finds_not_one, finds, found_among}
use Rattle.evaluator_rules.proofs.Outcomes.{bind_good, pure_good, stop_good, choose_good}

-- ---- integers of 32 bits
quotient_in : (a : ℤ) (d : ℕ) → in32 a ≡ true → in32 (floor_div a (suc d)) ≡ true
unfolding floor_div
quotient_in (pos a) d h = lt-ltb (a / suc d) (2 ^ 31) (omega (arith, ltb-true a (2 ^ 31) h, div-le_self a (suc d)))
quotient_in (negsuc a) d h = lt-ltb (a / suc d) (2 ^ 31) (omega (arith, ltb-true a (2 ^ 31) h, div-le_self a (suc d)))

remainder_in : (a : ℤ) (d : ℕ) → in32 (pos (suc d)) ≡ true → in32 (floor_mod a (suc d)) ≡ true
unfolding floor_mod
remainder_in (pos a) d h = lt-ltb (a % suc d) (2 ^ 31) (omega (arith, ltb-true (suc d) (2 ^ 31) h, mod-lt a (zero-lt-suc d)))
remainder_in (negsuc a) d h = lt-ltb (suc d - suc (a % suc d)) (2 ^ 31) (omega (arith, ltb-true (suc d) (2 ^ 31) h))

-- a result is of 32 bits
abbrev In32 : Computed → Type 0
In32 (Ok z) = in32 z ≡ true
In32 (Err Undefined) = Unit {0}
In32 (Err Outside) = Unit {0}

kept_in : (z : ℤ) → In32 (kept z)
unfolding kept
kept_in z = go (in32 z) refl
  where
    go : (b : Bool) → in32 z ≡ b → In32 (cond b (Ok z) (Err Outside))
    go true e = e
    go false e = tt

calculate_in : (o : Operator) (j k : ℤ) → in32 j ≡ true → in32 k ≡ true → In32 (calculate o j k)
unfolding calculate sum difference Integers.product quotient remainder by_divisor
calculate_in plus j k p q = kept_in _
calculate_in minus j k p q = kept_in _
calculate_in times j k p q = kept_in _
calculate_in Tree.quotient j (pos zero) p q = tt
calculate_in Tree.quotient j (pos (suc d)) p q = quotient_in j d p
calculate_in Tree.quotient j (negsuc d) p q = tt
calculate_in Tree.remainder j (pos zero) p q = tt
calculate_in Tree.remainder j (pos (suc d)) p q = remainder_in j d q
calculate_in Tree.remainder j (negsuc d) p q = tt

module _ (size : ℕ → ℕ) where
  abbrev pub Proper : Value → Type 0
  Proper v = well_formed size v ≡ true

  abbrev AscendingSet : Values → Type 0
  AscendingSet vs = well_formed size (Value.set vs) ≡ true

  abbrev AllFormed : Values → Type 0
  AllFormed vs = all_well_formed size vs ≡ true

  -- an outcome that lists only well-formed values, of whose result P is said
  abbrev pub Keeps : {A : Type 0} → (A → Type 0) → Outcome A → Type 0
  Keeps P m = Good (Formed size) (λ number node. Unit {0}) P m

  abbrev Nothing : {A : Type 0} → A → Type 0
  Nothing a = Unit {0}

  empty_set : AscendingSet nil
  unfolding well_formed ascends
  empty_set = refl

  -- ---- scopes
  abbrev Meant : Meaning → Type 0
  Meant (valued v) = Proper v
  Meant generic = Unit {0}
  Meant unknown = Unit {0}

  unfoldable pub Keeping : Environment → Type 0
  Keeping empty = Unit {0}
  Keeping (bind i m scope) = Meant m × Keeping scope

  pick_formed : (b : Bool) (x y : Meaning) → Meant x → Meant y → Meant (pick b x y)
  unfolding pick
  pick_formed true x y p q = p
  pick_formed false x y p q = q

  lookup_formed : (i : ℕ) (scope : Environment) → Keeping scope → Meant (lookup i scope)
  unfolding lookup Keeping
  lookup_formed i empty h = tt
  lookup_formed i (bind j m scope) h = pick_formed (eqb i j) m (lookup i scope) h.0 (lookup_formed i scope h.1)

  -- ---- operations
  keep_formed : (n : ℕ) (v : Value) → Proper v → Keeps Proper (keep n v)
  unfolding keep keep_if
  keep_formed n v h = go (leb (word_count v) 64)
    where
      go : (b : Bool) → Keeps Proper (keep_if b n v)
      go true = finished (entry h Claims.empty) h
      go false = stop_good tt

  -- where only a value of at most 64 words is known to be well formed
  kept_formed : (n : ℕ) (v : Value) → (length (Value.encode v) ≤ 64 → Proper v) → Keeps Proper (keep n v)
  unfolding keep keep_if word_count
  kept_formed n v h = go (leb (word_count v) 64) refl
    where
      go : (b : Bool) → leb (word_count v) 64 ≡ b → Keeps Proper (keep_if b n v)
      go true e = let p = h (leb-true (word_count v) 64 e) in finished (entry p Claims.empty) p
      go false e = stop_good tt

  refer_formed : (n : ℕ) (xs : Exprs) (m : Meaning) → Meant m → Keeps Proper (refer n xs m)
  unfolding refer
  refer_formed n none (valued v) h = keep_formed n v h
  refer_formed n (more a xs) (valued v) h = stop_good tt
  refer_formed n none generic h = stop_good tt
  refer_formed n (more a xs) generic h = stop_good tt
  refer_formed n none unknown h = stop_good tt
  refer_formed n (more a xs) unknown h = stop_good tt

  integer_formed : (n : ℕ) (v : Value) → Proper v → Keeps (λ z. in32 z ≡ true) (as_integer n v)
  unfolding as_integer well_formed
  integer_formed n (int z) h = pure_good h
  integer_formed n (element g k) h = stop_good tt
  integer_formed n (Value.set vs) h = stop_good tt
  integer_formed n (Value.tuple vs) h = stop_good tt

  set_formed : (n : ℕ) (v : Value) → Proper v → Keeps AscendingSet (as_set n v)
  unfolding as_set
  set_formed n (int z) h = stop_good tt
  set_formed n (element g k) h = stop_good tt
  set_formed n (Value.set vs) h = pure_good h
  set_formed n (Value.tuple vs) h = stop_good tt

  sets_formed : (n : ℕ) (vs : Values) → AllFormed vs → Keeps (λ vss. All AscendingSet vss × (length vss ≡ count vs)) (as_sets n vs)
  unfolding as_sets well_formed count
  sets_formed n nil h = pure_good (All.none, refl)
  sets_formed n (cons v vs) h =
      bind_good (set_formed n v (and_left (well_formed size v) _ h)) λ ws g. bind_good (sets_formed n vs (and_right (well_formed size v) _ h)) λ wss k. pure_good (also g k.0, ap suc k.1)

  tuple_formed : (n : ℕ) (v : Value) → Proper v → Keeps AllFormed (as_tuple n v)
  unfolding as_tuple well_formed
  tuple_formed n (int z) h = stop_good tt
  tuple_formed n (element g k) h = stop_good tt
  tuple_formed n (Value.set vs) h = stop_good tt
  tuple_formed n (Value.tuple vs) h = pure_good (and_left (all_well_formed size vs) _ h)

  members_of_lem : (vs : Values) → AscendingSet vs → AllFormed vs
  unfolding well_formed
  members_of_lem vs h = and_left (all_well_formed size vs) _ h

  add_formed : (n : ℕ) (v : Value) (vs : Values) → Proper v → AscendingSet vs → Keeps AscendingSet (add n v vs)
  unfolding add add_if
  add_formed n v vs h g = go (leb (word_count (Value.set (insert_value v vs))) 64)
    where
      go : (b : Bool) → Keeps AscendingSet (add_if b n (insert_value v vs))
      go true = pure_good (insert_well_formed size vs v g h)
      go false = stop_good tt

  member_formed : {w : Value} {vs : Values} → AllFormed vs → Among w vs → Proper w
  unfolding well_formed
  member_formed {w = w} h here = and_left (well_formed size w) _ h
  member_formed h (later {v = v} m) = member_formed (and_right (well_formed size v) _ h) m

  second_formed : (x z : Value) → Proper (pair x z) → Proper z
  unfolding well_formed
  second_formed x z h = and_left (well_formed size z) _ (and_right (well_formed size x) _ (and_left (all_well_formed size (cons x (cons z nil))) _ h))

  pair_formed : (n : ℕ) (a : Value) (vs : Values) → AscendingSet vs → Keeps Proper (find_pair n a vs)
  unfolding find_pair image
  pair_formed n a vs h = go (finds a vs)
    where
      go : {i : Image} → Finds a vs i → Keeps Proper (image n i)
      go (misfits s) = stop_good tt
      go (finds_one {v = v} i) = let r = found_among i in pure_good (second_formed r.0 v (member_formed (members_of_lem vs h) r.1.1))
      go (finds_not_one i e) = stop_good tt

  whole_formed : (n : ℕ) (i : Computed) → In32 i → Keeps Proper (keep_integer n i)
  unfolding keep_integer well_formed
  whole_formed n (Ok z) h = keep_formed n (int z) h
  whole_formed n (Err Undefined) h = stop_good tt
  whole_formed n (Err Outside) h = stop_good tt

  connect_formed : (o : Connective) (b : Bool) (right : Unit {0} → Outcome Bool) → Keeps Nothing (right tt) → Keeps Nothing (connect o b right)
  unfolding connect
  connect_formed and true right h = h
  connect_formed and false right h = pure_good tt
  connect_formed or true right h = pure_good tt
  connect_formed or false right h = h
  connect_formed implies true right h = h
  connect_formed implies false right h = pure_good tt

  pass_formed : (vs : Values) (f : Value → Outcome Bool) → AllFormed vs → ((v : Value) → Proper v → Keeps Nothing (f v)) → Keeps Nothing (all_pass vs f)
  unfolding all_pass well_formed
  pass_formed nil f g h = pure_good tt
  pass_formed (cons v vs) f g h =
      bind_good (h v (and_left (well_formed size v) _ g)) λ b _. choose_good b (pass_formed vs f (and_right (well_formed size v) _ g) h) (pure_good tt)

  count_formed : (b : Bool) (n : ℕ) → Keeps Nothing (count_if b n)
  unfolding count_if
  count_formed true n = pure_good tt
  count_formed false n = stop_good tt

  among_formed : (n : ℕ) (v s : Value) → Proper s → Keeps Nothing (among_members n v s)
  unfolding among_members
  among_formed n v s h = bind_good (set_formed n s h) (λ vs _. pure_good tt)

  pub include_formed : {A : Type 0} {P : A → Type 0} (i : Include) → Keeps P (stop_include i)
  unfolding stop_include
  include_formed (include n s k xs rs) = stop_good tt

  -- ---- assignments
  unfoldable pub Ranged : Domains → Type 0
  Ranged no_more = Unit {0}
  Ranged (domain i vs ds) = AllFormed vs × Ranged ds

  none_ranged : Ranged no_more
  unfolding Ranged
  none_ranged = tt

  domains_formed : (xs : List ℕ) (vs : Values) (ds : Domains) → AllFormed vs → Ranged ds → Ranged (domains xs vs ds)
  unfolding domains Ranged
  domains_formed [] vs ds h g = g
  domains_formed (i ∷ xs) vs ds h g = (h, domains_formed xs vs ds h g)

  abbrev Flowing : Flow → Type 0
  Flowing (go s) = AscendingSet s
  Flowing halt = Unit {0}

  abbrev FormedBody : Body → Type 0
  FormedBody k = (scope : Environment) (s : Values) → Keeping scope → AscendingSet s → Keeps Flowing (k scope s)

  next_formed : (k : Values → Outcome Flow) (f : Flow) → Flowing f → ((s : Values) → AscendingSet s → Keeps Flowing (k s)) → Keeps Flowing (next k f)
  unfolding next
  next_formed k (go s) g h = h s g
  next_formed k halt g h = pure_good tt

  each_formed : (i : ℕ) (vs : Values) (k : Body) (scope : Environment) (s : Values) → AllFormed vs → Keeping scope → AscendingSet s → FormedBody k → Keeps Flowing (each i vs k scope s)
  unfolding each Keeping well_formed
  each_formed i nil k scope s r c g h = pure_good g
  each_formed i (cons v vs) k scope s r c g h =
      bind_good (h _ s (and_left (well_formed size v) _ r, c) g)
      λ f q. next_formed _ f q (λ s' g'. each_formed i vs k scope s' (and_right (well_formed size v) _ r) c g' h)

  assign_formed : (ds : Domains) (k : Body) (scope : Environment) (s : Values) → Ranged ds → Keeping scope → AscendingSet s → FormedBody k → Keeps Flowing (assign ds k scope s)
  unfolding assign Ranged
  assign_formed no_more k scope s r c g h = h scope s c g
  assign_formed (domain i vs ds) k scope s r c g h = each_formed i vs _ scope s r.0 c g (λ scope' s' c' g'. assign_formed ds k scope' s' r.1 c' g' h)

  flow_formed : (q : Quantifier) (b : Bool) → Flowing (flow_of q b)
  unfolding flow_of
  flow_formed forall true = empty_set
  flow_formed forall false = tt
  flow_formed exists true = tt
  flow_formed exists false = empty_set

  gathered_formed : (f : Flow) → Flowing f → AscendingSet (gathered f)
  unfolding gathered
  gathered_formed (go s) h = h
  gathered_formed halt h = empty_set

  -- ---- the rules
  -- the parts of a Tuple, as many as its operands
  abbrev Parts : Exprs → Values → Type 0
  Parts xs vs = AllFormed vs × (count vs ≡ exprs_length xs)

  tuple_of : (xs : Exprs) (vs : Values) → 2 ≤ exprs_length xs → exprs_length xs ≤ 6 → Parts xs vs → Proper (Value.tuple vs)
  unfolding well_formed
  tuple_of xs vs l m p = both (all_well_formed size vs) _ p.0 (rw p.1 (both (leb 2 (exprs_length xs)) (leb (exprs_length xs) 6) (le-leb 2 (exprs_length xs) l) (le-leb (exprs_length xs) 6 m)))

  number_formed : (k : ℕ) → k ≤ 2147483647 → Proper (int (pos k))
  unfolding well_formed
  number_formed k h = lt-ltb k (2 ^ 31) (omega arith)

  mutual
    unfolding eval_expr same_count SizedExpr well_formed exprs_length count

    pub expr_formed : (a : Expr) (scope : Environment) → SizedExpr a → Keeping scope → Keeps Proper (eval_expr a scope)
    expr_formed (reference n i xs) scope z c = bind_good (exprs_formed xs scope z c) (λ vs _. refer_formed n xs (lookup i scope) (lookup_formed i scope c))
    expr_formed (number n k) scope z c = keep_formed n _ (number_formed k z)
    expr_formed (integers n) scope z c = stop_good tt
    expr_formed (set n xs) scope z c = bind_good (members_formed xs n scope nil z c empty_set) (λ vs h. keep_formed n _ h)
    expr_formed (tuple n xs) scope z c = bind_good (exprs_formed xs scope z.1 c) (λ vs h. keep_formed n _ (tuple_of xs vs z.0.0 z.0.1 h))
    expr_formed (product n xs) scope z c =
        bind_good (exprs_formed xs scope z.1 c) λ vs h. bind_good (sets_formed n vs h.0) λ vss g.
        kept_formed n _ (λ l. product_kept size vss g.0 (omega (arith, z.0.0, h.1, g.1)) (omega (arith, z.0.1, h.1, g.1)) l)
    expr_formed (power n a) scope z c = bind_good (expr_formed a scope z c) λ v h. bind_good (set_formed n v h) λ vs g. kept_formed n _ (power_kept size vs g)
    expr_formed (application n f a) scope z c =
        bind_good (expr_formed f scope z.0 c) λ x hx. bind_good (expr_formed a scope z.1 c) λ y hy.
        bind_good (set_formed n x hx) λ vs hs. bind_good (pair_formed n y vs hs) λ v hv. keep_formed n v hv
    expr_formed (selection n a i) scope z c = stop_good tt
    expr_formed (theta n s k) scope z c = stop_good tt
    expr_formed (schema_set n i) scope z c = stop_good tt
    expr_formed (arithmetic n o a b) scope z c =
        bind_good (expr_formed a scope z.0 c) λ x hx. bind_good (expr_formed b scope z.1 c) λ y hy.
        bind_good (integer_formed n x hx) λ j hj. bind_good (integer_formed n y hy) λ k hk. whole_formed n _ (calculate_in o j k hj hk)
    expr_formed (comprehension n t a) scope z c =
        bind_good
        (text_formed t _ scope nil z.0 c empty_set (λ scope' s c' g. bind_good (expr_formed a scope' z.1 c') λ v hv. bind_good (add_formed n v s hv g) λ s' g'. pure_good g'))
        λ f h. keep_formed n _ (gathered_formed f h)

    pub exprs_formed : (xs : Exprs) (scope : Environment) → SizedExprs xs → Keeping scope → Keeps (Parts xs) (eval_exprs xs scope)
    exprs_formed none scope z c = pure_good (refl, refl)
    exprs_formed (more a xs) scope z c =
        bind_good (expr_formed a scope z.0 c) λ v hv. bind_good (exprs_formed xs scope z.1 c) λ vs h. pure_good (both (well_formed size v) _ hv h.0, ap suc h.1)

    pub members_formed : (xs : Exprs) (n : ℕ) (scope : Environment) (s : Values) → SizedExprs xs → Keeping scope → AscendingSet s → Keeps AscendingSet (eval_members xs n scope s)
    members_formed none n scope s z c g = pure_good g
    members_formed (more a xs) n scope s z c g =
        bind_good (expr_formed a scope z.0 c) λ v hv. bind_good (add_formed n v s hv g) λ s' g'. members_formed xs n scope s' z.1 c g'

    pub pred_formed : (p : Pred) (scope : Environment) → SizedPred p → Keeping scope → Keeps Nothing (eval_pred p scope)
    pred_formed (truth n) scope z c = pure_good tt
    pred_formed (equal n a b) scope z c = bind_good (expr_formed a scope z.0 c) λ x hx. bind_good (expr_formed b scope z.1 c) λ y hy. pure_good tt
    pred_formed (member n a b) scope z c =
        bind_good (expr_formed a scope z.0 c) λ x hx. test_formed b _ x scope z.1 hx c (λ scope' c'. expr_formed b scope' z.1 c')
    pred_formed (at_most n a b) scope z c =
        bind_good (expr_formed a scope z.0 c) λ x hx. bind_good (expr_formed b scope z.1 c) λ y hy.
        bind_good (integer_formed n x hx) λ j hj. bind_good (integer_formed n y hy) λ k hk. pure_good tt
    pred_formed (Tree.not n p) scope z c = bind_good (pred_formed p scope z c) (λ b _. pure_good tt)
    pred_formed (connected n o p q) scope z c = bind_good (pred_formed p scope z.0 c) (λ b _. connect_formed o b _ (pred_formed q scope z.1 c))
    pred_formed (quantified n q t p) scope z c =
        bind_good (text_formed t _ scope nil z.0 c empty_set (λ scope' s c' g. bind_good (pred_formed p scope' z.1 c') λ b _. pure_good (flow_formed q b))) (λ f _. pure_good tt)

    pub text_formed : (t : Text) (k : Body) (scope : Environment) (s : Values) → SizedText t → Keeping scope → AscendingSet s → FormedBody k → Keeps Flowing (over_text t k scope s)
    text_formed (text n p ls) k scope s z c g h =
        bind_good (lines_formed ls scope z.1 c) λ ds r.
        assign_formed ds _ scope s r c g (λ scope' s' c' g'. bind_good (pred_formed p scope' z.0 c') λ b _. choose_good b (h scope' s' c' g') (pure_good g'))

    pub lines_formed : (ls : Lines) (scope : Environment) → SizedLines ls → Keeping scope → Keeps Ranged (eval_lines ls scope)
    lines_formed end scope z c = pure_good none_ranged
    lines_formed (declaration n a xs ls) scope z c =
        bind_good (expr_formed a scope z.0 c) λ v hv. bind_good (set_formed n v hv) λ vs hs. bind_good (lines_formed ls scope z.1 c) λ ds r. pure_good (domains_formed xs vs ds (members_of_lem vs hs) r)
    lines_formed (inclusion i ls) scope z c = include_formed i

    pub test_formed : (a : Expr) (f : Environment → Outcome Value) (v : Value) (scope : Environment) → SizedExpr a → Proper v → Keeping scope → ((scope' : Environment) → Keeping scope' → Keeps Proper (f scope')) → Keeps Nothing (test_expr a f v scope)
    test_formed (reference n i xs) f v scope z w c h = bind_good (h scope c) (λ s g. among_formed n v s g)
    test_formed (number n k) f v scope z w c h = bind_good (h scope c) (λ s g. among_formed n v s g)
    test_formed (integers n) f v scope z w c h = bind_good (integer_formed n v w) (λ j _. pure_good tt)
    test_formed (set n xs) f v scope z w c h = bind_good (h scope c) (λ s g. among_formed n v s g)
    test_formed (tuple n xs) f v scope z w c h = bind_good (h scope c) (λ s g. among_formed n v s g)
    test_formed (product n xs) f v scope z w c h = bind_good (tuple_formed n v w) λ vs g. bind_good (count_formed _ n) λ _ _. tests_formed xs vs scope z.1 g c
    test_formed (power n a) f v scope z w c h =
        bind_good (set_formed n v w) λ vs g. pass_formed vs _ (members_of_lem vs g) (λ u hu. test_formed a _ u scope z hu c (λ scope' c'. expr_formed a scope' z c'))
    test_formed (application n g a) f v scope z w c h = bind_good (h scope c) (λ s q. among_formed n v s q)
    test_formed (selection n a i) f v scope z w c h = bind_good (h scope c) (λ s g. among_formed n v s g)
    test_formed (theta n s k) f v scope z w c h = bind_good (h scope c) (λ s g. among_formed n v s g)
    test_formed (schema_set n i) f v scope z w c h = bind_good (h scope c) (λ s g. among_formed n v s g)
    test_formed (arithmetic n o a b) f v scope z w c h = bind_good (h scope c) (λ s g. among_formed n v s g)
    test_formed (comprehension n t a) f v scope z w c h = bind_good (h scope c) (λ s g. among_formed n v s g)

    pub tests_formed : (xs : Exprs) (vs : Values) (scope : Environment) → SizedExprs xs → AllFormed vs → Keeping scope → Keeps Nothing (test_exprs xs vs scope)
    tests_formed none vs scope z g c = pure_good tt
    tests_formed (more a xs) nil scope z g c = pure_good tt
    tests_formed (more a xs) (cons v vs) scope z g c =
        bind_good (test_formed a _ v scope z.0 (and_left (well_formed size v) _ g) c (λ scope' c'. expr_formed a scope' z.0 c'))
        λ b _. choose_good b (tests_formed xs vs scope z.1 (and_right (well_formed size v) _ g) c) (pure_good tt)
