-- Member's own test against a Power or a Product lists nothing, and says of a value of the right sort what membership in the list says.
use mathlib.Core.Path.{◌≡◌, sym, subst}
use mathlib.Core.Bool.{Bool, true, false, ◌&&◌}
use mathlib.Core.List.{List, [], ◌∷◌}
use Prim.Native.Nat.{ℕ, ◌<◌, ◌^◌}
use native.Mathlib.Omega.{arith}
use lib.ListN.{length}
use Rattle.values.specs.Value.{Value, Values, nil, cons, count, encode, encodes}
use Rattle.values.specs.Value as Value
use Rattle.values.specs.WellFormed.{well_formed}
use Rattle.values.specs.SetValues.{is_in}
use Rattle.enumeration_rules.specs.Enumeration.{subsets, all_in, each_in, in_power, in_product}
use Rattle.enumeration_rules.proofs.Memberships.{power_member_lem}
use Rattle.reader_rules.specs.Tree.{Expr, power, product, Exprs, none, more, expr_node, exprs_length}
use Rattle.evaluator_rules.specs.Outcomes.{Event, Outcome, after, ◌>>=◌, pure}
use Rattle.evaluator_rules.specs.Environment.{Environment}
use Rattle.evaluator_rules.specs.Operations.{as_set, as_tuple, all_pass}
use Rattle.evaluator_rules.specs.Rules.{among_members, eval_expr, test_expr, test_exprs, test}
use Rattle.evaluator_rules.specs.Listing.{Another}
use Rattle.evaluator_rules.specs.Evaluations.{Gives, gave}
use Rattle.evaluator_rules.proofs.Comes.{same_count_lem, worked_anew}
use Rattle.evaluator_rules.proofs.EvaluationLists.{come}

after_gives : {A : Type 0} (t : List Event) {o : Outcome A} {a : A} → Gives o a → Gives (after t o) a
unfolding after
after_gives t gave = gave

bind_gives : {A B : Type 0} {o : Outcome A} (f : A → Outcome B) {a : A} {b : B} → Gives o a → Gives (f a) b → Gives (o >>= f) b
unfolding ◌>>=◌
bind_gives f (gave {t = t}) k = after_gives t k

-- the first miss ends it
next_gives : (b : Bool) {o : Outcome Bool} {c : Bool} → Gives o c → Gives (elim b [ true ↦ o | false ↦ pure false ]) (b && c)
next_gives true g = g
next_gives false g = gave

module _ (scope : Environment) where
  anew_gives : (a : Expr) (vs : Values) → Another a → Gives (eval_expr a scope) (Value.set vs) → (w : Value) → Gives (test a scope w) (is_in w vs)
  unfolding among_members as_set
  anew_gives a vs o g w = subst (λ (x : Outcome Bool). Gives x (is_in w vs)) (sym (worked_anew a (eval_expr a) w scope o)) (bind_gives (among_members (expr_node a) w) g (bind_gives (λ us. pure (is_in w us)) gave gave))

  members_give : (a : Expr) (vs : Values) → Another a → Gives (eval_expr a scope) (Value.set vs) → (ws : Values) → Gives (all_pass ws (λ w. test_expr a (λ scope'. eval_expr a scope') w scope)) (all_in ws vs)
  unfolding all_pass all_in
  members_give a vs o g nil = gave
  members_give a vs o g (cons w ws) = bind_gives _ (anew_gives a vs o g w) (next_gives (is_in w vs) (members_give a vs o g ws))

  -- a set against the Power of an E that has a set as its value
  pub power_test : (n : ℕ) (a : Expr) (vs ws : Values) → Another a → Gives (eval_expr a scope) (Value.set vs) → Gives (test (power n a) scope (Value.set ws)) (in_power (Value.set ws) vs)
  unfolding test_expr as_set in_power
  power_test n a vs ws o g = bind_gives _ gave (members_give a vs o g ws)

  -- so of the listed power
  pub power_test_listed : (size : ℕ → ℕ) (n : ℕ) (a : Expr) (vs ws : Values) → well_formed size (Value.set vs) ≡ true → length (encodes vs) < 2 ^ 31 → well_formed size (Value.set ws) ≡ true → length (encode (Value.set ws)) < 2 ^ 32 →
      Another a → Gives (eval_expr a scope) (Value.set vs) → Gives (test (power n a) scope (Value.set ws)) (is_in (Value.set ws) (subsets vs))
  power_test_listed size n a vs ws h l k m o g =
      subst (λ (b : Bool). Gives (test (power n a) scope (Value.set ws)) b) (sym (power_member_lem size vs h l (Value.set ws) k m)) (power_test n a vs ws o g)

  -- operands that have sets as their values
  pub data Factors : Exprs → List Values → Type 0 where
    no_factors : Factors none []
    a_factor : {a : Expr} {vs : Values} {xs : Exprs} {vss : List Values} → Another a → Gives (eval_expr a scope) (Value.set vs) → Factors xs vss → Factors (more a xs) (vs ∷ vss)

  parts_give : {xs : Exprs} {vss : List Values} → Factors xs vss → (ws : Values) → exprs_length xs ≡ count ws → Gives (test_exprs xs ws scope) (each_in ws vss)
  unfolding test_expr each_in exprs_length count
  parts_give no_factors nil e = gave
  parts_give no_factors (cons w ws) e = absurd (omega arith)
  parts_give (a_factor o g f) nil e = absurd (omega arith)
  parts_give (a_factor {a = a} {vs = vs} o g f) (cons w ws) e = bind_gives _ (anew_gives a vs o g w) (next_gives (is_in w vs) (parts_give f ws (omega arith)))

  -- a tuple of as many parts against their Product; with another number of parts the test is 51
  pub product_test : (n : ℕ) {xs : Exprs} {vss : List Values} (ws : Values) → Factors xs vss → exprs_length xs ≡ count ws → Gives (test (product n xs) scope (Value.tuple ws)) (in_product (Value.tuple ws) vss)
  unfolding test_expr as_tuple in_product
  product_test n {xs} ws f e = bind_gives _ gave (bind_gives _ (come (same_count_lem n (exprs_length xs) (count ws) e)) (parts_give f ws e))
