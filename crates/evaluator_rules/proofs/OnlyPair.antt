-- An application has a value exactly where one pair has the argument (specs/Applications); and in a well-formed set every member is above those before it, so
-- members are distinct, and assignments run ascending.
use mathlib.Core.Path.{◌≡◌, refl, sym, subst, ◌∙◌}
use mathlib.Core.Bool.{true, false, false≢true}
use mathlib.Core.List.{List, []}
use mathlib.Core.Logic.{inl, inr, ◌↔◌}
use Prim.Native.Nat.{ℕ}
use native.Mathlib.Omega.{arith}
use Rattle.values.specs.Order.{compare, is_less}
use Rattle.std.specs.declared.cmp.Ordering.{Ordering}
use Rattle.values.specs.Value.{Value, set, Values, nil, cons, count, encode}
use Rattle.values.specs.WellFormed.{ascends, well_formed, all_well_formed}
use Rattle.values.specs.SetValues.{same_value}
use Rattle.values.proofs.WordOrder.{less_trans}
use Rattle.values.proofs.Equality.{compare_refl}
use Rattle.words.proofs.Loops.{and_left, and_right}
use Rattle.reader_rules.specs.Tree.{Expr, application}
use Rattle.evaluator_rules.specs.Outcomes.{Event, Outcome}
use Rattle.evaluator_rules.specs.Environment.{Environment}
use Rattle.evaluator_rules.specs.Rules.{eval_expr}
use Rattle.evaluator_rules.specs.Listing
use Rattle.evaluator_rules.specs.Listing.{gives, Works}
use Rattle.evaluator_rules.specs.Evaluations.{Gives, gave, Stops}
use Rattle.evaluator_rules.specs.Applications.{pair, SomeNoPair, this_no_pair, later_no_pair, Images, no_images, one_image, other_pair, Among, here, later, AllPairs, OnlyPair}
use Rattle.evaluator_rules.proofs.Images.{PairsOrNot, pairs_or_not, all_pairs_lem, image_among, found_among, applied_words}
use Rattle.evaluator_rules.proofs.EvaluationLists.{value_said, value_comes, value_stops}
use Rattle.evaluator_rules.proofs.TroublesFound.{value_short}

-- ---- members ascend
pub ascends_above : (p : List ℕ) (vs : Values) → ascends p vs ≡ true → (w : Value) → Among w vs → is_less (compare p (encode w)) ≡ true
unfolding ascends
ascends_above p nil h w m = elim m [ ]
ascends_above p (cons v vs) h w here = and_left (is_less (compare p (encode v))) _ h
ascends_above p (cons v vs) h w (later m) =
    less_trans p (encode v) (encode w) (and_left (is_less (compare p (encode v))) _ h) (ascends_above (encode v) vs (and_right (is_less (compare p (encode v))) _ h) w m)

not_above_itself : (v : Value) → is_less (compare (encode v) (encode v)) ≡ true → ⊥
unfolding is_less
not_above_itself v h = false≢true (subst (λ (o : Ordering). is_less o ≡ true) (compare_refl (encode v)) h)

-- ---- what is the only pair
pairs_only : {vs : Values} → AllPairs vs → SomeNoPair vs → ⊥
pairs_only h (this_no_pair {v = v} n) = let r = h v here in n r.0 r.1.0 r.1.1
pairs_only h (later_no_pair s) = pairs_only (λ w m. h w (later m)) s

none_other : {a x z : Value} {vs : Values} → Images a vs nil → Among (pair x z) vs → same_value x a ≡ true → ⊥
none_other no_images m t = elim m [ ]
none_other (other_pair e i) here t = false≢true (sym e ∙ t)
none_other (other_pair e i) (later m) t = none_other i m t

this_only : {a x v : Value} {vs : Values} → same_value x a ≡ true → Images a vs nil → (u w : Value) → Among (pair u w) (cons (pair x v) vs) → same_value u a ≡ true → pair u w ≡ pair x v
this_only e i u w here t = refl
this_only e i u w (later m) t = absurd (none_other i m t)

later_only : {a x z v : Value} {vs : Values} → same_value x a ≡ false → (r : OnlyPair a vs v) → (u w : Value) → Among (pair u w) (cons (pair x z) vs) → same_value u a ≡ true → pair u w ≡ pair r.first v
later_only e r u w here t = absurd (false≢true (sym e ∙ t))
later_only e r u w (later m) t = r.only u w m t

only_from : {a v : Value} {vs : Values} → Images a vs (cons v nil) → OnlyPair a vs v
only_from (one_image {x = x} e i) =
    record {
      pairs = all_pairs_lem (one_image e i);
      first = x;
      argument = e;
      member = here;
      only = this_only e i;
    }
only_from (other_pair e i) =
    let r = only_from i in
    record {
      pairs = all_pairs_lem (other_pair e i);
      first = r.first;
      argument = r.argument;
      member = later r.member;
      only = later_only e r;
    }

-- two images in a list that ascends are those of two members, one above the other
record Two (a z w : Value) (vs : Values) : Type 0 where
  pub lower : Value
  pub upper : Value
  pub low : same_value lower a ≡ true
  pub high : same_value upper a ≡ true
  pub low_among : Among (pair lower z) vs
  pub high_among : Among (pair upper w) vs
  pub above : is_less (compare (encode (pair lower z)) (encode (pair upper w))) ≡ true

two : {a z w : Value} (p : List ℕ) {vs ws : Values} → ascends p vs ≡ true → Images a vs (cons z (cons w ws)) → Two a z w vs
unfolding ascends
two p {vs = nil} h i = elim i [ ]
two {z = z} {w = w} p {vs = cons _ us} h (one_image {x = x} e i) =
    let r = image_among i here in
    record {
      lower = x;
      upper = r.0;
      low = e;
      high = r.1.0;
      low_among = here;
      high_among = later r.1.1;
      above = ascends_above (encode (pair x z)) us (and_right (is_less (compare p (encode (pair x z)))) _ h) (pair r.0 w) r.1.1;
    }
two p {vs = cons _ us} h (other_pair {x = x} {z = z} e i) =
    let r = two (encode (pair x z)) (and_right (is_less (compare p (encode (pair x z)))) _ h) i in
    record { lower = r.lower; upper = r.upper; low = r.low; high = r.high; low_among = later r.low_among; high_among = later r.high_among; above = r.above }

-- in a well-formed set the only pair is the only image
module _ (a v : Value) (vs : Values) (h : ascends [] vs ≡ true) (o : OnlyPair a vs v) where
  not_two : {z w : Value} {ws : Values} → Images a vs (cons z (cons w ws)) → ⊥
  not_two {z = z} {w = w} i =
      let t = two [] h i in
      let low = o.only t.lower z t.low_among t.low in
      let high = o.only t.upper w t.high_among t.high in
      not_above_itself (pair o.first v) (subst (λ (u : Value). is_less (compare (encode (pair o.first v)) (encode u)) ≡ true) high
      (subst (λ (u : Value). is_less (compare (encode u) (encode (pair t.upper w))) ≡ true) low t.above))

  its_image : {z : Value} → Images a vs (cons z nil) → z ≡ v
  its_image {z = z} i =
      let r = found_among i in
      let q = o.only r.0 z r.1.1 r.1.0 in
      cc

  only_image : Images a vs (cons v nil)
  only_image = go (pairs_or_not a vs)
    where
      go : PairsOrNot a vs → Images a vs (cons v nil)
      go (inl s) = absurd (pairs_only o.pairs s)
      go (inr (nil, i)) = absurd (none_other i o.member o.argument)
      go (inr (cons z nil, i)) = subst (λ (w : Value). Images a vs (cons w nil)) (its_image i) i
      go (inr (cons z (cons w ws), i)) = absurd (not_two i)

-- ---- the node, both operands having values
gives_one : {A : Type 0} {m : Outcome A} {a b : A} → Gives m a → Gives m b → a ≡ b
gives_one gave gave = refl

module _ (n : ℕ) (f a : Expr) (scope : Environment) {vs : Values} {y : Value} (hf : Gives (eval_expr f scope) (set vs)) (ha : Gives (eval_expr a scope) y) where
  from_node : {v : Value} {t : List Event} → Works (application n f a) scope t (gives v) → Images y vs (cons v nil)
  from_node {v = v} (Listing.applied {vs = us} {y = x} h k i (Listing.entered l)) =
      let q : us ≡ vs = set_members (gives_one (value_comes f _ h) hf) in
      subst (λ (x : Value). Images x vs (cons v nil)) (gives_one (value_comes a _ k) ha) (subst (λ (us : Values). Images x us (cons v nil)) q i)
    where
      set_members : {us vs : Values} → set us ≡ set vs → us ≡ vs
      set_members e = cc

  to_node : {v : Value} → Images y vs (cons v nil) → Gives (eval_expr (application n f a) scope) v
  to_node i =
      let h = value_said f scope hf in
      let k = value_said a scope ha in
      let short = value_short h.1 in
      let fits = applied_words i in
      value_comes (application n f a) scope (Listing.applied h.1 k.1 i (Listing.entered (omega arith)))

-- "an application has a value only where the relation pairs the argument with exactly one result", and there it has that value
pub application_value : (size : ℕ → ℕ) (n : ℕ) (f a : Expr) (scope : Environment) (vs : Values) (y v : Value) → Gives (eval_expr f scope) (set vs) → Gives (eval_expr a scope) y → well_formed size (set vs) ≡ true
    → Gives (eval_expr (application n f a) scope) v ↔ OnlyPair y vs v
unfolding well_formed
application_value size n f a scope vs y v hf ha w = (
  λ g. only_from (from_node n f a scope hf ha (value_said (application n f a) scope g).1),
  λ o. to_node n f a scope hf ha (only_image y v vs (and_right (all_well_formed size vs) _ w) o),
)

-- two results for the argument are 52, whichever is the lower
pub two_results : (n : ℕ) (f a : Expr) (scope : Environment) (vs : Values) (y x z u w : Value) → Gives (eval_expr f scope) (set vs) → Gives (eval_expr a scope) y
    → AllPairs vs → Among (pair x z) vs → same_value x y ≡ true → Among (pair u w) vs → same_value u y ≡ true → (pair x z ≡ pair u w → ⊥)
    → Stops (eval_expr (application n f a) scope) 52 n
unfolding count
two_results n f a scope vs y x z u w hf ha p m s k t d = go (pairs_or_not y vs)
  where
    go : PairsOrNot y vs → Stops (eval_expr (application n f a) scope) 52 n
    go (inl q) = absurd (pairs_only p q)
    go (inr (nil, i)) = absurd (none_other i m s)
    go (inr (cons v nil, i)) = let o = only_from i in absurd (d (o.only x z m s ∙ sym (o.only u w k t)))
    go (inr (cons v (cons v' zs), i)) =
        value_stops (application n f a) scope (Listing.not_one (value_said f scope hf).1 (value_said a scope ha).1 i (λ e. omega arith))
