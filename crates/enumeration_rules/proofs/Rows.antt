-- What is shown once of rows, for choices and for picks: what holds of every row, and that rows ascend where the members do.
use mathlib.Core.Path.{◌≡◌, refl}
use mathlib.Core.Bool.{true, false≢true}
use mathlib.Core.List.{List, [], ◌∷◌, ◌++◌}
use Prim.Native.Nat.{ℕ, ◌<◌, ◌^◌}
use native.Mathlib.Omega.{arith}
use lib.ListN.{length, length-append}
use Rattle.words.proofs.Loops.{and_left, and_right}
use Rattle.values.specs.Order.{or_else, compare, is_less}
use Rattle.values.specs.Value.{Value, Values, nil, cons, encode, encodes}
use Rattle.values.specs.WellFormed.{ascends, well_formed, all_well_formed}
use Rattle.std.specs.declared.cmp.Ordering.{Ordering}
use Rattle.std.specs.declared.cmp.Ordering.TheVariants.{Less, Equal, Greater}
use Rattle.values.proofs.Equality.{compare_refl}
use Rattle.values.proofs.Unique.{both}
use Rattle.enumeration_rules.specs.Enumeration.{before, rows, each}
use Rattle.values.proofs.WordOrder.{less_trans, word_itself}
use Rattle.values.proofs.Joined.{value_join}

-- ---- lists of rows, and values

pub data All (P : Values → Type 0) : List Values → Type 0 where
  none : All P []
  also : {r : Values} {rs : List Values} → P r → All P rs → All P (r ∷ rs)

pub data Members (P : Value → Type 0) : Values → Type 0 where
  nobody : Members P nil
  member : {v : Value} {vs : Values} → P v → Members P vs → Members P (cons v vs)

-- each row stands in R to every later one
pub data Rising (R : Values → Values → Type 0) : List Values → Type 0 where
  flat : Rising R []
  step : {r : Values} {rs : List Values} → All (R r) rs → Rising R rs → Rising R (r ∷ rs)

pub all_append : {P : Values → Type 0} {xs ys : List Values} → All P xs → All P ys → All P (xs ++ ys)
all_append none k = k
all_append (also p h) k = also p (all_append h k)

pub all_map : {P Q : Values → Type 0} {xs : List Values} → ((r : Values) → P r → Q r) → All P xs → All Q xs
all_map f none = none
all_map f (also {r} p h) = also (f r p) (all_map f h)

pub all_before : {P Q : Values → Type 0} (v : Value) {xs : List Values} → ((r : Values) → P r → Q (cons v r)) → All P xs → All Q (before v xs)
unfolding before
all_before v f none = none
all_before v f (also {r} p h) = also (f r p) (all_before v f h)

before_any : {Q : Values → Type 0} (v : Value) → ((r : Values) → Q (cons v r)) → (xs : List Values) → All Q (before v xs)
unfolding before
before_any v f [] = none
before_any v f (r ∷ rs) = also (f r) (before_any v f rs)

pub members_map : {P Q : Value → Type 0} {vs : Values} → ((v : Value) → P v → Q v) → Members P vs → Members Q vs
members_map f nobody = nobody
members_map f (member {v} p h) = member (f v p) (members_map f h)

pub anybody : (vs : Values) → Members (λ v. Unit {0}) vs
anybody nil = nobody
anybody (cons v vs) = member tt (anybody vs)

pub rising_append : {R : Values → Values → Type 0} {xs ys : List Values} → Rising R xs → Rising R ys → All (λ r. All (R r) ys) xs → Rising R (xs ++ ys)
rising_append flat k c = k
rising_append (step a h) k (also b c) = step (all_append a b) (rising_append h k c)

-- another relation, where rows are known to be P
pub rising_map : {R S : Values → Values → Type 0} {P : Values → Type 0} {xs : List Values} →
    ((r s : Values) → P r → P s → R r s → S r s) → All P xs → Rising R xs → Rising S xs
rising_map f none flat = flat
rising_map {R} {S} {P} f (also {r} p h) (step a k) = step (go a h) (rising_map f h k)
  where
    go : {ys : List Values} → All (R r) ys → All P ys → All (S r) ys
    go none none = none
    go (also {r = s} q t) (also o u) = also (f r s p o q) (go t u)

-- ---- every row

-- what a member and a row after it give, every row has; `more` may be asked of members like these only
pub rows_all : {M : Value → Type 0} {P Q : Values → Type 0} (more : Values → List Values) → ((v : Value) (r : Values) → M v → P r → Q (cons v r)) →
    ((us : Values) → Members M us → All P (more us)) → {vs : Values} → Members M vs → All Q (rows vs more)
unfolding rows
rows_all more f g nobody = none
rows_all more f g (member {v} {vs} m h) = all_append (all_before v (λ r p. f v r m p) (g vs h)) (rows_all more f g h)

-- ---- ascending

abbrev pub Short : Value → Type 0
Short v = length (encode v) < 2 ^ 32

abbrev pub Below : List ℕ → Value → Type 0
Below p w = is_less (compare p (encode w)) ≡ true

-- rows by their members' words
abbrev pub Lower : Values → Values → Type 0
Lower r s = is_less (compare (encodes r) (encodes s)) ≡ true

-- members that ascend, each below all that follow it
pub data Up : Values → Type 0 where
  up_none : Up nil
  up_more : {v : Value} {vs : Values} → Short v → Members (Below (encode v)) vs → Up vs → Up (cons v vs)

pub ascends_below : (p : List ℕ) (vs : Values) → ascends p vs ≡ true → Members (Below p) vs
unfolding ascends
ascends_below p nil h = nobody
ascends_below p (cons v vs) h =
    let a = and_left (is_less (compare p (encode v))) _ h in
    member a (members_map (λ w b. less_trans p (encode v) (encode w) a b) (ascends_below (encode v) vs (and_right (is_less (compare p (encode v))) _ h)))

pub ascends_up : (p : List ℕ) (vs : Values) → length (encodes vs) < 2 ^ 32 → ascends p vs ≡ true → Up vs
unfolding ascends encode
ascends_up p nil l h = up_none
ascends_up p (cons v vs) l h =
    let e = length-append (encode v) (encodes vs) in
    let a = and_right (is_less (compare p (encode v))) _ h in
    up_more {v = v} (omega arith) (ascends_below (encode v) vs a) (ascends_up (encode v) vs (omega arith) a)

less_first : (o p : Ordering) → is_less o ≡ true → is_less (or_else o p) ≡ true
unfolding is_less or_else
less_first Less p h = h
less_first Equal p h = absurd (false≢true h)
less_first Greater p h = h

-- after one member, by what follows; else by the members
lower_after : (v : Value) (r s : Values) → Short v → Lower r s → Lower (cons v r) (cons v s)
unfolding encode or_else
lower_after v r s h l = rw (value_join v v (encodes r) (encodes s) h h, compare_refl (encode v)) l

lower_first : (v w : Value) (r s : Values) → Short v → Short w → Below (encode v) w → Lower (cons v r) (cons w s)
unfolding encode
lower_first v w r s h k l = rw (value_join v w (encodes r) (encodes s) h k) (less_first (compare (encode v) (encode w)) (compare (encodes r) (encodes s)) l)

before_rising : (v : Value) {xs : List Values} → Short v → Rising Lower xs → Rising Lower (before v xs)
unfolding before
before_rising v h flat = flat
before_rising v h (step {r} a k) = step (all_before v (λ s l. lower_after v r s h l) a) (before_rising v h k)

rows_above : (v : Value) (r : Values) (more : Values → List Values) → Short v → {us : Values} → Up us → Members (Below (encode v)) us → All (Lower (cons v r)) (rows us more)
unfolding rows
rows_above v r more h up_none nobody = none
rows_above v r more h (up_more {v = w} {vs = us} k a u) (member b m) =
    all_append (before_any w (λ s. lower_first v w r s h k b) (more us)) (rows_above v r more h u m)

pub rows_rising : (more : Values → List Values) → ((us : Values) → Up us → Rising Lower (more us)) → {vs : Values} → Up vs → Rising Lower (rows vs more)
unfolding rows
rows_rising more f up_none = flat
rows_rising more f (up_more {v} {vs} h a u) =
    rising_append (before_rising v h (f vs u)) (rows_rising more f u) (before_any v (λ r. rows_above v r more h u a) (more vs))

-- ---- the values that rows are made into

pub each_ascends : (f : Values → Value) (p : List ℕ) {xs : List Values} → All (λ r. Below p (f r)) xs → Rising (λ r s. Below (encode (f r)) (f s)) xs → ascends p (each f xs) ≡ true
unfolding each ascends
each_ascends f p none flat = refl
each_ascends f p (also {r} h hs) (step a k) = both (is_less (compare p (encode (f r)))) _ h (each_ascends f (encode (f r)) a k)

module _ (size : ℕ → ℕ) where
  pub formed_members : (vs : Values) → all_well_formed size vs ≡ true → Members (λ v. well_formed size v ≡ true) vs
  unfolding well_formed
  formed_members nil h = nobody
  formed_members (cons v vs) h = member (and_left (well_formed size v) _ h) (formed_members vs (and_right (well_formed size v) _ h))

  pub each_formed : (f : Values → Value) {xs : List Values} → All (λ r. well_formed size (f r) ≡ true) xs → all_well_formed size (each f xs) ≡ true
  unfolding each well_formed
  each_formed f none = refl
  each_formed f (also {r} p h) = both (well_formed size (f r)) _ p (each_formed f h)

  pub one_more : (v : Value) (r : Values) → well_formed size v ≡ true → all_well_formed size r ≡ true → all_well_formed size (cons v r) ≡ true
  unfolding well_formed
  one_more v r p h = both (well_formed size v) _ p h

-- ---- the words of a set or a tuple: a tag, a count, and the row's words

pub headed : (t n : ℕ) (a b : List ℕ) → compare (t ∷ n ∷ a) (t ∷ n ∷ b) ≡ compare a b
unfolding compare or_else
headed t n a b = rw (word_itself t, word_itself n)
