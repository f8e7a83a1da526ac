-- An outcome is said by the sentences of the list (specs/Listing): one law for each way to put outcomes together.
use mathlib.Core.Path.{◌≡◌, refl, sym, subst}
use mathlib.Core.List.{List, [], ◌∷◌, ◌++◌}
use mathlib.Core.Bool.{Bool, true, false}
use Prim.Native.Nat.{ℕ, ◌≤◌, ◌<◌}
use native.Mathlib.Omega.{arith}
use lib.IntN.{ℤ}
use lib.Dec.{leb}
use borrow.Author.Tests.{leb-true, leb-false}
use Rattle.values.specs.Value.{Value, int, element, Values, nil, cons}
use Rattle.values.specs.Value as Value
use Rattle.values.specs.SetValues.{insert_value}
use Rattle.reader_rules.specs.Tree.{Pred}
use Rattle.evaluator_rules.specs.WordCount.{word_count}
use Rattle.evaluator_rules.specs.Outcomes.{Event, Outcome, done, stopped, after, ◌>>=◌, pure, stop, keep_if, keep}
use Rattle.evaluator_rules.specs.Operations.{as_integer, as_set, as_sets, as_tuple, add_if, add}
use Rattle.evaluator_rules.specs.Assignments.{Flow, go, Body, next}
use Rattle.evaluator_rules.specs.Rules.{eval_pred}
use Rattle.evaluator_rules.specs.Listing.{Result, gives, stops, NoInteger, NoSet, NoTuple, SomeNoSet, this_no_set, later_no_set, AllSets, no_sets, one_set, Enters, entered, too_long}
use Rattle.evaluator_rules.proofs.Assignments.{after_nil, bind_assoc, next_go}

pub data Says {A : Type 0} (R : List Event → Result A → Type 0) : Outcome A → Type 0 where
  finished : {t : List Event} {a : A} → R t (gives a) → Says R (done t a)
  ceased : {t : List Event} {w m : ℕ} → R t (stops w m) → Says R (stopped t w m)

pub pure_says : {A : Type 0} {R : List Event → Result A → Type 0} {a : A} → R [] (gives a) → Says R (pure a)
pure_says h = finished h

pub stop_says : {A : Type 0} {R : List Event → Result A → Type 0} {w m : ℕ} → R [] (stops w m) → Says R (stop w m)
stop_says h = ceased h

after_says : {A : Type 0} {Q : List Event → Result A → Type 0} (t : List Event) {o : Outcome A} → Says (λ u r. Q (t ++ u) r) o → Says Q (after t o)
unfolding after
after_says t (finished h) = finished h
after_says t (ceased h) = ceased h

pub bind_says : {A B : Type 0} {R : List Event → Result A → Type 0} {Q : List Event → Result B → Type 0} {o : Outcome A} {f : A → Outcome B}
    → Says R o → ((t : List Event) (a : A) → R t (gives a) → Says (λ u r. Q (t ++ u) r) (f a)) → ((t : List Event) (w m : ℕ) → R t (stops w m) → Q t (stops w m)) → Says Q (o >>= f)
unfolding ◌>>=◌
bind_says (finished {t = t} {a = a} h) k s = after_says t (k t a h)
bind_says (ceased {t = t} {w = w} {m = m} h) k s = ceased (s t w m h)

pub truth_says : {B : Type 0} {R : List Event → Result Bool → Type 0} {Q : List Event → Result B → Type 0} {o : Outcome Bool} (f : Bool → Outcome B)
    → Says R o → ((t : List Event) → R t (gives true) → Says (λ u r. Q (t ++ u) r) (f true)) → ((t : List Event) → R t (gives false) → Says (λ u r. Q (t ++ u) r) (f false))
    → ((t : List Event) (w m : ℕ) → R t (stops w m) → Q t (stops w m)) → Says Q (o >>= f)
unfolding ◌>>=◌
truth_says f (finished {t = t} {a = true} h) k l s = after_says t (k t h)
truth_says f (finished {t = t} {a = false} h) k l s = after_says t (l t h)
truth_says f (ceased {t = t} {w = w} {m = m} h) k l s = ceased (s t w m h)

pub other_says : {A : Type 0} {R Q : List Event → Result A → Type 0} {o : Outcome A} → Says R o → ((t : List Event) (r : Result A) → R t r → Q t r) → Says Q o
other_says (finished {t = t} {a = a} h) k = finished (k t (gives a) h)
other_says (ceased {t = t} {w = w} {m = m} h) k = ceased (k t (stops w m) h)

pub assoc_says : {A B C : Type 0} {Q : List Event → Result C → Type 0} (o : Outcome A) (f : A → Outcome B) (g : B → Outcome C) → Says Q (o >>= λ a. f a >>= g) → Says Q ((o >>= f) >>= g)
assoc_says {Q = Q} o f g h = subst (λ (x : Outcome _). Says Q x) (sym (bind_assoc o f g)) h

-- a step with no list of its own
pub silent_says : {A B : Type 0} {Q : List Event → Result B → Type 0} (a : A) (f : A → Outcome B) → Says Q (f a) → Says Q (pure a >>= f)
unfolding ◌>>=◌
silent_says {Q = Q} a f h = subst (λ (x : Outcome _). Says Q x) (sym (after_nil (f a))) h

pub go_says : {Q : List Event → Result Flow → Type 0} (s : Values) (f : Values → Outcome Flow) → Says Q (f s) → Says Q (pure (go s) >>= next f)
go_says {Q = Q} s f h = subst (λ (x : Outcome Flow). Says Q x) (sym (next_go s f)) h

pub keep_says : (n : ℕ) (v : Value) {Q : List Event → Result Value → Type 0} → ((t : List Event) (r : Result Value) → Enters n v t r → Q t r) → Says Q (keep n v)
unfolding keep keep_if
keep_says n v {Q = Q} k = either (leb (word_count v) 64) refl
  where
    either : (b : Bool) → leb (word_count v) 64 ≡ b → Says Q (keep_if b n v)
    either true e = finished (k _ _ (entered (leb-true (word_count v) 64 e)))
    either false e = ceased (k _ _ (too_long (leb-false (word_count v) 64 e)))

pub integer_says : {B : Type 0} (n : ℕ) (v : Value) {Q : List Event → Result B → Type 0} (f : ℤ → Outcome B) → ((z : ℤ) → v ≡ int z → Says Q (f z)) → (NoInteger v → Q [] (stops 51 n)) → Says Q (as_integer n v >>= f)
unfolding as_integer ◌>>=◌
integer_says n (int z) f k s = silent_says z f (k z refl)
integer_says n (element g i) f k s = ceased (s (λ z e. let x : ◌≡◌ {A = ℕ} 0 1 = cc in omega arith))
integer_says n (Value.set vs) f k s = ceased (s (λ z e. let x : ◌≡◌ {A = ℕ} 0 1 = cc in omega arith))
integer_says n (Value.tuple vs) f k s = ceased (s (λ z e. let x : ◌≡◌ {A = ℕ} 0 1 = cc in omega arith))

pub set_says : {B : Type 0} (n : ℕ) (v : Value) {Q : List Event → Result B → Type 0} (f : Values → Outcome B) → ((vs : Values) → v ≡ Value.set vs → Says Q (f vs)) → (NoSet v → Q [] (stops 51 n)) → Says Q (as_set n v >>= f)
unfolding as_set ◌>>=◌
set_says n (int z) f k s = ceased (s (λ vs e. let x : ◌≡◌ {A = ℕ} 0 1 = cc in omega arith))
set_says n (element g i) f k s = ceased (s (λ vs e. let x : ◌≡◌ {A = ℕ} 0 1 = cc in omega arith))
set_says n (Value.set vs) f k s = silent_says vs f (k vs refl)
set_says n (Value.tuple vs) f k s = ceased (s (λ vs e. let x : ◌≡◌ {A = ℕ} 0 1 = cc in omega arith))

pub tuple_says : {B : Type 0} (n : ℕ) (v : Value) {Q : List Event → Result B → Type 0} (f : Values → Outcome B) → ((vs : Values) → v ≡ Value.tuple vs → Says Q (f vs)) → (NoTuple v → Q [] (stops 51 n)) → Says Q (as_tuple n v >>= f)
unfolding as_tuple ◌>>=◌
tuple_says n (int z) f k s = ceased (s (λ vs e. let x : ◌≡◌ {A = ℕ} 0 1 = cc in omega arith))
tuple_says n (element g i) f k s = ceased (s (λ vs e. let x : ◌≡◌ {A = ℕ} 0 1 = cc in omega arith))
tuple_says n (Value.set vs) f k s = ceased (s (λ vs e. let x : ◌≡◌ {A = ℕ} 0 1 = cc in omega arith))
tuple_says n (Value.tuple vs) f k s = silent_says vs f (k vs refl)

-- a Product's operands, which must all be sets
pub sets_say : {B : Type 0} (n : ℕ) (vs : Values) {Q : List Event → Result B → Type 0} (f : List Values → Outcome B) → ((vss : List Values) → AllSets vs vss → Says Q (f vss)) → (SomeNoSet vs → Q [] (stops 51 n)) → Says Q (as_sets n vs >>= f)
unfolding as_sets
sets_say n nil f k s = silent_says [] f (k [] no_sets)
sets_say n (cons v vs) f k s =
    assoc_says _ _ _
    (set_says n v _
    (λ ws e. assoc_says _ _ _ (sets_say n vs _ (λ wss h. silent_says (ws ∷ wss) f (k (ws ∷ wss) (rw e (one_set h)))) (λ d. s (later_no_set d))))
    (λ d. s (this_no_set d)))

pub add_says : {B : Type 0} (n : ℕ) (v : Value) (s : Values) {Q : List Event → Result B → Type 0} (f : Values → Outcome B)
    → (word_count (Value.set (insert_value v s)) ≤ 64 → Says Q (f (insert_value v s))) → (64 < word_count (Value.set (insert_value v s)) → Q [] (stops 55 n)) → Says Q (add n v s >>= f)
unfolding add add_if ◌>>=◌
add_says n v s {Q = Q} f k l = either (leb (word_count (Value.set (insert_value v s))) 64) refl
  where
    either : (b : Bool) → leb (word_count (Value.set (insert_value v s))) 64 ≡ b → Says Q (add_if b n (insert_value v s) >>= f)
    either true e = silent_says (insert_value v s) f (k (leb-true _ 64 e))
    either false e = ceased (l (leb-false _ 64 e))

-- a Text's predicate lets the body run
abbrev pub filtered : Pred → Body → Body
filtered p body scope s = eval_pred p scope >>= λ b. elim b [ true ↦ body scope s | false ↦ pure (go s) ]

abbrev pub mapped : {A B : Type 0} → (A → B) → Result A → Result B
mapped f (gives a) = gives (f a)
mapped f (stops w m) = stops w m
