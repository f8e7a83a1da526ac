-- What a result tells of an outcome, one law for each way to put outcomes together.
use mathlib.Core.Path.{◌≡◌, refl}
use mathlib.Core.Bool.{Bool, true, false}
use mathlib.Core.List.{List, []}
use Prim.Native.Nat.{ℕ}
use Rattle.std.proofs.Common.{Result, Ok, Err}
use Rattle.std.specs.Result.{IsErrAnd}
use Rattle.std.proofs.lemmas.Result.{err_from_is_err_and}
use Rattle.values.specs.Value.{Value}
use Rattle.reader_rules.specs.declared.Refusal.{Refusal}
use Rattle.evaluator_rules.specs.Outcomes.{Event, Outcome, after, ◌>>=◌, pure, stop}
use Rattle.evaluator_operations.specs.Worked.{Told, fine, ceased, Stops}

pub after_told : {C A : Type 0} {R : C → A → Type 0} {r : Result C Refusal} (t : List Event) {o : Outcome A} → Told R r o → Told R r (after t o)
unfolding after
after_told t (fine h) = fine h
after_told t (ceased a b c) = ceased a b c

pub pure_told : {C A : Type 0} {R : C → A → Type 0} {b : C} {a : A} → R b a → Told R (Ok b) (pure a)
pure_told h = fine h

pub stop_told : {C A : Type 0} {R : C → A → Type 0} {f : Refusal} {n k : ℕ} → Stops f n k → (n ≡ 0 → ⊥) → Told R (Err f) (stop n k)
stop_told s z = ceased s.number s.place z

-- the first goes on, and the rest is told
pub go_told : {C D A B : Type 0} {R : C → A → Type 0} {Q : D → B → Type 0} {b : C} {s : Result D Refusal} {o : Outcome A} {f : A → Outcome B}
    → Told R (Ok b) o → ((a : A) → R b a → Told Q s (f a)) → Told Q s (o >>= f)
unfolding ◌>>=◌
go_told (fine {t} h) k = after_told t (k _ h)

-- the first stops
pub halt_told : {C D A B : Type 0} {R : C → A → Type 0} {Q : D → B → Type 0} {e : Refusal} {o : Outcome A} (f : A → Outcome B)
    → Told R (Err e) o → Told Q (Err e) (o >>= f)
unfolding ◌>>=◌
halt_told f (ceased a b c) = ceased a b c

pub stopped_told : {C D A : Type 0} {P : C → A → Type 0} {R : D → A → Type 0} {e : Refusal} {o : Outcome A} → Told P (Err e) o → Told R (Err e) o
stopped_told (ceased a b c) = ceased a b c

-- where a `?` ends a function
pub exit_told : {D A : Type 0} {R : D → A → Type 0} {r : Result D Refusal} {e : Refusal} {o : Outcome A} → IsErrAnd r (λ y. y ≡ e) → Told R (Err e) o → Told R r o
exit_told {r = r} h t = let p = err_from_is_err_and r h in rw (p.1, p.2) t

-- another value, of which more or less is said
pub fine_told : {C D A : Type 0} {P : C → A → Type 0} {R : D → A → Type 0} {b : C} {d : D} {o : Outcome A} → ((a : A) → P b a → R d a) → Told P (Ok b) o → Told R (Ok d) o
fine_told k (fine h) = fine (k _ h)

pub at_pure : {D A B : Type 0} {Q : D → B → Type 0} {r : Result D Refusal} (f : A → Outcome B) (a : A) → Told Q r (f a) → Told Q r (pure a >>= f)
unfolding ◌>>=◌
at_pure f a h = after_told [] h

pub at_stop : {D A B : Type 0} {Q : D → B → Type 0} {e : Refusal} {n k : ℕ} (f : A → Outcome B) → Stops e n k → (n ≡ 0 → ⊥) → Told Q (Err e) (stop n k >>= f)
unfolding ◌>>=◌
at_stop f s z = ceased s.number s.place z

-- two values, one after the other: the second stops, or the rest is told
module _ {C D E B : Type 0} {P : C → Value → Type 0} {R : D → Value → Type 0} {Q : E → B → Type 0} {b : C} {o p : Outcome Value} (a : Told P (Ok b) o) where
  pub second_told : {e : Refusal} → Told R (Err e) p → (f : Value → Value → Outcome B) → Told Q (Err e) (o >>= λ x. p >>= λ y. f x y)
  second_told q f = go_told a (λ x v. halt_told (f x) q)

  pub both_told : {d : D} {r : Result E Refusal} {f : Value → Value → Outcome B} → Told R (Ok d) p → ((x y : Value) → P b x → R d y → Told Q r (f x y)) → Told Q r (o >>= λ x. p >>= λ y. f x y)
  both_told q k = go_told a (λ x v. go_told q (λ y w. k x y v w))

-- a choice by a truth value
pub choose_told : {C A : Type 0} {R : C → A → Type 0} {r : Result C Refusal} (b : Bool) {x y : Outcome A} → (b ≡ true → Told R r x) → (b ≡ false → Told R r y)
    → Told R r (elim b [ true ↦ x | false ↦ y ])
choose_told true p q = p refl
choose_told false p q = q refl
