-- Laws of what may be said of an outcome: one for each way to put outcomes together.
use mathlib.Core.List.{List, [], ◌∷◌, ◌++◌}
use mathlib.Core.Bool.{Bool, true, false}
use Prim.Native.Nat.{ℕ}
use Rattle.values.specs.Value.{Value}
use Rattle.evaluator_rules.specs.Outcomes.{Event, Outcome, after, ◌>>=◌, pure, stop}
use Rattle.evaluator_rules.specs.Claims.{Listed, empty, entry, Good, finished, ceased}

listed_append : {E : ℕ → Value → Type 0} {t u : List Event} → Listed E t → Listed E u → Listed E (t ++ u)
listed_append empty q = q
listed_append (entry e p) q = entry e (listed_append p q)

module _ {E : ℕ → Value → Type 0} {S : ℕ → ℕ → Type 0} where
  after_good : {A : Type 0} {P : A → Type 0} {t : List Event} {m : Outcome A} → Listed E t → Good E S P m → Good E S P (after t m)
  unfolding after
  after_good p (finished q a) = finished (listed_append p q) a
  after_good p (ceased q s) = ceased (listed_append p q) s

  pub bind_good : {A B : Type 0} {P : A → Type 0} {Q : B → Type 0} {m : Outcome A} {f : A → Outcome B} → Good E S P m → ((a : A) → P a → Good E S Q (f a)) → Good E S Q (m >>= f)
  unfolding ◌>>=◌
  bind_good (finished {a = a} p h) k = after_good p (k a h)
  bind_good (ceased p s) k = ceased p s

  pub pure_good : {A : Type 0} {P : A → Type 0} {a : A} → P a → Good E S P (pure a)
  pure_good h = finished empty h

  pub stop_good : {A : Type 0} {P : A → Type 0} {number node : ℕ} → S number node → Good E S P (stop number node)
  stop_good s = ceased empty s

  pub choose_good : {A : Type 0} {P : A → Type 0} (b : Bool) {x y : Outcome A} → Good E S P x → Good E S P y → Good E S P (elim b [ true ↦ x | false ↦ y ])
  choose_good true p q = p
  choose_good false p q = q
