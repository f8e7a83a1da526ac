-- What working something out gives: the list of values worked out on the way, and an outcome or a stop by a finding's number at a node
-- (document 01, "Beside the finding the evaluation rules give a list"; R28).
use Rattle.std.specs.Prelude.{List, [], ◌∷◌, ◌++◌, Bool, true, false, ℕ, leb}
use Rattle.values.specs.Value.{Value}
use Rattle.evaluator_rules.specs.WordCount.{word_count}

-- an expression's node was worked out to a value
pub data Event : Type 0 where
  worked : ℕ → Value → Event

pub data Outcome (A : Type 0) : Type 0 where
  done : List Event → A → Outcome A
  stopped : List Event → ℕ → ℕ → Outcome A

unfoldable pub after : {A : Type 0} → List Event → Outcome A → Outcome A
after t (done u a) = done (t ++ u) a
after t (stopped u number node) = stopped (t ++ u) number node

-- evaluation stops at the first trouble
infixl 20 ◌>>=◌
unfoldable pub ◌>>=◌ : {A B : Type 0} → Outcome A → (A → Outcome B) → Outcome B
◌>>=◌ (done t a) f = after t (f a)
◌>>=◌ (stopped t number node) f = stopped t number node

abbrev pub pure : {A : Type 0} → A → Outcome A
pure a = done [] a

abbrev pub stop : {A : Type 0} → ℕ → ℕ → Outcome A
stop number node = stopped [] number node

-- 55: a value over 64 words. Otherwise node n is worked out, and its value is listed once it is complete (R28).
unfoldable pub keep_if : Bool → ℕ → Value → Outcome Value
keep_if true n v = done (worked n v ∷ []) v
keep_if false n v = stop 55 n

unfoldable pub keep : ℕ → Value → Outcome Value
keep n v = keep_if (leb (word_count v) 64) n v
