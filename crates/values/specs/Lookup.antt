-- A name's value: its words lie in the state or in the work area.
use Rattle.std.specs.Prelude.{ℕ, Bool, cond, List, take, drop}

unfoldable pub value_at : List ℕ → List ℕ → Bool → ℕ → ℕ → List ℕ
value_at state work in_state at len = cond in_state (take len (drop at state)) (take len (drop at work))
