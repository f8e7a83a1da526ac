-- Bytes put into a buffer from a position on.
use Rattle.std.specs.Prelude.{◌≡◌, List, ℕ, ◌+◌, min, length}
use Rattle.std.proofs.lemmas.List.Edits.{sets}

-- A text put into a buffer from `at` on: what there is no room for is left out. `next` is the position after it, at most the buffer's end.
pub record Put (text before : List ℕ) (at : ℕ) (after : List ℕ) (next : ℕ) : Type 0 where
  pub bytes : after ≡ sets before at text
  pub position : next ≡ min (at + length text) (length before)
