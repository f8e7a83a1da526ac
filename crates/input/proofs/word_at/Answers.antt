use native.Mathlib.Omega.{arith}
use Rattle.input.specs.Input.{word_at}
use Rattle.input.proofs.word_at.Goals as goal

pub returns : goal.returns
unfolding word_at
returns c = omega (arith, c.from_le_bytes.ensures)
