use mathlib.Core.Path.{◌≡◌, sym, subst, ◌∙◌}
use Prim.Native.Nat.{ℕ, ◌/◌, ◌≤◌}
use native.Mathlib.Omega.{arith}
use lib.ListN.{length, take, length-take}
use Rattle.input.proofs.Laws.{words_room}
use Rattle.zrun.proofs.take_file.Goals as goal

pub returns-then-take_words : goal.returns-then-take_words
returns-then-take_words g c =
    let area = c.args.area.now in
    let n = c.in_ok-n.n in
    let bytes = take n c.read_bytes.new.bytes in
    let k : n ≡ length bytes = omega (arith, c.in_ok-n.ensures, c.read_bytes.auto.bytes, length-take n c.read_bytes.new.bytes) in
    subst (λ (m : ℕ). m / 4 ≤ length area) (sym k) (words_room bytes (length area) (sym c.take_words.ensures.value ∙ c.if-take_words.true))
