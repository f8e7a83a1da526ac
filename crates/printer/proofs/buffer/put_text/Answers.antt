use mathlib.Core.Path.{sym, ap, ◌∙◌}
use Prim.Native.Nat.{ℕ}
use native.Mathlib.Numerals.{add-one}
use lib.ListN.{take}
use lib.Seq.{take-suc}
use Rattle.printer.proofs.PutLaws.{put_then, put_text}
use Rattle.printer.proofs.buffer.put_text.Goals as goal

pub loop-byte-preserved : goal.loop-byte-preserved
loop-byte-preserved c =
    let text = c.args.text.now in
    let next = sym (take-suc text c.loop-byte.byte-index 0 c.loop-byte-test.true) ∙ ap (λ (k : ℕ). take k text) (sym (add-one c.loop-byte.byte-index)) in
    put_text next (put_then c.loop-byte.invariant c.put_byte-end.ensures)
