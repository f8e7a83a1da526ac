use mathlib.Core.Path.{ap}
use mathlib.Core.List.{List, [], ◌∷◌}
use Prim.Native.Nat.{ℕ}
use Rattle.printer_rules.specs.Lines.{accepted_bytes, spaced}
use Rattle.printer_rules.proofs.LineLaws.{accepted_parts}
use Rattle.printer.proofs.PutLaws.{put_then, put_text}
use Rattle.printer.proofs.lines.put_accepted.Goals as goal

pub returns : goal.returns
unfolding accepted_bytes
returns c =
    let number : ℕ → List ℕ = λ n. spaced (n ∷ []) in
    let size = put_text (ap number c.dictionary_size.ensures) c.put_spaced-size.ensures in
    let count = put_text (ap number c.word.ensures.0) c.put_spaced-count.ensures in
    let lines = put_then c.put_byte-line.ensures c.put_entries.ensures in
    put_text (accepted_parts _) (put_then c.put_text-accepted.ensures (put_then size (put_then count lines)))
