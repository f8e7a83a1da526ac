use Rattle.std.proofs.Common.{List, ℕ, ◌≡◌, ◌+◌, ◌-◌, length}
use Rattle.layout.specs.Layout.{count}
use Rattle.reader_rules.specs.Decode.{paragraphs_from}
use Rattle.reader_rules.specs.Refusals.{Finding}
use Rattle.checker_rules.specs.Dictionary.{Dictionary}
use Rattle.checker_lookup.specs.Scoped.{DictionaryHeld}
use Rattle.checker.specs.Answering.{ParagraphsAsk, Answered}
use Rattle.checker.proofs.paragraphs_from.Given as goal

-- What is answered to the paragraphs that are left is answered to all.
abbrev pub invariant-loop-j : goal.invariant-loop-j
invariant-loop-j l =
    (ParagraphsAsk l.doc l.a l.dict l.work l.j (l.i + l.m - l.j)) × (length l.dict ≡ length l.initial.dict)
    × ((d' : List ℕ) (r : Finding) → ((D : Dictionary) → DictionaryHeld D l.dict l.work → Answered (paragraphs_from l.doc (count l.doc) l.j (l.i + l.m - l.j)) D (length l.dict) d' r)
    → (D : Dictionary) → DictionaryHeld D l.initial.dict l.initial.work → Answered (paragraphs_from l.doc (count l.doc) l.i l.m) D (length l.initial.dict) d' r)
