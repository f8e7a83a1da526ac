use mathlib.Core.Path.{sym, ◌∙◌}
use Rattle.types_cells.proofs.Reading.{heap_low, heap_high}
use Rattle.types_cells.proofs.type_words.type_word.Goals as goal

pub returns-then-p-lt-POOL : goal.returns-then-p-lt-POOL
returns-then-p-lt-POOL c = (c.word.ensures.0 ∙ sym (heap_low _ _ _ c.requires c.if-p-lt-POOL.true), c.word.ensures.1)

pub returns : goal.returns
returns c = (c.word-2.ensures.0 ∙ sym (heap_high _ _ _ c.requires c.if-p-lt-POOL.false), c.word-2.ensures.1)
