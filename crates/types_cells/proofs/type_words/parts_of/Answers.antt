use mathlib.Core.Path.{sym, ◌∙◌}
use native.Mathlib.Omega.{arith}
use Rattle.types_cells.proofs.Reading.{parts_3, parts_4, parts_5, parts_else}
use Rattle.types_cells.proofs.type_words.parts_of.Goals as goal

pub returns-then-t-eq-POWER : goal.returns-then-t-eq-POWER
returns-then-t-eq-POWER c = (sym (parts_3 _ _ c.if-t-eq-POWER.true), omega arith)

pub returns-then-t-eq-PRODUCT : goal.returns-then-t-eq-PRODUCT
returns-then-t-eq-PRODUCT c = (c.type_word.ensures.0 ∙ sym (parts_4 _ _ c.if-t-eq-PRODUCT.true), c.type_word.ensures.1)

pub returns-then-t-eq-BINDING : goal.returns-then-t-eq-BINDING
returns-then-t-eq-BINDING c = (c.type_word-then-t-eq-BINDING.ensures.0 ∙ sym (parts_5 _ _ c.if-t-eq-BINDING.true), c.type_word-then-t-eq-BINDING.ensures.1)

pub returns : goal.returns
returns c = (sym (parts_else _ _ c.if-t-eq-POWER.false c.if-t-eq-PRODUCT.false c.if-t-eq-BINDING.false), omega arith)
