use mathlib.Core.Path.{sym}
use native.Mathlib.Omega.{arith}
use Rattle.types_cells.proofs.Reading.{name_5, name_else}
use Rattle.types_cells.proofs.type_words.name_words.Goals as goal

pub returns-then-t-eq-BINDING : goal.returns-then-t-eq-BINDING
returns-then-t-eq-BINDING c = (sym (name_5 _ c.if-t-eq-BINDING.true), omega arith)

pub returns : goal.returns
returns c = (sym (name_else _ c.if-t-eq-BINDING.false), omega arith)
