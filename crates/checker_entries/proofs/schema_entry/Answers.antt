use native.Mathlib.Omega.{arith}
use mathlib.Core.Path.{refl}
use Rattle.checker_entries.proofs.Writing.{parts_ready, schema_end, schema_wrote}
use Rattle.checker_entries.proofs.schema_entry.Goals as goal

pub put_parts-e-requires : goal.put_parts-e-requires
put_parts-e-requires c = parts_ready _ _ _ _ _ _ _ _ _ c.requires.0 c.requires.1 refl c.store.ensures c.store-2.ensures

pub overflow_sub-e : goal.overflow_sub-e
overflow_sub-e c = let y = schema_end _ _ _ _ _ _ _ _ _ c.requires.0 c.requires.1 refl c.store.ensures c.store-2.ensures _ _ c.put_parts-e.ensures in let z = y.0 in omega arith

pub overflow_sub-e-2 : goal.overflow_sub-e-2
overflow_sub-e-2 c = let y = schema_end _ _ _ _ _ _ _ _ _ c.requires.0 c.requires.1 refl c.store.ensures c.store-2.ensures _ _ c.put_parts-e.ensures in let z = y.0 in omega arith

pub put_head-requires : goal.put_head-requires
put_head-requires c = let y = schema_end _ _ _ _ _ _ _ _ _ c.requires.0 c.requires.1 refl c.store.ensures c.store-2.ensures _ _ c.put_parts-e.ensures in let z = y.1 in let p = c.requires in let n = p.0.near in (omega arith, omega arith, omega arith, p.2, p.3)

pub returns : goal.returns
returns c = schema_wrote _ _ _ _ _ _ _ _ _ c.requires.0 c.requires.1 refl c.store.ensures c.store-2.ensures _ _ c.put_parts-e.ensures _ _ _ _ refl c.put_head.ensures
