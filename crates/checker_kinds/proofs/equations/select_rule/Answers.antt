use Rattle.checker_kinds.proofs.Answering.{derived_refused}
use Rattle.checker_kinds.proofs.Selecting.{select_reads, looking, select_absent, select_cell, entering, select_settled}
use native.Mathlib.Omega.{arith}
use Rattle.checker_kinds.proofs.equations.select_rule.Goals as goal

pub finite-requires : goal.finite-requires
finite-requires c = select_reads _ _ _ _ _ _ c.requires

pub component-v-requires : goal.component-v-requires
component-v-requires c = looking _ _ _ _ _ _ _ c.finite.ensures c.requires

pub returns-then-v-eq0 : goal.returns-then-v-eq0
returns-then-v-eq0 c = derived_refused (λ z. omega arith) (select_absent _ _ _ _ _ _ _ c.finite.ensures c.requires _ _ c.component-v.ensures c.if-v-eq0.true)

pub overflow_sub-result : goal.overflow_sub-result
overflow_sub-result c = omega (arith, c.if-v-eq0.false)

pub returns-then-v-lt-SETTLED : goal.returns-then-v-lt-SETTLED
returns-then-v-lt-SETTLED c = record { is = select_cell _ _ _ _ _ _ _ c.finite.ensures c.requires _ _ c.component-v.ensures _ (let e = c.if-v-eq0.false in omega arith) c.if-v-lt-SETTLED.true }

pub new_settled-requires : goal.new_settled-requires
new_settled-requires c = entering _ _ _ _ _ _ _ c.finite.ensures c.requires _ _ c.component-v.ensures (let e = c.if-v-lt-SETTLED.false in omega arith)

pub overflow_add-result : goal.overflow_add-result
overflow_add-result c = let r = c.requires.room.cells in omega arith

pub returns : goal.returns
returns c = record { is = select_settled _ _ _ _ _ _ _ c.finite.ensures c.requires _ _ c.component-v.ensures (let e = c.if-v-lt-SETTLED.false in omega arith) _ c.new_settled.ensures _ (omega arith) }
