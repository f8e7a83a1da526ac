use mathlib.Core.Path.{sym, subst}
use Rattle.types_rules.specs.Words.{words}
use Rattle.types_cells.specs.Settled.{heap}
use Rattle.types_solver.specs.Written.{Wrote}
use Rattle.types_instances.proofs.Rows.{none_stays}
use Rattle.types_instances.proofs.write_instance.Goals as goal

pub returns-then-row-eq0 : goal.returns-then-row-eq0
returns-then-row-eq0 c =
    let s = c.args in
    record {
      is = λ g hs R S.
          subst (λ z. Wrote s.out.now c.put_type.new.out s.at c.put_type.result (words z))
          (sym (none_stays (heap s.a.now s.d.now) s.row.now hs g c.if-row-eq0.true S))
          (c.put_type.ensures.is g R);
    }
