use Rattle.checker_closing.specs.Actuals.{refused, fits}
use mathlib.Core.Path.{refl}
use Rattle.checker_closing.proofs.actual.placed.Goals as goal

pub returns-in-Ok : goal.returns-in-Ok
returns-in-Ok c = fits 0 c.in-Ok.e.size c.in-Ok.e.end c.in-Ok.ensures refl c.store.ensures c.lined_at.ensures

pub returns-in-Err : goal.returns-in-Err
returns-in-Err c = refused c.in-Err.number 0 0 (c.in-Err.ensures.1 (record { size = 0; end = 0 })) c.in-Err.ensures.0 refl c.lined_at-in-Err.ensures
