use Rattle.checker_closing.specs.Declarations.{untyped}
use mathlib.Core.Path.{refl}
use Rattle.checker_closing.proofs.declared.of_set.Goals as goal

pub typed-requires : goal.typed-requires
typed-requires c = c.requires.typing _ _ _ c.in-Ok.e.size _ c.in-Ok.ensures

pub lined_at-requires : goal.lined_at-requires
lined_at-requires c = (c.requires.typing c.element_type.new.a c.element_type.new.w c.in-Err.number 0 0 (c.in-Err.ensures.1 (record { size = 0; end = 0 }))).near

pub returns-in-Err : goal.returns-in-Err
returns-in-Err c = record {
  s₁ = c.element_type.new.a;
  w₁ = c.element_type.new.w;
  number = c.in-Err.number;
  size = 0;
  end = 0;
  element = c.in-Err.ensures.1 (record { size = 0; end = 0 });
  typed = untyped c.in-Err.ensures.0 refl refl c.lined_at.ensures;
}
