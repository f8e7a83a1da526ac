use mathlib.Core.Path.{ap, ◌∙◌}
use mathlib.Core.List.{List}
use Prim.Native.Nat.{ℕ}
use lib.ListN.{drop}
use Rattle.values.specs.Typed.{has_type}
use Rattle.fitter_types.proofs.Types.{test_told}
use Rattle.fitter_types.proofs.is_typed.Goals as goal

pub returns : goal.returns
returns c =
    test_told c.args.dict.now c.args.id c.entry_of_name-k.result c.args.w.now c.entry_of_name-k.ensures c.if-k-eq0.false c.has_type.result
    (c.has_type.ensures ∙ ap (λ (t : List ℕ). has_type 32 t c.args.w.now) (c.from.ensures ∙ ap (λ (n : ℕ). drop n c.args.dict.now) c.type_place.ensures.0))
