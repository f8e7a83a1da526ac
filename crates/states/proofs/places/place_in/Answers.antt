use mathlib.Core.Path.{◌≡◌, sym, ap, ◌∙◌}
use mathlib.Core.Bool.{true}
use mathlib.Core.List.{List}
use Prim.Native.Nat.{ℕ, ◌+◌}
use native.Mathlib.Omega.{arith}
use Rattle.states_rules.specs.Names.{names_as}
use Rattle.states_rules.specs.States.{entry_from}
use Rattle.states.proofs.PlaceLaws.{entry_here, entry_go, entry_end}
use Rattle.states.proofs.places.place_in.Goals as goal

pub returns-then-x-name : goal.returns-then-x-name
returns-then-x-name c =
    entry_here c.from-names.result.now c.args.name c.loop-i.i (c.args.k + c.loop-i.i) c.loop-i-test.true c.if-x-name.true
    ∙ sym c.loop-i.invariant
    ∙ ap (λ (u : List ℕ). entry_from (names_as true u) c.args.name c.args.k) c.from-names.ensures

pub loop-i-preserved : goal.loop-i-preserved
loop-i-preserved c =
    let e : c.args.k + (c.loop-i.i + 1) ≡ c.args.k + c.loop-i.i + 1 = omega arith in
    rw e (c.loop-i.invariant ∙ entry_go c.from-names.result.now c.args.name c.loop-i.i (c.args.k + c.loop-i.i) c.loop-i-test.true c.if-x-name.false)

pub returns : goal.returns
returns c =
    sym (c.loop-i.invariant ∙ entry_end c.from-names.result.now c.args.name c.loop-i.i (c.args.k + c.loop-i.i) c.loop-i-test.false)
    ∙ ap (λ (u : List ℕ). entry_from (names_as true u) c.args.name c.args.k) c.from-names.ensures
