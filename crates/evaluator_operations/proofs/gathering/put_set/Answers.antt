use mathlib.Core.Path.{◌≡◌, ap, subst, sym, ◌∙◌}
use mathlib.Core.List.{List}
use Prim.Native.Nat.{ℕ}
use native.Mathlib.Omega.{arith}
use borrow.Author.Rules.{rules}
use lib.ListN.{length, set}
use Rattle.evaluator_operations.specs.Worked.{SetIn}
use Rattle.evaluator_operations.proofs.GatherLaws.{set_written}
use Rattle.evaluator_operations.proofs.gathering.put_set.Goals as goal

pub returns-then-s-lt-GATHERED : goal.returns-then-s-lt-GATHERED
returns-then-s-lt-GATHERED c = λ vs l h. absurd (omega (arith, c.if-s-lt-GATHERED.true))

pub copy-requires : goal.copy-requires
copy-requires c = let l : 64 ≡ length c.args.t.words = search rules in omega (arith, c.if-s-lt-GATHERED.false)

pub returns : goal.returns
returns c =
    λ vs l h.
    let a = c.args in
    let e = c.store.ensures ∙ ap (λ (u : List ℕ). set u 64 a.t.len) c.copy.ensures in
    subst (λ (u : List ℕ). SetIn u vs) (sym e) (set_written a.s.now a.t vs l h)
