use mathlib.Core.Path.{◌≡◌, sym, subst}
use Prim.Native.Nat.{ℕ, ◌+◌, ◌-◌}
use native.Mathlib.Omega.{arith}
use Rattle.reader_rules.specs.Decode.{tree_of}
use Rattle.states_rules.specs.Names.{document_names}
use Rattle.evaluator_scope.specs.Named.{Among, said}
use Rattle.evaluator_scope.proofs.NamedLaws.{Puts, put_none, put_more, declares_here, declares_later}
use Rattle.evaluator_scope.proofs.named.put_names.Goals as goal

pub put_stated-requires : goal.put_stated-requires
put_stated-requires c =
    let a = c.args in
    let i = c.loop-i.i in
    let few = c.requires.2 in
    let wide = c.requires.3 in
    let long = c.loop-i.invariant.0 in
    (c.requires.0, subst (λ (n : ℕ). Among n (document_names (tree_of a.doc.now))) (sym c.word.ensures.0) (declares_here a.w.now i (omega arith) c.loop-i.invariant.1), omega arith, omega arith, c.word.ensures.1)

pub loop-i-preserved : goal.loop-i-preserved
loop-i-preserved c =
    let a = c.args in
    let i = c.loop-i.i in
    let long = c.loop-i.invariant.0 in
    let s = said a.doc.now a.state.now in
    let z : a.b + (i + 1 - a.j) ≡ a.b + (i - a.j) + 1 = omega arith in (
      omega (arith, c.put_stated.auto.work),
      declares_later a.w.now i (omega arith) c.loop-i.invariant.1,
      λ w p.
          c.loop-i.invariant.2 w
          (put_more a.state.now _ _ w a.w.now (a.b + (i - a.j)) i s (omega arith) (λ scope g. rw c.word.ensures.0 at (c.put_stated.ensures scope g))
          (subst (λ (b : ℕ). Puts a.state.now c.put_stated.new.work w a.w.now b (i + 1) s) z p)),
    )

pub returns : goal.returns
returns c = let a = c.args in c.loop-i.invariant.2 _ (put_none a.state.now _ a.w.now _ _ (said a.doc.now a.state.now) (omega arith))
