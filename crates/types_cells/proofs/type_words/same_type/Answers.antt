use mathlib.Core.Path.{refl}
use mathlib.Core.Bool.{true}
use native.Mathlib.Omega.{arith}
use Rattle.types_rules.proofs.Terms.{bool_no}
use Rattle.types_cells.proofs.Reading.{same_yes}
use Rattle.types_cells.proofs.type_words.same_type.Goals as goal

pub returns : goal.returns
returns c =
    record {
      tells = λ g k R S.
          let e = c.skip.ensures.is g R in
          let f = c.skip-2.ensures.is k S in
          let y = c.if-skip-q.false in
          let l = c.loop-j-test.false in
          record { holds = λ z. same_yes _ _ _ g k R S (omega arith) (λ i q. c.loop-j.invariant i (omega arith)); fails = λ z. absurd (bool_no true refl z) };
    }
