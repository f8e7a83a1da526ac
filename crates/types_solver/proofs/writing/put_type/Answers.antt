use mathlib.Core.Path.{subst}
use native.Mathlib.Omega.{arith}
use Rattle.types_rules.specs.Words.{words}
use Rattle.types_cells.proofs.Reading.{place_few, inside}
use Rattle.types_solver.specs.Written.{Wrote}
use Rattle.types_solver.proofs.Copying.{run_words_lem}
use Rattle.types_solver.proofs.writing.put_type.Goals as goal

pub put_words-requires : goal.put_words-requires
put_words-requires c =
    let P = c.requires.0 in
    let R = P.readable.reads in
    let e = c.skip.ensures.is P.readable.type R in
    let f = place_few _ _ _ _ P.areas R in
    let i = inside _ _ _ R in
    let b = c.requires.1 in
    (P.areas.size, omega arith, omega arith, omega arith)

pub returns : goal.returns
returns c =
    record {
      is = λ g R.
          let e = c.skip.ensures.is g R in
          subst (Wrote c.args.out.now c.put_words.new.out c.args.at c.put_words.result) (run_words_lem _ _ (words g) R.after _ (omega arith) R.words_at) c.put_words.ensures;
    }
