use Rattle.checker_extension.proofs.EnteringLaws.{part_few, append_part}
use lib.Seq.{length-take-le}
use native.Mathlib.Omega.{arith}
use mathlib.Core.Path.{sym}
use Rattle.checker_extension.proofs.append.Goals as goal

pub slice_bounds-append_all-end-then-dict-gt-MOST_WORDS : goal.slice_bounds-append_all-end-then-dict-gt-MOST_WORDS
slice_bounds-append_all-end-then-dict-gt-MOST_WORDS c = sym (length-take-le 2147483648 c.args.dict.now (omega (arith, c.if-dict-gt-MOST_WORDS.true)))

pub append_all-requires : goal.append_all-requires
append_all-requires c = (part_few c.args.dict.now 2147483648 4294967296 (omega (arith, c.if-dict-gt-MOST_WORDS.true)) (omega arith), c.requires)

pub returns-then-dict-gt-MOST_WORDS : goal.returns-then-dict-gt-MOST_WORDS
returns-then-dict-gt-MOST_WORDS c = λ D es e H W l. append_part D es _ _ _ 2147483648 (omega (arith, c.if-dict-gt-MOST_WORDS.true)) H l (λ X. c.append_all.ensures D es e X W)
