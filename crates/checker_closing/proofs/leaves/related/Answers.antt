use Rattle.checker_closing.proofs.LeafLaws.{comparing, as_equality, as_membership, as_comparison}
use Rattle.checker_closing.proofs.leaves.related.Goals as goal

pub equality-requires : goal.equality-requires
equality-requires c = comparing _ _ _ _ _ _ c.requires.2

pub returns-then-q-eq-EQUAL : goal.returns-then-q-eq-EQUAL
returns-then-q-eq-EQUAL c = as_equality c.args.a.now c.equality.new.a c.args.d.now c.args.n c.args.top c.args.x c.args.y c.equality.result c.args.q c.if-q-eq-EQUAL.true (c.equality.ensures _)

pub returns-then-q-eq-MEMBER : goal.returns-then-q-eq-MEMBER
returns-then-q-eq-MEMBER c = as_membership c.args.a.now c.membership.new.a c.args.d.now c.args.n c.args.top c.args.x c.args.y c.membership.result c.args.q c.if-q-eq-MEMBER.true c.membership.ensures

pub returns : goal.returns
returns c = as_comparison c.args.a.now c.comparison.new.a c.args.d.now c.args.n c.args.top c.args.x c.args.y c.comparison.result c.args.q c.requires.0 c.requires.1 c.if-q-eq-EQUAL.false c.if-q-eq-MEMBER.false (c.comparison.ensures _)
