use Rattle.checker_paragraphs.proofs.SchemaNodes.{plain_at_lem, plain_ask, plain_done, from_at, from_ask, from_done, near, left_at, left_lower, left_asked, left_stops_lem, right_at, right_lower, right_asked, right_stops_lem, rows_asked, rows_joined}
use native.Mathlib.Omega.{arith}
use Rattle.checker_paragraphs.proofs.schemas.+schema.Goals as goal

pub text-requires : goal.text-requires
text-requires t c = (plain_at_lem _ _ _ _ c.requires.0 c.part-p.ensures c.word-q.ensures.0 _ _ _ _ _ _ c.requires.1 c.if-q-eq-TEXT.true, plain_ask _ _ _ _ c.requires.0 c.part-p.ensures c.word-q.ensures.0 _ _ _ _ _ _ c.requires.1 c.if-q-eq-TEXT.true)

pub returns-then-q-eq-TEXT : goal.returns-then-q-eq-TEXT
returns-then-q-eq-TEXT t c = plain_done _ _ _ _ c.requires.0 c.part-p.ensures c.word-q.ensures.0 _ _ _ _ _ _ c.requires.1 c.if-q-eq-TEXT.true _ _ _ _ _ _ c.text.ensures

pub brings-requires : goal.brings-requires
brings-requires t c = (from_at _ _ _ _ c.requires.0 c.part-p.ensures c.word-q.ensures.0 _ _ _ _ _ _ c.requires.1 c.if-q-eq-INCLUDE.true, from_ask _ _ _ _ c.requires.0 c.part-p.ensures c.word-q.ensures.0 _ _ _ _ _ _ c.requires.1 c.if-q-eq-INCLUDE.true)

pub returns-then-q-eq-INCLUDE : goal.returns-then-q-eq-INCLUDE
returns-then-q-eq-INCLUDE t c = from_done _ _ _ _ c.requires.0 c.part-p.ensures c.word-q.ensures.0 _ _ _ _ _ _ c.requires.1 c.if-q-eq-INCLUDE.true _ _ _ _ _ _ c.brings.ensures

pub schema-x-requires : goal.schema-x-requires
schema-x-requires t c = (let l = left_lower _ _ _ _ c.requires.0 c.part-p.ensures c.word-q.ensures.0 _ _ _ _ _ _ c.requires.1 c.if-q-eq-TEXT.false c.if-q-eq-INCLUDE.false _ c.word.ensures.0 in omega (arith, c.decreases, l), (left_at _ _ _ _ c.requires.0 c.part-p.ensures c.word-q.ensures.0 _ _ _ _ _ _ c.requires.1 c.if-q-eq-TEXT.false c.if-q-eq-INCLUDE.false _ c.word.ensures.0, left_asked _ _ _ _ c.requires.0 c.part-p.ensures c.word-q.ensures.0 _ _ _ _ _ _ c.requires.1 c.if-q-eq-TEXT.false c.if-q-eq-INCLUDE.false _ c.word.ensures.0))

pub returns-then-x-ne0 : goal.returns-then-x-ne0
returns-then-x-ne0 t c = left_stops_lem _ _ _ _ c.requires.0 c.part-p.ensures c.word-q.ensures.0 _ _ _ _ _ _ c.requires.1 c.if-q-eq-TEXT.false c.if-q-eq-INCLUDE.false _ c.word.ensures.0 _ _ _ _ _ _ c.schema-x.ensures c.if-x-ne0.true

pub overflow_add-free : goal.overflow_add-free
overflow_add-free t c = let l = near _ _ _ _ c.requires.0 c.part-p.ensures c.word-q.ensures.0 _ _ _ _ _ _ c.requires.1 c.if-q-eq-TEXT.false c.if-q-eq-INCLUDE.false in omega arith

pub schema-y-requires : goal.schema-y-requires
schema-y-requires t c = (let l = right_lower _ _ _ _ c.requires.0 c.part-p.ensures c.word-q.ensures.0 _ _ _ _ _ _ c.requires.1 c.if-q-eq-TEXT.false c.if-q-eq-INCLUDE.false _ c.word.ensures.0 _ _ _ _ _ _ c.schema-x.ensures c.if-x-ne0.false _ c.word-2.ensures.0 in omega (arith, c.decreases, l), (right_at _ _ _ _ c.requires.0 c.part-p.ensures c.word-q.ensures.0 _ _ _ _ _ _ c.requires.1 c.if-q-eq-TEXT.false c.if-q-eq-INCLUDE.false _ c.word.ensures.0 _ _ _ _ _ _ c.schema-x.ensures c.if-x-ne0.false _ c.word-2.ensures.0, right_asked _ _ _ _ c.requires.0 c.part-p.ensures c.word-q.ensures.0 _ _ _ _ _ _ c.requires.1 c.if-q-eq-TEXT.false c.if-q-eq-INCLUDE.false _ c.word.ensures.0 _ _ _ _ _ _ c.schema-x.ensures c.if-x-ne0.false _ c.word-2.ensures.0))

pub returns-then-y-ne0 : goal.returns-then-y-ne0
returns-then-y-ne0 t c = right_stops_lem _ _ _ _ c.requires.0 c.part-p.ensures c.word-q.ensures.0 _ _ _ _ _ _ c.requires.1 c.if-q-eq-TEXT.false c.if-q-eq-INCLUDE.false _ c.word.ensures.0 _ _ _ _ _ _ c.schema-x.ensures c.if-x-ne0.false _ c.word-2.ensures.0 _ _ _ _ _ _ c.schema-y.ensures c.if-y-ne0.true

pub conjoin-requires : goal.conjoin-requires
conjoin-requires t c = (let z = c.requires.0.small in omega arith, rows_asked _ _ _ _ c.requires.0 c.part-p.ensures c.word-q.ensures.0 _ _ _ _ _ _ c.requires.1 c.if-q-eq-TEXT.false c.if-q-eq-INCLUDE.false _ c.word.ensures.0 _ _ _ _ _ _ c.schema-x.ensures c.if-x-ne0.false _ c.word-2.ensures.0 _ _ _ _ _ _ c.schema-y.ensures c.if-y-ne0.false)

pub shape_of-a : goal.shape_of-a
shape_of-a t c = omega (arith, c.conjoin.auto.a, c.schema-y.auto.a, c.schema-x.auto.a)

pub returns : goal.returns
returns t c = rows_joined _ _ _ _ c.requires.0 c.part-p.ensures c.word-q.ensures.0 _ _ _ _ _ _ c.requires.1 c.if-q-eq-TEXT.false c.if-q-eq-INCLUDE.false _ c.word.ensures.0 _ _ _ _ _ _ c.schema-x.ensures c.if-x-ne0.false _ c.word-2.ensures.0 _ _ _ _ _ _ c.schema-y.ensures c.if-y-ne0.false _ _ _ _ _ _ c.conjoin.ensures
