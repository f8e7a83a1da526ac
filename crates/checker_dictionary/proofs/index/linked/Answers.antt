use Rattle.std.proofs.Common.{sym, ◌∙◌, subst, arith}
use Rattle.checker_dictionary.specs.Index.{bucket_of}
use Rattle.checker_dictionary.proofs.LookupLaws.{newest_hit, newest_none}
use Rattle.checker_dictionary.proofs.IndexLaws.{Chained, chained_first, chained_next, older_less}
use Rattle.checker_dictionary.proofs.index.linked.Goals as goal

pub loop-k-init : goal.loop-k-init
unfolding bucket_of
loop-k-init c =
    let a = c.args in
    let w = c.word-k.ensures in
    (w.1, λ I. subst (Chained _ _ _ _) (sym w.0) (chained_first a.d.now a.w.now _ a.class a.name I))

pub returns-then-is_entry : goal.returns-then-is_entry
returns-then-is_entry c =
    λ I.
    let C = c.loop-k.invariant.1 I in
    newest_hit _ _ (omega arith) (sym c.is_entry.ensures ∙ c.if-is_entry.true) ∙ sym C.rest

pub returns-then-k-older : goal.returns-then-k-older
returns-then-k-older c =
    λ I.
    let C = c.loop-k.invariant.1 I in
    let less = older_less _ _ _ _ _ I _ C (omega arith) in
    let e = c.word-older.ensures.0 in
    absurd (omega arith)

pub loop-k-preserved : goal.loop-k-preserved
loop-k-preserved c =
    let w = c.word-older.ensures in (
      w.1,
      λ I.
          let C = c.loop-k.invariant.1 I in
          subst (Chained _ _ _ _) (sym w.0) (chained_next _ _ _ _ _ I _ C (omega arith) (sym c.is_entry.ensures ∙ c.if-is_entry.false)),
    )

pub returns : goal.returns
returns c = λ I. let C = c.loop-k.invariant.1 I in newest_none _ _ (omega arith) ∙ sym C.rest
