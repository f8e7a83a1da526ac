use Rattle.std.proofs.Common.{sym, ap, ◌∙◌, arith}
use Rattle.std.proofs.lemmas.List.{take_rest}
use Rattle.std.specs.Slice.Iter.{chunks_exact_rest, chunks_exact_size}
use Rattle.checker_rules.specs.Signatures.{renamed}
use Rattle.checker_signatures.specs.Rows.{renames}
use Rattle.checker_signatures.proofs.IncludeLaws.{renames_dropped, renames_pair, renames_none, renamed_hit, renamed_go, renamed_end}
use Rattle.checker_signatures.proofs.includes.renamed.Goals as goal

pub loop-pair-init : goal.loop-pair-init
loop-pair-init c =
    let a = c.args in
    let i = c.into_iter-pair-iterator.ensures.into_iter_gives in
    let e = c.chunks_exact-pair-items.ensures in (
      ap chunks_exact_size i ∙ e.size,
      ap (λ ps. renamed ps a.id) (renames_dropped a.first a.part.now ∙ ap (λ s. renames s 0) (sym (ap chunks_exact_rest i ∙ e.rest ∙ take_rest a.part.now a.first))),
    )

pub returns-then-word-id : goal.returns-then-word-id
returns-then-word-id c =
    let l = c.loop-pair.invariant in
    let s = c.in-Some.ensures.steps.1 in
    let w = c.word-then-word-id.ensures in
    (w.0 ∙ sym (l.1 ∙ renamed_hit _ _ _ _ _ (renames_pair _ _ _ s.0 (s.1 ∙ l.0)) (sym c.word.ensures.0 ∙ c.if-word-id.true)), w.1)

pub loop-pair-preserved : goal.loop-pair-preserved
loop-pair-preserved c =
    let l = c.loop-pair.invariant in
    let e = c.in-Some.ensures.steps in
    (e.0 ∙ l.0, l.1 ∙ renamed_go _ _ _ _ _ (renames_pair _ _ _ e.1.0 (e.1.1 ∙ l.0)) (λ q. c.if-word-id.false (c.word.ensures.0 ∙ q)))

pub returns : goal.returns
returns c =
    let l = c.loop-pair.invariant in
    let s = c.in-None.ensures.steps.1 in
    (sym (l.1 ∙ renamed_end _ _ (renames_none _ (omega (arith, s.0, l.0)))), c.requires.1)
