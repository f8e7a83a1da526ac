use mathlib.Core.Path.{refl, sym, ◌∙◌}
use native.Mathlib.Nat.{add-sub_cancel}
use native.Mathlib.Omega.{arith}
use Rattle.reader_rules.specs.Decode.{tree_of}
use Rattle.reader_rules.proofs.Scan.{scan_hit, scan_go, scan_end}
use Rattle.states_rules.specs.Names.{document_names}
use Rattle.fitter_types.proofs.Types.{entry_count}
use Rattle.fitter_types.proofs.first_mistyped.Goals as goal

pub loop-k-init : goal.loop-k-init
loop-k-init c = (c.word-n.ensures.0 ∙ entry_count (document_names (tree_of c.args.doc.now)) c.args.state.now c.requires.1, λ E H. rw add-sub_cancel refl)

pub returns-then-number-ne0 : goal.returns-then-number-ne0
returns-then-number-ne0 c = λ E H. rw (c.type_number-number.ensures E H, ← c.loop-k.invariant.0) (scan_hit _ _ _ (omega arith) (λ z. c.if-number-ne0.true (c.type_number-number.ensures E H ∙ z)) ∙ sym (c.loop-k.invariant.1 E H))

pub loop-k-preserved : goal.loop-k-preserved
loop-k-preserved c = (c.loop-k.invariant.0, λ E H. c.loop-k.invariant.1 E H ∙ scan_go _ _ _ (omega arith) (sym (c.type_number-number.ensures E H) ∙ c.if-number-ne0.false))

pub returns : goal.returns
returns c = λ E H. rw (← c.loop-k.invariant.0) (scan_end _ _ _ (omega arith) ∙ sym (c.loop-k.invariant.1 E H))
