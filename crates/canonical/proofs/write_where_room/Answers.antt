use mathlib.Core.Path.{ap, ◌∙◌}
use lib.Seq.{sets}
use Rattle.canonical_rules.specs.Call.{canonical_words}
use Rattle.canonical.proofs.CallLaws.{call_short, call_written}
use Rattle.canonical.proofs.write_where_room.Goals as goal

pub returns-then-output-doc : goal.returns-then-output-doc
returns-then-output-doc c = call_short c.args.doc.now c.requires.0 _ _ c.if-output-doc.true c.requires.1

pub write-requires : goal.write-requires
write-requires c = c.requires.0

pub returns : goal.returns
returns c = call_written c.args.doc.now c.requires.0 _ _ c.if-output-doc.false (c.write.ensures ∙ ap (λ u. sets u 0 (canonical_words c.args.doc.now)) c.requires.1)
