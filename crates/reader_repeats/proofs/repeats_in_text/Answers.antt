use mathlib.Core.Bool.{true, false}
use Rattle.reader_repeats.proofs.WritingLaws.{repeats_shared, repeats_itself, no_decl}
use Rattle.reader_repeats.proofs.ParentLaws.{nodes_of, once_of}
use Rattle.reader_repeats.specs.Marks.{distinct}
use Rattle.reader_rules.specs.Nodes.{kind_at, parent}
use native.Mathlib.Omega.{arith}
use mathlib.Core.Path.{◌≡◌, sym, ◌∙◌}
use Rattle.reader_repeats.proofs.repeats_in_text.Goals as goal

pub returns-then-are_distinct : goal.returns-then-are_distinct
returns-then-are_distinct c =
    let d = c.args.doc.now in
    let k = c.args.k in
    let l = c.requires.0 in
    let q : kind_at d k ≡ 11 = sym c.kind_at-q.ensures.0 ∙ c.if-q-eq-DECL.true in
    let i = c.declared_at-ids.ensures in
    let e : distinct c.declared_at-ids.result.now ≡ true = sym c.are_distinct.ensures ∙ c.if-are_distinct.true in
    let t : c.word-t.result ≡ parent d k = c.word-t.ensures.0 ∙ l.parents.at k (omega (arith, l.parents.few)) in
    let p = c.part.ensures in
    rw (repeats_shared d (nodes_of d _ l) (once_of d _ l) k q c.requires.1 c.requires.2 (rw i at e), ← i, ← t, ← p) c.shared_before.ensures

pub returns-then-q-eq-DECL : goal.returns-then-q-eq-DECL
returns-then-q-eq-DECL c =
    let d = c.args.doc.now in
    let k = c.args.k in
    let l = c.requires.0 in
    let q : kind_at d k ≡ 11 = sym c.kind_at-q.ensures.0 ∙ c.if-q-eq-DECL.true in
    let e : distinct c.declared_at-ids.result.now ≡ false = sym c.are_distinct.ensures ∙ c.if-are_distinct.false in
    repeats_itself d (nodes_of d _ l) (once_of d _ l) k q c.requires.1 c.requires.2 (rw c.declared_at-ids.ensures at e)

pub returns : goal.returns
returns c = no_decl c.args.doc.now _ c.args.k (λ q. c.if-q-eq-DECL.false (c.kind_at-q.ensures.0 ∙ q))
