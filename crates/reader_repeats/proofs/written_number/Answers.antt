use Rattle.reader_repeats.proofs.WritingLaws.{repeat_eq, written_on}
use Rattle.reader_repeats.specs.Marks.{unmarked, marked, distinct}
use Rattle.reader_rules.specs.Repeats.{globals, schemas, parameters}
use native.Mathlib.Omega.{arith}
use mathlib.Core.Path.{◌≡◌}
use Rattle.reader_repeats.proofs.written_number.Goals as goal

pub returns-then-repeats_in_text : goal.returns-then-repeats_in_text
returns-then-repeats_in_text c =
    let a = c.args in
    let e = repeat_eq a.doc.now a.up.now c.requires.linked.0 a.k c.requires.linked.1 c.requires.linked.2 a.seen.now a.names.now c.requires.written in
    let g : c.mark_new.result ≡ unmarked (globals a.doc.now a.k) a.seen.now = rw c.globals_at.ensures at c.mark_new.ensures.0 in
    (rw (e, ← g, c.if-mark_new.true, ← c.repeats_in_text.ensures, c.if-repeats_in_text.true), λ z. absurd (omega (arith, z)))

pub returns-then-mark_new-2 : goal.returns-then-mark_new-2
returns-then-mark_new-2 c =
    let a = c.args in
    let d = a.doc.now in
    let e = repeat_eq d a.up.now c.requires.linked.0 a.k c.requires.linked.1 c.requires.linked.2 a.seen.now a.names.now c.requires.written in
    let o = written_on d a.up.now c.requires.linked.0 a.k c.requires.linked.1 c.requires.linked.2 a.seen.now a.names.now c.requires.written in
    let g : c.mark_new.result ≡ unmarked (globals d a.k) a.seen.now = rw c.globals_at.ensures at c.mark_new.ensures.0 in
    let h : c.mark_new.new.seen ≡ marked (globals d a.k) a.seen.now = rw c.globals_at.ensures at (c.mark_new.ensures.1 c.if-mark_new.true) in
    let x : c.are_distinct.result ≡ distinct (parameters d a.k) = rw c.parameters_at.ensures at c.are_distinct.ensures in
    let m : c.mark_new-then-are_distinct.result ≡ unmarked (schemas d a.k) a.names.now = rw c.schemas_at.ensures at c.mark_new-then-are_distinct.ensures.0 in
    let n : c.mark_new-then-are_distinct.new.seen ≡ marked (schemas d a.k) a.names.now = rw c.schemas_at.ensures at (c.mark_new-then-are_distinct.ensures.1 c.if-mark_new-2.true) in
    (rw (e, ← g, c.if-mark_new.true, ← c.repeats_in_text.ensures, c.if-repeats_in_text.false, ← x, c.if-are_distinct.true, ← m, c.if-mark_new-2.true), λ z. rw (h, n) o)

pub returns-then-are_distinct : goal.returns-then-are_distinct
returns-then-are_distinct c =
    let a = c.args in
    let d = a.doc.now in
    let e = repeat_eq d a.up.now c.requires.linked.0 a.k c.requires.linked.1 c.requires.linked.2 a.seen.now a.names.now c.requires.written in
    let g : c.mark_new.result ≡ unmarked (globals d a.k) a.seen.now = rw c.globals_at.ensures at c.mark_new.ensures.0 in
    let x : c.are_distinct.result ≡ distinct (parameters d a.k) = rw c.parameters_at.ensures at c.are_distinct.ensures in
    let m : c.mark_new-then-are_distinct.result ≡ unmarked (schemas d a.k) a.names.now = rw c.schemas_at.ensures at c.mark_new-then-are_distinct.ensures.0 in
    (rw (e, ← g, c.if-mark_new.true, ← c.repeats_in_text.ensures, c.if-repeats_in_text.false, ← x, c.if-are_distinct.true, ← m, c.if-mark_new-2.false), λ z. absurd (omega (arith, z)))

pub returns-then-mark_new : goal.returns-then-mark_new
returns-then-mark_new c =
    let a = c.args in
    let d = a.doc.now in
    let e = repeat_eq d a.up.now c.requires.linked.0 a.k c.requires.linked.1 c.requires.linked.2 a.seen.now a.names.now c.requires.written in
    let g : c.mark_new.result ≡ unmarked (globals d a.k) a.seen.now = rw c.globals_at.ensures at c.mark_new.ensures.0 in
    let x : c.are_distinct.result ≡ distinct (parameters d a.k) = rw c.parameters_at.ensures at c.are_distinct.ensures in
    (rw (e, ← g, c.if-mark_new.true, ← c.repeats_in_text.ensures, c.if-repeats_in_text.false, ← x, c.if-are_distinct.false), λ z. absurd (omega (arith, z)))

pub returns : goal.returns
returns c =
    let a = c.args in
    let e = repeat_eq a.doc.now a.up.now c.requires.linked.0 a.k c.requires.linked.1 c.requires.linked.2 a.seen.now a.names.now c.requires.written in
    let g : c.mark_new.result ≡ unmarked (globals a.doc.now a.k) a.seen.now = rw c.globals_at.ensures at c.mark_new.ensures.0 in
    (rw (e, ← g, c.if-mark_new.false), λ z. absurd (omega (arith, z)))
