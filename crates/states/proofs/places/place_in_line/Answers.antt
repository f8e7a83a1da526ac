use mathlib.Core.Path.{sym, ap, ◌∙◌}
use native.Mathlib.Omega.{arith}
use lib.ListN.{length}
use Rattle.words.proofs.Loops.{tests}
use Rattle.states.specs.Table.{line_place}
use Rattle.states.proofs.NameLaws.{decl_words}
use Rattle.states.proofs.places.place_in_line.Goals as goal

pub place_in-requires : goal.place_in-requires
place_in-requires c =
    let q = sym c.kind_at-q.ensures.0 ∙ c.if-q-eq-DECL.true in
    (c.requires.1, omega (arith, (decl_words _ _ c.requires.0 q).1, ap length c.part.ensures))

pub returns-then-q-eq-DECL : goal.returns-then-q-eq-DECL
unfolding line_place
returns-then-q-eq-DECL c =
    let q = sym c.kind_at-q.ensures.0 ∙ c.if-q-eq-DECL.true in
    rw (q, ← c.part.ensures) c.place_in.ensures

pub returns : goal.returns
unfolding line_place
returns c = rw (← c.kind_at-q.ensures.0) (search tests)
