use Rattle.std.proofs.Common.{ℕ, List, sym, ◌∙◌, subst}
use Rattle.checker_dictionary.specs.Index.{bucket_of, IndexedTo}
use Rattle.checker_dictionary.proofs.IndexLaws.{indexed_more}
use Rattle.checker_dictionary.proofs.index.add.Goals as goal

pub returns : goal.returns
unfolding bucket_of
returns c =
    λ I.
    let a = c.args in
    let p = c.requires in
    let room = c.if-k-gt-ROOM.false in
    let name = c.name_of.ensures.0 in
    let old = c.word-older.ensures.0 in
    let one = c.store.ensures in
    let two = c.store-2.ensures in
    subst (λ (w : List ℕ). IndexedTo a.d.now w a.k) (sym (two ∙ rw (one, old, name))) (indexed_more a.d.now a.w.now a.k p.0 room p.2 I)
