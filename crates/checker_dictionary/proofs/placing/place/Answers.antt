use Rattle.std.proofs.Common.{ℕ, List, sym, ◌∙◌, subst, arith}
use Rattle.checker_rules.specs.Dictionary.{entries}
use Rattle.checker_dictionary.specs.Spaced.{Respaced}
use Rattle.checker_dictionary.proofs.PlacingLaws.{place_order, place_inside, placed_entries}
use Rattle.checker_dictionary.proofs.placing.place.Goals as goal

pub overflow_sub-m : goal.overflow_sub-m
overflow_sub-m c =
    let p = c.requires in
    let o = place_order _ _ p in
    let f = c.first-from.ensures.0 in
    let z = c.size.ensures.0 in
    omega arith

pub shift-requires : goal.shift-requires
shift-requires c =
    let p = c.requires in
    let o = place_order _ _ p in
    let i = place_inside _ _ p in
    let f = c.first-from.ensures.0 in
    let z = c.size.ensures.0 in
    let r = p.room in
    (omega arith, omega arith)

pub returns : goal.returns
returns c =
    λ D S.
    let a = c.args in
    let n = c.word-n.ensures.0 in
    let f = c.first-from.ensures.0 in
    let z = c.size.ensures.0 in
    let moved = c.shift.ensures in
    let zeros = c.erase.ensures in
    let pairs = c.place_pairs.ensures in
    subst (λ (l : List ℕ). Respaced (entries D) l a.to) (sym (pairs ∙ rw (zeros, moved, n, z, f))) (placed_entries a.d.now a.to c.requires D S)
