use Rattle.std.proofs.Common.{ℕ, ◌+◌, ◌%◌, ◌^◌, List, [], ◌∷◌, get_or, take, drop, ap, ◌∙◌, append_assoc}
use Rattle.values.specs.Sets.{insert_at}
use Rattle.values.specs.Held.{keep}
use Rattle.values.proofs.Holding.{building_none}
use Rattle.values.proofs.sets.insert_at.Goals as goal

pub returns : goal.returns
unfolding insert_at
returns c =
    let a = c.args in
    let e₁ = c.put-a.ensures [] building_none in
    let e₂ = c.put-b.ensures _ e₁ in
    let e₃ = c.put-c.ensures _ e₂ in
    let e₄ = c.put-d.ensures _ e₃ in
    c.built.ensures _ e₄ ∙ rw (c.wrapping_add_u32.ensures.value, c.word.ensures.0, c.from.ensures, c.span.ensures, c.from-2.ensures)
    (ap (λ (l : List ℕ). keep (3 ∷ (get_or a.s.now 1 0 + 1) % 2 ^ 32 ∷ l)) (append_assoc (drop 2 (take a.p a.s.now)) a.m.now (drop a.p a.s.now)))
