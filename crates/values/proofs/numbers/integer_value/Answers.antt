use Rattle.std.proofs.Common.{ℕ, [], ◌∷◌, ap, ◌∙◌, w32}
use mir.ValLaws.{to_z-of_z}
use Rattle.values.specs.Held.{keep}
use Rattle.values.specs.Value.{encode}
use Rattle.values.proofs.numbers.integer_value.Goals as goal

pub returns : goal.returns
unfolding encode
returns c =
    let e = rw (to_z-of_z w32 _ c.ranges.z) at c.word_of.ensures in
    c.hold.ensures ∙ ap (λ (x : ℕ). keep (1 ∷ x ∷ [])) e
