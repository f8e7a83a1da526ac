-- The parts of a type, as words (document 01, the dictionary: the parts one after the other, in a binding each after its identifier).
use Rattle.std.specs.Prelude.{◌≡◌, List, [], ◌++◌, ℕ, zero, suc, ◌+◌, length, drop}
use Rattle.types_rules.specs.Types.{Tys}
use Rattle.types_rules.specs.Formed.{part_count_type, FormedTypes, Arity}
use Rattle.types_rules.specs.Words.{part_words}

-- A name takes w words: none, or one for each part.
abbrev pub Names : ℕ → List ℕ → Tys → Type 0
Names zero l gs = l ≡ []
Names (suc w) l gs = (w ≡ 0) × (length l ≡ part_count_type gs)

-- Parts gs, with the names l, stand at `at`, and end at e.
pub record Rest (H : List ℕ) (w at : ℕ) (l : List ℕ) (gs : Tys) (e : ℕ) : Type 0 where
  pub formed : FormedTypes Arity gs
  pub names : Names w l gs
  pub after : List ℕ
  pub words_at : drop at H ≡ part_words l gs ++ after
  pub end : e ≡ at + length (part_words l gs)
