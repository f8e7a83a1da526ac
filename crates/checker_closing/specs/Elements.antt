-- What the type of a set's elements asks and tells: the set's type is cell c of the n of its piece; the type's words go to `at`, over those up to `end`.
use Rattle.std.specs.Prelude.{◌≡◌, true, false, List, [], ◌∷◌, ℕ, ◌+◌}
use Rattle.checker_pieces.specs.Building.{Working, Powered}
use Rattle.checker_pieces.specs.Closed.{Closing, Closed, SizeIs}
use Rattle.checker_includes.specs.Storing.{StoreAsk, TypeStored}

-- The type of cell c of a closed piece, its size, and its words.
pub record TypeKept (s s' d w w' : List ℕ) (n c at free number size end : ℕ) : Type 0 where
  pub number_is : number ≡ 0
  pub measured : SizeIs s d n c size
  pub stored : TypeStored s s' d w w' n c at free end

-- The same of a piece that is to be closed.
pub record ClosedAsk (s d w : List ℕ) (n c at end free : ℕ) : Type 0 where
  pub closing : Closing s d n
  pub storing : (s' : List ℕ) → Closed s s' d n true → StoreAsk s' d w n c at end free

pub data ClosedTold (s s' d w w' : List ℕ) (n c at free number size end : ℕ) : Type 0 where
  several : number ≡ 34 → w' ≡ w → Closed s s' d n false → ClosedTold s s' d w w' n c at free number size end
  one : (s₁ : List ℕ) → Closed s s₁ d n true → TypeKept s₁ s' d w w' n c at free number size end → ClosedTold s s' d w w' n c at free number size end

-- The type of the elements: cell n, where the type of cell c is the power of it.
pub record ElementAsk (s d w : List ℕ) (n top c at end free : ℕ) : Type 0 where
  pub working : Working s d n top 2 (c ∷ [])
  pub closing : (s' : List ℕ) → Powered s s' d n top c 0 → ClosedAsk s' d w (n + 2) n at end free

pub data ElementTold (s s' d w w' : List ℕ) (n top c at free number size end : ℕ) : Type 0 where
  no_power : (number ≡ 0 → ⊥) → w' ≡ w → Powered s s' d n top c number → ElementTold s s' d w w' n top c at free number size end
  power : (s₁ : List ℕ) → Powered s s₁ d n top c 0 → ClosedTold s₁ s' d w w' (n + 2) n at free number size end →
      ElementTold s s' d w w' n top c at free number size end
