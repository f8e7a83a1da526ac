-- What actual number j of the Include at node k asks and tells after its visit: its type is cell c of n; the words of its elements' type go to `at`.
use Rattle.std.specs.Prelude.{◌≡◌, List, ℕ, ◌<◌, ◌^◌, length, set}
use Rattle.checker_closing.specs.Elements.{ElementAsk, ElementTold}
use Rattle.checker_closing.specs.Nodes.{LinedAt}
use Rattle.checker_closing.specs.declared.results.Lined.{Lined}

pub record PlacedAsk (s d w : List ℕ) (at free k j : ℕ) (places : List ℕ) (c n top end : ℕ) : Type 0 where
  pub near : k < 2 ^ 32
  pub place : at < 2 ^ 32
  pub inside : j < length places
  pub element : ElementAsk s d w n top c at end free

pub data PlacedTold (s s' d w w' : List ℕ) (at free k j : ℕ) (places places' : List ℕ) (c n top : ℕ) (r : Lined) : Type 0 where
  refused : (number size end : ℕ) → ElementTold s s' d w w' n top c at free number size end → (number ≡ 0 → ⊥) → places' ≡ places → LinedAt r number k 0 0 →
      PlacedTold s s' d w w' at free k j places places' c n top r
  fits : (number size end : ℕ) → ElementTold s s' d w w' n top c at free number size end → number ≡ 0 → places' ≡ set places j at → LinedAt r 0 k 0 end →
      PlacedTold s s' d w w' at free k j places places' c n top r

-- The same with the finding of the actual's visit, `number` at `place`.
pub record ActualAsk (s d w : List ℕ) (at free k j : ℕ) (places : List ℕ) (number c n top end : ℕ) : Type 0 where
  pub going : number ≡ 0 → PlacedAsk s d w at free k j places c n top end

pub data ActualTold (s s' d w w' : List ℕ) (at free k j : ℕ) (places places' : List ℕ) (number place c n top : ℕ) (r : Lined) : Type 0 where
  stopped : (number ≡ 0 → ⊥) → s' ≡ s → w' ≡ w → places' ≡ places → LinedAt r number place 0 0 → ActualTold s s' d w w' at free k j places places' number place c n top r
  went : number ≡ 0 → PlacedTold s s' d w w' at free k j places places' c n top r → ActualTold s s' d w w' at free k j places places' number place c n top r
