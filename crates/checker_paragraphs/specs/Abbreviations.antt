-- What follows the visit of an Abbreviation's expression: a piece of n cells, of which cell c has its type. Its identifier is the only one of `is`.
use Rattle.std.specs.Prelude.{◌≡◌, true, false, List, [], ◌∷◌, ℕ, ◌-◌, ◌≤◌, ◌<◌, ◌^◌, ◌+◌, length, get_or, take, drop, replicate}
use Rattle.std.proofs.lemmas.List.Edits.{sets}
use Rattle.checker_merging.specs.Merging.{NewTold}
use Rattle.checker_pieces.specs.Closed.{Closing, Closed, Sizing, SizeIs, Wording, WordsAre}
use Rattle.checker_contracts.specs.Room.{entries_at}

pub record TypeAsk (s d : List ℕ) (n c : ℕ) : Type 0 where
  pub closing : Closing s d n
  pub sizing : (s₁ : List ℕ) → Closed s s₁ d n true → Sizing s₁ d n c

-- None of 34, 36 and 38.
pub record TypeFine (s s' d w : List ℕ) (n c : ℕ) (is : List ℕ) : Type 0 where
  pub same : length s' ≡ length s
  pub closed : Closed s s' d n true
  pub new : NewTold d w is true
  pub size : ℕ
  pub size_is : SizeIs s' d n c size
  pub small : size ≤ 32

-- The first finding.
pub data TypeFound (s s' d w : List ℕ) (n c : ℕ) (is : List ℕ) (number : ℕ) : Type 0 where
  several : number ≡ 34 → Closed s s' d n false → TypeFound s s' d w n c is number
  clash : number ≡ 36 → Closed s s' d n true → NewTold d w is false → TypeFound s s' d w n c is number
  large : number ≡ 38 → Closed s s' d n true → NewTold d w is true → (v : ℕ) → SizeIs s' d n c v → 32 < v → TypeFound s s' d w n c is number
  none : number ≡ 0 → TypeFine s s' d w n c is → TypeFound s s' d w n c is number

-- Its entry waits at entries_at; the pool is empty again up to `end`.
pub record Entered (s s' d w w' : List ℕ) (n c name q end : ℕ) : Type 0 where
  pub between : List ℕ
  pub last : ℕ
  pub words : WordsAre s d w between n c (entries_at + 4) last
  pub head : w' ≡ sets between entries_at ((last - entries_at - 1) ∷ 1 ∷ name ∷ q ∷ [])
  pub wiped : s' ≡ sets s 1 (replicate (end - 1) 0)

-- The visit returned the finding number₀ at place₀, or the piece, inner types ending at `end`.
pub record AbbreviatedAsk (s d w is : List ℕ) (number₀ c n end : ℕ) : Type 0 where
  pub type : number₀ ≡ 0 → TypeAsk s d n c
  pub entry : number₀ ≡ 0 → (s₁ : List ℕ) → TypeFine s s₁ d w n c is → Wording s₁ d n c (entries_at + 4)
  pub low : number₀ ≡ 0 → end < 2 ^ 40

pub data AbbreviatedTold (s s' d w w' p : List ℕ) (k q number₀ place₀ c n end number place count at : ℕ) : Type 0 where
  unvisited : (number₀ ≡ 0 → ⊥) → number ≡ number₀ → place ≡ place₀ → s' ≡ s → w' ≡ w → AbbreviatedTold s s' d w w' p k q number₀ place₀ c n end number place count at
  refused : number₀ ≡ 0 → (number ≡ 0 → ⊥) → place ≡ k → TypeFound s s' d w n c (drop 0 (take 1 (drop 1 p))) number → w' ≡ w →
      AbbreviatedTold s s' d w w' p k q number₀ place₀ c n end number place count at
  entered : number₀ ≡ 0 → number ≡ 0 → place ≡ k → count ≡ 1 → at ≡ entries_at → (between : List ℕ) → TypeFine s between d w n c (drop 0 (take 1 (drop 1 p))) →
      Entered between s' d w w' n c (get_or p 1 0) q end → AbbreviatedTold s s' d w w' p k q number₀ place₀ c n end number place count at
