-- CLOSING A PIECE (document 01: 34 "a piece has several solutions", at the closing node), and what is asked of a closed one: sizes (38) and type words.
use Rattle.std.specs.Prelude.{◌≡◌, Bool, true, false, List, ℕ, ◌≤◌, ◌<◌, ◌^◌, length}
use Rattle.types_rules.specs.Equations.{InP, Pairs}
use Rattle.types_rules.specs.Types.{Ty, size}
use Rattle.types_rules.specs.Words.{words}
use Rattle.checker_rules.specs.Unknowns.{Valuation}
use Rattle.checker_rules.specs.Items.{◌⨾◌, piece, Meets, Passes, Refuses, MeetsIn}
use Rattle.types_cells.specs.Store.{frozen}
use Rattle.types_cells.specs.Settled.{lower}
use Rattle.types_solver.specs.Sizes.{cap, Model}
use Rattle.types_solver.specs.Written.{Resolved, Wrote}
use Rattle.checker_pieces.specs.Piece.{Solution, Steady, Extends}
use Rattle.checker_pieces.specs.Stage.{Ghost, StandsReady, Stands}

-- The function does not look at the runs.
pub record Closing (s d : List ℕ) (n : ℕ) : Type 0 where
  pub top : ℕ
  pub ready : StandsReady s d n top

-- The piece G has one solution, `type`, and the store has the marks of `finite`, in which a settled cell counts 1. Any node m may close it.
pub record Shut (s d : List ℕ) (n : ℕ) (G : Ghost) : Type 0 where
  pub type : ℕ → Ty
  pub solution : Solution s d n G.equations type
  pub goes : (m : ℕ) → Passes G.items (MeetsIn G.before) → Passes (piece m G.items) (MeetsIn G.before)
  pub extends : (m : ℕ) → Extends G.before (piece m G.items) G.known
  pub steady : (m : ℕ) → Steady (G.before ⨾ piece m G.items) G.mentioned
  -- the unknown x of cell c has one type
  pub types : (m x c : ℕ) → InP x c G.cells → (τ : Valuation) → Meets (G.before ⨾ piece m G.items) τ → τ x ≡ type c
  pub links : Pairs ℕ
  pub model : Model s d n links type
  pub resolved : Resolved s n links
  pub few : length d < 2 ^ 31

-- True: each piece that stands in the store has one solution. False: 34.
pub record Closed (s s' d : List ℕ) (n : ℕ) (one : Bool) : Type 0 where
  pub low : lower s' ≡ lower s
  pub still : frozen s' ≡ frozen s
  pub stands : (top : ℕ) (G : Ghost) → Stands s d n top G → Stands s' d n top G
  pub goes : one ≡ true → (top : ℕ) (G : Ghost) → Stands s d n top G → Shut s' d n G
  pub stops : one ≡ false → (top : ℕ) (G : Ghost) → Stands s d n top G → (m : ℕ) → Passes G.items (MeetsIn G.before) → Refuses (piece m G.items) (MeetsIn G.before) 34 m

-- Cell c of a closed piece.
pub record Sizing (s d : List ℕ) (n c : ℕ) : Type 0 where
  pub ghost : Ghost
  pub shut : Shut s d n ghost
  pub made : c < n

-- The size of its type, at most 33.
abbrev pub SizeIs : List ℕ → List ℕ → ℕ → ℕ → ℕ → Type 0
SizeIs s d n c v = (G : Ghost) (S : Shut s d n G) → v ≡ cap (size (S.type c))

-- Cell c of a closed piece, whose type is of size 32 at most, and a place in an area.
pub record Wording (s d : List ℕ) (n c at : ℕ) : Type 0 where
  pub sizing : Sizing s d n c
  pub small : size (sizing.shut.type c) ≤ 32
  pub place : at < 2 ^ 32

-- The words of its type, from `at` on, end at e.
abbrev pub WordsAre : List ℕ → List ℕ → List ℕ → List ℕ → ℕ → ℕ → ℕ → ℕ → Type 0
WordsAre s d out out' n c at e = (G : Ghost) (S : Shut s d n G) → Wrote out out' at e (words (S.type c))
