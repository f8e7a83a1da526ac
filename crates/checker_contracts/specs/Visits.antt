-- Nodes visited once: whose unknowns are whose, what stays in the areas, and what walking over a part of the tree comes to.
use Rattle.std.specs.Prelude.{◌≡◌, Bool, true, false, List, ℕ, ◌*◌, ◌≤◌, ◌<◌, length, get_or}
use Rattle.words.specs.Loops.{occurrences}
use Rattle.types_rules.specs.Equations.{In, end}
use Rattle.checker_rules.specs.Dictionary.{Dictionary, blank}
use Rattle.checker_rules.specs.Items.{Items, skip}
use Rattle.checker_pieces.specs.Piece.{Walked}
use Rattle.checker_pieces.specs.Stage.{Ghost, SlotOf}
use Rattle.checker_dictionary.specs.Index.{index_at, index_end}
use Rattle.checker_contracts.specs.Room.{frames_at}

-- x is an unknown of one of the nodes l.
abbrev pub Owned : List ℕ → ℕ → Type 0
Owned l x = (k : ℕ) × In k l × SlotOf k x

-- No unknown of the nodes l is among U.
abbrev pub Fresh : List ℕ → List ℕ → Type 0
Fresh l U = (x : ℕ) → Owned l x → In x U → ⊥

-- Each node stands once.
abbrev pub EachOnce : List ℕ → Type 0
EachOnce l = (j : ℕ) → occurrences j l ≤ 1

-- A piece that has no item yet, after the items H: what holds between pieces is said of it.
abbrev pub idle : Items → List ℕ → Ghost
idle H U = record { equations = end; before = H; items = skip; known = U; mentioned = U; cells = end }

-- The words of the work area that stay: the scope's rows, the dictionary's index, and from frames_at on those below `free`.
pub record Spared (w w' : List ℕ) (rows free : ℕ) : Type 0 where
  pub size : length w' ≡ length w
  pub scope : (i : ℕ) → i < 2 * rows → get_or w' i 0 ≡ get_or w i 0
  pub index : (i : ℕ) → index_at ≤ i → i < index_end → get_or w' i 0 ≡ get_or w i 0
  pub frames : (i : ℕ) → frames_at ≤ i → i < free → get_or w' i 0 ≡ get_or w i 0

-- The items c of the nodes l pass after H, between pieces.
pub record Went (H c : Items) (U l : List ℕ) : Type 0 where
  pub unknowns : List ℕ
  pub walked : Walked H c U unknowns (Owned l)

-- The names that are global already, where a Text is an Axiom's; otherwise none (checker_rules/specs/Rules, text_items).
unfoldable pub globals_if : Bool → Dictionary → Dictionary
globals_if true D = D
globals_if false D = blank
