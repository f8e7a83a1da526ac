-- A store with cells more, in which every piece stands as it stood: settled cells, and cells with formers.
use Rattle.std.specs.Prelude.{◌≡◌, List, ℕ, ◌≤◌}
use Rattle.types_cells.specs.Settled.{lower}
use Rattle.checker_pieces.specs.Piece.{Later}
use Rattle.checker_pieces.specs.Stage.{Ghost, Stands, Uses}

-- At most x cells were used.
pub record Enlarged (s s' d : List ℕ) (n top n' top' x : ℕ) : Type 0 where
  pub wide : n ≤ n'
  pub low : lower s' ≡ lower s
  pub stands : (G : Ghost) → Stands s d n top G → Stands s' d n' top' G
  pub later : (G : Ghost) → Stands s d n top G → Later s s' d n n' G.equations G.equations G.before G.items G.items G.cells G.cells
  pub uses : Uses s s' n top n' top' x
