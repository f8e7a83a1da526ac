-- A piece between pieces: it begins with an empty store, and once it is closed or refused, so are the items `piece k t`.
use mathlib.Core.Path.{◌≡◌, refl}
use mathlib.Core.Bool.{true, false}
use mathlib.Core.List.{List}
use mathlib.Core.Logic.{◌↔◌, inl}
use Prim.Native.Nat.{ℕ, ◌<◌, ◌^◌}
use native.Mathlib.Omega.{arith}
use lib.ListN.{length}
use Rattle.types_rules.specs.Trees.{Extent, Tree}
use Rattle.checker_rules.specs.Items.{Items, skip, ◌⨾◌, piece, MeetsIn, Agree, And, Passes, Refuses}
use Rattle.checker_rules.proofs.ItemLaws.{passes_ext, refuses_ext}
use Rattle.checker_pieces.specs.Piece.{Steady, Walked, Stops}
use Rattle.checker_pieces.specs.Stage.{Ghost, Stands, Advanced}
use Rattle.checker_pieces.specs.Closed.{Closed}
use Rattle.checker_pieces.proofs.Growing.{begin}
use Rattle.checker_pieces.proofs.Walks.{Alike, piece_alike}
use Rattle.checker_contracts.specs.Visits.{idle}
use Rattle.types_cells.specs.Layout.{first_run, area_size}

-- OPENED: no cells, no items.
pub opened : (s d : List ℕ) (H : Items) (U : List ℕ) → Steady H U → length s ≡ area_size → length d < 2 ^ 31 → Stands s d 0 first_run (idle H U)
opened s d H U S z few = record {
  piece = begin s d H U z S;
  above = record { low = omega arith; parts = λ i l. absurd (omega arith); names = λ i l e. absurd (omega arith) };
  few = few;
}

-- No item before the first.
without_skip : (H : Items) (ε : Extent) (τ : ℕ → Tree ε) → MeetsIn (H ⨾ skip) ε τ ↔ MeetsIn H ε τ
unfolding MeetsIn
without_skip H ε τ = (λ h. h.0, λ h. (h, tt))

alike_skip : (t : Items) → Alike (skip ⨾ t) t
unfolding MeetsIn Agree Passes
alike_skip t = (
  λ τ. (λ h. h.1, λ h. (tt, h)),
  λ τ τ'. (λ h. h.1, λ h. (tt, h)),
  λ H p. passes_ext t (And (MeetsIn H) skip) (MeetsIn H) (λ ε τ. (λ h. h.0, λ h. (h, tt))) p.1,
)

-- REFUSED: the finding of the items t is that of the piece.
pub piece_refused : (H : Items) (k : ℕ) (t : Items) (f m : ℕ) → Stops H skip t f m → Refuses (piece k t) (MeetsIn H) f m
unfolding Refuses
piece_refused H k t f m r = inl (refuses_ext t (MeetsIn (H ⨾ skip)) (MeetsIn H) f m (without_skip H) r)

-- CLOSED: with the items t, by the node k.
module _ (s s' s'' d : List ℕ) (n top : ℕ) (H : Items) (U : List ℕ) (k : ℕ) (t : Items) (M : ℕ → Type 0) (A : Advanced s s' d 0 first_run n top (idle H U) t M) (few : length d < 2 ^ 31)
  where
    abbrev pub whole : Ghost
    whole = record { equations = A.equations; before = H; items = t; known = U; mentioned = A.mentioned; cells = A.cells }

    pub whole_stands : Stands s' d n top whole
    whole_stands = record {
      piece = piece_alike s' d n A.equations H (skip ⨾ t) t U A.mentioned A.cells (alike_skip t) A.piece;
      above = A.above;
      few = few;
    }

    pub whole_passes : Passes t (MeetsIn H)
    whole_passes = passes_ext t (MeetsIn (H ⨾ skip)) (MeetsIn H) (without_skip H) A.goes

    pub piece_walked : Closed s' s'' d n true → Walked H (piece k t) U A.mentioned M
    piece_walked C =
        let S = C.goes refl top whole whole_stands in
        record { goes = S.goes k whole_passes; steady = S.steady k; extends = S.extends k; wider = A.wider; new = A.new }

    pub piece_several : Closed s' s'' d n false → Refuses (piece k t) (MeetsIn H) 34 k
    piece_several C = C.stops refl top whole whole_stands k whole_passes
