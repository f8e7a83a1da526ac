-- Stores that grow while every piece stands: composed, with a settled cell more, with formers more.
use mathlib.Core.Path.{◌≡◌, refl, sym, subst, ◌∙◌}
use mathlib.Core.List.{List}
use Prim.Native.Nat.{ℕ, suc, ◌+◌}
use native.Mathlib.Omega.{arith}
use Rattle.types_rules.specs.Types.{Term}
use Rattle.types_cells.specs.Store.{frozen}
use Rattle.types_cells.specs.Calls.{Above}
use Rattle.types_solver.specs.Growth.{Builds}
use Rattle.types_cells.specs.Settled.{lower, heap, Reads, Readable, Entering, Entered}
use Rattle.types_cells.proofs.SettlingLaws.{heap_kept}
use Rattle.checker_pieces.specs.Stage.{Ghost, Stands, Room, Uses}
use Rattle.checker_pieces.proofs.Walks.{later_refl, later_on}
use Rattle.checker_pieces.proofs.Stages.{room_less, plain_making}
use Rattle.checker_pieces.proofs.Growing.{settled, settled_later, built, built_later}
use Rattle.checker_lookup.specs.Scoped.{SettledAt}
use Rattle.checker_lookup.specs.Enlarged.{Enlarged}

pub enlarged_refl : (s d : List ℕ) (n top : ℕ) → Enlarged s s d n top n top 0
enlarged_refl s d n top = record {
  wide = omega arith;
  low = refl;
  stands = λ G S. S;
  later = λ G S. later_refl s d n G.equations G.before G.items G.cells;
  uses = λ y R. room_less s n top y (0 + y) (omega arith) R;
}

pub enlarged_on : (s t u d : List ℕ) (n top m mid k last x y : ℕ) → Enlarged s t d n top m mid x → Enlarged t u d m mid k last y → Enlarged s u d n top k last (x + y)
enlarged_on s t u d n top m mid k last x y A B = record {
  wide = let a = A.wide in let b = B.wide in omega arith;
  low = B.low ∙ A.low;
  stands = λ G S. B.stands G (A.stands G S);
  later = λ G S.
      later_on s t u d n m k G.equations G.equations G.equations G.before G.items G.items G.items G.cells G.cells G.cells
      (A.later G S) (B.later G (A.stands G S));
  uses = λ z R. B.uses z (A.uses (y + z) (room_less s n top (x + (y + z)) (x + y + z) (omega arith) R));
}

-- A settled term stays where it stands.
pub settled_kept : (s t d : List ℕ) (G : Ghost) → lower t ≡ lower s → (a : Term) (p : ℕ) → SettledAt s d G a p → SettledAt t d G a p
settled_kept s t d G e a p A = record { over = A.over; type = A.type; reads = subst (λ (h : List ℕ). Reads h p A.type) (sym (heap_kept s t d e)) A.reads; means = A.means }

-- What a settled cell asks.
pub entering : (s d : List ℕ) (n top p : ℕ) (G : Ghost) → Stands s d n top G → Room s n top 1 → Readable (heap s d) p → Entering s d n p
entering s d n top p G S R r = record { making = plain_making s d n top 1 G S R (omega arith) 0 (omega arith); pinned = S.piece.pinned; few = S.few; readable = r }

-- A SETTLED CELL more.
module _ (s s' d : List ℕ) (n p : ℕ) (A : Entering s d n p) (E : Entered s s' d n p) where
  pub settled_enlarged : (top : ℕ) → Enlarged s s' d n top (suc n) top 1
  settled_enlarged top = record {
    wide = omega arith;
    low = E.low;
    stands = λ G S. record {
      piece = settled s s' d n p A E A.readable.type A.readable.reads G.equations G.before G.items G.known G.mentioned G.cells S.piece;
      above = E.above top S.above;
      few = S.few;
    };
    later = λ G S. settled_later s s' d n p A E A.readable.type A.readable.reads G.equations G.before G.items G.known G.mentioned G.cells S.piece;
    uses = λ y R. record {
      cells = let z = R.cells in omega arith;
      words = let z = R.words in omega arith;
      fit = let z = R.fit in let e = E.fit in omega arith;
    };
  }

-- FORMERS more, and words in the runs.
pub built_enlarged : (s s' d : List ℕ) (n top n' top' x : ℕ) → Builds s s' d n n' → (Above (frozen s) n top → Above (frozen s') n' top') → Uses s s' n top n' top' x → Enlarged s s' d n top n' top' x
built_enlarged s s' d n top n' top' x B above uses = record {
  wide = B.grows.wide;
  low = B.grows.low;
  stands = λ G S. record {
    piece = built s s' d n n' B G.equations G.before G.items G.known G.mentioned G.cells S.piece;
    above = above S.above;
    few = S.few;
  };
  later = λ G S. built_later s s' d n n' B G.equations G.before G.items G.known G.mentioned G.cells S.piece;
  uses = uses;
}
