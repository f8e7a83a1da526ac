-- What `close` promises, from the test for finite types and from the search for open cells; and what a closed piece lets one ask for.
use mathlib.Core.Path.{◌≡◌, refl, sym, subst}
use mathlib.Core.Bool.{Bool, true, false}
use mathlib.Core.List.{List}
use mathlib.Core.Logic.{⊎_elim}
use Prim.Native.Nat.{ℕ, ◌<◌}
use native.Mathlib.Omega.{arith}
use Rattle.types_rules.proofs.Terms.{bool_no}
use Rattle.types_rules.specs.Types.{size}
use Rattle.checker_rules.specs.Items.{piece, Passes, Refuses, MeetsIn}
use Rattle.types_cells.specs.Store.{frozen}
use Rattle.types_cells.specs.Calls.{Above}
use Rattle.types_solver.specs.Sizes.{mark_at, TestedFinite, Measured}
use Rattle.types_solver.specs.Answers.{Finite, Left}
use Rattle.types_solver.specs.Written.{Writing}
use Rattle.types_solver.proofs.Accepted.{model, least}
use Rattle.types_cells.proofs.Growing.{lt_or_ge}
use Rattle.types_solver.proofs.Marking.{cap_low}
use Rattle.types_solver.proofs.Sizing.{high}
use Rattle.checker_pieces.specs.Piece.{Piece}
use Rattle.checker_pieces.specs.Stage.{Ghost, Stands}
use Rattle.checker_pieces.specs.Closed.{Shut, Closed, SizeIs, Wording}
use Rattle.checker_pieces.proofs.ClosingLaws.{tested, tested_true, finite_after, to_tested, closed_goes, closed_stops, closed_extends, closed_steady, closed_type}
use Rattle.checker_pieces.proofs.Lengths.{words_few}

module _ (s u d : List ℕ) (n : ℕ) (b : Bool) (T : TestedFinite s u n b) where
  module _ (top : ℕ) (G : Ghost) (S : Stands s d n top G) where
    abbrev after : Piece u d n G.equations G.before G.items G.known G.mentioned G.cells
    after = tested s u d n b T G.equations G.before G.items G.known G.mentioned G.cells S.piece

    pub stands : Stands u d n top G
    stands = record { piece = after; above = subst (λ w. Above w n top) (sym T.still) S.above; few = S.few }

    finite : Finite (frozen u) n after.L
    finite = finite_after s u d n b T G.equations G.before G.items G.known G.mentioned G.cells S.piece

    several : Left u n true → (m : ℕ) → Passes G.items (MeetsIn G.before) → Refuses (piece m G.items) (MeetsIn G.before) 34 m
    several Z m = closed_stops u d n G.equations G.before G.items G.known G.mentioned G.cells after m finite Z

    shut : Left u n false → Shut u d n G
    shut Z =
        let e = tested_true s u d n b T G.equations G.before G.items G.known G.mentioned G.cells S.piece in
        let Q = S.piece in
        let X = Q.some in
        let O = to_tested s u d n b T G.equations G.before G.items G.known G.mentioned G.cells Q X.0 X.1 in
        record {
          type = X.0;
          solution = O;
          goes = λ m. closed_goes u d n G.equations G.before G.items G.known G.mentioned G.cells after m finite Z;
          extends = λ m. closed_extends u d n G.equations G.before G.items G.known G.mentioned G.cells after m finite Z;
          steady = λ m. closed_steady u d n G.equations G.before G.items G.known G.mentioned G.cells after m finite Z;
          types = λ m x c i τ h. closed_type u d n G.equations G.before G.items G.known G.mentioned G.cells after m finite Z X.0 O x c i τ h;
          links = Q.L;
          model = model s u d n (subst (TestedFinite s u n) e T) G.equations Q.L Q.solved Q.pinned (record { σ = X.0; fits = X.1.fits; sat = X.1.sat; obeys = X.1.obeys });
          resolved = Z.resolved refl Q.L (T.grown G.equations Q.L Q.solved).held;
          few = S.few;
        }

  pub closed_several : (r : Bool) → Left u n r → r ≡ true → Closed s u d n false
  closed_several r Z q = record {
    low = T.same.low;
    still = T.still;
    stands = stands;
    goes = λ e. absurd (bool_no false e refl);
    stops = λ e top G S m p. several top G S (subst (Left u n) q Z) m p;
  }

  pub closed_one : (r : Bool) → Left u n r → r ≡ false → Closed s u d n true
  closed_one r Z q = record {
    low = T.same.low;
    still = T.still;
    stands = stands;
    goes = λ e top G S. shut top G S (subst (Left u n) q Z);
    stops = λ e. absurd (bool_no true refl e);
  }

-- Sizes and words of a closed piece.
module _ (s d : List ℕ) (n c : ℕ) where
  pub size_is : (v : ℕ) → c < n → Measured s d c v → SizeIs s d n c v
  size_is v l K G S = K.is n S.links S.type S.model (least s n S.links S.model.marked.held S.resolved S.type) l

  pub may_write : (at : ℕ) → Wording s d n c at → Writing s d at c
  may_write at A =
      let S = A.sizing.shut in
      let small = A.small in
      record {
        n = n;
        L = S.links;
        σ = S.type;
        model = S.model;
        resolved = S.resolved;
        made = A.sizing.made;
        few = S.few;
        small = ⊎_elim
            (λ z. omega arith)
            (λ z. let a = high s d n S.links S.type S.model c A.sizing.made (omega arith) in let b = cap_low (size (S.type c)) (omega arith) in absurd (omega arith))
            (lt_or_ge (mark_at s c) 33);
        room = let w = words_few (S.type c) in let p = A.place in omega arith;
      }
