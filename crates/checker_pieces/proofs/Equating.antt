-- The equations of a node, all together: they pass, or it is 33 or 39.
use mathlib.Core.Path.{◌≡◌, refl, sym, ap, subst, ◌∙◌}
use mathlib.Core.List.{List, [], ◌∷◌}
use mathlib.Core.Logic.{◌↔◌, inl, inr, ⊎_elim}
use Prim.Native.Nat.{ℕ, ◌+◌}
use Rattle.types_rules.specs.Equations.{AllP, In, Pairs, Solves, end, pair}
use Rattle.types_rules.specs.Trees.{finite}
use Rattle.types_rules.specs.Types.{Ty, Term, under, Each}
use Rattle.checker_rules.specs.Unknowns.{Valuation}
use Rattle.checker_rules.specs.Items.{Items, ◌⨾◌, equations, Meets, MeetsIn, Agree, Passes, Refuses}
use Rattle.types_cells.specs.Store.{tag_at}
use Rattle.types_cells.specs.Settled.{Fits}
use Rattle.types_unifier.specs.Merging.{Same, Done}
use Rattle.types_solver.specs.Equation.{pairs_with, Equation}
use Rattle.types_solver.proofs.Equating.{with_before}
use Rattle.checker_pieces.specs.Piece.{Solution, Matches, SameOn, Goes, Stops, Piece, Later}
use Rattle.checker_pieces.specs.Stage.{Ghost, Cell, SidesBy, Sides}
use Rattle.checker_pieces.proofs.Sides.{sides_map, sides_solve, sides_solved}
use Rattle.checker_pieces.proofs.Splitting.{no_valuation, no_typing, some_typing}
use Rattle.checker_pieces.proofs.Terms.{under_same}
use Rattle.checker_pieces.proofs.Walks.{items_earlier, passes_more}

-- Valuations that agree on the unknowns of the terms solve the same equations.
solves_same : (U : List ℕ) (τ τ' : Valuation) → SameOn U τ τ' → (l : List ℕ) (y k : ℕ) (es : Pairs Term) → SidesBy (λ c a. Each (λ x. In x U) a) l y k es → Solves (under τ) es → Solves (under τ') es
unfolding SidesBy
solves_same U τ τ' h [] y k end r e = tt
solves_same U τ τ' h [] y k (pair a b es) r e = absurd r
solves_same U τ τ' h (c ∷ l) y k end r e = absurd r
solves_same U τ τ' h (c ∷ l) y k (pair a b es) r e =
    (sym (under_same U τ τ' h a r.0) ∙ e.0 ∙ under_same U τ τ' h b r.1, solves_same U τ τ' h l (y + k) k es r.2 e.1)

module _ (s s' d : List ℕ) (n : ℕ) (l : List ℕ) (y k : ℕ) (G : Ghost) (Q : Piece s d n G.equations G.before G.items G.known G.mentioned G.cells)
    (es : Pairs Term) (D : Sides s d n G l y k es) (m : ℕ) where
  abbrev H : Items
  H = G.before

  abbrev t : Items
  t = G.items

  abbrev item : Items
  item = equations m es

  abbrev P₁ : Pairs ℕ
  P₁ = pairs_with l y k G.equations

  met : (τ : Valuation) → Meets (H ⨾ t) τ → Solves (under τ) es → Meets (H ⨾ (t ⨾ item)) τ
  unfolding MeetsIn
  met τ h e = (h.0, (h.1, e))

  solved_in : (τ : Valuation) → Meets (H ⨾ (t ⨾ item)) τ → Solves (under τ) es
  unfolding MeetsIn
  solved_in τ h = h.1.1

  joined : (τ : Valuation) → Meets (H ⨾ t) τ → Solves (under τ) es → (σ : ℕ → Ty) → Solution s d n G.equations σ → Matches G.cells τ σ → Solves σ P₁
  joined τ h e σ S j = sides_solve σ (under τ) (Cell s d n G) (λ c a C. C.denotes τ h σ S j) l y k es D G.equations e S.sat

  -- 33 where the store has no solution of possibly infinite types either, 39 where it has one.
  pub stop : (number : ℕ) → Equation s s' d n l y k number → (number ≡ 0 → ⊥) → Stops H t item number m
  unfolding Refuses
  stop number M ne = ⊎_elim (λ e. absurd (ne e)) (λ z. ⊎_elim apart_c endless_c z) M.numbers
    where
      apart_c : number ≡ 33 → Stops H t item number m
      apart_c e =
          let none = M.apart e G.equations Q.L Q.solved Q.pinned in
          (refl, no_valuation s d n G Q l y k es D (λ X. none finite X.σ X.fits X.sat X.obeys), inl (e, λ x. no_typing s d n G Q l y k es D x.0 x.1 none x.2))

      endless_c : number ≡ 39 → Stops H t item number m
      endless_c e =
          let none = M.endless e G.equations Q.L Q.solved Q.pinned in
          (refl, no_valuation s d n G Q l y k es D none.0, inr (e, some_typing s d n G Q l y k es D none.1))

  module _ (M : Equation s s' d n l y k 0) where
    done : Done s' n P₁
    done = M.goes refl G.equations Q.L Q.solved Q.pinned

    same : Same s s' d n P₁
    same = M.same refl G.equations Q.L Q.solved Q.pinned

    to : (σ : ℕ → Ty) → Solution s d n G.equations σ → Solves σ P₁ → Solution s' d n P₁ σ
    to σ S e = record { fits = subst (λ w. Fits w n σ) (sym M.still) S.fits; sat = e; obeys = same.to finite σ S.fits e S.obeys }

    back : (σ : ℕ → Ty) → Solution s' d n P₁ σ → Solution s d n G.equations σ
    back σ S =
        let F = subst (λ w. Fits w n σ) M.still S.fits in
        record { fits = F; sat = with_before σ l y k G.equations S.sat; obeys = same.from finite σ F S.sat S.obeys }

    has_one : (σ : ℕ → Ty) × Solution s' d n P₁ σ
    has_one = let X = M.some refl G.equations Q.L Q.solved Q.pinned in (X.σ, record { fits = X.fits; sat = X.sat; obeys = X.obeys })

    complete' : (σ : ℕ → Ty) → Solution s' d n P₁ σ → (τ₀ : Valuation) → Meets H τ₀ → (τ : Valuation) × Meets (H ⨾ (t ⨾ item)) τ × Matches G.cells τ σ × SameOn G.known τ τ₀
    complete' σ S τ₀ h =
        let C = back σ S in
        let q = Q.complete σ C τ₀ h in
        (q.0, met q.0 q.1 (sides_solved σ (under q.0) (Cell s d n G) (λ c a K. K.denotes q.0 q.1 σ C q.2) l y k es D G.equations S.sat), q.2, q.3)

    agree' : (τ τ' : Valuation) → Agree (t ⨾ item) τ τ' ↔ AllP (λ z c. τ z ≡ τ' z) G.cells
    unfolding Agree
    agree' τ τ' = (λ h. (Q.agree τ τ').0 h.0, λ h. ((Q.agree τ τ').1 h, tt))

    pub equated_goes : Goes H t item
    unfolding Passes
    equated_goes = let c = complete' has_one.0 has_one.1 Q.start.0 Q.start.1 in (c.0, items_earlier H t item c.0 c.1, solved_in c.0 c.1)

    pub equated : Piece s' d n P₁ H (t ⨾ item) G.known G.mentioned G.cells
    equated = record {
      L = done.L;
      solved = done.solved;
      pinned = same.pinned;
      tracked = Q.tracked;
      more = Q.more;
      start = Q.start;
      opened = Q.opened;
      passes = passes_more H t item Q.passes equated_goes;
      local = λ τ τ' h j.
          met τ' (Q.local τ τ' h (items_earlier H t item τ j))
          (solves_same G.mentioned τ τ' h l y k es (sides_map (Cell s d n G) (λ c a. Each (λ x. In x G.mentioned) a) (λ c a C. C.over) l y k es D) (solved_in τ j));
      sound = λ τ j.
          let h = items_earlier H t item τ j in
          let q = Q.sound τ h in
          (q.0, to q.0 q.1 (joined τ h (solved_in τ j) q.0 q.1 q.2), q.2);
      complete = complete';
      some = has_one;
      agree = agree';
      open_cells = λ i b e.
          ⊎_elim (λ z. inl z) (λ z. inr (z.0, λ σ S. z.1 σ (back σ S))) (Q.open_cells i b (sym (ap (λ w. tag_at w i) M.still) ∙ e));
    }

    pub equated_later : Later s s' d n n G.equations P₁ H t (t ⨾ item) G.cells G.cells
    equated_later = record { solutions = back; items = items_earlier H t item; unknowns = λ τ σ j. j }
