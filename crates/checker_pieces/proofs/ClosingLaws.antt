-- A piece is closed (34), and the one around it is taken up again.
use mathlib.Core.Path.{◌≡◌, refl, sym, ap, subst, ◌∙◌}
use mathlib.Core.Bool.{Bool, true, false}
use mathlib.Core.List.{List}
use mathlib.Core.Logic.{inl, inr, ⊎_elim}
use Prim.Native.Nat.{ℕ, ◌<◌, ◌≤◌}
use Rattle.types_rules.specs.Equations.{AllP, In, InP, Pairs, pair, end}
use Rattle.types_rules.specs.Types.{Ty}
use Rattle.types_rules.specs.Trees.{finite}
use Rattle.checker_rules.specs.Unknowns.{Valuation}
use Rattle.checker_rules.specs.Items.{Items, ◌⨾◌, piece, Meets, Agree, Passes, Refuses, MeetsIn}
use Rattle.types_cells.specs.Layout.{max_cells}
use Rattle.types_cells.specs.Store.{frozen, tag_at, Solved}
use Rattle.types_cells.specs.Settled.{Pinned, Fits}
use Rattle.types_solver.specs.Sizes.{TestedFinite}
use Rattle.types_solver.specs.Answers.{SolutionOf, Finite, Left, Differ}
use Rattle.types_solver.proofs.Accepted.{same_pinned, same_obeys}
use Rattle.types_solver.proofs.Opening.{finite_none}
use Rattle.checker_pieces.specs.Piece.{Solution, Matches, SameOn, Local, Goes, Piece, Accounted, Later, Steady, Extends}
use Rattle.types_solver.proofs.Marking.{same_back}
use Rattle.checker_pieces.proofs.Between.{passes_after}
use Rattle.checker_pieces.proofs.Walks.{passes_more}

pub all_in_lem : (R : ℕ → ℕ → Type 0) (P : Pairs ℕ) (a b : ℕ) → AllP R P → InP a b P → R a b
all_in_lem R end a b q i = absurd i
all_in_lem R (pair c e P) a b q (inl i) = subst (λ z. R z b) (sym i.0) (subst (λ z. R c z) (sym i.1) q.0)
all_in_lem R (pair c e P) a b q (inr i) = all_in_lem R P a b q.1 i

-- The same store with other words, where the same assignments are solutions.
module _ (s s' d : List ℕ) (n : ℕ) (P₀ L : Pairs ℕ) (S' : Solved s' n P₀ L) (P' : Pinned s' d n) (still : (i : ℕ) → i < n → tag_at (frozen s') i ≡ tag_at (frozen s) i)
    (to : (σ : ℕ → Ty) → Solution s d n P₀ σ → Solution s' d n P₀ σ) (from : (σ : ℕ → Ty) → Solution s' d n P₀ σ → Solution s d n P₀ σ)
    (H t : Items) (U₀ U : List ℕ) (ρ : Pairs ℕ) (Q : Piece s d n P₀ H t U₀ U ρ) where
  accounted : (i : ℕ) → i < n → tag_at (frozen s') i ≡ 0 → Accounted s' d n P₀ ρ i
  accounted i l e = ⊎_elim inl (λ z. inr (z.0, λ σ S. z.1 σ (from σ S))) (Q.open_cells i l (sym (still i l) ∙ e))

  pub moved : Piece s' d n P₀ H t U₀ U ρ
  moved = record {
    L = L;
    solved = S';
    pinned = P';
    tracked = Q.tracked;
    more = Q.more;
    local = Q.local;
    sound = λ τ m. let q = Q.sound τ m in (q.0, to q.0 q.1, q.2);
    complete = λ σ S τ₀ h. Q.complete σ (from σ S) τ₀ h;
    some = (Q.some.0, to Q.some.0 Q.some.1);
    start = Q.start;
    opened = Q.opened;
    passes = Q.passes;
    agree = Q.agree;
    open_cells = accounted;
  }

  -- THE PIECE AROUND IS TAKEN UP AGAIN after items c of pieces inside it.
  module _ (c : Items) (U' : List ℕ) (wider : (x : ℕ) → In x U → In x U') (lc : Local ((H ⨾ t) ⨾ c) U') (E : Extends (H ⨾ t) c U) (goes : Goes H t c) (agrees : (τ τ' : Valuation) → Agree c τ τ') where
    pub resumed : Piece s' d n P₀ H (t ⨾ c) U₀ U' ρ
    unfolding MeetsIn Agree
    resumed = record {
      L = L;
      solved = S';
      pinned = P';
      tracked = tracked' ρ Q.tracked;
      more = λ x i. wider x (Q.more x i);
      local = λ τ τ' h m. let k = lc τ τ' h ((m.0, m.1.0), m.1.1) in (k.0.0, (k.0.1, k.1));
      sound = λ τ m. let q = Q.sound τ (m.0, m.1.0) in (q.0, to q.0 q.1, q.2);
      complete = λ σ S τ₀ h.
          let q = Q.complete σ (from σ S) τ₀ h in
          let e = E q.0 q.1 in
          (e.0, (e.1.0.0, (e.1.0.1, e.1.1)), matched ρ q.0 e.0 σ e.2 Q.tracked q.2, λ x i. e.2 x (Q.more x i) ∙ q.3 x i);
      some = (Q.some.0, to Q.some.0 Q.some.1);
      start = Q.start;
      opened = Q.opened;
      passes = passes_more H t c Q.passes goes;
      agree = λ τ τ'. (λ h. (Q.agree τ τ').0 h.0, λ h. ((Q.agree τ τ').1 h, agrees τ τ'));
      open_cells = accounted;
    }
      where
        tracked' : (R : Pairs ℕ) → AllP (λ x i. In x U × (i < n)) R → AllP (λ x i. In x U' × (i < n)) R
        tracked' end q = tt
        tracked' (pair x i R) q = ((wider x q.0.0, q.0.1), tracked' R q.1)

        matched : (R : Pairs ℕ) (τ τ' : Valuation) (σ : ℕ → Ty) → SameOn U τ' τ → AllP (λ x i. In x U × (i < n)) R → Matches R τ σ → Matches R τ' σ
        matched end τ τ' σ e q m = tt
        matched (pair x i R) τ τ' σ e q m = (e x q.0.0 ∙ m.0, matched R τ τ' σ e q.1 m.1)

    pub resumed_later : Later s s' d n n P₀ P₀ H t (t ⨾ c) ρ ρ
    unfolding MeetsIn
    resumed_later = record { solutions = from; items = λ τ m. (m.0, m.1.0); unknowns = λ τ σ m. m }

-- `finite` on a piece: it answers true, and the piece stands.
module _ (s s' d : List ℕ) (n : ℕ) (b : Bool) (T : TestedFinite s s' n b) (P₀ : Pairs ℕ) (H t : Items) (U₀ U : List ℕ) (ρ : Pairs ℕ) (Q : Piece s d n P₀ H t U₀ U ρ) where
  plain : (σ : ℕ → Ty) → Solution s d n P₀ σ → SolutionOf s d n P₀
  plain σ S = record { σ = σ; fits = S.fits; sat = S.sat; obeys = S.obeys }

  pub tested_true : b ≡ true
  tested_true = go b refl
    where
      go : (c : Bool) → b ≡ c → c ≡ true
      go true e = refl
      go false e = absurd (finite_none s s' d n (subst (TestedFinite s s' n) e T) P₀ Q.L Q.solved (plain Q.some.0 Q.some.1))

  few : n ≤ max_cells
  few = Q.solved.held.few

  pub to_tested : (σ : ℕ → Ty) → Solution s d n P₀ σ → Solution s' d n P₀ σ
  to_tested σ S = record { fits = subst (λ w. Fits w n σ) (sym T.still) S.fits; sat = S.sat; obeys = same_obeys s s' d n T.same few finite σ S.obeys }

  from_tested : (σ : ℕ → Ty) → Solution s' d n P₀ σ → Solution s d n P₀ σ
  from_tested σ S = record { fits = subst (λ w. Fits w n σ) T.still S.fits; sat = S.sat; obeys = same_obeys s' s d n (same_back s s' T.same) few finite σ S.obeys }

  pub tested : Piece s' d n P₀ H t U₀ U ρ
  tested = moved s s' d n P₀ Q.L (T.grown P₀ Q.L Q.solved) (same_pinned s s' d n T.same few Q.pinned) (λ i l. ap (λ w. tag_at w i) T.still) to_tested from_tested H t U₀ U ρ Q

  pub tested_finite : Finite (frozen s') n Q.L
  tested_finite i l = subst (λ w. Finite w n Q.L) (sym T.still) (λ j k. (T.sizes tested_true P₀ Q.L Q.solved j k).finite) i l

  pub tested_later : Later s s' d n n P₀ P₀ H t t ρ ρ
  tested_later = record { solutions = from_tested; items = λ τ m. m; unknowns = λ τ σ m. m }

  -- the same of the piece that stands
  pub finite_after : Finite (frozen s') n tested.L
  unfolding tested moved
  finite_after = tested_finite

-- A PIECE IS CLOSED at the node m.
module _ (s d : List ℕ) (n : ℕ) (P₀ : Pairs ℕ) (H t : Items) (U₀ U : List ℕ) (ρ : Pairs ℕ) (Q : Piece s d n P₀ H t U₀ U ρ) (m : ℕ) (F : Finite (frozen s) n Q.L) where
  abbrev whole : (σ : ℕ → Ty) → Solution s d n P₀ σ → SolutionOf s d n P₀
  whole σ S = record { σ = σ; fits = S.fits; sat = S.sat; obeys = S.obeys }

  part : (X : SolutionOf s d n P₀) → Solution s d n P₀ X.σ
  part X = record { fits = X.fits; sat = X.sat; obeys = X.obeys }

  -- 34: two solutions.
  pub closed_stops : Left s n true → Passes t (MeetsIn H) → Refuses (piece m t) (MeetsIn H) 34 m
  unfolding Refuses MeetsIn
  closed_stops Z p =
      let D = Z.several refl d P₀ Q.L Q.solved Q.pinned F in
      let a = Q.complete D.one.σ (part D.one) Q.start.0 Q.start.1 in
      let b = Q.complete D.other.σ (part D.other) Q.start.0 Q.start.1 in
      inr (p, refl, refl, (a.0, b.0, (a.1.0, a.1.1), (b.1.0, b.1.1), λ g. apart D a.0 b.0 a.2 b.2 ((Q.agree a.0 b.0).0 g)))
    where
      apart : (D : Differ s d n P₀) (τ τ' : Valuation) → Matches ρ τ D.one.σ → Matches ρ τ' D.other.σ → AllP (λ x c. τ x ≡ τ' x) ρ → ⊥
      apart D τ τ' j k q = D.differ (⊎_elim
          (λ z. sym (all_in_lem (λ x c. τ x ≡ D.one.σ c) ρ z.0 D.cell j z.1) ∙ all_in_lem (λ x c. τ x ≡ τ' x) ρ z.0 D.cell q z.1 ∙ all_in_lem (λ x c. τ' x ≡ D.other.σ c) ρ z.0 D.cell k z.1)
          (λ z. z.1 D.one.σ (part D.one) ∙ sym (z.1 D.other.σ (part D.other)))
          (Q.open_cells D.cell D.made D.bare))

  module _ (Z : Left s n false) where
    pub one : (σ σ' : ℕ → Ty) → Solution s d n P₀ σ → Solution s d n P₀ σ' → (i : ℕ) → i < n → σ i ≡ σ' i
    one σ σ' S S' i l = Z.one refl d P₀ Q.L Q.solved Q.pinned F (whole σ S) (whole σ' S') i l

    agreed : (τ τ' : Valuation) → Meets (H ⨾ t) τ → Meets (H ⨾ t) τ' → AllP (λ x c. τ x ≡ τ' x) ρ
    agreed τ τ' h h' = let a = Q.sound τ h in let b = Q.sound τ' h' in go ρ a.0 b.0 a.1 b.1 Q.tracked a.2 b.2
      where
        go : (R : Pairs ℕ) (σ σ' : ℕ → Ty) → Solution s d n P₀ σ → Solution s d n P₀ σ' → AllP (λ x c. In x U × (c < n)) R → Matches R τ σ → Matches R τ' σ' → AllP (λ x c. τ x ≡ τ' x) R
        go end σ σ' S S' k a b = tt
        go (pair x c R) σ σ' S S' k a b = (a.0 ∙ one σ σ' S S' c k.0.1 ∙ sym b.0, go R σ σ' S S' k.1 a.1 b.1)

    pub closed_goes : Passes t (MeetsIn H) → Passes (piece m t) (MeetsIn H)
    unfolding Passes MeetsIn
    closed_goes p = (p, λ τ τ' h h'. (Q.agree τ τ').1 (agreed τ τ' (h.0, h.1) (h'.0, h'.1)))

    pub closed_extends : Extends H (piece m t) U₀
    unfolding MeetsIn
    closed_extends τ h = let q = Q.complete Q.some.0 Q.some.1 τ h in (q.0, (q.1.0, q.1.1), q.3)

    pub closed_steady : Steady (H ⨾ piece m t) U
    unfolding MeetsIn
    closed_steady = record {
      passes = passes_after H (piece m t) Q.opened (closed_goes Q.passes);
      local = λ τ τ' h k. let z = Q.local τ τ' h (k.0, k.1) in (z.0, z.1);
      some = let q = Q.complete Q.some.0 Q.some.1 Q.start.0 Q.start.1 in (q.0, (q.1.0, q.1.1));
    }

    -- each unknown has one type
    pub closed_type : (σ : ℕ → Ty) → Solution s d n P₀ σ → (x c : ℕ) → InP x c ρ → (τ : Valuation) → Meets (H ⨾ piece m t) τ → τ x ≡ σ c
    unfolding MeetsIn
    closed_type σ S x c i τ h =
        let a = Q.sound τ (h.0, h.1) in
        all_in_lem (λ y k. τ y ≡ a.0 k) ρ x c a.2 i ∙ one a.0 σ a.1 S c (all_in_lem (λ y k. In y U × (k < n)) ρ x c Q.tracked i).1
