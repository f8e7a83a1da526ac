-- A piece begins; its store grows by cells with formers, a settled cell, a new unknown.
use mathlib.Core.Path.{◌≡◌, refl, sym, subst, ◌∙◌}
use mathlib.Core.List.{List, ◌∷◌}
use mathlib.Core.Logic.{◌↔◌, inl, inr, ⊎_elim}
use Prim.Native.Nat.{ℕ, suc, ◌<◌, ◌≤◌}
use native.Mathlib.Omega.{arith}
use native.Mathlib.Nat.{eq-zero-or-pos}
use lib.ListN.{length}
use Rattle.types_rules.specs.Equations.{AllP, In, InP, Pairs, end, pair}
use Rattle.types_rules.specs.Types.{Ty, integer_type}
use Rattle.checker_rules.specs.Unknowns.{Valuation}
use Rattle.checker_rules.specs.Items.{Items, skip, ◌⨾◌, fresh, Meets, MeetsIn, Agree, Passes}
use Rattle.types_cells.specs.Layout.{first_run, area_size}
use Rattle.types_cells.specs.Store.{frozen, tag_at}
use Rattle.types_cells.specs.Calls.{Making, Made}
use Rattle.types_solver.specs.Growth.{Grows, Builds, Extension}
use Rattle.types_cells.specs.Settled.{heap, Reads, Entering, Entered}
use Rattle.types_solver.proofs.Accepted.{start}
use Rattle.types_solver.proofs.Extending.{restrict, extends_solves, made_grows, extend_unknown, entered_grows}
use Rattle.types_cells.proofs.Growing.{view_made, lt_or_ge}
use Rattle.types_cells.proofs.Heads.{view_unk, view_shape}
use Rattle.checker_pieces.specs.Piece.{Solution, Matches, Goes, Piece, Accounted, Later, Steady}
use Rattle.checker_pieces.proofs.Updates.{put, put_hit, put_miss}
use Rattle.checker_pieces.proofs.Walks.{items_earlier, passes_more}

pub all_map : {R S : ℕ → ℕ → Type 0} (P : Pairs ℕ) → ((a b : ℕ) → R a b → S a b) → AllP R P → AllP S P
all_map end h q = tt
all_map (pair a b P) h q = (h a b q.0, all_map P h q.1)

pub all_zip : {R S T : ℕ → ℕ → Type 0} (P : Pairs ℕ) → ((a b : ℕ) → R a b → S a b → T a b) → AllP R P → AllP S P → AllP T P
all_zip end h q r = tt
all_zip (pair a b P) h q r = (h a b q.0 r.0, all_zip P h q.1 r.1)

-- An empty store: any assignment is a solution.
nothing_asked : (s d : List ℕ) (σ : ℕ → Ty) → Solution s d 0 end σ
nothing_asked s d σ = record {
  fits = λ i h cs e. absurd (let z = view_made (frozen s) 0 i h cs e in omega arith);
  sat = tt;
  obeys = λ i l v g R. absurd (omega arith);
}

-- A PIECE BEGINS after items H that a valuation meets.
pub begin : (s d : List ℕ) (H : Items) (U : List ℕ) → length s ≡ area_size → Steady H U → Piece s d 0 end H skip U U end
unfolding MeetsIn Agree Passes
begin s d H U z S = record {
  L = end;
  solved = start s z;
  pinned = record { reads = λ i k v. absurd (omega arith); bare = λ i k v. absurd (omega arith) };
  tracked = tt;
  more = λ x i. i;
  local = λ σ σ' e h. (S.local σ σ' e h.0, tt);
  sound = λ σ h. ((λ i. integer_type), nothing_asked s d (λ i. integer_type), tt);
  complete = λ σ X τ₀ h. (τ₀, (h, tt), tt, λ x i. refl);
  some = ((λ i. integer_type), nothing_asked s d (λ i. integer_type));
  start = S.some;
  opened = S.passes;
  passes = tt;
  agree = λ σ σ'. (λ h. tt, λ h. tt);
  open_cells = λ i k e. absurd (omega arith);
}

module _ (s s' d : List ℕ) (n n' : ℕ) (G : Grows s s' d n n') (P₀ : Pairs ℕ) (H t : Items) (U₀ U : List ℕ) (ρ : Pairs ℕ) (Q : Piece s d n P₀ H t U₀ U ρ) where
  pub solution_before : (σ : ℕ → Ty) → Solution s' d n' P₀ σ → Solution s d n P₀ σ
  solution_before σ S = let r = restrict s s' d n n' G σ S.fits S.obeys in record { fits = r.0; sat = S.sat; obeys = r.1 }

  -- An assignment that goes on is a solution, and the unknowns stay.
  pub extended : (σ : ℕ → Ty) → Solution s d n P₀ σ → (E : Extension s' d n n' σ) → Solution s' d n' P₀ E.τ
  extended σ S E = record { fits = E.fits; sat = extends_solves s s' d n n' σ E P₀ Q.L Q.solved S.sat; obeys = E.obeys }

  pub extended_matches : (τ : Valuation) (σ : ℕ → Ty) (E : Extension s' d n n' σ) → Matches ρ τ σ → Matches ρ τ E.τ
  extended_matches τ σ E m = all_zip ρ (λ x c k e. e ∙ sym (E.same c k.1)) Q.tracked m

  tag_before : (i : ℕ) → i < n → tag_at (frozen s') i ≡ 0 → tag_at (frozen s) i ≡ 0
  tag_before i l e = ⊎_elim (λ z. z)
      (λ p. let v = sym (view_shape (frozen s) n i l p) ∙ sym (G.old i l) ∙ view_unk (frozen s') n' i (let z = G.wide in omega arith) e in let z : ◌≡◌ {A = ℕ} 0 1 = cc in absurd (omega arith))
      (eq-zero-or-pos (tag_at (frozen s) i))

  -- Old cells stay accounted for.
  pub accounted : (ρ' : Pairs ℕ) → ((x i : ℕ) → InP x i ρ → InP x i ρ') → ((i : ℕ) → n ≤ i → i < n' → tag_at (frozen s') i ≡ 0 → Accounted s' d n' P₀ ρ' i) →
      (i : ℕ) → i < n' → tag_at (frozen s') i ≡ 0 → Accounted s' d n' P₀ ρ' i
  accounted ρ' wide new i l e = ⊎_elim
      (λ q. ⊎_elim (λ z. inl (z.0, wide z.0 i z.1)) (λ z. inr (z.0, λ σ S. z.1 σ (solution_before σ S))) (Q.open_cells i q (tag_before i q e)))
      (λ q. new i q l e)
      (lt_or_ge i n)

  -- NEW CELLS, whose types follow from those before or are settled.
  pub grown : ((i : ℕ) → n ≤ i → i < n' → tag_at (frozen s') i ≡ 0 → Accounted s' d n' P₀ ρ i) → Piece s' d n' P₀ H t U₀ U ρ
  grown new = record {
    L = Q.L;
    solved = G.solved P₀ Q.L Q.solved;
    pinned = G.pinned Q.pinned;
    tracked = all_map ρ (λ x c k. (k.0, let z = k.1 in let y = G.wide in omega arith)) Q.tracked;
    more = Q.more;
    local = Q.local;
    sound = λ τ m. let q = Q.sound τ m in let E = G.extends q.0 q.1.fits q.1.obeys in (E.τ, extended q.0 q.1 E, extended_matches τ q.0 E q.2);
    complete = λ σ S τ₀ h. Q.complete σ (solution_before σ S) τ₀ h;
    some = let E = G.extends Q.some.0 Q.some.1.fits Q.some.1.obeys in (E.τ, extended Q.some.0 Q.some.1 E);
    start = Q.start;
    opened = Q.opened;
    passes = Q.passes;
    agree = Q.agree;
    open_cells = accounted ρ (λ x i z. z) new;
  }

  pub grown_later : Later s s' d n n' P₀ P₀ H t t ρ ρ
  grown_later = record { solutions = solution_before; items = λ τ m. m; unknowns = λ τ σ m. m }

-- CELLS WITH FORMERS, and words in the runs.
module _ (s s' d : List ℕ) (n n' : ℕ) (B : Builds s s' d n n') (P₀ : Pairs ℕ) (H t : Items) (U₀ U : List ℕ) (ρ : Pairs ℕ) (Q : Piece s d n P₀ H t U₀ U ρ) where
  pub built : Piece s' d n' P₀ H t U₀ U ρ
  built = grown s s' d n n' B.grows P₀ H t U₀ U ρ Q (λ i k l e. absurd (B.shaped i k l (view_unk (frozen s') n' i l e)))

  pub built_later : Later s s' d n n' P₀ P₀ H t t ρ ρ
  built_later = grown_later s s' d n n' B.grows P₀ H t U₀ U ρ Q

-- A SETTLED CELL: the type g, whose words stand at p.
module _ (s s' d : List ℕ) (n p : ℕ) (A : Entering s d n p) (E : Entered s s' d n p) (g : Ty) (R : Reads (heap s d) p g) (P₀ : Pairs ℕ) (H t : Items) (U₀ U : List ℕ) (ρ : Pairs ℕ)
    (Q : Piece s d n P₀ H t U₀ U ρ) where
  pub settled_type : (σ : ℕ → Ty) → Solution s' d (suc n) P₀ σ → σ n ≡ g
  settled_type σ S = E.type g R σ S.obeys

  pub settled : Piece s' d (suc n) P₀ H t U₀ U ρ
  settled = grown s s' d n (suc n) (entered_grows s s' d n p A E) P₀ H t U₀ U ρ Q
      (λ i k l e. let q : n ≡ i = omega arith in inr (g, λ σ S. subst (λ j. σ j ≡ g) q (settled_type σ S)))

  pub settled_later : Later s s' d n (suc n) P₀ P₀ H t t ρ ρ
  settled_later = grown_later s s' d n (suc n) (entered_grows s s' d n p A E) P₀ H t U₀ U ρ Q

-- A NEW UNKNOWN x, which no item mentions yet: cell n.
module _ (s s' d : List ℕ) (n : ℕ) (A : Making s n 0 0 first_run 0) (M : Made s s' n 0 0 first_run 0) (P₀ : Pairs ℕ) (H t : Items) (U₀ U : List ℕ) (ρ : Pairs ℕ) (Q : Piece s d n P₀ H t U₀ U ρ)
    (x : ℕ) (new : In x U → ⊥) where
  abbrev G : Grows s s' d n (suc n)
  G = made_grows s s' d n 0 0 first_run 0 A M

  abbrev back : (σ : ℕ → Ty) → Solution s' d (suc n) P₀ σ → Solution s d n P₀ σ
  back = solution_before s s' d n (suc n) G P₀ H t U₀ U ρ Q

  at : (g : Ty) (σ : ℕ → Ty) → Solution s d n P₀ σ → (E : Extension s' d n (suc n) σ) × (E.τ n ≡ g)
  at g σ S = extend_unknown s s' d n 0 0 first_run 0 A M refl g σ S.fits S.obeys

  earlier : (τ : Valuation) → Meets (H ⨾ (t ⨾ fresh x)) τ → Meets (H ⨾ t) τ
  earlier = items_earlier H t (fresh x)

  now_met : (τ : Valuation) → Meets (H ⨾ t) τ → Meets (H ⨾ (t ⨾ fresh x)) τ
  unfolding MeetsIn
  now_met τ m = (m.0, (m.1, tt))

  apart : (y : ℕ) → In y U → y ≡ x → ⊥
  apart y i e = new (subst (λ z. In z U) e i)

  fresh_goes : Goes H t (fresh x)
  unfolding Passes
  fresh_goes = tt

  agree_more : (τ τ' : Valuation) → Agree (t ⨾ fresh x) τ τ' ↔ AllP (λ y c. τ y ≡ τ' y) (pair x n ρ)
  unfolding Agree
  agree_more τ τ' = (λ h. (h.1, (Q.agree τ τ').0 h.0), λ h. ((Q.agree τ τ').1 h.1, h.0))

  pub unknown : Piece s' d (suc n) P₀ H (t ⨾ fresh x) U₀ (x ∷ U) (pair x n ρ)
  unknown = record {
    L = Q.L;
    solved = G.solved P₀ Q.L Q.solved;
    pinned = G.pinned Q.pinned;
    tracked = ((inl refl, omega arith), all_map ρ (λ y c k. (inr k.0, let z = k.1 in omega arith)) Q.tracked);
    more = λ y i. inr (Q.more y i);
    local = λ τ τ' h m. now_met τ' (Q.local τ τ' (λ y i. h y (inr i)) (earlier τ m));
    sound = λ τ m.
        let q = Q.sound τ (earlier τ m) in
        let E = at (τ x) q.0 q.1 in
        (E.0.τ, extended s s' d n (suc n) G P₀ H t U₀ U ρ Q q.0 q.1 E.0, (sym E.1, extended_matches s s' d n (suc n) G P₀ H t U₀ U ρ Q τ q.0 E.0 q.2));
    complete = λ σ S τ₀ h.
        let q = Q.complete σ (back σ S) τ₀ h in (
          put x (σ n) q.0,
          now_met (put x (σ n) q.0) (Q.local q.0 (put x (σ n) q.0) (λ y i. sym (put_miss x (σ n) q.0 y (apart y i))) q.1),
          (put_hit x (σ n) q.0, all_zip ρ (λ y c k e. put_miss x (σ n) q.0 y (apart y k.0) ∙ e) Q.tracked q.2),
          λ y i. put_miss x (σ n) q.0 y (apart y (Q.more y i)) ∙ q.3 y i,
        );
    some = let E = at integer_type Q.some.0 Q.some.1 in (E.0.τ, extended s s' d n (suc n) G P₀ H t U₀ U ρ Q Q.some.0 Q.some.1 E.0);
    start = Q.start;
    opened = Q.opened;
    passes = passes_more H t (fresh x) Q.passes fresh_goes;
    agree = agree_more;
    open_cells = accounted s s' d n (suc n) G P₀ H t U₀ U ρ Q (pair x n ρ) (λ y i z. inr z) (λ i k l e. let q : i ≡ n = omega arith in inl (x, inl (refl, q)));
  }

  pub unknown_later : Later s s' d n (suc n) P₀ P₀ H t (t ⨾ fresh x) ρ (pair x n ρ)
  unknown_later = record { solutions = back; items = earlier; unknowns = λ τ σ m. m.1 }
