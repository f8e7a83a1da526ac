-- What the builders of cells promise, from the solver's laws of stores that grow.
use mathlib.Core.Path.{◌≡◌, refl, sym, ap, ap₂, subst, ◌∙◌}
use mathlib.Core.List.{List, [], ◌∷◌, ◌++◌, map}
use mathlib.Core.Logic.{inl, inr}
use Prim.Native.Nat.{ℕ, suc, ◌+◌, ◌*◌, ◌≤◌, ◌<◌}
use native.Mathlib.Omega.{arith}
use lib.ListN.{length, get_or, take, drop, length-drop}
use lib.Seq.{take-suc, length-take-le, get_or-drop}
use Rattle.types_rules.specs.Equations.{In, Pairs}
use Rattle.types_rules.specs.Finite.{from_list}
use Rattle.types_rules.specs.Former.{Former, former_of, int, power, product}
use Rattle.types_rules.specs.Types.{Ty, node}
use Rattle.types_cells.specs.Layout.{first_run, frozen_size, max_cells}
use Rattle.types_cells.specs.Store.{frozen, run, Solved}
use Rattle.types_cells.specs.Calls.{Above, Adding, Added, Making, Made}
use Rattle.types_cells.specs.Settled.{Fits}
use Rattle.types_cells.proofs.Words.{frozen_length}
use Rattle.types_cells.proofs.Growing.{made_above, made_load, run_frame}
use Rattle.types_solver.proofs.Extending.{above_wide, added_builds, added_here, added_load, added_other, builds_on, builds_refl, former_builds, former_type}
use Rattle.checker_pieces.specs.Building.{Building, Laid, Built, Integer}
use Rattle.checker_pieces.specs.Stage.{Uses}

-- WORDS IN THE RUNS, one after another.
pub laid_none : (s : List ℕ) (n top : ℕ) → Above (frozen s) n top → Laid s s n top []
unfolding run
laid_none s n top B = record {
  builds = λ d. builds_refl s d n;
  above = above_wide (frozen s) n top (top + 0) B (omega arith);
  words = refl;
  fit = refl;
}

run_last : (w : List ℕ) (at k : ℕ) → at + k < length w → run w at (suc k) ≡ run w at k ++ (get_or w (at + k) 0 ∷ [])
unfolding run
run_last w at k l =
    take-suc (drop at w) k 0 (let e = length-drop at w in omega arith) ∙ ap (λ (y : ℕ). take k (drop at w) ++ (y ∷ [])) (get_or-drop at w k 0)

length_last : (l : List ℕ) (x : ℕ) → length (l ++ (x ∷ [])) ≡ suc (length l)
length_last [] x = refl
length_last (y ∷ l) x = ap suc (length_last l x)

module _ (s s' : List ℕ) (n top : ℕ) (l : List ℕ) (P₀ L : Pairs ℕ) (S : Solved s n P₀ L) (K : Laid s s' n top l) where
  solved₁ : Solved s' n P₀ L
  solved₁ = (K.builds []).grows.solved P₀ L S

  module _ (at : ℕ) (e : at ≡ top + length l) (lt : at < frozen_size) where
    pub laid_ask : Adding s' n at
    laid_ask = record { P₀ = P₀; L = L; solved = solved₁; above = subst (Above (frozen s') n) (sym e) K.above; room = lt }

    module _ (s'' : List ℕ) (x : ℕ) (N : Added s' s'' n at x) where
      size₁ : length (frozen s') ≡ frozen_size
      size₁ = frozen_length s' solved₁.held.size

      size₂ : length (frozen s'') ≡ frozen_size
      size₂ = frozen_length s'' (N.grown P₀ L solved₁).held.size

      kept : run (frozen s'') top (length l) ≡ run (frozen s') top (length l)
      kept =
          let a = size₁ in
          let b = size₂ in
          run_frame (frozen s') (frozen s'') top (length l) (omega arith) (omega arith) (λ p u v. added_other s' s'' [] n at x laid_ask N p (λ z. omega arith))

      pub laid_more : Laid s s'' n top (l ++ (x ∷ []))
      laid_more = record {
        builds = λ d. builds_on s s' s'' d n n n (K.builds d) (added_builds s' s'' d n at x laid_ask N);
        above = subst (Above (frozen s'') n) (let q = length_last l x in let z : suc at ≡ top + length (l ++ (x ∷ [])) = omega arith in z) N.above;
        words =
            let b = size₂ in
            ap (run (frozen s'') top) (length_last l x)
            ∙ run_last (frozen s'') top (length l) (omega arith)
            ∙ ap₂ (λ (u : List ℕ) (v : ℕ). u ++ (v ∷ [])) (kept ∙ K.words) (ap (λ z. get_or (frozen s'') z 0) (sym e) ∙ added_here s' s'' [] n at x laid_ask N);
        fit = added_load s' s'' [] n at x laid_ask N ∙ K.fit;
      }

  -- THE FORMER over them.
  module _ (t a m : ℕ) (em : m ≡ length l) (M : Making s' n t a top m) (s'' : List ℕ) (N : Made s' s'' n t a top m) (pos : 0 < t) (plain : t ≡ 5 → ⊥) (h : Former)
      (is : former_of t a (run (frozen s') a m) ≡ h) (x top' : ℕ) (et : top' ≡ top + m) (f : 1 ≤ x) (g : 1 + m ≤ 2 * x) where
    made_uses : Uses s s'' n top (suc n) top' x
    made_uses y R =
        let ld = made_load s' s'' n t a top m M N in
        let k = K.fit in
        let q = R.fit in
        let u = R.cells in
        let v = R.words in
        record { cells = omega arith; words = omega arith; fit = omega arith }

    pub formed : Built s s'' n top top' x h l
    formed = record {
      builds = λ d. builds_on s s' s'' d n n (suc n) (K.builds d) (former_builds s' s'' d n t a top m M N pos);
      above = made_above s' s'' n t a top m M N top' (subst (Above (frozen s') n) (let z : top + length l ≡ top' = omega arith in z) K.above) (omega arith) (λ z. absurd (plain z));
      type = λ σ F.
          former_type s' s'' [] n t a top m M N pos σ F
          ∙ ap₂ node is (ap (λ z. from_list (map σ z)) (ap (run (frozen s') top) em ∙ K.words));
      uses = made_uses;
    }

-- A former over the cells l may be made: tag 3 with no argument, tag 4 with their number.
module _ (s : List ℕ) (n top x : ℕ) (l : List ℕ) (B : Building s n top x l) (s' : List ℕ) (K : Laid s s' n top l) where
  pub making : (t a m : ℕ) → t ≤ 4 → 3 ≤ t → (t ≡ 3 → a ≡ 0) → (t ≡ 4 → a ≡ m) → (t ≡ 3 → m ≡ 1) → m ≡ length l → 1 ≤ x → 1 + m ≤ 2 * x → Making s' n t a top m
  making t a m lo hi p q o e f g =
      let R = B.room in
      let u = R.cells in
      let v = R.words in
      let w = R.fit in
      let k = K.fit in
      record {
        P₀ = B.P₀;
        L = B.L;
        solved = solved₁ s s' n top l B.P₀ B.L B.solved K;
        few = omega arith;
        tags = omega arith;
        plain = λ z. absurd (omega arith);
        powers = p;
        products = q;
        one = o;
        low = B.above.low;
        room = omega arith;
        named_low = λ z. absurd (omega arith);
        named = λ z. absurd (omega arith);
        older = λ c i. B.older c (subst (In c) (ap (run (frozen s') top) e ∙ K.words) i);
        fit = omega arith;
      }

-- POWER.
module _ (s : List ℕ) (n top c : ℕ) (B : Building s n top 1 (c ∷ [])) where
  K₀ : Laid s s n top []
  K₀ = laid_none s n top B.above

  pub power_word : c < max_cells
  power_word = let l = B.older c (inl refl) in let r = B.room.cells in omega arith

  at₀ : top ≡ top + length {A = ℕ} []
  at₀ = omega arith

  module _ (s₁ : List ℕ) (N : Added s s₁ n top c) where
    K₁ : Laid s s₁ n top (c ∷ [])
    K₁ = laid_more s s n top [] B.P₀ B.L B.solved K₀ top at₀ (let r = B.room.words in omega arith) s₁ c N

    pub power_make : Making s₁ n 3 0 top 1
    power_make =
        making s n top 1 (c ∷ []) B s₁ K₁ 3 0 1 (omega arith) (omega arith) (λ z. refl) (λ z. absurd (omega arith)) (λ z. refl) refl (omega arith) (omega arith)

    pub power_built : (s₂ : List ℕ) → Made s₁ s₂ n 3 0 top 1 → Built s s₂ n top (top + 1) 1 power (c ∷ [])
    unfolding former_of
    power_built s₂ M =
        formed s s₁ n top (c ∷ []) B.P₀ B.L B.solved K₁ 3 0 1 refl power_make s₂ M (omega arith) (λ z. absurd (omega arith)) power refl 1 (top + 1) refl (omega arith) (omega arith)

-- THE PRODUCT OF TWO.
module _ (s : List ℕ) (n top x y : ℕ) (B : Building s n top 2 (x ∷ y ∷ [])) where
  pub pair_words_lem : (x < max_cells) × (y < max_cells)
  pair_words_lem = let l = B.older x (inl refl) in let m = B.older y (inr (inl refl)) in let r = B.room.cells in (omega arith, omega arith)

  start : Laid s s n top []
  start = laid_none s n top B.above

  module _ (s₁ : List ℕ) (N₁ : Added s s₁ n top x) where
    one : Laid s s₁ n top (x ∷ [])
    one = laid_more s s n top [] B.P₀ B.L B.solved start top (omega arith) (let r = B.room.words in omega arith) s₁ x N₁

    module _ (s₂ : List ℕ) (N₂ : Added s₁ s₂ n (top + 1) y) where
      two : Laid s s₂ n top (x ∷ y ∷ [])
      two = laid_more s s₁ n top (x ∷ []) B.P₀ B.L B.solved one (top + 1) (omega arith) (let r = B.room.words in omega arith) s₂ y N₂

      pub pair_make : Making s₂ n 4 2 top 2
      pair_make =
          making s n top 2 (x ∷ y ∷ []) B s₂ two 4 2 2 (omega arith) (omega arith) (λ z. absurd (omega arith)) (λ z. refl) (λ z. absurd (omega arith)) refl (omega arith) (omega arith)

      pub pair_built : (s₃ : List ℕ) → Made s₂ s₃ n 4 2 top 2 → Built s s₃ n top (top + 2) 2 product (x ∷ y ∷ [])
      unfolding former_of
      pair_built s₃ M =
          formed s s₂ n top (x ∷ y ∷ []) B.P₀ B.L B.solved two 4 2 2 refl pair_make s₃ M (omega arith) (λ z. absurd (omega arith)) product refl 2 (top + 2) refl (omega arith) (omega arith)

-- PRODUCT, of the first m words of ps.
module _ (s : List ℕ) (n top m : ℕ) (ps : List ℕ) (P : (m ≤ 6) × (m ≤ length ps) × Building s n top 4 (take m ps)) where
  module _ (s₁ : List ℕ) (j : ℕ) (lt : j < m) (K : Laid s s₁ n top (take j ps)) where
    at_j : top + j ≡ top + length (take j ps)
    at_j = let h = P.1 in ap (λ z. top + z) (sym (length-take-le j ps (omega arith)))

    room_j : top + j < frozen_size
    room_j = let r = P.2.room.words in let h = P.0 in omega arith

    pub lay_ask : Adding s₁ n (top + j)
    lay_ask = laid_ask s s₁ n top (take j ps) P.2.P₀ P.2.L P.2.solved K (top + j) at_j room_j

    pub lay_next : (s₂ : List ℕ) → Added s₁ s₂ n (top + j) (get_or ps j 0) → Laid s s₂ n top (take (j + 1) ps)
    lay_next s₂ N =
        let h = P.1 in
        subst (Laid s s₂ n top) (sym (take-suc ps j 0 (omega arith)) ∙ ap (λ z. take z ps) (let z : suc j ≡ j + 1 = omega arith in z))
        (laid_more s s₁ n top (take j ps) P.2.P₀ P.2.L P.2.solved K (top + j) at_j room_j s₂ (get_or ps j 0) N)

  module _ (s₁ : List ℕ) (K : Laid s s₁ n top (take m ps)) where
    count : m ≡ length (take m ps)
    count = sym (length-take-le m ps P.1)

    pub product_make : Making s₁ n 4 m top m
    product_make =
        making s n top 4 (take m ps) P.2 s₁ K 4 m m (omega arith) (omega arith) (λ z. absurd (omega arith)) (λ z. refl) (λ z. absurd (omega arith)) count (omega arith) (let h = P.0 in omega arith)

    pub product_built : (s₂ : List ℕ) → Made s₁ s₂ n 4 m top m → Built s s₂ n top (top + m) 4 product (take m ps)
    unfolding former_of
    product_built s₂ M =
        formed s s₁ n top (take m ps) P.2.P₀ P.2.L P.2.solved K 4 m m count product_make s₂ M (omega arith) (λ z. absurd (omega arith)) product refl 4 (top + m) refl (omega arith)
        (let h = P.0 in omega arith)

-- ℤ.
module _ (s s' : List ℕ) (n : ℕ) (M : Making s n 1 0 first_run 0) (N : Made s s' n 1 0 first_run 0) where
  integer_uses : (top : ℕ) → Uses s s' n top (suc n) top 1
  integer_uses top y R =
      let ld = made_load s s' n 1 0 first_run 0 M N in
      let q = R.fit in
      let u = R.cells in
      let v = R.words in
      record { cells = omega arith; words = omega arith; fit = omega arith }

  integer_type_lem : (σ : ℕ → Ty) → Fits (frozen s') (suc n) σ → σ n ≡ node int (from_list (map σ []))
  unfolding former_of run
  integer_type_lem σ F = former_type s s' [] n 1 0 first_run 0 M N (omega arith) σ F

  pub integer_built : Integer s s' n int []
  integer_built = record {
    built = λ top A. record {
      builds = λ d. former_builds s s' d n 1 0 first_run 0 M N (omega arith);
      above = made_above s s' n 1 0 first_run 0 M N top A (let z = A.low in omega arith) (λ z. absurd (omega arith));
      type = integer_type_lem;
      uses = integer_uses top;
    };
  }
