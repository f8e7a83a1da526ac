-- The pending pairs in words: one more pair, and the pairs of the parts of two cells.
use mathlib.Core.Path.{◌≡◌, refl, ◌∙◌}
use mathlib.Core.List.{List}
use mathlib.Core.Option.{Option, some}
use Prim.Native.Nat.{ℕ, zero, suc, ◌+◌, ◌*◌, ◌-◌, ◌≤◌, ◌<◌}
use native.Mathlib.Omega.{arith}
use lib.ListN.{length, get_or, set, length-set}
use lib.Seq.{get_or-set_same, get_or-set_other}
use Rattle.types_rules.specs.Classes.{zip_n}
use Rattle.types_rules.specs.Equations.{Pairs, pair}
use Rattle.types_cells.specs.Layout.{max_pending, pairs_at, seconds_at, area_size}
use Rattle.types_cells.specs.Store.{frozen, run, pending}
use Rattle.types_cells.proofs.Words.{frozen_set, run_cons}

pub pending_set : (s : List ℕ) (k i v : ℕ) → pairs_at + 2 * k ≤ i → pending (set s i v) k ≡ pending s k
unfolding pending
pending_set s zero i v l = refl
pending_set s (suc k) i v l =
    let a = get_or-set_other s i (pairs_at + 2 * k) v 0 (λ e. omega arith) in
    let b = get_or-set_other s i (seconds_at + 2 * k) v 0 (λ e. omega arith) in
    let r = pending_set s k i v (omega arith) in
    cc

pub pending_low : (s : List ℕ) (k i v : ℕ) → i < pairs_at → pending (set s i v) k ≡ pending s k
unfolding pending
pending_low s zero i v l = refl
pending_low s (suc k) i v l =
    let a = get_or-set_other s i (pairs_at + 2 * k) v 0 (λ e. omega arith) in
    let b = get_or-set_other s i (seconds_at + 2 * k) v 0 (λ e. omega arith) in
    let r = pending_low s k i v l in
    cc

-- One more pair.
abbrev pub pushed : List ℕ → ℕ → ℕ → ℕ → List ℕ
pushed s k p q = set (set s (pairs_at + 2 * k) p) (seconds_at + 2 * k) q

module _ (s : List ℕ) (k p q : ℕ) (size : length s ≡ area_size) (l : k < max_pending) where
  pub push_pending : pending (pushed s k p q) (suc k) ≡ pair p q (pending s k)
  unfolding pending
  push_pending =
      let e = length-set s (pairs_at + 2 * k) p in
      let a = get_or-set_other (set s (pairs_at + 2 * k) p) (seconds_at + 2 * k) (pairs_at + 2 * k) q 0 (λ z. omega arith) in
      let a' = get_or-set_same s (pairs_at + 2 * k) p 0 (omega arith) in
      let b = get_or-set_same (set s (pairs_at + 2 * k) p) (seconds_at + 2 * k) q 0 (omega arith) in
      let r = pending_set (set s (pairs_at + 2 * k) p) k (seconds_at + 2 * k) q (omega arith) in
      let r' = pending_set s k (pairs_at + 2 * k) p (omega arith) in
      cc

  pub push_frozen : frozen (pushed s k p q) ≡ frozen s
  push_frozen = frozen_set _ _ _ (omega arith) ∙ frozen_set _ _ _ (omega arith)

  pub push_front : (i : ℕ) → i < pairs_at → get_or (pushed s k p q) i 0 ≡ get_or s i 0
  push_front i m =
      get_or-set_other (set s (pairs_at + 2 * k) p) (seconds_at + 2 * k) i q 0 (λ z. omega arith) ∙ get_or-set_other s (pairs_at + 2 * k) i p 0 (λ z. omega arith)

-- What is left to push after j of m pairs.
unfoldable pub left : List ℕ → ℕ → ℕ → ℕ → List ℕ → ℕ → ℕ → Option (Pairs ℕ)
left w f g m s k j = zip_n (run w (f + j) (m - j)) (run w (g + j) (m - j)) (pending s (k + j))

pub left_start : (w : List ℕ) (f g m : ℕ) (s : List ℕ) (k : ℕ) → left w f g m s k 0 ≡ zip_n (run w f m) (run w g m) (pending s k)
unfolding left
left_start w f g m s k =
    let a : f + 0 ≡ f = omega arith in let b : g + 0 ≡ g = omega arith in let c : k + 0 ≡ k = omega arith in let d : m - 0 ≡ m = omega arith in
    rw (a, b, c, d)

pub left_end : (w : List ℕ) (f g m : ℕ) (s : List ℕ) (k j : ℕ) → m ≤ j → left w f g m s k j ≡ some (pending s (k + j))
unfolding left run zip_n
left_end w f g m s k j l = let e : m - j ≡ 0 = omega arith in rw e

pub left_step : (w : List ℕ) (f g m : ℕ) (s : List ℕ) (k j : ℕ) → length s ≡ area_size → k + j < max_pending → j < m → f + m ≤ length w → g + m ≤ length w →
    left w f g m (pushed s (k + j) (get_or w (f + j) 0) (get_or w (g + j) 0)) k (j + 1) ≡ left w f g m s k j
unfolding left zip_n
left_step w f g m s k j size l jm lf lg =
    let a : f + (j + 1) ≡ suc (f + j) = omega arith in
    let b : g + (j + 1) ≡ suc (g + j) = omega arith in
    let c : k + (j + 1) ≡ suc (k + j) = omega arith in
    let d : m - j ≡ suc (m - (j + 1)) = omega arith in
    let x = run_cons w (f + j) (m - (j + 1)) (omega arith) in
    let y = run_cons w (g + j) (m - (j + 1)) (omega arith) in
    rw (a, b, c, d, x, y, push_pending s (k + j) (get_or w (f + j) 0) (get_or w (g + j) 0) size l)
