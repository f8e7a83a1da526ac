-- Words moved into the caller's part over others, which are wiped.
use mathlib.Core.Path.{◌≡◌, refl, ap, ◌∙◌}
use mathlib.Core.List.{List}
use mathlib.Core.Logic.{⊎_elim}
use Prim.Native.Nat.{ℕ, suc, ◌+◌, ◌-◌, ◌≤◌, ◌<◌}
use native.Mathlib.Omega.{arith}
use lib.ListN.{length, get_or, replicate, length-replicate, get_or-replicate}
use lib.Seq.{sets, length-sets}
use Rattle.types_cells.specs.Layout.{pool_size}
use Rattle.types_cells.specs.Store.{run}
use Rattle.types_cells.proofs.Words.{run_at, run_length}
use Rattle.types_cells.proofs.Growing.{lt_or_ge}
use Rattle.types_instances.proofs.Moving.{sets_before, sets_after, sets_in}
use Rattle.checker_includes.specs.Keeping.{MoveAsk, Moved}

module _ (s w : List ℕ) (at end free k : ℕ) (A : MoveAsk s w at end free k) (s₁ : List ℕ) (e₁ : s₁ ≡ sets s at (run w free k)) where
  abbrev zeros : List ℕ
  zeros = replicate (end - (at + k)) 0

  many : length (run w free k) ≡ k
  many = run_length w free k A.inside

  none : length zeros ≡ end - (at + k)
  none = length-replicate {A = ℕ} (end - (at + k)) 0

  size₁ : length s₁ ≡ length s
  size₁ = ap length e₁ ∙ length-sets s at (run w free k)

  before₁ : (i : ℕ) → i < at → get_or s₁ i 0 ≡ get_or s i 0
  before₁ i l = ap (λ z. get_or z i 0) e₁ ∙ sets_before s at (run w free k) i l

  after₁ : (i : ℕ) → at + k ≤ i → get_or s₁ i 0 ≡ get_or s i 0
  after₁ i l = let m = many in ap (λ z. get_or z i 0) e₁ ∙ sets_after s at (run w free k) i (omega arith)

  in₁ : (x : ℕ) → x < k → get_or s₁ (at + x) 0 ≡ get_or w (free + x) 0
  in₁ x l =
      let m = many in
      let r = A.room in
      let b = A.before in
      let z = A.size in
      ap (λ z. get_or z (at + x) 0) e₁ ∙ sets_in s at (run w free k) x (omega arith) (omega arith) ∙ run_at w free k x l

  module _ (s' : List ℕ) (e' : s' ≡ sets s₁ (at + k) zeros) where
    before' : (i : ℕ) → i < at + k → get_or s' i 0 ≡ get_or s₁ i 0
    before' i l = ap (λ z. get_or z i 0) e' ∙ sets_before s₁ (at + k) zeros i l

    -- zero from the end of the words on
    zero' : (i : ℕ) → at + k ≤ i → i < pool_size → get_or s' i 0 ≡ 0
    zero' i l r =
        let n = none in
        let a = size₁ in
        let z = A.size in
        let b = A.before in
        let q = A.room in
        ap (λ z. get_or z i 0) e'
        ∙ ⊎_elim
        (λ (x : i < end).
        let y : i ≡ at + k + (i - (at + k)) = omega arith in
        ap (λ z. get_or (sets s₁ (at + k) zeros) z 0) y ∙ sets_in s₁ (at + k) zeros (i - (at + k)) (omega arith) (omega arith)
        ∙ get_or-replicate (end - (at + k)) (i - (at + k)) 0 0 (omega arith))
        (λ (x : end ≤ i). sets_after s₁ (at + k) zeros i (omega arith) ∙ after₁ i l ∙ A.clean i (omega arith) r)
        (lt_or_ge i end)

    moved : (end' : ℕ) → at ≤ end' → ((i : ℕ) → end' ≤ suc i → i < pool_size → get_or s' i 0 ≡ 0) → (k ≡ 0 → end' ≡ at) → end' ≤ at + k + 1 → Moved s s' w at free k end'
    moved end' m c n q = record {
      stored = record { size = ap length e' ∙ length-sets s₁ (at + k) zeros ∙ size₁; before = λ i l. before' i (omega arith) ∙ before₁ i l; after = c; more = m };
      words = λ x l. before' (at + x) (omega arith) ∙ in₁ x l;
      none = n;
      short = q;
    }

    pub moved_some : (k ≡ 0 → ⊥) → Moved s s' w at free k (at + k + 1)
    moved_some h = moved (at + k + 1) (omega arith) (λ i l r. zero' i (omega arith) r) (λ e. absurd (h e)) (omega arith)

    pub moved_none : k ≡ 0 → Moved s s' w at free k at
    moved_none h = moved at (omega arith)
        (λ i l r. ⊎_elim (λ (x : i < at). before' i (omega arith) ∙ before₁ i x ∙ A.gap i (omega arith)) (λ (x : at ≤ i). zero' i (omega arith) r) (lt_or_ge i at))
        (λ e. refl) (omega arith)
