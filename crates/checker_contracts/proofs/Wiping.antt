-- Words stored in the pool, and wiped: then the pool is what it was.
use mathlib.Core.Path.{◌≡◌, ◌∙◌}
use mathlib.Core.List.{List}
use Prim.Native.Nat.{ℕ, ◌-◌, ◌≤◌, ◌<◌}
use native.Mathlib.Omega.{arith}
use lib.ListN.{length, replicate}
use lib.Seq.{sets, length-sets}
use Rattle.types_cells.specs.Layout.{area_size, pool_size}
use Rattle.types_cells.specs.Settled.{lower}
use Rattle.types_instances.specs.Clean.{Clean}
use Rattle.types_instances.proofs.Moving.{lower_words, sets_before}
use Rattle.types_instances.proofs.CleanLaws.{clean_lower, clean_same, wiped_clean}
use Rattle.checker_includes.specs.Storing.{Stored}

-- Other words than those of the pool may change since.
pub stored_kept : (s s' s'' : List ℕ) (at end : ℕ) → at ≤ pool_size → Stored s s' at end → length s'' ≡ length s' → lower s'' ≡ lower s' → Stored s s'' at end
stored_kept s s' s'' at end r A z e = record {
  size = z ∙ A.size;
  before = λ i l. lower_words s' s'' e i (omega arith) ∙ A.before i l;
  after = clean_lower s' s'' end A.after e;
  more = A.more;
}

-- WIPED from `at` to `end`.
pub wiped_low : (s s' : List ℕ) (at end : ℕ) → length s ≡ area_size → Clean s at → 1 ≤ at → end < pool_size → Stored s s' at end →
    lower (sets s' at (replicate (end - at) 0)) ≡ lower s
wiped_low s s' at end z C o r A =
    let n = length-sets s' at (replicate (end - at) 0) in
    let m = A.more in
    let q = A.size in
    clean_same s (sets s' at (replicate (end - at) 0)) at z (omega arith) C
    (wiped_clean s' at end o m r (omega arith) (A.before (at - 1) (omega arith) ∙ C (at - 1) (omega arith) (omega arith)) A.after)
    (λ i l. sets_before s' at (replicate (end - at) 0) i l ∙ A.before i l)
