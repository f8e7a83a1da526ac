-- What the absence of finding 17 says of each node, limit by limit.
use mathlib.Core.Path.{◌≡◌, refl, sym}
use mathlib.Core.Bool.{Bool, true, false, ◌&&◌, ◌||◌, false≢true}
use mathlib.Core.List.{List}
use Prim.Native.Nat.{ℕ, ◌+◌, ◌≤◌, ◌<◌}
use native.Mathlib.Omega.{arith}
use lib.Dec.{eqb}
use borrow.Author.Tests.{eq-eqb, ltb-false}
use Rattle.layout.specs.Layout.{count}
use Rattle.reader_rules.specs.Nodes.{kind_at, parent, ancestors}
use Rattle.reader_rules.specs.Limits.{depth, texts_among, declared_up_to, any_crowded, globals_up_to, too_deep, too_nested, too_wide, too_crowded, too_many, limit_number}
use Rattle.reader_rules.specs.Promise.{At}
use Rattle.reader_rules.proofs.Accepted.{Document, readable}
use Rattle.reader_rules.proofs.Scan.{cond_off}

pub record Within (doc : List ℕ) (k : ℕ) : Type 0 where
  pub deep : depth doc k ≤ 12
  pub nested : kind_at doc k ≡ 10 → texts_among doc (ancestors doc k) < 4
  pub wide : kind_at doc k ≡ 11 → declared_up_to doc (parent doc k) k ≤ 6
  pub uncrowded : any_crowded doc k (ancestors doc k) ≡ false
  pub globals : globals_up_to doc k ≤ 64

pub neither : (a b : Bool) → (a || b) ≡ false → (a ≡ false) × (b ≡ false)
neither true b e = absurd (false≢true (sym e))
neither false b e = (refl, e)

second_off : (a b : Bool) → a ≡ true → (a && b) ≡ false → b ≡ false
second_off true b x e = e
second_off false b x e = absurd (false≢true x)

within_of : (doc : List ℕ) (k : ℕ) → limit_number doc k ≡ 0 → Within doc k
unfolding limit_number
within_of doc k e =
    let x = (cond_off (too_deep doc k || (too_nested doc k || (too_wide doc k || (too_crowded doc k || too_many doc k)))) 17 0 (omega arith) e).0 in
    let a = neither (too_deep doc k) _ x in
    let b = neither (too_nested doc k) _ a.1 in
    let c = neither (too_wide doc k) _ b.1 in
    let d = neither (too_crowded doc k) _ c.1 in
    record {
      deep = ltb-false 12 _ a.0;
      nested = λ q. let g = ltb-false 4 (1 + texts_among doc (ancestors doc k)) (second_off (eqb (kind_at doc k) 10) _ (eq-eqb _ 10 q) b.0) in omega arith;
      wide = λ q. ltb-false 6 _ (second_off (eqb (kind_at doc k) 11) _ (eq-eqb _ 11 q) c.0);
      uncrowded = d.0;
      globals = ltb-false 64 _ d.1;
    }

pub within_limits : (doc : List ℕ) → Document doc → (k : ℕ) → 1 ≤ k → k ≤ count doc → Within doc k
within_limits doc d k p q = within_of doc k (d.within k p q)

-- 12 nodes from the Document down to any node
pub depth_bound : (doc : List ℕ) (s k : ℕ) → At doc s k → depth doc k ≤ 12
depth_bound doc s k h = (within_limits doc (readable doc h.read) k h.some h.most).deep
