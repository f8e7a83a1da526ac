-- Sums over a node and all below it: no more than over the whole document.
use mathlib.Core.Path.{◌≡◌, refl, ap, ◌∙◌}
use mathlib.Core.Bool.{Bool, true, false, ◌||◌, false≢true}
use mathlib.Core.Logic.{◌⊎◌, ⊎_elim}
use mathlib.Core.List.{List, [], ◌∷◌}
use Prim.Native.Nat.{ℕ, zero, suc, ◌+◌, ◌*◌, ◌-◌, ◌≤◌, ◌<◌}
use native.Mathlib.Omega.{arith}
use native.Mathlib.Nat.{eq-or-lt_of_le, one-mul}
use lib.Dec.{eqb}
use lib.ListN.{length}
use borrow.Author.Tests.{eqb-true, le-leb}
use Rattle.words.specs.Loops.{total, has, occurrences}
use Rattle.words.proofs.Lists.{total_upto}
use Rattle.layout.specs.Layout.{count}
use Rattle.reader_rules.specs.Nodes.{children, parent}
use Rattle.reader_rules.specs.Below.{flat, numbers_at}
use Rattle.reader_rules.proofs.Accepted.{Document, used_once}
use Rattle.reader_rules.proofs.Parents.{child_lower, parent_some, parent_most, parent_above}
use Rattle.reader_rules.proofs.Occurrences.{AllIn, all_in_has, all_in_append, sum_of, sum_append, sum_count, total_same}
use Rattle.reader_rules.proofs.TreeChildren.{numbers_at_lem, once}

-- lists
all_in_flat : (P : ℕ → Type 0) (g : ℕ → List ℕ) (l : List ℕ) → AllIn (λ v. AllIn P (g v)) l → AllIn P (flat g l)
unfolding flat
all_in_flat P g [] h = tt
all_in_flat P g (v ∷ vs) h = all_in_append P (g v) (flat g vs) h.0 (all_in_flat P g vs h.1)

sum_flat : (f : ℕ → ℕ) (g : ℕ → List ℕ) (l : List ℕ) → sum_of f (flat g l) ≡ sum_of (λ v. sum_of f (g v)) l
unfolding flat sum_of
sum_flat f g [] = refl
sum_flat f g (v ∷ vs) = sum_append f (g v) (flat g vs) ∙ ap (λ (n : ℕ). sum_of f (g v) + n) (sum_flat f g vs)

sum_has : (f : ℕ → ℕ) (v : ℕ) (l : List ℕ) → has v l ≡ true → f v ≤ sum_of f l
unfolding has sum_of
sum_has f v [] e = absurd (false≢true e)
sum_has f v (x ∷ xs) e = go (eqb x v) (eqb-true x v) e (λ h. sum_has f v xs h)
  where
    go : (b : Bool) → (b ≡ true → x ≡ v) → (b || has v xs) ≡ true → (has v xs ≡ true → f v ≤ sum_of f xs) → f v ≤ f x + sum_of f xs
    go true g h k = let z : f x ≡ f v = ap f (g refl) in omega arith
    go false g h k = let z = k h in omega arith

pub sum_ones : (f : ℕ → ℕ) (l : List ℕ) → AllIn (λ v. f v ≡ 1) l → sum_of f l ≡ length l
unfolding sum_of
sum_ones f [] h = refl
sum_ones f (v ∷ vs) h = let a = h.0 in let b = sum_ones f vs h.1 in omega arith

-- a sum that is at most c wherever it grows
pub total_capped : (f : ℕ → ℕ) (c n : ℕ) → ((k : ℕ) → 1 ≤ k → k ≤ n → (f k ≡ 0) ⊎ (total f 1 k ≤ c)) → total f 1 n ≤ c
unfolding total
total_capped f c zero h = omega arith
total_capped f c (suc n) h =
    ⊎_elim
    (λ e.
    let a = total_capped f c n (λ k p q. h k p (omega arith)) in
    let b = total_upto f (suc n) (omega arith) in
    let d : suc n - 1 ≡ n = omega arith in
    let b' : total f 1 (suc n) ≡ total f 1 n + f (suc n) = rw d at b in
    omega arith)
    (λ l. l)
    (h (suc n) (omega arith) (omega arith))

module _ (doc : List ℕ) (d : Document doc) where
  abbrev N : ℕ
  N = count doc

  pub all_children : (P : ℕ → Type 0) (k : ℕ) → ((v : ℕ) → has v (children doc k) ≡ true → AllIn P (numbers_at doc v)) → AllIn P (flat (numbers_at doc) (children doc k))
  all_children P k h = all_in_flat P (numbers_at doc) (children doc k) (all_in_has (λ v. AllIn P (numbers_at doc v)) (children doc k) h)

  -- what each node hands to its children holds at all nodes below
  module _ (P : ℕ → Type 0) (s : (k v : ℕ) → 1 ≤ k → k ≤ N → has v (children doc k) ≡ true → P k → P v) where
    all_down : (n k : ℕ) → k < n → 1 ≤ k → k ≤ N → P k → AllIn P (numbers_at doc k)
    all_down zero k l p q h = absurd (omega arith)
    all_down (suc n) k l p q h =
        rw (numbers_at_lem doc k (d.nodes.node k p q)) (all_in_append P (flat (numbers_at doc) (children doc k)) (k ∷ [])
        (all_children P k (λ v e. let c = child_lower doc d.nodes k v p q e in all_down n v (omega arith) c.0 (omega arith) (s k v p q e h)))
        (h, tt))

    pub all_below_lem : (k : ℕ) → 1 ≤ k → k ≤ N → P k → AllIn P (numbers_at doc k)
    all_below_lem k = all_down (suc k) k (omega arith)

  module _ (f : ℕ → ℕ) where
    pub sum_at : (k : ℕ) → 1 ≤ k → k ≤ N → sum_of f (numbers_at doc k) ≡ sum_of f (flat (numbers_at doc) (children doc k)) + f k
    unfolding sum_of
    sum_at k p q = rw (numbers_at_lem doc k (d.nodes.node k p q)) (sum_append f (flat (numbers_at doc) (children doc k)) (k ∷ []) ∙ omega arith)

    sum_child : (k v : ℕ) → 1 ≤ k → k ≤ N → has v (children doc k) ≡ true → sum_of f (numbers_at doc v) ≤ sum_of f (numbers_at doc k)
    sum_child k v p q e =
        omega (arith, sum_at k p q, sum_flat f (numbers_at doc) (children doc k), sum_has (λ v. sum_of f (numbers_at doc v)) v (children doc k) e)

    pub sum_all : sum_of f (numbers_at doc N) ≡ total f 1 N
    sum_all =
        sum_count f (numbers_at doc N) 1 N inside
        ∙ total_same (λ v. occurrences v (numbers_at doc N) * f v) f 1 N
        (λ v p q. let z : v ≤ N = omega arith in rw (once doc d v, le-leb 1 v p, le-leb v N z) (one-mul (f v)))
      where
        Inside : ℕ → Type 0
        Inside v = (1 ≤ v) × (v < 1 + N)

        inside : AllIn Inside (numbers_at doc N)
        inside =
            let s = d.nodes.laid.some in
            all_below_lem Inside (λ k v p q e h. let c = child_lower doc d.nodes k v p q e in (c.0, omega arith)) N s (omega arith) (s, omega arith)

    sum_up : (n k : ℕ) → N ≤ n + k → 1 ≤ k → k ≤ N → sum_of f (numbers_at doc k) ≤ sum_of f (numbers_at doc N)
    sum_up zero k h p q = let e : k ≡ N = omega arith in rw e (omega arith)
    sum_up (suc n) k h p q = ⊎_elim (λ e. rw e (omega arith)) (λ l. rise l (λ j a b c. sum_up n j a b c)) (eq-or-lt_of_le q)
      where
        rise : k < N → ((j : ℕ) → N ≤ n + j → 1 ≤ j → j ≤ N → sum_of f (numbers_at doc j) ≤ sum_of f (numbers_at doc N))
            → sum_of f (numbers_at doc k) ≤ sum_of f (numbers_at doc N)
        rise l up =
            let u = used_once doc d k p l in
            let a = parent_some doc k u in
            let b = parent_above doc d.nodes k u in
            let m = parent_most doc k in
            omega (arith, sum_child (parent doc k) k a.0 m a.1, up (parent doc k) (omega arith) a.0 m)

    pub sum_under : (k : ℕ) → 1 ≤ k → k ≤ N → sum_of f (numbers_at doc k) ≤ total f 1 N
    sum_under k p q = omega (arith, sum_up N k (omega arith) p q, sum_all)
