-- The tables of marks and the comparisons decide finding 16.
use mathlib.Core.Path.{◌≡◌, refl, sym, ap, ◌∙◌}
use mathlib.Core.Bool.{Bool, true, false, ◌&&◌, ◌||◌, not}
use mathlib.Core.List.{List, [], ◌∷◌, ◌++◌, append-nil}
use Prim.Native.Nat.{ℕ, suc, ◌+◌, ◌-◌, ◌*◌, ◌/◌, ◌%◌, ◌^◌, ◌≤◌, ◌<◌}
use native.Mathlib.Omega.{arith}
use native.Mathlib.Decide.{ℕ_discrete}
use lib.Dec.{eqb}
use lib.ListN.{length, get_or, length-set, replicate, length-replicate, get_or-replicate}
use lib.Bits.{bit_or}
use native.Mathlib.Nat.{zero-div}
use borrow.Author.Tests.{eq-eqb, ne_eqb}
use Rattle.words.specs.Loops.{has}
use Rattle.words.proofs.Lists.{has_append, joined_last}
use Rattle.reader_repeats.proofs.BitLaws.{free_same, free_other}
use Rattle.reader_repeats.specs.Marks.{bits, is_free, with_mark, unmarked, marked, Marks, distinct, shares}
use Rattle.reader_rules.specs.Repeats.{fresh, written_before}

-- ---- marks
abbrev pub AllBelow : ℕ → List ℕ → Type 0
AllBelow n [] = Unit {0}
AllBelow n (x ∷ xs) = (x < n) × AllBelow n xs

-- one mark more
mark_more : (n x : ℕ) (seen written : List ℕ) → x < n → Marks n seen written → Marks n (with_mark seen x) (x ∷ written)
unfolding has with_mark
mark_more n x seen written h m =
    record {
      size = rw (length-set seen (x / bits) (bit_or (get_or seen (x / bits) 0) (2 ^ (x % bits)))) m.size;
      at = λ v l. go v l (ℕ_discrete x v);
    }
  where
    inside : x / bits < length seen
    inside = omega (arith, m.size)

    go : (v : ℕ) → v < n → Dec (x ≡ v) → is_free (with_mark seen x) v ≡ not (eqb x v || has v written)
    go v l (yes e) = rw (← e, eq-eqb x x refl) (free_same seen x inside)
    go v l (no e) = rw (ne_eqb x v e) (free_other seen x v inside e ∙ m.at v l)

pub unmarked_fresh : (n : ℕ) (ids seen written : List ℕ) → AllBelow n ids → Marks n seen written → unmarked ids seen ≡ fresh written ids
unfolding unmarked fresh
unmarked_fresh n [] seen written b m = refl
unmarked_fresh n (x ∷ xs) seen written b m =
    rw (m.at x b.0, unmarked_fresh n xs (with_mark seen x) (x ∷ written) b.1 (mark_more n x seen written b.0 m))

-- marks go by what stands in the list, not by its order
marks_same : (n : ℕ) (seen a b : List ℕ) → ((v : ℕ) → has v a ≡ has v b) → Marks n seen a → Marks n seen b
marks_same n seen a b h m = record { size = m.size; at = λ v l. m.at v l ∙ ap not (h v) }

or_swap : (a b c : Bool) → ((a || b) || c) ≡ (b || (a || c))
or_swap true true c = refl
or_swap true false c = refl
or_swap false b c = refl

has_moved : (v x : ℕ) (written xs : List ℕ) → has v ((x ∷ written) ++ xs) ≡ has v (written ++ (x ∷ xs))
unfolding has
has_moved v x written xs =
    has_append v (x ∷ written) xs ∙ or_swap (eqb x v) (has v written) (has v xs) ∙ sym (has_append v written (x ∷ xs))

pub marks_after : (n : ℕ) (ids seen written : List ℕ) → AllBelow n ids → Marks n seen written → Marks n (marked ids seen) (written ++ ids)
unfolding marked
marks_after n [] seen written b m = marks_same n seen written (written ++ []) (λ v. sym (none v)) m
  where
    none : (v : ℕ) → has v (written ++ []) ≡ has v written
    none v = rw append-nil
marks_after n (x ∷ xs) seen written b m =
    marks_same n (marked xs (with_mark seen x)) ((x ∷ written) ++ xs) (written ++ (x ∷ xs)) (λ v. has_moved v x written xs)
    (marks_after n xs (with_mark seen x) (x ∷ written) b.1 (mark_more n x seen written b.0 m))

-- no marks
pub no_marks : (n : ℕ) → Marks (n * bits) (replicate n 0) []
unfolding has is_free
no_marks n =
    record {
      size = rw (length-replicate {A = ℕ} n 0);
      at = λ v h. rw (get_or-replicate {A = ℕ} n (v / bits) 0 0 (omega arith), zero-div);
    }

-- ---- writings
pub written_next : (group : ℕ → List ℕ) (k : ℕ) → 1 ≤ k → written_before group (k + 1) ≡ written_before group k ++ group k
written_next group k h =
    let a : k + 1 - 1 ≡ suc (k - 1) = omega arith in
    let b : 1 + (k - 1) ≡ k = omega arith in
    rw a (joined_last group 1 (k - 1) ∙ rw b)

-- ---- comparison
-- words are fresh where none stands in `written` and none stands twice
shares_cons : (x : ℕ) (written xs : List ℕ) → shares (x ∷ written) xs ≡ (has x xs || shares written xs)
unfolding shares has
shares_cons x written [] = refl
shares_cons x written (y ∷ ys) = rw (shares_cons x written ys) (go (ℕ_discrete x y))
  where
    four : (a b c d : Bool) → ((a || b) || (c || d)) ≡ ((a || c) || (b || d))
    four true b c d = refl
    four false true true d = refl
    four false true false d = refl
    four false false c d = refl

    go : Dec (x ≡ y) → ((eqb x y || has y written) || (has x ys || shares written ys)) ≡ ((eqb y x || has x ys) || (has y written || shares written ys))
    go (yes e) = rw (eq-eqb x y e, eq-eqb y x (sym e))
    go (no e) = rw (ne_eqb x y e, ne_eqb y x (λ q. e (sym q))) (four false (has y written) (has x ys) (shares written ys))

pub fresh_shares : (written ids : List ℕ) → fresh written ids ≡ (not (shares written ids) && distinct ids)
unfolding fresh shares distinct
fresh_shares written [] = refl
fresh_shares written (x ∷ xs) =
    rw (fresh_shares (x ∷ written) xs, shares_cons x written xs) (by (has x written) (has x xs) (shares written xs) (distinct xs))
  where
    by : (a b c d : Bool) → (not a && (not (b || c) && d)) ≡ (not (a || c) && (not b && d))
    by true b c d = refl
    by false true true d = refl
    by false true false d = refl
    by false false c d = refl

shares_none : (ids : List ℕ) → shares [] ids ≡ false
unfolding shares has
shares_none [] = refl
shares_none (x ∷ xs) = shares_none xs

pub fresh_distinct : (ids : List ℕ) → fresh [] ids ≡ distinct ids
fresh_distinct ids = fresh_shares [] ids ∙ rw (shares_none ids)
