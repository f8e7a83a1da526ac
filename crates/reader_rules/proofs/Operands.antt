-- Operands of a readable document's node, by the kind's row: lower nodes of the row's sorts.
use mathlib.Core.Path.{◌≡◌, refl, ◌∙◌}
use mathlib.Core.Bool.{Bool, true, false, ◌&&◌, cond, not}
use mathlib.Core.List.{List}
use Prim.Native.Nat.{ℕ, ◌-◌, ◌≤◌, ◌<◌}
use native.Mathlib.Omega.{arith}
use lib.Dec.{leb, eqb}
use lib.ListN.{length, get_or}
use borrow.Author.Tests.{leb-true, eqb-true, not-true, ne_eqb, lt-ltb}
use Rattle.words.proofs.Loops.{and_left, and_right}
use Rattle.layout.specs.Layout.{part}
use Rattle.reader_rules.specs.Kinds.{cell, sort_at, sort_in, sort_row, counts, is_node_sort}
use Rattle.reader_rules.specs.Nodes.{kind_at}
use Rattle.reader_rules.specs.Promise.{At, Lower}
use Rattle.reader_rules.proofs.Accepted.{readable, operand, some_words, least_operands}
use Rattle.reader_rules.proofs.Parents.{place_child}

-- Tests on a kind's row: all sorts by the row; two operands, of sorts s₁ and s₂; at least one, the first of sort s; from the second on, or all, of sort s.
abbrev pub plain_row : ℕ → Bool
plain_row q = not (eqb q 12) && eqb (cell q 5) 0

abbrev pub pair_kind : ℕ → ℕ → ℕ → Bool
pair_kind s₁ s₂ q = plain_row q && (eqb (cell q 0) 2 && (eqb (cell q 2) s₁ && eqb (cell q 3) s₂))

abbrev pub one_kind : ℕ → ℕ → Bool
one_kind s q = plain_row q && (leb 1 (cell q 0) && eqb (cell q 2) s)

abbrev pub many_kind : ℕ → ℕ → Bool
many_kind s q = plain_row q && (eqb (cell q 3) s && eqb (cell q 4) s)

abbrev pub all_kind : ℕ → ℕ → Bool
all_kind s q = many_kind s q && eqb (cell q 2) s

pub cond_same : {A : Type 0} (b : Bool) (x : A) → cond b x x ≡ x
cond_same true x = refl
cond_same false x = refl

pub sort_row_lem : (q n a i : ℕ) → plain_row q ≡ true → sort_in q n a i ≡ sort_row q i
unfolding sort_in
sort_row_lem q n a i e =
    let z = eqb-true (cell q 5) 0 (and_right (not (eqb q 12)) _ e) in
    let y = not-true (eqb q 12) (and_left (not (eqb q 12)) _ e) in
    rw (y, z) (cond_same (eqb i n) (sort_row q i))

-- an operand of a sort that is known
pub lower_operand : (doc : List ℕ) (s k : ℕ) → At doc s k → (i t : ℕ) → 1 ≤ i → i < length (part doc k) → sort_at (part doc k) i ≡ t → counts < t
    → Lower doc k t (get_or (part doc k) i 0)
lower_operand doc s k h i t a b j g =
    let q : is_node_sort (sort_at (part doc k) i) ≡ true = rw j (lt-ltb counts t g) in
    let o = operand doc k i ((readable doc h.read).nodes.node k h.some h.most) a b q in
    let m = h.most in
    let n = h.small in
    let y = o.below in
    record {
      at = record { read = h.read; some = o.some; most = omega arith; small = omega arith; sort = rw j at o.sort };
      below = y;
      child = place_child doc k i a b q;
    }

-- a node has at least as many operands as its row's first column says
enough : (doc : List ℕ) (s k : ℕ) → At doc s k → cell (kind_at doc k) 0 < length (part doc k)
enough doc s k h =
    let r = (readable doc h.read).nodes in
    least_operands doc k (r.node k h.some h.most) (some_words doc k r.laid h.some h.most)

module _ (doc : List ℕ) (s k : ℕ) (h : At doc s k) where
  row_operand : plain_row (kind_at doc k) ≡ true → (i t : ℕ) → 1 ≤ i → i < length (part doc k) → sort_row (kind_at doc k) i ≡ t → counts < t
      → Lower doc k t (get_or (part doc k) i 0)
  row_operand p i t a b f g = lower_operand doc s k h i t a b (sort_row_lem (kind_at doc k) _ _ i p ∙ f) g

  pub first_of : (t : ℕ) → one_kind t (kind_at doc k) ≡ true → counts < t → Lower doc k t (get_or (part doc k) 1 0)
  first_of t e g =
      let q = kind_at doc k in
      let a = and_left (plain_row q) _ e in
      let b = and_right (plain_row q) _ e in
      let n = enough doc s k h in
      let m = leb-true 1 (cell q 0) (and_left (leb 1 (cell q 0)) _ b) in
      row_operand a 1 t (omega arith) (omega arith) (eqb-true (cell q 2) t (and_right (leb 1 (cell q 0)) _ b)) g

  pub pair_of : (t₁ t₂ : ℕ) → pair_kind t₁ t₂ (kind_at doc k) ≡ true → counts < t₁ → counts < t₂
      → Lower doc k t₁ (get_or (part doc k) 1 0) × Lower doc k t₂ (get_or (part doc k) 2 0)
  pair_of t₁ t₂ e g₁ g₂ =
      let q = kind_at doc k in
      let a = and_left (plain_row q) _ e in
      let b = and_right (plain_row q) _ e in
      let d = and_right (eqb (cell q 0) 2) _ b in
      let n = enough doc s k h in
      let m = eqb-true (cell q 0) 2 (and_left (eqb (cell q 0) 2) _ b) in (
        row_operand a 1 t₁ (omega arith) (omega arith) (eqb-true (cell q 2) t₁ (and_left (eqb (cell q 2) t₁) _ d)) g₁,
        row_operand a 2 t₂ (omega arith) (omega arith) (eqb-true (cell q 3) t₂ (and_right (eqb (cell q 2) t₁) _ d)) g₂,
      )

  pub each_of : (t : ℕ) → many_kind t (kind_at doc k) ≡ true → counts < t → (i : ℕ) → 2 ≤ i → i < length (part doc k) → Lower doc k t (get_or (part doc k) i 0)
  each_of t e g i a b =
      let q = kind_at doc k in
      let d = and_right (plain_row q) _ e in
      let x = eqb-true (cell q 3) t (and_left (eqb (cell q 3) t) _ d) in
      let y = eqb-true (cell q 4) t (and_right (eqb (cell q 3) t) _ d) in
      row_operand (and_left (plain_row q) _ e) i t (omega arith) b (rw (ne_eqb i 1 (omega arith), x, y) (cond_same (eqb i 2) t)) g

  pub all_of : (t : ℕ) → all_kind t (kind_at doc k) ≡ true → counts < t → (i : ℕ) → 1 ≤ i → i < length (part doc k) → Lower doc k t (get_or (part doc k) i 0)
  all_of t e g i a b =
      let q = kind_at doc k in
      let f = and_left (many_kind t q) _ e in
      let d = and_right (plain_row q) _ f in
      let x = eqb-true (cell q 3) t (and_left (eqb (cell q 3) t) _ d) in
      let y = eqb-true (cell q 4) t (and_right (eqb (cell q 3) t) _ d) in
      let z = eqb-true (cell q 2) t (and_right (many_kind t q) _ e) in
      row_operand (and_left (plain_row q) _ f) i t a b (rw (x, y, z, cond_same (eqb i 2) t) (cond_same (eqb i 1) t)) g
