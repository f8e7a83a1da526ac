-- Laws of `scan`: one turn of a loop over nodes, and what it means that nothing is found.
use mathlib.Core.Path.{◌≡◌, refl, sym, ◌∙◌, ap, subst}
use mathlib.Core.Bool.{Bool, true, false, true≢false, cond}
use mathlib.Core.Logic.{⊎_elim}
use Prim.Native.Nat.{ℕ, zero, suc, ◌+◌, ◌-◌, ◌≤◌, ◌<◌}
use native.Mathlib.Omega.{arith}
use native.Mathlib.Numerals.{add-one}
use native.Mathlib.Nat.{eq-or-lt_of_le}
use Rattle.std.specs.Prelude.{Result, Ok, Err, is_err}
use Rattle.reader_rules.specs.declared.Refusal.{Refusal}
use Rattle.words.proofs.Loops.{turn, none_left_lem}
use Rattle.reader_rules.specs.Findings.{found, scan, and_then}
use Rattle.reader_rules.specs.Refusals.{Finding, Readable, Refused}

pub found_zero : (v k : ℕ) (r : Finding) → v ≡ 0 → found v k r ≡ r
found_zero zero k r e = refl
found_zero (suc v) k r e = absurd (omega arith)

pub found_not : (v k : ℕ) (r : Finding) → (v ≡ 0 → ⊥) → found v k r ≡ Refused v k
found_not zero k r e = absurd (e refl)
found_not (suc v) k r e = refl

-- a loop over nodes that is at k and ends before e
module _ (f : ℕ → ℕ) (e k : ℕ) where
  pub scan_hit : k < e → (f k ≡ 0 → ⊥) → Refused (f k) k ≡ scan f k (e - k)
  unfolding scan
  scan_hit h x = rw (turn e k h, scan) (sym (found_not (f k) k (scan f (suc k) (e - (k + 1))) x))

  pub scan_go : k < e → f k ≡ 0 → scan f k (e - k) ≡ scan f (k + 1) (e - (k + 1))
  unfolding scan
  scan_go h x = rw (turn e k h, scan, x, add-one k)

  pub scan_end : e ≤ k → Readable ≡ scan f k (e - k)
  unfolding scan
  scan_end h = rw (none_left_lem e k h)

pub ruleset scan_turns = (scan_hit, scan_go, scan_end)

abbrev number_in : {A : Type 0} → Result A Refusal → ℕ
number_in (Ok x) = 0
number_in (Err err) = err.number

abbrev place_in : {A : Type 0} → Result A Refusal → ℕ
place_in (Ok x) = 0
place_in (Err err) = err.place

-- a refusal has one number and one place
pub same_refusal : {A : Type 0} (n p m q : ℕ) → Refused {A = A} n p ≡ Refused m q → (n ≡ m) × (p ≡ q)
same_refusal n p m q e = (ap number_in e, ap place_in e)

-- what `is_err` says of a finding
pub refused_by : (r : Finding) → is_err r ≡ true → (err : Refusal) × (r ≡ Err err)
refused_by (Ok tt) e = absurd (true≢false (sym e))
refused_by (Err err) e = (err, refl)

pub readable_by : (r : Finding) → is_err r ≡ false → r ≡ Readable
readable_by (Ok tt) e = refl
readable_by (Err err) e = absurd (true≢false e)

pub never : {B : Type 0} (n p : ℕ) → Refused n p ≡ Readable → B
never n p e = let z : ◌≡◌ {A = ℕ} 0 1 = cc in absurd (omega arith)

found_none : (v k : ℕ) (r : Finding) → found v k r ≡ Readable → (v ≡ 0) × (r ≡ Readable)
found_none zero k r e = (refl, e)
found_none (suc v) k r e = never (suc v) k e

pub scan_none : (f : ℕ → ℕ) (i m : ℕ) → scan f i m ≡ Readable → (j : ℕ) → i ≤ j → j < i + m → f j ≡ 0
unfolding scan
scan_none f i zero e j p q = absurd (omega arith)
scan_none f i (suc m) e j p q =
    let h = found_none (f i) i (scan f (suc i) m) e in
    ⊎_elim (λ x. subst (λ (n : ℕ). f n ≡ 0) x h.0) (λ l. scan_none f (suc i) m h.1 j l (omega arith)) (eq-or-lt_of_le p)

pub scan_clear : (f : ℕ → ℕ) (i m : ℕ) → ((j : ℕ) → i ≤ j → j < i + m → f j ≡ 0) → scan f i m ≡ Readable
unfolding scan
scan_clear f i zero h = refl
scan_clear f i (suc m) h = found_zero (f i) i _ (h i (omega arith) (omega arith)) ∙ scan_clear f (suc i) m (λ j p q. h j (omega arith) (omega arith))

pub then_none : (a b : Finding) → and_then a b ≡ Readable → (a ≡ Readable) × (b ≡ Readable)
then_none (Ok tt) b e = (refl, e)
then_none (Err r) b e = never r.number r.place e

pub cond_none : (b : Bool) (r : Finding) (n p : ℕ) → cond b r (Refused n p) ≡ Readable → (b ≡ true) × (r ≡ Readable)
cond_none true r n p e = (refl, e)
cond_none false r n p e = never n p e

-- a number chosen by a test is 0
pub cond_zero : (b : Bool) (x y : ℕ) → (y ≡ 0 → ⊥) → cond b x y ≡ 0 → (b ≡ true) × (x ≡ 0)
cond_zero true x y h e = (refl, e)
cond_zero false x y h e = absurd (h e)

pub cond_off : (b : Bool) (x y : ℕ) → (x ≡ 0 → ⊥) → cond b x y ≡ 0 → (b ≡ false) × (y ≡ 0)
cond_off true x y h e = absurd (h e)
cond_off false x y h e = (refl, e)
