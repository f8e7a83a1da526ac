-- The decimal digits are right: they show the number, each is a digit, none leads with 0, and there are as few as the number is small.
use mathlib.Core.Path.{◌≡◌, refl, sym, ap, ◌∙◌}
use mathlib.Core.List.{List, [], ◌∷◌, ◌++◌}
use mathlib.Core.Bool.{Bool, true, false}
use Prim.Native.Nat.{ℕ, zero, suc, ◌+◌, ◌*◌, ◌-◌, ◌/◌, ◌%◌, ◌^◌, ◌≤◌, ◌<◌}
use native.Mathlib.Omega.{arith}
use native.Mathlib.Nat.{div-add-mod', mod-lt, pow-suc}
use lib.Dec.{ltb}
use lib.ListN.{length, get_or, length-append}
use borrow.Author.Tests.{ltb-true, ltb-false, lt-ltb, le-ltb}
use Rattle.printer_rules.specs.Decimal.{digits, decimal, shown, Digits, none, digit}

-- the digits of n by its last digit
abbrev last : Bool → ℕ → ℕ → List ℕ
last b d n = elim b as (λ x. List ℕ) [ true ↦ (48 + n) ∷ [] | false ↦ digits d (n / 10) ++ ((48 + n % 10) ∷ []) ]

shown_append : (a : ℕ) (bs : List ℕ) (b : ℕ) → shown a (bs ++ (b ∷ [])) ≡ shown a bs * 10 + (b - 48)
unfolding shown
shown_append a [] b = refl
shown_append a (c ∷ bs) b = shown_append (a * 10 + (c - 48)) bs b

-- a tenth is smaller, and what is left is below 10
module _ (n : ℕ) where
  tenth : n / 10 * 10 + n % 10 ≡ n
  tenth = div-add-mod' n 10

  left : n % 10 < 10
  left = mod-lt n (omega arith)

digits_show : (d n : ℕ) → n < d → shown 0 (digits d n) ≡ n
unfolding digits shown
digits_show zero n h = absurd (omega arith)
digits_show (suc d) n h = go (ltb n 10) refl (λ l. digits_show d (n / 10) l)
  where
    go : (b : Bool) → ltb n 10 ≡ b → (n / 10 < d → shown 0 (digits d (n / 10)) ≡ n / 10) → shown 0 (last b d n) ≡ n
    go true e ih = omega arith
    go false e ih =
        let l = ltb-false n 10 e in
        let t = tenth n in
        let r = left n in
        let i = ih (omega arith) in
        shown_append 0 (digits d (n / 10)) (48 + n % 10) ∙ omega arith

pub decimal_shows : (n : ℕ) → shown 0 (decimal n) ≡ n
unfolding decimal
decimal_shows n = digits_show (suc n) n (omega arith)

digits_after : {bs : List ℕ} (b : ℕ) → Digits bs → 48 ≤ b → b ≤ 57 → Digits (bs ++ (b ∷ []))
digits_after b none p q = digit p q none
digits_after b (digit x y h) p q = digit x y (digits_after b h p q)

digits_digits : (d n : ℕ) → Digits (digits d n)
unfolding digits
digits_digits zero n = none
digits_digits (suc d) n = go (ltb n 10) refl (digits_digits d (n / 10))
  where
    go : (b : Bool) → ltb n 10 ≡ b → Digits (digits d (n / 10)) → Digits (last b d n)
    go true e h = let l = ltb-true n 10 e in digit {b = 48 + n} (omega arith) (omega arith) none
    go false e h = let r = left n in digits_after (48 + n % 10) h (omega arith) (omega arith)

pub decimal_digits : (n : ℕ) → Digits (decimal n)
unfolding decimal
decimal_digits n = digits_digits (suc n) n

-- the first digit of bytes that go on is theirs
first_of : (bs cs : List ℕ) → (length bs ≡ 0 → ⊥) → get_or (bs ++ cs) 0 0 ≡ get_or bs 0 0
first_of [] cs h = absurd (h refl)
first_of (b ∷ bs) cs h = refl

digits_some : (d n : ℕ) → 1 ≤ d → 1 ≤ length (digits d n)
unfolding digits
digits_some zero n h = absurd (omega arith)
digits_some (suc d) n h = go (ltb n 10)
  where
    go : (b : Bool) → 1 ≤ length (last b d n)
    go true = omega arith
    go false = simp length-append (omega arith)

-- no leading zero: only 0 begins with the digit 0
digits_lead : (d n : ℕ) → n < d → get_or (digits d n) 0 0 ≡ 48 → n ≡ 0
unfolding digits
digits_lead zero n h z = absurd (omega arith)
digits_lead (suc d) n h z = go (ltb n 10) refl z (λ l x. digits_lead d (n / 10) l x)
  where
    go : (b : Bool) → ltb n 10 ≡ b → get_or (last b d n) 0 0 ≡ 48 → (n / 10 < d → get_or (digits d (n / 10)) 0 0 ≡ 48 → n / 10 ≡ 0) → n ≡ 0
    go true e z ih = omega arith
    go false e z ih =
        let l = ltb-false n 10 e in
        let t = tenth n in
        let r = left n in
        let s = digits_some d (n / 10) (omega arith) in
        let x = ih (omega arith) (sym (first_of (digits d (n / 10)) ((48 + n % 10) ∷ []) (λ y. omega arith)) ∙ z) in
        absurd (omega arith)

pub no_leading_zero : (n : ℕ) → get_or (decimal n) 0 0 ≡ 48 → n ≡ 0
unfolding decimal
no_leading_zero n z = digits_lead (suc n) n (omega arith) z

-- below 10^k, k ≥ 1, there are at most k digits
digits_few : (d n k : ℕ) → 1 ≤ k → n < 10 ^ k → length (digits d n) ≤ k
unfolding digits
digits_few zero n k h l = omega arith
digits_few (suc d) n zero h l = absurd (omega arith)
digits_few (suc d) n (suc k) h l = go (ltb n 10) refl k l (λ x y. digits_few d (n / 10) k x y)
  where
    go : (b : Bool) → ltb n 10 ≡ b → (k : ℕ) → n < 10 ^ suc k → (1 ≤ k → n / 10 < 10 ^ k → length (digits d (n / 10)) ≤ k) → length (last b d n) ≤ suc k
    go true e k l ih = omega arith
    go false e zero l ih = let x = ltb-false n 10 e in absurd (omega arith)
    go false e (suc k) l ih =
        let t = tenth n in
        let r = left n in
        let p : 10 ^ suc (suc k) ≡ 10 ^ suc k * 10 = pow-suc 10 (suc k) in
        let i = ih (omega arith) (omega arith) in
        simp length-append (omega arith)

-- a word has at most 10 digits
pub word_few : (n : ℕ) → n < 2 ^ 32 → length (decimal n) ≤ 10
unfolding decimal
word_few n h = digits_few (suc n) n 10 (omega arith) (omega arith)

-- room for more digits changes nothing
digits_room : (d e n : ℕ) → n < d → n < e → digits d n ≡ digits e n
unfolding digits
digits_room zero e n h l = absurd (omega arith)
digits_room (suc d) zero n h l = absurd (omega arith)
digits_room (suc d) (suc e) n h l = go (ltb n 10) refl (λ p q. digits_room d e (n / 10) p q)
  where
    go : (b : Bool) → ltb n 10 ≡ b → (n / 10 < d → n / 10 < e → digits d (n / 10) ≡ digits e (n / 10)) → last b d n ≡ last b e n
    go true x ih = refl
    go false x ih =
        let k = ltb-false n 10 x in
        let t = tenth n in
        ap (λ (z : List ℕ). z ++ ((48 + n % 10) ∷ [])) (ih (omega arith) (omega arith))

-- one digit; more digits: those of the tenth, then the last
pub decimal_one : (n : ℕ) → n < 10 → decimal n ≡ (48 + n) ∷ []
unfolding decimal digits
decimal_one n h = ap (λ (b : Bool). last b n n) (lt-ltb n 10 h)

pub decimal_more : (n : ℕ) → 10 ≤ n → decimal n ≡ decimal (n / 10) ++ ((48 + n % 10) ∷ [])
unfolding decimal digits
decimal_more n h =
    let t = tenth n in
    ap (λ (b : Bool). last b n n) (le-ltb n 10 h) ∙ (ap (λ (z : List ℕ). z ++ ((48 + n % 10) ∷ [])) (digits_room n (suc (n / 10)) (n / 10) (omega arith) (omega arith)))
