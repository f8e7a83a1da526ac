-- Laws of values by value: when a list is kept, and that appending to a kept list keeps the longer list.
use Rattle.std.proofs.Common.{◌≡◌, ℕ, ◌+◌, ◌-◌, ◌<◌, ◌≤◌, Bool, true, false, leb, List, [], ◌++◌, length, take, replicate, sym, refl, ap, ◌∙◌, arith, length-append, take_at, le-leb, leb-false, leb-true}
use lib.ListN.{length-replicate}
use lib.Seq.{sets, sets-eq, drop-append-add}
use borrow.Author.Tests.{lt-leb}
use Rattle.words.proofs.Lists.{zeros_dropped}
use Rattle.values.specs.declared.held.Held.{Held}
use Rattle.values.specs.Held.{over, keep, Building}

pub keep_over : (ws : List ℕ) → 64 < length ws → keep ws ≡ over
unfolding keep
keep_over ws h = rw (lt-leb (length ws) 64 h)

pub keep_fits : (ws : List ℕ) → length ws ≤ 64 → keep ws ≡ record { words = ws ++ replicate (64 - length ws) 0; len = length ws }
unfolding keep
keep_fits ws h = rw (le-leb (length ws) 64 h)

abbrev zeros : ℕ → List ℕ
zeros n = replicate n 0

-- what a kept value says of its list
module _ (v : Held) (ws : List ℕ) (e : v ≡ keep ws) where
  pub held_short : v.len ≤ 64 → length ws ≤ 64
  unfolding keep over
  held_short h = go (leb (length ws) 64) refl
    where
      go : (b : Bool) → leb (length ws) 64 ≡ b → length ws ≤ 64
      go true t = leb-true (length ws) 64 t
      go false t = absurd (omega (arith, ap (λ (x : Held). x.len) (e ∙ keep_over ws (leb-false (length ws) 64 t))))

  pub held_long : 64 < v.len → 64 < length ws
  unfolding keep over
  held_long h = go (leb (length ws) 64) refl
    where
      go : (b : Bool) → leb (length ws) 64 ≡ b → 64 < length ws
      go true t = absurd (omega (arith, ap (λ (x : Held). x.len) (e ∙ keep_fits ws (leb-true (length ws) 64 t)), leb-true (length ws) 64 t))
      go false t = leb-false (length ws) 64 t

  pub held_len : length ws ≤ 64 → v.len ≡ length ws
  held_len h = ap (λ (x : Held). x.len) (e ∙ keep_fits ws h)

  pub held_words : length ws ≤ 64 → v.words ≡ ws ++ replicate (64 - length ws) 0
  held_words h = ap (λ (x : Held). x.words) (e ∙ keep_fits ws h)

-- the words after a copy to the end of those that are held
pub appended : (ws w : List ℕ) → length ws + length w ≤ 64 → sets (ws ++ replicate (64 - length ws) 0) (length ws) w ≡ (ws ++ w) ++ replicate (64 - length (ws ++ w)) 0
appended ws w h =
    let z = zeros (64 - length ws) in
    let l : length (ws ++ z) ≡ 64 = length-append ws z ∙ omega (arith, length-replicate {A = ℕ} (64 - length ws) 0) in
    let k : 64 - length ws - length w ≡ 64 - length (ws ++ w) = omega (arith, length-append ws w) in
    sets-eq w (ws ++ z) (length ws) (omega arith)
    ∙ rw (take_at ws z (length ws) refl, drop-append-add ws z (length w), zeros_dropped (length w) (64 - length ws), k)

-- the words that are held, back as a list
pub held_part : (v : Held) (ws : List ℕ) → v ≡ keep ws → length ws ≤ 64 → take v.len v.words ≡ ws
held_part v ws e h = rw (held_len v ws e h, held_words v ws e h) (take_at ws (zeros (64 - length ws)) (length ws) refl)

-- ---- a value while it is built
pub building_none : Building (replicate 64 0) 0 []
building_none = record { words = λ l. refl; end = λ l. refl; past = λ l. absurd (omega arith) }

module _ (u w ws : List ℕ) (at : ℕ) (b : Building u at ws) where
  room : length ws ≤ 64 → length u ≡ 64
  room l = ap length (b.words l) ∙ length-append ws (zeros (64 - length ws)) ∙ omega (arith, length-replicate {A = ℕ} (64 - length ws) 0)

  -- either the words so far fit, or the place is over 64 already
  fits_or : {A : Type 0} → (length ws ≤ 64 → A) → (64 < at → A) → A
  fits_or {A} f g = go (leb (length ws) 64) refl
    where
      go : (c : Bool) → leb (length ws) 64 ≡ c → A
      go true e = f (leb-true (length ws) 64 e)
      go false e = g (b.past (leb-false (length ws) 64 e))

  shorter : length (ws ++ w) ≤ 64 → length ws ≤ 64
  shorter l = omega (arith, length-append ws w)

  pub put_fits : at + length w ≤ length u → Building (sets u at w) (at + length w) (ws ++ w)
  put_fits h =
      record {
        words = λ l. rw (b.words (shorter l), b.end (shorter l)) (appended ws w (omega (arith, length-append ws w)));
        end = λ l. omega (arith, b.end (shorter l), length-append ws w);
        past = λ l. fits_or (λ k. omega (arith, l, b.end k, length-append ws w)) (λ p. omega arith);
      }

pub built_keep : (u ws : List ℕ) (at : ℕ) → Building u at ws → at ≤ 64 → record { words = u; len = at } ≡ keep ws
built_keep u ws at b l = go (leb (length ws) 64) refl
  where
    go : (c : Bool) → leb (length ws) 64 ≡ c → record { words = u; len = at } ≡ keep ws
    go true e = let k = leb-true (length ws) 64 e in rw (b.words k, b.end k) (sym (keep_fits ws k))
    go false e = absurd (omega (arith, b.past (leb-false (length ws) 64 e)))

pub built_over : (u ws : List ℕ) (at : ℕ) → Building u at ws → 64 < at → over ≡ keep ws
built_over u ws at b l = go (leb (length ws) 64) refl
  where
    go : (c : Bool) → leb (length ws) 64 ≡ c → over ≡ keep ws
    go true e = absurd (omega (arith, b.end (leb-true (length ws) 64 e), leb-true (length ws) 64 e))
    go false e = sym (keep_over ws (leb-false (length ws) 64 e))
