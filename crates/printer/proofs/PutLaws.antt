-- Texts put one after the other are one text put.
use mathlib.Core.Path.{◌≡◌, refl, sym, ap, subst, ◌∙◌}
use mathlib.Core.List.{List, [], ◌∷◌, ◌++◌}
use mathlib.Core.Bool.{Bool, true, false, cond}
use Prim.Native.Nat.{ℕ, zero, suc, ◌+◌, ◌-◌, ◌≤◌, ◌<◌, min}
use native.Mathlib.Omega.{arith}
use lib.Dec.{ltb}
use lib.ListN.{length, drop, replicate, length-append, length-replicate}
use lib.Seq.{sets, length-sets, set_out, sets-eq}
use borrow.Author.Tests.{ltb-true, ltb-false, lt-ltb, le-ltb}
use Rattle.words.proofs.Lists.{sets_append}
use Rattle.printer_rules.specs.Buffer.{printed_bytes, printed_length, Printed}
use Rattle.printer.specs.Buffer.{Put}

sets_out : (l vs : List ℕ) (i : ℕ) → length l ≤ i → sets l i vs ≡ l
sets_out l [] i h = refl
sets_out l (x ∷ vs) i h = ap (λ (z : List ℕ). sets z (suc i) vs) (set_out l i x h) ∙ sets_out l vs (suc i) (omega arith)

-- a position past the end is as good as the end
sets_clipped : (l vs : List ℕ) (i : ℕ) → sets l (min i (length l)) vs ≡ sets l i vs
sets_clipped l vs i = go (ltb i (length l)) refl
  where
    go : (b : Bool) → ltb i (length l) ≡ b → sets l (min i (length l)) vs ≡ sets l i vs
    go true h =
        let k = ltb-true i (length l) h in
        let e : min i (length l) ≡ i = omega arith in
        ap (λ (k : ℕ). sets l k vs) e
    go false h =
        let k = ltb-false i (length l) h in
        sets_out l vs (min i (length l)) (omega arith) ∙ sym (sets_out l vs i k)

module _ {b : List ℕ} {at : ℕ} where
  pub put_none : {m : ℕ} → m ≡ min at (length b) → Put [] b at b m
  put_none h = record { bytes = refl; position = omega (arith, h) }

  pub put_length : {t c : List ℕ} {m : ℕ} → Put t b at c m → length c ≡ length b
  put_length {t} p = ap length p.bytes ∙ length-sets b at t

  pub put_then : {s t c d : List ℕ} {m n : ℕ} → Put s b at c m → Put t c m d n → Put (s ++ t) b at d n
  put_then {s} {t} {c} {d} {m} {n} p q =
      let l = put_length p in
      let e : m ≡ min (at + length s) (length c) = omega (arith, p.position, l) in
      record {
        bytes =
            q.bytes
            ∙ ap (λ (k : ℕ). sets c k t) e
            ∙ sets_clipped c t (at + length s)
            ∙ ap (λ (z : List ℕ). sets z (at + length s) t) p.bytes
            ∙ sym (sets_append b at s t);
        position = simp length-append (omega (arith, p.position, q.position, l));
      }

  -- at the buffer's end nothing more is put
  pub put_full : {s c : List ℕ} {m : ℕ} (t : List ℕ) → Put s b at c m → m ≡ length c → Put (s ++ t) b at c m
  put_full {s} {c} {m} t p h =
      put_then p (record { bytes = sym (sets_out c t m (omega arith)); position = omega arith })

pub put_text : {s t b c : List ℕ} {at m : ℕ} → s ≡ t → Put s b at c m → Put t b at c m
put_text {b = b} {c = c} {at = at} {m = m} e p = subst (λ (z : List ℕ). Put z b at c m) e p

abbrev zeros : ℕ → List ℕ
zeros n = replicate n 0

zeros_left : (n k : ℕ) → drop k (zeros n) ≡ zeros (n - k)
zeros_left n zero = let e : n ≡ n - 0 = omega arith in ap zeros e
zeros_left zero (suc k) = let e : 0 ≡ 0 - suc k = omega arith in ap zeros e
zeros_left (suc n) (suc k) = let e : n - k ≡ suc n - suc k = omega arith in zeros_left n k ∙ ap zeros e

-- a text put at the beginning of a cleared buffer of n bytes
module _ {t b c : List ℕ} {n m : ℕ} (cleared : b ≡ zeros n) (p : Put t b 0 c m) where
  size : length b ≡ n
  size = ap length cleared ∙ length-replicate n 0

  pub printed_fits : m < length c → Printed t n m c
  unfolding printed_bytes printed_length
  printed_fits h =
      let l = size in
      let k = put_length p in
      let q = p.position in
      let room : length t < n = omega arith in
      let fits = lt-ltb (length t) n room in
      let s : length (zeros n) ≡ n = length-replicate n 0 in
      let e : 0 + length t ≡ length t = omega arith in
      record {
        bytes =
            rw fits
            (p.bytes
            ∙ ap (λ (z : List ℕ). sets z 0 t) cleared
            ∙ sets-eq t (zeros n) 0 (omega arith)
            ∙ ap (λ (j : ℕ). t ++ drop j (zeros n)) e
            ∙ ap (λ (z : List ℕ). t ++ z) (zeros_left n (length t)));
        count = rw fits (omega arith);
      }

  pub printed_full : length c ≤ m → {d : List ℕ} → d ≡ zeros (length c) → Printed t n 0 d
  unfolding printed_bytes printed_length
  printed_full h e =
      let l = size in
      let k = put_length p in
      let q = p.position in
      let over = le-ltb (length t) n (omega arith) in
      let same : length c ≡ n = omega arith in
      record { bytes = rw over (e ∙ ap zeros same); count = rw over refl }

pub printed_within : {t b : List ℕ} {n r : ℕ} → Printed t n r b → r ≤ n
unfolding printed_length
printed_within {t} {b} {n} {r} p = go (ltb (length t) n) refl p.count
  where
    go : (x : Bool) → ltb (length t) n ≡ x → r ≡ cond x (length t) 0 → r ≤ n
    go true e h = let l = ltb-true (length t) n e in omega arith
    go false e h = omega arith
