-- No value's words are the beginning of another's: from words, the value and what follows it are determined.
use Rattle.std.proofs.Common.{◌≡◌, ℕ, ◌^◌, Bool, true, ◌&&◌, List, [], ◌++◌, ℤ, sym, refl, ap, ◌∙◌, append_assoc, arith, w32, SFits, to_z, ltb-true}
use lib.Signed.{mag}
use mir.ValLaws.{to_z-of_z}
use Rattle.values_integers.specs.Integer.{word_of, in32}
use Rattle.words.proofs.Loops.{and_left, and_right}
use Rattle.values.specs.Value.{Value, int, element, set, tuple, Values, nil, cons, count, encode, encodes}
use Rattle.values.specs.WellFormed.{well_formed, all_well_formed}

-- a test of which both parts pass
pub both : (a b : Bool) → a ≡ true → b ≡ true → (a && b) ≡ true
both a b e f = rw (e, f)

pub fits32 : (z : ℤ) → in32 z ≡ true → SFits w32 z
fits32 z h = record { sfits = omega (arith, ltb-true (mag z) (2 ^ 31) h) }

word_unique : (y z : ℤ) → in32 y ≡ true → in32 z ≡ true → word_of y ≡ word_of z → y ≡ z
unfolding word_of
word_unique y z p q e = sym (to_z-of_z w32 y (fits32 y p)) ∙ ap (to_z w32) e ∙ to_z-of_z w32 z (fits32 z q)

module _ (size : ℕ → ℕ) where
  mutual
    unfolding encode count well_formed

    pub unique : (v u : Value) (r s : List ℕ) → well_formed size v ≡ true → well_formed size u ≡ true → encode v ++ r ≡ encode u ++ s → (v ≡ u) × (r ≡ s)
    unique (int y) (int z) r s p q e =
        let w : word_of y ≡ word_of z = cc in
        (ap int (word_unique y z p q w), cc)
    unique (int y) (element g k) r s p q e = let z : ◌≡◌ {A = ℕ} 1 2 = cc in absurd (omega arith)
    unique (int y) (set us) r s p q e = let z : ◌≡◌ {A = ℕ} 1 3 = cc in absurd (omega arith)
    unique (int y) (tuple us) r s p q e = let z : ◌≡◌ {A = ℕ} 1 4 = cc in absurd (omega arith)
    unique (element f j) (int z) r s p q e = let z : ◌≡◌ {A = ℕ} 2 1 = cc in absurd (omega arith)
    unique (element f j) (element g k) r s p q e = (cc, cc)
    unique (element f j) (set us) r s p q e = let z : ◌≡◌ {A = ℕ} 2 3 = cc in absurd (omega arith)
    unique (element f j) (tuple us) r s p q e = let z : ◌≡◌ {A = ℕ} 2 4 = cc in absurd (omega arith)
    unique (set vs) (int z) r s p q e = let z : ◌≡◌ {A = ℕ} 3 1 = cc in absurd (omega arith)
    unique (set vs) (element g k) r s p q e = let z : ◌≡◌ {A = ℕ} 3 2 = cc in absurd (omega arith)
    unique (set vs) (set us) r s p q e =
        let n : count vs ≡ count us = cc in
        let l : encodes vs ++ r ≡ encodes us ++ s = cc in
        let i = uniques vs us r s (and_left (all_well_formed size vs) _ p) (and_left (all_well_formed size us) _ q) n l in
        (ap set i.0, i.1)
    unique (set vs) (tuple us) r s p q e = let z : ◌≡◌ {A = ℕ} 3 4 = cc in absurd (omega arith)
    unique (tuple vs) (int z) r s p q e = let z : ◌≡◌ {A = ℕ} 4 1 = cc in absurd (omega arith)
    unique (tuple vs) (element g k) r s p q e = let z : ◌≡◌ {A = ℕ} 4 2 = cc in absurd (omega arith)
    unique (tuple vs) (set us) r s p q e = let z : ◌≡◌ {A = ℕ} 4 3 = cc in absurd (omega arith)
    unique (tuple vs) (tuple us) r s p q e =
        let n : count vs ≡ count us = cc in
        let l : encodes vs ++ r ≡ encodes us ++ s = cc in
        let i = uniques vs us r s (and_left (all_well_formed size vs) _ p) (and_left (all_well_formed size us) _ q) n l in
        (ap tuple i.0, i.1)

    uniques : (vs us : Values) (r s : List ℕ) → all_well_formed size vs ≡ true → all_well_formed size us ≡ true → count vs ≡ count us → encodes vs ++ r ≡ encodes us ++ s → (vs ≡ us) × (r ≡ s)
    uniques nil nil r s p q n e = (refl, e)
    uniques nil (cons u us) r s p q n e = absurd (omega arith)
    uniques (cons v vs) nil r s p q n e = absurd (omega arith)
    uniques (cons v vs) (cons u us) r s p q n e =
        let l = sym (append_assoc (encode v) (encodes vs) r) ∙ e ∙ append_assoc (encode u) (encodes us) s in
        let i = unique v u (encodes vs ++ r) (encodes us ++ s) (and_left (well_formed size v) _ p) (and_left (well_formed size u) _ q) l in
        let j = uniques vs us r s (and_right (well_formed size v) _ p) (and_right (well_formed size u) _ q) (omega arith) i.1 in
        (cc (i.0, j.0), j.1)

  -- equal words, equal values
  pub encode_injective : (v u : Value) → well_formed size v ≡ true → well_formed size u ≡ true → encode v ≡ encode u → v ≡ u
  encode_injective v u p q e = (unique v u [] [] p q (ap (λ (l : List ℕ). l ++ []) e)).0
