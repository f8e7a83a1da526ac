-- What each function writes after what is built, turn by turn.
use Rattle.std.proofs.Common.{◌≡◌, ℕ, zero, suc, ◌+◌, ◌-◌, ◌*◌, ◌/◌, ◌%◌, ◌^◌, ◌<◌, ◌≤◌, List, [], ◌∷◌, ◌++◌, get_or, drop, sym, refl, ap, ◌∙◌, subst, append_assoc, append-nil, arith, drop_of_length-le, le-ltb, lt-ltb, ne_eqb}
use Rattle.words.proofs.Lists.{drop_next}
use Rattle.words.proofs.Loops.{turn, none_left_lem}
use Rattle.values.specs.Held.{Building}
use Rattle.values.specs.Span.{span}
use Rattle.values.specs.Sets.{first, rest}
use Rattle.enumeration_rules.specs.OnWords.{longer, endings_on, tuples_on, masks, taken_on, masked_on, sets_on}

pub longer_joined : (ws t m : List ℕ) → ((ws ++ (4 ∷ (get_or t 1 0 + 1) % 2 ^ 32 ∷ [])) ++ drop 2 t) ++ m ≡ ws ++ longer t m
unfolding longer
longer_joined ws t m = append_assoc (ws ++ (4 ∷ (get_or t 1 0 + 1) % 2 ^ 32 ∷ [])) (drop 2 t) m ∙ append_assoc ws (4 ∷ (get_or t 1 0 + 1) % 2 ^ 32 ∷ []) (drop 2 t ++ m)

-- What a loop writes: from what is built in u up to `at`, v up to b, which with `left` after it are the words of u with `all` after them.
abbrev pub Listing : List ℕ → ℕ → List ℕ → List ℕ → ℕ → List ℕ → Type 0
Listing u at all v b left = (ws : List ℕ) → Building u at ws → (vs : List ℕ) × Building v b vs × (vs ++ left ≡ ws ++ all)

module _ {u : List ℕ} {at : ℕ} {all v : List ℕ} {b : ℕ} {left : List ℕ} (listing : Listing u at all v b left) where
  pub listing_more : {w : List ℕ} {c : ℕ} (x more : List ℕ) → left ≡ x ++ more → ((vs : List ℕ) → Building v b vs → Building w c (vs ++ x)) → Listing u at all w c more
  listing_more x more e f ws h =
      let l = listing ws h in
      (l.0 ++ x, f l.0 l.1, append_assoc l.0 x more ∙ ap (λ (r : List ℕ). l.0 ++ r) (sym e) ∙ l.2)

  pub listing_same : (more : List ℕ) → left ≡ more → Listing u at all v b more
  listing_same more e = subst (Listing u at all v b) e listing

  pub listing_done : left ≡ [] → (ws : List ℕ) → Building u at ws → Building v b (ws ++ all)
  listing_done e ws h =
      let l = listing ws h in
      subst (Building v b) (sym (append-nil l.0) ∙ ap (λ (r : List ℕ). l.0 ++ r) (sym e) ∙ l.2) l.1

-- one turn of each, and none

module _ (n i : ℕ) (t w : List ℕ) where
  pub endings_turn : i < n → endings_on (n - i) t w ≡ longer t (first w) ++ endings_on (n - (i + 1)) t (drop (span w) w)
  unfolding endings_on rest
  endings_turn h = rw (turn n i h)

  pub endings_end : n ≤ i → endings_on (n - i) t w ≡ []
  unfolding endings_on
  endings_end h = rw (none_left_lem n i h)

module _ (m i : ℕ) (p : List ℕ) (n : ℕ) (w : List ℕ) where
  pub tuples_turn : i < m → tuples_on (m - i) p n w ≡ endings_on n (first p) w ++ tuples_on (m - (i + 1)) (drop (span p) p) n w
  unfolding tuples_on rest
  tuples_turn h = rw (turn m i h)

  pub tuples_end : m ≤ i → tuples_on (m - i) p n w ≡ []
  unfolding tuples_on
  tuples_end h = rw (none_left_lem m i h)

module _ (n i mask : ℕ) (w : List ℕ) where
  pub masked_take : i < n → mask % 2 ≡ 1 → masked_on (n - i) mask w ≡ first w ++ masked_on (n - (i + 1)) (mask / 2) (drop (span w) w)
  unfolding masked_on rest
  masked_take h q = rw (turn n i h, masked_on, q)

  pub masked_skip : i < n → (mask % 2 ≡ 1 → ⊥) → masked_on (n - i) mask w ≡ masked_on (n - (i + 1)) (mask / 2) (drop (span w) w)
  unfolding masked_on rest
  masked_skip h q = rw (turn n i h, masked_on, ne_eqb (mask % 2) 1 q)

  pub masked_end : n ≤ i → masked_on (n - i) mask w ≡ []
  unfolding masked_on
  masked_end h = rw (none_left_lem n i h)

module _ (j n e : ℕ) (w : List ℕ) (q : e ≡ 2 ^ n) where
  pub sets_take : j < 8 → get_or masks j 0 < e → sets_on (drop j masks) n w ≡ (3 ∷ taken_on n (get_or masks j 0) ∷ masked_on n (get_or masks j 0) w) ++ sets_on (drop (j + 1) masks) n w
  unfolding sets_on
  sets_take l m =
      let h : get_or masks j 0 < 2 ^ n = omega arith in
      rw (drop_next masks j l, lt-ltb (get_or masks j 0) (2 ^ n) h)

  pub sets_skip : j < 8 → e ≤ get_or masks j 0 → sets_on (drop j masks) n w ≡ sets_on (drop (j + 1) masks) n w
  unfolding sets_on
  sets_skip l m =
      let h : 2 ^ n ≤ get_or masks j 0 = omega arith in
      rw (drop_next masks j l, le-ltb (get_or masks j 0) (2 ^ n) h)

  pub sets_end : 8 ≤ j → sets_on (drop j masks) n w ≡ []
  unfolding sets_on
  sets_end l = rw (drop_of_length-le masks l)

module _ (n i mask : ℕ) where
  pub taken_turn : i < n → taken_on (n - i) mask ≡ mask % 2 + taken_on (n - (i + 1)) (mask / 2)
  unfolding taken_on
  taken_turn h = rw (turn n i h)

  pub taken_end : n ≤ i → taken_on (n - i) mask ≡ 0
  unfolding taken_on
  taken_end h = rw (none_left_lem n i h)

pub shifted : (n : ℕ) → n ≤ 3 → (1 * 2 ^ n % 2 ^ 64 ≡ 2 ^ n) × (1 ≤ 1 * 2 ^ n % 2 ^ 64) × (1 * 2 ^ n % 2 ^ 64 ≤ 8)
shifted zero l = (refl, omega arith, omega arith)
shifted (suc zero) l = (refl, omega arith, omega arith)
shifted (suc (suc zero)) l = (refl, omega arith, omega arith)
shifted (suc (suc (suc zero))) l = (refl, omega arith, omega arith)
shifted (suc (suc (suc (suc n)))) l = absurd (omega arith)
