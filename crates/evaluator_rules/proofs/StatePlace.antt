-- 41 is decided by one place: the first ill-formed entry in the order of R20.
use Rattle.std.specs.Prelude.{Err}
use mathlib.Core.Path.{◌≡◌, refl, sym, ap, subst, ◌∙◌}
use mathlib.Core.List.{List}
use mathlib.Core.Bool.{Bool, true, false, cond}
use mathlib.Core.Logic.{⊎_elim, ◌↔◌}
use Prim.Native.Nat.{ℕ, zero, suc, ◌+◌, ◌≤◌, ◌<◌}
use native.Mathlib.Omega.{arith}
use native.Mathlib.Nat.{eq-or-lt_of_le}
use lib.ListN.{length}
use Rattle.layout.specs.Layout.{part}
use Rattle.reader_rules.specs.Findings.{found, scan, and_then}
use Rattle.reader_rules.specs.Refusals.{Finding, Readable, Refused}
use Rattle.reader_rules.proofs.Scan.{found_zero, found_not, scan_none, scan_clear, then_none, never, same_refusal}
use Rattle.values.specs.Form.{is_value}
use Rattle.states_rules.specs.Names.{Name}
use Rattle.states_rules.specs.States.{name_at, sizes_in, is_size, given_number, value_number, is_paired, entries_of, state_if, state_of}
use Rattle.evaluator_rules.specs.Claims.{IllFormedState, pairs, given, other, WellFormedState}

-- what a scan that finds has found: the first number other than 0, and where
pub record FoundFirst (f : ℕ → ℕ) (i m v p : ℕ) : Type 0 where
  pub number : f p ≡ v
  pub from : i ≤ p
  pub before : p < i + m
  pub none : (j : ℕ) → i ≤ j → j < p → f j ≡ 0
  pub not_zero : v ≡ 0 → ⊥

pub scan_found : (f : ℕ → ℕ) (i m v p : ℕ) → scan f i m ≡ Refused v p → FoundFirst f i m v p
unfolding scan
scan_found f i zero v p e = never v p (sym e)
scan_found f i (suc m) v p e = go (f i) refl e (λ x. scan_found f (suc i) m v p x)
  where
    go : (x : ℕ) → f i ≡ x → found x i (scan f (suc i) m) ≡ Refused v p → (scan f (suc i) m ≡ Refused v p → FoundFirst f (suc i) m v p) → FoundFirst f i (suc m) v p
    go zero z e later =
        let r = later e in
        let l = r.from in
        let b = r.before in
        record {
          number = r.number;
          from = omega arith;
          before = omega arith;
          none = λ j k q. ⊎_elim (λ s. subst (λ (n : ℕ). f n ≡ 0) s z) (λ s. r.none j s q) (eq-or-lt_of_le k);
          not_zero = r.not_zero;
        }
    go (suc x) z e later =
        let s = same_refusal (suc x) i v p e in
        let i=p = s.1 in
        record {
          number = subst (λ (n : ℕ). f n ≡ v) s.1 (z ∙ s.0);
          from = omega arith;
          before = omega arith;
          none = λ j k q. absurd (omega arith);
          not_zero = λ y. absurd (omega (arith, s.0));
        }

scan_first : (f : ℕ → ℕ) (i m p : ℕ) → (f p ≡ 0 → ⊥) → i ≤ p → p < i + m → ((j : ℕ) → i ≤ j → j < p → f j ≡ 0) → scan f i m ≡ Refused (f p) p
unfolding scan
scan_first f i zero p z l b h = absurd (omega arith)
scan_first f i (suc m) p z l b h =
    ⊎_elim
    (λ s. subst (λ (q : ℕ). found (f i) i (scan f (suc i) m) ≡ Refused (f q) q) s (found_not (f i) i _ (λ y. z (subst (λ (q : ℕ). f q ≡ 0) s y))))
    (λ s. found_zero (f i) i _ (h i (omega arith) s) ∙ scan_first f (suc i) m p z s (omega arith) (λ j x y. h j (omega arith) y))
    (eq-or-lt_of_le l)

-- a number of an entry is 41 or none
one_number : (b c : Bool) (x : ℕ) → cond b (cond c 0 41) 0 ≡ x → (x ≡ 0 → ⊥) → x ≡ 41
one_number true true x e z = absurd (z (sym e))
one_number true false x e z = sym e
one_number false c x e z = absurd (z (sym e))

other_number : (b c : Bool) (x : ℕ) → cond b 0 (cond c 0 41) ≡ x → (x ≡ 0 → ⊥) → x ≡ 41
other_number true c x e z = absurd (z (sym e))
other_number false true x e z = absurd (z (sym e))
other_number false false x e z = sym e

module _ (ns : List Name) (state : List ℕ) where
  given_number_lem : (k x : ℕ) → given_number ns state k ≡ x → (x ≡ 0 → ⊥) → x ≡ 41
  unfolding given_number
  given_number_lem k x e z = one_number (name_at ns k).is_given (is_size (part state k)) x e z

  value_number_lem : (k x : ℕ) → value_number ns state k ≡ x → (x ≡ 0 → ⊥) → x ≡ 41
  unfolding value_number
  value_number_lem k x e z = other_number (name_at ns k).is_given (is_value (sizes_in ns state) (part state k)) x e z

  entries_ill : (a : Finding) → is_paired ns state ≡ true → scan (given_number ns state) 1 (length ns) ≡ a → (n p : ℕ) →
      and_then a (scan (value_number ns state) 1 (length ns)) ≡ Refused n p → (n ≡ 41) × IllFormedState ns state p
  entries_ill Readable h s n p e =
      let f = scan_found (value_number ns state) 1 (length ns) n p e in
      let l = f.from in
      let b = f.before in
      let v = value_number_lem p n f.number f.not_zero in
      (v, other {k = p} h (λ j x y. scan_none (given_number ns state) 1 (length ns) s j x (omega arith)) (omega arith) (omega arith) (f.number ∙ v) (λ j x y. f.none j x y))
  entries_ill (Err err) h s n p e =
      let r = same_refusal err.number err.place n p e in
      let f = scan_found (given_number ns state) 1 (length ns) n p (s ∙ e) in
      let l = f.from in
      let q = f.before in
      let v = given_number_lem p n f.number f.not_zero in
      (v, given {k = p} h (omega arith) (omega arith) (f.number ∙ v) (λ j x y. f.none j x y))

  state_if_ill : (b : Bool) → is_paired ns state ≡ b → (n p : ℕ) → state_if b ns state ≡ Refused n p → (n ≡ 41) × IllFormedState ns state p
  unfolding state_if entries_of
  state_if_ill true h n p e = entries_ill _ h refl n p e
  state_if_ill false h n p e = let r = same_refusal 41 0 n p e in (sym r.0, subst (IllFormedState ns state) r.1 (pairs h))

  state_if_well : (b : Bool) → is_paired ns state ≡ b → state_if b ns state ≡ Readable → WellFormedState ns state
  unfolding state_if entries_of
  state_if_well true h e =
      let t = then_none _ _ e in
      record {
        paired = h;
        givens = λ j x y. scan_none (given_number ns state) 1 (length ns) t.0 j x (omega arith);
        others = λ j x y. scan_none (value_number ns state) 1 (length ns) t.1 j x (omega arith);
      }
  state_if_well false h e = never 41 0 e

  not_41 : (x : ℕ) → x ≡ 41 → x ≡ 0 → ⊥
  not_41 x e z = omega arith

  ill_from : {p : ℕ} → IllFormedState ns state p → state_of ns state ≡ Refused 41 p
  unfolding state_of state_if entries_of
  ill_from (pairs h) = rw h
  ill_from (given {k} h l b v f) = rw h (rw (scan_first (given_number ns state) 1 (length ns) k (not_41 _ v) l (omega arith) f) (ap (λ (x : ℕ). Refused x k) v))
  ill_from (other {k} h g l b v f) =
      rw h (rw (scan_clear (given_number ns state) 1 (length ns) (λ j x y. g j x (omega arith)))
      (scan_first (value_number ns state) 1 (length ns) k (not_41 _ v) l (omega arith) f ∙ ap (λ (x : ℕ). Refused x k) v))

  well_from : WellFormedState ns state → state_of ns state ≡ Readable
  unfolding state_of state_if entries_of
  well_from w =
      rw w.paired (rw (scan_clear (given_number ns state) 1 (length ns) (λ j x y. w.givens j x (omega arith)))
      (scan_clear (value_number ns state) 1 (length ns) (λ j x y. w.others j x (omega arith))))

  -- 41 at p exactly where the state is ill formed at p, and no other number
  pub state_ill : (n p : ℕ) → (state_of ns state ≡ Refused n p) ↔ ((n ≡ 41) × IllFormedState ns state p)
  unfolding state_of
  state_ill n p = (state_if_ill (is_paired ns state) refl n p, λ h. ill_from h.1 ∙ ap (λ (x : ℕ). Refused x p) (sym h.0))

  pub state_well : (state_of ns state ≡ Readable) ↔ WellFormedState ns state
  unfolding state_of
  state_well = (state_if_well (is_paired ns state) refl, well_from)

  -- one place
  pub one_place : (p q : ℕ) → IllFormedState ns state p → IllFormedState ns state q → p ≡ q
  one_place p q h k = (same_refusal 41 p 41 q (sym (ill_from h) ∙ ill_from k)).1
