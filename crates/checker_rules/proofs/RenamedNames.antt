-- 37, "the outcome must have distinct identifiers": what an Include brings has fewer identifiers than the schema exactly where two components get one.
use mathlib.Core.Path.{◌≡◌, refl, ap, sym, subst, ◌∙◌}
use mathlib.Core.Bool.{Bool, true, false, ◌||◌, cond, false≢true}
use mathlib.Core.List.{List, [], ◌∷◌}
use mathlib.Core.Logic.{◌↔◌, ◌⊎◌, inl, inr, ⊎_elim}
use Prim.Native.Nat.{ℕ, zero, suc, ◌≤◌, ◌<◌}
use native.Mathlib.Omega.{arith}
use lib.Dec.{ltb, eqb}
use lib.ListN.{get_or}
use borrow.Author.Tests.{eq-eqb, eqb-true, ne_eqb, ltb-true, lt-ltb}
use Rattle.words.specs.Loops.{has}
use Rattle.types_rules.specs.Types.{Term}
use Rattle.types_rules.specs.Formed.{Ascending}
use Rattle.checker_rules.specs.Strokes.{decorate}
use Rattle.checker_rules.specs.Signatures.{Signature, no_names, naming, count_names, names_of, insert_name, stroke_all, renamed, rename_all, some_stroked, wrong_old, wrong_names}
use Rattle.checker_rules.specs.Typing.{Collision}
use Rattle.checker_rules.proofs.FormedSignatures.{Rising, rename_rising}
use Rattle.checker_rules.proofs.GlobalNames.{eqb_swap, has_insert}

neither : (a b : Bool) → (a || b) ≡ false → (a ≡ false) × (b ≡ false)
neither true b e = absurd (false≢true (sym e))
neither false b e = (refl, e)

second_of : (a b : Bool) → a ≡ false → (a || b) ≡ true → b ≡ true
second_of true b n e = absurd (false≢true (sym n))
second_of false b n e = e

which : (a b : Bool) → (a || b) ≡ true → (a ≡ true) ⊎ (b ≡ true)
which true b e = inl refl
which false b e = inr e

either_way : (a b : Bool) → b ≡ true → (a || b) ≡ true
either_way true b e = refl
either_way false b e = e

-- ---- how many identifiers there are after one is put in
count_new : (i : ℕ) (t : Term) (s : Signature) → has i (names_of s) ≡ false → count_names (insert_name i t s) ≡ suc (count_names s)
unfolding insert_name names_of has count_names
count_new i t no_names h = refl
count_new i t (naming j u s) h = go (neither (eqb j i) _ h) (λ n. count_new i t s n) (eqb i j) refl (ltb i j)
  where
    go : (eqb j i ≡ false) × (has i (names_of s) ≡ false) → (has i (names_of s) ≡ false → count_names (insert_name i t s) ≡ suc (count_names s)) → (a : Bool) → eqb i j ≡ a → (b : Bool)
        → count_names (cond a (naming j u s) (cond b (naming i t (naming j u s)) (naming j u (insert_name i t s)))) ≡ suc (suc (count_names s))
    go n ih true e b = absurd (false≢true (sym n.0 ∙ eqb_swap j i ∙ e))
    go n ih false e true = refl
    go n ih false e false = ap suc (ih n.1)

-- in an ascending list, what is below the first is not there
below_first : (i j : ℕ) (l : List ℕ) → i < j → Ascending (j ∷ l) → has i (j ∷ l) ≡ false
unfolding has
below_first i j [] h r = rw (ne_eqb j i (λ e. omega arith))
below_first i j (k ∷ l) h r = rw (ne_eqb j i (λ e. omega arith)) (below_first i k l (omega (arith, h, r.0)) r.1)

ascending_rest : (j : ℕ) (l : List ℕ) → Ascending (j ∷ l) → Ascending l
ascending_rest j [] r = tt
ascending_rest j (k ∷ l) r = r.1

count_old : (i : ℕ) (t : Term) (s : Signature) → Rising s → has i (names_of s) ≡ true → count_names (insert_name i t s) ≡ count_names s
unfolding insert_name names_of count_names
count_old i t no_names r h = absurd (false≢true (unfold has in h))
count_old i t (naming j u s) r h = go (λ n. count_old i t s (ascending_rest j (names_of s) r) n) (eqb i j) refl (ltb i j) refl
  where
    go : (has i (names_of s) ≡ true → count_names (insert_name i t s) ≡ count_names s) → (a : Bool) → eqb i j ≡ a → (b : Bool) → ltb i j ≡ b
        → count_names (cond a (naming j u s) (cond b (naming i t (naming j u s)) (naming j u (insert_name i t s)))) ≡ suc (count_names s)
    go ih true e b q = refl
    go ih false e true q = absurd (false≢true (sym (below_first i j (names_of s) (ltb-true i j q) r) ∙ h))
    go ih false e false q = ap suc (ih (second_of (eqb j i) _ (eqb_swap j i ∙ e) (unfold has in h)))

insert_count : (i : ℕ) (t : Term) (s : Signature) → Rising s → count_names (insert_name i t s) ≡ cond (has i (names_of s)) (count_names s) (suc (count_names s))
insert_count i t s r = go (has i (names_of s)) refl
  where
    go : (b : Bool) → has i (names_of s) ≡ b → count_names (insert_name i t s) ≡ cond b (count_names s) (suc (count_names s))
    go true e = count_old i t s r e
    go false e = count_new i t s e

-- ---- two components of the schema get one identifier: the stroke put on each, then all pairs renamed at once

module _ (k : ℕ) (rs : List (ℕ × ℕ)) where
  abbrev new : ℕ → ℕ
  new i = renamed rs (decorate k i)

  abbrev outcome : Signature → Signature
  outcome s = rename_all rs (stroke_all k s)

  count_outcome : (i : ℕ) (t : Term) (s : Signature) →
      count_names (outcome (naming i t s)) ≡ cond (has (new i) (names_of (outcome s))) (count_names (outcome s)) (suc (count_names (outcome s)))
  unfolding stroke_all rename_all
  count_outcome i t s = insert_count (new i) t (outcome s) (rename_rising rs (stroke_all k s))

  has_outcome : (x i : ℕ) (t : Term) (s : Signature) → has x (names_of (outcome (naming i t s))) ≡ (eqb (new i) x || has x (names_of (outcome s)))
  unfolding stroke_all rename_all
  has_outcome x i t s = has_insert x (new i) t (outcome s)

  -- an identifier of the outcome is a component's
  component : (x : ℕ) (s : Signature) → has x (names_of (outcome s)) ≡ true → (q : ℕ) × (q < count_names s) × (new (get_or (names_of s) q 0) ≡ x)
  unfolding names_of count_names
  component x no_names h = absurd (false≢true (unfold stroke_all rename_all has in h))
  component x (naming i t s) h = go (component x s) (eqb (new i) x) refl (sym (has_outcome x i t s) ∙ h)
    where
      go : (has x (names_of (outcome s)) ≡ true → (q : ℕ) × (q < count_names s) × (new (get_or (names_of s) q 0) ≡ x)) →
          (b : Bool) → eqb (new i) x ≡ b → (b || has x (names_of (outcome s))) ≡ true → (q : ℕ) × (q < suc (count_names s)) × (new (get_or (i ∷ names_of s) q 0) ≡ x)
      go ih true e g = (0, omega arith, eqb-true (new i) x e)
      go ih false e g = let r = ih g in (suc r.0, omega (arith, r.1), r.2)

  -- and the other way round
  present : (s : Signature) (q : ℕ) → q < count_names s → has (new (get_or (names_of s) q 0)) (names_of (outcome s)) ≡ true
  unfolding names_of count_names
  present no_names q l = absurd (omega arith)
  present (naming i t s) zero l = has_outcome (new i) i t s ∙ rw (eq-eqb (new i) (new i) refl)
  present (naming i t s) (suc q) l = has_outcome (new (get_or (names_of s) q 0)) i t s ∙ either_way (eqb (new i) _) _ (present s q (omega arith))

  at_most : (s : Signature) → count_names (outcome s) ≤ count_names s
  unfolding count_names
  at_most no_names = unfold stroke_all rename_all in omega arith
  at_most (naming i t s) = rw (count_outcome i t s) (go (has (new i) (names_of (outcome s))) (at_most s))
    where
      go : (b : Bool) {n m : ℕ} → n ≤ m → cond b n (suc n) ≤ suc m
      go true h = omega arith
      go false h = omega arith

  collision : (s : Signature) → count_names (outcome s) < count_names s → Collision k rs s
  unfolding count_names names_of
  collision no_names l = absurd (omega arith)
  collision (naming i t s) l = go (collision s) (has (new i) (names_of (outcome s))) refl (rw (count_outcome i t s) at l)
    where
      go : (count_names (outcome s) < count_names s → Collision k rs s) → (b : Bool) → has (new i) (names_of (outcome s)) ≡ b →
          cond b (count_names (outcome s)) (suc (count_names (outcome s))) < suc (count_names s) → Collision k rs (naming i t s)
      go ih true e h =
          let r = component (new i) s e in
          record { first = 0; second = suc r.0; before = omega arith; within = omega (arith, r.1); alike = sym r.2 }
      go ih false e h =
          let r = ih (omega arith) in
          record { first = suc r.first; second = suc r.second; before = omega (arith, r.before); within = omega (arith, r.within); alike = r.alike }

  fewer : (s : Signature) (a b : ℕ) → a < b → b < count_names s → new (get_or (names_of s) a 0) ≡ new (get_or (names_of s) b 0) → count_names (outcome s) < count_names s
  unfolding count_names names_of
  fewer no_names a b h l e = absurd (omega arith)
  fewer (naming i t s) a zero h l e = absurd (omega arith)
  fewer (naming i t s) zero (suc b) h l e =
      let there = subst (λ (x : ℕ). has x (names_of (outcome s)) ≡ true) (sym e) (present s b (omega arith)) in
      rw (count_outcome i t s, there) (omega (arith, at_most s))
  fewer (naming i t s) (suc a) (suc b) h l e = rw (count_outcome i t s) (go (has (new i) (names_of (outcome s))) (fewer s a b (omega arith) (omega arith) e))
    where
      go : (b : Bool) {n m : ℕ} → n < m → cond b n (suc n) < suc m
      go true h = omega arith
      go false h = omega arith

pub fewer_names : (k : ℕ) (rs : List (ℕ × ℕ)) (s : Signature) → (ltb (count_names (rename_all rs (stroke_all k s))) (count_names s) ≡ true) ↔ Collision k rs s
fewer_names k rs s =
    (λ e. collision k rs s (ltb-true _ _ e), λ c. lt-ltb _ _ (fewer k rs s c.first c.second c.before c.within c.alike))

-- 37 at an Include: a stroke on a stroked component, an old name that is no component or stands twice, or two components that get one identifier
module _ (k : ℕ) (rs : List (ℕ × ℕ)) (s : Signature) where
  abbrev stroked : Bool
  stroked = some_stroked k s

  abbrev old : Bool
  old = wrong_old rs (stroke_all k s)

  abbrev few : Bool
  few = ltb (count_names (rename_all rs (stroke_all k s))) (count_names s)

  reasons : (stroked || (old || few)) ≡ true → (stroked ≡ true) ⊎ ((old ≡ true) ⊎ Collision k rs s)
  reasons e = ⊎_elim (λ a. inl a) (λ b. inr (⊎_elim (λ c. inl c) (λ d. inr ((fewer_names k rs s).0 d)) (which old few b))) (which stroked (old || few) e)

  refused : (stroked ≡ true) ⊎ ((old ≡ true) ⊎ Collision k rs s) → (stroked || (old || few)) ≡ true
  refused c = ⊎_elim (λ a. rw a) (λ b. either_way stroked _ (⊎_elim (λ a. rw a) (λ d. either_way old _ ((fewer_names k rs s).1 d)) b)) c

  pub wrong_names_lem : (wrong_names k rs s ≡ true) ↔ ((some_stroked k s ≡ true) ⊎ ((wrong_old rs (stroke_all k s) ≡ true) ⊎ Collision k rs s))
  unfolding wrong_names
  wrong_names_lem = (reasons, refused)
