-- The size that a state gives a given is that of the given's entry: the entry of an identifier, where there is one, is the first of that identifier.
use mathlib.Core.Path.{◌≡◌, refl, ap, ◌∙◌}
use mathlib.Core.Bool.{Bool, true, false, cond}
use mathlib.Core.Logic.{◌⊎◌, inl, inr, ⊎_elim}
use mathlib.Core.List.{List, [], ◌∷◌}
use Prim.Native.Nat.{ℕ, zero, suc, ◌+◌, ◌*◌, ◌-◌, ◌/◌, ◌≤◌, ◌<◌}
use native.Mathlib.Omega.{arith}
use lib.Dec.{eqb}
use lib.ListN.{length, get_or}
use borrow.Author.Tests.{eqb-true}
use Rattle.layout.specs.Layout.{part}
use Rattle.values.specs.Givens.{small_size, size_from, size_of}
use Rattle.states_rules.specs.Names.{Name, nobody}
use Rattle.states_rules.specs.States.{size_table, entry_from}

size_shift : (a b : ℕ) (t : List ℕ) (g i n : ℕ) → size_from (a ∷ b ∷ t) g (suc i) n ≡ size_from t g i n
unfolding size_from
size_shift a b t g i zero = refl
size_shift a b t g i (suc n) =
    let e : 2 * suc i ≡ suc (suc (2 * i)) = omega arith in
    let f : suc (suc (2 * i)) + 1 ≡ suc (suc (2 * i + 1)) = omega arith in
    rw (e, f) (ap (cond (eqb (get_or t (2 * i) 0) g) (small_size (get_or t (2 * i + 1) 0))) (size_shift a b t g (suc i) n))

pub size_cons : (a b : ℕ) (t : List ℕ) (g : ℕ) → size_of (a ∷ b ∷ t) g ≡ cond (eqb a g) (small_size b) (size_of t g)
unfolding size_of size_from
size_cons a b t g =
    let e : suc (suc (length t)) / 2 ≡ suc (length t / 2) = omega arith in
    rw e (ap (cond (eqb a g) (small_size b)) (size_shift a b t g 0 (length t / 2)))

-- e is the entry of identifier i among the names from entry k on
pub record EntryOf (ns : List Name) (state : List ℕ) (i k e : ℕ) : Type 0 where
  pub low : k ≤ e
  pub high : e < k + length ns
  pub named : (get_or ns (e - k) nobody).identifier ≡ i
  pub sized : (get_or ns (e - k) nobody).is_given ≡ true → size_of (size_table ns state k) i ≡ small_size (get_or (part state e) 0 0)

module _ (n : Name) (ns : List Name) (state : List ℕ) (i k : ℕ) where
  first_entry : eqb n.identifier i ≡ true → EntryOf (n ∷ ns) state i k k
  unfolding size_table
  first_entry h =
      let z : k - k ≡ 0 = omega arith in
      record {
        low = omega arith;
        high = omega arith;
        named = rw z (eqb-true n.identifier i h);
        sized = λ g. let t : n.is_given ≡ true = rw z at g in rw t (size_cons n.identifier (get_or (part state k) 0 0) (size_table ns state (suc k)) i ∙ rw h);
      }

  -- a pair of another identifier has no size to give
  other_pair_lem : eqb n.identifier i ≡ false → (b : Bool) (s : ℕ) (t : List ℕ) → size_of (cond b (n.identifier ∷ s ∷ t) t) i ≡ size_of t i
  other_pair_lem h true s t = size_cons n.identifier s t i ∙ rw h
  other_pair_lem h false s t = refl

  later_entry : eqb n.identifier i ≡ false → (e : ℕ) → EntryOf ns state i (suc k) e → EntryOf (n ∷ ns) state i k e
  unfolding size_table
  later_entry h e r =
      let l = r.low in
      let z : e - k ≡ suc (e - suc k) = omega arith in
      record {
        low = omega arith;
        high = omega (arith, r.high);
        named = rw z r.named;
        sized = λ g. other_pair_lem h n.is_given (get_or (part state k) 0 0) (size_table ns state (suc k)) ∙ r.sized (rw z at g);
      }

pub entry_found : (ns : List Name) (state : List ℕ) (i k : ℕ) → (entry_from ns i k ≡ 0) ⊎ EntryOf ns state i k (entry_from ns i k)
unfolding entry_from
entry_found [] state i k = inl refl
entry_found (n ∷ ns) state i k = go (eqb n.identifier i) refl (entry_found ns state i (suc k))
  where
    go : (b : Bool) → eqb n.identifier i ≡ b → (entry_from ns i (suc k) ≡ 0) ⊎ EntryOf ns state i (suc k) (entry_from ns i (suc k)) →
        (cond b k (entry_from ns i (suc k)) ≡ 0) ⊎ EntryOf (n ∷ ns) state i k (cond b k (entry_from ns i (suc k)))
    go true h r = inr (first_entry n ns state i k h)
    go false h r = ⊎_elim (λ z. inl z) (λ x. inr (later_entry n ns state i k h _ x)) r
