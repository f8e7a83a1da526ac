-- Laws of how far a type's words reach: bounds of a former, and one turn of the loop over its types.
use mathlib.Core.Path.{◌≡◌, refl}
use mathlib.Core.Bool.{Bool, true, false, cond}
use mathlib.Core.List.{List}
use Prim.Native.Nat.{ℕ, zero, suc, ◌+◌, ◌-◌, ◌≤◌, ◌<◌}
use native.Mathlib.Omega.{arith}
use lib.Dec.{eqb, leb}
use lib.ListN.{length, get_or, drop}
use borrow.Author.Tests.{leb-true}
use Rattle.values.specs.declared.shapes.Former.{Former}
use Rattle.values.specs.declared.shapes.Former.TheVariants.{Plain, Group}
use Rattle.values.specs.TypeWords.{clip, count_of, former_of, types_end, by_former, type_length}
use Rattle.words.proofs.Loops.{turn, none_left_lem}

abbrev pub Bounded : Former → ℕ → Type 0
Bounded (Plain n) l = Unit {0}
Bounded (Group start skip n) l = (start ≤ 2) × (skip ≤ 1) × (n ≤ l + 1)

by_test_lem : (b : Bool) (x y : Former) (l : ℕ) → Bounded x l → Bounded y l → Bounded (cond b x y) l
by_test_lem true x y l f g = f
by_test_lem false x y l f g = g

count_small : (ws : List ℕ) → count_of ws ≤ length ws + 1
unfolding count_of
count_small ws = go (leb (get_or ws 1 0) (length ws)) refl
  where
    go : (b : Bool) → leb (get_or ws 1 0) (length ws) ≡ b → cond b (get_or ws 1 0) 0 ≤ length ws + 1
    go true e = omega (arith, leb-true (get_or ws 1 0) (length ws) e)
    go false e = omega arith

pub former_bounded : (ws : List ℕ) → Bounded (former_of ws) (length ws)
unfolding former_of
former_bounded ws =
    let t = get_or ws 0 0 in
    let c = count_small ws in
    by_test_lem (eqb t 2) (Plain 2) _ _ tt
    (by_test_lem (eqb t 3) (Group 1 0 1) _ _ (omega arith, omega arith, omega arith)
    (by_test_lem (eqb t 4) (Group 2 0 (count_of ws)) _ _ (omega arith, omega arith, c)
    (by_test_lem (eqb t 5) (Group 2 1 (count_of ws)) _ _ (omega arith, omega arith, c) (by_test_lem (eqb t 6) (Plain 2) (Plain 1) _ tt tt))))

pub type_none : (d : ℕ) (ws : List ℕ) → d ≡ 0 → 0 ≡ type_length d ws
unfolding type_length
type_none d ws e = rw e

pub type_level : (d : ℕ) (ws : List ℕ) → (d ≡ 0 → ⊥) → (s : Former) → s ≡ former_of ws → type_length d ws ≡ clip (by_former (type_length (d - 1)) s ws) (length ws)
unfolding type_length
type_level zero ws h s e = absurd (h refl)
type_level (suc d) ws h s e = let f : d ≡ suc d - 1 = omega arith in rw (e, ← f)

module _ (f : List ℕ → ℕ) (skip : ℕ) (w : List ℕ) (n i at : ℕ) where
  pub types_go : i < n → (k : ℕ) → k ≡ f (drop (at + skip) w) → types_end f skip (n - i) w at ≡ types_end f skip (n - (i + 1)) w (at + skip + k)
  unfolding types_end
  types_go h k e = rw (turn n i h, types_end, e)

  pub types_done : n ≤ i → at ≡ types_end f skip (n - i) w at
  unfolding types_end
  types_done h = rw (none_left_lem n i h)
