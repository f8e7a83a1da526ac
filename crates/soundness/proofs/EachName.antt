-- P of each of a state's names.
use mathlib.Core.List.{List, [], ◌∷◌, ◌++◌}
use Prim.Native.Nat.{ℕ, zero, suc, ◌<◌}
use native.Mathlib.Omega.{arith}
use lib.ListN.{length, get_or}
use Rattle.states_rules.specs.Names.{Name, nobody}

pub data Every (P : Name → Type 0) : List Name → Type 0 where
  none : Every P []
  also : {n : Name} {ns : List Name} → P n → Every P ns → Every P (n ∷ ns)

pub every_append : {P : Name → Type 0} {xs ys : List Name} → Every P xs → Every P ys → Every P (xs ++ ys)
every_append none k = k
every_append (also p h) k = also p (every_append h k)

pub every_split : {P : Name → Type 0} (xs : List Name) {ys : List Name} → Every P (xs ++ ys) → Every P xs × Every P ys
every_split [] h = (none, h)
every_split (x ∷ xs) (also p h) = let r = every_split xs h in (also p r.0, r.1)

pub every_at : {P : Name → Type 0} (ns : List Name) → Every P ns → (j : ℕ) → j < length ns → P (get_or ns j nobody)
every_at [] none j l = absurd (omega arith)
every_at (n ∷ ns) (also p h) zero l = p
every_at (n ∷ ns) (also p h) (suc j) l = every_at ns h j (omega arith)
