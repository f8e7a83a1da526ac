-- Classes of nodes, kept as links: the representative of a node, and what links that do the equations come to.
use Rattle.std.specs.Prelude.{Bool, false, true, List, [], ◌∷◌, map, ◌≡◌}
use Rattle.std.proofs.Math.Option.{Option, none, some}
use Rattle.types_rules.specs.Equations.{Pairs, Solves, end, pair}
use Rattle.types_rules.specs.Follows.{View, shape, unk}
use Rattle.types_rules.specs.Former.{Former}

unfoldable pub zip_n : {N : Type 0} → List N → List N → Pairs N → Option (Pairs N)
zip_n [] [] P = some P
zip_n [] (d ∷ ds) P = none
zip_n (c ∷ cs) [] P = none
zip_n (c ∷ cs) (d ∷ ds) P = zip_n cs ds (pair c d P)

unfoldable pub swap : {N : Type 0} → (N → N → Bool) → N → N → N → N
swap same a b m = elim (same m a) [ true ↦ b | false ↦ m ]

-- The representative of n; the newest link stands first.
unfoldable pub rep : {N : Type 0} → (N → N → Bool) → Pairs N → N → N
rep same end n = n
rep same (pair a b L) n = swap same a b (rep same L n)

unfoldable pub next : {N : Type 0} → (N → N → Bool) → Pairs N → N → Option N
next same end n = none
next same (pair a b L) n = elim (same n a) [ true ↦ some b | false ↦ next same L n ]

-- Links are made between representatives.
abbrev pub Wf : {N : Type 0} → (N → N → Bool) → Pairs N → Type 0
Wf same end = Unit {0}
Wf same (pair a b L) = (rep same L a ≡ a) × (rep same L b ≡ b) × (b ≡ a → ⊥) × Wf same L

abbrev pub Shape : {N : Type 0} → View N → Type 0
Shape unk = ⊥
Shape (shape h cs) = Unit {0}

-- The links L, with the equations P still to do, do the equations P₀: two nodes of one class have one former, and every map that satisfies the links
-- and P makes their parts equal, and satisfies P₀.
pub record Closed {N : Type 0} (same : N → N → Bool) (view : N → View N) (P₀ L P : Pairs N) : Type 0 where
  pub wf : Wf same L
  pub shaped : (n : N) → Shape (view n) → Shape (view (rep same L n))
  pub heads : (n m : N) (h k : Former) (cs ds : List N) → view n ≡ shape h cs → view m ≡ shape k ds → rep same L n ≡ rep same L m → h ≡ k
  pub parts : (n m : N) (h k : Former) (cs ds : List N) → view n ≡ shape h cs → view m ≡ shape k ds → rep same L n ≡ rep same L m →
      (f : N → N) → Solves f L → Solves f P → map f cs ≡ map f ds
  pub covers : (f : N → N) → Solves f L → Solves f P → Solves f P₀
