-- Equations with all equalities between matching parts that follow from them, and when they put two different formers side by side (document 02, ask 10), for nodes of any kind.
use Rattle.std.specs.Prelude.{length, List, [], ◌∷◌, ◌≡◌}
use Rattle.types_rules.specs.Equations.{InP, Pairs, end, pair}
use Rattle.types_rules.specs.Former.{Former}

pub data View (N : Type 0) : Type 0 where
  unk : View N
  shape : Former → List N → View N

-- The matching parts of two lists.
abbrev pub parts : {N : Type 0} → List N → List N → Pairs N
parts [] ds = end
parts (c ∷ cs) [] = end
parts (c ∷ cs) (d ∷ ds) = pair c d (parts cs ds)

pub data Follows {N : Type 0} (view : N → View N) (P₀ : Pairs N) : N → N → Type 0 where
  stated : {a b : N} → InP a b P₀ → Follows view P₀ a b
  reflexive : {a : N} → Follows view P₀ a a
  symmetric : {a b : N} → Follows view P₀ a b → Follows view P₀ b a
  transitive : {a b c : N} → Follows view P₀ a b → Follows view P₀ b c → Follows view P₀ a c
  matching : {c d : N} (n m : N) (h : Former) (cs ds : List N) → view n ≡ shape h cs → view m ≡ shape h ds → Follows view P₀ n m → InP c d (parts cs ds) → Follows view P₀ c d

pub record Clash {N : Type 0} (view : N → View N) (P₀ : Pairs N) : Type 0 where
  pub n : N
  pub m : N
  pub h : Former
  pub g : Former
  pub cs : List N
  pub ds : List N
  pub vn : view n ≡ shape h cs
  pub vm : view m ≡ shape g ds
  pub meet : Follows view P₀ n m
  pub differ : h ≡ g → length cs ≡ length ds → ⊥
