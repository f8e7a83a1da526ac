-- What follows from equations holds in every solution of them.
use mathlib.Core.List.{List, map}
use mathlib.Core.Path.{◌∙◌, ◌≡◌, refl, sym}
use Rattle.types_rules.proofs.Follows.{map_in, sat_in}
use Rattle.types_rules.specs.Equations.{Pairs, Solves}
use Rattle.types_rules.specs.Follows.{Follows, View, matching, reflexive, shape, stated, symmetric, transitive}
use Rattle.types_rules.specs.Former.{Former}

-- In any structure whose formers are one-to-one.
module _ {D : Type 0} (build : Former → List D → D) (mk_c : (h k : Former) (a b : List D) → build h a ≡ build k b → a ≡ b) {N : Type 0} (view : N → View N) (P₀ : Pairs N)
    (σ : N → D) (fits : (n : N) (h : Former) (cs : List N) → view n ≡ shape h cs → σ n ≡ build h (map σ cs)) (sat : Solves σ P₀) where
  pub follows_holds : (a b : N) → Follows view P₀ a b → σ a ≡ σ b
  follows_holds a b (stated i) = sat_in σ P₀ sat a b i
  follows_holds a b reflexive = refl
  follows_holds a b (symmetric f) = sym (follows_holds b a f)
  follows_holds a b (transitive {b = c} f g) = follows_holds a c f ∙ follows_holds c b g
  follows_holds a b (matching n m h cs ds vn vm f i) =
      map_in σ cs ds (mk_c _ _ _ _ (sym (fits n h cs vn) ∙ follows_holds n m f ∙ fits m h ds vm)) a b i
