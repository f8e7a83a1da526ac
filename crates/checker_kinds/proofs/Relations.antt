-- Relations: what their functions promise, from the equations of cells.
use mathlib.Core.Path.{◌≡◌, sym, subst, ◌∙◌}
use mathlib.Core.List.{List, [], ◌∷◌}
use Prim.Native.Nat.{ℕ, suc}
use native.Mathlib.Omega.{arith}
use Rattle.types_rules.specs.Equations.{end, pair}
use Rattle.types_rules.specs.Former.{power}
use Rattle.types_rules.specs.Types.{Term, nil, cons}
use Rattle.checker_rules.specs.Unknowns.{power_of}
use Rattle.types_cells.specs.Settled.{lower}
use Rattle.checker_pieces.specs.Building.{Building, Built, Working}
use Rattle.checker_pieces.specs.Stage.{Ghost, Stands, Comparing, Cell, Sides, Equated, SlotOf}
use Rattle.checker_pieces.proofs.Stages.{building, one_cell, built_stands, built_old, built_cell, built_before, equal_advanced, one_side, one_comparing}
use Rattle.checker_kinds.specs.Equations.{Passed, Related, equality_items, membership_items}
use Rattle.checker_kinds.proofs.Operands.{operands}

module _ (s s' d : List ℕ) (n x y number : ℕ) (E : Equated s s' d n (x ∷ []) y 0 number) (top : ℕ) where
  pub equality_told : Related s s' d n top x y number n equality_items
  equality_told = record {
    low = E.low;
    goes = λ e G S k p q K M. record {
      top' = top;
      advanced = equal_advanced s s' d n (x ∷ []) y 0 top G S (pair p q end) (one_side s d n G x y p q K M) k (SlotOf k) (subst (Equated s s' d n (x ∷ []) y 0) e E);
    };
    stops = λ e G S k p q K M. E.stops e top G S (pair p q end) (one_side s d n G x y p q K M) k;
  }

-- MEMBERSHIP: the power of x, cell n.
module _ (s d : List ℕ) (n top x y : ℕ) (A : Working s d n top 1 (x ∷ y ∷ [])) where
  abbrev O : (a : Term) × (b : Term) × Cell s d n A.ghost x a × Cell s d n A.ghost y b
  O = operands s d n A.ghost x y A.terms A.cells

  pub member_building : Building s n top 1 (x ∷ [])
  member_building = building s d n top 1 A.ghost A.stands A.room (x ∷ []) (cons O.0 nil) (one_cell s d n A.ghost x O.0 O.2)

  module _ (u : List ℕ) (top' : ℕ) (B : Built s u n top top' 1 power (x ∷ [])) where
    asks₁ : Comparing u d (suc n) (n ∷ []) y 0
    asks₁ =
        one_comparing u d (suc n) n y top' A.ghost (built_stands s u d n top top' 1 power (x ∷ []) B A.ghost A.stands) (omega arith) (let l = O.3.made in omega arith)

    pub member_asks : (m : ℕ) → m ≡ suc n → Comparing u d m (n ∷ []) y 0
    member_asks m e = subst (λ z. Comparing u d z (n ∷ []) y 0) (sym e) asks₁

    module _ (s' : List ℕ) (number m : ℕ) (E₀ : Equated u s' d m (n ∷ []) y 0 number) (em : m ≡ suc n) where
      abbrev E : Equated u s' d (suc n) (n ∷ []) y 0 number
      E = subst (λ z. Equated u s' d z (n ∷ []) y 0 number) em E₀

      module _ (G : Ghost) (S : Stands s d n top G) (p q : Term) (K : Cell s d n G x p) (M : Cell s d n G y q) where
        S₁ : Stands u d (suc n) top' G
        S₁ = built_stands s u d n top top' 1 power (x ∷ []) B G S

        K₁ : Cell u d (suc n) G n (power_of p)
        K₁ = built_cell s u d n top top' 1 power (x ∷ []) B G S (cons p nil) (one_cell s d n G x p K)

        M₁ : Cell u d (suc n) G y q
        M₁ = built_old s u d n top top' 1 power (x ∷ []) B G S y q M

      low_s : lower s' ≡ lower s
      low_s = E.low ∙ (B.builds d).grows.low

      module _ (G : Ghost) (S : Stands s d n top G) (k : ℕ) (p q : Term) (K : Cell s d n G x p) (M : Cell s d n G y q) where
        sides : Sides u d (suc n) G (n ∷ []) y 0 (pair (power_of p) q end)
        sides = one_side u d (suc n) G n y (power_of p) q (K₁ G S p q K M) (M₁ G S p q K M)

        went : number ≡ 0 → Passed s s' d n top (suc n) k G (membership_items k p q)
        went e = record {
          top' = top';
          advanced =
              built_before u s' d (suc n) top' (suc n) top' G (membership_items k p q) (SlotOf k)
              (equal_advanced u s' d (suc n) (n ∷ []) y 0 top' G (S₁ G S p q K M) (pair (power_of p) q end) sides k (SlotOf k) (subst (Equated u s' d (suc n) (n ∷ []) y 0) e E)) s n top (B.builds d) S;
        }

      pub member_told : (n' : ℕ) → n' ≡ suc n → Related s s' d n top x y number n' membership_items
      member_told n' z = subst (λ m. Related s s' d n top x y number m membership_items) (sym z) (record {
        low = low_s;
        goes = λ e G S k p q K M. went G S k p q K M e;
        stops = λ e G S k p q K M. E.stops e top' G (S₁ G S p q K M) (pair (power_of p) q end) (sides G S k p q K M) k;
      })
