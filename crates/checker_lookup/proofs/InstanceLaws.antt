-- A recorded type enters as a cell: settled where it has no parameters, built over a row of cells otherwise.
use mathlib.Core.Path.{◌≡◌, sym, ap, subst, ◌∙◌}
use mathlib.Core.List.{List}
use Prim.Native.Nat.{ℕ, suc, ◌+◌, ◌≤◌}
use native.Mathlib.Omega.{arith}
use Rattle.types_rules.specs.Equations.{In}
use Rattle.types_rules.specs.Types.{nil, under, Each}
use Rattle.types_rules.proofs.Instance.{instance_none}
use Rattle.checker_rules.specs.Unknowns.{slot, row}
use Rattle.types_cells.specs.Settled.{Entering, Entered}
use Rattle.types_solver.specs.Growth.{unknowns, Instanced}
use Rattle.checker_pieces.proofs.Stages.{room_less}
use Rattle.checker_lookup.specs.Enlarged.{Enlarged}
use Rattle.checker_lookup.specs.References.{InstanceAsked, InstanceOf}
use Rattle.checker_lookup.proofs.Standing.{entering, settled_enlarged, built_enlarged}
use Rattle.checker_lookup.proofs.RowInstances.{instance_rows, rows_same, instance_each, row_each}

-- Where x cells are enough, so are more.
pub enlarged_more : (s s' d : List ℕ) (n top n' top' x y : ℕ) → x ≤ y → Enlarged s s' d n top n' top' x → Enlarged s s' d n top n' top' y
enlarged_more s s' d n top n' top' x y l E = record {
  wide = E.wide;
  low = E.low;
  stands = E.stands;
  later = E.later;
  uses = λ z R. E.uses z (room_less s n top (x + z) (y + z) (omega arith) R);
}

module _ (s d : List ℕ) (n top p first m : ℕ) (B : InstanceAsked s d n top p first m) where
  pub settled_ask : Entering s d n p
  settled_ask = entering s d n top p B.ghost B.stands (room_less s n top 1 32 (omega arith) B.room) (record { type = B.type; reads = B.reads })

  pub settled_instance : m ≡ 0 → (s' : List ℕ) → Entered s s' d n p → InstanceOf s s' d n top p first m n (n + 1) top
  unfolding row Each
  settled_instance e s' N =
      let z : suc n ≡ n + 1 = omega arith in
      subst (λ (k : ℕ). InstanceOf s s' d n top p first k n (n + 1) top) (sym e)
      (subst (λ (k : ℕ). InstanceOf s s' d n top p first 0 n k top) z
      (record {
        enlarged = enlarged_more s s' d n top (suc n) top 1 32 (omega arith) (settled_enlarged s s' d n p settled_ask N top);
        denoted = λ G S g R k C. record {
          made = omega arith;
          denotes = λ τ h σ X q. N.type g R σ X.obeys ∙ sym (instance_none τ g);
          over = instance_each (λ x. In x G.mentioned) nil g tt;
        };
      }))

  module _ (s' : List ℕ) (cell n' top' : ℕ) (N : Instanced s s' d n top p first m cell n' top') where
    entered_enlarged : Enlarged s s' d n top n' top' 32
    entered_enlarged =
        let I = N.is B.type B.reads in
        let a = I.cells in
        let b = I.words in
        let c = I.fit in
        let e = B.small in
        built_enlarged s s' d n top n' top' 32 N.builds (λ A. N.above)
        (λ y R. let u = R.cells in let v = R.words in let w = R.fit in record { cells = omega arith; words = omega arith; fit = omega arith })

    pub entered_instance : InstanceOf s s' d n top p first m cell n' top'
    unfolding under Each
    entered_instance = record {
      enlarged = entered_enlarged;
      denoted = λ G S g R k C. record {
        made = N.made;
        denotes = λ τ h σ X q.
            (N.is g R).type σ X.fits
            ∙ instance_rows σ τ (unknowns first m) (row k 1 m)
            (rows_same σ τ first k 1 m
            (λ i l. let e : suc i ≡ 1 + i = omega arith in (C i l).denotes τ h σ ((entered_enlarged.later G S).solutions σ X) q ∙ ap (λ (x : ℕ). τ (slot k x)) e))
            g;
        over =
            instance_each (λ x. In x G.mentioned) (row k 1 m) g
            (row_each (λ x. In x G.mentioned) k 1 m (λ i l. let e : suc i ≡ 1 + i = omega arith in subst (λ (x : ℕ). In (slot k x) G.mentioned) e (C i l).over));
      };
    }
