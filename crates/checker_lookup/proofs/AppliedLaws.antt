-- A recorded type with actuals: they are powers of its unknowns, and the type is over these.
use mathlib.Core.Path.{◌≡◌, refl, ◌∙◌}
use mathlib.Core.List.{List}
use Prim.Native.Nat.{ℕ, ◌+◌, ◌≤◌}
use native.Mathlib.Omega.{arith}
use Rattle.reader_rules.specs.Tree.{Exprs}
use Rattle.types_rules.specs.Instance.{instance}
use Rattle.checker_rules.specs.Conditions.{typed, types_of, are_powers}
use Rattle.checker_rules.specs.Items.{◌⨾◌}
use Rattle.checker_rules.specs.Unknowns.{row}
use Rattle.types_cells.specs.Store.{run}
use Rattle.checker_pieces.specs.Stage.{Ghost, Stands, Unvisited, node_cells}
use Rattle.checker_pieces.specs.Building.{Cells}
use Rattle.checker_pieces.specs.Rows.{PowersOf, Powers}
use Rattle.checker_pieces.proofs.Walks.{stops_left}
use Rattle.checker_pieces.proofs.Stages.{rule_goes, rule_stops, room_less}
use Rattle.checker_lookup.specs.References.{InstanceAsked, InstanceOf, RecordedAt, ApplyingAt, AppliedAt}
use Rattle.checker_lookup.proofs.ReferenceLaws.{row_ghost, row_stands, row_typed, reads_kept, fewer}

module _ (s d : List ℕ) (n top p m : ℕ) (parts : List ℕ) (B : ApplyingAt s d n top p m parts) where
  abbrev D : RecordedAt s d n top p m
  D = B.recorded

  few : m ≤ 4
  few = D.few

  module _ (s₁ : List ℕ) (number : ℕ) (P : Powers s s₁ d n top (run parts 0 m) m number) where
    pub applied_not : (number ≡ 0 → ⊥) → (cell n' top' : ℕ) → AppliedAt s s₁ d n top p m parts number cell n' top'
    applied_not f cell n' top' = record {
      low = P.low;
      uses = λ z. absurd (f z);
      ruled = λ G S g Q k U xs acts.
          let t = typed k (instance (row k 1 m) g) in
          rule_stops s s₁ d n top k number cell n' top' G (are_powers k xs 1 ⨾ t) f (stops_left G.before G.items (are_powers k xs 1) t number k (P.stops f G S k U xs acts));
    }

    module _ (z : number ≡ 0) where
      abbrev powers : (G : Ghost) → Stands s d n top G → (k : ℕ) → Unvisited k G → (xs : Exprs) → Cells s d n G (run parts 0 m) (types_of xs) →
          PowersOf s s₁ d n top (n + m + m) (top + m) G k m xs
      powers = P.goes z

      pub applied_ask : InstanceAsked s₁ d (n + m + m) (top + m) p n m
      applied_ask =
          let A = (powers D.ghost D.stands D.node D.unvisited B.expressions B.actuals).advanced in
          let own = are_powers D.node B.expressions 1 in
          record {
            ghost = row_ghost s s₁ d n top (n + m + m) (top + m) m D.node D.ghost own A (fewer s d n top p m D);
            stands = row_stands s s₁ d n top (n + m + m) (top + m) m D.node D.ghost own A (fewer s d n top p m D) D.stands;
            type = D.type;
            reads = reads_kept s s₁ d p P.low D.type D.reads;
            small = D.small;
            made = omega arith;
            room = P.uses 32 (room_less s n top (m + m + 32) node_cells (let z = few in omega arith) D.room);
          }

      pub applied : (s₂ : List ℕ) (cell n' top' : ℕ) → InstanceOf s₁ s₂ d (n + m + m) (top + m) p n m cell n' top' → AppliedAt s s₂ d n top p m parts 0 cell n' top'
      applied s₂ cell n' top' I = record {
        low = I.enlarged.low ∙ P.low;
        uses = λ e y Q. I.enlarged.uses y (P.uses (32 + y) (room_less s n top (m + m + (32 + y)) (node_cells + y) (let z = few in omega arith) Q));
        ruled = λ G S g Q k U xs acts.
            let X = powers G S k U xs acts in
            rule_goes s s₂ d n top k 0 cell n' top' G (are_powers k xs 1 ⨾ typed k (instance (row k 1 m) g)) refl
            (row_typed s s₁ d n top (n + m + m) (top + m) m k G (are_powers k xs 1) X.advanced (fewer s d n top p m D) S U X.placed s₂ p cell n' top' I g
            (reads_kept s s₁ d p P.low g Q));
      }
