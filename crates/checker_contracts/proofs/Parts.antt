-- Parts chain: what the first leaves is what the second asks.
use mathlib.Core.Path.{◌≡◌, refl}
use mathlib.Core.List.{List, [], ◌∷◌, ◌++◌}
use mathlib.Core.Logic.{inl}
use Prim.Native.Nat.{ℕ, ◌+◌, ◌*◌, ◌≤◌, ◌<◌}
use native.Mathlib.Omega.{arith}
use lib.ListN.{length}
use Rattle.checker_rules.specs.Dictionary.{Dictionary}
use Rattle.checker_rules.specs.Items.{Items, ◌⨾◌}
use Rattle.checker_rules.specs.Scopes.{Scope}
use Rattle.checker_rules.specs.Unknowns.{slot}
use Rattle.types_cells.specs.Layout.{area_size, pool_size}
use Rattle.types_cells.specs.Settled.{lower}
use Rattle.types_instances.specs.Clean.{Clean}
use Rattle.checker_pieces.specs.Piece.{Stops}
use Rattle.checker_pieces.specs.Stage.{Ghost, Stands, Uses, Advanced, SlotOf, Unvisited, Ruled, node_cells}
use Rattle.checker_pieces.specs.Building.{Introduced}
use Rattle.checker_pieces.proofs.Walks.{stops_left}
use Rattle.checker_pieces.proofs.Stages.{next, next_stands, wider_mine, introduced_wider, introduce_then, stop_then, advance_then, room_less}
use Rattle.checker_lookup.specs.Scoped.{Scoped}
use Rattle.checker_contracts.specs.Visits.{Owned, Fresh, EachOnce, Spared}
use Rattle.checker_contracts.specs.Expressions.{Visiting, Visited}
use Rattle.checker_contracts.specs.Parts.{Fact, Passing, Step, Part, Ending}
use Rattle.checker_contracts.proofs.Nodes.{owned_left, owned_right, owned_node, fresh_left, fresh_after, unvisited}
use Rattle.checker_contracts.proofs.Scopes.{spared_on, stored_low, stored_on}
use Rattle.checker_contracts.proofs.Visiting.{scoped_visited, visiting_next, visited_on}

-- ITEMS ONE AFTER ANOTHER, of nodes l and then m.
module _ (s s' s'' d : List ℕ) (n top n' top' n'' top'' : ℕ) (G : Ghost) (a b : Items) (l m : List ℕ) (A : Advanced s s' d n top n' top' G a (Owned l)) where
  abbrev both : Advanced s s' d n top n' top' G a (Owned (l ++ m))
  both = wider_mine s s' d n top n' top' G a (Owned l) A (Owned (l ++ m)) (owned_left l m)

  pub introduced_after : (x c : ℕ) → Introduced s' s'' d n' top' n'' top'' (next s s' d n top n' top' G a (Owned l) A) b (Owned m) x c →
      Introduced s s'' d n top n'' top'' G (a ⨾ b) (Owned (l ++ m)) x c
  introduced_after x c I =
      introduce_then s s' d n top n' top' G a (Owned (l ++ m)) both b s'' n'' top'' x c
      (introduced_wider s' s'' d n' top' n'' top'' (next s s' d n top n' top' G a (Owned l) A) b (Owned m) I.advanced (Owned (l ++ m)) (owned_right l m) x c I.placed)

-- A PART, AND THE LAST ONE.
module _ (s s' s'' d w w' w'' : List ℕ) (rows n top n' top' at at' free : ℕ) (items rest : Scope → Items) (l m : List ℕ) (before between : Fact) (x number place cell n'' top'' at'' : ℕ)
    (size : length s ≡ area_size) (clean : Clean s at) (some : 1 ≤ at) (room : at < pool_size) (once : EachOnce (l ++ m))
    (P : Step s s' d w w' rows n top n' top' at at' free items l before between)
    (Q : Ending s' s'' d w' w'' rows n' top' at' free rest m between x number place cell n'' top'' at'') where
  module _ (G : Ghost) (St : Stands s d n top G) (Γ : Scope) (D : Dictionary) (C : Scoped s d w rows G Γ D) (f : Fresh (l ++ m) G.mentioned) (b : before Γ D G) where
    abbrev passing : Passing s s' d n top n' top' G (items Γ) l (between Γ D)
    passing = P.goes G St Γ D C (fresh_left l m G.mentioned f) b

    abbrev A : Advanced s s' d n top n' top' G (items Γ) (Owned l)
    A = passing.advanced

    abbrev G' : Ghost
    G' = next s s' d n top n' top' G (items Γ) (Owned l) A

    stands' : Stands s' d n' top' G'
    stands' = next_stands s s' d n top n' top' G (items Γ) (Owned l) A St.few

    scoped' : Scoped s' d w' rows G' Γ D
    scoped' = scoped_visited s s' d w w' rows n top n' top' at at' free size clean some room P.stored P.spared G (items Γ) (Owned l) A Γ D C

    fresh' : Fresh m G'.mentioned
    fresh' = fresh_after l m G.mentioned A.mentioned once f A.new

    then_goes : number ≡ 0 → Introduced s s'' d n top n'' top'' G (items Γ ⨾ rest Γ) (Owned (l ++ m)) x cell
    then_goes e = introduced_after s s' s'' d n top n' top' n'' top'' G (items Γ) (rest Γ) l m A x cell (Q.goes e G' stands' Γ D scoped' fresh' passing.holds)

    then_stops : (number ≡ 0 → ⊥) → Stops G.before G.items (items Γ ⨾ rest Γ) number place
    then_stops ne = stop_then s s' d n top n' top' G (items Γ) (Owned l) A (rest Γ) number place (Q.stops ne G' stands' Γ D scoped' fresh' passing.holds)

  pub step_then : (number ≡ 0 → Visited s s'' n top n'' top'' at at'' (l ++ m)) →
      Ending s s'' d w w'' rows n top at free (λ Γ. items Γ ⨾ rest Γ) (l ++ m) before x number place cell n'' top'' at''
  step_then areas = record {
    spared = spared_on w w' w'' rows free P.spared Q.spared;
    areas = areas;
    goes = λ e G St Γ D C f b. then_goes G St Γ D C f b e;
    stops = λ ne G St Γ D C f b. then_stops G St Γ D C f b ne;
  }

-- The same in the room of their nodes.
module _ (s s' s'' d w w' w'' : List ℕ) (rows n top n' top' at at' free : ℕ) (items rest : Scope → Items) (l m : List ℕ) (before between : Fact) (x number place cell n'' top'' at'' : ℕ)
    (size : length s ≡ area_size) (clean : Clean s at) (some : 1 ≤ at) (room : at < pool_size) (once : EachOnce (l ++ m))
    (P : Part s s' d w w' rows n top n' top' at at' free items l before between)
    (Q : Ending s' s'' d w' w'' rows n' top' at' free rest m between x number place cell n'' top'' at'') where
  pub part_then : Ending s s'' d w w'' rows n top at free (λ Γ. items Γ ⨾ rest Γ) (l ++ m) before x number place cell n'' top'' at''
  part_then =
      step_then s s' s'' d w w' w'' rows n top n' top' at at' free items rest l m before between x number place cell n'' top'' at'' size clean some room once P.step Q
      (λ e. visited_on s s' s'' n top n' top' n'' top'' at at' at'' l m P.areas (Q.areas e))

-- TWO PARTS are a part.
module _ (s s' s'' d w w' w'' : List ℕ) (rows n top n' top' n'' top'' at at' at'' free : ℕ) (items rest : Scope → Items) (l m : List ℕ) (before between after : Fact)
    (size : length s ≡ area_size) (clean : Clean s at) (some : 1 ≤ at) (room : at < pool_size) (once : EachOnce (l ++ m))
    (P : Part s s' d w w' rows n top n' top' at at' free items l before between)
    (Q : Part s' s'' d w' w'' rows n' top' n'' top'' at' at'' free rest m between after)
    (regroup : (Γ : Scope) (D : Dictionary) (G : Ghost) (A : Advanced s s' d n top n' top' G (items Γ) (Owned (l ++ m)))
    (B : Advanced s' s'' d n' top' n'' top'' (next s s' d n top n' top' G (items Γ) (Owned (l ++ m)) A) (rest Γ) (Owned (l ++ m))) →
    after Γ D (next s' s'' d n' top' n'' top'' (next s s' d n top n' top' G (items Γ) (Owned (l ++ m)) A) (rest Γ) (Owned (l ++ m)) B) →
    after Γ D (next s s'' d n top n'' top'' G (items Γ ⨾ rest Γ) (Owned (l ++ m)) (advance_then s s' d n top n' top' G (items Γ) (Owned (l ++ m)) A (rest Γ) s'' n'' top'' B))) where
  joined_goes : (G : Ghost) → Stands s d n top G → (Γ : Scope) (D : Dictionary) → Scoped s d w rows G Γ D → Fresh (l ++ m) G.mentioned → before Γ D G →
      Passing s s'' d n top n'' top'' G (items Γ ⨾ rest Γ) (l ++ m) (after Γ D)
  joined_goes G St Γ D C f b =
      let p = P.step.goes G St Γ D C (fresh_left l m G.mentioned f) b in
      let A = p.advanced in
      let G' = next s s' d n top n' top' G (items Γ) (Owned l) A in
      let q = Q.step.goes G' (next_stands s s' d n top n' top' G (items Γ) (Owned l) A St.few) Γ D
      (scoped_visited s s' d w w' rows n top n' top' at at' free size clean some room P.step.stored P.step.spared G (items Γ) (Owned l) A Γ D C)
      (fresh_after l m G.mentioned A.mentioned once f A.new) p.holds in
      let A⁺ = wider_mine s s' d n top n' top' G (items Γ) (Owned l) A (Owned (l ++ m)) (owned_left l m) in
      let B⁺ = wider_mine s' s'' d n' top' n'' top'' G' (rest Γ) (Owned m) q.advanced (Owned (l ++ m)) (owned_right l m) in
      record { advanced = advance_then s s' d n top n' top' G (items Γ) (Owned (l ++ m)) A⁺ (rest Γ) s'' n'' top'' B⁺; holds = regroup Γ D G A⁺ B⁺ q.holds }

  pub part_part : Part s s'' d w w'' rows n top n'' top'' at at'' free (λ Γ. items Γ ⨾ rest Γ) (l ++ m) before after
  part_part = record {
    step = record {
      spared = spared_on w w' w'' rows free P.step.spared Q.step.spared;
      stored = stored_on s s' s'' at at' at'' P.step.stored Q.step.stored;
      goes = joined_goes;
    };
    areas = visited_on s s' s'' n top n' top' n'' top'' at at' at'' l m P.areas Q.areas;
  }

-- A PART STOPS: what comes after it does not matter.
pub part_stops : (s s' d w w' : List ℕ) (rows n top at free : ℕ) (items rest : Scope → Items) (l m : List ℕ) (before : Fact) (x y number place c cell n' top' at' : ℕ) → (number ≡ 0 → ⊥) →
    Ending s s' d w w' rows n top at free items l before x number place c n' top' at' →
    Ending s s' d w w' rows n top at free (λ Γ. items Γ ⨾ rest Γ) (l ++ m) before y number place cell n' top' at'
part_stops s s' d w w' rows n top at free items rest l m before x y number place c cell n' top' at' ne E = record {
  spared = E.spared;
  areas = λ e. absurd (ne e);
  goes = λ e. absurd (ne e);
  stops = λ z G St Γ D C f b. stops_left G.before G.items (items Γ) (rest Γ) number place (E.stops ne G St Γ D C (fresh_left l m G.mentioned f) b);
}

-- THE RULE OF NODE k is a last part. Rules keep the pool, and use 40 cells at most.
module _ (s s' d w w' : List ℕ) (rows n top n' top' at free k number cell used : ℕ) (items : Scope → Items) (before : Fact) (W : Spared w w' rows free) (size : length s' ≡ length s) (low : lower s' ≡ lower s) (room : at ≤ pool_size)
    (clean : Clean s at) (few : used ≤ node_cells) (uses : number ≡ 0 → Uses s s' n top n' top' used)
    (ruled : (G : Ghost) → Stands s d n top G → (Γ : Scope) (D : Dictionary) → Scoped s d w rows G Γ D → Unvisited k G → before Γ D G → Ruled s s' d n top k number cell n' top' G (items Γ)) where
  pub rule_ending : Ending s s' d w w' rows n top at free items (k ∷ []) before (slot k 0) number k cell n' top' at
  rule_ending = record {
    spared = W;
    areas = λ e. record {
      stored = stored_low s s' at size room clean low;
      short = omega arith;
      uses = λ y R. uses e y (room_less s n top (used + y) (node_cells * length (k ∷ []) + y) (omega arith) R);
    };
    goes = λ e G St Γ D C f b.
        let R = ruled G St Γ D C (unvisited (k ∷ []) G.mentioned f k (inl refl)) b in
        introduced_wider s s' d n top n' top' G (items Γ) (SlotOf k) (R.goes e) (Owned (k ∷ [])) (owned_node k) (slot k 0) cell (R.typed e);
    stops = λ ne G St Γ D C f b. (ruled G St Γ D C (unvisited (k ∷ []) G.mentioned f k (inl refl)) b).stops ne;
  }

-- WHAT THE NEXT PART MAY ASK, after a part.
module _ (s s' d w w' : List ℕ) (rows n top n' top' at at' free h : ℕ) (items : Scope → Items) (l m : List ℕ) (before after : Fact)
    (K : Visiting s d w rows n top at free h (l ++ m)) (P : Part s s' d w w' rows n top n' top' at at' free items l before after)
    (b : before K.scope K.dictionary K.ghost) where
  abbrev passed : Passing s s' d n top n' top' K.ghost (items K.scope) l (after K.scope K.dictionary)
  passed = P.step.goes K.ghost K.stands K.scope K.dictionary K.scoped (fresh_left l m K.ghost.mentioned K.fresh) b

  unfoldable pub part_next : Visiting s' d w' rows n' top' at' free h m
  unfolding visiting_next
  part_next = visiting_next s s' d w w' rows n top n' top' at at' free h l m K P.areas P.step.spared (items K.scope) passed.advanced

  pub part_leaves : after part_next.scope part_next.dictionary part_next.ghost
  unfolding part_next visiting_next
  part_leaves = passed.holds
