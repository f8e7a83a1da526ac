-- A piece waits while pieces inside it are visited: its store is saved in the work area, and taken up again.
use mathlib.Core.Path.{◌≡◌, sym, ap, subst, ◌∙◌}
use mathlib.Core.List.{List, ◌++◌}
use mathlib.Core.Logic.{inr}
use Prim.Native.Nat.{ℕ, suc, ◌+◌, ◌*◌, ◌-◌, ◌≤◌, ◌<◌, ◌^◌}
use native.Mathlib.Omega.{arith}
use lib.ListN.{length, get_or, length-append}
use lib.Seq.{length-sets, ext_get_or}
use Rattle.types_rules.specs.Equations.{In}
use Rattle.types_rules.specs.Types.{Ty}
use Rattle.checker_rules.specs.Dictionary.{Dictionary}
use Rattle.checker_rules.specs.Items.{Items, ◌⨾◌, Meets, Agree, Refuses, MeetsIn}
use Rattle.checker_rules.specs.Scopes.{Scope}
use Rattle.checker_rules.specs.Unknowns.{Valuation}
use Rattle.types_cells.specs.Layout.{max_pending, first_run, frozen_size, area_size, pool_size, max_cells}
use Rattle.types_cells.specs.Store.{frozen, tag_at, run}
use Rattle.types_cells.specs.Settled.{lower}
use Rattle.types_solver.specs.Written.{Wrote}
use Rattle.types_cells.proofs.Growing.{load_same}
use Rattle.types_cells.proofs.Words.{run_at, run_length}
use Rattle.types_instances.specs.Moved.{saved, restored, Resumed, SaveAsk, RestoreAsk}
use Rattle.types_instances.proofs.AlikeLaws.{alike_fits, alike_fits_back}
use Rattle.types_instances.proofs.CleanLaws.{clean_all_below}
use Rattle.types_instances.proofs.Moving.{sets_before}
use Rattle.types_instances.proofs.Saving.{saved_length, saved_stands, restored_lower, restored_length, resumed}
use Rattle.checker_pieces.specs.Piece.{Solution, Steady, Walked}
use Rattle.checker_pieces.specs.Stage.{Ghost, Stands, Uses, Advanced}
use Rattle.checker_pieces.proofs.Between.{passes_after}
use Rattle.checker_pieces.proofs.ClosingLaws.{resumed as taken-up, resumed_later}
use Rattle.checker_pieces.proofs.Stages.{room_less}
use Rattle.checker_lookup.specs.Scoped.{Scoped}
use Rattle.checker_includes.specs.Storing.{Stored}
use Rattle.checker_contracts.specs.Visits.{Owned, Fresh, idle, Spared}
use Rattle.checker_contracts.specs.Room.{Between, Inside}
use Rattle.checker_contracts.specs.Expressions.{Visiting, ghost_after}
use Rattle.checker_contracts.specs.Predicates.{Walking}
use Rattle.checker_contracts.specs.Parts.{Fact, nothing, Step, Ending}
use Rattle.checker_contracts.proofs.Nodes.{fresh_left, once_left}
use Rattle.checker_contracts.proofs.Rooms.{inside_part, between_part, suspended_room}
use Rattle.checker_contracts.proofs.Scopes.{scoped_idle, scoped_spared, spared_on, spared_less, stored_low, stored_on}
use Rattle.checker_contracts.proofs.Visiting.{visiting_low}

-- Between its items and those of pieces inside it.
pub suspended : (s d : List ℕ) (n top : ℕ) (G : Ghost) → Stands s d n top G → Steady (G.before ⨾ G.items) G.mentioned
suspended s d n top G St =
    let Q = St.piece in
    record {
      passes = passes_after G.before G.items Q.opened Q.passes;
      local = Q.local;
      some = let c = Q.complete Q.some.0 Q.some.1 Q.start.0 Q.start.1 in (c.0, c.1);
    }

-- Rows of equal words.
same_run : (v w : List ℕ) (at k : ℕ) → at + k ≤ length v → at + k ≤ length w → ((i : ℕ) → at ≤ i → i < at + k → get_or v i 0 ≡ get_or w i 0) → run v at k ≡ run w at k
same_run v w at k p q h =
    let a = run_length v at k p in
    let b = run_length w at k q in
    ext_get_or 0 (run v at k) (run w at k) (a ∙ sym b) (λ i l. let r : i < k = omega arith in run_at v at k i r ∙ h (at + i) (omega arith) (omega arith) ∙ sym (run_at w at k i r))

-- THE STORE IS SAVED at `free`, at a node of which the nodes l are visited meanwhile.
module _ (s d w w₁ : List ℕ) (rows n top at free h e : ℕ) (l rest : List ℕ) (K : Visiting s d w rows n top at free h (l ++ rest)) (own : 1 ≤ length rest) (deep : 1 ≤ h) where
  few : n ≤ max_cells
  few = K.stands.piece.solved.held.few

  low : first_run ≤ top
  low = K.stands.above.low

  high : top ≤ frozen_size
  high = let a = K.room.store.words in omega arith

  inside₁ : Inside s w rows n top at free (suc (h - 1)) (suc (length l))
  inside₁ =
      let a = length-append l rest in
      inside_part s w rows n top at free h (suc (h - 1)) (suc (length l)) (length (l ++ rest)) K.room (omega arith) (omega arith)

  bounded : (b : ℕ) × (length l ≤ b) × Between w rows at (free + (5 * n + (top - first_run))) (h - 1) b
  bounded = suspended_room s w rows n top at free (h - 1) (length l) low inside₁

  -- what `save` asks
  pub save_asked : SaveAsk s n top free
  save_asked = let f = K.room.frames in (K.size, few, low, high, omega arith)

  module _ (S : Wrote w w₁ free e (saved s n top)) where
    pub saved_end : e ≡ free + (5 * n + (top - first_run))
    saved_end = S.end ∙ ap (λ z. free + z) (saved_length s n top K.size few low high)

    length₁ : length w₁ ≡ length w
    length₁ = ap length S.area ∙ length-sets w free (saved s n top)

    before₁ : (i : ℕ) → i < free → get_or w₁ i 0 ≡ get_or w i 0
    before₁ i p = ap (λ v. get_or v i 0) S.area ∙ sets_before w free (saved s n top) i p

    pub save_spared : Spared w w₁ rows free
    save_spared = let a = K.room.stack in let b = K.room.low in record { size = length₁; scope = λ i p. before₁ i (omega arith); index = λ i p q. before₁ i (omega arith); frames = λ i p q. before₁ i q }

    saved_fit : free + (5 * n + (top - first_run)) ≤ length w₁
    saved_fit = let f = bounded.2.frames in let v = K.room.wide in let z = length₁ in omega arith

    -- the scope at pieces inside
    scoped_waiting : (G : Ghost) (Γ : Scope) (D : Dictionary) → Scoped s d w rows G Γ D → Scoped s d w₁ rows (idle (G.before ⨾ G.items) G.mentioned) Γ D
    scoped_waiting G Γ D C = scoped_spared s d w w₁ rows free (idle (G.before ⨾ G.items) G.mentioned) Γ D save_spared (scoped_idle s d w rows Γ D G C)

    -- WHAT HOLDS BETWEEN PIECES then.
    pub waiting : Walking s d w₁ rows at e (h - 1) l
    waiting =
        let G = K.ghost in
        let z = saved_end in
        let B = bounded.2 in
        let y = B.low in
        record {
          before = G.before ⨾ G.items;
          known = G.mentioned;
          steady = suspended s d n top G K.stands;
          scope = K.scope;
          dictionary = K.dictionary;
          scoped = scoped_waiting G K.scope K.dictionary K.scoped;
          fresh = fresh_left l rest G.mentioned K.fresh;
          once = once_left l rest K.once;
          size = K.size;
          few = K.stands.few;
          clean = K.clean;
          bound = bounded.0;
          crowd = inr bounded.1;
          room = between_part w w₁ rows rows at at (free + (5 * n + (top - first_run))) e (h - 1) (h - 1) bounded.0 bounded.0 B length₁ (omega arith) (omega arith) B.some (omega arith) (omega arith) (omega arith) (omega arith);
        }

    -- THE STORE IS TAKEN UP AGAIN, after types were written from `at` on and words from e on.
    module _ (w₂ : List ℕ) (W : Spared w₁ w₂ rows e) where
      pub restore_asked : RestoreAsk w₂ n top free
      restore_asked = let q = save_asked in let f = saved_fit in let z = W.size in (q.1, q.2, q.3, q.4, omega arith)

      pub waiting_spared : Spared w w₂ rows free
      waiting_spared = let z = saved_end in spared_on w w₁ w₂ rows free save_spared (spared_less w₁ w₂ rows rows e free (omega arith) (omega arith) W)

      stand : run w₂ free (5 * n + (top - first_run)) ≡ saved s n top
      stand =
          let f = saved_fit in
          let z = W.size in
          let y = saved_end in
          let u = K.room.low in
          same_run w₂ w₁ free (5 * n + (top - first_run)) (omega arith) f (λ i p q. W.frames i (omega arith) (omega arith))
          ∙ saved_stands s n top K.size few low high w w₁ free e (let v = length₁ in omega arith) S

      fit₂ : free + (5 * n + (top - first_run)) ≤ length w₂
      fit₂ = restore_asked.4

      room₁ : at < pool_size
      room₁ = visiting_low s d w rows n top at free h (l ++ rest) K

      -- A piece inside stops.
      pub waiting_stops : (c : Scope → Items) (s₁ : List ℕ) (x number place cell n' top' at' : ℕ) → (number ≡ 0 → ⊥) →
          ((H : Items) (U : List ℕ) → Steady H U → (Γ : Scope) (D : Dictionary) → Scoped s d w₁ rows (idle H U) Γ D → Fresh l U → Refuses (c Γ) (MeetsIn H) number place) →
          Ending s s₁ d w w₂ rows n top at free c l nothing x number place cell n' top' at'
      waiting_stops c s₁ x number place cell n' top' at' ne inner = record {
        spared = waiting_spared;
        areas = λ z. absurd (ne z);
        goes = λ z. absurd (ne z);
        stops = λ q G St Γ D C f b. inner (G.before ⨾ G.items) G.mentioned (suspended s d n top G St) Γ D (scoped_waiting G Γ D C) f;
      }

      module _ (s₁ s₂ : List ℕ) (at₁ : ℕ) (T : Stored s s₁ at at₁) where
        size₁ : length s₁ ≡ area_size
        size₁ = T.size ∙ K.size

        module _ (R : s₂ ≡ restored s₁ n top w₂ free) where
          pub taken_low : lower s₂ ≡ lower s₁
          taken_low = ap lower R ∙ restored_lower s n top K.size few low high s₁ w₂ free size₁ fit₂ stand

          length₂ : length s₂ ≡ length s₁
          length₂ = ap length R ∙ restored_length s n top K.size few low high s₁ w₂ free size₁ fit₂ stand

          back : Resumed s s₂ d n top at
          back =
              subst (λ v. Resumed s v d n top at) (sym R)
              (resumed s n top K.size few low high s₁ w₂ free size₁ fit₂ stand d at (let z = room₁ in omega arith) T.before (clean_all_below s d n at K.size K.room.some room₁ K.clean) K.stands.above)

          pub taken_stored : at₁ < pool_size → Stored s s₂ at at₁
          taken_stored r = stored_on s s₁ s₂ at at₁ at₁ T (stored_low s₁ s₂ at₁ length₂ (omega arith) T.after taken_low)

          -- the room is what it was
          pub taken_uses : (x : ℕ) → Uses s s₂ n top n top x
          taken_uses x y Q =
              let Q' = room_less s n top y (x + y) (omega arith) Q in
              record { cells = Q'.cells; words = Q'.words; fit = subst (λ z. z + 2 * y < max_pending) (sym (load_same (frozen s) (frozen s₂) n (λ i m. back.alike.fields i 3 m (omega arith)))) Q'.fit }

          module _ (G : Ghost) (St : Stands s d n top G) where
            to : (σ : ℕ → Ty) → Solution s d n G.equations σ → Solution s₂ d n G.equations σ
            to σ X = record {
              fits = alike_fits s s₂ n top back.alike K.size St.piece.solved.held.cells St.above σ X.fits;
              sat = X.sat;
              obeys = back.obeys σ St.piece.pinned X.obeys;
            }

            from : (σ : ℕ → Ty) → Solution s₂ d n G.equations σ → Solution s d n G.equations σ
            from σ X = record {
              fits = alike_fits_back s s₂ n top back.alike K.size St.piece.solved.held.cells St.above σ X.fits;
              sat = X.sat;
              obeys = back.obeyed σ X.obeys;
            }

            -- THE PIECE WITH THE ITEMS c of the pieces inside it.
            unfoldable taken : (c : Items) (U : List ℕ) → Walked (G.before ⨾ G.items) c G.mentioned U (Owned l) → ((τ τ' : Valuation) → Agree c τ τ') → Advanced s s₂ d n top n top G c (Owned l)
            taken c U Z agrees =
                let S' = back.solved G.equations St.piece.L St.piece.solved in
                let P' = back.pinned St.piece.pinned in
                let still : (i : ℕ) → i < n → tag_at (frozen s₂) i ≡ tag_at (frozen s) i = λ i m. back.alike.fields i 0 m (omega arith) in
                record {
                  equations = G.equations;
                  mentioned = U;
                  cells = G.cells;
                  wide = omega arith;
                  goes = Z.goes;
                  piece = taken-up s s₂ d n G.equations St.piece.L S' P' still to from G.before G.items G.known G.mentioned G.cells St.piece c U Z.wider Z.steady.local Z.extends Z.goes agrees;
                  above = back.above;
                  later = resumed_later s s₂ d n G.equations St.piece.L S' P' still to from G.before G.items G.known G.mentioned G.cells St.piece c U Z.wider Z.steady.local Z.extends Z.goes agrees;
                  wider = Z.wider;
                  new = Z.new;
                }

          -- A PART OF THE EXPRESSION: its items are those of the pieces inside.
          module _ (c : Scope → Items) (agrees : (Γ : Scope) (τ τ' : Valuation) → Agree (c Γ) τ τ') (later after : Fact) (reach : at₁ < pool_size)
              (inner : (H : Items) (U : List ℕ) → Steady H U → (Γ : Scope) (D : Dictionary) → Scoped s d w₁ rows (idle H U) Γ D → Fresh l U →
              (U' : List ℕ) × Walked H (c Γ) U U' (Owned l) × later Γ D (idle (H ⨾ c Γ) U'))
              (carry : (Γ : Scope) (D : Dictionary) (G G' : Ghost) → ((x : ℕ) → In x G.mentioned → In x G'.mentioned) →
              ((τ : Valuation) → Meets (G'.before ⨾ G'.items) τ → Meets (G.before ⨾ G.items) τ) → later Γ D G → after Γ D G') where
            pub waiting_step : Step s s₂ d w w₂ rows n top n top at at₁ free c l nothing after
            unfolding MeetsIn taken
            waiting_step = record {
              spared = waiting_spared;
              stored = taken_stored reach;
              goes = λ G St Γ D C f b.
                  let H = G.before ⨾ G.items in
                  let i = inner H G.mentioned (suspended s d n top G St) Γ D (scoped_waiting G Γ D C) f in
                  let A = taken G St (c Γ) i.0 i.1 (agrees Γ) in
                  record {
                    advanced = A;
                    holds = carry Γ D (idle (H ⨾ c Γ) i.0) (ghost_after G (c Γ) A.equations A.mentioned A.cells) (λ x z. z) (λ τ m. (((m.0, m.1.0), m.1.1), tt)) i.2;
                  };
            }
