-- References without actuals: a local name's settled type, a recorded type with an unknown for each parameter.
use mathlib.Core.Path.{◌≡◌, sym, subst, ◌∙◌}
use mathlib.Core.List.{List}
use mathlib.Core.Logic.{⊎_elim}
use Prim.Native.Nat.{ℕ, suc, ◌+◌, ◌<◌}
use native.Mathlib.Omega.{arith}
use Rattle.types_rules.specs.Equations.{In, InP}
use Rattle.types_rules.specs.Instance.{instance}
use Rattle.types_rules.specs.Types.{Ty}
use Rattle.checker_rules.specs.Conditions.{fresh_row, typed}
use Rattle.checker_rules.specs.Items.{Items, ◌⨾◌}
use Rattle.checker_rules.specs.Unknowns.{slot, row}
use Rattle.types_cells.specs.Settled.{lower, heap, Reads, Entering, Entered}
use Rattle.types_cells.proofs.SettlingLaws.{heap_kept}
use Rattle.checker_pieces.specs.Stage.{Ghost, Stands, Uses, Unvisited, SlotOf, Advanced, node_cells}
use Rattle.checker_pieces.specs.Building.{Introduced}
use Rattle.checker_pieces.specs.Rows.{RowAsked, Among, RowOf, RowMade}
use Rattle.checker_pieces.proofs.Walks.{later_on}
use Rattle.checker_pieces.proofs.Stages.{next, next_stands, placed_cell, introduce_then, room_less, typed_here, wider_mine}
use Rattle.checker_lookup.specs.Enlarged.{Enlarged}
use Rattle.checker_lookup.specs.References.{InstanceAsked, InstanceOf, TypedAt, RecordedAt, Generic}
use Rattle.checker_lookup.proofs.Standing.{settled_enlarged}

-- Cells more before the items.
pub introduced_enlarged : (r s s' d : List ℕ) (m bottom n top n' top' z : ℕ) (G : Ghost) (own : Items) (M : ℕ → Type 0) (x c : ℕ) → Enlarged r s d m bottom n top z → Stands r d m bottom G →
    Introduced s s' d n top n' top' G own M x c → Introduced r s' d m bottom n' top' G own M x c
introduced_enlarged r s s' d m bottom n top n' top' z G own M x c E S I =
    let A = I.advanced in
    record {
      advanced = record {
        equations = A.equations;
        mentioned = A.mentioned;
        cells = A.cells;
        wide = let u = A.wide in let v = E.wide in omega arith;
        goes = A.goes;
        piece = A.piece;
        above = A.above;
        later =
            later_on r s s' d m n n' G.equations G.equations A.equations G.before G.items G.items (G.items ⨾ own) G.cells G.cells A.cells
            (E.later G S) A.later;
        wider = A.wider;
        new = A.new;
      };
      placed = I.placed;
    }

-- A SETTLED TYPE.
module _ (s s' d : List ℕ) (n top p : ℕ) (A : Entering s d n p) (N : Entered s s' d n p) where
  pub typed_at : TypedAt s s' d n top p n (n + 1) top
  typed_at =
      let E = settled_enlarged s s' d n p A N top in
      let z : suc n ≡ n + 1 = omega arith in
      subst (λ (m : ℕ). TypedAt s s' d n top p n m top) z
      (record {
        low = E.low;
        uses = E.uses;
        typed = λ G S t T k U.
            introduced_enlarged s s' s' d n top (suc n) top (suc n) top 1 G (typed k t) (SlotOf k) (slot k 0) n E S
            (typed_here s' d (suc n) top G (E.stands G S) n t
            (record {
              made = omega arith;
              denotes = λ τ h σ X q. N.type T.type T.reads σ X.obeys ∙ sym (T.means τ h);
              over = T.over;
            })
            k (U 0 (omega arith)));
      })

-- A ROW OF UNKNOWNS 1 to m of node k has the cells n, n + 1, ..: the items `own` made it, with what they ask of it.
module _ (s s₁ d : List ℕ) (n top n₁ top₁ m k : ℕ) (G : Ghost) (own : Items) (A₀ : Advanced s s₁ d n top n₁ top₁ G own (Among k m)) (few : m < 8) where
  abbrev pub row_advanced : Advanced s s₁ d n top n₁ top₁ G own (SlotOf k)
  row_advanced = wider_mine s s₁ d n top n₁ top₁ G own (Among k m) A₀ (SlotOf k) (λ y q. (q.0, let a = q.2 in omega arith, q.3))

  abbrev pub row_ghost : Ghost
  row_ghost = next s s₁ d n top n₁ top₁ G own (SlotOf k) row_advanced

  pub row_stands : Stands s d n top G → Stands s₁ d n₁ top₁ row_ghost
  row_stands S = next_stands s s₁ d n top n₁ top₁ G own (SlotOf k) row_advanced S.few

  row_unvisited : Unvisited k G → In (slot k 0) row_ghost.mentioned → ⊥
  unfolding slot
  row_unvisited U i = ⊎_elim (U 0 (omega arith)) (λ q. let a = q.1 in let b = q.3 in omega arith) (A₀.new (slot k 0) i)

  -- the type of node k, over these unknowns
  pub row_typed : Stands s d n top G → Unvisited k G → ((i : ℕ) → i < m → InP (slot k (suc i)) (n + i) A₀.cells) → (s₂ : List ℕ) (p cell n' top' : ℕ) →
      InstanceOf s₁ s₂ d n₁ top₁ p n m cell n' top' → (g : Ty) → Reads (heap s₁ d) p g → Introduced s s₂ d n top n' top' G (own ⨾ typed k (instance (row k 1 m) g)) (SlotOf k) (slot k 0) cell
  row_typed S U placed s₂ p cell n' top' I g Q =
      let E = I.enlarged in
      let T = row_stands S in
      let t = instance (row k 1 m) g in
      introduce_then s s₁ d n top n₁ top₁ G own (SlotOf k) row_advanced (typed k t) s₂ n' top' (slot k 0) cell
      (introduced_enlarged s₁ s₂ s₂ d n₁ top₁ n' top' n' top' 32 row_ghost (typed k t) (SlotOf k) (slot k 0) cell E T
      (typed_here s₂ d n' top' row_ghost (E.stands row_ghost T) cell t
      (I.denoted row_ghost T g Q k (λ i l. placed_cell s s₁ d n top n₁ top₁ G own (SlotOf k) row_advanced (slot k (suc i)) (n + i) (placed i l))) k (row_unvisited U)))

-- A RECORDED TYPE stays where it stands.
pub reads_kept : (s s₁ d : List ℕ) (p : ℕ) → lower s₁ ≡ lower s → (g : Ty) → Reads (heap s d) p g → Reads (heap s₁ d) p g
reads_kept s s₁ d p e g Q = subst (λ (h : List ℕ). Reads h p g) (sym (heap_kept s s₁ d e)) Q

module _ (s d : List ℕ) (n top p m : ℕ) (B : RecordedAt s d n top p m) where
  pub fewer : m < 8
  fewer = let z = B.few in omega arith

  pub row_asked : RowAsked s n m
  row_asked =
      let a = B.room.cells in
      let b = B.room.fit in
      let c = B.few in
      record { P₀ = B.ghost.equations; L = B.stands.piece.L; solved = B.stands.piece.solved; room = omega arith; fit = omega arith }

  module _ (s₁ : List ℕ) (R : RowMade s s₁ n m) where
    row_uses : Uses s s₁ n top (n + m) top m
    row_uses y Q =
        let a = Q.cells in
        let b = Q.words in
        let c = Q.fit in
        let e = R.fit in
        record { cells = omega arith; words = omega arith; fit = omega arith }

    abbrev row_of : (G : Ghost) → Stands s d n top G → (k : ℕ) → Unvisited k G → RowOf s s₁ d n top (n + m) m k G
    row_of G S k U = R.row d top k G S U fewer

    pub instance_asked : InstanceAsked s₁ d (n + m) top p n m
    instance_asked =
        let A = (row_of B.ghost B.stands B.node B.unvisited).advanced in
        record {
          ghost = row_ghost s s₁ d n top (n + m) top m B.node B.ghost (fresh_row B.node 1 m) A fewer;
          stands = row_stands s s₁ d n top (n + m) top m B.node B.ghost (fresh_row B.node 1 m) A fewer B.stands;
          type = B.type;
          reads = reads_kept s s₁ d p R.low B.type B.reads;
          small = B.small;
          made = omega arith;
          room = row_uses 32 (room_less s n top (m + 32) node_cells (let z = B.few in omega arith) B.room);
        }

    pub generic : (s₂ : List ℕ) (cell n' top' : ℕ) → InstanceOf s₁ s₂ d (n + m) top p n m cell n' top' → Generic s s₂ d n top p m cell n' top'
    generic s₂ cell n' top' I = record {
      low = I.enlarged.low ∙ R.low;
      uses = λ y Q. I.enlarged.uses y (row_uses (32 + y) (room_less s n top (m + (32 + y)) (36 + y) (let z = B.few in omega arith) Q));
      typed = λ G S g Q k U.
          let X = row_of G S k U in
          row_typed s s₁ d n top (n + m) top m k G (fresh_row k 1 m) X.advanced fewer S U X.placed s₂ p cell n' top' I g (reads_kept s s₁ d p R.low g Q);
    }
