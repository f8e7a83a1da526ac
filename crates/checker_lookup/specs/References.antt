-- REFERENCES: what their parts ask and promise.
use Rattle.std.specs.Prelude.{◌≡◌, List, ℕ, suc, ◌+◌, ◌*◌, ◌≤◌, ◌<◌, length}
use Rattle.reader_rules.specs.Tree.{Exprs, none}
use Rattle.types_rules.specs.Instance.{instance}
use Rattle.types_rules.specs.Types.{Ty, Term, size}
use Rattle.checker_rules.specs.Conditions.{fresh_row, typed, types_of, are_powers}
use Rattle.checker_rules.specs.Dictionary.{Dictionary, name_in}
use Rattle.checker_rules.specs.Items.{◌⨾◌}
use Rattle.checker_rules.specs.Rules.{reference_items}
use Rattle.checker_rules.specs.Scopes.{Scope, name_at}
use Rattle.checker_rules.specs.Unknowns.{slot, unknown_at, row}
use Rattle.types_cells.specs.Store.{run}
use Rattle.types_cells.specs.Settled.{lower, heap, Reads}
use Rattle.checker_pieces.specs.Stage.{Ghost, Stands, Cell, Room, Uses, Unvisited, SlotOf, Ruled, node_cells}
use Rattle.checker_pieces.specs.Building.{Cells, Introduced}
use Rattle.checker_lookup.specs.Scoped.{SettledAt, DictionaryHeld, Scoped}
use Rattle.checker_lookup.specs.Enlarged.{Enlarged}

-- The type at the place p may enter, with the m cells from `first` on for its parameters.
pub record InstanceAsked (s d : List ℕ) (n top p first m : ℕ) : Type 0 where
  pub ghost : Ghost
  pub stands : Stands s d n top ghost
  pub type : Ty
  pub reads : Reads (heap s d) p type
  pub small : size type ≤ 32
  pub made : first + m ≤ n
  pub room : Room s n top 32

-- A cell has the type, with unknowns 1 to m of node k for its parameters.
pub record InstanceOf (s s' d : List ℕ) (n top p first m cell n' top' : ℕ) : Type 0 where
  pub enlarged : Enlarged s s' d n top n' top' 32
  pub denoted : (G : Ghost) → Stands s d n top G → (g : Ty) → Reads (heap s d) p g → (k : ℕ) → ((i : ℕ) → i < m → Cell s d n G (first + i) (unknown_at k (suc i))) →
      Cell s' d n' G cell (instance (row k 1 m) g)

-- THE TYPE OF A NODE is that of a new cell: the settled type of a term.
pub record TypedAt (s s' d : List ℕ) (n top p cell n' top' : ℕ) : Type 0 where
  pub low : lower s' ≡ lower s
  pub uses : Uses s s' n top n' top' 1
  pub typed : (G : Ghost) → Stands s d n top G → (t : Term) → SettledAt s d G t p → (k : ℕ) → Unvisited k G →
      Introduced s s' d n top n' top' G (typed k t) (SlotOf k) (slot k 0) cell

-- A recorded type with m parameters stands at p.
pub record RecordedAt (s d : List ℕ) (n top p m : ℕ) : Type 0 where
  pub ghost : Ghost
  pub stands : Stands s d n top ghost
  pub node : ℕ
  pub unvisited : Unvisited node ghost
  pub type : Ty
  pub reads : Reads (heap s d) p type
  pub small : size type ≤ 32
  pub few : m ≤ 4
  pub room : Room s n top node_cells

-- The type of a node is that recorded type, with an unknown for each parameter.
pub record Generic (s s' d : List ℕ) (n top p m cell n' top' : ℕ) : Type 0 where
  pub low : lower s' ≡ lower s
  pub uses : Uses s s' n top n' top' 36
  pub typed : (G : Ghost) → Stands s d n top G → (g : Ty) → Reads (heap s d) p g → (k : ℕ) → Unvisited k G →
      Introduced s s' d n top n' top' G (fresh_row k 1 m ⨾ typed k (instance (row k 1 m) g)) (SlotOf k) (slot k 0) cell

-- A dictionary stands in the area d, its index in w, below a piece with a node that is not visited yet.
pub record Consulted (s d w : List ℕ) (n top : ℕ) : Type 0 where
  pub ghost : Ghost
  pub stands : Stands s d n top ghost
  pub node : ℕ
  pub unvisited : Unvisited node ghost
  pub dictionary : Dictionary
  pub recorded : DictionaryHeld dictionary d w
  pub room : Room s n top node_cells

-- A RECORDED NAME WITHOUT ACTUALS.
pub record Global (s s' d w : List ℕ) (n top id number cell n' top' : ℕ) : Type 0 where
  pub low : lower s' ≡ lower s
  pub uses : number ≡ 0 → Uses s s' n top n' top' node_cells
  pub ruled : (G : Ghost) → Stands s d n top G → (k : ℕ) → Unvisited k G → (D : Dictionary) → DictionaryHeld D d w → Ruled s s' d n top k number cell n' top' G (reference_items k none (name_in id D))

-- A name may be looked up in scope.
pub record Referring (s d w : List ℕ) (n top rows : ℕ) : Type 0 where
  pub ghost : Ghost
  pub stands : Stands s d n top ghost
  pub node : ℕ
  pub unvisited : Unvisited node ghost
  pub scope : Scope
  pub dictionary : Dictionary
  pub scoped : Scoped s d w rows ghost scope dictionary
  pub table : 2 * rows ≤ length w
  pub room : Room s n top node_cells

-- REF WITHOUT ACTUALS.
pub record Refers (s s' d w : List ℕ) (n top rows id number cell n' top' : ℕ) : Type 0 where
  pub low : lower s' ≡ lower s
  pub uses : number ≡ 0 → Uses s s' n top n' top' node_cells
  pub ruled : (G : Ghost) → Stands s d n top G → (k : ℕ) → Unvisited k G → (Γ : Scope) (D : Dictionary) → Scoped s d w rows G Γ D →
      Ruled s s' d n top k number cell n' top' G (reference_items k none (name_at id Γ))

-- A RECORDED TYPE WITH ACTUALS, as many as it has parameters: their cells are the first m words of `parts`.
pub record ApplyingAt (s d : List ℕ) (n top p m : ℕ) (parts : List ℕ) : Type 0 where
  pub recorded : RecordedAt s d n top p m
  pub expressions : Exprs
  pub actuals : Cells s d n recorded.ghost (run parts 0 m) (types_of expressions)
  pub within : m ≤ length parts

pub record AppliedAt (s s' d : List ℕ) (n top p m : ℕ) (parts : List ℕ) (number cell n' top' : ℕ) : Type 0 where
  pub low : lower s' ≡ lower s
  pub uses : number ≡ 0 → Uses s s' n top n' top' node_cells
  pub ruled : (G : Ghost) → Stands s d n top G → (g : Ty) → Reads (heap s d) p g → (k : ℕ) → Unvisited k G → (xs : Exprs) → Cells s d n G (run parts 0 m) (types_of xs) →
      Ruled s s' d n top k number cell n' top' G (are_powers k xs 1 ⨾ typed k (instance (row k 1 m) g))

-- A RECORDED NAME WITH ACTUALS, one at least.
pub record ConsultedWith (s d w : List ℕ) (n top : ℕ) (parts : List ℕ) (m : ℕ) : Type 0 where
  pub consulted : Consulted s d w n top
  pub expressions : Exprs
  pub actuals : Cells s d n consulted.ghost (run parts 0 m) (types_of expressions)
  pub within : m ≤ length parts
  pub some : 1 ≤ m

pub record GlobalApplied (s s' d w : List ℕ) (n top id : ℕ) (parts : List ℕ) (m number cell n' top' : ℕ) : Type 0 where
  pub low : lower s' ≡ lower s
  pub uses : number ≡ 0 → Uses s s' n top n' top' node_cells
  pub ruled : (G : Ghost) → Stands s d n top G → (k : ℕ) → Unvisited k G → (D : Dictionary) → DictionaryHeld D d w → (xs : Exprs) → Cells s d n G (run parts 0 m) (types_of xs) →
      Ruled s s' d n top k number cell n' top' G (reference_items k xs (name_in id D))

-- REF: a name in scope with m actuals, whose cells stand in `parts`.
pub record ReferringWith (s d w : List ℕ) (n top rows : ℕ) (parts : List ℕ) (m : ℕ) : Type 0 where
  pub referring : Referring s d w n top rows
  pub expressions : Exprs
  pub actuals : Cells s d n referring.ghost (run parts 0 m) (types_of expressions)
  pub within : m ≤ length parts

pub record RefersWith (s s' d w : List ℕ) (n top rows id : ℕ) (parts : List ℕ) (m number cell n' top' : ℕ) : Type 0 where
  pub low : lower s' ≡ lower s
  pub uses : number ≡ 0 → Uses s s' n top n' top' node_cells
  pub ruled : (G : Ghost) → Stands s d n top G → (k : ℕ) → Unvisited k G → (Γ : Scope) (D : Dictionary) → Scoped s d w rows G Γ D → (xs : Exprs) → Cells s d n G (run parts 0 m) (types_of xs) →
      Ruled s s' d n top k number cell n' top' G (reference_items k xs (name_at id Γ))
