-- The names of a document with the values that a state gives them, and their blocks.
use Rattle.std.specs.Prelude.{◌≡◌, List, ◌∷◌, ℕ, replicate}
use Rattle.reader_rules.specs.Reading.{read_of}
use Rattle.reader_rules.specs.Refusals.{Readable}
use Rattle.reader_rules.specs.Decode.{tree_of}
use Rattle.states_rules.specs.Names.{Name, document_names}
use Rattle.states_rules.specs.States.{State, state_of, value_in}
use Rattle.states.specs.Table.{put_names}
use Rattle.evaluator_rules.specs.Environment.{Environment}
use Rattle.evaluator_scope.specs.Blocks.{Scoped}

-- an identifier among names
pub data Among (i : ℕ) : List Name → Type 0 where
  here : {n : Name} {ns : List Name} → n.identifier ≡ i → Among i (n ∷ ns)
  there : {n : Name} {ns : List Name} → Among i ns → Among i (n ∷ ns)

-- these are names of the document
pub record Declares (doc : List ℕ) (ns : List Name) : Type 0 where
  pub each : (i : ℕ) → Among i ns → Among i (document_names (tree_of doc))

-- the value that a state gives to each name
abbrev pub said : List ℕ → List ℕ → State
said doc state = value_in (document_names (tree_of doc)) state

-- a readable document, a state well formed for it, and the table of its givens (states, specs/Table)
pub record Stated (doc state table : List ℕ) : Type 0 where
  pub read : read_of doc ≡ Readable
  pub formed : state_of (document_names (tree_of doc)) state ≡ Readable
  pub pairs : table ≡ put_names (document_names (tree_of doc)) state 1 (replicate 2050 0)

-- n blocks that are a scope have become m blocks that are another
abbrev pub Extends : List ℕ → List ℕ → List ℕ → ℕ → ℕ → (Environment → Environment) → Type 0
Extends state before after n m f = (scope : Environment) → Scoped state before n scope → Scoped state after m (f scope)
