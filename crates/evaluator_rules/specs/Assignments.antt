-- The assignments of a Text's identifiers (document 01, "assignments run with the first identifier slowest, ascending").
use Rattle.std.specs.Prelude.{List, [], ◌∷◌, Bool, true, false, ℕ}
use Rattle.values.specs.Value.{Values, nil, cons}
use Rattle.reader_rules.specs.Tree.{Quantifier, forall, exists}
use Rattle.evaluator_rules.specs.Outcomes.{Outcome, ◌>>=◌, pure}
use Rattle.evaluator_rules.specs.Environment.{Environment, bind, valued}

-- the identifiers with the sets that they run through
pub data Domains : Type 0 where
  no_more : Domains
  domain : ℕ → Values → Domains → Domains

-- each of a Decl's identifiers runs through the Decl's set
unfoldable pub domains : List ℕ → Values → Domains → Domains
domains [] vs ds = ds
domains (i ∷ xs) vs ds = domain i vs (domains xs vs ds)

-- what an assignment leaves: the members gathered so far, or the end of all assignments
pub data Flow : Type 0 where
  go : Values → Flow
  halt : Flow

abbrev pub Body : Type 0
Body = Environment → Values → Outcome Flow

unfoldable pub next : (Values → Outcome Flow) → Flow → Outcome Flow
next k (go s) = k s
next k halt = pure halt

unfoldable pub each : ℕ → Values → Body → Environment → Values → Outcome Flow
each i nil k scope s = pure (go s)
each i (cons v vs) k scope s = k (bind i (valued v) scope) s >>= next (λ s'. each i vs k scope s')

-- no Decl means one assignment
unfoldable pub assign : Domains → Body → Environment → Values → Outcome Flow
assign no_more k scope s = k scope s
assign (domain i vs ds) k scope s = each i vs (λ scope' s'. assign ds k scope' s') scope s

-- forall stops at a false, exists at a true
unfoldable pub flow_of : Quantifier → Bool → Flow
flow_of forall true = go nil
flow_of forall false = halt
flow_of exists true = halt
flow_of exists false = go nil

unfoldable pub truth_of : Quantifier → Flow → Bool
truth_of forall (go s) = true
truth_of forall halt = false
truth_of exists (go s) = false
truth_of exists halt = true

-- the members that a Comprehension has added; its assignments never halt, only a quantifier's do (`flow_of`)
unfoldable pub gathered : Flow → Values
gathered (go s) = s
gathered halt = nil
