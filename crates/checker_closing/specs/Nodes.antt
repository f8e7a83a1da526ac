-- A node of the document and its words; results by their fields.
use Rattle.std.specs.Prelude.{◌≡◌, List, ℕ, Result, MatchResult}
use Rattle.types_solver.specs.declared.entering.Grown.{Grown}
use Rattle.layout.specs.Layout.{part}
use Rattle.reader_rules.specs.Promise.{At}
use Rattle.checker_closing.specs.declared.results.Visit.{Visit}
use Rattle.checker_closing.specs.declared.results.Verdict.{Verdict}
use Rattle.checker_closing.specs.declared.results.Lined.{Lined}

-- p are the words of node k, of sort s.
pub record Node (doc p : List ℕ) (s k : ℕ) : Type 0 where
  pub at : At doc s k
  pub words : p ≡ part doc k

pub record VisitAt (r : Visit) (number place cell cells top at : ℕ) : Type 0 where
  pub number_is : r.number ≡ number
  pub place_is : r.place ≡ place
  pub cell_is : r.cell ≡ cell
  pub cells_are : r.cells ≡ cells
  pub top_is : r.top ≡ top
  pub at_is : r.at ≡ at

-- The answer of a rule, by what it grew or by its finding.
pub record RuledAt (v : Visit) (r : Result Grown ℕ) (k at : ℕ) : Type 0 where
  pub is : MatchResult r (λ g. VisitAt v 0 k g.cell g.cells g.top at) (λ number. VisitAt v number k 0 0 0 at)

pub record VerdictAt (r : Verdict) (number place : ℕ) : Type 0 where
  pub number_is : r.number ≡ number
  pub place_is : r.place ≡ place

pub record LinedAt (r : Lined) (number place count at : ℕ) : Type 0 where
  pub number_is : r.number ≡ number
  pub place_is : r.place ≡ place
  pub count_is : r.count ≡ count
  pub at_is : r.at ≡ at
