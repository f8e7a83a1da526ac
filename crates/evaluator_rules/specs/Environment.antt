-- The environment of a run: names with their meanings, innermost first, a Text's identifiers over those of earlier paragraphs (document 01, "Ref: scope
-- as in typing"). Parameters stand in none: no paragraph with parameters is worked out.
use Rattle.std.specs.Prelude.{Bool, true, false, ℕ, eqb}
use Rattle.values.specs.Value.{Value}
use Rattle.reader_rules.specs.Tree.{Exprs, none, more}
use Rattle.evaluator_rules.specs.Outcomes.{Outcome, stop, keep}

pub data Meaning : Type 0 where
  valued : Value → Meaning
  generic : Meaning
  unknown : Meaning

pub data Environment : Type 0 where
  empty : Environment
  bind : ℕ → Meaning → Environment → Environment

unfoldable pub pick : Bool → Meaning → Meaning → Meaning
pick true a b = a
pick false a b = b

unfoldable pub lookup : ℕ → Environment → Meaning
lookup i empty = unknown
lookup i (bind j m scope) = pick (eqb i j) m (lookup i scope)

-- Ref: unknown 51, generic abbreviation 54, actuals on another name 51; the actuals are worked out before (R23)
unfoldable pub refer : ℕ → Exprs → Meaning → Outcome Value
refer n none (valued v) = keep n v
refer n (more a xs) (valued v) = stop 51 n
refer n none generic = stop 54 n
refer n (more a xs) generic = stop 54 n
refer n none unknown = stop 51 n
refer n (more a xs) unknown = stop 51 n

-- a Ref with actuals
unfoldable pub has_actuals : Exprs → Bool
has_actuals none = false
has_actuals (more a xs) = true
