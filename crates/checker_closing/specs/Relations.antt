-- What the relation of kind q at node k asks and tells after the visits of its sides: cells x and y of n; the words of their types stand from `at` to `end`.
use Rattle.std.specs.Prelude.{◌≡◌, true, false, List, [], ◌∷◌, ℕ, ◌-◌, ◌≤◌, ◌<◌, ◌^◌, length, replicate}
use Rattle.std.proofs.lemmas.List.Edits.{sets}
use Rattle.checker_pieces.specs.Building.{Working}
use Rattle.checker_pieces.specs.Closed.{Closing, Closed}
use Rattle.checker_kinds.specs.Equations.{Related}
use Rattle.checker_closing.specs.Leaves.{relation_items}
use Rattle.checker_closing.specs.Nodes.{VerdictAt}
use Rattle.checker_closing.specs.declared.results.Verdict.{Verdict}

-- The piece ends.
pub record EndAsk (s d : List ℕ) (n end k : ℕ) : Type 0 where
  pub near : k < 2 ^ 32
  pub last : end < 2 ^ 32
  pub closing : Closing s d n

pub data EndTold (s s' d : List ℕ) (n at end k : ℕ) (r : Verdict) : Type 0 where
  several : Closed s s' d n false → VerdictAt r 34 k → EndTold s s' d n at end k r
  one : (s₁ : List ℕ) → Closed s s₁ d n true → length s₁ ≡ length s → s' ≡ sets s₁ at (replicate (end - at) 0) → VerdictAt r 0 k → EndTold s s' d n at end k r

-- The rule, then the end.
pub record RuleAsk (s d : List ℕ) (k q x y n top end : ℕ) : Type 0 where
  pub near : k < 2 ^ 32
  pub last : end < 2 ^ 32
  pub least : 21 ≤ q
  pub most : q ≤ 23
  pub working : Working s d n top 1 (x ∷ y ∷ [])
  pub closing : (s' : List ℕ) (n' : ℕ) → Related s s' d n top x y 0 n' (relation_items q) → Closing s' d n'

pub data RuleTold (s s' d : List ℕ) (at k q x y n top end : ℕ) (r : Verdict) : Type 0 where
  refused : (number n' : ℕ) → Related s s' d n top x y number n' (relation_items q) → (number ≡ 0 → ⊥) → VerdictAt r number k → RuleTold s s' d at k q x y n top end r
  fits : (s₁ : List ℕ) (n' : ℕ) → Related s s₁ d n top x y 0 n' (relation_items q) → length s₁ ≡ length s → EndTold s₁ s' d n' at end k r → RuleTold s s' d at k q x y n top end r

-- The same with the finding of the right side's visit, `number` at `place`.
pub record RelationAsk (s d : List ℕ) (k q x number y n top end : ℕ) : Type 0 where
  pub going : number ≡ 0 → RuleAsk s d k q x y n top end

pub data RelationTold (s s' d : List ℕ) (at k q x number place y n top end : ℕ) (r : Verdict) : Type 0 where
  stopped : (number ≡ 0 → ⊥) → s' ≡ s → VerdictAt r number place → RelationTold s s' d at k q x number place y n top end r
  went : number ≡ 0 → RuleTold s s' d at k q x y n top end r → RelationTold s s' d at k q x number place y n top end r
