-- Every Tuple and Product of an expression has 2 to 6 parts.
use mathlib.Core.List.{List}
use Prim.Native.Nat.{ℕ, suc}
use native.Mathlib.Omega.{arith}
use Rattle.reader_rules.specs.Decode.{expr_at}
use Rattle.reader_rules.specs.Kinds.{expressions}
use Rattle.reader_rules.specs.Promise.{At}
use Rattle.reader_rules.proofs.Sized.{SizedExpr}
use Rattle.reader_rules.proofs.SizedTree.{all_sized}

pub expr_sized : (doc : List ℕ) (k : ℕ) → At doc expressions k → SizedExpr (expr_at doc k)
expr_sized doc k h = (all_sized doc (suc k) k (omega arith)).expr h
