-- The numbers of a node and of all below it, by the words of a document: operands before their node, in operand order.
use Rattle.std.specs.Prelude.{List, [], ◌∷◌, ◌++◌, ℕ}
use Rattle.reader_rules.specs.Nodes.{children}
use Rattle.reader_rules.specs.LowerNodes.{meaning}

-- f at each entry of a list, put together
unfoldable pub flat : (ℕ → List ℕ) → List ℕ → List ℕ
flat f [] = []
flat f (v ∷ vs) = f v ++ flat f vs

unfoldable pub numbers_at : List ℕ → ℕ → List ℕ
numbers_at doc = meaning [] (λ k sub. flat sub (children doc k) ++ (k ∷ []))
