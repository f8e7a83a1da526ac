-- A node by the words that its part has: its kind, its operands.
use mathlib.Core.Path.{◌≡◌, sym, ap, ◌∙◌}
use mathlib.Core.List.{List}
use Prim.Native.Nat.{ℕ}
use lib.ListN.{get_or}
use Rattle.layout.specs.Layout.{part}
use Rattle.reader_rules.specs.Nodes.{kind_at, operand_at}
use Rattle.reader_rules.specs.Promise.{At}
use Rattle.checker_closing.specs.Nodes.{Node}

pub node_of : {doc p : List ℕ} {q k : ℕ} → At doc q k → p ≡ part doc k → Node doc p q k
node_of h e = record { at = h; words = e }

pub word_at_lem : {doc p : List ℕ} {q k : ℕ} → Node doc p q k → (j x : ℕ) → x ≡ get_or p j 0 → x ≡ operand_at doc k j
word_at_lem B j x e = e ∙ ap (λ (l : List ℕ). get_or l j 0) B.words

pub kind_at_lem : {doc p : List ℕ} {q k : ℕ} → Node doc p q k → (x : ℕ) → x ≡ get_or p 0 0 → kind_at doc k ≡ x
kind_at_lem B x e = sym (word_at_lem B 0 x e)
