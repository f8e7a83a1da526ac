-- A paragraph of a readable document has at most 4 parameters.
use mathlib.Core.Path.{◌≡◌, refl}
use mathlib.Core.List.{List}
use Prim.Native.Nat.{ℕ, ◌≤◌}
use native.Mathlib.Omega.{arith}
use lib.ListN.{length, take, drop, length-take}
use Rattle.layout.specs.Layout.{part}
use Rattle.reader_rules.specs.Kinds.{paragraphs}
use Rattle.reader_rules.specs.Nodes.{kind_at, operand_at}
use Rattle.reader_rules.specs.Promise.{At}
use Rattle.reader_rules.specs.Decode.{paragraph_at}
use Rattle.reader_rules.proofs.TreeShape.{all_at, ◌▹◌}
use Rattle.reader_rules.proofs.TreeParagraph.{paragraph_range, paragraph_given, paragraph_axiomatic, paragraph_schema, paragraph_abbreviation, paragraph_constraint}
use Rattle.reader_rules.specs.Limited.{FewParameters}

taken_few : (p : ℕ) (l : List ℕ) → p ≤ 4 → length (take p l) ≤ 4
taken_few p l h = simp length-take (omega arith)

pub few_parameters : (doc : List ℕ) (k : ℕ) → At doc paragraphs k → FewParameters (paragraph_at doc k)
few_parameters doc k h =
    let r = paragraph_range doc k h in
    all_at (λ q. kind_at doc k ≡ q → FewParameters (paragraph_at doc k)) 2 5
    ((λ e. rw (paragraph_given doc k h e) tt)
    ▹ (λ e. rw (paragraph_axiomatic doc k h e _ refl).tree tt)
    ▹ (λ e. let l = paragraph_schema doc k h e _ _ refl refl in rw l.tree (taken_few (operand_at doc k 2) (drop 3 (part doc k)) l.few))
    ▹ (λ e. let l = paragraph_abbreviation doc k h e _ _ refl refl in rw l.tree (taken_few (operand_at doc k 2) (drop 3 (part doc k)) l.few))
    ▹ (λ e. rw (paragraph_constraint doc k h e _ refl).tree tt)
    ▹ tt)
    (kind_at doc k) r.0 (omega arith) refl
