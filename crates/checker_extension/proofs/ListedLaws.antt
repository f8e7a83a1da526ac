-- What the reader promises of a paragraph of the Document.
use mathlib.Core.Path.{◌≡◌, refl, sym, subst}
use mathlib.Core.Logic.{⊎_elim}
use mathlib.Core.List.{List, [], ◌∷◌}
use Prim.Native.Nat.{ℕ, zero, suc, ◌+◌, ◌-◌, ◌≤◌, ◌<◌}
use native.Mathlib.Omega.{arith}
use lib.ListN.{length, get_or}
use Rattle.layout.specs.Layout.{count, part}
use Rattle.reader_rules.specs.Kinds.{paragraphs}
use Rattle.reader_rules.specs.Nodes.{kind_at}
use Rattle.reader_rules.specs.Promise.{At, Lower}
use Rattle.reader_rules.specs.Tree.{Paragraph, paragraph_node}
use Rattle.reader_rules.specs.Decode.{gather, paragraph_at, paragraphs_from}
use Rattle.reader_rules.specs.Limited.{LimitedParagraph, LimitedParagraphs, Limited, LimitedDocument}
use Rattle.reader_rules.proofs.LimitedTree.{tree_limited}
use Rattle.reader_rules.proofs.TreeShape.{all_at, ◌▹◌}
use Rattle.reader_rules.proofs.TreeParagraph.{paragraph_range, paragraph_given, paragraph_axiomatic, paragraph_schema, paragraph_abbreviation, paragraph_constraint, document_law}
use Rattle.checker_rules.specs.Check.{paragraphs_of}
use Rattle.reader_rules.proofs.Sized.{SizedParagraph, SizedParagraphs}
use Rattle.checker_rules.proofs.SizedTree.{tree_sized}
use Rattle.types_cells.proofs.Growing.{lt_or_ge}
use Rattle.checker_extension.specs.Entering.{IsParagraph}

-- What holds of a list of paragraphs holds of the paragraph at each place.
module _ (P : Paragraph → Type 0) (Q : List Paragraph → Type 0) (first : (p : Paragraph) (ps : List Paragraph) → Q (p ∷ ps) → P p)
    (others : (p : Paragraph) (ps : List Paragraph) → Q (p ∷ ps) → Q ps) (doc w : List ℕ) where
  gathered_at : (i m : ℕ) → Q (gather (λ j. ◌∷◌ (paragraph_at doc j)) w i m []) → (j : ℕ) → i ≤ j → j < i + m → P (paragraph_at doc (get_or w j 0))
  unfolding gather
  gathered_at i zero h j a b = absurd (omega arith)
  gathered_at i (suc m) h j a b =
      ⊎_elim
      (λ (z : i < j). gathered_at (suc i) m (others _ _ h) j (omega arith) (omega arith))
      (λ (z : j ≤ i). let e : i ≡ j = omega arith in subst (λ (v : ℕ). P (paragraph_at doc (get_or w v 0))) e (first _ _ h))
      (lt_or_ge i j)

module _ (doc : List ℕ) (k : ℕ) (L : IsParagraph doc k) where
  pub listed_lower : Lower doc (count doc) paragraphs k
  listed_lower = (document_law doc L.read).each L.place L.some L.most k L.is

  pub listed_at : At doc paragraphs k
  listed_at = listed_lower.at

  each_listed : (P : Paragraph → Type 0) (Q : List Paragraph → Type 0) → ((p : Paragraph) (ps : List Paragraph) → Q (p ∷ ps) → P p)
      → ((p : Paragraph) (ps : List Paragraph) → Q (p ∷ ps) → Q ps) → Q (paragraphs_from doc (count doc) 1 (length (part doc (count doc)) - 1)) → P (paragraph_at doc k)
  unfolding paragraphs_from
  each_listed P Q f g h =
      let a = L.some in
      let b = L.most in
      subst (λ (v : ℕ). P (paragraph_at doc v)) (sym L.is) (gathered_at P Q f g doc (part doc (count doc)) 1 (length (part doc (count doc)) - 1) h L.place (omega arith) (omega arith))

  pub listed_limited : LimitedParagraph 11 4 (paragraph_at doc k)
  unfolding LimitedParagraphs LimitedDocument
  listed_limited =
      let l = document_law doc L.read in
      let h : Limited (paragraphs_from doc (count doc) 1 (length (part doc (count doc)) - 1)) = subst LimitedDocument l.tree (tree_limited doc L.read) in
      each_listed (LimitedParagraph 11 4) (LimitedParagraphs 11 4) (λ p ps z. z.0) (λ p ps z. z.1) h.each

  pub listed_sized : SizedParagraph (paragraph_at doc k)
  unfolding SizedParagraphs paragraphs_of
  listed_sized =
      let l = document_law doc L.read in
      each_listed SizedParagraph SizedParagraphs (λ p ps z. z.0) (λ p ps z. z.1) (subst (λ t. SizedParagraphs (paragraphs_of t)) l.tree (tree_sized doc L.read))

-- The number of a paragraph's node.
pub node_is : (doc : List ℕ) (k : ℕ) → At doc paragraphs k → paragraph_node (paragraph_at doc k) ≡ k
unfolding paragraph_node
node_is doc k h =
    let r = paragraph_range doc k h in
    all_at (λ q. kind_at doc k ≡ q → paragraph_node (paragraph_at doc k) ≡ k) 2 5
    ((λ e. rw (paragraph_given doc k h e) refl)
    ▹ (λ e. rw (paragraph_axiomatic doc k h e _ refl).tree refl)
    ▹ (λ e. rw (paragraph_schema doc k h e _ _ refl refl).tree refl)
    ▹ (λ e. rw (paragraph_abbreviation doc k h e _ _ refl refl).tree refl)
    ▹ (λ e. rw (paragraph_constraint doc k h e _ refl).tree refl)
    ▹ tt)
    (kind_at doc k) r.0 (omega arith) refl
