-- Identifiers counted in the tree: at most 6 in a Text's Decl lines, at most 64 in Given, Axiom Decl and Abbreviation.
use mathlib.Core.Path.{◌≡◌, refl}
use mathlib.Core.List.{List, [], ◌∷◌, ◌++◌}
use Prim.Native.Nat.{ℕ, ◌+◌, ◌-◌, ◌≤◌, ◌<◌}
use native.Mathlib.Omega.{arith}
use lib.ListN.{length, take, drop}
use borrow.Author.Tests.{eq-eqb}
use Rattle.layout.specs.Layout.{count, part}
use Rattle.reader_rules.specs.Kinds.{texts, lines, paragraphs}
use Rattle.reader_rules.specs.Nodes.{kind_at, operand_at}
use Rattle.reader_rules.specs.Repeats.{declared_in, is_axiom_decl, globals}
use Rattle.reader_rules.specs.Reading.{read_of}
use Rattle.reader_rules.specs.Refusals.{Readable}
use Rattle.reader_rules.specs.Promise.{At, Lower}
use Rattle.reader_rules.specs.Tree.{Lines, end}
use Rattle.reader_rules.specs.Decode.{expr_at, pred_at, text_at, include_at, line_at, paragraph_at, lines_from, paragraphs_from, tree_of}
use Rattle.reader_rules.specs.TreeNumbers.{expr_numbers, pred_numbers, lines_numbers, include_numbers, paragraph_numbers, paragraphs_numbers, node_numbers}
use Rattle.reader_rules.specs.Limited.{declared_count, text_declares, globals_of, global_count}
use Rattle.reader_rules.specs.Below.{numbers_at}
use Rattle.reader_rules.proofs.Accepted.{readable}
use Rattle.reader_rules.proofs.DepthLaws.{operand_parent}
use Rattle.reader_rules.proofs.Occurrences.{sum_of, sum_append}
use Rattle.reader_rules.proofs.TreeShape.{all_at, ◌▹◌, gather_keeps}
use Rattle.reader_rules.proofs.TreeText.{as_text, text_kind, line_range, text_law, line_declaration, line_inclusion}
use Rattle.reader_rules.proofs.TreeParagraph.{paragraph_range, paragraph_given, paragraph_axiomatic, paragraph_schema, paragraph_abbreviation}
use Rattle.reader_rules.proofs.TreeParagraph.{paragraph_constraint, document_law}
use Rattle.reader_rules.proofs.TreeNodes.{each_numbered, tree_numbers}
use Rattle.reader_rules.proofs.Crowding.{declared_under, globals_few}

-- where f counts the identifiers of each Decl line, its sum over a Text's nodes is at least the number of those that the Text declares
module _ (doc : List ℕ) (f : ℕ → ℕ) where
  abbrev Counts : ℕ → Type 0
  Counts v = kind_at doc v ≡ 11 → f v ≡ length (drop 2 (part doc v))

  abbrev Covered : Lines → Type 0
  Covered ls = declared_count ls ≤ sum_of f (lines_numbers ls)

  line_covered : (v : ℕ) → At doc lines v → Counts v → (ls : Lines) → Covered ls → Covered (line_at doc v ls)
  unfolding declared_count expr_numbers sum_of
  line_covered v h c ls z =
      let r = line_range doc v h in
      all_at (λ q. kind_at doc v ≡ q → Covered (line_at doc v ls)) 11 2
      ((λ e.
      let l = line_declaration doc v h e _ refl in
      let a = expr_numbers (expr_at doc (operand_at doc v 1)) in
      rw (l.tree ls) (omega (arith, sum_append f (a ++ (v ∷ [])) (lines_numbers ls), sum_append f a (v ∷ []), c e, z)))
      ▹ (λ e. rw (line_inclusion doc v e ls) (omega (arith, sum_append f (include_numbers (include_at doc v)) (lines_numbers ls), z)))
      ▹ tt)
      (kind_at doc v) r.0 (omega arith) refl

  pub text_covered : (s k : ℕ) → At doc s k → kind_at doc k ≡ 10 → ((v : ℕ) → Lower doc k lines v → Counts v) → text_declares (text_at doc k) ≤ sum_of f (numbers_at doc k)
  unfolding text_declares declared_count lines_from expr_numbers sum_of
  text_covered s k h e c =
      let l = text_law doc s k h e _ refl in
      let n = length (part doc k) - 2 in
      let p = pred_numbers (pred_at doc (operand_at doc k 1)) in
      let ls = lines_numbers (lines_from doc k 2 n) in
      let g = gather_keeps Covered (line_at doc) (part doc k) end (omega arith) 2 n
      (λ j a b y z. let o = l.each j a (omega arith) _ refl in line_covered _ o.at (c _ o) y z) in
      rw (← ((each_numbered doc k).text (as_text doc s k h e)), l.tree) (omega (arith, g, sum_append f (p ++ ls) (k ∷ []), sum_append f p ls))

-- 6 identifiers in the Decl lines of one Text
pub text_few : (doc : List ℕ) (s k : ℕ) → At doc s k → kind_at doc k ≡ 10 → text_declares (text_at doc k) ≤ 6
unfolding declared_in
text_few doc s k h e =
    let m = h.most in
    omega (
      arith,
      text_covered doc (λ j. length (declared_in doc k j)) s k h e (λ v l q. rw (q, operand_parent doc k lines v m l, eq-eqb k k refl)),
      declared_under doc (readable doc h.read) k k h.some m,
    )

-- the identifiers that a paragraph writes are written at its nodes
module _ (doc : List ℕ) where
  abbrev names : ℕ → ℕ
  names j = length (globals doc j)

  -- a Decl of the Text that is operand a of the Axiom k
  axiom_decl : (k a v : ℕ) → k ≤ count doc → kind_at doc k ≡ 3 → Lower doc k texts a → Lower doc a lines v → kind_at doc v ≡ 11 → names v ≡ length (drop 2 (part doc v))
  unfolding globals is_axiom_decl
  axiom_decl k a v m e l o q = rw (q, operand_parent doc a lines v l.at.most o, operand_parent doc k texts a m l, e)

  first_word : (w : List ℕ) → 1 < length w → length (take 1 (drop 1 w)) ≡ 1
  first_word [] h = absurd (omega arith)
  first_word (x ∷ []) h = absurd (omega arith)
  first_word (x ∷ (y ∷ ys)) h = refl

  paragraph_covered : (k : ℕ) → At doc paragraphs k → globals_of (paragraph_at doc k) ≤ sum_of names (numbers_at doc k)
  unfolding globals_of paragraph_numbers globals sum_of
  paragraph_covered k h =
      let r = paragraph_range doc k h in
      let m = (each_numbered doc k).paragraph h in
      all_at (λ q. kind_at doc k ≡ q → globals_of (paragraph_at doc k) ≤ sum_of names (numbers_at doc k)) 2 5
      ((λ e.
      let c : names k ≡ length (drop 1 (part doc k)) = rw e in
      rw (← m, paragraph_given doc k h e) (omega (arith, c)))
      ▹ (λ e.
      let l = paragraph_axiomatic doc k h e _ refl in
      let a = operand_at doc k 1 in
      let t = text_covered doc names texts a l.first.at (text_kind doc a l.first.at) (λ v o. axiom_decl k a v h.most e l.first o) in
      let u = (each_numbered doc a).text l.first.at in
      rw (← m, l.tree, u) (omega (arith, t, sum_append names (numbers_at doc a) (k ∷ []))))
      ▹ (λ e. let l = paragraph_schema doc k h e _ _ refl refl in rw l.tree (omega arith))
      ▹ (λ e.
      let l = paragraph_abbreviation doc k h e _ _ refl refl in
      let x = expr_numbers (expr_at doc (operand_at doc k (operand_at doc k 2 + 3))) in
      let n = l.words in
      let c : names k ≡ 1 = rw e (first_word (part doc k) (omega arith)) in
      rw (← m, l.tree) (omega (arith, c, sum_append names x (k ∷ []))))
      ▹ (λ e. let l = paragraph_constraint doc k h e _ refl in rw l.tree (omega arith))
      ▹ tt)
      (kind_at doc k) r.0 (omega arith) refl

  -- 64 identifiers in Given, Axiom Decl and Abbreviation together
  pub globals_counted : read_of doc ≡ Readable → (let n = count doc in global_count (paragraphs_from doc n 1 (length (part doc n) - 1)) ≤ 64)
  unfolding global_count node_numbers paragraphs_numbers paragraphs_from sum_of
  globals_counted r =
      let n = count doc in
      let w = part doc n in
      let l = document_law doc r in
      let ps = paragraphs_from doc n 1 (length w - 1) in
      let g : global_count ps ≤ sum_of names (paragraphs_numbers ps) =
      gather_keeps (λ ps. global_count ps ≤ sum_of names (paragraphs_numbers ps)) (λ j. ◌∷◌ (paragraph_at doc j)) w [] (omega arith) 1 (length w - 1)
      (λ j a b y z.
      let o = l.each j a (omega arith) _ refl in
      let v = operand_at doc n j in
      rw ((each_numbered doc v).paragraph o.at) (omega (arith, paragraph_covered v o.at, sum_append names (numbers_at doc v) (paragraphs_numbers y), z)))
      in
      let t : node_numbers (tree_of doc) ≡ numbers_at doc n = tree_numbers doc r in
      let t' : paragraphs_numbers ps ++ (n ∷ []) ≡ numbers_at doc n = rw l.tree at t in
      let few : sum_of names (numbers_at doc n) ≤ 64 = globals_few doc (readable doc r) in
      let few' : sum_of names (paragraphs_numbers ps ++ (n ∷ [])) ≤ 64 = rw t' few in
      omega (arith, g, few', sum_append names (paragraphs_numbers ps) (n ∷ []))
