-- The names of a readable document, line by line and paragraph by paragraph: how many, and what they put into the table.
use mathlib.Core.Path.{◌≡◌, refl, sym, ap, ◌∙◌}
use mathlib.Core.Bool.{Bool, true, false}
use mathlib.Core.Logic.{⊎_elim}
use mathlib.Core.List.{List, [], ◌∷◌, ◌++◌}
use Prim.Native.Nat.{ℕ, suc, ◌+◌, ◌-◌, ◌≤◌, ◌<◌}
use native.Mathlib.Omega.{arith}
use native.Mathlib.Nat.{eq-or-lt_of_le}
use lib.Dec.{leb, ltb}
use lib.ListN.{length, get_or, drop, length-append, length-drop}
use lib.Seq.{get_or-drop}
use borrow.Author.Tests.{ltb-true}
use Rattle.words.proofs.Loops.{and_left, and_right}
use Rattle.words.proofs.Lists.{drop_next, drop_done}
use Rattle.layout.specs.Layout.{count, part}
use Rattle.reader_rules.specs.Kinds.{cell, count_row, texts, lines, paragraphs}
use Rattle.reader_rules.specs.Nodes.{kind_at, operand_at}
use Rattle.reader_rules.specs.Promise.{At}
use Rattle.reader_rules.specs.Reading.{read_of}
use Rattle.reader_rules.specs.Refusals.{Readable}
use Rattle.reader_rules.specs.Tree.{Lines, end, declaration, inclusion}
use Rattle.reader_rules.specs.Decode.{line_at, lines_from, paragraph_at, paragraphs_from, tree_of}
use Rattle.reader_rules.proofs.Accepted.{readable, last_document, some_words}
use Rattle.reader_rules.proofs.TreeCounts.{at_least, at_most}
use Rattle.reader_rules.proofs.TreeText.{line_range, line_declaration, line_inclusion, text_kind, text_law}
use Rattle.reader_rules.proofs.TreeParagraph.{paragraph_range, paragraph_given, paragraph_axiomatic, paragraph_schema, paragraph_abbreviation, paragraph_constraint, document_law}
use Rattle.reader_rules.proofs.TreeLists.{lines_go, lines_end_lem, paragraphs_go, paragraphs_end}
use Rattle.states_rules.specs.Names.{Name, names_as, line_names, paragraph_names, names_of, document_names}
use Rattle.states.specs.Table.{put_pair, put_names, line_count}

pub as_length : (b : Bool) (xs : List ℕ) → length (names_as b xs) ≡ length xs
unfolding names_as
as_length b [] = refl
as_length b (x ∷ xs) = ap suc (as_length b xs)

-- ---- the operands of a node from the n-th on, as a part of its words
module _ (doc : List ℕ) (k n : ℕ) (u : List ℕ) (e : u ≡ drop n (part doc k)) where
  pub tail_length : length u ≡ length (part doc k) - n
  tail_length = ap length e ∙ length-drop n (part doc k)

  pub tail_inside : (j : ℕ) → j < length u → n + j < length (part doc k)
  tail_inside j l = omega (arith, tail_length)

  pub tail_past : (j : ℕ) → length u ≤ j → length (part doc k) ≤ n + j
  tail_past j l = omega (arith, tail_length)

  pub tail_operand : (j : ℕ) → get_or u j 0 ≡ operand_at doc k (n + j)
  tail_operand j = ap (λ (w : List ℕ). get_or w j 0) e ∙ get_or-drop n (part doc k) j 0

-- ---- lines
module _ (doc : List ℕ) (k : ℕ) (h : At doc lines k) where
  pub decl_words : kind_at doc k ≡ 11 → (2 < length (part doc k)) × (length (part doc k) ≤ 8)
  unfolding cell
  decl_words q = (rw q at (at_least doc lines k h), rw q at (at_most doc lines k h))

  decl_count : kind_at doc k ≡ 11 → (ls : Lines) → length (line_names (line_at doc k ls)) ≡ line_count doc k + length (line_names ls)
  unfolding line_names line_count
  decl_count q ls =
      rw ((line_declaration doc k h q (operand_at doc k 1) refl).tree ls, q)
      (length-append (names_as false (drop 2 (part doc k))) (line_names ls)
      ∙ ap (λ (n : ℕ). n + length (line_names ls)) (as_length false (drop 2 (part doc k)) ∙ length-drop 2 (part doc k)))

  include_count : kind_at doc k ≡ 12 → (ls : Lines) → length (line_names (line_at doc k ls)) ≡ line_count doc k + length (line_names ls)
  unfolding line_names line_count
  include_count q ls = rw (line_inclusion doc k q ls, q) (omega arith)

  pub line_count_lem : (ls : Lines) → length (line_names (line_at doc k ls)) ≡ line_count doc k + length (line_names ls)
  line_count_lem ls =
      let r = line_range doc k h in
      let most = r.1 in
      ⊎_elim (λ e. decl_count (sym e) ls) (λ l. include_count (omega arith) ls) (eq-or-lt_of_le r.0)

-- ---- the lines of a Text, one turn at a time
module _ (doc : List ℕ) (t : ℕ) (h : At doc texts t) where
  pub text_words : (2 ≤ length (part doc t)) × (length (part doc t) ≤ 8)
  unfolding cell
  text_words =
      let q = text_kind doc t h in
      let l : 1 < length (part doc t) = rw q at (at_least doc texts t h) in
      (omega arith, rw q at (at_most doc texts t h))

  pub text_line : (i : ℕ) → 2 ≤ i → i < length (part doc t) → (v : ℕ) → v ≡ operand_at doc t i → At doc lines v
  text_line i p q v e = ((text_law doc texts t h (text_kind doc t h) (operand_at doc t 1) refl).each i p q v e).at

  pub text_go : (i : ℕ) → 2 ≤ i → i < length (part doc t) → (v c : ℕ) → v ≡ operand_at doc t i → c ≡ line_count doc v
      → (let e = length (part doc t) in length (line_names (lines_from doc t i (e - i))) ≡ c + length (line_names (lines_from doc t (i + 1) (e - (i + 1)))))
  text_go i p q v c x y =
      rw (lines_go doc t (length (part doc t)) i q, ← x, y)
      (line_count_lem doc v (text_line i p q v x) _)

  pub text_end : (i e : ℕ) → e ≤ i → length (line_names (lines_from doc t i (e - i))) ≡ 0
  unfolding line_names
  text_end i e p = rw (lines_end_lem doc t e i p)

-- ---- the table
pub put_append : (xs ys : List Name) (state : List ℕ) (k : ℕ) (u : List ℕ)
    → put_names (xs ++ ys) state k u ≡ put_names ys state (k + length xs) (put_names xs state k u)
unfolding put_names
put_append [] ys state k u = let e : k ≡ k + 0 = omega arith in ap (λ (j : ℕ). put_names ys state j u) e
put_append (x ∷ xs) ys state k u =
    let e : k + 1 + length xs ≡ k + suc (length xs) = omega arith in
    put_append xs ys state (k + 1) _ ∙ ap (λ (j : ℕ). put_names ys state j (put_names (x ∷ xs) state k u)) e

-- names that are no givens put nothing
put_others : (xs : List ℕ) (state : List ℕ) (k : ℕ) (u : List ℕ) → put_names (names_as false xs) state k u ≡ u
unfolding put_names names_as
put_others [] state k u = refl
put_others (x ∷ xs) state k u = put_others xs state (k + 1) u

pub put_lines : (ls : Lines) (state : List ℕ) (k : ℕ) (u : List ℕ) → put_names (line_names ls) state k u ≡ u
unfolding line_names put_names
put_lines end state k u = refl
put_lines (declaration n a xs ls) state k u =
    put_append (names_as false xs) (line_names ls) state k u ∙ put_lines ls state (k + length (names_as false xs)) _ ∙ put_others xs state k u
put_lines (inclusion i ls) state k u = put_lines ls state k u

-- a Given's words, one turn at a time
module _ (w state : List ℕ) (n i : ℕ) (u : List ℕ) where
  pub put_go : i < length w → put_names (names_as true (drop i w)) state (n + i) u
      ≡ put_names (names_as true (drop (i + 1) w)) state (n + (i + 1)) (put_pair (get_or w i 0) state (n + i) u)
  unfolding put_names names_as
  put_go h =
      let e : n + i + 1 ≡ n + (i + 1) = omega arith in
      rw (drop_next w i h) (ap (λ (j : ℕ). put_names (names_as true (drop (i + 1) w)) state j (put_pair (get_or w i 0) state (n + i) u)) e)

  pub put_end : length w ≤ i → put_names (names_as true (drop i w)) state (n + i) u ≡ u
  unfolding put_names names_as
  put_end h = rw (drop_done w i h)

-- ---- paragraphs
module _ (doc : List ℕ) (k : ℕ) (h : At doc paragraphs k) where
  pub given_words : kind_at doc k ≡ 2 → (2 ≤ length (part doc k)) × (length (part doc k) ≤ 17)
  unfolding cell
  given_words q =
      let l : 1 < length (part doc k) = rw q at (at_least doc paragraphs k h) in
      (omega arith, rw q at (at_most doc paragraphs k h))

  pub given_names : kind_at doc k ≡ 2 → paragraph_names (paragraph_at doc k) ≡ names_as true (drop 1 (part doc k))
  unfolding paragraph_names
  given_names q = rw (paragraph_given doc k h q)

  pub given_count : kind_at doc k ≡ 2 → length (paragraph_names (paragraph_at doc k)) ≡ length (part doc k) - 1
  given_count q = rw (given_names q) (as_length true (drop 1 (part doc k)) ∙ length-drop 1 (part doc k))

  pub axiom_names : kind_at doc k ≡ 3 → (a : ℕ) → a ≡ operand_at doc k 1
      → At doc texts a × (paragraph_names (paragraph_at doc k) ≡ line_names (lines_from doc a 2 (length (part doc a) - 2)))
  unfolding paragraph_names
  axiom_names q a x =
      let o = paragraph_axiomatic doc k h q a x in
      let t = o.first.at in
      (t, rw (o.tree, (text_law doc texts a t (text_kind doc a t) (operand_at doc a 1) refl).tree))

  none_of_4 : kind_at doc k ≡ 4 → paragraph_names (paragraph_at doc k) ≡ []
  unfolding paragraph_names
  none_of_4 q = rw (paragraph_schema doc k h q (operand_at doc k 2) (operand_at doc k (operand_at doc k 2 + 3)) refl refl).tree

  none_of_5 : kind_at doc k ≡ 5 → paragraph_names (paragraph_at doc k) ≡ []
  unfolding paragraph_names
  none_of_5 q = rw (paragraph_abbreviation doc k h q (operand_at doc k 2) (operand_at doc k (operand_at doc k 2 + 3)) refl refl).tree

  none_of_6 : kind_at doc k ≡ 6 → paragraph_names (paragraph_at doc k) ≡ []
  unfolding paragraph_names
  none_of_6 q = rw (paragraph_constraint doc k h q (operand_at doc k 1) refl).tree

  pub other_names : (kind_at doc k ≡ 2 → ⊥) → (kind_at doc k ≡ 3 → ⊥) → paragraph_names (paragraph_at doc k) ≡ []
  other_names a b =
      let r = paragraph_range doc k h in
      let low = r.0 in
      let most = r.1 in
      let l : 4 ≤ kind_at doc k = omega arith in
      ⊎_elim (λ e. none_of_4 (sym e)) (λ m. ⊎_elim (λ e. none_of_5 (sym e)) (λ n. none_of_6 (omega arith)) (eq-or-lt_of_le m)) (eq-or-lt_of_le l)

-- ---- the document, one turn at a time
module _ (doc : List ℕ) (r : read_of doc ≡ Readable) where
  pub document_words_lem : (1 ≤ length (part doc (count doc))) × (length (part doc (count doc)) ≤ 256)
  unfolding cell
  document_words_lem =
      let d = readable doc r in
      let l = d.nodes.laid in
      let s = d.nodes.node (count doc) l.some (omega arith) in
      let q : kind_at doc (count doc) ≡ 1 = last_document doc d in
      let m = some_words doc (count doc) l l.some (omega arith) in
      let n = length (part doc (count doc)) - 1 in
      let c : ltb n (cell (kind_at doc (count doc)) 1) ≡ true =
      and_right (leb (cell (kind_at doc (count doc)) 0) n) _ (and_left (count_row (kind_at doc (count doc)) n) _ s.counted)
      in
      let b : n < 256 = ltb-true n 256 (rw q at c) in
      (m, omega arith)

  pub document_names_lem : document_names (tree_of doc) ≡ names_of (paragraphs_from doc (count doc) 1 (length (part doc (count doc)) - 1))
  unfolding document_names
  document_names_lem = rw (document_law doc r).tree

  module _ (i : ℕ) (p : 1 ≤ i) (l : i < length (part doc (count doc))) (v : ℕ) (x : v ≡ operand_at doc (count doc) i) where
    pub document_paragraph : At doc paragraphs v
    document_paragraph = ((document_law doc r).each i p l v x).at

    pub document_go : (let e = length (part doc (count doc)) in names_of (paragraphs_from doc (count doc) i (e - i))
        ≡ paragraph_names (paragraph_at doc v) ++ names_of (paragraphs_from doc (count doc) (i + 1) (e - (i + 1))))
    unfolding names_of
    document_go = rw (paragraphs_go doc (count doc) (length (part doc (count doc))) i l, ← x)

    pub document_count : (let e = length (part doc (count doc)) in length (names_of (paragraphs_from doc (count doc) i (e - i)))
        ≡ length (paragraph_names (paragraph_at doc v)) + length (names_of (paragraphs_from doc (count doc) (i + 1) (e - (i + 1)))))
    document_count = rw document_go (length-append (paragraph_names (paragraph_at doc v)) _)

    pub document_put : (state : List ℕ) (n m : ℕ) (u : List ℕ) → m ≡ n + length (paragraph_names (paragraph_at doc v))
        → (let e = length (part doc (count doc)) in put_names (names_of (paragraphs_from doc (count doc) i (e - i))) state (n + 1) u
        ≡ put_names (names_of (paragraphs_from doc (count doc) (i + 1) (e - (i + 1)))) state (m + 1) (put_names (paragraph_names (paragraph_at doc v)) state (n + 1) u))
    document_put state n m u c =
        let f : n + 1 + length (paragraph_names (paragraph_at doc v)) ≡ m + 1 = omega arith in
        let e = length (part doc (count doc)) in
        let rest = names_of (paragraphs_from doc (count doc) (i + 1) (e - (i + 1))) in
        let w = put_names (paragraph_names (paragraph_at doc v)) state (n + 1) u in
        rw document_go (put_append (paragraph_names (paragraph_at doc v)) rest state (n + 1) u ∙ ap (λ (j : ℕ). put_names rest state j w) f)

  pub document_end : (i e : ℕ) → e ≤ i → names_of (paragraphs_from doc (count doc) i (e - i)) ≡ []
  unfolding names_of
  document_end i e p = rw (paragraphs_end doc (count doc) e i p)
