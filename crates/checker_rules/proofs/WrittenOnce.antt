-- By 16 no two paragraphs of a readable document write the same identifier.
use mathlib.Core.Path.{◌≡◌, refl, sym, ap, subst, ◌∙◌}
use mathlib.Core.Bool.{Bool, true, false, ◌||◌, cond, not, false≢true}
use mathlib.Core.List.{List, [], ◌∷◌, ◌++◌, append_assoc}
use mathlib.Core.Logic.{◌⊎◌, inl, inr}
use Prim.Native.Nat.{ℕ, ◌-◌, ◌≤◌, ◌<◌}
use native.Mathlib.Omega.{arith}
use lib.Dec.{eqb, ltb}
use lib.ListN.{length, get_or, drop}
use borrow.Author.Tests.{eqb-true, eq-eqb, ne_eqb, ltb-true, ltb-false}
use Rattle.words.specs.Loops.{joined, has, occurrences}
use Rattle.words.proofs.Loops.{and_left, and_right}
use Rattle.words.proofs.Lists.{has_append, occurrences_append, has_joined, some_true, has_once, drop_next}
use Rattle.layout.specs.Layout.{count, part}
use Rattle.reader_rules.specs.Kinds.{cell, sort_in, is_node_sort, between, texts, lines, paragraphs}
use Rattle.reader_rules.specs.Nodes.{kind_at, operand_at, children, parent}
use Rattle.reader_rules.specs.Repeats.{fresh, is_axiom_decl, globals as globalsAt, repeats, repeat_number}
use Rattle.reader_rules.specs.Reading.{read_of}
use Rattle.reader_rules.specs.Refusals.{Readable}
use Rattle.reader_rules.specs.Promise.{At, Lower}
use Rattle.reader_rules.specs.Tree.{Expr, Pred, Lines, end, declaration, inclusion, Text, text, Include, Schema, Paragraph, given, axiomatic, schema}
use Rattle.reader_rules.specs.Tree.{abbreviation, constraint, Document as Tree, document}
use Rattle.reader_rules.specs.TreeNumbers.{expr_numbers, pred_numbers, lines_numbers, text_numbers, include_numbers, paragraph_numbers, paragraphs_numbers, node_numbers}
use Rattle.reader_rules.specs.Decode.{expr_at, pred_at, text_at, include_at, line_at, paragraph_at, lines_from, paragraphs_from, tree_of}
use Rattle.reader_rules.proofs.Accepted.{Document, readable, used_once}
use Rattle.reader_rules.proofs.Operands.{cond_same}
use Rattle.reader_rules.proofs.Parents.{place_child, parent_only}
use Rattle.reader_rules.proofs.Scan.{cond_off}
use Rattle.reader_rules.proofs.TreeAmong.{same_sort}
use Rattle.reader_rules.proofs.TreeCounts.{at_least}
use Rattle.reader_rules.proofs.TreeShape.{all_at, ◌▹◌, gather_keeps}
use Rattle.reader_rules.proofs.TreeText.{line_range, text_kind, text_law, line_declaration, line_inclusion}
use Rattle.reader_rules.proofs.TreeParagraph.{paragraph_range, paragraph_given, paragraph_axiomatic, paragraph_schema, paragraph_abbreviation}
use Rattle.reader_rules.proofs.TreeParagraph.{paragraph_constraint, document_law}
use Rattle.reader_rules.proofs.TreeNodes.{each_node_once}
use Rattle.checker_rules.specs.Dictionary.{Dictionary}
use Rattle.checker_rules.specs.Scopes.{Scope, globals}
use Rattle.checker_rules.specs.Entries.{extend}
use Rattle.checker_rules.specs.Globals.{written, included, LinesDeclare, TextDeclares, Declares, History, paragraphs_in, Earlier}
use Rattle.checker_rules.specs.Check.{paragraphs_of}
use Rattle.checker_rules.proofs.GlobalNames.{or_side}

-- 16: two different nodes write different identifiers.
fresh_apart : (i : ℕ) (xs ws : List ℕ) → fresh ws xs ≡ true → has i xs ≡ true → has i ws ≡ false
unfolding fresh has
fresh_apart i [] ws f h = absurd (false≢true h)
fresh_apart i (x ∷ xs) ws f h = go (λ k. fresh_apart i xs (x ∷ ws) (and_right (not (has x ws)) _ f) k) (or_side (eqb x i) (has i xs) h)
  where
    off : (b : Bool) → not b ≡ true → b ≡ false
    off true e = absurd (false≢true e)
    off false e = refl

    second : (a b : Bool) → (a || b) ≡ false → b ≡ false
    second true b e = absurd (false≢true (sym e))
    second false b e = e

    go : (has i xs ≡ true → has i (x ∷ ws) ≡ false) → (eqb x i ≡ true) ⊎ (has i xs ≡ true) → has i ws ≡ false
    go k (inl e) = subst (λ (y : ℕ). has y ws ≡ false) (eqb-true x i e) (off (has x ws) (and_left (not (has x ws)) _ f))
    go k (inr e) = second (eqb x i) (has i ws) (unfold has in k e)

no_repeat : (a b : Bool) → (not a || b) ≡ false → a ≡ true
no_repeat true b e = refl
no_repeat false b e = absurd (false≢true (sym e))

apart : (doc : List ℕ) → Document doc → (i j k : ℕ) → 1 ≤ j → j < k → k ≤ count doc → has i (globalsAt doc j) ≡ true → has i (globalsAt doc k) ≡ true → ⊥
unfolding repeat_number
apart doc d i j k p q r hj hk =
    let e = (cond_off (repeats doc k) 16 0 (omega arith) (d.unrepeated k (omega arith) r)).0 in
    let f = fresh_apart i (globalsAt doc k) (joined (globalsAt doc) 1 (k - 1)) (no_repeat (fresh (joined (globalsAt doc) 1 (k - 1)) (globalsAt doc k)) _ e) hk in
    let h = has_joined i (globalsAt doc) 1 (k - 1) ∙ some_true (λ m. has i (globalsAt doc m)) 1 (k - 1) j p (omega arith) hj in
    false≢true (sym f ∙ h)

-- An identifier that is written at the node m of a piece of the tree, whose numbers are l.
pub record WrittenAt (doc : List ℕ) (l : List ℕ) (m i : ℕ) : Type 0 where
  pub some : 1 ≤ m
  pub most : m ≤ count doc
  pub node : has m l ≡ true
  pub word : has i (globalsAt doc m) ≡ true

more_left : (doc a b : List ℕ) (m i : ℕ) → WrittenAt doc a m i → WrittenAt doc (a ++ b) m i
more_left doc a b m i h = record { some = h.some; most = h.most; node = has_append m a b ∙ left (has m a) h.node; word = h.word }
  where
    left : (x : Bool) → x ≡ true → (x || has m b) ≡ true
    left true e = refl
    left false e = absurd (false≢true e)

more_right : (doc a b : List ℕ) (m i : ℕ) → WrittenAt doc b m i → WrittenAt doc (a ++ b) m i
more_right doc a b m i h = record { some = h.some; most = h.most; node = has_append m a b ∙ right (has m a) h.node; word = h.word }
  where
    right : (x : Bool) → has m b ≡ true → (x || has m b) ≡ true
    right true e = refl
    right false e = e

-- What the lines of a Text, and a paragraph, write.
abbrev LinesWrite : List ℕ → Lines → Type 0
LinesWrite doc ls = (Γ : Scope) (m i : ℕ) → LinesDeclare ls Γ m i written → WrittenAt doc (lines_numbers ls) m i

abbrev Writes : List ℕ → Paragraph → Type 0
Writes doc p = (D : Dictionary) (m i : ℕ) → Declares p D m i written → WrittenAt doc (paragraph_numbers p) m i

not_included : written ≡ included → ⊥
not_included e = let z : ◌≡◌ {A = ℕ} 0 1 = cc in omega arith

self : (k : ℕ) (l : List ℕ) → has k (l ++ (k ∷ [])) ≡ true
unfolding has
self k l = has_append k l (k ∷ []) ∙ go (has k l) (eqb k k) (eq-eqb k k refl)
  where
    go : (a b : Bool) → b ≡ true → (a || (b || false)) ≡ true
    go true b e = refl
    go false true e = refl
    go false false e = absurd (false≢true e)

decl_line : (doc : List ℕ) (v : ℕ) (a : Expr) (is : List ℕ) (ls : Lines) → 1 ≤ v → v ≤ count doc → globalsAt doc v ≡ is → LinesWrite doc ls
    → LinesWrite doc (declaration v a is ls)
unfolding LinesDeclare expr_numbers
decl_line doc v a is ls p q g z Γ m i (inl h) =
    subst (λ (y : ℕ). WrittenAt doc ((expr_numbers a ++ (v ∷ [])) ++ lines_numbers ls) y i) (sym h.0)
    (more_left doc (expr_numbers a ++ (v ∷ [])) (lines_numbers ls) v i (record { some = p; most = q; node = self v (expr_numbers a); word = ap (has i) g ∙ h.1 }))
decl_line doc v a is ls p q g z Γ m i (inr h) = more_right doc (expr_numbers a ++ (v ∷ [])) (lines_numbers ls) m i (z Γ m i h)

incl_line : (doc : List ℕ) (x : Include) (ls : Lines) → LinesWrite doc ls → LinesWrite doc (inclusion x ls)
unfolding LinesDeclare expr_numbers
incl_line doc x ls z Γ m i (inl h) = absurd (not_included h.2)
incl_line doc x ls z Γ m i (inr h) = more_right doc (include_numbers x) (lines_numbers ls) m i (z Γ m i h)

abbrev TextWrites : List ℕ → Text → Type 0
TextWrites doc t = (Γ : Scope) (m i : ℕ) → TextDeclares t Γ m i written → WrittenAt doc (text_numbers t) m i

text_lines : (doc : List ℕ) (n : ℕ) (p : Pred) (ls : Lines) → LinesWrite doc ls → TextWrites doc (text n p ls)
unfolding TextDeclares expr_numbers
text_lines doc n p ls z Γ m i h =
    more_left doc (pred_numbers p ++ lines_numbers ls) (n ∷ []) m i (more_right doc (pred_numbers p) (lines_numbers ls) m i (z Γ m i h))

no_lines : (doc : List ℕ) → LinesWrite doc end
unfolding LinesDeclare
no_lines doc Γ m i h = absurd h

module _ (doc : List ℕ) (r : read_of doc ≡ Readable) where
  -- A Decl v that is a line of the Text t of the Axiom q writes its identifiers.
  decl_writes : (q t v j : ℕ) → kind_at doc q ≡ 3 → At doc paragraphs q → Lower doc q texts t → t ≡ operand_at doc q 1 → 2 ≤ j → j < length (part doc t)
      → Lower doc t lines v → v ≡ operand_at doc t j → kind_at doc v ≡ 11 → globalsAt doc v ≡ drop 2 (part doc v)
  unfolding globalsAt is_axiom_decl cell sort_in
  decl_writes q t v j eq hq lt et a b lv ev ek =
      let d = readable doc r in
      let w = part doc t in
      let x = part doc q in
      let m : 1 < length x = rw eq at (at_least doc paragraphs q hq) in
      let kt = text_kind doc t lt.at in
      let cq : has (get_or x 1 0) (children doc q) ≡ true = place_child doc q 1 (omega arith) m (rw eq (ap is_node_sort (cond_same (eqb 1 (length x - 1)) texts))) in
      let ct : has (get_or w j 0) (children doc t) ≡ true =
      place_child doc t j (omega arith) b (rw (kt, ne_eqb j 1 (omega arith)) (ap is_node_sort (same_sort (eqb j (length w - 1)) false (eqb j 2) lines))) in
      let pv : parent doc v ≡ t =
      parent_only doc v (used_once doc d v lv.at.some (omega (arith, lv.below, lt.at.most, lt.below, hq.most))) t lt.at.some lt.at.most
      (subst (λ (y : ℕ). has y (children doc t) ≡ true) (sym ev) ct) in
      let pt : parent doc t ≡ q =
      parent_only doc t (used_once doc d t lt.at.some (omega (arith, lt.below, hq.most))) q hq.some hq.most
      (subst (λ (y : ℕ). has y (children doc q) ≡ true) (sym et) cq) in
      rw (ek, pv, pt, eq)

  one_line : (q t : ℕ) → kind_at doc q ≡ 3 → At doc paragraphs q → Lower doc q texts t → t ≡ operand_at doc q 1 → (j : ℕ) → 2 ≤ j → j < length (part doc t) → (v : ℕ)
      → v ≡ operand_at doc t j → Lower doc t lines v → (ls : Lines) → LinesWrite doc ls → LinesWrite doc (line_at doc v ls)
  one_line q t eq hq lt et j a b v ev lv ls z =
      let k = line_range doc v lv.at in
      all_at (λ c. kind_at doc v ≡ c → LinesWrite doc (line_at doc v ls)) 11 2
      ((λ e.
      let o = line_declaration doc v lv.at e _ refl in
      subst (LinesWrite doc) (sym (o.tree ls))
      (decl_line doc v (expr_at doc (operand_at doc v 1)) (drop 2 (part doc v)) ls lv.at.some lv.at.most (decl_writes q t v j eq hq lt et a b lv ev e) z))
      ▹ (λ e. subst (LinesWrite doc) (sym (line_inclusion doc v e ls)) (incl_line doc (include_at doc v) ls z))
      ▹ tt)
      (kind_at doc v) k.0 (omega (arith, k.1)) refl

  text_writes : (q t : ℕ) → kind_at doc q ≡ 3 → At doc paragraphs q → Lower doc q texts t → t ≡ operand_at doc q 1 → TextWrites doc (text_at doc t)
  unfolding lines_from
  text_writes q t eq hq lt et =
      let l = text_law doc texts t lt.at (text_kind doc t lt.at) _ refl in
      let w = part doc t in
      let n = length w - 2 in
      subst (TextWrites doc) (sym l.tree)
      (text_lines doc t (pred_at doc (operand_at doc t 1)) (lines_from doc t 2 n)
      (gather_keeps (LinesWrite doc) (line_at doc) w end (no_lines doc) 2 n (λ j a b y z. one_line q t eq hq lt et j a (omega arith) _ refl (l.each j a (omega arith) _ refl) y z)))

  given_writes : (q : ℕ) → At doc paragraphs q → kind_at doc q ≡ 2 → Writes doc (given q (drop 1 (part doc q)))
  unfolding Declares paragraph_numbers globalsAt has
  given_writes q hq e D m i h =
      subst (λ (y : ℕ). WrittenAt doc (q ∷ []) y i) (sym h.0)
      (record { some = hq.some; most = hq.most; node = self q []; word = rw e h.1 })

  abbreviation_writes : (q : ℕ) (ps : List ℕ) (a : Expr) → At doc paragraphs q → kind_at doc q ≡ 5 → Writes doc (abbreviation q (operand_at doc q 1) ps a)
  unfolding Declares paragraph_numbers globalsAt cell has
  abbreviation_writes q ps a hq e D m i h =
      let n : 3 < length (part doc q) = rw e at (at_least doc paragraphs q hq) in
      let k : eqb (get_or (part doc q) 1 0) i ≡ true = eq-eqb (get_or (part doc q) 1 0) i h.1 in
      subst (λ (y : ℕ). WrittenAt doc (expr_numbers a ++ (q ∷ [])) y i) (sym h.0)
      (record { some = hq.some; most = hq.most; node = self q (expr_numbers a); word = rw (e, drop_next (part doc q) 1 (omega arith), k) refl })

  axiom_writes : (q t : ℕ) → kind_at doc q ≡ 3 → At doc paragraphs q → Lower doc q texts t → t ≡ operand_at doc q 1 → Writes doc (axiomatic q (text_at doc t))
  unfolding Declares paragraph_numbers
  axiom_writes q t eq hq lt et D m i h = more_left doc (text_numbers (text_at doc t)) (q ∷ []) m i (text_writes q t eq hq lt et (globals D) m i h)

  schema_writes : (q s : ℕ) (ps : List ℕ) (x : Schema) → Writes doc (schema q s ps x)
  unfolding Declares
  schema_writes q s ps x D m i h = absurd h

  constraint_writes : (q : ℕ) (p : Pred) → Writes doc (constraint q p)
  unfolding Declares
  constraint_writes q p D m i h = absurd h

  paragraph_writes : (q : ℕ) → At doc paragraphs q → Writes doc (paragraph_at doc q)
  paragraph_writes q h =
      let k = paragraph_range doc q h in
      all_at (λ c. kind_at doc q ≡ c → Writes doc (paragraph_at doc q)) 2 5
      ((λ e. subst (Writes doc) (sym (paragraph_given doc q h e)) (given_writes q h e))
      ▹ (λ e. let l = paragraph_axiomatic doc q h e _ refl in subst (Writes doc) (sym l.tree) (axiom_writes q (operand_at doc q 1) e h l.first refl))
      ▹ (λ e. let l = paragraph_schema doc q h e _ _ refl refl in subst (Writes doc) (sym l.tree) (schema_writes q (operand_at doc q 1) _ _))
      ▹ (λ e. let l = paragraph_abbreviation doc q h e _ _ refl refl in subst (Writes doc) (sym l.tree) (abbreviation_writes q _ _ h e))
      ▹ (λ e. let l = paragraph_constraint doc q h e _ refl in subst (Writes doc) (sym l.tree) (constraint_writes q _))
      ▹ tt)
      (kind_at doc q) k.0 (omega (arith, k.1)) refl

-- Each paragraph of the document writes at nodes of its own.
unfoldable AllWrite : List ℕ → List Paragraph → Type 0
AllWrite doc [] = Unit {0}
AllWrite doc (p ∷ ps) = Writes doc p × AllWrite doc ps

document_writes : (doc : List ℕ) → read_of doc ≡ Readable → AllWrite doc (paragraphs_of (tree_of doc))
unfolding paragraphs_of paragraphs_from AllWrite
document_writes doc r =
    let N = count doc in
    let w = part doc N in
    let l = document_law doc r in
    rw l.tree (gather_keeps (AllWrite doc) (λ j. ◌∷◌ (paragraph_at doc j)) w [] tt 1 (length w - 1)
    (λ j p q y z. let o = l.each j p (omega arith) _ refl in (paragraph_writes doc r _ o.at, z)))

split_write : (doc : List ℕ) (a b : List Paragraph) → AllWrite doc (a ++ b) → AllWrite doc a × AllWrite doc b
unfolding AllWrite
split_write doc [] b h = (tt, h)
split_write doc (p ∷ a) b h = let k = split_write doc a b h.1 in ((h.0, k.0), k.1)

paragraphs_append : (a b : List Paragraph) → paragraphs_numbers (a ++ b) ≡ paragraphs_numbers a ++ paragraphs_numbers b
unfolding paragraphs_numbers
paragraphs_append [] b = refl
paragraphs_append (p ∷ a) b = ap (λ (l : List ℕ). paragraph_numbers p ++ l) (paragraphs_append a b) ∙ sym (append_assoc (paragraph_numbers p) (paragraphs_numbers a) (paragraphs_numbers b))

-- An identifier that an earlier paragraph has written, at a node of one of these paragraphs.
earlier_writes : (doc : List ℕ) (hs : History) (D : Dictionary) (i : ℕ) → AllWrite doc (paragraphs_in hs) → Earlier hs D i written
    → (m : ℕ) × WrittenAt doc (paragraphs_numbers (paragraphs_in hs)) m i
unfolding Earlier paragraphs_in paragraphs_numbers AllWrite
earlier_writes doc [] D i w e = absurd e
earlier_writes doc (h ∷ hs) D i w (inl e) =
    (e.0, more_left doc (paragraph_numbers h.0) (paragraphs_numbers (paragraphs_in hs)) e.0 i (w.0 D e.0 i e.1))
earlier_writes doc (h ∷ hs) D i w (inr e) =
    let k = earlier_writes doc hs (extend h.0 D h.1) i w.1 e in
    (k.0, more_right doc (paragraph_numbers h.0) (paragraphs_numbers (paragraphs_in hs)) k.0 i k.1)

few : (b : Bool) → cond b 1 0 ≤ 1
few true = omega arith
few false = omega arith

fewer : (t : Tree) (k : ℕ) (b : Bool) → occurrences k (node_numbers t) ≡ cond b 1 0 → occurrences k (paragraphs_numbers (paragraphs_of t)) ≤ 1
unfolding node_numbers paragraphs_of
fewer (document n ps) k b e =
    let f = occurrences_append k (paragraphs_numbers ps) (n ∷ []) in
    let g = few b in
    omega (arith, e, f, g)

pub paragraphs_once : (doc : List ℕ) → read_of doc ≡ Readable → (k : ℕ) → occurrences k (paragraphs_numbers (paragraphs_of (tree_of doc))) ≤ 1
paragraphs_once doc r k = fewer (tree_of doc) k (between 1 k (count doc)) (each_node_once doc r k)

-- No identifier is written by two paragraphs.
pub written_once : (doc : List ℕ) → read_of doc ≡ Readable → (before : History) (p : Paragraph) (after : List Paragraph)
    → paragraphs_of (tree_of doc) ≡ paragraphs_in before ++ (p ∷ after) → (D E : Dictionary) (m i : ℕ) → Declares p D m i written → Earlier before E i written → ⊥
unfolding AllWrite
written_once doc r before p after e D E m i h k =
    let w = split_write doc (paragraphs_in before) (p ∷ after) (subst (AllWrite doc) e (document_writes doc r)) in
    let a = earlier_writes doc before E i w.0 k in
    let b = w.1.0 D m i h in
    go a.0 a.1 b (ltb a.0 m) refl (ltb m a.0) refl
  where
    go : (l : ℕ) → WrittenAt doc (paragraphs_numbers (paragraphs_in before)) l i → WrittenAt doc (paragraph_numbers p) m i → (x : Bool) → ltb l m ≡ x → (y : Bool) → ltb m l ≡ y → ⊥
    go l a b true x y q = apart doc (readable doc r) i l m a.some (ltb-true l m x) b.most a.word b.word
    go l a b false x true y = apart doc (readable doc r) i m l b.some (ltb-true m l y) a.most b.word a.word
    go l a b false x false y =
        let s : l ≡ m = omega (arith, ltb-false l m x, ltb-false m l y) in
        let n = paragraphs_once doc r m in
        let u : 1 ≤ occurrences m (paragraphs_numbers (paragraphs_in before)) = has_once m (paragraphs_numbers (paragraphs_in before)) (subst (λ (z : ℕ). has z (paragraphs_numbers (paragraphs_in before)) ≡ true) s a.node) in
        let v : 1 ≤ occurrences m (paragraph_numbers p) = has_once m (paragraph_numbers p) b.node in
        let c : paragraphs_numbers (paragraphs_of (tree_of doc)) ≡ paragraphs_numbers (paragraphs_in before) ++ paragraphs_numbers (p ∷ after) =
        ap paragraphs_numbers e ∙ paragraphs_append (paragraphs_in before) (p ∷ after) in
        let f : paragraphs_numbers (p ∷ after) ≡ paragraph_numbers p ++ paragraphs_numbers after = unfold paragraphs_numbers in refl in
        omega (
          arith,
          n,
          u,
          v,
          ap (occurrences m) c,
          occurrences_append m (paragraphs_numbers (paragraphs_in before)) (paragraphs_numbers (p ∷ after)),
          ap (occurrences m) f,
          occurrences_append m (paragraph_numbers p) (paragraphs_numbers after),
        )
