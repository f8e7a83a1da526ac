-- The entry of a name, among words, line by line and paragraph by paragraph.
use mathlib.Core.Path.{◌≡◌, refl, sym, ap, ◌∙◌}
use mathlib.Core.Bool.{Bool, true, false, cond}
use mathlib.Core.Logic.{⊎_elim}
use mathlib.Core.List.{List, [], ◌∷◌, ◌++◌}
use Prim.Native.Nat.{ℕ, suc, ◌+◌, ◌-◌, ◌≤◌, ◌<◌}
use native.Mathlib.Omega.{arith}
use native.Mathlib.Numerals.{add-one}
use native.Mathlib.Nat.{eq-or-lt_of_le}
use lib.Dec.{eqb}
use lib.ListN.{length, get_or, drop, length-drop}
use borrow.Author.Tests.{eq-eqb, ne_eqb}
use Rattle.words.proofs.Lists.{drop_next, drop_done}
use Rattle.layout.specs.Layout.{count, part}
use Rattle.reader_rules.specs.Kinds.{texts, lines}
use Rattle.reader_rules.specs.Nodes.{kind_at, operand_at}
use Rattle.reader_rules.specs.Promise.{At}
use Rattle.reader_rules.specs.Reading.{read_of}
use Rattle.reader_rules.specs.Refusals.{Readable}
use Rattle.reader_rules.specs.Tree.{Lines}
use Rattle.reader_rules.specs.Decode.{line_at, lines_from, paragraph_at, paragraphs_from}
use Rattle.reader_rules.proofs.TreeText.{line_range, line_declaration, line_inclusion}
use Rattle.reader_rules.proofs.TreeLists.{lines_go, lines_end_lem}
use Rattle.states_rules.specs.Names.{Name, names_as, line_names, paragraph_names, names_of}
use Rattle.states_rules.specs.States.{entry_from}
use Rattle.states.specs.Table.{line_count, line_place}
use Rattle.states.proofs.NameLaws.{as_length, text_line, document_go, document_end}

entry_append : (xs ys : List Name) (i k : ℕ) → 1 ≤ k
    → entry_from (xs ++ ys) i k ≡ cond (eqb (entry_from xs i k) 0) (entry_from ys i (k + length xs)) (entry_from xs i k)
unfolding entry_from
entry_append [] ys i k p = let e : k ≡ k + 0 = omega arith in ap (entry_from ys i) e
entry_append (x ∷ xs) ys i k p = go (eqb x.identifier i) (entry_append xs ys i (suc k) (omega arith))
  where
    go : (b : Bool) → entry_from (xs ++ ys) i (suc k) ≡ cond (eqb (entry_from xs i (suc k)) 0) (entry_from ys i (suc k + length xs)) (entry_from xs i (suc k))
        → cond b k (entry_from (xs ++ ys) i (suc k)) ≡ cond (eqb (cond b k (entry_from xs i (suc k))) 0) (entry_from ys i (k + suc (length xs))) (cond b k (entry_from xs i (suc k)))
    go true h = let z : eqb k 0 ≡ false = ne_eqb k 0 (λ e. omega arith) in rw z
    go false h =
        let e : suc k + length xs ≡ k + suc (length xs) = omega arith in
        h ∙ ap (λ (n : ℕ). cond (eqb (entry_from xs i (suc k)) 0) (entry_from ys i n) (entry_from xs i (suc k))) e

module _ (xs ys : List Name) (i k : ℕ) (p : 1 ≤ k) where
  entry_hit : (r : ℕ) → r ≡ entry_from xs i k → (r ≡ 0 → ⊥) → r ≡ entry_from (xs ++ ys) i k
  entry_hit r e z = rw (entry_append xs ys i k p, ← e, ne_eqb r 0 z)

  entry_miss : entry_from xs i k ≡ 0 → entry_from (xs ++ ys) i k ≡ entry_from ys i (k + length xs)
  entry_miss e = entry_append xs ys i k p ∙ rw e

as_any : (b : Bool) (xs : List ℕ) (i k : ℕ) → entry_from (names_as b xs) i k ≡ entry_from (names_as true xs) i k
unfolding entry_from names_as
as_any b [] i k = refl
as_any b (x ∷ xs) i k = ap (cond (eqb x i) k) (as_any b xs i (suc k))

-- among words, one turn at a time
module _ (w : List ℕ) (name i at : ℕ) where
  pub entry_here : i < length w → get_or w i 0 ≡ name → at ≡ entry_from (names_as true (drop i w)) name at
  unfolding entry_from names_as
  entry_here h e = rw (drop_next w i h, eq-eqb (get_or w i 0) name e)

  pub entry_go : i < length w → (get_or w i 0 ≡ name → ⊥) → entry_from (names_as true (drop i w)) name at ≡ entry_from (names_as true (drop (i + 1) w)) name (at + 1)
  unfolding entry_from names_as
  entry_go h e = rw (drop_next w i h, ne_eqb (get_or w i 0) name e, add-one at)

  pub entry_end : length w ≤ i → entry_from (names_as true (drop i w)) name at ≡ 0
  unfolding entry_from names_as
  entry_end h = rw (drop_done w i h)

-- a line's own names
abbrev own_names : List ℕ → ℕ → List Name
own_names doc v = cond (eqb (kind_at doc v) 11) (names_as false (drop 2 (part doc v))) []

own_place : (doc : List ℕ) (v name k : ℕ) → line_place doc v name k ≡ entry_from (own_names doc v) name k
unfolding line_place entry_from
own_place doc v name k = go (eqb (kind_at doc v) 11)
  where
    go : (b : Bool) → cond b (entry_from (names_as true (drop 2 (part doc v))) name k) 0 ≡ entry_from (cond b (names_as false (drop 2 (part doc v))) []) name k
    go true = sym (as_any false (drop 2 (part doc v)) name k)
    go false = refl

own_count : (doc : List ℕ) (v : ℕ) → length (own_names doc v) ≡ line_count doc v
unfolding line_count
own_count doc v = go (eqb (kind_at doc v) 11)
  where
    go : (b : Bool) → length {A = Name} (cond b (names_as false (drop 2 (part doc v))) []) ≡ cond b (length (part doc v) - 2) 0
    go true = as_length false (drop 2 (part doc v)) ∙ length-drop 2 (part doc v)
    go false = refl

module _ (doc : List ℕ) (v : ℕ) (h : At doc lines v) (ls : Lines) where
  own_decl : kind_at doc v ≡ 11 → line_names (line_at doc v ls) ≡ own_names doc v ++ line_names ls
  unfolding line_names
  own_decl q = rw ((line_declaration doc v h q (operand_at doc v 1) refl).tree ls, q)

  own_include : kind_at doc v ≡ 12 → line_names (line_at doc v ls) ≡ own_names doc v ++ line_names ls
  unfolding line_names
  own_include q = rw (line_inclusion doc v q ls, q)

  own_line : line_names (line_at doc v ls) ≡ own_names doc v ++ line_names ls
  own_line =
      let r = line_range doc v h in
      let most = r.1 in
      ⊎_elim (λ e. own_decl (sym e)) (λ l. own_include (omega arith)) (eq-or-lt_of_le r.0)

-- the lines of a Text, one turn at a time
module _ (doc : List ℕ) (t : ℕ) (h : At doc texts t) (i : ℕ) (p : 2 ≤ i) (q : i < length (part doc t)) (v : ℕ) (x : v ≡ operand_at doc t i) (name k : ℕ) (s : 1 ≤ k) where
  names_go : (let e = length (part doc t) in line_names (lines_from doc t i (e - i)) ≡ own_names doc v ++ line_names (lines_from doc t (i + 1) (e - (i + 1))))
  names_go = rw (lines_go doc t (length (part doc t)) i q, ← x) (own_line doc v (text_line doc t h i p q v x) _)

  pub text_hit : (r : ℕ) → r ≡ line_place doc v name k → (r ≡ 0 → ⊥) → r ≡ entry_from (line_names (lines_from doc t i (length (part doc t) - i))) name k
  text_hit r y z = rw names_go (entry_hit (own_names doc v) _ name k s r (y ∙ own_place doc v name k) z)

  pub text_miss : line_place doc v name k ≡ 0 → (c : ℕ) → c ≡ line_count doc v
      → (let e = length (part doc t) in entry_from (line_names (lines_from doc t i (e - i))) name k ≡ entry_from (line_names (lines_from doc t (i + 1) (e - (i + 1)))) name (k + c))
  text_miss y c z =
      let e = length (part doc t) in
      let rest = line_names (lines_from doc t (i + 1) (e - (i + 1))) in
      rw names_go (entry_miss (own_names doc v) rest name k s (sym (own_place doc v name k) ∙ y) ∙ ap (λ (n : ℕ). entry_from rest name (k + n)) (own_count doc v ∙ sym z))

pub text_none : (doc : List ℕ) (t i e name k : ℕ) → e ≤ i → entry_from (line_names (lines_from doc t i (e - i))) name k ≡ 0
unfolding entry_from line_names
text_none doc t i e name k h = rw (lines_end_lem doc t e i h)

-- the paragraphs, one turn at a time
module _ (doc : List ℕ) (r : read_of doc ≡ Readable) (i : ℕ) (p : 1 ≤ i) (l : i < length (part doc (count doc))) (v : ℕ) (x : v ≡ operand_at doc (count doc) i) (name k : ℕ) (s : 1 ≤ k) where
  pub document_hit : (m : ℕ) → m ≡ entry_from (paragraph_names (paragraph_at doc v)) name k → (m ≡ 0 → ⊥)
      → m ≡ entry_from (names_of (paragraphs_from doc (count doc) i (length (part doc (count doc)) - i))) name k
  document_hit m y z = rw (document_go doc r i p l v x) (entry_hit (paragraph_names (paragraph_at doc v)) _ name k s m y z)

  pub document_miss : entry_from (paragraph_names (paragraph_at doc v)) name k ≡ 0 → (c : ℕ) → c ≡ length (paragraph_names (paragraph_at doc v))
      → (let e = length (part doc (count doc)) in entry_from (names_of (paragraphs_from doc (count doc) i (e - i))) name k
      ≡ entry_from (names_of (paragraphs_from doc (count doc) (i + 1) (e - (i + 1)))) name (k + c))
  document_miss y c z = rw (document_go doc r i p l v x, z) (entry_miss (paragraph_names (paragraph_at doc v)) _ name k s y)

pub document_none : (doc : List ℕ) → read_of doc ≡ Readable → (i e name k : ℕ) → e ≤ i → entry_from (names_of (paragraphs_from doc (count doc) i (e - i))) name k ≡ 0
unfolding entry_from
document_none doc r i e name k h = rw (document_end doc r i e h)
