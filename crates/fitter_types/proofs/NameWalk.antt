-- A name by its number, through lines and paragraphs.
use mathlib.Core.Path.{◌≡◌, refl, sym, ap, ◌∙◌}
use mathlib.Core.Bool.{Bool, true, false, cond}
use mathlib.Core.Logic.{⊎_elim}
use mathlib.Core.List.{List, [], ◌∷◌, ◌++◌}
use Prim.Native.Nat.{ℕ, zero, suc, ◌+◌, ◌-◌, ◌≤◌, ◌<◌}
use Rattle.std.specs.Prelude.{Some, None}
use native.Mathlib.Omega.{arith}
use native.Mathlib.Nat.{eq-or-lt_of_le}
use lib.Dec.{eqb}
use borrow.Author.Tests.{eqb-true, eqb-false}
use lib.ListN.{length, get_or, drop, length-drop, get_or-append}
use lib.Seq.{get_or-append-add, get_or-drop}
use Rattle.layout.specs.Layout.{count, part}
use Rattle.reader_rules.specs.Kinds.{texts, lines, paragraphs}
use Rattle.reader_rules.specs.Nodes.{kind_at, operand_at}
use Rattle.reader_rules.specs.Promise.{At}
use Rattle.reader_rules.specs.Reading.{read_of}
use Rattle.reader_rules.specs.Refusals.{Readable}
use Rattle.reader_rules.specs.Tree.{Lines, end, declaration, inclusion}
use Rattle.reader_rules.specs.Decode.{line_at, lines_from, paragraph_at, paragraphs_from}
use Rattle.reader_rules.proofs.TreeText.{line_range, line_declaration, line_inclusion}
use Rattle.reader_rules.proofs.TreeLists.{lines_go, lines_end_lem}
use Rattle.states_rules.specs.Names.{nobody, Name, names_as, line_names, paragraph_names, names_of}
use Rattle.states.specs.Table.{line_count}
use Rattle.states.proofs.NameLaws.{as_length, text_line, given_names, axiom_names, other_names, document_go, document_end}
use Rattle.fitter_types.specs.Roles.{identifier_at, role_of}

-- ---- in a list after another
first_list : (xs ys : List Name) (j : ℕ) → j < length xs → get_or (xs ++ ys) j nobody ≡ get_or xs j nobody
first_list xs ys j h = get_or-append xs ys nobody j h

later_list : (xs ys : List Name) (j : ℕ) → length xs ≤ j → get_or (xs ++ ys) j nobody ≡ get_or ys (j - length xs) nobody
later_list xs ys j h =
    let e : j ≡ length xs + (j - length xs) = omega arith in
    ap (λ (n : ℕ). get_or (xs ++ ys) n nobody) e ∙ get_or-append-add xs ys (j - length xs) nobody

as_identifier : (b : Bool) (xs : List ℕ) (j : ℕ) → identifier_at (names_as b xs) j ≡ get_or xs j 0
unfolding names_as
as_identifier b [] zero = refl
as_identifier b [] (suc j) = refl
as_identifier b (x ∷ xs) zero = refl
as_identifier b (x ∷ xs) (suc j) = as_identifier b xs j

as_given : (xs : List ℕ) (j : ℕ) → j < length (names_as true xs) → (get_or (names_as true xs) j nobody).is_given ≡ true
unfolding names_as
as_given [] j h = absurd (omega arith)
as_given (x ∷ xs) zero h = refl
as_given (x ∷ xs) (suc j) h = as_given xs j (omega arith)

-- ---- no name of a line is a given
plain_before : (xs : List ℕ) (ys : List Name) → ((j : ℕ) → (get_or ys j nobody).is_given ≡ false) → (j : ℕ) → (get_or (names_as false xs ++ ys) j nobody).is_given ≡ false
unfolding names_as
plain_before [] ys h j = h j
plain_before (x ∷ xs) ys h zero = refl
plain_before (x ∷ xs) ys h (suc j) = plain_before xs ys h j

lines_plain : (ls : Lines) (j : ℕ) → (get_or (line_names ls) j nobody).is_given ≡ false
unfolding line_names
lines_plain end zero = refl
lines_plain end (suc j) = refl
lines_plain (declaration n a xs ls) j = plain_before xs (line_names ls) (lines_plain ls) j
lines_plain (inclusion i ls) j = lines_plain ls j

-- ---- a line's own names
module _ (doc : List ℕ) (v : ℕ) (h : At doc lines v) (ls : Lines) (j : ℕ) where
  declared : kind_at doc v ≡ 11 → line_names (line_at doc v ls) ≡ names_as false (drop 2 (part doc v)) ++ line_names ls
  unfolding line_names
  declared q = rw ((line_declaration doc v h q (operand_at doc v 1) refl).tree ls)

  included : kind_at doc v ≡ 12 → line_names (line_at doc v ls) ≡ line_names ls
  unfolding line_names
  included q = rw (line_inclusion doc v q ls)

  declared_count_lem : kind_at doc v ≡ 11 → line_count doc v ≡ length (names_as false (drop 2 (part doc v)))
  unfolding line_count
  declared_count_lem q = rw q (sym (as_length false (drop 2 (part doc v)) ∙ length-drop 2 (part doc v)))

  included_count : kind_at doc v ≡ 12 → line_count doc v ≡ 0
  unfolding line_count
  included_count q = rw q refl

  kinds : {A : Type 0} → (kind_at doc v ≡ 11 → A) → (kind_at doc v ≡ 12 → A) → A
  kinds f g =
      let r = line_range doc v h in
      let most = r.1 in
      ⊎_elim (λ e. f (sym e)) (λ l. g (omega arith)) (eq-or-lt_of_le r.0)

  line_here : j < line_count doc v → operand_at doc v (2 + j) ≡ identifier_at (line_names (line_at doc v ls)) j
  line_here l =
      let own = names_as false (drop 2 (part doc v)) in
      kinds
      (λ q. let c = declared_count_lem q in
      sym (get_or-drop 2 (part doc v) j 0) ∙ sym (as_identifier false (drop 2 (part doc v)) j) ∙ ap (λ (m : Name). m.identifier) (sym (first_list own (line_names ls) j (omega arith)))
      ∙ ap (λ (ns : List Name). identifier_at ns j) (sym (declared q)))
      (λ q. let c = included_count q in absurd (omega arith))

  line_past : line_count doc v ≤ j → get_or (line_names (line_at doc v ls)) j nobody ≡ get_or (line_names ls) (j - line_count doc v) nobody
  line_past l =
      let own = names_as false (drop 2 (part doc v)) in
      kinds
      (λ q. let c = declared_count_lem q in rw (declared q, c) (later_list own (line_names ls) j (omega arith)))
      (λ q. let c = included_count q in let z : j - line_count doc v ≡ j = omega arith in rw (included q, z) refl)

-- ---- the lines of a Text, one turn at a time
module _ (doc : List ℕ) (t : ℕ) (h : At doc texts t) (i : ℕ) (p : 2 ≤ i) (q : i < length (part doc t)) (v : ℕ) (x : v ≡ operand_at doc t i) (n : ℕ) (c : n ≡ line_count doc v) (j : ℕ) where
  pub text_here : j < n → operand_at doc v (2 + j) ≡ identifier_at (line_names (lines_from doc t i (length (part doc t) - i))) j
  text_here l = rw (lines_go doc t (length (part doc t)) i q, ← x) (line_here doc v (text_line doc t h i p q v x) _ j (omega arith))

  pub text_past : n ≤ j → (let e = length (part doc t) in identifier_at (line_names (lines_from doc t i (e - i))) j ≡ identifier_at (line_names (lines_from doc t (i + 1) (e - (i + 1)))) (j - n))
  text_past l = rw (lines_go doc t (length (part doc t)) i q, ← x, c) (ap (λ (m : Name). m.identifier) (line_past doc v (text_line doc t h i p q v x) _ j (omega arith)))

pub text_over : (doc : List ℕ) (t i e j : ℕ) → e ≤ i → identifier_at (line_names (lines_from doc t i (e - i))) j ≡ 0
unfolding line_names
text_over doc t i e zero h = rw (lines_end_lem doc t e i h) refl
text_over doc t i e (suc j) h = rw (lines_end_lem doc t e i h) refl

-- ---- a paragraph's names
module _ (doc : List ℕ) (k : ℕ) (h : At doc paragraphs k) (j : ℕ) where
  pub axiom_role : kind_at doc k ≡ 3 → (a : ℕ) → a ≡ operand_at doc k 1 → (i : ℕ) → i ≡ identifier_at (line_names (lines_from doc a 2 (length (part doc a) - 2))) j
      → Some i ≡ role_of (get_or (paragraph_names (paragraph_at doc k)) j nobody)
  unfolding role_of
  axiom_role q a x i e =
      let ls = lines_from doc a 2 (length (part doc a) - 2) in
      rw ((axiom_names doc k h q a x).1, lines_plain ls j) (ap Some e)

  pub given_role : (kind_at doc k ≡ 3 → ⊥) → j < length (paragraph_names (paragraph_at doc k)) → None ≡ role_of (get_or (paragraph_names (paragraph_at doc k)) j nobody)
  unfolding role_of
  given_role z l = go (eqb (kind_at doc k) 2) refl
    where
      go : (b : Bool) → eqb (kind_at doc k) 2 ≡ b → None ≡ cond (get_or (paragraph_names (paragraph_at doc k)) j nobody).is_given None (Some (get_or (paragraph_names (paragraph_at doc k)) j nobody).identifier)
      go true e =
          let n = given_names doc k h (eqb-true (kind_at doc k) 2 e) in
          let g : (get_or (paragraph_names (paragraph_at doc k)) j nobody).is_given ≡ true = rw n (as_given (drop 1 (part doc k)) j (omega (arith, l, ap length n))) in
          rw g
      go false e = absurd (omega (arith, l, ap length (other_names doc k h (eqb-false (kind_at doc k) 2 e) z)))

-- ---- the paragraphs, one turn at a time
module _ (doc : List ℕ) (r : read_of doc ≡ Readable) (i : ℕ) (p : 1 ≤ i) (l : i < length (part doc (count doc))) (v : ℕ) (x : v ≡ operand_at doc (count doc) i)
    (n : ℕ) (c : n ≡ length (paragraph_names (paragraph_at doc v))) (j : ℕ) where
  pub document_here : j < n → get_or (names_of (paragraphs_from doc (count doc) i (length (part doc (count doc)) - i))) j nobody ≡ get_or (paragraph_names (paragraph_at doc v)) j nobody
  document_here s = rw (document_go doc r i p l v x) (first_list (paragraph_names (paragraph_at doc v)) _ j (omega arith))

  pub document_past : n ≤ j → (let e = length (part doc (count doc)) in
      get_or (names_of (paragraphs_from doc (count doc) i (e - i))) j nobody ≡ get_or (names_of (paragraphs_from doc (count doc) (i + 1) (e - (i + 1)))) (j - n) nobody)
  document_past s = rw (document_go doc r i p l v x, c) (later_list (paragraph_names (paragraph_at doc v)) _ j (omega arith))

pub document_over : (doc : List ℕ) → read_of doc ≡ Readable → (i e j : ℕ) → e ≤ i → get_or (names_of (paragraphs_from doc (count doc) i (e - i))) j nobody ≡ nobody
document_over doc r i e zero h = rw (document_end doc r i e h) refl
document_over doc r i e (suc j) h = rw (document_end doc r i e h) refl
