-- What the table says of each entry: which are givens', and each given's size. So finding 41 by the table is finding 41 by the names.
use mathlib.Core.Path.{◌≡◌, refl, sym, ap, fun_ext, ◌∙◌}
use mathlib.Core.Bool.{Bool, true, false, cond, false≢true}
use mathlib.Core.Logic.{⊎_elim}
use mathlib.Core.List.{List, [], ◌∷◌, ◌++◌, append_assoc}
use Prim.Native.Nat.{ℕ, zero, suc, ◌+◌, ◌*◌, ◌-◌, ◌/◌, ◌≤◌, ◌<◌}
use native.Mathlib.Omega.{arith}
use native.Mathlib.Numerals.{add-one}
use native.Mathlib.Nat.{eq-or-lt_of_le}
use lib.Dec.{eqb, leb}
use lib.ListN.{length, get_or, drop, set, replicate, length-append}
use lib.Seq.{set_at}
use borrow.Author.Tests.{eq-eqb, ne_eqb, eqb-true, leb-true}
use Rattle.words.proofs.Loops.{and_left}
use Rattle.layout.specs.Layout.{count, laid_out, part}
use Rattle.layout.proofs.Laws.{laid}
use Rattle.reader_rules.specs.Identifiers.{name_of, is_identifier}
use Rattle.reader_rules.specs.Kinds.{cell, sort_at, sort_in, plain_ok, identifiers, paragraphs}
use Rattle.reader_rules.specs.Nodes.{kind_at, operand_at}
use Rattle.reader_rules.specs.Findings.{found, scan, and_then}
use Rattle.reader_rules.specs.Promise.{At}
use Rattle.reader_rules.specs.Reading.{read_of}
use Rattle.reader_rules.specs.Refusals.{Readable, Refused}
use Rattle.reader_rules.specs.Tree.{Lines, end, declaration, inclusion}
use Rattle.reader_rules.specs.Decode.{gather, paragraph_at, paragraphs_from, tree_of}
use Rattle.reader_rules.proofs.Operands.{cond_same, sort_row_lem}
use Rattle.reader_rules.proofs.TreeCounts.{plain_word}
use Rattle.reader_rules.proofs.TreeParagraph.{paragraph_range, document_law}
use Rattle.values.specs.Form.{is_value}
use Rattle.values.specs.Givens.{small_size, size_from, size_of}
use Rattle.states_rules.specs.Names.{Name, nobody, names_as, line_names, paragraph_names, names_of, document_names}
use Rattle.states_rules.specs.States.{state_form, name_at, size_table, sizes_in, is_size, given_number, value_number, is_paired, entries_of, state_if, state_of}
use Rattle.states_rules.proofs.GivenSizes.{size_cons}
use Rattle.states.specs.Table.{put_pair, put_names, given_by, value_by}
use Rattle.states.proofs.NameLaws.{given_names, axiom_names, other_names, document_names_lem}

-- ---- a given's identifier is not 0
abbrev pub Positive : List Name → Type 0
Positive [] = Unit {0}
Positive (n ∷ ns) = (n.is_given ≡ true → 1 ≤ n.identifier) × Positive ns

positive_append : (xs ys : List Name) → Positive xs → Positive ys → Positive (xs ++ ys)
positive_append [] ys h k = k
positive_append (x ∷ xs) ys h k = (h.0, positive_append xs ys h.1 k)

positive_others : (xs : List ℕ) → Positive (names_as false xs)
unfolding names_as
positive_others [] = tt
positive_others (x ∷ xs) = ((λ e. absurd (false≢true e)), positive_others xs)

positive_lines : (ls : Lines) → Positive (line_names ls)
unfolding line_names
positive_lines end = tt
positive_lines (declaration n a xs ls) = positive_append (names_as false xs) (line_names ls) (positive_others xs) (positive_lines ls)
positive_lines (inclusion i ls) = positive_lines ls

positive_from : (w : List ℕ) (i : ℕ) → ((j : ℕ) → i ≤ j → j < length w → 1 ≤ get_or w j 0) → Positive (names_as true (drop i w))
unfolding names_as
positive_from [] zero h = tt
positive_from [] (suc i) h = tt
positive_from (x ∷ w) zero h = ((λ e. h 0 (omega arith) (omega arith)), positive_from w zero (λ j p q. h (suc j) (omega arith) (omega arith)))
positive_from (x ∷ w) (suc i) h = positive_from w i (λ j p q. h (suc j) (omega arith) (omega arith))

identifier_some : (v : ℕ) → is_identifier v ≡ true → 1 ≤ v
unfolding is_identifier name_of
identifier_some v e = omega (arith, leb-true 1 (v / 4) (and_left (leb 1 (v / 4)) _ e))

module _ (doc : List ℕ) (k : ℕ) (h : At doc paragraphs k) where
  given_sort : kind_at doc k ≡ 2 → (i : ℕ) → sort_at (part doc k) i ≡ identifiers
  unfolding sort_in cell
  given_sort q i =
      rw q (sort_row_lem 2 (length (part doc k) - 1) (get_or (part doc k) 3 0) i refl ∙ rw (cond_same {A = ℕ} (eqb i 2) 1) (cond_same {A = ℕ} (eqb i 1) 1))

  given_some : kind_at doc k ≡ 2 → (i : ℕ) → 1 ≤ i → i < length (part doc k) → 1 ≤ get_or (part doc k) i 0
  unfolding plain_ok
  given_some q i a b = identifier_some _ (rw (given_sort q i) at (plain_word doc paragraphs k h i a b))

  positive_paragraph : Positive (paragraph_names (paragraph_at doc k))
  positive_paragraph =
      let r = paragraph_range doc k h in
      ⊎_elim
      (λ e. let q = sym e in rw (given_names doc k h q) (positive_from (part doc k) 1 (given_some q)))
      (λ l. ⊎_elim
      (λ e. rw (axiom_names doc k h (sym e) (operand_at doc k 1) refl).1 (positive_lines _))
      (λ m. rw (other_names doc k h (λ e. omega arith) (λ e. omega arith)) tt)
      (eq-or-lt_of_le l))
      (eq-or-lt_of_le r.0)

module _ (doc : List ℕ) (r : read_of doc ≡ Readable) where
  positive_turns : (m i : ℕ) → 1 ≤ i → i + m ≡ length (part doc (count doc)) → Positive (names_of (paragraphs_from doc (count doc) i m))
  unfolding paragraphs_from gather names_of
  positive_turns zero i p e = tt
  positive_turns (suc m) i p e =
      positive_append (paragraph_names (paragraph_at doc (get_or (part doc (count doc)) i 0))) _
      (positive_paragraph doc _ ((document_law doc r).each i p (omega arith) _ refl).at)
      (positive_turns m (suc i) (omega arith) (omega arith))

  pub positive_document : 1 ≤ length (part doc (count doc)) → Positive (document_names (tree_of doc))
  positive_document s = rw (document_names_lem doc r) (positive_turns (length (part doc (count doc)) - 1) 1 (omega arith) (omega arith))

-- ---- the table as a list
abbrev pub mark : Name → ℕ
mark n = cond n.is_given n.identifier 0

rows : List Name → List ℕ → ℕ → List ℕ
rows [] state k = []
rows (n ∷ ns) state k = mark n ∷ cond n.is_given (get_or (part state k) 0 0) 0 ∷ rows ns state (suc k)

put_one : (n : Name) (state : List ℕ) (k : ℕ) (p z : List ℕ) → length p ≡ 2 * k
    → cond n.is_given (put_pair n.identifier state k (p ++ (0 ∷ 0 ∷ z))) (p ++ (0 ∷ 0 ∷ z)) ≡ (p ++ (mark n ∷ cond n.is_given (get_or (part state k) 0 0) 0 ∷ [])) ++ z
unfolding put_pair
put_one n state k p z e = go n.identifier (get_or (part state k) 0 0) n.is_given
  where
    go : (g s : ℕ) (b : Bool) → cond b (set (set (p ++ (0 ∷ 0 ∷ z)) (2 * k) g) (2 * k + 1) s) (p ++ (0 ∷ 0 ∷ z)) ≡ (p ++ (cond b g 0 ∷ cond b s 0 ∷ [])) ++ z
    go g s true =
        let l : length (p ++ (g ∷ [])) ≡ 2 * k + 1 = length-append p (g ∷ []) ∙ ap (λ (x : ℕ). x + 1) e in
        ap (λ (u : List ℕ). set u (2 * k + 1) s) (set_at p 0 (0 ∷ z) g (2 * k) e ∙ sym (append_assoc p (g ∷ []) (0 ∷ z)))
        ∙ set_at (p ++ (g ∷ [])) 0 z s (2 * k + 1) l ∙ append_assoc p (g ∷ []) (s ∷ z) ∙ sym (append_assoc p (g ∷ s ∷ []) z)
    go g s false = sym (append_assoc p (0 ∷ 0 ∷ []) z)

put_rows : (ns : List Name) (state : List ℕ) (k m : ℕ) (p : List ℕ) → length p ≡ 2 * k
    → put_names ns state k (p ++ replicate (2 * length ns + m) 0) ≡ p ++ (rows ns state k ++ replicate m 0)
unfolding put_names rows
put_rows [] state k m p e = let z : 2 * 0 + m ≡ m = omega arith in ap (λ (x : ℕ). p ++ replicate x 0) z
put_rows (n ∷ ns) state k m p e =
    let t = 2 * length ns + m in
    let z : 2 * suc (length ns) + m ≡ suc (suc t) = omega arith in
    let p' = p ++ (mark n ∷ cond n.is_given (get_or (part state k) 0 0) 0 ∷ []) in
    let l : length p' ≡ 2 * suc k = length-append p _ ∙ omega arith in
    ap (λ (x : ℕ). put_names (n ∷ ns) state k (p ++ replicate x 0)) z
    ∙ ap (λ (u : List ℕ). put_names ns state (k + 1) u) (put_one n state k p (replicate t 0) e)
    ∙ ap (λ (j : ℕ). put_names ns state j (p' ++ replicate t 0)) (add-one k)
    ∙ put_rows ns state (suc k) m p' l
    ∙ append_assoc p (mark n ∷ cond n.is_given (get_or (part state k) 0 0) 0 ∷ []) (rows ns state (suc k) ++ replicate m 0)

-- an area of zeros, with room for all names
put_all : (ns : List Name) (state : List ℕ) (a : ℕ) → 2 * length ns ≤ a
    → put_names ns state 1 (replicate (suc (suc a)) 0) ≡ 0 ∷ 0 ∷ (rows ns state 1 ++ replicate (a - 2 * length ns) 0)
put_all ns state a h =
    let z : a ≡ 2 * length ns + (a - 2 * length ns) = omega arith in
    ap (λ (x : ℕ). put_names ns state 1 (0 ∷ 0 ∷ replicate x 0)) z ∙ put_rows ns state 1 (a - 2 * length ns) (0 ∷ 0 ∷ []) refl

-- ---- sizes
size_zeros : (m g : ℕ) → size_of (replicate m 0) g ≡ 0
unfolding size_of size_from small_size
size_zeros zero g = refl
size_zeros (suc zero) g = refl
size_zeros (suc (suc m)) g = size_cons 0 0 (replicate m 0) g ∙ rw (size_zeros m g) (cond_same {A = ℕ} (eqb 0 g) 0)

none_step : (i s : ℕ) (t : List ℕ) (b : Bool) → (b ≡ true → 1 ≤ i) → size_of t 0 ≡ 0 → size_of (cond b (i ∷ s ∷ t) t) 0 ≡ 0
none_step i s t true f e =
    let l = f refl in
    let z : eqb i 0 ≡ false = ne_eqb i 0 (λ x. omega arith) in
    size_cons i s t 0 ∙ rw z e
none_step i s t false f e = e

size_none : (ns : List Name) (state : List ℕ) (k : ℕ) → Positive ns → size_of (size_table ns state k) 0 ≡ 0
unfolding size_table
size_none [] state k h = size_zeros 0 0
size_none (n ∷ ns) state k h = none_step n.identifier (get_or (part state k) 0 0) (size_table ns state (suc k)) n.is_given h.0 (size_none ns state (suc k) h.1)

-- a pair of zeros has no size to give
zero_pair : (u t : List ℕ) (g : ℕ) → size_of t 0 ≡ 0 → size_of u g ≡ size_of t g → size_of (0 ∷ 0 ∷ u) g ≡ size_of t g
unfolding small_size
zero_pair u t g n e = size_cons 0 0 u g ∙ go (eqb 0 g) refl
  where
    go : (c : Bool) → eqb 0 g ≡ c → cond c (small_size 0) (size_of u g) ≡ size_of t g
    go true x = let z : 0 ≡ g = eqb-true 0 g x in rw (← z) (sym n)
    go false x = e

row_pair : (i s : ℕ) (u t : List ℕ) (g : ℕ) (b : Bool) → size_of t 0 ≡ 0 → size_of u g ≡ size_of t g
    → size_of (cond b i 0 ∷ cond b s 0 ∷ u) g ≡ size_of (cond b (i ∷ s ∷ t) t) g
row_pair i s u t g true n e = size_cons i s u g ∙ ap (cond (eqb i g) (small_size s)) e ∙ sym (size_cons i s t g)
row_pair i s u t g false n e = zero_pair u t g n e

rows_size : (ns : List Name) (state : List ℕ) (k m g : ℕ) → Positive ns → size_of (rows ns state k ++ replicate m 0) g ≡ size_of (size_table ns state k) g
unfolding size_table rows
rows_size [] state k m g h = size_zeros m g ∙ sym (size_zeros 0 g)
rows_size (n ∷ ns) state k m g h =
    row_pair n.identifier (get_or (part state k) 0 0) (rows ns state (suc k) ++ replicate m 0) (size_table ns state (suc k)) g n.is_given
    (size_none ns state (suc k) h.1) (rows_size ns state (suc k) m g h.1)

-- ---- marks
row_mark : (ns : List Name) (state : List ℕ) (k : ℕ) (z : List ℕ) (j : ℕ) → j < length ns → get_or (rows ns state k ++ z) (2 * j) 0 ≡ mark (get_or ns j nobody)
unfolding rows
row_mark [] state k z j h = absurd (omega arith)
row_mark (n ∷ ns) state k z zero h = refl
row_mark (n ∷ ns) state k z (suc j) h =
    let e : 2 * suc j ≡ suc (suc (2 * j)) = omega arith in
    rw e (row_mark ns state (suc k) z j (omega arith))

pub positive_at : (ns : List Name) → Positive ns → (j : ℕ) → (get_or ns j nobody).is_given ≡ true → 1 ≤ (get_or ns j nobody).identifier
positive_at [] h j e = absurd (false≢true e)
positive_at (n ∷ ns) h zero e = h.0 e
positive_at (n ∷ ns) h (suc j) e = positive_at ns h.1 j e

mark_test : (n : Name) → (n.is_given ≡ true → 1 ≤ n.identifier) → (x y : ℕ) → cond (eqb (mark n) 0) x y ≡ cond n.is_given y x
mark_test n h x y = go n.is_given h
  where
    go : (b : Bool) → (b ≡ true → 1 ≤ n.identifier) → cond (eqb (cond b n.identifier 0) 0) x y ≡ cond b y x
    go true f =
        let l = f refl in
        let z : eqb n.identifier 0 ≡ false = ne_eqb n.identifier 0 (λ e. omega arith) in
        rw z
    go false f = refl

-- ---- the findings
scan_same : (f g : ℕ → ℕ) (i m : ℕ) → ((j : ℕ) → i ≤ j → j < i + m → f j ≡ g j) → scan f i m ≡ scan g i m
unfolding scan
scan_same f g i zero h = refl
scan_same f g i (suc m) h =
    ap (λ (x : ℕ). found x i (scan f (suc i) m)) (h i (omega arith) (omega arith))
    ∙ ap (found (g i) i) (scan_same f g (suc i) m (λ j p q. h j (omega arith) (omega arith)))

module _ (ns : List Name) (state : List ℕ) (h : Positive ns) (m : ℕ) where
  abbrev full : List ℕ
  full = 0 ∷ 0 ∷ (rows ns state 1 ++ replicate m 0)

  full_mark : (k : ℕ) → 1 ≤ k → k < 1 + length ns → get_or full (2 * k) 0 ≡ mark (name_at ns k)
  full_mark k p q =
      let e : 2 * k ≡ suc (suc (2 * (k - 1))) = omega arith in
      rw e (row_mark ns state 1 (replicate m 0) (k - 1) (omega arith))

  full_sizes : size_of full ≡ sizes_in ns state
  unfolding sizes_in
  full_sizes = fun_ext (λ g. zero_pair _ _ g (size_none ns state 1 h) (rows_size ns state 1 m g h))

  same_given : (k : ℕ) → 1 ≤ k → k < 1 + length ns → given_by full state k ≡ given_number ns state k
  unfolding given_by given_number
  same_given k p q = rw (full_mark k p q) (mark_test (name_at ns k) (positive_at ns h (k - 1)) 0 (cond (is_size (part state k)) 0 41))

  same_value_lem : (k : ℕ) → 1 ≤ k → k < 1 + length ns → value_by full state k ≡ value_number ns state k
  unfolding value_by value_number
  same_value_lem k p q =
      rw (full_mark k p q, full_sizes) (mark_test (name_at ns k) (positive_at ns h (k - 1)) (cond (is_value (sizes_in ns state) (part state k)) 0 41) 0)

  same_entries : and_then (scan (given_by full state) 1 (length ns)) (scan (value_by full state) 1 (length ns)) ≡ entries_of ns state
  unfolding entries_of
  same_entries =
      rw (scan_same (given_by full state) (given_number ns state) 1 (length ns) same_given, scan_same (value_by full state) (value_number ns state) 1 (length ns) same_value_lem)

module _ (ns : List Name) (state : List ℕ) where
  -- a state that is paired has at most 1,024 entries, so the table has room
  pub by_table : Positive ns → laid_out state_form state ≡ true → count state ≡ length ns → (a : ℕ) → 2048 ≤ a → (table : List ℕ) → table ≡ put_names ns state 1 (replicate (suc (suc a)) 0)
      → and_then (scan (given_by table state) 1 (length ns)) (scan (value_by table state) 1 (length ns)) ≡ state_of ns state
  unfolding state_of state_if is_paired
  by_table h l c a r table t =
      let f = (laid state_form state l).few in
      rw (t ∙ put_all ns state a (omega arith), l, eq-eqb (count state) (length ns) c) (same_entries ns state h (a - 2 * length ns))

  pub not_laid : laid_out state_form state ≡ false → Refused 41 0 ≡ state_of ns state
  unfolding state_of state_if is_paired
  not_laid l = rw l

  pub not_counted : laid_out state_form state ≡ true → (count state ≡ length ns → ⊥) → Refused 41 0 ≡ state_of ns state
  unfolding state_of state_if is_paired
  not_counted l c = rw (l, ne_eqb (count state) (length ns) c)

  -- what the table says of entry k
  pub table_mark : Positive ns → (a : ℕ) → 2 * length ns ≤ a → (table : List ℕ) → table ≡ put_names ns state 1 (replicate (suc (suc a)) 0)
      → (k : ℕ) → 1 ≤ k → k ≤ length ns → get_or table (2 * k) 0 ≡ mark (name_at ns k)
  table_mark h a r table t k p q = rw (t ∙ put_all ns state a r) (full_mark ns state h (a - 2 * length ns) k p (omega arith))
