-- A readable document written again: its nodes in order, their table of numbers, the count, the pairs and the words.
use mathlib.Core.Path.{◌≡◌, refl, sym, ap, ap₂, ◌∙◌, subst}
use mathlib.Core.List.{List, [], ◌∷◌, ◌++◌, map}
use Prim.Native.Nat.{ℕ, ◌+◌, ◌*◌, ◌≤◌, ◌<◌}
use native.Mathlib.Omega.{arith}
use lib.ListN.{length, get_or, set, take, drop, replicate, length-replicate, length-map}
use lib.Seq.{sets, sets-eq, take_at}
use Rattle.words.proofs.Lists.{sets_append}
use Rattle.layout.specs.Layout.{count, part}
use Rattle.reader_rules.specs.Nodes.{document_words}
use Rattle.reader_rules.specs.Reading.{read_of}
use Rattle.reader_rules.specs.Refusals.{Readable}
use Rattle.reader_rules.specs.Below.{numbers_at}
use Rattle.reader_rules.specs.TreeNumbers.{node_numbers}
use Rattle.reader_rules.specs.Decode.{tree_of}
use Rattle.reader_rules.proofs.Accepted.{readable, some_words}
use Rattle.reader_rules.proofs.TreeNodes.{tree_numbers}
use Rattle.canonical_rules.specs.Positions.{Distinct}
use Rattle.layout.specs.Rows.{row_pairs, row_words, lay_out}
use Rattle.canonical_rules.specs.Canonical.{canonical_of}
use Rattle.canonical_rules.specs.RowMap.{map_row}
use Rattle.canonical_rules.specs.Call.{canonical_words}
use Rattle.canonical_rules.proofs.Positions.{has_at}
use Rattle.canonical_rules.proofs.SameTrees.{readable_distinct}
use Rattle.layout.proofs.LaidRows.{pairs_length, laid_length}
use Rattle.canonical_rules.proofs.RowMaps.{row_length}
use Rattle.canonical_rules.proofs.CanonicalParts.{nodes_counted, node_range, length_same, canonical_rows, new_number}
use Rattle.canonical_rules.proofs.CanonicalWords.{canonical_words_lem}
use Rattle.canonical.specs.Order.{Visit, Numberable, Numbers}
use Rattle.canonical.specs.Rows.{table_at, Fitting}
use Rattle.canonical.proofs.RowLaws.{words_alike}

-- the words set at the start of a table
first_words_lem : (table words : List ℕ) (n : ℕ) → n ≡ length words → n ≤ length table → take n (sets table 0 words) ≡ words
first_words_lem table words n e l =
    ap (take n) (sets-eq words table 0 (omega (arith, e, l))) ∙ take_at words (drop (0 + length words) table) n (sym e)

-- rows of the same lengths have the same pairs
pairs_alike : (f g : ℕ → List ℕ) (nodes : List ℕ) (o : ℕ) → ((k : ℕ) → length (f k) ≡ length (g k)) → row_pairs (map f nodes) o ≡ row_pairs (map g nodes) o
unfolding row_pairs
pairs_alike f g [] o h = refl
pairs_alike f g (x ∷ nodes) o h =
    ap (λ n. o ∷ n ∷ row_pairs (map f nodes) (o + n)) (h x) ∙ ap (λ r. o ∷ length (g x) ∷ r) (pairs_alike f g nodes (o + length (g x)) h)

module _ (doc : List ℕ) (read : read_of doc ≡ Readable) where
  few_nodes : count doc ≤ 1024
  few_nodes = (readable doc read).nodes.laid.few

  all_numbers : length (numbers_at doc (count doc)) ≡ count doc
  all_numbers = ap length (sym (tree_numbers doc read)) ∙ nodes_counted doc read

  pub few_visited : (k : ℕ) → k ≡ count doc → length (numbers_at doc k) ≤ 1024
  few_visited k e = let a = few_nodes in let b = ap (λ j. length (numbers_at doc j)) e ∙ all_numbers in omega (arith, a, b)

  -- the Document is visited first
  pub first_visit : (k : ℕ) → k ≡ count doc → Visit doc k 0
  first_visit k e =
      let a = few_nodes in
      let b = all_numbers in
      let c = (readable doc read).nodes.laid.some in
      subst (λ j. Visit doc j 0) (sym e) (record { read = read; some = c; most = omega arith; room = omega (arith, a, b) })

  -- the table then begins with the nodes of the tree
  pub nodes_first : (k n : ℕ) (order nodes : List ℕ) → k ≡ count doc → order ≡ sets (replicate 1024 0) 0 (numbers_at doc k) → n ≡ 0 + length (numbers_at doc k)
      → nodes ≡ take n (drop 0 order) → nodes ≡ node_numbers (tree_of doc)
  nodes_first k n order nodes e o p q =
      let a = few_nodes in
      let b = all_numbers in
      let c = ap (λ j. length (numbers_at doc j)) e in
      let l = length-replicate {A = ℕ} 1024 0 in
      q
      ∙ ap (take n) o
      ∙ first_words_lem (replicate 1024 0) (numbers_at doc k) n (omega (arith, p)) (omega (arith, p, c, b, a, l))
      ∙ ap (numbers_at doc) e
      ∙ sym (tree_numbers doc read)

  module _ (nodes : List ℕ) (e : nodes ≡ node_numbers (tree_of doc)) where
    pub all_nodes : length nodes ≡ count doc
    all_nodes = ap length e ∙ nodes_counted doc read

    range : (i : ℕ) → i < length nodes → (1 ≤ get_or nodes i 0) × (get_or nodes i 0 ≤ count doc)
    range i l = subst (λ x. i < length x → (1 ≤ get_or x i 0) × (get_or x i 0 ≤ count doc)) (sym e) (λ m. node_range doc read (get_or (node_numbers (tree_of doc)) i 0) (has_at (node_numbers (tree_of doc)) i m)) l

    pub numberable : (m : ℕ) → 1025 ≤ m → Numberable nodes m
    numberable m l =
        let a = few_nodes in
        let b = all_nodes in
        record {
          distinct = subst Distinct (sym e) (readable_distinct doc read);
          few = omega (arith, a, b);
          inside = λ i j. let r = (range i j).1 in omega (arith, a, r, l);
        }

    module _ (f : ℕ → ℕ) where
      abbrev by : ℕ → List ℕ
      by k = map_row f (part doc k)

      as_long : (k : ℕ) → length (by k) ≡ length (part doc k)
      as_long k = row_length f (part doc k)

    pub fitting : Fitting doc nodes
    unfolding canonical_of lay_out
    fitting =
        let f = new_number doc read in
        let a = ap length (ap lay_out (canonical_rows doc read)) in
        let b = length_same doc read in
        let c = laid_length (map (by f) (node_numbers (tree_of doc))) in
        let d = words_alike (by f) (part doc) (node_numbers (tree_of doc)) (as_long f) in
        let g = length-map (node_numbers (tree_of doc)) (by f) in
        let s = (readable doc read).nodes.laid.short in
        record {
          some = λ i l. let r = range i l in some_words doc (get_or nodes i 0) (readable doc read).nodes.laid r.0 r.1;
          room = subst (λ x. 1 + 2 * length x + length (row_words (map (part doc) x)) ≤ document_words) (sym e) (omega (arith, a, b, c, d, g, s));
        }

    -- the count, then the pairs, then the words
    pub written : (numbers : List ℕ) → Numbers nodes numbers → (k n : ℕ) → k ≡ count doc → n ≡ 0 + length (numbers_at doc k) → (output a b c : List ℕ) → a ≡ set output 0 n
        → b ≡ sets a 1 (row_pairs (map (part doc) nodes) (1 + 2 * length nodes))
        → c ≡ sets b (1 + 2 * length nodes) (row_words (map (λ k. map_row (table_at numbers) (part doc k)) nodes))
        → c ≡ sets output 0 (canonical_words doc)
    unfolding canonical_of lay_out
    written numbers h j n g m output a b c p q r =
        let f = table_at numbers in
        let o = 1 + 2 * length nodes in
        let ws = map (by f) nodes in
        let x : canonical_words doc ≡ lay_out ws =
        canonical_words_lem doc read f (subst (λ l. Numbers l numbers) e h) ∙ ap (λ l. lay_out (map (by f) l)) (sym e)
        in
        let y : length ws ≡ length nodes = length-map nodes (by f) in
        let z : row_pairs ws o ≡ row_pairs (map (part doc) nodes) o = pairs_alike (by f) (part doc) nodes o (as_long f) in
        let u : 1 + length (row_pairs ws o) ≡ o = let v = pairs_length ws o in omega (arith, v, y) in
        let k : n ≡ length ws = let v = all_nodes in let t = ap (λ i. length (numbers_at doc i)) g ∙ all_numbers in omega (arith, v, t, m, y) in
        r
        ∙ ap (λ l. sets l o (row_words ws)) (q ∙ ap₂ (λ s t. sets s 1 t) p (sym z))
        ∙ ap (λ j. sets (sets (set output 0 n) 1 (row_pairs ws o)) j (row_words ws)) (sym u)
        ∙ sym (sets_append (set output 0 n) 1 (row_pairs ws o) (row_words ws))
        ∙ ap₂ (λ i j. sets (set output 0 i) 1 (row_pairs ws (1 + 2 * j) ++ row_words ws)) k (sym y)
        ∙ ap (sets output 0) (sym x)
