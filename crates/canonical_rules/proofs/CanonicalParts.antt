-- THE PARTS OF THE CANONICAL WORDS of a readable document: the part of a node's new number is the node's part, with its operands that are nodes mapped.
-- As many nodes, as many words.
use mathlib.Core.Path.{◌≡◌, refl, ap, ap₂, sym, ◌∙◌, subst}
use mathlib.Core.Bool.{Bool, true, false, cond, ◌&&◌}
use mathlib.Core.List.{List, [], ◌∷◌, map}
use Prim.Native.Nat.{ℕ, zero, suc, ◌+◌, ◌*◌, ◌-◌, ◌≤◌, ◌<◌}
use native.Mathlib.Omega.{arith}
use native.Mathlib.Nat.{one-mul}
use lib.Dec.{leb, eqb}
use lib.ListN.{length, get_or, length-map, length-append}
use borrow.Author.Tests.{leb-true, le-leb, eqb-true}
use Rattle.words.specs.Loops.{has, occurrences, total}
use Rattle.words.proofs.Loops.{and_right}
use Rattle.layout.specs.Layout.{count, offset_at, length_at, chain, laid_out, part}
use Rattle.layout.proofs.Laws.{part_length}
use Rattle.reader_rules.specs.Nodes.{document_form}
use Rattle.reader_rules.specs.Reading.{read_of}
use Rattle.reader_rules.specs.Refusals.{Readable}
use Rattle.reader_rules.specs.TreeNumbers.{node_numbers}
use Rattle.reader_rules.specs.Decode.{tree_of}
use Rattle.reader_rules.proofs.Accepted.{readable}
use Rattle.reader_rules.proofs.Scan.{cond_none}
use Rattle.reader_rules.proofs.Occurrences.{all_in_has, sum_of, total_same, sum_count}
use Rattle.reader_rules.proofs.TreeNodes.{each_node_once}
use Rattle.canonical_rules.specs.Numbered.{number_document}
use Rattle.canonical_rules.specs.Positions.{index_of}
use Rattle.canonical_rules.specs.RowMap.{map_row}
use Rattle.layout.specs.Rows.{Rows, row_words, lay_out}
use Rattle.canonical_rules.specs.Canonical.{document_rows, canonical_of}
use Rattle.words.proofs.Lists.{has_once, once_has}
use Rattle.canonical_rules.proofs.Lists.{map_at, along_nth}
use Rattle.canonical_rules.proofs.Renumbered.{Places, node_numbers_lem, place_document}
use Rattle.canonical_rules.proofs.Positions.{to_place, from_place, place_in, place_back, places, has_index, has_at, index_at, index_found}
use Rattle.canonical_rules.proofs.SameTrees.{readable_distinct}
use Rattle.layout.proofs.LaidRows.{laid_length}
use Rattle.canonical_rules.proofs.RowParts.{holds_all}
use Rattle.canonical_rules.proofs.RowMaps.{rows_map, row_length}
use Rattle.canonical_rules.proofs.DocumentRows.{document_rows_lem}

words_total : (ws : Rows) → length (row_words ws) ≡ sum_of (λ v. v) (map length ws)
unfolding row_words sum_of
words_total [] = refl
words_total (w ∷ ws) = length-append w (row_words ws) ∙ ap (λ n. length w + n) (words_total ws)

sum_map : {A : Type 0} (f : A → ℕ) (g : ℕ → A) (l : List ℕ) → sum_of (λ v. v) (map f (map g l)) ≡ sum_of (λ v. f (g v)) l
unfolding sum_of
sum_map f g [] = refl
sum_map f g (x ∷ l) = ap (λ n. f (g x) + n) (sum_map f g l)

sum_ones : (l : List ℕ) → sum_of (λ v. 1) l ≡ length l
unfolding sum_of
sum_ones [] = refl
sum_ones (x ∷ l) = let e = sum_ones l in omega (arith, e)

total_ones : (i m : ℕ) → total (λ v. 1) i m ≡ m
unfolding total
total_ones i zero = refl
total_ones i (suc m) = let e = total_ones (suc i) m in omega (arith, e)

map_map : {A B C : Type 0} (f : A → B) (g : B → C) (l : List A) → map g (map f l) ≡ map (λ x. g (f x)) l
map_map f g [] = refl
map_map f g (x ∷ l) = ap (λ m. g (f x) ∷ m) (map_map f g l)

chain_total : (s : ℕ) (words : List ℕ) (m k at : ℕ) → chain s words k m at ≡ true → at + total (length_at words) k m ≡ length words
unfolding chain total
chain_total s words zero k at e = let q = eqb-true at (length words) e in omega (arith, q)
chain_total s words (suc m) k at e =
    let r = and_right (leb s (length_at words k)) _ (and_right (eqb (offset_at words k) at) _ e) in
    let q = chain_total s words m (suc k) (at + length_at words k) r in
    omega (arith, q)

module _ (doc : List ℕ) (read : read_of doc ≡ Readable) where
  abbrev pub old_nodes : List ℕ
  old_nodes = node_numbers (tree_of doc)

  -- the new number of a node
  unfoldable pub new_number : ℕ → ℕ
  new_number = to_place 0 (node_numbers (tree_of doc))

  abbrev pub canonical : List ℕ
  canonical = canonical_of (tree_of doc)

  -- 1 to the count, each once
  pub node_range : (k : ℕ) → has k old_nodes ≡ true → (1 ≤ k) × (k ≤ count doc)
  node_range k h = go (leb 1 k) (leb k (count doc)) refl refl (each_node_once doc read k)
    where
      go : (a b : Bool) → leb 1 k ≡ a → leb k (count doc) ≡ b → occurrences k (node_numbers (tree_of doc)) ≡ cond (a && b) 1 0 → (1 ≤ k) × (k ≤ count doc)
      go true true p q e = (leb-true 1 k p, leb-true k (count doc) q)
      go true false p q e = absurd (omega (arith, has_once k (node_numbers (tree_of doc)) h, e))
      go false b p q e = absurd (omega (arith, has_once k (node_numbers (tree_of doc)) h, e))

  once_each : (k : ℕ) → 1 ≤ k → k ≤ count doc → occurrences k old_nodes ≡ 1
  once_each k p q = each_node_once doc read k ∙ ap₂ (λ a b. cond (a && b) 1 0) (le-leb 1 k p) (le-leb k (count doc) q)

  -- sums over the nodes in the tree's order are sums over the nodes by number
  pub node_sum : (f : ℕ → ℕ) → sum_of f old_nodes ≡ total f 1 (count doc)
  node_sum f =
      sum_count f old_nodes 1 (count doc) (all_in_has (λ v. (1 ≤ v) × (v < 1 + count doc)) old_nodes (λ v h. let r = node_range v h in (r.0, omega (arith, r.1))))
      ∙ total_same (λ v. occurrences v old_nodes * f v) f 1 (count doc) (λ v p q. ap (λ n. n * f v) (once_each v p (omega arith)) ∙ one-mul (f v))

  pub nodes_counted : length old_nodes ≡ count doc
  nodes_counted = sym (sum_ones old_nodes) ∙ node_sum (λ v. 1) ∙ total_ones 1 (count doc)

  pub range_node : (k : ℕ) → 1 ≤ k → k ≤ count doc → has k old_nodes ≡ true
  range_node k p q = once_has k old_nodes (omega (arith, once_each k p q))

  -- new numbers
  pub new_in : (k : ℕ) → 1 ≤ k → k ≤ count doc → new_number k ≡ suc (index_of k old_nodes)
  unfolding new_number
  new_in k p q = place_in 0 old_nodes k (has_index old_nodes k (range_node k p q))

  pub new_range : (k : ℕ) → 1 ≤ k → k ≤ count doc → (1 ≤ new_number k) × (new_number k ≤ count doc)
  new_range k p q =
      let e = new_in k p q in
      let i = has_index old_nodes k (range_node k p q) in
      let n = nodes_counted in
      (omega (arith, e), omega (arith, e, i, n))

  -- every number is a node's new number
  pub record Old (i : ℕ) : Type 0 where
    pub old : ℕ
    pub some : 1 ≤ old
    pub most : old ≤ count doc
    pub new : new_number old ≡ i

  pub every_new : (i : ℕ) → 1 ≤ i → i ≤ count doc → Old i
  every_new i p q =
      let n = nodes_counted in
      let b : i - 1 < length old_nodes = omega (arith, n) in
      let k = get_or old_nodes (i - 1) 0 in
      let r = node_range k (has_at old_nodes (i - 1) b) in
      let e = index_at old_nodes (readable_distinct doc read) (i - 1) b in
      record { old = k; some = r.0; most = r.1; new = new_in k r.0 r.1 ∙ ap suc e ∙ up i p }
    where
      up : (i : ℕ) → 1 ≤ i → suc (i - 1) ≡ i
      up i p = omega arith

  pub new_injective : (j k : ℕ) → new_number j ≡ new_number k → j ≡ k
  unfolding new_number
  new_injective j k e = sym (place_back 0 old_nodes j) ∙ ap (from_place 0 old_nodes) e ∙ place_back 0 old_nodes k

  -- in the order of the tree the new numbers are 1, 2, ..
  pub numbered_order : (i : ℕ) → i < count doc → get_or (node_numbers (number_document (tree_of doc))) i 0 ≡ 1 + i
  unfolding new_number
  numbered_order i h =
      let l = old_nodes in
      let p = places 0 l (readable_distinct doc read) in
      let k : i < length l = subst (λ n. i < n) (sym nodes_counted) h in
      ap (λ t. get_or (node_numbers t) i 0) (sym (place_document new_number (tree_of doc) p))
      ∙ ap (λ m. get_or m i 0) (node_numbers_lem new_number (tree_of doc))
      ∙ map_at new_number l i 0 0 k
      ∙ along_nth (Places new_number) 0 l 1 i p k

  pub canonical_rows : document_rows (number_document (tree_of doc)) ≡ map (λ k. map_row new_number (part doc k)) old_nodes
  unfolding new_number
  canonical_rows =
      sym (ap document_rows (place_document new_number (tree_of doc) (places 0 old_nodes (readable_distinct doc read))))
      ∙ rows_map new_number (tree_of doc)
      ∙ ap (map (map_row new_number)) (document_rows_lem doc read)
      ∙ map_map (part doc) (map_row new_number) old_nodes

  pub rows_counted : length (document_rows (number_document (tree_of doc))) ≡ count doc
  rows_counted = ap length canonical_rows ∙ length-map old_nodes (λ k. map_row new_number (part doc k)) ∙ nodes_counted

  pub count_same : count canonical ≡ count doc
  unfolding canonical_of lay_out
  count_same = rows_counted

  -- THE PART OF A NODE'S NEW NUMBER
  pub part_new : (k : ℕ) → 1 ≤ k → k ≤ count doc → part canonical (new_number k) ≡ map_row new_number (part doc k)
  unfolding canonical_of
  part_new k p q =
      let i = index_of k old_nodes in
      let b = has_index old_nodes k (range_node k p q) in
      let F : ℕ → List ℕ = λ k. map_row new_number (part doc k) in
      let e = new_in k p q in
      let j : new_number k ≡ 1 + i = omega (arith, e) in
      ap (part canonical) j
      ∙ ap (λ ws. part (lay_out ws) (1 + i)) canonical_rows
      ∙ along_nth (λ k w. part (lay_out (map F old_nodes)) k ≡ w) [] (map F old_nodes) 1 i (holds_all (map F old_nodes)) (subst (λ n. i < n) (sym (length-map old_nodes F)) b)
      ∙ map_at F old_nodes i 0 [] b
      ∙ ap F (index_found old_nodes k b)

  -- AS LONG AS THE DOCUMENT
  pub pairs_total : 1 + 2 * count doc + total (length_at doc) 1 (count doc) ≡ length doc
  unfolding read_of laid_out
  pairs_total =
      let a = (cond_none (laid_out document_form doc) _ 11 0 read).0 in
      let b = and_right (leb (length doc) 16384) _ a in
      let c = and_right (leb 1 (count doc)) _ b in
      let d = and_right (leb (count doc) 1024) _ c in
      chain_total 1 doc (count doc) 1 (1 + 2 * count doc) (and_right (leb (1 + 2 * count doc) (length doc)) _ d)

  doc_length : length doc ≡ 1 + 2 * count doc + total (λ k. length (part doc k)) 1 (count doc)
  doc_length =
      let r = (readable doc read).nodes.laid in
      sym pairs_total
      ∙ ap (λ n. 1 + 2 * count doc + n) (total_same (length_at doc) (λ k. length (part doc k)) 1 (count doc) (λ j p q. sym (part_length 1 doc j p (r.pair j p (omega arith)))))

  pub length_same : length canonical ≡ length doc
  unfolding canonical_of
  length_same =
      let F : ℕ → List ℕ = λ k. map_row new_number (part doc k) in
      let ws = document_rows (number_document (tree_of doc)) in
      let e : length (row_words ws) ≡ total (λ k. length (part doc k)) 1 (count doc) =
      words_total ws
      ∙ ap (λ z. sum_of (λ v. v) (map length z)) canonical_rows
      ∙ sum_map length F old_nodes
      ∙ node_sum (λ k. length (F k))
      ∙ total_same (λ k. length (F k)) (λ k. length (part doc k)) 1 (count doc) (λ j p q. row_length new_number (part doc j))
      in
      let a = laid_length ws in
      let n = rows_counted in
      let d = doc_length in
      omega (arith, a, n, d, e)
