-- Rows written one after the other: one row word by word, the pairs of a list of nodes, and their words.
use mathlib.Core.Path.{◌≡◌, refl, sym, ap, ap₂, ◌∙◌}
use mathlib.Core.List.{List, [], ◌∷◌, ◌++◌, map}
use Prim.Native.Nat.{ℕ, suc, ◌+◌, ◌*◌, ◌≤◌, ◌<◌}
use native.Mathlib.Omega.{arith}
use lib.ListN.{length, get_or, set, drop, length-append, length-map, drop_of_length-le}
use lib.Seq.{sets, drop-cons}
use Rattle.words.proofs.Lists.{sets_append}
use Rattle.words.proofs.Copying.{sets_go, sets_end}
use Rattle.layout.specs.Rows.{row_pairs, row_words}
use Rattle.reader_rules.specs.Nodes.{document_words}
use Rattle.canonical_rules.specs.RowMap.{map_row}
use Rattle.canonical_rules.proofs.Lists.{map_at}
use Rattle.canonical_rules.proofs.RowMaps.{row_length, row_kind, row_at}
use Rattle.canonical.specs.Rows.{table_at, operand_by}

-- One row: its kind, then each operand.
module _ (w numbers output : List ℕ) (at : ℕ) where
  abbrev new : List ℕ
  new = map_row (table_at numbers) w

  pub row_start : 1 ≤ length w → (q : ℕ) → q ≡ get_or w 0 0 → (next : List ℕ) → next ≡ set output at q → sets output at new ≡ sets next (at + 1) (drop 1 new)
  row_start l q e next p =
      let z : at + 0 ≡ at = omega arith in
      let n = row_length (table_at numbers) w in
      ap (λ j. sets output j new) (sym z)
      ∙ sets_go new output at 0 (omega (arith, n, l))
      ∙ ap (λ x. sets x (at + 1) (drop 1 new)) (ap₂ (set output) z (row_kind (table_at numbers) w ∙ sym e) ∙ sym p)

  pub row_next : (i : ℕ) → 1 ≤ i → i < length w → (x : ℕ) (next : List ℕ) → x ≡ operand_by numbers w i → next ≡ set output (at + i) x
      → sets output (at + i) (drop i new) ≡ sets next (at + (i + 1)) (drop (i + 1) new)
  row_next i a b x next e p =
      let n = row_length (table_at numbers) w in
      sets_go new output at i (omega (arith, n, b))
      ∙ ap (λ y. sets y (at + (i + 1)) (drop (i + 1) new)) (ap (set output (at + i)) (row_at (table_at numbers) w i a b ∙ sym e) ∙ sym p)

  pub row_end : (i : ℕ) → length w ≤ i → sets output (at + i) (drop i new) ≡ output
  row_end i l = let n = row_length (table_at numbers) w in sets_end new output at i (omega (arith, n, l))

-- The rows f of nodes.
module _ (f : ℕ → List ℕ) (nodes : List ℕ) where
  -- The rows from i on are to be written, their words from `at` on: `whole` is the area with the pairs, or with the words, of all of them.
  pub record PairsLeft (i at : ℕ) (output whole : List ℕ) : Type 0 where
    pub left : whole ≡ sets output (2 * i + 1) (row_pairs (drop i (map f nodes)) at)
    pub room : at + length (row_words (drop i (map f nodes))) ≤ document_words

  pub record WordsLeft (i at : ℕ) (output whole : List ℕ) : Type 0 where
    pub left : whole ≡ sets output at (row_words (drop i (map f nodes)))
    pub room : at + length (row_words (drop i (map f nodes))) ≤ document_words

  -- row i is w
  module _ (i v : ℕ) (w : List ℕ) (l : i < length nodes) (e : v ≡ get_or nodes i 0) (p : w ≡ f v) where
    rows_next : drop i (map f nodes) ≡ w ∷ drop (i + 1) (map f nodes)
    rows_next =
        let s : suc i ≡ i + 1 = omega arith in
        let m = length-map nodes f in
        drop-cons (map f nodes) i [] (omega (arith, m, l)) ∙ ap₂ (λ a j. a ∷ drop j (map f nodes)) (map_at f nodes i 0 [] l ∙ ap f (sym e) ∙ sym p) s

    words_split : row_words (drop i (map f nodes)) ≡ w ++ row_words (drop (i + 1) (map f nodes))
    unfolding row_words
    words_split = ap row_words rows_next

    room_next : (at : ℕ) → at + length (row_words (drop i (map f nodes))) ≤ document_words → (at + length w) + length (row_words (drop (i + 1) (map f nodes))) ≤ document_words
    room_next at r = let a = ap length words_split ∙ length-append w (row_words (drop (i + 1) (map f nodes))) in omega (arith, a, r)

    pub row_room : (at : ℕ) → at + length (row_words (drop i (map f nodes))) ≤ document_words → at + length w ≤ document_words
    row_room at r = let a = room_next at r in omega (arith, a)

    pub pairs_next : (at : ℕ) (output whole first next : List ℕ) → first ≡ set output (2 * i + 1) at → next ≡ set first (2 * i + 2) (length w)
        → PairsLeft i at output whole → PairsLeft (i + 1) (at + length w) next whole
    unfolding row_pairs
    pairs_next at output whole first next q r h =
        let a : suc (2 * i + 1) ≡ 2 * i + 2 = omega arith in
        let b : suc (suc (2 * i + 1)) ≡ 2 * (i + 1) + 1 = omega arith in
        let rest = row_pairs (drop (i + 1) (map f nodes)) (at + length w) in
        record {
          left =
              h.left
              ∙ ap (λ x. sets output (2 * i + 1) (row_pairs x at)) rows_next
              ∙ ap₂ (λ j k. sets (set (set output (2 * i + 1) at) j (length w)) k rest) a b
              ∙ ap (λ x. sets x (2 * (i + 1) + 1) rest) (ap (λ x. set x (2 * i + 2) (length w)) (sym q) ∙ sym r);
          room = room_next at h.room;
        }

    pub words_next : (at to : ℕ) (output whole next : List ℕ) → next ≡ sets output at w → to ≡ at + length w → WordsLeft i at output whole → WordsLeft (i + 1) to next whole
    words_next at to output whole next q t h =
        let rest = row_words (drop (i + 1) (map f nodes)) in
        let r = room_next at h.room in
        record {
          left = h.left ∙ ap (sets output at) words_split ∙ sets_append output at w rest ∙ ap₂ (λ x j. sets x j rest) (sym q) (sym t);
          room = omega (arith, r, t);
        }

  module _ (i at : ℕ) (output whole : List ℕ) (l : length nodes ≤ i) where
    none_left_lem : drop i (map f nodes) ≡ []
    none_left_lem = let m = length-map nodes f in let h : length (map f nodes) ≤ i = omega (arith, m, l) in drop_of_length-le (map f nodes) h

    pub pairs_done : PairsLeft i at output whole → output ≡ whole
    unfolding row_pairs
    pairs_done h = sym (h.left ∙ ap (λ r. sets output (2 * i + 1) (row_pairs r at)) none_left_lem)

    pub words_done : WordsLeft i at output whole → output ≡ whole
    unfolding row_words
    words_done h = sym (h.left ∙ ap (λ r. sets output at (row_words r)) none_left_lem)

-- rows of the same lengths
pub words_alike : (f g : ℕ → List ℕ) (nodes : List ℕ) → ((k : ℕ) → length (f k) ≡ length (g k)) → length (row_words (map f nodes)) ≡ length (row_words (map g nodes))
unfolding row_words
words_alike f g [] h = refl
words_alike f g (x ∷ nodes) h =
    let a = length-append (f x) (row_words (map f nodes)) in
    let b = length-append (g x) (row_words (map g nodes)) in
    let c = h x in
    let d = words_alike f g nodes h in
    omega (arith, a, b, c, d)
