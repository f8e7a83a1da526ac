-- The canonical words from the document's words alone: its nodes in the order of the tree's numbers, each with the places of its operands.
use mathlib.Core.Path.{◌≡◌, refl, ap, ap₂, sym, ◌∙◌, subst}
use mathlib.Core.Bool.{Bool, true, false, cond}
use mathlib.Core.List.{List, [], ◌∷◌, map}
use Prim.Native.Nat.{ℕ, zero, suc, ◌≤◌, ◌<◌}
use native.Mathlib.Omega.{arith}
use lib.ListN.{length, get_or}
use lib.Seq.{ext_get_or}
use Rattle.words.specs.Loops.{has}
use Rattle.layout.specs.Layout.{count, part}
use Rattle.reader_rules.specs.Kinds.{sort_at, is_node_sort}
use Rattle.reader_rules.specs.Reading.{read_of}
use Rattle.reader_rules.specs.Refusals.{Readable}
use Rattle.reader_rules.specs.TreeNumbers.{node_numbers}
use Rattle.reader_rules.specs.Decode.{tree_of}
use Rattle.reader_rules.proofs.Accepted.{readable, operand}
use Rattle.canonical_rules.specs.Positions.{index_of}
use Rattle.canonical_rules.specs.RowMap.{map_row}
use Rattle.layout.specs.Rows.{lay_out}
use Rattle.canonical_rules.specs.Canonical.{canonical_of}
use Rattle.canonical_rules.proofs.Lists.{has_first, has_later}
use Rattle.canonical_rules.proofs.RowMaps.{row_length, row_kind, row_at}
use Rattle.canonical_rules.proofs.CanonicalParts.{new_number, node_range, range_node, new_in, canonical_rows}

-- only the operands that are nodes matter
mapped_alike : (f g : ℕ → ℕ) (v : List ℕ) → ((j : ℕ) → 1 ≤ j → j < length v → is_node_sort (sort_at v j) ≡ true → f (get_or v j 0) ≡ g (get_or v j 0)) → map_row f v ≡ map_row g v
mapped_alike f g v h = ext_get_or 0 (map_row f v) (map_row g v) (row_length f v ∙ sym (row_length g v)) (λ i l. at i (subst (λ n. i < n) (row_length f v) l))
  where
    same : (b : Bool) (x y z : ℕ) → (b ≡ true → x ≡ y) → cond b x z ≡ cond b y z
    same true x y z e = e refl
    same false x y z e = refl

    at : (i : ℕ) → i < length v → get_or (map_row f v) i 0 ≡ get_or (map_row g v) i 0
    at zero l = row_kind f v ∙ sym (row_kind g v)
    at (suc i) l =
        row_at f v (suc i) (omega arith) l
        ∙ same (is_node_sort (sort_at v (suc i))) (f (get_or v (suc i) 0)) (g (get_or v (suc i) 0)) (get_or v (suc i) 0) (λ e. h (suc i) (omega arith) l e)
        ∙ sym (row_at g v (suc i) (omega arith) l)

mapped_on : {B : Type 0} (f g : ℕ → B) (l : List ℕ) → ((n : ℕ) → has n l ≡ true → f n ≡ g n) → map f l ≡ map g l
mapped_on f g [] h = refl
mapped_on f g (x ∷ l) h = ap₂ (λ a b. a ∷ b) (h x (has_first x l)) (mapped_on f g l (λ n k. h n (has_later x n l k)))

-- for every function that gives each node its place among the nodes, from 1
pub canonical_words_lem : (doc : List ℕ) → read_of doc ≡ Readable → (f : ℕ → ℕ)
    → (let nodes = node_numbers (tree_of doc) in
    ((n : ℕ) → has n nodes ≡ true → f n ≡ suc (index_of n nodes)) → canonical_of (tree_of doc) ≡ lay_out (map (λ k. map_row f (part doc k)) nodes))
unfolding canonical_of
canonical_words_lem doc read f places =
    let nodes = node_numbers (tree_of doc) in
    ap lay_out
    (canonical_rows doc read
    ∙ mapped_on (λ k. map_row (new_number doc read) (part doc k)) (λ k. map_row f (part doc k)) nodes
    (λ k h.
    let r = node_range doc read k h in
    mapped_alike (new_number doc read) f (part doc k) (λ j p q e.
    let o = operand doc k j ((readable doc read).nodes.node k r.0 r.1) p q e in
    let v = get_or (part doc k) j 0 in
    let most : v ≤ count doc = omega (arith, o.below, r.1) in
    new_in doc read v o.some most ∙ sym (places v (range_node doc read v o.some most)))))
