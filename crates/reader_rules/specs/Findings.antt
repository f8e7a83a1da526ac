-- Findings 11 to 15, at a node (document 01, "Finding numbers").
use Rattle.std.specs.Prelude.{ℕ, zero, suc, ◌-◌, List, Ok, Err, Bool, true, ◌&&◌, cond, length, get_or, leb, ltb, eqb}
use Rattle.words.specs.Loops.{every}
use Rattle.layout.specs.Layout.{count, part}
use Rattle.reader_rules.specs.Kinds.{listed, sort_at, count_ok, plain_ok, of_sort, is_node_sort}
use Rattle.reader_rules.specs.Nodes.{kind_at, uses}
use Rattle.reader_rules.specs.Refusals.{Finding, Readable, Refused}

-- the first of the m nodes from k on at which f gives a number other than 0
abbrev pub found : ℕ → ℕ → Finding → Finding
found zero k r = r
found (suc n) k r = Refused (suc n) k

unfoldable pub scan : (ℕ → ℕ) → ℕ → ℕ → Finding
scan f k zero = Readable
scan f k (suc m) = found (f k) k (scan f (suc k) m)

-- the second finding where the first is none
abbrev pub and_then : Finding → Finding → Finding
and_then (Ok x) r = r
and_then (Err e) r = Err e

-- 13: plain word i of the node whose words are w
abbrev pub plain_at : List ℕ → ℕ → Bool
plain_at w i = plain_ok (sort_at w i) (get_or w i 0)

abbrev pub plain_words : List ℕ → Bool
plain_words w = every (plain_at w) 1 (length w - 1)

-- 14: operand i of node k, whose words are w, is a lower node of its sort, or a plain word
abbrev pub lower_ok : List ℕ → ℕ → ℕ → ℕ → Bool
lower_ok doc k s v = cond (is_node_sort s) (leb 1 v && (ltb v k && of_sort s (kind_at doc v))) true

abbrev pub lower_at : List ℕ → ℕ → List ℕ → ℕ → Bool
lower_at doc k w i = lower_ok doc k (sort_at w i) (get_or w i 0)

abbrev pub lower_nodes : List ℕ → ℕ → List ℕ → Bool
lower_nodes doc k w = every (lower_at doc k w) 1 (length w - 1)

-- 12, 13 or 14 at node k, whose words are w; 0 for none
abbrev pub number_of : List ℕ → ℕ → List ℕ → ℕ
number_of doc k w =
    cond (listed (get_or w 0 0)) (cond (count_ok w) (cond (plain_words w) (cond (lower_nodes doc k w) 0 14) 13) 13) 12

abbrev pub node_number : List ℕ → ℕ → ℕ
node_number doc k = number_of doc k (part doc k)

-- 15: a node before the last is used once and is no Document; the last is a Document
unfoldable pub use_number : List ℕ → ℕ → ℕ
use_number doc k =
    cond (ltb k (count doc)) (cond (eqb (uses doc k) 1) (cond (eqb (kind_at doc k) 1) 15 0) 15) (cond (eqb (kind_at doc k) 1) 0 15)
