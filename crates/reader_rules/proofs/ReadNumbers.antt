-- The numbers of reading's refusals are 17 at most.
use mathlib.Core.Path.{◌≡◌}
use mathlib.Core.Bool.{Bool, true, false, ◌||◌, cond}
use mathlib.Core.List.{List}
use Prim.Native.Nat.{ℕ, zero, suc, ◌≤◌}
use native.Mathlib.Omega.{arith}
use lib.Dec.{ltb, eqb}
use lib.ListN.{get_or}
use Rattle.std.specs.Prelude.{Ok, Err}
use Rattle.layout.specs.Layout.{count, laid_out, part}
use Rattle.reader_rules.specs.Kinds.{listed, count_ok}
use Rattle.reader_rules.specs.Nodes.{document_form, kind_at, uses}
use Rattle.reader_rules.specs.Findings.{found, scan, and_then, plain_words, lower_nodes, node_number, use_number}
use Rattle.reader_rules.specs.Repeats.{repeats, repeat_number}
use Rattle.reader_rules.specs.Limits.{too_deep, too_nested, too_wide, too_crowded, too_many, limit_number}
use Rattle.reader_rules.specs.Reading.{read_of}
use Rattle.reader_rules.specs.Refusals.{Finding, Readable, Refused}

abbrev Low : Finding → Type 0
Low (Ok x) = Unit {0}
Low (Err r) = r.number ≤ 17

low_found : (x k : ℕ) (r : Finding) → x ≤ 17 → Low r → Low (found x k r)
low_found zero k r h l = l
low_found (suc x) k r h l = h

low_scan : (f : ℕ → ℕ) → ((k : ℕ) → f k ≤ 17) → (k m : ℕ) → Low (scan f k m)
unfolding scan
low_scan f h k zero = tt
low_scan f h k (suc m) = low_found (f k) k _ (h k) (low_scan f h (suc k) m)

low_then : (a b : Finding) → Low a → Low b → Low (and_then a b)
low_then (Ok x) b h k = k
low_then (Err r) b h k = h

low_or : (b : Bool) (r q : Finding) → Low r → Low q → Low (cond b r q)
low_or true r q h k = h
low_or false r q h k = k

low_if : (b : Bool) (x y : ℕ) → x ≤ 17 → y ≤ 17 → cond b x y ≤ 17
low_if true x y h k = h
low_if false x y h k = k

node_low : (doc : List ℕ) (k : ℕ) → node_number doc k ≤ 17
node_low doc k =
    let w = part doc k in
    low_if (listed (get_or w 0 0)) _ 12 (low_if (count_ok w) _ 13 (low_if (plain_words w) _ 13 (low_if (lower_nodes doc k w) 0 14 (omega arith) (omega arith)) (omega arith)) (omega arith)) (omega arith)

use_low : (doc : List ℕ) (k : ℕ) → use_number doc k ≤ 17
unfolding use_number
use_low doc k =
    low_if (ltb k (count doc)) _ _ (low_if (eqb (uses doc k) 1) _ 15 (low_if (eqb (kind_at doc k) 1) 15 0 (omega arith) (omega arith)) (omega arith)) (low_if (eqb (kind_at doc k) 1) 0 15 (omega arith) (omega arith))

repeat_low : (doc : List ℕ) (k : ℕ) → repeat_number doc k ≤ 17
unfolding repeat_number
repeat_low doc k = low_if (repeats doc k) 16 0 (omega arith) (omega arith)

limit_low : (doc : List ℕ) (k : ℕ) → limit_number doc k ≤ 17
unfolding limit_number
limit_low doc k = low_if (too_deep doc k || (too_nested doc k || (too_wide doc k || (too_crowded doc k || too_many doc k)))) 17 0 (omega arith) (omega arith)

read_low : (doc : List ℕ) → Low (read_of doc)
unfolding read_of
read_low doc =
    let a = scan (node_number doc) 1 (count doc) in
    let b = scan (use_number doc) 1 (count doc) in
    let c = scan (repeat_number doc) 1 (count doc) in
    let d = scan (limit_number doc) 1 (count doc) in
    low_or (laid_out document_form doc) (and_then a (and_then b (and_then c d))) (Refused 11 0)
    (low_then a (and_then b (and_then c d)) (low_scan (node_number doc) (node_low doc) 1 (count doc))
    (low_then b (and_then c d) (low_scan (use_number doc) (use_low doc) 1 (count doc))
    (low_then c d (low_scan (repeat_number doc) (repeat_low doc) 1 (count doc)) (low_scan (limit_number doc) (limit_low doc) 1 (count doc)))))
    (omega arith)

refused_low : (r : Finding) → Low r → (n p : ℕ) → r ≡ Refused n p → n ≤ 17
refused_low (Ok x) h n p e = let z : ◌≡◌ {A = ℕ} 0 1 = cc in absurd (omega arith)
refused_low (Err r) h n p e = let z : r.number ≡ n = cc in omega arith

pub read_number : (doc : List ℕ) (n p : ℕ) → read_of doc ≡ Refused n p → n ≤ 17
read_number doc n p e = refused_low (read_of doc) (read_low doc) n p e
