-- How long the printed lines are: eleven bytes a word are enough, and 34 for the rest with a zero after them.
use mathlib.Core.Path.{◌≡◌, refl, sym, ap, subst, ◌∙◌}
use mathlib.Core.List.{List, [], ◌∷◌, ◌++◌, append_assoc}
use mathlib.Core.Bool.{Bool, true, false, cond}
use Prim.Native.Nat.{ℕ, zero, suc, ◌+◌, ◌*◌, ◌-◌, ◌^◌, ◌≤◌, ◌<◌}
use native.Mathlib.Omega.{arith}
use lib.Dec.{eqb}
use borrow.Author.Tests.{lt-ltb}
use lib.ListN.{length, take, drop, replicate, length-append, length-take, length-drop, length-replicate}
use Rattle.words.specs.Loops.{total, joined}
use Rattle.layout.specs.Layout.{count, length_at, offset_at, part}
use Rattle.checker_rules.specs.Dictionary.{dictionary_words, dictionary_length}
use Rattle.checker_rules.specs.Check.{Answer, accepted, refused, check_of}
use Rattle.checker_rules.specs.Areas.{answer_finding, dictionary_after, CheckCall}
use Rattle.reader_rules.specs.Refusals.{Finding}
use Rattle.printer_rules.specs.Decimal.{decimal}
use Rattle.printer_rules.specs.Lines.{accepted_bytes, refused_bytes, at_bytes, spaced, numbers, entry_line, dictionary_size, entry_lines, accepted_lines, refused_line}
use Rattle.printer_rules.specs.Print.{print_of, printed_answer}
use Rattle.printer_rules.specs.Buffer.{printed_bytes, printed_length, Printed}
use Rattle.printer_rules.specs.Bounds.{Words, none, word, OfWords, placed, enough}
use Rattle.printer_rules.proofs.Decimal.{word_few}
use Rattle.printer_rules.proofs.SizeLaws.{taken, taken_length, size_length}

words_take : (n : ℕ) {ws : List ℕ} → Words ws → Words (take n ws)
words_take zero h = none
words_take (suc n) none = none
words_take (suc n) (word l h) = word l (words_take n h)

words_drop : (n : ℕ) {ws : List ℕ} → Words ws → Words (drop n ws)
words_drop zero h = h
words_drop (suc n) none = none
words_drop (suc n) (word l h) = words_drop n h

words_part : (k : ℕ) {ws : List ℕ} → Words ws → Words (part ws k)
unfolding part
words_part k {ws} h = go (eqb k 0)
  where
    go : (b : Bool) → Words (cond b [] (take (length_at ws k) (drop (offset_at ws k) ws)))
    go true = none
    go false = words_take (length_at ws k) (words_drop (offset_at ws k) h)

part_short : (ws : List ℕ) (k : ℕ) → length (part ws k) ≤ length_at ws k
unfolding part
part_short ws k = go (eqb k 0)
  where
    go : (b : Bool) → length (cond b [] (take (length_at ws k) (drop (offset_at ws k) ws))) ≤ length_at ws k
    go true = omega arith
    go false = simp (length-take, length-drop) (omega arith)

spaced_length : {ws : List ℕ} → Words ws → length (spaced ws) ≤ 11 * length ws
unfolding spaced
spaced_length none = omega arith
spaced_length (word {w} {ws} l h) =
    let a = word_few w l in
    let b = spaced_length h in
    simp length-append (omega arith)

numbers_length : {ws : List ℕ} → Words ws → length (numbers ws) ≤ 11 * length ws
unfolding numbers
numbers_length none = omega arith
numbers_length (word {w} {ws} l h) =
    let a = word_few w l in
    let b = spaced_length h in
    simp length-append (omega arith)

line_length : {w : List ℕ} → Words w → length (entry_line w) ≤ 11 * (length w + 2)
unfolding entry_line
line_length {w} h =
    let a = numbers_length (words_take 3 h) in
    let b = spaced_length (words_drop 3 h) in
    let c = length-take 3 w in
    let d = length-drop 3 w in
    simp length-append (omega arith)

lines_length : {d : List ℕ} → Words d → (i m : ℕ) → length (joined (λ k. entry_line (part d k)) i m) ≤ 11 * (total (length_at d) i m + 2 * m)
unfolding joined total
lines_length h i zero = omega arith
lines_length {d} h i (suc m) =
    let a = line_length (words_part i h) in
    let b = part_short d i in
    let c = lines_length h (suc i) m in
    simp length-append (omega arith)

count_word : {d : List ℕ} → Words d → count d < 2 ^ 32
count_word none = omega arith
count_word (word l h) = l

accepted_length : (d : List ℕ) → Words d → dictionary_size d < 2 ^ 32 → length (accepted_lines d) ≤ 11 * taken d + 20
unfolding accepted_lines accepted_bytes entry_lines
accepted_length d h l =
    let a = lines_length h 1 (count d) in
    let b = spaced_length (word {w = dictionary_size d} l (word {w = count d} (count_word h) none)) in
    simp length-append (omega arith)

refused_length : (n p : ℕ) → n < 2 ^ 32 → p < 2 ^ 32 → length (refused_line n p) ≤ 33
unfolding refused_line refused_bytes at_bytes
refused_length n p h l =
    let a = spaced_length (word h none) in
    let b = spaced_length (word l none) in
    simp length-append (omega arith)

answer_length : (a : Answer) (n : ℕ) → n < 2 ^ 32 → length (dictionary_after a n) ≡ n → Words (dictionary_after a n) → OfWords (answer_finding a)
    → length (printed_answer a n) < enough n
unfolding printed_answer print_of answer_finding dictionary_after
answer_length (accepted D) n l e h v =
    let zs : List ℕ = replicate (n - dictionary_length D) 0 in
    let z : length zs ≡ n - dictionary_length D = length-replicate _ _ in
    let c = length-append (dictionary_words D) zs in
    let s = size_length D zs in
    let t = taken_length D zs in
    let k = accepted_length _ h (omega arith) in
    omega arith
answer_length (refused m p) n l e h (placed x y) = let k = refused_length m p x y in omega arith

-- what the check call leaves: a finding, and a dictionary area of n words
module _ {doc dict work : List ℕ} {n w : ℕ} {f : Finding} (c : CheckCall doc n w f dict work) (l : n < 2 ^ 32) (e : length dict ≡ n) (h : Words dict) (v : OfWords f) where
  -- its lines leave a byte of a buffer of `enough n`
  pub print_length : length (print_of f dict) < enough n
  unfolding printed_answer
  print_length =
      let a = check_of doc n w in
      let r = c.recorded in
      rw (c.finding, r) (answer_length a n l (sym (ap length r) ∙ e) (subst Words r h) (subst OfWords c.finding v))

  -- so in such a buffer they stand whole
  pub print_whole : {size r : ℕ} {out : List ℕ} → enough n ≤ size → Printed (print_of f dict) size r out
      → (r ≡ length (print_of f dict)) × (out ≡ print_of f dict ++ replicate (size - r) 0)
  unfolding printed_bytes printed_length
  print_whole {size} {r} {out} room p =
      let t = print_of f dict in
      let k = print_length in
      let fits = lt-ltb (length t) size (omega arith) in
      let q : r ≡ length t = p.count ∙ rw fits refl in
      (q, p.bytes ∙ rw (fits, q) refl)
