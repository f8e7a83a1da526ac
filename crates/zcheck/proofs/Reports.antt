-- What the parts of the program print, and that the first 65,537 bytes of an input decide its report.
use mathlib.Core.Path.{◌≡◌, refl, sym, ap, ap₂, subst, ◌∙◌}
use mathlib.Core.Bool.{Bool, true, false, ◌&&◌}
use mathlib.Core.List.{List, [], ◌∷◌}
use Prim.Native.Nat.{ℕ, suc, ◌*◌, ◌-◌, ◌/◌, ◌%◌, ◌^◌, ◌≤◌, ◌<◌}
use native.Mathlib.Omega.{arith}
use lib.ListN.{length, get_or, take, drop, replicate, length-take, length-append, length-replicate}
use lib.Seq.{take_at, take_all}
use lib.Dec.{eqb, leb}
use borrow.Author.Tests.{lt-ltb, lt-leb, leb-true, leb-false}
use Rattle.checker_rules.specs.Check.{check_of}
use Rattle.checker_rules.specs.Areas.{CheckCall}
use Rattle.reader_rules.specs.Refusals.{Finding, Refused}
use Rattle.printer_rules.specs.Print.{print_of, printed_answer, printed_of}
use Rattle.printer_rules.specs.Buffer.{Printed, printed_bytes, printed_length}
use Rattle.printer_rules.specs.Bounds.{Words, none, word, OfWords}
use Rattle.printer_rules.specs.Lines.{refused_line, refused_bytes, at_bytes, spaced}
use Rattle.printer_rules.specs.Decimal.{decimal, digits}
use Rattle.printer_rules.proofs.Lengths.{print_length}
use Rattle.input.specs.Input.{are_words, words_of, first_words, words_after}
use Rattle.input.proofs.Laws.{first_length, words_room, words_taken}
use Rattle.zcheck.specs.Report.{report_of, Prints, Areas}
use Rattle.reader_rules.specs.Nodes.{document_words}

all_words_lem : (ws : List ℕ) → ((i : ℕ) → get_or ws i 0 < 2 ^ 32) → Words ws
all_words_lem [] h = none
all_words_lem (w ∷ ws) h = word (h 0) (all_words_lem ws (λ i. h (suc i)))

-- a text that leaves a byte of the buffer stands whole at its beginning
text_prints : {text out : List ℕ} {size r : ℕ} → length text < size → Printed text size r out → Prints text r out
unfolding printed_bytes printed_length
text_prints {text} {out} {size} {r} l p =
    let fits = lt-ltb (length text) size l in
    let q : r ≡ length text = p.count ∙ rw fits refl in
    record { size = q; written = ap (take r) p.bytes ∙ rw fits (take_at text (replicate (size - length text) 0) r (sym q)) }

-- the finding that the check call left, in a buffer that suffices
pub check_prints : {doc dict work out : List ℕ} {f : Finding} {d w n r : ℕ} → Areas d w n → CheckCall doc d w f dict work → length dict ≡ d
    → ((i : ℕ) → get_or dict i 0 < 2 ^ 32) → OfWords f → Printed (print_of f dict) n r out → Prints (printed_of doc) r out
unfolding printed_of printed_answer
check_prints {doc} {dict} {out = out} {f} {d} {w} {r = r} a c e h v p =
    let l = print_length c (omega (arith, a.recorded)) e (all_words_lem dict h) v in
    let t : print_of f dict ≡ printed_of doc = ap₂ print_of c.finding c.recorded ∙ ap₂ (λ (x y : ℕ). printed_answer (check_of doc x y) x) a.recorded a.worked in
    subst (λ (z : List ℕ). Prints z r out) t (text_prints (omega (arith, a.recorded, a.printed)) p)

pub broken_prints : (dict : List ℕ) {out : List ℕ} {r : ℕ} → Printed (print_of (Refused 11 0) dict) 180258 r out → Prints (print_of (Refused 11 0) []) r out
unfolding print_of refused_line refused_bytes at_bytes spaced decimal digits
broken_prints dict p = text_prints (omega arith) p

pub prints_within : {t b : List ℕ} {r : ℕ} → Prints t r b → r ≤ length b
prints_within {t} {b} {r} p =
    let e : length (take r b) ≡ r = ap length p.written ∙ sym p.size in
    let m = length-take r b in
    omega arith

pub prints_taken : {t b : List ℕ} {r : ℕ} → Prints t r b → r ≡ length (take r b)
prints_taken p = p.size ∙ sym (ap length p.written)

-- an input, and an area to which it is taken
abbrev pub area : List ℕ
area = replicate 16384 0

area_length : length area ≡ 16384
area_length = length-replicate {A = ℕ} 16384 0

module _ (bytes : List ℕ) where
  pub taken_room : are_words bytes (length area) ≡ true → length bytes / 4 ≤ length (words_after bytes area)
  unfolding words_after words_of
  taken_room e =
      let l = words_room bytes (length area) e in
      let k = length-append (first_words bytes (length bytes / 4)) (drop (length bytes / 4) area) in
      let f = first_length bytes (length bytes / 4) in
      rw e (omega arith)

  pub words_report : {out : List ℕ} {r : ℕ} → are_words bytes (length area) ≡ true → Prints (printed_of (take (length bytes / 4) (words_after bytes area))) r out
      → Prints (report_of bytes) r out
  unfolding report_of
  words_report {out} {r} e p = rw (ap (are_words bytes) (sym area_length) ∙ e, ← (words_taken bytes area e)) p

  pub broken_report : {out : List ℕ} {r : ℕ} → are_words bytes (length area) ≡ false → Prints (print_of (Refused 11 0) []) r out → Prints (report_of bytes) r out
  unfolding report_of
  broken_report e p = rw (ap (are_words bytes) (sym area_length) ∙ e) p

-- more than 65,536 bytes are no words of the area
too_long_lem : (bytes : List ℕ) → 65536 < length bytes → are_words bytes document_words ≡ false
unfolding are_words
too_long_lem bytes l = rw (lt-leb (length bytes) (4 * 16384) (omega arith)) (and_false (eqb (length bytes % 4) 0))
  where
    and_false : (b : Bool) → b && false ≡ false
    and_false true = refl
    and_false false = refl

-- the program reads 65,537 bytes at most: they decide what it writes for the whole input
pub report_front : (bytes : List ℕ) → report_of (take 65537 bytes) ≡ report_of bytes
unfolding report_of
report_front bytes = go (leb (length bytes) 65537) refl
  where
    go : (b : Bool) → leb (length bytes) 65537 ≡ b → report_of (take 65537 bytes) ≡ report_of bytes
    go true e = ap report_of (take_all 65537 bytes (leb-true (length bytes) 65537 e))
    go false e =
        let l = leb-false (length bytes) 65537 e in
        let k = length-take 65537 bytes in
        rw (too_long_lem bytes (omega arith), too_long_lem (take 65537 bytes) (omega arith)) refl
