-- Document 01's marked cases, as one table and one claim about the definitions. Each row is named by document 01's words.
use Rattle.std.specs.Prelude.{◌≡◌, List, [], ◌∷◌, ℕ}
use Rattle.checker_rules.specs.Check.{check_of, check_work_words}
use Rattle.printer_rules.specs.Print.{printed_of, dictionary_area_words}
use Rattle.evaluator_rules.specs.Run.{run_of, run_work_words}
use Rattle.reader_rules.specs.Refusals.{Refused}
use Rattle.evaluator_rules.specs.Endings.{RunFinding, Holds}
use Rattle.marked.specs.Coded.{coded, keeping, numbers_to, integers_from}
use Rattle.marked.specs.Seen.{Checked, accepts, refuses, of_check, Shown, of_run}

-- a document, with the answer of its check, with the bytes printed for it, or with what its run shows on a state of no entries
pub data Row : Type 0 where
  checked : List ℕ → Checked → Row
  printed : List ℕ → List ℕ → Row
  ran : List ℕ → Shown → Row

abbrev shows : RunFinding → ℕ → List ℕ → Shown
shows f n w = record { finding = f; node = n; words = w }

unfoldable pub marked : List Row
marked =
    -- 1 3 1 1 accepted with dictionary 0
    checked (1 ∷ 3 ∷ 1 ∷ 1 ∷ []) (accepts (0 ∷ []))
    -- the printed input: "accepted 9 1", "1 4 0 : 3 2 4"
    ∷ printed (2 ∷ 5 ∷ 2 ∷ 7 ∷ 2 ∷ 2 ∷ 4 ∷ 1 ∷ 1 ∷ [])
    (97 ∷ 99 ∷ 99 ∷ 101 ∷ 112 ∷ 116 ∷ 101 ∷ 100 ∷ 32 ∷ 57 ∷ 32 ∷ 49 ∷ 10
    ∷ 49 ∷ 32 ∷ 52 ∷ 32 ∷ 48 ∷ 32 ∷ 58 ∷ 32 ∷ 51 ∷ 32 ∷ 50 ∷ 32 ∷ 52 ∷ 10 ∷ [])
    -- {} = {} 34
    ∷ checked (coded ((33 ∷ []) ∷ (33 ∷ []) ∷ (21 ∷ 1 ∷ 2 ∷ []) ∷ (6 ∷ 3 ∷ []) ∷ (1 ∷ 4 ∷ []) ∷ [])) (refuses 34 3)
    -- 1 = {1} 33
    ∷ checked (coded ((31 ∷ 1 ∷ []) ∷ (31 ∷ 1 ∷ []) ∷ (33 ∷ 2 ∷ []) ∷ (21 ∷ 1 ∷ 3 ∷ []) ∷ (6 ∷ 4 ∷ []) ∷ (1 ∷ 5 ∷ []) ∷ [])) (refuses 33 4)
    -- x in {} with x : ℤ accepted
    ∷ checked
    (coded
    ((32 ∷ []) ∷ (11 ∷ 1 ∷ 4 ∷ []) ∷ (20 ∷ []) ∷ (10 ∷ 3 ∷ 2 ∷ []) ∷ (3 ∷ 4 ∷ [])
    ∷ (30 ∷ 4 ∷ []) ∷ (33 ∷ []) ∷ (22 ∷ 6 ∷ 7 ∷ []) ∷ (6 ∷ 8 ∷ []) ∷ (1 ∷ 5 ∷ 9 ∷ []) ∷ []))
    (accepts (1 ∷ 3 ∷ 4 ∷ 1 ∷ 4 ∷ 0 ∷ 1 ∷ []))
    -- a declared type of size 32 is accepted: A == ℤ × ℤ × ℤ × ℤ × ℤ × ℤ; x : A × A × A × A × ℤ × ℙ ℤ
    ∷ checked
    (coded
    ((32 ∷ []) ∷ (32 ∷ []) ∷ (32 ∷ []) ∷ (32 ∷ []) ∷ (32 ∷ []) ∷ (32 ∷ []) ∷ (35 ∷ 1 ∷ 2 ∷ 3 ∷ 4 ∷ 5 ∷ 6 ∷ []) ∷ (5 ∷ 4 ∷ 0 ∷ 7 ∷ [])
    ∷ (30 ∷ 4 ∷ []) ∷ (30 ∷ 4 ∷ []) ∷ (30 ∷ 4 ∷ []) ∷ (30 ∷ 4 ∷ []) ∷ (32 ∷ []) ∷ (32 ∷ []) ∷ (36 ∷ 14 ∷ [])
    ∷ (35 ∷ 9 ∷ 10 ∷ 11 ∷ 12 ∷ 13 ∷ 15 ∷ []) ∷ (11 ∷ 16 ∷ 8 ∷ []) ∷ (20 ∷ []) ∷ (10 ∷ 18 ∷ 17 ∷ []) ∷ (3 ∷ 19 ∷ []) ∷ (1 ∷ 8 ∷ 20 ∷ []) ∷ []))
    (accepts
    (2 ∷ 5 ∷ 12 ∷ 17 ∷ 40 ∷ 1 ∷ 4 ∷ 0 ∷ 3 ∷ 4 ∷ 6 ∷ 1 ∷ 1 ∷ 1 ∷ 1 ∷ 1 ∷ 1 ∷ 1 ∷ 8 ∷ 0 ∷ 4 ∷ 6 ∷ 4 ∷ 6 ∷ 1 ∷ 1 ∷ 1 ∷ 1 ∷ 1 ∷ 1
    ∷ 4 ∷ 6 ∷ 1 ∷ 1 ∷ 1 ∷ 1 ∷ 1 ∷ 1 ∷ 4 ∷ 6 ∷ 1 ∷ 1 ∷ 1 ∷ 1 ∷ 1 ∷ 1 ∷ 4 ∷ 6 ∷ 1 ∷ 1 ∷ 1 ∷ 1 ∷ 1 ∷ 1 ∷ 1 ∷ 3 ∷ 1 ∷ []))
    -- one of size 33 is 38: .. with ℙ ℤ for the ℤ
    ∷ checked
    (coded
    ((32 ∷ []) ∷ (32 ∷ []) ∷ (32 ∷ []) ∷ (32 ∷ []) ∷ (32 ∷ []) ∷ (32 ∷ []) ∷ (35 ∷ 1 ∷ 2 ∷ 3 ∷ 4 ∷ 5 ∷ 6 ∷ []) ∷ (5 ∷ 4 ∷ 0 ∷ 7 ∷ [])
    ∷ (30 ∷ 4 ∷ []) ∷ (30 ∷ 4 ∷ []) ∷ (30 ∷ 4 ∷ []) ∷ (30 ∷ 4 ∷ []) ∷ (32 ∷ []) ∷ (36 ∷ 13 ∷ []) ∷ (32 ∷ []) ∷ (36 ∷ 15 ∷ [])
    ∷ (35 ∷ 9 ∷ 10 ∷ 11 ∷ 12 ∷ 14 ∷ 16 ∷ []) ∷ (11 ∷ 17 ∷ 8 ∷ []) ∷ (20 ∷ []) ∷ (10 ∷ 19 ∷ 18 ∷ []) ∷ (3 ∷ 20 ∷ []) ∷ (1 ∷ 8 ∷ 21 ∷ []) ∷ []))
    (refuses 38 18)
    -- {2,1} is 3 2 1 1 1 2
    ∷ ran (keeping ((31 ∷ 2 ∷ []) ∷ (31 ∷ 1 ∷ []) ∷ (33 ∷ 1 ∷ 2 ∷ []) ∷ [])) (shows Holds 3 (3 ∷ 2 ∷ 1 ∷ 1 ∷ 1 ∷ 2 ∷ []))
    -- −7 mod 2 is 1
    ∷ ran (keeping ((31 ∷ 0 ∷ []) ∷ (31 ∷ 7 ∷ []) ∷ (42 ∷ 1 ∷ 2 ∷ []) ∷ (31 ∷ 2 ∷ []) ∷ (45 ∷ 3 ∷ 4 ∷ []) ∷ [])) (shows Holds 5 (1 ∷ 1 ∷ []))
    -- 2,147,483,647 + 1 is 53
    ∷ ran (keeping ((31 ∷ 2147483647 ∷ []) ∷ (31 ∷ 1 ∷ []) ∷ (41 ∷ 1 ∷ 2 ∷ []) ∷ [])) (shows (Refused 53 3) 2 (1 ∷ 1 ∷ []))
    -- 31 numbers kept, 32 are 55
    ∷ ran (keeping (numbers_to 30)) (shows Holds 22 (3 ∷ 31 ∷ integers_from 0 31))
    ∷ ran (keeping (numbers_to 31)) (shows (Refused 55 22) 21 (1 ∷ 31 ∷ []))
    ∷ []

-- a row holds: the definition gives what must come, with areas of 16,384 words
unfoldable pub RowHolds : Row → Type 0
RowHolds (checked d a) = of_check (check_of d dictionary_area_words check_work_words) ≡ a
RowHolds (printed d p) = printed_of d ≡ p
RowHolds (ran d s) = of_run (run_of d (0 ∷ []) run_work_words) ≡ s

unfoldable pub AllHold : List Row → Type 0
AllHold [] = Unit {0}
AllHold (r ∷ rs) = RowHolds r × AllHold rs
