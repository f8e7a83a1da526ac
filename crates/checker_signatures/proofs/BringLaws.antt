-- What an Include brings, by its three ways to end.
use mathlib.Core.Path.{◌≡◌, refl, sym, ap, subst, ◌∙◌}
use mathlib.Core.Bool.{true, false, false≢true}
use mathlib.Core.List.{List}
use Prim.Native.Nat.{ℕ, ◌+◌, ◌*◌, ◌≤◌, ◌<◌}
use lib.Dec.{ltb}
use lib.ListN.{length, get_or}
use borrow.Author.Tests.{lt-ltb, le-ltb}
use lib.Seq.{sets}
use Rattle.checker_signatures.specs.Rows.{rows, flat, stroked_rows, stroke_rows, rename_rows, wrong_old_rows, wrong_rows}
use Rattle.checker_signatures.specs.Tables.{Table, Brings}
use Rattle.checker_signatures.proofs.RowLaws.{rows_length_lem, get_d_below}
use Rattle.checker_signatures.proofs.TableLaws.{table_rows}
use Rattle.checker_signatures.proofs.IncludeLaws.{stroke_length, wrong_stroked, wrong_old_lem, wrong_count}

module _ (w : List ℕ) (s m base k : ℕ) (ps : List (ℕ × ℕ)) where
  abbrev Below : List ℕ → Type 0
  Below u = (i : ℕ) → i < s → i < base → get_or u i 0 ≡ get_or w i 0

  refused : (u : List ℕ) (n : ℕ) → wrong_rows k ps (rows w s m) ≡ true → Below u → Brings w u s m base k ps true n
  refused u n e b = record { finding = sym e; words = λ q. absurd (false≢true (sym q)); below = b }

  pub brings_stroked : (n : ℕ) → stroked_rows k (rows w s m) ≡ true → Brings w w s m base k ps true n
  brings_stroked n e = refused w n (wrong_stroked k ps (rows w s m) e) (λ i p q. refl)

  module _ (v : List ℕ) (room : s + 2 * m ≤ length w) (free : stroked_rows k (rows w s m) ≡ false) (on : v ≡ sets w s (flat (stroke_rows k (rows w s m)))) where
    stroke_rows_lem : rows v s m ≡ stroke_rows k (rows w s m)
    stroke_rows_lem =
        table_rows w s v (stroke_rows k (rows w s m)) m
        (record { words = on; count = sym (stroke_length k (rows w s m) ∙ rows_length_lem w s m) }) room

    below : Below v
    below i p q = ap (λ (x : List ℕ). get_or x i 0) on ∙ get_d_below (flat (stroke_rows k (rows w s m))) w s i p

    pub brings_old : (n : ℕ) → wrong_old_rows ps (rows v s m) ≡ true → Brings w v s m base k ps true n
    brings_old n e = refused v n (wrong_old_lem k ps (rows w s m) free (ap (wrong_old_rows ps) (sym stroke_rows_lem) ∙ e)) below

    brings : (u : List ℕ) (n : ℕ) → wrong_old_rows ps (rows v s m) ≡ false → Table v u base (rename_rows ps (rows v s m)) n
        → Brings w u s m base k ps (ltb n m) n
    brings u n e t =
        let rs = rows w s m in
        let z = ap (rename_rows ps) stroke_rows_lem in
        let a = wrong_count k ps rs free (ap (wrong_old_rows ps) (sym stroke_rows_lem) ∙ e) in
        let b : n ≡ length (rename_rows ps (stroke_rows k rs)) = t.count ∙ ap length z in
        record {
          finding = ap (λ (j : ℕ). ltb j m) b ∙ ap (ltb (length (rename_rows ps (stroke_rows k rs)))) (sym (rows_length_lem w s m)) ∙ sym a;
          words = λ q. subst (λ (x : List ℕ). Table x u base (rename_rows ps (stroke_rows k rs)) n) on
              (subst (λ (l : List (ℕ × ℕ)). Table v u base l n) z t);
          below = λ i p q. ap (λ (x : List ℕ). get_or x i 0) t.words ∙ get_d_below (flat (rename_rows ps (rows v s m))) v base i q ∙ below i p q;
        }

    pub brings_fewer : (u : List ℕ) (n : ℕ) → wrong_old_rows ps (rows v s m) ≡ false → Table v u base (rename_rows ps (rows v s m)) n → n < m → Brings w u s m base k ps true 0
    brings_fewer u n e t l = let B = brings u n e t in refused u 0 (sym B.finding ∙ lt-ltb n m l) B.below

    pub brings_all : (u : List ℕ) (n : ℕ) → wrong_old_rows ps (rows v s m) ≡ false → Table v u base (rename_rows ps (rows v s m)) n → m ≤ n → Brings w u s m base k ps false n
    brings_all u n e t l = subst (λ b. Brings w u s m base k ps b n) (le-ltb n m l) (brings u n e t)
