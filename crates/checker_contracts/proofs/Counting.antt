-- How many identifiers a signature has, with a Decl's: 38; and where none is new, the signature and its table are what they were.
use mathlib.Core.Path.{◌≡◌, refl, sym, ap, ◌∙◌}
use mathlib.Core.Bool.{Bool, true, false, cond}
use mathlib.Core.List.{List, [], ◌∷◌}
use Prim.Native.Nat.{ℕ, suc, ◌≤◌, ◌<◌}
use native.Mathlib.Omega.{arith}
use lib.Dec.{ltb, eqb}
use lib.ListN.{length}
use borrow.Author.Tests.{lt-ltb, le-ltb}
use Rattle.types_rules.specs.Types.{Term}
use Rattle.checker_rules.specs.Conditions.{refuse_if, few_names}
use Rattle.checker_rules.specs.Items.{Items, skip, Refuses, MeetsIn}
use Rattle.checker_rules.specs.Signatures.{Signature, no_names, naming, count_names, insert_name, declare}
use Rattle.checker_signatures.specs.Rows.{insert_row, declare_rows}
use Rattle.checker_signatures.proofs.TableLaws.{insert_count}
use Rattle.checker_pieces.specs.Piece.{Steady, Walked}
use Rattle.checker_pieces.proofs.Between.{walked_skip, refused}

pub declare_grows : (is : List ℕ) (p : ℕ) (rs : List (ℕ × ℕ)) → length rs ≤ length (declare_rows is p rs)
unfolding declare_rows
declare_grows [] p rs = omega arith
declare_grows (i ∷ is) p rs = let a = (insert_count i p rs).0 in let b = declare_grows is p (insert_row i p rs) in omega arith

insert_same : (i p : ℕ) (rs : List (ℕ × ℕ)) → length (insert_row i p rs) ≡ length rs → insert_row i p rs ≡ rs
unfolding insert_row
insert_same i p [] e = absurd (omega arith)
insert_same i p (r ∷ rs) e = go (eqb i r.0) (ltb i r.0) (insert_same i p rs) e
  where
    go : (a b : Bool) → (length (insert_row i p rs) ≡ length rs → insert_row i p rs ≡ rs) →
        length (cond a (r ∷ rs) (cond b ((i, p) ∷ r ∷ rs) (r ∷ insert_row i p rs))) ≡ suc (length rs) → cond a (r ∷ rs) (cond b ((i, p) ∷ r ∷ rs) (r ∷ insert_row i p rs)) ≡ r ∷ rs
    go true b f q = refl
    go false true f q = absurd (omega arith)
    go false false f q = ap (◌∷◌ r) (f (omega arith))

pub declare_same : (is : List ℕ) (p : ℕ) (rs : List (ℕ × ℕ)) → length (declare_rows is p rs) ≡ length rs → declare_rows is p rs ≡ rs
unfolding declare_rows
declare_same [] p rs e = refl
declare_same (i ∷ is) p rs e =
    let a = (insert_count i p rs).0 in
    let b = declare_grows is p (insert_row i p rs) in
    declare_same is p (insert_row i p rs) (omega arith) ∙ insert_same i p rs (omega arith)

-- The same of signatures.
insert_names : (i : ℕ) (t : Term) (s : Signature) → count_names s ≤ count_names (insert_name i t s)
unfolding insert_name count_names
insert_names i t no_names = omega arith
insert_names i t (naming j u s) = go (eqb i j) (ltb i j) (insert_names i t s)
  where
    go : (a b : Bool) → count_names s ≤ count_names (insert_name i t s) →
        suc (count_names s) ≤ count_names (cond a (naming j u s) (cond b (naming i t (naming j u s)) (naming j u (insert_name i t s))))
    go true b h = omega arith
    go false true h = omega arith
    go false false h = omega arith

declare_names : (is : List ℕ) (t : Term) (s : Signature) → count_names s ≤ count_names (declare is t s)
unfolding declare
declare_names [] t s = omega arith
declare_names (i ∷ is) t s = let a = insert_names i t s in let b = declare_names is t (insert_name i t s) in omega arith

insert_kept : (i : ℕ) (t : Term) (s : Signature) → count_names (insert_name i t s) ≡ count_names s → insert_name i t s ≡ s
unfolding insert_name count_names
insert_kept i t no_names e = absurd (omega arith)
insert_kept i t (naming j u s) e = go (eqb i j) (ltb i j) (insert_kept i t s) e
  where
    go : (a b : Bool) → (count_names (insert_name i t s) ≡ count_names s → insert_name i t s ≡ s) →
        count_names (cond a (naming j u s) (cond b (naming i t (naming j u s)) (naming j u (insert_name i t s)))) ≡ suc (count_names s) →
        cond a (naming j u s) (cond b (naming i t (naming j u s)) (naming j u (insert_name i t s))) ≡ naming j u s
    go true b f q = refl
    go false true f q = absurd (omega arith)
    go false false f q = ap (naming j u) (f (omega arith))

pub declare_kept : (is : List ℕ) (t : Term) (s : Signature) → count_names (declare is t s) ≡ count_names s → declare is t s ≡ s
unfolding declare
declare_kept [] t s e = refl
declare_kept (i ∷ is) t s e =
    let a = insert_names i t s in
    let b = declare_names is t (insert_name i t s) in
    declare_kept is t (insert_name i t s) (omega arith) ∙ insert_kept i t s (omega arith)

-- 38: at most 16.
pub few_noted : (H : Items) (U : List ℕ) (M : ℕ → Type 0) (n : ℕ) (s : Signature) → Steady H U → count_names s ≤ 16 → Walked H (few_names n s) U U M
unfolding few_names refuse_if
few_noted H U M n s S l = rw (le-ltb 16 (count_names s) l) (walked_skip H U M S)

pub few_refused : (H : Items) (n : ℕ) (s : Signature) → 16 < count_names s → Refuses (few_names n s) (MeetsIn H) 38 n
unfolding few_names refuse_if
few_refused H n s l = rw (lt-ltb 16 (count_names s) l) (refused H 38 n)
