-- The number of rows that a table does not have yet: it is what a merge adds.
use mathlib.Core.Path.{◌≡◌, refl, sym, ap, ap₂, ◌∙◌}
use mathlib.Core.Bool.{Bool, true, false, ◌||◌, cond}
use mathlib.Core.Logic.{⊎_elim}
use mathlib.Core.List.{List, [], ◌∷◌, ◌++◌}
use Prim.Native.Nat.{ℕ, suc, ◌+◌, ◌*◌, ◌≤◌, ◌<◌}
use native.Mathlib.Omega.{arith}
use lib.Dec.{ltb, eqb}
use lib.ListN.{length, get_or}
use borrow.Author.Tests.{ne_eqb, eqb-false, ltb-true, ltb-false}
use Rattle.reader_rules.specs.Decode.{pairs_from}
use Rattle.types_rules.specs.Formed.{Ascending}
use Rattle.checker_rules.specs.Signatures.{renamed}
use Rattle.types_cells.proofs.Growing.{lt_or_ge}
use Rattle.checker_signatures.specs.Rows.{rows, identifiers_of, has_row, insert_row, merge_rows, rename_rows}
use Rattle.checker_signatures.proofs.RowLaws.{rows_length_lem}
use Rattle.checker_signatures.proofs.InsertLaws.{rows_more}
use Rattle.checker_includes.specs.NewRows.{new_rows}

-- Each row counts once at most.
pub new_few : (xs rs : List (ℕ × ℕ)) → new_rows xs rs ≤ length xs
unfolding new_rows
new_few [] rs = omega arith
new_few (x ∷ xs) rs = go (has_row x.0 rs) (new_few xs rs)
  where
    go : (b : Bool) → new_rows xs rs ≤ length xs → cond b (new_rows xs rs) (suc (new_rows xs rs)) ≤ suc (length xs)
    go true l = omega arith
    go false l = omega arith

pub new_both : (xs ys rs : List (ℕ × ℕ)) → new_rows (xs ++ ys) rs ≡ new_rows xs rs + new_rows ys rs
unfolding new_rows
new_both [] ys rs = let e : new_rows ys rs ≡ 0 + new_rows ys rs = omega arith in e
new_both (x ∷ xs) ys rs = go (has_row x.0 rs) (new_both xs ys rs)
  where
    go : (b : Bool) → new_rows (xs ++ ys) rs ≡ new_rows xs rs + new_rows ys rs →
        cond b (new_rows (xs ++ ys) rs) (suc (new_rows (xs ++ ys) rs)) ≡ cond b (new_rows xs rs) (suc (new_rows xs rs)) + new_rows ys rs
    go true e = e
    go false e = omega arith

-- The rows of a work area.
pub rows_few : (w : List ℕ) (b k : ℕ) (rs : List (ℕ × ℕ)) → new_rows (rows w b k) rs ≤ k
rows_few w b k rs = let l = new_few (rows w b k) rs in let e = rows_length_lem w b k in omega arith

pub one_more : (w : List ℕ) (b j : ℕ) (rs : List (ℕ × ℕ)) → new_rows (rows w b (j + 1)) rs ≡ new_rows (rows w b j) rs + new_rows (rows w (b + 2 * j) 1) rs
unfolding new_rows pairs_from
one_more w b j rs = ap (λ l. new_rows l rs) (rows_more w b j) ∙ new_both (rows w b j) _ rs

pub one_new : (w : List ℕ) (r : ℕ) (rs : List (ℕ × ℕ)) → has_row (get_or w r 0) rs ≡ false → new_rows (rows w r 1) rs ≡ 1
unfolding new_rows pairs_from
one_new w r rs e = rw e

-- only its identifier counts
pub one_same : (w w' : List ℕ) (r : ℕ) (rs : List (ℕ × ℕ)) → get_or w r 0 ≡ get_or w' r 0 → new_rows (rows w r 1) rs ≡ new_rows (rows w' r 1) rs
unfolding new_rows pairs_from
one_same w w' r rs e = ap (λ i. cond (has_row i rs) 0 1) e

-- ASCENDING identifiers.
lower_first : (i j : ℕ) (l : List ℕ) → i < j → Ascending (j ∷ l) → Ascending (i ∷ l)
lower_first i j [] h a = tt
lower_first i j (k ∷ l) h a = let b = a.0 in (omega arith, a.1)

but_first : (i : ℕ) (l : List ℕ) → Ascending (i ∷ l) → Ascending l
but_first i [] a = tt
but_first i (k ∷ l) a = a.1

first_absent : (i : ℕ) (rs : List (ℕ × ℕ)) → Ascending (i ∷ identifiers_of rs) → has_row i rs ≡ false
unfolding identifiers_of has_row
first_absent i [] a = refl
first_absent i (r ∷ rs) a =
    let l = a.0 in
    let e : eqb i r.0 ≡ false = ne_eqb i r.0 (λ q. omega arith) in
    let f = first_absent i rs (lower_first i r.0 (identifiers_of rs) l a.1) in
    rw (e, f)

-- INSERTING one row: other identifiers are found as before, the order stays, and the row counts if it is new.
insert_others : (i p j : ℕ) (rs : List (ℕ × ℕ)) → eqb j i ≡ false → has_row j (insert_row i p rs) ≡ has_row j rs
unfolding insert_row has_row
insert_others i p j [] e = rw e
insert_others i p j (r ∷ rs) e = go (eqb i r.0) (ltb i r.0) (insert_others i p j rs e)
  where
    go : (a b : Bool) → has_row j (insert_row i p rs) ≡ has_row j rs → has_row j (cond a (r ∷ rs) (cond b ((i, p) ∷ r ∷ rs) (r ∷ insert_row i p rs))) ≡ has_row j (r ∷ rs)
    go true b h = refl
    go false true h = rw e
    go false false h = ap (λ z. eqb j r.0 || z) h

past : (i j : ℕ) → eqb i j ≡ false → ltb i j ≡ false → j < i
past i j e l = let n = eqb-false i j e in let m : j ≤ i = ltb-false i j l in ⊎_elim (λ (q : j < i). q) (λ (q : i ≤ j). absurd (n (omega arith))) (lt_or_ge j i)

after_insert : (j i p : ℕ) (rs : List (ℕ × ℕ)) → j < i → Ascending (j ∷ identifiers_of rs) → Ascending (j ∷ identifiers_of (insert_row i p rs))
unfolding insert_row identifiers_of
after_insert j i p [] l h = (l, tt)
after_insert j i p (r ∷ rs) l h = go (λ q. after_insert r.0 i p rs q h.1) (eqb i r.0) refl (ltb i r.0) refl
  where
    go : (r.0 < i → Ascending (r.0 ∷ identifiers_of (insert_row i p rs))) → (a : Bool) → eqb i r.0 ≡ a → (b : Bool) → ltb i r.0 ≡ b →
        Ascending (j ∷ identifiers_of (cond a (r ∷ rs) (cond b ((i, p) ∷ r ∷ rs) (r ∷ insert_row i p rs))))
    go f true e b q = h
    go f false e true q = (l, (ltb-true i r.0 q, h.1))
    go f false e false q = (h.0, f (past i r.0 e q))

pub insert_ascending : (i p : ℕ) (rs : List (ℕ × ℕ)) → Ascending (identifiers_of rs) → Ascending (identifiers_of (insert_row i p rs))
unfolding insert_row identifiers_of
insert_ascending i p [] h = tt
insert_ascending i p (r ∷ rs) h = go (eqb i r.0) refl (ltb i r.0) refl
  where
    go : (a : Bool) → eqb i r.0 ≡ a → (b : Bool) → ltb i r.0 ≡ b → Ascending (identifiers_of (cond a (r ∷ rs) (cond b ((i, p) ∷ r ∷ rs) (r ∷ insert_row i p rs))))
    go true e b q = h
    go false e true q = (ltb-true i r.0 q, h)
    go false e false q = after_insert r.0 i p rs (past i r.0 e q) h

insert_length : (i p : ℕ) (rs : List (ℕ × ℕ)) → Ascending (identifiers_of rs) → length (insert_row i p rs) ≡ cond (has_row i rs) (length rs) (suc (length rs))
unfolding insert_row has_row identifiers_of
insert_length i p [] h = refl
insert_length i p (r ∷ rs) h = go (eqb i r.0) (ltb i r.0) refl (insert_length i p rs (but_first r.0 (identifiers_of rs) h))
  where
    more : (b : Bool) → suc (cond b (length rs) (suc (length rs))) ≡ cond b (suc (length rs)) (suc (suc (length rs)))
    more true = refl
    more false = refl

    go : (a b : Bool) → ltb i r.0 ≡ b → length (insert_row i p rs) ≡ cond (has_row i rs) (length rs) (suc (length rs)) →
        length (cond a (r ∷ rs) (cond b ((i, p) ∷ r ∷ rs) (r ∷ insert_row i p rs))) ≡ cond (a || has_row i rs) (suc (length rs)) (suc (suc (length rs)))
    go true b q e = refl
    go false true q e = sym (ap (λ z. cond z (suc (length rs)) (suc (suc (length rs)))) (first_absent i rs (lower_first i r.0 (identifiers_of rs) (ltb-true i r.0 q) h)))
    go false false q e = ap suc e ∙ more (has_row i rs)

-- A row whose identifier is before those of xs: the number of xs stays.
pub insert_new : (i p : ℕ) (xs rs : List (ℕ × ℕ)) → Ascending (i ∷ identifiers_of xs) → new_rows xs (insert_row i p rs) ≡ new_rows xs rs
unfolding new_rows identifiers_of
insert_new i p [] rs h = refl
insert_new i p (x ∷ xs) rs h =
    let l = h.0 in
    let e = insert_others i p x.0 rs (ne_eqb x.0 i (λ q. omega arith)) in
    let f = insert_new i p xs rs (lower_first i x.0 (identifiers_of xs) l h.1) in
    rw (e, f)

-- A MERGE adds the new rows.
pub merged_length : (xs rs : List (ℕ × ℕ)) → Ascending (identifiers_of xs) → Ascending (identifiers_of rs) → length (merge_rows xs rs) ≡ length rs + new_rows xs rs
unfolding merge_rows new_rows identifiers_of
merged_length [] rs a h = omega arith
merged_length (x ∷ xs) rs a h =
    merged_length xs (insert_row x.0 x.1 rs) (but_first x.0 (identifiers_of xs) a) (insert_ascending x.0 x.1 rs h)
    ∙ ap₂ (λ u v. u + v) (insert_length x.0 x.1 rs h) (insert_new x.0 x.1 xs rs a)
    ∙ go (has_row x.0 rs)
  where
    go : (b : Bool) → cond b (length rs) (suc (length rs)) + new_rows xs rs ≡ length rs + cond b (new_rows xs rs) (suc (new_rows xs rs))
    go true = refl
    go false = omega arith

pub renamed_ascending : (ps rs : List (ℕ × ℕ)) → Ascending (identifiers_of (rename_rows ps rs))
unfolding rename_rows identifiers_of
renamed_ascending ps [] = tt
renamed_ascending ps (r ∷ rs) = insert_ascending (renamed ps r.0) r.1 (rename_rows ps rs) (renamed_ascending ps rs)
