-- Rows merged into a table: it has at least the new rows more.
use mathlib.Core.Path.{◌≡◌, refl, ap₂, subst}
use mathlib.Core.Bool.{Bool, true, false, cond, ◌||◌}
use mathlib.Core.List.{List, [], ◌∷◌}
use Prim.Native.Nat.{ℕ, zero, suc, ◌+◌, ◌*◌, ◌≤◌, ◌<◌}
use native.Mathlib.Omega.{arith}
use lib.Dec.{ltb, eqb}
use lib.ListN.{length, get_or}
use Rattle.reader_rules.specs.Decode.{pairs_from}
use Rattle.types_rules.specs.Formed.{Ascending}
use Rattle.checker_signatures.specs.Rows.{rows, identifiers_of, has_row, insert_row, merge_rows}
use Rattle.checker_includes.specs.NewRows.{new_rows}
use Rattle.checker_includes.proofs.NewRowLaws.{insert_new}

insert_least : (i p : ℕ) (rs : List (ℕ × ℕ)) → cond (has_row i rs) (length rs) (suc (length rs)) ≤ length (insert_row i p rs)
unfolding insert_row has_row
insert_least i p [] = omega arith
insert_least i p (r ∷ rs) = go (eqb i r.0) (ltb i r.0) (has_row i rs) (insert_least i p rs)
  where
    go : (a b c : Bool) → cond c (length rs) (suc (length rs)) ≤ length (insert_row i p rs) →
        cond (a || c) (suc (length rs)) (suc (suc (length rs))) ≤ length (cond a (r ∷ rs) (cond b ((i, p) ∷ r ∷ rs) (r ∷ insert_row i p rs)))
    go true b c h = omega arith
    go false true true h = omega arith
    go false true false h = omega arith
    go false false true h = omega arith
    go false false false h = omega arith

but_first : (i : ℕ) (l : List ℕ) → Ascending (i ∷ l) → Ascending l
but_first i [] a = tt
but_first i (k ∷ l) a = a.1

pub merged_more : (xs rs : List (ℕ × ℕ)) → Ascending (identifiers_of xs) → length rs + new_rows xs rs ≤ length (merge_rows xs rs)
unfolding merge_rows new_rows identifiers_of
merged_more [] rs a = omega arith
merged_more (x ∷ xs) rs a =
    let h = merged_more xs (insert_row x.0 x.1 rs) (but_first x.0 (identifiers_of xs) a) in
    let e = insert_new x.0 x.1 xs rs a in
    go (has_row x.0 rs) (insert_least x.0 x.1 rs) (omega arith)
  where
    go : (b : Bool) → cond b (length rs) (suc (length rs)) ≤ length (insert_row x.0 x.1 rs) →
        length (insert_row x.0 x.1 rs) + new_rows xs rs ≤ length (merge_rows xs (insert_row x.0 x.1 rs)) →
        length rs + cond b (new_rows xs rs) (suc (new_rows xs rs)) ≤ length (merge_rows xs (insert_row x.0 x.1 rs))
    go true h k = omega arith
    go false h k = omega arith

-- Rows with the same identifiers, in other words.
module _ (w v : List ℕ) where
  abbrev Named : ℕ → ℕ → Type 0
  Named p k = (j : ℕ) → j < k → get_or v (p + 2 * j) 0 ≡ get_or w (p + 2 * j) 0

  first_named : (p k : ℕ) → Named p (suc k) → get_or v p 0 ≡ get_or w p 0
  first_named p k N = subst (λ z. get_or v z 0 ≡ get_or w z 0) (let z : p + 2 * 0 ≡ p = omega arith in z) (N 0 (omega arith))

  rest_named : (p k : ℕ) → Named p (suc k) → Named (suc (suc p)) k
  rest_named p k N j l = subst (λ z. get_or v z 0 ≡ get_or w z 0) (let z : p + 2 * suc j ≡ suc (suc p) + 2 * j = omega arith in z) (N (suc j) (omega arith))

  pub names_same : (p k : ℕ) → Named p k → identifiers_of (rows v p k) ≡ identifiers_of (rows w p k)
  unfolding identifiers_of pairs_from
  names_same p zero N = refl
  names_same p (suc k) N = ap₂ ◌∷◌ (first_named p k N) (names_same (suc (suc p)) k (rest_named p k N))

  pub new_same : (rs : List (ℕ × ℕ)) (p k : ℕ) → Named p k → new_rows (rows v p k) rs ≡ new_rows (rows w p k) rs
  unfolding new_rows pairs_from
  new_same rs p zero N = refl
  new_same rs p (suc k) N = ap₂ (λ i x. cond (has_row i rs) x (suc x)) (first_named p k N) (new_same rs (suc (suc p)) k (rest_named p k N))
