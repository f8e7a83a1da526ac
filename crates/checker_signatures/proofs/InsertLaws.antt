-- The loops of find, put_before and insert, one turn at a time.
use mathlib.Core.Path.{◌≡◌, sym, ap, ◌∙◌}
use mathlib.Core.Bool.{true, false}
use mathlib.Core.List.{List, [], ◌∷◌, ◌++◌, append_assoc}
use mathlib.Core.Option.{Option, some, none as nothing}
use Prim.Native.Nat.{ℕ, suc, ◌+◌, ◌-◌, ◌*◌, ◌≤◌, ◌<◌}
use native.Mathlib.Omega.{arith}
use native.Mathlib.Numerals.{add-one}
use lib.Dec.{eqb}
use lib.ListN.{length, get_or, length-append}
use lib.Seq.{sets}
use borrow.Author.Tests.{eq-eqb, ne_eqb}
use Rattle.reader_rules.specs.Decode.{pairs_from}
use Rattle.checker_signatures.specs.Rows.{rows, flat, place_in, insert_row}
use Rattle.checker_signatures.specs.Tables.{Table}
use Rattle.checker_signatures.proofs.RowLaws.{rows_kept, rows_next, rows_last, rows_length_lem, place_last, get_d_above}
use Rattle.checker_signatures.proofs.TableLaws.{insert_there, insert_before, insert_after, table_self, table_after}

-- the first of the rows from row j on
pub rows_from : (w : List ℕ) (b m j : ℕ) → j < m
    → rows w (b + 2 * j) (m - j) ≡ (get_or w (b + 2 * j) 0, get_or w (b + 2 * j + 1) 0) ∷ rows w (b + 2 * (j + 1)) (m - (j + 1))
rows_from w b m j h =
    let e : m - j ≡ suc (m - (j + 1)) = omega arith in
    let f : suc (suc (b + 2 * j)) ≡ b + 2 * (j + 1) = omega arith in
    ap (rows w (b + 2 * j)) e
    ∙ rows_next w (b + 2 * j) (m - (j + 1))
    ∙ ap (λ (k : ℕ). (get_or w (b + 2 * j) 0, get_or w k 0) ∷ rows w (suc (suc (b + 2 * j))) (m - (j + 1))) (sym (add-one (b + 2 * j)))
    ∙ ap (λ (k : ℕ). (get_or w (b + 2 * j) 0, get_or w (b + 2 * j + 1) 0) ∷ rows w k (m - (j + 1))) f

pub rows_done : (w : List ℕ) (b m j : ℕ) → m ≤ j → rows w b (m - j) ≡ []
unfolding pairs_from
rows_done w b m j h = let e : m - j ≡ 0 = omega arith in ap (rows w b) e

pub rows_all : (w : List ℕ) (b m : ℕ) → rows w b m ≡ rows w (b + 2 * 0) (m - 0)
rows_all w b m =
    let e : b ≡ b + 2 * 0 = omega arith in
    let f : m ≡ m - 0 = omega arith in
    ap (λ (k : ℕ). rows w k m) e ∙ ap (rows w (b + 2 * 0)) f

-- one row more of the first j
pub rows_more : (w : List ℕ) (b j : ℕ) → rows w b (j + 1) ≡ rows w b j ++ ((get_or w (b + 2 * j) 0, get_or w (b + 2 * j + 1) 0) ∷ [])
rows_more w b j =
    ap (rows w b) (add-one j)
    ∙ rows_last w b j
    ∙ ap (λ (k : ℕ). rows w b j ++ ((get_or w (b + 2 * j) 0, get_or w k 0) ∷ [])) (sym (add-one (b + 2 * j)))

-- find: row j, from the last down
module _ (w : List ℕ) (b i j : ℕ) (h : 0 < j) where
  found_last : (o : Option ℕ) → place_in i (rows w b (j - 1) ++ ((get_or w (b + 2 * (j - 1)) 0, get_or w (b + 2 * (j - 1) + 1) 0) ∷ [])) ≡ o → place_in i (rows w b j) ≡ o
  found_last o e =
      let f : j ≡ j - 1 + 1 = omega arith in
      ap (λ (k : ℕ). place_in i (rows w b k)) f ∙ ap (place_in i) (rows_more w b (j - 1)) ∙ e

  pub find_hit : get_or w (b + 2 * (j - 1)) 0 ≡ i → place_in i (rows w b j) ≡ some (get_or w (b + 2 * (j - 1) + 1) 0)
  find_hit e =
      let t : eqb i (get_or w (b + 2 * (j - 1)) 0) ≡ true = eq-eqb i (get_or w (b + 2 * (j - 1)) 0) (sym e) in
      found_last _ (place_last i (rows w b (j - 1)) _ ∙ rw t)

  pub find_miss : (get_or w (b + 2 * (j - 1)) 0 ≡ i → ⊥) → place_in i (rows w b j) ≡ place_in i (rows w b (j - 1))
  find_miss e =
      let t : eqb i (get_or w (b + 2 * (j - 1)) 0) ≡ false = ne_eqb i (get_or w (b + 2 * (j - 1)) 0) (λ q. e (sym q)) in
      found_last _ (place_last i (rows w b (j - 1)) _ ∙ rw t)

pub find_none : (w : List ℕ) (b i j : ℕ) → j ≤ 0 → place_in i (rows w b j) ≡ nothing
unfolding place_in pairs_from
find_none w b i j h = let e : j ≡ 0 = omega arith in ap (λ (k : ℕ). place_in i (rows w b k)) e

-- put_before: the row (i, p) before the k - j rows from row j on
unfoldable pub shifted : List ℕ → ℕ → ℕ → ℕ → ℕ → ℕ → List ℕ
shifted w b k j i p = sets w (b + 2 * j) (flat ((i, p) ∷ rows w (b + 2 * j) (k - j)))

module _ (w : List ℕ) (b k : ℕ) where
  pub shift_start : (i p : ℕ) → sets w b (flat ((i, p) ∷ rows w b k)) ≡ shifted w b k 0 i p
  unfolding shifted
  shift_start i p =
      let e : b ≡ b + 2 * 0 = omega arith in
      ap (λ (l : List (ℕ × ℕ)). sets w b (flat ((i, p) ∷ l))) (rows_all w b k)
      ∙ ap (λ (n : ℕ). sets w n (flat ((i, p) ∷ rows w (b + 2 * 0) (k - 0)))) e

  pub shift_go : (j i p : ℕ) → j < k → (v : List ℕ) → v ≡ sets w (b + 2 * j) (i ∷ p ∷ []) → (x y : ℕ) → x ≡ get_or w (b + 2 * j) 0
      → y ≡ get_or w (b + 2 * j + 1) 0 → shifted w b k j i p ≡ shifted v b k (j + 1) x y
  unfolding shifted flat
  shift_go j i p h v e x y f g =
      let q = b + 2 * j in
      let n = suc (suc q) in
      let s : n ≡ b + 2 * (j + 1) = omega arith in
      let u = sets w q (i ∷ p ∷ []) in
      let z : rows w (b + 2 * (j + 1)) (k - (j + 1)) ≡ rows u (b + 2 * (j + 1)) (k - (j + 1)) =
      sym (rows_kept w u (b + 2 * (j + 1)) (k - (j + 1)) (λ a c d. get_d_above (i ∷ p ∷ []) w q a (omega arith))) in
      ap (λ (l : List (ℕ × ℕ)). sets w q (flat ((i, p) ∷ l))) (rows_from w b k j h)
      ∙ ap (λ (l : List (ℕ × ℕ)). sets u n (get_or w q 0 ∷ get_or w (q + 1) 0 ∷ flat l)) z
      ∙ ap (λ (a : ℕ). sets u a (get_or w q 0 ∷ get_or w (q + 1) 0 ∷ flat (rows u (b + 2 * (j + 1)) (k - (j + 1))))) s
      ∙ ap (λ (l : List ℕ). sets l (b + 2 * (j + 1)) (get_or w q 0 ∷ get_or w (q + 1) 0 ∷ flat (rows l (b + 2 * (j + 1)) (k - (j + 1))))) (sym e)
      ∙ ap (λ (a : ℕ). sets v (b + 2 * (j + 1)) (a ∷ get_or w (q + 1) 0 ∷ flat (rows v (b + 2 * (j + 1)) (k - (j + 1))))) (sym f)
      ∙ ap (λ (a : ℕ). sets v (b + 2 * (j + 1)) (x ∷ a ∷ flat (rows v (b + 2 * (j + 1)) (k - (j + 1))))) (sym g)

  pub shift_end : (j i p : ℕ) → j ≡ k → shifted w b k j i p ≡ sets w (b + 2 * k) (i ∷ p ∷ [])
  unfolding shifted flat
  shift_end j i p h =
      ap (λ (l : List (ℕ × ℕ)). sets w (b + 2 * j) (flat ((i, p) ∷ l))) (rows_done w (b + 2 * j) k j (omega arith))
      ∙ ap (λ (n : ℕ). sets w (b + 2 * n) (i ∷ p ∷ [])) h

-- insert: the first j rows passed
unfoldable pub passed : List ℕ → ℕ → ℕ → ℕ → ℕ → ℕ → List (ℕ × ℕ)
passed w b m j i p = rows w b j ++ insert_row i p (rows w (b + 2 * j) (m - j))

module _ (w : List ℕ) (b m i p : ℕ) where
  abbrev all : List (ℕ × ℕ)
  all = insert_row i p (rows w b m)

  pub pass_start : all ≡ passed w b m 0 i p
  unfolding passed pairs_from
  pass_start = ap (insert_row i p) (rows_all w b m)

  pub pass_go : (j : ℕ) → j < m → get_or w (b + 2 * j) 0 < i → passed w b m j i p ≡ passed w b m (j + 1) i p
  unfolding passed
  pass_go j h l =
      let r : ℕ × ℕ = (get_or w (b + 2 * j) 0, get_or w (b + 2 * j + 1) 0) in
      let rs = rows w (b + 2 * (j + 1)) (m - (j + 1)) in
      ap (λ (x : List (ℕ × ℕ)). rows w b j ++ insert_row i p x) (rows_from w b m j h)
      ∙ ap (λ (x : List (ℕ × ℕ)). rows w b j ++ x) (insert_after i p r rs l)
      ∙ sym (append_assoc (rows w b j) (r ∷ []) (insert_row i p rs))
      ∙ ap (λ (x : List (ℕ × ℕ)). x ++ insert_row i p rs) (sym (rows_more w b j))

  -- the table where the first j rows are passed and the others are rs
  written : (v : List ℕ) (j n : ℕ) (rs : List (ℕ × ℕ)) → all ≡ passed w b m j i p → insert_row i p (rows w (b + 2 * j) (m - j)) ≡ rs
      → v ≡ sets w (b + 2 * j) (flat rs) → n ≡ j + length rs → Table w v b all n
  unfolding passed
  written v j n rs a x e c =
      let z : all ≡ rows w b j ++ rs = a ∙ ap (λ (l : List (ℕ × ℕ)). rows w b j ++ l) x in
      table_after w b v j n rs e c all z (ap length z ∙ length-append (rows w b j) rs ∙ ap (λ (k : ℕ). k + length rs) (rows_length_lem w b j))

  pub pass_there : (j : ℕ) → j < m → get_or w (b + 2 * j) 0 ≡ i → all ≡ passed w b m j i p → Table w w b all m
  pass_there j h e a =
      let r : ℕ × ℕ = (get_or w (b + 2 * j) 0, get_or w (b + 2 * j + 1) 0) in
      let rs = rows w (b + 2 * j) (m - j) in
      let x : insert_row i p rs ≡ rs =
      ap (insert_row i p) (rows_from w b m j h)
      ∙ insert_there i p r (rows w (b + 2 * (j + 1)) (m - (j + 1))) (sym e)
      ∙ sym (rows_from w b m j h) in
      let c : length rs ≡ m - j = rows_length_lem w (b + 2 * j) (m - j) in
      written w j m rs a x (table_self w (b + 2 * j) (m - j)).words (omega arith)

  pub pass_before : (j : ℕ) → j < m → i < get_or w (b + 2 * j) 0 → all ≡ passed w b m j i p → (v : List ℕ)
      → v ≡ sets w (b + 2 * j) (flat ((i, p) ∷ rows w (b + 2 * j) (m - j))) → Table w v b all (m + 1)
  pass_before j h e a v q =
      let r : ℕ × ℕ = (get_or w (b + 2 * j) 0, get_or w (b + 2 * j + 1) 0) in
      let rs = rows w (b + 2 * j) (m - j) in
      let x : insert_row i p rs ≡ (i, p) ∷ rs =
      ap (insert_row i p) (rows_from w b m j h)
      ∙ insert_before i p r (rows w (b + 2 * (j + 1)) (m - (j + 1))) e
      ∙ ap (λ (l : List (ℕ × ℕ)). (i, p) ∷ l) (sym (rows_from w b m j h)) in
      let c : length rs ≡ m - j = rows_length_lem w (b + 2 * j) (m - j) in
      written v j (m + 1) ((i, p) ∷ rs) a x q (omega arith)

  pub pass_end : (j : ℕ) → j ≡ m → all ≡ passed w b m j i p → (v : List ℕ) → v ≡ sets w (b + 2 * m) (i ∷ p ∷ []) → Table w v b all (m + 1)
  unfolding flat insert_row
  pass_end j h a v q =
      let x : insert_row i p (rows w (b + 2 * j) (m - j)) ≡ (i, p) ∷ [] = ap (insert_row i p) (rows_done w (b + 2 * j) m j (omega arith)) in
      written v j (m + 1) ((i, p) ∷ []) a x (q ∙ ap (λ (n : ℕ). sets w (b + 2 * n) (i ∷ p ∷ [])) (sym h)) (omega arith)
