-- The loops of merge, declare and rename, one turn at a time.
use mathlib.Core.Path.{◌≡◌, sym, ap, ◌∙◌}
use mathlib.Core.List.{List, []}
use Prim.Native.Nat.{ℕ, ◌+◌, ◌-◌, ◌*◌, ◌≤◌, ◌<◌}
use native.Mathlib.Omega.{arith}
use lib.ListN.{length, get_or, drop}
use Rattle.words.proofs.Lists.{drop_next, drop_done}
use Rattle.checker_rules.specs.Signatures.{renamed}
use Rattle.checker_signatures.specs.Rows.{rows, insert_row, merge_rows, declare_rows, rename_rows}
use Rattle.checker_signatures.proofs.InsertLaws.{rows_from, rows_done, rows_all}

module _ (w : List ℕ) (s k : ℕ) where
  pub merge_start : (rs : List (ℕ × ℕ)) → merge_rows (rows w s k) rs ≡ merge_rows (rows w (s + 2 * 0) (k - 0)) rs
  merge_start rs = ap (λ (l : List (ℕ × ℕ)). merge_rows l rs) (rows_all w s k)

  pub merge_go : (j : ℕ) → j < k → (x y : ℕ) → x ≡ get_or w (s + 2 * j) 0 → y ≡ get_or w (s + 2 * j + 1) 0 → (rs qs : List (ℕ × ℕ)) → qs ≡ insert_row x y rs
      → merge_rows (rows w (s + 2 * j) (k - j)) rs ≡ merge_rows (rows w (s + 2 * (j + 1)) (k - (j + 1))) qs
  unfolding merge_rows
  merge_go j h x y e f rs qs q =
      let l = rows w (s + 2 * (j + 1)) (k - (j + 1)) in
      ap (λ (z : List (ℕ × ℕ)). merge_rows z rs) (rows_from w s k j h)
      ∙ ap (λ (a : ℕ). merge_rows l (insert_row a (get_or w (s + 2 * j + 1) 0) rs)) (sym e)
      ∙ ap (λ (a : ℕ). merge_rows l (insert_row x a rs)) (sym f)
      ∙ ap (merge_rows l) (sym q)

  pub merge_end : (j : ℕ) → k ≤ j → (rs : List (ℕ × ℕ)) → merge_rows (rows w (s + 2 * j) (k - j)) rs ≡ rs
  unfolding merge_rows
  merge_end j h rs = ap (λ (l : List (ℕ × ℕ)). merge_rows l rs) (rows_done w (s + 2 * j) k j h)

module _ (w : List ℕ) (p i : ℕ) (rs : List (ℕ × ℕ)) where
  pub declare_go : i < length w → (x : ℕ) → x ≡ get_or w i 0 → (qs : List (ℕ × ℕ)) → qs ≡ insert_row x p rs
      → declare_rows (drop i w) p rs ≡ declare_rows (drop (i + 1) w) p qs
  unfolding declare_rows
  declare_go h x e qs q =
      ap (λ (l : List ℕ). declare_rows l p rs) (drop_next w i h)
      ∙ ap (λ (a : ℕ). declare_rows (drop (i + 1) w) p (insert_row a p rs)) (sym e)
      ∙ ap (declare_rows (drop (i + 1) w) p) (sym q)

  pub declare_end : length w ≤ i → declare_rows (drop i w) p rs ≡ rs
  unfolding declare_rows
  declare_end h = ap (λ (l : List ℕ). declare_rows l p rs) (drop_done w i h)

-- from the last row to the first
module _ (ps : List (ℕ × ℕ)) (w : List ℕ) (s m : ℕ) where
  pub rename_start : rename_rows ps (rows w (s + 2 * m) (m - m)) ≡ []
  unfolding rename_rows
  rename_start = ap (rename_rows ps) (rows_done w (s + 2 * m) m m (omega arith))

  rename_at : (j : ℕ) → j < m → (x y : ℕ) → x ≡ renamed ps (get_or w (s + 2 * j) 0) → y ≡ get_or w (s + 2 * j + 1) 0
      → rename_rows ps (rows w (s + 2 * j) (m - j)) ≡ insert_row x y (rename_rows ps (rows w (s + 2 * (j + 1)) (m - (j + 1))))
  unfolding rename_rows
  rename_at j h x y e f =
      let l = rename_rows ps (rows w (s + 2 * (j + 1)) (m - (j + 1))) in
      ap (rename_rows ps) (rows_from w s m j h)
      ∙ ap (λ (a : ℕ). insert_row a (get_or w (s + 2 * j + 1) 0) l) (sym e)
      ∙ ap (λ (a : ℕ). insert_row x a l) (sym f)

  pub rename_go : (j : ℕ) → 0 < j → j ≤ m → (x y : ℕ) → x ≡ renamed ps (get_or w (s + 2 * (j - 1)) 0) → y ≡ get_or w (s + 2 * (j - 1) + 1) 0
      → rename_rows ps (rows w (s + 2 * (j - 1)) (m - (j - 1))) ≡ insert_row x y (rename_rows ps (rows w (s + 2 * j) (m - j)))
  rename_go j h l x y e f =
      let g : j - 1 + 1 ≡ j = omega arith in
      rename_at (j - 1) (omega arith) x y e f ∙ ap (λ (n : ℕ). insert_row x y (rename_rows ps (rows w (s + 2 * n) (m - n)))) g
