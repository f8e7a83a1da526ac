-- The loops over strokes and rename pairs, one turn at a time, and finding 37 put together.
use mathlib.Core.Path.{◌≡◌, refl, sym, ap, ◌∙◌}
use mathlib.Core.Bool.{Bool, true, false, cond, ◌||◌, not, false≢true}
use mathlib.Core.List.{List, [], ◌∷◌, ◌++◌}
use mathlib.Core.Option.{Option, some, none as nothing}
use Prim.Native.Nat.{ℕ, zero, suc, ◌+◌, ◌-◌, ◌*◌, ◌/◌, ◌%◌, ◌≤◌, ◌<◌, ◌^◌}
use native.Mathlib.Omega.{arith}
use lib.Dec.{ltb, eqb}
use lib.ListN.{length, get_or, drop}
use Rattle.std.proofs.Common.{length-drop, get_or-drop}
use lib.Seq.{sets}
use borrow.Author.Tests.{eq-eqb, ne_eqb, eqb-true}
use Rattle.reader_rules.specs.Identifiers.{stroke_of}
use Rattle.reader_rules.specs.Decode.{pairs_from}
use Rattle.reader_rules.proofs.TreeLists.{pairs_go, pairs_end}
use Rattle.checker_rules.specs.Strokes.{decorate, takes}
use Rattle.checker_rules.specs.Signatures.{renamed, has_old}
use Rattle.checker_signatures.specs.Rows.{rows, flat, renames, or_place, place_in, has_row, stroked_rows, stroke_rows, rename_rows, wrong_old_rows, wrong_rows}
use Rattle.checker_signatures.proofs.RowLaws.{rows_kept, get_d_above}
use Rattle.checker_signatures.proofs.InsertLaws.{rows_from, rows_done, rows_all}

-- a stroke fits a word
pub stroke_fits : (k i : ℕ) → k < 4 → i < 2 ^ 32 → takes k i ≡ true → i + k < 2 ^ 32
unfolding takes stroke_of
stroke_fits k i h l e = go (eqb k 0) (eqb-true k 0) (eqb-true (i % 4) 0) e
  where
    go : (b : Bool) → (b ≡ true → k ≡ 0) → (eqb (i % 4) 0 ≡ true → i % 4 ≡ 0) → (b || eqb (i % 4) 0) ≡ true → i + k < 2 ^ 32
    go true f g q = let z = f refl in omega arith
    go false f g q = let z = g q in omega arith

-- the rows from row j on
module _ (w : List ℕ) (b m k j : ℕ) where
  pub stroked_on : j < m → (x : ℕ) → x ≡ get_or w (b + 2 * j) 0 → takes k x ≡ false → stroked_rows k (rows w (b + 2 * j) (m - j)) ≡ true
  unfolding stroked_rows
  stroked_on h x q e =
      let t : takes k (get_or w (b + 2 * j) 0) ≡ false = ap (takes k) (sym q) ∙ e in
      ap (stroked_rows k) (rows_from w b m j h) ∙ rw t

  pub stroked_go : j < m → (x : ℕ) → x ≡ get_or w (b + 2 * j) 0 → takes k x ≡ true
      → stroked_rows k (rows w (b + 2 * j) (m - j)) ≡ stroked_rows k (rows w (b + 2 * (j + 1)) (m - (j + 1)))
  unfolding stroked_rows
  stroked_go h x q e =
      let t : takes k (get_or w (b + 2 * j) 0) ≡ true = ap (takes k) (sym q) ∙ e in
      ap (stroked_rows k) (rows_from w b m j h) ∙ rw t

  pub stroked_end : m ≤ j → stroked_rows k (rows w (b + 2 * j) (m - j)) ≡ false
  unfolding stroked_rows
  stroked_end h = ap (stroked_rows k) (rows_done w (b + 2 * j) m j h)

  -- none is stroked: not the first, and not the others, which a write of the first leaves
  pub stroked_first : j < m → stroked_rows k (rows w (b + 2 * j) (m - j)) ≡ false → takes k (get_or w (b + 2 * j) 0) ≡ true
  stroked_first h e = go (takes k (get_or w (b + 2 * j) 0)) refl
    where
      go : (c : Bool) → takes k (get_or w (b + 2 * j) 0) ≡ c → takes k (get_or w (b + 2 * j) 0) ≡ true
      go true q = q
      go false q = absurd (false≢true (sym e ∙ stroked_on h (get_or w (b + 2 * j) 0) refl q))

  rows_above : (v : List ℕ) (x y : ℕ) → v ≡ sets w (b + 2 * j) (x ∷ y ∷ []) → rows v (b + 2 * (j + 1)) (m - (j + 1)) ≡ rows w (b + 2 * (j + 1)) (m - (j + 1))
  rows_above v x y e =
      ap (λ (u : List ℕ). rows u (b + 2 * (j + 1)) (m - (j + 1))) e
      ∙ rows_kept w (sets w (b + 2 * j) (x ∷ y ∷ [])) (b + 2 * (j + 1)) (m - (j + 1)) (λ a c d. get_d_above (x ∷ y ∷ []) w (b + 2 * j) a (omega arith))

  pub stroked_rest : j < m → stroked_rows k (rows w (b + 2 * j) (m - j)) ≡ false → (v : List ℕ) (x y : ℕ) → v ≡ sets w (b + 2 * j) (x ∷ y ∷ [])
      → stroked_rows k (rows v (b + 2 * (j + 1)) (m - (j + 1))) ≡ false
  stroked_rest h e v x y q =
      ap (stroked_rows k) (rows_above v x y q) ∙ sym (stroked_go h (get_or w (b + 2 * j) 0) refl (stroked_first h e)) ∙ e

pub stroked_start : (w : List ℕ) (b m k : ℕ) → stroked_rows k (rows w b m) ≡ stroked_rows k (rows w (b + 2 * 0) (m - 0))
stroked_start w b m k = ap (stroked_rows k) (rows_all w b m)

-- the rows from row j on with the stroke on them
unfoldable pub stroking : List ℕ → ℕ → ℕ → ℕ → ℕ → List ℕ
stroking w b m k j = sets w (b + 2 * j) (flat (stroke_rows k (rows w (b + 2 * j) (m - j))))

module _ (w : List ℕ) (b m k : ℕ) where
  pub stroking_start : sets w b (flat (stroke_rows k (rows w b m))) ≡ stroking w b m k 0
  unfolding stroking
  stroking_start =
      let e : b ≡ b + 2 * 0 = omega arith in
      ap (λ (l : List (ℕ × ℕ)). sets w b (flat (stroke_rows k l))) (rows_all w b m)
      ∙ ap (λ (n : ℕ). sets w n (flat (stroke_rows k (rows w (b + 2 * 0) (m - 0))))) e

  pub stroking_go : (j : ℕ) → j < m → (v : List ℕ) (x y : ℕ) → x ≡ get_or w (b + 2 * j) 0 → y ≡ get_or w (b + 2 * j + 1) 0
      → v ≡ sets w (b + 2 * j) ((x + k) ∷ y ∷ []) → stroking w b m k j ≡ stroking v b m k (j + 1)
  unfolding stroking flat stroke_rows decorate
  stroking_go j h v x y f g e =
      let q = b + 2 * j in
      let n = b + 2 * (j + 1) in
      let s : suc (suc q) ≡ n = omega arith in
      let l = rows w n (m - (j + 1)) in
      ap (λ (z : List (ℕ × ℕ)). sets w q (flat (stroke_rows k z))) (rows_from w b m j h)
      ∙ ap (λ (a : ℕ). sets w q ((a + k) ∷ get_or w (q + 1) 0 ∷ flat (stroke_rows k l))) (sym f)
      ∙ ap (λ (a : ℕ). sets w q ((x + k) ∷ a ∷ flat (stroke_rows k l))) (sym g)
      ∙ ap (λ (a : ℕ). sets (sets w q ((x + k) ∷ y ∷ [])) a (flat (stroke_rows k l))) s
      ∙ ap (λ (u : List ℕ). sets u n (flat (stroke_rows k l))) (sym e)
      ∙ ap (λ (z : List (ℕ × ℕ)). sets v n (flat (stroke_rows k z))) (sym (rows_above w b m k j v (x + k) y e))

  pub stroking_end : (j : ℕ) → m ≤ j → stroking w b m k j ≡ w
  unfolding stroking flat stroke_rows
  stroking_end j h = ap (λ (z : List (ℕ × ℕ)). sets w (b + 2 * j) (flat (stroke_rows k z))) (rows_done w (b + 2 * j) m j h)

pub stroke_length : (k : ℕ) (rs : List (ℕ × ℕ)) → length (stroke_rows k rs) ≡ length rs
unfolding stroke_rows
stroke_length k [] = refl
stroke_length k (r ∷ rs) = ap suc (stroke_length k rs)

-- the pairs from word i on are those of the words from there on
pairs_dropped : (n i j : ℕ) (w : List ℕ) → pairs_from (drop i w) j n ≡ pairs_from w (i + j) n
unfolding pairs_from
pairs_dropped zero i j w = refl
pairs_dropped (suc n) i j w =
    let e : i + suc j ≡ suc (i + j) = omega arith in
    let f : i + suc (suc j) ≡ suc (suc (i + j)) = omega arith in
    rw (pairs_dropped n i (suc (suc j)) w, get_or-drop, get_or-drop, e, f)

pub renames_dropped : (i : ℕ) (w : List ℕ) → renames w i ≡ renames (drop i w) 0
renames_dropped i w =
    let l = length-drop i w in
    let m : (length w - i) / 2 ≡ (length (drop i w) - 0) / 2 = omega arith in
    let z : i ≡ i + 0 = omega arith in
    ap (λ (n : ℕ). pairs_from w i n) m ∙ ap (λ (k : ℕ). pairs_from w k ((length (drop i w) - 0) / 2)) z ∙ sym (pairs_dropped ((length (drop i w) - 0) / 2) i 0 w)

-- a pair x of words and those after it, and fewer words than two
pub renames_pair : (s x t : List ℕ) → s ≡ x ++ t → length x ≡ 2 → renames s 0 ≡ (get_or x 0 0, get_or x 1 0) ∷ renames t 0
renames_pair s (a ∷ (b ∷ [])) t e l =
    let n = ap length e in
    ap (λ (v : List ℕ). renames v 0) e
    ∙ pairs_go (a ∷ (b ∷ t)) (length (a ∷ (b ∷ t))) 0 (omega arith)
    ∙ ap (λ (ps : List (ℕ × ℕ)). (a, b) ∷ ps) (renames_dropped 2 (a ∷ (b ∷ t)))
renames_pair s [] t e l = absurd (omega arith)
renames_pair s (a ∷ []) t e l = absurd (omega arith)
renames_pair s (a ∷ (b ∷ (c ∷ x))) t e l = absurd (omega arith)

pub renames_none : (s : List ℕ) → length s < 2 → renames s 0 ≡ []
renames_none s h = pairs_end s (length s) 0 (omega arith)

-- the first of the pairs ps is p, or there is none
module _ (x : ℕ) (ps qs : List (ℕ × ℕ)) (a b : ℕ) (first : ps ≡ (a, b) ∷ qs) where
  pub renamed_hit : a ≡ x → renamed ps x ≡ b
  unfolding renamed
  renamed_hit e = let t : eqb x a ≡ true = eq-eqb x a (sym e) in ap (λ (rs : List (ℕ × ℕ)). renamed rs x) first ∙ rw t

  pub renamed_go : (a ≡ x → ⊥) → renamed ps x ≡ renamed qs x
  unfolding renamed
  renamed_go e = let t : eqb x a ≡ false = ne_eqb x a (λ q. e (sym q)) in ap (λ (rs : List (ℕ × ℕ)). renamed rs x) first ∙ rw t

  pub old_hit : a ≡ x → has_old x ps ≡ true
  unfolding has_old
  old_hit e = let t : eqb x a ≡ true = eq-eqb x a (sym e) in ap (has_old x) first ∙ rw t

  pub old_go : (a ≡ x → ⊥) → has_old x ps ≡ has_old x qs
  unfolding has_old
  old_go e = let t : eqb x a ≡ false = ne_eqb x a (λ q. e (sym q)) in ap (has_old x) first ∙ rw t

pub renamed_end : (x : ℕ) (ps : List (ℕ × ℕ)) → ps ≡ [] → renamed ps x ≡ x
unfolding renamed
renamed_end x ps e = ap (λ (rs : List (ℕ × ℕ)). renamed rs x) e

pub old_end : (x : ℕ) (ps : List (ℕ × ℕ)) → ps ≡ [] → has_old x ps ≡ false
unfolding has_old
old_end x ps e = ap (has_old x) e

-- a row is there where its place is found
unfoldable found : Option ℕ → Bool
found nothing = false
found (some p) = true

has_place : (i : ℕ) (rs : List (ℕ × ℕ)) → has_row i rs ≡ found (place_in i rs)
unfolding has_row place_in found or_place
has_place i [] = refl
has_place i (r ∷ rs) = ap (λ (b : Bool). eqb i r.0 || b) (has_place i rs) ∙ go (eqb i r.0) (place_in i rs)
  where
    go : (b : Bool) (o : Option ℕ) → (b || found o) ≡ found (or_place o (cond b (some r.1) nothing))
    go true (some p) = refl
    go true nothing = refl
    go false (some p) = refl
    go false nothing = refl

pub has_found : (i p : ℕ) (rs : List (ℕ × ℕ)) → place_in i rs ≡ some p → has_row i rs ≡ true
unfolding found
has_found i p rs e = has_place i rs ∙ ap found e

pub has_none : (i : ℕ) (rs : List (ℕ × ℕ)) → place_in i rs ≡ nothing → has_row i rs ≡ false
unfolding found
has_none i rs e = has_place i rs ∙ ap found e

module _ (w : List ℕ) (i : ℕ) (rs : List (ℕ × ℕ)) where
  pub wrong_absent : 1 < length w - i → (x : ℕ) → x ≡ get_or w i 0 → has_row x rs ≡ false → wrong_old_rows (renames w i) rs ≡ true
  unfolding wrong_old_rows
  wrong_absent h x q e =
      let t : has_row (get_or w i 0) rs ≡ false = ap (λ (y : ℕ). has_row y rs) (sym q) ∙ e in
      ap (λ (ps : List (ℕ × ℕ)). wrong_old_rows ps rs) (pairs_go w (length w) i (omega arith)) ∙ rw t

  pub wrong_next : 1 < length w - i → (x : ℕ) → x ≡ get_or w i 0 → has_row x rs ≡ true
      → wrong_old_rows (renames w i) rs ≡ (has_old x (renames w (i + 2)) || wrong_old_rows (renames w (i + 2)) rs)
  unfolding wrong_old_rows
  wrong_next h x q e =
      let t : has_row (get_or w i 0) rs ≡ true = ap (λ (y : ℕ). has_row y rs) (sym q) ∙ e in
      ap (λ (ps : List (ℕ × ℕ)). wrong_old_rows ps rs) (pairs_go w (length w) i (omega arith))
      ∙ ap (λ (c : Bool). not c || (has_old (get_or w i 0) (renames w (i + 2)) || wrong_old_rows (renames w (i + 2)) rs)) t
      ∙ ap (λ (y : ℕ). has_old y (renames w (i + 2)) || wrong_old_rows (renames w (i + 2)) rs) (sym q)

  pub wrong_end : length w - i ≤ 1 → wrong_old_rows (renames w i) rs ≡ false
  unfolding wrong_old_rows
  wrong_end h = ap (λ (ps : List (ℕ × ℕ)). wrong_old_rows ps rs) (pairs_end w (length w) i (omega arith))

-- 37
module _ (k : ℕ) (ps rs : List (ℕ × ℕ)) where
  pub wrong_stroked : stroked_rows k rs ≡ true → wrong_rows k ps rs ≡ true
  unfolding wrong_rows
  wrong_stroked e = rw e

  pub wrong_old_lem : stroked_rows k rs ≡ false → wrong_old_rows ps (stroke_rows k rs) ≡ true → wrong_rows k ps rs ≡ true
  unfolding wrong_rows
  wrong_old_lem e f = rw (e, f)

  pub wrong_count : stroked_rows k rs ≡ false → wrong_old_rows ps (stroke_rows k rs) ≡ false
      → wrong_rows k ps rs ≡ ltb (length (rename_rows ps (stroke_rows k rs))) (length rs)
  unfolding wrong_rows
  wrong_count e f = rw (e, f)
