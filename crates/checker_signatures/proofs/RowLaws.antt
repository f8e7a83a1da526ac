-- Rows in words: read back, left alone by writes elsewhere, and one row more.
use mathlib.Core.Path.{◌≡◌, refl, ap, ◌∙◌}
use mathlib.Core.Bool.{Bool, true, false, cond}
use mathlib.Core.Logic.{◌⊎◌, inl, inr}
use mathlib.Core.List.{List, [], ◌∷◌, ◌++◌}
use mathlib.Core.Option.{Option, some, none as nothing}
use Prim.Native.Nat.{ℕ, zero, suc, ◌+◌, ◌*◌, ◌≤◌, ◌<◌}
use native.Mathlib.Omega.{arith}
use lib.Dec.{eqb}
use lib.ListN.{length, get_or, set, take, drop, length-set}
use lib.Seq.{sets, get_or-set_same, get_or-set_other, set-get_or, set-set, set_comm, take-set-le, drop-set-lt}
use Rattle.reader_rules.specs.Decode.{pairs_from}
use Rattle.checker_signatures.specs.Rows.{rows, flat, or_place, place_in}

-- runs of stores
pub get_d_below : (vs w : List ℕ) (i k : ℕ) → k < i → get_or (sets w i vs) k 0 ≡ get_or w k 0
get_d_below [] w i k h = refl
get_d_below (v ∷ vs) w i k h = get_d_below vs (set w i v) (suc i) k (omega arith) ∙ get_or-set_other w i k v 0 (λ e. omega arith)

pub get_d_above : (vs w : List ℕ) (i k : ℕ) → i + length vs ≤ k → get_or (sets w i vs) k 0 ≡ get_or w k 0
get_d_above [] w i k h = refl
get_d_above (v ∷ vs) w i k h = get_d_above vs (set w i v) (suc i) k (omega arith) ∙ get_or-set_other w i k v 0 (λ e. omega arith)

pub take_sets : (vs w : List ℕ) (i n : ℕ) → n ≤ i → take n (sets w i vs) ≡ take n w
take_sets [] w i n h = refl
take_sets (v ∷ vs) w i n h = take_sets vs (set w i v) (suc i) n (omega arith) ∙ take-set-le n w i v h

pub drop_sets : (vs w : List ℕ) (i n : ℕ) → i + length vs ≤ n → drop n (sets w i vs) ≡ drop n w
drop_sets [] w i n h = refl
drop_sets (v ∷ vs) w i n h = drop_sets vs (set w i v) (suc i) n (omega arith) ∙ drop-set-lt n w i v (omega arith)

pub set_sets : (vs w : List ℕ) (i k x : ℕ) → k < i → set (sets w i vs) k x ≡ sets (set w k x) i vs
set_sets [] w i k x h = refl
set_sets (v ∷ vs) w i k x h =
    set_sets vs (set w i v) (suc i) k x (omega arith) ∙ ap (λ (u : List ℕ). sets u (suc i) vs) (set_comm w i k v x (λ e. omega arith))

-- a run over a run that is no longer
pub sets_sets : (us vs w : List ℕ) (i : ℕ) → length us ≤ length vs → sets (sets w i us) i vs ≡ sets w i vs
sets_sets [] vs w i h = refl
sets_sets (u ∷ us) [] w i h = absurd (omega arith)
sets_sets (u ∷ us) (v ∷ vs) w i h =
    ap (λ (x : List ℕ). sets x (suc i) vs) (set_sets us (set w i u) (suc i) i v (omega arith))
    ∙ ap (λ (x : List ℕ). sets (sets x (suc i) us) (suc i) vs) (set-set w i u v)
    ∙ sets_sets us vs (set w i v) (suc i) (omega arith)

-- the words of rows are two for each
pub flat_length : (rs : List (ℕ × ℕ)) → length (flat rs) ≡ 2 * length rs
unfolding flat
flat_length [] = refl
flat_length (r ∷ rs) = let h = flat_length rs in omega arith

pub rows_length_lem : (w : List ℕ) (b n : ℕ) → length (rows w b n) ≡ n
unfolding pairs_from
rows_length_lem w b zero = refl
rows_length_lem w b (suc n) = ap suc (rows_length_lem w (suc (suc b)) n)

-- equal words, equal rows
pub rows_kept : (w v : List ℕ) (b n : ℕ) → ((k : ℕ) → b ≤ k → k < b + 2 * n → get_or v k 0 ≡ get_or w k 0) → rows v b n ≡ rows w b n
unfolding pairs_from
rows_kept w v b zero h = refl
rows_kept w v b (suc n) h =
    let x = h b (omega arith) (omega arith) in
    let y = h (suc b) (omega arith) (omega arith) in
    let r = rows_kept w v (suc (suc b)) n (λ k p q. h k (omega arith) (omega arith)) in
    cc

-- the first of the rows, and the last
pub rows_next : (w : List ℕ) (b n : ℕ) → rows w b (suc n) ≡ (get_or w b 0, get_or w (suc b) 0) ∷ rows w (suc (suc b)) n
unfolding pairs_from
rows_next w b n = refl

pub rows_last : (w : List ℕ) (b n : ℕ) → rows w b (suc n) ≡ rows w b n ++ ((get_or w (b + 2 * n) 0, get_or w (suc (b + 2 * n)) 0) ∷ [])
unfolding pairs_from
rows_last w b zero = let e : b ≡ b + 2 * 0 = omega arith in ap (λ (k : ℕ). (get_or w k 0, get_or w (suc k) 0) ∷ []) e
rows_last w b (suc n) =
    let e : suc (suc b) + 2 * n ≡ b + 2 * suc n = omega arith in
    ap (λ (l : List (ℕ × ℕ)). (get_or w b 0, get_or w (suc b) 0) ∷ l)
    (rows_last w (suc (suc b)) n
    ∙ ap (λ (k : ℕ). rows w (suc (suc b)) n ++ ((get_or w k 0, get_or w (suc k) 0) ∷ [])) e)

-- rows written where they stand
pub sets_rows : (w : List ℕ) (b j : ℕ) (rs : List (ℕ × ℕ)) → sets w b (flat (rows w b j ++ rs)) ≡ sets w (b + 2 * j) (flat rs)
unfolding pairs_from flat
sets_rows w b zero rs = let e : b ≡ b + 2 * 0 = omega arith in ap (λ (k : ℕ). sets w k (flat rs)) e
sets_rows w b (suc j) rs =
    let e : suc (suc b) + 2 * j ≡ b + 2 * suc j = omega arith in
    let l = flat (rows w (suc (suc b)) j ++ rs) in
    ap (λ (u : List ℕ). sets (set u (suc b) (get_or w (suc b) 0)) (suc (suc b)) l) (set-get_or w b 0)
    ∙ ap (λ (u : List ℕ). sets u (suc (suc b)) l) (set-get_or w (suc b) 0)
    ∙ sets_rows w (suc (suc b)) j rs
    ∙ ap (λ (k : ℕ). sets w k (flat rs)) e

-- rows written after rows
pub sets_flat : (rs qs : List (ℕ × ℕ)) (w : List ℕ) (b : ℕ) → sets w b (flat (rs ++ qs)) ≡ sets (sets w b (flat rs)) (b + 2 * length rs) (flat qs)
unfolding flat
sets_flat [] qs w b = let e : b ≡ b + 2 * 0 = omega arith in ap (λ (k : ℕ). sets w k (flat qs)) e
sets_flat (r ∷ rs) qs w b =
    let u = set (set w b r.0) (suc b) r.1 in
    let e : suc (suc b) + 2 * length rs ≡ b + 2 * suc (length rs) = omega arith in
    sets_flat rs qs u (suc (suc b)) ∙ ap (λ (k : ℕ). sets (sets u (suc (suc b)) (flat rs)) k (flat qs)) e

-- rows written and read back
pub rows_written : (rs : List (ℕ × ℕ)) (w : List ℕ) (b : ℕ) → b + 2 * length rs ≤ length w → rows (sets w b (flat rs)) b (length rs) ≡ rs
unfolding pairs_from flat
rows_written [] w b h = refl
rows_written (r ∷ rs) w b h =
    let u = set (set w b r.0) (suc b) r.1 in
    let g : length u ≡ length w = length-set (set w b r.0) (suc b) r.1 ∙ length-set w b r.0 in
    let p : length (set w b r.0) ≡ length w = length-set w b r.0 in
    let x : get_or (sets u (suc (suc b)) (flat rs)) b 0 ≡ r.0 =
    get_d_below (flat rs) u (suc (suc b)) b (omega arith)
    ∙ get_or-set_other (set w b r.0) (suc b) b r.1 0 (λ e. omega arith)
    ∙ get_or-set_same w b r.0 0 (omega arith) in
    let y : get_or (sets u (suc (suc b)) (flat rs)) (suc b) 0 ≡ r.1 =
    get_d_below (flat rs) u (suc (suc b)) (suc b) (omega arith) ∙ get_or-set_same (set w b r.0) (suc b) r.1 0 (omega arith) in
    let z = rows_written rs u (suc (suc b)) (omega arith) in
    ap (λ (a : ℕ). (a, get_or (sets u (suc (suc b)) (flat rs)) (suc b) 0) ∷ rows (sets u (suc (suc b)) (flat rs)) (suc (suc b)) (length rs)) x
    ∙ ap (λ (a : ℕ). (r.0, a) ∷ rows (sets u (suc (suc b)) (flat rs)) (suc (suc b)) (length rs)) y
    ∙ ap (λ (l : List (ℕ × ℕ)). r ∷ l) z

-- rows elsewhere
pub rows_beside : (rs : List (ℕ × ℕ)) (w : List ℕ) (b n s k : ℕ) → length rs ≤ n → (b + 2 * n ≤ s) ⊎ (s + 2 * k ≤ b)
    → rows (sets w b (flat rs)) s k ≡ rows w s k
rows_beside rs w b n s k h (inl a) =
    rows_kept w (sets w b (flat rs)) s k (λ j p q. get_d_above (flat rs) w b j (omega (arith, flat_length rs)))
rows_beside rs w b n s k h (inr a) = rows_kept w (sets w b (flat rs)) s k (λ j p q. get_d_below (flat rs) w b j (omega arith))

-- the last row of an identifier counts
pub place_last : (i : ℕ) (rs : List (ℕ × ℕ)) (r : ℕ × ℕ) → place_in i (rs ++ (r ∷ [])) ≡ cond (eqb i r.0) (some r.1) (place_in i rs)
unfolding place_in or_place
place_last i [] r = refl
place_last i (x ∷ rs) r = ap (λ (o : Option ℕ). or_place o (cond (eqb i x.0) (some x.1) nothing)) (place_last i rs r) ∙ go (eqb i r.0)
  where
    go : (b : Bool) → or_place (cond b (some r.1) (place_in i rs)) (cond (eqb i x.0) (some x.1) nothing)
        ≡ cond b (some r.1) (or_place (place_in i rs) (cond (eqb i x.0) (some x.1) nothing))
    go true = refl
    go false = refl
