-- Rows laid out as count and pairs: they have the layout, and its parts are the rows in order.
use mathlib.Core.Path.{◌≡◌, refl, sym, ap, ◌∙◌}
use mathlib.Core.Bool.{Bool, true, cond}
use mathlib.Core.List.{List, [], ◌∷◌, ◌++◌, append_assoc}
use Prim.Native.Nat.{ℕ, suc, ◌+◌, ◌*◌, ◌≤◌}
use native.Mathlib.Omega.{arith}
use lib.ListN.{length, take, drop, length-append}
use lib.Seq.{drop-append-add, take-append_seam}
use borrow.Author.Tests.{eq-eqb, ne_eqb, le-leb}
use Rattle.layout.specs.declared.Form.{Form}
use Rattle.layout.specs.Layout.{offset_at, length_at, chain, laid_out, part}
use Rattle.layout.specs.Rows.{Rows, row_pairs, row_words, lay_out}
use Rattle.layout.proofs.Laws.{offset_here, length_here, chain_more}

-- each row has at least s words
abbrev pub Long : ℕ → Rows → Type 0
Long s [] = Unit {0}
Long s (w ∷ ws) = (s ≤ length w) × Long s ws

pub pairs_length : (es : Rows) (o : ℕ) → length (row_pairs es o) ≡ 2 * length es
unfolding row_pairs
pairs_length [] o = omega arith
pairs_length (e ∷ es) o = let h = pairs_length es (o + length e) in omega (arith, h)

chain_laid : (s : ℕ) (es : Rows) → Long s es → (pre body w : List ℕ) (k o : ℕ) → w ≡ pre ++ (row_pairs es o ++ body) → length pre + 1 ≡ 2 * k → o + length (row_words es) ≡ length w
    → chain s w k (length es) o ≡ true
unfolding chain row_pairs row_words
chain_laid s [] long pre body w k o q n l = eq-eqb o (length w) (omega (arith, l))
chain_laid s (e ∷ es) long pre body w k o q n l =
    let L = length e in
    let rest = row_pairs es (o + L) ++ body in
    let f : offset_at w k ≡ o = ap (λ (v : List ℕ). offset_at v k) q ∙ offset_here pre rest o L k n in
    let g : length_at w k ≡ L = ap (λ (v : List ℕ). length_at v k) q ∙ length_here pre rest o L k n in
    let m = length-append pre (o ∷ (L ∷ [])) in
    let a = length-append e (row_words es) in
    let h = chain_laid s es long.1 (pre ++ (o ∷ (L ∷ []))) body w (suc k) (o + L) (q ∙ sym (append_assoc pre (o ∷ (L ∷ [])) rest)) (omega (arith, m, n)) (omega (arith, a, l)) in
    chain_more s w k (length es) o L f g long.0 h

-- within what a form asks
pub rows_laid : (form : Form) (es : Rows) → Long form.shortest es → form.fewest ≤ length es → length es ≤ form.most → length (lay_out es) ≤ form.longest → laid_out form (lay_out es) ≡ true
unfolding laid_out lay_out
rows_laid form es long some few h =
    let n = length es in
    let o = 1 + 2 * n in
    let w = n ∷ (row_pairs es o ++ row_words es) in
    let a = length-append (row_pairs es o) (row_words es) in
    let p = pairs_length es o in
    let c = chain_laid form.shortest es long (n ∷ []) (row_words es) w 1 o refl (omega arith) (omega (arith, a, p)) in
    rw (le-leb (length w) form.longest h, le-leb form.fewest n some, le-leb n form.most few, le-leb (1 + 2 * n) (length w) (omega (arith, a, p)), c) refl

pub laid_length : (es : Rows) → length (lay_out es) ≡ 1 + 2 * length es + length (row_words es)
unfolding lay_out
laid_length es =
    let a = length-append (row_pairs es (1 + 2 * length es)) (row_words es) in
    let p = pairs_length es (1 + 2 * length es) in
    omega (arith, a, p)

-- Pair k is that of row k, and part k is row k.
pub pairs_at_lem : (fs bs : Rows) (e : List ℕ) (pre body w : List ℕ) (k o : ℕ) → w ≡ pre ++ (row_pairs (fs ++ (e ∷ bs)) o ++ body) → length pre + 1 ≡ 2 * k
    → (offset_at w (k + length fs) ≡ o + length (row_words fs)) × (length_at w (k + length fs) ≡ length e)
unfolding row_pairs row_words
pairs_at_lem [] bs e pre body w k o q n =
    let L = length e in
    let rest = row_pairs bs (o + L) ++ body in
    let s : k + 0 ≡ k = omega arith in
    let u : o + 0 ≡ o = omega arith in (
      ap (offset_at w) s ∙ ap (λ (v : List ℕ). offset_at v k) q ∙ offset_here pre rest o L k n ∙ sym u,
      ap (length_at w) s ∙ ap (λ (v : List ℕ). length_at v k) q ∙ length_here pre rest o L k n,
    )
pairs_at_lem (a ∷ fs) bs e pre body w k o q n =
    let L = length a in
    let rest = row_pairs (fs ++ (e ∷ bs)) (o + L) ++ body in
    let m = length-append pre (o ∷ (L ∷ [])) in
    let h = pairs_at_lem fs bs e (pre ++ (o ∷ (L ∷ []))) body w (suc k) (o + L) (q ∙ sym (append_assoc pre (o ∷ (L ∷ [])) rest)) (omega (arith, m, n)) in
    let s : k + suc (length fs) ≡ suc k + length fs = omega arith in
    let l = length-append a (row_words fs) in
    let u : (o + L) + length (row_words fs) ≡ o + length (a ++ row_words fs) = omega (arith, l) in
    (ap (offset_at w) s ∙ h.0 ∙ u, ap (length_at w) s ∙ h.1)

pub words_append : (fs bs : Rows) → row_words (fs ++ bs) ≡ row_words fs ++ row_words bs
unfolding row_words
words_append [] bs = refl
words_append (a ∷ fs) bs = ap (λ (v : List ℕ). a ++ v) (words_append fs bs) ∙ sym (append_assoc a (row_words fs) (row_words bs))

drop_past : (xs ys : List ℕ) (n : ℕ) → n ≡ length xs → drop n (xs ++ ys) ≡ ys
drop_past xs ys n e =
    let s : n ≡ length xs + 0 = omega (arith, e) in
    ap (λ (j : ℕ). drop j (xs ++ ys)) s ∙ drop-append-add xs ys 0

pub parts_of_lem : (fs bs : Rows) (e : List ℕ) → part (lay_out (fs ++ (e ∷ bs))) (suc (length fs)) ≡ e
unfolding part lay_out row_words
parts_of_lem fs bs e =
    let es = fs ++ (e ∷ bs) in
    let n = length es in
    let o = 1 + 2 * n in
    let w = n ∷ (row_pairs es o ++ row_words es) in
    let k = suc (length fs) in
    let h = pairs_at_lem fs bs e (n ∷ []) (row_words es) w 1 o refl (omega arith) in
    let s : 1 + length fs ≡ suc (length fs) = omega arith in
    let f : offset_at w k ≡ o + length (row_words fs) = ap (offset_at w) (sym s) ∙ h.0 in
    let g : length_at w k ≡ length e = ap (length_at w) (sym s) ∙ h.1 in
    let a : w ≡ ((n ∷ row_pairs es o) ++ row_words fs) ++ (e ++ row_words bs) =
    ap (λ (v : List ℕ). n ∷ (row_pairs es o ++ v)) (words_append fs (e ∷ bs)) ∙ sym (append_assoc (n ∷ row_pairs es o) (row_words fs) (e ++ row_words bs)) in
    let c = length-append (n ∷ row_pairs es o) (row_words fs) in
    let p = pairs_length es o in
    let b : drop (offset_at w k) w ≡ e ++ row_words bs =
    ap (drop (offset_at w k)) a ∙ drop_past ((n ∷ row_pairs es o) ++ row_words fs) (e ++ row_words bs) (offset_at w k) (omega (arith, f, c, p)) in
    ap (λ (x : Bool). cond x [] (take (length_at w k) (drop (offset_at w k) w))) (ne_eqb k 0 (omega arith))
    ∙ ap (take (length_at w k)) b
    ∙ ap (λ (j : ℕ). take j (e ++ row_words bs)) g
    ∙ take-append_seam e (row_words bs)
