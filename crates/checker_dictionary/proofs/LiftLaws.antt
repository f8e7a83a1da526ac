-- Words moved two places up, and words copied over others.
use Rattle.std.proofs.Common.{◌≡◌, ℕ, zero, suc, ◌+◌, ◌-◌, ◌<◌, ◌≤◌, List, [], ◌∷◌, ◌++◌, length, get_or, take, drop, set, replicate, sym, refl, ap, ◌∙◌, append_assoc, arith, length-append, length-drop, take-append-drop, length-take-le, get_or-drop, get_or-take, take-suc, take_at}
use lib.ListN.{get_or-append}
use lib.Seq.{take-append_seam, take-append-add, drop-append_seam, drop-append-add, set_at, sets, sets-eq}
use Rattle.words.proofs.Lists.{zeros_dropped}
use Rattle.checker_dictionary.specs.Growth.{lifted}

-- one turn, and none
pub lifted_go : (from i : ℕ) (d : List ℕ) → from < i → lifted from (i - from) d ≡ lifted from (i - 1 - from) (set d (i - 1 + 2) (get_or d (i - 1) 0))
unfolding lifted
lifted_go from i d h =
    let m = i - 1 - from in
    let e : i - from ≡ suc m = omega arith in
    let to : from + m + 2 ≡ i - 1 + 2 = omega arith in
    let at : from + m ≡ i - 1 = omega arith in
    ap (λ (n : ℕ). lifted from n d) e ∙ ap (λ (j : ℕ). lifted from m (set d j (get_or d (from + m) 0))) to
    ∙ ap (λ (j : ℕ). lifted from m (set d (i - 1 + 2) (get_or d j 0))) at

pub lifted_end : (from i : ℕ) (d : List ℕ) → i ≤ from → lifted from (i - from) d ≡ d
unfolding lifted
lifted_end from i d h = let e : i - from ≡ 0 = omega arith in ap (λ (n : ℕ). lifted from n d) e

-- the last of m + 1 words moves over the first of T's neighbours
lift_one : (d : List ℕ) (from m : ℕ) (T : List ℕ) → from + suc m + 2 ≤ length d
    → set (take (from + suc m + 2) d ++ T) (from + m + 2) (get_or (take (from + suc m + 2) d ++ T) (from + m) 0) ≡ take (from + m + 2) d ++ (get_or d (from + m) 0 ∷ T)
lift_one d from m T h =
    let j = from + m + 2 in
    let front = take (from + suc m + 2) d in
    let n : from + suc m + 2 ≡ suc j = omega arith in
    let l : length front ≡ from + suc m + 2 = length-take-le (from + suc m + 2) d h in
    let v : get_or (front ++ T) (from + m) 0 ≡ get_or d (from + m) 0 =
    get_or-append front T 0 (from + m) (omega (arith, l)) ∙ get_or-take (from + suc m + 2) d (from + m) 0 (omega arith) in
    let s : front ++ T ≡ take j d ++ (get_or d j 0 ∷ T) =
    ap (λ (k : ℕ). take k d ++ T) n ∙ ap (λ (w : List ℕ). w ++ T) (take-suc d j 0 (omega arith)) ∙ append_assoc (take j d) (get_or d j 0 ∷ []) T in
    ap (λ (x : ℕ). set (front ++ T) j x) v
    ∙ ap (λ (w : List ℕ). set w j (get_or d (from + m) 0)) s
    ∙ set_at (take j d) (get_or d j 0) T (get_or d (from + m) 0) j (length-take-le j d (omega arith))

lift_all : (d : List ℕ) (from m : ℕ) (T : List ℕ) → from + m + 2 ≤ length d
    → lifted from m (take (from + m + 2) d ++ T) ≡ take (from + 2) d ++ (take m (drop from d) ++ T)
unfolding lifted
lift_all d from zero T h = let e : from + 0 + 2 ≡ from + 2 = omega arith in ap (λ (k : ℕ). take k d ++ T) e
lift_all d from (suc m) T h =
    let x = get_or d (from + m) 0 in
    let l = length-drop from d in
    let s : take (suc m) (drop from d) ≡ take m (drop from d) ++ (x ∷ []) =
    take-suc (drop from d) m 0 (omega (arith, l)) ∙ ap (λ (y : ℕ). take m (drop from d) ++ (y ∷ [])) (get_or-drop from d m 0) in
    ap (lifted from m) (lift_one d from m T h)
    ∙ lift_all d from m (x ∷ T) (omega arith)
    ∙ ap (λ (w : List ℕ). take (from + 2) d ++ w) (sym (ap (λ (w : List ℕ). w ++ T) s ∙ append_assoc (take m (drop from d)) (x ∷ []) T))

lift_whole : (d : List ℕ) (from m : ℕ) → from + m + 2 ≤ length d → lifted from m d ≡ take (from + 2) d ++ (take m (drop from d) ++ drop (from + m + 2) d)
lift_whole d from m h = ap (lifted from m) (sym (take-append-drop (from + m + 2) d)) ∙ lift_all d from m (drop (from + m + 2) d) h

two : (B Z : List ℕ) (x y : ℕ) → (a : ℕ) × (b : ℕ) × (take 2 (B ++ (x ∷ (y ∷ Z))) ≡ a ∷ (b ∷ []))
two [] Z x y = (x, y, refl)
two (a ∷ []) Z x y = (a, x, refl)
two (a ∷ (b ∷ B)) Z x y = (a, b, refl)

-- B moves over two words, and leaves two words before it
pub lifted_lists : (A B Z : List ℕ) (x y : ℕ)
    → (a : ℕ) × (b : ℕ) × (lifted (length A) (length B) (A ++ (B ++ (x ∷ (y ∷ Z)))) ≡ A ++ (a ∷ (b ∷ (B ++ Z))))
lifted_lists A B Z x y =
    let T = x ∷ (y ∷ Z) in
    let d = A ++ (B ++ T) in
    let t = two B Z x y in
    let l = length-append A (B ++ T) in
    let k = length-append B T in
    let front : take (length A + 2) d ≡ A ++ (t.0 ∷ (t.1 ∷ [])) = take-append-add A (B ++ T) 2 ∙ ap (λ (w : List ℕ). A ++ w) t.2 in
    let middle : take (length B) (drop (length A) d) ≡ B = ap (take (length B)) (drop-append_seam A (B ++ T)) ∙ take-append_seam B T in
    let n : length A + length B + 2 ≡ length A + (length B + 2) = omega arith in
    let back : drop (length A + length B + 2) d ≡ Z =
    ap (λ (j : ℕ). drop j d) n ∙ drop-append-add A (B ++ T) (length B + 2) ∙ drop-append-add B T 2 in (
      t.0,
      t.1,
      lift_whole d (length A) (length B) (omega (arith, l, k))
          ∙ ap (λ (w : List ℕ). w ++ (take (length B) (drop (length A) d) ++ drop (length A + length B + 2) d)) front
          ∙ ap (λ (w : List ℕ). (A ++ (t.0 ∷ (t.1 ∷ []))) ++ (w ++ drop (length A + length B + 2) d)) middle
          ∙ ap (λ (w : List ℕ). (A ++ (t.0 ∷ (t.1 ∷ []))) ++ (B ++ w)) back
          ∙ append_assoc A (t.0 ∷ (t.1 ∷ [])) (B ++ Z),
    )

-- W over the first words of Z
pub sets_seam : (X Z W : List ℕ) (n : ℕ) → length X ≡ n → length W ≤ length Z → sets (X ++ Z) n W ≡ X ++ (W ++ drop (length W) Z)
sets_seam X Z W n e h =
    let l = length-append X Z in
    let s : n + length W ≡ length X + length W = omega (arith, e) in
    sets-eq W (X ++ Z) n (omega (arith, l, e))
    ∙ append_assoc (take n (X ++ Z)) W (drop (n + length W) (X ++ Z))
    ∙ ap (λ (w : List ℕ). w ++ (W ++ drop (n + length W) (X ++ Z))) (take_at X Z n e)
    ∙ ap (λ (w : List ℕ). X ++ (W ++ w)) (ap (λ (j : ℕ). drop j (X ++ Z)) s ∙ drop-append-add X Z (length W))

pub drop_zeros : (m k : ℕ) → drop m (replicate (m + k) 0) ≡ replicate {A = ℕ} k 0
drop_zeros m k = let e : m + k - m ≡ k = omega arith in zeros_dropped m (m + k) ∙ ap (λ (n : ℕ). replicate n 0) e
