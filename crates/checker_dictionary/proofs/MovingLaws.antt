-- One turn of moving words inside an area, up or down, and of making words zero.
use Rattle.std.proofs.Common.{◌≡◌, ℕ, suc, ◌+◌, ◌-◌, ◌<◌, ◌≤◌, List, [], ◌∷◌, ◌++◌, length, get_or, take, drop, set, replicate, sym, refl, ap, ◌∙◌, arith, length-drop, length-take-le, get_or-drop, get_or-set_other, get_or-take, take-suc}
use lib.ListN.{length-replicate, replicate-append-replicate}
use lib.Seq.{sets, set_comm}
use Rattle.words.proofs.Lists.{sets_append}
use Rattle.words.proofs.Copying.{sets_go}

-- words outside those that are written
pub sets_low : (l : List ℕ) (at : ℕ) (ws : List ℕ) (i : ℕ) → i < at → get_or (sets l at ws) i 0 ≡ get_or l i 0
sets_low l at [] i h = refl
sets_low l at (x ∷ ws) i h = sets_low (set l at x) (suc at) ws i (omega (arith, h)) ∙ get_or-set_other l at i x 0 (λ e. absurd (omega (arith, e, h)))

pub sets_high : (l : List ℕ) (at : ℕ) (ws : List ℕ) (i : ℕ) → at + length ws ≤ i → get_or (sets l at ws) i 0 ≡ get_or l i 0
sets_high l at [] i h = refl
sets_high l at (x ∷ ws) i h = sets_high (set l at x) (suc at) ws i (omega (arith, h)) ∙ get_or-set_other l at i x 0 (λ e. absurd (omega (arith, e, h)))

set_below : (l : List ℕ) (at : ℕ) (ws : List ℕ) (i x : ℕ) → i < at → set (sets l at ws) i x ≡ sets (set l i x) at ws
set_below l at [] i x h = refl
set_below l at (y ∷ ws) i x h =
    set_below (set l at y) (suc at) ws i x (omega (arith, h))
    ∙ ap (λ (m : List ℕ). sets m (suc at) ws) (set_comm l at i y x (λ e. absurd (omega (arith, e, h))))

-- UP: the words from i on are moved, and word i - 1 comes next.
pub up_next : (d : List ℕ) (from m to i : ℕ) → from ≤ to → to + m ≤ length d → i < m →
    set (sets d (to + (i + 1)) (drop (i + 1) (take m (drop from d)))) (to + i) (get_or (sets d (to + (i + 1)) (drop (i + 1) (take m (drop from d)))) (from + i) 0)
    ≡ sets d (to + i) (drop i (take m (drop from d)))
up_next d from m to i low room less =
    let ws = take m (drop from d) in
    let l = length-drop from d in
    let k = length-take-le m (drop from d) (omega (arith, l, low, room)) in
    let v : get_or (sets d (to + (i + 1)) (drop (i + 1) ws)) (from + i) 0 ≡ get_or ws i 0 =
    sets_low d (to + (i + 1)) (drop (i + 1) ws) (from + i) (omega (arith, low)) ∙ sym (get_or-take m (drop from d) i 0 less ∙ get_or-drop from d i 0) in
    ap (λ (x : ℕ). set (sets d (to + (i + 1)) (drop (i + 1) ws)) (to + i) x) v
    ∙ set_below d (to + (i + 1)) (drop (i + 1) ws) (to + i) (get_or ws i 0) (omega arith)
    ∙ sym (sets_go ws d to i (omega (arith, k, less)))

pub up_step : (d : List ℕ) (from m to i : ℕ) → from ≤ to → to + m ≤ length d → i ≤ m → 0 < i →
    set (sets d (to + i) (drop i (take m (drop from d)))) (to + (i - 1)) (get_or (sets d (to + i) (drop i (take m (drop from d)))) (from + (i - 1)) 0)
    ≡ sets d (to + (i - 1)) (drop (i - 1) (take m (drop from d)))
up_step d from m to i low room most some =
    let e : i - 1 + 1 ≡ i = omega (arith, some) in
    let ws = take m (drop from d) in
    ap (λ (j : ℕ). set (sets d (to + j) (drop j ws)) (to + (i - 1)) (get_or (sets d (to + j) (drop j ws)) (from + (i - 1)) 0)) (sym e)
    ∙ up_next d from m to (i - 1) low room (omega (arith, most, some))

-- DOWN: the first i words are moved, and word i comes next.
pub down_next : (d : List ℕ) (from m to i : ℕ) → to ≤ from → from + m ≤ length d → i < m →
    set (sets d to (take i (drop from d))) (to + i) (get_or (sets d to (take i (drop from d))) (from + i) 0) ≡ sets d to (take (i + 1) (drop from d))
down_next d from m to i low room less =
    let l = length-drop from d in
    let k = length-take-le i (drop from d) (omega (arith, l, room, less)) in
    let v : get_or (sets d to (take i (drop from d))) (from + i) 0 ≡ get_or (drop from d) i 0 = sets_high d to (take i (drop from d)) (from + i) (omega (arith, k, low)) ∙ sym (get_or-drop from d i 0) in
    let n : i + 1 ≡ suc i = omega arith in
    let j : to + length (take i (drop from d)) ≡ to + i = omega (arith, k) in
    ap (λ (x : ℕ). set (sets d to (take i (drop from d))) (to + i) x) v
    ∙ sym (ap (λ (z : ℕ). sets d to (take z (drop from d))) n
    ∙ ap (sets d to) (take-suc (drop from d) i 0 (omega (arith, l, room, less)))
    ∙ sets_append d to (take i (drop from d)) (get_or (drop from d) i 0 ∷ [])
    ∙ ap (λ (z : ℕ). set (sets d to (take i (drop from d))) z (get_or (drop from d) i 0)) j)

-- ZERO: the first i words.
zeros_more : (i : ℕ) → replicate {A = ℕ} (i + 1) 0 ≡ replicate {A = ℕ} i 0 ++ (0 ∷ [])
zeros_more i = sym (replicate-append-replicate i 1 0)

erase_next : (d : List ℕ) (at i : ℕ) → set (sets d at (replicate i 0)) (at + i) 0 ≡ sets d at (replicate (i + 1) 0)
erase_next d at i =
    let l = length-replicate {A = ℕ} i 0 in
    let j : at + length (replicate {A = ℕ} i 0) ≡ at + i = omega (arith, l) in
    sym (ap (sets d at) (zeros_more i) ∙ sets_append d at (replicate i 0) (0 ∷ []) ∙ ap (λ (z : ℕ). set (sets d at (replicate i 0)) z 0) j)

pub erase_step : (d : List ℕ) (at i : ℕ) → at ≤ i → set (sets d at (replicate (i - at) 0)) i 0 ≡ sets d at (replicate (i + 1 - at) 0)
erase_step d at i low =
    let e : at + (i - at) ≡ i = omega (arith, low) in
    let f : i - at + 1 ≡ i + 1 - at = omega (arith, low) in
    ap (λ (j : ℕ). set (sets d at (replicate (i - at) 0)) j 0) (sym e) ∙ erase_next d at (i - at) ∙ ap (λ (j : ℕ). sets d at (replicate j 0)) f
