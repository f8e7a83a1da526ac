-- An area with no entry, entries moved to another place, and an area without spare words.
use Rattle.std.proofs.Common.{◌≡◌, ℕ, suc, ◌+◌, ◌-◌, ◌*◌, ◌%◌, ◌^◌, ◌<◌, ◌≤◌, List, length, get_or, take, drop, set, replicate, sym, ap, ◌∙◌, subst, arith}
use lib.Seq.{sets}
use Rattle.layout.specs.Layout.{count}
use Rattle.checker_rules.specs.Dictionary.{Dictionary, blank, entries}
use Rattle.checker_dictionary.specs.Holds.{Holds}
use Rattle.checker_dictionary.specs.Spaced.{Spaced, Spacing, first_at, placed, PlaceAsk, Respaced}
use Rattle.checker_dictionary.specs.Growth.{size_at}
use Rattle.checker_dictionary.proofs.GrowthLaws.{blank_held}
use Rattle.checker_dictionary.proofs.SpacedLaws.{holds_spaced, spaced_holds, count_spaced, area_spaced, size_spaced, first_spaced, respaced}

pub blank_spaced : (n : ℕ) → 0 < n → Spaced blank (replicate n 0)
blank_spaced n h = holds_spaced blank (replicate n 0) (blank_held n h)

-- THE ENTRIES MOVE: what is asked, and what comes of it.
module _ (d : List ℕ) (to : ℕ) (A : PlaceAsk d to) where
  pub place_order : first_at d ≤ size_at d
  place_order =
      let S = A.spacing.spaced in
      let a = first_spaced A.spacing.dictionary d S in
      let b = size_spaced A.spacing.dictionary d S in
      omega (arith, a, b)

  pub place_inside : size_at d ≤ length d
  place_inside =
      let S = A.spacing.spaced in
      let a = area_spaced A.spacing.dictionary d S in
      let b = size_spaced A.spacing.dictionary d S in
      omega (arith, a, b)

  pub placed_entries : (D : Dictionary) → Spaced D d →
      Respaced (entries D) (placed (count d) 1 to (sets (sets d to (take (size_at d - first_at d) (drop (first_at d) d))) (to + (size_at d - first_at d)) (replicate (first_at d + (size_at d - first_at d) - (to + (size_at d - first_at d))) 0))) to
  placed_entries D S =
      let c = count_spaced D d S in
      let a = first_spaced D d S in
      let b = size_spaced D d S in
      let l = A.low in
      let m = size_at d - first_at d in
      let z : first_at d + m - (to + m) ≡ first_at d - to = omega arith in
      subst (λ (n : ℕ). Respaced (entries D) (placed n 1 to (sets (sets d to (take m (drop (first_at d) d))) (to + m) (replicate (first_at d + m - (to + m)) 0))) to) (sym c)
      (subst (λ (x : ℕ). Respaced (entries D) (placed (length (entries D)) 1 to (sets (sets d to (take m (drop (first_at d) d))) (to + m) (replicate x 0))) to) (sym z)
      (respaced S.gap (entries D) S.after d S.laid (first_at d) to m a (omega (arith, a, b)) (omega (arith, l, c)) A.room A.few))

-- NO SPARE WORDS.
pub close_ask : (d : List ℕ) → Spacing d → size_at d < 2 ^ 32 → PlaceAsk d (2 * count d + 1)
close_ask d R near =
    let D = R.dictionary in
    let S = R.spaced in
    let c = count_spaced D d S in
    let a = first_spaced D d S in
    let b = size_spaced D d S in
    let l = area_spaced D d S in
    record { spacing = R; low = omega arith; room = omega (arith, c, a, b, l); few = omega (arith, c, a, b, near); near = near }

pub closed : (D : Dictionary) (d d' : List ℕ) → Spaced D d → Respaced (entries D) d' (2 * count d + 1) → Holds D d'
closed D d d' S X = let c = count_spaced D d S in let b = X.begins in spaced_holds D d' X.gap X.after (omega (arith, c, b)) X.laid

-- One turn of placing pairs, and none.
pub placed_go : (n k o : ℕ) (d : List ℕ) → k < n + 1 → placed (n + 1 - k) k o d ≡ placed (n + 1 - (k + 1)) (k + 1) ((o + get_or d (2 * k) 0) % 2 ^ 32) (set d (2 * k - 1) o)
unfolding placed
placed_go n k o d h =
    let m = n + 1 - (k + 1) in
    let e : n + 1 - k ≡ suc m = omega (arith, h) in
    let f : suc k ≡ k + 1 = omega arith in
    ap (λ (j : ℕ). placed j k o d) e ∙ ap (λ (j : ℕ). placed m j ((o + get_or d (2 * k) 0) % 2 ^ 32) (set d (2 * k - 1) o)) f

pub placed_end : (n k o : ℕ) (d : List ℕ) → n + 1 ≤ k → placed (n + 1 - k) k o d ≡ d
unfolding placed
placed_end n k o d h = let e : n + 1 - k ≡ 0 = omega (arith, h) in ap (λ (j : ℕ). placed j k o d) e
