-- The words of a value in an array: where they were copied to, and a set that grows there.
use mathlib.Core.Path.{◌≡◌, refl, ap, ◌∙◌}
use mathlib.Core.List.{List, ◌++◌, append_assoc}
use Prim.Native.Nat.{ℕ, ◌+◌, ◌-◌, ◌≤◌}
use native.Mathlib.Omega.{arith}
use lib.ListN.{length, get_or, set, take, drop, replicate, length-append, length-replicate, length-set, length-take}
use lib.Seq.{sets, sets-eq, length-sets, take-append-le, take_at, drop_at, get_or-set_same, take-set-le}
use Rattle.values.specs.Value.{Value, Values, encode}
use Rattle.values.specs.declared.held.Held.{Held}
use Rattle.values.proofs.Holding.{held_words, held_len}
use Rattle.evaluator_operations.specs.Worked.{Holds, SetIn}

drop_sets : (ws work : List ℕ) (at : ℕ) → at + length ws ≤ length work → drop at (sets work at ws) ≡ ws ++ drop (at + length ws) work
drop_sets ws work at h =
    let a : length (take at work) ≡ at = length-take at work ∙ omega arith in
    rw (sets-eq ws work at h) (simp append_assoc (drop_at (take at work) (ws ++ drop (at + length ws) work) at a))

-- a value's words lie where they were copied to
pub copied : (work : List ℕ) (at : ℕ) (h : Held) (v : Value) → Holds h v → at + 64 ≤ length work → take (length (encode v)) (drop at (sets work at h.words)) ≡ encode v
copied work at h v g l =
    let e = held_words h (encode v) g.words g.short in
    let s = g.short in
    let z = replicate {A = ℕ} (64 - length (encode v)) 0 in
    let n : length (encode v ++ z) ≡ 64 = length-append (encode v) z ∙ omega (arith, length-replicate {A = ℕ} (64 - length (encode v)) 0) in
    rw e
    (ap (λ (x : List ℕ). take (length (encode v)) x) (drop_sets (encode v ++ z) work at (omega arith))
    ∙ take-append-le (length (encode v)) (encode v ++ z) (drop (at + length (encode v ++ z)) work) (omega arith) ∙ take_at (encode v) z (length (encode v)) refl)

-- a set that is written with its number of words
pub set_written : (u : List ℕ) (h : Held) (vs : Values) → 65 ≤ length u → Holds h (Value.set vs) → SetIn (set (sets u 0 h.words) 64 h.len) vs
set_written u h vs l g =
    let s = g.short in
    let n = length-sets u 0 h.words in
    record {
      long = omega (arith, length-set (sets u 0 h.words) 64 h.len);
      words = take-set-le (length (encode (Value.set vs))) (sets u 0 h.words) 64 h.len s ∙ copied u 0 h (Value.set vs) g (omega arith);
      counted = get_or-set_same (sets u 0 h.words) 64 h.len 0 (omega arith) ∙ held_len h (encode (Value.set vs)) g.words s;
      short = s;
      narrow = g.narrow;
    }

pub set_read : (u : List ℕ) (vs : Values) → SetIn u vs → take (get_or u 64 0) u ≡ encode (Value.set vs)
set_read u vs g = rw g.counted g.words
