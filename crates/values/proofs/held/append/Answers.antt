use Rattle.std.proofs.Common.{◌+◌, ◌≤◌, ◌++◌, length, sym, ◌∙◌, arith, length-append}
use Rattle.values.proofs.Holding.{keep_over, keep_fits, held_short, held_long, held_len, held_words, appended}
use Rattle.values.proofs.held.append.Goals as goal

pub returns-then-len-gt-VALUE : goal.returns-then-len-gt-VALUE
returns-then-len-gt-VALUE c =
    λ ws e.
    let a = c.args in
    let l = held_long a.v ws e c.if-len-gt-VALUE.true in
    c.over.ensures ∙ sym (keep_over (ws ++ a.w.now) (omega (arith, length-append ws a.w.now)))

pub returns-then-len-w : goal.returns-then-len-w
returns-then-len-w c =
    λ ws e.
    let a = c.args in
    let h = held_short a.v ws e c.if-len-gt-VALUE.false in
    let l = held_len a.v ws e h in
    c.over-then-len-w.ensures ∙ sym (keep_over (ws ++ a.w.now) (omega (arith, length-append ws a.w.now)))

pub returns : goal.returns
returns c =
    λ ws e.
    let a = c.args in
    let h = held_short a.v ws e c.if-len-gt-VALUE.false in
    let l = held_len a.v ws e h in
    let k = length-append ws a.w.now in
    let w : length ws + length a.w.now ≤ 64 = omega arith in
    rw (keep_fits (ws ++ a.w.now) (omega arith), c.copy.ensures, held_words a.v ws e h, l, appended ws a.w.now w, k)
