use Rattle.std.proofs.Common.{◌≡◌, ℕ, ◌+◌, ◌<◌, ◌≤◌, true, List, length, sym, ◌∙◌, subst, arith}
use Rattle.layout.specs.Layout.{count}
use Rattle.checker_dictionary.specs.Growth.{size_at, grown, Appended}
use Rattle.checker_dictionary.proofs.GrowthLaws.{append_fits, append_full}
use Rattle.checker_dictionary.proofs.growth.append.Goals as goal

pub returns-then-d-end : goal.returns-then-d-end
returns-then-d-end c =
    λ D e h q.
    let a = c.args in
    let s = c.size-end.ensures.0 in
    let room : length a.d.now < size_at a.d.now + 2 + length a.entry.now = omega (arith, s, c.if-d-end.true) in
    append_full D e a.d.now a.entry.now h q room

pub returns : goal.returns
returns c =
    λ D e h q.
    let a = c.args in
    let s = c.size-end.ensures.0 in
    let room : size_at a.d.now + 2 + length a.entry.now ≤ length a.d.now = omega (arith, s, c.if-d-end.false) in
    let g : grown (count a.d.now) (size_at a.d.now) a.entry.now a.d.now ≡ c.grow.new.d =
    sym (c.grow.ensures ∙ rw (c.word-n.ensures.0, s)) in
    subst (λ (w : List ℕ). Appended D e a.d.now w true) g (append_fits D e a.d.now a.entry.now h q room c.requires)
