use Rattle.std.proofs.Common.{◌≡◌, ℕ, List, length, sym, ap, ◌∙◌}
use Rattle.values.specs.Held.{keep}
use Rattle.values.specs.Value.{nil, set, tuple, count, encode}
use Rattle.values.proofs.Holding.{held_short, held_long, held_len, held_part}
use Rattle.enumeration_rules.specs.Enumeration.{each}
use Rattle.enumeration_rules.specs.OnWords.{grow_on}
use Rattle.enumeration.proofs.Values.{set_count, grow_none, grow_over, grow_long, rows_held, grow_listed}
use Rattle.enumeration.proofs.products.extend.Goals as goal

pub returns-then-n-eq0 : goal.returns-then-n-eq0
unfolding encode count
returns-then-n-eq0 c =
    λ rs vs p e k.
    let h : c.hold.result ≡ keep (encode (set nil)) = c.hold.ensures in
    h ∙ grow_none rs vs (sym (c.word-n.ensures.0 ∙ set_count _ vs e) ∙ c.if-n-eq0.true)

pub returns-then-len-gt-VALUE : goal.returns-then-len-gt-VALUE
returns-then-len-gt-VALUE c = λ rs vs p e k. c.over.ensures ∙ grow_over rs vs (λ z. c.if-n-eq0.false (c.word-n.ensures.0 ∙ set_count _ vs e ∙ z)) (held_long _ _ p c.if-len-gt-VALUE.true)

pub returns-then-fits : goal.returns-then-fits
returns-then-fits c =
    λ rs vs p e k.
    let l = held_short _ _ p c.if-len-gt-VALUE.false in
    c.grow.ensures
    ∙ ap (λ (x : List ℕ). keep (grow_on x c.args.s.now)) (c.span.ensures ∙ held_part _ _ p l)
    ∙ ap (λ (x : List ℕ). keep (grow_on (encode (set (each tuple rs))) x)) e
    ∙ grow_listed rs vs l k

pub returns : goal.returns
returns c =
    λ rs vs p e k.
    let l = held_short _ _ p c.if-len-gt-VALUE.false in
    c.over-2.ensures
    ∙ grow_long rs vs _ _ _ _ (c.word-m.ensures.0 ∙ rows_held rs _ p l) (c.word-n.ensures.0 ∙ set_count _ vs e) (held_len _ _ p l) (ap length e) (sym c.fits.ensures ∙ c.if-fits.false)
