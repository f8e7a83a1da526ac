-- A value's words reach as far as its span: tags and counts alone say where a value of at most 64 words ends.
use Rattle.std.proofs.Common.{◌≡◌, ℕ, suc, ◌+◌, ◌-◌, ◌*◌, ◌≤◌, List, ◌++◌, length, sym, ap, ◌∙◌, append_assoc, add-zero, add_assoc, suc-add, zero-add, arith, length-append, take_at, drop_at}
use Rattle.values.specs.Value.{Value, int, element, set, tuple, Values, nil, cons, count, encode, encodes}
use Rattle.values.specs.Span.{head, parts, spans, span}
use Rattle.values.specs.Sets.{first, rest}
use Rattle.values.proofs.Spans.{spans_none}

-- how many heads a value has: itself and all below it
unfoldable mutual
  pub heads : Value → ℕ
  heads (int z) = 1
  heads (element g k) = 1
  heads (set vs) = suc (heads_of vs)
  heads (tuple vs) = suc (heads_of vs)

  pub heads_of : Values → ℕ
  heads_of nil = 0
  heads_of (cons v vs) = heads v + heads_of vs

mutual
  unfolding heads encode

  heads_few : (v : Value) → 2 * heads v ≤ length (encode v)
  heads_few (int z) = omega arith
  heads_few (element g k) = omega arith
  heads_few (set vs) = omega (arith, heads_fews vs)
  heads_few (tuple vs) = omega (arith, heads_fews vs)

  heads_fews : (vs : Values) → 2 * heads_of vs ≤ length (encodes vs)
  heads_fews nil = omega arith
  heads_fews (cons v vs) = omega (arith, heads_few v, heads_fews vs, length-append (encode v) (encodes vs))

two_more : (a b : ℕ) → 2 + (a + b) ≡ suc (suc a) + b
two_more a b = omega arith

one_and : (f : ℕ) → 1 + f ≡ suc f
one_and f = omega arith

mutual
  unfolding heads encode spans head parts count

  spans_value : (v : Value) (f left : ℕ) (r : List ℕ) → spans (heads v + f) (suc left) (encode v ++ r) ≡ length (encode v) + spans f left r
  spans_value (int z) f left r = rw (one_and f, spans, zero-add left)
  spans_value (element g k) f left r = rw (one_and f, spans, zero-add left)
  spans_value (set vs) f left r = rw (suc-add (heads_of vs) f, spans, spans_values vs f left r) (two_more _ _)
  spans_value (tuple vs) f left r = rw (suc-add (heads_of vs) f, spans, spans_values vs f left r) (two_more _ _)

  spans_values : (vs : Values) (f left : ℕ) (r : List ℕ) → spans (heads_of vs + f) (count vs + left) (encodes vs ++ r) ≡ length (encodes vs) + spans f left r
  spans_values nil f left r = rw (zero-add f, zero-add left) (sym (zero-add (spans f left r)))
  spans_values (cons v vs) f left r =
      rw (add_assoc (heads v) (heads_of vs) f, suc-add (count vs) left, append_assoc (encode v) (encodes vs) r, spans_value v (heads_of vs + f) (count vs + left) (encodes vs ++ r), spans_values vs f left r, length-append (encode v) (encodes vs))
      (sym (add_assoc (length (encode v)) (length (encodes vs)) (spans f left r)))

pub span_value : (v : Value) (r : List ℕ) → length (encode v) ≤ 64 → span (encode v ++ r) ≡ length (encode v)
unfolding span
span_value v r h =
    let e : 32 ≡ heads v + (32 - heads v) = omega (arith, heads_few v) in
    ap (λ (n : ℕ). spans n 1 (encode v ++ r)) e ∙ spans_value v (32 - heads v) 0 r ∙ rw (spans_none (32 - heads v) r) (add-zero (length (encode v)))

module _ (v : Value) (r : List ℕ) (h : length (encode v) ≤ 64) where
  pub first_value : first (encode v ++ r) ≡ encode v
  unfolding first
  first_value = take_at (encode v) r (span (encode v ++ r)) (sym (span_value v r h))

  pub rest_value : rest (encode v ++ r) ≡ r
  unfolding rest
  rest_value = drop_at (encode v) r (span (encode v ++ r)) (sym (span_value v r h))

-- a value has two words or more, so no more values than words
mutual
  unfolding encode count

  pub words_some : (v : Value) → 2 ≤ length (encode v)
  words_some (int z) = omega arith
  words_some (element g k) = omega arith
  words_some (set vs) = omega arith
  words_some (tuple vs) = omega arith

  pub count_few : (vs : Values) → count vs ≤ length (encodes vs)
  count_few nil = omega arith
  count_few (cons v vs) = omega (arith, words_some v, count_few vs, length-append (encode v) (encodes vs))
