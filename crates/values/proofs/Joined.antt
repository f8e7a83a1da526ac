-- No value's words begin another's, said of the order: what follows two values decides where they are the same, and only there.
use Rattle.std.proofs.Common.{◌≡◌, ℕ, ◌^◌, ◌<◌, List, [], ◌∷◌, ◌++◌, length, sym, refl, append_assoc, arith, length-append}
use Rattle.values_integers.specs.Integer.{signed}
use Rattle.values.specs.Order.{compare_word, or_else, compare}
use Rattle.values.specs.Value.{Value, int, element, set, tuple, Values, nil, cons, count, encode, encodes}
use Rattle.std.specs.declared.cmp.Ordering.{Ordering}
use Rattle.std.specs.declared.cmp.Ordering.TheVariants.{Less, Equal, Greater}
use Rattle.values.proofs.Encoding.{count_few}
use Rattle.values.proofs.WordOrder.{word_alike}

else_assoc : (o p q : Ordering) → or_else (or_else o p) q ≡ or_else o (or_else p q)
unfolding or_else
else_assoc Less p q = refl
else_assoc Equal p q = refl
else_assoc Greater p q = refl

-- lists of one length
level_join : (a b r s : List ℕ) → length a ≡ length b → compare (a ++ r) (b ++ s) ≡ or_else (compare a b) (compare r s)
unfolding compare or_else
level_join [] [] r s e = refl
level_join [] (y ∷ b) r s e = absurd (omega arith)
level_join (x ∷ a) [] r s e = absurd (omega arith)
level_join (x ∷ a) (y ∷ b) r s e =
    rw (level_join a b r s (omega arith)) (sym (else_assoc (compare_word x y) (compare a b) (compare r s)))

-- a count, then what is compared after equal counts alone
counted : (n m : ℕ) (p q o : Ordering) → n < 2 ^ 32 → m < 2 ^ 32 → (n ≡ m → p ≡ or_else q o) → or_else (compare_word n m) p ≡ or_else (or_else (compare_word n m) q) o
unfolding or_else
counted n m p q o hn hm e = go (compare_word n m) refl
  where
    go : (c : Ordering) → compare_word n m ≡ c → or_else c p ≡ or_else (or_else c q) o
    go Less f = refl
    go Equal f = e (word_alike n m hn hm f)
    go Greater f = refl

mutual
  unfolding encode count compare compare_word or_else signed

  pub value_join : (v w : Value) (r s : List ℕ) → length (encode v) < 2 ^ 32 → length (encode w) < 2 ^ 32 →
      compare (encode v ++ r) (encode w ++ s) ≡ or_else (compare (encode v) (encode w)) (compare r s)
  value_join (int y) (int z) r s p q = level_join (encode (int y)) (encode (int z)) r s refl
  value_join (int y) (element g k) r s p q = refl
  value_join (int y) (set us) r s p q = refl
  value_join (int y) (tuple us) r s p q = refl
  value_join (element f j) (int z) r s p q = refl
  value_join (element f j) (element g k) r s p q = level_join (encode (element f j)) (encode (element g k)) r s refl
  value_join (element f j) (set us) r s p q = refl
  value_join (element f j) (tuple us) r s p q = refl
  value_join (set vs) (int z) r s p q = refl
  value_join (set vs) (element g k) r s p q = refl
  value_join (set vs) (set us) r s p q =
      counted (count vs) (count us) (compare (encodes vs ++ r) (encodes us ++ s)) (compare (encodes vs) (encodes us)) (compare r s) (omega (arith, count_few vs)) (omega (arith, count_few us))
      (λ e. values_join vs us r s e (omega arith) (omega arith))
  value_join (set vs) (tuple us) r s p q = refl
  value_join (tuple vs) (int z) r s p q = refl
  value_join (tuple vs) (element g k) r s p q = refl
  value_join (tuple vs) (set us) r s p q = refl
  value_join (tuple vs) (tuple us) r s p q =
      counted (count vs) (count us) (compare (encodes vs ++ r) (encodes us ++ s)) (compare (encodes vs) (encodes us)) (compare r s) (omega (arith, count_few vs)) (omega (arith, count_few us))
      (λ e. values_join vs us r s e (omega arith) (omega arith))

  values_join : (vs us : Values) (r s : List ℕ) → count vs ≡ count us → length (encodes vs) < 2 ^ 32 → length (encodes us) < 2 ^ 32 →
      compare (encodes vs ++ r) (encodes us ++ s) ≡ or_else (compare (encodes vs) (encodes us)) (compare r s)
  values_join nil nil r s e p q = refl
  values_join nil (cons u us) r s e p q = absurd (omega arith)
  values_join (cons v vs) nil r s e p q = absurd (omega arith)
  values_join (cons v vs) (cons u us) r s e p q =
      let a = length-append (encode v) (encodes vs) in
      let b = length-append (encode u) (encodes us) in
      rw (
        append_assoc (encode v) (encodes vs) r,
        append_assoc (encode u) (encodes us) s,
        value_join v u (encodes vs ++ r) (encodes us ++ s) (omega arith) (omega arith),
        value_join v u (encodes vs) (encodes us) (omega arith) (omega arith),
        values_join vs us r s (omega arith) (omega arith) (omega arith),
      )
      (sym (else_assoc (compare (encode v) (encode u)) (compare (encodes vs) (encodes us)) (compare r s)))
