-- Power and Product list their members: ascending, distinct, exactly these; and there is one such list.
use mathlib.Core.Path.{◌≡◌, refl, sym, ap, subst, ◌∙◌}
use mathlib.Core.Bool.{Bool, true, false, false≢true}
use mathlib.Core.List.{List, []}
use Prim.Native.Nat.{ℕ, suc, ◌≤◌, ◌<◌, ◌^◌}
use native.Mathlib.Omega.{arith}
use lib.ListN.{length}
use Rattle.words.proofs.Loops.{and_left, and_right}
use Rattle.values.specs.Order.{or_else, compare, is_less, is_same, same}
use Rattle.values.specs.Value.{Value, set, Values, cons, count, encode, encodes}
use Rattle.values.specs.WellFormed.{well_formed, all_well_formed}
use Rattle.values.specs.SetValues.{same_value, is_in}
use Rattle.std.specs.declared.cmp.Ordering.{Ordering}
use Rattle.std.specs.declared.cmp.Ordering.TheVariants.{Less, Equal, Greater}
use Rattle.values.proofs.Equality.{compare_refl, is_same_lem}
use Rattle.values.proofs.Inserting.{flip, compare_flip}
use Rattle.values.proofs.Joined.{value_join}
use Rattle.values.proofs.WordOrder.{same_left}
use Rattle.enumeration_rules.specs.Enumeration.{subsets, tuples, in_power, in_product}
use Rattle.enumeration_rules.specs.Enumerates.{Enumerates, Operands, no_operand, an_operand}
use Rattle.enumeration_rules.proofs.Rows.{All, none, also, Members, member, all_map, Short, Below, Up, up_none, up_more, ascends_up, formed_members, headed}
use Rattle.enumeration_rules.proofs.Powers.{power_formed}
use Rattle.enumeration_rules.proofs.Products.{Operand, product_formed}
use Rattle.enumeration_rules.proofs.Memberships.{below_in, power_member_lem, product_member}

-- the subsets of a well-formed set; the tuples of 2 to 6 well-formed sets
pub power_enumerates : (size : ℕ → ℕ) (vs : Values) → well_formed size (set vs) ≡ true → length (encodes vs) < 2 ^ 31 → Enumerates size (λ v. in_power v vs) (subsets vs)
power_enumerates size vs h l = record { ascending = power_formed size vs h l; exactly = λ v f k. power_member_lem size vs h l v f k }

operands : (size : ℕ → ℕ) {vss : List Values} → Operands size vss → All (Operand size) vss
operands size no_operand = none
operands size (an_operand {vs = vs} h l hs) = also {r = vs} (h, l) (operands size hs)

pub product_enumerates : (size : ℕ → ℕ) (vss : List Values) → Operands size vss → 2 ≤ length vss → length vss ≤ 6 → Enumerates size (λ v. in_product v vss) (tuples vss)
product_enumerates size vss h a b =
    let o = operands size h in
    record { ascending = product_formed size vss o a b; exactly = λ v f k. product_member vss (all_map (λ vs p. p.1) o) (omega arith) v k }

-- ---- one list
first_in : (v : Value) (vs : Values) → is_in v (cons v vs) ≡ true
unfolding is_in same_value same is_same
first_in v vs = rw (compare_refl (encode v))

unlike_in : (v w : Value) (vs : Values) → same_value w v ≡ false → is_in v (cons w vs) ≡ true → is_in v vs ≡ true
unfolding is_in
unlike_in v w vs e h = rw e at h

-- what is above u is not the same as u
not_in : (u w : Value) {vs : Values} → Members (Below (encode u)) vs → compare (encode u) (encode w) ≡ Equal → is_in w vs ≡ false
unfolding is_less
not_in u w {vs} m e = go (is_in w vs) refl
  where
    go : (b : Bool) → is_in w vs ≡ b → b ≡ false
    go true q = let i = below_in (encode u) w m q in absurd (false≢true (subst (λ (o : Ordering). is_less o ≡ true) e i))
    go false q = refl

module _ (size : ℕ → ℕ) where
  abbrev Formed : Value → Type 0
  Formed v = well_formed size v ≡ true

  abbrev Alike : Values → Values → Type 0
  Alike us vs = (v : Value) → Formed v → Short v → is_in v us ≡ is_in v vs

  tail_alike : (u v : Value) {us vs : Values} → Members (Below (encode u)) us → Members (Below (encode v)) vs → compare (encode u) (encode v) ≡ Equal → Alike (cons u us) (cons v vs) → Alike us vs
  unfolding is_in same_value same
  tail_alike u v {us} {vs} a b e f w g s = go (is_same (compare (encode u) (encode w))) refl
    where
      go : (c : Bool) → is_same (compare (encode u) (encode w)) ≡ c → is_in w us ≡ is_in w vs
      go true q =
          let k = is_same_lem (compare (encode u) (encode w)) q in
          not_in u w a k ∙ sym (not_in v w b (sym (same_left (encode u) (encode v) (encode w) e) ∙ k))
      go false q = let h = f w g s in rw (← (same_left (encode u) (encode v) (encode w) e), q) at h

  abbrev SameLists : Values → Values → Type 0
  SameLists us vs = (compare (encodes us) (encodes vs) ≡ Equal) × (count us ≡ count vs)

  -- the first members are the same: the lower one would be in no other place of the other list
  firsts : (u v : Value) (us vs : Values) → Short u → Short v → Members (Below (encode u)) us → Members (Below (encode v)) vs → Formed u → Formed v → Alike (cons u us) (cons v vs) →
      (compare (encode u) (encode v) ≡ Equal → SameLists us vs) → SameLists (cons u us) (cons v vs)
  unfolding encode count or_else flip same_value same is_same is_less
  firsts u v us vs h k a b x y f ih = go (compare (encode u) (encode v)) refl
    where
      go : (o : Ordering) → compare (encode u) (encode v) ≡ o → SameLists (cons u us) (cons v vs)
      go Less e =
          let q : compare (encode v) (encode u) ≡ Greater = compare_flip (encode u) (encode v) ∙ rw e in
          let i = below_in (encode v) u b (unlike_in u v vs (rw q) (sym (f u x h) ∙ first_in u us)) in
          absurd (false≢true (subst (λ (o : Ordering). is_less o ≡ true) q i))
      go Equal e = let r = ih e in (rw (value_join u v (encodes us) (encodes vs) h k, e) r.0, ap suc r.1)
      go Greater e = let i = below_in (encode u) v a (unlike_in v u us (rw e) (f v y k ∙ first_in v vs)) in absurd (false≢true (subst (λ (o : Ordering). is_less o ≡ true) e i))

  same_lists : {us vs : Values} → Up us → Up vs → Members Formed us → Members Formed vs → Alike us vs → SameLists us vs
  unfolding encode count compare is_in
  same_lists up_none up_none p q f = (refl, refl)
  same_lists up_none (up_more {v} {vs} k b N) p (member y q) f = absurd (false≢true (f v y k ∙ first_in v vs))
  same_lists (up_more {v} {vs} h a U) up_none (member x p) q f = absurd (false≢true (sym (f v x h) ∙ first_in v vs))
  same_lists (up_more {v = u} {vs = us} h a U) (up_more {v} {vs} k b N) (member x p) (member y q) f = firsts u v us vs h k a b x y f (λ e. same_lists U N p q (tail_alike u v a b e f))

-- "= compares words": two sets that list the same values are the same
pub enumerated_once : (size : ℕ → ℕ) {is : Value → Bool} (us vs : Values) → Enumerates size is us → Enumerates size is vs → length (encodes us) < 2 ^ 32 → length (encodes vs) < 2 ^ 32 → same_value (set us) (set vs) ≡ true
unfolding well_formed same_value same is_same encode
enumerated_once size us vs a b l k =
    let h = a.ascending in
    let g = b.ascending in
    let r =
    same_lists size (ascends_up [] us l (and_right (all_well_formed size us) _ h)) (ascends_up [] vs k (and_right (all_well_formed size vs) _ g))
    (formed_members size us (and_left (all_well_formed size us) _ h)) (formed_members size vs (and_left (all_well_formed size vs) _ g))
    (λ v f s. a.exactly v f s ∙ sym (b.exactly v f s)) in
    rw (r.1, headed 3 (count vs) (encodes us) (encodes vs), r.0)
