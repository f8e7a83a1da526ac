-- Who is a listed member: what Member's own test asks of a Power and of a Product.
use mathlib.Core.Path.{◌≡◌, refl, sym, ap, ◌∙◌}
use mathlib.Core.Bool.{Bool, true, false, cond, ◌&&◌, false≢true}
use mathlib.Core.List.{List, [], ◌∷◌}
use Prim.Native.Nat.{ℕ, zero, suc, ◌+◌, ◌≤◌, ◌<◌, ◌^◌}
use native.Mathlib.Omega.{arith}
use lib.Dec.{eqb}
use lib.ListN.{length, length-append}
use borrow.Author.Tests.{eqb-true, eqb-false}
use Rattle.words.proofs.Loops.{and_right}
use Rattle.values_integers.specs.Integer.{signed}
use Rattle.values.specs.Order.{compare_word, or_else, compare, is_less, is_same, same}
use Rattle.values.specs.Value.{Value, int, element, set, tuple, Values, nil, cons, count, encode, encodes}
use Rattle.values.specs.WellFormed.{well_formed, all_well_formed}
use Rattle.values.specs.SetValues.{same_value, is_in}
use Rattle.std.specs.declared.cmp.Ordering.{Ordering}
use Rattle.std.specs.declared.cmp.Ordering.TheVariants.{Less, Equal, Greater}
use Rattle.values.proofs.Encoding.{count_few}
use Rattle.values.proofs.Inserting.{flip, compare_flip}
use Rattle.enumeration_rules.specs.Enumeration.{before, rows, choices, choices_from, picks, each, subsets, tuples, all_in, each_in, in_power, in_product}
use Rattle.values.proofs.Equality.{is_same_lem}
use Rattle.values.proofs.WordOrder.{less_trans, same_left}
use Rattle.enumeration_rules.proofs.Rows.{All, none, also, Members, nobody, member, all_map, members_map, Short, Below, Up, up_none, up_more, ascends_up}
use Rattle.enumeration_rules.proofs.Powers.{choices_count, sizes_count}
use Rattle.enumeration_rules.proofs.Products.{picks_count}
use Rattle.enumeration_rules.proofs.HasRow.{has_row, or_and, has_append, has_before, in_append, in_each, in_none, in_other}

short_members : (vs : Values) → length (encodes vs) < 2 ^ 32 → Members Short vs
unfolding encode
short_members nil l = nobody
short_members (cons v vs) l =
    let e = length-append (encode v) (encodes vs) in
    member {v = v} (omega arith) (short_members vs (omega arith))

-- ---- the product

-- any row after a member: the two are asked one by one
rows_has : (w : Value) (ws : Values) (xs : List Values) → Short w → {vs : Values} → Members Short vs → has_row (cons w ws) (rows vs (λ us. xs)) ≡ (is_in w vs && has_row ws xs)
unfolding rows is_in has_row
rows_has w ws xs h nobody = refl
rows_has w ws xs h (member {v} {vs} k ks) =
    rw (has_append (cons w ws) (before v xs) (rows vs (λ us. xs)), has_before v w ws k h xs, rows_has w ws xs h ks) (or_and (same_value v w) (is_in w vs) (has_row ws xs))

picks_has : {ws : Values} {vss : List Values} → count ws ≡ length vss → Members Short ws → All (Members Short) vss → has_row ws (picks vss) ≡ each_in ws vss
unfolding picks each_in has_row same compare is_same count encode
picks_has c nobody none = refl
picks_has c nobody (also h hs) = absurd (omega arith)
picks_has c (member k ks) none = absurd (omega arith)
picks_has c (member {v = w} {vs = ws} k ks) (also {r = vs} {rs = vss} h hs) = rw (rows_has w ws (picks vss) k h, picks_has (omega arith) ks hs)

uneven : (ws : Values) (vss : List Values) → (count ws ≡ length vss → ⊥) → each_in ws vss ≡ false
unfolding each_in count
uneven nil [] c = absurd (c refl)
uneven nil (vs ∷ vss) c = refl
uneven (cons w ws) [] c = refl
uneven (cons w ws) (vs ∷ vss) c = rw (uneven ws vss (λ e. c (ap suc e))) (nothing (is_in w vs))
  where
    nothing : (b : Bool) → (b && false) ≡ false
    nothing true = refl
    nothing false = refl

tuple_in : (vss : List Values) (ws : Values) → All (Members Short) vss → length vss < 2 ^ 32 → Members Short ws → count ws < 2 ^ 32 → is_in (tuple ws) (tuples vss) ≡ each_in ws vss
unfolding tuples encode
tuple_in vss ws h n k m = go (eqb (count ws) (length vss)) refl
  where
    go : (b : Bool) → eqb (count ws) (length vss) ≡ b → is_in (tuple ws) (tuples vss) ≡ each_in ws vss
    go true q =
        let c = eqb-true (count ws) (length vss) q in
        in_each 4 tuple (λ r. refl) ws (all_map (λ r e. e ∙ sym c) (picks_count vss)) ∙ picks_has c k h
    go false q =
        let c = eqb-false (count ws) (length vss) q in
        in_none 4 tuple (λ r. refl) ws m (all_map (λ r e. (omega arith, λ d. c (sym d ∙ e))) (picks_count vss)) ∙ sym (uneven ws vss c)

-- v is a listed member of the product exactly where it is a tuple of as many parts, each a member of its operand.
pub product_member : (vss : List Values) → All (λ vs. length (encodes vs) < 2 ^ 32) vss → length vss < 2 ^ 32 → (v : Value) → length (encode v) < 2 ^ 32 → is_in v (tuples vss) ≡ in_product v vss
unfolding tuples in_product encode same_value same compare compare_word signed or_else is_same
product_member vss h n (int z) l = in_other 4 tuple (λ r. refl) (int z) (λ r. refl) (picks vss)
product_member vss h n (element g k) l = in_other 4 tuple (λ r. refl) (element g k) (λ r. refl) (picks vss)
product_member vss h n (set ws) l = in_other 4 tuple (λ r. refl) (set ws) (λ r. refl) (picks vss)
product_member vss h n (tuple ws) l = tuple_in vss ws (all_map short_members h) n (short_members ws (omega arith)) (omega (arith, count_few ws))

-- ---- the power

less_unlike : (o : Ordering) → is_less o ≡ true → is_same o ≡ false
unfolding is_same is_less
less_unlike Less e = refl
less_unlike Equal e = absurd (false≢true e)
less_unlike Greater e = refl

-- two same values are the same to any third
same_right : (p a b : List ℕ) → compare a b ≡ Equal → compare p a ≡ compare p b
same_right p a b e = compare_flip a p ∙ ap flip (same_left a b p e) ∙ sym (compare_flip b p)

pub below_in : (p : List ℕ) (w : Value) {vs : Values} → Members (Below p) vs → is_in w vs ≡ true → Below p w
unfolding is_in same_value same
below_in p w nobody e = absurd (false≢true e)
below_in p w (member {v} {vs} b m) e = go (λ f. below_in p w m f) (is_same (compare (encode v) (encode w))) refl e
  where
    go : (is_in w vs ≡ true → Below p w) → (c : Bool) → is_same (compare (encode v) (encode w)) ≡ c → cond c true (is_in w vs) ≡ true → Below p w
    go later true q e = rw (same_right p (encode v) (encode w) (is_same_lem _ q)) at b
    go later false q e = later e

-- what is above v is not v
above_skip : (v : Value) (vs : Values) {ws : Values} → Members (Below (encode v)) ws → all_in ws (cons v vs) ≡ all_in ws vs
unfolding all_in is_in same_value same
above_skip v vs nobody = refl
above_skip v vs (member {v = w} b m) = rw (less_unlike (compare (encode v) (encode w)) b, above_skip v vs m)

-- where w is v or a later member, what is above w is above v
above_first : (v w : Value) {vs ws : Values} → Members (Below (encode v)) vs → Members (Below (encode w)) ws → is_in w (cons v vs) ≡ true → Members (Below (encode v)) ws
unfolding is_in same_value same
above_first v w {vs} {ws} m k e = go (is_same (compare (encode v) (encode w))) refl e
  where
    go : (c : Bool) → is_same (compare (encode v) (encode w)) ≡ c → cond c true (is_in w vs) ≡ true → Members (Below (encode v)) ws
    go true q e = members_map (λ u b. rw (same_left (encode v) (encode w) (encode u) (is_same_lem _ q)) b) k
    go false q e = members_map (λ u b. less_trans (encode v) (encode w) (encode u) (below_in (encode v) w m e) b) k

and_under : (a b c : Bool) → (a ≡ true → b ≡ c) → (a && b) ≡ (a && c)
and_under true b c f = f refl
and_under false b c f = refl

chosen_has : (k : ℕ) (w : Value) (ws : Values) → ((us : Values) → Up us → has_row ws (choices k us) ≡ all_in ws us) → Short w → Members (Below (encode w)) ws → {vs : Values} → Up vs →
    has_row (cons w ws) (rows vs (choices k)) ≡ (is_in w vs && all_in ws vs)
unfolding rows has_row is_in
chosen_has k w ws f h a up_none = refl
chosen_has k w ws f h a (up_more {v} {vs} g b u) =
    rw (has_append (cons w ws) (before v (choices k vs)) (rows vs (choices k)), has_before v w ws g h (choices k vs), f vs u, chosen_has k w ws f h a u)
    (or_and (same_value v w) (is_in w vs) (all_in ws vs) ∙ and_under (is_in w (cons v vs)) (all_in ws vs) (all_in ws (cons v vs)) (λ e. sym (above_skip v vs (above_first v w b a e))))

choices_has : (k : ℕ) {ws vs : Values} → count ws ≡ k → Up ws → Up vs → has_row ws (choices k vs) ≡ all_in ws vs
unfolding choices has_row all_in same compare is_same count encode
choices_has zero c up_none u = refl
choices_has zero c (up_more h a t) u = absurd (omega arith)
choices_has (suc k) c up_none u = absurd (omega arith)
choices_has (suc k) c (up_more {v = w} {vs = ws} h a t) u = chosen_has k w ws (λ us x. choices_has k (omega arith) t x) h a u

-- no choice of more than there are
rows_none : (k : ℕ) (more : Values → List Values) → ((us : Values) → count us < k → more us ≡ []) → (vs : Values) → count vs < suc k → rows vs more ≡ []
unfolding rows count before
rows_none k more f nil l = refl
rows_none k more f (cons v vs) l = rw (f vs (omega arith), rows_none k more f vs (omega arith))

choices_none : (k : ℕ) (vs : Values) → count vs < k → choices k vs ≡ []
unfolding choices
choices_none zero vs l = absurd (omega arith)
choices_none (suc k) vs l = rows_none k (choices k) (choices_none k) vs l

or_false : (b : Bool) → cond b true false ≡ b
or_false true = refl
or_false false = refl

-- the sizes are passed by until that of ws comes
sizes_has : (n k : ℕ) (ws vs : Values) → k + n ≡ suc (count vs) → k ≤ count ws → count ws < 2 ^ 32 → count vs < 2 ^ 31 → is_in (set ws) (each set (choices_from k n vs)) ≡ has_row ws (choices (count ws) vs)
unfolding choices_from each is_in has_row encode
sizes_has zero k ws vs e l s b = rw (choices_none (count ws) vs (omega arith))
sizes_has (suc n) k ws vs e l s b =
    rw (in_append 3 set (λ r. refl) (set ws) (choices k vs) (choices_from (suc k) n vs)) (go (λ m. sizes_has n (suc k) ws vs (omega arith) m s b) (eqb (count ws) k) refl)
  where
    go : (suc k ≤ count ws → is_in (set ws) (each set (choices_from (suc k) n vs)) ≡ has_row ws (choices (count ws) vs)) →
        (c : Bool) → eqb (count ws) k ≡ c → cond (is_in (set ws) (each set (choices k vs))) true (is_in (set ws) (each set (choices_from (suc k) n vs))) ≡ has_row ws (choices (count ws) vs)
    go later true q =
        let c = eqb-true (count ws) k q in
        rw (in_each 3 set (λ r. refl) ws (all_map (λ r d. d ∙ sym c) (choices_count k vs)), in_none 3 set (λ r. refl) ws s (all_map (λ r h. (omega (arith, h.1), λ d. omega (arith, h.0))) (sizes_count n (suc k) vs)), c)
        (or_false (has_row ws (choices k vs)))
    go later false q =
        let c = eqb-false (count ws) k q in
        rw (in_none 3 set (λ r. refl) ws s (all_map (λ r d. (omega arith, λ f. c (sym f ∙ d))) (choices_count k vs))) (later (omega arith))

-- v is a listed member of the power exactly where it is a set all of whose members are members.
pub power_member_lem : (size : ℕ → ℕ) (vs : Values) → well_formed size (set vs) ≡ true → length (encodes vs) < 2 ^ 31 → (v : Value) → well_formed size v ≡ true → length (encode v) < 2 ^ 32 → is_in v (subsets vs) ≡ in_power v vs
unfolding subsets in_power well_formed encode same_value same compare compare_word signed or_else is_same
power_member_lem size vs h b (int z) g l = in_other 3 set (λ r. refl) (int z) (λ r. refl) (choices_from 0 (suc (count vs)) vs)
power_member_lem size vs h b (element f k) g l = in_other 3 set (λ r. refl) (element f k) (λ r. refl) (choices_from 0 (suc (count vs)) vs)
power_member_lem size vs h b (set ws) g l =
    sizes_has (suc (count vs)) 0 ws vs (omega arith) (omega arith) (omega (arith, count_few ws)) (omega (arith, count_few vs)) ∙
    choices_has (count ws) refl (ascends_up [] ws (omega arith) (and_right (all_well_formed size ws) _ g)) (ascends_up [] vs (omega arith) (and_right (all_well_formed size vs) _ h))
power_member_lem size vs h b (tuple ws) g l = in_other 3 set (λ r. refl) (tuple ws) (λ r. refl) (choices_from 0 (suc (count vs)) vs)
