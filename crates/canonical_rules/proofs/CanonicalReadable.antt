-- THE CANONICAL WORDS OF A READABLE DOCUMENT ARE READABLE: 16 and 17 do not depend on the order of nodes, and so on all findings of reading.
use mathlib.Core.Path.{◌≡◌, refl, ap, ap₂, sym, ◌∙◌, subst}
use mathlib.Core.Bool.{Bool, true, false, cond, ◌&&◌, ◌||◌, not, false≢true}
use mathlib.Core.List.{List, [], ◌∷◌, map}
use Prim.Native.Nat.{ℕ, zero, suc, ◌+◌, ◌-◌, ◌≤◌}
use native.Mathlib.Omega.{arith}
use native.Mathlib.Decide.{ℕ_discrete}
use lib.Dec.{ltb, eqb}
use lib.ListN.{length, length-map}
use borrow.Author.Tests.{eqb-true, eq-eqb, ne_eqb, ltb-false, le-ltb, not-false}
use Rattle.words.specs.Loops.{has, occurrences, total, joined}
use Rattle.words.proofs.Loops.{and_left, and_right}
use Rattle.words.proofs.Lists.{total_last, total_upto, has_once, once_has}
use Rattle.layout.specs.Layout.{count}
use Rattle.reader_rules.specs.Nodes.{kind_at, parent, ancestors, above}
use Rattle.reader_rules.specs.Findings.{node_number, use_number}
use Rattle.reader_rules.specs.Repeats.{fresh, written_before, repeats_in, declared, globals, declared_in, parameters, schemas, repeats, repeat_number}
use Rattle.reader_rules.specs.Limits.{texts_among, declared_up_to, is_closing, below_up_to, any_crowded, globals_up_to, too_deep, too_nested, too_wide, too_crowded, too_many, limit_number}
use Rattle.reader_rules.specs.Reading.{lowest, read_of}
use Rattle.reader_rules.specs.Refusals.{Readable}
use Rattle.reader_rules.proofs.Accepted.{Document, readable}
use Rattle.reader_rules.proofs.Scan.{scan_clear, cond_off}
use Rattle.reader_rules.proofs.Occurrences.{AllIn, total_same}
use Rattle.reader_rules.proofs.WithinLimits.{Within, neither, within_limits}
use Rattle.canonical_rules.proofs.Lists.{has_map}
use Rattle.canonical_rules.proofs.CanonicalParts.{new_number, canonical, new_range, every_new, new_injective, count_same}
use Rattle.canonical_rules.proofs.CanonicalNodes.{occurrences_joined, new_total, kind_new, sound_new, used_new}
use Rattle.canonical_rules.proofs.CanonicalAbove.{laid_new, new_parent, parent_new, above_new, above_range, globals_new, schemas_new, parameters_new, declared_in_new}

-- sums
total_mono : (f : ℕ → ℕ) (i m n : ℕ) → m ≤ n → total f i m ≤ total f i n
unfolding total
total_mono f i zero n l = omega arith
total_mono f i (suc m) zero l = absurd (omega arith)
total_mono f i (suc m) (suc n) l = let h = total_mono f (suc i) m n (omega arith) in omega (arith, h)

-- WRITTEN ONCE: each group's writings are fresh, node after node, exactly where nothing is written twice.
fresh_once : (written ws : List ℕ) → fresh written ws ≡ true → (x : ℕ) → (occurrences x written ≤ 1) → occurrences x written + occurrences x ws ≤ 1
unfolding fresh occurrences
fresh_once written [] h x o = omega (arith, o)
fresh_once written (y ∷ ws) h x o =
    let a = not_has (has y written) (and_left (not (has y written)) _ h) in
    let r = fresh_once (y ∷ written) ws (and_right (not (has y written)) _ h) x in
    go (eqb y x) refl r (λ e. none y written a (occurrences y written) refl)
  where
    not_has : (b : Bool) → not b ≡ true → b ≡ false
    not_has true e = absurd (false≢true e)
    not_has false e = refl

    none : (y : ℕ) (l : List ℕ) → has y l ≡ false → (n : ℕ) → occurrences y l ≡ n → occurrences y l ≡ 0
    none y l a zero e = e
    none y l a (suc n) e = absurd (false≢true (sym a ∙ once_has y l (omega (arith, e))))

    go : (b : Bool) → eqb y x ≡ b → (cond b 1 0 + occurrences x written ≤ 1 → (cond b 1 0 + occurrences x written) + occurrences x ws ≤ 1)
        → (y ≡ y → occurrences y written ≡ 0) → occurrences x written + (cond b 1 0 + occurrences x ws) ≤ 1
    go true e r z =
        let w : occurrences x written ≡ 0 = subst (λ v. occurrences v written ≡ 0) (eqb-true y x e) (z refl) in
        let k = r (omega (arith, w)) in
        omega (arith, k)
    go false e r z = let k = r (omega (arith, o)) in omega (arith, k)

once_fresh : (written ws : List ℕ) → ((x : ℕ) → occurrences x written + occurrences x ws ≤ 1) → fresh written ws ≡ true
unfolding fresh occurrences
once_fresh written [] h = refl
once_fresh written (y ∷ ws) h =
    ap₂ (λ a b. not a && b) (lacks (has y written) refl)
    (once_fresh (y ∷ written) ws (λ x. let k = h x in move (cond (eqb y x) 1 0) (occurrences x written) (occurrences x ws) k))
  where
    move : (a b c : ℕ) → b + (a + c) ≤ 1 → (a + b) + c ≤ 1
    move a b c k = omega (arith, k)

    lacks : (b : Bool) → has y written ≡ b → has y written ≡ false
    lacks true e =
        let k : occurrences y written + (cond (eqb y y) 1 0 + occurrences y ws) ≤ 1 = h y in
        let m = subst (λ b. occurrences y written + (cond b 1 0 + occurrences y ws) ≤ 1) (eq-eqb y y refl) k in
        absurd (omega (arith, m, has_once y written e))
    lacks false e = e

module _ (group : ℕ → List ℕ) where
  once_all : (m : ℕ) → ((k : ℕ) → 1 ≤ k → k ≤ m → fresh (written_before group k) (group k) ≡ true) → (x : ℕ) → total (λ j. occurrences x (group j)) 1 m ≤ 1
  unfolding total
  once_all zero h x = omega arith
  once_all (suc m) h x =
      let r = once_all m (λ k p q. h k p (omega arith)) x in
      let e = total_last (λ j. occurrences x (group j)) 1 m in
      let w : occurrences x (joined group 1 m) ≡ total (λ j. occurrences x (group j)) 1 m = occurrences_joined x group 1 m in
      let f : fresh (joined group 1 m) (group (suc m)) ≡ true = ap (λ z. fresh (joined group 1 z) (group (suc m))) (sym (less m)) ∙ h (suc m) (omega arith) (omega arith) in
      let o = fresh_once (joined group 1 m) (group (suc m)) f x (omega (arith, w, r)) in
      let g : total (λ j. occurrences x (group j)) 1 m + occurrences x (group (suc m)) ≤ 1 = omega (arith, o, w) in
      let y : occurrences x (group (1 + m)) ≡ occurrences x (group (suc m)) = ap (λ z. occurrences x (group z)) (up m) in
      subst (λ z. z ≤ 1) (sym e) (omega (arith, g, y))
    where
      less : (m : ℕ) → suc m - 1 ≡ m
      less m = omega arith

      up : (m : ℕ) → 1 + m ≡ suc m
      up m = omega arith

  all_once : (m : ℕ) → ((x : ℕ) → total (λ j. occurrences x (group j)) 1 m ≤ 1) → (k : ℕ) → 1 ≤ k → k ≤ m → repeats_in group k ≡ false
  all_once m h k p q =
      ap not (once_fresh (written_before group k) (group k) (λ x.
      let a = total_mono (λ j. occurrences x (group j)) 1 k m q in
      let b = total_upto (λ j. occurrences x (group j)) k p in
      let c = occurrences_joined x group 1 (k - 1) in
      let e = h x in
      omega (arith, a, b, c, e)))

or_none_lem : (a b : Bool) → a ≡ false → b ≡ false → (a || b) ≡ false
or_none_lem true b e f = absurd (false≢true (sym e))
or_none_lem false b e f = f

crowded_at : (doc : List ℕ) (k a : ℕ) (l : List ℕ) → any_crowded doc k l ≡ false → has a l ≡ true → is_closing (kind_at doc a) ≡ true → below_up_to doc a k ≤ 24
unfolding any_crowded has
crowded_at doc k a [] h x c = absurd (false≢true x)
crowded_at doc k a (y ∷ l) h x c = go (λ z. crowded_at doc k a l n.1 z c) (eqb y a) refl x
  where
    n : ((is_closing (kind_at doc y) && ltb 24 (below_up_to doc y k)) ≡ false) × (any_crowded doc k l ≡ false)
    n = neither (is_closing (kind_at doc y) && ltb 24 (below_up_to doc y k)) (any_crowded doc k l) h

    second : (a b : Bool) → a ≡ true → (a && b) ≡ false → b ≡ false
    second true b e f = f
    second false b e f = absurd (false≢true e)

    go : (has a l ≡ true → below_up_to doc a k ≤ 24) → (b : Bool) → eqb y a ≡ b → (b || has a l) ≡ true → below_up_to doc a k ≤ 24
    go r true e z =
        let s = eqb-true y a e in
        subst (λ v. below_up_to doc v k ≤ 24) s (ltb-false 24 (below_up_to doc y k) (second (is_closing (kind_at doc y)) (ltb 24 (below_up_to doc y k)) (ap (λ v. is_closing (kind_at doc v)) s ∙ c) n.0))
    go r false e z = r z

none_crowded : (doc : List ℕ) (k : ℕ) (l : List ℕ) → AllIn (λ a. is_closing (kind_at doc a) ≡ true → below_up_to doc a k ≤ 24) l → any_crowded doc k l ≡ false
unfolding any_crowded
none_crowded doc k [] h = refl
none_crowded doc k (a ∷ l) h = or_none_lem (is_closing (kind_at doc a) && ltb 24 (below_up_to doc a k)) (any_crowded doc k l) (go (is_closing (kind_at doc a)) h.0) (none_crowded doc k l h.1)
  where
    go : (b : Bool) → (b ≡ true → below_up_to doc a k ≤ 24) → (b && ltb 24 (below_up_to doc a k)) ≡ false
    go true f = le-ltb 24 (below_up_to doc a k) (f refl)
    go false f = refl

all_in_mapped : (P Q : ℕ → Type 0) (f : ℕ → ℕ) (l : List ℕ) → AllIn P l → ((x : ℕ) → P x → Q (f x)) → AllIn Q (map f l)
all_in_mapped P Q f [] h k = tt
all_in_mapped P Q f (x ∷ l) h k = (k x h.0, all_in_mapped P Q f l h.1 k)

module _ (doc : List ℕ) (read : read_of doc ≡ Readable) where
  d : Document doc
  d = readable doc read

  -- a sum over the new numbers
  sum_new : (G H : ℕ → ℕ) → ((k : ℕ) → 1 ≤ k → k ≤ count doc → G (new_number doc read k) ≡ H k) → total G 1 (count doc) ≡ total H 1 (count doc)
  sum_new G H h = new_total doc read G ∙ total_same (λ k. G (new_number doc read k)) H 1 (count doc) (λ k p q. h k p (omega arith))

  group_new : (G H : ℕ → List ℕ) → ((k : ℕ) → 1 ≤ k → k ≤ count doc → G (new_number doc read k) ≡ H k) → ((k : ℕ) → 1 ≤ k → k ≤ count doc → fresh (written_before H k) (H k) ≡ true)
      → (i : ℕ) → 1 ≤ i → i ≤ count doc → repeats_in G i ≡ false
  group_new G H e f i p q =
      all_once G (count doc) (λ x. subst (λ z. z ≤ 1) (sym (sum_new (λ j. occurrences x (G j)) (λ j. occurrences x (H j)) (λ k a b. ap (occurrences x) (e k a b)))) (once_all H (count doc) f x)) i p q

  -- what 16's absence says of a node
  record Unrepeated (k : ℕ) : Type 0 where
    in_globals : fresh (written_before (globals doc) k) (globals doc k) ≡ true
    in_text : fresh (written_before (declared_in doc (parent doc k)) k) (declared_in doc (parent doc k) k) ≡ true
    in_parameters : not (fresh [] (parameters doc k)) ≡ false
    in_schemas : fresh (written_before (schemas doc) k) (schemas doc k) ≡ true

  unrepeated : (k : ℕ) → 1 ≤ k → k ≤ count doc → Unrepeated k
  unfolding repeat_number
  unrepeated k p q =
      let x : repeats doc k ≡ false = (cond_off (repeats doc k) 16 0 (omega arith) (d.unrepeated k p q)).0 in
      let a = neither (repeats_in (globals doc) k) _ x in
      let b = neither (repeats_in (declared_in doc (parent doc k)) k) _ a.1 in
      let c = neither (not (fresh [] (parameters doc k))) _ b.1 in
      record { in_globals = not-false _ a.0; in_text = not-false _ b.0; in_parameters = c.0; in_schemas = not-false _ c.1 }

  -- the Decls of any Text
  text_fresh : (t k : ℕ) → 1 ≤ k → k ≤ count doc → fresh (written_before (declared_in doc t) k) (declared_in doc t k) ≡ true
  text_fresh t k p q = go (ℕ_discrete (parent doc k) t)
    where
      nothing : (parent doc k ≡ t → ⊥) → declared_in doc t k ≡ []
      nothing n = unfold declared_in in (ap (λ b. cond (eqb (kind_at doc k) 11 && b) (declared doc k) []) (ne_eqb (parent doc k) t n) ∙ off (eqb (kind_at doc k) 11))
        where
          off : (b : Bool) → cond (b && false) (declared doc k) [] ≡ []
          off true = refl
          off false = refl

      go : Dec (parent doc k ≡ t) → fresh (written_before (declared_in doc t) k) (declared_in doc t k) ≡ true
      go (yes e) = subst (λ z. fresh (written_before (declared_in doc z) k) (declared_in doc z k) ≡ true) e (unrepeated k p q).in_text
      go (no n) = ap (fresh (written_before (declared_in doc t) k)) (nothing n) ∙ empty (written_before (declared_in doc t) k)
        where
          empty : (w : List ℕ) → fresh w [] ≡ true
          empty w = unfold fresh in refl

  -- 16
  module _ (k : ℕ) (p : 1 ≤ k) (q : k ≤ count doc) where
    repeat_new : repeat_number (canonical doc read) (new_number doc read k) ≡ 0
    unfolding repeat_number
    repeat_new =
        let c = canonical doc read in
        let i = new_number doc read k in
        let r = new_range doc read k p q in
        let a = group_new (globals c) (globals doc) (λ j x y. globals_new doc read j x y) (λ j x y. (unrepeated j x y).in_globals) i r.0 r.1 in
        let t = parent doc k in
        let b : repeats_in (declared_in c (parent c i)) i ≡ false =
        ap (λ z. repeats_in (declared_in c z) i) (parent_new doc read k p q) ∙ group_new (declared_in c (new_parent doc read t)) (declared_in doc t) (λ j x y. declared_in_new doc read j x y t) (text_fresh t) i r.0 r.1
        in
        let e = ap (λ l. not (fresh [] l)) (parameters_new doc read k p q) ∙ (unrepeated k p q).in_parameters in
        let f = group_new (schemas c) (schemas doc) (λ j x y. schemas_new doc read j x y) (λ j x y. (unrepeated j x y).in_schemas) i r.0 r.1 in
        ap (λ b. cond b 16 0) (or_none_lem (repeats_in (globals c) i) _ a (or_none_lem (repeats_in (declared_in c (parent c i)) i) _ b (or_none_lem (not (fresh [] (parameters c i))) _ e f)))

  -- 17
  within : (k : ℕ) → 1 ≤ k → k ≤ count doc → Within doc k
  within k p q = within_limits doc d k p q

  texts_new : (l : List ℕ) → AllIn (λ a. (1 ≤ a) × (a ≤ count doc)) l → texts_among (canonical doc read) (map (new_number doc read) l) ≡ texts_among doc l
  unfolding texts_among
  texts_new [] h = refl
  texts_new (a ∷ l) h = ap₂ (λ z n. cond (eqb z 10) 1 0 + n) (kind_new doc read a h.0.0 h.0.1) (texts_new l h.1)

  -- 6 identifiers in a Text's Decls, up to any node
  wide_all : (t m : ℕ) → m ≤ count doc → declared_up_to doc t m ≤ 6
  unfolding total
  wide_all t zero l = omega arith
  wide_all t (suc m) l =
      let r = wide_all t m (omega arith) in
      let e = total_last (λ j. length (declared_in doc t j)) 1 m in
      subst (λ z. z ≤ 6) (sym e) (subst (λ z. total (λ j. length (declared_in doc t j)) 1 m + length (declared_in doc t z) ≤ 6) (sym (up m)) (go r (eqb (kind_at doc (suc m)) 11) refl (ℕ_discrete (parent doc (suc m)) t)))
    where
      up : (m : ℕ) → 1 + m ≡ suc m
      up m = omega arith

      none : (b : Bool) → b ≡ false → length (cond b (declared doc (suc m)) []) ≡ 0
      none true e = absurd (false≢true (sym e))
      none false e = refl

      go : declared_up_to doc t m ≤ 6 → (b : Bool) → eqb (kind_at doc (suc m)) 11 ≡ b → Dec (parent doc (suc m) ≡ t) → total (λ j. length (declared_in doc t j)) 1 m + length (declared_in doc t (suc m)) ≤ 6
      go r true e (yes y) =
          let w = (within (suc m) (omega arith) l).wide (eqb-true (kind_at doc (suc m)) 11 e) in
          let x : declared_up_to doc t (suc m) ≤ 6 = subst (λ z. declared_up_to doc z (suc m) ≤ 6) y w in
          let s = total_last (λ j. length (declared_in doc t j)) 1 m in
          let u : length (declared_in doc t (1 + m)) ≡ length (declared_in doc t (suc m)) = ap (λ z. length (declared_in doc t z)) (up m) in
          omega (arith, x, s, u)
      go r true e (no y) =
          let z : length (declared_in doc t (suc m)) ≡ 0 = unfold declared_in in (ap (λ b. length (cond (eqb (kind_at doc (suc m)) 11 && b) (declared doc (suc m)) [])) (ne_eqb (parent doc (suc m)) t y) ∙ none (eqb (kind_at doc (suc m)) 11 && false) (and_no (eqb (kind_at doc (suc m)) 11))) in
          omega (arith, r, z)
        where
          and_no : (b : Bool) → (b && false) ≡ false
          and_no true = refl
          and_no false = refl
      go r false e y =
          let z : length (declared_in doc t (suc m)) ≡ 0 = unfold declared_in in (ap (λ b. length (cond (b && eqb (parent doc (suc m)) t) (declared doc (suc m)) [])) e) in
          omega (arith, r, z)

  -- 24 nodes below a closing node, up to any node
  crowd_all : (a m : ℕ) → is_closing (kind_at doc a) ≡ true → m ≤ count doc → below_up_to doc a m ≤ 24
  unfolding total
  crowd_all a zero c l = omega arith
  crowd_all a (suc m) c l =
      let r = crowd_all a m c (omega arith) in
      let e = total_last (λ j. cond (has a (ancestors doc j)) 1 0) 1 m in
      subst (λ z. z ≤ 24) (sym e) (subst (λ z. below_up_to doc a m + cond (has a (ancestors doc z)) 1 0 ≤ 24) (sym (up m)) (go r (has a (ancestors doc (suc m))) refl))
    where
      up : (m : ℕ) → 1 + m ≡ suc m
      up m = omega arith

      go : below_up_to doc a m ≤ 24 → (b : Bool) → has a (ancestors doc (suc m)) ≡ b → below_up_to doc a m + cond (has a (ancestors doc (suc m))) 1 0 ≤ 24
      go r true e =
          let x = crowded_at doc (suc m) a (ancestors doc (suc m)) (within (suc m) (omega arith) l).uncrowded e c in
          let s = total_last (λ j. cond (has a (ancestors doc j)) 1 0) 1 m in
          let u : ◌≡◌ {A = ℕ} (cond (has a (ancestors doc (1 + m))) 1 0) (cond (has a (ancestors doc (suc m))) 1 0) = ap (λ z. cond (has a (ancestors doc z)) 1 0) (up m) in
          omega (arith, x, s, u)
      go r false e = let z : ◌≡◌ {A = ℕ} (cond (has a (ancestors doc (suc m))) 1 0) 0 = ap (λ b. cond b 1 0) e in omega (arith, r, z)

  module _ (k : ℕ) (p : 1 ≤ k) (q : k ≤ count doc) where
    deep_new : too_deep (canonical doc read) (new_number doc read k) ≡ false
    deep_new =
        let n : length (ancestors (canonical doc read) (new_number doc read k)) ≡ length (ancestors doc k) = ap length (above_new doc read 1024 k p q) ∙ length-map (above doc 1024 k) (new_number doc read) in
        let w = (within k p q).deep in
        le-ltb 12 (1 + length (ancestors (canonical doc read) (new_number doc read k))) (omega (arith, n, w))

    nested_new : too_nested (canonical doc read) (new_number doc read k) ≡ false
    nested_new =
        ap₂ (λ z n. eqb z 10 && ltb 4 (1 + n)) (kind_new doc read k p q) (ap (texts_among (canonical doc read)) (above_new doc read 1024 k p q) ∙ texts_new (above doc 1024 k) (above_range doc read 1024 k))
        ∙ go (eqb (kind_at doc k) 10) refl
      where
        go : (b : Bool) → eqb (kind_at doc k) 10 ≡ b → (b && ltb 4 (1 + texts_among doc (ancestors doc k))) ≡ false
        go true e = let w = (within k p q).nested (eqb-true (kind_at doc k) 10 e) in le-ltb 4 (1 + texts_among doc (ancestors doc k)) (omega (arith, w))
        go false e = refl

    wide_new : too_wide (canonical doc read) (new_number doc read k) ≡ false
    wide_new =
        let c = canonical doc read in
        let i = new_number doc read k in
        let r = new_range doc read k p q in
        let t = parent doc k in
        let a = total_mono (λ j. length (declared_in c (new_parent doc read t) j)) 1 i (count doc) r.1 in
        let b = sum_new (λ j. length (declared_in c (new_parent doc read t) j)) (λ j. length (declared_in doc t j)) (λ j x y. ap length (declared_in_new doc read j x y t)) in
        let w = wide_all t (count doc) (omega arith) in
        ap (λ z. eqb (kind_at c i) 11 && ltb 6 (declared_up_to c z i)) (parent_new doc read k p q)
        ∙ and_off (eqb (kind_at c i) 11) (ltb 6 (declared_up_to c (new_parent doc read t) i)) (le-ltb 6 (declared_up_to c (new_parent doc read t) i) (omega (arith, a, b, w)))
      where
        and_off : (a b : Bool) → b ≡ false → (a && b) ≡ false
        and_off true b e = e
        and_off false b e = refl

    crowded_new : too_crowded (canonical doc read) (new_number doc read k) ≡ false
    crowded_new =
        let c = canonical doc read in
        let f = new_number doc read in
        let r = new_range doc read k p q in
        ap (any_crowded c (f k)) (above_new doc read 1024 k p q)
        ∙ none_crowded c (f k) (map f (above doc 1024 k))
        (all_in_mapped (λ a. (1 ≤ a) × (a ≤ count doc)) (λ a. is_closing (kind_at c a) ≡ true → below_up_to c a (f k) ≤ 24) f (above doc 1024 k) (above_range doc read 1024 k)
        (λ a h z.
        let m = total_mono (λ j. cond (has (f a) (ancestors c j)) 1 0) 1 (f k) (count doc) r.1 in
        let b = sum_new (λ j. cond (has (f a) (ancestors c j)) 1 0) (λ j. cond (has a (ancestors doc j)) 1 0) (λ j x y. ap (λ b. cond b 1 0) (ap (has (f a)) (above_new doc read 1024 j x y) ∙ has_map f (new_injective doc read) a (ancestors doc j))) in
        let w = crowd_all a (count doc) (ap is_closing (sym (kind_new doc read a h.0 h.1)) ∙ z) (omega arith) in
        omega (arith, m, b, w)))

    many_new : too_many (canonical doc read) (new_number doc read k) ≡ false
    many_new =
        let c = canonical doc read in
        let i = new_number doc read k in
        let r = new_range doc read k p q in
        let a = total_mono (λ j. length (globals c j)) 1 i (count doc) r.1 in
        let b = sum_new (λ j. length (globals c j)) (λ j. length (globals doc j)) (λ j x y. ap length (globals_new doc read j x y)) in
        let w = (within (count doc) d.nodes.laid.some (omega arith)).globals in
        le-ltb 64 (globals_up_to c i) (omega (arith, a, b, w))

    limit_new : limit_number (canonical doc read) (new_number doc read k) ≡ 0
    unfolding limit_number
    limit_new =
        let c = canonical doc read in
        let i = new_number doc read k in
        ap (λ b. cond b 17 0) (or_none_lem (too_deep c i) _ deep_new (or_none_lem (too_nested c i) _ nested_new (or_none_lem (too_wide c i) _ wide_new (or_none_lem (too_crowded c i) _ crowded_new many_new))))

    node_new : node_number (canonical doc read) (new_number doc read k) ≡ 0
    node_new = let s = sound_new doc read k p q in rw (s.listed, s.counted, s.plain, s.lower) refl

  -- each finding is absent at each node
  at_each : (g : ℕ → ℕ) → ((k : ℕ) → 1 ≤ k → k ≤ count doc → g (new_number doc read k) ≡ 0) → lowest (canonical doc read) g ≡ Readable
  at_each g h =
      scan_clear g 1 (count (canonical doc read)) (λ i p q.
      let n = count_same doc read in
      let o = every_new doc read i p (omega (arith, n)) in
      ap g (sym o.new) ∙ h o.old o.some o.most)

  pub canonical_readable : read_of (canonical doc read) ≡ Readable
  unfolding read_of
  canonical_readable = rw (laid_new doc read, at_each (node_number (canonical doc read)) node_new, at_each (use_number (canonical doc read)) (used_new doc read), at_each (repeat_number (canonical doc read)) repeat_new, at_each (limit_number (canonical doc read)) limit_new) refl
