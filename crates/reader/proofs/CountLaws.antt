-- The walk up from a node, and the counts that go by it.
use mathlib.Core.Path.{◌≡◌, refl, sym, ap, subst, ◌∙◌}
use mathlib.Core.Bool.{Bool, true, false, ◌&&◌, ◌||◌, cond, false≢true}
use mathlib.Core.List.{List, [], ◌∷◌}
use Prim.Native.Nat.{ℕ, zero, suc, ◌+◌, ◌-◌, ◌≤◌, ◌<◌}
use native.Mathlib.Omega.{arith}
use lib.Dec.{leb, ltb, eqb}
use lib.ListN.{length, get_or, set, drop, replicate, length-set, length-take, length-drop, length-replicate, get_or-replicate}
use native.Mathlib.Decide.{ℕ_discrete}
use lib.Seq.{get_or-set_same, get_or-set_other}
use borrow.Author.Tests.{eq-eqb, ne_eqb, eqb-true, eqb-false, leb-true, ltb-true, le-leb, lt-leb, le-ltb, lt-ltb}
use Rattle.words.specs.Loops.{total, has}
use Rattle.words.proofs.Loops.{turn, none_left_lem}
use Rattle.words.proofs.Lists.{same_test, total_upto}
use Rattle.layout.specs.Layout.{count, part}
use Rattle.layout.proofs.Laws.{part_length}
use Rattle.reader_rules.specs.Nodes.{kind_at, parent, above, ancestors, document_words}
use Rattle.reader_rules.specs.Repeats.{declared, declared_in, first_operand, is_axiom_decl, globals}
use Rattle.reader_rules.specs.Limits.{too_deep, texts_among, is_closing, below_up_to, any_crowded, too_crowded, declared_up_to, too_nested, too_wide, too_many, globals_up_to, limit_number}
use Rattle.reader_rules.proofs.Accepted.{Nodes}
use Rattle.reader_rules.proofs.Parents.{parent_most, parent_rises}
use Rattle.reader_repeats.specs.Parents.{places, Parents, Linked}
use Rattle.reader_repeats.proofs.ParentLaws.{nodes_of}
use Rattle.reader.specs.Counts.{reaches, counted, over, CrowdedOne, Below, Declared, Counted, past_tree}

-- the table's word at k is the parent, and is in the table too
module _ (doc up : List ℕ) (p : Parents doc up) (k a : ℕ) (h : k < places) (e : a ≡ get_or up k 0) where
  pub table_parent : a ≡ parent doc k
  table_parent = e ∙ p.at k h

  pub table_place : a < places
  table_place = omega (arith, table_parent, parent_most doc k, p.few)

-- one step up, from k to its parent a, after i steps of n; and the end
module _ (doc : List ℕ) (n i k a : ℕ) (h : i < n) (e : a ≡ parent doc k) where
  pub reaches_off : a ≡ 0 → false ≡ reaches doc (n - i) k
  unfolding reaches
  reaches_off z = rw (turn n i h, reaches, ← e, eq-eqb a 0 z)

  pub reaches_go : (a ≡ 0 → ⊥) → reaches doc (n - (i + 1)) a ≡ reaches doc (n - i) k
  unfolding reaches
  reaches_go z = rw (turn n i h, reaches, ← e, ne_eqb a 0 z)

  pub above_off : a ≡ 0 → above doc (n - i) k ≡ []
  unfolding above
  above_off z = rw (turn n i h, above, ← e, eq-eqb a 0 z)

  pub above_go : (a ≡ 0 → ⊥) → above doc (n - i) k ≡ a ∷ above doc (n - (i + 1)) a
  unfolding above
  above_go z = rw (turn n i h, above, ← e, ne_eqb a 0 z)

  pub texts_off : a ≡ 0 → texts_among doc (above doc (n - i) k) ≡ 0
  unfolding texts_among
  texts_off z = rw (above_off z)

  pub texts_go : (a ≡ 0 → ⊥) → texts_among doc (above doc (n - i) k) ≡ cond (eqb (kind_at doc a) 10) 1 0 + texts_among doc (above doc (n - (i + 1)) a)
  unfolding texts_among
  texts_go z = rw (above_go z)

module _ (doc : List ℕ) (n i k : ℕ) (h : n ≤ i) where
  pub reaches_end : true ≡ reaches doc (n - i) k
  unfolding reaches
  reaches_end = rw (none_left_lem n i h)

  pub above_end : above doc (n - i) k ≡ []
  unfolding above
  above_end = rw (none_left_lem n i h)

  pub texts_end : texts_among doc (above doc (n - i) k) ≡ 0
  unfolding texts_among
  texts_end = rw (above_end)

-- ---- one node more
-- below a, where v is what the table says of it
module _ (doc : List ℕ) (a : ℕ) (u : List ℕ) where
  pub crowd_other : is_closing (kind_at doc a) ≡ false → CrowdedOne doc a u u false
  unfolding over counted
  crowd_other e = record { stops = λ q. absurd (false≢true q); goes = λ q rest. (rw e, rw e) }

  module _ (e : is_closing (kind_at doc a) ≡ true) (v : ℕ) (ev : v ≡ get_or u a 0) where
    pub crowd_past : 24 < v + 1 → CrowdedOne doc a u u true
    unfolding over
    crowd_past l = record { stops = λ q rest. rw (e, ← ev, lt-ltb 24 (v + 1) l); goes = λ q. absurd (false≢true (sym q)) }

    crowd_set : v + 1 ≤ 24 → CrowdedOne doc a u (set u a (v + 1)) false
    unfolding over counted
    crowd_set l = record { stops = λ q. absurd (false≢true q); goes = λ q rest. (rw (e, ← ev, le-ltb 24 (v + 1) l), rw (e, ← ev)) }

    pub crowd_more : v + 1 ≤ 24 → (u' : List ℕ) → u' ≡ set u a (v + 1) → CrowdedOne doc a u u' false
    crowd_more l u' x = subst (λ z. CrowdedOne doc a u z false) (sym x) (crowd_set l)

-- the walk from k up to a, after i steps of n: what is left to do tells of the whole
pub record Crowding (doc : List ℕ) (n k : ℕ) (u : List ℕ) (i a : ℕ) (u' : List ℕ) : Type 0 where
  pub place : a < places
  pub answer : over doc (above doc (n - i) a) u' ≡ over doc (above doc n k) u
  pub table : counted doc (above doc (n - i) a) u' ≡ counted doc (above doc n k) u

pub crowding_start : (doc : List ℕ) (n k : ℕ) (u : List ℕ) → k < places → Crowding doc n k u 0 k u
crowding_start doc n k u l = let e : n - 0 ≡ n = omega arith in record { place = l; answer = rw e; table = rw e }

module _ (doc : List ℕ) (n k : ℕ) (u : List ℕ) (i a : ℕ) (u' : List ℕ) (X : Crowding doc n k u i a u') where
  pub crowding_end : above doc (n - i) a ≡ [] → (false ≡ over doc (above doc n k) u) × (false ≡ false → u' ≡ counted doc (above doc n k) u)
  unfolding over counted
  crowding_end e = (sym (ap (λ l. over doc l u') e) ∙ X.answer, λ q. sym (ap (λ l. counted doc l u') e) ∙ X.table)

  module _ (p : ℕ) (h : i < n) (e : p ≡ parent doc a) (z : p ≡ 0 → ⊥) (u'' : List ℕ) where
    pub crowding_past : CrowdedOne doc p u' u'' true → (true ≡ over doc (above doc n k) u) × (true ≡ false → u'' ≡ counted doc (above doc n k) u)
    crowding_past Y = (sym (ap (λ l. over doc l u') (above_go doc n i a p h e z) ∙ Y.stops refl (above doc (n - (i + 1)) p)) ∙ X.answer, λ q. absurd (false≢true (sym q)))

    pub crowding_next : p < places → CrowdedOne doc p u' u'' false → Crowding doc n k u (i + 1) p u''
    crowding_next l Y =
        let g = Y.goes refl (above doc (n - (i + 1)) p) in
        let up = above_go doc n i a p h e z in
        record {
          place = l;
          answer = sym (ap (λ l. over doc l u') up ∙ g.0) ∙ X.answer;
          table = sym (ap (λ l. counted doc l u') up ∙ g.1) ∙ X.table;
        }

pub crowded_as : {doc : List ℕ} {a : ℕ} {u u' : List ℕ} {r b : Bool} → CrowdedOne doc a u u' r → r ≡ b → CrowdedOne doc a u u' b
crowded_as {doc = doc} {a = a} {u = u} {u' = u'} Y e = subst (CrowdedOne doc a u u') e Y

-- ---- depth
-- n steps up can be made exactly where at least n nodes lie above
reaches_length : (doc : List ℕ) (n m k : ℕ) → n ≤ m → reaches doc n k ≡ leb n (length (above doc m k))
unfolding reaches above
reaches_length doc zero m k h = sym (le-leb 0 (length (above doc m k)) (omega arith))
reaches_length doc (suc n) zero k h = absurd (omega arith)
reaches_length doc (suc n) (suc m) k h = go (eqb (parent doc k) 0) (reaches_length doc n m (parent doc k) (omega arith))
  where
    up : (x : ℕ) → leb n x ≡ leb (suc n) (suc x)
    up x = same_test (leb n x) (leb (suc n) (suc x)) (λ e. le-leb (suc n) (suc x) (omega (arith, leb-true n x e))) (λ e. le-leb n x (omega (arith, leb-true (suc n) (suc x) e)))

    go : (b : Bool) → reaches doc n (parent doc k) ≡ leb n (length (above doc m (parent doc k)))
        → cond b false (reaches doc n (parent doc k)) ≡ leb (suc n) (length (cond b [] (parent doc k ∷ above doc m (parent doc k))))
    go true e = sym (lt-leb (suc n) 0 (omega arith))
    go false e = e ∙ up (length (above doc m (parent doc k)))

-- where n steps cannot be made, the walk of n steps meets all that lie above
above_all : (doc : List ℕ) (n m k : ℕ) → n ≤ m → reaches doc n k ≡ false → above doc n k ≡ above doc m k
unfolding reaches above
above_all doc zero m k h e = absurd (false≢true (sym e))
above_all doc (suc n) zero k h e = absurd (omega arith)
above_all doc (suc n) (suc m) k h e = go (eqb (parent doc k) 0) (λ f. above_all doc n m (parent doc k) (omega arith) f) e
  where
    go : (b : Bool) → (reaches doc n (parent doc k) ≡ false → above doc n (parent doc k) ≡ above doc m (parent doc k))
        → cond b false (reaches doc n (parent doc k)) ≡ false
        → cond b [] (parent doc k ∷ above doc n (parent doc k)) ≡ cond b [] (parent doc k ∷ above doc m (parent doc k))
    go true f x = refl
    go false f x = ap (λ (l : List ℕ). parent doc k ∷ l) (f x)

pub deep_eq : (doc : List ℕ) (k : ℕ) → too_deep doc k ≡ reaches doc 12 k
deep_eq doc k =
    let x = length (ancestors doc k) in
    same_test (ltb 12 (1 + x)) (leb 12 x) (λ e. le-leb 12 x (omega (arith, ltb-true 12 (1 + x) e))) (λ e. lt-ltb 12 (1 + x) (omega (arith, leb-true 12 x e)))
    ∙ sym (reaches_length doc 12 1024 k (omega arith))

pub ancestors_short : (doc : List ℕ) (k : ℕ) → reaches doc 12 k ≡ false → above doc 12 k ≡ ancestors doc k
ancestors_short doc k e = above_all doc 12 1024 k (omega arith) e

-- ---- the nodes above rise
Rising : ℕ → List ℕ → Type 0
Rising k [] = Unit {0}
Rising k (a ∷ rest) = (k < a) × Rising a rest

rising_above : (doc : List ℕ) → Nodes doc → (n k : ℕ) → Rising k (above doc n k)
unfolding above Rising
rising_above doc s zero k = tt
rising_above doc s (suc n) k = go (eqb (parent doc k) 0) refl (rising_above doc s n (parent doc k))
  where
    go : (b : Bool) → eqb (parent doc k) 0 ≡ b → Rising (parent doc k) (above doc n (parent doc k)) → Rising k (cond b [] (parent doc k ∷ above doc n (parent doc k)))
    go true e r = tt
    go false e r = (parent_rises doc s k (eqb-false (parent doc k) 0 e), r)

rising_has : (k b : ℕ) (l : List ℕ) → Rising k l → has b l ≡ true → k < b
unfolding Rising has
rising_has k b [] r e = absurd (false≢true e)
rising_has k b (a ∷ l) r e = go (λ q. rising_has a b l r.1 q) (eqb a b) refl e
  where
    go : (has b l ≡ true → a < b) → (x : Bool) → eqb a b ≡ x → (x || has b l) ≡ true → k < b
    go later true p q = omega (arith, eqb-true a b p, r.0)
    go later false p q = omega (arith, later q, r.0)

-- ---- counts of nodes below
-- while the walk is at `rest`: the word of each closing node of `rest` is one less than its count up to k
over_crowded : (doc : List ℕ) (k j : ℕ) (rest u : List ℕ) → Rising j rest
    → ((a : ℕ) → has a rest ≡ true → is_closing (kind_at doc a) ≡ true → get_or u a 0 + 1 ≡ below_up_to doc a k)
    → over doc rest u ≡ any_crowded doc k rest
unfolding Rising over any_crowded has
over_crowded doc k j [] u r f = refl
over_crowded doc k j (a ∷ rest) u r f =
    go (is_closing (kind_at doc a)) refl
    (over_crowded doc k a rest (set u a (get_or u a 0 + 1)) r.1 (λ b h c. rw (get_or-set_other u a b (get_or u a 0 + 1) 0 (λ e. later b h e)) (f b (also a b h) c)))
    (over_crowded doc k a rest u r.1 (λ b h c. f b (also a b h) c))
  where
    later : (b : ℕ) → has b rest ≡ true → b ≡ a → ⊥
    later b h e = omega (arith, rising_has a b rest r.1 h, e)

    also : (a b : ℕ) → has b rest ≡ true → (eqb a b || has b rest) ≡ true
    also a b h = rw h (by (eqb a b))
      where
        by : (x : Bool) → (x || true) ≡ true
        by true = refl
        by false = refl

    go : (x : Bool) → is_closing (kind_at doc a) ≡ x
        → over doc rest (set u a (get_or u a 0 + 1)) ≡ any_crowded doc k rest → over doc rest u ≡ any_crowded doc k rest
        → cond x (ltb 24 (get_or u a 0 + 1) || over doc rest (set u a (get_or u a 0 + 1))) (over doc rest u) ≡ ((x && ltb 24 (below_up_to doc a k)) || any_crowded doc k rest)
    go true e p q = rw (p, f a (rw (eq-eqb a a refl)) e)
    go false e p q = q

counted_length : (doc rest u : List ℕ) → length (counted doc rest u) ≡ length u
unfolding counted
counted_length doc [] u = refl
counted_length doc (a ∷ rest) u =
    go (is_closing (kind_at doc a)) (counted_length doc rest (set u a (get_or u a 0 + 1)) ∙ length-set u a _) (counted_length doc rest u)
  where
    go : (x : Bool) → length (counted doc rest (set u a (get_or u a 0 + 1))) ≡ length u → length (counted doc rest u) ≡ length u
        → length (cond x (counted doc rest (set u a (get_or u a 0 + 1))) (counted doc rest u)) ≡ length u
    go true p q = p
    go false p q = q

-- the word of a closing node grows by one where it stands among the nodes
counted_at : (doc : List ℕ) (j b : ℕ) (rest u : List ℕ) → Rising j rest → b < length u → is_closing (kind_at doc b) ≡ true
    → get_or (counted doc rest u) b 0 ≡ get_or u b 0 + cond (has b rest) 1 0
unfolding Rising counted has
counted_at doc j b [] u r h c = omega arith
counted_at doc j b (a ∷ rest) u r h c =
    let l : b < length (set u a (get_or u a 0 + 1)) = rw (length-set u a (get_or u a 0 + 1)) h in
    go (is_closing (kind_at doc a)) refl (ℕ_discrete a b) (counted_at doc a b rest (set u a (get_or u a 0 + 1)) r.1 l c) (counted_at doc a b rest u r.1 h c)
  where
    absent : a ≡ b → has b rest ≡ false
    absent e = none (has b rest) refl
      where
        none : (x : Bool) → has b rest ≡ x → has b rest ≡ false
        none true p = absurd (omega (arith, rising_has a b rest r.1 p, e))
        none false p = p

    go : (x : Bool) → is_closing (kind_at doc a) ≡ x → Dec (a ≡ b)
        → get_or (counted doc rest (set u a (get_or u a 0 + 1))) b 0 ≡ get_or (set u a (get_or u a 0 + 1)) b 0 + cond (has b rest) 1 0
        → get_or (counted doc rest u) b 0 ≡ get_or u b 0 + cond (has b rest) 1 0
        → get_or (cond x (counted doc rest (set u a (get_or u a 0 + 1))) (counted doc rest u)) b 0 ≡ get_or u b 0 + cond (eqb a b || has b rest) 1 0
    go true e (yes s) p q =
        let g : get_or (set u a (get_or u a 0 + 1)) b 0 ≡ get_or u b 0 + 1 = rw s (get_or-set_same u b (get_or u b 0 + 1) 0 h) in
        rw (eq-eqb a b s) (p ∙ rw (g, absent s) (omega arith))
    go true e (no s) p q = rw (ne_eqb a b s) (p ∙ rw (get_or-set_other u a b (get_or u a 0 + 1) 0 (λ z. s (sym z))))
    go false e (yes s) p q = absurd (false≢true (sym e ∙ ap (λ (y : ℕ). is_closing (kind_at doc y)) s ∙ c))
    go false e (no s) p q = rw (ne_eqb a b s) q

-- ---- one node more
module _ (doc up : List ℕ) (l : Linked doc up) (k : ℕ) (p : 1 ≤ k) where
  below_next : (a : ℕ) → below_up_to doc a k ≡ below_up_to doc a (k - 1) + cond (has a (ancestors doc k)) 1 0
  below_next a = total_upto (λ j. cond (has a (ancestors doc j)) 1 0) k p

  most_above : (n j a : ℕ) → has a (above doc n j) ≡ true → a < places
  unfolding above has
  most_above zero j a e = absurd (false≢true e)
  most_above (suc n) j a e = go (eqb (parent doc j) 0) e (λ q. most_above n (parent doc j) a q)
    where
      go : (b : Bool) → has a (cond b [] (parent doc j ∷ above doc n (parent doc j))) ≡ true → (has a (above doc n (parent doc j)) ≡ true → a < places) → a < places
      go true x f = absurd (false≢true x)
      go false x f = or (eqb (parent doc j) a) refl x
        where
          or : (y : Bool) → eqb (parent doc j) a ≡ y → (y || has a (above doc n (parent doc j))) ≡ true → a < places
          or true q z = omega (arith, eqb-true (parent doc j) a q, parent_most doc j, l.parents.few)
          or false q z = f z

  pub crowded_eq : (u : List ℕ) → Below doc (k - 1) u → over doc (ancestors doc k) u ≡ too_crowded doc k
  crowded_eq u b =
      over_crowded doc k k (ancestors doc k) u (rising_above doc (nodes_of doc up l) 1024 k)
      (λ a h c. rw (b.at a (most_above 1024 k a h) c) (sym (below_next a ∙ rw h)))

  pub below_on : (u : List ℕ) → Below doc (k - 1) u → Below doc k (counted doc (ancestors doc k) u)
  below_on u b =
      record {
        size = counted_length doc (ancestors doc k) u ∙ b.size;
        at = λ a h c.
            counted_at doc k a (ancestors doc k) u (rising_above doc (nodes_of doc up l) 1024 k) (rw b.size h) c ∙ rw (b.at a h c) (sym (below_next a));
      }

-- the identifiers of Texts
module _ (doc : List ℕ) (k : ℕ) (p : 1 ≤ k) (u : List ℕ) (d : Declared doc (k - 1) u) where
  declared_next : (t : ℕ) → declared_up_to doc t k ≡ declared_up_to doc t (k - 1) + length (declared_in doc t k)
  declared_next t = total_upto (λ j. length (declared_in doc t j)) k p

  -- at a Decl
  module _ (q : kind_at doc k ≡ 11) (t : ℕ) (e : t ≡ parent doc k) (m : t < places) where
    own : declared_in doc t k ≡ declared doc k
    unfolding declared_in
    own = rw (eq-eqb (kind_at doc k) 11 q, eq-eqb (parent doc k) t (sym e))

    other : (s : ℕ) → (s ≡ t → ⊥) → declared_in doc s k ≡ []
    unfolding declared_in
    other s h = rw (eq-eqb (kind_at doc k) 11 q, ne_eqb (parent doc k) s (λ z. h (sym z ∙ sym e)))

    pub wide_count : get_or u t 0 + length (declared doc k) ≡ declared_up_to doc (parent doc k) k
    wide_count = rw (d.at t m, ← e) (sym (declared_next t ∙ rw own))

    pub declared_on : (n : ℕ) → n ≡ get_or u t 0 + length (declared doc k) → Declared doc k (set u t n)
    declared_on n x =
        record {
          size = length-set u t n ∙ d.size;
          at = λ s h. go s h (ℕ_discrete s t);
        }
      where
        go : (s : ℕ) → s < places → Dec (s ≡ t) → get_or (set u t n) s 0 ≡ declared_up_to doc s k
        go s h (yes z) =
            let y : t < length u = rw d.size m in
            rw (z, get_or-set_same u t n 0 y, x) (wide_count ∙ rw e)
        go s h (no z) = rw (get_or-set_other u t s n 0 z) (d.at s h ∙ sym (declared_next s ∙ rw (other s z) (omega arith)))

  -- at another node
  pub declared_same : (kind_at doc k ≡ 11 → ⊥) → Declared doc k u
  unfolding declared_in
  declared_same q =
      record { size = d.size; at = λ s h. d.at s h ∙ sym (declared_next s ∙ rw (ne_eqb (kind_at doc k) 11 q) (omega arith)) }

-- ---- few identifiers at one node
module _ (doc up : List ℕ) (l : Linked doc up) (k : ℕ) (p : 1 ≤ k) (q : k ≤ count doc) where
  few_words : length (part doc k) ≤ document_words
  few_words =
      let d = (nodes_of doc up l).laid in
      let e = d.pair k p q in
      omega (arith, part_length 1 doc k p e, e.ends, d.short)

  pub declared_few : length (declared doc k) ≤ document_words
  declared_few = omega (arith, few_words, length-drop 2 (part doc k))

  pub globals_few : length (globals doc k) ≤ document_words
  unfolding globals
  globals_few =
      let w = part doc k in
      by (eqb (kind_at doc k) 2) (eqb (kind_at doc k) 5) (is_axiom_decl doc k) (omega (arith, few_words, length-drop 1 w)) (omega (arith, length-take 1 (drop 1 w))) declared_few
    where
      by : (a b c : Bool) → length (drop 1 (part doc k)) ≤ document_words → length (first_operand doc k) ≤ document_words → length (declared doc k) ≤ document_words
          → length (cond a (drop 1 (part doc k)) (cond b (first_operand doc k) (cond c (declared doc k) []))) ≤ document_words
      by true b c x y z = x
      by false true c x y z = y
      by false false true x y z = z
      by false false false x y z = omega arith

-- the limits that go by the tree, and then the number of identifiers
pub limit_eq : (doc : List ℕ) (k : ℕ) → limit_number doc k ≡ cond (past_tree doc k || too_many doc k) 17 0
unfolding limit_number
limit_eq doc k = ap (λ (b : Bool). cond b 17 0) (by (too_deep doc k) (too_nested doc k) (too_wide doc k) (too_crowded doc k) (too_many doc k))
  where
    by : (a b c d e : Bool) → (a || (b || (c || (d || e)))) ≡ ((a || (b || (c || d))) || e)
    by true b c d e = refl
    by false true c d e = refl
    by false false true d e = refl
    by false false false true e = refl
    by false false false false e = refl

pub globals_next : (doc : List ℕ) (k : ℕ) → 1 ≤ k → globals_up_to doc k ≡ globals_up_to doc (k - 1) + length (globals doc k)
globals_next doc k p = total_upto (λ j. length (globals doc j)) k p

-- before the first node
pub counted_none : (doc : List ℕ) → Counted doc 0 (replicate places 0) (replicate places 0)
unfolding total
counted_none doc =
    record {
      below = record { size = length-replicate {A = ℕ} places 0; at = λ a h c. get_or-replicate {A = ℕ} places a 0 0 h };
      declared = record { size = length-replicate {A = ℕ} places 0; at = λ t h. get_or-replicate {A = ℕ} places t 0 0 h };
    }

-- what the goals of each function want, for an attribute to name
pub ruleset reaches_turns = (table_parent, table_place, reaches_off, reaches_go, reaches_end)

pub ruleset texts_turns = (table_parent, table_place, texts_off, texts_go, texts_end)

pub ruleset crowd_turns = (crowd_other, crowd_past, crowd_more)

pub ruleset crowding_turns = (table_parent, table_place, above_off, above_end, crowding_start, crowding_end, crowding_past, crowding_next, crowded_as)

pub ruleset widen_turns = (table_parent, table_place, wide_count, declared_on, declared_same)

pub ruleset limit_turns = (deep_eq, ancestors_short, crowded_eq, below_on)
