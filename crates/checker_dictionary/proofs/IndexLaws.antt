-- The index finds what the search from the newest entry down finds.
use Rattle.std.proofs.Common.{◌≡◌, ℕ, zero, suc, ◌+◌, ◌-◌, ◌<◌, ◌≤◌, Bool, true, false, cond, eqb, ◌⊎◌, List, [], ◌∷◌, ◌++◌, length, get_or, set, replicate, sym, refl, ap, ◌∙◌, subst, inl, inr, append_assoc, append-nil, mod-lt, eq-or-lt_of_le, arith, length-append, length-set, get_or-set_other, get_or-set_same, get_or-append-add, eq-eqb, ne_eqb, eqb-true}
use mathlib.Core.Bool.{false≢true}
use lib.ListN.{length-replicate, get_or-replicate, get_or-append}
use borrow.Author.Tests.{eqb-false}
use Rattle.words.proofs.Loops.{and_right}
use Rattle.layout.specs.Layout.{count}
use Rattle.checker_rules.specs.Dictionary.{Entry, Dictionary, ◌▸◌, entries}
use Rattle.checker_dictionary.specs.Holds.{Holds}
use Rattle.checker_dictionary.specs.Waiting.{with_entries}
use Rattle.checker_dictionary.specs.Lookup.{class_at, name_at, is_entry, newest}
use Rattle.checker_dictionary.specs.Index.{index_at, bucket_count, links_at, index_room, index_end, bucket_of, in_bucket, indexed, IndexedTo, Indexed}
use Rattle.checker_dictionary.proofs.Places.{count_held}
use Rattle.checker_dictionary.proofs.LookupLaws.{newest_hit, newest_before, newest_miss, names_kept}

nat_eq : (a b : ℕ) → (a ≡ b) ⊎ (a ≡ b → ⊥)
nat_eq a b = go (eqb a b) refl
  where
    go : (t : Bool) → eqb a b ≡ t → (a ≡ b) ⊎ (a ≡ b → ⊥)
    go true e = inl (eqb-true a b e)
    go false e = inr (eqb-false a b e)

pub newest_most : (f : ℕ → Bool) (n : ℕ) → newest f n ≤ n
unfolding newest
newest_most f zero = omega arith
newest_most f (suc n) = go (f (suc n)) refl (newest_most f n)
  where
    go : (b : Bool) → f (suc n) ≡ b → newest f n ≤ n → cond (f (suc n)) (suc n) (newest f n) ≤ suc n
    go true e h = rw e (omega arith)
    go false e h = rw e (omega (arith, h))

-- a search goes on from the newest number that passes a weaker test
pub newest_within : (p q : ℕ → Bool) → ((k : ℕ) → p k ≡ true → q k ≡ true) → (n : ℕ) → newest p n ≡ newest p (newest q n)
unfolding newest
newest_within p q weak zero = refl
newest_within p q weak (suc n) = go (q (suc n)) refl (p (suc n)) refl (newest_within p q weak n)
  where
    go : (b : Bool) → q (suc n) ≡ b → (c : Bool) → p (suc n) ≡ c → newest p n ≡ newest p (newest q n) → newest p (suc n) ≡ newest p (newest q (suc n))
    go true e c i h = ap (newest p) (newest_hit q (suc n) (omega arith) e)
    go false e true i h = absurd (false≢true (sym e ∙ weak (suc n) i))
    go false e false i h = newest_before p n i ∙ h ∙ ap (newest p) (sym (newest_before q n e))

-- searches that agree on the first n numbers
pub newest_agree : (f g : ℕ → Bool) (n : ℕ) → ((k : ℕ) → 1 ≤ k → k ≤ n → f k ≡ g k) → newest f n ≡ newest g n
unfolding newest
newest_agree f g zero same = refl
newest_agree f g (suc n) same = let e = same (suc n) (omega arith) (omega arith) in let h = newest_agree f g n (λ k low high. same k low (omega arith)) in rw (e, h)

bucket_few : (name : ℕ) → bucket_of name < bucket_count
unfolding bucket_of
bucket_few name = mod-lt name (omega arith)

-- the number found passes the test
pub newest_passes : (f : ℕ → Bool) (n : ℕ) → 1 ≤ newest f n → f (newest f n) ≡ true
unfolding newest
newest_passes f zero h = absurd (omega (arith, h))
newest_passes f (suc n) h = go (f (suc n)) refl h (newest_passes f n)
  where
    go : (b : Bool) → f (suc n) ≡ b → 1 ≤ newest f (suc n) → (1 ≤ newest f n → f (newest f n) ≡ true) → f (newest f (suc n)) ≡ true
    go true e h before = ap f (sym (newest_hit f (suc n) (omega arith) e)) ∙ e
    go false e h before = ap f (newest_before f n e) ∙ before (subst (λ k. 1 ≤ k) (newest_before f n e) h)

-- an entry of a name is in the name's bucket
entry_bucket : (d : List ℕ) (class name k : ℕ) → is_entry d class name k ≡ true → in_bucket d (bucket_of name) k ≡ true
unfolding is_entry in_bucket
entry_bucket d class name k e =
    eq-eqb (bucket_of name) (bucket_of (name_at d k)) (ap bucket_of (eqb-true name (name_at d k) (and_right (eqb class (class_at d k)) (eqb name (name_at d k)) e)))

same_bucket : (d : List ℕ) (b k : ℕ) → in_bucket d b k ≡ true → b ≡ bucket_of (name_at d k)
unfolding in_bucket
same_bucket d b k e = eqb-true b (bucket_of (name_at d k)) e

own_bucket : (d : List ℕ) (k : ℕ) → in_bucket d (bucket_of (name_at d k)) k ≡ true
unfolding in_bucket
own_bucket d k = eq-eqb (bucket_of (name_at d k)) (bucket_of (name_at d k)) refl

other_bucket : (d : List ℕ) (b k : ℕ) → (b ≡ bucket_of (name_at d k) → ⊥) → in_bucket d b k ≡ false
unfolding in_bucket
other_bucket d b k h = ne_eqb b (bucket_of (name_at d k)) h

-- THE SEARCH. It has come to entry k of the name's bucket: what it looks for is what a search from k down finds.
pub record Chained (d : List ℕ) (n class name k : ℕ) : Type 0 where
  pub most : k ≤ indexed n
  pub here : 1 ≤ k → in_bucket d (bucket_of name) k ≡ true
  pub rest : newest (is_entry d class name) (indexed n) ≡ newest (is_entry d class name) k

module _ (d w : List ℕ) (n class name : ℕ) (I : IndexedTo d w n) where
  weak : (k : ℕ) → is_entry d class name k ≡ true → in_bucket d (bucket_of name) k ≡ true
  weak = entry_bucket d class name

  -- from the newest entry of the bucket below m on
  chained_from : (m k : ℕ) → m ≤ indexed n → newest (is_entry d class name) (indexed n) ≡ newest (is_entry d class name) m → k ≡ newest (in_bucket d (bucket_of name)) m → Chained d n class name k
  chained_from m k most rest e =
      let q = in_bucket d (bucket_of name) in
      let h = newest_most q m in
      record {
        most = omega (arith, h, e);
        here = λ some. ap q e ∙ newest_passes q m (subst (λ j. 1 ≤ j) e some);
        rest = rest ∙ newest_within (is_entry d class name) q weak m ∙ ap (newest (is_entry d class name)) (sym e);
      }

  pub chained_first : Chained d n class name (get_or w (index_at + bucket_of name) 0)
  chained_first = chained_from (indexed n) (get_or w (index_at + bucket_of name) 0) (omega arith) refl (I.buckets (bucket_of name) (bucket_few name))

  module _ (k : ℕ) (C : Chained d n class name k) (some : 1 ≤ k) where
    older_is : get_or w (links_at + k) 0 ≡ newest (in_bucket d (bucket_of name)) (k - 1)
    older_is = I.links k some C.most ∙ ap (λ b. newest (in_bucket d b) (k - 1)) (sym (same_bucket d (bucket_of name) k (C.here some)))

    pub older_less : get_or w (links_at + k) 0 < k
    older_less = let h = newest_most (in_bucket d (bucket_of name)) (k - 1) in let e = older_is in omega (arith, h, e)

    pub chained_next : is_entry d class name k ≡ false → Chained d n class name (get_or w (links_at + k) 0)
    chained_next miss =
        let m = C.most in
        chained_from (k - 1) (get_or w (links_at + k) 0) (omega (arith, m)) (C.rest ∙ newest_miss (is_entry d class name) k (omega (arith, some)) miss) older_is

-- AN ENTRY MORE.
pub indexed_none : (d w : List ℕ) → ((b : ℕ) → b < bucket_count → get_or w (index_at + b) 0 ≡ 0) → IndexedTo d w 0
unfolding newest
indexed_none d w zeros = record { buckets = zeros; links = λ k some most. absurd (omega (arith, some, most)) }

-- zeros in the place of the buckets
pub indexed_cleared : (d A R : List ℕ) (n : ℕ) → length A ≡ index_at → bucket_count ≤ n → IndexedTo d (A ++ (replicate n 0 ++ R)) 0
indexed_cleared d A R n e wide = indexed_none d (A ++ (replicate n 0 ++ R)) (λ b few.
    let l = length-replicate {A = ℕ} n 0 in
    ap (λ i. get_or (A ++ (replicate n 0 ++ R)) (i + b) 0) (sym e)
    ∙ get_or-append-add A (replicate n 0 ++ R) b 0
    ∙ get_or-append (replicate n 0) R 0 b (omega (arith, l, few, wide))
    ∙ get_or-replicate n b 0 0 (omega (arith, few, wide)))

few_indexed : (j k : ℕ) → k ≤ index_room → j ≤ indexed k → j ≤ k
few_indexed j k room most = omega (arith, room, most)

indexed_before : (j k : ℕ) → k ≤ index_room → j ≤ k → (j ≡ k → ⊥) → j ≤ indexed (k - 1)
indexed_before j k room most h = go (eq-or-lt_of_le most)
  where
    go : (j ≡ k) ⊎ (j < k) → j ≤ indexed (k - 1)
    go (inl e) = absurd (h e)
    go (inr l) = omega (arith, room, l)

module _ (d w : List ℕ) (k : ℕ) (some : 1 ≤ k) (room : k ≤ index_room) (wide : index_end ≤ length w) (I : IndexedTo d w (k - 1)) where
  abbrev pub own : ℕ
  own = bucket_of (name_at d k)

  abbrev pub linked : List ℕ
  linked = set w (links_at + k) (get_or w (index_at + own) 0)

  older : get_or w (index_at + own) 0 ≡ newest (in_bucket d own) (k - 1)
  older = let few = bucket_few (name_at d k) in I.buckets own few ∙ (let e : indexed (k - 1) ≡ k - 1 = omega (arith, some, room) in ap (newest (in_bucket d own)) e)

  bucket_now : (b : ℕ) → b < bucket_count → get_or (set linked (index_at + own) k) (index_at + b) 0 ≡ newest (in_bucket d b) k
  bucket_now b few = decide (nat_eq b own)
    where
      decide : (b ≡ own) ⊎ (b ≡ own → ⊥) → get_or (set linked (index_at + own) k) (index_at + b) 0 ≡ newest (in_bucket d b) k
      decide (inl e) =
          let l = length-set w (links_at + k) (get_or w (index_at + own) 0) in
          let f = bucket_few (name_at d k) in
          ap (λ j. get_or (set linked (index_at + own) k) (index_at + j) 0) e
          ∙ get_or-set_same linked (index_at + own) k 0 (omega (arith, l, f, wide))
          ∙ newest_hit (in_bucket d own) k (omega (arith, some)) (own_bucket d k)
          ∙ ap (λ j. newest (in_bucket d j) k) (sym e)
      decide (inr h) =
          get_or-set_other linked (index_at + own) (index_at + b) k 0 (λ e. h (omega (arith, e)))
          ∙ get_or-set_other w (links_at + k) (index_at + b) (get_or w (index_at + own) 0) 0 (λ e. absurd (omega (arith, e, few, some)))
          ∙ I.buckets b few
          ∙ (let e : indexed (k - 1) ≡ k - 1 = omega (arith, some, room) in ap (newest (in_bucket d b)) e)
          ∙ sym (newest_miss (in_bucket d b) k (omega (arith, some)) (other_bucket d b k h))

  link_now : (j : ℕ) → 1 ≤ j → j ≤ indexed k → get_or (set linked (index_at + own) k) (links_at + j) 0 ≡ newest (in_bucket d (bucket_of (name_at d j))) (j - 1)
  link_now j first most =
      let f = bucket_few (name_at d k) in
      get_or-set_other linked (index_at + own) (links_at + j) k 0 (λ e. absurd (omega (arith, e, f, first)))
      ∙ decide (nat_eq j k)
    where
      decide : (j ≡ k) ⊎ (j ≡ k → ⊥) → get_or linked (links_at + j) 0 ≡ newest (in_bucket d (bucket_of (name_at d j))) (j - 1)
      decide (inl e) =
          ap (λ i. get_or linked (links_at + i) 0) e
          ∙ get_or-set_same w (links_at + k) (get_or w (index_at + own) 0) 0 (omega (arith, room, wide))
          ∙ older
          ∙ ap (λ i. newest (in_bucket d (bucket_of (name_at d i))) (i - 1)) (sym e)
      decide (inr h) =
          get_or-set_other w (links_at + k) (links_at + j) (get_or w (index_at + own) 0) 0 (λ e. h (omega (arith, e)))
          ∙ I.links j first (indexed_before j k room (few_indexed j k room most) h)

  pub indexed_more : IndexedTo d (set linked (index_at + own) k) k
  indexed_more = record { buckets = λ b few. bucket_now b few ∙ (let e : k ≡ indexed k = omega (arith, room) in ap (newest (in_bucket d b)) e); links = link_now }

-- THE SAME INDEX in other words: those of the index stay.
pub indexed_kept : (d w w' : List ℕ) (n : ℕ) → ((i : ℕ) → index_at ≤ i → i < index_end → get_or w' i 0 ≡ get_or w i 0) → IndexedTo d w n → IndexedTo d w' n
indexed_kept d w w' n same I = record {
  buckets = λ b few. same (index_at + b) (omega arith) (omega (arith, few)) ∙ I.buckets b few;
  links = λ k some most. same (links_at + k) (omega (arith, some)) (omega (arith, most)) ∙ I.links k some most;
}

-- The index of areas whose first n names are the same.
pub indexed_names : (d d' w : List ℕ) (n : ℕ) → ((k : ℕ) → 1 ≤ k → k ≤ n → name_at d k ≡ name_at d' k) → IndexedTo d w n → IndexedTo d' w n
unfolding in_bucket
indexed_names d d' w n same I = record {
  buckets = λ b few. I.buckets b few ∙ newest_agree (in_bucket d b) (in_bucket d' b) (indexed n) (λ k some most. ap (λ x. eqb b (bucket_of x)) (same k some (omega (arith, most))));
  links = λ k some most.
      I.links k some most
      ∙ ap (λ x. newest (in_bucket d (bucket_of x)) (k - 1)) (same k some (omega (arith, most)))
      ∙ newest_agree (in_bucket d (bucket_of (name_at d' k))) (in_bucket d' (bucket_of (name_at d' k))) (k - 1)
      (λ j first least. ap (λ x. eqb (bucket_of (name_at d' k)) (bucket_of x)) (same j first (omega (arith, most, least))));
}

-- AN INDEX OF A DICTIONARY is one of the first entries of a dictionary that has more.
pub entries_with : (es : List Entry) (D : Dictionary) → entries (with_entries es D) ≡ entries D ++ es
unfolding with_entries entries
entries_with [] D = sym (append-nil (entries D))
entries_with (e ∷ es) D = entries_with es (D ▸ e) ∙ append_assoc (entries D) (e ∷ []) es

pub indexed_older : (D : Dictionary) (es : List Entry) (d d' w : List ℕ) → Indexed D d w → Holds (with_entries es D) d' → IndexedTo d' w (count d)
indexed_older D es d d' w I H = indexed_names d d' w (count d) (names_kept D (with_entries es D) es (entries_with es D) d d' I.holds H) I.index

-- The same dictionary in another area.
pub indexed_there : (D : Dictionary) (d d' w : List ℕ) → Indexed D d w → Holds D d' → Indexed D d' w
unfolding with_entries
indexed_there D d d' w I H =
    let n = count_held D d I.holds in
    let m = count_held D d' H in
    record { holds = H; index = subst (IndexedTo d' w) (n ∙ sym m) (indexed_older D [] d d' w I H) }

pub count_more : (D : Dictionary) (es : List Entry) (d d' : List ℕ) → Holds D d → Holds (with_entries es D) d' → count d ≤ count d'
count_more D es d d' H I =
    let n = count_held D d H in
    let m = count_held (with_entries es D) d' I in
    let l = ap length (entries_with es D) ∙ length-append (entries D) es in
    omega (arith, n, m, l)
