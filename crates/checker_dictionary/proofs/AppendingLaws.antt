-- Entries that wait, one after another: their words, and all of them put after others.
use Rattle.std.proofs.Common.{◌≡◌, ℕ, ◌+◌, ◌-◌, ◌*◌, ◌^◌, ◌<◌, ◌≤◌, true, false, List, [], ◌∷◌, ◌++◌, length, get_or, take, drop, replicate, sym, refl, ap, ◌∙◌, subst, ⊎_elim, append_assoc, append-nil, eq-or-lt_of_le, arith, length-append, length-drop}
use lib.ListN.{length-replicate}
use lib.Seq.{sets}
use Rattle.types_rules.proofs.Terms.{bool_no}
use Rattle.layout.specs.Layout.{count}
use Rattle.checker_rules.proofs.DictionaryLaid.{words_append}
use Rattle.checker_rules.specs.Dictionary.{Entry, entry_words, all_words, Dictionary, entries, dictionary_words, dictionary_length}
use Rattle.checker_dictionary.specs.Spaced.{spaced_words, Spaced, Spacing, first_at, PlaceAsk, Respaced, Usable, RoomAsk, Roomy, PutAsk, Put, AllPut, AllAppended}
use Rattle.checker_dictionary.specs.Growth.{size_at, pair_added}
use Rattle.checker_dictionary.specs.Waiting.{with_entries, waiting, Waits, Waiting}
use Rattle.checker_dictionary.proofs.WaitingLaws.{first_length, first_words_lem, others_wait, wait_inside}
use Rattle.checker_dictionary.proofs.Places.{laid_length}
use Rattle.checker_dictionary.proofs.SpacedLaws.{spaced_length, count_spaced, area_spaced, size_spaced, first_spaced, put_spaced}
use Rattle.checker_dictionary.proofs.IndexLaws.{entries_with}

pub waiting_length : (es : List Entry) → length (waiting es) ≡ length es + length (all_words es)
unfolding waiting all_words
waiting_length [] = refl
waiting_length (e ∷ es) =
    let h = waiting_length es in
    let a = length-append (entry_words e) (waiting es) in
    let b = length-append (entry_words e) (all_words es) in
    omega (arith, h, a, b)

pub waits_inside : (es : List Entry) (w : List ℕ) (at : ℕ) → 1 ≤ length es → Waits es w at → at + length (waiting es) ≤ length w
unfolding waiting
waits_inside [] w at some W = absurd (omega (arith, some))
waits_inside (e ∷ es) w at some W =
    let a = sym (length-drop at w) ∙ ap length W.words ∙ length-append (waiting (e ∷ es)) W.after in
    omega (arith, a)

all_words_lem : (e : Entry) (fs : List Entry) (n : ℕ) → length (all_words (e ∷ fs)) ≤ n → length (entry_words e ++ all_words fs) ≤ n
unfolding all_words
all_words_lem e fs n h = h

one_words : (e : Entry) → length (all_words (e ∷ [])) ≡ length (entry_words e)
unfolding all_words
one_words e = ap length (append-nil (entry_words e))

-- THE FIRST of m entries, whose length is len, then the others.
module _ (w : List ℕ) (at m : ℕ) (some : m ≡ 0 → ⊥) (len : ℕ) (is : len ≡ get_or w at 0) where
  pub len_is : (e : Entry) (es : List Entry) → Waits (e ∷ es) w at → len ≡ length (entry_words e)
  len_is e es W = is ∙ ap (λ z. get_or w z 0) (let z : at ≡ at + 0 = omega arith in z) ∙ first_length e es w at W

  pub others_here : (e : Entry) (es : List Entry) → Waits (e ∷ es) w at → Waits es w (at + 1 + len)
  others_here e es W = subst (λ z. Waits es w (at + 1 + z)) (sym (len_is e es W)) (others_wait e es w at W)

  pub words_are : (e : Entry) (es : List Entry) → Waits (e ∷ es) w at → take len (drop (at + 1) w) ≡ entry_words e
  words_are e es W = ap (λ z. take z (drop (at + 1) w)) (len_is e es W) ∙ first_words_lem e es w at W

  pub wait_ready : Waiting w at m → Waiting w (at + 1 + len) (m - 1)
  wait_ready R = go R.entries R.count R.waits
    where
      go : (es : List Entry) → length es ≡ m → Waits es w at → Waiting w (at + 1 + len) (m - 1)
      go [] l W = absurd (some (sym l))
      go (e ∷ es) l W = record { entries = es; count = omega arith; waits = others_here e es W }

  pub wait_bound : Waiting w at m → at + 1 + len ≤ length w
  wait_bound R = go R.entries R.count R.waits
    where
      go : (es : List Entry) → length es ≡ m → Waits es w at → at + 1 + len ≤ length w
      go [] l W = absurd (some (sym l))
      go (e ∷ es) l W = subst (λ z. at + 1 + z ≤ length w) (sym (len_is e es W)) (wait_inside e es w at W)

  pub end_next : (r : ℕ) → ((es : List Entry) → length es ≡ m - 1 → Waits es w (at + 1 + len) → r ≡ at + 1 + len + length (waiting es)) →
      (es : List Entry) → length es ≡ m → Waits es w at → r ≡ at + length (waiting es)
  unfolding waiting
  end_next r N [] l W = absurd (some (sym l))
  end_next r N (e ∷ es) l W =
      let a = N es (omega arith) (others_here e es W) in
      let b = len_is e es W in
      let c = length-append (entry_words e) (waiting es) in
      omega (arith, a, b, c)

  -- PUT: what is asked of the first, and of the others.
  module _ (d : List ℕ) (n end : ℕ) (A : PutAsk d w at m n end) where
    pub put_ask : (n < 2 ^ 32) × (end + length (take len (drop (at + 1) w)) ≤ length d) × (end + length (take len (drop (at + 1) w)) < 2 ^ 32)
    unfolding all_words
    put_ask = go A.entries A.counted A.waits A.room A.near
      where
        go : (es : List Entry) → length es ≡ m → Waits es w at → end + length (all_words es) ≤ length d → end + length (all_words es) < 2 ^ 32 →
            (n < 2 ^ 32) × (end + length (take len (drop (at + 1) w)) ≤ length d) × (end + length (take len (drop (at + 1) w)) < 2 ^ 32)
        go [] l W room near = absurd (some (sym l))
        go (e ∷ es) l W room near =
            let f = A.few in
            let a = ap length (words_are e es W) in
            let b = length-append (entry_words e) (all_words es) in
            (omega (arith, f), omega (arith, a, b, room), omega (arith, a, b, near))

    pub put_bound : at + 1 + len ≤ length w
    put_bound = wait_bound (record { entries = A.entries; count = A.counted; waits = A.waits })

    pub put_rest : (d₁ : List ℕ) → length d₁ ≡ length d → PutAsk d₁ w (at + 1 + len) (m - 1) (n + 1) (end + len)
    unfolding all_words
    put_rest d₁ same = go A.entries A.counted A.waits A.room A.near
      where
        go : (es : List Entry) → length es ≡ m → Waits es w at → end + length (all_words es) ≤ length d → end + length (all_words es) < 2 ^ 32 → PutAsk d₁ w (at + 1 + len) (m - 1) (n + 1) (end + len)
        go [] l W room near = absurd (some (sym l))
        go (e ∷ es) l W room near =
            let f = A.few in
            let a = len_is e es W in
            let b = length-append (entry_words e) (all_words es) in
            record { entries = es; counted = omega arith; waits = others_here e es W; few = omega arith; room = omega (arith, a, b, room, same); near = omega (arith, a, b, near) }

  pub put_next : (d d₁ d₂ : List ℕ) (n end : ℕ) → n + 1 < 2 ^ 32 → d₁ ≡ sets (pair_added n end (length (take len (drop (at + 1) w))) d) end (take len (drop (at + 1) w)) →
      AllPut d₁ d₂ w (at + 1 + len) (m - 1) (n + 1) (end + len) → AllPut d d₂ w at m n end
  put_next d d₁ d₂ n end few q N = record { put = λ es fs gap after laid count ends pairs l W room. go es fs gap after laid count ends pairs l W room }
    where
      one : (es : List Entry) (e : Entry) (fs : List Entry) (a b : ℕ) (gap : List ℕ) (after : ℕ) → d ≡ spaced_words (a ∷ (b ∷ gap)) es ++ replicate after 0 → n ≡ length es →
          end ≡ 1 + 2 * length es + length (a ∷ (b ∷ gap)) + length (all_words es) → Waits (e ∷ fs) w at → length (entry_words e) ≤ after →
          d₁ ≡ spaced_words gap (es ++ (e ∷ [])) ++ replicate (after - length (entry_words e)) 0
      one es e fs a b gap after laid count ends W room =
          let wd = words_are e fs W in
          let z : after ≡ length (entry_words e) + (after - length (entry_words e)) = omega (arith, room) in
          q
          ∙ ap (λ v. sets (pair_added n end (length v) d) end v) wd
          ∙ ap (λ v. sets (pair_added n end (length (entry_words e)) v) end (entry_words e)) (laid ∙ ap (λ j. spaced_words (a ∷ (b ∷ gap)) es ++ replicate j 0) z)
          ∙ ap (λ j. sets (pair_added j end (length (entry_words e)) (spaced_words (a ∷ (b ∷ gap)) es ++ replicate (length (entry_words e) + (after - length (entry_words e))) 0)) end (entry_words e)) count
          ∙ put_spaced es e a b gap (after - length (entry_words e)) end ends (omega (arith, few, count))

      go : (es fs : List Entry) (gap : List ℕ) (after : ℕ) → d ≡ spaced_words gap es ++ replicate after 0 → n ≡ length es → end ≡ 1 + 2 * length es + length gap + length (all_words es) →
          2 * m ≤ length gap → length fs ≡ m → Waits fs w at → length (all_words fs) ≤ after → Put es fs gap d₂
      go es [] gap after laid count ends pairs l W room = absurd (some (sym l))
      go es (e ∷ fs) [] after laid count ends pairs l W room = absurd (omega (arith, pairs, l))
      go es (e ∷ fs) (a ∷ []) after laid count ends pairs l W room = absurd (omega (arith, pairs, l))
      go es (e ∷ fs) (a ∷ (b ∷ gap)) after laid count ends pairs l W room =
          let g = length-append (entry_words e) (all_words fs) in
          let h : length (entry_words e ++ all_words fs) ≤ after = all_words_lem e fs after room in
          let k = length-append es (e ∷ []) in
          let v = ap length (words_append es (e ∷ [])) ∙ length-append (all_words es) (all_words (e ∷ [])) in
          let t = one_words e in
          let i = len_is e fs W in
          let X = N.put (es ++ (e ∷ [])) fs gap (after - length (entry_words e)) (one es e fs a b gap after laid count ends W (omega (arith, g, h))) (omega (arith, count, k)) (omega (arith, ends, k, v, t, i)) (omega (arith, pairs, l)) (omega (arith, l))
          (others_here e fs W) (omega (arith, g, h)) in
          let s = X.shorter in
          record { rest = X.rest; after = X.after; shorter = omega (arith, s); laid = X.laid ∙ ap (λ r. spaced_words X.rest r ++ replicate X.after 0) (append_assoc es (e ∷ []) fs) }

pub end_none : (w : List ℕ) (at m : ℕ) → m ≡ 0 → (es : List Entry) → length es ≡ m → Waits es w at → at ≡ at + length (waiting es)
unfolding waiting
end_none w at m z [] l W = omega arith
end_none w at m z (e ∷ es) l W = absurd (omega (arith, l, z))

pub put_none : (d w : List ℕ) (at m n end : ℕ) → m ≡ 0 → AllPut d d w at m n end
put_none d w at m n end z = record { put = λ es fs gap after laid count ends pairs l W room. go es fs gap after laid l }
  where
    go : (es fs : List Entry) (gap : List ℕ) (after : ℕ) → d ≡ spaced_words gap es ++ replicate after 0 → length fs ≡ m → Put es fs gap d
    go es [] gap after laid l = record { rest = gap; after = after; shorter = omega arith; laid = laid ∙ ap (λ r. spaced_words gap r ++ replicate after 0) (sym (append-nil es)) }
    go es (e ∷ fs) gap after laid l = absurd (omega (arith, l, z))

-- ROOM: the entries stay, or they move.
module _ (d : List ℕ) (m x limit : ℕ) (A : RoomAsk d m x limit) where
  pub room_order : (first_at d ≤ size_at d) × (size_at d ≤ length d) × (2 * count d + 1 ≤ first_at d)
  room_order =
      let D = A.spacing.dictionary in
      let S = A.spacing.spaced in
      let a = first_spaced D d S in
      let b = size_spaced D d S in
      let c = area_spaced D d S in
      let n = count_spaced D d S in
      (omega (arith, a, b), omega (arith, b, c), omega (arith, a, n))

  pub room_stays : 2 * count d + 1 + 2 * m ≤ first_at d → size_at d + x ≤ limit → (D : Dictionary) → Spaced D d → Roomy (entries D) d m x limit (size_at d)
  room_stays low high D S =
      let a = first_spaced D d S in
      let b = size_spaced D d S in
      let n = count_spaced D d S in
      record { gap = S.gap; after = S.after; laid = S.laid; pairs = omega (arith, low, a, n); ends = b; words = high }

  -- they move up to y words beyond the pairs
  module _ (y : ℕ) (few : y ≤ limit - (2 * count d + 1 + 2 * m + (size_at d - first_at d) + x)) where
    pub move_ask : PlaceAsk d (2 * count d + 1 + 2 * m + y)
    move_ask =
        let r = A.room in
        let o = A.most in
        let e = A.near in
        let w = A.within in
        record { spacing = A.spacing; low = omega arith; room = omega (arith, r, o, few); few = omega (arith, r, e, few); near = omega (arith, w) }

    pub room_moved : (d' : List ℕ) (D : Dictionary) → Spaced D d → Respaced (entries D) d' (2 * count d + 1 + 2 * m + y) → Roomy (entries D) d' m x limit (2 * count d + 1 + 2 * m + y + (size_at d - first_at d))
    room_moved d' D S X =
        let a = first_spaced D d S in
        let b = size_spaced D d S in
        let n = count_spaced D d S in
        let g = X.begins in
        let r = A.room in
        record { gap = X.gap; after = X.after; laid = X.laid; pairs = omega (arith, g, n); ends = omega (arith, g, a, b); words = omega (arith, r, few) }

-- ALL APPENDED.
with_length : (D : Dictionary) (es : List Entry) → dictionary_length (with_entries es D) ≡ 1 + 2 * (length (entries D) + length es) + (length (all_words (entries D)) + length (all_words es))
unfolding dictionary_words
with_length D es =
    let a = laid_length (entries (with_entries es D)) in
    let b = ap length (entries_with es D) ∙ length-append (entries D) es in
    let c = ap (λ z. length (all_words z)) (entries_with es D) ∙ ap length (words_append (entries D) es) ∙ length-append (all_words (entries D)) (all_words es) in
    omega (arith, a, b, c)

pub append_none : (d : List ℕ) (m : ℕ) → m ≡ 0 → size_at d < 2 ^ 31 → (D : Dictionary) (es : List Entry) → length es ≡ m → Spaced D d → AllAppended D es d d true
unfolding with_entries
append_none d m z near D [] l S = record { fits = λ q. S; near = λ q. near; full = λ q. absurd (bool_no true refl q) }
append_none d m z near D (e ∷ es) l S = absurd (omega (arith, l, z))

-- x words wait, with the length of each
module _ (w : List ℕ) (at m end : ℕ) (ends : (es : List Entry) → length es ≡ m → Waits es w at → end ≡ at + length (waiting es)) where
  pub wait_words : (es : List Entry) → length es ≡ m → Waits es w at → end - at - m ≡ length (all_words es)
  wait_words es l W = let a = ends es l W in let b = waiting_length es in omega (arith, a, b, l)

  pub wait_order : Waiting w at m → (at ≤ end) × (m ≤ end - at)
  wait_order R = let a = ends R.entries R.count R.waits in let b = waiting_length R.entries in let c = R.count in (omega (arith, a), omega (arith, a, b, c))

  pub wait_few : (m ≡ 0 → ⊥) → Waiting w at m → end ≤ length w
  wait_few some R = let a = ends R.entries R.count R.waits in let c = R.count in let i = waits_inside R.entries w at (omega (arith, some, c)) R.waits in omega (arith, a, i)

  module _ (d : List ℕ) (limit : ℕ) (L : Usable d limit) where
    needed : (D : Dictionary) (es : List Entry) → length es ≡ m → Spaced D d → Waits es w at → 2 * count d + 1 + 2 * m + (size_at d - first_at d) + (end - at - m) ≡ dictionary_length (with_entries es D)
    needed D es l S W =
        let a = first_spaced D d S in
        let b = size_spaced D d S in
        let n = count_spaced D d S in
        let k = with_length D es in
        let z : size_at d - first_at d ≡ length (all_words (entries D)) = omega (arith, a, b) in
        let y = wait_words es l W in
        omega (arith, n, k, z, y, l)

    pub append_full : limit < 2 * count d + 1 + 2 * m + (size_at d - first_at d) + (end - at - m) → (D : Dictionary) (es : List Entry) → length es ≡ m → Spaced D d → Waits es w at → AllAppended D es d d false
    append_full over D es l S W =
        let n = needed D es l S W in
        record {
          fits = λ q. absurd (bool_no false q refl);
          near = λ q. absurd (bool_no false q refl);
          full = λ q few. ⊎_elim (λ e. omega (arith, over, n, e)) (λ h. let e = L.whole h in absurd (omega (arith, over, n, e, few))) (eq-or-lt_of_le L.most);
        }

    pub append_ask : Spacing d → size_at d < 2 ^ 31 → 2 * count d + 1 + 2 * m + (size_at d - first_at d) + (end - at - m) ≤ limit → RoomAsk d m (end - at - m) limit
    append_ask S near room = record { spacing = S; room = room; most = L.most; near = L.near; within = near }

    -- room was made
    module _ (d₁ : List ℕ) (to : ℕ) (same : length d₁ ≡ length d) (N : (D : Dictionary) → Spaced D d → Roomy (entries D) d₁ m (end - at - m) limit to) where
      pub all_ask : Spacing d → Waiting w at m → PutAsk d₁ w at m (count d) to
      all_ask S R =
          let X = N S.dictionary S.spaced in
          let y = wait_words R.entries R.count R.waits in
          let n = count_spaced S.dictionary d S.spaced in
          let e = X.words in
          let o = X.ends in
          let p = X.pairs in
          let g = L.near in
          let k = L.most in
          record { entries = R.entries; counted = R.count; waits = R.waits; few = omega (arith, n, e, o, p, g); room = omega (arith, y, e, k, same); near = omega (arith, y, e, g) }

      pub append_fits : (m ≡ 0 → ⊥) → (d₂ : List ℕ) → AllPut d₁ d₂ w at m (count d) to → (D : Dictionary) (es : List Entry) → length es ≡ m → Spaced D d → Waits es w at → AllAppended D es d d₂ true
      append_fits some d₂ P D es l S W =
          let X = N D S in
          let n = count_spaced D d S in
          let y = wait_words es l W in
          let e = X.words in
          let o = X.ends in
          let g = L.near in
          let k = L.most in
          let a = ap length X.laid ∙ length-append (spaced_words X.gap (entries D)) (replicate X.after 0) in
          let b = spaced_length X.gap (entries D) in
          let c = length-replicate {A = ℕ} X.after 0 in
          let Q = P.put (entries D) es X.gap X.after X.laid n o X.pairs l W (omega (arith, a, b, c, e, o, y, k, same)) in
          let v = ap length (words_append (entries D) es) ∙ length-append (all_words (entries D)) (all_words es) in
          let u = length-append (entries D) es in
          let s = Q.shorter in
          let T : Spaced (with_entries es D) d₂ = record {
            gap = Q.rest;
            after = Q.after;
            none = λ z. let t = ap length (entries_with es D) in absurd (some (omega (arith, z, t, u, l)));
            laid = Q.laid ∙ ap (λ r. spaced_words Q.rest r ++ replicate Q.after 0) (sym (entries_with es D));
          } in
          let z = size_spaced (with_entries es D) d₂ T in
          let t = ap length (entries_with es D) in
          let r = ap (λ j. length (all_words j)) (entries_with es D) in
          record { fits = λ q. T; near = λ q. omega (arith, z, t, u, r, v, s, o, e, y, g, l); full = λ q. absurd (bool_no true refl q) }
