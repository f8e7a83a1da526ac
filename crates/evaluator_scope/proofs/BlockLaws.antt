-- Laws of the blocks in the work area: what a change above them leaves, and what a new block is.
use mathlib.Core.Path.{◌≡◌, refl, sym, ap, subst, ◌∙◌}
use mathlib.Core.Bool.{Bool, true, false, cond, true≢false}
use mathlib.Core.List.{List, [], ◌∷◌}
use Prim.Native.Nat.{ℕ, zero, suc, ◌+◌, ◌*◌, ◌-◌, ◌≤◌, ◌<◌}
use native.Mathlib.Omega.{arith}
use lib.Dec.{eqb}
use lib.ListN.{length, get_or, set, take, drop, length-set, drop_of_length-le}
use native.Mathlib.Nat.{eq-or-lt_of_le}
use native.Mathlib.Numerals.{add-one}
use mathlib.Core.Logic.{⊎_elim}
use Rattle.words.proofs.Lists.{drop_next}
use Rattle.values.specs.declared.held.Held.{Held}
use Rattle.values.proofs.Holding.{held_len}
use lib.Seq.{sets, length-sets, get_or-take, get_or-drop, get_or-set_same, get_or-set_other, take-set-le, drop-set-lt, take-take, drop-drop}
use borrow.Author.Tests.{eq-eqb, ne_eqb, eqb-true, eqb-false}
use Rattle.values.specs.Value.{Value, Values, encode}
use Rattle.evaluator_rules.specs.Environment.{Meaning, valued, generic, unknown, Environment, empty, bind, lookup, pick, refer, has_actuals}
use Rattle.evaluator_rules.specs.Assignments.{Domains, no_more, domains}
use Rattle.evaluator_scope.specs.Blocks.{field, Lies, Stored, Means, in_state, in_work, is_generic, Scoped, hidden, named, Pending, more, last_block, headed, value_of, Pushed, Leaves, head_words, block_words}
use Rattle.evaluator_scope.specs.Blocks as Blocks
use Rattle.values.specs.Lookup.{value_at}
use Rattle.reader_rules.specs.Tree.{Exprs}
use Rattle.reader_rules.specs.Tree as Tree
use Rattle.std.proofs.Common.{Ok, Err}
use Rattle.reader_rules.specs.declared.Refusal.{Refusal}
use Rattle.evaluator_operations.specs.Worked.{Holds, Told, Stops}
use Rattle.evaluator_operations.proofs.ToldLaws.{stop_told}
use Rattle.evaluator_operations.proofs.GatherLaws.{copied}
use Rattle.evaluator_operations.proofs.OperationLaws.{keep_told}

take_drop_take : (at len N : ℕ) (l : List ℕ) → at + len ≤ N → take len (drop at (take N l)) ≡ take len (drop at l)
take_drop_take zero len N l h = take-take len N l (omega arith)
take_drop_take (suc at) len zero l h = absurd (omega arith)
take_drop_take (suc at) len (suc N) [] h = refl
take_drop_take (suc at) len (suc N) (x ∷ l) h = take_drop_take at len N l (omega arith)

-- ---- words below a place that are the same before and after
module _ (N : ℕ) (before after : List ℕ) (e : take N after ≡ take N before) where
  pub same_word : (i : ℕ) → i < N → get_or after i 0 ≡ get_or before i 0
  same_word i h = sym (get_or-take N after i 0 h) ∙ ap (λ (l : List ℕ). get_or l i 0) e ∙ get_or-take N before i 0 h

  pub same_part : (at len : ℕ) → at + len ≤ N → take len (drop at after) ≡ take len (drop at before)
  same_part at len h = sym (take_drop_take at len N after h) ∙ ap (λ (l : List ℕ). take len (drop at l)) e ∙ take_drop_take at len N before h

  pub same_less : (m : ℕ) → m ≤ N → take m after ≡ take m before
  same_less m h = sym (take-take m N after h) ∙ ap (λ (l : List ℕ). take m l) e ∙ take-take m N before h

stored_same : {v : Value} (u w : List ℕ) → u ≡ w → Stored w v → Stored u v
stored_same u w e s = record { words = e ∙ s.words; short = s.short; narrow = s.narrow }

module _ (state before after : List ℕ) where
  means_same : (b : ℕ) {m : Meaning} → take (block_words * (b + 1)) after ≡ take (block_words * (b + 1)) before → Means state before b m → Means state after b m
  means_same b e (in_state c s) =
      let f = same_word (block_words * (b + 1)) before after e in
      let f1 = f (block_words * b + 1) (omega arith) in
      let f2 = f (block_words * b + 2) (omega arith) in
      let f3 = f (block_words * b + 3) (omega arith) in
      in_state (f1 ∙ c) (stored_same _ _ (rw (f2, f3)) s)
  means_same b e (in_work c l s) =
      let f = same_word (block_words * (b + 1)) before after e in
      let f1 = f (block_words * b + 1) (omega arith) in
      let f2 = f (block_words * b + 2) (omega arith) in
      let f3 = f (block_words * b + 3) (omega arith) in
      in_work (f1 ∙ c) (rw (f2, f3) l) (stored_same _ _ (rw (f2, f3) (same_part (block_words * (b + 1)) before after e _ _ l)) s)
  means_same b e (is_generic c) = is_generic (same_word (block_words * (b + 1)) before after e (block_words * b + 1) (omega arith) ∙ c)

  pub scoped_same : (n : ℕ) {scope : Environment} → take (block_words * n) after ≡ take (block_words * n) before → Scoped state before n scope → Scoped state after n scope
  scoped_same zero e Blocks.none = Blocks.none
  scoped_same (suc n) e (hidden s h) =
      hidden (scoped_same n (same_less (block_words * suc n) before after e (block_words * n) (omega arith)) s) (same_word (block_words * suc n) before after e (block_words * n + 1) (omega arith) ∙ h)
  scoped_same (suc n) e (named s i m) =
      let q : block_words * suc n ≡ block_words * (n + 1) = omega arith in
      named (scoped_same n (same_less (block_words * suc n) before after e (block_words * n) (omega arith)) s) (same_word (block_words * suc n) before after e (block_words * n + 0) (omega arith) ∙ i)
      (means_same n (rw q at e) m)

-- a pending block, and those above it
pub pending_same : (before after : List ℕ) (b m : ℕ) {ds : Domains} → take (block_words * (b + m)) after ≡ take (block_words * (b + m)) before → Pending before b m ds → Pending after b m ds
pending_same before after b zero e Blocks.none = Blocks.none
pending_same before after b (suc m) e (more {vs} i l s n p) =
    let q : block_words * (b + suc m) ≡ block_words * (suc b + m) = omega arith in
    more (same_word (block_words * (b + suc m)) before after e (block_words * b + 0) (omega arith) ∙ i)
    (same_part (block_words * (b + suc m)) before after e (block_words * b + head_words) (length (encode (Value.set vs))) (omega arith) ∙ l) s n
    (pending_same before after (suc b) m (rw q at e) p)

-- the words from block b on that are the same
pub pending_above : (before after : List ℕ) (N : ℕ) → drop N after ≡ drop N before → (b m : ℕ) {ds : Domains} → N ≤ block_words * b → Pending before b m ds → Pending after b m ds
pending_above before after N e b zero h Blocks.none = Blocks.none
pending_above before after N e b (suc m) h (more {vs} i l s n p) =
    more (word (block_words * b + 0) (omega arith) ∙ i) (ap (λ (x : List ℕ). take (length (encode (Value.set vs))) x) (rest (block_words * b + head_words) (omega arith)) ∙ l) s n (pending_above before after N e (suc b) m (omega arith) p)
  where
    rest : (at : ℕ) → N ≤ at → drop at after ≡ drop at before
    rest at g =
        let q : at ≡ N + (at - N) = omega arith in
        rw q (sym (drop-drop (at - N) N after) ∙ ap (λ (x : List ℕ). drop (at - N) x) e ∙ drop-drop (at - N) N before)

    word : (at : ℕ) → N ≤ at → get_or after at 0 ≡ get_or before at 0
    word at g =
        let q : at ≡ N + (at - N) = omega arith in
        rw q (sym (get_or-drop N after (at - N) 0) ∙ ap (λ (x : List ℕ). get_or x (at - N) 0) e ∙ get_or-drop N before (at - N) 0)

-- ---- a block's head
module _ (work : List ℕ) (b name class at len : ℕ) where
  pub head_take : take (block_words * b) (headed work b name class at len) ≡ take (block_words * b) work
  unfolding headed
  head_take =
      take-set-le (block_words * b) _ (block_words * b + 3) len (omega arith) ∙ take-set-le (block_words * b) _ (block_words * b + 2) at (omega arith)
      ∙ take-set-le (block_words * b) _ (block_words * b + 1) class (omega arith) ∙ take-set-le (block_words * b) work (block_words * b) name (omega arith)

  pub head_drop : drop (block_words * b + head_words) (headed work b name class at len) ≡ drop (block_words * b + head_words) work
  unfolding headed
  head_drop =
      drop-set-lt (block_words * b + head_words) _ (block_words * b + 3) len (omega arith) ∙ drop-set-lt (block_words * b + head_words) _ (block_words * b + 2) at (omega arith)
      ∙ drop-set-lt (block_words * b + head_words) _ (block_words * b + 1) class (omega arith) ∙ drop-set-lt (block_words * b + head_words) work (block_words * b) name (omega arith)

  module _ (h : block_words * b + head_words ≤ length work) where
    w1 : List ℕ
    w1 = set work (block_words * b) name

    w2 : List ℕ
    w2 = set w1 (block_words * b + 1) class

    w3 : List ℕ
    w3 = set w2 (block_words * b + 2) at

    pub head_name : field (headed work b name class at len) b 0 ≡ name
    unfolding headed w1 w2 w3
    head_name =
        let q : block_words * b + 0 ≡ block_words * b = omega arith in
        rw q (get_or-set_other w3 (block_words * b + 3) (block_words * b) len 0 (λ e. omega arith) ∙ get_or-set_other w2 (block_words * b + 2) (block_words * b) at 0 (λ e. omega arith)
        ∙ get_or-set_other w1 (block_words * b + 1) (block_words * b) class 0 (λ e. omega arith) ∙ get_or-set_same work (block_words * b) name 0 (omega arith))

    pub head_class : field (headed work b name class at len) b 1 ≡ class
    unfolding headed w1 w2 w3
    head_class =
        get_or-set_other w3 (block_words * b + 3) (block_words * b + 1) len 0 (λ e. omega arith) ∙ get_or-set_other w2 (block_words * b + 2) (block_words * b + 1) at 0 (λ e. omega arith)
        ∙ get_or-set_same w1 (block_words * b + 1) class 0 (omega (arith, length-set work (block_words * b) name))

    pub head_place : field (headed work b name class at len) b 2 ≡ at
    unfolding headed w1 w2 w3
    head_place =
        get_or-set_other w3 (block_words * b + 3) (block_words * b + 2) len 0 (λ e. omega arith)
        ∙ get_or-set_same w2 (block_words * b + 2) at 0 (omega (arith, length-set work (block_words * b) name, length-set w1 (block_words * b + 1) class))

    pub head_length : field (headed work b name class at len) b 3 ≡ len
    unfolding headed w1 w2 w3
    head_length = get_or-set_same w3 (block_words * b + 3) len 0 (omega (arith, length-set work (block_words * b) name, length-set w1 (block_words * b + 1) class, length-set w2 (block_words * b + 2) at))

-- ---- the block of a name
abbrev pub FoundBlock : List ℕ → List ℕ → ℕ → Meaning → Type 0
FoundBlock state work zero m = m ≡ unknown
FoundBlock state work (suc b) m = Means state work b m

module _ (state work : List ℕ) (i : ℕ) where
  class_some : (b : ℕ) {m : Meaning} → Means state work b m → field work b 1 ≡ 0 → ⊥
  class_some b (in_state c s) e = omega arith
  class_some b (in_work c l s) e = omega arith
  class_some b (is_generic c) e = omega arith

  pub lookup_found : (n : ℕ) (scope : Environment) → Scoped state work n scope → FoundBlock state work (last_block work i n) (lookup i scope)
  unfolding last_block lookup pick
  lookup_found zero empty Blocks.none = refl
  lookup_found (suc n) scope (hidden s h) = rw (eq-eqb (field work n 1) 0 h) (go (eqb (field work n 0) i) (lookup_found n scope s))
    where
      go : (t : Bool) → FoundBlock state work (last_block work i n) (lookup i scope) → FoundBlock state work (cond t (last_block work i n) (last_block work i n)) (lookup i scope)
      go true f = f
      go false f = f
  lookup_found zero (bind j m scope) h = elim h [ ]
  lookup_found (suc n) (bind j m scope) (named s e q) =
      rw (ne_eqb (field work n 1) 0 (class_some n q)) (go (eqb i j) (eqb-true i j) (eqb-false i j) (lookup_found n scope s))
    where
      go : (t : Bool) → (t ≡ true → i ≡ j) → (t ≡ false → i ≡ j → ⊥) → FoundBlock state work (last_block work i n) (lookup i scope)
          → FoundBlock state work (cond (eqb (field work n 0) i) (suc n) (last_block work i n)) (pick t m (lookup i scope))
      go true y z f = rw (eq-eqb (field work n 0) i (e ∙ sym (y refl))) q
      go false y z f = rw (ne_eqb (field work n 0) i (λ g. z refl (sym g ∙ e))) f

-- one turn of the search
module _ (work : List ℕ) (i : ℕ) where
  pub block_hit : (n : ℕ) → 0 < n → get_or work (block_words * (n - 1)) 0 ≡ i → (get_or work (block_words * (n - 1) + 1) 0 ≡ 0 → ⊥) → n ≡ last_block work i n
  unfolding last_block
  block_hit zero h e f = absurd (omega arith)
  block_hit (suc n) h e f =
      let q : suc n - 1 ≡ n = omega arith in
      let p : block_words * n ≡ block_words * n + 0 = omega arith in
      sym (rw (eq-eqb (get_or work (block_words * n + 0) 0) i (rw (q, p) at e), ne_eqb (get_or work (block_words * n + 1) 0) 0 (rw q at f)))

  pub block_hidden : (n : ℕ) → 0 < n → get_or work (block_words * (n - 1) + 1) 0 ≡ 0 → last_block work i n ≡ last_block work i (n - 1)
  unfolding last_block
  block_hidden zero h e = absurd (omega arith)
  block_hidden (suc n) h e =
      let q : suc n - 1 ≡ n = omega arith in
      rw (q, eq-eqb (get_or work (block_words * n + 1) 0) 0 (rw q at e)) (go (eqb (field work n 0) i))
    where
      go : (t : Bool) → cond t (last_block work i n) (last_block work i n) ≡ last_block work i n
      go true = refl
      go false = refl

  pub block_other : (n : ℕ) → 0 < n → (get_or work (block_words * (n - 1)) 0 ≡ i → ⊥) → last_block work i n ≡ last_block work i (n - 1)
  unfolding last_block
  block_other zero h e = absurd (omega arith)
  block_other (suc n) h e =
      let q : suc n - 1 ≡ n = omega arith in
      let p : block_words * n ≡ block_words * n + 0 = omega arith in
      rw (q, ne_eqb (get_or work (block_words * n + 0) 0) i (rw (q, p) at e))

  pub block_none : 0 ≡ last_block work i 0
  unfolding last_block
  block_none = refl

-- ---- a Ref to the name of a block
pub refer_unknown : (state work : List ℕ) (k : ℕ) (m : Meaning) → FoundBlock state work 0 m → (xs : Exprs) {C : Type 0} {R : C → Value → Type 0} {e : Refusal} → Stops e 51 k → Told R (Err e) (refer k xs m)
unfolding refer
refer_unknown state work k m f xs {R = R} {e = e} s = rw f (go xs)
  where
    go : (ys : Exprs) → Told R (Err e) (refer k ys unknown)
    go Tree.none = stop_told s (λ z. omega arith)
    go (Tree.more a ys) = stop_told s (λ z. omega arith)

module _ (state work : List ℕ) (b k : ℕ) (m : Meaning) (f : Means state work b m) (xs : Exprs) {C : Type 0} {R : C → Value → Type 0} where
  pub refer_generic : {e : Refusal} → field work b 1 ≡ 3 → Stops e 54 k → Told R (Err e) (refer k xs m)
  unfolding refer
  refer_generic {e} c s = go m f xs
    where
      go : (n : Meaning) → Means state work b n → (ys : Exprs) → Told R (Err e) (refer k ys n)
      go (valued v) (in_state d t) ys = absurd (omega arith)
      go (valued v) (in_work d l t) ys = absurd (omega arith)
      go unknown q ys = elim q [ ]
      go generic (is_generic d) Tree.none = stop_told s (λ z. omega arith)
      go generic (is_generic d) (Tree.more a ys) = stop_told s (λ z. omega arith)

  pub refer_actuals : {e : Refusal} → (field work b 1 ≡ 3 → ⊥) → true ≡ has_actuals xs → Stops e 51 k → Told R (Err e) (refer k xs m)
  unfolding refer has_actuals
  refer_actuals {e} c a s = go m f xs a
    where
      go : (n : Meaning) → Means state work b n → (ys : Exprs) → true ≡ has_actuals ys → Told R (Err e) (refer k ys n)
      go n q Tree.none h = absurd (true≢false h)
      go (valued v) (in_state d t) (Tree.more y ys) h = stop_told s (λ z. omega arith)
      go (valued v) (in_work d l t) (Tree.more y ys) h = stop_told s (λ z. omega arith)
      go generic (is_generic d) (Tree.more y ys) h = absurd (c d)
      go unknown q (Tree.more y ys) h = elim q [ ]

  pub refer_value : {r : C} → (field work b 1 ≡ 3 → ⊥) → false ≡ has_actuals xs →
      ((v : Value) → Stored (value_of state work b) v → R r v) → Told R (Ok r) (refer k xs m)
  unfolding refer has_actuals value_of value_at
  refer_value {r} c a w = go m f xs a
    where
      go : (n : Meaning) → Means state work b n → (ys : Exprs) → false ≡ has_actuals ys → Told R (Ok r) (refer k ys n)
      go n q (Tree.more y ys) e = absurd (true≢false (sym e))
      go (valued v) (in_state d t) Tree.none e = keep_told k v t.short (w v (rw (eq-eqb (field work b 1) 1 d) t))
      go (valued v) (in_work d l t) Tree.none e = keep_told k v t.short (w v (rw (ne_eqb (field work b 1) 1 (λ y. omega arith)) t))
      go generic (is_generic d) Tree.none e = absurd (c d)
      go unknown q Tree.none e = elim q [ ]

-- ---- identifiers with the set that they run through
take_sets : (ws l : List ℕ) (N i : ℕ) → N ≤ i → take N (sets l i ws) ≡ take N l
take_sets [] l N i h = refl
take_sets (a ∷ ws) l N i h = take_sets ws (set l i a) N (suc i) (omega arith) ∙ take-set-le N l i a h

length_headed : (work : List ℕ) (b name class at len : ℕ) → length (headed work b name class at len) ≡ length work
unfolding headed
length_headed work b name class at len = simp length-set

-- the identifiers of the words x, from j on, in blocks from b on, with the set v
abbrev pub Domained : List ℕ → List ℕ → List ℕ → ℕ → ℕ → Held → Type 0
Domained before after x b j v = Pushed before after b (length x - j) ((vs : Values) → Holds v (Value.set vs) → Pending after b (length x - j) (domains (drop j x) vs no_more))

pub pushed_none : (work x : List ℕ) (b j : ℕ) (v : Held) → length x ≤ j → Domained work work x b j v
unfolding domains
pushed_none work x b j v h =
    let z : length x - j ≡ 0 = omega arith in
    record { kept = refl; hidden = λ i p q. absurd (omega arith); told = λ vs g. rw (z, drop_of_length-le x h) Blocks.none }

module _ (w0 w1 w2 w3 x : List ℕ) (b j : ℕ) (v : Held) (e1 : w1 ≡ headed w0 b (get_or x j 0) 0 0 0) (e2 : w2 ≡ sets w1 (block_words * b + head_words) v.words) (long : block_words * (b + 1) ≤ length w0) (h : j < length x) where
  below4 : take (block_words * b + head_words) w2 ≡ take (block_words * b + head_words) w1
  below4 = rw e2 (take_sets v.words w1 (block_words * b + head_words) (block_words * b + head_words) (omega arith))

  pub pushed_more : Domained w2 w3 x (b + 1) (j + 1) v → Domained w0 w3 x b j v
  unfolding domains
  pushed_more p =
      let k = p.kept in
      let m : length x - j ≡ suc (length x - (j + 1)) = omega arith in
      let c2 : (i : ℕ) → i < block_words * b + head_words → get_or w2 i 0 ≡ get_or w1 i 0 = same_word (block_words * b + head_words) w1 w2 below4 in
      let c3 : (i : ℕ) → i < block_words * (b + 1) → get_or w3 i 0 ≡ get_or w2 i 0 = same_word (block_words * (b + 1)) w2 w3 k in
      let l4 : block_words * b + head_words ≤ length w0 = omega arith in
      let class : field w3 b 1 ≡ 0 = c3 (block_words * b + 1) (omega arith) ∙ c2 (block_words * b + 1) (omega arith) ∙ (rw e1 (head_class w0 b (get_or x j 0) 0 0 0 l4)) in
      let name : field w3 b 0 ≡ get_or x j 0 = c3 (block_words * b + 0) (omega arith) ∙ c2 (block_words * b + 0) (omega arith) ∙ (rw e1 (head_name w0 b (get_or x j 0) 0 0 0 l4)) in
      let l1 : block_words * b + head_words + 64 ≤ length w1 = omega (arith, ap length e1, length_headed w0 b (get_or x j 0) 0 0 0) in
      record {
        kept =
            same_less (block_words * (b + 1)) w2 w3 k (block_words * b) (omega arith) ∙ same_less (block_words * b + head_words) w1 w2 below4 (block_words * b) (omega arith)
            ∙ (rw e1 (head_take w0 b (get_or x j 0) 0 0 0));
        hidden = λ i q r. ⊎_elim (λ t. subst (λ (y : ℕ). field w3 y 1 ≡ 0) t class) (λ t. p.hidden i (omega arith) (omega arith)) (eq-or-lt_of_le q);
        told = λ vs g.
            let lies : Lies w2 (block_words * b + head_words) (encode (Value.set vs)) = rw e2 (copied w1 (block_words * b + head_words) v (Value.set vs) g l1) in
            let s = g.short in
            let next : Pending w3 (suc b) (length x - (j + 1)) (domains (drop (j + 1) x) vs no_more) = (rw (add-one b) at (p.told vs g)) in
            rw (m, drop_next x j h)
            (more name (same_part (block_words * (b + 1)) w2 w3 k (block_words * b + head_words) (length (encode (Value.set vs))) (omega arith) ∙ lies) s g.narrow next);
      }

-- ---- a new name
module _ (w0 w1 w2 : List ℕ) (n name : ℕ) (v : Held) (e1 : w1 ≡ sets w0 (block_words * n + head_words) v.words) (e2 : w2 ≡ headed w1 n name 2 (block_words * n + head_words) v.len) (long : block_words * (n + 1) ≤ length w0) where
  value_kept : take (block_words * n) w2 ≡ take (block_words * n) w0
  value_kept =
      let a : take (block_words * n) w2 ≡ take (block_words * n) w1 = (rw e2 (head_take w1 n name 2 (block_words * n + head_words) v.len)) in
      let b : take (block_words * n) w1 ≡ take (block_words * n) w0 = (rw e1 (take_sets v.words w0 (block_words * n) (block_words * n + head_words) (omega arith))) in
      a ∙ b

  pub bind_value : Leaves n w0 w2 ((state : List ℕ) (scope : Environment) (x : Value) → Scoped state w0 n scope → Holds v x → Scoped state w2 (n + 1) (bind name (valued x) scope))
  bind_value =
      let l1 : block_words * n + head_words ≤ length w1 = omega (arith, ap length e1, length-sets w0 (block_words * n + head_words) v.words) in
      let tag : field w2 n 0 ≡ name = (rw e2 (head_name w1 n name 2 (block_words * n + head_words) v.len l1)) in
      let class : field w2 n 1 ≡ 2 = (rw e2 (head_class w1 n name 2 (block_words * n + head_words) v.len l1)) in
      let place : field w2 n 2 ≡ block_words * n + head_words = (rw e2 (head_place w1 n name 2 (block_words * n + head_words) v.len l1)) in
      let size : field w2 n 3 ≡ v.len = (rw e2 (head_length w1 n name 2 (block_words * n + head_words) v.len l1)) in
      let above : drop (block_words * n + head_words) w2 ≡ drop (block_words * n + head_words) w1 = (rw e2 (head_drop w1 n name 2 (block_words * n + head_words) v.len)) in
      record {
        kept = value_kept;
        told = λ state scope x sc h.
            let s = h.short in
            let len : v.len ≡ length (encode x) = held_len v (encode x) h.words h.short in
            let lies : Lies w1 (block_words * n + head_words) (encode x) = (rw e1 (copied w0 (block_words * n + head_words) v x h (omega arith))) in
            rw (add-one n)
            (named (scoped_same state w0 w2 n value_kept sc) tag
            (in_work {v = x} class (rw (place, size) (omega arith))
            (rw (place, size) (record { words = ap (λ (y : List ℕ). take v.len y) above ∙ ap (λ (j : ℕ). take j (drop (block_words * n + head_words) w1)) len ∙ lies; short = h.short; narrow = h.narrow }))));
      }

module _ (w0 w1 : List ℕ) (n name class at len : ℕ) (e1 : w1 ≡ headed w0 n name class at len) (long : block_words * (n + 1) ≤ length w0) where
  head_kept : take (block_words * n) w1 ≡ take (block_words * n) w0
  head_kept = rw e1 (head_take w0 n name class at len)

  pub bind_generic : class ≡ 3 → Leaves n w0 w1 ((state : List ℕ) (scope : Environment) → Scoped state w0 n scope → Scoped state w1 (n + 1) (bind name generic scope))
  bind_generic c =
      let l : block_words * n + head_words ≤ length w0 = omega arith in
      let tag : field w1 n 0 ≡ name = (rw e1 (head_name w0 n name class at len l)) in
      let kind : field w1 n 1 ≡ class = (rw e1 (head_class w0 n name class at len l)) in
      record { kept = head_kept; told = λ state scope sc. rw (add-one n) (named (scoped_same state w0 w1 n head_kept sc) tag (is_generic (kind ∙ c))) }

  pub bind_entry : class ≡ 1 → Leaves n w0 w1 ((state : List ℕ) (scope : Environment) (x : Value) → Scoped state w0 n scope → Stored (take len (drop at state)) x → Scoped state w1 (n + 1) (bind name (valued x) scope))
  bind_entry c =
      let l : block_words * n + head_words ≤ length w0 = omega arith in
      let tag : field w1 n 0 ≡ name = (rw e1 (head_name w0 n name class at len l)) in
      let kind : field w1 n 1 ≡ class = (rw e1 (head_class w0 n name class at len l)) in
      let place : field w1 n 2 ≡ at = (rw e1 (head_place w0 n name class at len l)) in
      let size : field w1 n 3 ≡ len = (rw e1 (head_length w0 n name class at len l)) in
      record { kept = head_kept; told = λ state scope x sc s. rw (add-one n) (named (scoped_same state w0 w1 n head_kept sc) tag (in_state {v = x} (kind ∙ c) (rw (place, size) s))) }
