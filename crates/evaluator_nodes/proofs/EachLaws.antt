-- One identifier's run through its set: block n of the work area, first its head, then what the assignments above it leave.
use mathlib.Core.Path.{◌≡◌, refl, sym, ap, subst, ◌∙◌}
use mathlib.Core.List.{List, ◌++◌}
use Prim.Native.Nat.{ℕ, suc, ◌+◌, ◌*◌, ◌-◌, ◌≤◌, ◌<◌}
use native.Mathlib.Omega.{arith}
use native.Mathlib.Numerals.{add-one}
use lib.ListN.{length, get_or, take, drop, length-append}
use lib.Seq.{take_at, drop_at, drop-drop}
use Rattle.values.specs.Value.{Value, Values, nil, cons, count, encode, encodes}
use Rattle.values.specs.Span.{span}
use Rattle.values.proofs.Encoding.{span_value}
use Rattle.evaluator_rules.specs.Environment.{Environment, bind, valued}
use Rattle.evaluator_rules.specs.Assignments.{Domains, no_more, domain, Flow, go, halt, next, each, assign}
use Rattle.evaluator_nodes.specs.Turns.{turn_at}
use Rattle.std.proofs.Common.{Result, Ok, Err}
use Rattle.reader_rules.specs.declared.Refusal.{Refusal}
use Rattle.evaluator_operations.specs.declared.worked.Flow.{Flow as Pace}
use Rattle.evaluator_operations.specs.declared.worked.Flow.TheVariants.{Go, Halt}
use Rattle.evaluator_operations.specs.Worked.{Told, fine, Flowed}
use Rattle.evaluator_scope.specs.Blocks.{field, Lies, Stored, in_work, Scoped, named, Pending, more, headed, head_words, block_words}
use Rattle.evaluator_nodes.specs.Ready.{RestIn, Assigns, SoFar, AssignTold, EachTold}
use Rattle.evaluator_operations.proofs.ToldLaws.{go_told, halt_told}
use Rattle.evaluator_operations.proofs.OperationLaws.{narrow_head, narrow_tail}
use Rattle.evaluator_scope.proofs.BlockLaws.{same_word, same_part, same_less, scoped_same, pending_above, head_take, head_drop, head_name, head_class, head_place, head_length}
use Rattle.evaluator_nodes.proofs.TestLaws.{lies_more}
use Rattle.evaluator_nodes.proofs.AssignLaws.{go_not_halt}

-- whatever the members from here on tell tells of all members: with the work area work₀ and the lent words s₀ at the first, work and s here
pub record EachLeft (doc state : List ℕ) (n m k c : ℕ) (work₀ s₀ work s : List ℕ) (at left : ℕ) : Type 0 where
  pub each : (after s' : List ℕ) (r : Result Pace Refusal) → Assigns n (m + 1) work after (EachTold doc k state work n m at left s s' r) → Assigns n (m + 1) work₀ after (EachTold doc k state work₀ n m 2 c s₀ s' r)

pub left_all : (doc state : List ℕ) (n m k c : ℕ) (work s : List ℕ) → EachLeft doc state n m k c work s work s 2 c
left_all doc state n m k c work s = record { each = λ after s' r a. a }

-- no member more
pub each_end : (doc state work : List ℕ) (n m k at c : ℕ) (u : List ℕ) → c ≡ 0 → Assigns n (m + 1) work work (EachTold doc k state work n m at c u u (Ok Go))
unfolding each count
each_end doc state work n m k at c u e =
    record { kept = refl; pends = λ ds p. p; told = λ scope sc i us ds p vs g ss hs. last i ds scope vs g ss hs }
  where
    last : (i : ℕ) (ds : Domains) (scope : Environment) (vs : Values) → RestIn work n at c vs → (ss : Values) → SoFar doc k u ss →
        Told (Flowed (SoFar doc k u)) (Ok Go) (each i vs (λ scope' s'. assign ds (turn_at doc k) scope' s') scope ss)
    last i ds scope nil g ss hs = fine {a = go ss} (refl, hs)
    last i ds scope (cons v vs) g ss hs = let q = g.counted in absurd (omega arith)

-- a place past the block: no set has a member there
pub each_past : (doc state work : List ℕ) (n m k at c : ℕ) (u : List ℕ) (r : Result Pace Refusal) → 64 < at → Assigns n (m + 1) work work (EachTold doc k state work n m at c u u r)
each_past doc state work n m k at c u r l =
    record { kept = refl; pends = λ ds p. p; told = λ scope sc i us ds p vs g ss hs. let q = g.short in absurd (omega arith) }

module _ (doc state w0 w1 w2 : List ℕ) (n m k at c here len : ℕ) (s s1 : List ℕ) (x : Result Pace Refusal) (eh : here ≡ block_words * n + (4 + at)) (el : len ≡ span (drop here w0))
    (e1 : w1 ≡ headed w0 n (get_or w0 (block_words * n) 0) 2 here len) (long : block_words * (n + 1) ≤ length w0) (A : Assigns (n + 1) m w1 w2 (AssignTold doc k state w1 (n + 1) m s s1 x)) (some : c ≡ 0 → ⊥) where
  above4 : drop (block_words * n + head_words) w1 ≡ drop (block_words * n + head_words) w0
  above4 = rw e1 (head_drop w0 n (get_or w0 (block_words * n) 0) 2 here len)

  below0 : take (block_words * n) w1 ≡ take (block_words * n) w0
  below0 = rw e1 (head_take w0 n (get_or w0 (block_words * n) 0) 2 here len)

  each_kept : take (block_words * n) w2 ≡ take (block_words * n) w0
  each_kept = same_less (block_words * (n + 1)) w1 w2 A.kept (block_words * n) (omega arith) ∙ below0

  drop_same : (j : ℕ) → block_words * n + head_words ≤ j → drop j w1 ≡ drop j w0
  drop_same j l =
      let q : j ≡ block_words * n + head_words + (j - (block_words * n + head_words)) = omega arith in
      rw q (sym (drop-drop (j - (block_words * n + head_words)) (block_words * n + head_words) w1) ∙ ap (λ (y : List ℕ). drop (j - (block_words * n + head_words)) y) above4 ∙ drop-drop (j - (block_words * n + head_words)) (block_words * n + head_words) w0)

  -- the words of block n stay
  block_same : (j : ℕ) (ws : List ℕ) → block_words * n + head_words ≤ j → j + length ws ≤ block_words * (n + 1) → Lies w0 j ws → Lies w2 j ws
  block_same j ws a b l = same_part (block_words * (n + 1)) w1 w2 A.kept j (length ws) b ∙ ap (λ (y : List ℕ). take (length ws) y) (drop_same j a) ∙ l

  name_same : field w2 n 0 ≡ field w0 n 0
  name_same =
      let q : block_words * n ≡ block_words * n + 0 = omega arith in
      same_word (block_words * (n + 1)) w1 w2 A.kept (block_words * n + 0) (omega arith) ∙ (rw e1 (head_name w0 n (get_or w0 (block_words * n) 0) 2 here len (omega arith))) ∙ ap (λ (j : ℕ). get_or w0 j 0) q

  each_pends : (ds : Domains) → Pending w0 n (m + 1) ds → Pending w2 n (m + 1) ds
  each_pends ds p = subst (λ (j : ℕ). Pending w2 n j ds) (sym (add-one m)) (keep_all ds (subst (λ (j : ℕ). Pending w0 n j ds) (add-one m) p))
    where
      keep_all : (es : Domains) → Pending w0 n (suc m) es → Pending w2 n (suc m) es
      keep_all no_more p = elim p [ ]
      keep_all (domain i us es) (more e l short nr p) =
          more (name_same ∙ e) (block_same (block_words * n + head_words) (encode (Value.set us)) (omega arith) (omega arith) l) short nr
          (subst (λ (j : ℕ). Pending w2 j m es) (add-one n) (A.pends es (subst (λ (j : ℕ). Pending w1 j m es) (sym (add-one n)) (pending_above w0 w1 (block_words * n + head_words) above4 (suc n) m (omega arith) p))))

  -- the next member and the rest
  module _ (v : Value) (vs : Values) (g : RestIn w0 n at c (cons v vs)) where
    lies0 : Lies w0 here (encode v ++ encodes vs)
    unfolding encodes
    lies0 = rw eh g.lies

    next_len : len ≡ length (encode v)
    unfolding encodes
    next_len =
        let a = g.short in
        let b = length-append (encode v) (encodes vs) in
        el ∙ (rw (lies_more w0 here v vs lies0) (span_value v _ (omega arith)))

    next_stored : Stored (take len (drop here w1)) v
    unfolding encodes
    next_stored =
        let a = g.short in
        let b = length-append (encode v) (encodes vs) in
        record {
          words =
              ap (λ (j : ℕ). take j (drop here w1)) next_len ∙ ap (λ (y : List ℕ). take (length (encode v)) y) (drop_same here (omega arith) ∙ lies_more w0 here v vs lies0)
              ∙ take_at (encode v) _ (length (encode v)) refl;
          short = omega arith;
          narrow = narrow_head v vs g.narrow;
        }

    next_scoped : (scope : Environment) → Scoped state w0 n scope → (i : ℕ) → field w0 n 0 ≡ i → Scoped state w1 (n + 1) (bind i (valued v) scope)
    unfolding encodes
    next_scoped scope sc i e =
        let a = g.short in
        let b = length-append (encode v) (encodes vs) in
        let l4 : block_words * n + head_words ≤ length w0 = omega arith in
        let z = next_len in
        let q : block_words * n ≡ block_words * n + 0 = omega arith in
        let name : field w1 n 0 ≡ get_or w0 (block_words * n) 0 = (rw e1 (head_name w0 n (get_or w0 (block_words * n) 0) 2 here len l4)) in
        let class : field w1 n 1 ≡ 2 = (rw e1 (head_class w0 n (get_or w0 (block_words * n) 0) 2 here len l4)) in
        let place : field w1 n 2 ≡ here = (rw e1 (head_place w0 n (get_or w0 (block_words * n) 0) 2 here len l4)) in
        let size : field w1 n 3 ≡ len = (rw e1 (head_length w0 n (get_or w0 (block_words * n) 0) 2 here len l4)) in
        rw (add-one n)
        (named (scoped_same state w0 w1 n below0 sc) (name ∙ ap (λ (j : ℕ). get_or w0 j 0) q ∙ e)
        (in_work {v = v} class (rw (place, size) (omega arith)) (rw (place, size) next_stored)))

    next_rest : RestIn w2 n (at + len) (c - 1) vs
    unfolding encodes count
    next_rest =
        let a = g.short in
        let b = length-append (encode v) (encodes vs) in
        let z = next_len in
        let d = g.counted in
        let t : block_words * n + (4 + (at + len)) ≡ here + length (encode v) = omega arith in
        let l : Lies w0 (block_words * n + (4 + (at + len))) (encodes vs) =
        rw t (ap (λ (y : List ℕ). take (length (encodes vs)) y)
        (sym (drop-drop (length (encode v)) here w0) ∙ ap (λ (y : List ℕ). drop (length (encode v)) y) (lies_more w0 here v vs lies0) ∙ drop_at (encode v) _ (length (encode v)) refl)
        ∙ take_at (encodes vs) _ (length (encodes vs)) refl)
        in
        record {
          lies = block_same (block_words * n + (4 + (at + len))) (encodes vs) (omega arith) (omega arith) l;
          short = omega arith;
          counted = omega arith;
          narrow = narrow_tail v vs g.narrow;
        }

    next_told : (scope : Environment) → Scoped state w0 n scope → (i : ℕ) (us : Values) (ds : Domains) → Pending w0 n (suc m) (domain i us ds) → (ss : Values) → SoFar doc k s ss →
        Told (Flowed (SoFar doc k s1)) x (assign ds (turn_at doc k) (bind i (valued v) scope) ss)
    next_told scope sc i us ds (more e l short nr p) ss hs =
        A.told (bind i (valued v) scope) (next_scoped scope sc i e) ds
        (subst (λ (j : ℕ). Pending w1 j m ds) (sym (add-one n)) (pending_above w0 w1 (block_words * n + head_words) above4 (suc n) m (omega arith) p)) ss hs

  -- it stops, or ends all assignments
  each_stop : (f : Refusal) → x ≡ Err f → EachTold doc k state w0 n m at c s s1 (Err f)
  unfolding each count
  each_stop f z scope sc i us ds p nil g ss hs = absurd (some (sym g.counted))
  each_stop f z scope sc i us ds p (cons v vs) g ss hs = halt_told _ (rw z at (next_told v vs g scope sc i us ds p ss hs))

  each_halt : x ≡ Ok Halt → EachTold doc k state w0 n m at c s s1 (Ok Halt)
  unfolding each next count
  each_halt z scope sc i us ds p nil g ss hs = absurd (some (sym g.counted))
  each_halt z scope sc i us ds p (cons v vs) g ss hs = go_told (rw z at (next_told v vs g scope sc i us ds p ss hs)) (λ w j. ended w j)
    where
      ended : (w : Flow) → Flowed (SoFar doc k s1) Halt w → Told (Flowed (SoFar doc k s1)) (Ok Halt) (next (λ s'. each i vs (λ scope' s''. assign ds (turn_at doc k) scope' s'') scope s') w)
      ended (go us) j = absurd (go_not_halt (sym j.0))
      ended halt j = fine {a = halt} refl

  each_go : {s2 : List ℕ} {r : Result Pace Refusal} → x ≡ Ok Go → EachTold doc k state w2 n m (at + len) (c - 1) s1 s2 r → EachTold doc k state w0 n m at c s s2 r
  unfolding each next count
  each_go z more' scope sc i us ds p nil g ss hs = absurd (some (sym g.counted))
  each_go {s2} {r} z more' scope sc i us ds p (cons v vs) g ss hs = go_told (rw z at (next_told v vs g scope sc i us ds p ss hs)) (λ w j. onward w j)
    where
      onward : (w : Flow) → Flowed (SoFar doc k s1) Go w → Told (Flowed (SoFar doc k s2)) r (next (λ s'. each i vs (λ scope' s''. assign ds (turn_at doc k) scope' s'') scope s') w)
      onward (go us') j =
          more' scope (scoped_same state w0 w2 n each_kept sc) i us ds
          (subst (λ (q : ℕ). Pending w2 n q (domain i us ds)) (add-one m) (each_pends (domain i us ds) (subst (λ (q : ℕ). Pending w0 n q (domain i us ds)) (sym (add-one m)) p)))
          vs (next_rest v vs g) us' j.1
      onward halt j = absurd (go_not_halt j)

  -- with the members before
  module _ (c₀ : ℕ) (work₀ s₀ : List ℕ) (h : EachLeft doc state n m k c₀ work₀ s₀ w0 s at c) where
    pub left_stop : (f : Refusal) → x ≡ Err f → Assigns n (m + 1) work₀ w2 (EachTold doc k state work₀ n m 2 c₀ s₀ s1 (Err f))
    left_stop f z = h.each w2 s1 (Err f) (record { kept = each_kept; pends = each_pends; told = each_stop f z })

    pub left_halt : x ≡ Ok Halt → Assigns n (m + 1) work₀ w2 (EachTold doc k state work₀ n m 2 c₀ s₀ s1 (Ok Halt))
    left_halt z = h.each w2 s1 (Ok Halt) (record { kept = each_kept; pends = each_pends; told = each_halt z })

    pub left_more : x ≡ Ok Go → EachLeft doc state n m k c₀ work₀ s₀ w2 s1 (at + len) (c - 1)
    left_more z = record { each = λ after s' r e. h.each after s' r (record { kept = e.kept ∙ each_kept; pends = λ ds p. e.pends ds (each_pends ds p); told = each_go z e.told }) }
