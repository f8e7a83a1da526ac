-- The lines of a Text, one after the other: their sets go to blocks above those in scope.
use mathlib.Core.Path.{◌≡◌, refl, sym, ap, subst, ◌∙◌}
use mathlib.Core.List.{List, [], ◌∷◌}
use Prim.Native.Nat.{ℕ, zero, suc, ◌+◌, ◌*◌, ◌-◌, ◌≤◌, ◌<◌}
use native.Mathlib.Omega.{arith}
use lib.ListN.{length, get_or, take, drop, length-drop}
use Rattle.layout.specs.Layout.{part}
use Rattle.values.specs.Value.{Value, Values, nil}
use Rattle.values.specs.declared.held.Held.{Held}
use Rattle.reader_rules.specs.Kinds.{cell, expressions, texts, lines}
use Rattle.reader_rules.proofs.TreeCounts.{at_least}
use Rattle.reader_rules.specs.Limited.{declared_count}
use Rattle.reader_rules.specs.Nodes.{kind_at, operand_at}
use Rattle.reader_rules.specs.Promise.{At, Lower}
use Rattle.reader_rules.specs.Tree.{Lines, declaration}
use Rattle.reader_rules.specs.Decode.{expr_at, lines_from}
use Rattle.reader_rules.proofs.DepthLaws.{deeper}
use Rattle.reader_rules.proofs.TreeText.{text_kind, text_law, line_range, line_declaration, line_inclusion, include_law}
use Rattle.reader_rules.proofs.TreeLists.{lines_go, lines_end_lem}
use Rattle.evaluator_rules.specs.Outcomes.{Event, Outcome, done, stopped, ◌>>=◌, pure, after}
use Rattle.evaluator_rules.specs.Environment.{Environment}
use Rattle.evaluator_rules.specs.Operations.{as_set}
use Rattle.evaluator_rules.specs.Assignments.{Domains, no_more, domain, domains, assign}
use Rattle.evaluator_rules.specs.Rules.{eval_expr, eval_lines, stop_include}
use Rattle.evaluator_nodes.specs.Turns.{turn_at}
use Rattle.std.proofs.Common.{Result, Ok, Err}
use Rattle.reader_rules.specs.declared.Refusal.{Refusal}
use Rattle.evaluator_operations.specs.declared.worked.Flow.{Flow as Pace}
use Rattle.evaluator_operations.specs.Worked.{Holds, Told, fine, ceased, Flowed, Stops}
use Rattle.evaluator_scope.specs.Blocks.{field, Scoped, hidden, Pending, more, Pushed, Leaves, block_words}
use Rattle.evaluator_scope.specs.Blocks as Blocks
use Rattle.evaluator_nodes.specs.Ready.{Ready, Scoping, Assigns, SoFar, AssignTold, LinesTold, join_domains, lines_then}
use Rattle.evaluator_operations.proofs.ToldLaws.{after_told, go_told, halt_told, at_pure, at_stop}
use Rattle.evaluator_operations.proofs.OperationLaws.{held_tag, tag_set, tag_none}
use Rattle.evaluator_scope.proofs.BlockLaws.{same_less, scoped_same, pending_same}

-- ---- domains one after the other
join_none : (ds : Domains) → join_domains ds no_more ≡ ds
unfolding join_domains
join_none no_more = refl
join_none (domain i vs ds) = ap (domain i vs) (join_none ds)

join_domains_lem : (ids : List ℕ) (us : Values) (es : Domains) → domains ids us es ≡ join_domains (domains ids us no_more) es
unfolding domains join_domains
join_domains_lem [] us es = refl
join_domains_lem (i ∷ ids) us es = ap (domain i us) (join_domains_lem ids us es)

join_assoc : (ds es fs : Domains) → join_domains ds (join_domains es fs) ≡ join_domains (join_domains ds es) fs
unfolding join_domains
join_assoc no_more es fs = refl
join_assoc (domain i vs ds) es fs = ap (domain i vs) (join_assoc ds es fs)

pending_join : (w : List ℕ) (b m j : ℕ) {ds es : Domains} → Pending w b m ds → Pending w (b + m) j es → Pending w b (m + j) (join_domains ds es)
unfolding join_domains
pending_join w b zero j {ds} {es} Blocks.none q =
    let z : b + 0 ≡ b = omega arith in
    let y : j ≡ 0 + j = omega arith in
    subst (λ (x : ℕ). Pending w b x es) y (subst (λ (x : ℕ). Pending w x j es) z q)
pending_join w b (suc m) j {ds} {es} (more {ds = rest} e l s n p) q =
    let z : b + suc m ≡ suc b + m = omega arith in
    let y : suc (m + j) ≡ suc m + j = omega arith in
    subst (λ (x : ℕ). Pending w b x (join_domains ds es)) y (more e l s n (pending_join w (suc b) m j p (subst (λ (x : ℕ). Pending w x j es) z q)))

-- blocks that are not in scope
hide_more : (state w : List ℕ) (n j : ℕ) {scope : Environment} → Scoped state w n scope → ((i : ℕ) → n ≤ i → i < n + j → field w i 1 ≡ 0) → Scoped state w (n + j) scope
hide_more state w n zero {scope} sc h = let z : n ≡ n + 0 = omega arith in subst (λ (x : ℕ). Scoped state w x scope) z sc
hide_more state w n (suc j) {scope} sc h =
    let z : suc (n + j) ≡ n + suc j = omega arith in
    subst (λ (x : ℕ). Scoped state w x scope) z (hidden (hide_more state w n j sc (λ i p q. h i p (omega arith))) (h (n + j) (omega arith) (omega arith)))

-- ---- outcomes one after the other
told_after : {D A : Type 0} {R : D → A → Type 0} {r : Result D Refusal} (t : List Event) (o : Outcome A) → Told R r (after t o) → Told R r o
unfolding after
told_after t (done u a) (fine h) = fine h
told_after t (stopped u n k) (ceased a b c) = ceased a b c

stopped_after : {D C : Type 0} {R : D → C → Type 0} {r : Result D Refusal} {t u : List Event} {n k : ℕ} → Told R r (stopped t n k) → Told R r (stopped u n k)
stopped_after (ceased x y z) = ceased x y z

assoc_told : {D A B C : Type 0} {R : D → C → Type 0} {r : Result D Refusal} (o : Outcome A) (f : A → Outcome B) (g : B → Outcome C) → Told R r (o >>= λ a. f a >>= g) → Told R r (o >>= f >>= g)
unfolding ◌>>=◌ after
assoc_told {A = A} {B = B} {R = R} {r = r} (done t a) f g h = go (f a) (told_after t (f a >>= g) h)
  where
    go : (p : Outcome B) → Told R r (p >>= g) → Told R r (after t p >>= g)
    go (done u b) q = after_told _ (told_after u (g b) q)
    go (stopped u n k) q = stopped_after q
assoc_told (stopped t n k) f g (ceased x y z) = ceased x y z

stopped_same : {G : Values → Type 0} {r : Result Pace Refusal} {t : List Event} {f w : ℕ} → Told (Flowed G) r (stopped t f w) → Told (Flowed G) r (stopped t f w)
stopped_same h = h

join_told : (doc : List ℕ) (k : ℕ) (scope : Environment) (ds : Domains) (ids : List ℕ) (us : Values) {G : Values → Type 0} {r : Result Pace Refusal} (o : Outcome Domains) →
    Told (Flowed G) r (o >>= λ es. assign (join_domains (join_domains ds (domains ids us no_more)) es) (turn_at doc k) scope nil) →
    Told (Flowed G) r (o >>= (λ es. pure (domains ids us es)) >>= λ es. assign (join_domains ds es) (turn_at doc k) scope nil)
unfolding ◌>>=◌
join_told doc k scope ds ids us {G} {r} (done t es) h =
    assoc_told (done t es) (λ e. pure (domains ids us e)) (λ e. assign (join_domains ds e) (turn_at doc k) scope nil) (after_told t (at_pure (λ e. assign (join_domains ds e) (turn_at doc k) scope nil) (domains ids us es)
    (subst (λ (d : Domains). Told (Flowed G) r (assign d (turn_at doc k) scope nil)) (sym (ap (join_domains ds) (join_domains_lem ids us es) ∙ join_assoc ds (domains ids us no_more) es)) (told_after t (assign (join_domains (join_domains ds (domains ids us no_more)) es) (turn_at doc k) scope nil) h))))
join_told doc k scope ds ids us (stopped t f w) h = stopped_same h

-- ---- the lines from i on, before e
module _ (doc : List ℕ) (k t e i : ℕ) (state work : List ℕ) (n m : ℕ) (before' last : List ℕ) where
  pub lines_done : (after' : List ℕ) (r : Result Pace Refusal) → e ≤ i → Assigns n m work after' (AssignTold doc k state work n m before' last r) →
      Leaves n work after' (LinesTold doc k (lines_from doc t i (e - i)) state work n m before' last r)
  unfolding lines_then eval_lines
  lines_done after' r l a =
      record {
        kept = a.kept;
        told = λ scope sc sm ds p g.
            rw (lines_end_lem doc t e i l) (at_pure _ no_more (subst (λ (d : Domains). Told (Flowed (SoFar doc k last)) r (assign d (turn_at doc k) scope nil)) (sym (join_none ds)) (a.told scope sc ds p nil g)));
      }

  module _ (l : i < e) (v : ℕ) (x : v ≡ operand_at doc t i) (h : At doc lines v) where
    pub include_told : kind_at doc v ≡ 12 → (f : Refusal) → Stops f 54 v → LinesTold doc k (lines_from doc t i (e - i)) state work n m before' last (Err f)
    unfolding lines_then eval_lines stop_include
    include_told q r s scope sc sm ds p gs =
        rw (lines_go doc t e i l, ← x, line_inclusion doc v q (lines_from doc t (i + 1) (e - (i + 1))), (include_law doc lines v h q (operand_at doc v 3) refl).tree) (at_stop _ s (λ z. omega arith))

    module _ (q : kind_at doc v ≡ 12 → ⊥) where
      decl_kind : kind_at doc v ≡ 11
      decl_kind = let r = line_range doc v h in let a = r.0 in let b = r.1 in omega arith

      pub decl_operand : (a : ℕ) → a ≡ operand_at doc v 1 → Lower doc v expressions a
      decl_operand a y = (line_declaration doc v h decl_kind a y).first

      decl_tree : (a : ℕ) → a ≡ operand_at doc v 1 → lines_from doc t i (e - i) ≡ declaration v (expr_at doc a) (drop 2 (part doc v)) (lines_from doc t (i + 1) (e - (i + 1)))
      decl_tree a y = lines_go doc t e i l ∙ (rw (← x) ((line_declaration doc v h decl_kind a y).tree (lines_from doc t (i + 1) (e - (i + 1)))))

      pub decl_count : declared_count (lines_from doc t i (e - i)) ≡ length (part doc v) - 2 + declared_count (lines_from doc t (i + 1) (e - (i + 1)))
      unfolding declared_count
      decl_count = rw (decl_tree (operand_at doc v 1) refl) (ap (λ (j : ℕ). j + declared_count (lines_from doc t (i + 1) (e - (i + 1)))) (length-drop 2 (part doc v)))

      module _ (a : ℕ) (y : a ≡ operand_at doc v 1) where
        pub decl_stop : {f : Refusal} → ((scope : Environment) → Scoped state work (n + m) scope → Told Holds (Err f) (eval_expr (expr_at doc a) scope)) →
            LinesTold doc k (lines_from doc t i (e - i)) state work n m before' last (Err f)
        unfolding lines_then eval_lines
        decl_stop g scope sc sm ds p gs = rw (decl_tree a y) (assoc_told _ _ _ (halt_told _ (g scope sm)))

        pub decl_other : {hx' : Held} (f : Refusal) → ((scope : Environment) → Scoped state work (n + m) scope → Told Holds (Ok hx') (eval_expr (expr_at doc a) scope)) →
            (get_or hx'.words 0 0 ≡ 3 → ⊥) → Stops f 51 v → LinesTold doc k (lines_from doc t i (e - i)) state work n m before' last (Err f)
        unfolding lines_then eval_lines
        decl_other f g b s scope sc sm ds p gs =
            rw (decl_tree a y) (assoc_told _ _ _ (go_told (g scope sm) (λ u j. assoc_told _ _ _ (rw (tag_none v u (λ w. b (held_tag _ u j ∙ w))) (at_stop _ s (λ w. omega arith))))))

        pub decl_go : (w1 w2 : List ℕ) {hx' : Held} (r : Result Pace Refusal) → ((scope : Environment) → Scoped state work (n + m) scope → Told Holds (Ok hx') (eval_expr (expr_at doc a) scope)) →
            get_or hx'.words 0 0 ≡ 3 → take (block_words * (n + m)) w1 ≡ take (block_words * (n + m)) work →
            Pushed w1 w2 (n + m) (length (part doc v) - 2) ((us : Values) → Holds hx' (Value.set us) → Pending w2 (n + m) (length (part doc v) - 2) (domains (drop 2 (part doc v)) us no_more)) →
            LinesTold doc k (lines_from doc t (i + 1) (e - (i + 1))) state w2 n (m + (length (part doc v) - 2)) before' last r →
            LinesTold doc k (lines_from doc t i (e - i)) state work n m before' last r
        unfolding lines_then eval_lines as_set
        decl_go w1 w2 {hx'} r g b kept pushed more' scope sc sm ds p gs =
            rw (decl_tree a y) (assoc_told _ _ _ (go_told (g scope sm) (λ u j. assoc_told _ _ _ (member u j))))
          where
            ls : Lines
            ls = lines_from doc t (i + 1) (e - (i + 1))

            ids : List ℕ
            ids = drop 2 (part doc v)

            c : ℕ
            c = length (part doc v) - 2

            low : take (block_words * (n + m)) w2 ≡ take (block_words * (n + m)) work
            low = pushed.kept ∙ kept

            scoped2 : Scoped state w2 n scope
            scoped2 = scoped_same state work w2 n (same_less (block_words * (n + m)) work w2 low (block_words * n) (omega arith)) sc

            scopedm : Scoped state w2 (n + (m + c)) scope
            scopedm =
                let q' : n + m + c ≡ n + (m + c) = omega arith in
                subst (λ (y' : ℕ). Scoped state w2 y' scope) q' (hide_more state w2 (n + m) c (scoped_same state work w2 (n + m) low sm) pushed.hidden)

            rest : (us : Values) → Holds hx' (Value.set us) → Told (Flowed (SoFar doc k last)) r (eval_lines ls scope >>= λ es. assign (join_domains (join_domains ds (domains ids us no_more)) es) (turn_at doc k) scope nil)
            rest us hs = more' scope scoped2 scopedm (join_domains ds (domains ids us no_more)) (pending_join w2 n m c (pending_same work w2 n m low p) (pushed.told us hs)) gs

            member : (u : Value) → Holds hx' u → Told (Flowed (SoFar doc k last)) r (as_set v u >>= λ us. eval_lines ls scope >>= (λ es. pure (domains ids us es)) >>= λ es. assign (join_domains ds es) (turn_at doc k) scope nil)
            member u hu =
                let s = tag_set v u (sym (held_tag _ u hu) ∙ b) in
                rw s.1 (at_pure _ s.0 (join_told doc k scope ds ids s.0 (eval_lines ls scope) (rest s.0 (subst (Holds hx') s.1 hu))))

-- the expression of a Decl, with m blocks above those in scope
pub line_ready : {doc work : List ℕ} {n k : ℕ} (h : Scoping doc work n 6 k) (m t v a : ℕ) → m ≤ 6 → t ≡ operand_at doc k 1 → Lower doc t lines v → Lower doc v expressions a →
    (a < k) × Ready doc work expressions (n + m) a
line_ready {doc} {work} {n} {k} h m t v a f x lv la =
    let l : Lower doc k texts t = subst (Lower doc k texts) (sym x) h.text in
    let r = h.room in
    let d1 = deeper doc k texts t h.most l in
    let d2 = deeper doc t lines v l.at.most lv in
    let d3 = deeper doc v expressions a lv.at.most la in
    let b1 = l.below in
    let b2 = lv.below in
    let b3 = la.below in
    (omega arith, record { at = la.at; room = omega arith; wide = h.wide })

-- line i of the Text
pub line_at_lem : {doc work : List ℕ} {n m k : ℕ} (h : Scoping doc work n m k) (t : ℕ) → t ≡ operand_at doc k 1 → (u : List ℕ) → u ≡ part doc t → (i v : ℕ) → 2 ≤ i → i < length u → v ≡ get_or u i 0 →
    Lower doc t lines v × (v ≡ operand_at doc t i)
line_at_lem {doc} {work} {n} {m} {k} h t x u y i v a b z =
    let l : Lower doc k texts t = subst (Lower doc k texts) (sym x) h.text in
    let w : v ≡ operand_at doc t i = z ∙ ap (λ (j : List ℕ). get_or j i 0) y in
    ((text_law doc texts t l.at (text_kind doc t l.at) (operand_at doc t 1) refl).each i a (subst (λ (j : List ℕ). i < length j) y b) v w, w)

-- a Decl has an expression and an identifier
pub decl_words : (doc : List ℕ) (v : ℕ) → At doc lines v → (kind_at doc v ≡ 12 → ⊥) → 2 ≤ length (part doc v)
unfolding cell
decl_words doc v h q =
    let r = line_range doc v h in
    let a = r.0 in
    let b = r.1 in
    let e : kind_at doc v ≡ 11 = omega arith in
    let m : 2 < length (part doc v) = (rw e at (at_least doc lines v h)) in
    omega arith
