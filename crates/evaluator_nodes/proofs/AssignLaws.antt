-- Assignments over the blocks of the work area, and a Text's lines before them.
use mathlib.Core.Path.{◌≡◌, refl, sym, ap, subst, ◌∙◌}
use mathlib.Core.Bool.{Bool, true, false, true≢false}
use mathlib.Core.Logic.{inl, inr, ⊎_elim}
use mathlib.Core.List.{List, [], ◌∷◌}
use Prim.Native.Nat.{ℕ, zero, suc, ◌+◌, ◌*◌, ◌-◌, ◌≤◌, ◌<◌}
use native.Mathlib.Omega.{arith}
use native.Mathlib.Numerals.{add-one}
use lib.ListN.{length, get_or, take, drop}
use lib.Seq.{drop-drop, get_or-drop}
use borrow.Author.Tests.{eq-eqb, ne_eqb}
use Rattle.layout.specs.Layout.{part}
use Rattle.values.specs.Value.{Value, Values, nil, count, encode, encodes}
use Rattle.values.specs.declared.held.Held.{Held}
use Rattle.reader_rules.specs.Kinds.{expressions, predicates, texts}
use Rattle.reader_rules.specs.Limited.{declared_count, text_declares}
use Rattle.reader_rules.specs.Nodes.{kind_at, operand_at}
use Rattle.reader_rules.specs.Promise.{Lower}
use Rattle.reader_rules.specs.Tree.{Quantifier, forall, exists}
use Rattle.reader_rules.specs.Decode.{expr_at, pred_at, lines_from, quantifier_of}
use Rattle.reader_rules.proofs.DepthLaws.{deeper}
use Rattle.reader_rules.proofs.WithinLimits.{depth_bound}
use Rattle.reader_rules.proofs.NameCounts.{text_few}
use Rattle.reader_rules.proofs.TreeExpr.{expr_comprehension}
use Rattle.reader_rules.proofs.TreePred.{pred_quantified}
use Rattle.reader_rules.proofs.TreeText.{text_kind, text_law}
use Rattle.evaluator_rules.specs.Outcomes.{Outcome, ◌>>=◌, pure, keep, after}
use Rattle.evaluator_rules.specs.Environment.{Environment}
use Rattle.evaluator_rules.specs.Operations.{add}
use Rattle.evaluator_rules.specs.Assignments.{Domains, no_more, domain, Body, Flow, go, halt, assign, flow_of, truth_of, gathered}
use Rattle.evaluator_rules.specs.Rules.{eval_expr, eval_pred, eval_lines, over_text}
use Rattle.evaluator_nodes.specs.Turns.{body_if, body_at, turn_at}
use Rattle.evaluator_operations.specs.Steps.{verdict_of}
use Rattle.std.proofs.Common.{Result, Ok, Err}
use Rattle.reader_rules.specs.declared.Refusal.{Refusal}
use Rattle.evaluator_operations.specs.declared.worked.Flow.{Flow as Pace}
use Rattle.evaluator_operations.specs.declared.worked.Flow.TheVariants.{Go, Halt}
use Rattle.evaluator_operations.specs.Worked.{narrow, Holds, Told, fine, Judged, Flowed, SetIn, Grown}
use Rattle.evaluator_scope.specs.Blocks.{field, Lies, Stored, in_work, Scoped, hidden, named, Pending, more, headed, Pushed, Leaves, head_words, block_words}
use Rattle.evaluator_scope.specs.Blocks as Blocks
use Rattle.evaluator_nodes.specs.Ready.{Ready, Handed, Scoping, RestIn, join_domains, lines_then, Assigns, SoFar, AssignTold, EachTold, BodyTold}
use Rattle.evaluator_operations.proofs.ToldLaws.{go_told, halt_told, choose_told}
use Rattle.evaluator_operations.proofs.OperationLaws.{keep_fine}
use Rattle.evaluator_nodes.proofs.NodeLaws.{in_words, few_words}

-- ---- a quantifier or Comprehension
module _ {doc work : List ℕ} {n m k : ℕ} (h : Scoping doc work n m k) where
  pub scoping_same : (u : List ℕ) → length u ≡ length work → Scoping doc u n m k
  scoping_same u e = let w = h.wide in record { node = h.node; small = h.small; most = h.most; text = h.text; few = h.few; room = h.room; wide = omega arith }

  pub scoping_shift : (a b : ℕ) → a + b ≤ n + m → b ≤ 6 → Scoping doc work a b k
  scoping_shift a b l f = let r = h.room in record { node = h.node; small = h.small; most = h.most; text = h.text; few = f; room = omega arith; wide = h.wide }

  pub body_expr : kind_at doc k ≡ 46 → (b : ℕ) → b ≡ operand_at doc k 2 → Lower doc k expressions b
  body_expr q b x =
      ⊎_elim (λ e. (expr_comprehension doc k e.0 q (operand_at doc k 1) b refl x).right) (λ e. absurd (omega (arith, e.1, e.2))) h.node

  pub body_pred : (kind_at doc k ≡ 46 → ⊥) → (b : ℕ) → b ≡ operand_at doc k 2 → Lower doc k predicates b
  body_pred q b x = ⊎_elim (λ e. absurd (q e.1)) (λ e. (pred_quantified doc k e.0 (kind_at doc k) refl e.1 e.2 (operand_at doc k 1) b refl x).right) h.node

  pub body_ready : (s v : ℕ) → Lower doc k s v → Ready doc work s (n + m) v
  body_ready s v l =
      let r = h.room in
      let d = deeper doc k s v h.most l in
      record { at = l.at; room = omega (arith, depth_bound doc s v l.at); wide = h.wide }

  -- the Text's predicate
  pub text_pred : (t a : ℕ) → t ≡ operand_at doc k 1 → a ≡ operand_at doc t 1 → (a < k) × Ready doc work predicates (n + m) a
  text_pred t a x y =
      let l : Lower doc k texts t = subst (Lower doc k texts) (sym x) h.text in
      let p = (text_law doc texts t l.at (text_kind doc t l.at) a y).first in
      let r = h.room in
      let b = l.below in
      let c = p.below in
      let d = deeper doc k texts t h.most l in
      let e = deeper doc t predicates a l.at.most p in
      (omega arith, record { at = p.at; room = omega arith; wide = h.wide })

-- ---- one assignment
module _ (doc : List ℕ) (k a : ℕ) (x : a ≡ operand_at doc (operand_at doc k 1) 1) (scope : Environment) (vs : Values) where
  pub turn_stop : {G : Values → Type 0} {f : Refusal} → Told Judged (Err f) (eval_pred (pred_at doc a) scope) → Told (Flowed G) (Err f) (turn_at doc k scope vs)
  unfolding turn_at
  turn_stop t = rw (← x) (halt_told _ t)

  pub turn_true : {G : Values → Type 0} {b : Bool} {s : Result Pace Refusal} → Told Judged (Ok b) (eval_pred (pred_at doc a) scope) → b ≡ true → Told (Flowed G) s (body_at doc k scope vs) →
      Told (Flowed G) s (turn_at doc k scope vs)
  unfolding turn_at
  turn_true t b g = rw (← x) (go_told t (λ y j. choose_told y (λ w. g) (λ w. absurd (true≢false (sym b ∙ j ∙ w)))))

  pub turn_false : {G : Values → Type 0} {b : Bool} → Told Judged (Ok b) (eval_pred (pred_at doc a) scope) → b ≡ false → G vs → Told (Flowed G) (Ok Go) (turn_at doc k scope vs)
  unfolding turn_at
  turn_false t b g = rw (← x) (go_told t (λ u j. choose_told u (λ w. absurd (true≢false (sym w ∙ sym j ∙ b))) (λ w. fine (refl, g))))

flow_halt : (G : Values → Type 0) (q : Quantifier) (b : Bool) → true ≡ verdict_of q b → Flowed G Halt (flow_of q b)
unfolding verdict_of flow_of
flow_halt G forall true e = absurd (true≢false e)
flow_halt G forall false e = refl
flow_halt G exists true e = refl
flow_halt G exists false e = absurd (true≢false e)

flow_go : (G : Values → Type 0) (q : Quantifier) (b : Bool) → false ≡ verdict_of q b → G nil → Flowed G Go (flow_of q b)
unfolding verdict_of flow_of
flow_go G forall true e g = (refl, g)
flow_go G forall false e g = absurd (true≢false (sym e))
flow_go G exists true e g = absurd (true≢false (sym e))
flow_go G exists false e g = (refl, g)

grown_flow : {doc : List ℕ} {k : ℕ} {u : List ℕ} {d : Unit {0}} {o : Outcome Values} → Told (Grown u) (Ok d) o → Told (Flowed (SoFar doc k u)) (Ok Go) (o >>= λ us. pure (go us))
unfolding ◌>>=◌ after
grown_flow (fine {a = us} g) = fine {a = go us} (refl, record { gathers = λ q. g })

module _ (doc : List ℕ) (k b : ℕ) (x : b ≡ operand_at doc k 2) (scope : Environment) (vs : Values) where
  pub gather_stop : {G : Values → Type 0} → kind_at doc k ≡ 46 → {f : Refusal} → Told Holds (Err f) (eval_expr (expr_at doc b) scope) → Told (Flowed G) (Err f) (body_at doc k scope vs)
  unfolding body_at body_if
  gather_stop q t = rw (eq-eqb (kind_at doc k) 46 q, ← x) (halt_told _ t)

  pub gather_over : {G : Values → Type 0} {u : List ℕ} → kind_at doc k ≡ 46 → {h : Held} {f : Refusal} → Told Holds (Ok h) (eval_expr (expr_at doc b) scope) →
      ((v : Value) → Holds h v → Told (Grown u) (Err f) (add k v vs)) → Told (Flowed G) (Err f) (body_at doc k scope vs)
  unfolding body_at body_if
  gather_over q t g = rw (eq-eqb (kind_at doc k) 46 q, ← x) (go_told t (λ v j. halt_told _ (g v j)))

  pub gather_go : {u : List ℕ} → kind_at doc k ≡ 46 → {h : Held} {d : Unit {0}} → Told Holds (Ok h) (eval_expr (expr_at doc b) scope) →
      ((v : Value) → Holds h v → Told (Grown u) (Ok d) (add k v vs)) → Told (Flowed (SoFar doc k u)) (Ok Go) (body_at doc k scope vs)
  unfolding body_at body_if
  gather_go q t g = rw (eq-eqb (kind_at doc k) 46 q, ← x) (go_told t (λ v j. grown_flow (g v j)))

  pub decide_stop : {G : Values → Type 0} → (kind_at doc k ≡ 46 → ⊥) → {f : Refusal} → Told Judged (Err f) (eval_pred (pred_at doc b) scope) → Told (Flowed G) (Err f) (body_at doc k scope vs)
  unfolding body_at body_if
  decide_stop q t = rw (ne_eqb (kind_at doc k) 46 q, ← x) (halt_told _ t)

  pub decide_halt : {u : List ℕ} → (kind_at doc k ≡ 46 → ⊥) → {c : Bool} → Told Judged (Ok c) (eval_pred (pred_at doc b) scope) → true ≡ verdict_of (quantifier_of (kind_at doc k)) c →
      Told (Flowed (SoFar doc k u)) (Ok Halt) (body_at doc k scope vs)
  unfolding body_at body_if
  decide_halt {u} q t f =
      rw (ne_eqb (kind_at doc k) 46 q, ← x)
      (go_told t (λ v j. fine (flow_halt (SoFar doc k u) (quantifier_of (kind_at doc k)) v (f ∙ ap (verdict_of (quantifier_of (kind_at doc k))) j))))

  pub decide_go : {u : List ℕ} → (kind_at doc k ≡ 46 → ⊥) → {c : Bool} → Told Judged (Ok c) (eval_pred (pred_at doc b) scope) → false ≡ verdict_of (quantifier_of (kind_at doc k)) c →
      Told (Flowed (SoFar doc k u)) (Ok Go) (body_at doc k scope vs)
  unfolding body_at body_if
  decide_go {u} q t f =
      rw (ne_eqb (kind_at doc k) 46 q, ← x)
      (go_told t (λ v j. fine (flow_go (SoFar doc k u) (quantifier_of (kind_at doc k)) v (f ∙ ap (verdict_of (quantifier_of (kind_at doc k))) j) (record { gathers = λ e. absurd (q e) }))))

-- ---- the assignments, then the verdict or the set
pub go_not_halt : Go ≡ Halt → ⊥
go_not_halt e = cc

halt_verdict : (G : Values → Type 0) (q : Quantifier) (f : Flow) → Flowed G Halt f → verdict_of q true ≡ truth_of q f
unfolding verdict_of truth_of
halt_verdict G q (go vs) g = absurd (go_not_halt (sym g.0))
halt_verdict G forall halt g = refl
halt_verdict G exists halt g = refl

go_verdict : (G : Values → Type 0) (q : Quantifier) (f : Flow) → Flowed G Go f → verdict_of q false ≡ truth_of q f
unfolding verdict_of truth_of
go_verdict G forall (go vs) g = refl
go_verdict G exists (go vs) g = refl
go_verdict G q halt g = absurd (go_not_halt g)

module _ {doc work w : List ℕ} {n k : ℕ} (scope : Environment) (t : ℕ) (x : t ≡ get_or w 1 0) where
  module _ (h : Handed doc work w predicates n k) (c : 28 ≤ kind_at doc k) (d : kind_at doc k ≤ 29) where
    pub quant_scoping : Scoping doc work n 6 k
    quant_scoping =
        let l = pred_quantified doc k h.ready.at (kind_at doc k) refl c d (operand_at doc k 1) (operand_at doc k 2) refl refl in
        let r = h.ready.room in
        let b = deeper doc k texts (operand_at doc k 1) h.ready.at.most l.left in
        record { node = inr (h.ready.at, c, d); small = h.ready.at.small; most = h.ready.at.most; text = l.left; few = omega arith; room = omega (arith, depth_bound doc texts _ l.left.at); wide = h.ready.wide }

    quant_body : body_at doc k ≡ body_if false doc k
    unfolding body_at
    quant_body = ap (λ (j : Bool). body_if j doc k) (ne_eqb (kind_at doc k) 46 (λ e. omega arith))

    quant_by : Body → Outcome Bool
    quant_by body =
        (eval_lines (lines_from doc (operand_at doc k 1) 2 (length (part doc (operand_at doc k 1)) - 2)) scope >>= λ es. assign es (λ scope' s'. eval_pred (pred_at doc (operand_at doc (operand_at doc k 1) 1)) scope' >>= λ b. elim b [ true ↦ body scope' s' | false ↦ pure (go s') ]) scope nil)
        >>= λ f. pure (truth_of (quantifier_of (kind_at doc k)) f)

    quant_tree : eval_pred (pred_at doc k) scope ≡ quant_by (body_if false doc k)
    unfolding eval_pred over_text body_if quant_by
    quant_tree =
        let l = pred_quantified doc k h.ready.at (kind_at doc k) refl c d (operand_at doc k 1) (operand_at doc k 2) refl refl in
        let t = operand_at doc k 1 in
        rw (l.tree, (text_law doc texts t l.left.at (text_kind doc t l.left.at) (operand_at doc t 1) refl).tree)

    quant_lines : eval_pred (pred_at doc k) scope ≡ (lines_then doc k (lines_from doc t 2 (length (part doc t) - 2)) no_more scope >>= λ f. pure (truth_of (quantifier_of (kind_at doc k)) f))
    unfolding lines_then join_domains turn_at quant_by
    quant_lines =
        subst (λ (j : ℕ). eval_pred (pred_at doc k) scope ≡ (lines_then doc k (lines_from doc j 2 (length (part doc j) - 2)) no_more scope >>= λ f. pure (truth_of (quantifier_of (kind_at doc k)) f)))
        (sym (in_words h 1 t x)) (quant_tree ∙ ap quant_by (sym quant_body))

    pub quant_stop : {G : Values → Type 0} {f : Refusal} → Told (Flowed G) (Err f) (lines_then doc k (lines_from doc t 2 (length (part doc t) - 2)) no_more scope) → Told Judged (Err f) (eval_pred (pred_at doc k) scope)
    quant_stop {f = f} g = subst (Told Judged (Err f)) (sym quant_lines) (halt_told _ g)

    module _ {G : Values → Type 0} {b : Bool} where
      pub quant_halt : Told (Flowed G) (Ok Halt) (lines_then doc k (lines_from doc t 2 (length (part doc t) - 2)) no_more scope) → b ≡ verdict_of (quantifier_of (kind_at doc k)) true →
          Told Judged (Ok b) (eval_pred (pred_at doc k) scope)
      quant_halt g e = subst (Told Judged (Ok b)) (sym quant_lines) (go_told g (λ u j. fine (e ∙ halt_verdict G (quantifier_of (kind_at doc k)) u j)))

      pub quant_go : Told (Flowed G) (Ok Go) (lines_then doc k (lines_from doc t 2 (length (part doc t) - 2)) no_more scope) → b ≡ verdict_of (quantifier_of (kind_at doc k)) false →
          Told Judged (Ok b) (eval_pred (pred_at doc k) scope)
      quant_go g e = subst (Told Judged (Ok b)) (sym quant_lines) (go_told g (λ u j. fine (e ∙ go_verdict G (quantifier_of (kind_at doc k)) u j)))

  module _ (h : Handed doc work w expressions n k) (q : kind_at doc k ≡ 46) where
    pub compr_scoping : Scoping doc work n 6 k
    compr_scoping =
        let l = expr_comprehension doc k h.ready.at q (operand_at doc k 1) (operand_at doc k 2) refl refl in
        let r = h.ready.room in
        let b = deeper doc k texts (operand_at doc k 1) h.ready.at.most l.left in
        record { node = inl (h.ready.at, q); small = h.ready.at.small; most = h.ready.at.most; text = l.left; few = omega arith; room = omega (arith, depth_bound doc texts _ l.left.at); wide = h.ready.wide }

    compr_body : body_at doc k ≡ body_if true doc k
    unfolding body_at
    compr_body = ap (λ (j : Bool). body_if j doc k) (eq-eqb (kind_at doc k) 46 q)

    compr_by : Body → Outcome Value
    compr_by body =
        (eval_lines (lines_from doc (operand_at doc k 1) 2 (length (part doc (operand_at doc k 1)) - 2)) scope >>= λ es. assign es (λ scope' s'. eval_pred (pred_at doc (operand_at doc (operand_at doc k 1) 1)) scope' >>= λ b. elim b [ true ↦ body scope' s' | false ↦ pure (go s') ]) scope nil)
        >>= λ f. keep k (Value.set (gathered f))

    compr_tree : eval_expr (expr_at doc k) scope ≡ compr_by (body_if true doc k)
    unfolding eval_expr over_text body_if compr_by
    compr_tree =
        let l = expr_comprehension doc k h.ready.at q (operand_at doc k 1) (operand_at doc k 2) refl refl in
        let t = operand_at doc k 1 in
        rw (l.tree, (text_law doc texts t l.left.at (text_kind doc t l.left.at) (operand_at doc t 1) refl).tree)

    compr_lines : eval_expr (expr_at doc k) scope ≡ (lines_then doc k (lines_from doc t 2 (length (part doc t) - 2)) no_more scope >>= λ f. keep k (Value.set (gathered f)))
    unfolding lines_then join_domains turn_at compr_by
    compr_lines =
        subst (λ (j : ℕ). eval_expr (expr_at doc k) scope ≡ (lines_then doc k (lines_from doc j 2 (length (part doc j) - 2)) no_more scope >>= λ f. keep k (Value.set (gathered f))))
        (sym (in_words h 1 t x)) (compr_tree ∙ ap compr_by (sym compr_body))

    pub compr_stop : {G : Values → Type 0} {f : Refusal} → Told (Flowed G) (Err f) (lines_then doc k (lines_from doc t 2 (length (part doc t) - 2)) no_more scope) → Told Holds (Err f) (eval_expr (expr_at doc k) scope)
    compr_stop {f = f} g = subst (Told Holds (Err f)) (sym compr_lines) (halt_told _ g)

    keep_halt : (G : Values → Type 0) {a : Held} (f : Flow) → Flowed G Halt f → Holds a (Value.set nil) → Told Holds (Ok a) (keep k (Value.set (gathered f)))
    unfolding gathered
    keep_halt G (go vs) j e = absurd (go_not_halt (sym j.0))
    keep_halt G halt j e = keep_fine k (Value.set nil) e

    keep_go : {u : List ℕ} {a : Held} (f : Flow) → Flowed (SoFar doc k u) Go f → ((vs : Values) → SetIn u vs → Holds a (Value.set vs)) → Told Holds (Ok a) (keep k (Value.set (gathered f)))
    unfolding gathered
    keep_go (go vs) j b = keep_fine k (Value.set vs) (b vs (j.1.gathers q))
    keep_go halt j b = absurd (go_not_halt j)

    module _ {u : List ℕ} {a : Held} where
      pub compr_halt : Told (Flowed (SoFar doc k u)) (Ok Halt) (lines_then doc k (lines_from doc t 2 (length (part doc t) - 2)) no_more scope) → Holds a (Value.set nil) → Told Holds (Ok a) (eval_expr (expr_at doc k) scope)
      compr_halt g e = subst (Told Holds (Ok a)) (sym compr_lines) (go_told g (λ f j. keep_halt _ f j e))

      pub compr_go : Told (Flowed (SoFar doc k u)) (Ok Go) (lines_then doc k (lines_from doc t 2 (length (part doc t) - 2)) no_more scope) → ((vs : Values) → SetIn u vs → Holds a (Value.set vs)) →
          Told Holds (Ok a) (eval_expr (expr_at doc k) scope)
      compr_go g b = subst (Told Holds (Ok a)) (sym compr_lines) (go_told g (λ f j. keep_go f j b))

-- the Text's identifiers are few
pub few_declared : {doc work : List ℕ} {n m k : ℕ} → Scoping doc work n m k → (t : ℕ) → t ≡ operand_at doc k 1 → declared_count (lines_from doc t 2 (length (part doc t) - 2)) ≤ 6
unfolding text_declares
few_declared {doc} {work} {n} {m} {k} h t x =
    let l : Lower doc k texts t = subst (Lower doc k texts) (sym x) h.text in
    let q = text_kind doc t l.at in
    rw (text_law doc texts t l.at q (operand_at doc t 1) refl).tree at (text_few doc texts t l.at q)

-- what the lines of a Text ask at their beginning
pub lines_start : {doc work : List ℕ} {n k : ℕ} → (h : Scoping doc work n 6 k) → (t : ℕ) (v : List ℕ) → t ≡ operand_at doc k 1 → v ≡ part doc t →
    Scoping doc work n 6 k × (t ≡ operand_at doc k 1) × (v ≡ part doc t) × (2 ≤ 2) × (length v ≤ 256) × (0 + declared_count (lines_from doc t 2 (length v - 2)) ≤ 6)
lines_start {doc} {work} {n} {k} h t v x y =
    let l : Lower doc k texts t = subst (Lower doc k texts) (sym x) h.text in
    let f = few_words doc texts t l.at in
    let d = few_declared h t x in
    (h, x, y, omega arith, rw y f, rw y (omega arith))

-- ---- no identifier more
pending_none : {w : List ℕ} {b : ℕ} {ds : Domains} → Pending w b 0 ds → ds ≡ no_more
pending_none Blocks.none = refl

still_none : (w : List ℕ) {u : List ℕ} {b : ℕ} {ds : Domains} → Pending u b 0 ds → Pending w b 0 ds
still_none w Blocks.none = Blocks.none

pub assigns_none : (doc state before after : List ℕ) (n m k : ℕ) (s s1 : List ℕ) (r : Result Pace Refusal) → m ≡ 0 → Leaves n before after (BodyTold doc k (turn_at doc k) state before n s s1 r) →
    Assigns n m before after (AssignTold doc k state before n m s s1 r)
unfolding assign
assigns_none doc state before after n zero k s s1 r e g =
    record {
      kept = g.kept;
      pends = λ ds p. still_none after p;
      told = λ scope sc ds p vs h. subst (λ (d : Domains). Told (Flowed (SoFar doc k s1)) r (assign d (turn_at doc k) scope vs)) (sym (pending_none p)) (g.told scope sc vs h);
    }
assigns_none doc state before after n (suc m) k s s1 r e g = absurd (omega arith)

-- ---- the members of a block's set
two_off : (n x y : ℕ) (zs L : List ℕ) → take (suc (suc n)) L ≡ x ∷ y ∷ zs → (take n (drop 2 L) ≡ zs) × (get_or L 1 0 ≡ y)
two_off n x y zs [] e = let q : ◌≡◌ {A = ℕ} 0 1 = cc in absurd (omega arith)
two_off n x y zs (a ∷ []) e = absurd (omega (arith, ap length e))
two_off n x y zs (a ∷ b ∷ L) e = (cc, cc)

rest_block : (w : List ℕ) (b c : ℕ) (us : Values) → Lies w (block_words * b + head_words) (encode (Value.set us)) → length (encode (Value.set us)) ≤ 64 → narrow (Value.set us) ≡ true → c ≡ get_or w (block_words * b + 5) 0 → RestIn w b 2 c us
unfolding encode narrow
rest_block w b c us l s n e =
    let p = two_off (length (encodes us)) 3 (count us) (encodes us) (drop (block_words * b + head_words) w) l in
    let q : block_words * b + head_words + 2 ≡ block_words * b + (4 + 2) = omega arith in
    let r : block_words * b + head_words + 1 ≡ block_words * b + 5 = omega arith in
    record {
      lies = ap (λ (x : List ℕ). take (length (encodes us)) x) (ap (λ (j : ℕ). drop j w) (sym q) ∙ sym (drop-drop 2 (block_words * b + head_words) w)) ∙ p.0;
      short = omega arith;
      counted = sym (e ∙ ap (λ (j : ℕ). get_or w j 0) (sym r) ∙ sym (get_or-drop (block_words * b + head_words) w 1 0) ∙ p.1);
      narrow = n;
    }

pub assigns_some : (doc state before after : List ℕ) (n m k c : ℕ) (s s1 : List ℕ) (r : Result Pace Refusal) → (m ≡ 0 → ⊥) → c ≡ get_or before (block_words * n + 5) 0 →
    Assigns n (m - 1 + 1) before after (EachTold doc k state before n (m - 1) 2 c s s1 r) → Assigns n m before after (AssignTold doc k state before n m s s1 r)
unfolding assign
assigns_some doc state before after n zero k c s s1 r e x g = absurd (e refl)
assigns_some doc state before after n (suc m) k c s s1 r e x g =
    let q : suc m - 1 ≡ m = omega arith in
    next_of (subst (λ (j : ℕ). Assigns n (j + 1) before after (EachTold doc k state before n j 2 c s s1 r)) q g)
  where
    next_of : Assigns n (m + 1) before after (EachTold doc k state before n m 2 c s s1 r) → Assigns n (suc m) before after (AssignTold doc k state before n (suc m) s s1 r)
    next_of f =
        record {
          kept = f.kept;
          pends = λ ds p. subst (λ (j : ℕ). Pending after n j ds) (add-one m) (f.pends ds (subst (λ (j : ℕ). Pending before n j ds) (sym (add-one m)) p));
          told = λ scope sc ds p vs h. pick scope sc ds p vs h;
        }
      where
        pick : (scope : Environment) → Scoped state before n scope → (ds : Domains) → Pending before n (suc m) ds → (vs : Values) → SoFar doc k s vs → Told (Flowed (SoFar doc k s1)) r (assign ds (turn_at doc k) scope vs)
        pick scope sc no_more p vs h = elim p [ ]
        pick scope sc (domain i us ds) (more a l b d p) vs h = f.told scope sc i us ds (more a l b d p) us (rest_block before n c us l b d x) vs h
