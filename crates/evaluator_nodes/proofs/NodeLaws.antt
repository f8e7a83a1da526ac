-- The evaluation rules over nodes: what each kind's function makes of its operands.
use mathlib.Core.Path.{◌≡◌, refl, sym, ap, subst, ◌∙◌}
use mathlib.Core.Bool.{Bool, true, false, not, ◌&&◌}
use mathlib.Core.List.{List, [], ◌∷◌, ◌++◌, append_assoc, append-nil}
use Prim.Native.Nat.{ℕ, zero, suc, ◌+◌, ◌*◌, ◌-◌, ◌≤◌, ◌<◌}
use native.Mathlib.Omega.{arith}
use lib.Dec.{leb}
use Rattle.words.proofs.Loops.{and_left, and_right}
use lib.ListN.{length, get_or}
use borrow.Author.Tests.{leb-true}
use Rattle.layout.specs.Layout.{part}
use Rattle.values.specs.Value.{Value, Values, nil, cons, encode, encodes}
use Rattle.values.specs.Value as Value
use Rattle.values.specs.Held.{keep as words}
use Rattle.values.specs.declared.held.Held.{Held}
use Rattle.reader_rules.specs.Kinds.{cell, table, columns, expressions, predicates}
use Rattle.reader_rules.specs.Nodes.{kind_at, operand_at}
use Rattle.reader_rules.specs.Promise.{At, Lower}
use Rattle.reader_rules.specs.Tree.{Exprs, reference, connected, Connective, and, or, implies}
use Rattle.values.specs.SetValues.{same_value}
use Rattle.reader_rules.specs.Decode.{expr_at, pred_at, exprs_from, connective_of, members_of, relation_of}
use Rattle.reader_rules.proofs.DepthLaws.{deeper}
use Rattle.reader_rules.proofs.TreeCounts.{at_least, at_most}
use Rattle.reader_rules.proofs.TreeExpr.{expr_reference, expr_members, expr_power, expr_application, expr_arithmetic}
use Rattle.reader_rules.proofs.TreePred.{pred_relation, pred_not, pred_connected}
use Rattle.reader_rules.proofs.TreeLists.{exprs_go, exprs_end}
use Rattle.evaluator_rules.specs.Outcomes.{Outcome, ◌>>=◌, pure, stop, keep}
use Rattle.evaluator_rules.specs.Outcomes as Outcomes
use Rattle.evaluator_rules.specs.Environment.{Environment, lookup, refer, has_actuals}
use Rattle.evaluator_rules.specs.Operations.{add, connect}
use Rattle.evaluator_rules.specs.Rules.{eval_expr, eval_exprs, eval_members, eval_pred, test}
use Rattle.evaluator_operations.specs.Steps.{arithmetic_of, at_most_of, image_of, decision_of}
use Rattle.std.proofs.Common.{Some, None, Result, Ok, Err}
use Rattle.reader_rules.specs.declared.Refusal.{Refusal}
use Rattle.evaluator_operations.specs.Worked.{narrow, Holds, Told, fine, ceased, Judged, SetIn, Grown, Joined}
use Rattle.evaluator_nodes.specs.Ready.{Ready, Handed, Operands}
use Rattle.evaluator_operations.proofs.ToldLaws.{go_told, halt_told, at_pure}
use Rattle.evaluator_operations.proofs.OperationLaws.{keep_fine, narrow_cons}
use Rattle.evaluator_operations.proofs.EnumerationLaws.{some_not_none}

abbrev all_below : ℕ → List ℕ → Bool
all_below m [] = true
all_below m (x ∷ l) = leb x m && all_below m l

-- ---- room
pub ready_same : {doc work : List ℕ} {s n k : ℕ} (u : List ℕ) → length u ≡ length work → Ready doc work s n k → Ready doc u s n k
ready_same u e r = let w = r.wide in record { at = r.at; room = r.room; wide = omega arith }

pub ready_lower : {doc work : List ℕ} {s n k : ℕ} (u : List ℕ) (t v : ℕ) → length u ≡ length work → Ready doc work s n k → Lower doc k t v → Ready doc u t n v
ready_lower {doc} {work} {s} {n} {k} u t v e r l =
    let w = r.wide in
    let m = r.room in
    record { at = l.at; room = omega (arith, deeper doc k t v r.at.most l); wide = omega arith }

-- a node has at most 256 words
below : (m : ℕ) (l : List ℕ) → all_below m l ≡ true → (i : ℕ) → get_or l i 0 ≤ m
below m [] e i = omega arith
below m (x ∷ l) e zero = leb-true x m (and_left (leb x m) _ e)
below m (x ∷ l) e (suc i) = below m l (and_right (leb x m) _ e) i

small_rows : (q : ℕ) → get_or table (columns * q + 1) 0 ≤ 256
small_rows q = below 256 table refl (columns * q + 1)

pub few_words : (doc : List ℕ) (s k : ℕ) → At doc s k → length (part doc k) ≤ 256
unfolding cell
few_words doc s k h = omega (arith, at_most doc s k h, small_rows (kind_at doc k))

-- ---- expressions one after the other
-- one stops, whatever is to be told of their values
pub exprs_stop : {C : Type 0} {R : C → Values → Type 0} (doc : List ℕ) (k e i : ℕ) (scope : Environment) {f : Refusal} (a : ℕ) → a ≡ operand_at doc k i → i < e → Told Holds (Err f) (eval_expr (expr_at doc a) scope) →
    Told R (Err f) (eval_exprs (exprs_from doc k i (e - i)) scope)
unfolding eval_exprs
exprs_stop doc k e i scope a x h t = rw (exprs_go doc k e i h, ← x) (halt_told _ t)

module _ (doc : List ℕ) (k e i : ℕ) (scope : Environment) (ws : List ℕ) where
  pub parts_end : {s : Held} → e ≤ i → s ≡ words ws → Told (Joined ws (e - i)) (Ok s) (eval_exprs (exprs_from doc k i (e - i)) scope)
  unfolding eval_exprs narrow Value.count encodes
  parts_end h b =
      let m : 0 ≡ e - i = omega arith in
      rw (exprs_end doc k e i h) (fine (record { counted = m; words = b ∙ ap words (sym (append-nil ws)); narrow = refl }))

  more_joined : {r : Result Held Refusal} (v : Value) {o : Outcome Values} → narrow v ≡ true → i < e → Told (Joined (ws ++ encode v) (e - (i + 1))) r o → Told (Joined ws (e - i)) r (o >>= λ vs. pure (cons v vs))
  unfolding ◌>>=◌ Outcomes.after encodes Value.count
  more_joined v n h (fine {a = a} j) =
      let m = j.counted in
      fine {a = cons v a} (record { counted = omega arith; words = j.words ∙ ap words (append_assoc ws (encode v) (encodes a)); narrow = narrow_cons v a n j.narrow })
  more_joined v n h (ceased a b c) = ceased a b c

  pub parts_go : {hx : Held} {r : Result Held Refusal} (a : ℕ) → a ≡ operand_at doc k i → i < e → Told Holds (Ok hx) (eval_expr (expr_at doc a) scope) →
      ((v : Value) → Holds hx v → Told (Joined (ws ++ encode v) (e - (i + 1))) r (eval_exprs (exprs_from doc k (i + 1) (e - (i + 1))) scope)) →
      Told (Joined ws (e - i)) r (eval_exprs (exprs_from doc k i (e - i)) scope)
  unfolding eval_exprs
  parts_go a x h t g = rw (exprs_go doc k e i h, ← x) (go_told t (λ v j. more_joined v j.narrow h (g v j)))

-- ---- members, each added as it is worked out
module _ (doc : List ℕ) (k e i : ℕ) (scope : Environment) (vs : Values) where
  pub adds_end : {u : List ℕ} {d : Unit {0}} → e ≤ i → SetIn u vs → Told (Grown u) (Ok d) (eval_members (exprs_from doc k i (e - i)) k scope vs)
  unfolding eval_members
  adds_end h g = rw (exprs_end doc k e i h) (fine g)

  pub adds_stop : {u : List ℕ} {f : Refusal} (a : ℕ) → a ≡ operand_at doc k i → i < e → Told Holds (Err f) (eval_expr (expr_at doc a) scope) →
      Told (Grown u) (Err f) (eval_members (exprs_from doc k i (e - i)) k scope vs)
  unfolding eval_members
  adds_stop a x h t = rw (exprs_go doc k e i h, ← x) (halt_told _ t)

  pub adds_over : {u u' : List ℕ} {hx : Held} {f : Refusal} (a : ℕ) → a ≡ operand_at doc k i → i < e → Told Holds (Ok hx) (eval_expr (expr_at doc a) scope) →
      ((v : Value) → Holds hx v → Told (Grown u') (Err f) (add k v vs)) → Told (Grown u) (Err f) (eval_members (exprs_from doc k i (e - i)) k scope vs)
  unfolding eval_members
  adds_over a x h t g = rw (exprs_go doc k e i h, ← x) (go_told t (λ v j. halt_told _ (g v j)))

  pub adds_go : {u u' : List ℕ} {hx : Held} {d : Unit {0}} {r : Result (Unit {0}) Refusal} (a : ℕ) → a ≡ operand_at doc k i → i < e → Told Holds (Ok hx) (eval_expr (expr_at doc a) scope) →
      ((v : Value) → Holds hx v → Told (Grown u) (Ok d) (add k v vs)) →
      ((us : Values) → SetIn u us → Told (Grown u') r (eval_members (exprs_from doc k (i + 1) (e - (i + 1))) k scope us)) →
      Told (Grown u') r (eval_members (exprs_from doc k i (e - i)) k scope vs)
  unfolding eval_members
  adds_go a x h t g m = rw (exprs_go doc k e i h, ← x) (go_told t (λ v j. go_told (g v j) m))

pub handed_same : {doc work w : List ℕ} {s n k : ℕ} (u : List ℕ) → length u ≡ length work → Handed doc work w s n k → Handed doc u w s n k
handed_same u e h = record { ready = ready_same u e h.ready; words = h.words; few = h.few }

-- an operand, as the node's words have it
pub in_words : {doc work w : List ℕ} {s n k : ℕ} → Handed doc work w s n k → (i v : ℕ) → v ≡ get_or w i 0 → v ≡ operand_at doc k i
in_words h i v e = e ∙ ap (λ (l : List ℕ). get_or l i 0) h.words

-- ---- kinds of expressions
module _ {doc work w : List ℕ} {n k : ℕ} (h : Handed doc work w expressions n k) where
  -- 30 Ref
  module _ (q : kind_at doc k ≡ 30) where
    pub reference_operands : Operands doc w k expressions 2
    reference_operands = let o = expr_reference doc k h.ready.at q in record { each = λ j p r. o.each j p (subst (λ (l : List ℕ). j < length l) h.words r) _ (in_words h j _ refl) }

    reference_tree : expr_at doc k ≡ reference k (get_or w 1 0) (exprs_from doc k 2 (length w - 2))
    reference_tree = rw h.words (expr_reference doc k h.ready.at q).tree

    pub reference_stop : (scope : Environment) {ws : List ℕ} {m : ℕ} {f : Refusal} → Told (Joined ws m) (Err f) (eval_exprs (exprs_from doc k 2 (length w - 2)) scope) → Told Holds (Err f) (eval_expr (expr_at doc k) scope)
    unfolding eval_expr
    reference_stop scope t = rw reference_tree (halt_told _ t)

    pub reference_go : (scope : Environment) {ws : List ℕ} {m : ℕ} {hr : Held} {s : Result Held Refusal} → Told (Joined ws m) (Ok hr) (eval_exprs (exprs_from doc k 2 (length w - 2)) scope) →
        Told Holds s (refer k (exprs_from doc k 2 (length w - 2)) (lookup (get_or w 1 0) scope)) → Told Holds s (eval_expr (expr_at doc k) scope)
    unfolding eval_expr
    reference_go scope t g = rw reference_tree (go_told t (λ vs j. g))

    pub has_actuals_lem : 2 < length w → true ≡ has_actuals (exprs_from doc k 2 (length w - 2))
    unfolding has_actuals
    has_actuals_lem l = sym (ap has_actuals (exprs_go doc k (length w) 2 l))

    -- without actuals
    module _ (scope : Environment) (l : length w ≤ 2) where
      pub no_actuals : false ≡ has_actuals (exprs_from doc k 2 (length w - 2))
      unfolding has_actuals
      no_actuals = sym (ap has_actuals (exprs_end doc k (length w) 2 l))

      pub reference_plain : {C : Type 0} {R : C → Value → Type 0} {s : Result C Refusal} → Told R s (refer k (exprs_from doc k 2 (length w - 2)) (lookup (get_or w 1 0) scope)) → Told R s (eval_expr (expr_at doc k) scope)
      unfolding eval_expr eval_exprs
      reference_plain {R = R} {s = s} g = rw reference_tree (subst (λ (xs : Exprs). Told R s (eval_exprs xs scope >>= λ vs. refer k (exprs_from doc k 2 (length w - 2)) (lookup (get_or w 1 0) scope))) (sym (exprs_end doc k (length w) 2 l)) (at_pure _ _ g))

  -- 33 Set, 34 Tuple, 35 Product
  pub member_operands : (q : ℕ) → kind_at doc k ≡ q → 33 ≤ q → q ≤ 35 → Operands doc w k expressions 1
  member_operands q e a b =
      let o = expr_members doc k h.ready.at q e a b in
      record { each = λ j p r. o.each j p (subst (λ (l : List ℕ). j < length l) h.words r) _ (in_words h j _ refl) }

  pub members_tree : (q : ℕ) → kind_at doc k ≡ q → 33 ≤ q → q ≤ 35 → expr_at doc k ≡ members_of q k (exprs_from doc k 1 (length w - 1))
  members_tree q e a b = rw h.words (expr_members doc k h.ready.at q e a b).tree

  pub set_stop : kind_at doc k ≡ 33 → (scope : Environment) {u : List ℕ} {f : Refusal} → Told (Grown u) (Err f) (eval_members (exprs_from doc k 1 (length w - 1)) k scope nil) → Told Holds (Err f) (eval_expr (expr_at doc k) scope)
  unfolding eval_expr
  set_stop q scope t = rw (members_tree 33 q (omega arith) (omega arith)) (halt_told _ t)

  pub set_go : kind_at doc k ≡ 33 → (scope : Environment) {u : List ℕ} {hs : Held} {d : Unit {0}} → Told (Grown u) (Ok d) (eval_members (exprs_from doc k 1 (length w - 1)) k scope nil) →
      ((vs : Values) → SetIn u vs → Holds hs (Value.set vs)) → Told Holds (Ok hs) (eval_expr (expr_at doc k) scope)
  unfolding eval_expr
  set_go q scope t b = rw (members_tree 33 q (omega arith) (omega arith)) (go_told t (λ vs g. keep_fine k (Value.set vs) (b vs g)))

  pub tuple_stop : kind_at doc k ≡ 34 → (scope : Environment) {ws : List ℕ} {m : ℕ} {f : Refusal} → Told (Joined ws m) (Err f) (eval_exprs (exprs_from doc k 1 (length w - 1)) scope) → Told Holds (Err f) (eval_expr (expr_at doc k) scope)
  unfolding eval_expr
  tuple_stop q scope t = rw (members_tree 34 q (omega arith) (omega arith)) (halt_told _ t)

  pub tuple_go : kind_at doc k ≡ 34 → (scope : Environment) {hr : Held} {s : Result Held Refusal} → Told (Joined (4 ∷ (length w - 1) ∷ []) (length w - 1)) (Ok hr) (eval_exprs (exprs_from doc k 1 (length w - 1)) scope) →
      ((v : Value) → hr ≡ words (encode v) → narrow v ≡ true → Told Holds s (keep k v)) → Told Holds s (eval_expr (expr_at doc k) scope)
  unfolding eval_expr encode narrow
  tuple_go q scope t g =
      rw (members_tree 34 q (omega arith) (omega arith))
      (go_told t (λ vs j. g (Value.tuple vs) (j.words ∙ ap (λ (m : ℕ). words (4 ∷ m ∷ encodes vs)) (sym j.counted)) j.narrow))

  -- 37 Apply, 41 to 45
  module _ (a b : ℕ) (x : a ≡ get_or w 1 0) (y : b ≡ get_or w 2 0) where
    pub apply_operands : kind_at doc k ≡ 37 → Lower doc k expressions a × Lower doc k expressions b
    apply_operands q = let l = expr_application doc k h.ready.at q a b (in_words h 1 a x) (in_words h 2 b y) in (l.left, l.right)

    pub apply_told : kind_at doc k ≡ 37 → (scope : Environment) → {s : Result Held Refusal} → Told Holds s (eval_expr (expr_at doc a) scope >>= λ u. eval_expr (expr_at doc b) scope >>= λ v. image_of k u v) → Told Holds s (eval_expr (expr_at doc k) scope)
    unfolding eval_expr image_of
    apply_told q scope t = rw (expr_application doc k h.ready.at q a b (in_words h 1 a x) (in_words h 2 b y)).tree t

    pub arith_operands : 41 ≤ kind_at doc k → kind_at doc k ≤ 45 → Lower doc k expressions a × Lower doc k expressions b
    arith_operands c d = let l = expr_arithmetic doc k h.ready.at (kind_at doc k) refl c d a b (in_words h 1 a x) (in_words h 2 b y) in (l.left, l.right)

    pub arith_told : 41 ≤ kind_at doc k → kind_at doc k ≤ 45 → (scope : Environment) → {C : Type 0} {R : C → Value → Type 0} {s : Result C Refusal} → Told R s (eval_expr (expr_at doc a) scope >>= λ u. eval_expr (expr_at doc b) scope >>= λ v. arithmetic_of k (kind_at doc k) u v) → Told R s (eval_expr (expr_at doc k) scope)
    unfolding eval_expr arithmetic_of
    arith_told c d scope t = rw (expr_arithmetic doc k h.ready.at (kind_at doc k) refl c d a b (in_words h 1 a x) (in_words h 2 b y)).tree t

-- a node has its kind among its words
pub node_words : {doc work w : List ℕ} {s n k : ℕ} → Handed doc work w s n k → 1 ≤ length w
node_words {doc} {work} {w} {s} {n} {k} h =
    let m = at_least doc s k h.ready.at in
    subst (λ (l : List ℕ). 1 ≤ length l) (sym h.words) (omega arith)

-- ---- kinds of predicates
module _ {doc work w : List ℕ} {n k : ℕ} (h : Handed doc work w predicates n k) where
  -- 21 to 23
  module _ (q : ℕ) (e : kind_at doc k ≡ q) (c : 21 ≤ q) (d : q ≤ 23) (a b : ℕ) (x : a ≡ get_or w 1 0) (y : b ≡ get_or w 2 0) where
    pub relation_operands : Lower doc k expressions a × Lower doc k expressions b
    relation_operands = let l = pred_relation doc k h.ready.at q e c d a b (in_words h 1 a x) (in_words h 2 b y) in (l.left, l.right)

    relation_tree : pred_at doc k ≡ relation_of q k (expr_at doc a) (expr_at doc b)
    relation_tree = (pred_relation doc k h.ready.at q e c d a b (in_words h 1 a x) (in_words h 2 b y)).tree

  module _ (a b : ℕ) (x : a ≡ get_or w 1 0) (y : b ≡ get_or w 2 0) (scope : Environment) where
    pub equal_told : kind_at doc k ≡ 21 → {s : Result Bool Refusal} → Told Judged s (eval_expr (expr_at doc a) scope >>= λ u. eval_expr (expr_at doc b) scope >>= λ v. pure (same_value u v)) → Told Judged s (eval_pred (pred_at doc k) scope)
    unfolding eval_pred
    equal_told q t = rw (relation_tree 21 q (omega arith) (omega arith) a b x y) t

    pub below_told : kind_at doc k ≡ 23 → {s : Result Bool Refusal} → Told Judged s (eval_expr (expr_at doc a) scope >>= λ u. eval_expr (expr_at doc b) scope >>= λ v. at_most_of k u v) → Told Judged s (eval_pred (pred_at doc k) scope)
    unfolding eval_pred at_most_of
    below_told q t = rw (relation_tree 23 q (omega arith) (omega arith) a b x y) t

    pub member_stop : kind_at doc k ≡ 22 → {f : Refusal} → Told Holds (Err f) (eval_expr (expr_at doc a) scope) → Told Judged (Err f) (eval_pred (pred_at doc k) scope)
    unfolding eval_pred
    member_stop q t = rw (relation_tree 22 q (omega arith) (omega arith) a b x y) (halt_told _ t)

    pub member_go : kind_at doc k ≡ 22 → {hr : Held} {s : Result Bool Refusal} → Told Holds (Ok hr) (eval_expr (expr_at doc a) scope) →
        ((v : Value) → Holds hr v → Told Judged s (test (expr_at doc b) scope v)) → Told Judged s (eval_pred (pred_at doc k) scope)
    unfolding eval_pred
    member_go q t g = rw (relation_tree 22 q (omega arith) (omega arith) a b x y) (go_told t g)

  -- 24
  module _ (q : kind_at doc k ≡ 24) (a : ℕ) (x : a ≡ get_or w 1 0) where
    pub not_operand : Lower doc k predicates a
    not_operand = (pred_not doc k h.ready.at q a (in_words h 1 a x)).first

    pub not_stop : (scope : Environment) {f : Refusal} → Told Judged (Err f) (eval_pred (pred_at doc a) scope) → Told Judged (Err f) (eval_pred (pred_at doc k) scope)
    unfolding eval_pred
    not_stop scope t = rw (pred_not doc k h.ready.at q a (in_words h 1 a x)).tree (halt_told _ t)

    pub not_go : (scope : Environment) {b : Bool} → Told Judged (Ok b) (eval_pred (pred_at doc a) scope) → Told Judged (Ok (not b)) (eval_pred (pred_at doc k) scope)
    unfolding eval_pred
    not_go scope t = rw (pred_not doc k h.ready.at q a (in_words h 1 a x)).tree (go_told t (λ v j. fine (ap not j)))

  -- 25 to 27
  module _ (c : 25 ≤ kind_at doc k) (d : kind_at doc k ≤ 27) (a b : ℕ) (x : a ≡ get_or w 1 0) (y : b ≡ get_or w 2 0) where
    pub connected_operands : Lower doc k predicates a × Lower doc k predicates b
    connected_operands = let l = pred_connected doc k h.ready.at (kind_at doc k) refl c d a b (in_words h 1 a x) (in_words h 2 b y) in (l.left, l.right)

    connected_tree : pred_at doc k ≡ connected k (connective_of (kind_at doc k)) (pred_at doc a) (pred_at doc b)
    connected_tree = (pred_connected doc k h.ready.at (kind_at doc k) refl c d a b (in_words h 1 a x) (in_words h 2 b y)).tree

    pub connected_stop : (scope : Environment) {f : Refusal} → Told Judged (Err f) (eval_pred (pred_at doc a) scope) → Told Judged (Err f) (eval_pred (pred_at doc k) scope)
    unfolding eval_pred
    connected_stop scope t = rw connected_tree (halt_told _ t)

    known_told : (o : Connective) (l b : Bool) (right : Unit {0} → Outcome Bool) → Some b ≡ decision_of o l → Told Judged (Ok b) (connect o l right)
    unfolding decision_of connect
    known_told and true b right e = absurd (some_not_none e)
    known_told and false b right e = let q : b ≡ false = cc in fine q
    known_told or true b right e = let q : b ≡ true = cc in fine q
    known_told or false b right e = absurd (some_not_none e)
    known_told implies true b right e = absurd (some_not_none e)
    known_told implies false b right e = let q : b ≡ true = cc in fine q

    right_told_lem : (o : Connective) (l : Bool) (right : Unit {0} → Outcome Bool) {s : Result Bool Refusal} → None ≡ decision_of o l → Told Judged s (right tt) → Told Judged s (connect o l right)
    unfolding decision_of connect
    right_told_lem and true right e t = t
    right_told_lem and false right e t = absurd (some_not_none (sym e))
    right_told_lem or true right e t = absurd (some_not_none (sym e))
    right_told_lem or false right e t = t
    right_told_lem implies true right e t = t
    right_told_lem implies false right e t = absurd (some_not_none (sym e))

    pub connected_known : (scope : Environment) {l : Bool} (v : Bool) → Told Judged (Ok l) (eval_pred (pred_at doc a) scope) → Some v ≡ decision_of (connective_of (kind_at doc k)) l → Told Judged (Ok v) (eval_pred (pred_at doc k) scope)
    unfolding eval_pred
    connected_known scope v t e = rw connected_tree (go_told t (λ l j. known_told _ l v _ (e ∙ ap (decision_of (connective_of (kind_at doc k))) j)))

    pub connected_right : (scope : Environment) {l : Bool} {s : Result Bool Refusal} → Told Judged (Ok l) (eval_pred (pred_at doc a) scope) → None ≡ decision_of (connective_of (kind_at doc k)) l →
        Told Judged s (eval_pred (pred_at doc b) scope) → Told Judged s (eval_pred (pred_at doc k) scope)
    unfolding eval_pred
    connected_right scope t e g = rw connected_tree (go_told t (λ l j. right_told_lem _ l _ (e ∙ ap (decision_of (connective_of (kind_at doc k))) j) g))

pub handed_of : {doc work w : List ℕ} {s n k : ℕ} → Ready doc work s n k → w ≡ part doc k → Handed doc work w s n k
handed_of {doc} {work} {w} {s} {n} {k} r e = let f = few_words doc s k r.at in record { ready = r; words = e; few = omega (arith, ap length e) }

pub power_operand : {doc work w : List ℕ} {n k : ℕ} → (h : Handed doc work w expressions n k) → kind_at doc k ≡ 36 → (a : ℕ) → a ≡ get_or w 1 0 → Lower doc k expressions a
power_operand {doc} {work} {w} {n} {k} h q a x = (expr_power doc k h.ready.at q a (in_words h 1 a x)).first
