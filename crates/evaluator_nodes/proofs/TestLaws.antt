-- Member's test over nodes and over the words of values.
use mathlib.Core.Path.{◌≡◌, refl, sym, ap, subst, ◌∙◌}
use mathlib.Core.Bool.{Bool, true, false, ◌||◌, true≢false}
use mathlib.Core.List.{List, ◌++◌, append_assoc}
use Prim.Native.Nat.{ℕ, ◌+◌, ◌-◌, ◌≤◌, ◌<◌}
use native.Mathlib.Omega.{arith}
use lib.Dec.{eqb}
use lib.ListN.{length, get_or, take, drop, replicate, length-append, take-append-drop}
use lib.Seq.{take_at, drop_at, drop-drop}
use borrow.Author.Tests.{eq-eqb, ne_eqb}
use Rattle.layout.specs.Layout.{part}
use Rattle.values.specs.Value.{Value, Values, nil, cons, count, encode, encodes}
use Rattle.values.specs.Span.{span}
use Rattle.values.specs.Held.{keep as words}
use Rattle.values.specs.declared.held.Held.{Held}
use Rattle.values.proofs.Holding.{held_words}
use Rattle.values.proofs.Encoding.{span_value}
use Rattle.reader_rules.specs.Kinds.{expressions}
use Rattle.reader_rules.specs.Nodes.{kind_at, operand_at}
use Rattle.reader_rules.specs.Promise.{At}
use Rattle.reader_rules.specs.Tree.{Expr, reference, number, integers, product, power, application, selection, theta, schema_set, arithmetic, comprehension, expr_node}
use Rattle.reader_rules.specs.Tree as Tree
use Rattle.reader_rules.specs.Decode.{unlisted, makers, expr_at, exprs_from}
use Rattle.reader_rules.proofs.TreeShape.{AllFrom, all_at, ◌▹◌, sub, as_made}
use Rattle.reader_rules.proofs.TreeExpr.{expr_range, expr_integers, expr_power, expr_members, expr_node_lem}
use Rattle.reader_rules.proofs.TreeLists.{exprs_go, exprs_end, exprs_length_lem}
use Rattle.evaluator_rules.specs.Outcomes.{Outcome, ◌>>=◌}
use Rattle.evaluator_rules.specs.Environment.{Environment}
use Rattle.evaluator_rules.specs.Operations.{as_set, as_tuple, all_pass, count_if, same_count}
use Rattle.evaluator_rules.specs.Rules.{eval_expr, among_members, test_expr, test_exprs, test}
use Rattle.evaluator_operations.specs.Steps.{integer_test}
use Rattle.std.proofs.Common.{Result, Ok, Err}
use Rattle.reader_rules.specs.declared.Refusal.{Refusal}
use Rattle.evaluator_operations.specs.Worked.{narrow, Holds, Told, fine, Judged, Stops}
use Rattle.evaluator_scope.specs.Blocks.{Lies}
use Rattle.evaluator_nodes.specs.Ready.{Ready, Handed, Rest}
use Rattle.evaluator_operations.proofs.ToldLaws.{go_told, halt_told, at_pure, at_stop, choose_told}
use Rattle.evaluator_operations.proofs.OperationLaws.{held_tag, tag_set, tag_none, tag_tuple, tag_single, narrow_head, narrow_tail}
use Rattle.evaluator_nodes.proofs.NodeLaws.{in_words}

-- ---- ℤ, Power and Product are tested against by their form, any other expression by its value
unfoldable is_formed : Expr → Bool
is_formed (reference n i xs) = false
is_formed (number n k) = false
is_formed (integers n) = true
is_formed (Tree.set n xs) = false
is_formed (Tree.tuple n xs) = false
is_formed (product n xs) = true
is_formed (power n a) = true
is_formed (application n f a) = false
is_formed (selection n a i) = false
is_formed (theta n s k) = false
is_formed (schema_set n i) = false
is_formed (arithmetic n o a b) = false
is_formed (comprehension n t a) = false

by_value : (e : Expr) → is_formed e ≡ false → (f : Environment → Outcome Value) (x : Value) (scope : Environment) → test_expr e f x scope ≡ (f scope >>= among_members (expr_node e) x)
unfolding is_formed test_expr expr_node
by_value (reference n i xs) h f x scope = refl
by_value (number n k) h f x scope = refl
by_value (integers n) h f x scope = absurd (true≢false h)
by_value (Tree.set n xs) h f x scope = refl
by_value (Tree.tuple n xs) h f x scope = refl
by_value (product n xs) h f x scope = absurd (true≢false h)
by_value (power n a) h f x scope = absurd (true≢false h)
by_value (application n g a) h f x scope = refl
by_value (selection n a i) h f x scope = refl
by_value (theta n s k) h f x scope = refl
by_value (schema_set n i) h f x scope = refl
by_value (arithmetic n o a b) h f x scope = refl
by_value (comprehension n t a) h f x scope = refl

formed_kind : (doc : List ℕ) (k : ℕ) → At doc expressions k → is_formed (expr_at doc k) ≡ (eqb (kind_at doc k) 32 || (eqb (kind_at doc k) 35 || eqb (kind_at doc k) 36))
unfolding is_formed expr_at makers
formed_kind doc k h =
    let r = expr_range doc k h in
    as_made doc k (λ n. is_formed n.expr ≡ (eqb (kind_at doc k) 32 || (eqb (kind_at doc k) 35 || eqb (kind_at doc k) 36))) (all_at Here 30 17 ones (kind_at doc k) r.0 (omega arith))
  where
    Here : ℕ → Type 0
    Here q = is_formed (get_or makers q unlisted (sub doc k) k (part doc k)).expr ≡ (eqb q 32 || (eqb q 35 || eqb q 36))

    ones : AllFrom Here 30 17
    ones = refl ▹ refl ▹ refl ▹ refl ▹ refl ▹ refl ▹ refl ▹ refl ▹ refl ▹ refl ▹ refl ▹ refl ▹ refl ▹ refl ▹ refl ▹ refl ▹ refl ▹ tt

module _ {doc work : List ℕ} {n k : ℕ} (h : Ready doc work expressions n k) (a : kind_at doc k ≡ 32 → ⊥) (b : kind_at doc k ≡ 35 → ⊥) (c : kind_at doc k ≡ 36 → ⊥) (x : Value) (scope : Environment) where
  value_test : test (expr_at doc k) scope x ≡ (eval_expr (expr_at doc k) scope >>= among_members k x)
  value_test =
      by_value (expr_at doc k) (formed_kind doc k h.at ∙ rw (ne_eqb (kind_at doc k) 32 a, ne_eqb (kind_at doc k) 35 b, ne_eqb (kind_at doc k) 36 c)) (eval_expr (expr_at doc k)) x scope
      ∙ ap (λ (j : ℕ). eval_expr (expr_at doc k) scope >>= among_members j x) (expr_node_lem doc k h.at)

  pub value_stop : {f : Refusal} → Told Holds (Err f) (eval_expr (expr_at doc k) scope) → Told Judged (Err f) (test (expr_at doc k) scope x)
  value_stop {f = f} t = subst (Told Judged (Err f)) (sym value_test) (halt_told _ t)

  pub value_go : {hr : Held} {s : Result Bool Refusal} → Told Holds (Ok hr) (eval_expr (expr_at doc k) scope) → ((y : Value) → Holds hr y → Told Judged s (among_members k x y)) →
      Told Judged s (test (expr_at doc k) scope x)
  value_go {s = s} t g = subst (Told Judged s) (sym value_test) (go_told t g)

pub integers_test : {doc work : List ℕ} {n k : ℕ} → Ready doc work expressions n k → kind_at doc k ≡ 32 → (x : Value) (scope : Environment) {r : Result Bool Refusal} → Told Judged r (integer_test k x) →
    Told Judged r (test (expr_at doc k) scope x)
unfolding test_expr integer_test
integers_test {doc} {work} {n} {k} h q x scope t = rw (expr_integers doc k h.at q) t

-- ---- the words of members and parts
pub lies_more : (ws : List ℕ) (at : ℕ) (v : Value) (vs : Values) → Lies ws at (encode v ++ encodes vs) → drop at ws ≡ encode v ++ (encodes vs ++ drop (length (encode v ++ encodes vs)) (drop at ws))
lies_more ws at v vs l =
    sym (take-append-drop (length (encode v ++ encodes vs)) (drop at ws)) ∙ ap (λ (x : List ℕ). x ++ drop (length (encode v ++ encodes vs)) (drop at ws)) l
    ∙ append_assoc (encode v) (encodes vs) (drop (length (encode v ++ encodes vs)) (drop at ws))

pub rest_set : (h : Held) (vs : Values) → Holds h (Value.set vs) → Rest h 2 (get_or h.words 1 0) vs
unfolding encode narrow
rest_set h vs g =
    let e = held_words h (encode (Value.set vs)) g.words g.short in
    record { lies = rw e (take_at (encodes vs) (replicate (64 - length (encode (Value.set vs))) 0) (length (encodes vs)) refl); short = (let s = g.short in omega arith); counted = rw e; narrow = g.narrow }

pub rest_tuple : (h : Held) (vs : Values) (n : ℕ) → Holds h (Value.tuple vs) → get_or h.words 1 0 ≡ n → Rest h 2 n vs
unfolding encode narrow
rest_tuple h vs n g q =
    let e = held_words h (encode (Value.tuple vs)) g.words g.short in
    record { lies = rw e (take_at (encodes vs) (replicate (64 - length (encode (Value.tuple vs))) 0) (length (encodes vs)) refl); short = (let s = g.short in omega arith); counted = (rw e at q); narrow = g.narrow }

module _ (h : Held) (at c : ℕ) (v : Value) (vs : Values) (g : Rest h at c (cons v vs)) where
  first_span : span (drop at h.words) ≡ length (encode v)
  unfolding encodes
  first_span =
      let s = g.short in
      let l = length-append (encode v) (encodes vs) in
      rw (lies_more h.words at v vs g.lies) (span_value v _ (omega arith))

  pub first_held : (len : ℕ) (f : Held) → len ≡ span (drop at h.words) → f ≡ words (take len (drop at h.words)) → Holds f v
  unfolding encodes
  first_held len f e q =
      let s = g.short in
      let l = length-append (encode v) (encodes vs) in
      record {
        words = q ∙ ap words (ap (λ (m : ℕ). take m (drop at h.words)) (e ∙ first_span) ∙ ap (λ (x : List ℕ). take (length (encode v)) x) (lies_more h.words at v vs g.lies) ∙ take_at (encode v) _ (length (encode v)) refl);
        short = omega arith;
        narrow = narrow_head v vs g.narrow;
      }

  pub rest_more : (len : ℕ) → len ≡ span (drop at h.words) → Rest h (at + len) (c - 1) vs
  unfolding encodes count
  rest_more len e =
      let s = g.short in
      let l = length-append (encode v) (encodes vs) in
      let n = g.counted in
      let m : len ≡ length (encode v) = e ∙ first_span in
      let d = lies_more h.words at v vs g.lies in
      record {
        lies =
            rw m (ap (λ (x : List ℕ). take (length (encodes vs)) x)
            (sym (drop-drop (length (encode v)) at h.words) ∙ ap (λ (x : List ℕ). drop (length (encode v)) x) d ∙ drop_at (encode v) _ (length (encode v)) refl)
            ∙ take_at (encodes vs) _ (length (encodes vs)) refl);
        short = omega arith;
        counted = omega arith;
        narrow = narrow_tail v vs g.narrow;
      }

-- ---- Power: every member passes
module _ (h : Held) (at c : ℕ) (f : Value → Outcome Bool) where
  pub all_end : (vs : Values) → Rest h at c vs → c ≡ 0 → Told Judged (Ok true) (all_pass vs f)
  unfolding all_pass count
  all_end nil g e = fine refl
  all_end (cons v vs) g e = let n = g.counted in absurd (omega arith)

  module _ (len : ℕ) (m : Held) (e : len ≡ span (drop at h.words)) (q : m ≡ words (take len (drop at h.words))) (some : c ≡ 0 → ⊥) where
    pub all_stop : (vs : Values) → Rest h at c vs → {x : Refusal} → ((y : Value) → Holds m y → Told Judged (Err x) (f y)) → Told Judged (Err x) (all_pass vs f)
    unfolding all_pass count
    all_stop nil g t = absurd (some (sym g.counted))
    all_stop (cons v vs) g t = halt_told _ (t v (first_held h at c v vs g len m e q))

    pub all_false : (vs : Values) → Rest h at c vs → {b : Bool} → ((y : Value) → Holds m y → Told Judged (Ok b) (f y)) → b ≡ false → Told Judged (Ok false) (all_pass vs f)
    unfolding all_pass count
    all_false nil g t b = absurd (some (sym g.counted))
    all_false (cons v vs) g t b =
        go_told (t v (first_held h at c v vs g len m e q))
        (λ y j. choose_told y (λ w. absurd (true≢false (sym w ∙ sym j ∙ b))) (λ w. fine refl))

    pub all_go : (vs : Values) → Rest h at c vs → {b : Bool} {r : Result Bool Refusal} → ((y : Value) → Holds m y → Told Judged (Ok b) (f y)) → b ≡ true →
        ((us : Values) → Rest h (at + len) (c - 1) us → Told Judged r (all_pass us f)) → Told Judged r (all_pass vs f)
    unfolding all_pass count
    all_go nil g t b k = absurd (some (sym g.counted))
    all_go (cons v vs) g t b k =
        go_told (t v (first_held h at c v vs g len m e q))
        (λ y j. choose_told y (λ w. k vs (rest_more h at c v vs g len e)) (λ w. absurd (true≢false (sym b ∙ j ∙ w))))

-- ---- Product: part by part
module _ (doc : List ℕ) (k e i : ℕ) (scope : Environment) (h : Held) (at : ℕ) where
  pub product_end : e ≤ i → (vs : Values) → Told Judged (Ok true) (test_exprs (exprs_from doc k i (e - i)) vs scope)
  unfolding test_exprs
  product_end l vs = rw (exprs_end doc k e i l) (fine refl)

  module _ (l : i < e) (len : ℕ) (m : Held) (p : len ≡ span (drop at h.words)) (q : m ≡ words (take len (drop at h.words))) (a : ℕ) (x : a ≡ operand_at doc k i) where
    pub product_stop : (vs : Values) → Rest h at (e - i) vs → {f : Refusal} → ((y : Value) → Holds m y → Told Judged (Err f) (test (expr_at doc a) scope y)) →
        Told Judged (Err f) (test_exprs (exprs_from doc k i (e - i)) vs scope)
    unfolding test_exprs count
    product_stop nil g t = let n = g.counted in absurd (omega arith)
    product_stop (cons v vs) g t = rw (exprs_go doc k e i l, ← x) (halt_told _ (t v (first_held h at (e - i) v vs g len m p q)))

    pub product_false : (vs : Values) → Rest h at (e - i) vs → {b : Bool} → ((y : Value) → Holds m y → Told Judged (Ok b) (test (expr_at doc a) scope y)) → b ≡ false →
        Told Judged (Ok false) (test_exprs (exprs_from doc k i (e - i)) vs scope)
    unfolding test_exprs count
    product_false nil g t b = let n = g.counted in absurd (omega arith)
    product_false (cons v vs) g t b =
        rw (exprs_go doc k e i l, ← x) (go_told (t v (first_held h at (e - i) v vs g len m p q))
        (λ y j. choose_told y (λ w. absurd (true≢false (sym w ∙ sym j ∙ b))) (λ w. fine refl)))

    pub product_go : (vs : Values) → Rest h at (e - i) vs → {b : Bool} {r : Result Bool Refusal} → ((y : Value) → Holds m y → Told Judged (Ok b) (test (expr_at doc a) scope y)) → b ≡ true →
        ((us : Values) → Rest h (at + len) (e - (i + 1)) us → Told Judged r (test_exprs (exprs_from doc k (i + 1) (e - (i + 1))) us scope)) →
        Told Judged r (test_exprs (exprs_from doc k i (e - i)) vs scope)
    unfolding test_exprs count
    product_go nil g t b n = let c = g.counted in absurd (omega arith)
    product_go (cons v vs) g t b n =
        let c : e - i - 1 ≡ e - (i + 1) = omega arith in
        rw (exprs_go doc k e i l, ← x) (go_told (t v (first_held h at (e - i) v vs g len m p q))
        (λ y j. choose_told y (λ w. n vs (subst (λ (d : ℕ). Rest h (at + len) d vs) c (rest_more h at (e - i) v vs g len p))) (λ w. absurd (true≢false (sym b ∙ j ∙ w)))))

-- ---- the nodes 35 and 36
module _ {doc work w : List ℕ} {n k : ℕ} (h : Handed doc work w expressions n k) (v : Held) (x : Value) (hx : Holds v x) (scope : Environment) where
  pub power_other : kind_at doc k ≡ 36 → (get_or v.words 0 0 ≡ 3 → ⊥) → {f : Refusal} → Stops f 51 k → Told Judged (Err f) (test (expr_at doc k) scope x)
  unfolding test_expr
  power_other q t s = rw (expr_power doc k h.ready.at q (operand_at doc k 1) refl).tree (rw (tag_none k x (λ e. t (held_tag v x hx ∙ e))) (at_stop _ s (λ z. omega arith)))

  pub power_told : kind_at doc k ≡ 36 → get_or v.words 0 0 ≡ 3 → (a : ℕ) → a ≡ get_or w 1 0 → {r : Result Bool Refusal} →
      ((vs : Values) → Rest v 2 (get_or v.words 1 0) vs → Told Judged r (all_pass vs (test (expr_at doc a) scope))) → Told Judged r (test (expr_at doc k) scope x)
  unfolding test_expr as_set
  power_told q t a y g =
      let p = tag_set k x (sym (held_tag v x hx) ∙ t) in
      rw (expr_power doc k h.ready.at q a (in_words h 1 a y)).tree
      (rw p.1 (at_pure _ _ (g p.0 (rest_set v p.0 (subst (Holds v) p.1 hx)))))

  pub product_other : kind_at doc k ≡ 35 → (get_or v.words 0 0 ≡ 4 → ⊥) → {f : Refusal} → Stops f 51 k → Told Judged (Err f) (test (expr_at doc k) scope x)
  unfolding test_expr
  product_other q t s = rw (expr_members doc k h.ready.at 35 q (omega arith) (omega arith)).tree (rw (tag_single k x (λ e. t (held_tag v x hx ∙ e))) (at_stop _ s (λ z. omega arith)))

  product_tree : kind_at doc k ≡ 35 → expr_at doc k ≡ product k (exprs_from doc k 1 (length w - 1))
  product_tree q = rw h.words (expr_members doc k h.ready.at 35 q (omega arith) (omega arith)).tree

  held_count : (vs : Values) → x ≡ Value.tuple vs → get_or v.words 1 0 ≡ count vs
  unfolding encode
  held_count vs e =
      let g = subst (Holds v) e hx in
      rw (held_words v (encode (Value.tuple vs)) g.words g.short)

  pub product_uneven : kind_at doc k ≡ 35 → get_or v.words 0 0 ≡ 4 → (get_or v.words 1 0 + 1 ≡ length w → ⊥) → 1 ≤ length w → {f : Refusal} → Stops f 51 k → Told Judged (Err f) (test (expr_at doc k) scope x)
  unfolding test_expr as_tuple same_count count_if
  product_uneven q t u o s =
      let p = tag_tuple k x (sym (held_tag v x hx) ∙ t) in
      let c = held_count p.0 p.1 in
      rw (product_tree q) (rw p.1 (at_pure _ _ (rw (exprs_length_lem doc k 1 (length w - 1), ne_eqb (length w - 1) (count p.0) (λ e. u (omega arith))) (at_stop _ s (λ z. omega arith)))))

  pub product_told : kind_at doc k ≡ 35 → get_or v.words 0 0 ≡ 4 → get_or v.words 1 0 + 1 ≡ length w → {r : Result Bool Refusal} →
      ((vs : Values) → Rest v 2 (length w - 1) vs → Told Judged r (test_exprs (exprs_from doc k 1 (length w - 1)) vs scope)) → Told Judged r (test (expr_at doc k) scope x)
  unfolding test_expr as_tuple same_count count_if
  product_told q t u g =
      let p = tag_tuple k x (sym (held_tag v x hx) ∙ t) in
      let c = held_count p.0 p.1 in
      rw (product_tree q) (rw p.1 (at_pure _ _ (rw (exprs_length_lem doc k 1 (length w - 1), eq-eqb (length w - 1) (count p.0) (omega arith))
      (at_pure _ _ (g p.0 (rest_tuple v p.0 (length w - 1) (subst (Holds v) p.1 hx) (omega arith)))))))
