-- Power and Product as values over nodes: what they make of their operands.
use mathlib.Core.Path.{◌≡◌, refl, sym, ◌∙◌}
use mathlib.Core.Bool.{true}
use mathlib.Core.Logic.{inl, inr, ⊎_elim}
use mathlib.Core.List.{List, [], ◌∷◌}
use Prim.Native.Nat.{ℕ, ◌+◌, ◌-◌, ◌≤◌, ◌<◌}
use native.Mathlib.Omega.{arith}
use lib.ListN.{length, get_or}
use Rattle.values.specs.Value.{Value, set, tuple, Values, cons, encode}
use Rattle.values.specs.Held.{keep as words}
use Rattle.values.specs.declared.held.Held.{Held}
use Rattle.enumeration_rules.specs.Enumeration.{each}
use Rattle.enumeration_rules.specs.OnWords.{grow, grown}
use Rattle.reader_rules.specs.Kinds.{expressions}
use Rattle.reader_rules.specs.Nodes.{kind_at, operand_at}
use Rattle.reader_rules.specs.Decode.{expr_at, exprs_from}
use Rattle.reader_rules.proofs.TreeExpr.{expr_power}
use Rattle.reader_rules.proofs.TreeLists.{exprs_go, exprs_end}
use Rattle.evaluator_rules.specs.Outcomes.{Outcome, ◌>>=◌, pure}
use Rattle.evaluator_rules.specs.Outcomes as Outcomes
use Rattle.evaluator_rules.specs.Environment.{Environment}
use Rattle.evaluator_rules.specs.Listing.{this_no_set, later_no_set, no_sets, one_set}
use Rattle.evaluator_rules.specs.Listing as Listing
use Rattle.evaluator_rules.specs.Rules.{eval_expr, eval_exprs}
use Rattle.evaluator_operations.specs.Steps.{power_of, product_of}
use Rattle.std.proofs.Common.{Option, Some, None, Result, Ok, Err}
use Rattle.reader_rules.specs.declared.Refusal.{Refusal}
use Rattle.evaluator_operations.specs.Worked.{narrow, Holds, Told, fine, ceased, no_parts, Tuples, Crosses, a_set, no_set, Crossed}
use Rattle.evaluator_operations.proofs.ToldLaws.{go_told, halt_told}
use Rattle.evaluator_operations.proofs.OperationLaws.{narrow_cons}
use Rattle.evaluator_operations.proofs.EnumerationLaws.{some_not_none}
use Rattle.evaluator_nodes.specs.Ready.{Handed}
use Rattle.evaluator_nodes.proofs.NodeLaws.{in_words, members_tree}

-- ---- operands, each crossed with the rows of those before it
module _ (o : Option Held) (rs : List Values) where
  -- one operand before those that are told
  set_first : (c : Option Held) (ws : Values) {r : Result (Option Held) Refusal} {p : Outcome Values} → (o ≡ None → c ≡ None) → (c ≡ None → o ≡ None) → narrow (set ws) ≡ true → Told (Crossed c (grow rs ws)) r p → Told (Crossed o rs) r (p >>= λ vs. pure (cons (set ws) vs))
  unfolding ◌>>=◌ Outcomes.after grown
  set_first c ws d e n (fine {a = a} j) =
      fine {a = cons (set ws) a}
      (record {
        sets = λ h f. let x = j.sets h f in (ws ∷ x.0, one_set x.1, λ z. x.2 (d z), x.3);
        some = λ f. ⊎_elim (λ p. inl (e p)) (λ d. inr (later_no_set d)) (j.some f);
        narrow = narrow_cons (set ws) a n j.narrow;
      })
  set_first c ws d e n (ceased x y z) = ceased x y z

  none_first : (c : Option Held) (v : Value) (qs : List Values) {r : Result (Option Held) Refusal} {p : Outcome Values} → c ≡ None → Listing.NoSet v → narrow v ≡ true → Told (Crossed c qs) r p → Told (Crossed o rs) r (p >>= λ vs. pure (cons v vs))
  unfolding ◌>>=◌ Outcomes.after
  none_first c v qs e d n (fine {a = a} j) =
      fine {a = cons v a}
      (record { sets = λ h f. absurd ((j.sets h f).2 e); some = λ f. inr (this_no_set d); narrow = narrow_cons v a n j.narrow })
  none_first c v qs e d n (ceased x y z) = ceased x y z

  first_crossed : {c : Option Held} {r : Result (Option Held) Refusal} {v : Value} {p : Outcome Values} → narrow v ≡ true → Crosses rs o c v → ((qs : List Values) → Tuples c qs → Told (Crossed c qs) r p) →
      Told (Crossed o rs) r (p >>= λ vs. pure (cons v vs))
  first_crossed {c} n (a_set {vs = ws} d e u) g = set_first c ws d e n (g (grow rs ws) u)
  first_crossed {c} {v = v} n (no_set d e) g = none_first c v [] e d n (g [] (record { words = λ h f. absurd (some_not_none (sym f ∙ e)) }))

  module _ (doc : List ℕ) (k e i : ℕ) (scope : Environment) where
    pub factors_end : e ≤ i → Tuples o rs → Told (Crossed o rs) (Ok o) (eval_exprs (exprs_from doc k i (e - i)) scope)
    unfolding eval_exprs narrow grown
    factors_end h t =
        rw (exprs_end doc k e i h)
        (fine (record { sets = λ g f. ([], no_sets, λ n. some_not_none (sym f ∙ n), t.words g f); some = λ f. inl f; narrow = refl }))

    pub factors_go : {hx : Held} {c : Option Held} {r : Result (Option Held) Refusal} (a : ℕ) → a ≡ operand_at doc k i → i < e → Told Holds (Ok hx) (eval_expr (expr_at doc a) scope) → ((v : Value) → Holds hx v → Crosses rs o c v) →
        ((qs : List Values) → Tuples c qs → Told (Crossed c qs) r (eval_exprs (exprs_from doc k (i + 1) (e - (i + 1))) scope)) →
        Told (Crossed o rs) r (eval_exprs (exprs_from doc k i (e - i)) scope)
    unfolding eval_exprs
    factors_go a x h t c g = rw (exprs_go doc k e i h, ← x) (go_told t (λ v j. first_crossed j.narrow (c v j) g))

pub first_tuples : {h : Held} → h ≡ words (encode (set (each tuple no_parts))) → Tuples (Some h) no_parts
first_tuples {h} e = record { words = λ g f. let q : h ≡ g = cc f in sym q ∙ e }

-- ---- the nodes
module _ {doc work w : List ℕ} {n k : ℕ} (h : Handed doc work w expressions n k) where
  -- 35 Product
  module _ (q : kind_at doc k ≡ 35) (scope : Environment) {o : Option Held} where
    pub product_stop : {f : Refusal} → Told (Crossed o no_parts) (Err f) (eval_exprs (exprs_from doc k 1 (length w - 1)) scope) → Told Holds (Err f) (eval_expr (expr_at doc k) scope)
    unfolding eval_expr
    product_stop t = rw (members_tree h 35 q (omega arith) (omega arith)) (halt_told _ t)

    pub product_go : {c : Option Held} {s : Result Held Refusal} → Told (Crossed o no_parts) (Ok c) (eval_exprs (exprs_from doc k 1 (length w - 1)) scope) → ((vs : Values) → Crossed o no_parts c vs → Told Holds s (product_of k vs)) →
        Told Holds s (eval_expr (expr_at doc k) scope)
    unfolding eval_expr product_of
    product_go t g = rw (members_tree h 35 q (omega arith) (omega arith)) (go_told t g)

  -- 36 Power
  module _ (q : kind_at doc k ≡ 36) (a : ℕ) (x : a ≡ get_or w 1 0) (scope : Environment) where
    pub power_stop : {f : Refusal} → Told Holds (Err f) (eval_expr (expr_at doc a) scope) → Told Holds (Err f) (eval_expr (expr_at doc k) scope)
    unfolding eval_expr
    power_stop t = rw (expr_power doc k h.ready.at q a (in_words h 1 a x)).tree (halt_told _ t)

    pub power_go : {hr : Held} {s : Result Held Refusal} → Told Holds (Ok hr) (eval_expr (expr_at doc a) scope) → ((v : Value) → Holds hr v → Told Holds s (power_of k v)) → Told Holds s (eval_expr (expr_at doc k) scope)
    unfolding eval_expr power_of
    power_go t g = rw (expr_power doc k h.ready.at q a (in_words h 1 a x)).tree (go_told t g)
