use mathlib.Core.Path.{◌≡◌, sym, ap, subst, ◌∙◌}
use native.Mathlib.Omega.{arith}
use Prim.Native.Nat.{suc, ◌+◌, ◌-◌}
use lib.ListN.{get_or}
use Rattle.types_rules.specs.Types.{tnil}
use Rattle.types_cells.specs.Calls.{Tells}
use Rattle.types_cells.specs.Settled.{heap}
use Rattle.types_cells.proofs.Reading.{place_few}
use Rattle.types_instances.specs.Fill.{nth_type, actual_type, fill}
use Rattle.types_instances.specs.Filled.{place_of}
use Rattle.types_instances.proofs.Rows.{row_some, actual_none, actual_some, parameter_fill}
use Rattle.checker_includes.proofs.SameLaws.{parameter_stays}
use Rattle.checker_includes.proofs.filling.same_actual.Goals as goal

pub overflow_add-p : goal.overflow_add-p
overflow_add-p c = let P = c.requires.0 in let f = place_few _ _ _ _ P.actuals.areas P.left.reads in omega arith

pub returns-then-i-eq0 : goal.returns-then-i-eq0
returns-then-i-eq0 c =
    let s = c.args in
    let H = heap s.a.now s.d.now in
    record {
      tells = λ g k hs R S T.
          let v = get_or H (s.p + 1) 0 in
          let q = parameter_fill H s.p g hs R c.requires.1 in
          let n = actual_none H s.row.now hs v T (ap (place_of s.row.now) (sym c.type_word.ensures.0) ∙ sym c.actual-i.ensures ∙ c.if-i-eq0.true) in
          let e : g ≡ fill hs g = parameter_stays H s.p g R v q.1 ∙ sym (q.0 ∙ n) in
          subst (λ z. Tells c.same_type.result (z ≡ k)) e (c.same_type.ensures.tells g k R S);
    }

pub same_type-requires-2 : goal.same_type-requires-2
same_type-requires-2 c =
    let s = c.args in
    let P = c.requires.0 in
    let A = P.actuals in
    let q = c.actual-i.result in
    let ne = c.if-i-eq0.false in
    let G = row_some (heap s.a.now s.d.now) s.row.now A.types c.type_word.result (q - 1) A.stand (sym c.actual-i.ensures ∙ (let z : q ≡ suc (q - 1) = omega arith in z)) in
    record { areas = A.areas; left = record { type = G.type; reads = G.reads }; right = P.right }

pub returns : goal.returns
returns c =
    let s = c.args in
    let H = heap s.a.now s.d.now in
    let v = c.type_word.result in
    let q = c.actual-i.result in
    let ne = c.if-i-eq0.false in
    record {
      tells = λ g k hs R S T.
          let G = row_some H s.row.now hs v (q - 1) T (sym c.actual-i.ensures ∙ (let z : q ≡ suc (q - 1) = omega arith in z)) in
          let f = parameter_fill H s.p g hs R c.requires.1 in
          let e : G.type ≡ fill hs g = sym (f.0 ∙ ap (λ z. actual_type (nth_type hs z) z tnil) (sym c.type_word.ensures.0) ∙ actual_some H hs v (q - 1) G) in
          subst (λ z. Tells c.same_type-2.result (z ≡ k)) e (c.same_type-2.ensures.tells G.type k G.reads S);
    }
