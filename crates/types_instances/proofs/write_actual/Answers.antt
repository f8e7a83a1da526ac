use mathlib.Core.List.{◌++◌, [], ◌∷◌}
use lib.ListN.{drop, length, get_or}
use mathlib.Core.Path.{◌≡◌, refl, sym, ap, subst, ◌∙◌}
use native.Mathlib.Omega.{arith}
use Prim.Native.Nat.{suc, ◌+◌, ◌-◌}
use Rattle.types_rules.specs.Types.{tnil}
use Rattle.types_rules.specs.Words.{words}
use Rattle.types_cells.specs.Store.{run}
use Rattle.types_cells.specs.Settled.{heap}
use Rattle.types_solver.specs.Written.{Wrote}
use Rattle.types_cells.proofs.Reading.{place_few, inside}
use Rattle.types_instances.specs.Fill.{nth_type, actual_type, fill}
use Rattle.types_instances.specs.Filled.{place_of}
use Rattle.types_instances.proofs.Rows.{row_some, actual_none, actual_some, parameter_fill, parameter_words}
use Rattle.types_solver.proofs.Copying.{run_words_lem}
use Rattle.types_instances.proofs.write_actual.Goals as goal

pub overflow_add-p : goal.overflow_add-p
overflow_add-p c = let P = c.requires.0 in let f = place_few _ _ _ _ P.filling.actuals.areas P.filling.reads in omega arith

pub put_words-requires : goal.put_words-requires
put_words-requires c =
    let s = c.args in
    let P = c.requires.0 in
    let F = P.filling in
    let H = heap s.a.now s.d.now in
    let f = place_few _ _ _ _ F.actuals.areas F.reads in
    let w = ap length (parameter_fill H s.p F.type tnil F.reads c.requires.1).1 in
    let i = inside H s.p F.type F.reads in
    let r = P.room in
    (F.actuals.areas.size, omega arith, omega arith, omega arith)

pub returns-then-q-eq0 : goal.returns-then-q-eq0
returns-then-q-eq0 c =
    let s = c.args in
    let H = heap s.a.now s.d.now in
    let v = get_or H (s.p + 1) 0 in
    record {
      is = λ g hs R S.
          let q = parameter_fill H s.p g hs R c.requires.1 in
          let n = actual_none H s.row.now hs v S (ap (place_of s.row.now) (sym c.type_word.ensures.0) ∙ sym c.actual-q.ensures ∙ c.if-q-eq0.true) in
          let e : run H s.p 2 ≡ words (fill hs g) =
          run_words_lem H s.p (6 ∷ v ∷ []) R.after 2 refl (subst (λ z. drop s.p H ≡ z ++ R.after) q.1 R.words_at) ∙ sym (ap words (q.0 ∙ n) ∙ parameter_words v) in
          subst (λ z. Wrote s.out.now c.put_words.new.out s.at c.put_words.result z) e c.put_words.ensures;
    }

pub put_type-requires : goal.put_type-requires
put_type-requires c =
    let s = c.args in
    let P = c.requires.0 in
    let A = P.filling.actuals in
    let q = c.actual-q.result in
    let ne = c.if-q-eq0.false in
    let r = P.room in
    let G = row_some (heap s.a.now s.d.now) s.row.now A.types c.type_word.result (q - 1) A.stand (sym c.actual-q.ensures ∙ (let z : q ≡ suc (q - 1) = omega arith in z)) in
    (record { areas = A.areas; readable = record { type = G.type; reads = G.reads } }, omega arith)

pub returns : goal.returns
returns c =
    let s = c.args in
    let H = heap s.a.now s.d.now in
    let v = c.type_word.result in
    let q = c.actual-q.result in
    let ne = c.if-q-eq0.false in
    record {
      is = λ g hs R S.
          let G = row_some H s.row.now hs v (q - 1) S (sym c.actual-q.ensures ∙ (let z : q ≡ suc (q - 1) = omega arith in z)) in
          let f = parameter_fill H s.p g hs R c.requires.1 in
          let e : G.type ≡ fill hs g = sym (f.0 ∙ ap (λ z. actual_type (nth_type hs z) z tnil) (sym c.type_word.ensures.0) ∙ actual_some H hs v (q - 1) G) in
          subst (λ z. Wrote s.out.now c.put_type.new.out s.at c.put_type.result (words z)) e (c.put_type.ensures.is G.type G.reads);
    }
