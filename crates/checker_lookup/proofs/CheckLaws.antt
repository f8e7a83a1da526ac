-- Theta's findings by number: 31, 32, 37.
use mathlib.Core.Path.{◌≡◌, refl, sym, subst, ◌∙◌}
use mathlib.Core.Bool.{Bool, true, false}
use mathlib.Core.List.{List}
use mathlib.Core.Logic.{inl, ⊎_elim}
use Prim.Native.Nat.{ℕ}
use native.Mathlib.Nat.{eq-zero-or-pos}
use native.Mathlib.Omega.{arith}
use lib.Dec.{ltb}
use borrow.Author.Tests.{lt-ltb, le-ltb}
use Rattle.checker_rules.specs.Conditions.{refuse_if}
use Rattle.checker_rules.specs.Items.{Items, ◌⨾◌, MeetsIn, Typings, Refuses}
use Rattle.checker_rules.specs.Rules.{theta_names}
use Rattle.checker_rules.specs.Scopes.{Scope}
use Rattle.checker_rules.specs.Signatures.{Signature, some_stroked}
use Rattle.checker_signatures.specs.Rows.{rows as rows_of, stroked_rows}
use Rattle.checker_pieces.specs.Stage.{Ghost}
use Rattle.checker_lookup.specs.Thetas.{Idle, RowsOver, RowsPlaced, ThetaChecks}
use Rattle.checker_lookup.proofs.IdleLaws.{idle_refuses}
use Rattle.checker_lookup.proofs.PlacedLaws.{same_ids, stroked_same}

pub idle_if : (b : Bool) (f n : ℕ) → b ≡ false → Idle (refuse_if b f n)
unfolding Idle refuse_if
idle_if b f n e = subst (λ (x : Bool). Idle (refuse_if x f n)) (sym e) tt

-- a refusal, and whatever comes after it
refused_if : (b : Bool) (f n : ℕ) (rest : Items) (P : Typings) → b ≡ true → Refuses (refuse_if b f n ⨾ rest) P f n
unfolding Refuses refuse_if
refused_if b f n rest P e = subst (λ (x : Bool). Refuses (refuse_if x f n ⨾ rest) P f n) (sym e) (inl (refl, refl))

pub no_parameters : (p : ℕ) → p ≡ 0 → ltb 0 p ≡ false
no_parameters p z = le-ltb 0 p (omega arith)

some_parameters : (p : ℕ) → (p ≡ 0 → ⊥) → ltb 0 p ≡ true
some_parameters p ne = ⊎_elim (λ z. absurd (ne z)) (λ z. lt-ltb 0 p (omega arith)) (eq-zero-or-pos p)

module _ (d w w' : List ℕ) (rows base m p k : ℕ) (fine : Bool) (R : RowsPlaced d w w' rows base m k fine) where
  pub checked_names : fine ≡ false → ThetaChecks d w w' rows base m p k 31
  unfolding Refuses
  checked_names e = record {
    below = R.below;
    goes = λ z. absurd (omega arith);
    stops = λ z s G Γ r B n H t rest. inl (R.stops e s G Γ r B n H t);
  }

  module _ (e : fine ≡ true) where
    pub checked_parameters : (p ≡ 0 → ⊥) → ThetaChecks d w w' rows base m p k 32
    checked_parameters ne = record {
      below = R.below;
      goes = λ z. absurd (omega arith);
      stops = λ z s G Γ r B n H t rest.
          idle_refuses (theta_names n k r Γ) (R.passes e s G Γ r B n) (refuse_if (ltb 0 p) 32 n ⨾ refuse_if (some_stroked k r) 37 n ⨾ rest) (MeetsIn (H ⨾ t)) 32 n
          (refused_if (ltb 0 p) 32 n (refuse_if (some_stroked k r) 37 n ⨾ rest) (MeetsIn (H ⨾ t)) (some_parameters p ne));
    }

    module _ (z : p ≡ 0) (b : Bool) (eb : b ≡ stroked_rows k (rows_of w' base m)) where
      stroked : (s : List ℕ) (G : Ghost) (Γ : Scope) (r : Signature) → RowsOver s d w rows base m G Γ r → some_stroked k r ≡ b
      stroked s G Γ r B = stroked_same k r (rows_of w' base m) (B.names ∙ sym (same_ids w w' base m R.names)) ∙ sym eb

      pub checked_strokes : b ≡ true → ThetaChecks d w w' rows base m p k 37
      checked_strokes t = record {
        below = R.below;
        goes = λ y. absurd (omega arith);
        stops = λ y s G Γ r B n H u rest.
            idle_refuses (theta_names n k r Γ) (R.passes e s G Γ r B n) (refuse_if (ltb 0 p) 32 n ⨾ refuse_if (some_stroked k r) 37 n ⨾ rest) (MeetsIn (H ⨾ u)) 37 n
            (idle_refuses (refuse_if (ltb 0 p) 32 n) (idle_if (ltb 0 p) 32 n (no_parameters p z)) (refuse_if (some_stroked k r) 37 n ⨾ rest) (MeetsIn (H ⨾ u)) 37 n
            (refused_if (some_stroked k r) 37 n rest (MeetsIn (H ⨾ u)) (stroked s G Γ r B ∙ t)));
      }

      pub checked_all : b ≡ false → ThetaChecks d w w' rows base m p k 0
      checked_all f = record {
        below = R.below;
        goes = λ y s G Γ r B.
            let u = stroked s G Γ r B ∙ f in
            record { names = R.passes e s G Γ r B; parameters = z; strokes = u; carries = R.carries e s G Γ r B u };
        stops = λ y. absurd (y refl);
      }

pub ruleset check_cases = (checked_names, checked_parameters, checked_strokes, checked_all)
