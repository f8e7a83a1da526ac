-- Rows that stand for a signature, one by one.
use mathlib.Core.Path.{◌≡◌, refl, sym, ap, subst, ◌∙◌}
use mathlib.Core.List.{List, [], ◌∷◌}
use Prim.Native.Nat.{ℕ, zero, suc, ◌+◌, ◌*◌, ◌≤◌, ◌<◌}
use native.Mathlib.Omega.{arith}
use lib.ListN.{length, get_or}
use Rattle.reader_rules.specs.Decode.{pairs_from}
use Rattle.types_rules.specs.Types.{Term}
use Rattle.checker_rules.specs.Items.{Items}
use Rattle.checker_rules.specs.Signatures.{Signature, no_names, naming}
use Rattle.checker_signatures.specs.Rows.{rows}
use Rattle.checker_signatures.specs.Carried.{Carries}
use Rattle.checker_merging.specs.Merging.{Rows}
use Rattle.checker_includes.specs.Components.{Placed}

pub carries_row : (R : Term → ℕ → Type 0) (r : Signature) (w : List ℕ) (base m j : ℕ) → Carries R r (rows w base m) → j < m → (t : Term) × R t (get_or w (base + 2 * j + 1) 0)
unfolding Carries pairs_from
carries_row R r w base zero j C l = absurd (omega arith)
carries_row R no_names w base (suc m) j C l = absurd C
carries_row R (naming i t r) w base (suc m) zero C l = (t, subst (λ z. R t (get_or w z 0)) (let z : suc base ≡ base + 2 * 0 + 1 = omega arith in z) C.1)
carries_row R (naming i t r) w base (suc m) (suc j) C l =
    let X = carries_row R r w (suc (suc base)) m j C.2 (omega arith) in
    (X.0, subst (λ z. R X.0 (get_or w z 0)) (let z : suc (suc base) + 2 * j + 1 ≡ base + 2 * suc j + 1 = omega arith in z) X.1)

-- Their types can be read.
pub rows_ready : (s d w : List ℕ) (base m : ℕ) (H : Items) (U : List ℕ) (r : Signature) → Carries (Placed s d H U) r (rows w base m) → base + 2 * m ≤ length w → Rows s d w base m
rows_ready s d w base m H U r C l = record {
  inside = l;
  readable = λ j q. let X = carries_row (Placed s d H U) r w base m j C q in record { type = X.1.typed.type; reads = X.1.typed.reads };
}
