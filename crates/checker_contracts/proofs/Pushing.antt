-- A Text's table pushed on the scope: the scope inside the Text.
use mathlib.Core.Path.{ap, subst, ◌∙◌}
use mathlib.Core.List.{List}
use Prim.Native.Nat.{ℕ, ◌+◌, ◌*◌, ◌≤◌}
use native.Mathlib.Omega.{arith}
use lib.ListN.{length, get_or}
use lib.Seq.{length-sets}
use Rattle.types_rules.specs.Types.{Term}
use Rattle.checker_rules.specs.Dictionary.{Dictionary}
use Rattle.checker_rules.specs.Items.{Items, MeetsIn}
use Rattle.checker_rules.specs.Scopes.{Scope, enter}
use Rattle.checker_rules.specs.Signatures.{Signature}
use Rattle.checker_signatures.specs.Rows.{rows, flat, stack}
use Rattle.checker_signatures.specs.Carried.{Carries, Stacked}
use Rattle.checker_signatures.specs.Tables.{Pushed}
use Rattle.checker_signatures.proofs.CallLaws.{pushed_signature}
use Rattle.checker_signatures.proofs.CarryLaws.{carries_other}
use Rattle.checker_signatures.proofs.RowLaws.{get_d_below, get_d_above, flat_length, rows_length_lem}
use Rattle.checker_lookup.specs.Scoped.{SettledAt, Scoped}
use Rattle.checker_lookup.proofs.HeldLaws.{held_in}
use Rattle.checker_includes.specs.Components.{Placed}
use Rattle.checker_contracts.specs.Visits.{idle, Spared}

-- The m rows at base are pushed on n rows.
module _ (w v : List ℕ) (n base m r : ℕ) (P : Pushed w v 0 n (rows w base m) r) where
  -- They stand below the frames.
  pub pushed_spared : (free : ℕ) → n + m ≤ 256 → Spared w v n free
  pushed_spared free l =
      let rs = rows w base m in
      let z = length-sets w (0 + 2 * n) (flat rs) in
      let f = flat_length rs in
      let c = rows_length_lem w base m in
      record {
        size = ap length P.words ∙ z;
        scope = λ i p. ap (λ u. get_or u i 0) P.words ∙ get_d_below (flat rs) w (0 + 2 * n) i (omega arith);
        index = λ i p q. ap (λ u. get_or u i 0) P.words ∙ get_d_above (flat rs) w (0 + 2 * n) i (omega arith);
        frames = λ i p q. ap (λ u. get_or u i 0) P.words ∙ get_d_above (flat rs) w (0 + 2 * n) i (omega arith);
      }

  pub pushed_scoped : (s d : List ℕ) (H : Items) (U : List ℕ) (Γ : Scope) (D : Dictionary) (q : Signature) → 2 * (n + m) ≤ length w → n + m ≤ 256 →
      Carries (Placed s d H U) q (rows w base m) → Scoped s d w n (idle H U) Γ D → Scoped s d v (n + m) (idle H U) (enter q Γ) D
  unfolding MeetsIn
  pushed_scoped s d H U Γ D q l few K C = record {
    stacked = subst (λ z. Stacked (SettledAt s d (idle H U)) (enter q Γ) (stack v 0 z) D) (P.count ∙ ap (λ z. n + z) (rows_length_lem w base m))
        (pushed_signature (SettledAt s d (idle H U)) D w 0 n Γ C.stacked v base m r q P (omega arith)
        (carries_other (Placed s d H U) (SettledAt s d (idle H U)) settled q (rows w base m) K));
    recorded = held_in D d w v (pushed_spared 0 few).index C.recorded;
  }
    where
      settled : (t : Term) (p : ℕ) → Placed s d H U t p → SettledAt s d (idle H U) t p
      settled t p T = record { over = T.typed.over; type = T.typed.type; reads = T.typed.reads; means = λ τ h. T.typed.settled τ h.0 }
