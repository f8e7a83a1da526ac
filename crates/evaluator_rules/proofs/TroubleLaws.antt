-- THE NUMBERS 51 TO 55 COME WHERE THEIR ROWS HOLD, AND NOWHERE ELSE (specs/Troubles).
use mathlib.Core.Logic.{◌⊎◌, inl, inr}
use Prim.Native.Nat.{ℕ}
use Rattle.evaluator_rules.specs.Evaluations.{Evaluation, StopsAt}
use Rattle.evaluator_rules.specs.Troubles.{Row, Below, TroubleLaws}
use Rattle.evaluator_rules.proofs.TroublesFound.{found}
use Rattle.evaluator_rules.proofs.TroublesCome.{reached_stops, row_stops}
use Rattle.evaluator_rules.proofs.TroublesWithin.{within_found, within_row}
use Rattle.evaluator_rules.proofs.TroubleRuns.{paragraph_trouble, run_refused}

comes : (t : Evaluation) (w m : ℕ) → Below t w m ⊎ Row w m t → StopsAt t w m
comes t w m (inl (u, r, h)) = reached_stops w m r h
comes t w m (inr h) = row_stops h

pub trouble_laws : TroubleLaws
trouble_laws = record {
  each = λ t w m. (λ h. found t w m h, λ h. comes t w m h);
  all = λ t w m. (λ h. within_found w m t h, λ h. within_row w m t h.0 h.1 h.2);
  paragraph = λ p state scope w m. paragraph_trouble state p scope w m;
  run = λ doc state work w m. run_refused doc state work w m;
}
