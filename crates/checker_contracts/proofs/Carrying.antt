-- The rows that an Include brings: their types can be read.
use mathlib.Core.List.{List}
use Prim.Native.Nat.{ℕ, ◌+◌, ◌*◌, ◌≤◌}
use lib.ListN.{length}
use Rattle.types_rules.specs.Types.{Terms}
use Rattle.checker_rules.specs.Signatures.{Signature}
use Rattle.checker_signatures.specs.Rows.{rows}
use Rattle.checker_signatures.specs.Carried.{Carries}
use Rattle.checker_merging.specs.Merging.{Rows}
use Rattle.checker_lookup.specs.Components.{Component}
use Rattle.checker_contracts.proofs.TableRows.{carries_row}

pub component_rows_lem : (s d w : List ℕ) (base m : ℕ) → base + 2 * m ≤ length w → (q : Signature) (X : Terms) → Carries (Component s d X) q (rows w base m) → Rows s d w base m
component_rows_lem s d w base m inside q X C = record {
  inside = inside;
  readable = λ j l. let x = carries_row (Component s d X) q w base m j C l in record { type = x.1.type; reads = x.1.reads };
}
