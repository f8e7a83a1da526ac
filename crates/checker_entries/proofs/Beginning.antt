-- A paragraph begins with no items before it; when it ends, what is said after no items is said of any table.
use mathlib.Core.Path.{◌≡◌, refl}
use mathlib.Core.List.{List, []}
use mathlib.Core.Logic.{inl}
use Prim.Native.Nat.{ℕ, ◌≤◌, ◌<◌, ◌^◌}
use native.Mathlib.Omega.{arith}
use lib.ListN.{length}
use Rattle.types_rules.specs.Types.{integer_type}
use Rattle.checker_rules.specs.Check.{check_work_words}
use Rattle.checker_rules.specs.Dictionary.{Dictionary}
use Rattle.checker_rules.specs.Items.{Items, skip, Any, Passes, Refuses, MeetsIn}
use Rattle.checker_rules.specs.Scopes.{Scope, globals}
use Rattle.checker_rules.proofs.ItemLaws.{passes_ext, refuses_ext}
use Rattle.checker_signatures.specs.Rows.{stack}
use Rattle.checker_signatures.specs.Carried.{Stacked}
use Rattle.types_instances.specs.Clean.{Clean}
use Rattle.checker_pieces.specs.Piece.{Steady}
use Rattle.checker_lookup.specs.Scoped.{Scoped, DictionaryHeld}
use Rattle.checker_contracts.specs.Predicates.{Walking}
use Rattle.checker_contracts.specs.Room.{Between, frames_at}
use Rattle.checker_contracts.specs.Visits.{Fresh, EachOnce, idle}
use Rattle.types_cells.specs.Layout.{area_size}

pub nothing_before : Steady skip []
unfolding MeetsIn Passes
nothing_before = record { passes = tt; local = λ τ τ' h m. tt; some = (λ x. integer_type, tt) }

pub nothing_known : (l : List ℕ) → Fresh l []
nothing_known l x o i = i

pub no_rows : (s d w : List ℕ) (D : Dictionary) → DictionaryHeld D d w → Scoped s d w 0 (idle skip []) (globals D) D
unfolding Stacked stack
no_rows s d w D R = record { stacked = refl; recorded = R }

-- ROOM: 10 nodes on a path below the paragraph, after 4 parameters at most.
pub room_below : (w : List ℕ) (rows at : ℕ) → check_work_words ≤ length w → rows ≤ 4 → 1 ≤ at → at ≤ 17 → Between w rows at frames_at 10 24
room_below w rows at z r o p = record { wide = z; stack = omega arith; low = omega arith; frames = omega arith; some = o; pool = omega arith; few = omega arith }

pub walking_below : (s d w : List ℕ) (rows at : ℕ) (l : List ℕ) (Γ : Scope) (D : Dictionary) → length s ≡ area_size → length d < 2 ^ 31 → Clean s at → EachOnce l →
    Between w rows at frames_at 10 24 → Scoped s d w rows (idle skip []) Γ D → Walking s d w rows at frames_at 10 l
walking_below s d w rows at l Γ D z f c o B C = record {
  before = skip;
  known = [];
  steady = nothing_before;
  scope = Γ;
  dictionary = D;
  scoped = C;
  fresh = nothing_known l;
  once = o;
  size = z;
  few = f;
  clean = c;
  bound = 24;
  crowd = inl (omega arith);
  room = B;
}

-- THE END.
pub passes_any : (c : Items) → Passes c (MeetsIn skip) → Passes c Any
unfolding MeetsIn
passes_any c p = passes_ext c (MeetsIn skip) Any (λ ε τ. (λ h. tt, λ h. tt)) p

pub refuses_any : (c : Items) (f m : ℕ) → Refuses c (MeetsIn skip) f m → Refuses c Any f m
unfolding MeetsIn
refuses_any c f m r = refuses_ext c (MeetsIn skip) Any f m (λ ε τ. (λ h. tt, λ h. tt)) r
