-- Scopes and tables stay what they are when types are stored, when words outside them change, and when items follow.
use mathlib.Core.Path.{◌≡◌, refl, sym, subst, ◌∙◌}
use mathlib.Core.List.{List}
use Prim.Native.Nat.{ℕ, ◌+◌, ◌*◌, ◌≤◌, ◌<◌}
use native.Mathlib.Omega.{arith}
use lib.ListN.{length}
use Rattle.types_rules.specs.Equations.{In}
use Rattle.types_rules.specs.Types.{Ty, Term}
use Rattle.types_rules.proofs.Terms.{each_map}
use Rattle.checker_rules.specs.Dictionary.{Dictionary}
use Rattle.checker_rules.specs.Items.{Items, ◌⨾◌, Meets, MeetsIn}
use Rattle.checker_rules.specs.Scopes.{Scope}
use Rattle.checker_rules.specs.Signatures.{Signature}
use Rattle.checker_rules.specs.Unknowns.{Valuation}
use Rattle.types_cells.specs.Layout.{area_size, pool_size}
use Rattle.types_cells.specs.Settled.{lower, heap, Reads}
use Rattle.checker_signatures.specs.Rows.{rows, stack}
use Rattle.checker_signatures.specs.Carried.{Carries, Stacked}
use Rattle.checker_signatures.proofs.CarryLaws.{carries_other}
use Rattle.checker_signatures.proofs.RowLaws.{rows_kept}
use Rattle.checker_signatures.proofs.ScopeLaws.{stacked_other, stack_kept}
use Rattle.types_instances.specs.Clean.{Clean}
use Rattle.types_instances.proofs.CleanLaws.{clean_reads, clean_lower}
use Rattle.types_instances.proofs.Moving.{lower_words}
use Rattle.checker_pieces.specs.Piece.{Walked}
use Rattle.checker_pieces.specs.Stage.{Ghost}
use Rattle.checker_lookup.specs.Scoped.{SettledAt, Scoped}
use Rattle.checker_lookup.proofs.HeldLaws.{held_in}
use Rattle.checker_includes.specs.Components.{Placed}
use Rattle.checker_includes.specs.Storing.{Stored}
use Rattle.checker_contracts.specs.Room.{frames_at}
use Rattle.checker_contracts.specs.Visits.{idle, Spared}

-- STORED: a type that is read is read after types were written from `at` on, where the area was clean.
module _ (s s' d : List ℕ) (at at' : ℕ) (size : length s ≡ area_size) (clean : Clean s at) (some : 1 ≤ at) (room : at < pool_size) (S : Stored s s' at at') where
  pub stored_reads : (p : ℕ) (g : Ty) → Reads (heap s d) p g → Reads (heap s' d) p g
  stored_reads p g R = clean_reads s s' d at p g size (S.size ∙ size) some room clean S.before R

  settled_stored : (G : Ghost) (t : Term) (p : ℕ) → SettledAt s d G t p → SettledAt s' d G t p
  settled_stored G t p T = record { over = T.over; type = T.type; reads = stored_reads p T.type T.reads; means = T.means }

  pub scoped_stored : (w : List ℕ) (n : ℕ) (G : Ghost) (Γ : Scope) (D : Dictionary) → Scoped s d w n G Γ D → Scoped s' d w n G Γ D
  scoped_stored w n G Γ D C = record { stacked = stacked_other (SettledAt s d G) (SettledAt s' d G) D (settled_stored G) Γ (stack w 0 n) C.stacked; recorded = C.recorded }

  placed_stored : (H : Items) (U : List ℕ) (t : Term) (p : ℕ) → Placed s d H U t p → Placed s' d H U t p
  placed_stored H U t p P = record {
    typed = record { type = P.typed.type; reads = stored_reads p P.typed.type P.typed.reads; settled = P.typed.settled; over = P.typed.over };
    small = P.small;
  }

  pub carries_stored : (H : Items) (U : List ℕ) (r : Signature) (rs : List (ℕ × ℕ)) → Carries (Placed s d H U) r rs → Carries (Placed s' d H U) r rs
  carries_stored H U r rs C = carries_other (Placed s d H U) (Placed s' d H U) (placed_stored H U) r rs C

-- The pool as it was: nothing is stored.
pub stored_low : (s s' : List ℕ) (at : ℕ) → length s' ≡ length s → at ≤ pool_size → Clean s at → lower s' ≡ lower s → Stored s s' at at
stored_low s s' at e r C l = record { size = e; before = λ i q. lower_words s s' l i (omega arith); after = clean_lower s s' at C l; more = omega arith }

pub stored_on : (s s' s'' : List ℕ) (at at' at'' : ℕ) → Stored s s' at at' → Stored s' s'' at' at'' → Stored s s'' at at''
stored_on s s' s'' at at' at'' A B = record {
  size = B.size ∙ A.size;
  before = λ i q. let m = A.more in B.before i (omega arith) ∙ A.before i q;
  after = B.after;
  more = let a = A.more in let b = B.more in omega arith;
}

-- SPARED: words outside the rows change.
pub spared_refl : (w : List ℕ) (n free : ℕ) → Spared w w n free
spared_refl w n free = record { size = refl; scope = λ i l. refl; index = λ i l m. refl; frames = λ i l m. refl }

pub spared_on : (w w' w'' : List ℕ) (n free : ℕ) → Spared w w' n free → Spared w' w'' n free → Spared w w'' n free
spared_on w w' w'' n free A B = record { size = B.size ∙ A.size; scope = λ i l. B.scope i l ∙ A.scope i l; index = λ i l m. B.index i l m ∙ A.index i l m; frames = λ i l m. B.frames i l m ∙ A.frames i l m }

-- Fewer rows, fewer frames.
pub spared_less : (w w' : List ℕ) (n m free free' : ℕ) → m ≤ n → free' ≤ free → Spared w w' n free → Spared w w' m free'
spared_less w w' n m free free' p q A = record { size = A.size; scope = λ i l. A.scope i (omega arith); index = A.index; frames = λ i l k. A.frames i l (omega arith) }

pub scoped_spared : (s d w w' : List ℕ) (n free : ℕ) (G : Ghost) (Γ : Scope) (D : Dictionary) → Spared w w' n free → Scoped s d w n G Γ D → Scoped s d w' n G Γ D
scoped_spared s d w w' n free G Γ D S C = record {
  stacked = subst (λ st. Stacked (SettledAt s d G) Γ st D) (sym (stack_kept w w' 0 n (λ k l. S.scope k (omega arith)))) C.stacked;
  recorded = held_in D d w w' S.index C.recorded;
}

pub carries_spared : (w w' : List ℕ) (n free base m : ℕ) (R : Term → ℕ → Type 0) (r : Signature) → Spared w w' n free → frames_at ≤ base → base + 2 * m ≤ free →
    Carries R r (rows w base m) → Carries R r (rows w' base m)
carries_spared w w' n free base m R r S l q C = subst (Carries R r) (sym (rows_kept w w' base m (λ k a b. S.frames k (omega arith) (omega arith)))) C

-- LATER: items that say more, about more unknowns.
module _ (s d w : List ℕ) (n : ℕ) (Γ : Scope) (D : Dictionary) (G G' : Ghost) (wider : (x : ℕ) → In x G.mentioned → In x G'.mentioned)
    (says : (τ : Valuation) → Meets (G'.before ⨾ G'.items) τ → Meets (G.before ⨾ G.items) τ) where
  settled_later : (t : Term) (p : ℕ) → SettledAt s d G t p → SettledAt s d G' t p
  settled_later t p T = record {
    over = each_map (λ y. In y G.mentioned) (λ y. In y G'.mentioned) wider t T.over;
    type = T.type;
    reads = T.reads;
    means = λ τ m. T.means τ (says τ m);
  }

  pub scoped_later : Scoped s d w n G Γ D → Scoped s d w n G' Γ D
  scoped_later C = record { stacked = stacked_other (SettledAt s d G) (SettledAt s d G') D settled_later Γ (stack w 0 n) C.stacked; recorded = C.recorded }

-- To what holds between pieces, where the piece is suspended, and back.
pub scoped_idle : (s d w : List ℕ) (n : ℕ) (Γ : Scope) (D : Dictionary) (G : Ghost) → Scoped s d w n G Γ D → Scoped s d w n (idle (G.before ⨾ G.items) G.mentioned) Γ D
unfolding MeetsIn
scoped_idle s d w n Γ D G C = scoped_later s d w n Γ D G (idle (G.before ⨾ G.items) G.mentioned) (λ x i. i) (λ τ m. m.0) C

-- Between pieces.
pub scoped_walked : (s d w : List ℕ) (n : ℕ) (Γ : Scope) (D : Dictionary) (H c : Items) (U U' : List ℕ) (M : ℕ → Type 0) → Walked H c U U' M →
    Scoped s d w n (idle H U) Γ D → Scoped s d w n (idle (H ⨾ c) U') Γ D
unfolding MeetsIn
scoped_walked s d w n Γ D H c U U' M W C = scoped_later s d w n Γ D (idle H U) (idle (H ⨾ c) U') W.wider (λ τ m. (m.0.0, tt)) C

pub carries_later : (s d : List ℕ) (H H' : Items) (U U' : List ℕ) → ((x : ℕ) → In x U → In x U') → ((τ : Valuation) → Meets H' τ → Meets H τ) → (r : Signature) (rs : List (ℕ × ℕ)) →
    Carries (Placed s d H U) r rs → Carries (Placed s d H' U') r rs
carries_later s d H H' U U' wider says r rs C = carries_other (Placed s d H U) (Placed s d H' U') other r rs C
  where
    other : (t : Term) (p : ℕ) → Placed s d H U t p → Placed s d H' U' t p
    other t p P = record {
      typed = record {
        type = P.typed.type;
        reads = P.typed.reads;
        settled = λ τ m. P.typed.settled τ (says τ m);
        over = each_map (λ y. In y U) (λ y. In y U') wider t P.typed.over;
      };
      small = P.small;
    }

pub carries_walked : (s d : List ℕ) (H c : Items) (U U' : List ℕ) (M : ℕ → Type 0) → Walked H c U U' M → (r : Signature) (rs : List (ℕ × ℕ)) →
    Carries (Placed s d H U) r rs → Carries (Placed s d (H ⨾ c) U') r rs
unfolding MeetsIn
carries_walked s d H c U U' M W r rs C = carries_later s d H (H ⨾ c) U U' W.wider (λ τ m. m.0) r rs C
