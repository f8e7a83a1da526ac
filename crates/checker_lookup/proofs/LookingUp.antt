-- Names looked up: in the rows of a scope, then in the dictionary's area.
use mathlib.Core.Path.{◌≡◌, refl, sym, ap, subst, ◌∙◌}
use mathlib.Core.Bool.{Bool, true, false, cond}
use mathlib.Core.List.{List, ◌++◌}
use Prim.Native.Nat.{ℕ, ◌+◌, ◌*◌, ◌≤◌, ◌<◌}
use mathlib.Core.Logic.{⊎_elim}
use native.Mathlib.Omega.{arith}
use native.Mathlib.Nat.{eq-zero-or-pos}
use lib.Dec.{eqb}
use lib.ListN.{length, get_or, take, drop, length-take}
use lib.Seq.{drop-append-add}
use Rattle.reader_rules.specs.Tree.{none}
use Rattle.types_rules.specs.Formed.{WellFormed}
use Rattle.types_rules.specs.Types.{Ty, size}
use Rattle.types_rules.specs.Words.{words}
use Rattle.checker_rules.specs.Dictionary.{Dictionary, blank, ◌▸◌, name_entry, schema_entry, Named, unnamed, of_local, of_global, name_in}
use Rattle.checker_rules.specs.Items.{Items, refusal, Refuses}
use Rattle.checker_rules.specs.Rules.{reference_items}
use Rattle.types_cells.specs.Layout.{dictionary_at, area_size, pool_size}
use Rattle.types_cells.specs.Settled.{lower, heap, Reads, Readable, Entering}
use Rattle.checker_dictionary.specs.Index.{Indexed}
use Rattle.checker_dictionary.specs.Lookup.{parameters_at, type_at, NameFound, Recorded as Entry}
use Rattle.checker_dictionary.proofs.LookupLaws.{name_formed}
use Rattle.checker_signatures.specs.Tables.{Finds}
use Rattle.checker_signatures.proofs.CallLaws.{found_local, no_local}
use Rattle.checker_pieces.specs.Piece.{Stops}
use Rattle.checker_pieces.specs.Stage.{Ruled, node_cells}
use Rattle.checker_pieces.proofs.Stages.{rule_goes, rule_stops, room_less}
use Rattle.checker_lookup.specs.Scoped.{SettledAt, Limited, DictionaryHeld}
use Rattle.checker_lookup.specs.References.{TypedAt, RecordedAt, Generic, Consulted, Global, Referring, Refers}
use Rattle.checker_lookup.proofs.Standing.{entering}

-- A type in the dictionary's area.
pub dictionary_reads : (s d : List ℕ) (p : ℕ) (g : Ty) (after : List ℕ) → length s ≡ area_size → WellFormed g → drop p d ≡ words g ++ after → Reads (heap s d) (dictionary_at + p) g
unfolding heap lower
dictionary_reads s d p g after z f q =
    let l : length (take pool_size s) ≡ pool_size = simp length-take (omega arith) in
    record {
      formed = f;
      after = after;
      words_at = ap (λ (k : ℕ). drop (k + p) (take pool_size s ++ d)) (sym l) ∙ drop-append-add (take pool_size s) d p ∙ q;
    }

-- The limits of a recorded name.
unfoldable WithinLimits : Named → Type 0
WithinLimits unnamed = Unit {0}
WithinLimits (of_local t) = Unit {0}
WithinLimits (of_global p g) = (p ≤ 4) × (size g ≤ 32)

name_limits : (D : Dictionary) (i : ℕ) → Limited D → WithinLimits (name_in i D)
unfolding Limited WithinLimits name_in
name_limits blank i l = tt
name_limits (D ▸ name_entry j p g) i l = go (eqb i j) (name_limits D i l.0)
  where
    go : (b : Bool) → WithinLimits (name_in i D) → WithinLimits (cond b (of_global p g) (name_in i D))
    go true h = (l.1, l.2)
    go false h = h
name_limits (D ▸ schema_entry s p g) i l = name_limits D i l.0

pub name_limited : (D : Dictionary) (i p : ℕ) (g : Ty) → Limited D → name_in i D ≡ of_global p g → (p ≤ 4) × (size g ≤ 32)
unfolding WithinLimits
name_limited D i p g l e = subst WithinLimits e (name_limits D i l)

pub refused : (H t : Items) (f m : ℕ) → Stops H t (refusal f m) f m
unfolding Refuses
refused H t f m = (refl, refl)

-- A NAME OF THE DICTIONARY, whose entry is e.
module _ (s d w : List ℕ) (n top id e : ℕ) (found : (D : Dictionary) → Indexed D d w → NameFound D d id e) where
  pub not_recorded : e ≡ 0 → (cell n' top' : ℕ) → Global s s d w n top id 31 cell n' top'
  unfolding reference_items
  not_recorded z cell n' top' = record {
    low = refl;
    uses = λ q. absurd (omega arith);
    ruled = λ G S k U D R.
        rule_stops s s d n top k 31 cell n' top' G (reference_items k none (name_in id D)) (λ q. omega arith)
        (subst (λ (x : Named). Stops G.before G.items (reference_items k none x) 31 k) (sym ((found D R.holds).absent z)) (refused G.before G.items 31 k));
  }

  module _ (some : e ≡ 0 → ⊥) (m : ℕ) (em : m ≡ parameters_at d e) (q : ℕ) (eq : q ≡ type_at d e) where
    module _ (D : Dictionary) (R : DictionaryHeld D d w) where
      pub entry_some : 1 ≤ e
      entry_some = ⊎_elim (λ z. absurd (some z)) (λ z. omega arith) (eq-zero-or-pos e)

      abbrev pub entry : Entry Named (name_in id D) of_global d e
      entry = (found D R.holds).present entry_some

      pub named : name_in id D ≡ of_global m entry.type
      named = entry.means ∙ ap (λ (x : ℕ). of_global x entry.type) (sym (em ∙ entry.counted))

      pub type_reads : length s ≡ area_size → Reads (heap s d) (dictionary_at + q) entry.type
      type_reads z =
          dictionary_reads s d q entry.type entry.after z (name_formed D id m entry.type R.formed named) (ap (λ (x : ℕ). drop x d) eq ∙ entry.written)

    unfoldable pub recorded_at : Consulted s d w n top → RecordedAt s d n top (dictionary_at + q) m
    recorded_at B =
        let D = B.dictionary in
        let R = B.recorded in
        let l = name_limited D id m (entry D R).type R.limited (named D R) in
        record {
          ghost = B.ghost;
          stands = B.stands;
          node = B.node;
          unvisited = B.unvisited;
          type = (entry D R).type;
          reads = type_reads D R B.stands.piece.solved.held.size;
          small = l.1;
          few = l.0;
          room = B.room;
        }

    pub global : (s' : List ℕ) (cell n' top' : ℕ) → Generic s s' d n top (dictionary_at + q) m cell n' top' → Global s s' d w n top id 0 cell n' top'
    unfolding reference_items
    global s' cell n' top' X = record {
      low = X.low;
      uses = λ z y Q. X.uses y (room_less s n top (36 + y) (node_cells + y) (omega arith) Q);
      ruled = λ G S k U D R.
          subst (λ (x : Named). Ruled s s' d n top k 0 cell n' top' G (reference_items k none x)) (sym (named D R))
          (rule_goes s s' d n top k 0 cell n' top' G (reference_items k none (of_global m (entry D R).type)) refl
          (X.typed G S (entry D R).type (type_reads D R S.piece.solved.held.size) k U));
    }

-- A NAME IN SCOPE, whose row is r.
module _ (s d w : List ℕ) (n top rows id r : ℕ) (B : Referring s d w n top rows) (F : Finds w 0 rows id r) where
  module _ (l : r < rows) (p : ℕ) (e : p ≡ get_or w (2 * r + 1) 0) where
    here : get_or w (0 + 2 * r + 1) 0 ≡ p
    here = let z : 0 + 2 * r + 1 ≡ 2 * r + 1 = omega arith in ap (λ (k : ℕ). get_or w k 0) z ∙ sym e

    pub local_entering : Entering s d n p
    local_entering =
        let x = found_local (SettledAt s d B.ghost) B.dictionary w 0 rows B.scope B.scoped.stacked id r F l in
        entering s d n top p B.ghost B.stands (room_less s n top 1 node_cells (omega arith) B.room) (subst (Readable (heap s d)) here (record { type = x.2.type; reads = x.2.reads }))

    pub local_refers : (s' : List ℕ) (cell n' top' : ℕ) → TypedAt s s' d n top p cell n' top' → Refers s s' d w n top rows id 0 cell n' top'
    unfolding reference_items
    local_refers s' cell n' top' X = record {
      low = X.low;
      uses = λ z y Q. X.uses y (room_less s n top (1 + y) (node_cells + y) (omega arith) Q);
      ruled = λ G S k U Γ D C.
          let x = found_local (SettledAt s d G) D w 0 rows Γ C.stacked id r F l in
          subst (λ (y : Named). Ruled s s' d n top k 0 cell n' top' G (reference_items k none y)) (sym x.1)
          (rule_goes s s' d n top k 0 cell n' top' G (reference_items k none (of_local x.0)) refl
          (X.typed G S x.0 (subst (SettledAt s d G x.0) here x.2) k U));
    }

  unfoldable pub consulted : Consulted s d w n top
  consulted = record { ghost = B.ghost; stands = B.stands; node = B.node; unvisited = B.unvisited; dictionary = B.dictionary; recorded = B.scoped.recorded; room = B.room }

  pub global_refers : rows ≤ r → (s' : List ℕ) (number cell n' top' : ℕ) → Global s s' d w n top id number cell n' top' → Refers s s' d w n top rows id number cell n' top'
  global_refers l s' number cell n' top' X = record {
    low = X.low;
    uses = X.uses;
    ruled = λ G S k U Γ D C.
        subst (λ (y : Named). Ruled s s' d n top k number cell n' top' G (reference_items k none y)) (sym (no_local (SettledAt s d G) D w 0 rows Γ C.stacked id r F l))
        (X.ruled G S k U D C.recorded);
  }
