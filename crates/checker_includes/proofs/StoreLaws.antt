-- The type of a cell stored in the caller's part.
use mathlib.Core.Path.{◌≡◌, refl, sym, ap, subst, ◌∙◌}
use mathlib.Core.List.{List}
use mathlib.Core.Logic.{inl, inr}
use Prim.Native.Nat.{ℕ, ◌+◌, ◌-◌, ◌≤◌, ◌<◌}
use native.Mathlib.Omega.{arith}
use lib.ListN.{length, get_or}
use lib.Seq.{sets, length-sets}
use Rattle.types_rules.specs.Types.{Ty, size}
use Rattle.types_rules.specs.Formed.{WellFormed}
use Rattle.types_rules.specs.Words.{words}
use Rattle.types_solver.specs.Sizes.{cap}
use Rattle.types_cells.specs.Layout.{area_size, pool_size}
use Rattle.types_cells.specs.Settled.{heap, Reads}
use Rattle.types_solver.proofs.Marking.{cap_cases}
use Rattle.types_cells.proofs.Reading.{heap_length, heap_low}
use Rattle.types_instances.proofs.FillSizes.{size_few}
use Rattle.types_instances.proofs.Moving.{sets_before, sets_in, reads_at}
use Rattle.checker_pieces.specs.Stage.{Ghost}
use Rattle.checker_pieces.specs.Closed.{Shut, SizeIs, Wording, WordsAre}
use Rattle.checker_includes.specs.Components.{StandsFor}
use Rattle.checker_includes.specs.Large.{large}
use Rattle.checker_includes.specs.Storing.{Scratch, StoreAsk, TypeStored}
use Rattle.checker_includes.specs.Keeping.{Written, ShownAsk, ShownWords, Moved}
use Rattle.checker_includes.proofs.LargeLaws.{powers_length, powers_size, powers_formed}

-- Words written to the work area from `free` on.
scratch_sets : (w : List ℕ) (free : ℕ) (ws : List ℕ) → Scratch w (sets w free ws) free
scratch_sets w free ws = record { size = length-sets w free ws; before = λ i l. sets_before w free ws i l }

written_sets : (w : List ℕ) (free e : ℕ) (g : Ty) → free + length (words g) ≤ length w → e ≡ free + length (words g) → Written (sets w free (words g)) free e g
written_sets w free e g r q = record { fits = omega arith; words_at = λ x l. sets_in w free (words g) x r l }

over_size : (g : Ty) (v : ℕ) → v ≡ cap (size g) → 32 < v → 32 < size g
over_size g v e l = cap_cases (size g) _ (λ m q. omega arith) (λ m q. omega arith)

module _ (s d w : List ℕ) (n c free : ℕ) (A : ShownAsk s d w n c free) (v : ℕ) (Z : SizeIs s d n c v) where
  -- A type over size 32.
  pub shown_large : 32 < v → (w' : List ℕ) → w' ≡ sets w free (words large) → ShownWords s d w w' n c free (free + 33)
  shown_large l w' q =
      let z = powers_length 32 in
      let y = powers_size 32 in
      let r = A.scratch in
      subst (λ x. ShownWords s d w x n c free (free + 33)) (sym q)
      (record {
        scratch = scratch_sets w free (words large);
        more = omega arith;
        short = omega arith;
        shows = λ G S f. (large, powers_formed 32, written_sets w free (free + 33) large (omega arith) (omega arith), inr (omega arith, over_size (S.type c) v (Z G S) l));
      })

  -- A type of size 32 at most.
  module _ (l : v ≤ 32) where
    few : (G : Ghost) (S : Shut s d n G) → (v ≡ size (S.type c)) × (length (words (S.type c)) ≤ 95)
    few G S = size_few (S.type c) v (Z G S) l

    pub wording_asked : Wording s d n c free
    wording_asked = let q = (few A.sizing.ghost A.sizing.shut).0 in record { sizing = A.sizing; small = omega arith; place = A.near }

    pub shown_small : (w' : List ℕ) (e : ℕ) → WordsAre s d w w' n c free e → ShownWords s d w w' n c free e
    shown_small w' e W =
        let G₀ = A.sizing.ghost in
        let S₀ = A.sizing.shut in
        let q = (few G₀ S₀).1 in
        let x = (W G₀ S₀).end in
        record {
          scratch = subst (λ u. Scratch w u free) (sym (W G₀ S₀).area) (scratch_sets w free (words (S₀.type c)));
          more = omega arith;
          short = omega arith;
          shows = λ G S f. (S.type c, f, written G S, inl refl);
        }
      where
        written : (G : Ghost) (S : Shut s d n G) → Written w' free e (S.type c)
        written G S =
            let q = (few G S).1 in
            let r = A.scratch in
            subst (λ u. Written u free e (S.type c)) (sym (W G S).area) (written_sets w free e (S.type c) (omega arith) (W G S).end)

-- Words that were moved to `at` are read there.
pub moved_reads : (s s' d w : List ℕ) (at free k end' o : ℕ) (g : Ty) → length s ≡ area_size → at + k ≤ pool_size → Moved s s' w at free k end' → WellFormed g → Written w (free + o) (free + k) g →
    Reads (heap s' d) (at + o) g
moved_reads s s' d w at free k end' o g size room M formed W =
    let f = W.fits in
    let size' = M.stored.size ∙ size in
    let z = heap_length s' d size' in
    reads_at (heap s' d) (at + o) g formed (omega arith)
    (λ j l.
    let x : at + o + j ≡ at + (o + j) = omega arith in
    let y : free + (o + j) ≡ free + o + j = omega arith in
    heap_low s' d (at + o + j) size' (omega arith) ∙ ap (λ q. get_or s' q 0) x ∙ M.words (o + j) (omega arith) ∙ ap (λ q. get_or w q 0) y ∙ W.words_at j l)

pub type_stored : (s d w : List ℕ) (n c at end free : ℕ) → StoreAsk s d w n c at end free → (w' : List ℕ) (e : ℕ) → ShownWords s d w w' n c free e → (s' : List ℕ) (end' : ℕ) →
    Moved s s' w' at free (e - free) end' → TypeStored s s' d w w' n c at free end'
type_stored s d w n c at end free A w' e W s' end' M =
    let b = W.short in
    let m = M.short in
    record { stored = M.stored; scratch = W.scratch; short = omega arith; stands = stands' }
  where
    stands' : (G : Ghost) (S : Shut s d n G) → WellFormed (S.type c) → (h : Ty) × Reads (heap s' d) at h × StandsFor h (S.type c)
    stands' G S f =
        let X = W.shows G S f in
        let a = W.more in
        let b = W.short in
        let p : at + 0 ≡ at = omega arith in
        let q : free ≡ free + 0 = omega arith in
        let r : e ≡ free + (e - free) = omega arith in
        let t = A.room in
        let u = A.before in
        let Y = subst (λ z. Written w' (free + 0) z X.0) r (subst (λ z. Written w' z e X.0) q X.2) in
        (X.0, subst (λ z. Reads (heap s' d) z X.0) p (moved_reads s s' d w' at free (e - free) end' 0 X.0 A.size (omega arith) M X.1 Y), X.3)
