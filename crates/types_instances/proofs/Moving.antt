-- Words written over a part of an area: what is read there, and elsewhere.
use mathlib.Core.Path.{◌≡◌, refl, sym, ap, ◌∙◌}
use mathlib.Core.List.{List, [], ◌∷◌, ◌++◌}
use mathlib.Core.Logic.{⊎_elim}
use Prim.Native.Nat.{ℕ, zero, suc, ◌+◌, ◌≤◌, ◌<◌}
use native.Mathlib.Omega.{arith}
use lib.ListN.{length, get_or, set, drop, length-set, take-append-drop}
use lib.Seq.{sets, length-sets, get_or-set_same, get_or-set_other, get_or-take, ext_get_or}
use Rattle.types_rules.specs.Types.{Ty}
use Rattle.types_rules.specs.Formed.{WellFormed}
use Rattle.types_rules.specs.Words.{words}
use Rattle.types_cells.specs.Layout.{pool_size, links_at, records_at, area_size}
use Rattle.types_cells.specs.Store.{frozen, field_at, run}
use Rattle.types_cells.specs.Settled.{lower, heap, word_at, Reads}
use Rattle.types_cells.proofs.Words.{run_at, run_length, frozen_length}
use Rattle.types_cells.proofs.Reading.{word_in, inside, heap_length, heap_low, heap_high}
use Rattle.types_cells.proofs.Growing.{frozen_at}
use Rattle.types_instances.specs.Moved.{Below, Alike}

-- Writing leaves what lies before and after.
pub sets_before : (l : List ℕ) (at : ℕ) (ws : List ℕ) (i : ℕ) → i < at → get_or (sets l at ws) i 0 ≡ get_or l i 0
sets_before l at [] i q = refl
sets_before l at (w ∷ ws) i q = sets_before (set l at w) (suc at) ws i (omega arith) ∙ get_or-set_other l at i w 0 (λ e. omega arith)

pub sets_after : (l : List ℕ) (at : ℕ) (ws : List ℕ) (i : ℕ) → at + length ws ≤ i → get_or (sets l at ws) i 0 ≡ get_or l i 0
sets_after l at [] i q = refl
sets_after l at (w ∷ ws) i q = sets_after (set l at w) (suc at) ws i (omega arith) ∙ get_or-set_other l at i w 0 (λ e. omega arith)

pub sets_in : (l : List ℕ) (at : ℕ) (ws : List ℕ) (j : ℕ) → at + length ws ≤ length l → j < length ws → get_or (sets l at ws) (at + j) 0 ≡ get_or ws j 0
sets_in l at [] j r q = absurd (omega arith)
sets_in l at (w ∷ ws) zero r q =
    let e : at + 0 ≡ at = omega arith in
    ap (λ z. get_or (sets (set l at w) (suc at) ws) z 0) e ∙ sets_before (set l at w) (suc at) ws at (omega arith) ∙ get_or-set_same l at w 0 (omega arith)
sets_in l at (w ∷ ws) (suc j) r q =
    let e : at + suc j ≡ suc at + j = omega arith in
    let z = length-set l at w in
    ap (λ z. get_or (sets (set l at w) (suc at) ws) z 0) e ∙ sets_in (set l at w) (suc at) ws j (omega arith) (omega arith)

pub sets_run : (l : List ℕ) (at : ℕ) (ws : List ℕ) → at + length ws ≤ length l → run (sets l at ws) at (length ws) ≡ ws
sets_run l at ws r =
    let z = length-sets l at ws in
    let e = run_length (sets l at ws) at (length ws) (omega arith) in
    ext_get_or 0 (run (sets l at ws) at (length ws)) ws e (λ j q. let y : j < length ws = omega arith in run_at (sets l at ws) at (length ws) j y ∙ sets_in l at ws j r y)

pub lower_at_lem : (s : List ℕ) (i : ℕ) → i < pool_size → get_or (lower s) i 0 ≡ get_or s i 0
unfolding lower
lower_at_lem s i l = get_or-take pool_size s i 0 l

pub lower_words : (s s' : List ℕ) → lower s' ≡ lower s → (i : ℕ) → i < pool_size → get_or s' i 0 ≡ get_or s i 0
lower_words s s' e i l = sym (lower_at_lem s' i l) ∙ ap (λ z. get_or z i 0) e ∙ lower_at_lem s i l

-- A type is read where its words stand.
pub reads_at : (H : List ℕ) (p : ℕ) (g : Ty) → WellFormed g → p + length (words g) ≤ length H → ((j : ℕ) → j < length (words g) → get_or H (p + j) 0 ≡ get_or (words g) j 0) → Reads H p g
unfolding run
reads_at H p g w r h =
    let e = run_length H p (length (words g)) r in
    let q : run H p (length (words g)) ≡ words g =
    ext_get_or 0 (run H p (length (words g))) (words g) e (λ j l. let y : j < length (words g) = omega arith in run_at H p (length (words g)) j y ∙ h j y) in
    record {
      formed = w;
      after = drop (length (words g)) (drop p H);
      words_at = sym (take-append-drop (length (words g)) (drop p H)) ∙ ap (λ z. z ++ drop (length (words g)) (drop p H)) q;
    }

-- Two areas that have the same words below `at` read the same types there, and in the dictionary.
pub below_reads : (s s' d : List ℕ) (at p : ℕ) (g : Ty) → length s ≡ area_size → length s' ≡ area_size → at ≤ pool_size → ((i : ℕ) → i < at → get_or s' i 0 ≡ get_or s i 0) → Below at p g →
    Reads (heap s d) p g → Reads (heap s' d) p g
below_reads s s' d at p g e e' r h b R =
    let i = inside (heap s d) p g R in
    let z = heap_length s d e in
    let z' = heap_length s' d e' in
    reads_at (heap s' d) p g R.formed (omega arith)
    (λ j l. ⊎_elim
    (λ q. heap_low s' d (p + j) e' (omega arith) ∙ h (p + j) (omega arith) ∙ sym (heap_low s d (p + j) e (omega arith)))
    (λ q. heap_high s' d (p + j) e' (omega arith) ∙ sym (heap_high s d (p + j) e (omega arith))) b
    ∙ word_in (heap s d) p g R j l)

-- The words ws written over the caller's part.
module _ (s : List ℕ) (at : ℕ) (ws : List ℕ) (size : length s ≡ area_size) (room : at + length ws ≤ pool_size) where
  abbrev s' : List ℕ
  s' = sets s at ws

  pub moved_size : length s' ≡ length s
  moved_size = length-sets s at ws

  -- The store is untouched.
  pub moved_high : (i : ℕ) → pool_size ≤ i → get_or s' i 0 ≡ get_or s i 0
  moved_high i l = sets_after s at ws i (omega arith)

  pub moved_frozen : frozen s' ≡ frozen s
  moved_frozen =
      let e = frozen_length s size in
      let e' = frozen_length s' (moved_size ∙ size) in
      ext_get_or 0 (frozen s') (frozen s) (e' ∙ sym e) (λ i l. frozen_at s' i ∙ moved_high (records_at + i) (omega arith) ∙ sym (frozen_at s i))

  pub moved_word : (i : ℕ) → word_at s' i ≡ word_at s i
  unfolding word_at
  moved_word i = moved_high (links_at + i) (omega arith)

  pub moved_alike : (n top : ℕ) → Alike s s' n top
  moved_alike n top = record {
    size = moved_size;
    links = λ i l. moved_word i;
    fields = λ i j l m. ap (λ w. field_at w i j) moved_frozen;
    runs = λ p l m. ap (λ w. get_or w p 0) moved_frozen;
  }

  -- Types below `at`, and in the dictionary, are still read.
  pub moved_reads : (d : List ℕ) (p : ℕ) (g : Ty) → Below at p g → Reads (heap s d) p g → Reads (heap s' d) p g
  moved_reads d p g b R = below_reads s s' d at p g size (moved_size ∙ size) (omega arith) (λ i l. sets_before s at ws i l) b R

  pub moved_new : (d : List ℕ) (g : Ty) → WellFormed g → ws ≡ words g → Reads (heap s' d) at g
  moved_new d g w e =
      let e' = moved_size ∙ size in
      let z = heap_length s' d e' in
      let y = ap length e in
      reads_at (heap s' d) at g w (omega arith)
      (λ j l. heap_low s' d (at + j) e' (omega arith) ∙ sets_in s at ws j (omega arith) (omega arith) ∙ ap (λ k. get_or k j 0) e)
