-- New cells beside settled ones, and a settled type as a new cell.
use mathlib.Core.Path.{◌≡◌, refl, sym, ap, subst, ◌∙◌}
use mathlib.Core.Bool.{true}
use mathlib.Core.List.{List}
use mathlib.Core.Logic.{⊎_elim}
use Prim.Native.Nat.{ℕ, suc, ◌+◌, ◌*◌, ◌-◌, ◌≤◌, ◌<◌}
use native.Mathlib.Omega.{arith}
use native.Mathlib.Nat.{eq-or-lt_of_le}
use lib.ListN.{length, set}
use lib.Seq.{take-set-le}
use Rattle.types_rules.specs.Follows.{unk}
use Rattle.types_rules.specs.Trees.{finite}
use Rattle.types_rules.specs.Types.{Ty}
use Rattle.types_cells.specs.Layout.{max_cells, pool_size, links_at, records_at, arguments_at, firsts_at, counts_at, settled_from, first_run, area_size}
use Rattle.types_cells.specs.Store.{frozen, tag_at, load, view, view_of, Held}
use Rattle.types_cells.specs.Calls.{put, Above, Made}
use Rattle.types_cells.specs.Settled.{lower, heap, Reads, Readable, word_at, Pinned, Obeys, Pin, Settling, Entering, Entered}
use Rattle.types_cells.proofs.Growing.{put_other, put_0, there, t_at, made_above, made_load}
use Rattle.types_cells.proofs.Words.{link_new}
use Rattle.types_cells.proofs.SettlingLaws.{heap_kept, settled, settled_before, settled_type, settled_after, solved_kept}

-- Where cell n is made, whatever its words.
module _ (s d : List ℕ) (n t a f c : ℕ) (size : length s ≡ area_size) (l : n < max_cells) where
  abbrev s₁ : List ℕ
  s₁ = put s n t a f c

  abbrev a₁ : List ℕ
  a₁ = set s (links_at + n) 0

  abbrev a₂ : List ℕ
  a₂ = set a₁ (records_at + 4 * n) t

  abbrev a₃ : List ℕ
  a₃ = set a₂ (arguments_at + 4 * n) a

  abbrev a₄ : List ℕ
  a₄ = set a₃ (firsts_at + 4 * n) f

  pub made_low : lower s₁ ≡ lower s
  unfolding lower put
  made_low =
      take-set-le pool_size a₄ (counts_at + 4 * n) c (omega arith) ∙ take-set-le pool_size a₃ (firsts_at + 4 * n) f (omega arith) ∙ take-set-le pool_size a₂ (arguments_at + 4 * n) a (omega arith)
      ∙ take-set-le pool_size a₁ (records_at + 4 * n) t (omega arith) ∙ take-set-le pool_size s (links_at + n) 0 (omega arith)

  word_old : (i : ℕ) → i < n → word_at s₁ i ≡ word_at s i
  unfolding word_at
  word_old i m = put_other s n t a f c size l (links_at + i) (λ e. omega arith) (λ e. omega arith) (λ e. omega arith) (λ e. omega arith) (λ e. omega arith)

  word_new : word_at s₁ n ≡ 0
  unfolding word_at
  word_new = put_0 s n t a f c size l

  eh : heap s₁ d ≡ heap s d
  eh = heap_kept s s₁ d made_low

  old_i : (i : ℕ) → i < suc n → settled_from ≤ word_at s₁ i → i < n
  old_i i m v = ⊎_elim (λ e. absurd (let z = ap (word_at s₁) e in let y = word_new in omega arith)) (λ q. q) (eq-or-lt_of_le (let z : i ≤ n = omega arith in z))

  pub made_pinned : Pinned s d n → Pinned s₁ d (suc n)
  made_pinned P = record {
    reads = λ i m v. let o = old_i i m v in let e = word_old i o in
        subst (λ z. Readable z (word_at s₁ i - settled_from)) (sym eh) (subst (λ z. Readable (heap s d) (z - settled_from)) (sym e) (P.reads i o (omega arith)));
    bare = λ i m v. let o = old_i i m v in let e = word_old i o in there s n t a f c size l i 0 o (omega arith) ∙ P.bare i o (omega arith);
  }

  pub made_before : (σ : ℕ → Ty) → Obeys s₁ d (suc n) σ → Obeys s d n σ
  made_before σ O i m v g R =
      let e = word_old i m in O i (omega arith) (omega arith) g (subst (λ z. Reads z (word_at s₁ i - settled_from) g) (sym eh) (subst (λ z. Reads (heap s d) (z - settled_from) g) (sym e) R))

  pub made_after : (σ : ℕ → Ty) → Obeys s d n σ → Obeys s₁ d (suc n) σ
  made_after σ O i m v g R =
      let o = old_i i m v in
      let e = word_old i o in
      O i o (omega arith) g (subst (λ z. Reads (heap s d) (z - settled_from) g) e (subst (λ z. Reads z (word_at s₁ i - settled_from) g) eh R))

  pub made_word : word_at s₁ n ≡ 0
  made_word = word_new

module _ (s d : List ℕ) (n p : ℕ) (E : Entering s d n p) (M : Made s (put s n 0 0 first_run 0) n 0 0 first_run 0) where
  abbrev t : List ℕ
  t = put s n 0 0 first_run 0

  sz : length s ≡ area_size
  sz = E.making.solved.held.size

  few : n < max_cells
  few = E.making.few

  H₁ : Held t (suc n) E.making.L
  H₁ = (M.grown E.making.P₀ E.making.L E.making.solved).held

  eh₁ : heap t d ≡ heap s d
  eh₁ = heap_kept s t d (made_low s d n 0 0 first_run 0 sz few)

  new_unk : view (frozen t) (suc n) n ≡ unk
  unfolding view_of
  new_unk = M.new

  S : Settling t d n p
  S = record {
    pinning = record {
      n = suc n;
      L = E.making.L;
      held = H₁;
      pinned = made_pinned s d n 0 0 first_run 0 sz few E.pinned;
      made = omega arith;
      few = E.few;
      readable = subst (λ z. Readable z p) (sym eh₁) E.readable;
    };
    open_cell = tag_new;
    root = link_new t n 0 (omega arith) (put_0 s n 0 0 first_run 0 sz few);
  }
    where
      tag_new : tag_at (frozen t) n ≡ 0
      tag_new = t_at s n 0 0 first_run 0 sz few

  X : Pin t (set t (links_at + n) (settled_from + p)) d n p true
  X = settled t d n p S (let z = made_word s d n 0 0 first_run 0 sz few in omega arith)

  rd : (g : Ty) → Reads (heap s d) p g → Reads (heap t d) p g
  rd g R = subst (λ z. Reads z p g) (sym eh₁) R

  pub entered : Entered s (set t (links_at + n) (settled_from + p)) d n p
  entered = record {
    low = X.kept.low ∙ made_low s d n 0 0 first_run 0 sz few;
    grown = λ P₀ L Q. solved_kept t (set t (links_at + n) (settled_from + p)) X.kept (suc n) P₀ L (M.grown P₀ L Q);
    old = λ i l. ap (λ w. view w (suc n) i) X.kept.still ∙ M.old i l;
    new = ap (λ w. view w (suc n) n) X.kept.still ∙ new_unk;
    pinned = λ P. X.pinned refl (suc n) E.making.L H₁ (made_pinned s d n 0 0 first_run 0 sz few P) (omega arith);
    before = λ σ O. made_before s d n 0 0 first_run 0 sz few σ (settled_before t d n p S few_word finite (suc n) σ O);
    type = λ g R σ O. settled_type t d n p S few_word finite (suc n) (omega arith) g (rd g R) σ O;
    after = λ g R σ O e. settled_after t d n p S few_word finite (suc n) g (rd g R) σ (made_after s d n 0 0 first_run 0 sz few σ O) e;
    fit = ap (λ w. load w (suc n)) X.kept.still ∙ made_load s t n 0 0 first_run 0 E.making M ∙ (let z : load (frozen s) n + 1 + 0 ≡ load (frozen s) n + 1 = omega arith in z);
    above = λ top B. subst (λ w. Above w (suc n) top) (sym X.kept.still) (made_above s t n 0 0 first_run 0 E.making M top B (let z = B.low in omega arith) (λ e. absurd (omega arith)));
  }
    where
      few_word : word_at t n < settled_from
      few_word = let z = made_word s d n 0 0 first_run 0 sz few in omega arith

pub entered_as : (s m u d : List ℕ) (n p : ℕ) → Entering s d n p → Made s m n 0 0 first_run 0 → u ≡ set m (links_at + n) (settled_from + p) → Entered s u d n p
entered_as s m u d n p E M e =
    let w = M.words in
    subst (λ z. Entered s z d n p) (sym (e ∙ ap (λ z. set z (links_at + n) (settled_from + p)) w)) (entered s d n p E (subst (λ z. Made s z n 0 0 first_run 0) w M))
