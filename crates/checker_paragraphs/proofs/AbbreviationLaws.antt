-- What follows the visit of an Abbreviation's expression, from what the functions that it calls tell.
use mathlib.Core.Path.{◌≡◌, refl, sym, subst, ◌∙◌}
use mathlib.Core.Bool.{Bool, true}
use mathlib.Core.List.{List}
use Prim.Native.Nat.{ℕ, ◌+◌, ◌≤◌, ◌<◌}
use native.Mathlib.Omega.{arith}
use lib.ListN.{drop, take}
use Rattle.checker_merging.specs.Merging.{NewTold}
use Rattle.checker_pieces.specs.Closed.{Closed, SizeIs, Wording, WordsAre}
use Rattle.checker_entries.proofs.Writing.{small_words}
use Rattle.checker_closing.specs.Nodes.{LinedAt}
use Rattle.checker_closing.specs.declared.results.Lined.{Lined}
use Rattle.checker_paragraphs.specs.Abbreviations.{TypeFine, TypeFound, several, clash, large, none, AbbreviatedTold, refused}

pub words_end : {s d out out' : List ℕ} {n c at e : ℕ} → Wording s d n c at → WordsAre s d out out' n c at e → (at ≤ e) × (e ≤ at + 95)
words_end {s} {d} {out} {out'} {n} {c} B W = let q = (W B.sizing.ghost B.sizing.shut).end in let l = small_words (B.sizing.shut.type c) B.small in (omega arith, omega arith)

-- 34, 36 AND 38.
module _ {s s' d : List ℕ} {n : ℕ} {b : Bool} (C : Closed s s' d n b) where
  closed : {b' : Bool} → b ≡ b' → Closed s s' d n b'
  closed e = subst (Closed s s' d n) e C

  module _ (one : b ≡ true) {w l is : List ℕ} (own : l ≡ is) {h : Bool} (M : NewTold d w (drop 0 l) h) where
    named : {h' : Bool} → h ≡ h' → NewTold d w (drop 0 is) h'
    named e = subst (NewTold d w (drop 0 is)) e (subst (λ z. NewTold d w (drop 0 z) h) own M)

    module _ (new : h ≡ true) {c v : ℕ} (Z : SizeIs s' d n c v) where
      pub type_large : 32 < v → TypeFound s s' d w n c (drop 0 is) 38
      type_large l = large refl (closed one) (named new) v Z l

pub type_fine : {s s' d w is : List ℕ} {n c number : ℕ} → TypeFound s s' d w n c is number → number ≡ 0 → TypeFine s s' d w n c is
type_fine (several e C) z = absurd (omega arith)
type_fine (clash e C M) z = absurd (omega arith)
type_fine (large e C M v Z l) z = absurd (omega arith)
type_fine (none e F) z = F

-- THE RESULT.
module _ {s d w p : List ℕ} {k q number₀ place₀ c n end : ℕ} {r : Lined} where
  pub told_refused : {s' : List ℕ} {f : ℕ} → number₀ ≡ 0 → TypeFound s s' d w n c (drop 0 (take 1 (drop 1 p))) f → (f ≡ 0 → ⊥) → LinedAt r f k 0 0 →
      AbbreviatedTold s s' d w w p k q number₀ place₀ c n end r.number r.place r.count r.at
  told_refused {s'} {f} z F ne L =
      refused z (λ e. ne (sym L.number_is ∙ e)) L.place_is (subst (TypeFound s s' d w n c (drop 0 (take 1 (drop 1 p)))) (sym L.number_is) F) refl
