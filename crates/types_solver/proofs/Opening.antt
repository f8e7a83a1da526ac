-- Solutions of a store with settled cells: there is one where types are finite, and two where a cell is left open.
use mathlib.Core.Path.{◌≡◌, refl, sym, ap, subst, ◌∙◌}
use mathlib.Core.Bool.{Bool, true, false}
use mathlib.Core.List.{List}
use mathlib.Core.Logic.{⊎_elim}
use Prim.Native.Nat.{ℕ, zero, suc, ◌+◌, ◌-◌, ◌≤◌, ◌<◌}
use native.Mathlib.Omega.{arith}
use native.Mathlib.Nat.{eq-zero-or-pos}
use lib.Dec.{eqb, ltb}
use lib.ListN.{get_or}
use borrow.Author.Tests.{eqb-true, eqb-false, ltb-true, ltb-false}
use Rattle.types_rules.proofs.Finite.{all_at, map_same, solution_unknown}
use Rattle.types_rules.proofs.Terms.{bool_no}
use Rattle.types_rules.specs.Classes.{rep}
use Rattle.types_rules.specs.Equations.{Pairs}
use Rattle.types_rules.specs.Finite.{bounded, bounded_view, from_list, type_of}
use Rattle.types_rules.specs.Follows.{View, shape, unk}
use Rattle.types_rules.specs.Types.{Ty, node, integer_type, ℙℤ}
use Rattle.types_cells.specs.Layout.{links_at, settled_from}
use Rattle.types_cells.specs.Store.{frozen, link_at, tag_at, view, Held, Solved}
use Rattle.types_cells.specs.Calls.{Root}
use Rattle.types_solver.specs.Sizes.{Solution, TestedFinite}
use Rattle.types_solver.specs.Answers.{Finite, SolutionOf, Differ, Left}
use Rattle.types_cells.specs.Settled.{heap, Reads, word_at, Pinned}
use Rattle.types_cells.proofs.LinkLaws.{rep_below, stop_rep}
use Rattle.types_cells.proofs.Words.{link_none}
use Rattle.types_cells.proofs.Heads.{view_unk, view_shape}
use Rattle.types_solver.proofs.Marking.{kids_below, by_rep, solve_with}
use Rattle.types_cells.proofs.Reading.{reads_one}

-- The type that cell i refers to, and β i where it does not.
choose : (s d : List ℕ) (n : ℕ) → Pinned s d n → (ℕ → Ty) → (i : ℕ) (b c : Bool) → ltb i n ≡ b → ltb (word_at s i) settled_from ≡ c → Ty
choose s d n P β i true false e f = (P.reads i (ltb-true i n e) (ltb-false (word_at s i) settled_from f)).type
choose s d n P β i true true e f = β i
choose s d n P β i false c e f = β i

pub pick : (s d : List ℕ) (n : ℕ) → Pinned s d n → (ℕ → Ty) → ℕ → Ty
pick s d n P β i = choose s d n P β i (ltb i n) (ltb (word_at s i) settled_from) refl refl

pinned_c : (s d : List ℕ) (n : ℕ) (P : Pinned s d n) (β : ℕ → Ty) (i : ℕ) → i < n → settled_from ≤ word_at s i → (k : Ty) → Reads (heap s d) (word_at s i - settled_from) k →
    (b c : Bool) (e : ltb i n ≡ b) (f : ltb (word_at s i) settled_from ≡ c) → choose s d n P β i b c e f ≡ k
unfolding choose
pinned_c s d n P β i l v k R true false e f = let D = P.reads i (ltb-true i n e) (ltb-false (word_at s i) settled_from f) in reads_one (heap s d) (word_at s i - settled_from) D.type k D.reads R
pinned_c s d n P β i l v k R true true e f = absurd (let z = ltb-true (word_at s i) settled_from f in omega arith)
pinned_c s d n P β i l v k R false c e f = absurd (let z = ltb-false i n e in omega arith)

open_c : (s d : List ℕ) (n : ℕ) (P : Pinned s d n) (β : ℕ → Ty) (i : ℕ) → word_at s i < settled_from → (b c : Bool) (e : ltb i n ≡ b) (f : ltb (word_at s i) settled_from ≡ c) → choose s d n P β i b c e f ≡ β i
unfolding choose
open_c s d n P β i v true false e f = absurd (let z = ltb-false (word_at s i) settled_from f in omega arith)
open_c s d n P β i v true true e f = refl
open_c s d n P β i v false c e f = refl

pub pick_pinned : (s d : List ℕ) (n : ℕ) (P : Pinned s d n) (β : ℕ → Ty) (i : ℕ) → i < n → settled_from ≤ word_at s i → (k : Ty) → Reads (heap s d) (word_at s i - settled_from) k → pick s d n P β i ≡ k
unfolding pick
pick_pinned s d n P β i l v k R = pinned_c s d n P β i l v k R (ltb i n) (ltb (word_at s i) settled_from) refl refl

pub pick_open : (s d : List ℕ) (n : ℕ) (P : Pinned s d n) (β : ℕ → Ty) (i : ℕ) → word_at s i < settled_from → pick s d n P β i ≡ β i
unfolding pick
pick_open s d n P β i v = open_c s d n P β i v (ltb i n) (ltb (word_at s i) settled_from) refl refl

pub settled_root : (s : List ℕ) (i : ℕ) → settled_from ≤ word_at s i → link_at s i ≡ 0
unfolding link_at word_at
settled_root s i v = link_none (get_or s (links_at + i) 0) v

module _ (s d : List ℕ) (n : ℕ) (P₀ L : Pairs ℕ) (S : Solved s n P₀ L) (P : Pinned s d n) (F : Finite (frozen s) n L) where
  abbrev w : List ℕ
  w = frozen s

  abbrev Vw : ℕ → View ℕ
  Vw = view (frozen s) n

  abbrev r : ℕ → ℕ
  r = rep eqb L

  at_unk : (τ : ℕ → Ty) (i : ℕ) → i < n → tag_at w (r i) ≡ 0 → (solve_with s n P₀ L S τ F).σ i ≡ τ (r i)
  unfolding solve_with
  at_unk τ i l e = solution_unknown ℕ eqb eqb-true eqb-false Vw P₀ L S.closed τ n i (view_unk w n (r i) (rep_below n L S.held.inside i l) e)

  -- There is a solution, with the types β at the cells left open.
  pub solution_with : (ℕ → Ty) → SolutionOf s d n P₀
  solution_with β =
      let X = solve_with s n P₀ L S (pick s d n P β) F in
      record {
        σ = X.σ;
        fits = X.fits;
        sat = X.sat;
        obeys = λ i l v k R.
            let ri = stop_rep s n L S.held i l (settled_root s i v) in
            at_unk (pick s d n P β) i l (ap (tag_at w) ri ∙ P.bare i l v) ∙ ap (pick s d n P β) ri ∙ pick_pinned s d n P β i l v k R;
      }

  pub with_types : (β : ℕ → Ty) (i : ℕ) → (solution_with β).σ i ≡ type_of r Vw (pick s d n P β) n i
  unfolding solution_with solve_with
  with_types β i = refl

  pub open_type : (β : ℕ → Ty) (i : ℕ) → i < n → tag_at w (r i) ≡ 0 → word_at s (r i) < settled_from → (solution_with β).σ i ≡ β (r i)
  unfolding solution_with
  open_type β i l e v = at_unk (pick s d n P β) i l e ∙ pick_open s d n P β (r i) v

  pub two_left : (i : ℕ) → i < n → tag_at w i ≡ 0 → tag_at w (r i) ≡ 0 → word_at s (r i) < settled_from → Differ s d n P₀
  two_left i l bare e v = record {
    one = solution_with (λ j. integer_type);
    other = solution_with (λ j. ℙℤ);
    cell = i;
    made = l;
    bare = bare;
    differ = λ q. let p : integer_type ≡ ℙℤ = sym (open_type (λ j. integer_type) i l e v) ∙ q ∙ open_type (λ j. ℙℤ) i l e v in let z : ◌≡◌ {A = ℕ} 0 1 = cc in omega arith;
  }

  module _ (settled : (i : ℕ) → i < n → tag_at w (r i) ≡ 0 → settled_from ≤ word_at s (r i)) (X Y : SolutionOf s d n P₀) where
    abbrev plain : SolutionOf s d n P₀ → Solution w n P₀
    plain Z = record { σ = Z.σ; fits = Z.fits; sat = Z.sat }

    by : (Z : SolutionOf s d n P₀) (i : ℕ) → Z.σ (r i) ≡ Z.σ i
    by Z i = by_rep s n P₀ L S (plain Z) i

    at_root : (i : ℕ) → i < n → tag_at w (r i) ≡ 0 → X.σ (r i) ≡ Y.σ (r i)
    at_root i l e =
        let b = rep_below n L S.held.inside i l in
        let v = settled i l e in
        let D = P.reads (r i) b v in
        X.obeys (r i) b v D.type D.reads ∙ sym (Y.obeys (r i) b v D.type D.reads)

    unk_tag : (i : ℕ) → i < n → Vw (r i) ≡ unk → tag_at w (r i) ≡ 0
    unk_tag i l e = ⊎_elim (λ z. z)
        (λ p. let q = sym (view_shape w n (r i) (rep_below n L S.held.inside i l) p) ∙ e in let z : ◌≡◌ {A = ℕ} 0 1 = cc in absurd (omega arith))
        (eq-zero-or-pos (tag_at w (r i)))

    one_v : (f : ℕ → Bool) → ((c : ℕ) → c < n → f c ≡ true → X.σ c ≡ Y.σ c) → (i : ℕ) → i < n → (v : View ℕ) → Vw (r i) ≡ v → bounded_view f v ≡ true → X.σ (r i) ≡ Y.σ (r i)
    unfolding bounded_view
    one_v f k i l unk e q = at_root i l (unk_tag i l e)
    one_v f k i l (shape h cs) e q =
        X.fits (r i) h cs e
        ∙ ap (λ z. node h (from_list z)) (map_same X.σ Y.σ cs (λ c j. k c (kids_below s n L S.held (r i) h cs (rep_below n L S.held.inside i l) e c j) (all_at f cs q c j)))
        ∙ sym (Y.fits (r i) h cs e)

    one_d : (e i : ℕ) → i < n → bounded r Vw e i ≡ true → X.σ i ≡ Y.σ i
    unfolding bounded
    one_d zero i l q = absurd (bool_no false q refl)
    one_d (suc e) i l q = sym (by X i) ∙ one_v _ (λ c m z. one_d e c m z) i l (Vw (r i)) refl q ∙ by Y i

    pub all_one : (i : ℕ) → i < n → X.σ i ≡ Y.σ i
    all_one i l = one_d n i l (F i l)

-- The scan.
pub left_yes : (s : List ℕ) (n i x : ℕ) → i < n → Root s i x → tag_at (frozen s) x ≡ 0 → word_at s x < settled_from → Left s n true
left_yes s n i x l Q e v = record {
  several = λ f d P₀ L S P F.
      let k = subst (λ z. z < n) (Q.is n L S.held l) (rep_below n L S.held.inside i l) in
      let q = stop_rep s n L S.held x k Q.free in
      two_left s d n P₀ L S P F x k e (ap (tag_at (frozen s)) q ∙ e) (subst (λ z. word_at s z < settled_from) (sym q) v);
  one = λ f. absurd (bool_no true refl f);
  resolved = λ f. absurd (bool_no true refl f);
}

pub left_no : (s : List ℕ) (n : ℕ) → ((i : ℕ) → i < n → (L : Pairs ℕ) → Held s n L → tag_at (frozen s) (rep eqb L i) ≡ 0 → settled_from ≤ word_at s (rep eqb L i)) → Left s n false
left_no s n h = record {
  several = λ f. absurd (bool_no false f refl);
  one = λ f d P₀ L S P F X Y i l. all_one s d n P₀ L S P F (λ j m e. h j m L S.held e) X Y i l;
  resolved = λ f L H i l. h i l L H;
}

-- `finite` and settled cells: true, there is a solution that gives them their types; false, there is none.
pub finite_some : (s s' d : List ℕ) (n : ℕ) → TestedFinite s s' n true → (P₀ L : Pairs ℕ) → Solved s n P₀ L → Pinned s d n → SolutionOf s d n P₀
finite_some s s' d n T P₀ L S P = solution_with s d n P₀ L S P (λ i l. (T.sizes refl P₀ L S i l).finite) (λ i. integer_type)

pub finite_none : (s s' d : List ℕ) (n : ℕ) → TestedFinite s s' n false → (P₀ L : Pairs ℕ) → Solved s n P₀ L → SolutionOf s d n P₀ → ⊥
finite_none s s' d n T P₀ L S X = T.endless refl P₀ L S (record { σ = X.σ; fits = X.fits; sat = X.sat })
