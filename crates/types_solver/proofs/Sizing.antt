-- The size of a cell's type, with settled cells.
use mathlib.Core.Path.{◌≡◌, refl, sym, ap, ◌∙◌}
use mathlib.Core.List.{List, [], ◌∷◌, map}
use mathlib.Core.Logic.{⊎_elim}
use Prim.Native.Nat.{ℕ, zero, suc, ◌+◌, ◌≤◌, ◌<◌}
use native.Mathlib.Omega.{arith}
use lib.Dec.{eqb}
use borrow.Author.Tests.{eqb-true, eqb-false}
use Rattle.types_rules.proofs.Rational.{rep_sat}
use Rattle.types_rules.specs.Classes.{rep}
use Rattle.types_rules.specs.Equations.{Pairs}
use Rattle.types_rules.specs.Finite.{from_list, type_of, type_of_view}
use Rattle.types_rules.specs.Follows.{View, shape, unk}
use Rattle.types_rules.specs.Former.{int}
use Rattle.types_rules.specs.Types.{Ty, node, size, sizes, tnil}
use Rattle.types_cells.specs.Layout.{settled_from}
use Rattle.types_cells.specs.Store.{frozen, tag_at, first_at, count_at, run, view}
use Rattle.types_cells.specs.Calls.{Root}
use Rattle.types_cells.specs.Settled.{word_at}
use Rattle.types_solver.specs.Sizes.{cap, mark_at, type_at, Model, UnknownSize, Measuring, Measured}
use Rattle.types_solver.specs.Answers.{Looking}
use Rattle.types_cells.proofs.Growing.{lt_or_ge}
use Rattle.types_solver.proofs.Marking.{cap_low, cap_high}
use Rattle.types_solver.proofs.Summing.{ToAdd, add_start, size_some}
use Rattle.types_solver.proofs.Writer.{r_below, m_by, m_type, m_settled, m_readable}

sizes_le : (T U : ℕ → Ty) (cs : List ℕ) → ((c : ℕ) → size (T c) ≤ size (U c)) → sizes (from_list (map T cs)) ≤ sizes (from_list (map U cs))
unfolding size from_list
sizes_le T U [] h = omega arith
sizes_le T U (c ∷ cs) h = let a = h c in let b = sizes_le T U cs h in omega arith

module _ (s d : List ℕ) (n : ℕ) (L : Pairs ℕ) (σ : ℕ → Ty) (M : Model s d n L σ) where
  abbrev Vw : ℕ → View ℕ
  Vw = view (frozen s) n

  by : (i : ℕ) → σ (rep eqb L i) ≡ σ i
  by i = rep_sat ℕ eqb eqb-true eqb-false σ L M.sat i

  least_v : (f : ℕ → Ty) → ((c : ℕ) → size (f c) ≤ size (σ c)) → (i : ℕ) (v : View ℕ) → Vw (rep eqb L i) ≡ v → size (type_of_view f (node int tnil) v) ≤ size (σ i)
  unfolding type_of_view size
  least_v f h i unk e = let z = size_some (σ i) in omega arith
  least_v f h i (shape k cs) e =
      let a = ap size (sym (by i) ∙ M.fits (rep eqb L i) k cs e) in
      let b = sizes_le f σ cs h in omega arith

  least_d : (e i : ℕ) → size (type_of (rep eqb L) Vw (λ j. node int tnil) e i) ≤ size (σ i)
  unfolding type_of size
  least_d zero i = let z = size_some (σ i) in omega arith
  least_d (suc e) i = least_v _ (λ c. least_d e c) i (Vw (rep eqb L i)) refl

  pub high : (i : ℕ) → i < n → 32 < mark_at s i → 33 ≡ cap (size (σ i))
  unfolding type_at
  high i l q =
      let e = (M.marked.sizes i l).size in
      let a = least_d n i in
      let b : 33 ≤ size (type_at (frozen s) n L i) = ⊎_elim (λ z. let y = cap_low _ z in absurd (omega arith)) (λ z. z) (lt_or_ge (size (type_at (frozen s) n L i)) 33) in
      sym (cap_high (size (σ i)) (omega arith))

pub measured_high : (s d : List ℕ) (i : ℕ) → 32 < mark_at s i → Measured s d i 33
measured_high s d i q = record { is = λ n L σ M E l. high s d n L σ M i l q; few = omega arith }

pub measured_unknown : (s d : List ℕ) (i r v : ℕ) → Root s i r → tag_at (frozen s) r ≡ 0 → UnknownSize s d r v → Measured s d i v
measured_unknown s d i r v Q t U = record {
  is = λ n L σ M E l. ⊎_elim
      (λ q. U.free q ∙ sym (ap cap (ap size (m_by s d i r Q n L σ M l) ∙ E r (r_below s i r Q n L M.marked l) t Q.free q) ∙ cap_low 1 (omega arith)))
      (λ q. let R = m_readable s d i r Q n L σ M l q in
      (U.settled q).is R.type R.reads ∙ sym (ap (λ g. cap (size g)) (m_settled s d i r Q n L σ M l q R.type R.reads)))
      (lt_or_ge (word_at s r) settled_from);
  few = U.few;
}

-- The parts from number j on are still to be added to sum.
abbrev pub Adding : List ℕ → (ℕ → Ty) → ℕ → ℕ → ℕ → ℕ → ℕ → Type 0
Adding s σ i r k j sum = ToAdd σ (frozen s) (first_at (frozen s) r) k j sum (size (σ i))

pub adding_start : (s d : List ℕ) (i r k : ℕ) → Root s i r → k ≡ count_at (frozen s) r → 0 < tag_at (frozen s) r → (n : ℕ) (L : Pairs ℕ) (σ : ℕ → Ty) → Model s d n L σ → i < n → Adding s σ i r k 0 1
unfolding size
adding_start s d i r k Q ek p n L σ M l =
    let w = frozen s in
    let g = ap size (m_type s d i r Q n L σ M l p) in
    add_start σ w (first_at w r) k ∙ ap (λ y. cap (1 + sizes (from_list (map σ (run w (first_at w r) y))))) ek ∙ ap cap (omega arith)

pub looking_of : (s d : List ℕ) (i : ℕ) → Measuring s d i → Looking s d i
looking_of s d i K = record { n = K.n; L = K.L; held = K.marked.held; pinned = K.pinned; made = K.made; few = K.few }
