-- Finding 35, with settled cells.
use mathlib.Core.Path.{◌≡◌, refl, sym, ap, subst, ◌∙◌}
use mathlib.Core.Bool.{true, false}
use mathlib.Core.List.{List, [], ◌∷◌, map}
use mathlib.Core.Option.{Option, some, none}
use Prim.Native.Nat.{ℕ, zero, suc, ◌+◌, ◌-◌, ◌≤◌, ◌<◌}
use native.Mathlib.Omega.{arith}
use lib.Dec.{eqb}
use lib.ListN.{length, get_or}
use borrow.Author.Tests.{eq-eqb, ne_eqb}
use Rattle.types_rules.specs.Classes.{rep}
use Rattle.types_rules.specs.Component.{pick_type, component_type}
use Rattle.types_rules.specs.Equations.{In, Pairs}
use Rattle.types_rules.specs.Finite.{from_list}
use Rattle.types_rules.specs.Former.{Former, binding, given, identifiers, int, parameter, power, product}
use Rattle.types_rules.specs.Types.{Ty, Tys, node, tcons, tnil, integer_type}
use mathlib.Core.Logic.{inl, inr}
use Rattle.types_cells.specs.Layout.{max_cells, settled_from}
use Rattle.types_cells.specs.Store.{frozen, link_at, tag_at, arg_at, first_at, count_at, run, parts_at, former_at, Held, Solved}
use Rattle.types_cells.specs.Calls.{Root}
use Rattle.types_solver.specs.Sizes.{Solution}
use Rattle.types_cells.specs.Settled.{heap, word_at, Readable, FoundType, Component}
use Rattle.types_solver.specs.Answers.{SolutionOf, Looking, LookingRoot, Looked}
use Rattle.types_cells.proofs.LinkLaws.{rep_below, stop_rep}
use Rattle.types_cells.proofs.Words.{run_at, run_length, get_d_in}
use Rattle.types_cells.proofs.Heads.{parts_length, head_five, not_five, binding_inj}
use Rattle.types_solver.proofs.Marking.{by_rep}
use Rattle.types_solver.proofs.Answering.{formed}
use Rattle.types_solver.proofs.Opening.{solution_with, open_type}

abbrev pub plain : {s d : List ℕ} {n : ℕ} {P₀ : Pairs ℕ} → SolutionOf s d n P₀ → Solution (frozen s) n P₀
plain X = record { σ = X.σ; fits = X.fits; sat = X.sat }

-- No component, by the identifiers.
pick_not : (id : ℕ) (l : List ℕ) (gs : Tys) → (In id l → ⊥) → pick_type id l gs ≡ none
unfolding pick_type
pick_not id [] gs h = refl
pick_not id (x ∷ l) tnil h = refl
pick_not id (x ∷ l) (tcons g gs) h =
    ap (λ b. elim b as (λ z. Option Ty) [ true ↦ some g | false ↦ pick_type id l gs ]) (ne_eqb x id (λ e. h (inl (sym e)))) ∙ pick_not id l gs (λ m. h (inr m))

none_of : (id : ℕ) (h : Former) (gs : Tys) → ((ids : List ℕ) → h ≡ binding ids → In id ids → ⊥) → component_type id (node h gs) ≡ none
unfolding component_type identifiers pick_type
none_of id int gs d = refl
none_of id (given g) gs d = refl
none_of id (parameter i) gs d = refl
none_of id power gs d = refl
none_of id product gs d = refl
none_of id (binding l) gs d = pick_not id l gs (d l refl)

-- The component at the first place of its identifier.
pick_at : (σ : ℕ → Ty) (id : ℕ) (l cs : List ℕ) (j : ℕ) → j < length l → j < length cs → get_or l j 0 ≡ id → ((k : ℕ) → k < j → get_or l k 0 ≡ id → ⊥) →
    pick_type id l (from_list (map σ cs)) ≡ some (σ (get_or cs j 0))
unfolding pick_type from_list
pick_at σ id [] cs j q r e h = absurd (omega arith)
pick_at σ id (x ∷ l) [] j q r e h = absurd (omega arith)
pick_at σ id (x ∷ l) (c ∷ cs) zero q r e h = ap (λ b. elim b as (λ z. Option Ty) [ true ↦ some (σ c) | false ↦ pick_type id l (from_list (map σ cs)) ]) (eq-eqb x id e)
pick_at σ id (x ∷ l) (c ∷ cs) (suc j) q r e h =
    ap (λ b. elim b as (λ z. Option Ty) [ true ↦ some (σ c) | false ↦ pick_type id l (from_list (map σ cs)) ]) (ne_eqb x id (λ z. h 0 (omega arith) z))
    ∙ pick_at σ id l cs j (omega arith) (omega arith) e (λ k m z. h (suc k) (omega arith) z)

component_at : (id : ℕ) (l : List ℕ) (gs : Tys) → component_type id (node (binding l) gs) ≡ pick_type id l gs
unfolding component_type identifiers
component_at id l gs = refl

-- At a representative r.
module _ (s d : List ℕ) (r id : ℕ) (root : link_at s r ≡ 0) where
  abbrev w : List ℕ
  w = frozen s

  pub self : (n : ℕ) (L : Pairs ℕ) → Held s n L → r < n → rep eqb L r ≡ r
  self n L H l = stop_rep s n L H r l root

  pub former_type : (n : ℕ) (P₀ L : Pairs ℕ) (S : Solved s n P₀ L) → r < n → 0 < tag_at w r → (X : SolutionOf s d n P₀) → X.σ r ≡ node (former_at w r) (from_list (map X.σ (parts_at w r)))
  former_type n P₀ L S l p X =
      let q = self n L S.held l in
      subst (λ z. 0 < tag_at w z → X.σ r ≡ node (former_at w z) (from_list (map X.σ (parts_at w z)))) q (λ p'. formed s n P₀ L S r l p' (plain X)) p

  pub former_none : 0 < tag_at w r → ((n : ℕ) (L : Pairs ℕ) → Held s n L → r < n → (ids : List ℕ) → former_at w r ≡ binding ids → In id ids → ⊥) → Looked s d r id 0
  former_none p h = record {
    found = λ c e. absurd (omega arith);
    below = λ c e. absurd (omega arith);
    settled = λ e. absurd (omega arith);
    place = λ e. absurd (omega arith);
    absent = λ e n P₀ L S P l F.
        let X = solution_with s d n P₀ L S P F (λ j. integer_type) in
        record { solution = X; lacks = ap (component_type id) (former_type n P₀ L S l p X) ∙ none_of id (former_at w r) _ (h n L S.held l) };
  }

  pub former_other : 0 < tag_at w r → (tag_at w r ≡ 5 → ⊥) → Looked s d r id 0
  former_other p ne = former_none p (λ n L H l ids e. absurd (not_five w r (H.cells r l) p ne ids e))

  pub former_lacks : tag_at w r ≡ 5 → (In id (run w (arg_at w r) (count_at w r)) → ⊥) → Looked s d r id 0
  former_lacks t h = former_none (omega arith) (λ n L H l ids q m. h (subst (In id) (binding_inj _ _ (sym q ∙ head_five w r t)) m))

  pub former_some : (j c : ℕ) → c < max_cells → tag_at w r ≡ 5 → j < count_at w r → get_or (run w (arg_at w r) (count_at w r)) j 0 ≡ id →
      ((k : ℕ) → k < j → get_or (run w (arg_at w r) (count_at w r)) k 0 ≡ id → ⊥) → get_or w (first_at w r + j) 0 ≡ c → Looked s d r id (c + 1)
  former_some j c few t q hit first here = record {
    found = λ k e b n P₀ L S l X.
        let C = S.held.cells r l in
        let kc : c ≡ k = omega arith in
        let pl = parts_length w r C in
        let nl = run_length w (arg_at w r) (count_at w r) (C.named t) in
        ap (component_type id) (former_type n P₀ L S l (omega arith) X ∙ ap (λ h. node h (from_list (map X.σ (parts_at w r)))) (head_five w r t))
        ∙ component_at id (run w (arg_at w r) (count_at w r)) (from_list (map X.σ (parts_at w r)))
        ∙ pick_at X.σ id (run w (arg_at w r) (count_at w r)) (parts_at w r) j (omega arith) (omega arith) hit first
        ∙ ap (λ y. some (X.σ y)) (run_at w (first_at w r) (count_at w r) j q ∙ here ∙ kc);
    below = λ k e b n L H l.
        let C = H.cells r l in
        let o = C.older (get_or (parts_at w r) j 0) (get_d_in (parts_at w r) j (let z = parts_length w r C in omega arith)) in
        let y = run_at w (first_at w r) (count_at w r) j q ∙ here in
        omega arith;
    settled = λ e. absurd (omega arith);
    place = λ e. absurd (omega arith);
    absent = λ e. absurd (omega arith);
  }

  pub part_few : (n : ℕ) (L : Pairs ℕ) → Held s n L → r < n → (j : ℕ) → j < count_at w r → get_or w (first_at w r + j) 0 < max_cells
  part_few n L H l j q =
      let C = H.cells r l in
      let o = C.older (get_or (parts_at w r) j 0) (get_d_in (parts_at w r) j (let z = parts_length w r C in omega arith)) in
      let y = run_at w (first_at w r) (count_at w r) j q in
      let f = H.few in
      omega arith

  none_type : component_type id integer_type ≡ none
  unfolding component_type identifiers pick_type
  none_type = refl

  pub open_none : tag_at w r ≡ 0 → word_at s r < settled_from → Looked s d r id 0
  open_none t v = record {
    found = λ c e. absurd (omega arith);
    below = λ c e. absurd (omega arith);
    settled = λ e. absurd (omega arith);
    place = λ e. absurd (omega arith);
    absent = λ e n P₀ L S P l F.
        let X = solution_with s d n P₀ L S P F (λ j. integer_type) in
        let q = self n L S.held l in
        record { solution = X; lacks = ap (component_type id) (open_type s d n P₀ L S P F (λ j. integer_type) r l (ap (tag_at w) q ∙ t) (subst (λ z. word_at s z < settled_from) (sym q) v)) ∙ none_type };
  }

  module _ (v : settled_from ≤ word_at s r) (p : ℕ) (C : Component s d (word_at s r - settled_from) id p) where
    pub settled_none : p ≡ 0 → Looked s d r id 0
    settled_none z = record {
      found = λ c e. absurd (omega arith);
      below = λ c e. absurd (omega arith);
      settled = λ e. absurd (omega arith);
      place = λ e. absurd (omega arith);
      absent = λ e n P₀ L S P l F.
          let X = solution_with s d n P₀ L S P F (λ j. integer_type) in
          let D = P.reads r l v in
          record { solution = X; lacks = ap (component_type id) (X.obeys r l v D.type D.reads) ∙ C.none z D.type D.reads };
    }

    pub settled_some : (p ≡ 0 → ⊥) → Looked s d r id (settled_from + p)
    settled_some z = record {
      found = λ c e b. absurd (omega arith);
      below = λ c e b. absurd (omega arith);
      settled = λ e n P₀ L S P l X.
          let D = P.reads r l v in
          subst (λ k. FoundType (heap s d) k (component_type id (X.σ r))) (omega arith)
          (subst (λ g. FoundType (heap s d) p (component_type id g)) (sym (X.obeys r l v D.type D.reads)) (C.some z D.type D.reads));
      place = λ e n L H P l.
          let D = P.reads r l v in
          let f = C.some z D.type D.reads in
          subst (λ k. Readable (heap s d) k) (omega arith) (record { type = f.type; reads = f.reads });
      absent = λ e. absurd (omega arith);
    }

-- A cell and its representative.
pub looking_root : (s d : List ℕ) (i r : ℕ) → Looking s d i → Root s i r → LookingRoot s d r
looking_root s d i r K Q = record {
  looking = record {
    n = K.n;
    L = K.L;
    held = K.held;
    pinned = K.pinned;
    few = K.few;
    made = subst (λ z. z < K.n) (Q.is K.n K.L K.held K.made) (rep_below K.n K.L K.held.inside i K.made);
  };
  root = Q.free;
}

pub looking_few : (s d : List ℕ) (r : ℕ) → LookingRoot s d r → r < max_cells
looking_few s d r K = let f = K.looking.held.few in let l = K.looking.made in omega arith

module _ (s d : List ℕ) (i r id v : ℕ) (Q : Root s i r) (K : Looked s d r id v) where
  pub below_r : (n : ℕ) (L : Pairs ℕ) → Held s n L → i < n → r < n
  below_r n L H l = subst (λ z. z < n) (Q.is n L H l) (rep_below n L H.inside i l)

  pub same_type_lem : (n : ℕ) (P₀ L : Pairs ℕ) → Solved s n P₀ L → i < n → (X : SolutionOf s d n P₀) → X.σ r ≡ X.σ i
  same_type_lem n P₀ L S l X = sym (ap X.σ (Q.is n L S.held l)) ∙ by_rep s n P₀ L S (plain X) i

  pub looked_root : Looked s d i id v
  looked_root = record {
    found = λ c e b n P₀ L S l X. sym (ap (component_type id) (same_type_lem n P₀ L S l X)) ∙ K.found c e b n P₀ L S (below_r n L S.held l) X;
    below = λ c e b n L H l. K.below c e b n L H (below_r n L H l);
    settled = λ e n P₀ L S P l X. subst (λ g. FoundType (heap s d) (v - settled_from) (component_type id g)) (same_type_lem n P₀ L S l X) (K.settled e n P₀ L S P (below_r n L S.held l) X);
    place = λ e n L H P l. K.place e n L H P (below_r n L H l);
    absent = λ e n P₀ L S P l F.
        let a = K.absent e n P₀ L S P (below_r n L S.held l) F in
        record { solution = a.solution; lacks = sym (ap (component_type id) (same_type_lem n P₀ L S l a.solution)) ∙ a.lacks };
  }
