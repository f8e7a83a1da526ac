-- A type enters as new cells: what each step asks and gives.
use mathlib.Core.Path.{◌≡◌, refl, sym, ap, ap₂, subst, ◌∙◌}
use mathlib.Core.Bool.{Bool, true, false}
use mathlib.Core.List.{List, [], ◌∷◌, map}
use mathlib.Core.Logic.{inl, inr}
use mathlib.Core.Option.{some, none}
use Prim.Native.Nat.{ℕ, zero, suc, ◌+◌, ◌*◌, ◌-◌, ◌≤◌, ◌<◌, ◌^◌}
use native.Mathlib.Omega.{arith}
use lib.Dec.{eqb}
use borrow.Author.Tests.{eqb-true, eqb-false}
use lib.ListN.{length, get_or}
use Rattle.types_rules.specs.Equations.{In}
use Rattle.types_rules.specs.Finite.{from_list}
use Rattle.types_rules.specs.Former.{Former, int, given, parameter, power, product, binding, tag, identifiers, former_of}
use Rattle.types_rules.specs.Formed.{part_count_type}
use Rattle.types_rules.specs.Instance.{nth, actual, instance_former, instance, instances}
use Rattle.types_rules.specs.Types.{Ty, Tys, Terms, node, tcons, tnil, size, sizes, under, unders, unknown}
use Rattle.types_rules.specs.Words.{second, words}
use Rattle.types_cells.specs.Layout.{frozen_size}
use Rattle.types_cells.specs.Store.{frozen, run, Solved}
use Rattle.types_cells.specs.Calls.{Above, Adding, Added, Making, Made}
use Rattle.types_cells.specs.Parts.{Names, Rest}
use Rattle.types_cells.specs.Settled.{heap, lead_words, name_words, parts_of, Ends, Fits, Reading, Reads}
use Rattle.types_solver.specs.Growth.{arg_of, unknowns, Builds, Forming, Formed, InRow, Instance, Instanced, Instances, InstancedParts, Instancing, InstancingParts, Putting, PutPart, EnteringRoom}
use Rattle.types_cells.proofs.Words.{frozen_length, run_cons}
use Rattle.types_cells.proofs.Growing.{made_above, made_load, run_frame}
use Rattle.types_cells.proofs.SettlingLaws.{heap_kept}
use Rattle.types_cells.proofs.Reading.{heap_length, is_binding, lead_1, lead_3, like_yes, name_5, part_next, parts_3, parts_4, parts_are, place_low, rest_start, second_at, tag_there, words_some}
use Rattle.types_solver.proofs.Extending.{above_wide, added_above, added_builds, added_here, added_load, added_other, builds_on, builds_refl, fits_old, former_builds, former_type}

-- Room for more is room for less. A type in the dictionary has at most 32 formers (finding 38), so room for 32 is enough.
pub room_less : (s d : List ℕ) (n top x y row k : ℕ) → x ≤ y → EnteringRoom s d n top y row k → EnteringRoom s d n top x row k
room_less s d n top x y row k l A = record {
  P₀ = A.P₀;
  L = A.L;
  solved = A.solved;
  above = A.above;
  few = A.few;
  row_made = A.row_made;
  cells = let z = A.cells in omega arith;
  words = let z = A.words in omega arith;
  fit = let z = A.fit in omega arith;
}

-- The row.
nth_in : (first k i c : ℕ) → suc c ≡ first + i → 1 ≤ i → i ≤ k → nth (unknowns first k) i ≡ some (unknown c)
unfolding nth unknowns
nth_in first zero i c e a b = absurd (omega arith)
nth_in first (suc k) zero c e a b = absurd (omega arith)
nth_in first (suc k) (suc zero) c e a b = ap (λ z. some (unknown z)) (omega arith)
nth_in first (suc k) (suc (suc i)) c e a b = nth_in (suc first) k (suc i) c (omega arith) (omega arith) (omega arith)

nth_out : (first k i : ℕ) → (1 ≤ i → i ≤ k → ⊥) → nth (unknowns first k) i ≡ none
unfolding nth unknowns
nth_out first zero i d = refl
nth_out first (suc k) zero d = refl
nth_out first (suc k) (suc zero) d = absurd (d (omega arith) (omega arith))
nth_out first (suc k) (suc (suc i)) d = nth_out (suc first) k (suc i) (λ a b. d (omega arith) (omega arith))

pub arg_5 : (t v ids : ℕ) → t ≡ 5 → ids ≡ arg_of t v ids
unfolding arg_of
arg_5 t v ids e = sym (ap (λ z. arg_of z v ids) e)

pub arg_none : (t v ids : ℕ) → lead_words t ≡ 1 → 0 ≡ arg_of t v ids
unfolding arg_of lead_words
arg_none zero v ids e = absurd (omega arith)
arg_none (suc zero) v ids e = refl
arg_none (suc (suc zero)) v ids e = absurd (omega arith)
arg_none (suc (suc (suc zero))) v ids e = refl
arg_none (suc (suc (suc (suc t)))) v ids e = absurd (omega arith)

pub arg_word : (t v ids : ℕ) → (t ≡ 5 → ⊥) → (lead_words t ≡ 1 → ⊥) → v ≡ arg_of t v ids
unfolding arg_of lead_words
arg_word zero v ids a b = refl
arg_word (suc zero) v ids a b = absurd (b refl)
arg_word (suc (suc zero)) v ids a b = refl
arg_word (suc (suc (suc zero))) v ids a b = absurd (b refl)
arg_word (suc (suc (suc (suc zero)))) v ids a b = refl
arg_word (suc (suc (suc (suc (suc zero))))) v ids a b = absurd (a refl)
arg_word (suc (suc (suc (suc (suc (suc t)))))) v ids a b = refl

pub arg_few : (t v ids bound : ℕ) → v < bound → ids < bound → arg_of t v ids < bound
unfolding arg_of
arg_few zero v ids bound a b = a
arg_few (suc zero) v ids bound a b = omega arith
arg_few (suc (suc zero)) v ids bound a b = a
arg_few (suc (suc (suc zero))) v ids bound a b = omega arith
arg_few (suc (suc (suc (suc zero)))) v ids bound a b = a
arg_few (suc (suc (suc (suc (suc zero))))) v ids bound a b = b
arg_few (suc (suc (suc (suc (suc (suc t)))))) v ids bound a b = a

-- A former's cell.
module _ (s s₁ : List ℕ) (n top t v m arg : ℕ) (A : Forming s n top t v m) (e : arg ≡ arg_of t v (top + m)) where
  pub formed : (n' top' : ℕ) → n' ≡ suc n → top + m ≤ top' → top' ≤ top + m + m → (t ≡ 5 → top + m + m ≤ top') → Made s s₁ n t arg top m → Formed s s₁ n top t v m n n' top'
  formed n' top' en a b c N =
      let N' : Made s s₁ n t (arg_of t v (top + m)) top m = subst (λ z. Made s s₁ n t z top m) e N in
      record {
        made = N';
        is = refl;
        next = en;
        above = made_above s s₁ n t (arg_of t v (top + m)) top m A.making N' top' (above_wide (frozen s) n top top' A.above (omega arith)) a
            (λ f. let z = arg_5 t v (top + m) f in let y = c f in omega arith);
        few = b;
      }

parameter_c : (h : Former) → tag h ≡ 6 → (i : ℕ) × (h ≡ parameter i)
unfolding tag
parameter_c int e = absurd (omega arith)
parameter_c (given g) e = absurd (omega arith)
parameter_c (parameter i) e = (i, refl)
parameter_c power e = absurd (omega arith)
parameter_c product e = absurd (omega arith)
parameter_c (binding l) e = absurd (omega arith)

tag_bounds : (h : Former) → (1 ≤ tag h) × (tag h ≤ 6)
unfolding tag
tag_bounds int = (omega arith, omega arith)
tag_bounds (given g) = (omega arith, omega arith)
tag_bounds (parameter i) = (omega arith, omega arith)
tag_bounds power = (omega arith, omega arith)
tag_bounds product = (omega arith, omega arith)
tag_bounds (binding l) = (omega arith, omega arith)

lead_4 : lead_words 4 ≡ 2
unfolding lead_words
lead_4 = refl

pub enter_place : (s d : List ℕ) (n top p row k : ℕ) → Instancing s d n top p row k → (p < length (heap s d)) × (length (heap s d) < 2 ^ 32)
enter_place s d n top p row k I = let z = heap_length s d I.room.solved.held.size in let f = I.room.few in (place_low (heap s d) p I.type I.reads, omega arith)

pub suc_pred : (r : ℕ) → (r ≡ 0 → ⊥) → suc (r - 1) ≡ r
suc_pred zero d = absurd (d refl)
suc_pred (suc r) d = omega arith

-- A parameter that the row has.
row_type : (U : Terms) (i c : ℕ) (gs : Tys) (σ : ℕ → Ty) → nth U i ≡ some (unknown c) → σ c ≡ under σ (instance U (node (parameter i) gs))
unfolding instance instance_former actual under
row_type U i c gs σ e = sym (ap (λ z. under σ (actual z i (instances U gs))) e)

module _ (s d : List ℕ) (n top p row k : ℕ) (I : Instancing s d n top p row k) (t v r : ℕ) (et : t ≡ get_or (heap s d) p 0) (ev : v ≡ get_or (heap s d) (p + 1) 0) (X : InRow t v row k r) where
  module _ (some-r : r ≡ 0 → ⊥) (c : ℕ) (ec : suc c ≡ r) where
    row_c : (g : Ty) → Reads (heap s d) p g → Instance s s n top row k c n top g
    unfolding second size
    row_c (node h gs) R =
        let x = X.some some-r in
        let q = parameter_c h (sym (tag_there (heap s d) p h gs R) ∙ sym et ∙ x.0) in
        let R' : Reads (heap s d) p (node (parameter q.0) gs) = subst (λ z. Reads (heap s d) p (node z gs)) q.1 R in
        let w : v ≡ q.0 = ev ∙ second_at (heap s d) p (parameter q.0) gs R' q.0 refl in
        let a = x.1 in
        let b = x.2 in
        let z = x.3 in
        record {
          type = λ σ F. row_type (unknowns row k) q.0 c gs σ (nth_in row k q.0 c (omega arith) (omega arith) (omega arith))
              ∙ ap (λ y. under σ (instance (unknowns row k) (node y gs))) (sym q.1);
          cells = omega arith;
          words = omega arith;
          fit = omega arith;
        }

    pub in_row : Instanced s s d n top p row k c n top
    in_row = record {
      builds = builds_refl s d n;
      above = I.room.above;
      made = (let x = X.some some-r in let a = x.1 in let b = x.2 in let z = x.3 in let y = I.room.row_made in omega arith);
      is = row_c;
    }

  -- A former: any other type.
  other_c : (h : Former) (gs : Tys) (σ : ℕ → Ty) → ((i : ℕ) → h ≡ parameter i → nth (unknowns row k) i ≡ none) → under σ (instance (unknowns row k) (node h gs)) ≡ node h (unders σ (instances (unknowns row k) gs))
  unfolding instance instance_former actual under
  other_c int gs σ e = refl
  other_c (given g) gs σ e = refl
  other_c (parameter i) gs σ e = ap (λ z. under σ (actual z i (instances (unknowns row k) gs))) (e i refl)
  other_c power gs σ e = refl
  other_c product gs σ e = refl
  other_c (binding l) gs σ e = refl

  module _ (no-r : r ≡ 0) where
    other : (h : Former) (gs : Tys) → Reads (heap s d) p (node h gs) → (σ : ℕ → Ty) → under σ (instance (unknowns row k) (node h gs)) ≡ node h (unders σ (instances (unknowns row k) gs))
    unfolding second tag
    other h gs R σ = other_c h gs σ out
      where
        out : (i : ℕ) → h ≡ parameter i → nth (unknowns row k) i ≡ none
        out i e = nth_out row k i (out_c i (et ∙ tag_there (heap s d) p h gs R ∙ ap tag e) (ev ∙ second_c i e))
          where
            second_c : (i : ℕ) → h ≡ parameter i → get_or (heap s d) (p + 1) 0 ≡ i
            second_c i e = second_at (heap s d) p (parameter i) gs (subst (λ z. Reads (heap s d) p (node z gs)) e R) i refl

            out_c : (i : ℕ) → t ≡ 6 → v ≡ i → 1 ≤ i → i ≤ k → ⊥
            out_c i a b l m = X.none no-r a (omega arith) (omega arith)

    module _ (m w at : ℕ) (em : m ≡ parts_of t (get_or (heap s d) (p + 1) 0)) (ew : w ≡ name_words t) (ea : at ≡ p + lead_words t) where
      count : (h : Former) (gs : Tys) → Reads (heap s d) p (node h gs) → m ≡ part_count_type gs
      count h gs R = em ∙ ap (λ z. parts_of z (get_or (heap s d) (p + 1) 0)) (et ∙ tag_there (heap s d) p h gs R) ∙ parts_are (heap s d) p h gs R

      ask_c : (g : Ty) → Reads (heap s d) p g → EnteringRoom s d n top (size g) row k → InstancingParts s d n top at w m 0 row k
      unfolding size
      ask_c (node h gs) R A = record {
        l = identifiers h;
        gs = gs;
        e = p + length (words (node h gs));
        rest = rest_start (heap s d) p h gs R t w at et ew ea;
        count = (let z : part_count_type gs + 0 ≡ part_count_type gs = omega arith in z) ∙ sym (count h gs R);
        room = room_less s d n top (sizes gs) (suc (sizes gs)) row k (omega arith) A;
        ahead = let z = A.words in omega arith;
      }

      pub parts_ask : InstancingParts s d n top at w m 0 row k
      parts_ask = ask_c I.type I.reads I.room

      module _ (s₁ : List ℕ) (n₁ T : ℕ) (Q : InstancedParts s s₁ d n top at w m 0 row k n₁ T) (word : v < 2 ^ 32) where
        abbrev a : ℕ
        a = arg_of t v (T + m)

        inner : (h : Former) (gs : Tys) → Reads (heap s d) p (node h gs) → Instances s s₁ n top w m 0 row k n₁ T (identifiers h) gs
        inner h gs R =
            Q.are (identifiers h) gs (p + length (words (node h gs))) (rest_start (heap s d) p h gs R t w at et ew ea)
            ((let z : part_count_type gs + 0 ≡ part_count_type gs = omega arith in z) ∙ sym (count h gs R))

        tag_t : (h : Former) (gs : Tys) → Reads (heap s d) p (node h gs) → t ≡ tag h
        tag_t h gs R = et ∙ tag_there (heap s d) p h gs R

        making_c : (g : Ty) → Reads (heap s d) p g → EnteringRoom s d n top (size g) row k → Forming s₁ n₁ T t v m
        unfolding size
        making_c (node h gs) R A =
            let J = inner h gs R in
            let q = count h gs R in
            let x = J.words in
            let y = J.cells in
            let z = J.fit in
            let cs = A.cells in
            let ws = A.words in
            let ft = A.fit in
            let lw = Q.above.low in
            let tt' = tag_t h gs R in
            let b = tag_bounds h in
            let b0 = b.0 in
            let b1 = b.1 in
            record {
              making = record {
                P₀ = A.P₀;
                L = A.L;
                solved = Q.builds.grows.solved A.P₀ A.L A.solved;
                few = omega arith;
                tags = omega arith;
                plain = λ l. sym (arg_none t v (T + m) (ap lead_words (let u : t ≡ 1 = omega arith in u) ∙ lead_1));
                powers = λ e. sym (arg_none t v (T + m) (ap lead_words e ∙ lead_3));
                products = λ e. sym (arg_word t v (T + m) (λ u. omega arith) (λ u. let i = ap lead_words e ∙ lead_4 in omega arith)) ∙ ev ∙ sym (em ∙ parts_4 t _ e);
                one = λ e. em ∙ parts_3 t _ e;
                low = lw;
                room = omega arith;
                named_low = λ e. let i = arg_5 t v (T + m) e in omega arith;
                named = λ e. let i = arg_5 t v (T + m) e in omega arith;
                older = λ c i. J.older c (subst (In c) (ap₂ (run (frozen s₁)) (let u : T ≡ T + 0 = omega arith in u) q) i);
                fit = omega arith;
              };
              above = Q.above;
              word = word;
              room = omega arith;
            }

        pub form_ask : Forming s₁ n₁ T t v m
        form_ask = making_c I.type I.reads I.room

        module _ (s₂ : List ℕ) (cell n₂ top₂ : ℕ) (F₀ : Formed s₁ s₂ n₁ T t v m cell n₂ top₂) where
          abbrev M : Making s₁ n₁ t a T m
          M = form_ask.making

          pos : 0 < t
          pos = go I.type I.reads
            where
              go : (g : Ty) → Reads (heap s d) p g → 0 < t
              go (node h gs) R = let x = tag_t h gs R in let b = (tag_bounds h).0 in omega arith

          B : Builds s₁ s₂ d n₁ (suc n₁)
          B = former_builds s₁ s₂ d n₁ t a T m M F₀.made pos

          former : (h : Former) (gs : Tys) → Reads (heap s d) p (node h gs) → former_of t a (run (frozen s₁) a m) ≡ h
          unfolding former_of identifiers
          former h gs R = go (eqb t 5) refl
            where
              go : (b : Bool) → eqb t 5 ≡ b → former_of t a (run (frozen s₁) a m) ≡ h
              go true e =
                  let e5 = eqb-true t 5 e in
                  let bd = is_binding (heap s d) p h gs R (sym et ∙ e5) in
                  let nm = (inner h gs R).names (ew ∙ name_5 t e5) in
                  ap (λ z. former_of z a (run (frozen s₁) a m)) e5
                  ∙ ap binding (ap₂ (run (frozen s₁)) (sym (arg_5 t v (T + m) e5) ∙ (let u : T + m ≡ T + m + 0 = omega arith in u)) (count h gs R) ∙ nm ∙ ap identifiers bd.1)
                  ∙ sym bd.1
              go false e =
                  let ne = eqb-false t 5 e in
                  like_yes (heap s d) p h gs R t a _ et ne (λ l. sym (arg_word t v (T + m) ne (λ u. omega arith)) ∙ ev)

          type_c : (h : Former) (gs : Tys) → Reads (heap s d) p (node h gs) → (σ : ℕ → Ty) → Fits (frozen s₂) (suc n₁) σ → σ n₁ ≡ under σ (instance (unknowns row k) (node h gs))
          type_c h gs R σ F =
              former_type s₁ s₂ d n₁ t a T m M F₀.made pos σ F
              ∙ ap₂ node (former h gs R)
              (ap₂ (λ x y. from_list (map σ (run (frozen s₁) x y))) (let u : T ≡ T + 0 = omega arith in u) (count h gs R)
              ∙ (inner h gs R).types σ (fits_old (frozen s₁) (frozen s₂) n₁ (suc n₁) B.grows.old σ F))
              ∙ sym (other h gs R σ)

          is_c : (g : Ty) → Reads (heap s d) p g → Instance s s₂ n top row k n₁ (suc n₁) top₂ g
          unfolding size
          is_c (node h gs) R =
              let J = inner h gs R in
              let q = count h gs R in
              let x = J.words in
              let y = J.cells in
              let z = J.fit in
              let f = F₀.few in
              let ld = made_load s₁ s₂ n₁ t a T m M F₀.made in
              record { type = type_c h gs R; cells = omega arith; words = omega arith; fit = omega arith }

          done : Instanced s s₂ d n top p row k n₁ (suc n₁) top₂
          done = record { builds = builds_on s s₁ s₂ d n n₁ (suc n₁) Q.builds B; above = F₀.above; made = omega arith; is = is_c }

          pub former_done : Instanced s s₂ d n top p row k cell n₂ top₂
          former_done = subst (λ z. Instanced s s₂ d n top p row k z n₂ top₂) (sym F₀.is) (subst (λ z. Instanced s s₂ d n top p row k n₁ z top₂) (sym F₀.next) done)

-- A part in the run of its former, and its identifier in the run after that.
module _ (s d : List ℕ) (n top m j w at c : ℕ) (A : Putting s n top m j c) where
  pub put_ask : Adding s n (top + j)
  put_ask = record {
    P₀ = A.P₀;
    L = A.L;
    solved = A.solved;
    above = above_wide (frozen s) n top (top + j) A.above (omega arith);
    room = let l = A.within in let r = A.room in omega arith;
  }

  module _ (s₁ : List ℕ) (N₁ : Added s s₁ n (top + j) c) where
    above₁ : Above (frozen s₁) n top
    above₁ = added_above s s₁ d n (top + j) c put_ask N₁ top A.above

    pub put_part : (w ≡ 1 → ⊥) → PutPart s s₁ d n top m j w at c
    put_part e = record {
      builds = added_builds s s₁ d n (top + j) c put_ask N₁;
      above = above₁;
      fit = added_load s s₁ d n (top + j) c put_ask N₁;
      part = added_here s s₁ d n (top + j) c put_ask N₁;
      name = λ y. absurd (e y);
      others = λ q x y. added_other s s₁ d n (top + j) c put_ask N₁ q x;
    }

    pub name_ask : Adding s₁ n (top + m + j)
    name_ask = record {
      P₀ = A.P₀;
      L = A.L;
      solved = N₁.grown A.P₀ A.L A.solved;
      above = above_wide (frozen s₁) n top (top + m + j) above₁ (omega arith);
      room = let l = A.within in let r = A.room in omega arith;
    }

    module _ (s₂ : List ℕ) (id : ℕ) (N₂ : Added s₁ s₂ n (top + m + j) id) (e : id ≡ get_or (heap s₁ d) at 0) where
      B₁ : Builds s s₁ d n n
      B₁ = added_builds s s₁ d n (top + j) c put_ask N₁

      pub put_named : PutPart s s₂ d n top m j w at c
      put_named = record {
        builds = builds_on s s₁ s₂ d n n n B₁ (added_builds s₁ s₂ d n (top + m + j) id name_ask N₂);
        above = added_above s₁ s₂ d n (top + m + j) id name_ask N₂ top above₁;
        fit = added_load s₁ s₂ d n (top + m + j) id name_ask N₂ ∙ added_load s s₁ d n (top + j) c put_ask N₁;
        part = added_other s₁ s₂ d n (top + m + j) id name_ask N₂ (top + j) (λ x. let l = A.within in omega arith) ∙ added_here s s₁ d n (top + j) c put_ask N₁;
        name = λ y. added_here s₁ s₂ d n (top + m + j) id name_ask N₂ ∙ e ∙ ap (λ z. get_or z at 0) (heap_kept s s₁ d B₁.grows.low);
        others = λ q x y. added_other s₁ s₂ d n (top + m + j) id name_ask N₂ q y ∙ added_other s s₁ d n (top + j) c put_ask N₁ q x;
      }

-- The parts, from number j of m on.
nil_names : (l : List ℕ) → length l ≡ 0 → [] ≡ l
nil_names [] e = refl
nil_names (x ∷ l) e = absurd (omega arith)

module _ (s d : List ℕ) (n top at w m j row k : ℕ) (A : InstancingParts s d n top at w m j row k) where
  none_c : m ≤ j → (l : List ℕ) (gs : Tys) (e : ℕ) → Rest (heap s d) w at l gs e → part_count_type gs + j ≡ m → Instances s s n top w m j row k n top l gs
  unfolding run from_list instances unders size
  none_c le l tnil e R q = record {
    types = λ σ F. refl;
    older = λ c i. absurd i;
    names = λ x. nil_names l (subst (λ z. Names z l tnil) x R.names).1;
    cells = omega arith;
    words = omega arith;
    fit = omega arith;
  }
  none_c le l (tcons g gs) e R q = absurd (omega arith)

  pub parts_none : m ≤ j → InstancedParts s s d n top at w m j row k n top
  parts_none le = record { builds = builds_refl s d n; above = A.room.above; are = none_c le }

  module _ (lt : j < m) where
    first_c : (l : List ℕ) (gs : Tys) (e : ℕ) → Rest (heap s d) w at l gs e → part_count_type gs + j ≡ m → EnteringRoom s d n top (sizes gs) row k → Instancing s d n top (at + w) row k
    unfolding size
    first_c l tnil e R q A' = absurd (omega arith)
    first_c l (tcons g gs) e R q A' = record {
      type = g;
      reads = (part_next (heap s d) w at l g gs e R).reads;
      room = room_less s d n top (size g) (size g + sizes gs) row k (omega arith) A';
    }

    pub first_ask : Instancing s d n top (at + w) row k
    first_ask = first_c A.l A.gs A.e A.rest A.count A.room

    module _ (s₁ : List ℕ) (c n₁ top₁ : ℕ) (X : Instanced s s₁ d n top (at + w) row k c n₁ top₁) where
      eh : heap s₁ d ≡ heap s d
      eh = heap_kept s s₁ d X.builds.grows.low

      S₁ : Solved s₁ n₁ A.room.P₀ A.room.L
      S₁ = X.builds.grows.solved A.room.P₀ A.room.L A.room.solved

      pub skip_ask : Reading s₁ d (at + w)
      skip_ask = record {
        areas = record { size = S₁.held.size; few = let z = A.room.few in omega arith };
        readable = record { type = first_ask.type; reads = subst (λ z. Reads z (at + w) first_ask.type) (sym eh) first_ask.reads };
      }

      module _ (e₁ : ℕ) (E : Ends s₁ d (at + w) e₁) where
        rest₁ : (l : List ℕ) (g : Ty) (gs : Tys) (e : ℕ) (R : Rest (heap s d) w at l (tcons g gs) e) → Rest (heap s₁ d) w e₁ (part_next (heap s d) w at l g gs e R).tail gs e
        rest₁ l g gs e R =
            let P = part_next (heap s d) w at l g gs e R in
            let q = E.is g (subst (λ z. Reads z (at + w) g) (sym eh) P.reads) in
            subst (λ z. Rest z w e₁ P.tail gs e) (sym eh) (subst (λ z. Rest (heap s d) w z P.tail gs e) (sym q) P.rest)

        rest_c : (l : List ℕ) (gs : Tys) (e : ℕ) → Rest (heap s d) w at l gs e → part_count_type gs + j ≡ m → EnteringRoom s d n top (sizes gs) row k → top + 2 * sizes gs + 2 * j ≤ frozen_size →
            InstancingParts s₁ d n₁ top₁ e₁ w m (j + 1) row k
        unfolding size
        rest_c l tnil e R q A' h = absurd (omega arith)
        rest_c l (tcons g gs) e R q A' h =
            let P = part_next (heap s d) w at l g gs e R in
            let Y = X.is g P.reads in
            let a = Y.cells in
            let b = Y.words in
            let f = Y.fit in
            let a' = A'.cells in
            let b' = A'.words in
            let f' = A'.fit in
            record {
              l = P.tail;
              gs = gs;
              e = e;
              rest = rest₁ l g gs e R;
              count = omega arith;
              room = record {
                P₀ = A.room.P₀;
                L = A.room.L;
                solved = S₁;
                above = X.above;
                few = A'.few;
                row_made = let z = X.builds.grows.wide in let y = A'.row_made in omega arith;
                cells = omega arith;
                words = omega arith;
                fit = omega arith;
              };
              ahead = omega arith;
            }

        pub later_place : (length (heap s₁ d) ≡ length (heap s d)) × (at + w < e₁)
        later_place =
            let g = skip_ask.readable.type in
            let q = E.is g skip_ask.readable.reads in
            let z = words_some g in
            (ap length eh, omega arith)

        pub rest_ask : InstancingParts s₁ d n₁ top₁ e₁ w m (j + 1) row k
        rest_ask = rest_c A.l A.gs A.e A.rest A.count A.room A.ahead

        module _ (s₂ : List ℕ) (n₂ T : ℕ) (Y : InstancedParts s₁ s₂ d n₁ top₁ e₁ w m (j + 1) row k n₂ T) where
          S₂ : Solved s₂ n₂ A.room.P₀ A.room.L
          S₂ = Y.builds.grows.solved A.room.P₀ A.room.L S₁

          later : (l : List ℕ) (g : Ty) (gs : Tys) (e : ℕ) (R : Rest (heap s d) w at l (tcons g gs) e) → suc (part_count_type gs) + j ≡ m →
              Instances s₁ s₂ n₁ top₁ w m (j + 1) row k n₂ T (part_next (heap s d) w at l g gs e R).tail gs
          later l g gs e R q = Y.are _ gs e (rest₁ l g gs e R) (omega arith)

          putting_c : (l : List ℕ) (gs : Tys) (e : ℕ) → Rest (heap s d) w at l gs e → part_count_type gs + j ≡ m → top + 2 * sizes gs + 2 * j ≤ frozen_size → T + m + m ≤ frozen_size
          unfolding size
          putting_c l tnil e R q h = absurd (omega arith)
          putting_c l (tcons g gs) e R q h =
              let a = (X.is g (part_next (heap s d) w at l g gs e R).reads).words in
              let b = (later l g gs e R q).words in
              omega arith

          pub putting : Putting s₂ n₂ T m j c
          putting = record {
            P₀ = A.room.P₀;
            L = A.room.L;
            solved = S₂;
            above = Y.above;
            made = let z = X.made in let y = Y.builds.grows.wide in omega arith;
            within = lt;
            room = putting_c A.l A.gs A.e A.rest A.count A.ahead;
          }

          module _ (s₃ : List ℕ) (Z : PutPart s₂ s₃ d n₂ T m j w at c) where
            size₂ : length (frozen s₂) ≡ frozen_size
            size₂ = frozen_length s₂ S₂.held.size

            size₃ : length (frozen s₃) ≡ frozen_size
            size₃ = frozen_length s₃ (Z.builds.grows.solved A.room.P₀ A.room.L S₂).held.size

            room : T + m + m ≤ frozen_size
            room = putting.room

            part_run : (q : ℕ) → suc q + j ≡ m → run (frozen s₃) (T + j) (suc q) ≡ c ∷ run (frozen s₂) (T + (j + 1)) q
            part_run q e =
                let a = size₂ in
                let b = size₃ in
                let r = room in
                run_cons (frozen s₃) (T + j) q (omega arith)
                ∙ ap₂ ◌∷◌ Z.part
                (ap (λ z. run (frozen s₃) z q) (let u : suc (T + j) ≡ T + (j + 1) = omega arith in u)
                ∙ run_frame (frozen s₂) (frozen s₃) (T + (j + 1)) q (omega arith) (omega arith) (λ x y z. Z.others x (λ i. omega arith) (λ i. omega arith)))

            name_run : w ≡ 1 → (q : ℕ) → suc q + j ≡ m → run (frozen s₃) (T + m + j) (suc q) ≡ get_or (heap s d) at 0 ∷ run (frozen s₂) (T + m + (j + 1)) q
            name_run one q e =
                let a = size₂ in
                let b = size₃ in
                let r = room in
                run_cons (frozen s₃) (T + m + j) q (omega arith)
                ∙ ap₂ ◌∷◌ (Z.name one ∙ ap (λ z. get_or z at 0) (heap_kept s₁ s₂ d Y.builds.grows.low ∙ eh))
                (ap (λ z. run (frozen s₃) z q) (let u : suc (T + m + j) ≡ T + m + (j + 1) = omega arith in u)
                ∙ run_frame (frozen s₂) (frozen s₃) (T + m + (j + 1)) q (omega arith) (omega arith) (λ x y z. Z.others x (λ i. omega arith) (λ i. omega arith)))

            fits₂ : (σ : ℕ → Ty) → Fits (frozen s₃) n₂ σ → Fits (frozen s₂) n₂ σ
            fits₂ σ F = fits_old (frozen s₂) (frozen s₃) n₂ n₂ Z.builds.grows.old σ F

            fits₁ : (σ : ℕ → Ty) → Fits (frozen s₃) n₂ σ → Fits (frozen s₁) n₁ σ
            fits₁ σ F = fits_old (frozen s₁) (frozen s₂) n₁ n₂ Y.builds.grows.old σ (fits₂ σ F)

            older_c : (cs : List ℕ) → ((x : ℕ) → In x cs → x < n₂) → (x : ℕ) → In x (c ∷ cs) → x < n₂
            older_c cs h x (inl e) = let z = X.made in let y = Y.builds.grows.wide in omega arith
            older_c cs h x (inr i) = h x i

            done_c : (l : List ℕ) (gs : Tys) (e : ℕ) → Rest (heap s d) w at l gs e → part_count_type gs + j ≡ m → Instances s s₃ n top w m j row k n₂ T l gs
            unfolding size from_list instances unders
            done_c l tnil e R q = absurd (omega arith)
            done_c l (tcons g gs) e R q =
                let P = part_next (heap s d) w at l g gs e R in
                let G = X.is g P.reads in
                let K = later l g gs e R q in
                let a = G.cells in
                let b = G.words in
                let f = G.fit in
                let a' = K.cells in
                let b' = K.words in
                let f' = K.fit in
                let ld = Z.fit in
                record {
                  types = λ σ F. ap (λ z. from_list (map σ z)) (part_run (part_count_type gs) q) ∙ ap₂ tcons (G.type σ (fits₁ σ F)) (K.types σ (fits₂ σ F));
                  older = λ x i. older_c (run (frozen s₂) (T + (j + 1)) (part_count_type gs)) K.older x (subst (In x) (part_run (part_count_type gs) q) i);
                  names = λ one. name_run one (part_count_type gs) q ∙ ap (λ z. get_or (heap s d) at 0 ∷ z) (K.names one) ∙ sym (P.name (λ z. omega arith));
                  cells = omega arith;
                  words = omega arith;
                  fit = omega arith;
                }

            pub parts_done : InstancedParts s s₃ d n top at w m j row k n₂ T
            parts_done = record {
              builds = builds_on s s₁ s₃ d n n₁ n₂ X.builds (builds_on s₁ s₂ s₃ d n₁ n₂ n₂ Y.builds Z.builds);
              above = Z.above;
              are = done_c;
            }
