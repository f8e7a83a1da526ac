-- The binding of a signature: places settled one by one, rows put in the runs, the former over them.
use mathlib.Core.Path.{◌≡◌, refl, sym, ap, ap₂, subst, ◌∙◌}
use mathlib.Core.List.{List, [], ◌∷◌, map}
use mathlib.Core.Logic.{⊎_elim}
use Prim.Native.Nat.{ℕ, zero, suc, ◌+◌, ◌*◌, ◌≤◌, ◌<◌}
use native.Mathlib.Omega.{arith}
use native.Mathlib.Nat.{eq-or-lt_of_le}
use lib.ListN.{length, get_or}
use Rattle.reader_rules.specs.Decode.{pairs_from}
use Rattle.types_rules.specs.Equations.{In}
use Rattle.types_rules.specs.Finite.{from_list}
use Rattle.types_rules.specs.Former.{binding, former_of}
use Rattle.types_rules.specs.Types.{Ty, Tys, node, tcons, Each, Eachs, under, unders}
use Rattle.checker_rules.specs.Unknowns.{Valuation}
use Rattle.checker_rules.specs.Items.{◌⨾◌, Meets}
use Rattle.checker_rules.specs.Signatures.{Signature, no_names, naming, terms_of, binding_of}
use Rattle.types_cells.specs.Layout.{frozen_size}
use Rattle.types_cells.specs.Store.{frozen, load, run}
use Rattle.types_cells.specs.Calls.{Above, Adding, Added, Making, Made}
use Rattle.types_solver.specs.Growth.{Builds, Putting}
use Rattle.types_cells.specs.Settled.{heap, Reads, Readable, Obeys, Entering, Entered}
use Rattle.types_cells.proofs.SettlingLaws.{heap_kept}
use Rattle.types_cells.proofs.Words.{frozen_length, run_cons}
use Rattle.types_cells.proofs.Growing.{made_above, made_load}
use Rattle.types_solver.proofs.Extending.{above_wide, added_above, added_builds, added_here, added_load, added_other, builds_on, builds_refl, former_builds, former_type}
use Rattle.types_solver.proofs.Instancing.{put_ask, name_ask}
use Rattle.checker_signatures.specs.Rows.{rows, identifiers_of}
use Rattle.checker_signatures.specs.Carried.{Carries}
use Rattle.checker_signatures.proofs.CarryLaws.{carries_names}
use Rattle.checker_pieces.specs.Piece.{Solution}
use Rattle.checker_pieces.specs.Stage.{Ghost, Stands, Room}
use Rattle.checker_pieces.proofs.Stages.{room_less}
use Rattle.checker_lookup.specs.Scoped.{SettledAt}
use Rattle.checker_lookup.specs.Enlarged.{Enlarged}
use Rattle.checker_lookup.specs.Bindings.{place_at, Places, PlacesSettled, RowPut, PuttingRows, RowsPut, Binding, Bound}
use Rattle.checker_lookup.proofs.Standing.{enlarged_refl, enlarged_on, entering, settled_enlarged, built_enlarged}

-- PLACES, settled one by one.
module _ (s₀ d w : List ℕ) (base m n : ℕ) (P : Places s₀ d w base m n) where
  pub places_start : PlacesSettled s₀ s₀ d w base 0 n
  places_start = record {
    enlarged = λ top. subst (λ (k : ℕ). Enlarged s₀ s₀ d n top k top 0) (let z : n ≡ n + 0 = omega arith in z) (enlarged_refl s₀ d n top);
    fit = let z : n + 0 ≡ n = omega arith in let y : load (frozen s₀) n ≡ load (frozen s₀) n + 0 = omega arith in ap (load (frozen s₀)) z ∙ y;
    types = λ j l. absurd (omega arith);
  }

  module _ (s : List ℕ) (j : ℕ) (l : j < m) (I : PlacesSettled s₀ s d w base j n) (p : ℕ) (e : p ≡ place_at w base j) where
    pub places_ask : Entering s d (n + j) p
    places_ask =
        let E = I.enlarged P.top in
        entering s d (n + j) P.top p P.ghost (E.stands P.ghost P.stands)
        (E.uses 1 (room_less s₀ n P.top (j + 1) m (omega arith) P.room))
        (subst (Readable (heap s d)) (sym e) (subst (λ (h : List ℕ). Readable h (place_at w base j)) (sym (heap_kept s₀ s d E.low)) (P.readable j l)))

    pub places_next : (s' : List ℕ) → Entered s s' d (n + j) p → PlacesSettled s₀ s' d w base (j + 1) n
    places_next s' N =
        let z : suc (n + j) ≡ n + (j + 1) = omega arith in
        record {
          enlarged = λ top.
              subst (λ (k : ℕ). Enlarged s₀ s' d n top k top (j + 1)) z
              (enlarged_on s₀ s s' d n top (n + j) top (suc (n + j)) top j 1 (I.enlarged top) (settled_enlarged s s' d (n + j) p places_ask N top));
          fit = let a = N.fit in let b = I.fit in let c : load (frozen s₀) n + j + 1 ≡ load (frozen s₀) n + (j + 1) = omega arith in
              ap (load (frozen s')) (sym z) ∙ N.fit ∙ ap (λ (x : ℕ). x + 1) I.fit ∙ c;
          types = λ i k g R σ O.
              let O' : Obeys s' d (suc (n + j)) σ = subst (λ (x : ℕ). Obeys s' d x σ) (sym z) O in
              ⊎_elim
              (λ q.
              ap (λ (x : ℕ). σ (n + x)) q
              ∙ N.type g
              (subst (λ (x : ℕ). Reads (heap s d) x g) (ap (place_at w base) q ∙ sym e) (subst (λ (h : List ℕ). Reads h (place_at w base i) g) (sym (heap_kept s₀ s d (I.enlarged P.top).low)) R))
              σ O')
              (λ q. I.types i q g R σ (N.before σ O'))
              (eq-or-lt_of_le (let y : i ≤ j = omega arith in y));
        }

-- ONE ROW in the runs.
module _ (s : List ℕ) (n top m j c : ℕ) (A : Putting s n top m j c) where
  pub row_ask : Adding s n (top + j)
  row_ask = put_ask s [] n top m j 0 0 c A

  module _ (s₁ : List ℕ) (N : Added s s₁ n (top + j) c) where
    pub row_ask_name : Adding s₁ n (top + m + j)
    row_ask_name = name_ask s [] n top m j 0 0 c A s₁ N

    pub row_put : (s₂ : List ℕ) (id : ℕ) → Added s₁ s₂ n (top + m + j) id → RowPut s s₂ n top m j c id
    row_put s₂ id M = record {
      builds = λ d. builds_on s s₁ s₂ d n n n (added_builds s s₁ d n (top + j) c row_ask N) (added_builds s₁ s₂ d n (top + m + j) id row_ask_name M);
      above = added_above s₁ s₂ [] n (top + m + j) id row_ask_name M top (added_above s s₁ [] n (top + j) c row_ask N top A.above);
      fit = added_load s₁ s₂ [] n (top + m + j) id row_ask_name M ∙ added_load s s₁ [] n (top + j) c row_ask N;
      part = added_other s₁ s₂ [] n (top + m + j) id row_ask_name M (top + j) (λ x. let l = A.within in omega arith) ∙ added_here s s₁ [] n (top + j) c row_ask N;
      name = added_here s₁ s₂ [] n (top + m + j) id row_ask_name M;
      others = λ q x y. added_other s₁ s₂ [] n (top + m + j) id row_ask_name M q y ∙ added_other s s₁ [] n (top + j) c row_ask N q x;
    }

-- THE ROWS.
module _ (s₀ w : List ℕ) (base m first n top : ℕ) (P : PuttingRows s₀ w base m first n top) where
  pub rows_start : RowsPut s₀ s₀ w base m first n top 0
  rows_start = record {
    builds = λ d. builds_refl s₀ d n;
    above = P.above;
    fit = refl;
    parts = λ i l. absurd (omega arith);
    names = λ i l. absurd (omega arith);
  }

  module _ (s : List ℕ) (j : ℕ) (l : j < m) (I : RowsPut s₀ s w base m first n top j) where
    pub rows_ask : Putting s n top m j (first + j)
    rows_ask = record {
      P₀ = P.P₀;
      L = P.L;
      solved = (I.builds []).grows.solved P.P₀ P.L P.solved;
      above = I.above;
      made = let z = P.made in omega arith;
      within = l;
      room = P.room;
    }

    pub rows_next : (s' : List ℕ) (id : ℕ) → id ≡ get_or w (base + 2 * j) 0 → RowPut s s' n top m j (first + j) id → RowsPut s₀ s' w base m first n top (j + 1)
    rows_next s' id e N = record {
      builds = λ d. builds_on s₀ s s' d n n n (I.builds d) (N.builds d);
      above = N.above;
      fit = N.fit ∙ I.fit;
      parts = λ i k. ⊎_elim
          (λ q. ap (λ (x : ℕ). get_or (frozen s') (top + x) 0) q ∙ N.part ∙ ap (λ (x : ℕ). first + x) (sym q))
          (λ q. N.others (top + i) (λ x. omega arith) (λ x. omega arith) ∙ I.parts i q)
          (eq-or-lt_of_le (let y : i ≤ j = omega arith in y));
      names = λ i k. ⊎_elim
          (λ q. ap (λ (x : ℕ). get_or (frozen s') (top + m + x) 0) q ∙ N.name ∙ e ∙ ap (λ (x : ℕ). get_or w (base + 2 * x) 0) (sym q))
          (λ q. N.others (top + m + i) (λ x. omega arith) (λ x. omega arith) ∙ I.names i q)
          (eq-or-lt_of_le (let y : i ≤ j = omega arith in y));
    }

-- m cells one after another
unfoldable up_from : ℕ → ℕ → List ℕ
up_from f zero = []
up_from f (suc m) = f ∷ up_from (suc f) m

up_below : (f m c : ℕ) → In c (up_from f m) → c < f + m
unfolding up_from
up_below f zero c i = absurd i
up_below f (suc m) c i = ⊎_elim (λ e. omega arith) (λ k. let z = up_below (suc f) m c k in omega arith) i

run_cells : (v : List ℕ) (at f m : ℕ) → at + m ≤ length v → ((i : ℕ) → i < m → get_or v (at + i) 0 ≡ f + i) → run v at m ≡ up_from f m
unfolding up_from run
run_cells v at f zero l h = refl
run_cells v at f (suc m) l h =
    let a : at + 0 ≡ at = omega arith in
    let b : f + 0 ≡ f = omega arith in
    let x = sym (ap (λ (k : ℕ). get_or v k 0) a) ∙ h 0 (omega arith) ∙ b in
    let y = run_cells v (suc at) (suc f) m (omega arith) (λ i k. let p : suc at + i ≡ at + suc i = omega arith in let q : f + suc i ≡ suc f + i = omega arith in ap (λ (z : ℕ). get_or v z 0) p ∙ h (suc i) (omega arith) ∙ q) in
    run_cons v at m (omega arith) ∙ ap₂ (λ (z : ℕ) (zs : List ℕ). z ∷ zs) x y

run_names : (v w : List ℕ) (at base m : ℕ) → at + m ≤ length v → ((i : ℕ) → i < m → get_or v (at + i) 0 ≡ get_or w (base + 2 * i) 0) → run v at m ≡ identifiers_of (rows w base m)
unfolding identifiers_of pairs_from run
run_names v w at base zero l h = refl
run_names v w at base (suc m) l h =
    let a : at + 0 ≡ at = omega arith in
    let b : base + 2 * 0 ≡ base = omega arith in
    let x = sym (ap (λ (k : ℕ). get_or v k 0) a) ∙ h 0 (omega arith) ∙ ap (λ (k : ℕ). get_or w k 0) b in
    let y = run_names v w (suc at) (suc (suc base)) m (omega arith) (λ i k. let p : suc at + i ≡ at + suc i = omega arith in let q : base + 2 * suc i ≡ suc (suc base) + 2 * i = omega arith in ap (λ (z : ℕ). get_or v z 0) p ∙ h (suc i) (omega arith) ∙ ap (λ (z : ℕ). get_or w z 0) q) in
    run_cons v at m (omega arith) ∙ ap₂ (λ (z : ℕ) (zs : List ℕ). z ∷ zs) x y

-- WHAT THE ROWS OF A SIGNATURE SAY.
module _ (s d w : List ℕ) (G : Ghost) where
  place_next : (base j : ℕ) → place_at w (suc (suc base)) j ≡ place_at w base (suc j)
  place_next base j = let e : suc (suc base) + 2 * j + 1 ≡ base + 2 * suc j + 1 = omega arith in ap (λ (k : ℕ). get_or w k 0) e

  place_first : (base : ℕ) → get_or w (suc base) 0 ≡ place_at w base 0
  place_first base = let e : suc base ≡ base + 2 * 0 + 1 = omega arith in ap (λ (k : ℕ). get_or w k 0) e

  pub carried_readable : (r : Signature) (base m : ℕ) → Carries (SettledAt s d G) r (rows w base m) → (j : ℕ) → j < m → Readable (heap s d) (place_at w base j)
  unfolding Carries pairs_from
  carried_readable r base zero h j l = absurd (omega arith)
  carried_readable no_names base (suc m) h j l = absurd h
  carried_readable (naming i t r) base (suc m) h zero l =
      subst (Readable (heap s d)) (place_first base) (record { type = h.1.type; reads = h.1.reads })
  carried_readable (naming i t r) base (suc m) h (suc j) l =
      subst (Readable (heap s d)) (place_next base j) (carried_readable r (suc (suc base)) m h.2 j (omega arith))

  carried_over : (r : Signature) (base m : ℕ) → Carries (SettledAt s d G) r (rows w base m) → Eachs (λ x. In x G.mentioned) (terms_of r)
  unfolding Carries pairs_from terms_of Eachs
  carried_over no_names base m h = tt
  carried_over (naming i t r) base zero h = absurd h
  carried_over (naming i t r) base (suc m) h = (h.1.over, carried_over r (suc (suc base)) m h.2)

  carried_types : (r : Signature) (base m n : ℕ) (σ : ℕ → Ty) (τ : Valuation) → Carries (SettledAt s d G) r (rows w base m) → Meets (G.before ⨾ G.items) τ →
      ((j : ℕ) → j < m → (g : Ty) → Reads (heap s d) (place_at w base j) g → σ (n + j) ≡ g) → from_list (map σ (up_from n m)) ≡ unders τ (terms_of r)
  unfolding Carries pairs_from terms_of unders up_from from_list map
  carried_types no_names base zero n σ τ h k types = refl
  carried_types no_names base (suc m) n σ τ h k types = absurd h
  carried_types (naming i t r) base zero n σ τ h k types = absurd h
  carried_types (naming i t r) base (suc m) n σ τ h k types =
      let a : n + 0 ≡ n = omega arith in
      let R : Reads (heap s d) (place_at w base 0) h.1.type = subst (λ (p : ℕ). Reads (heap s d) p h.1.type) (place_first base) h.1.reads in
      let x = sym (ap σ a) ∙ types 0 (omega arith) h.1.type R ∙ sym (h.1.means τ k) in
      let y = carried_types r (suc (suc base)) m (suc n) σ τ h.2 k
      (λ j l g Q. let b : suc n + j ≡ n + suc j = omega arith in ap σ b ∙ types (suc j) (omega arith) g (subst (λ (p : ℕ). Reads (heap s d) p g) (place_next base j) Q)) in
      ap₂ tcons x y

-- THE BINDING over the cells n, n + 1, .. whose places were settled.
module _ (s d w : List ℕ) (base m n top : ℕ) (B : Binding s d w base m n top) where
  pub binding_places : Places s d w base m n
  binding_places = record {
    top = top;
    ghost = B.ghost;
    stands = B.stands;
    room = room_less s n top m (suc m) (omega arith) B.room;
    table = B.table;
    readable = carried_readable s d w B.ghost B.signature base m B.carried;
  }

  module _ (s₁ : List ℕ) (P : PlacesSettled s s₁ d w base m n) where
    stands₁ : Stands s₁ d (n + m) top B.ghost
    stands₁ = (P.enlarged top).stands B.ghost B.stands

    pub binding_rows : PuttingRows s₁ w base m n (n + m) top
    binding_rows = record {
      P₀ = B.ghost.equations;
      L = stands₁.piece.L;
      solved = stands₁.piece.solved;
      above = stands₁.above;
      table = B.table;
      made = omega arith;
      room = let z = B.room.words in omega arith;
    }

    module _ (s₂ : List ℕ) (Q : RowsPut s₁ s₂ w base m n (n + m) top m) where
      rows_enlarged : Enlarged s₁ s₂ d (n + m) top (n + m) top 0
      rows_enlarged = built_enlarged s₁ s₂ d (n + m) top (n + m) top 0 (Q.builds d) (λ A. Q.above)
          (λ y R. record { cells = let z = R.cells in omega arith; words = let z = R.words in omega arith; fit = let z = R.fit in let e = Q.fit in omega arith })

      stands₂ : Stands s₂ d (n + m) top B.ghost
      stands₂ = rows_enlarged.stands B.ghost stands₁

      long : length (frozen s₂) ≡ frozen_size
      long = frozen_length s₂ stands₂.piece.solved.held.size

      parts : run (frozen s₂) top m ≡ up_from n m
      parts = run_cells (frozen s₂) top n m (let z = B.room.words in let e = long in omega arith) Q.parts

      names : run (frozen s₂) (top + m) m ≡ identifiers_of (rows w base m)
      names = run_names (frozen s₂) w (top + m) base m (let z = B.room.words in let e = long in omega arith) Q.names

      left : Room s₂ (n + m) top 1
      left = rows_enlarged.uses 1 (room_less s₁ (n + m) top (0 + 1) 1 (omega arith) ((P.enlarged top).uses 1 (room_less s n top (m + 1) (suc m) (omega arith) B.room)))

      pub binding_makes : Making s₂ (n + m) 5 (top + m) top m
      binding_makes = record {
        P₀ = B.ghost.equations;
        L = stands₂.piece.L;
        solved = stands₂.piece.solved;
        few = let z = left.cells in omega arith;
        tags = omega arith;
        plain = λ e. absurd (omega arith);
        powers = λ e. absurd (omega arith);
        products = λ e. absurd (omega arith);
        one = λ e. absurd (omega arith);
        low = stands₂.above.low;
        room = let z = B.room.words in omega arith;
        named_low = λ e. let z = stands₂.above.low in omega arith;
        named = λ e. let z = B.room.words in omega arith;
        older = λ k i. up_below n m k (subst (In k) parts i);
        fit = let z = B.room.fit in let a = Q.fit in let b = P.fit in omega arith;
      }

      module _ (s₃ : List ℕ) (N : Made s₂ s₃ (n + m) 5 (top + m) top m) where
        builds : Builds s₂ s₃ d (n + m) (suc (n + m))
        builds = former_builds s₂ s₃ d (n + m) 5 (top + m) top m binding_makes N (omega arith)

        former_above : Above (frozen s₂) (n + m) top → Above (frozen s₃) (suc (n + m)) (top + m + m)
        former_above A =
            made_above s₂ s₃ (n + m) 5 (top + m) top m binding_makes N (top + m + m) (above_wide (frozen s₂) (n + m) top (top + m + m) A (omega arith)) (omega arith) (λ e. omega arith)

        grown : Enlarged s₁ s₃ d (n + m) top (suc (n + m)) (top + m + m) (suc m)
        grown = built_enlarged s₁ s₃ d (n + m) top (suc (n + m)) (top + m + m) (suc m)
            (builds_on s₁ s₂ s₃ d (n + m) (n + m) (suc (n + m)) (Q.builds d) builds) (λ A. former_above Q.above)
            (λ y R. record {
              cells = let z = R.cells in omega arith;
              words = let z = R.words in omega arith;
              fit = let z = R.fit in let a = Q.fit in let e = made_load s₂ s₃ (n + m) 5 (top + m) top m binding_makes N in omega arith;
            })

        all : Enlarged s s₃ d n top (suc (n + m)) (top + m + m) (suc m)
        all =
            let E = enlarged_on s s₁ s₃ d n top (n + m) top (suc (n + m)) (top + m + m) m (suc m) (P.enlarged top) grown in
            record {
              wide = E.wide;
              low = E.low;
              stands = E.stands;
              later = E.later;
              uses = λ y R. record {
                cells = let z = R.cells in omega arith;
                words = let z = R.words in omega arith;
                fit = let z = R.fit in let a = Q.fit in let b = P.fit in let e = made_load s₂ s₃ (n + m) 5 (top + m) top m binding_makes N in omega arith;
              };
            }

        type : (G : Ghost) → Stands s d n top G → (r : Signature) → Carries (SettledAt s d G) r (rows w base m) → (τ : Valuation) → Meets (G.before ⨾ G.items) τ →
            (σ : ℕ → Ty) → Solution s₃ d (suc (n + m)) G.equations σ → σ (n + m) ≡ under τ (binding_of r)
        unfolding former_of binding_of under
        type G S r C τ h σ X =
            let O = ((grown.later G ((P.enlarged top).stands G S)).solutions σ X).obeys in
            let ids = names ∙ sym (carries_names (SettledAt s d G) r (rows w base m) C) in
            let ts = ap (λ (l : List ℕ). from_list (map σ l)) parts ∙ carried_types s d w G r base m n σ τ C h (λ j l g R. P.types j l g R σ O) in
            former_type s₂ s₃ d (n + m) 5 (top + m) top m binding_makes N (omega arith) σ X.fits
            ∙ ap₂ (λ (l : List ℕ) (gs : Tys). node (binding l) gs) ids ts

        pub binding_bound : Bound s s₃ d w base m n top (n + m) (n + m + 1) (top + m + m)
        unfolding binding_of Each
        binding_bound =
            let z : suc (n + m) ≡ n + m + 1 = omega arith in
            subst (λ (k : ℕ). Bound s s₃ d w base m n top (n + m) k (top + m + m)) z
            (record {
              enlarged = all;
              denoted = λ G S r C. record { made = omega arith; denotes = λ τ h σ X k. type G S r C τ h σ X; over = carried_over s d w G r base m C };
            })
