-- One link, and what it keeps.
use mathlib.Core.Path.{◌≡◌, refl, sym, ap, ap₂, subst, ◌∙◌}
use mathlib.Core.Bool.{Bool, true, false}
use mathlib.Core.List.{List, [], ◌∷◌}
use mathlib.Core.Logic.{⊎_elim}
use mathlib.Core.Option.{Option, some}
use Prim.Native.Nat.{ℕ, zero, suc, ◌+◌, ◌*◌, ◌≤◌, ◌<◌}
use native.Mathlib.Omega.{arith}
use native.Mathlib.Nat.{eq-or-lt_of_le}
use lib.Dec.{eqb}
use lib.ListN.{length, get_or, set, length-set}
use lib.Seq.{get_or-set_same, get_or-set_other}
use borrow.Author.Tests.{eqb-true, eqb-false}
use Rattle.types_rules.proofs.Closed.{closed_same, closed_shape, closed_unk, idem}
use Rattle.types_rules.proofs.Follows.{all_in_lem, reps, zip_all}
use Rattle.types_rules.proofs.Rational.{ZipSpec, rep_sat, zip_spec}
use Rattle.types_rules.specs.Classes.{Closed, next, rep, zip_n}
use Rattle.types_rules.specs.Equations.{AllP, In, Pairs, Solves, pair}
use Rattle.types_rules.specs.Follows.{Clash, Follows, View, matching, parts, shape, symmetric}
use Rattle.types_cells.specs.Layout.{max_cells, max_pending, links_at, pairs_at, seconds_at, area_size}
use Rattle.types_cells.specs.Store.{frozen, link_at, tag_at, count_at, parts_at, former_at, view, Cell, load, free, weight, link_of, Both, Held, pending, Busy}
use Rattle.types_cells.proofs.LinkLaws.{rep_below, held_same}
use Rattle.types_cells.proofs.Words.{frozen_set, link_new, link_same}
use Rattle.types_cells.proofs.Heads.{view_unk, view_shape, parts_length}
use Rattle.types_unifier.specs.Comparing.{Alike}
use Rattle.types_unifier.specs.Merging.{Next}
use Rattle.types_unifier.proofs.PendingLaws.{pending_low}

-- What is kept where links and the frozen part are.
abbrev term : List ℕ → ℕ → ℕ
term s i = free (link_at s i) (1 + count_at (frozen s) i)

module _ (s s' : List ℕ) (e : frozen s' ≡ frozen s) where
  term_same : (i : ℕ) → link_at s' i ≡ link_at s i → term s' i ≡ term s i
  term_same i q = ap₂ (λ l w. free l (1 + count_at w i)) q e

  pub weight_same : (m : ℕ) → ((i : ℕ) → i < m → link_at s' i ≡ link_at s i) → weight s' m ≡ weight s m
  unfolding weight
  weight_same zero h = refl
  weight_same (suc m) h = ap₂ ◌+◌ (term_same m (h m (omega arith))) (weight_same m (λ i l. h i (omega arith)))

free_le : (l v : ℕ) → free l v ≤ v
unfolding free
free_le zero v = omega arith
free_le (suc l) v = omega arith

pub weight_load : (s : List ℕ) (m : ℕ) → weight s m ≤ load (frozen s) m
unfolding weight load
weight_load s zero = omega arith
weight_load s (suc m) = omega (arith, weight_load s m, free_le (link_at s m) (1 + count_at (frozen s) m))

-- The link of x to y.
module _ (s : List ℕ) (x y : ℕ) (size : length s ≡ area_size) (few : x < max_cells) (few_y : y < max_cells) where
  abbrev pub s₁ : List ℕ
  s₁ = set s (links_at + x) (suc y)

  pub still₁ : frozen s₁ ≡ frozen s
  still₁ = frozen_set s (links_at + x) (suc y) (omega arith)

  hit : link_at s₁ x ≡ suc y
  hit = link_new s₁ x (suc y) (omega arith) (get_or-set_same s (links_at + x) (suc y) 0 (omega arith))

  miss : (i : ℕ) → (i ≡ x → ⊥) → link_at s₁ i ≡ link_at s i
  miss i ne = link_same s s₁ i i (get_or-set_other s (links_at + x) (links_at + i) (suc y) 0 (λ e. ne (omega arith)))

  weight_low : (m : ℕ) → m ≤ x → weight s₁ m ≡ weight s m
  weight_low m l = weight_same s s₁ still₁ m (λ i q. miss i (λ z. omega arith))

  module _ (bare : link_at s x ≡ 0) where
    term_hit : term s₁ x ≡ 0
    unfolding free
    term_hit = ap (λ l. free l (1 + count_at (frozen s₁) x)) hit

    term_old : term s x ≡ 1 + count_at (frozen s) x
    unfolding free
    term_old = ap (λ l. free l (1 + count_at (frozen s) x)) bare

    pub weight_link : (m : ℕ) → x < m → weight s₁ m + (1 + count_at (frozen s) x) ≡ weight s m
    unfolding weight
    weight_link zero l = absurd (omega arith)
    weight_link (suc m) l = ⊎_elim
        (λ e. subst (λ z. term s₁ z + weight s₁ z + (1 + count_at (frozen s) x) ≡ term s z + weight s z) e
        (omega (arith, term_hit, term_old, weight_low x (omega arith))))
        (λ q. omega (arith, weight_link m q, term_same s s₁ still₁ m (miss m (λ z. omega arith))))
        (eq-or-lt_of_le l')
      where
        l' : x ≤ m
        l' = omega arith

  link_c : (n : ℕ) (L : Pairs ℕ) (i : ℕ) → next eqb L i ≡ link_of (link_at s i) → (c : Bool) → eqb i x ≡ c →
      (elim c as (λ z. Option ℕ) [ true ↦ some y | false ↦ next eqb L i ]) ≡ link_of (link_at s₁ i)
  unfolding link_of
  link_c n L i h true e = sym (ap (λ z. link_of (link_at s₁ z)) (eqb-true i x e) ∙ ap link_of hit)
  link_c n L i h false e = h ∙ ap link_of (sym (miss i (eqb-false i x e)))

  pub held_link : (n : ℕ) (L : Pairs ℕ) → x < n → y < n → rep eqb L x ≡ x → rep eqb L y ≡ y → (y ≡ x → ⊥) → Held s n L → Held s₁ n (pair x y L)
  unfolding next
  held_link n L lx ly rx ry ne H = record {
    size = length-set s (links_at + x) (suc y) ∙ size;
    few = H.few;
    room = subst (λ w. load w n < max_pending) (sym still₁) H.room;
    cells = λ i m. subst (λ w. Cell w i) (sym still₁) (H.cells i m);
    links = λ i m. link_c n L i (H.links i m) (eqb i x) refl;
    wf = (rx, ry, ne, H.wf);
    inside = ((lx, ly), H.inside);
  }

-- The invariant, from its parts over w and P.
pub busy : (s : List ℕ) (n : ℕ) (P₀ L : Pairs ℕ) (k : ℕ) (w : List ℕ) (P : Pairs ℕ) → frozen s ≡ w → pending s k ≡ P → Held s n L →
    Closed eqb (view w n) P₀ L P → AllP (Follows (view w n) P₀) L → AllP (Follows (view w n) P₀) P → AllP (Both n) P → AllP (Both n) P₀ →
    weight s n + k ≤ max_pending → Busy s n P₀ L k
busy s n P₀ L k w P ew eP H C fl fp b a q = record {
  held = H;
  closed = subst (λ z. Closed eqb (view z n) P₀ L (pending s k)) (sym ew)
      (subst (λ Q. Closed eqb (view w n) P₀ L Q) (sym eP) C);
  follows = subst (λ z. AllP (Follows (view z n) P₀) L) (sym ew) fl;
  due = subst (λ z. AllP (Follows (view z n) P₀) (pending s k)) (sym ew) (subst (λ Q. AllP (Follows (view w n) P₀) Q) (sym eP) fp);
  cells = subst (λ Q. AllP (Both n) Q) (sym eP) b;
  asked = a;
  fit = q;
}

all_parts : (i n : ℕ) (cs ds : List ℕ) → ((c : ℕ) → In c cs → c < n) → ((c : ℕ) → In c ds → c < n) → AllP (Both n) (parts cs ds)
all_parts i n [] ds f g = tt
all_parts i n (c ∷ cs) [] f g = tt
all_parts i n (c ∷ cs) (d ∷ ds) f g =
    ((f c (mathlib.Core.Logic.inl refl), g d (mathlib.Core.Logic.inl refl)), all_parts i n cs ds (λ e j. f e (mathlib.Core.Logic.inr j)) (λ e j. g e (mathlib.Core.Logic.inr j)))

module _ (s : List ℕ) (n : ℕ) (P₀ L : Pairs ℕ) (k : ℕ) (B : Busy s n P₀ L (suc k)) where
  abbrev Vw : ℕ → View ℕ
  Vw = view (frozen s) n

  abbrev pub a : ℕ
  a = get_or s (pairs_at + 2 * k) 0

  abbrev pub b : ℕ
  b = get_or s (seconds_at + 2 * k) 0

  C : Closed eqb Vw P₀ L (pair a b (pending s k))
  unfolding pending
  C = B.closed

  D : AllP (Follows Vw P₀) (pair a b (pending s k))
  unfolding pending
  D = B.due

  E : AllP (Both n) (pair a b (pending s k))
  unfolding pending
  E = B.cells

  pub below_a : a < n
  below_a = E.0.0

  pub below_b : b < n
  below_b = E.0.1

  pub skip : rep eqb L a ≡ rep eqb L b → Next s n P₀ k
  skip q = record {
    L = L;
    busy = busy s n P₀ L k (frozen s) (pending s k) refl refl B.held
        (closed_same ℕ eqb eqb-true eqb-false Vw P₀ L (pending s k) a b C q) B.follows D.1 E.1 B.asked (let f = B.fit in omega arith);
  }

  module _ (x y : ℕ) (ra : rep eqb L a ≡ x) (rb : rep eqb L b ≡ y) (ne : x ≡ y → ⊥) (fx : link_at s x ≡ 0) (fy : link_at s y ≡ 0) where
    pub lx : x < n
    lx = subst (λ z. z < n) ra (rep_below n L B.held.inside a below_a)

    pub ly : y < n
    ly = subst (λ z. z < n) rb (rep_below n L B.held.inside b below_b)

    rx : rep eqb L x ≡ x
    rx = ap (rep eqb L) (sym ra) ∙ idem ℕ eqb eqb-true eqb-false L B.held.wf a ∙ ra

    ry : rep eqb L y ≡ y
    ry = ap (rep eqb L) (sym rb) ∙ idem ℕ eqb eqb-true eqb-false L B.held.wf b ∙ rb

    same_f : (f : ℕ → ℕ) → Solves f L → f x ≡ f y → f a ≡ f b
    same_f f fl q = sym (rep_sat ℕ eqb eqb-true eqb-false f L fl a) ∙ ap f ra ∙ q ∙ ap f (sym rb) ∙ rep_sat ℕ eqb eqb-true eqb-false f L fl b

    pub meets : Follows Vw P₀ x y
    meets = subst (λ z. Follows Vw P₀ z y) ra (subst (λ z. Follows Vw P₀ (rep eqb L a) z) rb (reps ℕ eqb eqb-true eqb-false Vw P₀ L (pending s k) a b (B.follows, (D.0, D.1))))

    few_x : x < max_cells
    few_x = let f = B.held.few in let l = lx in omega arith

    few_y : y < max_cells
    few_y = let f = B.held.few in let l = ly in omega arith

    pub left_unk : tag_at (frozen s) x ≡ 0 → Next (set s (links_at + x) (suc y)) n P₀ k
    left_unk t = record {
      L = pair x y L;
      busy = busy _ n P₀ (pair x y L) k (frozen s) (pending s k)
          (still₁ s x y B.held.size few_x few_y) (pending_low s k (links_at + x) (suc y) (let l = few_x in omega arith))
          (held_link s x y B.held.size few_x few_y n L lx ly rx ry (λ q. ne (sym q)) B.held)
          (closed_unk ℕ eqb eqb-true eqb-false Vw P₀ L (pending s k) a b C x y rx ry (λ q. ne (sym q)) (view_unk (frozen s) n x lx t) same_f)
          (meets, B.follows) D.1 E.1 B.asked
          (let f = B.fit in omega (arith, weight_link s x y B.held.size few_x few_y fx n lx));
    }

    pub right_unk : tag_at (frozen s) y ≡ 0 → Next (set s (links_at + y) (suc x)) n P₀ k
    right_unk t = record {
      L = pair y x L;
      busy = busy _ n P₀ (pair y x L) k (frozen s) (pending s k)
          (still₁ s y x B.held.size few_y few_x) (pending_low s k (links_at + y) (suc x) (let l = few_y in omega arith))
          (held_link s y x B.held.size few_y few_x n L ly lx ry rx ne B.held)
          (closed_unk ℕ eqb eqb-true eqb-false Vw P₀ L (pending s k) a b C y x ry rx ne (view_unk (frozen s) n y ly t) (λ f fl q. same_f f fl (sym q)))
          (symmetric meets, B.follows) D.1 E.1 B.asked
          (let f = B.fit in omega (arith, weight_link s y x B.held.size few_y few_x fy n ly));
    }

    module _ (tx : 0 < tag_at (frozen s) x) (ty : 0 < tag_at (frozen s) y) where
      vx : Vw x ≡ shape (former_at (frozen s) x) (parts_at (frozen s) x)
      vx = view_shape (frozen s) n x lx tx

      vy : Vw y ≡ shape (former_at (frozen s) y) (parts_at (frozen s) y)
      vy = view_shape (frozen s) n y ly ty

      pub apart : (Alike (frozen s) x y → ⊥) → Clash Vw P₀
      apart no' = record {
        n = x;
        m = y;
        h = former_at (frozen s) x;
        g = former_at (frozen s) y;
        cs = parts_at (frozen s) x;
        ds = parts_at (frozen s) y;
        vn = vx;
        vm = vy;
        meet = meets;
        differ = λ q l. no' (q, sym (parts_length (frozen s) x (B.held.cells x lx)) ∙ l ∙ parts_length (frozen s) y (B.held.cells y ly));
      }

      module _ (al : Alike (frozen s) x y) (s₂ : List ℕ) (r : ℕ) (len : length s₂ ≡ length (set s (links_at + x) (suc y))) (count : r ≡ k + count_at (frozen (set s (links_at + x) (suc y))) x)
          (still : frozen s₂ ≡ frozen (set s (links_at + x) (suc y))) (front : (i : ℕ) → i < pairs_at → get_or s₂ i 0 ≡ get_or (set s (links_at + x) (suc y)) i 0)
          (pairs : zip_n (parts_at (frozen (set s (links_at + x) (suc y))) x) (parts_at (frozen (set s (links_at + x) (suc y))) y) (pending (set s (links_at + x) (suc y)) k) ≡ some (pending s₂ r)) where
        zipped : zip_n (parts_at (frozen s) x) (parts_at (frozen s) y) (pending s k) ≡ some (pending s₂ r)
        zipped = ap₂ (λ w P. zip_n (parts_at w x) (parts_at w y) P) (sym (still₁ s x y B.held.size few_x few_y)) (sym (pending_low s k (links_at + x) (suc y) (let l = few_x in omega arith))) ∙ pairs

        spec : (f : ℕ → ℕ) → ZipSpec f (parts_at (frozen s) x) (parts_at (frozen s) y) (pending s k) (some (pending s₂ r))
        spec f = subst (ZipSpec f (parts_at (frozen s) x) (parts_at (frozen s) y) (pending s k)) zipped (zip_spec f _ _ _)

        links₂ : (i : ℕ) → i < max_cells → link_at s₂ i ≡ link_at (set s (links_at + x) (suc y)) i
        links₂ i l = link_same _ s₂ i i (front (links_at + i) (omega arith))

        vx' : Vw x ≡ shape (former_at (frozen s) y) (parts_at (frozen s) x)
        vx' = vx ∙ ap (λ h. shape h (parts_at (frozen s) x)) al.0

        pub weight₂ : (m : ℕ) → m ≤ max_cells → x < m → weight s₂ m + r + 1 ≡ weight s m + k
        weight₂ m l xm =
            let c = ap (λ w. count_at w x) (still₁ s x y B.held.size few_x few_y) in
            omega (arith, weight_same (set s (links_at + x) (suc y)) s₂ still m (λ i q. links₂ i (omega arith)), weight_link s x y B.held.size few_x few_y fx m xm)

        pub both_shape : Next s₂ n P₀ r
        both_shape = record {
          L = pair x y L;
          busy = busy s₂ n P₀ (pair x y L) r (frozen s) (pending s₂ r) (still ∙ still₁ s x y B.held.size few_x few_y) refl
              (held_same (set s (links_at + x) (suc y)) s₂ still n (pair x y L) len links₂ (held_link s x y B.held.size few_x few_y n L lx ly rx ry (λ q. ne (sym q)) B.held))
              (closed_shape ℕ eqb eqb-true eqb-false Vw P₀ L (pending s k) a b C x y rx ry (λ q. ne (sym q)) (former_at (frozen s) x) (former_at (frozen s) y)
              (parts_at (frozen s) x) (parts_at (frozen s) y) vx vy al.0 same_f (pending s₂ r) (λ f q. (spec f).0 q))
              (meets, B.follows)
              (zip_all (Follows Vw P₀) (parts_at (frozen s) x) (parts_at (frozen s) y) (pending s k) (pending s₂ r) zipped
              (all_in_lem (Follows Vw P₀) (parts (parts_at (frozen s) x) (parts_at (frozen s) y)) (λ c d i. matching x y (former_at (frozen s) y) (parts_at (frozen s) x) (parts_at (frozen s) y) vx' vy meets i)) D.1)
              (zip_all (Both n) (parts_at (frozen s) x) (parts_at (frozen s) y) (pending s k) (pending s₂ r) zipped
              (all_parts x n (parts_at (frozen s) x) (parts_at (frozen s) y) (λ c i. let o = (B.held.cells x lx).older c i in let l = lx in omega arith) (λ c i. let o = (B.held.cells y ly).older c i in let l = ly in omega arith)) E.1)
              B.asked
              (let f = B.fit in omega (arith, weight₂ n B.held.few lx));
        }
