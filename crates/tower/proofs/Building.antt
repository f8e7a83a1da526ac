-- A store that is built stays ready: after a word, a cell, a merge, the test.
use mathlib.Core.Path.{◌≡◌, refl, sym, ap, subst, ◌∙◌}
use mathlib.Core.Bool.{Bool, true}
use mathlib.Core.List.{List}
use mathlib.Core.Logic.{⊎_elim}
use Prim.Native.Nat.{ℕ, suc, ◌+◌, ◌*◌, ◌-◌, ◌≤◌, ◌<◌, ◌^◌}
use native.Mathlib.Omega.{arith}
use native.Mathlib.Nat.{eq-or-lt_of_le, suc-mul, zero-mul}
use lib.ListN.{length, get_or}
use Rattle.types_rules.specs.Equations.{end}
use Rattle.types_cells.specs.Layout.{first_run, frozen_size, area_size, max_cells}
use Rattle.types_cells.specs.Store.{frozen, load, run}
use Rattle.types_cells.specs.Calls.{Above, Adding, Added, Making, Made}
use Rattle.types_unifier.specs.Merging.{Asking, Merged}
use Rattle.types_solver.specs.Sizes.{mark_at, Sized, TestedFinite, Measuring}
use Rattle.types_solver.proofs.Accepted.{start, same_pinned}
use Rattle.types_cells.proofs.Words.{run_at, run_length, frozen_length, in_get_d}
use Rattle.types_cells.proofs.Growing.{made_load, made_above}
use Rattle.types_solver.proofs.Extending.{added_builds, added_load, added_other, added_here, made_grows}
use Rattle.tower.specs.Ready.{TowerReady, Row, Rowing, Rowed, TowerRoom, Built, Forming, Applying, Applied}

-- An area with no cells.
pub ready_start : (s d : List ℕ) → length s ≡ area_size → TowerReady s d 0 first_run 0
unfolding load
ready_start s d e = record {
  P₀ = end;
  L = end;
  solved = start s e;
  pinned = record { reads = λ i l. absurd (omega arith); bare = λ i l. absurd (omega arith) };
  above = record { low = omega arith; parts = λ i l. absurd (omega arith); names = λ i l. absurd (omega arith) };
  low = omega arith;
  fit = omega arith;
  parts = λ i l. absurd (omega arith);
}

pub adding : (s d : List ℕ) (n top k : ℕ) → TowerReady s d n top k → top < frozen_size → Adding s n top
adding s d n top k R l = record { P₀ = R.P₀; L = R.L; solved = R.solved; above = R.above; room = l }

-- One part more.
pub ready_add : (s s' d : List ℕ) (n top k x : ℕ) → TowerReady s d n top k → top < frozen_size → x < n → Added s s' n top x → TowerReady s' d n (suc top) (suc k)
ready_add s s' d n top k x R l m N =
    let A = adding s d n top k R l in
    let low = R.low in
    record {
      P₀ = R.P₀;
      L = R.L;
      solved = N.grown R.P₀ R.L R.solved;
      pinned = (added_builds s s' d n top x A N).grows.pinned R.pinned;
      above = N.above;
      low = omega arith;
      fit = let e = added_load s s' d n top x A N in let f = R.fit in omega arith;
      parts = λ i q. ⊎_elim
          (λ e. let a : suc top - suc k + i ≡ top = omega arith in subst (λ z. z < n) (sym (ap (λ y. get_or (frozen s') y 0) a ∙ added_here s s' d n top x A N)) m)
          (λ y. let a : suc top - suc k + i ≡ top - k + i = omega arith in
          subst (λ z. z < n) (sym (ap (λ y. get_or (frozen s') y 0) a ∙ added_other s s' d n top x A N (top - k + i) (λ e. omega arith))) (R.parts i y))
          (eq-or-lt_of_le (let z : i ≤ k = omega arith in z));
    }

-- The parts are those of a new cell.
pub making : (s d : List ℕ) (n top t a m : ℕ) → TowerReady s d n (top + m) m → n < max_cells → n + top + m + 1 < frozen_size → t ≤ 4 → (t < 2 → a ≡ 0) → (t ≡ 3 → a ≡ 0) → (t ≡ 3 → m ≡ 1) → (t ≡ 4 → a ≡ m) → Making s n t a top m
making s d n top t a m R l r h p q o u =
    let low = R.low in
    record {
      P₀ = R.P₀;
      L = R.L;
      solved = R.solved;
      few = l;
      tags = omega arith;
      plain = p;
      powers = q;
      one = o;
      products = u;
      low = omega arith;
      room = omega arith;
      named_low = λ e. absurd (omega arith);
      named = λ e. absurd (omega arith);
      older = λ c i.
          let g = in_get_d c (run (frozen s) top m) i in
          let z = run_length (frozen s) top m (let y = frozen_length s R.solved.held.size in omega arith) in
          let b = g.1 in
          let gm : g.0 < m = omega arith in
          let e : top + m - m + g.0 ≡ top + g.0 = omega arith in
          subst (λ y. y < n) (ap (λ y. get_or (frozen s) y 0) e ∙ sym (run_at (frozen s) top m g.0 gm) ∙ g.2) (R.parts g.0 gm);
      fit = let f = R.fit in omega arith;
    }

pub ready_make : (s s' d : List ℕ) (n top t a m : ℕ) → TowerReady s d n (top + m) m → t ≤ 4 → Making s n t a top m → Made s s' n t a top m → TowerReady s' d (n + 1) (top + m) 0
ready_make s s' d n top t a m R h M N =
    let sn : suc n ≡ n + 1 = omega arith in
    let low = R.low in
    subst (λ z. TowerReady s' d z (top + m) 0) sn
    (record {
      P₀ = R.P₀;
      L = R.L;
      solved = N.grown R.P₀ R.L R.solved;
      pinned = (made_grows s s' d n t a top m M N).pinned R.pinned;
      above = made_above s s' n t a top m M N (top + m) R.above (omega arith) (λ e. absurd (omega arith));
      low = omega arith;
      fit = let e = made_load s s' n t a top m M N in let f = R.fit in omega arith;
      parts = λ i l. absurd (omega arith);
    })

-- A merge.
pub ready_merge : (s s' d : List ℕ) (n top x y : ℕ) → TowerReady s d n top 0 → x < n → y < n → Merged s s' d x y true → TowerReady s' d n top 0
ready_merge s s' d n top x y R lx ly M =
    let D = M.goes refl n R.P₀ R.L R.solved R.pinned lx ly in
    record {
      P₀ = _;
      L = D.L;
      solved = D.solved;
      pinned = (M.same refl n R.P₀ R.L R.solved R.pinned lx ly).pinned;
      above = subst (λ w. Above w n top) (sym M.still) R.above;
      low = R.low;
      fit = subst (λ w. load w n + 0 + first_run ≤ n + top) (sym M.still) R.fit;
      parts = λ i l. absurd (omega arith);
    }

pub asking : (s d : List ℕ) (n top x y : ℕ) → TowerReady s d n top 0 → x < n → y < n → length d < 2 ^ 31 → Asking s d x y
asking s d n top x y R lx ly f = record { n = n; P₀ = R.P₀; L = R.L; solved = R.solved; pinned = R.pinned; few = f; left = lx; right = ly }

-- The test: the size of a cell may be asked for.
pub measuring : (s s' d : List ℕ) (n top x : ℕ) → TowerReady s d n top 0 → x < n → length d < 2 ^ 31 → TestedFinite s s' n true → Measuring s' d x
measuring s s' d n top x R l f T = record {
  n = n;
  L = R.L;
  marked = record {
    held = (T.grown R.P₀ R.L R.solved).held;
    sizes = λ i m. subst (λ w. Sized w n R.L i (mark_at s' i)) (sym T.still) (T.sizes refl R.P₀ R.L R.solved i m);
  };
  pinned = same_pinned s s' d n T.same R.solved.held.few R.pinned;
  made = l;
  few = f;
}

ready_as : (s d : List ℕ) (n n' top top' k k' : ℕ) → n ≡ n' → top ≡ top' → k ≡ k' → TowerReady s d n top k → TowerReady s d n' top' k'
ready_as s d n n' top top' k k' a b c R = subst (λ z. TowerReady s d z top' k') a (subst (λ z. TowerReady s d n z k') b (subst (λ z. TowerReady s d n top z) c R))

-- j of the m parts of a row: x is the next.
pub record RowTo (s t : List ℕ) (n top first step x j : ℕ) : Type 0 where
  pub at : x ≡ first + j * step
  pub ready : (d : List ℕ) (k : ℕ) → TowerReady s d n top k → TowerReady t d n (top + j) (k + j)

pub row_start : (s : List ℕ) (n top first step : ℕ) → RowTo s s n top first step first 0
row_start s n top first step = record {
  at = let z = zero-mul step in omega arith;
  ready = λ d k R. ready_as s d n n top (top + 0) k (k + 0) refl (omega arith) (omega arith) R;
}

module _ (s t : List ℕ) (n top first step m x j : ℕ) (W : Rowing s n top first step m) (T : RowTo s t n top first step x j) (l : j < m) where
  pub row_cell : x < n
  row_cell = let r = W.row j l in let e = T.at in omega arith

  pub row_adding : Adding t n (top + j)
  row_adding = let r = W.room in adding t W.d n (top + j) (W.k + j) (T.ready W.d W.k W.ready) (omega arith)

  pub row_step : (u : List ℕ) → Added t u n (top + j) x → RowTo s u n top first step (x + step) (j + 1)
  row_step u N = record {
    at = let e = T.at in let a : j + 1 ≡ suc j = omega arith in let z = ap (λ y. y * step) a ∙ suc-mul j step in omega arith;
    ready = λ d k R.
        let r = W.room in
        ready_as u d n n (suc (top + j)) (top + (j + 1)) (suc (k + j)) (k + (j + 1)) refl (omega arith) (omega arith)
        (ready_add t u d n (top + j) (k + j) x (T.ready d k R) (omega arith) row_cell N);
  }

pub row_end : (s t : List ℕ) (n top first step m x j : ℕ) → RowTo s t n top first step x j → j ≡ m → Rowed s t n top m
row_end s t n top first step m x j T e d k R = ready_as t d n n (top + j) (top + m) (k + j) (k + m) refl (omega arith) (omega arith) (T.ready d k R)

pub tested_as : (s t : List ℕ) (n : ℕ) (a b : Bool) → a ≡ b → TestedFinite s t n a → TestedFinite s t n b
tested_as s t n a b e T = subst (λ z. TestedFinite s t n z) e T

pub merged_as : (s t d : List ℕ) (x y : ℕ) (a b : Bool) → a ≡ b → Merged s t d x y a → Merged s t d x y b
merged_as s t d x y a b e M = subst (λ z. Merged s t d x y z) e M

-- A cell over a row.
module _ (s : List ℕ) (n top t a first step m : ℕ) (F : Forming s n top t a first step m) where
  rowed_as : (u d : List ℕ) → Rowed s u n top m → TowerReady s d n top 0 → TowerReady u d n (top + m) m
  rowed_as u d W R = ready_as u d n n (top + m) (top + m) (0 + m) m refl refl (omega arith) (W d 0 R)

  pub forming_cell : (u : List ℕ) → Rowed s u n top m → Making u n t a top m
  forming_cell u W =
      let w = F.room.words in
      let c = F.room.cells in
      making u F.room.d n top t a m (rowed_as u F.room.d W F.room.ready) (omega arith) (omega arith) F.tags F.plain F.powers F.one F.products

  pub formed : (u v : List ℕ) → Rowed s u n top m → Made u v n t a top m → Built s v n top 1 m
  formed u v W N d R = ready_make u v d n top t a m (rowed_as u d W R) F.tags (forming_cell u W) N

-- Room for the rest of what is built, and what was built in all.
pub room_after : (s t : List ℕ) (n top c m c₀ m₀ n' top' c₁ m₁ : ℕ) → TowerRoom s n top c m → Built s t n top c₀ m₀ → n' ≡ n + c₀ → top' ≡ top + m₀ → c₀ + c₁ ≤ c → m₀ + m₁ ≤ m → TowerRoom t n' top' c₁ m₁
room_after s t n top c m c₀ m₀ n' top' c₁ m₁ W B en et p q = record {
  d = W.d;
  ready = ready_as t W.d (n + c₀) n' (top + m₀) top' 0 0 (sym en) (sym et) refl (B W.d W.ready);
  cells = let z = W.cells in omega arith;
  words = let z = W.words in omega arith;
}

pub built_on : (s t u : List ℕ) (n top c₀ m₀ n' top' c₁ m₁ c₂ m₂ : ℕ) → Built s t n top c₀ m₀ → n' ≡ n + c₀ → top' ≡ top + m₀ → Built t u n' top' c₁ m₁ → c₂ ≡ c₀ + c₁ → m₂ ≡ m₀ + m₁ → Built s u n top c₂ m₂
built_on s t u n top c₀ m₀ n' top' c₁ m₁ c₂ m₂ B en et D ec em d R =
    ready_as u d (n' + c₁) (n + c₂) (top' + m₁) (top + m₂) 0 0 (omega arith) (omega arith) refl (D d (ready_as t d (n + c₀) n' (top + m₀) top' 0 0 (sym en) (sym et) refl (B d R)))

-- The formers of the tower.
pub form_plain : (s : List ℕ) (n top t : ℕ) → TowerRoom s n top 1 0 → t < 2 → Forming s n top t 0 0 0 0
form_plain s n top t W l = record {
  room = W;
  row = λ j q. absurd (omega arith);
  short = omega arith;
  tags = omega arith;
  plain = λ q. refl;
  powers = λ q. refl;
  one = λ q. absurd (omega arith);
  products = λ q. refl;
}

pub form_product : (s : List ℕ) (n top first step m : ℕ) → TowerRoom s n top 1 m → Row n first step m → step < max_cells → Forming s n top 4 m first step m
form_product s n top first step m W R l = record {
  room = W;
  row = R;
  short = l;
  tags = omega arith;
  plain = λ q. absurd (omega arith);
  powers = λ q. absurd (omega arith);
  one = λ q. absurd (omega arith);
  products = λ q. refl;
}

pub form_power : (s : List ℕ) (n top x : ℕ) → TowerRoom s n top 1 1 → x < n → Forming s n top 3 0 x 0 1
form_power s n top x W l = record {
  room = W;
  row = λ j q. omega arith;
  short = omega arith;
  tags = omega arith;
  plain = λ q. absurd (omega arith);
  powers = λ q. refl;
  one = λ q. refl;
  products = λ q. absurd (omega arith);
}

-- A level: f's type, the type for its argument, and the merge.
module _ (s d : List ℕ) (n top x : ℕ) (A : Applying s d n top x) where
  pub level_room : TowerRoom s n top 11 34
  level_room = record { d = d; ready = A.ready; cells = A.cells; words = let z = A.words in omega arith }

  module _ (t u : List ℕ) (B : Built s t n top 8 31) (D : Built t u (n + 8) (top + 31) 3 3) where
    level_built : Built s u n top 11 34
    level_built = built_on s t u n top 8 31 (n + 8) (top + 31) 3 3 11 34 B refl refl D (omega arith) (omega arith)

    pub level_asking : Asking u d (n + 7) (n + 10)
    level_asking = asking u d (n + 11) (top + 34) (n + 7) (n + 10) (level_built d A.ready) (omega arith) (omega arith) A.few

    pub level_applied : (v : List ℕ) (b : Bool) → Merged u v d (n + 7) (n + 10) b → Applied s v d n top b
    level_applied v b M e R = ready_merge u v d (n + 11) (top + 34) (n + 7) (n + 10) (level_built d R) (omega arith) (omega arith) (merged_as u v d (n + 7) (n + 10) b true e M)

-- The levels: i of them are built, and x is the type so far.
pub record Levels (s d : List ℕ) (n top x i : ℕ) : Type 0 where
  pub ready : TowerReady s d n top 0
  pub cells : n ≡ 1 + 11 * i
  pub words : top ≡ first_run + 34 * i
  pub made : x < n

pub levels_start : (s t d : List ℕ) → length s ≡ area_size → Built s t 0 first_run 1 0 → Levels t d 1 first_run 0 0
levels_start s t d e B = record {
  ready = ready_as t d (0 + 1) 1 (first_run + 0) first_run 0 0 (omega arith) (omega arith) refl (B d (ready_start s d e));
  cells = omega arith;
  words = omega arith;
  made = omega arith;
}
