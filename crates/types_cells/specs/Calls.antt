-- What each function asks and promises. The ghost values n, P₀, L are those of any reading of the area: a function asks that there is one, and
-- promises for each.
use Rattle.std.specs.Prelude.{◌≡◌, Bool, true, false, List, ℕ, suc, ◌+◌, ◌*◌, ◌≤◌, ◌<◌, eqb, length, set}
use Rattle.types_rules.specs.Classes.{rep}
use Rattle.types_rules.specs.Equations.{In, Pairs}
use Rattle.types_rules.specs.Former.{former_of}
use Rattle.types_cells.specs.Layout.{max_cells, max_pending, links_at, records_at, arguments_at, firsts_at, counts_at, first_run, frozen_size}
use Rattle.types_cells.specs.Store.{frozen, link_at, tag_at, arg_at, first_at, count_at, run, view_of, view, load, Held, Solved}

-- The words of a new cell n.
unfoldable pub put : List ℕ → ℕ → ℕ → ℕ → ℕ → ℕ → List ℕ
put s n t a f c = set (set (set (set (set s (links_at + n) 0) (records_at + 4 * n) t) (arguments_at + 4 * n) a) (firsts_at + 4 * n) f) (counts_at + 4 * n) c

-- A new cell may be made of these words.
pub record Making (s : List ℕ) (n t a f c : ℕ) : Type 0 where
  pub P₀ : Pairs ℕ
  pub L : Pairs ℕ
  pub solved : Solved s n P₀ L
  pub few : n < max_cells
  pub tags : t ≤ 6
  pub plain : t < 2 → a ≡ 0
  pub powers : t ≡ 3 → a ≡ 0
  pub products : t ≡ 4 → a ≡ c
  pub one : t ≡ 3 → c ≡ 1
  pub low : first_run ≤ f
  pub room : f + c ≤ frozen_size
  pub named_low : t ≡ 5 → first_run ≤ a
  pub named : t ≡ 5 → a + c ≤ frozen_size
  pub older : (k : ℕ) → In k (run (frozen s) f c) → k < n
  pub fit : load (frozen s) n + 1 + c < max_pending

-- Cell n is made; nothing else changed.
pub record Made (s s' : List ℕ) (n t a f c : ℕ) : Type 0 where
  pub words : s' ≡ put s n t a f c
  pub grown : (P₀ L : Pairs ℕ) → Solved s n P₀ L → Solved s' (suc n) P₀ L
  pub old : (i : ℕ) → i < n → view (frozen s') (suc n) i ≡ view (frozen s) n i
  pub new : view (frozen s') (suc n) n ≡ view_of t (former_of t a (run (frozen s) a c)) (run (frozen s) f c)

-- The runs of the cells end at or below the place `top`.
pub record Above (w : List ℕ) (n top : ℕ) : Type 0 where
  pub low : first_run ≤ top
  pub parts : (i : ℕ) → i < n → first_at w i + count_at w i ≤ top
  pub names : (i : ℕ) → i < n → tag_at w i ≡ 5 → arg_at w i + count_at w i ≤ top

pub record Adding (s : List ℕ) (n top : ℕ) : Type 0 where
  pub P₀ : Pairs ℕ
  pub L : Pairs ℕ
  pub solved : Solved s n P₀ L
  pub above : Above (frozen s) n top
  pub room : top < frozen_size

-- A word more in the runs, at `top`.
pub record Added (s s' : List ℕ) (n top x : ℕ) : Type 0 where
  pub words : s' ≡ set s (records_at + top) x
  pub grown : (P₀ L : Pairs ℕ) → Solved s n P₀ L → Solved s' n P₀ L
  pub old : (i : ℕ) → i < n → view (frozen s') n i ≡ view (frozen s) n i
  pub above : Above (frozen s') n (suc top)

-- The answer b tells whether A.
pub record Tells (b : Bool) (A : Type 0) : Type 0 where
  pub holds : b ≡ true → A
  pub fails : b ≡ false → A → ⊥

pub record Known (s : List ℕ) (i : ℕ) : Type 0 where
  pub n : ℕ
  pub L : Pairs ℕ
  pub held : Held s n L
  pub made : i < n

-- r is the representative of i.
pub record Root (s : List ℕ) (i r : ℕ) : Type 0 where
  pub is : (n : ℕ) (L : Pairs ℕ) → Held s n L → i < n → rep eqb L i ≡ r
  pub free : link_at s r ≡ 0

pub record Runs (w : List ℕ) (p q k : ℕ) : Type 0 where
  pub size : length w ≡ frozen_size
  pub left : p + k ≤ length w
  pub right : q + k ≤ length w
