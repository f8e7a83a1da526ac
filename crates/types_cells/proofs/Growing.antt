-- New cells, and new words in the runs.
use mathlib.Core.Path.{◌≡◌, refl, sym, ap, ap₂, subst, ◌∙◌}
use mathlib.Core.Bool.{Bool, true, false}
use mathlib.Core.List.{List}
use mathlib.Core.Logic.{◌⊎◌, inl, inr, ⊎_elim}
use mathlib.Core.Option.{Option, some, none}
use Prim.Native.Nat.{ℕ, zero, suc, ◌+◌, ◌*◌, ◌≤◌, ◌<◌}
use native.Mathlib.Omega.{arith}
use native.Mathlib.Nat.{eq-or-lt_of_le}
use lib.Dec.{eqb, ltb}
use lib.ListN.{length, get_or, set, length-set}
use lib.Seq.{get_or-drop, get_or-set_same, get_or-set_other, ext_get_or}
use borrow.Author.Tests.{eqb-true, eqb-false, lt-ltb, ltb-true, ltb-false}
use Rattle.types_rules.proofs.Steps.{closed_grow}
use Rattle.types_rules.specs.Classes.{next}
use Rattle.types_rules.specs.Equations.{AllP, In, Pairs, end, pair}
use Rattle.types_rules.specs.Follows.{Follows, View, matching, reflexive, shape, stated, symmetric, transitive, unk}
use Rattle.types_rules.specs.Former.{Former}
use Rattle.types_rules.specs.Former.{former_of}
use Rattle.types_cells.specs.Layout.{max_cells, max_pending, pool_size, links_at, records_at, arguments_at, firsts_at, counts_at, first_run, frozen_size, area_size}
use Rattle.types_cells.specs.Store.{frozen, link_at, field_at, tag_at, arg_at, first_at, count_at, run, parts_at, former_at, view_of, view, Cell, load, link_of, Both, Solved}
use Rattle.types_cells.specs.Calls.{put, Making, Made, Above, Adding, Added}
use Rattle.types_cells.proofs.Words.{frozen_length, run_at, run_length, link_new, link_same}
use Rattle.types_cells.proofs.Heads.{arg_yes, view_at}

pub lt_or_ge : (i n : ℕ) → (i < n) ⊎ (n ≤ i)
lt_or_ge i n = go (ltb i n) refl
  where
    go : (b : Bool) → ltb i n ≡ b → (i < n) ⊎ (n ≤ i)
    go true e = inl (ltb-true i n e)
    go false e = inr (ltb-false i n e)

pub run_frame : (w w' : List ℕ) (at k : ℕ) → at + k ≤ length w → at + k ≤ length w' → ((p : ℕ) → at ≤ p → p < at + k → get_or w' p 0 ≡ get_or w p 0) → run w' at k ≡ run w at k
run_frame w w' at k l l' h =
    let e = run_length w at k l in
    let e' = run_length w' at k l' in
    ext_get_or 0 (run w' at k) (run w at k) (e' ∙ sym e)
    (λ i m. let q : i < k = omega arith in run_at w' at k i q ∙ h (at + i) (omega arith) (omega arith) ∙ sym (run_at w at k i q))

-- w' has the cell i of w.
pub record Agree (w w' : List ℕ) (i : ℕ) : Type 0 where
  pub size : length w' ≡ length w
  pub fields : (j : ℕ) → j < 4 → field_at w' i j ≡ field_at w i j
  pub parts : (p : ℕ) → first_at w i ≤ p → p < first_at w i + count_at w i → get_or w' p 0 ≡ get_or w p 0
  pub names : tag_at w i ≡ 5 → (p : ℕ) → arg_at w i ≤ p → p < arg_at w i + count_at w i → get_or w' p 0 ≡ get_or w p 0

module _ (w w' : List ℕ) (i : ℕ) (C : Cell w i) (A : Agree w w' i) where
  t : tag_at w' i ≡ tag_at w i
  t = A.fields 0 (omega arith)

  a : arg_at w' i ≡ arg_at w i
  a = A.fields 1 (omega arith)

  f : first_at w' i ≡ first_at w i
  f = A.fields 2 (omega arith)

  c : count_at w' i ≡ count_at w i
  c = A.fields 3 (omega arith)

  pub parts_agree : parts_at w' i ≡ parts_at w i
  parts_agree = ap₂ (λ x y. run w' x y) f c ∙ run_frame w w' (first_at w i) (count_at w i) C.room (let r = C.room in let s = A.size in omega arith) A.parts

  head_c : (b : Bool) → eqb (tag_at w i) 5 ≡ b → former_of (tag_at w i) (arg_at w i) (run w' (arg_at w i) (count_at w i)) ≡ former_of (tag_at w i) (arg_at w i) (run w (arg_at w i) (count_at w i))
  head_c true e =
      let q = eqb-true (tag_at w i) 5 e in
      ap (former_of (tag_at w i) (arg_at w i)) (run_frame w w' (arg_at w i) (count_at w i) (C.named q) (let r = C.named q in let s = A.size in omega arith) (A.names q))
  head_c false e = arg_yes (tag_at w i) (arg_at w i) (arg_at w i) _ _ (eqb-false (tag_at w i) 5 e) refl

  pub head_agree : former_at w' i ≡ former_at w i
  unfolding former_at
  head_agree = (λ z. former_of (t z) (a z) (run w' (a z) (c z))) ∙ head_c (eqb (tag_at w i) 5) refl

  pub cell_agree : Cell w' i
  cell_agree = record {
    tags = let q = C.tags in let e = t in omega arith;
    plain = λ l. a ∙ C.plain (let e = t in omega arith);
    powers = λ l. a ∙ C.powers (sym t ∙ l);
    products = λ l. a ∙ C.products (sym t ∙ l) ∙ sym c;
    one = λ l. c ∙ C.one (sym t ∙ l);
    low = let q = C.low in let e = f in omega arith;
    room = let q = C.room in let e = f in let k = c in let s = A.size in omega arith;
    named_low = λ l. let q = C.named_low (sym t ∙ l) in let e = a in omega arith;
    named = λ l. let q = C.named (sym t ∙ l) in let e = a in let k = c in let s = A.size in omega arith;
    older = λ k j. C.older k (subst (In k) parts_agree j);
  }

  pub view_agree : (n n' : ℕ) → i < n → n ≤ n' → view w' n' i ≡ view w n i
  view_agree n n' l m = view_at w' n' i (omega arith) ∙ (λ z. view_of (t z) (head_agree z) (parts_agree z)) ∙ sym (view_at w n i l)

view_made_c : (w : List ℕ) (n i : ℕ) (h : Former) (cs : List ℕ) (v : View ℕ) (b : Bool) → (elim b as (λ z. View ℕ) [ true ↦ v | false ↦ unk ]) ≡ shape h cs → b ≡ true
view_made_c w n i h cs v true e = refl
view_made_c w n i h cs v false e = let z : ◌≡◌ {A = ℕ} 0 1 = cc in absurd (omega arith)

pub view_made : (w : List ℕ) (n i : ℕ) (h : Former) (cs : List ℕ) → view w n i ≡ shape h cs → i < n
unfolding view
view_made w n i h cs e = ltb-true i n (view_made_c w n i h cs _ (ltb i n) e)

module _ (v v' : ℕ → View ℕ) (keep : (i : ℕ) (h : Former) (cs : List ℕ) → v i ≡ shape h cs → v' i ≡ shape h cs) (P₀ : Pairs ℕ) where
  follows_grow : (a b : ℕ) → Follows v P₀ a b → Follows v' P₀ a b
  follows_grow a b (stated i) = stated i
  follows_grow a b reflexive = reflexive
  follows_grow a b (symmetric g) = symmetric (follows_grow b a g)
  follows_grow a b (transitive {b = c} g h) = transitive (follows_grow a c g) (follows_grow c b h)
  follows_grow a b (matching n m h cs ds vn vm g i) = matching n m h cs ds (keep n h cs vn) (keep m h ds vm) (follows_grow n m g) i

  all_grow : (L : Pairs ℕ) → AllP (Follows v P₀) L → AllP (Follows v' P₀) L
  all_grow end h = tt
  all_grow (pair a b L) h = (follows_grow a b h.0, all_grow L h.1)

all_wide : (n n' : ℕ) → n ≤ n' → (L : Pairs ℕ) → AllP (Both n) L → AllP (Both n') L
all_wide n n' l end h = tt
all_wide n n' l (pair a b L) h = let p = h.0.0 in let q = h.0.1 in ((omega arith, omega arith), all_wide n n' l L h.1)

all_old : (n : ℕ) (L : Pairs ℕ) → AllP (Both n) L → AllP (λ a b. (ltb a n ≡ true) × (ltb b n ≡ true)) L
all_old n end h = tt
all_old n (pair a b L) h = ((lt-ltb a n h.0.0, lt-ltb b n h.0.1), all_old n L h.1)

next_c : (a b i n : ℕ) (L : Pairs ℕ) → a < n → n ≤ i → next eqb L i ≡ none → (c : Bool) → eqb i a ≡ c → ◌≡◌ {A = Option ℕ} (elim c as (λ z. Option ℕ) [ true ↦ some b | false ↦ next eqb L i ]) none
next_c a b i n L l m e true q = absurd (omega (arith, eqb-true i a q))
next_c a b i n L l m e false q = e

pub next_new : (n : ℕ) (L : Pairs ℕ) → AllP (Both n) L → (i : ℕ) → n ≤ i → next eqb L i ≡ none
unfolding next
next_new n end h i l = refl
next_new n (pair a b L) h i l = next_c a b i n L h.0.0 l (next_new n L h.1 i l) (eqb i a) refl

-- The invariant over a store that has the old cells, and more.
module _ (s s' : List ℕ) (n n' : ℕ) (size : length s' ≡ length s) (wide : n ≤ n') (few : n' ≤ max_cells) (room : load (frozen s') n' < max_pending)
    (cells : (i : ℕ) → i < n' → Cell (frozen s') i) (same : (i : ℕ) → i < n → link_at s' i ≡ link_at s i) (fresh : (i : ℕ) → n ≤ i → i < n' → link_at s' i ≡ 0)
    (old : (i : ℕ) → i < n → view (frozen s') n' i ≡ view (frozen s) n i) where
  pub solved_grow : (P₀ L : Pairs ℕ) → Solved s n P₀ L → Solved s' n' P₀ L
  unfolding link_of
  solved_grow P₀ L S = record {
    held = record {
      size = size ∙ S.held.size;
      few = few;
      room = room;
      cells = cells;
      links = λ i l. ⊎_elim
          (λ m. S.held.links i m ∙ ap link_of (sym (same i m)))
          (λ m. next_new n L S.held.inside i m ∙ ap link_of (sym (fresh i m l)))
          (lt_or_ge i n);
      wf = S.held.wf;
      inside = all_wide n n' wide L S.held.inside;
    };
    closed = closed_grow ℕ eqb eqb-true eqb-false (λ i. ltb i n) (view (frozen s) n) (view (frozen s') n') (λ i e. sym (old i (ltb-true i n e))) P₀ L end
        (all_old n L S.held.inside) S.closed;
    follows = all_grow (view (frozen s) n) (view (frozen s') n') (λ i h cs e. old i (view_made (frozen s) n i h cs e) ∙ e) P₀ L S.follows;
    asked = all_wide n n' wide P₀ S.asked;
  }

pub load_same : (w w' : List ℕ) (n : ℕ) → ((i : ℕ) → i < n → count_at w' i ≡ count_at w i) → load w' n ≡ load w n
unfolding load
load_same w w' zero h = refl
load_same w w' (suc n) h = let e = h n (omega arith) in let r = load_same w w' n (λ i l. h i (omega arith)) in omega arith

pub frozen_at : (s : List ℕ) (k : ℕ) → get_or (frozen s) k 0 ≡ get_or s (records_at + k) 0
unfolding frozen
frozen_at s k = get_or-drop records_at s k 0

-- The words of a new cell.
module _ (s : List ℕ) (n t a f c : ℕ) (size : length s ≡ area_size) (l : n < max_cells) where
  abbrev s1 : List ℕ
  s1 = set s (links_at + n) 0

  abbrev s2 : List ℕ
  s2 = set s1 (records_at + 4 * n) t

  abbrev s3 : List ℕ
  s3 = set s2 (arguments_at + 4 * n) a

  abbrev s4 : List ℕ
  s4 = set s3 (firsts_at + 4 * n) f

  pub put_other : (p : ℕ) → (p ≡ pool_size + n → ⊥) → (p ≡ records_at + 4 * n → ⊥) → (p ≡ arguments_at + 4 * n → ⊥) → (p ≡ firsts_at + 4 * n → ⊥) → (p ≡ counts_at + 4 * n → ⊥) → get_or (put s n t a f c) p 0 ≡ get_or s p 0
  unfolding put
  put_other p d₀ d₁ d₂ d₃ d₄ =
      get_or-set_other s4 (counts_at + 4 * n) p c 0 d₄ ∙ get_or-set_other s3 (firsts_at + 4 * n) p f 0 d₃ ∙ get_or-set_other s2 (arguments_at + 4 * n) p a 0 d₂
      ∙ get_or-set_other s1 (records_at + 4 * n) p t 0 d₁ ∙ get_or-set_other s (links_at + n) p 0 0 d₀

  pub put_length : length (put s n t a f c) ≡ length s
  unfolding put
  put_length = simp length-set

  pub put_0 : get_or (put s n t a f c) (links_at + n) 0 ≡ 0
  unfolding put
  put_0 =
      get_or-set_other s4 (counts_at + 4 * n) (links_at + n) c 0 (λ e. omega arith) ∙ get_or-set_other s3 (firsts_at + 4 * n) (links_at + n) f 0 (λ e. omega arith)
      ∙ get_or-set_other s2 (arguments_at + 4 * n) (links_at + n) a 0 (λ e. omega arith) ∙ get_or-set_other s1 (records_at + 4 * n) (links_at + n) t 0 (λ e. omega arith) ∙ get_or-set_same s (links_at + n) 0 0 (omega arith)

  put_t : get_or (put s n t a f c) (records_at + 4 * n) 0 ≡ t
  unfolding put
  put_t =
      get_or-set_other s4 (counts_at + 4 * n) (records_at + 4 * n) c 0 (λ e. omega arith) ∙ get_or-set_other s3 (firsts_at + 4 * n) (records_at + 4 * n) f 0 (λ e. omega arith)
      ∙ get_or-set_other s2 (arguments_at + 4 * n) (records_at + 4 * n) a 0 (λ e. omega arith) ∙ get_or-set_same s1 (records_at + 4 * n) t 0 (simp length-set (omega arith))

  put_a : get_or (put s n t a f c) (arguments_at + 4 * n) 0 ≡ a
  unfolding put
  put_a =
      get_or-set_other s4 (counts_at + 4 * n) (arguments_at + 4 * n) c 0 (λ e. omega arith) ∙ get_or-set_other s3 (firsts_at + 4 * n) (arguments_at + 4 * n) f 0 (λ e. omega arith)
      ∙ get_or-set_same s2 (arguments_at + 4 * n) a 0 (simp length-set (omega arith))

  put_f : get_or (put s n t a f c) (firsts_at + 4 * n) 0 ≡ f
  unfolding put
  put_f = get_or-set_other s4 (counts_at + 4 * n) (firsts_at + 4 * n) c 0 (λ e. omega arith) ∙ get_or-set_same s3 (firsts_at + 4 * n) f 0 (simp length-set (omega arith))

  put_c : get_or (put s n t a f c) (counts_at + 4 * n) 0 ≡ c
  unfolding put
  put_c = get_or-set_same s4 (counts_at + 4 * n) c 0 (simp length-set (omega arith))

  abbrev w : List ℕ
  w = frozen s

  abbrev w' : List ℕ
  w' = frozen (put s n t a f c)

  here : (j q v : ℕ) → records_at + (4 * n + j) ≡ q → get_or (put s n t a f c) q 0 ≡ v → field_at w' n j ≡ v
  unfolding field_at
  here j q v e h = frozen_at (put s n t a f c) (4 * n + j) ∙ ap (λ z. get_or (put s n t a f c) z 0) e ∙ h

  pub t_at : tag_at w' n ≡ t
  t_at = here 0 (records_at + 4 * n) t (omega arith) put_t

  a_at : arg_at w' n ≡ a
  a_at = here 1 (arguments_at + 4 * n) a (omega arith) put_a

  f_at : first_at w' n ≡ f
  f_at = here 2 (firsts_at + 4 * n) f (omega arith) put_f

  c_at : count_at w' n ≡ c
  c_at = here 3 (counts_at + 4 * n) c (omega arith) put_c

  pub there : (i j : ℕ) → i < n → j < 4 → field_at w' i j ≡ field_at w i j
  unfolding field_at
  there i j m q =
      frozen_at (put s n t a f c) (4 * i + j)
      ∙ put_other (records_at + (4 * i + j)) (λ e. omega arith) (λ e. omega arith) (λ e. omega arith) (λ e. omega arith) (λ e. omega arith)
      ∙ sym (frozen_at s (4 * i + j))

  pub runs : (p : ℕ) → first_run ≤ p → get_or w' p 0 ≡ get_or w p 0
  runs p m =
      frozen_at (put s n t a f c) p
      ∙ put_other (records_at + p) (λ e. omega arith) (λ e. omega arith) (λ e. omega arith) (λ e. omega arith) (λ e. omega arith)
      ∙ sym (frozen_at s p)

  sizes : length w' ≡ frozen_size
  sizes = frozen_length (put s n t a f c) (put_length ∙ size)

  agree : (i : ℕ) → i < n → Cell w i → Agree w w' i
  agree i m C = record {
    size = sizes ∙ sym (frozen_length s size);
    fields = λ j q. there i j m q;
    parts = λ p q r. runs p (let z = C.low in omega arith);
    names = λ e p q r. runs p (let z = C.named_low e in omega arith);
  }

  run_new : (at k : ℕ) → first_run ≤ at → at + k ≤ frozen_size → run w' at k ≡ run w at k
  run_new at k m q = run_frame w w' at k (let z = frozen_length s size in omega arith) (let z = sizes in omega arith) (λ p r x. runs p (omega arith))

  module _ (M : Making s n t a f c) where
    parts_new : parts_at w' n ≡ run w f c
    parts_new = ap₂ (λ x y. run w' x y) f_at c_at ∙ run_new f c M.low M.room

    head_c' : (b : Bool) → eqb t 5 ≡ b → former_of t a (run w' a c) ≡ former_of t a (run w a c)
    head_c' true e = let q = eqb-true t 5 e in ap (former_of t a) (run_new a c (M.named_low q) (M.named q))
    head_c' false e = arg_yes t a a _ _ (eqb-false t 5 e) refl

    head_new : former_at w' n ≡ former_of t a (run w a c)
    unfolding former_at
    head_new = (λ z. former_of (t_at z) (a_at z) (run w' (a_at z) (c_at z))) ∙ head_c' (eqb t 5) refl

    cell_new : Cell w' n
    cell_new = record {
      tags = let e = t_at in let q = M.tags in omega arith;
      plain = λ m. a_at ∙ M.plain (let e = t_at in omega arith);
      powers = λ m. a_at ∙ M.powers (sym t_at ∙ m);
      products = λ m. a_at ∙ M.products (sym t_at ∙ m) ∙ sym c_at;
      one = λ m. c_at ∙ M.one (sym t_at ∙ m);
      low = let e = f_at in let q = M.low in omega arith;
      room = let e = f_at in let k = c_at in let z = sizes in let q = M.room in omega arith;
      named_low = λ m. let e = a_at in let q = M.named_low (sym t_at ∙ m) in omega arith;
      named = λ m. let e = a_at in let k = c_at in let z = sizes in let q = M.named (sym t_at ∙ m) in omega arith;
      older = λ k i. M.older k (subst (In k) parts_new i);
    }

    cells_old : (i : ℕ) → i < n → Cell w i
    cells_old i m = M.solved.held.cells i m

    cells_new : (i : ℕ) → i < suc n → Cell w' i
    cells_new i m = ⊎_elim (λ e. subst (Cell w') (sym e) cell_new) (λ q. cell_agree w w' i (cells_old i q) (agree i q (cells_old i q))) (eq-or-lt_of_le (omega arith))

    old_view : (i : ℕ) → i < n → view w' (suc n) i ≡ view w n i
    old_view i m = view_agree w w' i (cells_old i m) (agree i m (cells_old i m)) n (suc n) m (omega arith)

    load_new : load w' (suc n) < max_pending
    unfolding load
    load_new = let e = load_same w w' n (λ i m. there i 3 m (omega arith)) in let k = c_at in let q = M.fit in omega arith

    pub made : Made s (put s n t a f c) n t a f c
    made = record {
      words = refl;
      grown = solved_grow s (put s n t a f c) n (suc n) put_length (omega arith) (omega arith) load_new cells_new same_links new_link old_view;
      old = old_view;
      new = view_at w' (suc n) n (omega arith) ∙ (λ z. view_of (t_at z) (head_new z) (parts_new z));
    }
      where
        same_links : (i : ℕ) → i < n → link_at (put s n t a f c) i ≡ link_at s i
        same_links i m = link_same s _ i i (put_other (links_at + i) (λ e. omega arith) (λ e. omega arith) (λ e. omega arith) (λ e. omega arith) (λ e. omega arith))

        new_link : (i : ℕ) → n ≤ i → i < suc n → link_at (put s n t a f c) i ≡ 0
        new_link i m q = let e : i ≡ n = omega arith in rw e (link_new _ n 0 (omega arith) put_0)

-- A word more in the runs.
module _ (s : List ℕ) (n top x : ℕ) (A : Adding s n top) where
  size' : length s ≡ area_size
  size' = A.solved.held.size

  abbrev v : List ℕ
  v = frozen s

  abbrev v' : List ℕ
  v' = frozen (set s (records_at + top) x)

  pub word_other : (p : ℕ) → (p ≡ top → ⊥) → get_or v' p 0 ≡ get_or v p 0
  word_other p d = frozen_at _ p ∙ get_or-set_other s (records_at + top) (records_at + p) x 0 (λ e. d (omega arith)) ∙ sym (frozen_at s p)

  pub fields_same : (i j : ℕ) → i < n → j < 4 → field_at v' i j ≡ field_at v i j
  unfolding field_at
  fields_same i j m q = word_other (4 * i + j) (λ e. let z = A.above.low in let y = A.solved.held.few in omega arith)

  sizes' : length v' ≡ length v
  sizes' = frozen_length (set s (records_at + top) x) (length-set s (records_at + top) x ∙ size') ∙ sym (frozen_length s size')

  agree' : (i : ℕ) → i < n → Agree v v' i
  agree' i m = record {
    size = sizes';
    fields = λ j q. fields_same i j m q;
    parts = λ p q r. word_other p (λ e. let z = A.above.parts i m in omega arith);
    names = λ e p q r. word_other p (λ y. let z = A.above.names i m e in omega arith);
  }

  cells' : (i : ℕ) → i < n → Cell v i
  cells' i m = A.solved.held.cells i m

  old' : (i : ℕ) → i < n → view v' n i ≡ view v n i
  old' i m = view_agree v v' i (cells' i m) (agree' i m) n n m (omega arith)

  pub added : Added s (set s (records_at + top) x) n top x
  added = record {
    words = refl;
    grown = solved_grow s (set s (records_at + top) x) n n (length-set s (records_at + top) x) (omega arith) A.solved.held.few
        (subst (λ z. z < max_pending) (sym (load_same v v' n (λ i m. fields_same i 3 m (omega arith)))) A.solved.held.room)
        (λ i m. cell_agree v v' i (cells' i m) (agree' i m)) same_links (λ i p q. absurd (omega arith)) old';
    old = old';
    above = record {
      low = let z = A.above.low in omega arith;
      parts = λ i m. let z = A.above.parts i m in let e = fields_same i 2 m (omega arith) in let k = fields_same i 3 m (omega arith) in omega arith;
      names = λ i m q. let z = A.above.names i m (sym (fields_same i 0 m (omega arith)) ∙ q) in let e = fields_same i 1 m (omega arith) in
          let k = fields_same i 3 m (omega arith) in omega arith;
    };
  }
    where
      same_links : (i : ℕ) → i < n → link_at (set s (records_at + top) x) i ≡ link_at s i
      same_links i m = link_same s _ i i (get_or-set_other s (records_at + top) (links_at + i) x 0 (λ e. let y = A.solved.held.few in omega arith))

-- Where the runs of the cells end, with a new cell, and the cells and parts together.
module _ (s s' : List ℕ) (n t a f c : ℕ) (M : Making s n t a f c) (N : Made s s' n t a f c) where
  abbrev sz : length s ≡ area_size
  sz = M.solved.held.size

  old_field : (i j : ℕ) → i < n → j < 4 → field_at (frozen s') i j ≡ field_at (frozen s) i j
  old_field i j l m = ap (λ z. field_at (frozen z) i j) N.words ∙ there s n t a f c sz M.few i j l m

  new_tag : tag_at (frozen s') n ≡ t
  new_tag = ap (λ z. tag_at (frozen z) n) N.words ∙ t_at s n t a f c sz M.few

  new_arg : arg_at (frozen s') n ≡ a
  new_arg = ap (λ z. arg_at (frozen z) n) N.words ∙ a_at s n t a f c sz M.few

  new_first : first_at (frozen s') n ≡ f
  new_first = ap (λ z. first_at (frozen z) n) N.words ∙ f_at s n t a f c sz M.few

  new_count : count_at (frozen s') n ≡ c
  new_count = ap (λ z. count_at (frozen z) n) N.words ∙ c_at s n t a f c sz M.few

  pub made_load : load (frozen s') (suc n) ≡ load (frozen s) n + 1 + c
  unfolding load
  made_load = let e = load_same (frozen s) (frozen s') n (λ i l. old_field i 3 l (omega arith)) in let k = new_count in omega arith

  pub made_above : (top : ℕ) → Above (frozen s) n top → f + c ≤ top → (t ≡ 5 → a + c ≤ top) → Above (frozen s') (suc n) top
  made_above top B p q = record {
    low = B.low;
    parts = λ i l. ⊎_elim
        (λ e. let x = ap (first_at (frozen s')) e in let y = ap (count_at (frozen s')) e in let u = new_first in let v = new_count in omega arith)
        (λ m. let z = B.parts i m in let u = old_field i 2 m (omega arith) in let v = old_field i 3 m (omega arith) in omega arith)
        (eq-or-lt_of_le (let z : i ≤ n = omega arith in z));
    names = λ i l g. ⊎_elim
        (λ e. let x = ap (arg_at (frozen s')) e in let y = ap (count_at (frozen s')) e in let u = new_arg in let v = new_count in
        let z = q (sym new_tag ∙ ap (tag_at (frozen s')) (sym e) ∙ g) in omega arith)
        (λ m. let z = B.names i m (sym (old_field i 0 m (omega arith)) ∙ g) in let u = old_field i 1 m (omega arith) in let v = old_field i 3 m (omega arith) in omega arith)
        (eq-or-lt_of_le (let z : i ≤ n = omega arith in z));
  }
