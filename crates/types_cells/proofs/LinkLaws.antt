-- Links in words: following them ends at the representative.
use mathlib.Core.Path.{◌≡◌, refl, sym, ap, subst, ◌∙◌}
use mathlib.Core.Bool.{Bool, true, false}
use mathlib.Core.List.{List, [], ◌∷◌}
use mathlib.Core.Logic.{inl, inr, ⊎_elim}
use mathlib.Core.Option.{Option, some}
use Prim.Native.Nat.{ℕ, zero, suc, ◌+◌, ◌≤◌, ◌<◌}
use native.Mathlib.Omega.{arith}
use native.Mathlib.Nat.{eq-or-lt_of_le}
use lib.Dec.{eqb}
use lib.ListN.{length}
use borrow.Author.Tests.{eqb-true, eqb-false}
use Rattle.types_rules.proofs.Find.{bit, hops, next_none, next_some}
use Rattle.types_rules.proofs.Follows.{roots, roots_len, roots_less}
use Rattle.types_rules.proofs.Rational.{swap_cases}
use Rattle.types_rules.specs.Classes.{Wf, next, rep}
use Rattle.types_rules.specs.Equations.{AllP, In, Pairs, end, pair}
use Rattle.types_rules.specs.Follows.{unk}
use Rattle.types_cells.specs.Layout.{max_cells, max_pending}
use Rattle.types_cells.specs.Calls.{Known, Root}
use Rattle.types_cells.specs.Store.{frozen, link_at, Cell, load, link_of, Both, Held}

abbrev pub WfN : Pairs ℕ → Type 0
WfN L = Wf eqb L

-- A representative is a cell.
pub rep_below : (n : ℕ) (L : Pairs ℕ) → AllP (Both n) L → (i : ℕ) → i < n → rep eqb L i < n
unfolding rep
rep_below n end h i l = l
rep_below n (pair a b L) h i l =
    swap_cases ℕ eqb eqb-true eqb-false a b (rep eqb L i) _
    (λ e r. subst (λ z. z < n) (sym r) h.0.1) (λ e r. subst (λ z. z < n) (sym r) (rep_below n L h.1 i l))

next_c : (n : ℕ) (a b : ℕ) (L : Pairs ℕ) → b < n → (i j : ℕ) → (next eqb L i ≡ some j → j < n) → (c : Bool) →
    (elim c as (λ x. Option ℕ) [ true ↦ some b | false ↦ next eqb L i ]) ≡ some j → j < n
next_c n a b L l i j ih true e = let q : b ≡ j = cc in omega arith
next_c n a b L l i j ih false e = ih e

pub next_below : (n : ℕ) (L : Pairs ℕ) → AllP (Both n) L → (i j : ℕ) → next eqb L i ≡ some j → j < n
unfolding next
next_below n end h i j e = let z : ◌≡◌ {A = ℕ} 0 1 = cc in absurd (omega arith)
next_below n (pair a b L) h i j e = next_c n a b L h.0.1 i j (next_below n L h.1 i j) (eqb i a) e

-- There are fewer links than cells.
abbrev count : Pairs ℕ → ℕ
count end = 0
count (pair a b L) = suc (count L)

abbrev pub upto : ℕ → List ℕ
upto zero = []
upto (suc n) = n ∷ upto n

pub upto_in : (n i : ℕ) → i < n → In i (upto n)
upto_in zero i l = absurd (omega arith)
upto_in (suc n) i l = ⊎_elim (λ e. inl e) (λ m. inr (upto_in n i m)) (eq-or-lt_of_le (omega arith))

pub upto_len : (n : ℕ) → length (upto n) ≡ n
upto_len zero = refl
upto_len (suc n) = ap suc (upto_len n)

abbrev roots_n : Pairs ℕ → List ℕ → ℕ
roots_n = roots ℕ eqb eqb-true eqb-false (λ i. unk) end

few_links : (n : ℕ) (L : Pairs ℕ) → WfN L → AllP (Both n) L → count L + roots_n L (upto n) ≤ n
few_links n end w h = omega (arith, roots_len ℕ eqb eqb-true eqb-false (λ i. unk) end (upto n), upto_len n)
few_links n (pair a b L) w h =
    omega (
      arith,
      few_links n L w.3 h.1,
      roots_less ℕ eqb eqb-true eqb-false (λ i. unk) end L a b w.0 w.1 w.2 (upto n) (upto_in n a h.0.0),
    )

bit_le : (c : Bool) → bit c ≤ 1
unfolding bit
bit_le true = omega arith
bit_le false = omega arith

few_hops : (L : Pairs ℕ) (i : ℕ) → hops eqb L i ≤ count L
unfolding hops
few_hops end i = omega arith
few_hops (pair a b L) i = omega (arith, few_hops L i, bit_le (eqb (rep eqb L i) a))

-- The way to the representative, in words.
abbrev far_of : ℕ → (ℕ → ℕ) → ℕ
far_of zero g = 0
far_of (suc j) g = suc (g j)

unfoldable pub far : List ℕ → ℕ → ℕ → ℕ
far s zero k = 0
far s (suc f) k = far_of (link_at s k) (λ j. far s f j)

far_le_c : (f : ℕ) (g : ℕ → ℕ) → ((j : ℕ) → g j ≤ f) → (v : ℕ) → far_of v g ≤ suc f
far_le_c f g h zero = omega arith
far_le_c f g h (suc j) = let z = h j in omega arith

pub far_le : (s : List ℕ) (f k : ℕ) → far s f k ≤ f
unfolding far
far_le s zero k = omega arith
far_le s (suc f) k = far_le_c f (λ j. far s f j) (λ j. far_le s f j) (link_at s k)

module _ (s : List ℕ) (n : ℕ) (L : Pairs ℕ) (H : Held s n L) where
  linked : (k j : ℕ) → k < n → link_at s k ≡ suc j → next eqb L k ≡ some j
  unfolding link_of
  linked k j l e = H.links k l ∙ ap link_of e

  pub hop_below : (k j : ℕ) → k < n → link_at s k ≡ suc j → j < n
  hop_below k j l e = next_below n L H.inside k j (linked k j l e)

  pub hop_rep : (k j : ℕ) → k < n → link_at s k ≡ suc j → rep eqb L j ≡ rep eqb L k
  hop_rep k j l e = (next_some ℕ eqb eqb-true eqb-false L H.wf k j (linked k j l e)).0

  hop_less : (k j : ℕ) → k < n → link_at s k ≡ suc j → hops eqb L j < hops eqb L k
  hop_less k j l e = (next_some ℕ eqb eqb-true eqb-false L H.wf k j (linked k j l e)).1

  pub stop_rep : (k : ℕ) → k < n → link_at s k ≡ 0 → rep eqb L k ≡ k
  unfolding link_of
  stop_rep k l e = next_none ℕ eqb eqb-true eqb-false L k (H.links k l ∙ ap link_of e)

  far_c : (f k : ℕ) → k < n → hops eqb L k ≤ suc f → ((j : ℕ) → j < n → hops eqb L j ≤ f → far s (suc f) j ≡ far s f j) → (v : ℕ) → link_at s k ≡ v →
      far_of v (λ j. far s (suc f) j) ≡ far_of v (λ j. far s f j)
  far_c f k l h ih zero e = refl
  far_c f k l h ih (suc j) e = ap suc (ih j (hop_below k j l e) (let q = hop_less k j l e in omega arith))

  far_0 : (k : ℕ) → k < n → hops eqb L k ≤ 0 → (v : ℕ) → link_at s k ≡ v → far_of v (λ j. far s zero j) ≡ 0
  far_0 k l h zero e = refl
  far_0 k l h (suc j) e = absurd (omega (arith, hop_less k j l e))

  far_more : (f k : ℕ) → k < n → hops eqb L k ≤ f → far s (suc f) k ≡ far s f k
  unfolding far
  far_more zero k l h = far_0 k l h (link_at s k) refl
  far_more (suc f) k l h = far_c f k l h (λ j m q. far_more f j m q) (link_at s k) refl

  short : (k : ℕ) → k < n → hops eqb L k ≤ max_cells
  short k l = omega (arith, few_hops L k, few_links n L H.wf H.inside, H.few)

  pub far_less : (k j : ℕ) → k < n → link_at s k ≡ suc j → far s (1 + max_cells) j < far s (1 + max_cells) k
  unfolding far
  far_less k j l e =
      let m = hop_below k j l e in
      omega (arith, far_more max_cells j m (short j m), ap (λ v. far_of v (λ i. far s max_cells i)) e)

pub known_root : (s : List ℕ) (i r : ℕ) → Known s i → Root s i r → Known s r
known_root s i r k q = record { n = k.n; L = k.L; held = k.held; made = subst (λ z. z < k.n) (q.is k.n k.L k.held k.made) (rep_below k.n k.L k.held.inside i k.made) }

pub few_cell : (s : List ℕ) (i : ℕ) → Known s i → i < max_cells
few_cell s i k = let f = k.held.few in let l = k.made in omega arith

-- What is kept where links and the frozen part are.
pub held_same : (s s' : List ℕ) → frozen s' ≡ frozen s → (n : ℕ) (L : Pairs ℕ) → length s' ≡ length s → ((i : ℕ) → i < max_cells → link_at s' i ≡ link_at s i) → Held s n L → Held s' n L
held_same s s' e n L l h H = record {
  size = l ∙ H.size;
  few = H.few;
  room = subst (λ w. load w n < max_pending) (sym e) H.room;
  cells = λ i m. subst (λ w. Cell w i) (sym e) (H.cells i m);
  links = λ i m. H.links i m ∙ ap link_of (sym (h i (let f = H.few in omega arith)));
  wf = H.wf;
  inside = H.inside;
}
