-- One link made straight, to the representative: another history L' of links, with the same representatives.
use mathlib.Core.Path.{◌≡◌, refl, sym, ap, ap₂, subst, ◌∙◌}
use mathlib.Core.Bool.{Bool, true, false}
use mathlib.Core.List.{List}
use mathlib.Core.Option.{Option, some, none}
use Prim.Native.Nat.{ℕ, zero, suc, ◌+◌, ◌-◌, ◌≤◌, ◌<◌}
use native.Mathlib.Omega.{arith}
use lib.Dec.{eqb}
use lib.ListN.{length, get_or, set, length-set}
use lib.Seq.{get_or-set_same, get_or-set_other, take-set-le}
use borrow.Author.Tests.{eqb-true, eqb-false}
use Rattle.types_rules.proofs.Closed.{idem, rep_self}
use Rattle.types_rules.proofs.Find.{next_none, next_some, root_hops}
use Rattle.types_rules.proofs.Finite.{sat_by}
use Rattle.types_rules.proofs.Follows.{rep_follows}
use Rattle.types_rules.proofs.Rational.{rep_sat}
use Rattle.types_rules.specs.Classes.{Closed, Shape, next, rep}
use Rattle.types_rules.specs.Equations.{AllP, Pairs, Solves, end, pair}
use Rattle.types_rules.specs.Follows.{Follows, View}
use Rattle.types_cells.specs.Layout.{max_cells, max_pending, pool_size, links_at, settled_from, area_size}
use Rattle.types_cells.specs.Store.{frozen, link_at, link_of, tag_at, view, Cell, load, Both, Solved}
use Rattle.types_cells.specs.Flat.{Kept, Refers, Straight}
use Rattle.types_rules.specs.Trees.{Extent, Tree}
use Rattle.types_cells.specs.Settled.{lower, heap, word_at, Reads, Readable, Pinned, ObeysIn}
use Rattle.types_cells.proofs.SettlingLaws.{heap_kept}
use Rattle.types_cells.specs.Calls.{Root}
use Rattle.types_cells.proofs.LinkLaws.{WfN, rep_below}
use Rattle.types_cells.proofs.Words.{frozen_set, link_new, link_none, link_same}

abbrev pick : Bool → ℕ → ℕ → ℕ
pick true x y = x
pick false x y = y

no_some : (j : ℕ) → ◌≡◌ {A = Option ℕ} none (some j) → ⊥
no_some j q = let z : ◌≡◌ {A = ℕ} 0 1 = cc in omega arith

-- A representative has no link.
root_next : (L : Pairs ℕ) → WfN L → (i : ℕ) → rep eqb L i ≡ i → next eqb L i ≡ none
root_next L w i e = go (next eqb L i) refl
  where
    go : (o : Option ℕ) → next eqb L i ≡ o → o ≡ none
    go none q = refl
    go (some j) q = let h = (next_some ℕ eqb eqb-true eqb-false L w i j q).1 in absurd (omega (arith, root_hops ℕ eqb eqb-true eqb-false L w i e))

-- The history with the link of x made to r.
pub flat : ℕ → ℕ → Pairs ℕ → Pairs ℕ
flat x r end = end
flat x r (pair a b L) = pair a (pick (eqb a x) r b) (flat x r L)

module _ (x r : ℕ) where
  next_c : (i a b : ℕ) (L : Pairs ℕ) → (next eqb L i ≡ none → next eqb (flat x r L) i ≡ none) → (c : Bool) → (d : ℕ) →
      ◌≡◌ {A = Option ℕ} (elim c as (λ z. Option ℕ) [ true ↦ some b | false ↦ next eqb L i ]) none →
      ◌≡◌ {A = Option ℕ} (elim c as (λ z. Option ℕ) [ true ↦ some d | false ↦ next eqb (flat x r L) i ]) none
  next_c i a b L ih true d e = absurd (no_some b (sym e))
  next_c i a b L ih false d e = ih e

  none_flat : (L : Pairs ℕ) (i : ℕ) → next eqb L i ≡ none → next eqb (flat x r L) i ≡ none
  unfolding next flat
  none_flat end i e = refl
  none_flat (pair a b L) i e = next_c i a b L (none_flat L i) (eqb i a) (pick (eqb a x) r b) e

  some_c : (i j a b : ℕ) (L : Pairs ℕ) → (next eqb L i ≡ some j → next eqb (flat x r L) i ≡ some (pick (eqb i x) r j)) → (c : Bool) → eqb i a ≡ c →
      (elim c as (λ z. Option ℕ) [ true ↦ some b | false ↦ next eqb L i ]) ≡ some j →
      (elim c as (λ z. Option ℕ) [ true ↦ some (pick (eqb a x) r b) | false ↦ next eqb (flat x r L) i ]) ≡ some (pick (eqb i x) r j)
  some_c i j a b L ih true q e = let p : b ≡ j = cc in ap₂ (λ u v. some (pick (eqb u x) r v)) (sym (eqb-true i a q)) p
  some_c i j a b L ih false q e = ih e

  some_flat : (L : Pairs ℕ) (i j : ℕ) → next eqb L i ≡ some j → next eqb (flat x r L) i ≡ some (pick (eqb i x) r j)
  unfolding next flat
  some_flat end i j e = absurd (no_some j e)
  some_flat (pair a b L) i j e = some_c i j a b L (some_flat L i j) (eqb i a) refl e

  older_none : (a b i : ℕ) (L : Pairs ℕ) → next eqb (pair a b L) i ≡ none → next eqb L i ≡ none
  unfolding next
  older_none a b i L e = go (eqb i a) e
    where
      go : (c : Bool) → ◌≡◌ {A = Option ℕ} (elim c as (λ z. Option ℕ) [ true ↦ some b | false ↦ next eqb L i ]) none → next eqb L i ≡ none
      go true q = absurd (no_some b (sym q))
      go false q = q

  -- r has no link, and x is not r.
  wf_flat : (L : Pairs ℕ) → WfN L → next eqb L r ≡ none → (r ≡ x → ⊥) → WfN (flat x r L)
  unfolding flat
  wf_flat end w h ne = tt
  wf_flat (pair a b L) w h ne =
      let q = older_none a b r L h in
      (still a w.0, go (eqb a x) refl, ne' (eqb a x) refl, wf_flat L w.3 q ne)
    where
      still : (i : ℕ) → rep eqb L i ≡ i → rep eqb (flat x r L) i ≡ i
      still i e = next_none ℕ eqb eqb-true eqb-false (flat x r L) i (none_flat L i (root_next L w.3 i e))

      go : (c : Bool) → eqb a x ≡ c → rep eqb (flat x r L) (pick c r b) ≡ pick c r b
      go true e = next_none ℕ eqb eqb-true eqb-false (flat x r L) r (none_flat L r (older_none a b r L h))
      go false e = still b w.1

      ne' : (c : Bool) → eqb a x ≡ c → pick c r b ≡ a → ⊥
      ne' true e z = ne (z ∙ eqb-true a x e)
      ne' false e z = w.2 z

module _ (s : List ℕ) (n : ℕ) (P₀ L : Pairs ℕ) (X : Solved s n P₀ L) (i r : ℕ) (l : i < n) (ri : rep eqb L i ≡ r) (fr : link_at s r ≡ 0) (linked : link_at s i ≡ 0 → ⊥) where
  abbrev R : ℕ → ℕ
  R = rep eqb L

  abbrev L₁ : Pairs ℕ
  L₁ = flat i r L

  rb : r < n
  rb = subst (λ z. z < n) ri (rep_below n L X.held.inside i l)

  r_free : next eqb L r ≡ none
  unfolding link_of
  r_free = X.held.links r rb ∙ ap link_of fr

  r_not : r ≡ i → ⊥
  r_not e = linked (ap (link_at s) (sym e) ∙ fr)

  wf₁ : WfN L₁
  wf₁ = wf_flat i r L X.held.wf r_free r_not

  sat_c : (M : Pairs ℕ) → Solves R M → Solves R (flat i r M)
  unfolding flat
  sat_c end h = tt
  sat_c (pair a b M) h = (go (eqb a i) refl, sat_c M h.1)
    where
      go : (c : Bool) → eqb a i ≡ c → R a ≡ R (pick c r b)
      go true e = ap R (eqb-true a i e) ∙ sym (ap R (sym ri) ∙ idem ℕ eqb eqb-true eqb-false L X.held.wf i)
      go false e = h.0

  -- The same representatives.
  same_rep : (j : ℕ) → rep eqb L₁ j ≡ R j
  same_rep j =
      let k = rep eqb L₁ j in
      let free : next eqb L₁ k ≡ none = root_next L₁ wf₁ k (idem ℕ eqb eqb-true eqb-false L₁ wf₁ j) in
      sym (root k free) ∙ rep_sat ℕ eqb eqb-true eqb-false R L₁ (sat_c L (rep_self ℕ eqb eqb-true eqb-false L X.held.wf)) j
    where
      root : (k : ℕ) → next eqb L₁ k ≡ none → R k ≡ k
      root k e = go (next eqb L k) refl
        where
          go : (o : Option ℕ) → next eqb L k ≡ o → R k ≡ k
          go none q = next_none ℕ eqb eqb-true eqb-false L k q
          go (some m) q = absurd (no_some _ (sym e ∙ some_flat i r L k m q))

  sat_back : (f : ℕ → ℕ) → Solves f L₁ → Solves f L
  sat_back f h = sat_by R f
      (λ a b q. sym (rep_sat ℕ eqb eqb-true eqb-false f L₁ h a) ∙ ap f (same_rep a ∙ q ∙ sym (same_rep b)) ∙ rep_sat ℕ eqb eqb-true eqb-false f L₁ h b)
      L (rep_self ℕ eqb eqb-true eqb-false L X.held.wf)

  abbrev Vw : ℕ → View ℕ
  Vw = view (frozen s) n

  closed₁ : Closed eqb Vw P₀ L₁ end
  closed₁ = record {
    wf = wf₁;
    shaped = λ j z. subst (λ k. Shape (Vw k)) (sym (same_rep j)) (X.closed.shaped j z);
    heads = λ a b h k cs ds va vb q. X.closed.heads a b h k cs ds va vb (sym (same_rep a) ∙ q ∙ same_rep b);
    parts = λ a b h k cs ds va vb q f fl fp. X.closed.parts a b h k cs ds va vb (sym (same_rep a) ∙ q ∙ same_rep b) f (sat_back f fl) fp;
    covers = λ f fl fp. X.closed.covers f (sat_back f fl) fp;
  }

  follows_c : (M : Pairs ℕ) → AllP (Follows Vw P₀) M → AllP (Follows Vw P₀) (flat i r M)
  unfolding flat
  follows_c end h = tt
  follows_c (pair a b M) h = (go (eqb a i) refl, follows_c M h.1)
    where
      go : (c : Bool) → eqb a i ≡ c → Follows Vw P₀ a (pick c r b)
      go true e = subst (λ z. Follows Vw P₀ a z) (ap R (eqb-true a i e) ∙ ri) (rep_follows ℕ eqb eqb-true eqb-false Vw P₀ L X.follows a)
      go false e = h.0

  inside_c : (M : Pairs ℕ) → AllP (Both n) M → AllP (Both n) (flat i r M)
  unfolding flat
  inside_c end h = tt
  inside_c (pair a b M) h = ((h.0.0, go (eqb a i)), inside_c M h.1)
    where
      go : (c : Bool) → pick c r b < n
      go true = rb
      go false = h.0.1

  few_i : i < max_cells
  few_i = let f = X.held.few in omega arith

  still₁ : frozen (set s (links_at + i) (suc r)) ≡ frozen s
  still₁ = let f = few_i in frozen_set s (links_at + i) (suc r) (omega arith)

  links_c : (j : ℕ) → j < n → (v : ℕ) → link_at s j ≡ v → (c : Bool) → eqb j i ≡ c → next eqb L₁ j ≡ link_of (link_at (set s (links_at + i) (suc r)) j)
  unfolding link_of
  links_c j m zero e true q = absurd (linked (ap (link_at s) (sym (eqb-true j i q)) ∙ e))
  links_c j m (suc v) e true q =
      some_flat i r L j v (X.held.links j m ∙ ap link_of e) ∙ ap (λ c. some (pick c r v)) q
      ∙ sym (ap (λ z. link_of (link_at (set s (links_at + i) (suc r)) z)) (eqb-true j i q)
      ∙ ap link_of (link_new _ i (suc r) (let b = rb in let f = X.held.few in omega arith) (get_or-set_same s (links_at + i) (suc r) 0 (let f = few_i in let z = X.held.size in omega arith))))
  links_c j m zero e false q = none_flat i r L j (X.held.links j m ∙ ap link_of e) ∙ sym (ap link_of (link_same s _ j j (get_or-set_other s (links_at + i) (links_at + j) (suc r) 0 (λ z. eqb-false j i q (omega arith))) ∙ e))
  links_c j m (suc v) e false q =
      some_flat i r L j v (X.held.links j m ∙ ap link_of e) ∙ ap (λ c. some (pick c r v)) q ∙ sym (ap link_of (link_same s _ j j (get_or-set_other s (links_at + i) (links_at + j) (suc r) 0 (λ z. eqb-false j i q (omega arith))) ∙ e))

  pub straight : Kept (set s (links_at + i) (suc r)) n P₀ L
  straight = record {
    L' = L₁;
    solved = record {
      held = record {
        size = length-set s (links_at + i) (suc r) ∙ X.held.size;
        few = X.held.few;
        room = subst (λ w. load w n < max_pending) (sym still₁) X.held.room;
        cells = λ j m. subst (λ w. Cell w j) (sym still₁) (X.held.cells j m);
        links = λ j m. links_c j m (link_at s j) refl (eqb j i) refl;
        wf = wf₁;
        inside = inside_c L X.held.inside;
      };
      closed = subst (λ w. Closed eqb (view w n) P₀ L₁ end) (sym still₁) closed₁;
      follows = subst (λ w. AllP (Follows (view w n) P₀) L₁) (sym still₁) (follows_c L X.follows);
      asked = X.asked;
    };
    same = same_rep;
  }

-- Cell i gets the link to r.
module _ (s : List ℕ) (i r : ℕ) (z : length s ≡ area_size) (f : i < max_cells) (fr : r < max_cells) where
  set_hit : link_at (set s (links_at + i) (suc r)) i ≡ suc r
  set_hit = link_new _ i (suc r) (omega arith) (get_or-set_same s (links_at + i) (suc r) 0 (omega arith))

  set_miss : (j : ℕ) → (j ≡ i → ⊥) → link_at (set s (links_at + i) (suc r)) j ≡ link_at s j
  set_miss j d = link_same s _ j j (get_or-set_other s (links_at + i) (links_at + j) (suc r) 0 (λ e. d (omega arith)))

  old : (link_at s i ≡ 0 → ⊥) → (j : ℕ) → j ≡ i → settled_from ≤ word_at s j → ⊥
  unfolding word_at link_at
  old d j e v = d (link_none (get_or s (links_at + i) 0) (subst (λ k. settled_from ≤ get_or s (links_at + k) 0) e v))

  go_to : (link_at s i ≡ 0 → ⊥) → (j : ℕ) → settled_from ≤ word_at s j → (b : Bool) → eqb j i ≡ b → word_at (set s (links_at + i) (suc r)) j ≡ word_at s j
  unfolding word_at
  go_to d j v true e = absurd (old d j (eqb-true j i e) v)
  go_to d j v false e = get_or-set_other s (links_at + i) (links_at + j) (suc r) 0 (λ q. eqb-false j i e (omega arith))

  go_from : (j : ℕ) → settled_from ≤ word_at (set s (links_at + i) (suc r)) j → (b : Bool) → eqb j i ≡ b → word_at (set s (links_at + i) (suc r)) j ≡ word_at s j
  unfolding word_at
  go_from j v true e =
      let q : word_at (set s (links_at + i) (suc r)) j ≡ suc r = ap (λ k. get_or (set s (links_at + i) (suc r)) (links_at + k) 0) (eqb-true j i e) ∙ get_or-set_same s (links_at + i) (suc r) 0 (omega arith) in
      absurd (omega arith)
  go_from j v false e = get_or-set_other s (links_at + i) (links_at + j) (suc r) 0 (λ q. eqb-false j i e (omega arith))

  set_refers : (link_at s i ≡ 0 → ⊥) → Refers s (set s (links_at + i) (suc r))
  unfolding lower
  set_refers d = record {
    low = take-set-le pool_size s (links_at + i) (suc r) (omega arith);
    to = λ j v. go_to d j v (eqb j i) refl;
    from = λ j v. go_from j v (eqb j i) refl;
  }

-- Solutions obey the one store where they obey the other.
module _ (s t d : List ℕ) (n : ℕ) (K : Refers s t) where
  low_heap : heap t d ≡ heap s d
  low_heap = heap_kept s t d K.low

  pub refers_pinned : frozen t ≡ frozen s → Pinned s d n → Pinned t d n
  refers_pinned f P = record {
    reads = λ i l v.
        let e = K.from i v in
        subst (λ z. Readable z (word_at t i - settled_from)) (sym low_heap) (subst (λ z. Readable (heap s d) (z - settled_from)) (sym e) (P.reads i l (omega arith)));
    bare = λ i l v. let e = K.from i v in ap (λ z. tag_at z i) f ∙ P.bare i l (omega arith);
  }

  pub refers_to : (ε : Extent) (σ : ℕ → Tree ε) → ObeysIn ε s d n σ → ObeysIn ε t d n σ
  refers_to ε σ O i l v g R =
      let e = K.from i v in
      O i l (omega arith) g (subst (λ z. Reads (heap s d) (z - settled_from) g) e (subst (λ z. Reads z (word_at t i - settled_from) g) low_heap R))

  pub refers_from : (ε : Extent) (σ : ℕ → Tree ε) → ObeysIn ε t d n σ → ObeysIn ε s d n σ
  refers_from ε σ O i l v g R =
      let e = K.to i v in
      O i l (omega arith) g (subst (λ z. Reads (heap t d) (z - settled_from) g) (sym e) (subst (λ z. Reads z (word_at s i - settled_from) g) (sym low_heap) R))

suc_inj : (a b : ℕ) → suc a ≡ suc b → a ≡ b
suc_inj a b e = omega arith

pub straightened : (s : List ℕ) (n i r : ℕ) → length s ≡ area_size → i < max_cells → r < max_cells → Root s i r → (link_at s i ≡ 0 → ⊥) → Straight s (set s (links_at + i) (suc r)) i n
straightened s n i r z f fr Q d = record {
  refers = set_refers s i r z f fr d;
  still = frozen_set s (links_at + i) (suc r) (omega arith);
  direct = λ j e.
      let m = suc_inj j r (sym e ∙ set_hit s i r z f fr) in
      ap (link_at (set s (links_at + i) (suc r))) m ∙ set_miss s i r z f fr r (λ q. d (ap (link_at s) (sym q) ∙ Q.free)) ∙ Q.free;
  others = set_miss s i r z f fr;
  roots = λ e. absurd (d e);
  keeps = λ P₀ L X l. straight s n P₀ L X i r l (Q.is n L X.held l) Q.free d;
}
