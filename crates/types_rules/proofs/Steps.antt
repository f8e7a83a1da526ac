-- For a store of nodes: new nodes, new equations, marks, and when solutions are one.
use Prim.Native.Nat.{suc, zero, ℕ}
use mathlib.Core.Bool.{Bool, false, true}
use mathlib.Core.List.{List, map}
use mathlib.Core.Path.{◌∙◌, ◌≡◌, ap, refl, subst, sym}
use native.Mathlib.Omega.{arith}
use Rattle.types_rules.proofs.Finite.{all_at, map_same, solution_unknown}
use Rattle.types_rules.proofs.Rational.{shape_0, shape_1, swap_cases, swap_miss}
use Rattle.types_rules.proofs.Terms.{bool_no}
use Rattle.types_rules.specs.Classes.{Closed, Shape, rep, swap}
use Rattle.types_rules.specs.Equations.{AllP, Pairs, end, pair}
use Rattle.types_rules.specs.Finite.{bounded, bounded_view, from_list, type_of}
use Rattle.types_rules.specs.Follows.{View, shape, unk}
use Rattle.types_rules.specs.Former.{Former, int, power}
use Rattle.types_rules.specs.Types.{Ty, node, tcons, tnil}

module _ (N : Type 0) (same : N → N → Bool) (same-eq : (a b : N) → same a b ≡ true → a ≡ b) (same-ne : (a b : N) → same a b ≡ false → a ≡ b → ⊥) where
  -- One more equation to do.
  pub closed_add : (view : N → View N) (P₀ L : Pairs N) (a b : N) → Closed same view P₀ L end →
      Closed same view (pair a b P₀) L (pair a b end)
  closed_add view P₀ L a b C = record {
    wf = C.wf;
    shaped = C.shaped;
    heads = C.heads;
    parts = λ n m h k cs ds vn vm q f fl fp. C.parts n m h k cs ds vn vm q f fl tt;
    covers = λ f fl fp. (fp.0, C.covers f fl tt);
  }

  -- New nodes: where the links are between old ones, a view of the new ones may be given.
  module _ (old : N → Bool) where
    old_rep : (L : Pairs N) → AllP (λ a b. (old a ≡ true) × (old b ≡ true)) L → (n : N) → old n ≡ true → old (rep same L n) ≡ true
    unfolding rep
    old_rep end h n e = e
    old_rep (pair a b L) h n e =
        swap_cases N same same-eq same-ne a b (rep same L n) _
        (λ q r. ap old r ∙ h.0.1) (λ q r. ap old r ∙ old_rep L h.1 n e)

    new_rep : (L : Pairs N) → AllP (λ a b. (old a ≡ true) × (old b ≡ true)) L → (n : N) → old n ≡ false → rep same L n ≡ n
    unfolding rep
    new_rep end h n e = refl
    new_rep (pair a b L) h n e =
        let i = new_rep L h.1 n e in
        ap (swap same a b) i
        ∙ swap_miss N same same-eq same-ne a b n (λ q. bool_no (old a) h.0.0 (ap old (sym q) ∙ e))

    pub closed_grow : (view view' : N → View N) → ((n : N) → old n ≡ true → view n ≡ view' n) → (P₀ L P : Pairs N) → AllP (λ a b. (old a ≡ true) × (old b ≡ true)) L →
        Closed same view P₀ L P → Closed same view' P₀ L P
    closed_grow view view' v P₀ L P hl C = record {
      wf = C.wf;
      shaped = λ n s. go n s (old n) refl;
      heads = λ n m h k cs ds vn vm q. two_solutions n m q (h ≡ k)
          (λ on om. C.heads n m h k cs ds (v n on ∙ vn) (v m om ∙ vm) q)
          (λ e. shape_0 _ _ _ _ (sym vn ∙ ap view' e ∙ vm));
      parts = λ n m h k cs ds vn vm q f fl fp. two_solutions n m q (map f cs ≡ map f ds)
          (λ on om. C.parts n m h k cs ds (v n on ∙ vn) (v m om ∙ vm) q f fl fp)
          (λ e. ap (map f) (shape_1 _ _ _ _ (sym vn ∙ ap view' e ∙ vm)));
      covers = C.covers;
    }
      where
        Sh : View N → Type 0
        Sh w = Shape w

        go : (n : N) → Shape (view' n) → (b : Bool) → old n ≡ b → Shape (view' (rep same L n))
        go n s true e = subst (Shape) (v (rep same L n) (old_rep L hl n e)) (C.shaped n (subst (Shape) (sym (v n e)) s))
        go n s false e = subst (λ z. Shape (view' z)) (sym (new_rep L hl n e)) s

        two_solutions : (n m : N) → rep same L n ≡ rep same L m → (T : Type 0) → (old n ≡ true → old m ≡ true → T) → (n ≡ m → T) → T
        two_solutions n m q T f g = by (old n) (old m) refl refl
          where
            by : (b c : Bool) → old n ≡ b → old m ≡ c → T
            by true true e e' = f e e'
            by true false e e' = absurd (bool_no _ (old_rep L hl n e) (ap old (q ∙ new_rep L hl m e') ∙ e'))
            by false true e e' = absurd (bool_no _ (old_rep L hl m e') (ap old (sym q ∙ new_rep L hl n e) ∙ e))
            by false false e e' = g (sym (new_rep L hl n e) ∙ q ∙ new_rep L hl m e')

module _ {N : Type 0} (r : N → N) (view : N → View N) where
  -- Where no class is unknown, solutions are one.
  module _ (known : (n : N) → view (r n) ≡ unk → ⊥) (σ τ : N → Ty) (fσ : (n : N) (h : Former) (cs : List N) → view n ≡ shape h cs → σ n ≡ node h (from_list (map σ cs)))
      (fτ : (n : N) (h : Former) (cs : List N) → view n ≡ shape h cs → τ n ≡ node h (from_list (map τ cs))) (bσ : (n : N) → σ (r n) ≡ σ n) (bτ : (n : N) → τ (r n) ≡ τ n) where
    one_v : (f : N → Bool) → ((c : N) → f c ≡ true → σ c ≡ τ c) → (n : N) (v : View N) → view (r n) ≡ v → bounded_view f v ≡ true → σ (r n) ≡ τ (r n)
    unfolding bounded_view
    one_v f k n unk e q = absurd (known n e)
    one_v f k n (shape h cs) e q = fσ (r n) h cs e ∙ ap (λ l. node h (from_list l)) (map_same σ τ cs (λ c i. k c (all_at f cs q c i))) ∙ sym (fτ (r n) h cs e)

    pub one_solution : (d : ℕ) (n : N) → bounded r view d n ≡ true → σ n ≡ τ n
    unfolding bounded
    one_solution zero n q = absurd (bool_no false q refl)
    one_solution (suc d) n q = sym (bσ n) ∙ one_v _ (λ c e. one_solution d c e) n (view (r n)) refl q ∙ bτ n

-- Where a class is unknown, there are two that differ there.
module _ (N : Type 0) (same : N → N → Bool) (same-eq : (a b : N) → same a b ≡ true → a ≡ b) (same-ne : (a b : N) → same a b ≡ false → a ≡ b → ⊥)
    (view : N → View N) (P₀ L : Pairs N) (C : Closed same view P₀ L end) where
  pub two_solutions : (d : ℕ) (n : N) → view (rep same L n) ≡ unk → type_of (rep same L) view (λ m. node int tnil) d n ≡ type_of (rep same L) view (λ m. node power (tcons (node int tnil) tnil)) d n → ⊥
  two_solutions d n e q =
      let p = sym (solution_unknown N same same-eq same-ne view P₀ L C (λ m. node int tnil) d n e) ∙ q
      ∙ solution_unknown N same same-eq same-ne view P₀ L C (λ m. node power (tcons (node int tnil) tnil)) d n e in
      let z : ◌≡◌ {A = ℕ} 0 1 = cc in omega arith
