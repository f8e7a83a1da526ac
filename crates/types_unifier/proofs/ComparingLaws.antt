-- Two cells compared: words of their formers, runs of identifiers.
use mathlib.Core.Path.{◌≡◌, refl, sym, ap, ap₂, subst, ◌∙◌}
use mathlib.Core.List.{List}
use Prim.Native.Nat.{ℕ, zero, suc, ◌+◌, ◌≤◌, ◌<◌}
use native.Mathlib.Omega.{arith}
use lib.ListN.{length, get_or}
use lib.Seq.{ext_get_or}
use Rattle.types_rules.specs.Former.{binding, former_of}
use Rattle.types_cells.specs.Store.{tag_at, arg_at, count_at, run, former_at}
use Rattle.types_cells.proofs.Words.{run_at, run_length}
use Rattle.types_cells.proofs.Heads.{code, coded, arg_yes, binding_inj}
use Rattle.types_unifier.specs.Comparing.{Two, Alike}

pub run_same : (w : List ℕ) (p q k : ℕ) → p + k ≤ length w → q + k ≤ length w → ((i : ℕ) → i < k → get_or w (p + i) 0 ≡ get_or w (q + i) 0) → run w p k ≡ run w q k
run_same w p q k lp lq h =
    let ep = run_length w p k lp in
    let eq = run_length w q k lq in
    ext_get_or 0 (run w p k) (run w q k) (ep ∙ sym eq) (λ i l. let m : i < k = omega arith in run_at w p k i m ∙ h i m ∙ sym (run_at w q k i m))

pub run_differ : (w : List ℕ) (p q k i : ℕ) → i < k → (get_or w (p + i) 0 ≡ get_or w (q + i) 0 → ⊥) → run w p k ≡ run w q k → ⊥
run_differ w p q k i l h e = h (sym (run_at w p k i l) ∙ ap (λ x. get_or x i 0) e ∙ run_at w q k i l)

arg_no : (t a b : ℕ) (l m : List ℕ) → (t ≡ 5 → ⊥) → (t < 2 → a ≡ b) → (t ≡ 3 → a ≡ b) → (t ≡ 4 → a ≡ b) → former_of t a l ≡ former_of t b m → a ≡ b
unfolding former_of
arg_no zero a b l m p u v o q = u (omega arith)
arg_no (suc zero) a b l m p u v o q = u (omega arith)
arg_no (suc (suc zero)) a b l m p u v o q = cc
arg_no (suc (suc (suc zero))) a b l m p u v o q = v refl
arg_no (suc (suc (suc (suc zero)))) a b l m p u v o q = o refl
arg_no (suc (suc (suc (suc (suc zero))))) a b l m p u v o q = absurd (p refl)
arg_no (suc (suc (suc (suc (suc (suc n)))))) a b l m p u v o q = cc

ids_yes : (t a b : ℕ) (l m : List ℕ) → t ≡ 5 → l ≡ m → former_of t a l ≡ former_of t b m
unfolding former_of
ids_yes t a b l m p q = rw p (ap binding q)

ids_no : (t a b : ℕ) (l m : List ℕ) → t ≡ 5 → former_of t a l ≡ former_of t b m → l ≡ m
unfolding former_of
ids_no t a b l m p q = binding_inj l m (subst (λ z. former_of z a l ≡ former_of z b m) p q)

module _ (w : List ℕ) (x y : ℕ) (T : Two w x y) where
  pub tag_no : (tag_at w x ≡ tag_at w y → ⊥) → Alike w x y → ⊥
  unfolding former_at
  tag_no ne q =
      ne (sym (coded (tag_at w x) (arg_at w x) _ T.shaped_x T.left.tags) ∙ ap code q.0 ∙ coded (tag_at w y) (arg_at w y) _ T.shaped_y T.right.tags)

  module _ (t : tag_at w x ≡ tag_at w y) (k : count_at w x ≡ count_at w y) where
    to : former_of (tag_at w x) (arg_at w y) (run w (arg_at w y) (count_at w x)) ≡ former_at w y
    unfolding former_at
    to = ap₂ (λ u v. former_of u (arg_at w y) (run w (arg_at w y) v)) t k

    pub same_arg : (tag_at w x ≡ 5 → ⊥) → arg_at w x ≡ arg_at w y → Alike w x y
    unfolding former_at
    same_arg ne e = (arg_yes (tag_at w x) (arg_at w x) (arg_at w y) _ _ ne e ∙ to, k)

    pub other_arg : (tag_at w x ≡ 5 → ⊥) → (arg_at w x ≡ arg_at w y → ⊥) → Alike w x y → ⊥
    unfolding former_at
    other_arg ne d q =
        d (arg_no (tag_at w x) (arg_at w x) (arg_at w y) (run w (arg_at w x) (count_at w x)) (run w (arg_at w y) (count_at w x)) ne
        (λ l. T.left.plain l ∙ sym (T.right.plain (omega arith))) (λ e. T.left.powers e ∙ sym (T.right.powers (sym t ∙ e)))
        (λ e. T.left.products e ∙ k ∙ sym (T.right.products (sym t ∙ e))) (q.0 ∙ sym to))

    pub same_ids : tag_at w x ≡ 5 → run w (arg_at w x) (count_at w x) ≡ run w (arg_at w y) (count_at w x) → Alike w x y
    unfolding former_at
    same_ids e q = (ids_yes (tag_at w x) (arg_at w x) (arg_at w y) _ _ e q ∙ to, k)

    pub other_ids : tag_at w x ≡ 5 → (run w (arg_at w x) (count_at w x) ≡ run w (arg_at w y) (count_at w x) → ⊥) → Alike w x y → ⊥
    unfolding former_at
    other_ids e d q = d (ids_no (tag_at w x) (arg_at w x) (arg_at w y) _ _ e (q.0 ∙ sym to))
