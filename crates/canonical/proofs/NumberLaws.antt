-- The table of new numbers, node by node.
use mathlib.Core.Path.{◌≡◌, sym, ap, ◌∙◌}
use mathlib.Core.Logic.{⊎_elim}
use mathlib.Core.List.{List}
use Prim.Native.Nat.{ℕ, suc, ◌+◌, ◌≤◌, ◌<◌}
use native.Mathlib.Omega.{arith}
use native.Mathlib.Nat.{eq-or-lt_of_le}
use lib.ListN.{length, get_or, set}
use lib.Seq.{get_or-set_same, get_or-set_other}
use Rattle.canonical_rules.specs.Positions.{index_of, Distinct}
use Rattle.canonical_rules.proofs.Positions.{index_found, has_index, index_at}
use Rattle.canonical.specs.Order.{Numbers}

-- the first i nodes have their places
abbrev pub NumbersTo : List ℕ → ℕ → List ℕ → Type 0
NumbersTo nodes i numbers = (j : ℕ) → j < i → get_or numbers (get_or nodes j 0) 0 ≡ suc j

pub numbers_next : (nodes u : List ℕ) (i v : ℕ) → Distinct nodes → i < length nodes → get_or nodes i 0 ≡ v → v < length u → NumbersTo nodes i u → NumbersTo nodes (i + 1) (set u v (i + 1))
numbers_next nodes u i v d l e b h j k = let p : j ≤ i = omega arith in ⊎_elim here there (eq-or-lt_of_le p)
  where
    here : j ≡ i → get_or (set u v (i + 1)) (get_or nodes j 0) 0 ≡ suc j
    here q = ap (λ x. get_or (set u v (i + 1)) (get_or nodes x 0) 0) q ∙ ap (λ x. get_or (set u v (i + 1)) x 0) e ∙ get_or-set_same u v (i + 1) 0 b ∙ omega (arith, q)

    there : j < i → get_or (set u v (i + 1)) (get_or nodes j 0) 0 ≡ suc j
    there q =
        get_or-set_other u v (get_or nodes j 0) (i + 1) 0
        (λ s. let a = index_at nodes d j (omega arith) in let c = index_at nodes d i l in let x = ap (λ y. index_of y nodes) (s ∙ sym e) in omega (arith, a, c, x, q))
        ∙ h j q

pub numbers_all : (nodes u : List ℕ) (i : ℕ) → length nodes ≤ i → NumbersTo nodes i u → Numbers nodes u
numbers_all nodes u i l h k p =
    let q = has_index nodes k p in
    ap (λ x. get_or u x 0) (sym (index_found nodes k q)) ∙ h (index_of k nodes) (omega (arith, q))
