-- Laws of instances of recorded types.
use Prim.Native.Nat.{ℕ, zero, suc}
use mathlib.Core.Option.{Option, some, none}
use mathlib.Core.Path.{◌≡◌, refl, ap, ap₂, ◌∙◌}
use Rattle.types_rules.specs.Former.{Former, int, given, parameter, power, product, binding}
use Rattle.types_rules.specs.Types.{Ty, Tys, node, tnil, tcons, Term, Terms, nil, cons, under, unders}
use Rattle.types_rules.specs.Instance.{nth, actual, instance_former, instance, instances}

nth_same : (σ τ : ℕ → Ty) (r : Terms) (i : ℕ) (ts : Terms) → unders σ r ≡ unders τ r → unders σ ts ≡ unders τ ts → under σ (actual (nth r i) i ts) ≡ under τ (actual (nth r i) i ts)
unfolding nth actual under
nth_same σ τ nil i ts e f = ap (node (parameter i)) f
nth_same σ τ (cons t r) zero ts e f = ap (node (parameter zero)) f
nth_same σ τ (cons t r) (suc zero) ts e f = cc
nth_same σ τ (cons t r) (suc (suc i)) ts e f = go (nth r (suc i)) (nth_same σ τ r (suc i) nil (let q : unders σ r ≡ unders τ r = cc in q) refl)
  where
    go : (o : Option Term) → under σ (actual o (suc i) nil) ≡ under τ (actual o (suc i) nil) → under σ (actual o (suc (suc i)) ts) ≡ under τ (actual o (suc (suc i)) ts)
    go (some t) h = h
    go none h = ap (node (parameter (suc (suc i)))) f

former_same : (σ τ : ℕ → Ty) (h : Former) (r ts : Terms) → unders σ r ≡ unders τ r → unders σ ts ≡ unders τ ts → under σ (instance_former h r ts) ≡ under τ (instance_former h r ts)
unfolding instance_former under
former_same σ τ int r ts e f = ap (node int) f
former_same σ τ (given g) r ts e f = ap (node (given g)) f
former_same σ τ (parameter i) r ts e f = nth_same σ τ r i ts e f
former_same σ τ power r ts e f = ap (node power) f
former_same σ τ product r ts e f = ap (node product) f
former_same σ τ (binding l) r ts e f = ap (node (binding l)) f

mutual
  unfolding instance under

  -- Two valuations that agree on the row agree on the type.
  pub instance_same : (σ τ : ℕ → Ty) (r : Terms) (g : Ty) → unders σ r ≡ unders τ r → under σ (instance r g) ≡ under τ (instance r g)
  instance_same σ τ r (node h from_list) e = former_same σ τ h r (instances r from_list) e (instances_same σ τ r from_list e)

  pub instances_same : (σ τ : ℕ → Ty) (r : Terms) (from_list : Tys) → unders σ r ≡ unders τ r → unders σ (instances r from_list) ≡ unders τ (instances r from_list)
  instances_same σ τ r tnil e = refl
  instances_same σ τ r (tcons g from_list) e = ap₂ tcons (instance_same σ τ r g e) (instances_same σ τ r from_list e)

former_nil : (τ : ℕ → Ty) (h : Former) (ts : Terms) → under τ (instance_former h nil ts) ≡ node h (unders τ ts)
unfolding instance_former under nth actual
former_nil τ int ts = refl
former_nil τ (given g) ts = refl
former_nil τ (parameter i) ts = refl
former_nil τ power ts = refl
former_nil τ product ts = refl
former_nil τ (binding l) ts = refl

mutual
  unfolding instance under

  pub instance_none : (τ : ℕ → Ty) (g : Ty) → under τ (instance nil g) ≡ g
  instance_none τ (node h from_list) = former_nil τ h (instances nil from_list) ∙ ap (node h) (instances_none τ from_list)

  pub instances_none : (τ : ℕ → Ty) (from_list : Tys) → unders τ (instances nil from_list) ≡ from_list
  instances_none τ tnil = refl
  instances_none τ (tcons g from_list) = ap₂ tcons (instance_none τ g) (instances_none τ from_list)
