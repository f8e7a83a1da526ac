-- Instances of a type over two rows of unknowns that have the same types: cells in the store, unknowns of a node.
use mathlib.Core.Path.{◌≡◌, refl, sym, ap, ap₂, subst, ◌∙◌}
use mathlib.Core.Option.{Option, some, none}
use Prim.Native.Nat.{ℕ, zero, suc, ◌+◌, ◌<◌}
use native.Mathlib.Omega.{arith}
use Rattle.types_rules.specs.Former.{Former, int, given, parameter, power, product, binding}
use Rattle.types_rules.specs.Instance.{nth, actual, instance_former, instance, instances}
use Rattle.types_rules.specs.Types.{Ty, Tys, node, tnil, tcons, Term, Terms, nil, cons, under, unders, Each, Eachs}
use Rattle.checker_rules.specs.Unknowns.{slot, row}
use Rattle.types_solver.specs.Growth.{unknowns}

module _ (σ τ : ℕ → Ty) where
  unfoldable Related : Option Term → Option Term → Type 0
  Related (some a) (some b) = under σ a ≡ under τ b
  Related (some a) none = ⊥
  Related none (some b) = ⊥
  Related none none = Unit {0}

  first_one : (g h : Ty) (gs hs : Tys) → tcons g gs ≡ tcons h hs → g ≡ h
  first_one g h gs hs e = cc

  others : (g h : Ty) (gs hs : Tys) → tcons g gs ≡ tcons h hs → gs ≡ hs
  others g h gs hs e = cc

  none_some : (g : Ty) (gs : Tys) → ◌≡◌ {A = Tys} tnil (tcons g gs) → ⊥
  none_some g gs e = let z : ◌≡◌ {A = ℕ} 0 1 = cc in omega arith

  nth_related : (r q : Terms) (i : ℕ) → unders σ r ≡ unders τ q → Related (nth r i) (nth q i)
  unfolding nth Related under
  nth_related nil nil i e = tt
  nth_related nil (cons u q) i e = absurd (none_some _ _ e)
  nth_related (cons t r) nil i e = absurd (none_some _ _ (sym e))
  nth_related (cons t r) (cons u q) zero e = tt
  nth_related (cons t r) (cons u q) (suc zero) e = first_one _ _ _ _ e
  nth_related (cons t r) (cons u q) (suc (suc i)) e = nth_related r q (suc i) (others _ _ _ _ e)

  actual_related : (o p : Option Term) (i : ℕ) (ts us : Terms) → Related o p → unders σ ts ≡ unders τ us → under σ (actual o i ts) ≡ under τ (actual p i us)
  unfolding Related actual under
  actual_related (some a) (some b) i ts us h e = h
  actual_related (some a) none i ts us h e = absurd h
  actual_related none (some b) i ts us h e = absurd h
  actual_related none none i ts us h e = ap (node (parameter i)) e

  former_rows : (h : Former) (r q ts us : Terms) → unders σ r ≡ unders τ q → unders σ ts ≡ unders τ us → under σ (instance_former h r ts) ≡ under τ (instance_former h q us)
  unfolding instance_former under
  former_rows int r q ts us e f = ap (node int) f
  former_rows (given g) r q ts us e f = ap (node (given g)) f
  former_rows (parameter i) r q ts us e f = actual_related (nth r i) (nth q i) i ts us (nth_related r q i e) f
  former_rows power r q ts us e f = ap (node power) f
  former_rows product r q ts us e f = ap (node product) f
  former_rows (binding l) r q ts us e f = ap (node (binding l)) f

  mutual
    unfolding instance under

    pub instance_rows : (r q : Terms) → unders σ r ≡ unders τ q → (g : Ty) → under σ (instance r g) ≡ under τ (instance q g)
    instance_rows r q e (node h gs) = former_rows h r q (instances r gs) (instances q gs) e (instances_rows r q e gs)

    instances_rows : (r q : Terms) → unders σ r ≡ unders τ q → (gs : Tys) → unders σ (instances r gs) ≡ unders τ (instances q gs)
    instances_rows r q e tnil = refl
    instances_rows r q e (tcons g gs) = ap₂ tcons (instance_rows r q e g) (instances_rows r q e gs)

  -- the two rows
  pub rows_same : (first k j p : ℕ) → ((i : ℕ) → i < p → σ (first + i) ≡ τ (slot k (j + i))) → unders σ (unknowns first p) ≡ unders τ (row k j p)
  unfolding unknowns row under
  rows_same first k j zero h = refl
  rows_same first k j (suc p) h =
      let a : first ≡ first + 0 = omega arith in
      let b : j + 0 ≡ j = omega arith in
      ap₂ tcons (ap σ a ∙ h 0 (omega arith) ∙ ap (λ (x : ℕ). τ (slot k x)) b)
      (rows_same (suc first) k (suc j) p
      (λ i l. let x : suc first + i ≡ first + suc i = omega arith in let y : j + suc i ≡ suc j + i = omega arith in ap σ x ∙ h (suc i) (omega arith) ∙ ap (λ (z : ℕ). τ (slot k z)) y))

-- An instance mentions what its row mentions.
module _ (P : ℕ → Type 0) where
  actual_each : (r : Terms) (i m : ℕ) (ts : Terms) → Eachs P r → Eachs P ts → Each P (actual (nth r i) m ts)
  unfolding nth actual Each
  actual_each nil i m ts h k = k
  actual_each (cons t r) zero m ts h k = k
  actual_each (cons t r) (suc zero) m ts h k = h.0
  actual_each (cons t r) (suc (suc i)) m ts h k = actual_each r (suc i) m ts h.1 k

  former_each : (h : Former) (r ts : Terms) → Eachs P r → Eachs P ts → Each P (instance_former h r ts)
  unfolding instance_former Each
  former_each int r ts a b = b
  former_each (given g) r ts a b = b
  former_each (parameter i) r ts a b = actual_each r i i ts a b
  former_each power r ts a b = b
  former_each product r ts a b = b
  former_each (binding l) r ts a b = b

  mutual
    unfolding instance Each

    pub instance_each : (r : Terms) (g : Ty) → Eachs P r → Each P (instance r g)
    instance_each r (node h gs) a = former_each h r (instances r gs) a (instances_each r gs a)

    pub instances_each : (r : Terms) (gs : Tys) → Eachs P r → Eachs P (instances r gs)
    instances_each r tnil a = tt
    instances_each r (tcons g gs) a = (instance_each r g a, instances_each r gs a)

  pub row_each : (k j p : ℕ) → ((i : ℕ) → i < p → P (slot k (j + i))) → Eachs P (row k j p)
  unfolding row Each
  row_each k j zero h = tt
  row_each k j (suc p) h =
      let b : j + 0 ≡ j = omega arith in
      (subst (λ (x : ℕ). P (slot k x)) b (h 0 (omega arith)), row_each k (suc j) p (λ i l. let y : j + suc i ≡ suc j + i = omega arith in subst (λ (x : ℕ). P (slot k x)) y (h (suc i) (omega arith))))
