-- Types with types for their parameters: instances under an assignment, and well-formed types.
use Prim.Native.Nat.{ℕ, zero, suc}
use mathlib.Core.Path.{◌≡◌, refl, ap, ap₂, sym, subst, ◌∙◌}
use Rattle.types_rules.specs.Former.{Former, int, given, parameter, power, product, binding, tag}
use Rattle.types_rules.specs.Types.{Ty, Tys, node, tnil, tcons, Terms, nil, cons, under, unders}
use Rattle.types_rules.specs.Formed.{FormedType, FormedTypes, part_count_type}
use Rattle.types_rules.specs.Instance.{nth, actual, instance_former, instance, instances}
use Rattle.types_instances.specs.Fill.{nth_type, actual_type, fill_former, fill, fills}

nth_under : (τ : ℕ → Ty) (ts : Terms) (i k : ℕ) (us : Terms) → under τ (actual (nth ts i) k us) ≡ actual_type (nth_type (unders τ ts) i) k (unders τ us)
unfolding nth actual nth_type actual_type under
nth_under τ nil i k us = refl
nth_under τ (cons t ts) zero k us = refl
nth_under τ (cons t ts) (suc zero) k us = refl
nth_under τ (cons t ts) (suc (suc i)) k us = nth_under τ ts (suc i) k us

former_under : (τ : ℕ → Ty) (h : Former) (ts us : Terms) → under τ (instance_former h ts us) ≡ fill_former h (unders τ ts) (unders τ us)
unfolding instance_former fill_former under
former_under τ int ts us = refl
former_under τ (given g) ts us = refl
former_under τ (parameter i) ts us = nth_under τ ts i i us
former_under τ power ts us = refl
former_under τ product ts us = refl
former_under τ (binding l) ts us = refl

mutual
  unfolding instance fill under

  -- AN INSTANCE, under an assignment, is the type with the assigned actuals for its parameters.
  pub fill_under : (τ : ℕ → Ty) (ts : Terms) (g : Ty) → under τ (instance ts g) ≡ fill (unders τ ts) g
  fill_under τ ts (node h gs) = former_under τ h ts (instances ts gs) ∙ ap (fill_former h (unders τ ts)) (fills_under τ ts gs)

  pub fills_under : (τ : ℕ → Ty) (ts : Terms) (gs : Tys) → unders τ (instances ts gs) ≡ fills (unders τ ts) gs
  fills_under τ ts tnil = refl
  fills_under τ ts (tcons g gs) = ap₂ tcons (fill_under τ ts g) (fills_under τ ts gs)

pub fills_count : (hs gs : Tys) → part_count_type (fills hs gs) ≡ part_count_type gs
unfolding fill
fills_count hs tnil = refl
fills_count hs (tcons g gs) = ap suc (fills_count hs gs)

pub fill_node : (hs : Tys) (h : Former) (gs : Tys) → (tag h ≡ 6 → ⊥) → fill hs (node h gs) ≡ node h (fills hs gs)
unfolding fill fill_former tag
fill_node hs int gs d = refl
fill_node hs (given g) gs d = refl
fill_node hs (parameter i) gs d = absurd (d refl)
fill_node hs power gs d = refl
fill_node hs product gs d = refl
fill_node hs (binding l) gs d = refl

-- With no actuals a type stays.
former_none : (h : Former) (gs : Tys) → fill_former h tnil gs ≡ node h gs
unfolding fill_former nth_type actual_type
former_none int gs = refl
former_none (given g) gs = refl
former_none (parameter i) gs = refl
former_none power gs = refl
former_none product gs = refl
former_none (binding l) gs = refl

mutual
  unfolding fill

  pub fill_none : (g : Ty) → fill tnil g ≡ g
  fill_none (node h gs) = former_none h (fills tnil gs) ∙ ap (node h) (fills_none gs)

  fills_none : (gs : Tys) → fills tnil gs ≡ gs
  fills_none tnil = refl
  fills_none (tcons g gs) = ap₂ tcons (fill_none g) (fills_none gs)

-- Well-formed types stay well-formed.
module _ (R : Former → ℕ → Type 0) where
  nth_formed : (hs : Tys) (i k : ℕ) (gs : Tys) → FormedTypes R hs → FormedType R (node (parameter k) gs) → FormedType R (actual_type (nth_type hs i) k gs)
  unfolding nth_type actual_type FormedType
  nth_formed tnil i k gs w v = v
  nth_formed (tcons h hs) zero k gs w v = v
  nth_formed (tcons h hs) (suc zero) k gs w v = w.0
  nth_formed (tcons h hs) (suc (suc i)) k gs w v = nth_formed hs (suc i) k gs w.1 v

  former_formed : (hs : Tys) (h : Former) (gs : Tys) → FormedTypes R hs → FormedType R (node h gs) → FormedType R (fill_former h hs gs)
  unfolding fill_former
  former_formed hs int gs w v = v
  former_formed hs (given g) gs w v = v
  former_formed hs (parameter i) gs w v = nth_formed hs i i gs w v
  former_formed hs power gs w v = v
  former_formed hs product gs w v = v
  former_formed hs (binding l) gs w v = v

  mutual
    unfolding fill FormedType

    pub fill_formed : (hs : Tys) (g : Ty) → FormedTypes R hs → FormedType R g → FormedType R (fill hs g)
    fill_formed hs (node h gs) w v = former_formed hs h (fills hs gs) w (subst (R h) (sym (fills_count hs gs)) v.0, fills_formed hs gs w v.1)

    pub fills_formed : (hs gs : Tys) → FormedTypes R hs → FormedTypes R gs → FormedTypes R (fills hs gs)
    fills_formed hs tnil w v = tt
    fills_formed hs (tcons g gs) w v = (fill_formed hs g w v.0, fills_formed hs gs w v.1)
