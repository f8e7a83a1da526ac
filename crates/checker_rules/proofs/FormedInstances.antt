-- Well-formed types: instances of recorded types, and components.
use mathlib.Core.Path.{◌≡◌, refl, ap, sym, subst}
use mathlib.Core.Bool.{Bool, true, false}
use mathlib.Core.List.{List, [], ◌∷◌}
use mathlib.Core.Option.{Option, some, none as nothing}
use Prim.Native.Nat.{ℕ, zero, suc}
use lib.Dec.{eqb}
use Rattle.types_rules.specs.Former.{Former, int, given, parameter, power, product, binding, identifiers}
use Rattle.types_rules.specs.Types.{Ty, node, Tys, tnil, tcons, Term, unknown, con, Terms, nil, cons}
use Rattle.types_rules.specs.Component.{pick, component}
use Rattle.types_rules.specs.Instance.{nth, actual, instance_former, instance, instances}
use Rattle.types_rules.specs.Formed.{part_count, part_count_type, Formed, Formeds, FormedType, FormedTypes, Arity, WellFormed}
use Rattle.checker_rules.specs.Unknowns.{row}
use Rattle.checker_rules.proofs.SignatureTerms.{HavingOption}

abbrev pub FormedOption : Option Term → Type 0
FormedOption o = HavingOption (Formed Arity) o

-- Instantiation.
pub nth_formed : (r : Terms) (i : ℕ) → Formeds Arity r → FormedOption (nth r i)
unfolding nth Formed
nth_formed nil i h = tt
nth_formed (cons t ts) zero h = tt
nth_formed (cons t ts) (suc zero) h = h.0
nth_formed (cons t ts) (suc (suc i)) h = nth_formed ts (suc i) h.1

pub actual_formed : (o : Option Term) (i : ℕ) (ts : Terms) → FormedOption o → part_count ts ≡ 0 → Formeds Arity ts → Formed Arity (actual o i ts)
unfolding actual Formed Arity
actual_formed (some t) i ts h e f = h
actual_formed nothing i ts h e f = (e, f)

pub former_formed : (h : Former) (r ts : Terms) → Formeds Arity r → Arity h (part_count ts) → Formeds Arity ts → Formed Arity (instance_former h r ts)
unfolding instance_former Formed Arity
former_formed int r ts hr a f = (a, f)
former_formed (given g) r ts hr a f = (a, f)
former_formed (parameter i) r ts hr a f = actual_formed (nth r i) i ts (nth_formed r i hr) a f
former_formed power r ts hr a f = (a, f)
former_formed product r ts hr a f = (a, f)
former_formed (binding l) r ts hr a f = (a, f)

pub instances_count : (r : Terms) (gs : Tys) → part_count (instances r gs) ≡ part_count_type gs
unfolding instances
instances_count r tnil = refl
instances_count r (tcons g gs) = ap suc (instances_count r gs)

mutual
  unfolding instance Formed FormedType

  pub instance_formed : (r : Terms) (g : Ty) → Formeds Arity r → WellFormed g → Formed Arity (instance r g)
  instance_formed r (node h gs) hr f = former_formed h r (instances r gs) hr (subst (Arity h) (sym (instances_count r gs)) f.0) (instances_formed r gs hr f.1)

  pub instances_formed : (r : Terms) (gs : Tys) → Formeds Arity r → FormedTypes Arity gs → Formeds Arity (instances r gs)
  instances_formed r tnil hr f = tt
  instances_formed r (tcons g gs) hr f = (instance_formed r g hr f.0, instances_formed r gs hr f.1)

pub row_formed : (n k p : ℕ) → Formeds Arity (row n k p)
unfolding row Formed
row_formed n k zero = tt
row_formed n k (suc p) = (tt, row_formed n (suc k) p)

pub nil_formed : Formeds Arity nil
unfolding Formed
nil_formed = tt

pub pick_formed : (c : ℕ) (is : List ℕ) (ts : Terms) → Formeds Arity ts → FormedOption (pick c is ts)
unfolding pick Formed
pick_formed c [] ts h = tt
pick_formed c (i ∷ is) nil h = tt
pick_formed c (i ∷ is) (cons t ts) h = go (eqb i c) (pick_formed c is ts h.1)
  where
    go : (b : Bool) → FormedOption (pick c is ts) → FormedOption (elim b as (λ x. Option Term) [ true ↦ some t | false ↦ pick c is ts ])
    go true k = h.0
    go false k = k

pub component_formed : (c : ℕ) (t : Term) → Formed Arity t → FormedOption (component c t)
unfolding component Formed
component_formed c (unknown x) h = tt
component_formed c (con k ts) h = pick_formed c (identifiers k) ts h.1
