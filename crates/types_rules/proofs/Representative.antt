-- What stands for a term follows to be equal to it; equations that give a term no component have a solution where it has none.
use Prim.Native.Nat.{ℕ}
use lib.ListN.{length}
use mathlib.Core.Option.{none}
use mathlib.Core.Path.{◌∙◌, ◌≡◌, ap, refl, sym}
use Rattle.types_rules.proofs.Classify.{Links, build, by_open, by_solves, from_list_inj, links, run, solution_by, same_term_eq, same_term_ne, under_fits, us}
use Rattle.types_rules.proofs.Closed.{idem}
use Rattle.types_rules.proofs.Component.{component_former}
use Rattle.types_rules.proofs.Follows.{merged_closed, merged_follows, rep_follows}
use Rattle.types_rules.proofs.Solutions.{node_1}
use Rattle.types_rules.proofs.Transfer.{follows_holds}
use Rattle.types_rules.specs.Classes.{rep}
use Rattle.types_rules.specs.Classify.{Out, Solvable, apart, merged, same_term, spent, view_term}
use Rattle.types_rules.specs.Component.{component, component_type, pick_type}
use Rattle.types_rules.specs.Equations.{Pairs, Solves}
use Rattle.types_rules.specs.Follows.{Follows, reflexive}
use Rattle.types_rules.specs.Former.{identifiers}
use Rattle.types_rules.specs.Representative.{representative, stands_for}
use Rattle.types_rules.specs.Types.{Term, Ty, con, under, unknown, integer_type}

-- What follows from equations holds in each of their solutions.
pub follows_under : (P : Pairs Term) (σ : ℕ → Ty) → Solves (under σ) P → (a b : Term) → Follows view_term P a b → under σ a ≡ under σ b
follows_under P σ s a b f = follows_holds build (λ h k x y q. from_list_inj x y (node_1 _ _ _ _ q)) view_term P (under σ) (under_fits σ) s a b f

pub stands_follows : (P : Pairs Term) (a : Term) → Follows view_term P a (representative P a)
unfolding representative stands_for
stands_follows P a = go (run P) refl
  where
    go : (o : Out Term) → run P ≡ o → Follows view_term P a (stands_for o a)
    go (merged L) e = rep_follows Term same_term same_term_eq same_term_ne view_term P L (merged_follows Term same_term same_term_eq same_term_ne view_term P (length (us P)) L e) a
    go apart e = reflexive
    go spent e = reflexive

-- Without the component in what stands for a, some solution gives a no such component: that with ℤ at every unknown that stands for itself.
module _ (P : Pairs Term) (i : ℕ) (a : Term) (s : Solvable P) (e : component i (representative P a) ≡ none) where
  abbrev K : Links P
  K = links P s

  abbrev σ : ℕ → Ty
  σ = solution_by P K (λ t. integer_type)

  none_in : representative P a ≡ rep same_term K.L a → (t : Term) → representative P a ≡ t → component_type i (under σ t) ≡ none
  unfolding component_type pick_type identifiers under
  none_in q (con h ts) r = component_former σ i h ts (ap (component i) (sym r) ∙ e)
  none_in q (unknown y) r =
      let C = merged_closed Term same_term same_term_eq same_term_ne view_term P (length (us P)) K.L K.is in
      let x : rep same_term K.L a ≡ unknown y = sym q ∙ r in
      let none_of : component_type i integer_type ≡ none = refl in
      ap (component_type i) (by_open P K (λ t. integer_type) y (ap (rep same_term K.L) (sym x) ∙ idem Term same_term same_term_eq same_term_ne K.L C.wf a ∙ x)) ∙ none_of

  pub stands_none : (σ : ℕ → Ty) × Solves (under σ) P × (component_type i (under σ a) ≡ none)
  stands_none =
      let q : representative P a ≡ rep same_term K.L a = unfold representative stands_for in ap (λ o. stands_for o a) K.is in
      let h = by_solves P K (λ t. integer_type) in
      (σ, h, ap (component_type i) (follows_under P σ h a (representative P a) (stands_follows P a)) ∙ none_in q (representative P a) refl)
