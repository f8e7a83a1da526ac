-- A rule's finding holds whatever is told beside it; and what is told of number 0.
use mathlib.Core.Path.{◌≡◌, subst}
use mathlib.Core.List.{List}
use Prim.Native.Nat.{ℕ}
use Rattle.std.specs.Prelude.{Err}
use Rattle.reader_rules.specs.Tree.{Exprs}
use Rattle.types_rules.specs.Types.{Term}
use Rattle.checker_rules.specs.Items.{Items}
use Rattle.checker_pieces.specs.Answering.{Rules}
use Rattle.checker_pieces.proofs.Stages.{rule_stops}
use Rattle.checker_kinds.specs.Equations.{Combined, Related}
use Rattle.checker_kinds.specs.Formers.{DerivedList, Derived}

module _ {s s' d : List ℕ} {n top number cell n' top' used : ℕ} where
  pub derived_refused : {x : ℕ} {own : ℕ → Term → Items} → (number ≡ 0 → ⊥) → Derived s s' d n top x number cell n' top' used own →
      Rules n (λ f g. Derived s s' d n top x f g.cell g.cells g.top used own) (Err number)
  derived_refused {x} {own} ne D = record {
    is = (
      ne,
      λ g l. record {
        low = D.low;
        wide = l;
        uses = λ z. absurd (ne z);
        ruled = λ G S k U a A. rule_stops s s' d n top k number g.cell g.cells g.top G (own k a) ne ((D.ruled G S k U a A).stops ne);
      },
    );
  }

  pub list_refused : {ps : List ℕ} {own : ℕ → Exprs → Items} → (number ≡ 0 → ⊥) → DerivedList s s' d n top ps number cell n' top' used own →
      Rules n (λ f g. DerivedList s s' d n top ps f g.cell g.cells g.top used own) (Err number)
  list_refused {ps} {own} ne D = record {
    is = (
      ne,
      λ g l. record {
        low = D.low;
        wide = l;
        uses = λ z. absurd (ne z);
        ruled = λ G S k U xs A. rule_stops s s' d n top k number g.cell g.cells g.top G (own k xs) ne ((D.ruled G S k U xs A).stops ne);
      },
    );
  }

  pub combined_refused : {x y : ℕ} {own : ℕ → Term → Term → Items} → (number ≡ 0 → ⊥) → Combined s s' d n top x y number cell n' top' used own →
      Rules n (λ f g. Combined s s' d n top x y f g.cell g.cells g.top used own) (Err number)
  combined_refused {x} {y} {own} ne D = record {
    is = (
      ne,
      λ g l. record {
        low = D.low;
        wide = l;
        uses = λ z. absurd (ne z);
        ruled = λ G S k U a b A B. rule_stops s s' d n top k number g.cell g.cells g.top G (own k a b) ne ((D.ruled G S k U a b A B).stops ne);
      },
    );
  }

  pub combined_fine : {x y : ℕ} {own : ℕ → Term → Term → Items} → number ≡ 0 → Combined s s' d n top x y number cell n' top' used own → Combined s s' d n top x y 0 cell n' top' used own
  combined_fine {x} {y} {own} z = subst (λ f. Combined s s' d n top x y f cell n' top' used own) z

module _ {s s' d : List ℕ} {n top x y number n' : ℕ} {own : ℕ → Term → Term → Items} where
  pub related_refused : (number ≡ 0 → ⊥) → Related s s' d n top x y number n' own → (number ≡ 0 → ⊥) × ((m : ℕ) → Related s s' d n top x y number m own)
  related_refused ne R = (ne, λ m. record { low = R.low; goes = λ z. absurd (ne z); stops = R.stops })

  pub related_fine : number ≡ 0 → Related s s' d n top x y number n' own → Related s s' d n top x y 0 n' own
  related_fine z = subst (λ f. Related s s' d n top x y f n' own) z
