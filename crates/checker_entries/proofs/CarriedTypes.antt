-- The types of a table that stands for a signature, and the entries that they make.
use mathlib.Core.Path.{◌≡◌, refl, ap, ap₂, ◌∙◌}
use mathlib.Core.List.{List, [], ◌∷◌}
use Prim.Native.Nat.{ℕ, suc}
use lib.ListN.{length}
use Rattle.types_rules.specs.Former.{binding}
use Rattle.types_rules.specs.Types.{Ty, Tys, node, tnil, tcons, under, unders}
use Rattle.checker_rules.specs.Dictionary.{Dictionary, ◌▸◌, Entry, name_entry}
use Rattle.checker_rules.specs.Entries.{add_signature}
use Rattle.checker_rules.specs.Items.{Items, Meets}
use Rattle.checker_rules.specs.Signatures.{Signature, no_names, naming, terms_of, binding_of}
use Rattle.checker_rules.specs.Unknowns.{Valuation}
use Rattle.types_cells.specs.Settled.{heap}
use Rattle.checker_signatures.specs.Rows.{identifiers_of}
use Rattle.checker_signatures.specs.Carried.{Carries}
use Rattle.checker_signatures.proofs.CarryLaws.{carries_names}
use Rattle.checker_dictionary.specs.Waiting.{with_entries}
use Rattle.checker_includes.specs.Components.{Placed}
use Rattle.checker_entries.specs.Entries.{TypesAt, AllSmall, name_entries}

pub record TypesOf (s d : List ℕ) (H : Items) (r : Signature) (rs : List (ℕ × ℕ)) : Type 0 where
  pub types : Tys
  pub stand : TypesAt (heap s d) rs types
  pub small : AllSmall types
  pub count : length (name_entries rs types) ≡ length rs
  pub means : (τ : Valuation) → Meets H τ → unders τ (terms_of r) ≡ types
  pub adds : (τ : Valuation) → Meets H τ → (D : Dictionary) → add_signature r τ D ≡ with_entries (name_entries rs types) D

pub types_of : (s d : List ℕ) (H : Items) (U : List ℕ) (r : Signature) (rs : List (ℕ × ℕ)) → Carries (Placed s d H U) r rs → TypesOf s d H r rs
unfolding Carries TypesAt AllSmall name_entries terms_of unders add_signature with_entries
types_of s d H U no_names [] C = record { types = tnil; stand = tt; small = tt; count = refl; means = λ τ m. refl; adds = λ τ m D. refl }
types_of s d H U no_names (x ∷ rs) C = absurd C
types_of s d H U (naming i t r) [] C = absurd C
types_of s d H U (naming i t r) (x ∷ rs) C =
    let T = types_of s d H U r rs C.2 in
    let P = C.1 in
    record {
      types = tcons P.typed.type T.types;
      stand = (P.typed.reads, T.stand);
      small = (P.small, T.small);
      count = ap suc T.count;
      means = λ τ m. ap₂ tcons (P.typed.settled τ m) (T.means τ m);
      adds = λ τ m D.
          ap (λ (z : Entry). add_signature r τ (D ▸ z)) (ap₂ (λ (j : ℕ) (g : Ty). name_entry j 0 g) C.0 (P.typed.settled τ m))
          ∙ T.adds τ m (D ▸ name_entry x.0 0 P.typed.type);
    }

-- The binding of the signature.
pub binding_of_lem : (s d : List ℕ) (H : Items) (U : List ℕ) (r : Signature) (rs : List (ℕ × ℕ)) → Carries (Placed s d H U) r rs → (T : TypesOf s d H r rs) →
    (τ : Valuation) → Meets H τ → under τ (binding_of r) ≡ node (binding (identifiers_of rs)) T.types
unfolding binding_of under
binding_of_lem s d H U r rs C T τ m = ap₂ (λ (l : List ℕ) (gs : Tys). node (binding l) gs) (carries_names (Placed s d H U) r rs C) (T.means τ m)
