-- An Include's schema and the names that it brings, by the words of its node.
use mathlib.Core.Path.{◌≡◌, refl, sym, subst}
use mathlib.Core.List.{List}
use Prim.Native.Nat.{ℕ, ◌+◌, ◌-◌, ◌≤◌, ◌<◌, ◌^◌}
use native.Mathlib.Omega.{arith}
use lib.ListN.{get_or}
use Rattle.reader_rules.specs.Decode.{include_at, exprs_from}
use Rattle.reader_rules.specs.Kinds.{includes, expressions}
use Rattle.reader_rules.specs.Promise.{Lower}
use Rattle.reader_rules.specs.Tree.{Include}
use Rattle.checker_contracts.specs.Includes.{IncludeAsk, IncludeDone, ActualsAsk, ActualsDone}
use Rattle.checker_contracts.proofs.IncludeNodes.{node_include_few, node_include_stroke, node_include_first, node_include_lower, node_include_absent, node_include_count, node_include_actuals}
use Rattle.checker_contracts.proofs.IncludeNodes.{node_include_refused, node_include_components, node_include_bring, node_include_wrong, node_include_done}
use Rattle.checker_closing.specs.Nodes.{Node, LinedAt}
use Rattle.checker_closing.specs.Schemas.{SchemaThere, SchemaLooked, absent, miscounted, there, wrong, right, NamedAsk, NamedTold, refused, components}
use Rattle.checker_closing.specs.declared.results.Lined.{Lined}

-- The promise in the words of the result.
include_told : {s s' d w w' places places' : List ℕ} {stack at free number place count end' : ℕ} {i : Include} {r : Lined} → LinedAt r number place count end' →
    IncludeDone s s' d w w' stack at free i places places' number place count end' → IncludeDone s s' d w w' stack at free i places places' r.number r.place r.count r.at
include_told {s} {s'} {d} {w} {w'} {places} {places'} {stack} {at} {free} {number} {place} {count} {end'} {i} {r} L T =
    subst (λ z. IncludeDone s s' d w w' stack at free i places places' z r.place r.count r.at) (sym L.number_is)
    (subst (λ z. IncludeDone s s' d w w' stack at free i places places' number z r.count r.at) (sym L.place_is)
    (subst (λ z. IncludeDone s s' d w w' stack at free i places places' number place z r.at) (sym L.count_is)
    (subst (λ z. IncludeDone s s' d w w' stack at free i places places' number place count z) (sym L.at_is) T)))

-- The schema that was looked up without a finding.
pub schema_found : {d w : List ℕ} {name q number at : ℕ} → SchemaLooked d w name q number at → number ≡ 0 → SchemaThere d w name q at
schema_found (absent e F) z = absurd (omega arith)
schema_found (miscounted e x F some differs) z = absurd (omega arith)
schema_found (there e T) z = T

module _ {doc p s d w places : List ℕ} {stack at free k : ℕ} (N : Node doc p includes k) (K : IncludeAsk s d w stack at free (include_at doc k) places) where
  -- 31 and 32
  pub node_schema_refused : {number schema : ℕ} → SchemaLooked d w (get_or p 1 0) (get_or p 3 0) number schema → (number ≡ 0 → ⊥) → {r : Lined} → LinedAt r number k 0 0 →
      IncludeDone s s d w w stack at free (include_at doc k) places places r.number r.place r.count r.at
  node_schema_refused (absent e F) ne L =
      include_told L (subst (λ z. IncludeDone s s d w w stack at free (include_at doc k) places places z k 0 0) (sym e)
      (node_include_absent N.at N.words K (get_or p 3 0) (get_or p 1 0) (get_or p 2 0) refl refl refl F refl))
  node_schema_refused (miscounted e x F some differs) ne L =
      include_told L (subst (λ z. IncludeDone s s d w w stack at free (include_at doc k) places places z k 0 0) (sym e)
      (node_include_count N.at N.words K (get_or p 3 0) (get_or p 1 0) (get_or p 2 0) refl refl refl F some refl differs))
  node_schema_refused (there e T) ne L = absurd (ne e)

  module _ {schema : ℕ} (T : SchemaThere d w (get_or p 1 0) (get_or p 3 0) schema) {q : ℕ} (eq : q ≡ get_or p 3 0) where
    pub node_schema_actuals : (q ≤ 4) × ((i : ℕ) → 4 ≤ i → i < q + 4 → Lower doc k expressions (get_or p i 0)) × ActualsAsk s d w stack at free k 0 (exprs_from doc k (0 + 4) (q - 0)) places
    node_schema_actuals =
        subst (λ z. (z ≤ 4) × ((i : ℕ) → 4 ≤ i → i < z + 4 → Lower doc k expressions (get_or p i 0)) × ActualsAsk s d w stack at free k 0 (exprs_from doc k (0 + 4) (z - 0)) places) (sym eq) (
          node_include_few N.at N.words K (get_or p 3 0) (get_or p 1 0) (get_or p 2 0) refl refl refl,
          node_include_lower N.at N.words K (get_or p 3 0) (get_or p 1 0) (get_or p 2 0) refl refl refl,
          all_from (node_include_actuals N.at N.words K (get_or p 3 0) (get_or p 1 0) (get_or p 2 0) refl refl refl T.newest T.some refl T.count),
        )
      where
        all_from : ActualsAsk s d w stack at free k 0 (exprs_from doc k 4 (get_or p 3 0)) places → ActualsAsk s d w stack at free k 0 (exprs_from doc k (0 + 4) (get_or p 3 0 - 0)) places
        all_from A = let e : get_or p 3 0 ≡ get_or p 3 0 - 0 = omega arith in subst (λ z. ActualsAsk s d w stack at free k 0 (exprs_from doc k 4 z) places) e A

    module _ {s₁ w₁ places₁ : List ℕ} {number place at₁ : ℕ} (P : ActualsDone s s₁ d w w₁ stack at free k 0 (exprs_from doc k (0 + 4) (q - 0)) places places₁ number place at₁) where
      all : ActualsDone s s₁ d w w₁ stack at free k 0 (exprs_from doc k 4 (get_or p 3 0)) places places₁ number place at₁
      all = let e : q - 0 ≡ get_or p 3 0 = omega (arith, eq) in subst (λ z. ActualsDone s s₁ d w w₁ stack at free k 0 (exprs_from doc k 4 z) places places₁ number place at₁) e P

      abbrev Done : List ℕ → ℕ → ℕ → ℕ → ℕ → Type 0
      Done w' f x m e = IncludeDone s s₁ d w w' stack at free (include_at doc k) places places₁ f x m e

      pub node_schema_named : (k < 2 ^ 32) × (schema < 2 ^ 33) × NamedAsk s₁ d w₁ free p schema number
      node_schema_named =
          let z = N.at.small in
          let y = K.walking.room.frames in (
            omega arith,
            T.near,
            record {
              near = omega arith;
              components = λ fine.
                  node_include_components N.at N.words K (get_or p 3 0) (get_or p 1 0) (get_or p 2 0) refl refl refl T.newest T.some refl T.count all fine T.at_is;
              rename = λ fine w₂ m R. record {
                beside =
                    node_include_bring N.at N.words K (get_or p 3 0) (get_or p 1 0) (get_or p 2 0) refl refl refl T.newest T.some refl T.count all fine T.at_is R;
                near = omega arith;
                stroke = node_include_stroke N.at N.words K (get_or p 3 0) (get_or p 1 0) (get_or p 2 0) refl refl refl;
                few = node_include_few N.at N.words K (get_or p 3 0) (get_or p 1 0) (get_or p 2 0) refl refl refl;
                first = node_include_first N.at N.words K (get_or p 3 0) (get_or p 1 0) (get_or p 2 0) refl refl refl;
              };
            },
          )

      pub node_schema_told : {w₂ : List ℕ} {f x m e : ℕ} → NamedTold s₁ d w₁ w₂ free p schema k number place at₁ f x m e →
          IncludeDone s s₁ d w w₂ stack at free (include_at doc k) places places₁ f x m e
      node_schema_told {w₂} {f} {x} {m} {e} (refused ne a b h) =
          subst (λ z. Done z f x m e) (sym h) (subst (λ z. Done w₁ z x m e) (sym a) (subst (λ z. Done w₁ number z m e) (sym b)
          (node_include_refused N.at N.words K (get_or p 3 0) (get_or p 1 0) (get_or p 2 0) refl refl refl T.newest T.some refl T.count all ne m e)))
      node_schema_told {w₂} {f} {x} {m} {e} (components fine w₃ c R (wrong a b n o size j B)) =
          subst (λ z. Done w₂ z x m e) (sym a) (subst (λ z. Done w₂ 37 z m e) (sym b) (subst (λ z. Done w₂ 37 k z e) (sym n) (subst (λ z. Done w₂ 37 k 0 z) (sym o)
          (node_include_wrong N.at N.words K (get_or p 3 0) (get_or p 1 0) (get_or p 2 0) refl refl refl T.newest T.some refl T.count all fine T.at_is R B size refl))))
      node_schema_told {w₂} {f} {x} {m} {e} (components fine w₃ c R (right a b o size B)) =
          subst (λ z. Done w₂ z x m e) (sym a) (subst (λ z. Done w₂ 0 z m e) (sym b) (subst (λ z. Done w₂ 0 k m z) (sym o)
          (node_include_done N.at N.words K (get_or p 3 0) (get_or p 1 0) (get_or p 2 0) refl refl refl T.newest T.some refl T.count all fine T.at_is R B size refl)))
