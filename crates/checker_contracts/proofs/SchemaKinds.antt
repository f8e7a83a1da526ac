-- A Text and an Include as schema expressions.
use mathlib.Core.Path.{◌≡◌, refl, sym, subst}
use mathlib.Core.List.{List}
use Prim.Native.Nat.{ℕ}
use mathlib.Core.Bool.{false}
use Rattle.reader_rules.specs.Limited.{LimitedSchema}
use Rattle.reader_rules.specs.Tree.{Text, Include, Schema, plain, from}
use Rattle.reader_rules.specs.TreeNumbers.{schema_numbers}
use Rattle.checker_rules.specs.Rules.{schema_items}
use Rattle.checker_rules.specs.Scopes.{schema_signature}
use Rattle.checker_contracts.specs.Visits.{globals_if}
use Rattle.checker_contracts.specs.Texts.{TextAsk, TextDone}
use Rattle.checker_contracts.specs.Includes.{BringsAsk, BringsDone}
use Rattle.checker_contracts.specs.Schemas.{SchemaAsk, SchemaDone}

module _ (s d w : List ℕ) (stack at free : ℕ) (x : Schema) where
  -- A Text.
  module _ (t : Text) (e : x ≡ plain t) where
    pub text_asked : SchemaAsk s d w stack at free x → TextAsk s d w stack at free t
    unfolding LimitedSchema schema_numbers
    text_asked A = let B = subst (SchemaAsk s d w stack at free) e A in record { height = B.height; texts = B.texts; limited = B.limited; walking = B.walking }

    pub text_schema : (s' w' : List ℕ) (number place m at' : ℕ) → TextDone s s' d w w' stack at free t false number place m at' →
        SchemaDone s s' d w w' stack at free x number place m at'
    unfolding schema_items schema_numbers schema_signature globals_if
    text_schema s' w' number place m at' T = subst (λ y. SchemaDone s s' d w w' stack at free y number place m at') (sym e) done
      where
        done : SchemaDone s s' d w w' stack at free (plain t) number place m at'
        done = record {
          done = record {
            still = T.done.still;
            areas = T.done.areas;
            goes = λ z H U S Γ D C u F. let G = T.done.goes z H U S Γ D C u F in record { unknowns = G.unknowns; walked = G.walked; signature = G.signature };
            stops = T.done.stops;
          };
        }

  -- An Include.
  module _ (i : Include) (e : x ≡ from i) where
    pub include_asked : SchemaAsk s d w stack at free x → BringsAsk s d w stack at free i
    unfolding LimitedSchema schema_numbers
    include_asked A = let B = subst (SchemaAsk s d w stack at free) e A in record { height = B.height; texts = B.texts; limited = B.limited; walking = B.walking }

    pub include_schema : (s' w' : List ℕ) (number place m at' : ℕ) → BringsDone s s' d w w' stack at free i number place m at' →
        SchemaDone s s' d w w' stack at free x number place m at'
    unfolding schema_items schema_numbers schema_signature
    include_schema s' w' number place m at' T = subst (λ y. SchemaDone s s' d w w' stack at free y number place m at') (sym e) done
      where
        done : SchemaDone s s' d w w' stack at free (from i) number place m at'
        done = record {
          done = record {
            still = T.done.still;
            areas = T.done.areas;
            goes = λ z H U S Γ D C u F. let G = T.done.goes z H U S Γ D C u F in record { unknowns = G.unknowns; walked = G.walked; signature = G.signature };
            stops = T.done.stops;
          };
        }
