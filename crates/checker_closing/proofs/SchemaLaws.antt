-- An Include's schema, from what the functions on the dictionary and on rows tell.
use mathlib.Core.Path.{◌≡◌, refl, sym, subst, ◌∙◌}
use mathlib.Core.Bool.{Bool, true}
use mathlib.Core.List.{List}
use Prim.Native.Nat.{ℕ, ◌+◌}
use lib.ListN.{length, get_or}
use Rattle.checker_dictionary.specs.Lookup.{parameters_at}
use Rattle.checker_signatures.specs.Rows.{renames}
use Rattle.checker_signatures.specs.Tables.{Brings, half_table}
use Rattle.checker_closing.specs.Schemas.{Newest, SchemaLooked, miscounted, RowsRenamed, wrong}
use Rattle.checker_closing.specs.Nodes.{LinedAt}
use Rattle.checker_closing.specs.declared.results.Lined.{Lined}

-- 31 AND 32.
module _ {d w : List ℕ} {id name e : ℕ} (F : Newest d w id e) (is : id ≡ name) where
  newest : Newest d w name e
  newest = subst (λ z. Newest d w z e) is F

  module _ (some : e ≡ 0 → ⊥) {v u q : ℕ} (counts : v ≡ parameters_at d e) (asks : u ≡ q) where
    pub schema_miscounted : {at : ℕ} → (v ≡ u → ⊥) → SchemaLooked d w name q 32 at
    schema_miscounted ne = miscounted refl e newest some (λ z. ne (counts ∙ z ∙ sym asks))

-- 37.
module _ {w w' : List ℕ} (p : List ℕ) {free m stroke q count : ℕ} {b : Bool} (B : Brings w w' (free + half_table) m free stroke (renames p (q + 4)) b count) (stroked : stroke ≡ get_or p 2 0)
    (counted : q ≡ get_or p 3 0) (size : length w' ≡ length w) where
  brings : {b' : Bool} → b ≡ b' → Brings w w' (free + half_table) m free (get_or p 2 0) (renames p (get_or p 3 0 + 4)) b' count
  brings {b'} e =
      subst (λ z. Brings w w' (free + half_table) m free z (renames p (get_or p 3 0 + 4)) b' count) stroked
      (subst (λ z. Brings w w' (free + half_table) m free stroke (renames p (z + 4)) b' count) counted (subst (λ z. Brings w w' (free + half_table) m free stroke (renames p (q + 4)) z count) e B))

  pub renamed_wrong : {k end : ℕ} {r : Lined} → b ≡ true → LinedAt r 37 k 0 0 → RowsRenamed w w' free m p k end r.number r.place r.count r.at
  renamed_wrong e L = wrong L.number_is L.place_is L.count_is L.at_is size count (brings e)
