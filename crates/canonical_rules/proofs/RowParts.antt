-- The parts of rows laid out are the rows, from place 1 on.
use mathlib.Core.Path.{◌≡◌, subst}
use mathlib.Core.List.{List, [], ◌∷◌, ◌++◌, append_assoc}
use Prim.Native.Nat.{ℕ, suc, ◌+◌}
use native.Mathlib.Omega.{arith}
use lib.ListN.{length, length-append}
use Rattle.layout.specs.Layout.{part}
use Rattle.layout.specs.Rows.{Rows, lay_out}
use Rattle.layout.proofs.LaidRows.{parts_of_lem}
use Rattle.canonical_rules.proofs.Lists.{Along, along_split}

-- words that hold rows from place o on
abbrev pub Holds : List ℕ → ℕ → Rows → Type 0
Holds W o ws = Along (λ k w. part W k ≡ w) o ws

holds_from : (es fs : Rows) → Holds (lay_out (fs ++ es)) (suc (length fs)) es
holds_from [] fs = tt
holds_from (e ∷ es) fs = (
  parts_of_lem fs es e,
  subst (λ ws. Holds (lay_out ws) (suc (suc (length fs))) es) (append_assoc fs (e ∷ []) es)
      (subst (λ n. Holds (lay_out ((fs ++ (e ∷ [])) ++ es)) (suc n) es) (one_more fs e) (holds_from es (fs ++ (e ∷ [])))),
)
  where
    one_more : (fs : Rows) (e : List ℕ) → length (fs ++ (e ∷ [])) ≡ suc (length fs)
    one_more fs e = simp length-append (omega arith)

pub holds_all : (es : Rows) → Holds (lay_out es) 1 es
holds_all es = holds_from es []

pub holds_split : (W : List ℕ) (a b : Rows) (o : ℕ) → Holds W o (a ++ b) → Holds W o a × Holds W (o + length a) b
holds_split W = along_split (λ k w. part W k ≡ w)
