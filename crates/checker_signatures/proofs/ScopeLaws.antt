-- Stacks of rows that stand for a scope: looked up from the newest row down, and with the rows of a signature pushed.
use mathlib.Core.Path.{◌≡◌, refl, sym, ap, subst, ◌∙◌}
use mathlib.Core.Bool.{Bool, true, false, cond}
use mathlib.Core.List.{List, [], ◌∷◌}
use mathlib.Core.Option.{Option, some, none as nothing}
use Prim.Native.Nat.{ℕ, zero, suc, ◌+◌, ◌*◌, ◌≤◌, ◌<◌}
use native.Mathlib.Omega.{arith}
use lib.Dec.{eqb}
use lib.ListN.{length, get_or}
use lib.Seq.{sets}
use Rattle.reader_rules.specs.Decode.{pairs_from}
use Rattle.types_rules.specs.Types.{Term}
use Rattle.checker_rules.specs.Dictionary.{Dictionary, of_local, name_in, schema_in}
use Rattle.checker_rules.specs.Signatures.{Signature, no_names, naming}
use Rattle.checker_rules.specs.Scopes.{Scope, globals, local, name_at, schema_named, enter}
use Rattle.checker_signatures.specs.Rows.{rows, flat, place_in, stack, newest, push_rows}
use Rattle.checker_signatures.specs.Carried.{Carries, Stacked}
use Rattle.checker_signatures.proofs.RowLaws.{rows_last, rows_written, rows_next, place_last, get_d_below}

-- what a name is, by the place of its newest row
unfoldable pub Resolves : (Term → ℕ → Type 0) → ℕ → Scope → Dictionary → Option ℕ → Type 0
Resolves R i Γ D nothing = name_at i Γ ≡ name_in i D
Resolves R i Γ D (some p) = (t : Term) × (name_at i Γ ≡ of_local t) × R t p

module _ (R : Term → ℕ → Type 0) (D : Dictionary) where
  pub stacked_name : (i : ℕ) (Γ : Scope) (rs : List (ℕ × ℕ)) → Stacked R Γ rs D → Resolves R i Γ D (newest i rs)
  unfolding name_at newest Stacked Resolves
  stacked_name i (globals E) [] h = ap (name_in i) h
  stacked_name i (globals E) (r ∷ rs) h = absurd h
  stacked_name i (local j t Γ) [] h = absurd h
  stacked_name i (local j t Γ) (r ∷ rs) h = subst (λ (k : ℕ). Resolves R i (local k t Γ) D (newest i (r ∷ rs))) (sym h.0) (go (stacked_name i Γ rs h.2) (eqb i r.0) refl)
    where
      later : (o : Option ℕ) → eqb i r.0 ≡ false → Resolves R i Γ D o → Resolves R i (local r.0 t Γ) D o
      later nothing e k = rw e k
      later (some p) e k = (k.0, rw e k.1, k.2)

      go : Resolves R i Γ D (newest i rs) → (b : Bool) → eqb i r.0 ≡ b → Resolves R i (local r.0 t Γ) D (cond b (some r.1) (newest i rs))
      go k true e = (t, rw e refl, h.1)
      go k false e = later (newest i rs) e k

  pub stacked_schema : (n : ℕ) (Γ : Scope) (rs : List (ℕ × ℕ)) → Stacked R Γ rs D → schema_named n Γ ≡ schema_in n D
  unfolding schema_named Stacked
  stacked_schema n (globals E) [] h = ap (schema_in n) h
  stacked_schema n (globals E) (r ∷ rs) h = absurd h
  stacked_schema n (local j t Γ) [] h = absurd h
  stacked_schema n (local j t Γ) (r ∷ rs) h = stacked_schema n Γ rs h.2

  pub stacked_enter : (s : Signature) (Γ : Scope) (rs st : List (ℕ × ℕ)) → Carries R s rs → Stacked R Γ st D → Stacked R (enter s Γ) (push_rows rs st) D
  unfolding enter push_rows Carries Stacked
  stacked_enter no_names Γ [] st h k = k
  stacked_enter no_names Γ (r ∷ rs) st h k = absurd h
  stacked_enter (naming i t s) Γ [] st h k = absurd h
  stacked_enter (naming i t s) Γ (r ∷ rs) st h k = stacked_enter s (local i t Γ) rs (r ∷ st) h.2 (h.0, h.1, k)

pub stacked_other : (R Q : Term → ℕ → Type 0) (D : Dictionary) → ((t : Term) (p : ℕ) → R t p → Q t p) → (Γ : Scope) (rs : List (ℕ × ℕ))
    → Stacked R Γ rs D → Stacked Q Γ rs D
unfolding Stacked
stacked_other R Q D f (globals E) [] h = h
stacked_other R Q D f (globals E) (r ∷ rs) h = absurd h
stacked_other R Q D f (local i t Γ) [] h = absurd h
stacked_other R Q D f (local i t Γ) (r ∷ rs) h = (h.0, f t r.1 h.1, stacked_other R Q D f Γ rs h.2)

-- the newest row of a stack is the last of its table
pub newest_last : (i : ℕ) (w : List ℕ) (b n : ℕ) → newest i (stack w b n) ≡ place_in i (rows w b n)
unfolding newest stack place_in pairs_from
newest_last i w b zero = refl
newest_last i w b (suc n) =
    let r : ℕ × ℕ = (get_or w (b + 2 * n) 0, get_or w (suc (b + 2 * n)) 0) in
    ap (λ (o : Option ℕ). cond (eqb i r.0) (some r.1) o) (newest_last i w b n)
    ∙ sym (ap (place_in i) (rows_last w b n) ∙ place_last i (rows w b n) r)

pub stack_kept : (w v : List ℕ) (b n : ℕ) → ((k : ℕ) → k < b + 2 * n → get_or v k 0 ≡ get_or w k 0) → stack v b n ≡ stack w b n
unfolding stack
stack_kept w v b zero h = refl
stack_kept w v b (suc n) h =
    let x = h (b + 2 * n) (omega arith) in
    let y = h (suc (b + 2 * n)) (omega arith) in
    let r = stack_kept w v b n (λ k p. h k (omega arith)) in
    cc

stack_more : (w : List ℕ) (b n m : ℕ) → stack w b (n + m) ≡ push_rows (rows w (b + 2 * n) m) (stack w b n)
unfolding stack push_rows pairs_from
stack_more w b n zero = let e : n + 0 ≡ n = omega arith in ap (stack w b) e
stack_more w b n (suc m) =
    let e : n + suc m ≡ suc n + m = omega arith in
    let f : b + 2 * suc n ≡ suc (suc (b + 2 * n)) = omega arith in
    ap (stack w b) e ∙ stack_more w b (suc n) m
    ∙ ap (λ (k : ℕ). push_rows (rows w k m) (stack w b (suc n))) f
    ∙ sym (ap (λ (l : List (ℕ × ℕ)). push_rows l (stack w b n)) (rows_next w (b + 2 * n) m))

-- rows written on top of a stack
pub stack_push : (w : List ℕ) (b n : ℕ) (rs : List (ℕ × ℕ)) → b + 2 * (n + length rs) ≤ length w
    → stack (sets w (b + 2 * n) (flat rs)) b (n + length rs) ≡ push_rows rs (stack w b n)
stack_push w b n rs h =
    let v = sets w (b + 2 * n) (flat rs) in
    stack_more v b n (length rs)
    ∙ ap (λ (l : List (ℕ × ℕ)). push_rows l (stack v b n)) (rows_written rs w (b + 2 * n) (omega arith))
    ∙ ap (push_rows rs) (stack_kept w v b n (λ k p. get_d_below (flat rs) w (b + 2 * n) k p))
