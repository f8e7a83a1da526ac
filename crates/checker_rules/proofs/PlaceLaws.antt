-- EVERY FINDING COMES AT A NODE OF A KIND THAT CAN GET IT, the column "Place" of the table (specs/Places).
use mathlib.Core.Path.{◌≡◌, refl, ap, ◌∙◌}
use mathlib.Core.Bool.{Bool, true, false, cond}
use mathlib.Core.List.{List, [], ◌∷◌}
use mathlib.Core.Option.{Option, some, none as nothing}
use mathlib.Core.Logic.{◌⊎◌, inl, inr}
use Prim.Native.Nat.{ℕ, zero, suc}
use lib.Dec.{ltb, eqb}
use Rattle.words.specs.Loops.{has}
use Rattle.reader_rules.specs.Tree.{Expr, reference, number, integers, set, tuple, product, power, application, selection, theta, schema_set, arithmetic}
use Rattle.reader_rules.specs.Tree.{comprehension, Exprs, none, more, Pred, truth, equal, member, at_most, not, connected, quantified, Text, text, Lines}
use Rattle.reader_rules.specs.Tree.{end, declaration, inclusion, Include, include, Schema, plain, from, both, Paragraph, given, axiomatic, schema}
use Rattle.reader_rules.specs.Tree.{abbreviation, constraint, exprs_length, include_node, paragraph_node}
use Rattle.types_rules.specs.Types.{Term}
use Rattle.types_rules.specs.Instance.{instance}
use Rattle.checker_rules.specs.Strokes.{decorate, takes}
use Rattle.checker_rules.specs.Unknowns.{slot, unknown_at, row}
use Rattle.checker_rules.specs.Items.{Items, ◌⨾◌, fresh, small, refusal, piece, Any, And, Refuses, Typings}
use Rattle.checker_rules.specs.Dictionary.{Dictionary, blank, Named, unnamed, of_local, of_global, name_in, NamedSchema, no_schema, a_schema}
use Rattle.checker_rules.specs.Signatures.{Signature, no_names, naming, count_names, names_of, term_in, merge, declare, some_stroked, wrong_names}
use Rattle.checker_rules.specs.Scopes.{Scope, globals, name_at, schema_named, with_parameters, include_signature, inside, schema_signature}
use Rattle.checker_rules.specs.Conditions.{refuse_if, same_type, merge_declared, merge_names, new_name, new_names, small_types, few_names, typed, is_power, are_powers}
use Rattle.checker_rules.specs.Conditions.{are_members, fresh_row}
use Rattle.checker_rules.specs.Rules.{reference_items, theta_name, theta_names, theta_items, include_rule, expr_items, exprs_items, pred_items}
use Rattle.checker_rules.specs.Rules.{text_items, lines_items, include_items, actual_items, schema_items, paragraph_items}
use Rattle.checker_rules.specs.Entries.{extend}
use Rattle.checker_rules.specs.Verdicts.{RefusesAt}
use Rattle.checker_rules.specs.Typing.{schema_of}
use Rattle.reader_rules.specs.Places.{At}
use Rattle.checker_rules.specs.Places.{PlacedExpr, PlacedExprs, PlacedPred, PlacedText, PlacedLines, PlacedInclude, PlacedSchema, PlacedParagraph}
use Rattle.checker_rules.specs.Places.{PlacedParagraphs}
use Rattle.checker_rules.proofs.FindingLaws.{fresh_none, OfEquations, which_number}

-- the number g is among l, and f is g
among : (f g : ℕ) (l : List ℕ) → f ≡ g → has g l ≡ true → has f l ≡ true
among f g l e h = ap (λ z. has z l) e ∙ h

-- at n with the number g
abbrev Given : ℕ → ℕ → ℕ → ℕ → Type 0
Given f j n g = (f ≡ g) × (j ≡ n)

-- at n with one of the numbers of equations, 33 and 39
abbrev Either : ℕ → ℕ → ℕ → Type 0
Either f j n = (j ≡ n) × OfEquations f

module _ (f j : ℕ) where
  at : (n g : ℕ) (l : List ℕ) → has g l ≡ true → Given f j n g → At f j n l
  at n g l h w = (w.1, among f g l w.0 h)

  refuse_if_at : (b : Bool) (g n : ℕ) (P : Typings) → Refuses (refuse_if b g n) P f j → Given f j n g
  unfolding refuse_if Refuses
  refuse_if_at true g n P r = r
  refuse_if_at false g n P r = absurd r

  few_at : (n : ℕ) (s : Signature) (P : Typings) → Refuses (few_names n s) P f j → Given f j n 38
  unfolding few_names
  few_at n s P r = refuse_if_at (ltb 16 (count_names s)) 38 n P r

  smalls_at : (n : ℕ) (s : Signature) (P : Typings) → Refuses (small_types n s) P f j → Given f j n 38
  unfolding small_types Refuses
  smalls_at n no_names P r = absurd r
  smalls_at n (naming i t s) P (inl r) = (r.0, r.1)
  smalls_at n (naming i t s) P (inr r) = smalls_at n s (And P (small n t)) r.1

  same_at : (n : ℕ) (t : Term) (o : Option Term) (P : Typings) → Refuses (same_type n t o) P f j → Given f j n 36
  unfolding same_type Refuses
  same_at n t (some u) P r = (r.0, r.1)
  same_at n t nothing P r = absurd r

  declared_at : (n : ℕ) (is : List ℕ) (t : Term) (s : Signature) (P : Typings) → Refuses (merge_declared n is t s) P f j → Given f j n 36
  unfolding merge_declared Refuses
  declared_at n [] t s P r = absurd r
  declared_at n (i ∷ is) t s P (inl r) = same_at n t (term_in i s) P r
  declared_at n (i ∷ is) t s P (inr r) = declared_at n is t s (And P (same_type n t (term_in i s))) r.1

  names_at : (n : ℕ) (s u : Signature) (P : Typings) → Refuses (merge_names n s u) P f j → Given f j n 36
  unfolding merge_names Refuses
  names_at n no_names u P r = absurd r
  names_at n (naming i t s) u P (inl r) = same_at n t (term_in i u) P r
  names_at n (naming i t s) u P (inr r) = names_at n s u (And P (same_type n t (term_in i u))) r.1

  new_name_at : (n : ℕ) (m : Named) (P : Typings) → Refuses (new_name n m) P f j → Given f j n 36
  unfolding new_name Refuses
  new_name_at n unnamed P r = absurd r
  new_name_at n (of_local t) P r = r
  new_name_at n (of_global p g) P r = r

  new_names_at : (n : ℕ) (is : List ℕ) (G : Dictionary) (P : Typings) → Refuses (new_names n is G) P f j → Given f j n 36
  unfolding new_names Refuses
  new_names_at n [] G P r = absurd r
  new_names_at n (i ∷ is) G P (inl r) = new_name_at n (name_in i G) P r
  new_names_at n (i ∷ is) G P (inr r) = new_names_at n is G (And P (new_name n (name_in i G))) r.1

  either_at : (n : ℕ) (l : List ℕ) → has 33 l ≡ true → has 39 l ≡ true → Either f j n → At f j n l
  either_at n l h k (e, inl q) = (e, among f 33 l q h)
  either_at n l h k (e, inr q) = (e, among f 39 l q k)

  typed_at : (n : ℕ) (t : Term) (P : Typings) → Refuses (typed n t) P f j → Either f j n
  unfolding Refuses
  typed_at n t P (inl r) = absurd r
  typed_at n t P (inr r) = (r.1.0, which_number f _ r.1.2)

  powers_at : (n : ℕ) (xs : Exprs) (k : ℕ) (P : Typings) → Refuses (are_powers n xs k) P f j → Either f j n
  unfolding are_powers Refuses
  powers_at n xs k P (inl r) = absurd (fresh_none n k (exprs_length xs) P f j r)
  powers_at n xs k P (inr r) = (r.1.0, which_number f _ r.1.2)

  members_at : (n : ℕ) (xs : Exprs) (P : Typings) → Refuses (are_members n xs) P f j → Either f j n
  unfolding are_members Refuses
  members_at n xs P r = (r.0, which_number f _ r.2)

  -- ---- Ref, Theta, Include
  reference_at : (n : ℕ) (xs : Exprs) (m : Named) (P : Typings) → Refuses (reference_items n xs m) P f j → At f j n (31 ∷ 32 ∷ 33 ∷ 39 ∷ [])
  unfolding reference_items Refuses has
  reference_at n none unnamed P r = at n 31 (31 ∷ 32 ∷ 33 ∷ 39 ∷ []) refl r
  reference_at n (more a xs) unnamed P r = at n 31 (31 ∷ 32 ∷ 33 ∷ 39 ∷ []) refl r
  reference_at n none (of_local t) P r = either_at n (31 ∷ 32 ∷ 33 ∷ 39 ∷ []) refl refl (typed_at n t P r)
  reference_at n (more a xs) (of_local t) P r = at n 32 (31 ∷ 32 ∷ 33 ∷ 39 ∷ []) refl r
  reference_at n none (of_global p g) P (inl r) = absurd (fresh_none n 1 p P f j r)
  reference_at n none (of_global p g) P (inr r) = either_at n (31 ∷ 32 ∷ 33 ∷ 39 ∷ []) refl refl (typed_at n (instance (row n 1 p) g) (And P (fresh_row n 1 p)) r.1)
  reference_at n (more a xs) (of_global p g) P r = go (eqb (exprs_length (more a xs)) p) r
    where
      both_at : Refuses (are_powers n (more a xs) 1 ⨾ typed n (instance (row n 1 p) g)) P f j → Either f j n
      both_at (inl r) = powers_at n (more a xs) 1 P r
      both_at (inr r) = typed_at n (instance (row n 1 p) g) (And P (are_powers n (more a xs) 1)) r.1

      go : (b : Bool) → Refuses (cond b (are_powers n (more a xs) 1 ⨾ typed n (instance (row n 1 p) g)) (refusal 32 n)) P f j → At f j n (31 ∷ 32 ∷ 33 ∷ 39 ∷ [])
      go true r = either_at n (31 ∷ 32 ∷ 33 ∷ 39 ∷ []) refl refl (both_at r)
      go false r = at n 32 (31 ∷ 32 ∷ 33 ∷ 39 ∷ []) refl r

  theta_name_at : (b : Bool) (n : ℕ) (m : Named) (P : Typings) → Refuses (theta_name b n m) P f j → Given f j n 31
  unfolding theta_name Refuses
  theta_name_at false n m P r = absurd r
  theta_name_at true n unnamed P r = r
  theta_name_at true n (of_local t) P r = absurd r
  theta_name_at true n (of_global zero g) P r = absurd r
  theta_name_at true n (of_global (suc p) g) P r = r

  theta_names_at : (n k : ℕ) (s : Signature) (Γ : Scope) (P : Typings) → Refuses (theta_names n k s Γ) P f j → Given f j n 31
  unfolding theta_names Refuses
  theta_names_at n k no_names Γ P r = absurd r
  theta_names_at n k (naming i t s) Γ P (inl r) = theta_name_at (takes k i) n (name_at (decorate k i) Γ) P r
  theta_names_at n k (naming i t s) Γ P (inr r) = theta_names_at n k s Γ (And P (theta_name (takes k i) n (name_at (decorate k i) Γ))) r.1

  theta_at : (n k : ℕ) (c : NamedSchema) (Γ : Scope) (P : Typings) → Refuses (theta_items n k c Γ) P f j → At f j n (31 ∷ 32 ∷ 33 ∷ 37 ∷ 39 ∷ [])
  unfolding theta_items Refuses has
  theta_at n k no_schema Γ P r = at n 31 (31 ∷ 32 ∷ 33 ∷ 37 ∷ 39 ∷ []) refl r
  theta_at n k (a_schema p g) Γ P (inl r) = at n 31 (31 ∷ 32 ∷ 33 ∷ 37 ∷ 39 ∷ []) refl (theta_names_at n k (schema_of g) Γ P r)
  theta_at n k (a_schema p g) Γ P (inr (a, inl r)) = at n 32 (31 ∷ 32 ∷ 33 ∷ 37 ∷ 39 ∷ []) refl (refuse_if_at (ltb 0 p) 32 n _ r)
  theta_at n k (a_schema p g) Γ P (inr (a, inr (b, inl r))) = at n 37 (31 ∷ 32 ∷ 33 ∷ 37 ∷ 39 ∷ []) refl (refuse_if_at (some_stroked k (schema_of g)) 37 n _ r)
  theta_at n k (a_schema p g) Γ P (inr (a, inr (b, inr (c, inl r)))) = absurd r
  theta_at n k (a_schema p g) Γ P (inr (a, inr (b, inr (c, inr (d, r))))) = either_at n (31 ∷ 32 ∷ 33 ∷ 37 ∷ 39 ∷ []) refl refl (r.0, which_number f _ r.2)

  rule_at : (c : NamedSchema) (n s k : ℕ) (xs : Exprs) (rs : List (ℕ × ℕ)) (acts : Items) (P : Typings) → Refuses (include_rule c (include n s k xs rs) acts) P f j
      → At f j n (31 ∷ 32 ∷ 33 ∷ 34 ∷ 37 ∷ 39 ∷ []) ⊎ Refuses acts P f j
  unfolding include_rule Refuses has
  rule_at no_schema n s k xs rs acts P r = inl (at n 31 (31 ∷ 32 ∷ 33 ∷ 34 ∷ 37 ∷ 39 ∷ []) refl r)
  rule_at (a_schema p g) n s k xs rs acts P r = go (eqb (exprs_length xs) p) r
    where
      inner : Refuses (acts ⨾ refuse_if (wrong_names k rs (schema_of g)) 37 n) P f j → At f j n (31 ∷ 32 ∷ 33 ∷ 34 ∷ 37 ∷ 39 ∷ []) ⊎ Refuses acts P f j
      inner (inl r) = inr r
      inner (inr r) = inl (at n 37 (31 ∷ 32 ∷ 33 ∷ 34 ∷ 37 ∷ 39 ∷ []) refl (refuse_if_at (wrong_names k rs (schema_of g)) 37 n (And P acts) r.1))

      go : (b : Bool) → Refuses (cond b (acts ⨾ refuse_if (wrong_names k rs (schema_of g)) 37 n) (refusal 32 n)) P f j → At f j n (31 ∷ 32 ∷ 33 ∷ 34 ∷ 37 ∷ 39 ∷ []) ⊎ Refuses acts P f j
      go true r = inner r
      go false r = inl (at n 32 (31 ∷ 32 ∷ 33 ∷ 34 ∷ 37 ∷ 39 ∷ []) refl r)

  joined : (n : ℕ) (xs : Exprs) {A : Type 0} → (A → At f j n (31 ∷ 32 ∷ 33 ∷ 34 ∷ 37 ∷ 39 ∷ []) ⊎ PlacedExprs f j xs) → At f j n (31 ∷ 32 ∷ 33 ∷ 34 ∷ 37 ∷ 39 ∷ []) ⊎ A
      → At f j n (31 ∷ 32 ∷ 33 ∷ 34 ∷ 37 ∷ 39 ∷ []) ⊎ PlacedExprs f j xs
  joined n xs k (inl w) = inl w
  joined n xs k (inr w) = k w

  right_of : (n : ℕ) (A B : Type 0) → At f j n (31 ∷ 32 ∷ 33 ∷ 34 ∷ 37 ∷ 39 ∷ []) ⊎ B → At f j n (31 ∷ 32 ∷ 33 ∷ 34 ∷ 37 ∷ 39 ∷ []) ⊎ (A ⊎ B)
  right_of n A B (inl w) = inl w
  right_of n A B (inr w) = inr (inr w)

  -- ---- the rules
  mutual
    unfolding expr_items Refuses PlacedExpr has

    expr_placed : (a : Expr) (Γ : Scope) (P : Typings) → Refuses (expr_items a Γ) P f j → PlacedExpr f j a
    expr_placed (reference n i xs) Γ P (inl r) = inr (exprs_placed xs Γ P r)
    expr_placed (reference n i xs) Γ P (inr r) = inl (reference_at n xs (name_at i Γ) (And P (exprs_items xs Γ)) r.1)
    expr_placed (number n v) Γ P (inl r) = absurd r
    expr_placed (number n v) Γ P (inr (p, r)) = either_at n (33 ∷ 39 ∷ []) refl refl (r.0, which_number f _ r.2)
    expr_placed (integers n) Γ P (inl r) = absurd r
    expr_placed (integers n) Γ P (inr (p, r)) = either_at n (33 ∷ 39 ∷ []) refl refl (r.0, which_number f _ r.2)
    expr_placed (set n xs) Γ P (inl r) = inr (exprs_placed xs Γ P r)
    expr_placed (set n xs) Γ P (inr (p, inl r)) = absurd r
    expr_placed (set n xs) Γ P (inr (p, inr (q, inl r))) = inl (either_at n (33 ∷ 39 ∷ []) refl refl (members_at n xs (And (And P (exprs_items xs Γ)) (fresh (slot n 1))) r))
    expr_placed (set n xs) Γ P (inr (p, inr (q, inr (u, inl r)))) = absurd r
    expr_placed (set n xs) Γ P (inr (p, inr (q, inr (u, inr (v, r))))) = inl (either_at n (33 ∷ 39 ∷ []) refl refl (r.0, which_number f _ r.2))
    expr_placed (tuple n xs) Γ P (inl r) = inr (exprs_placed xs Γ P r)
    expr_placed (tuple n xs) Γ P (inr (p, inl r)) = absurd r
    expr_placed (tuple n xs) Γ P (inr (p, inr (q, r))) = inl (either_at n (33 ∷ 39 ∷ []) refl refl (r.0, which_number f _ r.2))
    expr_placed (product n xs) Γ P (inl r) = inr (exprs_placed xs Γ P r)
    expr_placed (product n xs) Γ P (inr (p, inl r)) = inl (either_at n (33 ∷ 39 ∷ []) refl refl (powers_at n xs 1 (And P (exprs_items xs Γ)) r))
    expr_placed (product n xs) Γ P (inr (p, inr (q, inl r))) = absurd r
    expr_placed (product n xs) Γ P (inr (p, inr (q, inr (u, r)))) = inl (either_at n (33 ∷ 39 ∷ []) refl refl (r.0, which_number f _ r.2))
    expr_placed (power n a) Γ P (inl r) = inr (expr_placed a Γ P r)
    expr_placed (power n a) Γ P (inr (p, inl (inl r))) = absurd r
    expr_placed (power n a) Γ P (inr (p, inl (inr (q, r)))) = inl (either_at n (33 ∷ 39 ∷ []) refl refl (r.0, which_number f _ r.2))
    expr_placed (power n a) Γ P (inr (p, inr (q, inl r))) = absurd r
    expr_placed (power n a) Γ P (inr (p, inr (q, inr (u, r)))) = inl (either_at n (33 ∷ 39 ∷ []) refl refl (r.0, which_number f _ r.2))
    expr_placed (application n a b) Γ P (inl r) = inr (inl (expr_placed a Γ P r))
    expr_placed (application n a b) Γ P (inr (p, inl r)) = inr (inr (expr_placed b Γ (And P (expr_items a Γ)) r))
    expr_placed (application n a b) Γ P (inr (p, inr (q, inl r))) = absurd r
    expr_placed (application n a b) Γ P (inr (p, inr (q, inr (u, r)))) = inl (either_at n (33 ∷ 39 ∷ []) refl refl (r.0, which_number f _ r.2))
    expr_placed (selection n a i) Γ P (inl r) = inr (expr_placed a Γ P r)
    expr_placed (selection n a i) Γ P (inr (p, inl r)) = absurd r
    expr_placed (selection n a i) Γ P (inr (p, inr (q, inl r))) = inl (at n 35 (33 ∷ 35 ∷ []) refl (r.0, r.1))
    expr_placed (selection n a i) Γ P (inr (p, inr (q, inr r))) = inl (at n 33 (33 ∷ 35 ∷ []) refl (r.0, r.1))
    expr_placed (theta n s k) Γ P r = theta_at n k (schema_named s Γ) Γ P r
    expr_placed (schema_set n i) Γ P (inl r) = inr (inr (include_placed i Γ P r))
    expr_placed (schema_set n i) Γ P (inr (p, inl r)) =
        inr (inl (at (include_node i) 38 (38 ∷ []) refl (smalls_at (include_node i) (include_signature i Γ) (And P (include_items i Γ)) r)))
    expr_placed (schema_set n i) Γ P (inr (p, inr (q, inl r))) = absurd r
    expr_placed (schema_set n i) Γ P (inr (p, inr (q, inr (u, r)))) = inl (either_at n (33 ∷ 39 ∷ []) refl refl (r.0, which_number f _ r.2))
    expr_placed (arithmetic n o a b) Γ P (inl r) = inr (inl (expr_placed a Γ P r))
    expr_placed (arithmetic n o a b) Γ P (inr (p, inl r)) = inr (inr (expr_placed b Γ (And P (expr_items a Γ)) r))
    expr_placed (arithmetic n o a b) Γ P (inr (p, inr (q, inl r))) = inl (either_at n (33 ∷ 39 ∷ []) refl refl (r.0, which_number f _ r.2))
    expr_placed (arithmetic n o a b) Γ P (inr (p, inr (q, inr (u, inl r)))) = absurd r
    expr_placed (arithmetic n o a b) Γ P (inr (p, inr (q, inr (u, inr (v, r))))) = inl (either_at n (33 ∷ 39 ∷ []) refl refl (r.0, which_number f _ r.2))
    expr_placed (comprehension n t a) Γ P (inl r) = inr (inl (text_placed t Γ blank P r))
    expr_placed (comprehension n t a) Γ P (inr (p, inl r)) = inr (inr (expr_placed a (inside t Γ) (And P (text_items t Γ blank)) r))
    expr_placed (comprehension n t a) Γ P (inr (p, inr (q, inl r))) = absurd r
    expr_placed (comprehension n t a) Γ P (inr (p, inr (q, inr (u, r)))) = inl (either_at n (33 ∷ 39 ∷ []) refl refl (r.0, which_number f _ r.2))

    exprs_placed : (xs : Exprs) (Γ : Scope) (P : Typings) → Refuses (exprs_items xs Γ) P f j → PlacedExprs f j xs
    exprs_placed none Γ P r = absurd r
    exprs_placed (more a xs) Γ P (inl r) = inl (expr_placed a Γ P r)
    exprs_placed (more a xs) Γ P (inr r) = inr (exprs_placed xs Γ (And P (expr_items a Γ)) r.1)

    pred_placed : (p : Pred) (Γ : Scope) (P : Typings) → Refuses (pred_items p Γ) P f j → PlacedPred f j p
    pred_placed (truth n) Γ P r = absurd r
    pred_placed (equal n a b) Γ P (inl (inl r)) = inr (inl (expr_placed a Γ P r))
    pred_placed (equal n a b) Γ P (inl (inr (p, inl r))) = inr (inr (expr_placed b Γ (And P (expr_items a Γ)) r))
    pred_placed (equal n a b) Γ P (inl (inr (p, inr (q, r)))) = inl (either_at n (33 ∷ 34 ∷ 39 ∷ []) refl refl (r.0, which_number f _ r.2))
    pred_placed (equal n a b) Γ P (inr r) = inl (at n 34 (33 ∷ 34 ∷ 39 ∷ []) refl (r.1, r.2))
    pred_placed (member n a b) Γ P (inl (inl r)) = inr (inl (expr_placed a Γ P r))
    pred_placed (member n a b) Γ P (inl (inr (p, inl r))) = inr (inr (expr_placed b Γ (And P (expr_items a Γ)) r))
    pred_placed (member n a b) Γ P (inl (inr (p, inr (q, r)))) = inl (either_at n (33 ∷ 34 ∷ 39 ∷ []) refl refl (r.0, which_number f _ r.2))
    pred_placed (member n a b) Γ P (inr r) = inl (at n 34 (33 ∷ 34 ∷ 39 ∷ []) refl (r.1, r.2))
    pred_placed (at_most n a b) Γ P (inl (inl r)) = inr (inl (expr_placed a Γ P r))
    pred_placed (at_most n a b) Γ P (inl (inr (p, inl r))) = inr (inr (expr_placed b Γ (And P (expr_items a Γ)) r))
    pred_placed (at_most n a b) Γ P (inl (inr (p, inr (q, r)))) = inl (either_at n (33 ∷ 34 ∷ 39 ∷ []) refl refl (r.0, which_number f _ r.2))
    pred_placed (at_most n a b) Γ P (inr r) = inl (at n 34 (33 ∷ 34 ∷ 39 ∷ []) refl (r.1, r.2))
    pred_placed (not n p) Γ P r = pred_placed p Γ P r
    pred_placed (connected n o p q) Γ P (inl r) = inl (pred_placed p Γ P r)
    pred_placed (connected n o p q) Γ P (inr r) = inr (pred_placed q Γ (And P (pred_items p Γ)) r.1)
    pred_placed (quantified n o t p) Γ P (inl r) = inl (text_placed t Γ blank P r)
    pred_placed (quantified n o t p) Γ P (inr r) = inr (pred_placed p (inside t Γ) (And P (text_items t Γ blank)) r.1)

    text_placed : (t : Text) (Γ : Scope) (G : Dictionary) (P : Typings) → Refuses (text_items t Γ G) P f j → PlacedText f j t
    text_placed (text n p ls) Γ G P (inl r) = inl (lines_placed ls Γ G no_names P r)
    text_placed (text n p ls) Γ G P (inr r) = inr (pred_placed p (inside (text n p ls) Γ) (And P (lines_items ls Γ G no_names)) r.1)

    lines_placed : (ls : Lines) (Γ : Scope) (G : Dictionary) (s : Signature) (P : Typings) → Refuses (lines_items ls Γ G s) P f j → PlacedLines f j ls
    lines_placed end Γ G s P r = absurd r
    lines_placed (declaration n a is ls) Γ G s P (inl (inl (inl r))) = inr (inl (expr_placed a Γ P r))
    lines_placed (declaration n a is ls) Γ G s P (inl (inl (inr (p, inl r)))) = absurd r
    lines_placed (declaration n a is ls) Γ G s P (inl (inl (inr (p, inr (q, r))))) = inl (either_at n (33 ∷ 34 ∷ 36 ∷ 38 ∷ 39 ∷ []) refl refl (r.0, which_number f _ r.2))
    lines_placed (declaration n a is ls) Γ G s P (inl (inr r)) = inl (at n 34 (33 ∷ 34 ∷ 36 ∷ 38 ∷ 39 ∷ []) refl (r.1, r.2))
    lines_placed (declaration n a is ls) Γ G s P (inr (p, inl (inl r))) =
        inl (at n 36 (33 ∷ 34 ∷ 36 ∷ 38 ∷ 39 ∷ []) refl (declared_at n is (unknown_at n 0) s (And P (piece n (expr_items a Γ ⨾ is_power n 0 a))) r))
    lines_placed (declaration n a is ls) Γ G s P (inr (p, inl (inr (q, r)))) =
        inl (at n 36 (33 ∷ 34 ∷ 36 ∷ 38 ∷ 39 ∷ []) refl (new_names_at n is G (And (And P (piece n (expr_items a Γ ⨾ is_power n 0 a))) (merge_declared n is (unknown_at n 0) s)) r))
    lines_placed (declaration n a is ls) Γ G s P (inr (p, inr (q, inl (inl r)))) = inl (at n 38 (33 ∷ 34 ∷ 36 ∷ 38 ∷ 39 ∷ []) refl (r.0, r.1))
    lines_placed (declaration n a is ls) Γ G s P (inr (p, inr (q, inl (inr (u, r))))) =
        inl (at n 38 (33 ∷ 34 ∷ 36 ∷ 38 ∷ 39 ∷ []) refl (few_at n (declare is (unknown_at n 0) s) (And (And (And P (piece n (expr_items a Γ ⨾ is_power n 0 a))) (merge_declared n is (unknown_at n 0) s ⨾ new_names n is G)) (small n (unknown_at n 0))) r))
    lines_placed (declaration n a is ls) Γ G s P (inr (p, inr (q, inr (u, r)))) =
        inr (inr (lines_placed ls Γ G (declare is (unknown_at n 0) s)
        (And (And (And P (piece n (expr_items a Γ ⨾ is_power n 0 a))) (merge_declared n is (unknown_at n 0) s ⨾ new_names n is G)) (small n (unknown_at n 0) ⨾ few_names n (declare is (unknown_at n 0) s))) r))
    lines_placed (inclusion i ls) Γ G s P (inl r) = inr (inl (include_placed i Γ P r))
    lines_placed (inclusion i ls) Γ G s P (inr (p, inl (inl r))) =
        inl (at (include_node i) 36 (36 ∷ 38 ∷ []) refl (names_at (include_node i) (include_signature i Γ) s (And P (include_items i Γ)) r))
    lines_placed (inclusion i ls) Γ G s P (inr (p, inl (inr (q, r)))) =
        inl (at (include_node i) 36 (36 ∷ 38 ∷ []) refl (new_names_at (include_node i) (names_of (include_signature i Γ)) G (And (And P (include_items i Γ)) (merge_names (include_node i) (include_signature i Γ) s)) r))
    lines_placed (inclusion i ls) Γ G s P (inr (p, inr (q, inl (inl r)))) =
        inl (at (include_node i) 38 (36 ∷ 38 ∷ []) refl (smalls_at (include_node i) (include_signature i Γ)
        (And (And P (include_items i Γ)) (merge_names (include_node i) (include_signature i Γ) s ⨾ new_names (include_node i) (names_of (include_signature i Γ)) G)) r))
    lines_placed (inclusion i ls) Γ G s P (inr (p, inr (q, inl (inr (u, r))))) =
        inl (at (include_node i) 38 (36 ∷ 38 ∷ []) refl (few_at (include_node i) (merge (include_signature i Γ) s)
        (And (And (And P (include_items i Γ)) (merge_names (include_node i) (include_signature i Γ) s ⨾ new_names (include_node i) (names_of (include_signature i Γ)) G)) (small_types (include_node i) (include_signature i Γ))) r))
    lines_placed (inclusion i ls) Γ G s P (inr (p, inr (q, inr (u, r)))) =
        inr (inr (lines_placed ls Γ G (merge (include_signature i Γ) s)
        (And (And (And P (include_items i Γ)) (merge_names (include_node i) (include_signature i Γ) s ⨾ new_names (include_node i) (names_of (include_signature i Γ)) G))
        (small_types (include_node i) (include_signature i Γ) ⨾ few_names (include_node i) (merge (include_signature i Γ) s))) r))

    include_placed : (i : Include) (Γ : Scope) (P : Typings) → Refuses (include_items i Γ) P f j → PlacedInclude f j i
    include_placed (include n s k xs rs) Γ P r = joined n xs (λ q. actuals_placed xs n 1 Γ P q) (rule_at (schema_named s Γ) n s k xs rs (actual_items xs n 1 Γ) P r)

    actuals_placed : (xs : Exprs) (n k : ℕ) (Γ : Scope) (P : Typings) → Refuses (actual_items xs n k Γ) P f j → At f j n (31 ∷ 32 ∷ 33 ∷ 34 ∷ 37 ∷ 39 ∷ []) ⊎ PlacedExprs f j xs
    actuals_placed none n k Γ P r = absurd r
    actuals_placed (more a xs) n k Γ P (inl (inl (inl r))) = inr (inl (expr_placed a Γ P r))
    actuals_placed (more a xs) n k Γ P (inl (inl (inr (p, inl r)))) = absurd r
    actuals_placed (more a xs) n k Γ P (inl (inl (inr (p, inr (q, r))))) = inl (either_at n (31 ∷ 32 ∷ 33 ∷ 34 ∷ 37 ∷ 39 ∷ []) refl refl (r.0, which_number f _ r.2))
    actuals_placed (more a xs) n k Γ P (inl (inr r)) = inl (at n 34 (31 ∷ 32 ∷ 33 ∷ 34 ∷ 37 ∷ 39 ∷ []) refl (r.1, r.2))
    actuals_placed (more a xs) n k Γ P (inr (p, r)) = right_of n (PlacedExpr f j a) (PlacedExprs f j xs) (actuals_placed xs n (suc k) Γ (And P (piece n (expr_items a Γ ⨾ is_power n k a))) r)

  schema_placed : (x : Schema) (Γ : Scope) (P : Typings) → Refuses (schema_items x Γ) P f j → PlacedSchema f j x
  unfolding schema_items Refuses PlacedSchema has
  schema_placed (plain t) Γ P r = text_placed t Γ blank P r
  schema_placed (from i) Γ P (inl r) = inr (include_placed i Γ P r)
  schema_placed (from i) Γ P (inr (p, r)) = inl (at (include_node i) 38 (38 ∷ []) refl (smalls_at (include_node i) (include_signature i Γ) (And P (include_items i Γ)) r))
  schema_placed (both n a b) Γ P (inl r) = inr (inl (schema_placed a Γ P r))
  schema_placed (both n a b) Γ P (inr (p, inl r)) = inr (inr (schema_placed b Γ (And P (schema_items a Γ)) r))
  schema_placed (both n a b) Γ P (inr (p, inr (q, inl r))) =
      inl (at n 36 (36 ∷ 38 ∷ []) refl (names_at n (schema_signature b Γ) (schema_signature a Γ) (And (And P (schema_items a Γ)) (schema_items b Γ)) r))
  schema_placed (both n a b) Γ P (inr (p, inr (q, inr (u, r)))) =
      inl (at n 38 (36 ∷ 38 ∷ []) refl (few_at n (merge (schema_signature b Γ) (schema_signature a Γ)) (And (And (And P (schema_items a Γ)) (schema_items b Γ)) (merge_names n (schema_signature b Γ) (schema_signature a Γ))) r))

  -- A PARAGRAPH'S FINDING STANDS IN THE TABLE'S PLACE.
  pub paragraph_placed : (p : Paragraph) (D : Dictionary) (P : Typings) → Refuses (paragraph_items p D) P f j → PlacedParagraph f j p
  unfolding paragraph_items Refuses PlacedParagraph has
  paragraph_placed (given n is) D P r = at n 36 (36 ∷ []) refl (new_names_at n is D P r)
  paragraph_placed (axiomatic n t) D P r = text_placed t (globals D) D P r
  paragraph_placed (schema n s ps x) D P r = schema_placed x (with_parameters ps 1 (globals D)) P r
  paragraph_placed (abbreviation n i ps a) D P (inl (inl r)) = inr (expr_placed a (with_parameters ps 1 (globals D)) P r)
  paragraph_placed (abbreviation n i ps a) D P (inl (inr r)) = inl (at n 34 (34 ∷ 36 ∷ 38 ∷ []) refl (r.1, r.2))
  paragraph_placed (abbreviation n i ps a) D P (inr (p, inl r)) =
      inl (at n 36 (34 ∷ 36 ∷ 38 ∷ []) refl (new_names_at n (i ∷ []) D (And P (piece n (expr_items a (with_parameters ps 1 (globals D))))) r))
  paragraph_placed (abbreviation n i ps a) D P (inr (p, inr (q, r))) = inl (at n 38 (34 ∷ 36 ∷ 38 ∷ []) refl (r.0, r.1))
  paragraph_placed (constraint n p) D P r = pred_placed p (globals D) P r

  -- Through the paragraphs, with 22.
  pub refusal_placed : (ps : List Paragraph) (D : Dictionary) (d : ℕ) → RefusesAt Any ps D d f j → PlacedParagraphs f j ps
  unfolding RefusesAt PlacedParagraphs has
  refusal_placed [] D d r = absurd r
  refusal_placed (p ∷ ps) D d (inl r) = inl (paragraph_placed p D Any r)
  refusal_placed (p ∷ ps) D d (inr (a, (τ, m, inl r))) = inr (inl (at (paragraph_node p) 22 (22 ∷ []) refl (r.1, r.2)))
  refusal_placed (p ∷ ps) D d (inr (a, (τ, m, inr r))) = inr (inr (refusal_placed ps (extend p D τ) d r.1))
