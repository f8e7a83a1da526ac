-- WHERE 36 AND 38 COME: at a Decl, an Include line, a Conjunction, a Given, an Abbreviation, and at the Include of a SchemaSet or of a Schema, after the
-- items before at the node have passed; and that the types of the signatures are settled there, so that any typing τ so far says which they are (R15).
use mathlib.Core.Path.{◌≡◌, refl, ap, ◌∙◌}
use mathlib.Core.Bool.{Bool, true, false}
use mathlib.Core.List.{List, [], ◌∷◌}
use mathlib.Core.Logic.{◌↔◌, ◌⊎◌, inl, inr}
use Prim.Native.Nat.{ℕ, ◌≤◌, ◌<◌}
use lib.Dec.{ltb}
use borrow.Author.Tests.{ltb-true, ltb-false}
use Rattle.words.specs.Loops.{has}
use Rattle.reader_rules.specs.Tree.{Expr, schema_set, Lines, end, declaration, inclusion, Include, Schema, from, both, given, abbreviation, expr_node, include_node}
use Rattle.types_rules.specs.Types.{size, under}
use Rattle.types_rules.specs.Trees.{finite}
use Rattle.checker_rules.specs.Unknowns.{Valuation, unknown_at, power_of}
use Rattle.checker_rules.specs.Items.{Items, ◌⨾◌, small, piece, Meets, Agree, And, Passes, Refuses, MeetsIn, Typings}
use Rattle.checker_rules.specs.Dictionary.{Dictionary}
use Rattle.checker_rules.specs.Signatures.{Signature, no_names, naming, count_names, names_of, binding_of, merge, declare}
use Rattle.checker_rules.specs.Scopes.{Scope, globals, with_parameters, include_signature, schema_signature}
use Rattle.checker_rules.specs.Conditions.{merge_declared, merge_names, new_names, small_types, few_names, type_of, typed, is_power}
use Rattle.checker_rules.specs.Rules.{expr_items, lines_items, include_items, schema_items, paragraph_items}
use Rattle.checker_rules.specs.Globals.{is_global}
use Rattle.checker_rules.specs.Typing.{type_at, type_in}
use Rattle.checker_rules.specs.Findings.{Or, GlobalTwice, Clash, Clashes, TooBig, LinesFind}
use Rattle.checker_rules.proofs.ItemLaws.{table, Agrees, agreed}
use Rattle.checker_rules.proofs.ExpressionRoot.{root}
use Rattle.checker_rules.proofs.OneType.{one_e, join_same, names_same, incl_same, sig_same}
use Rattle.checker_rules.proofs.TypingLaws.{none_has, which_has, first_has, few_law}
use Rattle.checker_rules.proofs.FindingLaws.{refuses_where, test_then, after, in_turn, renamed_test, few_tests, news_tests, Settled, SettledNames, settled_more}
use Rattle.checker_rules.proofs.FindingLaws.{declared_tests, merge_tests, small_tests, smalls_tests, not_big, declared_met, merged_met, news_met, or_map, both_ways}

-- ---- a Decl
abbrev pub declared : ℕ → Expr → Scope → Items
declared n a Γ = piece n (expr_items a Γ ⨾ is_power n 0 a)

module _ (n : ℕ) (a : Expr) (is : List ℕ) (ls : Lines) (Γ : Scope) (G : Dictionary) (r : Signature) (P : Typings) (p : Passes (declared n a Γ) P) where
  type_settled : Settled (And P (declared n a Γ)) (unknown_at n 0)
  unfolding Passes Agree under MeetsIn
  type_settled σ τ x y = (p.1 σ τ x y).1.0

  -- the lines after it have settled types before them too
  pub declaration_settled : SettledNames P r → SettledNames (And P (declared n a Γ)) (declare is (unknown_at n 0) r)
  declaration_settled h σ τ x y = names_same σ τ is (unknown_at n 0) r (type_settled σ τ x y) (h σ τ x.0 y.0)

  pub declaration_findings : SettledNames P r → (τ : Valuation) → And P (declared n a Γ) finite τ → (h j : ℕ) → Refuses (lines_items (declaration n a is ls) Γ G r) P h j
      ↔ Or 36 n (Clash τ (type_at τ n) is r ⊎ GlobalTwice is G) h j (Or 38 n ((32 < size (type_at τ n)) ⊎ (16 < count_names (declare is (unknown_at n 0) r))) h j
      (Refuses (lines_items ls Γ G (declare is (unknown_at n 0) r))
      (And (And (And P (declared n a Γ)) (merge_declared n is (unknown_at n 0) r ⨾ new_names n is G)) (small n (unknown_at n 0) ⨾ few_names n (declare is (unknown_at n 0) r))) h j))
  unfolding lines_items under MeetsIn
  declaration_findings z τ x h j =
      let t = unknown_at n 0 in
      let r' = declare is t r in
      let Q : Typings = And P (declared n a Γ) in
      let m : Items = merge_declared n is t r ⨾ new_names n is G in
      let s : Items = small n t ⨾ few_names n r' in
      let rest = lines_items ls Γ G r' in
      both_ways _ _ _ (after (declared n a Γ) (m ⨾ s ⨾ rest) P p h j)
      (both_ways _ _ _ (test_then m (s ⨾ rest) Q 36 n _
      (in_turn (merge_declared n is t r) (new_names n is G) Q 36 n _ _
      (declared_tests n is t r Q τ x type_settled (settled_more P (declared n a Γ) r z)) (news_tests n is G Q).says (λ w. news_tests n is G (And Q (merge_declared n is t r)))) h j)
      (or_map 36 n _ h j _ _ (λ w. let met : And Q m finite τ = (x, (declared_met n is t r τ (λ c. w (inl c)), news_met n is G τ (λ c. w (inr c)))) in
      test_then s rest (And Q m) 38 n _
      (in_turn (small n t) (few_names n r') (And Q m) 38 n _ _
      (small_tests n t (And Q m) τ met (λ σ υ c d. type_settled σ υ c.0 d.0)) (few_tests n r' (And Q m)).says (λ v. few_tests n r' (And (And Q m) (small n t)))) h j)))

-- ---- an Include line, a Schema that is an Include, a SchemaSet
module _ (i : Include) (Γ : Scope) (P : Typings) (p : Passes (include_items i Γ) P) where
  pub include_settled : SettledNames (And P (include_items i Γ)) (include_signature i Γ)
  include_settled σ τ x y = incl_same σ τ i Γ (agreed (include_items i Γ) P σ τ p x y)

  pub inclusion_settled : (r : Signature) → SettledNames P r → SettledNames (And P (include_items i Γ)) (merge (include_signature i Γ) r)
  inclusion_settled r h σ τ x y = join_same σ τ (include_signature i Γ) r (include_settled σ τ x y) (h σ τ x.0 y.0)

  pub inclusion_findings : (ls : Lines) (G : Dictionary) (r : Signature) → SettledNames P r → (τ : Valuation) → And P (include_items i Γ) finite τ → (h j : ℕ)
      → Refuses (lines_items (inclusion i ls) Γ G r) P h j
      ↔ Or 36 (include_node i) (Clashes τ (include_signature i Γ) r ⊎ GlobalTwice (names_of (include_signature i Γ)) G) h j
      (Or 38 (include_node i) (TooBig τ (include_signature i Γ) ⊎ (16 < count_names (merge (include_signature i Γ) r))) h j
      (Refuses (lines_items ls Γ G (merge (include_signature i Γ) r))
      (And (And (And P (include_items i Γ)) (merge_names (include_node i) (include_signature i Γ) r ⨾ new_names (include_node i) (names_of (include_signature i Γ)) G))
      (small_types (include_node i) (include_signature i Γ) ⨾ few_names (include_node i) (merge (include_signature i Γ) r))) h j))
  unfolding lines_items MeetsIn
  inclusion_findings ls G r z τ x h j =
      let n = include_node i in
      let b = include_signature i Γ in
      let r' = merge b r in
      let Q : Typings = And P (include_items i Γ) in
      let m : Items = merge_names n b r ⨾ new_names n (names_of b) G in
      let s : Items = small_types n b ⨾ few_names n r' in
      let rest = lines_items ls Γ G r' in
      both_ways _ _ _ (after (include_items i Γ) (m ⨾ s ⨾ rest) P p h j)
      (both_ways _ _ _ (test_then m (s ⨾ rest) Q 36 n _
      (in_turn (merge_names n b r) (new_names n (names_of b) G) Q 36 n _ _
      (merge_tests n b r Q τ x include_settled (settled_more P (include_items i Γ) r z)) (news_tests n (names_of b) G Q).says (λ w. news_tests n (names_of b) G (And Q (merge_names n b r)))) h j)
      (or_map 36 n _ h j _ _ (λ w. let met : And Q m finite τ = (x, (merged_met n b r τ (λ c. w (inl c)), news_met n (names_of b) G τ (λ c. w (inr c)))) in
      test_then s rest (And Q m) 38 n _
      (in_turn (small_types n b) (few_names n r') (And Q m) 38 n _ _
      (smalls_tests n b (And Q m) τ met (λ σ υ c d. include_settled σ υ c.0 d.0)) (few_tests n r' (And Q m)).says (λ v. few_tests n r' (And (And Q m) (small_types n b)))) h j)))

  pub from_findings : (τ : Valuation) → And P (include_items i Γ) finite τ → (h j : ℕ)
      → Refuses (schema_items (from i) Γ) P h j ↔ ((h ≡ 38) × (j ≡ include_node i) × TooBig τ (include_signature i Γ))
  unfolding schema_items
  from_findings τ x h j =
      let n = include_node i in
      let b = include_signature i Γ in
      both_ways _ _ _ (after (include_items i Γ) (small_types n b) P p h j)
      (refuses_where (small_types n b) (And P (include_items i Γ)) 38 n _ (smalls_tests n b (And P (include_items i Γ)) τ x include_settled) h j)

  pub schema_set_findings : (k : ℕ) (τ : Valuation) → And P (include_items i Γ) finite τ → (h j : ℕ) → Refuses (expr_items (schema_set k i) Γ) P h j
      ↔ Or 38 (include_node i) (TooBig τ (include_signature i Γ)) h j
      (Refuses (typed k (power_of (binding_of (include_signature i Γ)))) (And (And P (include_items i Γ)) (small_types (include_node i) (include_signature i Γ))) h j)
  unfolding expr_items
  schema_set_findings k τ x h j =
      let n = include_node i in
      let b = include_signature i Γ in
      both_ways _ _ _ (after (include_items i Γ) (small_types n b ⨾ typed k (power_of (binding_of b))) P p h j)
      (test_then (small_types n b) (typed k (power_of (binding_of b))) (And P (include_items i Γ)) 38 n _ (smalls_tests n b (And P (include_items i Γ)) τ x include_settled) h j)

-- ---- the lines of a Text, from any that leave their types settled
smalls_met : (n : ℕ) (s : Signature) (τ : Valuation) → (TooBig τ s → ⊥) → Meets (small_types n s) τ
unfolding small_types MeetsIn TooBig
smalls_met n no_names τ w = tt
smalls_met n (naming i t s) τ w = (not_big _ (λ z. w (inl z)), smalls_met n s τ (λ z. w (inr z)))

few_met : (n : ℕ) (s : Signature) (τ : Valuation) → (16 < count_names s → ⊥) → Meets (few_names n s) τ
few_met n s τ w = (few_law τ n s).1 (go (ltb 16 (count_names s)) refl)
  where
    go : (b : Bool) → ltb 16 (count_names s) ≡ b → count_names s ≤ 16
    go true e = absurd (w (ltb-true 16 _ e))
    go false e = ltb-false 16 _ e

first_then : (x y : Items) (P : Typings) (h j : ℕ) (R : Valuation → Type 0) → (τ : Valuation) → P finite τ → ((p : Passes x P) (τ : Valuation) → And P x finite τ → Refuses (x ⨾ y) P h j ↔ R τ)
    → Refuses (x ⨾ y) P h j ↔ (Refuses x P h j ⊎ (Passes x P × ((τ : Valuation) × And P x finite τ × R τ)))
unfolding Refuses
first_then x y P h j R τ s k = (to, from')
  where
    to : Refuses x P h j ⊎ (Passes x P × Refuses y (And P x) h j) → Refuses x P h j ⊎ (Passes x P × ((τ : Valuation) × And P x finite τ × R τ))
    to (inl r) = inl r
    to (inr r) = let t = table x P r.0 τ s in inr (r.0, (t.0, (t.1, t.2), (k r.0 t.0 (t.1, t.2)).0 (inr r)))

    from' : Refuses x P h j ⊎ (Passes x P × ((τ : Valuation) × And P x finite τ × R τ)) → Refuses x P h j ⊎ (Passes x P × Refuses y (And P x) h j)
    from' (inl r) = inl r
    from' (inr r) = (k r.0 r.1.0 r.1.1).1 r.1.2

-- WHAT THE LINES OF A TEXT REFUSE, whatever comes before it.
pub lines_find : (ls : Lines) (Γ : Scope) (G : Dictionary) (r : Signature) (P : Typings) → SettledNames P r → (τ : Valuation) → P finite τ → (h j : ℕ)
    → Refuses (lines_items ls Γ G r) P h j ↔ LinesFind ls Γ G r P h j
unfolding LinesFind lines_items MeetsIn under
lines_find end Γ G r P z τ s h j = unfold Refuses in (λ w. w, λ w. w)
lines_find (declaration n a is ls) Γ G r P z τ s h j =
    let t = unknown_at n 0 in
    let r' = declare is t r in
    let x = declared n a Γ in
    let m : Items = merge_declared n is t r ⨾ new_names n is G in
    let c : Items = small n t ⨾ few_names n r' in
    first_then x (m ⨾ c ⨾ lines_items ls Γ G r') P h j _ τ s
    (λ p σ met. both_ways _ _ _ (declaration_findings n a is ls Γ G r P p z σ met h j)
    (or_map 36 n _ h j _ _ (λ w. or_map 38 n _ h j _ _ (λ v. lines_find ls Γ G r' (And (And (And P x) m) c)
    (λ α β e g. declaration_settled n a is ls Γ G r P p z α β e.0.0 g.0.0) σ
    ((met, (declared_met n is t r σ (λ q. w (inl q)), news_met n is G σ (λ q. w (inr q)))), (not_big _ (λ q. v (inl q)), few_met n r' σ (λ q. v (inr q)))) h j))))
lines_find (inclusion i ls) Γ G r P z τ s h j =
    let n = include_node i in
    let b = include_signature i Γ in
    let r' = merge b r in
    let x = include_items i Γ in
    let m : Items = merge_names n b r ⨾ new_names n (names_of b) G in
    let c : Items = small_types n b ⨾ few_names n r' in
    first_then x (m ⨾ c ⨾ lines_items ls Γ G r') P h j _ τ s
    (λ p σ met. both_ways _ _ _ (inclusion_findings i Γ P p ls G r z σ met h j)
    (or_map 36 n _ h j _ _ (λ w. or_map 38 n _ h j _ _ (λ v. lines_find ls Γ G r' (And (And (And P x) m) c)
    (λ α β e g. inclusion_settled i Γ P p r z α β e.0.0 g.0.0) σ
    ((met, (merged_met n b r σ (λ q. w (inl q)), news_met n (names_of b) G σ (λ q. w (inr q)))), (smalls_met n b σ (λ q. v (inl q)), few_met n r' σ (λ q. v (inr q)))) h j))))

-- From the start of a Text nothing is declared.
pub text_lines_find : (ls : Lines) (Γ : Scope) (G : Dictionary) (P : Typings) (τ : Valuation) → P finite τ → (h j : ℕ)
    → Refuses (lines_items ls Γ G no_names) P h j ↔ LinesFind ls Γ G no_names P h j
text_lines_find ls Γ G P τ s h j = lines_find ls Γ G no_names P (λ α β e g. tt) τ s h j

-- ---- a Conjunction
pub both_findings : (n : ℕ) (x y : Schema) (Γ : Scope) (P : Typings) → Passes (schema_items x Γ) P → Passes (schema_items y Γ) (And P (schema_items x Γ))
    → (τ : Valuation) → And (And P (schema_items x Γ)) (schema_items y Γ) finite τ → (h j : ℕ) → Refuses (schema_items (both n x y) Γ) P h j
    ↔ Or 36 n (Clashes τ (schema_signature y Γ) (schema_signature x Γ)) h j ((h ≡ 38) × (j ≡ n) × (16 < count_names (merge (schema_signature y Γ) (schema_signature x Γ))))
unfolding schema_items
both_findings n x y Γ P p q τ w h j =
    let a = schema_items x Γ in
    let b = schema_items y Γ in
    let s = schema_signature x Γ in
    let t = schema_signature y Γ in
    let Q : Typings = And (And P a) b in
    let m = merge_names n t s in
    let f = few_names n (merge t s) in
    both_ways _ _ _ (after a (b ⨾ m ⨾ f) P p h j)
    (both_ways _ _ _ (after b (m ⨾ f) (And P a) q h j)
    (both_ways _ _ _ (test_then m f Q 36 n _ (merge_tests n t s Q τ w
    (λ σ υ c d. sig_same σ υ y Γ (agreed b (And P a) σ υ q c d)) (λ σ υ c d. sig_same σ υ x Γ (agreed a P σ υ p c.0 d.0))) h j)
    (or_map 36 n _ h j _ _ (λ v. refuses_where f (And Q m) 38 n _ (few_tests n (merge t s) (And Q m)) h j))))

-- ---- Given and Abbreviation
pub given_findings : (n : ℕ) (is : List ℕ) (D : Dictionary) (P : Typings) (h j : ℕ) → Refuses (paragraph_items (given n is) D) P h j ↔ ((h ≡ 36) × (j ≡ n) × GlobalTwice is D)
unfolding paragraph_items
given_findings n is D P h j = refuses_where (new_names n is D) P 36 n _ (news_tests n is D P) h j

pub abbreviation_findings : (n i : ℕ) (ps : List ℕ) (a : Expr) (D : Dictionary) (P : Typings) → Passes (piece n (expr_items a (with_parameters ps 1 (globals D)))) P
    → (τ : Valuation) → And P (piece n (expr_items a (with_parameters ps 1 (globals D)))) finite τ → (h j : ℕ) → Refuses (paragraph_items (abbreviation n i ps a) D) P h j
    ↔ Or 36 n (is_global i D ≡ true) h j ((h ≡ 38) × (j ≡ n) × (32 < size (type_in τ a)))
unfolding paragraph_items under Agrees
abbreviation_findings n i ps a D P p τ x h j =
    let Γ = with_parameters ps 1 (globals D) in
    let e = piece n (expr_items a Γ) in
    let w = new_names n (i ∷ []) D in
    let Q : Typings = And P e in
    both_ways _ _ _ (after e (w ⨾ small n (type_of a)) P p h j)
    (both_ways _ _ _ (test_then w (small n (type_of a)) Q 36 n _ (renamed_test w Q 36 n _ _ one_name (news_tests n (i ∷ []) D Q)) h j)
    (or_map 36 n _ h j _ _ (λ v. refuses_where (small n (type_of a)) (And Q w) 38 n _
    (small_tests n (type_of a) (And Q w) τ (x, news_met n (i ∷ []) D τ (λ g. v (one_name.0 g))) settled) h j)))
  where
    one_name : GlobalTwice (i ∷ []) D ↔ (is_global i D ≡ true)
    one_name = (λ g. go g (which_has i g.0 [] g.1), λ e. (i, first_has i [], e))
      where
        go : (g : GlobalTwice (i ∷ []) D) → (i ≡ g.0) ⊎ (has g.0 [] ≡ true) → is_global i D ≡ true
        go g (inl e) = ap (λ z. is_global z D) e ∙ g.2
        go g (inr e) = absurd (none_has g.0 e)

    settled : Settled (And (And P (piece n (expr_items a (with_parameters ps 1 (globals D))))) (new_names n (i ∷ []) D)) (type_of a)
    settled σ υ c d =
        let g = agreed (piece n (expr_items a (with_parameters ps 1 (globals D)))) P σ υ p c.0 d.0 in
        one_e σ υ a (with_parameters ps 1 (globals D)) g.0 g.1 (expr_node a) (root a)
