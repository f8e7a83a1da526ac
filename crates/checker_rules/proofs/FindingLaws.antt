-- WHERE THE FINDINGS 31, 32, 36, 37 AND 38 COME, in lookups, signatures and types (specs/Findings): one law for each row of the table and each kind of
-- node. P are the valuations that meet the items before.
use mathlib.Core.Path.{◌≡◌, refl, ap, ap₂, sym, subst, ◌∙◌}
use mathlib.Core.Bool.{Bool, true, false, cond, false≢true}
use mathlib.Core.List.{List, [], ◌∷◌}
use mathlib.Core.Option.{Option, some, none as nothing}
use mathlib.Core.Logic.{◌↔◌, ◌⊎◌, inl, inr}
use Prim.Native.Nat.{ℕ, zero, suc, ◌≤◌, ◌<◌}
use native.Mathlib.Omega.{arith}
use lib.Dec.{ltb, eqb}
use borrow.Author.Tests.{eqb-true, eqb-false, ltb-true, ltb-false, lt-ltb}
use Rattle.words.specs.Loops.{has}
use Rattle.reader_rules.specs.Tree.{reference, theta, Exprs, none, more, include}
use Rattle.reader_rules.specs.Tree.{exprs_length}
use Rattle.types_rules.specs.Former.{same_former}
use Rattle.types_rules.specs.Types.{Ty, node, Tys, tnil, tcons, Term, under, size}
use Rattle.types_rules.specs.Instance.{instance}
use Rattle.types_rules.proofs.Terms.{same_true, same_false}
use Rattle.types_rules.proofs.Solutions.{tcons_0, tcons_1, node_0, node_1}
use Rattle.types_rules.specs.Trees.{finite}
use Rattle.checker_rules.specs.Strokes.{decorate, takes}
use Rattle.checker_rules.specs.Unknowns.{Valuation, slot, row}
use Rattle.checker_rules.specs.Items.{Items, skip, ◌⨾◌, fresh, equate, small, refusal, Meets, And, Passes, Unsolved, Refuses, MeetsIn, Typings}
use Rattle.checker_rules.specs.Dictionary.{Dictionary, Named, unnamed, of_local, of_global, name_in, NamedSchema, no_schema, a_schema}
use Rattle.checker_rules.specs.Signatures.{Signature, no_names, naming, count_names, names_of, binding_of, term_in, some_stroked, wrong_names}
use Rattle.checker_rules.specs.Scopes.{Scope, name_at, schema_named}
use Rattle.checker_rules.specs.Conditions.{refuse_if, same_type, merge_declared, merge_names, new_name, new_names, small_types, few_names, typed}
use Rattle.checker_rules.specs.Conditions.{are_powers, fresh_row}
use Rattle.checker_rules.specs.Rules.{reference_items, theta_name, theta_names, theta_signature, theta_items, include_rule, expr_items, exprs_items}
use Rattle.checker_rules.specs.Rules.{include_items, actual_items}
use Rattle.checker_rules.specs.Globals.{is_named, is_global}
use Rattle.checker_rules.specs.Typing.{schema_of, schema_names, Stroked, BadNames}
use Rattle.checker_rules.specs.Findings.{Or, parameter_count, WrongActuals, AbsentOrGeneric, SomeAbsent, ThetaUnknown, HasParameters, ThetaStroked, Counted}
use Rattle.checker_rules.specs.Findings.{WrongCount, IncludeNames, GlobalTwice, Clash, Clashes, TooBig}
use Rattle.checker_rules.proofs.ItemLaws.{not_both, one}
use Rattle.checker_rules.proofs.SignatureTerms.{HavingOption, term_in_having}
use Rattle.checker_rules.proofs.OneType.{SameNames}
use Rattle.checker_rules.proofs.TypingLaws.{first_has, rest_has, none_has, which_has, stroked_law, names_law, merged_as_law, news_law}

-- ---- items that test one thing: they stop with f at n where A holds, and pass where it does not
pub record Tests (t : Items) (P : Typings) (f n : ℕ) (A : Type 0) : Type 0 where
  pub says : A ⊎ (A → ⊥)
  pub goes : (A → ⊥) → Passes t P
  pub stops : A → Refuses t P f n

pub passes_where : (t : Items) (P : Typings) (f n : ℕ) (A : Type 0) → Tests t P f n A → Passes t P ↔ (A → ⊥)
passes_where t P f n A x = (λ p a. not_both t P f n p (x.stops a), x.goes)

pub refuses_where : (t : Items) (P : Typings) (f n : ℕ) (A : Type 0) → Tests t P f n A → (h j : ℕ) → Refuses t P h j ↔ ((h ≡ f) × (j ≡ n) × A)
refuses_where t P f n A x h j = (λ r. go r x.says, λ w. subst (λ (z : ℕ). Refuses t P z j) (sym w.0) (subst (λ (z : ℕ). Refuses t P f z) (sym w.1) (x.stops w.2)))
  where
    go : Refuses t P h j → A ⊎ (A → ⊥) → (h ≡ f) × (j ≡ n) × A
    go r (inl a) = let e = one t P h j f n r (x.stops a) in (e.0, e.1, a)
    go r (inr a) = absurd (not_both t P h j (x.goes a) r)

pub either : (A B : Type 0) → A ⊎ (A → ⊥) → B ⊎ (B → ⊥) → (A ⊎ B) ⊎ ((A ⊎ B) → ⊥)
either A B (inl a) b = inl (inl a)
either A B (inr a) (inl b) = inl (inr b)
either A B (inr a) (inr b) = inr neither
  where
    neither : A ⊎ B → ⊥
    neither (inl x) = a x
    neither (inr x) = b x

-- Two tests with one finding at one node.
pub in_turn : (t u : Items) (P : Typings) (f n : ℕ) (A B : Type 0) → Tests t P f n A → B ⊎ (B → ⊥) → ((A → ⊥) → Tests u (And P t) f n B) → Tests (t ⨾ u) P f n (A ⊎ B)
unfolding Passes Refuses
in_turn t u P f n A B x d y = record {
  says = either A B x.says d;
  goes = λ w. let a : A → ⊥ = λ z. w (inl z) in (x.goes a, (y a).goes (λ z. w (inr z)));
  stops = λ w. go x.says w;
}
  where
    go : A ⊎ (A → ⊥) → A ⊎ B → Refuses t P f n ⊎ (Passes t P × Refuses u (And P t) f n)
    go (inl a) w = inl (x.stops a)
    go (inr a) (inl z) = absurd (a z)
    go (inr a) (inr b) = inr (x.goes a, (y a).stops b)

-- A test, and what comes after it.
pub test_then : (t v : Items) (P : Typings) (f n : ℕ) (A : Type 0) → Tests t P f n A → (h j : ℕ) → Refuses (t ⨾ v) P h j ↔ Or f n A h j (Refuses v (And P t) h j)
unfolding Refuses
test_then t v P f n A x h j = (to, from)
  where
    to : Refuses t P h j ⊎ (Passes t P × Refuses v (And P t) h j) → Or f n A h j (Refuses v (And P t) h j)
    to (inl r) = inl ((refuses_where t P f n A x h j).0 r)
    to (inr r) = inr ((passes_where t P f n A x).0 r.0, r.1)

    from : Or f n A h j (Refuses v (And P t) h j) → Refuses t P h j ⊎ (Passes t P × Refuses v (And P t) h j)
    from (inl w) = inl ((refuses_where t P f n A x h j).1 w)
    from (inr w) = inr (x.goes w.0, w.1)

pub after : (t v : Items) (P : Typings) → Passes t P → (h j : ℕ) → Refuses (t ⨾ v) P h j ↔ Refuses v (And P t) h j
unfolding Refuses
after t v P p h j = (to, λ r. inr (p, r))
  where
    to : Refuses t P h j ⊎ (Passes t P × Refuses v (And P t) h j) → Refuses v (And P t) h j
    to (inl r) = absurd (not_both t P h j p r)
    to (inr r) = r.1

-- ---- tests by a Bool
test_if : (b : Bool) (f n : ℕ) (P : Typings) (A : Type 0) → (b ≡ true) ↔ A → Tests (refuse_if b f n) P f n A
unfolding refuse_if Passes Refuses
test_if true f n P A e = record { says = inl (e.0 refl); goes = λ w. absurd (w (e.0 refl)); stops = λ w. (refl, refl) }
test_if false f n P A e = record { says = inr (λ a. false≢true (e.1 a)); goes = λ w. tt; stops = λ a. absurd (false≢true (e.1 a)) }

pub few_tests : (n : ℕ) (s : Signature) (P : Typings) → Tests (few_names n s) P 38 n (16 < count_names s)
unfolding few_names
few_tests n s P = test_if (ltb 16 (count_names s)) 38 n P (16 < count_names s) (λ e. ltb-true 16 _ e, λ l. lt-ltb 16 _ l)

-- ---- 36, second case
test_skip : (P : Typings) (f n : ℕ) (A : Type 0) → (A → ⊥) → Tests skip P f n A
unfolding Passes
test_skip P f n A w = record { says = inr w; goes = λ z. tt; stops = λ a. absurd (w a) }

new_tests : (n : ℕ) (m : Named) (P : Typings) → Tests (new_name n m) P 36 n (is_named m ≡ true)
unfolding new_name is_named Passes Refuses
new_tests n unnamed P = test_skip P 36 n _ (λ e. false≢true e)
new_tests n (of_local t) P = record { says = inl refl; goes = λ w. absurd (w refl); stops = λ a. (refl, refl) }
new_tests n (of_global p g) P = record { says = inl refl; goes = λ w. absurd (w refl); stops = λ a. (refl, refl) }

-- the same tests under another name of the condition
pub renamed_test : (t : Items) (P : Typings) (f n : ℕ) (A B : Type 0) → A ↔ B → Tests t P f n A → Tests t P f n B
renamed_test t P f n A B e x = record { says = go x.says; goes = λ w. x.goes (λ a. w (e.0 a)); stops = λ b. x.stops (e.1 b) }
  where
    go : A ⊎ (A → ⊥) → B ⊎ (B → ⊥)
    go (inl a) = inl (e.0 a)
    go (inr a) = inr (λ b. a (e.1 b))

pub news_tests : (n : ℕ) (is : List ℕ) (G : Dictionary) (P : Typings) → Tests (new_names n is G) P 36 n (GlobalTwice is G)
unfolding new_names
news_tests n [] G P = test_skip P 36 n _ (λ w. none_has w.0 w.1)
news_tests n (j ∷ is) G P =
    let r = news_tests n is G in
    renamed_test _ P 36 n _ _ (to, from) (in_turn (new_name n (name_in j G)) (new_names n is G) P 36 n (is_global j G ≡ true) (GlobalTwice is G) (new_tests n (name_in j G) P) (r P).says (λ w. r (And P (new_name n (name_in j G)))))
  where
    to : (is_global j G ≡ true) ⊎ GlobalTwice is G → GlobalTwice (j ∷ is) G
    to (inl e) = (j, first_has j is, e)
    to (inr w) = (w.0, rest_has j w.0 is w.1, w.2)

    from : GlobalTwice (j ∷ is) G → (is_global j G ≡ true) ⊎ GlobalTwice is G
    from w = go (which_has j w.0 is w.1)
      where
        go : (j ≡ w.0) ⊎ (has w.0 is ≡ true) → (is_global j G ≡ true) ⊎ GlobalTwice is G
        go (inl e) = inl (ap (λ x. is_global x G) e ∙ w.2)
        go (inr e) = inr (w.0, e, w.2)

-- ---- two types are equal or not
mutual
  pub type_decide : (a b : Ty) → (a ≡ b) ⊎ (a ≡ b → ⊥)
  type_decide (node h gs) (node k hs) = go (same_former h k) refl (types_decide gs hs)
    where
      go : (x : Bool) → same_former h k ≡ x → (gs ≡ hs) ⊎ (gs ≡ hs → ⊥) → (node h gs ≡ node k hs) ⊎ (node h gs ≡ node k hs → ⊥)
      go true e (inl q) = inl (ap₂ node (same_true h k e) q)
      go true e (inr q) = inr (λ z. q (node_1 _ _ _ _ z))
      go false e d = inr (λ z. same_false h k e (node_0 _ _ _ _ z))

  types_decide : (gs hs : Tys) → (gs ≡ hs) ⊎ (gs ≡ hs → ⊥)
  types_decide tnil tnil = inl refl
  types_decide tnil (tcons b hs) = inr (λ e. let z : ◌≡◌ {A = ℕ} 0 1 = cc in omega arith)
  types_decide (tcons a gs) tnil = inr (λ e. let z : ◌≡◌ {A = ℕ} 0 1 = cc in omega arith)
  types_decide (tcons a gs) (tcons b hs) = go (type_decide a b) (types_decide gs hs)
    where
      go : (a ≡ b) ⊎ (a ≡ b → ⊥) → (gs ≡ hs) ⊎ (gs ≡ hs → ⊥) → (tcons a gs ≡ tcons b hs) ⊎ (tcons a gs ≡ tcons b hs → ⊥)
      go (inl p) (inl q) = inl (ap₂ tcons p q)
      go (inl p) (inr q) = inr (λ z. q (tcons_1 _ _ _ _ z))
      go (inr p) q = inr (λ z. p (tcons_0 _ _ _ _ z))

-- ---- 36, first case, and 38: where the valuations so far agree on the types, so that any one of them, τ, says what they are
abbrev pub Settled : Typings → Term → Type 0
Settled P t = (σ τ : Valuation) → P finite σ → P finite τ → under σ t ≡ under τ t

abbrev pub SettledNames : Typings → Signature → Type 0
SettledNames P s = (σ τ : Valuation) → P finite σ → P finite τ → SameNames σ τ s

-- valuations that meet more items agree as much
pub settled_more : (P : Typings) (x : Items) (s : Signature) → SettledNames P s → SettledNames (And P x) s
settled_more P x s h = λ σ τ a b. h σ τ a.0 b.0

term_same : (σ τ : Valuation) (i : ℕ) (r : Signature) → SameNames σ τ r → (u : Term) → term_in i r ≡ some u → under σ u ≡ under τ u
term_same σ τ i r h u e = subst (HavingOption (λ t. under σ t ≡ under τ t)) e (term_in_having (λ t. under σ t ≡ under τ t) i r h)

term_settled : (P : Typings) (i : ℕ) (r : Signature) → SettledNames P r → (u : Term) → term_in i r ≡ some u → Settled P u
term_settled P i r h u e = λ σ τ a b. term_same σ τ i r (h σ τ a b) u e

-- where a test passes, τ meets it
same_met : (n : ℕ) (t : Term) (o : Option Term) (τ : Valuation) → (((u : Term) × (o ≡ some u) × (under τ t ≡ under τ u → ⊥)) → ⊥) → Meets (same_type n t o) τ
unfolding same_type MeetsIn
same_met n t nothing τ w = tt
same_met n t (some v) τ w = go (type_decide (under τ t) (under τ v))
  where
    go : (under τ t ≡ under τ v) ⊎ (under τ t ≡ under τ v → ⊥) → under τ t ≡ under τ v
    go (inl e) = e
    go (inr e) = absurd (w (v, refl, e))

-- one name, with what is there already
same_tests : (n : ℕ) (t : Term) (o : Option Term) (P : Typings) (τ : Valuation) → P finite τ → Settled P t → ((u : Term) → o ≡ some u → Settled P u)
    → Tests (same_type n t o) P 36 n ((u : Term) × (o ≡ some u) × (under τ t ≡ under τ u → ⊥))
unfolding same_type Passes Refuses
same_tests n t nothing P τ p a b = test_skip P 36 n _ (λ w. none_some w.0 w.1)
  where
    none_some : (u : Term) → nothing ≡ some u → ⊥
    none_some u e = let z : ◌≡◌ {A = ℕ} 0 1 = cc in omega arith
same_tests n t (some v) P τ p a b = go (type_decide (under τ t) (under τ v))
  where
    it : (u : Term) → some v ≡ some u → v ≡ u
    it u e = cc

    go : (under τ t ≡ under τ v) ⊎ (under τ t ≡ under τ v → ⊥) → Tests (equate 36 n t v) P 36 n ((u : Term) × (some v ≡ some u) × (under τ t ≡ under τ u → ⊥))
    go (inl e) = record {
      says = inr (λ w. w.2 (e ∙ ap (under τ) (it w.0 w.1)));
      goes = λ w. (τ, p, e);
      stops = λ w. absurd (w.2 (e ∙ ap (under τ) (it w.0 w.1)));
    }
    go (inr e) = record {
      says = inl (v, refl, e);
      goes = λ w. absurd (w (v, refl, e));
      stops = λ w. (refl, refl, λ σ q z. e (a τ σ p q ∙ z ∙ b v refl σ τ q p));
    }

-- a Decl's identifiers, all of type t
pub declared_tests : (n : ℕ) (is : List ℕ) (t : Term) (r : Signature) (P : Typings) (τ : Valuation) → P finite τ → Settled P t → SettledNames P r
    → Tests (merge_declared n is t r) P 36 n (Clash τ (under τ t) is r)
unfolding merge_declared
declared_tests n [] t r P τ p a b = test_skip P 36 n _ (λ w. none_has w.0 w.1)
declared_tests n (j ∷ is) t r P τ p a b =
    let x = same_tests n t (term_in j r) P τ p a (term_settled P j r b) in
    let y = declared_tests n is t r P τ p a b in
    renamed_test _ P 36 n _ _ (to, from)
    (in_turn (same_type n t (term_in j r)) (merge_declared n is t r) P 36 n _ _ x y.says
    (λ w. declared_tests n is t r (And P (same_type n t (term_in j r))) τ (p, same_met n t (term_in j r) τ w) (λ σ τ c d. a σ τ c.0 d.0) (settled_more P _ r b)))
  where
    to : ((u : Term) × (term_in j r ≡ some u) × (under τ t ≡ under τ u → ⊥)) ⊎ Clash τ (under τ t) is r → Clash τ (under τ t) (j ∷ is) r
    to (inl w) = (j, first_has j is, w.0, w.1, w.2)
    to (inr w) = (w.0, rest_has j w.0 is w.1, w.2, w.3, w.4)

    from : Clash τ (under τ t) (j ∷ is) r → ((u : Term) × (term_in j r ≡ some u) × (under τ t ≡ under τ u → ⊥)) ⊎ Clash τ (under τ t) is r
    from w = go (which_has j w.0 is w.1)
      where
        go : (j ≡ w.0) ⊎ (has w.0 is ≡ true) → ((u : Term) × (term_in j r ≡ some u) × (under τ t ≡ under τ u → ⊥)) ⊎ Clash τ (under τ t) is r
        go (inl e) = inl (w.2, ap (λ x. term_in x r) e ∙ w.3, w.4)
        go (inr e) = inr (w.0, e, w.2, w.3, w.4)

-- the identifiers of a signature
pub merge_tests : (n : ℕ) (s r : Signature) (P : Typings) (τ : Valuation) → P finite τ → SettledNames P s → SettledNames P r → Tests (merge_names n s r) P 36 n (Clashes τ s r)
unfolding merge_names Clashes
merge_tests n no_names r P τ p a b = test_skip P 36 n _ (λ w. w)
merge_tests n (naming i t s) r P τ p a b =
    let a' : SettledNames P s = λ σ τ c d. (a σ τ c d).1 in
    in_turn (same_type n t (term_in i r)) (merge_names n s r) P 36 n _ _ (same_tests n t (term_in i r) P τ p (λ σ τ c d. (a σ τ c d).0) (term_settled P i r b)) (merge_tests n s r P τ p a' b).says
    (λ w. merge_tests n s r (And P (same_type n t (term_in i r))) τ (p, same_met n t (term_in i r) τ w) (settled_more P _ s a') (settled_more P _ r b))

pub not_big : (n : ℕ) → (32 < n → ⊥) → n ≤ 32
not_big n w = go (ltb 32 n) refl
  where
    go : (b : Bool) → ltb 32 n ≡ b → n ≤ 32
    go true e = absurd (w (ltb-true 32 _ e))
    go false e = ltb-false 32 _ e

pub small_tests : (n : ℕ) (t : Term) (P : Typings) (τ : Valuation) → P finite τ → Settled P t → Tests (small n t) P 38 n (32 < size (under τ t))
unfolding Passes Refuses
small_tests n t P τ p a = record {
  says = go (ltb 32 (size (under τ t))) refl;
  goes = λ w. λ σ q. rw (a σ τ q p) (not_big (size (under τ t)) w);
  stops = λ l. (refl, refl, (τ, p, l));
}
  where
    go : (b : Bool) → ltb 32 (size (under τ t)) ≡ b → (32 < size (under τ t)) ⊎ (32 < size (under τ t) → ⊥)
    go true e = inl (ltb-true 32 _ e)
    go false e = inr (λ l. omega (arith, l, ltb-false 32 (size (under τ t)) e))

pub smalls_tests : (n : ℕ) (s : Signature) (P : Typings) (τ : Valuation) → P finite τ → SettledNames P s → Tests (small_types n s) P 38 n (TooBig τ s)
unfolding small_types TooBig MeetsIn
smalls_tests n no_names P τ p a = test_skip P 38 n _ (λ w. w)
smalls_tests n (naming i t s) P τ p a =
    let a' : SettledNames P s = λ σ τ c d. (a σ τ c d).1 in
    in_turn (small n t) (small_types n s) P 38 n _ _ (small_tests n t P τ p (λ σ τ c d. (a σ τ c d).0)) (smalls_tests n s P τ p a').says
    (λ w. smalls_tests n s (And P (small n t)) τ (p, not_big _ w) (settled_more P (small n t) s a'))

-- where these tests pass, τ meets them
pub declared_met : (n : ℕ) (is : List ℕ) (t : Term) (r : Signature) (τ : Valuation) → (Clash τ (under τ t) is r → ⊥) → Meets (merge_declared n is t r) τ
declared_met n is t r τ w = (merged_as_law τ n is t r).1 (λ i q u e. go i q u e (type_decide (under τ t) (under τ u)))
  where
    go : (i : ℕ) → has i is ≡ true → (u : Term) → term_in i r ≡ some u → (under τ t ≡ under τ u) ⊎ (under τ t ≡ under τ u → ⊥) → under τ t ≡ under τ u
    go i q u e (inl d) = d
    go i q u e (inr d) = absurd (w (i, q, u, e, d))

pub merged_met : (n : ℕ) (s r : Signature) (τ : Valuation) → (Clashes τ s r → ⊥) → Meets (merge_names n s r) τ
unfolding merge_names MeetsIn Clashes
merged_met n no_names r τ w = tt
merged_met n (naming i t s) r τ w = (same_met n t (term_in i r) τ (λ z. w (inl z)), merged_met n s r τ (λ z. w (inr z)))

pub news_met : (n : ℕ) (is : List ℕ) (G : Dictionary) (τ : Valuation) → (GlobalTwice is G → ⊥) → Meets (new_names n is G) τ
news_met n is G τ w = (news_law τ n is G).1 (λ i q. go i q (is_global i G) refl)
  where
    go : (i : ℕ) → has i is ≡ true → (b : Bool) → is_global i G ≡ b → b ≡ false
    go i q true e = absurd (w (i, q, e))
    go i q false e = refl

-- Under the same condition.
pub or_map : (f n : ℕ) (A : Type 0) (h j : ℕ) (R S : Type 0) → ((A → ⊥) → R ↔ S) → Or f n A h j R ↔ Or f n A h j S
or_map f n A h j R S e = (to, from)
  where
    to : Or f n A h j R → Or f n A h j S
    to (inl w) = inl w
    to (inr w) = inr (w.0, (e w.0).0 w.1)

    from : Or f n A h j S → Or f n A h j R
    from (inl w) = inl w
    from (inr w) = inr (w.0, (e w.0).1 w.1)

pub both_ways : (A B C : Type 0) → A ↔ B → B ↔ C → A ↔ C
both_ways A B C e f = (λ a. f.0 (e.0 a), λ c. e.1 (f.1 c))

-- ---- 31 and 32 at a Ref
pub fresh_none : (n k p : ℕ) (P : Typings) (h j : ℕ) → Refuses (fresh_row n k p) P h j → ⊥
unfolding fresh_row Refuses
fresh_none n k zero P h j r = r
fresh_none n k (suc p) P h j (inl r) = r
fresh_none n k (suc p) P h j (inr r) = fresh_none n (suc k) p (And P (fresh (slot n k))) h j r.1

-- The numbers of equations, and those of other findings.
abbrev pub OfEquations : ℕ → Type 0
OfEquations h = (h ≡ 33) ⊎ (h ≡ 39)

pub which_number : (h : ℕ) (A : Type 0) → Unsolved h A → OfEquations h
which_number h A (inl u) = inl u.0
which_number h A (inr u) = inr u.0

other : (h : ℕ) → (h ≡ 31) ⊎ ((h ≡ 32) ⊎ (h ≡ 37)) → OfEquations h → ⊥
other h (inl e) (inl q) = omega (arith, e, q)
other h (inl e) (inr q) = omega (arith, e, q)
other h (inr (inl e)) (inl q) = omega (arith, e, q)
other h (inr (inl e)) (inr q) = omega (arith, e, q)
other h (inr (inr e)) (inl q) = omega (arith, e, q)
other h (inr (inr e)) (inr q) = omega (arith, e, q)

typed_number : (n : ℕ) (t : Term) (P : Typings) (h j : ℕ) → Refuses (typed n t) P h j → OfEquations h
unfolding Refuses
typed_number n t P h j (inl r) = absurd r
typed_number n t P h j (inr r) = which_number h _ r.1.2

powers_number : (n : ℕ) (xs : Exprs) (k : ℕ) (P : Typings) (h j : ℕ) → Refuses (are_powers n xs k) P h j → OfEquations h
unfolding are_powers Refuses
powers_number n xs k P h j (inl r) = absurd (fresh_none n k (exprs_length xs) P h j r)
powers_number n xs k P h j (inr r) = which_number h _ r.1.2

-- no finding but 33 or 39 follows where the name is known and the count is right
module _ (n : ℕ) (P : Typings) (h j : ℕ) where
  chosen_number : (p : ℕ) (g : Ty) → Refuses (fresh_row n 1 p ⨾ typed n (instance (row n 1 p) g)) P h j → OfEquations h
  unfolding Refuses
  chosen_number p g (inl r) = absurd (fresh_none n 1 p P h j r)
  chosen_number p g (inr r) = typed_number n (instance (row n 1 p) g) (And P (fresh_row n 1 p)) h j r.1

  actuals_number : (xs : Exprs) (p : ℕ) (g : Ty) → Refuses (are_powers n xs 1 ⨾ typed n (instance (row n 1 p) g)) P h j → OfEquations h
  unfolding Refuses
  actuals_number xs p g (inl r) = powers_number n xs 1 P h j r
  actuals_number xs p g (inr r) = typed_number n (instance (row n 1 p) g) (And P (are_powers n xs 1)) h j r.1

named_0 : (t : Term) → of_local t ≡ unnamed → ⊥
named_0 t e = let z : ◌≡◌ {A = ℕ} 0 1 = cc in omega arith

named_1 : (p : ℕ) (g : Ty) → of_global p g ≡ unnamed → ⊥
named_1 p g e = let z : ◌≡◌ {A = ℕ} 0 1 = cc in omega arith

pub reference_31 : (n : ℕ) (xs : Exprs) (m : Named) (P : Typings) (j : ℕ) → Refuses (reference_items n xs m) P 31 j ↔ ((j ≡ n) × (m ≡ unnamed))
unfolding reference_items Refuses
reference_31 n none unnamed P j = (λ r. (r.1, refl), λ w. (refl, w.0))
reference_31 n (more a xs) unnamed P j = (λ r. (r.1, refl), λ w. (refl, w.0))
reference_31 n none (of_local t) P j = (λ r. absurd (other 31 (inl refl) (typed_number n t P 31 j r)), λ w. absurd (named_0 t w.1))
reference_31 n (more a xs) (of_local t) P j = (λ r. absurd (omega (arith, r.0)), λ w. absurd (named_0 t w.1))
reference_31 n none (of_global p g) P j = (λ r. absurd (other 31 (inl refl) (chosen_number n P 31 j p g r)), λ w. absurd (named_1 p g w.1))
reference_31 n (more a xs) (of_global p g) P j = (λ r. absurd (go (eqb (exprs_length (more a xs)) p) r), λ w. absurd (named_1 p g w.1))
  where
    go : (b : Bool) → Refuses (cond b (are_powers n (more a xs) 1 ⨾ typed n (instance (row n 1 p) g)) (refusal 32 n)) P 31 j → ⊥
    go true r = other 31 (inl refl) (actuals_number n P 31 j (more a xs) p g r)
    go false r = omega (arith, r.0)

pub reference_32 : (n : ℕ) (xs : Exprs) (m : Named) (P : Typings) (j : ℕ) → Refuses (reference_items n xs m) P 32 j ↔ ((j ≡ n) × WrongActuals xs m)
unfolding reference_items Refuses exprs_length parameter_count
reference_32 n none unnamed P j = (λ r. absurd (omega (arith, r.0)), λ w. absurd (w.1.0 refl))
reference_32 n (more a xs) unnamed P j = (λ r. absurd (omega (arith, r.0)), λ w. absurd (w.1.0 refl))
reference_32 n none (of_local t) P j = (λ r. absurd (other 32 (inr (inl refl)) (typed_number n t P 32 j r)), λ w. absurd (w.1.1 refl))
reference_32 n (more a xs) (of_local t) P j = (λ r. (r.1, (named_0 t, λ e. omega (arith, e), λ e. omega (arith, e))), λ w. (refl, w.0))
reference_32 n none (of_global p g) P j = (λ r. absurd (other 32 (inr (inl refl)) (chosen_number n P 32 j p g r)), λ w. absurd (w.1.1 refl))
reference_32 n (more a xs) (of_global p g) P j = (λ r. to (eqb (suc (exprs_length xs)) p) refl r, λ w. from w (eqb (suc (exprs_length xs)) p) refl)
  where
    to : (b : Bool) → eqb (suc (exprs_length xs)) p ≡ b → Refuses (cond b (are_powers n (more a xs) 1 ⨾ typed n (instance (row n 1 p) g)) (refusal 32 n)) P 32 j
        → (j ≡ n) × ((of_global p g ≡ unnamed → ⊥) × (suc (exprs_length xs) ≡ 0 → ⊥) × (suc (exprs_length xs) ≡ p → ⊥))
    to true e r = absurd (other 32 (inr (inl refl)) (actuals_number n P 32 j (more a xs) p g r))
    to false e r = (r.1, (named_1 p g, λ q. omega (arith, q), λ q. eqb-false (suc (exprs_length xs)) p e q))

    from : (j ≡ n) × ((of_global p g ≡ unnamed → ⊥) × (suc (exprs_length xs) ≡ 0 → ⊥) × (suc (exprs_length xs) ≡ p → ⊥)) → (b : Bool) → eqb (suc (exprs_length xs)) p ≡ b
        → Refuses (cond b (are_powers n (more a xs) 1 ⨾ typed n (instance (row n 1 p) g)) (refusal 32 n)) P 32 j
    from w true e = absurd (w.1.2 (eqb-true _ _ e))
    from w false e = (refl, w.0)

-- A Ref's actuals first; then 31 where its name is unknown, 32 where there are actuals, and not as many as parameters.
module _ (n i : ℕ) (xs : Exprs) (Γ : Scope) (P : Typings) (j : ℕ) where
  own : (f : ℕ) (W : Type 0) → Refuses (reference_items n xs (name_at i Γ)) (And P (exprs_items xs Γ)) f j ↔ W
      → Refuses (expr_items (reference n i xs) Γ) P f j ↔ (Refuses (exprs_items xs Γ) P f j ⊎ (Passes (exprs_items xs Γ) P × W))
  unfolding expr_items Refuses
  own f W e = (to, from)
    where
      to : Refuses (exprs_items xs Γ) P f j ⊎ (Passes (exprs_items xs Γ) P × Refuses (reference_items n xs (name_at i Γ)) (And P (exprs_items xs Γ)) f j)
          → Refuses (exprs_items xs Γ) P f j ⊎ (Passes (exprs_items xs Γ) P × W)
      to (inl r) = inl r
      to (inr r) = inr (r.0, e.0 r.1)

      from : Refuses (exprs_items xs Γ) P f j ⊎ (Passes (exprs_items xs Γ) P × W)
          → Refuses (exprs_items xs Γ) P f j ⊎ (Passes (exprs_items xs Γ) P × Refuses (reference_items n xs (name_at i Γ)) (And P (exprs_items xs Γ)) f j)
      from (inl r) = inl r
      from (inr r) = inr (r.0, e.1 r.1)

  pub ref_31 : Refuses (expr_items (reference n i xs) Γ) P 31 j ↔ (Refuses (exprs_items xs Γ) P 31 j ⊎ (Passes (exprs_items xs Γ) P × ((j ≡ n) × (name_at i Γ ≡ unnamed))))
  ref_31 = own 31 ((j ≡ n) × (name_at i Γ ≡ unnamed)) (reference_31 n xs (name_at i Γ) (And P (exprs_items xs Γ)) j)

  pub ref_32 : Refuses (expr_items (reference n i xs) Γ) P 32 j ↔ (Refuses (exprs_items xs Γ) P 32 j ⊎ (Passes (exprs_items xs Γ) P × ((j ≡ n) × WrongActuals xs (name_at i Γ))))
  ref_32 = own 32 ((j ≡ n) × WrongActuals xs (name_at i Γ)) (reference_32 n xs (name_at i Γ) (And P (exprs_items xs Γ)) j)

-- ---- 31, 32 and 37 at a Theta
theta_name_tests : (b : Bool) (n : ℕ) (m : Named) (P : Typings) → Tests (theta_name b n m) P 31 n ((b ≡ true) × AbsentOrGeneric m)
unfolding theta_name AbsentOrGeneric Passes Refuses
theta_name_tests false n m P = test_skip P 31 n _ (λ w. false≢true w.0)
theta_name_tests true n unnamed P = record { says = inl (refl, tt); goes = λ w. absurd (w (refl, tt)); stops = λ w. (refl, refl) }
theta_name_tests true n (of_local t) P = test_skip P 31 n _ (λ w. w.1)
theta_name_tests true n (of_global zero g) P = test_skip P 31 n _ (λ w. w.1)
theta_name_tests true n (of_global (suc p) g) P = record { says = inl (refl, tt); goes = λ w. absurd (w (refl, tt)); stops = λ w. (refl, refl) }

theta_names_tests : (n k : ℕ) (s : Signature) (Γ : Scope) (P : Typings) → Tests (theta_names n k s Γ) P 31 n (SomeAbsent k (names_of s) Γ)
unfolding theta_names names_of
theta_names_tests n k no_names Γ P = test_skip P 31 n _ (λ w. none_has w.0 w.1)
theta_names_tests n k (naming i t s) Γ P =
    let x = theta_name_tests (takes k i) n (name_at (decorate k i) Γ) P in
    let y = theta_names_tests n k s Γ in
    renamed_test _ P 31 n _ _ (to, from)
    (in_turn (theta_name (takes k i) n (name_at (decorate k i) Γ)) (theta_names n k s Γ) P 31 n _ _ x (y P).says (λ w. y (And P (theta_name (takes k i) n (name_at (decorate k i) Γ)))))
  where
    to : ((takes k i ≡ true) × AbsentOrGeneric (name_at (decorate k i) Γ)) ⊎ SomeAbsent k (names_of s) Γ → SomeAbsent k (i ∷ names_of s) Γ
    to (inl w) = (i, first_has i (names_of s), w.0, w.1)
    to (inr w) = (w.0, rest_has i w.0 (names_of s) w.1, w.2, w.3)

    from : SomeAbsent k (i ∷ names_of s) Γ → ((takes k i ≡ true) × AbsentOrGeneric (name_at (decorate k i) Γ)) ⊎ SomeAbsent k (names_of s) Γ
    from w = go (which_has i w.0 (names_of s) w.1)
      where
        go : (i ≡ w.0) ⊎ (has w.0 (names_of s) ≡ true) → ((takes k i ≡ true) × AbsentOrGeneric (name_at (decorate k i) Γ)) ⊎ SomeAbsent k (names_of s) Γ
        go (inl e) = inl (ap (takes k) e ∙ w.2, subst (λ (x : ℕ). AbsentOrGeneric (name_at (decorate k x) Γ)) (sym e) w.3)
        go (inr e) = inr (w.0, e, w.2, w.3)

module _ (n k p : ℕ) (g : Ty) (Γ : Scope) (P : Typings) (h j : ℕ) where
  -- "31, 32, 37 strictly by number", then the equation of its type
  theta_chain : Refuses (theta_items n k (a_schema p g) Γ) P h j
      ↔ Or 31 n (SomeAbsent k (schema_names g) Γ) h j (Or 32 n (0 < p) h j (Or 37 n (Stroked k (schema_names g)) h j
      (Refuses (typed n (binding_of (theta_signature k (schema_of g) Γ))) (And (And (And P (theta_names n k (schema_of g) Γ)) (refuse_if (ltb 0 p) 32 n)) (refuse_if (some_stroked k (schema_of g)) 37 n)) h j)))
  unfolding theta_items
  theta_chain =
      let x = theta_names n k (schema_of g) Γ in
      let y = refuse_if (ltb 0 p) 32 n in
      let z = refuse_if (some_stroked k (schema_of g)) 37 n in
      let t = typed n (binding_of (theta_signature k (schema_of g) Γ)) in
      both_ways _ _ _ (test_then x (y ⨾ z ⨾ t) P 31 n _ (theta_names_tests n k (schema_of g) Γ P) h j)
      (or_map 31 n _ h j _ _ (λ w. both_ways _ _ _ (test_then y (z ⨾ t) (And P x) 32 n (0 < p) (test_if (ltb 0 p) 32 n (And P x) (0 < p) (λ e. ltb-true 0 p e, λ l. lt-ltb 0 p l)) h j)
      (or_map 32 n _ h j _ _ (λ v. test_then z t (And (And P x) y) 37 n (Stroked k (schema_names g)) (test_if (some_stroked k (schema_of g)) 37 n (And (And P x) y) _ (stroked_law k (schema_of g))) h j))))

-- which of the three it is
module _ (n h j : ℕ) (A B C R : Type 0) (last : R → OfEquations h) where
  is_31 : h ≡ 31 → Or 31 n A h j (Or 32 n B h j (Or 37 n C h j R)) → (j ≡ n) × A
  is_31 e (inl w) = (w.1, w.2)
  is_31 e (inr (a, inl w)) = absurd (omega (arith, e, w.0))
  is_31 e (inr (a, inr (b, inl w))) = absurd (omega (arith, e, w.0))
  is_31 e (inr (a, inr (b, inr (c, r)))) = absurd (other h (inl e) (last r))

  is_32 : h ≡ 32 → Or 31 n A h j (Or 32 n B h j (Or 37 n C h j R)) → (j ≡ n) × (A → ⊥) × B
  is_32 e (inl w) = absurd (omega (arith, e, w.0))
  is_32 e (inr (a, inl w)) = (w.1, a, w.2)
  is_32 e (inr (a, inr (b, inl w))) = absurd (omega (arith, e, w.0))
  is_32 e (inr (a, inr (b, inr (c, r)))) = absurd (other h (inr (inl e)) (last r))

  is_37 : h ≡ 37 → Or 31 n A h j (Or 32 n B h j (Or 37 n C h j R)) → (j ≡ n) × (A → ⊥) × (B → ⊥) × C
  is_37 e (inl w) = absurd (omega (arith, e, w.0))
  is_37 e (inr (a, inl w)) = absurd (omega (arith, e, w.0))
  is_37 e (inr (a, inr (b, inl w))) = (w.1, a, b, w.2)
  is_37 e (inr (a, inr (b, inr (c, r)))) = absurd (other h (inr (inr e)) (last r))

module _ (n k : ℕ) (Γ : Scope) (P : Typings) (j : ℕ) where
  theta_items_31 : (f : NamedSchema) → Refuses (theta_items n k f Γ) P 31 j ↔ ((j ≡ n) × ThetaUnknown k f Γ)
  unfolding ThetaUnknown
  theta_items_31 no_schema = unfold theta_items Refuses in (λ r. (r.1, tt), λ w. (refl, w.0))
  theta_items_31 (a_schema p g) =
      let c = theta_chain n k p g Γ P 31 j in (λ r. is_31 n 31 j _ _ _ _ (λ q. typed_number n _ _ 31 j q) refl (c.0 r), λ w. c.1 (inl (refl, w.0, w.1)))

  theta_items_32 : (f : NamedSchema) → Refuses (theta_items n k f Γ) P 32 j ↔ ((j ≡ n) × (ThetaUnknown k f Γ → ⊥) × HasParameters f)
  unfolding ThetaUnknown HasParameters
  theta_items_32 no_schema = unfold theta_items Refuses in (λ r. absurd (omega (arith, r.0)), λ w. absurd (w.1 tt))
  theta_items_32 (a_schema p g) =
      let c = theta_chain n k p g Γ P 32 j in
      (λ r. is_32 n 32 j _ _ _ _ (λ q. typed_number n _ _ 32 j q) refl (c.0 r), λ w. c.1 (inr (w.1, inl (refl, w.0, w.2))))

  theta_items_37 : (f : NamedSchema) → Refuses (theta_items n k f Γ) P 37 j ↔ ((j ≡ n) × (ThetaUnknown k f Γ → ⊥) × (HasParameters f → ⊥) × ThetaStroked k f)
  unfolding ThetaUnknown HasParameters ThetaStroked
  theta_items_37 no_schema = unfold theta_items Refuses in (λ r. absurd (omega (arith, r.0)), λ w. absurd (w.1 tt))
  theta_items_37 (a_schema p g) =
      let c = theta_chain n k p g Γ P 37 j in
      (λ r. is_37 n 37 j _ _ _ _ (λ q. typed_number n _ _ 37 j q) refl (c.0 r), λ w. c.1 (inr (w.1, inr (w.2, inl (refl, w.0, w.3)))))

module _ (n s k : ℕ) (Γ : Scope) (P : Typings) (j : ℕ) where
  pub theta_31 : Refuses (expr_items (theta n s k) Γ) P 31 j ↔ ((j ≡ n) × ThetaUnknown k (schema_named s Γ) Γ)
  unfolding expr_items
  theta_31 = theta_items_31 n k Γ P j (schema_named s Γ)

  pub theta_32 : Refuses (expr_items (theta n s k) Γ) P 32 j ↔ ((j ≡ n) × (ThetaUnknown k (schema_named s Γ) Γ → ⊥) × HasParameters (schema_named s Γ))
  unfolding expr_items
  theta_32 = theta_items_32 n k Γ P j (schema_named s Γ)

  pub theta_37 : Refuses (expr_items (theta n s k) Γ) P 37 j
      ↔ ((j ≡ n) × (ThetaUnknown k (schema_named s Γ) Γ → ⊥) × (HasParameters (schema_named s Γ) → ⊥) × ThetaStroked k (schema_named s Γ))
  unfolding expr_items
  theta_37 = theta_items_37 n k Γ P j (schema_named s Γ)

-- ---- 31, 32 and 37 at an Include: "looks up the name, compares the count, then visits and closes each actual in turn"; 37 after these
module _ (n s k : ℕ) (xs : Exprs) (rs : List (ℕ × ℕ)) (acts : Items) (P : Typings) (j : ℕ) where
  rule_31 : (f : NamedSchema) → Refuses (include_rule f (include n s k xs rs) acts) P 31 j ↔ (((j ≡ n) × (f ≡ no_schema)) ⊎ (Counted f xs × Refuses acts P 31 j))
  unfolding include_rule Refuses Counted
  rule_31 no_schema = (λ r. inl (r.1, refl), from)
    where
      from : ((j ≡ n) × (no_schema ≡ no_schema)) ⊎ (⊥ × Refuses acts P 31 j) → (◌≡◌ {A = ℕ} 31 31) × (j ≡ n)
      from (inl w) = (refl, w.0)
      from (inr w) = absurd w.0
  rule_31 (a_schema p g) = (λ r. to (eqb (exprs_length xs) p) refl r, λ w. from w (eqb (exprs_length xs) p) refl)
    where
      other : a_schema p g ≡ no_schema → ⊥
      other e = let z : ◌≡◌ {A = ℕ} 0 1 = cc in omega arith

      inner : Refuses (acts ⨾ refuse_if (wrong_names k rs (schema_of g)) 37 n) P 31 j → Refuses acts P 31 j
      inner (inl r) = r
      inner (inr r) = absurd (omega (arith, ((refuses_where _ _ 37 n _ (test_if (wrong_names k rs (schema_of g)) 37 n (And P acts) _ (names_law k rs (schema_of g))) 31 j).0 r.1).0))

      to : (b : Bool) → eqb (exprs_length xs) p ≡ b → Refuses (cond b (acts ⨾ refuse_if (wrong_names k rs (schema_of g)) 37 n) (refusal 32 n)) P 31 j
          → ((j ≡ n) × (a_schema p g ≡ no_schema)) ⊎ ((exprs_length xs ≡ p) × Refuses acts P 31 j)
      to true e r = inr (eqb-true _ _ e, inner r)
      to false e r = absurd (omega (arith, r.0))

      from : ((j ≡ n) × (a_schema p g ≡ no_schema)) ⊎ ((exprs_length xs ≡ p) × Refuses acts P 31 j) → (b : Bool) → eqb (exprs_length xs) p ≡ b
          → Refuses (cond b (acts ⨾ refuse_if (wrong_names k rs (schema_of g)) 37 n) (refusal 32 n)) P 31 j
      from (inl w) b e = absurd (other w.1)
      from (inr w) true e = inl w.1
      from (inr w) false e = absurd (eqb-false _ _ e w.0)

  rule_32 : (f : NamedSchema) → Refuses (include_rule f (include n s k xs rs) acts) P 32 j ↔ (((j ≡ n) × WrongCount f xs) ⊎ (Counted f xs × Refuses acts P 32 j))
  unfolding include_rule Refuses Counted WrongCount
  rule_32 no_schema = (λ r. absurd (omega (arith, r.0)), from)
    where
      from : ((j ≡ n) × ⊥) ⊎ (⊥ × Refuses acts P 32 j) → (◌≡◌ {A = ℕ} 32 31) × (j ≡ n)
      from (inl w) = absurd w.1
      from (inr w) = absurd w.0
  rule_32 (a_schema p g) = (λ r. to (eqb (exprs_length xs) p) refl r, λ w. from w (eqb (exprs_length xs) p) refl)
    where
      inner : Refuses (acts ⨾ refuse_if (wrong_names k rs (schema_of g)) 37 n) P 32 j → Refuses acts P 32 j
      inner (inl r) = r
      inner (inr r) = absurd (omega (arith, ((refuses_where _ _ 37 n _ (test_if (wrong_names k rs (schema_of g)) 37 n (And P acts) _ (names_law k rs (schema_of g))) 32 j).0 r.1).0))

      to : (b : Bool) → eqb (exprs_length xs) p ≡ b → Refuses (cond b (acts ⨾ refuse_if (wrong_names k rs (schema_of g)) 37 n) (refusal 32 n)) P 32 j
          → ((j ≡ n) × (exprs_length xs ≡ p → ⊥)) ⊎ ((exprs_length xs ≡ p) × Refuses acts P 32 j)
      to true e r = inr (eqb-true _ _ e, inner r)
      to false e r = inl (r.1, eqb-false _ _ e)

      from : ((j ≡ n) × (exprs_length xs ≡ p → ⊥)) ⊎ ((exprs_length xs ≡ p) × Refuses acts P 32 j) → (b : Bool) → eqb (exprs_length xs) p ≡ b
          → Refuses (cond b (acts ⨾ refuse_if (wrong_names k rs (schema_of g)) 37 n) (refusal 32 n)) P 32 j
      from (inl w) true e = absurd (w.1 (eqb-true _ _ e))
      from (inl w) false e = (refl, w.0)
      from (inr w) true e = inl w.1
      from (inr w) false e = absurd (eqb-false _ _ e w.0)

  rule_37 : (f : NamedSchema) → Refuses (include_rule f (include n s k xs rs) acts) P 37 j
      ↔ (Counted f xs × (Refuses acts P 37 j ⊎ (Passes acts P × ((j ≡ n) × IncludeNames f k rs))))
  unfolding include_rule Refuses Counted IncludeNames
  rule_37 no_schema = (λ r. absurd (omega (arith, r.0)), λ w. absurd w.0)
  rule_37 (a_schema p g) = (λ r. to (eqb (exprs_length xs) p) refl r, λ w. from w (eqb (exprs_length xs) p) refl)
    where
      x : (h : ℕ) → Refuses (refuse_if (wrong_names k rs (schema_of g)) 37 n) (And P acts) h j ↔ ((h ≡ 37) × (j ≡ n) × BadNames k rs (schema_of g))
      x h = refuses_where _ _ 37 n _ (test_if (wrong_names k rs (schema_of g)) 37 n (And P acts) _ (names_law k rs (schema_of g))) h j

      inner : Refuses (acts ⨾ refuse_if (wrong_names k rs (schema_of g)) 37 n) P 37 j → Refuses acts P 37 j ⊎ (Passes acts P × ((j ≡ n) × BadNames k rs (schema_of g)))
      inner (inl r) = inl r
      inner (inr r) = let w = (x 37).0 r.1 in inr (r.0, (w.1, w.2))

      outer : Refuses acts P 37 j ⊎ (Passes acts P × ((j ≡ n) × BadNames k rs (schema_of g))) → Refuses (acts ⨾ refuse_if (wrong_names k rs (schema_of g)) 37 n) P 37 j
      outer (inl r) = inl r
      outer (inr r) = inr (r.0, (x 37).1 (refl, r.1.0, r.1.1))

      to : (b : Bool) → eqb (exprs_length xs) p ≡ b → Refuses (cond b (acts ⨾ refuse_if (wrong_names k rs (schema_of g)) 37 n) (refusal 32 n)) P 37 j
          → (exprs_length xs ≡ p) × (Refuses acts P 37 j ⊎ (Passes acts P × ((j ≡ n) × BadNames k rs (schema_of g))))
      to true e r = (eqb-true _ _ e, inner r)
      to false e r = absurd (omega (arith, r.0))

      from : (exprs_length xs ≡ p) × (Refuses acts P 37 j ⊎ (Passes acts P × ((j ≡ n) × BadNames k rs (schema_of g)))) → (b : Bool) → eqb (exprs_length xs) p ≡ b
          → Refuses (cond b (acts ⨾ refuse_if (wrong_names k rs (schema_of g)) 37 n) (refusal 32 n)) P 37 j
      from w true e = outer w.1
      from w false e = absurd (eqb-false _ _ e w.0)

module _ (n s k : ℕ) (xs : Exprs) (rs : List (ℕ × ℕ)) (Γ : Scope) (P : Typings) (j : ℕ) where
  pub include_31 : Refuses (include_items (include n s k xs rs) Γ) P 31 j
      ↔ (((j ≡ n) × (schema_named s Γ ≡ no_schema)) ⊎ (Counted (schema_named s Γ) xs × Refuses (actual_items xs n 1 Γ) P 31 j))
  unfolding include_items
  include_31 = rule_31 n s k xs rs (actual_items xs n 1 Γ) P j (schema_named s Γ)

  pub include_32 : Refuses (include_items (include n s k xs rs) Γ) P 32 j
      ↔ (((j ≡ n) × WrongCount (schema_named s Γ) xs) ⊎ (Counted (schema_named s Γ) xs × Refuses (actual_items xs n 1 Γ) P 32 j))
  unfolding include_items
  include_32 = rule_32 n s k xs rs (actual_items xs n 1 Γ) P j (schema_named s Γ)

  pub include_37 : Refuses (include_items (include n s k xs rs) Γ) P 37 j
      ↔ (Counted (schema_named s Γ) xs × (Refuses (actual_items xs n 1 Γ) P 37 j ⊎ (Passes (actual_items xs n 1 Γ) P × ((j ≡ n) × IncludeNames (schema_named s Γ) k rs))))
  unfolding include_items
  include_37 = rule_37 n s k xs rs (actual_items xs n 1 Γ) P j (schema_named s Γ)
