-- Unknowns that are new at a node: the valuations so far, and the scope, leave the unknown of its type alone.
use mathlib.Core.Path.{◌≡◌, refl, sym, ap, ◌∙◌}
use mathlib.Core.Bool.{Bool, true, false, ◌||◌}
use mathlib.Core.List.{List, [], ◌∷◌, ◌++◌}
use mathlib.Core.Option.{Option, some, none as nothing}
use mathlib.Core.Logic.{inl, inr}
use Prim.Native.Nat.{ℕ, ◌≤◌}
use native.Mathlib.Omega.{arith}
use borrow.Author.Tests.{ne_eqb}
use Rattle.words.specs.Loops.{has, occurrences}
use Rattle.words.proofs.Lists.{has_append, occurrences_append, has_once}
use Rattle.reader_rules.specs.Tree.{Expr}
use Rattle.reader_rules.specs.Tree.{end, declaration, inclusion, Include, include_node}
use Rattle.reader_rules.specs.TreeNumbers.{expr_numbers, lines_numbers, include_numbers}
use Rattle.types_rules.specs.Types.{Ty, Term, under, Each}
use Rattle.types_rules.specs.Substitution.{update}
use Rattle.types_rules.specs.Component.{component_type}
use Rattle.types_rules.proofs.Terms.{update_same, update_other}
use Rattle.types_rules.specs.Trees.{finite}
use Rattle.checker_rules.specs.Unknowns.{Valuation, slot, unknown_at}
use Rattle.checker_rules.specs.Items.{Items, ◌⨾◌, fresh, select, small, piece, Known, Meets, And, Passes, Refuses, MeetsIn, Typings}
use Rattle.checker_rules.specs.Dictionary.{Dictionary}
use Rattle.checker_rules.specs.Signatures.{Signature, names_of, merge, declare}
use Rattle.checker_rules.specs.Scopes.{Scope, include_signature}
use Rattle.checker_rules.specs.Conditions.{merge_declared, merge_names, new_names, small_types, few_names, is_power}
use Rattle.checker_rules.specs.Rules.{expr_items}
use Rattle.checker_rules.specs.Rules.{lines_items, include_items}
use Rattle.checker_rules.proofs.ItemLaws.{table}
use Rattle.checker_rules.proofs.Slots.{slots_apart}
use Rattle.checker_rules.proofs.SignatureTerms.{merge_having, declare_having}
use Rattle.checker_rules.proofs.ItemUnknowns.{Over, same_under, met_too}
use Rattle.reader_rules.proofs.Sized.{SizedExpr, SizedLines, SizedInclude}
use Rattle.checker_rules.proofs.ScopeUnknowns.{AllIn, Own, ScopeOver, SigOver, included_over, all_right}
use Rattle.checker_rules.proofs.RuleUnknowns.{type_over, expr_over, lines_over}
use Rattle.checker_rules.proofs.TypingLaws.{first_has, rest_has}

-- ---- valuations that differ at x alone
abbrev pub Not : ℕ → ℕ → Type 0
Not x y = y ≡ x → ⊥

abbrev pub Free : ℕ → Typings → Type 0
Free x P = (τ : Valuation) (g : Ty) → P finite τ → P finite (update τ x g)

module _ (x : ℕ) (τ : Valuation) (g : Ty) where
  elsewhere : (y : ℕ) → Not x y → update τ x g y ≡ τ y
  elsewhere y n = update_other τ x g y (ne_eqb y x n)

  met_still : (t : Items) → Over (Not x) t → Meets t τ → Meets t (update τ x g)
  met_still t o h = met_too (Not x) (update τ x g) τ elsewhere t o h

-- ---- a Select whose unknown is new
pub select_open : (n i : ℕ) (a : Term) (x : ℕ) (P : Typings) → Free x P → Each (Not x) a → (τ : Valuation) → P finite τ → (m : ℕ) → Refuses (select n i a x) P 33 m → ⊥
unfolding Refuses Known
select_open n i a x P f e τ p m r = go r
  where
    here : (o : Option Ty) → component_type i (under τ a) ≡ o → Known o → ((σ : Valuation) → P finite σ → component_type i (under σ a) ≡ some (σ x) → ⊥) → ⊥
    here (some g) q k w = w (update τ x g) (f τ g p) (ap (component_type i) (same_under (Not x) (update τ x g) τ (elsewhere x τ g) a e) ∙ q ∙ ap some (sym (update_same τ x g)))
    here nothing q k w = k

    go : Refuses (select n i a x) P 33 m → ⊥
    go (inl r) = omega (arith, r.0)
    go (inr r) = here (component_type i (under τ a)) refl (r.2 τ p) r.3

-- ---- numbers that stand once
abbrev pub EachOnce : List ℕ → Type 0
EachOnce l = (m : ℕ) → occurrences m l ≤ 1

pub once_left : (a b : List ℕ) → EachOnce (a ++ b) → EachOnce a
once_left a b o m = omega (arith, o m, occurrences_append m a b)

pub once_right : (a b : List ℕ) → EachOnce (a ++ b) → EachOnce b
once_right a b o m = omega (arith, o m, occurrences_append m a b)

pub has_left : (m : ℕ) (a b : List ℕ) → has m a ≡ true → has m (a ++ b) ≡ true
has_left m a b h = has_append m a b ∙ ap (λ (x : Bool). x || has m b) h

pub has_right : (m : ℕ) (a b : List ℕ) → has m b ≡ true → has m (a ++ b) ≡ true
has_right m a b h = has_append m a b ∙ ap (λ (x : Bool). has m a || x) h ∙ go (has m a)
  where
    go : (x : Bool) → (x || true) ≡ true
    go true = refl
    go false = refl

abbrev pub Apart : List ℕ → List ℕ → Type 0
Apart a b = (m : ℕ) → has m a ≡ true → has m b ≡ true → ⊥

pub apart : (a b : List ℕ) → EachOnce (a ++ b) → Apart a b
apart a b o m p q = omega (arith, o m, occurrences_append m a b, has_once m a p, has_once m b q)

pub turned : (a b : List ℕ) → Apart a b → Apart b a
turned a b h m p q = h m q p

-- the unknowns of nodes without m are not that of m's type
pub own_not : (m : ℕ) (l : List ℕ) → (has m l ≡ true → ⊥) → AllIn (Own (Not (slot m 0))) l
own_not m [] h = tt
own_not m (j ∷ l) h = (λ k u e. h (found j (slots_apart j k m 0 (omega arith) (omega arith) e).0), own_not m l (λ q. h (rest_has j m l q)))
  where
    found : (j : ℕ) → j ≡ m → has m (j ∷ l) ≡ true
    found j e = ap (λ (z : ℕ). has m (z ∷ l)) e ∙ first_has m l

-- ---- what is new: for each node of the list, the valuations so far and the scope leave its type's unknown alone
abbrev pub New : List ℕ → Typings → Scope → Type 0
New l P Γ = (m : ℕ) → has m l ≡ true → Free (slot m 0) P × ScopeOver (Not (slot m 0)) Γ

pub new_left : (a b : List ℕ) (P : Typings) (Γ : Scope) → New (a ++ b) P Γ → New a P Γ
new_left a b P Γ w m q = w m (has_left m a b q)

pub new_right : (a b : List ℕ) (P : Typings) (Γ : Scope) → New (a ++ b) P Γ → New b P Γ
new_right a b P Γ w m q = w m (has_right m a b q)

-- after items of other nodes
pub new_after : (a b : List ℕ) (t : Items) (P : Typings) (Γ : Scope) → Apart a b → ((N : ℕ → Type 0) → AllIn (Own N) a → ScopeOver N Γ → Over N t) → New b P Γ → New b (And P t) Γ
new_after a b t P Γ d o w m q =
    let n = o (Not (slot m 0)) (own_not m a (λ p. d m p q)) (w m q).1 in
    (λ τ g h. ((w m q).0 τ g h.0, met_still (slot m 0) τ g t n h.1), (w m q).1)

-- in a scope with other nodes' unknowns
pub new_inside : (a b : List ℕ) (P : Typings) (Γ Δ : Scope) → Apart a b → ((N : ℕ → Type 0) → AllIn (Own N) a → ScopeOver N Γ → ScopeOver N Δ) → New b P Γ → New b P Δ
new_inside a b P Γ Δ d o w m q = ((w m q).0, o (Not (slot m 0)) (own_not m a (λ p. d m p q)) (w m q).1)

-- valuations there are
abbrev pub Some : Typings → Type 0
Some P = (τ : Valuation) × P finite τ

pub some_after : (t : Items) (P : Typings) → Some P → Passes t P → Some (And P t)
some_after t P s p = let x = table t P p s.0 s.1 in (x.0, (x.1, x.2))

pub free_fresh : (x y : ℕ) (P : Typings) → Free x P → Free x (And P (fresh y))
unfolding MeetsIn
free_fresh x y P f τ g h = (f τ g h.0, tt)

pub some_fresh : (y : ℕ) (P : Typings) → Some P → Some (And P (fresh y))
unfolding MeetsIn
some_fresh y P s = (s.0, (s.1, tt))

-- ---- lines: the signature so far leaves the unknown alone too
abbrev pub NewSig : List ℕ → Signature → Type 0
NewSig l r = (m : ℕ) → has m l ≡ true → SigOver (Not (slot m 0)) r

pub new_with : (b : List ℕ) (t : Items) (P : Typings) (Γ : Scope) → ((m : ℕ) → has m b ≡ true → Over (Not (slot m 0)) t) → New b P Γ → New b (And P t) Γ
new_with b t P Γ o w m q = (λ τ g h. ((w m q).0 τ g h.0, met_still (slot m 0) τ g t (o m q) h.1), (w m q).1)

all_nil : (M : ℕ → Type 0) (a : List ℕ) → AllIn M a → AllIn M (a ++ [])
all_nil M [] h = tt
all_nil M (x ∷ a) h = (h.0, all_nil M a h.1)

pub declaration_over : (N : ℕ → Type 0) (n : ℕ) (a : Expr) (is : List ℕ) (Γ : Scope) (G : Dictionary) (r : Signature) → AllIn (Own N) (expr_numbers a ++ (n ∷ [])) → SizedExpr a → ScopeOver N Γ → SigOver N r
    → Over N (lines_items (declaration n a is end) Γ G r)
declaration_over N n a is Γ G r h f s k = lines_over N (declaration n a is end) Γ G r (unfold lines_numbers in all_nil (Own N) (expr_numbers a ++ (n ∷ [])) h) (unfold SizedLines in (f, tt)) s k

pub inclusion_over : (N : ℕ → Type 0) (i : Include) (Γ : Scope) (G : Dictionary) (r : Signature) → AllIn (Own N) (include_numbers i) → SizedInclude i → ScopeOver N Γ → SigOver N r
    → Over N (lines_items (inclusion i end) Γ G r)
inclusion_over N i Γ G r h f s k = lines_over N (inclusion i end) Γ G r (unfold lines_numbers in all_nil (Own N) (include_numbers i) h) (unfold SizedLines in (f, tt)) s k

module _ (n : ℕ) (a : Expr) (is : List ℕ) (l : List ℕ) (Γ : Scope) (G : Dictionary) (r : Signature) (P : Typings)
    (d : Apart (expr_numbers a ++ (n ∷ [])) l) (f : SizedExpr a) (w : New l P Γ) (k : NewSig l r) where
  own_decl : (m : ℕ) → has m l ≡ true → AllIn (Own (Not (slot m 0))) (expr_numbers a ++ (n ∷ []))
  own_decl m q = own_not m (expr_numbers a ++ (n ∷ [])) (λ p. d m p q)

  decl_line : (m : ℕ) → has m l ≡ true → Over (Not (slot m 0)) (lines_items (declaration n a is end) Γ G r)
  decl_line m q = declaration_over (Not (slot m 0)) n a is Γ G r (own_decl m q) f (w m q).1 (k m q)

  pub new_declaration : New l (And (And (And P (piece n (expr_items a Γ ⨾ is_power n 0 a))) (merge_declared n is (unknown_at n 0) r ⨾ new_names n is G)) (small n (unknown_at n 0) ⨾ few_names n (declare is (unknown_at n 0) r))) Γ
  unfolding lines_items Over
  new_declaration =
      let x = piece n (expr_items a Γ ⨾ is_power n 0 a) in
      let y = merge_declared n is (unknown_at n 0) r ⨾ new_names n is G in
      new_with l (small n (unknown_at n 0) ⨾ few_names n (declare is (unknown_at n 0) r)) (And (And P x) y) Γ (λ m q. (decl_line m q).1.1.0)
      (new_with l y (And P x) Γ (λ m q. (decl_line m q).1.0) (new_with l x P Γ (λ m q. (decl_line m q).0) w))

  pub sig_declaration : NewSig l (declare is (unknown_at n 0) r)
  unfolding Each
  sig_declaration m q = declare_having (Each (Not (slot m 0))) is (unknown_at n 0) r ((all_right (Own (Not (slot m 0))) (expr_numbers a) (n ∷ []) (own_decl m q)).0 0 (omega arith)) (k m q)

module _ (i : Include) (l : List ℕ) (Γ : Scope) (G : Dictionary) (r : Signature) (P : Typings)
    (d : Apart (include_numbers i) l) (f : SizedInclude i) (w : New l P Γ) (k : NewSig l r) where
  own_incl : (m : ℕ) → has m l ≡ true → AllIn (Own (Not (slot m 0))) (include_numbers i)
  own_incl m q = own_not m (include_numbers i) (λ p. d m p q)

  incl_line : (m : ℕ) → has m l ≡ true → Over (Not (slot m 0)) (lines_items (inclusion i end) Γ G r)
  incl_line m q = inclusion_over (Not (slot m 0)) i Γ G r (own_incl m q) f (w m q).1 (k m q)

  pub new_inclusion : New l (And (And (And P (include_items i Γ)) (merge_names (include_node i) (include_signature i Γ) r ⨾ new_names (include_node i) (names_of (include_signature i Γ)) G))
      (small_types (include_node i) (include_signature i Γ) ⨾ few_names (include_node i) (merge (include_signature i Γ) r))) Γ
  unfolding lines_items Over
  new_inclusion =
      let x = include_items i Γ in
      let y = merge_names (include_node i) (include_signature i Γ) r ⨾ new_names (include_node i) (names_of (include_signature i Γ)) G in
      new_with l (small_types (include_node i) (include_signature i Γ) ⨾ few_names (include_node i) (merge (include_signature i Γ) r)) (And (And P x) y) Γ (λ m q. (incl_line m q).1.1.0)
      (new_with l y (And P x) Γ (λ m q. (incl_line m q).1.0) (new_with l x P Γ (λ m q. (incl_line m q).0) w))

  pub sig_inclusion : NewSig l (merge (include_signature i Γ) r)
  sig_inclusion m q = merge_having (Each (Not (slot m 0))) (include_signature i Γ) r (included_over (Not (slot m 0)) i Γ (own_incl m q) f) (k m q)

-- an actual, of an Include of another number than the nodes to come
pub other_own : (n m : ℕ) (l : List ℕ) → (has n l ≡ true → ⊥) → has m l ≡ true → Own (Not (slot m 0)) n
other_own n m l h q k u e = h (ap (λ (z : ℕ). has z l) (slots_apart n k m 0 (omega arith) (omega arith) e).0 ∙ q)

pub actual_over : (N : ℕ → Type 0) (a : Expr) (n k : ℕ) (Γ : Scope) → Own N n → k ≤ 6 → AllIn (Own N) (expr_numbers a) → SizedExpr a → ScopeOver N Γ → Over N (piece n (expr_items a Γ ⨾ is_power n k a))
unfolding Over Each
actual_over N a n k Γ o u h f s = (expr_over N a Γ h f s, (o k u, ((type_over N a h, (o k u, tt)), tt)))
