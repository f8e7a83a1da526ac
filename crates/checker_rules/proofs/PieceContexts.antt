-- Pieces in their context: what comes before a piece, and its scope, have none of its own unknowns, since its nodes are new there.
use mathlib.Core.Path.{◌≡◌, refl, sym, ap, ◌∙◌}
use mathlib.Core.Bool.{Bool, true, false, cond}
use mathlib.Core.List.{List, [], ◌∷◌, ◌++◌}
use mathlib.Core.Logic.{◌⊎◌, inl, inr}
use Prim.Native.Nat.{ℕ, suc, ◌+◌, ◌≤◌}
use native.Mathlib.Omega.{arith}
use lib.Dec.{eqb}
use Rattle.words.specs.Loops.{has, occurrences}
use Rattle.words.proofs.Lists.{occurrences_append, has_once, once_has}
use Rattle.reader_rules.specs.Tree.{expr_node, Expr}
use Rattle.reader_rules.specs.Tree.{Include, include}
use Rattle.reader_rules.specs.Tree.{exprs_length}
use Rattle.reader_rules.specs.TreeNumbers.{expr_numbers}
use Rattle.types_rules.specs.Types.{nil, Each}
use Rattle.types_rules.specs.Instance.{instance}
use Rattle.types_rules.proofs.Terms.{each_map}
use Rattle.types_rules.specs.Trees.{finite}
use Rattle.checker_rules.specs.Unknowns.{Valuation, slot}
use Rattle.checker_rules.specs.Items.{Passes, Items, ◌⨾◌, refusal, piece, And, Typings}
use Rattle.checker_rules.specs.Dictionary.{NamedSchema, no_schema, a_schema}
use Rattle.checker_rules.specs.Signatures.{Signature, no_names, naming, components_of, wrong_names}
use Rattle.checker_rules.specs.Scopes.{Scope, globals, local}
use Rattle.checker_rules.specs.Conditions.{refuse_if, is_power}
use Rattle.checker_rules.specs.Rules.{include_rule, expr_items}
use Rattle.checker_rules.specs.Pieces.{Owns}
use Rattle.checker_rules.proofs.Slots.{slots_apart}
use Rattle.checker_rules.proofs.ItemUnknowns.{Over, met_too}
use Rattle.reader_rules.proofs.Sized.{SizedExpr}
use Rattle.checker_rules.proofs.ScopeUnknowns.{AllIn, all_left, all_right, Own, ScopeOver, SigOver}
use Rattle.checker_rules.proofs.RuleUnknowns.{refuse_if_over, type_over, expr_over}
use Rattle.checker_rules.proofs.NewUnknowns.{EachOnce, once_left, once_right, has_left, has_right, Apart, apart}
use Rattle.checker_rules.proofs.TypingLaws.{first_has, rest_has}
use Rattle.checker_rules.proofs.PieceOwners.{root_owned, own_numbers, inner_numbers, parted, SlotIn, in_left, in_right, Every, expr_owns, power_owns}
use Rattle.checker_rules.proofs.PieceEquations.{Off, Separate, OwnNode, bare_separate, node_separate}
use Rattle.checker_rules.proofs.PieceTerms.{ScopeSame, power_own}
use Rattle.checker_rules.proofs.ItemForms.{refuse_if_bare}

-- ---- what has come before: the valuations P rest on the unknowns C, which are in scope and none of the nodes to come, l; none of them is the surrounding piece's
abbrev New : List ℕ → (ℕ → Type 0) → Type 0
New l C = (m k : ℕ) → has m l ≡ true → k ≤ 6 → C (slot m k) → ⊥

pub record ReadyContext (l : List ℕ) (w : Items) (P : Typings) (C : ℕ → Type 0) (Γ : Scope) : Type 0 where
  pub rests : (σ τ : Valuation) → ((x : ℕ) → C x → σ x ≡ τ x) → P finite τ → P finite σ
  pub new : New l C
  pub scope : ScopeOver C Γ
  pub off : ScopeOver (Off w) Γ
  pub settled : (σ τ : Valuation) → P finite σ → P finite τ → ScopeSame σ τ Γ

abbrev pub With : List ℕ → (ℕ → Type 0) → ℕ → Type 0
With l C x = SlotIn l x ⊎ C x

own_with : (l a : List ℕ) (C : ℕ → Type 0) → ((m : ℕ) → has m a ≡ true → has m l ≡ true) → AllIn (Own (With l C)) a
own_with l [] C f = tt
own_with l (m ∷ a) C f = (λ k u. inl (m, f m (first_has m a), (k, u, refl)), own_with l a C (λ j q. f j (rest_has m j a q)))

pub own_all : (l : List ℕ) (C : ℕ → Type 0) → AllIn (Own (With l C)) l
own_all l C = own_with l l C (λ m h. h)

scope_map : (N M : ℕ → Type 0) → ((x : ℕ) → N x → M x) → (Γ : Scope) → ScopeOver N Γ → ScopeOver M Γ
unfolding ScopeOver
scope_map N M f (globals D) h = h
scope_map N M f (local i t Γ) h = (each_map N M f t h.0, scope_map N M f Γ h.1)

pub sig_map : (N M : ℕ → Type 0) → ((x : ℕ) → N x → M x) → (s : Signature) → SigOver N s → SigOver M s
sig_map N M f no_names h = tt
sig_map N M f (naming i t s) h = (each_map N M f t h.0, sig_map N M f s h.1)

slot_apart : (a b : List ℕ) → Apart a b → (m k : ℕ) → has m b ≡ true → k ≤ 6 → SlotIn a (slot m k) → ⊥
slot_apart a b d m k h l s =
    let e = (slots_apart m k s.0 s.2.0 (omega (arith, l)) (omega (arith, s.2.1)) s.2.2).0 in d m (ap (λ (z : ℕ). has z a) e ∙ s.1) h

module _ (w : Items) (P : Typings) (C : ℕ → Type 0) (Γ : Scope) where
  pub ready_left : (a b : List ℕ) → ReadyContext (a ++ b) w P C Γ → ReadyContext a w P C Γ
  ready_left a b r = record { rests = r.rests; new = λ m k h l c. r.new m k (has_left m a b h) l c; scope = r.scope; off = r.off; settled = r.settled }

  pub ready_right : (a b : List ℕ) → ReadyContext (a ++ b) w P C Γ → ReadyContext b w P C Γ
  ready_right a b r = record { rests = r.rests; new = λ m k h l c. r.new m k (has_right m a b h) l c; scope = r.scope; off = r.off; settled = r.settled }

  -- with items over C; with the unknowns of other nodes among C
  pub ready_and : (b : List ℕ) (t : Items) → Over C t → ReadyContext b w P C Γ → ReadyContext b w (And P t) C Γ
  ready_and b t o r = record { rests = λ σ τ e h. (r.rests σ τ e h.0, met_too C σ τ e t o h.1); new = r.new; scope = r.scope; off = r.off; settled = λ σ τ g h. r.settled σ τ g.0 h.0 }

  pub ready_with : (a b : List ℕ) → Apart a b → ReadyContext b w P C Γ → ReadyContext b w P (With a C) Γ
  ready_with a b d r = record {
    rests = λ σ τ e h. r.rests σ τ (λ x c. e x (inr c)) h;
    new = there;
    scope = scope_map C (With a C) (λ x c. inr c) Γ r.scope;
    off = r.off;
    settled = r.settled;
  }
    where
      there : New b (With a C)
      there m k h l (inl s) = slot_apart a b d m k h l s
      there m k h l (inr c) = r.new m k h l c

-- after items of other nodes
pub ready_after : (w : Items) (P : Typings) (C : ℕ → Type 0) (Γ : Scope) (a b : List ℕ) (t : Items) → Apart a b → ((N : ℕ → Type 0) → AllIn (Own N) a → ScopeOver N Γ → Over N t) → ReadyContext b w P C Γ
    → ReadyContext b w (And P t) (With a C) Γ
ready_after w P C Γ a b t d o r = let q = ready_with w P C Γ a b d r in ready_and w P (With a C) Γ b t (o (With a C) (own_all a C) q.scope) q

-- in the scope that the nodes a make
pub ready_inside : (w : Items) (P : Typings) (C : ℕ → Type 0) (Γ Δ : Scope) (a b : List ℕ) → ((N : ℕ → Type 0) → AllIn (Own N) a → ScopeOver N Γ → ScopeOver N Δ) → AllIn (Own (Off w)) a
    → ((σ τ : Valuation) → P finite σ → P finite τ → ScopeSame σ τ Γ → ScopeSame σ τ Δ) → ReadyContext b w P (With a C) Γ → ReadyContext b w P (With a C) Δ
ready_inside w P C Γ Δ a b o h s r =
    record { rests = r.rests; new = r.new; scope = o (With a C) (own_all a C) r.scope; off = o (Off w) h r.off; settled = λ σ τ g k. s σ τ g k (r.settled σ τ g k) }

-- ---- own nodes and nodes of inner pieces
own_in : (a : Expr) (m : ℕ) → has m (own_numbers a) ≡ true → has m (expr_numbers a) ≡ true
own_in a m h = once_has m (expr_numbers a) (omega (arith, has_once m (own_numbers a) h, parted m a))

inner_in : (a : Expr) (m : ℕ) → has m (inner_numbers a) ≡ true → has m (expr_numbers a) ≡ true
inner_in a m h = once_has m (expr_numbers a) (omega (arith, has_once m (inner_numbers a) h, parted m a))

own_apart : (a : Expr) → EachOnce (expr_numbers a) → Apart (own_numbers a) (inner_numbers a)
own_apart a o m p q = omega (arith, has_once m (own_numbers a) p, has_once m (inner_numbers a) q, parted m a, o m)

all_off : (t : Items) (l : List ℕ) → ((m k : ℕ) → has m l ≡ true → k ≤ 6 → Owns t (slot m k) → ⊥) → AllIn (Own (Off t)) l
all_off t [] f = tt
all_off t (m ∷ l) f = (λ k u. f m k (first_has m l) u, all_off t l (λ j k h u. f j k (rest_has m j l h) u))

-- ---- a piece t inside w whose own unknowns are none of C
module _ (n : ℕ) (t w : Items) (P : Typings) (C : ℕ → Type 0) (Γ : Scope) (l : List ℕ) where
  within : ((x : ℕ) → C x → Off t x) → ReadyContext l w P C Γ → ReadyContext l t P C Γ
  within f r = record { rests = r.rests; new = r.new; scope = r.scope; off = scope_map C (Off t) f Γ r.scope; settled = r.settled }

  pieced : ((x : ℕ) → C x → Off t x) → Over (Off w) t → ReadyContext l w P C Γ → (ReadyContext l t P C Γ → Separate t t P) → Separate (piece n t) w P
  unfolding Separate
  pieced f o r s = (o, λ σ τ e h. r.rests σ τ (λ x c. e x (f x c)) h, s (within f r))

-- what is claimed of an expression in its scope
abbrev Parts : Expr → Scope → Type 1
Parts a Γ = (w : Items) (P : Typings) (C : ℕ → Type 0) → ReadyContext (expr_numbers a) w P C Γ → ((x : ℕ) → Owns (expr_items a Γ) x → Owns w x) → AllIn (Own (Off w)) (inner_numbers a) → EachOnce (expr_numbers a) → SizedExpr a → Separate (expr_items a Γ) w P

few_scope : (C : ℕ → Type 0) (Γ : Scope) → ScopeOver C Γ → ScopeOver Every Γ
few_scope C Γ h = scope_map C Every (λ x c. tt) Γ h

pub pair_separate : (a b : Expr) (Γ : Scope) → Parts a Γ → Parts b Γ → (w : Items) (P : Typings) (C : ℕ → Type 0) → ReadyContext (expr_numbers a ++ expr_numbers b) w P C Γ
    → ((z : ℕ) → Owns (expr_items a Γ) z → Owns w z) → ((z : ℕ) → Owns (expr_items b Γ) z → Owns w z) → AllIn (Own (Off w)) (inner_numbers a ++ inner_numbers b) → EachOnce (expr_numbers a ++ expr_numbers b) → SizedExpr a → SizedExpr b
    → Separate (expr_items a Γ) w P × (Passes (expr_items a Γ) P → Separate (expr_items b Γ) w (And P (expr_items a Γ)))
pair_separate a b Γ x y w P C r u v h o f g =
    let A = expr_numbers a in
    let B = expr_numbers b in (
      x w P C (ready_left w P C Γ A B r) u (all_left (Own (Off w)) (inner_numbers a) (inner_numbers b) h) (once_left A B o) f,
      λ p. y w (And P (expr_items a Γ)) (With A C) (ready_after w P C Γ A B (expr_items a Γ) (apart A B o) (λ N h k. expr_over N a Γ h f k) (ready_right w P C Γ A B r)) v (all_right (Own (Off w)) (inner_numbers a) (inner_numbers b) h)
          (once_right A B o) g,
    )

-- a piece of one expression whose type is the power of unknown k of node n: a Decl's, an Include's actual
module _ (n k : ℕ) (a : Expr) (w : Items) (P : Typings) (C : ℕ → Type 0) (Γ : Scope) where
  pub power_piece : k ≤ 6 → (has n (expr_numbers a) ≡ true → ⊥) → (C (slot n k) → ⊥) → Over (Off w) (expr_items a Γ ⨾ is_power n k a) → ReadyContext (expr_numbers a) w P C Γ → EachOnce (expr_numbers a) → SizedExpr a → Parts a Γ
      → Separate (piece n (expr_items a Γ ⨾ is_power n k a)) w P
  unfolding Separate Owns
  power_piece u z c v r o f s =
      pieced n (expr_items a Γ ⨾ is_power n k a) w P C Γ (expr_numbers a) before v r
      (λ q. (
        s (expr_items a Γ ⨾ is_power n k a) P C q (λ x y. inl y) (all_off (expr_items a Γ ⨾ is_power n k a) (inner_numbers a) inner) o f,
        λ p. node_separate (is_power n k a) (expr_items a Γ ⨾ is_power n k a) (And P (expr_items a Γ)) (power_own (expr_items a Γ ⨾ is_power n k a) (And P (expr_items a Γ)) n k a (inr (inl refl)) (inl (root_owned a Γ P p))),
      ))
    where
      owns : (x : ℕ) → Owns (expr_items a Γ ⨾ is_power n k a) x → SlotIn (own_numbers a) x ⊎ (x ≡ slot n k)
      owns x (inl q) = inl (expr_owns x a Γ f (few_scope C Γ r.scope) q)
      owns x (inr q) = inr (power_owns x n k a q)

      here : (x : ℕ) → C x → SlotIn (own_numbers a) x ⊎ (x ≡ slot n k) → ⊥
      here x d (inl q) = r.new q.0 q.2.0 (own_in a q.0 q.1) q.2.1 (rw q.2.2 at d)
      here x d (inr e) = c (rw e at d)

      before : (x : ℕ) → C x → Off (expr_items a Γ ⨾ is_power n k a) x
      before x d q = here x d (owns x q)

      there : (m j : ℕ) → has m (inner_numbers a) ≡ true → j ≤ 6 → SlotIn (own_numbers a) (slot m j) ⊎ (slot m j ≡ slot n k) → ⊥
      there m j h l (inl q) = slot_apart (own_numbers a) (inner_numbers a) (own_apart a o) m j h l q
      there m j h l (inr e) = z (ap (λ (i : ℕ). has i (expr_numbers a)) (sym (slots_apart m j n k (omega (arith, l)) (omega (arith, u)) e).0) ∙ inner_in a m h)

      inner : (m j : ℕ) → has m (inner_numbers a) ≡ true → j ≤ 6 → Owns (expr_items a Γ ⨾ is_power n k a) (slot m j) → ⊥
      inner m j h l q = there m j h l (owns (slot m j) q)

-- the piece of an Abbreviation
module _ (n : ℕ) (a : Expr) (w : Items) (P : Typings) (C : ℕ → Type 0) (Γ : Scope) where
  pub expr_piece : Over (Off w) (expr_items a Γ) → ReadyContext (expr_numbers a) w P C Γ → EachOnce (expr_numbers a) → SizedExpr a → Parts a Γ → Separate (piece n (expr_items a Γ)) w P
  expr_piece v r o f s =
      pieced n (expr_items a Γ) w P C Γ (expr_numbers a) before v r
      (λ q. s (expr_items a Γ) P C q (λ x y. y) (all_off (expr_items a Γ) (inner_numbers a) (λ m j h l z. slot_apart (own_numbers a) (inner_numbers a) (own_apart a o) m j h l (owns (slot m j) z))) o f)
    where
      owns : (x : ℕ) → Owns (expr_items a Γ) x → SlotIn (own_numbers a) x
      owns x q = expr_owns x a Γ f (few_scope C Γ r.scope) q

      before : (x : ℕ) → C x → Off (expr_items a Γ) x
      before x d q = let s = owns x q in r.new s.0 s.2.0 (own_in a s.0 s.1) s.2.1 (rw s.2.2 at d)

-- the piece of a relation; e: its equations
module _ (n : ℕ) (a b : Expr) (e w : Items) (P : Typings) (C : ℕ → Type 0) (Γ : Scope) where
  pub relation_piece : ((x : ℕ) → Owns e x → ⊥)
      → (Owns (expr_items a Γ ⨾ expr_items b Γ ⨾ e) (slot (expr_node a) 0) → Owns (expr_items a Γ ⨾ expr_items b Γ ⨾ e) (slot (expr_node b) 0) → OwnNode e (expr_items a Γ ⨾ expr_items b Γ ⨾ e) (And (And P (expr_items a Γ)) (expr_items b Γ)))
      → Over (Off w) (expr_items a Γ ⨾ expr_items b Γ ⨾ e)
      → ReadyContext (expr_numbers a ++ expr_numbers b) w P C Γ → EachOnce (expr_numbers a ++ expr_numbers b) → SizedExpr a → SizedExpr b → Parts a Γ → Parts b Γ → Separate (piece n (expr_items a Γ ⨾ expr_items b Γ ⨾ e)) w P
  unfolding Separate Owns
  relation_piece z c v r o f g s u =
      pieced n t w P C Γ L before v r (λ q. let h = pair_separate a b Γ s u t P C q (λ x y. inl y) (λ x y. inr (inl y)) (all_off t J inner) o f g in
      (h.0, λ p. (h.1 p, λ y. node_separate e t _ (c (inl (root_owned a Γ P p)) (inr (inl (root_owned b Γ (And P (expr_items a Γ)) y)))))))
    where
      t : Items
      t = expr_items a Γ ⨾ expr_items b Γ ⨾ e

      L : List ℕ
      L = expr_numbers a ++ expr_numbers b

      K : List ℕ
      K = own_numbers a ++ own_numbers b

      J : List ℕ
      J = inner_numbers a ++ inner_numbers b

      count : (m : ℕ) → occurrences m K + occurrences m J ≡ occurrences m L
      count m =
          omega (arith, parted m a, parted m b, occurrences_append m (own_numbers a) (own_numbers b), occurrences_append m (inner_numbers a) (inner_numbers b), occurrences_append m (expr_numbers a) (expr_numbers b))

      owns : (x : ℕ) → Owns t x → SlotIn K x
      owns x (inl q) = in_left (own_numbers a) (own_numbers b) x (expr_owns x a Γ f (few_scope C Γ r.scope) q)
      owns x (inr (inl q)) = in_right (own_numbers a) (own_numbers b) x (expr_owns x b Γ g (few_scope C Γ r.scope) q)
      owns x (inr (inr q)) = absurd (z x q)

      before : (x : ℕ) → C x → Off t x
      before x d q = let s = owns x q in r.new s.0 s.2.0 (once_has s.0 L (omega (arith, has_once s.0 K s.1, count s.0))) s.2.1 (rw s.2.2 at d)

      split : Apart K J
      split m p q = omega (arith, has_once m K p, has_once m J q, count m, o m)

      inner : (m j : ℕ) → has m J ≡ true → j ≤ 6 → Owns t (slot m j) → ⊥
      inner m j h l q = slot_apart K J split m j h l (owns (slot m j) q)

-- ---- an actual of an Include, node n: the unknowns k, k + 1, .. of n are new too
abbrev pub NewRow : ℕ → ℕ → (ℕ → Type 0) → Type 0
NewRow n k C = (j : ℕ) → k ≤ j → j ≤ 6 → C (slot n j) → ⊥

abbrev pub WithOne : ℕ → (ℕ → Type 0) → ℕ → Type 0
WithOne y C x = (x ≡ y) ⊎ C x

pub mentions : (N : ℕ → Type 0) (a : Expr) (n k : ℕ) (Γ : Scope) → N (slot n k) → AllIn (Own N) (expr_numbers a) → SizedExpr a → ScopeOver N Γ → Over N (piece n (expr_items a Γ ⨾ is_power n k a))
unfolding Over Each
mentions N a n k Γ u h f s = (expr_over N a Γ h f s, (u, ((type_over N a h, (u, tt)), tt)))

module _ (n k : ℕ) (w : Items) (P : Typings) (C : ℕ → Type 0) (Γ : Scope) (b : List ℕ) (u : k ≤ 6) (z : has n b ≡ true → ⊥) where
  pub ready_one : ReadyContext b w P C Γ → ReadyContext b w P (WithOne (slot n k) C) Γ
  ready_one r = record {
    rests = λ σ τ e h. r.rests σ τ (λ x c. e x (inr c)) h;
    new = there;
    scope = scope_map C (WithOne (slot n k) C) (λ x c. inr c) Γ r.scope;
    off = r.off;
    settled = r.settled;
  }
    where
      there : New b (WithOne (slot n k) C)
      there m j h l (inl e) = z (ap (λ (i : ℕ). has i b) (sym (slots_apart m j n k (omega (arith, l)) (omega (arith, u)) e).0) ∙ h)
      there m j h l (inr c) = r.new m j h l c

-- the row's rest after one actual with the nodes a
pub row_after : (n k : ℕ) (a : List ℕ) (C : ℕ → Type 0) → k ≤ 6 → (has n a ≡ true → ⊥) → NewRow n k C → NewRow n (suc k) (WithOne (slot n k) (With a C))
row_after n k a C u z r j p q (inl e) = let h = (slots_apart n j n k (omega (arith, q)) (omega (arith, u)) e).1 in omega (arith, h, p)
row_after n k a C u z r j p q (inr (inl s)) = z (ap (λ (i : ℕ). has i a) (slots_apart n j s.0 s.2.0 (omega (arith, q)) (omega (arith, s.2.1)) s.2.2).0 ∙ s.1)
row_after n k a C u z r j p q (inr (inr c)) = r j (omega (arith, p)) q c

pub all_map : (N M : ℕ → Type 0) → ((x : ℕ) → N x → M x) → (l : List ℕ) → AllIn (Own N) l → AllIn (Own M) l
all_map N M f [] h = tt
all_map N M f (m ∷ l) h = (λ k u. f (slot m k) (h.0 k u), all_map N M f l h.1)

pub rule_separate : (f : NamedSchema) (i : Include) (actuals w : Items) (P : Typings) → Separate actuals w P → Separate (include_rule f i actuals) w P
unfolding include_rule Separate
rule_separate no_schema (include n s k xs rs) actuals w P h = tt
rule_separate (a_schema p g) (include n s k xs rs) actuals w P h = go (eqb (exprs_length xs) p)
  where
    go : (b : Bool) → Separate (cond b (actuals ⨾ refuse_if (wrong_names k rs (components_of (instance nil g))) 37 n) (refusal 32 n)) w P
    go true = (h, λ y. bare_separate _ w (And P actuals) (refuse_if_bare (wrong_names k rs (components_of (instance nil g))) 37 n) (refuse_if_over (Off w) (wrong_names k rs (components_of (instance nil g))) 37 n))
    go false = tt
