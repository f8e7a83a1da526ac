-- 33, 34, 35 AND 39 REST ON THE OWN EQUATIONS OF THEIR PIECE (R15), in every readable document: what else is asked before a node of a piece mentions none of the
-- piece's own unknowns. First for items of any kind, then for those of the rules.
use mathlib.Core.Path.{◌≡◌, refl, sym, ap, subst, ◌∙◌}
use mathlib.Core.Option.{some}
use mathlib.Core.Logic.{◌⊎◌, inl, inr, ◌↔◌}
use Prim.Native.Nat.{ℕ}
use native.Mathlib.Omega.{arith}
use Rattle.types_rules.specs.Types.{Ty, Term, unknown, under, Each}
use Rattle.types_rules.specs.Component.{component_type}
use Rattle.types_rules.specs.Equations.{Pairs, end, pair, AllP, Solves}
use Rattle.types_rules.specs.Classify.{classify}
use Rattle.types_rules.specs.Trees.{finite, infinite}
use Rattle.types_rules.proofs.Classify.{classify_right}
use Rattle.checker_rules.specs.Unknowns.{Valuation}
use Rattle.checker_rules.specs.Items.{Items, skip, ◌⨾◌, fresh, equations, equate, select, small, refusal, piece, Known, Meets, Agree, Any, And, Passes, Refuses, MeetsIn, Typings}
use Rattle.checker_rules.specs.Solving.{join_pairs, equations_of, number_of}
use Rattle.checker_rules.specs.Pieces.{Owns}
use Rattle.checker_rules.specs.PieceEquations.{SolvesOwn, Beside, OwnSolution, ByOwnEquations}
use Rattle.checker_rules.proofs.ItemForms.{Bare}
use Rattle.checker_rules.proofs.ItemEquations.{Standing, solves_join, standing_more}
use Rattle.checker_rules.proofs.SolverEquations.{number_right}
use Rattle.checker_rules.proofs.PieceTypes.{owns_decide}
use Rattle.checker_rules.proofs.ItemUnknowns.{Over, same_under, met_too}

-- x is none of the own unknowns of the piece
abbrev pub Off : Items → ℕ → Type 0
Off w x = Owns w x → ⊥

-- σ is σ' at the own unknowns of the piece w, and τ elsewhere.
abbrev pub Joined : Items → Valuation → Valuation → Valuation → Type 0
Joined w σ σ' τ = ((x : ℕ) → Owns w x → σ x ≡ σ' x) × Beside w σ τ

module _ (w : Items) (σ τ : Valuation) where
  choose : (x : ℕ) → Owns w x ⊎ (Owns w x → ⊥) → Ty
  choose x (inl q) = σ x
  choose x (inr n) = τ x

  join : Valuation
  join x = choose x (owns_decide w x)

  chosen_own : (x : ℕ) (d : Owns w x ⊎ (Owns w x → ⊥)) → Owns w x → choose x d ≡ σ x
  unfolding choose
  chosen_own x (inl q) o = refl
  chosen_own x (inr n) o = absurd (n o)

  chosen_other : (x : ℕ) (d : Owns w x ⊎ (Owns w x → ⊥)) → (Owns w x → ⊥) → choose x d ≡ τ x
  unfolding choose
  chosen_other x (inl q) n = absurd (n q)
  chosen_other x (inr m) n = refl

  joined : Joined w join σ τ
  unfolding join
  joined = (λ x o. chosen_own x (owns_decide w x) o, λ x n. chosen_other x (owns_decide w x) n)

-- The type of t depends on the own unknowns of w and on settled types alone.
abbrev pub Fixed : Items → Typings → Term → Type 0
Fixed w P t = (σ σ' τ : Valuation) → P finite σ' → P finite τ → Joined w σ σ' τ → under σ t ≡ under σ' t

abbrev pub FixedPairs : Items → Typings → Pairs Term → Type 0
FixedPairs w P es = AllP (λ a b. Fixed w P a × Fixed w P b) es

-- What is asked beside the own equations of the piece w mentions none of its unknowns: pieces inside it, 36, sizes; its own equations mention its unknowns and
-- settled types. The valuations P before a piece do not depend on the piece's unknowns.
unfoldable pub Separate : Items → Items → Typings → Type 0
Separate skip w P = Unit {0}
Separate (a ⨾ b) w P = Separate a w P × (Passes a P → Separate b w (And P a))
Separate (fresh x) w P = Unit {0}
Separate (equations n es) w P = FixedPairs w P es
Separate (equate f n a b) w P = Each (Off w) a × Each (Off w) b
Separate (select n i a x) w P = Fixed w P a × Fixed w P (unknown x)
Separate (small n a) w P = Each (Off w) a
Separate (refusal f n) w P = Unit {0}
Separate (piece n t) w P = Over (Off w) t × ((σ τ : Valuation) → Beside t σ τ → P finite τ → P finite σ) × Separate t t P

-- With a typing τ of the items, a valuation beside it that solves their own equations is a typing of them too; and every typing solves them.
module _ (w : Items) (σ τ : Valuation) (e : Beside w σ τ) where
  own_meets : (t : Items) (P : Typings) → Separate t w P → Passes t P → Meets t τ → SolvesOwn t σ → Meets t σ
  unfolding Separate Passes MeetsIn SolvesOwn
  own_meets skip P s p h q = tt
  own_meets (a ⨾ b) P s p h q = (own_meets a P s.0 p.0 h.0 q.0, own_meets b (And P a) (s.1 p.0) p.1 h.1 q.1)
  own_meets (fresh x) P s p h q = tt
  own_meets (equations n es) P s p h q = q
  own_meets (equate f n a b) P s p h q = same_under (Off w) σ τ e a s.0 ∙ h ∙ sym (same_under (Off w) σ τ e b s.1)
  own_meets (select n i a x) P s p h q = q
  own_meets (small n a) P s p h q = rw (same_under (Off w) σ τ e a s) h
  own_meets (refusal f n) P s p h q = h
  own_meets (piece n t) P s p h q = met_too (Off w) σ τ e t s.0 h

meets_own : (t : Items) (σ : Valuation) → Meets t σ → SolvesOwn t σ
unfolding MeetsIn SolvesOwn
meets_own skip σ h = tt
meets_own (a ⨾ b) σ h = (meets_own a σ h.0, meets_own b σ h.1)
meets_own (fresh x) σ h = tt
meets_own (equations n es) σ h = h
meets_own (equate f n a b) σ h = tt
meets_own (select n i a x) σ h = h
meets_own (small n a) σ h = tt
meets_own (refusal f n) σ h = tt
meets_own (piece n t) σ h = tt

-- The own types of one typing, joined with the rest of another, solve the own equations too.
module _ (w : Items) (σ σ' τ : Valuation) (j : Joined w σ σ' τ) where
  joined_pairs : (es : Pairs Term) (P : Typings) → FixedPairs w P es → P finite σ' → P finite τ → Solves (under σ') es → Solves (under σ) es
  joined_pairs end P s g h q = tt
  joined_pairs (pair a b es) P s g h q = (s.0.0 σ σ' τ g h j ∙ q.0 ∙ sym (s.0.1 σ σ' τ g h j), joined_pairs es P s.1 g h q.1)

  joined_solves : (t : Items) (P : Typings) → Separate t w P → Passes t P → And P t finite σ' → And P t finite τ → SolvesOwn t σ
  unfolding Separate Passes MeetsIn SolvesOwn under
  joined_solves skip P s p g h = tt
  joined_solves (a ⨾ b) P s p g h =
      (joined_solves a P s.0 p.0 (g.0, g.1.0) (h.0, h.1.0), joined_solves b (And P a) (s.1 p.0) p.1 ((g.0, g.1.0), g.1.1) ((h.0, h.1.0), h.1.1))
  joined_solves (fresh x) P s p g h = tt
  joined_solves (equations n es) P s p g h = joined_pairs es P s g.0 h.0 g.1
  joined_solves (equate f n a b) P s p g h = tt
  joined_solves (select n i a x) P s p g h = ap (component_type i) (s.0 σ σ' τ g.0 h.0 j) ∙ g.1 ∙ ap some (sym (s.1 σ σ' τ g.0 h.0 j))
  joined_solves (small n a) P s p g h = tt
  joined_solves (refusal f n) P s p g h = tt
  joined_solves (piece n t) P s p g h = tt

-- The valuations that meet all that comes before are the solutions of the piece's own equations beside a typing; and any typing will do.
pub record Alone (w : Items) (P : Typings) (E : Valuation → Type 0) : Type 0 where
  pub own : (σ : Valuation) → P finite σ → E σ
  pub all : (σ τ : Valuation) → P finite τ → OwnSolution w E τ σ → P finite σ
  pub any : (σ σ' τ : Valuation) → P finite σ' → P finite τ → Joined w σ σ' τ → E σ

alone_after : (w t : Items) (P : Typings) (E : Valuation → Type 0) → Separate t w P → Passes t P → Alone w P E → Alone w (And P t) (λ τ. E τ × SolvesOwn t τ)
alone_after w t P E s p a = record {
  own = λ σ h. (a.own σ h.0, meets_own t σ h.1);
  all = λ σ τ h o. (a.all σ τ h.0 (o.0, o.1.0), own_meets w σ τ o.0 t P s p h.1 o.1.1);
  any = λ σ σ' τ g h j. (a.any σ σ' τ g.0 h.0 j, joined_solves w σ σ' τ j t P s p g h);
}

-- before a piece there are none of its equations
alone_start : (t : Items) (P : Typings) → ((σ τ : Valuation) → Beside t σ τ → P finite τ → P finite σ) → Alone t P (Any finite)
alone_start t P f = record { own = λ σ h. tt; all = λ σ τ h o. f σ τ o.0 h; any = λ σ σ' τ g h j. tt }

-- valuations that are the same at the own unknowns of the items agree on them alike
agree_map : (t : Items) (σ υ σ' υ' : Valuation) → ((x : ℕ) → Owns t x → σ x ≡ σ' x) → ((x : ℕ) → Owns t x → υ x ≡ υ' x) → Agree t σ υ → Agree t σ' υ'
unfolding Owns Agree
agree_map skip σ υ σ' υ' e f h = tt
agree_map (a ⨾ b) σ υ σ' υ' e f h = (agree_map a σ υ σ' υ' (λ x q. e x (inl q)) (λ x q. f x (inl q)) h.0, agree_map b σ υ σ' υ' (λ x q. e x (inr q)) (λ x q. f x (inr q)) h.1)
agree_map (fresh x) σ υ σ' υ' e f h = sym (e x refl) ∙ h ∙ f x refl
agree_map (equations n es) σ υ σ' υ' e f h = tt
agree_map (equate g n a b) σ υ σ' υ' e f h = tt
agree_map (select n i a x) σ υ σ' υ' e f h = tt
agree_map (small n a) σ υ σ' υ' e f h = tt
agree_map (refusal g n) σ υ σ' υ' e f h = tt
agree_map (piece n t) σ υ σ' υ' e f h = tt

module _ (w : Items) (P : Typings) (E : Valuation → Type 0) (a : Alone w P E) (σ' τ : Valuation) (g : P finite σ') (h : P finite τ) where
  -- a typing's own types beside τ
  own_beside : OwnSolution w E τ (join w σ' τ)
  own_beside = ((joined w σ' τ).1, a.any (join w σ' τ) σ' τ g h (joined w σ' τ))

  same_type_lem : (t : Term) → Fixed w P t → under (join w σ' τ) t ≡ under σ' t
  same_type_lem t f = f (join w σ' τ) σ' τ g h (joined w σ' τ)

-- Equations that none of P solve have a number, where P are the solutions of some equations F.
pub unsolved : (P : Typings) (F : Pairs Term) → Standing P F → (n : ℕ) (es : Pairs Term) → ((τ : Valuation) → P finite τ → Solves (under τ) es → ⊥) → (f : ℕ) × Refuses (equations n es) P f n
unfolding Refuses
unsolved P F S n es r = (
  number_of (classify (join_pairs es F)),
  (refl, r, number_right P F n es (S infinite) (λ v. let z = (solves_join finite v.0 es F).1 v.1 in r v.0 ((S finite v.0).1 z.0) z.1) (classify (join_pairs es F)) (classify_right (join_pairs es F))),
)

pub by_own : (t w : Items) (P : Typings) (E : Valuation → Type 0) (F : Pairs Term) → Standing P F → Separate t w P → Alone w P E → ByOwnEquations t w P E
unfolding Separate ByOwnEquations Refuses
by_own skip w P E F S s a = tt
by_own (x ⨾ y) w P E F S s a =
    (by_own x w P E F S s.0 a, λ p. by_own y w (And P x) (λ τ. E τ × SolvesOwn x τ) (equations_of x F) (standing_more x P F p S) (s.1 p) (alone_after w x P E s.0 p a))
by_own (fresh x) w P E F S s a = tt
by_own (equations n es) w P E F S s a =
    λ τ h. (
      λ r σ o e. r.1.1 σ (a.all σ τ h o) e,
      λ r. unsolved P F S n es (λ σ' g e. r (join w σ' τ) (own_beside w P E a σ' τ g h) (joined_pairs w (join w σ' τ) σ' τ (joined w σ' τ) es P s g h e)),
    )
by_own (equate f n u v) w P E F S s a = tt
by_own (select n i u x) w P E F S s a = λ τ h. (to τ h, λ r. inl (refl, refl, (r.0, a.all r.0 τ h r.1, r.2)))
  where
    to : (τ : Valuation) → P finite τ → Refuses (select n i u x) P 35 n → (σ : Valuation) × OwnSolution w E τ σ × (Known (component_type i (under σ u)) → ⊥)
    to τ h (inl r) =
        let σ' = r.2.0 in
        let g = r.2.1 in
        (join w σ' τ, own_beside w P E a σ' τ g h, λ k. r.2.2 (subst (λ (z : Ty). Known (component_type i z)) (same_type_lem w P E a σ' τ g h u s.0) k))
    to τ h (inr r) = absurd (let z = r.0 in omega (arith, z))
by_own (small n u) w P E F S s a = tt
by_own (refusal f n) w P E F S s a = tt
by_own (piece n t) w P E F S s a = (by_own t t P (Any finite) F S s.2 start, closing)
  where
    start : Alone t P (Any finite)
    start = alone_start t P s.1

    closing : Passes t P → (τ : Valuation) → And P t finite τ
        → (((σ υ : Valuation) × And P t finite σ × And P t finite υ × (Agree t σ υ → ⊥)) ↔ ((σ υ : Valuation) × OwnSolution t (SolvesOwn t) τ σ × OwnSolution t (SolvesOwn t) τ υ × (Agree t σ υ → ⊥)))
    closing p τ h =
        let b = alone_after t t P (Any finite) s.2 p start in
        let c : Alone t (And P t) (SolvesOwn t) = record { own = λ σ k. (b.own σ k).1; all = λ σ υ k o. b.all σ υ k (o.0, (tt, o.1)); any = λ σ σ' υ k l j. (b.any σ σ' υ k l j).1 } in (
          λ r. (
            join t r.0 τ,
            join t r.1 τ,
            own_beside t (And P t) (SolvesOwn t) c r.0 τ r.2 h,
            own_beside t (And P t) (SolvesOwn t) c r.1 τ r.3 h,
            λ k. r.4 (agree_map t (join t r.0 τ) (join t r.1 τ) r.0 r.1 (joined t r.0 τ).0 (joined t r.1 τ).0 k),
          ),
          λ r. (r.0, r.1, c.all r.0 τ h r.2, c.all r.1 τ h r.3, r.4),
        )

-- ---- bare items over other unknowns
pub bare_separate : (t w : Items) (P : Typings) → Bare t → Over (Off w) t → Separate t w P
unfolding Bare Over Separate
bare_separate skip w P f o = tt
bare_separate (a ⨾ b) w P f o = (bare_separate a w P f.0 o.0, λ p. bare_separate b w (And P a) f.1 o.1)
bare_separate (fresh x) w P f o = tt
bare_separate (equations n es) w P f o = absurd f
bare_separate (equate g n a b) w P f o = o
bare_separate (select n i a x) w P f o = absurd f
bare_separate (small n a) w P f o = o
bare_separate (refusal g n) w P f o = tt
bare_separate (piece n t) w P f o = absurd f

-- ---- terms whose types are fixed
pub fixed_own : (w : Items) (P : Typings) (t : Term) → Each (Owns w) t → Fixed w P t
fixed_own w P t h σ σ' τ g k j = same_under (Owns w) σ σ' j.0 t h

pub fixed_off : (w : Items) (P : Typings) (t : Term) → Each (Off w) t → ((σ τ : Valuation) → P finite σ → P finite τ → under σ t ≡ under τ t) → Fixed w P t
fixed_off w P t h s σ σ' τ g k j = same_under (Off w) σ τ j.1 t h ∙ s τ σ' k g

-- ---- the items of an expression's own node: unknowns, equations between fixed types, refusals
unfoldable pub OwnNode : Items → Items → Typings → Type 0
OwnNode skip w P = Unit {0}
OwnNode (a ⨾ b) w P = OwnNode a w P × OwnNode b w P
OwnNode (fresh x) w P = Unit {0}
OwnNode (equations n es) w P = FixedPairs w P es
OwnNode (equate f n a b) w P = ⊥
OwnNode (select n i a x) w P = ⊥
OwnNode (small n a) w P = ⊥
OwnNode (refusal f n) w P = Unit {0}
OwnNode (piece n t) w P = ⊥

pairs_more : (es : Pairs Term) (w : Items) (P Q : Typings) → ((τ : Valuation) → Q finite τ → P finite τ) → FixedPairs w P es → FixedPairs w Q es
pairs_more end w P Q e h = tt
pairs_more (pair a b es) w P Q e h = ((λ σ σ' τ g k j. h.0.0 σ σ' τ (e σ' g) (e τ k) j, λ σ σ' τ g k j. h.0.1 σ σ' τ (e σ' g) (e τ k) j), pairs_more es w P Q e h.1)

pub node_more : (t w : Items) (P Q : Typings) → ((τ : Valuation) → Q finite τ → P finite τ) → OwnNode t w P → OwnNode t w Q
unfolding OwnNode
node_more skip w P Q e h = tt
node_more (a ⨾ b) w P Q e h = (node_more a w P Q e h.0, node_more b w P Q e h.1)
node_more (fresh x) w P Q e h = tt
node_more (equations n es) w P Q e h = pairs_more es w P Q e h
node_more (equate f n a b) w P Q e h = h
node_more (select n i a x) w P Q e h = h
node_more (small n a) w P Q e h = h
node_more (refusal f n) w P Q e h = tt
node_more (piece n t) w P Q e h = h

pub node_separate : (t w : Items) (P : Typings) → OwnNode t w P → Separate t w P
unfolding OwnNode Separate
node_separate skip w P f = tt
node_separate (a ⨾ b) w P f = (node_separate a w P f.0, λ p. node_separate b w (And P a) (node_more b w P (And P a) (λ τ h. h.0) f.1))
node_separate (fresh x) w P f = tt
node_separate (equations n es) w P f = f
node_separate (equate g n a b) w P f = absurd f
node_separate (select n i a x) w P f = absurd f
node_separate (small n a) w P f = absurd f
node_separate (refusal g n) w P f = tt
node_separate (piece n t) w P f = absurd f
