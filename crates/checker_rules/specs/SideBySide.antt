-- 33 and 39 told apart by the equations alone (document 02, ask 10), no types and no order of solving: 33 where the equations of a node, with all those before
-- it, put two different formers side by side; 39 where they put none, and still no types solve them (proofs/SideBySide).
use Rattle.std.specs.Prelude.{◌≡◌, List, [], ◌∷◌, ◌⊎◌, ◌↔◌, ℕ, length}
use Rattle.std.proofs.Math.Option.{some}
use Rattle.reader_rules.specs.Tree.{Paragraph}
use Rattle.types_rules.specs.Former.{Former}
use Rattle.types_rules.specs.Types.{Term, unknown, con, Terms, under}
use Rattle.types_rules.specs.Equations.{Solves, InP}
use Rattle.types_rules.specs.Follows.{parts}
use Rattle.types_rules.specs.Classify.{to_list}
use Rattle.types_rules.specs.Component.{component}
use Rattle.types_rules.specs.Trees.{finite}
use Rattle.checker_rules.specs.Unknowns.{Valuation}
use Rattle.checker_rules.specs.Items.{Items, skip, ◌⨾◌, fresh, equations, equate, select, small, refusal, piece, Meets, Typings, Any, And, Passes, Refuses}
use Rattle.checker_rules.specs.Dictionary.{Dictionary}
use Rattle.checker_rules.specs.Rules.{paragraph_items}
use Rattle.checker_rules.specs.Entries.{extend}

-- The items state the equation a = b.
unfoldable pub Stated : Items → Term → Term → Type 0
Stated skip a b = ⊥
Stated (s ⨾ t) a b = Stated s a b ⊎ Stated t a b
Stated (fresh x) a b = ⊥
Stated (equations n es) a b = InP a b es
Stated (equate f n c d) a b = (a ≡ c) × (b ≡ d)
Stated (select n i c x) a b = ⊥
Stated (small n c) a b = ⊥
Stated (refusal f n) a b = ⊥
Stated (piece n t) a b = Stated t a b

-- By the items the unknown x is the type of component i of a.
unfoldable pub Chosen : Items → ℕ → Term → ℕ → Type 0
Chosen skip i a x = ⊥
Chosen (s ⨾ t) i a x = Chosen s i a x ⊎ Chosen t i a x
Chosen (fresh y) i a x = ⊥
Chosen (equations n es) i a x = ⊥
Chosen (equate f n c d) i a x = ⊥
Chosen (select n j c y) i a x = (i ≡ j) × (a ≡ c) × (x ≡ y)
Chosen (small n c) i a x = ⊥
Chosen (refusal f n) i a x = ⊥
Chosen (piece n t) i a x = Chosen t i a x

-- "The equations, taken with all equalities between matching parts that follow from them". A Select is the equation of its unknown with the component of any
-- binding that follows to be its term.
pub data Follows (t : Items) : Term → Term → Type 0 where
  stated : {a b : Term} → Stated t a b → Follows t a b
  chosen : {u : Term} (i : ℕ) (a b : Term) (x : ℕ) → Chosen t i a x → Follows t a b → component i b ≡ some u → Follows t (unknown x) u
  reflexive : {a : Term} → Follows t a a
  symmetric : {a b : Term} → Follows t a b → Follows t b a
  transitive : {a b c : Term} → Follows t a b → Follows t b c → Follows t a c
  matching : {c d : Term} (h : Former) (us vs : Terms) → Follows t (con h us) (con h vs) → InP c d (parts (to_list us) (to_list vs)) → Follows t c d

-- They "put two different formers side by side". A given, a parameter and the identifiers of a binding are part of a former; lengths are compared too.
pub record Clash (t : Items) : Type 0 where
  pub h : Former
  pub g : Former
  pub us : Terms
  pub vs : Terms
  pub meet : Follows t (con h us) (con g vs)
  pub differ : h ≡ g → length (to_list us) ≡ length (to_list vs) → ⊥

-- At each node that is reached; H: the items before, P: the valuations that meet them.
unfoldable pub BySides : Items → Items → Typings → Type 0
BySides skip H P = Unit {0}
BySides (a ⨾ b) H P = BySides a H P × (Passes a P → BySides b (H ⨾ a) (And P a))
BySides (fresh x) H P = Unit {0}
BySides (equations n es) H P =
    (f : ℕ)
    → Refuses (equations n es) P f n
    ↔ (((τ : Valuation) → P finite τ → Solves (under τ) es → ⊥) × (((f ≡ 33) × Clash (H ⨾ equations n es)) ⊎ ((f ≡ 39) × (Clash (H ⨾ equations n es) → ⊥))))
BySides (equate f n a b) H P = Unit {0}
BySides (select n i a x) H P = Unit {0}
BySides (small n a) H P = Unit {0}
BySides (refusal f n) H P = Unit {0}
BySides (piece n t) H P = BySides t H P

-- through paragraphs, over the dictionary so far, with any typing of each
unfoldable pub SidesDecide : List Paragraph → Dictionary → Type 0
SidesDecide [] D = Unit {0}
SidesDecide (p ∷ ps) D = BySides (paragraph_items p D) skip Any × ((τ : Valuation) → Meets (paragraph_items p D) τ → SidesDecide ps (extend p D τ))
