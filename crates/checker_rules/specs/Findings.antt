-- When the findings 31, 32, 36, 37 and 38 come at their nodes, in lookups, signatures and types, as the table of document 01 words it. That the rules give
-- each finding there and nowhere else: specs/FindingRows. (33, 34, 35 and 39: specs/PieceEquations and specs/SideBySide.)
use Rattle.std.specs.Prelude.{◌≡◌, true, List, [], ◌∷◌, ◌⊎◌, ℕ, zero, suc, ◌<◌}
use Rattle.std.proofs.Math.Option.{some}
use Rattle.words.specs.Loops.{has}
use Rattle.reader_rules.specs.Tree.{Exprs, Lines, end, declaration, inclusion, Paragraph, exprs_length, include_node}
use Rattle.types_rules.specs.Types.{Ty, Term, under, size}
use Rattle.types_rules.specs.Trees.{finite}
use Rattle.checker_rules.specs.Strokes.{decorate, takes}
use Rattle.checker_rules.specs.Unknowns.{Valuation, unknown_at}
use Rattle.checker_rules.specs.Items.{Items, skip, ◌⨾◌, fresh, equations, equate, select, small, refusal, piece, Meets, Any, And, Passes, Refuses, Typings}
use Rattle.checker_rules.specs.Dictionary.{Dictionary, Named, unnamed, of_local, of_global, NamedSchema, no_schema, a_schema}
use Rattle.checker_rules.specs.Signatures.{Signature, no_names, naming, count_names, names_of, term_in, merge, declare}
use Rattle.checker_rules.specs.Scopes.{Scope, name_at, include_signature}
use Rattle.checker_rules.specs.Conditions.{merge_declared, merge_names, new_names, small_types, few_names, is_power}
use Rattle.checker_rules.specs.Rules.{expr_items, include_items, paragraph_items}
use Rattle.checker_rules.specs.Entries.{extend}
use Rattle.checker_rules.specs.Globals.{is_global}
use Rattle.checker_rules.specs.Typing.{schema_of, schema_names, Stroked, BadNames, type_at}

-- The finding h at j is f at n, and A holds; or A does not, and R.
abbrev pub Or : ℕ → ℕ → Type 0 → ℕ → ℕ → Type 0 → Type 0
Or f n A h j R = ((h ≡ f) × (j ≡ n) × A) ⊎ ((A → ⊥) × R)

-- 32, Ref: "actuals neither 0 nor the parameter count". A local name has no parameters.
unfoldable pub parameter_count : Named → ℕ
parameter_count unnamed = 0
parameter_count (of_local t) = 0
parameter_count (of_global p g) = p

abbrev pub WrongActuals : Exprs → Named → Type 0
WrongActuals xs m = (m ≡ unnamed → ⊥) × (exprs_length xs ≡ 0 → ⊥) × (exprs_length xs ≡ parameter_count m → ⊥)

-- 31, Theta: "name unknown; Theta identifier absent or generic"; a component that cannot take the stroke gives only 37 (R10).
unfoldable pub AbsentOrGeneric : Named → Type 0
AbsentOrGeneric unnamed = Unit {0}
AbsentOrGeneric (of_local t) = ⊥
AbsentOrGeneric (of_global zero g) = ⊥
AbsentOrGeneric (of_global (suc p) g) = Unit {0}

abbrev pub SomeAbsent : ℕ → List ℕ → Scope → Type 0
SomeAbsent k is Γ = (i : ℕ) × (has i is ≡ true) × (takes k i ≡ true) × AbsentOrGeneric (name_at (decorate k i) Γ)

unfoldable pub ThetaUnknown : ℕ → NamedSchema → Scope → Type 0
ThetaUnknown k no_schema Γ = Unit {0}
ThetaUnknown k (a_schema p g) Γ = SomeAbsent k (schema_names g) Γ

-- 32, Theta has 0 actuals; 37, "stroke on a stroked component"
unfoldable pub HasParameters : NamedSchema → Type 0
HasParameters no_schema = ⊥
HasParameters (a_schema p g) = 0 < p

unfoldable pub ThetaStroked : ℕ → NamedSchema → Type 0
ThetaStroked k no_schema = ⊥
ThetaStroked k (a_schema p g) = Stroked k (schema_names g)

-- 32, Include: "not the count"; 37: "stroke on a stroked component; bad rename"
unfoldable pub Counted : NamedSchema → Exprs → Type 0
Counted no_schema xs = ⊥
Counted (a_schema p g) xs = exprs_length xs ≡ p

unfoldable pub WrongCount : NamedSchema → Exprs → Type 0
WrongCount no_schema xs = ⊥
WrongCount (a_schema p g) xs = exprs_length xs ≡ p → ⊥

unfoldable pub IncludeNames : NamedSchema → ℕ → List (ℕ × ℕ) → Type 0
IncludeNames no_schema k rs = ⊥
IncludeNames (a_schema p g) k rs = BadNames k rs (schema_of g)

-- 36: "an identifier global by an earlier paragraph too" (R16; with "an Axiom's Include bringing at least one" in proofs/SecondCase)
abbrev pub GlobalTwice : List ℕ → Dictionary → Type 0
GlobalTwice is G = (i : ℕ) × (has i is ≡ true) × (is_global i G ≡ true)

module _ (τ : Valuation) where
  -- 36: "merging identifiers with different types": identifiers of type g, or those of s, with r
  abbrev pub Clash : Ty → List ℕ → Signature → Type 0
  Clash g is r = (i : ℕ) × (has i is ≡ true) × (u : Term) × (term_in i r ≡ some u) × (g ≡ under τ u → ⊥)

  unfoldable pub Clashes : Signature → Signature → Type 0
  Clashes no_names r = ⊥
  Clashes (naming i t s) r = ((u : Term) × (term_in i r ≡ some u) × (under τ t ≡ under τ u → ⊥)) ⊎ Clashes s r

  -- 38: "component type .. over size 32"
  unfoldable pub TooBig : Signature → Type 0
  TooBig no_names = ⊥
  TooBig (naming i t s) = (32 < size (under τ t)) ⊎ TooBig s

-- The findings of a Text's lines, one after the other: those of a Decl's piece or of an Include; then, by the types that any typing τ so far gives (they are
-- settled), 36, 38, and those of the lines after it. r: what the lines before declare.
unfoldable pub LinesFind : Lines → Scope → Dictionary → Signature → Typings → ℕ → ℕ → Type 0
LinesFind end Γ G r P h j = ⊥
LinesFind (declaration n a is ls) Γ G r P h j =
    Refuses (piece n (expr_items a Γ ⨾ is_power n 0 a)) P h j
    ⊎ (Passes (piece n (expr_items a Γ ⨾ is_power n 0 a)) P
    × ((τ : Valuation) × And P (piece n (expr_items a Γ ⨾ is_power n 0 a)) finite τ
    × Or 36 n (Clash τ (type_at τ n) is r ⊎ GlobalTwice is G) h j (Or 38 n ((32 < size (type_at τ n)) ⊎ (16 < count_names (declare is (unknown_at n 0) r))) h j
    (LinesFind ls Γ G (declare is (unknown_at n 0) r)
    (And (And (And P (piece n (expr_items a Γ ⨾ is_power n 0 a))) (merge_declared n is (unknown_at n 0) r ⨾ new_names n is G)) (small n (unknown_at n 0) ⨾ few_names n (declare is (unknown_at n 0) r))) h j))))
LinesFind (inclusion i ls) Γ G r P h j =
    Refuses (include_items i Γ) P h j
    ⊎ (Passes (include_items i Γ) P
    × ((τ : Valuation) × And P (include_items i Γ) finite τ
    × Or 36 (include_node i) (Clashes τ (include_signature i Γ) r ⊎ GlobalTwice (names_of (include_signature i Γ)) G) h j
    (Or 38 (include_node i) (TooBig τ (include_signature i Γ) ⊎ (16 < count_names (merge (include_signature i Γ) r))) h j
    (LinesFind ls Γ G (merge (include_signature i Γ) r)
    (And (And (And P (include_items i Γ)) (merge_names (include_node i) (include_signature i Γ) r ⨾ new_names (include_node i) (names_of (include_signature i Γ)) G))
    (small_types (include_node i) (include_signature i Γ) ⨾ few_names (include_node i) (merge (include_signature i Γ) r))) h j))))

-- 33 never comes at a Select: at none of the items' Selects that is reached, where P are the valuations that meet the items before.
unfoldable pub NoSelect33 : Items → Typings → Type 0
NoSelect33 skip P = Unit {0}
NoSelect33 (a ⨾ b) P = NoSelect33 a P × (Passes a P → NoSelect33 b (And P a))
NoSelect33 (fresh x) P = Unit {0}
NoSelect33 (equations n es) P = Unit {0}
NoSelect33 (equate f n a b) P = Unit {0}
NoSelect33 (select n i a x) P = (m : ℕ) → Refuses (select n i a x) P 33 m → ⊥
NoSelect33 (small n a) P = Unit {0}
NoSelect33 (refusal f n) P = Unit {0}
NoSelect33 (piece n t) P = NoSelect33 t P

-- through paragraphs, over the dictionary so far, with any typing of each
unfoldable pub NeverAtSelect : List Paragraph → Dictionary → Type 0
NeverAtSelect [] D = Unit {0}
NeverAtSelect (p ∷ ps) D = NoSelect33 (paragraph_items p D) Any × ((τ : Valuation) → Meets (paragraph_items p D) τ → NeverAtSelect ps (extend p D τ))
