-- What a typing is, kind by kind and in types, as document 01's "Typing rules" word it: no items, no order of visiting, no finding numbers. A valuation is
-- a typing of a paragraph exactly where it meets the paragraph's items (specs/RuleTypings), so that the rules ask neither less than this nor more.
use Rattle.std.specs.Prelude.{◌≡◌, true, false, List, [], ◌∷◌, ◌⊎◌, ℕ, zero, suc, ◌≤◌, ◌<◌, get_or}
use Rattle.std.proofs.Math.Option.{Option, some, none as nothing}
use Rattle.words.specs.Loops.{has}
use Rattle.reader_rules.specs.Tree.{Expr, reference, number, integers, set, tuple, product, power, application, selection, theta, schema_set, arithmetic}
use Rattle.reader_rules.specs.Tree.{comprehension, Exprs, none, more, Pred, truth, equal, member, at_most, not, connected, quantified, Text, text, Lines}
use Rattle.reader_rules.specs.Tree.{end, declaration, inclusion, Include, include, Schema, plain, from, both, Paragraph, given, axiomatic, schema}
use Rattle.reader_rules.specs.Tree.{abbreviation, constraint, expr_node, exprs_length}
use Rattle.types_rules.specs.Former.{Former, int, given as givenFormer, parameter, power as powerFormer, product as productFormer, binding}
use Rattle.types_rules.specs.Types.{Ty, node, Tys, tnil, tcons, Term, nil, under, unders, size, integer_type}
use Rattle.types_rules.specs.Instance.{instance}
use Rattle.types_rules.specs.Component.{component_type}
use Rattle.checker_rules.specs.Strokes.{decorate, takes}
use Rattle.checker_rules.specs.Unknowns.{Valuation, slot, unknown_at}
use Rattle.checker_rules.specs.Dictionary.{Dictionary, blank, Named, unnamed, of_local, of_global, NamedSchema, no_schema, a_schema}
use Rattle.checker_rules.specs.Signatures.{Signature, no_names, naming, count_names, names_of, terms_of, components_of, term_in, merge, declare, stroke_all, renamed}
use Rattle.checker_rules.specs.Scopes.{Scope, globals, name_at, schema_named, with_parameters, include_signature, inside, schema_signature}
use Rattle.checker_rules.specs.Globals.{is_global}

-- power and product of types
abbrev pub ℙ : Ty → Ty
ℙ g = node powerFormer (tcons g tnil)

abbrev pub pair : Ty → Ty → Ty
pair g h = node productFormer (tcons g (tcons h tnil))

-- A recorded type with types for its parameters, counted from 1.
unfoldable pub nth_type : Tys → ℕ → Option Ty
nth_type tnil i = nothing
nth_type (tcons g gs) zero = nothing
nth_type (tcons g gs) (suc zero) = some g
nth_type (tcons g gs) (suc (suc i)) = nth_type gs (suc i)

unfoldable pub or_parameter : Option Ty → ℕ → Tys → Ty
or_parameter (some g) i hs = g
or_parameter nothing i hs = node (parameter i) hs

unfoldable pub put_former : Former → Tys → Tys → Ty
put_former int gs hs = node int hs
put_former (givenFormer g) gs hs = node (givenFormer g) hs
put_former (parameter i) gs hs = or_parameter (nth_type gs i) i hs
put_former powerFormer gs hs = node powerFormer hs
put_former productFormer gs hs = node productFormer hs
put_former (binding l) gs hs = node (binding l) hs

unfoldable mutual
  pub put : Tys → Ty → Ty
  put gs (node h hs) = put_former h gs (puts gs hs)

  pub puts : Tys → Tys → Tys
  puts gs tnil = tnil
  puts gs (tcons h hs) = tcons (put gs h) (puts gs hs)

-- The signature of a recorded schema, and its identifiers.
abbrev pub schema_of : Ty → Signature
schema_of g = components_of (instance nil g)

abbrev pub schema_names : Ty → List ℕ
schema_names g = names_of (schema_of g)

-- 37 at an Include: "stroke on a stroked component; bad rename". Old names, which are stroked identifiers (R11), must be distinct components, and the
-- outcome must have distinct identifiers: no two components of the schema get one, the stroke put on each, then all pairs renamed at once.
abbrev pub Stroked : ℕ → List ℕ → Type 0
Stroked k is = (i : ℕ) × (has i is ≡ true) × (takes k i ≡ false)

unfoldable pub old_names : List (ℕ × ℕ) → List ℕ
old_names [] = []
old_names (r ∷ rs) = r.0 ∷ old_names rs

unfoldable pub BadOld : List (ℕ × ℕ) → List ℕ → Type 0
BadOld [] is = ⊥
BadOld (r ∷ rs) is = (has r.0 is ≡ false) ⊎ ((has r.0 (old_names rs) ≡ true) ⊎ BadOld rs is)

pub record Collision (k : ℕ) (rs : List (ℕ × ℕ)) (s : Signature) : Type 0 where
  pub first : ℕ
  pub second : ℕ
  pub before : first < second
  pub within : second < count_names s
  pub alike : renamed rs (decorate k (get_or (names_of s) first 0)) ≡ renamed rs (decorate k (get_or (names_of s) second 0))

abbrev pub BadNames : ℕ → List (ℕ × ℕ) → Signature → Type 0
BadNames k rs s = Stroked k (names_of s) ⊎ (BadOld rs (names_of (stroke_all k s)) ⊎ Collision k rs s)

-- no identifier of the list is global by an earlier paragraph (36, second case; R16)
abbrev pub NewNames : List ℕ → Dictionary → Type 0
NewNames is G = (i : ℕ) → has i is ≡ true → is_global i G ≡ false

module _ (τ : Valuation) where
  -- the type of node n, and of an expression; the type of its unknown k
  abbrev pub type_at : ℕ → Ty
  type_at n = τ (slot n 0)

  abbrev pub type_in : Expr → Ty
  type_in a = τ (slot (expr_node a) 0)

  unfoldable pub types_in : Exprs → Tys
  types_in none = tnil
  types_in (more a xs) = tcons (type_in a) (types_in xs)

  -- the types of unknowns k, k + 1, .. of node n, p of them
  unfoldable pub chosen : ℕ → ℕ → ℕ → Tys
  chosen n k zero = tnil
  chosen n k (suc p) = tcons (τ (slot n k)) (chosen n (suc k) p)

  -- all of type g
  unfoldable pub AllOf : Ty → Exprs → Type 0
  AllOf g none = Unit {0}
  AllOf g (more a xs) = (type_in a ≡ g) × AllOf g xs

  -- as many as the types, each the power of its own
  unfoldable pub Powers : Exprs → Tys → Type 0
  Powers none tnil = Unit {0}
  Powers none (tcons g gs) = ⊥
  Powers (more a xs) tnil = ⊥
  Powers (more a xs) (tcons g gs) = (type_in a ≡ ℙ g) × Powers xs gs

  -- "A Ref has its name's type": a local's with no actuals; a recorded name's with types for its parameters, where there are no actuals, or as many as
  -- parameters, each the power of its parameter's type.
  unfoldable pub NameTyped : ℕ → Exprs → Named → Type 0
  NameTyped n xs unnamed = ⊥
  NameTyped n xs (of_local t) = (exprs_length xs ≡ 0) × (type_at n ≡ under τ t)
  NameTyped n xs (of_global p g) = ((exprs_length xs ≡ 0) ⊎ Powers xs (chosen n 1 p)) × (type_at n ≡ put (chosen n 1 p) g)

  -- what an identifier that is no generic has in scope
  unfoldable pub HasInScope : Named → Ty → Type 0
  HasInScope unnamed h = ⊥
  HasInScope (of_local t) h = h ≡ under τ t
  HasInScope (of_global zero g) h = h ≡ g
  HasInScope (of_global (suc p) g) h = ⊥

  unfoldable pub HaveInScope : ℕ → List ℕ → Scope → Tys → Type 0
  HaveInScope k [] Γ tnil = Unit {0}
  HaveInScope k [] Γ (tcons h hs) = ⊥
  HaveInScope k (i ∷ is) Γ tnil = ⊥
  HaveInScope k (i ∷ is) Γ (tcons h hs) = HasInScope (name_at (decorate k i) Γ) h × HaveInScope k is Γ hs

  -- "Theta has type binding of the undecorated components, with the types that the decorated identifiers have in scope." Its schema has no parameters, and
  -- each component takes the stroke.
  unfoldable pub ThetaTyped : ℕ → ℕ → NamedSchema → Scope → Type 0
  ThetaTyped n k no_schema Γ = ⊥
  ThetaTyped n k (a_schema p g) Γ =
      (p ≡ 0) × (Stroked k (schema_names g) → ⊥)
      × ((hs : Tys) × HaveInScope k (schema_names g) Γ hs × (type_at n ≡ node (binding (schema_names g)) hs))

  -- An Include's schema is known, has as many parameters as there are actuals, and the names are right; A: its actuals are typed.
  unfoldable pub SchemaTyped : NamedSchema → Include → Type 0 → Type 0
  SchemaTyped no_schema (include n s k xs rs) A = ⊥
  SchemaTyped (a_schema p g) (include n s k xs rs) A = (exprs_length xs ≡ p) × A × (BadNames k rs (schema_of g) → ⊥)

  -- "Equal identifiers in one signature merge if their types are equal": those of s, and identifiers of type g, that are in r too.
  unfoldable pub Merged : Signature → Signature → Type 0
  Merged no_names r = Unit {0}
  Merged (naming i t s) r = ((u : Term) → term_in i r ≡ some u → under τ t ≡ under τ u) × Merged s r

  abbrev pub MergedAs : Ty → List ℕ → Signature → Type 0
  MergedAs g is r = (i : ℕ) → has i is ≡ true → (u : Term) → term_in i r ≡ some u → g ≡ under τ u

  -- component types of size 32 at most
  unfoldable pub SmallTypes : Signature → Type 0
  SmallTypes no_names = Unit {0}
  SmallTypes (naming i t s) = (size (under τ t) ≤ 32) × SmallTypes s

  -- the binding of a signature
  abbrev pub binding_in : Signature → Ty
  binding_in s = node (binding (names_of s)) (unders τ (terms_of s))

  unfoldable mutual
    pub TypedExpr : Expr → Scope → Type 0
    TypedExpr (reference n i xs) Γ = TypedExprs xs Γ × NameTyped n xs (name_at i Γ)
    TypedExpr (number n v) Γ = type_at n ≡ integer_type
    TypedExpr (integers n) Γ = type_at n ≡ ℙ integer_type
    -- "members of a Set have its element type", unknown 1; "a Set the power of its element type"
    TypedExpr (set n xs) Γ = TypedExprs xs Γ × AllOf (τ (slot n 1)) xs × (type_at n ≡ ℙ (τ (slot n 1)))
    TypedExpr (tuple n xs) Γ = TypedExprs xs Γ × (type_at n ≡ node productFormer (types_in xs))
    -- "operands of Power and Product are powers"; power of product, power of power
    TypedExpr (product n xs) Γ =
        TypedExprs xs Γ × Powers xs (chosen n 1 (exprs_length xs)) × (type_at n ≡ ℙ (node productFormer (chosen n 1 (exprs_length xs))))
    TypedExpr (power n a) Γ = TypedExpr a Γ × (type_in a ≡ ℙ (τ (slot n 1))) × (type_at n ≡ ℙ (ℙ (τ (slot n 1))))
    -- "function = power of (argument × result)"
    TypedExpr (application n a b) Γ = TypedExpr a Γ × TypedExpr b Γ × (type_in a ≡ ℙ (pair (type_in b) (type_at n)))
    -- "Select its component's type"
    TypedExpr (selection n a i) Γ = TypedExpr a Γ × (component_type i (type_in a) ≡ some (type_at n))
    TypedExpr (theta n s k) Γ = ThetaTyped n k (schema_named s Γ) Γ
    -- "SchemaSet has type power of the binding"
    TypedExpr (schema_set n i) Γ = TypedInclude i Γ × SmallTypes (include_signature i Γ) × (type_at n ≡ ℙ (binding_in (include_signature i Γ)))
    TypedExpr (arithmetic n o a b) Γ = TypedExpr a Γ × TypedExpr b Γ × (type_in a ≡ integer_type) × (type_in b ≡ integer_type) × (type_at n ≡ integer_type)
    -- "power of the body's type", the body in the Text's scope
    TypedExpr (comprehension n t a) Γ = TypedText t Γ blank × TypedExpr a (inside t Γ) × (type_at n ≡ ℙ (type_in a))

    pub TypedExprs : Exprs → Scope → Type 0
    TypedExprs none Γ = Unit {0}
    TypedExprs (more a xs) Γ = TypedExpr a Γ × TypedExprs xs Γ

    -- "= : equal sides; member: power of left = right"; "≤: ℤ"
    pub TypedPred : Pred → Scope → Type 0
    TypedPred (truth n) Γ = Unit {0}
    TypedPred (equal n a b) Γ = TypedExpr a Γ × TypedExpr b Γ × (type_in a ≡ type_in b)
    TypedPred (member n a b) Γ = TypedExpr a Γ × TypedExpr b Γ × (ℙ (type_in a) ≡ type_in b)
    TypedPred (at_most n a b) Γ = TypedExpr a Γ × TypedExpr b Γ × (type_in a ≡ integer_type) × (type_in b ≡ integer_type)
    TypedPred (not n p) Γ = TypedPred p Γ
    TypedPred (connected n o p q) Γ = TypedPred p Γ × TypedPred q Γ
    TypedPred (quantified n o t p) Γ = TypedText t Γ blank × TypedPred p (inside t Γ)

    -- "A Text's lines do not see its own identifiers; its predicate and the body beside it do." G: names that must be new, an Axiom's.
    pub TypedText : Text → Scope → Dictionary → Type 0
    TypedText (text n p ls) Γ G = TypedLines ls Γ G no_names × TypedPred p (inside (text n p ls) Γ)

    -- "A Decl's E must have a type power t, and its identifiers get t": t is unknown 0 of the Decl. r: what the lines before declare.
    pub TypedLines : Lines → Scope → Dictionary → Signature → Type 0
    TypedLines end Γ G r = Unit {0}
    TypedLines (declaration n a is ls) Γ G r =
        TypedExpr a Γ × (type_in a ≡ ℙ (type_at n)) × MergedAs (type_at n) is r × NewNames is G
        × (size (type_at n) ≤ 32) × (count_names (declare is (unknown_at n 0) r) ≤ 16)
        × TypedLines ls Γ G (declare is (unknown_at n 0) r)
    TypedLines (inclusion i ls) Γ G r =
        TypedInclude i Γ × Merged (include_signature i Γ) r × NewNames (names_of (include_signature i Γ)) G
        × SmallTypes (include_signature i Γ) × (count_names (merge (include_signature i Γ) r) ≤ 16)
        × TypedLines ls Γ G (merge (include_signature i Γ) r)

    pub TypedInclude : Include → Scope → Type 0
    TypedInclude (include n s k xs rs) Γ = SchemaTyped (schema_named s Γ) (include n s k xs rs) (TypedActuals xs n 1 Γ)

    -- each actual of an Include is the power of its element type, unknown k
    pub TypedActuals : Exprs → ℕ → ℕ → Scope → Type 0
    TypedActuals none n k Γ = Unit {0}
    TypedActuals (more a xs) n k Γ = TypedExpr a Γ × (type_in a ≡ ℙ (τ (slot n k))) × TypedActuals xs n (suc k) Γ

  unfoldable pub TypedSchema : Schema → Scope → Type 0
  TypedSchema (plain t) Γ = TypedText t Γ blank
  TypedSchema (from i) Γ = TypedInclude i Γ × SmallTypes (include_signature i Γ)
  TypedSchema (both n a b) Γ =
      TypedSchema a Γ × TypedSchema b Γ × Merged (schema_signature b Γ) (schema_signature a Γ)
      × (count_names (merge (schema_signature b Γ) (schema_signature a Γ)) ≤ 16)

  unfoldable pub TypedParagraph : Paragraph → Dictionary → Type 0
  TypedParagraph (given n is) D = NewNames is D
  TypedParagraph (axiomatic n t) D = TypedText t (globals D) D
  TypedParagraph (schema n s ps x) D = TypedSchema x (with_parameters ps 1 (globals D))
  TypedParagraph (abbreviation n i ps a) D =
      TypedExpr a (with_parameters ps 1 (globals D)) × (is_global i D ≡ false) × (size (type_in a) ≤ 32)
  TypedParagraph (constraint n p) D = TypedPred p (globals D)
