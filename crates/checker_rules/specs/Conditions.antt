-- Items that several rules share: what merging (36), lengths (38) and a type at a node ask.
use Rattle.std.specs.Prelude.{Bool, true, false, List, [], ◌∷◌, ℕ, zero, suc, ltb}
use Rattle.std.proofs.Math.Option.{Option, some, none as nothing}
use Rattle.reader_rules.specs.Tree.{Expr, Exprs, none, more, expr_node, exprs_length}
use Rattle.types_rules.specs.Types.{Term, Terms, nil, cons}
use Rattle.types_rules.specs.Equations.{Pairs, end, pair}
use Rattle.checker_rules.specs.Unknowns.{slot, unknown_at, integer, power_of}
use Rattle.checker_rules.specs.Items.{Items, skip, ◌⨾◌, fresh, equations, equate, small, refusal}
use Rattle.checker_rules.specs.Dictionary.{Dictionary, Named, unnamed, of_local, of_global, name_in}
use Rattle.checker_rules.specs.Signatures.{Signature, no_names, naming, count_names, term_in}

unfoldable pub refuse_if : Bool → ℕ → ℕ → Items
refuse_if true f n = refusal f n
refuse_if false f n = skip

-- 36: equal identifiers in one signature merge if their types are equal. The types are settled here (R15): "no typing makes them equal" is "they differ".
unfoldable pub same_type : ℕ → Term → Option Term → Items
same_type n t (some u) = equate 36 n t u
same_type n t nothing = skip

unfoldable pub merge_declared : ℕ → List ℕ → Term → Signature → Items
merge_declared n [] t r = skip
merge_declared n (i ∷ is) t r = same_type n t (term_in i r) ⨾ merge_declared n is t r

unfoldable pub merge_names : ℕ → Signature → Signature → Items
merge_names n no_names r = skip
merge_names n (naming i t s) r = same_type n t (term_in i r) ⨾ merge_names n s r

-- 36: an identifier that is global by an earlier paragraph, whatever its type (R16). Document 01 adds "an Axiom's Include bringing at least one"; by 16
-- that is so in every readable document (the theorem second_case in proofs/SecondCase).
unfoldable pub new_name : ℕ → Named → Items
new_name n unnamed = skip
new_name n (of_local t) = refusal 36 n
new_name n (of_global p g) = refusal 36 n

unfoldable pub new_names : ℕ → List ℕ → Dictionary → Items
new_names n [] G = skip
new_names n (i ∷ is) G = new_name n (name_in i G) ⨾ new_names n is G

-- 38: component types over size 32; a signature over 16 identifiers (R17).
unfoldable pub small_types : ℕ → Signature → Items
small_types n no_names = skip
small_types n (naming i t s) = small n t ⨾ small_types n s

unfoldable pub few_names : ℕ → Signature → Items
few_names n s = refuse_if (ltb 16 (count_names s)) 38 n

-- The type of an expression is unknown 0 of its node; node n has the type t.
abbrev pub type_of : Expr → Term
type_of a = unknown_at (expr_node a) 0

unfoldable pub types_of : Exprs → Terms
types_of none = nil
types_of (more a xs) = cons (type_of a) (types_of xs)

abbrev pub equation : ℕ → Term → Term → Items
equation n a b = equations n (pair a b end)

abbrev pub typed : ℕ → Term → Items
typed n t = fresh (slot n 0) ⨾ equation n (unknown_at n 0) t

-- At node n the type of a is the power of unknown k (R12: 33 at n where it is none).
abbrev pub is_power : ℕ → ℕ → Expr → Items
is_power n k a = fresh (slot n k) ⨾ equation n (type_of a) (power_of (unknown_at n k))

-- p unknowns from k on
unfoldable pub fresh_row : ℕ → ℕ → ℕ → Items
fresh_row n k zero = skip
fresh_row n k (suc p) = fresh (slot n k) ⨾ fresh_row n (suc k) p

-- Explicit actuals and operands of Product are powers: of unknown k, k + 1, ..
unfoldable pub powers : ℕ → Exprs → ℕ → Pairs Term
powers n none k = end
powers n (more a xs) k = pair (type_of a) (power_of (unknown_at n k)) (powers n xs (suc k))

unfoldable pub are_powers : ℕ → Exprs → ℕ → Items
are_powers n xs k = fresh_row n k (exprs_length xs) ⨾ equations n (powers n xs k)

-- Members of a Set have its element type, unknown 1 (R12: at the Set, after all are visited).
unfoldable pub members : ℕ → Exprs → Pairs Term
members n none = end
members n (more a xs) = pair (type_of a) (unknown_at n 1) (members n xs)

unfoldable pub are_members : ℕ → Exprs → Items
are_members n xs = equations n (members n xs)

-- Two operands are numbers.
abbrev pub are_numbers : ℕ → Term → Term → Items
are_numbers n a b = equations n (pair a integer (pair b integer end))
