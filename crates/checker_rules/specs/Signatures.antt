-- Signatures: identifiers, ascending, each with the term of its type; what stroke and renames make of one (document 01, Include; R11).
use Rattle.std.specs.Prelude.{Bool, false, ◌||◌, cond, not, List, [], ◌∷◌, ℕ, suc, ltb, eqb}
use Rattle.std.proofs.Math.Option.{Option, some, none as nothing}
use Rattle.types_rules.specs.Former.{binding, identifiers}
use Rattle.types_rules.specs.Types.{Term, unknown, con, Terms, nil, cons}
use Rattle.checker_rules.specs.Strokes.{decorate, takes}

pub data Signature : Type 0 where
  no_names : Signature
  naming : ℕ → Term → Signature → Signature

unfoldable pub count_names : Signature → ℕ
count_names no_names = 0
count_names (naming i t s) = suc (count_names s)

unfoldable pub names_of : Signature → List ℕ
names_of no_names = []
names_of (naming i t s) = i ∷ names_of s

unfoldable pub terms_of : Signature → Terms
terms_of no_names = nil
terms_of (naming i t s) = cons t (terms_of s)

-- the binding of a signature, and the signature of a binding
unfoldable pub binding_of : Signature → Term
binding_of s = con (binding (names_of s)) (terms_of s)

unfoldable pub with_names : List ℕ → Terms → Signature
with_names [] ts = no_names
with_names (i ∷ is) nil = no_names
with_names (i ∷ is) (cons t ts) = naming i t (with_names is ts)

unfoldable pub components_of : Term → Signature
components_of (unknown x) = no_names
components_of (con h ts) = with_names (identifiers h) ts

-- The term of an identifier. Identifiers are distinct, so that it does not matter which one is found first.
unfoldable pub or_else : Option Term → Option Term → Option Term
or_else (some t) o = some t
or_else nothing o = o

unfoldable pub term_in : ℕ → Signature → Option Term
term_in i no_names = nothing
term_in i (naming j t s) = or_else (term_in i s) (cond (eqb i j) (some t) nothing)

unfoldable pub has_name : ℕ → Signature → Bool
has_name i no_names = false
has_name i (naming j t s) = eqb i j || has_name i s

-- One identifier more, in its place; one that is there stays as it is.
unfoldable pub insert_name : ℕ → Term → Signature → Signature
insert_name i t no_names = naming i t no_names
insert_name i t (naming j u s) = cond (eqb i j) (naming j u s) (cond (ltb i j) (naming i t (naming j u s)) (naming j u (insert_name i t s)))

-- The second signature with the first one's identifiers: those that are in both merge. Whether their types are equal is finding 36's matter.
unfoldable pub merge : Signature → Signature → Signature
merge no_names r = r
merge (naming i t s) r = merge s (insert_name i t r)

-- The signature with a Decl's identifiers, all of type t.
unfoldable pub declare : List ℕ → Term → Signature → Signature
declare [] t r = r
declare (i ∷ is) t r = declare is t (insert_name i t r)

-- The stroke on each identifier.
unfoldable pub stroke_all : ℕ → Signature → Signature
stroke_all k no_names = no_names
stroke_all k (naming i t s) = naming (decorate k i) t (stroke_all k s)

-- All pairs (old, new) renamed at once.
unfoldable pub renamed : List (ℕ × ℕ) → ℕ → ℕ
renamed [] i = i
renamed (r ∷ rs) i = cond (eqb i r.0) r.1 (renamed rs i)

unfoldable pub rename_all : List (ℕ × ℕ) → Signature → Signature
rename_all rs no_names = no_names
rename_all rs (naming i t s) = insert_name (renamed rs i) t (rename_all rs s)

-- 37: a stroke on a stroked component; an old name that is no component, or stands twice; an outcome with an identifier twice, which then has fewer.
unfoldable pub some_stroked : ℕ → Signature → Bool
some_stroked k no_names = false
some_stroked k (naming i t s) = not (takes k i) || some_stroked k s

unfoldable pub has_old : ℕ → List (ℕ × ℕ) → Bool
has_old i [] = false
has_old i (r ∷ rs) = eqb i r.0 || has_old i rs

unfoldable pub wrong_old : List (ℕ × ℕ) → Signature → Bool
wrong_old [] s = false
wrong_old (r ∷ rs) s = not (has_name r.0 s) || (has_old r.0 rs || wrong_old rs s)

unfoldable pub wrong_names : ℕ → List (ℕ × ℕ) → Signature → Bool
wrong_names k rs s =
    some_stroked k s || (wrong_old rs (stroke_all k s) || ltb (count_names (rename_all rs (stroke_all k s))) (count_names s))
