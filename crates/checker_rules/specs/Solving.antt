-- The solver of items, as a function: it keeps a substitution, and stops at the first item that does not pass. That it is right for every items tree is
-- proved in proofs/SolvingRight; contracts and marked cases compute with it.
use Rattle.std.specs.Prelude.{Bool, true, false, cond, List, [], ◌∷◌, ℕ, leb}
use Rattle.std.proofs.Math.Option.{Option, some, none as nothing}
use Rattle.types_rules.specs.Former.{and}
use Rattle.types_rules.specs.Types.{Term, unknown, con, Terms, nil, cons, term_size, integer_type}
use Rattle.types_rules.specs.Substitution.{Substitution, empty, resolve, member, ground, sol}
use Rattle.types_rules.specs.Unify.{Outcome, ok, clash, cycle, stuck, unify, unify_all}
use Rattle.types_rules.specs.Component.{component}
use Rattle.types_rules.specs.Equations.{Pairs, end, pair}
use Rattle.types_rules.specs.Classify.{Verdict, solvable, clashing, endless, classify}
use Rattle.types_rules.specs.Representative.{component_by}
use Rattle.checker_rules.specs.Unknowns.{Valuation}
use Rattle.checker_rules.specs.Items.{Items, skip, ◌⨾◌, fresh, equations, equate, select, small, refusal, piece}

pub data Solved : Type 0 where
  -- the unknowns left open, the substitution
  pass : List ℕ → Substitution → Solved
  refuse : ℕ → ℕ → Solved

unfoldable pub and_then : Solved → (List ℕ → Substitution → Solved) → Solved
and_then (pass vs s) k = k vs s
and_then (refuse f m) k = refuse f m

-- The equations of the items, beside those of the items before: a Select's component is that of what stands for its term.
unfoldable pub join_pairs : Pairs Term → Pairs Term → Pairs Term
join_pairs end E = E
join_pairs (pair a b P) E = pair a b (join_pairs P E)

unfoldable pub with_component : Option Term → ℕ → Pairs Term → Pairs Term
with_component nothing x E = E
with_component (some u) x E = pair (unknown x) u E

unfoldable pub equations_of : Items → Pairs Term → Pairs Term
equations_of skip E = E
equations_of (a ⨾ b) E = equations_of b (equations_of a E)
equations_of (fresh x) E = E
equations_of (equations n es) E = join_pairs es E
equations_of (equate f n a b) E = pair a b E
equations_of (select n i a x) E = with_component (component_by E i a) x E
equations_of (small n a) E = E
equations_of (refusal f n) E = E
equations_of (piece n t) E = equations_of t E

-- 33 or 39, by the equations of all the items through this node. (Where they have a solution no number is asked for.)
unfoldable pub number_of : Verdict → ℕ
number_of solvable = 33
number_of clashing = 33
number_of endless = 39

unfoldable pub answer_all : ℕ → Items → Outcome → Solved
answer_all n H (ok vs s) = pass vs s
answer_all n H clash = refuse (number_of (classify (equations_of H end))) n
answer_all n H cycle = refuse (number_of (classify (equations_of H end))) n
answer_all n H stuck = refuse (number_of (classify (equations_of H end))) n

-- A single equation that stays at its finding f. `stuck` never comes.
unfoldable pub answer : ℕ → ℕ → Outcome → Solved
answer f n (ok vs s) = pass vs s
answer f n clash = refuse f n
answer f n cycle = refuse f n
answer f n stuck = refuse f n

unfoldable pub pass_if : Bool → ℕ → ℕ → List ℕ → Substitution → Solved
pass_if true f n vs s = pass vs s
pass_if false f n vs s = refuse f n

unfoldable pub selected : Option Term → ℕ → ℕ → List ℕ → Substitution → Solved
selected nothing n x vs s = refuse 35 n
selected (some u) n x vs s = answer 33 n (unify vs s (unknown x) u)

unfoldable pub is_small : Term → Bool
is_small t = and (ground t) (leb (term_size t) 32)

-- Every unknown of the piece is settled.
unfoldable pub is_closed : Items → Substitution → Bool
is_closed skip s = true
is_closed (a ⨾ b) s = and (is_closed a s) (is_closed b s)
is_closed (fresh x) s = ground (resolve s (unknown x))
is_closed (equations n es) s = true
is_closed (equate f n a b) s = true
is_closed (select n i a x) s = true
is_closed (small n a) s = true
is_closed (refusal f n) s = true
is_closed (piece n t) s = true

-- From the state that the items H before leave.
unfoldable pub solve_from : Items → Items → List ℕ → Substitution → Solved
solve_from skip H vs s = pass vs s
solve_from (a ⨾ b) H vs s = and_then (solve_from a H vs s) (λ vs' s'. solve_from b (H ⨾ a) vs' s')
solve_from (fresh x) H vs s = pass vs s
solve_from (equations n es) H vs s = answer_all n (H ⨾ equations n es) (unify_all vs s es)
solve_from (equate f n a b) H vs s = answer f n (unify vs s a b)
solve_from (select n i a x) H vs s = selected (component i (resolve s a)) n x vs s
solve_from (small n a) H vs s = pass_if (is_small (resolve s a)) 38 n vs s
solve_from (refusal f n) H vs s = refuse f n
solve_from (piece n t) H vs s = and_then (solve_from t H vs s) (λ vs' s'. pass_if (is_closed t s') 34 n vs' s')

-- The unknowns of the items, each once.
unfoldable pub add_unknown : ℕ → List ℕ → List ℕ
add_unknown x l = cond (member x l) l (x ∷ l)

unfoldable mutual
  pub term_unknowns : Term → List ℕ → List ℕ
  term_unknowns (unknown x) l = add_unknown x l
  term_unknowns (con h ts) l = terms_unknowns ts l

  pub terms_unknowns : Terms → List ℕ → List ℕ
  terms_unknowns nil l = l
  terms_unknowns (cons t ts) l = terms_unknowns ts (term_unknowns t l)

unfoldable pub pairs_unknowns : Pairs Term → List ℕ → List ℕ
pairs_unknowns end l = l
pairs_unknowns (pair a b P) l = pairs_unknowns P (term_unknowns b (term_unknowns a l))

unfoldable pub unknowns : Items → List ℕ → List ℕ
unknowns skip l = l
unknowns (a ⨾ b) l = unknowns b (unknowns a l)
unknowns (fresh x) l = add_unknown x l
unknowns (equations n es) l = pairs_unknowns es l
unknowns (equate f n a b) l = term_unknowns b (term_unknowns a l)
unknowns (select n i a x) l = add_unknown x (term_unknowns a l)
unknowns (small n a) l = term_unknowns a l
unknowns (refusal f n) l = l
unknowns (piece n t) l = unknowns t l

unfoldable pub solve : Items → Solved
solve t = solve_from t skip (unknowns t []) empty

-- A valuation that the substitution allows. Where all pieces are closed, every other one agrees with it on the unknowns of the pieces.
unfoldable pub valuation_of : Substitution → Valuation
valuation_of s = sol (λ y. integer_type) s
