-- Document 02, ask 10, worked out on small items: which equations make 33, and which 39.
use mathlib.Core.Path.{◌≡◌, refl}
use mathlib.Core.List.{[], ◌∷◌}
use Rattle.types_rules.specs.Former.{binding, and, eqs, tag, arg, identifiers, same_former}
use Rattle.types_rules.specs.Types.{Term, unknown, con, nil, cons, term_size}
use Rattle.types_rules.specs.Equations.{end, pair}
use Rattle.types_rules.specs.Substitution.{or, occurs, replace, resolve, without, member}
use Rattle.types_rules.specs.Unify.{zip_terms, replace_all, weight, is_unknown, flex, rigid, unify_step, unify_level, unify_levels, unify, and_then as then, unify_all}
use Rattle.types_rules.specs.Classes.{zip_n, swap, rep}
use Rattle.types_rules.specs.Finite.{allb, bounded_view, bounded}
use Rattle.types_rules.specs.Classify.{both, meet, turn, merge_level, merge_levels, to_list, view_term, same_term, join, subs, univ, judge, classify}
use Rattle.types_rules.specs.Component.{pick, component}
use Rattle.types_rules.specs.Representative.{stands_for, representative, component_by}
use Rattle.checker_rules.specs.Unknowns.{power_of, pair_of, integer}
use Rattle.checker_rules.specs.Items.{◌⨾◌, equations, select}
use Rattle.checker_rules.specs.Conditions.{equation}
use Rattle.checker_rules.specs.Solving.{refuse, and_then, join_pairs, with_component, equations_of, number_of, answer_all, answer, selected, solve_from}
use Rattle.checker_rules.specs.Solving.{add_unknown, term_unknowns, pairs_unknowns, unknowns, solve}

abbrev pub x : Term
x = unknown 0

abbrev pub y : Term
y = unknown 1

abbrev pub z : Term
z = unknown 2

abbrev pub Cases : Type 0
Cases =
    -- the ask's own case: two generic relations are set equal, one from things to things, the other from things to sets of them
    (solve (equation 5 (power_of (pair_of x x)) (power_of (pair_of y (power_of y)))) ≡ refuse 39 5)
    -- the members x, P x and ℤ of a Set: the first two would put a type inside itself, the third puts different formers side by side
    × (solve (equations 5 (pair x z (pair (power_of x) z (pair integer z end)))) ≡ refuse 33 5)
    -- a later node does not count
    × (solve (equations 5 (pair x z (pair (power_of x) z end)) ⨾ equation 6 integer z) ≡ refuse 39 5)
    -- an earlier node does: by node 4 the second parts differ
    × (solve (equation 4 x integer ⨾ equation 5 (pair_of y x) (pair_of (power_of y) (power_of z))) ≡ refuse 33 5)
    -- a component is as good as an equation: z is the component 8 of y, and that is x
    × (solve (equation 3 y (con (binding (8 ∷ [])) (cons x nil)) ⨾ select 4 8 y 2 ⨾ equation 5 z (power_of x)) ≡ refuse 39 5)

pub cases : Cases
unfolding and eqs tag arg identifiers same_former term_size or occurs replace resolve without member zip_terms replace_all weight is_unknown flex rigid unify_step
    unify_level unify_levels unify then unify_all zip_n swap rep allb bounded_view bounded both meet turn merge_level merge_levels to_list view_term same_term join subs
    univ judge classify pick component stands_for representative component_by and_then join_pairs with_component equations_of number_of answer_all answer selected
    solve_from add_unknown term_unknowns pairs_unknowns unknowns solve
cases = (refl, refl, refl, refl, refl)
