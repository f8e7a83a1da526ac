-- In a run every name has a value of at most 64 words, so 55 comes at no Ref: at a Set, a Tuple and a Comprehension alone.
use mathlib.Core.Path.{◌≡◌, refl}
use mathlib.Core.Bool.{Bool, true, false}
use mathlib.Core.List.{List, [], ◌∷◌, ◌++◌}
use Prim.Native.Nat.{ℕ, ◌≤◌}
use native.Mathlib.Omega.{arith}
use lib.Dec.{eqb}
use lib.ListN.{length, length-append}
use Rattle.values.specs.Value.{Value, Values, nil, cons, encode, encodes}
use Rattle.values.specs.Value as Value
use Rattle.reader_rules.specs.Tree.{Quantifier, Expr, reference, Exprs, Pred, Lines, Paragraph, Document}
use Rattle.reader_rules.specs.Decode.{tree_of}
use Rattle.states_rules.specs.Names.{document_names}
use Rattle.states_rules.specs.States.{State, value_in}
use Rattle.evaluator_rules.specs.WordCount.{word_count}
use Rattle.evaluator_rules.specs.Outcomes.{Event}
use Rattle.evaluator_rules.specs.Environment.{Environment, empty, bind, Meaning, valued, generic, unknown, pick, lookup}
use Rattle.evaluator_rules.specs.Assignments.{Domains, no_more, domain, domains}
use Rattle.evaluator_rules.specs.Rules.{eval_lines}
use Rattle.evaluator_rules.specs.Paragraphs.{Step, onward, bind_givens}
use Rattle.evaluator_rules.specs.Claims.{WellFormedState}
use Rattle.evaluator_rules.specs.Listing
use Rattle.evaluator_rules.specs.Listing.{Result, gives, Declares, through, assignments}
use Rattle.evaluator_rules.specs.ListingRun
use Rattle.evaluator_rules.specs.ListingRun.{Ends, TestsNames, TestsLines, Runs}
use Rattle.evaluator_rules.specs.Evaluations
use Rattle.evaluator_rules.specs.Evaluations.{Gives, Evaluation, working, telling, testing, declaring, including, Gathering, Trying, Reaches, Within, itself, further, Tested, Begins, BeginsIn}
use Rattle.evaluator_rules.specs.Troubles
use Rattle.evaluator_rules.specs.Troubles.{TooLong, InRun, in_run}
use Rattle.evaluator_rules.proofs.Decoding.{Words}
use Rattle.evaluator_rules.proofs.WholeList.{lines_say, paragraph_says}
use Rattle.evaluator_rules.proofs.EvaluationLists.{said, sets_said}
use Rattle.evaluator_rules.proofs.TroublesFound.{value_short}
use Rattle.evaluator_rules.proofs.ShortState.{state_short}

unfoldable ShortScope : Environment → Type 0
ShortScope empty = Unit {0}
ShortScope (bind i (valued v) scope) = (word_count v ≤ 64) × ShortScope scope
ShortScope (bind i generic scope) = ShortScope scope
ShortScope (bind i unknown scope) = ShortScope scope

picked : {m n : Meaning} {v : Value} (b : Bool) → (m ≡ valued v → word_count v ≤ 64) → (n ≡ valued v → word_count v ≤ 64) → pick b m n ≡ valued v → word_count v ≤ 64
unfolding pick
picked true h k e = h e
picked false h k e = k e

lookup_short : (i : ℕ) (scope : Environment) (v : Value) → ShortScope scope → lookup i scope ≡ valued v → word_count v ≤ 64
unfolding lookup ShortScope
lookup_short i empty v h e = let z : ◌≡◌ {A = ℕ} 0 1 = cc in absurd (omega arith)
lookup_short i (bind j (valued u) scope) v h e = picked (eqb i j) (λ d. let z : u ≡ v = cc in rw z at h.0) (λ d. lookup_short i scope v h.1 d) e
lookup_short i (bind j generic scope) v h e = picked (eqb i j) (λ d. let z : ◌≡◌ {A = ℕ} 0 1 = cc in absurd (omega arith)) (λ d. lookup_short i scope v h d) e
lookup_short i (bind j unknown scope) v h e = picked (eqb i j) (λ d. let z : ◌≡◌ {A = ℕ} 0 1 = cc in absurd (omega arith)) (λ d. lookup_short i scope v h d) e

-- ---- assignments bind members of sets that were worked out
unfoldable ShortValues : Values → Type 0
ShortValues nil = Unit {0}
ShortValues (cons v vs) = (word_count v ≤ 64) × ShortValues vs

members_short : (vs : Values) → length (encodes vs) ≤ 64 → ShortValues vs
unfolding encode word_count ShortValues
members_short nil h = tt
members_short (cons v vs) h = let a = length-append (encode v) (encodes vs) in (omega arith, members_short vs (omega arith))

set_short : (vs : Values) → word_count (Value.set vs) ≤ 64 → ShortValues vs
unfolding encode word_count
set_short vs h = members_short vs (omega arith)

unfoldable ShortDomains : Domains → Type 0
ShortDomains no_more = Unit {0}
ShortDomains (domain i vs ds) = ShortValues vs × ShortDomains ds

domains_short : (is : List ℕ) (vs : Values) (ds : Domains) → ShortValues vs → ShortDomains ds → ShortDomains (domains is vs ds)
unfolding domains ShortDomains
domains_short [] vs ds h k = k
domains_short (i ∷ is) vs ds h k = (h, domains_short is vs ds h k)

declares_short : {ls : Lines} {scope : Environment} {t : List Event} {ds : Domains} → Declares ls scope t (gives ds) → ShortDomains ds
unfolding ShortDomains
declares_short Listing.no_line = tt
declares_short (Listing.declared {is = is} {vs = vs} {ds = ds} h k) = domains_short is vs ds (set_short vs (value_short h)) (declares_short k)

unfoldable AllShort : List Environment → Type 0
AllShort [] = Unit {0}
AllShort (x ∷ xs) = ShortScope x × AllShort xs

append_short : (xs ys : List Environment) → AllShort xs → AllShort ys → AllShort (xs ++ ys)
unfolding AllShort
append_short [] ys h k = k
append_short (x ∷ xs) ys h k = (h.0, append_short xs ys h.1 k)

through_short : (i : ℕ) (vs : Values) (f : Environment → List Environment) (scope : Environment) → ((x : Environment) → ShortScope x → AllShort (f x)) → ShortValues vs → ShortScope scope → AllShort (through i vs f scope)
unfolding through ShortValues ShortScope AllShort
through_short i nil f scope k h c = tt
through_short i (cons v vs) f scope k h c = append_short (f (bind i (valued v) scope)) (through i vs f scope) (k (bind i (valued v) scope) (h.0, c)) (through_short i vs f scope k h.1 c)

assignments_short : (ds : Domains) (scope : Environment) → ShortDomains ds → ShortScope scope → AllShort (assignments ds scope)
unfolding assignments ShortDomains AllShort
assignments_short no_more scope h c = (c, tt)
assignments_short (domain i vs ds) scope h c = through_short i vs _ scope (λ x d. assignments_short ds x h.1 d) h.0 c

gathering_short : {p : Pred} {a : Expr} {xs : List Environment} {s s' : Values} {x : Environment} → Gathering p a xs s x s' → AllShort xs → ShortScope x
unfolding AllShort
gathering_short Evaluations.first_gathered h = h.0
gathering_short (Evaluations.left_out g k) h = gathering_short k h.1
gathering_short (Evaluations.added g b e k) h = gathering_short k h.1

trying_short : {q : Quantifier} {p b : Pred} {xs : List Environment} {x : Environment} → Trying q p b xs x → AllShort xs → ShortScope x
unfolding AllShort
trying_short Evaluations.first_tried h = h.0
trying_short (Evaluations.passed_over g k) h = trying_short k h.1
trying_short (Evaluations.tried g c k) h = trying_short k h.1

text_short : (ls : Lines) (scope : Environment) (ds : Domains) → Gives (eval_lines ls scope) ds → ShortScope scope → AllShort (assignments ds scope)
text_short ls scope ds g c = assignments_short ds scope (declares_short (sets_said ls scope g).1) c

-- ---- turns
unfoldable ShortTurn : Evaluation → Type 0
ShortTurn (working a scope) = ShortScope scope
ShortTurn (telling p scope) = ShortScope scope
ShortTurn (testing a scope v) = ShortScope scope
ShortTurn (declaring ls scope) = ShortScope scope
ShortTurn (including i) = Unit {0}

reached_short : {t u : Evaluation} → Reaches t u → ShortTurn t → ShortTurn u
unfolding ShortTurn
reached_short (Evaluations.actual k) c = c
reached_short (Evaluations.set_member k) c = c
reached_short (Evaluations.tuple_part k) c = c
reached_short Evaluations.power_base c = c
reached_short (Evaluations.product_factor k) c = c
reached_short Evaluations.function c = c
reached_short (Evaluations.argument g) c = c
reached_short Evaluations.left_number c = c
reached_short (Evaluations.right_number g) c = c
reached_short Evaluations.gathered_sets c = c
reached_short (Evaluations.gathered_where {ls = ls} {ds = ds} {scope = scope} g k) c = gathering_short k (text_short ls scope ds g c)
reached_short (Evaluations.gathered_body {ls = ls} {ds = ds} {scope = scope} g k b) c = gathering_short k (text_short ls scope ds g c)
reached_short Evaluations.left_equal c = c
reached_short (Evaluations.right_equal g) c = c
reached_short Evaluations.left_member c = c
reached_short (Evaluations.member_test g) c = c
reached_short Evaluations.left_at_most c = c
reached_short (Evaluations.right_at_most g) c = c
reached_short Evaluations.negated c = c
reached_short Evaluations.left_side c = c
reached_short (Evaluations.right_side g) c = c
reached_short Evaluations.tried_sets c = c
reached_short (Evaluations.tried_where {ls = ls} {ds = ds} {scope = scope} g k) c = trying_short k (text_short ls scope ds g c)
reached_short (Evaluations.tried_body {ls = ls} {ds = ds} {scope = scope} g k b) c = trying_short k (text_short ls scope ds g c)
reached_short Evaluations.declared c = c
reached_short (Evaluations.next_line g) c = c
reached_short Evaluations.included c = tt
reached_short (Evaluations.power_member k) c = c
reached_short (Evaluations.product_part e k) c = c
reached_short (Evaluations.anew o) c = c

within_short : {t u : Evaluation} → Within t u → ShortTurn t → ShortTurn u
within_short itself c = c
within_short (further r k) c = within_short k (reached_short r c)

-- ---- paragraphs
no_end : {r : Result Step} {scope : Environment} → Ends r → r ≡ gives (onward scope) → ⊥
no_end ListingRun.failing e = let z : ◌≡◌ {A = ℕ} 0 1 = cc in omega arith
no_end ListingRun.stopping e = let z : ◌≡◌ {A = ℕ} 0 1 = cc in omega arith

module _ (state : State) (short : (i : ℕ) → word_count (state i) ≤ 64) where
  names_short : {n : ℕ} {a : Expr} {scope : Environment} {is : List ℕ} {own own' : Environment} {t : List Event} → TestsNames state n a scope is own t (gives (onward own')) → ShortScope own → ShortScope own'
  unfolding ShortScope
  names_short ListingRun.no_name c = c
  names_short (ListingRun.name_passes {i = i} h k) c = names_short k (short i, c)

  lines_short : {scope own own' : Environment} {ls : Lines} {t : List Event} → TestsLines state scope ls own t (gives (onward own')) → ShortScope own → ShortScope own'
  lines_short ListingRun.no_line c = c
  lines_short (ListingRun.line_ends h e) c = absurd (no_end e refl)
  lines_short (ListingRun.line_goes_on h k) c = lines_short k (names_short h c)

  givens_short : (is : List ℕ) (scope : Environment) → ShortScope scope → ShortScope (bind_givens is state scope)
  unfolding bind_givens ShortScope
  givens_short [] scope c = c
  givens_short (i ∷ is) scope c = givens_short is (bind i (valued (state i)) scope) (short i, c)

  runs_short : {p : Paragraph} {scope scope' : Environment} {t : List Event} → Runs state p scope t (gives (onward scope')) → ShortScope scope → ShortScope scope'
  unfolding ShortScope
  runs_short (ListingRun.binds_givens {is = is} {scope = scope}) c = givens_short is scope c
  runs_short (ListingRun.lines_end h e) c = absurd (no_end e refl)
  runs_short (ListingRun.axiom_holds h k) c = lines_short h c
  runs_short ListingRun.schema_passed c = c
  runs_short ListingRun.generic_passed c = c
  runs_short (ListingRun.abbreviation_kept h) c = (value_short h, c)
  runs_short (ListingRun.constraint_holds h) c = c

  tested_short : {scope own : Environment} {ls : Lines} {u : Evaluation} → Tested state scope ls own u → ShortScope scope → ShortTurn u
  unfolding ShortTurn
  tested_short (Evaluations.name_tested k) c = c
  tested_short (Evaluations.later_tested_line g k) c = tested_short k c
  tested_short Evaluations.included_line c = tt

  begun_short : {p : Paragraph} {scope : Environment} {u : Evaluation} → Begins state p scope u → ShortScope scope → ShortTurn u
  unfolding ShortTurn
  begun_short (Evaluations.axiom_line k) c = tested_short k c
  begun_short (Evaluations.axiom_predicate {ls = ls} {scope = scope} g) c = lines_short (said (lines_say state ls scope scope) g).1 c
  begun_short Evaluations.worked_out c = c
  begun_short Evaluations.constrained c = c

  coming_short : {ps : List Paragraph} {scope : Environment} {u : Evaluation} → BeginsIn state ps scope u → ShortScope scope → ShortTurn u
  coming_short (Evaluations.this_paragraph k) c = begun_short k c
  coming_short (Evaluations.next_paragraph {p = p} {scope = scope} g k) c = coming_short k (runs_short (said (paragraph_says state p scope) g).1 c)

  run_short : {d : Document} {u : Evaluation} → InRun state d u → ShortTurn u
  unfolding ShortScope
  run_short (in_run k j) = within_short j (coming_short k tt)

short_name : {n i m : ℕ} {xs : Exprs} {scope : Environment} → ShortScope scope → TooLong (working (reference n i xs) scope) m → ⊥
short_name c (Troubles.name_too_long {i = i} {v = v} {scope = scope} e l) = let h = lookup_short i scope v c e in omega arith

-- for any state of 32-bit words that is well formed for the document's names
pub no_long_name : (doc state : List ℕ) → Words state → WellFormedState (document_names (tree_of doc)) state → (n i m : ℕ) (xs : Exprs) (scope : Environment)
    → InRun (value_in (document_names (tree_of doc)) state) (tree_of doc) (working (reference n i xs) scope) → TooLong (working (reference n i xs) scope) m → ⊥
unfolding ShortTurn
no_long_name doc state words well n i m xs scope r h = short_name (run_short _ (state_short (document_names (tree_of doc)) state words well) r) h
