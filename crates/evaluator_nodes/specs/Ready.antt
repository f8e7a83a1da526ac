-- What the functions over nodes ask and leave.
use Rattle.std.specs.Prelude.{◌≡◌, Bool, true, Result, List, ℕ, suc, ◌+◌, ◌*◌, ◌-◌, ◌≤◌, ◌<◌, length, get_or, take, ◌⊎◌}
use Rattle.layout.specs.Layout.{part}
use Rattle.values.specs.Value.{Values, count, encodes}
use Rattle.values.specs.declared.held.Held.{Held}
use Rattle.layout.specs.Layout as Layout
use Rattle.reader_rules.specs.Kinds.{expressions, predicates, texts}
use Rattle.reader_rules.specs.Limits.{depth}
use Rattle.reader_rules.specs.Nodes.{kind_at, operand_at}
use Rattle.reader_rules.specs.Promise.{At, Lower}
use Rattle.reader_rules.specs.Tree.{Lines}
use Rattle.reader_rules.specs.Decode.{expr_at, pred_at}
use Rattle.evaluator_rules.specs.Run.{run_work_words}
use Rattle.evaluator_rules.specs.Outcomes.{Outcome, ◌>>=◌}
use Rattle.evaluator_rules.specs.Environment.{Environment}
use Rattle.evaluator_rules.specs.Assignments.{Domains, no_more, domain, Flow, Body, assign, each}
use Rattle.evaluator_rules.specs.Rules.{eval_expr, eval_pred, eval_lines}
use Rattle.evaluator_nodes.specs.Turns.{turn_at}
use Rattle.reader_rules.specs.declared.Refusal.{Refusal}
use Rattle.evaluator_operations.specs.declared.worked.Flow.{Flow as Pace}
use Rattle.evaluator_operations.specs.Worked.{all_narrow, Holds, Told, Judged, Flowed, SetIn}
use Rattle.evaluator_scope.specs.Blocks.{Lies, Scoped, Pending, Leaves, block_words, block_count}
use Rattle.values.specs.Value as Value

-- Node k of sort s with n blocks in the work area. There is room for 6 identifiers at each node from here down.
pub record Ready (doc work : List ℕ) (s n k : ℕ) : Type 0 where
  pub at : At doc s k
  pub room : n + 6 * (13 - depth doc k) ≤ block_count
  pub wide : run_work_words ≤ length work

-- w are the words of node k
pub record Handed (doc work w : List ℕ) (s n k : ℕ) : Type 0 where
  pub ready : Ready doc work s n k
  pub words : w ≡ part doc k
  pub few : length w ≤ 256

-- the operands from i on are nodes of sort t
pub record Operands (doc w : List ℕ) (k t i : ℕ) : Type 0 where
  pub each : (j : ℕ) → i ≤ j → j < length w → Lower doc k t (get_or w j 0)

-- node k, a quantifier or a Comprehension, with n blocks in scope and m blocks of identifiers above them
pub record Scoping (doc work : List ℕ) (n m k : ℕ) : Type 0 where
  pub node : (At doc expressions k × (kind_at doc k ≡ 46)) ⊎ (At doc predicates k × (28 ≤ kind_at doc k) × (kind_at doc k ≤ 29))
  pub small : k ≤ 1024
  pub most : k ≤ Layout.count doc
  pub text : Lower doc k texts (operand_at doc k 1)
  pub few : m ≤ 6
  pub room : n + m + 6 * (12 - depth doc k) ≤ block_count
  pub wide : run_work_words ≤ length work

-- what a result tells, for the scope that the blocks are
abbrev pub Tells : {B A : Type 0} → List ℕ → List ℕ → ℕ → (B → A → Type 0) → Result B Refusal → (Environment → Outcome A) → Type 0
Tells state work n R r f = (scope : Environment) → Scoped state work n scope → Told R r (f scope)

-- node k worked out as an expression, or as a predicate
abbrev pub Evaluates : List ℕ → ℕ → ℕ → List ℕ → List ℕ → List ℕ → Result Held Refusal → Type 0
Evaluates doc k n state before after r = Leaves n before after (Tells state before n Holds r (eval_expr (expr_at doc k)))

abbrev pub Decides : List ℕ → ℕ → ℕ → List ℕ → List ℕ → List ℕ → Result Bool Refusal → Type 0
Decides doc k n state before after r = Leaves n before after (Tells state before n Judged r (eval_pred (pred_at doc k)))

-- the values whose words lie in a value by value, from a place on
pub record Rest (h : Held) (at n : ℕ) (vs : Values) : Type 0 where
  pub lies : Lies h.words at (encodes vs)
  pub short : at + length (encodes vs) ≤ 64
  pub counted : count vs ≡ n
  pub narrow : all_narrow vs ≡ true

-- the members whose words lie in block b, from a place on
pub record RestIn (work : List ℕ) (b at n : ℕ) (vs : Values) : Type 0 where
  pub lies : Lies work (block_words * b + (4 + at)) (encodes vs)
  pub short : at + length (encodes vs) ≤ 64
  pub counted : count vs ≡ n
  pub narrow : all_narrow vs ≡ true

-- the assignments of m identifiers leave them as they are
pub record Assigns (n m : ℕ) (before after : List ℕ) (Claim : Type 0) : Type 0 where
  pub kept : take (block_words * n) after ≡ take (block_words * n) before
  pub pends : (ds : Domains) → Pending before n m ds → Pending after n m ds
  pub told : Claim

unfoldable pub join_domains : Domains → Domains → Domains
join_domains no_more es = es
join_domains (domain i vs ds) es = domain i vs (join_domains ds es)

-- the lines from here on, then the assignments of all identifiers, those of ds first
unfoldable pub lines_then : List ℕ → ℕ → Lines → Domains → Environment → Outcome Flow
lines_then doc k ls ds scope = eval_lines ls scope >>= λ es. assign (join_domains ds es) (turn_at doc k) scope Value.nil

-- the members that a Comprehension has so far, in lent words; a quantifier gathers nothing
pub record SoFar (doc : List ℕ) (k : ℕ) (u : List ℕ) (vs : Values) : Type 0 where
  pub gathers : kind_at doc k ≡ 46 → SetIn u vs

-- what each tells has the lent words before, u, and after, v
abbrev pub LinesTold : List ℕ → ℕ → Lines → List ℕ → List ℕ → ℕ → ℕ → List ℕ → List ℕ → Result Pace Refusal → Type 0
LinesTold doc k ls state work n m u v r =
    (scope : Environment) → Scoped state work n scope → Scoped state work (n + m) scope → (ds : Domains) → Pending work n m ds → SoFar doc k u Value.nil →
    Told (Flowed (SoFar doc k v)) r (lines_then doc k ls ds scope)

abbrev pub AssignTold : List ℕ → ℕ → List ℕ → List ℕ → ℕ → ℕ → List ℕ → List ℕ → Result Pace Refusal → Type 0
AssignTold doc k state work n m u v r =
    (scope : Environment) → Scoped state work n scope → (ds : Domains) → Pending work n m ds → (vs : Values) → SoFar doc k u vs →
    Told (Flowed (SoFar doc k v)) r (assign ds (turn_at doc k) scope vs)

abbrev pub EachTold : List ℕ → ℕ → List ℕ → List ℕ → ℕ → ℕ → ℕ → ℕ → List ℕ → List ℕ → Result Pace Refusal → Type 0
EachTold doc k state work n m at c u v r =
    (scope : Environment) → Scoped state work n scope → (i : ℕ) (us : Values) (ds : Domains) → Pending work n (suc m) (domain i us ds) → (vs : Values) → RestIn work n at c vs →
    (ss : Values) → SoFar doc k u ss → Told (Flowed (SoFar doc k v)) r (each i vs (λ scope' s'. assign ds (turn_at doc k) scope' s') scope ss)

abbrev pub BodyTold : List ℕ → ℕ → Body → List ℕ → List ℕ → ℕ → List ℕ → List ℕ → Result Pace Refusal → Type 0
BodyTold doc k body state work n u v r =
    (scope : Environment) → Scoped state work n scope → (vs : Values) → SoFar doc k u vs → Told (Flowed (SoFar doc k v)) r (body scope vs)
