-- What a result tells of the paragraphs: one law for each way in which a function over names, lines or paragraphs ends.
use mathlib.Core.Path.{◌≡◌, refl, sym, ap, subst, ◌∙◌}
use mathlib.Core.Bool.{Bool, true, false, true≢false}
use mathlib.Core.Logic.{⊎_elim}
use mathlib.Core.List.{List, [], ◌∷◌}
use Prim.Native.Nat.{ℕ, zero, suc, ◌+◌, ◌-◌, ◌≤◌, ◌<◌}
use native.Mathlib.Omega.{arith}
use native.Mathlib.Nat.{eq-or-lt_of_le}
use lib.ListN.{length, get_or, take, drop, length-append, length-drop}
use Rattle.words.proofs.Lists.{drop_next, drop_done}
use Rattle.layout.specs.Layout.{count, part}
use Rattle.values.specs.Value.{Value}
use Rattle.values.specs.declared.held.Held.{Held}
use Rattle.reader_rules.specs.Kinds.{expressions, predicates, texts, lines, paragraphs}
use Rattle.reader_rules.specs.Nodes.{kind_at, operand_at}
use Rattle.reader_rules.specs.Promise.{At, Lower}
use Rattle.reader_rules.specs.Reading.{read_of}
use Rattle.reader_rules.specs.Refusals.{Readable}
use Rattle.reader_rules.specs.Tree.{Pred, Lines, end, declaration, inclusion, Paragraph, axiomatic, text, abbreviation}
use Rattle.reader_rules.specs.Decode.{expr_at, pred_at, include_at, lines_from, paragraph_at, paragraphs_from}
use Rattle.reader_rules.specs.Limited.{declared_count, text_declares, globals_of, global_count}
use Rattle.reader_rules.proofs.TreeText.{include_law, line_range, line_declaration, line_inclusion, text_kind, text_law}
use Rattle.reader_rules.proofs.TreeParagraph.{paragraph_range, paragraph_given, paragraph_axiomatic, paragraph_schema, paragraph_abbreviation, paragraph_constraint, document_law}
use Rattle.reader_rules.proofs.TreeLists.{lines_go, lines_end_lem, paragraphs_go, paragraphs_end}
use Rattle.states_rules.specs.Names.{names_as, line_names, paragraph_names, names_of}
use Rattle.states_rules.specs.States.{State}
use Rattle.states.proofs.NameLaws.{as_length, text_line, decl_words}
use Rattle.evaluator_rules.specs.Outcomes.{Outcome, ◌>>=◌, pure}
use Rattle.evaluator_rules.specs.Environment.{Environment, bind, valued, generic}
use Rattle.evaluator_rules.specs.Rules.{eval_expr, eval_pred, test, stop_include}
use Rattle.evaluator_rules.specs.Paragraphs.{Step, onward, failed, then, unless, bind_givens, test_names, test_lines, run_paragraph, run_paragraphs}
use Rattle.std.proofs.Common.{Result, Ok, Err}
use Rattle.reader_rules.specs.declared.Refusal.{Refusal}
use Rattle.evaluator_paragraphs.specs.declared.Progress.{Progress}
use Rattle.evaluator_paragraphs.specs.declared.Progress.TheVariants.{Onward, Failed}
use Rattle.evaluator_operations.specs.Worked.{Holds, Told, fine, Judged, Stops}
use Rattle.evaluator_scope.specs.Blocks.{Scoped}
use Rattle.evaluator_scope.specs.Named.{Declares, Extends}
use Rattle.evaluator_paragraphs.specs.Paragraphs.{bind_lines, demanded, Stepped, TestsTold, Steps}
use Rattle.evaluator_operations.proofs.ToldLaws.{stop_told, go_told, halt_told, choose_told}
use Rattle.evaluator_scope.proofs.NamedLaws.{among_left, among_right, among_as}

-- ---- steps
module _ (P : Environment → Type 0) where
  pub step_on : (scope : Environment) → P scope → Told (Stepped P) (Ok Onward) (pure (onward scope))
  step_on scope p = fine {a = onward scope} (refl, p)

  pub step_failed : (k : ℕ) → Told (Stepped P) (Ok (Failed k)) (pure (failed k))
  step_failed k = fine {a = failed k} refl

onward_failed : {k : ℕ} → Onward ≡ Failed k → ⊥
onward_failed e = cc

module _ {P Q : Environment → Type 0} {o : Outcome Step} (k : Environment → Outcome Step) where
  pub then_go : {r : Result Progress Refusal} → Told (Stepped P) (Ok Onward) o → ((scope : Environment) → P scope → Told (Stepped Q) r (k scope)) → Told (Stepped Q) r (o >>= then k)
  unfolding then
  then_go {r} t m = go_told t go
    where
      go : (a : Step) → Stepped P Onward a → Told (Stepped Q) r (then k a)
      go (onward scope) g = m scope g.1
      go (failed n) g = absurd (onward_failed g)

  pub then_failed : {n : ℕ} → Told (Stepped P) (Ok (Failed n)) o → Told (Stepped Q) (Ok (Failed n)) (o >>= then k)
  unfolding then
  then_failed {n} t = go_told t go
    where
      go : (a : Step) → Stepped P (Failed n) a → Told (Stepped Q) (Ok (Failed n)) (then k a)
      go (onward scope) g = absurd (onward_failed (sym g.0))
      go (failed m) g = fine {a = failed m} g

-- ---- a predicate that must be true
module _ {P : Environment → Type 0} (k : ℕ) (p : Pred) (scope : Environment) where
  pub demand_stops : {f : Refusal} → Told Judged (Err f) (eval_pred p scope) → Told (Stepped P) (Err f) (demanded k p scope)
  unfolding demanded
  demand_stops t = halt_told _ t

  pub demand_holds : {b : Bool} → Told Judged (Ok b) (eval_pred p scope) → b ≡ true → P scope → Told (Stepped P) (Ok Onward) (demanded k p scope)
  unfolding demanded unless
  demand_holds {b} t f h = go_told t go
    where
      go : (c : Bool) → Judged b c → Told (Stepped P) (Ok Onward) (pure (unless k c scope))
      go true g = step_on P scope h
      go false g = absurd (true≢false (sym f ∙ g))

  pub demand_fails : {b : Bool} → Told Judged (Ok b) (eval_pred p scope) → b ≡ false → Told (Stepped P) (Ok (Failed k)) (demanded k p scope)
  unfolding demanded unless
  demand_fails {b} t f = go_told t go
    where
      go : (c : Bool) → Judged b c → Told (Stepped P) (Ok (Failed k)) (pure (unless k c scope))
      go true g = absurd (true≢false (sym g ∙ f))
      go false g = step_failed P k

-- ---- the identifiers of a Decl
-- what the tests of those from j on tell
abbrev pub NamesTold : ℕ → (Value → Outcome Bool) → List ℕ → State → ℕ → Result Progress Refusal → Type 0
NamesTold v f x s j r = TestsTold (bind_givens (drop j x) s) r (test_names v f (drop j x) s)

module _ (v : ℕ) (f : Value → Outcome Bool) (x : List ℕ) (j : ℕ) (s : State) where
  pub names_end : length x ≤ j → TestsTold (bind_givens (drop j x) s) (Ok Onward) (test_names v f (drop j x) s)
  unfolding test_names bind_givens
  names_end h own = rw (drop_done x j h) (step_on (λ o. o ≡ own) own refl)

  module _ (h : j < length x) where
    pub names_stop : {e : Refusal} → Told Judged (Err e) (f (s (get_or x j 0))) → TestsTold (bind_givens (drop j x) s) (Err e) (test_names v f (drop j x) s)
    unfolding test_names bind_givens
    names_stop t own = rw (drop_next x j h) (halt_told _ t)

    module _ {c : Bool} (t : Told Judged (Ok c) (f (s (get_or x j 0)))) where
      pub names_failed : c ≡ false → TestsTold (bind_givens (drop j x) s) (Ok (Failed v)) (test_names v f (drop j x) s)
      unfolding test_names bind_givens
      names_failed e own = rw (drop_next x j h) (go_told t (λ b q. choose_told b (λ n. absurd (true≢false (sym n ∙ sym q ∙ e))) (λ n. step_failed _ v)))

      pub names_go : {r : Result Progress Refusal} → c ≡ true → TestsTold (bind_givens (drop (j + 1) x) s) r (test_names v f (drop (j + 1) x) s) →
          TestsTold (bind_givens (drop j x) s) r (test_names v f (drop j x) s)
      unfolding test_names bind_givens
      names_go e m own =
          rw (drop_next x j h)
          (go_told t (λ b q. choose_told b (λ n. m (bind (get_or x j 0) (valued (s (get_or x j 0))) own)) (λ n. absurd (true≢false (sym e ∙ q ∙ n)))))

-- ---- the lines of a Text, one turn at a time
pub names_counted : (ls : Lines) → length (line_names ls) ≡ declared_count ls
unfolding line_names declared_count
names_counted end = refl
names_counted (declaration n a xs ls) = length-append (names_as false xs) (line_names ls) ∙ omega (arith, as_length false xs, names_counted ls)
names_counted (inclusion i ls) = names_counted ls

abbrev pub lines_of : List ℕ → ℕ → ℕ → Lines
lines_of doc t i = lines_from doc t i (length (part doc t) - i)

-- what the tests of the lines from i on tell, and what their identifiers make of b blocks
abbrev pub LinesTold : List ℕ → ℕ → State → Environment → ℕ → Result Progress Refusal → Type 0
LinesTold doc t s scope i r = TestsTold (bind_lines (lines_of doc t i) s) r (test_lines (lines_of doc t i) s scope)

abbrev pub LinesPut : List ℕ → ℕ → State → List ℕ → List ℕ → List ℕ → ℕ → ℕ → Type 0
LinesPut doc t s state before after b i = Extends state before after b (b + declared_count (lines_of doc t i)) (bind_lines (lines_of doc t i) s)

module _ (doc : List ℕ) (t : ℕ) (s : State) where
  pub lines_over : (scope : Environment) (i e : ℕ) → e ≤ i →
      TestsTold (bind_lines (lines_from doc t i (e - i)) s) (Ok Onward) (test_lines (lines_from doc t i (e - i)) s scope)
  unfolding test_lines bind_lines
  lines_over scope i e h own = rw (lines_end_lem doc t e i h) (step_on (λ o. o ≡ own) own refl)

  pub put_over : (state w : List ℕ) (b i e : ℕ) → e ≤ i → Extends state w w b (b + declared_count (lines_from doc t i (e - i))) (bind_lines (lines_from doc t i (e - i)) s)
  unfolding declared_count bind_lines
  put_over state w b i e h scope g = let z : b + 0 ≡ b = omega arith in rw (lines_end_lem doc t e i h, z) g

  module _ (h : At doc texts t) (i : ℕ) (p : 2 ≤ i) (q : i < length (part doc t)) (v : ℕ) (x : v ≡ operand_at doc t i) where
    abbrev these : Lines
    these = lines_from doc t i (length (part doc t) - i)

    abbrev rest : Lines
    rest = lines_from doc t (i + 1) (length (part doc t) - (i + 1))

    pub this_line : At doc lines v
    this_line = text_line doc t h i p q v x

    pub line_kind : (kind_at doc v ≡ 12 → ⊥) → kind_at doc v ≡ 11
    line_kind n =
        let r = line_range doc v this_line in
        let a = r.0 in
        let b = r.1 in
        omega arith

    pub line_lower : kind_at doc v ≡ 11 → Lower doc v expressions (operand_at doc v 1)
    line_lower k = (line_declaration doc v this_line k _ refl).first

    these_decl : kind_at doc v ≡ 11 → these ≡ declaration v (expr_at doc (operand_at doc v 1)) (drop 2 (part doc v)) rest
    these_decl k = lines_go doc t (length (part doc t)) i q ∙ (rw (← x) ((line_declaration doc v this_line k _ refl).tree rest))

    these_include : kind_at doc v ≡ 12 → these ≡ inclusion (include_at doc v) rest
    these_include k = lines_go doc t (length (part doc t)) i q ∙ (rw (← x) (line_inclusion doc v k rest))

    pub include_stop : {f : Refusal} (scope : Environment) → kind_at doc v ≡ 12 → Stops f 54 v → TestsTold (bind_lines these s) (Err f) (test_lines these s scope)
    unfolding test_lines stop_include
    include_stop scope k a own = rw (these_include k, (include_law doc lines v this_line k (operand_at doc v 3) refl).tree) (stop_told a (λ z. omega arith))

    module _ (k : kind_at doc v ≡ 11) (scope : Environment) where
      -- what the identifiers of this Decl tell
      abbrev tests_told : Result Progress Refusal → Type 0
      tests_told y = TestsTold (bind_givens (drop 2 (part doc v)) s) y (test_names v (test (expr_at doc (operand_at doc v 1)) scope) (drop 2 (part doc v)) s)

      pub decl_stop : {f : Refusal} → tests_told (Err f) → TestsTold (bind_lines these s) (Err f) (test_lines these s scope)
      unfolding test_lines
      decl_stop d own = rw (these_decl k) (halt_told _ (d own))

      pub decl_failed : {n : ℕ} → tests_told (Ok (Failed n)) → TestsTold (bind_lines these s) (Ok (Failed n)) (test_lines these s scope)
      unfolding test_lines
      decl_failed d own = rw (these_decl k) (then_failed (λ o. test_lines rest s scope o) (d own))

      pub decl_go : {r : Result Progress Refusal} → tests_told (Ok Onward) → TestsTold (bind_lines rest s) r (test_lines rest s scope) → TestsTold (bind_lines these s) r (test_lines these s scope)
      unfolding test_lines bind_lines
      decl_go {r} d m own = rw (these_decl k) (then_go (λ o. test_lines rest s scope o) (d own) (λ o e. subst (λ (z : Environment). Told (Stepped (λ a. a ≡ bind_lines rest s z)) r (test_lines rest s scope o)) e (m o)))

    pub include_count : kind_at doc v ≡ 12 → declared_count these ≡ declared_count rest
    unfolding declared_count
    include_count k = rw (these_include k)

    pub decl_count : kind_at doc v ≡ 11 → declared_count these ≡ length (part doc v) - 2 + declared_count rest
    unfolding declared_count
    decl_count k = rw (these_decl k) (ap (λ (n : ℕ). n + declared_count rest) (length-drop 2 (part doc v)))

    pub put_include : (state w0 w1 : List ℕ) (b : ℕ) → kind_at doc v ≡ 12 → Extends state w0 w1 b (b + declared_count rest) (bind_lines rest s) → Extends state w0 w1 b (b + declared_count these) (bind_lines these s)
    unfolding declared_count bind_lines
    put_include state w0 w1 b k m scope g = rw (these_include k) (m scope g)

    pub put_decl : (state w0 w1 w2 : List ℕ) (b : ℕ) → kind_at doc v ≡ 11 → Extends state w0 w1 b (b + (length (part doc v) - 2)) (bind_givens (drop 2 (part doc v)) s) →
        Extends state w1 w2 (b + (length (part doc v) - 2)) (b + (length (part doc v) - 2) + declared_count rest) (bind_lines rest s) → Extends state w0 w2 b (b + declared_count these) (bind_lines these s)
    unfolding bind_lines
    put_decl state w0 w1 w2 b k m n scope g =
        let z : b + declared_count these ≡ b + (length (part doc v) - 2) + declared_count rest = omega (arith, decl_count k) in
        rw z (rw (these_decl k) (n _ (m scope g)))

    pub declares_own : kind_at doc v ≡ 11 → Declares doc (line_names these) → Declares doc (names_as true (drop 2 (part doc v)))
    unfolding line_names
    declares_own k d = record { each = λ j a. (rw (these_decl k) at d).each j (among_left _ _ (among_as true false (drop 2 (part doc v)) a)) }

    pub declares_rest : kind_at doc v ≡ 11 → Declares doc (line_names these) → Declares doc (line_names rest)
    unfolding line_names
    declares_rest k d = record { each = λ j a. (rw (these_decl k) at d).each j (among_right (names_as false (drop 2 (part doc v))) _ a) }

    pub declares_skip : kind_at doc v ≡ 12 → Declares doc (line_names these) → Declares doc (line_names rest)
    unfolding line_names
    declares_skip k d = record { each = λ j a. (rw (these_include k) at d).each j a }

-- a Decl has at most 8 words
pub few_line : (doc : List ℕ) (v : ℕ) → At doc lines v → kind_at doc v ≡ 11 → length (part doc v) ≤ 256
few_line doc v h k = omega (arith, (decl_words doc v h k).1)

-- ---- a paragraph
module _ (doc : List ℕ) (k : ℕ) (h : At doc paragraphs k) (s : State) (state w0 w1 : List ℕ) (n : ℕ) where
  pub given_globals : kind_at doc k ≡ 2 → globals_of (paragraph_at doc k) ≡ length (part doc k) - 1
  unfolding globals_of
  given_globals q = rw (paragraph_given doc k h q) (length-drop 1 (part doc k))

  pub given_steps : kind_at doc k ≡ 2 → Extends state w0 w1 n (n + (length (part doc k) - 1)) (bind_givens (drop 1 (part doc k)) s) →
      Steps state w0 w1 n (n + globals_of (paragraph_at doc k)) (Ok Onward) (run_paragraph (paragraph_at doc k) s)
  unfolding run_paragraph
  given_steps q m scope g = rw (given_globals q) (rw (paragraph_given doc k h q) (step_on (Scoped state w1 (n + (length (part doc k) - 1))) (bind_givens (drop 1 (part doc k)) s scope) (m scope g)))

  pub schema_steps : kind_at doc k ≡ 4 → Steps state w0 w0 n (n + globals_of (paragraph_at doc k)) (Ok Onward) (run_paragraph (paragraph_at doc k) s)
  unfolding run_paragraph globals_of
  schema_steps q scope g =
      let e = (paragraph_schema doc k h q (operand_at doc k 2) (operand_at doc k (operand_at doc k 2 + 3)) refl refl).tree in
      let y : n + 0 ≡ n = omega arith in
      rw (e, y) (step_on (Scoped state w0 n) scope g)

  pub constraint_steps : {r : Result Progress Refusal} (a : ℕ) → a ≡ operand_at doc k 1 → kind_at doc k ≡ 6 → Steps state w0 w1 n n r (demanded k (pred_at doc a)) →
      Steps state w0 w1 n (n + globals_of (paragraph_at doc k)) r (run_paragraph (paragraph_at doc k) s)
  unfolding run_paragraph globals_of demanded
  constraint_steps a x q m scope g = let y : n + 0 ≡ n = omega arith in rw ((paragraph_constraint doc k h q a x).tree, y) (m scope g)

  module _ (q : kind_at doc k ≡ 5) where
    abbrev body : ℕ
    body = operand_at doc k (operand_at doc k 2 + 3)

    tree : paragraph_at doc k ≡ abbreviation k (operand_at doc k 1) (take (operand_at doc k 2) (drop 3 (part doc k))) (expr_at doc body)
    tree = (paragraph_abbreviation doc k h q (operand_at doc k 2) body refl refl).tree

    pub abbreviation_globals : globals_of (paragraph_at doc k) ≡ 1
    unfolding globals_of
    abbreviation_globals = rw tree

    pub generic_steps : (operand_at doc k 2 ≡ 0 → ⊥) → Extends state w0 w1 n (n + 1) (bind (operand_at doc k 1) generic) →
        Steps state w0 w1 n (n + 1) (Ok Onward) (run_paragraph (paragraph_at doc k) s)
    unfolding run_paragraph
    generic_steps p m scope g = rw tree (go (operand_at doc k 2) p (drop 3 (part doc k)) (omega (arith, length-drop 3 (part doc k), (paragraph_abbreviation doc k h q (operand_at doc k 2) body refl refl).words)))
      where
        go : (c : ℕ) → (c ≡ 0 → ⊥) → (xs : List ℕ) → 1 ≤ length xs → Told (Stepped (Scoped state w1 (n + 1))) (Ok Onward) (run_paragraph (abbreviation k (operand_at doc k 1) (take c xs) (expr_at doc body)) s scope)
        go zero y xs l = absurd (y refl)
        go (suc c) y [] l = absurd (omega arith)
        go (suc c) y (a ∷ xs) l = step_on (Scoped state w1 (n + 1)) (bind (operand_at doc k 1) generic scope) (m scope g)

    module _ (p : operand_at doc k 2 ≡ 0) where
      pub plain_lower : Lower doc k expressions (operand_at doc k 3)
      plain_lower =
          let y : operand_at doc k (operand_at doc k 2 + 3) ≡ operand_at doc k 3 = rw p in
          subst (λ (a : ℕ). Lower doc k expressions a) y (paragraph_abbreviation doc k h q (operand_at doc k 2) body refl refl).body

      plain_tree : paragraph_at doc k ≡ abbreviation k (operand_at doc k 1) [] (expr_at doc (operand_at doc k 3))
      plain_tree = tree ∙ rw p

      pub plain_stops : {f : Refusal} (scope : Environment) → Told Holds (Err f) (eval_expr (expr_at doc (operand_at doc k 3)) scope) → Told (Stepped (Scoped state w1 (n + 1))) (Err f) (run_paragraph (paragraph_at doc k) s scope)
      unfolding run_paragraph
      plain_stops scope t = rw plain_tree (halt_told _ t)

      pub plain_goes : {h : Held} (scope : Environment) → Told Holds (Ok h) (eval_expr (expr_at doc (operand_at doc k 3)) scope) →
          ((x : Value) → Holds h x → Scoped state w1 (n + 1) (bind (operand_at doc k 1) (valued x) scope)) → Told (Stepped (Scoped state w1 (n + 1))) (Ok Onward) (run_paragraph (paragraph_at doc k) s scope)
      unfolding run_paragraph
      plain_goes scope t m = rw plain_tree (go_told t (λ x g. step_on (Scoped state w1 (n + 1)) (bind (operand_at doc k 1) (valued x) scope) (m x g)))

-- an Axiom, by its Text
module _ (doc : List ℕ) (k : ℕ) (h : At doc paragraphs k) (q : kind_at doc k ≡ 3) (a : ℕ) (x : a ≡ operand_at doc k 1) (s : State) where
  pub axiom_text : At doc texts a
  axiom_text = (paragraph_axiomatic doc k h q a x).first.at

  abbrev all : Lines
  all = lines_from doc a 2 (length (part doc a) - 2)

  pub axiom_pred : Lower doc a predicates (operand_at doc a 1)
  axiom_pred = (text_law doc texts a axiom_text (text_kind doc a axiom_text) (operand_at doc a 1) refl).first

  axiom_tree : paragraph_at doc k ≡ axiomatic k (text a (pred_at doc (operand_at doc a 1)) all)
  axiom_tree = (paragraph_axiomatic doc k h q a x).tree ∙ ap (axiomatic k) (text_law doc texts a axiom_text (text_kind doc a axiom_text) (operand_at doc a 1) refl).tree

  pub axiom_globals : globals_of (paragraph_at doc k) ≡ declared_count all
  unfolding globals_of text_declares
  axiom_globals = rw axiom_tree

  pub axiom_names : paragraph_names (paragraph_at doc k) ≡ line_names all
  unfolding paragraph_names
  axiom_names = rw axiom_tree

  module _ {P : Environment → Type 0} (scope : Environment) where
    pub axiom_stops_lem : {f : Refusal} → TestsTold (bind_lines all s) (Err f) (test_lines all s scope) → Told (Stepped P) (Err f) (run_paragraph (paragraph_at doc k) s scope)
    unfolding run_paragraph
    axiom_stops_lem t = rw axiom_tree (halt_told _ (t scope))

    pub axiom_fails_lem : {n : ℕ} → TestsTold (bind_lines all s) (Ok (Failed n)) (test_lines all s scope) → Told (Stepped P) (Ok (Failed n)) (run_paragraph (paragraph_at doc k) s scope)
    unfolding run_paragraph demanded
    axiom_fails_lem t = rw axiom_tree (then_failed (demanded k (pred_at doc (operand_at doc a 1))) (t scope))

    pub axiom_goes : {r : Result Progress Refusal} → TestsTold (bind_lines all s) (Ok Onward) (test_lines all s scope) → Told (Stepped P) r (demanded k (pred_at doc (operand_at doc a 1)) (bind_lines all s scope)) →
        Told (Stepped P) r (run_paragraph (paragraph_at doc k) s scope)
    unfolding run_paragraph demanded
    axiom_goes t m = rw axiom_tree (then_go (demanded k (pred_at doc (operand_at doc a 1))) (t scope) (λ own e. rw e m))

pub schema_kind : (doc : List ℕ) (k : ℕ) → At doc paragraphs k → (kind_at doc k ≡ 2 → ⊥) → (kind_at doc k ≡ 3 → ⊥) → (kind_at doc k ≡ 5 → ⊥) → (kind_at doc k ≡ 6 → ⊥) → kind_at doc k ≡ 4
schema_kind doc k h a b c e =
    let r = paragraph_range doc k h in
    let low = r.0 in
    let most = r.1 in
    omega arith

pub other_globals : (doc : List ℕ) (k : ℕ) → At doc paragraphs k → (kind_at doc k ≡ 2 → ⊥) → (kind_at doc k ≡ 3 → ⊥) → (kind_at doc k ≡ 5 → ⊥) → globals_of (paragraph_at doc k) ≡ 0
unfolding globals_of
other_globals doc k h a b c =
    let r = paragraph_range doc k h in
    let low = r.0 in
    let most = r.1 in
    let l : 4 ≤ kind_at doc k = omega arith in
    ⊎_elim
    (λ e. rw (paragraph_schema doc k h (sym e) (operand_at doc k 2) (operand_at doc k (operand_at doc k 2 + 3)) refl refl).tree)
    (λ m. rw (paragraph_constraint doc k h (omega arith) (operand_at doc k 1) refl).tree)
    (eq-or-lt_of_le l)

-- ---- the paragraphs of a document, one turn at a time
abbrev pub from : List ℕ → ℕ → List Paragraph
from doc i = paragraphs_from doc (count doc) i (length (part doc (count doc)) - i)

-- whatever the paragraphs from j on tell, b blocks in scope, tells of all from i on, where n blocks were
pub record RunLeft (doc : List ℕ) (s : State) (state work₀ : List ℕ) (n i : ℕ) (work : List ℕ) (b j : ℕ) : Type 0 where
  pub run : (r : Result Progress Refusal) → ((scope : Environment) → Scoped state work b scope → Told (Stepped (λ z. Unit {0})) r (run_paragraphs (from doc j) s scope)) →
      (scope : Environment) → Scoped state work₀ n scope → Told (Stepped (λ z. Unit {0})) r (run_paragraphs (from doc i) s scope)

module _ (doc : List ℕ) (s : State) (i : ℕ) where
  abbrev size : ℕ
  size = length (part doc (count doc))

  pub run_over : (scope : Environment) → size ≤ i → Told (Stepped (λ z. Unit {0})) (Ok Onward) (run_paragraphs (paragraphs_from doc (count doc) i (size - i)) s scope)
  unfolding run_paragraphs
  run_over scope h = rw (paragraphs_end doc (count doc) size i h) (step_on (λ o. Unit {0}) scope tt)

  module _ (d : read_of doc ≡ Readable) (p : 1 ≤ i) (l : i < size) (v : ℕ) (x : v ≡ operand_at doc (count doc) i) where
    abbrev later : List Paragraph
    later = paragraphs_from doc (count doc) (i + 1) (size - (i + 1))

    these_paragraphs : paragraphs_from doc (count doc) i (size - i) ≡ paragraph_at doc v ∷ later
    these_paragraphs = paragraphs_go doc (count doc) size i l ∙ (rw (← x))

    pub this_paragraph_lem : At doc paragraphs v
    this_paragraph_lem = ((document_law doc d).each i p l v x).at

    pub global_sum : global_count (paragraphs_from doc (count doc) i (size - i)) ≡ globals_of (paragraph_at doc v) + global_count later
    unfolding global_count
    global_sum = rw these_paragraphs

    pub declares_this : Declares doc (names_of (paragraphs_from doc (count doc) i (size - i))) → Declares doc (paragraph_names (paragraph_at doc v))
    unfolding names_of
    declares_this e = record { each = λ j a. (rw these_paragraphs at e).each j (among_left _ _ a) }

    pub declares_others : Declares doc (names_of (paragraphs_from doc (count doc) i (size - i))) → Declares doc (names_of later)
    unfolding names_of
    declares_others e = record { each = λ j a. (rw these_paragraphs at e).each j (among_right (paragraph_names (paragraph_at doc v)) _ a) }

    module _ {P Q : Environment → Type 0} (scope : Environment) where
      pub run_stops : {f : Refusal} → Told (Stepped P) (Err f) (run_paragraph (paragraph_at doc v) s scope) → Told (Stepped Q) (Err f) (run_paragraphs (paragraphs_from doc (count doc) i (size - i)) s scope)
      unfolding run_paragraphs
      run_stops t = rw these_paragraphs (halt_told _ t)

      pub run_fails : {n : ℕ} → Told (Stepped P) (Ok (Failed n)) (run_paragraph (paragraph_at doc v) s scope) → Told (Stepped Q) (Ok (Failed n)) (run_paragraphs (paragraphs_from doc (count doc) i (size - i)) s scope)
      unfolding run_paragraphs
      run_fails t = rw these_paragraphs (then_failed (λ o. run_paragraphs later s o) t)

      pub run_goes : {r : Result Progress Refusal} → Told (Stepped P) (Ok Onward) (run_paragraph (paragraph_at doc v) s scope) → ((own : Environment) → P own → Told (Stepped Q) r (run_paragraphs later s own)) →
          Told (Stepped Q) r (run_paragraphs (paragraphs_from doc (count doc) i (size - i)) s scope)
      unfolding run_paragraphs
      run_goes t m = rw these_paragraphs (then_go (λ o. run_paragraphs later s o) t m)
