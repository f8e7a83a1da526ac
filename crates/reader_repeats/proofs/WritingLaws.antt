-- What a document that passed findings 12 to 15 writes: identifiers and names in range, and the Decls of one Text.
use mathlib.Core.Path.{◌≡◌, refl, sym, ap, subst, ◌∙◌}
use mathlib.Core.Bool.{Bool, true, false, ◌&&◌, ◌||◌, cond, not, false≢true}
use mathlib.Core.List.{List, [], ◌∷◌}
use Prim.Native.Nat.{ℕ, zero, suc, ◌+◌, ◌-◌, ◌/◌, ◌≤◌, ◌<◌}
use native.Mathlib.Omega.{arith}
use lib.Dec.{leb, ltb, eqb}
use lib.ListN.{length, get_or, take, drop, replicate}
use borrow.Author.Tests.{eq-eqb, ne_eqb, eqb-true, eqb-false, leb-true, ltb-true, le-leb, lt-leb, lt-ltb}
use Rattle.words.specs.Loops.{some, joined, has}
use Rattle.words.proofs.Loops.{and_left, and_right, every_at}
use Rattle.words.proofs.Lists.{has_joined, some_at, some_true, same_test}
use Rattle.layout.specs.Layout.{count, part}
use Rattle.reader_rules.specs.Identifiers.{name_of, is_identifier, is_name}
use Rattle.reader_rules.specs.Kinds.{cell, sort_at, sort_in, plain_ok, is_node_sort, identifiers, schema_names}
use Rattle.reader_rules.specs.Nodes.{kind_at, uses, parent}
use Rattle.reader_rules.specs.Findings.{plain_at}
use Rattle.reader_rules.specs.Repeats.{fresh, written_before, repeats_in, declared, declared_in, is_axiom_decl, globals, parameters, schemas, first_operand, repeat_number}
use Rattle.reader_rules.proofs.Accepted.{Sound, Nodes, Once, some_words, least_operands}
use Rattle.reader_rules.proofs.Operands.{cond_same, sort_row_lem}
use Rattle.reader_rules.proofs.Parents.{child_place, place_child, child_lower, parent_some, parent_only, parent_most}
use Rattle.reader_repeats.specs.Parents.{Linked}
use Rattle.reader_repeats.specs.Marks.{unmarked, marked, Written, distinct, shares, shared_at, bits, identifier_marks, name_marks}
use Rattle.reader_repeats.proofs.RepeatLaws.{AllBelow, unmarked_fresh, marks_after, no_marks, written_next, fresh_shares, fresh_distinct}
use Rattle.reader_repeats.proofs.ParentLaws.{nodes_of}

-- ---- words in range
all_below_lem : (n : ℕ) (w : List ℕ) (i : ℕ) → ((j : ℕ) → i ≤ j → j < length w → get_or w j 0 < n) → AllBelow n (drop i w)
all_below_lem n [] zero h = tt
all_below_lem n [] (suc i) h = tt
all_below_lem n (x ∷ w) zero h = (h 0 (omega arith) (omega arith), all_below_lem n w zero (λ j p q. h (suc j) (omega arith) (omega arith)))
all_below_lem n (x ∷ w) (suc i) h = all_below_lem n w i (λ j p q. h (suc j) (omega arith) (omega arith))

first_below : (n : ℕ) (w : List ℕ) → get_or w 1 0 < n → AllBelow n (take 1 (drop 1 w))
first_below n [] h = tt
first_below n (x ∷ []) h = tt
first_below n (x ∷ y ∷ w) h = (h, tt)

identifier_below : (v : ℕ) → is_identifier v ≡ true → v < identifier_marks
unfolding is_identifier name_of
identifier_below v e = omega (arith, leb-true (v / 4) 16383 (and_right (leb 1 (v / 4)) _ e))

name_below : (v : ℕ) → is_name v ≡ true → v < name_marks
name_below v e = omega (arith, leb-true v 16383 (and_right (leb 1 v) _ e))

module _ (doc : List ℕ) (k : ℕ) (s : Sound doc k) where
  plain_word : (i t : ℕ) → 1 ≤ i → i < length (part doc k) → sort_at (part doc k) i ≡ t → plain_ok t (get_or (part doc k) i 0) ≡ true
  plain_word i t p q e = rw e at (every_at (plain_at (part doc k)) 1 (length (part doc k) - 1) s.plain i p (omega arith))

  identifier_at_lem : (i : ℕ) → 1 ≤ i → i < length (part doc k) → sort_at (part doc k) i ≡ identifiers → get_or (part doc k) i 0 < identifier_marks
  unfolding plain_ok
  identifier_at_lem i p q e = identifier_below _ (plain_word i identifiers p q e)

  given_below : kind_at doc k ≡ 2 → AllBelow identifier_marks (drop 1 (part doc k))
  unfolding sort_in cell
  given_below q =
      all_below_lem identifier_marks (part doc k) 1
      (λ i p l. identifier_at_lem i p l (rw q (sort_row_lem 2 (length (part doc k) - 1) (get_or (part doc k) 3 0) i refl ∙ rw (cond_same {A = ℕ} (eqb i 2) 1) (cond_same {A = ℕ} (eqb i 1) 1))))

  decl_below : kind_at doc k ≡ 11 → AllBelow identifier_marks (declared doc k)
  unfolding sort_in cell
  decl_below q =
      all_below_lem identifier_marks (part doc k) 2
      (λ i p l. identifier_at_lem i (omega arith) l (rw q (sort_row_lem 11 (length (part doc k) - 1) (get_or (part doc k) 3 0) i refl ∙ rw (ne_eqb i 1 (omega arith)) (cond_same {A = ℕ} (eqb i 2) 1))))

  -- the first operand of a Schema or Abbreviation
  module _ (m : 1 ≤ length (part doc k)) where
    four_words : cell (kind_at doc k) 0 ≡ 3 → 4 ≤ length (part doc k)
    four_words e = omega (arith, least_operands doc k s m, e)

    abbreviation_below : kind_at doc k ≡ 5 → AllBelow identifier_marks (first_operand doc k)
    unfolding sort_in cell
    abbreviation_below q =
        let l = four_words (rw q refl) in
        first_below identifier_marks (part doc k) (identifier_at_lem 1 (omega arith) (omega arith) (rw (q, ne_eqb 1 (length (part doc k) - 1) (omega arith))))

    schema_below_lem : kind_at doc k ≡ 4 → AllBelow name_marks (first_operand doc k)
    unfolding sort_in cell plain_ok
    schema_below_lem q =
        let l = four_words (rw q refl) in
        let e : sort_at (part doc k) 1 ≡ schema_names = rw (q, ne_eqb 1 (length (part doc k) - 1) (omega arith)) in
        first_below name_marks (part doc k) (name_below _ (plain_word 1 schema_names (omega arith) (omega arith) e))

    pub globals_below : AllBelow identifier_marks (globals doc k)
    unfolding globals is_axiom_decl
    globals_below = by (eqb (kind_at doc k) 2) (eqb (kind_at doc k) 5) (eqb (kind_at doc k) 11) (eqb (kind_at doc (parent doc (parent doc k))) 3) refl refl refl
      where
        by : (a b c d : Bool) → eqb (kind_at doc k) 2 ≡ a → eqb (kind_at doc k) 5 ≡ b → eqb (kind_at doc k) 11 ≡ c
            → AllBelow identifier_marks (cond a (drop 1 (part doc k)) (cond b (first_operand doc k) (cond (c && d) (declared doc k) [])))
        by true b c d x y z = given_below (eqb-true _ _ x)
        by false true c d x y z = abbreviation_below (eqb-true _ _ y)
        by false false true true x y z = decl_below (eqb-true _ _ z)
        by false false true false x y z = tt
        by false false false d x y z = tt

    pub schemas_below : AllBelow name_marks (schemas doc k)
    unfolding schemas
    schemas_below = by (eqb (kind_at doc k) 4) refl
      where
        by : (a : Bool) → eqb (kind_at doc k) 4 ≡ a → AllBelow name_marks (cond a (first_operand doc k) [])
        by true x = schema_below_lem (eqb-true _ _ x)
        by false x = tt

-- ---- the Decls of one Text
-- a word of both lists, and back
shares_at : (xs ids : List ℕ) → shares xs ids ≡ true → (y : ℕ) × (has y xs ≡ true) × (has y ids ≡ true)
unfolding shares has
shares_at xs [] e = absurd (false≢true e)
shares_at xs (y ∷ ys) e = go (λ q. shares_at xs ys q) (has y xs) refl e
  where
    or_right : (a : Bool) → (a || true) ≡ true
    or_right true = refl
    or_right false = refl

    go : (shares xs ys ≡ true → (y : ℕ) × (has y xs ≡ true) × (has y ys ≡ true)) → (b : Bool) → has y xs ≡ b → (b || shares xs ys) ≡ true
        → (z : ℕ) × (has z xs ≡ true) × ((eqb y z || has z ys) ≡ true)
    go later true p q = (y, p, rw (eq-eqb y y refl))
    go later false p q = let h = later q in (h.0, h.1, rw h.2 (or_right (eqb y h.0)))

shares_true : (xs ids : List ℕ) (y : ℕ) → has y xs ≡ true → has y ids ≡ true → shares xs ids ≡ true
unfolding shares has
shares_true xs [] y p q = absurd (false≢true q)
shares_true xs (x ∷ ids) y p q = go (λ r. shares_true xs ids y p r) (eqb x y) refl q
  where
    or_right : (a : Bool) → (a || true) ≡ true
    or_right true = refl
    or_right false = refl

    go : (has y ids ≡ true → shares xs ids ≡ true) → (b : Bool) → eqb x y ≡ b → (b || has y ids) ≡ true → (has x xs || shares xs ids) ≡ true
    go later true e r = rw (eqb-true x y e, p)
    go later false e r = rw (later r) (or_right (has x xs))

written_decl : (doc : List ℕ) (y t j : ℕ) → has y (declared_in doc t j) ≡ true → (kind_at doc j ≡ 11) × (parent doc j ≡ t) × (has y (declared doc j) ≡ true)
unfolding declared_in has
written_decl doc y t j e = go (eqb (kind_at doc j) 11) (eqb (parent doc j) t) refl refl e
  where
    go : (a b : Bool) → eqb (kind_at doc j) 11 ≡ a → eqb (parent doc j) t ≡ b → has y (cond (a && b) (declared doc j) []) ≡ true
        → (kind_at doc j ≡ 11) × (parent doc j ≡ t) × (has y (declared doc j) ≡ true)
    go true true p q x = (eqb-true _ _ p, eqb-true _ _ q, x)
    go true false p q x = absurd (false≢true x)
    go false b p q x = absurd (false≢true x)

module _ (doc : List ℕ) (n : Nodes doc) (o : Once doc) (k : ℕ) (q : kind_at doc k ≡ 11) (some-k : 1 ≤ k) (most-k : k ≤ count doc) where
  before_last : k < count doc
  before_last = go (eqb k (count doc)) refl
    where
      go : (b : Bool) → eqb k (count doc) ≡ b → k < count doc
      go true e = absurd (let z : ◌≡◌ {A = ℕ} 11 1 = sym q ∙ ap (kind_at doc) (eqb-true _ _ e) ∙ o.last in omega arith)
      go false e = omega (arith, eqb-false k (count doc) e)

  pub once_used : uses doc k ≡ 1
  once_used = o.once k some-k before_last

  declared_here : (t j : ℕ) → kind_at doc j ≡ 11 → parent doc j ≡ t → declared_in doc t j ≡ declared doc j
  unfolding declared_in
  declared_here t j a b = rw (eq-eqb (kind_at doc j) 11 a, eq-eqb (parent doc j) t b)

  -- an operand of the Text that is a Decl before k and shares an identifier: a writing before k
  shared_written : (ids : List ℕ) (i : ℕ) → 1 ≤ i → i < length (part doc (parent doc k)) → shared_at doc k ids (part doc (parent doc k)) i ≡ true
      → shares (joined (declared_in doc (parent doc k)) 1 (k - 1)) ids ≡ true
  shared_written ids i p l e =
      let t = parent doc k in
      let w = part doc t in
      let d = get_or w i 0 in
      let s = and_left (is_node_sort (sort_at w i)) _ e in
      let f = and_right (is_node_sort (sort_at w i)) _ e in
      let b = ltb-true d k (and_left (ltb d k) _ f) in
      let g = and_right (ltb d k) _ f in
      let a = eqb-true _ _ (and_left (eqb (kind_at doc d) 11) _ g) in
      let u = parent_some doc k once_used in
      let c = place_child doc t i p l s in
      let r = child_lower doc n t d u.0 (parent_most doc k) c in
      let m = before_last in
      let h = parent_only doc d (o.once d r.0 (omega arith)) t u.0 (parent_most doc k) c in
      let z = shares_at (declared doc d) ids (and_right (eqb (kind_at doc d) 11) _ g) in
      let x : has z.0 (declared_in doc t d) ≡ true = rw (declared_here t d a h) z.1 in
      shares_true (joined (declared_in doc t) 1 (k - 1)) ids z.0
      (has_joined z.0 (declared_in doc t) 1 (k - 1) ∙ some_true (λ j. has z.0 (declared_in doc t j)) 1 (k - 1) d r.0 (omega arith) x) z.2

  -- and back
  written_shared : (ids : List ℕ) → shares (joined (declared_in doc (parent doc k)) 1 (k - 1)) ids ≡ true
      → some (shared_at doc k ids (part doc (parent doc k))) 1 (length (part doc (parent doc k)) - 1) ≡ true
  written_shared ids e =
      let t = parent doc k in
      let w = part doc t in
      let z = shares_at (joined (declared_in doc t) 1 (k - 1)) ids e in
      let y = z.0 in
      let f = some_at (λ j. has y (declared_in doc t j)) 1 (k - 1) (sym (has_joined y (declared_in doc t) 1 (k - 1)) ∙ z.1) in
      let j = f.0 in
      let g = written_decl doc y t j f.3 in
      let l = before_last in
      let m = parent_some doc j (o.once j f.1 (omega (arith, f.2))) in
      let c = child_place doc t j (rw g.1 at m.1) in
      let i = c.place in
      let h : shared_at doc k ids w i ≡ true = rw (c.sort, c.word, lt-ltb j k (omega (arith, f.2)), eq-eqb (kind_at doc j) 11 g.0) (shares_true (declared doc j) ids y g.2 z.2) in
      some_true (shared_at doc k ids w) 1 (length w - 1) i c.some (omega (arith, c.most)) h

  pub text_shared : (ids : List ℕ) → some (shared_at doc k ids (part doc (parent doc k))) 1 (length (part doc (parent doc k)) - 1)
      ≡ shares (joined (declared_in doc (parent doc k)) 1 (k - 1)) ids
  text_shared ids =
      same_test _ _
      (λ e. let f = some_at _ 1 (length (part doc (parent doc k)) - 1) e in shared_written ids f.0 f.1 (omega (arith, f.2)) f.3)
      (written_shared ids)

  repeats_eq : repeats_in (declared_in doc (parent doc k)) k
      ≡ not (not (some (shared_at doc k (declared doc k) (part doc (parent doc k))) 1 (length (part doc (parent doc k)) - 1)) && distinct (declared doc k))
  repeats_eq =
      rw (declared_here (parent doc k) k q refl, text_shared (declared doc k))
      (ap not (fresh_shares (written_before (declared_in doc (parent doc k)) k) (declared doc k)))

  pub repeats_shared : distinct (declared doc k) ≡ true
      → repeats_in (declared_in doc (parent doc k)) k ≡ some (shared_at doc k (declared doc k) (part doc (parent doc k))) 1 (length (part doc (parent doc k)) - 1)
  repeats_shared e = repeats_eq ∙ rw e (twice (some (shared_at doc k (declared doc k) (part doc (parent doc k))) 1 (length (part doc (parent doc k)) - 1)))
    where
      twice : (b : Bool) → not (not b && true) ≡ b
      twice true = refl
      twice false = refl

  pub repeats_itself : distinct (declared doc k) ≡ false → true ≡ repeats_in (declared_in doc (parent doc k)) k
  repeats_itself e = sym (repeats_eq ∙ rw e (off (some (shared_at doc k (declared doc k) (part doc (parent doc k))) 1 (length (part doc (parent doc k)) - 1))))
    where
      off : (b : Bool) → not (not b && false) ≡ true
      off true = refl
      off false = refl

-- what is no Decl repeats nothing in a Text
pub no_decl : (doc : List ℕ) (t k : ℕ) → (kind_at doc k ≡ 11 → ⊥) → false ≡ repeats_in (declared_in doc t) k
unfolding declared_in fresh
no_decl doc t k e = rw (ne_eqb (kind_at doc k) 11 e)

-- ---- kinds that write nothing
module _ (doc : List ℕ) (k : ℕ) (b : 12 < kind_at doc k) where
  no_globals : globals doc k ≡ []
  unfolding globals is_axiom_decl
  no_globals =
      let x : kind_at doc k ≡ 2 → ⊥ = λ e. omega arith in
      let y : kind_at doc k ≡ 5 → ⊥ = λ e. omega arith in
      let z : kind_at doc k ≡ 11 → ⊥ = λ e. omega arith in
      rw (ne_eqb (kind_at doc k) 2 x, ne_eqb (kind_at doc k) 5 y, ne_eqb (kind_at doc k) 11 z)

  no_schemas : schemas doc k ≡ []
  unfolding schemas
  no_schemas = let x : kind_at doc k ≡ 4 → ⊥ = λ e. omega arith in rw (ne_eqb (kind_at doc k) 4 x)

  no_parameters : parameters doc k ≡ []
  unfolding parameters
  no_parameters =
      let x : 4 ≤ kind_at doc k = omega arith in
      let y : 5 < kind_at doc k = omega arith in
      rw (le-leb 4 (kind_at doc k) x, lt-leb (kind_at doc k) 5 y)

-- ---- one node, by the tables of marks
module _ (doc up : List ℕ) (l : Linked doc up) (k : ℕ) (p : 1 ≤ k) (q : k ≤ count doc) (seen names : List ℕ) (w : Written doc k seen names) where
  at_node : Sound doc k
  at_node = (nodes_of doc up l).node k p q

  words_there : 1 ≤ length (part doc k)
  words_there = some_words doc k (nodes_of doc up l).laid p q

  globals_in : AllBelow identifier_marks (globals doc k)
  globals_in = globals_below doc k at_node words_there

  schemas_in : AllBelow name_marks (schemas doc k)
  schemas_in = schemas_below doc k at_node words_there

  pub repeat_eq : repeat_number doc k
      ≡ cond (not (unmarked (globals doc k) seen) || (repeats_in (declared_in doc (parent doc k)) k || (not (distinct (parameters doc k)) || not (unmarked (schemas doc k) names)))) 16 0
  unfolding repeat_number
  repeat_eq =
      rw (
        unmarked_fresh identifier_marks (globals doc k) seen (written_before (globals doc) k) globals_in w.globals,
        unmarked_fresh name_marks (schemas doc k) names (written_before (schemas doc) k) schemas_in w.schemas,
        fresh_distinct (parameters doc k),
      )

  pub written_on : Written doc (k + 1) (marked (globals doc k) seen) (marked (schemas doc k) names)
  written_on =
      record {
        globals = rw (written_next (globals doc) k p) (marks_after identifier_marks (globals doc k) seen (written_before (globals doc) k) globals_in w.globals);
        schemas = rw (written_next (schemas doc) k p) (marks_after name_marks (schemas doc k) names (written_before (schemas doc) k) schemas_in w.schemas);
      }

  -- where the node writes nothing
  pub nothing_written : 12 < kind_at doc k → (0 ≡ repeat_number doc k) × Written doc (k + 1) seen names
  unfolding unmarked marked distinct
  nothing_written b =
      let z : kind_at doc k ≡ 11 → ⊥ = λ e. omega arith in (
        rw (repeat_eq, no_globals doc k b, no_schemas doc k b, no_parameters doc k b, ← (no_decl doc (parent doc k) k z)),
        subst (λ g. Written doc (k + 1) (marked g seen) names) (no_globals doc k b)
            (subst (λ g. Written doc (k + 1) (marked (globals doc k) seen) (marked g names)) (no_schemas doc k b) written_on),
      )

-- before the first node
pub written_none : (doc : List ℕ) → Written doc 1 (replicate (identifier_marks / bits) 0) (replicate (name_marks / bits) 0)
unfolding joined
written_none doc = record { globals = no_marks (identifier_marks / bits); schemas = no_marks (name_marks / bits) }
