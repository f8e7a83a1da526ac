-- The names of a document: that a state gives each a value, which the code finds by the table of the givens.
use mathlib.Core.Path.{◌≡◌, refl, sym, ap, subst, ◌∙◌}
use mathlib.Core.Bool.{Bool, true, false, cond}
use mathlib.Core.List.{List, [], ◌∷◌, ◌++◌}
use Prim.Native.Nat.{ℕ, suc, ◌+◌, ◌*◌, ◌-◌, ◌≤◌, ◌<◌}
use native.Mathlib.Omega.{arith}
use lib.Dec.{eqb}
use lib.ListN.{length, get_or, take, drop}
use borrow.Author.Tests.{eq-eqb, eqb-true}
use Rattle.words.proofs.Loops.{and_left, and_right}
use Rattle.words.proofs.Lists.{drop_next, drop_done}
use Rattle.layout.specs.Layout.{count, laid_out, part}
use Rattle.layout.proofs.Laws.{laid, part_eq}
use Rattle.values.specs.Value.{encode}
use Rattle.values.specs.Givens.{elements}
use Rattle.values.specs.Held.{keep}
use Rattle.reader_rules.specs.Decode.{tree_of}
use Rattle.states_rules.specs.Names.{Name, names_as, document_names}
use Rattle.states_rules.specs.States.{State, state_form, name_at, is_paired, entry_from, value_in}
use Rattle.states.proofs.NameLaws.{document_words_lem}
use Rattle.states.proofs.TableLaws.{mark, positive_at, positive_document, table_mark}
use Rattle.evaluator_rules.specs.Claims.{WellFormedState}
use Rattle.evaluator_rules.specs.Environment.{bind, valued}
use Rattle.evaluator_rules.specs.Paragraphs.{bind_givens}
use Rattle.evaluator_rules.proofs.Decoding.{Words}
use Rattle.evaluator_rules.proofs.StatePlace.{state_well}
use Rattle.evaluator_rules.proofs.StateWords.{state_words}
use Rattle.evaluator_scope.specs.Blocks.{Stored}
use Rattle.evaluator_operations.specs.Worked.{Holds}
use Rattle.evaluator_scope.specs.Named.{Among, here, there, Declares, said, Stated, Extends}
use Rattle.evaluator_scope.proofs.StateValues.{entry_holds, given_holds}

-- ---- an identifier among names
pub among_left : {i : ℕ} (xs ys : List Name) → Among i xs → Among i (xs ++ ys)
among_left [] ys a = elim a [ ]
among_left (x ∷ xs) ys (here e) = here e
among_left (x ∷ xs) ys (there a) = there (among_left xs ys a)

pub among_right : {i : ℕ} (xs ys : List Name) → Among i ys → Among i (xs ++ ys)
among_right [] ys a = a
among_right (x ∷ xs) ys a = there (among_right xs ys a)

pub among_as : {i : ℕ} (b c : Bool) (xs : List ℕ) → Among i (names_as b xs) → Among i (names_as c xs)
unfolding names_as
among_as b c [] a = elim a [ ]
among_as b c (x ∷ xs) (here e) = here e
among_as b c (x ∷ xs) (there a) = there (among_as b c xs a)

entry_among : (ns : List Name) (i k : ℕ) → Among i ns → (k ≤ entry_from ns i k) × (entry_from ns i k < k + length ns)
unfolding entry_from
entry_among [] i k a = elim a [ ]
entry_among (n ∷ ns) i k (here e) = rw (eq-eqb n.identifier i e) (omega arith, omega arith)
entry_among (n ∷ ns) i k (there a) = go (eqb n.identifier i) (entry_among ns i (suc k) a)
  where
    go : (b : Bool) → (suc k ≤ entry_from ns i (suc k)) × (entry_from ns i (suc k) < suc k + length ns)
        → (k ≤ cond b k (entry_from ns i (suc k))) × (cond b k (entry_from ns i (suc k)) < k + suc (length ns))
    go true h = (omega arith, omega arith)
    go false h = (omega (arith, h.0), omega (arith, h.1))

-- ---- the value of a name
module _ (doc state table : List ℕ) (s : Stated doc state table) (i : ℕ) (a : Among i (document_names (tree_of doc))) where
  abbrev ns : List Name
  ns = document_names (tree_of doc)

  abbrev k : ℕ
  k = entry_from ns i 1

  formed : WellFormedState ns state
  formed = (state_well ns state).0 s.formed

  few : length ns ≤ 1024
  unfolding is_paired
  few =
      let p = formed.paired in
      let l = (laid state_form state (and_left (laid_out state_form state) _ p)).few in
      omega (arith, l, eqb-true (count state) (length ns) (and_right (laid_out state_form state) _ p))

  some : 1 ≤ k
  some = (entry_among ns i 1 a).0

  most : k ≤ length ns
  most = omega (arith, (entry_among ns i 1 a).1)

  pub entry_few : k ≤ 1024
  entry_few = omega (arith, most, few)

  marked : get_or table (2 * k) 0 ≡ mark (name_at ns k)
  marked = table_mark ns state (positive_document doc s.read (document_words_lem doc s.read).0) 2048 (omega (arith, few)) table s.pairs k some most

  pub name_plain : Words state → get_or table (2 * k) 0 ≡ 0 → Holds (keep (part state k)) (said doc state i)
  name_plain w z = go (name_at ns k).is_given refl
    where
      go : (b : Bool) → (name_at ns k).is_given ≡ b → Holds (keep (part state k)) (value_in ns state i)
      go true g =
          let m : get_or table (2 * k) 0 ≡ (name_at ns k).identifier = rw g at marked in
          let p = positive_at ns (positive_document doc s.read (document_words_lem doc s.read).0) (k - 1) g in
          absurd (omega (arith, m, z, p))
      go false g = entry_holds ns state i w formed some g _ refl

  pub name_given : Words state → (get_or table (2 * k) 0 ≡ 0 → ⊥) → Holds (keep (encode (elements (get_or table (2 * k) 0) (get_or (part state k) 0 0)))) (said doc state i)
  name_given w z = go (name_at ns k).is_given refl
    where
      go : (b : Bool) → (name_at ns k).is_given ≡ b → Holds (keep (encode (elements (get_or table (2 * k) 0) (get_or (part state k) 0 0)))) (value_in ns state i)
      go true g = let m : get_or table (2 * k) 0 ≡ (name_at ns k).identifier = rw g at marked in rw m (given_holds ns state i w formed some g _ refl)
      go false g = let m : get_or table (2 * k) 0 ≡ 0 = rw g at marked in absurd (z m)

  -- the words of its entry, where it is no given's
  pub name_stored : Words state → get_or table (2 * k) 0 ≡ 0 → Stored (take (get_or state (2 * k) 0) (drop (get_or state (2 * k - 1) 0) state)) (said doc state i)
  name_stored w z = go (name_at ns k).is_given refl
    where
      here : part state k ≡ take (get_or state (2 * k) 0) (drop (get_or state (2 * k - 1) 0) state)
      here = part_eq state k some

      go : (b : Bool) → (name_at ns k).is_given ≡ b → Stored (take (get_or state (2 * k) 0) (drop (get_or state (2 * k - 1) 0) state)) (value_in ns state i)
      go true g =
          let m : get_or table (2 * k) 0 ≡ (name_at ns k).identifier = rw g at marked in
          let p = positive_at ns (positive_document doc s.read (document_words_lem doc s.read).0) (k - 1) g in
          absurd (omega (arith, m, z, p))
      go false g =
          let H = entry_holds ns state i w formed some g _ refl in
          record { words = sym here ∙ sym (state_words ns state i w formed some most g); short = H.short; narrow = H.narrow }

  pub name_entry_lem : Words state → (j at len m : ℕ) → j ≡ k → m ≡ get_or table (2 * j) 0 → m ≡ 0 → at ≡ get_or state (2 * j - 1) 0 → len ≡ get_or state (2 * j) 0 →
      Stored (take len (drop at state)) (said doc state i)
  name_entry_lem w j at len m e f z p q =
      subst (λ (x : ℕ). Stored (take x (drop at state)) (said doc state i)) (sym (q ∙ ap (λ (y : ℕ). get_or state (2 * y) 0) e))
      (subst (λ (x : ℕ). Stored (take (get_or state (2 * k) 0) (drop x state)) (said doc state i)) (sym (p ∙ ap (λ (y : ℕ). get_or state (2 * y - 1) 0) e))
      (name_stored w (ap (λ (y : ℕ). get_or table (2 * y) 0) (sym e) ∙ sym f ∙ z)))

  pub entry_some : 1 ≤ k
  entry_some = some

-- ---- the identifiers among the words x from j on: their blocks
-- the identifiers of the words x, from j on, in blocks from b on
abbrev pub Puts : List ℕ → List ℕ → List ℕ → List ℕ → ℕ → ℕ → State → Type 0
Puts state before after x b j s = Extends state before after b (b + (length x - j)) (bind_givens (drop j x) s)

pub put_none : (state w x : List ℕ) (b j : ℕ) (s : State) → length x ≤ j → Puts state w w x b j s
unfolding bind_givens
put_none state w x b j s h scope g =
    let z : b + (length x - j) ≡ b = omega arith in
    rw (z, drop_done x j h) g

pub put_more : (state w0 w1 w2 x : List ℕ) (b j : ℕ) (s : State) → j < length x → Extends state w0 w1 b (b + 1) (bind (get_or x j 0) (valued (s (get_or x j 0)))) →
    Puts state w1 w2 x (b + 1) (j + 1) s → Puts state w0 w2 x b j s
unfolding bind_givens
put_more state w0 w1 w2 x b j s h p q scope g =
    let z : b + (length x - j) ≡ b + 1 + (length x - (j + 1)) = omega arith in
    rw (z, drop_next x j h) (q (bind (get_or x j 0) (valued (s (get_or x j 0))) scope) (p scope g))

-- the word at j, and those after it
pub declares_here : {doc : List ℕ} (x : List ℕ) (j : ℕ) → j < length x → Declares doc (names_as true (drop j x)) → Among (get_or x j 0) (document_names (tree_of doc))
unfolding names_as
declares_here {doc} x j h d = (rw (drop_next x j h) at d).each (get_or x j 0) (here refl)

pub declares_later : {doc : List ℕ} (x : List ℕ) (j : ℕ) → j < length x → Declares doc (names_as true (drop j x)) → Declares doc (names_as true (drop (j + 1) x))
unfolding names_as
declares_later {doc} x j h d = record { each = λ i a. (rw (drop_next x j h) at d).each i (there a) }
