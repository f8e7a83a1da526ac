-- FINDING 36'S SECOND CASE IS WHAT DOCUMENT 01 SAYS. The rules ask whether an identifier is global already. Document 01 adds "an Axiom's Include bringing at
-- least one"; in a readable document the two are the same, at every node of every paragraph that makes an identifier global.
use mathlib.Core.Path.{◌≡◌, refl, ap, subst}
use mathlib.Core.Bool.{Bool, true, false, ◌||◌}
use mathlib.Core.List.{List, [], ◌∷◌, ◌++◌}
use mathlib.Core.Logic.{◌↔◌, ◌⊎◌, inl, inr}
use Prim.Native.Nat.{ℕ}
use lib.Dec.{eqb}
use borrow.Author.Tests.{eq-eqb, eqb-true}
use Rattle.words.specs.Loops.{has}
use Rattle.reader_rules.specs.Reading.{read_of}
use Rattle.reader_rules.specs.Tree.{Paragraph}
use Rattle.reader_rules.specs.Decode.{tree_of}
use Rattle.types_rules.proofs.Terms.{bool_no}
use Rattle.checker_rules.specs.Items.{And, Passes, Typings}
use Rattle.checker_rules.specs.Dictionary.{Dictionary, blank, Named, unnamed, of_local, of_global, name_in}
use Rattle.checker_rules.specs.Conditions.{new_name, new_names}
use Rattle.checker_rules.specs.Globals.{Way, written, included, Declares, History, paragraphs_in, dictionary_from, Earlier, is_named, is_global}
use Rattle.checker_rules.specs.Check.{paragraphs_of}
use Rattle.checker_rules.proofs.GlobalNames.{or_side, global_from, global_to}
use Rattle.checker_rules.proofs.WrittenOnce.{written_once}
use Rattle.reader_rules.specs.Refusals.{Readable}

-- i, which is made global here in the way w, is global by an earlier paragraph too, an Axiom's Include bringing at least one of the two
abbrev pub TwiceGlobal : History → ℕ → Way → Type 0
TwiceGlobal before i w = (v : Way) × Earlier before blank i v × ((w ≡ included) ⊎ (v ≡ included))

pub second_case : (doc : List ℕ) → read_of doc ≡ Readable → (before : History) (p : Paragraph) (after : List Paragraph)
    → paragraphs_of (tree_of doc) ≡ paragraphs_in before ++ (p ∷ after)
    → (m i : ℕ) (w : Way) → Declares p (dictionary_from before blank) m i w
    → (is_global i (dictionary_from before blank) ≡ true) ↔ TwiceGlobal before i w
second_case doc r before p after e m i w h = (λ g. to (global_from before blank i g), λ t. global_to before blank i t.0 t.1)
  where
    none_yet : is_global i blank ≡ true → ⊥
    none_yet q = unfold name_in is_named in bool_no false q refl

    earlier : (w v : Way) → Declares p (dictionary_from before blank) m i w → Earlier before blank i v → (w ≡ included) ⊎ (v ≡ included)
    earlier included v d k = inl refl
    earlier written included d k = inr refl
    earlier written written d k = absurd (written_once doc r before p after e (dictionary_from before blank) blank m i d k)

    to : ((v : Way) × Earlier before blank i v) ⊎ (is_global i blank ≡ true) → TwiceGlobal before i w
    to (inl k) = (k.0, k.1, earlier w k.0 h k.1)
    to (inr q) = absurd (none_yet q)

-- And that is the test of the rules: 36 is given at n exactly where one of the identifiers is global already.
pub new_names_lem : (n : ℕ) (is : List ℕ) (D : Dictionary) (P : Typings) → Passes (new_names n is D) P ↔ ((i : ℕ) → has i is ≡ true → is_global i D ≡ false)
unfolding new_names Passes has
new_names_lem n [] D P = (λ h i q. absurd (bool_no false q refl), λ h. tt)
new_names_lem n (j ∷ is) D P =
    let r = new_names_lem n is D (And P (new_name n (name_in j D))) in
    (λ h i q. to i h.0 (λ k. r.0 h.1 i k) (or_side (eqb j i) (has i is) q), λ h. (from (name_in j D) (h j (first j is)), r.1 (λ i q. h i (rest j i is q))))
  where
    first : (j : ℕ) (is : List ℕ) → (eqb j j || has j is) ≡ true
    first j is = ap (λ (b : Bool). b || has j is) (eq-eqb j j refl)

    rest : (j i : ℕ) (is : List ℕ) → has i is ≡ true → (eqb j i || has i is) ≡ true
    rest j i is q = go (eqb j i)
      where
        go : (b : Bool) → (b || has i is) ≡ true
        go true = refl
        go false = q

    passed : (m : Named) → Passes (new_name n m) P → is_named m ≡ false
    passed unnamed h = unfold is_named in refl
    passed (of_local t) h = absurd (unfold new_name Passes in h)
    passed (of_global p g) h = absurd (unfold new_name Passes in h)

    from : (m : Named) → is_named m ≡ false → Passes (new_name n m) P
    from unnamed h = unfold new_name Passes in tt
    from (of_local t) h = absurd (unfold is_named in bool_no true refl h)
    from (of_global p g) h = absurd (unfold is_named in bool_no true refl h)

    to : (i : ℕ) → Passes (new_name n (name_in j D)) P → (has i is ≡ true → is_global i D ≡ false) → (eqb j i ≡ true) ⊎ (has i is ≡ true) → is_global i D ≡ false
    to i h k (inl q) = subst (λ (x : ℕ). is_global x D ≡ false) (eqb-true j i q) (passed (name_in j D) h)
    to i h k (inr q) = k q

-- So, for the identifiers that the paragraph p makes global at its node m, the rule passes exactly where document 01's second case does not hold of any.
pub second_case_rule : (doc : List ℕ) → read_of doc ≡ Readable → (before : History) (p : Paragraph) (after : List Paragraph)
    → paragraphs_of (tree_of doc) ≡ paragraphs_in before ++ (p ∷ after)
    → (m : ℕ) (w : Way) (is : List ℕ) → ((i : ℕ) → has i is ≡ true → Declares p (dictionary_from before blank) m i w)
    → (P : Typings) → Passes (new_names m is (dictionary_from before blank)) P ↔ ((i : ℕ) → has i is ≡ true → TwiceGlobal before i w → ⊥)
second_case_rule doc r before p after e m w is h P =
    let n = new_names_lem m is (dictionary_from before blank) P in (
      λ q i s t. bool_no (is_global i (dictionary_from before blank)) ((second_case doc r before p after e m i w (h i s)).1 t) (n.0 q i s),
      λ f. n.1 (λ i s. go i s f (is_global i (dictionary_from before blank)) refl),
    )
  where
    go : (i : ℕ) → has i is ≡ true → ((i : ℕ) → has i is ≡ true → TwiceGlobal before i w → ⊥) → (b : Bool) → is_global i (dictionary_from before blank) ≡ b → b ≡ false
    go i s f true q = absurd (f i s ((second_case doc r before p after e m i w (h i s)).0 q))
    go i s f false q = refl
