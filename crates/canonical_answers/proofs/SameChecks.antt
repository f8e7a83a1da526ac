-- THE CHECK OF TWO DOCUMENTS WITH THE SAME TREE: the same dictionary, or the same number at corresponding nodes.
use mathlib.Core.Path.{◌≡◌, refl, ap, sym, ◌∙◌, subst}
use mathlib.Core.Bool.{Bool, true, false, cond, false≢true}
use mathlib.Core.List.{List, map}
use Prim.Native.Nat.{ℕ, suc, ◌+◌, ◌≤◌}
use native.Mathlib.Omega.{arith}
use lib.Dec.{ltb, eqb}
use lib.ListN.{length, length-map}
use borrow.Author.Tests.{ltb-true, ltb-false}
use Rattle.words.specs.Loops.{has}
use Rattle.reader_rules.specs.Reading.{read_of}
use Rattle.reader_rules.specs.Refusals.{Readable}
use Rattle.reader_rules.specs.Tree.{Document, document, Paragraph}
use Rattle.reader_rules.specs.TreeNumbers.{paragraphs_numbers, node_numbers}
use Rattle.reader_rules.specs.Decode.{tree_of}
use Rattle.checker_rules.specs.Dictionary.{Dictionary, blank}
use Rattle.checker_rules.specs.Check.{Answer, accepted, refused, check_paragraphs, paragraphs_of, after_reading, check_work_words, check_of}
use Rattle.canonical_rules.specs.MapNodes.{map_paragraphs, map_nodes, Same, SameParagraphs}
use Rattle.canonical_answers.specs.MapAnswers.{map_answer}
use Rattle.canonical_rules.specs.Numbered.{number_paragraphs}
use Rattle.canonical_rules.specs.Positions.{index_of, Distinct, carry, InjectiveOn, corresponding}
use Rattle.reader_rules.proofs.Sized.{SizedParagraphs}
use Rattle.checker_rules.proofs.ScopeUnknowns.{FewRecorded}
use Rattle.checker_rules.proofs.SizedTree.{tree_sized}
use Rattle.canonical_rules.proofs.Renumbered.{paragraphs_numbers_lem, paragraphs_forget, place_paragraphs, place_document}
use Rattle.canonical_rules.proofs.Positions.{to_place, from_place, place_out, place_back, places, carried, carry_out, carry_of, distinct_map, index_has}
use Rattle.canonical_answers.proofs.SizedMaps.{paragraphs_sized}
use Rattle.canonical_answers.proofs.CheckMaps.{check_maps}
use Rattle.canonical_rules.proofs.SameTrees.{same_length, same_numbered, readable_distinct, no_zero}

answer_twice : (f g : ℕ → ℕ) (a : Answer) → map_answer g (map_answer f a) ≡ map_answer (λ n. g (f n)) a
unfolding map_answer
answer_twice f g (accepted D) = refl
answer_twice f g (refused e m) = refl

answer_stays : (f : ℕ → ℕ) (a : Answer) → ((n : ℕ) → f n ≡ n) → map_answer f a ≡ a
unfolding map_answer
answer_stays f (accepted D) h = refl
answer_stays f (refused e m) h = ap (refused e) (h m)

answer_same : (f g : ℕ → ℕ) (a : Answer) → ((e m : ℕ) → a ≡ refused e m → f m ≡ g m) → map_answer f a ≡ map_answer g a
unfolding map_answer
answer_same f g (accepted D) h = refl
answer_same f g (refused e m) h = ap (refused e) (h e m refl)

-- Paragraphs that are the same once their numbers are places in l and in k.
module _ (l k : List ℕ) (ps qs : List Paragraph) (s : SizedParagraphs ps) (r : SizedParagraphs qs) (q : length l ≡ length k)
    (e : map_paragraphs (to_place 0 l) ps ≡ map_paragraphs (to_place 0 k) qs) (D : Dictionary) (few : FewRecorded D) (d : ℕ) where
  pub placed_check : check_paragraphs qs D d ≡ map_answer (carry l k) (check_paragraphs ps D d)
  placed_check =
      let a = check_paragraphs ps D d in
      let b = check_paragraphs qs D d in
      let x : map_answer (to_place 0 k) b ≡ map_answer (to_place 0 l) a =
      sym (check_maps (to_place 0 k) (from_place 0 k) (place_back 0 k) d qs D r few)
      ∙ ap (λ z. check_paragraphs z D d) (sym e)
      ∙ check_maps (to_place 0 l) (from_place 0 l) (place_back 0 l) d ps D s few
      in
      sym (answer_stays (λ n. from_place 0 k (to_place 0 k n)) b (place_back 0 k))
      ∙ sym (answer_twice (to_place 0 k) (from_place 0 k) b)
      ∙ ap (map_answer (from_place 0 k)) x
      ∙ answer_twice (to_place 0 l) (from_place 0 k) a
      ∙ answer_same (λ n. from_place 0 k (to_place 0 l n)) (carry l k) a (λ f m p. carried 0 l k q m)

refused_place : (a b c d : ℕ) → refused a b ≡ refused c d → b ≡ d
refused_place a b c d e = cc

module _ (ps : List Paragraph) (s : SizedParagraphs ps) (u : Distinct (paragraphs_numbers ps)) (D : Dictionary) (few : FewRecorded D) (d : ℕ) where
  -- A REFUSAL'S PLACE IS A NODE of the paragraphs: renumbering the rest otherwise leaves the tree, and so the place.
  pub place_node : (e m : ℕ) → check_paragraphs ps D d ≡ refused e m → has m (paragraphs_numbers ps) ≡ true
  unfolding map_answer
  place_node e m h =
      let l = paragraphs_numbers ps in
      let one : (c : ℕ) → map_answer (to_place c l) (check_paragraphs ps D d) ≡ check_paragraphs (number_paragraphs ps 1) D d =
      λ c. sym (check_maps (to_place c l) (from_place c l) (place_back c l) d ps D s few) ∙ ap (λ z. check_paragraphs z D d) (place_paragraphs (to_place c l) ps 1 (places c l u))
      in
      let x : refused e (to_place 0 l m) ≡ refused e (to_place 1 l m) = subst (λ a. map_answer (to_place 0 l) a ≡ map_answer (to_place 1 l) a) h (one 0 ∙ sym (one 1)) in
      go (ltb (index_of m l) (length l)) refl (refused_place e (to_place 0 l m) e (to_place 1 l m) x)
    where
      go : (b : Bool) → (let l = paragraphs_numbers ps in ltb (index_of m l) (length l) ≡ b → to_place 0 l m ≡ to_place 1 l m → has m l ≡ true)
      go true t z = index_has (paragraphs_numbers ps) m (ltb-true _ _ t)
      go false t z =
          let l = paragraphs_numbers ps in
          let o = ltb-false _ _ t in
          let w : suc (0 + (length l + m)) ≡ suc (1 + (length l + m)) = sym (place_out 0 l m o) ∙ z ∙ place_out 1 l m o in
          absurd (omega arith)

  -- For every function that is injective on the nodes.
  pub injective_check : (f : ℕ → ℕ) → InjectiveOn (paragraphs_numbers ps) f → check_paragraphs (map_paragraphs f ps) D d ≡ map_answer f (check_paragraphs ps D d)
  injective_check f j =
      let l = paragraphs_numbers ps in
      let k = paragraphs_numbers (map_paragraphs f ps) in
      let n : k ≡ map f l = paragraphs_numbers_lem f ps in
      let v : Distinct k = subst Distinct (sym n) (distinct_map f l u j) in
      let e : map_paragraphs (to_place 0 l) ps ≡ map_paragraphs (to_place 0 k) (map_paragraphs f ps) =
      place_paragraphs (to_place 0 l) ps 1 (places 0 l u)
      ∙ sym (paragraphs_forget f ps 1 1 refl)
      ∙ sym (place_paragraphs (to_place 0 k) (map_paragraphs f ps) 1 (places 0 k v))
      in
      placed_check l k ps (map_paragraphs f ps) s (paragraphs_sized f ps s) (sym (ap length n ∙ length-map l f)) e D few d
      ∙ answer_same (carry l k) f (check_paragraphs ps D d)
      (λ g m h. ap (λ z. carry l z m) n ∙ carry_of f l m (place_node g m h))

-- Two lists of paragraphs that are the same.
module _ (ps qs : List Paragraph) (s : SizedParagraphs ps) (r : SizedParagraphs qs) (u : Distinct (paragraphs_numbers ps)) (v : Distinct (paragraphs_numbers qs))
    (same : SameParagraphs ps qs) (D : Dictionary) (few : FewRecorded D) (d : ℕ) where
  pub same_check : check_paragraphs qs D d ≡ map_answer (carry (paragraphs_numbers ps) (paragraphs_numbers qs)) (check_paragraphs ps D d)
  same_check =
      let l = paragraphs_numbers ps in
      let k = paragraphs_numbers qs in
      let zero : ℕ → ℕ = λ n. 0 in
      let n : length l ≡ length k = sym (length-map l zero) ∙ ap length (sym (paragraphs_numbers_lem zero ps) ∙ ap paragraphs_numbers same ∙ paragraphs_numbers_lem zero qs) ∙ length-map k zero in
      placed_check l k ps qs s r n
      (place_paragraphs (to_place 0 l) ps 1 (places 0 l u)
      ∙ sym (paragraphs_forget zero ps 1 1 refl)
      ∙ ap (λ z. number_paragraphs z 1) same
      ∙ paragraphs_forget zero qs 1 1 refl
      ∙ sym (place_paragraphs (to_place 0 k) qs 1 (places 0 k v)))
      D few d

-- READABLE DOCUMENTS.
mapped_paragraphs : (f : ℕ → ℕ) (t : Document) → paragraphs_of (map_nodes f t) ≡ map_paragraphs f (paragraphs_of t)
unfolding map_nodes paragraphs_of
mapped_paragraphs f (document n ps) = refl

module _ (doc dup : List ℕ) (read : read_of doc ≡ Readable) (reread : read_of dup ≡ Readable) (same : Same (tree_of doc) (tree_of dup)) where
  pub zero_stays : corresponding doc dup 0 ≡ 0
  unfolding corresponding
  zero_stays = carry_out (node_numbers (tree_of doc)) (node_numbers (tree_of dup)) 0 (go (ltb (index_of 0 (node_numbers (tree_of doc))) (length (node_numbers (tree_of doc)))) refl)
    where
      go : (b : Bool) → (let l = node_numbers (tree_of doc) in ltb (index_of 0 l) (length l) ≡ b → length l ≤ index_of 0 l)
      go true e = absurd (false≢true (sym (no_zero doc read) ∙ index_has (node_numbers (tree_of doc)) 0 (ltb-true _ _ e)))
      go false e = ltb-false _ _ e

  paragraphs_check : (d : ℕ) → check_paragraphs (paragraphs_of (tree_of dup)) blank d ≡ map_answer (corresponding doc dup) (check_paragraphs (paragraphs_of (tree_of doc)) blank d)
  unfolding corresponding
  paragraphs_check d =
      let t = tree_of doc in
      let u = tree_of dup in
      let l = node_numbers t in
      let k = node_numbers u in
      placed_check l k (paragraphs_of t) (paragraphs_of u) (tree_sized doc read) (tree_sized dup reread) (same_length t u same)
      (sym (mapped_paragraphs (to_place 0 l) t)
      ∙ ap paragraphs_of
      (place_document (to_place 0 l) t (places 0 l (readable_distinct doc read))
      ∙ same_numbered t u same
      ∙ sym (place_document (to_place 0 k) u (places 0 k (readable_distinct dup reread))))
      ∙ mapped_paragraphs (to_place 0 k) u)
      blank (unfold FewRecorded in tt) d

  area_answers : (b c : Bool) (x y : Answer) → y ≡ map_answer (corresponding doc dup) x → cond b (refused 21 0) (cond c (refused 22 0) y) ≡ map_answer (corresponding doc dup) (cond b (refused 21 0) (cond c (refused 22 0) x))
  unfolding map_answer
  area_answers true c x y e = ap (refused 21) (sym zero_stays)
  area_answers false true x y e = ap (refused 22) (sym zero_stays)
  area_answers false false x y e = e

  -- with areas of the same lengths
  pub checks_agree : (d w : ℕ) → check_of dup d w ≡ map_answer (corresponding doc dup) (check_of doc d w)
  unfolding check_of after_reading
  checks_agree d w =
      rw (read, reread) (area_answers (ltb w check_work_words) (eqb d 0) _ _ (paragraphs_check d))
