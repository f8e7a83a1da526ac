-- 17 for a Text's identifiers, the nodes below a node, and global names: the sums over all nodes, and over a node and those below it.
use mathlib.Core.Path.{◌≡◌, refl}
use mathlib.Core.Bool.{Bool, true, false, ◌&&◌, ◌||◌, cond, false≢true}
use mathlib.Core.Logic.{◌⊎◌, inl, inr}
use mathlib.Core.List.{List, [], ◌∷◌}
use Prim.Native.Nat.{ℕ, ◌≤◌}
use native.Mathlib.Omega.{arith}
use lib.Dec.{ltb, eqb}
use lib.ListN.{length, length-append}
use borrow.Author.Tests.{eqb-true, eq-eqb, ltb-false}
use Rattle.words.specs.Loops.{has}
use Rattle.words.proofs.Loops.{and_left, and_right}
use Rattle.layout.specs.Layout.{count}
use Rattle.reader_rules.specs.Nodes.{kind_at, parent, ancestors, children}
use Rattle.reader_rules.specs.Repeats.{declared, declared_in, globals}
use Rattle.reader_rules.specs.Limits.{is_closing, below_up_to, any_crowded, declared_up_to}
use Rattle.reader_rules.specs.Below.{flat, numbers_at}
use Rattle.reader_rules.proofs.Accepted.{Document}
use Rattle.reader_rules.proofs.Parents.{child_lower}
use Rattle.reader_rules.proofs.DepthLaws.{ancestors_child}
use Rattle.reader_rules.proofs.WithinLimits.{neither, within_limits}
use Rattle.reader_rules.proofs.Occurrences.{AllIn, all_in_map, sum_of}
use Rattle.reader_rules.proofs.TreeChildren.{numbers_at_lem}
use Rattle.reader_rules.proofs.SumsBelow.{sum_ones, total_capped, all_children, all_below_lem, sum_at, sum_under, sum_all}

module _ (doc : List ℕ) (d : Document doc) where
  abbrev N : ℕ
  N = count doc

  -- 6 identifiers in the Decls of Text t
  pub declared_few : (t : ℕ) → declared_up_to doc t N ≤ 6
  unfolding declared_in
  declared_few t = total_capped (λ j. length (declared_in doc t j)) 6 N (λ k p q. go k (eqb (kind_at doc k) 11 && eqb (parent doc k) t) refl (within_limits doc d k p q).wide)
    where
      go : (k : ℕ) (b : Bool) → (eqb (kind_at doc k) 11 && eqb (parent doc k) t) ≡ b → (kind_at doc k ≡ 11 → declared_up_to doc (parent doc k) k ≤ 6)
          → (length (cond b (declared doc k) []) ≡ 0) ⊎ (declared_up_to doc t k ≤ 6)
      go k false e w = inl refl
      go k true e w = inr (rw (← (eqb-true (parent doc k) t (and_right (eqb (kind_at doc k) 11) _ e))) (w (eqb-true (kind_at doc k) 11 (and_left (eqb (kind_at doc k) 11) _ e))))

  pub declared_under : (t k : ℕ) → 1 ≤ k → k ≤ N → sum_of (λ j. length (declared_in doc t j)) (numbers_at doc k) ≤ 6
  declared_under t k p q = omega (arith, sum_under doc d (λ j. length (declared_in doc t j)) k p q, declared_few t)

  -- 64 identifiers in all
  pub globals_few : sum_of (λ j. length (globals doc j)) (numbers_at doc N) ≤ 64
  globals_few = omega (arith, sum_all doc d (λ j. length (globals doc j)), (within_limits doc d N d.nodes.laid.some (omega arith)).globals)

  -- 24 nodes below a Decl, Include, Abbreviation or node of kind 21 to 23
  not_crowded : (a k : ℕ) (l : List ℕ) → is_closing (kind_at doc a) ≡ true → any_crowded doc k l ≡ false → has a l ≡ true → below_up_to doc a k ≤ 24
  unfolding any_crowded has
  not_crowded a k [] c e h = absurd (false≢true h)
  not_crowded a k (x ∷ xs) c e h =
      let n = neither (is_closing (kind_at doc x) && ltb 24 (below_up_to doc x k)) _ e in
      go (eqb x a) (eqb-true x a) h n.0 (λ g. not_crowded a k xs c n.1 g)
    where
      few : (b : Bool) → b ≡ true → (b && ltb 24 (below_up_to doc a k)) ≡ false → below_up_to doc a k ≤ 24
      few true z f = ltb-false 24 _ f
      few false z f = absurd (false≢true z)

      go : (b : Bool) → (b ≡ true → x ≡ a) → (b || has a xs) ≡ true → (is_closing (kind_at doc x) && ltb 24 (below_up_to doc x k)) ≡ false
          → (has a xs ≡ true → below_up_to doc a k ≤ 24) → below_up_to doc a k ≤ 24
      go true y g f z = few (is_closing (kind_at doc a)) c (rw (y refl) at f)
      go false y g f z = z g

  module _ (a : ℕ) (c : is_closing (kind_at doc a) ≡ true) where
    abbrev mark : ℕ → ℕ
    mark j = cond (has a (ancestors doc j)) 1 0

    below_few : below_up_to doc a N ≤ 24
    below_few = total_capped mark 24 N (λ k p q. go k (has a (ancestors doc k)) refl (not_crowded a k (ancestors doc k) c (within_limits doc d k p q).uncrowded))
      where
        go : (k : ℕ) (b : Bool) → has a (ancestors doc k) ≡ b → (has a (ancestors doc k) ≡ true → below_up_to doc a k ≤ 24) → (◌≡◌ {A = ℕ} (cond b 1 0) 0) ⊎ (below_up_to doc a k ≤ 24)
        go k true e f = inr (f e)
        go k false e f = inl refl

    -- node a lies above all nodes below its operands, and above these
    above_below : 1 ≤ a → a ≤ N → AllIn (λ v. has a (ancestors doc v) ≡ true) (flat (numbers_at doc) (children doc a))
    unfolding has
    above_below p q =
        all_children doc d Under a
        (λ v e.
        let l = child_lower doc d.nodes a v p q e in
        all_below_lem doc d Under step v l.0 (omega arith) (rw (ancestors_child doc d a v p q e, eq-eqb a a refl)))
      where
        Under : ℕ → Type 0
        Under v = has a (ancestors doc v) ≡ true

        later : (b c : Bool) → c ≡ true → (b || c) ≡ true
        later true c e = refl
        later false c e = e

        step : (k v : ℕ) → 1 ≤ k → k ≤ N → has v (children doc k) ≡ true → Under k → Under v
        step k v p q e h = rw (ancestors_child doc d k v p q e) (later (eqb k a) (has a (ancestors doc k)) h)

    pub few_below : 1 ≤ a → a ≤ N → length (numbers_at doc a) ≤ 25
    few_below p q =
        let l = flat (numbers_at doc) (children doc a) in
        let ones = sum_ones mark l (all_in_map (λ v. has a (ancestors doc v) ≡ true) (λ v. mark v ≡ 1) l (λ v e. rw e) (above_below p q)) in
        rw (numbers_at_lem doc a (d.nodes.node a p q)) (omega (arith, length-append l (a ∷ []), ones, sum_at doc d mark a p q, sum_under doc d mark a p q, below_few))
