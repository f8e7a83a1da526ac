-- The tables of uses and parents, filled from zeros, say what they should.
use mathlib.Core.Path.{◌≡◌, refl, sym, ◌∙◌}
use mathlib.Core.Bool.{Bool, true, false, ◌||◌, cond}
use mathlib.Core.List.{List, ◌∷◌}
use Prim.Native.Nat.{ℕ, zero, suc, ◌+◌, ◌-◌, ◌<◌}
use native.Mathlib.Omega.{arith}
use native.Mathlib.Decide.{ℕ_discrete}
use lib.Dec.{eqb}
use lib.ListN.{length, get_or, set, replicate, length-set, length-replicate, get_or-replicate}
use lib.Seq.{get_or-set_same, get_or-set_other}
use borrow.Author.Tests.{eq-eqb, ne_eqb}
use Rattle.words.specs.Loops.{run, joined, has, occurrences}
use Rattle.words.proofs.Lists.{occurrences_append, run_last}
use Rattle.layout.specs.Layout.{count, part}
use Rattle.reader_rules.specs.Kinds.{sort_at, is_node_sort}
use Rattle.reader_rules.specs.Nodes.{nodes_among, children, uses, parent_among, parent}
use Rattle.reader_repeats.specs.Parents.{places, Parents}
use Rattle.reader.specs.Links.{capped, bump, tally_at, tally_node, tally_of, tally, link_at, link_of, link, Used}

-- a number of uses is 1 exactly where the table says so
capped_one : (n : ℕ) → eqb (capped n) 1 ≡ eqb n 1
capped_one zero = refl
capped_one (suc zero) = refl
capped_one (suc (suc n)) = rw (ne_eqb (suc (suc n)) 0 (omega arith), ne_eqb (suc (suc n)) 1 (omega arith))

pub used_one : (doc u : List ℕ) (k m : ℕ) → Used doc u → k < places → m ≡ get_or u k 0 → eqb (uses doc k) 1 ≡ eqb m 1
used_one doc u k m t h e = rw (e, t.at k h) (sym (capped_one (uses doc k)))

-- n uses more, from x
more : ℕ → ℕ → ℕ
more x zero = x
more x (suc n) = more (cond (eqb x 0) 1 2) n

more_add : (x a b : ℕ) → more x (a + b) ≡ more (more x a) b
unfolding more
more_add x zero b = let e : 0 + b ≡ b = omega arith in rw e
more_add x (suc a) b = let e : suc a + b ≡ suc (a + b) = omega arith in rw e (more_add (cond (eqb x 0) 1 2) a b)

more_two : (n : ℕ) → more 2 n ≡ 2
unfolding more
more_two zero = refl
more_two (suc n) = more_two n

more_capped : (n : ℕ) → more 0 n ≡ capped n
unfolding more
more_capped zero = refl
more_capped (suc zero) = refl
more_capped (suc (suc n)) = rw (ne_eqb (suc (suc n)) 0 (omega arith), ne_eqb (suc (suc n)) 1 (omega arith)) (more_two n)

-- what a table has at v after a word is set at y
set_at : (u : List ℕ) (y v a : ℕ) → v < length u → get_or (set u y a) v 0 ≡ cond (eqb y v) a (get_or u v 0)
set_at u y v a h = go (ℕ_discrete y v)
  where
    go : Dec (y ≡ v) → get_or (set u y a) v 0 ≡ cond (eqb y v) a (get_or u v 0)
    go (yes e) = rw (eq-eqb y v e, e) (get_or-set_same u v a 0 h)
    go (no e) = rw (ne_eqb y v e) (get_or-set_other u y v a 0 (λ q. e (sym q)))

-- the table of uses, over the operands of a node
module _ (w : List ℕ) (v : ℕ) where
  tally_length : (i : ℕ) (u : List ℕ) → length (tally_at w i u) ≡ length u
  unfolding tally_at
  tally_length i u = go (is_node_sort (sort_at w i))
    where
      go : (b : Bool) → length (cond b (bump u (get_or w i 0)) u) ≡ length u
      go true = length-set u _ _
      go false = refl

  -- one operand
  bump_at : (u : List ℕ) (y n : ℕ) → v < length u
      → more (get_or (bump u y) v 0) n ≡ more (get_or u v 0) (cond (eqb y v) 1 0 + n)
  unfolding more
  bump_at u y n h = rw (set_at u y v (cond (eqb (get_or u y 0) 0) 1 2) h) (go (ℕ_discrete y v))
    where
      go : Dec (y ≡ v) → more (cond (eqb y v) (cond (eqb (get_or u y 0) 0) 1 2) (get_or u v 0)) n ≡ more (get_or u v 0) (cond (eqb y v) 1 0 + n)
      go (yes e) = let s : 1 + n ≡ suc n = omega arith in rw (e, eq-eqb v v refl, s)
      go (no e) = let s : 0 + n ≡ n = omega arith in rw (ne_eqb y v e, s)

  tally_step : (i m : ℕ) (u : List ℕ) → v < length u
      → more (get_or (tally_at w i u) v 0) (occurrences v (nodes_among w (suc i) m)) ≡ more (get_or u v 0) (occurrences v (nodes_among w i (suc m)))
  unfolding tally_at nodes_among occurrences
  tally_step i m u h = go (is_node_sort (sort_at w i))
    where
      go : (b : Bool) → more (get_or (cond b (bump u (get_or w i 0)) u) v 0) (occurrences v (nodes_among w (suc i) m))
          ≡ more (get_or u v 0) (occurrences v (cond b (get_or w i 0 ∷ nodes_among w (suc i) m) (nodes_among w (suc i) m)))
      go true = bump_at u (get_or w i 0) (occurrences v (nodes_among w (suc i) m)) h
      go false = refl

  tally_run : (i m : ℕ) (u : List ℕ) → v < length u
      → (get_or (run (tally_at w) i m u) v 0 ≡ more (get_or u v 0) (occurrences v (nodes_among w i m))) × (length (run (tally_at w) i m u) ≡ length u)
  unfolding run more occurrences nodes_among
  tally_run i zero u h = (refl, refl)
  tally_run i (suc m) u h =
      let t = tally_run (suc i) m (tally_at w i u) (rw (tally_length i u) h) in
      (t.0 ∙ tally_step i m u h, t.1 ∙ tally_length i u)

-- over all nodes
tally_all : (doc : List ℕ) (v i m : ℕ) (u : List ℕ) → v < length u
    → get_or (run (tally_of doc) i m u) v 0 ≡ more (get_or u v 0) (occurrences v (joined (children doc) i m))
unfolding run more occurrences joined children
tally_all doc v i zero u h = refl
tally_all doc v i (suc m) u h =
    let w = part doc i in
    let t = tally_run w v 1 (length w - 1) u h in
    let l : v < length (tally_node w u) = rw t.1 h in
    tally_all doc v (suc i) m (tally_node w u) l
    ∙ rw (t.0, occurrences_append v (nodes_among w 1 (length w - 1)) (joined (children doc) (suc i) m))
    (sym (more_add (get_or u v 0) (occurrences v (nodes_among w 1 (length w - 1))) (occurrences v (joined (children doc) (suc i) m))))

pub tallied : (doc : List ℕ) → Used doc (tally doc (replicate places 0))
unfolding uses
tallied doc =
    record {
      at = λ k h.
          tally_all doc k 1 (count doc) (replicate places 0) (rw (length-replicate {A = ℕ} places 0) h)
          ∙ rw (get_or-replicate {A = ℕ} places k 0 0 h) (more_capped (occurrences k (joined (children doc) 1 (count doc))));
    }

-- the table of parents, over the operands of node k
module _ (w : List ℕ) (k v : ℕ) where
  link_length : (i : ℕ) (u : List ℕ) → length (link_at w k i u) ≡ length u
  unfolding link_at
  link_length i u = go (is_node_sort (sort_at w i))
    where
      go : (b : Bool) → length (cond b (set u (get_or w i 0) k) u) ≡ length u
      go true = length-set u _ _
      go false = refl

  link_step : (i m : ℕ) (u : List ℕ) → v < length u
      → cond (has v (nodes_among w (suc i) m)) k (get_or (link_at w k i u) v 0) ≡ cond (has v (nodes_among w i (suc m))) k (get_or u v 0)
  unfolding link_at nodes_among has
  link_step i m u h = go (is_node_sort (sort_at w i))
    where
      later : Bool
      later = has v (nodes_among w (suc i) m)

      by : (a b : Bool) → cond b k (cond a k (get_or u v 0)) ≡ cond (a || b) k (get_or u v 0)
      by true true = refl
      by true false = refl
      by false b = refl

      go : (b : Bool) → cond later k (get_or (cond b (set u (get_or w i 0) k) u) v 0)
          ≡ cond (has v (cond b (get_or w i 0 ∷ nodes_among w (suc i) m) (nodes_among w (suc i) m))) k (get_or u v 0)
      go true = rw (set_at u (get_or w i 0) v k h) (by (eqb (get_or w i 0) v) later)
      go false = refl

  link_run : (i m : ℕ) (u : List ℕ) → v < length u
      → (get_or (run (link_at w k) i m u) v 0 ≡ cond (has v (nodes_among w i m)) k (get_or u v 0)) × (length (run (link_at w k) i m u) ≡ length u)
  unfolding run has nodes_among
  link_run i zero u h = (refl, refl)
  link_run i (suc m) u h =
      let t = link_run (suc i) m (link_at w k i u) (rw (link_length i u) h) in
      (t.0 ∙ link_step i m u h, t.1 ∙ link_length i u)

-- over the first m nodes
link_all : (doc : List ℕ) (v m : ℕ) (u : List ℕ) → v < length u → get_or u v 0 ≡ 0
    → (get_or (run (link_of doc) 1 m u) v 0 ≡ parent_among doc v m) × (length (run (link_of doc) 1 m u) ≡ length u)
unfolding run parent_among children
link_all doc v zero u h z = (z, refl)
link_all doc v (suc m) u h z =
    let b = link_all doc v m u h z in
    let before = run (link_of doc) 1 m u in
    let w = part doc (suc m) in
    let e : 1 + m ≡ suc m = omega arith in
    let t = link_run w (suc m) v 1 (length w - 1) before (rw b.1 h) in
    rw (run_last (link_of doc) 1 m u, e) (t.0 ∙ rw b.0, t.1 ∙ b.1)

pub linked : (doc : List ℕ) → count doc < places → Parents doc (link doc (replicate places 0))
unfolding parent
linked doc few =
    record {
      few = few;
      at = λ k h. (link_all doc k (count doc) (replicate places 0) (rw (length-replicate {A = ℕ} places 0) h) (get_or-replicate {A = ℕ} places k 0 0 h)).0;
    }
