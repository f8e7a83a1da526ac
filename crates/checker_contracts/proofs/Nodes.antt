-- Lists of node numbers: whose unknowns are whose, in parts of a list that has each node once.
use borrow.Author.Tests.{eq-eqb}
use mathlib.Core.Path.{◌≡◌, refl, sym, subst, ◌∙◌}
use mathlib.Core.List.{List, [], ◌∷◌, ◌++◌}
use mathlib.Core.Logic.{◌⊎◌, inl, inr, ⊎_elim}
use Prim.Native.Nat.{ℕ, ◌≤◌, ◌<◌}
use native.Mathlib.Omega.{arith}
use Rattle.words.specs.Loops.{occurrences}
use Rattle.words.proofs.Lists.{occurrences_append}
use Rattle.types_rules.specs.Equations.{In}
use Rattle.checker_rules.specs.Unknowns.{slot}
use Rattle.checker_rules.proofs.Slots.{slots_apart}
use Rattle.checker_pieces.specs.Stage.{SlotOf}
use Rattle.checker_contracts.specs.Visits.{Owned, Fresh, EachOnce}

-- In a list that is appended.
pub in_left : (x : ℕ) (l m : List ℕ) → In x l → In x (l ++ m)
in_left x [] m i = absurd i
in_left x (y ∷ l) m (inl e) = inl e
in_left x (y ∷ l) m (inr i) = inr (in_left x l m i)

pub in_right : (x : ℕ) (l m : List ℕ) → In x m → In x (l ++ m)
in_right x [] m i = i
in_right x (y ∷ l) m i = inr (in_right x l m i)

pub in_parts : (x : ℕ) (l m : List ℕ) → In x (l ++ m) → In x l ⊎ In x m
in_parts x [] m i = inr i
in_parts x (y ∷ l) m (inl e) = inl (inl e)
in_parts x (y ∷ l) m (inr i) = ⊎_elim (λ z. inl (inr z)) inr (in_parts x l m i)

-- What stands in a list occurs there.
pub in_occurs : (x : ℕ) (l : List ℕ) → In x l → 1 ≤ occurrences x l
unfolding occurrences
in_occurs x [] i = absurd i
in_occurs x (y ∷ l) (inl e) = rw (eq-eqb y x (sym e)) (omega arith)
in_occurs x (y ∷ l) (inr i) = let h = in_occurs x l i in omega arith

-- EACH ONCE.
pub once_left : (l m : List ℕ) → EachOnce (l ++ m) → EachOnce l
once_left l m o j = let a = o j in let e = occurrences_append j l m in omega arith

pub once_right : (l m : List ℕ) → EachOnce (l ++ m) → EachOnce m
once_right l m o j = let a = o j in let e = occurrences_append j l m in omega arith

-- The two parts have no node in common.
pub once_apart : (l m : List ℕ) → EachOnce (l ++ m) → (x : ℕ) → In x l → In x m → ⊥
once_apart l m o x i j =
    let a = o x in
    let e = occurrences_append x l m in
    let p = in_occurs x l i in
    let q = in_occurs x m j in
    omega arith

-- OWNED.
pub owned_left : (l m : List ℕ) (x : ℕ) → Owned l x → Owned (l ++ m) x
owned_left l m x o = (o.0, in_left o.0 l m o.1, o.2)

pub owned_right : (l m : List ℕ) (x : ℕ) → Owned m x → Owned (l ++ m) x
owned_right l m x o = (o.0, in_right o.0 l m o.1, o.2)

pub owned_node : (k x : ℕ) → SlotOf k x → Owned (k ∷ []) x
owned_node k x s = (k, inl refl, s)

-- An unknown of one node of the list.
pub owned_in : (k : ℕ) (l : List ℕ) → In k l → (x : ℕ) → SlotOf k x → Owned l x
owned_in k l i x s = (k, i, s)

-- Unknowns of different nodes differ.
pub slots_same : (k m x : ℕ) → SlotOf k x → SlotOf m x → k ≡ m
slots_same k m x a b = (slots_apart k a.0 m b.0 a.1 b.1 (sym a.2 ∙ b.2)).0

pub owned_apart : (l m : List ℕ) → EachOnce (l ++ m) → (x : ℕ) → Owned l x → Owned m x → ⊥
owned_apart l m o x a b = once_apart l m o b.0 (subst (λ z. In z l) (slots_same a.0 b.0 x a.2 b.2) a.1) b.1

-- FRESH.
pub fresh_left : (l m U : List ℕ) → Fresh (l ++ m) U → Fresh l U
fresh_left l m U f x o = f x (owned_left l m x o)

pub fresh_right : (l m U : List ℕ) → Fresh (l ++ m) U → Fresh m U
fresh_right l m U f x o = f x (owned_right l m x o)

-- After the unknowns of the first part came in, those of the second are fresh.
pub fresh_after : (l m U U' : List ℕ) → EachOnce (l ++ m) → Fresh (l ++ m) U → ((x : ℕ) → In x U' → In x U ⊎ Owned l x) → Fresh m U'
fresh_after l m U U' o f new x q i = ⊎_elim (λ z. f x (owned_right l m x q) z) (λ z. owned_apart l m o x z q) (new x i)

-- A node of fresh nodes is not visited yet.
pub unvisited : (l U : List ℕ) → Fresh l U → (k : ℕ) → In k l → (j : ℕ) → j < 8 → In (slot k j) U → ⊥
unvisited l U f k i j p q = f (slot k j) (k, i, (j, p, refl)) q

pub last_in : (l : List ℕ) (k : ℕ) → In k (l ++ (k ∷ []))
last_in l k = in_right k l (k ∷ []) (inl refl)
