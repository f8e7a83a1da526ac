-- Well-formed signatures: formed terms, and identifiers ascending.
use mathlib.Core.Path.{◌≡◌, refl, ap, sym}
use mathlib.Core.Bool.{Bool, true, false, cond}
use mathlib.Core.List.{List, [], ◌∷◌}
use Prim.Native.Nat.{ℕ, suc, ◌≤◌, ◌<◌}
use native.Mathlib.Omega.{arith}
use lib.Dec.{ltb, eqb}
use lib.ListN.{length}
use borrow.Author.Tests.{eqb-false, ltb-true, ltb-false}
use Rattle.types_rules.specs.Former.{Former, int, given, parameter, power, product, binding, identifiers}
use Rattle.types_rules.specs.Types.{Term, unknown, con, Terms, nil, cons}
use Rattle.types_rules.specs.Formed.{part_count, Formed, Formeds, Ascending, Arity}
use Rattle.checker_rules.specs.Strokes.{decorate}
use Rattle.checker_rules.specs.Unknowns.{unknown_at}
use Rattle.checker_rules.specs.Signatures.{Signature, no_names, naming, names_of, terms_of, binding_of, with_names, components_of}
use Rattle.checker_rules.specs.Signatures.{insert_name, merge, declare, stroke_all, renamed, rename_all}
use Rattle.checker_rules.proofs.SignatureTerms.{Having, declare_having}

abbrev pub FormedTerms : Signature → Type 0
FormedTerms s = Having (Formed Arity) s

pub declare_formed : (xs : List ℕ) (n : ℕ) (r : Signature) → FormedTerms r → FormedTerms (declare xs (unknown_at n 0) r)
unfolding Formed
declare_formed xs n r k = declare_having (Formed Arity) xs (unknown_at n 0) r tt k

pub with_names_formed : (is : List ℕ) (ts : Terms) → Formeds Arity ts → FormedTerms (with_names is ts)
unfolding with_names Formed
with_names_formed [] ts h = tt
with_names_formed (i ∷ is) nil h = tt
with_names_formed (i ∷ is) (cons t ts) h = (h.0, with_names_formed is ts h.1)

pub components_formed : (t : Term) → Formed Arity t → FormedTerms (components_of t)
unfolding components_of Formed
components_formed (unknown x) h = tt
components_formed (con k ts) h = with_names_formed (identifiers k) ts h.1

pub terms_count : (s : Signature) → part_count (terms_of s) ≡ length (names_of s)
unfolding terms_of names_of
terms_count no_names = refl
terms_count (naming i t s) = ap suc (terms_count s)

pub terms_formed : (s : Signature) → FormedTerms s → Formeds Arity (terms_of s)
unfolding terms_of Formed
terms_formed no_names h = tt
terms_formed (naming i t s) h = (h.0, terms_formed s h.1)

-- Identifiers ascending.
abbrev pub Rising : Signature → Type 0
Rising s = Ascending (names_of s)

apart : (i j : ℕ) → eqb i j ≡ false → ltb i j ≡ false → j < i
apart i j e l = go (ltb-false i j l) (eqb-false i j e)
  where
    go : j ≤ i → (i ≡ j → ⊥) → j < i
    go h k = below (ltb j i) refl
      where
        below : (b : Bool) → ltb j i ≡ b → j < i
        below true q = ltb-true j i q
        below false q = absurd (k (let m : i ≤ j = ltb-false j i q in omega (arith, h, m)))

-- after j, an identifier more
after_rising : (j i : ℕ) (t : Term) (s : Signature) → j < i → Ascending (j ∷ names_of s) → Ascending (j ∷ names_of (insert_name i t s))
unfolding insert_name names_of
after_rising j i t no_names l h = (l, tt)
after_rising j i t (naming k u s) l h = go (λ q. after_rising k i t s q h.1) (eqb i k) refl (ltb i k) refl
  where
    go : (k < i → Ascending (k ∷ names_of (insert_name i t s))) → (a : Bool) → eqb i k ≡ a → (b : Bool) → ltb i k ≡ b
        → Ascending (j ∷ names_of (cond a (naming k u s) (cond b (naming i t (naming k u s)) (naming k u (insert_name i t s)))))
    go f true e b q = h
    go f false e true q = (l, (ltb-true i k q, h.1))
    go f false e false q = (h.0, f (apart i k e q))

pub insert_rising : (i : ℕ) (t : Term) (s : Signature) → Rising s → Rising (insert_name i t s)
unfolding insert_name names_of
insert_rising i t no_names h = tt
insert_rising i t (naming k u s) h = go (eqb i k) refl (ltb i k) refl
  where
    go : (a : Bool) → eqb i k ≡ a → (b : Bool) → ltb i k ≡ b → Rising (cond a (naming k u s) (cond b (naming i t (naming k u s)) (naming k u (insert_name i t s))))
    go true e b q = h
    go false e true q = (ltb-true i k q, h)
    go false e false q = after_rising k i t s (apart i k e q) h

pub merge_rising : (s r : Signature) → Rising r → Rising (merge s r)
unfolding merge
merge_rising no_names r h = h
merge_rising (naming i t s) r h = merge_rising s (insert_name i t r) (insert_rising i t r h)

pub declare_rising : (is : List ℕ) (t : Term) (r : Signature) → Rising r → Rising (declare is t r)
unfolding declare
declare_rising [] t r h = h
declare_rising (i ∷ is) t r h = declare_rising is t (insert_name i t r) (insert_rising i t r h)

pub stroke_rising : (k : ℕ) (s : Signature) → Rising s → Rising (stroke_all k s)
unfolding stroke_all names_of decorate
stroke_rising k no_names h = tt
stroke_rising k (naming i t no_names) h = tt
stroke_rising k (naming i t (naming j u s)) h = (omega (arith, h.0), stroke_rising k (naming j u s) h.1)

pub rename_rising : (rs : List (ℕ × ℕ)) (s : Signature) → Rising (rename_all rs s)
unfolding rename_all names_of
rename_rising rs no_names = tt
rename_rising rs (naming i t s) = insert_rising (renamed rs i) t (rename_all rs s) (rename_rising rs s)

with_names_rising : (is : List ℕ) (ts : Terms) → Ascending is → Rising (with_names is ts)
unfolding with_names names_of
with_names_rising [] ts h = tt
with_names_rising (i ∷ is) nil h = tt
with_names_rising (i ∷ []) (cons t ts) h = tt
with_names_rising (i ∷ (j ∷ is)) (cons t nil) h = tt
with_names_rising (i ∷ (j ∷ is)) (cons t (cons u ts)) h = (h.0, with_names_rising (j ∷ is) (cons u ts) h.1)

identifiers_rising : (h : Former) (n : ℕ) → Arity h n → Ascending (identifiers h)
unfolding Arity identifiers
identifiers_rising int n a = tt
identifiers_rising (given g) n a = tt
identifiers_rising (parameter i) n a = tt
identifiers_rising power n a = tt
identifiers_rising product n a = tt
identifiers_rising (binding l) n a = a.1

pub components_rising : (t : Term) → Formed Arity t → Rising (components_of t)
unfolding components_of Formed names_of
components_rising (unknown x) h = tt
components_rising (con k ts) h = with_names_rising (identifiers k) ts (identifiers_rising k (part_count ts) h.0)

pub binding_formed : (s : Signature) → FormedTerms s → Rising s → Formed Arity (binding_of s)
unfolding binding_of Formed Arity
binding_formed s h r = ((sym (terms_count s), r), terms_formed s h)
