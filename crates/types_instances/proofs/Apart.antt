-- The words of a well-formed type begin with a word that is not 0, and have no two zeros in a row: a 0 is the last word of a given type, of a parameter or of an empty
-- binding, or the first identifier of a binding, which a tag follows.
use mathlib.Core.Path.{◌≡◌}
use mathlib.Core.List.{List, [], ◌∷◌, ◌++◌}
use mathlib.Core.Logic.{◌⊎◌, inl, inr, ⊎_elim}
use Prim.Native.Nat.{ℕ, zero, suc, ◌<◌}
use native.Mathlib.Omega.{arith}
use lib.ListN.{length, get_or}
use Rattle.types_rules.specs.Former.{Former, int, given, parameter, power, product, binding, tag, identifiers}
use Rattle.types_rules.specs.Types.{Ty, Tys, node, tnil, tcons}
use Rattle.types_rules.specs.Formed.{part_count_type, FormedType, FormedTypes, Ascending, Arity, WellFormed}
use Rattle.types_rules.specs.Words.{second, words, part_words}

-- No two zeros in a row.
abbrev pub Apart : List ℕ → Type 0
Apart [] = Unit {0}
Apart (x ∷ []) = Unit {0}
Apart (x ∷ (y ∷ l)) = ((0 < x) ⊎ (0 < y)) × Apart (y ∷ l)

-- The first word, if there is one, is not 0.
abbrev Begins : List ℕ → Type 0
Begins [] = Unit {0}
Begins (x ∷ l) = 0 < x

apart_cons : (x : ℕ) (l : List ℕ) → Begins l → Apart l → Apart (x ∷ l)
apart_cons x [] b a = tt
apart_cons x (y ∷ l) b a = (inr b, a)

apart_lead : (x : ℕ) (l : List ℕ) → 0 < x → Apart l → Apart (x ∷ l)
apart_lead x [] b a = tt
apart_lead x (y ∷ l) b a = (inl b, a)

apart_append : (l m : List ℕ) → Apart l → Begins m → Apart m → Apart (l ++ m)
apart_append [] m a b c = c
apart_append (x ∷ []) m a b c = apart_cons x m b c
apart_append (x ∷ (y ∷ l)) m a b c = (a.0, apart_append (y ∷ l) m a.1 b c)

tag_some : (h : Former) → 0 < tag h
unfolding tag
tag_some int = omega arith
tag_some (given g) = omega arith
tag_some (parameter i) = omega arith
tag_some power = omega arith
tag_some product = omega arith
tag_some (binding l) = omega arith

words_begin : (g : Ty) (m : List ℕ) → Begins (words g ++ m)
unfolding words
words_begin (node h gs) m = tag_some h

-- Parts begin with a tag, or with an identifier that is greater than another.
parts_begin : (gs : Tys) → Begins (part_words [] gs)
unfolding words
parts_begin tnil = tt
parts_begin (tcons g gs) = words_begin g (part_words [] gs)

rest_begins : (i : ℕ) (l : List ℕ) (gs : Tys) → Ascending (i ∷ l) → Begins (part_words l gs)
unfolding words
rest_begins i [] gs u = parts_begin gs
rest_begins i (j ∷ l) tnil u = tt
rest_begins i (j ∷ l) (tcons g gs) u = let z = u.0 in omega arith

ascending_rest : (i : ℕ) (l : List ℕ) → Ascending (i ∷ l) → Ascending l
ascending_rest i [] u = tt
ascending_rest i (j ∷ l) u = u.1

named_apart : (l : List ℕ) (gs : Tys) → Apart (part_words l gs) → Apart (part_count_type gs ∷ part_words l gs)
unfolding words
named_apart l tnil a = tt
named_apart l (tcons g gs) a = apart_lead (part_count_type (tcons g gs)) (part_words l (tcons g gs)) (omega arith) a

lead_apart : (h : Former) (gs : Tys) → Apart (part_words (identifiers h) gs) → Apart (second h (part_count_type gs) ++ part_words (identifiers h) gs)
unfolding second identifiers
lead_apart int gs a = a
lead_apart (given g) gs a = apart_cons g (part_words [] gs) (parts_begin gs) a
lead_apart (parameter i) gs a = apart_cons i (part_words [] gs) (parts_begin gs) a
lead_apart power gs a = a
lead_apart product gs a = apart_cons (part_count_type gs) (part_words [] gs) (parts_begin gs) a
lead_apart (binding l) gs a = named_apart l gs a

former_ascending : (h : Former) (n : ℕ) → Arity h n → Ascending (identifiers h)
unfolding Arity identifiers
former_ascending int n a = tt
former_ascending (given g) n a = tt
former_ascending (parameter i) n a = tt
former_ascending power n a = tt
former_ascending product n a = tt
former_ascending (binding l) n a = a.1

mutual
  unfolding words FormedType

  pub words_apart : (g : Ty) → WellFormed g → Apart (words g)
  words_apart (node h gs) w =
      apart_lead (tag h) (second h (part_count_type gs) ++ part_words (identifiers h) gs) (tag_some h)
      (lead_apart h gs (parts_apart gs (identifiers h) w.1 (former_ascending h (part_count_type gs) w.0)))

  parts_apart : (gs : Tys) (l : List ℕ) → FormedTypes Arity gs → Ascending l → Apart (part_words l gs)
  parts_apart tnil l w u = tt
  parts_apart (tcons g gs) [] w u = apart_append (words g) (part_words [] gs) (words_apart g w.0) (parts_begin gs) (parts_apart gs [] w.1 tt)
  parts_apart (tcons g gs) (i ∷ l) w u =
      apart_cons i (words g ++ part_words l gs) (words_begin g (part_words l gs))
      (apart_append (words g) (part_words l gs) (words_apart g w.0) (rest_begins i l gs u) (parts_apart gs l w.1 (ascending_rest i l u)))

-- THE FIRST WORD OF A TYPE IS NOT 0.
pub first_word : (g : Ty) → 0 < get_or (words g) 0 0
unfolding words
first_word (node h gs) = tag_some h

apart_at : (l : List ℕ) → Apart l → (j : ℕ) → suc j < length l → get_or l j 0 ≡ 0 → get_or l (suc j) 0 ≡ 0 → ⊥
apart_at [] a j r e f = omega arith
apart_at (x ∷ []) a j r e f = omega arith
apart_at (x ∷ (y ∷ l)) a zero r e f = ⊎_elim (λ z. omega arith) (λ z. omega arith) a.0
apart_at (x ∷ (y ∷ l)) a (suc j) r e f = apart_at (y ∷ l) a.1 j (omega arith) e f

-- A WELL-FORMED TYPE'S WORDS HAVE NO TWO ZEROS IN A ROW.
pub no_zeros : (g : Ty) → WellFormed g → (j : ℕ) → suc j < length (words g) → get_or (words g) j 0 ≡ 0 → get_or (words g) (suc j) 0 ≡ 0 → ⊥
no_zeros g w = apart_at (words g) (words_apart g w)
