-- Type words can be read back: no type's words are the beginning of another's. And there are fewer than three for each former.
use Prim.Native.Nat.{ℕ, zero, suc, ◌+◌, ◌*◌, ◌≤◌, ◌<◌}
use lib.ListN.{length, length-append}
use mathlib.Core.List.{List, [], ◌∷◌, ◌++◌, append_assoc}
use mathlib.Core.Path.{◌≡◌, refl, ap, sym, ◌∙◌}
use native.Mathlib.Omega.{arith}
use Rattle.types_rules.specs.Former.{Former, int, given, parameter, power, product, binding, tag, identifiers}
use Rattle.types_rules.specs.Types.{Ty, Tys, node, tnil, tcons, size, sizes}
use Rattle.types_rules.specs.Formed.{part_count_type, FormedType, FormedTypes, Arity, WellFormed}
use Rattle.types_rules.specs.Words.{second, words, part_words, got, and_then, with_word, read_parts, components, add, read_components, binding_of, read_former, read_type}

abbrev Back : ℕ → Type 0
Back f = (g : Ty) → WellFormed g → size g ≤ f → (r : List ℕ) → read_type f (words g ++ r) ≡ got g r

parts_back : (f : ℕ) → Back f → (gs : Tys) → FormedTypes Arity gs → sizes gs ≤ f → (r : List ℕ) → read_parts (λ w. read_type f w) (part_count_type gs) (part_words [] gs ++ r) ≡ got gs r
unfolding read_parts part_words words FormedType size and_then
parts_back f ih tnil w l r = refl
parts_back f ih (tcons g gs) w l r =
    let e : (words g ++ part_words [] gs) ++ r ≡ words g ++ (part_words [] gs ++ r) = append_assoc (words g) (part_words [] gs) r in
    ap (λ z. and_then (read_type f z) (λ g r. and_then (read_parts (λ w. read_type f w) (part_count_type gs) r) (λ gs r'. got (tcons g gs) r'))) e
    ∙ ap (λ z. and_then z (λ g r. and_then (read_parts (λ w. read_type f w) (part_count_type gs) r) (λ gs r'. got (tcons g gs) r'))) (ih g w.0 (omega arith) _)
    ∙ ap (λ z. and_then z (λ gs r'. got (tcons g gs) r')) (parts_back f ih gs w.1 (omega arith) r)

components_back : (f : ℕ) → Back f → (is : List ℕ) (gs : Tys) → length is ≡ part_count_type gs → FormedTypes Arity gs → sizes gs ≤ f → (r : List ℕ) →
    read_components (λ w. read_type f w) (part_count_type gs) (part_words is gs ++ r) ≡ got (components is gs) r
unfolding read_components part_words words FormedType size and_then with_word add
components_back f ih [] tnil q w l r = refl
components_back f ih (i ∷ is) tnil q w l r = absurd (omega arith)
components_back f ih [] (tcons g gs) q w l r = absurd (omega arith)
components_back f ih (i ∷ is) (tcons g gs) q w l r =
    let e : (words g ++ part_words is gs) ++ r ≡ words g ++ (part_words is gs ++ r) = append_assoc (words g) (part_words is gs) r in
    ap (λ z. and_then (read_type f z) (λ g r₁. and_then (read_components (λ w. read_type f w) (part_count_type gs) r₁) (λ c r₂. got (add i g c) r₂))) e
    ∙ ap (λ z. and_then z (λ g r₁. and_then (read_components (λ w. read_type f w) (part_count_type gs) r₁) (λ c r₂. got (add i g c) r₂))) (ih g w.0 (omega arith) _)
    ∙ ap (λ z. and_then z (λ c r₂. got (add i g c) r₂)) (components_back f ih is gs (omega arith) w.1 (omega arith) r)

former_back : (f : ℕ) → Back f → (h : Former) (gs : Tys) → Arity h (part_count_type gs) → FormedTypes Arity gs → sizes gs ≤ f → (r : List ℕ) →
    read_former (tag h) (λ w. read_type f w) ((second h (part_count_type gs) ++ part_words (identifiers h) gs) ++ r) ≡ got (node h gs) r
unfolding read_former tag second part_words words identifiers FormedType size and_then with_word Arity binding_of
former_back f ih int tnil a w l r = refl
former_back f ih int (tcons g gs) a w l r = absurd (omega arith)
former_back f ih (given x) tnil a w l r = refl
former_back f ih (given x) (tcons g gs) a w l r = absurd (omega arith)
former_back f ih (parameter i) tnil a w l r = refl
former_back f ih (parameter i) (tcons g gs) a w l r = absurd (omega arith)
former_back f ih power tnil a w l r = absurd (omega arith)
former_back f ih power (tcons g tnil) a w l r =
    let e : (words g ++ []) ++ r ≡ words g ++ r = append_assoc (words g) [] r in
    ap (λ z. and_then (read_type f z) (λ g r. got (node power (tcons g tnil)) r)) e
    ∙ ap (λ z. and_then z (λ g r. got (node power (tcons g tnil)) r)) (ih g w.0 (omega arith) r)
former_back f ih power (tcons g (tcons x gs)) a w l r = absurd (omega arith)
former_back f ih product gs a w l r = ap (λ z. and_then z (λ gs r'. got (node product gs) r')) (parts_back f ih gs w l r)
former_back f ih (binding is) gs a w l r = ap (λ z. and_then z (λ c r'. got (binding_of c) r')) (components_back f ih is gs a.0 w l r)

read_words : (f : ℕ) → Back f
unfolding read_type words FormedType size with_word
read_words zero (node h gs) w l r = absurd (omega arith)
read_words (suc f) (node h gs) w l r = former_back f (read_words f) h gs w.0 w.1 (omega arith) r

-- TYPE WORDS ARE READ BACK, whatever stands after them.
pub read_back : (g : Ty) → WellFormed g → (f : ℕ) → size g ≤ f → (r : List ℕ) → read_type f (words g ++ r) ≡ got g r
read_back g w f l r = read_words f g w l r

got_0 : (a b : Ty) (r s : List ℕ) → got a r ≡ got b s → a ≡ b
got_0 a b r s q = cc

got_1 : (a b : Ty) (r s : List ℕ) → got a r ≡ got b s → r ≡ s
got_1 a b r s q = cc

-- NO TYPE'S WORDS ARE THE BEGINNING OF ANOTHER'S: where words begin with those of two types, the types are one, and so is what stands after them.
pub words_one : (g k : Ty) → WellFormed g → WellFormed k → (r s : List ℕ) → words g ++ r ≡ words k ++ s → (g ≡ k) × (r ≡ s)
words_one g k w v r s e =
    let f : ℕ = size g + size k in
    let q : got g r ≡ got k s = sym (read_back g w f (omega arith) r) ∙ ap (read_type f) e ∙ read_back k v f (omega arith) s in
    (got_0 g k r s q, got_1 g k r s q)

second_few : (h : Former) (n : ℕ) → length (second h n) ≤ 1
unfolding second
second_few int n = omega arith
second_few (given g) n = omega arith
second_few (parameter i) n = omega arith
second_few power n = omega arith
second_few product n = omega arith
second_few (binding l) n = omega arith

mutual
  unfolding words size

  -- Size 32 is at most 95 words.
  pub words_few : (g : Ty) → length (words g) < 3 * size g
  words_few (node h gs) =
      omega (arith, second_few h (part_count_type gs), parts_few (identifiers h) gs, length-append (second h (part_count_type gs)) (part_words (identifiers h) gs))

  parts_few : (l : List ℕ) (gs : Tys) → length (part_words l gs) ≤ 3 * sizes gs
  parts_few l tnil = omega arith
  parts_few [] (tcons g gs) = omega (arith, words_few g, parts_few [] gs, length-append (words g) (part_words [] gs))
  parts_few (i ∷ l) (tcons g gs) = omega (arith, words_few g, parts_few l gs, length-append (words g) (part_words l gs))
