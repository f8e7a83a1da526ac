-- How far a recorded type's words reach: `typeLength` finds the end of a well-formed type's words, whatever stands after them.
use mathlib.Core.Path.{◌≡◌, refl, ap, sym, subst, ◌∙◌}
use mathlib.Core.Bool.{Bool, true, false, cond}
use mathlib.Core.List.{List, [], ◌∷◌, ◌++◌, append_assoc}
use Prim.Native.Nat.{ℕ, zero, suc, ◌+◌, ◌≤◌, ◌<◌}
use native.Mathlib.Omega.{arith}
use native.Mathlib.Nat.{add-zero}
use lib.Dec.{leb}
use lib.ListN.{length, get_or, drop, length-append}
use lib.Seq.{drop-drop, drop-append_seam}
use borrow.Author.Tests.{le-leb}
use Rattle.types_rules.specs.Former.{Former, int, given, parameter, power, product, binding, tag, identifiers}
use Rattle.types_rules.specs.Types.{Ty, Tys, node, tnil, tcons, size, sizes}
use Rattle.types_rules.specs.Formed.{part_count_type, FormedType, FormedTypes, Arity, WellFormed}
use Rattle.types_rules.specs.Words.{second, words, part_words}
use Rattle.values.specs.TypeWords.{clip, count_of, former_of, types_end, by_former, type_length}

abbrev pub Reaches : ℕ → Type 0
Reaches d = (g : Ty) → WellFormed g → size g ≤ d → (r : List ℕ) → type_length d (words g ++ r) ≡ length (words g)

clip_within : (n m : ℕ) → n ≤ m → clip n m ≡ n
unfolding clip
clip_within n m h = rw (le-leb n m h)

words_some : (g : Ty) → 1 ≤ length (words g)
unfolding words
words_some (node h gs) = omega arith

-- parts without identifiers, and with them
parts_some : (gs : Tys) → part_count_type gs ≤ length (part_words [] gs)
unfolding words
parts_some tnil = omega arith
parts_some (tcons g gs) = let a = parts_some gs in let b = words_some g in simp length-append (omega arith)

components_some : (l : List ℕ) (gs : Tys) → length l ≡ part_count_type gs → part_count_type gs ≤ length (part_words l gs)
unfolding words
components_some [] tnil e = omega arith
components_some (i ∷ l) tnil e = omega arith
components_some [] (tcons g gs) e = absurd (omega arith)
components_some (i ∷ l) (tcons g gs) e = let a = components_some l gs (omega arith) in let b = words_some g in simp length-append (omega arith)

-- past one type's words
next_at : (ws w r : List ℕ) (at k : ℕ) → drop at ws ≡ w ++ r → k ≡ at + length w → drop k ws ≡ r
next_at ws w r at k e h = ap (λ (n : ℕ). drop n ws) h ∙ sym (drop-drop (length w) at ws) ∙ ap (λ (l : List ℕ). drop (length w) l) e ∙ drop-append_seam w r

parts_end : (d : ℕ) → Reaches d → (ws : List ℕ) (gs : Tys) → FormedTypes Arity gs → sizes gs ≤ d → (r : List ℕ) (at : ℕ) → drop at ws ≡ part_words [] gs ++ r →
    types_end (type_length d) 0 (part_count_type gs) ws at ≡ at + length (part_words [] gs)
unfolding types_end words FormedType size
parts_end d ih ws tnil f l r at e = omega arith
parts_end d ih ws (tcons g gs) f l r at e =
    let here : drop (at + 0) ws ≡ words g ++ (part_words [] gs ++ r) = ap (λ (n : ℕ). drop n ws) (add-zero at) ∙ e ∙ append_assoc (words g) (part_words [] gs) r in
    let n : type_length d (drop (at + 0) ws) ≡ length (words g) = ap (type_length d) here ∙ ih g f.0 (omega arith) (part_words [] gs ++ r) in
    let k = at + 0 + type_length d (drop (at + 0) ws) in
    let after : drop k ws ≡ part_words [] gs ++ r = next_at ws (words g) (part_words [] gs ++ r) (at + 0) k here (omega arith) in
    let rest = parts_end d ih ws gs f.1 (omega arith) r k after in
    let a = length-append (words g) (part_words [] gs) in
    rest ∙ omega arith

components_end : (d : ℕ) → Reaches d → (ws l : List ℕ) (gs : Tys) → length l ≡ part_count_type gs → FormedTypes Arity gs → sizes gs ≤ d → (r : List ℕ) (at : ℕ) → drop at ws ≡ part_words l gs ++ r →
    types_end (type_length d) 1 (part_count_type gs) ws at ≡ at + length (part_words l gs)
unfolding types_end words FormedType size
components_end d ih ws [] tnil q f l r at e = omega arith
components_end d ih ws (i ∷ is) tnil q f l r at e = absurd (omega arith)
components_end d ih ws [] (tcons g gs) q f l r at e = absurd (omega arith)
components_end d ih ws (i ∷ is) (tcons g gs) q f l r at e =
    let first : drop (at + 1) ws ≡ (words g ++ part_words is gs) ++ r = next_at ws (i ∷ []) ((words g ++ part_words is gs) ++ r) at (at + 1) e refl in
    let here : drop (at + 1) ws ≡ words g ++ (part_words is gs ++ r) = first ∙ append_assoc (words g) (part_words is gs) r in
    let n : type_length d (drop (at + 1) ws) ≡ length (words g) = ap (type_length d) here ∙ ih g f.0 (omega arith) (part_words is gs ++ r) in
    let k = at + 1 + type_length d (drop (at + 1) ws) in
    let after : drop k ws ≡ part_words is gs ++ r = next_at ws (words g) (part_words is gs ++ r) (at + 1) k here (omega arith) in
    let rest = components_end d ih ws is gs (omega arith) f.1 (omega arith) r k after in
    let a = length-append (words g) (part_words is gs) in
    rest ∙ omega arith

count_of_lem : (n : ℕ) (ws : List ℕ) → get_or ws 1 0 ≡ n → n ≤ length ws → count_of ws ≡ n
unfolding count_of
count_of_lem n ws e h = rw e (rw (le-leb n (length ws) h))

-- the end of the types of a former, within the words
group_ends : (f : List ℕ → ℕ) (start skip n m : ℕ) (ws : List ℕ) → count_of ws ≡ n → types_end f skip n ws start ≡ m → m ≤ length ws → clip (types_end f skip (count_of ws) ws start) (length ws) ≡ m
group_ends f start skip n m ws e h l = ap (λ (k : ℕ). clip (types_end f skip k ws start) (length ws)) e ∙ ap (λ (k : ℕ). clip k (length ws)) h ∙ clip_within m (length ws) l

former_reaches : (d : ℕ) → Reaches d → (h : Former) (gs : Tys) → Arity h (part_count_type gs) → FormedTypes Arity gs → sizes gs ≤ d → (r : List ℕ) →
    type_length (suc d) (words (node h gs) ++ r) ≡ length (words (node h gs))
unfolding type_length former_of by_former words tag second identifiers Arity FormedType size
former_reaches d ih int tnil a f l r = clip_within 1 _ (omega arith)
former_reaches d ih int (tcons g gs) a f l r = absurd (omega arith)
former_reaches d ih (given x) tnil a f l r = clip_within 2 _ (omega arith)
former_reaches d ih (given x) (tcons g gs) a f l r = absurd (omega arith)
former_reaches d ih (parameter x) tnil a f l r = clip_within 2 _ (omega arith)
former_reaches d ih (parameter x) (tcons g gs) a f l r = absurd (omega arith)
former_reaches d ih power tnil a f l r = absurd (omega arith)
former_reaches d ih power (tcons g tnil) a f l r =
    let ws : List ℕ = 3 ∷ ((words g ++ []) ++ r) in
    let e = parts_end d ih ws (tcons g tnil) f l r 1 refl in
    let b = length-append (words g ++ []) r in
    ap (λ (k : ℕ). clip k (length ws)) e ∙ clip_within _ (length ws) (omega arith) ∙ omega arith
former_reaches d ih power (tcons g (tcons x gs)) a f l r = absurd (omega arith)
former_reaches d ih product gs a f l r =
    let n = part_count_type gs in
    let ws : List ℕ = 4 ∷ n ∷ (part_words [] gs ++ r) in
    let e = parts_end d ih ws gs f l r 2 refl in
    let s = parts_some gs in
    let b = length-append (part_words [] gs) r in
    group_ends (type_length d) 2 0 n (2 + length (part_words [] gs)) ws (count_of_lem n ws refl (omega arith)) e (omega arith) ∙ omega arith
former_reaches d ih (binding is) gs a f l r =
    let n = part_count_type gs in
    let ws : List ℕ = 5 ∷ n ∷ (part_words is gs ++ r) in
    let e = components_end d ih ws is gs a.0 f l r 2 refl in
    let s = components_some is gs a.0 in
    let b = length-append (part_words is gs) r in
    group_ends (type_length d) 2 1 n (2 + length (part_words is gs)) ws (count_of_lem n ws refl (omega arith)) e (omega arith) ∙ omega arith

pub type_reaches : (d : ℕ) → Reaches d
unfolding FormedType size
type_reaches zero (node h gs) w l r = absurd (omega arith)
type_reaches (suc d) (node h gs) w l r = former_reaches d (type_reaches d) h gs w.0 w.1 (omega arith) r
