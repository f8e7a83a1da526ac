-- Reading type words, a level at a time.
use mathlib.Core.Path.{◌≡◌, refl, sym, ap, subst, ◌∙◌}
use mathlib.Core.Bool.{true, false}
use mathlib.Core.List.{List, [], ◌∷◌, ◌++◌, append_assoc}
use Prim.Native.Nat.{ℕ, zero, suc, ◌+◌, ◌-◌, ◌≤◌, ◌<◌}
use native.Mathlib.Omega.{arith}
use native.Mathlib.Nat.{eq-or-lt_of_le}
use mathlib.Core.Logic.{⊎_elim}
use lib.ListN.{length, get_or, drop, length-append, length-take, length-drop, get_or-append}
use lib.Seq.{get_or-drop, get_or-take, get_or-append-add, drop_at, drop-drop, ext_get_or}
use borrow.Author.Tests.{eq-eqb, ne_eqb}
use Rattle.types_rules.specs.Former.{Former, int, given, parameter, power, product, binding, tag, identifiers, former_of}
use Rattle.types_rules.specs.Types.{Ty, Tys, node, tnil, tcons}
use Rattle.types_rules.specs.Formed.{part_count_type, FormedType, FormedTypes, Arity, WellFormed}
use Rattle.types_rules.specs.Words.{second, words, part_words}
use mathlib.Core.Option.{Option, some, none}
use Rattle.types_rules.specs.Component.{pick_type, component_type}
use Rattle.types_rules.proofs.Words.{words_one}
use Rattle.types_cells.specs.Layout.{pool_size, area_size}
use Rattle.types_cells.specs.Parts.{Names, Rest}
use Rattle.types_cells.specs.Settled.{lower, heap, Reads, Areas, lead_words, name_words, parts_of}

pub reads_one : (H : List ℕ) (p : ℕ) (g k : Ty) → Reads H p g → Reads H p k → g ≡ k
reads_one H p g k R S = (words_one g k R.formed S.formed R.after S.after (sym R.words_at ∙ S.words_at)).0

pub words_some : (g : Ty) → 0 < length (words g)
unfolding words
words_some (node h gs) = omega arith

-- A word of the type at p.
pub word_in : (H : List ℕ) (p : ℕ) (g : Ty) → Reads H p g → (j : ℕ) → j < length (words g) → get_or H (p + j) 0 ≡ get_or (words g) j 0
word_in H p g R j l = sym (get_or-drop p H j 0) ∙ ap (λ z. get_or z j 0) R.words_at ∙ get_or-append (words g) R.after 0 j l

pub inside : (H : List ℕ) (p : ℕ) (g : Ty) → Reads H p g → p + length (words g) ≤ length H
inside H p g R = omega (arith, words_some g, ap length R.words_at, length-append (words g) R.after, length-drop p H)

-- What stands after a beginning.
pub drop_on : (H : List ℕ) (p : ℕ) (xs ys : List ℕ) → drop p H ≡ xs ++ ys → drop (p + length xs) H ≡ ys
drop_on H p xs ys e = sym (drop-drop (length xs) p H) ∙ ap (drop (length xs)) e ∙ drop_at xs ys (length xs) refl

module _ (H : List ℕ) (p : ℕ) (h : Former) (gs : Tys) (R : Reads H p (node h gs)) where
  all_words_lem : drop p H ≡ (tag h ∷ second h (part_count_type gs)) ++ (part_words (identifiers h) gs ++ R.after)
  unfolding words
  all_words_lem = R.words_at ∙ ap (λ z. tag h ∷ z) (append_assoc (second h (part_count_type gs)) (part_words (identifiers h) gs) R.after)

  pub tag_there : get_or H p 0 ≡ tag h
  tag_there = let z : p ≡ p + 0 = omega arith in ap (λ q. get_or H q 0) z ∙ sym (get_or-drop p H 0 0) ∙ ap (λ l. get_or l 0 0) all_words_lem

  pub second_at : (v : ℕ) → second h (part_count_type gs) ≡ v ∷ [] → get_or H (p + 1) 0 ≡ v
  second_at v e = sym (get_or-drop p H 1 0) ∙ ap (λ l. get_or l 1 0) (all_words_lem ∙ ap (λ l. (tag h ∷ l) ++ (part_words (identifiers h) gs ++ R.after)) e)

  formed : Arity h (part_count_type gs) × FormedTypes Arity gs
  unfolding FormedType
  formed = R.formed

  lead_c : (k : Former) → lead_words (tag k) ≡ suc (length (second k (part_count_type gs)))
  unfolding lead_words tag second
  lead_c int = refl
  lead_c (given g) = refl
  lead_c (parameter i) = refl
  lead_c power = refl
  lead_c product = refl
  lead_c (binding l) = refl

  parts_c : (k : Former) → Arity k (part_count_type gs) → (v : ℕ) → (second k (part_count_type gs) ≡ part_count_type gs ∷ [] → v ≡ part_count_type gs) → parts_of (tag k) v ≡ part_count_type gs
  unfolding parts_of tag Arity second
  parts_c int a v e = sym a
  parts_c (given g) a v e = sym a
  parts_c (parameter i) a v e = sym a
  parts_c power a v e = sym a
  parts_c product a v e = e refl
  parts_c (binding l) a v e = e refl

  pub parts_are : parts_of (tag h) (get_or H (p + 1) 0) ≡ part_count_type gs
  parts_are = parts_c h formed.0 _ (second_at _)

  names_c : (k : Former) → Arity k (part_count_type gs) → Names (name_words (tag k)) (identifiers k) gs
  unfolding name_words tag identifiers Arity
  names_c int a = refl
  names_c (given g) a = refl
  names_c (parameter i) a = refl
  names_c power a = refl
  names_c product a = refl
  names_c (binding l) a = (refl, a.0)

  pub the_rest : Rest H (name_words (tag h)) (p + lead_words (tag h)) (identifiers h) gs (p + length (words (node h gs)))
  unfolding words
  the_rest =
      let e = lead_c h in
      record {
        formed = formed.1;
        names = names_c h formed.0;
        after = R.after;
        words_at = ap (λ z. drop (p + z) H) e ∙ drop_on H p (tag h ∷ second h (part_count_type gs)) (part_words (identifiers h) gs ++ R.after) all_words_lem;
        end = omega (arith, length-append (second h (part_count_type gs)) (part_words (identifiers h) gs));
      }

-- The next part.
pub record Part (H : List ℕ) (w at : ℕ) (l : List ℕ) (g : Ty) (gs : Tys) (e : ℕ) : Type 0 where
  pub reads : Reads H (at + w) g
  pub tail : List ℕ
  pub rest : Rest H w (at + w + length (words g)) tail gs e
  pub name : (w ≡ 0 → ⊥) → l ≡ get_or H at 0 ∷ tail
  pub none : w ≡ 0 → (l ≡ []) × (tail ≡ [])

pub part_next : (H : List ℕ) (w at : ℕ) (l : List ℕ) (g : Ty) (gs : Tys) (e : ℕ) → Rest H w at l (tcons g gs) e → Part H w at l g gs e
unfolding part_words words FormedType
part_next H zero at [] g gs e R =
    let z : at + 0 ≡ at = omega arith in
    let q : drop (at + 0) H ≡ words g ++ (part_words [] gs ++ R.after) = ap (λ k. drop k H) z ∙ R.words_at ∙ append_assoc (words g) (part_words [] gs) R.after in
    record {
      reads = record { formed = R.formed.0; after = part_words [] gs ++ R.after; words_at = q };
      tail = [];
      rest = record { formed = R.formed.1; names = refl; after = R.after; words_at = drop_on H (at + 0) (words g) (part_words [] gs ++ R.after) q; end = omega (arith, R.end, length-append (words g) (part_words [] gs)) };
      name = λ d. absurd (d refl);
      none = λ d. (refl, refl);
    }
part_next H zero at (i ∷ l) g gs e R = let z : ◌≡◌ {A = ℕ} 0 1 = (let n = R.names in cc) in absurd (omega arith)
part_next H (suc w) at [] g gs e R = let n = R.names.1 in absurd (omega arith)
part_next H (suc w) at (i ∷ l) g gs e R =
    let w0 = R.names.0 in
    let n = R.names.1 in
    let z : at + suc w ≡ at + length {A = ℕ} (i ∷ []) = omega arith in
    let a : drop at H ≡ (i ∷ []) ++ ((words g ++ part_words l gs) ++ R.after) = R.words_at in
    let q : drop (at + suc w) H ≡ words g ++ (part_words l gs ++ R.after) = ap (λ k. drop k H) z ∙ drop_on H at (i ∷ []) _ a ∙ append_assoc (words g) (part_words l gs) R.after in
    let y : at ≡ at + 0 = omega arith in
    record {
      reads = record { formed = R.formed.0; after = part_words l gs ++ R.after; words_at = q };
      tail = l;
      rest = record { formed = R.formed.1; names = (w0, omega arith); after = R.after; words_at = drop_on H (at + suc w) (words g) (part_words l gs ++ R.after) q; end = omega (arith, R.end, length-append (words g) (part_words l gs)) };
      name = λ d. ap (λ x. x ∷ l) (sym (ap (λ k. get_or H k 0) y ∙ sym (get_or-drop at H 0 0) ∙ ap (λ m. get_or m 0 0) a));
      none = λ d. absurd (omega arith);
    }

pub rest_done : (H : List ℕ) (w at : ℕ) (l : List ℕ) (e : ℕ) → Rest H w at l tnil e → e ≡ at
unfolding part_words
rest_done H w at l e R = let q = R.end in omega arith

-- The two areas as one list.
pub lower_length : (s : List ℕ) → length s ≡ area_size → length (lower s) ≡ pool_size
unfolding lower
lower_length s e = simp length-take (omega arith)

pub heap_length : (s d : List ℕ) → length s ≡ area_size → length (heap s d) ≡ pool_size + length d
unfolding heap
heap_length s d e = length-append (lower s) d ∙ ap (λ z. z + length d) (lower_length s e)

pub heap_low : (s d : List ℕ) (p : ℕ) → length s ≡ area_size → p < pool_size → get_or (heap s d) p 0 ≡ get_or s p 0
unfolding heap lower
heap_low s d p e l = get_or-append (lower s) d 0 p (let z = lower_length s e in omega arith) ∙ get_or-take pool_size s p 0 l

pub heap_high : (s d : List ℕ) (p : ℕ) → length s ≡ area_size → pool_size ≤ p → get_or (heap s d) p 0 ≡ get_or d (p - pool_size) 0
unfolding heap
heap_high s d p e l =
    let z = lower_length s e in
    let q : p ≡ length (lower s) + (p - pool_size) = omega arith in
    ap (λ k. get_or (lower s ++ d) k 0) q ∙ get_or-append-add (lower s) d (p - pool_size) 0

-- Walking over the parts: n of them, j passed, a name takes w words, the whole ends at e.
pub record Scan (H : List ℕ) (w at n j e : ℕ) : Type 0 where
  pub l : List ℕ
  pub gs : Tys
  pub rest : Rest H w at l gs e
  pub left : part_count_type gs + j ≡ n

pub scan_start : (H : List ℕ) (p : ℕ) (g : Ty) → Reads H p g → (t w n at : ℕ) → t ≡ get_or H p 0 → w ≡ name_words t → n ≡ parts_of t (get_or H (p + 1) 0) → at ≡ p + lead_words t →
    Scan H w at n 0 (p + length (words g))
scan_start H p (node h gs) R t w n at et ew en ea =
    let e : t ≡ tag h = et ∙ tag_there H p h gs R in
    record {
      l = identifiers h;
      gs = gs;
      rest = subst (λ y. Rest H w y (identifiers h) gs (p + length (words (node h gs)))) (sym (ea ∙ ap (λ y. p + lead_words y) e))
          (subst (λ y. Rest H y (p + lead_words (tag h)) (identifiers h) gs (p + length (words (node h gs)))) (sym (ew ∙ ap name_words e)) (the_rest H p h gs R));
      left = (let z : part_count_type gs + 0 ≡ part_count_type gs = omega arith in z) ∙ sym (en ∙ ap (λ y. parts_of y (get_or H (p + 1) 0)) e ∙ parts_are H p h gs R);
    }

pub rest_start : (H : List ℕ) (p : ℕ) (h : Former) (gs : Tys) → Reads H p (node h gs) → (t w at : ℕ) → t ≡ get_or H p 0 → w ≡ name_words t → at ≡ p + lead_words t →
    Rest H w at (identifiers h) gs (p + length (words (node h gs)))
rest_start H p h gs R t w at et ew ea =
    let e : t ≡ tag h = et ∙ tag_there H p h gs R in
    subst (λ y. Rest H w y (identifiers h) gs (p + length (words (node h gs)))) (sym (ea ∙ ap (λ y. p + lead_words y) e))
    (subst (λ y. Rest H y (p + lead_words (tag h)) (identifiers h) gs (p + length (words (node h gs)))) (sym (ew ∙ ap name_words e)) (the_rest H p h gs R))

pub record Stepped (H : List ℕ) (w at n j e : ℕ) : Type 0 where
  pub part : Ty
  pub reads : Reads H (at + w) part
  pub next : Scan H w (at + w + length (words part)) n (j + 1) e
  pub low : at + w < length H
  pub high : at + w + length (words part) ≤ length H

scan_c : (H : List ℕ) (w at n j e : ℕ) (l : List ℕ) (gs : Tys) → Rest H w at l gs e → part_count_type gs + j ≡ n → j < n → Stepped H w at n j e
scan_c H w at n j e l tnil R q lt = absurd (omega arith)
scan_c H w at n j e l (tcons g gs) R q lt =
    let P = part_next H w at l g gs e R in
    let i = inside H (at + w) g P.reads in
    let z = words_some g in
    record { part = g; reads = P.reads; next = record { l = P.tail; gs = gs; rest = P.rest; left = omega arith }; low = omega arith; high = i }

pub scan_step : (H : List ℕ) (w at n j e : ℕ) → Scan H w at n j e → j < n → Stepped H w at n j e
scan_step H w at n j e S lt = scan_c H w at n j e S.l S.gs S.rest S.left lt

pub scan_on : (H : List ℕ) (w at n j e at' : ℕ) (S : Stepped H w at n j e) → at' ≡ at + w + length (words S.part) → Scan H w at' n (j + 1) e
scan_on H w at n j e at' S q = subst (λ y. Scan H w y n (j + 1) e) (sym q) S.next

end_c : (H : List ℕ) (w at n j e : ℕ) (l : List ℕ) (gs : Tys) → Rest H w at l gs e → part_count_type gs + j ≡ n → n ≤ j → e ≡ at
end_c H w at n j e l tnil R q lt = rest_done H w at l e R
end_c H w at n j e l (tcons g gs) R q lt = absurd (omega arith)

pub scan_end : (H : List ℕ) (w at n j e : ℕ) → Scan H w at n j e → n ≤ j → e ≡ at
scan_end H w at n j e S lt = end_c H w at n j e S.l S.gs S.rest S.left lt

pub place_low : (H : List ℕ) (p : ℕ) (g : Ty) → Reads H p g → p < length H
place_low H p g R = let i = inside H p g R in let z = words_some g in omega arith

pub lead_1 : lead_words 1 ≡ 1
unfolding lead_words
lead_1 = refl

pub lead_3 : lead_words 3 ≡ 1
unfolding lead_words
lead_3 = refl

pub lead_else : (t : ℕ) → (t ≡ 1 → ⊥) → (t ≡ 3 → ⊥) → lead_words t ≡ 2
unfolding lead_words
lead_else zero a b = refl
lead_else (suc zero) a b = absurd (a refl)
lead_else (suc (suc zero)) a b = refl
lead_else (suc (suc (suc zero))) a b = absurd (b refl)
lead_else (suc (suc (suc (suc t)))) a b = refl

pub parts_3 : (t v : ℕ) → t ≡ 3 → parts_of t v ≡ 1
unfolding parts_of
parts_3 t v e = ap (λ z. parts_of z v) e

pub parts_4 : (t v : ℕ) → t ≡ 4 → parts_of t v ≡ v
unfolding parts_of
parts_4 t v e = ap (λ z. parts_of z v) e

pub parts_5 : (t v : ℕ) → t ≡ 5 → parts_of t v ≡ v
unfolding parts_of
parts_5 t v e = ap (λ z. parts_of z v) e

pub parts_else : (t v : ℕ) → (t ≡ 3 → ⊥) → (t ≡ 4 → ⊥) → (t ≡ 5 → ⊥) → parts_of t v ≡ 0
unfolding parts_of
parts_else zero v a b c = refl
parts_else (suc zero) v a b c = refl
parts_else (suc (suc zero)) v a b c = refl
parts_else (suc (suc (suc zero))) v a b c = absurd (a refl)
parts_else (suc (suc (suc (suc zero)))) v a b c = absurd (b refl)
parts_else (suc (suc (suc (suc (suc zero))))) v a b c = absurd (c refl)
parts_else (suc (suc (suc (suc (suc (suc t)))))) v a b c = refl

pub name_5 : (t : ℕ) → t ≡ 5 → name_words t ≡ 1
unfolding name_words
name_5 t e = rw (name_words, eq-eqb t 5 e)

pub name_else : (t : ℕ) → (t ≡ 5 → ⊥) → name_words t ≡ 0
unfolding name_words
name_else t e = rw (name_words, ne_eqb t 5 e)

-- Two types, word by word.
words_same : (g k : Ty) → WellFormed g → WellFormed k → words g ≡ words k → g ≡ k
words_same g k w v e = (words_one g k w v [] [] (ap (λ l. l ++ []) e)).0

module _ (H : List ℕ) (p q : ℕ) (g k : Ty) (R : Reads H p g) (S : Reads H q k) where
  pub same_yes : length (words g) ≡ length (words k) → ((i : ℕ) → i < length (words g) → get_or H (p + i) 0 ≡ get_or H (q + i) 0) → g ≡ k
  same_yes e h =
      words_same g k R.formed S.formed
      (ext_get_or 0 (words g) (words k) e (λ i l. sym (word_in H p g R i l) ∙ h i l ∙ word_in H q k S i (omega arith)))

pub names_length : (H : List ℕ) (p n : ℕ) (l : List ℕ) (gs : Tys) → Reads H p (node (binding l) gs) → get_or H (p + 1) 0 ≡ n → length l ≡ n
unfolding second FormedType Arity
names_length H p n l gs R en = R.formed.0.0 ∙ sym (second_at H p (binding l) gs R (part_count_type gs) refl) ∙ en

-- A former, by its words.
module _ (H : List ℕ) (p : ℕ) (h : Former) (gs : Tys) (R : Reads H p (node h gs)) where
  like_c : (k : Former) (a : ℕ) (l : List ℕ) → (tag k ≡ 5 → ⊥) → (lead_words (tag k) ≡ 2 → (v : ℕ) → second k (part_count_type gs) ≡ v ∷ [] → a ≡ v) → former_of (tag k) a l ≡ k
  unfolding tag former_of lead_words second
  like_c int a l d e = refl
  like_c (given g) a l d e = ap given (e refl g refl)
  like_c (parameter i) a l d e = ap parameter (e refl i refl)
  like_c power a l d e = refl
  like_c product a l d e = refl
  like_c (binding m) a l d e = absurd (d refl)

  pub like_yes : (t a : ℕ) (l : List ℕ) → t ≡ get_or H p 0 → (t ≡ 5 → ⊥) → (lead_words t ≡ 2 → a ≡ get_or H (p + 1) 0) → former_of t a l ≡ h
  like_yes t a l e d f =
      let q : t ≡ tag h = e ∙ tag_there H p h gs R in
      ap (λ z. former_of z a l) q ∙ like_c h a l (λ z. d (q ∙ z)) (λ z v s. f (ap lead_words q ∙ z) ∙ second_at H p h gs R v s)

  unlike_c : (k : Former) (a : ℕ) (l : List ℕ) → (tag k ≡ 5 → ⊥) → lead_words (tag k) ≡ 2 → (tag k ≡ 4 → a ≡ part_count_type gs) → former_of (tag k) a l ≡ k →
      (v : ℕ) × (second k (part_count_type gs) ≡ v ∷ []) × (a ≡ v)
  unfolding tag former_of lead_words second
  unlike_c int a l d e f q = absurd (omega arith)
  unlike_c (given g) a l d e f q = (g, refl, (let z : a ≡ g = cc in z))
  unlike_c (parameter i) a l d e f q = (i, refl, (let z : a ≡ i = cc in z))
  unlike_c power a l d e f q = absurd (omega arith)
  unlike_c product a l d e f q = (part_count_type gs, refl, f refl)
  unlike_c (binding m) a l d e f q = absurd (d refl)

  pub like_no : (t a : ℕ) (l : List ℕ) → t ≡ get_or H p 0 → (t ≡ 5 → ⊥) → lead_words t ≡ 2 → (t ≡ 4 → a ≡ part_count_type gs) → (a ≡ get_or H (p + 1) 0 → ⊥) → former_of t a l ≡ h → ⊥
  like_no t a l e d f c ne q =
      let z : t ≡ tag h = e ∙ tag_there H p h gs R in
      let w = unlike_c h a l (λ y. d (z ∙ y)) (sym (ap lead_words z) ∙ f) (λ y. c (z ∙ y)) (sym (ap (λ y. former_of y a l) z) ∙ q) in
      ne (w.2 ∙ sym (second_at H p h gs R w.0 w.1))

  tag_of : (k : Former) → tag k ≡ 5 → (l : List ℕ) × (k ≡ binding l)
  unfolding tag
  tag_of int e = absurd (omega arith)
  tag_of (given g) e = absurd (omega arith)
  tag_of (parameter i) e = absurd (omega arith)
  tag_of power e = absurd (omega arith)
  tag_of product e = absurd (omega arith)
  tag_of (binding l) e = (l, refl)

  pub is_binding : get_or H p 0 ≡ 5 → (l : List ℕ) × (h ≡ binding l)
  is_binding e = tag_of h (sym (tag_there H p h gs R) ∙ e)

pub place_few : (s d : List ℕ) (p : ℕ) (g : Ty) → Areas s d → Reads (heap s d) p g → p + length (words g) < 8589934592
place_few s d p g A R = let i = inside (heap s d) p g R in let z = heap_length s d A.size in let f = A.few in omega arith

pub below_next : (Q : ℕ → Type 0) (j : ℕ) → ((i : ℕ) → i < j → Q i) → Q j → (i : ℕ) → i < j + 1 → Q i
below_next Q j h q i l = ⊎_elim (λ e. subst Q (sym e) q) (λ m. h i m) (eq-or-lt_of_le (let z : i ≤ j = omega arith in z))

-- Looking for the component id: j of n passed, and none of them it.
pub record Seeking (H : List ℕ) (at n j id : ℕ) (o : Option Ty) : Type 0 where
  pub l : List ℕ
  pub gs : Tys
  pub e : ℕ
  pub rest : Rest H 1 at l gs e
  pub left : part_count_type gs + j ≡ n
  pub same : o ≡ pick_type id l gs

pub seek_start : (H : List ℕ) (p n id : ℕ) (g : Ty) → Reads H p g → get_or H p 0 ≡ 5 → get_or H (p + 1) 0 ≡ n → Seeking H (p + 2) n 0 id (component_type id g)
unfolding component_type identifiers second tag name_words lead_words
seek_start H p n id (node h gs) R t5 en =
    let b = is_binding H p h gs R t5 in
    let Rb : Reads H p (node (binding b.0) gs) = subst (λ z. Reads H p (node z gs)) b.1 R in
    record {
      l = b.0;
      gs = gs;
      e = p + length (words (node (binding b.0) gs));
      rest = the_rest H p (binding b.0) gs Rb;
      left = (let z : part_count_type gs + 0 ≡ part_count_type gs = omega arith in z) ∙ sym (second_at H p (binding b.0) gs Rb (part_count_type gs) refl) ∙ en;
      same = ap (λ z. pick_type id (identifiers z) gs) b.1;
    }

pub record Sought (H : List ℕ) (at n j id : ℕ) (o : Option Ty) : Type 0 where
  pub part : Ty
  pub reads : Reads H (at + 1) part
  pub low : at + 1 < length H
  pub hit : get_or H at 0 ≡ id → o ≡ some part
  pub miss : (get_or H at 0 ≡ id → ⊥) → Seeking H (at + 1 + length (words part)) n (j + 1) id o

pick_hit : (id x : ℕ) (l : List ℕ) (g : Ty) (gs : Tys) → x ≡ id → pick_type id (x ∷ l) (tcons g gs) ≡ some g
unfolding pick_type
pick_hit id x l g gs e = ap (λ b. elim b as (λ z. Option Ty) [ true ↦ some g | false ↦ pick_type id l gs ]) (eq-eqb x id e)

pick_miss : (id x : ℕ) (l : List ℕ) (g : Ty) (gs : Tys) → (x ≡ id → ⊥) → pick_type id (x ∷ l) (tcons g gs) ≡ pick_type id l gs
unfolding pick_type
pick_miss id x l g gs e = ap (λ b. elim b as (λ z. Option Ty) [ true ↦ some g | false ↦ pick_type id l gs ]) (ne_eqb x id e)

seek_c : (H : List ℕ) (at n j id : ℕ) (o : Option Ty) (l : List ℕ) (gs : Tys) (e : ℕ) → Rest H 1 at l gs e → part_count_type gs + j ≡ n → o ≡ pick_type id l gs → j < n → Sought H at n j id o
seek_c H at n j id o l tnil e R q s lt = absurd (omega arith)
seek_c H at n j id o l (tcons g gs) e R q s lt =
    let P = part_next H 1 at l g gs e R in
    let hd = P.name (λ z. omega arith) in
    record {
      part = g;
      reads = P.reads;
      low = place_low H (at + 1) g P.reads;
      hit = λ x. s ∙ ap (λ z. pick_type id z (tcons g gs)) hd ∙ pick_hit id (get_or H at 0) P.tail g gs x;
      miss = λ x. record { l = P.tail; gs = gs; e = e; rest = P.rest; left = omega arith; same = s ∙ ap (λ z. pick_type id z (tcons g gs)) hd ∙ pick_miss id (get_or H at 0) P.tail g gs x };
    }

pub seek_step : (H : List ℕ) (at n j id : ℕ) (o : Option Ty) → Seeking H at n j id o → j < n → Sought H at n j id o
seek_step H at n j id o S lt = seek_c H at n j id o S.l S.gs S.e S.rest S.left S.same lt

pub seek_on : (H : List ℕ) (at n j id at' : ℕ) (o : Option Ty) (S : Sought H at n j id o) → (get_or H at 0 ≡ id → ⊥) → at' ≡ at + 1 + length (words S.part) → Seeking H at' n (j + 1) id o
seek_on H at n j id at' o S d q = subst (λ y. Seeking H y n (j + 1) id o) (sym q) (S.miss d)

seek_end_c : (id n j : ℕ) (l : List ℕ) (gs : Tys) → part_count_type gs + j ≡ n → n ≤ j → pick_type id l gs ≡ none
unfolding pick_type
seek_end_c id n j [] gs q lt = refl
seek_end_c id n j (x ∷ l) tnil q lt = refl
seek_end_c id n j (x ∷ l) (tcons g gs) q lt = absurd (omega arith)

pub seek_end : (H : List ℕ) (at n j id : ℕ) (o : Option Ty) → Seeking H at n j id o → n ≤ j → o ≡ none
seek_end H at n j id o S lt = S.same ∙ seek_end_c id n j S.l S.gs S.left lt

not_binding_c : (id : ℕ) (h : Former) (gs : Tys) → (tag h ≡ 5 → ⊥) → component_type id (node h gs) ≡ none
unfolding component_type identifiers pick_type tag
not_binding_c id int gs d = refl
not_binding_c id (given g) gs d = refl
not_binding_c id (parameter i) gs d = refl
not_binding_c id power gs d = refl
not_binding_c id product gs d = refl
not_binding_c id (binding l) gs d = absurd (d refl)

pub not_binding : (H : List ℕ) (p id : ℕ) (g : Ty) → Reads H p g → (get_or H p 0 ≡ 5 → ⊥) → component_type id g ≡ none
not_binding H p id (node h gs) R d = not_binding_c id h gs (λ e. d (tag_there H p h gs R ∙ e))
