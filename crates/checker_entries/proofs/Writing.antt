-- Words written one part after another, and the head of an entry before its type.
use mathlib.Core.Path.{◌≡◌, refl, sym, ap, subst, ◌∙◌}
use mathlib.Core.List.{List, [], ◌∷◌, ◌++◌}
use Prim.Native.Nat.{ℕ, suc, ◌+◌, ◌*◌, ◌-◌, ◌≤◌, ◌<◌}
use native.Mathlib.Omega.{arith}
use lib.ListN.{length, get_or, set, drop, length-append}
use lib.Seq.{sets}
use Rattle.words.proofs.Lists.{drop_next, drop_done}
use Rattle.reader_rules.specs.Decode.{pairs_from}
use Rattle.types_rules.specs.Former.{tag, identifiers}
use Rattle.types_rules.specs.Formed.{part_count_type}
use Rattle.types_rules.specs.Types.{Ty, Tys, tnil, tcons, size}
use Rattle.types_rules.specs.Words.{words, second, part_words}
use Rattle.types_rules.proofs.Words.{words_few}
use Rattle.checker_rules.specs.Dictionary.{name_entry, entry_words}
use Rattle.types_cells.specs.Layout.{type_words}
use Rattle.types_cells.specs.Settled.{heap, Reads, Reading}
use Rattle.types_solver.specs.Written.{Wrote, Copied}
use Rattle.checker_signatures.specs.Rows.{rows, identifiers_of}
use Rattle.checker_signatures.proofs.RowLaws.{rows_kept, get_d_below, rows_length_lem, set_sets}
use Rattle.checker_dictionary.specs.Waiting.{waiting}
use Rattle.checker_includes.proofs.RowSteps.{from_next}
use Rattle.checker_entries.specs.Entries.{TypesAt, AllSmall, name_entries, given_entries, entry_waits, schema_of, TypeAsk, TableAsk}

-- SETS.
-- Words after others, ..
pub sets_on_lem : (us vs w : List ℕ) (i : ℕ) → sets (sets w i us) (i + length us) vs ≡ sets w i (us ++ vs)
sets_on_lem [] vs w i = ap (λ (k : ℕ). sets w k vs) (let z : i + 0 ≡ i = omega arith in z)
sets_on_lem (u ∷ us) vs w i = ap (λ (k : ℕ). sets (sets (set w i u) (suc i) us) k vs) (let z : i + suc (length us) ≡ suc i + length us = omega arith in z) ∙ sets_on_lem us vs (set w i u) (suc i)

-- .. and before them.
pub sets_front : (us vs w : List ℕ) (i : ℕ) → sets (sets w (i + length us) vs) i us ≡ sets w i (us ++ vs)
sets_front [] vs w i = ap (λ (k : ℕ). sets w k vs) (let z : i + 0 ≡ i = omega arith in z)
sets_front (u ∷ us) vs w i =
    ap (λ (z : List ℕ). sets z (suc i) us) (set_sets vs w (i + suc (length us)) i u (omega arith))
    ∙ ap (λ (k : ℕ). sets (sets (set w i u) k vs) (suc i) us) (let z : i + suc (length us) ≡ suc i + length us = omega arith in z)
    ∙ sets_front us vs (set w i u) (suc i)

-- WROTE.
pub wrote_on : (w w₁ w₂ us vs : List ℕ) (at e₁ e₂ : ℕ) → Wrote w w₁ at e₁ us → Wrote w₁ w₂ e₁ e₂ vs → Wrote w w₂ at e₂ (us ++ vs)
wrote_on w w₁ w₂ us vs at e₁ e₂ A B =
    let l = length-append us vs in
    let p = A.end in
    let q = B.end in
    record {
      area = B.area ∙ ap (λ (z : List ℕ). sets z e₁ vs) A.area ∙ ap (λ (k : ℕ). sets (sets w at us) k vs) A.end ∙ sets_on_lem us vs w at;
      end = omega arith;
    }

pub wrote_none : (w : List ℕ) (at : ℕ) → Wrote w w at at []
wrote_none w at = record { area = refl; end = omega arith }

-- The head of an entry, once its type is written.
pub head_wrote : (ws w w₁ w₂ : List ℕ) (at e len class name count : ℕ) → Wrote w w₁ (at + 4) e ws → len ≡ e - at - 1 → w₂ ≡ sets w₁ at (len ∷ class ∷ name ∷ count ∷ []) →
    Wrote w w₂ at e (suc (suc (suc (length ws))) ∷ class ∷ name ∷ count ∷ ws)
head_wrote ws w w₁ w₂ at e len class name count A l h =
    let q = A.end in
    let z : len ≡ suc (suc (suc (length ws))) = omega arith in
    record {
      area =
          h
          ∙ ap (λ (u : List ℕ). sets u at (len ∷ class ∷ name ∷ count ∷ [])) A.area
          ∙ sets_front (len ∷ class ∷ name ∷ count ∷ []) ws w at
          ∙ ap (λ (k : ℕ). sets w at (k ∷ class ∷ name ∷ count ∷ ws)) z;
      end = omega arith;
    }

-- SMALL TYPES have few words.
pub small_words : (g : Ty) → size g ≤ 32 → length (words g) ≤ 95
small_words g l = let w = words_few g in omega arith

pub reading_of : (s d : List ℕ) (p : ℕ) → TypeAsk s d p → Reading s d p
reading_of s d p A = record { areas = A.areas; readable = record { type = A.type; reads = A.reads } }

-- ONE NAME.
module _ (s d w w₁ : List ℕ) (p at e : ℕ) (A : TypeAsk s d p) (C : Copied s d w w₁ (at + 4) p e) where
  pub name_end : (suc at ≤ e) × (e ≤ at + 99)
  name_end = let q = (C.is A.type A.reads).end in let l = small_words A.type A.small in (omega arith, omega arith)

  pub name_wrote : (w₂ : List ℕ) (id len : ℕ) → len ≡ e - at - 1 → w₂ ≡ sets w₁ at (len ∷ 1 ∷ id ∷ 0 ∷ []) → (g : Ty) → Reads (heap s d) p g → Wrote w w₂ at e (entry_waits (name_entry id 0 g))
  unfolding entry_words
  name_wrote w₂ id len l h g R = head_wrote (words g) w w₁ w₂ at e len 1 id 0 (C.is g R) l h

-- ROWS ONE AFTER ANOTHER.
module _ (H w : List ℕ) (base m : ℕ) (some : m ≡ 0 → ⊥) where
  more : m ≡ suc (m - 1)
  more = omega (arith, some)

  abbrev first : ℕ × ℕ
  first = (get_or w base 0, get_or w (suc base) 0)

  abbrev others : List (ℕ × ℕ)
  others = rows w (base + 2) (m - 1)

  rows_are : rows w base m ≡ first ∷ others
  unfolding pairs_from
  rows_are = ap (rows w base) more ∙ ap (λ (k : ℕ). first ∷ rows w k (m - 1)) (let z : suc (suc base) ≡ base + 2 = omega arith in z)

  -- the first type and the others
  pub record Split (gs : Tys) : Type 0 where
    pub head : Ty
    pub tail : Tys
    pub are : gs ≡ tcons head tail
    pub reads : Reads H (get_or w (base + 1) 0) head
    pub stand : TypesAt H others tail

  pub split : (gs : Tys) → TypesAt H (rows w base m) gs → Split gs
  unfolding TypesAt
  split gs T = go gs (subst (λ l. TypesAt H l gs) rows_are T)
    where
      go : (gs : Tys) → TypesAt H (first ∷ others) gs → Split gs
      go tnil T = absurd T
      go (tcons g gs) T = record { head = g; tail = gs; are = refl; reads = subst (λ z. Reads H (get_or w z 0) g) (let z : suc base ≡ base + 1 = omega arith in z) T.0; stand = T.1 }

  pub names_are : (gs : Tys) (S : Split gs) → waiting (name_entries (rows w base m) gs) ≡ entry_waits (name_entry (get_or w base 0) 0 S.head) ++ waiting (name_entries others S.tail)
  unfolding name_entries waiting
  names_are gs S = ap (λ l. waiting (name_entries l gs)) rows_are ∙ ap (λ z. waiting (name_entries (first ∷ others) z)) S.are

  pub parts_are : (gs : Tys) (S : Split gs) → part_words (identifiers_of (rows w base m)) gs ≡ (get_or w base 0 ∷ words S.head) ++ part_words (identifiers_of others) S.tail
  unfolding identifiers_of part_words
  parts_are gs S = ap (λ l. part_words (identifiers_of l) gs) rows_are ∙ ap (λ z. part_words (identifiers_of (first ∷ others)) z) S.are

  -- Words written from `at` on leave them.
  pub rows_stay : (w₁ ws : List ℕ) (at e : ℕ) → base + 2 * m ≤ at → Wrote w w₁ at e ws → rows w₁ (base + 2) (m - 1) ≡ others
  rows_stay w₁ ws at e l W = rows_kept w w₁ (base + 2) (m - 1) (λ k a b. ap (λ z. get_or z k 0) W.area ∙ get_d_below ws w at k (let q = more in omega arith))

small_tail : (gs : Tys) (g : Ty) (hs : Tys) → gs ≡ tcons g hs → AllSmall gs → (size g ≤ 32) × AllSmall hs
unfolding AllSmall
small_tail gs g hs e S = subst AllSmall e S

module _ (s d w : List ℕ) (base m at : ℕ) (some : m ≡ 0 → ⊥) (A : TableAsk s d w base m at) where
  abbrev here : Split (heap s d) w base m some A.types
  here = split (heap s d) w base m some A.types A.stand

  pub first_asked : (p : ℕ) → p ≡ get_or w (base + 1) 0 → TypeAsk s d p
  first_asked p e = record {
    areas = A.areas;
    type = here.head;
    reads = subst (λ z. Reads (heap s d) z here.head) (sym e) here.reads;
    small = (small_tail A.types here.head here.tail here.are A.small).0;
  }

  pub others_asked : (w₁ ws : List ℕ) (e : ℕ) → Wrote w w₁ at e ws → length ws ≤ 100 → TableAsk s d w₁ (base + 2) (m - 1) e
  others_asked w₁ ws e W l =
      let q = W.end in
      let b = A.before in
      let n = A.near in
      record {
        areas = A.areas;
        types = here.tail;
        stand = subst (λ z. TypesAt (heap s d) z here.tail) (sym (rows_stay (heap s d) w base m some w₁ ws at e b W)) here.stand;
        small = (small_tail A.types here.head here.tail here.are A.small).1;
        before = omega (arith, some);
        near = omega (arith, some);
      }

-- NAMES: the first, then the others.
module _ (s d w w₁ : List ℕ) (base m at id p e₁ : ℕ) (some : m ≡ 0 → ⊥) (A : TableAsk s d w base m at) (ei : id ≡ get_or w base 0) (ep : p ≡ get_or w (base + 1) 0) where
  module _ (F : (g : Ty) → Reads (heap s d) p g → Wrote w w₁ at e₁ (entry_waits (name_entry id 0 g))) where
    pub names_asked : TableAsk s d w₁ (base + 2) (m - 1) e₁
    unfolding entry_words
    names_asked =
        let X = first_asked s d w base m at some A p ep in
        let l = small_words X.type X.small in
        others_asked s d w base m at some A w₁ (entry_waits (name_entry id 0 X.type)) e₁ (F X.type X.reads) (omega arith)

    pub names_next : (w₂ : List ℕ) (e : ℕ) → ((gs : Tys) → TypesAt (heap s d) (rows w₁ (base + 2) (m - 1)) gs → Wrote w₁ w₂ e₁ e (waiting (name_entries (rows w₁ (base + 2) (m - 1)) gs))) →
        (gs : Tys) → TypesAt (heap s d) (rows w base m) gs → Wrote w w₂ at e (waiting (name_entries (rows w base m) gs))
    names_next w₂ e N gs T =
        let S = split (heap s d) w base m some gs T in
        let W = F S.head (subst (λ z. Reads (heap s d) z S.head) (sym ep) S.reads) in
        let r = rows_stay (heap s d) w base m some w₁ (entry_waits (name_entry id 0 S.head)) at e₁ A.before W in
        let B = N S.tail (subst (λ z. TypesAt (heap s d) z S.tail) (sym r) S.stand) in
        subst (Wrote w w₂ at e) (ap (λ z. entry_waits (name_entry z 0 S.head) ++ waiting (name_entries (others (heap s d) w base m some) S.tail)) ei ∙ sym (names_are (heap s d) w base m some gs S))
        (wrote_on w w₁ w₂ (entry_waits (name_entry id 0 S.head)) (waiting (name_entries (others (heap s d) w base m some) S.tail)) at e₁ e W
        (subst (λ z. Wrote w₁ w₂ e₁ e (waiting (name_entries z S.tail))) r B))

  -- PARTS of a binding.
  module _ (w₀ : List ℕ) (h : w₀ ≡ set w at id) (C : Copied s d w₀ w₁ (at + 1) p e₁) where
    part_wrote : (g : Ty) → Reads (heap s d) p g → Wrote w w₁ at e₁ (id ∷ words g)
    part_wrote g R =
        let X = C.is g R in
        let q = X.end in
        record {
          area = X.area ∙ ap (λ (z : List ℕ). sets z (at + 1) (words g)) h ∙ ap (λ (k : ℕ). sets (set w at id) k (words g)) (let z : at + 1 ≡ suc at = omega arith in z);
          end = omega arith;
        }

    pub parts_asked : TableAsk s d w₁ (base + 2) (m - 1) e₁
    parts_asked =
        let X = first_asked s d w base m at some A p ep in
        let l = small_words X.type X.small in
        others_asked s d w base m at some A w₁ (id ∷ words X.type) e₁ (part_wrote X.type X.reads) (omega arith)

    pub parts_next : (w₂ : List ℕ) (e : ℕ) → ((gs : Tys) → TypesAt (heap s d) (rows w₁ (base + 2) (m - 1)) gs → Wrote w₁ w₂ e₁ e (part_words (identifiers_of (rows w₁ (base + 2) (m - 1))) gs)) →
        (gs : Tys) → TypesAt (heap s d) (rows w base m) gs → Wrote w w₂ at e (part_words (identifiers_of (rows w base m)) gs)
    parts_next w₂ e N gs T =
        let S = split (heap s d) w base m some gs T in
        let W = part_wrote S.head (subst (λ z. Reads (heap s d) z S.head) (sym ep) S.reads) in
        let r = rows_stay (heap s d) w base m some w₁ (id ∷ words S.head) at e₁ A.before W in
        let B = N S.tail (subst (λ z. TypesAt (heap s d) z S.tail) (sym r) S.stand) in
        subst (Wrote w w₂ at e) (ap (λ z. (z ∷ words S.head) ++ part_words (identifiers_of (others (heap s d) w base m some)) S.tail) ei ∙ sym (parts_are (heap s d) w base m some gs S))
        (wrote_on w w₁ w₂ (id ∷ words S.head) (part_words (identifiers_of (others (heap s d) w base m some)) S.tail) at e₁ e W
        (subst (λ z. Wrote w₁ w₂ e₁ e (part_words (identifiers_of z) S.tail)) r B))

-- NO ROWS.
pub names_none : (H w : List ℕ) (base m at : ℕ) → m ≡ 0 → (gs : Tys) → TypesAt H (rows w base m) gs → Wrote w w at at (waiting (name_entries (rows w base m) gs))
unfolding pairs_from name_entries waiting
names_none H w base m at e gs T = subst (λ k. Wrote w w at at (waiting (name_entries (rows w base k) gs))) (sym e) (wrote_none w at)

pub parts_none : (H w : List ℕ) (base m at : ℕ) → m ≡ 0 → (gs : Tys) → TypesAt H (rows w base m) gs → Wrote w w at at (part_words (identifiers_of (rows w base m)) gs)
unfolding pairs_from TypesAt identifiers_of part_words
parts_none H w base m at e gs T = subst (λ l. Wrote w w at at (part_words (identifiers_of l) gs)) (sym none) (go gs (subst (λ l. TypesAt H l gs) none T))
  where
    none : rows w base m ≡ []
    none = ap (rows w base) e

    go : (gs : Tys) → TypesAt H [] gs → Wrote w w at at (part_words (identifiers_of []) gs)
    go tnil T = wrote_none w at
    go (tcons g gs) T = absurd T

-- The rows from number j on, once those before are written from `at` on, up to `end`: what is written of them ends what is written of all.
abbrev pub Naming : List ℕ → List ℕ → List ℕ → ℕ → ℕ → ℕ → List ℕ → ℕ → ℕ → ℕ → Type 0
Naming s d w base m at w' end base' m' =
    TableAsk s d w' base' m' end
    × ((w₂ : List ℕ) (e : ℕ) → ((gs : Tys) → TypesAt (heap s d) (rows w' base' m') gs → Wrote w' w₂ end e (waiting (name_entries (rows w' base' m') gs))) → (gs : Tys) →
    TypesAt (heap s d) (rows w base m) gs → Wrote w w₂ at e (waiting (name_entries (rows w base m) gs)))

abbrev pub Parting : List ℕ → List ℕ → List ℕ → ℕ → ℕ → ℕ → List ℕ → ℕ → ℕ → ℕ → Type 0
Parting s d w base m at w' end base' m' =
    TableAsk s d w' base' m' end
    × ((w₂ : List ℕ) (e : ℕ) → ((gs : Tys) → TypesAt (heap s d) (rows w' base' m') gs → Wrote w' w₂ end e (part_words (identifiers_of (rows w' base' m')) gs)) → (gs : Tys) →
    TypesAt (heap s d) (rows w base m) gs → Wrote w w₂ at e (part_words (identifiers_of (rows w base m)) gs))

pub row_asked : (s d w : List ℕ) (base m at j : ℕ) → j < m → TableAsk s d w (base + 2 * j) (m - j) at → (p : ℕ) → p ≡ get_or w (base + 2 * j + 1) 0 → TypeAsk s d p
row_asked s d w base m at j l A = first_asked s d w (base + 2 * j) (m - j) at (λ e. omega arith) A

module _ (s d w : List ℕ) (base m at : ℕ) where
  module _ (w' : List ℕ) (end j : ℕ) where
    pub naming_end : m ≤ j → Naming s d w base m at w' end (base + 2 * j) (m - j) → (gs : Tys) → TypesAt (heap s d) (rows w base m) gs → Wrote w w' at end (waiting (name_entries (rows w base m) gs))
    naming_end l I = I.1 w' end (names_none (heap s d) w' (base + 2 * j) (m - j) end (omega arith))

    pub parting_end : m ≤ j → Parting s d w base m at w' end (base + 2 * j) (m - j) → (gs : Tys) → TypesAt (heap s d) (rows w base m) gs →
        Wrote w w' at end (part_words (identifiers_of (rows w base m)) gs)
    parting_end l I = I.1 w' end (parts_none (heap s d) w' (base + 2 * j) (m - j) end (omega arith))

    module _ (l : j < m) where
      some : m - j ≡ 0 → ⊥
      some e = omega arith

      module _ (id p : ℕ) (ei : id ≡ get_or w' (base + 2 * j) 0) (ep : p ≡ get_or w' (base + 2 * j + 1) 0) (w₁ : List ℕ) (e₁ : ℕ) where
        pub naming_next : Naming s d w base m at w' end (base + 2 * j) (m - j) → ((g : Ty) → Reads (heap s d) p g → Wrote w' w₁ end e₁ (entry_waits (name_entry id 0 g))) →
            Naming s d w base m at w₁ e₁ (base + 2 * (j + 1)) (m - (j + 1))
        naming_next I F =
            from_next (Naming s d w base m at w₁ e₁) base m j
            (names_asked s d w' w₁ (base + 2 * j) (m - j) end id p e₁ some I.0 ei ep F, λ w₂ e N. I.1 w₂ e (names_next s d w' w₁ (base + 2 * j) (m - j) end id p e₁ some I.0 ei ep F w₂ e N))

        pub parting_next : Parting s d w base m at w' end (base + 2 * j) (m - j) → (w₀ : List ℕ) → w₀ ≡ set w' end id → Copied s d w₀ w₁ (end + 1) p e₁ →
            Parting s d w base m at w₁ e₁ (base + 2 * (j + 1)) (m - (j + 1))
        parting_next I w₀ h C =
            from_next (Parting s d w base m at w₁ e₁) base m j
            (parts_asked s d w' w₁ (base + 2 * j) (m - j) end id p e₁ some I.0 ei ep w₀ h C, λ w₂ e N. I.1 w₂ e (parts_next s d w' w₁ (base + 2 * j) (m - j) end id p e₁ some I.0 ei ep w₀ h C w₂ e N))

-- A SCHEMA: tag and number of parts, the parts, and the head.
pub types_count : (H : List ℕ) (rs : List (ℕ × ℕ)) (gs : Tys) → TypesAt H rs gs → part_count_type gs ≡ length rs
unfolding TypesAt
types_count H [] tnil T = refl
types_count H [] (tcons g gs) T = absurd T
types_count H (r ∷ rs) tnil T = absurd T
types_count H (r ∷ rs) (tcons g gs) T = ap suc (types_count H rs gs T.1)

pub parts_few : (H : List ℕ) (rs : List (ℕ × ℕ)) (gs : Tys) → TypesAt H rs gs → AllSmall gs → length (part_words (identifiers_of rs) gs) ≤ type_words * length rs
unfolding TypesAt AllSmall identifiers_of part_words
parts_few H [] tnil T S = omega arith
parts_few H [] (tcons g gs) T S = absurd T
parts_few H (r ∷ rs) tnil T S = absurd T
parts_few H (r ∷ rs) (tcons g gs) T S =
    let l = small_words g S.0 in
    let q = parts_few H rs gs T.1 S.1 in
    let e = length-append (words g) (part_words (identifiers_of rs) gs) in
    omega arith

module _ (s d w w₁ w₂ : List ℕ) (base m at first : ℕ) (A : TableAsk s d w base m (at + 6)) (b : base + 2 * m ≤ at) (ef : first ≡ at + 4) (h₁ : w₁ ≡ set w first 5) (h₂ : w₂ ≡ set w₁ (first + 1) m) where
  lead : w₂ ≡ sets w (at + 4) (5 ∷ m ∷ [])
  lead = h₂ ∙ ap (λ (z : List ℕ). set z (first + 1) m) h₁ ∙ ap (λ (k : ℕ). set (set w k 5) (k + 1) m) ef ∙ ap (λ (k : ℕ). set (set w (at + 4) 5) k m) (let z : at + 4 + 1 ≡ suc (at + 4) = omega arith in z)

  rows_same : rows w₂ base m ≡ rows w base m
  rows_same = rows_kept w w₂ base m (λ k x y. ap (λ z. get_or z k 0) lead ∙ get_d_below (5 ∷ m ∷ []) w (at + 4) k (omega arith))

  pub parts_ready : TableAsk s d w₂ base m (first + 2)
  parts_ready =
      let n = A.near in
      record { areas = A.areas; types = A.types; stand = subst (λ z. TypesAt (heap s d) z A.types) (sym rows_same) A.stand; small = A.small; before = omega arith; near = omega arith }

  module _ (w₃ : List ℕ) (e : ℕ) (N : (gs : Tys) → TypesAt (heap s d) (rows w₂ base m) gs → Wrote w₂ w₃ (first + 2) e (part_words (identifiers_of (rows w₂ base m)) gs)) where
    body : (gs : Tys) → TypesAt (heap s d) (rows w base m) gs → Wrote w w₃ (at + 4) e (5 ∷ m ∷ part_words (identifiers_of (rows w base m)) gs)
    body gs T =
        let B = N gs (subst (λ z. TypesAt (heap s d) z gs) (sym rows_same) T) in
        wrote_on w w₂ w₃ (5 ∷ m ∷ []) (part_words (identifiers_of (rows w base m)) gs) (at + 4) (first + 2) e (record { area = lead; end = omega arith })
        (subst (λ z. Wrote w₂ w₃ (first + 2) e (part_words (identifiers_of z) gs)) rows_same B)

    pub schema_end : (suc at ≤ e) × (e ≤ at + 6 + type_words * m)
    schema_end =
        let q = (body A.types A.stand).end in
        let l = parts_few (heap s d) (rows w base m) A.types A.stand A.small in
        let r = rows_length_lem w base m in
        (omega arith, omega arith)

    pub schema_wrote : (w₄ : List ℕ) (len name count : ℕ) → len ≡ e - at - 1 → w₄ ≡ sets w₃ at (len ∷ 2 ∷ name ∷ count ∷ []) →
        (gs : Tys) → TypesAt (heap s d) (rows w base m) gs → Wrote w w₄ at e (entry_waits (schema_of name count (rows w base m) gs))
    unfolding entry_words words tag second identifiers
    schema_wrote w₄ len name count l h gs T =
        let c = types_count (heap s d) (rows w base m) gs T in
        let r = rows_length_lem w base m in
        let z : m ≡ part_count_type gs = omega arith in
        head_wrote (5 ∷ part_count_type gs ∷ part_words (identifiers_of (rows w base m)) gs) w w₃ w₄ at e len 2 name count
        (subst (λ k. Wrote w w₃ (at + 4) e (5 ∷ k ∷ part_words (identifiers_of (rows w base m)) gs)) z (body gs T)) l h

-- A GIVEN'S ENTRIES.
pub givens_none : (w p : List ℕ) (j at : ℕ) → length p ≤ j → Wrote w w at at (waiting (given_entries (drop j p)))
unfolding given_entries waiting
givens_none w p j at l = subst (λ z. Wrote w w at at (waiting (given_entries z))) (sym (drop_done p j l)) (wrote_none w at)

pub givens_next : (w w₁ w₂ w₃ w₄ w₅ p : List ℕ) (j at id e : ℕ) → j < length p → id ≡ get_or p j 0 → w₁ ≡ sets w at (6 ∷ 1 ∷ id ∷ 0 ∷ []) → w₂ ≡ set w₁ (at + 4) 3 →
    w₃ ≡ set w₂ (at + 5) 2 → w₄ ≡ set w₃ (at + 6) id → Wrote w₄ w₅ (at + 7) e (waiting (given_entries (drop (j + 1) p))) → Wrote w w₅ at e (waiting (given_entries (drop j p)))
unfolding given_entries waiting entry_words words tag second identifiers part_words
givens_next w w₁ w₂ w₃ w₄ w₅ p j at id e l ei h₁ h₂ h₃ h₄ W =
    let one : List ℕ = 6 ∷ 1 ∷ id ∷ 0 ∷ 3 ∷ 2 ∷ id ∷ [] in
    subst (λ z. Wrote w w₅ at e (waiting (given_entries z))) (sym (drop_next p j l ∙ ap (λ z. z ∷ drop (j + 1) p) (sym ei)))
    (wrote_on w w₄ w₅ one (waiting (given_entries (drop (j + 1) p))) at (at + 7) e (record { area = all; end = refl }) W)
  where
    all : w₄ ≡ sets w at (6 ∷ 1 ∷ id ∷ 0 ∷ 3 ∷ 2 ∷ id ∷ [])
    all =
        let p : at + 5 ≡ suc (at + 4) = omega arith in
        let q : at + 6 ≡ suc (suc (at + 4)) = omega arith in
        let k₃ = h₃ ∙ ap (λ (k : ℕ). set w₂ k 2) p in
        let k₄ = h₄ ∙ ap (λ (k : ℕ). set w₃ k id) q in
        k₄
        ∙ ap (λ (z : List ℕ). set z (suc (suc (at + 4))) id) (k₃ ∙ ap (λ (z : List ℕ). set z (suc (at + 4)) 2) (h₂ ∙ ap (λ (z : List ℕ). set z (at + 4) 3) h₁))
        ∙ sets_on_lem (6 ∷ 1 ∷ id ∷ 0 ∷ []) (3 ∷ 2 ∷ id ∷ []) w at
