-- The size of a type, from its words, and from the sizes of its parts.
use mathlib.Core.Path.{◌≡◌, refl, sym, ap, ap₂, subst, ◌∙◌}
use mathlib.Core.List.{List, [], ◌∷◌, map}
use mathlib.Core.Logic.{inl, inr}
use Prim.Native.Nat.{ℕ, zero, suc, ◌+◌, ◌-◌, ◌≤◌, ◌<◌}
use native.Mathlib.Omega.{arith}
use lib.ListN.{length, get_or, set, drop}
use lib.Seq.{sets}
use Rattle.types_rules.specs.Equations.{In}
use Rattle.types_rules.specs.Finite.{from_list}
use Rattle.types_rules.specs.Former.{identifiers, tag}
use Rattle.types_rules.specs.Types.{Ty, Tys, node, tnil, tcons, size, sizes}
use Rattle.types_rules.specs.Formed.{part_count_type}
use Rattle.types_rules.specs.Words.{words}
use Rattle.types_cells.specs.Store.{run}
use Rattle.types_cells.specs.Settled.{Reads, lead_words, name_words, parts_of}
use Rattle.types_solver.specs.Sizes.{cap}
use Rattle.types_cells.proofs.Words.{run_cons}
use Rattle.types_cells.specs.Parts.{Rest}
use Rattle.types_cells.proofs.Reading.{rest_start, part_next, parts_are, tag_there, place_low}
use Rattle.types_solver.proofs.Marking.{cap_cases, cap_add, cap_part}

-- n parts, j passed; sum with the sizes of the others is m, up to 33.
pub record Summing (H : List ℕ) (w at n j sum m : ℕ) : Type 0 where
  pub l : List ℕ
  pub gs : Tys
  pub e : ℕ
  pub rest : Rest H w at l gs e
  pub left : part_count_type gs + j ≡ n
  pub same : cap (sum + sizes gs) ≡ cap m

pub sum_start : (H : List ℕ) (p : ℕ) (g : Ty) → Reads H p g → (t w n at : ℕ) → t ≡ get_or H p 0 → w ≡ name_words t → n ≡ parts_of t (get_or H (p + 1) 0) → at ≡ p + lead_words t →
    Summing H w at n 0 1 (size g)
unfolding size
sum_start H p (node h gs) R t w n at et ew en ea =
    let e : t ≡ tag h = et ∙ tag_there H p h gs R in
    record {
      l = identifiers h;
      gs = gs;
      e = p + length (words (node h gs));
      rest = rest_start H p h gs R t w at et ew ea;
      left = (let z : part_count_type gs + 0 ≡ part_count_type gs = omega arith in z) ∙ sym (en ∙ ap (λ y. parts_of y (get_or H (p + 1) 0)) e ∙ parts_are H p h gs R);
      same = ap cap (let z : 1 + sizes gs ≡ suc (sizes gs) = omega arith in z);
    }

pub cap_step : (sum g t : ℕ) → cap (cap (sum + cap g) + t) ≡ cap (sum + (g + t))
cap_step sum g t =
    let a : sum + (cap g + t) ≡ sum + t + cap g = omega arith in
    let b : sum + t + g ≡ sum + (g + t) = omega arith in
    cap_add sum (cap g) t ∙ ap cap a ∙ cap_part (sum + t) g ∙ ap cap b

pub record SumStep (H : List ℕ) (w at n j sum m : ℕ) : Type 0 where
  pub part : Ty
  pub reads : Reads H (at + w) part
  pub low : at + w < length H
  pub next : (at' x : ℕ) → at' ≡ at + w + length (words part) → x ≡ cap (sum + cap (size part)) → Summing H w at' n (j + 1) x m

sum_c : (H : List ℕ) (w at n j sum m : ℕ) (l : List ℕ) (gs : Tys) (e : ℕ) → Rest H w at l gs e → part_count_type gs + j ≡ n → cap (sum + sizes gs) ≡ cap m → j < n → SumStep H w at n j sum m
unfolding size
sum_c H w at n j sum m l tnil e R q s lt = absurd (omega arith)
sum_c H w at n j sum m l (tcons g gs) e R q s lt =
    let P = part_next H w at l g gs e R in
    record {
      part = g;
      reads = P.reads;
      low = place_low H (at + w) g P.reads;
      next = λ at' x ea ex. record {
        l = P.tail;
        gs = gs;
        e = e;
        rest = subst (λ y. Rest H w y P.tail gs e) (sym ea) P.rest;
        left = omega arith;
        same = ap (λ y. cap (y + sizes gs)) ex ∙ cap_step sum (size g) (sizes gs) ∙ s;
      };
    }

pub sum_step : (H : List ℕ) (w at n j sum m : ℕ) → Summing H w at n j sum m → j < n → SumStep H w at n j sum m
sum_step H w at n j sum m S lt = sum_c H w at n j sum m S.l S.gs S.e S.rest S.left S.same lt

pub cap_small : (x : ℕ) → x ≤ 33 → cap x ≡ x
cap_small x l = cap_cases x _ (λ m e. e) (λ m e. omega arith)

sum_end_c : (n j sum m : ℕ) (gs : Tys) → part_count_type gs + j ≡ n → cap (sum + sizes gs) ≡ cap m → n ≤ j → sum ≤ 33 → sum ≡ cap m
unfolding size
sum_end_c n j sum m tnil q s lt f = sym (cap_small sum f) ∙ ap cap (let z : sum ≡ sum + 0 = omega arith in z) ∙ s
sum_end_c n j sum m (tcons g gs) q s lt f = absurd (omega arith)

pub sum_end : (H : List ℕ) (w at n j sum m : ℕ) → Summing H w at n j sum m → n ≤ j → sum ≤ 33 → sum ≡ cap m
sum_end H w at n j sum m S lt f = sum_end_c n j sum m S.gs S.left S.same lt f

-- The sizes of a cell's parts: those from number j on, of the k at the place `at`, are still to be added to sum. With them it is m, up to 33.
abbrev pub ToAdd : (ℕ → Ty) → List ℕ → ℕ → ℕ → ℕ → ℕ → ℕ → Type 0
ToAdd T w at k j sum m = cap (sum + sizes (from_list (map T (run w (at + j) (k - j))))) ≡ cap m

pub add_start : (T : ℕ → Ty) (w : List ℕ) (at k : ℕ) → ToAdd T w at k 0 1 (1 + sizes (from_list (map T (run w at k))))
add_start T w at k =
    let a : at + 0 ≡ at = omega arith in
    let b : k - 0 ≡ k = omega arith in
    ap₂ (λ x y. cap (1 + sizes (from_list (map T (run w x y))))) a b

pub add_step : (T : ℕ → Ty) (w : List ℕ) (at k j sum m x c v : ℕ) → at + k ≤ length w → j < k → c ≡ get_or w (at + j) 0 → v ≡ cap (size (T c)) → x ≡ cap (sum + v) →
    ToAdd T w at k j sum m → ToAdd T w at k (j + 1) x m
unfolding size from_list
add_step T w at k j sum m x c v room l ec ev ex A =
    let e : k - j ≡ suc (k - (j + 1)) = omega arith in
    let q : at + (j + 1) ≡ suc (at + j) = omega arith in
    let cons : run w (at + j) (k - j) ≡ c ∷ run w (at + (j + 1)) (k - (j + 1)) =
    ap (run w (at + j)) e ∙ run_cons w (at + j) (k - (j + 1)) (omega arith) ∙ ap₂ (λ y z. y ∷ run w z (k - (j + 1))) (sym ec) (sym q) in
    let t = sizes (from_list (map T (run w (at + (j + 1)) (k - (j + 1))))) in
    ap (λ y. cap (y + t)) (ex ∙ ap (λ y. cap (sum + y)) ev) ∙ cap_step sum (size (T c)) t
    ∙ sym (ap (λ y. cap (sum + sizes (from_list (map T y)))) cons) ∙ A

pub add_end : (T : ℕ → Ty) (w : List ℕ) (at k j sum m : ℕ) → k ≤ j → sum ≤ 33 → ToAdd T w at k j sum m → sum ≡ cap m
unfolding size from_list run
add_end T w at k j sum m l f A =
    let e : k - j ≡ 0 = omega arith in
    sym (cap_small sum f) ∙ ap cap (let z : sum ≡ sum + 0 = omega arith in z) ∙ sym (ap (λ y. cap (sum + sizes (from_list (map T (run w (at + j) y))))) e) ∙ A

pub size_some : (g : Ty) → 1 ≤ size g
unfolding size
size_some (node h gs) = omega arith

pub part_size : (T : ℕ → Ty) (c : ℕ) (cs : List ℕ) → In c cs → size (T c) ≤ sizes (from_list (map T cs))
unfolding from_list size
part_size T c [] j = absurd j
part_size T c (d ∷ cs) (inl e) = omega (arith, ap (λ z. size (T z)) e)
part_size T c (d ∷ cs) (inr j) = omega (arith, part_size T c cs j)

-- Copying words: the j-th of them.
drop_next : (l : List ℕ) (j : ℕ) → j < length l → drop j l ≡ get_or l j 0 ∷ drop (suc j) l
drop_next [] j q = absurd (omega arith)
drop_next (x ∷ l) zero q = refl
drop_next (x ∷ l) (suc j) q = drop_next l j (omega arith)

drop_all : (l : List ℕ) (j : ℕ) → length l ≤ j → drop j l ≡ []
drop_all [] zero q = refl
drop_all [] (suc j) q = refl
drop_all (x ∷ l) zero q = absurd (omega arith)
drop_all (x ∷ l) (suc j) q = drop_all l j (omega arith)

pub copy_step : (out : List ℕ) (at j v : ℕ) (l : List ℕ) → j < length l → v ≡ get_or l j 0 → sets out (at + j) (drop j l) ≡ sets (set out (at + j) v) (at + (j + 1)) (drop (j + 1) l)
copy_step out at j v l q e =
    let a : at + (j + 1) ≡ suc (at + j) = omega arith in
    let b : j + 1 ≡ suc j = omega arith in
    ap (sets out (at + j)) (drop_next l j q) ∙ ap (λ z. sets (set out (at + j) z) (suc (at + j)) (drop (suc j) l)) (sym e)
    ∙ ap₂ (λ x y. sets (set out (at + j) v) x (drop y l)) (sym a) (sym b)

pub copy_end : (out : List ℕ) (at j : ℕ) (l : List ℕ) → length l ≤ j → sets out at (drop j l) ≡ out
copy_end out at j l q = ap (sets out at) (drop_all l j q)
