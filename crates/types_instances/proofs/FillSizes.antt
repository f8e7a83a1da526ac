-- The size of a type with actuals for its parameters, part by part.
use mathlib.Core.Path.{◌≡◌, sym, ap, subst, ◌∙◌}
use mathlib.Core.List.{List}
use Prim.Native.Nat.{ℕ, suc, ◌+◌, ◌≤◌, ◌<◌}
use native.Mathlib.Omega.{arith}
use lib.ListN.{length, get_or}
use Rattle.types_rules.specs.Former.{tag, identifiers}
use Rattle.types_rules.specs.Types.{Ty, Tys, node, tnil, tcons, size, sizes}
use Rattle.types_rules.specs.Formed.{part_count_type}
use Rattle.types_rules.specs.Words.{words}
use Rattle.types_rules.proofs.Words.{words_few}
use Rattle.types_cells.specs.Settled.{Reads, lead_words, name_words, parts_of}
use Rattle.types_solver.specs.Sizes.{cap}
use Rattle.types_cells.specs.Parts.{Rest}
use Rattle.types_cells.proofs.Reading.{rest_start, part_next, parts_are, tag_there, place_low}
use Rattle.types_solver.proofs.Marking.{cap_cases}
use Rattle.types_solver.proofs.Summing.{cap_step, cap_small}
use Rattle.types_instances.specs.Fill.{fill, fills}
use Rattle.types_instances.proofs.FillLaws.{fill_node}

-- A size up to 32 is exact, and means at most 95 words.
pub size_few : (g : Ty) (v : ℕ) → v ≡ cap (size g) → v ≤ 32 → (v ≡ size g) × (length (words g) ≤ 95)
size_few g v e l = cap_cases (size g) _ (λ m q. let w = words_few g in (omega arith, omega arith)) (λ m q. absurd (omega arith))

-- n parts, j passed; sum with the sizes of the others, filled, is m, up to 33; the others end at e.
pub record Totalling (H : List ℕ) (hs : Tys) (w at n j sum m e : ℕ) : Type 0 where
  pub l : List ℕ
  pub gs : Tys
  pub rest : Rest H w at l gs e
  pub left : part_count_type gs + j ≡ n
  pub same : cap (sum + sizes (fills hs gs)) ≡ cap m

pub total_start : (H : List ℕ) (p : ℕ) (g : Ty) (hs : Tys) → Reads H p g → (t w n at : ℕ) → t ≡ get_or H p 0 → (t ≡ 6 → ⊥) → w ≡ name_words t → n ≡ parts_of t (get_or H (p + 1) 0) → at ≡ p + lead_words t →
    Totalling H hs w at n 0 1 (size (fill hs g)) (p + length (words g))
unfolding size
total_start H p (node h gs) hs R t w n at et ne ew en ea =
    let e : t ≡ tag h = et ∙ tag_there H p h gs R in
    record {
      l = identifiers h;
      gs = gs;
      rest = rest_start H p h gs R t w at et ew ea;
      left = (let z : part_count_type gs + 0 ≡ part_count_type gs = omega arith in z) ∙ sym (en ∙ ap (λ y. parts_of y (get_or H (p + 1) 0)) e ∙ parts_are H p h gs R);
      same = ap cap (let z : 1 + sizes (fills hs gs) ≡ suc (sizes (fills hs gs)) = omega arith in z) ∙ ap (λ y. cap (size y)) (sym (fill_node hs h gs (λ q. ne (e ∙ q))));
    }

pub record TotalStep (H : List ℕ) (hs : Tys) (w at n j sum m e : ℕ) : Type 0 where
  pub part : Ty
  pub reads : Reads H (at + w) part
  pub low : at + w < length H
  pub next : (at' x : ℕ) → at' ≡ at + w + length (words part) → x ≡ cap (sum + cap (size (fill hs part))) → Totalling H hs w at' n (j + 1) x m e

total_c : (H : List ℕ) (hs : Tys) (w at n j sum m : ℕ) (l : List ℕ) (gs : Tys) (e : ℕ) → Rest H w at l gs e → part_count_type gs + j ≡ n → cap (sum + sizes (fills hs gs)) ≡ cap m → j < n → TotalStep H hs w at n j sum m e
unfolding size fill
total_c H hs w at n j sum m l tnil e R q s lt = absurd (omega arith)
total_c H hs w at n j sum m l (tcons g gs) e R q s lt =
    let P = part_next H w at l g gs e R in
    record {
      part = g;
      reads = P.reads;
      low = place_low H (at + w) g P.reads;
      next = λ at' x ea ex. record {
        l = P.tail;
        gs = gs;
        rest = subst (λ y. Rest H w y P.tail gs e) (sym ea) P.rest;
        left = omega arith;
        same = ap (λ y. cap (y + sizes (fills hs gs))) ex ∙ cap_step sum (size (fill hs g)) (sizes (fills hs gs)) ∙ s;
      };
    }

pub total_step : (H : List ℕ) (hs : Tys) (w at n j sum m e : ℕ) → Totalling H hs w at n j sum m e → j < n → TotalStep H hs w at n j sum m e
total_step H hs w at n j sum m e S lt = total_c H hs w at n j sum m S.l S.gs e S.rest S.left S.same lt

total_end_c : (hs : Tys) (n j sum m : ℕ) (gs : Tys) → part_count_type gs + j ≡ n → cap (sum + sizes (fills hs gs)) ≡ cap m → n ≤ j → sum ≤ 33 → sum ≡ cap m
unfolding size fill
total_end_c hs n j sum m tnil q s lt f = sym (cap_small sum f) ∙ ap cap (let z : sum ≡ sum + 0 = omega arith in z) ∙ s
total_end_c hs n j sum m (tcons g gs) q s lt f = absurd (omega arith)

pub total_end : (H : List ℕ) (hs : Tys) (w at n j sum m e : ℕ) → Totalling H hs w at n j sum m e → n ≤ j → sum ≤ 33 → sum ≡ cap m
total_end H hs w at n j sum m e S lt f = total_end_c hs n j sum m S.gs S.left S.same lt f

stop_c : (H : List ℕ) (w at n j : ℕ) (l : List ℕ) (gs : Tys) (e : ℕ) → Rest H w at l gs e → part_count_type gs + j ≡ n → n ≤ j → at ≡ e
unfolding words
stop_c H w at n j l tnil e R q lt = omega (arith, R.end)
stop_c H w at n j l (tcons g gs) e R q lt = absurd (omega arith)

pub total_stop : (H : List ℕ) (hs : Tys) (w at n j sum m e : ℕ) → Totalling H hs w at n j sum m e → n ≤ j → at ≡ e
total_stop H hs w at n j sum m e S lt = stop_c H w at n j S.l S.gs e S.rest S.left lt
