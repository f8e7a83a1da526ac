-- A cell that has a former, met with the type words at a place: names passed one by one, and the former compared.
use mathlib.Core.Path.{◌≡◌, refl, sym, ap, subst, ◌∙◌}
use mathlib.Core.Bool.{Bool}
use mathlib.Core.List.{List}
use Prim.Native.Nat.{ℕ, zero, suc, ◌+◌, ◌≤◌, ◌<◌}
use native.Mathlib.Omega.{arith}
use lib.ListN.{length, get_or, drop}
use lib.Seq.{get_or-drop, drop-drop, ext_get_or}
use Rattle.types_rules.specs.Former.{Former, binding, tag, identifiers}
use Rattle.types_rules.specs.Types.{Ty, Tys, node, tnil, tcons}
use Rattle.types_rules.specs.Formed.{part_count_type}
use Rattle.types_rules.specs.Words.{second, words}
use Rattle.types_cells.specs.Store.{frozen, tag_at, arg_at, count_at, run, former_at}
use Rattle.types_cells.specs.Calls.{Tells}
use Rattle.types_cells.specs.Parts.{Rest}
use Rattle.types_cells.specs.Settled.{heap, Reads, lead_words, name_words, parts_of}
use Rattle.types_cells.proofs.Words.{run_at, run_length}
use Rattle.types_cells.proofs.Heads.{code, coded, tag_code, head_five, binding_inj}
use Rattle.types_cells.proofs.Reading.{tag_there, second_at, parts_are, the_rest, part_next, place_low, like_yes, like_no, is_binding}
use Rattle.types_unifier.specs.Meeting.{Meeting, SameNames}

-- Names passed: j of n.
pub record Named (H : List ℕ) (at n j : ℕ) (l : List ℕ) : Type 0 where
  pub tail : List ℕ
  pub gs : Tys
  pub e : ℕ
  pub rest : Rest H 1 at tail gs e
  pub left : part_count_type gs + j ≡ n
  pub tail_is : tail ≡ drop j l

pub named_start : (H : List ℕ) (p n : ℕ) (l : List ℕ) (gs : Tys) → Reads H p (node (binding l) gs) → get_or H (p + 1) 0 ≡ n → Named H (p + 2) n 0 l
unfolding second tag identifiers name_words lead_words
named_start H p n l gs R en = record {
  tail = l;
  gs = gs;
  e = p + length (words (node (binding l) gs));
  rest = the_rest H p (binding l) gs R;
  left = (let z : part_count_type gs + 0 ≡ part_count_type gs = omega arith in z) ∙ sym (second_at H p (binding l) gs R (part_count_type gs) refl) ∙ en;
  tail_is = refl;
}

pub record NameStep (H : List ℕ) (at n j : ℕ) (l : List ℕ) : Type 0 where
  pub here : get_or l j 0 ≡ get_or H at 0
  pub part : Ty
  pub reads : Reads H (at + 1) part
  pub next : Named H (at + 1 + length (words part)) n (j + 1) l
  pub low : at + 1 < length H

named_c : (H : List ℕ) (at n j : ℕ) (l tail : List ℕ) (gs : Tys) (e : ℕ) → Rest H 1 at tail gs e → part_count_type gs + j ≡ n → tail ≡ drop j l → j < n → NameStep H at n j l
named_c H at n j l tail tnil e R q t lt = absurd (omega arith)
named_c H at n j l tail (tcons g gs) e R q t lt =
    let P = part_next H 1 at tail g gs e R in
    let hd = P.name (λ z. omega arith) in
    let z : j ≡ j + 0 = omega arith in
    record {
      here = ap (λ k. get_or l k 0) z ∙ sym (get_or-drop j l 0 0) ∙ ap (λ m. get_or m 0 0) (sym t ∙ hd);
      part = g;
      reads = P.reads;
      next = record { tail = P.tail; gs = gs; e = e; rest = P.rest; left = omega arith; tail_is = ap (drop 1) (sym hd ∙ t) ∙ drop-drop 1 j l };
      low = place_low H (at + 1) g P.reads;
    }

pub named_step : (H : List ℕ) (at n j : ℕ) (l : List ℕ) → Named H at n j l → j < n → NameStep H at n j l
named_step H at n j l N lt = named_c H at n j l N.tail N.gs N.e N.rest N.left N.tail_is lt

pub named_on : (H : List ℕ) (at n j at' : ℕ) (l : List ℕ) (S : NameStep H at n j l) → at' ≡ at + 1 + length (words S.part) → Named H at' n (j + 1) l
named_on H at n j at' l S q = subst (λ y. Named H y n (j + 1) l) (sym q) S.next

-- The identifiers of a run.
pub ids_yes : (w : List ℕ) (at n : ℕ) (l : List ℕ) → length l ≡ n → at + n ≤ length w → ((i : ℕ) → i < n → get_or w (at + i) 0 ≡ get_or l i 0) → run w at n ≡ l
ids_yes w at n l e r h = ext_get_or 0 (run w at n) l (run_length w at n r ∙ sym e) (λ i q. let z = run_length w at n r in let y : i < n = omega arith in run_at w at n i y ∙ h i y)

pub ids_no : (w : List ℕ) (at n j : ℕ) (l : List ℕ) → j < n → (get_or w (at + j) 0 ≡ get_or l j 0 → ⊥) → run w at n ≡ l → ⊥
ids_no w at n j l q d e = d (sym (run_at w at n j q) ∙ ap (λ z. get_or z j 0) e)

pub binding_of_lem : (H : List ℕ) (p : ℕ) (g : Ty) → Reads H p g → get_or H p 0 ≡ 5 → (l : List ℕ) × (gs : Tys) × Reads H p (node (binding l) gs)
binding_of_lem H p (node h gs) R e = let b = is_binding H p h gs R e in (b.0, gs, subst (λ z. Reads H p (node z gs)) b.1 R)

-- Cell r and the type at p.
module _ (s d : List ℕ) (r p : ℕ) (M : Meeting s d r p) (h : Former) (gs : Tys) (R : Reads (heap s d) p (node h gs)) where
  abbrev w : List ℕ
  w = frozen s

  abbrev Like : Type 0
  Like = (former_at w r ≡ h) × (count_at w r ≡ part_count_type gs)

  pub like_tag : Like → tag_at w r ≡ get_or (heap s d) p 0
  unfolding former_at
  like_tag q = sym (coded (tag_at w r) (arg_at w r) _ M.shaped M.cell.tags) ∙ ap code q.0 ∙ tag_code h ∙ sym (tag_there (heap s d) p h gs R)

  pub tag_differs : (tag_at w r ≡ get_or (heap s d) p 0 → ⊥) → Like → ⊥
  tag_differs ne q = ne (like_tag q)

  pub count_differs : tag_at w r ≡ get_or (heap s d) p 0 → (count_at w r ≡ parts_of (tag_at w r) (get_or (heap s d) (p + 1) 0) → ⊥) → Like → ⊥
  count_differs t ne q = ne (q.1 ∙ sym (count_is t))
    where
      count_is : tag_at w r ≡ get_or (heap s d) p 0 → parts_of (tag_at w r) (get_or (heap s d) (p + 1) 0) ≡ part_count_type gs
      count_is t = ap (λ z. parts_of z (get_or (heap s d) (p + 1) 0)) (t ∙ tag_there (heap s d) p h gs R) ∙ parts_are (heap s d) p h gs R

  module _ (t : tag_at w r ≡ get_or (heap s d) p 0) (k : count_at w r ≡ parts_of (tag_at w r) (get_or (heap s d) (p + 1) 0)) where
    pub count_same : count_at w r ≡ part_count_type gs
    count_same = k ∙ ap (λ z. parts_of z (get_or (heap s d) (p + 1) 0)) (t ∙ tag_there (heap s d) p h gs R) ∙ parts_are (heap s d) p h gs R

    pub plain_like : (tag_at w r ≡ 5 → ⊥) → (lead_words (tag_at w r) ≡ 2 → arg_at w r ≡ get_or (heap s d) (p + 1) 0) → Like
    unfolding former_at
    plain_like ne e = (like_yes (heap s d) p h gs R (tag_at w r) (arg_at w r) _ t ne e, count_same)

    pub plain_unlike : (tag_at w r ≡ 5 → ⊥) → lead_words (tag_at w r) ≡ 2 → (arg_at w r ≡ get_or (heap s d) (p + 1) 0 → ⊥) → Like → ⊥
    unfolding former_at
    plain_unlike ne l e q =
        like_no (heap s d) p h gs R (tag_at w r) (arg_at w r) (run w (arg_at w r) (count_at w r)) t ne l (λ z. M.cell.products z ∙ count_same) e q.0

    module _ (b : tag_at w r ≡ 5) (ans : Bool) (N : SameNames s d r p (count_at w r) ans) where
      B : (l : List ℕ) × (h ≡ binding l)
      B = is_binding (heap s d) p h gs R (sym t ∙ b)

      T : Tells ans (run w (arg_at w r) (count_at w r) ≡ B.0)
      T = N.tells B.0 gs (subst (λ z. Reads (heap s d) p (node z gs)) B.1 R)

      pub names_like : Tells ans Like
      names_like = record {
        holds = λ e. (head_five w r b ∙ ap binding (T.holds e) ∙ sym B.1, count_same);
        fails = λ e q. T.fails e (binding_inj _ _ (sym (head_five w r b) ∙ q.0 ∙ B.1));
      }

pub two_words : (x : ℕ) → x ≤ 2 → 0 < x → (x ≡ 1 → ⊥) → x ≡ 2
two_words x a b d = go x a b d
  where
    go : (x : ℕ) → x ≤ 2 → 0 < x → (x ≡ 1 → ⊥) → x ≡ 2
    go zero a b d = absurd (omega arith)
    go (suc zero) a b d = absurd (d refl)
    go (suc (suc x)) a b d = omega arith
