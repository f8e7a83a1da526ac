-- The words of a type with actuals for its parameters, part by part.
use mathlib.Core.Path.{◌≡◌, refl, sym, ap, ap₂, subst, ◌∙◌}
use mathlib.Core.List.{List, [], ◌∷◌, ◌++◌, append_assoc}
use Prim.Native.Nat.{ℕ, zero, suc, ◌+◌, ◌≤◌, ◌<◌}
use native.Mathlib.Omega.{arith}
use lib.ListN.{length, get_or, length-append}
use lib.Seq.{sets}
use Rattle.words.proofs.Lists.{sets_append}
use Rattle.types_rules.specs.Former.{Former, int, given, parameter, power, product, binding, tag, identifiers}
use Rattle.types_rules.specs.Types.{Ty, Tys, node, tnil, tcons}
use Rattle.types_rules.specs.Formed.{part_count_type}
use Rattle.types_rules.specs.Words.{second, words, part_words}
use Rattle.types_cells.specs.Store.{run}
use Rattle.types_cells.specs.Settled.{Reads, lead_words, name_words, parts_of}
use Rattle.types_solver.specs.Written.{lead, Wrote}
use Rattle.types_cells.specs.Parts.{Names, Rest}
use Rattle.types_cells.proofs.Reading.{rest_start, Part, part_next, parts_are, tag_there, inside, place_low}
use Rattle.types_cells.proofs.Words.{run_cons, run_length}
use Rattle.types_solver.proofs.Copying.{run_words_lem}
use Rattle.types_instances.specs.Fill.{fill, fills}
use Rattle.types_instances.proofs.FillLaws.{fills_count, fill_node}

-- The words of a type from its parts on, filled.
unfoldable pub body : Tys → Ty → List ℕ
body hs (node h gs) = part_words (identifiers h) (fills hs gs)

pub lead_length : (h : Former) (n : ℕ) → length (lead h n) ≡ lead_words (tag h)
unfolding lead_words tag second
lead_length int n = refl
lead_length (given g) n = refl
lead_length (parameter i) n = refl
lead_length power n = refl
lead_length product n = refl
lead_length (binding l) n = refl

lead_run : (H : List ℕ) (p : ℕ) (h : Former) (gs : Tys) → Reads H p (node h gs) → run H p (lead_words (tag h)) ≡ lead h (part_count_type gs)
unfolding words
lead_run H p h gs R =
    run_words_lem H p (lead h (part_count_type gs)) (part_words (identifiers h) gs ++ R.after) (lead_words (tag h)) (lead_length h (part_count_type gs))
    (R.words_at ∙ append_assoc (lead h (part_count_type gs)) (part_words (identifiers h) gs) R.after)

-- The words of a filled type: those before the parts stand at p.
pub fill_words : (H : List ℕ) (p : ℕ) (g : Ty) (hs : Tys) → Reads H p g → (t k : ℕ) → t ≡ get_or H p 0 → (t ≡ 6 → ⊥) → k ≡ lead_words t → words (fill hs g) ≡ run H p k ++ body hs g
unfolding words body
fill_words H p (node h gs) hs R t k et ne ek =
    let e : t ≡ tag h = et ∙ tag_there H p h gs R in
    ap words (fill_node hs h gs (λ q. ne (e ∙ q)))
    ∙ ap (λ n. lead h n ++ part_words (identifiers h) (fills hs gs)) (fills_count hs gs)
    ∙ ap (λ l. l ++ part_words (identifiers h) (fills hs gs)) (sym (ap (run H p) (ek ∙ ap lead_words e) ∙ lead_run H p h gs R))

pub lead_inside : (H : List ℕ) (p : ℕ) (g : Ty) → Reads H p g → (t : ℕ) → t ≡ get_or H p 0 → p + lead_words t ≤ length H
unfolding words
lead_inside H p (node h gs) R t et =
    let e : t ≡ tag h = et ∙ tag_there H p h gs R in
    let f = ap lead_words e in
    omega (arith, inside H p (node h gs) R, lead_length h (part_count_type gs), length-append (second h (part_count_type gs)) (part_words (identifiers h) gs))

-- The words of a part: its name, itself, the others.
part_words_lem : (H : List ℕ) (w at : ℕ) (l : List ℕ) (g : Ty) (gs : Tys) (e : ℕ) → Names w l (tcons g gs) → (P : Part H w at l g gs e) → at + w ≤ length H → (k : Ty) (ks : Tys) →
    part_words l (tcons k ks) ≡ run H at w ++ (words k ++ part_words P.tail ks)
unfolding words run
part_words_lem H zero at l g gs e N P i k ks =
    let n = P.none refl in
    ap (λ x. part_words x (tcons k ks)) n.0 ∙ ap (λ x. words k ++ part_words x ks) (sym n.1)
part_words_lem H (suc w) at l g gs e N P i k ks =
    let r : run H at (suc w) ≡ get_or H at 0 ∷ [] = ap (λ x. run H at (suc x)) N.0 ∙ run_cons H at 0 (omega arith) in
    ap (λ x. part_words x (tcons k ks)) (P.name (λ z. omega arith)) ∙ ap (λ x. x ++ (words k ++ part_words P.tail ks)) (sym r)

-- n parts, j passed; the words of the others, filled, from e on complete the area `all`, and end at `stop`.
pub record Emitting (H : List ℕ) (hs : Tys) (w q n j : ℕ) (out : List ℕ) (e : ℕ) (all : List ℕ) (stop : ℕ) : Type 0 where
  pub l : List ℕ
  pub gs : Tys
  pub z : ℕ
  pub rest : Rest H w q l gs z
  pub left : part_count_type gs + j ≡ n
  pub area : all ≡ sets out e (part_words l (fills hs gs))
  pub ends : stop ≡ e + length (part_words l (fills hs gs))

pub emit_start : (H : List ℕ) (p : ℕ) (g : Ty) (hs : Tys) → Reads H p g → (t w n q : ℕ) → t ≡ get_or H p 0 → w ≡ name_words t → n ≡ parts_of t (get_or H (p + 1) 0) → q ≡ p + lead_words t →
    (out : List ℕ) (e : ℕ) → Emitting H hs w q n 0 out e (sets out e (body hs g)) (e + length (body hs g))
unfolding body
emit_start H p (node h gs) hs R t w n q et ew en eq out e =
    let b : t ≡ tag h = et ∙ tag_there H p h gs R in
    record {
      l = identifiers h;
      gs = gs;
      z = p + length (words (node h gs));
      rest = rest_start H p h gs R t w q et ew eq;
      left = (let z : part_count_type gs + 0 ≡ part_count_type gs = omega arith in z) ∙ sym (en ∙ ap (λ y. parts_of y (get_or H (p + 1) 0)) b ∙ parts_are H p h gs R);
      area = refl;
      ends = refl;
    }

pub record EmitStep (H : List ℕ) (hs : Tys) (w q n j : ℕ) (out : List ℕ) (e : ℕ) (all : List ℕ) (stop : ℕ) : Type 0 where
  pub part : Ty
  pub reads : Reads H (q + w) part
  pub low : q + w < length H
  pub room : e + (w + length (words (fill hs part))) ≤ stop
  pub next : (o₁ o₂ : List ℕ) (e₁ e₂ q' : ℕ) → Wrote out o₁ e e₁ (run H q w) → Wrote o₁ o₂ e₁ e₂ (words (fill hs part)) → q' ≡ q + w + length (words part) → Emitting H hs w q' n (j + 1) o₂ e₂ all stop

emit_c : (H : List ℕ) (hs : Tys) (w q n j : ℕ) (out : List ℕ) (e : ℕ) (all : List ℕ) (stop : ℕ) (l : List ℕ) (gs : Tys) (z : ℕ) → Rest H w q l gs z → part_count_type gs + j ≡ n →
    all ≡ sets out e (part_words l (fills hs gs)) → stop ≡ e + length (part_words l (fills hs gs)) → j < n → EmitStep H hs w q n j out e all stop
unfolding fill
emit_c H hs w q n j out e all stop l tnil z R f a b lt = absurd (omega arith)
emit_c H hs w q n j out e all stop l (tcons g gs) z R f a b lt =
    let P = part_next H w q l g gs z R in
    let low = place_low H (q + w) g P.reads in
    let here = words (fill hs g) in
    let more = part_words P.tail (fills hs gs) in
    let ws = part_words_lem H w q l g gs z R.names P (omega arith) (fill hs g) (fills hs gs) in
    let rl = run_length H q w (omega arith) in
    let len : length (part_words l (tcons (fill hs g) (fills hs gs))) ≡ w + (length here + length more) =
    ap length ws ∙ length-append (run H q w) (here ++ more) ∙ ap₂ (λ x y. x + y) rl (length-append here more) in
    record {
      part = g;
      reads = P.reads;
      low = low;
      room = omega arith;
      next = λ o₁ o₂ e₁ e₂ q' M N eq.
          let m = M.end in
          let k = N.end in
          record {
            l = P.tail;
            gs = gs;
            z = z;
            rest = subst (λ y. Rest H w y P.tail gs z) (sym eq) P.rest;
            left = omega arith;
            area = a ∙ ap (sets out e) ws ∙ sets_append out e (run H q w) (here ++ more)
                ∙ ap₂ (λ x y. sets x y (here ++ more)) (sym M.area) (sym m)
                ∙ sets_append o₁ e₁ here more ∙ ap₂ (λ x y. sets x y more) (sym N.area) (sym k);
            ends = omega arith;
          };
    }

pub emit_step : (H : List ℕ) (hs : Tys) (w q n j : ℕ) (out : List ℕ) (e : ℕ) (all : List ℕ) (stop : ℕ) → Emitting H hs w q n j out e all stop → j < n → EmitStep H hs w q n j out e all stop
emit_step H hs w q n j out e all stop S lt = emit_c H hs w q n j out e all stop S.l S.gs S.z S.rest S.left S.area S.ends lt

emit_end_c : (hs : Tys) (n j : ℕ) (out : List ℕ) (e : ℕ) (l : List ℕ) (gs : Tys) → part_count_type gs + j ≡ n → n ≤ j → part_words l (fills hs gs) ≡ []
unfolding fill words
emit_end_c hs n j out e l tnil q lt = refl
emit_end_c hs n j out e l (tcons g gs) q lt = absurd (omega arith)

-- After the last part.
pub emit_end : (H : List ℕ) (hs : Tys) (w q n j : ℕ) (out : List ℕ) (e : ℕ) (all : List ℕ) (stop : ℕ) → Emitting H hs w q n j out e all stop → n ≤ j → (all ≡ out) × (stop ≡ e)
emit_end H hs w q n j out e all stop S lt =
    let z = emit_end_c hs n j out e S.l S.gs S.left lt in
    (S.area ∙ ap (sets out e) z, S.ends ∙ ap (λ y. e + length y) z ∙ (let y : e + 0 ≡ e = omega arith in y))

-- The words before the parts, then those of the parts.
pub wrote_all : (H : List ℕ) (p : ℕ) (g : Ty) (hs : Tys) → Reads H p g → (t k : ℕ) → t ≡ get_or H p 0 → (t ≡ 6 → ⊥) → k ≡ lead_words t → (o₀ o₁ o₂ : List ℕ) (at e₁ e₂ : ℕ) →
    Wrote o₀ o₁ at e₁ (run H p k) → (sets o₁ e₁ (body hs g) ≡ o₂) × (e₁ + length (body hs g) ≡ e₂) → Wrote o₀ o₂ at e₂ (words (fill hs g))
wrote_all H p g hs R t k et ne ek o₀ o₁ o₂ at e₁ e₂ W B =
    let f = fill_words H p g hs R t k et ne ek in
    let b = B.1 in
    let m = W.end in
    let len = ap length f ∙ length-append (run H p k) (body hs g) in
    record {
      area = sym (ap (sets o₀ at) f ∙ sets_append o₀ at (run H p k) (body hs g) ∙ ap₂ (λ x y. sets x y (body hs g)) (sym W.area) (sym m) ∙ B.0);
      end = omega arith;
    }
