-- A former met with a type: its parts are given the type's parts, one after the other.
use mathlib.Core.Path.{◌≡◌, refl, sym, ap, ap₂, subst, ◌∙◌}
use mathlib.Core.Bool.{Bool, true, false}
use mathlib.Core.List.{List, ◌∷◌, map}
use Prim.Native.Nat.{ℕ, suc, ◌+◌, ◌-◌, ◌≤◌, ◌<◌}
use native.Mathlib.Omega.{arith}
use lib.Dec.{eqb}
use lib.ListN.{length, get_or, length-map}
use borrow.Author.Tests.{eqb-true, eqb-false}
use Rattle.types_rules.proofs.Rational.{cons_0, cons_1, rep_sat}
use Rattle.types_rules.proofs.Terms.{bool_no}
use Rattle.types_rules.proofs.Trees.{build_former, build_parts, whole_node, wholes}
use Rattle.types_rules.specs.Classes.{rep}
use Rattle.types_rules.specs.Equations.{Pairs, Solves}
use Rattle.types_rules.specs.Former.{Former, identifiers}
use Rattle.types_rules.specs.Trees.{Extent, Tree, build, whole}
use Rattle.types_rules.specs.Types.{Ty, Tys, node, tnil, tcons}
use Rattle.types_rules.specs.Formed.{part_count_type}
use Rattle.types_rules.specs.Words.{words}
use Rattle.types_cells.specs.Store.{frozen, tag_at, former_at, count_at, first_at, parts_at, run, Held}
use Rattle.types_cells.specs.Calls.{Root}
use Rattle.types_cells.specs.Settled.{heap, Reads, name_words, lead_words, Pinned, ObeysIn, FitsIn, Ends, Kept, Pinning, Adds, Pin}
use Rattle.types_unifier.specs.Meeting.{Meeting, SameFormer}
use Rattle.types_cells.proofs.LinkLaws.{rep_below}
use Rattle.types_cells.proofs.Words.{run_cons, run_length, run_at, get_d_in}
use Rattle.types_cells.proofs.Heads.{view_shape}
use Rattle.types_cells.specs.Parts.{Rest}
use Rattle.types_cells.proofs.Reading.{part_next, rest_start, place_low}
use Rattle.types_unifier.proofs.MeetingLaws.{like_tag}
use Rattle.types_cells.proofs.SettlingLaws.{heap_kept, kept_refl, kept_on, kept_held}

-- The types of the parts of r from number j on.
abbrev pub types : {D : Type 0} → List ℕ → ℕ → ℕ → ℕ → (ℕ → D) → List D
types w r k j σ = map σ (run w (first_at w r + j) (k - j))

-- j of the k parts are done: t has what s had, and their types.
pub record Walked (s t d : List ℕ) (n : ℕ) (L : Pairs ℕ) (r k w at j p : ℕ) (h : Former) (gs : Tys) : Type 0 where
  pub l : List ℕ
  pub left : Tys
  pub rest : Rest (heap s d) w at l left (p + length (words (node h gs)))
  pub count : part_count_type left + j ≡ k
  pub ahead : (ε : Extent) (σ : ℕ → Tree ε) → FitsIn ε (frozen s) n σ → Solves σ L → ObeysIn ε s d n σ → types (frozen s) r k 0 σ ≡ wholes ε gs → ObeysIn ε t d n σ × (types (frozen s) r k j σ ≡ wholes ε left)
  pub back : (ε : Extent) (σ : ℕ → Tree ε) → FitsIn ε (frozen s) n σ → Solves σ L → ObeysIn ε t d n σ → ObeysIn ε s d n σ
  pub all : (ε : Extent) (σ : ℕ → Tree ε) → FitsIn ε (frozen s) n σ → Solves σ L → ObeysIn ε t d n σ → types (frozen s) r k j σ ≡ wholes ε left → types (frozen s) r k 0 σ ≡ wholes ε gs

pub walk_start : (s d : List ℕ) (n : ℕ) (L : Pairs ℕ) (r k p : ℕ) (h : Former) (gs : Tys) → Reads (heap s d) p (node h gs) → k ≡ part_count_type gs → (t w at : ℕ) → t ≡ get_or (heap s d) p 0 →
    w ≡ name_words t → at ≡ p + lead_words t → Walked s s d n L r k w at 0 p h gs
walk_start s d n L r k p h gs R ek t w at et ew ea = record {
  l = identifiers h;
  left = gs;
  rest = rest_start (heap s d) p h gs R t w at et ew ea;
  count = (let z : part_count_type gs + 0 ≡ part_count_type gs = omega arith in z) ∙ sym ek;
  ahead = λ ε σ F S O e. (O, e);
  back = λ ε σ F S O. O;
  all = λ ε σ F S O e. e;
}

-- The cell of the next part, and its type.
pub record Ahead (s d : List ℕ) (w at : ℕ) : Type 0 where
  pub part : Ty
  pub reads : Reads (heap s d) (at + w) part
  pub low : at + w < length (heap s d)

module _ (s t d : List ℕ) (n : ℕ) (L : Pairs ℕ) (r k w at j p : ℕ) (h : Former) (gs : Tys) (lt : j < k) (room : first_at (frozen s) r + k ≤ length (frozen s)) where
  abbrev W : List ℕ
  W = frozen s

  abbrev c : ℕ
  c = get_or W (first_at W r + j) 0

  split : (ε : Extent) (σ : ℕ → Tree ε) → types W r k j σ ≡ σ c ∷ types W r k (j + 1) σ
  split ε σ =
      let e : k - j ≡ suc (k - (j + 1)) = omega arith in
      let q : first_at W r + (j + 1) ≡ suc (first_at W r + j) = omega arith in
      ap (map σ) (ap (run W (first_at W r + j)) e ∙ run_cons W (first_at W r + j) (k - (j + 1)) (omega arith))
      ∙ ap (λ z. σ c ∷ map σ (run W z (k - (j + 1)))) (sym q)

  ahead_c : (l : List ℕ) (left : Tys) → Rest (heap s d) w at l left (p + length (words (node h gs))) → part_count_type left + j ≡ k → Ahead s d w at
  ahead_c l tnil R q = absurd (omega arith)
  ahead_c l (tcons g ls) R q = let P = part_next (heap s d) w at l g ls _ R in record { part = g; reads = P.reads; low = place_low (heap s d) (at + w) g P.reads }

  pub walk_ahead : Walked s t d n L r k w at j p h gs → Ahead s d w at
  walk_ahead K = ahead_c K.l K.left K.rest K.count

  module _ (H : Held s n L) (Kt : Kept s t) (pinned : Pinned t d n) (made : c < n) where
    held_t : Held t n L
    held_t = kept_held s t Kt n L H

    fits_t : (ε : Extent) (σ : ℕ → Tree ε) → FitsIn ε (frozen s) n σ → FitsIn ε (frozen t) n σ
    fits_t ε σ F = subst (λ z. FitsIn ε z n σ) (sym Kt.still) F

    reads_t : (g : Ty) → Reads (heap s d) (at + w) g → Reads (heap t d) (at + w) g
    reads_t g R = subst (λ z. Reads z (at + w) g) (sym (heap_kept s t d Kt.low)) R

    step_c : (u : List ℕ) (e : ℕ) → Pin t u d c (at + w) true → (l : List ℕ) (left : Tys) → Rest (heap s d) w at l left (p + length (words (node h gs))) → part_count_type left + j ≡ k →
        ((g : Ty) → Reads (heap s d) (at + w) g → e ≡ at + w + length (words g)) →
        ((ε : Extent) (σ : ℕ → Tree ε) → FitsIn ε (frozen s) n σ → Solves σ L → ObeysIn ε s d n σ → types W r k 0 σ ≡ wholes ε gs → ObeysIn ε t d n σ × (types W r k j σ ≡ wholes ε left)) →
        ((ε : Extent) (σ : ℕ → Tree ε) → FitsIn ε (frozen s) n σ → Solves σ L → ObeysIn ε t d n σ → ObeysIn ε s d n σ) →
        ((ε : Extent) (σ : ℕ → Tree ε) → FitsIn ε (frozen s) n σ → Solves σ L → ObeysIn ε t d n σ → types W r k j σ ≡ wholes ε left → types W r k 0 σ ≡ wholes ε gs) → Walked s u d n L r k w e (j + 1) p h gs
    unfolding wholes
    step_c u e Q l tnil R q ee a b o = absurd (omega arith)
    step_c u e Q l (tcons g ls) R q ee a b o =
        let P = part_next (heap s d) w at l g ls _ R in
        record {
          l = P.tail;
          left = ls;
          rest = subst (λ z. Rest (heap s d) w z P.tail ls (p + length (words (node h gs)))) (sym (ee g P.reads)) P.rest;
          count = omega arith;
          ahead = λ ε σ F S O z.
              let y = a ε σ F S O z in
              let x = sym (split ε σ) ∙ y.1 in
              ((Q.goes refl n L held_t pinned made g (reads_t g P.reads) ε σ (fits_t ε σ F) S).after y.0 (cons_0 _ _ _ _ x), cons_1 _ _ _ _ x);
          back = λ ε σ F S O. b ε σ F S ((Q.goes refl n L held_t pinned made g (reads_t g P.reads) ε σ (fits_t ε σ F) S).before O);
          all = λ ε σ F S O z.
              let A = Q.goes refl n L held_t pinned made g (reads_t g P.reads) ε σ (fits_t ε σ F) S in
              o ε σ F S (A.before O) (split ε σ ∙ ap₂ ◌∷◌ (A.type O) z);
        }

    pub walk_step : (u : List ℕ) (e : ℕ) → Pin t u d c (at + w) true → ((g : Ty) → Reads (heap s d) (at + w) g → e ≡ at + w + length (words g)) → Walked s t d n L r k w at j p h gs →
        Walked s u d n L r k w e (j + 1) p h gs
    walk_step u e Q ee K = step_c u e Q K.l K.left K.rest K.count ee K.ahead K.back K.all

    stop_c : (u : List ℕ) → Pin t u d c (at + w) false → (l : List ℕ) (left : Tys) → Rest (heap s d) w at l left (p + length (words (node h gs))) → part_count_type left + j ≡ k →
        (ε : Extent) (σ : ℕ → Tree ε) → FitsIn ε (frozen s) n σ → Solves σ L → ObeysIn ε t d n σ → types W r k j σ ≡ wholes ε left → ⊥
    unfolding wholes
    stop_c u Q l tnil R q ε σ F S O z = absurd (omega arith)
    stop_c u Q l (tcons g ls) R q ε σ F S O z =
        let P = part_next (heap s d) w at l g ls _ R in
        Q.stops refl n L held_t pinned made g (reads_t g P.reads) ε σ (fits_t ε σ F) S O (cons_0 _ _ _ _ (sym (split ε σ) ∙ z))

    pub walk_stop : (u : List ℕ) → Pin t u d c (at + w) false → Walked s t d n L r k w at j p h gs → (ε : Extent) (σ : ℕ → Tree ε) → FitsIn ε (frozen s) n σ → Solves σ L → ObeysIn ε s d n σ → types W r k 0 σ ≡ wholes ε gs → ⊥
    walk_stop u Q K ε σ F S O z = let y = K.ahead ε σ F S O z in stop_c u Q K.l K.left K.rest K.count ε σ F S y.0 y.1

done_c : (w : List ℕ) (r k j : ℕ) (ε : Extent) (σ : ℕ → Tree ε) → k ≤ j → (left : Tys) → part_count_type left + j ≡ k → types w r k j σ ≡ wholes ε left
unfolding wholes run
done_c w r k j ε σ l tnil q = let e : k - j ≡ 0 = omega arith in ap (λ z. map σ (run w (first_at w r + j) z)) e
done_c w r k j ε σ l (tcons g ls) q = absurd (omega arith)

count_list : (ε : Extent) (gs : Tys) → length (wholes ε gs) ≡ part_count_type gs
unfolding wholes
count_list ε tnil = refl
count_list ε (tcons g gs) = ap suc (count_list ε gs)

-- The cell c, whose representative is r, and its type.
module _ (s d : List ℕ) (c r k p : ℕ) (Q : Root s c r) (ek : k ≡ count_at (frozen s) r) (tx : 0 < tag_at (frozen s) r) (n : ℕ) (L : Pairs ℕ) (H : Held s n L) (made : c < n) where
  abbrev e : rep eqb L c ≡ r
  e = Q.is n L H made

  pub r_below : r < n
  r_below = subst (λ z. z < n) e (rep_below n L H.inside c made)

  pub r_room : first_at (frozen s) r + k ≤ length (frozen s)
  r_room = let z = (H.cells r r_below).room in omega arith

  pub part_below : (j : ℕ) → j < k → get_or (frozen s) (first_at (frozen s) r + j) 0 < n
  part_below j l =
      let C = H.cells r r_below in
      let jc : j < count_at (frozen s) r = omega arith in
      let z = run_length (frozen s) (first_at (frozen s) r) (count_at (frozen s) r) C.room in
      let o = C.older _ (get_d_in (parts_at (frozen s) r) j (omega arith)) in
      let q = run_at (frozen s) (first_at (frozen s) r) (count_at (frozen s) r) j jc in
      let b = r_below in
      omega arith

  all_parts : (ε : Extent) (σ : ℕ → Tree ε) → types (frozen s) r k 0 σ ≡ map σ (parts_at (frozen s) r)
  all_parts ε σ =
      let a : first_at (frozen s) r + 0 ≡ first_at (frozen s) r = omega arith in
      let b : k - 0 ≡ count_at (frozen s) r = omega arith in
      ap₂ (λ x y. map σ (run (frozen s) x y)) a b

  type_of_lem : (ε : Extent) (σ : ℕ → Tree ε) → FitsIn ε (frozen s) n σ → Solves σ L → σ c ≡ build ε (former_at (frozen s) r) (types (frozen s) r k 0 σ)
  type_of_lem ε σ F S =
      sym (rep_sat ℕ eqb eqb-true eqb-false σ L S c) ∙ ap σ e ∙ F r _ _ (view_shape (frozen s) n r r_below tx) ∙ ap (build ε (former_at (frozen s) r)) (sym (all_parts ε σ))

  pub unlike : (h : Former) (gs : Tys) → (((former_at (frozen s) r ≡ h) × (count_at (frozen s) r ≡ part_count_type gs)) → ⊥) → (ε : Extent) (σ : ℕ → Tree ε) → FitsIn ε (frozen s) n σ → Solves σ L → σ c ≡ whole ε (node h gs) → ⊥
  unlike h gs ne ε σ F S q =
      let z = sym (type_of_lem ε σ F S) ∙ q ∙ whole_node ε h gs in
      ne (build_former ε _ _ _ _ z, sym ek ∙ sym len ∙ sym (length-map (run (frozen s) (first_at (frozen s) r + 0) (k - 0)) σ) ∙ ap length (build_parts ε _ _ _ _ z) ∙ count_list ε gs)
    where
      len : length (run (frozen s) (first_at (frozen s) r + 0) (k - 0)) ≡ k
      len = run_length (frozen s) (first_at (frozen s) r + 0) (k - 0) (let y = r_room in omega arith) ∙ (let y : k - 0 ≡ k = omega arith in y)

  module _ (t : List ℕ) (w at j : ℕ) (h : Former) (gs : Tys) (same : former_at (frozen s) r ≡ h) (K : Walked s t d n L r k w at j p h gs) (l : k ≤ j) where
    pub walk_end : (ε : Extent) (σ : ℕ → Tree ε) → FitsIn ε (frozen s) n σ → Solves σ L → Adds ε s t d n c (node h gs) σ
    walk_end ε σ F S = record {
      before = K.back ε σ F S;
      type = λ O. type_of_lem ε σ F S ∙ ap₂ (build ε) same (K.all ε σ F S O (done_c (frozen s) r k j ε σ l K.left K.count)) ∙ sym (whole_node ε h gs);
      after = λ O q. (K.ahead ε σ F S O (build_parts ε _ _ _ _ (sym (type_of_lem ε σ F S) ∙ q ∙ whole_node ε h gs))).0;
    }

  pub types_are : (h : Former) (gs : Tys) (ε : Extent) (σ : ℕ → Tree ε) → FitsIn ε (frozen s) n σ → Solves σ L → σ c ≡ whole ε (node h gs) → types (frozen s) r k 0 σ ≡ wholes ε gs
  types_are h gs ε σ F S q = build_parts ε _ _ _ _ (sym (type_of_lem ε σ F S) ∙ q ∙ whole_node ε h gs)

pub root_below : (s : List ℕ) (c r n : ℕ) (L : Pairs ℕ) → Root s c r → Held s n L → c < n → r < n
root_below s c r n L Q H m = subst (λ z. z < n) (Q.is n L H m) (rep_below n L H.inside c m)

pub pin_as : (t u d : List ℕ) (x y q : ℕ) (b b' : Bool) → Pin t u d x q b → x ≡ y → b ≡ b' → Pin t u d y q b'
pin_as t u d x y q b b' X e f = subst (λ z. Pin t u d z q b') e (subst (λ z. Pin t u d x q z) f X)

pub reads_as : (G H : List ℕ) (q : ℕ) (g : Ty) → G ≡ H → Reads H q g → Reads G q g
reads_as G H q g e R = subst (λ z. Reads z q g) (sym e) R

-- A cell is given the type that its representative is given.
pub pin_root : (s s' d : List ℕ) (c r p : ℕ) (b : Bool) → Root s c r → Pin s s' d r p b → Pin s s' d c p b
pin_root s s' d c r p b Q X = record {
  kept = X.kept;
  pinned = λ f n L H P m. X.pinned f n L H P (below n L H m);
  goes = λ f n L H P m g R ε σ F S.
      let A = X.goes f n L H P (below n L H m) g R ε σ F S in
      let e = eq n L H m ε σ S in
      record { before = A.before; type = λ O. e ∙ A.type O; after = λ O q. A.after O (sym e ∙ q) };
  stops = λ f n L H P m g R ε σ F S O q. X.stops f n L H P (below n L H m) g R ε σ F S O (sym (eq n L H m ε σ S) ∙ q);
}
  where
    below : (n : ℕ) (L : Pairs ℕ) → Held s n L → c < n → r < n
    below n L H m = subst (λ z. z < n) (Q.is n L H m) (rep_below n L H.inside c m)

    eq : (n : ℕ) (L : Pairs ℕ) → Held s n L → c < n → (ε : Extent) (σ : ℕ → Tree ε) → Solves σ L → σ c ≡ σ r
    eq n L H m ε σ S = sym (rep_sat ℕ eqb eqb-true eqb-false σ L S c) ∙ ap σ (Q.is n L H m)

-- The loop over the parts.
pub record Loop (s t d : List ℕ) (c r k w at j p : ℕ) : Type 0 where
  pub kept : Kept s t
  pub later : p < at
  pub walk : (n : ℕ) (L : Pairs ℕ) → Held s n L → Pinned s d n → c < n → Pinned t d n × ((h : Former) (gs : Tys) → Reads (heap s d) p (node h gs) → Walked s t d n L r k w at j p h gs)

module _ (s d : List ℕ) (c r k p : ℕ) (Q : Root s c r) (ek : k ≡ count_at (frozen s) r) (tx : 0 < tag_at (frozen s) r) where
  pub pin_unlike : SameFormer s d r p false → Pin s s d c p false
  pin_unlike X = record {
    kept = kept_refl s;
    pinned = λ f. absurd (bool_no false f refl);
    goes = λ f. absurd (bool_no false f refl);
    stops = λ f n L H P m g R ε σ F S O q. go n L H m g R ε σ F S q;
  }
    where
      go : (n : ℕ) (L : Pairs ℕ) → Held s n L → c < n → (g : Ty) → Reads (heap s d) p g → (ε : Extent) (σ : ℕ → Tree ε) → FitsIn ε (frozen s) n σ → Solves σ L → σ c ≡ whole ε g → ⊥
      go n L H m (node h gs) R ε σ F S q = unlike s d c r k p Q ek tx n L H m h gs ((X.tells h gs R).fails refl) ε σ F S q

  module _ (t : List ℕ) (w at j : ℕ) (I : Loop s t d c r k w at j p) (X : SameFormer s d r p true) where
    pub pin_done : k ≤ j → Pin s t d c p true
    pin_done l = record {
      kept = I.kept;
      pinned = λ f n L H P m. (I.walk n L H P m).0;
      goes = λ f n L H P m g R ε σ F S. go n L H P m g R ε σ F S;
      stops = λ f. absurd (bool_no true refl f);
    }
      where
        go : (n : ℕ) (L : Pairs ℕ) → Held s n L → Pinned s d n → c < n → (g : Ty) → Reads (heap s d) p g → (ε : Extent) (σ : ℕ → Tree ε) → FitsIn ε (frozen s) n σ → Solves σ L → Adds ε s t d n c g σ
        go n L H P m (node h gs) R ε σ F S = walk_end s d c r k p Q ek tx n L H m t w at j h gs ((X.tells h gs R).holds refl).0 ((I.walk n L H P m).1 h gs R) l ε σ F S

    module _ (lt : j < k) where
      pub pin_failed : (u : List ℕ) → Pin t u d (get_or (frozen s) (first_at (frozen s) r + j) 0) (at + w) false → Pin s u d c p false
      pin_failed u Y = record {
        kept = kept_on s t u I.kept Y.kept;
        pinned = λ f. absurd (bool_no false f refl);
        goes = λ f. absurd (bool_no false f refl);
        stops = λ f n L H P m g R ε σ F S O q. go n L H P m g R ε σ F S O q;
      }
        where
          go : (n : ℕ) (L : Pairs ℕ) → Held s n L → Pinned s d n → c < n → (g : Ty) → Reads (heap s d) p g → (ε : Extent) (σ : ℕ → Tree ε) → FitsIn ε (frozen s) n σ → Solves σ L → ObeysIn ε s d n σ → σ c ≡ whole ε g → ⊥
          go n L H P m (node h gs) R ε σ F S O q =
              let W = I.walk n L H P m in
              walk_stop s t d n L r k w at j p h gs lt (r_room s d c r k p Q ek tx n L H m) H I.kept W.0 (part_below s d c r k p Q ek tx n L H m j lt) u Y (W.1 h gs R) ε σ F S O
              (types_are s d c r k p Q ek tx n L H m h gs ε σ F S q)

      pub pin_next : (u : List ℕ) (e : ℕ) → Pin t u d (get_or (frozen s) (first_at (frozen s) r + j) 0) (at + w) true → Ends u d (at + w) e → p < e → Loop s u d c r k w e (j + 1) p
      pin_next u e Y E le = record {
        kept = kept_on s t u I.kept Y.kept;
        later = le;
        walk = λ n L H P m.
            let W = I.walk n L H P m in
            let b = part_below s d c r k p Q ek tx n L H m j lt in (
              Y.pinned refl n L (kept_held s t I.kept n L H) W.0 b,
              λ h gs R. walk_step s t d n L r k w at j p h gs lt (r_room s d c r k p Q ek tx n L H m) H I.kept W.0 b u e Y
                  (λ g Rg. E.is g (subst (λ z. Reads z (at + w) g) (sym (heap_kept s u d (kept_on s t u I.kept Y.kept).low)) Rg)) (W.1 h gs R),
            );
      }

      pub pin_ahead : Pinning s d c p → Ahead s d w at
      pin_ahead P = go P.readable.type P.readable.reads
        where
          go : (g : Ty) → Reads (heap s d) p g → Ahead s d w at
          go (node h gs) R = walk_ahead s t d P.n P.L r k w at j p h gs lt (r_room s d c r k p Q ek tx P.n P.L P.held P.made) ((I.walk P.n P.L P.held P.pinned P.made).1 h gs R)

  pub pin_start : SameFormer s d r p true → Meeting s d r p → (t w at : ℕ) → t ≡ tag_at (frozen s) r → w ≡ name_words t → at ≡ p + lead_words t → 0 < lead_words t → Loop s s d c r k w at 0 p
  pin_start X M t w at et ew ea z = record {
    kept = kept_refl s;
    later = omega arith;
    walk = λ n L H P m. (
      P,
      λ h gs R.
          let y = (X.tells h gs R).holds refl in
          walk_start s d n L r k p h gs R (ek ∙ y.1) t w at (et ∙ like_tag s d r p M h gs R y) ew ea,
    );
  }
