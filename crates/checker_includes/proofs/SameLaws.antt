-- A type with actuals for its parameters beside another type, part by part.
use mathlib.Core.Path.{◌≡◌, refl, sym, ap, ap₂, subst, ◌∙◌}
use mathlib.Core.List.{List, [], ◌∷◌, ◌++◌}
use mathlib.Core.Bool.{false}
use Prim.Native.Nat.{ℕ, zero, suc, ◌+◌, ◌^◌, ◌≤◌, ◌<◌}
use native.Mathlib.Omega.{arith}
use lib.ListN.{length, get_or, length-append, get_or-append}
use Rattle.types_rules.specs.Former.{Former, int, given, parameter, power, product, binding, tag, identifiers, former_of}
use Rattle.types_rules.specs.Types.{Ty, Tys, node, tnil, tcons}
use Rattle.types_rules.specs.Formed.{part_count_type, FormedType, FormedTypes, Arity}
use Rattle.types_rules.specs.Words.{second, words, part_words}
use Rattle.types_rules.proofs.Terms.{bool_no}
use Rattle.types_rules.proofs.Words.{words_one}
use Rattle.types_cells.specs.Calls.{Tells}
use Rattle.types_cells.specs.Settled.{heap, Reads, Reading, lead_words, name_words, parts_of}
use Rattle.types_solver.specs.Written.{lead}
use Rattle.types_cells.specs.Parts.{Names, Rest}
use Rattle.types_cells.proofs.Reading.{heap_length, rest_start, Part, part_next, parts_are, tag_there, second_at, word_in, place_low}
use Rattle.types_instances.specs.Fill.{fill, fills}
use Rattle.types_instances.specs.Filled.{Row}
use Rattle.types_instances.proofs.FillLaws.{fills_count, fill_node}
use Rattle.types_instances.proofs.FillWords.{lead_length}
use Rattle.types_instances.proofs.Rows.{parameter_words}
use Rattle.checker_includes.specs.Filling.{Comparing}

-- A former, by its words and its identifiers.
whole : (h : Former) (n a : ℕ) → ((v : ℕ) → second h n ≡ v ∷ [] → a ≡ v) → former_of (tag h) a (identifiers h) ≡ h
unfolding former_of tag identifiers second
whole int n a e = refl
whole (given g) n a e = ap given (e g refl)
whole (parameter i) n a e = ap parameter (e i refl)
whole power n a e = refl
whole product n a e = refl
whole (binding l) n a e = refl

-- Of words after the tag only those of two-word formers count.
former_same : (t a b : ℕ) (l : List ℕ) → (lead_words t ≡ 2 → a ≡ b) → former_of t a l ≡ former_of t b l
unfolding former_of lead_words
former_same zero a b l e = refl
former_same (suc zero) a b l e = refl
former_same (suc (suc zero)) a b l e = ap given (e refl)
former_same (suc (suc (suc zero))) a b l e = refl
former_same (suc (suc (suc (suc zero)))) a b l e = refl
former_same (suc (suc (suc (suc (suc zero))))) a b l e = refl
former_same (suc (suc (suc (suc (suc (suc t)))))) a b l e = ap parameter (e refl)

parts_same : (t a b : ℕ) → (lead_words t ≡ 2 → a ≡ b) → parts_of t a ≡ parts_of t b
unfolding parts_of lead_words
parts_same zero a b e = refl
parts_same (suc zero) a b e = refl
parts_same (suc (suc zero)) a b e = refl
parts_same (suc (suc (suc zero))) a b e = refl
parts_same (suc (suc (suc (suc zero)))) a b e = e refl
parts_same (suc (suc (suc (suc (suc zero))))) a b e = e refl
parts_same (suc (suc (suc (suc (suc (suc t)))))) a b e = refl

lead_some : (t : ℕ) → 0 < lead_words t
unfolding lead_words
lead_some zero = omega arith
lead_some (suc zero) = omega arith
lead_some (suc (suc zero)) = omega arith
lead_some (suc (suc (suc zero))) = omega arith
lead_some (suc (suc (suc (suc t)))) = omega arith

-- The k words at p and at q are the same.
abbrev pub SameWords : List ℕ → ℕ → ℕ → ℕ → Type 0
SameWords H p q k = (i : ℕ) → i < k → get_or H (p + i) 0 ≡ get_or H (q + i) 0

first_same : (H : List ℕ) (p q k : ℕ) → SameWords H p q k → 0 < k → get_or H p 0 ≡ get_or H q 0
first_same H p q k e l =
    let x : p ≡ p + 0 = omega arith in
    let y : q + 0 ≡ q = omega arith in
    ap (λ z. get_or H z 0) x ∙ e 0 l ∙ ap (λ z. get_or H z 0) y

-- The words before the parts.
lead_word : (H : List ℕ) (p : ℕ) (h : Former) (gs : Tys) → Reads H p (node h gs) → (i : ℕ) → i < lead_words (tag h) → get_or H (p + i) 0 ≡ get_or (lead h (part_count_type gs)) i 0
unfolding words
lead_word H p h gs R i l =
    let n = part_count_type gs in
    let e = lead_length h n in
    let f = length-append (lead h n) (part_words (identifiers h) gs) in
    word_in H p (node h gs) R i (omega arith) ∙ get_or-append (lead h n) (part_words (identifiers h) gs) 0 i (omega arith)

node_former : (h k : Former) (gs ks : Tys) → node h gs ≡ node k ks → h ≡ k
node_former h k gs ks e = cc

node_parts : (h k : Former) (gs ks : Tys) → node h gs ≡ node k ks → gs ≡ ks
node_parts h k gs ks e = cc

-- Equal types have the same words before their parts.
pub lead_needed : (H : List ℕ) (p q : ℕ) (g k : Ty) (hs : Tys) → Reads H p g → Reads H q k → (t c : ℕ) → t ≡ get_or H p 0 → (t ≡ 6 → ⊥) → c ≡ lead_words t → fill hs g ≡ k → SameWords H p q c
lead_needed H p q (node h gs) (node h' ks) hs R S t c et ne ec e i l =
    let a : t ≡ tag h = et ∙ tag_there H p h gs R in
    let f : node h (fills hs gs) ≡ node h' ks = sym (fill_node hs h gs (λ z. ne (a ∙ z))) ∙ e in
    let eh = node_former _ _ _ _ f in
    let b : c ≡ lead_words (tag h) = ec ∙ ap lead_words a in
    let b' = ap (λ z. lead_words (tag z)) eh in
    lead_word H p h gs R i (omega arith)
    ∙ ap (λ n. get_or (lead h n) i 0) (sym (fills_count hs gs) ∙ ap part_count_type (node_parts _ _ _ _ f))
    ∙ ap (λ z. get_or (lead z (part_count_type ks)) i 0) eh
    ∙ sym (lead_word H q h' ks S i (omega arith))

-- A parameter without actual stays.
pub parameter_stays : (H : List ℕ) (p : ℕ) (g : Ty) → Reads H p g → (v : ℕ) → words g ≡ 6 ∷ v ∷ [] → g ≡ node (parameter v) tnil
unfolding FormedType FormedTypes Arity
parameter_stays H p g R v e = (words_one g (node (parameter v) tnil) R.formed (refl, tt) [] [] (ap (λ z. z ++ []) (e ∙ sym (parameter_words v)))).0

-- n parts of g and of k, j of them passed: the others decide whether g, with the actuals hs, is k.
pub record Matching (H : List ℕ) (hs : Tys) (w at to n j : ℕ) (g k : Ty) : Type 0 where
  pub l : List ℕ
  pub gs : Tys
  pub e : ℕ
  pub rest : Rest H w at l gs e
  pub left : part_count_type gs + j ≡ n
  pub m : List ℕ
  pub ks : Tys
  pub f : ℕ
  pub others : Rest H w to m ks f
  pub right : part_count_type ks + j ≡ n
  pub enough : l ≡ m → fills hs gs ≡ ks → fill hs g ≡ k
  pub needed : fill hs g ≡ k → (l ≡ m) × (fills hs gs ≡ ks)

pub match_start : (H : List ℕ) (p q : ℕ) (g k : Ty) (hs : Tys) → Reads H p g → Reads H q k → (t c w n at to : ℕ) → t ≡ get_or H p 0 → (t ≡ 6 → ⊥) → c ≡ lead_words t → SameWords H p q c →
    w ≡ name_words t → n ≡ parts_of t (get_or H (p + 1) 0) → at ≡ p + c → to ≡ q + c → Matching H hs w at to n 0 g k
match_start H p q (node h gs) (node h' ks) hs R S t c w n at to et ne ec same ew en ea eo =
    let some = lead_some t in
    let a : t ≡ tag h = et ∙ tag_there H p h gs R in
    let et' : t ≡ get_or H q 0 = et ∙ first_same H p q c same (omega arith) in
    let a' : t ≡ tag h' = et' ∙ tag_there H q h' ks S in
    let two : lead_words t ≡ 2 → get_or H (p + 1) 0 ≡ get_or H (q + 1) 0 = λ z. same 1 (omega arith) in
    let plain = fill_node hs h gs (λ z. ne (a ∙ z)) in
    let old : former_of t (get_or H (p + 1) 0) (identifiers h) ≡ h = ap (λ z. former_of z (get_or H (p + 1) 0) (identifiers h)) a ∙ whole h (part_count_type gs) _ (second_at H p h gs R) in
    let new : former_of t (get_or H (q + 1) 0) (identifiers h') ≡ h' = ap (λ z. former_of z (get_or H (q + 1) 0) (identifiers h')) a' ∙ whole h' (part_count_type ks) _ (second_at H q h' ks S) in
    let one : identifiers h ≡ identifiers h' → h ≡ h' = λ z. sym old ∙ former_same t _ _ (identifiers h) two ∙ ap (former_of t (get_or H (q + 1) 0)) z ∙ new in
    record {
      l = identifiers h;
      gs = gs;
      e = p + length (words (node h gs));
      rest = rest_start H p h gs R t w at et ew (ea ∙ ap (λ z. p + z) ec);
      left = (let z : part_count_type gs + 0 ≡ part_count_type gs = omega arith in z) ∙ sym (en ∙ ap (λ y. parts_of y (get_or H (p + 1) 0)) a ∙ parts_are H p h gs R);
      m = identifiers h';
      ks = ks;
      f = q + length (words (node h' ks));
      others = rest_start H q h' ks S t w to et' ew (eo ∙ ap (λ z. q + z) ec);
      right = (let z : part_count_type ks + 0 ≡ part_count_type ks = omega arith in z) ∙ sym (en ∙ parts_same t _ _ two ∙ ap (λ y. parts_of y (get_or H (q + 1) 0)) a' ∙ parts_are H q h' ks S);
      enough = λ z y. plain ∙ ap₂ node (one z) y;
      needed = λ z. let y : node h (fills hs gs) ≡ node h' ks = sym plain ∙ z in (ap identifiers (node_former _ _ _ _ y), node_parts _ _ _ _ y);
    }

-- The names of the next parts, and the names after them.
module _ (H : List ℕ) (at to : ℕ) (l m : List ℕ) (g k : Ty) (gs ks : Tys) (e f : ℕ) where
  names_enough : (w : ℕ) (P : Part H w at l g gs e) (Q : Part H w to m k ks f) → SameWords H at to w → P.tail ≡ Q.tail → l ≡ m
  names_enough zero P Q s t = (P.none refl).0 ∙ sym (Q.none refl).0
  names_enough (suc w) P Q s t =
      P.name (λ z. omega arith) ∙ ap₂ (λ x y. x ∷ y) (first_same H at to (suc w) s (omega arith)) t ∙ sym (Q.name (λ z. omega arith))

  tails_needed : (w : ℕ) (P : Part H w at l g gs e) (Q : Part H w to m k ks f) → l ≡ m → P.tail ≡ Q.tail
  tails_needed zero P Q s = (P.none refl).1 ∙ sym (Q.none refl).1
  tails_needed (suc w) P Q s = let z : get_or H at 0 ∷ P.tail ≡ get_or H to 0 ∷ Q.tail = sym (P.name (λ z. omega arith)) ∙ s ∙ Q.name (λ z. omega arith) in cc

  names_needed : (w : ℕ) → Names w l (tcons g gs) → (P : Part H w at l g gs e) (Q : Part H w to m k ks f) → l ≡ m → SameWords H at to w
  names_needed zero N P Q s i lt = absurd (omega arith)
  names_needed (suc w) N P Q s i lt =
      let z : get_or H at 0 ∷ P.tail ≡ get_or H to 0 ∷ Q.tail = sym (P.name (λ z. omega arith)) ∙ s ∙ Q.name (λ z. omega arith) in
      let y : get_or H at 0 ≡ get_or H to 0 = cc in
      let n = N.0 in
      let a : at + i ≡ at = omega arith in
      let b : to ≡ to + i = omega arith in
      ap (λ x. get_or H x 0) a ∙ y ∙ ap (λ x. get_or H x 0) b

pub record MatchStep (H : List ℕ) (hs : Tys) (w at to n j : ℕ) (g k : Ty) : Type 0 where
  pub part : Ty
  pub reads : Reads H (at + w) part
  pub low : at + w < length H
  pub other : Ty
  pub there : Reads H (to + w) other
  pub low_there : to + w < length H
  pub next : (at' to' : ℕ) → at' ≡ at + w + length (words part) → to' ≡ to + w + length (words other) → SameWords H at to w → fill hs part ≡ other → Matching H hs w at' to' n (j + 1) g k
  pub named : fill hs g ≡ k → SameWords H at to w
  pub same : fill hs g ≡ k → fill hs part ≡ other

head_of : (g k : Ty) (gs ks : Tys) → tcons g gs ≡ tcons k ks → g ≡ k
head_of g k gs ks e = cc

tail_of : (g k : Ty) (gs ks : Tys) → tcons g gs ≡ tcons k ks → gs ≡ ks
tail_of g k gs ks e = cc

match_c : (H : List ℕ) (hs : Tys) (w at to n j : ℕ) (g k : Ty) (l : List ℕ) (gs : Tys) (e : ℕ) → Rest H w at l gs e → part_count_type gs + j ≡ n →
    (m : List ℕ) (ks : Tys) (f : ℕ) → Rest H w to m ks f → part_count_type ks + j ≡ n → (l ≡ m → fills hs gs ≡ ks → fill hs g ≡ k) → (fill hs g ≡ k → (l ≡ m) × (fills hs gs ≡ ks)) → j < n → MatchStep H hs w at to n j g k
unfolding fill
match_c H hs w at to n j g k l tnil e R a m ks f S b enough needed lt = absurd (omega arith)
match_c H hs w at to n j g k l (tcons x gs) e R a m tnil f S b enough needed lt = absurd (omega arith)
match_c H hs w at to n j g k l (tcons x gs) e R a m (tcons y ks) f S b enough needed lt =
    let P = part_next H w at l x gs e R in
    let Q = part_next H w to m y ks f S in
    record {
      part = x;
      reads = P.reads;
      low = place_low H (at + w) x P.reads;
      other = y;
      there = Q.reads;
      low_there = place_low H (to + w) y Q.reads;
      next = λ at' to' ea eo s t. record {
        l = P.tail;
        gs = gs;
        e = e;
        rest = subst (λ z. Rest H w z P.tail gs e) (sym ea) P.rest;
        left = omega arith;
        m = Q.tail;
        ks = ks;
        f = f;
        others = subst (λ z. Rest H w z Q.tail ks f) (sym eo) Q.rest;
        right = omega arith;
        enough = λ u v. enough (names_enough H at to l m x y gs ks e f w P Q s u) (ap₂ tcons t v);
        needed = λ u. let v = needed u in (tails_needed H at to l m x y gs ks e f w P Q v.0, tail_of _ _ _ _ v.1);
      };
      named = λ u. names_needed H at to l m x y gs ks e f w R.names P Q (needed u).0;
      same = λ u. head_of _ _ _ _ (needed u).1;
    }

pub match_step : (H : List ℕ) (hs : Tys) (w at to n j : ℕ) (g k : Ty) → Matching H hs w at to n j g k → j < n → MatchStep H hs w at to n j g k
match_step H hs w at to n j g k M lt = match_c H hs w at to n j g k M.l M.gs M.e M.rest M.left M.m M.ks M.f M.others M.right M.enough M.needed lt

-- The parts that a turn of the loop compares.
module _ (s d places : List ℕ) (p q w at to n j : ℕ) (P : Comparing s d p places q)
    (I : (g k : Ty) (hs : Tys) → Reads (heap s d) p g → Reads (heap s d) q k → Row (heap s d) places hs → Matching (heap s d) hs w at to n j g k) (l : j < n) where
  parts : MatchStep (heap s d) P.actuals.types w at to n j P.left.type P.right.type
  parts = match_step _ _ _ _ _ _ _ _ _ (I _ _ _ P.left.reads P.right.reads P.actuals.stand) l

  pub part_low : at + w < length (heap s d)
  part_low = parts.low

  pub part_near : at + w < 2 ^ 40
  part_near = let h = heap_length s d P.actuals.areas.size in let f = P.actuals.areas.few in let x = part_low in omega arith

  pub other_near : to + w < 2 ^ 40
  other_near = let h = heap_length s d P.actuals.areas.size in let f = P.actuals.areas.few in let x = parts.low_there in omega arith

  pub part_reading : Reading s d (at + w)
  part_reading = record { areas = P.actuals.areas; readable = record { type = parts.part; reads = parts.reads } }

  pub other_reading : Reading s d (to + w)
  other_reading = record { areas = P.actuals.areas; readable = record { type = parts.other; reads = parts.there } }

  pub part_comparing : Comparing s d (at + w) places (to + w)
  part_comparing = record { actuals = P.actuals; left = part_reading.readable; right = other_reading.readable }

-- A failed test answers no.
pub answers_no : {A : Type 0} → (A → ⊥) → Tells false A
answers_no f = record { holds = λ z. absurd (bool_no false z refl); fails = λ z. f }

no_names_lem : (w : ℕ) (l : List ℕ) → Names w l tnil → l ≡ []
no_names_lem zero l N = N
no_names_lem (suc w) [] N = refl
no_names_lem (suc w) (i ∷ l) N = let z = N.1 in absurd (omega arith)

match_end_c : (H : List ℕ) (hs : Tys) (w at to n j : ℕ) (g k : Ty) (l : List ℕ) (gs : Tys) (e : ℕ) → Rest H w at l gs e → part_count_type gs + j ≡ n →
    (m : List ℕ) (ks : Tys) (f : ℕ) → Rest H w to m ks f → part_count_type ks + j ≡ n → (l ≡ m → fills hs gs ≡ ks → fill hs g ≡ k) → n ≤ j → fill hs g ≡ k
unfolding fill
match_end_c H hs w at to n j g k l (tcons x gs) e R a m ks f S b enough lt = absurd (omega arith)
match_end_c H hs w at to n j g k l tnil e R a m (tcons y ks) f S b enough lt = absurd (omega arith)
match_end_c H hs w at to n j g k l tnil e R a m tnil f S b enough lt = enough (no_names_lem w l R.names ∙ sym (no_names_lem w m S.names)) refl

-- After the last part the types are one.
pub match_end : (H : List ℕ) (hs : Tys) (w at to n j : ℕ) (g k : Ty) → Matching H hs w at to n j g k → n ≤ j → fill hs g ≡ k
match_end H hs w at to n j g k M lt = match_end_c H hs w at to n j g k M.l M.gs M.e M.rest M.left M.m M.ks M.f M.others M.right M.enough lt
