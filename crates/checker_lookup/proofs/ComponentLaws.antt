-- The components of a binding, one after another.
use mathlib.Core.Path.{◌≡◌, refl, sym, ap, subst, ◌∙◌}
use mathlib.Core.List.{List, [], ◌∷◌}
use Prim.Native.Nat.{ℕ, suc, ◌+◌, ◌*◌, ◌≤◌, ◌<◌, ◌^◌}
use native.Mathlib.Omega.{arith}
use lib.ListN.{length, get_or}
use lib.Seq.{sets}
use Rattle.types_rules.specs.Former.{binding, identifiers, tag}
use Rattle.types_rules.specs.Formed.{part_count_type, FormedType, Arity}
use Rattle.types_rules.specs.Instance.{instance, instances, instance_former}
use Rattle.types_rules.specs.Types.{Ty, Tys, node, tnil, tcons, Term, Terms}
use Rattle.types_rules.specs.Words.{words, second}
use Rattle.checker_rules.specs.Signatures.{Signature, no_names, naming, components_of, with_names}
use Rattle.types_cells.specs.Layout.{dictionary_at}
use Rattle.types_cells.specs.Settled.{heap, Reads, name_words, lead_words}
use Rattle.types_cells.specs.Parts.{Rest}
use Rattle.types_cells.proofs.Reading.{tag_there, second_at, rest_start, part_next, names_length, heap_length, place_low}
use Rattle.checker_signatures.specs.Rows.{rows, flat}
use Rattle.checker_signatures.specs.Tables.{Table}
use Rattle.checker_signatures.specs.Carried.{Carries}
use Rattle.checker_signatures.proofs.TableLaws.{table_rows}
use Rattle.checker_lookup.specs.Components.{component_rows, Component, EachPlace, ComponentsAsked, ComponentsOf}

-- LAWS OF THE ROWS.

-- one row for each component
pub component_count : (at : ℕ) (ids : List ℕ) (gs : Tys) → length ids ≡ part_count_type gs → length (component_rows at ids gs) ≡ length ids
unfolding component_rows
component_count at [] gs e = refl
component_count at (i ∷ ids) tnil e = absurd (omega arith)
component_count at (i ∷ ids) (tcons g gs) e = ap suc (component_count (at + 1 + length (words g)) ids gs (omega arith))

-- places grow
pub component_after : (p at : ℕ) (ids : List ℕ) (gs : Tys) → p ≤ at → EachPlace (λ q. p < q) (component_rows at ids gs)
unfolding component_rows EachPlace
component_after p at [] gs l = tt
component_after p at (i ∷ ids) tnil l = tt
component_after p at (i ∷ ids) (tcons g gs) l = (omega arith, component_after p (at + 1 + length (words g)) ids gs (omega arith))

-- what R and P say of each row, together
pub carries_each : (R : Term → ℕ → Type 0) (P : ℕ → Type 0) (s : Signature) (rs : List (ℕ × ℕ)) → Carries R s rs → EachPlace P rs → Carries (λ t q. R t q × P q) s rs
unfolding Carries EachPlace
carries_each R P no_names [] h k = tt
carries_each R P no_names (r ∷ rs) h k = absurd h
carries_each R P (naming i t s) [] h k = absurd h
carries_each R P (naming i t s) (r ∷ rs) h k = (h.0, (h.1, k.0), carries_each R P s rs h.2 k.1)

pub each_place : (P Q : ℕ → Type 0) → ((q : ℕ) → P q → Q q) → (rs : List (ℕ × ℕ)) → EachPlace P rs → EachPlace Q rs
unfolding EachPlace
each_place P Q f [] h = tt
each_place P Q f (r ∷ rs) h = (f r.1 h.0, each_place P Q f rs h.1)

-- the words of the components of a binding
pub components_rest : (H : List ℕ) (p : ℕ) (ids : List ℕ) (gs : Tys) → Reads H p (node (binding ids) gs) → Rest H 1 (p + 2) ids gs (p + length (words (node (binding ids) gs)))
unfolding tag identifiers name_words lead_words
components_rest H p ids gs R = rest_start H p (binding ids) gs R 5 1 (p + 2) (sym (tag_there H p (binding ids) gs R)) refl refl

-- the types of components stand at their places
module _ (s d : List ℕ) (X : Terms) where
  with_names_lem : (at : ℕ) (ids : List ℕ) (gs : Tys) (e : ℕ) → Rest (heap s d) 1 at ids gs e → Carries (Component s d X) (with_names ids (instances X gs)) (component_rows at ids gs)
  unfolding Carries with_names instances component_rows
  with_names_lem at [] gs e R = tt
  with_names_lem at (i ∷ ids) tnil e R = tt
  with_names_lem at (i ∷ ids) (tcons g gs) e R =
      let P = part_next (heap s d) 1 at (i ∷ ids) g gs e R in
      let n = P.name (λ z. omega arith) in
      let t : P.tail ≡ ids = cc in
      (refl, record { type = g; reads = P.reads; means = refl }, with_names_lem (at + 1 + length (words g)) ids gs e (subst (λ l. Rest (heap s d) 1 (at + 1 + length (words g)) l gs e) t P.rest))

  pub components_carried : (p : ℕ) (ids : List ℕ) (gs : Tys) → Reads (heap s d) p (node (binding ids) gs) →
      Carries (Component s d X) (components_of (instance X (node (binding ids) gs))) (component_rows (p + 2) ids gs)
  unfolding components_of instance instance_former identifiers
  components_carried p ids gs R = with_names_lem (p + 2) ids gs _ (components_rest (heap s d) p ids gs R)

-- THE LOOP. j of m components are written; those from `at` on are left.
pub record Writing (H w₀ w : List ℕ) (p base m at j : ℕ) (ids : List ℕ) (gs : Tys) : Type 0 where
  pub tail : List ℕ
  pub left : Tys
  pub end : ℕ
  pub rest : Rest H 1 at tail left end
  pub count : part_count_type left + j ≡ m
  pub area : sets w₀ base (flat (component_rows (p + 2) ids gs)) ≡ sets w (base + 2 * j) (flat (component_rows at tail left))

pub writing_start : (H w : List ℕ) (p base m : ℕ) (ids : List ℕ) (gs : Tys) → Reads H p (node (binding ids) gs) → m ≡ get_or H (p + 1) 0 → Writing H w w p base m (p + 2) 0 ids gs
unfolding second
writing_start H w p base m ids gs R e = record {
  tail = ids;
  left = gs;
  end = _;
  rest = components_rest H p ids gs R;
  count = (let z : part_count_type gs + 0 ≡ part_count_type gs = omega arith in z) ∙ sym (e ∙ second_at H p (binding ids) gs R (part_count_type gs) refl);
  area = (let z : base ≡ base + 2 * 0 = omega arith in ap (λ k. sets w k (flat (component_rows (p + 2) ids gs))) z);
}

-- The next component.
pub record Next (H : List ℕ) (w₀ w : List ℕ) (p base m at j : ℕ) (ids : List ℕ) (gs : Tys) : Type 0 where
  pub type : Ty
  pub reads : Reads H (at + 1) type
  pub low : at + 1 < length H
  pub then : (w' : List ℕ) (id at' : ℕ) → id ≡ get_or H at 0 → w' ≡ sets w (base + 2 * j) (id ∷ (at + 1) ∷ []) → at' ≡ at + 1 + length (words type) → Writing H w₀ w' p base m at' (j + 1) ids gs

module _ (H w₀ w : List ℕ) (p base m at j : ℕ) (ids : List ℕ) (gs : Tys) where
  next_of : j < m → (tail : List ℕ) (left : Tys) (end : ℕ) → Rest H 1 at tail left end → part_count_type left + j ≡ m →
      sets w₀ base (flat (component_rows (p + 2) ids gs)) ≡ sets w (base + 2 * j) (flat (component_rows at tail left)) → Next H w₀ w p base m at j ids gs
  unfolding component_rows flat
  next_of l tail tnil end R c e = absurd (omega arith)
  next_of l tail (tcons g left) end R c e =
      let P = part_next H 1 at tail g left end R in
      let n = P.name (λ z. omega arith) in
      record {
        type = g;
        reads = P.reads;
        low = place_low H (at + 1) g P.reads;
        then = λ w' id at' ei q ea.
            let z : suc (suc (base + 2 * j)) ≡ base + 2 * (j + 1) = omega arith in
            record {
              tail = P.tail;
              left = left;
              end = end;
              rest = subst (λ k. Rest H 1 k P.tail left end) (sym ea) P.rest;
              count = omega arith;
              area = e ∙ ap (λ t. sets w (base + 2 * j) (flat (component_rows at t (tcons g left)))) (n ∙ ap (λ x. x ∷ P.tail) (sym ei))
                  ∙ ap (λ v. sets v (suc (suc (base + 2 * j))) (flat (component_rows (at + 1 + length (words g)) P.tail left))) (sym q)
                  ∙ ap (λ k. sets w' k (flat (component_rows (at + 1 + length (words g)) P.tail left))) z
                  ∙ ap (λ k. sets w' (base + 2 * (j + 1)) (flat (component_rows k P.tail left))) (sym ea);
            };
      }

  pub writing_next : j < m → Writing H w₀ w p base m at j ids gs → Next H w₀ w p base m at j ids gs
  writing_next l W = next_of l W.tail W.left W.end W.rest W.count W.area

  done_of : m ≤ j → (tail : List ℕ) (left : Tys) (end : ℕ) → Rest H 1 at tail left end → part_count_type left + j ≡ m →
      sets w₀ base (flat (component_rows (p + 2) ids gs)) ≡ sets w (base + 2 * j) (flat (component_rows at tail left)) → w ≡ sets w₀ base (flat (component_rows (p + 2) ids gs))
  unfolding component_rows flat
  done_of l [] left end R c e = sym e
  done_of l (i ∷ tail) tnil end R c e = sym e
  done_of l (i ∷ tail) (tcons g left) end R c e = absurd (omega arith)

  pub writing_end : m ≤ j → Writing H w₀ w p base m at j ids gs → w ≡ sets w₀ base (flat (component_rows (p + 2) ids gs))
  writing_end l W = done_of l W.tail W.left W.end W.rest W.count W.area

-- ALL OF THEM.
pub components_of_lem : (s d w w' : List ℕ) (p base m : ℕ) → ComponentsAsked s d w p base → m ≡ get_or (heap s d) (p + 1) 0 → (ids : List ℕ) (gs : Tys) → Reads (heap s d) p (node (binding ids) gs) →
    w' ≡ sets w base (flat (component_rows (p + 2) ids gs)) → ComponentsOf s d w w' p base m ids gs
unfolding FormedType Arity
components_of_lem s d w w' p base m A e ids gs R q =
    let n : length ids ≡ m = names_length (heap s d) p m ids gs R (sym e) in
    let a : length A.identifiers ≡ m = names_length (heap s d) p m A.identifiers A.types A.reads (sym e) in
    let room = A.table in
    let c = component_count (p + 2) ids gs R.formed.0.0 in
    let T : Table w w' base (component_rows (p + 2) ids gs) m = record { words = q; count = sym (c ∙ n) } in
    let at = table_rows w base w' (component_rows (p + 2) ids gs) m T (omega arith) in
    record {
      count = sym n;
      table = T;
      carries = λ X. subst (Carries (Component s d X) (components_of (instance X (node (binding ids) gs)))) (sym at) (components_carried s d X p ids gs R);
      after = subst (EachPlace (λ q. p < q)) (sym at) (component_after p (p + 2) ids gs (omega arith));
    }

-- A binding in the dictionary has its components there.
pub components_high : (s d w w' : List ℕ) (p base m : ℕ) (ids : List ℕ) (gs : Tys) → ComponentsOf s d w w' p base m ids gs → dictionary_at ≤ p → (X : Terms) →
    Carries (λ t q. Component s d X t q × (dictionary_at ≤ q)) (components_of (instance X (node (binding ids) gs))) (rows w' base m)
components_high s d w w' p base m ids gs C l X =
    carries_each (Component s d X) (λ q. dictionary_at ≤ q) _ (rows w' base m) (C.carries X) (each_place (λ q. p < q) (λ q. dictionary_at ≤ q) (λ q h. omega arith) (rows w' base m) C.after)

-- Places are words.
pub writing_few : (s d w w' : List ℕ) (p base m at j : ℕ) (A : ComponentsAsked s d w p base) → j < m →
    ((ids : List ℕ) (gs : Tys) → Reads (heap s d) p (node (binding ids) gs) → Writing (heap s d) w w' p base m at j ids gs) → at + 1 < 2 ^ 32
writing_few s d w w' p base m at j A l I =
    let z = heap_length s d A.areas.size in let f = A.few in let N = writing_next _ _ _ _ _ _ _ _ _ _ l (I _ _ A.reads) in let n = N.low in omega arith
