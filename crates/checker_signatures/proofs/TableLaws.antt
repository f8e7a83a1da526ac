-- Tables: what stands there after a write, and one identifier more.
use mathlib.Core.Path.{◌≡◌, sym, ap, subst, ◌∙◌}
use mathlib.Core.Bool.{Bool, true, false, cond}
use mathlib.Core.Logic.{◌⊎◌, ⊎_elim}
use mathlib.Core.List.{List, [], ◌∷◌, ◌++◌, append-nil}
use Prim.Native.Nat.{ℕ, suc, ◌+◌, ◌*◌, ◌≤◌, ◌<◌}
use native.Mathlib.Omega.{arith}
use lib.Dec.{ltb, eqb}
use lib.ListN.{length, get_or, take, drop, length-append}
use lib.Seq.{sets, length-sets}
use borrow.Author.Tests.{eq-eqb, ne_eqb, lt-ltb, le-ltb}
use Rattle.checker_rules.specs.Signatures.{renamed}
use Rattle.checker_signatures.specs.Rows.{rows, flat, insert_row, merge_rows, declare_rows, rename_rows}
use Rattle.checker_signatures.specs.Tables.{Table}
use Rattle.checker_signatures.proofs.RowLaws.{sets_sets, sets_rows, flat_length, rows_length_lem, rows_written, rows_beside, sets_flat, get_d_below, get_d_above, take_sets, drop_sets}

-- a row more at most
pub insert_count : (i p : ℕ) (rs : List (ℕ × ℕ)) → (length rs ≤ length (insert_row i p rs)) × (length (insert_row i p rs) ≤ suc (length rs))
unfolding insert_row
insert_count i p [] = (omega arith, omega arith)
insert_count i p (r ∷ rs) = go (eqb i r.0) (ltb i r.0) (insert_count i p rs)
  where
    go : (a b : Bool) → (length rs ≤ length (insert_row i p rs)) × (length (insert_row i p rs) ≤ suc (length rs))
        → (suc (length rs) ≤ length (cond a (r ∷ rs) (cond b ((i, p) ∷ r ∷ rs) (r ∷ insert_row i p rs))))
        × (length (cond a (r ∷ rs) (cond b ((i, p) ∷ r ∷ rs) (r ∷ insert_row i p rs))) ≤ suc (suc (length rs)))
    go true b h = (omega arith, omega arith)
    go false true h = (omega arith, omega arith)
    go false false h = (omega arith, omega arith)

pub merge_count : (xs rs : List (ℕ × ℕ)) → length (merge_rows xs rs) ≤ length xs + length rs
unfolding merge_rows
merge_count [] rs = omega arith
merge_count (x ∷ xs) rs =
    let a = merge_count xs (insert_row x.0 x.1 rs) in
    let b = (insert_count x.0 x.1 rs).1 in
    omega arith

pub declare_count : (is : List ℕ) (p : ℕ) (rs : List (ℕ × ℕ)) → length (declare_rows is p rs) ≤ length is + length rs
unfolding declare_rows
declare_count [] p rs = omega arith
declare_count (i ∷ is) p rs =
    let a = declare_count is p (insert_row i p rs) in
    let b = (insert_count i p rs).1 in
    omega arith

pub rename_count : (ps rs : List (ℕ × ℕ)) → length (rename_rows ps rs) ≤ length rs
unfolding rename_rows
rename_count ps [] = omega arith
rename_count ps (r ∷ rs) =
    let a = rename_count ps rs in
    let b = (insert_count (renamed ps r.0) r.1 (rename_rows ps rs)).1 in
    omega arith

-- by the identifier of the first row
module _ (i p : ℕ) (r : ℕ × ℕ) (rs : List (ℕ × ℕ)) where
  pub insert_there : i ≡ r.0 → insert_row i p (r ∷ rs) ≡ r ∷ rs
  unfolding insert_row
  insert_there e = rw (eq-eqb i r.0 e)

  pub insert_before : i < r.0 → insert_row i p (r ∷ rs) ≡ (i, p) ∷ r ∷ rs
  unfolding insert_row
  insert_before h = let e : eqb i r.0 ≡ false = ne_eqb i r.0 (λ q. omega arith) in rw (e, lt-ltb i r.0 h)

  pub insert_after : r.0 < i → insert_row i p (r ∷ rs) ≡ r ∷ insert_row i p rs
  unfolding insert_row
  insert_after h =
      let e : eqb i r.0 ≡ false = ne_eqb i r.0 (λ q. omega arith) in
      let l : ltb i r.0 ≡ false = le-ltb i r.0 (omega arith) in
      rw (e, l)

module _ (w : List ℕ) (b : ℕ) where
  -- the table as it stands
  pub table_self : (m : ℕ) → Table w w b (rows w b m) m
  unfolding flat
  table_self m =
      record {
        words = sym (ap (λ (l : List (ℕ × ℕ)). sets w b (flat l)) (sym (append-nil (rows w b m))) ∙ sets_rows w b m []);
        count = sym (rows_length_lem w b m);
      }

  -- no rows
  pub table_none : (rs : List (ℕ × ℕ)) → rs ≡ [] → Table w w b rs 0
  unfolding flat
  table_none rs e = record { words = ap (λ (l : List (ℕ × ℕ)). sets w b (flat l)) (sym e); count = ap length (sym e) }

  -- and rows after the first j of them, written
  pub table_after : (v : List ℕ) (j n : ℕ) (rs : List (ℕ × ℕ)) → v ≡ sets w (b + 2 * j) (flat rs) → n ≡ j + length rs → (all : List (ℕ × ℕ))
      → all ≡ rows w b j ++ rs → length all ≡ j + length rs → Table w v b all n
  table_after v j n rs e c all x l =
      record { words = e ∙ sym (ap (λ (z : List (ℕ × ℕ)). sets w b (flat z)) x ∙ sets_rows w b j rs); count = c ∙ sym l }

  module _ (v : List ℕ) (rs : List (ℕ × ℕ)) (n : ℕ) (t : Table w v b rs n) where
    pub table_length : length v ≡ length w
    table_length = ap length t.words ∙ length-sets w b (flat rs)

    -- what stands there
    pub table_rows : b + 2 * n ≤ length w → rows v b n ≡ rs
    table_rows h =
        ap (λ (k : ℕ). rows v b k) t.count
        ∙ ap (λ (u : List ℕ). rows u b (length rs)) t.words
        ∙ rows_written rs w b (subst (λ (k : ℕ). b + 2 * k ≤ length w) t.count h)

    -- what stands elsewhere
    pub table_beside : (m s k : ℕ) → n ≤ m → (b + 2 * m ≤ s) ⊎ (s + 2 * k ≤ b) → rows v s k ≡ rows w s k
    table_beside m s k h a =
        ap (λ (u : List ℕ). rows u s k) t.words ∙ rows_beside rs w b m s k (subst (λ (z : ℕ). z ≤ m) t.count h) a

    pub table_below : (k : ℕ) → k ≤ b → take k v ≡ take k w
    table_below k h = ap (take k) t.words ∙ take_sets (flat rs) w b k h

    pub table_above : (k : ℕ) → b + 2 * n ≤ k → drop k v ≡ drop k w
    table_above k h =
        let c = t.count in
        let l = flat_length rs in
        ap (drop k) t.words ∙ drop_sets (flat rs) w b k (omega arith)

    -- rows written over it that are no fewer
    pub table_over : (u : List ℕ) (qs : List (ℕ × ℕ)) (r : ℕ) → length rs ≤ length qs → Table v u b qs r → Table w u b qs r
    table_over u qs r h q =
        record {
          words =
              q.words ∙ ap (λ (z : List ℕ). sets z b (flat qs)) t.words
              ∙ sets_sets (flat rs) (flat qs) w b (omega (arith, flat_length rs, flat_length qs));
          count = q.count;
        }

    -- one identifier more
    pub table_insert : (u : List ℕ) (i p r : ℕ) → b + 2 * n ≤ length w → Table v u b (insert_row i p (rows v b n)) r → Table w u b (insert_row i p rs) r
    table_insert u i p r h q =
        table_over u (insert_row i p rs) r (insert_count i p rs).0 (subst (λ (z : List (ℕ × ℕ)). Table v u b (insert_row i p z) r) (table_rows h) q)

    pub table_count : (u : List ℕ) (i p r : ℕ) → Table v u b (insert_row i p (rows v b n)) r → (n ≤ r) × (r ≤ suc n)
    table_count u i p r q =
        let c = q.count in
        let k = insert_count i p (rows v b n) in
        let l = rows_length_lem v b n in
        (omega arith, omega arith)

    -- a word of the rows elsewhere
    pub table_word : (m s k x : ℕ) → n ≤ m → (b + 2 * m ≤ s) ⊎ (s + 2 * k ≤ b) → s ≤ x → x < s + 2 * k → get_or v x 0 ≡ get_or w x 0
    table_word m s k x h a p q =
        let c = t.count in
        let l = flat_length rs in
        ap (λ (u : List ℕ). get_or u x 0) t.words
        ∙ ⊎_elim (λ y. get_d_above (flat rs) w b x (omega arith)) (λ y. get_d_below (flat rs) w b x (omega arith)) a

    -- a row more at the end
    pub table_snoc : (u : List ℕ) (x y : ℕ) → u ≡ sets v (b + 2 * n) (x ∷ y ∷ []) → Table w u b (rs ++ ((x, y) ∷ [])) (n + 1)
    unfolding flat
    table_snoc u x y e =
        let c = t.count in
        let l : length (rs ++ ((x, y) ∷ [])) ≡ length rs + 1 = length-append rs ((x, y) ∷ []) in
        record {
          words =
              e ∙ ap (λ (k : ℕ). sets v (b + 2 * k) (x ∷ y ∷ [])) t.count
              ∙ ap (λ (z : List ℕ). sets z (b + 2 * length rs) (x ∷ y ∷ [])) t.words
              ∙ sym (sets_flat rs ((x, y) ∷ []) w b);
          count = omega arith;
        }

-- a loop's turn: the table at v is all that is new since w, and an identifier more is inserted
pub record Turned (w v u : List ℕ) (b n i p r : ℕ) : Type 0 where
  pub table : Table w u b (rows u b r) r
  pub new : rows u b r ≡ insert_row i p (rows v b n)
  pub more : r ≤ n + 1
  pub same : length u ≡ length w

pub turned : (w v u : List ℕ) (b n i p r : ℕ) → Table w v b (rows v b n) n → b + 2 * (n + 1) ≤ length w
    → Table v u b (insert_row i p (rows v b n)) r → Turned w v u b n i p r
turned w v u b n i p r t h q =
    let k = table_count w b v (rows v b n) n t u i p r q in
    let l = table_length w b v (rows v b n) n t in
    let e : rows u b r ≡ insert_row i p (rows v b n) = table_rows v b u (insert_row i p (rows v b n)) r q (omega arith) in
    let g = table_insert w b v (rows v b n) n t u i p r (omega arith) q in
    record {
      table = subst (λ (z : List (ℕ × ℕ)). Table w u b z r) (sym e) g;
      new = e;
      more = omega arith;
      same = table_length w b u (insert_row i p (rows v b n)) r g;
    }
