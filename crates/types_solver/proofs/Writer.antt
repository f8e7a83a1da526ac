-- Types as words.
use mathlib.Core.Path.{◌≡◌, refl, sym, ap, ap₂, subst, ◌∙◌}
use mathlib.Core.Bool.{Bool, true, false}
use mathlib.Core.List.{List, [], ◌∷◌, ◌++◌, map}
use mathlib.Core.Logic.{⊎_elim}
use Prim.Native.Nat.{ℕ, zero, suc, ◌+◌, ◌-◌, ◌≤◌, ◌<◌}
use native.Mathlib.Omega.{arith}
use lib.Dec.{eqb}
use lib.ListN.{length, get_or, set, length-append}
use lib.Seq.{sets}
use borrow.Author.Tests.{eqb-true, eqb-false, eq-eqb, ne_eqb}
use Rattle.words.proofs.Lists.{sets_append}
use Rattle.types_rules.proofs.Finite.{bounded_mono, tree_same}
use Rattle.types_rules.specs.Classes.{rep}
use Rattle.types_rules.specs.Equations.{In, Pairs}
use Rattle.types_rules.specs.Finite.{from_list, type_of, type_of_view}
use Rattle.types_rules.specs.Former.{identifiers, int}
use Rattle.types_rules.specs.Types.{Ty, node, size, tnil}
use Rattle.types_rules.specs.Former.{former_of, tag}
use Rattle.types_rules.specs.Words.{second, words, part_words}
use Rattle.types_rules.specs.Formed.{part_count_type}
use Rattle.types_cells.specs.Layout.{max_cells, settled_from}
use Rattle.types_cells.specs.Store.{frozen, tag_at, arg_at, first_at, count_at, run, parts_at, former_at, view, Cell}
use Rattle.types_solver.specs.Sizes.{mark_at, type_at, Marked, Model}
use Rattle.types_solver.specs.Written.{lead, lead_of, lead_at, name_at, rest, Resolved, Wrote}
use Rattle.types_cells.specs.Settled.{heap, word_at, Reads, Readable}
use Rattle.types_rules.proofs.Rational.{rep_sat}
use Rattle.types_cells.proofs.LinkLaws.{rep_below}
use Rattle.types_cells.proofs.Words.{run_cons, run_length, run_at, get_d_in}
use Rattle.types_cells.proofs.Heads.{view_shape}
use Rattle.types_solver.proofs.Marking.{cap_low, cap_high}
use Rattle.types_cells.proofs.Growing.{lt_or_ge}
use Rattle.types_solver.proofs.Summing.{part_size}
use Rattle.types_cells.specs.Calls.{Root}

lead_of_lem : (t a : ℕ) (l : List ℕ) (k : ℕ) → (t ≡ 4 → a ≡ k) → lead (former_of t a l) k ≡ lead_of t a k
unfolding former_of lead_of tag second
lead_of_lem zero a l k h = refl
lead_of_lem (suc zero) a l k h = refl
lead_of_lem (suc (suc zero)) a l k h = refl
lead_of_lem (suc (suc (suc zero))) a l k h = refl
lead_of_lem (suc (suc (suc (suc zero)))) a l k h = ap (λ z. 4 ∷ z ∷ []) (sym (h refl))
lead_of_lem (suc (suc (suc (suc (suc zero))))) a l k h = refl
lead_of_lem (suc (suc (suc (suc (suc (suc n)))))) a l k h = refl

ids_of : (t a : ℕ) (l : List ℕ) → (t ≡ 5 → ⊥) → identifiers (former_of t a l) ≡ []
unfolding identifiers former_of
ids_of zero a l h = refl
ids_of (suc zero) a l h = refl
ids_of (suc (suc zero)) a l h = refl
ids_of (suc (suc (suc zero))) a l h = refl
ids_of (suc (suc (suc (suc zero)))) a l h = refl
ids_of (suc (suc (suc (suc (suc zero))))) a l h = absurd (h refl)
ids_of (suc (suc (suc (suc (suc (suc n)))))) a l h = refl

ids_five : (t a : ℕ) (l : List ℕ) → t ≡ 5 → identifiers (former_of t a l) ≡ l
unfolding identifiers former_of
ids_five t a l e = ap (λ z. identifiers (former_of z a l)) e

count_list : (T : ℕ → Ty) (l : List ℕ) → part_count_type (from_list (map T l)) ≡ length l
unfolding from_list
count_list T [] = refl
count_list T (x ∷ l) = ap suc (count_list T l)

module _ (T : ℕ → Ty) (w : List ℕ) (r : ℕ) where
  pub name_five : (j : ℕ) → tag_at w r ≡ 5 → name_at w r j ≡ get_or w (arg_at w r + j) 0 ∷ []
  unfolding name_at
  name_five j e = rw (name_at, eq-eqb (tag_at w r) 5 e)

  pub name_none : (j : ℕ) → (tag_at w r ≡ 5 → ⊥) → name_at w r j ≡ []
  unfolding name_at
  name_none j e = rw (name_at, ne_eqb (tag_at w r) 5 e)

  body_five : tag_at w r ≡ 5 → (f j : ℕ) → first_at w r + j + f ≤ length w → arg_at w r + j + f ≤ length w →
      part_words (run w (arg_at w r + j) f) (from_list (map T (run w (first_at w r + j) f))) ≡ rest T w r j f
  unfolding part_words words rest from_list run
  body_five t zero j p q = refl
  body_five t (suc f) j p q =
      let a : arg_at w r + suc j ≡ suc (arg_at w r + j) = omega arith in
      let b : first_at w r + suc j ≡ suc (first_at w r + j) = omega arith in
      let ih = body_five t f (suc j) (omega arith) (omega arith) in
      let x = run_cons w (arg_at w r + j) f (omega arith) in
      let y = run_cons w (first_at w r + j) f (omega arith) in
      ap₂ (λ u v. part_words u (from_list (map T v))) x y
      ∙ ap (λ z. get_or w (arg_at w r + j) 0 ∷ words (T (get_or w (first_at w r + j) 0)) ++ z)
      (ap₂ (λ u v. part_words (run w u f) (from_list (map T (run w v f)))) (sym a) (sym b) ∙ ih)
      ∙ ap (λ u. u ++ (words (T (get_or w (first_at w r + j) 0)) ++ rest T w r (suc j) f)) (sym (name_five j t))

  body_none : (tag_at w r ≡ 5 → ⊥) → (f j : ℕ) → first_at w r + j + f ≤ length w → part_words [] (from_list (map T (run w (first_at w r + j) f))) ≡ rest T w r j f
  unfolding part_words words rest from_list run
  body_none t zero j p = refl
  body_none t (suc f) j p =
      let b : first_at w r + suc j ≡ suc (first_at w r + j) = omega arith in
      let ih = body_none t f (suc j) (omega arith) in
      let y = run_cons w (first_at w r + j) f (omega arith) in
      ap (λ v. part_words [] (from_list (map T v))) y
      ∙ ap (λ z. words (T (get_or w (first_at w r + j) 0)) ++ z) (ap (λ v. part_words [] (from_list (map T (run w v f)))) (sym b) ∙ ih)
      ∙ ap (λ u. u ++ (words (T (get_or w (first_at w r + j) 0)) ++ rest T w r (suc j) f)) (sym (name_none j t))

  cell_c : Cell w r → (b : Bool) → eqb (tag_at w r) 5 ≡ b → part_words (identifiers (former_at w r)) (from_list (map T (parts_at w r))) ≡ rest T w r 0 (count_at w r)
  unfolding former_at
  cell_c C true e =
      let t = eqb-true (tag_at w r) 5 e in
      let x : arg_at w r ≡ arg_at w r + 0 = omega arith in
      let y : first_at w r ≡ first_at w r + 0 = omega arith in
      ap₂ (λ u v. part_words u (from_list (map T v))) (ids_five (tag_at w r) (arg_at w r) _ t ∙ ap (λ z. run w z (count_at w r)) x) (ap (λ z. run w z (count_at w r)) y)
      ∙ body_five t (count_at w r) 0 (let q = C.room in omega arith) (let q = C.named t in omega arith)
  cell_c C false e =
      let t = eqb-false (tag_at w r) 5 e in
      let y : first_at w r ≡ first_at w r + 0 = omega arith in
      ap₂ (λ u v. part_words u (from_list (map T v))) (ids_of (tag_at w r) (arg_at w r) _ t) (ap (λ z. run w z (count_at w r)) y)
      ∙ body_none t (count_at w r) 0 (let q = C.room in omega arith)

  lead_at_lem : Cell w r → lead (former_at w r) (count_at w r) ≡ lead_at w r
  unfolding former_at
  lead_at_lem C = lead_of_lem (tag_at w r) (arg_at w r) (run w (arg_at w r) (count_at w r)) (count_at w r) C.products

  pub cell_words : Cell w r → words (node (former_at w r) (from_list (map T (parts_at w r)))) ≡ lead_at w r ++ rest T w r 0 (count_at w r)
  unfolding words
  cell_words C =
      ap (λ k. lead (former_at w r) k ++ part_words (identifiers (former_at w r)) (from_list (map T (parts_at w r)))) (count_list T (parts_at w r) ∙ run_length w _ _ C.room)
      ∙ ap₂ (λ u v. u ++ v) (lead_at_lem C) (cell_c C (eqb (tag_at w r) 5) refl)

  pub split_length : (k j : ℕ) → j < k → length (rest T w r j (k - j)) ≡ length (name_at w r j) + (length (words (T (get_or w (first_at w r + j) 0))) + length (rest T w r (j + 1) (k - (j + 1))))
  unfolding rest
  split_length k j l =
      let a : k - j ≡ suc (k - (j + 1)) = omega arith in
      let b : j + 1 ≡ suc j = omega arith in
      rw (a, b) (length-append (name_at w r j) _ ∙ ap (λ z. length (name_at w r j) + z) (length-append (words (T (get_or w (first_at w r + j) 0))) _))

  -- One part more.
  module _ (k j : ℕ) (l : j < k) (out o₁ o₂ : List ℕ) (m e₁ e₂ : ℕ) (N : Wrote out o₁ m e₁ (name_at w r j)) (D : Wrote o₁ o₂ e₁ e₂ (words (T (get_or w (first_at w r + j) 0)))) where
    abbrev here : List ℕ
    here = words (T (get_or w (first_at w r + j) 0))

    abbrev more : List ℕ
    more = rest T w r (j + 1) (k - (j + 1))

    pub split : rest T w r j (k - j) ≡ name_at w r j ++ (here ++ more)
    unfolding rest
    split = let a : k - j ≡ suc (k - (j + 1)) = omega arith in let b : j + 1 ≡ suc j = omega arith in rw (a, b)

    pub step_area : sets out m (rest T w r j (k - j)) ≡ sets o₂ e₂ more
    step_area =
        ap (sets out m) split ∙ sets_append out m (name_at w r j) (here ++ more)
        ∙ ap₂ (λ x y. sets x y (here ++ more)) (sym N.area) (sym N.end)
        ∙ sets_append o₁ e₁ here more ∙ ap₂ (λ x y. sets x y more) (sym D.area) (sym D.end)

    pub step_end : m + length (rest T w r j (k - j)) ≡ e₂ + length more
    step_end = omega (arith, ap length split, length-append (name_at w r j) (here ++ more), length-append here more, N.end, D.end)

pub rest_end : (T : ℕ → Ty) (w : List ℕ) (r k j : ℕ) → k ≤ j → rest T w r j (k - j) ≡ []
unfolding rest
rest_end T w r k j l = let e : k - j ≡ 0 = omega arith in rw e

-- The type of a cell with a former, by its representative.
module _ (s : List ℕ) (n : ℕ) (L : Pairs ℕ) (R : Marked s n L) (i : ℕ) (l : i < n) (known : 0 < tag_at (frozen s) (rep eqb L i)) where
  abbrev w₀ : List ℕ
  w₀ = frozen s

  abbrev x : ℕ
  x = rep eqb L i

  pub x_below : x < n
  x_below = rep_below n L R.held.inside i l

  pub type_is : type_at w₀ n L i ≡ node (former_at w₀ x) (from_list (map (type_at w₀ n L) (parts_at w₀ x)))
  unfolding type_at
  type_is =
      let d = (R.sizes i l).finite in
      let h = view_shape w₀ n x x_below known in
      tree_same (rep eqb L) (view w₀ n) (λ j. node int tnil) n (suc n) i d (bounded_mono (rep eqb L) (view w₀ n) n i d)
      ∙ (unfold type_of type_of_view in (ap (type_of_view (λ c. type_of (rep eqb L) (view w₀ n) (λ j. node int tnil) n c) (node int tnil)) h))

  -- The marks fall.
  pub mark_falls : mark_at s i ≤ 32 → (c : ℕ) → In c (parts_at w₀ x) → (c < n) × (mark_at s c < mark_at s i)
  unfolding size
  mark_falls small c j =
      let o = (R.held.cells x x_below).older c j in
      let b = x_below in
      let cn : c < n = omega arith in
      let si = (R.sizes i l).size in
      let sc = (R.sizes c cn).size in
      let g = ap size type_is in
      let p = part_size (type_at w₀ n L) c (parts_at w₀ x) j in
      let gi : size (type_at w₀ n L i) < 33 = ⊎_elim (λ q. q) (λ q. let z = cap_high _ q in absurd (omega arith)) (lt_or_ge (size (type_at w₀ n L i)) 33) in
      let ci = cap_low _ gi in
      let gc : size (type_at w₀ n L c) < size (type_at w₀ n L i) = omega arith in
      let cc' = cap_low (size (type_at w₀ n L c)) (omega arith) in
      (cn, omega arith)

-- The same at the representative r that `find` gave, with k parts.
module _ (s : List ℕ) (i r : ℕ) (Q : Root s i r) (n : ℕ) (L : Pairs ℕ) (R : Marked s n L) (l : i < n) where
  abbrev q : rep eqb L i ≡ r
  q = Q.is n L R.held l

  pub r_below : r < n
  r_below = subst (λ z. z < n) q (rep_below n L R.held.inside i l)

  pub r_few : r < max_cells
  r_few = let f = R.held.few in let b = r_below in omega arith

  pub r_cell : Cell (frozen s) r
  r_cell = R.held.cells r r_below

  pub r_part : 0 < tag_at (frozen s) r → mark_at s i ≤ 32 → (k : ℕ) → k ≡ count_at (frozen s) r → (j : ℕ) → j < k → (c : ℕ) → c ≡ get_or (frozen s) (first_at (frozen s) r + j) 0 →
      (c < n) × (mark_at s c < mark_at s i)
  r_part known small k ek j jk c e =
      let jc : j < count_at (frozen s) r = omega arith in
      let z = run_length (frozen s) (first_at (frozen s) r) (count_at (frozen s) r) r_cell.room in
      let m = get_d_in (parts_at (frozen s) r) j (omega arith) in
      let h = subst (λ y. In y (parts_at (frozen s) r)) (run_at (frozen s) (first_at (frozen s) r) (count_at (frozen s) r) j jc ∙ sym e) m in
      mark_falls s n L R i l (subst (λ z. 0 < tag_at (frozen s) z) (sym q) known) small c (subst (λ y. In c (parts_at (frozen s) y)) (sym q) h)

  pub r_settled : Resolved s n L → tag_at (frozen s) r ≡ 0 → settled_from ≤ word_at s r
  r_settled h t = subst (λ z. settled_from ≤ word_at s z) q (h i l (ap (tag_at (frozen s)) q ∙ t))

-- And in a solution.
module _ (s d : List ℕ) (i r : ℕ) (Q : Root s i r) (n : ℕ) (L : Pairs ℕ) (σ : ℕ → Ty) (M : Model s d n L σ) (l : i < n) where
  pub m_by : σ i ≡ σ r
  m_by = sym (rep_sat ℕ eqb eqb-true eqb-false σ L M.sat i) ∙ ap σ (Q.is n L M.marked.held l)

  pub m_type : 0 < tag_at (frozen s) r → σ i ≡ node (former_at (frozen s) r) (from_list (map σ (parts_at (frozen s) r)))
  m_type p = m_by ∙ M.fits r _ _ (view_shape (frozen s) n r (r_below s i r Q n L M.marked l) p)

  pub m_words : 0 < tag_at (frozen s) r → (k : ℕ) → k ≡ count_at (frozen s) r → words (σ i) ≡ lead_at (frozen s) r ++ rest σ (frozen s) r 0 k
  m_words p k ek =
      ap words (m_type p) ∙ cell_words σ (frozen s) r (r_cell s i r Q n L M.marked l)
      ∙ ap (λ z. lead_at (frozen s) r ++ rest σ (frozen s) r 0 z) (sym ek)

  pub m_length : 0 < tag_at (frozen s) r → (k : ℕ) → k ≡ count_at (frozen s) r → length (words (σ i)) ≡ length (lead_at (frozen s) r) + length (rest σ (frozen s) r 0 k)
  m_length p k ek = ap length (m_words p k ek) ∙ length-append (lead_at (frozen s) r) (rest σ (frozen s) r 0 k)

  pub m_settled : settled_from ≤ word_at s r → (g : Ty) → Reads (heap s d) (word_at s r - settled_from) g → σ i ≡ g
  m_settled v g R = m_by ∙ M.obeys r (r_below s i r Q n L M.marked l) v g R

  pub m_readable : settled_from ≤ word_at s r → Readable (heap s d) (word_at s r - settled_from)
  m_readable v = M.pinned.reads r (r_below s i r Q n L M.marked l) v

pub wrote_one : (out : List ℕ) (at v : ℕ) (ws : List ℕ) → ws ≡ v ∷ [] → Wrote out (set out at v) at (at + 1) ws
wrote_one out at v ws e = record { area = sym (ap (sets out at) e); end = ap (λ z. at + length z) (sym e) }

pub wrote_none : (out : List ℕ) (at : ℕ) (ws : List ℕ) → ws ≡ [] → Wrote out out at at ws
wrote_none out at ws e = record { area = sym (ap (sets out at) e); end = (let z : at ≡ at + 0 = omega arith in z) ∙ ap (λ y. at + length y) (sym e) }

pub wrote_two : (out : List ℕ) (at u v : ℕ) (ws : List ℕ) → ws ≡ u ∷ v ∷ [] → Wrote out (set (set out at u) (at + 1) v) at (at + 2) ws
wrote_two out at u v ws e = record {
  area = ap (λ z. set (set out at u) z v) (let z : at + 1 ≡ suc at = omega arith in z) ∙ sym (ap (sets out at) e);
  end = ap (λ z. at + length z) (sym e);
}

pub lead_one : (w : List ℕ) (r : ℕ) → tag_at w r ≡ 1 → lead_at w r ≡ tag_at w r ∷ []
unfolding lead_of
lead_one w r e = ap (λ t. lead_of t (arg_at w r) (count_at w r)) e ∙ ap (λ t. t ∷ []) (sym e)

pub lead_three : (w : List ℕ) (r : ℕ) → tag_at w r ≡ 3 → lead_at w r ≡ tag_at w r ∷ []
unfolding lead_of
lead_three w r e = ap (λ t. lead_of t (arg_at w r) (count_at w r)) e ∙ ap (λ t. t ∷ []) (sym e)

pub lead_five : (w : List ℕ) (r : ℕ) → tag_at w r ≡ 5 → lead_at w r ≡ tag_at w r ∷ count_at w r ∷ []
unfolding lead_of
lead_five w r e = ap (λ t. lead_of t (arg_at w r) (count_at w r)) e ∙ ap (λ t. t ∷ count_at w r ∷ []) (sym e)

lead_c : (t a k : ℕ) → 0 < t → t ≤ 6 → (t ≡ 1 → ⊥) → (t ≡ 3 → ⊥) → (t ≡ 5 → ⊥) → lead_of t a k ≡ t ∷ a ∷ []
unfolding lead_of
lead_c zero a k p m x y z = absurd (omega arith)
lead_c (suc zero) a k p m x y z = absurd (x refl)
lead_c (suc (suc zero)) a k p m x y z = refl
lead_c (suc (suc (suc zero))) a k p m x y z = absurd (y refl)
lead_c (suc (suc (suc (suc zero)))) a k p m x y z = refl
lead_c (suc (suc (suc (suc (suc zero))))) a k p m x y z = absurd (z refl)
lead_c (suc (suc (suc (suc (suc (suc t)))))) a k p m x y z = let e : t ≡ 0 = omega arith in ap (λ u. suc (suc (suc (suc (suc (suc u))))) ∷ a ∷ []) (sym e)

pub lead_other : (w : List ℕ) (r : ℕ) → 0 < tag_at w r → tag_at w r ≤ 6 → (tag_at w r ≡ 1 → ⊥) → (tag_at w r ≡ 3 → ⊥) → (tag_at w r ≡ 5 → ⊥) → lead_at w r ≡ tag_at w r ∷ arg_at w r ∷ []
lead_other w r = lead_c (tag_at w r) (arg_at w r) (count_at w r)
