-- Theta's rows: each with the place of its decorated identifier's type in scope.
use mathlib.Core.Path.{◌≡◌, refl, sym, ap, subst, ◌∙◌}
use mathlib.Core.Bool.{Bool, true, false, not, ◌||◌, true≢false}
use mathlib.Core.List.{List, [], ◌∷◌}
use mathlib.Core.Logic.{inl, ⊎_elim}
use Prim.Native.Nat.{ℕ, zero, suc, ◌+◌, ◌-◌, ◌*◌, ◌≤◌, ◌<◌, ◌^◌}
use native.Mathlib.Nat.{eq-or-lt_of_le}
use native.Mathlib.Omega.{arith}
use lib.ListN.{length, get_or, set}
use lib.Seq.{get_or-set_same, get_or-set_other}
use Rattle.reader_rules.specs.Decode.{pairs_from}
use Rattle.checker_rules.specs.Dictionary.{Dictionary, Named}
use Rattle.checker_rules.specs.Items.{Items, skip, ◌⨾◌, refusal, MeetsIn, Typings, Refuses}
use Rattle.checker_rules.specs.Rules.{theta_name, theta_names, type_in_scope, theta_signature}
use Rattle.checker_rules.specs.Scopes.{Scope, name_at}
use Rattle.checker_rules.specs.Signatures.{Signature, no_names, naming, names_of, some_stroked}
use Rattle.checker_rules.specs.Strokes.{decorate, takes}
use Rattle.types_cells.proofs.Reading.{place_low, heap_length}
use Rattle.checker_signatures.specs.Rows.{rows as rows_of, identifiers_of, stroked_rows}
use Rattle.checker_signatures.specs.Carried.{Carries}
use Rattle.checker_signatures.proofs.ScopeLaws.{stack_kept}
use Rattle.checker_signatures.specs.Carried.{Stacked}
use Rattle.checker_pieces.specs.Stage.{Ghost}
use Rattle.checker_lookup.specs.Scoped.{SettledAt, Scoped}
use Rattle.checker_lookup.specs.Thetas.{InScope, RowsAsked, ComponentInScope, RowPlaced, Idle, RowsPlaced}
use Rattle.checker_dictionary.specs.Index.{index_end}
use Rattle.checker_lookup.proofs.HeldLaws.{held_in}
use Rattle.checker_lookup.proofs.IdleLaws.{idle_refuses}
use Rattle.types_cells.specs.Layout.{area_size}

-- The scope is the same where its words and those of the index are.
pub scoped_below : (s d w w' : List ℕ) (rows base : ℕ) → 2 * rows ≤ base → index_end ≤ base → ((i : ℕ) → i < base → get_or w' i 0 ≡ get_or w i 0) → (G : Ghost) (Γ : Scope) (D : Dictionary) → Scoped s d w rows G Γ D →
    Scoped s d w' rows G Γ D
scoped_below s d w w' rows base l u h G Γ D C = record {
  stacked = subst (λ (st : List (ℕ × ℕ)). Stacked (SettledAt s d G) Γ st D) (sym (stack_kept w w' 0 rows (λ i q. h i (omega arith)))) C.stacked;
  recorded = held_in D d w w' (λ i least most. h i (omega (arith, u, most))) C.recorded;
}

-- ONE ROW.
module _ (d w : List ℕ) (rows at k id : ℕ) (A : RowsAsked d w rows at 1 k) (here : id ≡ get_or w at 0) where
  pub row_passed : takes k id ≡ false → RowPlaced d w w rows at k true
  unfolding theta_name
  row_passed e =
      let t : takes k (get_or w at 0) ≡ false = ap (takes k) (sym here) ∙ e in
      record {
        others = λ i q. refl;
        placed = λ f s G Γ D C z. record {
          passes = λ n. ap (λ (b : Bool). theta_name b n (name_at (decorate k (get_or w at 0)) Γ)) t;
          settled = λ u. absurd (true≢false (sym u ∙ t));
        };
        refused = λ f. absurd (true≢false f);
      }

  module _ (e : takes k id ≡ true) (p : ℕ) (Q : InScope d w rows (id + k) p) where
    t : takes k (get_or w at 0) ≡ true
    t = ap (takes k) (sym here) ∙ e

    name : (Γ : Scope) → name_at (decorate k (get_or w at 0)) Γ ≡ name_at (id + k) Γ
    unfolding decorate
    name Γ = ap (λ (x : ℕ). name_at (x + k) Γ) (sym here)

    asks : (Γ : Scope) (n : ℕ) → theta_name (takes k (get_or w at 0)) n (name_at (decorate k (get_or w at 0)) Γ) ≡ theta_name true n (name_at (id + k) Γ)
    asks Γ n = ap (λ (b : Bool). theta_name b n (name_at (decorate k (get_or w at 0)) Γ)) t ∙ ap (theta_name true n) (name Γ)

    pub row_absent : p ≡ 0 → RowPlaced d w w rows at k false
    row_absent z = record {
      others = λ i q. refl;
      placed = λ f. absurd (true≢false (sym f));
      refused = λ f s G Γ D C n. asks Γ n ∙ Q.absent z s G Γ D C n;
    }

    module _ (some : p ≡ 0 → ⊥) where
      -- a place is a word
      pub place_fits : p - 1 < 2 ^ 32
      place_fits =
          let S = (Q.present some A.store A.ghost A.scope A.dictionary A.scoped A.size).1 in
          let l = place_low _ (p - 1) S.type S.reads in
          let z = heap_length A.store d A.size in
          let f = A.few in
          omega arith

      pub row_present : (w' : List ℕ) → w' ≡ set w (at + 1) (p - 1) → RowPlaced d w w' rows at k true
      row_present w' q =
          let r = A.table in
          let u : get_or w' (at + 1) 0 ≡ p - 1 = ap (λ (v : List ℕ). get_or v (at + 1) 0) q ∙ get_or-set_same w (at + 1) (p - 1) 0 (omega arith) in
          record {
            others = λ i ne. ap (λ (v : List ℕ). get_or v i 0) q ∙ get_or-set_other w (at + 1) i (p - 1) 0 ne;
            placed = λ f s G Γ D C z.
                let S = Q.present some s G Γ D C z in
                record {
                  passes = λ n. asks Γ n ∙ S.0 n;
                  settled = λ v. subst (λ (y : Named). SettledAt s d G (type_in_scope y) (get_or w' (at + 1) 0)) (sym (name Γ)) (subst (SettledAt s d G (type_in_scope (name_at (id + k) Γ))) (sym u) S.1);
                };
            refused = λ f. absurd (true≢false f);
          }

-- THE IDENTIFIERS OF A SIGNATURE, one by one.
module _ (k : ℕ) (Γ : Scope) where
  abbrev Passing : ℕ → Type 0
  Passing x = (n : ℕ) → theta_name (takes k x) n (name_at (decorate k x) Γ) ≡ skip

  pub names_idle : (r : Signature) → ((i : ℕ) → i < length (names_of r) → Passing (get_or (names_of r) i 0)) → (n : ℕ) → Idle (theta_names n k r Γ)
  unfolding Idle theta_names names_of
  names_idle no_names h n = tt
  names_idle (naming i t s) h n = (subst Idle (sym (h 0 (omega arith) n)) tt, names_idle s (λ j l. h (suc j) (omega arith)) n)

  -- the first that is absent or generic
  pub names_stop : (r : Signature) (j : ℕ) → j < length (names_of r) → ((i : ℕ) → i < j → Passing (get_or (names_of r) i 0)) → (n : ℕ) →
      theta_name (takes k (get_or (names_of r) j 0)) n (name_at (decorate k (get_or (names_of r) j 0)) Γ) ≡ refusal 31 n → (P : Typings) → Refuses (theta_names n k r Γ) P 31 n
  unfolding Refuses theta_names names_of Idle
  names_stop no_names j l h n e P = absurd (omega arith)
  names_stop (naming i t s) zero l h n e P = inl (subst (λ (x : Items). Refuses x P 31 n) (sym e) (refl, refl))
  names_stop (naming i t s) (suc j) l h n e P =
      idle_refuses (theta_name (takes k i) n (name_at (decorate k i) Γ)) (subst Idle (sym (h 0 (omega arith) n)) tt) (theta_names n k s Γ) P 31 n
      (names_stop s j (omega arith) (λ m q. h (suc m) (omega arith)) n e P)

-- Identifiers as words.
pub id_count : (w : List ℕ) (b m : ℕ) → length (identifiers_of (rows_of w b m)) ≡ m
unfolding identifiers_of pairs_from
id_count w b zero = refl
id_count w b (suc m) = ap suc (id_count w (suc (suc b)) m)

pub id_at : (w : List ℕ) (b m i : ℕ) → i < m → get_or (identifiers_of (rows_of w b m)) i 0 ≡ get_or w (b + 2 * i) 0
unfolding identifiers_of pairs_from
id_at w b zero i l = absurd (omega arith)
id_at w b (suc m) zero l = let e : b ≡ b + 2 * 0 = omega arith in ap (λ (x : ℕ). get_or w x 0) e
id_at w b (suc m) (suc i) l = let e : suc (suc b) + 2 * i ≡ b + 2 * suc i = omega arith in id_at w (suc (suc b)) m i (omega arith) ∙ ap (λ (x : ℕ). get_or w x 0) e

pub same_ids : (w v : List ℕ) (b m : ℕ) → ((i : ℕ) → get_or v (b + 2 * i) 0 ≡ get_or w (b + 2 * i) 0) → identifiers_of (rows_of v b m) ≡ identifiers_of (rows_of w b m)
unfolding identifiers_of pairs_from
same_ids w v b zero h = refl
same_ids w v b (suc m) h =
    let e : b ≡ b + 2 * 0 = omega arith in
    let x : get_or v b 0 ≡ get_or w b 0 = ap (λ (z : ℕ). get_or v z 0) e ∙ h 0 ∙ sym (ap (λ (z : ℕ). get_or w z 0) e) in
    let r = same_ids w v (suc (suc b)) m (λ i. let f : suc (suc b) + 2 * i ≡ b + 2 * suc i = omega arith in ap (λ (z : ℕ). get_or v z 0) f ∙ h (suc i) ∙ sym (ap (λ (z : ℕ). get_or w z 0) f)) in
    cc

-- 37, by the identifiers
pub stroked_same : (k : ℕ) (r : Signature) (rs : List (ℕ × ℕ)) → names_of r ≡ identifiers_of rs → some_stroked k r ≡ stroked_rows k rs
unfolding some_stroked stroked_rows names_of identifiers_of
stroked_same k no_names [] e = refl
stroked_same k no_names (x ∷ rs) e = absurd (no_nil e)
  where
    no_nil : {y : ℕ} {l : List ℕ} → [] ≡ y ∷ l → ⊥
    no_nil q = let z = ap length q in omega arith
stroked_same k (naming i t s) [] e = absurd (no_cons e)
  where
    no_cons : {y : ℕ} {l : List ℕ} → y ∷ l ≡ [] → ⊥
    no_cons q = let z = ap length q in omega arith
stroked_same k (naming i t s) (x ∷ rs) e =
    let a : i ≡ x.0 = cc in
    let b : names_of s ≡ identifiers_of rs = cc in
    let c = stroked_same k s rs b in
    cc

-- a signature whose components take the stroke
takes_first : (b c : Bool) → (not b || c) ≡ false → (b ≡ true) × (c ≡ false)
takes_first true c e = (refl, e)
takes_first false c e = absurd (true≢false e)

module _ (s d : List ℕ) (G : Ghost) (Γ : Scope) (k : ℕ) (w : List ℕ) where
  pub theta_carried : (r : Signature) (b m : ℕ) → names_of r ≡ identifiers_of (rows_of w b m) → some_stroked k r ≡ false →
      ((i : ℕ) → i < m → ComponentInScope s d G Γ k (get_or w (b + 2 * i) 0) (get_or w (b + 2 * i + 1) 0)) → Carries (SettledAt s d G) (theta_signature k r Γ) (rows_of w b m)
  unfolding names_of identifiers_of pairs_from some_stroked theta_signature Carries
  theta_carried no_names b zero e u h = tt
  theta_carried no_names b (suc m) e u h = let z = ap length e in absurd (omega arith)
  theta_carried (naming i t r) b zero e u h = let z = ap length e in absurd (omega arith)
  theta_carried (naming i t r) b (suc m) e u h =
      let a : i ≡ get_or w b 0 = cc in
      let c : names_of r ≡ identifiers_of (rows_of w (suc (suc b)) m) = cc in
      let v = takes_first (takes k i) (some_stroked k r) u in
      let x : b + 2 * 0 ≡ b = omega arith in
      let y : b + 2 * 0 + 1 ≡ suc b = omega arith in
      let p = h 0 (omega arith) in
      let q : ComponentInScope s d G Γ k i (get_or w (suc b) 0) = subst (λ (z : ℕ). ComponentInScope s d G Γ k i (get_or w z 0)) y (subst (λ (z : ℕ). ComponentInScope s d G Γ k z (get_or w (b + 2 * 0 + 1) 0)) (ap (λ (z : ℕ). get_or w z 0) x ∙ sym a) p) in (
        a,
        q.settled v.0,
        theta_carried r (suc (suc b)) m c v.1
            (λ j l.
            let f : b + 2 * suc j ≡ suc (suc b) + 2 * j = omega arith in
            subst (λ (z : ℕ). ComponentInScope s d G Γ k (get_or w z 0) (get_or w (z + 1) 0)) f (h (suc j) (omega arith))),
      )

-- THE LOOP: j rows have their places.
pub record Placing (d w₀ w : List ℕ) (rows base j k : ℕ) : Type 0 where
  pub below : (i : ℕ) → i < base → get_or w i 0 ≡ get_or w₀ i 0
  pub names : (i : ℕ) → get_or w (base + 2 * i) 0 ≡ get_or w₀ (base + 2 * i) 0
  pub placed : (s : List ℕ) (G : Ghost) (Γ : Scope) (D : Dictionary) → Scoped s d w₀ rows G Γ D → length s ≡ area_size → (i : ℕ) → i < j →
      ComponentInScope s d G Γ k (get_or w₀ (base + 2 * i) 0) (get_or w (base + 2 * i + 1) 0)

pub placing_start : (d w : List ℕ) (rows base k : ℕ) → Placing d w w rows base 0 k
placing_start d w rows base k = record { below = λ i l. refl; names = λ i. refl; placed = λ s G Γ D C z i l. absurd (omega arith) }

module _ (d w₀ w : List ℕ) (rows base m j k : ℕ) (A : RowsAsked d w₀ rows base m k) (I : Placing d w₀ w rows base j k) where
  scoped_now : (s : List ℕ) (G : Ghost) (Γ : Scope) (D : Dictionary) → Scoped s d w₀ rows G Γ D → Scoped s d w rows G Γ D
  scoped_now s G Γ D C = scoped_below s d w₀ w rows base A.below A.above I.below G Γ D C

  pub placing_ask : length w ≡ length w₀ → j < m → RowsAsked d w rows (base + 2 * j) 1 k
  placing_ask e l =
      let r = A.table in
      let b = A.below in
      let u = A.above in
      record {
        store = A.store;
        size = A.size;
        few = A.few;
        ghost = A.ghost;
        scope = A.scope;
        dictionary = A.dictionary;
        scoped = scoped_now A.store A.ghost A.scope A.dictionary A.scoped;
        below = omega arith;
        above = omega arith;
        table = omega arith;
        stroke = A.stroke;
      }

  module _ (w' : List ℕ) (fine : Bool) (R : RowPlaced d w w' rows (base + 2 * j) k fine) where
    below' : (i : ℕ) → i < base → get_or w' i 0 ≡ get_or w₀ i 0
    below' i l = R.others i (λ e. omega arith) ∙ I.below i l

    names' : (i : ℕ) → get_or w' (base + 2 * i) 0 ≡ get_or w₀ (base + 2 * i) 0
    names' i = R.others (base + 2 * i) (λ e. omega arith) ∙ I.names i

    pub placing_next : fine ≡ true → Placing d w₀ w' rows base (j + 1) k
    placing_next f = record {
      below = below';
      names = names';
      placed = λ s G Γ D C z i l.
          ⊎_elim
          (λ e.
          subst (λ (x : ℕ). ComponentInScope s d G Γ k (get_or w₀ (base + 2 * x) 0) (get_or w' (base + 2 * x + 1) 0)) (sym e)
          (subst (λ (x : ℕ). ComponentInScope s d G Γ k x (get_or w' (base + 2 * j + 1) 0)) (I.names j) (R.placed f s G Γ D (scoped_now s G Γ D C) z)))
          (λ q.
          subst (ComponentInScope s d G Γ k (get_or w₀ (base + 2 * i) 0)) (sym (R.others (base + 2 * i + 1) (λ e. omega arith))) (I.placed s G Γ D C z i q))
          (eq-or-lt_of_le (let y : i ≤ j = omega arith in y));
    }

    -- 31 at row j
    pub placing_stops : j < m → fine ≡ false → RowsPlaced d w₀ w' rows base m k false
    placing_stops l f = record {
      below = below';
      names = names';
      passes = λ e. absurd (true≢false (sym e));
      carries = λ e. absurd (true≢false (sym e));
      stops = λ e s G Γ r B n H t.
          let c = ap length B.names ∙ id_count w₀ base m in
          let id : (i : ℕ) → i < m → get_or (names_of r) i 0 ≡ get_or w₀ (base + 2 * i) 0 = λ i q. ap (λ (x : List ℕ). get_or x i 0) B.names ∙ id_at w₀ base m i q in
          names_stop k Γ r j (omega arith)
          (λ i q n'. subst (λ (x : ℕ). theta_name (takes k x) n' (name_at (decorate k x) Γ) ≡ skip) (sym (id i (omega arith))) ((I.placed s G Γ B.dictionary B.scoped B.size i q).passes n'))
          n
          (subst (λ (x : ℕ). theta_name (takes k x) n (name_at (decorate k x) Γ) ≡ refusal 31 n) (I.names j ∙ sym (id j l)) (R.refused f s G Γ B.dictionary (scoped_now s G Γ B.dictionary B.scoped) n))
          (MeetsIn (H ⨾ t));
    }

  pub placing_end : j ≡ m → RowsPlaced d w₀ w rows base m k true
  placing_end z = record {
    below = I.below;
    names = I.names;
    passes = λ e s G Γ r B n.
        let c = ap length B.names ∙ id_count w₀ base m in
        names_idle k Γ r
        (λ i q n'.
        subst (λ (x : ℕ). theta_name (takes k x) n' (name_at (decorate k x) Γ) ≡ skip) (sym (ap (λ (x : List ℕ). get_or x i 0) B.names ∙ id_at w₀ base m i (omega arith)))
        ((I.placed s G Γ B.dictionary B.scoped B.size i (omega arith)).passes n'))
        n;
    carries = λ e s G Γ r B u.
        theta_carried s d G Γ k w r base m (B.names ∙ sym (same_ids w₀ w base m I.names)) u
        (λ i l. subst (λ (x : ℕ). ComponentInScope s d G Γ k x (get_or w (base + 2 * i + 1) 0)) (sym (I.names i)) (I.placed s G Γ B.dictionary B.scoped B.size i (omega arith)));
    stops = λ e. absurd (true≢false e);
  }

pub ruleset row_cases = (row_passed, row_absent, row_present)

pub ruleset placing_turns = (placing_start, placing_ask, placing_stops, placing_end)
