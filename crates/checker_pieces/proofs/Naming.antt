-- A new unknown whose type is that of a cell: the type of a node, the component of a Select (35). And items that the ones before settle.
use mathlib.Core.Path.{◌≡◌, refl, sym, ap, subst, ◌∙◌}
use mathlib.Core.List.{List, ◌∷◌}
use mathlib.Core.Logic.{◌↔◌, inl, inr, ⊎_elim}
use mathlib.Core.Option.{some, none as nothing}
use Prim.Native.Nat.{ℕ, ◌<◌}
use Rattle.types_rules.specs.Component.{component_type}
use Rattle.types_rules.specs.Equations.{AllP, In, Pairs, end, pair}
use Rattle.types_rules.specs.Types.{Ty, Term, unknown, under, Each}
use Rattle.checker_rules.specs.Unknowns.{Valuation}
use Rattle.checker_rules.specs.Items.{Items, ◌⨾◌, fresh, equations, select, Known, Meets, MeetsIn, Agree, Passes, Refuses}
use Rattle.checker_pieces.specs.Piece.{Solution, Matches, SameOn, Local, Goes, Stops, Piece, Denotes, Later}
use Rattle.checker_pieces.proofs.Updates.{put, put_hit, put_miss}
use Rattle.checker_pieces.proofs.Walks.{items_earlier, passes_more}
use Rattle.checker_pieces.proofs.Growing.{all_zip, all_map}
use Rattle.checker_pieces.proofs.Terms.{under_same}

module _ (s d : List ℕ) (n : ℕ) (P₀ : Pairs ℕ) (H t : Items) (U₀ U : List ℕ) (ρ : Pairs ℕ) (Q : Piece s d n P₀ H t U₀ U ρ) where
  -- ITEMS THAT HOLD ANYWAY: 36 of equal types, 38 of small ones.
  pub noted : (c : Items) → Goes H t c → ((τ : Valuation) → Meets (H ⨾ t) τ → Meets c τ) → ((τ τ' : Valuation) → Agree c τ τ') → Piece s d n P₀ H (t ⨾ c) U₀ U ρ
  unfolding MeetsIn Agree
  noted c goes holds agrees = record {
    L = Q.L;
    solved = Q.solved;
    pinned = Q.pinned;
    tracked = Q.tracked;
    more = Q.more;
    local = λ τ τ' h m. let k = Q.local τ τ' h (m.0, m.1.0) in (k.0, (k.1, holds τ' k));
    sound = λ τ m. Q.sound τ (m.0, m.1.0);
    complete = λ σ S τ₀ h. let q = Q.complete σ S τ₀ h in (q.0, (q.1.0, (q.1.1, holds q.0 q.1)), q.2, q.3);
    some = Q.some;
    start = Q.start;
    opened = Q.opened;
    passes = passes_more H t c Q.passes goes;
    agree = λ τ τ'. (λ h. (Q.agree τ τ').0 h.0, λ h. ((Q.agree τ τ').1 h, agrees τ τ'));
    open_cells = Q.open_cells;
  }

  -- AN UNKNOWN DEFINED: x is new, and the item q asks just that it has the type of cell c.
  module _ (x : ℕ) (new : In x U → ⊥) (c : ℕ) (lc : c < n) (q : Items) (agrees : (τ τ' : Valuation) → Agree q τ τ') (lq : Local q (x ∷ U))
      (to : (τ : Valuation) → Meets (H ⨾ t) τ → (σ : ℕ → Ty) → Solution s d n P₀ σ → Matches ρ τ σ → Meets q τ → τ x ≡ σ c)
      (from : (τ : Valuation) → Meets (H ⨾ t) τ → (σ : ℕ → Ty) → Solution s d n P₀ σ → Matches ρ τ σ → τ x ≡ σ c → Meets q τ) where
    apart : (y : ℕ) → In y U → y ≡ x → ⊥
    apart y i e = new (subst (λ z. In z U) e i)

    abbrev item : Items
    item = fresh x ⨾ q

    met : (τ : Valuation) → Meets (H ⨾ t) τ → Meets q τ → Meets (H ⨾ (t ⨾ item)) τ
    unfolding MeetsIn
    met τ h k = (h.0, (h.1, (tt, k)))

    asked : (τ : Valuation) → Meets (H ⨾ (t ⨾ item)) τ → Meets q τ
    unfolding MeetsIn
    asked τ h = h.1.1.1

    agree' : (τ τ' : Valuation) → Agree (t ⨾ item) τ τ' ↔ AllP (λ y i. τ y ≡ τ' y) (pair x c ρ)
    unfolding Agree
    agree' τ τ' = (λ h. (h.1.0, (Q.agree τ τ').0 h.0), λ h. ((Q.agree τ τ').1 h.1, (h.0, agrees τ τ')))

    complete' : (σ : ℕ → Ty) → Solution s d n P₀ σ → (τ₀ : Valuation) → Meets H τ₀ → (τ : Valuation) × Meets (H ⨾ (t ⨾ item)) τ × Matches (pair x c ρ) τ σ × SameOn U₀ τ τ₀
    complete' σ S τ₀ h =
        let p = Q.complete σ S τ₀ h in
        let τ : Valuation = put x (σ c) p.0 in
        let m = Q.local p.0 τ (λ y i. sym (put_miss x (σ c) p.0 y (apart y i))) p.1 in
        let k : Matches ρ τ σ = all_zip ρ (λ y i z e. put_miss x (σ c) p.0 y (apart y z.0) ∙ e) Q.tracked p.2 in
        let e = put_hit x (σ c) p.0 in
        (τ, met τ m (from τ m σ S k e), (e, k), λ y i. put_miss x (σ c) p.0 y (apart y (Q.more y i)) ∙ p.3 y i)

    pub defined : Goes H t item → Piece s d n P₀ H (t ⨾ item) U₀ (x ∷ U) (pair x c ρ)
    defined goes = record {
      L = Q.L;
      solved = Q.solved;
      pinned = Q.pinned;
      tracked = ((inl refl, lc), all_map ρ (λ y i k. (inr k.0, k.1)) Q.tracked);
      more = λ y i. inr (Q.more y i);
      local = λ τ τ' h m. met τ' (Q.local τ τ' (λ y i. h y (inr i)) (items_earlier H t item τ m)) (lq τ τ' h (asked τ m));
      sound = λ τ m. let k = items_earlier H t item τ m in let p = Q.sound τ k in (p.0, p.1, (to τ k p.0 p.1 p.2 (asked τ m), p.2));
      complete = complete';
      some = Q.some;
      start = Q.start;
      opened = Q.opened;
      passes = passes_more H t item Q.passes goes;
      agree = agree';
      open_cells = λ i l e. ⊎_elim (λ z. inl (z.0, inr z.1)) inr (Q.open_cells i l e);
    }

    pub defined_table : (τ : Valuation) × Meets (H ⨾ (t ⨾ item)) τ
    defined_table = let p = complete' Q.some.0 Q.some.1 Q.start.0 Q.start.1 in (p.0, p.1)

    pub defined_later : Later s s d n n P₀ P₀ H t (t ⨾ item) ρ (pair x c ρ)
    defined_later = record { solutions = λ σ S. S; items = items_earlier H t item; unknowns = λ τ σ m. m.1 }

  -- THE TYPE OF A NODE: that of the term a, which cell c has.
  module _ (x : ℕ) (new : In x U → ⊥) (c : ℕ) (lc : c < n) (a : Term) (Da : Denotes s d n P₀ H t ρ c a) (Ea : Each (λ z. In z U) a) (m : ℕ) where
    abbrev own : Items
    own = equations m (pair (unknown x) a end)

    abbrev typing : Items
    typing = fresh x ⨾ own

    agrees : (τ τ' : Valuation) → Agree own τ τ'
    unfolding Agree
    agrees τ τ' = tt

    lq : Local own (x ∷ U)
    unfolding MeetsIn under
    lq τ τ' h k = (sym (h x (inl refl)) ∙ k.0 ∙ under_same U τ τ' (λ y i. h y (inr i)) a Ea, tt)

    to : (τ : Valuation) → Meets (H ⨾ t) τ → (σ : ℕ → Ty) → Solution s d n P₀ σ → Matches ρ τ σ → Meets own τ → τ x ≡ σ c
    unfolding MeetsIn under
    to τ k σ S e q = q.0 ∙ sym (Da τ k σ S e)

    from : (τ : Valuation) → Meets (H ⨾ t) τ → (σ : ℕ → Ty) → Solution s d n P₀ σ → Matches ρ τ σ → τ x ≡ σ c → Meets own τ
    unfolding MeetsIn under
    from τ k σ S e q = (q ∙ Da τ k σ S e, tt)

    pub typed_goes : Goes H t typing
    unfolding Passes MeetsIn under
    typed_goes = (tt, (let k = defined_table x new c lc own agrees lq to from in (k.0, ((k.1.0, k.1.1.0), k.1.1.1.0), k.1.1.1.1)))

    pub typed : Piece s d n P₀ H (t ⨾ typing) U₀ (x ∷ U) (pair x c ρ)
    typed = defined x new c lc own agrees lq to from typed_goes

    pub typed_later : Later s s d n n P₀ P₀ H t (t ⨾ typing) ρ (pair x c ρ)
    typed_later = defined_later x new c lc own agrees lq to from

  -- SELECT: x is the component id of the type of cell i, which has the term a's type.
  module _ (x : ℕ) (new : In x U → ⊥) (i id : ℕ) (li : i < n) (a : Term) (Da : Denotes s d n P₀ H t ρ i a) (Ea : Each (λ z. In z U) a) (m : ℕ) where
    abbrev selecting : Items
    selecting = fresh x ⨾ select m id a x

    module _ (c : ℕ) (lc : c < n) (is : (σ : ℕ → Ty) → Solution s d n P₀ σ → component_type id (σ i) ≡ some (σ c)) where
      agrees' : (τ τ' : Valuation) → Agree (select m id a x) τ τ'
      unfolding Agree
      agrees' τ τ' = tt

      lq' : Local (select m id a x) (x ∷ U)
      unfolding MeetsIn
      lq' τ τ' h k = ap (component_type id) (sym (under_same U τ τ' (λ y j. h y (inr j)) a Ea)) ∙ k ∙ ap some (h x (inl refl))

      to' : (τ : Valuation) → Meets (H ⨾ t) τ → (σ : ℕ → Ty) → Solution s d n P₀ σ → Matches ρ τ σ → Meets (select m id a x) τ → τ x ≡ σ c
      unfolding MeetsIn
      to' τ k σ S e q = let z = sym (is σ S) ∙ ap (component_type id) (Da τ k σ S e) ∙ q in let y : σ c ≡ τ x = cc in sym y

      from' : (τ : Valuation) → Meets (H ⨾ t) τ → (σ : ℕ → Ty) → Solution s d n P₀ σ → Matches ρ τ σ → τ x ≡ σ c → Meets (select m id a x) τ
      unfolding MeetsIn
      from' τ k σ S e q = ap (component_type id) (sym (Da τ k σ S e)) ∙ is σ S ∙ ap some (sym q)

      known : (τ : Valuation) → Meets (H ⨾ t) τ → Known (component_type id (under τ a))
      unfolding Known
      known τ k = let p = Q.sound τ k in subst Known (sym (is p.0 p.1) ∙ ap (component_type id) (Da τ k p.0 p.1 p.2)) tt

      pub selected_goes : Goes H t selecting
      unfolding Passes MeetsIn
      selected_goes = (
        tt,
        (
          λ τ k. known τ (k.0.0, k.0.1),
          (let k = defined_table x new c lc (select m id a x) agrees' lq' to' from' in (k.0, ((k.1.0, k.1.1.0), k.1.1.1.0), k.1.1.1.1)),
        ),
      )

      pub selected : Piece s d n P₀ H (t ⨾ selecting) U₀ (x ∷ U) (pair x c ρ)
      selected = defined x new c lc (select m id a x) agrees' lq' to' from' selected_goes

      pub selected_later : Later s s d n n P₀ P₀ H t (t ⨾ selecting) ρ (pair x c ρ)
      selected_later = defined_later x new c lc (select m id a x) agrees' lq' to' from'

    -- 35: some solution has no such component.
    pub not_selected : (σ : ℕ → Ty) → Solution s d n P₀ σ → component_type id (σ i) ≡ nothing → Stops H t selecting 35 m
    unfolding Refuses Passes MeetsIn Known
    not_selected σ S e =
        let p = Q.complete σ S Q.start.0 Q.start.1 in
        inr (tt, inl (refl, refl, (p.0, (p.1, tt), λ k. subst Known (ap (component_type id) (sym (Da p.0 p.1 σ S p.2)) ∙ e) k)))
