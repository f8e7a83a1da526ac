-- ITEMS IN ORDER: those of one node, one after another, however they are grouped. Two laws: all pass; the i-th refuses, those before it passing.
use mathlib.Core.List.{List, [], ◌∷◌, ◌++◌}
use mathlib.Core.Logic.{◌↔◌, inl, inr, ⊎_elim, ◌⊎◌}
use mathlib.Core.Path.{◌≡◌, refl, sym, ap, subst, ◌∙◌}
use Prim.Native.Nat.{ℕ, zero, suc}
use lib.ListN.{get_or, take}
use Rattle.types_rules.specs.Trees.{Extent, finite, Tree}
use Rattle.checker_rules.specs.Items.{Items, skip, ◌⨾◌, MeetsIn, Any, Passes, Refuses}
use Rattle.checker_rules.proofs.ItemLaws.{passes_ext, refuses_ext}
use Rattle.checker_pieces.specs.Piece.{Steady, Walked}
use Rattle.checker_pieces.proofs.Between.{refuses_first, refuses_second, passes_then, passes_after, walked_then, walked_skip}

infixr 15 ◌then◌
pub data Order : Type 0 where
  nothing : Order
  only : Items → Order
  ◌then◌ : Order → Order → Order

-- As they are grouped, and as a list.
unfoldable pub grouped : Order → Items
grouped nothing = skip
grouped (only a) = a
grouped (x then y) = grouped x ⨾ grouped y

unfoldable pub listed : Order → List Items
listed nothing = []
listed (only a) = a ∷ []
listed (x then y) = listed x ++ listed y

-- The items l after H.
unfoldable pub after : Items → List Items → Items
after H [] = H
after H (a ∷ l) = after (H ⨾ a) l

-- Each passes after those before it.
unfoldable pub AllPass : Items → List Items → Type 0
AllPass H [] = Unit {0}
AllPass H (a ∷ l) = Passes a (MeetsIn H) × AllPass (H ⨾ a) l

-- One refuses, and those before it pass.
unfoldable pub OneRefuses : Items → List Items → ℕ → ℕ → Type 0
OneRefuses H [] f m = ⊥
OneRefuses H (a ∷ l) f m = Refuses a (MeetsIn H) f m ⊎ (Passes a (MeetsIn H) × OneRefuses (H ⨾ a) l f m)

-- Each is walked over after those before it.
unfoldable pub AllWalked : Items → List Items → List ℕ → List ℕ → (ℕ → Type 0) → Type 0
AllWalked H [] U U' M = U ≡ U'
AllWalked H (a ∷ l) U U' M = (Y : List ℕ) × Walked H a U Y M × AllWalked (H ⨾ a) l Y U' M

-- H and H' are met by the same tables.
abbrev Same : Items → Items → Type 0
Same H H' = (ε : Extent) (τ : ℕ → Tree ε) → MeetsIn H ε τ ↔ MeetsIn H' ε τ

-- THE GROUPING does not matter to a table.
after_append : (H : Items) (l m : List Items) → after H (l ++ m) ≡ after (after H l) m
unfolding after
after_append H [] m = refl
after_append H (a ∷ l) m = after_append (H ⨾ a) l m

pub same_tables : (o : Order) (H : Items) → Same (after H (listed o)) (H ⨾ grouped o)
unfolding after listed grouped MeetsIn
same_tables nothing H ε τ = (λ h. (h, tt), λ h. h.0)
same_tables (only a) H ε τ = (λ h. h, λ h. h)
same_tables (x then y) H ε τ =
    let X = same_tables x H ε τ in
    let Y = same_tables y (after H (listed x)) ε τ in
    let e = after_append H (listed x) (listed y) in (
      λ h. let k = Y.0 (subst (λ z. MeetsIn z ε τ) e h) in let v = X.0 k.0 in (v.0, (v.1, k.1)),
      λ h. subst (λ z. MeetsIn z ε τ) (sym e) (Y.1 (X.1 (h.0, h.1.0), h.1.1)),
    )

-- ALL PASS.
pass_split : (l m : List Items) (H : Items) → AllPass H (l ++ m) → AllPass H l × AllPass (after H l) m
unfolding AllPass after
pass_split [] m H p = (tt, p)
pass_split (a ∷ l) m H p = let k = pass_split l m (H ⨾ a) p.1 in ((p.0, k.0), k.1)

pass_join : (l m : List Items) (H : Items) → AllPass H l → AllPass (after H l) m → AllPass H (l ++ m)
unfolding AllPass after
pass_join [] m H p q = q
pass_join (a ∷ l) m H p q = (p.0, pass_join l m (H ⨾ a) p.1 q)

pub all_pass_lem : (o : Order) (H : Items) → AllPass H (listed o) → Passes (grouped o) (MeetsIn H)
unfolding AllPass listed grouped Passes
all_pass_lem nothing H p = tt
all_pass_lem (only a) H p = p.0
all_pass_lem (x then y) H p =
    let k = pass_split (listed x) (listed y) H p in
    passes_then H (grouped x) (grouped y) (all_pass_lem x H k.0)
    (passes_ext (grouped y) (MeetsIn (after H (listed x))) (MeetsIn (H ⨾ grouped x)) (same_tables x H) (all_pass_lem y (after H (listed x)) k.1))

pub each_passes : (o : Order) (H : Items) → Passes (grouped o) (MeetsIn H) → AllPass H (listed o)
unfolding AllPass listed grouped Passes MeetsIn
each_passes nothing H p = tt
each_passes (only a) H p = (p, tt)
each_passes (x then y) H p =
    pass_join (listed x) (listed y) H (each_passes x H p.0)
    (each_passes y (after H (listed x)) (passes_ext (grouped y) (MeetsIn (H ⨾ grouped x)) (MeetsIn (after H (listed x))) (λ ε τ. ((same_tables x H ε τ).1, (same_tables x H ε τ).0)) p.1))

-- ONE REFUSES.
refuse_split : (l m : List Items) (H : Items) (f k : ℕ) → OneRefuses H (l ++ m) f k → OneRefuses H l f k ⊎ (AllPass H l × OneRefuses (after H l) m f k)
unfolding OneRefuses AllPass after
refuse_split [] m H f k r = inr (tt, r)
refuse_split (a ∷ l) m H f k (inl r) = inl (inl r)
refuse_split (a ∷ l) m H f k (inr (p, r)) = ⊎_elim (λ u. inl (inr (p, u))) (λ u. inr ((p, u.0), u.1)) (refuse_split l m (H ⨾ a) f k r)

refuse_left : (l m : List Items) (H : Items) (f k : ℕ) → OneRefuses H l f k → OneRefuses H (l ++ m) f k
unfolding OneRefuses
refuse_left [] m H f k r = absurd r
refuse_left (a ∷ l) m H f k (inl r) = inl r
refuse_left (a ∷ l) m H f k (inr (p, r)) = inr (p, refuse_left l m (H ⨾ a) f k r)

refuse_right : (l m : List Items) (H : Items) (f k : ℕ) → AllPass H l → OneRefuses (after H l) m f k → OneRefuses H (l ++ m) f k
unfolding OneRefuses AllPass after
refuse_right [] m H f k p r = r
refuse_right (a ∷ l) m H f k p r = inr (p.0, refuse_right l m (H ⨾ a) f k p.1 r)

pub one_refuses : (o : Order) (H : Items) (f k : ℕ) → OneRefuses H (listed o) f k → Refuses (grouped o) (MeetsIn H) f k
unfolding OneRefuses listed grouped Refuses
one_refuses nothing H f k r = absurd r
one_refuses (only a) H f k (inl r) = r
one_refuses (only a) H f k (inr (p, r)) = absurd r
one_refuses (x then y) H f k r =
    ⊎_elim (λ u. refuses_first H (grouped x) (grouped y) f k (one_refuses x H f k u))
    (λ u.
    refuses_second H (grouped x) (grouped y) f k (all_pass_lem x H u.0)
    (refuses_ext (grouped y) (MeetsIn (after H (listed x))) (MeetsIn (H ⨾ grouped x)) f k (same_tables x H) (one_refuses y (after H (listed x)) f k u.1)))
    (refuse_split (listed x) (listed y) H f k r)

pub refuses_one : (o : Order) (H : Items) (f k : ℕ) → Refuses (grouped o) (MeetsIn H) f k → OneRefuses H (listed o) f k
unfolding OneRefuses listed grouped Refuses MeetsIn
refuses_one nothing H f k r = absurd r
refuses_one (only a) H f k r = inl r
refuses_one (x then y) H f k (inl r) = refuse_left (listed x) (listed y) H f k (refuses_one x H f k r)
refuses_one (x then y) H f k (inr (p, r)) =
    refuse_right (listed x) (listed y) H f k (each_passes x H p)
    (refuses_one y (after H (listed x)) f k (refuses_ext (grouped y) (MeetsIn (H ⨾ grouped x)) (MeetsIn (after H (listed x))) f k (λ ε τ. ((same_tables x H ε τ).1, (same_tables x H ε τ).0)) r))

refuse_at : (l : List Items) (H : Items) (i f k : ℕ) → AllPass H (take i l) → Refuses (get_or l i skip) (MeetsIn (after H (take i l))) f k → OneRefuses H l f k
unfolding OneRefuses AllPass after Refuses
refuse_at [] H zero f k p r = absurd r
refuse_at [] H (suc i) f k p r = absurd r
refuse_at (a ∷ l) H zero f k p r = inl r
refuse_at (a ∷ l) H (suc i) f k p r = inr (p.0, refuse_at l (H ⨾ a) i f k p.1 r)

-- THE i-TH REFUSES, counted from 0.
pub refuses_at : (o : Order) (H : Items) (i f k : ℕ) → AllPass H (take i (listed o)) → Refuses (get_or (listed o) i skip) (MeetsIn (after H (take i (listed o)))) f k → Refuses (grouped o) (MeetsIn H) f k
refuses_at o H i f k p r = one_refuses o H f k (refuse_at (listed o) H i f k p r)

-- ALL ARE WALKED OVER.
after_passes : (l : List Items) (H : Items) → Passes H Any → AllPass H l → Passes (after H l) Any
unfolding AllPass after
after_passes [] H p q = p
after_passes (a ∷ l) H p q = after_passes l (H ⨾ a) (passes_after H a p q.0) q.1

steady_same : (H H' : Items) (U : List ℕ) → Same H H' → Passes H' Any → Steady H U → Steady H' U
steady_same H H' U e p S = record {
  passes = p;
  local = λ τ τ' h m. (e finite τ').0 (S.local τ τ' h ((e finite τ).1 m));
  some = let k = S.some in (k.0, (e finite k.0).0 k.1);
}

walked_same : (H H' c : Items) (U U' : List ℕ) (M : ℕ → Type 0) → Same H H' → Passes H' Any → Walked H c U U' M → Walked H' c U U' M
unfolding MeetsIn
walked_same H H' c U U' M e p W =
    let g = passes_ext c (MeetsIn H) (MeetsIn H') e W.goes in
    record {
      goes = g;
      steady = steady_same (H ⨾ c) (H' ⨾ c) U' (λ ε τ. (λ h. ((e ε τ).0 h.0, h.1), λ h. ((e ε τ).1 h.0, h.1))) (passes_after H' c p g) W.steady;
      extends = λ τ m. let x = W.extends τ ((e finite τ).1 m) in (x.0, ((e finite x.0).0 x.1.0, x.1.1), x.2);
      wider = W.wider;
      new = W.new;
    }

walk_split : (l m : List Items) (H : Items) (U U' : List ℕ) (M : ℕ → Type 0) → AllWalked H (l ++ m) U U' M → (Y : List ℕ) × AllWalked H l U Y M × AllWalked (after H l) m Y U' M
unfolding AllWalked after
walk_split [] m H U U' M w = (U, refl, w)
walk_split (a ∷ l) m H U U' M w = let k = walk_split l m (H ⨾ a) w.0 U' M w.2 in (k.0, (w.0, w.1, k.1), k.2)

pub all_walked : (o : Order) (H : Items) (U U' : List ℕ) (M : ℕ → Type 0) → Steady H U → AllWalked H (listed o) U U' M → Walked H (grouped o) U U' M
unfolding AllWalked listed grouped
all_walked nothing H U U' M S w = subst (λ z. Walked H skip U z M) w (walked_skip H U M S)
all_walked (only a) H U U' M S w = subst (λ z. Walked H a U z M) w.2 w.1
all_walked (x then y) H U U' M S w =
    let k = walk_split (listed x) (listed y) H U U' M w in
    let X = all_walked x H U k.0 M S k.1 in
    let e = same_tables x H in
    let p = after_passes (listed x) H S.passes (each_passes x H X.goes) in
    walked_then H (grouped x) (grouped y) U k.0 U' M S X
    (walked_same (after H (listed x)) (H ⨾ grouped x) (grouped y) k.0 U' M e X.steady.passes
    (all_walked y (after H (listed x)) k.0 U' M (steady_same (H ⨾ grouped x) (after H (listed x)) k.0 (λ ε τ. ((e ε τ).1, (e ε τ).0)) p X.steady) k.2))

-- THE SAME LIST, grouped in two ways.
module _ (o o' : Order) (e : listed o ≡ listed o') (H : Items) where
  pub regrouped_tables : Same (H ⨾ grouped o) (H ⨾ grouped o')
  regrouped_tables ε τ =
      let x = same_tables o H ε τ in
      let y = same_tables o' H ε τ in
      (λ h. y.0 (subst (λ l. MeetsIn (after H l) ε τ) e (x.1 h)), λ h. x.0 (subst (λ l. MeetsIn (after H l) ε τ) (sym e) (y.1 h)))

  pub regrouped_refuses : (f k : ℕ) → Refuses (grouped o) (MeetsIn H) f k → Refuses (grouped o') (MeetsIn H) f k
  regrouped_refuses f k r = one_refuses o' H f k (subst (λ l. OneRefuses H l f k) e (refuses_one o H f k r))

  pub regrouped_walked : (U U' : List ℕ) (M : ℕ → Type 0) → Walked H (grouped o) U U' M → Walked H (grouped o') U U' M
  unfolding Passes
  regrouped_walked U U' M W =
      let g = all_pass_lem o' H (subst (AllPass H) e (each_passes o H W.goes)) in
      record {
        goes = g;
        steady = steady_same (H ⨾ grouped o) (H ⨾ grouped o') U' regrouped_tables (passes_after H (grouped o') W.steady.passes.0 g) W.steady;
        extends = λ τ m. let x = W.extends τ m in (x.0, (regrouped_tables finite x.0).0 x.1, x.2);
        wider = W.wider;
        new = W.new;
      }

-- o, THEN `rest`: the same list as o'.
module _ (o o' : Order) (rest : Items) (e : listed o' ≡ listed o ++ (rest ∷ [])) (H : Items) where
  whole : listed (o then only rest) ≡ listed o'
  unfolding listed
  whole = sym e

  pub then_tables : Same ((H ⨾ grouped o) ⨾ rest) (H ⨾ grouped o')
  unfolding MeetsIn grouped
  then_tables ε τ =
      let x = regrouped_tables (o then only rest) o' whole H ε τ in
      (λ h. x.0 (h.0.0, (h.0.1, h.1)), λ h. let k = x.1 h in ((k.0, k.1.0), k.1.1))

  pub then_walked : (U Y U' : List ℕ) (M : ℕ → Type 0) → Steady H U → Walked H (grouped o) U Y M → Walked (H ⨾ grouped o) rest Y U' M → Walked H (grouped o') U U' M
  unfolding grouped
  then_walked U Y U' M S A B = regrouped_walked (o then only rest) o' whole H U U' M (walked_then H (grouped o) rest U Y U' M S A B)

  pub then_refuses : (f k : ℕ) → Passes (grouped o) (MeetsIn H) → Refuses rest (MeetsIn (H ⨾ grouped o)) f k → Refuses (grouped o') (MeetsIn H) f k
  unfolding grouped
  then_refuses f k p r = regrouped_refuses (o then only rest) o' whole H f k (refuses_second H (grouped o) rest f k p r)

  pub first_refuses : (f k : ℕ) → Refuses (grouped o) (MeetsIn H) f k → Refuses (grouped o') (MeetsIn H) f k
  unfolding grouped
  first_refuses f k r = regrouped_refuses (o then only rest) o' whole H f k (refuses_first H (grouped o) rest f k r)
