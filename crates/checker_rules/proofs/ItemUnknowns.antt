-- The unknowns of items: `Over N`, all of them have N, and the list that the solver starts from has them all.
use mathlib.Core.Path.{◌≡◌, refl, sym, ap, ◌∙◌}
use mathlib.Core.Bool.{Bool, true, false, cond}
use mathlib.Core.List.{List, ◌∷◌}
use mathlib.Core.Option.{some}
use Prim.Native.Nat.{ℕ}
use Rattle.types_rules.specs.Types.{Term, unknown, con, Terms, nil, cons, under, Each, Eachs}
use Rattle.types_rules.specs.Component.{component_type}
use Rattle.types_rules.specs.Equations.{Pairs, end, pair, AllP, Solves}
use Rattle.types_rules.specs.Substitution.{member}
use Rattle.types_rules.proofs.Terms.{each_map, under_ext}
use Rattle.types_rules.proofs.States.{or_true_r, member_head}
use Rattle.checker_rules.specs.Unknowns.{Valuation}
use Rattle.checker_rules.specs.Items.{Items, skip, ◌⨾◌, fresh, equations, equate, select, small, refusal, piece, Meets, MeetsIn}
use Rattle.checker_rules.specs.Solving.{add_unknown, term_unknowns, terms_unknowns, pairs_unknowns, unknowns}

-- All the unknowns of the items have N.
unfoldable pub Over : (ℕ → Type 0) → Items → Type 0
Over N skip = Unit {0}
Over N (a ⨾ b) = Over N a × Over N b
Over N (fresh x) = N x
Over N (equations n es) = AllP (λ a b. Each N a × Each N b) es
Over N (equate g n a b) = Each N a × Each N b
Over N (select n i a x) = Each N a × N x
Over N (small n a) = Each N a
Over N (refusal g n) = Unit {0}
Over N (piece n t) = Over N t

pairs_map : (N M : ℕ → Type 0) → ((y : ℕ) → N y → M y) → (P : Pairs Term) → AllP (λ a b. Each N a × Each N b) P → AllP (λ a b. Each M a × Each M b) P
pairs_map N M f end h = tt
pairs_map N M f (pair a b P) h = ((each_map N M f a h.0.0, each_map N M f b h.0.1), pairs_map N M f P h.1)

over_map : (N M : ℕ → Type 0) → ((y : ℕ) → N y → M y) → (t : Items) → Over N t → Over M t
unfolding Over
over_map N M f skip h = tt
over_map N M f (a ⨾ b) h = (over_map N M f a h.0, over_map N M f b h.1)
over_map N M f (fresh x) h = f x h
over_map N M f (equations n es) h = pairs_map N M f es h
over_map N M f (equate g n a b) h = (each_map N M f a h.0, each_map N M f b h.1)
over_map N M f (select n i a x) h = (each_map N M f a h.0, f x h.1)
over_map N M f (small n a) h = each_map N M f a h
over_map N M f (refusal g n) h = tt
over_map N M f (piece n t) h = over_map N M f t h

abbrev pub In : List ℕ → ℕ → Type 0
In l y = member y l ≡ true

add_keeps : (x : ℕ) (l : List ℕ) (y : ℕ) → In l y → In (add_unknown x l) y
unfolding add_unknown member
add_keeps x l y h = go (member x l)
  where
    go : (b : Bool) → In (cond b l (x ∷ l)) y
    go true = h
    go false = or_true_r _ (member y l) h

add_has : (x : ℕ) (l : List ℕ) → In (add_unknown x l) x
unfolding add_unknown
add_has x l = go (member x l) refl
  where
    go : (b : Bool) → member x l ≡ b → In (cond b l (x ∷ l)) x
    go true e = e
    go false e = member_head x l

mutual
  unfolding term_unknowns Each

  keeps_t : (t : Term) (l : List ℕ) (y : ℕ) → In l y → In (term_unknowns t l) y
  keeps_t (unknown x) l y h = add_keeps x l y h
  keeps_t (con k ts) l y h = keeps_ts ts l y h

  keeps_ts : (ts : Terms) (l : List ℕ) (y : ℕ) → In l y → In (terms_unknowns ts l) y
  keeps_ts nil l y h = h
  keeps_ts (cons t ts) l y h = keeps_ts ts (term_unknowns t l) y (keeps_t t l y h)

mutual
  unfolding term_unknowns Each

  has_t : (t : Term) (l : List ℕ) → Each (In (term_unknowns t l)) t
  has_t (unknown x) l = add_has x l
  has_t (con k ts) l = has_ts ts l

  has_ts : (ts : Terms) (l : List ℕ) → Eachs (In (terms_unknowns ts l)) ts
  has_ts nil l = tt
  has_ts (cons t ts) l = (each_map _ _ (λ y h. keeps_ts ts (term_unknowns t l) y h) t (has_t t l), has_ts ts (term_unknowns t l))

keeps_ps : (P : Pairs Term) (l : List ℕ) (y : ℕ) → In l y → In (pairs_unknowns P l) y
unfolding pairs_unknowns
keeps_ps end l y h = h
keeps_ps (pair a b P) l y h = keeps_ps P (term_unknowns b (term_unknowns a l)) y (keeps_t b (term_unknowns a l) y (keeps_t a l y h))

has_ps : (P : Pairs Term) (l : List ℕ) → AllP (λ a b. Each (In (pairs_unknowns P l)) a × Each (In (pairs_unknowns P l)) b) P
unfolding pairs_unknowns
has_ps end l = tt
has_ps (pair a b P) l =
    let k = term_unknowns b (term_unknowns a l) in (
      (
        each_map _ _ (λ y h. keeps_ps P k y (keeps_t b (term_unknowns a l) y h)) a (has_t a l),
        each_map _ _ (λ y h. keeps_ps P k y h) b (has_t b (term_unknowns a l)),
      ),
      has_ps P k,
    )

keeps : (t : Items) (l : List ℕ) (y : ℕ) → In l y → In (unknowns t l) y
unfolding unknowns
keeps skip l y h = h
keeps (a ⨾ b) l y h = keeps b (unknowns a l) y (keeps a l y h)
keeps (fresh x) l y h = add_keeps x l y h
keeps (equations n es) l y h = keeps_ps es l y h
keeps (equate g n a b) l y h = keeps_t b (term_unknowns a l) y (keeps_t a l y h)
keeps (select n i a x) l y h = add_keeps x (term_unknowns a l) y (keeps_t a l y h)
keeps (small n a) l y h = keeps_t a l y h
keeps (refusal g n) l y h = h
keeps (piece n t) l y h = keeps t l y h

pub over : (t : Items) (l : List ℕ) → Over (In (unknowns t l)) t
unfolding unknowns Over
over skip l = tt
over (a ⨾ b) l = (over_map _ _ (λ y h. keeps b (unknowns a l) y h) a (over a l), over b (unknowns a l))
over (fresh x) l = add_has x l
over (equations n es) l = has_ps es l
over (equate g n a b) l = (each_map _ _ (λ y h. keeps_t b (term_unknowns a l) y h) a (has_t a l), has_t b (term_unknowns a l))
over (select n i a x) l = (each_map _ _ (λ y h. add_keeps x (term_unknowns a l) y h) a (has_t a l), add_has x (term_unknowns a l))
over (small n a) l = has_t a l
over (refusal g n) l = tt
over (piece n t) l = over t l

-- Tables that agree on the unknowns of a term or of items.
module _ (N : ℕ → Type 0) (σ τ : Valuation) (e : (x : ℕ) → N x → σ x ≡ τ x) where
  pub same_under : (t : Term) → Each N t → under σ t ≡ under τ t
  same_under t h = under_ext σ τ t (each_map N _ (λ y n. e y n) t h)

  same_pairs : (P : Pairs Term) → AllP (λ a b. Each N a × Each N b) P → Solves (under τ) P → Solves (under σ) P
  same_pairs end o h = tt
  same_pairs (pair a b P) o h = (same_under a o.0.0 ∙ h.0 ∙ sym (same_under b o.0.1), same_pairs P o.1 h.1)

  pub met_too : (t : Items) → Over N t → Meets t τ → Meets t σ
  unfolding Over MeetsIn
  met_too skip o h = tt
  met_too (a ⨾ b) o h = (met_too a o.0 h.0, met_too b o.1 h.1)
  met_too (fresh y) o h = tt
  met_too (equations n es) o h = same_pairs es o h
  met_too (equate f n a b) o h = same_under a o.0 ∙ h ∙ sym (same_under b o.1)
  met_too (select n i a y) o h = ap (component_type i) (same_under a o.0) ∙ h ∙ ap some (sym (e y o.1))
  met_too (small n a) o h = rw (same_under a o) h
  met_too (refusal f n) o h = h
  met_too (piece n t) o h = met_too t o h
