-- Items one after another, and how states of a piece follow each other.
use mathlib.Core.Logic.{◌↔◌, inl, inr}
use mathlib.Core.List.{List}
use Prim.Native.Nat.{ℕ}
use Rattle.types_rules.specs.Equations.{Pairs}
use Rattle.types_rules.specs.Types.{Term}
use Rattle.types_rules.specs.Trees.{Extent, finite, Tree}
use Rattle.checker_rules.specs.Unknowns.{Valuation}
use Rattle.checker_rules.specs.Items.{Items, ◌⨾◌, Meets, MeetsIn, Agree, Typings, And, Passes, Refuses}
use Rattle.checker_rules.proofs.ItemLaws.{passes_ext, refuses_ext}
use Rattle.checker_pieces.specs.Piece.{Goes, Stops, Piece, Denotes, Later}

-- Items may be grouped either way.
pub regroup : (H t a : Items) (ε : Extent) (τ : ℕ → Tree ε) → MeetsIn (H ⨾ (t ⨾ a)) ε τ ↔ And (MeetsIn (H ⨾ t)) a ε τ
unfolding MeetsIn
regroup H t a ε τ = (λ h. ((h.0, h.1.0), h.1.1), λ h. (h.0.0, (h.0.1, h.1)))

pub goes_then : (H t a b : Items) → Goes H t a → Goes H (t ⨾ a) b → Goes H t (a ⨾ b)
unfolding Passes
goes_then H t a b p q = (p, passes_ext b (MeetsIn (H ⨾ (t ⨾ a))) (And (MeetsIn (H ⨾ t)) a) (regroup H t a) q)

pub stops_left : (H t a b : Items) (f m : ℕ) → Stops H t a f m → Stops H t (a ⨾ b) f m
unfolding Refuses
stops_left H t a b f m r = inl r

pub stops_right : (H t a b : Items) (f m : ℕ) → Goes H t a → Stops H (t ⨾ a) b f m → Stops H t (a ⨾ b) f m
unfolding Refuses
stops_right H t a b f m p r = inr (p, refuses_ext b (MeetsIn (H ⨾ (t ⨾ a))) (And (MeetsIn (H ⨾ t)) a) f m (regroup H t a) r)

-- Items more, after those that pass.
pub passes_more : (H t a : Items) → Passes t (MeetsIn H) → Goes H t a → Passes (t ⨾ a) (MeetsIn H)
unfolding Passes MeetsIn
passes_more H t a p q = (p, passes_ext a (MeetsIn (H ⨾ t)) (And (MeetsIn H) t) (λ ε τ. (λ h. h, λ h. h)) q)

-- The same items, grouped otherwise: where the ones pass, the others do.
abbrev pub Alike : Items → Items → Type 0
Alike a b =
    ((τ : Valuation) → Meets a τ ↔ Meets b τ) × ((τ τ' : Valuation) → Agree a τ τ' ↔ Agree b τ τ') × ((H : Items) → Passes a (MeetsIn H) → Passes b (MeetsIn H))

pub and_group : (P : Typings) (a b : Items) (ε : Extent) (τ : ℕ → Tree ε) → And P (a ⨾ b) ε τ ↔ And (And P a) b ε τ
unfolding MeetsIn
and_group P a b ε τ = (λ h. ((h.0, h.1.0), h.1.1), λ h. (h.0.0, (h.0.1, h.1)))

pub passes_group : (P : Typings) (t a b : Items) → Passes ((t ⨾ a) ⨾ b) P → Passes (t ⨾ (a ⨾ b)) P
unfolding Passes
passes_group P t a b p = (p.0.0, (p.0.1, passes_ext b (And P (t ⨾ a)) (And (And P t) a) (and_group P t a) p.1))

pub alike_group : (t a b : Items) → Alike ((t ⨾ a) ⨾ b) (t ⨾ (a ⨾ b))
unfolding MeetsIn Agree
alike_group t a b = (
  λ τ. (λ h. (h.0.0, (h.0.1, h.1)), λ h. ((h.0, h.1.0), h.1.1)),
  λ τ τ'. (λ h. (h.0.0, (h.0.1, h.1)), λ h. ((h.0, h.1.0), h.1.1)),
  λ H p. passes_group (MeetsIn H) t a b p,
)

pub meets_alike : (H t u : Items) → Alike t u → (τ : Valuation) → Meets (H ⨾ t) τ ↔ Meets (H ⨾ u) τ
unfolding MeetsIn
meets_alike H t u e τ = (λ h. (h.0, (e.0 τ).0 h.1), λ h. (h.0, (e.0 τ).1 h.1))

pub piece_alike : (s d : List ℕ) (n : ℕ) (P₀ : Pairs ℕ) (H t u : Items) (U₀ U : List ℕ) (ρ : Pairs ℕ) → Alike t u → Piece s d n P₀ H t U₀ U ρ → Piece s d n P₀ H u U₀ U ρ
piece_alike s d n P₀ H t u U₀ U ρ e Q = record {
  L = Q.L;
  solved = Q.solved;
  pinned = Q.pinned;
  tracked = Q.tracked;
  more = Q.more;
  local = λ τ τ' h m. (meets_alike H t u e τ').0 (Q.local τ τ' h ((meets_alike H t u e τ).1 m));
  sound = λ τ m. Q.sound τ ((meets_alike H t u e τ).1 m);
  complete = λ σ S τ₀ h. let c = Q.complete σ S τ₀ h in (c.0, (meets_alike H t u e c.0).0 c.1, c.2, c.3);
  some = Q.some;
  start = Q.start;
  opened = Q.opened;
  passes = e.2 H Q.passes;
  agree = λ τ τ'. (λ h. (Q.agree τ τ').0 ((e.1 τ τ').1 h), λ h. (e.1 τ τ').0 ((Q.agree τ τ').1 h));
  open_cells = Q.open_cells;
}

pub piece_group : (s d : List ℕ) (n : ℕ) (P₀ : Pairs ℕ) (H t a b : Items) (U₀ U : List ℕ) (ρ : Pairs ℕ) → Piece s d n P₀ H ((t ⨾ a) ⨾ b) U₀ U ρ → Piece s d n P₀ H (t ⨾ (a ⨾ b)) U₀ U ρ
piece_group s d n P₀ H t a b U₀ U ρ Q = piece_alike s d n P₀ H ((t ⨾ a) ⨾ b) (t ⨾ (a ⨾ b)) U₀ U ρ (alike_group t a b) Q

-- Later states.
pub later_refl : (s d : List ℕ) (n : ℕ) (P₀ : Pairs ℕ) (H t : Items) (ρ : Pairs ℕ) → Later s s d n n P₀ P₀ H t t ρ ρ
later_refl s d n P₀ H t ρ = record { solutions = λ σ S. S; items = λ τ m. m; unknowns = λ τ σ m. m }

pub later_on : (s s' s'' d : List ℕ) (n n' n'' : ℕ) (P₀ P₁ P₂ : Pairs ℕ) (H t t' t'' : Items) (ρ ρ' ρ'' : Pairs ℕ) →
    Later s s' d n n' P₀ P₁ H t t' ρ ρ' → Later s' s'' d n' n'' P₁ P₂ H t' t'' ρ' ρ'' → Later s s'' d n n'' P₀ P₂ H t t'' ρ ρ''
later_on s s' s'' d n n' n'' P₀ P₁ P₂ H t t' t'' ρ ρ' ρ'' A B = record {
  solutions = λ σ S. A.solutions σ (B.solutions σ S);
  items = λ τ m. A.items τ (B.items τ m);
  unknowns = λ τ σ m. A.unknowns τ σ (B.unknowns τ σ m);
}

pub denotes_later : (s s' d : List ℕ) (n n' : ℕ) (P₀ P₀' : Pairs ℕ) (H t t' : Items) (ρ ρ' : Pairs ℕ) → Later s s' d n n' P₀ P₀' H t t' ρ ρ' →
    (c : ℕ) (a : Term) → Denotes s d n P₀ H t ρ c a → Denotes s' d n' P₀' H t' ρ' c a
denotes_later s s' d n n' P₀ P₀' H t t' ρ ρ' A c a D τ m σ S k = D τ (A.items τ m) σ (A.solutions σ S) (A.unknowns τ σ k)

pub items_earlier : (H t a : Items) (τ : Valuation) → Meets (H ⨾ (t ⨾ a)) τ → Meets (H ⨾ t) τ
items_earlier H t a τ m = ((regroup H t a finite τ).0 m).0
