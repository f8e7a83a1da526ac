-- Items that ask nothing: every table meets them, and what follows them passes or stops as it does alone.
use mathlib.Core.Logic.{◌↔◌, inr}
use mathlib.Core.List.{List}
use Prim.Native.Nat.{ℕ}
use Rattle.types_rules.specs.Trees.{Extent, finite, Tree}
use Rattle.checker_rules.specs.Items.{Items, skip, ◌⨾◌, fresh, equations, equate, select, small, refusal, piece, MeetsIn, Agree, Typings, And, Passes, Refuses}
use Rattle.checker_rules.specs.Unknowns.{Valuation}
use Rattle.checker_rules.proofs.ItemLaws.{passes_ext, refuses_ext}
use Rattle.checker_pieces.specs.Building.{Introduced}
use Rattle.checker_pieces.specs.Stage.{Ghost}
use Rattle.checker_pieces.proofs.FreshRows.{alike_later}
use Rattle.checker_pieces.proofs.Walks.{Alike, piece_alike}
use Rattle.checker_lookup.specs.Thetas.{Idle}

idle_meets : (a : Items) → Idle a → (ε : Extent) (τ : ℕ → Tree ε) → MeetsIn a ε τ
unfolding Idle MeetsIn
idle_meets skip h ε τ = tt
idle_meets (a ⨾ b) h ε τ = (idle_meets a h.0 ε τ, idle_meets b h.1 ε τ)
idle_meets (fresh x) h ε τ = absurd h
idle_meets (equations n es) h ε τ = absurd h
idle_meets (equate f n a b) h ε τ = absurd h
idle_meets (select n i a x) h ε τ = absurd h
idle_meets (small n a) h ε τ = absurd h
idle_meets (refusal f n) h ε τ = absurd h
idle_meets (piece n t) h ε τ = absurd h

idle_agree : (a : Items) → Idle a → (σ τ : Valuation) → Agree a σ τ
unfolding Idle Agree
idle_agree skip h σ τ = tt
idle_agree (a ⨾ b) h σ τ = (idle_agree a h.0 σ τ, idle_agree b h.1 σ τ)
idle_agree (fresh x) h σ τ = absurd h
idle_agree (equations n es) h σ τ = absurd h
idle_agree (equate f n a b) h σ τ = absurd h
idle_agree (select n i a x) h σ τ = absurd h
idle_agree (small n a) h σ τ = absurd h
idle_agree (refusal f n) h σ τ = absurd h
idle_agree (piece n t) h σ τ = absurd h

pub idle_passes : (a : Items) → Idle a → (P : Typings) → Passes a P
unfolding Idle Passes
idle_passes skip h P = tt
idle_passes (a ⨾ b) h P = (idle_passes a h.0 P, idle_passes b h.1 (And P a))
idle_passes (fresh x) h P = absurd h
idle_passes (equations n es) h P = absurd h
idle_passes (equate f n a b) h P = absurd h
idle_passes (select n i a x) h P = absurd h
idle_passes (small n a) h P = absurd h
idle_passes (refusal f n) h P = absurd h
idle_passes (piece n t) h P = absurd h

-- The same items, said otherwise.
alike_after : (t a b : Items) → Alike a b → Alike (t ⨾ a) (t ⨾ b)
unfolding MeetsIn Agree Passes
alike_after t a b e = (
  λ τ. (λ h. (h.0, (e.0 τ).0 h.1), λ h. (h.0, (e.0 τ).1 h.1)),
  λ σ τ. (λ h. (h.0, (e.1 σ τ).0 h.1), λ h. (h.0, (e.1 σ τ).1 h.1)),
  λ H p. (p.0, e.2 (H ⨾ t) p.1),
)

introduced_alike : (s s' d : List ℕ) (n top n' top' : ℕ) (G : Ghost) (a b : Items) (M : ℕ → Type 0) (x c : ℕ) → Alike a b → Introduced s s' d n top n' top' G a M x c →
    Introduced s s' d n top n' top' G b M x c
introduced_alike s s' d n top n' top' G a b M x c e I =
    let X = I.advanced in
    let u = alike_after G.items a b e in
    record {
      advanced = record {
        equations = X.equations;
        mentioned = X.mentioned;
        cells = X.cells;
        wide = X.wide;
        goes = e.2 (G.before ⨾ G.items) X.goes;
        piece = piece_alike s' d n' X.equations G.before (G.items ⨾ a) (G.items ⨾ b) G.known X.mentioned X.cells u X.piece;
        above = X.above;
        later = alike_later s s' d n n' G.equations X.equations G.before G.items (G.items ⨾ a) (G.items ⨾ b) G.cells X.cells u X.later;
        wider = X.wider;
        new = X.new;
      };
      placed = I.placed;
    }

module _ (a : Items) (h : Idle a) where
  idle_and : (P : Typings) (ε : Extent) (τ : ℕ → Tree ε) → P ε τ ↔ And P a ε τ
  idle_and P ε τ = (λ p. (p, idle_meets a h ε τ), λ p. p.0)

  pub idle_refuses : (b : Items) (P : Typings) (f m : ℕ) → Refuses b P f m → Refuses (a ⨾ b) P f m
  unfolding Refuses
  idle_refuses b P f m r = inr (idle_passes a h P, refuses_ext b P (And P a) f m (idle_and P) r)

  pub introduced_idle : (s s' d : List ℕ) (n top n' top' : ℕ) (G : Ghost) (b : Items) (M : ℕ → Type 0) (x c : ℕ) → Introduced s s' d n top n' top' G b M x c →
      Introduced s s' d n top n' top' G (a ⨾ b) M x c
  unfolding MeetsIn Agree Passes
  introduced_idle s s' d n top n' top' G b M x c I =
      introduced_alike s s' d n top n' top' G b (a ⨾ b) M x c (
        λ τ. (λ p. (idle_meets a h finite τ, p), λ p. p.1),
        λ σ τ. (λ p. (idle_agree a h σ τ, p), λ p. p.1),
        λ H p. (idle_passes a h (MeetsIn H), passes_ext b (MeetsIn H) (And (MeetsIn H) a) (idle_and (MeetsIn H)) p),
      )
      I
