-- The solver of items is total and right: it passes exactly where the items pass, and refuses f at m exactly where they refuse f at m. So it is for any
-- choice C of the valuations that count as solutions, as far as the solutions of the solver's states, and all possibly infinite types, are among them.
use mathlib.Core.Path.{◌≡◌, refl, ap, ap₂, sym, ◌∙◌, subst}
use mathlib.Core.Bool.{Bool, true, false}
use mathlib.Core.List.{List, []}
use mathlib.Core.Option.{Option, some, none as nothing}
use mathlib.Core.Logic.{◌↔◌, inl, inr}
use Prim.Native.Nat.{ℕ, ◌≤◌, ◌<◌}
use native.Mathlib.Omega.{arith}
use borrow.Author.Tests.{leb-true, leb-false}
use Rattle.types_rules.specs.Types.{Ty, Term, unknown, under, size, term_size, Each, integer_type, ℙℤ}
use Rattle.types_rules.specs.Substitution.{Substitution, empty, Respects, resolve, ground, update, sol, State}
use Rattle.types_rules.specs.Unify.{Outcome, ok, clash, cycle, stuck, unify, unify_all, Spec, Good}
use Rattle.types_rules.specs.Component.{component, component_type}
use Rattle.types_rules.specs.Equations.{Pairs, end, pair, Solves}
use Rattle.types_rules.specs.Classify.{Solvable, classify}
use Rattle.types_rules.specs.Infinite.{Inf}
use Rattle.types_rules.specs.Representative.{component_by}
use Rattle.types_rules.specs.Trees.{finite, infinite}
use Rattle.types_rules.proofs.Classify.{classify_right}
use Rattle.types_rules.proofs.UnifyAll.{unify_all_good, unify_all_spec}
use Rattle.types_rules.proofs.Terms.{and_l, and_r, bool_no, each_map, occurs_size}
use Rattle.types_rules.proofs.Solutions.{spec_iff, resolve_eq, unify_spec}
use Rattle.types_rules.proofs.States.{resolve_free, unify_state, sol_sat, sol_at, unique, two_types, decide, and_split, ground_each, open_has}
use Rattle.types_rules.proofs.Component.{component_under, component_none, component_each}
use Rattle.checker_rules.specs.Unknowns.{Valuation}
use Rattle.checker_rules.specs.Items.{Items, skip, ◌⨾◌, fresh, equations, equate, select, small, refusal, piece, Known, Meets, Agree, Any, And, Passes, Refuses, MeetsIn, Typings}
use Rattle.checker_rules.specs.Solving.{Solved, pass, refuse, and_then, join_pairs, with_component, equations_of, number_of, answer_all, answer, pass_if, selected, is_small, is_closed}
use Rattle.checker_rules.specs.Solving.{solve_from, unknowns, solve, valuation_of}
use Rattle.checker_rules.proofs.ItemLaws.{not_both, one}
use Rattle.checker_rules.proofs.ItemEquations.{not_known, solves_join, equations_standing, equate_standing, select_standing}
use Rattle.checker_rules.proofs.SolverEquations.{Collected, By, by_itself, collected_more, number_right}
use Rattle.checker_rules.proofs.SettledTerms.{size_each, tower, tower_size}
use Rattle.checker_rules.proofs.ItemUnknowns.{Over, In, over}

known : (o : Option Ty) (g : Ty) → o ≡ some g → Known o
unfolding Known
known (some x) g e = tt
known nothing g e = let z : ◌≡◌ {A = ℕ} 0 1 = cc in absurd (omega arith)

-- A closed piece has one solution, and one that is not closed has two.
closed_yes : (t : Items) (s : Substitution) → is_closed t s ≡ true → (σ τ : Valuation) → Respects σ s → Respects τ s → Agree t σ τ
unfolding is_closed Agree under
closed_yes skip s e σ τ p q = tt
closed_yes (a ⨾ b) s e σ τ p q = (closed_yes a s (and_l (is_closed a s) (is_closed b s) e) σ τ p q, closed_yes b s (and_r (is_closed a s) (is_closed b s) e) σ τ p q)
closed_yes (fresh x) s e σ τ p q = unique s (unknown x) e σ τ p q
closed_yes (equations n es) s e σ τ p q = tt
closed_yes (equate g n a b) s e σ τ p q = tt
closed_yes (select n i a x) s e σ τ p q = tt
closed_yes (small n a) s e σ τ p q = tt
closed_yes (refusal g n) s e σ τ p q = tt
closed_yes (piece n t) s e σ τ p q = tt

abbrev integers : Valuation
integers = λ y. integer_type

abbrev Two : Items → Substitution → Type 0
Two t s = (y : ℕ) × (Agree t (sol integers s) (sol (update integers y ℙℤ) s) → ⊥)

closed_no : (N : ℕ → Type 0) (vs : List ℕ) (t : Items) (s : Substitution) → State N vs s → Over N t → is_closed t s ≡ false → Two t s
unfolding is_closed Agree under Over Each
closed_no N vs skip s h o e = absurd (bool_no true refl e)
closed_no N vs (a ⨾ b) s h o e =
    and_split (is_closed a s) (is_closed b s) e _
    (λ f. let w = closed_no N vs a s h o.0 f in (w.0, λ z. w.1 z.0))
    (λ f. let w = closed_no N vs b s h o.1 f in (w.0, λ z. w.1 z.1))
closed_no N vs (fresh x) s h o e = two_types N vs s (unknown x) h o e
closed_no N vs (equations n es) s h o e = absurd (bool_no true refl e)
closed_no N vs (equate g n a b) s h o e = absurd (bool_no true refl e)
closed_no N vs (select n i a x) s h o e = absurd (bool_no true refl e)
closed_no N vs (small n a) s h o e = absurd (bool_no true refl e)
closed_no N vs (refusal g n) s h o e = absurd (bool_no true refl e)
closed_no N vs (piece n t) s h o e = absurd (bool_no true refl e)

-- The solutions of a state that the proof takes: ℤ for every free unknown, ℙ ℤ for one of them, a large type for all.
abbrev pub Solutions : Typings → Substitution → Type 0
Solutions C s = C finite (sol integers s) × ((y : ℕ) → C finite (sol (update integers y ℙℤ) s)) × C finite (sol (λ x. tower 32) s)

abbrev pub Keeps : (Substitution → Type 0) → Solved → Type 0
Keeps F (pass vs s) = F s
Keeps F (refuse f m) = Unit {0}

-- The state of an outcome.
abbrev pub Leaves : (Substitution → Type 0) → Outcome → Type 0
Leaves F (ok vs s) = F s
Leaves F clash = Unit {0}
Leaves F cycle = Unit {0}
Leaves F stuck = Unit {0}

leaves_answer : (F : Substitution → Type 0) (f n : ℕ) (r : Outcome) → Keeps F (answer f n r) → Leaves F r
unfolding answer
leaves_answer F f n (ok vs s) k = k
leaves_answer F f n clash k = tt
leaves_answer F f n cycle k = tt
leaves_answer F f n stuck k = tt

leaves_all : (F : Substitution → Type 0) (n : ℕ) (H : Items) (r : Outcome) → Keeps F (answer_all n H r) → Leaves F r
unfolding answer_all
leaves_all F n H (ok vs s) k = k
leaves_all F n H clash k = tt
leaves_all F n H cycle k = tt
leaves_all F n H stuck k = tt

-- What each answer of solve says.
abbrev pub Verdict : Typings → Items → Solved → Type 0
Verdict C t (pass vs s) = Passes t C × Meets t (valuation_of s) × C finite (valuation_of s)
Verdict C t (refuse f m) = Refuses t C f m

-- C: the valuations that count, all those of possibly infinite types among them. F: the states whose solutions do. K: the items that keep F.
module _ (C : Typings) (wide : (ρ : ℕ → Inf) → C infinite ρ) (F : Substitution → Type 0) (K : Items → Type 0) (sols : (s : Substitution) → F s → Solutions C s)
    (keeps : (t H : Items) (vs : List ℕ) (s : Substitution) → K t → F s → Keeps F (solve_from t H vs s)) (split : (a b : Items) → K (a ⨾ b) → K a × K b) (inner : (n : ℕ) (t : Items) → K (piece n t) → K t)
  where
    -- P are the valuations that meet the items before, E the equations of these.
    pub record Went (N : ℕ → Type 0) (t : Items) (P : Typings) (E : Pairs Term) (vs : List ℕ) (s : Substitution) : Type 0 where
      pub passes : Passes t P
      pub state : State N vs s
      pub same : (τ : Valuation) → And P t finite τ ↔ (C finite τ × Respects τ s)
      pub collected : Collected (And P t) (equations_of t E) s

    abbrev Says : (ℕ → Type 0) → Items → Typings → Pairs Term → Solved → Type 0
    Says N t P E (pass vs s) = Went N t P E vs s
    Says N t P E (refuse f m) = Refuses t P f m

    -- From the state s the equation A is asked.
    pub record Found (N : ℕ → Type 0) (P : Typings) (A : Valuation → Type 0) (s : Substitution) (us : List ℕ) (r : Substitution) : Type 0 where
      pub some : (τ : Valuation) × P finite τ × A τ
      pub state : State N us r
      pub same : (τ : Valuation) → (P finite τ × A τ) ↔ (C finite τ × Respects τ r)
      pub more : (τ : Valuation) → Respects τ r ↔ (Respects τ s × A τ)

    abbrev ResSays : (ℕ → Type 0) → Typings → (Valuation → Type 0) → Substitution → Outcome → Type 0
    ResSays N P A s (ok us r) = Found N P A s us r
    ResSays N P A s clash = (τ : Valuation) → Respects τ s → A τ → ⊥
    ResSays N P A s cycle = (τ : Valuation) → Respects τ s → A τ → ⊥
    ResSays N P A s stuck = (τ : Valuation) → Respects τ s → A τ → ⊥

    module _ (N : ℕ → Type 0) (P : Typings) (E : Pairs Term) (vs : List ℕ) (s : Substitution) (h : State N vs s) (k : F s) (q : (τ : Valuation) → P finite τ ↔ (C finite τ × Respects τ s)) (z : Collected P E s)
      where
        res_right : (A : Valuation → Type 0) (r : Outcome) → Good N r → Leaves F r → ((τ : Valuation) → Spec τ r (Respects τ s × A τ)) → ResSays N P A s r
        res_right A (ok us r) g c f =
            let τ = sol integers r in
            let w = (f τ).0 (sol_sat N us r g integers) in
            record {
              some = (τ, (q τ).1 ((sols r c).0, w.0), w.1);
              state = g;
              same = λ τ. (λ a. let b = (q τ).0 a.0 in (b.0, (f τ).1 (b.1, a.1)), λ a. let b = (f τ).0 a.1 in ((q τ).1 (a.0, b.0), b.1));
              more = λ τ. f τ;
            }
        res_right A clash g c f = λ τ p a. f τ (p, a)
        res_right A cycle g c f = λ τ p a. f τ (p, a)
        res_right A stuck g c f = absurd g

        -- the equations of a node
        unsolved : (n : ℕ) (es : Pairs Term) → ((τ : Valuation) → Respects τ s → Solves (under τ) es → ⊥) → Refuses (equations n es) P (number_of (classify (join_pairs es E))) n
        unfolding Refuses
        unsolved n es w = (
          refl,
          λ τ p a. w τ ((q τ).0 p).1 a,
          number_right P E n es z.infinites (λ v. let y = (solves_join finite v.0 es E).1 v.1 in w v.0 ((z.types v.0).0 y.0) y.1) (classify (join_pairs es E)) (classify_right (join_pairs es E)),
        )

        all_answer : (n : ℕ) (es : Pairs Term) (H : Items) → equations_of H end ≡ E → (r : Outcome) → ResSays N P (λ τ. Solves (under τ) es) s r → Says N (equations n es) P E (answer_all n (H ⨾ equations n es) r)
        unfolding answer_all Passes MeetsIn equations_of
        all_answer n es H e (ok us r) w = record {
          passes = w.some;
          state = w.state;
          same = w.same;
          collected = collected_more (equations n es) P E (join_pairs es E) s r (equations_standing finite (By E) E n es (by_itself E)) (equations_standing infinite P E n es z.infinites) w.more z;
        }
        all_answer n es H e clash w = rw e (unsolved n es w)
        all_answer n es H e cycle w = rw e (unsolved n es w)
        all_answer n es H e stuck w = rw e (unsolved n es w)

        eq_answer : (g n : ℕ) (a b : Term) (r : Outcome) → ResSays N P (λ τ. under τ a ≡ under τ b) s r → Says N (equate g n a b) P E (answer g n r)
        unfolding answer Passes Refuses MeetsIn equations_of
        eq_answer g n a b (ok us r) w = record {
          passes = w.some;
          state = w.state;
          same = w.same;
          collected = collected_more (equate g n a b) P E (pair a b E) s r (equate_standing finite (By E) E g n a b (by_itself E)) (equate_standing infinite P E g n a b z.infinites) w.more z;
        }
        eq_answer g n a b clash w = (refl, refl, λ τ p e. w τ ((q τ).0 p).1 e)
        eq_answer g n a b cycle w = (refl, refl, λ τ p e. w τ ((q τ).0 p).1 e)
        eq_answer g n a b stuck w = (refl, refl, λ τ p e. w τ ((q τ).0 p).1 e)

        comp_answer : (n i : ℕ) (a : Term) (x : ℕ) → ((τ : Valuation) → Respects τ s → Known (component_type i (under τ a))) → (r : Outcome) → ResSays N P (λ τ. component_type i (under τ a) ≡ some (τ x)) s r →
            Says N (select n i a x) P E (answer 33 n r)
        unfolding answer Passes Refuses MeetsIn equations_of
        comp_answer n i a x c (ok us r) w =
            let v : Solvable E = (sol integers s, (z.types (sol integers s)).1 (sol_sat N vs s h integers)) in
            let c' : (τ : Valuation) → Solves (under τ) E → Known (component_type i (under τ a)) = λ τ e. c τ ((z.types τ).0 e) in
            record {
              passes = (λ τ p. c τ ((q τ).0 p).1, w.some);
              state = w.state;
              same = w.same;
              collected = collected_more (select n i a x) P E (with_component (component_by E i a) x E) s r (select_standing E i a finite (By E) n x (by_itself E) v c') (select_standing E i a infinite P n x z.infinites v c') w.more z;
            }
        comp_answer n i a x c clash w = inr (refl, refl, λ τ p. c τ ((q τ).0 p).1, λ τ p e. w τ ((q τ).0 p).1 e)
        comp_answer n i a x c cycle w = inr (refl, refl, λ τ p. c τ ((q τ).0 p).1, λ τ p e. w τ ((q τ).0 p).1 e)
        comp_answer n i a x c stuck w = inr (refl, refl, λ τ p. c τ ((q τ).0 p).1, λ τ p e. w τ ((q τ).0 p).1 e)

        comp_right : (n i : ℕ) (a : Term) (x : ℕ) → Each N a → N x → (o : Option Term) → component i (resolve s a) ≡ o → Keeps F (selected o n x vs s) → Says N (select n i a x) P E (selected o n x vs s)
        unfolding selected Passes Refuses MeetsIn Each under
        comp_right n i a x ea ex nothing e c =
            let τ = sol integers s in
            inl (refl, refl, (τ, (q τ).1 ((sols s k).0, sol_sat N vs s h integers), λ z. not_known (component_type i (under τ a)) (ap (component_type i) (sol_at N vs s a h ea integers) ∙ component_none i (resolve s a) e) z))
        comp_right n i a x ea ex (some u) e c =
            let it : (τ : Valuation) → Respects τ s → component_type i (under τ a) ≡ some (under τ u) = λ τ st. ap (component_type i) (sym (resolve_eq τ s a st)) ∙ component_under τ i (resolve s a) u e in
            let eu : Each N u = component_each N i (resolve s a) u (each_map _ N (λ y m. h.sub y m) (resolve s a) (resolve_free N vs s a h ea)) e in
            comp_answer n i a x (λ τ p. known (component_type i (under τ a)) (under τ u) (it τ p)) (unify vs s (unknown x) u)
            (res_right (λ τ. component_type i (under τ a) ≡ some (τ x)) (unify vs s (unknown x) u) (unify_state N vs s (unknown x) u h ex eu) (leaves_answer F 33 n (unify vs s (unknown x) u) c)
            (λ τ. spec_iff τ (unify vs s (unknown x) u) _ _ (to τ it) (from τ it) (unify_spec τ vs s (unknown x) u)))
          where
            to : (τ : Valuation) → ((τ : Valuation) → Respects τ s → component_type i (under τ a) ≡ some (under τ u)) → Respects τ s × (under τ (unknown x) ≡ under τ u) → Respects τ s × (component_type i (under τ a) ≡ some (τ x))
            to τ it w = (w.0, it τ w.0 ∙ ap some (sym w.1))

            from : (τ : Valuation) → ((τ : Valuation) → Respects τ s → component_type i (under τ a) ≡ some (under τ u)) → Respects τ s × (component_type i (under τ a) ≡ some (τ x)) → Respects τ s × (under τ (unknown x) ≡ under τ u)
            from τ it w = (w.0, inj (τ x) (under τ u) (sym w.1 ∙ it τ w.0))
              where
                inj : (a b : Ty) → some a ≡ some b → a ≡ b
                inj a b e = cc

        small_yes : (a : Term) → is_small (resolve s a) ≡ true → (τ : Valuation) → Respects τ s → size (under τ a) ≤ 32
        unfolding is_small
        small_yes a e τ st =
            let z = size_each τ (resolve s a) (ground_each (resolve s a) (and_l (ground (resolve s a)) _ e)) in
            let l = leb-true (term_size (resolve s a)) 32 (and_r (ground (resolve s a)) _ e) in
            omega (arith, ap size (resolve_eq τ s a st), z, l)

        small_no : (a : Term) → Each N a → is_small (resolve s a) ≡ false → (τ : Valuation) × P finite τ × (32 < size (under τ a))
        unfolding is_small
        small_no a ea e =
            let big : Valuation = λ x. tower 32 in
            let τ : Valuation = sol big s in
            let st = sol_sat N vs s h big in (
              τ,
              (q τ).1 ((sols s k).2, st),
              decide (ground (resolve s a)) _
                  (λ g. omega (
                    arith,
                    ap size (resolve_eq τ s a st),
                    size_each τ (resolve s a) (ground_each (resolve s a) g),
                    leb-false (term_size (resolve s a)) 32 (and_split (ground (resolve s a)) _ e _ (λ f. absurd (bool_no _ g f)) (λ f. f)),
                  ))
                  (λ g. let y = open_has (resolve s a) g in omega (arith, ap size (sol_at N vs s a h ea big), occurs_size big y.0 (resolve s a) y.1, tower_size 32)),
            )

        -- items that ask possibly infinite types nothing
        idle : (t : Items) → ((ρ : ℕ → Inf) → MeetsIn t infinite ρ) → Collected (And P t) E s
        idle t f = record { types = z.types; infinites = λ ρ. (λ a. (z.infinites ρ).0 a.0, λ a. ((z.infinites ρ).1 a, f ρ)) }

        small_right : (n : ℕ) (a : Term) → Each N a → (b : Bool) → is_small (resolve s a) ≡ b → Says N (small n a) P E (pass_if b 38 n vs s)
        unfolding pass_if Passes Refuses MeetsIn equations_of
        small_right n a ea true e = record {
          passes = λ τ p. small_yes a e τ ((q τ).0 p).1;
          state = h;
          same = λ τ. (λ w. (q τ).0 w.0, λ w. ((q τ).1 w, small_yes a e τ w.1));
          collected = idle (small n a) (λ ρ. tt);
        }
        small_right n a ea false e = (refl, refl, small_no a ea e)

    module _ (N : ℕ → Type 0) (P : Typings) (E : Pairs Term) where
      shift : (a b : Items) (r : Solved) → Passes a P → Says N b (And P a) (equations_of a E) r → Says N (a ⨾ b) P E r
      unfolding Passes Refuses MeetsIn equations_of
      shift a b (pass vs s) p w = record {
        passes = (p, w.passes);
        state = w.state;
        same = λ τ. (λ z. (w.same τ).0 ((z.0, z.1.0), z.1.1), λ z. let y = (w.same τ).1 z in (y.0.0, (y.0.1, y.1)));
        collected = record {
          types = w.collected.types;
          infinites = λ ρ. (λ z. (w.collected.infinites ρ).0 ((z.0, z.1.0), z.1.1), λ z. let y = (w.collected.infinites ρ).1 z in (y.0.0, (y.0.1, y.1)));
        };
      }
      shift a b (refuse f m) p w = inr (p, w)

      then_right : (a b : Items) (r : Solved) → Says N a P E r → Keeps F r → (k : List ℕ → Substitution → Solved)
          → ((vs : List ℕ) (s : Substitution) → F s → Went N a P E vs s → Says N b (And P a) (equations_of a E) (k vs s)) → Says N (a ⨾ b) P E (and_then r k)
      unfolding and_then Refuses
      then_right a b (pass vs s) w c k f = shift a b (k vs s) w.passes (f vs s c w)
      then_right a b (refuse g m) w c k f = inl w

      close_right : (n : ℕ) (t : Items) → Over N t → (r : Solved) → Says N t P E r → Keeps F r → Says N (piece n t) P E (and_then r (λ vs s. pass_if (is_closed t s) 34 n vs s))
      unfolding and_then Refuses Passes MeetsIn pass_if equations_of
      close_right n t o (refuse g m) w c = inl w
      close_right n t o (pass vs s) w c = go (is_closed t s) refl
        where
          go : (b : Bool) → is_closed t s ≡ b → Says N (piece n t) P E (pass_if b 34 n vs s)
          go true e = record {
            passes = (w.passes, λ σ τ x y. closed_yes t s e σ τ ((w.same σ).0 x).1 ((w.same τ).0 y).1);
            state = w.state;
            same = w.same;
            collected = record { types = w.collected.types; infinites = w.collected.infinites };
          }
          go false e =
              let z = closed_no N vs t s w.state o e in
              let σ : Valuation = sol integers s in
              let τ : Valuation = sol (update integers z.0 ℙℤ) s in
              inr (w.passes, refl, refl, (σ, τ, (w.same σ).1 ((sols s c).0, sol_sat N vs s w.state integers), (w.same τ).1 ((sols s c).1 z.0, sol_sat N vs s w.state (update integers z.0 ℙℤ)), z.1))

    run_right : (N : ℕ → Type 0) (t H : Items) (P : Typings) (E : Pairs Term) (vs : List ℕ) (s : Substitution) → equations_of H end ≡ E → Over N t → K t → State N vs s → F s
        → ((τ : Valuation) → P finite τ ↔ (C finite τ × Respects τ s)) → Collected P E s → Says N t P E (solve_from t H vs s)
    unfolding solve_from Over Passes Refuses MeetsIn equations_of
    run_right N skip H P E vs s e o c h k q z = record { passes = tt; state = h; same = λ τ. (λ w. (q τ).0 w.0, λ w. ((q τ).1 w, tt)); collected = idle N P E vs s h k q z skip (λ ρ. tt) }
    run_right N (a ⨾ b) H P E vs s e o c h k q z =
        then_right N P E a b (solve_from a H vs s) (run_right N a H P E vs s e o.0 (split a b c).0 h k q z) (keeps a H vs s (split a b c).0 k) (λ vs' s'. solve_from b (H ⨾ a) vs' s')
        (λ vs' s' k' w. run_right N b (H ⨾ a) (And P a) (equations_of a E) vs' s' (ap (equations_of a) e) o.1 (split a b c).1 w.state k' w.same w.collected)
    run_right N (fresh x) H P E vs s e o c h k q z = record { passes = tt; state = h; same = λ τ. (λ w. (q τ).0 w.0, λ w. ((q τ).1 w, tt)); collected = idle N P E vs s h k q z (fresh x) (λ ρ. tt) }
    run_right N (equations n es) H P E vs s e o c h k q z =
        all_answer N P E vs s h k q z n es H e (unify_all vs s es)
        (res_right N P E vs s h k q z (λ τ. Solves (under τ) es) (unify_all vs s es) (unify_all_good N vs s es h o) (leaves_all F n (H ⨾ equations n es) (unify_all vs s es) (keeps (equations n es) H vs s c k)) (λ τ. unify_all_spec τ vs s es))
    run_right N (equate g n a b) H P E vs s e o c h k q z =
        eq_answer N P E vs s h k q z g n a b (unify vs s a b)
        (res_right N P E vs s h k q z (λ τ. under τ a ≡ under τ b) (unify vs s a b) (unify_state N vs s a b h o.0 o.1) (leaves_answer F g n (unify vs s a b) (keeps (equate g n a b) H vs s c k)) (λ τ. unify_spec τ vs s a b))
    run_right N (select n i a x) H P E vs s e o c h k q z = comp_right N P E vs s h k q z n i a x o.0 o.1 (component i (resolve s a)) refl (keeps (select n i a x) H vs s c k)
    run_right N (small n a) H P E vs s e o c h k q z = small_right N P E vs s h k q z n a o (is_small (resolve s a)) refl
    run_right N (refusal g n) H P E vs s e o c h k q z = (refl, refl)
    run_right N (piece n t) H P E vs s e o c h k q z = close_right N P E n t o (solve_from t H vs s) (run_right N t H P E vs s e o (inner n t c) h k q z) (keeps t H vs s (inner n t c) k)

    -- THE SOLVER IS RIGHT, where the valuations of C count.
    pub solve_right_in : (t : Items) → K t → F empty → Verdict C t (solve t)
    unfolding solve valuation_of equations_of
    solve_right_in t c k =
        go (solve_from t skip us empty) (keeps t skip us empty c k)
        (run_right (In us) t skip C end us empty refl (over t []) c (record { tri = tt; dom = tt; sub = λ y z. z; all = λ y z. z }) k (λ τ. (λ z. (z, tt), λ z. z.0))
        (record { types = λ τ. (λ z. tt, λ z. tt); infinites = λ ρ. (λ z. tt, λ z. wide ρ) }))
      where
        us : List ℕ
        us = unknowns t []

        go : (r : Solved) → Keeps F r → Says (In us) t C end r → Verdict C t r
        go (pass vs s) z w = (w.passes, ((w.same (sol integers s)).1 ((sols s z).0, sol_sat (In us) vs s w.state integers)).1, (sols s z).0)
        go (refuse f m) z w = w

-- Every valuation counts.
pub solve_right : (t : Items) → Verdict Any t (solve t)
solve_right t = solve_right_in Any (λ ρ. tt) (λ s. Unit {0}) (λ u. Unit {0}) (λ s k. (tt, λ y. tt, tt)) (λ u H vs s c k. kept (solve_from u H vs s)) (λ a b c. (tt, tt)) (λ n u c. tt) t tt tt
  where
    kept : (r : Solved) → Keeps (λ s. Unit {0}) r
    kept (pass vs s) = tt
    kept (refuse f m) = tt

-- The solver is total and right: it passes exactly where the items pass, and refuses f at m exactly where they refuse f at m.
abbrev pub Passed : Solved → Type 0
Passed r = (vs : List ℕ) × (s : Substitution) × (r ≡ pass vs s)

module _ (C : Typings) (t : Items) (right : Verdict C t (solve t)) where
  pub passes_in : Passed (solve t) ↔ Passes t C
  passes_in = (λ w. (subst (Verdict C t) w.2 right).0, λ p. go (solve t) right p)
    where
      go : (r : Solved) → Verdict C t r → Passes t C → Passed r
      go (pass vs s) v p = (vs, s, refl)
      go (refuse f m) v p = absurd (not_both t C f m p v)

  pub refuses_in : (f m : ℕ) → (solve t ≡ refuse f m) ↔ Refuses t C f m
  refuses_in f m = (λ e. subst (Verdict C t) e right, λ r. go (solve t) right r)
    where
      go : (r : Solved) → Verdict C t r → Refuses t C f m → r ≡ refuse f m
      go (pass vs s) v r = absurd (not_both t C f m v.0 r)
      go (refuse g k) v r = let e = one t C g k f m v r in ap₂ refuse e.0 e.1

pub solve_passes : (t : Items) → Passed (solve t) ↔ Passes t Any
solve_passes t = passes_in Any t (solve_right t)

pub solve_refuses : (t : Items) (f m : ℕ) → (solve t ≡ refuse f m) ↔ Refuses t Any f m
solve_refuses t f m = refuses_in Any t (solve_right t) f m
