-- The nested runs through a Text's sets are one run over the list of its assignments.
use mathlib.Core.Path.{◌≡◌, refl, ap, sym, ◌∙◌}
use mathlib.Core.List.{List, [], ◌∷◌, ◌++◌, append_assoc, append-nil}
use Prim.Native.Nat.{ℕ}
use Rattle.values.specs.Value.{Values, nil, cons}
use Rattle.evaluator_rules.specs.Outcomes.{Event, Outcome, done, stopped, after, ◌>>=◌, pure}
use Rattle.evaluator_rules.specs.Environment.{Environment, bind, valued}
use Rattle.evaluator_rules.specs.Assignments.{Domains, no_more, domain, Flow, go, halt, Body, next, each, assign}
use Rattle.evaluator_rules.specs.Listing.{through, assignments}

pub after_nil : {A : Type 0} (m : Outcome A) → after [] m ≡ m
unfolding after
after_nil (done t a) = refl
after_nil (stopped t w n) = refl

after_after : {A : Type 0} (t u : List Event) (m : Outcome A) → after (t ++ u) m ≡ after t (after u m)
unfolding after
after_after t u (done l a) = ap (λ (x : List Event). done x a) (append_assoc t u l)
after_after t u (stopped l w n) = ap (λ (x : List Event). stopped x w n) (append_assoc t u l)

after_bind : {A B : Type 0} (t : List Event) (m : Outcome A) (g : A → Outcome B) → (after t m >>= g) ≡ after t (m >>= g)
unfolding after ◌>>=◌
after_bind t (done u a) g = after_after t u (g a)
after_bind t (stopped u w n) g = refl

pub bind_assoc : {A B C : Type 0} (m : Outcome A) (f : A → Outcome B) (g : B → Outcome C) → ((m >>= f) >>= g) ≡ (m >>= λ a. f a >>= g)
unfolding ◌>>=◌
bind_assoc (done t a) f g = after_bind t (f a) g
bind_assoc (stopped t w n) f g = refl

-- one assignment after the other, until one halts
unfoldable pub over : List Environment → Body → Values → Outcome Flow
over [] k s = pure (go s)
over (x ∷ xs) k s = k x s >>= next (λ s'. over xs k s')

next_same : (m : Outcome Flow) (f g : Values → Outcome Flow) → ((s : Values) → f s ≡ g s) → (m >>= next f) ≡ (m >>= next g)
unfolding ◌>>=◌ next
next_same (done t (go s)) f g h = ap (after t) (h s)
next_same (done t halt) f g h = refl
next_same (stopped t w n) f g h = refl

next_last : (m : Outcome Flow) → (m >>= next (λ s. pure (go s))) ≡ m
unfolding ◌>>=◌ next after
next_last (done t (go s)) = ap (λ (x : List Event). done x (go s)) (append-nil t)
next_last (done t halt) = ap (λ (x : List Event). done x halt) (append-nil t)
next_last (stopped t w n) = refl

next_next : (m : Outcome Flow) (f g : Values → Outcome Flow) → ((m >>= next f) >>= next g) ≡ (m >>= next (λ s. f s >>= next g))
unfolding ◌>>=◌ next after
next_next (done t (go s)) f g = after_bind t (f s) (next g)
next_next (done t halt) f g = ap (λ (x : List Event). done x halt) (append-nil (t ++ []))
next_next (stopped t w n) f g = refl

pub next_go : (s : Values) (f : Values → Outcome Flow) → (pure (go s) >>= next f) ≡ f s
unfolding ◌>>=◌ next
next_go s f = after_nil (f s)

over_append : (xs ys : List Environment) (k : Body) (s : Values) → over (xs ++ ys) k s ≡ (over xs k s >>= next (λ s'. over ys k s'))
unfolding over
over_append [] ys k s = sym (next_go s (λ s'. over ys k s'))
over_append (x ∷ xs) ys k s = next_same (k x s) _ _ (λ s'. over_append xs ys k s') ∙ sym (next_next (k x s) (λ s'. over xs k s') (λ s'. over ys k s'))

each_over : (i : ℕ) (vs : Values) (k g : Body) (f : Environment → List Environment) (scope : Environment) (s : Values) → ((scope' : Environment) (s' : Values) → g scope' s' ≡ over (f scope') k s') → each i vs g scope s ≡ over (through i vs f scope) k s
unfolding each through over
each_over i nil k g f scope s h = refl
each_over i (cons v vs) k g f scope s h =
    next_same (g (bind i (valued v) scope) s) _ _ (λ s'. each_over i vs k g f scope s' h)
    ∙ ap (λ (m : Outcome Flow). m >>= next (λ s'. over (through i vs f scope) k s')) (h (bind i (valued v) scope) s) ∙ sym (over_append (f (bind i (valued v) scope)) (through i vs f scope) k s)

pub assign_over : (ds : Domains) (k : Body) (scope : Environment) (s : Values) → assign ds k scope s ≡ over (assignments ds scope) k s
unfolding assign assignments over
assign_over no_more k scope s = sym (next_last (k scope s))
assign_over (domain i vs ds) k scope s = each_over i vs k _ _ scope s (λ scope' s'. assign_over ds k scope' s')
