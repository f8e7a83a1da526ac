-- The words of formers, and views.
use mathlib.Core.Path.{◌≡◌, refl, sym, ap, ◌∙◌}
use mathlib.Core.Bool.{true, false}
use mathlib.Core.List.{List}
use Prim.Native.Nat.{ℕ, zero, suc, ◌≤◌, ◌<◌}
use native.Mathlib.Omega.{arith}
use lib.Dec.{ltb}
use lib.ListN.{length}
use borrow.Author.Tests.{lt-ltb}
use Rattle.types_rules.specs.Follows.{View, shape, unk}
use Rattle.types_rules.specs.Former.{Former, binding, given, int, parameter, power, product}
use Rattle.types_rules.specs.Former.{former_of, tag}
use Rattle.types_cells.specs.Store.{tag_at, arg_at, count_at, run, parts_at, former_at, view_of, view, Cell}
use Rattle.types_cells.proofs.Words.{run_length}

pub code : Former → ℕ
code int = 1
code (given g) = 2
code power = 3
code product = 4
code (binding l) = 5
code (parameter i) = 6

pub coded : (t a : ℕ) (l : List ℕ) → 0 < t → t ≤ 6 → code (former_of t a l) ≡ t
unfolding former_of code
coded zero a l p q = absurd (omega arith)
coded (suc zero) a l p q = refl
coded (suc (suc zero)) a l p q = refl
coded (suc (suc (suc zero))) a l p q = refl
coded (suc (suc (suc (suc zero)))) a l p q = refl
coded (suc (suc (suc (suc (suc zero))))) a l p q = refl
coded (suc (suc (suc (suc (suc (suc n)))))) a l p q = omega arith

pub tag_code : (h : Former) → code h ≡ tag h
unfolding code tag
tag_code int = refl
tag_code (given g) = refl
tag_code power = refl
tag_code product = refl
tag_code (binding l) = refl
tag_code (parameter i) = refl

pub arg_yes : (t a b : ℕ) (l m : List ℕ) → (t ≡ 5 → ⊥) → a ≡ b → former_of t a l ≡ former_of t b m
unfolding former_of
arg_yes zero a b l m p q = refl
arg_yes (suc zero) a b l m p q = refl
arg_yes (suc (suc zero)) a b l m p q = ap given q
arg_yes (suc (suc (suc zero))) a b l m p q = refl
arg_yes (suc (suc (suc (suc zero)))) a b l m p q = refl
arg_yes (suc (suc (suc (suc (suc zero))))) a b l m p q = absurd (p refl)
arg_yes (suc (suc (suc (suc (suc (suc n)))))) a b l m p q = ap parameter q

pub binding_inj : (l m : List ℕ) → binding l ≡ binding m → l ≡ m
binding_inj l m q = cc

pub head_five : (w : List ℕ) (x : ℕ) → tag_at w x ≡ 5 → former_at w x ≡ binding (run w (arg_at w x) (count_at w x))
unfolding former_at former_of
head_five w x e = ap (λ t. former_of t (arg_at w x) (run w (arg_at w x) (count_at w x))) e

pub not_five : (w : List ℕ) (x : ℕ) → Cell w x → 0 < tag_at w x → (tag_at w x ≡ 5 → ⊥) → (l : List ℕ) → former_at w x ≡ binding l → ⊥
unfolding former_at code
not_five w x C p ne l e = ne (sym (coded (tag_at w x) (arg_at w x) _ p C.tags) ∙ ap code e)

view_c : (n i : ℕ) → i < n → (v : View ℕ) → (elim (ltb i n) as (λ z. View ℕ) [ true ↦ v | false ↦ unk ]) ≡ v
view_c n i l v = rw (lt-ltb i n l)

pub view_at : (w : List ℕ) (n i : ℕ) → i < n → view w n i ≡ view_of (tag_at w i) (former_at w i) (parts_at w i)
unfolding view
view_at w n i l = view_c n i l _

pub view_unk : (w : List ℕ) (n i : ℕ) → i < n → tag_at w i ≡ 0 → view w n i ≡ unk
unfolding view_of
view_unk w n i l e = view_at w n i l ∙ ap (λ t. view_of t (former_at w i) (parts_at w i)) e

view_of_shape : (t : ℕ) (h : Former) (ps : List ℕ) → 0 < t → view_of t h ps ≡ shape h ps
unfolding view_of
view_of_shape zero h ps l = absurd (omega arith)
view_of_shape (suc t) h ps l = refl

pub view_shape : (w : List ℕ) (n i : ℕ) → i < n → 0 < tag_at w i → view w n i ≡ shape (former_at w i) (parts_at w i)
view_shape w n i l p = view_at w n i l ∙ view_of_shape (tag_at w i) (former_at w i) (parts_at w i) p

pub parts_length : (w : List ℕ) (i : ℕ) → Cell w i → length (parts_at w i) ≡ count_at w i
parts_length w i C = run_length w _ _ C.room
