-- Finding 42's test: an integer is of ℤ, element k of g of given g, a set of power t if its members are of t,
-- a tuple of a product if as many parts are each of their own type; in no other case.
use Rattle.std.specs.Prelude.{ℕ, zero, suc, Bool, true, false, cond, ◌&&◌, List, drop, ◌==◌, slice_index}
use Rattle.values.specs.Value.{Value, int, element, set, tuple, Values, nil, cons, count}
use Rattle.values.specs.Sets.{rest}
use Rattle.values.specs.TypeWords.{type_length}
use Rattle.values.specs.declared.shapes.Test.{Test}
use Rattle.values.specs.declared.shapes.Test.TheVariants.{Fails, Passes, Each}

-- where the next part's type is: after this one's words, of which a recorded type has at most 32 levels; a set's members share one
unfoldable pub type_step : Bool → List ℕ → ℕ
type_step own t = cond own (type_length 32 t) 0

-- the value against the type whose words begin at t
unfoldable mutual
  pub is_of : Value → List ℕ → Bool
  is_of (int z) t = slice_index t 0 == 1
  is_of (element g k) t = slice_index t 0 == 2 && slice_index t 1 == g
  is_of (set vs) t = slice_index t 0 == 3 && are_of vs false (drop 1 t)
  is_of (tuple vs) t = slice_index t 0 == 4 && (slice_index t 1 == count vs && are_of vs true (drop 2 t))

  pub are_of : Values → Bool → List ℕ → Bool
  are_of nil own t = true
  are_of (cons v vs) own t = is_of v t && are_of vs own (drop (type_step own t) t)

-- the same on the value's words w, at most d levels deep: `Each own start n` asks for n members or parts against the types from `start` on
unfoldable pub whether : Bool → Test
whether true = Passes
whether false = Fails

unfoldable pub test_of : List ℕ → List ℕ → Test
test_of t w =
    cond (slice_index t 0 == slice_index w 0)
    (cond (slice_index t 0 == 1) Passes
    (cond (slice_index t 0 == 2) (whether (slice_index t 1 == slice_index w 1))
    (cond (slice_index t 0 == 3) (Each false 1 (slice_index w 1))
    (cond (slice_index t 0 == 4) (cond (slice_index t 1 == slice_index w 1) (Each true 2 (slice_index w 1)) Fails) Fails))))
    Fails

unfoldable pub each : (List ℕ → List ℕ → Bool) → Bool → ℕ → List ℕ → List ℕ → Bool
each f own zero t w = true
each f own (suc n) t w = elim (f t w) [ true ↦ each f own n (drop (type_step own t) t) (rest w) | false ↦ false ]

unfoldable pub by_test : (List ℕ → List ℕ → Bool) → Test → List ℕ → List ℕ → Bool
by_test f Fails t w = false
by_test f Passes t w = true
by_test f (Each own start n) t w = each f own n (drop start t) (drop 2 w)

unfoldable pub has_type : ℕ → List ℕ → List ℕ → Bool
has_type zero t w = false
has_type (suc d) t w = by_test (has_type d) (test_of t w) t w
