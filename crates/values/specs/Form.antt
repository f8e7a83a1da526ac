-- Which words are a value: tags 1 to 4, counts that are not negative, elements below their given's size, members ascending and distinct,
-- 2 to 6 parts, at most 64 words. `size` is the size of each given.
use Rattle.std.specs.Prelude.{ℕ, zero, suc, ◌+◌, ◌^◌, Bool, true, false, cond, ◌&&◌, List, [], length, take, drop, ◌==◌, nat_le, nat_lt, slice_index}
use Rattle.values.specs.Order.{compare, is_less}
use Rattle.values.specs.declared.shapes.Shape.{Shape}
use Rattle.values.specs.declared.shapes.Shape.TheVariants.{Broken, Leaf, Set, Tuple}

unfoldable pub element_shape : (ℕ → ℕ) → List ℕ → Shape
element_shape size ws = cond (nat_lt (length ws) 3) Broken (cond (nat_lt (slice_index ws 2) (size (slice_index ws 1))) (Leaf 3) Broken)

-- a count is not negative: below 2^31
unfoldable pub group_shape : ℕ → ℕ → Shape
group_shape tag n =
    cond (tag == 3) (cond (nat_lt n (2 ^ 31)) (Set n) Broken)
    (cond (tag == 4) (cond (nat_lt n 2) Broken (cond (nat_le n 6) (Tuple n) Broken)) Broken)

-- what begins at ws: a value that has no parts, with its words; or a set or a tuple, with its count
unfoldable pub shape_of : (ℕ → ℕ) → List ℕ → Shape
shape_of size ws =
    cond (nat_lt (length ws) 2) Broken
    (cond (slice_index ws 0 == 1) (Leaf 2) (cond (slice_index ws 0 == 2) (element_shape size ws) (group_shape (slice_index ws 0) (slice_index ws 1))))

-- m follows p: as a member, ascending; as a part, always
unfoldable pub follows : Bool → List ℕ → List ℕ → Bool
follows ascending p m = cond ascending (is_less (compare p m)) true

-- the next value: there is one, and it follows p
unfoldable pub next_fits : (List ℕ → ℕ) → Bool → List ℕ → List ℕ → Bool
next_fits f ascending p ws = cond (f ws == 0) false (follows ascending p (take (f ws) ws))

-- the place after n values that begin at ws, the place `at`, after the value p; 0 where one of them does not fit
unfoldable pub group_end : (List ℕ → ℕ) → Bool → ℕ → List ℕ → List ℕ → ℕ → ℕ
group_end f ascending zero p ws at = at
group_end f ascending (suc n) p ws at =
    elim (next_fits f ascending p ws) [ true ↦ group_end f ascending n (take (f ws) ws) (drop (f ws) ws) (at + f ws) | false ↦ 0 ]

unfoldable pub by_shape : (List ℕ → ℕ) → Shape → List ℕ → ℕ
by_shape f Broken ws = 0
by_shape f (Leaf n) ws = n
by_shape f (Set n) ws = group_end f true n [] (drop 2 ws) 2
by_shape f (Tuple n) ws = group_end f false n [] (drop 2 ws) 2

-- the words of the value that begins at ws, at most d levels deep; 0 where none does
unfoldable pub value_length : (ℕ → ℕ) → ℕ → List ℕ → ℕ
value_length size zero ws = 0
value_length size (suc d) ws = by_shape (value_length size d) (shape_of size ws) ws

-- the words of one value. Each level takes two words, so 64 words have at most 32 levels.
unfoldable pub is_value : (ℕ → ℕ) → List ℕ → Bool
is_value size ws = nat_le 1 (length ws) && (nat_le (length ws) 64 && value_length size 32 ws == length ws)
