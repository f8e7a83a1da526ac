-- Sets of values: members ascending by their words. What specs/Sets.antt does on words, said of values; the evaluation rules use these.
use Rattle.std.specs.Prelude.{Bool, true, false, cond, ◌&&◌, ◌==◌}
use Rattle.values.specs.Order.{compare, same}
use Rattle.values.specs.Value.{Value, int, element, set, tuple, Values, nil, cons, count, encode}
use Rattle.std.specs.declared.cmp.Ordering.{Ordering}
use Rattle.std.specs.declared.cmp.Ordering.TheVariants.{Less, Equal, Greater}

-- = compares words
unfoldable pub same_value : Value → Value → Bool
same_value v w = same (encode v) (encode w)

unfoldable pub is_in : Value → Values → Bool
is_in v nil = false
is_in v (cons w ws) = cond (same_value w v) true (is_in v ws)

unfoldable pub insert_by : Ordering → Value → Value → Values → Values → Values
insert_by Less v w ws more = cons v (cons w ws)
insert_by Equal v w ws more = cons w ws
insert_by Greater v w ws more = cons w more

unfoldable pub insert_value : Value → Values → Values
insert_value v nil = cons v nil
insert_value v (cons w ws) = insert_by (compare (encode v) (encode w)) v w ws (insert_value v ws)

-- Apply: the value of the function vs at a. A member that is no pair is 51 (misfit), wherever it stands; otherwise the value is the second part of the one pair
-- whose first part is a, and 52 (undefined) where there is none or more than one.
pub data Image : Type 0 where
  found : Value → Image
  misfit : Image
  undefined : Image

unfoldable pub is_pair_value : Value → Bool
is_pair_value (int z) = false
is_pair_value (element g k) = false
is_pair_value (set vs) = false
is_pair_value (tuple vs) = count vs == 2

unfoldable pub all_pairs : Values → Bool
all_pairs nil = true
all_pairs (cons v vs) = is_pair_value v && all_pairs vs

-- the second parts of the pairs whose first part is a
unfoldable pub images : Value → Values → Values
images a nil = nil
images a (cons (int z) ws) = images a ws
images a (cons (element g k) ws) = images a ws
images a (cons (set vs) ws) = images a ws
images a (cons (tuple nil) ws) = images a ws
images a (cons (tuple (cons x nil)) ws) = images a ws
images a (cons (tuple (cons x (cons y nil))) ws) = cond (same_value x a) (cons y (images a ws)) (images a ws)
images a (cons (tuple (cons x (cons y (cons z r)))) ws) = images a ws

unfoldable pub only_one : Values → Image
only_one nil = undefined
only_one (cons y nil) = found y
only_one (cons y (cons z ys)) = undefined

unfoldable pub apply_value : Value → Values → Image
apply_value a vs = cond (all_pairs vs) (only_one (images a vs)) misfit
