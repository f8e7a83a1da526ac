-- Type words are few: at most three for each node of the type.
use mathlib.Core.List.{List, [], ◌∷◌}
use Prim.Native.Nat.{ℕ, ◌+◌, ◌*◌, ◌≤◌}
use native.Mathlib.Omega.{arith}
use lib.ListN.{length, length-append}
use Rattle.types_rules.specs.Formed.{part_count_type}
use Rattle.types_rules.specs.Former.{Former, int, given, parameter, power, product, binding, identifiers}
use Rattle.types_rules.specs.Types.{Ty, Tys, node, tnil, tcons, size, sizes}
use Rattle.types_rules.specs.Words.{second, words, part_words}

second_few : (h : Former) (n : ℕ) → length (second h n) ≤ 1
unfolding second
second_few int n = omega arith
second_few (given g) n = omega arith
second_few (parameter i) n = omega arith
second_few power n = omega arith
second_few product n = omega arith
second_few (binding l) n = omega arith

mutual
  unfolding words size

  pub words_few : (g : Ty) → length (words g) + 1 ≤ 3 * size g
  words_few (node h gs) =
      let a = second_few h (part_count_type gs) in
      let b = parts_few gs (identifiers h) in
      let e = length-append (second h (part_count_type gs)) (part_words (identifiers h) gs) in
      omega arith

  parts_few : (gs : Tys) (l : List ℕ) → length (part_words l gs) ≤ 3 * sizes gs
  parts_few tnil l = omega arith
  parts_few (tcons g gs) [] = let a = words_few g in let b = parts_few gs [] in let e = length-append (words g) (part_words [] gs) in omega arith
  parts_few (tcons g gs) (i ∷ l) = let a = words_few g in let b = parts_few gs l in let e = length-append (words g) (part_words l gs) in omega arith
