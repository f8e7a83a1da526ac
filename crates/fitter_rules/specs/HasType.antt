-- Values of a type (document 01: "An integer is of ℤ, element k of g of given g, a set of power t if its members are of t, a tuple of a product if as
-- many parts are each of their own type; in no other case"). A binding type has no values; the empty set is of every power type (R22).
use Rattle.std.specs.Prelude.{ℕ, ℤ}
use Rattle.values.specs.Value.{Value, int, element, set, tuple, Values, nil, cons}
use Rattle.types_rules.specs.Former as Former
use Rattle.types_rules.specs.Types.{Ty, node, Tys, tnil, tcons}

mutual
  pub data Has : Value → Ty → Type 0 where
    is_integer : (z : ℤ) → Has (int z) (node Former.int tnil)
    is_element : (g k : ℕ) → Has (element g k) (node (Former.given g) tnil)
    is_set : {vs : Values} {t : Ty} → MembersHave vs t → Has (set vs) (node Former.power (tcons t tnil))
    is_tuple : {vs : Values} {ts : Tys} → PartsHave vs ts → Has (tuple vs) (node Former.product ts)

  pub data MembersHave : Values → Ty → Type 0 where
    no_member : {t : Ty} → MembersHave nil t
    a_member : {v : Value} {vs : Values} {t : Ty} → Has v t → MembersHave vs t → MembersHave (cons v vs) t

  pub data PartsHave : Values → Tys → Type 0 where
    no_part : PartsHave nil tnil
    a_part : {v : Value} {vs : Values} {t : Ty} {ts : Tys} → Has v t → PartsHave vs ts → PartsHave (cons v vs) (tcons t ts)
