-- The listed members of a power and of a product are of the type that the check gives them.
use mathlib.Core.List.{List, [], ◌∷◌}
use Prim.Native.Nat.{suc}
use Rattle.values.specs.Value.{Value, Values, count}
use Rattle.types_rules.specs.Types.{Ty, Tys, tnil, tcons}
use Rattle.fitter_rules.specs.HasType.{Has, is_set, is_tuple, MembersHave, no_member, a_member, PartsHave, no_part, a_part}
use Rattle.enumeration_rules.specs.Enumeration.{picks, each, subsets, tuples}
use Rattle.enumeration_rules.proofs.Rows.{All, none, also, Members, nobody, member, all_map, rows_all}
use Rattle.enumeration_rules.proofs.Powers.{choices_all, sizes_all}
use Rattle.soundness.proofs.Values.{power_type, product_type}

have_members : {vs : Values} {t : Ty} → MembersHave vs t → Members (λ v. Has v t) vs
have_members no_member = nobody
have_members (a_member h hs) = member h (have_members hs)

each_have : {f : Values → Value} {t : Ty} {xs : List Values} → All (λ r. Has (f r) t) xs → MembersHave (each f xs) t
unfolding each
each_have none = no_member
each_have (also h hs) = a_member h (each_have hs)

-- members of t: each listed set is of power t
pub power_have : (vs : Values) {t : Ty} → MembersHave vs t → MembersHave (subsets vs) (power_type t)
unfolding subsets
power_have vs {t} h =
    each_have (all_map (λ r m. is_set m)
    (sizes_all vs (λ k. choices_all {P = λ r. MembersHave r t} no_member (λ v r x m. a_member x m) k vs (have_members h)) (suc (count vs)) 0))

-- each operand's members of its own type
pub data OperandsHave : List Values → Tys → Type 0 where
  no_operand : OperandsHave [] tnil
  an_operand : {vs : Values} {vss : List Values} {t : Ty} {ts : Tys} → MembersHave vs t → OperandsHave vss ts → OperandsHave (vs ∷ vss) (tcons t ts)

picks_have : {vss : List Values} {ts : Tys} → OperandsHave vss ts → All (λ r. PartsHave r ts) (picks vss)
unfolding picks
picks_have no_operand = also no_part none
picks_have (an_operand {vss = vss} h hs) = rows_all (λ _. picks vss) (λ v r x m. a_part x m) (λ _ _. picks_have hs) (have_members h)

pub product_have : {vss : List Values} {ts : Tys} → OperandsHave vss ts → MembersHave (tuples vss) (product_type ts)
unfolding tuples
product_have h = each_have (all_map (λ r m. is_tuple m) (picks_have h))
