-- The unknown types of a paragraph, and the terms that the rules write.
use Rattle.std.specs.Prelude.{ℕ, zero, suc, ◌+◌, ◌*◌}
use Rattle.types_rules.specs.Former.{int, given, parameter, power, product}
use Rattle.types_rules.specs.Types.{Ty, node, tnil, tcons, Term, unknown, con, Terms, nil, cons}

-- A valuation gives each unknown a type, an inductive `Ty` ("Types are finite"): it is a typing of the paragraph.
abbrev pub Valuation : Type 0
Valuation = ℕ → Ty

-- Unknown k of node n. 0 is the type of an expression node, or the type t that a Decl gives its identifiers; 1 to 6 are the node's other unknowns: the
-- element type of a Set, the parameters of a generic Ref, what the operands of Power and Product and the actuals of a Ref or an Include are powers of.
unfoldable pub slot : ℕ → ℕ → ℕ
slot n k = n * 8 + k

abbrev pub unknown_at : ℕ → ℕ → Term
unknown_at n k = unknown (slot n k)

-- unknowns k, k + 1, .. of node n, p of them
unfoldable pub row : ℕ → ℕ → ℕ → Terms
row n k zero = nil
row n k (suc p) = cons (unknown_at n k) (row n (suc k) p)

-- ℤ, power, product, parameter i
abbrev pub integer : Term
integer = con int nil

abbrev pub power_of : Term → Term
power_of t = con power (cons t nil)

abbrev pub product_of : Terms → Term
product_of ts = con product ts

abbrev pub pair_of : Term → Term → Term
pair_of a b = product_of (cons a (cons b nil))

abbrev pub parameter_of : ℕ → Term
parameter_of i = con (parameter i) nil

-- the type of a given: power g
abbrev pub given_set : ℕ → Ty
given_set g = node power (tcons (node (given g) tnil) tnil)
