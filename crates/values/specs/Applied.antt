-- What Apply finds on words: the place and the number of words of a value, or why there is none.
use Rattle.std.specs.Prelude.{ℕ, Result, Ok, Err}
use Rattle.values.specs.declared.sets.NoImage.{NoImage}
use Rattle.values.specs.declared.sets.NoImage.TheVariants as NoImage

abbrev pub Applied : Type 0
Applied = Result (ℕ × ℕ) NoImage

pattern abbrev pub Found : ℕ → ℕ → Applied
Found at len = Ok (at, len)

pattern abbrev pub Misfit : Applied
Misfit = Err NoImage.Misfit

pattern abbrev pub Undefined : Applied
Undefined = Err NoImage.Undefined
