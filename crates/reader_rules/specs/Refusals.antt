-- A finding of reading, of a check or of a state: none, or a refusal with its number and place. For none reading and states say `Readable`, a check and a fit `Accepted`.
use Rattle.std.specs.Prelude.{ℕ, List, ◌++◌, codes, decimal, Result, Ok, Err}
use Rattle.reader_rules.specs.declared.Refusal.{Refusal}

abbrev pub Finding : Type 0
Finding = Result (Unit {0}) Refusal

pattern abbrev pub Readable : Finding
Readable = Ok tt

pattern abbrev pub Accepted : Finding
Accepted = Ok tt

abbrev pub Refused : {A : Type 0} → ℕ → ℕ → Result A Refusal
Refused n p = Err (record { number = n; place = p })

-- a refusal in words: `refused 33 at 4`
abbrev pub refusal_text : Refusal → List ℕ
refusal_text r = codes "refused " ++ decimal r.number ++ codes " at " ++ decimal r.place
