-- What the code's functions give by value, and how it tells the outcome of the evaluation rules. The list of values is no part of it.
use Rattle.std.specs.Prelude.{◌≡◌, List, [], ◌∷◌, ◌++◌, ◌⊎◌, Bool, true, ◌&&◌, ℕ, ◌≤◌, ℤ, length, get_or, take, Option, Some, None, Result, Ok, Err}
use Rattle.values_integers.specs.Integer.{in32}
use Rattle.values.specs.Value.{Value, int, element, set, tuple, Values, nil, cons, count, encode, encodes}
use Rattle.values.specs.Held.{keep}
use Rattle.values.specs.Numbers.{number_of}
use Rattle.values.specs.declared.held.Held.{Held}
use Rattle.enumeration_rules.specs.Enumeration.{each}
use Rattle.enumeration_rules.specs.OnWords.{grow, grown}
use Rattle.evaluator_rules.specs.Outcomes.{Event, Outcome, done, stopped}
use Rattle.evaluator_rules.specs.Listing.{NoSet, SomeNoSet, AllSets}
use Rattle.evaluator_rules.specs.Assignments.{go, halt}
use Rattle.evaluator_rules.specs.Assignments as Assignments
use Rattle.reader_rules.specs.declared.Refusal.{Refusal}
use Rattle.evaluator_operations.specs.declared.worked.Flow.{Flow}
use Rattle.evaluator_operations.specs.declared.worked.Flow.TheVariants.{Go, Halt}

-- the integers of a value are of 32 bits signed
unfoldable mutual
  pub narrow : Value → Bool
  narrow (int z) = in32 z
  narrow (element g k) = true
  narrow (set vs) = all_narrow vs
  narrow (tuple vs) = all_narrow vs

  pub all_narrow : Values → Bool
  all_narrow nil = true
  all_narrow (cons v vs) = narrow v && all_narrow vs

-- a value by value
pub record Holds (h : Held) (v : Value) : Type 0 where
  pub words : h ≡ keep (encode v)
  pub short : length (encode v) ≤ 64
  pub narrow : narrow v ≡ true

-- the integer that a value is, or that it is none
pub record Is (z : Option ℤ) (v : Value) : Type 0 where
  pub integer : z ≡ number_of (encode v)
  pub narrow : narrow v ≡ true

-- what R says of the value where it goes on; number and place of a finding where it stops
pub data Told {B A : Type 0} (R : B → A → Type 0) : Result B Refusal → Outcome A → Type 0 where
  fine : {t : List Event} {b : B} {a : A} → R b a → Told R (Ok b) (done t a)
  ceased : {t : List Event} {f : Refusal} {number node : ℕ} → f.number ≡ number → f.place ≡ node → (number ≡ 0 → ⊥) → Told R (Err f) (stopped t number node)

-- an integer, a truth value, what an assignment leaves
pub record Counted (z : ℤ) (v : Value) : Type 0 where
  pub value : v ≡ int z
  pub narrow : in32 z ≡ true

abbrev pub Judged : Bool → Bool → Type 0
Judged a b = a ≡ b

abbrev pub Flowed : (Values → Type 0) → Flow → Assignments.Flow → Type 0
Flowed G f (go vs) = (f ≡ Go) × G vs
Flowed G f halt = f ≡ Halt

-- a set that grows in an array: its words first, and in the word behind the room for a value their number
pub record SetIn (u : List ℕ) (vs : Values) : Type 0 where
  pub long : 65 ≤ length u
  pub words : take (length (encode (set vs))) u ≡ encode (set vs)
  pub counted : get_or u 64 0 ≡ length (encode (set vs))
  pub short : length (encode (set vs)) ≤ 64
  pub narrow : narrow (set vs) ≡ true

-- one member more
abbrev pub Grown : List ℕ → Unit {0} → Values → Type 0
Grown u r vs = SetIn u vs

-- n values, one after the other, behind the words ws; perhaps over 64 words
pub record Joined (ws : List ℕ) (n : ℕ) (h : Held) (vs : Values) : Type 0 where
  pub counted : count vs ≡ n
  pub words : h ≡ keep (ws ++ encodes vs)
  pub narrow : all_narrow vs ≡ true

-- the tuples of the rows rs, perhaps over 64 words; none where an operand was no set
pub record Tuples (o : Option Held) (rs : List Values) : Type 0 where
  pub words : (h : Held) → o ≡ Some h → h ≡ keep (encode (set (each tuple rs)))

-- the rows of no operand: one, of no parts
abbrev pub no_parts : List Values
no_parts = nil ∷ []

-- the rows rs with the value x as the next operand
pub data Crosses (rs : List Values) (o r : Option Held) : Value → Type 0 where
  a_set : {vs : Values} → (o ≡ None → r ≡ None) → (r ≡ None → o ≡ None) → Tuples r (grow rs vs) → Crosses rs o r (set vs)
  no_set : {x : Value} → NoSet x → r ≡ None → Crosses rs o r x

-- the rows rs with the values vs as the next operands, one after the other
pub record Crossed (o : Option Held) (rs : List Values) (r : Option Held) (vs : Values) : Type 0 where
  pub sets : (h : Held) → r ≡ Some h → (vss : List Values) × AllSets vs vss × (o ≡ None → ⊥) × (h ≡ keep (encode (set (each tuple (grown rs vss)))))
  pub some : r ≡ None → (o ≡ None) ⊎ SomeNoSet vs
  pub narrow : all_narrow vs ≡ true

-- a finding
pub record Stops (f : Refusal) (n k : ℕ) : Type 0 where
  pub number : f.number ≡ n
  pub place : f.place ≡ k
