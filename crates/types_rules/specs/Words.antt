-- Type words, in prefix order (document 01, the dictionary): 1 ℤ; 2 g; 3 power; 4 n parts; 5 n (identifier, type); 6 i.
use Rattle.std.specs.Prelude.{ℕ, zero, suc, List, [], ◌∷◌, ◌++◌}
use Rattle.types_rules.specs.Former.{Former, int, given, parameter, power, product, binding, tag, identifiers}
use Rattle.types_rules.specs.Types.{Ty, Tys, node, tnil, tcons}
use Rattle.types_rules.specs.Formed.{part_count_type}

-- The word after the tag, where there is one: the given or parameter, or the number n of parts.
unfoldable pub second : Former → ℕ → List ℕ
second int n = []
second (given g) n = g ∷ []
second (parameter i) n = i ∷ []
second power n = []
second product n = n ∷ []
second (binding l) n = n ∷ []

unfoldable mutual
  pub words : Ty → List ℕ
  words (node h gs) = tag h ∷ (second h (part_count_type gs) ++ part_words (identifiers h) gs)

  -- The parts, each after its identifier where the former has identifiers.
  pub part_words : List ℕ → Tys → List ℕ
  part_words l tnil = []
  part_words [] (tcons g gs) = words g ++ part_words [] gs
  part_words (i ∷ l) (tcons g gs) = i ∷ (words g ++ part_words l gs)

-- Reading: what is read, and the words after it.
pub data Read (A : Type 0) : Type 0 where
  nothing : Read A
  got : A → List ℕ → Read A

unfoldable pub and_then : {A B : Type 0} → Read A → (A → List ℕ → Read B) → Read B
and_then nothing k = nothing
and_then (got a r) k = k a r

unfoldable pub with_word : {B : Type 0} → List ℕ → (ℕ → List ℕ → Read B) → Read B
with_word [] k = nothing
with_word (x ∷ ws) k = k x ws

unfoldable pub read_parts : (List ℕ → Read Ty) → ℕ → List ℕ → Read Tys
read_parts rd zero ws = got tnil ws
read_parts rd (suc n) ws = and_then (rd ws) (λ g r. and_then (read_parts rd n r) (λ gs r'. got (tcons g gs) r'))

pub data Components : Type 0 where
  components : List ℕ → Tys → Components

unfoldable pub add : ℕ → Ty → Components → Components
add i g (components l gs) = components (i ∷ l) (tcons g gs)

unfoldable pub read_components : (List ℕ → Read Ty) → ℕ → List ℕ → Read Components
read_components rd zero ws = got (components [] tnil) ws
read_components rd (suc n) ws = with_word ws (λ i r. and_then (rd r) (λ g r₁. and_then (read_components rd n r₁) (λ c r₂. got (add i g c) r₂)))

unfoldable pub binding_of : Components → Ty
binding_of (components l gs) = node (binding l) gs

unfoldable pub read_former : ℕ → (List ℕ → Read Ty) → List ℕ → Read Ty
read_former zero rd ws = nothing
read_former (suc zero) rd ws = got (node int tnil) ws
read_former (suc (suc zero)) rd ws = with_word ws (λ g r. got (node (given g) tnil) r)
read_former (suc (suc (suc zero))) rd ws = and_then (rd ws) (λ g r. got (node power (tcons g tnil)) r)
read_former (suc (suc (suc (suc zero)))) rd ws = with_word ws (λ n r. and_then (read_parts rd n r) (λ gs r'. got (node product gs) r'))
read_former (suc (suc (suc (suc (suc zero))))) rd ws = with_word ws (λ n r. and_then (read_components rd n r) (λ c r'. got (binding_of c) r'))
read_former (suc (suc (suc (suc (suc (suc zero)))))) rd ws = with_word ws (λ i r. got (node (parameter i) tnil) r)
read_former (suc (suc (suc (suc (suc (suc (suc n))))))) rd ws = nothing

-- The type whose words begin ws, if it has at most f levels.
unfoldable pub read_type : ℕ → List ℕ → Read Ty
read_type zero ws = nothing
read_type (suc f) ws = with_word ws (λ t r. read_former t (λ w. read_type f w) r)
