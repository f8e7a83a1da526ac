-- The dictionary is held where the words of its index stay.
use mathlib.Core.Path.{◌≡◌, ◌∙◌}
use mathlib.Core.List.{List}
use Prim.Native.Nat.{ℕ, ◌≤◌, ◌<◌}
use lib.ListN.{get_or}
use Rattle.layout.specs.Layout.{count}
use Rattle.checker_rules.specs.Dictionary.{Dictionary}
use Rattle.checker_dictionary.specs.Index.{index_at, index_end, Indexed}
use Rattle.checker_dictionary.proofs.IndexLaws.{indexed_kept}
use Rattle.checker_lookup.specs.Scoped.{DictionaryHeld}

-- The words of the index are the same in w' as in w.
abbrev pub SameIndex : List ℕ → List ℕ → Type 0
SameIndex w w' = (i : ℕ) → index_at ≤ i → i < index_end → get_or w' i 0 ≡ get_or w i 0

pub same_on : (w w' w'' : List ℕ) → SameIndex w w' → SameIndex w' w'' → SameIndex w w''
same_on w w' w'' A B i l m = B i l m ∙ A i l m

pub indexed_in : (D : Dictionary) (d w w' : List ℕ) → SameIndex w w' → Indexed D d w → Indexed D d w'
indexed_in D d w w' same I = record { holds = I.holds; index = indexed_kept d w w' (count d) same I.index }

pub held_in : (D : Dictionary) (d w w' : List ℕ) → SameIndex w w' → DictionaryHeld D d w → DictionaryHeld D d w'
held_in D d w w' same R = record { holds = indexed_in D d w w' same R.holds; formed = R.formed; limited = R.limited }
