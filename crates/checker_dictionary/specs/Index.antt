-- THE INDEX of a dictionary, in the work area. Names fall into buckets. For each bucket there is the newest entry whose name is in it; for each entry, the newest
-- one before it in the same bucket. 0 stands for none. Only the first 4,096 entries are in the index.
use Rattle.std.specs.Prelude.{◌≡◌, ℕ, ◌+◌, ◌-◌, ◌%◌, ◌<◌, ◌≤◌, Bool, List, ◌==◌, slice_index}
use Rattle.layout.specs.Layout.{count}
use Rattle.checker_rules.specs.Dictionary.{Dictionary}
use Rattle.checker_dictionary.specs.Holds.{Holds}
use Rattle.checker_dictionary.specs.Lookup.{name_at, newest}

-- Where the buckets stand, and the entries after them; entry k stands at links_at + k.
abbrev pub index_at : ℕ
index_at = 512

abbrev pub bucket_count : ℕ
bucket_count = 1024

abbrev pub links_at : ℕ
links_at = 1535

abbrev pub index_room : ℕ
index_room = 4096

abbrev pub index_end : ℕ
index_end = 5632

unfoldable pub bucket_of : ℕ → ℕ
bucket_of name = name % bucket_count

unfoldable pub in_bucket : List ℕ → ℕ → ℕ → Bool
in_bucket d b k = b == bucket_of (name_at d k)

-- how many of n entries are in the index: n, and at most index_room
abbrev pub indexed : ℕ → ℕ
indexed n = n - (n - index_room)

-- The first n entries of the area d that have room are in the index of w.
pub record IndexedTo (d w : List ℕ) (n : ℕ) : Type 0 where
  pub buckets : (b : ℕ) → b < bucket_count → slice_index w (index_at + b) ≡ newest (in_bucket d b) (indexed n)
  pub links : (k : ℕ) → 1 ≤ k → k ≤ indexed n → slice_index w (links_at + k) ≡ newest (in_bucket d (bucket_of (name_at d k))) (k - 1)

-- The area d holds the dictionary D, and w has its index.
pub record Indexed (D : Dictionary) (d w : List ℕ) : Type 0 where
  pub holds : Holds D d
  pub index : IndexedTo d w (count d)
