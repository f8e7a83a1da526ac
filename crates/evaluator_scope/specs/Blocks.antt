-- The names in the work area: blocks, the newest last. A block is an identifier, a class, place and length of the value's words, and
-- room for 64 words of its own. Class 1: the value lies in the state; 2: in the work area; 3: a generic abbreviation; 0: not in scope.
use Rattle.std.specs.Prelude.{◌≡◌, List, true, cond, ℕ, zero, suc, ◌+◌, ◌*◌, ◌≤◌, ◌<◌, eqb, length, get_or, set, take, drop}
use Rattle.values.specs.Value.{Value, Values, encode}
use Rattle.values.specs.Lookup.{value_at}
use Rattle.evaluator_rules.specs.Environment.{Meaning, valued, generic, Environment, empty, bind}
use Rattle.evaluator_rules.specs.Assignments.{Domains, no_more, domain}
use Rattle.evaluator_operations.specs.Worked.{narrow}

-- the words of a block's head, and of a block; the blocks that the work area has room for
abbrev pub head_words : ℕ
head_words = 4

abbrev pub block_words : ℕ
block_words = head_words + 64

abbrev pub block_count : ℕ
block_count = 240

-- word j of block b
abbrev pub field : List ℕ → ℕ → ℕ → ℕ
field work b j = get_or work (block_words * b + j) 0

-- the words ws lie at a place
abbrev pub Lies : List ℕ → ℕ → List ℕ → Type 0
Lies work at ws = take (length ws) (drop at work) ≡ ws

-- the words of a value
pub record Stored (ws : List ℕ) (v : Value) : Type 0 where
  pub words : ws ≡ encode v
  pub short : length (encode v) ≤ 64
  pub narrow : narrow v ≡ true

-- what block b says
pub data Means (state work : List ℕ) (b : ℕ) : Meaning → Type 0 where
  in_state : {v : Value} → field work b 1 ≡ 1 → Stored (take (field work b 3) (drop (field work b 2) state)) v → Means state work b (valued v)
  in_work : {v : Value} → field work b 1 ≡ 2 → field work b 2 + field work b 3 ≤ block_words * (b + 1) → Stored (take (field work b 3) (drop (field work b 2) work)) v →
      Means state work b (valued v)
  is_generic : field work b 1 ≡ 3 → Means state work b generic

-- the first n blocks are the names of a scope
pub data Scoped (state work : List ℕ) : ℕ → Environment → Type 0 where
  none : Scoped state work 0 empty
  hidden : {n : ℕ} {scope : Environment} → Scoped state work n scope → field work n 1 ≡ 0 → Scoped state work (suc n) scope
  named : {n : ℕ} {scope : Environment} {i : ℕ} {m : Meaning} → Scoped state work n scope → field work n 0 ≡ i → Means state work n m →
      Scoped state work (suc n) (bind i m scope)

-- the m blocks from b on are identifiers with the sets that they run through
pub data Pending (work : List ℕ) : ℕ → ℕ → Domains → Type 0 where
  none : {b : ℕ} → Pending work b 0 no_more
  more : {b m i : ℕ} {vs : Values} {ds : Domains} → field work b 0 ≡ i → Lies work (block_words * b + head_words) (encode (Value.set vs)) → length (encode (Value.set vs)) ≤ 64 → narrow (Value.set vs) ≡ true →
      Pending work (suc b) m ds → Pending work b (suc m) (domain i vs ds)

-- the words of block b's value
unfoldable pub value_of : List ℕ → List ℕ → ℕ → List ℕ
value_of state work b = value_at state work (eqb (field work b 1) 1) (field work b 2) (field work b 3)

-- the last block among the first n that is in scope under a name, counted from 1; 0 where there is none
unfoldable pub last_block : List ℕ → ℕ → ℕ → ℕ
last_block work name zero = 0
last_block work name (suc n) = cond (eqb (field work n 0) name) (cond (eqb (field work n 1) 0) (last_block work name n) (suc n)) (last_block work name n)

-- a work area after the head of block b was written: nothing else changed
unfoldable pub headed : List ℕ → ℕ → ℕ → ℕ → ℕ → ℕ → List ℕ
headed work b name class at len = set (set (set (set work (block_words * b) name) (block_words * b + 1) class) (block_words * b + 2) at) (block_words * b + 3) len

-- the first n blocks stay as they are
pub record Leaves (n : ℕ) (before after : List ℕ) (Claim : Type 0) : Type 0 where
  pub kept : take (block_words * n) after ≡ take (block_words * n) before
  pub told : Claim

-- m blocks from b on that are not in scope, of which the claim says more; those before stay as they are
pub record Pushed (before after : List ℕ) (b m : ℕ) (Claim : Type 0) : Type 0 where
  pub kept : take (block_words * b) after ≡ take (block_words * b) before
  pub hidden : (j : ℕ) → b ≤ j → j < b + m → field after j 1 ≡ 0
  pub told : Claim
