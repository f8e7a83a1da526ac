-- What a Decl asks and tells after the visit of its set. Its identifiers are those after the first two words of its part p; the signature so far is the
-- m rows at base; the type's words go to `at`.
use Rattle.std.specs.Prelude.{◌≡◌, Bool, true, false, List, ℕ, ◌+◌, ◌*◌, ◌-◌, ◌≤◌, ◌<◌, ◌^◌, length, replicate}
use Rattle.std.proofs.lemmas.List.Edits.{sets}
use Rattle.checker_signatures.specs.Rows.{rows, declare_rows}
use Rattle.checker_signatures.specs.Tables.{Table}
use Rattle.checker_merging.specs.Merging.{DeclaredAsk}
use Rattle.checker_closing.specs.Elements.{ElementAsk, ElementTold}
use Rattle.checker_closing.specs.Leaves.{FitsTold, NewIfTold}
use Rattle.checker_closing.specs.Nodes.{LinedAt}
use Rattle.checker_closing.specs.declared.results.Lined.{Lined}

-- 36 and 38 of the identifiers is, whose type is of this size.
pub data OwnTold (s d w : List ℕ) (base m : ℕ) (is : List ℕ) (at size : ℕ) (global : Bool) (number : ℕ) : Type 0 where
  clash : number ≡ 36 → FitsTold s d w base m is at size false → OwnTold s d w base m is at size global number
  known : number ≡ 36 → FitsTold s d w base m is at size true → NewIfTold global d w is false → OwnTold s d w base m is at size global number
  large : number ≡ 38 → FitsTold s d w base m is at size true → NewIfTold global d w is true → 32 < size → OwnTold s d w base m is at size global number
  none : number ≡ 0 → FitsTold s d w base m is at size true → NewIfTold global d w is true → size ≤ 32 → OwnTold s d w base m is at size global number

-- The identifiers enter the table.
pub record EnterAsk (w : List ℕ) (base m : ℕ) (p : List ℕ) (at end k : ℕ) : Type 0 where
  pub near : k < 2 ^ 32
  pub room : base + 2 * (m + (length p - 2)) ≤ length w
  pub place : at < 2 ^ 32
  pub last : end < 2 ^ 32

pub data EnterTold (s s' w w' : List ℕ) (base m : ℕ) (is : List ℕ) (at end k : ℕ) (r : Lined) : Type 0 where
  many : (count : ℕ) → Table w w' base (declare_rows is at (rows w base m)) count → 16 < count → s' ≡ s → LinedAt r 38 k 0 0 → EnterTold s s' w w' base m is at end k r
  none_new : (count : ℕ) → Table w w' base (declare_rows is at (rows w base m)) count → count ≡ m → s' ≡ sets s at (replicate (end - at) 0) → LinedAt r 0 k m at →
      EnterTold s s' w w' base m is at end k r
  some_new : (count : ℕ) → Table w w' base (declare_rows is at (rows w base m)) count → count ≤ 16 → (count ≡ m → ⊥) → s' ≡ s → LinedAt r 0 k count end →
      EnterTold s s' w w' base m is at end k r

-- The same with the set's finding `number`, 0 for none, and the size and the end of its elements' type.
pub record TypedAsk (s d w : List ℕ) (base m : ℕ) (p : List ℕ) (at end k number : ℕ) : Type 0 where
  pub near : k < 2 ^ 32
  pub readable : number ≡ 0 → DeclaredAsk s d w base m at
  pub entering : number ≡ 0 → EnterAsk w base m p at end k

pub data TypedTold (s s' d w w' : List ℕ) (base m : ℕ) (is : List ℕ) (at k : ℕ) (global : Bool) (number size end : ℕ) (r : Lined) : Type 0 where
  untyped : (number ≡ 0 → ⊥) → s' ≡ s → w' ≡ w → LinedAt r number k 0 0 → TypedTold s s' d w w' base m is at k global number size end r
  refused : (own : ℕ) → number ≡ 0 → OwnTold s d w base m is at size global own → (own ≡ 0 → ⊥) → s' ≡ s → w' ≡ w → LinedAt r own k 0 0 →
      TypedTold s s' d w w' base m is at k global number size end r
  fits : number ≡ 0 → OwnTold s d w base m is at size global 0 → EnterTold s s' w w' base m is at end k r → TypedTold s s' d w w' base m is at k global number size end r

-- The same with the set's type, cell c of n.
pub record SetAsk (s d w : List ℕ) (base m : ℕ) (p : List ℕ) (at free k c n top end : ℕ) : Type 0 where
  pub element : ElementAsk s d w n top c at end free
  pub typing : (s' w' : List ℕ) (number size end' : ℕ) → ElementTold s s' d w w' n top c at free number size end' → TypedAsk s' d w' base m p at end' k number

pub record SetTold (s s' d w w' : List ℕ) (base m : ℕ) (is : List ℕ) (at free k : ℕ) (global : Bool) (c n top : ℕ) (r : Lined) : Type 0 where
  pub s₁ : List ℕ
  pub w₁ : List ℕ
  pub number : ℕ
  pub size : ℕ
  pub end : ℕ
  pub element : ElementTold s s₁ d w w₁ n top c at free number size end
  pub typed : TypedTold s₁ s' d w₁ w' base m is at k global number size end r

-- The same with the finding of the set's visit, `number` at `place`.
pub record DeclAsk (s d w : List ℕ) (base m : ℕ) (p : List ℕ) (at free k number c n top end : ℕ) : Type 0 where
  pub going : number ≡ 0 → SetAsk s d w base m p at free k c n top end

pub data DeclTold (s s' d w w' : List ℕ) (base m : ℕ) (is : List ℕ) (at free k : ℕ) (global : Bool) (number place c n top : ℕ) (r : Lined) : Type 0 where
  stopped : (number ≡ 0 → ⊥) → s' ≡ s → w' ≡ w → LinedAt r number place 0 0 → DeclTold s s' d w w' base m is at free k global number place c n top r
  went : number ≡ 0 → SetTold s s' d w w' base m is at free k global c n top r → DeclTold s s' d w w' base m is at free k global number place c n top r
