-- Strokes put on identifiers (document 01, Include and Theta; R11). Document 02, ask 12, changes this file and reader_rules's Identifiers only.
use Rattle.std.specs.Prelude.{Bool, ◌||◌, ℕ, ◌+◌, eqb}
use Rattle.reader_rules.specs.Identifiers.{stroke_of}

-- the identifier i with the stroke k put on it
unfoldable pub decorate : ℕ → ℕ → ℕ
decorate k i = i + k

-- i can take the stroke k: 0 is no stroke, and another goes on an identifier that has none
unfoldable pub takes : ℕ → ℕ → Bool
takes k i = eqb k 0 || eqb (stroke_of i) 0
