-- Lines by the words of their nodes.
use mathlib.Core.Path.{◌≡◌, refl, sym, ap, subst, ◌∙◌}
use mathlib.Core.Bool.{Bool}
use mathlib.Core.List.{List}
use mathlib.Core.Logic.{◌⊎◌, inl, inr, ⊎_elim}
use Prim.Native.Nat.{ℕ, ◌+◌, ◌-◌, ◌≤◌, ◌<◌}
use native.Mathlib.Omega.{arith}
use lib.ListN.{length, get_or, drop}
use Rattle.layout.specs.Layout.{part}
use Rattle.reader_rules.specs.Decode.{expr_at, line_at, lines_from, include_at}
use Rattle.reader_rules.specs.Kinds.{texts, lines, cell}
use Rattle.reader_rules.specs.Nodes.{kind_at, operand_at}
use Rattle.reader_rules.specs.Promise.{At, Lower}
use Rattle.reader_rules.specs.Tree.{Lines, end, declaration, inclusion}
use Rattle.reader_rules.proofs.TreeCounts.{at_most}
use Rattle.reader_rules.proofs.TreeLists.{lines_go, lines_end_lem}
use Rattle.reader_rules.proofs.TreeText.{text_kind, line_range, line_declaration, line_inclusion}
use Rattle.types_cells.proofs.Growing.{lt_or_ge}
use Rattle.checker_contracts.specs.Texts.{LinesAsk, LinesDone}
use Rattle.checker_contracts.proofs.Lining.{Before, lines_none, decl_before, incl_before, line_ask, line_refused, lines_ask, lines_then_lem}
use Rattle.checker_closing.specs.Nodes.{Node, LinedAt}
use Rattle.checker_closing.specs.declared.results.Lined.{Lined}
use Rattle.checker_nodes.proofs.NodeWords.{word_at_lem}

-- The promise in the words of the result.
pub lines_told : {s s' d w w' : List ℕ} {stack base m at free number place count end' : ℕ} {ls : Lines} {global : Bool} {r : Lined} → LinedAt r number place count end' →
    LinesDone s s' d w w' stack base m at free ls global number place count end' → LinesDone s s' d w w' stack base m at free ls global r.number r.place r.count r.at
lines_told {s} {s'} {d} {w} {w'} {stack} {base} {m} {at} {free} {number} {place} {count} {end'} {ls} {global} {r} L T =
    subst (λ z. LinesDone s s' d w w' stack base m at free ls global z r.place r.count r.at) (sym L.number_is)
    (subst (λ z. LinesDone s s' d w w' stack base m at free ls global number z r.count r.at) (sym L.place_is)
    (subst (λ z. LinesDone s s' d w w' stack base m at free ls global number place z r.at) (sym L.count_is)
    (subst (λ z. LinesDone s s' d w w' stack base m at free ls global number place count z) (sym L.at_is) T)))

-- A line is a Decl or an Include.
pub not_eleven : (doc : List ℕ) (k : ℕ) → At doc lines k → (kind_at doc k ≡ 11 → ⊥) → kind_at doc k ≡ 12
not_eleven doc k h n = let r = line_range doc k h in ⊎_elim (λ (z : kind_at doc k < 12). absurd (n (let a = r.0 in omega arith))) (λ (z : 12 ≤ kind_at doc k). let b = r.1 in omega arith) (lt_or_ge (kind_at doc k) 12)

eleven_or : (doc : List ℕ) (k : ℕ) → At doc lines k → (kind_at doc k ≡ 11) ⊎ (kind_at doc k ≡ 12)
eleven_or doc k h =
    let r = line_range doc k h in
    ⊎_elim (λ (z : kind_at doc k < 12). let a = r.0 in inl (omega arith)) (λ (z : 12 ≤ kind_at doc k). let b = r.1 in inr (omega arith)) (lt_or_ge (kind_at doc k) 12)

-- Alone, and before others.
before_others : (doc : List ℕ) (k : ℕ) → At doc lines k → (ls : Lines) → Before (line_at doc k end) (line_at doc k ls) ls
before_others doc k h ls =
    ⊎_elim
    (λ (q : kind_at doc k ≡ 11).
    let o = line_declaration doc k h q (operand_at doc k 1) refl in
    subst (λ z. Before z (line_at doc k ls) ls) (sym (o.tree end))
    (subst (λ z. Before (declaration k (expr_at doc (operand_at doc k 1)) (drop 2 (part doc k)) end) z ls) (sym (o.tree ls)) (decl_before k (expr_at doc (operand_at doc k 1)) (drop 2 (part doc k)) ls)))
    (λ (q : kind_at doc k ≡ 12).
    subst (λ z. Before z (line_at doc k ls) ls) (sym (line_inclusion doc k q end))
    (subst (λ z. Before (inclusion (include_at doc k) end) z ls) (sym (line_inclusion doc k q ls)) (incl_before (include_at doc k) ls)))
    (eleven_or doc k h)

-- LINES from word i on.
module _ {doc p s d w : List ℕ} {stack base m at free k : ℕ} (i : ℕ) (N : Node doc p texts k) (K : LinesAsk s d w stack base m at free (lines_from doc k i (length p - i))) where
  pub lines_few : length p ≤ 256
  unfolding cell
  lines_few = let q = text_kind doc k N.at in let e = ap length N.words in let x = rw q at (at_most doc texts k N.at) in omega arith

  pub node_lines_none : length p ≤ i → {global : Bool} {r : Lined} → LinedAt r 0 k m at →
      LinesDone s s d w w stack base m at free (lines_from doc k i (length p - i)) global r.number r.place r.count r.at
  node_lines_none q {global} {r} L =
      let e = lines_end_lem doc k (length p) i q in
      lines_told L (subst (λ z. LinesDone s s d w w stack base m at free z global 0 k m at) (sym e)
      (lines_none s d w stack base m at free k global (subst (LinesAsk s d w stack base m at free) e K)))

  module _ (a : ℕ) (word : a ≡ get_or p i 0) (some : i < length p) (L : Lower doc k lines a) where
    abbrev rest : Lines
    rest = lines_from doc k (i + 1) (length p - (i + 1))

    tree : lines_from doc k i (length p - i) ≡ line_at doc a rest
    tree = lines_go doc k (length p) i some ∙ ap (λ z. line_at doc z rest) (sym (word_at_lem N i a word))

    K' : LinesAsk s d w stack base m at free (line_at doc a rest)
    K' = subst (LinesAsk s d w stack base m at free) tree K

    X : Before (line_at doc a end) (line_at doc a rest) rest
    X = before_others doc a L.at rest

    pub node_line_ask : LinesAsk s d w stack base m at free (line_at doc a end)
    node_line_ask = line_ask s d w stack base m at free (line_at doc a end) (line_at doc a rest) rest X K'

    module _ {global : Bool} {s₁ w₁ : List ℕ} {number place m₁ at₁ : ℕ} (A : LinesDone s s₁ d w w₁ stack base m at free (line_at doc a end) global number place m₁ at₁) where
      pub node_line_refused : (number ≡ 0 → ⊥) → LinesDone s s₁ d w w₁ stack base m at free (lines_from doc k i (length p - i)) global number place m₁ at₁
      node_line_refused ne =
          subst (λ z. LinesDone s s₁ d w w₁ stack base m at free z global number place m₁ at₁) (sym tree)
          (line_refused s d w stack base m at free (line_at doc a end) (line_at doc a rest) rest X K' global s₁ w₁ number place m₁ at₁ A ne m₁ at₁)

      module _ (fine : number ≡ 0) where
        pub node_lines_ask : LinesAsk s₁ d w₁ stack base m₁ at₁ free rest
        node_lines_ask = lines_ask s d w stack base m at free (line_at doc a end) (line_at doc a rest) rest X K' global s₁ w₁ number place m₁ at₁ A fine

        pub node_lines_then : {s₂ w₂ : List ℕ} {number' place' m₂ at₂ : ℕ} → LinesDone s₁ s₂ d w₁ w₂ stack base m₁ at₁ free rest global number' place' m₂ at₂ →
            LinesDone s s₂ d w w₂ stack base m at free (lines_from doc k i (length p - i)) global number' place' m₂ at₂
        node_lines_then {s₂} {w₂} {number'} {place'} {m₂} {at₂} R =
            subst (λ z. LinesDone s s₂ d w w₂ stack base m at free z global number' place' m₂ at₂) (sym tree)
            (lines_then_lem s d w stack base m at free (line_at doc a end) (line_at doc a rest) rest X K' global s₁ w₁ number place m₁ at₁ A fine s₂ w₂ number' place' m₂ at₂ R)

pub line_lower : (doc p : List ℕ) (k i : ℕ) → ((q : ℕ) → i ≤ q → q < length p → Lower doc k lines (get_or p q 0)) → {a : ℕ} → a ≡ get_or p i 0 → i < length p → Lower doc k lines a
line_lower doc p k i h e l = subst (Lower doc k lines) (sym e) (h i (omega arith) l)

-- The kind of a node is its first word.
pub kind_of : (doc p : List ℕ) (k : ℕ) → p ≡ part doc k → {x : ℕ} → x ≡ get_or p 0 0 → kind_at doc k ≡ x
kind_of doc p k P e = sym (e ∙ ap (λ (l : List ℕ). get_or l 0 0) P)
