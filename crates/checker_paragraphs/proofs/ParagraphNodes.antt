-- Paragraphs by the words of their node: Given, Axiom, Constraint.
use mathlib.Core.Path.{◌≡◌, refl, sym, ap, subst, ◌∙◌}
use mathlib.Core.Bool.{Bool, true, false}
use mathlib.Core.List.{List}
use Prim.Native.Nat.{ℕ, ◌+◌, ◌-◌, ◌≤◌}
use native.Mathlib.Omega.{arith}
use lib.ListN.{length, get_or, take, drop, replicate, length-drop}
use lib.Seq.{sets}
use Rattle.layout.specs.Layout.{part}
use Rattle.reader_rules.specs.Decode.{paragraph_at, text_at, pred_at}
use Rattle.reader_rules.specs.Kinds.{paragraphs, predicates, texts, cell}
use Rattle.reader_rules.specs.Nodes.{kind_at}
use Rattle.reader_rules.specs.Promise.{At}
use Rattle.reader_rules.specs.Tree.{Paragraph, given, axiomatic, constraint}
use Rattle.reader_rules.proofs.TreeCounts.{at_most}
use Rattle.reader_rules.proofs.TreeParagraph.{paragraph_range, paragraph_given, paragraph_axiomatic, paragraph_constraint}
use Rattle.reader_rules.proofs.TreeShape.{One, all_at, ◌▹◌}
use Rattle.types_rules.specs.Types.{Tys}
use Rattle.types_cells.specs.Settled.{heap}
use Rattle.types_solver.specs.Written.{Wrote}
use Rattle.checker_signatures.specs.Rows.{rows}
use Rattle.checker_dictionary.specs.Waiting.{waiting}
use Rattle.checker_merging.specs.Merging.{NewTold}
use Rattle.checker_contracts.specs.Room.{frames_at, entries_at}
use Rattle.checker_contracts.specs.Paragraphs.{ParagraphAsk, ParagraphDone}
use Rattle.checker_contracts.specs.Predicates.{PredAsk, PredDone}
use Rattle.checker_contracts.specs.Texts.{TextAsk, TextDone}
use Rattle.checker_entries.specs.Entries.{TypesAt, given_entries, name_entries, TableAsk}
use Rattle.checker_entries.specs.Parameters.{ParametersPushed}
use Rattle.checker_entries.proofs.Constraint.{constraint_asked, constraint_done}
use Rattle.checker_entries.proofs.Given.{given_clash, given_done}
use Rattle.checker_entries.proofs.Axiomatic.{axiom_asked, axiom_stopped, axiom_table, axiom_done}
use Rattle.checker_closing.specs.Nodes.{Node, LinedAt}
use Rattle.checker_closing.specs.declared.results.Lined.{Lined}

-- The promise in the words of the result.
pub paragraph_told : {s s' d w w' : List ℕ} {p : Paragraph} {f x c e : ℕ} {r : Lined} → LinedAt r f x c e → ParagraphDone s s' d w w' p f x e c →
    ParagraphDone s s' d w w' p r.number r.place r.at r.count
paragraph_told {s} {s'} {d} {w} {w'} {p} {f} {x} {c} {e} {r} L D =
    subst (λ z. ParagraphDone s s' d w w' p z r.place r.at r.count) (sym L.number_is)
    (subst (λ z. ParagraphDone s s' d w w' p f z r.at r.count) (sym L.place_is)
    (subst (λ z. ParagraphDone s s' d w w' p f x z r.count) (sym L.at_is)
    (subst (λ z. ParagraphDone s s' d w w' p f x e z) (sym L.count_is) D)))

-- All parameters, from the first on.
pub all_parameters : {s s' w w' : List ℕ} (p : List ℕ) {n at : ℕ} → ParametersPushed s s' w w' (take (n - 0) (drop (0 + 3) p)) 0 n at → ParametersPushed s s' w w' (take n (drop 3 p)) 0 n at
all_parameters {s} {s'} {w} {w'} p {n} {at} P = subst (λ j. ParametersPushed s s' w w' (take j (drop 3 p)) 0 n at) (let z : n - 0 ≡ n = omega arith in z) P

pub kind_is : (doc p : List ℕ) (k q m : ℕ) → p ≡ part doc k → q ≡ get_or p 0 0 → q ≡ m → kind_at doc k ≡ m
kind_is doc p k q m e h i = sym (ap (λ z. get_or z 0 0) e) ∙ sym h ∙ i

pub kind_last : {doc p : List ℕ} {k q : ℕ} → At doc paragraphs k → p ≡ part doc k → q ≡ get_or p 0 0 → (q ≡ 2 → ⊥) → (q ≡ 3 → ⊥) → (q ≡ 4 → ⊥) → (q ≡ 5 → ⊥) → kind_at doc k ≡ 6
kind_last {doc} {p} {k} {q} N e h a b c d =
    let r = paragraph_range doc k N in
    let x = r.1 in
    let z : q ≡ kind_at doc k = sym (kind_is doc p k q q e h refl) in
    all_at (λ j. kind_at doc k ≡ j → kind_at doc k ≡ 6) 2 5
    ((λ y. absurd (a (z ∙ y))) ▹ (λ y. absurd (b (z ∙ y))) ▹ (λ y. absurd (c (z ∙ y))) ▹ (λ y. absurd (d (z ∙ y))) ▹ (λ y. y) ▹ tt)
    (kind_at doc k) r.0 (omega arith) refl

module _ {doc p : List ℕ} {k : ℕ} (N : Node doc p paragraphs k) {s d w : List ℕ} (A : ParagraphAsk s d w (paragraph_at doc k)) where
  -- 6
  module _ (q : kind_at doc k ≡ 6) {x : ℕ} (ex : x ≡ get_or p 1 0) where
    six : One doc k predicates x (paragraph_at doc k ≡ constraint k (pred_at doc x))
    six = paragraph_constraint doc k N.at q x (ex ∙ ap (λ z. get_or z 1 0) N.words)

    pub constraint_ask : At doc predicates x × PredAsk s d w 0 1 frames_at (pred_at doc x)
    constraint_ask = (six.first.at, constraint_asked s d w (paragraph_at doc k) k (pred_at doc x) six.tree A)

    pub constraint_told : {s' w' : List ℕ} {number place : ℕ} {r : Lined} → PredDone s s' d w w' 0 1 frames_at (pred_at doc x) number place → LinedAt r number place 0 0 →
        ParagraphDone s s' d w w' (paragraph_at doc k) r.number r.place r.at r.count
    constraint_told {s'} {w'} {number} {place} P L = paragraph_told L (constraint_done s d w (paragraph_at doc k) k (pred_at doc x) six.tree s' w' number place 0 P)

  -- 3
  module _ (q : kind_at doc k ≡ 3) {x : ℕ} (ex : x ≡ get_or p 1 0) where
    three : One doc k texts x (paragraph_at doc k ≡ axiomatic k (text_at doc x))
    three = paragraph_axiomatic doc k N.at q x (ex ∙ ap (λ z. get_or z 1 0) N.words)

    pub axiom_ask : At doc texts x × TextAsk s d w 0 1 frames_at (text_at doc x)
    axiom_ask = (three.first.at, axiom_asked s d w (paragraph_at doc k) k (text_at doc x) three.tree A)

    module _ {s' w' : List ℕ} {number place m at' : ℕ} (T : TextDone s s' d w w' 0 1 frames_at (text_at doc x) true number place m at') where
      pub axiom_stops_lem : (number ≡ 0 → ⊥) → (at count : ℕ) → ParagraphDone s s' d w w' (paragraph_at doc k) number place at count
      axiom_stops_lem z = axiom_stopped s d w (paragraph_at doc k) k (text_at doc x) three.tree s' w' number place m at' T z

      module _ (fine : number ≡ 0) where
        pub axiom_rows : TableAsk s' d w' frames_at m entries_at
        axiom_rows = axiom_table s d w (paragraph_at doc k) k (text_at doc x) three.tree s' w' number place m at' T A fine

        pub axiom_told : {s'' w'' : List ℕ} {end : ℕ} {r : Lined} →
            ((gs : Tys) → TypesAt (heap s' d) (rows w' frames_at m) gs → Wrote w' w'' entries_at end (waiting (name_entries (rows w' frames_at m) gs))) → s'' ≡ sets s' 1 (replicate (at' - 1) 0) →
            LinedAt r 0 k m entries_at → ParagraphDone s s'' d w w'' (paragraph_at doc k) r.number r.place r.at r.count
        axiom_told {s''} {w''} {end} W h L = paragraph_told L (replaced k)
          where
            replaced : (y : ℕ) → ParagraphDone s s'' d w w'' (paragraph_at doc k) 0 y entries_at m
            replaced y = moved (axiom_done s d w (paragraph_at doc k) k (text_at doc x) three.tree s' w' number place m at' T A fine s'' w'' end h W)
              where
                moved : ParagraphDone s s'' d w w'' (paragraph_at doc k) 0 place entries_at m → ParagraphDone s s'' d w w'' (paragraph_at doc k) 0 y entries_at m
                moved D = record { size = D.size; index = D.index; low = D.low; goes = D.goes; stops = λ z. absurd (z refl) }

  -- 2
  module _ (q : kind_at doc k ≡ 2) where
    two : paragraph_at doc k ≡ given k (drop 1 p)
    two = paragraph_given doc k N.at q ∙ ap (λ l. given k (drop 1 l)) (sym N.words)

    pub given_short : length p ≤ 1000
    unfolding cell
    given_short = let e = ap length N.words in let l : length (part doc k) ≤ cell 2 1 = subst (λ z. length (part doc k) ≤ cell z 1) q (at_most doc paragraphs k N.at) in omega arith

    pub given_clashes : {b : Bool} {r : Lined} → NewTold d w (drop 1 p) b → b ≡ false → LinedAt r 36 k 0 0 → ParagraphDone s s d w w (paragraph_at doc k) r.number r.place r.at r.count
    given_clashes {b} T e L = paragraph_told L (given_clash s d w (paragraph_at doc k) k (drop 1 p) two (subst (NewTold d w (drop 1 p)) e T) 0 0)

    pub given_told : {b : Bool} {w' : List ℕ} {end : ℕ} {r : Lined} → NewTold d w (drop 1 p) b → b ≡ true → Wrote w w' entries_at end (waiting (given_entries (drop 1 p))) →
        LinedAt r 0 k (length p - 1) entries_at → ParagraphDone s s d w w' (paragraph_at doc k) r.number r.place r.at r.count
    given_told {b} {w'} {end} {r} T e W L =
        let l = length-drop 1 p in
        let z = given_short in
        let v = A.wide in
        paragraph_told L
        (subst (λ j. ParagraphDone s s d w w' (paragraph_at doc k) 0 k entries_at j) (length-drop 1 p)
        (given_done s d w (paragraph_at doc k) k (drop 1 p) two (subst (NewTold d w (drop 1 p)) e T) w' k entries_at end (omega arith) (omega arith) (omega arith) W))
