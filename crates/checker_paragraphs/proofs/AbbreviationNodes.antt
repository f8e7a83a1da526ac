-- An Abbreviation by the words of its node.
use mathlib.Core.Path.{◌≡◌, refl, sym, ap, subst, ◌∙◌}
use mathlib.Core.Bool.{Bool}
use mathlib.Core.List.{List, [], ◌∷◌}
use Prim.Native.Nat.{ℕ, ◌+◌, ◌-◌, ◌<◌, ◌^◌}
use native.Mathlib.Omega.{arith}
use lib.ListN.{length, get_or, take, drop, length-drop}
use lib.Seq.{length-take-le}
use Rattle.words.proofs.Lists.{drop_next}
use Rattle.layout.specs.Layout.{part}
use Rattle.reader_rules.specs.Decode.{paragraph_at, expr_at}
use Rattle.reader_rules.specs.Kinds.{paragraphs, expressions}
use Rattle.reader_rules.specs.Nodes.{kind_at, operand_at}
use Rattle.reader_rules.specs.Promise.{At}
use Rattle.reader_rules.specs.Tree.{abbreviation}
use Rattle.reader_rules.proofs.TreeParagraph.{Defined, paragraph_abbreviation}
use Rattle.checker_merging.specs.Merging.{NewTold}
use Rattle.checker_contracts.specs.Room.{frames_at, entries_at}
use Rattle.checker_contracts.specs.Expressions.{ExprAsk, ExprDone}
use Rattle.checker_contracts.specs.Paragraphs.{ParagraphAsk, ParagraphDone}
use Rattle.checker_entries.specs.Parameters.{ParametersAsk, ParametersPushed}
use Rattle.checker_entries.proofs.Abbreviation.{expr_asked, expr_stopped, closing_asked, low_end, several as open-piece, sizing, clash as known-name, too_large, wording, abbreviation_done}
use Rattle.checker_closing.specs.Nodes.{Node}
use Rattle.checker_paragraphs.specs.Abbreviations.{TypeFine, TypeFound, several, clash, large, none, Entered, AbbreviatedAsk, AbbreviatedTold, unvisited, refused, entered}
use Rattle.checker_paragraphs.proofs.Defined.{anywhere}
use Rattle.types_cells.specs.Layout.{first_run}

module _ {doc p : List ℕ} {k : ℕ} (N : Node doc p paragraphs k) {s d w : List ℕ} (A : ParagraphAsk s d w (paragraph_at doc k)) {n : ℕ} (en : n ≡ get_or p 2 0) (q : kind_at doc k ≡ 5) where
  five : Defined doc k expressions n (operand_at doc k (n + 3)) (paragraph_at doc k ≡ abbreviation k (operand_at doc k 1) (take n (drop 3 (part doc k))) (expr_at doc (operand_at doc k (n + 3))))
  five = paragraph_abbreviation doc k N.at q n (operand_at doc k (n + 3)) (en ∙ ap (λ z. get_or z 2 0) N.words) refl

  abbrev ps : List ℕ
  ps = take n (drop 3 p)

  long : length p ≡ n + 4
  long = ap length N.words ∙ five.words

  pub abbreviation_parameters : ParametersAsk s w p 0 n
  abbreviation_parameters =
      let l = long in
      let v = A.wide in
      record { size = A.size; clean = A.clean; wide = omega arith; few = five.few; order = omega arith; inside = omega arith }

  given_count : n ≡ length ps
  given_count = let l = long in let z = length-drop 3 p in sym (length-take-le n (drop 3 p) (omega arith))

  -- its identifier alone
  own_name : (l : List ℕ) → l ≡ take 1 (drop 1 p) → drop 0 l ≡ get_or p 1 0 ∷ []
  own_name l e = e ∙ ap (take 1) (drop_next p 1 (let z = long in omega arith))

  module _ {x : ℕ} (ex : x ≡ get_or p (n + 3) 0) where
    body_is : x ≡ operand_at doc k (n + 3)
    body_is = ex ∙ ap (λ z. get_or z (n + 3) 0) N.words

    tree : paragraph_at doc k ≡ abbreviation k (get_or p 1 0) ps (expr_at doc x)
    tree =
        five.tree
        ∙ ap (λ z. abbreviation k (get_or z 1 0) (take n (drop 3 z)) (expr_at doc (operand_at doc k (n + 3)))) (sym N.words)
        ∙ ap (λ z. abbreviation k (get_or p 1 0) ps (expr_at doc z)) (sym body_is)

    module _ {s₁ w₁ : List ℕ} {at₁ : ℕ} (P : ParametersPushed s s₁ w w₁ ps 0 n at₁) where
      pub expr_ask : At doc expressions x × ExprAsk s₁ d w₁ n 0 first_run at₁ frames_at (expr_at doc x)
      expr_ask = (subst (At doc expressions) (sym body_is) five.body.at, expr_asked s d w (paragraph_at doc k) k (get_or p 1 0) ps (expr_at doc x) tree A s₁ w₁ n at₁ P five.few)

      module _ {s₂ w₂ : List ℕ} {number place cell n' top' at₂ : ℕ} (T : ExprDone s₁ s₂ d w₁ w₂ n 0 first_run at₁ frames_at (expr_at doc x) number place cell n' top' at₂) where
        -- its identifier
        own : {b : Bool} → NewTold d w₂ (drop 0 (take 1 (drop 1 p))) b → NewTold d w₂ (get_or p 1 0 ∷ []) b
        own {b} = subst (λ z. NewTold d w₂ z b) (own_name (take 1 (drop 1 p)) refl)

        pub abbreviation_asked : (k < 2 ^ 32) × (n < 2 ^ 32) × AbbreviatedAsk s₂ d w₂ (drop 0 (take 1 (drop 1 p))) number cell n' at₂
        abbreviation_asked =
            let z = N.at.small in
            let y = five.few in (
              omega arith,
              omega arith,
              record {
                type = λ fine. record {
                  closing = closing_asked s d w (paragraph_at doc k) k (get_or p 1 0) ps (expr_at doc x) tree A s₁ w₁ n at₁ P five.few s₂ w₂ number place cell n' top' at₂ T fine;
                  sizing = λ s₃ C. sizing s d w (paragraph_at doc k) k (get_or p 1 0) ps (expr_at doc x) tree A s₁ w₁ n at₁ P five.few s₂ w₂ number place cell n' top' at₂ T fine s₃ C;
                };
                entry = λ fine s₃ F.
                    wording s d w (paragraph_at doc k) k (get_or p 1 0) ps (expr_at doc x) tree A s₁ w₁ n at₁ P five.few s₂ w₂ number place cell n' top' at₂ T fine s₃ F.closed (own F.new)
                    F.size F.size_is F.small;
                low = λ fine.
                    let l = low_end s d w (paragraph_at doc k) k (get_or p 1 0) ps (expr_at doc x) tree A s₁ w₁ n at₁ P five.few s₂ w₂ number place cell n' top' at₂ T fine in omega arith;
              },
            )

        abbrev Done : List ℕ → List ℕ → ℕ → ℕ → ℕ → ℕ → Type 0
        Done s' w' f y at count = ParagraphDone s s' d w w' (paragraph_at doc k) f y at count

        -- 34, 36 and 38
        type_told : number ≡ 0 → {s₃ : List ℕ} {f at count : ℕ} → (f ≡ 0 → ⊥) → TypeFound s₂ s₃ d w₂ n' cell (drop 0 (take 1 (drop 1 p))) f → Done s₃ w₂ f k at count
        type_told fine {s₃} {f} {at} {count} ne (several e C) =
            subst (λ z. Done s₃ w₂ z k at count) (sym e)
            (open-piece s d w (paragraph_at doc k) k (get_or p 1 0) ps (expr_at doc x) tree A s₁ w₁ n at₁ P five.few s₂ w₂ number place cell n' top' at₂ T fine s₃ C at count)
        type_told fine {s₃} {f} {at} {count} ne (clash e C M) =
            subst (λ z. Done s₃ w₂ z k at count) (sym e)
            (known-name s d w (paragraph_at doc k) k (get_or p 1 0) ps (expr_at doc x) tree A s₁ w₁ n at₁ P five.few s₂ w₂ number place cell n' top' at₂ T fine s₃ C (own M) at count)
        type_told fine {s₃} {f} {at} {count} ne (large e C M v Z l) =
            subst (λ z. Done s₃ w₂ z k at count) (sym e)
            (too_large s d w (paragraph_at doc k) k (get_or p 1 0) ps (expr_at doc x) tree A s₁ w₁ n at₁ P five.few s₂ w₂ number place cell n' top' at₂ T fine s₃ C (own M) v Z l at count)
        type_told fine ne (none e F) = absurd (ne e)

        entry_told : number ≡ 0 → {s₃ s₄ w₃ : List ℕ} → TypeFine s₂ s₃ d w₂ n' cell (drop 0 (take 1 (drop 1 p))) → Entered s₃ s₄ d w₂ w₃ n' cell (get_or p 1 0) n at₂ → Done s₄ w₃ 0 k entries_at 1
        entry_told fine {s₃} {s₄} {w₃} F E =
            anywhere
            (abbreviation_done s d w (paragraph_at doc k) k (get_or p 1 0) ps (expr_at doc x) tree A s₁ w₁ n at₁ P five.few s₂ w₂ number place cell n' top' at₂ T fine s₃ F.closed (own F.new)
            F.size F.size_is F.small F.same s₄ E.between w₃ E.last (E.last - entries_at - 1) given_count E.wiped E.words refl E.head)

        pub abbreviation_told : {s₃ w₃ : List ℕ} {f y count at : ℕ} → AbbreviatedTold s₂ s₃ d w₂ w₃ p k n number place cell n' at₂ f y count at →
            ParagraphDone s s₃ d w w₃ (paragraph_at doc k) f y at count
        abbreviation_told {s₃} {w₃} {f} {y} {count} {at} (unvisited ne e h a b) =
            subst (λ z. Done z w₃ f y at count) (sym a) (subst (λ z. Done s₂ z f y at count) (sym b)
            (subst (λ z. Done s₂ w₂ z y at count) (sym e) (subst (λ z. Done s₂ w₂ number z at count) (sym h)
            (expr_stopped s d w (paragraph_at doc k) k (get_or p 1 0) ps (expr_at doc x) tree A s₁ w₁ n at₁ P five.few s₂ w₂ number place cell n' top' at₂ T ne at count))))
        abbreviation_told {s₃} {w₃} {f} {y} {count} {at} (refused fine ne h F b) =
            subst (λ z. Done s₃ z f y at count) (sym b) (subst (λ z. Done s₃ w₂ f z at count) (sym h) (type_told fine ne F))
        abbreviation_told {s₃} {w₃} {f} {y} {count} {at} (entered fine e h c a s₄ F E) =
            subst (λ z. Done s₃ w₃ z y at count) (sym e) (subst (λ z. Done s₃ w₃ 0 z at count) (sym h)
            (subst (λ z. Done s₃ w₃ 0 k z count) (sym a) (subst (λ z. Done s₃ w₃ 0 k entries_at z) (sym c) (entry_told fine F E))))
