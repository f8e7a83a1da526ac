-- An Include as a line by the words of its node.
use mathlib.Core.Path.{◌≡◌, refl, sym, ap, subst, ◌∙◌}
use mathlib.Core.Bool.{Bool}
use mathlib.Core.List.{List}
use Prim.Native.Nat.{ℕ, ◌+◌, ◌≤◌, ◌<◌, ◌^◌}
use native.Mathlib.Omega.{arith}
use lib.ListN.{length, get_or, take, drop}
use Rattle.reader_rules.specs.Decode.{line_at, include_at}
use Rattle.reader_rules.specs.Kinds.{lines, includes}
use Rattle.reader_rules.specs.Nodes.{kind_at}
use Rattle.reader_rules.specs.Promise.{At}
use Rattle.reader_rules.specs.Tree.{Include, end, inclusion, include_node}
use Rattle.reader_rules.proofs.TreeText.{as_include, line_inclusion}
use Rattle.checker_includes.specs.Filling.{AgreeAsk, AgreeTold, SmallTold}
use Rattle.checker_includes.specs.Storing.{KeepAsk, RowsKept}
use Rattle.checker_contracts.specs.Includes.{actual_count, IncludeAsk, IncludeDone}
use Rattle.checker_contracts.specs.Texts.{LinesAsk, LinesDone}
use Rattle.checker_contracts.proofs.Inclusions.{inclusion_ask, inclusion_refused, inclusion_agree, inclusion_clash, inclusion_known, inclusion_large, inclusion_keep, inclusion_merge}
use Rattle.checker_contracts.proofs.Inclusions.{inclusion_many, inclusion_done}
use Rattle.checker_contracts.proofs.IncludeNodes.{included_node, included_count}
use Rattle.checker_closing.specs.Included.{RowsFine, RowsFound, clash, known, large, none, Total, many, few, UniteAsk, RowsUnited, LineAsk, RowsLined, refused, united, IncludedAsk, IncludedTold, unvisited, lined}
use Rattle.checker_closing.specs.Nodes.{Node}
use Rattle.checker_signatures.specs.Tables.{table_words}

module _ {doc p s d w : List ℕ} {stack base m at free k : ℕ} (N : Node doc p lines k) (q : kind_at doc k ≡ 12) (K : LinesAsk s d w stack base m at free (line_at doc k end)) (global : Bool) where
  abbrev own : Include
  own = include_at doc k

  tree : line_at doc k end ≡ inclusion own end
  tree = line_inclusion doc k q end

  abbrev Q : LinesAsk s d w stack base m at free (inclusion own end)
  Q = subst (LinesAsk s d w stack base m at free) tree K

  pub node_incl_at : At doc includes k
  node_incl_at = as_include doc lines k N.at q

  pub node_incl_ask : (places : List ℕ) → length places ≡ 4 → IncludeAsk s d w stack at free (include_at doc k) places
  node_incl_ask = inclusion_ask s d w stack base m at free own global Q

  abbrev Done : List ℕ → List ℕ → ℕ → ℕ → ℕ → ℕ → Type 0
  Done s' w' number place m' at' = LinesDone s s' d w w' stack base m at free (line_at doc k end) global number place m' at'

  -- a finding at the Include's node
  found_here : {s' w' : List ℕ} {f number place m' at' : ℕ} → number ≡ f → place ≡ k → LinesDone s s' d w w' stack base m at free (inclusion own end) global f (include_node own) m' at' →
      Done s' w' number place m' at'
  found_here {s'} {w'} {f} {number} {place} {m'} {at'} e x T =
      subst (λ z. LinesDone s s' d w w' stack base m at free z global number place m' at') (sym tree)
      (subst (λ z. LinesDone s s' d w w' stack base m at free (inclusion own end) global z place m' at') (sym e)
      (subst (λ z. LinesDone s s' d w w' stack base m at free (inclusion own end) global f z m' at') (included_node doc k node_incl_at ∙ sym x) T))

  -- in the areas that a finding leaves as they were
  still : {s₁ s₂ w₁ w₂ : List ℕ} {number place m' at' : ℕ} → s₂ ≡ s₁ → w₂ ≡ w₁ → Done s₁ w₁ number place m' at' → Done s₂ w₂ number place m' at'
  still {s₁} {s₂} {w₁} {w₂} {number} {place} {m'} {at'} a b T =
      subst (λ z. Done z w₂ number place m' at') (sym a) (subst (λ z. Done s₁ z number place m' at') (sym b) T)

  module _ {places s₁ w₁ places₁ : List ℕ} {number place c at₁ : ℕ} (I : IncludeDone s s₁ d w w₁ stack at free (include_at doc k) places places₁ number place c at₁) where
    -- the places of its actuals' types
    abbrev row : List ℕ
    row = take (get_or p 3 0) (drop 0 places₁)

    abbrev actuals : List ℕ
    actuals = take (actual_count own) places₁

    few_actuals : actual_count own ≤ 4
    few_actuals = let z = included_count doc k node_incl_at in let x = z.0 in let y = z.1 in omega arith

    row_is : row ≡ actuals
    row_is = ap (λ z. take z places₁) (ap (λ (l : List ℕ). get_or l 3 0) N.words ∙ sym (included_count doc k node_incl_at).0)

    module _ (fine : number ≡ 0) where
      agreed : {b : Bool} → AgreeTold s₁ d w₁ base m free c row b → AgreeTold s₁ d w₁ base m free c actuals b
      agreed {b} = subst (λ l. AgreeTold s₁ d w₁ base m free c l b) row_is

      sized : {b : Bool} → SmallTold s₁ d w₁ free c row b → SmallTold s₁ d w₁ free c actuals b
      sized {b} = subst (λ l. SmallTold s₁ d w₁ free c l b) row_is

      kept : {s₂ w₂ : List ℕ} {last : ℕ} → RowsKept s₁ s₂ d w₁ w₂ base m free c row at at₁ (free + table_words) last → RowsKept s₁ s₂ d w₁ w₂ base m free c actuals at at₁ (free + table_words) last
      kept {s₂} {w₂} {last} = subst (λ l. RowsKept s₁ s₂ d w₁ w₂ base m free c l at at₁ (free + table_words) last) row_is

      uniting : RowsFine s₁ d w₁ base m free c row global → UniteAsk s₁ d w₁ base m free c row at at₁ (free + table_words)
      uniting F = record {
        keep = subst (λ l. KeepAsk s₁ d w₁ base m free c l at at₁ (free + table_words)) (sym row_is)
            (inclusion_keep s d w stack base m at free own global Q places s₁ w₁ places₁ number place c at₁ I fine (agreed F.agree) (F.new.goes refl) (sized F.small) few_actuals);
        merge = λ s₂ w₂ last E.
            inclusion_merge s d w stack base m at free own global Q places s₁ w₁ places₁ number place c at₁ I fine (agreed F.agree) (F.new.goes refl) (sized F.small) few_actuals s₂ w₂ last (kept E);
      }

      ready : LineAsk s₁ d w₁ base m free c row at at₁ (free + table_words) global
      ready = record {
        agree = subst (AgreeAsk s₁ d w₁ base m free c) (sym row_is) (inclusion_agree s d w stack base m at free own global Q places s₁ w₁ places₁ number place c at₁ I fine);
        unite = uniting;
      }

      -- 36 and 38 of what it brings
      module _ {f x m' at' : ℕ} (p' : x ≡ k) where
        rows_found : (f ≡ 0 → ⊥) → RowsFound s₁ d w₁ base m free c row global f → Done s₁ w₁ f x m' at'
        rows_found ne (clash e A) =
            found_here e p' (inclusion_clash s d w stack base m at free own global Q places s₁ w₁ places₁ number place c at₁ I fine (agreed A) m' at')
        rows_found ne (known e A G) =
            found_here e p' (inclusion_known s d w stack base m at free own global Q places s₁ w₁ places₁ number place c at₁ I fine (agreed A) (G.stops refl) m' at')
        rows_found ne (large e A G S) =
            found_here e p' (inclusion_large s d w stack base m at free own global Q places s₁ w₁ places₁ number place c at₁ I fine (agreed A) (G.goes refl) (sized S) m' at')
        rows_found ne (none e F) = absurd (ne e)

      -- 38 of the signature, or its rows
      module _ {s₂ w₂ : List ℕ} {f x m' at' : ℕ} (F : RowsFine s₁ d w₁ base m free c row global) (U : RowsUnited s₁ s₂ d w₁ w₂ base m free c row at at₁ (free + table_words) k f x m' at') where
        rows_united : Total U.total U.last f m' at' → Done s₂ w₂ f x m' at'
        rows_united (many e l) =
            found_here e U.place_is
            (inclusion_many s d w stack base m at free own global Q places s₁ w₁ places₁ number place c at₁ I fine (agreed F.agree) (F.new.goes refl) (sized F.small) few_actuals
            s₂ U.between U.last (kept U.kept) w₂ U.total U.merged l m' at')
        rows_united (few e l n y) =
            subst (λ z. LinesDone s s₂ d w w₂ stack base m at free z global f x m' at') (sym tree)
            (subst (λ z. LinesDone s s₂ d w w₂ stack base m at free (inclusion own end) global z x m' at') (sym e)
            (subst (λ z. LinesDone s s₂ d w w₂ stack base m at free (inclusion own end) global 0 x z at') (sym n)
            (subst (λ z. LinesDone s s₂ d w w₂ stack base m at free (inclusion own end) global 0 x U.total z) (sym y)
            (inclusion_done s d w stack base m at free own global Q places s₁ w₁ places₁ number place c at₁ I fine (agreed F.agree) (F.new.goes refl) (sized F.small) few_actuals
            s₂ U.between U.last (kept U.kept) w₂ U.total U.merged x l))))

      rows_lined : {s₂ w₂ : List ℕ} {f x m' at' : ℕ} → RowsLined s₁ s₂ d w₁ w₂ base m free c row at at₁ (free + table_words) global k f x m' at' → Done s₂ w₂ f x m' at'
      rows_lined (refused ne F y a b) = still a b (rows_found y ne F)
      rows_lined (united F U) = rows_united F U U.outcome

    pub node_incl_included : (k < 2 ^ 32) × (free < 2 ^ 32) × IncludedAsk s₁ d w₁ base m at free (take (get_or p 3 0) (drop 0 places₁)) global number c at₁
    node_incl_included = let z = N.at.small in let y = K.walking.room.frames in (omega arith, omega arith, record { rows = ready })

    pub node_incl_told : {s₂ w₂ : List ℕ} {f x m' at' : ℕ} → IncludedTold s₁ s₂ d w₁ w₂ base m at free (take (get_or p 3 0) (drop 0 places₁)) global k number place c at₁ f x m' at' →
        LinesDone s s₂ d w w₂ stack base m at free (line_at doc k end) global f x m' at'
    node_incl_told {s₂} {w₂} {f} {x} {m'} {at'} (unvisited ne e y a b) =
        still a b
        (subst (λ z. Done s₁ w₁ z x m' at') (sym e)
        (subst (λ z. Done s₁ w₁ number z m' at') (sym y)
        (subst (λ z. LinesDone s s₁ d w w₁ stack base m at free z global number place m' at') (sym tree)
        (inclusion_refused s d w stack base m at free own global Q places s₁ w₁ places₁ number place c at₁ I ne m' at'))))
    node_incl_told (lined fine R) = rows_lined fine R
