-- An Axiom: its Text, whose identifiers become global; an entry for each row of its table.
use mathlib.Core.Path.{◌≡◌, refl, sym, ap, subst, ◌∙◌}
use mathlib.Core.Bool.{true}
use mathlib.Core.List.{List, [], ◌∷◌}
use Prim.Native.Nat.{ℕ, ◌-◌}
use native.Mathlib.Omega.{arith}
use lib.ListN.{length, replicate}
use lib.Seq.{sets, length-sets}
use Rattle.reader_rules.specs.Limited.{LimitedParagraph}
use Rattle.reader_rules.specs.Tree.{Paragraph, axiomatic, Text}
use Rattle.reader_rules.specs.TreeNumbers.{paragraph_numbers, text_numbers}
use Rattle.types_rules.specs.Types.{Tys}
use Rattle.checker_rules.specs.Dictionary.{Dictionary}
use Rattle.checker_rules.specs.Entries.{extend}
use Rattle.checker_rules.specs.Items.{skip, ◌⨾◌, MeetsIn}
use Rattle.checker_rules.specs.Rules.{paragraph_items, text_items}
use Rattle.checker_rules.specs.Scopes.{globals, text_signature}
use Rattle.types_cells.specs.Settled.{lower, heap}
use Rattle.types_solver.specs.Written.{Wrote}
use Rattle.checker_signatures.specs.Rows.{rows}
use Rattle.checker_signatures.proofs.RowLaws.{rows_length_lem}
use Rattle.checker_dictionary.specs.Waiting.{waiting}
use Rattle.checker_lookup.specs.Scoped.{DictionaryHeld}
use Rattle.checker_lookup.proofs.HeldLaws.{same_on}
use Rattle.checker_contracts.specs.Room.{frames_at, entries_at}
use Rattle.checker_contracts.specs.Paragraphs.{ParagraphAsk, ParagraphDone}
use Rattle.checker_contracts.specs.Texts.{TextAsk, TextDone, Declared}
use Rattle.checker_contracts.specs.Visits.{globals_if}
use Rattle.checker_contracts.proofs.Nodes.{once_left}
use Rattle.checker_contracts.proofs.Wiping.{wiped_low}
use Rattle.checker_entries.specs.Entries.{TypesAt, name_entries, TableAsk}
use Rattle.checker_entries.proofs.Beginning.{nothing_before, nothing_known, no_rows, room_below, walking_below, passes_any, refuses_any}
use Rattle.checker_entries.proofs.CarriedTypes.{TypesOf, types_of}
use Rattle.checker_entries.proofs.Waits.{wrote_waits, names_few, wrote_index}

module _ (s d w : List ℕ) (p : Paragraph) (k : ℕ) (t : Text) (e : p ≡ axiomatic k t) where
  pub axiom_asked : ParagraphAsk s d w p → TextAsk s d w 0 1 frames_at t
  unfolding LimitedParagraph paragraph_numbers
  axiom_asked A' =
      let A = subst (ParagraphAsk s d w) e A' in
      record {
        height = 10;
        texts = 4;
        limited = A.limited.1;
        walking =
            walking_below s d w 0 1 (text_numbers t) (globals A.dictionary) A.dictionary A.size A.few A.clean (once_left (text_numbers t) (k ∷ []) A.once)
            (room_below w 0 1 A.wide (omega arith) (omega arith) (omega arith)) (no_rows s d w A.dictionary A.recorded);
      }

  module _ (s' w' : List ℕ) (number place m at' : ℕ) (T : TextDone s s' d w w' 0 1 frames_at t true number place m at') where
    pub axiom_stopped : (number ≡ 0 → ⊥) → (at count : ℕ) → ParagraphDone s s' d w w' p number place at count
    unfolding paragraph_items globals_if
    axiom_stopped z at count = subst (λ x. ParagraphDone s s' d w w' x number place at count) (sym e) (record {
      size = T.done.still.size;
      index = T.done.still.index;
      low = λ y. absurd (z y);
      goes = λ y. absurd (z y);
      stops = λ y D R. refuses_any (text_items t (globals D) D) number place (T.done.stops y skip [] nothing_before (globals D) D (no_rows s d w D R) tt (nothing_known (text_numbers t)));
    })

    module _ (A : ParagraphAsk s d w p) (fine : number ≡ 0) where
      went : (D : Dictionary) → DictionaryHeld D d w → Declared s' d w' 0 m frames_at skip [] (globals D) D true t
      went D R = T.done.goes fine skip [] nothing_before (globals D) D (no_rows s d w D R) tt (nothing_known (text_numbers t))

      own : (D : Dictionary) → DictionaryHeld D d w → TypesOf s' d (skip ⨾ text_items t (globals D) (globals_if true D)) (text_signature t (globals D)) (rows w' frames_at m)
      own D R =
          let X = went D R in
          types_of s' d (skip ⨾ text_items t (globals D) (globals_if true D)) X.unknowns (text_signature t (globals D)) (rows w' frames_at m) X.signature

      pub axiom_table : TableAsk s' d w' frames_at m entries_at
      axiom_table =
          let O = own A.dictionary A.recorded in
          let z = A.few in
          let l = (T.done.areas fine).few in
          record {
            areas = record { size = (T.done.areas fine).stored.size ∙ A.size; few = omega arith };
            types = O.types;
            stand = O.stand;
            small = O.small;
            before = omega arith;
            near = omega arith;
          }

      pub axiom_done : (s'' w'' : List ℕ) (end : ℕ) → s'' ≡ sets s' 1 (replicate (at' - 1) 0) →
          ((gs : Tys) → TypesAt (heap s' d) (rows w' frames_at m) gs → Wrote w' w'' entries_at end (waiting (name_entries (rows w' frames_at m) gs))) → ParagraphDone s s'' d w w'' p 0 place entries_at m
      unfolding paragraph_items extend globals_if MeetsIn
      axiom_done s'' w'' end h W = subst (λ x. ParagraphDone s s'' d w w'' x 0 place entries_at m) (sym e) (record {
        size = let O = own A.dictionary A.recorded in ap length (W O.types O.stand).area ∙ length-sets w' entries_at (waiting (name_entries (rows w' frames_at m) O.types)) ∙ T.done.still.size;
        index = let O = own A.dictionary A.recorded in same_on w w' w'' T.done.still.index (wrote_index w' w'' entries_at end (waiting (name_entries (rows w' frames_at m) O.types)) (omega arith) (W O.types O.stand));
        low = λ z.
            let q = (T.done.areas fine).short in
            let l = (T.done.areas fine).few in
            ap lower h ∙ wiped_low s s' 1 at' A.size A.clean (omega arith) (omega arith) (T.done.areas fine).stored;
        goes = λ z D R.
            let X = went D R in
            let O = own D R in
            let S = X.walked.steady.some in
            let f = names_few (rows w' frames_at m) O.types O.small in
            let r = rows_length_lem w' frames_at m in
            let l = (T.done.areas fine).few in
            let v = A.wide in
            let y = T.done.still.size in
            record {
              passes = passes_any (text_items t (globals D) D) X.walked.goes;
              table = S.0;
              meets = S.1.1;
              entries = name_entries (rows w' frames_at m) O.types;
              counted = O.count ∙ r;
              waits = wrote_waits (name_entries (rows w' frames_at m) O.types) w' w'' entries_at end (omega arith) (W O.types O.stand);
              short = omega arith;
              extends = O.adds S.0 S.1 D;
            };
        stops = λ z. absurd (z refl);
      })
