-- The finding of a run by the result of its paragraphs.
use mathlib.Core.Path.{◌≡◌, refl, sym, ap}
use mathlib.Core.List.{List}
use Prim.Native.Nat.{ℕ, ◌-◌}
use lib.ListN.{length}
use Rattle.layout.specs.Layout.{count, part}
use Rattle.reader_rules.specs.Reading.{read_of}
use Rattle.reader_rules.specs.Refusals.{Readable, Refused}
use Rattle.evaluator_rules.specs.Endings.{RunFinding, Holds, Fails}
use Rattle.reader_rules.specs.Decode.{paragraphs_from, tree_of}
use Rattle.reader_rules.proofs.TreeParagraph.{document_law}
use Rattle.states_rules.specs.Names.{names_of}
use Rattle.states_rules.specs.States.{State}
use Rattle.states.proofs.NameLaws.{document_names_lem}
use Rattle.evaluator_rules.specs.Outcomes.{Outcome}
use Rattle.evaluator_rules.specs.Environment.{empty}
use Rattle.evaluator_rules.specs.Paragraphs.{Step, onward, failed, run_paragraphs, run_document}
use Rattle.std.proofs.Common.{Result, Ok, Err}
use Rattle.reader_rules.specs.declared.Refusal.{Refusal}
use Rattle.evaluator_paragraphs.specs.declared.Progress.{Progress}
use Rattle.evaluator_paragraphs.specs.declared.Progress.TheVariants.{Onward, Failed}
use Rattle.reader_rules.specs.Refusals.{Refused}
use Rattle.evaluator_rules.specs.Endings.{RunFinding, Holds, Fails}
use Rattle.evaluator_operations.specs.Worked.{Told, fine, ceased}
use Rattle.evaluator_rules.specs.Run.{ending}
use Rattle.evaluator_scope.specs.Named.{Declares}
use Rattle.evaluator_paragraphs.specs.Paragraphs.{Stepped}

onward_failed : {k : ℕ} → Onward ≡ Failed k → ⊥
onward_failed e = cc

pub refused_finding : {f : Refusal} {o : Outcome Step} → Told (Stepped (λ s. Unit {0})) (Err f) o → Refused f.number f.place ≡ (ending o).finding
unfolding ending
refused_finding (ceased a b c) = rw (a, b)

pub holds_finding : {o : Outcome Step} → Told (Stepped (λ s. Unit {0})) (Ok Onward) o → Holds ≡ (ending o).finding
unfolding ending
holds_finding (fine {a = onward s} h) = refl
holds_finding (fine {a = failed k} h) = absurd (onward_failed h)

pub fails_finding : {n : ℕ} {o : Outcome Step} → Told (Stepped (λ s. Unit {0})) (Ok (Failed n)) o → Fails n ≡ (ending o).finding
unfolding ending
fails_finding (fine {a = onward s} h) = absurd (onward_failed (sym h.0))
fails_finding {n} (fine {a = failed k} h) = let q : n ≡ k = cc h in ap Fails q

module _ (doc : List ℕ) (r : read_of doc ≡ Readable) where
  pub all_declared : Declares doc (names_of (paragraphs_from doc (count doc) 1 (length (part doc (count doc)) - 1)))
  all_declared = record { each = λ i a. rw (document_names_lem doc r) a }

  pub run_ending : (s : State) (f : RunFinding) {y : Result Progress Refusal} → ((o : Outcome Step) → Told (Stepped (λ z. Unit {0})) y o → f ≡ (ending o).finding) →
      Told (Stepped (λ z. Unit {0})) y (run_paragraphs (paragraphs_from doc (count doc) 1 (length (part doc (count doc)) - 1)) s empty) → f ≡ (ending (run_document (tree_of doc) s)).finding
  unfolding run_document
  run_ending s f h t = rw (document_law doc r).tree (h _ t)
