use mathlib.Core.Path.{◌∙◌}
use lib.ListN.{length}
use Rattle.input.specs.Input.{words_of}
use Rattle.input.proofs.Laws.{broken_word, too_many_lem, all_words_lem, none_written, all_written}
use Rattle.input.proofs.take_words.Goals as goal

pub returns-then-bytes-ne0 : goal.returns-then-bytes-ne0
returns-then-bytes-ne0 c =
    let a = c.args in
    let e = broken_word a.bytes.now (length a.words.now) c.if-bytes-ne0.true in
    record { value = e; words_after = none_written a.bytes.now a.words.now e }

pub returns-then-words-n : goal.returns-then-words-n
returns-then-words-n c =
    let a = c.args in
    let e = too_many_lem a.bytes.now (length a.words.now) c.if-bytes-ne0.false c.if-words-n.true in
    record { value = e; words_after = none_written a.bytes.now a.words.now e }

pub returns : goal.returns
unfolding words_of
returns c =
    let a = c.args in
    let e = all_words_lem a.bytes.now (length a.words.now) c.if-bytes-ne0.false c.if-words-n.false in
    record { value = e; words_after = c.copy_words.ensures ∙ all_written a.bytes.now a.words.now e }
