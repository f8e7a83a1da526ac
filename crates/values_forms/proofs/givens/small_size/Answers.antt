use Rattle.values.specs.Givens.{small_size}
use Rattle.words.proofs.Loops.{tests}
use Rattle.values_forms.proofs.givens.small_size.Goals as goal

pub returns-then-n-le-ELEMENTS : goal.returns-then-n-le-ELEMENTS
unfolding small_size
returns-then-n-le-ELEMENTS c = search tests

pub returns : goal.returns
unfolding small_size
returns c = search tests
