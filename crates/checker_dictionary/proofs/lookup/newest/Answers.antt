use Rattle.std.proofs.Common.{◌∙◌}
use Rattle.checker_dictionary.proofs.LookupLaws.{newest_whole}
use Rattle.checker_dictionary.proofs.lookup.newest.Goals as goal

pub returns : goal.returns
returns c = c.unwrap_or.ensures ∙ newest_whole _ _ _ c.newest_after.ensures
