use Rattle.checker_includes.proofs.StoreLaws.{shown_large, wording_asked, shown_small}
use Rattle.checker_includes.proofs.storing.shown_words.Goals as goal

pub returns-then-settled_size-gt-SIZE : goal.returns-then-settled_size-gt-SIZE
returns-then-settled_size-gt-SIZE c = shown_large _ _ _ _ _ _ c.requires _ c.settled_size.ensures c.if-settled_size-gt-SIZE.true _ c.put_large.ensures

pub settled_words-requires : goal.settled_words-requires
settled_words-requires c = wording_asked _ _ _ _ _ _ c.requires _ c.settled_size.ensures c.if-settled_size-gt-SIZE.false

pub returns : goal.returns
returns c = shown_small _ _ _ _ _ _ c.requires _ c.settled_size.ensures c.if-settled_size-gt-SIZE.false _ _ c.settled_words.ensures
