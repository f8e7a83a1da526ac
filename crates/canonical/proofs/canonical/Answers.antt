use Rattle.std.proofs.lemmas.Result.{err_from_is_err_and}
use mathlib.Core.Path.{sym, ap, ◌∙◌, subst}
use lib.ListN.{replicate}
use Rattle.canonical_rules.specs.Call.{CanonicalCall}
use Rattle.canonical.proofs.CallLaws.{call_refused}
use Rattle.canonical.proofs.canonical.Goals as goal

pub write_where_room-requires : goal.write_where_room-requires
write_where_room-requires c = (sym c.read.ensures ∙ c.in_ok-read.was, c.clear.ensures ∙ ap (λ n. replicate n 0) (sym c.clear.auto.u))

pub returns : goal.returns
returns c = subst (λ m. CanonicalCall c.args.doc.now m c.write_where_room.result c.write_where_room.new.output) c.clear.auto.u c.write_where_room.ensures

pub returns-in_err-read : goal.returns-in_err-read
returns-in_err-read c =
    let p = err_from_is_err_and c.from_residual.result c.from_residual.ensures.1 in
    rw (p.1, p.2) (call_refused c.args.doc.now _ _ _ _ (sym c.read.ensures ∙ c.in_err-read.was) c.clear.ensures)
