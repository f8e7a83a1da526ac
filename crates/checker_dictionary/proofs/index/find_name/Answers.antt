use Rattle.std.proofs.Common.{ℕ, sym, subst}
use Rattle.checker_dictionary.specs.Lookup.{NameFound}
use Rattle.checker_dictionary.proofs.LookupLaws.{name_found}
use Rattle.checker_dictionary.proofs.index.find_name.Goals as goal

pub returns : goal.returns
returns c =
    let a = c.args in
    λ D h. subst (λ (k : ℕ). NameFound D a.d.now a.id k) (sym (c.find.ensures h.index)) (name_found D a.d.now a.id h.holds)
