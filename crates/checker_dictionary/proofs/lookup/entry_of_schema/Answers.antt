use Rattle.std.proofs.Common.{ℕ, sym, subst}
use Rattle.checker_dictionary.specs.Lookup.{SchemaFound}
use Rattle.checker_dictionary.proofs.LookupLaws.{schema_found}
use Rattle.checker_dictionary.proofs.lookup.entry_of_schema.Goals as goal

pub returns : goal.returns
returns c =
    let a = c.args in
    λ D h. subst (λ (k : ℕ). SchemaFound D a.d.now a.name k) (sym c.newest.ensures) (schema_found D a.d.now a.name h)
