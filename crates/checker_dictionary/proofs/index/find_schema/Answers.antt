use Rattle.std.proofs.Common.{ℕ, sym, subst}
use Rattle.checker_dictionary.specs.Lookup.{SchemaFound}
use Rattle.checker_dictionary.proofs.LookupLaws.{schema_found}
use Rattle.checker_dictionary.proofs.index.find_schema.Goals as goal

pub returns : goal.returns
returns c =
    let a = c.args in
    λ D h. subst (λ (k : ℕ). SchemaFound D a.d.now a.name k) (sym (c.find.ensures h.index)) (schema_found D a.d.now a.name h.holds)
