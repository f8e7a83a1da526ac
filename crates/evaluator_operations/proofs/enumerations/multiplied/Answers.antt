use Rattle.evaluator_operations.proofs.EnumerationLaws.{product_misfit, product_told}
use Rattle.evaluator_operations.proofs.enumerations.multiplied.Goals as goal

pub returns-in-Some : goal.returns-in-Some
returns-in-Some c = λ h vs d. product_told _ vs (rw c.in-Some.is at d) c.kept.ensures

pub returns-in-None : goal.returns-in-None
returns-in-None c = λ h vs d. product_misfit _ vs (rw c.in-None.is at d) c.refusal.ensures
