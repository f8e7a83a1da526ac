-- What the contracts of `values_integers` cite. Laws about these definitions stand in proofs/.
pub mod Integer
