-- What the contracts of `values` and `values_forms` cite. Laws about these definitions stand in their proofs/.
pub mod Value
pub mod Order
pub mod Span
pub mod Held
pub mod Applied
pub mod Sets
pub mod Givens
pub mod Lookup
pub mod Numbers
pub mod Form
pub mod WellFormed
pub mod SetValues
pub mod TypeWords
pub mod Typed
