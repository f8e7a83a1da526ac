-- Laws of the definitions of forms and types of `values`, and what the functions' proofs share.
pub mod Elements
pub mod Forms
pub mod TypeSpans
pub mod Testing
pub mod Decoding
pub mod Reading
pub mod TypedValues
