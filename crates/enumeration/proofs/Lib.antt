-- Laws of the turns of the functions, and what they do on values.
pub mod Laws
pub mod Values
