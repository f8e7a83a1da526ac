pub mod Equations
pub mod Formers
