pub mod Components
pub mod Filling
pub mod NewRows
pub mod Storing
pub mod Large
pub mod Keeping
