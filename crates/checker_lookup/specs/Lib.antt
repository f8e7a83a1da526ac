pub mod Scoped
pub mod Enlarged
pub mod Bindings
pub mod References
pub mod Components
pub mod Thetas
