pub mod Nodes
pub mod Leaves
pub mod Included
pub mod Schemas
pub mod Elements
pub mod Declarations
pub mod Actuals
pub mod Relations
