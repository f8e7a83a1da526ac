pub mod LinkLaws
pub mod CountLaws
