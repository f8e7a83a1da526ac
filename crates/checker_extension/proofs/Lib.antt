-- Laws of one paragraph's entering.
pub mod HeldParts
pub mod ListedLaws
pub mod GrownLaws
pub mod EnteringLaws
