-- What one paragraph's entering asks and promises.
pub mod Entering
