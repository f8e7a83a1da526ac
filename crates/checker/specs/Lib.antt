-- What the steps of the check call ask and promise.
pub mod Answering
