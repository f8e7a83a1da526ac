-- Laws of an area that holds a dictionary: where its entries stand, what a lookup finds, with the index too, and how it grows.
pub mod Places
pub mod Monotone
pub mod LookupLaws
pub mod IndexLaws
pub mod LiftLaws
pub mod PairLaws
pub mod GrowthLaws
pub mod WaitingLaws
pub mod MovingLaws
pub mod SpacedLaws
pub mod PlacingLaws
pub mod AppendingLaws
