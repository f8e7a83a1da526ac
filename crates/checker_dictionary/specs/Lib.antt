-- The dictionary on the words of its area: what an area holds, an entry found by its name, the index that finds it, and one entry more.
pub mod Holds
pub mod Lookup
pub mod Index
pub mod Growth
pub mod Waiting
pub mod Spaced
