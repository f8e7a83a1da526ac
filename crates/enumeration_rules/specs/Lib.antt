-- The members of a power and of a product in their order, and how code makes them. Laws about these definitions stand in proofs/.
pub mod Enumeration
pub mod Enumerates
pub mod WordCounts
pub mod OnWords
