-- Every living one: the invariant, and that each move keeps it.
pub mod Invariant
pub mod Together
pub mod ByRank
pub mod ByLoss
pub mod Reaching
