-- The same result: the invariant, and that each move keeps it.
pub mod Holders
pub mod Invariant
pub mod Leading
pub mod Linking
pub mod ByRank
pub mod ByLoss
pub mod Reaching
