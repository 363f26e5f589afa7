-- Nobody hangs: the invariant, that each move keeps it, and the claim.
pub mod Invariant
pub mod ByRank
pub mod Linking
pub mod ByLoss
pub mod Moving
pub mod Deciding
pub mod Reaching
