-- All that the crates above cite of a rank.
pub mod Triples
pub mod Acting
pub mod Cases
pub mod Keeping
pub mod Letters
pub mod Knowing
pub mod SettleTurn
pub mod RuleTurns
pub mod SettleSpeech
pub mod RuleSpeeches
