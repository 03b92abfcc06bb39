pub mod ChainLemmas
pub mod EntryLemmas
pub mod WriteLemmas
pub mod SoundLemmas
pub mod InsideLemmas
pub mod NoticeLemmas
mod RunLemmas
mod OrderLemmas
mod RunOrder
mod TellingLemmas
mod SectionLemmas
mod SectionCalls
pub mod DrawingLemmas
mod ReplayLemmas
pub mod LeftLemmas
