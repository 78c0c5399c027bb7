pub mod ReleaseLemmas
pub mod PublishLemmas
