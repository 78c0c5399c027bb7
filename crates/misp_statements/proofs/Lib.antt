pub mod AcceptedRows
pub mod SeenProposals
pub mod Judged
pub mod StatementLemmas
pub mod TargetLemmas
