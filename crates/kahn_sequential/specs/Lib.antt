pub mod HeldRuns
pub mod Flows
pub mod Recordings
pub mod inner
