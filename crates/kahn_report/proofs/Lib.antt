pub mod Same_programs
pub mod Same_reports
pub mod Sample_spelt
pub mod Common
