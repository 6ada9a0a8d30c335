pub mod WordLemmas
pub mod WrittenLemmas
pub mod ArchitectureNames
