-- What several proofs share, laws, and examples that cite laws. Assumes nothing.
pub mod BrokenExamples
pub mod laws
