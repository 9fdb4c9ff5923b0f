pub mod Permutations
pub mod AlikeLemmas
pub mod BlockLemmas
