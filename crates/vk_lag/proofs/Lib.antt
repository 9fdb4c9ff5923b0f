mod ByteLemmas
mod ChunkLemmas
mod ResourceLemmas
