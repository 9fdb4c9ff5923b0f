pub mod JsonLemmas
pub mod TokenLemmas
pub mod AheadLemmas
pub mod NumberLemmas
pub mod MemberLemmas
pub mod LengthLemmas
pub mod ReadLemmas
pub mod ByteLemmas
