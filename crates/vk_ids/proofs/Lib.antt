pub mod ValueLemmas
pub mod ChangeLemmas
