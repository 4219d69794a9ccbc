pub mod BesideLemmas
pub mod DidLemmas
pub mod Facts
pub mod PoolLemmas
pub mod WorkLemmas
