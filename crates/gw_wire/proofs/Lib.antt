mod ClockLemmas
pub mod Facts
mod HonestLemmas
pub mod LaterLemmas
mod ScriptLemmas
pub mod ShuffleLemmas
pub mod StretchLemmas
