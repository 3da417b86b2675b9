pub mod HexLemmas
mod TreeLemmas
mod NumberLemmas
mod DigitLemmas
