-- Which entry the parts of a key stand for.
pub use Rattle.lru_numbers.specs.Parts.{entry_with_parts, key_with_parts}
