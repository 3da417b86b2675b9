-- The laws of readers and spellings that crates above build on.
pub use Rattle.cache_words.specs.Items.{SpellsByte}
pub use Rattle.cache_words.proofs.SequenceLaws.{join, agrees_with, SpellThen, then_at, then_agrees, SpellAs, seen_agrees, SpellEither, either_agrees, Never, refused_agrees, byte_agrees, there_agrees, SpellAfter, after_at, after_agrees, SpellBy, by_agrees, SpellNothing, nothing_agrees, SpellsCount, list_agrees, array_agrees, IsNoNil, optional_agrees}
pub use Rattle.cache_words.proofs.ValueLaws.{optional_number_agrees, optional_hash_agrees, optional_moment_agrees}
