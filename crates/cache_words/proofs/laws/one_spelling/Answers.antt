use Rattle.cache_words.specs.Forms.{Stands, numbers, arrays}
use Rattle.cache_words.specs.Pack.{SpellsText, SpellsBytes, SpellsHash, SpellsOptionalHash, SpellsMoment, SpellsKey}
use Rattle.cache_words.specs.Reading.{number_at, text_at, bytes_at, hash_at, optional_hash_at, moment_at, key_at}
use Rattle.cache_words.proofs.ReadingLaws.{one_spelling}
use Rattle.cache_words.proofs.FormLaws.{number_agrees, are_numbers, are_arrays}
use Rattle.cache_words.proofs.ValueLaws.{text_agrees, bytes_agrees, hash_agrees, optional_hash_agrees, moment_agrees, key_agrees}
use Rattle.cache_words.proofs.laws.one_spelling.Goals as goal

pub returns : goal.returns
returns c = record {
  number = one_spelling (number_at numbers) (Stands numbers) (number_agrees numbers are_numbers);
  array = one_spelling (number_at arrays) (Stands arrays) (number_agrees arrays are_arrays);
  text = one_spelling text_at SpellsText text_agrees;
  byte_string = one_spelling bytes_at SpellsBytes bytes_agrees;
  hash = one_spelling hash_at SpellsHash hash_agrees;
  optional_hash = one_spelling optional_hash_at SpellsOptionalHash optional_hash_agrees;
  moment = one_spelling moment_at SpellsMoment moment_agrees;
  key = one_spelling key_at SpellsKey key_agrees;
}
