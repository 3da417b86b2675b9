use Rattle.cache_words.proofs.WritingLaws.{number_spelled, array_spelled, text_spelled, bytes_spelled, hash_spelled, optional_hash_spelled, moment_spelled, key_spelled}
use Rattle.cache_words.proofs.laws.written_is_spelled.Goals as goal

pub returns : goal.returns
returns c = record {
  number = number_spelled;
  array = array_spelled;
  text = text_spelled;
  byte_string = bytes_spelled;
  hash = hash_spelled;
  optional_hash = optional_hash_spelled;
  moment = moment_spelled;
  key = key_spelled;
}
