use Rattle.cache_words.proofs.WritingLaws.{number_least, array_least, text_least, bytes_least}
use Rattle.cache_words.proofs.laws.shortest_is_shortest.Goals as goal

pub returns : goal.returns
returns c = record { number = number_least; array = array_least; text = text_least; byte_string = bytes_least }
