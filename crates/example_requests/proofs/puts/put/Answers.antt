use Rattle.cache_words.specs.Key.{key_of}
use Rattle.example_requests.proofs.PutLaws.{put-told}
use Rattle.example_requests.proofs.puts.put.Goals as goal

pub returns : goal.returns
returns g c = record { put = put-told _ (key_of c.args.key) _ _ _ c.cache_put.result (rw c.new.ensures at c.cache_put.ensures.put) }
