use Rattle.std.proofs.Common.{arith}
use Rattle.std.proofs.lemmas.Grind.{elements}
use Rattle.cache_heads.proofs.meta.CacheMeta.response_header_copy.Goals as goal

pub returns : goal.returns
returns c = grind (arith, elements)
