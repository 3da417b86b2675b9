use Rattle.std.proofs.Common.{rules}
use Rattle.cache_words.proofs.pack.cursor.Cursor.hash_there.Goals as goal

pub returns-then-is_there : goal.returns-then-is_there
returns-then-is_there c = search rules
