use Rattle.std.proofs.Common.{sym, ◌∙◌, ap, true}
use Rattle.std.specs.Prelude.{List, ℕ}
use Rattle.cache_store.specs.StoreState.{left_with}
use Rattle.store_memory.specs.Kept.{readings_of}
use Rattle.store_memory.proofs.ReaderLaws.{left-none}
use Rattle.store_memory.proofs.readers.leave_share.Goals as goal

pub returns-in_default : goal.returns-in_default
returns-in_default c bytes there = sym (left-none c.args.number bytes true c.args.readers.now (rw c.in_default.is at there))

pub returns : goal.returns
returns c bytes same = c.leave_bytes.ensures ∙ ap (λ (x : List ℕ). left_with c.args.number x true (readings_of c.args.readers.now.entries)) (rw c.in-Some.is at same)
