use Rattle.std.proofs.Common.{◌∙◌, ap, take, List, ℕ}
use Rattle.std.specs.Int.{w64, from_be_bytes}
use Rattle.cache_entries.specs.Entry.{owned_of}
use Rattle.cache_entries.specs.EntryText.{entry_hash, hashed_text}
use Rattle.cache_entries.proofs.HashLaws.{hashed, front_number}
use Rattle.cache_entries.proofs.pack.writing.entry_hash.Goals as goal

pub returns : goal.returns
unfolding entry_hash
returns c =
    let p = c.put_entry.ensures in
    let e = owned_of c.args.entry in
    let held = hashed e c.put_entry.result c.new-hasher.result c.put_entry.new.out c.new-hasher.ensures p.ok p.err p.long p.succeeds in
    c.from_be_bytes.ensures ∙ front_number c.finalize.result ∙ ap (λ (l : List ℕ). from_be_bytes w64 (take 8 l)) (c.finalize.ensures (hashed_text e) held)
