use Rattle.std.proofs.Common.{◌∙◌, ap, arith, take, List, ℕ, []}
use Rattle.std.specs.Prelude.{option_map}
use Rattle.std.specs.Int.{w64, from_be_bytes}
use Rattle.cache_words.specs.BorrowedKey.{borrowed_view}
use Rattle.cache_words.specs.Hasher.{Holds}
use Rattle.cache_entries.specs.BorrowedEntry.{borrowed_entry}
use Rattle.cache_entries.specs.Entry.{number_of}
use Rattle.cache_entries.specs.EntryText.{entry_hash, hashed_text, kept_key}
use Rattle.cache_entries.proofs.HashLaws.{front_number}
use Rattle.cache_evict.proofs.BorrowedLaws.{holds_short, holds_nothing}
use Rattle.cache_evict.proofs.tracker.hashing.borrowed_hash.Goals as goal
use Rattle.cache_evict.proofs.tracker.hashing.borrowed_hash.Goals.{then-entry, else-entry}

pub returns : goal.returns
unfolding entry_hash
returns c =
    let key = kept_key (borrowed_view c.args.entry.key) in
    let id = option_map number_of c.args.entry.id in
    let held : Holds c.if-entry.hasher (hashed_text (borrowed_entry c.args.entry)) = elim c.if-entry.branch [
      | then-entry w ↦ rw w.hasher-is (holds_short key id w.add_entry.new.out (omega (arith, w.if-entry)) (w.add_entry.ensures [] c.new-hasher.ensures))
      | else-entry w ↦ rw w.hasher-is (holds_nothing key id c.new-hasher.result (omega (arith, w.if-entry)) c.new-hasher.ensures)
    ] in
    c.from_be_bytes.ensures ∙ front_number c.finalize.result ∙ ap (λ (l : List ℕ). from_be_bytes w64 (take 8 l)) (c.finalize.ensures (hashed_text (borrowed_entry c.args.entry)) held)
