use Rattle.std.proofs.Common.{◌+◌, length, arith}
use Rattle.cache_words.specs.Forms.{shortest, numbers}
use Rattle.cache_entries.proofs.RoomLaws.{number_room}
use Rattle.cache_entries.proofs.pack.writing.add_entry.Goals as goal

pub returns-in-Identified-clause-adds : goal.returns-in-Identified-clause-adds
returns-in-Identified-clause-adds g c =
    let s = g.met.S.Sink in
    rw (c.in-Identified.is, ← c.get.ensures) (s.joins _ _ _ _ _ c.add_array.ensures.adds (s.joins _ _ _ _ _ c.add_key-in-Identified.ensures.adds c.add_number.ensures.adds))

pub returns-in-Identified-clause-room : goal.returns-in-Identified-clause-room
returns-in-Identified-clause-room g c =
    rw c.in-Identified.is (λ n h.
    let few = number_room c.get.result in
    c.add_number.ensures.room n (c.add_key-in-Identified.ensures.room (length (shortest numbers c.get.result) + n)
    (c.add_array.ensures.room _ (g.met.S.Sink.less_room _ _ _ (omega (arith, few)) h))))
