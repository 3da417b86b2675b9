use Rattle.std.proofs.Common.{◌∙◌}
use Rattle.cache_words.specs.Key.{combined, key_of}
use Rattle.cache_store.proofs.WholeLaws.{not-begun, given-up, stores, told-of, of-key, given-to, never-removed, handed-back}
use Rattle.cache_store.proofs.storage.store.Storage.store_whole.Goals as goal

pub returns-in-Err-clause-stored : goal.returns-in-Err-clause-stored
returns-in-Err-clause-stored g c =
    not-begun g.Self.Miss.HandleMiss.number (g.Self.Storage.is_spent (g.Self.Contents.held c.args.self.now)) (combined (key_of c.args.key.now)) c.args.meta (g.Self.Contents.held c.args.self.now) (g.Self.Contents.held c.get_miss_handler_owned.new.self) c.in-Err.fault c.in-Err.ensures.begun

pub returns-in-Err-write_body-clause-stored : goal.returns-in-Err-write_body-clause-stored
returns-in-Err-write_body-clause-stored g c =
    given-up g.Self.Miss.HandleMiss.number g.Self.Miss.HandleMiss.told (g.Self.Storage.is_spent (g.Self.Contents.held c.args.self.now)) (combined (key_of c.args.key.now)) c.args.meta c.args.body c.in-Ok.miss c.write_body.new.self (g.Self.Contents.held c.args.self.now) (g.Self.Contents.held c.get_miss_handler_owned.new.self) (g.Self.Contents.held c.write_body.new.store) (g.Self.Contents.held c.leave.new.store)
    c.in-Err-write_body.fault c.in-Ok.ensures.begun c.in-Err-write_body.ensures.answer c.in-Err-write_body.ensures.same c.in-Err-write_body.ensures.err c.leave.ensures.left

pub returns-in-Ok-finish-clause-stored : goal.returns-in-Ok-finish-clause-stored
returns-in-Ok-finish-clause-stored g c =
    stores g.Self.Miss.HandleMiss.number g.Self.Miss.HandleMiss.told (g.Self.Storage.is_spent (g.Self.Contents.held c.args.self.now)) (combined (key_of c.args.key.now)) c.args.meta c.args.body c.in-Ok.miss c.write_body.new.self (g.Self.Contents.held c.args.self.now) (g.Self.Contents.held c.get_miss_handler_owned.new.self) (g.Self.Contents.held c.write_body.new.store) (g.Self.Contents.held c.finish.new.store)
    (record { began = c.in-Ok.ensures.begun; same = c.in_default.ensures.same; filled = c.in_default.ensures.ok }) c.in-Ok-finish.finish c.in-Ok-finish.ensures.finished

pub returns-in-Ok-finish-clause-told : goal.returns-in-Ok-finish-clause-told
returns-in-Ok-finish-clause-told g c =
    told-of g.Self.Miss.HandleMiss.number g.Self.Miss.HandleMiss.told (g.Self.Storage.is_spent (g.Self.Contents.held c.args.self.now)) (combined (key_of c.args.key.now)) c.args.meta c.args.body c.in-Ok.miss c.write_body.new.self (g.Self.Contents.held c.args.self.now) (g.Self.Contents.held c.get_miss_handler_owned.new.self) (g.Self.Contents.held c.write_body.new.store) (g.Self.Contents.held c.finish.new.store)
    (record { began = c.in-Ok.ensures.begun; same = c.in_default.ensures.same; filled = c.in_default.ensures.ok }) c.in-Ok-finish.finish c.in-Ok-finish.ensures.finished

pub returns-in-Ok-finish-clause-ids : goal.returns-in-Ok-finish-clause-ids
returns-in-Ok-finish-clause-ids g c =
    given-to (combined (key_of c.args.key.now)) _ c.entry_id-id.result _ (g.Self.Contents.ids c.args.self.now) (g.Self.Contents.ids c.write_body.new.store) (g.Self.Contents.ids c.finish.new.store)
    (of-key g.Self.Miss.HandleMiss.number g.Self.Miss.HandleMiss.told (g.Self.Storage.is_spent (g.Self.Contents.held c.args.self.now)) (combined (key_of c.args.key.now)) c.args.meta c.args.body c.in-Ok.miss c.write_body.new.self (g.Self.Contents.held c.args.self.now) (g.Self.Contents.held c.get_miss_handler_owned.new.self) (g.Self.Contents.held c.write_body.new.store) (g.Self.Contents.held c.finish.new.store) (record { began = c.in-Ok.ensures.begun; same = c.in_default.ensures.same; filled = c.in_default.ensures.ok }))
    c.entry_id-id.ensures (c.write_body.ensures.ids ∙ c.get_miss_handler_owned.ensures.ids) c.in-Ok-finish.ensures.ids

pub unreachable-requires : goal.unreachable-requires
unreachable-requires g c =
    never-removed g.Self.Miss.HandleMiss.number g.Self.Miss.HandleMiss.told (g.Self.Storage.is_spent (g.Self.Contents.held c.args.self.now)) (combined (key_of c.args.key.now)) c.args.meta c.args.body c.in-Ok.miss c.write_body.new.self (g.Self.Contents.held c.args.self.now) (g.Self.Contents.held c.get_miss_handler_owned.new.self) (g.Self.Contents.held c.write_body.new.store) (g.Self.Contents.held c.finish.new.store)
    (record { began = c.in-Ok.ensures.begun; same = c.in_default.ensures.same; filled = c.in_default.ensures.ok }) (rw c.in-Err-WriteRemoved.field-0-is at c.in-Err-WriteRemoved.ensures.finished)

pub returns-in-Err-Memory-clause-stored : goal.returns-in-Err-Memory-clause-stored
returns-in-Err-Memory-clause-stored g c =
    handed-back g.Self.Miss.HandleMiss.number g.Self.Miss.HandleMiss.told (g.Self.Storage.is_spent (g.Self.Contents.held c.args.self.now)) (combined (key_of c.args.key.now)) c.args.meta c.args.body c.in-Ok.miss c.write_body.new.self (g.Self.Contents.held c.args.self.now) (g.Self.Contents.held c.get_miss_handler_owned.new.self) (g.Self.Contents.held c.write_body.new.store) (g.Self.Contents.held c.finish.new.store)
    (record { began = c.in-Ok.ensures.begun; same = c.in_default.ensures.same; filled = c.in_default.ensures.ok }) c.in-Err-Memory.miss (g.Self.Contents.held c.leave-in-Err-Memory.new.store) (rw c.in-Err-Memory.field-0-is at c.in-Err-Memory.ensures.finished) (rw c.in-Err-Memory.field-0-is at c.leave-in-Err-Memory.ensures.left)
