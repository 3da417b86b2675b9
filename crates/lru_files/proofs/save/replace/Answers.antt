use Rattle.lru_files.proofs.Replacing.{old_from_aside, aside_begin, aside-same, aside-put, aside-refused, aside-writes, added-refused, put-writes, put-same, replaced-moved, old_or_new-moved, created_run, written_run, flushed_run, renamed_run}
use Rattle.lru_files.specs.Folder.FolderCall.{Create, Write, Flush, Rename}
use Rattle.lru_files.specs.Folder.Outcome.{Done, Failed}
use Rattle.lru_files.proofs.Told.{tells_call, tells_then}
use Rattle.lru_files.proofs.save.replace.Goals as goal

pub returns-in_default-clause-told : goal.returns-in_default-clause-told
returns-in_default-clause-told g c = tells_call (Create c.args.temp.now) Failed c.in_default.ensures.did c.in_default.ensures.counted

pub returns-in_default-write-clause-told : goal.returns-in_default-write-clause-told
returns-in_default-write-clause-told g c = tells_then (tells_call (Create c.args.temp.now) Done c.in-Ok.ensures.did c.in-Ok.ensures.counted)
    (tells_call (Write c.args.bytes.now) Failed c.in_default-write.ensures.did c.in_default-write.ensures.counted)

pub returns-in_default-flush-clause-told : goal.returns-in_default-flush-clause-told
returns-in_default-flush-clause-told g c = tells_then (tells_then (tells_call (Create c.args.temp.now) Done c.in-Ok.ensures.did c.in-Ok.ensures.counted)
    (tells_call (Write c.args.bytes.now) Done c.in-Ok-write.ensures.did c.in-Ok-write.ensures.counted)) (tells_call Flush Failed c.in_default-flush.ensures.did c.in_default-flush.ensures.counted)

pub returns-in_default-rename-clause-told : goal.returns-in_default-rename-clause-told
returns-in_default-rename-clause-told g c = tells_then (tells_then (tells_then (tells_call (Create c.args.temp.now) Done c.in-Ok.ensures.did c.in-Ok.ensures.counted)
    (tells_call (Write c.args.bytes.now) Done c.in-Ok-write.ensures.did c.in-Ok-write.ensures.counted)) (tells_call Flush Done c.in-Ok-flush.ensures.did c.in-Ok-flush.ensures.counted))
    (tells_call (Rename c.args.temp.now c.args.path.now) Failed c.in_default-rename.ensures.did c.in_default-rename.ensures.counted)

pub returns-clause-told : goal.returns-clause-told
returns-clause-told g c = tells_then (tells_then (tells_then (tells_call (Create c.args.temp.now) Done c.in-Ok.ensures.did c.in-Ok.ensures.counted)
    (tells_call (Write c.args.bytes.now) Done c.in-Ok-write.ensures.did c.in-Ok-write.ensures.counted)) (tells_call Flush Done c.in-Ok-flush.ensures.did c.in-Ok-flush.ensures.counted))
    (tells_call (Rename c.args.temp.now c.args.path.now) Done c.in-Ok-rename.ensures.did c.in-Ok-rename.ensures.counted)

pub returns-in_default-clause-stops : goal.returns-in_default-clause-stops
returns-in_default-clause-stops g c = λ kept.
    created_run c.requires _ c.create.ensures.did (aside-same _ (aside_begin _ c.args.temp.now) (c.in_default.ensures.err kept))

pub returns-in_default-write-clause-left : goal.returns-in_default-write-clause-left
returns-in_default-write-clause-left g c = λ kept.
    added-refused _ (c.in-Ok.ensures.absent kept) (c.in-Ok.ensures.opened kept) (c.in-Ok.ensures.ok kept) (c.in_default-write.ensures.err kept)

pub returns-in_default-write-clause-stops : goal.returns-in_default-write-clause-stops
returns-in_default-write-clause-stops g c = λ kept.
    let created = aside-put _ (aside_begin _ c.args.temp.now) (c.in-Ok.ensures.ok kept) in
    written_run c.requires _ (created_run c.requires _ c.create.ensures.did created) created (c.in-Ok.ensures.opened kept) c.write.ensures.did
    (aside-refused _ _ (c.in-Ok.ensures.opened kept) created (c.in_default-write.ensures.err kept))

pub returns-in_default-flush-clause-left : goal.returns-in_default-flush-clause-left
returns-in_default-flush-clause-left g c = λ kept. record {
  was = c.in-Ok.ensures.absent kept;
  put = put-same _ (put-writes _ (c.in-Ok.ensures.opened kept) (c.in-Ok.ensures.ok kept) (c.in-Ok-write.ensures.ok kept)) (c.flush.ensures.files kept);
}

pub returns-in_default-flush-clause-stops : goal.returns-in_default-flush-clause-stops
returns-in_default-flush-clause-stops g c = λ kept.
    let created = aside-put _ (aside_begin _ c.args.temp.now) (c.in-Ok.ensures.ok kept) in
    let written = aside-writes _ _ (c.in-Ok.ensures.opened kept) created (c.in-Ok-write.ensures.ok kept) in
    let run = written_run c.requires _ (created_run c.requires _ c.create.ensures.did created) created (c.in-Ok.ensures.opened kept) c.write.ensures.did written in
    flushed_run c.requires _ run written c.flush.ensures.did (aside-same _ written (c.flush.ensures.files kept))

pub returns-in_default-rename-clause-left : goal.returns-in_default-rename-clause-left
returns-in_default-rename-clause-left g c = λ kept.
    let put = put-writes _ (c.in-Ok.ensures.opened kept) (c.in-Ok.ensures.ok kept) (c.in-Ok-write.ensures.ok kept) in
    record {
      was = c.in-Ok.ensures.absent kept;
      put = put-same _ (put-same _ put (c.flush.ensures.files kept)) (c.in_default-rename.ensures.err kept);
    }

pub returns-in_default-rename-clause-stops : goal.returns-in_default-rename-clause-stops
returns-in_default-rename-clause-stops g c = λ kept.
    let created = aside-put _ (aside_begin _ c.args.temp.now) (c.in-Ok.ensures.ok kept) in
    let written = aside-writes _ _ (c.in-Ok.ensures.opened kept) created (c.in-Ok-write.ensures.ok kept) in
    let flushed = aside-same _ written (c.flush.ensures.files kept) in
    let put = put-same _ (put-writes _ (c.in-Ok.ensures.opened kept) (c.in-Ok.ensures.ok kept) (c.in-Ok-write.ensures.ok kept)) (c.flush.ensures.files kept) in
    let run = written_run c.requires _ (created_run c.requires _ c.create.ensures.did created) created (c.in-Ok.ensures.opened kept) c.write.ensures.did written in
    let run2 = flushed_run c.requires _ run written c.flush.ensures.did flushed in
    renamed_run c.requires _ run2 put c.rename.ensures.did (old_from_aside _ _ c.requires (aside-same _ flushed (c.in_default-rename.ensures.err kept)))

pub returns-clause-left : goal.returns-clause-left
returns-clause-left g c = λ kept.
    let put = put-writes _ (c.in-Ok.ensures.opened kept) (c.in-Ok.ensures.ok kept) (c.in-Ok-write.ensures.ok kept) in
    replaced-moved (c.in-Ok.ensures.absent kept) c.requires (put-same _ put (c.flush.ensures.files kept)) (c.in-Ok-rename.ensures.ok kept)

pub returns-clause-stops : goal.returns-clause-stops
returns-clause-stops g c = λ kept.
    let created = aside-put _ (aside_begin _ c.args.temp.now) (c.in-Ok.ensures.ok kept) in
    let written = aside-writes _ _ (c.in-Ok.ensures.opened kept) created (c.in-Ok-write.ensures.ok kept) in
    let flushed = aside-same _ written (c.flush.ensures.files kept) in
    let put = put-same _ (put-writes _ (c.in-Ok.ensures.opened kept) (c.in-Ok.ensures.ok kept) (c.in-Ok-write.ensures.ok kept)) (c.flush.ensures.files kept) in
    let run = written_run c.requires _ (created_run c.requires _ c.create.ensures.did created) created (c.in-Ok.ensures.opened kept) c.write.ensures.did written in
    let run2 = flushed_run c.requires _ run written c.flush.ensures.did flushed in
    renamed_run c.requires _ run2 put c.rename.ensures.did (old_or_new-moved put (c.in-Ok-rename.ensures.ok kept))
