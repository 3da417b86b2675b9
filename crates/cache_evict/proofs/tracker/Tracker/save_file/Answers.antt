use Rattle.std.proofs.Common.{◌∙◌, Ok, Err, inl, inr, refl, arith}
use Rattle.std.proofs.lemmas.Result.{err_from_is_err_and}
use Rattle.std.specs.Prelude.{codes}
use Rattle.lru_files.specs.Folder.{StopsLeave}
use Rattle.lru_files.specs.Folder.Outcome.{Done, Failed}
use Rattle.lru_files.specs.Save.{IsOldOrNew, LeftByWriting}
use Rattle.lru_files.specs.declared.fault.ShardSaveFailure.TheVariants.{Io}
use Rattle.lru_files.proofs.Runs.{weakened}
use Rattle.lru_files.proofs.Shards.{one_left-replaced, one_left-failed, one_old_or_new, along_texts}
use Rattle.cache_evict.specs.Stored.{file_at, simple_stored, temp_at}
use Rattle.cache_evict.proofs.SaveLaws.{made_stops, one_failed, one_saved, single_apart, unwritten_saves, written_stops}
use Rattle.cache_evict.proofs.tracker.Tracker.save_file.Goals as goal

pub returns-in_err-temp-clause-saved : goal.returns-in_err-temp-clause-saved
returns-in_err-temp-clause-saved g c =
    let p = err_from_is_err_and c.from_residual.result c.from_residual.ensures.1 in
    rw (p.1, p.2) (unwritten_saves c.args.self.now g.row.N c.requires.one (file_at simple_stored c.args.dir.now) (temp_at simple_stored c.args.dir.now c.args.words.now)
    g.F.Folder.did g.F.Folder.failures_of g.F.Folder.keeps g.F.Folder.opened g.F.Folder.files c.args.dir.now c.args.folder.now c.in_err-temp.field-0.0 c.in_err-temp.ensures.refused)

pub returns-in_default-clause-saved : goal.returns-in_default-clause-saved
returns-in_default-clause-saved g c =
    (c.new.ensures.items, inl (record { make = c.in_default.ensures.did; counted = c.in_default.ensures.counted; same = c.make.ensures.files }))

pub returns-in_default-clause-stops : goal.returns-in_default-clause-stops
returns-in_default-clause-stops g c = λ kept.
    made_stops c.args.self.now g.row.N c.requires.one (file_at simple_stored c.args.dir.now) (temp_at simple_stored c.args.dir.now c.args.words.now)
    g.F.Folder.did g.F.Folder.failures_of g.F.Folder.keeps g.F.Folder.opened g.F.Folder.files c.args.dir.now c.args.folder.now c.make.new.self Failed
    c.in_default.ensures.did (c.make.ensures.files kept)

pub returns-in-Ok-replace-clause-saved : goal.returns-in-Ok-replace-clause-saved
returns-in-Ok-replace-clause-saved g c =
    let at = file_at simple_stored c.args.dir.now in
    let temp = temp_at simple_stored c.args.dir.now c.args.words.now in
    let tried = one_saved c.args.self.now g.row.N c.requires.one at temp g.F.Folder.did g.F.Folder.failures_of g.F.Folder.keeps g.F.Folder.opened g.F.Folder.files c.args.dir.now
    c.args.folder.now c.make.new.self c.replace.new.folder c.in-Ok.ensures.did c.in-Ok.ensures.counted c.make.ensures.files c.in-Ok-replace.ensures.told
    (λ kept. one_left-replaced c.in_ok-temp.bytes c.in_ok-temp.ensures.text
    (along_texts (λ t p b. LeftByWriting (g.F.Folder.files c.make.new.self) (g.F.Folder.files c.replace.new.folder) t p b (Ok tt))
    (c.as_str.ensures.value ∙ c.in_ok-temp.ensures.temp) (c.as_str-2.ensures.value ∙ c.in_ok-temp.ensures.path) c.as_slice.ensures.value
    (c.in-Ok-replace.ensures.left kept))) in
    rw c.new-in-Ok-replace.ensures.items (tried, omega (arith, c.requires.one), omega arith)

pub returns-in-Ok-replace-clause-stops : goal.returns-in-Ok-replace-clause-stops
returns-in-Ok-replace-clause-stops g c = λ kept.
    written_stops c.args.self.now g.row.N c.requires.one (file_at simple_stored c.args.dir.now) (temp_at simple_stored c.args.dir.now c.args.words.now)
    g.F.Folder.did g.F.Folder.failures_of g.F.Folder.keeps g.F.Folder.opened g.F.Folder.files c.args.dir.now c.args.folder.now c.make.new.self c.replace.new.folder Done
    c.in-Ok.ensures.did (c.make.ensures.files kept)
    (weakened _ (λ left around. one_old_or_new c.in_ok-temp.bytes c.in_ok-temp.ensures.text around)
    (along_texts (λ t p b. StopsLeave g.F.Folder.did g.F.Folder.opened g.F.Folder.files (IsOldOrNew (g.F.Folder.files c.make.new.self) t p b) c.make.new.self c.replace.new.folder)
    (c.as_str.ensures.value ∙ c.in_ok-temp.ensures.temp) (c.as_str-2.ensures.value ∙ c.in_ok-temp.ensures.path) c.as_slice.ensures.value
    (c.replace.ensures.stops kept)))

pub returns-clause-saved : goal.returns-clause-saved
returns-clause-saved g c =
    let at = file_at simple_stored c.args.dir.now in
    let temp = temp_at simple_stored c.args.dir.now c.args.words.now in
    let tried = one_failed c.args.self.now g.row.N c.requires.one at temp g.F.Folder.did g.F.Folder.failures_of g.F.Folder.keeps g.F.Folder.opened g.F.Folder.files c.args.dir.now
    c.args.folder.now c.make.new.self c.replace.new.folder (Io c.in-Err._call) c.in-Ok.ensures.did c.in-Ok.ensures.counted c.make.ensures.files c.in-Err.ensures.told
    (λ kept. one_left-failed c.in_ok-temp.bytes c.in-Err._call c.in_ok-temp.ensures.text
    (single_apart c.args.dir.now (codes "simple_lru.data") _)
    (along_texts (λ t p b. LeftByWriting (g.F.Folder.files c.make.new.self) (g.F.Folder.files c.replace.new.folder) t p b (Err c.in-Err._call))
    (c.as_str.ensures.value ∙ c.in_ok-temp.ensures.temp) (c.as_str-2.ensures.value ∙ c.in_ok-temp.ensures.path) c.as_slice.ensures.value
    (c.in-Err.ensures.left kept))) in
    (c.new-in-Err.ensures.items, inr (_, tried, omega (arith, c.requires.one)))

pub returns-clause-stops : goal.returns-clause-stops
returns-clause-stops g c = λ kept.
    written_stops c.args.self.now g.row.N c.requires.one (file_at simple_stored c.args.dir.now) (temp_at simple_stored c.args.dir.now c.args.words.now)
    g.F.Folder.did g.F.Folder.failures_of g.F.Folder.keeps g.F.Folder.opened g.F.Folder.files c.args.dir.now c.args.folder.now c.make.new.self c.replace.new.folder Done
    c.in-Ok.ensures.did (c.make.ensures.files kept)
    (weakened _ (λ left around. one_old_or_new c.in_ok-temp.bytes c.in_ok-temp.ensures.text around)
    (along_texts (λ t p b. StopsLeave g.F.Folder.did g.F.Folder.opened g.F.Folder.files (IsOldOrNew (g.F.Folder.files c.make.new.self) t p b) c.make.new.self c.replace.new.folder)
    (c.as_str.ensures.value ∙ c.in_ok-temp.ensures.temp) (c.as_str-2.ensures.value ∙ c.in_ok-temp.ensures.path) c.as_slice.ensures.value
    (c.replace.ensures.stops kept)))
