use Rattle.std.proofs.Common.{rules, arith, ◌+◌, [], Err, refl, subst, sym}
use Rattle.lru_files.specs.Folder.FolderCall.{Make}
use Rattle.lru_files.specs.Folder.Outcome.{Done}
use Rattle.lru_files.specs.Save.{AreNumbered, file_error, file_errors}
use Rattle.lru_files.specs.Told.{Tells}
use Rattle.lru_files.proofs.Numbered.{numbered-append, numbered-more}
use Rattle.lru_files.proofs.Told.{tells_call, tells_more, tells_on}
use Rattle.lru_files.proofs.Runs.{stops_begin}
use Rattle.lru_files.proofs.Saves.{IsSavedTo, saved-all, saved-ok, saved-err, saved-begin, made_run, made_stop}
use Rattle.lru_files.proofs.save.save_shards.Goals as goal

pub returns-in_default-make-clause-stops : goal.returns-in_default-make-clause-stops
returns-in_default-make-clause-stops g c = λ kept. made_run c.ranges.shards.fits _ c.make.ensures.did (c.make.ensures.files kept)

pub loop-shard-init : goal.loop-shard-init
loop-shard-init g c = record {
  counted = search rules;
  room = search rules;
  numbered = search rules;
  told = subst (λ failed. Tells g.F.Folder.did g.F.Folder.failures_of (file_errors failed) c.args.folder.now c.make.new.self) (sym c.in-Ok.ensures.items)
      (tells_call (Make c.args.dir.now) Done c.in-Ok-make.ensures.did c.in-Ok-make.ensures.counted);
  so_far = λ kept. subst (λ failed. IsSavedTo g.F.Folder.did g.F.Folder.opened g.F.Folder.files c.args.dir.now c.args.file_name.now c.args.words.now
      (λ shard r. goal.S-post g c.args.serialize shard r) c.args.shards c.args.folder.now c.make.new.self failed 0) (sym c.in-Ok.ensures.items)
      (saved-begin c.ranges.shards.fits _ c.make.ensures.did (c.make.ensures.files kept));
}

pub loop-shard-preserved : goal.loop-shard-preserved
loop-shard-preserved g c = record {
  counted = omega arith;
  room = search rules;
  numbered = numbered-more 0 c.loop-shard.shard _ c.loop-shard.failed.items c.loop-shard.invariant.numbered (search rules);
  told = tells_on c.loop-shard.invariant.told c.in_default-save_shard.ensures.told;
  so_far = λ kept. saved-ok c.ranges.shards.fits c.save_shard.new.folder c.loop-shard.failed.items c.loop-shard.shard c.loop-shard-test.true
      (c.loop-shard.invariant.so_far kept) c.loop-shard.invariant.numbered (c.in_default-save_shard.ensures.left kept) (c.save_shard.ensures.stops kept);
}

pub loop-shard-preserved-in-Err : goal.loop-shard-preserved-in-Err
loop-shard-preserved-in-Err g c = record {
  counted = search rules;
  room = search rules;
  numbered = subst (AreNumbered 0 (c.loop-shard.shard + 1)) (sym c.push_reserved.ensures.items)
      (numbered-append 0 c.loop-shard.shard c.loop-shard.failed.items c.in-Err.failure c.loop-shard.invariant.numbered (omega arith));
  told = subst (λ failed. Tells g.F.Folder.did g.F.Folder.failures_of (file_errors failed) c.args.folder.now c.save_shard.new.folder) (sym c.push_reserved.ensures.items)
      (tells_more [] (λ failed. file_error (Err failed.1)) c.loop-shard.failed.items (c.loop-shard.shard, c.in-Err.failure) c.loop-shard.invariant.told c.in-Err.ensures.told);
  so_far = λ kept. subst (λ failed. IsSavedTo g.F.Folder.did g.F.Folder.opened g.F.Folder.files c.args.dir.now c.args.file_name.now c.args.words.now
      (λ shard r. goal.S-post g c.args.serialize shard r) c.args.shards c.args.folder.now c.save_shard.new.folder failed (c.loop-shard.shard + 1)) (sym c.push_reserved.ensures.items)
      (saved-err c.ranges.shards.fits c.save_shard.new.folder c.loop-shard.failed.items c.loop-shard.shard c.in-Err.failure c.loop-shard-test.true
      (c.loop-shard.invariant.so_far kept) c.loop-shard.invariant.numbered (c.in-Err.ensures.left kept) (c.save_shard.ensures.stops kept));
}

pub returns-in_default-clause-left : goal.returns-in_default-clause-left
returns-in_default-clause-left g c = λ kept path. refl

pub returns-in_default-clause-stops : goal.returns-in_default-clause-stops
returns-in_default-clause-stops g c = λ kept. stops_begin c.args.folder.now (made_stop c.args.dir.now c.args.file_name.now c.args.words.now _ c.args.shards _ _ (λ path. refl))

pub returns-in_default-clause-told : goal.returns-in_default-clause-told
returns-in_default-clause-told g c = refl

pub returns-in_default-make-clause-left : goal.returns-in_default-make-clause-left
returns-in_default-make-clause-left g c = c.make.ensures.files

pub returns-in_default-make-clause-told : goal.returns-in_default-make-clause-told
returns-in_default-make-clause-told g c = (c.in_default-make.ensures.did, c.in_default-make.ensures.counted)

pub returns-clause-left : goal.returns-clause-left
returns-clause-left g c = λ kept. saved-all c.ranges.shards.fits (omega arith) (c.loop-shard.invariant.so_far kept)

pub returns-clause-stops : goal.returns-clause-stops
returns-clause-stops g c = λ kept. (c.loop-shard.invariant.so_far kept).run

pub returns-clause-counts : goal.returns-clause-counts
returns-clause-counts g c = (omega arith, subst (λ n. AreNumbered 0 n c.loop-shard.failed.items) (omega arith) c.loop-shard.invariant.numbered, λ some. omega arith)

pub returns-clause-told : goal.returns-clause-told
returns-clause-told g c = c.loop-shard.invariant.told

pub returns-then-shards-gt0-clause-left : goal.returns-then-shards-gt0-clause-left
returns-then-shards-gt0-clause-left g c = λ kept. saved-all c.ranges.shards.fits (omega arith) (c.loop-shard.invariant.so_far kept)

pub returns-then-shards-gt0-clause-stops : goal.returns-then-shards-gt0-clause-stops
returns-then-shards-gt0-clause-stops g c = λ kept. (c.loop-shard.invariant.so_far kept).run

pub returns-then-shards-gt0-clause-counts : goal.returns-then-shards-gt0-clause-counts
returns-then-shards-gt0-clause-counts g c = (omega arith, subst (λ n. AreNumbered 0 n c.loop-shard.failed.items) (omega arith) c.loop-shard.invariant.numbered, omega arith)

pub returns-then-shards-gt0-clause-told : goal.returns-then-shards-gt0-clause-told
returns-then-shards-gt0-clause-told g c = c.loop-shard.invariant.told
