use Rattle.std.proofs.Common.{rules, arith, ◌≡◌, ◌+◌, ◌∙◌, [], Err, subst, sym}
use Rattle.lru_files.specs.Load.{Loads, load_error, load_errors}
use Rattle.lru_files.specs.Load.Loads.{NoShard}
use Rattle.lru_files.specs.Names.{shard_path}
use Rattle.lru_files.specs.Told.{Tells}
use Rattle.lru_files.proofs.Loads.{loads-found, loads-missing, loads-failed, cleans_up-then, cleans_up-stay}
use Rattle.lru_files.proofs.Told.{tells_more, tells_nothing, tells_on, tells_then}
use Rattle.lru_files.proofs.load.load_shards.Goals as goal

pub loop-shard-init : goal.loop-shard-init
loop-shard-init g c = record {
  counted = search rules;
  room = search rules;
  loads = subst (λ errored. Loads g.F.Folder.keeps (λ shard. g.F.Folder.files c.args.folder.now (shard_path c.args.dir.now c.args.file_name.now shard))
      (λ before shard bytes r after. (given : _) × (given.items ≡ bytes) × goal.D-step g before shard given r after) 0 0 0 errored c.args.deserialize.now c.args.deserialize.now)
      (sym c.in_ok-errored.ensures.items) (NoShard c.args.deserialize.now);
  files = search rules;
  told = subst (λ errored. Tells g.F.Folder.did g.F.Folder.failures_of (load_errors errored) c.clean_up.new.folder c.clean_up.new.folder) (sym c.in_ok-errored.ensures.items) (tells_nothing c.clean_up.new.folder);
}

pub loop-shard-preserved : goal.loop-shard-preserved
loop-shard-preserved g c = record {
  counted = omega arith;
  room = search rules;
  loads = loads-found _ _ _ c.loop-shard.shard c.loop-shard.loaded c.loop-shard.missing c.loop-shard.errored.items _ _ _ _
      (λ kept. c.loop-shard.invariant.files kept (shard_path c.args.dir.now c.args.file_name.now c.loop-shard.shard)
      ∙ cleans_up-stay _ _ _ _ c.in_ok-cleanup.cleanup (c.in_ok-cleanup.ensures.cleaned kept) c.loop-shard.shard (omega arith))
      c.loop-shard.invariant.loads c.in-Ok.found c.if-not-found.false c.in-Ok.ensures.loaded;
  files = λ kept path. c.load_shard.ensures.files kept path ∙ c.loop-shard.invariant.files kept path;
  told = tells_on c.loop-shard.invariant.told c.in-Ok.ensures.told;
}

pub loop-shard-preserved-then-not-found : goal.loop-shard-preserved-then-not-found
loop-shard-preserved-then-not-found g c = record {
  counted = omega arith;
  room = search rules;
  loads = loads-missing _ _ _ c.loop-shard.shard c.loop-shard.loaded c.loop-shard.missing c.loop-shard.errored.items _ _ _ _
      (λ kept. c.loop-shard.invariant.files kept (shard_path c.args.dir.now c.args.file_name.now c.loop-shard.shard)
      ∙ cleans_up-stay _ _ _ _ c.in_ok-cleanup.cleanup (c.in_ok-cleanup.ensures.cleaned kept) c.loop-shard.shard (omega arith))
      c.loop-shard.invariant.loads c.in-Ok.found c.if-not-found.true c.in-Ok.ensures.loaded;
  files = λ kept path. c.load_shard.ensures.files kept path ∙ c.loop-shard.invariant.files kept path;
  told = tells_on c.loop-shard.invariant.told c.in-Ok.ensures.told;
}

pub loop-shard-preserved-in-Err : goal.loop-shard-preserved-in-Err
loop-shard-preserved-in-Err g c = record {
  counted = search rules;
  room = search rules;
  loads = subst (λ errored. Loads g.F.Folder.keeps (λ shard. g.F.Folder.files c.args.folder.now (shard_path c.args.dir.now c.args.file_name.now shard))
      (λ before shard bytes r after. (given : _) × (given.items ≡ bytes) × goal.D-step g before shard given r after) (c.loop-shard.shard + 1) c.loop-shard.loaded c.loop-shard.missing errored c.args.deserialize.now c.load_shard.new.deserialize)
      (sym c.push_reserved.ensures.items) (loads-failed _ _ _ c.loop-shard.shard c.loop-shard.loaded c.loop-shard.missing c.loop-shard.errored.items _ _ _ _
      (λ kept. c.loop-shard.invariant.files kept (shard_path c.args.dir.now c.args.file_name.now c.loop-shard.shard)
      ∙ cleans_up-stay _ _ _ _ c.in_ok-cleanup.cleanup (c.in_ok-cleanup.ensures.cleaned kept) c.loop-shard.shard (omega arith))
      c.loop-shard.invariant.loads c.in-Err.failure c.in-Err.ensures.loaded);
  files = λ kept path. c.load_shard.ensures.files kept path ∙ c.loop-shard.invariant.files kept path;
  told = subst (λ errored. Tells g.F.Folder.did g.F.Folder.failures_of (load_errors errored) c.clean_up.new.folder c.load_shard.new.folder) (sym c.push_reserved.ensures.items)
      (tells_more [] (λ failed. load_error (Err failed.1)) c.loop-shard.errored.items (c.loop-shard.shard, c.in-Err.failure) c.loop-shard.invariant.told c.in-Err.ensures.told);
}

pub returns-clause-loads : goal.returns-clause-loads
returns-clause-loads g c = subst (λ n. Loads g.F.Folder.keeps (λ shard. g.F.Folder.files c.args.folder.now (shard_path c.args.dir.now c.args.file_name.now shard))
    (λ before shard bytes r after. (given : _) × (given.items ≡ bytes) × goal.D-step g before shard given r after) n c.loop-shard.loaded c.loop-shard.missing c.loop-shard.errored.items c.args.deserialize.now c.loop-shard.deserialize)
    (omega arith) c.loop-shard.invariant.loads

pub returns-clause-cleaned : goal.returns-clause-cleaned
returns-clause-cleaned g c = λ kept. cleans_up-then _ _ _ _ _ c.in_ok-cleanup.cleanup (c.in_ok-cleanup.ensures.cleaned kept) (c.loop-shard.invariant.files kept)

pub returns-clause-stay : goal.returns-clause-stay
returns-clause-stay g c = λ kept i small. c.loop-shard.invariant.files kept (shard_path c.args.dir.now c.args.file_name.now i)
    ∙ cleans_up-stay _ _ _ _ c.in_ok-cleanup.cleanup (c.in_ok-cleanup.ensures.cleaned kept) i small

pub returns-clause-told : goal.returns-clause-told
returns-clause-told g c = tells_then c.in_ok-cleanup.ensures.told c.loop-shard.invariant.told
