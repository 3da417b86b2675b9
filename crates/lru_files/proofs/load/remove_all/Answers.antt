use Rattle.std.proofs.Common.{rules, refl, subst, sym}
use Rattle.lru_files.specs.Load.{AreRemovals}
use Rattle.lru_files.specs.Load.Removes.{NoPath}
use Rattle.lru_files.specs.Folder.FolderCall.{Remove}
use Rattle.lru_files.specs.Folder.Outcome.{Done, Failed}
use Rattle.lru_files.specs.Told.{Tells}
use Rattle.lru_files.proofs.Told.{tells_call, tells_nothing, tells_on, tells_then}
use Rattle.lru_files.proofs.Loading.{removals-append, removes-gone, removes-left}
use Rattle.lru_files.proofs.load.remove_all.Goals as goal

pub loop-path-init : goal.loop-path-init
loop-path-init g c = record {
  all = search rules;
  room = search rules;
  removed = λ kept. NoPath (g.F.Folder.files c.args.folder.now) (g.F.Folder.files c.args.folder.now) (λ path. refl);
  failed = subst AreRemovals (sym c.requires.none) tt;
  told = subst (λ failed. Tells g.F.Folder.did g.F.Folder.failures_of failed c.args.folder.now c.args.folder.now) (sym c.requires.none) (tells_nothing c.args.folder.now);
}

pub loop-path-preserved : goal.loop-path-preserved
loop-path-preserved g c = record {
  all = search rules;
  room = search rules;
  removed = λ kept. removes-gone c.args.paths.now c.loop-path.path-index c.path-item.result _ c.loop-path.removed _ c.loop-path-test.true c.path-item.is
      c.as_str.ensures.value (c.loop-path.invariant.removed kept) (c.in-Ok.ensures.ok kept);
  failed = search rules;
  told = tells_on c.loop-path.invariant.told (tells_call (Remove c.as_str.result.now) Done c.in-Ok.ensures.did c.in-Ok.ensures.counted);
}

pub loop-path-preserved-in_default : goal.loop-path-preserved-in_default
loop-path-preserved-in_default g c = record {
  all = search rules;
  room = search rules;
  removed = λ kept. removes-left c.args.paths.now c.loop-path.path-index c.path-item.result c.loop-path.removed _ c.loop-path-test.true c.path-item.is
      (c.loop-path.invariant.removed kept) (c.in_default.ensures.err kept);
  failed = subst AreRemovals (sym c.push_reserved.ensures.items) (removals-append c.loop-path.failed.items c.loop-path.invariant.failed);
  told = subst (λ failed. Tells g.F.Folder.did g.F.Folder.failures_of failed c.args.folder.now c.remove.new.self) (sym c.push_reserved.ensures.items)
      (tells_then c.loop-path.invariant.told (tells_call (Remove c.as_str.result.now) Failed c.in_default.ensures.did c.in_default.ensures.counted));
}
