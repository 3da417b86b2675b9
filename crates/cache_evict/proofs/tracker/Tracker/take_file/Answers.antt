use Rattle.std.proofs.Common.{◌∙◌, Ok, Err, refl, inl, inr, subst}
use Rattle.lru_files.specs.Folder.{OpensFile}
use Rattle.lru_files.specs.Folder.FolderCall.{Open, Read}
use Rattle.lru_files.specs.Folder.Outcome.{Done, Failed}
use Rattle.lru_files.proofs.Loading.{read_whole}
use Rattle.lru_files.proofs.Told.{tells_call, tells_then}
use Rattle.cache_evict.specs.declared.tracker.loading.Again.TheVariants.{MovedFirst}
use Rattle.cache_evict.specs.FileLoads.{TakesText}
use Rattle.cache_evict.proofs.tracker.Tracker.take_file.Goals as goal

pub returns-in_default : goal.returns-in_default
returns-in_default g c = record {
  named = λ e. cc;
  loads = (inl refl, refl);
  same = c.open.ensures.files;
  told = tells_call (Open c.args.path.now) Failed c.in_default.ensures.did c.in_default.ensures.counted;
}

pub returns-then-not-found : goal.returns-then-not-found
returns-then-not-found g c = record {
  named = λ e. cc;
  loads = ((λ kept. subst (λ f. OpensFile c.args.path.now (g.F.Folder.files c.args.folder.now) f (g.F.Folder.opened c.open.new.self)) c.if-not-found.true (c.in-Ok.ensures.ok kept)), refl);
  same = c.open.ensures.files;
  told = tells_call (Open c.args.path.now) Done c.in-Ok.ensures.did c.in-Ok.ensures.counted;
}

pub returns-in_default-read : goal.returns-in_default-read
returns-in_default-read g c = record {
  named = λ e. cc;
  loads = (inr refl, refl);
  same = λ kept path. c.read.ensures.files kept path ∙ c.open.ensures.files kept path;
  told = tells_then (tells_call (Open c.args.path.now) Done c.in-Ok.ensures.did c.in-Ok.ensures.counted)
      (tells_call Read Failed c.in_default-read.ensures.did c.in_default-read.ensures.counted);
}

pub returns-in-Ok-load : goal.returns-in-Ok-load
returns-in-Ok-load g c = record {
  named = λ e. cc;
  loads = (
    c.in-Ok-read.bytes.items,
    (λ kept. read_whole (c.in-Ok.ensures.ok kept) c.if-not-found.false (c.open.ensures.files kept) (c.in-Ok-read.ensures.ok kept) refl),
    subst (λ b. TakesText MovedFirst g.row.N c.args.self.now b (Ok tt) c.load.new.self) c.as_slice.ensures.value c.in-Ok-load.ensures,
  );
  same = λ kept path. c.read.ensures.files kept path ∙ c.open.ensures.files kept path;
  told = tells_then (tells_call (Open c.args.path.now) Done c.in-Ok.ensures.did c.in-Ok.ensures.counted)
      (tells_call Read Done c.in-Ok-read.ensures.did c.in-Ok-read.ensures.counted);
}

pub returns : goal.returns
returns g c = record {
  named = λ e. cc;
  loads = (
    c.in-Ok-read.bytes.items,
    (λ kept. read_whole (c.in-Ok.ensures.ok kept) c.if-not-found.false (c.open.ensures.files kept) (c.in-Ok-read.ensures.ok kept) refl),
    subst (λ b. TakesText MovedFirst g.row.N c.args.self.now b (Err c.in-Err.fault) c.load.new.self) c.as_slice.ensures.value c.in-Err.ensures,
  );
  same = λ kept path. c.read.ensures.files kept path ∙ c.open.ensures.files kept path;
  told = tells_then (tells_call (Open c.args.path.now) Done c.in-Ok.ensures.did c.in-Ok.ensures.counted)
      (tells_call Read Done c.in-Ok-read.ensures.did c.in-Ok-read.ensures.counted);
}
