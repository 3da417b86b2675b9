use Rattle.std.proofs.Common.{refl, inl, inr, ◌∙◌}
use Rattle.lru_files.specs.Folder.FolderCall.{Open, Read}
use Rattle.lru_files.specs.Folder.Outcome.{Done, Failed}
use Rattle.lru_files.proofs.Loading.{read_whole}
use Rattle.lru_files.proofs.Told.{tells_call, tells_nothing, tells_then}
use Rattle.lru_files.proofs.load.load_shard.Goals as goal

pub returns-in-Ok-deserialize-clause-loaded : goal.returns-in-Ok-deserialize-clause-loaded
returns-in-Ok-deserialize-clause-loaded g c = (
  c.in-Ok-read.bytes.items,
  (λ kept. read_whole (c.in-Ok-open.ensures.ok kept) c.if-not-found.false (c.open.ensures.files kept) (c.in-Ok-read.ensures.ok kept) (c.as_str.ensures.value ∙ c.in-Ok.ensures)),
  (c.in-Ok-read.bytes, refl, c.in-Ok-deserialize.ensures),
)

pub returns-clause-loaded : goal.returns-clause-loaded
returns-clause-loaded g c = (
  c.in-Ok-read.bytes.items,
  (λ kept. read_whole (c.in-Ok-open.ensures.ok kept) c.if-not-found.false (c.open.ensures.files kept) (c.in-Ok-read.ensures.ok kept) (c.as_str.ensures.value ∙ c.in-Ok.ensures)),
  (c.in-Ok-read.bytes, refl, c.in-Err.ensures),
)

pub returns-in_default-open-clause-told : goal.returns-in_default-open-clause-told
returns-in_default-open-clause-told g c = tells_call (Open c.as_str.result.now) Failed c.in_default-open.ensures.did c.in_default-open.ensures.counted

pub returns-then-not-found-clause-told : goal.returns-then-not-found-clause-told
returns-then-not-found-clause-told g c = tells_call (Open c.as_str.result.now) Done c.in-Ok-open.ensures.did c.in-Ok-open.ensures.counted

pub returns-in_default-read-clause-told : goal.returns-in_default-read-clause-told
returns-in_default-read-clause-told g c = tells_then (tells_call (Open c.as_str.result.now) Done c.in-Ok-open.ensures.did c.in-Ok-open.ensures.counted)
    (tells_call Read Failed c.in_default-read.ensures.did c.in_default-read.ensures.counted)

pub returns-in-Ok-deserialize-clause-told : goal.returns-in-Ok-deserialize-clause-told
returns-in-Ok-deserialize-clause-told g c = tells_then (tells_call (Open c.as_str.result.now) Done c.in-Ok-open.ensures.did c.in-Ok-open.ensures.counted)
    (tells_call Read Done c.in-Ok-read.ensures.did c.in-Ok-read.ensures.counted)

pub returns-clause-told : goal.returns-clause-told
returns-clause-told g c = tells_then (tells_call (Open c.as_str.result.now) Done c.in-Ok-open.ensures.did c.in-Ok-open.ensures.counted)
    (tells_call Read Done c.in-Ok-read.ensures.did c.in-Ok-read.ensures.counted)

pub returns-in_default-clause-loaded : goal.returns-in_default-clause-loaded
returns-in_default-clause-loaded g c = refl

pub returns-in_default-clause-files : goal.returns-in_default-clause-files
returns-in_default-clause-files g c = λ kept path. refl

pub returns-in_default-clause-told : goal.returns-in_default-clause-told
returns-in_default-clause-told g c = tells_nothing c.args.folder.now

pub returns-in_default-open-clause-loaded : goal.returns-in_default-open-clause-loaded
returns-in_default-open-clause-loaded g c = (inl refl, refl)

pub returns-in_default-open-clause-files : goal.returns-in_default-open-clause-files
returns-in_default-open-clause-files g c = c.open.ensures.files

pub returns-then-not-found-clause-files : goal.returns-then-not-found-clause-files
returns-then-not-found-clause-files g c = c.open.ensures.files

pub returns-in_default-read-clause-loaded : goal.returns-in_default-read-clause-loaded
returns-in_default-read-clause-loaded g c = (inr refl, refl)

pub returns-in_default-read-clause-files : goal.returns-in_default-read-clause-files
returns-in_default-read-clause-files g c = λ kept path. c.read.ensures.files kept path ∙ c.open.ensures.files kept path

pub returns-in-Ok-deserialize-clause-files : goal.returns-in-Ok-deserialize-clause-files
returns-in-Ok-deserialize-clause-files g c = λ kept path. c.read.ensures.files kept path ∙ c.open.ensures.files kept path

pub returns-clause-files : goal.returns-clause-files
returns-clause-files g c = λ kept path. c.read.ensures.files kept path ∙ c.open.ensures.files kept path
