use Rattle.std.proofs.Common.{ℕ, List, Option, refl, ap, ◌∙◌, subst, inl}
use Rattle.lru_files.specs.MemFolder.{files_of}
use Rattle.tier_calls.specs.Called.{IsFileOut}
use Rattle.tier_calls.proofs.held.TierHandle.file.Goals as goal

pub returns-in-Ok : goal.returns-in-Ok
returns-in-Ok c = (
  refl,
  inl (subst (λ (o : Option (List ℕ)). IsFileOut o c.file_shown.result)
      (c.bytes.ensures ∙ ap (files_of c.args.self.now.folder) (c.as_str.ensures.value ∙ c.in-Ok.ensures)) c.file_shown.ensures),
)
