use Rattle.std.proofs.Common.{rules, ◌≡◌, ◌+◌, Err, String, Vec, sym, inr, ap, ◌∙◌, length, subst}
use Rattle.std.specs.Prelude.{map, filter, string_bytes}
use Rattle.std.proofs.lemmas.List.{length-map}
use Rattle.std.proofs.lemmas.Result.{err_from_is_err_and}
use Rattle.lru_files.specs.Folder.{path_in}
use Rattle.lru_files.specs.Folder.FolderCall.{Names}
use Rattle.lru_files.specs.Folder.Outcome.{Done, Failed, FailedAtEntry}
use Rattle.lru_files.specs.Load.{Removes}
use Rattle.lru_files.specs.Names.{is_temp_name}
use Rattle.std.specs.declared.alloc.Global.{Global}
use Rattle.lru_files.specs.Told.{Tells, list_outcome}
use Rattle.lru_files.proofs.Loading.{removes-after}
use Rattle.lru_files.proofs.Told.{tells_call, tells_then}
use Rattle.lru_files.proofs.load.clean_up.Goals as goal

pub returns-clause-cleaned : goal.returns-clause-cleaned
returns-clause-cleaned g c = λ kept.
    let same : map string_bytes c.as_slice-2.result.now ≡ map (path_in c.args.dir.now) (filter (is_temp_name c.args.file_name.now) (map string_bytes c.in-Ok.names.items)) =
    ap (map string_bytes) c.as_slice-2.ensures.value ∙ c.in_ok-paths.ensures
    ∙ ap (λ names. map (path_in c.args.dir.now) (filter (is_temp_name c.args.file_name.now) (map string_bytes names))) c.as_slice.ensures.value in
    inr (
      map string_bytes c.in-Ok.names.items,
      c.in-Ok.ensures.ok kept,
      c.remove_all.ensures.failed,
      (let all : c.remove_all.result.removed + length c.remove_all.result.failed.items ≡ length c.as_slice-2.result.now = c.remove_all.ensures.all in
          let paths : length c.as_slice-2.result.now ≡ length (filter (is_temp_name c.args.file_name.now) (map string_bytes c.in-Ok.names.items)) =
          sym (length-map c.as_slice-2.result.now string_bytes) ∙ ap length same ∙ length-map (filter (is_temp_name c.args.file_name.now) (map string_bytes c.in-Ok.names.items)) (path_in c.args.dir.now) in
          all ∙ paths),
      subst (λ paths. Removes paths c.remove_all.result.removed (g.F.Folder.files c.args.folder.now) (g.F.Folder.files c.remove_all.new.folder)) same
          (removes-after _ c.remove_all.result.removed _ _ _ (c.list.ensures.files kept) (c.remove_all.ensures.removed kept)),
    )

pub returns-clause-told : goal.returns-clause-told
returns-clause-told g c = tells_then (tells_call (Names c.args.dir.now) Done c.in-Ok.ensures.did c.in-Ok.ensures.counted) c.remove_all.ensures.told

pub returns-in-Err-Dir-clause-told : goal.returns-in-Err-Dir-clause-told
returns-in-Err-Dir-clause-told g c = subst (λ failed. Tells g.F.Folder.did g.F.Folder.failures_of failed c.args.folder.now c.list.new.self) (search rules)
    (tells_call (Names c.args.dir.now) Failed
    (subst (λ e. g.F.Folder.did c.args.folder.now (Names c.args.dir.now) (list_outcome {X = Vec (String Global) Global} (Err e)) c.list.new.self) c.in-Err-Dir.field-0-is c.in-Err-Dir.ensures.did) c.in-Err-Dir.ensures.counted)

pub returns-in-Err-Entry-clause-told : goal.returns-in-Err-Entry-clause-told
returns-in-Err-Entry-clause-told g c = subst (λ failed. Tells g.F.Folder.did g.F.Folder.failures_of failed c.args.folder.now c.list.new.self) (search rules)
    (tells_call (Names c.args.dir.now) FailedAtEntry
    (subst (λ e. g.F.Folder.did c.args.folder.now (Names c.args.dir.now) (list_outcome {X = Vec (String Global) Global} (Err e)) c.list.new.self) c.in-Err-Entry.field-0-is c.in-Err-Entry.ensures.did) c.in-Err-Entry.ensures.counted)

pub returns-in_err-paths-clause-told : goal.returns-in_err-paths-clause-told
returns-in_err-paths-clause-told g c = let p = err_from_is_err_and c.from_residual-in_err-paths.result c.from_residual-in_err-paths.ensures.1 in rw p.1 (tells_call (Names c.args.dir.now) Done c.in-Ok.ensures.did c.in-Ok.ensures.counted)

pub returns-in_err-reserve-clause-told : goal.returns-in_err-reserve-clause-told
returns-in_err-reserve-clause-told g c = let p = err_from_is_err_and c.from_residual-in_err-reserve.result c.from_residual-in_err-reserve.ensures.1 in rw p.1 (tells_call (Names c.args.dir.now) Done c.in-Ok.ensures.did c.in-Ok.ensures.counted)
