use Rattle.std.proofs.Common.{◌≡◌, ◌≢◌, ◌∙◌, ap, refl, subst, sym, true, Some, IsSome, rules}
use Rattle.std.specs.Str.{bytes_eq}
use Rattle.std.proofs.lemmas.Slice.Eq.{bytes_eq-Decides}
use Rattle.lru_files.specs.MemFolder.{files_of}
use Rattle.lru_files.proofs.InMemory.{moved-put}
use Rattle.lru_files.proofs.mem_folder.MemFolder.relocate.Goals as goal

pub returns-clause-ok : goal.returns-clause-ok
returns-clause-ok c = λ done.
    let apart : c.args.from.now ≢ c.args.to.now = λ e. (let yes : bytes_eq c.args.from.now c.args.to.now ≡ true = (bytes_eq-Decides c.args.from.now c.args.to.now).1 e in cc) in
    let copied : c.in_ok-file.file.items ≡ c.in-Some.file.now = search rules in
    let was : files_of c.args.self.now c.args.from.now ≡ Some c.as_slice.result.now =
    sym c.in-Some.ensures ∙ ap Some (sym (c.as_slice.ensures.value ∙ copied)) in
    let still : files_of c.put.new.self c.args.from.now ≡ Some c.as_slice.result.now = c.in_ok-put.ensures.ok.others c.args.from.now apart ∙ was in
    moved-put apart was c.in_ok-put.ensures.ok (c.take_away.ensures.gone (c.take_away.ensures.there.1 (subst (λ o. IsSome o) (sym still) refl)))
