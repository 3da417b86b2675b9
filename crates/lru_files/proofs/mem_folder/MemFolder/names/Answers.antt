use Rattle.std.proofs.Common.{◌≡◌, ◌∙◌, [], ◌∷◌, ◌++◌, ap, subst, sym, rules}
use Rattle.std.specs.Prelude.{map, string_bytes}
use Rattle.std.specs.HashMap.{get_by_text, keys}
use Rattle.std.specs.Str.{bytes_eq}
use Rattle.std.specs.Map.Iter.{deref}
use Rattle.std.proofs.lemmas.List.{map-append}
use Rattle.std.proofs.lemmas.Map.Iter.{iter_end}
use Rattle.std.proofs.lemmas.Map.Made.{is_some-lookup}
use Rattle.lru_files.specs.MemFolder.{files_of}
use Rattle.lru_files.proofs.Listing.{AreNames, is_some-option_map, listed-all, listed-found, listed-other, once-keys}
use Rattle.lru_files.proofs.mem_folder.MemFolder.names.Goals as goal

pub loop-path-preserved-in_ok-push : goal.loop-path-preserved-in_ok-push
loop-path-preserved-in_ok-push c =
    let names : map string_bytes c.push.new.self.items ≡ map string_bytes c.loop-path.names.items ++ c.in-Some-name_in.name.now ∷ [] =
    ap (map string_bytes) c.in_ok-push.ensures.items ∙ map-append string_bytes c.loop-path.names.items (c.in_ok-from_str.field-0 ∷ [])
    ∙ ap (λ n. map string_bytes c.loop-path.names.items ++ n ∷ []) c.in_ok-from_str.ensures.ok in
    let paths : map string_bytes (map deref (c.loop-path.yielded ++ c.in-Some.path ∷ [])) ≡ map string_bytes (map deref c.loop-path.yielded) ++ string_bytes c.in-Some.path.now ∷ [] =
    ap (map string_bytes) (map-append deref c.loop-path.yielded (c.in-Some.path ∷ [])) ∙ map-append string_bytes (map deref c.loop-path.yielded) (c.in-Some.path.now ∷ []) in
    subst (λ ns. AreNames c.args.dir.now ns (map string_bytes (map deref (c.loop-path.yielded ++ c.in-Some.path ∷ [])))) (sym names)
    (subst (λ ps. AreNames c.args.dir.now (map string_bytes c.loop-path.names.items ++ c.in-Some-name_in.name.now ∷ []) ps) (sym paths)
    (listed-found c.args.dir.now (map string_bytes c.loop-path.names.items) (map string_bytes (map deref c.loop-path.yielded)) (string_bytes c.in-Some.path.now) c.in-Some-name_in.name.now
    (sym c.as_str.ensures.value ∙ c.in-Some-name_in.ensures.found.0) c.in-Some-name_in.ensures.found.1 c.loop-path.invariant))

pub loop-path-preserved : goal.loop-path-preserved
loop-path-preserved c =
    let paths : map string_bytes (map deref (c.loop-path.yielded ++ c.in-Some.path ∷ [])) ≡ map string_bytes (map deref c.loop-path.yielded) ++ string_bytes c.in-Some.path.now ∷ [] =
    ap (map string_bytes) (map-append deref c.loop-path.yielded (c.in-Some.path ∷ [])) ∙ map-append string_bytes (map deref c.loop-path.yielded) (c.in-Some.path.now ∷ []) in
    subst (λ ps. AreNames c.args.dir.now (map string_bytes c.loop-path.names.items) ps) (sym paths)
    (listed-other c.args.dir.now (map string_bytes c.loop-path.names.items) (map string_bytes (map deref c.loop-path.yielded)) (string_bytes c.in-Some.path.now)
    (λ n is_path is_name. c.in_default.ensures.none n (c.as_str.ensures.value ∙ is_path) is_name) c.loop-path.invariant)

pub returns : goal.returns
returns c =
    let all : map deref c.loop-path.yielded ≡ keys c.args.self.now.files = search (rules, iter_end) in
    listed-all c.args.dir.now (map string_bytes c.loop-path.names.items) (files_of c.args.self.now) (keys c.args.self.now.files)
    (λ path. is_some-option_map (λ bytes. bytes.items) (get_by_text c.args.self.now.files path) ∙ is_some-lookup (λ k. bytes_eq path (string_bytes k)) c.args.self.now.files.entries)
    (once-keys (keys c.args.self.now.files) c.keys-path-items.ensures.unique)
    (subst (λ ks. AreNames c.args.dir.now (map string_bytes c.loop-path.names.items) (map string_bytes ks)) all c.loop-path.invariant)
