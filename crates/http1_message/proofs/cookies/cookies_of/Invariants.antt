use Rattle.std.proofs.Common.{◌≡◌, map, drop}
use Rattle.std.specs.Prelude.{filter, codes}
use Rattle.std.specs.List.{fold, flat_map}
use Rattle.rules_fields.specs.Fields.{fields, all}
use Rattle.http1_message.specs.Cookies.{is_kept, joined_to, crumbs_of, cookies_of}
use Rattle.http1_message.proofs.cookies.cookies_of.Given as goal

abbrev pub invariant-loop-line : goal.invariant-loop-line
invariant-loop-line l =
    fold (joined_to (codes "; ")) l.text.items (filter (is_kept (map (λ n. n.now) l.names)) (flat_map crumbs_of (all (codes "cookie") (fields (drop l.line-index l.lines)))))
    ≡ cookies_of (map (λ n. n.now) l.names) (fields l.lines)
