use Rattle.std.proofs.Common.{◌≡◌}
use Rattle.std.specs.Prelude.{[], option_map, unwrap_or}
use Rattle.head_directives.specs.Lifetime.{without}
use Rattle.head_directives.specs.NamesLeft.{names_left}
use Rattle.head_directives.proofs.interpret.strip_listed_headers.Given as goal

abbrev pub invariant-loop-name : goal.invariant-loop-name
invariant-loop-name l = record {
  left : without l.resp_header.headers (names_left l.name-iterator) ≡ without l.fn.resp_header.headers (unwrap_or (option_map names_left l.fn.field_names) []);
  status : l.resp_header.status ≡ l.fn.resp_header.status;
}
