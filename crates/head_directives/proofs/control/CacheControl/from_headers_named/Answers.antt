use Rattle.head_directives.specs.Control.{lines_under}
use Rattle.head_directives.proofs.Keeping.{kept_read}
use Rattle.head_directives.proofs.control.CacheControl.from_headers_named.Goals as goal

pub returns-clause-read : goal.returns-clause-read
returns-clause-read c =
    kept_read (lines_under c.args.header_name.now c.args.headers.now) _ (rw (c.with_hasher.ensures.empty, c.get_all-lines.ensures.value) at c.in_ok-add_lines.ensures.read)
