-- What a meta ends as, where a `&mut` to its head is returned.
use Rattle.std.specs.Borrow.{Lends, Fml, MutBor}
use Rattle.head_lines.specs.contracts.header.ResponseHeader.{the_row as header_row}
use Rattle.cache_heads.specs.contracts.meta.CacheMeta.{the_row}
use Rattle.cache_heads.specs.declared.meta.CacheMeta.{CacheMeta}

-- once the borrow r ends, the meta has the head last written through r
abbrev pub lends_header : MutBor CacheMeta → MutBor header_row.Denot → Fml
lends_header s r = Lends the_row header_row s r (λ w. record s.now { header = w })
