-- The head that stands for a response that may not be stored.
use Rattle.std.specs.Prelude.{ℕ, ◌++◌, List, codes}
use Rattle.httparse.specs.Ascii.{crlf_bytes}

-- the head of a response that no cache may store (RFC 9111, 5.2.2.5)
abbrev pub no_store_head : List ℕ
no_store_head = codes "HTTP/1.1 200 OK" ++ crlf_bytes ++ codes "Cache-Control: no-store" ++ crlf_bytes ++ crlf_bytes
