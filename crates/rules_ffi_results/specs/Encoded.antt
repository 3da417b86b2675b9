-- What is sent round the data of a chunk (RFC 9112, 7.1). Bytes are numbers: 13 and 10 end a line.
use Rattle.std.specs.Prelude.{ℕ, false, ◌==◌, if◌then◌else◌, List, [], ◌++◌, length}
use Rattle.std.specs.Fmt.{digits}
use Rattle.rules_ffi_arguments.specs.Rooms.{behind}
use Rattle.rules_ffi_arguments.specs.declared.shapes.Out.{Out}
use Rattle.rules_ffi_results.specs.Numbers.{blank, nowhere}
use Rattle.rules_ffi_results.specs.Heads.{line_end}

-- in front of so many bytes their number, in hexadecimal digits, and the end of a line; of none the last chunk, and no trailers
unfoldable pub chunk_front : ℕ → List ℕ
chunk_front n = digits 16 false n ++ line_end ++ (if n == 0 then line_end else [])

-- behind them the end of a line
abbrev pub chunk_end : ℕ → List ℕ
chunk_end n = if n == 0 then [] else line_end

abbrev pub encoded : ℕ → List ℕ × Out
encoded n = (
  chunk_front n ++ chunk_end n,
  record (blank 67 0) {
    length = n;
    head = behind 0 (chunk_front n);
    more = if n == 0 then nowhere else behind (length (chunk_front n)) line_end;
  },
)
