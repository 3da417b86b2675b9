-- A text that is read to its end.
use Rattle.std.proofs.Common.{◌≡◌, ℕ, zero, suc, List, [], ◌∷◌, Some, None, Ok, Err, ap, refl}
use Rattle.std.specs.Prelude.{IfErr, Result}
use Rattle.cache_words.specs.declared.pack.fault.PackFault.{PackFault}
use Rattle.cache_words.specs.Forms.{arrays}
use Rattle.cache_words.specs.Reading.{number_at}
use Rattle.cache_entries.specs.declared.rows.Tracked.{Tracked}
use Rattle.cache_entries.specs.RowText.{RowsRead, counted_rows, recency_at, row_at, rows_until}
use Rattle.lru_async_manager.specs.declared.fault.RowsFault.{RowsFault}
use Rattle.lru_async_manager.specs.declared.fault.RowsFault.TheVariants.{Text, Memory, Put}
use Rattle.lru_async_manager.specs.Files.{IsOfRow, IsRead}

pub reads-start : (bytes rest : List ℕ) (count : ℕ) → number_at arrays bytes ≡ Ok (count, rest) → (recency_at bytes).1 ≡ (rows_until count rest).1
reads-start bytes rest count e = ap (λ (r : RowsRead). r.1) (ap counted_rows e)

pub reads-head : (bytes : List ℕ) (fault : PackFault) → number_at arrays bytes ≡ Err fault → (recency_at bytes).1 ≡ Some fault
reads-head bytes fault e = ap (λ (r : RowsRead). r.1) (ap counted_rows e)

pub reads-more : (left : ℕ) (bytes rest : List ℕ) (r : Tracked) → row_at bytes ≡ Ok (r, rest) → (rows_until (suc left) bytes).1 ≡ (rows_until left rest).1
unfolding rows_until
reads-more left bytes rest r e =
    let next : rows_until (suc left) bytes ≡ (r ∷ (rows_until left rest).0, (rows_until left rest).1) = rw e refl in
    ap (λ (x : RowsRead). x.1) next

pub reads-stop : (left : ℕ) (bytes : List ℕ) (fault : PackFault) → row_at bytes ≡ Err fault → (rows_until (suc left) bytes).1 ≡ Some fault
unfolding rows_until
reads-stop left bytes fault e =
    let next : rows_until (suc left) bytes ≡ ([], Some fault) = rw e refl in
    ap (λ (x : RowsRead). x.1) next

pub reads-end : (bytes : List ℕ) → (rows_until zero bytes).1 ≡ None
unfolding rows_until
reads-end bytes = refl

-- the rows of a text that is read to its end are put
pub read-whole : (bytes : List ℕ) (result : Result (Unit {0}) RowsFault) → (recency_at bytes).1 ≡ None → IfErr result IsOfRow → IsRead bytes result
read-whole bytes (Ok done) whole of_row = whole
read-whole bytes (Err (Text fault)) whole of_row = absurd of_row
read-whole bytes (Err Memory) whole of_row = whole
read-whole bytes (Err (Put fault)) whole of_row = whole
