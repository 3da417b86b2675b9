-- Reading lines one after the other, as a loop does.
use Rattle.std.proofs.Common.{◌≡◌, ℕ, suc, ◌-◌, ◌+◌, ◌≤◌, ◌<◌, List, Result, Ok, Err, refl, sym, ◌∙◌, arith}
use Rattle.http_header.specs.FieldValue.{FieldValue}
use Rattle.http_header.specs.HeaderMap.{Entries}
use Rattle.cache_words.specs.declared.pack.fault.PackFault.{PackFault}
use Rattle.head_metas.specs.declared.fault.MetaReadFault.{MetaReadFault}
use Rattle.head_metas.specs.declared.fault.MetaReadFault.TheVariants.{Memory, Pack}
use Rattle.head_metas.specs.HeadReading.{line_at, with_line, lines_at, Fails}

pub goes_on : (count i : ℕ) (m next : Entries FieldValue) (bytes after : List ℕ) (line : List ℕ × FieldValue) (total : Result (Entries FieldValue × List ℕ) PackFault)
    → i < count → line_at bytes ≡ Ok (line, after) → with_line m line ≡ Ok next → lines_at (count - i) m bytes ≡ total
    → lines_at (count - (i + 1)) next after ≡ total
unfolding lines_at
goes_on count i m next bytes after line total lt read more so_far =
    let k : count - i ≡ suc (count - (i + 1)) = omega arith in
    let one : lines_at (count - i) m bytes ≡ lines_at (count - (i + 1)) next after = rw (k, read, more) refl in
    sym one ∙ so_far

-- no line
pub ends : (e : MetaReadFault) (count i : ℕ) (m : Entries FieldValue) (bytes : List ℕ) (total : Result (Entries FieldValue × List ℕ) PackFault)
    → i < count → Fails e (line_at bytes) → lines_at (count - i) m bytes ≡ total → Fails e total
unfolding lines_at
ends Memory count i m bytes total lt bad so_far = tt
ends (Pack f) count i m bytes total lt bad so_far =
    let k : count - i ≡ suc (count - (i + 1)) = omega arith in
    let one : lines_at (count - i) m bytes ≡ Err f = rw (k, bad) refl in
    sym so_far ∙ one

-- a line that the map has no room for
pub ends_full : (e : MetaReadFault) (count i : ℕ) (m : Entries FieldValue) (bytes after : List ℕ) (line : List ℕ × FieldValue) (total : Result (Entries FieldValue × List ℕ) PackFault)
    → i < count → line_at bytes ≡ Ok (line, after) → Fails e (with_line m line) → lines_at (count - i) m bytes ≡ total → Fails e total
unfolding lines_at
ends_full Memory count i m bytes after line total lt read bad so_far = tt
ends_full (Pack f) count i m bytes after line total lt read bad so_far =
    let k : count - i ≡ suc (count - (i + 1)) = omega arith in
    let one : lines_at (count - i) m bytes ≡ Err f = rw (k, read, bad) refl in
    sym so_far ∙ one

pub is_done : (count i : ℕ) (m : Entries FieldValue) (bytes : List ℕ) (total : Result (Entries FieldValue × List ℕ) PackFault)
    → count ≤ i → lines_at (count - i) m bytes ≡ total → total ≡ Ok (m, bytes)
unfolding lines_at
is_done count i m bytes total le so_far =
    let k : count - i ≡ 0 = omega arith in
    let one : lines_at (count - i) m bytes ≡ Ok (m, bytes) = rw k refl in
    sym so_far ∙ one
