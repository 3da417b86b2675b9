-- The text of what was found.
use Rattle.std.specs.Prelude.{ℕ, ◌*◌, ◌/◌, ◌%◌, ◌==◌, if◌then◌else◌, Bool, List, [], ◌∷◌, ◌++◌, codes, Option, Some, None}
use Rattle.std.specs.Fmt.{decimal}
use Rattle.curve_sizes.specs.declared.row.CurveRow.{CurveRow}
use Rattle.curve_sizes.specs.declared.totals.Totals.{Totals}
use Rattle.curve_held.specs.declared.row.HeldRow.{HeldRow}
use Rattle.curve_lines.specs.HeldTexts.{held_text}
use Rattle.curve_lines.specs.declared.format.Rules.{Rules}
use Rattle.curve_lines.specs.declared.text.LineCounts.{LineCounts}
use Rattle.curve_keys.specs.declared.part.Part.{Part}

-- hundredths of a percent, cut off
abbrev pub hundredths : ℕ → ℕ → ℕ
hundredths part whole = if whole == 0 then 0 else part * 10000 / whole

abbrev pub head_text : List ℕ
head_text = codes "size,hits,hit_bytes,hit_percent,byte_hit_percent,entries,first_eviction_at\n"

abbrev pub percent_text : ℕ → List ℕ
percent_text n = decimal (n / 100) ++ (codes "." ++ (decimal (n % 100 / 10) ++ decimal (n % 10)))

-- among how many caches keys are dealt
abbrev pub caches_of : Option Part → ℕ
caches_of None = 1
caches_of (Some p) = p.of

-- the limit of all the caches together, and what is found
abbrev pub counts_text : ℕ → CurveRow → List ℕ
counts_text caches r = decimal (r.limit * caches) ++ (codes "," ++ (decimal r.finds ++ (codes "," ++ (decimal r.bytes ++ codes ","))))

-- a row of one of so many caches, of so many requests, whose entries weigh so much together
abbrev pub row_text : ℕ → ℕ → ℕ → CurveRow → HeldRow → List ℕ
row_text caches asks bytes r h =
    counts_text caches r ++ (percent_text (hundredths r.finds asks) ++ (codes "," ++ (percent_text (hundredths r.bytes bytes) ++ (held_text h ++ codes "\n"))))

abbrev pub rows_text : ℕ → ℕ → ℕ → List CurveRow → List HeldRow → List ℕ
rows_text caches asks bytes [] held = []
rows_text caches asks bytes (r ∷ rows) [] = []
rows_text caches asks bytes (r ∷ rows) (h ∷ held) = row_text caches asks bytes r h ++ rows_text caches asks bytes rows held

abbrev pub requests_text : Totals → ℕ → List ℕ
requests_text t entries = codes "# format=1 requests=" ++ (decimal t.asks ++ (codes " unique_keys=" ++ (decimal entries ++ (codes " deletes=" ++ decimal t.removed))))

-- how many lines asked without a weight and how many were no requests, where there are any
abbrev pub others_text : ℕ → ℕ → List ℕ
others_text unweighed others =
    if unweighed == 0 then (if others == 0 then [] else codes " other_ops=" ++ decimal others)
    else if others == 0 then codes " requests_without_size=" ++ decimal unweighed
    else codes " requests_without_size=" ++ (decimal unweighed ++ (codes " other_ops=" ++ decimal others))

-- what the entries weigh that are asked for; of a sample by the requests themselves too
abbrev pub bytes_text : Bool → Totals → List ℕ
bytes_text is_sample t = if is_sample then decimal t.bytes ++ (codes " stated_bytes=" ++ decimal t.said) else decimal t.bytes

-- how many keys are asked for more than once, and what they weigh
abbrev pub repeats_text : LineCounts → List ℕ
repeats_text n = codes " repeated_keys=" ++ (decimal n.repeated ++ (codes " repeated_key_bytes=" ++ decimal n.repeated_bytes))

-- both
unfoldable pub rest_text : LineCounts → List ℕ
rest_text n = others_text n.unweighed n.others ++ repeats_text n

abbrev pub lines_text : Bool → Totals → LineCounts → List ℕ
lines_text is_sample t n =
    codes " size_changes=" ++ (decimal t.odd ++ (codes " skipped_lines=" ++ (decimal n.wrong ++ (codes " request_bytes=" ++ (bytes_text is_sample t ++ rest_text n)))))

-- beside a sample: how many requests ask in all parts of the keys, and what these say that they weigh
abbrev pub sample_text : Bool → LineCounts → List ℕ
sample_text is_sample n = if is_sample then codes " total_requests=" ++ (decimal n.asked ++ (codes " total_bytes=" ++ (decimal n.said ++ codes "\n"))) else codes "\n"

-- how many lines or records were read; of a part which it is, what each entry takes beside its body, and those lines of other parts too
abbrev pub part_text : Rules → LineCounts → Option Part → List ℕ
part_text by n None = codes " lines_read=" ++ (decimal n.read ++ codes "\n")
part_text by n (Some p) =
    codes " part=" ++ (decimal p.index ++ (codes "/" ++ (decimal p.of ++ (codes " entry_overhead=" ++ (decimal by.overhead ++ (codes " lines_read=" ++ (decimal n.read ++ sample_text by.is_sample n)))))))

-- requests that ask, entries, removals of what was asked for, requests by another size than the first, and lines without a request,
-- by no size for a key that has none, and of other operations
abbrev pub totals_text : Rules → Option Part → Totals → ℕ → LineCounts → List ℕ
totals_text by part t entries n = requests_text t entries ++ (lines_text by.is_sample t n ++ part_text by n part)

-- what the rows are
abbrev pub kind_text : Option Part → ℕ → List ℕ
kind_text (Some p) odd = codes "# estimate: one of " ++ (decimal p.of ++ codes " parts of the keys\n")
kind_text None odd =
    if odd == 0 then codes "# exact: one shard, each entry has one length\n"
    else codes "# estimate: one shard; requests by another length than their entry's first: " ++ (decimal odd ++ codes "\n")

unfoldable pub curve_text : Rules → Option Part → List CurveRow → List HeldRow → Totals → ℕ → LineCounts → List ℕ
curve_text by part rows held t entries n =
    head_text ++ (rows_text (caches_of part) t.asks t.bytes rows held ++ (totals_text by part t entries n ++ kind_text part t.odd))
