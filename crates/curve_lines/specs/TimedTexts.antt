-- The text of what was found, and found fresh.
use Rattle.std.specs.Prelude.{ℕ, ◌-◌, ◌*◌, ◌^◌, ◌==◌, if◌then◌else◌, List, [], ◌∷◌, ◌++◌, codes, Option, Some, None}
use Rattle.std.specs.Fmt.{decimal}
use Rattle.curve_sizes.specs.declared.row.CurveRow.{CurveRow}
use Rattle.curve_sizes.specs.declared.totals.Totals.{Totals}
use Rattle.curve_timed.specs.declared.row.FreshRow.{FreshRow}
use Rattle.curve_held.specs.declared.row.HeldRow.{HeldRow}
use Rattle.curve_lines.specs.HeldTexts.{held_timed_text}
use Rattle.curve_lines.specs.declared.format.Rules.{Rules}
use Rattle.curve_keys.specs.declared.part.Part.{Part}
use Rattle.curve_lines.specs.declared.text.LineCounts.{LineCounts}
use Rattle.curve_lines.specs.Texts.{hundredths, percent_text, caches_of, requests_text, lines_text, part_text, kind_text}

abbrev pub timed_head : List ℕ
timed_head = codes "size,hits,hit_bytes,hit_percent,byte_hit_percent,fresh_hits,fresh_hit_bytes,fresh_hit_percent,fresh_byte_hit_percent,entries,first_eviction_at,lru_victim_used_at\n"

-- the limit of all the caches together; one that no cache reaches is any
abbrev pub limit_text : ℕ → ℕ → List ℕ
limit_text caches limit = if limit == 2 ^ 64 - 1 then codes "unlimited" else decimal (limit * caches)

-- so many of so many requests, with what they weigh of all
abbrev pub share_text : (finds bytes asks all : ℕ) → List ℕ
share_text finds bytes asks all =
    codes "," ++ (decimal finds ++ (codes "," ++ (decimal bytes ++ (codes "," ++ (percent_text (hundredths finds asks) ++ (codes "," ++ percent_text (hundredths bytes all)))))))

abbrev pub timed_row : ℕ → Totals → CurveRow → FreshRow → HeldRow → List ℕ
timed_row caches t r f h =
    limit_text caches r.limit ++ (share_text r.finds r.bytes t.asks t.bytes ++ (share_text f.finds f.bytes t.asks t.bytes ++ (held_timed_text h ++ codes "\n")))

abbrev pub timed_rows : ℕ → Totals → List CurveRow → List FreshRow → List HeldRow → List ℕ
timed_rows caches t [] fresh held = []
timed_rows caches t (r ∷ rows) [] held = []
timed_rows caches t (r ∷ rows) (f ∷ fresh) [] = []
timed_rows caches t (r ∷ rows) (f ∷ fresh) (h ∷ held) = timed_row caches t r f h ++ timed_rows caches t rows fresh held

abbrev pub lifetime_text : Option ℕ → List ℕ
lifetime_text None = codes " ttl="
lifetime_text (Some lifetime) = codes " ttl=" ++ decimal lifetime

unfoldable pub timed_text : Rules → Option Part → List CurveRow → List FreshRow → List HeldRow → Totals → ℕ → LineCounts → List ℕ
timed_text by part rows fresh held t entries n =
    timed_head ++ (timed_rows (caches_of part) t rows fresh held
    ++ ((requests_text t entries ++ (lines_text by.is_sample t n ++ (lifetime_text by.lifetime ++ part_text by n part))) ++ kind_text part t.odd))
