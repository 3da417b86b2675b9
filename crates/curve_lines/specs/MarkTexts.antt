-- The rows by moments: what was found so far.
use Rattle.std.specs.Prelude.{ℕ, List, [], ◌∷◌, ◌++◌, codes, Option, Some, None}
use Rattle.std.specs.List.{flat_map}
use Rattle.std.specs.Fmt.{decimal}
use Rattle.curve_sizes.specs.declared.row.CurveRow.{CurveRow}
use Rattle.curve_held.specs.declared.row.HeldRow.{HeldRow}
use Rattle.curve_timed.specs.declared.row.FreshRow.{FreshRow}
use Rattle.curve_timed.specs.declared.every.Every.{Every}
use Rattle.curve_timed.specs.declared.marks.Mark.{Mark}
use Rattle.curve_lines.specs.HeldTexts.{optional_text}
use Rattle.curve_lines.specs.TimedTexts.{limit_text}

abbrev pub marks_head : List ℕ
marks_head = codes "interval_end,size,requests,request_bytes,hits,hit_bytes,fresh_hits,fresh_hit_bytes,lru_victim_used_at\n"

-- the moment and the limit, and of the requests before it how many ask and what their entries weigh
abbrev pub mark_front : ℕ → Mark → ℕ → List ℕ
mark_front caches m limit = decimal m.at ++ (codes "," ++ (limit_text caches limit ++ (codes "," ++ (decimal m.asks ++ (codes "," ++ decimal m.bytes)))))

-- what is found of them, and found fresh
abbrev pub mark_found : CurveRow → FreshRow → List ℕ
mark_found r f = codes "," ++ (decimal r.finds ++ (codes "," ++ (decimal r.bytes ++ (codes "," ++ (decimal f.finds ++ (codes "," ++ decimal f.bytes))))))

-- the least moment at which an entry was asked for last that is held after them
abbrev pub mark_oldest : HeldRow → List ℕ
mark_oldest r = codes "," ++ (optional_text r.oldest ++ codes "\n")

abbrev pub mark_row : ℕ → Mark → CurveRow → FreshRow → HeldRow → List ℕ
mark_row caches m r f own = mark_front caches m r.limit ++ (mark_found r f ++ mark_oldest own)

abbrev pub mark_rows : ℕ → Mark → List CurveRow → List FreshRow → List HeldRow → List ℕ
mark_rows caches m [] fresh owns = []
mark_rows caches m (r ∷ rows) [] owns = []
mark_rows caches m (r ∷ rows) (f ∷ fresh) [] = []
mark_rows caches m (r ∷ rows) (f ∷ fresh) (own ∷ owns) = mark_row caches m r f own ++ mark_rows caches m rows fresh owns

abbrev pub mark_text : ℕ → Mark → List ℕ
mark_text caches m = mark_rows caches m m.rows.items m.fresh.items m.held.items

-- the rows of all moments, where spans have a length
abbrev pub marks_text : Option Every → ℕ → List Mark → List ℕ
marks_text None caches marks = []
marks_text (Some every) caches marks = marks_head ++ flat_map (mark_text caches) marks
