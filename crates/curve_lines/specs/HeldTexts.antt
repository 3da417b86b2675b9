-- What a cache holds, as columns.
use Rattle.std.specs.Prelude.{ℕ, List, [], ◌++◌, codes, Option, Some, None, option_map}
use Rattle.std.specs.Fmt.{decimal}
use Rattle.curve_held.specs.declared.row.HeldRow.{HeldRow}

-- a number, if there is one
abbrev pub optional_text : Option ℕ → List ℕ
optional_text None = []
optional_text (Some n) = decimal n

-- how many entries there are, and how many requests asked up to the first that put an entry out
abbrev pub held_text : HeldRow → List ℕ
held_text r = codes "," ++ (decimal r.entries ++ (codes "," ++ optional_text (option_map (λ f. f.asks) r.full)))

-- how many entries there are, the moment of the first request that put an entry out, and the least moment at which an entry was asked for last
abbrev pub held_timed_text : HeldRow → List ℕ
held_timed_text r =
    codes "," ++ (decimal r.entries ++ (codes "," ++ (optional_text (option_map (λ f. f.moment) r.full) ++ (codes "," ++ optional_text r.oldest))))
