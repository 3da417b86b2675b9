-- Where a head ends (RFC 9112, 2.1): behind the first empty line that follows one which isn't. Bytes are numbers: 10 a LF, 13 a CR.
use Rattle.std.specs.Prelude.{ℕ, ◌+◌, Bool, false, not, ◌&&◌, ◌==◌, if◌then◌else◌, List, [], ◌∷◌, take, drop, reverse, Option, Some, None}

-- what stands in front of a LF, read backwards, is a line that isn't empty
abbrev pub is_filled_line : List ℕ → Bool
is_filled_line [] = false
is_filled_line (b ∷ []) = not (b == 10) && not (b == 13)
is_filled_line (b ∷ c ∷ before) = not (b == 10) && not (b == 13 && c == 10)

abbrev pub after_filled_line : List ℕ → Bool
after_filled_line [] = false
after_filled_line (b ∷ before) = b == 10 && is_filled_line before

-- what stands in front of a LF, read backwards, is an empty line behind one that isn't
abbrev pub ends_head : List ℕ → Bool
ends_head [] = false
ends_head (b ∷ before) = if b == 10 then is_filled_line before else b == 13 && after_filled_line before

-- the first place behind n where a head ends: `passed` is what stands in front, read backwards
abbrev pub end_from : ℕ → List ℕ → List ℕ → Option ℕ
end_from n passed [] = None
end_from n passed (b ∷ text) = if b == 10 && ends_head passed then Some (n + 1) else end_from (n + 1) (b ∷ passed) text

-- the first place behind `from`
abbrev pub end_behind : ℕ → List ℕ → Option ℕ
end_behind from bytes = end_from from (reverse (take from bytes)) (drop from bytes)

abbrev pub head_end : List ℕ → Option ℕ
head_end bytes = end_from 0 [] bytes
