-- The one list of directives that a line holds, as a function of its bytes. `Reads` says what it means.
use Rattle.std.specs.Prelude.{ℕ, suc, zero, ◌+◌, ◌-◌, Bool, true, false, ◌||◌, ◌&&◌, ◌==◌, if◌then◌else◌, List, [], ◌∷◌, length, take, drop, Option, Some, None, option_map}
use Rattle.std.specs.List.{prefix_len}
use Rattle.head_directives.specs.Kinds.{is_space, is_separator, is_token}
use Rattle.head_directives.specs.Written.{Written}

-- how many bytes there are up to the closing quote, with it
abbrev pub close : Bool → List ℕ → Option ℕ
close escaped [] = None
close true (b ∷ bytes) = if b == 10 then None else option_map suc (close false bytes)
close false (b ∷ bytes) = if b == 34 then Some 1 else option_map suc (close (b == 92) bytes)

-- the value after `=`
abbrev pub value_at : List ℕ → Option (List ℕ)
value_at [] = None
value_at (b ∷ bytes) =
    if b == 34 then option_map (λ n. 34 ∷ take n bytes) (close false bytes)
    else (if is_token b then Some (take (prefix_len is_token (b ∷ bytes)) (b ∷ bytes)) else None)

-- the value after a name
abbrev pub value_after : List ℕ → Option (List ℕ)
value_after [] = None
value_after (b ∷ bytes) = if b == 61 then value_at bytes else None

abbrev pub value_len : Option (List ℕ) → ℕ
value_len None = 0
value_len (Some value) = suc (length value)

-- the directive at the front
unfoldable pub written_at : List ℕ → Written
written_at bytes = let n = prefix_len is_token bytes in (take n bytes, value_after (drop n bytes))

abbrev pub written_len : Written → ℕ
written_len d = length d.0 + value_len d.1

-- `skip` counts bytes of a directive already found; where `ready`, a name may begin here
abbrev pub walk : ℕ → Bool → List ℕ → List Written
walk skip ready [] = []
walk (suc skip) ready (b ∷ bytes) = walk skip false bytes
walk zero ready (b ∷ bytes) =
    if ready && is_token b then written_at (b ∷ bytes) ∷ walk (written_len (written_at (b ∷ bytes)) - 1) false bytes
    else walk 0 (is_separator b || (ready && is_space b)) bytes

abbrev pub begins_token : List ℕ → Bool
begins_token [] = false
begins_token (b ∷ bytes) = is_token b

abbrev pub directives : List ℕ → List Written
directives line = walk 0 (begins_token line) line
