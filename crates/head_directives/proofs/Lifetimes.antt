-- A lifetime without `s-maxage` is that of `max-age`.
use Rattle.std.proofs.Common.{◌≡◌, ℕ, Bool, false, List, refl, ◌∙◌, ap, cond}
use Rattle.std.specs.Prelude.{Option, Some, None, option_map}
use Rattle.cache_words.specs.Time.{span_of}
use Rattle.head_directives.specs.Seconds.{delta_seconds, read_seconds}
use Rattle.head_directives.specs.Lifetime.{given_seconds, seconds_in, first_of_two}

given_read : (o : Option (List ℕ)) → given_seconds (read_seconds o) ≡ seconds_in o
given_read None = refl
given_read (Some value) = go (delta_seconds value)
  where
    go : (s : Option ℕ) → given_seconds (option_map Some s) ≡ s
    go None = refl
    go (Some n) = refl

none_read : (o : Option (List ℕ)) (other : Option ℕ) → Some None ≡ read_seconds o → first_of_two o other ≡ other
none_read None other h = refl
none_read (Some value) other h = go (delta_seconds value) h
  where
    go : (s : Option ℕ) → Some None ≡ option_map Some s → s ≡ other
    go None e = cc
    go (Some n) e = cc

pub fresh_by_max_age : (alone : Bool) (s m : Option (List ℕ)) (r : Option (Option ℕ)) → alone ≡ false → Some None ≡ read_seconds s → r ≡ read_seconds m → option_map span_of (given_seconds r) ≡ option_map span_of (cond alone (Some 0) (first_of_two s (seconds_in m)))
fresh_by_max_age alone s m r ha hs hr =
    rw (ha, none_read s (seconds_in m) hs) (ap (λ o. option_map span_of (given_seconds o)) hr ∙ ap (option_map span_of) (given_read m))
