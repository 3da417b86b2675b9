-- The text of a directive's name, and the key that it has.
use Rattle.std.specs.Prelude.{◌≡◌, List, [], ◌∷◌, ℕ, Bool, true, false, Option, codes, string_bytes, nat_eq}
use Rattle.std.specs.List.{list_any, position}
use Rattle.std.specs.Cmp.Lexicographic.{pointwise}
use Rattle.head_directives.specs.declared.key.DirectiveKey.{DirectiveKey}
use Rattle.head_directives.specs.declared.key.DirectiveKey.TheVariants.{MaxAge, SMaxAge, NoCache, NoStore, Private, Public, MustRevalidate, ProxyRevalidate, MustUnderstand, NoTransform, Immutable, StaleWhileRevalidate, StaleIfError, OnlyIfCached, Unknown}

abbrev pub name_of : DirectiveKey → List ℕ
name_of MaxAge = codes "max-age"
name_of SMaxAge = codes "s-maxage"
name_of NoCache = codes "no-cache"
name_of NoStore = codes "no-store"
name_of Private = codes "private"
name_of Public = codes "public"
name_of MustRevalidate = codes "must-revalidate"
name_of ProxyRevalidate = codes "proxy-revalidate"
name_of MustUnderstand = codes "must-understand"
name_of NoTransform = codes "no-transform"
name_of Immutable = codes "immutable"
name_of StaleWhileRevalidate = codes "stale-while-revalidate"
name_of StaleIfError = codes "stale-if-error"
name_of OnlyIfCached = codes "only-if-cached"
name_of (Unknown text) = string_bytes text

-- the names that have a variant of their own
abbrev pub own_names : List (List ℕ)
own_names =
    codes "max-age"
    ∷ codes "s-maxage"
    ∷ codes "no-cache"
    ∷ codes "no-store"
    ∷ codes "private"
    ∷ codes "public"
    ∷ codes "must-revalidate"
    ∷ codes "proxy-revalidate"
    ∷ codes "must-understand"
    ∷ codes "no-transform"
    ∷ codes "immutable"
    ∷ codes "stale-while-revalidate"
    ∷ codes "stale-if-error"
    ∷ codes "only-if-cached"
    ∷ []

-- the place of a name among them
abbrev pub place_of : List ℕ → Option ℕ
place_of name = position (λ own. pointwise nat_eq name own) own_names

unfoldable pub has_own_variant : List ℕ → Bool
has_own_variant name = list_any (λ own. pointwise nat_eq name own) own_names

-- a name that has a variant of its own is that variant
abbrev pub IsOwnKey : DirectiveKey → Type 0
IsOwnKey (Unknown text) = has_own_variant (string_bytes text) ≡ false
IsOwnKey known = Unit {0}

-- it has no variant of its own
abbrev pub is_unknown : DirectiveKey → Bool
is_unknown (Unknown text) = true
is_unknown known = false
