-- What is known of the names that have a variant of their own.
use Rattle.std.specs.Prelude.{◌≡◌, ℕ, List, length, Option, Some, None, option_map, slice_index_or}
use Rattle.std.specs.Borrow.{Bor}
use Rattle.head_directives.specs.Written.{Written}
use Rattle.head_directives.specs.Names.{place_of}
use Rattle.head_directives.specs.Keeps.{value_named}
use Rattle.head_directives.specs.declared.known.KnownDirectives.{KnownDirectives}

-- what is said in one place
abbrev pub said_in : Option (Option (Bor (List ℕ))) → Option (Option (List ℕ))
said_in said = option_map (λ o. option_map (λ v. v.now) o) said

-- there are fourteen places, and in that of each name that has one stands what the directives have under it
abbrev pub KnowsBy : List (Option (Option (Bor (List ℕ)))) → List Written → Type 0
KnowsBy said ds = (length said ≡ 14) × ((name : List ℕ) (place : ℕ) → place_of name ≡ Some place → said_in (slice_index_or said place None) ≡ value_named name ds)

abbrev pub Knows : KnownDirectives → List Written → Type 0
Knows known ds = KnowsBy known.said ds
