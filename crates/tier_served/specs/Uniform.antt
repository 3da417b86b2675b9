-- Uniform requests: what their responses give is stored, each stored key has one entry, and its bodies one weight.
use Rattle.std.specs.Prelude.{◌≡◌, ◌≤◌, ℕ, List, [], ◌∷◌, length, Option, Some, None}
use Rattle.std.specs.List.{AllByRecursion}
use Rattle.cache_words.specs.Time.{MomentValue}
use Rattle.httparse.specs.Grammar.{ResponseHead, ReadsResponse}
use Rattle.head_parse.specs.Response.{Reading, IsReading}
use Rattle.tier_model.specs.declared.whole.PutVerdict.{PutVerdict}
use Rattle.tier_model.specs.declared.whole.PutVerdict.TheVariants.{Stored}
use Rattle.tier_model.specs.Keys.{Entry, entry_of}
use Rattle.tier_model.specs.Response.{whole_of}
use Rattle.tier_loads.specs.Requests.{PlainRequest, asks, purges}
use Rattle.tier_loads.specs.Uniform.{AreAlike}
use Rattle.tier_served.specs.declared.request.Request.{Request}
use Rattle.tier_served.specs.declared.request.Method.{Method}
use Rattle.tier_served.specs.declared.request.Method.TheVariants.{Get, Purge}

-- a request for a body that a response gives, where it is stored
abbrev pub asks_for : Entry → PutVerdict → Option PlainRequest
asks_for e (Stored body) = Some (asks (record { entry = e; body = body }))
asks_for e _ = None

abbrev pub IsSeenBy : MomentValue → Entry → Method → Option PlainRequest → Type 0
IsSeenBy moment e (Get response) seen = (r : Reading) × IsReading response r × (seen ≡ asks_for e (whole_of moment r))
IsSeenBy moment e Purge seen = seen ≡ Some (purges e)

-- what a request asks for, by a reading of its response: nothing where the response isn't whole, or isn't kept
abbrev pub IsSeenAs : Request → Option PlainRequest → Type 0
IsSeenAs r seen = IsSeenBy r.moment (entry_of r.key) r.method seen

abbrev pub AreSeenAs : List Request → List (Option PlainRequest) → Type 0
AreSeenAs [] [] = Unit {0}
AreSeenAs (r ∷ requests) (s ∷ seen) = IsSeenAs r s × AreSeenAs requests seen
AreSeenAs _ _ = ⊥

abbrev pub IsAlike : PlainRequest → Option PlainRequest → Type 0
IsAlike p None = Unit {0}
IsAlike p (Some q) = AreAlike p q

-- each request asks for a body that is stored, or purges; and any two of them are alike: of one stored key, they are of one entry and, where both
-- ask, of one weight
abbrev pub IsUniform : List (Option PlainRequest) → Type 0
IsUniform [] = Unit {0}
IsUniform (None ∷ seen) = ⊥
IsUniform (Some p ∷ seen) = AllByRecursion (IsAlike p) seen × IsUniform seen

-- ---- plain heads

abbrev pub IsPlainBy : Method → Type 0
IsPlainBy (Get response) = (h : ResponseHead) × (rest : List ℕ) × ReadsResponse response h rest × (length h.fields ≤ 256)
IsPlainBy Purge = Unit {0}

-- the response begins with a head that the parser's default options read, of at most 256 lines: it has one reading
abbrev pub IsPlain : Request → Type 0
IsPlain r = IsPlainBy r.method
