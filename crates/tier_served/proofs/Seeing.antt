-- What is seen of a request.
use Rattle.std.proofs.Common.{◌≡◌, ℕ, List, Option, Some, None, refl, ap, sym, ◌∙◌, subst}
use Rattle.std.specs.Prelude.{option_map}
use Rattle.head_parse.specs.Response.{Reading, IsReading}
use Rattle.cache_words.specs.Key.{Key, CacheKeyValue, key_of}
use Rattle.cache_words.specs.CompactKey.{compact_view}
use Rattle.cache_entries.specs.declared.entry.CacheEntryKey.{CacheEntryKey}
use Rattle.tier_model.specs.declared.whole.PutVerdict.{PutVerdict}
use Rattle.tier_model.specs.declared.whole.PutVerdict.TheVariants.{Stored, Uncacheable as NotKept, Incomplete, BadHead, BeforeEpoch}
use Rattle.tier_model.specs.Keys.{Entry, entry_of, alone}
use Rattle.tier_model.specs.Response.{whole_of}
use Rattle.tier_loads.specs.Requests.{PlainRequest, purges}
use Rattle.tier_served.specs.Uniform.{asks_for, IsSeenBy, IsSeenAs}
use Rattle.tier_served.specs.Known.{shown, stored_weight}
use Rattle.tier_served.specs.declared.seen.Seen.{Seen}
use Rattle.tier_served.specs.declared.request.Request.{Request}
use Rattle.tier_served.specs.declared.request.Method.{Method}
use Rattle.tier_served.specs.declared.request.Method.TheVariants.{Get, Purge}

-- a key as it is kept is the one that it was made from
entry-is : (c : Entry) (k : CacheKeyValue) → compact_view c ≡ key_of k → c ≡ entry_of k
entry-is c k h = ap (λ (x : Key). record { primary = x.primary; variance = x.variance; user_tag = x.user_tag }) h

abbrev pub the_seen : CacheEntryKey → Option ℕ → Seen
the_seen e n = record { entry = e; weight = n }

-- what is seen of a response, by what the body weighs that is stored
abbrev pub seen_as : CacheEntryKey → Option ℕ → Option Seen
seen_as e n = option_map (λ k. the_seen e (Some k)) n

asked-shown : (e : Entry) (w : PutVerdict) → seen_as (alone e) (stored_weight w) ≡ option_map shown (asks_for e w)
asked-shown e (Stored body) = refl
asked-shown e (NotKept reason) = refl
asked-shown e Incomplete = refl
asked-shown e BadHead = refl
asked-shown e BeforeEpoch = refl

module _ (r : Request) (c : Entry) (e : CacheEntryKey) (kept : compact_view c ≡ key_of r.key) (is_alone : e ≡ alone c) where
  entry : e ≡ alone (entry_of r.key)
  entry = is_alone ∙ ap alone (entry-is c r.key kept)

  pub seen-purge : r.method ≡ Purge → (p : Option PlainRequest) × IsSeenAs r p × (Some (the_seen e None) ≡ option_map shown p)
  seen-purge is = (
    Some (purges (entry_of r.key)),
    subst (λ (m : Method). IsSeenBy r.moment (entry_of r.key) m (Some (purges (entry_of r.key)))) (sym is) refl,
    ap (λ (x : CacheEntryKey). Some (the_seen x None)) entry,
  )

  pub seen-get : (response : List ℕ) (n : Option ℕ) → r.method ≡ Get response → (x : Reading) × IsReading response x × (n ≡ stored_weight (whole_of r.moment x))
      → (p : Option PlainRequest) × IsSeenAs r p × (seen_as e n ≡ option_map shown p)
  seen-get response n is s =
      let p : Option PlainRequest = asks_for (entry_of r.key) (whole_of r.moment s.0) in (
        p,
        subst (λ (m : Method). IsSeenBy r.moment (entry_of r.key) m p) (sym is) (s.0, s.1, refl),
        ap (λ (x : CacheEntryKey). seen_as x n) entry ∙ ap (λ (k : Option ℕ). seen_as (alone (entry_of r.key)) k) s.2 ∙ asked-shown (entry_of r.key) (whole_of r.moment s.0),
      )
