-- Requests: their entries, and the steps of a cache that they are.
use Rattle.cache_words.specs.Time.{MomentValue}
use Rattle.cache_entries.specs.declared.entry.CacheEntryKey.{CacheEntryKey}
use Rattle.curve_loads.specs.Steps.{Step, asks, removes}
use Rattle.tier_model.specs.Keys.{alone, entry_of}
use Rattle.tier_model.specs.declared.event.Event.{Event}
use Rattle.tier_model.specs.declared.event.Action.{Action}
use Rattle.tier_served.specs.declared.request.Request.{Request}
use Rattle.tier_served.specs.declared.request.Method.{Method}
use Rattle.tier_served.specs.declared.request.Method.TheVariants.{Get, Purge}

abbrev pub event_at : MomentValue → Action → Event
event_at moment action = record { moment = moment; action = action }

-- the entry that the order of use has of the request's key
abbrev pub entry_for : Request → CacheEntryKey
entry_for r = alone (entry_of r.key)

abbrev pub step_by : CacheEntryKey → Method → Step
step_by e (Get response) = asks e
step_by e Purge = removes e

-- a get asks for its entry, and a purge removes it
abbrev pub step_for : Request → Step
step_for r = step_by (entry_for r) r.method
