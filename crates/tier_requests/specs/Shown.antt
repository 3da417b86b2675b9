-- The meta of what is found.
use Rattle.std.specs.Prelude.{Option, Some, None}
use Rattle.cache_heads.specs.declared.meta.CacheMeta.{CacheMeta}
use Rattle.tier_model.specs.declared.event.TierFault.{TierFault}
use Rattle.tier_model.specs.Shelf.{Shelf, Look, absent, in_flight, finished}
use Rattle.tier_model.specs.State.{Request}
use Rattle.tier_model.specs.Checks.{look_refusal}
use Rattle.tier_model.specs.Answers.{look_for}

-- of a write in flight that of its head, of a finished body the one that is stored with it
abbrev pub meta_found : Look → Option CacheMeta
meta_found absent = None
meta_found (in_flight f) = Some f.meta
meta_found (finished x) = Some x.body.meta

-- the same of what a look-up of a request finds; none where it isn't allowed
abbrev pub unless_refused : Option TierFault → Option CacheMeta → Option CacheMeta
unless_refused None found = found
unless_refused (Some f) found = None

abbrev pub meta_for_look : Request → Shelf → Option CacheMeta
meta_for_look q shelf = unless_refused (look_refusal q) (meta_found (look_for q shelf))
