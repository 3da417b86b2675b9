-- What others at a key are told as a write begins there.
use Rattle.std.specs.Prelude.{◌≡◌, ◌⊎◌, ◌++◌, ◌∷◌, [], ℕ, Bool, is_some, find, List, Some, MatchBool}
use Rattle.gateway_rules.specs.Options.{Options}
use Rattle.gateway_exchanges.specs.declared.exchange.Exchange.{Exchange}
use Rattle.gateway_exchanges.specs.declared.outs.Event.{Event}
use Rattle.gateway_exchanges.specs.declared.outs.Out.{Out}
use Rattle.gateway_exchanges.specs.Replies.{reply_of}
use Rattle.gateway_exchanges.specs.Tables.{Exchanges, numbers_at}
use Rattle.gateway_tier.specs.declared.notices.Notice.{Notice}
use Rattle.gateway_tier.specs.declared.waking.Role.{Role}
use Rattle.gateway_tier.specs.Notices.{AreTold, AreEachTold}
use Rattle.gateway_tier.specs.Roles.{plays}
use Rattle.gateway_tier.specs.Superseding.{earlier_at}

-- another's write is found there
abbrev pub has_writer : List ℕ → Exchanges → Bool
has_writer key t = is_some (find (plays Role.IsJoinable key t) (numbers_at key t))

-- such a write isn't found any more
abbrev pub IsWriterHidden : List ℕ → Exchanges → Exchanges → Type 0
IsWriterHidden key old new = MatchBool (has_writer key old) (AreTold Notice.WriteHidden key old new) (new ≡ old)

-- what those at the place validate is replaced, what went earlier won't replace that, and who waits there looks again
pub record AreToldOfWrite (place earlier : List ℕ) (old new : Exchanges) : Type 0 where
  pub replaced : Exchanges
  pub superseded : Exchanges
  pub replaces : AreTold Notice.Replaced place old replaced
  pub supersedes : AreEachTold Notice.Superseded earlier replaced superseded
  pub moves : AreTold Notice.WriteBegun place superseded new

-- a write begins at a place: one that was found there isn't any more, and the others are told
pub record BeginsAt (place earlier : List ℕ) (old new : Exchanges) : Type 0 where
  pub hidden : Exchanges
  pub hides : IsWriterHidden place old hidden
  pub tells : AreToldOfWrite place earlier hidden new

-- the tier has a new head for what is stored, and those at its key are told; or it has none, and nobody is
abbrev pub FreshensAt : List ℕ → ℕ → Exchanges → Exchanges → Out → Out → Type 0
FreshensAt key sequence old new before after =
    ((new ≡ old) × ((reply_of after).events ≡ (reply_of before).events))
    ⊎ (AreTold (Notice.Freshened sequence) key old new × ((reply_of after).events ≡ (reply_of before).events ++ Event.Freshened key ∷ []))

-- an exchange writes under its key from then on, and those there are told as of what it is
abbrev pub BeginsFrom : Options → Exchange → Exchanges → Type 0
BeginsFrom o e new = (key : List ℕ) × (before : Exchanges) × (e.key ≡ Some key) × BeginsAt key (earlier_at o e key before) before new
