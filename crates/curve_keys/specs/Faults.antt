-- Why a request or a line isn't counted. Memory may run out whatever else there is.
use Rattle.std.specs.Prelude.{◌≡◌, ◌≢◌, ◌⊎◌, ℕ, ◌+◌, ◌-◌, ◌≤◌, ◌<◌, ◌^◌, true, length}
use Rattle.curve_sizes.specs.declared.fault.CurveFault.{CurveFault}
use Rattle.curve_sizes.specs.declared.fault.CurveFault.TheVariants.{Memory, TooHeavy, TooMany}
use Rattle.curve_keys.specs.Repeats.{asked_once}
use Rattle.curve_keys.specs.Shares.{AreReady, asks_by, says_by, others_by}
use Rattle.curve_keys.specs.declared.repeats.Repeats.{Repeats}
use Rattle.curve_keys.specs.declared.readings.Readings.{Readings}
use Rattle.curve_keys.specs.declared.said.Said.{Said}
use Rattle.curve_keys.specs.declared.said.Said.TheVariants.{Other}

-- it is the first request for a key, or the second, and the keys are spent that are asked for again
abbrev pub IsRepeatFault : Repeats → ℕ → ℕ → CurveFault → Type 0
IsRepeatFault r entry weight Memory = entry ≡ length r.again.items
IsRepeatFault r entry weight TooHeavy = ⊥
IsRepeatFault r entry weight TooMany = (asked_once r entry ≡ true) × ((r.keys ≡ 2 ^ 64 - 1) ⊎ (2 ^ 128 ≤ r.bytes + weight))

-- a line of a part isn't counted: entries weigh too much only where it asks, and one that isn't a request's is never refused
abbrev pub IsLineFault : Said → ℕ → CurveFault → Type 0
IsLineFault said times fault = (said ≢ Other) × (fault ≡ TooHeavy → 0 < asks_by said times)

-- the counts of all parts together are spent
abbrev pub AreSpent : Said → ℕ → Readings → Type 0
AreSpent said times rs = (2 ^ 64 ≤ rs.asked + asks_by said times) ⊎ ((2 ^ 128 ≤ rs.said + says_by said times) ⊎ (2 ^ 64 ≤ rs.others + others_by said))

-- Nothing has changed, as the counts of all parts are spent; or a part couldn't be fed, and then nothing more can be read.
abbrev pub IsFeedFault : Said → ℕ → Readings → Readings → CurveFault → Type 0
IsFeedFault said times old new fault = ((new ≡ old) × (fault ≡ TooMany) × AreSpent said times old) ⊎ ((AreReady new → ⊥) × IsLineFault said times fault)
