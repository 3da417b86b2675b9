-- The bounds of a gateway, and its times.
use Rattle.std.specs.Prelude.{ℕ, ◌*◌, ◌-◌, ◌^◌, max, min}
use Rattle.gateway_steps.specs.declared.state.Timeouts.{Timeouts}
use Rattle.gateway_exchanges.specs.declared.limits.Limits.{Limits}

-- 256 MiB; bodies of 16 MiB, of whose longer ones 1 MiB, and of what is relayed 128 KiB stand for a client that is slow
abbrev pub usual_limits : Limits
usual_limits = record {
  max_bytes = 2 ^ 28;
  lock_age = 10;
  lock_timeout = 60;
  max_exchanges = 4096;
  max_body_bytes = 2 ^ 24;
  max_tail = 2 ^ 20;
  max_relay_bytes = 2 ^ 17;
  max_unread = 2 ^ 24;
  max_interim_responses = 16;
  first_byte_timeout = 60;
  between_bytes_timeout = 60;
  max_predicted = 1024;
  predicted_seconds = 120;
}

abbrev pub each_at_least_one : Limits → Limits
each_at_least_one limits = record {
  max_bytes = max limits.max_bytes 1;
  lock_age = max limits.lock_age 1;
  lock_timeout = max limits.lock_timeout 1;
  max_exchanges = max limits.max_exchanges 1;
  max_body_bytes = max limits.max_body_bytes 1;
  max_tail = max limits.max_tail 1;
  max_relay_bytes = max limits.max_relay_bytes 1;
  max_unread = max limits.max_unread 1;
  max_interim_responses = max limits.max_interim_responses 1;
  first_byte_timeout = max limits.first_byte_timeout 1;
  between_bytes_timeout = max limits.between_bytes_timeout 1;
  max_predicted = max limits.max_predicted 1;
  predicted_seconds = max limits.predicted_seconds 1;
}

-- seconds as nanoseconds, as far as they fit in 64 bits
abbrev pub nanoseconds_in : ℕ → ℕ
nanoseconds_in seconds = min (seconds * 1000000000) (2 ^ 64 - 1)

abbrev pub timeouts_by : Limits → Timeouts
timeouts_by limits = record {
  first_byte = nanoseconds_in limits.first_byte_timeout;
  between_bytes = nanoseconds_in limits.between_bytes_timeout;
  lock_age = nanoseconds_in limits.lock_age;
  lock_timeout = nanoseconds_in limits.lock_timeout;
}
