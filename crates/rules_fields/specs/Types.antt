-- What the rules take and give, as plain values.
use Rattle.std.specs.Prelude.{ℕ, ℤ, Bool, true, false, List, [], ◌∷◌, map, codes, Option, Some, option_map}
use Rattle.rules_fields.specs.Fields.{Field, fields}
use Rattle.rules_fields.specs.declared.types.Framing.{Framing}
use Rattle.rules_fields.specs.declared.types.Framing.TheVariants.{Length, HeadLength}
use Rattle.rules_fields.specs.declared.types.StatusLifetime.{StatusLifetime}
use Rattle.rules_fields.specs.declared.types.Options.{Options}
use Rattle.rules_fields.specs.declared.types.Request.{Request}
use Rattle.rules_fields.specs.declared.types.Response.{Response}
use Rattle.rules_fields.specs.declared.types.Kept.{Kept}

-- the length that a framing states
abbrev pub stated : Framing → Option ℕ
stated (Length n) = Some n
stated (HeadLength n) = Some n
stated _ = Option.None

-- what an operator chose
pub record Chosen : Type 0 where
  pub name : List ℕ
  pub scheme : List ℕ
  pub most_head : ℕ
  pub most_target : ℕ
  pub most_lines : ℕ
  pub most_line : ℕ
  pub heeds_requests : Bool
  pub authorized_reads : Bool
  pub stores_cookies : Bool
  pub fills_ranges : Bool
  pub fills_heads : Bool
  pub fills_conditions : Bool
  pub folds_percent : Bool
  pub targeted : List (List ℕ)
  pub heuristic_tenth : Bool
  pub most_heuristic : ℕ
  pub lifetimes : List StatusLifetime
  pub never_stored : List ℕ
  pub stale_while_revalidate : ℕ
  pub stale_if_error : ℕ
  pub stale_if_down : ℕ
  pub s_maxage_lets_stale : Bool
  pub most_ranges : ℕ
  pub drops : List (List ℕ)
  pub hosts : List (List ℕ)
  pub refuses : List (List ℕ)
  pub forwards_for : Bool
  pub secret : List ℕ
  pub origin_host : List ℕ
  pub origin_prefix : List ℕ
  pub trusts_date : Bool
  pub query_drops : List (List ℕ)
  pub query_sorts : Bool
  pub encodings : List (List ℕ)
  pub cookie_keeps : Option (List (List ℕ))
  pub response_drops : List (List ℕ)
  pub forced_lifetimes : List StatusLifetime
  pub forces_private : Bool

abbrev pub chosen : Options → Chosen
chosen o = record {
  name = o.name.now;
  scheme = o.scheme.now;
  most_head = o.most_head;
  most_target = o.most_target;
  most_lines = o.most_lines;
  most_line = o.most_line;
  heeds_requests = o.heeds_requests;
  authorized_reads = o.authorized_reads;
  stores_cookies = o.stores_cookies;
  fills_ranges = o.fills_ranges;
  fills_heads = o.fills_heads;
  fills_conditions = o.fills_conditions;
  folds_percent = o.folds_percent;
  targeted = map (λ n. n.now) o.targeted.now;
  heuristic_tenth = o.heuristic_tenth;
  most_heuristic = o.most_heuristic;
  lifetimes = o.lifetimes.now;
  never_stored = o.never_stored.now;
  stale_while_revalidate = o.stale_while_revalidate;
  stale_if_error = o.stale_if_error;
  stale_if_down = o.stale_if_down;
  s_maxage_lets_stale = o.s_maxage_lets_stale;
  most_ranges = o.most_ranges;
  drops = map (λ n. n.now) o.drops.now;
  hosts = map (λ n. n.now) o.hosts.now;
  refuses = map (λ n. n.now) o.refuses.now;
  forwards_for = o.forwards_for;
  secret = o.secret.now;
  origin_host = o.origin_host.now;
  origin_prefix = o.origin_prefix.now;
  trusts_date = o.trusts_date;
  query_drops = map (λ n. n.now) o.query_drops.now;
  query_sorts = o.query_sorts;
  encodings = map (λ n. n.now) o.encodings.now;
  cookie_keeps = option_map (λ ns. map (λ n. n.now) ns.now) o.cookie_keeps;
  response_drops = map (λ n. n.now) o.response_drops.now;
  forced_lifetimes = o.forced_lifetimes.now;
  forces_private = o.forces_private;
}

-- the statuses that an odd request causes
abbrev pub by_odd_requests : List ℕ
by_odd_requests =
    400 ∷ 405 ∷ 406 ∷ 408 ∷ 411 ∷ 412 ∷ 413 ∷ 414 ∷ 415 ∷ 416 ∷ 417 ∷ 421 ∷ 425 ∷ 426 ∷ 428 ∷ 429 ∷ 431 ∷ 505 ∷ []

-- what holds where an operator chooses nothing
abbrev pub usual : Chosen
usual = record {
  name = codes "cache-tier";
  scheme = codes "http";
  most_head = 65536;
  most_target = 16384;
  most_lines = 250;
  most_line = 8192;
  heeds_requests = true;
  authorized_reads = false;
  stores_cookies = false;
  fills_ranges = true;
  fills_heads = true;
  fills_conditions = true;
  folds_percent = false;
  targeted = codes "cdn-cache-control" ∷ [];
  heuristic_tenth = true;
  most_heuristic = 86400;
  lifetimes = [];
  never_stored = by_odd_requests;
  stale_while_revalidate = 0;
  stale_if_error = 0;
  stale_if_down = 0;
  s_maxage_lets_stale = false;
  most_ranges = 8;
  drops = [];
  hosts = [];
  refuses = codes "CONNECT" ∷ codes "TRACE" ∷ [];
  forwards_for = false;
  secret = [];
  origin_host = [];
  origin_prefix = [];
  trusts_date = true;
  query_drops = [];
  query_sorts = false;
  encodings = [];
  cookie_keeps = Option.None;
  response_drops = [];
  forced_lifetimes = [];
  forces_private = false;
}

-- a request, as it was read
pub record Asked : Type 0 where
  pub method : List ℕ
  pub scheme : List ℕ
  pub host : List ℕ
  pub target : List ℕ
  pub minor : ℕ
  pub lines : List Field
  pub framing : Framing
  pub takes_trailers : Bool

abbrev pub asked_of : Request → Asked
asked_of r = record {
  method = r.method.now;
  scheme = r.scheme.now;
  host = r.host.now;
  target = r.target.now;
  minor = r.minor;
  lines = fields r.lines.now;
  framing = r.framing;
  takes_trailers = r.takes_trailers;
}

-- a response, as it was read
pub record Answered : Type 0 where
  pub status : ℕ
  pub minor : ℕ
  pub lines : List Field
  pub framing : Framing

abbrev pub answered_of : Response → Answered
answered_of p = record { status = p.status; minor = p.minor; lines = fields p.lines.now; framing = p.framing }

-- what is kept of a response
pub record KeptHead : Type 0 where
  pub status : ℕ
  pub lines : List Field
  pub arrival : ℤ
  pub lifetime : ℕ
  pub stale_while_revalidate : ℕ
  pub stale_if_error : ℕ

abbrev pub kept_of : Kept → KeptHead
kept_of k = record {
  status = k.status;
  lines = fields k.lines.now;
  arrival = k.arrival;
  lifetime = k.lifetime;
  stale_while_revalidate = k.stale_while_revalidate;
  stale_if_error = k.stale_if_error;
}
