-- The names that count in a plain request, with their kinds.
use Rattle.std.proofs.Common.{◌≡◌, ℕ, ◌==◌, cond, Bool, true, false, List, [], ◌∷◌, length, refl}
use Rattle.std.specs.Prelude.{bytes_eq, codes, filter}
use Rattle.rules_fields.specs.Tables.{among, hop, asked}
use Rattle.rules_quick.specs.Plain.{watched}
use Rattle.rules_quick.specs.Kinds.{found, kind_of}
use Rattle.rules_quick.specs.declared.names.Kind.{Kind}
use Rattle.rules_quick.specs.declared.names.Kind.TheVariants.{Kept, Asked, Hop, Connection, Host, Watched}
use Rattle.rules_quick.proofs.ByLength.{AllSay, absent, none_among, not_named, by_length}

abbrev pub table : List (List ℕ × Kind)
table =
    (codes "te", Watched) ∷ (codes "host", Host) ∷ (codes "range", Asked) ∷ (codes "close", Watched) ∷ (codes "pragma", Watched) ∷ (codes "expect", Watched)
    ∷ (codes "upgrade", Hop) ∷ (codes "if-range", Asked) ∷ (codes "if-match", Watched) ∷ (codes "connection", Connection) ∷ (codes "keep-alive", Hop)
    ∷ (codes "cache-control", Watched) ∷ (codes "if-none-match", Asked) ∷ (codes "authorization", Asked) ∷ (codes "content-length", Watched)
    ∷ (codes "http2-settings", Hop) ∷ (codes "proxy-connection", Hop) ∷ (codes "if-modified-since", Asked) ∷ (codes "transfer-encoding", Watched)
    ∷ (codes "proxy-authenticate", Hop) ∷ (codes "if-unmodified-since", Watched) ∷ (codes "proxy-authorization", Hop)
    ∷ (codes "proxy-authentication-info", Hop) ∷ []

pick_kept : (w h c p q : Bool) → w ≡ false → h ≡ false → c ≡ false → p ≡ false → q ≡ false
    → cond w Watched (cond h Host (cond c Connection (cond p Hop (cond q Asked Kept)))) ≡ Kept
pick_kept w h c p q a b d e f = rw (a, b, d, e, f) refl

-- a name that the table doesn't have is kept
kept_if_absent : (name : List ℕ) → absent name table ≡ true → kind_of name ≡ Kept
kept_if_absent name a =
    pick_kept (among watched name) (bytes_eq name (codes "host")) (bytes_eq name (codes "connection")) (among hop name) (among asked name)
    (none_among table name watched refl a) (not_named table name (codes "host") refl a) (not_named table name (codes "connection") refl a)
    (none_among table name hop refl a) (none_among table name asked refl a)

table_says : AllSay kind_of table
table_says =
    (refl, (refl, (refl, (refl, (refl, (refl, (refl, (refl, (refl, (refl, (refl, (refl, (refl, (refl, (refl, (refl, (refl, (refl, (refl, (refl, (refl, (refl, (refl, tt)))))))))))))))))))))))

-- the rows of a name's length say its kind
pub kind_by_length : (name : List ℕ) (n : ℕ) → length name ≡ n → found Kept name (filter (λ r. length r.0 == n) table) ≡ kind_of name
kind_by_length name n e = by_length kind_of Kept table table_says kept_if_absent name n e
