-- The names that count in a plain response, with their kinds.
use Rattle.std.proofs.Common.{◌≡◌, ℕ, ◌==◌, cond, Bool, true, false, List, [], ◌∷◌, length, refl}
use Rattle.std.specs.Prelude.{bytes_eq, codes, filter}
use Rattle.rules_fields.specs.Tables.{among, hop}
use Rattle.rules_quick.specs.PlainResponses.{watched}
use Rattle.rules_quick.specs.Kinds.{found}
use Rattle.rules_quick.specs.ResponseKinds.{kind_of}
use Rattle.rules_quick.specs.declared.response_names.Kind.{Kind}
use Rattle.rules_quick.specs.declared.response_names.Kind.TheVariants.{Kept, Date, Length, Coding, Connection, Hop, Watched}
use Rattle.rules_quick.proofs.ByLength.{AllSay, absent, none_among, not_named, by_length}

abbrev pub table : List (List ℕ × Kind)
table =
    (codes "te", Hop) ∷ (codes "via", Watched) ∷ (codes "date", Date) ∷ (codes "close", Watched) ∷ (codes "upgrade", Hop) ∷ (codes "connection", Connection)
    ∷ (codes "keep-alive", Hop) ∷ (codes "content-length", Length) ∷ (codes "http2-settings", Hop) ∷ (codes "proxy-connection", Hop)
    ∷ (codes "transfer-encoding", Coding) ∷ (codes "proxy-authenticate", Hop) ∷ (codes "proxy-authorization", Hop)
    ∷ (codes "proxy-authentication-info", Hop) ∷ []

pick_kept : (w d l t c p : Bool) → w ≡ false → d ≡ false → l ≡ false → t ≡ false → c ≡ false → p ≡ false
    → cond w Watched (cond d Date (cond l Length (cond t Coding (cond c Connection (cond p Hop Kept))))) ≡ Kept
pick_kept w d l t c p a b e f g h = rw (a, b, e, f, g, h) refl

-- a name that the table doesn't have is kept
kept_if_absent : (name : List ℕ) → absent name table ≡ true → kind_of name ≡ Kept
kept_if_absent name a =
    pick_kept (among watched name) (bytes_eq name (codes "date")) (bytes_eq name (codes "content-length")) (bytes_eq name (codes "transfer-encoding")) (bytes_eq name (codes "connection")) (among hop name)
    (none_among table name watched refl a) (not_named table name (codes "date") refl a) (not_named table name (codes "content-length") refl a)
    (not_named table name (codes "transfer-encoding") refl a) (not_named table name (codes "connection") refl a) (none_among table name hop refl a)

table_says : AllSay kind_of table
table_says = (refl, (refl, (refl, (refl, (refl, (refl, (refl, (refl, (refl, (refl, (refl, (refl, (refl, (refl, tt))))))))))))))

-- the rows of a name's length say its kind
pub kind_by_length : (name : List ℕ) (n : ℕ) → length name ≡ n → found Kept name (filter (λ r. length r.0 == n) table) ≡ kind_of name
kind_by_length name n e = by_length kind_of Kept table table_says kept_if_absent name n e
