-- The head that stands for a response that may not be stored is read as one, and judged so.
use lib.Utf8.{encode}
use Rattle.std.proofs.Common.{◌≡◌, ◌≤◌, ◌∷◌, [], refl, None, Some, arith, length}
use Rattle.std.specs.Prelude.{codes}
use Rattle.std.specs.Char.{is_ascii_digit}
use Rattle.std.specs.Str.{is_utf8, chars}
use Rattle.std.proofs.lemmas.List.Elements.{All-cons, All-nil}
use Rattle.std.proofs.lemmas.List.Sums.{AllPass-from_list_all}
use Rattle.cache_words.specs.Time.{MomentValue}
use Rattle.cache_heads.specs.declared.reason.NoCacheReason.TheVariants.{OriginNotCache}
use Rattle.head_directives.specs.Kinds.{is_token}
use Rattle.head_directives.specs.Walk.{written_at}
use Rattle.httparse.specs.Grammar.{ResponseHead, Field, crlf, ReadsResponse, IsField, is_token_byte, is_value_byte, trim_ows}
use Rattle.httparse.proofs.OnLiterals.{httparse_on_literals}
use Rattle.head_parse.proofs.ReadingLaws.{reading-whole}
use Rattle.head_parse.specs.Response.{Reading, IsReading, head_of}
use Rattle.tier_model.specs.Response.{not_kept, judged_alone}
use Rattle.tier_model.specs.NoStore.{no_store_head}

abbrev line : Field
line = record { name = codes "Cache-Control"; raw = codes " no-store"; end = crlf }

abbrev head : ResponseHead
head = record { blank = []; minor = 1; digits = codes "200"; reason = Some (codes "OK"); line_end = crlf; fields = line ∷ []; last = crlf }

line_is : IsField line
unfolding httparse_on_literals
line_is = record {
  name = (omega arith, AllPass-from_list_all is_token_byte (codes "Cache-Control") refl);
  raw = AllPass-from_list_all is_value_byte (codes " no-store") refl;
}

reads : ReadsResponse no_store_head head []
unfolding httparse_on_literals
reads = (
  record {
    minor = omega arith;
    digits = (refl, AllPass-from_list_all is_ascii_digit (codes "200") refl);
    reason = AllPass-from_list_all is_value_byte (codes "OK") refl;
    fields = All-cons IsField line [] line_is (All-nil IsField);
  },
  refl,
)

few : length head.fields ≤ 256
few = omega arith

pub not-stored : (t : MomentValue) → (r : Reading) × IsReading no_store_head r × (judged_alone None t (head_of r) ≡ not_kept OriginNotCache)
unfolding trim_ows is_token written_at is_utf8 chars encode
not-stored t = (_, reading-whole no_store_head head [] reads few, refl)
