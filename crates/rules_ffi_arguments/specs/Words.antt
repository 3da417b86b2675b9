-- The words of the options. Bytes are numbers: 10 a LF, 32 a space.
use Rattle.std.specs.Prelude.{ℕ, ◌+◌, Bool, true, false, not, ◌&&◌, ◌||◌, ◌==◌, if◌then◌else◌, List, [], ◌∷◌, map, filter, find, codes, bytes_eq, Option, Some, None, option_map, Result, Ok, Err, is_some}
use Rattle.std.specs.List.{list_all}
use Rattle.std.specs.Option.{option_map_or}
use Rattle.httparse.specs.Grammar.{is_token}
use Rattle.rules_fields.specs.Texts.{small, is_filled}
use Rattle.rules_fields.specs.Fields.{Field}
use Rattle.http1_message_parts.specs.Lines.{lines_of, field_of, row_of}
use Rattle.http1_message_parts.specs.Host.{is_host}
use Rattle.http1_message_parts.specs.declared.reason.Reason.{Reason}
use Rattle.rules_ffi_arguments.specs.Given.{◌>>=◌, only_if}
use Rattle.rules_ffi_arguments.specs.Values.{lifetime_in, status_in, is_small_token, is_short_token, is_secret, is_prefix, is_yes_or_no, is_query_byte, are_encodings, is_droppable}
use Rattle.rules_ffi_arguments.specs.declared.words.Word.{Word}
use Rattle.rules_ffi_arguments.specs.declared.words.Word.TheVariants.{Name, Secret, Targeted, Drop, Host, Refuse, Lifetime, NeverStore, OriginHost, OriginPrefix, QueryDrop, QuerySort, Encodings, CookieKeep, ResponseDrop, ForceLifetime, ForcePrivate}
use Rattle.rules_ffi_arguments.specs.declared.words.Said.{Said}

abbrev pub words : List Word
words =
    Name ∷ Secret ∷ Targeted ∷ Drop ∷ Host ∷ Refuse ∷ Lifetime ∷ NeverStore ∷ OriginHost ∷ OriginPrefix
    ∷ QueryDrop ∷ QuerySort ∷ Encodings ∷ CookieKeep ∷ ResponseDrop ∷ ForceLifetime ∷ ForcePrivate ∷ []

unfoldable pub name_of : Word → List ℕ
name_of Name = codes "name"
name_of Secret = codes "secret"
name_of Targeted = codes "targeted"
name_of Drop = codes "drop"
name_of Host = codes "host"
name_of Refuse = codes "refuse"
name_of Lifetime = codes "lifetime"
name_of NeverStore = codes "never-store"
name_of OriginHost = codes "origin-host"
name_of OriginPrefix = codes "origin-prefix"
name_of QueryDrop = codes "query-drop"
name_of QuerySort = codes "query-sort"
name_of Encodings = codes "encodings"
name_of CookieKeep = codes "cookie-keep"
name_of ResponseDrop = codes "response-drop"
name_of ForceLifetime = codes "force-lifetime"
name_of ForcePrivate = codes "force-private"

-- what a word is where words are prepared
unfoldable pub letter_of : Word → ℕ
letter_of Name = 110
letter_of Secret = 107
letter_of Targeted = 116
letter_of Drop = 100
letter_of Host = 104
letter_of Refuse = 114
letter_of Lifetime = 108
letter_of NeverStore = 115
letter_of OriginHost = 111
letter_of OriginPrefix = 112
letter_of QueryDrop = 113
letter_of QuerySort = 117
letter_of Encodings = 101
letter_of CookieKeep = 99
letter_of ResponseDrop = 119
letter_of ForceLifetime = 102
letter_of ForcePrivate = 118

-- what a word's value may be
abbrev pub takes : Word → List ℕ → Bool
takes Name value = is_short_token value
takes Secret value = is_secret value
takes Targeted value = not (is_filled value) || is_small_token value
takes Drop value = not (is_filled value) || is_small_token value
takes Host value = bytes_eq (small value) value && is_host value
takes Refuse value = not (is_filled value) || is_token value
takes Lifetime value = is_some (lifetime_in value)
takes NeverStore value = not (is_filled value) || is_some (status_in value)
takes OriginHost value = is_filled value && is_host value
takes OriginPrefix value = is_prefix value
takes QueryDrop value = list_all is_query_byte value
takes QuerySort value = is_yes_or_no value
takes Encodings value = are_encodings value
takes CookieKeep value = not (is_filled value) || is_token value
takes ResponseDrop value = not (is_filled value) || is_droppable value
takes ForceLifetime value = is_some (lifetime_in value)
takes ForcePrivate value = is_yes_or_no value

abbrev pub word_named : List ℕ → Option Word
word_named name = find (λ w. bytes_eq (name_of w) name) words

abbrev pub word_lettered : ℕ → Option Word
word_lettered letter = find (λ w. letter_of w == letter) words

-- a word, and what a line gives it
abbrev pub Given : Type 0
Given = Word × List ℕ

abbrev pub said : Said → Given
said s = (s.word, s.value.now)

abbrev pub says : Word → Given → Bool
says word s = letter_of s.0 == letter_of word

-- the values of a word, in order, and the first
abbrev pub valued : Word → List Given → List (List ℕ)
valued word ss = map (λ s. s.1) (filter (says word) ss)

abbrev pub first_of : Word → List Given → Option (List ℕ)
first_of word ss = option_map (λ s. s.1) (find (says word) ss)

-- a line as an operator writes it: the word's name, and a value that it may have
abbrev pub said_by : List ℕ → List ℕ → Option Given
said_by name value = do
  word ← word_named name
  only_if (takes word value) (word, value)

abbrev pub said_in_field : Result Field Reason → Option Given
said_in_field (Ok f) = said_by f.0 f.1
said_in_field (Err reason) = None

abbrev pub said_in_row : List ℕ → Option Given
said_in_row row = said_in_field (field_of row)

-- a line as `prepare` writes it: the word's letter, and its value
abbrev pub said_with : ℕ → List ℕ → Option Given
said_with letter value = option_map (λ word. (word, value)) (word_lettered letter)

abbrev pub said_in_line : List ℕ → Option Given
said_in_line [] = None
said_in_line (letter ∷ value) = said_with letter value

abbrev pub said_in : Bool → List ℕ → Option Given
said_in is_prepared line = if is_prepared then said_in_line line else said_in_row (row_of line)

-- nothing, behind the end of the last line
abbrev pub is_end : List ℕ → List (List ℕ) → Bool
is_end row [] = not (is_filled row)
is_end row (line ∷ lines) = false

-- the words that lines are, each of which is right. An empty line is wrong too, but at the end: what follows it isn't passed over
abbrev pub all_said : Bool → List (List ℕ) → Option (List Given)
all_said is_prepared [] = Some []
all_said is_prepared (line ∷ lines) =
    option_map_or (λ s. option_map (λ ss. s ∷ ss) (all_said is_prepared lines)) (said_in is_prepared line) (only_if (is_end (row_of line) lines) [])

-- the words that are said: those that `prepare` wrote begin with a 0, which begins no line that is right
abbrev pub words_in : List ℕ → Option (List Given)
words_in [] = Some []
words_in (b ∷ text) = if b == 0 then all_said true (lines_of text) else all_said false (lines_of (b ∷ text))

-- the number of the first line that is wrong, where the first has this one; 0 where none is
abbrev pub wrong_row : ℕ → List (List ℕ) → ℕ
wrong_row count [] = 0
wrong_row count (line ∷ lines) =
    if is_some (said_in_row (row_of line)) then wrong_row (count + 1) lines else (if is_end (row_of line) lines then 0 else count)
