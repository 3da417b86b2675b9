-- Lines of columns.
use Rattle.std.specs.Prelude.{ℕ, ◌^◌, ◌==◌, nat_le, Bool, false, ◌||◌, not, if◌then◌else◌, List, [], ◌∷◌, length, Option, Some, None, is_some}
use Rattle.curve_sizes.specs.declared.when.When.{When}
use Rattle.curve_words.specs.Words.{is_empty, same_word, digits_in}
use Rattle.curve_words.specs.Times.{below, moment_in}
use Rattle.curve_words.specs.Columns.{column, key_of, sum_in, is_listed}
use Rattle.curve_words.specs.declared.columns.Columns.{Columns}
use Rattle.curve_words.specs.declared.listed.Total.{Total}
use Rattle.curve_words.specs.declared.listed.Total.TheVariants.{Number, Untold, Nothing}
use Rattle.curve_keys.specs.declared.said.Said.{Said}
use Rattle.curve_keys.specs.declared.said.Said.TheVariants.{Removal, Weight, Known, Told, Other, Wrong}
use Rattle.curve_keys.specs.Pasts.{Line, line_for}
use Rattle.curve_lines.specs.Lines.{weighed, when_at, longest}

-- bodies have lifetimes: one for all, or by a column
abbrev pub is_timed : Option ℕ → Option Columns → Bool
is_timed lifetime None = is_some lifetime
is_timed lifetime (Some c) = is_some lifetime || is_some c.ttl

abbrev pub word_at : Columns → ℕ → List ℕ → Option (List ℕ)
word_at c n line = column c.delimiter n line

-- ---- what a line says

abbrev pub of_total : ℕ → Total → Said
of_total overhead (Number bytes) = weighed overhead (Some bytes)
of_total overhead Untold = Known
of_total overhead Nothing = Wrong

abbrev pub is_zero : Option ℕ → Bool
is_zero None = false
is_zero (Some n) = n == 0

-- A dash alone is a removal. Of a sum whose last column is 0 nothing is known: a value that was asked for and not found has no bytes.
abbrev pub last_said : ℕ → Columns → List ℕ → List ℕ → Said
last_said overhead c line last =
    if length c.bytes_before.items == 0
    then (if same_word last (45 ∷ []) then Removal else of_total overhead (sum_in c.delimiter line c.bytes_before.items last))
    else (if is_zero (digits_in last) then Known else of_total overhead (sum_in c.delimiter line c.bytes_before.items last))

abbrev pub said_by_last : ℕ → Columns → List ℕ → Option (List ℕ) → Said
said_by_last overhead c line None = Wrong
said_by_last overhead c line (Some last) = last_said overhead c line last

abbrev pub bytes_said : ℕ → Columns → List ℕ → Said
bytes_said overhead c line = said_by_last overhead c line (word_at c c.bytes line)

-- a word that neither asks nor removes tells a lifetime, where a column has it
abbrev pub op_said : ℕ → Columns → List ℕ → List ℕ → Said
op_said overhead c line op =
    if is_listed op c.asks.items then bytes_said overhead c line
    else if is_listed op c.removes.items then Removal
    else if is_some c.ttl then Told else Other

abbrev pub said_by_op : ℕ → Columns → List ℕ → Option (List ℕ) → Said
said_by_op overhead c line None = Wrong
said_by_op overhead c line (Some op) = op_said overhead c line op

abbrev pub said_with : ℕ → Columns → List ℕ → Option ℕ → Said
said_with overhead c line None = bytes_said overhead c line
said_with overhead c line (Some op) = said_by_op overhead c line (word_at c op line)

abbrev pub said_by : ℕ → Columns → List ℕ → Said
said_by overhead c line = said_with overhead c line c.op

-- ---- when it asks, and how often

-- an empty word and a dash give way to the lifetime of all bodies
abbrev pub ttl_in : Option ℕ → List ℕ → Option ℕ
ttl_in lifetime word = if is_empty word || same_word word (45 ∷ []) then lifetime else below (2 ^ 62) (digits_in word)

abbrev pub ttl_of : Option ℕ → Option (List ℕ) → Option ℕ
ttl_of lifetime None = None
ttl_of lifetime (Some word) = ttl_in lifetime word

abbrev pub lifetime_with : Option ℕ → Columns → List ℕ → Option ℕ → Option ℕ
lifetime_with lifetime c line None = lifetime
lifetime_with lifetime c line (Some ttl) = ttl_of lifetime (word_at c ttl line)

abbrev pub lifetime_in : Option ℕ → Columns → List ℕ → Option ℕ
lifetime_in lifetime c line = lifetime_with lifetime c line c.ttl

abbrev pub moment_in_word : Option (List ℕ) → Option ℕ
moment_in_word None = None
moment_in_word (Some word) = moment_in word

abbrev pub moment_of : Columns → List ℕ → Option ℕ
moment_of c line = moment_in_word (word_at c c.time line)

abbrev pub both : Option ℕ → Option ℕ → Option When
both (Some moment) (Some lifetime) = Some (record { moment = moment; lifetime = lifetime })
both (Some moment) None = None
both None lifetime = None

abbrev pub timed_when : Option ℕ → Columns → List ℕ → Option When
timed_when lifetime c line = both (moment_of c line) (lifetime_in lifetime c line)

abbrev pub when_in : Option ℕ → Columns → List ℕ → Option When
when_in lifetime c line = if is_some lifetime || is_some c.ttl then timed_when lifetime c line else Some (when_at None 0)

-- a line stands for at most a million requests
abbrev pub times_in_word : Option (List ℕ) → Option ℕ
times_in_word None = None
times_in_word (Some word) = below 1000001 (digits_in word)

abbrev pub times_with : Columns → List ℕ → Option ℕ → Option ℕ
times_with c line None = Some 1
times_with c line (Some times) = times_in_word (word_at c times line)

abbrev pub times_in : Columns → List ℕ → Option ℕ
times_in c line = times_with c line c.times

abbrev pub so_often : Option When → Option ℕ → Option (When × ℕ)
so_often None times = None
so_often (Some when) None = None
so_often (Some when) (Some times) = Some (when, times)

abbrev pub asking : Option ℕ → Columns → List ℕ → Option (When × ℕ)
asking lifetime c line = so_often (when_in lifetime c line) (times_in c line)

-- of a line that asks for nothing, and tells nothing, neither is read
abbrev pub asking_by : Option ℕ → Columns → Said → List ℕ → Option (When × ℕ)
asking_by lifetime c Wrong line = None
asking_by lifetime c Removal line = Some (when_at None 0, 1)
asking_by lifetime c Other line = Some (when_at None 0, 1)
asking_by lifetime c (Weight weight) line = asking lifetime c line
asking_by lifetime c Known line = asking lifetime c line
asking_by lifetime c Told line = asking lifetime c line

-- ---- the line

abbrev pub key_line : List ℕ → Said → When → ℕ → Option Line
key_line key said when times = if is_empty key then None else line_for key said when times

abbrev pub line_of_key : Option (List ℕ) → Said → When → ℕ → Option Line
line_of_key None said when times = None
line_of_key (Some key) said when times = key_line key said when times

abbrev pub keyed_line : Columns → List ℕ → Said → When → ℕ → Option Line
keyed_line c line said when times = line_of_key (key_of c.delimiter line c.key c.key_more.items) said when times

abbrev pub line_asking : Columns → List ℕ → Said → Option (When × ℕ) → Option Line
line_asking c line said None = None
line_asking c line said (Some asked) = keyed_line c line said asked.0 asked.1

-- what a line of columns says, where it is one
abbrev pub columns_line : ℕ → Option ℕ → Columns → List ℕ → Option Line
columns_line overhead lifetime c line =
    if is_empty line || not (nat_le (length line) longest) then None
    else line_asking c line (said_by overhead c line) (asking_by lifetime c (said_by overhead c line) line)
