-- The plain book: what can be written to spans and segments, what they then show, and what the recorder holds by id and by number.
-- A text is its bytes. Every list of writings has the newest first, every row of pairs the oldest first.
use Rattle.std.specs.Prelude.{ℕ, ◌+◌, ◌-◌, Bool, true, if◌then◌else◌, ◌&&◌, List, [], ◌∷◌, ◌++◌, length, ℤ, pos, Some, None, Option, ◌==◌, nat_le, nat_lt, to_bits, Float}
use Rattle.std.specs.Float.{binary64}
use Rattle.std.specs.Str.{bytes_eq}
use Rattle.book.specs.Limits.{most_spans, most_segments, most_strings}
use Rattle.book.specs.Maps.{Map}

-- a text's bytes
abbrev pub Text : Type 0
Text = List ℕ

-- ---- what can be written, and where

-- the fields of a span, and those of a segment
pub data Field : Type 0 where
  trace parent service name resource type start duration error : Field
  origin rule limit agent : Field

-- what a field can hold; a float goes by its 64 bits
pub data Value : Type 0 where
  nothing : Value
  text : Text → Value
  word : ℕ → Value
  int : ℤ → Value
  float : ℕ → Value

-- a field is set, or a text pair or a number pair is added at the end of its row
infix 70 ◌≔◌
pub data Writing : Type 0 where
  ◌≔◌ : Field → Value → Writing
  meta : (key value : Text) → Writing
  metric : (key : Text) (bits : ℕ) → Writing

-- a float's 64 bits; every not-a-number has the same ones
abbrev pub bits_of : Float → ℕ
bits_of x = to_bits binary64 x

-- ---- what writings show

-- the fields in their order, by which two are compared
abbrev pub field_number : Field → ℕ
field_number trace = 0
field_number parent = 1
field_number service = 2
field_number name = 3
field_number resource = 4
field_number type = 5
field_number start = 6
field_number duration = 7
field_number error = 8
field_number origin = 9
field_number rule = 10
field_number limit = 11
field_number agent = 12

-- is it the same field?
abbrev pub same_field : Field → Field → Bool
same_field f g = field_number f == field_number g

-- a field's value v after one more writing
abbrev pub rewritten : Field → Writing → Value → Value
rewritten f (g ≔ new) v = if same_field f g then new else v
rewritten f (meta k t) v = v
rewritten f (metric k n) v = v

-- the latest value written to a field, or else v
abbrev pub latest : Field → Value → List Writing → Value
latest f v [] = v
latest f v (w ∷ ws) = rewritten f w (latest f v ws)

-- what a field shows that was never written
abbrev pub blank : Field → Value
blank trace = word 0
blank parent = word 0
blank service = text []
blank name = text []
blank resource = text []
blank type = text []
blank start = int (pos 0)
blank duration = int (pos 0)
blank error = int (pos 0)
blank origin = nothing
blank rule = nothing
blank limit = nothing
blank agent = nothing

-- a row of text pairs after one more writing
abbrev pub and_text : Writing → List (Text × Text) → List (Text × Text)
and_text (f ≔ v) ps = ps
and_text (meta k t) ps = ps ++ (k, t) ∷ []
and_text (metric k n) ps = ps

-- a row of number pairs after one more writing
abbrev pub and_number : Writing → List (Text × ℕ) → List (Text × ℕ)
and_number (f ≔ v) ps = ps
and_number (meta k t) ps = ps
and_number (metric k n) ps = ps ++ (k, n) ∷ []

-- the row that writings make, one after the other
abbrev pub row : {P : Type 0} → (Writing → List P → List P) → List Writing → List P
row and_one [] = []
row and_one (w ∷ ws) = and_one w (row and_one ws)

-- the text pairs of writings
abbrev pub texts : List Writing → List (Text × Text)
texts ws = row and_text ws

-- their number pairs, each with a float's bits
abbrev pub numbers : List Writing → List (Text × ℕ)
numbers ws = row and_number ws

-- the first of two that is there
abbrev pub or_else : {V : Type 0} → Option V → Option V → Option V
or_else (Some v) o = Some v
or_else None o = o

-- the value of the last pair with a key
abbrev pub last_value : {V : Type 0} → Text → List (Text × V) → Option V
last_value k [] = None
last_value k (p ∷ ps) = or_else (last_value k ps) (if bytes_eq p.0 k then Some p.1 else None)

-- is there a place in its row for one more writing, of at most t text pairs and n number pairs?
abbrev pub has_place : ℕ → ℕ → List Writing → Writing → Bool
has_place t n ws (f ≔ v) = true
has_place t n ws (meta k x) = nat_lt (length (texts ws)) t
has_place t n ws (metric k x) = nat_lt (length (numbers ws)) n

-- ---- spans and segments

-- a span, live or handed out
pub record Span : Type 0 where
  pub id : ℕ
  pub segment : ℕ  -- its segment's id
  pub given : List Writing  -- what its latest making gave
  pub since : List Writing  -- the writings since

-- a standing segment
pub record Segment : Type 0 where
  pub created : ℕ  -- the creations that name it, since its making
  pub charged : ℕ  -- the spans charged to it, since its making
  pub since : List Writing  -- the writings since its making

-- all that was written to a span since its making, and by it
abbrev pub written : Span → List Writing
written s = s.since ++ s.given

-- what a field of a span shows
abbrev pub shows : Span → Field → Value
shows s f = latest f (blank f) (written s)

-- a span's row of text pairs
abbrev pub span_texts : Span → List (Text × Text)
span_texts s = texts (written s)

-- a span's row of number pairs
abbrev pub span_numbers : Span → List (Text × ℕ)
span_numbers s = numbers (written s)

-- what a field of a segment shows; its rows are those of its writings
abbrev pub segment_shows : Segment → Field → Value
segment_shows g f = latest f (blank f) g.since

-- a segment's count
abbrev pub count : Segment → ℕ
count g = g.created - g.charged

-- a span with one more writing
abbrev pub write : Writing → Span → Span
write w s = record { id = s.id; segment = s.segment; given = s.given; since = w ∷ s.since }

-- a segment with one more writing
abbrev pub note : Writing → Segment → Segment
note w g = record { created = g.created; charged = g.charged; since = w ∷ g.since }

-- ---- the book

-- what set-up is given: the tracer's service, language and process id, and the tables' lengths
pub record Setup : Type 0 where
  pub service : Text
  pub language : Text
  pub pid : ℕ
  pub spans : ℕ
  pub segments : ℕ
  pub strings : ℕ

-- what the recorder holds
pub record Book : Type 0 where
  pub setup : Setup
  pub strings : Map Text  -- by string number
  pub defaults : List (Text × Text)  -- pairs that every new span gets
  pub live : Map Span  -- by id
  pub segments : Map Segment  -- by id, those that stand
  pub handed : Map Span  -- handed-out spans by record number

-- the book that set-up leaves
abbrev pub new_book : Setup → Book
new_book u = record { setup = u; strings = []; defaults = []; live = []; segments = []; handed = [] }

-- a length from 1 to most
abbrev pub allowed : ℕ → ℕ → Bool
allowed most n = nat_le 1 n && nat_le n most

-- may the tables have these lengths?
abbrev pub lengths_allowed : Setup → Bool
lengths_allowed u = allowed most_spans u.spans && (allowed most_segments u.segments && allowed most_strings u.strings)

-- how many spans are live and handed out, and how many records are free
pub record Numbers : Type 0 where
  pub live : ℕ
  pub handed : ℕ
  pub free : ℕ

-- these numbers of a book
abbrev pub numbers_of : Book → Numbers
numbers_of b = record { live = length b.live; handed = length b.handed; free = b.setup.spans - (length b.live + length b.handed) }

-- the book with one part replaced
abbrev pub with_strings : Map Text → Book → Book
with_strings m b = record { setup = b.setup; strings = m; defaults = b.defaults; live = b.live; segments = b.segments; handed = b.handed }

abbrev pub with_defaults : List (Text × Text) → Book → Book
with_defaults d b = record { setup = b.setup; strings = b.strings; defaults = d; live = b.live; segments = b.segments; handed = b.handed }

abbrev pub with_live : Map Span → Book → Book
with_live m b = record { setup = b.setup; strings = b.strings; defaults = b.defaults; live = m; segments = b.segments; handed = b.handed }

abbrev pub with_segments : Map Segment → Book → Book
with_segments m b = record { setup = b.setup; strings = b.strings; defaults = b.defaults; live = b.live; segments = m; handed = b.handed }

abbrev pub with_handed : Map Span → Book → Book
with_handed m b = record { setup = b.setup; strings = b.strings; defaults = b.defaults; live = b.live; segments = b.segments; handed = m }
