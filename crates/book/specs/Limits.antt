-- Limits: how long the tables may be, how many pairs a row takes, and how far a count goes.
use Rattle.std.specs.Prelude.{ℕ, ◌+◌}

-- each table has at least one record or string, and at most this many
abbrev pub most_spans : ℕ
most_spans = 4096

abbrev pub most_segments : ℕ
most_segments = 256

abbrev pub most_strings : ℕ
most_strings = 65536

-- default pairs
abbrev pub most_defaults : ℕ
most_defaults = 32

-- pairs that operations may write to a span: text pairs, number pairs
abbrev pub span_text_limit : ℕ
span_text_limit = 64

abbrev pub span_number_limit : ℕ
span_number_limit = 32

-- pairs that operations may write to a segment
abbrev pub segment_text_limit : ℕ
segment_text_limit = 32

abbrev pub segment_number_limit : ℕ
segment_number_limit = 16

-- pairs that a chunk's tags add to one span, at most: the segment's, and three or six of the chunk's own
abbrev pub tag_text_limit : ℕ
tag_text_limit = segment_text_limit + 3

abbrev pub tag_number_limit : ℕ
tag_number_limit = segment_number_limit + 6

-- a span's rows take both
abbrev pub span_text_row : ℕ
span_text_row = span_text_limit + tag_text_limit

abbrev pub span_number_row : ℕ
span_number_row = span_number_limit + tag_number_limit

-- a standing segment's count goes from 1 to this
abbrev pub most_count : ℕ
most_count = 4294967295
