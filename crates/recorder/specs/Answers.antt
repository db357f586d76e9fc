-- What a call answers, as the plain book says it: accepted, or refused with a number and values.
use Rattle.std.specs.Prelude.{Ok, Err, Result}
use Rattle.refusals.specs.declared.ChangeBufferError.{ChangeBufferError}
use Rattle.refusals.specs.declared.ChangeBufferError.TheVariants.{OutOfOrder, TooManyDefaults, KeyBeyond, NoSegment, NotHandedOut, ListShort, SpanNotFound, ReadOutOfBounds, UnknownOpcode, StringNotFound, NoRecord, NoSegmentRecord, RowFull}
use Rattle.book.specs.Refusals.{Refusal, because, read_out_of_bounds, out_of_order, too_many_defaults, key_beyond, no_segment, not_handed, list_short, span_not_found, unknown_opcode, string_not_found, no_record, no_segment_record, row_full, Answer, accepted, refused}

-- the book's refusal for each of the code's
abbrev pub refusal : ChangeBufferError → Refusal
refusal OutOfOrder = because out_of_order
refusal TooManyDefaults = because too_many_defaults
refusal KeyBeyond = because key_beyond
refusal (NoSegment id) = because (no_segment id)
refusal (NotHandedOut n) = because (not_handed n)
refusal ListShort = because list_short
refusal (SpanNotFound id) = because (span_not_found id)
refusal (ReadOutOfBounds offset size len) = read_out_of_bounds offset size len
refusal (UnknownOpcode code) = because (unknown_opcode code)
refusal (StringNotFound n) = because (string_not_found n)
refusal (NoRecord id) = because (no_record id)
refusal (NoSegmentRecord id) = because (no_segment_record id)
refusal (RowFull id) = because (row_full id)

-- the answer of a call that gives nothing back
abbrev pub answer : Result (Unit {0}) ChangeBufferError → Answer
answer (Ok x) = accepted
answer (Err e) = refused (refusal e)
