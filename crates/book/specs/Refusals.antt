-- Answers: accepted, refused with a number and values, or what a question shows.
use Rattle.std.specs.Prelude.{ℕ, List, [], ◌∷◌, Option}
use Rattle.book.specs.Book.{Span, Segment, Numbers}

-- the causes of a refusal but for a read
pub data Cause : Type 0 where
  out_of_order too_many_defaults key_beyond list_short : Cause
  no_segment not_handed span_not_found unknown_opcode string_not_found no_record no_segment_record row_full : ℕ → Cause

-- why a call is refused
pub data Refusal : Type 0 where
  because : Cause → Refusal
  read_out_of_bounds : (offset size len : ℕ) → Refusal

-- the number and the values of each cause, in the order in which the questions are asked
abbrev pub told_cause : Cause → ℕ × List ℕ
told_cause out_of_order = (1, [])
told_cause too_many_defaults = (2, [])
told_cause key_beyond = (3, [])
told_cause (no_segment id) = (4, id ∷ [])
told_cause (not_handed n) = (5, n ∷ [])
told_cause list_short = (6, [])
told_cause (span_not_found id) = (7, id ∷ [])
told_cause (unknown_opcode code) = (9, code ∷ [])
told_cause (string_not_found n) = (10, n ∷ [])
told_cause (no_record id) = (11, id ∷ [])
told_cause (no_segment_record id) = (12, id ∷ [])
told_cause (row_full id) = (13, id ∷ [])

-- the number and the values of each refusal
abbrev pub told : Refusal → ℕ × List ℕ
told (because c) = told_cause c
told (read_out_of_bounds offset size len) = (8, offset ∷ size ∷ len ∷ [])

-- what a question shows: a span, a segment if it stands, or the numbers live, handed out and free
pub data Shown : Type 0 where
  one_span : Span → Shown
  one_segment : Option Segment → Shown
  three_numbers : Numbers → Shown

-- what a call answers
pub data Answer : Type 0 where
  accepted : Answer
  refused : Refusal → Answer
  shown : Shown → Answer

-- the number and the values of each answer, 0 for all but a refusal
abbrev pub told_answer : Answer → ℕ × List ℕ
told_answer accepted = (0, [])
told_answer (refused r) = told r
told_answer (shown x) = (0, [])
