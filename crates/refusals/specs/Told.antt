-- Refusals: the number and the values of each, and what it prints.
use Rattle.std.specs.Prelude.{ℕ, List, [], ◌∷◌, ◌++◌, codes, decimal}
use Rattle.refusals.specs.declared.ChangeBufferError.{ChangeBufferError}
use Rattle.refusals.specs.declared.ChangeBufferError.TheVariants.{KeyBeyond, ListShort, NoRecord, NoSegment, NoSegmentRecord, NotHandedOut, OutOfOrder, ReadOutOfBounds, RowFull, SpanNotFound, StringNotFound, TooManyDefaults, UnknownOpcode}

-- the number of the question that was answered no, and the values that go with it
abbrev pub told : ChangeBufferError → ℕ × List ℕ
told OutOfOrder = (1, [])
told TooManyDefaults = (2, [])
told KeyBeyond = (3, [])
told (NoSegment x) = (4, x ∷ [])
told (NotHandedOut x) = (5, x ∷ [])
told ListShort = (6, [])
told (SpanNotFound x) = (7, x ∷ [])
told (ReadOutOfBounds offset size len) = (8, offset ∷ size ∷ len ∷ [])
told (UnknownOpcode x) = (9, x ∷ [])
told (StringNotFound x) = (10, x ∷ [])
told (NoRecord x) = (11, x ∷ [])
told (NoSegmentRecord x) = (12, x ∷ [])
told (RowFull x) = (13, x ∷ [])

-- a refusal in words: its number, its name and its values
abbrev pub said : ChangeBufferError → List ℕ
said OutOfOrder = codes "1 OutOfOrder"
said TooManyDefaults = codes "2 TooManyDefaults"
said KeyBeyond = codes "3 KeyBeyond"
said (NoSegment x) = codes "4 NoSegment: segment " ++ decimal x
said (NotHandedOut x) = codes "5 NotHandedOut: record " ++ decimal x
said ListShort = codes "6 ListShort"
said (SpanNotFound x) = codes "7 SpanNotFound: span " ++ decimal x
said (ReadOutOfBounds offset size len) =
    codes "8 ReadOutOfBounds: offset " ++ (decimal offset ++ (codes ", size " ++ (decimal size ++ (codes ", length " ++ decimal len))))
said (UnknownOpcode x) = codes "9 UnknownOpcode: opcode " ++ decimal x
said (StringNotFound x) = codes "10 StringNotFound: string " ++ decimal x
said (NoRecord x) = codes "11 NoRecord: span " ++ decimal x
said (NoSegmentRecord x) = codes "12 NoSegmentRecord: segment " ++ decimal x
said (RowFull x) = codes "13 RowFull: span or segment " ++ decimal x
