-- Reads: what one answers at a place in the buffer, and where the place stands then.
use Rattle.std.specs.Prelude.{◌≡◌, ℕ, ◌+◌, ◌<◌, ◌≤◌, ◌⊎◌, List, [], ◌∷◌, length, take, drop, Some, None, Ok, Err, Option, Result, slice_index_or}
use Rattle.layout.specs.declared.buffer.ChangeBuffer.{ChangeBuffer}
use Rattle.refusals.specs.declared.ChangeBufferError.{ChangeBufferError}
use Rattle.layout.specs.declared.operation.BufferedOperation.{BufferedOperation}
use Rattle.layout.specs.Numbers.{le}
use Rattle.layout.specs.OpCodes.{Unknown, code}
use Rattle.refusals.specs.Told.{told}

-- the bytes of a buffer
abbrev pub held : ChangeBuffer → List ℕ
held buffer = buffer.bytes.now

-- the number of so many bytes at a place
abbrev pub number_at : ℕ → List ℕ → ℕ → ℕ
number_at size buffer place = le (take size (drop place buffer))

-- a read that does not fit is refused with 8, and the place stays
abbrev pub Misses : ℕ → List ℕ → ℕ → ℕ → ChangeBufferError → Type 0
Misses size buffer place after e =
    (length buffer < place + size) × (told e ≡ (8, place ∷ size ∷ length buffer ∷ [])) × (after ≡ place)

-- a read that fits gives what its number means, and the place moves by its size
abbrev pub Reads : {X : Type 0} → (ℕ → X) → ℕ → List ℕ → ℕ → ℕ → Result X ChangeBufferError → Type 0
Reads value size buffer place after (Ok x) =
    (place + size ≤ length buffer) × (x ≡ value (number_at size buffer place)) × (after ≡ place + size)
Reads value size buffer place after (Err e) = Misses size buffer place after e

-- the string of a number, none past the table's end
abbrev pub string_of : {X : Type 0} → List (Option X) → ℕ → Option X
string_of strings n = slice_index_or strings n None

-- a string that is not there is refused with 10, after its number was read
abbrev pub Lacks : {X : Type 0} → List (Option X) → List ℕ → ℕ → ℕ → ChangeBufferError → Type 0
Lacks strings buffer place after e =
    (place + 4 ≤ length buffer) × (string_of strings (number_at 4 buffer place) ≡ None)
    × (told e ≡ (10, number_at 4 buffer place ∷ [])) × (after ≡ place + 4)

-- a string is read by its number, four bytes
abbrev pub ReadsString : {X : Type 0} → List (Option X) → List ℕ → ℕ → ℕ → Result X ChangeBufferError → Type 0
ReadsString strings buffer place after (Ok x) =
    (place + 4 ≤ length buffer) × (string_of strings (number_at 4 buffer place) ≡ Some x) × (after ≡ place + 4)
ReadsString strings buffer place after (Err e) = Misses 4 buffer place after e ⊎ Lacks strings buffer place after e

-- an operation begins with its opcode, two bytes, and its span's id, eight; an unknown opcode is refused before the id is read
abbrev pub ReadsOperation : List ℕ → ℕ → ℕ → Result BufferedOperation ChangeBufferError → Type 0
ReadsOperation buffer place after (Ok operation) =
    (place + 10 ≤ length buffer) × (code operation.opcode ≡ number_at 2 buffer place)
    × (operation.span_id ≡ number_at 8 buffer (place + 2)) × (after ≡ place + 10)
ReadsOperation buffer place after (Err e) =
    Misses 2 buffer place after e
    ⊎ ((place + 2 ≤ length buffer) × Unknown (number_at 2 buffer place) e × (after ≡ place + 2))
    ⊎ ((place + 2 ≤ length buffer) × (number_at 2 buffer place ≤ 16) × Misses 8 buffer (place + 2) after e)
