-- A buffer cut between its operations, and flushed part by part.
use Rattle.std.specs.Prelude.{◌≡◌, ℕ, suc, ◌+◌, ◌-◌, ◌*◌, ◌%◌, ◌^◌, List, [], ◌∷◌, ◌++◌, length, take, drop, replicate, Some}
use Rattle.layout.specs.Numbers.{le}
use Rattle.book.specs.Maps.{find}
use Rattle.book.specs.Book.{Field, Book}
use Rattle.book.specs.Refusals.{Refusal, because, read_out_of_bounds, Answer, accepted, refused, shown}
use Rattle.book.specs.Flush.{Operand, S, F, I, i32, Attribute, ◌by◌, S_S, S_F, Operation, create, on_span, on_segment, batch, table, flush}
use Rattle.book.specs.Alike.{Alike}

-- ---- lengths by the table of opcodes

-- bytes of an operand
abbrev pub operand_length : Operand → ℕ
operand_length S = 4
operand_length F = 8
operand_length I = 8
operand_length i32 = 4

-- bytes of what one writing is read from
abbrev pub attribute_length : Attribute → ℕ
attribute_length (f by o) = operand_length o
attribute_length S_S = 8
attribute_length S_F = 12

-- bytes of a create's own fields
abbrev pub fields_length : List (Field × Operand) → ℕ
fields_length [] = 0
fields_length (f ∷ fs) = operand_length f.1 + fields_length fs

-- how many bytes of operands an operation has, of which these are the first
abbrev pub operands_length : Operation → List ℕ → ℕ
operands_length (create fs) bytes = 32 + fields_length fs
operands_length (on_span a) bytes = attribute_length a
operands_length (on_segment a) bytes = attribute_length a
operands_length (batch a) bytes = 4 + le (take 4 bytes) * attribute_length a

-- one whole operation: opcode, span id, operands, and nothing more
pub record Whole (bytes : List ℕ) : Type 0 where
  pub op : Operation
  pub known : find (le (take 2 bytes)) table ≡ Some op
  pub long : length bytes ≡ 10 + operands_length op (drop 10 bytes)

-- just n whole operations
pub data Wholes : ℕ → List ℕ → Type 0 where
  none : Wholes 0 []
  more : {n : ℕ} (bytes rest : List ℕ) → Whole bytes → Wholes n rest → Wholes (suc n) (bytes ++ rest)

-- ---- the parts of a buffer

-- a part's head: eight bytes that say its count, the last four of them zero
pub record Counts (n : ℕ) (head : List ℕ) : Type 0 where
  pub eight : length head ≡ 8
  pub upper : drop 4 head ≡ replicate 4 0
  pub used : le head % 2 ^ 32 ≡ n

-- parts for n operations in these bytes: up to the last, each has as many whole operations as its head says and nothing more; the last has what remains
pub data Parts : ℕ → List ℕ → List (List ℕ) → Type 0 where
  last : {n : ℕ} (head bytes : List ℕ) → Counts n head → Parts n bytes ((head ++ bytes) ∷ [])
  part : {k n : ℕ} {rest : List ℕ} {parts : List (List ℕ)} (head bytes : List ℕ) →
      Counts k head → Wholes k bytes → Parts n rest parts → Parts (k + n) (bytes ++ rest) ((head ++ bytes) ∷ parts)

-- a buffer with its count, and its parts
pub data Cut : List ℕ → List (List ℕ) → Type 0 where
  cut : {parts : List (List ℕ)} (head bytes : List ℕ) → length head ≡ 8 → Parts (le head % 2 ^ 32) bytes parts → Cut (head ++ bytes) parts

-- ---- the parts in order, up to a refusal

-- a refusal as it stands in a buffer with e more bytes of operations in front
abbrev pub grown : ℕ → Refusal → Refusal
grown e (because c) = because c
grown e (read_out_of_bounds offset size len) = read_out_of_bounds (e + offset) size (e + len)

-- go on after a part, unless it was refused
abbrev pub and_then : ℕ → Book → Answer → (Book → Book × Answer) → Book × Answer
and_then e b accepted f = f b
and_then e b (refused r) f = (b, refused (grown e r))
and_then e b (shown x) f = f b

-- flush part by part, after parts with e bytes of operations
abbrev pub in_parts : ℕ → Book → List (List ℕ) → Book × Answer
in_parts e b [] = (b, accepted)
in_parts e b (p ∷ ps) = and_then e (flush b p).0 (flush b p).1 (λ b'. in_parts (e + (length p - 8)) b' ps)

-- the cut law: the same book and the same answer, from any book and for any cut
abbrev pub CutsAgree : Type 0
CutsAgree =
    (b : Book) (bytes : List ℕ) (parts : List (List ℕ)) → Cut bytes parts →
    (in_parts 0 b parts ≡ flush b bytes) × Alike (in_parts 0 b parts).0 (flush b bytes).0
