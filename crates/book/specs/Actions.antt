-- Actions, of which a flush is made: from a book and the bytes that are left to a value, a book and the bytes then left, or to a stop.
-- No action knows where it stands in the buffer: an offset is the buffer's length less what was left.
use Rattle.std.specs.Prelude.{ℕ, zero, suc, ◌-◌, Bool, true, false, if◌then◌else◌, List, length, take, drop, Some, None, Option, nat_le}
use Rattle.layout.specs.Numbers.{le}
use Rattle.book.specs.Book.{Book}
use Rattle.book.specs.Refusals.{Cause, Refusal, because, read_out_of_bounds, Answer, accepted, refused}

-- why an action stops: a read of more bytes than are left, or another cause
pub data Fault : Type 0 where
  short : (left size : ℕ) → Fault
  fault : Cause → Fault

-- how an action ends
pub data Out (A : Type 0) : Type 0 where
  went : A → Book → List ℕ → Out A
  stopped : Fault → Book → Out A

-- an action with a value
abbrev pub Act : Type 0 → Type 0
Act A = Book → List ℕ → Out A

-- go on from an outcome, unless it is a stop
abbrev pub on : {A B : Type 0} → Out A → (A → Act B) → Out B
on (went a b rest) f = f a b rest
on (stopped r b) f = stopped r b

-- one action, and then the next with its value
infixl 20 ◌>>=◌
unfoldable pub ◌>>=◌ : {A B : Type 0} → Act A → (A → Act B) → Act B
◌>>=◌ m f b rest = on (m b rest) f

-- no more than a value
unfoldable pub give : {A : Type 0} → A → Act A
give a b rest = went a b rest

-- something of the book
unfoldable pub look : {A : Type 0} → (Book → A) → Act A
look f b rest = went (f b) b rest

-- another book
unfoldable pub change : (Book → Book) → Act (Unit {0})
change f b rest = went tt (f b) rest

-- what is there, or a stop
unfoldable pub the : {A : Type 0} → Option A → Cause → Act A
the (Some a) c b rest = went a b rest
the None c b rest = stopped (fault c) b

-- a question, and a stop on no
unfoldable pub ask : Bool → Cause → Act (Unit {0})
ask true c b rest = went tt b rest
ask false c b rest = stopped (fault c) b

-- the same action n times
unfoldable pub times : ℕ → Act (Unit {0}) → Act (Unit {0})
unfolding ◌>>=◌ give
times zero m = give tt
times (suc n) m = m >>= (λ _. times n m)

-- the little-endian number in the next n bytes
unfoldable pub read : ℕ → Act ℕ
read n b rest = if nat_le n (length rest) then went (le (take n rest)) b (drop n rest) else stopped (short (length rest) n) b

-- ---- in a buffer of so many bytes

-- a stop as a refusal
abbrev pub refusal_at : ℕ → Fault → Refusal
refusal_at len (short left size) = read_out_of_bounds (len - left) size len
refusal_at len (fault c) = because c

-- the book and the answer that a call ends with
abbrev pub settled : ℕ → Out (Unit {0}) → Book × Answer
settled len (went _ b rest) = (b, accepted)
settled len (stopped f b) = (b, refused (refusal_at len f))
