-- Readings: of a text with bytes in front, of what is written by the grammar, and of the plain writing.
use Rattle.std.proofs.Common.{◌≡◌, ℕ, ◌+◌, ◌*◌, ◌/◌, ◌%◌, ◌<◌, List, [], ◌∷◌, ◌++◌, length, get_or, drop, Ok, Err, Result, Vec, refl, ap, ◌∙◌, subst, inl, inr, arith}
use Rattle.std.specs.declared.alloc.Global.{Global}
use Rattle.std.proofs.lemmas.List.{drop_more}
use Rattle.std.proofs.lemmas.Bool.Decides.{nat_tests}
use Rattle.hex_text.specs.declared.error.HexError.{HexError}
use Rattle.hex_text.specs.declared.error.HexError.TheVariants.{Memory, Odd, Unknown}
use Rattle.hex_text.specs.declared.read.Mark.TheVariants.{Digit}
use Rattle.hex_text.specs.declared.read.Mode.{Mode}
use Rattle.hex_text.specs.declared.read.Mode.TheVariants.{Comment, First, Outside}
use Rattle.hex_text.specs.declared.read.Step.{Step}
use Rattle.hex_text.specs.Grammar.{Bytes, Gives, OneLine, Says, blank, byte, comment, digit, nothing, remark, written}
use Rattle.hex_text.specs.Steps.{goes}
use Rattle.hex_text.specs.Texts.{Reads, Saying, before, bytes, mark, odd, reading, unknown}

-- bytes in front of what a text says
abbrev pub ahead : List ℕ → Saying → Saying
ahead [] s = s
ahead (b ∷ bs) s = before b (ahead bs s)

pub ahead_push : (bs : List ℕ) (b : ℕ) (s : Saying) → ahead (bs ++ b ∷ []) s ≡ ahead bs (before b s)
ahead_push [] b s = refl
ahead_push (x ∷ bs) b s = ap (before x) (ahead_push bs b s)

pub ahead-bytes : (bs : List ℕ) → ahead bs (bytes []) ≡ bytes bs
ahead-bytes [] = refl
ahead-bytes (x ∷ bs) = ap (before x) (ahead-bytes bs)

pub ahead-odd : (bs : List ℕ) (left : ℕ) → ahead bs (odd left) ≡ odd left
ahead-odd [] left = refl
ahead-odd (x ∷ bs) left = ap (before x) (ahead-odd bs left)

pub ahead-unknown : (bs : List ℕ) (b left : ℕ) → ahead bs (unknown b left) ≡ unknown b left
ahead-unknown [] b left = refl
ahead-unknown (x ∷ bs) b left = ap (before x) (ahead-unknown bs b left)

-- a comment up to its newline
comment_line : (words text : List ℕ) → OneLine words → reading Comment (words ++ 10 ∷ text) ≡ reading Outside text
comment_line [] text h = refl
comment_line (b ∷ words) text h = rw h.0 (comment_line words text h.1)

comment-end : (words : List ℕ) → OneLine words → reading Comment words ≡ bytes []
comment-end [] h = refl
comment-end (b ∷ words) h = rw h.0 (comment-end words h.1)

first-digit : (a high : ℕ) (text : List ℕ) → mark a ≡ Digit high → reading Outside (a ∷ text) ≡ reading (First high) text
first-digit a high text e = rw (e, reading)

second_digit : (b high low : ℕ) (text : List ℕ) → mark b ≡ Digit low → reading (First high) (b ∷ text) ≡ before (16 * high + low) (reading Outside text)
second_digit b high low text e = rw (e, reading)

-- what is written by the grammar is read as it is meant
pub says_reads : {text bs : List ℕ} → Says text bs → reading Outside text ≡ bytes bs
says_reads nothing = refl
says_reads (blank b (inl e) more) = rw (e, reading) (says_reads more)
says_reads (blank b (inr e) more) = rw (e, reading) (says_reads more)
says_reads (comment words h more) = comment_line words _ h ∙ says_reads more
says_reads (remark words h) = comment-end words h
says_reads (byte {text} a b high low e f more) = first-digit a high (b ∷ text) e ∙ second_digit b high low text f ∙ ap (before (16 * high + low)) (says_reads more)

marked : (n : ℕ) → n < 16 → mark (digit n) ≡ Digit n
marked n h = grind (arith, nat_tests)

pub written_says : (bs : List ℕ) → Bytes bs → Says (written bs) bs
written_says [] h = nothing
written_says (b ∷ bs) h =
    let whole : 16 * (b / 16) + b % 16 ≡ b = omega arith in
    let high = marked (b / 16) (omega (arith, h.0)) in
    let low = marked (b % 16) (omega arith) in
    subst (λ n. Says (written (b ∷ bs)) (n ∷ bs)) whole (byte _ _ _ _ high low (written_says bs h.1))

-- an answer that is what the text says gives the bytes of that
gives : (text bs : List ℕ) (r : Result (Vec ℕ Global) HexError) → Reads text r → reading Outside text ≡ bytes bs → Gives bs r
gives text bs (Ok v) h e = cc
gives text bs (Err (Odd p)) h e = let w : ◌≡◌ {A = ℕ} 0 1 = cc in absurd (omega arith)
gives text bs (Err (Unknown b p)) h e = let w : ◌≡◌ {A = ℕ} 0 1 = cc in absurd (omega arith)
gives text bs (Err Memory) h e = refl

pub gives-meant : (text : List ℕ) (r : Result (Vec ℕ Global) HexError) → Reads text r → (bs : List ℕ) → Says text bs → Gives bs r
gives-meant text r h bs meant = gives text bs r h (says_reads meant)

pub gives_back : (text : List ℕ) (r : Result (Vec ℕ Global) HexError) → Reads text r → (bs : List ℕ) → Bytes bs → text ≡ written bs → Gives bs r
gives_back text r h bs small e = gives text bs r h (ap (reading Outside) e ∙ says_reads (written_says bs small))

-- after a step at a byte, the text says what the step goes on to
pub turned : (text bs : List ℕ) (mode : Mode) (i : ℕ) (step : Step) → i < length text → reading Outside text ≡ ahead bs (reading mode (drop i text)) → ((rest : List ℕ) → reading mode (get_or text i 0 ∷ rest) ≡ goes step (get_or text i 0) rest) → reading Outside text ≡ ahead bs (goes step (get_or text i 0) (drop (i + 1) text))
turned text bs mode i step h e f =
    e ∙ ap (λ xs. ahead bs (reading mode xs)) (drop_more text i 0 h) ∙ ap (ahead bs) (f (drop (i + 1) text))
