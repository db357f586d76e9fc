use Rattle.std.proofs.Common.{◌≡◌, ℕ, ◌+◌, ◌-◌, ◌≤◌, List, [], ◌∷◌, ◌++◌, length, get_or, drop, Ok, Err, vec_items, Result, Vec, sym, ap, ◌∙◌, ⊎_elim, arith, length-drop}
use Rattle.std.proofs.lemmas.List.{drop_all}
use Rattle.std.specs.declared.alloc.Global.{Global}
use Rattle.hex_text.specs.declared.error.HexError.{HexError}
use Rattle.hex_text.specs.declared.error.HexError.TheVariants.{Odd, Unknown}
use Rattle.hex_text.specs.declared.read.Mode.{Mode}
use Rattle.hex_text.specs.declared.read.Mode.TheVariants.{Comment, First, Outside}
use Rattle.hex_text.specs.declared.read.Step.TheVariants as steps
use Rattle.hex_text.specs.Steps.{Small, digits}
use Rattle.hex_text.specs.Places.{place}
use Rattle.hex_text.specs.Texts.{Reads, Saying, reading}
use Rattle.hex_text.proofs.Readings.{ahead, ahead_push, ahead-bytes, ahead-odd, ahead-unknown, gives_back, gives-meant, turned}
use Rattle.hex_text.proofs.read.read_hex.Goals as goal
use Rattle.hex_text.proofs.read.read_hex.Goals.{in-To, in-Byte+in_ok-push-in-Byte}

abbrev Answer : Type 0
Answer = Result (Vec ℕ Global) HexError

abbrev ended : Mode → Saying
ended mode = reading mode []

digits-small : (mode : Mode) (i : ℕ) → digits mode ≤ i + 1
digits-small Outside i = omega arith
digits-small Comment i = omega arith
digits-small (First high) i = omega arith

pub loop-offset-preserved : goal.loop-offset-preserved
loop-offset-preserved c =
    let text = c.args.text.now in
    let i = c.loop-offset.offset in
    let bs = vec_items c.loop-offset.bytes in
    let after : List ℕ → Mode → Type 0 = λ items mode. (reading Outside text ≡ ahead items (reading mode (drop (i + 1) text))) × Small mode × (digits mode ≤ i + 1) in
    elim c.match-step.branch [
      | in-To w ↦
          let next = w.in-To.next in
          let says = turned text bs c.loop-offset.mode i (steps.To next) c.loop-offset-test.true c.loop-offset.invariant.0 w.in-To.ensures.value in
          let holds : after bs next = (says, w.in-To.ensures.bound, digits-small next i) in
          rw (w.mode-is, w.bytes-is) holds
      | in-Byte+in_ok-push-in-Byte w ↦
          let value = w.in-Byte.value in
          let says = turned text bs c.loop-offset.mode i (steps.Byte value) c.loop-offset-test.true c.loop-offset.invariant.0 w.in-Byte.ensures.value in
          let more : reading Outside text ≡ ahead (bs ++ value ∷ []) (reading Outside (drop (i + 1) text)) = says ∙ sym (ahead_push bs value (reading Outside (drop (i + 1) text))) in
          let holds : after (bs ++ value ∷ []) Outside = (more, tt, omega arith) in
          rw (w.mode-is, w.bytes-is, w.in_ok-push-in-Byte.ensures.items) holds
    ]

pub returns-in-Odd : goal.returns-in-Odd
returns-in-Odd c =
    let text = c.args.text.now in
    let i = c.loop-offset.offset in
    let bs = vec_items c.loop-offset.bytes in
    let left = 2 + length (drop (i + 1) text) in
    let says = turned text bs c.loop-offset.mode i steps.Odd c.loop-offset-test.true c.loop-offset.invariant.0 c.in-Odd.ensures.value ∙ ahead-odd bs left in
    let at : i - 1 ≡ length text - left = omega (arith, length-drop (i + 1) text) in
    let r : Answer = Err (Odd c.of.result) in
    let reads : Reads text r = (left, says, c.of.ensures.value ∙ ap (place text) at) in
    record { cases = reads; succeeds = gives-meant text r reads; back = gives_back text r reads }

pub returns-in-Unknown : goal.returns-in-Unknown
returns-in-Unknown c =
    let text = c.args.text.now in
    let i = c.loop-offset.offset in
    let bs = vec_items c.loop-offset.bytes in
    let b = get_or text i 0 in
    let left = 1 + length (drop (i + 1) text) in
    let says = turned text bs c.loop-offset.mode i steps.Unknown c.loop-offset-test.true c.loop-offset.invariant.0 c.in-Unknown.ensures.value ∙ ahead-unknown bs b left in
    let at : i ≡ length text - left = omega (arith, length-drop (i + 1) text) in
    let r : Answer = Err (Unknown b c.of-in-Unknown.result) in
    let reads : Reads text r = (left, says, c.of-in-Unknown.ensures.value ∙ ap (place text) at) in
    record { cases = reads; succeeds = gives-meant text r reads; back = gives_back text r reads }

pub returns-in-First : goal.returns-in-First
returns-in-First c =
    let text = c.args.text.now in
    let bs = vec_items c.loop-offset.bytes in
    let end = drop_all c.loop-offset.offset text c.loop-offset-test.false in
    let rest = ap (λ xs. reading c.loop-offset.mode xs) end ∙ ap (λ mode. reading mode []) c.in-First.is in
    let says = c.loop-offset.invariant.0 ∙ ap (ahead bs) rest ∙ ahead-odd bs 1 in
    let r : Answer = Err (Odd c.of-in-First.result) in
    let reads : Reads text r = (1, says, c.of-in-First.ensures.value) in
    record { cases = reads; succeeds = gives-meant text r reads; back = gives_back text r reads }

pub returns-in-Outside : goal.returns-in-Outside
returns-in-Outside c =
    let text = c.args.text.now in
    let bs = vec_items c.loop-offset.bytes in
    let end = drop_all c.loop-offset.offset text c.loop-offset-test.false in
    let rest = ap (λ xs. reading c.loop-offset.mode xs) end ∙ ⊎_elim (ap ended) (ap ended) c.in-Outside.is in
    let says = c.loop-offset.invariant.0 ∙ ap (ahead bs) rest ∙ ahead-bytes bs in
    let r : Answer = Ok c.loop-offset.bytes in
    let reads : Reads text r = says in
    record { cases = reads; succeeds = gives-meant text r reads; back = gives_back text r reads }
