-- Operations: how one begins, where one breaks off, and one more after others.
use Rattle.std.proofs.Common.{◌≡◌, ℕ, ◌+◌, List, [], ◌∷◌, ◌++◌, Ok, vec_items, Vec, sym, refl, subst, inr, arith}
use Rattle.std.specs.declared.alloc.Global.{Global}
use Rattle.layout.specs.declared.operation.BufferedOperation.{BufferedOperation}
use Rattle.layout.specs.Reads.{ReadsOperation, number_at}
use Rattle.decode.specs.declared.error.DecodeError.{DecodeError}
use Rattle.decode.specs.declared.error.DecodeError.TheVariants.{Memory, Refused}
use Rattle.decode.specs.declared.operand.Operand.{Operand}
use Rattle.decode.specs.declared.operation.Operation.{Operation}
use Rattle.decode.specs.Operands.{little}
use Rattle.decode.specs.Operations.{Decoded, Faults, Follow, head_bytes}
use Rattle.decode.specs.Runs.{Fails, Run, Stand, Stops, asked, operands_bytes}
use Rattle.decode.specs.Table.{table}
use Rattle.decode.proofs.Stands.{stand_join, stand-number}

module _ (buffer : List ℕ) (place after : ℕ) (head : BufferedOperation) (got : ReadsOperation buffer place after (Ok head)) where
  head-stand : Stand buffer place (place + 10) (head_bytes head.opcode head.span_id)
  head-stand =
      let opcode = stand-number buffer place 2 (omega arith) in
      let span = stand-number buffer (place + 2) 8 (omega arith) in
      let end : place + 2 + 8 ≡ place + 10 = omega arith in
      let bs = little 2 (number_at 2 buffer place) ++ little 8 (number_at 8 buffer (place + 2)) in
      let both = stand_join buffer place (place + 2) (place + 2 + 8) (little 2 (number_at 2 buffer place)) (little 8 (number_at 8 buffer (place + 2))) opcode span in
      let bytes : bs ≡ head_bytes head.opcode head.span_id = λ i. little 2 (sym got.1 i) ++ little 8 (sym got.2 i) in
      subst (Stand buffer place (place + 10)) bytes (subst (λ n. Stand buffer place n bs) end both)

  pub decoded : (to : ℕ) (operands : Vec Operand Global) → Run buffer after to (asked (table head.opcode) (vec_items operands)) (vec_items operands) → Decoded buffer place to (record { offset = place; opcode = head.opcode; span_id = head.span_id; operands = operands })
  decoded to operands run =
      record {
        place = refl;
        stand = stand_join buffer place (place + 10) to (head_bytes head.opcode head.span_id) (operands_bytes (vec_items operands)) head-stand (subst (λ n. Stand buffer n to (operands_bytes (vec_items operands))) got.3 run.stand);
        named = run.named;
      }

  pub broken : (to : ℕ) (e : DecodeError) → Fails (asked (table head.opcode)) buffer after to e → Faults buffer place to e
  broken to (Refused e) stops =
      inr (record {
        opcode = head.opcode;
        span = head.span_id;
        stand = head-stand;
        stops = subst (λ n. Stops (asked (table head.opcode)) buffer n to e) got.3 stops;
      })
  broken to Memory stops = tt

pub follow_push : (buffer : List ℕ) (place middle end : ℕ) (operations : List Operation) (o : Operation) → Follow buffer place operations middle → Decoded buffer middle end o → Follow buffer place (operations ++ o ∷ []) end
follow_push buffer place middle end [] o f d = (end, subst (λ n. Decoded buffer n end o) (sym f) d, refl)
follow_push buffer place middle end (p ∷ operations) o f d = (f.0, f.1, follow_push buffer f.0 middle end operations o f.2 d)
