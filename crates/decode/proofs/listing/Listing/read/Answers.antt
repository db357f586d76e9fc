use Rattle.std.proofs.Common.{◌≡◌, ◌+◌, ◌%◌, ◌^◌, Err, vec_items, bit_and, ap, ◌∙◌, subst, arith}
use Rattle.std.proofs.lemmas.List.{length_push}
use Rattle.std.proofs.lemmas.Nat.{and_mask}
use Rattle.layout.specs.Reads.{held}
use Rattle.decode.specs.declared.listing.Listing.{Listing}
use Rattle.decode.specs.Operations.{Faults, Listed}
use Rattle.decode.proofs.Follows.{follow_push}
use Rattle.decode.proofs.listing.Listing.read.Goals as goal

pub loop-preserved : goal.loop-preserved
loop-preserved c =
    let b = held c.new-buffer.result in
    let inv = c.loop.invariant in
    let os = vec_items c.loop.operations in
    let o = c.in-Ok.operation in
    let got = c.in-Ok.ensures.cases in
    let more = follow_push b 8 c.loop.index c.read_operation.new.index os o inv.0 got in
    rw c.in_ok-push-in-Ok.ensures.items (more, length_push os o ∙ ap (λ n. n + 1) inv.1, got.stand.1)

pub returns-in-Err-Refused-clause-cases : goal.returns-in-Err-Refused-clause-cases
returns-in-Err-Refused-clause-cases c =
    let b = held c.new-buffer.result in
    let after = c.read_operation.new.index in
    let got = c.in_ok-number.ensures.cases in
    let inv = c.loop.invariant in
    let fault = c.in-Err-Refused.fault in
    let low : bit_and c.in_ok-number.number 4294967295 ≡ c.in_ok-number.number % 2 ^ 32 = and_mask c.in_ok-number.number 32 in
    let listing : Listing = record { count = bit_and c.in_ok-number.number 4294967295; operations = c.loop.operations; ending = Err fault } in
    let listed : Listed b listing = record {
      some = got.0;
      counts = low ∙ ap (λ n. n % 2 ^ 32) got.1;
      end = c.loop.index;
      follow = inv.0;
      ends = (omega (arith, inv.1), (after, subst (Faults b c.loop.index after) c.in-Err-Refused.field-0-is c.in-Err-Refused.ensures.cases));
    } in
    rw c.in-Err-Refused.fault-is (subst (λ xs. Listed xs listing) c.new-buffer.ensures.value listed)
