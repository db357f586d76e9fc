use Rattle.std.proofs.Common.{◌≡◌, ◌≤◌, length, vec_items}
use Rattle.layout.specs.Reads.{held}
use Rattle.decode.specs.Operations.{Follow}
use Rattle.decode.proofs.listing.Listing.read.Given as goal

abbrev pub invariant-loop : goal.invariant-loop
invariant-loop l =
    Follow (held l.buffer) 8 (vec_items l.operations) l.index × (length (vec_items l.operations) ≡ l.counter)
    × (l.index ≤ length (held l.buffer))
