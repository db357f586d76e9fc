use Rattle.std.proofs.Common.{sym}
use Rattle.hashed_index.specs.Keeps.{kept-missing, no_spot, spot_at}
use Rattle.hashed_index.proofs.hashed.HashedIndexIndex.find.Goals as goal

pub returns-in-At : goal.returns-in-At
returns-in-At c =
    let s = c.args.self.now in
    sym (spot_at s.places.items c.args.id c.in-At.field-0 c.in-At.number s.alone c.in-At.ensures)

pub returns-in_default : goal.returns-in_default
returns-in_default c =
    let ps = c.args.self.now.places.items in
    sym (kept-missing ps c.args.id (no_spot ps c.args.id c.seek.result c.seek.ensures c.in_default.not-At))
