use Rattle.recorder.proofs.Starting.{started}
use Rattle.recorder.proofs.setup.set_up.Goals as goal

pub returns-clause-call : goal.returns-clause-call
returns-clause-call g c =
    started g.T.Text.bytes _ c.reset_all.new.table c.reset_all-2.new.table c.reset_all-3.new.table _ _ _ _
    c.args.service c.args.language c.args.pid (c.tables_sized.ensures.0 c.if-not-tables_sized.false)
    c.reset_all.ensures.len c.reset_all.ensures.items c.reset_all-2.ensures.len c.reset_all-2.ensures.items c.reset_all-3.ensures.len c.reset_all-3.ensures.items
    c.clear.ensures.items c.clear.ensures.capacity c.clear-2.ensures.items c.clear-2.ensures.capacity
