use Rattle.std.proofs.Common.{◌∙◌, length-take-le}
use Rattle.std.proofs.lemmas.List.{take_at}
use Rattle.operations.proofs.inner.create.fill_row.Goals as goal

pub returns : goal.returns
returns g c =
    let l = c.copy_from_slice.ensures.len ∙ length-take-le _ c.args.row.now c.requires in
    take_at c.copy_from_slice.new.self _ _ l ∙ c.copy_from_slice.ensures.after
