use Rattle.std.proofs.Common.{◌-◌, ◌++◌, take, drop, replicate, ap, ◌∙◌}
use Rattle.std.proofs.lemmas.List.{drop-replicate, take_min}
use Rattle.layout.specs.Numbers.{le}
use Rattle.layout.proofs.Little.{le-padded}
use Rattle.layout.proofs.utils.first.Goals as goal

pub returns : goal.returns
returns g c =
    let N = g.row.N in
    let n = c.min-count.result in
    let xs = c.args.bytes.now in
    record {
      value =
          ap (λ ys. le (ys ++ drop n (replicate N 0))) c.copy_from_slice.ensures.after
          ∙ (ap (λ zs. le (take n xs ++ zs)) (drop-replicate n N 0)
          ∙ (le-padded (take n xs) (N - n)
          ∙ ap le (ap (λ m. take m xs) c.min-count.ensures ∙ take_min N xs)));
    }
