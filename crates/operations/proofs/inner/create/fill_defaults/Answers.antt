use Rattle.std.proofs.Common.{◌≡◌, ℕ, length, take, ap, ◌∙◌, subst, arith, length-append, length-drop, length-take, length-take-le}
use Rattle.book.specs.Limits.{span_text_row}
use Rattle.vec_map.specs.Tables.{row}
use Rattle.vec_map.proofs.TableRows.{row_put, row_other, row_same}
use Rattle.operations.proofs.inner.create.fill_defaults.Goals as goal

pub returns : goal.returns
returns g c =
    let xs = c.args.span_meta.now in
    let r = c.args.number in
    let ys = c.fill_row.new.row in
    let n = c.args.count in
    let ds = c.args.defaults.now in
    let t = row_put span_text_row r xs ys in
    let k : length (take n ds) ≡ n = length-take-le n ds c.requires.within in
    let l : length ys ≡ span_text_row = c.fill_row.auto.row ∙ simp (length-take, length-drop) (omega arith) in
    record {
      items = ap (λ zs. take n (row span_text_row r zs)) t ∙ (ap (λ zs. take n zs) (row_same span_text_row r xs ys c.requires.place l) ∙ subst (λ (q : ℕ). take q ys ≡ take n ds) k c.fill_row.ensures);
      others = λ j d. ap (λ zs. row span_text_row j zs) t ∙ row_other span_text_row j r xs ys d c.requires.place l;
      long = ap length t ∙ simp (length-append, length-take, length-drop) (omega (arith, l, c.requires.place));
    }
