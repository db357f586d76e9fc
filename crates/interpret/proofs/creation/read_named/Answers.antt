use Rattle.std.proofs.Common.{◌≡◌, [], ◌∷◌, ℤ, sym, subst, w64, to_z, of_z, rules}
use Rattle.std.proofs.lemmas.Result.{err_from_is_err_and}
use Rattle.layout.specs.Reads.{held}
use Rattle.book.specs.Book.{name, start, text, int, ◌≔◌}
use Rattle.book.specs.Acts.{reached, Acts}
use Rattle.book.specs.Flush.{I, read_fields}
use Rattle.tables.specs.Shows.{Shows}
use Rattle.recorder.specs.Answers.{refusal}
use Rattle.recorder.specs.Strings.{with_strings}
use Rattle.interpret.specs.declared.creation.Extra.TheVariants.{Named}
use Rattle.interpret.specs.Creation.{fields_of}
use Rattle.interpret.proofs.Reading.{text_reads, text_fails}
use Rattle.interpret.proofs.Creations.{fields-none, text_then, text_stops, time_then, time_stops}
use Rattle.interpret.proofs.creation.read_named.Goals as goal

pub returns-in_err-name-clause-reads : goal.returns-in_err-name-clause-reads
returns-in_err-name-clause-reads g c =
    let p = err_from_is_err_and c.from_residual.result c.from_residual.ensures.1 in
    rw (p.1, p.2) (λ m.
    let b = g.T.Text.bytes in
    let buffer = held c.args.buffer.now in
    let ss = with_strings c.args.strings.now m in
    let P = Shows b ss in
    (text_stops buffer P name ((start, I) ∷ []) c.args.index.now c.args.index.now (refusal c.in_err-name.field-0.0) (text_fails b buffer ss c.args.index.now c.read_string.new.index c.in_err-name.field-0.0 c.in_err-name.ensures.cases)))

pub returns-in_err-start-clause-reads : goal.returns-in_err-start-clause-reads
returns-in_err-start-clause-reads g c =
    let p = err_from_is_err_and c.from_residual-in_err-start.result c.from_residual-in_err-start.ensures.1 in
    rw (p.1, p.2) (λ m.
    let b = g.T.Text.bytes in
    let buffer = held c.args.buffer.now in
    let ss = with_strings c.args.strings.now m in
    let P = Shows b ss in
    (text_then buffer P name ((start, I) ∷ []) c.args.index.now c.read_string.new.index _ _ (text_reads b buffer ss c.args.index.now c.read_string.new.index c.in_ok-name.name c.in_ok-name.ensures.cases)
    (time_stops buffer P start [] c.read_string.new.index c.read.new.index c.in_err-start.field-0.0 c.in_err-start.ensures.cases)))

pub returns-clause-reads : goal.returns-clause-reads
returns-clause-reads g c = λ m.
    let b = g.T.Text.bytes in
    let buffer = held c.args.buffer.now in
    let ss = with_strings c.args.strings.now m in
    let P = Shows b ss in
    let e : to_z w64 (of_z w64 c.in_ok-start.start) ≡ c.in_ok-start.start = search rules in
    subst (λ (z : ℤ). Acts (read_fields (fields_of Named)) buffer P c.args.index.now P (reached c.read.new.index (name ≔ text (b c.in_ok-name.name) ∷ start ≔ int z ∷ []))) (sym e)
    (text_then buffer P name ((start, I) ∷ []) c.args.index.now c.read_string.new.index _ _ (text_reads b buffer ss c.args.index.now c.read_string.new.index c.in_ok-name.name c.in_ok-name.ensures.cases)
    (time_then buffer P start [] c.read_string.new.index c.read.new.index c.in_ok-start.start _ c.in_ok-start.ensures.cases
    (fields-none buffer P c.read.new.index)))
