use Rattle.std.proofs.Common.{◌≡◌, [], ◌∷◌, ℤ, sym, subst, w64, to_z, of_z, rules}
use Rattle.std.proofs.lemmas.Result.{err_from_is_err_and}
use Rattle.layout.specs.Reads.{held}
use Rattle.book.specs.Book.{name, service, resource, type, start, text, int, ◌≔◌}
use Rattle.book.specs.Acts.{reached, Acts}
use Rattle.book.specs.Flush.{S, I, read_fields}
use Rattle.tables.specs.Shows.{Shows}
use Rattle.recorder.specs.Answers.{refusal}
use Rattle.recorder.specs.Strings.{with_strings}
use Rattle.interpret.specs.declared.creation.Extra.TheVariants.{Full}
use Rattle.interpret.specs.Creation.{fields_of}
use Rattle.interpret.proofs.Reading.{text_reads, text_fails}
use Rattle.interpret.proofs.Creations.{fields-none, text_then, text_stops, time_then, time_stops}
use Rattle.interpret.proofs.creation.read_full.Goals as goal

pub returns-in_err-name : goal.returns-in_err-name
returns-in_err-name g c =
    let p = err_from_is_err_and c.from_residual.result c.from_residual.ensures.1 in
    rw (p.1, p.2) (record {
      reads = λ m.
          let b = g.T.Text.bytes in
          let buffer = held c.args.buffer.now in
          let ss = with_strings c.args.strings.now m in
          let P = Shows b ss in
          (text_stops buffer P name ((service, S) ∷ (resource, S) ∷ (type, S) ∷ (start, I) ∷ []) c.args.index.now c.args.index.now (refusal c.in_err-name.field-0.0) (text_fails b buffer ss c.args.index.now c.read_string.new.index c.in_err-name.field-0.0 c.in_err-name.ensures.cases));
    })

pub returns-in_err-service : goal.returns-in_err-service
returns-in_err-service g c =
    let p = err_from_is_err_and c.from_residual-in_err-service.result c.from_residual-in_err-service.ensures.1 in
    rw (p.1, p.2) (record {
      reads = λ m.
          let b = g.T.Text.bytes in
          let buffer = held c.args.buffer.now in
          let ss = with_strings c.args.strings.now m in
          let P = Shows b ss in
          (text_then buffer P name ((service, S) ∷ (resource, S) ∷ (type, S) ∷ (start, I) ∷ []) c.args.index.now c.read_string.new.index _ _ (text_reads b buffer ss c.args.index.now c.read_string.new.index c.in_ok-name.name c.in_ok-name.ensures.cases)
          (text_stops buffer P service ((resource, S) ∷ (type, S) ∷ (start, I) ∷ []) c.read_string.new.index c.read_string.new.index (refusal c.in_err-service.field-0.0) (text_fails b buffer ss c.read_string.new.index c.read_string-2.new.index c.in_err-service.field-0.0 c.in_err-service.ensures.cases)));
    })

pub returns-in_err-resource : goal.returns-in_err-resource
returns-in_err-resource g c =
    let p = err_from_is_err_and c.from_residual-in_err-resource.result c.from_residual-in_err-resource.ensures.1 in
    rw (p.1, p.2) (record {
      reads = λ m.
          let b = g.T.Text.bytes in
          let buffer = held c.args.buffer.now in
          let ss = with_strings c.args.strings.now m in
          let P = Shows b ss in
          (text_then buffer P name ((service, S) ∷ (resource, S) ∷ (type, S) ∷ (start, I) ∷ []) c.args.index.now c.read_string.new.index _ _ (text_reads b buffer ss c.args.index.now c.read_string.new.index c.in_ok-name.name c.in_ok-name.ensures.cases)
          (text_then buffer P service ((resource, S) ∷ (type, S) ∷ (start, I) ∷ []) c.read_string.new.index c.read_string-2.new.index _ _ (text_reads b buffer ss c.read_string.new.index c.read_string-2.new.index c.in_ok-service.service c.in_ok-service.ensures.cases)
          (text_stops buffer P resource ((type, S) ∷ (start, I) ∷ []) c.read_string-2.new.index c.read_string-2.new.index (refusal c.in_err-resource.field-0.0) (text_fails b buffer ss c.read_string-2.new.index c.read_string-3.new.index c.in_err-resource.field-0.0 c.in_err-resource.ensures.cases))));
    })

pub returns-in_err-kind : goal.returns-in_err-kind
returns-in_err-kind g c =
    let p = err_from_is_err_and c.from_residual-in_err-kind.result c.from_residual-in_err-kind.ensures.1 in
    rw (p.1, p.2) (record {
      reads = λ m.
          let b = g.T.Text.bytes in
          let buffer = held c.args.buffer.now in
          let ss = with_strings c.args.strings.now m in
          let P = Shows b ss in
          (text_then buffer P name ((service, S) ∷ (resource, S) ∷ (type, S) ∷ (start, I) ∷ []) c.args.index.now c.read_string.new.index _ _ (text_reads b buffer ss c.args.index.now c.read_string.new.index c.in_ok-name.name c.in_ok-name.ensures.cases)
          (text_then buffer P service ((resource, S) ∷ (type, S) ∷ (start, I) ∷ []) c.read_string.new.index c.read_string-2.new.index _ _ (text_reads b buffer ss c.read_string.new.index c.read_string-2.new.index c.in_ok-service.service c.in_ok-service.ensures.cases)
          (text_then buffer P resource ((type, S) ∷ (start, I) ∷ []) c.read_string-2.new.index c.read_string-3.new.index _ _ (text_reads b buffer ss c.read_string-2.new.index c.read_string-3.new.index c.in_ok-resource.resource c.in_ok-resource.ensures.cases)
          (text_stops buffer P type ((start, I) ∷ []) c.read_string-3.new.index c.read_string-3.new.index (refusal c.in_err-kind.field-0.0) (text_fails b buffer ss c.read_string-3.new.index c.read_string-4.new.index c.in_err-kind.field-0.0 c.in_err-kind.ensures.cases)))));
    })

pub returns-in_err-start : goal.returns-in_err-start
returns-in_err-start g c =
    let p = err_from_is_err_and c.from_residual-in_err-start.result c.from_residual-in_err-start.ensures.1 in
    rw (p.1, p.2) (record {
      reads = λ m.
          let b = g.T.Text.bytes in
          let buffer = held c.args.buffer.now in
          let ss = with_strings c.args.strings.now m in
          let P = Shows b ss in
          (text_then buffer P name ((service, S) ∷ (resource, S) ∷ (type, S) ∷ (start, I) ∷ []) c.args.index.now c.read_string.new.index _ _ (text_reads b buffer ss c.args.index.now c.read_string.new.index c.in_ok-name.name c.in_ok-name.ensures.cases)
          (text_then buffer P service ((resource, S) ∷ (type, S) ∷ (start, I) ∷ []) c.read_string.new.index c.read_string-2.new.index _ _ (text_reads b buffer ss c.read_string.new.index c.read_string-2.new.index c.in_ok-service.service c.in_ok-service.ensures.cases)
          (text_then buffer P resource ((type, S) ∷ (start, I) ∷ []) c.read_string-2.new.index c.read_string-3.new.index _ _ (text_reads b buffer ss c.read_string-2.new.index c.read_string-3.new.index c.in_ok-resource.resource c.in_ok-resource.ensures.cases)
          (text_then buffer P type ((start, I) ∷ []) c.read_string-3.new.index c.read_string-4.new.index _ _ (text_reads b buffer ss c.read_string-3.new.index c.read_string-4.new.index c.in_ok-kind.kind c.in_ok-kind.ensures.cases)
          (time_stops buffer P start [] c.read_string-4.new.index c.read.new.index c.in_err-start.field-0.0 c.in_err-start.ensures.cases)))));
    })

pub returns : goal.returns
returns g c = record {
  reads = λ m.
      let b = g.T.Text.bytes in
      let buffer = held c.args.buffer.now in
      let ss = with_strings c.args.strings.now m in
      let P = Shows b ss in
      let e : to_z w64 (of_z w64 c.in_ok-start.start) ≡ c.in_ok-start.start = search rules in
      subst (λ (z : ℤ). Acts (read_fields (fields_of Full)) buffer P c.args.index.now P (reached c.read.new.index (name ≔ text (b c.in_ok-name.name) ∷ service ≔ text (b c.in_ok-service.service) ∷ resource ≔ text (b c.in_ok-resource.resource) ∷ type ≔ text (b c.in_ok-kind.kind) ∷ start ≔ int z ∷ []))) (sym e)
      (text_then buffer P name ((service, S) ∷ (resource, S) ∷ (type, S) ∷ (start, I) ∷ []) c.args.index.now c.read_string.new.index _ _ (text_reads b buffer ss c.args.index.now c.read_string.new.index c.in_ok-name.name c.in_ok-name.ensures.cases)
      (text_then buffer P service ((resource, S) ∷ (type, S) ∷ (start, I) ∷ []) c.read_string.new.index c.read_string-2.new.index _ _ (text_reads b buffer ss c.read_string.new.index c.read_string-2.new.index c.in_ok-service.service c.in_ok-service.ensures.cases)
      (text_then buffer P resource ((type, S) ∷ (start, I) ∷ []) c.read_string-2.new.index c.read_string-3.new.index _ _ (text_reads b buffer ss c.read_string-2.new.index c.read_string-3.new.index c.in_ok-resource.resource c.in_ok-resource.ensures.cases)
      (text_then buffer P type ((start, I) ∷ []) c.read_string-3.new.index c.read_string-4.new.index _ _ (text_reads b buffer ss c.read_string-3.new.index c.read_string-4.new.index c.in_ok-kind.kind c.in_ok-kind.ensures.cases)
      (time_then buffer P start [] c.read_string-4.new.index c.read.new.index c.in_ok-start.start _ c.in_ok-start.ensures.cases
      (fields-none buffer P c.read.new.index))))));
}
