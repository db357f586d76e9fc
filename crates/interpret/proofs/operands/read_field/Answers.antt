use Rattle.std.proofs.Common.{◌≡◌, ℤ, refl, ap, w32, w64, to_z, of_z, rules}
use Rattle.std.proofs.lemmas.Result.{err_from_is_err_and}
use Rattle.layout.specs.Reads.{held}
use Rattle.book.specs.Book.{service, resource, type, name, error, start, duration, int, ◌≔◌}
use Rattle.book.specs.Acts.{reached}
use Rattle.recorder.specs.Answers.{refusal}
use Rattle.recorder.specs.Strings.{with_strings}
use Rattle.interpret.specs.Attributes.{attribute_of}
use Rattle.interpret.proofs.Reading.{text_reads, text_fails}
use Rattle.interpret.proofs.Playing.{as_attribute, text_field_reads, text_field_fails, time_field_reads, time_field_fails, error_reads, error_fails}
use Rattle.interpret.proofs.operands.read_field.Goals as goal

pub returns-in_err-read_string-in-Service : goal.returns-in_err-read_string-in-Service
returns-in_err-read_string-in-Service g c =
    let p = err_from_is_err_and c.from_residual.result c.from_residual.ensures.1 in
    rw (p.1, p.2) (record {
      reads = λ m.
          as_attribute (held c.args.buffer.now) _ c.args.index.now _ _ _ _ (ap attribute_of c.in-Service.is) refl
          (text_field_fails (held c.args.buffer.now) _ c.args.index.now service (refusal c.in_err-read_string-in-Service.field-0.0)
          (text_fails g.T.Text.bytes (held c.args.buffer.now) (with_strings c.args.strings.now m) c.args.index.now c.read_string.new.index c.in_err-read_string-in-Service.field-0.0 c.in_err-read_string-in-Service.ensures.cases));
    })

pub returns-in_ok-read_string-in-Service : goal.returns-in_ok-read_string-in-Service
returns-in_ok-read_string-in-Service g c = record {
  reads = λ m.
      as_attribute (held c.args.buffer.now) _ c.args.index.now _ _ _ _ (ap attribute_of c.in-Service.is) refl
      (text_field_reads (held c.args.buffer.now) _ c.args.index.now service c.read_string.new.index _
      (text_reads g.T.Text.bytes (held c.args.buffer.now) (with_strings c.args.strings.now m) c.args.index.now c.read_string.new.index c.in_ok-read_string-in-Service.field-0 c.in_ok-read_string-in-Service.ensures.cases));
}

pub returns-in_err-read_string-in-Resource : goal.returns-in_err-read_string-in-Resource
returns-in_err-read_string-in-Resource g c =
    let p = err_from_is_err_and c.from_residual-in_err-read_string-in-Resource.result c.from_residual-in_err-read_string-in-Resource.ensures.1 in
    rw (p.1, p.2) (record {
      reads = λ m.
          as_attribute (held c.args.buffer.now) _ c.args.index.now _ _ _ _ (ap attribute_of c.in-Resource.is) refl
          (text_field_fails (held c.args.buffer.now) _ c.args.index.now resource (refusal c.in_err-read_string-in-Resource.field-0.0)
          (text_fails g.T.Text.bytes (held c.args.buffer.now) (with_strings c.args.strings.now m) c.args.index.now c.read_string-in-Resource.new.index c.in_err-read_string-in-Resource.field-0.0 c.in_err-read_string-in-Resource.ensures.cases));
    })

pub returns-in_ok-read_string-in-Resource : goal.returns-in_ok-read_string-in-Resource
returns-in_ok-read_string-in-Resource g c = record {
  reads = λ m.
      as_attribute (held c.args.buffer.now) _ c.args.index.now _ _ _ _ (ap attribute_of c.in-Resource.is) refl
      (text_field_reads (held c.args.buffer.now) _ c.args.index.now resource c.read_string-in-Resource.new.index _
      (text_reads g.T.Text.bytes (held c.args.buffer.now) (with_strings c.args.strings.now m) c.args.index.now c.read_string-in-Resource.new.index c.in_ok-read_string-in-Resource.field-0 c.in_ok-read_string-in-Resource.ensures.cases));
}

pub returns-in_err-read_string-in-Kind : goal.returns-in_err-read_string-in-Kind
returns-in_err-read_string-in-Kind g c =
    let p = err_from_is_err_and c.from_residual-in_err-read_string-in-Kind.result c.from_residual-in_err-read_string-in-Kind.ensures.1 in
    rw (p.1, p.2) (record {
      reads = λ m.
          as_attribute (held c.args.buffer.now) _ c.args.index.now _ _ _ _ (ap attribute_of c.in-Kind.is) refl
          (text_field_fails (held c.args.buffer.now) _ c.args.index.now type (refusal c.in_err-read_string-in-Kind.field-0.0)
          (text_fails g.T.Text.bytes (held c.args.buffer.now) (with_strings c.args.strings.now m) c.args.index.now c.read_string-in-Kind.new.index c.in_err-read_string-in-Kind.field-0.0 c.in_err-read_string-in-Kind.ensures.cases));
    })

pub returns-in_ok-read_string-in-Kind : goal.returns-in_ok-read_string-in-Kind
returns-in_ok-read_string-in-Kind g c = record {
  reads = λ m.
      as_attribute (held c.args.buffer.now) _ c.args.index.now _ _ _ _ (ap attribute_of c.in-Kind.is) refl
      (text_field_reads (held c.args.buffer.now) _ c.args.index.now type c.read_string-in-Kind.new.index _
      (text_reads g.T.Text.bytes (held c.args.buffer.now) (with_strings c.args.strings.now m) c.args.index.now c.read_string-in-Kind.new.index c.in_ok-read_string-in-Kind.field-0 c.in_ok-read_string-in-Kind.ensures.cases));
}

pub returns-in_err-read_string-in-Name : goal.returns-in_err-read_string-in-Name
returns-in_err-read_string-in-Name g c =
    let p = err_from_is_err_and c.from_residual-in_err-read_string-in-Name.result c.from_residual-in_err-read_string-in-Name.ensures.1 in
    rw (p.1, p.2) (record {
      reads = λ m.
          as_attribute (held c.args.buffer.now) _ c.args.index.now _ _ _ _ (ap attribute_of c.in-Name.is) refl
          (text_field_fails (held c.args.buffer.now) _ c.args.index.now name (refusal c.in_err-read_string-in-Name.field-0.0)
          (text_fails g.T.Text.bytes (held c.args.buffer.now) (with_strings c.args.strings.now m) c.args.index.now c.read_string-in-Name.new.index c.in_err-read_string-in-Name.field-0.0 c.in_err-read_string-in-Name.ensures.cases));
    })

pub returns-in_ok-read_string-in-Name : goal.returns-in_ok-read_string-in-Name
returns-in_ok-read_string-in-Name g c = record {
  reads = λ m.
      as_attribute (held c.args.buffer.now) _ c.args.index.now _ _ _ _ (ap attribute_of c.in-Name.is) refl
      (text_field_reads (held c.args.buffer.now) _ c.args.index.now name c.read_string-in-Name.new.index _
      (text_reads g.T.Text.bytes (held c.args.buffer.now) (with_strings c.args.strings.now m) c.args.index.now c.read_string-in-Name.new.index c.in_ok-read_string-in-Name.field-0 c.in_ok-read_string-in-Name.ensures.cases));
}

pub returns-in_err-read-in-Error : goal.returns-in_err-read-in-Error
returns-in_err-read-in-Error g c =
    let p = err_from_is_err_and c.from_residual-in_err-read-in-Error.result c.from_residual-in_err-read-in-Error.ensures.1 in
    rw (p.1, p.2) (record {
      reads = λ m.
          as_attribute (held c.args.buffer.now) _ c.args.index.now _ _ _ _ (ap attribute_of c.in-Error.is) refl
          (error_fails (held c.args.buffer.now) _ c.args.index.now c.read.new.index c.in_err-read-in-Error.field-0.0 c.in_err-read-in-Error.ensures.cases);
    })

pub returns-in_ok-read-in-Error : goal.returns-in_ok-read-in-Error
returns-in_ok-read-in-Error g c = record {
  reads = λ m.
      let k : to_z w32 (of_z w32 c.in_ok-read-in-Error.field-0) ≡ c.in_ok-read-in-Error.field-0 = search rules in
      as_attribute (held c.args.buffer.now) _ c.args.index.now _ _ _ _ (ap attribute_of c.in-Error.is) (ap (λ (z : ℤ). reached c.read.new.index (error ≔ int z)) k)
      (error_reads (held c.args.buffer.now) _ c.args.index.now c.read.new.index c.in_ok-read-in-Error.field-0 c.in_ok-read-in-Error.ensures.cases);
}

pub returns-in_err-read-in-Start : goal.returns-in_err-read-in-Start
returns-in_err-read-in-Start g c =
    let p = err_from_is_err_and c.from_residual-in_err-read-in-Start.result c.from_residual-in_err-read-in-Start.ensures.1 in
    rw (p.1, p.2) (record {
      reads = λ m.
          as_attribute (held c.args.buffer.now) _ c.args.index.now _ _ _ _ (ap attribute_of c.in-Start.is) refl
          (time_field_fails (held c.args.buffer.now) _ c.args.index.now start c.read-in-Start.new.index c.in_err-read-in-Start.field-0.0 c.in_err-read-in-Start.ensures.cases);
    })

pub returns-in_ok-read-in-Start : goal.returns-in_ok-read-in-Start
returns-in_ok-read-in-Start g c = record {
  reads = λ m.
      let k : to_z w64 (of_z w64 c.in_ok-read-in-Start.field-0) ≡ c.in_ok-read-in-Start.field-0 = search rules in
      as_attribute (held c.args.buffer.now) _ c.args.index.now _ _ _ _ (ap attribute_of c.in-Start.is) (ap (λ (z : ℤ). reached c.read-in-Start.new.index (start ≔ int z)) k)
      (time_field_reads (held c.args.buffer.now) _ c.args.index.now start c.read-in-Start.new.index c.in_ok-read-in-Start.field-0 c.in_ok-read-in-Start.ensures.cases);
}

pub returns-in_err-read-in-Duration : goal.returns-in_err-read-in-Duration
returns-in_err-read-in-Duration g c =
    let p = err_from_is_err_and c.from_residual-in_err-read-in-Duration.result c.from_residual-in_err-read-in-Duration.ensures.1 in
    rw (p.1, p.2) (record {
      reads = λ m.
          as_attribute (held c.args.buffer.now) _ c.args.index.now _ _ _ _ (ap attribute_of c.in-Duration.is) refl
          (time_field_fails (held c.args.buffer.now) _ c.args.index.now duration c.read-in-Duration.new.index c.in_err-read-in-Duration.field-0.0 c.in_err-read-in-Duration.ensures.cases);
    })

pub returns-in_ok-read-in-Duration : goal.returns-in_ok-read-in-Duration
returns-in_ok-read-in-Duration g c = record {
  reads = λ m.
      let k : to_z w64 (of_z w64 c.in_ok-read-in-Duration.field-0) ≡ c.in_ok-read-in-Duration.field-0 = search rules in
      as_attribute (held c.args.buffer.now) _ c.args.index.now _ _ _ _ (ap attribute_of c.in-Duration.is) (ap (λ (z : ℤ). reached c.read-in-Duration.new.index (duration ≔ int z)) k)
      (time_field_reads (held c.args.buffer.now) _ c.args.index.now duration c.read-in-Duration.new.index c.in_ok-read-in-Duration.field-0 c.in_ok-read-in-Duration.ensures.cases);
}
