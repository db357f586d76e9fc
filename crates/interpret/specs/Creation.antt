-- A create's operands: which fields they give, the writings that they stand for, and what they leave blank.
use Rattle.std.specs.Prelude.{◌≡◌, ℕ, ◌+◌, ◌*◌, ◌^◌, List, [], ◌∷◌, ℤ, pos}
use Rattle.book.specs.Book.{Text, Field, trace, parent, service, name, resource, type, start, text, word, int, Writing, ◌≔◌}
use Rattle.book.specs.Actions.{Act, ◌>>=◌, give, read}
use Rattle.book.specs.Flush.{Operand, S, I, read_fields}
use Rattle.operations.specs.declared.values.Making.{Making}
use Rattle.interpret.specs.declared.creation.Extra.{Extra}
use Rattle.interpret.specs.declared.creation.Extra.TheVariants.{Bare, Named, Full}
use Rattle.interpret.specs.declared.creation.Creation.{Creation}

-- the fields in the order of their operands
abbrev pub fields_of : Extra → List (Field × Operand)
fields_of Bare = []
fields_of Named = (name, S) ∷ (start, I) ∷ []
fields_of Full = (name, S) ∷ (service, S) ∷ (resource, S) ∷ (type, S) ∷ (start, I) ∷ []

-- a create's reads: the segment's id, and the writings
unfoldable pub read_create : List (Field × Operand) → Act (ℕ × List Writing)
read_create fs = read 16 >>= (λ t. read 8 >>= (λ s. read 8 >>= (λ p. read_fields fs >>= (λ ws. give (s, trace ≔ word t ∷ parent ≔ word p ∷ ws)))))

module _ {T : Type 0} (bytes : T → Text) where
  -- the writings of fields with these values
  abbrev pub fields_written : Extra → (service name resource kind : T) → (start : ℤ) → List Writing
  fields_written Bare s n r k i = []
  fields_written Named s n r k i = name ≔ text (bytes n) ∷ start ≔ int i ∷ []
  fields_written Full s n r k i = name ≔ text (bytes n) ∷ service ≔ text (bytes s) ∷ resource ≔ text (bytes r) ∷ type ≔ text (bytes k) ∷ start ≔ int i ∷ []

  abbrev pub made_writings : Extra → Making T → List Writing
  made_writings extra k = fields_written extra k.service k.name k.resource k.kind k.start

  -- what has no operand is empty, or 0
  abbrev pub Blank : Extra → (service name resource kind : T) → (start : ℤ) → Type 0
  Blank Bare s n r k i = (bytes s ≡ []) × (bytes n ≡ []) × (bytes r ≡ []) × (bytes k ≡ []) × (i ≡ pos 0)
  Blank Named s n r k i = (bytes s ≡ []) × (bytes r ≡ []) × (bytes k ≡ [])
  Blank Full s n r k i = Unit {0}

  abbrev pub RestBlank : Extra → Making T → Type 0
  RestBlank extra k = Blank extra k.service k.name k.resource k.kind k.start

  -- the segment's id, and all writings of a create
  abbrev pub creation_of : Extra → Creation T → ℕ × List Writing
  creation_of extra c = (
    c.segment,
    trace ≔ word (c.making.trace.low + 2 ^ 64 * c.making.trace.high) ∷ parent ≔ word c.making.parent
        ∷ made_writings extra c.making,
  )
