-- Set-up against the plain book.
use Rattle.std.proofs.Common.{◌≡◌, ℕ, List, [], length, Some, None, Ok, Option, refl, subst}
use Rattle.std.specs.List.{slice_get}
use Rattle.index.specs.declared.entry.Entry.{Entry}
use Rattle.book.specs.Book.{Text, Setup, new_book}
use Rattle.tables.specs.declared.span.Mark.TheVariants.{Free}
use Rattle.tables.specs.declared.span.Span.{Span}
use Rattle.tables.specs.declared.segment.Segment.{Segment}
use Rattle.tables.specs.Store.{Store, store}
use Rattle.tables.specs.InOrder.{Sized}
use Rattle.tables.specs.Shows.{Shows}
use Rattle.tables.proofs.Emptied.{emptied}
use Rattle.recorder.specs.Setup.{SetsUp, fresh}

module _ {T : Type 0} (bytes : T → Text) (m : Store T) (xs : List (Span T)) (gs : List (Segment T)) (ss : List (Option T)) (ids : List Entry) (room : ℕ) (seats : List Entry) (seats_room : ℕ) (s l : T) (p : ℕ) where
  abbrev pub cleared : Store T
  cleared = store xs m.span_meta m.span_metrics gs m.segment_meta m.segment_metrics ss m.defaults (fresh s l p) ids room seats seats_room

  sized_again : length xs ≡ length m.spans → length gs ≡ length m.segments → length ss ≡ length m.strings → room ≡ m.ids_room → seats_room ≡ m.seats_room → Sized m → Sized cleared
  sized_again a b c r q z = record {
    span_lengths = rw (a, r) z.span_lengths;
    segment_lengths = rw (b, q) z.segment_lengths;
    others = rw c z.others;
  }

  pub started : Sized m
      → length xs ≡ length m.spans → ((k : ℕ) (x : Span T) → slice_get xs k ≡ Some x → x.mark ≡ Free)
      → length gs ≡ length m.segments → ((k : ℕ) (x : Segment T) → slice_get gs k ≡ Some x → x.count ≡ 0)
      → length ss ≡ length m.strings → ((k : ℕ) (x : Option T) → slice_get ss k ≡ Some x → x ≡ None)
      → ids ≡ [] → room ≡ m.ids_room → seats ≡ [] → seats_room ≡ m.seats_room
      → SetsUp bytes s l p m cleared (Ok tt)
  started z a free b ended c none i r j q = (
    z,
    subst (λ (u : Setup). Shows bytes cleared (new_book u))
        (rw (a, b, c) refl)
        (emptied bytes cleared (sized_again a b c r q z) free ended none i j refl),
    record { span_meta = refl; span_metrics = refl; segment_meta = refl; segment_metrics = refl; defaults = refl; ids_room = r; seats_room = q },
  )
