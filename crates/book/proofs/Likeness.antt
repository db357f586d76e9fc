-- Equal books are alike.
use Rattle.std.proofs.Common.{◌≡◌, refl, subst}
use Rattle.book.specs.Maps.{find}
use Rattle.book.specs.Book.{Span, Segment, Book}
use Rattle.book.proofs.Boths.{both_self}
use Rattle.book.specs.Alike.{AlikeSpans, AlikeSegments, Alike}

pub span-itself : (s : Span) → AlikeSpans s s
span-itself s = record
    { same_id = refl; same_segment = refl; fields = λ f. refl; text_row = refl; number_row = refl; text_lookups = λ k. refl; number_lookups = λ k. refl }

pub segment-itself : (g : Segment) → AlikeSegments g g
segment-itself g = record
    { same_count = refl; fields = λ f. refl; text_row = refl; number_row = refl; text_lookups = λ k. refl; number_lookups = λ k. refl }

pub book_itself : (b : Book) → Alike b b
book_itself b = record {
  setup = refl;
  live = λ id. both_self AlikeSpans span-itself (find id b.live);
  handed = λ n. both_self AlikeSpans span-itself (find n b.handed);
  segments = λ id. both_self AlikeSegments segment-itself (find id b.segments);
  standing = refl;
  strings = λ k. refl;
  defaults = refl;
  three = refl;
}

pub equal_alike : (b c : Book) → b ≡ c → Alike b c
equal_alike b c e = subst (λ x. Alike b x) e (book_itself b)
