-- Creates and charges move a segment's count; strings are found as they were inserted.
use Rattle.std.proofs.Common.{◌≡◌, ℕ, suc, ◌-◌, ◌≤◌, Bool, true, false, cond, ltb, leb, Some, None, Option, refl, ap, ◌∙◌, arith}
use Rattle.std.proofs.lemmas.Bool.{leb-true, le-leb, lt-ltb}
use Rattle.book.specs.Maps.{Map, find, put, remove}
use Rattle.book.specs.Book.{Text, Segment, count, Book, with_strings}
use Rattle.book.specs.Refusals.{because, key_beyond, Answer, accepted, refused}
use Rattle.book.specs.Flush.{one_more}
use Rattle.book.specs.Chunk.{charged, charge_one}
use Rattle.book.specs.Counting.{count_of, count_in, Covered, Counts_move}
use Rattle.book.specs.Laws.{StringsFound}
use Rattle.book.proofs.Maps.{find-put, find-put-other, find-remove, find-remove-other}

more : (s : ℕ) (m : Map Segment) (o : Option Segment) → find s m ≡ o → Covered m → count (one_more o) ≡ suc (count_of o)
more s m None e c = refl
more s m (Some g) e c = let h : g.charged ≤ g.created = c s g e in omega arith

-- the charge, by whether the segment stands and what its count is
module _ (n s : ℕ) (m : Map Segment) where
  below : (g : Segment) (t : Bool) → leb (count g) n ≡ t → count_in s (cond t (remove s m) (put s (charged n g) m)) ≡ count g - n
  below g true h = ap count_of (find-remove s m) ∙ omega (arith, leb-true (count g) n h)
  below g false h = ap count_of (find-put s (charged n g) m) ∙ omega arith

  takes : (o : Option Segment) → find s m ≡ o → count_in s (charge_one n s o m) ≡ count_of o - n
  takes None e = ap count_of e ∙ omega arith
  takes (Some g) e = below g (leb (count g) n) refl

  ends : (o : Option Segment) → find s m ≡ o → count_of o ≤ n → find s (charge_one n s o m) ≡ None
  ends None e h = e
  ends (Some g) e h = ap (λ t. find s (cond t (remove s m) (put s (charged n g) m))) (le-leb (count g) n h) ∙ find-remove s m

  other : (q : ℕ) → (q ≡ s → ⊥) → (o : Option Segment) → find q (charge_one n s o m) ≡ find q m
  other q h None = refl
  other q h (Some g) = by (leb (count g) n)
    where
      by : (t : Bool) → find q (cond t (remove s m) (put s (charged n g) m)) ≡ find q m
      by true = find-remove-other s q m h
      by false = find-put-other s q (charged n g) m h

pub counts_move : Counts_move
counts_move = record {
  create = λ id s ws b c. ap count_of (find-put s (one_more (find s b.segments)) b.segments) ∙ more s b.segments (find s b.segments) refl c;
  create_other = λ id s q ws b h. find-put-other s q (one_more (find s b.segments)) b.segments h;
  charge_takes = λ n s m. takes n s m (find s m) refl;
  charge_ends = λ n s m h. ends n s m (find s m) refl h;
  charge_other = λ n s q m h. other n s m q h (find s m);
}

-- ---- strings

inserted-other : (k q : ℕ) (t : Text) (b : Book) → (q ≡ k → ⊥) → (x : Bool) →
    find q (cond {A = Book × Answer} x (with_strings (put k t b.strings) b, accepted) (b, refused (because key_beyond))).0.strings ≡ find q b.strings
inserted-other k q t b h true = find-put-other k q t b.strings h
inserted-other k q t b h false = refl

pub strings-found : StringsFound
strings-found = record {
  insert = λ k t b h.
      ap (λ x. find k (cond {A = Book × Answer} x (with_strings (put k t b.strings) b, accepted) (b, refused (because key_beyond))).0.strings) (lt-ltb k b.setup.strings h)
      ∙ find-put k t b.strings;
  insert_other = λ k q t b h. inserted-other k q t b h (ltb k b.setup.strings);
  evict = λ k b. find-remove k b.strings;
  evict_other = λ k q b h. find-remove-other k q b.strings h;
}
