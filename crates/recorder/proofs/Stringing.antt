-- The calls on the string table against the plain book.
use Rattle.std.proofs.Common.{◌≡◌, ℕ, ◌<◌, ◌≤◌, true, false, ltb, List, length, set, Some, None, Ok, Err, Option, sym, refl, ap, ◌∙◌, subst, inl, inr, length-set, le-ltb, lt-ltb}
use Rattle.std.proofs.lemmas.List.{set_past}
use Rattle.std.proofs.lemmas.Option.{slice_get_past}
use Rattle.std.proofs.lemmas.Bool.{cases_eq, cases_lt}
use Rattle.std.specs.List.{slice_get}
use Rattle.refusals.specs.declared.ChangeBufferError.{ChangeBufferError}
use Rattle.refusals.specs.declared.ChangeBufferError.TheVariants.{KeyBeyond}
use Rattle.book.specs.Maps.{Map, find, put, remove}
use Rattle.book.specs.Book.{Text, Setup, Book}
use Rattle.book.specs.Book as book
use Rattle.book.specs.Calls.{string_insert, string_evict}
use Rattle.book.specs.Refusals.{because, key_beyond, accepted, refused}
use Rattle.book.proofs.Maps.{find-put, find-put-other, find-remove, find-remove-other, remove_absent}
use Rattle.tables.specs.Store.{Store}
use Rattle.tables.specs.InOrder.{InOrder, OthersInOrder}
use Rattle.tables.specs.Shows.{Shows, string_of, string_at}
use Rattle.tables.proofs.Places.{nth_set-same, nth_set-other}
use Rattle.recorder.specs.Performs.{Changes}
use Rattle.recorder.specs.Strings.{with_strings, written}

-- a string table of the same length
module _ {T : Type 0} (m : Store T) (ss : List (Option T)) (e : length ss ≡ length m.strings) where
  strings-order : InOrder m → InOrder (with_strings ss m)
  strings-order o = record {
    span_lengths = o.span_lengths;
    segment_lengths = o.segment_lengths;
    others = subst (λ (n : ℕ). OthersInOrder n (length m.defaults) m.settings.defaults) (sym e) o.others;
    spans = o.spans;
    segments = o.segments;
  }

  strings-shown : (bytes : T → Text) (b : Book) (map : Map Text) → Shows bytes m b → ((j : ℕ) → string_at bytes ss j ≡ find j map)
      → Shows bytes (with_strings ss m) (book.with_strings map b)
  strings-shown bytes b map s same = record {
    order = strings-order s.order;
    setup =
        ap (λ n. record { service = bytes m.settings.service; language = bytes m.settings.language; pid = m.settings.pid; spans = length m.spans; segments = length m.segments; strings = n }) e
        ∙ s.setup;
    strings = same;
    defaults = s.defaults;
    live = s.live;
    handed = s.handed;
    segments = s.segments;
  }

module _ {T : Type 0} (bytes : T → Text) where
  -- one place is written, and the map changes there alone
  write-there : (ss : List (Option T)) (m m' : Map Text) (k : ℕ) (x : Option T) → k < length ss → ((j : ℕ) → string_at bytes ss j ≡ find j m)
      → find k m' ≡ string_of bytes (Some x) → ((j : ℕ) → (j ≡ k → ⊥) → find j m' ≡ find j m)
      → (j : ℕ) → string_at bytes (set ss k x) j ≡ find j m'
  write-there ss m m' k x lt same here else j =
      elim (cases_eq j k) [
        | inl e ↦ ap (λ n. string_of bytes (slice_get (set ss k x) n)) e ∙ (ap (string_of bytes) (nth_set-same ss k x lt) ∙ (sym here ∙ ap (λ n. find n m') (sym e)))
        | inr n ↦ ap (string_of bytes) (nth_set-other ss k j x n) ∙ (same j ∙ sym (else j n))
      ]

  -- the length of the string table is the book's
  table-length : (m : Store T) (b : Book) → Shows bytes m b → b.setup.strings ≡ length m.strings
  table-length m b s = ap (λ u. u.strings) (sym s.setup)

  pub inserted : (m : Store T) (k : ℕ) (t : T) → InOrder m → k < length m.strings
      → Changes bytes (string_insert k (bytes t)) (written {E = ChangeBufferError} k (Some t) (Ok tt)) m (with_strings (set m.strings k (Some t)) m) accepted
  inserted m k t o lt = record {
    call = record {
      untouched = λ n. absurd (n o);
      shows = λ b s.
          let test : ltb k b.setup.strings ≡ true = lt-ltb k b.setup.strings (subst (λ (n : ℕ). k < n) (sym (table-length m b s)) lt) in
          let same = write-there m.strings b.strings (put k (bytes t) b.strings) k (Some t) lt s.strings (find-put k (bytes t) b.strings) (λ j n. find-put-other k j (bytes t) b.strings n) in
          rw test (strings-shown m (set m.strings k (Some t)) (length-set m.strings k (Some t)) bytes b (put k (bytes t) b.strings) s same, refl);
    };
    after = refl;
  }

  pub beyond : (m : Store T) (k : ℕ) (t : T) → InOrder m → length m.strings ≤ k
      → Changes bytes (string_insert k (bytes t)) (written k (Some t) (Err KeyBeyond)) m m (refused (because key_beyond))
  beyond m k t o le = record {
    call = record {
      untouched = λ n. absurd (n o);
      shows = λ b s.
          let test : ltb k b.setup.strings ≡ false = le-ltb k b.setup.strings (subst (λ (n : ℕ). n ≤ k) (sym (table-length m b s)) le) in
          rw test (s, refl);
    };
    after = refl;
  }

  -- past the end there is nothing to take out
  none-there : (m : Store T) (b : Book) (k : ℕ) → Shows bytes m b → length m.strings ≤ k → remove k b.strings ≡ b.strings
  none-there m b k s le = remove_absent k b.strings (sym (s.strings k) ∙ ap (string_of bytes) (slice_get_past m.strings k le))

  evict-strings : (m : Store T) (b : Book) (k : ℕ) → Shows bytes m b → (j : ℕ) → string_at bytes (set m.strings k None) j ≡ find j (remove k b.strings)
  evict-strings m b k s =
      elim (cases_lt k (length m.strings)) [
        | inl lt ↦ write-there m.strings b.strings (remove k b.strings) k None lt s.strings (find-remove k b.strings) (λ j n. find-remove-other k j b.strings n)
        | inr le ↦ λ j. ap (λ ss. string_at bytes ss j) (set_past m.strings k None le) ∙ (s.strings j ∙ ap (λ x. find j x) (sym (none-there m b k s le)))
      ]

  pub evicted : (m : Store T) (k : ℕ) (after : List (Option T)) → InOrder m → after ≡ set m.strings k None
      → Changes bytes (string_evict k) (written {E = ChangeBufferError} k None (Ok tt)) m (with_strings after m) accepted
  evicted m k after o e = record {
    call = record {
      untouched = λ n. absurd (n o);
      shows = λ b s. (
        subst (λ (ss : List (Option T)). Shows bytes (with_strings ss m) (book.with_strings (remove k b.strings) b)) (sym e)
            (strings-shown m (set m.strings k None) (length-set m.strings k None) bytes b (remove k b.strings) s (evict-strings m b k s)),
        refl,
      );
    };
    after = ap (λ ss. with_strings ss m) e;
  }
