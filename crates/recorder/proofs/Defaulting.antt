-- The call on the default pairs against the plain book.
use Rattle.std.proofs.Common.{◌≡◌, ℕ, ◌<◌, ◌≤◌, true, false, leb, List, ◌++◌, map, length, drop, Ok, Err, Result, sym, refl, ap, subst, arith, length-append, length-drop, le-leb}
use borrow.Author.Tests.{lt-leb}
use Rattle.std.proofs.lemmas.List.{length-map, take_at}
use Rattle.refusals.specs.declared.ChangeBufferError.{ChangeBufferError}
use Rattle.book.specs.Book.{Text, Book}
use Rattle.book.specs.Book as book
use Rattle.book.specs.Calls.{default_meta, step}
use Rattle.tables.specs.declared.settings.Settings.{Settings}
use Rattle.tables.specs.Store.{Store}
use Rattle.tables.specs.InOrder.{InOrder}
use Rattle.tables.specs.Shows.{Shows, text_pair}
use Rattle.recorder.specs.Answers.{answer}
use Rattle.recorder.specs.Defaults.{with_count, with_defaults, Replaces, replaced}
use Rattle.recorder.specs.Performs.{Changes}

module _ {T : Type 0} (bytes : T → Text) where
  defaults-shown : (m : Store T) (pairs : List (T × T)) (b : Book) → length pairs ≤ 32 → Shows bytes m b
      → Shows bytes (with_defaults (pairs ++ drop (length pairs) m.defaults) (with_count (length pairs) m.settings) m) (book.with_defaults (map (text_pair bytes) pairs) b)
  defaults-shown m pairs b le s = record {
    order = record {
      span_lengths = s.order.span_lengths;
      segment_lengths = s.order.segment_lengths;
      others = record {
        some_strings = s.order.others.some_strings;
        few_strings = s.order.others.few_strings;
        default_table =
            let t = s.order.others.default_table in
            simp (length-append, length-drop) (omega arith);
        few_defaults = le;
      };
      spans = s.order.spans;
      segments = s.order.segments;
    };
    setup = s.setup;
    strings = s.strings;
    defaults = ap (map (text_pair bytes)) (take_at pairs (drop (length pairs) m.defaults) (length pairs) refl);
    live = s.live;
    handed = s.handed;
    segments = s.segments;
  }

  replace_shows : (m : Store T) (pairs ds : List (T × T)) (t : Settings T) (r : Result (Unit {0}) ChangeBufferError) → Replaces pairs m.defaults ds m.settings t r
      → (b : Book) → Shows bytes m b
      → Shows bytes (with_defaults ds t m) (step (default_meta (map (text_pair bytes) pairs)) b).0 × (answer r ≡ (step (default_meta (map (text_pair bytes) pairs)) b).1)
  replace_shows m pairs ds t (Ok x) i b s =
      let test : leb (length (map (text_pair bytes) pairs)) 32 ≡ true = le-leb _ 32 (subst (λ (n : ℕ). n ≤ 32) (sym (length-map pairs (text_pair bytes))) i.0) in
      rw test (
        rw (i.1, i.2) (defaults-shown m pairs b i.0 s),
        refl,
      )
  replace_shows m pairs ds t (Err e) i b s =
      let test : leb (length (map (text_pair bytes) pairs)) 32 ≡ false = lt-leb _ 32 (subst (λ (n : ℕ). 32 < n) (sym (length-map pairs (text_pair bytes))) i.0) in
      rw test (rw (i.2, i.3) s, ap (λ x. answer (Err x)) i.1)

  replace_after : (m : Store T) (pairs ds : List (T × T)) (t : Settings T) (r : Result (Unit {0}) ChangeBufferError) → Replaces pairs m.defaults ds m.settings t r
      → with_defaults ds t m ≡ replaced pairs r m
  replace_after m pairs ds t (Ok x) i = rw (i.1, i.2)
  replace_after m pairs ds t (Err e) i = rw (i.2, i.3)

  pub replacing : (m : Store T) (pairs ds : List (T × T)) (t : Settings T) (r : Result (Unit {0}) ChangeBufferError) → InOrder m → Replaces pairs m.defaults ds m.settings t r
      → Changes bytes (default_meta (map (text_pair bytes) pairs)) (replaced pairs r) m (with_defaults ds t m) (answer r)
  replacing m pairs ds t r o i = record {
    call = record { untouched = λ n. absurd (n o); shows = replace_shows m pairs ds t r i };
    after = replace_after m pairs ds t r i;
  }
