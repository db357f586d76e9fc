-- Every run from set-up keeps the book sound.
use Rattle.std.proofs.Common.{◌≡◌, ℕ, ◌<◌, ◌≤◌, Bool, true, false, cond, ltb, leb, List, [], ◌∷◌, length, Some, None, Option, refl, ap, arith, lit≤}
use lib.Ieee.{Float}
use Rattle.std.proofs.lemmas.Bool.{leb-true, ltb-true}
use Rattle.book.specs.Limits.{most_defaults}
use Rattle.book.specs.Maps.{Map, find, put, remove, Each}
use Rattle.book.specs.Book.{Text, rule, limit, agent, ◌≔◌, Segment, note, Setup, Book, new_book, with_strings, with_defaults}
use Rattle.book.specs.Refusals.{because, key_beyond, too_many_defaults, Answer, accepted, refused}
use Rattle.book.specs.Calls.{Call, string_insert, string_evict, default_meta, decisions, change_buffer, flush_chunk, recycle_spans, get_span, get_segment, get_handed, get_numbers, decision, decided, step, run}
use Rattle.book.specs.Sound.{Standing, RunsKeep}
use Rattle.book.proofs.Maps.{each-put, each-remove}
use Rattle.book.proofs.Sounding.{Good, good_note, good_flush}
use Rattle.book.proofs.Handing.{good_chunk, good_returns}

no_entry : {V : Type 0} (P : ℕ → V → Type 0) → Each P []
no_entry P k v e = let w : ◌≡◌ {A = ℕ} 0 1 = cc in let no_way : ⊥ = omega arith in absurd no_way

pub good_new : (u : Setup) → Good u (new_book u)
good_new u = (
  refl,
  record {
    live_once = tt;
    handed_once = tt;
    segments_once = tt;
    live_spans = no_entry _;
    handed_spans = no_entry _;
    standing = no_entry _;
    strings = no_entry _;
    defaults = lit≤ tt;
    records = omega arith;
    places = omega arith;
  },
)

module _ (u : Setup) where
  good_strings : (b : Book) (m : Map Text) → Good u b → Each (λ k t. k < b.setup.strings) m → Good u (with_strings m b)
  good_strings b m (e, s) h = (
    e,
    record {
      live_once = s.live_once;
      handed_once = s.handed_once;
      segments_once = s.segments_once;
      live_spans = s.live_spans;
      handed_spans = s.handed_spans;
      standing = s.standing;
      strings = h;
      defaults = s.defaults;
      records = s.records;
      places = s.places;
    },
  )

  good_defaults : (b : Book) (ps : List (Text × Text)) → Good u b → length ps ≤ most_defaults → Good u (with_defaults ps b)
  good_defaults b ps (e, s) h = (
    e,
    record {
      live_once = s.live_once;
      handed_once = s.handed_once;
      segments_once = s.segments_once;
      live_spans = s.live_spans;
      handed_spans = s.handed_spans;
      standing = s.standing;
      strings = s.strings;
      defaults = h;
      records = s.records;
      places = s.places;
    },
  )

  good_insert : (b : Book) (k : ℕ) (t : Text) → Good u b → (x : Bool) → ltb k b.setup.strings ≡ x → Good u (cond {A = Book × Answer} x (with_strings (put k t b.strings) b, accepted) (b, refused (because key_beyond))).0
  good_insert b k t g true e = good_strings b (put k t b.strings) g (each-put (λ k t. k < b.setup.strings) k t b.strings g.1.strings (ltb-true k b.setup.strings e))
  good_insert b k t g false e = g

  good_pairs : (b : Book) (ps : List (Text × Text)) → Good u b → (x : Bool) → leb (length ps) most_defaults ≡ x → Good u (cond {A = Book × Answer} x (with_defaults ps b, accepted) (b, refused (because too_many_defaults))).0
  good_pairs b ps g true e = good_defaults b ps g (leb-true (length ps) most_defaults e)
  good_pairs b ps g false e = g

  good_decided : (b : Book) (id : ℕ) (r l a : Option Float) → Good u b → (o : Option Segment) → find id b.segments ≡ o → Good u (decided b id r l a o).0
  good_decided b id r l a g None e = g
  good_decided b id r l a g (Some x) e =
      let s : Standing id x = g.1.standing id x e in
      good_note u b id x (note (agent ≔ decision a) (note (limit ≔ decision l) (note (rule ≔ decision r) x))) g e (record { stands = s.stands; counted = s.counted; within = s.within })

  pub good_step : (c : Call) (b : Book) → Good u b → Good u (step c b).0
  good_step (string_insert k t) b g = good_insert b k t g (ltb k b.setup.strings) refl
  good_step (string_evict k) b g = good_strings b (remove k b.strings) g (each-remove (λ k t. k < b.setup.strings) k b.strings g.1.strings)
  good_step (default_meta ps) b g = good_pairs b ps g (leb (length ps) most_defaults) refl
  good_step (decisions id r l a) b g = good_decided b id r l a g (find id b.segments) refl
  good_step (change_buffer bytes) b g = good_flush u b bytes g
  good_step (flush_chunk ids root room ns) b g = good_chunk u b g ids root room ns
  good_step (recycle_spans ns) b g = good_returns u b g ns
  good_step (get_span id) b g = g
  good_step (get_segment id) b g = g
  good_step (get_handed n) b g = g
  good_step get_numbers b g = g

  pub good_run : (calls : List Call) (b : Book) → Good u b → Good u (run calls b)
  good_run [] b g = g
  good_run (c ∷ calls) b g = good_run calls (step c b).0 (good_step c b g)

pub runs_keep : RunsKeep
runs_keep u calls =
    let b : Book = run calls (new_book u) in
    let g : Good u b = good_run u calls (new_book u) (good_new u) in
    let n : b.setup.spans ≡ u.spans = ap (λ (x : Setup). x.spans) g.0 in
    record { same_setup = g.0; sound = g.1; sum = omega (arith, g.1.records, n) }
