-- The memory of a recorder as one value: the lent tables, what both indexes hold, and the settings; its records with the pairs that count.
use Rattle.std.specs.Prelude.{ℕ, suc, Bool, true, false, if◌then◌else◌, List, [], ◌∷◌, take, Some, None, Option, nat_lt}
use Rattle.std.specs.Option.{option_map}
use Rattle.std.specs.List.{slice_get}
use Rattle.index.specs.declared.entry.Entry.{Entry}
use Rattle.vec_map.specs.Tables.{row}
use Rattle.tables.specs.declared.span.Mark.{Mark}
use Rattle.tables.specs.declared.span.Mark.TheVariants.{Free, Live, HandedOut}
use Rattle.tables.specs.declared.span.Span.{Span}
use Rattle.tables.specs.declared.segment.Segment.{Segment}
use Rattle.tables.specs.declared.settings.Settings.{Settings}

-- row k of the span tables are the 99 text pairs and the 54 number pairs of span record k; a segment has 32 and 16
pub record Store (T : Type 0) : Type 0 where
  pub spans : List (Span T)
  pub span_meta : List (T × T)
  pub span_metrics : List (T × ℕ)
  pub segments : List (Segment T)
  pub segment_meta : List (T × T)
  pub segment_metrics : List (T × ℕ)
  pub strings : List (Option T)
  pub defaults : List (T × T)
  pub settings : Settings T
  pub ids : List Entry  -- what the span index holds, and its capacity
  pub ids_room : ℕ
  pub seats : List Entry  -- what the segment index holds, and its capacity
  pub seats_room : ℕ

abbrev pub store : {T : Type 0} → List (Span T) → List (T × T) → List (T × ℕ) → List (Segment T) → List (T × T) → List (T × ℕ) → List (Option T) → List (T × T) → Settings T → List Entry → ℕ → List Entry → ℕ → Store T
store a b c d e f g h s i j k l = record
    { spans = a; span_meta = b; span_metrics = c; segments = d; segment_meta = e; segment_metrics = f; strings = g; defaults = h; settings = s; ids = i; ids_room = j; seats = k; seats_room = l }

-- ---- marks

abbrev pub is_live : Mark → Bool
is_live Free = false
is_live Live = true
is_live HandedOut = false

abbrev pub is_handed : Mark → Bool
is_handed Free = false
is_handed Live = false
is_handed HandedOut = true

abbrev pub is_free : Mark → Bool
is_free Free = true
is_free Live = false
is_free HandedOut = false

-- how many pass a test
abbrev pub tally : {A : Type 0} → (A → Bool) → List A → ℕ
tally t [] = 0
tally t (x ∷ xs) = if t x then suc (tally t xs) else tally t xs

-- one that passes a test, if there is one
abbrev pub only : {A : Type 0} → (A → Bool) → Option A → Option A
only t None = None
only t (Some x) = if t x then Some x else None

-- what comes of what is there
abbrev pub chained : {A B : Type 0} → (A → Option B) → Option A → Option B
chained f None = None
chained f (Some x) = f x

-- the key of the record with a number, none past the last
abbrev pub key_at : {A : Type 0} → (A → Option ℕ) → List A → ℕ → Option ℕ
key_at key xs r = chained key (slice_get xs r)

-- ---- records with their pairs

-- a record and the pairs of its two rows that count
pub record Rowed (H T : Type 0) : Type 0 where
  pub head : H
  pub texts : List (T × T)
  pub numbers : List (T × ℕ)

module _ {T : Type 0} where
  abbrev pub live : Span T → Bool
  live x = is_live x.mark

  abbrev pub handed : Span T → Bool
  handed x = is_handed x.mark

  abbrev pub free : Span T → Bool
  free x = is_free x.mark

  -- a segment stands while its count is above 0
  abbrev pub stands : Segment T → Bool
  stands x = nat_lt 0 x.count

  -- the id under which the index has to hold a record: that of a live span, of a standing segment
  abbrev pub live_key : Span T → Option ℕ
  live_key x = if live x then Some x.id else None

  abbrev pub standing_key : Segment T → Option ℕ
  standing_key x = if stands x then Some x.id else None

  -- record r with its pairs
  abbrev pub span_at : List (Span T) → List (T × T) → List (T × ℕ) → ℕ → Option (Rowed (Span T) T)
  span_at xs ms ns r =
      option_map (λ x. record { head = x; texts = take x.meta.count (row 99 r ms); numbers = take x.metrics.count (row 54 r ns) }) (slice_get xs r)

  abbrev pub segment_at : List (Segment T) → List (T × T) → List (T × ℕ) → ℕ → Option (Rowed (Segment T) T)
  segment_at xs ms ns r =
      option_map (λ x. record { head = x; texts = take x.meta.count (row 32 r ms); numbers = take x.metrics.count (row 16 r ns) }) (slice_get xs r)
