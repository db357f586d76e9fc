use Rattle.std.proofs.Common.{◌≡◌, ℕ, ◌+◌, ◌*◌, ◌<◌, ◌≤◌, true, false, not, List, length, take, drop, set, is_some, Some, None, Option, ap, ◌∙◌, arith, length-drop}
use Rattle.std.proofs.lemmas.List.{length-take-le, take_more_set}
use Rattle.std.proofs.lemmas.Bool.{false≢true, and_from, le-leb, lt-leb, cond-true, cond-false}
use Rattle.vec_map.specs.declared.head.Head.{Head}
use Rattle.vec_map.specs.Rows.{full, insert_row}
use Rattle.vec_map.specs.Tables.{headed, row, in_table, changed_row}
use Rattle.operations.specs.Inserts.{Inserted, Inserts}
use Rattle.operations.proofs.inner.rows.insert_below.Goals as goal

-- the changed row, where it lies in the table and is not full
inserted : {K V : Type 0} (w k : ℕ) (xs : List (K × V)) (h : Head) (key : K) (v : V) → k * w + w ≤ length xs → h.count < w
    → changed_row (λ r. insert_row r key v) w k xs h ≡ record { room = set (row w k xs) h.count (key, v); len = h.count + 1; deduped = false }
unfolding insert_row
inserted w k xs h key v l lt =
    let a : w ≤ length (drop (k * w) xs) = simp length-drop (omega arith) in
    let b : length (row w k xs) ≡ w = length-take-le w (drop (k * w) xs) a in
    cond-true (in_table w k xs) _ _ (le-leb (k * w + w) (length xs) l)
    ∙ cond-false (full (headed (row w k xs) h)) _ _ (lt-leb (length (row w k xs)) h.count (omega (arith, b)))

-- an insertion that found its place answers so
ended : {K V : Type 0} (w k limit : ℕ) (before after : List (K × V)) (old new : Head) (p : K × V) (answer : Option (Unit {0})) → is_some answer ≡ true → Inserted w k limit before after old new p → Inserts w k limit before after old new p answer
ended w k limit before after old new p (Some x) e i = i
ended w k limit before after old new p None e i = absurd (false≢true e)

pub returns : goal.returns
returns g c =
    let w = c.args.width in
    let k = c.args.at in
    let xs = c.args.table.now in
    let h = c.args.head.now in
    let lt : h.count < w = omega arith in
    let e = c.insert_at.ensures.row ∙ inserted w k xs h c.args.key c.args.value c.requires.within lt in
    let a : w ≤ length (drop (k * w) xs) = simp length-drop (omega arith) in
    let b : length (row w k xs) ≡ w = length-take-le w (drop (k * w) xs) a in
    let y : is_some c.ok.result ≡ true = c.ok.ensures.variant ∙ (c.insert_at.ensures.test ∙ and_from _ _ (le-leb (k * w + w) (length xs) c.requires.within) (ap not (lt-leb (length (row w k xs)) h.count (omega (arith, b))))) in
    record {
      cases = ended w k c.args.limit xs c.insert_at.new.table h c.insert_at.new.head (c.args.key, c.args.value) c.ok.result y (record {
        place = c.if-head-limit.false;
        head = ap (λ r. record { count = r.len; deduped = r.deduped }) e;
        pairs = ap (λ r. take (h.count + 1) r.room) e ∙ take_more_set (row w k xs) h.count (c.args.key, c.args.value) (omega (arith, b));
        others = c.insert_at.ensures.others;
      });
    }
