-- Entries whose parts lie within the log: they stay what they are when the log grows.
use Rattle.boot_log.proofs.Common.{◌≡◌, ◌≤◌, ◌+◌, ◌%◌, ℕ, List, [], ◌∷◌, ◌++◌, length, drop, refl, arith, drop-append-le, length-append, length-drop, length-map, take-append-le, bytes_of, LogEntry, Entry, AreEntriesOf, IsEntryOf, entry_at, with_turn, Kept, part_after, part_of}
use Rattle.std.proofs.Math.Seq.{drop-append_seam, take-length}
use Rattle.processor.specs.declared.outcome.TurnOutcome.{TurnOutcome}
use Rattle.processor.specs.declared.outcome.TurnOutcome.TheVariants as outcomes
use Rattle.processor.specs.declared.outcome.TurnResult.TheVariants as results
use Rattle.boot_log.specs.declared.entry.Part.{Part}
use Rattle.boot_log.specs.Values.{did_of, fired_of, line_part, step_line}

-- the part lies within a list of this length
pub record IsWithin (part : Part) (many : ℕ) : Type 0 where
  pub below : part.start + part.len ≤ many

-- an entry of a turn, whose parts lie within the log
pub record IsFixed (log : Kept) (turn : LogEntry) (entry : Entry) : Type 0 where
  pub is : IsEntryOf log turn entry
  pub fired : IsWithin entry.fired (length log.fired)
  pub line : IsWithin (line_part entry.did) (length log.bytes)

-- an entry for each turn, whose parts lie within the log
abbrev pub AreFixed : Kept → List LogEntry → List Entry → Type 0
AreFixed log [] [] = Unit {0}
AreFixed log (turn ∷ turns) (entry ∷ entries) = IsFixed log turn entry × AreFixed log turns entries
AreFixed log turns entries = ⊥

-- the second log has all that the first has, and perhaps more
pub record Extends (log more : Kept) : Type 0 where
  pub new_bytes : List ℕ
  pub bytes : more.bytes ≡ log.bytes ++ new_bytes
  pub fired_length : length log.fired ≤ length more.fired
  pub fired : (part : Part) → IsWithin part (length log.fired) → part_of more.fired part ≡ part_of log.fired part

-- a part within a list is the same part of a longer list
pub part_kept : {A : Type 0} (items more : List A) (part : Part) → IsWithin part (length items) → part_of (items ++ more) part ≡ part_of items part
part_kept {A} items more part is =
    let below = is.below in
    let low : part.start ≤ length items = omega arith in
    let left = length-drop part.start items in
    let fits : part.len ≤ length (drop part.start items) = omega arith in
    rw (drop-append-le part.start items more low, take-append-le part.len (drop part.start items) more fits) refl

-- the part that is appended to a list
pub part_new : {A : Type 0} (items more : List A) (part : Part) → part.start ≡ length items → part.len ≡ length more → part_of (items ++ more) part ≡ more
part_new {A} items more part start len = rw (start, len, drop-append_seam items more, take-length more) refl

-- an entry stays what it is when the log grows
pub fixed_stays : (log more : Kept) (turn : LogEntry) (entry : Entry) → Extends log more → IsFixed log turn entry → IsFixed more turn entry
fixed_stays log more turn entry grown fixed =
    let is = fixed.is in
    let is_fired = is.fired in
    let is_line = is.line in
    let fired_below = fixed.fired.below in
    let line_below = fixed.line.below in
    let fired_kept : part_of more.fired entry.fired ≡ part_of log.fired entry.fired = grown.fired entry.fired fixed.fired in
    let line_kept : part_of (log.bytes ++ grown.new_bytes) (line_part entry.did) ≡ part_of log.bytes (line_part entry.did) = part_kept log.bytes grown.new_bytes (line_part entry.did) fixed.line in
    let longer : length (log.bytes ++ grown.new_bytes) ≡ length log.bytes + length grown.new_bytes = length-append log.bytes grown.new_bytes in
    let fired_longer = grown.fired_length in
    record {
      is = record {
        tended = is.tended;
        fired = rw fired_kept is_fired;
        result = is.result;
        line = rw (grown.bytes, line_kept) is_line;
      };
      fired = record { below = omega arith };
      line = record { below = rw grown.bytes (omega arith) };
    }

-- entries stay what they are when the log grows
pub all_stay : (log more : Kept) (turns : List LogEntry) (entries : List Entry) → Extends log more → AreFixed log turns entries → AreFixed more turns entries
all_stay log more [] [] grown all = tt
all_stay log more (turn ∷ turns) (entry ∷ entries) grown all = (fixed_stays log more turn entry grown all.0, all_stay log more turns entries grown all.1)
all_stay log more [] (entry ∷ entries) grown all = absurd all
all_stay log more (turn ∷ turns) [] grown all = absurd all

-- one entry more, of one turn more
pub one_more_fixed : (log : Kept) (turns : List LogEntry) (entries : List Entry) (turn : LogEntry) (entry : Entry) → AreFixed log turns entries → IsFixed log turn entry → AreFixed log (turns ++ turn ∷ []) (entries ++ entry ∷ [])
one_more_fixed log [] [] turn entry all fixed = (fixed, tt)
one_more_fixed log (first ∷ turns) (own ∷ entries) turn entry all fixed = (all.0, one_more_fixed log turns entries turn entry all.1 fixed)
one_more_fixed log [] (own ∷ entries) turn entry all fixed = absurd all
one_more_fixed log (first ∷ turns) [] turn entry all fixed = absurd all

-- fixed entries are entries
pub fixed_are : (log : Kept) (turns : List LogEntry) (entries : List Entry) → AreFixed log turns entries → AreEntriesOf log turns entries
fixed_are log [] [] all = tt
fixed_are log (turn ∷ turns) (entry ∷ entries) all = (all.0.is, fixed_are log turns entries all.1)
fixed_are log [] (entry ∷ entries) all = absurd all
fixed_are log (turn ∷ turns) [] all = absurd all

-- the result of a turn whose line is appended to the bytes
pub record HasLine (outcome : TurnOutcome) (bytes items : List ℕ) : Type 0 where
  pub result : did_of outcome (part_after bytes items) ≡ did_of outcome (line_part (did_of outcome (part_after bytes items)))
  pub line : part_of (bytes ++ bytes_of items) (line_part (did_of outcome (part_after bytes items))) ≡ bytes_of (step_line outcome items)
  pub within : IsWithin (line_part (did_of outcome (part_after bytes items))) (length (bytes ++ bytes_of items))

-- so it is for each result of a turn
pub has_line : (outcome : TurnOutcome) (bytes line : List ℕ) → HasLine outcome bytes line
has_line (outcomes.Idle idle) bytes line = record { result = refl; line = refl; within = record { below = omega arith } }
has_line (outcomes.OfElement begun (results.Retired freed)) bytes line = record { result = refl; line = refl; within = record { below = omega arith } }
has_line (outcomes.OfElement begun (results.Ran sent)) bytes line =
    let long : length (bytes_of line) ≡ length line = length-map line (λ item. item % 256) in
    let whole : length (bytes ++ bytes_of line) ≡ length bytes + length (bytes_of line) = length-append bytes (bytes_of line) in
    record {
      result = refl;
      line = part_new bytes (bytes_of line) (part_after bytes line) refl (cc long);
      within = record { below = omega arith };
    }

-- the entry with which a log grows is one of its turn
pub new_fixed : (time : ℕ) (turn : LogEntry) (log : Kept) → IsFixed (with_turn time turn log) turn (entry_at time turn log)
new_fixed time turn log =
    let line : HasLine turn.outcome log.bytes turn.line = has_line turn.outcome log.bytes turn.line in
    let long = length-append log.fired (fired_of turn.tended) in
    record {
      is = record {
        tended = refl;
        fired = part_new log.fired (fired_of turn.tended) (part_after log.fired (fired_of turn.tended)) refl refl;
        result = line.result;
        line = line.line;
      };
      fired = record { below = omega arith };
      line = line.within;
    }

-- a log with one more turn extends the log
pub turn_extends : (time : ℕ) (turn : LogEntry) (log : Kept) → Extends log (with_turn time turn log)
turn_extends time turn log =
    let long = length-append log.fired (fired_of turn.tended) in
    record {
      new_bytes = bytes_of turn.line;
      bytes = refl;
      fired_length = omega arith;
      fired = part_kept log.fired (fired_of turn.tended);
    }
