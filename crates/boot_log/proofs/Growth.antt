-- A log that has the front of some turns has the front of these and one more after it has grown by this one.
use Rattle.boot_log.proofs.Common.{◌≡◌, ◌<◌, ◌≤◌, ◌+◌, ◌^◌, ℕ, zero, suc, Bool, true, false, List, [], ◌∷◌, ◌++◌, ◌∙◌, length, take, slice_get, Some, None, IfSome, ◌⊎◌, inl, inr, nat_eq, ◌&&◌, refl, sym, ap, arith, append_assoc, append-nil, length-append, take-append-le, take_all, eqb-true, LogEntry, Entry, AreTimes, IsRecordOf, GrowsIf, entry_at, has_room_for, is_kept, with_miss, with_turn, Kept, Room, end_of, nothing_kept}
use Rattle.std.proofs.lemmas.Option.{slice_get_past}
use Rattle.boot_log.proofs.Fixed.{AreFixed, Extends, all_stay, fixed_are, new_fixed, one_more_fixed, turn_extends}

-- the log grew by a turn, with a clock that had said this number before, and then another
abbrev pub Grew : (ℕ → ℕ → Type 0) → LogEntry → ℕ → ℕ → Kept → Kept → Type 0
Grew says turn last time old new =
    ((is_kept turn old ≡ true) × says last time × (last ≤ time) × (new ≡ with_turn time turn old))
    ⊎ ((is_kept turn old ≡ false) × (time ≡ last) × (new ≡ with_miss old))

-- a recorder's log grew by its turn
pub grew_if : (b : Bool) (says : ℕ → ℕ → Type 0) (turn : LogEntry) (last time : ℕ) (old new : Kept) → is_kept turn old ≡ b → GrowsIf b says turn last time old new → Grew says turn last time old new
grew_if true says turn last time old new is grows = inl (is, grows.0, grows.1, grows.2)
grew_if false says turn last time old new is grows = inr (is, grows.0, grows.1)

-- the log grew by each of the turns, in their order
abbrev pub GrewBy : (ℕ → ℕ → Type 0) → List LogEntry → ℕ → ℕ → Kept → Kept → Type 0
GrewBy says [] last time old new = (time ≡ last) × (new ≡ old)
GrewBy says (turn ∷ turns) last time old new =
    (then : ℕ) × (mid : Kept) × Grew says turn last then old mid × GrewBy says turns then time mid new

-- the entries have times of a clock that said one number before them, and another at the last of them
pub record HasTimes (says : ℕ → ℕ → Type 0) (first last : ℕ) (entries : List Entry) : Type 0 where
  pub times : AreTimes says first entries
  pub last_is : end_of first entries ≡ last

-- one entry more, with a time that the clock said after the last
pub one_more_time : (says : ℕ → ℕ → Type 0) (first last : ℕ) (entries : List Entry) (entry : Entry) → HasTimes says first last entries → says last entry.at → last ≤ entry.at → HasTimes says first entry.at (entries ++ entry ∷ [])
one_more_time says first last [] entry has said order =
    let same : first ≡ last = has.last_is in
    record { times = rw same (said, order, tt); last_is = refl }
one_more_time says first last (own ∷ entries) entry has said order =
    let later : HasTimes says own.at entry.at (entries ++ entry ∷ []) = one_more_time says own.at last entries entry (record { times = has.times.2; last_is = has.last_is }) said order in
    record { times = (has.times.0, has.times.1, later.times); last_is = later.last_is }

-- the log has the front of these turns, with parts within it
pub record HasFront (turns : List LogEntry) (log : Kept) : Type 0 where
  pub kept : AreFixed log (take (length log.entries) turns) log.entries
  pub count : length turns ≡ length log.entries + log.missed
  pub full : IfSome (slice_get turns (length log.entries)) (λ turn. has_room_for turn log ≡ false)

-- an element before the end stays where it is
pub before_end : {A : Type 0} (xs ys : List A) (i : ℕ) → i < length xs → slice_get (xs ++ ys) i ≡ slice_get xs i
before_end [] ys i low = absurd (omega arith)
before_end (x ∷ xs) ys zero low = refl
before_end (x ∷ xs) ys (suc i) low = before_end xs ys i (omega arith)

-- the first element that is appended
pub at_end : {A : Type 0} (xs : List A) (y : A) → slice_get (xs ++ y ∷ []) (length xs) ≡ Some y
at_end [] y = refl
at_end (x ∷ xs) y = at_end xs y

-- a turn that isn't kept though none was missed has no room
pub no_room : (missed : ℕ) (room : Bool) → (nat_eq missed 0 && room) ≡ false → missed ≡ 0 → room ≡ false
no_room zero room is none = is
no_room (suc missed) room is none = cc

-- of two facts that hold, the first does
pub first_true : (a b : Bool) → (a && b) ≡ true → a ≡ true
first_true true b is = refl
first_true false b is = cc

-- a turn that is kept: none was missed
pub none_missed : (missed : ℕ) (room : Bool) → (nat_eq missed 0 && room) ≡ true → missed ≡ 0
none_missed missed room is = eqb-true missed 0 (first_true (nat_eq missed 0) room is)

-- the number of turns missed is 0 or more
pub zero_or_more : (missed : ℕ) → (missed ≡ 0) ⊎ (0 < missed)
zero_or_more zero = inl refl
zero_or_more (suc missed) = inr (omega arith)

-- a log that missed one more extends the log
pub miss_extends : (log : Kept) → Extends log (with_miss log)
miss_extends log = record {
  new_bytes = [];
  bytes = sym (append-nil log.bytes);
  fired_length = omega arith;
  fired = λ part within. refl;
}

-- a turn was kept
pub kept_front : (turns : List LogEntry) (turn : LogEntry) (time : ℕ) (log : Kept) → HasFront turns log → is_kept turn log ≡ true → HasFront (turns ++ turn ∷ []) (with_turn time turn log)
kept_front turns turn time log front is =
    let none : log.missed ≡ 0 = none_missed log.missed (has_room_for turn log) is in
    let count = front.count in
    let more : length (turns ++ turn ∷ []) ≡ length turns + 1 = length-append turns (turn ∷ []) in
    let longer : length (log.entries ++ entry_at time turn log ∷ []) ≡ length log.entries + 1 = length-append log.entries (entry_at time turn log ∷ []) in
    let before : take (length log.entries) turns ≡ turns = take_all (length log.entries) turns (omega arith) in
    let after : take (length (log.entries ++ entry_at time turn log ∷ [])) (turns ++ turn ∷ []) ≡ turns ++ turn ∷ [] = take_all _ (turns ++ turn ∷ []) (omega arith) in
    let past : slice_get (turns ++ turn ∷ []) (length (log.entries ++ entry_at time turn log ∷ [])) ≡ None = slice_get_past (turns ++ turn ∷ []) _ (omega arith) in
    let old : AreFixed log turns log.entries = rw before at front.kept in
    let stay : AreFixed (with_turn time turn log) turns log.entries = all_stay log (with_turn time turn log) turns log.entries (turn_extends time turn log) old in
    record {
      kept = rw after (one_more_fixed (with_turn time turn log) turns log.entries turn (entry_at time turn log) stay (new_fixed time turn log));
      count = omega arith;
      full = rw past tt;
    }

-- a turn was missed
pub missed_front : (turns : List LogEntry) (turn : LogEntry) (log : Kept) → HasFront turns log → is_kept turn log ≡ false → length (turns ++ turn ∷ []) < 2 ^ 64 → HasFront (turns ++ turn ∷ []) (with_miss log)
missed_front turns turn log front is few =
    let count = front.count in
    let more : length (turns ++ turn ∷ []) ≡ length turns + 1 = length-append turns (turn ∷ []) in
    let same : take (length log.entries) (turns ++ turn ∷ []) ≡ take (length log.entries) turns = take-append-le (length log.entries) turns (turn ∷ []) (omega arith) in
    let full : IfSome (slice_get (turns ++ turn ∷ []) (length log.entries)) (λ turn. has_room_for turn log ≡ false) =
    elim (zero_or_more log.missed) [
      | inl none ↦
          let here : length log.entries ≡ length turns = omega arith in
          let found : slice_get (turns ++ turn ∷ []) (length log.entries) ≡ Some turn = rw here (at_end turns turn) in
          rw found (no_room log.missed (has_room_for turn log) is none)
      | inr some ↦
          let found : slice_get (turns ++ turn ∷ []) (length log.entries) ≡ slice_get turns (length log.entries) = before_end turns (turn ∷ []) (length log.entries) (omega arith) in
          rw found front.full
    ] in
    record {
      kept = rw same (all_stay log (with_miss log) (take (length log.entries) turns) log.entries (miss_extends log) front.kept);
      count = omega arith;
      full = full;
    }

-- the log has the front of these turns, and the times
pub record IsSoFar (says : ℕ → ℕ → Type 0) (first last : ℕ) (turns : List LogEntry) (log : Kept) : Type 0 where
  pub front : HasFront turns log
  pub times : HasTimes says first last log.entries

-- the log grew by one more turn
pub one_more_turn : (says : ℕ → ℕ → Type 0) (first last time : ℕ) (turns : List LogEntry) (turn : LogEntry) (old new : Kept) → IsSoFar says first last turns old → Grew says turn last time old new → length (turns ++ turn ∷ []) < 2 ^ 64 → IsSoFar says first time (turns ++ turn ∷ []) new
one_more_turn says first last time turns turn old new before (inl kept) few = rw kept.3 (record {
  front = kept_front turns turn time old before.front kept.0;
  times = one_more_time says first last old.entries (entry_at time turn old) before.times kept.1 kept.2;
})
one_more_turn says first last time turns turn old new before (inr missed) few = rw (missed.2, missed.1) (record {
  front = missed_front turns turn old before.front missed.0 few;
  times = before.times;
})

-- the log grew by more turns
pub front_grows : (says : ℕ → ℕ → Type 0) (first last time : ℕ) (done turns : List LogEntry) (old new : Kept) → IsSoFar says first last done old → GrewBy says turns last time old new → length (done ++ turns) < 2 ^ 64 → IsSoFar says first time (done ++ turns) new
front_grows says first last time done [] old new before grew few = rw (append-nil done, grew.0, grew.1) before
front_grows says first last time done (turn ∷ turns) old new before grew few =
    let split : (done ++ turn ∷ []) ++ turns ≡ done ++ turn ∷ turns = append_assoc done (turn ∷ []) turns in
    let whole : length ((done ++ turn ∷ []) ++ turns) < 2 ^ 64 = rw split few in
    let long = length-append (done ++ turn ∷ []) turns in
    let next : IsSoFar says first grew.0 (done ++ turn ∷ []) grew.1 = one_more_turn says first last grew.0 done turn old grew.1 before grew.2 (omega arith) in
    rw (← split) (front_grows says first grew.0 time (done ++ turn ∷ []) turns grew.1 new next grew.3 whole)

-- a log that had kept nothing has the front of the turns by which it grew
pub record_of : (says : ℕ → ℕ → Type 0) (first time : ℕ) (turns : List LogEntry) (room : Room) (old new : Kept) → old ≡ nothing_kept room → GrewBy says turns first time old new → length turns < 2 ^ 64 → IsRecordOf says first turns new
record_of says first time turns room old new none grew few =
    let begin : IsSoFar says first first [] (nothing_kept room) = record {
      front = record { kept = tt; count = refl; full = tt };
      times = record { times = tt; last_is = refl };
    } in
    let all : IsSoFar says first time turns new = front_grows says first first time [] turns old new (rw none begin) grew few in
    let front = all.front in
    record {
      front = record {
        kept = fixed_are new (take (length new.entries) turns) new.entries front.kept;
        count = front.count;
        full = front.full;
      };
      times = all.times.times;
    }

same_room : (says : ℕ → ℕ → Type 0) (turn : LogEntry) (last time : ℕ) (old new : Kept) → Grew says turn last time old new → new.room ≡ old.room
same_room says turn last time old new (inl kept) = ap (λ (log : Kept). log.room) kept.3
same_room says turn last time old new (inr missed) = ap (λ (log : Kept). log.room) missed.2

-- the room stays
pub room_stays : (says : ℕ → ℕ → Type 0) (turns : List LogEntry) (last time : ℕ) (old new : Kept) → GrewBy says turns last time old new → new.room ≡ old.room
room_stays says [] last time old new grew = ap (λ (log : Kept). log.room) grew.1
room_stays says (turn ∷ turns) last time old new grew = room_stays says turns grew.0 time grew.1 new grew.3 ∙ same_room says turn last grew.0 old grew.1 grew.2
