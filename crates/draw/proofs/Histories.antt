-- Rows that are kept, event after event.
use Rattle.std.proofs.Common.{◌≡◌, arith, add-one, ℕ, ◌<◌, ◌≤◌, ◌+◌, nat_le, Bool, true, false, if◌then◌else◌, List, [], ◌∷◌, ◌++◌, ◌∙◌, refl, sym, ap, subst, length, length-append, take, get_or, min, append_assoc, Ok, Err, IsSomeAnd}
use Rattle.std.proofs.lemmas.List.{map_push, take_more}
use Rattle.std.proofs.lemmas.Bool.{leb-true, leb-false}
use Rattle.std.proofs.Math.Nat.{min-le_right, min-le_left, min-eq_left, min-eq_right, lt_irrefl, le_of_lt}
use Rattle.std.proofs.lemmas.Option.{slice_get_read}
use Rattle.std.specs.List.{remove}
use Rattle.event_theory.specs.declared.event.Event.{Event}
use Rattle.event_theory.specs.States.{State, step}
use Rattle.event_theory.specs.Schedules.{Reaches}
use Rattle.event_theory.proofs.Keeping.Steps.{reaches_more}
use Rattle.boot_script.specs.Replays.{alone, Replays}
use Rattle.boot_script.specs.declared.outcome.Replayed.{Replayed}
use Rattle.boot_script.specs.declared.outcome.Replayed.TheVariants.{AllAllowed, Refused}
use Rattle.draw.specs.declared.history.Row.{Row}
use Rattle.draw.specs.Histories.{RowShows, RowsShow, LastRowsShow, IsRefused, kept}

-- the front of a list of events is one event longer
pub longer : (events : List (ℕ × Event)) (at : ℕ) (numbered : ℕ × Event) → at < length events → numbered ≡ get_or events at numbered → take (at + 1) events ≡ take at events ++ numbered ∷ []
longer events at numbered within is = take_more events at numbered within ∙ ap (λ x. take at events ++ x ∷ []) (sym is)

reaches_numbered : (s : State) (events : List (ℕ × Event)) (t : State) (numbered : ℕ × Event) (u : State) → Reaches s (alone events) t → step numbered.1 t ≡ Ok u → Reaches s (alone (events ++ numbered ∷ [])) u
reaches_numbered s events t numbered u there next =
    rw (map_push (λ x. x.1) events numbered) (reaches_more s (alone events) t numbered.1 u there next)

reports_more : (all : List Row) (events : List (ℕ × Event)) (old new : State) (row : Row) (numbered : ℕ × Event) (next : State)
    → RowsShow all events old new → step numbered.1 new ≡ Ok next → RowShows row numbered.0 next → RowsShow (all ++ row ∷ []) (events ++ numbered ∷ []) old next
reports_more [] [] old new row numbered next reported stepped reports = (next, ap (step numbered.1) (sym reported) ∙ stepped, reports, refl)
reports_more [] (e ∷ events) old new row numbered next reported stepped reports = absurd reported
reports_more (r ∷ all) [] old new row numbered next reported stepped reports = absurd reported
reports_more (r ∷ all) (e ∷ events) old new row numbered next reported stepped reports =
    (reported.0, reported.1, reported.2, reports_more all events reported.0 new row numbered next reported.3 stepped reports)

last_more : (all : List Row) (events : List (ℕ × Event)) (old new : State) (row : Row) (numbered : ℕ × Event) (next : State)
    → LastRowsShow all events old new → step numbered.1 new ≡ Ok next → RowShows row numbered.0 next → LastRowsShow (all ++ row ∷ []) (events ++ numbered ∷ []) old next
last_more all events old new row numbered next h stepped reports = record {
  earlier = h.earlier;
  later = h.later ++ numbered ∷ [];
  parts = ap (λ w. w ++ numbered ∷ []) h.parts ∙ append_assoc h.earlier h.later (numbered ∷ []);
  middle = h.middle;
  reached = h.reached;
  reported = reports_more all h.later h.middle new row numbered next h.reported stepped reports;
}

without_first : (row : Row) (all : List Row) (events earlier later : List (ℕ × Event)) (old middle new : State) → events ≡ earlier ++ later → Reaches old (alone earlier) middle
    → RowsShow (row ∷ all) later middle new → LastRowsShow all events old new
without_first row all events earlier [] old middle new parts reached reported = absurd reported
without_first row all events earlier (numbered ∷ later) old middle new parts reached reported = record {
  earlier = earlier ++ numbered ∷ [];
  later = later;
  parts = parts ∙ sym (append_assoc earlier (numbered ∷ []) later);
  middle = reported.0;
  reached = reaches_numbered old earlier middle numbered reported.0 reached reported.1;
  reported = reported.3;
}

last_less : (all : List Row) (events : List (ℕ × Event)) (old new : State) → LastRowsShow all events old new → LastRowsShow (remove all 0) events old new
last_less [] events old new h = h
last_less (row ∷ all) events old new h = without_first row all events h.earlier h.later old h.middle new h.parts h.reached h.reported

last_where : (first_goes : Bool) (all : List Row) (events : List (ℕ × Event)) (old new : State) → LastRowsShow all events old new → LastRowsShow (if first_goes then remove all 0 else all) events old new
last_where true all events old new h = last_less all events old new h
last_where false all events old new h = h

-- the kept rows record one more event
pub last_kept : (all : List Row) (events : List (ℕ × Event)) (old new : State) (row : Row) (numbered : ℕ × Event) (next : State)
    → LastRowsShow all events old new → step numbered.1 new ≡ Ok next → RowShows row numbered.0 next → LastRowsShow (kept all row) (events ++ numbered ∷ []) old next
last_kept all events old new row numbered next h = last_more (if nat_le 200 (length all) then remove all 0 else all) events old new row numbered next (last_where (nat_le 200 (length all)) all events old new h)

full_of : (k n : ℕ) → nat_le 200 k ≡ true → k ≡ min 200 n → k ≡ min 200 (n + 1)
full_of k n e h =
    let many : 200 ≤ k = leb-true 200 k e in
    let within : k ≤ n = subst (λ m. m ≤ n) (sym h) (min-le_right 200 n) in
    let least : k ≤ 200 = subst (λ m. m ≤ 200) (sym h) (min-le_left 200 n) in
    let enough : 200 ≤ n + 1 = omega arith in
    let full : k ≡ 200 = omega arith in
    full ∙ sym (min-eq_left enough)

small_where : (full : Bool) (n : ℕ) → nat_le 200 n ≡ full → min 200 n < 200 → min 200 n ≡ n
small_where true n e h = absurd (lt_irrefl 200 (subst (λ m. m < 200) (min-eq_left (leb-true 200 n e)) h))
small_where false n e h = min-eq_right (le_of_lt (leb-false 200 n e))

small_min : (n : ℕ) → min 200 n < 200 → min 200 n ≡ n
small_min n h = small_where (nat_le 200 n) n refl h

one_more_of : (k n : ℕ) → nat_le 200 k ≡ false → k ≡ min 200 n → k + 1 ≡ min 200 (n + 1)
one_more_of k n e h =
    let few : k < 200 = leb-false 200 k e in
    let same : k ≡ n = h ∙ small_min n (subst (λ m. m < 200) h few) in
    let within : n + 1 ≤ 200 = omega arith in
    ap (λ m. m + 1) same ∙ sym (min-eq_right within)

many_where : (first_goes : Bool) (all : List Row) (row : Row) (n : ℕ) → nat_le 200 (length all) ≡ first_goes → length all ≡ min 200 n
    → length ((if first_goes then remove all 0 else all) ++ row ∷ []) ≡ min 200 (n + 1)
many_where true [] row n e h = absurd cc
many_where true (r ∷ all) row n e h = length-append all (row ∷ []) ∙ (add-one (length all) ∙ full_of (length (r ∷ all)) n e h)
many_where false all row n e h = length-append all (row ∷ []) ∙ one_more_of (length all) n e h

pub as_many_kept : (all : List Row) (row : Row) (n : ℕ) → length all ≡ min 200 n → length (kept all row) ≡ min 200 (n + 1)
as_many_kept all row n h = many_where (nat_le 200 (length all)) all row n refl h

-- the refused event comes after the events that were allowed
pub refused_here : (events : List (ℕ × Event)) (at : ℕ) (numbered : ℕ × Event) (old new : State) (end : Replayed) → at < length events → numbered ≡ get_or events at numbered
    → Reaches old (alone (take at events)) new → IsRefused end numbered.0 (step numbered.1 new) → Replays end events old new
refused_here events at numbered old new AllAllowed within is reached refused = absurd refused
refused_here events at numbered old new (Refused line refusal) within is reached refused =
    (at, reached, subst (λ found. IsSomeAnd found (λ n. (n.0 ≡ line) × (step n.1 new ≡ Err refusal))) (sym (slice_get_read events (length events) at numbered refl within is)) (sym refused.0, refused.1))
