-- What the steps of a call mean for its client.
use Rattle.meters.proofs.Common.{◌≡◌, ◌≢◌, ◌⊎◌, inl, inr, ℕ, suc, ◌+◌, ◌%◌, ◌<◌, ◌≤◌, Bool, true, false, List, [], ◌∷◌, ◌++◌, length, filter_map, get_or, get_or-set_same, refl, sym, ap, ◌∙◌, subst, arith, Option, Some, None, append-nil, Alarm, AbsState, Step, load, change, IsValidStep, IsValidView, ExtendsTrace, Looked, entries_real, clock_word, slot_word, word_of, alarm_in, Reading, in_slot, with_tick, with_advance, with_alarm, with_cancelled, SeatView, of_meters, Fits, NotAdvanced, NotSet, scan, standing}
use Rattle.std.proofs.Common.{append_assoc, zero, map}
use Rattle.std.proofs.lemmas.List.{length-map}
use Rattle.std.specs.List.{AllByRecursion}
use Rattle.std.specs.Prelude.{MatchBool}
use Rattle.table_theory.proofs.Parting.{made_then}
use Rattle.table_theory.proofs.Reaching.{all_before, all_after}
use Rattle.table_theory.specs.Moments.{AreEvents}
use Rattle.meters.specs.Layout.{gauge_word}
use Rattle.meters.specs.Answers.{Ticked, Loaded, AdvancedNow, Scanned, AreTaken, SetNow, Visit, stays, goes, went, entries_of, IsVisit, tour, gave}
use Rattle.meters.specs.Client.{AtSomeMoment, AtTwoMoments, ChangesOnce, ChangesNothing, AddsToGauge, GaugeWas, MovesClock, ClockBecame, WhyNotAdvanced, WereTakenBefore, SetsAlarm, WhyNotSet, CancelsAlarm, SlotHad, Fires, firings, HasNoneDue, FiresDue}
use Rattle.meters.specs.declared.gauges.AdvanceRefusal.TheVariants as not_advanced
use Rattle.meters.specs.Steps.{WasCancelled, FoundOther}
use Rattle.meters.specs.declared.alarms.SetRefusal.TheVariants as not_set
use Rattle.meters.proofs.Codes.{given_back}
use Rattle.meters.proofs.Following.{IsLate, Searched, Swept}
use Rattle.meters.proofs.Lawful.{gauge_says, clock_says, slot_says, empty_says, other_says, fire_event, cancel_event}

-- ONE STEP

-- the step is a load
abbrev IsLoad : Reading → Reading → Type 0
IsLoad m n = n ≡ m

-- the call has this step alone, which changed the meters
changed_by : (v w : SeatView) (e : Step Reading) (Holds : Reading → Reading → Type 0) → ExtendsTrace v (e ∷ []) w → Holds e.then.object e.next.object → ChangesOnce Holds v w
changed_by v w e Holds a h = record { steps = e ∷ []; adds = a; are = inr (tt, [], refl, h, refl) }

-- the call has this load alone
only_load : (v w : SeatView) (word found : ℕ) (m : AbsState Reading) → ExtendsTrace v (load word found m ∷ []) w → ChangesNothing v w
only_load v w word found m a = record { steps = load word found m ∷ []; adds = a; are = inl (refl, refl) }

-- the step found it so
found_so : (v w : SeatView) (e : Step Reading) (Holds : Reading → Type 0) → ExtendsTrace v (e ∷ []) w → Holds e.then.object → AtSomeMoment v w Holds
found_so v w e Holds a h = record { before = []; step = e; after = []; adds = a; holds = h }

-- the step is real
real_one : (v w : SeatView) (e : Step Reading) → IsValidView of_meters w → ExtendsTrace v (e ∷ []) w → IsValidStep of_meters e
real_one v w e y a = (entries_real of_meters v w (e ∷ []) y a).0

-- GAUGES

pub adds_to_gauge : (v w : SeatView) (gauge amount found : ℕ) → Ticked v gauge amount found w → AddsToGauge gauge amount v w
adds_to_gauge v w gauge amount found (m, a) = changed_by v w (change (gauge_word gauge) found m (with_tick m.object gauge amount)) _ a refl

pub gauge_was : (v w : SeatView) (gauge amount found : ℕ) → gauge < 8 → IsValidView of_meters w → Ticked v gauge amount found w → GaugeWas gauge amount found v w
gauge_was v w gauge amount found below y (m, a) = let e : Step Reading = change (gauge_word gauge) found m (with_tick m.object gauge amount) in let r = real_one v w e y a in let eight = r.shows.eight in
    let was : get_or m.object.gauges gauge 0 ≡ found = sym (gauge_says e gauge below refl r) in
    changed_by v w e _ a (was, get_or-set_same m.object.gauges gauge ((get_or m.object.gauges gauge 0 + amount) % 18446744073709551616) 0 (omega arith) ∙ ap (λ (z : ℕ). (z + amount) % 18446744073709551616) was)

pub gauge_is : (v w : SeatView) (gauge found : ℕ) → gauge < 8 → IsValidView of_meters w → Loaded v (gauge_word gauge) found w → AtSomeMoment v w (λ m. get_or m.gauges gauge 0 ≡ found)
gauge_is v w gauge found below y (m, a) = let e : Step Reading = load (gauge_word gauge) found m in found_so v w e _ a (sym (gauge_says e gauge below refl (real_one v w e y a)))

pub clock_is : (v w : SeatView) (found : ℕ) → IsValidView of_meters w → Loaded v clock_word found w → AtSomeMoment v w (λ m. m.clock ≡ found)
clock_is v w found y (m, a) = let e : Step Reading = load clock_word found m in found_so v w e _ a (sym (clock_says e refl (real_one v w e y a)).0)

pub loads_alone : (v w : SeatView) (word found : ℕ) → Loaded v word found w → ChangesNothing v w
loads_alone v w word found (m, a) = only_load v w word found m a

-- THE CLOCK

pub moves_clock : (v w : SeatView) (clock : ℕ) → AdvancedNow v clock w → MovesClock v w
moves_clock v w clock (was, m, n, is, a) = record { steps = load clock_word was m ∷ change clock_word was n (with_advance n.object) ∷ []; adds = a; are = inl (refl, inr (tt, [], refl, refl, refl)) }

pub clock_became : (v w : SeatView) (clock : ℕ) → IsValidView of_meters w → AdvancedNow v clock w → ClockBecame clock v w
clock_became v w clock y (was, m, n, is, a) = let e : Step Reading = change clock_word was n (with_advance n.object) in let r = entries_real of_meters v w (load clock_word was m ∷ e ∷ []) y a in
    let one : n.object.clock + 1 ≡ clock = ap (λ (z : ℕ). z + 1) (sym (clock_says e refl r.1.0).0) ∙ sym is in record { steps = load clock_word was m ∷ e ∷ []; adds = a; are = inl (refl, inr (tt, [], refl, (one, one), refl)) }

pub clock_spent : (v w : SeatView) → IsValidView of_meters w → NotAdvanced v not_advanced.Spent w → ChangesNothing v w × WhyNotAdvanced v not_advanced.Spent w
clock_spent v w y (m, a) = (only_load v w clock_word 4294967295 m a, clock_is v w 4294967295 y (m, a))

pub clock_lost : (v w : SeatView) (clock : ℕ) → IsValidView of_meters w → NotAdvanced v (not_advanced.Lost clock) w → ChangesNothing v w × WhyNotAdvanced v (not_advanced.Lost clock) w
clock_lost v w clock y (was, m, n, less, a) = let e : Step Reading = load clock_word was m in let f : Step Reading = load clock_word clock n in let r = entries_real of_meters v w (e ∷ f ∷ []) y a in
    let one = (clock_says e refl r.0).0 in let two = (clock_says f refl r.1.0).0 in (
      record { steps = e ∷ f ∷ []; adds = a; are = inl (refl, inl (refl, refl)) },
      record { before = []; first = e; between = []; second = f; after = []; adds = a; holds = (omega arith, sym two) },
    )

-- STEPS AMONG OTHERS

-- one of the steps found it so
record One (es : List (Step Reading)) (Holds : Reading → Type 0) : Type 0 where
  before : List (Step Reading)
  step : Step Reading
  after : List (Step Reading)
  is : es ≡ before ++ step ∷ after
  holds : Holds step.then.object

-- two of the steps found it so, the first before the second
record Two (es : List (Step Reading)) (Holds : Reading → Reading → Type 0) : Type 0 where
  before : List (Step Reading)
  first : Step Reading
  between : List (Step Reading)
  second : Step Reading
  after : List (Step Reading)
  is : es ≡ before ++ first ∷ (between ++ second ∷ after)
  holds : Holds first.then.object second.then.object

one_moment : (v w : SeatView) (es : List (Step Reading)) (Holds : Reading → Type 0) → ExtendsTrace v es w → One es Holds → AtSomeMoment v w Holds
one_moment v w es Holds a s = record { before = s.before; step = s.step; after = s.after; adds = subst (λ (z : List (Step Reading)). ExtendsTrace v z w) s.is a; holds = s.holds }

two_moments : (v w : SeatView) (es : List (Step Reading)) (Holds : Reading → Reading → Type 0) → ExtendsTrace v es w → Two es Holds → AtTwoMoments v w Holds
two_moments v w es Holds a s = record { before = s.before; first = s.first; between = s.between; second = s.second; after = s.after; adds = subst (λ (z : List (Step Reading)). ExtendsTrace v z w) s.is a; holds = s.holds }

-- other steps came before, or after
one_after : (xs es : List (Step Reading)) (Holds : Reading → Type 0) → One es Holds → One (xs ++ es) Holds
one_after xs es Holds s = record { before = xs ++ s.before; step = s.step; after = s.after; is = ap (λ (z : List (Step Reading)). xs ++ z) s.is ∙ sym (append_assoc xs s.before (s.step ∷ s.after)); holds = s.holds }

two_after : (xs es : List (Step Reading)) (Holds : Reading → Reading → Type 0) → Two es Holds → Two (xs ++ es) Holds
two_after xs es Holds s = record { before = xs ++ s.before; first = s.first; between = s.between; second = s.second; after = s.after; is = ap (λ (z : List (Step Reading)). xs ++ z) s.is ∙ sym (append_assoc xs s.before (s.first ∷ (s.between ++ s.second ∷ s.after))); holds = s.holds }

one_then : (es ys : List (Step Reading)) (Holds : Reading → Type 0) → One es Holds → One (es ++ ys) Holds
one_then es ys Holds s = record { before = s.before; step = s.step; after = s.after ++ ys; is = ap (λ (z : List (Step Reading)). z ++ ys) s.is ∙ append_assoc s.before (s.step ∷ s.after) ys; holds = s.holds }

-- SETTING AN ALARM

-- a slot in which another number than 0 was found was taken
not_empty : (e : Step Reading) (slot : ℕ) → slot < 16 → e.word ≡ slot_word slot → IsValidStep of_meters e → 0 < e.found → in_slot e.then.object slot ≢ None
not_empty e slot below is r some = λ none. (let zero : e.found ≡ 0 = slot_says e slot below is r ∙ ap word_of none in omega arith)

-- each slot of the search was taken
scan_taken : (slot : ℕ) (taken : Scanned) → slot + length taken ≤ 16 → AreTaken taken → AllByRecursion (IsValidStep of_meters) (scan slot taken) → (k : ℕ) → k < length taken → One (scan slot taken) (λ m. in_slot m (slot + k) ≢ None)
scan_taken slot [] fits full real k below = absurd (omega arith)
scan_taken slot (x ∷ xs) fits full real zero below = let e : Step Reading = load (slot_word slot) x.0 x.1 in let z : slot ≡ slot + 0 = omega arith in
    subst (λ (n : ℕ). One (scan slot (x ∷ xs)) (λ m. in_slot m n ≢ None)) z (record { before = []; step = e; after = scan (slot + 1) xs; is = refl; holds = not_empty e slot (omega arith) refl real.0 full.0 })
scan_taken slot (x ∷ xs) fits full real (suc k) below = let z : slot + 1 + k ≡ slot + suc k = omega arith in
    subst (λ (n : ℕ). One (scan slot (x ∷ xs)) (λ m. in_slot m n ≢ None)) z (one_after (load (slot_word slot) x.0 x.1 ∷ []) (scan (slot + 1) xs) _ (scan_taken (slot + 1) xs (omega arith) full.1 real.1 k (omega arith)))

-- the search, and then these steps
taken_before : (v w : SeatView) (taken : Scanned) (rest : List (Step Reading)) (slot : ℕ) → length taken ≡ slot → slot ≤ 16 → AreTaken taken → AllByRecursion (IsValidStep of_meters) (scan 0 taken) → ExtendsTrace v (scan 0 taken ++ rest) w → WereTakenBefore slot v w
taken_before v w taken rest slot as_many fits full real a = λ k below. (let z : 0 + k ≡ k = omega arith in
    one_moment v w (scan 0 taken ++ rest) _ a (one_then (scan 0 taken) rest _ (subst (λ (n : ℕ). One (scan 0 taken) (λ m. in_slot m n ≢ None)) z (scan_taken 0 taken (omega arith) full real k (omega arith)))))

-- loads of a search are no event
scan_events : {E : Type 0} (Event : E → Reading → Reading → Type 0) (slot : ℕ) (taken : Scanned) (rest : List (Step Reading)) (events : List E) → AreEvents Event IsLoad rest events → AreEvents Event IsLoad (scan slot taken ++ rest) events
scan_events Event slot [] rest events h = h
scan_events Event slot (x ∷ xs) rest events h = inl (refl, scan_events Event (slot + 1) xs rest events h)

pub sets_alarm : (v w : SeatView) (slot : ℕ) (alarm : Alarm) → IsValidView of_meters w → SetNow v slot alarm w → SetsAlarm slot alarm v w
sets_alarm v w slot alarm y (taken, m, n, as_many, below, full, a) = let e : Step Reading = change (slot_word slot) 0 n (with_alarm n.object slot alarm) in let last : List (Step Reading) = load (slot_word slot) 0 m ∷ e ∷ [] in
    let r = all_after (IsValidStep of_meters) (scan 0 taken) last (entries_real of_meters v w (scan 0 taken ++ last) y a) in record {
      steps = scan 0 taken ++ last;
      adds = a;
      are = scan_events _ 0 taken last (tt ∷ []) (inl (refl, inr (tt, [], refl, (empty_says e slot below refl r.1.0 refl, refl), refl)));
    }

pub set_after : (v w : SeatView) (slot : ℕ) (alarm : Alarm) → IsValidView of_meters w → SetNow v slot alarm w → (slot < 16) × WereTakenBefore slot v w
set_after v w slot alarm y (taken, m, n, as_many, below, full, a) = let last : List (Step Reading) = load (slot_word slot) 0 m ∷ change (slot_word slot) 0 n (with_alarm n.object slot alarm) ∷ [] in
    (below, taken_before v w taken last slot as_many (omega arith) full (all_before (IsValidStep of_meters) (scan 0 taken) last (entries_real of_meters v w (scan 0 taken ++ last) y a)) a)

pub set_lost : (v w : SeatView) (slot : ℕ) → IsValidView of_meters w → NotSet v (not_set.Lost slot) w → ChangesNothing v w × WhyNotSet v (not_set.Lost slot) w
set_lost v w slot y (taken, other, m, n, as_many, below, full, some, a) = let e : Step Reading = load (slot_word slot) 0 m in let f : Step Reading = load (slot_word slot) other n in let last : List (Step Reading) = e ∷ f ∷ [] in
    let real = entries_real of_meters v w (scan 0 taken ++ last) y a in let r = all_after (IsValidStep of_meters) (scan 0 taken) last real in (
      record { steps = scan 0 taken ++ last; adds = a; are = scan_events _ 0 taken last [] (inl (refl, inl (refl, refl))) },
      (
        below,
        taken_before v w taken last slot as_many (omega arith) full (all_before (IsValidStep of_meters) (scan 0 taken) last real) a,
        record { before = scan 0 taken; first = e; between = []; second = f; after = []; adds = a; holds = (empty_says e slot below refl r.0 refl, not_empty f slot below refl r.1.0 some) },
      ),
    )

pub set_full : (v w : SeatView) (slot : ℕ) → slot ≡ 16 → Searched v slot w → ChangesNothing v w × WhyNotSet v not_set.NoRoom w
set_full v w slot is s = let a : ExtendsTrace v (scan 0 s.taken ++ []) w = subst (λ (z : List (Step Reading)). ExtendsTrace v z w) (sym (append-nil (scan 0 s.taken))) s.made.adds in (
  record { steps = scan 0 s.taken ++ []; adds = a; are = scan_events _ 0 s.taken [] [] refl },
  taken_before v w s.taken [] 16 (s.as_many ∙ is) (omega arith) s.full s.real a,
)

-- CANCELLING

pub cancels : (v w : SeatView) (slot : ℕ) (alarm : Alarm) (done : Bool) → slot < 16 → IsValidView of_meters w → (done ≡ true → WasCancelled v slot alarm w) → (done ≡ false → FoundOther v slot (Some alarm) w)
    → MatchBool done (CancelsAlarm slot alarm v w) (ChangesNothing v w) × SlotHad slot alarm done v w
cancels v w slot alarm true below y hit miss = let h = hit refl in let m : AbsState Reading = h.0 in let e : Step Reading = change (slot_word slot) (word_of (Some alarm)) m (with_cancelled m.object slot alarm) in
    let stood = (cancel_event slot alarm m below (real_one v w e y h.1.adds)).0 in (changed_by v w e _ h.1.adds (stood, refl), found_so v w e _ h.1.adds stood)
cancels v w slot alarm false below y hit miss = let o = miss refl in let l = o.1 in let e : Step Reading = load (slot_word slot) o.0 l.at in
    (only_load v w (slot_word slot) o.0 l.at l.made.adds, found_so v w e _ l.made.adds (other_says e slot alarm below refl (real_one v w e y l.made.adds) o.2))

-- FIRING

all_due : (clock : ℕ) (visits : List Visit) → AllByRecursion (IsVisit clock) visits → AllByRecursion (λ (alarm : Alarm). alarm.due ≤ clock) (filter_map gave visits)
all_due clock [] fit = tt
all_due clock (stays found m ∷ visits) fit = all_due clock visits fit.1
all_due clock (goes alarm m n ∷ visits) fit = (fit.0, all_due clock visits fit.1)
all_due clock (went found m other n ∷ visits) fit = all_due clock visits fit.1

given : (visits : List Visit) → filter_map gave visits ≡ standing (map gave visits)
given [] = refl
given (stays found m ∷ visits) = given visits
given (goes alarm m n ∷ visits) = ap (λ (z : List Alarm). alarm ∷ z) (given visits)
given (went found m other n ∷ visits) = given visits

tour_events : (slot : ℕ) (visits : List Visit) → slot + length visits ≤ 16 → AllByRecursion (IsValidStep of_meters) (tour slot visits) → AreEvents Fires IsLoad (tour slot visits) (firings slot (map gave visits))
tour_events slot [] fits real = refl
tour_events slot (stays found m ∷ visits) fits real = inl (refl, tour_events (slot + 1) visits (omega arith) real.1)
tour_events slot (goes alarm m n ∷ visits) fits real = let f = fire_event slot alarm n (omega arith) real.1.0 in
    inl (refl, inr ((slot, alarm), firings (slot + 1) (map gave visits), refl, (f.1, f.0, refl), tour_events (slot + 1) visits (omega arith) real.1.1))
tour_events slot (went found m other n ∷ visits) fits real = inl (refl, inl (refl, tour_events (slot + 1) visits (omega arith) real.1.1))

-- no alarm that is due was in the slot
late : (clock found : ℕ) (stood : Option Alarm) → Fits stood → found ≡ word_of stood → (found ≡ 0) ⊎ (clock < (alarm_in found).due) → (alarm : Alarm) → stood ≡ Some alarm → clock < alarm.due
late clock found stood fits is (inl none) alarm e = let w : found ≡ word_of (Some alarm) = is ∙ ap word_of e in absurd (omega arith)
late clock found stood fits is (inr less) alarm e = let w : found ≡ word_of (Some alarm) = is ∙ ap word_of e in
    let back : alarm_in found ≡ alarm = ap alarm_in w ∙ given_back alarm (subst Fits e fits) in subst (λ (z : Alarm). clock < z.due) back less

abbrev NoneDue : ℕ → ℕ → Reading → Type 0
NoneDue clock slot m = (clock ≤ m.clock) × ((alarm : Alarm) → in_slot m slot ≡ Some alarm → clock < alarm.due)

abbrev Differs : ℕ → ℕ → Reading → Reading → Type 0
Differs clock slot m later = (clock ≤ m.clock) × (in_slot later slot ≢ in_slot m slot)

-- the steps say that nothing was to be fired in the slot
abbrev Over : ℕ → ℕ → List (Step Reading) → Type 0
Over clock slot es = One es (NoneDue clock slot) ⊎ Two es (Differs clock slot)

over_after : (clock slot : ℕ) (xs es : List (Step Reading)) → Over clock slot es → Over clock slot (xs ++ es)
over_after clock slot xs es (inl s) = inl (one_after xs es _ s)
over_after clock slot xs es (inr s) = inr (two_after xs es _ s)

visit_over : (clock slot : ℕ) (visit : Visit) (visits : List Visit) → slot < 16 → IsVisit clock visit → AllByRecursion (IsValidStep of_meters) (tour slot (visit ∷ visits)) → AllByRecursion (IsLate clock) (tour slot (visit ∷ visits)) → gave visit ≡ None → Over clock slot (tour slot (visit ∷ visits))
visit_over clock slot (stays found m) visits below fit real past none = let e : Step Reading = load (slot_word slot) found m in
    inl (record { before = []; step = e; after = tour (slot + 1) visits; is = refl; holds = (past.0, late clock found (in_slot m.object slot) (real.0.shows.slots.fit slot below) (slot_says e slot below refl real.0) fit) })
visit_over clock slot (goes alarm m n) visits below fit real past none = let zero : word_of (Some alarm) ≡ 0 = ap word_of none in absurd (omega arith)
visit_over clock slot (went found m other n) visits below fit real past none = let e : Step Reading = load (slot_word slot) found m in let f : Step Reading = load (slot_word slot) other n in
    inr (record { before = []; first = e; between = []; second = f; after = tour (slot + 1) visits; is = refl; holds = (past.0, λ same. fit.2 (slot_says f slot below refl real.1.0 ∙ (ap word_of same ∙ sym (slot_says e slot below refl real.0)))) })

tour_over : (clock slot : ℕ) (visits : List Visit) → slot + length visits ≤ 16 → AllByRecursion (IsVisit clock) visits → AllByRecursion (IsValidStep of_meters) (tour slot visits) → AllByRecursion (IsLate clock) (tour slot visits) → (k : ℕ) → k < length visits → get_or (map gave visits) k None ≡ None → Over clock (slot + k) (tour slot visits)
tour_over clock slot [] fits fit real past k below none = absurd (omega arith)
tour_over clock slot (visit ∷ visits) fits fit real past zero below none = let z : slot ≡ slot + 0 = omega arith in
    subst (λ (n : ℕ). Over clock n (tour slot (visit ∷ visits))) z (visit_over clock slot visit visits (omega arith) fit.0 real past none)
tour_over clock slot (visit ∷ visits) fits fit real past (suc k) below none = let z : slot + 1 + k ≡ slot + suc k = omega arith in
    subst (λ (n : ℕ). Over clock n (tour slot (visit ∷ visits))) z (over_after clock (slot + 1 + k) (entries_of slot visit) (tour (slot + 1) visits)
    (tour_over clock (slot + 1) visits (omega arith) fit.1 (all_after (IsValidStep of_meters) (entries_of slot visit) (tour (slot + 1) visits) real) (all_after (IsLate clock) (entries_of slot visit) (tour (slot + 1) visits) past) k (omega arith) none))

over_moment : (v w : SeatView) (clock slot : ℕ) (es : List (Step Reading)) → ExtendsTrace v es w → Over clock slot es → HasNoneDue clock slot v w
over_moment v w clock slot es a (inl s) = inl (one_moment v w es _ a s)
over_moment v w clock slot es a (inr s) = inr (two_moments v w es _ a s)

fires_by : (v w : SeatView) (alarms : List Alarm) (clock : ℕ) (m : AbsState Reading) (visits : List Visit) → length visits ≡ 16 → AllByRecursion (IsVisit clock) visits → alarms ≡ filter_map gave visits
    → IsValidStep of_meters (load clock_word clock m) → AllByRecursion (IsValidStep of_meters) (tour 0 visits) → AllByRecursion (IsLate clock) (tour 0 visits) → ExtendsTrace v (load clock_word clock m ∷ tour 0 visits) w → FiresDue alarms v w
fires_by v w alarms clock m visits many fit is first real past a = let e : Step Reading = load clock_word clock m in record {
  clock = clock;
  clock_was = record { before = []; step = e; after = tour 0 visits; adds = a; holds = sym (clock_says e refl first).0 };
  due = subst (AllByRecursion (λ (alarm : Alarm). alarm.due ≤ clock)) (sym is) (all_due clock visits fit);
  answers = map gave visits;
  all_slots = length-map visits gave ∙ many;
  alarms_are = is ∙ given visits;
  fired = record { steps = e ∷ tour 0 visits; adds = a; are = inl (refl, tour_events 0 visits (omega arith) real) };
  others = λ slot below none. (let z : 0 + slot ≡ slot = omega arith in
      over_moment v w clock slot (e ∷ tour 0 visits) a (over_after clock slot (e ∷ []) (tour 0 visits) (subst (λ (n : ℕ). Over clock n (tour 0 visits)) z (tour_over clock 0 visits (omega arith) fit real past slot (omega arith) none))));
}

pub fires_due : (v u w : SeatView) (clock slot : ℕ) (alarms : List Alarm) → slot ≡ 16 → IsValidView of_meters u → Looked v clock_word clock u → Swept u clock slot alarms w → FiresDue alarms v w
fires_due v u w clock slot alarms is y f s = let m = made_then v u w (load clock_word clock f.at ∷ []) (tour 0 s.visits) v.own (λ d. record d { fired = d.fired ++ filter_map gave s.visits }) f.made s.made in
    fires_by v w alarms clock f.at s.visits (s.as_many ∙ is) s.fit s.alarms_are (real_one v u (load clock_word clock f.at) y f.made.adds) s.real s.late m.adds
