-- Facts of several steps together.
use Rattle.meters.proofs.Common.{◌≡◌, ◌≢◌, ◌⊎◌, inl, inr, ne_eqb, ℕ, suc, ◌+◌, ◌<◌, ◌≤◌, true, false, List, [], ◌∷◌, ◌++◌, length, length-append, filter_map, refl, sym, ap, ◌∙◌, subst, arith, Option, Some, None, append-nil, true≢false, filter_map-append, ∥∥₁_elim, Alarm, AbsState, Step, load, change, IsValidStep, IsValidView, ExtendsTrace, Performed, entries_real, Looked, clock_word, slot_word, word_of, alarm_in, MeterOps, Reading, with_alarm, with_fired, SeatView, of_meters, Fits, WasSet, WasFired, FoundIn, Gave, NotAdvanced, scan, NotSet}
use Rattle.std.specs.Prelude.{◌==◌}
use Rattle.std.proofs.Common.{append_assoc}
use Rattle.std.proofs.Math.Bridge.{le_prop}
use Rattle.std.specs.List.{AllByRecursion}
use Rattle.std.specs.Option.{is_some}
use Rattle.table_theory.proofs.Reaching.{all_on}
use Rattle.table_theory.proofs.Parting.{made_none, made_then}
use Rattle.meters.specs.Own.{own_of, DidNothing, DidAdvance, DidSet, DidFire}
use Rattle.meters.specs.Steps.{WasAdvanced, FoundOther}
use Rattle.meters.specs.Answers.{AdvancedNow, Scanned, AreTaken, SetNow, Visit, stays, goes, went, entries_of, IsVisit, tour, gave, FiredNow}
use Rattle.meters.specs.declared.alarms.SetRefusal.TheVariants as not_set
use Rattle.meters.specs.declared.gauges.AdvanceRefusal.TheVariants as not_advanced
use Rattle.meters.proofs.Codes.{given_back}
use Rattle.meters.proofs.Clocks.{clock_seen}
use Rattle.meters.proofs.Falling.{clock_then}

-- what an end is that did this, and is among the ends as it was
pub made_own : (v w : SeatView) (es : List (Step Reading)) (own : MeterOps) → Performed v es own w → own_of w ≡ own_of (record v { own = own })
made_own v w es own m = (λ i. own_of (record v { own = m.did i; member = m.member i }))

-- two looks, one after the other
two_looks : (v u w : SeatView) (es : List (Step Reading)) (word found : ℕ) → Performed v es v.own u → (l : Looked u word found w) → Performed v (es ++ load word found l.at ∷ []) v.own w
two_looks v u w es word found a l = made_then v u w es (load word found l.at ∷ []) v.own (λ d. d) a l.made

-- the clock
pub lost_clock : (v u w : SeatView) (was found : ℕ) → Looked v clock_word was u → was ≡ u.seen.object.clock → Looked u clock_word found w → found ≡ w.seen.object.clock → found ≢ was → IsValidView of_meters u → IsValidView of_meters w → NotAdvanced v (not_advanced.Lost found) w × DidNothing v w
lost_clock v u w was found a is b now ne x y = let up = clock_seen u w (load clock_word found b.at ∷ []) x y b.made.adds in let m = two_looks v u w (load clock_word was a.at ∷ []) clock_word found a.made b in ((was, a.at, b.at, omega arith, m.adds), made_own v w _ v.own m)

pub advanced_now : (v u w : SeatView) (was : ℕ) → Looked v clock_word was u → WasAdvanced u was w → AdvancedNow v (was + 1) w × DidAdvance (was + 1) v w
advanced_now v u w was a b = let m = made_then v u w (load clock_word was a.at ∷ []) _ v.own (λ d. record d { advances = d.advances ++ (was + 1) ∷ [] }) a.made b.1 in ((was, a.at, b.0, refl, m.adds), made_own v w _ _ m)

-- the slots below this one were found taken
pub record Searched (v : SeatView) (slot : ℕ) (w : SeatView) : Type 0 where
  pub taken : Scanned
  pub as_many : length taken ≡ slot
  pub full : AreTaken taken
  pub made : Performed v (scan 0 taken) v.own w
  pub real : AllByRecursion (IsValidStep of_meters) (scan 0 taken)

pub searched_none : (v : SeatView) → Searched v 0 v
searched_none v = record { taken = []; as_many = refl; full = tt; made = made_none v; real = tt }

scan_on : (slot : ℕ) (xs ys : Scanned) → scan slot (xs ++ ys) ≡ scan slot xs ++ scan (slot + length xs) ys
scan_on slot [] ys = let z : slot + 0 ≡ slot = omega arith in ap (λ (k : ℕ). scan k ys) (sym z)
scan_on slot (x ∷ xs) ys = let n : ℕ = length xs in let z : slot + suc n ≡ slot + 1 + n = omega arith in (λ i. load (slot_word slot) x.0 x.1 ∷ (scan_on (slot + 1) xs ys ∙ ap (λ (k : ℕ). scan (slot + 1) xs ++ scan k ys) (sym z)) i)

pub searched_more : (v u w : SeatView) (slot : ℕ) (stood : Option Alarm) → Searched v slot u → FoundIn u slot stood w → IsValidView of_meters w → is_some stood ≡ true → Searched v (slot + 1) w
searched_more v u w slot None s f y e = absurd (true≢false (sym e))
searched_more v u w slot (Some alarm) s f y e = let bits : ℕ = word_of (Some alarm) in let l = f.looked in let x : ℕ × AbsState Reading = (bits, l.at) in let long = length-append s.taken (x ∷ []) in let n = s.as_many in let z : slot ≡ 0 + length s.taken = omega arith in let some : 0 < bits = omega arith in
    let m : Performed v (scan 0 (s.taken ++ x ∷ [])) v.own w = subst (λ (es : List (Step Reading)). Performed v es v.own w) (ap (λ (k : ℕ). scan 0 s.taken ++ scan k (x ∷ [])) z ∙ sym (scan_on 0 s.taken (x ∷ []))) (two_looks v u w (scan 0 s.taken) (slot_word slot) bits s.made l) in record {
      taken = s.taken ++ x ∷ [];
      as_many = omega arith;
      full = all_on (λ (found : ℕ × AbsState Reading). 0 < found.0) s.taken (x ∷ []) s.full (some, tt);
      made = m;
      real = entries_real of_meters v w (scan 0 (s.taken ++ x ∷ [])) y m.adds;
    }

pub no_room : (v w : SeatView) (slot : ℕ) → slot ≡ 16 → Searched v slot w → NotSet v not_set.NoRoom w × DidNothing v w
no_room v w slot is s = ((s.taken, s.as_many ∙ is, s.full, s.made.adds), made_own v w _ v.own s.made)

-- the slot was found empty after a search
empty_slot : (u x : SeatView) (slot : ℕ) (stood : Option Alarm) → FoundIn u slot stood x → is_some stood ≡ false → Looked u (slot_word slot) 0 x
empty_slot u x slot None f e = f.looked
empty_slot u x slot (Some alarm) f e = absurd (true≢false e)

module _ (v u x w : SeatView) (slot : ℕ) (stood : Option Alarm) (below : slot < 16) (s : Searched v slot u) (f : FoundIn u slot stood x) (e : is_some stood ≡ false) where
  pub set_now : (alarm : Alarm) → WasSet x slot alarm w → SetNow v slot alarm w × DidSet alarm v w
  set_now alarm h = let g = empty_slot u x slot stood f e in let m = made_then v u w (scan 0 s.taken) (load (slot_word slot) 0 g.at ∷ change (slot_word slot) 0 h.0 (with_alarm h.0.object slot alarm) ∷ []) v.own (λ d. record d { set = d.set ++ alarm ∷ [] }) s.made
      (made_then u x w (load (slot_word slot) 0 g.at ∷ []) _ u.own (λ d. record d { set = d.set ++ alarm ∷ [] }) g.made h.1) in ((s.taken, g.at, h.0, s.as_many, below, s.full, m.adds), made_own v w _ _ m)

  pub lost_slot : FoundOther x slot None w → NotSet v (not_set.Lost slot) w × DidNothing v w
  lost_slot (other, o, ne) = let g = empty_slot u x slot stood f e in let some : 0 < other = omega arith in let m = made_then v u w (scan 0 s.taken) (load (slot_word slot) 0 g.at ∷ load (slot_word slot) other o.at ∷ []) v.own (λ d. d) s.made (two_looks u x w (load (slot_word slot) 0 g.at ∷ []) (slot_word slot) other g.made o) in
      ((s.taken, other, g.at, o.at, s.as_many, below, s.full, some, m.adds), made_own v w _ v.own m)

-- what one slot gave
nothing_more : (v w : SeatView) (es : List (Step Reading)) → Performed v es v.own w → Performed v es (record v.own { fired = v.own.fired ++ [] }) w
nothing_more v w es m = record { adds = m.adds; did = m.did ∙ (λ i. record v.own { fired = sym (append-nil v.own.fired) i }); member = m.member }

-- the content of the slot is not due
abbrev pub IsNotDue : ℕ → Option Alarm → Type 0
IsNotDue clock None = Unit {0}
IsNotDue clock (Some alarm) = clock < alarm.due

not_due : (clock : ℕ) (stood : Option Alarm) → Fits stood → IsNotDue clock stood → (word_of stood ≡ 0) ⊎ (clock < (alarm_in (word_of stood)).due)
not_due clock None fits n = inl refl
not_due clock (Some alarm) fits n = let back : (alarm_in (word_of (Some alarm))).due ≡ alarm.due = ap (λ (z : Alarm). z.due) (given_back alarm fits) in inr (subst (λ (z : ℕ). clock < z) (sym back) n)

pub gave_none : (v w : SeatView) (clock slot : ℕ) (stood : Option Alarm) → FoundIn v slot stood w → IsNotDue clock stood → Gave v clock slot None w
gave_none v w clock slot stood f n = let l = f.looked in record { visit = stays (word_of stood) l.at; alarm_is = refl; fits = not_due clock stood f.fits n; made = nothing_more v w _ l.made }

pub gave_lost : (v u w : SeatView) (clock slot : ℕ) (alarm : Alarm) → FoundIn v slot (Some alarm) u → alarm.due ≤ clock → FoundOther u slot (Some alarm) w → Gave v clock slot None w
gave_lost v u w clock slot alarm f due (other, o, ne) = let l = f.looked in let back : (alarm_in (word_of (Some alarm))).due ≡ alarm.due = ap (λ (z : Alarm). z.due) (given_back alarm f.fits) in record {
  visit = went (word_of (Some alarm)) l.at other o.at;
  alarm_is = refl;
  fits = (omega arith, subst (λ (z : ℕ). z ≤ clock) (sym back) due, ne);
  made = nothing_more v w _ (two_looks v u w (load (slot_word slot) (word_of (Some alarm)) l.at ∷ []) (slot_word slot) other l.made o);
}

pub gave_fired : (v u w : SeatView) (clock slot : ℕ) (alarm : Alarm) → FoundIn v slot (Some alarm) u → alarm.due ≤ clock → WasFired u slot alarm w → Gave v clock slot (Some alarm) w
gave_fired v u w clock slot alarm f due h = let l = f.looked in record {
  visit = goes alarm l.at h.0;
  alarm_is = refl;
  fits = due;
  made = made_then v u w (load (slot_word slot) (word_of (Some alarm)) l.at ∷ []) _ v.own (λ d. record d { fired = d.fired ++ alarm ∷ [] }) l.made h.1;
}

-- the clock is no less than before
pub clock_seat : (v w : SeatView) (clock : ℕ) (es : List (Step Reading)) → ∥ IsValidView of_meters v ∥₁ → IsValidView of_meters w → ExtendsTrace v es w → clock ≤ v.seen.object.clock → clock ≤ w.seen.object.clock
clock_seat v w clock es x y adds valid = ∥∥₁_elim x le_prop (λ (h : IsValidView of_meters v). let up = clock_seen v w es h y adds in omega arith)

-- the clock is no less after the visit of a slot
pub clock_on : (v w : SeatView) (clock slot : ℕ) (alarm : Option Alarm) → ∥ IsValidView of_meters v ∥₁ → ∥ IsValidView of_meters w ∥₁ → clock ≤ v.seen.object.clock → Gave v clock slot alarm w → clock ≤ w.seen.object.clock
clock_on v w clock slot alarm x y valid g = ∥∥₁_elim y le_prop (λ (h : IsValidView of_meters w). clock_seat v w clock (entries_of slot g.visit) x h g.made.adds valid)

-- nothing but the word of an empty slot is 0
pub empty_found : (v w : SeatView) (clock slot bits : ℕ) (stood : Option Alarm) → bits ≡ word_of stood → FoundIn v slot stood w → (bits == 0) ≡ true → Gave v clock slot None w
empty_found v w clock slot bits None is f empty = gave_none v w clock slot None f tt
empty_found v w clock slot bits (Some alarm) is f empty = absurd (true≢false (sym empty ∙ ne_eqb bits 0 (λ none. omega arith)))

-- the step found the clock at this tick, or past it
abbrev pub IsLate : ℕ → Step Reading → Type 0
IsLate clock e = clock ≤ e.then.object.clock

-- each step of a visit found the clock so
visit_late : (u w : SeatView) (clock slot : ℕ) (visit : Visit) → ∥ IsValidView of_meters u ∥₁ → IsValidView of_meters w → clock ≤ u.seen.object.clock → ExtendsTrace u (entries_of slot visit) w → AllByRecursion (IsLate clock) (entries_of slot visit)
visit_late u w clock slot visit x y valid a = each visit a
  where
    one : (before after : List (Step Reading)) (e : Step Reading) → ExtendsTrace u (before ++ e ∷ after) w → IsLate clock e
    one before after e a = ∥∥₁_elim x le_prop (λ (h : IsValidView of_meters u). let low = (clock_then u w h y before after e a).0 in omega arith)

    each : (visit : Visit) → ExtendsTrace u (entries_of slot visit) w → AllByRecursion (IsLate clock) (entries_of slot visit)
    each (stays found m) a = (one [] [] (load (slot_word slot) found m) a, tt)
    each (goes alarm m n) a = let e : Step Reading = load (slot_word slot) (word_of (Some alarm)) m in let f : Step Reading = change (slot_word slot) (word_of (Some alarm)) n (with_fired n.object slot alarm) in (one [] (f ∷ []) e a, (one (e ∷ []) [] f a, tt))
    each (went found m other n) a = let e : Step Reading = load (slot_word slot) found m in let f : Step Reading = load (slot_word slot) other n in (one [] (f ∷ []) e a, (one (e ∷ []) [] f a, tt))

-- the slots below this one were visited, and gave these alarms
pub record Swept (v : SeatView) (clock slot : ℕ) (alarms : List Alarm) (w : SeatView) : Type 0 where
  pub visits : List Visit
  pub as_many : length visits ≡ slot
  pub fit : AllByRecursion (IsVisit clock) visits
  pub alarms_are : alarms ≡ filter_map gave visits
  pub made : Performed v (tour 0 visits) (record v.own { fired = v.own.fired ++ filter_map gave visits }) w
  pub real : AllByRecursion (IsValidStep of_meters) (tour 0 visits)
  pub late : AllByRecursion (IsLate clock) (tour 0 visits)

pub swept_none : (v : SeatView) (clock : ℕ) (alarms : List Alarm) → alarms ≡ [] → Swept v clock 0 alarms v
swept_none v clock alarms none = record { visits = []; as_many = refl; fit = tt; alarms_are = none; made = nothing_more v v [] (made_none v); real = tt; late = tt }

tour_on : (slot : ℕ) (xs ys : List Visit) → tour slot (xs ++ ys) ≡ tour slot xs ++ tour (slot + length xs) ys
tour_on slot [] ys = let z : slot + 0 ≡ slot = omega arith in ap (λ (k : ℕ). tour k ys) (sym z)
tour_on slot (x ∷ xs) ys = let n : ℕ = length xs in let z : slot + suc n ≡ slot + 1 + n = omega arith in
    (λ i. entries_of slot x ++ (tour_on (slot + 1) xs ys ∙ ap (λ (k : ℕ). tour (slot + 1) xs ++ tour k ys) (sym z)) i) ∙ sym (append_assoc (entries_of slot x) (tour (slot + 1) xs) (tour (slot + suc n) ys))

pub swept_more : (v u w : SeatView) (clock slot : ℕ) (alarms new : List Alarm) (alarm : Option Alarm) → Swept v clock slot alarms u → Gave u clock slot alarm w → ∥ IsValidView of_meters u ∥₁ → clock ≤ u.seen.object.clock → IsValidView of_meters w → new ≡ alarms ++ filter_map (λ (x : Option Alarm). x) (alarm ∷ []) → Swept v clock (slot + 1) new w
swept_more v u w clock slot alarms new alarm s g x' valid y is = let x : Visit = g.visit in let long = length-append s.visits (x ∷ []) in let n = s.as_many in let z : slot ≡ 0 + length s.visits = omega arith in
    let all = sym (filter_map-append gave s.visits (x ∷ [])) in
    let more : tour 0 s.visits ++ entries_of slot x ≡ tour 0 (s.visits ++ x ∷ []) = ap (λ (e : List (Step Reading)). tour 0 s.visits ++ e) (sym (append-nil (entries_of slot x))) ∙ (ap (λ (k : ℕ). tour 0 s.visits ++ tour k (x ∷ [])) z ∙ sym (tour_on 0 s.visits (x ∷ []))) in
    let m : Performed v (tour 0 (s.visits ++ x ∷ [])) (record v.own { fired = v.own.fired ++ filter_map gave (s.visits ++ x ∷ []) }) w = subst (λ (es : List (Step Reading)). Performed v es (record v.own { fired = v.own.fired ++ filter_map gave (s.visits ++ x ∷ []) }) w) more
    (subst (λ (fired : List Alarm). Performed v (tour 0 s.visits ++ entries_of slot x) (record v.own { fired = fired }) w) (append_assoc v.own.fired (filter_map gave s.visits) (filter_map gave (x ∷ [])) ∙ ap (λ (e : List Alarm). v.own.fired ++ e) all)
    (made_then v u w (tour 0 s.visits) (entries_of slot x) _ (λ d. record d { fired = d.fired ++ filter_map gave (x ∷ []) }) s.made g.made)) in record {
      visits = s.visits ++ x ∷ [];
      as_many = omega arith;
      fit = all_on (IsVisit clock) s.visits (x ∷ []) s.fit (g.fits, tt);
      alarms_are = is ∙ ((λ i. s.alarms_are i ++ one g.visit alarm g.alarm_is i) ∙ all);
      made = m;
      real = entries_real of_meters v w (tour 0 (s.visits ++ x ∷ [])) y m.adds;
      late = subst (AllByRecursion (IsLate clock)) more (all_on (IsLate clock) (tour 0 s.visits) (entries_of slot x) s.late (visit_late u w clock slot x x' y valid g.made.adds));
    }
  where
    one : (visit : Visit) (a : Option Alarm) → a ≡ gave visit → filter_map (λ (x : Option Alarm). x) (a ∷ []) ≡ filter_map gave (visit ∷ [])
    one (stays found m) a e = ap (λ (x : Option Alarm). filter_map (λ (y : Option Alarm). y) (x ∷ [])) e
    one (goes alarm m k) a e = ap (λ (x : Option Alarm). filter_map (λ (y : Option Alarm). y) (x ∷ [])) e
    one (went found m other k) a e = ap (λ (x : Option Alarm). filter_map (λ (y : Option Alarm). y) (x ∷ [])) e

few : (visits : List Visit) → length (filter_map gave visits) ≤ length visits
few [] = omega arith
few (stays found m ∷ xs) = let f = few xs in omega arith
few (goes alarm m n ∷ xs) = let f = few xs in omega arith
few (went found m other n ∷ xs) = let f = few xs in omega arith

pub swept_few : (v w : SeatView) (clock slot : ℕ) (alarms : List Alarm) → Swept v clock slot alarms w → length alarms ≤ slot
swept_few v w clock slot alarms s = let f = few s.visits in let n = s.as_many in let e : length alarms ≡ length (filter_map gave s.visits) = ap length s.alarms_are in omega arith

-- a load of the clock, and then the slots
pub fired_now : (v u w : SeatView) (clock slot : ℕ) (alarms : List Alarm) → slot ≡ 16 → Looked v clock_word clock u → Swept u clock slot alarms w → FiredNow v alarms w × DidFire alarms v w
fired_now v u w clock slot alarms is f s = let m = made_then v u w (load clock_word clock f.at ∷ []) (tour 0 s.visits) v.own (λ d. record d { fired = d.fired ++ filter_map gave s.visits }) f.made s.made in
    ((clock, f.at, s.visits, s.as_many ∙ is, s.fit, s.alarms_are, m.adds), made_own v w _ _ m ∙ (λ i. record (own_of v) { fired = v.own.fired ++ sym s.alarms_are i }))
