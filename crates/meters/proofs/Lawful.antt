-- Real steps are events of the core.
use Rattle.meters.proofs.Common.{◌≡◌, ◌≢◌, ◌⊎◌, ⊎_elim, inl, inr, ℕ, ◌+◌, ◌<◌, ◌≤◌, List, [], ◌∷◌, ◌++◌, length, length-append, get_or, refl, sym, ap, ◌∙◌, subst, arith, Option, Some, None, Ok, Alarm, tick, advance, fire, cancel, AbsState, Step, change, IsValidStep, Reaches, reaches_go, clock_word, slot_word, word_of, alarm_in, Reading, meters_of, IsLawful, in_slot, with_tick, with_advance, with_alarm, with_fired, with_cancelled, Becomes, Happens, IsSet, of_meters, IsInRange, Fits, WordsShow}
use Rattle.std.proofs.Common.{le-ltb}
use Rattle.std.proofs.lemmas.List.{append_cancel_left}
use Rattle.table_theory.proofs.Saying.{real_change, at_word}
use Rattle.meters.specs.Layout.{gauge_word}
use Rattle.meters.specs.Changes as becomes
use Rattle.meters.specs.Events.{Leads, here, further}
use Rattle.meters.specs.Events as events
use Rattle.meters.proofs.Codes.{no_word, one_word, given_back}
use Rattle.meters.proofs.Events.{tick_is, advance_is, set_is, fire_is, cancel_is, happens_lawful}
use Rattle.meters.proofs.Clocks.{clock_by}

-- one event, of meters that words show
happens : (m n : Reading) (words : List ℕ) → WordsShow m words → Becomes m n → Happens m n
happens m n words h (becomes.ticked g a b e) = let eight = h.eight in subst (λ (z : Reading). Happens m z) (sym e) (events.ticked g a (tick_is m g a (omega arith)))
happens m n words h (becomes.advanced b e) = subst (λ (z : Reading). Happens m z) (sym e) (events.advanced (advance_is m (λ q. omega arith)))
happens m n words h (becomes.was_set slot alarm b s e) = let sixteen = h.slots.sixteen in subst (λ (z : Reading). Happens m z) (sym e) (events.was_set slot alarm (set_is m slot alarm (omega arith) s))
happens m n words h (becomes.fired slot alarm b s d e) = let sixteen = h.slots.sixteen in subst (λ (z : Reading). Happens m z) (sym e) (events.fired slot (fire_is m slot alarm (omega arith) s (le-ltb m.clock alarm.due d)))
happens m n words h (becomes.cancelled slot alarm b s e) = let sixteen = h.slots.sixteen in subst (λ (z : Reading). Happens m z) (sym e) (events.cancelled slot (cancel_is m slot alarm (omega arith) s))

pub stays_lawful : (m n : Reading) (words : List ℕ) → WordsShow m words → IsLawful m → Becomes m n → IsLawful n
stays_lawful m n words h l b = happens_lawful m n l (happens m n words h b)

pub real_event : (e : Step Reading) → IsValidStep of_meters e → (e.next.object ≡ e.then.object) ⊎ Happens e.then.object e.next.object
real_event e r = ⊎_elim inl (λ b. inr (happens e.then.object e.next.object r.words r.shows b)) (real_change of_meters e r)

leads_on : (m n o : Reading) → Leads m n → Leads n o → Leads m o
leads_on m n _ l here = l
leads_on m n o l (further p _ k e) = further p o (leads_on m n p l k) e

pub reaches_lead : (m n : AbsState Reading) → Reaches of_meters m n → Leads m.object n.object
reaches_lead = reaches_go of_meters Leads (λ m. here) leads_on (λ m n words shows b. further m n here (happens m n words shows b))

-- what a number says
pub gauge_says : (e : Step Reading) (gauge : ℕ) → gauge < 8 → e.word ≡ gauge_word gauge → IsValidStep of_meters e → e.found ≡ get_or e.then.object.gauges gauge 0
gauge_says e gauge below is r = at_word of_meters e (gauge_word gauge) is r ∙ r.shows.gauges gauge below

pub clock_says : (e : Step Reading) → e.word ≡ clock_word → IsValidStep of_meters e → (e.found ≡ e.then.object.clock) × (e.found < 4294967296)
clock_says e is r = let f = at_word of_meters e clock_word is r ∙ r.shows.clock in let b = r.shows.bounded in (f, omega arith)

pub slot_says : (e : Step Reading) (slot : ℕ) → slot < 16 → e.word ≡ slot_word slot → IsValidStep of_meters e → e.found ≡ word_of (in_slot e.then.object slot)
slot_says e slot below is r = at_word of_meters e (slot_word slot) is r ∙ r.shows.slots.each slot below

pub empty_says : (e : Step Reading) (slot : ℕ) → slot < 16 → e.word ≡ slot_word slot → IsValidStep of_meters e → e.found ≡ 0 → in_slot e.then.object slot ≡ None
empty_says e slot below is r zero = no_word (in_slot e.then.object slot) (sym (slot_says e slot below is r) ∙ zero)

said : (stood : Option Alarm) (found : ℕ) → Fits stood → found ≡ word_of stood → 0 < found → stood ≡ Some (alarm_in found)
said None found fits e some = absurd (omega arith)
said (Some alarm) found fits e some = ap Some (sym (given_back alarm fits) ∙ ap alarm_in (sym e))

pub taken_says : (e : Step Reading) (slot : ℕ) → slot < 16 → e.word ≡ slot_word slot → IsValidStep of_meters e → 0 < e.found → in_slot e.then.object slot ≡ Some (alarm_in e.found)
taken_says e slot below is r some = said (in_slot e.then.object slot) e.found (r.shows.slots.fit slot below) (slot_says e slot below is r) some

pub other_says : (e : Step Reading) (slot : ℕ) (alarm : Alarm) → slot < 16 → e.word ≡ slot_word slot → IsValidStep of_meters e → e.found ≢ word_of (Some alarm) → in_slot e.then.object slot ≢ Some alarm
other_says e slot alarm below is r ne = λ there. ne (slot_says e slot below is r ∙ ap word_of there)

-- each change
pub tick_event : (gauge amount found : ℕ) (m : AbsState Reading) → gauge < 8 → IsValidStep of_meters (change (gauge_word gauge) found m (with_tick m.object gauge amount)) → tick gauge amount (meters_of m.object) ≡ Ok (meters_of (with_tick m.object gauge amount))
tick_event gauge amount found m below r = let eight = r.shows.eight in tick_is m.object gauge amount (omega arith)

pub advance_event : (found : ℕ) (m : AbsState Reading) → IsValidStep of_meters (change clock_word found m (with_advance m.object)) → advance (meters_of m.object) ≡ Ok (meters_of (with_advance m.object))
advance_event found m r = let o : Reading = m.object in advance_is o (λ last. ⊎_elim
    (λ e. let x : o.clock + 1 ≡ o.clock = ap (λ (z : Reading). z.clock) e in omega arith)
    (λ b. ⊎_elim (λ e. let x : o.clock + 1 ≡ o.clock = e in omega arith) (λ e. let below = e.1 in omega arith) (clock_by o (with_advance o) b))
    (real_change of_meters (change clock_word found m (with_advance o)) r))

pub set_event : (slot : ℕ) (alarm : Alarm) (m : AbsState Reading) → slot < 16 → IsValidStep of_meters (change (slot_word slot) 0 m (with_alarm m.object slot alarm)) → IsSet slot alarm m.object (with_alarm m.object slot alarm)
set_event slot alarm m below r = let sixteen = r.shows.slots.sixteen in set_is m.object slot alarm (omega arith) (empty_says (change (slot_word slot) 0 m (with_alarm m.object slot alarm)) slot below refl r refl)

-- the alarm was due where it was fired
longer : {A : Type 0} (xs : List A) (x : A) → xs ++ x ∷ [] ≢ xs
longer xs x e = let a = length-append xs (x ∷ []) in let b = ap length e in omega arith

abbrev head_or : {A : Type 0} → A → List A → A
head_or d [] = d
head_or d (z ∷ zs) = z

last_of : {A : Type 0} (xs : List A) (x y : A) → xs ++ x ∷ [] ≡ xs ++ y ∷ [] → x ≡ y
last_of xs x y e = ap (head_or x) (append_cancel_left xs (x ∷ []) (y ∷ []) e)

-- the alarm was in some slot
abbrev Stood : Reading → Alarm → Type 0
Stood m alarm = (k : ℕ) × (k < 16) × (in_slot m k ≡ Some alarm)

-- an alarm that was fired was in some slot, and was due
was_there : (m o : Reading) (slot : ℕ) (alarm : Alarm) → with_fired m slot alarm ≡ o → (o ≡ m) ⊎ Becomes m o → Stood m alarm × (alarm.due ≤ m.clock)
was_there m o slot alarm is (inl e) = absurd (longer m.fired alarm (λ i. ((is ∙ e) i).fired))
was_there m o slot alarm is (inr (becomes.ticked g a b e)) = absurd (longer m.fired alarm (λ i. ((is ∙ e) i).fired))
was_there m o slot alarm is (inr (becomes.advanced b e)) = absurd (longer m.fired alarm (λ i. ((is ∙ e) i).fired))
was_there m o slot alarm is (inr (becomes.was_set k other b s e)) = absurd (longer m.fired alarm (λ i. ((is ∙ e) i).fired))
was_there m o slot alarm is (inr (becomes.fired k other b s d e)) = let same : other ≡ alarm = last_of m.fired other alarm (λ i. (sym (is ∙ e) i).fired) in ((k, b, s ∙ ap Some same), subst (λ (z : Alarm). z.due ≤ m.clock) same d)
was_there m o slot alarm is (inr (becomes.cancelled k other b s e)) = absurd (longer m.fired alarm (λ i. ((is ∙ e) i).fired))

-- an alarm that was cancelled was in some slot
was_cancellable : (m o : Reading) (slot : ℕ) (alarm : Alarm) → with_cancelled m slot alarm ≡ o → (o ≡ m) ⊎ Becomes m o → Stood m alarm
was_cancellable m o slot alarm is (inl e) = absurd (longer m.cancelled alarm (λ i. ((is ∙ e) i).cancelled))
was_cancellable m o slot alarm is (inr (becomes.ticked g a b e)) = absurd (longer m.cancelled alarm (λ i. ((is ∙ e) i).cancelled))
was_cancellable m o slot alarm is (inr (becomes.advanced b e)) = absurd (longer m.cancelled alarm (λ i. ((is ∙ e) i).cancelled))
was_cancellable m o slot alarm is (inr (becomes.was_set k other b s e)) = absurd (longer m.cancelled alarm (λ i. ((is ∙ e) i).cancelled))
was_cancellable m o slot alarm is (inr (becomes.fired k other b s d e)) = absurd (longer m.cancelled alarm (λ i. ((is ∙ e) i).cancelled))
was_cancellable m o slot alarm is (inr (becomes.cancelled k other b s e)) = (k, b, s ∙ ap Some (last_of m.cancelled other alarm (λ i. (sym (is ∙ e) i).cancelled)))

-- a word can encode an alarm that was in a slot
in_range : (m : Reading) (words : List ℕ) (alarm : Alarm) → WordsShow m words → Stood m alarm → IsInRange alarm
in_range m words alarm h s = subst Fits s.2 (h.slots.fit s.0 s.1)

-- the alarm was in the slot whose word was the alarm's
stood_then : (e : Step Reading) (slot : ℕ) (alarm : Alarm) → slot < 16 → IsInRange alarm → e.word ≡ slot_word slot → e.found ≡ word_of (Some alarm) → IsValidStep of_meters e → in_slot e.then.object slot ≡ Some alarm
stood_then e slot alarm below range is bits r = one_word (in_slot e.then.object slot) alarm (r.shows.slots.fit slot below) range (sym (slot_says e slot below is r) ∙ bits)

pub fire_event : (slot : ℕ) (alarm : Alarm) (m : AbsState Reading) → slot < 16 → IsValidStep of_meters (change (slot_word slot) (word_of (Some alarm)) m (with_fired m.object slot alarm))
    → (alarm.due ≤ m.object.clock) × (in_slot m.object slot ≡ Some alarm) × (fire slot (meters_of m.object) ≡ Ok (meters_of (with_fired m.object slot alarm)))
fire_event slot alarm m below r = let sixteen = r.shows.slots.sixteen in let e : Step Reading = change (slot_word slot) (word_of (Some alarm)) m (with_fired m.object slot alarm) in let there = was_there m.object e.next.object slot alarm refl (real_change of_meters e r) in
    let due = there.1 in let stood = stood_then e slot alarm below (in_range m.object r.words alarm r.shows there.0) refl refl r in (due, stood, fire_is m.object slot alarm (omega arith) stood (le-ltb m.object.clock alarm.due due))

pub cancel_event : (slot : ℕ) (alarm : Alarm) (m : AbsState Reading) → slot < 16 → IsValidStep of_meters (change (slot_word slot) (word_of (Some alarm)) m (with_cancelled m.object slot alarm))
    → (in_slot m.object slot ≡ Some alarm) × (cancel slot (meters_of m.object) ≡ Ok (meters_of (with_cancelled m.object slot alarm)))
cancel_event slot alarm m below r = let sixteen = r.shows.slots.sixteen in let e : Step Reading = change (slot_word slot) (word_of (Some alarm)) m (with_cancelled m.object slot alarm) in
    let stood = stood_then e slot alarm below (in_range m.object r.words alarm r.shows (was_cancellable m.object e.next.object slot alarm refl (real_change of_meters e r))) refl refl r in
    (stood, cancel_is m.object slot alarm (omega arith) stood)
