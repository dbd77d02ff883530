-- When each event of the thread elements is allowed, and what it then makes of the stored elements.
use Rattle.quaject_core.proofs.Common.{◌≡◌, ℕ, ◌+◌, ◌%◌, ◌<◌, Bool, true, false, ◌||◌, not, cond, List, [], ◌∷◌, ◌++◌, ◌∙◌, map, length, remove, position, set, get_or, refl, sym, ap, ap₂, subst, arith, Option, Some, None, slice_get, option_map, eqb, ltb, Result, Ok, Err, nat_tests, ltb-true, map-set, length-map, slice_get-map, slice_get_read, slice_get-get_or, list_any, Thread, Elements, hold, is_hold, is_put, is_busy, holds, put_on, park, start, deliver, done, change_thread, notify_wait, refused_if, elements, thread, Hold, Refusal, Full, NotHeld, ProcessorBusy, NotStopped, StoredElements, StoredThread}
use Rattle.std.specs.Option.{is_some}
use Rattle.event_theory.proofs.Outcomes.{changed, parked_ok, park_not_held, park_not_stopped, start_not_stopped, put_not_held, put_held, started_ok, delivered_ok, deliver_not_held, done_ok, done_not_held}
use Rattle.event_theory.proofs.Lists.Placed.{there as is_there}

-- what was read at a place
pub found_at : {A : Type 0} (xs : List A) (k e : ℕ) (x : A) → k ≡ e → k < length xs → x ≡ get_or xs k x → slice_get xs e ≡ Some x
found_at xs k e x same below is = ap (slice_get xs) (sym same) ∙ slice_get_read xs (length xs) k x refl below is

-- what was read at a place, whatever would be read past the end
pub read_at : {A : Type 0} (xs : List A) (k e : ℕ) (d x : A) → k ≡ e → k < length xs → get_or xs k d ≡ x → slice_get xs e ≡ Some x
read_at xs k e d x same below is = ap (slice_get xs) (sym same) ∙ (slice_get-get_or xs k d below ∙ ap Some is)

-- two reads of one place
pub same_read : {A : Type 0} (xs : List A) (k e : ℕ) (x y : A) → k ≡ e → k < length xs → x ≡ get_or xs k x → slice_get xs e ≡ Some y → x ≡ y
same_read xs k e x y same below is found =
    let h : Some x ≡ Some y = sym (found_at xs k e x same below is) ∙ found in cc

-- what is shown of a place
pub shown_at : {A B : Type 0} (f : A → B) (xs : List A) (e : ℕ) (x : A) → slice_get xs e ≡ Some x → slice_get (map f xs) e ≡ Some (f x)
shown_at f xs e x found = slice_get-map f xs e ∙ ap (option_map f) found

pub shown_none : {A B : Type 0} (f : A → B) (xs : List A) (e : ℕ) → slice_get xs e ≡ None → slice_get (map f xs) e ≡ None
shown_none f xs e found = slice_get-map f xs e ∙ ap (option_map f) found

-- what is shown after a change of a place
pub shown_set : {A B : Type 0} (f : A → B) (xs : List A) (k e : ℕ) (new : A) (y : B) → k ≡ e → f new ≡ y → map f (set xs k new) ≡ set (map f xs) e y
shown_set f xs k e new y same is = map-set f xs k new ∙ ap₂ (λ n z. set (map f xs) n z) same is

-- a stored element that is there is changed
pub stored_changed : (s : StoredElements) (k e : ℕ) (change : Thread → Result Thread Refusal) (old new : StoredThread) → k ≡ e → k < length s.threads.items
    → old ≡ get_or s.threads.items k old → change (thread old) ≡ Ok (thread new)
    → change_thread e change (elements s) ≡ Ok (record (elements s) { threads = map thread (set s.threads.items k new) })
stored_changed s k e change old new same below is done =
    changed e change (elements s) (thread old) (thread new) (shown_at thread s.threads.items e old (found_at s.threads.items k e old same below is)) done
    ∙ ap (λ threads. Ok (record (elements s) { threads = threads })) (sym (shown_set thread s.threads.items k e new (thread new) same refl))

-- what is shown after a change of the threads and of who holds what
shown_changes : (s : StoredElements) (k e : ℕ) (new : StoredThread) (shown : Thread) (before after : List Hold) → k ≡ e → thread new ≡ shown → after ≡ before
    → ◌≡◌ {A = Result Elements Refusal} (Ok (record (elements s) { threads = set (elements s).threads e shown; held = before }))
    (Ok (record (elements s) { threads = map thread (set s.threads.items k new); held = after }))
shown_changes s k e new shown before after same is held =
    ap₂ (λ threads (hs : List Hold). Ok (record (elements s) { threads = threads; held = hs })) (sym (shown_set thread s.threads.items k e new shown same is)) (sym held)

pub stored_parked : (s : StoredElements) (call k e item index : ℕ) (first old new : StoredThread) (after : List Hold) → k ≡ e → item ≡ e → k < length s.threads.items
    → slice_get s.threads.items e ≡ Some first → old ≡ get_or s.threads.items k old
    → position (is_hold call item) s.held.holds.items ≡ Some index → first.stop ≡ true → thread new ≡ record (thread old) { parked = true } → after ≡ remove s.held.holds.items index
    → park call e (elements s) ≡ Ok (record (elements s) { threads = map thread (set s.threads.items k new); held = after })
stored_parked s call k e item index first old new after same own below seen is found stopped shown held =
    let again : old ≡ first = same_read s.threads.items k e old first same below is seen in
    parked_ok call e index (elements s) (thread old) (shown_at thread s.threads.items e old (found_at s.threads.items k e old same below is))
    (ap (λ n. position (is_hold call n) s.held.holds.items) (sym own) ∙ found) (ap (λ t. t.stop) again ∙ stopped)
    ∙ shown_changes s k e new _ _ after same shown held

pub stored_started : (s : StoredElements) (call k e item : ℕ) (is_parked : Bool) (first old new : StoredThread) (after : List Hold) → k ≡ e → item ≡ e → k < length s.threads.items
    → slice_get s.threads.items e ≡ Some first → old ≡ get_or s.threads.items k old → first.stop ≡ true → is_parked ≡ first.parked
    → thread new ≡ record (thread old) { stop = false; parked = false } → after ≡ s.held.holds.items ++ cond is_parked (hold call item ∷ []) []
    → start call e (elements s) ≡ Ok (record (elements s) { threads = map thread (set s.threads.items k new); held = after })
stored_started s call k e item is_parked first old new after same own below seen is stopped parks shown held =
    let again : old ≡ first = same_read s.threads.items k e old first same below is seen in
    let here : is_parked ≡ old.parked = parks ∙ ap (λ t. t.parked) (sym again) in
    started_ok call e (elements s) (thread old) (shown_at thread s.threads.items e old (found_at s.threads.items k e old same below is)) (ap (λ t. t.stop) again ∙ stopped)
    ∙ shown_changes s k e new _ _ after same shown (held ∙ ap₂ (λ b n. s.held.holds.items ++ cond b (hold call n ∷ []) []) here own)

pub stored_delivered : (s : StoredElements) (call k e item : ℕ) (old new : StoredThread) → k ≡ e → item ≡ e → k < length s.threads.items → old ≡ get_or s.threads.items k old
    → list_any (is_hold call item) s.held.holds.items ≡ true → thread new ≡ record (thread old) { pending = λ signal. false }
    → deliver call e (elements s) ≡ Ok (record (elements s) { threads = map thread (set s.threads.items k new) })
stored_delivered s call k e item old new same own below is held shown =
    delivered_ok call e (elements s) (thread old) (shown_at thread s.threads.items e old (found_at s.threads.items k e old same below is))
    (ap (λ n. list_any (is_hold call n) s.held.holds.items) (sym own) ∙ held)
    ∙ shown_changes s k e new _ _ s.held.holds.items same shown refl

abbrev steps_by : StoredElements → ℕ → ℕ → Bool
steps_by s call e = holds call e (elements s) || list_any (is_put call e) s.processors

pub stored_done : (s : StoredElements) (call k e item : ℕ) (first old new : StoredThread) → k ≡ e → item ≡ e → k < length s.threads.items → slice_get s.threads.items e ≡ Some first
    → old ≡ get_or s.threads.items k old → first.done < 4294967295 → (holds call item (elements s) || list_any (is_put call item) s.processors) ≡ true
    → thread new ≡ record (thread old) { done = (thread old).done + 1 }
    → done call e (elements s) ≡ Ok (record (elements s) { threads = map thread (set s.threads.items k new) })
stored_done s call k e item first old new same own below seen is room can shown =
    let again : old ≡ first = same_read s.threads.items k e old first same below is seen in
    done_ok call e (elements s) (thread old) (shown_at thread s.threads.items e old (found_at s.threads.items k e old same below is))
    (subst (λ t. t.done < 4294967295) (sym again) room) (ap (steps_by s call) (sym own) ∙ can)
    ∙ shown_changes s k e new _ _ s.held.holds.items same shown refl

pub stored_not_done : (s : StoredElements) (call e item : ℕ) (first : StoredThread) → item ≡ e → slice_get s.threads.items e ≡ Some first → first.done < 4294967295
    → (holds call item (elements s) || list_any (is_put call item) s.processors) ≡ false → done call e (elements s) ≡ Err NotHeld
stored_not_done s call e item first own seen room can =
    done_not_held call e (elements s) (thread first) (shown_at thread s.threads.items e first seen) room (ap (steps_by s call) (sym own) ∙ can)

-- an element that is known is below the number of the stored ones
pub known : (s : StoredElements) (e : ℕ) (answer : Bool) → answer ≡ ltb e (length (elements s).threads) → answer ≡ true → e < length s.threads.items
known s e answer is there = omega (arith, ltb-true e (length (elements s).threads) (sym is ∙ there), length-map s.threads.items thread)

pub not_all : (n : ℕ) → n < 4294967296 → (n ≡ 4294967295 → ⊥) → n < 4294967295
not_all n fits not = omega arith

-- an event of a stored element is refused if the call does not hold the element, or its stop bit is clear
pub stored_not_held : (s : StoredElements) (call e item : ℕ) (first : StoredThread) → item ≡ e → slice_get s.threads.items e ≡ Some first → position (is_hold call item) s.held.holds.items ≡ None
    → park call e (elements s) ≡ Err NotHeld
stored_not_held s call e item first own seen none =
    park_not_held call e (elements s) (thread first) (shown_at thread s.threads.items e first seen) (ap (λ n. position (is_hold call n) s.held.holds.items) (sym own) ∙ none)

pub stored_not_stopped : (s : StoredElements) (call e item index : ℕ) (first : StoredThread) → item ≡ e → slice_get s.threads.items e ≡ Some first
    → position (is_hold call item) s.held.holds.items ≡ Some index → first.stop ≡ false → park call e (elements s) ≡ Err NotStopped
stored_not_stopped s call e item index first own seen found running =
    park_not_stopped call e index (elements s) (thread first) (shown_at thread s.threads.items e first seen) (ap (λ n. position (is_hold call n) s.held.holds.items) (sym own) ∙ found) running

pub stored_not_started : (s : StoredElements) (call e : ℕ) (first : StoredThread) → slice_get s.threads.items e ≡ Some first → first.stop ≡ false → start call e (elements s) ≡ Err NotStopped
stored_not_started s call e first seen running = start_not_stopped call e (elements s) (thread first) (shown_at thread s.threads.items e first seen) running

pub stored_not_delivered : (s : StoredElements) (call e item : ℕ) → item ≡ e → e < length s.threads.items → list_any (is_hold call item) s.held.holds.items ≡ false → deliver call e (elements s) ≡ Err NotHeld
stored_not_delivered s call e item own below none =
    let there = is_there s.threads.items e below in
    deliver_not_held call e (elements s) (thread there.0) (shown_at thread s.threads.items e there.0 there.1) (ap (λ n. list_any (is_hold call n) s.held.holds.items) (sym own) ∙ none)

-- a stored element is put on a processor, or is not
pub stored_not_put : (s : StoredElements) (call processor e item : ℕ) → e < length s.threads.items → processor < length s.processors → item ≡ e → position (is_hold call item) s.held.holds.items ≡ None
    → put_on call processor e (elements s) ≡ Err NotHeld
stored_not_put s call processor e item below within own none =
    let there = is_there s.threads.items e below in let seat = is_there s.processors processor within in
    put_not_held call processor e (elements s) (thread there.0) seat.0 (shown_at thread s.threads.items e there.0 there.1) seat.1 (ap (λ n. position (is_hold call n) s.held.holds.items) (sym own) ∙ none)

busy : (seat : Option Hold) → is_some seat ≡ is_busy seat
busy None = refl
busy (Some h) = refl

pub stored_put : (s : StoredElements) (call processor e item k index : ℕ) (seat : Option Hold) (taken : Bool) → e < length s.threads.items → item ≡ e → k ≡ processor → k < length s.processors
    → taken ≡ is_some (get_or s.processors k seat) → position (is_hold call item) s.held.holds.items ≡ Some index
    → put_on call processor e (elements s)
    ≡ refused_if taken ProcessorBusy (Ok (record (elements s) { processors = set s.processors k (Some (hold call item)); held = remove s.held.holds.items index }))
stored_put s call processor e item k index seat taken below own same within is found =
    let there = is_there s.threads.items e below in
    put_held call processor e index (elements s) (thread there.0) (get_or s.processors k seat) taken (shown_at thread s.threads.items e there.0 there.1)
    (read_at s.processors k processor seat _ same within refl) (ap (λ n. position (is_hold call n) s.held.holds.items) (sym own) ∙ found) (sym (is ∙ busy (get_or s.processors k seat)))
    ∙ ap₂ (λ p n. refused_if taken ProcessorBusy (Ok (record (elements s) { processors = set s.processors p (Some (hold call n)); held = remove s.held.holds.items index }))) (sym same) (sym own)

-- a stored wait queue has one more notify
pub stored_notified : (s : StoredElements) (wait k : ℕ) → k ≡ wait → k < length s.notified
    → notify_wait wait (elements s) ≡ Ok (record (elements s) { notified = set s.notified k ((get_or s.notified k 0 + 1) % 4294967296) })
stored_notified s wait k same within =
    subst (λ n. notify_wait n (elements s) ≡ Ok (record (elements s) { notified = set s.notified k ((get_or s.notified k 0 + 1) % 4294967296) })) same
    (rw (slice_get-get_or s.notified k 0 within) refl)
