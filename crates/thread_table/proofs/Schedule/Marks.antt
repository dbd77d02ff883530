-- How many notifies the schedule has, and what it has claimed, against the head words of the wait queues.
use Rattle.thread_table.proofs.Common.{join_elements, ◌≡◌, ℕ, suc, ◌+◌, ◌%◌, ◌<◌, ◌≤◌, Bool, true, false, eqb, eq-eqb, ne_eqb, List, [], ◌∷◌, ◌++◌, ◌∙◌, map, length, get_or, set, refl, sym, ap, subst, arith, Result, Ok, append_assoc, get_or-map, get_or-set_same, get_or-set_other, length-map, dite, ℕ_discrete, slice_get_within, get_or_from_slice_get, Elements, Queue, empty_queue, Refusal, Run, State, step, effect, in_elements, counted, Event, Reaches, Begins, ring_at, mark_of, head_in, mark_in, WAITS, PLACES, NOTIFY, wait_ring, head_word, Step, Past, change}
use Rattle.thread_table.specs.Schedules.{state_after, elements_after, IsAllowed}
use Rattle.thread_table.specs.Notifies.{is_notify, notifies_in}
use Rattle.thread_table.specs.Telling.{IsValidHandStep}
use Rattle.thread_table.proofs.Schedule.Schedules.{elements_of, following}
use Rattle.thread_table.proofs.Schedule.Orders.{real_allows}
use Rattle.thread_table.proofs.Events.Saying.{head_says}
use Rattle.thread_table.proofs.Closing.Retiring.{Gives, then_gives, test_gives, ok_gives, Changes, claim_changes, wait_changes, take_changes, raise_changes}
use Rattle.thread_table.proofs.Lists.Counts.{plus, many_cons}
use Rattle.std.proofs.lemmas.List.{length-append}
use Rattle.std.specs.Prelude.{◌==◌, ◌||◌, nat_le, nat_lt}
use Rattle.event_theory.specs.Results.{◌>>=◌, at}
use Rattle.event_theory.specs.Chains.{empty_chain}
use Rattle.event_theory.specs.Queues.{join_queue, join_run}
use Rattle.event_theory.specs.Elements.{let_go, deliver, done}
use Rattle.event_theory.specs.Marks.{notify_wait}
use Rattle.event_theory.specs.Meters.{set_alarm}
use Rattle.event_theory.specs.declared.event.Event.TheVariants as events
use Rattle.event_theory.specs.declared.names.QueueName.TheVariants as names
use Rattle.event_theory.specs.declared.refusal.Refusal.TheVariants.{TooLong, Full}
use Rattle.event_theory.proofs.Lists.Inversions.{then_ok, given_ok, change_ok}

-- WHAT ONE EVENT DOES

-- no element queue has fewer runs then
abbrev Longer : Elements → Elements → Type 0
Longer s t = (ring : ℕ) → length (ring_at s ring).history ≤ length (ring_at t ring).history

-- and the numbers of notifies stay
record Keeps (s t : Elements) : Type 0 where
  notified : t.notified ≡ s.notified
  longer : Longer s t

same_rings : (s t : Elements) → t.rings ≡ s.rings → Longer s t
same_rings s t is ring = subst (λ (z : List Queue). length (ring_at s ring).history ≤ length (get_or z ring (empty_queue PLACES)).history) (sym is) (omega arith)

kept : (s t : Elements) → t.notified ≡ s.notified → t.rings ≡ s.rings → Keeps s t
kept s t same is = record { notified = same; longer = same_rings s t is }

-- where one queue has more runs
more_runs : {more : List (List ℕ)} {n ring : ℕ} {s t : Elements} → Changes more n ring s t → length (ring_at t ring).history ≡ length (ring_at s ring).history + length more
more_runs {more} {n} {ring} {s} {t} c =
    let now : ring_at t ring ≡ c.new = ap (λ (z : List Queue). get_or z ring (empty_queue PLACES)) c.rings ∙ get_or-set_same s.rings ring c.new (empty_queue PLACES) (slice_get_within s.rings ring c.old c.there) in
    let was : ring_at s ring ≡ c.old = get_or_from_slice_get s.rings ring c.old (empty_queue PLACES) c.there in
    let long : length (map (λ (r : Run). r.items) c.new.history) ≡ length (map (λ (r : Run). r.items) c.old.history ++ more) = ap (λ (p : List (List ℕ) × ℕ). length p.0) c.is in
    let a = length-append (map (λ (r : Run). r.items) c.old.history) more in let b = length-map c.new.history (λ (r : Run). r.items) in let d = length-map c.old.history (λ (r : Run). r.items) in
    let x : length (ring_at t ring).history ≡ length c.new.history = ap (λ (q : Queue). length q.history) now in let y : length (ring_at s ring).history ≡ length c.old.history = ap (λ (q : Queue). length q.history) was in omega arith

changed : {more : List (List ℕ)} {n ring : ℕ} {s t : Elements} → Changes more n ring s t → Keeps s t
changed {more} {n} {ring} {s} {t} c = record {
  notified = c.notified;
  longer = λ l. dite (ℕ_discrete l ring)
      (λ is. subst (λ (z : ℕ). length (ring_at s z).history ≤ length (ring_at t z).history) (sym is) (let m = more_runs c in omega arith))
      (λ ne. let same : ring_at t l ≡ ring_at s l = ap (λ (z : List Queue). get_or z l (empty_queue PLACES)) c.rings ∙ get_or-set_other s.rings ring l c.new (empty_queue PLACES) ne in let e = ap (λ (q : Queue). length q.history) same in omega arith);
}

abbrev KeepsTo : (State → Result State Refusal) → Type 0
KeepsTo event = (s : State) → Gives (λ t. Keeps s.elements t.elements) (event s)

elements_keep : (event : Elements → Result Elements Refusal) → ((s : Elements) → Gives (Keeps s) (event s)) → KeepsTo (in_elements event)
elements_keep event keeps s = let P : State → Type 0 = λ t. Keeps s.elements t.elements in then_gives P (event s.elements) _ (λ e is. ok_gives P _ (keeps s.elements e is))

part_keeps : {A : Type 0} (said : Elements → Result A Refusal) (f : Elements → A → Elements) → ((s : Elements) (x : A) → (f s x).notified ≡ s.notified) → ((s : Elements) (x : A) → (f s x).rings ≡ s.rings) → (s : Elements) → Gives (Keeps s) (said s >>= λ x. Ok (f s x))
part_keeps said f same is s = then_gives (Keeps s) (said s) _ (λ x _. ok_gives (Keeps s) (f s x) (kept s (f s x) (same s x) (is s x)))

else_keeps : {A : Type 0} (said : State → Result A Refusal) (f : State → A → State) → ((s : State) (x : A) → (f s x).elements ≡ s.elements) → KeepsTo (λ s. said s >>= λ x. Ok (f s x))
else_keeps said f same s = let P : State → Type 0 = λ t. Keeps s.elements t.elements in then_gives P (said s) _ (λ x _. ok_gives P (f s x) (kept s.elements (f s x).elements (ap (λ (e : Elements). e.notified) (same s x)) (ap (λ (e : Elements). e.rings) (same s x))))

joined_longer : (call other : ℕ) (s t : Elements) → t.rings ≡ map (join_queue call other) s.rings → Longer s t
joined_longer call other s t is ring = let same : ring_at t ring ≡ join_queue call other (ring_at s ring) = ap (λ (z : List Queue). get_or z ring (empty_queue PLACES)) is ∙ get_or-map (join_queue call other) s.rings ring (empty_queue PLACES) in
    let e = ap (λ (q : Queue). length q.history) same in let n = length-map (ring_at s ring).history (join_run call other) in omega arith

-- whether it is a notify of any wait queue
abbrev is_any : Event → Bool
is_any (events.NotifyWait call wait) = true
is_any event = false

effect_keeps : (event : Event) → is_any event ≡ false → KeepsTo (effect event)
effect_keeps (events.NotifyWait call wait) plain = absurd (cc)
effect_keeps (events.Queue capacity) plain = λ s. let P : State → Type 0 = λ t. Keeps s.elements t.elements in
    test_gives P (capacity == 0 || nat_lt 256 capacity) TooLong _ (test_gives P (nat_le 8 (length s.queues)) Full _ (ok_gives P (record s { queues = s.queues ++ empty_queue capacity ∷ [] }) (kept s.elements s.elements refl refl)))
effect_keeps events.Chain plain = λ s. let P : State → Type 0 = λ t. Keeps s.elements t.elements in
    test_gives P (nat_le 8 (length s.chains)) Full _ (ok_gives P (record s { chains = s.chains ++ empty_chain ∷ [] }) (kept s.elements s.elements refl refl))
effect_keeps (events.Claim call names.Ready items) plain = elements_keep _ (λ s t ok. changed (claim_changes 0 call items s t ok))
effect_keeps (events.Claim call names.Free items) plain = elements_keep _ (λ s t ok. changed (claim_changes 1 call items s t ok))
effect_keeps (events.Claim call (names.Wait wait) items) plain = elements_keep _ (λ s t ok. changed (claim_changes (wait_ring wait) call items s t ok))
effect_keeps (events.Raise call names.Ready run index) plain = elements_keep _ (λ s t ok. changed (raise_changes 0 call run index s t ok))
effect_keeps (events.Raise call names.Free run index) plain = elements_keep _ (λ s t ok. changed (raise_changes 1 call run index s t ok))
effect_keeps (events.Raise call (names.Wait wait) run index) plain = elements_keep _ (λ s t ok. changed (raise_changes (wait_ring wait) call run index s t ok))
effect_keeps (events.Take call names.Ready count) plain = elements_keep _ (λ s t ok. changed (take_changes 0 call count s t ok))
effect_keeps (events.Take call names.Free count) plain = elements_keep _ (λ s t ok. changed (take_changes 1 call count s t ok))
effect_keeps (events.Take call (names.Wait wait) count) plain = elements_keep _ (λ s t ok. changed (take_changes (wait_ring wait) call count s t ok))
effect_keeps (events.On call processor element) plain = elements_keep _ (λ s. then_gives (Keeps s) (at element s.threads) _ (λ thread _. then_gives (Keeps s) (at processor s.processors) _ (λ seat _. then_gives (Keeps s) (let_go call element s.held) _ (λ held _. test_gives (Keeps s) _ _ _ (ok_gives (Keeps s) _ (kept s _ refl refl))))))
effect_keeps (events.Off call processor) plain = elements_keep _ (part_keeps _ _ (λ s x. refl) (λ s x. refl))
effect_keeps (events.Stop call element) plain = elements_keep _ (part_keeps _ _ (λ s x. refl) (λ s x. refl))
effect_keeps (events.Park call element) plain = elements_keep _ (λ s. then_gives (Keeps s) (at element s.threads) _ (λ thread _. then_gives (Keeps s) (let_go call element s.held) _ (λ held _. test_gives (Keeps s) _ _ _ (ok_gives (Keeps s) _ (kept s _ refl refl)))))
effect_keeps (events.Start call element) plain = elements_keep _ (λ s. then_gives (Keeps s) (at element s.threads) _ (λ thread _. test_gives (Keeps s) _ _ _ (ok_gives (Keeps s) _ (kept s _ refl refl))))
effect_keeps (events.Signal call element number) plain = elements_keep _ (part_keeps _ _ (λ s x. refl) (λ s x. refl))
effect_keeps (events.Deliver call element) plain = elements_keep (deliver call element) (part_keeps _ _ (λ s x. refl) (λ s x. refl))
effect_keeps (events.Done call element) plain = elements_keep (done call element) (part_keeps _ _ (λ s x. refl) (λ s x. refl))
effect_keeps (events.Set call due element number) plain = λ s. then_gives (λ t. Keeps s.elements t.elements) (at element s.elements.threads) _ (λ thread _. else_keeps (λ s. set_alarm (record { due = due; element = element; signal = number }) s.meters) (λ s meters. record s { meters = meters }) (λ s x. refl) s)
effect_keeps (events.WaitAt call wait element ticket) plain = elements_keep _ (λ s t ok. changed (wait_changes call wait element ticket s t ok))
effect_keeps (events.Join call other) plain = λ s. let P : State → Type 0 = λ t. Keeps s.elements t.elements in test_gives P _ _ _ (ok_gives P _ (record { notified = refl; longer = joined_longer call other s.elements (join_elements call other s.elements) refl }))
effect_keeps event plain = else_keeps _ _ (λ s x. refl)

-- a notify counts one more of its wait queue, modulo 2^32
abbrev marked : Bool → ℕ → ℕ
marked true n = (n + 1) % NOTIFY
marked false n = n

reported_more : (other : ℕ) (s t : Elements) → notify_wait other s ≡ Ok t → ((wait : ℕ) → get_or t.notified wait 0 ≡ marked (eqb other wait) (get_or s.notified wait 0)) × Longer s t
reported_more other s t ok = let a = then_ok _ _ t ok in let c = change_ok other _ s.notified a.0 a.1 in let is : record s { notified = a.0 } ≡ t = given_ok (record s { notified = a.0 }) t a.2 in
    let was : get_or s.notified other 0 ≡ c.0 = get_or_from_slice_get s.notified other c.0 0 c.2 in let new : (c.0 + 1) % NOTIFY ≡ c.1 = given_ok _ c.1 c.3 in
    let now : t.notified ≡ set s.notified other ((get_or s.notified other 0 + 1) % NOTIFY) = ap (λ (e : Elements). e.notified) (sym is) ∙ (c.4 ∙ ap (set s.notified other) (sym new ∙ ap (λ (z : ℕ). (z + 1) % NOTIFY) (sym was))) in (
      (λ wait. dite (ℕ_discrete other wait)
          (λ same. subst (λ (z : ℕ). get_or t.notified z 0 ≡ marked (eqb other z) (get_or s.notified z 0)) same
          (ap (λ (l : List ℕ). get_or l other 0) now ∙ (get_or-set_same s.notified other ((get_or s.notified other 0 + 1) % NOTIFY) 0 (slice_get_within s.notified other c.0 c.2)
          ∙ ap (λ (b : Bool). marked b (get_or s.notified other 0)) (sym (eq-eqb other other refl)))))
          (λ ne. ap (λ (l : List ℕ). get_or l wait 0) now ∙ (get_or-set_other s.notified other wait ((get_or s.notified other 0 + 1) % NOTIFY) 0 (λ z. ne (sym z)) ∙ ap (λ (b : Bool). marked b (get_or s.notified wait 0)) (sym (ne_eqb other wait ne))))),
      same_rings s t (ap (λ (e : Elements). e.rings) (sym is)),
    )

-- so each event does
record Marks (event : Event) (s t : Elements) : Type 0 where
  marks : (wait : ℕ) → get_or t.notified wait 0 ≡ marked (is_notify wait event) (get_or s.notified wait 0)
  longer : Longer s t

of_kept : (s t : Elements) → Keeps s t → (wait : ℕ) → get_or t.notified wait 0 ≡ get_or s.notified wait 0
of_kept s t k wait = ap (λ (l : List ℕ). get_or l wait 0) k.notified

effect_marks : (event : Event) (s t : State) → effect event s ≡ Ok t → Marks event s.elements t.elements
effect_marks (events.NotifyWait call other) s t ok = let a = then_ok (notify_wait other s.elements) _ t ok in let is : record s { elements = a.0 } ≡ t = given_ok (record s { elements = a.0 }) t a.2 in let m = reported_more other s.elements a.0 a.1 in
    subst (λ (z : State). Marks (events.NotifyWait call other) s.elements z.elements) is (record { marks = m.0; longer = m.1 })
effect_marks event s t ok = let k = effect_keeps event refl s t ok in record { marks = of_kept s.elements t.elements k; longer = k.longer }

step_marks : (event : Event) (s t : State) → step event s ≡ Ok t → Marks event s.elements t.elements
step_marks event s t ok = let a = then_ok (effect event s) _ t ok in subst (λ (z : State). Marks event s.elements z.elements) (given_ok (counted a.0) t a.2) (effect_marks event s a.0 a.1)

-- WHAT A SCHEDULE DOES

runs_after : (s : State) (es : List Event) (t : State) → Reaches s es t → Longer s.elements t.elements
runs_after s [] t there ring = same_rings s.elements t.elements (ap (λ (z : State). z.elements.rings) there) ring
runs_after s (e ∷ es) t there ring = let a = (step_marks e s there.0 there.1).longer ring in let b = runs_after there.0 es t there.2 ring in omega arith

one_on : (b : Bool) (n m k r : ℕ) → m ≡ marked b n → r ≡ (m + k) % 4294967296 → r ≡ (n + (plus b + k)) % 4294967296
one_on true n m k r is on = omega arith
one_on false n m k r is on = omega arith

below_mark : (b : Bool) (n : ℕ) → n < 4294967296 → marked b n < 4294967296
below_mark true n h = omega arith
below_mark false n h = h

marks_after : (s : State) (es : List Event) (t : State) → Reaches s es t → (wait : ℕ) → get_or s.elements.notified wait 0 < 4294967296 → get_or t.elements.notified wait 0 ≡ (get_or s.elements.notified wait 0 + notifies_in wait es) % 4294967296
marks_after s [] t there wait low = let e : get_or t.elements.notified wait 0 ≡ get_or s.elements.notified wait 0 = ap (λ (z : State). get_or z.elements.notified wait 0) there in omega arith
marks_after s (e ∷ es) t there wait low = let m = (step_marks e s there.0 there.1).marks wait in let n : ℕ = get_or s.elements.notified wait 0 in
    let low' : get_or there.0.elements.notified wait 0 < 4294967296 = subst (λ (z : ℕ). z < 4294967296) (sym m) (below_mark (is_notify wait e) n low) in
    one_on (is_notify wait e) n (get_or there.0.elements.notified wait 0) (notifies_in wait es) (get_or t.elements.notified wait 0) m (marks_after there.0 es t there.2 wait low') ∙ ap (λ (z : ℕ). (n + z) % 4294967296) (sym (many_cons (is_notify wait) e es))

mark_is : (e : Elements) (wait : ℕ) → mark_of e (wait_ring wait) ≡ get_or e.notified wait 0
mark_is e wait = let n : wait + 2 ≡ suc (suc wait) = omega arith in ap (mark_of e) n

-- later, no element queue has fewer runs
long_on : (past later : List Event) → Begins past later → IsAllowed later → (ring : ℕ) → length (ring_at (elements_after past) ring).history ≤ length (ring_at (elements_after later) ring).history
long_on past later b allowed ring = let r = runs_after (state_after past) b.0 (state_after (past ++ b.0)) (following past b.0 (subst IsAllowed (sym b.1) allowed)) ring in
    let a = ap (λ (e : Elements). length (ring_at e ring).history) (elements_of past) in let c = ap (λ (e : Elements). length (ring_at e ring).history) (elements_of (past ++ b.0)) in let d = ap (λ (z : List Event). length (ring_at (elements_after z) ring).history) b.1 in omega arith

-- a wait claims one place
one_wait : (past : List Event) (call wait element ticket : ℕ) → IsAllowed (past ++ events.WaitAt call wait element ticket ∷ []) → length (ring_at (elements_after (past ++ events.WaitAt call wait element ticket ∷ [])) (wait_ring wait)).history ≡ length (ring_at (elements_after past) (wait_ring wait)).history + 1
one_wait past call wait element ticket allowed = let event : Event = events.WaitAt call wait element ticket in let s : State = state_after past in let r = following past (event ∷ []) allowed in
    let a = then_ok (effect event s) _ r.0 r.1 in let b = then_ok _ _ a.0 a.1 in let m = more_runs (wait_changes call wait element ticket s.elements b.0 b.1) in
    let one : b.0 ≡ r.0.elements = ap (λ (z : State). z.elements) (given_ok _ a.0 b.2) ∙ ap (λ (z : State). z.elements) (given_ok (counted a.0) r.0 a.2) in
    let x = ap (λ (e : Elements). length (ring_at e (wait_ring wait)).history) (one ∙ (ap (λ (z : State). z.elements) (sym r.2) ∙ sym (elements_of (past ++ event ∷ [])))) in
    let y = ap (λ (e : Elements). length (ring_at e (wait_ring wait)).history) (elements_of past) in omega arith

-- THE LAWS

module _ (first wait element ticket call other word found : ℕ) (p q : Past) (below : wait < WAITS) (waits : IsValidHandStep first (change (head_word (wait_ring wait)) word p (events.WaitAt call wait element ticket))) (notifies : IsValidHandStep first (change (head_word (wait_ring wait)) found q (events.NotifyWait other wait))) where
  abbrev waited : List Event
  waited = p.object ++ events.WaitAt call wait element ticket ∷ []

  place : head_in word ≡ first + length (ring_at (elements_after p.object) (wait_ring wait)).history
  place = (head_says first (change (head_word (wait_ring wait)) word p (events.WaitAt call wait element ticket)) waits (wait_ring wait) (omega arith) refl).0

  head : head_in found ≡ first + length (ring_at (elements_after q.object) (wait_ring wait)).history
  head = (head_says first (change (head_word (wait_ring wait)) found q (events.NotifyWait other wait)) notifies (wait_ring wait) (omega arith) refl).0

  pub place_before : Begins waited q.object → head_in word < head_in found
  place_before b = let a = place in let c = head in let one = one_wait p.object call wait element ticket (real_allows first _ waits) in let on = long_on waited q.object b notifies.lawful (wait_ring wait) in omega arith

  pub place_after : Begins (q.object ++ events.NotifyWait other wait ∷ []) p.object → head_in found ≤ head_in word
  place_after b = let a = place in let c = head in let on = long_on q.object p.object (events.NotifyWait other wait ∷ b.0, sym (append_assoc q.object (events.NotifyWait other wait ∷ []) b.0) ∙ b.1) waits.lawful (wait_ring wait) in omega arith

pub none_between : (first wait : ℕ) (e f : Step) (rest : List Event) → wait < WAITS → e.word ≡ head_word (wait_ring wait) → f.word ≡ head_word (wait_ring wait) → IsValidHandStep first e → IsValidHandStep first f → e.then.object ++ rest ≡ f.then.object → mark_in e.found ≡ mark_in f.found → notifies_in wait rest < NOTIFY → notifies_in wait rest ≡ 0
none_between first wait e f rest below is is' r r' on same few =
    let past : List Event = e.then.object in let a = (head_says first e r (wait_ring wait) (omega arith) is).1 in let b = (head_says first f r' (wait_ring wait) (omega arith) is').1 in
    let n : mark_of (elements_after past) (wait_ring wait) ≡ get_or (state_after past).elements.notified wait 0 = mark_is (elements_after past) wait ∙ ap (λ (z : Elements). get_or z.notified wait 0) (elements_of past) in
    let m : mark_of (elements_after f.then.object) (wait_ring wait) ≡ get_or (state_after (past ++ rest)).elements.notified wait 0 = ap (λ (z : List Event). mark_of (elements_after z) (wait_ring wait)) (sym on) ∙ (mark_is (elements_after (past ++ rest)) wait ∙ ap (λ (z : Elements). get_or z.notified wait 0) (elements_of (past ++ rest))) in
    let low = (r.shows.rings (wait_ring wait) (omega arith)).marked in
    let count = marks_after (state_after past) rest (state_after (past ++ rest)) (following past rest (subst IsAllowed (sym on) r'.lawful)) wait (omega arith) in omega arith
