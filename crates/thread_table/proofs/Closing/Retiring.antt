-- The runs of the free elements' queue are the claims of it, and those that were taken are its takings.
use Rattle.thread_table.proofs.Common.{get_or-map, ◌≡◌, ◌≢◌, ℕ, zero, suc, ◌+◌, List, [], ◌∷◌, ◌++◌, ◌∙◌, map, length, drop, get_or, set, refl, sym, ap, subst, arith, Some, slice_get, Result, Ok, append-nil, get_or-set_same, get_or-set_other, map-map, nat_lt, if◌then◌else◌, Bool, Err, flat_map, map-append, get_or_from_slice_get, slice_get_within, Queue, empty_queue, full_queue, claim, raise, take_first, join_run, join_queue, Elements, let_go, claim_element, raise_element, take_element, deliver, done, wait_at, ◌>>=◌, at, change_at, Reaches, State, first_state, in_elements, effect, counted, step, Event, Refusal, UnknownName, ELEMENTS, PLACES, ring_at, items_of, retired_by, retired_in, taking_by}
use Rattle.std.proofs.Common.{append_assoc}
use Rattle.std.specs.Prelude.{◌==◌, ◌||◌}
use Rattle.event_theory.specs.Chains.{empty_chain}
use Rattle.std.proofs.lemmas.List.{length-append}
use Rattle.std.specs.Prelude.{nat_le}
use Rattle.event_theory.specs.Elements.{let_all_go}
use Rattle.event_theory.specs.Meters.{set_alarm}
use Rattle.event_theory.specs.Marks.{wait_ring}
use Rattle.event_theory.specs.States.{join}
use Rattle.event_theory.specs.declared.event.Event.TheVariants as events
use Rattle.event_theory.specs.declared.names.QueueName.TheVariants as names
use Rattle.event_theory.specs.declared.refusal.Refusal.TheVariants.{TooLong, Full}
use Rattle.event_theory.proofs.Keeping.Chains.{claim_ok, raise_ok}
use Rattle.event_theory.proofs.Keeping.Queues.{take_ok}
use Rattle.event_theory.proofs.Lists.Inversions.{then_ok, test_ok, given_ok, some_ok, change_ok}
use Rattle.thread_table.specs.Schedules.{begun, state_after, elements_after, IsAllowed}
use Rattle.thread_table.specs.Retiring.{AreRetired}
use Rattle.thread_table.proofs.Schedule.Schedules.{elements_of}

-- the items of a queue's runs, and how many items were taken from the queue
abbrev pub queue_reported : Queue → List (List ℕ) × ℕ
queue_reported q = (map items_of q.history, q.taken)

-- those of the free elements' queue
abbrev valid : List Queue → List (List ℕ) × ℕ
valid rings = queue_reported (get_or rings 1 (empty_queue PLACES))

abbrev pub with_more : List (List ℕ) → ℕ → List (List ℕ) × ℕ → List (List ℕ) × ℕ
with_more more n t = (t.0 ++ more, t.1 + n)

-- P holds of the result, if the result is Ok
abbrev pub Gives : {A : Type 0} → (A → Type 0) → Result A Refusal → Type 0
Gives {A} P said = (t : A) → said ≡ Ok t → P t

module _ {B : Type 0} (P : B → Type 0) where
  pub then_gives : {A : Type 0} (said : Result A Refusal) (f : A → Result B Refusal) → ((x : A) → said ≡ Ok x → Gives P (f x)) → Gives P (said >>= f)
  then_gives said f each t ok = let a = then_ok said f t ok in each a.0 a.1 t a.2

  pub test_gives : (test : Bool) (e : Refusal) (said : Result B Refusal) → Gives P said → Gives P (if test then Err e else said)
  test_gives test e said gives t ok = gives t (test_ok test e said t ok).1

  pub ok_gives : (x : B) → P x → Gives P (Ok x)
  ok_gives x is t ok = subst P (given_ok x t ok) is

-- an event of the elements, if allowed, adds these runs to the free elements' queue, and takes so many items from it
abbrev Adds : List (List ℕ) → ℕ → (Elements → Result Elements Refusal) → Type 0
Adds more n event = (s : Elements) → Gives (λ t. valid t.rings ≡ with_more more n (valid s.rings)) (event s)

-- an event of the state, if allowed, adds these runs to the free elements' queue, and takes so many items from it
abbrev AddsTo : List (List ℕ) → ℕ → (State → Result State Refusal) → Type 0
AddsTo more n event = (s : State) → Gives (λ t. valid t.elements.rings ≡ with_more more n (valid s.elements.rings)) (event s)

none_more : (old : List (List ℕ) × ℕ) → old ≡ with_more [] 0 old
none_more old =
    let e : old.1 ≡ old.1 + 0 = omega arith in
    λ i. (sym (append-nil old.0) i, e i)

abbrev Stays : Elements → Elements → Type 0
Stays s t = valid t.rings ≡ with_more [] 0 (valid s.rings)

-- one queue has these runs more, and so many more of its items are taken
pub record Changes (more : List (List ℕ)) (n ring : ℕ) (s t : Elements) : Type 0 where
  pub old : Queue
  pub new : Queue
  pub there : slice_get s.rings ring ≡ Some old
  pub is : queue_reported new ≡ with_more more n (queue_reported old)
  pub rings : t.rings ≡ set s.rings ring new
  pub notified : t.notified ≡ s.notified

-- a change of the free elements' queue adds to it and takes from it; a change of another queue leaves it
of_free : {more : List (List ℕ)} {n : ℕ} {s t : Elements} → Changes more n 1 s t → valid t.rings ≡ with_more more n (valid s.rings)
of_free {more} {n} {s} {t} c = ap valid c.rings ∙ (ap queue_reported (get_or-set_same s.rings 1 c.new (empty_queue PLACES) (slice_get_within s.rings 1 c.old c.there))
    ∙ (c.is ∙ ap (λ (q : Queue). with_more more n (queue_reported q)) (sym (get_or_from_slice_get s.rings 1 c.old (empty_queue PLACES) c.there))))

of_other : {more : List (List ℕ)} {n ring : ℕ} {s t : Elements} → ring ≢ 1 → Changes more n ring s t → valid t.rings ≡ with_more [] 0 (valid s.rings)
of_other {more} {n} {ring} {s} {t} ne c = ap valid c.rings ∙ (ap queue_reported (get_or-set_other s.rings ring 1 c.new (empty_queue PLACES) (λ z. ne (sym z))) ∙ none_more (valid s.rings))

-- where a run is claimed
claimed : (ring call : ℕ) (items : List ℕ) (s t : Elements) → change_at ring (claim 1 call items) s.rings ≡ Ok t.rings → t.notified ≡ s.notified → Changes (items ∷ []) 0 ring s t
claimed ring call items s t ok same = let d = change_ok ring (claim 1 call items) s.rings t.rings ok in let e : d.0.taken ≡ d.0.taken + 0 = omega arith in record {
  old = d.0;
  new = d.1;
  there = d.2;
  is = ap queue_reported (claim_ok 1 call items d.0 d.1 d.3) ∙ (λ i. (map-append items_of d.0.history (record { call = call; items = items } ∷ []) i, e i));
  rings = d.4;
  notified = same;
}

pub claim_changes : (ring call : ℕ) (items : List ℕ) (s : Elements) → Gives (Changes (items ∷ []) 0 ring s) (claim_element ring call items s)
claim_changes ring call items s = let P : Elements → Type 0 = Changes (items ∷ []) 0 ring s in
    test_gives P _ _ _ (then_gives P (change_at ring (claim 1 call items) s.rings) _ (λ rings is. then_gives P (let_all_go call items s.held) _ (λ held _. ok_gives P _ (claimed ring call items s _ is refl))))

pub wait_changes : (call wait element ticket : ℕ) (s : Elements) → Gives (Changes ((element ∷ []) ∷ []) 0 (wait_ring wait) s) (wait_at call wait element ticket s)
wait_changes call wait element ticket s = let P : Elements → Type 0 = Changes ((element ∷ []) ∷ []) 0 (wait_ring wait) s in
    then_gives P (at element s.threads) _ (λ thread _. then_gives P (at wait s.notified) _ (λ count _. then_gives P (let_go call element s.held) _ (λ held _.
    test_gives P _ _ _ (then_gives P (change_at (wait_ring wait) (claim 1 call (element ∷ [])) s.rings) _ (λ rings is. ok_gives P _ (claimed (wait_ring wait) call (element ∷ []) s _ is refl))))))

pub take_changes : (ring call count : ℕ) (s : Elements) → Gives (Changes [] 1 ring s) (take_element ring call count s)
take_changes ring call count s = let P : Elements → Type 0 = Changes [] 1 ring s in then_gives P (at ring s.rings) _ (λ old there. then_gives P (take_first 1 count old) _ (λ new is.
    let o = take_ok 1 count old new is in let some = o.1 in let most = o.2 in
    let one : new.taken ≡ old.taken + 1 = ap (λ (q : Queue). q.taken) o.0 ∙ omega arith in
    let runs : map items_of new.history ≡ map items_of old.history ++ [] = ap (λ (q : Queue). map items_of q.history) o.0 ∙ sym (append-nil (map items_of old.history)) in
    ok_gives P _ record { old = old; new = new; there = some_ok (slice_get s.rings ring) UnknownName old there; is = λ i. (runs i, one i); rings = refl; notified = refl }))

pub raise_changes : (ring call run index : ℕ) (s : Elements) → Gives (Changes [] 0 ring s) (raise_element ring call run index s)
raise_changes ring call run index s = let P : Elements → Type 0 = Changes [] 0 ring s in then_gives P (change_at ring (raise call run index) s.rings) _ (λ rings ok. let d = change_ok ring (raise call run index) s.rings rings ok in
    ok_gives P _ record { old = d.0; new = d.1; there = d.2; is = ap queue_reported (raise_ok call run index d.0 d.1 d.3).is ∙ none_more (queue_reported d.0); rings = d.4; notified = refl })

-- an event of the elements that leaves the queues adds nothing and takes nothing
part_adds : {A : Type 0} (said : Elements → Result A Refusal) (f : Elements → A → Elements) → ((s : Elements) (x : A) → (f s x).rings ≡ s.rings) → Adds [] 0 (λ s. said s >>= λ x. Ok (f s x))
part_adds said f same s = then_gives (Stays s) (said s) _ (λ x _. ok_gives (Stays s) (f s x) (ap valid (same s x) ∙ none_more (valid s.rings)))

rings_joined : (call other : ℕ) (rings : List Queue) → valid (map (join_queue call other) rings) ≡ valid rings
rings_joined call other rings = let q : Queue = get_or rings 1 (empty_queue PLACES) in
    ap queue_reported (get_or-map (join_queue call other) rings 1 (empty_queue PLACES)) ∙ (λ i. (map-map items_of (join_run call other) q.history i, q.taken))

-- events of the state
elements_add : (more : List (List ℕ)) (n : ℕ) (event : Elements → Result Elements Refusal) → Adds more n event → AddsTo more n (in_elements event)
elements_add more n event adds s = let P : State → Type 0 = λ t. valid t.elements.rings ≡ with_more more n (valid s.elements.rings) in
    then_gives P (event s.elements) _ (λ e is. ok_gives P _ (adds s.elements e is))

-- an event of the state that leaves the elements adds nothing and takes nothing
else_adds : {A : Type 0} (said : State → Result A Refusal) (f : State → A → State) → ((s : State) (x : A) → (f s x).elements ≡ s.elements) → AddsTo [] 0 (λ s. said s >>= λ x. Ok (f s x))
else_adds said f same s = let P : State → Type 0 = λ t. Stays s.elements t.elements in
    then_gives P (said s) _ (λ x _. ok_gives P (f s x) (ap (λ (e : Elements). valid e.rings) (same s x) ∙ none_more (valid s.elements.rings)))

join_adds : (call other : ℕ) → AddsTo [] 0 (join call other)
join_adds call other s = let P : State → Type 0 = λ t. Stays s.elements t.elements in
    test_gives P _ _ _ (ok_gives P _ (rings_joined call other s.elements.rings ∙ none_more (valid s.elements.rings)))

effect_adds : (event : Event) → AddsTo (retired_by event) (length (taking_by event)) (effect event)
effect_adds (events.Queue capacity) = λ s. let P : State → Type 0 = λ t. Stays s.elements t.elements in
    test_gives P (capacity == 0 || nat_lt 256 capacity) TooLong _ (test_gives P (nat_le 8 (length s.queues)) Full _ (ok_gives P (record s { queues = s.queues ++ empty_queue capacity ∷ [] }) (none_more (valid s.elements.rings))))
effect_adds events.Chain = λ s. let P : State → Type 0 = λ t. Stays s.elements t.elements in
    test_gives P (nat_le 8 (length s.chains)) Full _ (ok_gives P (record s { chains = s.chains ++ empty_chain ∷ [] }) (none_more (valid s.elements.rings)))
effect_adds (events.Claim call names.Ready items) = elements_add [] 0 _ (λ s t ok. of_other (λ z. omega arith) (claim_changes 0 call items s t ok))
effect_adds (events.Claim call names.Free items) = elements_add (items ∷ []) 0 _ (λ s t ok. of_free (claim_changes 1 call items s t ok))
effect_adds (events.Claim call (names.Wait wait) items) = elements_add [] 0 _ (λ s t ok. of_other (λ z. omega arith) (claim_changes (wait_ring wait) call items s t ok))
effect_adds (events.Raise call names.Ready run index) = elements_add [] 0 _ (λ s t ok. of_other (λ z. omega arith) (raise_changes 0 call run index s t ok))
effect_adds (events.Raise call names.Free run index) = elements_add [] 0 _ (λ s t ok. of_free (raise_changes 1 call run index s t ok))
effect_adds (events.Raise call (names.Wait wait) run index) = elements_add [] 0 _ (λ s t ok. of_other (λ z. omega arith) (raise_changes (wait_ring wait) call run index s t ok))
effect_adds (events.Take call names.Ready count) = elements_add [] 0 _ (λ s t ok. of_other (λ z. omega arith) (take_changes 0 call count s t ok))
effect_adds (events.Take call names.Free count) = elements_add [] 1 _ (λ s t ok. of_free (take_changes 1 call count s t ok))
effect_adds (events.Take call (names.Wait wait) count) = elements_add [] 0 _ (λ s t ok. of_other (λ z. omega arith) (take_changes (wait_ring wait) call count s t ok))
effect_adds (events.On call processor element) = elements_add [] 0 _ (λ s. then_gives (Stays s) (at element s.threads) _ (λ thread _. then_gives (Stays s) (at processor s.processors) _ (λ seat _. then_gives (Stays s) (let_go call element s.held) _ (λ held _. test_gives (Stays s) _ _ _ (ok_gives (Stays s) _ (none_more (valid s.rings)))))))
effect_adds (events.Off call processor) = elements_add [] 0 _ (part_adds _ _ (λ s x. refl))
effect_adds (events.Stop call element) = elements_add [] 0 _ (part_adds _ _ (λ s x. refl))
effect_adds (events.Park call element) = elements_add [] 0 _ (λ s. then_gives (Stays s) (at element s.threads) _ (λ thread _. then_gives (Stays s) (let_go call element s.held) _ (λ held _. test_gives (Stays s) _ _ _ (ok_gives (Stays s) _ (none_more (valid s.rings))))))
effect_adds (events.Start call element) = elements_add [] 0 _ (λ s. then_gives (Stays s) (at element s.threads) _ (λ thread _. test_gives (Stays s) _ _ _ (ok_gives (Stays s) _ (none_more (valid s.rings)))))
effect_adds (events.Signal call element number) = elements_add [] 0 _ (part_adds _ _ (λ s x. refl))
effect_adds (events.Deliver call element) = elements_add [] 0 (deliver call element) (part_adds _ _ (λ s x. refl))
effect_adds (events.Done call element) = elements_add [] 0 (done call element) (part_adds _ _ (λ s x. refl))
effect_adds (events.NotifyWait call wait) = elements_add [] 0 _ (part_adds _ _ (λ s x. refl))
effect_adds (events.Set call due element number) = λ s. then_gives (λ t. Stays s.elements t.elements) (at element s.elements.threads) _ (λ thread _. else_adds (λ s. set_alarm (record { due = due; element = element; signal = number }) s.meters) (λ s meters. record s { meters = meters }) (λ s x. refl) s)
effect_adds (events.WaitAt call wait element ticket) = elements_add [] 0 _ (λ s t ok. of_other (λ z. omega arith) (wait_changes call wait element ticket s t ok))
effect_adds (events.Join call other) = join_adds call other
effect_adds event = else_adds _ _ (λ s x. refl)

step_adds : (event : Event) → AddsTo (retired_by event) (length (taking_by event)) (step event)
step_adds event s t ok = let a = then_ok (effect event s) _ t ok in ap (λ (z : State). valid z.elements.rings) (sym (given_ok (counted a.0) t a.2)) ∙ effect_adds event s a.0 a.1

-- an event takes as many of the free elements as its count says
pub step_takes : (event : Event) (s t : State) → step event s ≡ Ok t
    → (get_or t.elements.rings 1 (empty_queue PLACES)).taken ≡ (get_or s.elements.rings 1 (empty_queue PLACES)).taken + length (taking_by event)
step_takes event s t ok = ap (λ (p : List (List ℕ) × ℕ). p.1) (step_adds event s t ok)

-- how many free elements the events took
abbrev pub takings_in : List Event → ℕ
takings_in past = length (flat_map taking_by past)

reached_adds : (s : State) (past : List Event) (t : State) → Reaches s past t → valid t.elements.rings ≡ with_more (retired_in past) (takings_in past) (valid s.elements.rings)
reached_adds s [] t there = ap (λ (z : State). valid z.elements.rings) there ∙ none_more (valid s.elements.rings)
reached_adds s (event ∷ past) t there =
    let e : (valid s.elements.rings).1 + length (taking_by event) + takings_in past ≡ (valid s.elements.rings).1 + takings_in (event ∷ past) = omega (arith, length-append (taking_by event) (flat_map taking_by past)) in
    reached_adds there.0 past t there.2
    ∙ (ap (with_more (retired_in past) (takings_in past)) (step_adds event s there.0 there.1)
    ∙ (λ i. (append_assoc (valid s.elements.rings).0 (retired_by event) (retired_in past) i, e i)))

-- the runs of the free elements with which a table begins
abbrev pub first_runs : List (List ℕ)
first_runs = map items_of (full_queue 64).history

-- the runs of the queue, and how many items of it were taken
pub are_reported : (past : List Event) → IsAllowed past → (map items_of (ring_at (elements_after past) 1).history ≡ first_runs ++ retired_in past) × ((ring_at (elements_after past) 1).taken ≡ takings_in past)
unfolding IsAllowed begun
are_reported past allowed =
    let all : queue_reported (ring_at (elements_after past) 1) ≡ with_more (retired_in past) (takings_in past) (valid (first_state ELEMENTS).elements.rings) =
    ap (λ (e : Elements). valid e.rings) (elements_of past) ∙ reached_adds (first_state ELEMENTS) past (state_after past) allowed in
    let many : (ring_at (elements_after past) 1).taken ≡ 0 + takings_in past = ap (λ (p : List (List ℕ) × ℕ). p.1) all in
    (ap (λ (p : List (List ℕ) × ℕ). p.0) all, omega arith)

-- the runs of the queue, after those with which it began
pub are_retired : (past : List Event) → IsAllowed past → AreRetired past
are_retired past allowed = ap (drop 64) (are_reported past allowed).0 ∙ drop_all first_runs (retired_in past) 64 refl
  where
    drop_all : (xs ys : List (List ℕ)) (n : ℕ) → length xs ≡ n → drop n (xs ++ ys) ≡ ys
    drop_all [] ys zero e = refl
    drop_all [] ys (suc n) e = absurd (omega arith)
    drop_all (x ∷ xs) ys zero e = absurd (omega arith)
    drop_all (x ∷ xs) ys (suc n) e = drop_all xs ys n (omega arith)
