-- There are as many elements, element queues and processors after a schedule as before: so each place that is reported
-- exists.
use Rattle.turn_dispatch.proofs.Common.{◌==◌, ◌||◌, View, elements_of, IsFree}
use Rattle.boot_laws.proofs.Common.{place_of, IsNamed, NoneOn, nat_le, nat_lt, Gives, then_gives, test_gives, ok_gives, state_after, IsAllowed}
use Rattle.boot_laws.proofs.Settling.Common.{dite, dec_lt, get_or-eq_default, Reaches, effect, first_state, is_on, claim_element, done, claim, change_at, Refusal, empty_queue, Thread, wait_ring, TooLong, Full, then_ok, change_ok, ELEMENTS, Place, ClosedNow, StandsAt, is_left, elements_after, reached}
use Rattle.thread_table.proofs.Common.{◌≡◌, ℕ, ◌<◌, true, List, [], ◌∷◌, ◌++◌, ◌∙◌, length, get_or, refl, sym, ap, subst, arith, Some, None, option_map, Result, Ok, length-set, length-map, get_or_from_slice_get, State, in_elements, counted, Event, hold, Elements, let_go, raise_element, take_element, deliver, take_first, at, ◌>>=◌, join_queue, raise, false}
use Rattle.event_theory.specs.Chains.{empty_chain}
use Rattle.event_theory.specs.Elements.{change_thread, let_all_go, put_by, join_hold}
use Rattle.event_theory.specs.Meters.{set_alarm}
use Rattle.event_theory.specs.declared.event.Event.TheVariants as events
use Rattle.event_theory.specs.declared.names.QueueName.TheVariants as names
use Rattle.event_theory.proofs.Lists.Inversions.{given_ok}
use Rattle.thread_table.specs.declared.layout.TheConstants.{PROCESSORS}
use Rattle.thread_table.specs.declared.places.Place.TheVariants as places

-- how many elements, element queues and processors there are
abbrev sizes : Elements → ℕ × ℕ × ℕ
sizes e = (length e.threads, length e.rings, length e.processors)

abbrev AsMany : Elements → Elements → Type 0
AsMany s t = sizes t ≡ sizes s

abbrev Keeps : (Elements → Result Elements Refusal) → Type 0
Keeps f = (s : Elements) → Gives (AsMany s) (f s)

abbrev KeepsAll : (State → Result State Refusal) → Type 0
KeepsAll f = (s : State) → Gives (λ t. AsMany s.elements t.elements) (f s)

elements_keep : (f : Elements → Result Elements Refusal) → Keeps f → KeepsAll (in_elements f)
elements_keep f keeps s = let P : State → Type 0 = λ t. AsMany s.elements t.elements in then_gives P (f s.elements) _ (λ e is. ok_gives P _ (keeps s.elements e is))

-- an event that changes another part
else_keeps : {A : Type 0} (said : State → Result A Refusal) (f : State → A → State) → ((s : State) (x : A) → (f s x).elements ≡ s.elements) → KeepsAll (λ s. said s >>= λ x. Ok (f s x))
else_keeps said f same s = let P : State → Type 0 = λ t. AsMany s.elements t.elements in then_gives P (said s) _ (λ x is. ok_gives P (f s x) (ap sizes (same s x)))

change_long : {A : Type 0} (index : ℕ) (change : A → Result A Refusal) (list r : List A) → change_at index change list ≡ Ok r → length r ≡ length list
change_long index change list r ok = let d = change_ok index change list r ok in ap length d.4 ∙ length-set list index d.1

-- one thread changes
thread_keeps : (element : ℕ) (change : Elements → Thread → Result Thread Refusal) → Keeps (λ s. change_thread element (change s) s)
thread_keeps element change s = then_gives (AsMany s) (change_at element (change s) s.threads) _
    (λ threads is. ok_gives (AsMany s) _ (λ i. (change_long element (change s) s.threads threads is i, length s.rings, length s.processors)))

claim_keeps : (ring call : ℕ) (items : List ℕ) → Keeps (claim_element ring call items)
claim_keeps ring call items s = let P : Elements → Type 0 = AsMany s in
    test_gives P _ _ _ (then_gives P (change_at ring (claim 1 call items) s.rings) _ (λ rings is. then_gives P (let_all_go call items s.held) _
    (λ held _. ok_gives P (record s { rings = rings; held = held }) (λ i. (length s.threads, change_long ring (claim 1 call items) s.rings rings is i, length s.processors)))))

raise_keeps : (ring call run index : ℕ) → Keeps (raise_element ring call run index)
raise_keeps ring call run index s = let P : Elements → Type 0 = AsMany s in then_gives P (change_at ring (raise call run index) s.rings) _
    (λ rings is. ok_gives P (record s { rings = rings }) (λ i. (length s.threads, change_long ring (raise call run index) s.rings rings is i, length s.processors)))

take_keeps : (ring call count : ℕ) → Keeps (take_element ring call count)
take_keeps ring call count s = let P : Elements → Type 0 = AsMany s in then_gives P (at ring s.rings) _ (λ old _. then_gives P (take_first 1 count old) _
    (λ new _. ok_gives P _ (λ i. (length s.threads, length-set s.rings ring new i, length s.processors))))

effect_keeps : (event : Event) → KeepsAll (effect event)
effect_keeps (events.Queue capacity) = λ s. let P : State → Type 0 = λ t. AsMany s.elements t.elements in
    test_gives P (capacity == 0 || nat_lt 256 capacity) TooLong _ (test_gives P (nat_le 8 (length s.queues)) Full _ (ok_gives P (record s { queues = s.queues ++ empty_queue capacity ∷ [] }) refl))
effect_keeps events.Chain = λ s. let P : State → Type 0 = λ t. AsMany s.elements t.elements in
    test_gives P (nat_le 8 (length s.chains)) Full _ (ok_gives P (record s { chains = s.chains ++ empty_chain ∷ [] }) refl)
effect_keeps (events.Claim call names.Ready items) = elements_keep _ (claim_keeps 0 call items)
effect_keeps (events.Claim call names.Free items) = elements_keep _ (claim_keeps 1 call items)
effect_keeps (events.Claim call (names.Wait wait) items) = elements_keep _ (claim_keeps (wait_ring wait) call items)
effect_keeps (events.Raise call names.Ready run index) = elements_keep _ (raise_keeps 0 call run index)
effect_keeps (events.Raise call names.Free run index) = elements_keep _ (raise_keeps 1 call run index)
effect_keeps (events.Raise call (names.Wait wait) run index) = elements_keep _ (raise_keeps (wait_ring wait) call run index)
effect_keeps (events.Take call names.Ready count) = elements_keep _ (take_keeps 0 call count)
effect_keeps (events.Take call names.Free count) = elements_keep _ (take_keeps 1 call count)
effect_keeps (events.Take call (names.Wait wait) count) = elements_keep _ (take_keeps (wait_ring wait) call count)
effect_keeps (events.On call processor element) = elements_keep _ (λ s. then_gives (AsMany s) (at element s.threads) _ (λ thread _. then_gives (AsMany s) (at processor s.processors) _
    (λ seat _. then_gives (AsMany s) (let_go call element s.held) _ (λ held _. test_gives (AsMany s) _ _ _
    (ok_gives (AsMany s) _ (λ i. (length s.threads, length s.rings, length-set s.processors processor (Some (hold call element)) i)))))))
effect_keeps (events.Off call processor) = elements_keep _ (λ s. then_gives (AsMany s) (at processor s.processors >>= put_by call) _
    (λ h _. ok_gives (AsMany s) _ (λ i. (length s.threads, length s.rings, length-set s.processors processor None i))))
effect_keeps (events.Stop call element) = elements_keep _ (thread_keeps element _)
effect_keeps (events.Park call element) = elements_keep _ (λ s. then_gives (AsMany s) (at element s.threads) _ (λ thread _. then_gives (AsMany s) (let_go call element s.held) _
    (λ held _. test_gives (AsMany s) _ _ _ (ok_gives (AsMany s) _ (λ i. (length-set s.threads element (record thread { parked = true }) i, length s.rings, length s.processors))))))
effect_keeps (events.Start call element) = elements_keep _ (λ s. then_gives (AsMany s) (at element s.threads) _
    (λ thread _. test_gives (AsMany s) _ _ _ (ok_gives (AsMany s) _ (λ i. (length-set s.threads element (record thread { stop = false; parked = false }) i, length s.rings, length s.processors)))))
effect_keeps (events.Signal call element number) = elements_keep _ (thread_keeps element _)
effect_keeps (events.Deliver call element) = elements_keep (deliver call element) (thread_keeps element _)
effect_keeps (events.Done call element) = elements_keep (done call element) (thread_keeps element _)
effect_keeps (events.NotifyWait call wait) = elements_keep _ (λ s. then_gives (AsMany s) _ _ (λ notified _. ok_gives (AsMany s) _ refl))
effect_keeps (events.Set call due element number) = λ s. then_gives (λ t. AsMany s.elements t.elements) (at element s.elements.threads) _
    (λ thread _. else_keeps (λ s. set_alarm (record { due = due; element = element; signal = number }) s.meters) (λ s meters. record s { meters = meters }) (λ s x. refl) s)
effect_keeps (events.WaitAt call wait element ticket) = elements_keep _ (λ s. let P : Elements → Type 0 = AsMany s in then_gives P (at element s.threads) _ (λ thread _. then_gives P (at wait s.notified) _
    (λ count _. then_gives P (let_go call element s.held) _ (λ held _. test_gives P _ _ _ (then_gives P (change_at (wait_ring wait) (claim 1 call (element ∷ [])) s.rings) _
    (λ rings is. ok_gives P (record s { rings = rings; held = held }) (λ i. (length s.threads, change_long (wait_ring wait) (claim 1 call (element ∷ [])) s.rings rings is i, length s.processors))))))))
effect_keeps (events.Join call other) = λ s. let P : State → Type 0 = λ t. AsMany s.elements t.elements in
    test_gives P _ _ _ (ok_gives P _ (λ i. (length s.elements.threads, length-map s.elements.rings (join_queue call other) i, length-map s.elements.processors (option_map (join_hold call other)) i)))
effect_keeps event = else_keeps _ _ (λ s x. refl)

as_many : (s : State) (es : List Event) (t : State) → Reaches s es t → AsMany s.elements t.elements
as_many s [] t h = ap (λ (z : State). sizes z.elements) h
as_many s (e ∷ es) t h = let a = then_ok (effect e s) _ h.0 h.1 in
    as_many h.0 es t h.2 ∙ (ap (λ (z : State). sizes z.elements) (sym (given_ok (counted a.0) h.0 a.2)) ∙ effect_keeps e s a.0 a.1)

-- 64 elements, 18 element queues and 8 processors
pub sizes_are : (past : List Event) → IsAllowed past → sizes (elements_after past) ≡ (64, 18, 8)
sizes_are past allowed = ap sizes (elements_of past) ∙ as_many (first_state ELEMENTS) past (state_after past) (reached past allowed)

-- the place of an element exists
named : (call x : ℕ) (e : Elements) → sizes e ≡ (64, 18, 8) → (place : Place) → StandsAt call x e place → IsNamed place
named call x e long (places.Processor p) at = dite (dec_lt p 8) (λ low. low)
    (λ over. let many = ap (λ (z : ℕ × ℕ × ℕ). z.2) long in
    let f : false ≡ true = ap (is_on x) (sym (get_or-eq_default e.processors None (omega (arith, over, many)))) ∙ at in absurd (cc))
named call x e long (places.Wait wait) at = dite (dec_lt wait 16) (λ low. low)
    (λ over. let many = ap (λ (z : ℕ × ℕ × ℕ). z.1) long in
    let f : false ≡ true = ap (is_left x) (sym (get_or-eq_default e.rings (empty_queue 64) (omega (arith, over, many)))) ∙ at in absurd (cc))
named call x e long place at = tt

module _ (call : ℕ) (v : View) (stands : List Place) (pcs pending : List ℕ) (stops : ℕ) (c : ClosedNow call v stands pcs pending stops) where
  pub all_named : (x : ℕ) → x < ELEMENTS → IsNamed (place_of stands x)
  all_named x low = let past : List Event = v.seen.object in named call x (elements_after past) (sizes_are past c.allowed) (place_of stands x) (c.places x low)

  -- no element is on a processor if the hand has none on its own and serves them all
  pub none_on : ((p : ℕ) → p < PROCESSORS → IsFree p v) → NoneOn stands
  none_on empty x p low at =
      let e : Elements = elements_after v.seen.object in
      let s = empty p (subst IsNamed at (all_named x low)) in
      let none : get_or e.processors p None ≡ None = get_or_from_slice_get e.processors p None None (c.hand.on p s.0 ∙ ap (λ z. Some (option_map (hold call) z)) s.1) in
      let there : is_on x (get_or e.processors p None) ≡ true = subst (StandsAt call x e) at (c.places x low) in
      let f : is_on x None ≡ true = ap (is_on x) (sym none) ∙ there in absurd (cc)
