-- What the first station did, once it is prepared.
use Rattle.boot_threads.proofs.Common.{◌≡◌, ℕ, zero, suc, ◌+◌, ◌-◌, ◌≤◌, List, [], ◌∷◌, ◌++◌, ◌∙◌, map, length, drop, get_or, refl, sym, ap, subst, arith, AllByRecursion, range_with_len, length-map, map-append, flat_map-append, BootPlan, Event, IsFirstHand, Parts, account, HasDoneAll, IsPrepared, ThreadTable, MadeEvent, claim_event, call_of, move_by, moves_in, claims, many_held, own_takings, HasPrepared, flat_map, length-append, slice_get_past, all_append, nothing, IsUnused, View, view_of, placing}
use Rattle.std.proofs.lemmas.List.FromFn.{length-range_with_len}
use Rattle.boot_data.specs.Hearing.{Key}
use Rattle.boot_data.specs.Plans.{steps_in}
use Rattle.event_theory.specs.declared.event.Event.TheVariants as events
use Rattle.event_theory.specs.declared.names.QueueName.TheVariants as names
use Rattle.turn_dispatch.specs.Tallies.{tally, no_events}
use Rattle.turn_dispatch.proofs.MadeBy.{done_by, signalled_by, delivered_by, retired_by}
use Rattle.boot_threads.proofs.Handling.{none_marked}

-- EVENTS

-- an event that puts an element into the ready ring or into the free ring
abbrev IsPlacing : Event → Type 0
IsPlacing (events.Claim call names.Ready items) = Unit {0}
IsPlacing (events.Claim call names.Free items) = Unit {0}
IsPlacing event = ⊥

-- it counts no step, raises no signal and delivers none; so does an event that moves nothing
quiet : (event : Event) (number : ℕ) (signals : List ℕ) → AllByRecursion IsPlacing (move_by event)
    → (done_by (record { event = event; number = number; signals = signals }) ≡ []) × (signalled_by (record { event = event; number = number; signals = signals }) ≡ []) × (delivered_by (record { event = event; number = number; signals = signals }) ≡ [])
quiet (events.Signal call element signal) number signals h = absurd h.0
quiet (events.Deliver call element) number signals h = absurd h.0
quiet (events.Done call element) number signals h = absurd h.0
quiet event number signals h = (refl, refl, refl)

parted : {A : Type 0} (P : A → Type 0) (xs ys : List A) → AllByRecursion P (xs ++ ys) → AllByRecursion P xs × AllByRecursion P ys
parted P [] ys h = (tt, h)
parted P (x ∷ xs) ys h = let rest = parted P xs ys h.1 in ((h.0, rest.0), rest.1)

quiet_all : (made : List MadeEvent) → AllByRecursion IsPlacing (moves_in made) → tally made ≡ record no_events { taken = (tally made).taken; retired = (tally made).retired }
quiet_all [] h = refl
quiet_all (m ∷ made) h =
    let both = parted IsPlacing (move_by m.event) (moves_in made) h in
    let one = quiet m.event m.number m.signals both.0 in
    let rest = quiet_all made both.1 in
    λ i. record (tally (m ∷ made)) { done = one.0 i ++ (rest i).done; signalled = one.1 i ++ (rest i).signalled; delivered = one.2 i ++ (rest i).delivered }

-- the elements that an event puts into the free ring
abbrev freed_by : Event → List ℕ
freed_by (events.Claim call names.Free items) = get_or items 0 0 ∷ []
freed_by event = []

freed_one : (event : Event) (number : ℕ) (signals : List ℕ) → map (λ (key : Key). key.0) (retired_by (record { event = event; number = number; signals = signals })) ≡ flat_map freed_by (move_by event)
freed_one (events.Take call names.Free count) number signals = refl
freed_one (events.Raise call names.Ready run item) number signals = refl
freed_one (events.Raise call names.Free run item) number signals = refl
freed_one (events.Claim call names.Free items) number signals = refl
freed_one event number signals = refl

freed_all : (made : List MadeEvent) → map (λ (key : Key). key.0) (flat_map retired_by made) ≡ flat_map freed_by (moves_in made)
freed_all [] = refl
freed_all (m ∷ made) = map-append (λ (key : Key). key.0) (retired_by m) (flat_map retired_by made) ∙ ap (λ z. z ++ map (λ (key : Key). key.0) (flat_map retired_by made)) (freed_one m.event m.number m.signals)
    ∙ ap (λ z. flat_map freed_by (move_by m.event) ++ z) (freed_all made) ∙ sym (flat_map-append freed_by (move_by m.event) (moves_in made))

-- THE MOVES OF A PREPARATION

module _ (call : ℕ) where
  ready_place : (xs : List ℕ) → AllByRecursion IsPlacing (claims call 0 xs)
  ready_place [] = tt
  ready_place (x ∷ xs) = (tt, ready_place xs)

  free_place : (xs : List ℕ) → AllByRecursion IsPlacing (claims call 1 xs)
  free_place [] = tt
  free_place (x ∷ xs) = (tt, free_place xs)

  ready_free : (xs : List ℕ) → flat_map freed_by (claims call 0 xs) ≡ []
  ready_free [] = refl
  ready_free (x ∷ xs) = ready_free xs

  free_free : (xs : List ℕ) → flat_map freed_by (claims call 1 xs) ≡ xs
  free_free [] = refl
  free_free (x ∷ xs) = ap (λ z. x ∷ z) (free_free xs)

  module _ (threads : ℕ) where
    abbrev first : List ℕ
    first = range_with_len 0 threads

    abbrev others : List ℕ
    others = range_with_len threads (64 - threads)

    all_place : AllByRecursion IsPlacing (placing call threads)
    all_place = all_append IsPlacing (claims call 0 first) (claims call 1 others) (ready_place first) (free_place others)

    others_free : flat_map freed_by (placing call threads) ≡ others
    others_free = flat_map-append freed_by (claims call 0 first) (claims call 1 others) ∙ ap (λ z. z ++ flat_map freed_by (claims call 1 others)) (ready_free first) ∙ free_free others

    all_many : threads ≤ 64 → length (placing call threads) ≡ 64
    all_many few =
        let a = length-append (claims call 0 first) (claims call 1 others) in
        let b = length-map first (claim_event call 0) in let c = length-map others (claim_event call 1) in
        let d = length-range_with_len 0 threads in let e = length-range_with_len threads (64 - threads) in omega arith

-- what holds of each element past the threads holds of those
all_past : (P : Key → Type 0) (n : ℕ) → ((e k : ℕ) → n ≤ e → P (e, k)) → (keys : List Key) (low many : ℕ) → n ≤ low → map (λ (key : Key). key.0) keys ≡ range_with_len low many → AllByRecursion P keys
all_past P n holds [] low many past are = tt
all_past P n holds (k ∷ keys) low zero past are = absurd (cc)
all_past P n holds (k ∷ keys) low (suc many) past are =
    let here : k.0 ≡ low = ap (λ (z : List ℕ). get_or z 0 0) are in
    (holds k.0 k.1 (omega arith), all_past P n holds keys (low + 1) many (omega arith) (ap (λ (z : List ℕ). drop 1 z) are))

-- THE FIRST STATION

module _ (plan : BootPlan) (table : ThreadTable) (old new : Parts) (hand : IsFirstHand table old.hand) (p : HasPrepared plan old new) where
  abbrev made : List MadeEvent
  made = (view_of new.hand).own.made

  moves_are : moves_in made ≡ placing (call_of old.hand) (length plan.threads)
  moves_are = p.hand.moved.moves_are ∙ ap (λ (z : View). moves_in z.own.made ++ placing (call_of old.hand) (length plan.threads)) hand.knows

  -- the elements that the station put into the free ring are no thread's
  freed_past : (P : Key → Type 0) → ((e k : ℕ) → length plan.threads ≤ e → P (e, k)) → AllByRecursion P (tally made).retired
  freed_past P holds = all_past P (length plan.threads) holds (tally made).retired (length plan.threads) (64 - length plan.threads) (omega arith)
      (freed_all made ∙ ap (flat_map freed_by) moves_are ∙ others_free (call_of old.hand) (length plan.threads))

  pub freed_spare : AllByRecursion (λ (freed : Key). length plan.threads ≤ freed.0) (account new).hand.retired
  freed_spare = freed_past (λ freed. length plan.threads ≤ freed.0) (λ e k past. past)

  has_done_all : (e k : ℕ) → length plan.threads ≤ e → HasDoneAll plan (e, k)
  has_done_all e k past = let none = ap (λ z. length (steps_in z)) (slice_get_past plan.threads e past) in omega arith

  pub first_prepared : account old ≡ nothing → IsUnused old → IsPrepared plan new
  first_prepared none unused =
      let v : View = view_of old.hand in
      let w : View = view_of new.hand in
      let m = p.hand.moved in
      let none_held : many_held v ≡ 0 = ap (λ (z : View). many_held z) hand.knows in
      let wide : length w.own.held ≡ 64 = m.long ∙ ap (λ (z : View). length z.own.held) hand.knows in
      let none_left : many_held w ≡ 0 = none_marked w.own.held 64 (omega arith) p.hand.none in
      let many = all_many (call_of old.hand) (length plan.threads) p.hand.few in
      let held = m.held in let all = m.all in let own = m.own in
      let none_took : own_takings v ≡ 0 = ap (λ (z : View). own_takings z) hand.knows in
      let calm = quiet_all made (subst (AllByRecursion IsPlacing) (sym moves_are) (all_place (call_of old.hand) (length plan.threads))) in
      let rest = ap account p.rest in
      record {
        taken = omega arith;
        did = λ i. record {
          queues = ((λ j. (rest j).queues) ∙ (λ j. (none j).queues)) i;
          chains = ((λ j. (rest j).chains) ∙ (λ j. (none j).chains)) i;
          hand = calm i;
          meters = ((λ j. record { ticks = (p.alarms j).ticks; advances = (p.alarms j).advances; set = (p.alarms j).set; fired = (p.alarms j).fired; cancelled = (p.alarms j).cancelled })
              ∙ (λ j. record (none j).meters { set = (none j).meters.set ++ plan.alarms })) i;
          heard = ((λ j. (rest j).heard) ∙ (λ j. (none j).heard)) i;
          shown = ((λ j. (rest j).shown) ∙ (λ j. (none j).shown)) i;
        };
        retired = freed_past (HasDoneAll plan) has_done_all;
        took = omega arith;
        signals = ap (λ z. z.signals) p.rest ∙ unused.signals;
      }
