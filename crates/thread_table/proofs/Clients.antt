-- What the steps of each call mean for its caller.
use Rattle.thread_table.proofs.Common.{◌≡◌, ◌≢◌, ◌⊎◌, inl, inr, ℕ, zero, suc, ◌+◌, ◌-◌, ◌%◌, ◌<◌, ◌≤◌, Bool, true, false, not, List, [], ◌∷◌, ◌++◌, ◌∙◌, refl, sym, ap, subst, arith, map, length, Result, Ok, Err, Some, None, dite, dec_lt, append_assoc, append-nil, map-append, AllByRecursion, load, change, Event, Past, Step, ELEMENTS, RINGS, WAITS, MadeEvent, View, Lost, NextRefusal, IsValidHandView, Thread, PerformsEvents, take_event, claim_event, quiet, head_word, tail_word, place_word, state_word, wait_ring, MoveAnswer, MovedBy, WaitAnswer, IsTicket, StartAnswer, ParkAnswer, DeliverAnswer, ReadPc, DoneAnswer, TakesOff, head_in, running, done_word, mark_in, is_in, raise_event, made_in, bit_at, bit_at-lt, true≢false, ◌==◌}
use Rattle.std.specs.Prelude.{MatchResult, IfOk, IfErr}
use Rattle.event_theory.specs.declared.event.Event.TheVariants as events
use Rattle.table_theory.specs.Ledgers.{ExtendsTrace}
use Rattle.table_theory.specs.Moments.{AtSomeMoment, AtTwoMoments, AreEvents}
use Rattle.table_theory.proofs.Reaching.{all_after}
use Rattle.thread_table.specs.declared.moves.MoveRefusal.{MoveRefusal}
use Rattle.thread_table.specs.declared.moves.MoveRefusal.TheVariants as moves
use Rattle.thread_table.specs.declared.takings.NextRefusal.TheVariants as nexts
use Rattle.thread_table.specs.declared.layout.TheConstants.{STOP}
use Rattle.thread_table.specs.declared.states.Signalled.{Signalled}
use Rattle.thread_table.specs.declared.states.Signalled.TheVariants as signalled
use Rattle.thread_table.specs.declared.states.Started.{Started}
use Rattle.thread_table.specs.declared.states.Started.TheVariants as started
use Rattle.thread_table.specs.Answers.{TakesAfter, WasSpent, FoundState, Exchanged, WasChanged, HasStop, HasNoStop, HasCell, HasSignals, StoppedNow, SignalledNow, SignalAnswer, IsPending, signals_in, PutsOn}
use Rattle.std.proofs.lemmas.Nat.Bits.{same_from_bits_below, bit_at-zero}
use Rattle.thread_table.specs.declared.programs.Spent.{Spent}
use Rattle.thread_table.specs.Client.{queue_after, head_after, notifies_after, thread_after, events_of, Made, MadeNothing, MadeOnly, MadeWhen, Took, TookOldest, WhyNotTaken, Moved, HeadMoved, ShowsHead, WhyNotMoved, WhyNotWaited, WaitedInTime, IsTicketOf, WhyLost, StopFound, SignalFound, StartDid, StartFound, ParkDid, ParkFound, ArePending, WerePending, DeliverDid, DeliverFound, HadDone, StepFound, PutOn, TookOff, ServesSame, IsStopped, HasPending}
use Rattle.thread_table.specs.Entries.{AreInOrder}
use Rattle.thread_table.specs.Layout.{last_head, most_done, stop_bit, cell_bit}
use Rattle.thread_table.specs.Schedules.{state_after}
use Rattle.thread_table.specs.Telling.{IsValidHandStep}
use Rattle.thread_table.proofs.Events.Saying.{head_says, tail_says, state_says, done_says, bits_say, oldest_says, unraised_says, as_load}
use Rattle.thread_table.proofs.Events.Lone.{same_state}
use Rattle.thread_table.proofs.Schedule.Orders.{adds_real, adds_follow}

-- EVENTS

abbrev pub event_in : MadeEvent → Event
event_in m = m.event

-- these steps made just these events
abbrev pub Are : List Step → List Event → Type 0
Are steps events = AreEvents (λ event past next. next ≡ past ++ event ∷ []) (λ past next. next ≡ past) steps events

-- these steps made no event
abbrev pub AreLooks : List Step → Type 0
AreLooks [] = Unit {0}
AreLooks (e ∷ es) = (e.next.object ≡ e.then.object) × AreLooks es

pub looks_before : (before es : List Step) (made : List Event) → AreLooks before → Are es made → Are (before ++ es) made
looks_before [] es made looks are = are
looks_before (e ∷ before) es made looks are = inl (looks.0, looks_before before es made looks.1 are)

pub looks_all : (xs ys : List Step) → AreLooks xs → AreLooks ys → AreLooks (xs ++ ys)
looks_all [] ys a b = b
looks_all (x ∷ xs) ys a b = (a.0, looks_all xs ys a.1 b)

-- the hand lists these events, which the steps made
pub made_by : (v w now : View) (es : List Step) (made : List MadeEvent) → PerformsEvents v es now w → now.own.made ≡ v.own.made ++ made → Are es (map event_in made) → Made v (map event_in made) w
made_by v w now es made a is are = (ap events_of a.has ∙ (ap (map event_in) is ∙ map-append event_in v.own.made made), record { steps = es; adds = a.adds; are = are })

pub made_nothing : (v w now : View) (es : List Step) → PerformsEvents v es now w → now.own.held ≡ v.own.held → now.own.made ≡ v.own.made → AreLooks es → MadeNothing v w
made_nothing v w now es a held made looks = (
  (
    ap events_of a.has ∙ (ap (map event_in) made ∙ sym (append-nil (events_of v))),
    record { steps = es; adds = a.adds; are = subst (λ (z : List Step). Are z []) (append-nil es) (looks_before es [] [] looks refl) },
  ),
  ap (λ (z : View). z.own.held) a.has ∙ held,
  ap (λ (z : View). z.own.made) a.has ∙ made,
)

pub look_effect : (v w : View) (es : List Step) → PerformsEvents v es (quiet v) w → AreLooks es → MadeNothing v w
look_effect v w es a looks = made_nothing v w (quiet v) es a refl refl looks

-- MOMENTS

order_on : (p : Past) (xs ys : List Step) → AreInOrder p (xs ++ ys) → (q : Past) × AreInOrder q ys
order_on p [] ys o = (p, o)
order_on p (x ∷ xs) ys o = order_on x.next xs ys o.2

module _ (v w : View) (h : IsValidHandView w) where
  -- the last entries of a call are real, and in order
  pub real_after : (xs ys : List Step) → ExtendsTrace v (xs ++ ys) w → AllByRecursion (IsValidHandStep w.own.first) ys
  real_after xs ys a = all_after (IsValidHandStep w.own.first) xs ys (adds_real v w (xs ++ ys) h a)

  pub in_order_after : (xs ys : List Step) → ExtendsTrace v (xs ++ ys) w → (q : Past) × AreInOrder q ys
  in_order_after xs ys a = let f = adds_follow v w (xs ++ ys) h a in order_on f.0 xs ys f.1

-- TAKINGS

pub take_effect : (before : List Step) (call ring : ℕ) (v w : View) (r : Result ℕ NextRefusal) → AreLooks before → TakesAfter before call v ring r w → MatchResult r (λ element. Took call ring element v w) (λ refusal. MadeNothing v w)
take_effect before call ring v w (Ok element) looks (tail, place, r, s, t, up, is, more, acts) = (
  more,
  made_by v w _ _ (record { event = take_event call ring; number = 0; signals = [] } ∷ []) acts refl (looks_before before _ _ looks (inl (refl, inl (refl, inr (take_event call ring, [], refl, refl, refl))))),
)
take_effect before call ring v w (Err nexts.NoneReady) looks (tail, place, r, s, t, low, acts) = made_nothing v w (quiet v) _ acts refl refl (looks_all before _ looks (refl, (refl, (refl, tt))))
take_effect before call ring v w (Err (nexts.Lost seen)) looks (tail, place, r, s, t, less, acts) = made_nothing v w (quiet v) _ acts refl refl (looks_all before _ looks (refl, (refl, (refl, tt))))

module _ (before : List Step) (call ring : ℕ) (v w : View) (below : ring < RINGS) (h : IsValidHandView w) where
  pub take_result : (r : Result ℕ NextRefusal) → TakesAfter before call v ring r w → IfOk r (λ element. TookOldest call ring element v w)
  take_result (Ok element) (tail, place, r, s, t, up, is, more, acts) =
      let one : Step = load (tail_word ring) tail r in let two : Step = load (place_word ring tail) place s in let three : Step = change (tail_word ring) tail t (take_event call ring) in
      let real = real_after v w h before (one ∷ two ∷ three ∷ []) acts.adds in let order = (in_order_after v w h before (one ∷ two ∷ three ∷ []) acts.adds).1 in record {
        before = before ++ one ∷ two ∷ [];
        step = three;
        after = [];
        adds = subst (λ (z : List Step). ExtendsTrace v z w) (sym (append_assoc before (one ∷ two ∷ []) (three ∷ []))) acts.adds;
        makes = refl;
        holds = oldest_says w.own.first ring tail place r s t below real.0 real.1.0 order.2.1 order.2.2.1 (as_load w.own.first (tail_word ring) tail t (take_event call ring) real.1.1.0) up ∙ ap (λ (z : ℕ). z ∷ []) (sym is);
      }
  take_result (Err refusal) a = tt

  pub take_error : (r : Result ℕ NextRefusal) → TakesAfter before call v ring r w → IfErr r (λ refusal. WhyNotTaken ring refusal v w)
  take_error (Ok element) a = tt
  take_error (Err nexts.NoneReady) (tail, place, r, s, t, low, acts) =
      let one : Step = load (tail_word ring) tail r in let two : Step = load (place_word ring tail) place s in let three : Step = load (tail_word ring) tail t in
      let real = real_after v w h before (one ∷ two ∷ three ∷ []) acts.adds in let order = (in_order_after v w h before (one ∷ two ∷ three ∷ []) acts.adds).1 in record {
        before = before ++ one ∷ [];
        step = two;
        after = three ∷ [];
        adds = subst (λ (z : List Step). ExtendsTrace v z w) (sym (append_assoc before (one ∷ []) (two ∷ three ∷ []))) acts.adds;
        holds = unraised_says w.own.first ring tail place r s t below real.0 real.1.0 order.2.1 order.2.2.1 real.1.1.0 low;
      }
  take_error (Err (nexts.Lost seen)) (tail, place, r, s, t, less, acts) =
      let one : Step = load (tail_word ring) tail r in let two : Step = load (place_word ring tail) place s in let three : Step = load (tail_word ring) seen t in
      let real = real_after v w h before (one ∷ two ∷ three ∷ []) acts.adds in let same : w.own.first ≡ v.own.first = ap (λ (z : View). z.own.first) acts.has in
      let was = tail_says w.own.first one real.0 ring below refl in let is = tail_says w.own.first three real.1.1.0 ring below refl in record {
        before = before;
        first = one;
        between = two ∷ [];
        second = three;
        after = [];
        adds = acts.adds;
        holds = (omega arith, omega arith);
      }

-- MOVES

module _ (v w : View) (h : IsValidHandView w) where
  pub moved_by : (call ring element : ℕ) (event : Event) (word : ℕ) → ring < RINGS → MovedBy call v ring element event word w → Moved call ring element event v w
  moved_by call ring element event word below (place, r, s, t, low, still, less, acts) =
      let one : Step = load (head_word ring) word r in let two : Step = change (head_word ring) word s event in let raise : Event = raise_event call v ring (head_in word) in let three : Step = change (place_word ring (head_in word)) place t raise in
      let real = real_after v w h [] (one ∷ two ∷ three ∷ []) acts.adds in let same : w.own.first ≡ v.own.first = ap (λ (z : View). z.own.first) acts.has in
      let is = (head_says w.own.first two real.1.0 ring below refl).0 in (
        less,
        head_in word - v.own.first,
        made_by v w _ _ (made_in event (state_after s.object) ∷ record { event = raise; number = 0; signals = [] } ∷ []) acts refl (inl (refl, inr (event, raise ∷ [], refl, refl, inr (raise, [], refl, refl, refl)))),
        record { before = one ∷ []; step = two; after = three ∷ []; adds = acts.adds; makes = refl; holds = omega arith },
      )

  -- no position was left
  spent_at : (ring : ℕ) → ring < RINGS → WasSpent v ring w → AtSomeMoment v w (λ past. head_after v ring past ≡ last_head)
  spent_at ring below (word, r, last, acts) =
      let one : Step = load (head_word ring) word r in let real = real_after v w h [] (one ∷ []) acts.adds in let same : w.own.first ≡ v.own.first = ap (λ (z : View). z.own.first) acts.has in
      let is = (head_says w.own.first one real.0 ring below refl).0 in record { before = []; step = one; after = []; adds = acts.adds; holds = omega arith }

  -- the heads that two loads found, one after the other, and the numbers of notifies
  module _ (ring word seen : ℕ) (r s : Past) (below : ring < RINGS) (acts : PerformsEvents v (load (head_word ring) word r ∷ load (head_word ring) seen s ∷ []) (quiet v) w) where
    abbrev early : Step
    early = load (head_word ring) word r

    abbrev late : Step
    late = load (head_word ring) seen s

    first_same : w.own.first ≡ v.own.first
    first_same = ap (λ (z : View). z.own.first) acts.has

    pub was : (head_in word ≡ head_after v ring r.object) × (mark_in word ≡ notifies_after ring r.object)
    was = let real = real_after v w h [] (early ∷ late ∷ []) acts.adds in let same = first_same in let is = head_says w.own.first early real.0 ring below refl in (omega arith, is.1)

    pub is_now : (head_in seen ≡ head_after v ring s.object) × (mark_in seen ≡ notifies_after ring s.object)
    is_now = let real = real_after v w h [] (early ∷ late ∷ []) acts.adds in let same = first_same in let is = head_says w.own.first late real.1.0 ring below refl in (omega arith, is.1)

    pub grown : length (queue_after r.object ring).history ≤ length (queue_after s.object ring).history
    grown = ((in_order_after v w h [] (early ∷ late ∷ []) acts.adds).1.2.1 ring).longer

    head_moved : seen ≢ word → (length (queue_after r.object ring).history < length (queue_after s.object ring).history) ⊎ ((length (queue_after r.object ring).history < length (queue_after s.object ring).history) → ⊥) → HeadMoved ring r.object s.object
    head_moved ne (inl more) = inl more
    head_moved ne (inr nomore) = inr (λ same. ne (let a = was in let b = is_now in let g = grown in omega (arith, a.0, a.1, b.0, b.1, g, same, nomore)))

    pub shows_head : ShowsHead v ring s.object seen
    shows_head = let b = is_now in omega (arith, b.0, b.1)

    room_was : head_in word < last_head → head_after v ring r.object < last_head
    room_was some = let a = was in omega (arith, a.0, some)

    pub lost_at : head_in word < last_head → seen ≢ word → AtTwoMoments v w (λ past later. (head_after v ring past < last_head) × HeadMoved ring past later × ShowsHead v ring later seen)
    lost_at some ne = record {
      before = [];
      first = early;
      between = [];
      second = late;
      after = [];
      adds = acts.adds;
      holds = (room_was some, head_moved ne (dite (dec_lt (length (queue_after r.object ring).history) (length (queue_after s.object ring).history)) inl inr), shows_head);
    }

  pub move_effect : (call ring element : ℕ) (r : Result (Unit {0}) MoveRefusal) → ring < RINGS → MoveAnswer call v ring element r w → MatchResult r (λ done. Moved call ring element (claim_event call ring element) v w) (λ refusal. MadeNothing v w)
  move_effect call ring element (Ok done) below (word, a) = moved_by call ring element (claim_event call ring element) word below a
  move_effect call ring element (Err moves.Spent) below (word, r, last, acts) = made_nothing v w (quiet v) _ acts refl refl (refl, tt)
  move_effect call ring element (Err (moves.Lost seen)) below (word, (r, s, low, ne, acts)) = made_nothing v w (quiet v) _ acts refl refl (refl, (refl, tt))
  move_effect call ring element (Err (moves.Moved mark)) below a = absurd a

  pub move_error : (call ring element : ℕ) (r : Result (Unit {0}) MoveRefusal) → ring < RINGS → MoveAnswer call v ring element r w → IfErr r (λ refusal. WhyNotMoved ring refusal v w)
  move_error call ring element (Ok done) below a = tt
  move_error call ring element (Err moves.Spent) below a = spent_at ring below a
  move_error call ring element (Err (moves.Lost seen)) below (word, (r, s, low, ne, acts)) = lost_at ring word seen r s below acts low ne
  move_error call ring element (Err (moves.Moved mark)) below a = absurd a

  pub ticket_says : (wait ticket : ℕ) → wait < WAITS → IsTicket v wait ticket w → IsTicketOf wait ticket v w
  ticket_says wait ticket low (word, r, is, acts) =
      let one : Step = load (head_word (wait_ring wait)) word r in let real = real_after v w h [] (one ∷ []) acts.adds in let below : wait_ring wait < RINGS = omega arith in
      record { before = []; step = one; after = []; adds = acts.adds; holds = sym (head_says w.own.first one real.0 (wait_ring wait) below refl).1 ∙ sym is }

  pub wait_effect : (call wait element ticket : ℕ) (r : Result (Unit {0}) MoveRefusal) → wait < WAITS → WaitAnswer call v wait element ticket r w
      → MatchResult r (λ done. Moved call (wait_ring wait) element (events.WaitAt call wait element ticket) v w) (λ refusal. MadeNothing v w)
  wait_effect call wait element ticket (Ok done) low (word, is, a) = moved_by call (wait_ring wait) element (events.WaitAt call wait element ticket) word (omega arith) a
  wait_effect call wait element ticket (Err moves.Spent) low (word, r, last, acts) = made_nothing v w (quiet v) _ acts refl refl (refl, tt)
  wait_effect call wait element ticket (Err (moves.Lost seen)) low (word, before, is, (r, s, some, ne, acts)) = made_nothing v w (quiet v) _ acts refl refl (refl, (refl, tt))
  wait_effect call wait element ticket (Err (moves.Moved mark)) low (word, r, some, ne, inl (is, acts)) = made_nothing v w (quiet v) _ acts refl refl (refl, tt)
  wait_effect call wait element ticket (Err (moves.Moved mark)) low (word, r, some, ne, inr (before, seen, s, is, acts)) = made_nothing v w (quiet v) _ acts refl refl (refl, (refl, tt))

  pub wait_result : (call wait element ticket : ℕ) (r : Result (Unit {0}) MoveRefusal) → wait < WAITS → WaitAnswer call v wait element ticket r w → IfOk r (λ done. WaitedInTime call wait element ticket v w)
  wait_result call wait element ticket (Ok done) low (word, is, (place, r, s, t, some, still, less, acts)) =
      let ring : ℕ = wait_ring wait in let below : wait_ring wait < RINGS = omega arith in let event : Event = events.WaitAt call wait element ticket in
      let one : Step = load (head_word ring) word r in let two : Step = change (head_word ring) word s event in let three : Step = change (place_word ring (head_in word)) place t (raise_event call v ring (head_in word)) in
      let real = real_after v w h [] (one ∷ two ∷ three ∷ []) acts.adds in
      record { before = one ∷ []; step = two; after = three ∷ []; adds = acts.adds; makes = refl; holds = sym (head_says w.own.first two real.1.0 ring below refl).1 ∙ is }
  wait_result call wait element ticket (Err refusal) low a = tt

  pub wait_error : (call wait element ticket : ℕ) (r : Result (Unit {0}) MoveRefusal) → wait < WAITS → WaitAnswer call v wait element ticket r w → IfErr r (λ refusal. WhyNotWaited wait ticket refusal v w)
  wait_error call wait element ticket (Ok done) low a = tt
  wait_error call wait element ticket (Err moves.Spent) low a = spent_at (wait_ring wait) (omega arith) a
  wait_error call wait element ticket (Err (moves.Lost seen)) low (word, before, is, (r, s, some, ne, acts)) = let below : wait_ring wait < RINGS = omega arith in
      let x = was (wait_ring wait) word seen r s below acts in let y = is_now (wait_ring wait) word seen r s below acts in let g = grown (wait_ring wait) word seen r s below acts in record {
        before = [];
        first = load (head_word (wait_ring wait)) word r;
        between = [];
        second = load (head_word (wait_ring wait)) seen s;
        after = [];
        adds = acts.adds;
        holds = (sym x.1 ∙ before, omega (arith, x.0, y.0, g, before, is, ne), sym y.1 ∙ is, shows_head (wait_ring wait) word seen r s below acts);
      }
  wait_error call wait element ticket (Err (moves.Moved mark)) low (word, r, some, ne, inl (is, acts)) =
      let one : Step = load (head_word (wait_ring wait)) word r in let real = real_after v w h [] (one ∷ []) acts.adds in let below : wait_ring wait < RINGS = omega arith in
      let same : w.own.first ≡ v.own.first = ap (λ (z : View). z.own.first) acts.has in let found = head_says w.own.first one real.0 (wait_ring wait) below refl in (
        ne,
        record { before = []; step = one; after = []; adds = acts.adds; holds = omega (arith, same, found.0, some) },
        record { before = []; step = one; after = []; adds = acts.adds; holds = sym found.1 ∙ sym is },
      )
  wait_error call wait element ticket (Err (moves.Moved mark)) low (word, r, some, ne, inr (before, seen, s, is, acts)) = let below : wait_ring wait < RINGS = omega arith in
      let one : Step = load (head_word (wait_ring wait)) word r in let two : Step = load (head_word (wait_ring wait)) seen s in (
        ne,
        record { before = []; step = one; after = two ∷ []; adds = acts.adds; holds = room_was (wait_ring wait) word seen r s below acts some },
        record { before = one ∷ []; step = two; after = []; adds = acts.adds; holds = sym (is_now (wait_ring wait) word seen r s below acts).1 ∙ sym is },
      )

-- STOP BITS AND SIGNALS

-- a bit that is not 1 is 0
low_bit : (n : ℕ) → n < 2 → (n == 1) ≡ false → n ≡ 0
low_bit zero low clear = refl
low_bit (suc zero) low clear = absurd (true≢false clear)
low_bit (suc (suc n)) low clear = absurd (omega (arith, low))

-- the bits of a state word that was found
module _ (first element : ℕ) (known : element < ELEMENTS) (e : Step) (r : IsValidHandStep first e) (is : e.word ≡ state_word element) where
  abbrev thread : Thread
  thread = thread_after e.then.object element

  bits : (is_in e.found stop_bit ≡ thread.stop) × (is_in e.found cell_bit ≡ thread.parked) × ((signal : ℕ) → signal < 16 → is_in e.found signal ≡ thread.pending signal) × ((signal : ℕ) → signal < 16 → is_in (e.found % STOP) signal ≡ thread.pending signal)
  bits = bits_say thread e.found (state_says first e r element known is)

module _ (element : ℕ) (known : element < ELEMENTS) (v w : View) (h : IsValidHandView w) where
  -- one look at the state word
  state_at : (Is : ℕ → Type 0) (Holds : List Event → Type 0) → ((e : Step) → IsValidHandStep w.own.first e → e.word ≡ state_word element → Is e.found → Holds e.then.object) → FoundState Is v element w → AtSomeMoment v w Holds
  state_at Is Holds reads (word, r, so, acts) = let one : Step = load (state_word element) word r in
      record { before = []; step = one; after = []; adds = acts.adds; holds = reads one (real_after v w h [] (one ∷ []) acts.adds).0 refl so }

  -- the state word was exchanged
  exchange_at : (Is : ℕ → Type 0) (event : Event) (now : View) (Holds : List Event → Type 0) → ((e : Step) → IsValidHandStep w.own.first e → e.word ≡ state_word element → Is e.found → Holds e.then.object) → Exchanged Is v element event now w → MadeWhen v event Holds w
  exchange_at Is event now Holds reads (word, r, s, so, acts) = let one : Step = load (state_word element) word r in let two : Step = change (state_word element) word s event in
      record { before = one ∷ []; step = two; after = []; adds = acts.adds; makes = refl; holds = reads two (real_after v w h [] (one ∷ two ∷ []) acts.adds).1.0 refl so }

  -- another word was found
  lost_state : (Is : ℕ → Type 0) (Has : Thread → Type 0) → ((e : Step) → IsValidHandStep w.own.first e → e.word ≡ state_word element → Is e.found → Has (thread_after e.then.object element)) → (seen : ℕ) → WasChanged Is v element seen w
      → WhyLost Has element seen v w
  lost_state Is Has reads seen (word, r, s, so, ne, acts) = let one : Step = load (state_word element) word r in let two : Step = load (state_word element) seen s in
      let real = real_after v w h [] (one ∷ two ∷ []) acts.adds in record {
        before = [];
        first = one;
        between = [];
        second = two;
        after = [];
        adds = acts.adds;
        holds = (reads one real.0 refl so, λ shows. ne (same_state (thread_after r.object element) seen word shows (state_says w.own.first one real.0 element known refl)), state_says w.own.first two real.1.0 element known refl);
      }

  is_stopped : (e : Step) → IsValidHandStep w.own.first e → e.word ≡ state_word element → HasStop e.found → (thread_after e.then.object element).stop ≡ true
  is_stopped e r is so = sym (bits w.own.first element known e r is).0 ∙ so

  is_going : (e : Step) → IsValidHandStep w.own.first e → e.word ≡ state_word element → HasNoStop e.found → (thread_after e.then.object element).stop ≡ false
  is_going e r is so = sym (bits w.own.first element known e r is).0 ∙ so

  is_parked : (parked : Bool) (e : Step) → IsValidHandStep w.own.first e → e.word ≡ state_word element → HasCell parked e.found → ((thread_after e.then.object element).stop ≡ true) × ((thread_after e.then.object element).parked ≡ parked)
  is_parked parked e r is so = let b = bits w.own.first element known e r is in (sym b.0 ∙ so.0, sym b.1 ∙ so.1)

  are_pending : (mask : ℕ) (e : Step) → IsValidHandStep w.own.first e → e.word ≡ state_word element → e.found % STOP ≡ mask → ArePending element mask e.then.object
  are_pending mask e r is so signal low = sym ((bits w.own.first element known e r is).3 signal low) ∙ ap (λ (z : ℕ). is_in z signal) so

  has_pending : (e : Step) → IsValidHandStep w.own.first e → e.word ≡ state_word element → HasSignals e.found → HasPending (thread_after e.then.object element)
  has_pending e r is some none = let b = (bits w.own.first element known e r is).3 in
      let clear : e.found % STOP ≡ 0 = same_from_bits_below 16 (e.found % STOP) 0 (omega arith) (omega arith) (λ i low. low_bit (bit_at (e.found % STOP) i) (bit_at-lt (e.found % STOP) i) (b i low ∙ none i low) ∙ sym (bit_at-zero i)) in omega (arith, some, clear)

  pub stop_result : (call : ℕ) (was_clear : Bool) → StoppedNow call v element was_clear w → StopFound call element was_clear v w
  stop_result call was_clear (word, r, is, acts) = let one : Step = change (state_word element) word r (events.Stop call element) in record {
    before = [];
    step = one;
    after = [];
    adds = acts.adds;
    makes = refl;
    holds = is ∙ ap not (bits w.own.first element known one (real_after v w h [] (one ∷ []) acts.adds).0 refl).0;
  }

  signal_found : (call signal : ℕ) (pending : Bool) → signal < 16 → SignalledNow call v element signal pending w → MadeWhen v (events.Signal call element signal) (λ past. (thread_after past element).pending signal ≡ pending) w
  signal_found call signal pending low (word, r, is, acts) = let one : Step = change (state_word element) word r (events.Signal call element signal) in record {
    before = [];
    step = one;
    after = [];
    adds = acts.adds;
    makes = refl;
    holds = sym ((bits w.own.first element known one (real_after v w h [] (one ∷ []) acts.adds).0 refl).2 signal low) ∙ is;
  }

  pub signal_result : (call signal : ℕ) (r : Signalled) → signal < 16 → SignalAnswer call v element signal r w → SignalFound call element signal r v w
  signal_result call signal signalled.Raised low a = signal_found call signal false low a
  signal_result call signal signalled.Merged low a = signal_found call signal true low a

  pub start_result : (call : ℕ) (r : Result Started Lost) → StartAnswer call v element r w → IfOk r (λ s. StartFound call element s v w)
  start_result call (Ok started.NotStopped) a = state_at HasNoStop _ is_going a
  start_result call (Ok started.Cleared) a = exchange_at (HasCell false) _ _ _ (is_parked false) a
  start_result call (Ok started.Held) a = exchange_at (HasCell true) _ _ _ (is_parked true) a.1
  start_result call (Err lost) a = tt

  pub start_error : (call : ℕ) (r : Result Started Lost) → StartAnswer call v element r w → IfErr r (λ lost. WhyLost IsStopped element lost.seen v w)
  start_error call (Ok s) a = tt
  start_error call (Err lost) a = lost_state HasStop IsStopped is_stopped lost.seen a

  pub park_result : (call : ℕ) (r : Result Bool Lost) → ParkAnswer call v element r w → IfOk r (λ parked. ParkFound call element parked v w)
  park_result call (Ok true) a = exchange_at HasStop _ _ _ is_stopped a.1
  park_result call (Ok false) a = state_at HasNoStop _ is_going a
  park_result call (Err lost) a = tt

  pub park_error : (call : ℕ) (r : Result Bool Lost) → ParkAnswer call v element r w → IfErr r (λ lost. WhyLost IsStopped element lost.seen v w)
  park_error call (Ok parked) a = tt
  park_error call (Err lost) a = lost_state HasStop IsStopped is_stopped lost.seen a

  pub pending_result : (mask : ℕ) → IsPending v element mask w → WerePending element mask v w
  pending_result mask a = state_at (λ word. mask ≡ word % STOP) (ArePending element mask) (λ e r is so. are_pending mask e r is (sym so)) a

  pub deliver_result : (call : ℕ) (r : Result ℕ Lost) → DeliverAnswer call v element r w → IfOk r (λ mask. DeliverFound call element mask v w)
  deliver_result call (Ok zero) a = state_at (λ word. word % STOP ≡ 0) (ArePending element 0) (are_pending 0) a
  deliver_result call (Ok (suc mask)) a = exchange_at (λ word. word % STOP ≡ suc mask) _ _ (ArePending element (suc mask)) (are_pending (suc mask)) a
  deliver_result call (Err lost) a = tt

  pub deliver_error : (call : ℕ) (r : Result ℕ Lost) → DeliverAnswer call v element r w → IfErr r (λ lost. WhyLost HasPending element lost.seen v w)
  deliver_error call (Ok mask) a = tt
  deliver_error call (Err lost) a = lost_state HasSignals HasPending has_pending lost.seen a

pub one_made : (v w now : View) (es : List Step) (event : Event) (number : ℕ) (signals : List ℕ) → PerformsEvents v es now w → now.own.held ≡ v.own.held → now.own.made ≡ v.own.made ++ record { event = event; number = number; signals = signals } ∷ [] → Are es (event ∷ []) → MadeOnly v (event ∷ []) w
one_made v w now es event number signals a held made are = (made_by v w now es (record { event = event; number = number; signals = signals } ∷ []) a made are, ap (λ (z : View). z.own.held) a.has ∙ held)

pub stop_effect : (call element : ℕ) (was_clear : Bool) (v w : View) → StoppedNow call v element was_clear w → MadeOnly v (events.Stop call element ∷ []) w
stop_effect call element was_clear v w (word, r, is, acts) = one_made v w _ _ (events.Stop call element) 0 [] acts refl refl (inr (events.Stop call element, [], refl, refl, refl))

pub signal_effect : (call element signal : ℕ) (r : Signalled) (v w : View) → SignalAnswer call v element signal r w → MadeOnly v (events.Signal call element signal ∷ []) w
signal_effect call element signal signalled.Raised v w (word, r, is, acts) = one_made v w _ _ (events.Signal call element signal) 0 [] acts refl refl (inr (events.Signal call element signal, [], refl, refl, refl))
signal_effect call element signal signalled.Merged v w (word, r, is, acts) = one_made v w _ _ (events.Signal call element signal) 0 [] acts refl refl (inr (events.Signal call element signal, [], refl, refl, refl))

pub start_effect : (call element : ℕ) (v w : View) (r : Result Started Lost) → StartAnswer call v element r w → MatchResult r (λ s. StartDid call element s v w) (λ lost. MadeNothing v w)
start_effect call element v w (Ok started.NotStopped) (word, r, so, acts) = look_effect v w _ acts (refl, tt)
start_effect call element v w (Ok started.Cleared) (word, r, s, so, acts) = one_made v w _ _ (events.Start call element) 0 [] acts refl refl (inl (refl, inr (events.Start call element, [], refl, refl, refl)))
start_effect call element v w (Ok started.Held) (more, (word, r, s, so, acts)) = (more, made_by v w _ _ (record { event = events.Start call element; number = 0; signals = [] } ∷ []) acts refl (inl (refl, inr (events.Start call element, [], refl, refl, refl))))
start_effect call element v w (Err lost) (word, r, s, so, ne, acts) = look_effect v w _ acts (refl, (refl, tt))

pub park_effect : (call element : ℕ) (v w : View) (r : Result Bool Lost) → ParkAnswer call v element r w → MatchResult r (λ parked. ParkDid call element parked v w) (λ lost. MadeNothing v w)
park_effect call element v w (Ok true) (less, (word, r, s, so, acts), still) = (less, made_by v w _ _ (record { event = events.Park call element; number = 0; signals = [] } ∷ []) acts refl (inl (refl, inr (events.Park call element, [], refl, refl, refl))))
park_effect call element v w (Ok false) (word, r, so, acts) = look_effect v w _ acts (refl, tt)
park_effect call element v w (Err lost) (word, r, s, so, ne, acts) = look_effect v w _ acts (refl, (refl, tt))

pub deliver_effect : (call element : ℕ) (v w : View) (r : Result ℕ Lost) → DeliverAnswer call v element r w → MatchResult r (λ mask. DeliverDid call element mask v w) (λ lost. MadeNothing v w)
deliver_effect call element v w (Ok zero) (word, r, so, acts) = look_effect v w _ acts (refl, tt)
deliver_effect call element v w (Ok (suc mask)) (word, r, s, so, acts) = one_made v w _ _ (events.Deliver call element) 0 (signals_in (suc mask)) acts refl refl (inl (refl, inr (events.Deliver call element, [], refl, refl, refl)))
deliver_effect call element v w (Err lost) (word, r, s, so, ne, acts) = look_effect v w _ acts (refl, (refl, tt))

-- STEPS DONE AND PROCESSORS

module _ (element : ℕ) (known : element < ELEMENTS) (v w : View) (h : IsValidHandView w) where
  pub pc_result : (found : ℕ) → ReadPc element v found w → HadDone element found v w
  pc_result found (r, is, acts) = let one : Step = load (done_word element) found r in
      record { before = []; step = one; after = []; adds = acts.adds; holds = sym (done_says w.own.first one (real_after v w h [] (one ∷ []) acts.adds).0 element known refl) }

  pub step_result : (call : ℕ) (r : Result ℕ Spent) → DoneAnswer call v element r w → IfOk r (λ number. StepFound call element number v w)
  step_result call (Ok number) (count, r, s, more, one_is, two_is, acts) = let one : Step = load (done_word element) count r in let two : Step = change (done_word element) count s (events.Done call element) in
      let real = real_after v w h [] (one ∷ two ∷ []) acts.adds in let is = done_says w.own.first two real.1.0 element known refl in
      record { before = one ∷ []; step = two; after = []; adds = acts.adds; makes = refl; holds = ap (λ (z : ℕ). z + 1) (sym is) ∙ sym more }
  step_result call (Err spent) a = tt

  pub step_error : (call : ℕ) (r : Result ℕ Spent) → DoneAnswer call v element r w → IfErr r (λ spent. HadDone element most_done v w)
  step_error call (Ok number) a = tt
  step_error call (Err spent) a = pc_result most_done a

pub pc_effect : (element found : ℕ) (v w : View) → ReadPc element v found w → MadeNothing v w
pc_effect element found v w (r, is, acts) = made_nothing v w _ _ acts refl refl (refl, tt)

pub step_effect : (call element : ℕ) (v w : View) (r : Result ℕ Spent) → DoneAnswer call v element r w → MatchResult r (λ number. MadeOnly v (events.Done call element ∷ []) w) (λ spent. MadeNothing v w)
step_effect call element v w (Ok number) (count, r, s, more, one_is, two_is, acts) = one_made v w _ _ (events.Done call element) count [] acts refl refl (inl (refl, inr (events.Done call element, [], refl, refl, refl)))
step_effect call element v w (Err spent) a = pc_effect element most_done v w a

pub on_effect : (call p element : ℕ) (v w : View) → (running v p ≡ None) × PutsOn call p element v w → PutOn call p element v w
on_effect call p element v w (free, (r, is, less, acts)) = (
  free,
  less,
  ap (λ (z : View). z.own.on) acts.has,
  made_by v w _ _ (record { event = events.On call p element; number = 0; signals = [] } ∷ []) acts refl (inr (events.On call p element, [], refl, refl, refl)),
)

pub off_effect : (call p element : ℕ) (v w : View) → (running v p ≡ Some element) × TakesOff call p element v w → TookOff call p element v w
off_effect call p element v w (there, (r, is, more, acts)) = (
  there,
  more,
  ap (λ (z : View). z.own.on) acts.has,
  made_by v w _ _ (record { event = events.Off call p; number = 0; signals = [] } ∷ []) acts refl (inr (events.Off call p, [], refl, refl, refl)),
)

pub on_frame : (call p element : ℕ) (v w : View) → PutsOn call p element v w → ServesSame v w
on_frame call p element v w (r, is, less, acts) = (ap (λ (z : View). z.own.serves) acts.has, ap (λ (z : View). z.member.share) acts.has, ap (λ (z : View). z.own.first) acts.has)

pub off_frame : (call p element : ℕ) (v w : View) → TakesOff call p element v w → ServesSame v w
off_frame call p element v w (r, is, more, acts) = (ap (λ (z : View). z.own.serves) acts.has, ap (λ (z : View). z.member.share) acts.has, ap (λ (z : View). z.own.first) acts.has)
