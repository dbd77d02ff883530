-- The bits of the state words at the steps of a call.
use Rattle.thread_table.proofs.Common.{get_or-set_same, inl, ◌≡◌, ◌≢◌, ℕ, zero, suc, ◌+◌, ◌*◌, ◌/◌, ◌%◌, ◌<◌, ◌==◌, Bool, true, false, cond, List, [], ◌∷◌, ◌++◌, ◌∙◌, length, set, get_or, refl, sym, ap, subst, arith, Ok, Some, None, Option, bit_at, get_or_from_slice_get, range_with_len, Elements, Thread, hold, Event, ELEMENTS, PROCESSORS, View, Past, thread_at, state_word, done_word, processor_word, StateShows, bit_of, processor_shown, has, serves, running, quiet, having, having_found, with_taken_off, with_held, count_of, Found, HandDid, load, change, seen_as, PerformsEvents, with_event, steps_in, StartAnswer, ParkAnswer, DeliverAnswer, ReadPc, DoneAnswer, TakesOff, is_in, is_done}
use mathlib.Core.Path.{transport}
use Rattle.std.proofs.Common.{MatchBool}
use Rattle.std.proofs.lemmas.Nat.Bits.{bit_at_cat_low}
use Rattle.std.specs.Prelude.{option_map, filter}
use Rattle.event_theory.specs.declared.event.Event.TheVariants as events
use Rattle.thread_table.specs.declared.states.Started.TheVariants as started
use Rattle.thread_table.specs.Schedules.{elements_after, state_after}
use Rattle.thread_table.specs.Views.{with_start, with_on, with_off}
use Rattle.thread_table.specs.Steps as valid
use Rattle.thread_table.specs.Answers.{HasSignals, StartedNow, PutsOn, with_delivery, with_step, signals_in}
use Rattle.thread_table.proofs.Schedule.Acting.{steps_same, acts_on, then_acts, may_as}
use Rattle.thread_table.proofs.Schedule.JoinEvents.{count_same}
use Rattle.thread_table.proofs.Schedule.Once.{counted_done}
use Rattle.thread_table.proofs.Schedule.Schedules.{elements_of}
use Rattle.thread_table.proofs.Events.Answering.{held_more, held_less}
use Rattle.thread_table.proofs.Events.Firsts.{parked_unheld, placed_unheld}

-- a bit that gives one truth value and shows another: they are the same
pub bit_reported : (b c : Bool) (n : ℕ) → MatchBool b (n ≡ 1) (n ≡ 0) → n ≡ bit_of c → b ≡ c
bit_reported true true n bit is = refl
bit_reported true false n bit is = absurd (omega arith)
bit_reported false true n bit is = absurd (omega arith)
bit_reported false false n bit is = refl

pub bit_on : (c : Bool) (n : ℕ) → n ≡ bit_of c → n ≡ 1 → c ≡ true
bit_on c n is one = sym (bit_reported true c n one is)

pub bit_off : (c : Bool) (n : ℕ) → n ≡ bit_of c → n ≡ 0 → c ≡ false
bit_off c n is none = sym (bit_reported false c n none is)

-- the state word that was found at an event
did_shows : {call element found : ℕ} {event : Event} {v w : View} (d : HandDid call v (state_word element) found event w) → element < ELEMENTS → StateShows (thread_at (elements_after d.before.object) element) found
did_shows {call} {element} {found} {event} d known = subst (StateShows (thread_at (elements_after d.before.object) element)) (sym d.step.is) (d.step.sees.shows.states element known)

pub bit_is : (b : Bool) (n : ℕ) → MatchBool b (n ≡ 1) (n ≡ 0) → b ≡ (n == 1)
bit_is true n is = sym (ap (λ (z : ℕ). z == 1) is)
bit_is false n is = sym (ap (λ (z : ℕ). z == 1) is)

-- the stop bit, or that of the stop cell, in a word
pub bit_up : (word bit : ℕ) → bit_at word bit ≡ 1 → is_in word bit ≡ true
bit_up word bit is = ap (λ (z : ℕ). z == 1) is

pub bit_down : (word bit : ℕ) → bit_at word bit ≡ 0 → is_in word bit ≡ false
bit_down word bit is = ap (λ (z : ℕ). z == 1) is

-- a start, where this is whether the element was parked
started_now : (call element : ℕ) (v u w : View) (word : ℕ) (parked : Bool) → Found v (state_word element) word u → bit_at word 16 ≡ 1 → is_in word 17 ≡ parked
    → (d : HandDid call u (state_word element) word (events.Start call element) w) → (thread_at (elements_after d.before.object) element).parked ≡ parked → StartedNow call v element parked w
started_now call element v u w word parked a stop cell d is = let ev : Event = events.Start call element in (
  word,
  u.seen,
  d.before,
  (bit_up word 16 stop, cell),
  then_acts v u w (λ z. with_event (with_start z element parked) ev) (load (state_word element) word u.seen ∷ []) (change (state_word element) word d.before ev ∷ []) a.acts
      (subst (λ (b : Bool). PerformsEvents u (change (state_word element) word d.before ev ∷ []) (with_event (with_start u element b) ev) w) is d.step.acts) refl,
)

pub cleared : (call element : ℕ) (v u w : View) (word : ℕ) → element < 64 → Found v (state_word element) word u → bit_at word 16 ≡ 1 → HandDid call u (state_word element) word (events.Start call element) w
    → bit_at word 17 ≡ 0 → StartAnswer call v element (Ok started.Cleared) w
cleared call element v u w word known a stop d bit = started_now call element v u w word false a stop (bit_down word 17 bit) d (bit_off _ (bit_at word 17) (did_shows d known).parked bit)

pub held_again : (call element : ℕ) (v u w : View) (word : ℕ) → element < 64 → Found v (state_word element) word u → bit_at word 16 ≡ 1 → HandDid call u (state_word element) word (events.Start call element) w
    → bit_at word 17 ≡ 1 → StartAnswer call v element (Ok started.Held) w
held_again call element v u w word known a stop d bit =
    let up : (thread_at (elements_after d.before.object) element).parked ≡ true = bit_on _ (bit_at word 17) (did_shows d known).parked bit in
    let now = started_now call element v u w word true a stop (bit_up word 17 bit) d up in
    let was : u.own.held ≡ v.own.held = ap (λ (z : View). z.own.held) a.acts.has in
    let long : length v.own.held ≡ 64 = ap (λ (l : List Bool). length l) (sym was) ∙ d.hand.held_long in (
      (
        ap (λ (l : List Bool). get_or l element false) (sym was) ∙ (sym (d.hand.held element) ∙ parked_unheld call element (elements_after d.before.object) d.step.sees.lawful (omega (arith, known, d.step.sees.shows.threads)) up),
        λ e. ap (λ (z : View). has z e) now.4.has ∙ held_more v.own.held element e (omega (arith, known, long)),
      ),
      now,
    )

pub parked : (call element : ℕ) (v u w : View) (word : ℕ) → v.own.fresh ≡ true → has v element ≡ true → element < 64 → Found v (state_word element) word u → bit_at word 16 ≡ 1
    → HandDid call u (state_word element) word (events.Park call element) w → ParkAnswer call v element (Ok true) w
parked call element v u w word fresh mine known a stop d = let ev : Event = events.Park call element in
    let acts = then_acts v u w (λ z. with_event (with_held z element false) ev) (load (state_word element) word u.seen ∷ []) (change (state_word element) word d.before ev ∷ []) a.acts d.step.acts refl in
    let long : length v.own.held ≡ 64 = ap (λ (z : View). length z.own.held) (sym a.acts.has) ∙ d.hand.held_long in (
      (λ e. ap (λ (z : View). has z e) acts.has ∙ held_less v.own.held element e (omega (arith, known, long))),
      (word, u.seen, d.before, bit_up word 16 stop, acts),
      ap (λ (z : Past). steps_in element z.object) acts.seen ∙ (count_same (is_done element) d.before.object ev refl
          ∙ (steps_same u d.before.object d.step.sees element (ap (λ (z : View). z.own.fresh) a.acts.has) known (inl (ap (λ (z : View). has z element) a.acts.has ∙ mine)) ∙ steps_same v u.seen.object a.sees element fresh known (inl mine))),
    )

-- the pending signals are the low bits of the state word
low_bits : (word signal : ℕ) → signal < 16 → bit_at (word % 65536) signal ≡ bit_at word signal
low_bits word signal below = let split : word / 65536 * 65536 + word % 65536 ≡ word = omega arith in
    sym (bit_at_cat_low (word / 65536) 16 (word % 65536) signal below) ∙ ap (λ (z : ℕ). bit_at z signal) split

pub shown_in : (c : Bool) (n : ℕ) → n ≡ bit_of c → c ≡ (n == 1)
shown_in true n is = sym (ap (λ (z : ℕ). z == 1) is)
shown_in false n is = sym (ap (λ (z : ℕ). z == 1) is)

pub pending_are : (thread : Thread) (word mask : ℕ) → StateShows thread word → mask ≡ word % 65536
    → (signal : ℕ) → signal < 16 → thread.pending signal ≡ is_in mask signal
pending_are thread word mask shows is signal below = shown_in (thread.pending signal) (bit_at mask signal)
    (ap (λ (z : ℕ). bit_at z signal) is ∙ (low_bits word signal below ∙ shows.pending signal below))

-- a signal is pending
pub has_signals : (word mask : ℕ) → mask ≡ word % 65536 → mask ≢ 0 → HasSignals word
has_signals word mask low some = omega (arith, some)

filter_range : (p q : ℕ → Bool) (a n : ℕ) → ((k : ℕ) → k < a + n → p k ≡ q k) → filter p (range_with_len a n) ≡ filter q (range_with_len a n)
filter_range p q a zero same = refl
filter_range p q a (suc n) same =
    ap (λ (b : Bool). cond b (a ∷ filter p (range_with_len (a + 1) n)) (filter p (range_with_len (a + 1) n))) (same a (omega arith))
    ∙ ap (λ (xs : List ℕ). cond (q a) (a ∷ xs) xs) (filter_range p q (a + 1) n (λ k low. same k (omega arith)))

pub delivered : (call element : ℕ) (v u w : View) (word mask : ℕ) → element < 64 → Found v (state_word element) word u → HandDid call u (state_word element) word (events.Deliver call element) w
    → mask ≡ word % 65536 → mask ≢ 0 → DeliverAnswer call v element (Ok mask) w
delivered call element v u w word zero known a d low some = absurd (some refl)
delivered call element v u w word (suc mask) known a d low some = let ev : Event = events.Deliver call element in
    let pending : filter (thread_at (state_after d.before.object).elements element).pending (range_with_len 0 16) ≡ signals_in (suc mask) =
    ap (λ (z : Elements). filter (thread_at z element).pending (range_with_len 0 16)) (sym (elements_of d.before.object))
    ∙ filter_range (thread_at (elements_after d.before.object) element).pending (is_in (suc mask)) 0 16 (λ k below. pending_are (thread_at (elements_after d.before.object) element) word (suc mask) (did_shows d known) low k below) in
    let lists : View → List ℕ → View = λ z l. quiet (record z { own = record z.own { made = z.own.made ++ record { event = ev; number = 0; signals = l } ∷ [] } }) in (
      word,
      u.seen,
      d.before,
      sym low,
      then_acts v u w (λ z. with_delivery z ev (suc mask)) (load (state_word element) word u.seen ∷ []) (change (state_word element) word d.before ev ∷ []) a.acts
          (subst (λ (l : List ℕ). PerformsEvents u (change (state_word element) word d.before ev ∷ []) (lists u l) w) pending d.step.acts) refl,
    )

-- the number of steps done was found: those that were counted
count_found : (element found : ℕ) (v w : View) → element < ELEMENTS → valid.ReadPc element v found w → found ≡ steps_in element w.seen.object
count_found element found v w known r = r.is ∙ (r.sees.shows.steps element known ∙ counted_done w.seen.object r.sees.allowed element)

pub read_pc : (element found : ℕ) (v w : View) → element < ELEMENTS → valid.ReadPc element v found w → ReadPc element v found w
read_pc element found v w known r = (w.seen, count_found element found v w known r, r.acts)

-- one more step was counted
pub counted_step : (call element : ℕ) (v u w : View) (count found : ℕ) → element < ELEMENTS → valid.ReadPc element v count u → HandDid call u (done_word element) found (events.Done call element) w → DoneAnswer call v element (Ok (count + 1)) w
counted_step call element v u w count found known r d = let ev : Event = events.Done call element in let look = r.acts in
    let done : (thread_at (elements_after d.before.object) element).done ≡ count = (d.hand.counted (count_of element count) (ap (λ (z : View). z.own.counted) look.has)).done in
    let found_is : found ≡ count = d.step.is ∙ (d.step.sees.shows.steps element known ∙ done) in
    let number : (thread_at (state_after d.before.object).elements element).done ≡ count = ap (λ (z : Elements). (thread_at z element).done) (sym (elements_of d.before.object)) ∙ done in
    let acts : PerformsEvents u (change (done_word element) count d.before ev ∷ []) (with_step u ev count) w = transport (λ i. PerformsEvents u (change (done_word element) (found_is i) d.before ev ∷ []) (with_step u ev (number i)) w) d.step.acts in (
      count,
      u.seen,
      d.before,
      refl,
      count_found element count v u known r,
      sym done ∙ counted_done d.before.object d.step.sees.allowed element,
      acts_on v u w (having_found v (count_of element count)) (with_step u ev count) (with_step v ev count) (load (done_word element) count u.seen ∷ []) (change (done_word element) count d.before ev ∷ []) (ap (λ (z : View). z.member.share) look.has) look acts
          (acts.has ∙ ap (λ (z : View). seen_as (with_step z ev count) w) look.has)
          (λ x low before after. may_as v u (ap (λ (z : View). z.own.held) look.has) (ap (λ (z : View). z.own.serves) look.has) (ap (λ (z : View). z.own.on) look.has) x before),
    )

-- the word of a processor showed what the hand that serves it had there
processor_found : {call p found : ℕ} {event : Event} {v w : View} (d : HandDid call v (processor_word p) found event w) (on : Option ℕ) → p < PROCESSORS → serves v p ≡ true → running v p ≡ on → found ≡ processor_shown (option_map (hold call) on)
processor_found {call} {p} {found} {event} {v} d on low serving is = let e : Elements = elements_after d.before.object in
    d.step.is ∙ (d.step.sees.shows.on p low ∙ ap processor_shown (get_or_from_slice_get e.processors p (option_map (hold call) on) None (d.hand.on p serving ∙ ap (λ (o : Option ℕ). Some (option_map (hold call) o)) is)))

-- an element is put on a processor
pub puts_on : (call p element found : ℕ) (v w : View) → element < ELEMENTS → p < PROCESSORS → serves v p ≡ true → running v p ≡ None → HandDid call v (processor_word p) found (events.On call p element) w → PutsOn call p element v w
puts_on call p element found v w known few mine empty d = let ev : Event = events.On call p element in
    let acts = subst (λ (n : ℕ). PerformsEvents v (change (processor_word p) n d.before ev ∷ []) (with_event (with_on v p element) ev) w) (processor_found d None few mine empty) d.step.acts in (
      d.before,
      ap (λ (z : View). running z p) acts.has ∙ get_or-set_same v.own.on p (Some element) None (omega (arith, few, d.hand.on_long)),
      (λ e. ap (λ (z : View). has z e) acts.has ∙ held_less v.own.held element e (omega (arith, known, d.hand.held_long))),
      acts,
    )

-- an element is taken off a processor
pub takes_off : (call p element found : ℕ) (v w : View) → element < ELEMENTS → p < PROCESSORS → serves v p ≡ true → running v p ≡ Some element → HandDid call v (processor_word p) found (events.Off call p) w → TakesOff call p element v w
takes_off call p element found v w known few mine stood d = let ev : Event = events.Off call p in let word = processor_found d (Some element) few mine stood in
    let off : View → Option ℕ → View = λ z o. with_event (having z (record z.own { held = with_taken_off o z.own.held; on = set z.own.on p None })) ev in
    let acts : PerformsEvents v (change (processor_word p) (element + 1) d.before ev ∷ []) (with_event (with_off v p element) ev) w = transport (λ i. PerformsEvents v (change (processor_word p) (word i) d.before ev ∷ []) (off v (stood i)) w) d.step.acts in (
      d.before,
      ap (λ (z : View). running z p) acts.has ∙ get_or-set_same v.own.on p None None (omega (arith, few, d.hand.on_long)),
      (
        sym (d.hand.held element) ∙ placed_unheld call element p (elements_after d.before.object) d.step.sees.lawful (omega (arith, known, d.step.sees.shows.threads)) (omega (arith, few, d.step.sees.shows.processors))
            (d.hand.on p mine ∙ ap (λ (x : Option ℕ). Some (option_map (hold call) x)) stood),
        λ e. ap (λ (z : View). has z e) acts.has ∙ held_more v.own.held element e (omega (arith, known, d.hand.held_long)),
      ),
      acts,
    )
