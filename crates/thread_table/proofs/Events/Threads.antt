-- What a stop, a signal, a delivery, a step done, a park and a start do: each changes one thread and one word.
use Rattle.thread_table.proofs.Common.{Event, WordsShow, ◌^◌, None, ◌≡◌, ◌≢◌, ℕ, ◌+◌, ◌<◌, ◌∙◌, ◌⊎◌, inl, inr, Bool, true, false, cond, List, [], ◌∷◌, ◌++◌, length, set, get_or, remove, refl, sym, ap, subst, arith, append-nil, Some, slice_get, or_lt, slice_get-get_or, bit_or, bit_and, list_any, position_or_len, with_number, Elements, Thread, hold, is_hold, new_thread, deliver, done, Hold, ELEMENTS, View, thread_at, state_word, done_word, StateShows, HandIs, IsCounted, count_of, quiet, bit_at, has, bit_of}
use Rattle.thread_table.specs.Steps.{IsTurn}
use Rattle.std.proofs.lemmas.List.{length-set, get_or-set_same, get_or-set_other}
use Rattle.std.proofs.lemmas.Nat.{and_le_r}
use Rattle.event_theory.specs.Elements.{stop, signal, park, start}
use Rattle.event_theory.proofs.Outcomes.{changed, delivered_ok, done_ok, parked_ok, started_ok}
use Rattle.thread_table.proofs.Events.Changes.{hand_holds, thread_effect, state_effect}
use Rattle.thread_table.proofs.Events.Effects.{May, Anything, becomes}
use Rattle.event_theory.specs.declared.event.Event.TheVariants as events
use Rattle.thread_table.proofs.Hands.HeldLists.{held_set, held_once}
use Rattle.thread_table.proofs.Hands.Releases.{releases, handed, handed_else}
use Rattle.thread_table.proofs.Shown.Bits.{set_bit_same, set_bit_other, low_bit, high_bit}
use Rattle.thread_table.proofs.Shown.Outside.{with_parts}
use Rattle.thread_table.proofs.Shown.QueueWords.{none_some}
use Rattle.thread_table.proofs.Shown.StateBits.{stop_shows, signal_shows, deliver_shows}

-- there is such an element
found : (e : Elements) (element : ℕ) → length e.threads ≡ 64 → element < ELEMENTS → slice_get e.threads element ≡ Some (thread_at e element)
found e element many known = slice_get-get_or e.threads element new_thread (subst (λ n. element < n) (sym many) known)

abbrev parked : Thread → Thread
parked thread = record thread { parked = true }

abbrev started : Thread → Thread
started thread = record thread { stop = false; parked = false }

parked_shows : (thread : Thread) (word : ℕ) → StateShows thread word → StateShows (parked thread) (bit_or word 131072)
parked_shows thread word shows = record {
  bounded = or_lt 18 word 131072 shows.bounded (omega arith);
  pending = λ signal below. set_bit_other word 17 signal (λ h. omega arith) ∙ shows.pending signal below;
  stop = set_bit_other word 17 16 (λ h. omega arith) ∙ shows.stop;
  parked = set_bit_same word 17;
}

started_shows : (thread : Thread) (word : ℕ) → StateShows thread word → StateShows (started thread) (bit_and word 65535)
started_shows thread word shows = record {
  bounded = omega (arith, and_le_r word 65535);
  pending = λ signal below. low_bit word 16 signal below ∙ shows.pending signal below;
  stop = high_bit word 16 16 (omega arith);
  parked = high_bit word 16 17 (omega arith);
}

-- who holds what after a start, and what the hand's view says of it
abbrev held_after : ℕ → ℕ → Bool → List Hold → List Hold
held_after id element was_parked held = held ++ cond was_parked (hold id element ∷ []) []

abbrev has_after : ℕ → Bool → List Bool → List Bool
has_after element was_parked held = cond was_parked (set held element true) held

started_others : (id element c x : ℕ) (was_parked : Bool) (held : List Hold) → (c ≢ id) ⊎ (x ≢ element)
    → list_any (is_hold c x) (held_after id element was_parked held) ≡ list_any (is_hold c x) held
started_others id element c x true held other = handed_else id element c x held other
started_others id element c x false held other = ap (list_any (is_hold c x)) (append-nil held)

started_held : (id : ℕ) (v : View) (e : Elements) (element : ℕ) (was_parked : Bool) → HandIs id v e → element < ELEMENTS
    → (x : ℕ) → list_any (is_hold id x) (held_after id element was_parked e.held) ≡ get_or (has_after element was_parked v.own.held) x false
started_held id v e element true hand low x =
    held_set id v e (with_parts e e.threads e.processors (e.held ++ hold id element ∷ [])) element true hand low (handed id element e.held)
    (λ y apart. handed_else id element id y e.held (inr apart)) x
started_held id v e element false hand low x = ap (list_any (is_hold id x)) (append-nil e.held) ∙ hand.held x

has_after_long : (element : ℕ) (was_parked : Bool) (held : List Bool) → length (has_after element was_parked held) ≡ length held
has_after_long element true held = length-set held element true
has_after_long element false held = refl

bit_set : (b : Bool) → bit_of b ≡ 1 → b ≡ true
bit_set true is = refl
bit_set false is = absurd (omega arith)

-- where the stop bit of the word is set the element is stopping
stopping : (first : ℕ) (e : Elements) (words : List ℕ) (element old : ℕ) → element < ELEMENTS → WordsShow first e words → get_or words (state_word element) 0 ≡ old → bit_at old 16 ≡ 1 → (thread_at e element).stop ≡ true
stopping first e words element old known shows hit is = bit_set _ (sym (shows.states element known).stop ∙ (ap (λ (z : ℕ). bit_at z 16) hit ∙ is))

module _ (id : ℕ) (v : View) (free : v.own.claimed ≡ None) where
  -- the stop bit of an element is set, or a signal becomes pending
  pub may_stop : (element : ℕ) → element < ELEMENTS → May id v (events.Stop id element) (state_word element) Anything (λ x. bit_or x 65536)
  may_stop element known = record {
    change = stop element;
    is = λ t. refl;
    plain = refl;
    inside = omega arith;
    goes = λ first same e words ready any. let old : Thread = thread_at e element in
        state_effect id v first (stop element) e words element _ (record old { stop = true }) e.held v.own.held ready free known
        (changed element _ e old _ (found e element ready.shows.threads known) refl) refl
        (stop_shows old (get_or words (state_word element) 0) (ready.shows.states element known)) (λ call x other. refl) refl ready.hand.held;
  }

  pub may_signal : (element number bit : ℕ) → element < ELEMENTS → number < 16 → bit ≡ 2 ^ number → May id v (events.Signal id element number) (state_word element) Anything (λ x. bit_or x bit)
  may_signal element number bit known below is = record {
    change = signal element number;
    is = λ t. refl;
    plain = refl;
    inside = omega arith;
    goes = λ first same e words ready any. let old : Thread = thread_at e element in
        becomes words _ (ap (bit_or (get_or words (state_word element) 0)) (sym is)) (state_effect id v first (signal element number) e words element _ (record old { pending = with_number true number old.pending }) e.held v.own.held ready free known
        (changed element _ e old _ (found e element ready.shows.threads known) refl) refl
        (signal_shows old (get_or words (state_word element) 0) number below (ready.shows.states element known)) (λ call x other. refl) refl ready.hand.held);
  }

  -- the signals of an element that the hand holds are delivered
  may_deliver : (element old new : ℕ) → element < ELEMENTS → has v element ≡ true → new ≡ bit_and old 196608 → May id v (events.Deliver id element) (state_word element) (λ x. x ≡ old) (λ x. new)
  may_deliver element old new known held is = record {
    change = deliver id element;
    is = λ t. refl;
    plain = refl;
    inside = omega arith;
    goes = λ first same e words ready hit. let was : Thread = thread_at e element in
        becomes words _ (ap (λ (z : ℕ). bit_and z 196608) hit ∙ sym is) (state_effect id v first (deliver id element) e words element _ (record was { pending = λ signal. false }) e.held v.own.held ready free known
        (delivered_ok id element e was (found e element ready.shows.threads known) (ready.hand.held element ∙ held)) refl
        (deliver_shows was (get_or words (state_word element) 0) (ready.shows.states element known)) (λ call x other. refl) refl ready.hand.held);
  }

  -- a stopping element is put into its stop cell, or starts
  may_park : (element old new : ℕ) → element < ELEMENTS → has v element ≡ true → bit_at old 16 ≡ 1 → new ≡ bit_or old 131072 → May id v (events.Park id element) (state_word element) (λ x. x ≡ old) (λ x. new)
  may_park element old new known held stops is = record {
    change = park id element;
    is = λ t. refl;
    plain = refl;
    inside = omega arith;
    goes = λ first same e words ready hit. let was : Thread = thread_at e element in let index : ℕ = position_or_len (is_hold id element) e.held in
        let g = releases id element e.held (ready.hand.held element ∙ held) (held_once id element e ready.lawful (omega (arith, known, ready.shows.threads)) (ready.hand.held element ∙ held)) in
        becomes words _ (ap (λ (z : ℕ). bit_or z 131072) hit ∙ sym is) (state_effect id v first (park id element) e words element _ (parked was) (remove e.held index) (set v.own.held element false) ready free known
        (parked_ok id element index e was (found e element ready.shows.threads known) g.at (stopping first e words element old known ready.shows hit stops)) refl (parked_shows was (get_or words (state_word element) 0) (ready.shows.states element known))
        (λ c x other. g.others c x (inl other)) (length-set v.own.held element false)
        (held_set id v e (with_parts e e.threads e.processors (remove e.held index)) element false ready.hand known g.own (λ x apart. g.others id x (inr apart))));
  }

  may_start : (element old new : ℕ) → element < ELEMENTS → bit_at old 16 ≡ 1 → new ≡ bit_and old 65535 → May id v (events.Start id element) (state_word element) (λ x. x ≡ old) (λ x. new)
  may_start element old new known stops is = record {
    change = start id element;
    is = λ t. refl;
    plain = refl;
    inside = omega arith;
    goes = λ first same e words ready hit. let was : Thread = thread_at e element in
        becomes words _ (ap (λ (z : ℕ). bit_and z 65535) hit ∙ sym is) (state_effect id v first (start id element) e words element _ (started was) (held_after id element was.parked e.held) (has_after element was.parked v.own.held) ready free known
        (started_ok id element e was (found e element ready.shows.threads known) (stopping first e words element old known ready.shows hit stops)) refl (started_shows was (get_or words (state_word element) 0) (ready.shows.states element known))
        (λ c x other. started_others id element c x was.parked e.held (inl other)) (has_after_long element was.parked v.own.held) (started_held id v e element was.parked ready.hand known));
  }

  -- so an exchange of its state word is one of these events
  pub may_turn : (event : Event) (element old new : ℕ) → element < ELEMENTS → IsTurn event id element v old new → (turn : Event) × (event ≡ turn) × May id v turn (state_word element) (λ x. x ≡ old) (λ x. new)
  may_turn event element old new known (inl t) = (events.Park id element, t.0, may_park element old new known t.1 t.2 t.3)
  may_turn event element old new known (inr (inl t)) = (events.Start id element, t.0, may_start element old new known t.1 t.2)
  may_turn event element old new known (inr (inr t)) = (events.Deliver id element, t.0, may_deliver element old new known t.1 t.2)

  -- one step more of the element whose number of steps the hand had found
  pub may_count : (element count : ℕ) → v.own.counted ≡ Some (count_of element count) → count < 4294967295 → May id v (events.Done id element) (done_word element) Anything (λ x. count + 1)
  may_count element count counted room = record {
    change = done id element;
    is = λ t. refl;
    plain = refl;
    inside = omega arith;
    goes = λ first same e words ready any. let is : IsCounted id (count_of element count) e = ready.hand.counted (count_of element count) counted in
        let old : Thread = thread_at e element in let new : Thread = record old { done = old.done + 1 } in
        let state = ready.shows.states element is.known in let wide = ready.shows.wide in let low = is.known in
        thread_effect id v (quiet v) first (done id element) e words element new e.held (done_word element) (count + 1) ready free is.known
        (done_ok id element e old (found e element ready.shows.threads is.known) (subst (λ n. n < 4294967295) (sym is.done) room) is.may)
        (hand_holds id v e (with_parts e (set e.threads element new) e.processors e.held) v.own.held v.own.claimed ready.hand refl refl ready.hand.held (λ c at. none_some c v.own.claimed free at))
        (λ call x other. refl) (λ may_not. let wrong : true ≡ false = sym is.may ∙ may_not in absurd (cc)) (inr refl)
        (subst (StateShows new) (sym (get_or-set_other words (done_word element) (state_word element) (count + 1) 0 (λ same. omega arith))) (record { bounded = state.bounded; pending = state.pending; stop = state.stop; parked = state.parked }))
        (get_or-set_same words (done_word element) (count + 1) 0 (omega arith) ∙ ap (λ n. n + 1) (sym is.done)) (omega (arith, is.done, room));
  }
