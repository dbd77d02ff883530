-- Each step keeps the rule, and returns to its end what the step's definition says.
use Rattle.meters.proofs.Common.{◌≡◌, ℕ, ◌+◌, ◌-◌, ◌%◌, ◌<◌, ◌≤◌, [], ◌∷◌, ◌++◌, eqb, get_or, set, sym, refl, ◌∙◌, subst, arith, Option, Some, None, some, get_elem?, State, set_else, Alarm, change, IsValidView, Performed, rest_without, newborn_with, both, emptied, word_of, MeterOps, Reading, Shape, Becomes, first_reading, in_slot, ticked, advanced, was_set, fired, cancelled, with_tick, with_advance, with_alarm, with_fired, with_cancelled, SeatView, of_meters, nothing_did, did_both, ViewsShow, Fits, IsInRange, WordsShow, Rule, WasSet, WasFired}
use Rattle.table_theory.specs.Sharing.{IsPortion}
use mathlib.Core.Option.{none}
use prog.Atomic.{either}
use Rattle.atomic_table.specs.Table.{Me, step, keeps, Allows, Splits, Joins}
use Rattle.table_theory.specs.Plays.{HasTallied, finds, counts_up, counts_down, counts}
use Rattle.table_theory.proofs.Stepping.{leads, made_now, acted, upped, downed, valid_event, stands_event, valid_look, found_now, counted_up, valid_up, counted_down, valid_down, tallied_now, stands_split, stands_join}
use Rattle.table_theory.proofs.Tables.{IsTable, Goes}
use Rattle.table_theory.proofs.Totals.{one_of}
use Rattle.table_theory.proofs.Tables as tables
use Rattle.meters.specs.declared.rule.Tick.{Tick}
use Rattle.meters.specs.Rules.{IsSound}
use Rattle.meters.specs.Steps.{exchanges, WasTicked, ticks, advances, IsWordOf, sets, fires, WasCancelled, cancels}
use Rattle.meters.proofs.Clocks.{clock_leads}
use Rattle.meters.proofs.Codes.{same_alarm, no_word, one_word}
use Rattle.meters.proofs.Lawful.{stays_lawful}
use Rattle.meters.proofs.Showing.{shows_count, shows_tick, shows_clock, shows_slot}
use Rattle.meters.proofs.Listed.{Lists, listed_look, listed_event, listed_advance, listed_split, listed_join, tick_lists, one_more, is_part}

abbrev pub St : Type 0
St = State Unit SeatView

-- what the rule says, and what it says alike of every table
abbrev table : (key : Shape) → IsTable (Rule key) of_meters nothing_did (first_reading key.clock)
table key = record {
  now = λ s k. k.now;
  stands = λ s k. k.stands;
  kept = λ s k words id number v w at own seen stands. (record { now = record k.now { ends = number }; stands = stands; listed = listed_look key.clock k.now.object s.views id v w k.listed at own }, seen);
  wide = λ o words h. let wide = h.wide in omega arith;
  recounted = λ o words y h. shows_count o words y h;
}

module _ (key : Shape) (n id : ℕ) (me : Me Unit SeatView) where
  abbrev v : SeatView
  v = me.0

  pub ups : v.member.ends + 1 ≤ v.member.share → Allows (Rule key) n id me 0 (λ x. (x + 1) % 18446744073709551616) (counts_up IsSound (step n 0 1 0 none) me)
  ups parts = tables.ups (table key) n id me (counts_up IsSound (step n 0 1 0 none) me) parts (λ s k at _. (let some : 1 ≤ k.now.ends + 1 = omega arith in ((refl, (valid_up k.stands id v at, is_part key.clock k.now.object s.views id v (upped k.stands id v at) k.listed at refl refl, some)), counted_up k.stands id v at)))

  pub downs : 2 ≤ v.member.ends → Allows (Rule key) n id me 0 (λ x. (x + (18446744073709551616 - 1)) % 18446744073709551616) (counts_down IsSound (step n 0 1 0 none) me)
  downs two = tables.downs (table key) n id me (counts_down IsSound (step n 0 1 0 none) me) two
      (λ s k at _. (let own = one_of (λ (u : SeatView). u.member.ends) s.views id v at in let all = k.stands.true_ends.ends.counted.counted in let some : 1 ≤ k.now.ends - 1 = omega arith in
      ((refl, (valid_down k.stands id v at two, is_part key.clock k.now.object s.views id v (downed k.stands id v at) k.listed at refl refl, some)), counted_down k.stands id v at)))

  pub tallies : v.member.ends ≡ 1 → Allows (Rule key) n id me 0 (λ x. x) (counts (HasTallied (IsValidView of_meters) 0) (step n 0 0 0 none) me)
  tallies one = tables.looks (table key) n id me (counts (HasTallied (IsValidView of_meters) 0) (step n 0 0 0 none) me) 0 (omega arith) (λ s k at _. (refl, (valid_look k.stands id v at 0, tallied_now k.stands id v at one)))

  module _ (live : 1 ≤ v.member.ends) where
    pub looks : (i : ℕ) → Allows (Rule key) n id me i (λ x. x) (finds (IsValidView of_meters) (step n i 0 0 none) me)
    looks i = tables.looks (table key) n id me (finds (IsValidView of_meters) (step n i 0 0 none) me) i live (λ s k at _. ((refl, valid_look k.stands id v at i), found_now k.stands id v at i))

    -- an event of the end, which found this number
    event_goes : (s : St) (k : Rule key s) (at : get_elem? s.views id ≡ some v) (i found y : ℕ) (own : MeterOps) (o : Reading) (P : Me Unit SeatView → Type 0) → 0 < i → found ≡ get_or s.words i 0 → Becomes k.now.object o → WordsShow o (set s.words i y)
        → ViewsShow key.clock o (set s.views id (acted k.stands id v at own i found o)) → (IsValidView of_meters (acted k.stands id v at own i found o) → Performed v (change i found k.now o ∷ []) own (acted k.stands id v at own i found o) → P (acted k.stands id v at own i found o, me.1))
        → Goes (table key) n id me s i y P
    event_goes s k at i found y own o P past is b shows listed p = let st = k.stands in (
      acted st id v at own i found o,
      keeps,
      tt,
      record { now = record k.now { object = o }; stands = stands_event st id v at own i found y o live (λ e. omega arith) is b (stays_lawful k.now.object o s.words st.shows st.lawful b) shows; listed = listed },
      p (valid_event st id v at own i found o is b) (made_now st id v at own i found (record k.now { object = o })),
    )

    pub ticks_gauge : (g amount : ℕ) → g < 8 → Allows (Rule key) n id me (1 + g) (λ x. (x + amount) % 18446744073709551616) (ticks (step n (1 + g) amount 0 none) me)
    ticks_gauge g amount below s k _ at _ = let m : Reading = k.now.object in let o : Reading = with_tick m g amount in let eight = k.stands.shows.eight in let found : ℕ = get_or s.words (1 + g) 0 in let t : Tick = record { gauge = g; amount = amount } in
        let own : MeterOps = record v.own { ticks = v.own.ticks ++ t ∷ [] } in let w : SeatView = acted k.stands id v at own (1 + g) found o in
        event_goes s k at (1 + g) found ((found + amount) % 18446744073709551616) own o (ticks (step n (1 + g) amount 0 none) me found) (omega arith) refl (ticked g amount below refl) (shows_tick m s.words g amount k.stands.shows below)
        (listed_event key.clock m o s.views id v w k.listed at (tick_lists m g amount v.own (omega arith)) refl refl) (λ honest made. ((refl, honest), λ gauge e. subst (λ (z : ℕ). WasTicked v z amount found w) (omega arith) (k.now, made)))

    pub advances_clock : (clock : ℕ) → clock < 4294967295 → Allows (Rule key) n id me 9 (λ x. either (eqb x clock) (clock + 1) x) (advances (step n 9 clock (clock + 1) none) me)
    advances_clock clock bounded = tables.exchanges (table key) n id me (advances (step n 9 clock (clock + 1) none) me) 9 clock (clock + 1) live
        (λ s k at hit. let m : Reading = k.now.object in let o : Reading = with_advance m in let own : MeterOps = record v.own { advances = v.own.advances ++ (clock + 1) ∷ [] } in let is = k.stands.shows.clock in let now : m.clock ≡ clock = omega arith in
        event_goes s k at 9 clock (clock + 1) own o (advances (step n 9 clock (clock + 1) none) me (get_or s.words 9 0)) (omega arith) (sym hit) (advanced (omega arith) refl) (shows_clock m s.words (clock + 1) k.stands.shows (omega arith) (omega arith))
        (listed_advance key.clock m o s.views id v (acted k.stands id v at own 9 clock o) k.listed at (record { gauges = λ g t b h. h; set = λ a t h. h; fired = λ a t h. h; cancelled = λ a t h. h }) refl (λ i. v.own.advances ++ (sym now i + 1) ∷ []))
        (λ honest made. ((refl, honest), (λ _. (k.now, made)), λ miss. absurd (miss hit))))
        (λ s k at miss _. ((refl, valid_look k.stands id v at 9), (λ hit. absurd (miss hit)), λ _. found_now k.stands id v at 9))

    -- an exchange of a slot's word, which has these bits or is to have them
    module _ (slot : ℕ) (alarm : Alarm) (bits : ℕ) (is_word : bits ≡ word_of (Some alarm)) (below : slot < 16) (range : IsInRange alarm) where
      -- what it says of its own slot and alarm it says of those that have the same word
      one_slot : (F : ℕ → Alarm → Type 0) → F slot alarm → (slot' : ℕ) (alarm' : Alarm) → IsWordOf slot' alarm' (10 + slot) bits → F slot' alarm'
      one_slot F f slot' alarm' e = let place = e.place in subst (λ (z : ℕ). F z alarm') (omega arith) (subst (λ z. F slot z) (same_alarm alarm alarm' range e.range (sym is_word ∙ e.bits_are)) f)

      slot_exchange : (Was : SeatView → ℕ → Alarm → SeatView → Type 0) (found old new : ℕ) (stand : Option Alarm) (own : MeterOps) (o : Reading → Reading) → found ≡ old → new ≡ word_of stand → Fits stand
          → ((m : Reading) → ((o m).gauges ≡ m.gauges) × ((o m).clock ≡ m.clock) × ((o m).slots ≡ set m.slots slot stand) × Lists m (o m) v.own own) → own.advances ≡ v.own.advances
          → ((s : St) (k : Rule key s) → get_elem? s.views id ≡ some v → found ≡ word_of (in_slot k.now.object slot) → Becomes k.now.object (o k.now.object))
          → ((s : St) (k : Rule key s) (w : SeatView) → Performed v (change (10 + slot) found k.now (o k.now.object) ∷ []) own w → Was v slot alarm w)
          → Allows (Rule key) n id me (10 + slot) (λ x. either (eqb x old) new x) (exchanges Was bits (step n (10 + slot) old new none) me)
      slot_exchange Was found old new stand own o is_found is_new fits still advances becomes reports = tables.exchanges (table key) n id me (exchanges Was bits (step n (10 + slot) old new none) me) (10 + slot) old new live
          (λ s k at hit. let m : Reading = k.now.object in let x = still m in let is : found ≡ get_or s.words (10 + slot) 0 = is_found ∙ sym hit in let w : SeatView = acted k.stands id v at own (10 + slot) found (o m) in
          event_goes s k at (10 + slot) found new own (o m) (exchanges Was bits (step n (10 + slot) old new none) me (get_or s.words (10 + slot) 0)) (omega arith) is
          (becomes s k at (is ∙ k.stands.shows.slots.each slot below))
          (subst (λ (z : ℕ). WordsShow (o m) (set s.words (10 + slot) z)) (sym is_new) (shows_slot m (o m) s.words slot stand k.stands.shows below fits x.0 x.1 x.2))
          (listed_event key.clock m (o m) s.views id v w k.listed at x.3 x.1 advances)
          (λ honest made. ((refl, honest), (λ _. one_slot (λ j a. Was v j a w) (reports s k w made)), λ miss. absurd (miss hit))))
          (λ s k at miss _. ((refl, valid_look k.stands id v at (10 + slot)), (λ hit. absurd (miss hit)), λ _. found_now k.stands id v at (10 + slot)))

      pub sets_slot : Allows (Rule key) n id me (10 + slot) (λ x. either (eqb x 0) bits x) (sets (step n (10 + slot) 0 bits none) me)
      sets_slot = slot_exchange WasSet 0 0 bits (Some alarm) (record v.own { set = v.own.set ++ alarm ∷ [] }) (λ m. with_alarm m slot alarm) refl is_word range
          (λ m. (refl, refl, refl, record { gauges = λ g t b h. h; set = λ a t h. one_more a alarm m.set v.own.set t h; fired = λ a t h. h; cancelled = λ a t h. h })) refl
          (λ s k at none. was_set slot alarm below (no_word (in_slot k.now.object slot) (sym none)) refl) (λ s k w made. (k.now, made))

      abbrev stood : (s : St) (k : Rule key s) → word_of (Some alarm) ≡ word_of (in_slot k.now.object slot) → in_slot k.now.object slot ≡ Some alarm
      stood s k is = one_word (in_slot k.now.object slot) alarm (k.stands.shows.slots.fit slot below) range (sym is)

      pub fires_slot : alarm.due ≤ v.seen.object.clock → Allows (Rule key) n id me (10 + slot) (λ x. either (eqb x bits) 0 x) (fires (step n (10 + slot) bits 0 none) me)
      fires_slot due = slot_exchange WasFired (word_of (Some alarm)) bits 0 None (record v.own { fired = v.own.fired ++ alarm ∷ [] }) (λ m. with_fired m slot alarm) (sym is_word) refl tt
          (λ m. (refl, refl, refl, record { gauges = λ g t b h. h; set = λ a t h. h; fired = λ a t h. one_more a alarm m.fired v.own.fired t h; cancelled = λ a t h. h })) refl
          (λ s k at is. let up = clock_leads v.seen k.now (leads k.stands id v at) in fired slot alarm below (stood s k is) (omega arith) refl) (λ s k w made. (k.now, made))

      pub cancels_slot : Allows (Rule key) n id me (10 + slot) (λ x. either (eqb x bits) 0 x) (cancels (step n (10 + slot) bits 0 none) me)
      cancels_slot = slot_exchange WasCancelled (word_of (Some alarm)) bits 0 None (record v.own { cancelled = v.own.cancelled ++ alarm ∷ [] }) (λ m. with_cancelled m slot alarm) (sym is_word) refl tt
          (λ m. (refl, refl, refl, record { gauges = λ g t b h. h; set = λ a t h. h; fired = λ a t h. h; cancelled = λ a t h. one_more a alarm m.cancelled v.own.cancelled t h })) refl
          (λ s k at is. cancelled slot alarm below (stood s k is) refl) (λ s k w made. (k.now, made))

pub splits : (key : Shape) (id : ℕ) (v : SeatView) (parts : ℕ) → (2 ≤ v.member.share → IsPortion parts v.member.share) → v.member.ends ≡ 2 → Splits (Rule key) id v (rest_without parts v) (newborn_with parts nothing_did v)
splits key id v parts fits two s k at = record { now = k.now; stands = stands_split k.stands id v at parts fits two; listed = listed_split key.clock k.now.object s.views id v parts k.listed at }

pub joins : (key : Shape) (id other : ℕ) (v w : SeatView) → 1 ≤ v.member.ends → Joins (Rule key) id v other w (both did_both v w) (emptied nothing_did v)
joins key id other v w live s k at ne has = let at' : get_elem? s.views other ≡ some w = sym (set_else s.views id other (both did_both v w) ne) ∙ has in
    record { now = k.now; stands = stands_join k.stands id v at did_both other w at' ne live; listed = listed_join key.clock k.now.object s.views id other v w k.listed at at' ne }
