-- Takings and moves of elements: their events in the hand's own list; the number of takings of free elements that the
-- hand has seen; and the number of elements that it holds.
use Rattle.boot_threads.proofs.Common.{◌≡◌, ℕ, zero, suc, ◌+◌, ◌<◌, ◌≤◌, Bool, true, false, List, [], ◌∷◌, ◌++◌, length, get_or, Ok, refl, ap, arith, ◌≢◌, ◌-◌, sym, subst, ◌∙◌, true≢false, eq-eqb, or_left, or_right, le_prop, ∥∥₁_elim, filter, if◌then◌else◌, Result, Err, Event, MoveAnswer, claim_event, free_taken, ring_of, move_by, moves_in, claims, own_takings, many_held, Moved, TookFree, PutInto, HoldsFrom, range_with_len, eqb_tells, append_assoc, append-nil, map-append, flat_map-append, MadeEvent, has, HoldsSame, set, ⊎_elim, ◌==◌, View, TakeAnswer, raise_event, head_in, take_event, Step, PerformsEvents, HoldsLess, Prepared, length-append, length-set}
use Rattle.event_theory.specs.Elements.{Elements}
use Rattle.event_theory.specs.Queues.{Queue, empty_queue}
use Rattle.event_theory.specs.States.{step}
use Rattle.table_theory.specs.Ends.{Begins}
use Rattle.thread_table.specs.Retiring.{taking_by, free_takings}
use Rattle.thread_table.specs.Schedules.{Past, state_after, elements_after, ring_at}
use Rattle.thread_table.specs.Telling.{IsValidHandView}
use Rattle.thread_table.proofs.Closing.Retiring.{step_takes}
use Rattle.thread_table.proofs.Events.Saying.{change_says}
use Rattle.thread_table.proofs.Schedule.Orders.{adds_real, adds_in_order, valid_grows}
use Rattle.thread_table.proofs.Schedule.Schedules.{elements_of}
use Rattle.thread_table.specs.declared.takings.NextRefusal.{NextRefusal}
use Rattle.thread_table.specs.declared.takings.NextRefusal.TheVariants as nexts
use Rattle.thread_table.specs.declared.moves.MoveRefusal.{MoveRefusal}
use Rattle.thread_table.specs.declared.moves.MoveRefusal.TheVariants as moves
use Rattle.thread_table.specs.Keeping.{Keeps, Stays}
use Rattle.thread_table.specs.Makers.{made_in}
use Rattle.thread_table.proofs.Hands.Unchanged.{take_stays, move_stays, take_keeps, move_keeps}
use Rattle.turn_dispatch.proofs.Calm.{keeps_on}
use Rattle.boot_threads.specs.declared.elements.Ring.{Ring}
use Rattle.boot_threads.specs.declared.elements.Ring.TheVariants as rings

-- MARKS

abbrev pub marked : List Bool → ℕ
marked marks = length (filter (λ (held : Bool). held) marks)

-- setting a mark that was not set adds one mark
pub mark_new : (marks : List Bool) (i : ℕ) → get_or marks i false ≡ false → get_or (set marks i true) i false ≡ true → marked (set marks i true) ≡ marked marks + 1
mark_new [] i none now = absurd (cc)
mark_new (true ∷ marks) zero none now = absurd (cc)
mark_new (false ∷ marks) zero none now = omega arith
mark_new (true ∷ marks) (suc i) none now = let m = mark_new marks i none now in omega arith
mark_new (false ∷ marks) (suc i) none now = mark_new marks i none now

-- clearing a mark that was set takes one mark away
pub mark_less : (marks : List Bool) (i : ℕ) → get_or marks i false ≡ true → marked (set marks i false) + 1 ≡ marked marks
mark_less [] i up = absurd (cc)
mark_less (true ∷ marks) zero up = omega arith
mark_less (false ∷ marks) zero up = absurd (cc)
mark_less (true ∷ marks) (suc i) up = let m = mark_less marks i up in omega arith
mark_less (false ∷ marks) (suc i) up = mark_less marks i up

-- if no place is marked, there is no mark
pub none_marked : (marks : List Bool) (n : ℕ) → length marks ≤ n → ((i : ℕ) → i < n → get_or marks i false ≡ false) → marked marks ≡ 0
none_marked [] n few h = refl
none_marked (b ∷ marks) zero few h = absurd (omega arith)
none_marked (true ∷ marks) (suc n) few h = absurd (true≢false (h 0 (omega arith)))
none_marked (false ∷ marks) (suc n) few h = none_marked marks n (omega arith) (λ i low. h (suc i) (omega arith))

-- STEPS

abbrev free_line : List Queue → Queue
free_line lines = get_or lines 1 (empty_queue 64)

-- the takings of free elements among these events
abbrev taken_after : List Event → ℕ
taken_after events = (ring_at (elements_after events) 1).taken

-- an event more
one_after : (past : List Event) (event : Event) → step event (state_after past) ≡ Ok (state_after (past ++ event ∷ [])) → taken_after (past ++ event ∷ []) ≡ taken_after past + length (taking_by event)
one_after past event ok =
    let all : List Event = past ++ event ∷ [] in
    let before : taken_after past ≡ (free_line (state_after past).elements.rings).taken = ap (λ (z : Elements). (ring_at z 1).taken) (elements_of past) in
    let after : taken_after all ≡ (free_line (state_after all).elements.rings).taken = ap (λ (z : Elements). (ring_at z 1).taken) (elements_of all) in
    let more = step_takes event (state_after past) (state_after all) ok in
    omega arith

-- what a hand sees of the takings never falls
pub free_later : (v w : View) → ∥ IsValidHandView w ∥₁ → Begins v.seen.object w.seen.object → free_taken v ≤ free_taken w
free_later v w reported later = ∥∥₁_elim reported le_prop (λ (h : IsValidHandView w). (valid_grows w h v.seen.object later 1).further)

took_one : (call element : ℕ) (v w : View) → IsValidHandView v → IsValidHandView w → TakeAnswer call v 1 (Ok element) w → free_taken v + 1 ≤ free_taken w
took_one call element v w hv hw t =
    let event : Event = take_event call 1 in
    let past : List Event = t.4.object in
    let all = adds_real v w _ hw t.8.adds in
    let order = adds_in_order v w _ hv hw t.8.adds in
    let first = (order.1 1).further in
    let second = (order.2.1 1).further in
    let third = (order.2.2.1 1).further in
    let more = one_after past event (change_says w.own.first _ _ t.4 event all.1.1.0).1 in
    let now : free_taken w ≡ taken_after (past ++ event ∷ []) = ap (λ (z : Past). taken_after z.object) t.8.seen in
    omega arith

-- a taking of a free element
pub took_more : (call element : ℕ) (v w : View) → ∥ IsValidHandView v ∥₁ → ∥ IsValidHandView w ∥₁ → TakeAnswer call v 1 (Ok element) w → free_taken v + 1 ≤ free_taken w
took_more call element v w before following t = ∥∥₁_elim before le_prop (λ (hv : IsValidHandView v). ∥∥₁_elim following le_prop (λ (hw : IsValidHandView w). took_one call element v w hv hw t))

-- nothing was moved
none_moved : (v w : View) → Stays v w → free_taken v ≤ free_taken w → Moved [] v w
none_moved v w s later =
    let same : own_takings w ≡ own_takings v = ap (λ (z : List MadeEvent). length (free_takings z)) s.made in
    let still : many_held w ≡ many_held v = ap marked s.held in record {
      moves_are = ap moves_in s.made ∙ sym (append-nil (moves_in v.own.made));
      keeps = s.keeps;
      long = ap length s.held;
      took = 0;
      own = omega arith;
      all = omega arith;
      held = omega arith;
    }

pub moved_none : (v : View) → Moved [] v v
moved_none v = none_moved v v (record { keeps = record { first = refl; serves = refl; on = refl; share = refl }; held = refl; made = refl }) (omega arith)

-- first these moves, and then those
pub moved_on : (a b : List Event) (u v w : View) → Moved a u v → Moved b v w → Moved (a ++ b) u w
moved_on a b u v w m n = record {
  moves_are = n.moves_are ∙ ap (λ (z : List Event). z ++ b) m.moves_are ∙ append_assoc (moves_in u.own.made) a b;
  keeps = keeps_on u v w m.keeps n.keeps;
  long = n.long ∙ m.long;
  took = m.took + n.took;
  own = let x = m.own in let y = n.own in omega arith;
  all = let x = m.all in let y = n.all in omega arith;
  held = let x = m.held in let y = n.held in let l = length-append a b in omega arith;
}

-- these events more
acts_moved : (v w now : View) (entries : List Step) (l : List MadeEvent) (more : List Event) (took : ℕ) → PerformsEvents v entries now w → now.own.made ≡ v.own.made ++ l → Keeps v w → moves_in l ≡ more → length (free_takings l) ≡ took
    → length w.own.held ≡ length v.own.held → free_taken v + took ≤ free_taken w → many_held w + length more ≡ many_held v + took → Moved more v w
acts_moved v w now entries l more took a made keeps is taken long all held =
    let grew : w.own.made ≡ v.own.made ++ l = ap (λ (z : View). z.own.made) a.has ∙ made in record {
      moves_are = ap moves_in grew ∙ flat_map-append (λ (m : MadeEvent). move_by m.event) v.own.made l ∙ ap (λ (z : List Event). moves_in v.own.made ++ z) is;
      keeps = keeps;
      long = long;
      took = took;
      own =
          let more : own_takings w ≡ length (free_takings v.own.made ++ free_takings l) = ap (λ (z : List MadeEvent). length (free_takings z)) grew ∙ ap length (flat_map-append (λ (m : MadeEvent). taking_by m.event) v.own.made l) in
          let parts = length-append (free_takings v.own.made) (free_takings l) in omega arith;
      all = all;
      held = held;
    }

-- the hand made no event, and holds what it held
looked : (v w : View) → ∥ IsValidHandView w ∥₁ → Begins v.seen.object w.seen.object → Stays v w → Moved [] v w × HoldsSame v w
looked v w reported later s = (none_moved v w s (free_later v w reported later), λ e. ap (λ (z : List Bool). get_or z e false) s.held)

-- a refused move
pub move_refused : (call ring element : ℕ) (v w : View) (r : MoveRefusal) → ∥ IsValidHandView w ∥₁ → MoveAnswer call v ring element (Err r) w → Moved [] v w × HoldsSame v w
move_refused call ring element v w moves.Spent reported a = looked v w reported a.3.later (move_stays call ring element v w moves.Spent a)
move_refused call ring element v w (moves.Lost seen) reported a = looked v w reported a.1.4.later (move_stays call ring element v w (moves.Lost seen) a)
move_refused call ring element v w (moves.Moved mark) reported a = absurd a

take_refused : (call ring : ℕ) (v w : View) (r : NextRefusal) → ∥ IsValidHandView w ∥₁ → TakeAnswer call v ring (Err r) w → Moved [] v w × HoldsSame v w
take_refused call ring v w nexts.NoneReady reported a = looked v w reported a.6.later (take_stays call ring v w nexts.NoneReady a)
take_refused call ring v w (nexts.Lost seen) reported a = looked v w reported a.6.later (take_stays call ring v w (nexts.Lost seen) a)

-- a taking of a free element, or none
pub take_took : (call : ℕ) (v w : View) (r : Result ℕ NextRefusal) → ∥ IsValidHandView v ∥₁ → ∥ IsValidHandView w ∥₁ → TakeAnswer call v 1 r w → TookFree v w
take_took call v w (Err r) before following a = let s = take_refused call 1 v w r following a in (s.0, λ e h. s.1 e ∙ h)
take_took call v w (Ok element) before following t =
    let holds = t.7 in
    let held : w.own.held ≡ set v.own.held element true = ap (λ (z : View). z.own.held) t.8.has in
    let new : has w element ≡ true = holds.1 element ∙ or_right (has v element) (element == element) (eq-eqb element element refl) in
    let added = mark_new v.own.held element holds.0 (sym (ap (λ (z : List Bool). get_or z element false) held) ∙ new) in
    let many : many_held w ≡ marked (set v.own.held element true) = ap marked held in (
      acts_moved v w _ _ (record { event = take_event call 1; number = 0; signals = [] } ∷ []) [] 1 t.8 refl (take_keeps call 1 v w (Ok element) t) refl refl
          (ap length held ∙ length-set v.own.held element true) (took_more call element v w before following t) (omega arith),
      λ e h. holds.1 e ∙ or_left (has v e) (e == element) h,
    )

pub took_none : (v : View) → TookFree v v
took_none v = (moved_none v, λ e h. h)

pub took_on : (u v w : View) → TookFree u v → TookFree v w → TookFree u w
took_on u v w a b = (moved_on [] [] u v w a.0 b.0, λ e h. b.1 e (a.1 e h))

raised_quiet : (call : ℕ) (v : View) (ring : Ring) (position : ℕ) → move_by (raise_event call v (ring_of ring) position) ≡ []
raised_quiet call v rings.Ready position = refl
raised_quiet call v rings.Free position = refl

-- a move into a ring, after others that were lost
pub put_into : (call : ℕ) (ring : Ring) (element : ℕ) (u v w : View) → ∥ IsValidHandView w ∥₁ → has v element ≡ true → Moved [] u v → HoldsSame u v
    → MoveAnswer call v (ring_of ring) element (Ok tt) w → PutInto call (ring_of ring) element u w
put_into call ring element u v w reported here lost same m =
    let a = m.1.7 in
    let event : Event = claim_event call (ring_of ring) element in
    let held : w.own.held ≡ set v.own.held element false = ap (λ (z : View). z.own.held) a.has in
    let less = mark_less v.own.held element here in
    let many : many_held w ≡ marked (set v.own.held element false) = ap marked held in
    let later = free_later v w reported a.later in (
      moved_on [] (event ∷ []) u v w lost
          (acts_moved v w _ _ (made_in event (state_after m.1.2.object) ∷ record { event = raise_event call v (ring_of ring) (head_in m.0); number = 0; signals = [] } ∷ []) (event ∷ []) 0 a refl (move_keeps call (ring_of ring) element v w (Ok tt) m)
          (ap (λ (z : List Event). event ∷ (z ++ [])) (raised_quiet call v ring (head_in m.0))) refl (ap length held ∙ length-set v.own.held element false) (omega arith) (omega arith)),
      λ e. m.1.6 e ∙ ap (λ (z : Bool). if e == element then false else z) (same e),
    )

range_more : (a n : ℕ) → range_with_len a n ++ (a + n) ∷ [] ≡ range_with_len a (suc n)
range_more a zero = let e : a + 0 ≡ a = omega arith in ap (λ (z : ℕ). z ∷ []) e
range_more a (suc n) = let e : a + suc n ≡ a + 1 + n = omega arith in ap (λ (z : ℕ). a ∷ (range_with_len (a + 1) n ++ z ∷ [])) e ∙ ap (λ (z : List ℕ). a ∷ z) (range_more (a + 1) n)

-- one element more was put into the ring
pub put_more : (call ring from number : ℕ) (u v w : View) → from ≤ number → Moved (claims call ring (range_with_len from (number - from))) u v → Moved (claim_event call ring number ∷ []) v w
    → Moved (claims call ring (range_with_len from (number + 1 - from))) u w
put_more call ring from number u v w low m n =
    let before : List ℕ = range_with_len from (number - from) in
    let at : number ≡ from + (number - from) = omega arith in
    let more : suc (number - from) ≡ number + 1 - from = omega arith in
    let grown : before ++ number ∷ [] ≡ range_with_len from (number + 1 - from) = ap (λ (z : ℕ). before ++ z ∷ []) at ∙ range_more from (number - from) ∙ ap (range_with_len from) more in
    subst (λ (z : List Event). Moved z u w) (sym (map-append (claim_event call ring) before (number ∷ [])) ∙ ap (claims call ring) grown) (moved_on (claims call ring before) (claim_event call ring number ∷ []) u v w m n)

-- all before this number are held
abbrev pub HoldsBelow : ℕ → View → Type 0
HoldsBelow count v = (e : ℕ) → e < count → has v e ≡ true

pub holds_more : (number : ℕ) (v w : View) → HoldsBelow number v → TookFree v w → has w number ≡ true → HoldsBelow (number + 1) w
holds_more number v w h t new e low = ⊎_elim (λ is. subst (λ (z : ℕ). has w z ≡ true) (sym is.1) new) (λ not. t.1 e (h e (let ne = not.1 in omega arith))) (eqb_tells e number)

pub holds_all : (v : View) → HoldsBelow 64 v → HoldsFrom 0 v
holds_all v h = record { held = λ e from low. h e low; gone = λ e low. absurd (omega arith) }

one_less : (number : ℕ) (v w : View) (e : ℕ) → HoldsLess number v w → e ≢ number → has w e ≡ has v e
one_less number v w e l ne = l e ∙ ⊎_elim (λ is. absurd (ne is.1)) (λ not. ap (λ (z : Bool). if z then false else has v e) not.0) (eqb_tells e number)

pub holds_less : (number : ℕ) (v w : View) → HoldsFrom number v → HoldsLess number v w → HoldsFrom (number + 1) w
holds_less number v w h l = record {
  held = λ e from low. one_less number v w e l (λ is. omega arith) ∙ h.held e (omega arith) low;
  gone = λ e low. ⊎_elim (λ is. l e ∙ ap (λ (z : Bool). if z then false else has v e) is.0) (λ not. one_less number v w e l not.1 ∙ h.gone e (let ne = not.1 in omega arith)) (eqb_tells e number);
}

pub prepared : (call count : ℕ) (a b c d : View) → count ≤ 64 → TookFree a b → Moved (claims call 0 (range_with_len 0 (count - 0))) b c → Moved (claims call 1 (range_with_len count (64 - count))) c d → HoldsFrom 64 d → Prepared call count a d
prepared call count a b c d most t m n h = record {
  few = most;
  moved =
      let all : count - 0 ≡ count = omega arith in
      let ready : List Event = claims call 0 (range_with_len 0 count) in
      moved_on ready (claims call 1 (range_with_len count (64 - count))) a c d (moved_on [] ready a b c t.0 (subst (λ (z : ℕ). Moved (claims call 0 (range_with_len 0 z)) b c) all m)) n;
  none = h.gone;
}
