-- The thread elements, the place of each of them, and their events.
use Rattle.std.specs.Prelude.{ℕ, ◌+◌, ◌==◌, nat_le, Bool, true, false, not, ◌&&◌, ◌||◌, if◌then◌else◌, List, []}
use Rattle.std.specs.Prelude.{◌∷◌, ◌++◌, length, map, take, remove, slice_set, position, Option, Some, None}
use Rattle.std.specs.Prelude.{option_map, Result, Ok, Err}
use Rattle.std.specs.List.{list_any, repeat}
use Rattle.std.specs.Option.{ok_or}
use Rattle.event_theory.specs.Queues.{Queue, empty_queue, full_queue, left, claim, raise, take_first, renamed}
use Rattle.event_theory.specs.Queues.{join_queue}
use Rattle.event_theory.specs.Chains.{with_number}
use Rattle.event_theory.specs.Results.{◌>>=◌, refused_if, at, change_at}
use Rattle.event_theory.specs.declared.hold.Hold.{Hold}
use Rattle.event_theory.specs.declared.refusal.Refusal.{Refusal}
use Rattle.event_theory.specs.declared.refusal.Refusal.TheVariants.{UnknownName, Full, NotOwner, NotHeld}
use Rattle.event_theory.specs.declared.refusal.Refusal.TheVariants.{ProcessorBusy, ProcessorEmpty, NotStopped}
use Rattle.event_theory.specs.Numbers.{u32_max}

-- an element's pending signals, its steps done, its stop bit, and whether the element is in its stop cell
pub record Thread : Type 0 where
  pub pending : ℕ → Bool
  pub done : ℕ
  pub stop : Bool
  pub parked : Bool

-- each element; the element queues: the ready ring, the free elements, then the wait queues; how many notifies each
-- wait queue had, modulo 2^32; who put which element on each processor; and which call holds which element
pub record Elements : Type 0 where
  pub threads : List Thread
  pub rings : List Queue
  pub notified : List ℕ
  pub processors : List (Option Hold)
  pub held : List Hold

abbrev pub new_thread : Thread
new_thread = record { pending = λ signal. false; done = 0; stop = false; parked = false }

-- so many elements, all of them free
abbrev pub first_elements : ℕ → Elements
first_elements count = record {
  threads = repeat count (new_thread ∷ []);
  rings = empty_queue count ∷ full_queue count ∷ repeat 16 (empty_queue count ∷ []);
  notified = repeat 16 (0 ∷ []);
  processors = repeat 8 (None ∷ []);
  held = [];
}

abbrev pub hold : ℕ → ℕ → Hold
hold call element = record { call = call; element = element }

abbrev pub is_hold : ℕ → ℕ → Hold → Bool
is_hold call element h = h.call == call && h.element == element

-- the call lets go of an element that it holds
abbrev pub let_go : ℕ → ℕ → List Hold → Result (List Hold) Refusal
let_go call element held = ok_or (position (is_hold call element) held) NotHeld >>= λ index. Ok (remove held index)

abbrev pub let_all_go : ℕ → List ℕ → List Hold → Result (List Hold) Refusal
let_all_go call [] held = Ok held
let_all_go call (element ∷ elements) held = let_go call element held >>= let_all_go call elements

-- a claim of a run of one element, which the call held and then holds no more
abbrev pub claim_element : ℕ → ℕ → List ℕ → Elements → Result Elements Refusal
claim_element ring call items s =
    refused_if (list_any (nat_le (length s.threads)) items) UnknownName
    (change_at ring (claim 1 call items) s.rings
    >>= λ rings. let_all_go call items s.held
    >>= λ held. Ok (record s { rings = rings; held = held }))

abbrev pub raise_element : ℕ → ℕ → ℕ → ℕ → Elements → Result Elements Refusal
raise_element ring call run index s =
    change_at ring (raise call run index) s.rings >>= λ rings. Ok (record s { rings = rings })

-- a taking, after which the call holds what it took
abbrev pub take_element : ℕ → ℕ → ℕ → Elements → Result Elements Refusal
take_element ring call count s =
    at ring s.rings
    >>= λ old. take_first 1 count old
    >>= λ new. Ok (record s {
      rings = slice_set s.rings ring new;
      held = s.held ++ map (hold call) (take count (left old));
    })

abbrev pub is_busy : Option Hold → Bool
is_busy None = false
is_busy (Some h) = true

abbrev pub put_on : ℕ → ℕ → ℕ → Elements → Result Elements Refusal
put_on call processor element s =
    at element s.threads
    >>= λ thread. at processor s.processors
    >>= λ seat. let_go call element s.held
    >>= λ held. refused_if (is_busy seat) ProcessorBusy
    (Ok (record s { processors = slice_set s.processors processor (Some (hold call element)); held = held }))

-- the hold of the element on a processor, if the call put the element there
abbrev pub put_by : ℕ → Option Hold → Result Hold Refusal
put_by call None = Err ProcessorEmpty
put_by call (Some h) = refused_if (not (h.call == call)) NotOwner (Ok h)

abbrev pub take_off : ℕ → ℕ → Elements → Result Elements Refusal
take_off call processor s =
    at processor s.processors
    >>= put_by call
    >>= λ h. Ok (record s { processors = slice_set s.processors processor None; held = s.held ++ h ∷ [] })

abbrev pub change_thread : ℕ → (Thread → Result Thread Refusal) → Elements → Result Elements Refusal
change_thread element change s = change_at element change s.threads >>= λ threads. Ok (record s { threads = threads })

abbrev pub stop : ℕ → Elements → Result Elements Refusal
stop element = change_thread element (λ thread. Ok (record thread { stop = true }))

abbrev pub park : ℕ → ℕ → Elements → Result Elements Refusal
park call element s =
    at element s.threads
    >>= λ thread. let_go call element s.held
    >>= λ held. refused_if (not thread.stop) NotStopped
    (Ok (record s { threads = slice_set s.threads element (record thread { parked = true }); held = held }))

-- the stop bit is cleared; an element that was in its stop cell is then held by the call
abbrev pub start : ℕ → ℕ → Elements → Result Elements Refusal
start call element s =
    at element s.threads
    >>= λ thread. refused_if (not thread.stop) NotStopped (Ok (record s {
      threads = slice_set s.threads element (record thread { stop = false; parked = false });
      held = s.held ++ (if thread.parked then hold call element ∷ [] else []);
    }))

abbrev pub signal : ℕ → ℕ → Elements → Result Elements Refusal
signal element number =
    change_thread element (λ thread. Ok (record thread { pending = with_number true number thread.pending }))

-- the call holds the element
abbrev pub holds : ℕ → ℕ → Elements → Bool
holds call element s = list_any (is_hold call element) s.held

abbrev pub deliver : ℕ → ℕ → Elements → Result Elements Refusal
deliver call element s = change_thread element
    (λ thread. refused_if (not (holds call element s)) NotHeld (Ok (record thread { pending = λ signal. false }))) s

-- the call put the element on the processor
abbrev pub is_put : ℕ → ℕ → Option Hold → Bool
is_put call element None = false
is_put call element (Some h) = is_hold call element h

-- one more step of an element that the call holds or put on a processor
abbrev pub done : ℕ → ℕ → Elements → Result Elements Refusal
done call element s = change_thread element (λ thread.
    refused_if (thread.done == u32_max) Full
    (refused_if (not (holds call element s || list_any (is_put call element) s.processors)) NotHeld
    (Ok (record thread { done = thread.done + 1 })))) s

abbrev pub join_hold : ℕ → ℕ → Hold → Hold
join_hold call other h = record h { call = renamed call other h.call }

abbrev pub join_elements : ℕ → ℕ → Elements → Elements
join_elements call other s = record s {
  rings = map (join_queue call other) s.rings;
  processors = map (option_map (join_hold call other)) s.processors;
  held = map (join_hold call other) s.held;
}
