-- A chain: a queue of notes with a gate, at most one runner, and the calls that owe a notify. The notes are the
-- procedures that procedure chaining defers (Massalin and Pu, 1991).
use Rattle.std.specs.Prelude.{ℕ, ◌==◌, nat_lt, Bool, true, false, not, ◌&&◌, ◌||◌, if◌then◌else◌, List, Option, Some}
use Rattle.std.specs.Prelude.{None, Result, Ok, option_map}
use Rattle.std.specs.List.{list_any, slice_get}
use Rattle.event_theory.specs.Runs.{Run}
use Rattle.event_theory.specs.Queues.{Queue, empty_queue, is_raised, left_pairs, claim, raise, take_first, renamed}
use Rattle.event_theory.specs.Queues.{join_queue}
use Rattle.event_theory.specs.Results.{◌>>=◌, refused_if}
use Rattle.event_theory.specs.declared.status.Gate.{Gate}
use Rattle.event_theory.specs.declared.status.Gate.TheVariants.{Idle, Running, More}
use Rattle.event_theory.specs.declared.refusal.Refusal.{Refusal}
use Rattle.event_theory.specs.declared.refusal.Refusal.TheVariants.{UnknownName, NotOwner, GateBusy, NotRunner}

pub record Chain : Type 0 where
  pub notes : Queue
  pub gate : Gate
  pub runner : Option ℕ
  pub owing : ℕ → Bool

abbrev pub empty_chain : Chain
empty_chain = record { notes = empty_queue 32; gate = Idle; runner = None; owing = λ call. false }

-- the set with this number in it if `is_in` holds, else without the number
abbrev pub with_number : Bool → ℕ → (ℕ → Bool) → ℕ → Bool
with_number is_in number set = λ n. if n == number then is_in else set n

-- the call is the runner
abbrev pub is_call : ℕ → Option ℕ → Bool
is_call call None = false
is_call call (Some runner) = runner == call

-- the call of the run owes a notify
abbrev pub owes : Chain → Option Run → Bool
owes c None = false
owes c (Some run) = c.owing run.call

abbrev pub forgotten : Chain → Option (ℕ × ℕ) → Bool
forgotten c None = false
forgotten c (Some pair) = is_raised c.notes pair && not (owes c (slice_get c.notes.history pair.0))

-- the first note that is left is raised, and the call of its run owes no notify
abbrev pub is_forgotten : Chain → Bool
is_forgotten c = forgotten c (slice_get (left_pairs c.notes) 0)

-- a claim of a run of one note, a number of 16 bits
abbrev pub claim_note : ℕ → List ℕ → Chain → Result Chain Refusal
claim_note call items c =
    refused_if (list_any (nat_lt 65535) items) UnknownName
    (claim 1 call items c.notes >>= λ notes. Ok (record c { notes = notes }))

-- a raise in a chain, after which the call owes a notify
abbrev pub raise_note : ℕ → ℕ → ℕ → Chain → Result Chain Refusal
raise_note call run index c =
    raise call run index c.notes >>= λ notes. Ok (record c { notes = notes; owing = with_number true call c.owing })

-- the runner takes a note
abbrev pub take_note : ℕ → ℕ → Chain → Result Chain Refusal
take_note call count c =
    take_first 1 count c.notes
    >>= λ notes. refused_if (not (is_call call c.runner)) NotRunner (Ok (record c { notes = notes }))

-- the runner of the chain after a notify by the call
abbrev pub runner_after : ℕ → Gate → Option ℕ → Option ℕ
runner_after call Idle runner = Some call
runner_after call gate runner = runner

-- a call that owes a notify makes the gate More, becomes the runner if the gate was Idle, and owes nothing more
abbrev pub notify : ℕ → Chain → Result Chain Refusal
notify call c = refused_if (not (c.owing call)) NotOwner (Ok (record c {
  gate = More;
  runner = runner_after call c.gate c.runner;
  owing = with_number false call c.owing;
}))

-- the runner has seen all notifies, and the gate becomes Running
abbrev pub round : ℕ → Chain → Result Chain Refusal
round call c = refused_if (not (is_call call c.runner)) NotRunner (Ok (record c { gate = Running }))

abbrev pub is_more : Gate → Bool
is_more More = true
is_more gate = false

-- The runner leaves, and the gate becomes Idle. Refused if there is a notify that the runner hasn't seen, or if the
-- first note left is raised and the call of its run owes no notify
abbrev pub leave : ℕ → Chain → Result Chain Refusal
leave call c =
    refused_if (is_more c.gate || is_forgotten c) GateBusy
    (refused_if (not (is_call call c.runner)) NotRunner (Ok (record c { gate = Idle; runner = None })))

-- the set after the call `other` was joined to the first call
abbrev pub join_set : ℕ → ℕ → (ℕ → Bool) → ℕ → Bool
join_set call other set = λ n. not (n == other) && (set n || (n == call && set other))

abbrev pub join_chain : ℕ → ℕ → Chain → Chain
join_chain call other c = record {
  notes = join_queue call other c.notes;
  gate = c.gate;
  runner = option_map (renamed call other) c.runner;
  owing = join_set call other c.owing;
}
