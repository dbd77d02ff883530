-- Each change of a chain is an event of the core for each history of what the step found.
use Rattle.proc_chain.proofs.Common.{◌≡◌, ◌≢◌, ℕ, zero, suc, ◌+◌, ◌<◌, ◌≤◌, Bool, true, false, ◌&&◌, List, [], Batch, is_idle, ◌∷◌, sym, ap, ◌∙◌, subst, refl, arith, Option, Some, None, length, inl, inr, ⊎_elim, ◌⊎◌, Positions, Owned, Chain, is_call, raised_below, stage_at, Lawful, with_write, Step, IsValidStep, GatedQueue, View, with_note, with_taken, with_gate, gate_of, AreShown, IsChainEvent, chain_of, Becomes, of_chains}
use Rattle.std.proofs.Common.{not, Ok, Err, Result, option_map}
use Rattle.std.proofs.lemmas.Option.{slice_get-map}
use Rattle.std.specs.List.{slice_get}
use Rattle.std.specs.Option.{is_some}
use Rattle.event_theory.specs.declared.refusal.Refusal.{Refusal}
use Rattle.event_theory.specs.declared.refusal.Refusal.TheVariants.{NotRunner}
use Rattle.event_theory.specs.Queues.{Queue, left_pairs, after_claim, after_take, claim, take_first}
use Rattle.event_theory.specs.Results.{◌>>=◌, refused_if}
use Rattle.event_theory.specs.Chains.{forgotten, is_forgotten, owes, with_number, runner_after, claim_note, raise_note, take_note, notify, round, leave, is_more}
use Rattle.event_theory.proofs.Keeping.Chains.{claim_note_law, raise_note_law, take_note_law, notify_law, round_law, leave_law}
use Rattle.table_theory.specs.QueueOf.{IsHistory, queue_of, run_in, published_in}
use Rattle.table_theory.proofs.Histories.{some_history, located, claim_of, raise_of}
use Rattle.table_theory.proofs.QueueOf.{left_long, is_lawful_queue}
use Rattle.table_theory.proofs.QueueEvents.{claim_goes, claimed_is, take_goes, first_raised}
use Rattle.table_theory.proofs.Saying.{real_change}
use Rattle.proc_chain.specs.Changes.{claimed, raised, took, notified, round as rounded, left}
use Rattle.proc_chain.specs.Happenings.{Kind, Does, IsEvent, event_by, claims, raises, takes, notifies, rounds, leaves}
use Rattle.proc_chain.specs.Histories.{History, chain_with, IsHistoryOf, IsEventWith, with_run, with_raised, IsRaiseOf, IsEventOfEach, is_claim, is_raise, is_taking, is_notify, is_round, is_leave}
use Rattle.proc_chain.proofs.Becoming.{raise_is}
use Rattle.proc_chain.proofs.Events.{and_false, runner_none, claim_note_goes, raise_note_goes, take_note_goes, notify_goes, round_goes, leave_goes}

-- a history: one call made all runs, has the turn if some call has to, and each call owes a notify

abbrev runner_for : ℕ → Option ℕ
runner_for zero = None
runner_for (suc n) = Some 0

pub some_history_of : (o : GatedQueue) → Lawful o.queue → (h : History) × IsHistoryOf o h
some_history_of o lawful = (h, record { runs = r.1; lawful = record { notes = is_lawful_queue o.queue r.0 lawful r.1; run = run o.gate; promised = none } })
  where
    r : (runs : List (Owned Batch)) × IsHistory o.queue runs
    r = some_history o.queue

    h : History
    h = record { runs = r.0; runner = runner_for o.gate; owing = λ call. true }

    run : (gate : ℕ) → is_some (runner_for gate) ≡ not (is_idle (gate_of gate))
    run zero = refl
    run (suc zero) = refl
    run (suc (suc n)) = refl

    owed : (x : Option (Owned Batch)) (index : ℕ) → (published_in x index && not (owes (chain_with o h) (option_map run_in x))) ≡ false
    owed None index = refl
    owed (Some x) index = and_false (published_in (Some x) index)

    first : (pair : Option (ℕ × ℕ)) → forgotten (chain_with o h) pair ≡ false
    first None = refl
    first (Some pair) = ap (λ z. published_in (slice_get r.0 pair.0) pair.1 && not (owes (chain_with o h) z)) (slice_get-map run_in r.0 pair.0) ∙ owed (slice_get r.0 pair.0) pair.1

    none : (is_idle (gate_of o.gate) && is_forgotten (chain_with o h)) ≡ false
    none = ap (λ (z : Bool). is_idle (gate_of o.gate) && z) (first (slice_get (left_pairs (chain_with o h).notes) 0)) ∙ and_false (is_idle (gate_of o.gate))

-- the events, for each history
module _ (o : GatedQueue) (lawful : Lawful o.queue) (h : History) (of : IsHistoryOf o h) where
  abbrev q : Positions
  q = o.queue

  abbrev c : Chain
  c = chain_with o h

  pub claim_with : (call number note : ℕ) → note < 65536 → length q.places + 1 ≤ q.taken + q.room → q.shut ≡ false → IsEventWith o h (claim_note call (note ∷ [])) (with_note o note) (with_run o h call number note)
  claim_with call number note small room is_open = record { made = made; history = record { runs = (claim_of q h.runs of.runs lawful call number xs (omega arith) (omega arith) is_open).history; lawful = claim_note_law call xs c _ of.lawful made } }
    where
      xs : List ℕ
      xs = note ∷ []

      fits : length xs ≤ 1
      fits = omega arith

      goes : claim 1 call xs c.notes ≡ Ok (after_claim call xs c.notes)
      goes = let following = lawful.taken_within in let n = left_long q h.runs of.runs.places in claim_goes 1 call xs c.notes (omega arith) (omega arith) is_open (omega arith)

      made : claim_note call xs c ≡ Ok (chain_with (with_note o note) (with_run o h call number note))
      made = claim_note_goes call note c (after_claim call xs c.notes) small goes ∙ (λ k. Ok (record c { notes = claimed_is q h.runs call number xs k }))

  pub raise_with : (at : ℕ) → at < length q.places → stage_at q at < 2 → IsRaiseOf o at h
  raise_with at below low = let l = located q h.runs of.runs lawful at below in let r = raise_of q h.runs of.runs lawful at l low in
      let made = raise_note_goes l.run.0 l.number l.index c (queue_of (with_write q at 2) (with_raised h l.number l.index l.run).runs) r.made in record {
        number = l.number;
        index = l.index;
        made = l.run;
        has = l.has;
        is = l.is;
        event = subst (λ (z : GatedQueue). IsEventWith o h (raise_note l.run.0 l.number l.index) z (with_raised h l.number l.index l.run)) (sym (raise_is o at))
            record { made = made; history = record { runs = r.history; lawful = raise_note_law l.run.0 l.number l.index c _ of.lawful made } };
      }

  pub take_with : (call : ℕ) → 2 ≤ stage_at q q.taken → h.runner ≡ Some call → IsEventWith o h (take_note call 1) (with_taken o) h
  take_with call up is = record { made = made; history = record { runs = record { solid = of.runs.solid; places = of.runs.places; adjacent = of.runs.adjacent }; lawful = take_note_law call 1 c _ of.lawful made } }
    where
      below : q.taken < length q.places
      below = raised_below q q.taken (omega arith)

      made : take_note call 1 c ≡ Ok (chain_with (with_taken o) h)
      made = take_note_goes call c (after_take 1 c.notes) (take_goes 1 1 c.notes (omega arith) (omega arith) (first_raised q h.runs 1 of.runs.places (omega (arith, below)) (λ i b. let e : q.taken ≡ q.taken + i = omega arith in subst (λ (z : ℕ). 2 ≤ stage_at q z) e up))) is

  pub notify_with : (call : ℕ) → h.owing call ≡ true → IsEventWith o h (notify call) (with_gate o 2) (record h { runner = runner_after call (gate_of o.gate) h.runner; owing = with_number false call h.owing })
  notify_with call owed = let made = notify_goes call c owed in record { made = made; history = record { runs = of.runs; lawful = notify_law call c _ of.lawful made } }

  pub round_with : (call : ℕ) → h.runner ≡ Some call → IsEventWith o h (round call) (with_gate o 1) h
  round_with call is = let made = round_goes call c is in record { made = made; history = record { runs = of.runs; lawful = round_law call c _ of.lawful made } }

  pub leave_with : (call : ℕ) → o.gate ≡ 1 → h.runner ≡ Some call → is_forgotten c ≡ false → IsEventWith o h (leave call) (with_gate o 0) (record h { runner = None })
  leave_with call one is none = let made = leave_goes call c (ap (λ (z : ℕ). is_more (gate_of z)) one) none is in record { made = made; history = record { runs = of.runs; lawful = leave_law call c _ of.lawful made } }

-- a note is taken only while some call has the turn

no_taking : (call : ℕ) (c r : Chain) → c.runner ≡ None → take_note call 1 c ≡ Ok r → ⊥
no_taking call c r none made = by (take_first 1 1 c.notes) made
  where
    by : (t : Result Queue Refusal) → (t >>= λ notes. refused_if (not (is_call call c.runner)) NotRunner (Ok (record c { notes = notes }))) ≡ Ok r → ⊥
    by (Err e) is = absurd (cc)
    by (Ok n) is = let up : true ≡ not (is_call call c.runner) = ap (λ (z : Option ℕ). not (is_call call z)) (sym none) in
        let refused : refused_if true NotRunner (Ok (record c { notes = n })) ≡ Ok r = ap (λ (b : Bool). refused_if b NotRunner (Ok (record c { notes = n }))) up ∙ is in absurd (cc)

busy_by : (o p : GatedQueue) → p ≡ with_taken o → o.gate ≡ 0 → (k : Kind) → Does k o p → (views : List View) (shown : AreShown o views) (seat : ℕ) (w : View) → IsChainEvent o p views shown seat w (event_by seat k) → ⊥
busy_by o p is idle (claims note) does views shown seat w ev = let t : o.queue.taken ≡ o.queue.taken + 1 = ap (λ (z : GatedQueue). z.queue.taken) (sym does ∙ is) in absurd (omega arith)
busy_by o p is idle (raises run) does views shown seat w ev = let t : o.queue.taken ≡ o.queue.taken + 1 = ap (λ (z : GatedQueue). z.queue.taken) (sym does.2 ∙ is) in absurd (omega arith)
busy_by o p is idle takes does views shown seat w ev = no_taking seat (chain_of o.queue shown.listed.lists.runs o.gate views) _ (runner_none 0 views (shown.gate.still idle)) ev.made
busy_by o p is idle notifies does views shown seat w ev = let t : o.queue.taken ≡ o.queue.taken + 1 = ap (λ (z : GatedQueue). z.queue.taken) (sym does ∙ is) in absurd (omega arith)
busy_by o p is idle rounds does views shown seat w ev = let t : o.queue.taken ≡ o.queue.taken + 1 = ap (λ (z : GatedQueue). z.queue.taken) (sym does ∙ is) in absurd (omega arith)
busy_by o p is idle leaves does views shown seat w ev = let t : o.queue.taken ≡ o.queue.taken + 1 = ap (λ (z : GatedQueue). z.queue.taken) (sym does ∙ is) in absurd (omega arith)

take_busy : (o p : GatedQueue) → IsEvent o p → p ≡ with_taken o → o.gate ≢ 0
take_busy o p e is idle = busy_by o p is idle e.kind e.does e.views e.shown e.seat e.after e.event

event_with : (o p : GatedQueue) → Lawful o.queue → IsEvent o p → Becomes o p → IsEventOfEach o p
event_with o p l e (claimed note small room is_open is) = is_claim note is (λ h of call number. claim_with o l h of call number note small room is_open)
event_with o p l e (raised at ahead below low is) = is_raise at is (λ h of. raise_with o l h of at below low)
event_with o p l e (took up is) = is_taking is (take_busy o p e is) (λ h of call runs. take_with o l h of call up runs)
event_with o p l e (notified is) = is_notify is (λ h of call owed. notify_with o l h of call owed)
event_with o p l e (rounded busy is) = is_round is busy (λ h of call runs. round_with o l h of call runs)
event_with o p l e (left one is) = is_leave is one (λ h of call runs none. leave_with o l h of call one runs none)

pub each_event : (e : Step GatedQueue) → IsValidStep of_chains e → (e.next.object ≡ e.then.object) ⊎ IsEventOfEach e.then.object e.next.object
each_event e r = ⊎_elim (λ same. inl same) (λ h. inr (event_with e.then.object e.next.object r.lawful.0 h.event h.becomes)) (real_change of_chains e r)
