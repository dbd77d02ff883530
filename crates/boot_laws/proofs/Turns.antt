-- What is true of all that turns come to.
use Rattle.boot_laws.proofs.Common.{◌≡◌, ℕ, ◌+◌, ◌≤◌, Bool, true, false, List, [], ◌∷◌, ◌++◌, length, refl, sym, ap, ◌∙◌, subst, length-append, Option, Some, None, if◌then◌else◌, ◌||◌, ◌&&◌, ◌==◌, nat_lt, AllByRecursion, concat, list_any-append, BootPlan, all_append, Tended, Begun, counted_step, retired, Tally, StepOutcome, TurnResult, TurnOutcome, Moved, Account, ◌⊕◌, raised_by, LogEntry, entry_account, tending, outcome_account, gone, FollowsPlan, OutcomeFollows, sum_of, HasDoneAll, program, concat-append, chained_if, nothing, chains_by, ticks_by, beginning, having, IsOver}
use Rattle.std.specs.Prelude.{Result, Ok, Err}
use Rattle.turn_io.specs.declared.poking.Poked.{Poked}
use Rattle.turn_dispatch.specs.declared.counting.Counted.{Counted}
use Rattle.turn_dispatch.specs.declared.counting.Counted.TheVariants as counted
use Rattle.turn_dispatch.specs.Dispatches.{mask_of}
use Rattle.turn_dispatch.specs.Tallies.{delivery, is_delivered}
use Rattle.proc_chain.specs.declared.chaining.ChainRefusal.{ChainRefusal}
use Rattle.processor.specs.declared.step_outcome.StepOutcome.TheVariants as step_outcomes
use Rattle.processor.specs.declared.outcome.TurnResult.TheVariants as hads
use Rattle.processor.specs.declared.outcome.TurnOutcome.TheVariants as outcomes
use Rattle.processor.specs.declared.phases.Moved.TheVariants as moveds

-- No free element was taken; what was shown of an element is what was delivered to it; no alarm was set or cancelled;
-- and each note is in a list of its own
pub record Works (a : Account) : Type 0 where
  pub taken : a.hand.taken ≡ []
  pub shown : (element signal : ℕ) → nat_lt element 64 ≡ true → nat_lt signal 16 ≡ true → a.shown element signal ≡ is_delivered a.hand.delivered element signal
  pub set : a.meters.set ≡ []
  pub cancelled : a.meters.cancelled ≡ []
  pub alone : (q : ℕ) → length (concat (a.chains q).notes) ≡ length (a.chains q).notes

rests : Works nothing
rests = record { taken = refl; shown = λ e s low few. refl; set = refl; cancelled = refl; alone = λ q. refl }

both : (a b : Account) → Works a → Works b → Works (a ⊕ b)
both a b x y = record {
  taken = λ i. x.taken i ++ y.taken i;
  shown = λ e s low few. (λ i. x.shown e s low few i || y.shown e s low few i) ∙ sym (list_any-append _ a.hand.delivered b.hand.delivered);
  set = λ i. x.set i ++ y.set i;
  cancelled = λ i. x.cancelled i ++ y.cancelled i;
  alone = λ q. ap length (concat-append (a.chains q).notes (b.chains q).notes) ∙ (length-append (concat (a.chains q).notes) (concat (b.chains q).notes)
      ∙ ((λ i. x.alone q i + y.alone q i) ∙ sym (length-append (a.chains q).notes (b.chains q).notes)));
}

tended : (t : Option Tended) → Works (tending t)
tended None = rests
tended (Some t) = record { taken = refl; shown = λ e s low few. refl; set = refl; cancelled = refl; alone = λ q. refl }

within : (a b c : Bool) → a ≡ true → b ≡ true → (a && (b && c)) ≡ c
within true true c e f = refl
within true false c e f = absurd (cc)
within false b c e f = absurd (cc)

begun : (b : Begun) → Works (beginning b)
begun b = record {
  taken = refl;
  shown = λ e s low few. within (nat_lt e 64) (nat_lt s 16) (is_delivered (delivery b.element (mask_of b.delivered)) e s) low few;
  set = refl;
  cancelled = refl;
  alone = λ q. refl;
}

-- A STEP

abbrev NoneGiven : Tally → Type 0
NoneGiven t = (t.taken ≡ []) × (t.delivered ≡ [])

raised_rest : (step_outcome : StepOutcome) → NoneGiven (raised_by step_outcome) × ((raised_by step_outcome).retired ≡ [])
raised_rest (step_outcomes.Signal thread signal answer) = ((refl, refl), refl)
raised_rest step_outcome = ((refl, refl), refl)

counted_rest : (count : Counted) (element number : ℕ) → NoneGiven (counted_step count element number) × ((counted_step count element number).retired ≡ [])
counted_rest (counted.Done n) element number = ((refl, refl), refl)
counted_rest count element number = ((refl, refl), refl)

retired_rest : (moved : Bool) (element number : ℕ) → NoneGiven (retired moved element number)
retired_rest true element number = (refl, refl)
retired_rest false element number = (refl, refl)

gone_rest : (moved : Moved) (element number : ℕ) → NoneGiven (gone moved element number)
gone_rest (moveds.Freed moved) element number = retired_rest moved element number
gone_rest moved element number = (refl, refl)

ticked_rest : (step_outcome : StepOutcome) → ((ticks_by step_outcome).set ≡ []) × ((ticks_by step_outcome).cancelled ≡ [])
ticked_rest (step_outcomes.Tick gauge amount before) = (refl, refl)
ticked_rest step_outcome = (refl, refl)

alone_if : (answer : Result Poked ChainRefusal) (b : Bool)
    → length (concat (if b then chained_if answer 0 else record { notes = []; ran = 0 }).notes) ≡ length (if b then chained_if answer 0 else record { notes = []; ran = 0 }).notes
alone_if (Ok done) true = refl
alone_if (Err refusal) true = refl
alone_if answer false = refl

chained_rest : (step_outcome : StepOutcome) (q : ℕ) → length (concat (chains_by step_outcome q).notes) ≡ length (chains_by step_outcome q).notes
chained_rest (step_outcomes.Poke mover answer) q = alone_if answer (q == mover)
chained_rest step_outcome q = refl

had : (element number : ℕ) (h : TurnResult) (line : List ℕ) → Works (having element number h line)
had element number (hads.Retired moved) line = let r = retired_rest moved element number in
    record { taken = r.0; shown = λ e s low few. ap (λ l. is_delivered l e s) (sym r.1); set = refl; cancelled = refl; alone = λ q. refl }
had element number (hads.Ran sent) line =
    let r = raised_rest sent.tried.step_outcome in let c = counted_rest sent.tried.counted element number in let g = gone_rest sent.moved element (number + 1) in let t = ticked_rest sent.tried.step_outcome in record {
      taken = λ i. (r.0.0 i ++ c.0.0 i) ++ g.0 i;
      shown = λ e s low few. ap (λ l. is_delivered l e s) (sym (λ i. (r.0.1 i ++ c.0.1 i) ++ g.1 i));
      set = t.0;
      cancelled = t.1;
      alone = chained_rest sent.tried.step_outcome;
    }

-- ALL TURNS

came : (outcome : TurnOutcome) (line : List ℕ) → Works (outcome_account outcome line)
came (outcomes.Idle idle) line = rests
came (outcomes.OfElement b h) line = both (beginning b) (having b.element b.number h line) (begun b) (had b.element b.number h line)

pub all_work : (log : List LogEntry) → Works (sum_of log)
all_work [] = rests
all_work (entry ∷ log) = both (entry_account entry) (sum_of log)
    (both (tending entry.tended) (outcome_account entry.outcome entry.line) (tended entry.tended) (came entry.outcome entry.line)) (all_work log)

-- each element that was put into the free ring had done all its steps
module _ (plan : BootPlan) where
  retired_done : (moved : Bool) (element number : ℕ) → length (program plan element) ≤ number → AllByRecursion (HasDoneAll plan) (retired moved element number).retired
  retired_done true element number h = (h, tt)
  retired_done false element number h = tt

  gone_done : (moved : Moved) (element number : ℕ) → IsOver moved number (length (program plan element)) → AllByRecursion (HasDoneAll plan) (gone moved element number).retired
  gone_done (moveds.Freed moved) element number h = retired_done moved element number h
  gone_done moved element number h = tt

  tended_done : (t : Option Tended) → (tending t).hand.retired ≡ []
  tended_done None = refl
  tended_done (Some t) = refl

  came_done : (outcome : TurnOutcome) (line : List ℕ) → OutcomeFollows plan outcome line → AllByRecursion (HasDoneAll plan) (outcome_account outcome line).hand.retired
  came_done (outcomes.Idle idle) line p = tt
  came_done (outcomes.OfElement b (hads.Retired moved)) line p = retired_done moved b.element b.number p.0
  came_done (outcomes.OfElement b (hads.Ran sent)) line p =
      subst (λ l. AllByRecursion (HasDoneAll plan) (l ++ (gone sent.moved b.element (b.number + 1)).retired)) (λ i. (sym ((raised_rest sent.tried.step_outcome).1) i) ++ (sym ((counted_rest sent.tried.counted b.element b.number).1) i))
      (gone_done sent.moved b.element (b.number + 1) p.over)

  pub all_over : (log : List LogEntry) → AllByRecursion (FollowsPlan plan) log → AllByRecursion (HasDoneAll plan) (sum_of log).hand.retired
  all_over [] p = tt
  all_over (entry ∷ log) p = all_append (HasDoneAll plan) (entry_account entry).hand.retired (sum_of log).hand.retired
      (subst (λ l. AllByRecursion (HasDoneAll plan) (l ++ (outcome_account entry.outcome entry.line).hand.retired)) (sym (tended_done entry.tended)) (came_done entry.outcome entry.line p.0)) (all_over log p.1)
