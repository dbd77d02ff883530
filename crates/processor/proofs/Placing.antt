-- The sum of a step at the queues, at the chains and at the seat of the meters, by its evidence there.
use Rattle.processor.proofs.Common.{◌≡◌, ℕ, List, sym, ap, subst, ◌∙◌, Small, both_chain, at_each, chain_account, chain_shares, did_both, StepOutcome, SeatView, QueueEnds, EndsWorked, heard_on, none_worked, said_on, shut_on, queues_by, chains_by, ticks_by, QueuesDid, ChainsDid, SeatDid}
use Rattle.proc_chain.specs.declared.ends.ChainEnd.{ChainEnd}
use Rattle.proc_chain.specs.declared.ends.ProcChain.{ProcChain}
use Rattle.proc_chain.specs.declared.quaject.Quaject.{Ghosts}
use Rattle.turn_io.proofs.Accounting.{poked_at}
use Rattle.processor.specs.declared.step_outcome.StepOutcome.TheVariants as step_outcomes
use Rattle.processor.specs.Tries.{said, heard}
use Rattle.processor.proofs.Summing.{chain_sums}
use Rattle.processor.proofs.Ticking.{Remains, did_none, did_tick}

-- a fact about three values holds for equal values
pub of_same : {A B C : Type 0} (R : A → B → C → Type 0) {a a' : A} {b b' : B} {c c' : C} → a ≡ a' → b ≡ b' → c ≡ c' → R a b c → R a' b' c'
of_same R {a' = a'} {b = b} {b' = b'} {c = c} x y z r = subst (R a' b') z (subst (λ w. R a' w c) y (subst (λ w. R w b c) x r))

pub queues_worked : (step_outcome : StepOutcome) (line : List ℕ) (old new : QueueEnds) → QueuesDid step_outcome line old new → EndsWorked (queues_by step_outcome line) old new
queues_worked (step_outcomes.Say queue answer) line old new d = said_on queue line (said answer) old new d
queues_worked (step_outcomes.Hear queue answer) line old new d = heard_on queue line (heard answer) old new d
queues_worked (step_outcomes.Close k was_open readers writers) line old new d = shut_on (Small k) was_open old new d
queues_worked step_outcome line old new d = none_worked old new d

pub chains_worked : {Q W : Type 0} {g : Ghosts Q W} (chains : List (ProcChain Q W)) (step_outcome : StepOutcome) (old new : List (ChainEnd Q W g)) → ChainsDid chains step_outcome old new
    → (chain_account new ≡ at_each both_chain (chain_account old) (chains_by step_outcome)) × (chain_shares new ≡ chain_shares old)
chains_worked chains (step_outcomes.Poke mover answer) old new p = poked_at chains mover 0 answer old new p
chains_worked chains step_outcome old new same = (ap chain_account same ∙ sym (chain_sums.none_last (chain_account old)), ap chain_shares same)

pub seat_worked : (step_outcome : StepOutcome) (v w : SeatView) → SeatDid step_outcome v w → (w.own ≡ did_both v.own (ticks_by step_outcome)) × Remains v w
seat_worked (step_outcomes.Tick gauge amount before) v w h = (did_tick gauge amount v w h.1, record { share = λ i. (h.1 i).share; parted = λ i. ((h.1 i).splits, (h.1 i).joins) })
seat_worked step_outcome v w same = (did_none v w same, record { share = λ i. (same i).member.share; parted = λ i. ((same i).member.splits, (same i).member.joins) })
