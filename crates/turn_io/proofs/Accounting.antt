-- The effect of the calls on ends at the account, by their evidence.
use Rattle.turn_io.proofs.Common.{◌≡◌, ℕ, zero, suc, ◌<◌, Bool, List, [], ◌∷◌, map, length, get_or, set, refl, sym, ap, subst, ◌∙◌, Result, fun_ext, map-set_same, OnEnd, QueueEnd, nothing_did, ChainEnd, ChainRefusal, Ghosts, ProcChain, Heard, idle_queue, both_queue, idle_chain, both_chain, no_stake, lines_of, at_each, HasRaised, end_knows_shut, get_or_from_slice_get, slice_get_within, ClaimRefusal, TakeRefusal, Poked, AtQueue, AtChain, Stake, stake, queue_account, chain_stake, chain_account, at_one, queue_shares, chain_shares, put_if, taken_if, shut_if, chained_if, StaySound, ClaimedInOrder, TookInOrder, end_share, chain_end_share, Said, HasShut, HasPoked, PokedAt}
use Rattle.claim_queue.specs.declared.rule.QueueOps as queues
use Rattle.proc_chain.specs.Own as own
use Rattle.turn_io.proofs.Adding.{queues_add, chains_add}
use Rattle.turn_io.proofs.Places.{grown_at, all_still, known_still}
use Rattle.turn_io.proofs.Shares.{EndWorked, said_worked, heard_worked, shut_worked}
use Rattle.turn_io.proofs.Telling.{ChainEndWorked, poked_worked}

-- the end of a list with this index did this in addition, the other ends nothing, and all stay sound
pub record WorkedAt {n : ℕ} (q : ℕ) (more : AtQueue) (old new : List (QueueEnd n)) : Type 0 where
  pub did : queue_account new ≡ at_each both_queue (queue_account old) (at_one idle_queue q more)
  pub sound : StaySound old new

module _ {n : ℕ} where
  share_of : (ends : List (QueueEnd n)) (q : ℕ) → queue_shares ends q ≡ get_or (map end_share ends) q 0
  share_of [] q = refl
  share_of (x ∷ xs) zero = refl
  share_of (x ∷ xs) (suc q) = share_of xs q

  -- the sum of a list by the evidence of its one end that did something
  pub worked_at : (R : QueueEnd n → QueueEnd n → Type 0) (more : AtQueue) → ((a b : QueueEnd n) → R a b → EndWorked more a b) → (q : ℕ) (old new : List (QueueEnd n)) → OnEnd q R old new → WorkedAt q more old new
  worked_at R more works q old new o = subst (WorkedAt q more old) (sym o.now) (record {
    did = fun_ext (grown_at stake (no_stake nothing_did) (λ (s : Stake queues.QueueOps). lines_of s.did) both_queue idle_queue queues_add.none_last old q o.end o.after more inside is w.did);
    sound = record {
      shares = fun_ext (λ i. share_of (set old q o.after) i ∙ (ap (λ (z : List ℕ). get_or z i 0) (map-set_same end_share old q o.after o.end (w.share ∙ ap end_share is)) ∙ sym (share_of old i)));
      raised = all_still HasRaised old q o.end o.after inside is w.raised;
      claimed = all_still ClaimedInOrder old q o.end o.after inside is w.claimed;
      took = all_still TookInOrder old q o.end o.after inside is w.took;
      known = known_still end_knows_shut old q o.end o.after inside is w.known;
    };
  })
    where
      w : EndWorked more o.end o.after
      w = works o.end o.after o.does

      inside : q < length old
      inside = slice_get_within old q o.end o.was

      is : o.end ≡ get_or old q o.end
      is = sym (get_or_from_slice_get old q o.end o.end o.was)

  pub said_at : {A : Type 0} (line : List ℕ) (r : Result A ClaimRefusal) (q : ℕ) (old new : List (QueueEnd n)) → OnEnd q (Said line r) old new → WorkedAt q (put_if r line) old new
  said_at line r = worked_at (Said line r) (put_if r line) (λ a b. said_worked a b line r)

  pub heard_at : {A : Type 0} (line : List ℕ) (r : Result A TakeRefusal) (q : ℕ) (old new : List (QueueEnd n)) → OnEnd q (Heard line r) old new → WorkedAt q (taken_if r line) old new
  heard_at line r = worked_at (Heard line r) (taken_if r line) (λ a b. heard_worked a b line r)

  pub shut_at : (was_open : Bool) (q : ℕ) (old new : List (QueueEnd n)) → OnEnd q (HasShut was_open) old new → WorkedAt q (shut_if was_open) old new
  shut_at was_open = worked_at (HasShut was_open) (shut_if was_open) (λ a b. shut_worked a b was_open)

module _ {Q W : Type 0} {g : Ghosts Q W} where
  chain_share_of : (ends : List (ChainEnd Q W g)) (q : ℕ) → chain_shares ends q ≡ get_or (map chain_end_share ends) q 0
  chain_share_of [] q = refl
  chain_share_of (x ∷ xs) zero = refl
  chain_share_of (x ∷ xs) (suc q) = chain_share_of xs q

  -- the sum of a list by the evidence of its end that was poked
  pub poked_at : (chains : List (ProcChain Q W)) (q note : ℕ) (answer : Result Poked ChainRefusal) (old new : List (ChainEnd Q W g)) → PokedAt chains q note answer old new
      → (chain_account new ≡ at_each both_chain (chain_account old) (at_one idle_chain q (chained_if answer note))) × (chain_shares new ≡ chain_shares old)
  poked_at chains q note answer old new p = (
    ap chain_account o.now ∙ fun_ext (grown_at chain_stake (no_stake idle_chain) (λ (s : Stake AtChain). s.did) both_chain idle_chain chains_add.none_last old q o.end o.after (chained_if answer note) inside is w.did),
    ap chain_shares o.now ∙ fun_ext (λ i. chain_share_of (set old q o.after) i ∙ (ap (λ (z : List ℕ). get_or z i 0) (map-set_same chain_end_share old q o.after o.end (w.share ∙ ap chain_end_share is)) ∙ sym (chain_share_of old i))),
  )
    where
      o : OnEnd q (HasPoked p.chain note answer) old new
      o = p.on

      w : ChainEndWorked (chained_if answer note) o.end o.after
      w = poked_worked o.end o.after p.chain note answer o.does

      inside : q < length old
      inside = slice_get_within old q o.end o.was

      is : o.end ≡ get_or old q o.end
      is = sym (get_or_from_slice_get old q o.end o.end o.was)
