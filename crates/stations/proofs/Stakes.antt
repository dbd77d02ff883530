-- The work and the shares of ends that were split or joined, by their evidence.
use Rattle.stations.proofs.Common.{◌≡◌, ℕ, ◌+◌, List, ◌++◌, map, length, refl, ap, ◌∙◌, fun_ext, length-append, map-append, QueueEnd, nothing_did, did_both, ChainEnd, Ghosts, idle_queue, both_queue, idle_chain, both_chain, no_stake, both_stakes, lines_of, at_each, Stake, notes_of, stake, stakes, queue_account, chain_stake, chain_stakes, shares_of, work_of, AllThree, IsSplit, IsJoined, IsChainSplit, IsChainJoined, AreQueuesJoined, AreQueuesSplit, AreJoined, view_of, keep, give, given, kept, by_sizes, lines_add}
use Rattle.proc_chain.specs.Notes.{notes_taken, line_of, notes_put}
use Rattle.proc_chain.specs.declared.rule.ChainOps.{ChainOps}
use Rattle.proc_chain.specs.Own.{View}
use Rattle.stations.proofs.Walking.{at_three}
use Rattle.turn_io.specs.declared.queue_ends.QueueEnds.{QueueEnds}
use Rattle.claim_queue.specs.declared.rule.QueueOps as queues
use Rattle.proc_chain.specs.Own as own

module _ {n : ℕ} where
  pub kept_at : (old new born : List (QueueEnd n)) → AllThree IsSplit old new born → stakes new ≡ (λ q. keep (stakes old q))
  kept_at old new born h = fun_ext (at_three IsSplit stake stake stake (λ a b c. b ≡ keep a) (no_stake nothing_did) refl (λ x y z s i. record { did = s.0.own i; share = (s.0.member i).share }) old new born h)

  pub given_at : (old new born : List (QueueEnd n)) → AllThree IsSplit old new born → stakes born ≡ (λ q. give nothing_did (stakes old q))
  given_at old new born h = fun_ext (at_three IsSplit stake stake stake (λ a b c. c ≡ give nothing_did a) (no_stake nothing_did) refl (λ x y z s i. record { did = (s.1 i).own; share = (s.1 i).member.share }) old new born h)

  pub joined_at : (old new others : List (QueueEnd n)) → AllThree IsJoined old new others → stakes new ≡ at_each (both_stakes did_both) (stakes old) (stakes others)
  joined_at old new others h = fun_ext (at_three IsJoined stake stake stake (λ a b c. b ≡ both_stakes did_both a c) (no_stake nothing_did) refl (λ x y z s i. record { did = s.own i; share = (s.member i).share }) old new others h)

-- the notes of two ends are the notes of both
both_notes : (v u w : View) → w.own ≡ own.did_both v.own u.own → notes_of w ≡ both_chain (notes_of v) (notes_of u)
both_notes v u w e = λ i. record { notes = put i; ran = taken i }
  where
    put : notes_put w ≡ notes_put v ++ notes_put u
    put = ap (λ (d : ChainOps). map line_of d.runs) e ∙ map-append line_of v.own.runs u.own.runs

    taken : length (notes_taken w) ≡ length (notes_taken v) + length (notes_taken u)
    taken = ap (λ (d : ChainOps). length (map line_of d.takes)) e ∙ (ap length (map-append line_of v.own.takes u.own.takes) ∙ length-append (notes_taken v) (notes_taken u))

module _ {Q W : Type 0} {g : Ghosts Q W} where
  pub chain_kept_at : (old new born : List (ChainEnd Q W g)) → AllThree IsChainSplit old new born → chain_stakes new ≡ (λ q. keep (chain_stakes old q))
  chain_kept_at old new born h = fun_ext (at_three IsChainSplit chain_stake chain_stake chain_stake (λ a b c. b ≡ keep a) (no_stake idle_chain) refl
      (λ x y z s i. record { did = record { notes = map line_of (s.0.own i).runs; ran = length (map line_of (s.0.own i).takes) }; share = (s.0.member i).share }) old new born h)

  pub chain_given_at : (old new born : List (ChainEnd Q W g)) → AllThree IsChainSplit old new born → chain_stakes born ≡ (λ q. give idle_chain (chain_stakes old q))
  chain_given_at old new born h = fun_ext (at_three IsChainSplit chain_stake chain_stake chain_stake (λ a b c. c ≡ give idle_chain a) (no_stake idle_chain) refl
      (λ x y z s i. record { did = notes_of (s.1 i); share = (s.1 i).member.share }) old new born h)

  pub chain_joined_at : (old new others : List (ChainEnd Q W g)) → AllThree IsChainJoined old new others → chain_stakes new ≡ at_each (both_stakes both_chain) (chain_stakes old) (chain_stakes others)
  chain_joined_at old new others h = fun_ext (at_three IsChainJoined chain_stake chain_stake chain_stake (λ a b c. b ≡ both_stakes both_chain a c) (no_stake idle_chain) refl
      (λ x y z s i. record { did = both_notes (view_of x) (view_of z) (view_of y) s.0.own i; share = (s.0.member i).share }) old new others h)

pub ends_kept : (old new born : QueueEnds) → AreQueuesSplit old new born → (work_of new ≡ work_of old) × (shares_of new ≡ (λ q. kept (shares_of old q)))
ends_kept old new born s = (
  by_sizes (work_of new) (work_of old) (λ q i. lines_of (kept_at old.small.items new.small.items born.small.items s.small.each i q).did) (λ q i. lines_of (kept_at old.large.items new.large.items born.large.items s.large.each i q).did),
  by_sizes (shares_of new) _ (λ q i. (kept_at old.small.items new.small.items born.small.items s.small.each i q).share) (λ q i. (kept_at old.large.items new.large.items born.large.items s.large.each i q).share),
)

pub ends_given : (old new born : QueueEnds) → AreQueuesSplit old new born → (work_of born ≡ (λ q. idle_queue)) × (shares_of born ≡ (λ q. given (shares_of old q)))
ends_given old new born s = (
  by_sizes (work_of born) _ (λ q i. lines_of (given_at old.small.items new.small.items born.small.items s.small.each i q).did) (λ q i. lines_of (given_at old.large.items new.large.items born.large.items s.large.each i q).did),
  by_sizes (shares_of born) _ (λ q i. (given_at old.small.items new.small.items born.small.items s.small.each i q).share) (λ q i. (given_at old.large.items new.large.items born.large.items s.large.each i q).share),
)

joined_lines : {n : ℕ} (xs ys zs : List (QueueEnd n)) → AreJoined xs ys zs → (q : ℕ) → queue_account zs q ≡ both_queue (queue_account xs q) (queue_account ys q)
joined_lines xs ys zs h q = ap (λ (f : ℕ → Stake queues.QueueOps). lines_of (f q).did) (joined_at xs zs ys h.each) ∙ lines_add (stakes xs q).did (stakes ys q).did

pub ends_joined : (old others new : QueueEnds) → AreQueuesJoined old others new → (work_of new ≡ at_each both_queue (work_of old) (work_of others)) × (shares_of new ≡ (λ q. shares_of old q + shares_of others q))
ends_joined old others new j = (
  by_sizes (work_of new) _ (joined_lines old.small.items others.small.items new.small.items j.small) (joined_lines old.large.items others.large.items new.large.items j.large),
  by_sizes (shares_of new) _ (λ q i. (joined_at old.small.items new.small.items others.small.items j.small.each i q).share) (λ q i. (joined_at old.large.items new.large.items others.large.items j.large.each i q).share),
)
