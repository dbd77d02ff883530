-- One end of a list took in another.
use Rattle.boot_objects.proofs.Common.{◌≡◌, ℕ, zero, suc, ◌<◌, true, false, List, [], ◌∷◌, ◌++◌, map, length, get_or, set, sym, ap, ◌∙◌, arith, Some, slice_get, map-append, slice_get-get_or, ∥∥₁_elim, fun_ext, QueueEnd, QueueOps, view_of, nothing_did, did_both, ChainEnd, Ghosts, idle_queue, both_queue, Stake, no_stake, both_stakes, stake, stakes, at_one, AddsUp, IsJoined, IsChainJoined, queues_add, dids_add, stakes_add, port, Gained, ChainsGained, note_stake, Grows, end_knows_shut, knows_shut_at, chain_end_puts, chain_end_takes, grown_at, known_still}
use Rattle.std.proofs.Math.Bool.{Bool-set}
use Rattle.claim_queue.proofs.Certain.{valid_end}
use Rattle.claim_queue.proofs.Ordered.{join_grows, join_grows_other}
use Rattle.proc_chain.specs.Handles as chains
use Rattle.proc_chain.specs.Notes as notes

-- a property of the element at a place, in the form of `slice_get`, holds in the form of `get_or` too
pub its_own : {A : Type 0} (P : A → Type 0) (list : List A) (index : ℕ) (x : A) → index < length list → ((y : A) → slice_get list index ≡ Some y → P y) → x ≡ get_or list index x → P x
its_own P list index x below its is = its x (slice_get-get_or list index x below ∙ ap Some (sym is))

-- the end that was used is at its place
set_at : {A B : Type 0} (f : A → B) (xs : List A) (i : ℕ) (x : A) (d : B) → i < length xs → get_or (map f (set xs i x)) i d ≡ f x
set_at f [] i x d l = absurd (omega arith)
set_at f (y ∷ xs) zero x d l = λ k. f x
set_at f (y ∷ xs) (suc i) x d l = set_at f xs i x d (omega arith)

module _ {n : ℕ} (ends : List (QueueEnd n)) (i : ℕ) (end after other : QueueEnd n) (inside : i < length ends) (is : end ≡ get_or ends i end) (j : IsJoined end after other) where
  pub gained_at : Gained (Some (port i other) ∷ []) ends (set ends i after)
  gained_at = record {
    stakes_are = fun_ext (λ q. grown_at stake none (λ z. z) (both_stakes did_both) none adds.none_last ends i end after (stake other) inside is (λ k. record { did = j.own k; share = (j.member k).share }) q
        ∙ ap (both_stakes did_both (stakes ends q)) (sym (adds.none_last (at_one none i (stake other) q))));
    known = known_still end_knows_shut ends i end after inside is (λ h. ∥∥₁_elim (join_grows (view_of end) (view_of other) (view_of after) (valid_end end) (valid_end after) j) (Bool-set _ _)
        (λ (g : Grows (view_of end).seen.object (view_of after).seen.object). g.shut h));
  }
    where
      none : Stake QueueOps
      none = no_stake nothing_did

      adds : AddsUp (no_stake nothing_did) (both_stakes did_both)
      adds = stakes_add dids_add

  pub known_at : end_knows_shut other ≡ true → knows_shut_at (set ends i after) i ≡ true
  known_at h = set_at end_knows_shut ends i after false inside ∙ ∥∥₁_elim (join_grows_other (view_of end) (view_of other) (view_of after) (valid_end other) (valid_end after) j) (Bool-set _ _)
      (λ (g : Grows (view_of other).seen.object (view_of after).seen.object). g.shut h)

module _ {Q W : Type 0} {g : Ghosts Q W} (ends : List (ChainEnd Q W g)) (i : ℕ) (end after other : ChainEnd Q W g) (inside : i < length ends) (is : end ≡ get_or ends i end) (j : IsChainJoined end after other) where
  pub chains_gained_at : ChainsGained (at_one (no_stake idle_queue) i (note_stake other)) ends (set ends i after)
  chains_gained_at = fun_ext (grown_at note_stake (no_stake idle_queue) (λ z. z) (both_stakes both_queue) (no_stake idle_queue) adds.none_last ends i end after (note_stake other) inside is
      (λ k. record { did = record { put = put k; taken = taken k; shuts = 0 }; share = (j.0.member k).share }))
    where
      adds : AddsUp (no_stake idle_queue) (both_stakes both_queue)
      adds = stakes_add queues_add

      put : chain_end_puts after ≡ chain_end_puts end ++ chain_end_puts other
      put = ap (map notes.line_of) (λ k. (j.0.own k).runs) ∙ map-append notes.line_of (chains.view_of end).own.runs (chains.view_of other).own.runs

      taken : chain_end_takes after ≡ chain_end_takes end ++ chain_end_takes other
      taken = ap (map notes.line_of) (λ k. (j.0.own k).takes) ∙ map-append notes.line_of (chains.view_of end).own.takes (chains.view_of other).own.takes
