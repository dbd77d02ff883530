-- The sums of accounts: associative, with a unit.
use Rattle.turn_io.proofs.Common.{◌≡◌, ℕ, ◌+◌, fun_ext, map-append, nothing_did, did_both, idle_queue, both_queue, idle_chain, both_chain, no_stake, both_stakes, lines_of, at_each, append_assoc, append-nil, QueueIndex, Small, Large, line_of, AddsUp}
use Rattle.std.proofs.Math.Nat.{add_assoc, add-zero, zero-add}
use Rattle.claim_queue.specs.declared.rule.QueueOps.{QueueOps}

pub numbers_add : AddsUp 0 (λ a b. a + b)
numbers_add = record { regroups = add_assoc; none_first = zero-add; none_last = add-zero }

pub queues_add : AddsUp idle_queue both_queue
queues_add = record {
  regroups = λ a b c i. record { put = append_assoc a.put b.put c.put i; taken = append_assoc a.taken b.taken c.taken i; shuts = add_assoc a.shuts b.shuts c.shuts i };
  none_first = λ a i. record { put = a.put; taken = a.taken; shuts = zero-add a.shuts i };
  none_last = λ a i. record { put = append-nil a.put i; taken = append-nil a.taken i; shuts = add-zero a.shuts i };
}

pub chains_add : AddsUp idle_chain both_chain
chains_add = record {
  regroups = λ a b c i. record { notes = append_assoc a.notes b.notes c.notes i; ran = add_assoc a.ran b.ran c.ran i };
  none_first = λ a i. record { notes = a.notes; ran = zero-add a.ran i };
  none_last = λ a i. record { notes = append-nil a.notes i; ran = add-zero a.ran i };
}

pub dids_add : AddsUp nothing_did did_both
dids_add = record {
  regroups = λ a b c i. record { runs = append_assoc a.runs b.runs c.runs i; takes = append_assoc a.takes b.takes c.takes i; shuts = add_assoc a.shuts b.shuts c.shuts i };
  none_first = λ a i. record { runs = a.runs; takes = a.takes; shuts = zero-add a.shuts i };
  none_last = λ a i. record { runs = append-nil a.runs i; takes = append-nil a.takes i; shuts = add-zero a.shuts i };
}

pub stakes_add : {D : Type 0} {none : D} {add : D → D → D} → AddsUp none add → AddsUp (no_stake none) (both_stakes add)
stakes_add h = record {
  regroups = λ a b c i. record { did = h.regroups a.did b.did c.did i; share = add_assoc a.share b.share c.share i };
  none_first = λ a i. record { did = h.none_first a.did i; share = zero-add a.share i };
  none_last = λ a i. record { did = h.none_last a.did i; share = add-zero a.share i };
}

-- a sum at each place is one
pub each_adds : {I A : Type 0} {none : A} {add : A → A → A} → AddsUp none add → AddsUp (λ (q : I). none) (at_each add)
each_adds h = record {
  regroups = λ a b c. fun_ext (λ q. h.regroups (a q) (b q) (c q));
  none_first = λ a. fun_ext (λ q. h.none_first (a q));
  none_last = λ a. fun_ext (λ q. h.none_last (a q));
}

-- the lines of two ends are the lines of both
pub lines_add : (a b : QueueOps) → lines_of (did_both a b) ≡ both_queue (lines_of a) (lines_of b)
lines_add a b = λ i. record { put = map-append line_of a.runs b.runs i; taken = map-append line_of a.takes b.takes i; shuts = a.shuts + b.shuts }

-- two functions that agree at the small queues and at the large ones are equal
pub by_sizes : {A : Type 0} (f g : QueueIndex → A) → ((q : ℕ) → f (Small q) ≡ g (Small q)) → ((q : ℕ) → f (Large q) ≡ g (Large q)) → f ≡ g
by_sizes f g small large = fun_ext same
  where
    same : (index : QueueIndex) → f index ≡ g index
    same (Small q) = small q
    same (Large q) = large q
