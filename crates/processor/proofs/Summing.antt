-- The accounts of stations add up.
use Rattle.processor.proofs.Common.{◌≡◌, ◌||◌, ◌&&◌, ℕ, Bool, true, false, List, refl, sym, ap, ◌∙◌, append-nil, append_assoc, QueueIndex, both_queue, both_chain, idle_queue, idle_chain, at_each, queues_add, Shows, nothing_did, did_both, is_in, nothing, ◌⊕◌, shown_in, nat_lt, slice_index_or, or_assoc, or-false, ltb-true, AddsUp, chains_add, each_adds, is_delivered, behind_more, behind_none, no_signals}
use Rattle.std.proofs.Math.Path.{fun_ext}
use Rattle.turn_dispatch.proofs.Delivered.{none_in}
use Rattle.thread_table.proofs.Lists.Copies.{get_or-copies}

pub queue_sums : AddsUp (λ (q : QueueIndex). idle_queue) (at_each both_queue)
queue_sums = each_adds queues_add

pub chain_sums : AddsUp (λ (q : ℕ). idle_chain) (at_each both_chain)
chain_sums = each_adds chains_add

pub dids_add : AddsUp nothing_did did_both
dids_add = record {
  regroups = λ a b c i. record {
    ticks = append_assoc a.ticks b.ticks c.ticks i;
    advances = append_assoc a.advances b.advances c.advances i;
    set = append_assoc a.set b.set c.set i;
    fired = append_assoc a.fired b.fired c.fired i;
    cancelled = append_assoc a.cancelled b.cancelled c.cancelled i;
  };
  none_first = λ a. refl;
  none_last = λ a i. record {
    ticks = append-nil a.ticks i;
    advances = append-nil a.advances i;
    set = append-nil a.set i;
    fired = append-nil a.fired i;
    cancelled = append-nil a.cancelled i;
  };
}

pub accounts_add : AddsUp nothing (λ a b. a ⊕ b)
accounts_add = record {
  regroups = λ a b c i. record {
    queues = queue_sums.regroups a.queues b.queues c.queues i;
    chains = chain_sums.regroups a.chains b.chains c.chains i;
    hand = behind_more a.hand b.hand c.hand i;
    meters = dids_add.regroups a.meters b.meters c.meters i;
    heard = append_assoc a.heard b.heard c.heard i;
    shown = λ e s. or_assoc (a.shown e s) (b.shown e s) (c.shown e s) i;
  };
  none_first = λ a i. record {
    queues = queue_sums.none_first a.queues i;
    chains = chain_sums.none_first a.chains i;
    hand = a.hand;
    meters = a.meters;
    heard = a.heard;
    shown = a.shown;
  };
  none_last = λ a i. record {
    queues = queue_sums.none_last a.queues i;
    chains = chain_sums.none_last a.chains i;
    hand = behind_none a.hand i;
    meters = dids_add.none_last a.meters i;
    heard = append-nil a.heard i;
    shown = λ e s. or-false (a.shown e s) i;
  };
}

pub guarded : (x y z p q : Bool) → (p ≡ true → q ≡ true → z ≡ (x || y)) → (p && (q && z)) ≡ ((p && (q && x)) || (p && (q && y)))
guarded x y z true true f = f refl refl
guarded x y z true false f = refl
guarded x y z false q f = refl

-- no signal more
pub none_shows : (f : ℕ → ℕ → Bool) → f ≡ (λ e s. f e s || false)
none_shows f = λ i e s. sym (or-false (f e s)) i

-- the masks show these signals more
pub more_shows : (deliveries : List (ℕ × List ℕ)) (old new : List ℕ) → Shows deliveries old new
    → shown_in new ≡ (λ e s. shown_in old e s || (nat_lt e 64 && (nat_lt s 16 && is_delivered deliveries e s)))
more_shows ds old new h = fun_ext (λ e. fun_ext (λ s. guarded (is_in (slice_index_or old e 0) s) (is_delivered ds e s) (is_in (slice_index_or new e 0) s) (nat_lt e 64) (nat_lt s 16) (λ x y. h e s (ltb-true e 64 x) (ltb-true s 16 y))))

pub none_shown : shown_in no_signals ≡ (λ e s. false)
none_shown = fun_ext (λ e. fun_ext (λ s. shut e s (ap (λ z. is_in z s) (get_or-copies 64 0 e) ∙ none_in s)))
  where
    shut : (e s : ℕ) → is_in (slice_index_or no_signals e 0) s ≡ false → shown_in no_signals e s ≡ false
    shut e s none = ap (λ b. nat_lt e 64 && (nat_lt s 16 && b)) none ∙ never (nat_lt e 64) (nat_lt s 16)
      where
        never : (a b : Bool) → (a && (b && false)) ≡ false
        never true true = refl
        never true false = refl
        never false b = refl
