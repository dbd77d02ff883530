-- The account of several pieces of a processor's work, one after the other.
use Rattle.processor.proofs.Common.{◌≡◌, ◌||◌, ◌+◌, ◌≤◌, ◌==◌, ℕ, Bool, true, false, List, [], ◌∷◌, ◌++◌, map, refl, sym, ap, subst, ◌∙◌, ⊎_elim, Result, Ok, Err, MatchResult, arith, append-nil, list_any-append, BootPlan, chain_account, Begun, Idle, Shows, Tally, AddsToTally, no_events, nothing_did, did_both, view_of, done_at, Parts, nothing, ◌⊕◌, account, shown_in, seat_parted, LogEntry, beginning, Climbs, HasDone, Ran, Went, numbers_of, Key, AreAtRest, or-false, or_cases, map-append, work_of, all_sound_on, all_sound_still, idle_in_order, in_order_on, still_know, retired, mask_of, one_delivery, delivery, Account, FollowsPlan, OutcomeFollows, entry_account, outcome_account, outcome_saw_shut, tending, turn_saw_shut, IsFresh, Leaves, sum_of, was_shut}
use Rattle.std.proofs.lemmas.List.Elements.{filter-append}
use Rattle.event_theory.proofs.Lists.Placed.{all_append as all_on}
use Rattle.meters.specs.declared.rule.MeterOps.{MeterOps}
use Rattle.meters.specs.Handles as seats
use Rattle.processor.proofs.Rising.{NeverFalls}
use Rattle.processor.proofs.Summing.{accounts_add, dids_add, queue_sums, chain_sums, none_shows, more_shows}

-- numbers that climb from a bound also climb from a lower one
climbs_from : (xs : List ℕ) (a b c : ℕ) → a ≤ b → Climbs xs b c → Climbs xs a c
climbs_from [] a b c low h = omega arith
climbs_from (x ∷ xs) a b c low h = (let p = h.0 in omega arith, h.1)

climbs_on : (xs ys : List ℕ) (a b c : ℕ) → Climbs xs a b → Climbs ys b c → Climbs (xs ++ ys) a c
climbs_on [] ys a b c f g = climbs_from ys a b c f g
climbs_on (x ∷ xs) ys a b c f g = (f.0, climbs_on xs ys (x + 1) b c f.1 g)

numbers_on : (t : ℕ) (xs ys : List Key) → numbers_of t (xs ++ ys) ≡ numbers_of t xs ++ numbers_of t ys
numbers_on t xs ys = ap (map (λ (key : Key). key.1)) (filter-append (λ (key : Key). t == key.0) xs ys) ∙ map-append (λ (key : Key). key.1) _ _

-- how many steps of a thread the hand of the station knows to be done
abbrev pub known_done : Parts → ℕ → ℕ
known_done parts t = done_at (view_of parts.hand).seen.object t

pub done_on : (a b : Account) (u v w : Parts) → HasDone a u v → HasDone b v w → HasDone (a ⊕ b) u w
done_on a b u v w x y = record {
  did = y.did ∙ (ap (λ z. z ⊕ b) x.did ∙ accounts_add.regroups (account u) a b);
  order = λ t. subst (λ z. Climbs z (known_done u t) (known_done w t)) (sym (numbers_on t a.hand.done b.hand.done))
      (climbs_on (numbers_of t a.hand.done) (numbers_of t b.hand.done) (known_done u t) (known_done v t) (known_done w t) (x.order t) (y.order t));
  queues = all_sound_on u.queues v.queues w.queues x.queues y.queues;
}

-- nothing was done
pub none_done : (parts : Parts) → HasDone nothing parts parts
none_done parts = record {
  did = sym (accounts_add.none_last (account parts));
  order = λ t. omega arith;
  queues = all_sound_still _ _ refl;
}

-- the account of a hand and a seat, with the signals that were shown
abbrev by_hand : Tally → MeterOps → (ℕ → ℕ → Bool) → Account
by_hand hand meters shown = record nothing { hand = hand; meters = meters; shown = shown }

-- no end but the hand and the seat did anything
pub hand_done : (hand : Tally) (ticks : MeterOps) (shown : ℕ → ℕ → Bool) (old new : Parts) → AreAtRest old new → AddsToTally hand (view_of old.hand) (view_of new.hand)
    → (account new).meters ≡ did_both (account old).meters ticks → shown_in new.signals ≡ (λ e s. shown_in old.signals e s || shown e s)
    → ((t : ℕ) → Climbs (numbers_of t hand.done) (known_done old t) (known_done new t)) → HasDone (by_hand hand ticks shown) old new
hand_done hand ticks shown old new r h m s o = record {
  did = λ i. record {
    queues = (ap work_of r.queues ∙ sym (queue_sums.none_last (account old).queues)) i;
    chains = ((λ k. chain_account (r.chains k).items) ∙ sym (chain_sums.none_last (account old).chains)) i;
    hand = h i;
    meters = m i;
    heard = ((λ k. (r.heard k).lines) ∙ sym (append-nil (account old).heard)) i;
    shown = s i;
  };
  order = o;
  queues = all_sound_still _ _ r.queues;
}

no_ticks : (old new : Parts) → new.meters ≡ old.meters → (account new).meters ≡ did_both (account old).meters nothing_did
no_ticks old new m = ap (λ z. (seats.view_of z).own) m ∙ sym (dids_add.none_last (account old).meters)

-- an element was added to the free ones, or stayed where it was
pub retired_done : (e n : ℕ) (moved : Bool) (old new : Parts) → AreAtRest old new → AddsToTally (retired moved e n) (view_of old.hand) (view_of new.hand)
    → new.meters ≡ old.meters → new.signals ≡ old.signals → NeverFalls (view_of old.hand) (view_of new.hand) → HasDone (record nothing { hand = retired moved e n }) old new
retired_done e n moved old new r h m s up = hand_done (retired moved e n) nothing_did nothing.shown old new r h
    (no_ticks old new m)
    (ap shown_in s ∙ none_shows (shown_in old.signals)) (λ t. none moved t)
  where
    none : (b : Bool) (t : ℕ) → Climbs (numbers_of t (retired b e n).done) (known_done old t) (known_done new t)
    none true t = up t
    none false t = up t

-- signals were delivered, or nothing was at hand
pub begun_done : (begun : Result Begun Idle) (old new : Parts)
    → MatchResult begun (λ b. AddsToTally (one_delivery b.element (mask_of b.delivered)) (view_of old.hand) (view_of new.hand)) (λ i. AddsToTally no_events (view_of old.hand) (view_of new.hand))
    → NeverFalls (view_of old.hand) (view_of new.hand) → AreAtRest old new → new.meters ≡ old.meters
    → MatchResult begun (λ b. Shows (delivery b.element (mask_of b.delivered)) old.signals new.signals) (λ i. new.signals ≡ old.signals)
    → MatchResult begun (λ b. HasDone (beginning b) old new) (λ i. HasDone nothing old new)
begun_done (Ok b) old new h up r m s = hand_done (one_delivery b.element (mask_of b.delivered)) nothing_did (beginning b).shown old new r h
    (no_ticks old new m) (more_shows (delivery b.element (mask_of b.delivered)) old.signals new.signals s) up
begun_done (Err i) old new h up r m s = hand_done no_events nothing_did nothing.shown old new r h (no_ticks old new m) (ap shown_in s ∙ none_shows (shown_in old.signals)) up

-- THE LOG

-- two logs, one after the other, come to what both come to
pub sum_on : (xs ys : List LogEntry) → sum_of (xs ++ ys) ≡ sum_of xs ⊕ sum_of ys
sum_on [] ys = sym (accounts_add.none_first (sum_of ys))
sum_on (x ∷ xs) ys = ap (λ z. entry_account x ⊕ z) (sum_on xs ys) ∙ sym (accounts_add.regroups (entry_account x) (sum_of xs) (sum_of ys))

pub ran_on : (plan : BootPlan) (xs ys : List LogEntry) (a b c : Parts) → Ran plan xs a b → Ran plan ys b c → Ran plan (xs ++ ys) a c
ran_on plan xs ys a b c f g = record {
  planned = all_on (FollowsPlan plan) xs ys f.planned g.planned;
  done = subst (λ z. HasDone z a c) (sym (sum_on xs ys)) (done_on (sum_of xs) (sum_of ys) a b c f.done g.done);
  reported = λ q h. ⊎_elim (λ l. still_know b.queues c.queues g.done.queues q (f.reported q l)) (λ r. g.reported q r)
      (or_cases (was_shut xs q) (was_shut ys q) (sym (list_any-append (turn_saw_shut q) xs ys) ∙ h));
}

pub none_ran : (plan : BootPlan) (parts : Parts) → Ran plan [] parts parts
none_ran plan parts = record { planned = tt; done = none_done parts; reported = λ q h. cc }

-- a turn: of the alarms, and then of an element's turn
pub turn_ran : (plan : BootPlan) (entry : LogEntry) (a b c : Parts) → HasDone (tending entry.tended) a b
    → Went (OutcomeFollows plan entry.outcome entry.line) (outcome_account entry.outcome entry.line) (outcome_saw_shut entry.outcome) b c
    → Ran plan (entry ∷ []) a c
turn_ran plan entry a b c t w = record {
  planned = (w.planned, tt);
  done = subst (λ z. HasDone z a c) (sym (accounts_add.none_last (entry_account entry))) (done_on (tending entry.tended) (outcome_account entry.outcome entry.line) a b c t w.done);
  reported = λ q h. w.reported q (sym (or-false (turn_saw_shut q entry)) ∙ h);
}

-- THE STATE AFTER IT

-- the work of a fresh station is the work that its log says
pub leaves : (plan : BootPlan) (log : List LogEntry) (old new : Parts) → IsFresh old → seat_parted new ≡ seat_parted old → Ran plan log old new → Leaves plan log new
leaves plan log old new f seat r = record {
  planned = r.planned;
  did = r.done.did ∙ (ap (λ z. z ⊕ sum_of log) f.did ∙ accounts_add.none_first (sum_of log));
  order = λ t. climbs_from (numbers_of t (sum_of log).hand.done) 0 (known_done old t) (known_done new t) (omega arith) (r.done.order t);
  reported = r.reported;
  seat = seat ∙ f.seat;
  queues = in_order_on old.queues new.queues r.done.queues (idle_in_order old.queues (λ k. (f.did k).queues));
}
