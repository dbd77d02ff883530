-- The ends of raw ttys are joined to the parts, one raw tty after the other.
use Rattle.boot_objects.proofs.Common.{◌≡◌, ℕ, ◌+◌, ◌<◌, List, [], ◌∷◌, ◌++◌, length, refl, sym, ap, subst, ◌∙◌, arith, Some, Option, slice_get, QueueEnd, Stake, AtQueue, idle_queue, both_queue, no_stake, both_stakes, at_each, at_one, AddsUp, OnEnd, queues_add, stakes_add, each_adds, ChainEnd, Ghosts, Shared, Parts, Port, RawTty, port, Gained, ChainsGained, note_stake, note_stakes, raw_ports, raw_notes, TookRaws, end_of}
use Rattle.processor.specs.RawEnds.{IsRawAt}
use Rattle.event_theory.proofs.Keeping.Places.{slice_get_set_other}
use Rattle.boot_objects.proofs.PortGains.{gained_none, gained_both}

adds : AddsUp (λ (k : ℕ). no_stake idle_queue) (at_each (both_stakes both_queue))
adds = each_adds (stakes_add queues_add)

-- ONE

pub one_queue : (raw : ℕ) (tty : RawTty) (end : QueueEnd 64) (old lent after new : List (QueueEnd 64)) → end ≡ end_of tty → lent ≡ old → new ≡ after → Gained (Some (port raw end) ∷ []) lent after → Gained (raw_ports raw (tty ∷ [])) old new
one_queue raw tty end old lent after new e l b h = subst (λ (z : QueueEnd 64). Gained (Some (port raw z) ∷ []) old new) e
    (subst (λ (z : List (QueueEnd 64)). Gained (Some (port raw end) ∷ []) z new) l (subst (λ (z : List (QueueEnd 64)). Gained (Some (port raw end) ∷ []) lent z) (sym b) h))

pub one_chain : {Q W : Type 0} {g : Ghosts Q W} (chain : ℕ) (tty : RawTty) (had : Stake AtQueue) (old lent after new : List (ChainEnd Q W g)) → had ≡ note_stake tty.chain → lent ≡ old → new ≡ after
    → ChainsGained (at_one (no_stake idle_queue) chain had) lent after → ChainsGained (raw_notes chain (tty ∷ [])) old new
one_chain chain tty had old lent after new e l b h = ap note_stakes b ∙ (h ∙ ((λ i. at_each (both_stakes both_queue) (note_stakes (l i)) (at_one (no_stake idle_queue) chain (e i)))
    ∙ ap (at_each (both_stakes both_queue) (note_stakes old)) (sym (adds.none_last (at_one (no_stake idle_queue) chain (note_stake tty.chain))))))

module _ {Q W : Type 0} {g : Ghosts Q W} (chain : ℕ) (old new : List (ChainEnd Q W g)) where
  pub others_stay : (Does : ChainEnd Q W g → ChainEnd Q W g → Type 0) → OnEnd chain Does old new → (k : ℕ) → k < chain → slice_get new k ≡ slice_get old k
  others_stay Does h k low = ap (λ (z : List (ChainEnd Q W g)). slice_get z k) h.now ∙ slice_get_set_other old chain k h.after (λ e. omega arith)

-- ONE MORE

ports_on : (raw : ℕ) (xs : List RawTty) (x : RawTty) → raw_ports raw (xs ++ x ∷ []) ≡ raw_ports raw xs ++ raw_ports (raw + length xs) (x ∷ [])
ports_on raw [] x = ap (λ (z : ℕ). raw_ports z (x ∷ [])) (omega arith)
ports_on raw (y ∷ xs) x = ap (λ (z : List (Option (Port 64))). Some (port raw (end_of y)) ∷ z) (ports_on (raw + 1) xs x
    ∙ ap (λ (z : ℕ). raw_ports (raw + 1) xs ++ raw_ports z (x ∷ [])) (omega arith))

notes_on : (chain : ℕ) (xs : List RawTty) (x : RawTty) → raw_notes chain (xs ++ x ∷ []) ≡ at_each (both_stakes both_queue) (raw_notes chain xs) (raw_notes (chain + length xs) (x ∷ []))
notes_on chain [] x = ap (λ (z : ℕ). raw_notes z (x ∷ [])) (omega arith) ∙ sym (adds.none_first (raw_notes (chain + length {A = RawTty} []) (x ∷ [])))
notes_on chain (y ∷ xs) x =
    let one : ℕ → Stake AtQueue = at_one (no_stake idle_queue) chain (note_stake y.chain) in
    ap (at_each (both_stakes both_queue) one) (notes_on (chain + 1) xs x)
    ∙ (sym (adds.regroups one (raw_notes (chain + 1) xs) (raw_notes (chain + 1 + length xs) (x ∷ [])))
    ∙ ap (λ (z : ℕ). at_each (both_stakes both_queue) (raw_notes chain (y ∷ xs)) (raw_notes z (x ∷ []))) (omega arith))

chains_both : (chain : ℕ) (xs : List RawTty) (x : RawTty) {Q W : Type 0} {g : Ghosts Q W} (a b c : List (ChainEnd Q W g)) → ChainsGained (raw_notes chain xs) a b → ChainsGained (raw_notes (chain + length xs) (x ∷ [])) b c → ChainsGained (raw_notes chain (xs ++ x ∷ [])) a c
chains_both chain xs x a b c h k = k ∙ (ap (λ z. at_each (both_stakes both_queue) z (raw_notes (chain + length xs) (x ∷ []))) h
    ∙ (adds.regroups (note_stakes a) (raw_notes chain xs) (raw_notes (chain + length xs) (x ∷ [])) ∙ ap (at_each (both_stakes both_queue) (note_stakes a)) (sym (notes_on chain xs x))))

-- one raw tty more
pub raws_more : (raw chain : ℕ) (xs : List RawTty) (x : RawTty) (a b c : Parts) → TookRaws raw chain xs a b → TookRaws (raw + length xs) (chain + length xs) (x ∷ []) b c
    → TookRaws raw chain (xs ++ x ∷ []) a c
raws_more raw chain xs x a b c h k = record {
  small = subst (λ (z : List (Option (Port 64))). Gained z a.queues.small.items c.queues.small.items) (sym (ports_on raw xs x))
      (gained_both (raw_ports raw xs) (raw_ports (raw + length xs) (x ∷ [])) a.queues.small.items b.queues.small.items c.queues.small.items h.small k.small);
  chains = chains_both chain xs x a.chains.items b.chains.items c.chains.items h.chains k.chains;
  before = λ q low. k.before q (omega arith) ∙ h.before q low;
  rest = k.rest ∙ ap (λ (z : Parts). record z { queues = record z.queues { small = c.queues.small }; chains = c.chains }) h.rest;
}

pub raws_none : (raw chain : ℕ) (a : Parts) → TookRaws raw chain [] a a
raws_none raw chain a = record { small = gained_none a.queues.small.items; chains = sym (adds.none_last (note_stakes a.chains.items)); before = λ q low. refl; rest = refl }

-- the next of a list is after those that were drawn
pub next_at : {A : Type 0} (xs : List A) (x : A) (ys all : List A) → xs ++ x ∷ ys ≡ all → slice_get all (length xs) ≡ Some x
next_at xs x ys all e = ap (λ z. slice_get z (length xs)) (sym e) ∙ here xs
  where
    here : (zs : List _) → slice_get (zs ++ x ∷ ys) (length zs) ≡ Some x
    here [] = refl
    here (z ∷ zs) = here zs

-- the joins of raw ttys at equal indexes
pub took_at : (raw raw' chain chain' : ℕ) (ttys : List RawTty) (a b : Parts) → raw' ≡ raw → chain' ≡ chain → TookRaws raw' chain' ttys a b → TookRaws raw chain ttys a b
took_at raw raw' chain chain' ttys a b e e' h = subst (λ (z : ℕ). TookRaws z chain ttys a b) e (subst (λ (z : ℕ). TookRaws raw' z ttys a b) e' h)

pub raw_at : (shared : Shared) (raw raw' chain chain' : ℕ) (tty : RawTty) → raw ≡ raw' → chain ≡ chain' → IsRawAt shared raw' chain' tty → IsRawAt shared raw chain tty
raw_at shared raw raw' chain chain' tty e e' h = subst (λ (z : ℕ). IsRawAt shared z chain tty) (sym e) (subst (λ (z : ℕ). IsRawAt shared raw' z tty) (sym e') h)
