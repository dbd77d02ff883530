-- A claim, a raise and a notify together.
use Rattle.proc_chain.proofs.Common.{◌≡◌, ◌≢◌, ℕ, ◌+◌, ◌<◌, ◌≤◌, ⊎_elim, zero, suc, false, true, List, [], ◌∷◌, ◌++◌, map, length, get_or, set, sym, refl, ap, ◌∙◌, subst, arith, map-append, some, get_elem?, at_last, Batch, AbsState, line_of, load, change, Performed, AllRaised, number_of, with_stage, blank, head_of, at_push, ChainOps, GatedQueue, place_word, with_note, with_raise, with_gate, View, queue_of, Stepped, Found, Raised, run, notes_of, Rests, Carries, head_word, tail_word, gate_word}
use Rattle.table_theory.specs.Batches.{IsPast}
use Rattle.table_theory.specs.Listing.{Distinct}
use Rattle.table_theory.proofs.Listing.{found_by_start}
use Rattle.table_theory.proofs.Moving.{last}
use Rattle.proc_chain.specs.declared.chaining.ChainRefusal.TheVariants as refusals
use Rattle.proc_chain.specs.Notes.{SameNotes, PutNote}
use Rattle.proc_chain.specs.Steps.{Claimed}
use Rattle.proc_chain.specs.Links.{Link}
use Rattle.proc_chain.specs.Answers.{NotChained, ChainedBy, with_run}
use Rattle.proc_chain.proofs.Finding.{head_says, then_step, KeepsSeen, seen_on, seen_step}

-- what was put and taken

pub same_notes : (v w : View) → w.own ≡ v.own → SameNotes v w
same_notes v w is = record { puts = ap (λ (z : ChainOps). map line_of z.runs) is; takes = ap (λ (z : ChainOps). map line_of z.takes) is }

pub put_note : (v w : View) (note head : ℕ) (then : ChainOps → ChainOps) → ((d : ChainOps) → (then d).runs ≡ d.runs) → ((d : ChainOps) → (then d).takes ≡ d.takes) → w.own ≡ then (with_run v.own head note) → PutNote note v w
put_note v w note head then runs takes is = record {
  puts = ap (λ (z : ChainOps). map line_of z.runs) is ∙ (ap (map line_of) (runs (with_run v.own head note)) ∙ map-append line_of v.own.runs _);
  takes = ap (λ (z : ChainOps). map line_of z.takes) is ∙ ap (map line_of) (takes (with_run v.own head note));
}

-- the refusals

-- the head and the tail were loaded
pub both_found : (v l w : View) (head tail : ℕ) (f : Found v head_word head l) (g : Found l tail_word tail w) → Performed v (load head_word head f.0 ∷ load tail_word tail g.0 ∷ []) v.own w
both_found v l w head tail f g = then_step v l w (load head_word head f.0 ∷ []) v.own (load tail_word tail g.0) (λ d. d) f.1.made g.1

-- and then the head again
pub three_found : (v l b w : View) (head tail found : ℕ) (f : Found v head_word head l) (g : Found l tail_word tail b) (e : Found b head_word found w) → Performed v (load head_word head f.0 ∷ load tail_word tail g.0 ∷ load head_word found e.0 ∷ []) v.own w
three_found v l b w head tail found f g e = then_step v b w (load head_word head f.0 ∷ load tail_word tail g.0 ∷ []) v.own (load head_word found e.0) (λ d. d) (both_found v l b head tail f g) e.1

-- another head that is found later is past the first
pub was_lost : (v l b w : View) (head tail found : ℕ) → Found v head_word head l → Found l tail_word tail b → Found b head_word found w → head + 1 < 4294967296 → head + 1 ≤ tail + 32 → found ≢ head → NotChained v (refusals.Lost found) w
was_lost v l b w head tail found f g e bounded room ne = let g' = g.1.meets.grows in let e' = e.1.meets.grows in let a = head_says (load head_word head f.0) refl f.1.real in let c = head_says (load head_word found e.0) refl e.1.real in
    let sf = ap (λ (z : AbsState GatedQueue). head_of z.object.queue) f.1.seen in let sg = ap (λ (z : AbsState GatedQueue). head_of z.object.queue) g.1.seen in
    let x = g'.longer in let y = e'.longer in let p = g'.first in let q = e'.first in
    (head, tail, f.0, g.0, e.0, bounded, omega arith, omega arith, three_found v l b w head tail found f g e)

-- the run that was just claimed
pub claimed_at : (v w : View) (head x : ℕ) → Claimed v head x w → get_elem? w.own.runs (number_of head w.own.runs) ≡ some (run head x)
claimed_at v w head x c = let runs : w.own.runs ≡ v.own.runs ++ run head x ∷ [] = ap (λ (z : ChainOps). z.runs) c.1.made.did in
    let there : get_elem? w.own.runs (length v.own.runs) ≡ some (run head x) = subst (λ (z : List Batch). get_elem? z (length v.own.runs) ≡ some (run head x)) (sym runs) (at_last v.own.runs (run head x) (length v.own.runs) refl) in
    subst (λ (z : ℕ). get_elem? w.own.runs z ≡ some (run head x)) (sym (found_by_start w.own.runs (length v.own.runs) (run head x) c.2 there)) there

pub just_claimed : (v w : View) (head x y : ℕ) → Claimed v head x w → x ≡ y → (e : Batch) × (get_elem? w.own.runs (number_of head w.own.runs) ≡ some e) × (e.start ≡ head) × (0 < length e.places) × ((get_or e.places 0 blank).stage < 2) × ((get_or e.places 0 blank).item ≡ y)
just_claimed v w head x y c is = (run head x, claimed_at v w head x c, refl, omega arith, omega arith, is)

-- the run as it is once it is raised
abbrev pub up_run : ℕ → ℕ → Batch
up_run head x = record { start = head; places = record { item = x; stage = 2 } ∷ [] }

-- all that the end does up to its notify
module _ (v l b w x : View) (head tail note : ℕ) (f : Found v head_word head l) (g : Found l tail_word tail b) (c : Claimed b head note w) (r : Raised w head note (run head note) x) where
  claimed_runs : w.own.runs ≡ v.own.runs ++ run head note ∷ []
  claimed_runs = ap (λ (z : ChainOps). z.runs) c.1.made.did ∙ ap (λ (z : List Batch). z ++ run head note ∷ []) (ap (λ (z : ChainOps). z.runs) g.1.made.did ∙ ap (λ (z : ChainOps). z.runs) f.1.made.did)

  number : number_of head (v.own.runs ++ run head note ∷ []) ≡ length v.own.runs
  number = found_by_start (v.own.runs ++ run head note ∷ []) (length v.own.runs) (run head note) (subst Distinct claimed_runs c.2) (at_last v.own.runs (run head note) (length v.own.runs) refl)

  up_runs : set (v.own.runs ++ run head note ∷ []) (number_of head (v.own.runs ++ run head note ∷ [])) (with_stage (run head note) 0 2) ≡ v.own.runs ++ up_run head note ∷ []
  up_runs = ap (λ (n : ℕ). set (v.own.runs ++ run head note ∷ []) n (up_run head note)) number ∙ last v.own.runs (run head note) (up_run head note)

  raised : ChainOps → ChainOps
  raised d = record d { runs = set d.runs (number_of head d.runs) (with_stage (run head note) 0 2); owes = true }

  pub link : Performed v (load head_word head f.0 ∷ load tail_word tail g.0 ∷ change head_word head c.0 (with_note c.0.object note) ∷ change (place_word head) r.0 r.1 (with_raise r.1.object head note) ∷ []) (record v.own { runs = v.own.runs ++ up_run head note ∷ []; owes = true }) x
  unfolding raised
  link = let three = then_step v b w (load head_word head f.0 ∷ load tail_word tail g.0 ∷ []) v.own (change head_word head c.0 (with_note c.0.object note)) (λ d. record d { runs = d.runs ++ run head note ∷ [] }) (both_found v l b head tail f g) c.1 in
      let four = then_step v w x (load head_word head f.0 ∷ load tail_word tail g.0 ∷ change head_word head c.0 (with_note c.0.object note) ∷ []) (record v.own { runs = v.own.runs ++ run head note ∷ [] }) (change (place_word head) r.0 r.1 (with_raise r.1.object head note)) raised three r.2 in
      record { adds = four.adds; did = four.did ∙ (λ i. record v.own { runs = up_runs i; owes = true }); member = four.member }

  -- and the notify
  module _ (y : View) (gate : ℕ) (m : AbsState GatedQueue) (then : ChainOps → ChainOps) (s : Stepped x (change gate_word gate m (with_gate m.object 2)) (then (record x.own { owes = false })) y) where
    abbrev pub the_link : Link
    the_link = record { head = head; at_head = f.0; tail = tail; at_tail = g.0; at_claim = c.0; was = r.0; at_raise = r.1; gate = gate; at_gate = m }

    pub chained : head + 1 < 4294967296 → head < tail + 32 → ChainedBy v note the_link then y
    chained bounded room = (
      record { room = (bounded, room); past = subst (λ (z : ChainOps). IsPast z.runs head) (g.1.made.did ∙ f.1.made.did) c.3; place = r.3 },
      then_step v x y _ _ (change gate_word gate m (with_gate m.object 2)) (λ d. then (record d { owes = false })) link s,
    )

    pub chained_seen : KeepsSeen v y
    chained_seen = seen_on v x y
        (seen_on v w x (seen_on v b w (seen_on v l b (seen_step v l _ _ f.1 refl) (seen_step l b _ _ g.1 refl) (λ r. ap (λ (z : ChainOps). z.runner) f.1.made.did ∙ r)) (seen_step b w _ _ c.1 refl) (λ r. ap (λ (z : ChainOps). z.runner) (g.1.made.did ∙ f.1.made.did) ∙ r))
        (seen_step w x _ _ r.2 refl) (λ r. ap (λ (z : ChainOps). z.runner) c.1.made.did ∙ (ap (λ (z : ChainOps). z.runner) (g.1.made.did ∙ f.1.made.did) ∙ r)))
        (seen_step x y _ _ s refl) (λ r. ap (λ (z : ChainOps). z.runner) link.did ∙ r)

-- an end that chained a note rests then
pub chained_rests : (v y : View) (note : ℕ) (l : Link) (then : ChainOps → ChainOps) → ChainedBy v note l then y → ((d : ChainOps) → (then d).runs ≡ d.runs) → ((d : ChainOps) → (then d).owes ≡ d.owes) → Rests v → Rests y
chained_rests v y note l then c runs owes h = let up : Batch = up_run l.head note in record {
  one = (λ i. (c.1.member i).ends) ∙ h.one;
  raised = subst AllRaised (sym ((λ i. (c.1.did i).runs) ∙ runs (with_run v.own l.head note))) (λ k e has. ⊎_elim (λ old. h.raised k e old)
      (λ new. subst (λ (z : Batch). (i : ℕ) → i < length z.places → 2 ≤ (get_or z.places i blank).stage) new.1 (λ i b. one_raised i b)) (at_push v.own.runs up e k has));
  settled = (λ i. (c.1.did i).owes) ∙ owes (with_run v.own l.head note);
}
  where
    one_raised : (i : ℕ) → i < 1 → 2 ≤ (get_or (up_run l.head note).places i blank).stage
    one_raised zero h = omega arith
    one_raised (suc i) h = absurd (omega arith)

-- the slot that came with the turn
pub won_slot : {Q : Type 0} (made : Q → List ℕ → Type 0) (fits : Q → Type 0) (v w : View) (m : AbsState GatedQueue) (own : ChainOps) (c d : List (ℕ × Q)) → Stepped v (change gate_word 0 m (with_gate m.object 2)) own w → c ≡ [] → Carries made fits (notes_of m.object.queue) c d → Carries made fits (notes_of (queue_of w)) [] d
won_slot made fits v w m own c d s none_held h = (h.0, h.1 ∙ ap (λ (z : List _). (0, h.0) ∷ z) none_held, subst (made h.0) (ap (λ (z : AbsState GatedQueue). notes_of z.object.queue) (sym s.seen)) h.2, h.3)
