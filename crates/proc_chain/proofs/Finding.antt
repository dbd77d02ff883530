-- The meaning of the numbers that a step found, and what the steps of an end leave unchanged.
use Rattle.proc_chain.proofs.Common.{◌≡◌, ◌≢◌, ℕ, ◌+◌, ◌/◌, ◌%◌, ◌<◌, ◌≤◌, true, false, List, [], ◌∷◌, ◌++◌, length, get_or, sym, refl, ap, ◌∙◌, subst, arith, true≢false, props, ∥∥₁_elim, Me, Positions, AbsState, Step, load, Performed, IsValidStep, AllRaised, item_at, stage_at, Grows, head_of, tail_of, spot, made_on, grows_trans, found_not_raised, ChainOps, GatedQueue, place_word, note_in, mark_in, notes_of, View, of_chains, queue_of, IsValidChainView, Rests, Stepped, Found, Carries, HasSlot, IsRunner, KeepsTaken, head_word, tail_word, gate_word, FIRST_PLACE}
use Rattle.table_theory.proofs.Windows.{found_raised}
use Rattle.proc_chain.proofs.Becoming.{real_grows}
use Rattle.proc_chain.proofs.Gates.{notes_same}

-- the number in the head, the tail or the gate
pub head_says : (e : Step GatedQueue) → e.word ≡ head_word → IsValidStep of_chains e → e.found ≡ head_of e.then.object.queue
head_says e is r = r.is ∙ (ap (λ (z : ℕ). get_or r.words z 0) is ∙ r.shows.0.head)

pub tail_says : (e : Step GatedQueue) → e.word ≡ tail_word → IsValidStep of_chains e → e.found ≡ tail_of e.then.object.queue
tail_says e is r = r.is ∙ (ap (λ (z : ℕ). get_or r.words z 0) is ∙ r.shows.0.tail)

pub gate_says : (e : Step GatedQueue) → e.word ≡ gate_word → IsValidStep of_chains e → e.found ≡ e.then.object.gate
gate_says e is r = r.is ∙ (ap (λ (z : ℕ). get_or r.words z 0) is ∙ r.shows.1)

-- the number in the place of a position that is left or may be claimed next
module _ (e : Step GatedQueue) (i : ℕ) (r : IsValidStep of_chains e) (is : e.word ≡ place_word (e.then.object.queue.first + i)) (from : e.then.object.queue.taken ≤ i) where
  abbrev q : Positions
  q = e.then.object.queue

  place_is : place_word (q.first + i) ≡ spot q i + FIRST_PLACE
  place_is = let room = r.shows.0.room in λ z. (q.first + i) % sym room z + FIRST_PLACE

  at_place : e.found ≡ get_or r.words (spot q i + FIRST_PLACE) 0
  at_place = r.is ∙ ap (λ (z : ℕ). get_or r.words z 0) (is ∙ place_is)

  pub mark_says : i < q.taken + q.room → e.found / 65536 ≡ q.first + i + 1 → 2 ≤ stage_at q i
  mark_says within marked = found_raised q (mark_in r.words) (note_in r.words) i r.shows.0.window r.lawful.0 within (ap (λ (z : ℕ). z / 65536) (sym at_place) ∙ marked)

  pub note_says : 2 ≤ stage_at q i → i < q.taken + q.room → e.found % 65536 ≡ item_at q i
  note_says up within = ap (λ (z : ℕ). z % 65536) at_place ∙ (r.shows.0.window.each i from within).holds (omega arith)

  pub low_says : i < q.taken + q.room → e.found / 65536 ≢ q.first + i + 1 → stage_at q i < 2
  low_says within miss = found_not_raised q (mark_in r.words) (note_in r.words) i r.shows.0.window from within (λ h. miss (ap (λ (z : ℕ). z / 65536) at_place ∙ h))

-- what the end sees after it found the tail
pub tail_found : (v w : View) (tail : ℕ) → Found v tail_word tail w → (tail ≡ tail_of (queue_of w)) × (tail < 4294967296)
tail_found v w tail f = let e = tail_says (load tail_word tail f.0) refl f.1.real in let b = f.1.real.shows.0.bounded in let following = f.1.real.lawful.0.taken_within in (e ∙ ap (λ (z : AbsState GatedQueue). tail_of z.object.queue) (sym f.1.seen), omega arith)

-- one step more
pub then_step : (v u w : View) (es : List (Step GatedQueue)) (one : ChainOps) (e : Step GatedQueue) (f : ChainOps → ChainOps) → Performed v es one u → Stepped u e (f u.own) w → Performed v (es ++ e ∷ []) (f one) w
then_step v u w es one e f a b = made_on v u w es (e ∷ []) one (f one) a record { adds = b.made.adds; did = b.made.did ∙ ap f a.did; member = b.made.member }

-- The view of an end after steps by which it took nothing: if it has the turn, no other end took either
pub record KeepsSeen (v w : View) : Type 0 where
  pub grows : Grows (queue_of v) (queue_of w)
  pub taken : KeepsTaken v w
  pub member : w.member ≡ v.member

pub seen_on : (u v w : View) → KeepsSeen u v → KeepsSeen v w → (u.own.runner ≡ true → v.own.runner ≡ true) → KeepsSeen u w
seen_on u v w a b runner = record { grows = grows_trans (queue_of u) (queue_of v) (queue_of w) a.grows b.grows; taken = λ r. b.taken (runner r) ∙ a.taken r; member = b.member ∙ a.member }

pub seen_step : (v w : View) (e : Step GatedQueue) (own : ChainOps) → Stepped v e own w → e.next.object.queue.taken ≡ e.then.object.queue.taken → KeepsSeen v w
seen_step v w e own s same = let is : queue_of w ≡ e.next.object.queue = ap (λ (z : AbsState GatedQueue). z.object.queue) s.seen in record {
  grows = subst (Grows (queue_of v)) (sym is) (grows_trans (queue_of v) e.then.object.queue e.next.object.queue s.meets.grows (real_grows e s.real));
  taken = λ r. ap (λ (z : Positions). z.taken) is ∙ (same ∙ s.meets.turn r);
  member = s.made.member;
}

-- the end only looked
pub record OnlyLoads (v w : View) : Type 0 where
  pub seen : KeepsSeen v w
  pub own : w.own ≡ v.own

pub looks_found : (v w : View) (word found : ℕ) → Found v word found w → OnlyLoads v w
looks_found v w word found f = record { seen = seen_step v w (load word found f.0) v.own f.1 refl; own = f.1.made.did }

pub looks_on : (u v w : View) → OnlyLoads u v → OnlyLoads v w → OnlyLoads u w
looks_on u v w a b = record { seen = seen_on u v w a.seen b.seen (λ r. ap (λ (z : ChainOps). z.runner) a.own ∙ r); own = b.own ∙ a.own }

-- an end that rests rests on
pub rests_on : (v w : View) → w.member.ends ≡ v.member.ends → w.own.runs ≡ v.own.runs → w.own.owes ≡ v.own.owes → Rests v → Rests w
rests_on v w ends runs owes h = record { one = ends ∙ h.one; raised = subst AllRaised (sym runs) h.raised; settled = owes ∙ h.settled }

-- what is taken was put
pub reported_after : (v : View) → ∥ IsValidChainView v ∥₁ → (queue_of v).taken ≤ length (queue_of v).places
reported_after v t = ∥∥₁_elim t (search props) (λ (h : IsValidChainView v). h.lawful.0.taken_within)

-- the notes taken are unchanged if the end has the turn
pub seen_notes : (v w : View) → KeepsSeen v w → (queue_of v).taken ≤ length (queue_of v).places → v.own.runner ≡ true → notes_of (queue_of w) ≡ notes_of (queue_of v)
seen_notes v w s following r = notes_same (queue_of v) (queue_of w) s.grows (s.taken r) following

module _ {Q : Type 0} (made : Q → List ℕ → Type 0) (fits : Q → Type 0) where
  pub carries_notes : (ns ms : List ℕ) (c d : List (ℕ × Q)) → ms ≡ ns → d ≡ c → Carries made fits ns [] c → Carries made fits ms [] d
  carries_notes ns ms c d same held h = (h.0, held ∙ h.1, subst (made h.0) (sym same) h.2, h.3)

  -- what the end holds of the slot, after steps that leave its turn
  pub slot_on : (v w : View) (c d : List (ℕ × Q)) → (v.own.runner ≡ true → notes_of (queue_of w) ≡ notes_of (queue_of v)) → w.own.runner ≡ v.own.runner → d ≡ c → HasSlot made fits (v, c) → HasSlot made fits (w, d)
  slot_on v w c d notes runner held h = ((λ r. let r' = sym runner ∙ r in carries_notes (notes_of (queue_of v)) (notes_of (queue_of w)) c d (notes r') held (h.0 r')), λ r. held ∙ h.1 (sym runner ∙ r))

  -- a runner that took nothing runs on
  pub runner_on : (m m' : Me Q View) → KeepsSeen m.0 m'.0 → IsValidChainView m'.0 → m'.0.own.runner ≡ m.0.own.runner → m'.1 ≡ m.1 → IsRunner made fits m → IsRunner made fits m'
  runner_on m m' s valid runner held r = record {
    live = subst (λ (z : ℕ). 1 ≤ z) (λ i. (sym s.member i).ends) r.live;
    runner = runner ∙ r.runner;
    taken_within = valid.lawful.0.taken_within;
    carries = carries_notes (notes_of (queue_of m.0)) (notes_of (queue_of m'.0)) m.1 m'.1 (seen_notes m.0 m'.0 s r.taken_within r.runner) held r.carries;
  }

  -- an end with the turn, that rests
  pub end_runs : (m : Me Q View) → Rests m.0 → ∥ IsValidChainView m.0 ∥₁ → m.0.own.runner ≡ true → HasSlot made fits m → IsRunner made fits m
  end_runs m rests valid runner h = record { live = subst (λ (z : ℕ). 1 ≤ z) (sym rests.one) (omega arith); runner = runner; taken_within = reported_after m.0 valid; carries = h.0 runner }

  -- an end with no turn that holds nothing, and one with the turn and the quaject
  pub slot_down : (m : Me Q View) → m.0.own.runner ≡ false → m.1 ≡ [] → HasSlot made fits m
  slot_down m r none_held = ((λ t. absurd (true≢false (sym t ∙ r))), λ _. none_held)

  pub slot_up : (m : Me Q View) → m.0.own.runner ≡ true → Carries made fits (notes_of (queue_of m.0)) [] m.1 → HasSlot made fits m
  slot_up m r carries = ((λ _. carries), λ t. absurd (true≢false (sym r ∙ t)))
