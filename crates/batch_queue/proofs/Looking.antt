-- The meaning of the numbers that were found, for the queue.
use Rattle.batch_queue.proofs.Common.{BatchState, Bool, EndRecord, Found, Freed, Grows, HasBack, IsEdge, InvHeldOf, List, Performed, Lawful, AbsState, POSITIONS, Step, Stepped, View, [], ap, arith, at_map, change, dite, false, free_word, inr, items_of, length, load, map, of_batches, part_of, refl, subst, sym, tail_word, true, with_freed, ℕ, ℕ_discrete, ◌++◌, ◌+◌, ◌∷◌, ◌<◌, ◌≤◌, ◌≢◌, ◌∙◌, ◌≡◌}
use Rattle.table_theory.proofs.Reaching.{passes_some}
use Rattle.table_theory.proofs.Listing.{distinct}
use Rattle.table_theory.proofs.Parting.{made_then}
use Rattle.table_theory.specs.Listing.{Distinct}
use Rattle.table_theory.specs.declared.views.Part.{Part}
use Rattle.batch_queue.specs.Moments.{AtSomeMoment, BeforeChanges, ChangedByOthers, IsGivenBackTo}
use Rattle.batch_queue.specs.Walks.{StoppedAt, Followed, Helped, HelpedBy, LookedFree, exchanged, still, overtaken, at_once, by_help}
use Rattle.batch_queue.proofs.Growing.{freed_taken, grows_trans, real_grows, taken_claimed}
use Rattle.table_theory.proofs.Moments.{moment_after, moment_map, moment_then}
use Rattle.batch_queue.proofs.Quiet.{others_by, quiet_map}
use Rattle.batch_queue.proofs.Stepping.{honest, step_real}
use Rattle.batch_queue.proofs.Walking.{found_real}

-- what the end sees is lawful, and its positions are within the bounds
pub seen_lawful : (w : View) → InvHeldOf w → Lawful w.seen.object
seen_lawful w r = subst (λ (z : AbsState BatchState). Lawful z.object) (sym r.seen) r.rule.stands.lawful

pub seen_bounded : (w : View) → InvHeldOf w → length (items_of w.seen.object) < POSITIONS
seen_bounded w r = subst (λ (z : AbsState BatchState). length (items_of z.object) < POSITIONS) (sym r.seen) r.rule.stands.shows.bounded

pub freed_bounded : (w : View) → InvHeldOf w → w.seen.object.freed < POSITIONS
freed_bounded w r = let l = seen_lawful w r in let a = freed_taken w.seen.object l in let b = taken_claimed w.seen.object l in let c = seen_bounded w r in omega arith

-- no two runs of an end have one start
pub distinct_runs : (w : View) → InvHeldOf w → Distinct w.own.runs
distinct_runs w r = distinct _ (map part_of r.state.views) r.number (part_of w) r.rule.listed.lists (at_map part_of r.state.views r.number w r.here)

-- the end sees what its last step left
pub step_next : (v w : View) (e : Step BatchState) (own : EndRecord) → Stepped v e own w → e.next ≡ w.seen
step_next v w e own s = (passes_some of_batches v w (e ∷ []) (honest w s.ruled) s.made.adds).1.2

pub found_free : (v w : View) (r : ℕ) → Found v free_word r w → (r ≡ w.seen.object.freed) × (r < POSITIONS)
found_free v w r f = let real = found_real v w free_word r f in let is = real.is ∙ real.shows.free in let a = freed_taken w.seen.object real.lawful in let b = taken_claimed w.seen.object real.lawful in let c = real.shows.bounded in (is, omega arith)

pub found_tail : (v w : View) (r : ℕ) → Found v tail_word r w → (r ≡ w.seen.object.taken) × (r < POSITIONS)
found_tail v w r f = let real = found_real v w tail_word r f in let is = real.is ∙ real.shows.tail in let b = taken_claimed w.seen.object real.lawful in let c = real.shows.bounded in (is, omega arith)

-- MOVING THE FREE POSITION

-- it was found again
pub free_again : (v w : View) (free r : ℕ) → Found v free_word r w → r ≡ free → free ≤ v.seen.object.freed → v.seen.object.freed ≡ free
free_again v w free r f is low = let e = (found_free v w r f).0 in let g = f.grows.freed in omega arith

-- it was exchanged
pub free_moved : (v w : View) (free to : ℕ) → Freed v free to w → free ≤ v.seen.object.freed → (v.seen.object.freed ≡ free) × (to ≡ w.seen.object.freed) × (to < POSITIONS)
free_moved v w free to (at, step) low = let e : Step BatchState = change free_word free at (with_freed at.object to) in let real = step_real v w e v.own step in let is = real.is ∙ real.shows.free in let g = step.grows.freed in
    let now : to ≡ w.seen.object.freed = ap (λ (z : AbsState BatchState). z.object.freed) (step_next v w e v.own step) in let b = freed_bounded w step.ruled in (omega arith, now, omega arith)

-- the queue as it was then grew to what the end sees
pub freed_grows : (v w : View) (free to : ℕ) → Freed v free to w → Grows v.seen.object w.seen.object
freed_grows v w free to (at, step) = let e : Step BatchState = change free_word free at (with_freed at.object to) in let real = step_real v w e v.own step in
    grows_trans v.seen.object at.object w.seen.object step.grows (subst (λ (z : AbsState BatchState). Grows at.object z.object) (step_next v w e v.own step) (real_grows e real))

-- another was found
pub free_passed : (v w : View) (free r : ℕ) → Found v free_word r w → r ≢ free → free ≤ v.seen.object.freed → (free < r) × (r ≡ w.seen.object.freed) × (r < POSITIONS)
free_passed v w free r f ne low = let e = found_free v w r f in let is = e.0 in let g = f.grows.freed in (omega arith, e.0, e.1)

-- at the moment of that step it was further on
pub free_past : (v w : View) (free r : ℕ) → Found v free_word r w → r ≢ free → free ≤ v.seen.object.freed → BeforeChanges v w (λ o. (free < o.freed) × (o.freed ≡ r))
free_past v w free r f ne low = record {
  moment = record { before = []; step = load free_word r w.seen; after = []; adds = f.made.adds; holds = (let p = free_passed v w free r f ne low in let is = p.1 in let less = p.0 in (omega arith, sym is)) };
  quiet = tt;
}

pub helped_none : (v w : View) (free to r : ℕ) → to ≡ free → free ≤ v.seen.object.freed → Found v free_word r w → Helped free to r v w
helped_none v w free to r same low f = record {
  last = load free_word r w.seen;
  by = dite (ℕ_discrete r free) (λ e. still (sym same) e w.seen (ap (λ (z : ℕ). load free_word z w.seen) e)) (λ ne. overtaken (free_passed v w free r f ne low).0 w.seen refl);
  made = f.made;
}

pub helped_on : (v w : View) (free to r : ℕ) → free < to → r ≡ free → Freed v free to w → Helped free to r v w
helped_on v w free to r less is (at, step) = record { last = change free_word free at (with_freed at.object to); by = exchanged less is at refl; made = step.made }

pub helped_not : (v w : View) (free to r : ℕ) → r ≢ free → free ≤ v.seen.object.freed → Found v free_word r w → Helped free to r v w
helped_not v w free to r ne low f = record { last = load free_word r w.seen; by = overtaken (free_passed v w free r f ne low).0 w.seen refl; made = f.made }

-- THE WHOLE LOOK

pub helped_by : (room free to found : ℕ) (v u w : View) → Followed 1 (free + room) room free to v u → Helped free to found u w → found ≡ free → HelpedBy room free to false v w
helped_by room free to found v u w f h is = record {
  entries = f.loads ++ h.last ∷ [];
  by = record { to = to; found = found; loads = f.loads; followed = f.by; last = h.last; by = h.by; is = (refl, is); entries_are = refl };
  made = made_then v u w f.loads (h.last ∷ []) v.own (λ d. d) f.made h.made;
}

pub overtaken_by : (room free to found : ℕ) (v u w : View) → Followed 1 (free + room) room free to v u → Helped free to found u w → free < found → HelpedBy room free found true v w
overtaken_by room free to found v u w f h past = record {
  entries = f.loads ++ h.last ∷ [];
  by = record { to = to; found = found; loads = f.loads; followed = f.by; last = h.last; by = h.by; is = (refl, past); entries_are = refl };
  made = made_then v u w f.loads (h.last ∷ []) v.own (λ d. d) f.made h.made;
}

pub looked_once : (room new free : ℕ) (v w : View) → Found v free_word free w → new ≤ free + room → LookedFree room new free false v w
looked_once room new free v w f fits = record { entries = load free_word free w.seen ∷ []; by = at_once fits refl w.seen refl; made = f.made }

pub looked_help : (room new first free : ℕ) (moved : Bool) (v u w : View) → Found v free_word first u → first + room < new → HelpedBy room first free moved u w → LookedFree room new free moved v w
looked_help room new first free moved v u w f less h = record {
  entries = load free_word first u.seen ∷ h.entries;
  by = by_help first u.seen h.entries less h.by refl;
  made = made_then v u w (load free_word first u.seen ∷ []) h.entries v.own (λ d. d) f.made h.made;
}

-- nothing further on was given back at one moment of the help
pub exact_help : (room free to : ℕ) (v u w : View) (loads ys : List (Step BatchState)) → Performed v loads v.own u → Performed u ys v.own w → u.seen.object.freed ≡ free → StoppedAt free to v u → AtSomeMoment v w (λ o. Grows v.seen.object o × IsGivenBackTo o to)
exact_help room free to v u w loads ys m n is s = moment_then v u w ys _ (ap (λ (z : Part). z.share) m.member) (moment_map v u _ _ (λ o h. let g = h.1.freed in (h.0, h.2 (omega arith))) s) n.adds

-- the same, of the whole look
pub exact_look : (room new first free : ℕ) (moved : Bool) (v u w : View) → Found v free_word first u → AtSomeMoment u w (λ o. Grows u.seen.object o × IsGivenBackTo o free) → AtSomeMoment v w (λ o. Grows v.seen.object o × IsGivenBackTo o free)
exact_look room new first free moved v u w f s = moment_map v w _ _ (λ o h. (grows_trans v.seen.object u.seen.object o f.grows h.0, h.1))
    (moment_after v u w _ _ (ap (λ (z : Part). z.share) f.made.member) f.made.adds s)

-- at the free position a walk begins
pub none_given : (v w : View) (free : ℕ) → Found v free_word free w → HasBack w free free
none_given v w free f = inr ((λ i a b. absurd (omega arith)), subst (IsEdge w.seen.object.takings) (sym (found_free v w free f).0) (seen_lawful w f.ruled).freed_edge)

-- another end moved the free position on
pub passed_look : (v u w : View) (first free : ℕ) → Found v free_word first u → BeforeChanges u w (λ o. (first < o.freed) × (o.freed ≡ free)) → ChangedByOthers v w (λ o later. (o.freed < later.freed) × (later.freed ≡ free))
passed_look v u w first free f s = others_by v u w (load free_word first u.seen) v.own (λ o later. (o.freed < later.freed) × (later.freed ≡ free)) f.made refl (quiet_map u w _ _ (λ o h. (let is = (found_free v u first f).0 in let less = h.0 in (omega arith, h.1))) s)
