-- The meaning of a number that was found, for the queue that the end then sees.
use Rattle.claim_queue.proofs.Common.{◌≡◌, ◌≢◌, ℕ, ◌+◌, ◌-◌, ◌<◌, ◌≤◌, false, map, get_or, refl, sym, ap, ◌∙◌, subst, arith, at_map, Cell, Positions, AbsState, load, IsValidStep, Distinct, blank, item_at, stage_at, head_of, tail_of, run_stands, head_word, tail_word, data_word, flag_word, View, of_queues, part_of, InvHeldOf, Found, HasRaised}
use Rattle.table_theory.proofs.Listing.{distinct}
use Rattle.claim_queue.proofs.Lawful.{head_open, tail_says, raised_says, low_says, item_says}
use Rattle.claim_queue.proofs.Stepping.{first_room, step_real}

-- the end's view has the room from the beginning
pub room_of : (w : View) → InvHeldOf w → w.seen.object.room ≡ w.first.room
room_of w r = ap (λ (z : AbsState Positions). z.object.room) r.seen ∙ sym (first_room r.key r.state r.rule r.number w r.here)

-- no two runs of an end have one start
pub distinct_runs : (w : View) → InvHeldOf w → Distinct w.own.runs
distinct_runs w r = distinct r.rule.now.object (map part_of r.state.views) r.number (part_of w) r.rule.listed.lists (at_map part_of r.state.views r.number w r.here)

-- what the end raised, it sees raised
own_raised : (w : View) (i : ℕ) → InvHeldOf w → HasRaised w.own.runs (w.seen.object.first + i) → 2 ≤ stage_at w.seen.object i
own_raised w i r h = let q : Positions = r.rule.now.object in let t = run_stands q (map part_of r.state.views) r.number h.number (part_of w) h.run r.rule.listed.lists (at_map part_of r.state.views r.number w r.here) h.has in
    let same : w.seen.object ≡ q = ap (λ (z : AbsState Positions). z.object) r.seen in let st = t.start in let is = h.is in let up = h.raised in let first = ap (λ (z : Positions). z.first) same in let e : t.at + h.index ≡ i = omega arith in
    let cell : stage_at q (t.at + h.index) ≡ (get_or h.run.places h.index blank).stage = ap (λ (z : Cell). z.stage) (t.same h.index h.below) in
    subst (λ (z : Positions). 2 ≤ stage_at z i) (sym same) (subst (λ (z : ℕ). 2 ≤ stage_at q z) e (let g : 2 ≤ stage_at q (t.at + h.index) = omega arith in g))

-- a number in a word of the place of a position that the end had seen claimed, in a queue of so many places
module _ (v w : View) (word r room position : ℕ) (s : Found v word r w) (rooms : v.first.room ≡ room) (from : v.seen.object.first ≤ position) (to : position < tail_of v.seen.object + room) where
  real : IsValidStep of_queues (load word r w.seen)
  real = step_real v w (load word r w.seen) v.own s

  rooms_now : room ≡ w.seen.object.room
  rooms_now = sym (room_of w s.ruled ∙ (ap (λ (z : Positions). z.room) s.made.adds.first ∙ rooms))

  near : (w.seen.object.first ≤ position) × (position < tail_of w.seen.object + w.seen.object.room)
  near = let first = s.grows.first in let further = s.grows.further in let room = rooms_now in (omega arith, omega arith)

  pub flag_raised : word ≡ flag_word room position → r ≡ position + 1 → 2 ≤ stage_at w.seen.object (position - w.seen.object.first)
  flag_raised at is = raised_says (load word r w.seen) position (at ∙ ap (λ z. flag_word z position) rooms_now) real near.0 near.1 is

  pub flag_low : word ≡ flag_word room position → r ≢ position + 1 → tail_of w.seen.object ≤ position → stage_at w.seen.object (position - w.seen.object.first) < 2
  flag_low at is past = low_says (load word r w.seen) position (at ∙ ap (λ z. flag_word z position) rooms_now) real past near.1 is

  pub flag_not_mine : word ≡ flag_word room position → r ≢ position + 1 → tail_of w.seen.object ≤ position → HasRaised w.own.runs position → ⊥
  flag_not_mine at is past h = let low = flag_low at is past in let first = near.0 in let e : w.seen.object.first + (position - w.seen.object.first) ≡ position = omega arith in
      let up = own_raised w (position - w.seen.object.first) s.ruled (subst (HasRaised w.own.runs) (sym e) h) in absurd (omega arith)

  pub data_item : word ≡ data_word room position → 2 ≤ stage_at v.seen.object (position - v.seen.object.first) → tail_of w.seen.object ≤ position → r ≡ item_at w.seen.object (position - w.seen.object.first)
  data_item at up past = let first = s.grows.first in let more = s.grows.more (position - v.seen.object.first) in let same : position - v.seen.object.first ≡ position - w.seen.object.first = omega arith in
      item_says (load word r w.seen) position (at ∙ ap (λ z. data_word z position) rooms_now) real past near.1 (subst (λ (z : ℕ). 1 ≤ stage_at w.seen.object z) same (let g : 1 ≤ stage_at w.seen.object (position - v.seen.object.first) = omega arith in g))

-- a head that was found without the mark is that of an open queue
pub found_head : (v w : View) (head : ℕ) → Found v head_word head w → head < 4294967296 → (w.seen.object.shut ≡ false) × (head ≡ head_of w.seen.object)
found_head v w head f bounded = head_open head w.seen (step_real v w (load head_word head w.seen) v.own f) bounded

pub found_tail : (v w : View) (tail : ℕ) → Found v tail_word tail w → (tail ≡ tail_of w.seen.object) × (tail < 4294967296)
found_tail v w tail f = let r = step_real v w (load tail_word tail w.seen) v.own f in let is = tail_says (load tail_word tail w.seen) refl r in let bounded = r.shows.bounded in let following = r.lawful.taken_within in (is, omega arith)
