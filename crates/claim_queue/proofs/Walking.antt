-- Walks over the flags from the tail on, and the answer of a look at the queue.
use Rattle.claim_queue.proofs.Common.{◌≡◌, ◌≢◌, ℕ, suc, ◌+◌, ◌-◌, ◌%◌, ◌<◌, ◌≤◌, Bool, true, false, List, [], ◌∷◌, ◌++◌, length, sym, refl, ap, ◌∙◌, subst, arith, length-append, dite, dec_lt, Positions, AbsState, Step, load, IsValidStep, Performed, Grows, stage_at, head_of, tail_of, made_none, made_then, View, of_queues, head_word, tail_word, flag_word, mark, Found}
use Rattle.std.specs.Prelude.{min}
use Rattle.std.proofs.Math.Dec.{leb}
use Rattle.std.proofs.lemmas.Bool.{le-leb, lt-leb}
use Rattle.claim_queue.specs.declared.look.QueueLook.{QueueLook}
use Rattle.claim_queue.specs.Client.{LookedAt}
use Rattle.claim_queue.specs.Walks.{raised_flags, at_gap, FlagWalk, HasWalked, AreRaised, IsNotRaised, LookAgrees, HasLooked}
use Rattle.claim_queue.proofs.Following.{then_look}
use Rattle.claim_queue.proofs.Lawful.{head_says}
use Rattle.claim_queue.proofs.Reading.{found_tail}
use Rattle.claim_queue.proofs.Settling.{low_of}
use Rattle.claim_queue.proofs.Stepping.{step_real}

-- a walk that goes on: so many flags were found raised
pub record Walking (room tail n : ℕ) (v w : View) : Type 0 where
  pub raised : List (AbsState Positions)
  pub count_is : length raised ≡ n
  pub made : Performed v (raised_flags room tail raised) v.own w

raised_on : (room p : ℕ) (xs : List (AbsState Positions)) (m : AbsState Positions) → raised_flags room p (xs ++ m ∷ []) ≡ raised_flags room p xs ++ load (flag_word room (p + length xs)) (p + length xs + 1) m ∷ []
raised_on room p [] m = ap (λ (z : ℕ). load (flag_word room z) (z + 1) m ∷ []) (let e : p ≡ p + 0 = omega arith in e)
raised_on room p (x ∷ xs) m = ap (λ (z : List (Step Positions)). load (flag_word room p) (p + 1) x ∷ z)
    (raised_on room (p + 1) xs m ∙ ap (λ (z : ℕ). raised_flags room (p + 1) xs ++ load (flag_word room z) (z + 1) m ∷ []) (let e : p + 1 + length xs ≡ p + suc (length xs) = omega arith in e))

pub none_walked : (room tail : ℕ) (v : View) → Walking room tail 0 v v
none_walked room tail v = record { raised = []; count_is = refl; made = made_none v }

pub walked_more : (room tail n flag : ℕ) (t u w : View) → Walking room tail n t u → Found u (flag_word room (tail + n)) flag w → flag ≡ tail + n + 1 → Walking room tail (n + 1) t w
walked_more room tail n flag t u w k f is = let xs = k.raised in let l = k.count_is in let n' = length-append xs (w.seen ∷ []) in
    let entries : raised_flags room tail xs ++ load (flag_word room (tail + n)) flag w.seen ∷ [] ≡ raised_flags room tail (xs ++ w.seen ∷ []) =
    ap (λ (z : ℕ). raised_flags room tail xs ++ load (flag_word room (tail + n)) z w.seen ∷ []) is
    ∙ (ap (λ (z : ℕ). raised_flags room tail xs ++ load (flag_word room (tail + z)) (tail + z + 1) w.seen ∷ []) (sym l) ∙ sym (raised_on room tail xs w.seen)) in record {
      raised = xs ++ w.seen ∷ [];
      count_is = omega arith;
      made = subst (λ (z : List (Step Positions)). Performed t z t.own w) entries (then_look t u w (raised_flags room tail xs) (flag_word room (tail + n)) flag k.made f);
    }

-- the next flag was found not raised
pub walked_to_gap : (room tail most n flag : ℕ) (t u w : View) → Walking room tail n t u → n < most → Found u (flag_word room (tail + n)) flag w → flag ≢ tail + n + 1 → HasWalked room tail most n t w
walked_to_gap room tail most n flag t u w k below f ne = let last : List (Step Positions) = load (flag_word room (tail + n)) flag w.seen ∷ [] in record {
  loads = raised_flags room tail k.raised ++ last;
  walked = record { raised = k.raised; count_is = k.count_is; last = last; ends = at_gap flag w.seen below ne refl; loads_are = refl };
  made = then_look t u w (raised_flags room tail k.raised) (flag_word room (tail + n)) flag k.made f;
}

-- what was found raised stays so, through a load
pub still_raised : (v w : View) (tail n word r : ℕ) → Found v word r w → AreRaised v.seen.object tail n → AreRaised w.seen.object tail n
still_raised v w tail n word r f up = λ i h. let first = f.grows.first in let u = up i h in let m = f.grows.more (tail - v.seen.object.first + i) in
    let at : tail - v.seen.object.first ≡ tail - w.seen.object.first = omega arith in subst (λ (z : ℕ). 2 ≤ stage_at w.seen.object (z + i)) at (let y : 2 ≤ stage_at w.seen.object (tail - v.seen.object.first + i) = omega arith in y)

-- and the next place was found raised
pub raised_more : (v w : View) (tail n word r : ℕ) → Found v word r w → v.seen.object.first ≤ tail → AreRaised v.seen.object tail n → 2 ≤ stage_at w.seen.object (tail + n - w.seen.object.first) → AreRaised w.seen.object tail (n + 1)
raised_more v w tail n word r f from up next = λ i h. let first = f.grows.first in
    dite (dec_lt i n) (λ y. still_raised v w tail n word r f up i y) (λ no. let e : tail + n - w.seen.object.first ≡ tail - w.seen.object.first + i = omega arith in subst (λ (z : ℕ). 2 ≤ stage_at w.seen.object z) e next)

-- the head and the mark in a head word
pub parts_of : (n word : ℕ) (b : Bool) → n < 4294967296 → word ≡ n + mark b → (word % 4294967296 ≡ n) × (leb 4294967296 word ≡ b)
parts_of n word true bounded is = (low_of n word true bounded is, le-leb 4294967296 word (omega arith))
parts_of n word false bounded is = (low_of n word false bounded is, lt-leb 4294967296 word (omega arith))

-- the tail was loaded, and then the head
module _ (v u w : View) (tail word : ℕ) (x : Found v tail_word tail u) (y : Found u head_word word w) where
  real : IsValidStep of_queues (load head_word word w.seen)
  real = step_real u w (load head_word word w.seen) u.own y

  says : (word ≡ head_of w.seen.object + mark w.seen.object.shut) × (head_of w.seen.object < 4294967296)
  says = head_says (load head_word word w.seen) refl real

  parts : (word % 4294967296 ≡ head_of w.seen.object) × (leb 4294967296 word ≡ w.seen.object.shut)
  parts = parts_of (head_of w.seen.object) word w.seen.object.shut says.1 says.0

  whole : word % 4294967296 + mark (leb 4294967296 word) ≡ word
  whole = (λ i. parts.0 i + mark (parts.1 i)) ∙ sym says.0

  -- that tail is none before the first position, and the queue's has not gone back
  pub tail_stands : (w.seen.object.first ≤ tail) × (tail ≤ tail_of w.seen.object) × (tail < 4294967296)
  tail_stands = let t = found_tail v u tail x in let is = t.0 in let first = y.grows.first in let further = y.grows.further in (omega arith, omega arith, t.1)

  pub head_past : tail ≤ word % 4294967296
  head_past = let t = tail_stands in let low = t.1 in let is = parts.0 in let following = real.lawful.taken_within in omega arith

  module _ (room most raised : ℕ) (z : View) (is : most ≡ min room (word % 4294967296 - tail)) where
    abbrev look : QueueLook
    look = record { tail = tail; head = word % 4294967296; shut = leb 4294967296 word; raised = raised }

    pub says_of : Grows w.seen.object z.seen.object → raised ≤ most → AreRaised z.seen.object tail raised → (raised < most → IsNotRaised z.seen.object (tail + raised)) → LookAgrees room look z.seen.object
    says_of g within up next = let t = tail_stands in let first = g.first in let further = g.further in let longer = g.longer in let head = parts.0 in let from = t.0 in let low = t.1 in record {
      ordered = head_past;
      first = omega arith;
      tail = omega arith;
      head = omega arith;
      shut = λ marked. g.shut (sym parts.1 ∙ marked);
      within = subst (λ (m : ℕ). raised ≤ m) is within;
      raised = up;
      next = λ fewer. next (subst (λ (m : ℕ). raised < m) (sym is) fewer);
    }

    pub looked_at : HasWalked room tail most raised w z → HasLooked room v look z
    looked_at k = record {
      at_tail = u.seen;
      at_head = w.seen;
      flags = k.loads;
      walked = subst (λ (m : ℕ). FlagWalk room tail m raised k.loads) is k.walked;
      made = subst (λ (h : ℕ). Performed v (load tail_word tail u.seen ∷ load head_word h w.seen ∷ k.loads) v.own z) (sym whole)
          (made_then v u z (load tail_word tail u.seen ∷ []) (load head_word word w.seen ∷ k.loads) v.own (λ d. d) x.made (made_then u w z (load head_word word w.seen ∷ []) k.loads u.own (λ d. d) y.made k.made));
    }

    -- the tail was loaded at one moment, and the head and the shut mark at a later one
    pub looked_moments : HasWalked room tail most raised w z → LookedAt v look z
    looked_moments k = let m = made_then v u z (load tail_word tail u.seen ∷ []) (load head_word word w.seen ∷ k.loads) v.own (λ d. d) x.made (made_then u w z (load head_word word w.seen ∷ []) k.loads u.own (λ d. d) y.made k.made) in record {
      before = [];
      first = load tail_word tail u.seen;
      between = [];
      second = load head_word word w.seen;
      after = k.loads;
      adds = m.adds;
      holds = (sym (found_tail v u tail x).0, sym parts.0, sym parts.1);
    }
