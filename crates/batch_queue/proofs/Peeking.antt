-- The answer of a look at a queue: how far items are published from the tail on.
use Rattle.batch_queue.proofs.Common.{BatchState, Bool, Found, List, Performed, SHUT, Step, View, [], ap, arith, dec_le, dec_lt, dite, phase_at, ◌∙◌, ◌⊎◌, head_word, inl, inr, load, mark_word, refl, subst, sym, tail_word, ℕ, ⊎_elim, ◌%◌, ◌+◌, ◌/◌, ◌<◌, ◌∷◌, ◌≡◌, ◌≤◌}
use Rattle.std.specs.Prelude.{MatchBool}
use Rattle.std.proofs.Math.Dec.{leb}
use Rattle.std.proofs.lemmas.Bool.{le-leb, lt-leb}
use Rattle.table_theory.proofs.Moments.{moment_after, moment_map, moment_now, moment_then, two_of}
use Rattle.table_theory.proofs.Parting.{made_then}
use Rattle.table_theory.specs.declared.views.Part.{Part}
use Rattle.batch_queue.specs.Client.{LookedAt}
use Rattle.batch_queue.specs.Moments.{AtSomeMoment, claimed}
use Rattle.batch_queue.proofs.Claims.{head_open, head_shut}
use Rattle.batch_queue.proofs.Growing.{freed_taken}
use Rattle.batch_queue.proofs.Looking.{found_tail}
use Rattle.batch_queue.proofs.Reporting.{head_is as reported}
use Rattle.batch_queue.proofs.Stepping.{step_real}
use Rattle.batch_queue.proofs.Walking.{edge_within}
use Rattle.batch_queue.proofs.Whole.{batch_end}
use Rattle.batch_queue.specs.Hints.{FoundUp, IsUpTo, Looked}
use Rattle.batch_queue.specs.Walks.{Followed, LeadsOn, Passed, StoppedUp, at_mark}
use Rattle.batch_queue.specs.declared.look.QueueLook.{QueueLook}

-- the mark of the tail did not lead on, or it led too far
pub found_none : (room : ℕ) (v u b : View) (tail mark : ℕ) → 0 < room → Found v tail_word tail u → Found u (mark_word room tail) mark b → (LeadsOn 0 tail mark → mark / 2 ≤ tail + room → ⊥) → FoundUp room tail tail v b
found_none room v u b tail mark some_room x y none = let loads : List (Step BatchState) = load (mark_word room tail) mark b.seen ∷ [] in record {
  at_tail = u.seen;
  loads = loads;
  followed = record { walk = []; leads = tt; end = refl; stop = loads; stops = at_mark (omega arith) mark b.seen none refl; loads_are = refl };
  made = made_then v u b (load tail_word tail u.seen ∷ []) loads v.own (λ d. d) x.made y.made;
}

pub found_up : (room : ℕ) (v u c : View) (tail to : ℕ) → Found v tail_word tail u → Followed 0 (tail + room) room tail to u c → FoundUp room tail to v c
found_up room v u c tail to x f = record {
  at_tail = u.seen;
  loads = f.loads;
  followed = f.by;
  made = made_then v u c (load tail_word tail u.seen ∷ []) f.loads v.own (λ d. d) x.made f.made;
}

pub up_to : (v : View) (tail to : ℕ) → Passed 0 v tail to → IsUpTo v tail to
up_to v tail to h = ⊎_elim (λ past. inl past) (λ all. inr all.0) h

pub up_later : (v w : View) (word found tail to : ℕ) → Found v word found w → IsUpTo v tail to → IsUpTo w tail to
up_later v w word found tail to f h = let g = f.grows in ⊎_elim
    (λ past. inl (let t = g.taken in let l : tail < v.seen.object.taken = past in omega arith))
    (λ all. inr (λ i a b. let x = all i a b in let p = g.phases i in omega arith))
    h

-- a word with the mark of a shut queue, or one without
pub shut_if : (w : ℕ) → MatchBool (leb SHUT w) (SHUT ≤ w) (w < SHUT)
shut_if w = dite (dec_le SHUT w) (λ yes. subst (λ (b : Bool). MatchBool b (SHUT ≤ w) (w < SHUT)) (sym (le-leb SHUT w yes)) yes) (λ no. subst (λ (b : Bool). MatchBool b (SHUT ≤ w) (w < SHUT)) (sym (lt-leb SHUT w (omega arith))) (omega arith))

pub looked : (room : ℕ) (v u w : View) (tail to head : ℕ) {look : QueueLook} → FoundUp room tail to v u → Found u head_word head w → look ≡ record { tail = tail; published = to; head = head % SHUT; shut = leb SHUT head } → MatchBool (leb SHUT head) (SHUT ≤ head) (head < SHUT) → Looked room v look w
looked room v u w tail to head f t is shut = subst (λ (z : QueueLook). Looked room v z w) (sym is) record {
  at_tail = f.at_tail;
  loads = f.loads;
  followed = f.followed;
  head = head;
  at_head = w.seen;
  head_is = refl;
  shut_is = shut;
  made = made_then v u w (load tail_word tail f.at_tail ∷ f.loads) (load head_word head w.seen ∷ []) v.own (λ d. d) f.made t.made;
}

-- THE MOMENTS OF A LOOK

-- where a walk stopped nothing was published, or the tail had moved on
pub up_seen : (room : ℕ) (v u b c : View) (tail mark to : ℕ) → v.first.room ≡ room → Found v tail_word tail u → Found u (mark_word room tail) mark b → c.first ≡ b.first → StoppedUp tail to (tail + room) b c → AtSomeMoment v c (λ o. (tail < o.taken) ⊎ (phase_at o to ≡ 0))
up_seen room v u b c tail mark to rooms x y first s = let before : List (Step BatchState) = load tail_word tail u.seen ∷ load (mark_word room tail) mark b.seen ∷ [] in
    let made : Performed v before v.own b = made_then v u b (load tail_word tail u.seen ∷ []) (load (mark_word room tail) mark b.seen ∷ []) v.own (λ d. d) x.made y.made in
    let all : c.first.room ≡ room = ap (λ (z : BatchState). z.room) first ∙ (ap (λ (z : BatchState). z.room) made.adds.first ∙ rooms) in
    moment_after v b c before _ (ap (λ (z : Part). z.share) made.member) made.adds (moment_map b c _ _ (λ o h. dite (dec_lt tail o.taken) (λ past. inl past) (λ here. ⊎_elim (λ none. inr none)
    (λ t. (let l = h.2 in let same = h.3 in let w = l.within in let a = freed_taken o l in let far = t.2 in let below = edge_within o.batches t.0 (batch_end o.batches _ _ t.1.batch) in absurd (omega arith)))
    (h.4 (omega arith)))) s)

pub tail_then : (v u b c : View) (word tail mark : ℕ) (loads : List (Step BatchState)) → Found v tail_word tail u → Found u word mark b → Performed b loads b.own c → AtSomeMoment v c (λ o. o.taken ≡ tail)
tail_then v u b c word tail mark loads x y m = let one : Step BatchState = load tail_word tail u.seen in
    let made : Performed v (one ∷ load word mark b.seen ∷ loads) v.own c = made_then v b c (one ∷ load word mark b.seen ∷ []) loads v.own (λ d. d) (made_then v u b (one ∷ []) (load word mark b.seen ∷ []) v.own (λ d. d) x.made y.made) m in
    record { before = []; step = one; after = load word mark b.seen ∷ loads; adds = made.adds; holds = sym (found_tail v u tail x).0 }

shut_is : (v w : View) (head : ℕ) → Found v head_word head w → w.seen.object.shut ≡ leb SHUT head
shut_is v w head f = dite (dec_le SHUT head) (λ yes. head_shut v w head f yes ∙ sym (le-leb SHUT head yes)) (λ no. (head_open v w head f (omega arith)).0 ∙ sym (lt-leb SHUT head (omega arith)))

pub looked_at : (room : ℕ) (v u w : View) (tail to head : ℕ) {look : QueueLook} → u.member.share ≡ v.member.share → AtSomeMoment v u (λ o. o.taken ≡ tail) → (to ≡ tail + room) ⊎ AtSomeMoment v u (λ o. (tail < o.taken) ⊎ (phase_at o to ≡ 0)) → Found u head_word head w → look ≡ record { tail = tail; published = to; head = head % SHUT; shut = leb SHUT head } → LookedAt v room look w
looked_at room v u w tail to head share s h f is = subst (λ (z : QueueLook). LookedAt v room z w) (sym is) (
  two_of v u w (λ o. o.taken ≡ tail) (λ later. (claimed later ≡ head % SHUT) × (later.shut ≡ leb SHUT head)) (λ o later. (o.taken ≡ tail) × (claimed later ≡ head % SHUT) × (later.shut ≡ leb SHUT head)) share (λ o later p q. (p, q.0, q.1)) s
      (moment_now u w (load head_word head w.seen) u.own _ f.made (sym (reported (load head_word head w.seen) refl (step_real u w (load head_word head w.seen) u.own f)), shut_is u w head f)),
  ⊎_elim (λ all. inl all) (λ t. inr (moment_then v u w (load head_word head w.seen ∷ []) _ share t f.made.adds)) h,
)
