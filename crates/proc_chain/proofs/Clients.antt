-- The lemmas of the clauses for clients: the steps of a call, in order, and the notes that were run.
use Rattle.proc_chain.proofs.Common.{dite, dec_lt, inl, inr, ◌⊎◌, ◌≡◌, ◌≢◌, ℕ, ◌+◌, ◌-◌, ◌<◌, ◌≤◌, ◌/◌, zero, suc, Option, true, false, Bool, List, [], ◌∷◌, ◌++◌, map, length, set, sym, refl, ap, ◌∙◌, subst, arith, Cell, Positions, AbsState, Part, line_of, Step, load, change, Performed, blank, place_at, item_at, stage_at, head_of, tail_of, raised_below, map-append, Me, ChainOps, GatedQueue, View, with_note, with_raise, with_gate, place_word, notes_of, queue_of, Stepped, Found, Raised, run, head_word, tail_word, gate_word, ends_word}
use Rattle.std.proofs.Common.{get_or-set_same}
use Rattle.std.proofs.lemmas.List.{append-nil, append_assoc}
use Rattle.std.specs.List.{AllByRecursion}
use Rattle.table_theory.proofs.Reaching.{adds_after, all_on}
use Rattle.table_theory.specs.Ledgers.{ExtendsTrace, count_up, count_down}
use Rattle.proc_chain.specs.Answers.{with_run}
use Rattle.proc_chain.specs.Client.{ChangedNothing, WhyNotChained, IsGateOf, WhoRuns, RanNotes, KeepGate, FailedLeaves, LeftAfter, KeepGateOrBegin, WhyServed, OneEndMore, HasBoth, HasTheirs, WhyOpen}
use Rattle.proc_chain.specs.Closings.{WereOpen}
use Rattle.proc_chain.specs.Notes.{notes_taken}
use Rattle.proc_chain.specs.declared.chaining.Chained.{Chained}
use Rattle.proc_chain.specs.declared.chaining.Chained.TheVariants as answers
use Rattle.proc_chain.specs.declared.chaining.ChainRefusal.TheVariants as refusals
use Rattle.proc_chain.specs.declared.running.Turn.{Turn}
use Rattle.proc_chain.specs.Endings.{SplitShare, JoinedBy, Joined}
use Rattle.proc_chain.specs.Servings.{HasRun, Serving, Leaving, all_uses, notes_run}
use Rattle.proc_chain.specs.Steps.{Claimed, FoundNotRaised}
use Rattle.proc_chain.proofs.Finding.{head_says, tail_says, low_says}
use Rattle.proc_chain.proofs.Linking.{both_found, three_found, chained}

-- REFUSALS

pub same_only : (v w : View) (es : List (Step GatedQueue)) → Performed v es v.own w → AllByRecursion (λ (e : Step GatedQueue). e.next.object ≡ e.then.object) es → ChangedNothing v w
same_only v w es p same = record { own = p.did; steps = es; adds = p.adds; same = same }

pub why_spent : (v w : View) (head : ℕ) → Found v head_word head w → 4294967296 ≤ head + 1 → WhyNotChained v refusals.Spent w
why_spent v w head f past = (load head_word head f.0, f.1.made.adds, (let is = head_says (load head_word head f.0) refl f.1.real in omega arith))

pub why_full : (v l w : View) (head tail : ℕ) → Found v head_word head l → Found l tail_word tail w → head + 1 < 4294967296 → tail + 32 ≤ head → WhyNotChained v (refusals.Full head tail) w
why_full v l w head tail f g bounded over = let is = head_says (load head_word head f.0) refl f.1.real in let is' = tail_says (load tail_word tail g.0) refl g.1.real in let grown = g.1.meets.grows in let first = grown.first in let further = grown.further in
    let same = ap (λ (z : AbsState GatedQueue). z.object.queue.first) f.1.seen in let same' = ap (λ (z : AbsState GatedQueue). z.object.queue.taken) f.1.seen in
    (load head_word head f.0, load tail_word tail g.0, (both_found v l w head tail f g).adds, bounded, over, sym is, omega arith, sym is')

pub why_lost : (v l b w : View) (head tail found : ℕ) → Found v head_word head l → Found l tail_word tail b → Found b head_word found w → head + 1 < 4294967296 → head < tail + 32 → found ≢ head → WhyNotChained v (refusals.Lost found) w
why_lost v l b w head tail found f g e bounded room ne = (
  load head_word head f.0,
  load tail_word tail g.0,
  load head_word found e.0,
  (three_found v l b w head tail found f g e).adds,
  (let is = a in omega arith),
  (let is = a in let is' = tail_says (load tail_word tail g.0) refl g.1.real in omega arith),
  (let is = a in let past = further in omega arith),
  sym c,
)
  where
    a : head ≡ head_of f.0.object.queue
    a = head_says (load head_word head f.0) refl f.1.real

    c : found ≡ head_of e.0.object.queue
    c = head_says (load head_word found e.0) refl e.1.real

    further : head < found
    further = let g' = g.1.meets.grows in let e' = e.1.meets.grows in let h = a in let h' = c in
        let sf = ap (λ (z : AbsState GatedQueue). head_of z.object.queue) f.1.seen in let sg = ap (λ (z : AbsState GatedQueue). head_of z.object.queue) g.1.seen in
        let x = g'.longer in let y = e'.longer in let p = g'.first in let q = e'.first in omega arith

-- THE NOTE THAT WAS CHAINED

-- a note that was raised is still there
still_raised : (q u r : Positions) (head note : ℕ) (from : q.first ≤ head) (below : head < head_of q) → u ≡ record q { places = set q.places (head - q.first) (record { item = note; stage = 2 }) } → r.first ≡ u.first
    → ((i : ℕ) → i < length u.places → item_at r i ≡ item_at u i) → ((i : ℕ) → stage_at u i ≤ stage_at r i) → (item_at r (head - r.first) ≡ note) × (2 ≤ stage_at r (head - r.first))
still_raised q u r head note from below is first items more = let p : ℕ = head - q.first in let within : p < length q.places = omega arith in
    let cell : place_at u p ≡ record { item = note; stage = 2 } = ap (λ (z : Positions). place_at z p) is ∙ get_or-set_same q.places p (record { item = note; stage = 2 }) blank within in
    let same : head - r.first ≡ p = ap (λ (z : ℕ). head - z) (first ∙ ap (λ (z : Positions). z.first) is) in
    let up : stage_at u p ≡ 2 = ap (λ (z : Cell). z.stage) cell in let there : p < length u.places = raised_below u p (omega arith) in let m = more p in
    (ap (item_at r) same ∙ (items p there ∙ ap (λ (z : Cell). z.item) cell), subst (λ (z : ℕ). 2 ≤ stage_at r z) (sym same) (omega arith))

who_runs : (answer : Chained) (v l b w x y : View) (head tail note gate : ℕ) (f : Found v head_word head l) (g : Found l tail_word tail b) (c : Claimed b head note w) (r : Raised w head note (run head note) x) (m : AbsState GatedQueue) (then : ChainOps → ChainOps)
    (s : Stepped x (change gate_word gate m (with_gate m.object 2)) (then (record x.own { owes = false })) y) → head + 1 < 4294967296 → head < tail + 32 → ((d : ChainOps) → (then d).runs ≡ d.runs) → IsGateOf answer m.object.gate → WhoRuns v note answer y
who_runs answer v l b w x y head tail note gate f g c r m then s bounded room runs is = let d = chained v l b w x head tail note f g c r y gate m then s bounded room in let grown = s.meets.grows in record {
  position = head;
  runs = ap (λ (z : ChainOps). z.runs) d.1.did ∙ runs (with_run v.own head note);
  first = load head_word head f.0;
  second = load tail_word tail g.0;
  claim = change head_word head c.0 (with_note c.0.object note);
  raise = change (place_word head) r.0 r.1 (with_raise r.1.object head note);
  notify = change gate_word gate m (with_gate m.object 2);
  adds = d.1.adds;
  looked = (refl, refl);
  claimed = sym (head_says (change head_word head c.0 (with_note c.0.object note)) refl c.1.real);
  raised = still_raised r.1.object.queue (queue_of x) m.object.queue head note r.3.from r.3.below (ap (λ (z : AbsState GatedQueue). z.object.queue) r.2.seen) grown.first grown.items grown.more;
  gate = is;
  left = (refl, ap (λ (z : AbsState GatedQueue). z.object.gate) s.seen);
}

pub run_here : (turn : Turn) (v l b w x y : View) (head tail note : ℕ) (f : Found v head_word head l) (g : Found l tail_word tail b) (c : Claimed b head note w) (r : Raised w head note (run head note) x) (m : AbsState GatedQueue) (then : ChainOps → ChainOps)
    (s : Stepped x (change gate_word 0 m (with_gate m.object 2)) (then (record x.own { owes = false })) y) → head + 1 < 4294967296 → head < tail + 32 → ((d : ChainOps) → (then d).runs ≡ d.runs) → m.object.gate ≡ 0 → WhoRuns v note (answers.Run turn) y
run_here turn v l b w x y head tail note f g c r m then s bounded room runs is = who_runs (answers.Run turn) v l b w x y head tail note 0 f g c r m then s bounded room runs is

pub left_there : (v l b w x y : View) (head tail note gate : ℕ) (f : Found v head_word head l) (g : Found l tail_word tail b) (c : Claimed b head note w) (r : Raised w head note (run head note) x) (m : AbsState GatedQueue) (then : ChainOps → ChainOps)
    (s : Stepped x (change gate_word gate m (with_gate m.object 2)) (then (record x.own { owes = false })) y) → head + 1 < 4294967296 → head < tail + 32 → ((d : ChainOps) → (then d).runs ≡ d.runs) → m.object.gate ≢ 0 → WhoRuns v note answers.Left y
left_there v l b w x y head tail note gate f g c r m then s bounded room runs is = who_runs answers.Left v l b w x y head tail note gate f g c r m then s bounded room runs is

-- SERVING

-- no note was raised at the tail
pub saw_none : (v t w : View) (tail word : ℕ) → v.own.runner ≡ true → (a : Found v tail_word tail t) → tail ≡ tail_of (queue_of t) → (low : FoundNotRaised t (place_word tail) word w) → word / 65536 ≢ tail + 1 → (stage_at low.0.object.queue low.0.object.queue.taken < 2) × (low.0.object.queue.taken ≡ (queue_of w).taken)
saw_none v t w tail word runner a at low miss = let runner' : t.own.runner ≡ true = (λ i. (a.1.made.did i).runner) ∙ runner in let q : Positions = low.0.object.queue in
    let same = low.1.meets.turn runner' in let first = low.1.meets.grows.first in let room = low.1.real.shows.0.room in let here : tail ≡ q.first + q.taken = omega arith in
    (low_says (load (place_word tail) word low.0) q.taken low.1.real (ap place_word here) (omega arith) (omega arith) (λ z. miss (omega arith)), sym (ap (λ (z : AbsState GatedQueue). z.object.queue.taken) low.1.seen))

-- leaves that failed, and steps that kept the gate
pub failed_more : (n : ℕ) (xs ys : List (Step GatedQueue)) → FailedLeaves n xs → KeepGate ys → FailedLeaves n (xs ++ ys)
failed_more zero xs ys f keep = all_on (λ (e : Step GatedQueue). e.next.object.gate ≡ e.then.object.gate) xs ys f keep
failed_more (suc n) xs ys (before, look, leave, round, after, is, kept, none_up, still, begun, rest) keep = (
  before,
  look,
  leave,
  round,
  after ++ ys,
  ap (λ (z : List (Step GatedQueue)). z ++ ys) is ∙ append_assoc before (look ∷ leave ∷ round ∷ after) ys,
  kept,
  none_up,
  still,
  begun,
  failed_more n after ys rest keep,
)

-- and one more that failed
failed_last : (n : ℕ) (xs ys : List (Step GatedQueue)) → FailedLeaves n xs → FailedLeaves (suc zero) ys → FailedLeaves (suc n) (xs ++ ys)
failed_last zero xs ys f (before, look, leave, round, after, is, kept, none_up, still, begun, rest) = (
  xs ++ before,
  look,
  leave,
  round,
  after,
  ap (λ (z : List (Step GatedQueue)). xs ++ z) is ∙ sym (append_assoc xs before (look ∷ leave ∷ round ∷ after)),
  all_on (λ (e : Step GatedQueue). e.next.object.gate ≡ e.then.object.gate) xs before f kept,
  none_up,
  still,
  begun,
  rest,
)
failed_last (suc n) xs ys (before, look, leave, round, after, is, kept, none_up, still, begun, rest) l = (
  before,
  look,
  leave,
  round,
  after ++ ys,
  ap (λ (z : List (Step GatedQueue)). z ++ ys) is ∙ append_assoc before (look ∷ leave ∷ round ∷ after) ys,
  kept,
  none_up,
  still,
  begun,
  failed_last n after ys rest l,
)

-- one use more of the limit: a note was run, or a leave failed
pub failed_on : (count ran more : ℕ) (xs ys : List (Step GatedQueue)) → ran ≤ count → more ≤ 1 → FailedLeaves (count - ran) xs → (more < 1 → FailedLeaves (suc zero) ys) → (1 ≤ more → KeepGate ys) → FailedLeaves (count + 1 - (ran + more)) (xs ++ ys)
failed_on count ran more xs ys few small f once keep = dite (dec_lt more 1)
    (λ low. let e : suc (count - ran) ≡ count + 1 - (ran + more) = omega arith in subst (λ (n : ℕ). FailedLeaves n (xs ++ ys)) e (failed_last (count - ran) xs ys f (once low)))
    (λ up. let e : count - ran ≡ count + 1 - (ran + more) = omega arith in subst (λ (n : ℕ). FailedLeaves n (xs ++ ys)) e (failed_more (count - ran) xs ys f (keep (omega arith))))

-- no limit, no step
pub used_none : (v : View) (limit : ℕ) → limit ≡ 0 → WhyServed v limit 0 true v
used_none v limit no_limit = (omega arith, λ _. refl, λ some. absurd (omega arith))

-- the notes that were run
pub ran_notes : (v w : View) (servings : List Serving) (left : Option Leaving) (ran : ℕ) → HasRun v servings left ran w → RanNotes v ran w
ran_notes v w servings left ran h = (notes_run (all_uses servings), h.number, h.served)

pub ran_none : (v : View) → RanNotes v 0 v
ran_none v = ([], refl, record { notes = sym (append-nil (notes_of (queue_of v))); taken = omega arith; takes = sym (append-nil (notes_taken v)); runs = refl; share = refl })

-- steps that kept the gate, and leaves that failed, change it only where a round begins
keep_begin : (xs : List (Step GatedQueue)) → KeepGate xs → KeepGateOrBegin xs
keep_begin [] k = tt
keep_begin (x ∷ xs) (k, rest) = (inl k, keep_begin xs rest)

-- these steps and then those
pub begin_on : (xs ys : List (Step GatedQueue)) → KeepGateOrBegin xs → KeepGateOrBegin ys → KeepGateOrBegin (xs ++ ys)
begin_on xs ys a b = all_on (λ (e : Step GatedQueue). (e.next.object.gate ≡ e.then.object.gate) ⊎ (e.next.object.gate ≡ 1)) xs ys a b

failed_begin : (n : ℕ) (xs : List (Step GatedQueue)) → FailedLeaves n xs → KeepGateOrBegin xs
failed_begin zero xs f = keep_begin xs f
failed_begin (suc n) xs (before, look, leave, round, after, is, kept, none_up, still, begun, rest) = subst KeepGateOrBegin (sym is) (begin_on before (look ∷ leave ∷ round ∷ after) (keep_begin before kept)
    (inl (ap (λ (z : GatedQueue). z.gate) none_up.1), (inl (ap (λ (z : GatedQueue). z.gate) still), (inr begun, failed_begin n after rest))))

-- the end left after other steps
pub left_on : (v u w : View) (xs : List (Step GatedQueue)) (ran limit : ℕ) → u.member.share ≡ v.member.share → ExtendsTrace v xs u → KeepGateOrBegin xs → WhyServed u limit ran false w → (steps : List (Step GatedQueue)) × KeepGateOrBegin steps × LeftAfter v steps w
left_on v u w xs ran limit share a keeps (failed, begin, steps, less, cost, begun, fails, (look, leave, adds, none_up, idle, seen)) = (
  xs ++ begin ∷ steps,
  begin_on xs (begin ∷ steps) keeps (inr begun, failed_begin failed steps fails),
  (
    look,
    leave,
    subst (λ (z : List (Step GatedQueue)). ExtendsTrace v z w) (sym (append_assoc xs (begin ∷ steps) (look ∷ leave ∷ []))) (adds_after v u w xs (begin ∷ (steps ++ look ∷ leave ∷ [])) share a adds),
    none_up,
    idle,
    seen,
  ),
)

-- SPLITS AND JOINS

pub one_more : (v w : View) (parts : ℕ) → SplitShare parts v w → OneEndMore v w
one_more v w parts s = record { own = s.own; only = count_up ends_word s.found; adds = s.adds; counted = refl }

pub has_both : (v u w : View) → JoinedBy v u w → HasBoth v u w
has_both v u w j = record {
  puts = ap (λ (z : ChainOps). map line_of z.runs) j.0.own ∙ map-append line_of v.own.runs u.own.runs;
  takes = ap (λ (z : ChainOps). map line_of z.takes) j.0.own ∙ map-append line_of v.own.takes u.own.takes;
  share = ap (λ (z : Part). z.share) j.0.member;
  only = count_down ends_word j.0.found;
  steps = j.0.adds.entries_are ∙ append_assoc v.steps u.steps (count_down ends_word j.0.found ∷ []);
  counted = refl;
}

pub has_theirs : {Q : Type 0} (flag : Bool) (me other me' : Me Q View) → Joined flag me other me' → HasTheirs flag me.0 other.0 me'.0
has_theirs false me other me' j = has_both me.0 other.0 me'.0 j.0
has_theirs true me other me' j = has_both other.0 me.0 me'.0 j.0

-- CLOSES

pub open_same : (v w : View) (others : ℕ) → WereOpen v others w → ChangedNothing v w
open_same v w others o = same_only v w (load ends_word (others + 1) o.tallied.found ∷ []) o.tallied.made (refl, tt)

pub why_open : (v w : View) (others : ℕ) → WereOpen v others w → WhyOpen v others w
why_open v w others o = (load ends_word (others + 1) o.tallied.found, o.tallied.made.adds, sym o.tallied.is, o.some_other)
