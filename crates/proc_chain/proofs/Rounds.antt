-- The parts of a serving taken together, and the invariant of its loop.
use Rattle.proc_chain.proofs.Common.{inl, inr, ◌≡◌, ◌≢◌, ℕ, zero, suc, ◌+◌, ◌-◌, ◌/◌, ◌%◌, ◌<◌, ◌≤◌, Option, Some, None, true, false, Bool, List, [], ◌∷◌, ◌++◌, map, take, length, get_or, sym, refl, ap, ◌∙◌, subst, arith, length-append, props, ∥∥₁_elim, map-append, length-map, dite, ℕ_discrete, dec_le, Me, Seat, Batch, Cell, Positions, AbsState, Part, line_of, Step, load, change, blank, item_of, item_at, stage_at, with_take, tail_of, IsSame, made_on, raised_below, ChainOps, GatedQueue, place_word, raised_word, notes_of, with_taken, with_gate, taking, View, queue_of, Stepped, Found, IsValidChainView, Carries, IsRunner, MadeSince, Serving, tail_word, gate_word}
use Rattle.std.proofs.Common.{drop}
use Rattle.std.proofs.lemmas.Grind.{flat_map-append}
use Rattle.std.proofs.lemmas.List.{append-nil, append_assoc, length-take-le, take-append-le}
use Rattle.std.proofs.Math.Seq.{take-length, take-append_seam}
use Rattle.std.specs.List.{AllByRecursion, flat_map}
use Rattle.std.specs.Prelude.{◌*◌, MatchBool}
use Rattle.table_theory.proofs.Parting.{made_none}
use Rattle.table_theory.proofs.Reaching.{all_on}
use Rattle.proc_chain.specs.Notes.{notes_taken, alone}
use Rattle.proc_chain.specs.Steps.{FoundNotRaised, Took, BegunRound, HasLeft}
use Rattle.proc_chain.specs.Turns.{HasOrGave, HasServed}
use Rattle.proc_chain.specs.Servings.{Use, took, failed, entries_of, IsUse, notes_run, takings, serving, Leaving, leaving, goes_on, all_uses, HasRun, ServedNow, AllServed}
use Rattle.proc_chain.specs.declared.serve.Served.TheVariants as served
use Rattle.proc_chain.specs.declared.running.Turn.{Turn}
use Rattle.table_theory.specs.Ledgers.{ExtendsTrace}
use Rattle.proc_chain.specs.Client.{KeepGate, FailedLeaves, KeepGateOrBegin, WhyServed}
use Rattle.proc_chain.specs.Rounds.{used, Ran, RanNote, FoundNone, LeftNow, RoundNow, IsDone, IsUsedUp}
use Rattle.proc_chain.proofs.Clients.{saw_none, failed_more, failed_on, begin_on}
use Rattle.proc_chain.proofs.Finding.{gate_says, tail_found, note_says, mark_says, runner_on, seen_step}
use Rattle.proc_chain.proofs.Gates.{notes_same, notes_take}

no_more : (n : ℕ) → n ≡ n + 0
no_more n = omega arith

-- lists of uses

run_on : (us more : List Use) → notes_run (us ++ more) ≡ notes_run us ++ notes_run more
run_on [] more = refl
run_on (took note tail m n o ∷ us) more = ap (λ (z : List ℕ). note ∷ z) (run_on us more)
run_on (failed tail word gate m n o p ∷ us) more = run_on us more

takings_on : (us more : List Use) → takings (us ++ more) ≡ takings us ++ takings more
takings_on [] more = refl
takings_on (took note tail m n o ∷ us) more = ap (λ (z : List Batch). taking o.object.queue ∷ z) (takings_on us more)
takings_on (failed tail word gate m n o p ∷ us) more = takings_on us more

-- entries and what was done, one use more
uses_on : (us : List Use) (one : Use) → flat_map entries_of us ++ entries_of one ≡ flat_map entries_of (us ++ one ∷ [])
uses_on us one = sym (flat_map-append entries_of us (one ∷ []) ∙ ap (λ (z : List (Step GatedQueue)). flat_map entries_of us ++ z) (append-nil (entries_of one)))

-- a note that was run took three steps, and a failed leave four
pub cost : (us : List Use) → length (flat_map entries_of us) + length (notes_run us) ≡ 4 * length us
cost [] = refl
cost (took note tail m n o ∷ us) = let h = cost us in let e : suc (suc (suc (length (flat_map entries_of us)))) + suc (length (notes_run us)) ≡ 4 * suc (length us) = omega arith in e
cost (failed tail word gate m n o p ∷ us) = let h = cost us in let e : suc (suc (suc (suc (length (flat_map entries_of us))))) + length (notes_run us) ≡ 4 * suc (length us) = omega arith in e

-- the gate was changed only where a round began
uses_begin : (us : List Use) → KeepGateOrBegin (flat_map entries_of us)
uses_begin [] = tt
uses_begin (took note tail m n o ∷ us) = (inl refl, (inl refl, (inl refl, uses_begin us)))
uses_begin (failed tail word gate m n o p ∷ us) = (inl refl, (inl refl, (inl refl, (inr refl, uses_begin us))))

servings_begin : (servings : List Serving) → KeepGateOrBegin (flat_map serving servings)
servings_begin [] = tt
servings_begin (s ∷ servings) = begin_on (serving s) (flat_map serving servings) (inr refl, uses_begin s.uses) (servings_begin servings)

pub all_begin : (servings : List Serving) → KeepGateOrBegin (flat_map serving servings ++ [])
all_begin servings = begin_on (flat_map serving servings) [] (servings_begin servings) tt

serving_on : (s : Serving) (one : Use) → serving s ++ entries_of one ≡ serving (record s { uses = s.uses ++ one ∷ [] })
serving_on s one = ap (λ (z : List (Step GatedQueue)). change gate_word s.gate s.begun (with_gate s.begun.object 1) ∷ z) (uses_on s.uses one)

takes_on : (l : List Batch) (us more : List Use) → (l ++ takings us) ++ takings more ≡ l ++ takings (us ++ more)
takes_on l us more = append_assoc l (takings us) (takings more) ∙ ap (λ (z : List Batch). l ++ z) (sym (takings_on us more))

taken_on : (n : ℕ) (us more : List Use) → n + length (notes_run us) + length (notes_run more) ≡ n + length (notes_run (us ++ more))
taken_on n us more = let l = length-append (notes_run us) (notes_run more) in let e = ap length (run_on us more) in omega arith

-- what was served, by none, and by some servings and then others

served_still : (v : View) → HasServed v [] v
served_still v = record { notes = sym (append-nil (notes_of (queue_of v))); taken = omega arith; takes = sym (append-nil (notes_taken v)); runs = refl; share = refl }

served_on : (u v w : View) (ms ns : List ℕ) → HasServed u ms v → HasServed v ns w → HasServed u (ms ++ ns) w
served_on u v w ms ns a b = let at = a.taken in let bt = b.taken in let n = length-append ms ns in record {
  notes = b.notes ∙ (ap (λ (z : List ℕ). z ++ ns) a.notes ∙ append_assoc (notes_of (queue_of u)) ms ns);
  taken = omega arith;
  takes = b.takes ∙ (ap (λ (z : List (List ℕ)). z ++ map alone ns) a.takes ∙ (append_assoc (notes_taken u) (map alone ms) (map alone ns) ∙ ap (λ (z : List (List ℕ)). notes_taken u ++ z) (sym (map-append alone ms ns))));
  runs = b.runs ∙ a.runs;
  share = b.share ∙ a.share;
}

pub ran_on : (u v w : View) (es fs : List (Step GatedQueue)) (us more : List Use) (r r' s s' : Bool) → Ran u es us r s v → Ran v fs more r' s' w → Ran u (es ++ fs) (us ++ more) r' s' w
ran_on u v w es fs us more r r' s s' a b = let m = made_on u v w es fs (used u.own us r s) (used v.own more r' s') a.made b.made in record {
  fit = all_on IsUse us more a.fit b.fit;
  made = record { adds = m.adds; did = b.made.did ∙ ((λ i. used (a.made.did i) more r' s') ∙ (λ i. record u.own { takes = takes_on u.own.takes us more i; runner = r'; taken = taken_on u.own.taken us more i; saw = s' })); member = m.member };
  served = subst (λ (z : List ℕ). HasServed u z w) (sym (run_on us more)) (served_on u v w (notes_run us) (notes_run more) a.served b.served);
}

-- one step of the runner by which it took nothing
pub ran_step : (v w : View) (e : Step GatedQueue) (own : ChainOps) (runner saw : Bool) → Stepped v e own w → e.next.object.queue ≡ e.then.object.queue → own ≡ record v.own { runner = runner; saw = saw } → (queue_of v).taken ≤ length (queue_of v).places → v.own.runner ≡ true → Ran v (e ∷ []) [] runner saw w
ran_step v w e own runner saw s same is following r = let sees : queue_of w ≡ e.then.object.queue = ap (λ (z : AbsState GatedQueue). z.object.queue) s.seen ∙ same in let did = s.made.did ∙ is in record {
  fit = tt;
  made = record { adds = s.made.adds; did = did ∙ (λ i. record v.own { takes = sym (append-nil v.own.takes) i; runner = runner; taken = no_more v.own.taken i; saw = saw }); member = s.made.member };
  served = record {
    notes = ap notes_of sees ∙ (notes_same (queue_of v) e.then.object.queue s.meets.grows (s.meets.turn r) following ∙ sym (append-nil (notes_of (queue_of v))));
    taken = ap (λ (z : Positions). z.taken) sees ∙ (s.meets.turn r ∙ no_more (queue_of v).taken);
    takes = ap (λ (z : ChainOps). map line_of z.takes) did ∙ sym (append-nil (notes_taken v));
    runs = ap (λ (z : ChainOps). z.runs) did;
    share = ap (λ (z : Part). z.share) s.made.member;
  };
}

-- a look of the runner, or a look that found no note raised, is one step by which it took nothing
pub ran_look : (v w : View) (word found : ℕ) (f : Found v word found w) → (queue_of v).taken ≤ length (queue_of v).places → v.own.runner ≡ true → Ran v (load word found f.0 ∷ []) [] true v.own.saw w
ran_look v w word found f following r = ran_step v w (load word found f.0) v.own true v.own.saw f.1 refl (λ i. record v.own { runner = r i }) following r

-- a change of the gate by the runner is one step by which it took nothing
pub ran_gate : (v w : View) (found gate : ℕ) (m : AbsState GatedQueue) → Stepped v (change gate_word found m (with_gate m.object gate)) (record v.own { saw = false }) w → (queue_of v).taken ≤ length (queue_of v).places → v.own.runner ≡ true → Ran v (change gate_word found m (with_gate m.object gate) ∷ []) [] true false w
ran_gate v w found gate m s following r = ran_step v w (change gate_word found m (with_gate m.object gate)) (record v.own { saw = false }) true false s refl (λ i. record v.own { runner = r i; saw = false }) following r

-- the first cell after the first i
first_after : (i : ℕ) (l : List Cell) → i < length l → map item_of (take 1 (drop i l)) ≡ (get_or l i blank).item ∷ []
first_after i [] h = absurd (omega arith)
first_after zero (x ∷ xs) h = refl
first_after (suc i) (x ∷ xs) h = first_after i xs (omega arith)

-- a taking of the note that the runner had found raised at the first place left
module _ (v w : View) (tail note : ℕ) (t : Took v tail w) (r : v.own.runner ≡ true) (following : (queue_of v).taken ≤ length (queue_of v).places) (up : 2 ≤ stage_at (queue_of v) (queue_of v).taken) (here : note ≡ item_at (queue_of v) (queue_of v).taken) where
  abbrev q : Positions
  q = t.0.object.queue

  item_took : item_at q q.taken ≡ note
  item_took = let p : Positions = queue_of v in ap (item_at q) (t.1.meets.turn r) ∙ (t.1.meets.grows.items p.taken (raised_below p p.taken (omega arith)) ∙ sym here)

  below : q.taken < length q.places
  below = let p : Positions = queue_of v in let longer = t.1.meets.grows.longer in let same = t.1.meets.turn r in let b : p.taken < length p.places = raised_below p p.taken (omega arith) in omega arith

  ran_took : note < 65536 → (m n : AbsState GatedQueue) → Ran v (change tail_word tail t.0 (with_taken t.0.object) ∷ []) (took note tail m n t.0 ∷ []) true false w
  ran_took small m n = let p : Positions = queue_of v in let f : queue_of w ≡ with_take q 1 = ap (λ (z : AbsState GatedQueue). z.object.queue) t.1.seen in let more : (queue_of w).taken ≡ q.taken + 1 = ap (λ (z : Positions). z.taken) f in let same = t.1.meets.turn r in record {
    fit = (small, tt);
    made = record { adds = t.1.made.adds; did = t.1.made.did ∙ (λ i. record v.own { takes = v.own.takes ++ taking q ∷ []; runner = r i; taken = v.own.taken + 1; saw = false }); member = t.1.made.member };
    served = record {
      notes = ap notes_of f ∙ (notes_take q below ∙ (λ i. notes_same p q t.1.meets.grows same following i ++ item_took i ∷ []));
      taken = omega arith;
      takes = ap (λ (z : ChainOps). map line_of z.takes) t.1.made.did ∙ (map-append line_of v.own.takes (taking q ∷ []) ∙ ap (λ (z : List ℕ). notes_taken v ++ z ∷ []) (first_after q.taken q.places below ∙ ap alone item_took));
      runs = ap (λ (z : ChainOps). z.runs) t.1.made.did;
      share = ap (λ (z : Part). z.share) t.1.made.member;
    };
  }

-- the runner found a note raised at the first place left
module _ (v t u : View) (tail note : ℕ) (runner : v.own.runner ≡ true) (following : (queue_of v).taken ≤ length (queue_of v).places) (a : Found v tail_word tail t) (at : tail ≡ tail_of (queue_of t)) (bounded : note < 65536) (b : Found t (place_word tail) (raised_word tail note) u) where
  runner_then : t.own.runner ≡ true
  runner_then = (λ i. (a.1.made.did i).runner) ∙ runner

  abbrev e : Step GatedQueue
  e = load (place_word tail) (raised_word tail note) b.0

  sees : b.0.object.queue ≡ queue_of u
  sees = ap (λ (z : AbsState GatedQueue). z.object.queue) (sym b.1.seen)

  tail_there : tail ≡ tail_of b.0.object.queue
  tail_there = let same = b.1.meets.turn runner_then in let first = b.1.meets.grows.first in omega arith

  up_there : 2 ≤ stage_at b.0.object.queue b.0.object.queue.taken
  up_there = let room = b.1.real.shows.0.room in let tl = tail_there in mark_says e b.0.object.queue.taken b.1.real (ap place_word tail_there) (omega arith) (omega arith) (omega arith)

  pub up_now : 2 ≤ stage_at (queue_of u) (queue_of u).taken
  up_now = subst (λ (z : Positions). 2 ≤ stage_at z z.taken) sees up_there

  pub note_now : note ≡ item_at (queue_of u) (queue_of u).taken
  note_now = let room = b.1.real.shows.0.room in let tl = tail_there in let x : raised_word tail note % 65536 ≡ note = omega arith in
      sym x ∙ (note_says e b.0.object.queue.taken b.1.real (ap place_word tail_there) (omega arith) up_there (omega arith) ∙ ap (λ (z : Positions). item_at z z.taken) sees)

  -- and took it
  pub ran_one : (w : View) (k : Took u tail w) → IsValidChainView t → IsValidChainView u → Ran v (entries_of (took note tail a.0 b.0 k.0)) (took note tail a.0 b.0 k.0 ∷ []) true false w
  ran_one w k h i = ran_on v t w (load tail_word tail a.0 ∷ []) (e ∷ change tail_word tail k.0 (with_taken k.0.object) ∷ []) [] _ true true v.own.saw false (ran_look v t tail_word tail a following runner)
      (ran_on t u w (e ∷ []) (change tail_word tail k.0 (with_taken k.0.object) ∷ []) [] _ true true t.own.saw false (ran_look t u (place_word tail) (raised_word tail note) b h.lawful.0.taken_within runner_then)
      (ran_took u w tail note k ((λ j. (b.1.made.did j).runner) ∙ runner_then) i.lawful.0.taken_within up_now note_now bounded a.0 b.0))

-- and ran it: the quaject was made by it too
pub ran_runner : {Q : Type 0} (made : Q → List ℕ → Type 0) (fits : Q → Type 0) (m x : Me Q View) (w : View) (note : ℕ) (d : List (ℕ × Q)) {es : List (Step GatedQueue)} {one : Use} → x.0 ≡ w → Ran m.0 es (one ∷ []) true false w → notes_run (one ∷ []) ≡ note ∷ [] → IsValidChainView w → d ≡ m.1 → IsRunner made fits m
    → ((notes : List ℕ) → Carries made fits notes [] d → Carries made fits (notes ++ note ∷ []) [] x.1) → IsRunner made fits x
ran_runner made fits m x w note d is a one valid held h run = let c = h.carries in let r = run (notes_of (queue_of m.0)) (c.0, held ∙ c.1, c.2, c.3) in let notes = a.served.notes ∙ ap (λ (z : List ℕ). notes_of (queue_of m.0) ++ z) one in record {
  live = subst (λ (z : ℕ). 1 ≤ z) (sym ((λ i. (is i).member.ends) ∙ (λ i. (a.made.member i).ends))) h.live;
  runner = (λ i. (is i).own.runner) ∙ (λ i. (a.made.did i).runner);
  taken_within = subst (λ (z : View). (queue_of z).taken ≤ length (queue_of z).places) (sym is) valid.lawful.0.taken_within;
  carries = (r.0, r.1, subst (made r.0) (sym (ap (λ (z : View). notes_of (queue_of z)) is ∙ notes)) r.2, r.3);
}

-- which of the two it was
pub was_run : (b : Bool) (v w : View) → MatchBool b (RanNote v w) (FoundNone v w) → b ≡ true → RanNote v w
was_run b v w h is = subst (λ (z : Bool). MatchBool z (RanNote v w) (FoundNone v w)) is h

pub was_none : (b : Bool) (v w : View) → MatchBool b (RanNote v w) (FoundNone v w) → b ≡ false → FoundNone v w
was_none b v w h is = subst (λ (z : Bool). MatchBool z (RanNote v w) (FoundNone v w)) is h

-- none was raised there
pub found_none : (v t w : View) (tail found : ℕ) → v.own.runner ≡ true → (queue_of v).taken ≤ length (queue_of v).places → Found v tail_word tail t → IsValidChainView t → FoundNotRaised t (place_word tail) found w → found / 65536 ≢ tail + 1 → FoundNone v w
found_none v t w tail found r following a h low miss = let r' : t.own.runner ≡ true = (λ i. (a.1.made.did i).runner) ∙ r in let saw = saw_none v t w tail found r a (tail_found v t tail a).0 low miss in (
  tail,
  found,
  a.0,
  low.0,
  miss,
  ran_on v t w (load tail_word tail a.0 ∷ []) (load (place_word tail) found low.0 ∷ []) [] [] true true v.own.saw true (ran_look v t tail_word tail a following r)
      (ran_step t w (load (place_word tail) found low.0) (record t.own { saw = true }) true true low.1 refl (λ i. record t.own { runner = r' i; saw = true }) h.lawful.0.taken_within r'),
  saw.0,
  saw.1,
)

pub round_now : (v u w : View) (gate : ℕ) → v.own.runner ≡ true → (queue_of v).taken ≤ length (queue_of v).places → Found v gate_word 2 u → IsValidChainView u → BegunRound u gate w → RoundNow v w
round_now v u w gate r following f h b = (gate, f.0, b.0, ran_on v u w (load gate_word 2 f.0 ∷ []) (change gate_word gate b.0 (with_gate b.0.object 1) ∷ []) [] [] true true v.own.saw false (ran_look v u gate_word 2 f following r) (ran_gate u w gate 1 b.0 b.1 h.lawful.0.taken_within ((λ i. (f.1.made.did i).runner) ∙ r)), f.1.meets.turn r, sym (gate_says (load gate_word 2 f.0) refl f.1.real))

pub left_now : (v w : View) → v.own.runner ≡ true → (queue_of v).taken ≤ length (queue_of v).places → HasLeft v w → LeftNow v w
left_now v w r following l = (l.0, ran_step v w (change gate_word 1 l.0 (with_gate l.0.object 0)) (record v.own { runner = false; saw = false }) false false l.1 refl refl following r, l.1.meets.turn r, sym (gate_says (change gate_word 1 l.0 (with_gate l.0.object 0)) refl l.1.real), ap (λ (z : AbsState GatedQueue). z.object.gate) l.1.seen)

-- the quaject that was given back
pub gave_back : {Q : Type 0} (made : Q → List ℕ → Type 0) (fits : Q → Type 0) (m m' : Me Q View) → HasLeft m.0 m'.0 → m'.1 ≡ [] → IsRunner made fits m → HasOrGave made fits false m'
gave_back made fits m m' l none_held h = let c = h.carries in let served = (left_now m.0 m'.0 h.runner h.taken_within l).1.served in (none_held, (c.0, subst (made c.0) (sym (served.notes ∙ append-nil (notes_of (queue_of m.0)))) c.2, c.3))

-- a leave that failed
pub failed_one : (v u w : View) (n : FoundNone v u) (r : RoundNow u w) → Ran v (entries_of (failed n.0 n.1 r.0 n.2 n.3 r.1 r.2)) (failed n.0 n.1 r.0 n.2 n.3 r.1 r.2 ∷ []) true false w
failed_one v u w n r = let a = ran_on v u w (load tail_word n.0 n.2 ∷ load (place_word n.0) n.1 n.3 ∷ []) (load gate_word 2 r.1 ∷ change gate_word r.0 r.2 (with_gate r.2.object 1) ∷ []) [] [] true true true false n.5 r.3 in record { fit = (n.4, tt); made = a.made; served = a.served }

pub failed_now : (v u w : View) (n : FoundNone v u) (r : RoundNow u w) → FailedLeaves (suc zero) (entries_of (failed n.0 n.1 r.0 n.2 n.3 r.1 r.2))
failed_now v u w n r = (
  load tail_word n.0 n.2 ∷ [],
  load (place_word n.0) n.1 n.3,
  load gate_word 2 r.1,
  change gate_word r.0 r.2 (with_gate r.2.object 1),
  [],
  refl,
  (refl, tt),
  (n.6, refl, r.4 ∙ sym n.7, r.5),
  refl,
  refl,
  tt,
)

-- the quaject at each number of notes taken

length_notes : (q : Positions) → q.taken ≤ length q.places → length (notes_of q) ≡ q.taken
length_notes q following = length-map (take q.taken q.places) item_of ∙ length-take-le q.taken q.places following

module _ {Q : Type 0} (made : Q → List ℕ → Type 0) (fits : Q → Type 0) where
  -- a quaject that the notes taken made, and fits
  abbrev pub IsMade : View → Type 0
  IsMade v = (x : Q) × made x (notes_of (queue_of v)) × fits x

  made_of : (m : Me Q View) → IsRunner made fits m → IsMade m.0
  made_of m h = (h.carries.0, h.carries.2, h.carries.3)

  -- no note more, or one
  pub since_step : (v w : View) (ns : List ℕ) → HasServed v ns w → length ns ≤ 1 → (queue_of v).taken ≤ length (queue_of v).places → (queue_of w).taken ≤ length (queue_of w).places → IsMade v → IsMade w → MadeSince made fits v w
  since_step v w ns on few following behind' a b n from upto = let t = on.taken in let l = length_notes (queue_of v) following in let m = length_notes (queue_of w) behind' in dite (ℕ_discrete n (queue_of w).taken)
      (λ is. let all : take n (notes_of (queue_of w)) ≡ notes_of (queue_of w) = ap (λ (z : ℕ). take z (notes_of (queue_of w))) (is ∙ sym m) ∙ take-length (notes_of (queue_of w)) in (b.0, subst (made b.0) (sym all) b.1, b.2))
      (λ ne. let is : n ≡ length (notes_of (queue_of v)) = omega arith in let all : take n (notes_of (queue_of w)) ≡ notes_of (queue_of v) = (λ i. take (is i) (on.notes i)) ∙ take-append_seam (notes_of (queue_of v)) ns in (a.0, subst (made a.0) (sym all) a.1, a.2))

  pub since_still : (v : View) (c : List (ℕ × Q)) → (queue_of v).taken ≤ length (queue_of v).places → Carries made fits (notes_of (queue_of v)) [] c → MadeSince made fits v v
  since_still v c following h = since_step v v [] (served_still v) (omega arith) following following (h.0, h.2, h.3) (h.0, h.2, h.3)

  pub since_then : (u v w : View) (ns : List ℕ) → MadeSince made fits u v → MadeSince made fits v w → notes_of (queue_of w) ≡ notes_of (queue_of v) ++ ns → (queue_of v).taken ≤ length (queue_of v).places → MadeSince made fits u w
  since_then u v w ns a b notes following n from upto = let l = length_notes (queue_of v) following in dite (dec_le n (queue_of v).taken)
      (λ low. let h = a n from low in let all : take n (notes_of (queue_of w)) ≡ take n (notes_of (queue_of v)) = ap (take n) notes ∙ take-append-le n (notes_of (queue_of v)) ns (omega arith) in (h.0, subst (made h.0) (sym all) h.1, h.2))
      (λ high. b n (omega arith) upto)

  -- a round was begun, and so much of the limit was used, in which so many notes were run
  pub record InRounds (old now : Seat Q View) (count ran : ℕ) : Type 0 where
    pub same : IsSame old now
    pub so : Serving
    pub all : Ran old.me.0 (serving so) so.uses true false now.me.0
    pub long : length so.uses ≡ count
    pub number : length (notes_run so.uses) ≡ ran
    pub few : ran ≤ count
    pub runner : IsRunner made fits now.me
    pub valid : IsValidChainView now.me.0
    pub since : MadeSince made fits old.me.0 now.me.0
    pub failed : FailedLeaves (count - ran) (flat_map entries_of so.uses)

  module _ (old now : Seat Q View) where
    pub rounds_begin : (gate : ℕ) → IsSame old now → BegunRound old.me.0 gate now.me.0 → now.me.1 ≡ old.me.1 → IsValidChainView now.me.0 → IsRunner made fits old.me → InRounds old now 0 0
    rounds_begin gate same b held valid r = let v : View = old.me.0 in let w : View = now.me.0 in let a = ran_gate v w gate 1 b.0 b.1 r.taken_within r.runner in
        let runner = runner_on made fits old.me now.me (seen_step v w (change gate_word gate b.0 (with_gate b.0.object 1)) (record v.own { saw = false }) b.1 refl) valid (λ i. (b.1.made.did i).runner) held r in record {
          same = same;
          so = record { gate = gate; begun = b.0; uses = [] };
          all = a;
          long = refl;
          number = refl;
          few = omega arith;
          runner = runner;
          valid = valid;
          since = since_step v w [] a.served (omega arith) r.taken_within runner.taken_within (made_of old.me r) (made_of now.me runner);
          failed = tt;
        }

    pub rounds_on : (next : Seat Q View) (count ran more : ℕ) (one : Use) → InRounds old now count ran → IsSame now next → Ran now.me.0 (entries_of one) (one ∷ []) true false next.me.0 → length (notes_run (one ∷ [])) ≡ more → more ≤ 1 → IsRunner made fits next.me → IsValidChainView next.me.0 → (more < 1 → FailedLeaves (suc zero) (entries_of one)) → (1 ≤ more → KeepGate (entries_of one)) → InRounds old next (count + 1) (ran + more)
    rounds_on next count ran more one r same u is small runner valid fails keeps = let v : View = old.me.0 in let w : View = now.me.0 in let x : View = next.me.0 in let us : List Use = r.so.uses in
        let few = r.few in let number = r.number in let long = r.long in let n = length-append us (one ∷ []) in let l = length-append (notes_run us) (notes_run (one ∷ [])) in let len = ap length (run_on us (one ∷ [])) in record {
          same = (same.0 ∙ r.same.0, same.1 ∙ r.same.1);
          so = record r.so { uses = us ++ one ∷ [] };
          all = subst (λ (z : List (Step GatedQueue)). Ran v z (us ++ one ∷ []) true false x) (serving_on r.so one) (ran_on v w x (serving r.so) (entries_of one) us (one ∷ []) true true false false r.all u);
          long = omega arith;
          number = omega arith;
          few = omega arith;
          runner = runner;
          valid = valid;
          since = since_then v w x (notes_run (one ∷ [])) r.since (since_step w x (notes_run (one ∷ [])) u.served (omega arith) r.runner.taken_within runner.taken_within (made_of now.me r.runner) (made_of next.me runner)) u.served.notes r.runner.taken_within;
          failed = subst (FailedLeaves (count + 1 - (ran + more))) (uses_on us one) (failed_on count ran more (flat_map entries_of us) (entries_of one) r.few small r.failed fails keeps);
        }

    -- one serving, by its own uses and entries
    one_run : (w : View) (s : Serving) (left : Option Leaving) (ran : ℕ) → Ran old.me.0 (serving s ++ leaving left) s.uses (goes_on left) false w → length (notes_run s.uses) ≡ ran → HasRun old.me.0 (s ∷ []) left ran w
    one_run w s left ran a number = let us : s.uses ≡ all_uses (s ∷ []) = sym (append-nil s.uses) in let es : serving s ≡ flat_map serving (s ∷ []) = sym (append-nil (serving s)) in
        let b = subst (λ (z : Type 0). z) (λ i. Ran old.me.0 (es i ++ leaving left) (us i) (goes_on left) false w) a in record { fit = b.fit; number = subst (λ (z : List Use). length (notes_run z) ≡ ran) us number; made = b.made; served = b.served }

    -- and then the end left: all its steps, and the uses of the limit
    done_run : (mid w : View) (count ran : ℕ) (r : InRounds old now count ran) (n : FoundNone now.me.0 mid) (l : LeftNow mid w) → Ran old.me.0 (serving r.so ++ load tail_word n.0 n.2 ∷ load (place_word n.0) n.1 n.3 ∷ change gate_word 1 l.0 (with_gate l.0.object 0) ∷ []) r.so.uses false false w
    done_run mid w count ran r n l = let v : View = old.me.0 in let u : View = now.me.0 in let last : List (Step GatedQueue) = load tail_word n.0 n.2 ∷ load (place_word n.0) n.1 n.3 ∷ change gate_word 1 l.0 (with_gate l.0.object 0) ∷ [] in
        let a = ran_on u mid w (load tail_word n.0 n.2 ∷ load (place_word n.0) n.1 n.3 ∷ []) (change gate_word 1 l.0 (with_gate l.0.object 0) ∷ []) [] [] true false true false n.5 l.1 in
        subst (λ (z : List Use). Ran v (serving r.so ++ last) z false false w) (append-nil r.so.uses) (ran_on v u w (serving r.so) last r.so.uses [] true false false false r.all a)

    pub rounds_done : (mid w : View) (limit count ran : ℕ) → InRounds old now count ran → count < limit → FoundNone now.me.0 mid → LeftNow mid w → IsDone old.me.0 limit ran w
    rounds_done mid w limit count ran r below n l = let long = r.long in let left : Leaving = record { tail = n.0; word = n.1; low = n.4; at_tail = n.2; at_place = n.3; at_gate = l.0 } in (r.so, left, omega arith, one_run w r.so (Some left) ran (done_run mid w count ran r n l) r.number)

    pub left_why : (mid w : View) (limit count ran : ℕ) → InRounds old now count ran → count < limit → FoundNone now.me.0 mid → LeftNow mid w → WhyServed old.me.0 limit ran false w
    left_why mid w limit count ran r below n l = let few = r.few in let look : Step GatedQueue = load (place_word n.0) n.1 n.3 in let leave : Step GatedQueue = change gate_word 1 l.0 (with_gate l.0.object 0) in (
      count - ran,
      change gate_word r.so.gate r.so.begun (with_gate r.so.begun.object 1),
      flat_map entries_of r.so.uses ++ load tail_word n.0 n.2 ∷ [],
      omega arith,
      (let l = length-append (flat_map entries_of r.so.uses) (load tail_word n.0 n.2 ∷ []) in let c = cost r.so.uses in let long = r.long in let number = r.number in omega arith),
      refl,
      failed_more (count - ran) (flat_map entries_of r.so.uses) (load tail_word n.0 n.2 ∷ []) r.failed (refl, tt),
      (
        look,
        leave,
        subst (λ (z : List (Step GatedQueue)). ExtendsTrace old.me.0 z w) (sym (append_assoc (serving r.so) (load tail_word n.0 n.2 ∷ []) (look ∷ leave ∷ []))) (done_run mid w count ran r n l).made.adds,
        (n.6, refl, l.2 ∙ sym n.7, l.3),
        refl,
        l.4,
      ),
    )

    pub since_done : (mid w : View) (held : List (ℕ × Q)) (count ran : ℕ) → InRounds old now count ran → FoundNone now.me.0 mid → LeftNow mid w → IsValidChainView w → HasOrGave made fits false (w, held) → MadeSince made fits old.me.0 w
    since_done mid w held count ran r n l valid h = let u : View = now.me.0 in let on = served_on u mid w [] [] n.5.served l.1.served in
        since_then old.me.0 u w [] r.since (since_step u w [] on (omega arith) r.runner.taken_within valid.lawful.0.taken_within (made_of now.me r.runner) h.1) on.notes r.runner.taken_within

-- several servings, the limit of each used up
pub record AllRounds (v : View) (servings : List Serving) (total : ℕ) (w : View) : Type 0 where
  pub full : AllByRecursion (λ (s : Serving). length s.uses ≡ 4294967295) servings
  pub saw : Bool
  pub all : Ran v (flat_map serving servings ++ []) (all_uses servings) true saw w
  pub number : length (notes_run (all_uses servings)) ≡ total

pub no_rounds : (v : View) → v.own.runner ≡ true → AllRounds v [] 0 v
no_rounds v r = record {
  full = tt;
  saw = v.own.saw;
  all = record { fit = tt; made = record { adds = (made_none v).adds; did = λ i. record v.own { takes = sym (append-nil v.own.takes) i; runner = r i; taken = no_more v.own.taken i }; member = refl }; served = served_still v };
  number = refl;
}

-- servings, and then one more
run_all : (v u w : View) (servings : List Serving) (s : Serving) (total ran : ℕ) (left : Option Leaving) → AllRounds v servings total u → HasRun u (s ∷ []) left ran w → HasRun v (servings ++ s ∷ []) left (total + ran) w
run_all v u w servings s total ran left a h = let us = sym (flat_map-append (λ (z : Serving). z.uses) servings (s ∷ [])) in let es = sym (flat_map-append serving servings (s ∷ [])) in let ends = append-nil (flat_map serving servings) in
    let b = ran_on v u w (flat_map serving servings ++ []) (flat_map serving (s ∷ []) ++ leaving left) (all_uses servings) (all_uses (s ∷ [])) true (goes_on left) a.saw false a.all record { fit = h.fit; made = h.made; served = h.served } in
    let n = length-append (notes_run (all_uses servings)) (notes_run (all_uses (s ∷ []))) in let m = ap length (run_on (all_uses servings) (all_uses (s ∷ []))) in let x = a.number in let y = h.number in let long : length (notes_run (all_uses servings ++ all_uses (s ∷ []))) ≡ total + ran = omega arith in
    let es' = (λ i. ends i ++ (flat_map serving (s ∷ []) ++ leaving left)) ∙ (sym (append_assoc (flat_map serving servings) (flat_map serving (s ∷ [])) (leaving left)) ∙ ap (λ (z : List (Step GatedQueue)). z ++ leaving left) es) in
    let c = subst (λ (z : Type 0). z) (λ i. Ran v (es' i) (us i) (goes_on left) false w) b in record { fit = c.fit; number = subst (λ (z : List Use). length (notes_run z) ≡ total + ran) us long; made = c.made; served = c.served }

-- a serving that was used up is one more of them
pub rounds_more : (v u w : View) (servings : List Serving) (s : Serving) (total ran : ℕ) → AllRounds v servings total u → length s.uses ≡ 4294967295 → HasRun u (s ∷ []) None ran w → AllRounds v (servings ++ s ∷ []) (total + ran) w
rounds_more v u w servings s total ran a full h = let r = run_all v u w servings s total ran None a h in
    record { full = all_on (λ (z : Serving). length z.uses ≡ 4294967295) servings (s ∷ []) a.full (full, tt); saw = false; all = record { fit = r.fit; made = r.made; served = r.served }; number = r.number }

pub all_done : (v u w : View) (servings : List Serving) (s : Serving) (l : Leaving) (total ran : ℕ) → AllRounds v servings total u → length s.uses < 4294967295 → HasRun u (s ∷ []) (Some l) ran w → AllServed v (total + ran) w
all_done v u w servings s l total ran a less h = (servings, s, l, a.full, less, run_all v u w servings s total ran (Some l) a h)

-- fewer notes than positions were run
pub few_run : (v w : View) (ns : List ℕ) → HasServed v ns w → ∥ IsValidChainView w ∥₁ → length ns < 4294967296
few_run v w ns s valid = ∥∥₁_elim valid (search props) (λ (h : IsValidChainView w). let taken = s.taken in let following = h.lawful.0.taken_within in let bounded = h.bounded in let few : length ns < 4294967296 = omega arith in few)

-- the answer of one serving
pub used_up : {Q : Type 0} (me me' : Me Q View) (limit ran : ℕ) (turn : Turn) → 0 < limit → IsUsedUp me.0 limit ran me'.0 → ServedNow me limit (served.More turn ran) me'
used_up me me' zero ran turn some i = absurd (omega arith)
used_up me me' (suc n) ran turn some i = i
