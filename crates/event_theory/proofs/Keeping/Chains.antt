-- Each chain event keeps a lawful chain.
use Rattle.std.proofs.Common.{◌≡◌, ℕ, zero, suc, ◌+◌, ◌<◌, Bool, true, false, ◌&&◌, ◌||◌, not, cond, List, [], ◌∷◌, ◌++◌, ◌∙◌, length, drop, refl, sym, ap, subst, arith, append-nil, Option, Some, None, slice_get, option_map, eqb, leb, ltb, nat_lt, Ok}
use Rattle.std.proofs.lemmas.Bool.{eqb-true}
use Rattle.std.proofs.lemmas.Bool.Decides.{nat_tests}
use Rattle.std.proofs.lemmas.List.{drop-append-le}
use Rattle.std.specs.List.{list_any}
use Rattle.std.specs.Option.{is_some}
use Rattle.event_theory.specs.Runs.{Run, pairs_of, pairs_from, pairs, run_length}
use Rattle.event_theory.specs.Queues.{Queue, left_pairs, is_raised, after_claim, after_raise, claim, raise_of, raise, take_first, renamed, join_run}
use Rattle.event_theory.specs.Chains.{Chain, empty_chain, with_number, is_call, owes, forgotten, is_forgotten, claim_note, raise_note, take_note, runner_after, notify, round, is_more, leave, join_set, join_chain}
use Rattle.event_theory.specs.Results.{refused_if}
use Rattle.event_theory.specs.declared.status.Gate.{Gate}
use Rattle.event_theory.specs.declared.status.Gate.TheVariants.{Idle, Running, More}
use Rattle.event_theory.specs.declared.refusal.Refusal.TheVariants.{UnknownName, NoItems, TooLong, Full, NotOwner, AlreadyRaised, Closed, GateBusy, NotRunner}
use Rattle.event_theory.specs.Lawful.{IsLawfulQueue, IsLawfulChain, is_idle}
use Rattle.event_theory.proofs.Lists.Inversions.{then_ok, test_ok, given_ok}
use Rattle.event_theory.proofs.Lists.Histories.{both, length-pairs_from, pairs_from-append}
use Rattle.event_theory.proofs.Keeping.Queues.{claim_law, raise_law, take_law}
use Rattle.event_theory.proofs.Keeping.First.{empty_law}
use Rattle.event_theory.proofs.Keeping.Joins.{slice_get_joined, left_pairs_joined, join_queue_law}

not_false : (b : Bool) → not b ≡ false → b ≡ true
not_false true h = refl
not_false false h = absurd (cc)

pub empty_chain_law : IsLawfulChain empty_chain
empty_chain_law = record { notes = empty_law 32; run = refl; promised = refl }

-- a chain with other notes
abbrev with_notes : Queue → Chain → Chain
with_notes notes c = record c { notes = notes }

-- a run that has an item is found in a longer history
found_append : (h k : List Run) (run : ℕ) → 0 < run_length h run → slice_get (h ++ k) run ≡ slice_get h run
found_append [] k run some = absurd (omega (arith, some))
found_append (x ∷ h) k zero some = refl
found_append (x ∷ h) k (suc run) some = found_append h k run some

past_last : (h : List Run) → run_length h (length h) ≡ 0
past_last [] = refl
past_last (x ∷ h) = past_last h

-- what doesn't lie in the history isn't raised
not_raised : (q : Queue) (run index : ℕ) (raised : Bool) → IsLawfulQueue q → q.raised run index ≡ raised → run_length q.history run ≡ 0 → raised ≡ false
not_raised q run index true lawful h none = absurd (omega (arith, lawful.within run index h, none))
not_raised q run index false lawful h none = refl

-- the first note of a run that was just claimed isn't raised
fresh_kept : (items : List ℕ) (call : ℕ) (c : Chain) → IsLawfulQueue c.notes
    → forgotten (with_notes (after_claim call items c.notes) c) (slice_get (pairs_of (length c.notes.history) 0 items) 0) ≡ false
fresh_kept [] call c lawful = refl
fresh_kept (item ∷ items) call c lawful =
    let past : c.notes.raised (length c.notes.history) 0 ≡ false =
    not_raised c.notes (length c.notes.history) 0 _ lawful refl (past_last c.notes.history) in
    rw past refl

-- a first note that was there is forgotten after a claim only if it was forgotten before
first_kept : (call : ℕ) (items : List ℕ) (c : Chain) (pair : ℕ × ℕ) (raised : Bool) → IsLawfulQueue c.notes → c.notes.raised pair.0 pair.1 ≡ raised
    → forgotten (with_notes (after_claim call items c.notes) c) (Some pair) ≡ forgotten c (Some pair)
first_kept call items c pair false lawful at = rw at refl
first_kept call items c pair true lawful at =
    let here : pair.1 < run_length c.notes.history pair.0 = lawful.within pair.0 pair.1 at in
    let found = found_append c.notes.history (record { call = call; items = items } ∷ []) pair.0 (omega (arith, here)) in
    ap (λ run. c.notes.raised pair.0 pair.1 && not (owes c run)) found

-- nothing is forgotten after a claim if nothing was forgotten before
claim_kept : (call : ℕ) (items : List ℕ) (c : Chain) (before : List (ℕ × ℕ)) → IsLawfulQueue c.notes → forgotten c (slice_get before 0) ≡ false
    → forgotten (with_notes (after_claim call items c.notes) c) (slice_get (before ++ pairs_of (length c.notes.history) 0 items) 0) ≡ false
claim_kept call items c [] lawful h = fresh_kept items call c lawful
claim_kept call items c (pair ∷ pairs) lawful h = first_kept call items c pair _ lawful refl ∙ h

-- the pairs of a claimed run come after those that are left
pub left_claimed : (call : ℕ) (items : List ℕ) (q : Queue) → IsLawfulQueue q
    → left_pairs (after_claim call items q) ≡ left_pairs q ++ pairs_of (length q.history) 0 items
left_claimed call items q lawful =
    let run : Run = record { call = call; items = items } in
    let first : 0 + length q.history ≡ length q.history = omega arith in
    let joined : pairs (q.history ++ run ∷ []) ≡ pairs q.history ++ pairs_of (length q.history) 0 items =
    pairs_from-append 0 q.history (run ∷ []) ∙ ap (λ number. pairs q.history ++ pairs_from number (run ∷ [])) first
    ∙ ap (λ xs. pairs q.history ++ xs) (append-nil (pairs_of (length q.history) 0 items)) in
    ap (drop q.taken) joined
    ∙ drop-append-le q.taken (pairs q.history) (pairs_of (length q.history) 0 items) (omega (arith, lawful.taken_within, length-pairs_from 0 q.history))

-- a claim that was allowed appended its run
pub claim_ok : (longest call : ℕ) (items : List ℕ) (q r : Queue) → claim longest call items q ≡ Ok r → r ≡ after_claim call items q
claim_ok longest call items q r ok =
    let a = test_ok (eqb (length items) 0) NoItems _ r ok in
    let b = test_ok (ltb longest (length items)) TooLong _ r a.1 in
    let c = test_ok q.shut Closed _ r b.1 in
    let d = test_ok _ Full _ r c.1 in
    sym (given_ok (after_claim call items q) r d.1)

-- what keeps a second test from holding keeps both from holding
and_kept : (a b c : Bool) → (b ≡ false → c ≡ false) → (a && b) ≡ false → (a && c) ≡ false
and_kept true b c kept h = kept h
and_kept false b c kept h = refl

pub claim_note_law : (call : ℕ) (items : List ℕ) (c d : Chain) → IsLawfulChain c → claim_note call items c ≡ Ok d → IsLawfulChain d
claim_note_law call items c d lawful ok =
    let a = test_ok (list_any (nat_lt 65535) items) UnknownName _ d ok in
    let h = then_ok (claim 1 call items c.notes) (λ notes. Ok (with_notes notes c)) d a.1 in
    let is : h.0 ≡ after_claim call items c.notes = claim_ok 1 call items c.notes h.0 h.1 in
    let kept : is_forgotten c ≡ false → is_forgotten (with_notes (after_claim call items c.notes) c) ≡ false =
    λ none. ap (λ xs. forgotten (with_notes (after_claim call items c.notes) c) (slice_get xs 0)) (left_claimed call items c.notes lawful.notes)
    ∙ claim_kept call items c (left_pairs c.notes) lawful.notes none in
    let after : IsLawfulChain (with_notes (after_claim call items c.notes) c) = record {
      notes = subst IsLawfulQueue is (claim_law 1 call items c.notes h.0 lawful.notes h.1);
      run = lawful.run;
      promised = and_kept (is_idle c.gate) (is_forgotten c) _ kept lawful.promised;
    } in
    subst IsLawfulChain (given_ok (with_notes h.0 c) d h.2) (subst (λ notes. IsLawfulChain (with_notes notes c)) (sym is) after)

-- what a raise that was allowed made, and the run that it found
pub record Raised (call run index : ℕ) (q r : Queue) : Type 0 where
  pub claimed : Run
  pub found : slice_get q.history run ≡ Some claimed
  pub below : index < length claimed.items
  pub own : claimed.call ≡ call
  pub is : r ≡ after_raise run index q

raise_found : (call run index : ℕ) (q r : Queue) (found : Option Run) → slice_get q.history run ≡ found → raise_of call run index q found ≡ Ok r → Raised call run index q r
raise_found call run index q r None at ok = absurd (cc)
raise_found call run index q r (Some claimed) at ok =
    let a = test_ok (leb (length claimed.items) index) UnknownName _ r ok in
    let b = test_ok (not (eqb claimed.call call)) NotOwner _ r a.1 in
    let c = test_ok (q.raised run index) AlreadyRaised _ r b.1 in
    let past : leb (length claimed.items) index ≡ false = a.0 in
    record {
      claimed = claimed;
      found = at;
      below = grind (arith, nat_tests);
      own = eqb-true claimed.call call (not_false (eqb claimed.call call) b.0);
      is = sym (given_ok (after_raise run index q) r c.1);
    }

pub raise_ok : (call run index : ℕ) (q r : Queue) → raise call run index q ≡ Ok r → Raised call run index q r
raise_ok call run index q r ok = raise_found call run index q r (slice_get q.history run) refl ok

-- a chain after a raise by the call
abbrev raised_chain : ℕ → Queue → Chain → Chain
raised_chain call notes c = record c { notes = notes; owing = with_number true call c.owing }

if_true : (a b : Bool) → b ≡ true → cond a true b ≡ true
if_true true b h = refl
if_true false b h = h

-- who owed a notify owes it after a raise
owes_more : (call : ℕ) (notes : Queue) (c : Chain) (run : Option Run) → owes c run ≡ true → owes (raised_chain call notes c) run ≡ true
owes_more call notes c None h = h
owes_more call notes c (Some run) h = if_true (eqb run.call call) (c.owing run.call) h

and_not : (a b c : Bool) → (b ≡ true → c ≡ true) → (a && not b) ≡ false → (a && not c) ≡ false
and_not true true c more h = ap not (more refl)
and_not true false c more h = absurd (cc)
and_not false b c more h = refl

and_true : (a b : Bool) → b ≡ true → (a && not b) ≡ false
and_true true b h = ap not h
and_true false b h = refl

-- a pair is forgotten after a raise only if it was forgotten before
raise_kept : (call run index : ℕ) (c : Chain) (claimed : Run) (pair : ℕ × ℕ) (same : Bool) → slice_get c.notes.history run ≡ Some claimed → claimed.call ≡ call
    → (eqb pair.0 run && eqb pair.1 index) ≡ same → forgotten c (Some pair) ≡ false
    → forgotten (raised_chain call (after_raise run index c.notes) c) (Some pair) ≡ false
raise_kept call run index c claimed pair true found own at h =
    let first = both (eqb pair.0 run) (eqb pair.1 index) at in
    let here : slice_get c.notes.history pair.0 ≡ Some claimed = ap (slice_get c.notes.history) (eqb-true pair.0 run first.0) ∙ found in
    let now : owes (raised_chain call (after_raise run index c.notes) c) (Some claimed) ≡ true = grind (arith, nat_tests) in
    and_true _ _ (ap (owes (raised_chain call (after_raise run index c.notes) c)) here ∙ now)
raise_kept call run index c claimed pair false found own at h =
    let after = raised_chain call (after_raise run index c.notes) c in
    rw at (and_not (c.notes.raised pair.0 pair.1) (owes c (slice_get c.notes.history pair.0)) (owes after (slice_get c.notes.history pair.0))
    (owes_more call (after_raise run index c.notes) c (slice_get c.notes.history pair.0)) h)

raise_kept_at : (call run index : ℕ) (c : Chain) (claimed : Run) (pair : Option (ℕ × ℕ)) → slice_get c.notes.history run ≡ Some claimed → claimed.call ≡ call
    → forgotten c pair ≡ false → forgotten (raised_chain call (after_raise run index c.notes) c) pair ≡ false
raise_kept_at call run index c claimed None found own h = refl
raise_kept_at call run index c claimed (Some pair) found own h = raise_kept call run index c claimed pair _ found own refl h

pub raise_note_law : (call run index : ℕ) (c d : Chain) → IsLawfulChain c → raise_note call run index c ≡ Ok d → IsLawfulChain d
raise_note_law call run index c d lawful ok =
    let h = then_ok (raise call run index c.notes) (λ notes. Ok (raised_chain call notes c)) d ok in
    let r = raise_ok call run index c.notes h.0 h.1 in
    let after : IsLawfulChain (raised_chain call (after_raise run index c.notes) c) = record {
      notes = subst IsLawfulQueue r.is (raise_law call run index c.notes h.0 lawful.notes h.1);
      run = lawful.run;
      promised = and_kept (is_idle c.gate) (is_forgotten c) _ (raise_kept_at call run index c r.claimed (slice_get (left_pairs c.notes) 0) r.found r.own) lawful.promised;
    } in
    subst IsLawfulChain (given_ok (raised_chain call h.0 c) d h.2) (subst (λ notes. IsLawfulChain (raised_chain call notes c)) (sym r.is) after)

-- whoever is the runner is one
some_runner : (call : ℕ) (runner : Option ℕ) → is_call call runner ≡ true → is_some runner ≡ true
some_runner call None h = h
some_runner call (Some other) h = refl

-- a call that isn't refused as no runner is the runner
runs : (call : ℕ) (c : Chain) → not (is_call call c.runner) ≡ false → is_some c.runner ≡ true
runs call c h = some_runner call c.runner (not_false (is_call call c.runner) h)

busy : (idle : Bool) (some : Bool) → some ≡ not idle → some ≡ true → idle ≡ false
busy true some h here = absurd (cc)
busy false some h here = refl

pub take_note_law : (call count : ℕ) (c d : Chain) → IsLawfulChain c → take_note call count c ≡ Ok d → IsLawfulChain d
take_note_law call count c d lawful ok =
    let h = then_ok (take_first 1 count c.notes) (λ notes. refused_if (not (is_call call c.runner)) NotRunner (Ok (with_notes notes c))) d ok in
    let a = test_ok (not (is_call call c.runner)) NotRunner _ d h.2 in
    let running : is_idle c.gate ≡ false = busy (is_idle c.gate) (is_some c.runner) lawful.run (runs call c a.0) in
    let after : IsLawfulChain (with_notes h.0 c) = record {
      notes = take_law 1 count c.notes h.0 lawful.notes h.1;
      run = lawful.run;
      promised = rw running refl;
    } in
    subst IsLawfulChain (given_ok (with_notes h.0 c) d a.1) after

runner_there : (call : ℕ) (gate : Gate) (runner : Option ℕ) → is_some runner ≡ not (is_idle gate) → is_some (runner_after call gate runner) ≡ true
runner_there call Idle runner h = refl
runner_there call Running runner h = h
runner_there call More runner h = h

pub notify_law : (call : ℕ) (c d : Chain) → IsLawfulChain c → notify call c ≡ Ok d → IsLawfulChain d
notify_law call c d lawful ok =
    let a = test_ok (not (c.owing call)) NotOwner _ d ok in
    let next : Chain = record c { gate = More; runner = runner_after call c.gate c.runner; owing = with_number false call c.owing } in
    let after : IsLawfulChain next = record { notes = lawful.notes; run = runner_there call c.gate c.runner lawful.run; promised = refl } in
    subst IsLawfulChain (given_ok next d a.1) after

pub round_law : (call : ℕ) (c d : Chain) → IsLawfulChain c → round call c ≡ Ok d → IsLawfulChain d
round_law call c d lawful ok =
    let a = test_ok (not (is_call call c.runner)) NotRunner _ d ok in
    let next : Chain = record c { gate = Running } in
    let after : IsLawfulChain next = record { notes = lawful.notes; run = runs call c a.0; promised = refl } in
    subst IsLawfulChain (given_ok next d a.1) after

neither : (a b : Bool) → (a || b) ≡ false → b ≡ false
neither true b h = absurd (cc)
neither false b h = h

-- a chain that was left
abbrev left_chain : Chain → Chain
left_chain c = record c { gate = Idle; runner = None }

owes_left : (c : Chain) (run : Option Run) → owes (left_chain c) run ≡ owes c run
owes_left c None = refl
owes_left c (Some run) = refl

forgotten_left : (c : Chain) (pair : Option (ℕ × ℕ)) → forgotten (left_chain c) pair ≡ forgotten c pair
forgotten_left c None = refl
forgotten_left c (Some pair) = ap (λ owed. is_raised c.notes pair && not owed) (owes_left c (slice_get c.notes.history pair.0))

pub leave_law : (call : ℕ) (c d : Chain) → IsLawfulChain c → leave call c ≡ Ok d → IsLawfulChain d
leave_law call c d lawful ok =
    let a = test_ok (is_more c.gate || is_forgotten c) GateBusy _ d ok in
    let b = test_ok (not (is_call call c.runner)) NotRunner _ d a.1 in
    let after : IsLawfulChain (left_chain c) = record {
      notes = lawful.notes;
      run = refl;
      promised = forgotten_left c (slice_get (left_pairs c.notes) 0) ∙ neither (is_more c.gate) (is_forgotten c) a.0;
    } in
    subst IsLawfulChain (given_ok (left_chain c) d b.1) after

or_last : (a b : Bool) → b ≡ true → (a || b) ≡ true
or_last true b h = refl
or_last false b h = h

-- who owed a notify owes it under the new name
joined_owing : (call other name : ℕ) (set : ℕ → Bool) (same : Bool) → eqb name other ≡ same → eqb call other ≡ false → set name ≡ true
    → join_set call other set (cond same call name) ≡ true
joined_owing call other name set true at apart h =
    let itself : eqb call call ≡ true = grind (arith, nat_tests) in
    let own : (eqb call call && set other) ≡ true = rw itself (ap set (sym (eqb-true name other at)) ∙ h) in
    rw apart (or_last (set call) (eqb call call && set other) own)
joined_owing call other name set false at apart h = rw (at, h) refl

owes_joined : (call other : ℕ) (c : Chain) (run : Option Run) → eqb call other ≡ false → owes c run ≡ true
    → owes (join_chain call other c) (option_map (join_run call other) run) ≡ true
owes_joined call other c None apart h = h
owes_joined call other c (Some run) apart h = joined_owing call other run.call c.owing (eqb run.call other) refl apart h

join_kept : (call other : ℕ) (c : Chain) (pair : Option (ℕ × ℕ)) → eqb call other ≡ false → forgotten c pair ≡ false
    → forgotten (join_chain call other c) pair ≡ false
join_kept call other c None apart h = refl
join_kept call other c (Some pair) apart h =
    and_not (is_raised c.notes pair) (owes c (slice_get c.notes.history pair.0)) _
    (λ owed. ap (owes (join_chain call other c)) (slice_get_joined call other c.notes.history pair.0) ∙ owes_joined call other c (slice_get c.notes.history pair.0) apart owed) h

some_joined : (call other : ℕ) (runner : Option ℕ) → is_some (option_map (renamed call other) runner) ≡ is_some runner
some_joined call other None = refl
some_joined call other (Some runner) = refl

pub join_chain_law : (call other : ℕ) (c : Chain) → eqb call other ≡ false → IsLawfulChain c → IsLawfulChain (join_chain call other c)
join_chain_law call other c apart lawful =
    let kept : is_forgotten c ≡ false → is_forgotten (join_chain call other c) ≡ false =
    λ none. ap (λ xs. forgotten (join_chain call other c) (slice_get xs 0)) (left_pairs_joined call other c.notes)
    ∙ join_kept call other c (slice_get (left_pairs c.notes) 0) apart none in
    record {
      notes = join_queue_law call other c.notes lawful.notes;
      run = some_joined call other c.runner ∙ lawful.run;
      promised = and_kept (is_idle c.gate) (is_forgotten c) (is_forgotten (join_chain call other c)) kept lawful.promised;
    }
