-- The record of the end, and its place among the ends, after each answer of a queue.
use Rattle.claim_queue.proofs.Common.{ℕ, List, ◌++◌, inl, inr, ⊎_elim, Result, Ok, Err, Positions, Step, QueueOps, ClaimRefusal, NoItems, TooLong, Closed, Spent, Full, Lost, TakeRefusal, RefusedBy, Refused, ClaimedItems, run_of, View, run, taking, with_run, with_taking, OnlyLoads, Try, tried, IsPut, PutAnswer, TookItems, RefusedTake}
use Rattle.std.specs.Prelude.{length}
use Rattle.claim_queue.specs.declared.take.TakeRefusal.TheVariants as takes
pub use Rattle.table_theory.proofs.Looking.{Does, does}
use Rattle.table_theory.proofs.Looking.{looks_does}

-- the entries of a refused claim: the refusal says the same of them in any longer list of entries
pub refused_at : (Added : List (Step Positions) → Type 0) (room count : ℕ) (r : ClaimRefusal) → RefusedBy Added room count r → (entries : List (Step Positions)) × Added entries × ((Behind : List (Step Positions) → Type 0) → Behind entries → RefusedBy Behind room count r)
refused_at Added room count NoItems (none_there, a) = (_, a, λ Behind b. (none_there, b))
refused_at Added room count TooLong (long, a) = (_, a, λ Behind b. (long, b))
refused_at Added room count Closed (fits, inl (head, m, marked, a)) = (_, a, λ Behind b. (fits, inl (head, m, marked, b)))
refused_at Added room count Closed (fits, inr (head, tail, now, m, n, o, there, marked, a)) = (_, a, λ Behind b. (fits, inr (head, tail, now, m, n, o, there, marked, b)))
refused_at Added room count Spent (fits, head, m, is_open, spent, a) = (_, a, λ Behind b. (fits, head, m, is_open, spent, b))
refused_at Added room count (Full head tail) (fits, m, n, bounded, full, a) = (_, a, λ Behind b. (fits, m, n, bounded, full, b))
refused_at Added room count (Lost now) (fits, head, tail, m, n, o, there, is_open, past, a) = (_, a, λ Behind b. (fits, head, tail, m, n, o, there, is_open, past, b))

pub refused_own : (room count : ℕ) (v w : View) (r : ClaimRefusal) → Refused room v count r w → Does v v.own w
refused_own room count v w r h = let at = refused_at (λ entries. OnlyLoads v entries w) room count r h in looks_does v w at.0 at.1

pub claimed_own : (room : ℕ) (v w : View) (head : ℕ) (items : List ℕ) → ClaimedItems room v head items w → Does v (with_run v.own (run head items)) w
claimed_own room v w head items (past, (tail, m, n, o, fits, there, made)) = does v w _ _ made

pub put_own : (room : ℕ) (v w : View) (start : ℕ) (items : List ℕ) → IsPut room v start items w → Does v (with_run v.own (run_of start items (length items))) w
put_own room v w start items (past, (raises, are, (tail, m, n, o, fits, there, made))) = does v w _ _ made

-- the record of the end after a put with this answer
abbrev pub did_put : View → List ℕ → Result ℕ ClaimRefusal → QueueOps
did_put v items (Ok start) = with_run v.own (run_of start items (length items))
did_put v items (Err refusal) = v.own

tried_own : (room count : ℕ) (v w : View) (tries : List Try) (r : ClaimRefusal) → RefusedBy (λ entries. OnlyLoads v (tried tries ++ entries) w) room count r → Does v v.own w
tried_own room count v w tries r h = let at = refused_at (λ entries. OnlyLoads v (tried tries ++ entries) w) room count r h in looks_does v w (tried tries ++ at.0) at.1

pub answer_own : (room : ℕ) (v w : View) (items : List ℕ) (r : Result ℕ ClaimRefusal) → PutAnswer room v items r w → Does v (did_put v items r) w
answer_own room v w items (Ok start) (past, tries, all, (raises, are, (tail, m, n, o, fits, there, made))) = does v w _ _ made
answer_own room v w items (Err NoItems) h = tried_own room (length items) v w h.0 NoItems h.2
answer_own room v w items (Err TooLong) h = tried_own room (length items) v w h.0 TooLong h.2
answer_own room v w items (Err Closed) h = tried_own room (length items) v w h.0 Closed h.2
answer_own room v w items (Err Spent) h = tried_own room (length items) v w h.0 Spent h.2
answer_own room v w items (Err (Full head tail)) h = tried_own room (length items) v w h.0 (Full head tail) h.2
answer_own room v w items (Err (Lost head)) h = absurd h

-- the place from which on the items were taken
pub took_own : (room : ℕ) (v w : View) (items : List ℕ) → (t : TookItems room v items w) → Does v (with_taking v.own (taking t.2.object (length items))) w
took_own room v w items (tail, m, o, scan, are, first, made) = does v w _ _ made

pub refused_take_own : (Few Enough : List ℕ → Type 0) (room : ℕ) (v w : View) (r : TakeRefusal) → RefusedTake Few Enough room v r w → Does v v.own w
refused_take_own Few Enough room v w (takes.Empty at) (s, head, m, n, stop, is, going, mine, made) = does v w _ _ made
refused_take_own Few Enough room v w (takes.Lost tail) h = ⊎_elim (λ p. does v w v.own _ p.7) (λ p. does v w v.own _ p.6) h
refused_take_own Few Enough room v w takes.Closed (s, m, stop, made) = does v w _ _ made
