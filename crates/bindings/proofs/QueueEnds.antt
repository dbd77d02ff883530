-- An end that takes keeps its share, and has raised what it had raised.
use Rattle.bindings.proofs.Calls.{◌≡◌, ℕ, zero, suc, List, [], ◌∷◌, ◌++◌, refl, sym, ap, subst, ◌∙◌, Result, Ok, Err}
use Rattle.bindings.proofs.Calls.{MatchResult, Option, None, Some, TookEach}
use Rattle.claim_queue.proofs.Common.{RefusedTake, IsNone, IsOne, IsBegun, JoinedBy, Batch}
use Rattle.claim_queue.proofs.Answered.{refused_take_own, took_own}
use Rattle.table_theory.specs.Listing.{AllRaised}
use Rattle.claim_queue.specs.Own.{View}
use Rattle.claim_queue.specs.Takings.{TookItems, IsLine}
use Rattle.bindings.specs.QueueTaking.{TakeRefusal, TookSome}

-- the end has its share and its claims still
pub record Keeps (v w : View) : Type 0 where
  pub runs : w.own.runs ≡ v.own.runs
  pub share : w.member.share ≡ v.member.share

keeps_on : (u v w : View) → Keeps u v → Keeps v w → Keeps u w
keeps_on u v w a b = record { runs = b.runs ∙ a.runs; share = b.share ∙ a.share }

pub still_raised : {v w : View} → Keeps v w → AllRaised v.own.runs → AllRaised w.own.runs
still_raised k = subst AllRaised (sym k.runs)

pub took_keeps : (n : ℕ) (v w : View) (items : List ℕ) → TookItems n v items w → Keeps v w
took_keeps n v w items t = let m = took_own n v w items t in record { runs = λ i. (m.did i).runs; share = λ i. (m.member i).share }

pub refused_keeps : (Few Enough : List ℕ → Type 0) (n : ℕ) (v w : View) (r : TakeRefusal) → RefusedTake Few Enough n v r w → Keeps v w
refused_keeps Few Enough n v w r h = let m = refused_take_own Few Enough n v w r h in record { runs = λ i. (m.did i).runs; share = λ i. (m.member i).share }

pub take_keeps : (n : ℕ) (v w : View) (answer : Result ℕ TakeRefusal)
    → MatchResult answer (λ x. TookItems n v (x ∷ []) w) (λ r. RefusedTake IsNone IsOne n v r w) → Keeps v w
take_keeps n v w (Ok x) h = took_keeps n v w (x ∷ []) h
take_keeps n v w (Err r) h = refused_keeps IsNone IsOne n v w r h

pub line_keeps : (n : ℕ) (v w : View) (items : List ℕ) (answer : Result ℕ TakeRefusal)
    → MatchResult answer (λ k. TookItems n v items w) (λ r. RefusedTake (IsBegun n) (IsLine n) n v r w) → Keeps v w
line_keeps n v w items (Ok k) h = took_keeps n v w items h
line_keeps n v w items (Err r) h = refused_keeps (IsBegun n) (IsLine n) n v w r h

each_keeps : (n : ℕ) (v w : View) (items : List ℕ) → TookEach n v items w → Keeps v w
each_keeps n v w [] h = record { runs = ap (λ (z : View). z.own.runs) h; share = ap (λ (z : View). z.member.share) h }
each_keeps n v w (x ∷ xs) h = keeps_on v h.0 w (took_keeps n v h.0 (x ∷ []) h.1) (each_keeps n h.0 w xs h.2)

pub some_keeps : (n : ℕ) (v w : View) (items : List ℕ) (buffer : ℕ) (r : Option TakeRefusal) → TookSome n v items buffer r w → Keeps v w
some_keeps n v w items buffer None h = each_keeps n v w items h.1
some_keeps n v w items buffer (Some r) h = keeps_on v h.0 w (each_keeps n v h.0 items h.1) (refused_keeps IsNone IsOne n h.0 w r h.2)

-- one taking more
pub each_more : (n : ℕ) (v u w : View) (items : List ℕ) (x : ℕ) → TookEach n v items u → TookItems n u (x ∷ []) w → TookEach n v (items ++ x ∷ []) w
each_more n v u w [] x h t = (w, subst (λ (z : View). TookItems n z (x ∷ []) w) h t, refl)
each_more n v u w (y ∷ ys) x h t = (h.0, h.1, each_more n h.0 u w ys x h.2 t)

raised_both : (a b : List Batch) → AllRaised a → AllRaised b → AllRaised (a ++ b)
raised_both [] b ha hb m e at i l = hb m e at i l
raised_both (x ∷ a) b ha hb zero e at i l = ha zero e at i l
raised_both (x ∷ a) b ha hb (suc m) e at i l = raised_both a b (λ m. ha (suc m)) hb m e at i l

-- an end that took another in has raised what both had
pub joined_raised : (v u w : View) → JoinedBy v u w → AllRaised v.own.runs → AllRaised u.own.runs → AllRaised w.own.runs
joined_raised v u w j a b = subst AllRaised (λ i. (sym j.own i).runs) (raised_both v.own.runs u.own.runs a b)
