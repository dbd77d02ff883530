-- What a try to take leaves of a holder.
use Rattle.pool.proofs.Common.{◌≡◌, ℕ, ◌≤◌, List, ◌++◌, ◌∙◌, length, take, drop, sym, ap, subst, arith, MatchResult, IfOk, Result, Ok, Err, TakeRefusal, TookLine, lines_put, lines_taken, View, FilledSome, RefusedTakeSome, SameSome, TookSome, Acquired, IsFair, HoldsSame, HoldsMore, Holds}
use Rattle.std.proofs.Math.Seq.{drop-append_seam, take-append_seam}
use Rattle.pool.proofs.Steps.{Took, refused_some, took_some}
use Rattle.pool.proofs.Holding.{more_holds, same_fair, same_held, took_fair, took_held}

-- the first n of the buffer are the line
pub filled_line : (n : ℕ) (line old new : List ℕ) → length line ≡ n → new ≡ line ++ drop n old → take n new ≡ line
filled_line n line old new long is = (λ i. take (sym long i) (is i)) ∙ take-append_seam line (drop n old)

filled_rest : (n : ℕ) (line old new : List ℕ) → length line ≡ n → new ≡ line ++ drop n old → drop n new ≡ drop n old
filled_rest n line old new long is = (λ i. drop (sym long i) (is i)) ∙ drop-append_seam line (drop n old)

module _ (room : ℕ) (v w : View) (old new : List ℕ) where
  abbrev pub Effect : Result ℕ TakeRefusal → Type 0
  Effect r = MatchResult r (λ n. FilledSome n old new v w) (λ e. SameSome v w × (new ≡ old))

  abbrev pub Trace : Result ℕ TakeRefusal → Type 0
  Trace r = MatchResult r (λ n. TookSome room v (length old) (take n new) w) (λ e. RefusedTakeSome room v (length old) e w)

  pub took : (r : Result ℕ TakeRefusal) → Trace r → Took v w
  took (Ok n) t = took_some room (length old) (take n new) v w t
  took (Err e) t = let d = refused_some room (length old) v w e t in record { runs_are = d.runs_are; shuts_are = d.shuts_are; entries = d.entries; adds = d.adds }

  pub acquire_fair : (r : Result ℕ TakeRefusal) → Effect r → Trace r → IsFair v → IsFair w
  acquire_fair (Ok n) e t f = took_fair v w e.line (took (Ok n) t).runs_are e.took.takes (took (Ok n) t).shuts_are f
  acquire_fair (Err x) e t f = same_fair v w (took (Err x) t).runs_are e.0.0.takes (took (Err x) t).shuts_are f

  line_held : (n : ℕ) → FilledSome n old new v w → TookSome room v (length old) (take n new) w → IsFair v → HoldsMore (take n new) v w
  line_held n e t f = subst (λ (z : List ℕ). HoldsMore z v w) (sym (filled_line n e.line old new e.long e.buffer)) (took_held v w e.line (took (Ok n) t).runs_are e.took.takes f)

  fits : (n : ℕ) → FilledSome n old new v w → TookSome room v (length old) (take n new) w → n ≤ length old
  fits n e (tail, mark, m, t) = let a = t.within in let b = ap length (filled_line n e.line old new e.long e.buffer) in let c = e.long in omega arith

  pub acquire_effect : (r : Result ℕ TakeRefusal) → Effect r → Trace r → IsFair v
      → MatchResult r (λ n. Acquired n old new v w) (λ e. HoldsSame v w × (new ≡ old))
  acquire_effect (Ok n) e t f = record {
    some_buffer = e.some_item;
    fits = fits n e t;
    rest = filled_rest n e.line old new e.long e.buffer;
    line = subst (λ (z : List ℕ). TookLine lines_put lines_taken z v w) (sym (filled_line n e.line old new e.long e.buffer)) e.took;
    more = line_held n e t f;
  }
  acquire_effect (Err x) e t f = (same_held v w (took (Err x) t).runs_are e.0.0.takes, e.1)

  pub acquire_holds : (r : Result ℕ TakeRefusal) → Effect r → Trace r → IsFair v → IfOk r (λ n. Holds w (take n new))
  acquire_holds (Ok n) e t f = more_holds v w (take n new) (line_held n e t f)
  acquire_holds (Err x) e t f = tt
