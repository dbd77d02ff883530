-- The turns of a processor, printed run by run.
use Rattle.trace_events.proofs.Common.{◌≡◌, ℕ, ◌<◌, ◌+◌, ◌==◌, true, false, List, [], ◌∷◌, ◌∙◌, sym, ap, subst, length, take, drop, arith, Option, eqb-true, BootPlan, Entry, end_of, ThreadTurn, Prints, runs_of, run_length, run_events, runs_events}
use Rattle.trace_events.proofs.Printing.{prints_join, prints_nothing}
use Rattle.trace_events.proofs.Runs.{runs_first}

pub some_left : (left : List Entry) → (length left == 0) ≡ false → 0 < length left
some_left [] h = absurd cc
some_left (entry ∷ entries) h = omega arith

-- a run, and the turns after it
pub turns_more : (plan : BootPlan) (bytes : List ℕ) (begins : ThreadTurn → ℕ) (processor number next from until n : ℕ) (left run later : List Entry) (a b c : Option (List ℕ)) → 0 < length left → n ≡ run_length left → run ≡ take n left → later ≡ drop n left
    → until ≡ end_of from run → next ≡ number + length run → Prints a b (run_events plan bytes begins processor number from run) → Prints b c (runs_events plan bytes begins processor next until (runs_of later)) → Prints a c (runs_events plan bytes begins processor number from (runs_of left))
turns_more plan bytes begins processor number next from until n left run later a b c some len front back ends counts h k =
    let first : List Entry = take (run_length left) left in
    let rest : List Entry = drop (run_length left) left in
    let r : run ≡ first = front ∙ ap (λ m. take m left) len in
    let l : later ≡ rest = back ∙ ap (λ m. drop m left) len in
    let printed : Prints a b (run_events plan bytes begins processor number from first) = subst (λ (es : List Entry). Prints a b (run_events plan bytes begins processor number from es)) r h in
    let timed : Prints b c (runs_events plan bytes begins processor next (end_of from first) (runs_of later)) = subst (λ (e : ℕ). Prints b c (runs_events plan bytes begins processor next e (runs_of later))) (ends ∙ ap (end_of from) r) k in
    let counted : Prints b c (runs_events plan bytes begins processor (number + length first) (end_of from first) (runs_of later)) = subst (λ (m : ℕ). Prints b c (runs_events plan bytes begins processor m (end_of from first) (runs_of later))) (counts ∙ ap (λ (es : List Entry). number + length es) r) timed in
    let followed : Prints b c (runs_events plan bytes begins processor (number + length first) (end_of from first) (runs_of rest)) = subst (λ (es : List Entry). Prints b c (runs_events plan bytes begins processor (number + length first) (end_of from first) (runs_of es))) l counted in
    subst (Prints a c) (sym (runs_first plan bytes begins processor number from left some))
    (prints_join a b c (run_events plan bytes begins processor number from first) (runs_events plan bytes begins processor (number + length first) (end_of from first) (runs_of rest)) printed followed)

-- no turn is left
pub turns_done : (plan : BootPlan) (bytes : List ℕ) (begins : ThreadTurn → ℕ) (processor number from : ℕ) (left : List Entry) (a : Option (List ℕ)) → (length left == 0) ≡ true → Prints a a (runs_events plan bytes begins processor number from (runs_of left))
turns_done plan bytes begins processor number from [] a h = prints_nothing a
turns_done plan bytes begins processor number from (entry ∷ entries) a h = absurd (omega (arith, eqb-true (length (entry ∷ entries)) 0 h))
