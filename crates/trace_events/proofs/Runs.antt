-- The first run of turns.
use Rattle.trace_events.proofs.Common.{◌≡◌, ℕ, suc, ◌+◌, ◌-◌, ◌<◌, Bool, true, false, ◌&&◌, List, [], ◌∷◌, ◌++◌, ◌∙◌, refl, sym, ap, subst, length, take, drop, get_or, cond, arith, if◌then◌else◌, prefix_len, BootPlan, Entry, is_idle, end_of, ThreadTurn, joined, runs_of, run_length, idle_event, run_events, runs_events}

-- how many turns after the first one are in its run
abbrev after_first : Entry → List Entry → ℕ
after_first entry entries = cond (is_idle entry) (prefix_len is_idle entries) 0

alone : (b : Bool) (entry : Entry) → (entry ∷ []) ∷ [] ≡ (entry ∷ take (cond b 0 0) []) ∷ runs_of (drop (cond b 0 0) [])
alone true entry = refl
alone false entry = refl

two : (b c : Bool) (p : ℕ) (entry next : Entry) (entries : List Entry) → runs_of (next ∷ entries) ≡ (next ∷ take (cond c p 0) entries) ∷ runs_of (drop (cond c p 0) entries)
    → (if b && c then (entry ∷ next ∷ take (cond c p 0) entries) ∷ runs_of (drop (cond c p 0) entries) else (entry ∷ []) ∷ (next ∷ take (cond c p 0) entries) ∷ runs_of (drop (cond c p 0) entries))
    ≡ (entry ∷ take (cond b (cond c (1 + p) 0) 0) (next ∷ entries)) ∷ runs_of (drop (cond b (cond c (1 + p) 0) 0) (next ∷ entries))
two true true p entry next entries ih = let e : suc p ≡ 1 + p = omega arith in ap (λ n. (entry ∷ take n (next ∷ entries)) ∷ runs_of (drop n (next ∷ entries))) e
two true false p entry next entries ih = ap (λ rs. (entry ∷ []) ∷ rs) (sym ih)
two false true p entry next entries ih = ap (λ rs. (entry ∷ []) ∷ rs) (sym ih)
two false false p entry next entries ih = ap (λ rs. (entry ∷ []) ∷ rs) (sym ih)

first_run : (entry : Entry) (entries : List Entry) → runs_of (entry ∷ entries) ≡ (entry ∷ take (after_first entry entries) entries) ∷ runs_of (drop (after_first entry entries) entries)
first_run entry [] = alone (is_idle entry) entry
first_run entry (next ∷ entries) =
    let ih = first_run next entries in
    ap (joined entry) ih ∙ two (is_idle entry) (is_idle next) (prefix_len is_idle entries) entry next entries ih

pub run_first : (entries : List Entry) → 0 < length entries → runs_of entries ≡ take (run_length entries) entries ∷ runs_of (drop (run_length entries) entries)
run_first [] h = absurd (omega arith)
run_first (entry ∷ entries) h = first_run entry entries

pub some_first : (entries : List Entry) → 0 < length entries → 0 < run_length entries
some_first [] h = absurd (omega arith)
some_first (entry ∷ entries) h = omega arith

-- a run of idle turns is one event
pub idle_run : (plan : BootPlan) (bytes : List ℕ) (begins : ThreadTurn → ℕ) (processor number from : ℕ) (run : List Entry) (first : Entry) → 0 < length run → first ≡ get_or run 0 first → is_idle first ≡ true
    → run_events plan bytes begins processor number from run ≡ idle_event processor from (end_of from run) (length run) ∷ []
idle_run plan bytes begins processor number from [] first h is idle = absurd (omega arith)
idle_run plan bytes begins processor number from (entry ∷ entries) first h is idle = rw (ap is_idle (sym is) ∙ idle) refl

-- the events of the first run, and of those after it
pub runs_first : (plan : BootPlan) (bytes : List ℕ) (begins : ThreadTurn → ℕ) (processor number from : ℕ) (entries : List Entry) → 0 < length entries
    → runs_events plan bytes begins processor number from (runs_of entries) ≡ run_events plan bytes begins processor number from (take (run_length entries) entries) ++ runs_events plan bytes begins processor (number + length (take (run_length entries) entries)) (end_of from (take (run_length entries) entries)) (runs_of (drop (run_length entries) entries))
runs_first plan bytes begins processor number from entries h = ap (runs_events plan bytes begins processor number from) (run_first entries h)
