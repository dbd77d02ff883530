-- A publication is a raise of each item of the run, one after the other.
use Rattle.batch_queue.proofs.Common.{Batch, Cell, List, Owned, Positions, QueueView, ViewsShow, ap, arith, at_below, blank, dec_lt, dite, get_elem?, get_or, get_or-set_other, history_of, is_lawful_queue, item_at, length, length-set, past_written, raised_run, refl, run, set, set-set, set_again, set_here, some, subst, suc, sym, with_raises, with_write, write_else, write_here, stage_at, with_stage, zero, ℕ, ℕ_discrete, ◌+◌, ◌<◌, ◌∙◌, ◌≡◌, ◌≤◌}
use Rattle.std.specs.Prelude.{Result, Ok}
use Rattle.event_theory.specs.declared.refusal.Refusal.{Refusal}
use Rattle.event_theory.specs.Queues.{Queue, raise}
use Rattle.event_theory.specs.Results.{◌>>=◌}
use Rattle.table_theory.specs.QueueOf.{IsEvent, queue_of}
use Rattle.table_theory.specs.Positioned.{Lawful}
use Rattle.table_theory.proofs.Positioned.{grows_refl}
use Rattle.table_theory.proofs.QueueEvents.{raised_is, raise_goes, run_number, run_is}
use Rattle.table_theory.proofs.Listing.{listed_write}
use Rattle.table_theory.specs.Raises.{raise_all}

-- what the end knows once its run is published
abbrev pub view_after : Positions → ℕ → QueueView → ℕ → Batch → QueueView
view_after q at v number run = record {
  queue = with_raises q at (length run.places);
  runs = set v.runs number (raised_run run 0 (length run.places));
  takes = v.takes;
}

-- what the end knows after n raises
abbrev wrote : ℕ → Positions → ℕ → QueueView → ℕ → Batch → ℕ → QueueView
wrote zero q p v m e i = v
wrote (suc n) q p v m e i = wrote n (with_write q p 2) (suc p) (record { queue = with_write q p 2; runs = set v.runs m (with_stage e i 2); takes = v.takes }) m (with_stage e i 2) (suc i)

wrote_is : (n : ℕ) (q : Positions) (p : ℕ) (v : QueueView) (m : ℕ) (e : Batch) (i : ℕ) → wrote (suc n) q p v m e i ≡ record { queue = with_raises q p (suc n); runs = set v.runs m (raised_run e i (suc n)); takes = v.takes }
wrote_is zero q p v m e i = refl
wrote_is (suc n) q p v m e i = let f : Batch = with_stage e i 2 in wrote_is n (with_write q p 2) (suc p) (record { queue = with_write q p 2; runs = set v.runs m f; takes = v.takes }) m f (suc i)
    ∙ ap (λ (z : List Batch). let u : QueueView = record { queue = with_raises q p (suc (suc n)); runs = z; takes = v.takes } in u) (set-set v.runs m f (raised_run f (suc i) (suc n)))

record Out (n : ℕ) (q : Positions) (parts : List QueueView) (j m i p : ℕ) (v : QueueView) (e : Batch) (log : List (Owned Batch)) (k : ℕ) : Type 0 where
  after : List QueueView
  after_is : after ≡ set parts j (wrote n q p v m e i)
  shown : ViewsShow (with_raises q p n) after
  made : raise_all j k i n (queue_of q log) ≡ Ok (queue_of (with_raises q p n) shown.lists.runs)

-- one raise, and the run in the log after it
record One (q : Positions) (parts : List QueueView) (j m i p : ℕ) (v : QueueView) (e : Batch) (log : List (Owned Batch)) (k : ℕ) : Type 0 where
  shown : ViewsShow (with_write q p 2) (set parts j (record { queue = with_write q p 2; runs = set v.runs m (with_stage e i 2); takes = v.takes }))
  made : raise j k i (queue_of q log) ≡ Ok (queue_of (with_write q p 2) shown.lists.runs)
  there : get_elem? shown.lists.runs k ≡ some (j, m, with_stage e i 2)

one_own : (q : Positions) (parts : List QueueView) (j m i p : ℕ) (v : QueueView) (e : Batch) (l : ViewsShow q parts) (at : get_elem? parts j ≡ some v) (has : get_elem? v.runs m ≡ some e) → i < length e.places → e.start + i ≡ q.first + p → q.taken ≤ p → (get_or e.places i blank).stage < 2 → stage_at q p ≤ 2
    → One q parts j m i p v e l.lists.runs (run_number q parts j m v e l at has)
unfolding listed_write
one_own q parts j m i p v e l at has below is ahead low more = let k : ℕ = run_number q parts j m v e l at has in let r = run_is q parts j m v e l at has in
    record {
      shown = listed_write q parts j m i 2 p v (record { queue = with_write q p 2; runs = set v.runs m (with_stage e i 2); takes = v.takes }) e l at has below is ahead more refl refl (grows_refl (with_write q p 2));
      made = raise_goes l.lists.runs k j m i e r below q low ∙ ap Ok (raised_is l.lists.runs k j m i e r below q p);
      there = set_here l.lists.runs k (j, m, with_stage e i 2) (at_below l.lists.runs k (j, m, e) r);
    }

raises : (n : ℕ) (q : Positions) (parts : List QueueView) (j m i p : ℕ) (v : QueueView) (e : Batch) (l : ViewsShow q parts) (k : ℕ) → get_elem? l.lists.runs k ≡ some (j, m, e) → (at : get_elem? parts j ≡ some v) → (has : get_elem? v.runs m ≡ some e) → i + n ≤ length e.places → e.start + i ≡ q.first + p → q.taken ≤ p
    → ((x : ℕ) → i ≤ x → x < length e.places → (get_or e.places x blank).stage < 2) → ((x : ℕ) → stage_at q x ≤ 2) → Out n q parts j m i p v e l.lists.runs k
raises zero q parts j m i p v e l k there at has long is ahead low most = record { after = parts; after_is = sym (set_again parts j v at); shown = l; made = refl }
raises (suc n) q parts j m i p v e l k there at has long is ahead low most =
    let k0 : ℕ = run_number q parts j m v e l at has in
    let same : k0 ≡ k = l.lists.runs_are.filed.once k0 k (j, m, e) (j, m, e) (run_is q parts j m v e l at has) there refl refl in
    let f : Batch = with_stage e i 2 in let u : QueueView = record { queue = with_write q p 2; runs = set v.runs m f; takes = v.takes } in
    let one = subst (One q parts j m i p v e l.lists.runs) same (one_own q parts j m i p v e l at has (omega arith) is ahead (low i (omega arith) (omega arith)) (most p)) in
    let lf = length-set e.places i (record { item = (get_or e.places i blank).item; stage = 2 }) in
    let out = raises n (with_write q p 2) (set parts j u) j m (suc i) (suc p) u f one.shown k one.there (set_here parts j u (at_below parts j v at)) (set_here v.runs m f (at_below v.runs m e has)) (omega arith) (omega arith) (omega arith)
    (λ x from below. subst (λ (z : Cell). z.stage < 2) (sym (get_or-set_other e.places i x (record { item = (get_or e.places i blank).item; stage = 2 }) blank (λ z. omega arith))) (low x (omega arith) (omega arith)))
    (λ x. dite (ℕ_discrete x p)
    (λ z. dite (dec_lt p (length q.places))
    (λ b. subst (λ (y : ℕ). stage_at (with_write q p 2) y ≤ 2) (sym z) (let w : stage_at (with_write q p 2) p ≡ 2 = ap (λ (y : Cell). y.stage) (write_here q p 2 b) in omega arith))
    (λ no. let w = past_written (with_write q p 2) x (let lq = length-set q.places p (record { item = item_at q p; stage = 2 }) in omega arith) in omega arith))
    (λ ne. let w : stage_at (with_write q p 2) x ≡ stage_at q x = ap (λ (y : Cell). y.stage) (write_else q p x 2 ne) in let o = most x in omega arith)) in record {
      after = out.after;
      after_is = out.after_is ∙ set-set parts j u (wrote n (with_write q p 2) (suc p) u m f (suc i));
      shown = out.shown;
      made = ap (λ (r : Result Queue Refusal). r >>= raise_all j k (suc i) n) one.made ∙ out.made;
    }

more_of : (n : ℕ) → 0 < n → (m : ℕ) × (n ≡ suc m)
more_of zero h = absurd (omega arith)
more_of (suc m) h = (m, refl)

-- the views after the publication of a run, whatever is so of the queue besides
shown_published : (q : Positions) (parts : List QueueView) (j m at : ℕ) (v : QueueView) (e : Batch) (l : ViewsShow q parts) (here : get_elem? parts j ≡ some v) (has : get_elem? v.runs m ≡ some e) → 0 < length e.places → e.start ≡ q.first + at → q.taken ≤ at
    → ((i : ℕ) → i < length e.places → (get_or e.places i blank).stage < 2) → ((i : ℕ) → stage_at q i ≤ 2)
    → (new : ViewsShow (with_raises q at (length e.places)) (set parts j (view_after q at v m e))) × (raise_all j (run_number q parts j m v e l here has) 0 (length e.places) (queue_of q l.lists.runs) ≡ Ok (queue_of (with_raises q at (length e.places)) new.lists.runs))
shown_published q parts j m at v e l here has some_item is ahead low most =
    let k : ℕ = run_number q parts j m v e l here has in let there = run_is q parts j m v e l here has in
    let n : ℕ = length e.places in let r : Positions = with_raises q at n in
    let out = raises n q parts j m 0 at v e l k there here has (omega arith) (omega arith) ahead (λ x from below. low x below) most in
    let s = more_of n some_item in
    let view : wrote n q at v m e 0 ≡ view_after q at v m e = subst (λ (z : ℕ). wrote z q at v m e 0 ≡ record { queue = with_raises q at z; runs = set v.runs m (raised_run e 0 z); takes = v.takes }) (sym s.1) (wrote_is s.0 q at v m e 0) in
    let F : List QueueView → Type 0 = λ z. (new : ViewsShow r z) × (raise_all j k 0 n (queue_of q l.lists.runs) ≡ Ok (queue_of r new.lists.runs)) in
    subst F (out.after_is ∙ ap (set parts j) view) (out.shown, out.made)

pub listed_published : (q : Positions) (parts : List QueueView) (j m at : ℕ) (v : QueueView) (e : Batch) → ViewsShow q parts → get_elem? parts j ≡ some v → get_elem? v.runs m ≡ some e → 0 < length e.places → e.start ≡ q.first + at → q.taken ≤ at
    → ((i : ℕ) → i < length e.places → (get_or e.places i blank).stage < 2) → ((i : ℕ) → stage_at q i ≤ 2) → ViewsShow (with_raises q at (length e.places)) (set parts j (view_after q at v m e))
listed_published q parts j m at v e l here has some_item is ahead low most = (shown_published q parts j m at v e l here has some_item is ahead low most).0

pub published : (q : Positions) (parts : List QueueView) (j m at : ℕ) (v : QueueView) (e : Batch) → ViewsShow q parts → get_elem? parts j ≡ some v → get_elem? v.runs m ≡ some e → 0 < length e.places → e.start ≡ q.first + at → Lawful q → q.taken ≤ at
    → ((i : ℕ) → i < length e.places → (get_or e.places i blank).stage < 2) → ((i : ℕ) → stage_at q i ≤ 2)
    → (k : ℕ) × (event : IsEvent q (with_raises q at (length e.places)) j v (view_after q at v m e) (raise_all j k 0 (length e.places))) × (get_elem? event.shown.lists.runs k ≡ some (j, m, e))
published q parts j m at v e l here has some_item is lawful ahead low most =
    let end = shown_published q parts j m at v e l here has some_item is ahead low most in (
      run_number q parts j m v e l here has,
      record { views = parts; here = here; shown = l; new_shown = end.0; lawful = is_lawful_queue q l.lists.runs lawful (history_of q parts l); made = end.1 },
      run_is q parts j m v e l here has,
    )
