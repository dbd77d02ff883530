-- The ends of a queue that are joined, one after the other.
use Rattle.quajects.proofs.Common.{◌≡◌, ℕ, zero, suc, ◌+◌, ◌-◌, List, [], ◌∷◌, ◌++◌, map, drop, length, sym, ap, subst, ◌∙◌, arith, Option, Some, Result, Ok, Err, IfOk, IfErr, All, flat_map, append-nil, map-append, drop-map, length-map, length-drop, flat_map-append, Batch, AllRaised, item_of, Part, QueueOps, QueueEnd, View, WereOpen, view_of, line_of, lines_put, lines_taken, IsSettled, views_of, share_of, shuts_of, runs_of, takings_of, HasRaised, HasAll, SettledNow, StillOpen}
use Rattle.std.proofs.lemmas.List.Sums.{sum_by_push}
use Rattle.table_theory.specs.Sharing.{IsWhole}
use Rattle.claim_queue.specs.Closings.{ClosedNow, shown}
use Rattle.claim_queue.specs.Layout.{ends_word}
use Rattle.claim_queue.specs.Endings.{JoinedBy}

-- an end alone has what it has
pub alone_has : (v : View) → HasAll (v ∷ []) v
alone_has v = record { puts = sym (append-nil (lines_put v)); takes = sym (append-nil (lines_taken v)); share = omega arith; shuts = omega arith; runs = sym (append-nil (runs_of v)); takings = sym (append-nil (takings_of v)); raised = λ h. h 0 v (omega arith) }

pub raised_both : (a b : List Batch) → AllRaised a → AllRaised b → AllRaised (a ++ b)
raised_both [] b ha hb m e at i l = hb m e at i l
raised_both (x ∷ a) b ha hb zero e at i l = ha zero e at i l
raised_both (x ∷ a) b ha hb (suc m) e at i l = raised_both a b (λ m. ha (suc m)) hb m e at i l

module _ {X : Type 0} (P : X → Type 0) where
  front_holds : (xs ys : List X) → All P (xs ++ ys) → All P xs
  front_holds [] ys h k d l = absurd (omega arith)
  front_holds (x ∷ xs) ys h zero d l = h zero d (omega arith)
  front_holds (x ∷ xs) ys h (suc k) d l = front_holds xs ys (λ k d l. h (suc k) d (omega arith)) k d (omega arith)

  last_holds : (xs : List X) (y : X) → All P (xs ++ y ∷ []) → P y
  last_holds [] y h = h 0 y (omega arith)
  last_holds (x ∷ xs) y h = last_holds xs y (λ k d l. h (suc k) d (omega arith))

more_lines : {A : Type 0} (f : View → List A) (ends : List View) (v u w : View) → f v ≡ flat_map f ends → f w ≡ f v ++ f u → f w ≡ flat_map f (ends ++ u ∷ [])
more_lines {A} f ends v u w h e = e ∙ ap (λ (z : List A). z ++ f u) h ∙ ap (λ (z : List A). flat_map f ends ++ z) (sym (append-nil (f u))) ∙ sym (flat_map-append f ends (u ∷ []))

-- one more end was joined
pub joined_has : (ends : List View) (v u w : View) → HasAll ends v → JoinedBy v u w → (lines_put w ≡ lines_put v ++ lines_put u) × (lines_taken w ≡ lines_taken v ++ lines_taken u) → HasAll (ends ++ u ∷ []) w
joined_has ends v u w h j l = record {
  puts = more_lines lines_put ends v u w h.puts l.0;
  takes = more_lines lines_taken ends v u w h.takes l.1;
  share = ap (λ (z : Part). z.share) j.member ∙ ap (λ (z : ℕ). z + share_of u) h.share ∙ sym (sum_by_push share_of ends u);
  shuts = ap (λ (z : QueueOps). z.shuts) j.own ∙ ap (λ (z : ℕ). z + shuts_of u) h.shuts ∙ sym (sum_by_push shuts_of ends u);
  runs = more_lines runs_of ends v u w h.runs (ap (λ (z : QueueOps). z.runs) j.own);
  takings = more_lines takings_of ends v u w h.takings (ap (λ (z : QueueOps). z.takes) j.own);
  raised = λ all. subst AllRaised (sym (ap (λ (z : QueueOps). z.runs) j.own))
      (raised_both v.own.runs u.own.runs (h.raised (front_holds HasRaised ends (u ∷ []) all)) (last_holds HasRaised ends u all));
}

module _ {n : ℕ} where
  views_more : (end : QueueEnd n) (others : List (QueueEnd n)) (other : QueueEnd n) → views_of end others ++ view_of other ∷ [] ≡ views_of end (others ++ other ∷ [])
  views_more end others other = ap (λ (z : List View). view_of end ∷ z) (sym (map-append view_of others (other ∷ [])))

  pub join_more : (end : QueueEnd n) (others : List (QueueEnd n)) (other before after : QueueEnd n) → HasAll (views_of end others) (view_of before) → JoinedBy (view_of before) (view_of other) (view_of after)
      → (lines_put (view_of after) ≡ lines_put (view_of before) ++ lines_put (view_of other)) × (lines_taken (view_of after) ≡ lines_taken (view_of before) ++ lines_taken (view_of other)) → HasAll (views_of end (others ++ other ∷ [])) (view_of after)
  join_more end others other before after h j l = subst (λ (z : List View). HasAll z (view_of after)) (views_more end others other) (joined_has (views_of end others) (view_of before) (view_of other) (view_of after) h j l)

-- the end that had all closed the queue
pub settled_now : (ends : List View) (w : View) (first put taken : ℕ) (left : List (Option ℕ)) → HasAll ends w → ClosedNow w first put taken left → SettledNow ends first put taken left
settled_now ends w first put taken left h c = let q = w.seen.object in let items = map item_of q.places in record {
  before = w;
  has = h;
  closed = c;
  whole = subst IsWhole h.share c.whole;
  items = items;
  put_is = c.puts ∙ sym (length-map q.places item_of);
  settled = subst (λ (z : List (List ℕ)). IsSettled items taken z (flat_map lines_taken ends)) h.puts (subst (λ (z : List (List ℕ)). IsSettled items taken (lines_put w) z) h.takes c.settled);
  left_number = ap length c.left_is ∙ length-map (drop q.taken q.places) shown ∙ length-drop q.taken q.places ∙ (λ i. sym c.puts i - sym c.taken_is i);
  left_is = λ all. c.raised (h.raised all) ∙ ap (map Some) (sym (drop-map item_of q.taken q.places) ∙ ap (λ (z : ℕ). drop z items) (sym c.taken_is));
}

-- the end found others
pub still_open : (ends : List View) (v w : View) (others : ℕ) → HasAll ends v → WereOpen ends_word v others w → StillOpen ends others w
still_open ends v w others h o = let did = o.tallied.made.did in let share = ap (λ (z : Part). z.share) o.tallied.made.member in record {
  before = v;
  had = h;
  found = o;
  has = record {
    puts = ap (λ (z : QueueOps). map line_of z.runs) did ∙ h.puts;
    takes = ap (λ (z : QueueOps). map line_of z.takes) did ∙ h.takes;
    share = share ∙ h.share;
    shuts = ap (λ (z : QueueOps). z.shuts) did ∙ h.shuts;
    runs = ap (λ (z : QueueOps). z.runs) did ∙ h.runs;
    takings = ap (λ (z : QueueOps). z.takes) did ∙ h.takings;
    raised = λ all. subst AllRaised (sym (ap (λ (z : QueueOps). z.runs) did)) (h.raised all);
  };
  some_other = o.some_other;
}

pub if_ok : {A B : Type 0} {P Q : A → Type 0} (r : Result A B) → IfOk r P → ((a : A) → P a → Q a) → IfOk r Q
if_ok (Ok a) h f = f a h
if_ok (Err b) h f = tt

pub if_err : {A B : Type 0} {P Q : B → Type 0} (r : Result A B) → IfErr r P → ((b : B) → P b → Q b) → IfErr r Q
if_err (Ok a) h f = tt
if_err (Err b) h f = f b h
