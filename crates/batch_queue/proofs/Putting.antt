-- A put: the claim, and the store that publishes it.
use Rattle.std.specs.Prelude.{min}
use Rattle.batch_queue.proofs.Turning.{take_whole}
use Rattle.batch_queue.proofs.Common.{Batch, BatchState, Cell, EndRecord, HasRun, List, Performed, Me, Released, Step, View, [], ap, append_assoc, arith, at_last, blank, change, fresh, head_word, inl, inr, load, with_batch, get_elem?, get_or, length, length-append, length-map, map, map-append, mark_word, no_slots, raised_run, refl, run, set, some, some-injective, subst, suc, sym, take, with_up, with_published, with_run, with_stage, zero, ℕ, ◌++◌, ◌+◌, ◌∙◌, ◌∷◌, ◌≡◌, ◌≤◌}
use Rattle.table_theory.proofs.Moving.{last}
use Rattle.table_theory.proofs.Parting.{made_on}
use Rattle.table_theory.specs.Listing.{Distinct}
use Rattle.table_theory.specs.Positioned.{item_of}
use Rattle.table_theory.specs.declared.views.Part.{Part}
use Rattle.table_theory.specs.Batches.{line_of}
use Rattle.batch_queue.specs.Lines.{PutLine}
use Rattle.batch_queue.specs.Puts.{Fits, HasClaimed, IsPut, IsPutSome, PutBy, RefusedClaimBy, RefusedPut, RefusedSome, published, with_put}
use Rattle.std.proofs.Common.{Result, Err, ◌<◌}
use Rattle.std.specs.Prelude.{IfErr, MatchResult}
use Rattle.table_theory.proofs.Moments.{moment_then}
use Rattle.table_theory.specs.Ledgers.{ExtendsTrace}
use Rattle.batch_queue.specs.Client.{HasPut, HasUsedRoom, WhyNotClaimed, WhyNotPut, WhyNotPutSome}
use Rattle.batch_queue.specs.Moments.{IsOpenAt}
use Rattle.batch_queue.proofs.Quiet.{others_then}
use Rattle.batch_queue.specs.Own.{OnlyLoads}
use Rattle.batch_queue.specs.declared.refusals.PutRefusal.{PutRefusal}
use Rattle.batch_queue.specs.declared.refusals.PutRefusal.TheVariants.{NoItems, TooLong, Closed, Spent, Full, Lost}

-- THE RUN

get_at : (xs ys : List Cell) (y : Cell) (n : ℕ) → length xs ≡ n → get_or (xs ++ y ∷ ys) n blank ≡ y
get_at [] ys y zero e = refl
get_at [] ys y (suc n) e = absurd (omega arith)
get_at (x ∷ xs) ys y zero e = absurd (omega arith)
get_at (x ∷ xs) ys y (suc n) e = get_at xs ys y n (omega arith)

set_at : (xs ys : List Cell) (y z : Cell) (n : ℕ) → length xs ≡ n → set (xs ++ y ∷ ys) n z ≡ xs ++ z ∷ ys
set_at [] ys y z zero e = refl
set_at [] ys y z (suc n) e = absurd (omega arith)
set_at (x ∷ xs) ys y z zero e = absurd (omega arith)
set_at (x ∷ xs) ys y z (suc n) e = ap (λ (l : List Cell). x ∷ l) (set_at xs ys y z n (omega arith))

abbrev batch : ℕ → List Cell → Batch
batch start places = record { start = start; places = places }

raised_from : (start : ℕ) (xs : List Cell) (ys : List ℕ) (n : ℕ) → length xs ≡ n → raised_run (batch start (xs ++ map fresh ys)) n (length ys) ≡ batch start (xs ++ map published ys)
raised_from start xs [] n e = refl
raised_from start xs (y ∷ ys) n e = let l = length-append xs (published y ∷ []) in
    let one : with_stage (batch start (xs ++ fresh y ∷ map fresh ys)) n 2 ≡ batch start ((xs ++ published y ∷ []) ++ map fresh ys) =
    ap (λ (z : Cell). batch start (set (xs ++ fresh y ∷ map fresh ys) n (record { item = z.item; stage = 2 }))) (get_at xs (map fresh ys) (fresh y) n e)
    ∙ ap (batch start) (set_at xs (map fresh ys) (fresh y) (published y) n e ∙ sym (append_assoc xs (published y ∷ []) (map fresh ys))) in
    ap (λ (z : Batch). raised_run z (suc n) (length ys)) one ∙ (raised_from start (xs ++ published y ∷ []) ys (suc n) (omega arith) ∙ ap (batch start) (append_assoc xs (published y ∷ []) (map published ys)))

-- the run of a claim, all of it published
raised_all : (start : ℕ) (items : List ℕ) → raised_run (run start items) 0 (length (map fresh items)) ≡ batch start (map published items)
raised_all start items = ap (raised_run (run start items) 0) (length-map items fresh) ∙ raised_from start [] items 0 refl

-- the claim of a put, which is the end's last run, is then published
put_own : (d c : EndRecord) (start : ℕ) (items : List ℕ) → c ≡ with_run d start items → d.held ≡ no_slots → Distinct c.runs → (h : HasRun c) → with_published c h ≡ with_put d start items
put_own d c start items is bare apart h =
    let runs : c.runs ≡ d.runs ++ run start items ∷ [] = ap (λ (z : EndRecord). z.runs) is in
    let last_at : get_elem? c.runs (length d.runs) ≡ some (run start items) = subst (λ (z : List Batch). get_elem? z (length d.runs) ≡ some (run start items)) (sym runs) (at_last d.runs (run start items) (length d.runs) refl) in
    let number : h.number ≡ length d.runs = apart h.number (length d.runs) h.run (run start items) h.here last_at (h.start ∙ ap (λ (z : EndRecord). z.held.start) is) in
    let same : h.run ≡ run start items = some-injective h.run (run start items) (sym h.here ∙ (ap (get_elem? c.runs) number ∙ last_at)) in
    let whole : raised_run h.run 0 (length h.run.places) ≡ batch start (map published items) = ap (λ (z : Batch). raised_run z 0 (length z.places)) same ∙ raised_all start items in
    let changed : set c.runs h.number (raised_run h.run 0 (length h.run.places)) ≡ d.runs ++ batch start (map published items) ∷ [] =
    (λ i. set (runs i) (number i) (whole i)) ∙ last d.runs (run start items) (batch start (map published items)) in
    λ i. record { runs = changed i; takes = (is i).takes; shuts = (is i).shuts; parts = (is i).parts; held = sym bare i }

pub put_of : (room want start : ℕ) (items : List ℕ) (v w : View) (m m' : Me ℕ View) → v.own.held ≡ no_slots → HasClaimed room want v start items m → w ≡ m.0 → Released w (mark_word room start) start (start + length items) 0 m' → PutBy (λ entries. Performed v entries (with_put v.own start items) m'.0) room want start items
put_of room want start items v w m m' bare h same p = let c = h.claim in let e : Step BatchState = change (mark_word room start) p.found p.at (with_up p.at.object start (start + length items)) in let own = p.published refl in (
  p.found,
  p.at,
  record {
    fits = c.fits;
    at_head = c.at_head;
    bounded = c.bounded;
    free = c.free;
    moved = c.moved;
    looks = c.looks;
    looked = c.looked;
    end = c.end;
    at_claim = c.at_claim;
    added = let all = made_on v m.0 m'.0 _ (e ∷ []) (with_run v.own start items) p.own c.added (subst (λ (z : View). Performed z (e ∷ []) p.own m'.0) same p.step.made) in record {
      adds = all.adds;
      did = all.did ∙ (own.1 ∙ put_own v.own w.own start items (ap (λ (z : View). z.own) same ∙ c.added.did) bare (subst (λ (z : View). Distinct z.own.runs) (sym same) h.apart) own.0);
      member = all.member;
    };
  },
)

-- THE LINE

published_items : (items : List ℕ) → map item_of (map published items) ≡ items
published_items [] = refl
published_items (x ∷ xs) = ap (λ (z : List ℕ). x ∷ z) (published_items xs)

pub put_line : (room want start : ℕ) (items : List ℕ) (v w : View) → PutBy (λ entries. Performed v entries (with_put v.own start items) w) room want start items → PutLine items v w
put_line room want start items v w (mark, m, c) = let made = c.added in (
  record {
    puts = (λ k. map line_of (made.did k).runs) ∙ (map-append line_of v.own.runs (batch start (map published items) ∷ []) ∙ (λ k. map line_of v.own.runs ++ published_items items k ∷ []));
    takes = (λ k. map line_of (made.did k).takes);
    share = ap (λ (z : Part). z.share) made.member;
  },
  λ k. (made.did k).parts,
)

-- THE WHOLE OF THE ITEMS

-- if all items were wanted, all were claimed
pub whole_claim : (room start n : ℕ) (items : List ℕ) (v : View) (m : Me ℕ View) → length items ≤ n → min (length items) room ≡ length items → HasClaimed room (min (length items) room) v start (take n items) m → HasClaimed room (length items) v start items m
whole_claim room start n items v m all most h = subst (λ (z : List ℕ). HasClaimed room (length items) v start z m) (take_whole items n all) (subst (λ (z : ℕ). HasClaimed room z v start (take n items) m) most h)

-- REFUSALS

refused_claim : (room count : ℕ) (v w : View) (r : PutRefusal) → Fits room count → RefusedClaimBy (λ entries. OnlyLoads v entries w) room count count r → RefusedPut room v count r w
refused_claim room count v w NoItems fits h = absurd h
refused_claim room count v w TooLong fits h = absurd h
refused_claim room count v w Closed fits h = (fits, h)
refused_claim room count v w Spent fits h = (fits, h)
refused_claim room count v w (Full head free) fits h = (fits, h)
refused_claim room count v w (Lost head) fits h = (fits, h)

pub refused_all : (room most count : ℕ) (items : List ℕ) (v w : View) (q : Result ℕ PutRefusal) (r : PutRefusal) → q ≡ Err r → Fits room count → most ≡ count → RefusedClaimBy (λ entries. OnlyLoads v entries w) room most count r → MatchResult q (λ start. IsPut room v start items w) (λ e. RefusedPut room v count e w)
refused_all room most count items v w q r is fits all h = subst (λ (z : Result ℕ PutRefusal). MatchResult z (λ start. IsPut room v start items w) (λ e. RefusedPut room v count e w)) (sym is) (refused_claim room count v w r fits (subst (λ (z : ℕ). RefusedClaimBy (λ entries. OnlyLoads v entries w) room z count r) all h))

refused_front : (room count : ℕ) (v w : View) (r : PutRefusal) → 0 < count → RefusedClaimBy (λ entries. OnlyLoads v entries w) room (min count room) 1 r → RefusedSome room v count r w
refused_front room count v w NoItems more h = absurd h
refused_front room count v w TooLong more h = absurd h
refused_front room count v w Closed more h = (more, h)
refused_front room count v w Spent more h = (more, h)
refused_front room count v w (Full head free) more h = (more, h)
refused_front room count v w (Lost head) more h = (more, h)

pub refused_some : (room : ℕ) (items : List ℕ) (v w : View) (q : Result (ℕ × ℕ) PutRefusal) (r : PutRefusal) → q ≡ Err r → 0 < length items → RefusedClaimBy (λ entries. OnlyLoads v entries w) room (min (length items) room) 1 r → MatchResult q (λ z. IsPutSome room v z.0 z.1 items w) (λ e. RefusedSome room v (length items) e w)
refused_some room items v w q r is more h = subst (λ (z : Result (ℕ × ℕ) PutRefusal). MatchResult z (λ y. IsPutSome room v y.0 y.1 items w) (λ e. RefusedSome room v (length items) e w)) (sym is) (refused_front room (length items) v w r more h)

-- THE FRONT OF THE ITEMS

pub put_front : (room want start n : ℕ) (items xs : List ℕ) (v w : View) (m m' : Me ℕ View) → xs ≡ take n items → v.own.held ≡ no_slots → HasClaimed room want v start (take n items) m → w ≡ m.0 → Released w (mark_word room start) start (start + length xs) 0 m' → PutBy (λ entries. Performed v entries (with_put v.own start (take n items)) m'.0) room want start (take n items)
put_front room want start n items xs v w m m' is bare h same p = put_of room want start (take n items) v w m m' bare h same (subst (λ (z : List ℕ). Released w (mark_word room start) start (start + length z) 0 m') is p)

-- THE POSITION

pub has_put : (room want start : ℕ) (items : List ℕ) (v w : View) (m m' : Me ℕ View) → v.own.held ≡ no_slots → HasClaimed room want v start items m → w ≡ m.0 → Released w (mark_word room start) start (start + length items) 0 m' → HasPut v start items m'.0
has_put room want start items v w m m' bare h same p = let c = h.claim in let e : Step BatchState = change (mark_word room start) p.found p.at (with_up p.at.object start (start + length items)) in (
  moment_then v m.0 m'.0 (e ∷ []) (λ o. IsOpenAt o start) (ap (λ (z : Part). z.share) c.added.member)
      (record { before = load head_word start c.at_head ∷ c.looks; step = change head_word start c.at_claim (with_batch c.at_claim.object items); after = []; adds = c.added.adds; holds = h.at })
      (subst (λ (z : View). ExtendsTrace z (e ∷ []) m'.0) same p.step.made.adds),
  (put_of room want start items v w m m' bare h same p).2.added.did,
)

pub has_put_front : (room want start n : ℕ) (items xs : List ℕ) (v w : View) (m m' : Me ℕ View) → xs ≡ take n items → v.own.held ≡ no_slots → HasClaimed room want v start (take n items) m → w ≡ m.0 → Released w (mark_word room start) start (start + length xs) 0 m' → HasPut v start (take n items) m'.0
has_put_front room want start n items xs v w m m' is bare h same p = has_put room want start (take n items) v w m m' bare h same (subst (λ (z : List ℕ). Released w (mark_word room start) start (start + length z) 0 m') is p)

-- and the room that was used
pub used_then : (room want start n : ℕ) (v u w z : View) (e : Step BatchState) (own : EndRecord) → u.member.share ≡ v.member.share → w ≡ u → Performed w (e ∷ []) own z → HasUsedRoom v room want start n u → HasUsedRoom v room want start n z
used_then room want start n v u w z e own share same m (inl all) = inl all
used_then room want start n v u w z e own share same m (inr (free, end, inl s)) = inr (free, end, inl (moment_then v u z (e ∷ []) _ share s (subst (λ (y : View). ExtendsTrace y (e ∷ []) z) same m.adds)))
used_then room want start n v u w z e own share same m (inr (free, end, inr s)) = inr (free, end, inr (others_then v u z (e ∷ []) _ share s (subst (λ (y : View). ExtendsTrace y (e ∷ []) z) same m.adds)))

-- WHY NOTHING WAS PUT

why_claim : (room count : ℕ) (v w : View) (r : PutRefusal) → Fits room count → WhyNotClaimed v room count count r w → WhyNotPut v room count r w
why_claim room count v w NoItems fits h = absurd h
why_claim room count v w TooLong fits h = absurd h
why_claim room count v w Closed fits h = (fits, h)
why_claim room count v w Spent fits h = (fits, h)
why_claim room count v w (Full head free) fits h = (fits, h)
why_claim room count v w (Lost head) fits h = (fits, h)

pub why_all : (room most count : ℕ) (v w : View) (q : Result ℕ PutRefusal) (r : PutRefusal) → q ≡ Err r → Fits room count → most ≡ count → WhyNotClaimed v room most count r w → IfErr q (λ e. WhyNotPut v room count e w)
why_all room most count v w q r is fits all h = subst (λ (z : Result ℕ PutRefusal). IfErr z (λ e. WhyNotPut v room count e w)) (sym is) (why_claim room count v w r fits (subst (λ (z : ℕ). WhyNotClaimed v room z count r w) all h))

why_front : (room count : ℕ) (v w : View) (r : PutRefusal) → 0 < count → WhyNotClaimed v room (min count room) 1 r w → WhyNotPutSome v room count r w
why_front room count v w NoItems more h = absurd h
why_front room count v w TooLong more h = absurd h
why_front room count v w Closed more h = (more, h)
why_front room count v w Spent more h = (more, h)
why_front room count v w (Full head free) more h = (more, h)
why_front room count v w (Lost head) more h = (more, h)

pub why_some : (room count : ℕ) (v w : View) (q : Result (ℕ × ℕ) PutRefusal) (r : PutRefusal) → q ≡ Err r → 0 < count → WhyNotClaimed v room (min count room) 1 r w → IfErr q (λ e. WhyNotPutSome v room count e w)
why_some room count v w q r is more h = subst (λ (z : Result (ℕ × ℕ) PutRefusal). IfErr z (λ e. WhyNotPutSome v room count e w)) (sym is) (why_front room count v w r more h)
