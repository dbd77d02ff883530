-- What a client's protocol allows a claim, and what it says of the items that were taken.
use Rattle.batch_queue.proofs.Common.{AbsState, Batch, BatchState, EndRecord, Found, InvHeldOf, IsWhole, List, QueueView, Rule, SHUT, Step, View, [], ap, arith, at_last, at_map, drop, get_elem?, head_word, length, line_of, load, map, of_batches, part_of, positions_of, refl, some, subst, sym, take, true, ℕ, ◌++◌, ◌<◌, ◌∙◌, ◌∷◌, ◌≡◌, ◌≤◌}
use mathlib.Core.HLevel.{⊥_prop}
use Rattle.std.proofs.Common.{true≢false}
use Rattle.std.proofs.Math.Logic.{∥∥₁_elim}
use Rattle.std.proofs.Math.Nat.{ℕ_set}
use Rattle.std.proofs.Math.Seq.{take-append_seam, take-length}
use Rattle.std.specs.Prelude.{Err, MatchResult, Ok, Result, min}
use Rattle.table_theory.specs.Protocols.{Condition, IsKept, WasPut, placed_lines}
use Rattle.table_theory.proofs.Carried.{putter}
use Rattle.table_theory.proofs.Owned.{at_map_back}
use Rattle.table_theory.proofs.Reaching.{alone_led}
use Rattle.batch_queue.specs.Client.{ArePut, EachEndKeeps, GoesOn, MayPut, MayPutFrom}
use Rattle.batch_queue.specs.declared.ends.BatchEnd.{BatchEnd}
use Rattle.batch_queue.specs.declared.refusals.PutRefusal.{PutRefusal}
use Rattle.batch_queue.specs.declared.refusals.PutRefusal.TheVariants.{NoItems, TooLong, Closed, Spent, Full, Lost}
use Rattle.batch_queue.specs.Handles.{view_of}
use Rattle.batch_queue.specs.Lines.{lines_taken}
use Rattle.batch_queue.specs.Moments.{claimed}
use Rattle.batch_queue.specs.Own.{OnlyLoads}
use Rattle.batch_queue.specs.Puts.{IsPut, RefusedPut, is_lost}
use Rattle.batch_queue.specs.Rules.{KeepsTo}
use Rattle.batch_queue.proofs.Betweens.{shows_queue}
use Rattle.batch_queue.proofs.Certain.{by_both}
use Rattle.batch_queue.proofs.Claims.{head_open}
use Rattle.batch_queue.proofs.Growing.{items_grow}
use Rattle.batch_queue.proofs.Stepping.{honest}
use Rattle.batch_queue.proofs.Trying.{looks_own, refused_at}
use Rattle.batch_queue.proofs.Unrivalled.{put_not_lost}

-- the batch begins at a head that the protocol was asked about
pub may_claim : (allows : Condition) (items xs : List ℕ) (least most n head : ℕ) (v l b : View) → ∥ InvHeldOf v ∥₁ → MayPutFrom allows v least most items → least ≤ n → n ≤ most → xs ≡ take n items → Found v head_word head l → b.own ≡ l.own → head < SHUT
    → allows 0 (placed_lines b.own.runs ++ (head, xs) ∷ []) (placed_lines b.own.takes)
may_claim allows items xs least most n head v l b ruled may enough few are f same low = let h : head ≡ claimed l.seen.object = (head_open v l head f low).1 in
    let from : claimed v.seen.object ≤ head = (let g = items_grow v.seen.object l.seen.object f.grows in omega arith) in
    let alone : IsWhole v.member.share → head ≡ claimed v.seen.object = (λ whole. ∥∥₁_elim ruled (ℕ_set _ _) (λ r. h ∙ ap (λ (z : AbsState BatchState). claimed z.object) (sym (alone_led of_batches v l (load head_word head l.seen ∷ []) whole (honest v r).leads (honest l f.ruled) f.made.adds).0.0))) in
    let own : b.own ≡ v.own = same ∙ f.made.did in
    subst (λ (z : List ℕ). allows 0 (placed_lines b.own.runs ++ (head, z) ∷ []) (placed_lines b.own.takes)) (sym are)
    (subst (λ (z : EndRecord). allows 0 (placed_lines z.runs ++ (head, take n items) ∷ []) (placed_lines z.takes)) (sym own) (may n enough few head from alone))

-- an item that an end took was put
taken_put : (allows : Condition) (w : View) (m i item : ℕ) (e : Batch) → IsKept Rule (KeepsTo allows) w → get_elem? w.own.takes m ≡ some e → get_elem? (line_of e) i ≡ some item → WasPut allows 0 item
taken_put allows w m i item e k has is = let rule = k.holds.rule in let p = putter (positions_of rule.now.object) (map part_of k.state.views) k.number m i item (part_of w) e rule.listed.lists (at_map part_of k.state.views k.number w k.here) has is in
    let u = at_map_back part_of k.state.views p.call p.part p.here in
    let its : get_elem? u.0.own.runs p.number ≡ some p.run = subst (λ (z : QueueView). get_elem? z.runs p.number ≡ some p.run) (sym u.2) p.has in record {
      puts = placed_lines u.0.own.runs;
      takes = placed_lines u.0.own.takes;
      allowed = k.holds.keeps p.call u.0 u.1;
      number = p.number;
      line = (p.run.start, line_of p.run);
      is_there = at_map (λ (b : Batch). (b.start, line_of b)) u.0.own.runs p.number p.run its;
      index = p.index;
      is_item = p.is_item;
    }

-- the items of the end's last taking were put
pub were_put : (allows : Condition) (before : List (List ℕ)) (items line : List ℕ) (w : View) → IsKept Rule (KeepsTo allows) w → items ≡ line → lines_taken w ≡ before ++ line ∷ [] → ArePut allows items
were_put allows before items line w k are took i item is = let e = at_map_back line_of w.own.takes (length before) line (subst (λ (z : List (List ℕ)). get_elem? z (length before) ≡ some line) (sym took) (at_last before line (length before) refl)) in
    taken_put allows w (length before) i item e.0 k e.1 (subst (λ (z : List ℕ). get_elem? z i ≡ some item) (are ∙ sym e.2) is)

-- a try that another end won leaves the end allowed to put the items
pub may_again : (old new : BatchEnd) (allows : Condition) (items : List ℕ) (room : ℕ) (r : Result ℕ PutRefusal) → is_lost r ≡ true → MayPut allows (view_of old) items → GoesOn (view_of old) (view_of new)
    → MatchResult r (λ start. IsPut room (view_of old) start items (view_of new)) (λ e. RefusedPut room (view_of old) (length items) e (view_of new)) → MayPut allows (view_of new) items
may_again old new allows items room (Ok start) is may goes t = absurd (true≢false (sym is))
may_again old new allows items room (Err NoItems) is may goes t = absurd (true≢false (sym is))
may_again old new allows items room (Err TooLong) is may goes t = absurd (true≢false (sym is))
may_again old new allows items room (Err Closed) is may goes t = absurd (true≢false (sym is))
may_again old new allows items room (Err Spent) is may goes t = absurd (true≢false (sym is))
may_again old new allows items room (Err (Full head free)) is may goes t = absurd (true≢false (sym is))
may_again old new allows items room (Err (Lost head)) is may goes t = λ start from alone. (let v : View = view_of old in let w : View = view_of new in
    let at = refused_at (λ (e : List (Step BatchState)). OnlyLoads v e w) room (length items) (Lost head) t in let own : w.own ≡ v.own = looks_own v w at.0 at.1 in
    let never : IsWhole v.member.share → ⊥ = (λ whole. by_both old new ⊥_prop (λ x y. put_not_lost v w x y whole room (length items) head t)) in
    let before : claimed v.seen.object ≤ start = (let g = goes.later.claims in omega arith) in
    subst (λ (z : EndRecord). allows 0 (placed_lines z.runs ++ (start, items) ∷ []) (placed_lines z.takes)) (sym own) (may start before (λ whole. absurd (never whole))))

-- what the protocol says of each end at the end's last step
pub each_keeps : (allows : Condition) (w : View) → IsKept Rule (KeepsTo allows) w → EachEndKeeps allows w
each_keeps allows w k = let shows = shows_queue k.key k.state k.holds.rule in record {
  key = k.key;
  state = k.state;
  shows = shows;
  number = k.number;
  here = k.here;
  later = shows.seen k.number w k.here;
  keeps = k.holds.keeps;
}

-- all of the items are the only front with as many
pub may_all : (allows : Condition) (v : View) (room : ℕ) (items : List ℕ) → MayPut allows v items → MayPutFrom allows v (length items) (min (length items) room) items
may_all allows v room items may n enough few = let same : n ≡ length items = omega arith in subst (λ (z : List ℕ). MayPut allows v z) (sym ((λ i. take (same i) items) ∙ take-length items)) may

-- the first of the buffer are the line that was taken
pub front_of : (n : ℕ) (line old new : List ℕ) → length line ≡ n → new ≡ line ++ drop n old → take n new ≡ line
front_of n line old new long is = (λ i. take (sym long i) (is i)) ∙ take-append_seam line (drop n old)
