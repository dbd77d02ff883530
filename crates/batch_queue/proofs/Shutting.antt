-- The step that shuts the queue keeps the rule.
use Rattle.batch_queue.proofs.Common.{Allows, BatchState, EndRecord, Grows, IsUsed, MarkSays, Me, OwnShows, Rule, SHUT, Shape, View, ap, arith, at_map, by_head, free_word, get_or, get_or-set_other, get_or-set_same, head_word, items_of, keeps, length, length-set, map, mark_word, nat_lt, none, part_of, positions_of, refl, shuts, step, subst, sym, tail_word, times_shut, unused_kept, was_shut, with_shut, with_shutting, ℕ, ◌+◌, ◌∙◌, ◌≡◌, ◌≤◌}
use Rattle.table_theory.proofs.Positioned as positioned
use Rattle.std.specs.Int.Bits.{bit_or}
use Rattle.table_theory.proofs.Listing.{listed_shut}
use Rattle.batch_queue.proofs.Heading.{marked, shut_more}
use Rattle.batch_queue.proofs.Owning.{own_on}
use Rattle.batch_queue.proofs.Growing.{becomes_grows}
use Rattle.batch_queue.proofs.Stepping.{acts, held_by}

pub shuts_head : (key : Shape) (n id : ℕ) (me : Me ℕ View) → 1 ≤ me.0.member.ends → Allows (Rule key) n id me head_word (λ x. bit_or x SHUT) (shuts (step n head_word SHUT 0 none) me)
shuts_head key n id me live s k _ at _ = let v : View = me.0 in let o : BatchState = k.now.object in let r : BatchState = with_shut o in let h = k.stands.shows in let y : ℕ = get_or s.words head_word 0 in let new : ℕ = bit_or y SHUT in let own : EndRecord = with_shutting v.own (nat_lt y SHUT) in
    let bounded = h.bounded in let wide = h.wide in let is : new ≡ length (items_of o) + SHUT = ap (λ (z : ℕ). bit_or z SHUT) h.head ∙ marked (length (items_of o)) o.shut (omega arith) in
    let g : Grows o r = becomes_grows o r (was_shut refl) in let mine : OwnShows r v.own = own_on o r v.own g (λ i x. refl) (k.owns id v at) in
    acts key n id me s k at head_word new own r keeps (shuts (step n head_word SHUT 0 none) me y) live (λ e. omega arith) (was_shut refl)
    record {
      wide = length-set s.words head_word new ∙ h.wide;
      bounded = h.bounded;
      head = get_or-set_same s.words head_word new 0 (omega arith) ∙ is;
      tail = get_or-set_other s.words head_word tail_word new 0 (λ e. omega arith) ∙ h.tail;
      free = get_or-set_other s.words head_word free_word new 0 (λ e. omega arith) ∙ h.free;
      marks = λ p from to. subst (MarkSays r p) (sym (get_or-set_other s.words head_word (mark_word o.room p) new 0 (λ e. omega arith))) (let t = h.marks p from to in record { up = t.up; back = t.back; bound = t.bound; whole = t.whole; whole_back = t.whole_back });
      marks_are = λ p. get_or-set_other s.words head_word (mark_word o.room p) new 0 (λ z. omega arith) ∙ h.marks_are p;
      batch_mark = λ p e b l from up. get_or-set_other s.words head_word (mark_word o.room p) new 0 (λ z. omega arith) ∙ h.batch_mark p e b l from up;
      rest_mark = λ p is from. let t = h.rest_mark p is from in (t.0, t.1, get_or-set_other s.words head_word (mark_word o.room p) new 0 (λ z. omega arith) ∙ t.2);
      taking_mark = λ p e b l from up. get_or-set_other s.words head_word (mark_word o.room p) new 0 (λ z. omega arith) ∙ h.taking_mark p e b l from up;
      unused = unused_kept (IsUsed o.room) s.words head_word new (by_head refl) h.unused;
    }
    tt
    (λ p from to. let t = k.homes p from to in record { free = t.free; up = t.up; back = t.back })
    (record { runs = mine.runs; takes = mine.takes; kind = mine.kind; batch = mine.batch; run = λ z l. let t = mine.run z l in record { number = t.number; run = t.run; here = t.here; start = t.start; long = t.long; low = t.low }; taking = mine.taking; holds = mine.holds })
    (λ j u e ne. (own_on o r u.own g (λ i x. refl) (k.owns j u e), λ i c d. k.apart j id u v e at ne i c d))
    (λ x below out. held_by s.views id x v at (k.owned x below out))
    (listed_shut (positions_of o) (map part_of s.views) id (part_of v) (record { queue = positions_of r; runs = v.own.runs; takes = v.own.takes }) k.listed (at_map part_of s.views id v at) refl refl (positioned.grows_refl (positions_of r)))
    (let m = shut_more o.shut (length (items_of o)) y h.head (omega arith) in let e : times_shut o + own.shuts ≡ 1 + v.own.shuts = omega arith in e)
    refl
    (λ w stays step. (stays, refl, (k.now, step)))
