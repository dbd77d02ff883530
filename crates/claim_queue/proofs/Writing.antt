-- The stores of a data word and of a flag word keep the rule.
use Rattle.claim_queue.proofs.Common.{◌≡◌, ◌≢◌, ℕ, ◌+◌, ◌-◌, ◌*◌, ◌%◌, ◌<◌, ◌≤◌, List, map, get_or, set, sym, refl, ap, ◌∙◌, subst, arith, length-set, mod-lt, get_or-set_same, get_or-set_other, some, none, get_elem?, Me, step, Allows, at_map, Cell, Batch, Positions, change, number_of, with_stage, fresh, item_at, stage_at, place_at, spot, own, run_stands, grows_refl, Goes, Shape, was_written, FIRST_PLACE, head_word, tail_word, data_word, flag_word, data_in, flag_in, View, part_of, with_changed, Rule, Stepped, IsUsed, by_item, by_flag, unused_kept}
use Rattle.table_theory.specs.Positioned.{with_write}
use Rattle.table_theory.specs.Rests.{PlaceRests}
use Rattle.table_theory.specs.Windows.{PlaceShows}
use Rattle.table_theory.proofs.Listing.{Own, listed_write}
use Rattle.table_theory.proofs.Owned.{one_at}
use Rattle.table_theory.proofs.Positioned.{write_here}
use Rattle.table_theory.proofs.Rests.{rests_write}
use Rattle.table_theory.proofs.Windows.{window_write}
use Rattle.claim_queue.specs.Steps.{HasPlace, Wrote, writes}
use Rattle.claim_queue.proofs.Stepping.{St, first_room, table, acts}

-- a store at the place i of the end's run at this start
module _ (key : Shape) (n id : ℕ) (me : Me Unit View) (start i u x : ℕ) (place : Cell) (live : 1 ≤ me.0.member.ends) (mine : HasPlace me.0 start i place) (low : place.stage < 2) where
  abbrev e : Batch
  e = mine.0

  module _ (s : St) (k : Rule key s) (at : get_elem? s.views id ≡ some me.0) where
    abbrev q : Positions
    q = k.now.object

    -- the place, as the queue is now
    its : Own q e i
    its = own q e i k.stands.lawful (run_stands q (map part_of s.views) id (number_of start me.0.own.runs) (part_of me.0) e k.listed.lists (at_map part_of s.views id me.0 at) mine.1) mine.3 (subst (λ (z : Cell). z.stage < 2) (sym mine.4) low)

    -- the end's view of the room and of the first position is that of the queue
    place_of : (start + i) % me.0.first.room ≡ spot q its.at
    place_of = λ z. ((λ j. sym mine.2 j + i) ∙ its.start) z % first_room key s k id me.0 at z

    was : place_at q its.at ≡ place
    was = its.same ∙ mine.4

    near : spot q its.at < q.room
    near = mod-lt (q.first + its.at) k.stands.shows.window.some_room

    -- the word u, which is one of the place's, becomes x, and so many steps of writing are done then
    goes : (done : ℕ) → stage_at q its.at + 1 ≡ done → done ≤ 2 → FIRST_PLACE ≤ u → IsUsed q.room u → ((j : ℕ) → j < q.room → j ≢ spot q its.at → (u ≢ 2 * j + 17) × (u ≢ 2 * j + 16))
        → PlaceShows (with_write q its.at done) (flag_in (set s.words u x)) (data_in (set s.words u x)) its.at → PlaceRests (with_write q its.at done) (flag_in (set s.words u x)) (data_in (set s.words u x)) its.at → Goes (table key) n id me s u x (writes start i done (step n u x 0 none) me x)
    goes done one_more most past_ends used else_where shows rests =
        let p : ℕ = its.at in let q' : Positions = with_write q p done in let words' : List ℕ = set s.words u x in let h = k.stands.shows in let long = length-set q.places p (record { item = item_at q p; stage = done }) in let m : ℕ = number_of start me.0.own.runs in
        let other : (j : ℕ) → j ≢ u → get_or words' j 0 ≡ get_or s.words j 0 = λ j ne. get_or-set_other s.words u j x 0 ne in let st = its.start in let in_places = its.below in let here : p ≡ e.start + i - q.first = omega arith in
        acts key n id me s k at u (get_or s.words u 0) x (with_changed me.0.own (with_stage e i done)) q' (writes start i done (step n u x 0 none) me x) live (λ z. omega arith) refl
        (was_written p its.from its.below (omega arith) (ap (with_write q p) (sym one_more)))
        record {
          wide = length-set s.words u x ∙ h.wide;
          bounded = let b = h.bounded in omega arith;
          head = other head_word (λ z. omega arith) ∙ (h.head ∙ omega arith);
          tail = other tail_word (λ z. omega arith) ∙ h.tail;
          window = window_write q p done (flag_in s.words) (data_in s.words) (flag_in words') (data_in words') h.window its.from its.to
              (λ j b ne. other (2 * j + 17) (λ z. (else_where j b ne).0 (sym z))) (λ j b ne. other (2 * j + 16) (λ z. (else_where j b ne).1 (sym z))) shows;
          rests = rests_write q p done (flag_in s.words) (data_in s.words) (flag_in words') (data_in words') h.window.some_room h.rests its.from its.to its.below
              (λ j b ne. other (2 * j + 17) (λ z. (else_where j b ne).0 (sym z))) (λ j b ne. other (2 * j + 16) (λ z. (else_where j b ne).1 (sym z))) rests;
          unused = unused_kept (IsUsed q.room) s.words u x used h.unused;
        }
        (listed_write q (map part_of s.views) id m i done p (part_of me.0) (record { queue = q'; runs = (with_changed me.0.own (with_stage e i done)).runs; takes = me.0.own.takes }) e k.listed (at_map part_of s.views id me.0 at) mine.1 mine.3 its.start its.from (omega arith)
        (λ z. set me.0.own.runs (number_of (mine.2 z) me.0.own.runs) (with_stage e i done)) refl (grows_refl q'))
        refl
        (λ w stays step. (
          stays,
          λ f has' starts'. subst (λ (z : Batch). Wrote me.0 z i done u w) (one_at me.0.own.runs m e f mine.1 has') (
            get_or s.words u 0,
            k.now,
            record { from = omega arith; below = omega arith; is = ap (place_at q) (sym here) ∙ its.same },
            subst (λ (z : ℕ). Stepped me.0 (change u (get_or s.words u 0) k.now (with_write q z done)) (with_changed me.0.own (with_stage e i done)) w) here step,
          ),
        ))

  pub stores_data : place ≡ fresh x → u ≡ data_word me.0.first.room (start + i) → Allows (Rule key) n id me u (λ _. x) (λ _. writes start i 1 (step n u x 0 none) me x)
  stores_data unwritten word s k _ at _ = let o = its s k at in let p : ℕ = o.at in let q : Positions = k.now.object in let close = near s k at in let wide = k.stands.shows.wide in
      let here : u ≡ data_word q.room (q.first + p) = word ∙ ap (λ (z : ℕ). 2 * z + 16) (place_of s k at) in
      let steps : stage_at q p ≡ 0 = ap (λ (z : Cell). z.stage) (was s k at ∙ unwritten) in let item : item_at q p ≡ x = ap (λ (z : Cell). z.item) (was s k at ∙ unwritten) in
      let old = k.stands.shows.window.each p o.from o.to in let rest = k.stands.shows.rests p o.from o.to in let now = write_here q p 1 o.below in let with_stage_at : stage_at (with_write q p 1) p ≡ 1 = ap (λ (z : Cell). z.stage) now in
      let flag : get_or (set s.words u x) (flag_word q.room (q.first + p)) 0 ≡ get_or s.words (flag_word q.room (q.first + p)) 0 = get_or-set_other s.words u (flag_word q.room (q.first + p)) x 0 (λ z. omega arith) in
      let same_data : get_or (set s.words u x) (data_word q.room (q.first + p)) 0 ≡ x = ap (λ (z : ℕ). get_or (set s.words u x) z 0) (sym here) ∙ get_or-set_same s.words u x 0 (omega arith) in
      goes s k at 1 (omega arith) (omega arith) (omega arith) (by_item (q.first + p) here) (λ j b ne. ((λ z. omega arith), λ z. ne (omega arith)))
      record { low = λ h. let f = old.low (omega arith) in omega arith; up = λ h. absurd (omega arith); holds = λ h. same_data ∙ (sym item ∙ sym (ap (λ (z : Cell). z.item) now)) }
      record { first_flag = λ early h. flag ∙ rest.first_flag early (omega arith); first_item = λ early h. absurd (omega arith); later_flag = λ late h. flag ∙ rest.later_flag late (omega arith); later_item = λ late h. absurd (omega arith) }

  pub stores_flag : place.stage ≡ 1 → u ≡ flag_word me.0.first.room (start + i) → x ≡ start + i + 1 → Allows (Rule key) n id me u (λ _. x) (λ _. writes start i 2 (step n u x 0 none) me x)
  stores_flag once word is s k _ at _ = let o = its s k at in let p : ℕ = o.at in let q : Positions = k.now.object in let close = near s k at in let wide = k.stands.shows.wide in
      let here : u ≡ flag_word q.room (q.first + p) = word ∙ ap (λ (z : ℕ). 2 * z + 17) (place_of s k at) in
      let steps : stage_at q p ≡ place.stage = ap (λ (z : Cell). z.stage) (was s k at) in let st = o.start in let starts = mine.2 in
      let old = k.stands.shows.window.each p o.from o.to in let now = write_here q p 2 o.below in let with_stage_at : stage_at (with_write q p 2) p ≡ 2 = ap (λ (z : Cell). z.stage) now in
      let same_data : get_or (set s.words u x) (data_word q.room (q.first + p)) 0 ≡ get_or s.words (data_word q.room (q.first + p)) 0 = get_or-set_other s.words u (data_word q.room (q.first + p)) x 0 (λ z. omega arith) in
      let flag : get_or (set s.words u x) (flag_word q.room (q.first + p)) 0 ≡ x = ap (λ (z : ℕ). get_or (set s.words u x) z 0) (sym here) ∙ get_or-set_same s.words u x 0 (omega arith) in
      goes s k at 2 (omega arith) (omega arith) (omega arith) (by_flag (q.first + p) here) (λ j b ne. ((λ z. ne (omega arith)), λ z. omega arith))
      record { low = λ h. absurd (omega arith); up = λ h. omega arith; holds = λ h. same_data ∙ (old.holds (omega arith) ∙ sym (ap (λ (z : Cell). z.item) now)) }
      record { first_flag = λ early h. absurd (omega arith); first_item = λ early h. absurd (omega arith); later_flag = λ late h. absurd (omega arith); later_item = λ late h. absurd (omega arith) }
