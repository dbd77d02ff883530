-- The compare-and-swap of the head keeps the rule.
use Rattle.claim_queue.proofs.Common.{◌≡◌, ℕ, ◌+◌, ◌<◌, ◌≤◌, false, eqb, List, [], ◌∷◌, ◌++◌, map, length, get_or, set, sym, refl, ap, ◌∙◌, arith, length-set, length-append, get_or-set_same, get_or-set_other, length-map, none, either, Me, step, Allows, at_map, Positions, Lawful, fresh, head_of, tail_of, with_claim, run_stands, grows_refl, exchanges, Shape, was_claimed, head_word, tail_word, mark, data_in, flag_in, View, part_of, run, with_run, Rule, WordsShow, IsUsed, by_head, unused_kept}
use Rattle.table_theory.proofs.Listing.{listed_claim}
use Rattle.table_theory.proofs.Rests.{rests_claim}
use Rattle.table_theory.proofs.Windows.{window_claim}
use Rattle.claim_queue.specs.Steps.{claims}
use Rattle.claim_queue.proofs.Lawful.{open_at}
use Rattle.claim_queue.proofs.Stepping.{window_kept, rests_kept, seen_grows, first_room, table, acts, found}

shows_claim : (q : Positions) (words : List ℕ) (xs : List ℕ) (new : ℕ) → WordsShow q words → Lawful q → q.shut ≡ false → new ≡ head_of q + length xs → new < 4294967296 → WordsShow (with_claim q xs) (set words head_word new)
shows_claim q words xs new h l is_open is fits = let wide = h.wide in let long = length-append q.places (map fresh xs) in let n = length-map xs fresh in let ls = length-set words head_word new in record {
  wide = omega arith;
  bounded = omega arith;
  head = get_or-set_same words head_word new 0 (omega arith) ∙ (let m : mark q.shut ≡ 0 = ap mark is_open in omega arith);
  tail = get_or-set_other words head_word tail_word new 0 (λ e. omega arith) ∙ h.tail;
  window = window_kept (with_claim q xs) words head_word new (omega arith) (window_claim q xs (flag_in words) (data_in words) h.window);
  rests = rests_kept (with_claim q xs) words head_word new (omega arith) h.window.some_room (rests_claim q xs (flag_in words) (data_in words) l h.rests);
  unused = unused_kept (IsUsed q.room) words head_word new (by_head refl) h.unused;
}

pub claims_head : (key : Shape) (n id : ℕ) (me : Me Unit View) (old new : ℕ) (xs : List ℕ) → new ≡ old + length xs → new < 4294967296 → old + length xs ≤ tail_of me.0.seen.object + me.0.first.room → 1 ≤ me.0.member.ends → 0 < length xs
    → Allows (Rule key) n id me head_word (λ x. either (eqb x old) new x) (claims xs (step n head_word old new none) me)
claims_head key n id me old new xs is fits room live some_items = exchanges (table key) n id me (claims xs (step n head_word old new none) me) head_word old new live
    (λ s k at hit. let q : Positions = k.now.object in let v : View = me.0 in let hd = k.stands.shows.head in let is_open : q.shut ≡ false = open_at (head_of q) q.shut (omega arith) in let m : mark q.shut ≡ 0 = ap mark is_open in let here : head_of q ≡ old = omega arith in
    let g = seen_grows key s k id v at in let first = g.first in let same_room = first_room key s k id v at in let further = g.further in let following = k.stands.lawful.taken_within in
    acts key n id me s k at head_word old new (with_run v.own (run old xs)) (with_claim q xs) (claims xs (step n head_word old new none) me (get_or s.words head_word 0)) live (λ e. absurd (omega arith)) (sym hit) (was_claimed xs some_items is_open (omega arith) refl)
    (shows_claim q s.words xs new k.stands.shows k.stands.lawful is_open (omega arith) fits)
    (listed_claim q (map part_of s.views) id (part_of v) (record { queue = with_claim q xs; runs = v.own.runs ++ run old xs ∷ []; takes = v.own.takes }) xs k.listed (at_map part_of s.views id v at) following is_open some_items (λ z. v.own.runs ++ run (sym here z) xs ∷ []) refl (grows_refl (with_claim q xs)))
    refl (λ w stays step. (
      stays,
      (λ _. (k.now, (λ m e has. (let l = run_stands q (map part_of s.views) id m (part_of v) e k.listed.lists (at_map part_of s.views id v at) has in let st = l.start in let within = l.within in omega arith)), step)),
      λ miss. absurd (miss hit),
    )))
    (λ s k at miss r. let f = found key n id me s k at head_word r in (f.0, (λ hit. absurd (miss hit)), λ _. f.1))
