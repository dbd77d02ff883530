-- What closing a table answers, of the last state and of the words that were read.
use Rattle.thread_table.proofs.Common.{◌≡◌, ◌≢◌, ℕ, ◌+◌, ◌-◌, ◌%◌, ◌<◌, true, false, List, [], ◌∷◌, length, get_or, None, Some, refl, sym, ap, subst, ◌∙◌, arith, there_is, true_from_ne_false, bit_at, some, dite, dec_lt, ℕ_discrete, get_elem?, Final, load, ends_word, PerformsEvents, HandState, one_at, Elements, IsWhole, ELEMENTS, Place, Claimed, Shape, View, ClosedNow, PlaceOf, word_at, Rule, HandIs, nothing_of, quiet, ring_at, thread_at, Event, WordsShow, had_by_both, map, at_map, at_map_back, MadeEvent, AreMade, made_of, state_word, done_word}
use Rattle.atomic_table.specs.Table.{State, Seen}
use Rattle.table_theory.specs.Ledgers as ends
use Rattle.table_theory.proofs.Standing.{rest_spent}
use Rattle.table_theory.specs.Sharing.{IsCount}
use Rattle.thread_table.specs.declared.places.Place.TheVariants as places
use Rattle.thread_table.specs.Closings.{WereOpen}
use Rattle.thread_table.specs.Schedules.{elements_after, IsAllowed}
use Rattle.thread_table.proofs.Hands.OnlyLoads.{hand_quiet, newest_schedule}
use Rattle.thread_table.proofs.Events.StatesSeen.{pending_are}
use Rattle.thread_table.specs.Steps.{Tallied}
use Rattle.thread_table.proofs.Lists.Copies.{get_or-copies}
use Rattle.thread_table.proofs.Shown.QueueWords.{none_some}
use Rattle.thread_table.proofs.Schedule.Schedules.{lawful_after, accounted}
use Rattle.thread_table.proofs.Closing.WhereElementsStand.{Settled, stands, bit_read}
use Rattle.thread_table.proofs.Schedule.ListedEvents.{made_sole}
use Rattle.thread_table.proofs.Schedule.Once.{steps_once}
use Rattle.thread_table.proofs.Closing.Retiring.{are_retired}

pub were_open : (v w : View) (found others : ℕ) → Tallied v found w → found ≢ 1 → others ≡ found - 1 → WereOpen v others w
were_open v w found others t more is = let some = t.count.some_end in let n : found ≡ others + 1 = omega arith in record {
  some_other = omega arith;
  not_whole = λ whole. more (t.count.whole whole);
  past = w.seen;
  acts = subst (λ (z : ℕ). PerformsEvents v (load ends_word z w.seen ∷ []) (quiet v) w) n t.looked.acts;
  number = sym n ∙ t.number;
  count = subst (IsCount v.member.share) n t.count;
}

-- beside the hand with the whole no hand has anything, and it has no claim to raise itself
pub settled : (key : Shape) (s : State Unit View) (k : Rule key s) (id : ℕ) (w : View) → get_elem? s.views id ≡ some w → IsWhole w.member.share → w.own.claimed ≡ None
    → Settled id key.first (elements_after k.events) s.words
settled key s k id w at whole none =
    let e : Elements = elements_after k.events in
    let idle : (i : ℕ) (u : View) → get_elem? s.views i ≡ some u → i ≢ id → ends.IsIdle (nothing_of key.first) u = rest_spent (nothing_of key.first) had_by_both (get_or s.words 0 0) s.views id w k.ends at whole in
    let unclaimed : (i : ℕ) (u : View) (c : Claimed) → get_elem? s.views i ≡ some u → u.own.claimed ≡ Some c → ⊥ = λ i u c has claims. dite (ℕ_discrete i id)
    (λ same. none_some c u.own.claimed (ap (λ (z : View). z.own.claimed) (one_at s.views id u w (subst (λ (j : ℕ). get_elem? s.views j ≡ some u) same has) at) ∙ none) claims)
    (λ ne. none_some c u.own.claimed (ap (λ (z : HandState). z.claimed) (idle i u has ne).own) claims) in
    record {
      lawful = lawful_after k.events k.allowed;
      shows = k.shows;
      raised = λ ring run below within. true_from_ne_false ((ring_at e ring).raised run 0) (λ low. let o = k.owned ring run below (within, low) in unclaimed o.0 o.1 _ o.2 o.3);
      alone = λ other element ne. dite (dec_lt other (length s.views))
          (λ yes. let u = there_is s.views other yes in (k.hands other u.0 u.1).held element ∙ (ap (λ (z : HandState). get_or z.held element false) (idle other u.0 u.1 ne).own ∙ get_or-copies 64 false element))
          (λ no. k.strange other element (omega (arith, no)));
    }

-- beside the hand with the whole no hand lists an event
all_made : (key : Shape) (s : State Unit View) (k : Rule key s) (id : ℕ) (w : View) → get_elem? s.views id ≡ some w → IsWhole w.member.share → AreMade k.events (w.own.made ∷ [])
all_made key s k id w at whole = made_sole k.events (map made_of s.views) id w.own.made k.made (at_map made_of s.views id w at)
    (λ d l has ne. let b = at_map_back made_of s.views d l has in sym b.2 ∙ ap (λ (z : HandState). z.made) (rest_spent (nothing_of key.first) had_by_both (get_or s.words 0 0) s.views id w k.ends at whole d b.0 b.1 ne).own)

pub closes : (key : Shape) (v w : View) (found id : ℕ) (ws : List ℕ) (xs : List Unit) (all : List Place) (pcs pending : List ℕ) (stops : ℕ) → v.own.fresh ≡ true → v.own.claimed ≡ None → Tallied v found w → found ≡ 1 → Final (Seen (Rule key) id w) ws xs
    → ((x : ℕ) → x < ELEMENTS → PlaceOf x ws (get_or all x places.Held))
    → ((x : ℕ) → x < ELEMENTS → get_or pcs x 0 ≡ word_at ws (done_word x))
    → ((x : ℕ) → x < ELEMENTS → get_or pending x 0 ≡ word_at ws (state_word x) % 65536)
    → ((x : ℕ) → x < ELEMENTS → bit_at stops x ≡ bit_at (word_at ws (state_word x)) 16)
    → ClosedNow id v all pcs pending stops
closes key v w found id ws xs all pcs pending stops up none tallied one fin place_of pc_of pending_of stop_of =
    let s : State Unit View = fin.0 in let k : Rule key s = fin.1.0 in let at = fin.1.1 in let whole : IsWhole v.member.share = tallied.count.alone one in
    let still : IsWhole w.member.share = subst IsWhole (sym (ap (λ (z : View). z.member.share) tallied.looked.acts.has)) whole in
    let now : k.events ≡ v.seen.object = sym (tallied.looked.sees.newest whole up ∙ newest_schedule key s k id w at still (ap (λ (z : View). z.own.fresh) tallied.looked.acts.has)) in let e : Elements = elements_after v.seen.object in
    let allowed : IsAllowed v.seen.object = subst IsAllowed now k.allowed in let shows : WordsShow key.first e s.words = subst (λ (z : List Event). WordsShow key.first (elements_after z) s.words) now k.shows in
    let sh : WordsShow key.first e ws = subst (WordsShow key.first e) fin.2 shows in
    let own : AreMade v.seen.object (v.own.made ∷ []) = subst (λ (z : List Event). AreMade z (v.own.made ∷ [])) now (subst (λ (l : List MadeEvent). AreMade k.events (l ∷ [])) (ap (λ (z : View). z.own.made) tallied.looked.acts.has) (all_made key s k id w at still)) in
    let set : Settled id key.first e ws = subst (Settled id key.first e) fin.2 (subst (λ (z : List Event). Settled id key.first (elements_after z) s.words) now (settled key s k id w at still (ap (λ (z : View). z.own.claimed) tallied.looked.acts.has ∙ none))) in
    record {
      whole = whole;
      allowed = allowed;
      accounted = accounted v.seen.object allowed;
      hand = subst (λ (z : List Event). HandIs id (quiet v) (elements_after z)) now (hand_quiet id w (quiet v) (elements_after k.events) (sym (ap (λ (z : View). z.own.held) tallied.looked.acts.has)) (sym (ap (λ (z : View). z.own.serves) tallied.looked.acts.has)) (sym (ap (λ (z : View). z.own.on) tallied.looked.acts.has)) (sym (ap (λ (z : View). z.own.claimed) tallied.looked.acts.has)) refl (k.hands id w at));
      made = own;
      steps_once = steps_once v.seen.object v.own.made allowed own;
      retired = are_retired v.seen.object allowed;
      places = λ x below. stands id key.first e ws set x (get_or all x places.Held) below (place_of x below);
      steps = λ x below. pc_of x below ∙ sh.steps x below;
      signals = λ x below. pending_are (thread_at e x) (word_at ws (state_word x)) (get_or pending x 0) (sh.states x below) (pending_of x below);
      stopped = λ x below. let state = sh.states x below in bit_read (bit_at stops x) _ (stop_of x below ∙ state.stop);
    }
