-- The items and numbers that are read from a closed table.
use Rattle.claim_queue.proofs.Common.{◌≡◌, ◌≢◌, ℕ, zero, suc, ◌+◌, ◌-◌, ◌%◌, ◌<◌, ◌≤◌, Bool, true, false, Some, None, List, [], ◌∷◌, length, get_or, map, drop, sym, ap, ◌∙◌, subst, arith, lt-ltb, le-ltb, if◌then◌else◌, dite, dec_lt, get_elem?, Positions, QueueView, AbsState, Part, PartsShow, ViewsShow, blank, place_at, item_at, stage_at, head_of, IsWhole, grows_refl, at_map, Shape, left_at, left_from, shown, head_word, tail_word, ends_word, data_word, flag_word, mark, data_in, flag_in, View, part_of, shuts_of, Rule, InvHeldOf, WordsShow}
use Rattle.std.proofs.Common.{eq-eqb, ne_eqb, Option}
use Rattle.std.proofs.lemmas.List.{drop_more, drop_all}
use mathlib.Core.Option as maybe
use Rattle.table_theory.specs.Ledgers.{Tallied}
use Rattle.table_theory.proofs.Listing.{listed_sole, first_seen}
use Rattle.table_theory.proofs.Stepping.{rest_idle, closes as closed}
use Rattle.std.proofs.Math.Path.{transport}
use Rattle.table_theory.proofs.Owned.{at_map_back}
use Rattle.table_theory.proofs.Reading.{read_word}
use Rattle.table_theory.proofs.Totals.{sole_total}
use Rattle.atomic_table.specs.Table.{Final, Seen}
use Rattle.claim_queue.specs.Closings.{ClosedNow}
use Rattle.table_theory.proofs.Cutting.{settled, all_left}
use Rattle.claim_queue.proofs.Stepping.{St}

-- a place that is left reads as its item, if it was raised
pub left_shown : (q : Positions) (ws : List ℕ) (i : ℕ) → WordsShow q ws → q.taken ≤ i → i < q.taken + q.room → left_at q.room ws (q.first + i) ≡ shown (place_at q i)
left_shown q ws i h from to = let p : ℕ = q.first + i in let pl = h.window.each i from to in let flag : ℕ = get_or ws (flag_word q.room p) 0 in let datum : ℕ = get_or ws (data_word q.room p) 0 in
    dite (dec_lt (stage_at q i) 2)
    (λ low. let f = pl.low low in let ne : flag ≢ p + 1 = (λ e. omega arith) in
    ap (λ (b : Bool). if b then Some datum else None) (ne_eqb flag (p + 1) ne) ∙ sym (ap (λ (b : Bool). if b then None else Some (item_at q i)) (lt-ltb (stage_at q i) 2 low)))
    (λ up. ap (λ (b : Bool). if b then Some datum else None) (eq-eqb flag (p + 1) (pl.up (omega arith))) ∙ (ap Some (pl.holds (omega arith)) ∙ sym (ap (λ (b : Bool). if b then None else Some (item_at q i)) (le-ltb (stage_at q i) 2 (omega arith)))))

pub left_all : (q : Positions) (ws : List ℕ) (n i : ℕ) → WordsShow q ws → q.taken ≤ i → i + n ≡ length q.places → length q.places ≤ q.taken + q.room → left_from q.room ws (q.first + i) n ≡ map shown (drop i q.places)
left_all q ws zero i h from long within = sym (ap (map shown) (drop_all i q.places (omega arith)))
left_all q ws (suc n) i h from long within = let e : suc (q.first + i) ≡ q.first + (i + 1) = omega arith in
    (λ k. left_shown q ws i h from (omega arith) k ∷ (ap (λ (z : ℕ). left_from q.room ws z n) e ∙ left_all q ws n (i + 1) h (omega arith) (omega arith) within) k) ∙ sym (ap (map shown) (drop_more q.places i blank (omega arith)))

pub read_some : (room : ℕ) (ws : List ℕ) (p u t flag x : ℕ) → u ≡ flag_word room p → t ≡ data_word room p → get_elem? ws u ≡ maybe.some flag → flag ≡ p + 1 → get_elem? ws t ≡ maybe.some x → Some x ≡ left_at room ws p
read_some room ws p u t flag x flag_at data_at f is d = let g : ℕ = flag_in ws (p % room) in let y : ℕ = data_in ws (p % room) in
    ap Some (sym (ap (λ (z : ℕ). get_or ws z 0) (sym data_at) ∙ read_word ws t x d)) ∙ sym (ap (λ (b : Bool). if b then Some y else None) (eq-eqb g (p + 1) (ap (λ (z : ℕ). get_or ws z 0) (sym flag_at) ∙ read_word ws u flag f ∙ is)))

pub read_none : (room : ℕ) (ws : List ℕ) (p u flag : ℕ) → u ≡ flag_word room p → get_elem? ws u ≡ maybe.some flag → flag ≢ p + 1 → None ≡ left_at room ws p
read_none room ws p u flag flag_at f is = let g : ℕ = flag_in ws (p % room) in let y : ℕ = data_in ws (p % room) in
    sym (ap (λ (b : Bool). if b then Some y else None) (ne_eqb g (p + 1) (λ o. is (sym (ap (λ (z : ℕ). get_or ws z 0) (sym flag_at) ∙ read_word ws u flag f) ∙ o))))

pub low_of : (n h : ℕ) (b : Bool) → n < 4294967296 → h ≡ n + mark b → h % 4294967296 ≡ n
low_of n h true bounded is = omega arith
low_of n h false bounded is = omega arith

-- an end with the whole lists the queue alone
sole : (key : Shape) (s : St) (k : Rule key s) (id : ℕ) (w : View) → get_elem? s.views id ≡ maybe.some w → IsWhole w.member.share → PartsShow k.now.object (part_of w ∷ [])
sole key s k id w at whole = listed_sole k.now.object (map part_of s.views) id (part_of w) k.listed.lists (at_map part_of s.views id w at)
    (λ i u has ne. let b = at_map_back part_of s.views i u has in subst (λ (z : QueueView). (z.runs ≡ []) × (z.takes ≡ [])) b.2 (let o = rest_idle k.stands id w at whole i b.0 b.1 ne in ((λ j. (o.own j).runs), λ j. (o.own j).takes)))

-- an end that lists the queue alone has seen it
pub closed_lists : (v : View) → PartsShow v.seen.object (part_of v ∷ []) → ViewsShow v.seen.object (part_of v ∷ [])
closed_lists v l = record { lists = l; seen = first_seen v.seen.object (part_of v) (grows_refl v.seen.object) }

pub whole_lists : (v : View) → InvHeldOf v → IsWhole v.member.share → ViewsShow v.seen.object (part_of v ∷ [])
whole_lists v r whole = closed_lists v (subst (λ (z : AbsState Positions). PartsShow z.object (part_of v ∷ [])) (sym r.seen) (sole r.key r.state r.rule r.number v r.here whole))

-- the tail and the head of a closed queue that began at this position, with so many places
pub record Spans (first room tail head : ℕ) : Type 0 where
  pub started : first ≤ tail
  pub taken_within : tail ≤ head
  pub within : head ≤ tail + room
  pub bounded : head < 4294967296

pub spans : (key : Shape) (w : View) (id h t : ℕ) (ws : List ℕ) (xs : List Unit) → Final (Seen (Rule key) id w) ws xs → get_elem? ws head_word ≡ maybe.some h → get_elem? ws tail_word ≡ maybe.some t → Spans key.first key.room t (h % 4294967296)
spans key w id h t ws xs fin at_h at_t = let k = fin.1.0 in let q : Positions = k.now.object in let sh : WordsShow q ws = subst (WordsShow q) fin.2 k.stands.shows in
    let first = k.first in let room = k.room in let bounded = sh.bounded in let following = k.stands.lawful.taken_within in let most = k.stands.lawful.within in
    let hd : h % 4294967296 ≡ head_of q = low_of (head_of q) h q.shut bounded (sym (read_word ws head_word h at_h) ∙ sh.head) in let tl : t ≡ q.first + q.taken = sym (read_word ws tail_word t at_t) ∙ sh.tail in
    record { started = omega arith; taken_within = omega arith; within = omega arith; bounded = omega arith }

pub closes : (key : Shape) (v w : View) (found id h t put taken : ℕ) (ws : List ℕ) (xs : List Unit) (left : List (Option ℕ)) (at : ℕ) → v.member.ends ≡ 1 → key.first ≡ at → Tallied ends_word v found w → found ≡ 1 → Final (Seen (Rule key) id w) ws xs → get_elem? ws head_word ≡ maybe.some h → get_elem? ws tail_word ≡ maybe.some t
    → put ≡ h % 4294967296 - key.first → taken ≡ t - key.first → left ≡ left_from key.room ws t (h % 4294967296 - t) → ClosedNow v at put taken left
closes key v w found id h t put taken ws xs left at one_end at_is tallied one fin at_h at_t put_is taken_is left_is =
    let s : St = fin.0 in let k = fin.1.0 in let here = fin.1.1 in let q : Positions = k.now.object in let sh : WordsShow q ws = subst (WordsShow q) fin.2 k.stands.shows in
    let c = closed k.stands id v w here ends_word found tallied one one_end in let first = k.first in let bounded = sh.bounded in let following = k.stands.lawful.taken_within in let most = k.stands.lawful.within in
    let hd : h % 4294967296 ≡ head_of q = low_of (head_of q) h q.shut bounded (sym (read_word ws head_word h at_h) ∙ sh.head) in let tl : t ≡ q.first + q.taken = sym (read_word ws tail_word t at_t) ∙ sh.tail in
    let n : h % 4294967296 - t ≡ length q.places - q.taken = omega arith in let tk : taken ≡ q.taken = omega arith in let listed = sole key s k id w here (ap (λ (z : Part). z.share) tallied.made.member ∙ c.whole) in
    let is : left ≡ map shown (drop q.taken q.places) = left_is ∙ ((λ i. left_from (sym k.room i) ws (tl i) (n i)) ∙ left_all q ws (length q.places - q.taken) q.taken sh (omega arith) (omega arith) most) in
    transport (λ i. ClosedNow (record v { own = tallied.made.did i; seen = c.now_is i }) at put taken left) record {
      whole = c.whole;
      sole = ap (λ (z : AbsState Positions). z.ends) c.now_is ∙ c.sole;
      joined = c.joined;
      starts = first ∙ at_is;
      puts = omega arith;
      taken_is = tk;
      within = omega arith;
      left_is = is;
      shut_once = sym (sole_total shuts_of s.views id w here (λ i u has ne. (λ j. ((c.idle i u has ne).own j).shuts))) ∙ k.shut_once;
      listed = record { runs = listed.runs; takes = listed.takes; runs_are = listed.runs_are; takes_are = listed.takes_are };
      settled = settled (part_of w) q taken listed following tk;
      raised = λ up. is ∙ all_left (part_of w) q listed up;
    }

-- the views of all ends list what an end has seen, its own among them
pub ruled_lists : (v : View) → InvHeldOf v → (views : List QueueView) × (seat : ℕ) × ViewsShow v.seen.object views × (get_elem? views seat ≡ maybe.some (part_of v))
ruled_lists v r = (map part_of r.state.views, r.number, subst (λ (z : AbsState Positions). ViewsShow z.object (map part_of r.state.views)) (sym r.seen) r.rule.listed, at_map part_of r.state.views r.number v r.here)
