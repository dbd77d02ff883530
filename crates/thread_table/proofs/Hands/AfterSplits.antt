-- What a hand knows after a split, and after a join.
use Rattle.thread_table.proofs.Common.{◌≡◌, ℕ, zero, suc, ◌+◌, ◌-◌, Bool, false, ◌||◌, ◌&&◌, not, List, [], ◌∷◌, length, get_or, refl, sym, ap, ◌∙◌, subst, arith, and_right, or_parts, nat_lt, Event, Begins, count_up, count_down, begins_trans, ends_word, seen_as, View, is_in, Sees, CountedDown, any_both, rest_of, rest_without, newborn, newborn_with, both, SplitBy, SplitShare, IsNewEnd, IsNewEndWith, JoinedBy}
use Rattle.table_theory.specs.Ledgers.{Step}
use Rattle.table_theory.specs.Sharing.{given}
use Rattle.table_theory.proofs.Parting.{one_seen}
use Rattle.thread_table.specs.Steps as valid
use Rattle.thread_table.specs.Steps.{after, CountedUp}
use Rattle.thread_table.specs.Endings.{with_split, together, with_join}
use Rattle.thread_table.proofs.Schedule.Acting.{acts_kept}
use Rattle.thread_table.proofs.Lists.Entries.{parted_and, either_or}

-- where no place has a mark in both lists
both_low : (bs ms : List Bool) → any_both bs ms ≡ false → (i : ℕ) → (get_or bs i false && get_or ms i false) ≡ false
both_low [] ms none i = refl
both_low (b ∷ bs) [] none i = and_right (get_or (b ∷ bs) i false) false refl
both_low (b ∷ bs) (m ∷ ms) none zero = (or_parts (b && m) (any_both bs ms) none).0
both_low (b ∷ bs) (m ∷ ms) none (suc i) = both_low bs ms (or_parts (b && m) (any_both bs ms) none).1 i

-- the first hand, after it counted the new one and gave it the processors of the mask
pub divided : (parts number : ℕ) (mask : List Bool) (v x : View) (found : ℕ) → ((p : ℕ) → get_or mask p false ≡ is_in number p) → CountedUp v found x → SplitShare parts number v (rest_without parts mask x)
divided parts number mask v x found is t = let w : View = rest_without parts mask x in let e : Step (List Event) = count_up ends_word t.before in let less : v.member.ends + 1 - 1 ≡ v.member.ends = omega arith in
    let y : View = rest_without parts mask (after (record v { member = valid.with_split v.member }) t.past e) in let goes : w ≡ y = ap (rest_without parts mask) t.same in record {
      serves = λ p below. parted_and x.own.serves mask p
          ∙ (ap (λ (z : List Bool). get_or z p false && not (get_or mask p false)) (ap (λ (z : View). z.own.serves) t.same) ∙ ap (λ (b : Bool). get_or v.own.serves p false && not b) (is p));
      found = t.before;
      acts = acts_kept v w (with_split parts v w) t.past e t.follows t.newest (subst (λ (z : List Event). Sees v z) (sym (ap (λ (z : View). z.seen.object) t.same)) t.sees) (ap (λ (z : View). z.first) t.same) (ap (λ (z : View). z.steps) t.same) (ap (λ (z : View). z.course) t.same) (ap (λ (z : View). z.seen) t.same)
          (ap (λ (z : View). z.own.made) t.same)
          (goes ∙ ((λ i. record y { member = record y.member { ends = less i } }) ∙ sym (ap (λ (z : View). seen_as (with_split parts v z) z) goes)));
    }

pub born : (parts number : ℕ) (mask : List Bool) (x : View) → ((p : ℕ) → get_or mask p false ≡ is_in number p) → IsNewEndWith parts number (rest_without parts mask x) (newborn_with parts mask x)
born parts number mask x is = record { serves = λ p below. is p; same = refl }

-- the same two, of a split in which nobody says how many parts are given
pub divided_so : (number : ℕ) (mask : List Bool) (v x : View) (found : ℕ) → ((p : ℕ) → get_or mask p false ≡ is_in number p) → CountedUp v found x → SplitBy number v (rest_of mask x)
divided_so number mask v x found is t = subst (λ (s : ℕ). SplitShare (given s) number v (rest_of mask x)) (ap (λ (z : View). z.member.share) t.same) (divided (given x.member.share) number mask v x found is t)

pub born_so : (number : ℕ) (mask : List Bool) (v x : View) (found : ℕ) → ((p : ℕ) → get_or mask p false ≡ is_in number p) → CountedUp v found x → IsNewEnd number v (rest_of mask x) (newborn mask x)
born_so number mask v x found is t = subst (λ (s : ℕ). IsNewEndWith (given s) number (rest_of mask x) (newborn mask x)) (ap (λ (z : View). z.member.share) t.same) (born (given x.member.share) number mask x is)

-- what both saw, without their share
sees_together : (v u w : View) (found : ℕ) → CountedDown (both v u) found w → Sees (together v u) w.seen.object
sees_together v u w found t = let s = t.sees in subst (λ (z : List Event). Sees (together v u) z) (sym (ap (λ (z : View). z.seen.object) t.same)) record {
  allowed = s.allowed;
  lawful = s.lawful;
  seen = record { schedule = s.seen.schedule; grows = s.seen.grows };
  done = s.done;
  steady = λ up x low may. s.steady up x low may;
  newest = λ whole up. absurd (cc);
  undoubled = s.undoubled;
  words = s.words;
  shows = s.shows;
}

pub took_in : (v u w : View) (found : ℕ) → v.member.ends ≡ 1 → u.member.ends ≡ 1 → length u.own.held ≡ length v.own.held → length u.own.serves ≡ length v.own.serves → CountedDown (both v u) found w → JoinedBy v u w
took_in v u w found one one' held serves t =
    let less : v.member.ends + u.member.ends - 1 ≡ 1 = omega arith in let e : Step (List Event) = count_down ends_word t.before in let y : View = after (record (both v u) { member = valid.with_join (both v u).member }) t.past e in
    let a = or_parts (v.own.doubled || u.own.doubled || any_both v.own.held u.own.held) (any_both v.own.serves u.own.serves) t.sees.undoubled in
    let b = or_parts (v.own.doubled || u.own.doubled) (any_both v.own.held u.own.held) a.0 in
    let later : Begins (both v u).course w.course = begins_trans (both v u).course t.past w.course t.follows (subst (Begins t.past) (sym (ap (λ (z : View). z.course) t.same)) (e ∷ [], refl)) in
    let before : Begins (both v u).joined w.course = begins_trans (both v u).joined t.past w.course t.joined (subst (Begins t.past) (sym (ap (λ (z : View). z.course) t.same)) (e ∷ [], refl)) in
    let seen = one_seen (nat_lt (length v.course) (length u.course)) v.course u.course w.course later before in record {
      apart = both_low v.own.held u.own.held b.1;
      alone = both_low v.own.serves u.own.serves a.1;
      held = λ e. ap (λ (z : View). get_or z.own.held e false) t.same ∙ either_or v.own.held u.own.held e held;
      serves = λ p. ap (λ (z : View). get_or z.own.serves p false) t.same ∙ either_or v.own.serves u.own.serves p serves;
      found = t.before;
      acts = acts_kept (together v u) w (with_join v u) t.past e t.follows (λ whole. absurd (omega arith)) (sees_together v u w found t) (ap (λ (z : View). z.first) t.same) (ap (λ (z : View). z.steps) t.same) (ap (λ (z : View). z.course) t.same) (ap (λ (z : View). z.seen) t.same) (ap (λ (z : View). z.own.made) t.same)
          (t.same ∙ ((λ i. record y { member = record y.member { ends = less i } }) ∙ sym (ap (seen_as (with_join v u)) t.same)));
      one = seen.0;
      other = seen.1;
      one_object = t.one_object;
    }
