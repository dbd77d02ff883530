-- The reports of the calls that split, join and close, by the steps that they are made of.
use Rattle.table_theory.proofs.Common.{◌≡◌, ◌≢◌, ℕ, ◌+◌, ◌-◌, ◌≤◌, Bool, true, false, List, [], ◌++◌, sym, refl, ap, ◌∙◌, subst, arith, if◌then◌else◌, nat_lt, EndState, Begins, given, Step, Performed, CountedUp, CountedDown, JoinedBy, Tallied, rest_of, rest_without, newborn, newborn_with, both, Part}
use Rattle.std.specs.Prelude.{length}
use Rattle.table_theory.specs.Ledgers.{SplitBy, SplitShare, IsNewEnd, IsNewEndWith, WereOpen}
use Rattle.table_theory.proofs.Reaching.{adds_none, adds_after}

-- both begin what was seen then
pub one_seen : {E : Type 0} (b : Bool) (x y all : List E) → Begins (if b then y else x) all → Begins (if b then x else y) all → Begins x all × Begins y all
one_seen true x y all p q = (q, p)
one_seen false x y all p q = (p, q)

module _ {K O : Type 0} where
  -- no step yet, and steps after others
  pub made_none : (v : (EndState K O)) → Performed v [] v.own v
  made_none v = record { adds = adds_none v; did = refl; member = refl }

  pub made_on : (v u w : (EndState K O)) (xs ys : List (Step O)) (one own : K) → Performed v xs one u → Performed u ys own w → Performed v (xs ++ ys) own w
  made_on v u w xs ys one own a b = record { adds = adds_after v u w xs ys (ap (λ (z : Part). z.share) a.member) a.adds b.adds; did = b.did; member = b.member ∙ a.member }

  -- and what the end did after these steps is made of what it had done
  pub made_then : (v u w : (EndState K O)) (xs ys : List (Step O)) (one : K) (f : K → K) → Performed v xs one u → Performed u ys (f u.own) w → Performed v (xs ++ ys) (f one) w
  made_then v u w xs ys one f a b = record { adds = adds_after v u w xs ys (ap (λ (z : Part). z.share) a.member) a.adds b.adds; did = b.did ∙ ap f a.did; member = b.member ∙ a.member }

module _ {K O : Type 0} (nothing : K) (plus : K → K → K) (word : ℕ) where
  divided : (parts : ℕ) (v u : (EndState K O)) → CountedUp word v u → SplitShare word parts v (rest_without parts u)
  divided parts v u c = record {
    found = c.found;
    adds = record { first = c.adds.first; entries_are = c.adds.entries_are; since = c.adds.since; course_is = c.adds.course_is; own = c.adds.own; alone = c.adds.alone };
    own = c.own;
    member = (λ i. record (c.member i) { ends = (c.member i).ends - 1; share = (c.member i).share - parts; unlisted = (c.member i).unlisted + 1 }) ∙ (λ i. record v.member { ends = less i; share = v.member.share - parts; splits = v.member.splits + 1; unlisted = v.member.unlisted + 1 });
  }
    where
      less : v.member.ends + 1 - 1 ≡ v.member.ends
      less = omega arith

  born : (v u : (EndState K O)) → CountedUp word v u → IsNewEnd nothing v (rest_of u) (newborn nothing u)
  born v u c = λ i. record (newborn nothing u) { member = record { ends = 1; share = given (c.member i).share; splits = 0; joins = 0; unlisted = 0 } }

  -- the two ends of a split, as they are given back
  pub split_views : {A : Type 0} (v u : (EndState K O)) (one other : (EndState K O) × A) (a b : A) → CountedUp word v u → one ≡ (rest_of u, a) → other ≡ (newborn nothing u, b) → SplitBy word v one.0 × IsNewEnd nothing v one.0 other.0
  split_views v u one other a b c e e' = (subst (λ z. SplitBy word v z.0) (sym e) (subst (λ (s : ℕ). SplitShare word (given s) v (rest_of u)) (ap (λ (z : Part). z.share) c.member) (divided (given u.member.share) v u c)), subst (λ z. IsNewEnd nothing v z.0 other.0) (sym e) (subst (λ z. IsNewEnd nothing v (rest_of u) z.0) (sym e') (born v u c)))

  -- the same, of a split that gives so many parts
  pub share_views : {A : Type 0} (parts : ℕ) (v u : (EndState K O)) (one other : (EndState K O) × A) (a b : A) → CountedUp word v u → one ≡ (rest_without parts u, a) → other ≡ (newborn_with parts nothing u, b)
      → SplitShare word parts v one.0 × IsNewEndWith parts nothing one.0 other.0
  share_views parts v u one other a b c e e' = (subst (λ z. SplitShare word parts v z.0) (sym e) (divided parts v u c), subst (λ z. IsNewEndWith parts nothing z.0 other.0) (sym e) (ap (λ z. z.0) e'))

  -- an end that took in another can count one end less
  pub two_ends : (v u b : (EndState K O)) → v.member.ends ≡ 1 → u.member.ends ≡ 1 → b ≡ both plus v u → 2 ≤ b.member.ends
  two_ends v u b one one' is = let e : b.member.ends ≡ v.member.ends + u.member.ends = ap (λ (z : EndState K O). z.member.ends) is in omega arith

  -- an end that took in another, and then was counted down
  pub took_in : (v u b w : (EndState K O)) → v.member.ends ≡ 1 → u.member.ends ≡ 1 → b ≡ both plus v u → CountedDown word b w → JoinedBy plus word v u w
  took_in v u b w one one' is c = let d : CountedDown word (both plus v u) w = subst (λ (z : (EndState K O)). CountedDown word z w) is c in
      let seen = one_seen (nat_lt (length v.course) (length u.course)) v.course u.course w.course (d.adds.since, sym d.adds.course_is) d.joined in record {
        found = d.found;
        adds = d.adds;
        own = d.own;
        member = d.member ∙ (λ i. record (both plus v u).member { ends = less i; joins = v.member.joins + u.member.joins + 1 });
        one = seen.0;
        other = seen.1;
        one_object = d.one_object;
      }
    where
      less : v.member.ends + u.member.ends - 1 ≡ 1
      less = omega arith

  pub were_open : (v w : (EndState K O)) (number : ℕ) → Tallied word v number w → number ≢ 1 → WereOpen word v (number - 1) w
  were_open v w number t ne = let some_end = t.count.some_end in let e : number ≡ number - 1 + 1 = omega arith in record {
    tallied = subst (λ (z : ℕ). Tallied word v z w) e t;
    some_other = omega arith;
    not_whole = λ whole. ne (t.count.whole whole);
  }
