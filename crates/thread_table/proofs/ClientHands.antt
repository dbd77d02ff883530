-- What a split, a join and a close mean for their caller.
use Rattle.thread_table.proofs.Common.{◌≡◌, inl, ℕ, ◌+◌, ◌-◌, ◌≤◌, Bool, false, List, [], ◌∷◌, ◌++◌, ◌∙◌, refl, sym, ap, arith, length, length-append, get_or, Option, Some, None, append-nil, Step, View, Place, SplitBy, SplitShare, IsNewEnd, IsNewEndWith, JoinedBy, ClosedNow, count_up, count_down, ends_word}
use Rattle.std.specs.Option.{option_or}
use Rattle.table_theory.specs.Ledgers as ends
use Rattle.table_theory.proofs.Counting.{given_kept}
use Rattle.table_theory.specs.Sharing.{given, kept}
use Rattle.thread_table.specs.Closings.{WereOpen}
use Rattle.thread_table.specs.Rules.{serving}
use Rattle.thread_table.proofs.Clients.{look_effect}
use Rattle.thread_table.proofs.ClientBounds.{bound_by}
use Rattle.thread_table.proofs.Lists.Copies.{get_or-copies}
use Rattle.thread_table.proofs.Lists.Entries.{or_else, get_or-either_on}
use Rattle.thread_table.specs.Client.{events_of, MadeNothing, OnlySteps, DidSplit, KeepsElements, PartsShare, HasBoth, AddsShare, ReportsElements}
use Rattle.table_theory.specs.Moments.{WhyNotClosed}
use Rattle.thread_table.specs.Keeping.{Keeps}
use Rattle.thread_table.proofs.Hands.Unchanged.{stays_by}

-- SPLITS

nothing_held : (first e : ℕ) (mask : List Bool) → get_or (serving first mask).held e false ≡ false
nothing_held first e mask = get_or-copies 64 false e

nothing_on : (first p : ℕ) (mask : List Bool) → get_or (serving first mask).on p None ≡ None
nothing_on first p mask = get_or-copies 8 None p

module _ (parts mask : ℕ) (v w b : View) (s : SplitShare parts mask v w) (n : IsNewEndWith parts mask w b) where
  pub split_effect : DidSplit mask v w b
  split_effect = let held = ap (λ (z : View). z.own.held) n.same in let on = ap (λ (z : View). z.own.on) n.same in record {
    gave = λ p low. (s.serves p low, n.serves p low);
    nothing = record {
      holds = λ e low. ap (λ (l : List Bool). get_or l e false) held ∙ nothing_held w.own.first e b.own.serves;
      runs = λ p low. ap (λ (l : List (Option ℕ)). get_or l p None) on ∙ nothing_on w.own.first p b.own.serves;
      made = ap (λ (z : View). z.own.made) n.same;
    };
    knows = ap (λ (z : View). z.seen.object) n.same;
    first = ap (λ (z : View). z.own.first) n.same ∙ ap (λ (z : View). z.own.first) s.acts.has;
    made = (
      ap events_of s.acts.has ∙ sym (append-nil (events_of v)),
      record { steps = count_up ends_word s.found ∷ []; adds = s.acts.adds; are = inl (refl, refl) },
    );
  }

  pub split_frame : KeepsElements v w
  split_frame = record {
    held = ap (λ (z : View). z.own.held) s.acts.has;
    on = ap (λ (z : View). z.own.on) s.acts.has;
    made = ap (λ (z : View). z.own.made) s.acts.has;
    first = ap (λ (z : View). z.own.first) s.acts.has;
  }

  pub split_owns : parts ≤ v.member.share → (b.member.share ≡ parts) × (w.member.share + parts ≡ v.member.share)
  split_owns few = let gets = ap (λ (z : View). z.member.share) n.same in let keeps = ap (λ (z : View). z.member.share) s.acts.has in (gets, omega (arith, keeps, few))

  pub split_bound : (length w.steps ≤ length v.steps + 1) × (b.steps ≡ [])
  split_bound = (
    (let is = ap (λ (z : List Step). length z) s.acts.adds.entries_are ∙ length-append v.steps (count_up ends_word s.found ∷ []) in omega (arith, is)),
    ap (λ (z : View). z.steps) n.same,
  )

pub split_parts : (mask : ℕ) (v w b : View) → SplitBy mask v w → IsNewEnd mask v w b → PartsShare v w b
split_parts mask v w b s n = let all = given_kept v.member.share in let x = split_owns (given v.member.share) mask v w b s n (omega arith) in let gets = x.0 in let sum = x.1 in (gets, omega arith)

-- JOINS

or_same : (x y : Option ℕ) → or_else x y ≡ option_or x y
or_same None y = refl
or_same (Some x) y = refl

module _ (v u w : View) (j : JoinedBy v u w) where
  pub join_effect : length u.own.on ≡ length v.own.on → HasBoth v u w
  join_effect long = record {
    holds = j.held;
    serves = j.serves;
    runs = λ p. ap (λ (z : View). get_or z.own.on p None) j.acts.has ∙ (get_or-either_on v.own.on u.own.on p long ∙ or_same (get_or v.own.on p None) (get_or u.own.on p None));
    made = ap (λ (z : View). z.own.made) j.acts.has;
    knows = (j.one, j.other);
  }

  pub join_frame : w.own.first ≡ v.own.first
  join_frame = ap (λ (z : View). z.own.first) j.acts.has

  pub join_owns : AddsShare v u w
  join_owns = record { apart = j.apart; alone = j.alone; share = ap (λ (z : View). z.member.share) j.acts.has }

  pub join_bound : length w.steps ≤ length v.steps + length u.steps + 1
  join_bound = let is = ap (λ (z : List Step). length z) j.acts.adds.entries_are ∙ length-append (v.steps ++ u.steps) (count_down ends_word j.found ∷ []) in
      let both = length-append v.steps u.steps in omega (arith, is, both)

-- CLOSING

pub open_effect : (others : ℕ) (v w : View) → WereOpen v others w → MadeNothing v w
open_effect others v w o = look_effect v w _ o.acts (refl, tt)

pub open_frame : (others : ℕ) (v w : View) → WereOpen v others w → Keeps v w
open_frame others v w o = (stays_by v w _ o.acts).keeps

pub open_error : (others : ℕ) (v w : View) → WereOpen v others w → WhyNotClosed others v w
open_error others v w o = record {
  before = [];
  step = ends.load ends_word (others + 1) o.past;
  after = [];
  adds = o.acts.adds;
  number = sym o.number;
  some_other = o.some_other;
  not_whole = o.not_whole;
}

pub open_bound : (others : ℕ) (v w : View) → WereOpen v others w → OnlySteps 1 v w
open_bound others v w o = bound_by 1 v w _ _ o.acts refl (omega arith)

pub close_result : (call : ℕ) (v : View) (all : List Place) (pcs pending : List ℕ) (stops : ℕ) → ClosedNow call v all pcs pending stops → ReportsElements call v all pcs pending stops
close_result call v all pcs pending stops c = record { place = c.places; steps = c.steps; signals = c.signals; stopped = c.stopped }
