-- How a split and a join of hands change what the hands know.
use Rattle.std.specs.Prelude.{◌≡◌, ◌+◌, ◌-◌, ◌<◌, ◌&&◌, ◌||◌, ℕ, not, false, [], ◌∷◌, None}
use Rattle.table_theory.specs.Ends.{Begins}
use Rattle.table_theory.specs.Ledgers as ends
use Rattle.table_theory.specs.Sharing.{given}
use Rattle.thread_table.specs.declared.layout.TheConstants.{PROCESSORS}
use Rattle.thread_table.specs.Own.{View}
use Rattle.thread_table.specs.Layout.{ends_word}
use Rattle.thread_table.specs.Schedules.{Past}
use Rattle.thread_table.specs.Rules.{has, serves, serving}
use Rattle.thread_table.specs.Steps.{both}
use Rattle.thread_table.specs.Entries.{PerformsEvents}
use Rattle.thread_table.specs.Answers.{is_in}

-- the hand serves what w serves, has one more split and one more load that no list has, and keeps all but so many parts
abbrev pub with_split : ℕ → View → View → View
with_split parts v w = record v {
  own = record v.own { serves = w.own.serves; counted = None };
  member = record v.member {
    share = v.member.share - parts;
    splits = v.member.splits + 1;
    unlisted = v.member.unlisted + 1;
  };
}

-- The number of hands was found and made one more. The hand gave away so many parts of its share and the processors of
-- the mask. Nothing else changed except the counts in `with_split`.
pub record SplitShare (parts mask : ℕ) (v w : View) : Type 0 where
  pub serves : (p : ℕ) → p < PROCESSORS → serves w p ≡ (serves v p && not (is_in mask p))
  pub found : Past
  pub acts : PerformsEvents v (ends.count_up ends_word found ∷ []) (with_split parts v w) w

-- the new hand has only the processors of the mask and so many parts, and has seen what the other hand had seen
pub record IsNewEndWith (parts mask : ℕ) (new born : View) : Type 0 where
  pub serves : (p : ℕ) → p < PROCESSORS → serves born p ≡ is_in mask p
  pub same : ends.IsNewEndWith parts (serving new.own.first born.own.serves) new born

-- the same two, if nobody says how many parts are given
abbrev pub SplitBy : ℕ → View → View → Type 0
SplitBy mask v w = SplitShare (given v.member.share) mask v w

abbrev pub IsNewEnd : ℕ → View → View → View → Type 0
IsNewEnd mask old new born = IsNewEndWith (given old.member.share) mask new born

-- the view of what both hands have, before one of them has the share of both: the step of the join, which is on no
-- word, comes between this and the hand's next step
abbrev pub together : View → View → View
together v u = record (both v u) { member = record (both v u).member { share = 0 } }

-- the hand that took in the other counts as one hand, has one more join, and has the share of both
abbrev pub with_join : View → View → View
with_join v u = record (both v u) {
  member = record (both v u).member { ends = 1; joins = v.member.joins + u.member.joins + 1 };
}

-- Both hands were of one table, and had no element and no processor in common. The hand has what both had, and has seen
-- what both had seen. Then the number of hands was found and made one less.
pub record JoinedBy (v u w : View) : Type 0 where
  pub apart : (e : ℕ) → (has v e && has u e) ≡ false
  pub alone : (p : ℕ) → (serves v p && serves u p) ≡ false
  pub held : (e : ℕ) → has w e ≡ (has v e || has u e)
  pub serves : (p : ℕ) → serves w p ≡ (serves v p || serves u p)
  pub found : Past
  pub acts : PerformsEvents (together v u) (ends.count_down ends_word found ∷ []) (with_join v u) w
  pub one : Begins v.course w.course
  pub other : Begins u.course w.course
  pub one_object : u.first ≡ v.first
