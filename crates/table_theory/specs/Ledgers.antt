-- The knowledge and the steps of the ends of any object: all ends' steps in one order, and the steps that make, split,
-- join and count ends.
use Rattle.std.specs.Prelude.{◌≡◌, ℕ, ◌+◌, ◌-◌, ◌<◌, nat_lt, if◌then◌else◌, List, [], ◌∷◌, ◌++◌, map, length}
use Rattle.std.specs.Prelude.{slice_index_or}
use Rattle.std.specs.List.{AllByRecursion}
use mathlib.Core.Option.{some}
use lib.ListN.{get_elem?}
use Rattle.table_theory.specs.declared.views.Entry.{Entry}
use Rattle.table_theory.specs.declared.views.AbsState.{AbsState}
use Rattle.table_theory.specs.declared.views.EndState.{EndState}
use Rattle.table_theory.specs.Courses.{Continues, IsCourse}
use Rattle.table_theory.specs.Ends.{Begins}
use Rattle.table_theory.specs.Filing.{entry_of}
use Rattle.table_theory.specs.Sharing.{IsWhole, the_whole, given, total, EndsCounted, IsCount}

-- one step of an end
abbrev pub Step : Type 0 → Type 0
Step O = Entry (AbsState O)

-- a step that found this number in this word, and changed nothing
abbrev pub load : {O : Type 0} → ℕ → ℕ → AbsState O → Step O
load word found m = record { word = word; found = found; then = m; next = m }

-- a step that found this number in this word, and replaced the object by this one
abbrev pub change : {O : Type 0} → ℕ → ℕ → AbsState O → O → Step O
change word found m object = record { word = word; found = found; then = m; next = record m { object = object } }

-- a step that found the number of ends in this word, and made it one more
abbrev pub count_up : {O : Type 0} → ℕ → AbsState O → Step O
count_up word m = record { word = word; found = m.ends; then = m; next = record m { ends = m.ends + 1 } }

-- a step that found the number of ends in this word, and made it one less
abbrev pub count_down : {O : Type 0} → ℕ → AbsState O → Step O
count_down word m = record { word = word; found = m.ends; then = m; next = record m { ends = m.ends - 1 } }

-- `all` has the end's own steps in order, each after any steps of others; it ends with the last own step, or is empty
abbrev pub IsSubsequence : {O : Type 0} → List (Step O) → List (Step O) → Type 0
IsSubsequence [] all = all ≡ []
IsSubsequence {O} (e ∷ own) all = (others : List (Step O)) × (rest : List (Step O)) × (all ≡ others ++ e ∷ rest)
    × IsSubsequence own rest

-- w has the steps of v and then these entries. In the order of all ends' steps, w has seen what v had seen, and then
-- `since`: these entries, each after steps of others, the last one last. If v has the whole, `since` is these entries
pub record ExtendsTrace {K O : Type 0} (v : EndState K O) (entries : List (Step O)) (w : EndState K O) : Type 0 where
  pub first : w.first ≡ v.first
  pub entries_are : w.steps ≡ v.steps ++ entries
  pub since : List (Step O)
  pub course_is : w.course ≡ v.course ++ since
  pub own : IsSubsequence entries since
  pub alone : IsWhole v.member.share → since ≡ entries

-- A table's description of its objects: the word of the number of ends, how words show an object, which objects are
-- lawful, and how one event changes an object
pub record ObjectModel (O : Type 0) : Type 1 where
  pub ends_word : ℕ
  pub Shows : O → List ℕ → Type 0
  pub IsLawful : O → Type 0
  pub Happens : O → O → Type 0

-- the effect of one step: none, one event of the object, or one end more or less
pub data StepEffect {O : Type 0} (subject : ObjectModel O) (m n : AbsState O) : Type 0 where
  stays : n ≡ m → StepEffect subject m n
  event : (object : O) → subject.Happens m.object object → n ≡ record m { object = object } → StepEffect subject m n
  more : n ≡ record m { ends = m.ends + 1 } → StepEffect subject m n
  fewer : n ≡ record m { ends = m.ends - 1 } → 0 < m.ends → StepEffect subject m n

-- The step found a lawful object; words that show it have the number of ends and the step's number; it had one effect
pub record IsValidStep {O : Type 0} (subject : ObjectModel O) (e : Step O) : Type 0 where
  pub lawful : subject.IsLawful e.then.object
  pub words : List ℕ
  pub shows : subject.Shows e.then.object words
  pub ends : slice_index_or words subject.ends_word 0 ≡ e.then.ends
  pub is : e.found ≡ slice_index_or words e.word 0
  pub effect : StepEffect subject e.then e.next

-- real steps, each of which found what the step before it left, lead from the moment m to the moment n
pub record Reaches {O : Type 0} (subject : ObjectModel O) (m n : AbsState O) : Type 0 where
  pub steps : List (Step O)
  pub leads : Continues m steps n
  pub real : AllByRecursion (IsValidStep subject) steps

-- Real steps lead from the moment m to each of these entries, in their order. The entries are real, and the last of
-- them leaves the moment n
abbrev pub Passes : {O : Type 0} → ObjectModel O → AbsState O → List (Step O) → AbsState O → Type 0
Passes subject m [] n = m ≡ n
Passes subject m (e ∷ entries) n = Reaches subject m e.then × IsValidStep subject e × Passes subject e.next entries n

-- an object with one end
abbrev pub opened : {O : Type 0} → O → AbsState O
opened object = record { ends = 1; object = object }

-- The steps that the end has seen are real, and lead from the object as it was made to what the end has seen. The end's
-- own steps are real
pub record IsValidView {K O : Type 0} (subject : ObjectModel O) (v : EndState K O) : Type 0 where
  pub leads : Continues (opened v.first) v.course v.seen
  pub real : AllByRecursion (IsValidStep subject) v.course
  pub own : AllByRecursion (IsValidStep subject) v.steps

-- the only end of a new object, which has done nothing
abbrev pub first_of : {K O : Type 0} → K → O → EndState K O
first_of nothing object = record {
  first = object;
  own = nothing;
  seen = opened object;
  member = record { ends = 1; share = the_whole; splits = 0; joins = 0; unlisted = 0 };
  steps = [];
  course = [];
  joined = [];
  joined_first = object;
}

-- The view v after a split that was counted and gave so many parts away: one end less, the rest of the share, and one
-- load more that is in no list
abbrev pub rest_without : {K O : Type 0} → ℕ → EndState K O → EndState K O
rest_without parts v = record v {
  member = record v.member {
    ends = v.member.ends - 1;
    share = v.member.share - parts;
    unlisted = v.member.unlisted + 1;
  };
}

-- the view of a new end that a split of v makes: it did nothing, has so many parts, and has seen what v has seen
abbrev pub newborn_with : {K O : Type 0} → ℕ → K → EndState K O → EndState K O
newborn_with parts nothing v = record v {
  own = nothing;
  member = record { ends = 1; share = parts; splits = 0; joins = 0; unlisted = 0 };
  steps = [];
}

-- both views after a split in which nobody says how many parts are given
abbrev pub rest_of : {K O : Type 0} → EndState K O → EndState K O
rest_of v = rest_without (given v.member.share) v

abbrev pub newborn : {K O : Type 0} → K → EndState K O → EndState K O
newborn nothing v = newborn_with (given v.member.share) nothing v

-- `other` if the end w has seen more than the end v, else `one`
abbrev pub by_later : {K O A : Type 0} → EndState K O → EndState K O → A → A → A
by_later v w one other = if nat_lt (length v.course) (length w.course) then other else one

-- the view of the end v after it took in w: it has what both had, and one load more that is in no list
abbrev pub both : {K O : Type 0} → (K → K → K) → EndState K O → EndState K O → EndState K O
both plus v w = record {
  first = v.first;
  own = plus v.own w.own;
  seen = by_later v w v.seen w.seen;
  member = record {
    ends = v.member.ends + w.member.ends;
    share = v.member.share + w.member.share;
    splits = v.member.splits + w.member.splits;
    joins = v.member.joins + w.member.joins;
    unlisted = v.member.unlisted + w.member.unlisted + 1;
  };
  steps = v.steps ++ w.steps;
  course = by_later v w v.course w.course;
  joined = by_later v w w.course v.course;
  joined_first = w.first;
}

-- the view of an end that the end v took in: it has no share, did nothing and lists no step
abbrev pub emptied : {K O : Type 0} → K → EndState K O → EndState K O
emptied nothing v = record v {
  own = nothing;
  member = record { ends = 0; share = 0; splits = 0; joins = 0; unlisted = 0 };
  steps = [];
}

-- the end added these entries, its record is now `own`, and its part among the ends is unchanged
pub record Performed {K O : Type 0} (v : EndState K O) (entries : List (Step O)) (own : K) (w : EndState K O)
    : Type 0 where
  pub adds : ExtendsTrace v entries w
  pub did : w.own ≡ own
  pub member : w.member ≡ v.member

-- the end made these steps, and did nothing but look; if it made none, its view is unchanged
abbrev pub OnlyLoads : {K O : Type 0} → EndState K O → List (Step O) → EndState K O → Type 0
OnlyLoads v [] w = w ≡ v
OnlyLoads v (step ∷ steps) w = Performed v (step ∷ steps) v.own w

-- the end found a number in a word, and nothing else changed for it
pub record Looked {K O : Type 0} (v : EndState K O) (word found : ℕ) (w : EndState K O) : Type 0 where
  pub at : AbsState O
  pub made : Performed v (load word found at ∷ []) v.own w
  pub seen : w.seen ≡ at

-- the end found the number of ends in this word and made it one more; its ends and its splits grow by one
pub record CountedUp {K O : Type 0} (word : ℕ) (v w : EndState K O) : Type 0 where
  pub found : AbsState O
  pub adds : ExtendsTrace v (count_up word found ∷ []) w
  pub own : w.own ≡ v.own
  pub member : w.member ≡ record v.member { ends = v.member.ends + 1; splits = v.member.splits + 1 }

-- the end found the number of ends in this word and made it one less; its joins grow by one, and it has seen `joined`
pub record CountedDown {K O : Type 0} (word : ℕ) (v w : EndState K O) : Type 0 where
  pub found : AbsState O
  pub adds : ExtendsTrace v (count_down word found ∷ []) w
  pub own : w.own ≡ v.own
  pub member : w.member ≡ record v.member { ends = v.member.ends - 1; joins = v.member.joins + 1 }
  pub joined : Begins v.joined w.course
  pub one_object : v.joined_first ≡ v.first

-- The end found the number of ends and made it one more, and gave so many parts of its share away. One more load, of the
-- first word, is counted but is in no list: by this load the new end gets what the end knows
pub record SplitShare {K O : Type 0} (word parts : ℕ) (v w : EndState K O) : Type 0 where
  pub found : AbsState O
  pub adds : ExtendsTrace v (count_up word found ∷ []) w
  pub own : w.own ≡ v.own
  pub member : w.member ≡ record v.member {
    share = v.member.share - parts;
    splits = v.member.splits + 1;
    unlisted = v.member.unlisted + 1;
  }

-- the same, if nobody says how many parts are given
abbrev pub SplitBy : {K O : Type 0} → ℕ → EndState K O → EndState K O → Type 0
SplitBy word v w = SplitShare word (given v.member.share) v w

-- the new end has only so many parts of the share, and has seen what the other end has seen
abbrev pub IsNewEndWith : {K O : Type 0} → ℕ → K → EndState K O → EndState K O → Type 0
IsNewEndWith parts nothing new born = born ≡ newborn_with parts nothing new

-- the same, if nobody says how many parts are given
abbrev pub IsNewEnd : {K O : Type 0} → K → EndState K O → EndState K O → EndState K O → Type 0
IsNewEnd nothing old new born = born ≡ newborn nothing (record new { member = old.member })

-- The end has what both ends had, and then it found the number of ends and made it one less. It has seen what both had
-- seen, of one object. One more load, of the first word, is counted but is in no list: by this load the end gets what
-- the other end knows
pub record JoinedBy {K O : Type 0} (plus : K → K → K) (word : ℕ) (v u w : EndState K O) : Type 0 where
  pub found : AbsState O
  pub adds : ExtendsTrace (both plus v u) (count_down word found ∷ []) w
  pub own : w.own ≡ plus v.own u.own
  pub member : w.member ≡ record (both plus v u).member { ends = 1; joins = v.member.joins + u.member.joins + 1 }
  pub one : Begins v.course w.course
  pub other : Begins u.course w.course
  pub one_object : u.first ≡ v.first

-- The end found the number of ends, which is 1 exactly if this end has the whole. An end that has the whole had already
-- seen the object as it is
pub record Tallied {K O : Type 0} (word : ℕ) (v : EndState K O) (number : ℕ) (w : EndState K O) : Type 0 where
  pub found : AbsState O
  pub made : Performed v (load word number found ∷ []) v.own w
  pub is : number ≡ found.ends
  pub count : IsCount v.member.share number
  pub still : IsWhole v.member.share → w.seen ≡ v.seen

-- the end found the number of ends, itself and `others`; other ends exist, and this end doesn't have the whole
pub record WereOpen {K O : Type 0} (word : ℕ) (v : EndState K O) (others : ℕ) (w : EndState K O) : Type 0 where
  pub tallied : Tallied word v (others + 1) w
  pub some_other : 0 < others
  pub not_whole : IsWhole v.member.share → ⊥

-- the end has nothing of its own, no split, no join and no step
pub record IsIdle {K O : Type 0} (nothing : K) (v : EndState K O) : Type 0 where
  pub own : v.own ≡ nothing
  pub splits : v.member.splits ≡ 0
  pub joins : v.member.joins ≡ 0
  pub steps : v.steps ≡ []

-- the number of ends that exist, by the counts and shares of the views, and by their splits and joins
pub record EndsStand {K O : Type 0} (nothing : K) (number : ℕ) (views : List (EndState K O)) : Type 0 where
  pub counted : EndsCounted (λ v. v.member.ends) (λ v. v.member.share) (IsIdle nothing) number views
  pub balanced : number + total (λ v. v.member.joins) views ≡ total (λ v. v.member.splits) views + 1

-- The ends' steps, all real, lead in one order from the first object to this moment, which has the number of ends. Each
-- end has seen a beginning of the order, with all its own steps, and the object as this beginning left it
pub record AreValidViews {K O : Type 0} (subject : ObjectModel O) (nothing : K) (first : O) (now : AbsState O)
    (views : List (EndState K O)) : Type 0 where
  pub ends : EndsStand nothing now.ends views
  pub course : IsCourse (λ v. v.steps) (λ v. v.course) (opened first) now views
  pub real : AllByRecursion (IsValidStep subject) (map entry_of course.course)
  pub first_is : (j : ℕ) (v : EndState K O) → get_elem? views j ≡ some v → v.first ≡ first
  pub seen : (j : ℕ) (v : EndState K O) → get_elem? views j ≡ some v → Continues (opened first) v.course v.seen
  pub joined : (j : ℕ) (v : EndState K O) → get_elem? views j ≡ some v → Begins v.joined (map entry_of course.course)
  pub joined_first : (j : ℕ) (v : EndState K O) → get_elem? views j ≡ some v → v.joined_first ≡ first

-- The words show the object, which is lawful, and have the number of ends that exist. The ends' steps lead from the
-- first object to this one
pub record TableInv {K O : Type 0} (subject : ObjectModel O) (nothing : K) (first : O) (now : AbsState O)
    (words : List ℕ) (views : List (EndState K O)) : Type 0 where
  pub lawful : subject.IsLawful now.object
  pub shows : subject.Shows now.object words
  pub number : slice_index_or words subject.ends_word 0 ≡ now.ends
  pub true_ends : AreValidViews subject nothing first now views
