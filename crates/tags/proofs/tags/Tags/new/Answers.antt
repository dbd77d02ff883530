use Rattle.tags.proofs.Common.{rules, ◌≡◌, ◌∙◌, ap, length, sym, arith, length-range_with_len, view_of, View, all_tags}
use Rattle.tags.proofs.Filling.{HeadSays, TailSays, may_fill, never_refused, new_raised, put_count, put_holding, put_lines, put_none, put_whole}
use Rattle.tags.proofs.tags.Tags.new.Goals as goal

pub try_put_as-requires : goal.try_put_as-requires
try_put_as-requires g c =
    let all : c.as_slice.result.now ≡ all_tags c.args.count = c.as_slice.ensures.value ∙ c.all_tags-tags.ensures in
    let h = may_fill _ (view_of c.in_ok-queue.end) c.in_ok-queue.ensures.2 c.as_slice.result.now all in (search rules, (search rules, (search rules, h)))

pub unreachable-requires : goal.unreachable-requires
unreachable-requires g c =
    let v : View = view_of c.in_ok-queue.end in let w : View = view_of c.try_put_as.new.end in let new = c.in_ok-queue.ensures.2 in
    let x = c.lists_are_true.ensures.end g.row.N c.in_ok-queue.end in let y = c.lists_are_true.ensures.end g.row.N c.try_put_as.new.end in
    let head : HeadSays = λ e is real. (c.numbers_say.ensures.head e is real).0 in let tail : TailSays = c.numbers_say.ensures.tail in
    let all : c.as_slice.result.now ≡ all_tags c.args.count = c.as_slice.ensures.value ∙ c.all_tags-tags.ensures in
    let long : length c.as_slice.result.now ≡ c.args.count = ap length all ∙ length-range_with_len 0 c.args.count in
    let some_tag = c.requires.0 in let fits = c.requires.1 in let few = c.requires.2 in
    never_refused _ v w new x y head tail g.row.N (length c.as_slice.result.now) (omega arith) (omega arith) (omega arith) c.in_default.field-0 c.in_default.ensures.trace

pub invariant_of-result : goal.invariant_of-result
invariant_of-result g c =
    let v : View = view_of c.in_ok-queue.end in let w : View = view_of c.try_put_as.new.end in let new = c.in_ok-queue.ensures.2 in
    let x = c.lists_are_true.ensures.end g.row.N c.in_ok-queue.end in let y = c.lists_are_true.ensures.end g.row.N c.try_put_as.new.end in
    let head : HeadSays = λ e is real. (c.numbers_say.ensures.head e is real).0 in let tail : TailSays = c.numbers_say.ensures.tail in
    let all : c.as_slice.result.now ≡ all_tags c.args.count = c.as_slice.ensures.value ∙ c.all_tags-tags.ensures in
    let put = c.in-Ok.ensures.trace in
    record {
      holds = put_holding _ v w new x y head tail g.row.N c.in-Ok.field-0 c.as_slice.result.now all put
          (c.ends_list_queues.ensures.only g.row.N c.try_put_as.new.end (put_whole _ v w new x y head tail g.row.N c.in-Ok.field-0 c.as_slice.result.now all put))
          (c.lists_are_true.ensures.since g.row.N c.in_ok-queue.end c.try_put_as.new.end) c.lists_are_true.ensures.grows
          (c.try_put_as.ensures.raised (new_raised _ v new));
    }

pub returns-clause-pool : goal.returns-clause-pool
returns-clause-pool g c =
    let v : View = view_of c.in_ok-queue.end in let w : View = view_of c.try_put_as.new.end in let new = c.in_ok-queue.ensures.2 in
    let x = c.lists_are_true.ensures.end g.row.N c.in_ok-queue.end in let y = c.lists_are_true.ensures.end g.row.N c.try_put_as.new.end in
    let head : HeadSays = λ e is real. (c.numbers_say.ensures.head e is real).0 in let tail : TailSays = c.numbers_say.ensures.tail in
    let all : c.as_slice.result.now ≡ all_tags c.args.count = c.as_slice.ensures.value ∙ c.all_tags-tags.ensures in
    let put = c.in-Ok.ensures.trace in
    ((c.in-Ok.ensures.handle.0 ∙ c.in_ok-queue.ensures.0, put_count _ v w new x y head tail g.row.N c.in-Ok.field-0 c.as_slice.result.now all put ∙ sym c.in_ok-queue.ensures.1), c.in_ok-queue.ensures.1)

pub returns-clause-holder : goal.returns-clause-holder
returns-clause-holder g c =
    let v : View = view_of c.in_ok-queue.end in let w : View = view_of c.try_put_as.new.end in let new = c.in_ok-queue.ensures.2 in
    let x = c.lists_are_true.ensures.end g.row.N c.in_ok-queue.end in let y = c.lists_are_true.ensures.end g.row.N c.try_put_as.new.end in
    let head : HeadSays = λ e is real. (c.numbers_say.ensures.head e is real).0 in let tail : TailSays = c.numbers_say.ensures.tail in
    let all : c.as_slice.result.now ≡ all_tags c.args.count = c.as_slice.ensures.value ∙ c.all_tags-tags.ensures in
    let put = c.in-Ok.ensures.trace in
    (put_whole _ v w new x y head tail g.row.N c.in-Ok.field-0 c.as_slice.result.now all put, put_none _ v w new x y head tail g.row.N c.in-Ok.field-0 c.as_slice.result.now all put)

pub returns-clause-effect : goal.returns-clause-effect
returns-clause-effect g c =
    let v : View = view_of c.in_ok-queue.end in let w : View = view_of c.try_put_as.new.end in let new = c.in_ok-queue.ensures.2 in
    let x = c.lists_are_true.ensures.end g.row.N c.in_ok-queue.end in let y = c.lists_are_true.ensures.end g.row.N c.try_put_as.new.end in
    let head : HeadSays = λ e is real. (c.numbers_say.ensures.head e is real).0 in let tail : TailSays = c.numbers_say.ensures.tail in
    let all : c.as_slice.result.now ≡ all_tags c.args.count = c.as_slice.ensures.value ∙ c.all_tags-tags.ensures in
    let put = c.in-Ok.ensures.trace in
    put_lines _ v w new x y head tail g.row.N c.in-Ok.field-0 c.as_slice.result.now all put
