use Rattle.pool.proofs.Common.{◌≡◌, ◌∙◌, ℕ, List, ap, refl, subst, length, arith, length-range_with_len, view_of, View, IsPut, RefusedPut}
use Rattle.pool.proofs.Filling.{HeadSays, at_most_twice, filled, never_refused, power_fits}
use Rattle.pool.proofs.Permits.{may_stock}
use Rattle.pool.proofs.pool.Pool.new.Goals as goal

pub new_as-requires : goal.new_as-requires
new_as-requires c =
    let p = c.next_power_of_two.ensures in let some = c.requires.0 in
    (omega arith, power_fits c.args.count c.next_power_of_two.result p.power.0 c.requires.1 p.power.1 p.upper_bound, ∣ p.power ∣₁)

pub unreachable-requires : goal.unreachable-requires
unreachable-requires c =
    let v : View = view_of c.in_ok-queue.end in let w : View = view_of c.try_put_as.new.end in
    let says : HeadSays = λ e is real. (c.numbers_say.ensures.head e is real).0 in
    let items = c.as_slice.ensures.value ∙ c.in_ok-buffers.ensures in
    let long : length c.as_slice.result.now ≡ c.args.count = ap length items ∙ length-range_with_len 0 c.args.count in
    let room = c.in_ok-queue.ensures.1 in let low = c.next_power_of_two.ensures.lower_bound in
    never_refused _ v w c.in_ok-queue.ensures.2 (c.lists_are_true.ensures.end c.in_ok-queue.end) (c.lists_are_true.ensures.end c.try_put_as.new.end) says _ c.args.count (omega arith) c.requires.1 c.in_default.field-0 c.requires.0
    (subst (λ (z : ℕ). RefusedPut c.in_ok-queue.queue.room v z c.in_default.field-0 w) long c.in_default.ensures.trace)

pub invariant_of-result-2 : goal.invariant_of-result-2
invariant_of-result-2 c =
    let v : View = view_of c.in_ok-queue.end in let w : View = view_of c.try_put_as.new.end in
    let says : HeadSays = λ e is real. (c.numbers_say.ensures.head e is real).0 in
    let room = c.in_ok-queue.ensures.1 in let low = c.next_power_of_two.ensures.lower_bound in
    let put = subst (λ (z : List ℕ). IsPut c.in_ok-queue.queue.room v c.in-Ok.field-0 z w) (c.as_slice.ensures.value ∙ c.in_ok-buffers.ensures) c.in-Ok.ensures.trace in
    record { fair = (filled _ v w c.in_ok-queue.ensures.2 (c.lists_are_true.ensures.end c.in_ok-queue.end) (c.lists_are_true.ensures.end c.try_put_as.new.end) says _ c.args.count (omega arith) c.requires.1 c.in-Ok.field-0 put).fair }

pub returns-clause-pool : goal.returns-clause-pool
returns-clause-pool c =
    let v : View = view_of c.in_ok-queue.end in let w : View = view_of c.try_put_as.new.end in
    let says : HeadSays = λ e is real. (c.numbers_say.ensures.head e is real).0 in
    let room = c.in_ok-queue.ensures.1 in let low = c.next_power_of_two.ensures.lower_bound in
    let put = subst (λ (z : List ℕ). IsPut c.in_ok-queue.queue.room v c.in-Ok.field-0 z w) (c.as_slice.ensures.value ∙ c.in_ok-buffers.ensures) c.in-Ok.ensures.trace in
    let f = filled _ v w c.in_ok-queue.ensures.2 (c.lists_are_true.ensures.end c.in_ok-queue.end) (c.lists_are_true.ensures.end c.try_put_as.new.end) says _ c.args.count (omega arith) c.requires.1 c.in-Ok.field-0 put in
    let up = c.next_power_of_two.ensures in (
      (c.in-Ok.ensures.handle.0 ∙ c.in_ok-queue.ensures.0, f.stocked, f.lists),
      refl,
      (
        omega arith,
        at_most_twice c.args.count c.next_power_of_two.result c.in_ok-queue.queue.room c.requires.0 room
            up.upper_bound,
      ),
    )

pub returns-clause-stock : goal.returns-clause-stock
returns-clause-stock c =
    let v : View = view_of c.in_ok-queue.end in let w : View = view_of c.try_put_as.new.end in
    let says : HeadSays = λ e is real. (c.numbers_say.ensures.head e is real).0 in
    let room = c.in_ok-queue.ensures.1 in let low = c.next_power_of_two.ensures.lower_bound in
    let put = subst (λ (z : List ℕ). IsPut c.in_ok-queue.queue.room v c.in-Ok.field-0 z w)
    (c.as_slice.ensures.value ∙ c.in_ok-buffers.ensures) c.in-Ok.ensures.trace in
    let first = c.lists_are_true.ensures.end c.in_ok-queue.end in
    let last = c.lists_are_true.ensures.end c.try_put_as.new.end in
    (filled _ v w c.in_ok-queue.ensures.2 first last says _ c.args.count (omega arith) c.requires.1
    c.in-Ok.field-0 put).lines

pub returns-clause-holder : goal.returns-clause-holder
returns-clause-holder c =
    let v : View = view_of c.in_ok-queue.end in let w : View = view_of c.try_put_as.new.end in
    let says : HeadSays = λ e is real. (c.numbers_say.ensures.head e is real).0 in
    let room = c.in_ok-queue.ensures.1 in let low = c.next_power_of_two.ensures.lower_bound in
    let put = subst (λ (z : List ℕ). IsPut c.in_ok-queue.queue.room v c.in-Ok.field-0 z w) (c.as_slice.ensures.value ∙ c.in_ok-buffers.ensures) c.in-Ok.ensures.trace in
    let f = filled _ v w c.in_ok-queue.ensures.2 (c.lists_are_true.ensures.end c.in_ok-queue.end) (c.lists_are_true.ensures.end c.try_put_as.new.end) says _ c.args.count (omega arith) c.requires.1 c.in-Ok.field-0 put in
    (f.whole, f.none)

pub try_put_as-requires-clause-protocol : goal.try_put_as-requires-clause-protocol
try_put_as-requires-clause-protocol c = may_stock _ c.args.count (view_of c.in_ok-queue.end) c.as_slice.result.now c.in_ok-queue.ensures.2 (c.as_slice.ensures.value ∙ c.in_ok-buffers.ensures)
