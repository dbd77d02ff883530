use Rattle.pool.proofs.Common.{◌∙◌, view_of, View}
use Rattle.pool.proofs.Releasing.{HeadsRise, release_fair, release_lists, release_ok, release_stocked}
use Rattle.pool.proofs.Permits.{may_put}
use Rattle.pool.proofs.pool.Pool.release.Goals as goal

pub invariant_of-holder : goal.invariant_of-holder
invariant_of-holder c =
    let v : View = view_of c.args.holder.now.end in let w : View = view_of c.try_put_as.new.end in
    let rise : HeadsRise v w = λ before after e a is. (c.never_below.ensures.head c.args.holder.now.end c.try_put_as.new.end before after e a is).0 in
    record { fair = release_fair _ c.args.self.now.count v w c.args.buffers.now c.args.self.now.some c.requires.pool.1 rise c.try_put_as.result c.try_put_as.ensures.effect c.try_put_as.ensures.trace c.requires.holds c.args.holder.now.fair }

pub returns-in_err-try_put_as-clause-pool : goal.returns-in_err-try_put_as-clause-pool
returns-in_err-try_put_as-clause-pool c =
    let v : View = view_of c.args.holder.now.end in let w : View = view_of c.try_put_as.new.end in
    let rise : HeadsRise v w = λ before after e a is. (c.never_below.ensures.head c.args.holder.now.end c.try_put_as.new.end before after e a is).0 in (
      c.try_put_as.ensures.handle.0 ∙ c.requires.pool.0,
      release_stocked _ c.args.self.now.count v w c.args.buffers.now c.args.self.now.some c.requires.pool.1 rise c.try_put_as.result c.try_put_as.ensures.trace (c.lists_are_true.ensures.since c.args.holder.now.end c.try_put_as.new.end) c.lists_are_true.ensures.grows,
      release_lists _ c.args.self.now.count v w c.args.buffers.now c.args.self.now.some c.requires.pool.1 rise c.try_put_as.result c.try_put_as.ensures.trace c.requires.pool.2,
    )

pub returns-clause-pool : goal.returns-clause-pool
returns-clause-pool c =
    let v : View = view_of c.args.holder.now.end in let w : View = view_of c.try_put_as.new.end in
    let rise : HeadsRise v w = λ before after e a is. (c.never_below.ensures.head c.args.holder.now.end c.try_put_as.new.end before after e a is).0 in (
      c.try_put_as.ensures.handle.0 ∙ c.requires.pool.0,
      release_stocked _ c.args.self.now.count v w c.args.buffers.now c.args.self.now.some c.requires.pool.1 rise c.try_put_as.result c.try_put_as.ensures.trace (c.lists_are_true.ensures.since c.args.holder.now.end c.try_put_as.new.end) c.lists_are_true.ensures.grows,
      release_lists _ c.args.self.now.count v w c.args.buffers.now c.args.self.now.some c.requires.pool.1 rise c.try_put_as.result c.try_put_as.ensures.trace c.requires.pool.2,
    )

pub returns-clause-effect : goal.returns-clause-effect
returns-clause-effect c =
    let v : View = view_of c.args.holder.now.end in let w : View = view_of c.try_put_as.new.end in
    let rise : HeadsRise v w = λ before after e a is. (c.never_below.ensures.head c.args.holder.now.end c.try_put_as.new.end before after e a is).0 in
    release_ok _ c.args.self.now.count v w c.args.buffers.now c.args.self.now.some c.requires.pool.1 rise c.try_put_as.result _ c.in_ok-try_put_as.was c.try_put_as.ensures.effect c.try_put_as.ensures.trace c.requires.holds c.args.holder.now.fair

pub try_put_as-requires-clause-protocol : goal.try_put_as-requires-clause-protocol
try_put_as-requires-clause-protocol c = may_put c.args.self.now.count (view_of c.args.holder.now.end) c.args.buffers.now c.args.self.now.some c.requires.pool.1 c.requires.pool.2 c.args.holder.now.fair c.requires.holds
