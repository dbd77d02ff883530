use Rattle.std.proofs.Common.{◌≡◌, ◌+◌, length, ap, rules}
use Rattle.boot_data.specs.Hearing.{Heard}
use Rattle.boot_data.proofs.Stored.{items_pushed}
use Rattle.boot_data.proofs.heard.HeardLines.push.Goals as goal

pub returns-clause-lines : goal.returns-clause-lines
returns-clause-lines c =
    let begins : c.len-begin.result ≡ length c.self.inside.bytes.list.items = search rules in
    let ends : c.len.result ≡ length c.self.inside.bytes.list.items + length c.args.items.now = search rules in
    items_pushed c.self.inside.bytes.list.items _ c.args.items.now c.loop-item.item-index c.self.inside.marks.list.items c.loop-item.self-inside.marks.list.items _ _ _
    (ap (λ (h : Heard). h.lines) c.self.view_is) c.loop-item.invariant.bytes c.loop-item-test.false
    (search rules) c.push-2.ensures.items c.self.invariant.4 begins ends
