use Rattle.boot_report.proofs.Common.{◌+◌, ◌++◌, ◌∷◌, [], arith, ap, ◌∙◌, sym, drop, numbered, append_assoc, place_of}
use Rattle.boot_report.proofs.Placing.{place_first}
use Rattle.boot_report.proofs.sorting.append.Goals as goal

pub loop-number-preserved : goal.loop-number-preserved
loop-number-preserved c =
    let v = c.loop-number.invariant in let n = v.number in
    let made = place_of c.args.processor in let k = c.loop-number.number in let lines = c.args.heard.now.lines in
    let more = numbered made (k + 1) (drop (k + 1) lines) in
    let low = c.loop-number-test.true in
    let first = place_first made k k lines c.place_in.result (omega arith) c.place_in.ensures in
    record {
      items = ap (λ z. z ++ more) c.push_reserved.ensures.items ∙ append_assoc c.loop-number.places.items (c.place_in.result ∷ []) more
          ∙ sym (ap (λ z. c.loop-number.places.items ++ z) first) ∙ v.items;
      number = omega arith;
      room = c.push_reserved.ensures.capacity ∙ v.room;
    }
