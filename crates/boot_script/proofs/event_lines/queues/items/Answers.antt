use Rattle.boot_script.proofs.Common.{◌≡◌, ◌++◌, ◌∷◌, ◌∙◌, [], length-append, ap, refl, arith, rules, nat_tests, number_of}
use Rattle.boot_script.proofs.Basics.Gathered.{none_yet, pushed}
use Rattle.boot_script.proofs.EventScripts.Items.{number_more, items_refused}
use Rattle.boot_script.proofs.event_lines.queues.items.Goals as goal

pub loop-words-init : goal.loop-words-init
loop-words-init c = record {
  gathered = record { front = []; here = λ h. c.new-items.ensures.items; all = none_yet _ };
  counted = refl;
}

pub returns-in_err-item : goal.returns-in_err-item
returns-in_err-item c =
    let some : c.loop-words.words ≡ [] → ⊥ = λ h. grind (arith, nat_tests, c.is_done.ensures.1 h) in
    let e = c.in_err-item.ensures.result ∙ ap (number_of 18446744073709551615) c.next_word.ensures.word in
    let fails = items_refused _ c.loop-words.invariant.gathered.front c.loop-words.words c.args.words.now some e c.loop-words.invariant.gathered.all in
    search (rules, fails)

pub loop-words-preserved-then-kept : goal.loop-words-preserved-then-kept
loop-words-preserved-then-kept c =
    let front = c.loop-words.invariant.gathered.front in
    let some : c.loop-words.words ≡ [] → ⊥ = λ h. grind (arith, nat_tests, c.is_done.ensures.1 h) in
    let e = c.in_ok-item.ensures.result ∙ ap (number_of 18446744073709551615) c.next_word.ensures.word in
    let more = number_more 18446744073709551615 c.in_ok-item.item front c.loop-words.words _ some e c.loop-words.invariant.gathered.all in
    let longer = length-append front (c.in_ok-item.item ∷ []) in
    record {
      gathered = record {
        front = front ++ c.in_ok-item.item ∷ [];
        here = pushed _ _ _ _ front c.in_ok-item.item c.push.ensures.items c.is_ok-kept.ensures.value (c.loop-words.invariant.gathered.here c.if-kept.true);
        all = rw c.next_word.ensures.rest more;
      };
      counted = omega (arith, longer, c.loop-words.invariant.counted);
    }

pub loop-words-preserved : goal.loop-words-preserved
loop-words-preserved c =
    let front = c.loop-words.invariant.gathered.front in
    let some : c.loop-words.words ≡ [] → ⊥ = λ h. grind (arith, nat_tests, c.is_done.ensures.1 h) in
    let e = c.in_ok-item.ensures.result ∙ ap (number_of 18446744073709551615) c.next_word.ensures.word in
    let more = number_more 18446744073709551615 c.in_ok-item.item front c.loop-words.words _ some e c.loop-words.invariant.gathered.all in
    let longer = length-append front (c.in_ok-item.item ∷ []) in
    record {
      gathered = record {
        front = front ++ c.in_ok-item.item ∷ [];
        here = λ h. absurd (cc (h, c.if-kept.false));
        all = rw c.next_word.ensures.rest more;
      };
      counted = omega (arith, longer, c.loop-words.invariant.counted);
    }
