use Rattle.boot_script.proofs.Common.{◌≡◌, [], sym, ap, ◌∙◌, arith, length, Ok, nat_tests, join_with_byte, ◌>>=◌, bytes_of, within_of}
use Rattle.boot_script.proofs.Escaping.Unescaped.{none_read, pushed_read, full_read, not_read, all_read, fits_within, too_long, no_room}
use Rattle.boot_script.proofs.unescaping.text_said.Goals as goal

pub loop-rest-init : goal.loop-rest-init
loop-rest-init g c = record {
  front = [];
  here = λ h. (c.new-text.ensures, omega arith);
  lost = λ h. absurd (cc h);
  all = none_read _ ∙ ap bytes_of c.text-rest.ensures;
}

pub loop-rest-preserved-then-push : goal.loop-rest-preserved-then-push
loop-rest-preserved-then-push g c =
    pushed_read g.row.N c.loop-rest.fits c.loop-rest.text c.push.new.self c.in-Ok.byte c.loop-rest.rest.now (bytes_of c.in-Ok.after.now) _ c.loop-rest.invariant
    (c.push.ensures.room.0 c.if-push.true) (c.push.ensures.pushed c.if-push.true) (c.in-Ok.ensures.next)

pub loop-rest-preserved : goal.loop-rest-preserved
loop-rest-preserved g c =
    full_read g.row.N c.loop-rest.fits c.push.result c.loop-rest.text c.push.new.self c.in-Ok.byte c.loop-rest.rest.now (bytes_of c.in-Ok.after.now) _ c.loop-rest.invariant
    c.if-push.false (no_room c.push.result (length c.loop-rest.text) g.row.N c.if-push.false c.push.ensures.room.1) (c.in-Ok.ensures.next)

pub returns-in-Err : goal.returns-in-Err
returns-in-Err g c =
    sym (ap (λ said. said >>= within_of g.row.N) (not_read c.loop-rest.invariant.front c.loop-rest.rest.now (bytes_of (join_with_byte 32 c.args.words.now)) c.in-Err.refusal c.in-Err.ensures.refused c.loop-rest.invariant.all))

pub returns-then-fits : goal.returns-then-fits
returns-then-fits g c =
    let none : length c.loop-rest.rest.now ≡ 0 = grind (arith, nat_tests) in
    let here = c.loop-rest.invariant.here c.if-fits.true in
    let said = all_read c.loop-rest.invariant.front c.loop-rest.rest.now (bytes_of (join_with_byte 32 c.args.words.now)) none c.loop-rest.invariant.all in
    ap Ok here.0 ∙ sym (ap (λ said. said >>= within_of g.row.N) said ∙ fits_within g.row.N c.loop-rest.invariant.front here.1)

pub returns-else-fits : goal.returns-else-fits
returns-else-fits g c =
    let none : length c.loop-rest.rest.now ≡ 0 = grind (arith, nat_tests) in
    let said = all_read c.loop-rest.invariant.front c.loop-rest.rest.now (bytes_of (join_with_byte 32 c.args.words.now)) none c.loop-rest.invariant.all in
    sym (ap (λ said. said >>= within_of g.row.N) said ∙ too_long g.row.N c.loop-rest.invariant.front (c.loop-rest.invariant.lost c.if-fits.false))
