use Rattle.boot_script.proofs.Common.{◌≡◌, ◌<◌, ◌≤◌, ◌-◌, sym, ap, ◌∙◌, arith, length, take, drop, slice_index_or, true, false, Ok, Err, eqb, nat_tests, ◌>>=◌, escape_of, before, bytes_of}
use Rattle.boot_script.proofs.Escaping.Unescaped.{following, first_plain, first_short, first_escaped}
use Rattle.boot_script.proofs.unescaping.next_byte.Goals as goal

pub returns-then-byte-ne92-clause-next : goal.returns-then-byte-ne92-clause-next
returns-then-byte-ne92-clause-next c =
    let text = c.args.text.now in
    let plain : eqb (slice_index_or text 0 0) 92 ≡ false = grind (arith, nat_tests, c.if-byte-ne92.true) in
    first_plain text c.requires plain ∙ ap (λ rest. before (slice_index_or text 0 0) (bytes_of rest)) (sym (following 1 text))

pub returns-then-rest-lt2-clause-refused : goal.returns-then-rest-lt2-clause-refused
returns-then-rest-lt2-clause-refused c =
    let text = c.args.text.now in
    let escaped : eqb (slice_index_or text 0 0) 92 ≡ true = grind (arith, nat_tests, c.if-byte-ne92.false) in
    let few : length (drop 1 text) < 2 = omega (arith, c.if-rest-lt2.true, ap length (following 1 text)) in
    first_short text c.requires escaped few

pub returns-in-Ok-clause-next : goal.returns-in-Ok-clause-next
returns-in-Ok-clause-next c =
    let text = c.args.text.now in
    let rest = take (length text - 1) (drop 1 text) in
    let escaped : eqb (slice_index_or text 0 0) 92 ≡ true = grind (arith, nat_tests, c.if-byte-ne92.false) in
    let enough : 2 ≤ length (drop 1 text) = omega (arith, c.if-rest-lt2.false, ap length (following 1 text)) in
    let said = first_escaped text c.requires escaped enough in
    let two : escape_of (slice_index_or (drop 1 text) 0 0) (slice_index_or (drop 1 text) 1 0) ≡ Ok c.in-Ok.escaped =
    ap (λ r. escape_of (slice_index_or r 0 0) (slice_index_or r 1 0)) (sym (following 1 text)) ∙ sym c.in-Ok.ensures.result in
    said ∙ (ap (λ e. e >>= λ x. before x (bytes_of (drop 2 (drop 1 text)))) two
    ∙ ap (λ r. before c.in-Ok.escaped (bytes_of r)) (ap (drop 2) (sym (following 1 text)) ∙ sym (following 2 rest)))

pub returns-in-Err-clause-refused : goal.returns-in-Err-clause-refused
returns-in-Err-clause-refused c =
    let text = c.args.text.now in
    let escaped : eqb (slice_index_or text 0 0) 92 ≡ true = grind (arith, nat_tests, c.if-byte-ne92.false) in
    let enough : 2 ≤ length (drop 1 text) = omega (arith, c.if-rest-lt2.false, ap length (following 1 text)) in
    let two : escape_of (slice_index_or (drop 1 text) 0 0) (slice_index_or (drop 1 text) 1 0) ≡ Err c.in-Err.refusal =
    ap (λ r. escape_of (slice_index_or r 0 0) (slice_index_or r 1 0)) (sym (following 1 text)) ∙ sym c.in-Err.ensures.result in
    first_escaped text c.requires escaped enough ∙ ap (λ e. e >>= λ x. before x (bytes_of (drop 2 (drop 1 text)))) two
