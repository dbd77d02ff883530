use Rattle.boot_script.proofs.Common.{◌≡◌, ◌<◌, ◌≤◌, ◌+◌, sym, ap, ◌∙◌, arith, length, slice_index_or, slice_set, length-set, nat_lt, if◌then◌else◌, count_of, added, typed_at, change_at, with_text, kept_plan}
use Rattle.boot_data.specs.declared.kind.Kind.TheVariants as kind
use Rattle.boot_script.proofs.Drafts.Drawn.{goes_ok, goes_wrong, text_fits, text_long, typed_counts, change_length, with_ttys}
use Rattle.boot_script.proofs.draft.Draft.add_text.Goals as goal

pub returns-then-count-gt-MOST_TYPED : goal.returns-then-count-gt-MOST_TYPED
unfolding added
returns-then-count-gt-MOST_TYPED c = λ version d drawn.
    let counts = c.args.self.now.typed in
    let at : c.from-at.result ≡ c.args.tty = c.from-at.ensures ∙ c.number.ensures.value in
    let below : c.args.tty < 2 = omega (arith, c.number.ensures.value, c.number.ensures.within) in
    let more : 1024 < slice_index_or counts c.from-at.result 0 + length c.as_slice.result.now = omega (arith, c.if-count-gt-MOST_TYPED.true, c.saturating_add-count.ensures) in
    let many : 1024 < length (typed_at d.plan.ttys c.args.tty) + length c.args.text.now =
    omega (arith, more, ap (λ i. slice_index_or counts i 0) at, drawn.typed c.args.tty below, ap length c.as_slice.ensures.bytes) in
    goes_wrong _ _ _ (text_long _ many)

pub returns : goal.returns
unfolding added
returns c = λ version d drawn.
    let ttys = d.plan.ttys in
    let text = c.args.text.now in
    let counts = c.args.self.now.typed in
    let at : c.from-at.result ≡ c.args.tty = c.from-at.ensures ∙ c.number.ensures.value in
    let below : c.args.tty < 2 = omega (arith, c.number.ensures.value, c.number.ensures.within) in
    let bytes = ap length c.as_slice.ensures.bytes in
    let sum : c.saturating_add-count.result ≡ length (typed_at ttys c.args.tty) + length text =
    omega (arith, c.if-count-gt-MOST_TYPED.false, c.saturating_add-count.ensures, ap (λ i. slice_index_or counts i 0) at, drawn.typed c.args.tty below, bytes) in
    let few : length (typed_at ttys c.args.tty) + length text ≤ 1024 = omega (arith, sum, c.if-count-gt-MOST_TYPED.false) in
    let within : c.args.tty < length counts = omega (arith, below, drawn.sizes.0) in
    let there : nat_lt c.args.tty (length ttys) ≡ nat_lt c.from-at.result c.count.result =
    ap (λ i. nat_lt i (length ttys)) (sym at) ∙ ap (nat_lt c.from-at.result) (sym (c.count.ensures.count ∙ (ap (count_of kind.Tty) drawn.names ∙ drawn.ttys))) in (
      _,
      goes_ok _ _ _ (text_fits _ few),
      record {
        names = drawn.names;
        going = drawn.going;
        ttys = drawn.ttys ∙ sym (change_length (with_text text) ttys c.args.tty);
        threads = drawn.threads;
        typed = λ tty h.
            let stored = ap (λ n. slice_index_or (slice_set counts c.from-at.result n) tty 0) c.count_if.ensures in
            stored ∙ (ap (λ i. slice_index_or (slice_set counts i (if nat_lt c.from-at.result c.count.result then c.saturating_add-count.result else slice_index_or counts i 0)) tty 0) at
            ∙ typed_counts (nat_lt c.from-at.result c.count.result) text ttys counts c.args.tty c.saturating_add-count.result tty there within (drawn.typed tty h) sum);
        alarms = drawn.alarms;
        steps = drawn.steps;
        sizes = (length-set counts c.from-at.result c.count_if.result ∙ drawn.sizes.0, drawn.sizes.1);
        plan = λ kept.
            let same = ap (λ p. p.ttys) (drawn.plan kept) in
            let room : length (typed_at c.args.self.now.ttys.items c.from-at.result) + length c.as_slice-2.result.now ≤ 1024 =
            omega (arith, few, ap (λ ts. length (typed_at ts c.args.tty)) same, ap (λ i. length (typed_at c.args.self.now.ttys.items i)) at, ap length c.as_slice-2.ensures.bytes) in
            ap (with_ttys (kept_plan c.args.self.now)) (c.type_at.ensures room ∙ (ap (λ t. change_at (with_text t) c.args.self.now.ttys.items c.from-at.result) c.as_slice-2.ensures.bytes
            ∙ ap (change_at (with_text text) c.args.self.now.ttys.items) at))
            ∙ ap (λ p. with_ttys p (change_at (with_text text) p.ttys c.args.tty)) (drawn.plan kept);
      },
    )
