use Rattle.boot_script.proofs.Common.{sym, ap, ◌∙◌, join_with_byte, option_copied, join_with_byte-slice_split, pieces_left}
use Rattle.boot_script.proofs.text.Words.text.Goals as goal

pub returns-in-Some : goal.returns-in-Some
returns-in-Some c =
    sym (join_with_byte-slice_split 32 c.in-Some.bytes.now)
    ∙ (ap (λ rest. join_with_byte 32 (pieces_left 32 (option_copied rest))) (sym c.in-Some.is) ∙ ap (join_with_byte 32) c.self.view_is)
