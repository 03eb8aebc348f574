use Rattle.std.proofs.Common.{sym, ◌∙◌}
use Rattle.script_text.proofs.LineLemmas.{holds_last_byte-split}
use Rattle.script_text.proofs.scripts.ends.Goals as goal

pub returns-in-Some : goal.returns-in-Some
returns-in-Some c = rw c.in-Some.is (c.is_empty.ensures ∙ sym (holds_last_byte-split c.in-Some.bytes.now))
