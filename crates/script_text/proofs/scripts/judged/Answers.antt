use Rattle.std.proofs.Common.{sym, arith}
use Rattle.std.proofs.lemmas.List.{length-take}
use Rattle.script_text.proofs.LineLemmas.{judged_bytes-all, judged_bytes-first}
use Rattle.script_text.proofs.scripts.judged.Goals as goal

pub returns-then-bytes-gt-MAX_SCRIPT-clause-judged : goal.returns-then-bytes-gt-MAX_SCRIPT-clause-judged
returns-then-bytes-gt-MAX_SCRIPT-clause-judged c = sym (judged_bytes-first c.args.bytes.now (omega arith))

pub returns-else-bytes-gt-MAX_SCRIPT-clause-judged : goal.returns-else-bytes-gt-MAX_SCRIPT-clause-judged
returns-else-bytes-gt-MAX_SCRIPT-clause-judged c = sym (judged_bytes-all c.args.bytes.now (omega arith))

pub returns-then-bytes-gt-MAX_SCRIPT-clause-few : goal.returns-then-bytes-gt-MAX_SCRIPT-clause-few
returns-then-bytes-gt-MAX_SCRIPT-clause-few c = simp length-take (omega arith)
