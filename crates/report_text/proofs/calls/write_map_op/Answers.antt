use Rattle.report_text.proofs.calls.write_map_op.Goals as goal

pub returns-in-PutIfAbsent-clause-written : goal.returns-in-PutIfAbsent-clause-written
returns-in-PutIfAbsent-clause-written c =
    rw (c.in-PutIfAbsent.is, ← c.as_str-in-PutIfAbsent.ensures.text, ← c.as_str-in-PutIfAbsent-2.ensures.text) c.two_operands-in-PutIfAbsent.ensures
