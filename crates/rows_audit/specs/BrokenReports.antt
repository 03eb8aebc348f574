-- Reports that break one condition each: those of runs with an item or an act changed, left out or moved.
use Rattle.std.specs.Prelude.{ℕ, pos, None, Some, List, [], ◌∷◌, codes}
use Rattle.ax_types.specs.declared.ops.Level.TheVariants as level
use Rattle.ax_types.specs.declared.ops.LongOp.TheVariants as long_op
use Rattle.ax_types.specs.declared.ops.LongQuery.TheVariants as long_query
use Rattle.ax_types.specs.declared.ops.MapOp.TheVariants as map_op
use Rattle.ax_types.specs.declared.ops.Op.TheVariants as op
use Rattle.ax_types.specs.declared.ops.Query.TheVariants as query
use Rattle.ax_types.specs.declared.ops.WindowCall.{WindowCall}
use Rattle.ax_types.specs.declared.ops.WindowCall.TheVariants as call
use Rattle.ax_types.specs.declared.replies.Reply.TheVariants as reply
use Rattle.ax_types.specs.declared.replies.Event.TheVariants as event
use Rattle.ax_types.specs.declared.replies.How.TheVariants as how
use Rattle.ax_types.specs.declared.entries.Act.{Act}
use Rattle.ax_types.specs.declared.entries.Act.TheVariants as act
use Rattle.ax_types.specs.declared.items.Item.{Item}
use Rattle.ax_types.specs.declared.items.Item.TheVariants as item
use Rattle.spec_audit.specs.Audit as audits
use Rattle.rows_report.specs.ReportRows as report_rows

abbrev pub add : ℕ → WindowCall
add n = call.Command (codes "c") (op.Long (long_op.Add (pos n)))

abbrev pub add_act : ℕ → Act
add_act n = act.Do 2 (codes "c") (op.Long (long_op.Add (pos n)))

abbrev pub get : WindowCall
get = call.Query level.Lin (codes "c") (query.Long long_query.Get)

-- client 1 has session 2 at node 1
abbrev pub session_opened : List Item → List Item
session_opened items = item.Leader 1 1 ∷ item.Commit 1 ∷ item.Commit 2 ∷ item.Opened 2 1 ∷ items

abbrev pub open_history : List (ℕ × Act) → List (ℕ × Act)
open_history acts = (0, act.Nothing) ∷ (0, act.Open 1 1) ∷ acts

abbrev pub early_expiry : audits.Audited
early_expiry = record {
  items = session_opened (item.Commit 3 ∷ item.Ended 2 3 how.Expired ∷ []);
  history = open_history ((999, act.Expire 2) ∷ []);
  waiting = [];
}

abbrev pub wrong_number : audits.Audited
wrong_number = record {
  items = session_opened (item.Called 2 1 (add 5) ∷ item.Commit 3 ∷ item.Reply 2 1 3 (reply.Number (pos 6)) ∷ []);
  history = report_rows.one_add_history;
  waiting = [];
}

abbrev pub long_history : audits.Audited
long_history = record {
  items = report_rows.one_add_items;
  history = open_history ((0, add_act 5) ∷ (0, act.Nothing) ∷ []);
  waiting = [];
}

-- the request arrived below the commit of place 3, and the read is of place 2
abbrev pub stale_read : audits.Audited
stale_read = record {
  items = session_opened (item.Called 2 1 (add 5) ∷ item.Commit 3 ∷ item.Called 2 2 get ∷ item.Reach 1 1 1 2 2 ∷ item.Reply 2 1 3 (reply.Number (pos 5))
      ∷ item.Read 2 2 level.Lin 2 (Some (1, 1)) (reply.Number (pos 0)) ∷ []);
  history = report_rows.one_add_history;
  waiting = [];
}

abbrev pub uncalled : audits.Audited
uncalled = record {
  items = session_opened (item.Commit 3 ∷ []);
  history = report_rows.one_add_history;
  waiting = [];
}

-- session 3 adds 5 at place 4; session 2 reads at place 4 and then at place 3
abbrev pub read_back : audits.Audited
read_back = record {
  items = item.Leader 1 1 ∷ item.Commit 1 ∷ item.Commit 2 ∷ item.Commit 3 ∷ item.Opened 2 1 ∷ item.Opened 3 2
      ∷ item.Called 3 1 (add 5) ∷ item.Commit 4 ∷ item.Reply 3 1 4 (reply.Number (pos 5))
      ∷ item.Called 2 1 (call.Query level.Seq (codes "c") (query.Long long_query.Get)) ∷ item.Read 2 1 level.Seq 4 None (reply.Number (pos 5))
      ∷ item.Called 2 2 (call.Query level.Seq (codes "c") (query.Long long_query.Get)) ∷ item.Read 2 2 level.Seq 3 None (reply.Number (pos 0)) ∷ [];
  history = (0, act.Nothing) ∷ (0, act.Open 1 1) ∷ (0, act.Open 2 1) ∷ (0, act.Do 3 (codes "c") (op.Long (long_op.Add (pos 5)))) ∷ [];
  waiting = [];
}

-- session 2 listens to a map and puts a text into it, and is told of the event below the reply
abbrev pub late_event : audits.Audited
late_event = record {
  items = session_opened (item.Called 2 1 (call.Command (codes "m") (op.Map map_op.Listen)) ∷ item.Commit 3 ∷ item.Reply 2 1 3 reply.Done
      ∷ item.Called 2 2 (call.Command (codes "m") (op.Map (map_op.Put (codes "a") (codes "1")))) ∷ item.Commit 4 ∷ item.Reply 2 2 4 reply.Nothing
      ∷ item.Event 2 4 0 (event.Changed (codes "m") (codes "a") (codes "1") ∷ []) ∷ []);
  history = open_history ((0, act.Do 2 (codes "m") (op.Map map_op.Listen))
      ∷ (0, act.Do 2 (codes "m") (op.Map (map_op.Put (codes "a") (codes "1")))) ∷ []);
  waiting = [];
}

abbrev pub second_first : audits.Audited
second_first = record {
  items = session_opened (item.Called 2 1 (add 1) ∷ item.Called 2 2 (add 2) ∷ item.Commit 3 ∷ item.Commit 4
      ∷ item.Reply 2 2 4 (reply.Number (pos 3)) ∷ item.Reply 2 1 3 (reply.Number (pos 1)) ∷ []);
  history = open_history ((0, add_act 1) ∷ (0, add_act 2) ∷ []);
  waiting = [];
}

abbrev pub no_doubt : audits.Audited
no_doubt = record {
  items = session_opened (item.Called 2 1 (add 1) ∷ item.Commit 3 ∷ item.Commit 4 ∷ item.Ended 2 4 how.Expired ∷ []);
  history = open_history ((0, add_act 1) ∷ (1000, act.Expire 2) ∷ []);
  waiting = (2, 1) ∷ [];
}

abbrev pub still_waiting : audits.Audited
still_waiting = record {
  items = report_rows.one_add_items;
  history = report_rows.one_add_history;
  waiting = (2, 1) ∷ [];
}
