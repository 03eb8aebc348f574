-- Reading a reply and an event: the number and the fields.
use Rattle.std.specs.Prelude.{ℕ, List, Ok, Err, nat_eq, if◌then◌else◌}
use Rattle.ax_types.specs.declared.replies.Reply.{Reply}
use Rattle.ax_types.specs.declared.replies.Reply.TheVariants as reply
use Rattle.ax_types.specs.declared.replies.Event.{Event}
use Rattle.ax_types.specs.declared.replies.Event.TheVariants as event
use Rattle.spec_reading.specs.Reading.{◌>>=◌}
use Rattle.spec_reading.specs.Reading as reading

-- the sessions of a group: their count, and each
unfoldable pub members_at : List ℕ → reading.Reading (List ℕ)
members_at bytes = do
  count ← reading.u32_at bytes
  reading.many_at reading.u64_at count.0 count.1

unfoldable pub reply_at : List ℕ → reading.Reading Reply
reply_at bytes = do
  number ← reading.byte_at bytes
  if nat_eq number.0 0 then Ok (reply.Done, number.1) else
      if nat_eq number.0 1 then Ok (reply.Nothing, number.1) else
      if nat_eq number.0 2 then reading.one_field reading.text_at reply.Found number.1 else
      if nat_eq number.0 3 then Ok (reply.Yes, number.1) else
      if nat_eq number.0 4 then Ok (reply.No, number.1) else
      if nat_eq number.0 5 then reading.one_field reading.i64_at reply.Number number.1 else
      if nat_eq number.0 6 then reading.one_field reading.u64_at reply.Fence number.1 else
      if nat_eq number.0 7 then reading.two_fields reading.u64_at reading.u64_at reply.Holder number.1 else
      if nat_eq number.0 8 then reading.two_fields reading.u64_at reading.u64_at reply.Leader number.1 else
      if nat_eq number.0 9 then reading.one_field members_at reply.Members number.1 else
      if nat_eq number.0 10 then Ok (reply.Busy, number.1) else
      if nat_eq number.0 11 then Ok (reply.Already, number.1) else
      if nat_eq number.0 12 then Ok (reply.NotHolder, number.1) else
      if nat_eq number.0 13 then Ok (reply.NotMember, number.1) else
      if nat_eq number.0 14 then Ok (reply.Overflow, number.1) else
      if nat_eq number.0 15 then Ok (reply.Full, number.1) else
      if nat_eq number.0 16 then Ok (reply.WrongKind, number.1) else
      Err reading.Wrong

unfoldable pub event_at : List ℕ → reading.Reading Event
event_at bytes = do
  number ← reading.byte_at bytes
  if nat_eq number.0 1 then reading.three_fields reading.name_at reading.name_at reading.text_at event.Changed number.1 else
      if nat_eq number.0 2 then reading.two_fields reading.name_at reading.name_at event.Removed number.1 else
      if nat_eq number.0 3 then reading.two_fields reading.name_at reading.text_at event.Set number.1 else
      if nat_eq number.0 4 then reading.one_field reading.name_at event.Cleared number.1 else
      if nat_eq number.0 5 then reading.two_fields reading.name_at reading.u64_at event.Granted number.1 else
      if nat_eq number.0 6 then reading.two_fields reading.name_at reading.u64_at event.Joined number.1 else
      if nat_eq number.0 7 then reading.two_fields reading.name_at reading.u64_at event.Left number.1 else
      if nat_eq number.0 8 then reading.three_fields reading.name_at reading.u64_at reading.u64_at event.Elected number.1 else
      if nat_eq number.0 9 then reading.two_fields reading.name_at reading.text_at event.Message number.1 else
      Err reading.Wrong
