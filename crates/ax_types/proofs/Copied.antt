-- Derived copies of the enums with many variants are equal.
use Rattle.std.proofs.Common.{rules, ◌≡◌}
use Rattle.ax_types.specs.declared.items.Item.{Item}
use Rattle.ax_types.specs.declared.items.Item.TheVariants as item
use Rattle.ax_types.specs.declared.packets.Payload.{Payload}
use Rattle.ax_types.specs.declared.packets.Payload.TheVariants as payload
use Rattle.ax_types.specs.contracts.items.ItemClone.TheImpl as item_clone
use Rattle.ax_types.specs.contracts.packets.PayloadClone.TheImpl as payload_clone

pub item_is_copied : (s t : Item) → item_clone.by_variants s t → t ≡ s
item_is_copied (item.Leader node term) t e = search rules
item_is_copied (item.Commit place) t e = search rules
item_is_copied (item.Reach node term arrival session number) t e = search rules
item_is_copied (item.Halted node) t e = search rules
item_is_copied (item.Opened session client) t e = search rules
item_is_copied (item.Called session number call) t e = search rules
item_is_copied (item.Event session place prev events) t e = search rules
item_is_copied (item.Watched client kind session place event) t e = search rules
item_is_copied (item.Reply session number place reply) t e = search rules
item_is_copied (item.Read session number level place reach reply) t e = search rules
item_is_copied (item.Ended session place how) t e = search rules
item_is_copied (item.Doubt session number) t e = search rules
item_is_copied (item.Lost session number) t e = search rules
item_is_copied (item.Unsent session number) t e = search rules
item_is_copied (item.Unanswered session number) t e = search rules
item_is_copied (item.Listed count) t e = search rules
item_is_copied (item.Pending number from to kind) t e = search rules
item_is_copied (item.Skip reason) t e = search rules

pub payload_is_copied : (s t : Payload) → payload_clone.by_variants s t → t ≡ s
payload_is_copied (payload.Vote term last last_term) t e = search rules
payload_is_copied (payload.VoteReply term granted) t e = search rules
payload_is_copied (payload.Append term prev prev_term commit round entries) t e = search rules
payload_is_copied (payload.AppendReply term ok place round) t e = search rules
payload_is_copied (payload.Register client opening) t e = search rules
payload_is_copied (payload.Keep client session answered heard) t e = search rules
payload_is_copied (payload.Command client session seq name op) t e = search rules
payload_is_copied (payload.Close client session) t e = search rules
payload_is_copied (payload.Query client session call level seen seq name query) t e = search rules
payload_is_copied (payload.Connect client session heard) t e = search rules
payload_is_copied (payload.Reset client session heard) t e = search rules
payload_is_copied (payload.Opened opening session) t e = search rules
payload_is_copied (payload.Reply session seq place events reply) t e = search rules
payload_is_copied (payload.Gap session last) t e = search rules
payload_is_copied (payload.Answer session call level place events term arrival reply) t e = search rules
payload_is_copied (payload.Batch session place prev events) t e = search rules
payload_is_copied (payload.Ended session place how) t e = search rules
