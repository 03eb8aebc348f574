-- What one client with its watches gives, by what it is asked.
use Rattle.std.specs.Prelude.{ℕ, Bool, Option, Result, Ok, Err, Some, None, List, [], ◌∷◌, ◌++◌, map, if◌then◌else◌, suc, false, ◌≡◌, ◌≤◌}
use Rattle.std.specs.List.{list_any}
use Rattle.std.specs.Option.{option_map}
use Rattle.ax_types.specs.declared.items.Item.{Item}
use Rattle.ax_types.specs.declared.items.Item.TheVariants as item
use Rattle.ax_types.specs.declared.items.SkipReason.{SkipReason}
use Rattle.ax_types.specs.declared.items.SkipReason.TheVariants as reason
use Rattle.ax_types.specs.declared.refusals.ClientRefused.{ClientRefused}
use Rattle.ax_types.specs.declared.refusals.ClientRefused.TheVariants as refused
use Rattle.ax_types.specs.declared.sessions.ClientOut.{ClientOut}
use Rattle.ax_types.specs.declared.steps.WatchKind.{WatchKind}
use Rattle.spec_client.specs.Clients as clients
use Rattle.spec_world.specs.Worlds as worlds
use Rattle.spec_world.specs.Plans as plans
use Rattle.spec_world.specs.Moves as moves
use Rattle.world_seats.specs.declared.given.SeatStep.{SeatStep}

-- a client with its watches, how many calls changed it, and whether want of memory has left one of them half done
pub record CountedWatcher : Type 0 where
  pub watcher : worlds.Watcher
  pub calls : ℕ
  pub is_spent : Bool

-- the reason that a client's refusal gives; want of memory gives none
abbrev pub skip_reason : ClientRefused → Option SkipReason
skip_reason refused.SessionOpen = Some reason.SessionOpen
skip_reason refused.NoSession = Some reason.NoSession
skip_reason refused.WindowFull = Some reason.WindowFull
skip_reason (refused.Busy unanswered) = Some (reason.Busy unanswered)
skip_reason refused.NoMemory = None

abbrev pub skip_step : SkipReason → SeatStep
skip_step r = record { items = item.Skip r ∷ []; packets = [] }

-- what a client's answer gives
abbrev pub GivesStep : ℕ → Result ClientOut ClientRefused → SeatStep → Type 0
GivesStep c (Ok out) s = s ≡ record { items = out.items; packets = map (moves.from_client c) out.sends }
GivesStep c (Err refusal) s = option_map skip_step (skip_reason refusal) ≡ Some s

-- what a client sends, and its items
abbrev pub sent_out : ℕ → List Item → ClientOut → SeatStep
sent_out c items out = record { items = items; packets = map (moves.from_client c) out.sends }

-- what a client gives that is asked, and the client after it
abbrev pub asked_step : ℕ → worlds.Watcher → Option SkipReason → clients.ClientStep → SeatStep
asked_step c s (Some r) next = skip_step r
asked_step c s None next = sent_out c (moves.with_shown c s.watches next.out.items) next.out

abbrev pub asked_watcher : worlds.Watcher → Option SkipReason → clients.ClientStep → worlds.Watcher
asked_watcher s (Some r) next = s
asked_watcher s None next = record s { client = next.client }

-- and one that is called
abbrev pub unsent_step : worlds.Watcher → SeatStep
unsent_step s = record { items = item.Unsent (clients.own_session s.client.state) (clients.unsent_number s.client) ∷ []; packets = [] }

abbrev pub called_step : ℕ → worlds.Watcher → clients.ClientStep → SeatStep
called_step c s next = if clients.has_ended s.client.state then unsent_step s else asked_step c s (clients.call_refusal s.client) next

abbrev pub called_watcher : worlds.Watcher → clients.ClientStep → worlds.Watcher
called_watcher s next = if clients.has_ended s.client.state then record s { client = clients.unsent s.client } else asked_watcher s (clients.call_refusal s.client) next

-- and one that gets a watch
abbrev pub watching_step : worlds.Watcher → WatchKind → SeatStep
watching_step s kind = if list_any (plans.same_kind kind) s.watches then skip_step reason.Watched else record { items = []; packets = [] }

abbrev pub watching : worlds.Watcher → WatchKind → worlds.Watcher
watching s kind = if list_any (plans.same_kind kind) s.watches then s else record s { watches = s.watches ++ kind ∷ [] }

-- one more call changed a client at most, and it is whole
pub record IsChanged (before after : CountedWatcher) (new : worlds.Watcher) : Type 0 where
  pub watcher : after.watcher ≡ new
  pub whole : after.is_spent ≡ false
  pub calls : after.calls ≤ suc before.calls
