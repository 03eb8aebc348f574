-- What a slot is seen as.
use Rattle.spec_book.specs.Resources as resources
use Rattle.res_registry.specs.declared.slot.State.{State}
use Rattle.res_registry.specs.declared.slot.State.TheVariants as state

abbrev pub resource_seen : State → resources.Resource
resource_seen (state.Map s) = resources.AMap s
resource_seen (state.Value s) = resources.AValue s
resource_seen (state.Long x) = resources.ALong x
resource_seen (state.Lock s) = resources.ALock s
resource_seen (state.Group s) = resources.AGroup s
resource_seen (state.Set s) = resources.ASet s
resource_seen (state.Queue s) = resources.AQueue s
resource_seen (state.Multimap s) = resources.AMultimap s
resource_seen (state.Topic s) = resources.ATopic s
