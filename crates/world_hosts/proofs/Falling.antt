-- A node that falls where a store call of a step failed, and what its store tells then.
use Rattle.std.proofs.Common.{Bool}
use Rattle.ax_types.specs.declared.sessions.ServerOut.{ServerOut}
use Rattle.store_journal.specs.StoreTold as stores
use Rattle.world_saves.specs.SaveChain as chains
use Rattle.world_saves.specs.declared.replaced.Replaced.{Replaced}
use Rattle.world_saves.specs.declared.save_chain.SaveCall.{SaveCall}
use Rattle.world_hosts.specs.HostSteps as host_steps
use Rattle.world_hosts.specs.declared.host.Host.{Host}
use Rattle.world_hosts.specs.declared.served.Served.{Served}
use Rattle.world_hosts.specs.declared.served.Served.TheVariants as serving

pub fell : (old : Host) (out : ServerOut) (r : Replaced) (new : Host) (before now : stores.Told) (needs_load : Bool) (call : SaveCall) (served : Served)
    → chains.FailsAt out.saves call before now → host_steps.FallsAt old out.saves r new call served → host_steps.KeepsOrFalls old out r new before now needs_load served
fell old out r new before now needs_load call (serving.Fine answer) f h = absurd h
fell old out r new before now needs_load call (serving.Failed saved) f h = record { call = call; fails = f; falls = h }
