-- The answers so far, and then those of a release of what is left, are those of the release.
use Rattle.std.proofs.Common.{◌≡◌, ◌+◌, vec_len}
use Rattle.std.specs.Vec.{vec_capacity}
use Rattle.spec_sequencer.specs.Sequencers as sequencers
use Rattle.cli_sequencer.specs.GivenOut as given
use Rattle.cli_sequencer.proofs.sequencer.Sequencer.release.Given as goal

abbrev pub invariant-given : goal.invariant-given
invariant-given l = record {
  release : sequencers.release_of l.initial.self ≡ given.gives_first l.items.items (sequencers.release_of l.self);
  room : vec_len l.items + given.given_of l.self ≡ vec_capacity l.items;
  session : l.self.session ≡ l.initial.self.session;
  last : l.self.last ≡ l.initial.self.last;
  heard : l.self.heard ≡ l.initial.self.heard;
}

abbrev pub decreases-given : goal.decreases-given
decreases-given l = given.given_of l.self
