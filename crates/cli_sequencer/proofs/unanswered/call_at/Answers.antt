-- The call at the place where the number was found.
use Rattle.std.proofs.Common.{◌≡◌, sym, ◌∙◌, refl, length, position, Some, slice_get}
use Rattle.std.proofs.lemmas.List.Quantifiers.{position-Some}
use Rattle.std.proofs.lemmas.Option.{slice_get_read}
use Rattle.cli_sequencer.proofs.Found.{has_number, find_at_position}
use Rattle.cli_sequencer.proofs.unanswered.call_at.Goals as goal

pub returns-in-Some : goal.returns-in-Some
returns-in-Some c =
    let at : position (has_number c.args.number) c.args.calls.now.items ≡ Some c.in-Some.index = sym c.index_of.ensures ∙ c.in-Some.is in
    let item : slice_get c.args.calls.now.items c.in-Some.index ≡ Some c.index-call.result.now =
    slice_get_read c.args.calls.now.items (length c.args.calls.now.items) c.in-Some.index c.index-call.result.now refl
    (position-Some (has_number c.args.number) c.args.calls.now.items c.in-Some.index c.index-call.result.now at).0 c.index-call.ensures in
    sym (find_at_position (has_number c.args.number) c.args.calls.now.items c.in-Some.index at ∙ item)
