use Rattle.call_window.proofs.seats.Window.poll.Given as goal

abbrev pub ghosts-look_for : goal.ghosts-look_for
ghosts-look_for a = record { number = a.number }
