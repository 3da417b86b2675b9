use Rattle.example_threads.proofs.shared_day.Given as goal

-- the ledger that was just named
abbrev pub ghosts-kept_day : goal.ghosts-kept_day
ghosts-kept_day g a = record { name = a.blank.name; parts = a.blank.parts }

abbrev pub ghosts-counted_day : goal.ghosts-counted_day
ghosts-counted_day g a = record { name = a.blank.name; parts = a.blank.parts }
