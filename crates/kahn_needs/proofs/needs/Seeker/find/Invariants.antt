use Rattle.kahn_needs.proofs.needs.Seeker.find.Given as goal

abbrev pub ghosts-search : goal.ghosts-search
ghosts-search a = record { name = a.blank.name; parts = a.blank.parts }
