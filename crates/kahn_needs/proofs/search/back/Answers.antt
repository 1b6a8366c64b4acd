use Rattle.kahn_needs.proofs.search.back.Goals as goal

pub has_come-requires : goal.has_come-requires
has_come-requires c = c.requires.root.listed
