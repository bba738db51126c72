use Rattle.cluster_names.proofs.Openings.{one_line, unnamed}
use Rattle.cluster_names.proofs.laws.names.Goals as goal

pub returns-clause-one : goal.returns-clause-one
returns-clause-one c = one_line

pub returns-clause-unnamed : goal.returns-clause-unnamed
returns-clause-unnamed c = unnamed
