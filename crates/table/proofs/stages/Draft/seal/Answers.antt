use Rattle.sealing.proofs.Deciding.{sealed_well}
use Rattle.table.proofs.stages.Draft.seal.Goals as goal

pub returns-clause-well_formed : goal.returns-clause-well_formed
returns-clause-well_formed g c = rw c.self.view_is (sealed_well _ _ c.requires)
