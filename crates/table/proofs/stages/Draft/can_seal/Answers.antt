use Rattle.sealing.proofs.Deciding.{answer_decides}
use Rattle.table.proofs.stages.Draft.can_seal.Goals as goal

pub returns-clause-decides : goal.returns-clause-decides
returns-clause-decides g c = rw (← c.self.view_is) (answer_decides _ _ c.check_table.result c.check_table.ensures)
