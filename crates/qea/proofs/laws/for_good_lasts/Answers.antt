use Rattle.qea.proofs.Lasting.{rejects_lasts, accepts_lasts, for_good_lasts}
use Rattle.qea.proofs.Deciding.{without_quantifiers}
use Rattle.qea.proofs.laws.for_good_lasts.Goals as goal

pub returns : goal.returns
returns c = record { rejects = rejects_lasts; accepts = accepts_lasts; whole = for_good_lasts; without = without_quantifiers }
