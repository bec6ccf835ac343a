use Rattle.std.proofs.Common.{◌≡◌, Some, rules}
use Rattle.bounded.specs.Items.{items, fitting}
use Rattle.qea.proofs.Admitting.{held_ranged}
use Rattle.qea.proofs.event.Event.new.Goals as goal

pub invariant_of-result : goal.invariant_of-result
invariant_of-result c =
    let vs = c.args.values.now in
    let held : Some (items c.in_ok-held.held) ≡ fitting 4 vs = search rules in
    record { ranged = held_ranged vs (items c.in_ok-held.held) held c.in_default.ensures }
