use Rattle.std.proofs.Common.{◌≡◌, false, sym, ap, ◌∙◌, subst}
use Rattle.std.proofs.lemmas.Int.{to_z-of_z}
use Rattle.std.specs.List.{list_any}
use Rattle.std.specs.Option.{option_map}
use Rattle.std.specs.Ordering.{int_eq}
use Rattle.bounded.specs.Items.{items}
use Rattle.qea.specs.Lists.{Distinct}
use Rattle.qea.specs.DomainValues.{values_of}
use Rattle.qea.proofs.Growing.{grown_full, room_gone, distinct_more}
use Rattle.qea.proofs.domain.Domain.with.Goals as goal

pub returns-in_err-push : goal.returns-in_err-push
returns-in_err-push c =
    let f = c.ranges.value in
    let d = items c.args.self.values in
    let new : list_any (λ w. int_eq w c.args.value) d ≡ false = sym (simp to_z-of_z at c.if-contains.ensures.value ∙ ap (list_any (λ w. int_eq w c.args.value)) c.values.ensures) in
    ap (option_map values_of) c.from_residual.ensures ∙ grown_full d c.args.value (room_gone d c.in_err-push.ensures.place) new

pub invariant_of-result : goal.invariant_of-result
invariant_of-result c =
    let f = c.ranges.value in
    let d = items c.args.self.values in
    let new : list_any (λ w. int_eq w c.args.value) d ≡ false = sym (simp to_z-of_z at c.if-contains.ensures.value ∙ ap (list_any (λ w. int_eq w c.args.value)) c.values.ensures) in
    record { distinct = subst Distinct (sym (simp to_z-of_z at c.in_ok-push.ensures.after)) (distinct_more d c.args.value c.args.self.distinct new) }
