-- What is for good stays so over every longer granted list, and so does the verdict.
use Rattle.std.proofs.Common.{◌≡◌, List, [], ◌++◌, sym, ap, ◌∙◌, inl, inr, ⊎_elim, append-nil}
use Rattle.qea.specs.declared.automaton.Kind.{Kind}
use Rattle.qea.specs.declared.automaton.Kind.TheVariants.{ForAll, Exists}
use Rattle.qea.specs.declared.configuration.Configuration.{Configuration}
use Rattle.qea.specs.Events.{Event}
use Rattle.qea.specs.Meaning.{Meaning}
use Rattle.qea.specs.Automaton.{Automaton}
use Rattle.qea.specs.Domains.{domains}
use Rattle.qea.specs.Bindings.{Binding, BindingOf}
use Rattle.qea.specs.Steps.{configurations}
use Rattle.qea.specs.WellFormed.{WellFormed}
use Rattle.qea.specs.Verdicts.{accepts, accepting, accepted}
use Rattle.qea.specs.Endings.{AllAre, PassingTotal, LostBinding, WonBinding}
use Rattle.qea.specs.Laws.{RejectsLasts, AcceptsLasts, ForGoodLasts}
use Rattle.qea.proofs.Growth.{total_grows, total_binding}
use Rattle.qea.proofs.Chains.{lost_ever, lost_rejects, won_ever, won_accepts}
use Rattle.qea.proofs.Judging.{settles, passing, judged_settled}
use Rattle.qea.proofs.Deciding.{for_good_decides}

module _ (a : Automaton) (m : Meaning) (wf : WellFormed a m) (k : Kind) (P : List Configuration → Type 0) (settled : (gs : List Configuration) → P gs → accepts a gs ≡ settles k) where
  -- all quantifiers are of the kind, and such a binding's list has the property that settles them
  abbrev ForGood : List Event → Type 0
  ForGood h = AllAre k a.quantifiers × ((b : Binding) × PassingTotal a m h b × P (configurations a m b h))

  -- for good, if each binding's list keeps the property
  lasts : (h more : List Event) → ((b : Binding) → BindingOf (domains a h) b → P (configurations a m b h) → P (configurations a m b (h ++ more))) → ForGood h → ForGood (h ++ more) × (accepted a m (h ++ more) ≡ settles k)
  lasts h more keeps g =
      let b = g.1.0 in
      let p = g.1.1 in
      let total = total_grows a h more b p.total in
      let later = keeps b (total_binding (domains a h) b p.total) g.1.2 in (
        (g.0, (b, record { total = total; guards = p.guards }, later)),
        judged_settled m (accepting a m (h ++ more)) k a.quantifiers (domains a (h ++ more)) [] b g.0 total (passing a m h b wf p) (settled (configurations a m b (h ++ more)) later),
      )

pub rejects_lasts : RejectsLasts
rejects_lasts a m wf h more = lasts a m wf ForAll (LostBinding a) (lost_rejects a) h more (λ b _. lost_ever a m b h more)

pub accepts_lasts : AcceptsLasts
accepts_lasts a m wf capacity h more ok = lasts a m wf Exists (WonBinding a) (won_accepts a) h more (λ b i. won_ever a m capacity b h more i ok)

pub for_good_lasts : ForGoodLasts
for_good_lasts a m wf capacity h more ok t =
    let here = ap (accepted a m) (append-nil h) in
    ⊎_elim
    (λ g. let later = rejects_lasts a m wf h more g in ((for_good_decides a m (h ++ more)).1 (inl later.0), later.1 ∙ sym (rejects_lasts a m wf h [] g).1 ∙ here))
    (λ g. let later = accepts_lasts a m wf capacity h more ok g in ((for_good_decides a m (h ++ more)).1 (inr later.0), later.1 ∙ sym (accepts_lasts a m wf capacity h [] tt g).1 ∙ here))
    ((for_good_decides a m h).0 t)
