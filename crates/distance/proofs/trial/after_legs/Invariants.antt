use Rattle.std.proofs.Common.{◌≡◌, ◌-◌}
use Rattle.distance.specs.Distance.{acted_times}
use Rattle.distance.proofs.trial.after_legs.Given as goal

-- the legs that are left bring the row to where all legs bring it
abbrev pub invariant-loop-leg : goal.invariant-loop-leg
invariant-loop-leg g l = acted_times (g.T.Theory.meaning l.rule.theory) 1 (l.legs - l._leg) l.row ≡ acted_times (g.T.Theory.meaning l.rule.theory) 1 l.legs l.initial.row
