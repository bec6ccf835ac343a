-- An event holds the values given, and each is in range.
use Rattle.std.proofs.Common.{◌≡◌, true, not, leb, List, length, ℤ, Some, None, sym, ap, ◌∙◌}
use Rattle.std.proofs.lemmas.Bool.{not-false}
use Rattle.std.proofs.lemmas.Option.{cond_some}
use Rattle.std.specs.List.{list_all, position_from}
use Rattle.bounded.specs.Items.{fitting}
use Rattle.qea.specs.Values.{is_value}
use Rattle.qea.proofs.Members.{every_from, any_none, any_missed}

pub held_ranged : (vs held : List ℤ) → Some held ≡ fitting 4 vs → None ≡ position_from (λ v. not (is_value v)) 0 vs → list_all is_value held ≡ true
held_ranged vs held e none =
    ap (list_all is_value) (sym (cond_some (leb (length vs) 4) vs held (sym e)).1)
    ∙ every_from is_value vs (λ v m. not-false (is_value v) (any_none (λ w. not (is_value w)) vs v (any_missed (λ w. not (is_value w)) 0 vs (sym none)) m))
