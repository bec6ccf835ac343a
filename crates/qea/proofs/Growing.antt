-- A domain with one value more.
use Rattle.std.proofs.Common.{◌≡◌, ◌≤◌, false, ltb, List, [], ◌∷◌, ◌++◌, length, ℤ, Some, None, sym, ap, ◌∙◌, arith}
use Rattle.std.proofs.lemmas.List.{length_push}
use Rattle.std.proofs.lemmas.Bool.{cond-true, cond-false, lt-ltb, ltb-false, false_from_ne_true, both_ways}
use Rattle.std.proofs.lemmas.Option.{none-some}
use Rattle.bounded.specs.Items.{room_at}
use Rattle.std.specs.List.{list_any}
use Rattle.qea.specs.Lists.{Distinct, joined}
use Rattle.std.specs.Ordering.{int_eq}
use Rattle.qea.specs.Domains.{grown}
use Rattle.qea.proofs.Members.{any_at}
use Rattle.qea.proofs.Distincts.{distinct_push}
use Rattle.qea.proofs.Sameness.{same_self}

-- a value that is new stands at no place
pub distinct_more : (d : List ℤ) (v : ℤ) → Distinct d → list_any (λ w. int_eq w v) d ≡ false → Distinct (d ++ v ∷ [])
distinct_more d v distinct none = distinct_push d v distinct (λ m. both_ways (list_any (λ w. int_eq w v) d) none (any_at (λ w. int_eq w v) d v m (same_self v)))

-- no room is left
pub room_gone : (d : List ℤ) → None ≡ room_at 64 d → 64 ≤ length d
room_gone d e = ltb-false (length d) 64 (false_from_ne_true (ltb (length d) 64) (λ t. none-some (length d) (e ∙ cond-true (ltb (length d) 64) (Some (length d)) None t)))

-- a new value for which there is no room
pub grown_full : (d : List ℤ) (v : ℤ) → 64 ≤ length d → list_any (λ w. int_eq w v) d ≡ false → None ≡ grown d v
grown_full d v full none =
    let more : joined int_eq d v ≡ d ++ v ∷ [] = cond-false (list_any (λ w. int_eq w v) d) d (d ++ v ∷ []) none in
    let long = length_push d v in
    sym (cond-true (ltb 64 (length (joined int_eq d v))) None (Some (joined int_eq d v)) (lt-ltb 64 (length (joined int_eq d v)) (omega (arith, ap length more))))
