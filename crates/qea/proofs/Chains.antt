-- A lost binding stays lost, and a won one stays won as long as no action is out of range.
use Rattle.std.proofs.Common.{◌≡◌, ℕ, Bool, true, false, cond, ◌&&◌, eqb, ◌⊎◌, List, [], ◌∷◌, ◌++◌, ℤ, Some, None, Option, sym, refl, ap, ◌∙◌, ap₂, subst, inl, inr, ⊎_elim}
use Rattle.std.specs.List.{slice_get, list_any, flat_map}
use Rattle.std.proofs.lemmas.Bool.{eqb-true, true≢false, false≢true, and_parts, cond_both}
use Rattle.qea.specs.declared.automaton.Transition.{Transition}
use Rattle.qea.specs.declared.configuration.Configuration.{Configuration}
use Rattle.qea.specs.Lists.{In}
use Rattle.std.specs.Option.{is_none}
use Rattle.std.specs.Ordering.{int_eq}
use Rattle.qea.specs.Events.{Event}
use Rattle.qea.specs.Meaning.{Meaning, holds, acted}
use Rattle.qea.specs.Automaton.{Pattern, Automaton}
use Rattle.qea.specs.Matching.{met}
use Rattle.qea.specs.Domains.{domains}
use Rattle.qea.specs.Bindings.{Binding, BindingOf}
use Rattle.qea.specs.Slices.{touches, touched}
use Rattle.qea.specs.Steps.{row, loaded, arrived, tries, outcomes, skips, is_final, settled, step, configurations, same_values, same_configuration}
use Rattle.qea.specs.Verdicts.{final_at, accepts}
use Rattle.qea.specs.Endings.{Leads, stays, goes, final_state, Lost, Won, LostBinding, WonBinding}
use Rattle.qea.specs.Refusals.{GrantedAfter}
use Rattle.qea.proofs.Sameness.{same_is}
use Rattle.qea.proofs.Members.{of_present, in_flat_map, of_flat_map, any_at, any_false}
use Rattle.std.proofs.lemmas.Option.{none-some, same_Some}
use Rattle.qea.proofs.Firsts.{firsts_have, of_firsts}
use Rattle.qea.proofs.Growth.{binding_grows}
use Rattle.qea.proofs.Moving.{moved}
use Rattle.qea.proofs.Granting.{InRange, clear, kept_along}

-- each configuration of the new list comes from one of the old list, by a transition or by none

arrived_state : (q : ℕ) (r : Option (List ℤ)) (f : Configuration) → arrived q r ≡ Some f → q ≡ f.state
arrived_state q None f e = absurd (none-some f e)
arrived_state q (Some r) f e = ap (λ (g : Configuration). g.state) (same_Some _ f e)

tries_lead : (m : Meaning) (b : Binding) (e : Event) (g : Configuration) (t : Transition) (p : Option Pattern) (f : Configuration) → In (Some f) (tries m b e g t p) → (t.from ≡ g.state) × (t.to ≡ f.state)
tries_lead m b e g t None f i = absurd i
tries_lead m b e g t (Some p) f i =
    let r = row b (loaded g.registers (met p e)) in
    cond_both (eqb t.from g.state && touches b p e && holds m t.guard r) (arrived t.to (acted m t.action r) ∷ []) [] (λ os. In (Some f) os → (t.from ≡ g.state) × (t.to ≡ f.state))
    (λ yes k. ⊎_elim (λ j. (eqb-true t.from g.state (and_parts (eqb t.from g.state) _ (and_parts (eqb t.from g.state && touches b p e) _ yes).0).0, arrived_state t.to _ f (sym j))) (λ z. absurd z) k)
    (λ _ k. absurd k)
    i

-- a transition between the states of two configurations
abbrev Transits : Automaton → Configuration → Configuration → Type 0
Transits a g f = (t : Transition) × In t a.transitions × (t.from ≡ g.state) × (t.to ≡ f.state)

outcomes_lead : (a : Automaton) (m : Meaning) (b : Binding) (e : Event) (g f : Configuration) → In (Some f) (outcomes a m b e g) → Transits a g f
outcomes_lead a m b e g f i =
    let r = of_flat_map (λ t. tries m b e g t (slice_get a.patterns t.pattern)) (Some f) a.transitions i in
    let s = tries_lead m b e g r.0 (slice_get a.patterns r.0.pattern) f r.2 in
    (r.0, r.1, s.0, s.1)

of_settled : (a : Automaton) (g : Configuration) (os : List (Option Configuration)) (f : Configuration) → In f (settled a g os) → (f ≡ g) ⊎ In (Some f) os
of_settled a g [] f i = cond_both (skips (slice_get a.states g.state)) (g ∷ []) [] (λ gs. In f gs → (f ≡ g) ⊎ In (Some f) []) (λ _ k. k) (λ _ k. absurd k) i
of_settled a g (o ∷ os) f i = inr (of_present (o ∷ os) f i)

of_step : (a : Automaton) (m : Meaning) (b : Binding) (gs : List Configuration) (e : Event) (f : Configuration) → In f (step a m b gs e) → (g : Configuration) × In g gs × ((f ≡ g) ⊎ Transits a g f)
of_step a m b gs e f i =
    let r = of_flat_map (λ g. settled a g (outcomes a m b e g)) f gs (of_firsts same_configuration (flat_map (λ g. settled a g (outcomes a m b e g)) gs) f i) in
    (r.0, r.1, ⊎_elim inl (λ k. inr (outcomes_lead a m b e r.0 f k)) (of_settled a r.0 (outcomes a m b e r.0) f r.2))

-- what holds of every state that a chain leads to holds after a transition too
onwards : (a : Automaton) (P : ℕ → Type 0) (g f : Configuration) → Transits a g f → ((r : ℕ) → Leads a g.state r → P r) → (r : ℕ) → Leads a f.state r → P r
onwards a P g f k each r chain = each r (goes k.0 k.1 k.2 (subst (λ (n : ℕ). Leads a n r) (sym k.3) chain))

-- what a list has, and its step too, it has after an event
after_one : (a : Automaton) (m : Meaning) (b : Binding) (h : List Event) (e : Event) (P : List Configuration → Type 0) → (P (configurations a m b h) → P (step a m b (configurations a m b h) e)) → P (configurations a m b h) → P (configurations a m b (h ++ e ∷ []))
after_one a m b h e P stepped here = subst P (sym (moved a m b h e)) (cond_both (touched a b e) (step a m b (configurations a m b h) e) (configurations a m b h) P (λ _. stepped here) (λ _. here))

-- lost

lost_step : (a : Automaton) (m : Meaning) (b : Binding) (gs : List Configuration) (e : Event) → LostBinding a gs → LostBinding a (step a m b gs e)
lost_step a m b gs e l f i =
    let r = of_step a m b gs e f i in
    ⊎_elim {C = Lost a f.state} (λ k. subst (λ (x : Configuration). Lost a x.state) (sym k) (l r.0 r.1)) (λ k. onwards a (λ q. final_state a q ≡ false) r.0 f k (l r.0 r.1)) r.2

pub lost_ever : (a : Automaton) (m : Meaning) (b : Binding) (h more : List Event) → LostBinding a (configurations a m b h) → LostBinding a (configurations a m b (h ++ more))
lost_ever a m b h more =
    kept_along (λ x. LostBinding a (configurations a m b x)) (λ _ _. Unit {0}) (λ x _ e _ l. (after_one a m b x e (LostBinding a) (lost_step a m b (configurations a m b x) e) l, tt)) h more tt

pub lost_rejects : (a : Automaton) (gs : List Configuration) → LostBinding a gs → accepts a gs ≡ false
lost_rejects a gs l = any_false (final_at a) gs (λ g i. l g i g.state (stays refl))

-- won

same_values_is : (xs ys : List ℤ) → same_values xs ys ≡ true → xs ≡ ys
same_values_is [] [] t = refl
same_values_is (x ∷ xs) (y ∷ ys) t = let r = and_parts (int_eq x y) (same_values xs ys) t in ap₂ ◌∷◌ (same_is x y r.0) (same_values_is xs ys r.1)
same_values_is xs ys t = absurd (false≢true t)

same_configuration_is : (f g : Configuration) → same_configuration f g ≡ true → f ≡ g
same_configuration_is f g t =
    let r = and_parts (eqb f.state g.state) (same_values f.registers g.registers) t in
    let p = eqb-true f.state g.state r.0 in
    let q = same_values_is f.registers g.registers r.1 in
    λ i. record { state = p i; registers = q i }

won_settled : (a : Automaton) (m : Meaning) (b : Binding) (e : Event) (g : Configuration) → InRange a m b e g → Won a g.state → (f : Configuration) × In f (settled a g (outcomes a m b e g)) × Won a f.state
won_settled a m b e g ranged w = go (outcomes a m b e g) refl
  where
    go : (os : List (Option Configuration)) → outcomes a m b e g ≡ os → (f : Configuration) × In f (settled a g os) × Won a f.state
    go [] eq = (g, subst (λ (s : Bool). In g (cond s (g ∷ []) [])) (sym (and_parts (is_final (slice_get a.states g.state)) _ (w g.state (stays refl))).1) (inl refl), w)
    go (None ∷ os) eq = absurd (true≢false (ap (list_any is_none) (sym eq) ∙ ranged))
    go (Some f ∷ os) eq = (f, inl refl, onwards a _ g f (outcomes_lead a m b e g f (subst (λ (xs : List (Option Configuration)). In (Some f) xs) (sym eq) (inl refl))) w)

won_step : (a : Automaton) (m : Meaning) (b : Binding) (gs : List Configuration) (e : Event) → ((g : Configuration) → In g gs → InRange a m b e g) → WonBinding a gs → WonBinding a (step a m b gs e)
won_step a m b gs e ranged w =
    let r = won_settled a m b e w.0 (ranged w.0 w.1) w.2 in
    (r.0, firsts_have same_configuration same_configuration_is _ r.0 (in_flat_map (λ g. settled a g (outcomes a m b e g)) w.0 r.0 gs w.1 r.1), r.2)

pub won_ever : (a : Automaton) (m : Meaning) (capacity : ℕ) (b : Binding) (h more : List Event) → BindingOf (domains a h) b → GrantedAfter a m capacity h more → WonBinding a (configurations a m b h) → WonBinding a (configurations a m b (h ++ more))
won_ever a m capacity b h more i ok w =
    (kept_along (λ x. BindingOf (domains a x) b × WonBinding a (configurations a m b x)) (GrantedAfter a m capacity)
    (λ x more e ok k.
    let there = binding_grows a x (e ∷ []) b k.0 in
    ((there, after_one a m b x e (WonBinding a) (won_step a m b (configurations a m b x) e ((clear a m capacity x e ok.0).actions b there)) k.1), ok.1))
    h more ok (i, w)).1

pub won_accepts : (a : Automaton) (gs : List Configuration) → WonBinding a gs → accepts a gs ≡ true
won_accepts a gs w = any_at (final_at a) gs w.0 w.1 (and_parts (final_state a w.0.state) _ (w.2 w.0.state (stays refl))).0
